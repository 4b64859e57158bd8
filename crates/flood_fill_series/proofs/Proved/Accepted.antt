-- What a message leaves that is not refused, and where it is not.
use Rattle.std.specs.Prelude.{◌≡◌, refl, Bool, List, ℕ, ◌*◌, ◌≤◌, ◌<◌, ltb, length, take, if◌then◌else◌}
use Rattle.std.proofs.Common.{sym, ◌∙◌, arith}
use Rattle.std.proofs.Math.Bool.{true, false}
use borrow.Author.Tests.{le-ltb, lt-leb, ne_eqb}
use Rattle.words.proofs.ChoiceLaws.{true-is-false}
use Rattle.flood_fill.specs.declared.message.Message.{Message}
use Rattle.flood_fill.specs.declared.message.Message.TheVariants.{Start, BlockStart, BlockData, BlockEnd}
use Rattle.flood_fill.specs.declared.receiver.Receiver.{Receiver}
use Rattle.flood_fill.specs.Limits.{right_size}
use Rattle.flood_fill.specs.Refusals.{is_open, test_block_start, test_block_end, tested, passed}
use Rattle.flood_fill.specs.Answer.{accepted, ignored, missing, done}
use Rattle.flood_fill.specs.Receive.{Result, is_done, lowest_in, result, opening, keeping, block_started, data_came, completed, block_ended, receive}
use Rattle.flood_fill_series.specs.Claims.{NotRefused}
use Rattle.flood_fill_series.proofs.Proved.Ends.{wanted, missing_now, size_now, Ends, refuses, skips, opens, keeps, drops, misses, finishes}

module _ (r : Receiver) (image : List ℕ) where
  -- ---- what it leaves
  pub accepted-opens : (b n : ℕ) (x : Result) → Ends r image (BlockStart b n) x → x.answer ≡ accepted → x.receiver ≡ opening r b n
  accepted-opens b n x (refuses _ k) a = let z : ◌≡◌ {A = ℕ} 0 1 = cc in absurd (omega arith)
  accepted-opens b n x (skips _ _ e) a = let z : ◌≡◌ {A = ℕ} 0 1 = cc in absurd (omega arith)
  accepted-opens b n x (opens _ _ e l s) a = refl

  pub undone-opens : (b n : ℕ) (x : Result) → Ends r image (BlockStart b n) x → is_done r b ≡ false → NotRefused x.answer
      → x.receiver ≡ opening r b n
  undone-opens b n x (refuses _ k) d a = absurd a
  undone-opens b n x (skips _ _ e) d a = true-is-false (sym e ∙ d)
  undone-opens b n x (opens _ _ e l s) d a = refl

  pub data-leaves : (b w v : ℕ) (x : Result) → Ends r image (BlockData b w v) x → NotRefused x.answer
      → x.receiver ≡ (if wanted r b w then keeping r w v else r)
  data-leaves b w v x (refuses _ k) a = absurd a
  data-leaves b w v x (keeps _ _ _ e) a = rw e
  data-leaves b w v x (drops _ _ _ e) a = rw e

  pub whole-done : (b : ℕ) (x : Result) → Ends r image (BlockEnd b) x → missing_now r ≡ 0 → NotRefused x.answer → x.answer ≡ done
  whole-done b x (refuses _ k) e a = absurd a
  whole-done b x (misses _ l h) e a = absurd (omega arith)
  whole-done b x (finishes _ l o h) e a = refl

  -- ---- where it is not refused
  goes-on : (m : Message) → tested r.header m (length image) ≡ passed → NotRefused (receive r image m).answer
  unfolding receive block_started data_came completed block_ended
  goes-on (Start last n) e = rw e tt
  goes-on (BlockStart b n) e = rw e (go (is_done r b))
    where
      go : (t : Bool) → NotRefused (if t then result r image ignored else result (opening r b n) image accepted).answer
      go true = tt
      go false = tt
  goes-on (BlockData b w v) e = rw e (go (wanted r b w))
    where
      go : (t : Bool) → NotRefused (if t then result (keeping r w v) image accepted else result r image ignored).answer
      go true = tt
      go false = tt
  goes-on (BlockEnd b) e = rw e (go (ltb 0 (missing_now r)) (lowest_in (take (size_now r) r.marks)))
    where
      go : (t : Bool) (l : ℕ) → NotRefused (if t then result r image (missing (missing_now r) l) else completed r image b (size_now r)).answer
      go true l = tt
      go false l = tt

  module _ (room : 4 * (r.header.count * r.header.size) ≤ length image) where
    long : ltb (length image) (4 * (r.header.count * r.header.size)) ≡ false
    long = le-ltb (length image) (4 * (r.header.count * r.header.size)) room

    pub block-start-passes : (b n : ℕ) → b < r.header.count → right_size r.header.count r.header.size b n ≡ true
        → NotRefused (receive r image (BlockStart b n)).answer
    unfolding tested test_block_start
    block-start-passes b n h s =
        goes-on (BlockStart b n) (simp (long, ne_eqb r.header.count 0 (λ z. omega arith), lt-leb r.header.count b h, s))

    pub data-passes : (b w v : ℕ) → NotRefused (receive r image (BlockData b w v)).answer
    unfolding tested
    data-passes b w v = goes-on (BlockData b w v) (simp long)

    pub block-end-passes : (b : ℕ) → is_open r.header.opened b ≡ true → NotRefused (receive r image (BlockEnd b)).answer
    unfolding tested test_block_end
    block-end-passes b o = goes-on (BlockEnd b) (simp (long, o))
