-- How a call can end, and what is then known.
use Rattle.std.specs.Prelude.{◌≡◌, Bool, not, ◌&&◌, List, ℕ, suc, ◌*◌, ◌≤◌, ◌<◌, eqb, length, take, if◌then◌else◌, Option, Some, None, Err}
use Rattle.std.proofs.Math.Path.{refl}
use Rattle.std.proofs.Common.{sym, ap, arith}
use Rattle.std.proofs.Math.Bool.{true, false}
use Rattle.std.proofs.Math.Dec.{ltb, leb}
use borrow.Author.Tests.{leb-false, ltb-true, ltb-false, eqb-true}
use Rattle.words.proofs.ChoiceLaws.{true-is-false}
use Rattle.words.specs.Store.{store_if_fits}
use Rattle.flood_fill.specs.declared.message.Message.{Message}
use Rattle.flood_fill.specs.declared.message.Message.TheVariants.{Start, BlockStart, BlockData, BlockEnd}
use Rattle.flood_fill.specs.declared.header.Block.{Block}
use Rattle.outcome.specs.declared.refusal.Cause.TheVariants.{ImageTooShort, OutsideLimits, NoStart, NoSuchBlock, WrongSize, NotOpen}
use Rattle.flood_fill.specs.declared.receiver.Receiver.{Receiver}
use Rattle.flood_fill.specs.Limits.{within_limits, right_size}
use Rattle.flood_fill.proofs.LimitsLaws.{Limits, limits, size-bounds}
use Rattle.flood_fill.specs.Refusals.{is_open, open_size, is_wanted, is_short, test_start, test_block_start, test_block_end, tested, opened_block, passed}
use Rattle.flood_fill.specs.Answer.{refused, accepted, ignored, missing, done}
use Rattle.flood_fill.specs.Receive.{Result, afresh, is_done, is_marked, missing_in, lowest_in, word_bytes, result, opening, keeping, completing, block_started, data_came, completed, block_ended, result_at, receive}

-- ---- the open block
-- its ID; 0 where none is open
abbrev pub open_id : Option Block → ℕ
open_id None = 0
open_id (Some k) = k.block

pub the_open : (o : Option Block) (b : ℕ) → is_open o b ≡ true → o ≡ opened_block b (open_size o)
the_open None b e = true-is-false (sym e)
the_open (Some k) b e = ap (λ c. opened_block c k.size) (eqb-true k.block b e)

-- its own size, how many of its marks are empty, and whether a word is kept
abbrev pub size_now : Receiver → ℕ
size_now r = open_size r.header.opened

abbrev pub missing_now : Receiver → ℕ
missing_now r = missing_in (take (size_now r) r.marks)

abbrev pub wanted : Receiver → ℕ → ℕ → Bool
wanted r b w = is_wanted r.header.opened b w && not (is_marked r w)

-- the image with its words at block b's place
abbrev pub stored_at : Receiver → List ℕ → ℕ → List ℕ
stored_at r image b = store_if_fits image (4 * (b * r.header.size)) (word_bytes (take (size_now r) r.words))

-- ---- the ends
module _ (r : Receiver) (image : List ℕ) where
  pub data Ends : Message → Result → Type 0 where
    refuses : (m : Message) (k : ℕ) → Ends m (result r image (refused k 0))
    begins : (last n : ℕ) → 4 * (suc last * n) ≤ length image → Limits (suc last) n → Ends (Start last n) (result (afresh (suc last) n) image accepted)
    skips : (b n : ℕ) → is_done r b ≡ true → Ends (BlockStart b n) (result r image ignored)
    opens : (b n : ℕ) → is_done r b ≡ false → b < r.header.count → n ≤ r.header.size → Ends (BlockStart b n) (result (opening r b n) image accepted)
    keeps : (b w v : ℕ) → wanted r b w ≡ true → Ends (BlockData b w v) (result (keeping r w v) image accepted)
    drops : (b w v : ℕ) → wanted r b w ≡ false → Ends (BlockData b w v) (result r image ignored)
    misses : (b l : ℕ) → 0 < missing_now r → Ends (BlockEnd b) (result r image (missing (missing_now r) l))
    finishes : (b : ℕ) → 4 * (r.header.count * r.header.size) ≤ length image → is_open r.header.opened b ≡ true → missing_now r ≡ 0
        → Ends (BlockEnd b) (result (completing r b) (stored_at r image b) done)

  start-ends : (last n : ℕ) → Ends (Start last n) (receive r image (Start last n))
  unfolding receive tested test_start
  start-ends last n = go (is_short r.header (Start last n) (length image)) refl (within_limits (suc last) n) refl
    where
      go : (s : Bool) → is_short r.header (Start last n) (length image) ≡ s → (t : Bool) → within_limits (suc last) n ≡ t
          → Ends (Start last n) (result_at (if s then Err ImageTooShort else if t then passed else Err OutsideLimits) r image (Start last n))
      go true e t f = refuses (Start last n) 24
      go false e true f = begins last n (ltb-false (length image) (4 * (suc last * n)) e) (limits (suc last) n f)
      go false e false f = refuses (Start last n) 25

  block-start-ends : (b n : ℕ) → Ends (BlockStart b n) (receive r image (BlockStart b n))
  unfolding receive tested test_block_start block_started
  block-start-ends b n =
      go (is_short r.header (BlockStart b n) (length image)) (eqb r.header.count 0) (leb r.header.count b) refl
      (right_size r.header.count r.header.size b n) refl (is_done r b) refl
    where
      go : (s z l : Bool) → leb r.header.count b ≡ l → (g : Bool) → right_size r.header.count r.header.size b n ≡ g → (d : Bool)
          → is_done r b ≡ d
          → Ends (BlockStart b n)
          (result_at (if s then Err ImageTooShort else if z then Err NoStart else if l then Err NoSuchBlock else if g then passed else Err WrongSize) r image (BlockStart b n))
      go true z l e g f d h = refuses (BlockStart b n) 24
      go false true l e g f d h = refuses (BlockStart b n) 26
      go false false true e g f d h = refuses (BlockStart b n) 27
      go false false false e false f d h = refuses (BlockStart b n) 28
      go false false false e true f true h = rw h (skips b n h)
      go false false false e true f false h =
          rw h (opens b n h (leb-false r.header.count b e) (size-bounds r.header.count r.header.size b n f).1)

  data-ends : (b w v : ℕ) → Ends (BlockData b w v) (receive r image (BlockData b w v))
  unfolding receive tested data_came
  data-ends b w v = go (is_short r.header (BlockData b w v) (length image)) (wanted r b w) refl
    where
      go : (s t : Bool) → wanted r b w ≡ t → Ends (BlockData b w v) (result_at (if s then Err ImageTooShort else passed) r image (BlockData b w v))
      go true t e = refuses (BlockData b w v) 24
      go false true e = rw e (keeps b w v e)
      go false false e = rw e (drops b w v e)

  block-end-ends : (b : ℕ) → Ends (BlockEnd b) (receive r image (BlockEnd b))
  unfolding receive tested test_block_end block_ended completed
  block-end-ends b =
      go (is_short r.header (BlockEnd b) (length image)) refl (is_open r.header.opened b) refl (ltb 0 (missing_now r)) refl
    where
      go : (s : Bool) → is_short r.header (BlockEnd b) (length image) ≡ s → (o : Bool) → is_open r.header.opened b ≡ o → (t : Bool)
          → ltb 0 (missing_now r) ≡ t
          → Ends (BlockEnd b) (result_at (if s then Err ImageTooShort else if o then passed else Err NotOpen) r image (BlockEnd b))
      go true e o f t g = refuses (BlockEnd b) 24
      go false e false f t g = refuses (BlockEnd b) 29
      go false e true f true g = rw g (misses b (lowest_in (take (size_now r) r.marks)) (ltb-true 0 (missing_now r) g))
      go false e true f false g =
          let h = ltb-false 0 (missing_now r) g in
          rw g (finishes b (ltb-false (length image) (4 * (r.header.count * r.header.size)) e) f (omega arith))

  pub ends : (m : Message) → Ends m (receive r image m)
  ends (Start last n) = start-ends last n
  ends (BlockStart b n) = block-start-ends b n
  ends (BlockData b w v) = data-ends b w v
  ends (BlockEnd b) = block-end-ends b
