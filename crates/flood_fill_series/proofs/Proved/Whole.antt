-- A pass over the blocks that are not yet done: the third claim.
use Rattle.std.specs.Prelude.{◌≡◌, Bool, ℕ, suc, ◌*◌, ◌≤◌}
use Rattle.std.proofs.Math.Path.{refl, ap, sym}
use Rattle.std.proofs.Common.{◌∙◌, arith, take-append-drop, eq-eqb}
use Rattle.std.proofs.Math.Bool.{true, false}
use mathlib.Core.List.{List, [], ◌∷◌, ◌++◌}
use Rattle.std.proofs.Math.Nat.{zero-add}
use Rattle.std.proofs.Math.ListN.{length}
use Rattle.words.specs.Choice.{All}
use Rattle.words.proofs.ChoiceLaws.{all_map}
use Rattle.words.specs.Store.{store}
use Rattle.flood_fill.specs.declared.message.Message.{Message}
use Rattle.flood_fill.specs.declared.message.Message.TheVariants.{Start, BlockStart, BlockData, BlockEnd}
use Rattle.flood_fill.specs.declared.receiver.Receiver.{Receiver}
use Rattle.flood_fill.specs.Limits.{right_size}
use Rattle.flood_fill.specs.Refusals.{is_open}
use Rattle.flood_fill.specs.Receive.{Result, afresh, empty, is_done, word_bytes, opening, receive}
use Rattle.flood_fill_series.specs.Claims.{after, NotRefused, Held, leaves, held_after, Image, block_of, OfImage, DataOf, EveryWord, Visited, StandsWhole, LeavesWhole}
use Rattle.flood_fill_series.proofs.Proved.Ends.{Ends, refuses, begins, ends}
use Rattle.flood_fill_series.proofs.Proved.Accepted.{undone-opens, whole-done, block-start-passes, data-passes, block-end-passes}
use Rattle.flood_fill_series.proofs.Proved.Noted.{message-noted}
use Rattle.flood_fill_series.proofs.Proved.Filled.{noted_all, Filled, noted-all}
use Rattle.flood_fill_series.proofs.Proved.Blocks.{filled-open, filled-whole, done-done}
use Rattle.flood_fill_series.proofs.Proved.Places.{Blocks, Stands, right-size, whole-image}
use Rattle.flood_fill_series.proofs.Proved.Agrees.{Agrees, begun}
use Rattle.flood_fill_series.proofs.Proved.Steps.{agrees-leaves, agrees_after, stands_after}

-- ---- lists of messages
held-append : (h : Held) (xs ys : List Message) → held_after receive h (xs ++ ys) ≡ held_after receive (held_after receive h xs) ys
unfolding held_after
held-append h [] ys = refl
held-append h (x ∷ xs) ys = held-append (leaves receive h x) xs ys

all-front : {A : Type 0} (P : A → Type 0) (xs ys : List A) → All P (xs ++ ys) → All P xs
all-front P [] ys a = tt
all-front P (x ∷ xs) ys a = (a.0, all-front P xs ys a.1)

all_back : {A : Type 0} (P : A → Type 0) (xs ys : List A) → All P (xs ++ ys) → All P ys
all_back P [] ys a = a
all_back P (x ∷ xs) ys a = all_back P xs ys a.1

of-data : (i : Image) (m : Message) → DataOf i m → OfImage i m
of-data i (Start l n) d = absurd d
of-data i (BlockStart b n) d = absurd d
of-data i (BlockData b w v) d = d
of-data i (BlockEnd b) d = absurd d

module _ (i : Image) (last : ℕ) (f : Blocks i last) (m₀ : List ℕ) (room : 4 * (suc last * i.size) ≤ length m₀) where
  long : (h : Held) → Agrees i last m₀ h → 4 * (h.receiver.header.count * h.receiver.header.size) ≤ length h.image
  long h a = rw (a.count, a.size, a.image-length) room

  -- ---- a visit completes its block
  held-noted : (h : Held) (ms : List Message) → Agrees i last m₀ h → All (DataOf i) ms → (held_after receive h ms).receiver ≡ noted_all h.receiver ms
  unfolding held_after noted_all
  held-noted h [] a d = refl
  held-noted h (Start l n ∷ ms) a d = absurd d.0
  held-noted h (BlockStart b n ∷ ms) a d = absurd d.0
  held-noted h (BlockEnd b ∷ ms) a d = absurd d.0
  held-noted h (BlockData b w v ∷ ms) a d =
      let m = BlockData b w v in
      held-noted (leaves receive h m) ms (agrees-leaves i last f m₀ h m a d.0) d.1
      ∙ ap (λ (x : Receiver). noted_all x ms)
      (message-noted i h.receiver h.image m d.0 (data-passes h.receiver h.image (long h a) b w v))

  visit-done : (h : Held) (b : ℕ) → Agrees i last m₀ h → b ≤ last → is_done h.receiver b ≡ false → (words : List Message)
      → All (DataOf i) words → EveryWord b (length (block_of i b)) words
      → is_done (leaves receive (held_after receive (leaves receive h (BlockStart b (length (block_of i b)))) words) (BlockEnd b)).receiver b ≡ true
  visit-done h b a inside undone words d whole =
      let r = h.receiver in
      let n = length (block_of i b) in
      let m = BlockStart b n in
      let o = leaves receive h m in
      let y = held_after receive o words in
      let a₁ = agrees-leaves i last f m₀ h m a refl in
      let a₂ = agrees_after i last f m₀ o words a₁ (all_map (DataOf i) (OfImage i) words (of-data i) d) in
      let size : right_size r.header.count r.header.size b n ≡ true = rw (a.count, a.size) (right-size i last f b inside) in
      let passes = block-start-passes r h.image (long h a) b n (omega (arith, a.count)) size in
      let opened : o.receiver ≡ opening r b n = undone-opens r h.image b n (receive r h.image m) (ends r h.image m) undone passes in
      let e : y.receiver ≡ noted_all (opening r b n) words = held-noted o words a₁ d ∙ ap (λ (x : Receiver). noted_all x words) opened in
      let g : Filled i b n words (opening r b n) y.receiver = rw e (noted-all i b n (opening r b n) words refl d) in
      let is_open_lem : is_open y.receiver.header.opened b ≡ true = rw (filled-open i b n words r y.receiver g) (eq-eqb b b refl) in
      let last-ends = ends y.receiver y.image (BlockEnd b) in
      done-done y.receiver y.image b (receive y.receiver y.image (BlockEnd b)) last-ends
      (whole-done y.receiver y.image b (receive y.receiver y.image (BlockEnd b)) last-ends (filled-whole i b n words r y.receiver g whole)
      (block-end-passes y.receiver y.image (long y a₂) b is_open_lem))

  visited-stands : (h : Held) (pass : List Message) (b : ℕ) → Agrees i last m₀ h → All (OfImage i) pass → b ≤ last → Visited i b pass
      → Stands i b (held_after receive h pass).image
  unfolding held_after
  visited-stands h pass b a p inside v =
      let part = BlockStart b (length (block_of i b)) ∷ (v.middle ++ (BlockEnd b ∷ v.back)) in
      let q : All (OfImage i) (v.front ++ part) = rw v.whole at p in
      let h₁ = held_after receive h v.front in
      let a₁ = agrees_after i last f m₀ h v.front a (all-front (OfImage i) v.front part q) in
      rw (v.whole, held-append h v.front part) (go h₁ a₁ (is_done h₁.receiver b) refl (all_back (OfImage i) v.front part q))
    where
      go : (h₁ : Held) → Agrees i last m₀ h₁ → (t : Bool) → is_done h₁.receiver b ≡ t
          → All (OfImage i) (BlockStart b (length (block_of i b)) ∷ (v.middle ++ (BlockEnd b ∷ v.back)))
          → Stands i b (held_after receive h₁ (BlockStart b (length (block_of i b)) ∷ (v.middle ++ (BlockEnd b ∷ v.back)))).image
      go h₁ a₁ true e q =
          stands_after i last f m₀ h₁ (BlockStart b (length (block_of i b)) ∷ (v.middle ++ (BlockEnd b ∷ v.back))) b a₁ q (a₁.done-agrees b inside e)
      go h₁ a₁ false e q =
          let o = leaves receive h₁ (BlockStart b (length (block_of i b))) in
          let y = held_after receive o v.middle in
          let z = leaves receive y (BlockEnd b) in
          let a₂ = agrees-leaves i last f m₀ h₁ (BlockStart b (length (block_of i b))) a₁ refl in
          let a₃ = agrees_after i last f m₀ o v.middle a₂ (all-front (OfImage i) v.middle (BlockEnd b ∷ v.back) q.1) in
          let a₄ = agrees-leaves i last f m₀ y (BlockEnd b) a₃ tt in
          rw (held-append o v.middle (BlockEnd b ∷ v.back))
          (stands_after i last f m₀ z v.back b a₄ (all_back (OfImage i) v.middle (BlockEnd b ∷ v.back) q.1).1
          (a₄.done-agrees b inside (visit-done h₁ b a₁ inside e v.middle v.data-only v.every-word)))

  -- ---- an image in which every block stands
  all-stand : (h : Held) → Agrees i last m₀ h → ((b : ℕ) → b ≤ last → Stands i b h.image) → StandsWhole i m₀ h.image
  unfolding store
  all-stand h a d =
      let n = length (word_bytes i.words) in
      let e = whole-image i last f h.image d in
      record {
        room = omega (arith, f.high);
        stored = sym (take-append-drop n h.image) ∙ rw (e, a.rest, zero-add n);
      }

-- ---- the claim
pub leaves-whole : LeavesWhole receive
leaves-whole i earlier lent last n before pass u (e, low, high) p q visits =
    go (receive (after receive empty earlier) lent (Start last n)) (ends (after receive empty earlier) lent (Start last n)) u visits
  where
    each : (f : Blocks i last) (room : 4 * (suc last * i.size) ≤ length lent) (h : Held) → Agrees i last lent h → (b : ℕ) → b ≤ last → (t : Bool)
        → is_done h.receiver b ≡ t → (is_done h.receiver b ≡ false → Visited i b pass) → Stands i b (held_after receive h pass).image
    each f room h a b g true d v = stands_after i last f lent h pass b a q (a.done-agrees b g d)
    each f room h a b g false d v = visited-stands i last f lent room h pass b a q g (v d)

    go : (s : Result) → Ends (after receive empty earlier) lent (Start last n) s → NotRefused s.answer
        → ((b : ℕ) → b ≤ last → is_done (held_after receive (record { receiver = s.receiver; image = s.image }) before).receiver b ≡ false → Visited i b pass)
        → StandsWhole i lent (held_after receive (held_after receive (record { receiver = s.receiver; image = s.image }) before) pass).image
    go s (refuses _ k) u v = absurd u
    go s (begins _ _ h l) u v =
        let f : Blocks i last =
        record {
          size_low = omega (arith, l.size_low);
          size-high = omega (arith, l.size-high);
          count-high = l.count-high;
          low = rw (sym e) low;
          high = rw (sym e) high;
        }
        in
        let room : 4 * (suc last * i.size) ≤ length lent = rw (sym e) h in
        let h₀ : Held = record { receiver = afresh (suc last) n; image = lent } in
        let h₁ = held_after receive h₀ before in
        let a₁ = agrees_after i last f lent h₀ before (begun i last f lent lent refl refl n e) p in
        let a₂ = agrees_after i last f lent h₁ pass a₁ q in
        all-stand i last f lent room (held_after receive h₁ pass) a₂ (λ b g. each f room h₁ a₁ b g (is_done h₁.receiver b) refl (v b g))
