-- Laws of reading a plan to be compared: a step at a time, and what a plan that was read is.
use Rattle.std.specs.Prelude.{◌≡◌, refl, false, length, take, drop}
use Rattle.std.proofs.Common.{sym, ltb-false}
use mathlib.Core.List.{List, [], ◌∷◌}
use Prim.Native.Nat.{ℕ, zero, suc, ◌+◌, ◌-◌, ◌≤◌, ◌<◌}
use Rattle.std.proofs.Math.Numerals.{add-one}
use native.Mathlib.Omega.{arith}
use Rattle.words.specs.Choice.{All}
use Rattle.words.proofs.ChoiceLaws.{from-else}
use Rattle.word_blocks.proofs.RepeatLaws.{length-filling}
use Rattle.plan.specs.Plan.{Piece, put, fill, run, count_of, Row, put_row, fill_row, run_row, piece_in, Judged, good, bad, piece_at, Read, refused, pieces, before, next, read_pieces, read_plan}
use Rattle.plan.proofs.PlanSteps.{refused-no-pieces, bad-no-good}
use Rattle.plan.proofs.PlanLaws.{headed-pieces}
use Rattle.plan.proofs.PlanAccepts.{header_read}
use Rattle.plan.specs.Meaning.{stretch, stored_by}
use Rattle.compare.specs.LastByte.{covers}
use Rattle.compare.specs.LastByte.Laws.{covers-past, covers-run}
use Rattle.compare.specs.Reading.{addresses, ends_past, judge_last, EndsBy, compared_at, compared_pieces, read_compared}

-- ---- one step of reading k pieces, at the piece with index i
module _ (s : List ℕ) (k i : ℕ) where
  pub compared-good : {row : Row} → i < k → compared_at s i ≡ good row → compared_pieces s (k - i) i ≡ before (piece_in s row) (compared_pieces s (k - (i + 1)) (i + 1))
  unfolding compared_pieces
  compared-good h e = let z : k - i ≡ suc (k - (i + 1)) = omega arith in rw (z, e, add-one i)

  pub compared-bad : {n : ℕ} → i < k → compared_at s i ≡ bad n → compared_pieces s (k - i) i ≡ refused n i
  unfolding compared_pieces
  compared-bad h e = let z : k - i ≡ suc (k - (i + 1)) = omega arith in rw (z, e)

  pub compared-end : k ≤ i → compared_pieces s (k - i) i ≡ pieces []
  unfolding compared_pieces
  compared-end h = let z : k - i ≡ 0 = omega arith in rw z

-- ---- a row that passed the last test
-- it ends in the address space; a run stores nothing
abbrev RowEnds : Row → Type 0
RowEnds (put_row a o n) = a + n ≤ addresses
RowEnds (fill_row a n w) = a + n ≤ addresses
RowEnds (run_row a) = Unit {0}

last-good : (j : Judged) {row : Row} → judge_last j ≡ good row → (j ≡ good row) × RowEnds row
last-good (good (put_row a o n)) {row} e =
    let f = from-else (ends_past a n) bad-no-good e in
    let z : put_row a o n ≡ row = cc f.1 in
    rw (sym z) (refl, ltb-false _ _ f.0)
last-good (good (fill_row a n w)) {row} e =
    let f = from-else (ends_past a n) bad-no-good e in
    let z : fill_row a n w ≡ row = cc f.1 in
    rw (sym z) (refl, ltb-false _ _ f.0)
last-good (good (run_row a)) {row} e = let z : run_row a ≡ row = cc in rw (sym z) (refl, tt)
last-good (bad n) e = absurd (bad-no-good e)

take-most : (n : ℕ) (l : List ℕ) → length (take n l) ≤ n
take-most zero l = omega arith
take-most (suc n) [] = omega arith
take-most (suc n) (x ∷ l) = omega (arith, take-most n l)

row_ends : (s : List ℕ) (row : Row) → RowEnds row → EndsBy addresses (piece_in s row)
row_ends s (put_row a o n) h = omega (arith, h, take-most n (drop o s))
row_ends s (fill_row a n w) h = h
row_ends s (run_row a) h = tt

-- at its end and past it nothing is stored
pub ends-past : (b x : ℕ) (p : Piece) → b ≤ x → EndsBy b p → covers p x ≡ false
unfolding stored_by
ends-past b x (put a d) h e = covers-past (put a d) x (omega (arith, e))
ends-past b x (fill a n w) h e = covers-past (fill a n w) x (omega (arith, e, length-filling n w))
ends-past b x (run a) h e = covers-run a x

-- ---- a plan that was read
-- the reader of plans accepts it with the same pieces, and each ends in the address space
pub record Readable (s : List ℕ) (ps : List Piece) : Type 0 where
  pub accepted : read_plan 1 s ≡ pieces ps
  pub ends : All (EndsBy addresses) ps

module _ (s : List ℕ) where
  first_piece : (j : Judged) (i : ℕ) (r q : Read) {ps : List Piece} → next s (judge_last j) i r ≡ pieces ps
      → ((qs : List Piece) → r ≡ pieces qs → (q ≡ pieces qs) × All (EndsBy addresses) qs) → (next s j i q ≡ pieces ps) × All (EndsBy addresses) ps
  first_piece j i r q {ps} e f = go (judge_last j) refl r e f
    where
      go : (l : Judged) → judge_last j ≡ l → (r : Read) → next s l i r ≡ pieces ps → ((qs : List Piece) → r ≡ pieces qs → (q ≡ pieces qs) × All (EndsBy addresses) qs)
          → (next s j i q ≡ pieces ps) × All (EndsBy addresses) ps
      go (good row) k (pieces qs) e f =
          let g = last-good j k in
          let h = f qs refl in
          let z : piece_in s row ∷ qs ≡ ps = cc in
          rw (g.0, h.0, sym z) (refl, (row_ends s row g.1, h.1))
      go (good row) k (refused n m) e f = absurd (refused-no-pieces e)
      go (bad n) k r e f = absurd (refused-no-pieces e)

  pieces-readable : (k i : ℕ) (ps : List Piece) → compared_pieces s k i ≡ pieces ps → (read_pieces 1 s k i ≡ pieces ps) × All (EndsBy addresses) ps
  unfolding compared_pieces compared_at read_pieces
  pieces-readable zero i ps e = let z : [] ≡ ps = cc in rw (sym z) (refl, tt)
  pieces-readable (suc k) i ps e =
      first_piece (piece_at 1 s i) i (compared_pieces s k (suc i)) (read_pieces 1 s k (suc i)) e (λ qs f. pieces-readable k (suc i) qs f)

  pub readable : {ps : List Piece} → read_compared s ≡ pieces ps → Readable s ps
  unfolding read_compared
  readable {ps} e =
      let h = headed-pieces s (λ k. compared_pieces s k 0) e in
      let p = h.0 in
      let r = pieces-readable (count_of s) 0 ps h.1 in
      record {
        accepted = header_read 1 s (record { long = p.long; few = p.few; table = p.table; data-inside = p.data-inside; rest = r.0 });
        ends = r.1;
      }

-- ---- the stretch from index 0
pub stretch-all : (P : Piece → Type 0) (ps : List Piece) → All P ps → All P (stretch ps)
unfolding stretch
stretch-all P [] h = tt
stretch-all P (put a d ∷ ps) h = (h.0, stretch-all P ps h.1)
stretch-all P (fill a n w ∷ ps) h = (h.0, stretch-all P ps h.1)
stretch-all P (run a ∷ ps) h = (h.0, tt)
