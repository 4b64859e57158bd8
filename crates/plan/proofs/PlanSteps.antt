-- Reading pieces: a step at a time, and what the rows of pieces that were read are.
use Rattle.std.specs.Prelude.{◌≡◌, refl, get_or}
use Rattle.std.proofs.Math.Path.{ap}
use Rattle.std.proofs.Common.{sym, add-zero}
use mathlib.Core.List.{List, [], ◌∷◌}
use Prim.Native.Nat.{ℕ, zero, suc, ◌+◌, ◌-◌, ◌≤◌, ◌<◌}
use Rattle.std.proofs.Math.Numerals.{add-one}
use native.Mathlib.Omega.{arith}
use Rattle.std.proofs.Math.ListN.{length}
use Rattle.words.specs.Choice.{All}
use Rattle.plan.specs.Plan.{Piece, Row, piece_in, Judged, good, bad, piece_at, Read, refused, pieces, before, next, read_pieces}

-- ---- one step of reading k pieces, at the piece with index i
module _ (unit : ℕ) (s : List ℕ) (k i : ℕ) where
  pub read-good : {row : Row} → i < k → piece_at unit s i ≡ good row
      → read_pieces unit s (k - i) i ≡ before (piece_in s row) (read_pieces unit s (k - (i + 1)) (i + 1))
  unfolding read_pieces
  read-good h e = let z : k - i ≡ suc (k - (i + 1)) = omega arith in rw (z, e, add-one i)

  pub read-bad : {n : ℕ} → i < k → piece_at unit s i ≡ bad n → read_pieces unit s (k - i) i ≡ refused n i
  unfolding read_pieces
  read-bad h e = let z : k - i ≡ suc (k - (i + 1)) = omega arith in rw (z, e)

  pub read-end : k ≤ i → read_pieces unit s (k - i) i ≡ pieces []
  unfolding read_pieces
  read-end h = let z : k - i ≡ 0 = omega arith in rw z

-- ---- a row or a piece and a refusal differ
pub refused-no-pieces : {n i : ℕ} {ps : List Piece} → refused n i ≡ pieces ps → ⊥
refused-no-pieces e = let z : ◌≡◌ {A = ℕ} 0 1 = cc in omega arith

pub bad-no-good : {n : ℕ} {row : Row} → bad n ≡ good row → ⊥
bad-no-good e = let z : ◌≡◌ {A = ℕ} 0 1 = cc in omega arith

-- ---- pieces that were read
-- the row of the first, and the others
pub record First (s : List ℕ) (j : Judged) (r : Read) (ps : List Piece) : Type 0 where
  pub row : Row
  pub others : List Piece
  pub is-good : j ≡ good row
  pub is_read : r ≡ pieces others
  pub whole : ps ≡ piece_in s row ∷ others

first : (s : List ℕ) (j : Judged) (i : ℕ) (r : Read) {ps : List Piece} → next s j i r ≡ pieces ps → First s j r ps
first s (good row) i (pieces qs) e = record { row = row; others = qs; is-good = refl; is_read = refl; whole = cc }
first s (good row) i (refused n j) e = absurd (refused-no-pieces e)
first s (bad n) i r e = absurd (refused-no-pieces e)

module _ (unit : ℕ) (s : List ℕ) where
  pub first_read : (k i : ℕ) {ps : List Piece} → read_pieces unit s (suc k) i ≡ pieces ps → First s (piece_at unit s i) (read_pieces unit s k (suc i)) ps
  unfolding read_pieces
  first_read k i e = first s (piece_at unit s i) i (read_pieces unit s k (suc i)) e

  pub pieces-count : (k i : ℕ) {ps : List Piece} → read_pieces unit s k i ≡ pieces ps → length ps ≡ k
  unfolding read_pieces
  pieces-count zero i {ps} e = let z : [] ≡ ps = cc in ap length (sym z)
  pieces-count (suc k) i e = let f = first_read k i e in rw f.whole (ap suc (pieces-count k (suc i) f.is_read))

  pub pieces-each :
      (P : Piece → Type 0) → ((i : ℕ) (row : Row) → piece_at unit s i ≡ good row → P (piece_in s row))
      → (k i : ℕ) {ps : List Piece} → read_pieces unit s k i ≡ pieces ps → All P ps
  unfolding read_pieces
  pieces-each P h zero i {ps} e = let z : [] ≡ ps = cc in rw (sym z) tt
  pieces-each P h (suc k) i e =
      let f = first_read k i e in
      rw f.whole (h i f.row f.is-good, pieces-each P h k (suc i) f.is_read)

  -- the row of a piece p with index i
  pub record RowAt (i : ℕ) (p : Piece) : Type 0 where
    pub row : Row
    pub is-good : piece_at unit s i ≡ good row
    pub is-piece : p ≡ piece_in s row

  pub pieces-at :
      (k i : ℕ) {ps : List Piece} → read_pieces unit s k i ≡ pieces ps
      → (n : ℕ) → n < length ps → (d : Piece) → RowAt (i + n) (get_or ps n d)
  pieces-at zero i e n h d = let z = pieces-count zero i e in absurd (omega arith)
  pieces-at (suc k) i e zero h d =
      let f = first_read k i e in
      rw (f.whole, add-zero i) (record { row = f.row; is-good = f.is-good; is-piece = refl })
  pieces-at (suc k) i e (suc n) h d =
      let f = first_read k i e in
      let z : i + suc n ≡ suc i + n = omega arith in
      rw (f.whole, z) (pieces-at k (suc i) f.is_read n (omega (arith, ap length f.whole)) d)
