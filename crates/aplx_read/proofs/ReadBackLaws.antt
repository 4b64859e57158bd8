-- Laws of reading an image back: one entry at a time, the rows of the pieces that were read, and the plan.
use Rattle.std.specs.Prelude.{◌≡◌, refl, List, [], ◌∷◌, ℕ, zero, suc, ◌+◌, ◌-◌, ◌*◌, ◌≤◌, ◌<◌, ltb, eqb, length, get_or}
use Rattle.std.proofs.Common.{add-zero, zero-add, arith}
use Rattle.std.proofs.Math.Numerals.{add-one}
use Rattle.words.proofs.ChoiceLaws.{from-else, from_either}
use Rattle.words.specs.Bytes.{little_endian_at}
use Rattle.plan.specs.Plan.{Piece, Row, piece_in, Read, refused, pieces, before}
use Rattle.plan.proofs.PlanSteps.{refused-no-pieces}
use Rattle.plan.specs.Packed.{packs}
use Rattle.plan.proofs.PackedLaws.{Fitting, accepted-facts, fitting-packed}
use Rattle.aplx_read.specs.PlanBytes.{plan_bytes}
use Rattle.aplx_read.specs.ReadBack.{Entry, piece, end, bad, judge_words, entry_at, next, read_entries, read_image, read_back}

-- ---- what an entry is not
pub bad-no-piece : {n : ℕ} {row : Row} → bad n ≡ piece row → ⊥
bad-no-piece e = let z : ◌≡◌ {A = ℕ} 0 1 = cc in omega arith

pub end-no-piece : {row : Row} → end ≡ piece row → ⊥
end-no-piece e = let z : ◌≡◌ {A = ℕ} 0 1 = cc in omega arith

-- there is no 65th piece
pub sixty-fifth : (image : List ℕ) {row : Row} → entry_at image 64 ≡ piece row → ⊥
unfolding entry_at judge_words
sixty-fifth image h =
    let c = little_endian_at 4 image (16 * 64) in
    let t = from-else (ltb (length image) (16 * 64 + 16)) bad-no-piece h in
    let u = from-else (eqb c 0xffffffff) end-no-piece t.1 in
    from_either (eqb c 2) bad-no-piece (from_either (eqb c 3) bad-no-piece (from_either (eqb c 4) bad-no-piece bad-no-piece)) u.1

-- ---- one step, at entry e of at most k
pub read-no-more : (image : List ℕ) (k e : ℕ) → k ≤ e → read_entries image (k - e) e ≡ refused 21 e
unfolding read_entries
read-no-more image k e h = let z : k - e ≡ 0 = omega arith in rw z

module _ (image : List ℕ) (k e : ℕ) (h : e < k) where
  left : k - e ≡ suc (k - (e + 1))
  left = omega arith

  pub read-piece : {row : Row} → entry_at image e ≡ piece row
      → read_entries image (k - e) e ≡ before (piece_in image row) (read_entries image (k - (e + 1)) (e + 1))
  unfolding read_entries
  read-piece t = rw (left, t, add-one e)

  pub read-end : entry_at image e ≡ end → read_entries image (k - e) e ≡ pieces []
  unfolding read_entries
  read-end t = rw (left, t)

  pub read-bad : {n : ℕ} → entry_at image e ≡ bad n → read_entries image (k - e) e ≡ refused n e
  unfolding read_entries
  read-bad t = rw (left, t)

-- ---- pieces that were read
-- the row of the first, and the others
pub record First (image : List ℕ) (x : Entry) (r : Read) (p : Piece) (ps : List Piece) : Type 0 where
  pub row : Row
  pub is_row : x ≡ piece row
  pub is-piece : p ≡ piece_in image row
  pub is_read : r ≡ pieces ps

pub first : (image : List ℕ) (x : Entry) (e : ℕ) (r : Read) {p : Piece} {ps : List Piece} → next image x e r ≡ pieces (p ∷ ps) → First image x r p ps
first image (piece row) e (pieces qs) h = record { row = row; is_row = refl; is-piece = cc; is_read = cc }
first image (piece row) e (refused n i) h = absurd (refused-no-pieces h)
first image end e r h = let z : ◌≡◌ {A = ℕ} 0 1 = cc in absurd (omega arith)
first image (bad n) e r h = absurd (refused-no-pieces h)

-- the row of a piece p with index i
pub record RowAt (image : List ℕ) (i : ℕ) (p : Piece) : Type 0 where
  pub row : Row
  pub is_row : entry_at image i ≡ piece row
  pub is-piece : p ≡ piece_in image row

entries_at : (image : List ℕ) (k e : ℕ) (ps : List Piece) → read_entries image k e ≡ pieces ps → (n : ℕ) → n < length ps → (d : Piece) → RowAt image (e + n) (get_or ps n d)
unfolding read_entries
entries_at image zero e ps h n l d = absurd (refused-no-pieces h)
entries_at image (suc k) e [] h n l d = absurd (omega arith)
entries_at image (suc k) e (p ∷ ps) h zero l d =
    let f = first image (entry_at image e) e (read_entries image k (suc e)) h in
    rw (add-zero e) (record { row = f.row; is_row = f.is_row; is-piece = f.is-piece })
entries_at image (suc k) e (p ∷ ps) h (suc n) l d =
    let z : e + suc n ≡ suc e + n = omega arith in
    rw z (entries_at image k (suc e) ps (first image (entry_at image e) e (read_entries image k (suc e)) h).is_read n (omega arith) d)

pub image-row : (image : List ℕ) {ps : List Piece} → read_image image ≡ pieces ps → (i : ℕ) → i < length ps → (d : Piece) → RowAt image i (get_or ps i d)
unfolding read_image
image-row image {ps} h i l d = rw zero-add at (entries_at image 65 0 ps h i l d)

-- ---- the plan
module _ (image : List ℕ) (room : ℕ) where
  pub plan-facts : {plan : List ℕ} → read_back image room ≡ packs plan → Fitting plan_bytes (read_image image) room plan
  unfolding read_back
  plan-facts h = accepted-facts plan_bytes (read_image image) room h

  pub read-plan : {ps : List Piece} → read_image image ≡ pieces ps → length (plan_bytes ps) ≤ room → read_back image room ≡ packs (plan_bytes ps)
  unfolding read_back
  read-plan h l = fitting-packed plan_bytes (read_image image) room h l
