-- Laws of a packer, over the image: what it answers and leaves, by what the reader answered it.
use Rattle.std.specs.Prelude.{◌≡◌, refl, List, ℕ, ◌≤◌, ◌<◌, length, Result, Err}
use Rattle.std.proofs.Common.{ap, sym, ◌∙◌, arith, lt-ltb, le-ltb}
use Rattle.words.specs.Store.{store}
use Rattle.outcome.specs.declared.refusal.Refusal.{Refusal}
use Rattle.outcome.specs.Refusal.{number_of}
use Rattle.plan.specs.declared.read.Pieces.{Pieces}
use Rattle.plan.specs.Plan.{Piece, Read, refused, pieces}
use Rattle.plan.specs.Packed.{Packed, refuses, packed_as, output_after, Outcome, refusal, sized, outcome_of, written_length, pieces_in}
use Rattle.plan.specs.Code as reader
use Rattle.plan.proofs.CodeLaws.{Counted}
use Rattle.plan.specs.Code.Packer.{ReadAs, ImageFits}

-- what the reader counts was read
pub counted-read : {t : Read} {n p f : ℕ} → Counted t n p f → ReadAs t n
counted-read c = record { accepted = c.accepted; counts = c.count; few = c.few }

-- what a reader gave, packed as this image over m
module _ (image : List Piece → List ℕ) (t : Read) (m : List ℕ) where
  abbrev packed : Packed
  packed = packed_as image t (length m)

  -- the packer's answer, and what it leaves
  abbrev pub Leaves : Outcome → List ℕ → Type 0
  Leaves o after = (o ≡ outcome_of packed) × (after ≡ output_after packed m)

  -- the reader refuses
  pub leaves-refused : {r : Result Pieces Refusal} → reader.outcome_is r ≡ reader.outcome_of t → {x : Refusal} → r ≡ Err x
      → Leaves (refusal (number_of x.cause) x.place) m
  leaves-refused h {x} k = rw (go t (sym h ∙ ap reader.outcome_is k)) (refl, refl)
    where
      go : (t : Read) → reader.outcome_of t ≡ reader.refuses (number_of x.cause) x.place → packed_as image t (length m) ≡ refuses (number_of x.cause) x.place
      go (refused y j) f = cc
      go (pieces ps) f = let z : ◌≡◌ {A = ℕ} 0 1 = cc in absurd (omega arith)

  -- the reader accepts n pieces, and the image has this size
  module _ {n : ℕ} (c : ReadAs t n) {size : ℕ} (e : size ≡ length (image (pieces_in t))) where
    pub leaves-small : length m < size → Leaves (refusal 10 n) m
    leaves-small h = rw c.accepted (rw (lt-ltb (length m) (length (image (pieces_in t))) (omega arith)) (ap (refusal 10) c.counts, refl))

    pub image-fits : size ≤ length m → ImageFits image t n (length m)
    image-fits h = record { accepted = c.accepted; counts = c.counts; few = c.few; fits = omega arith }

    pub leaves-image : {after : List ℕ} → size ≤ length m → after ≡ store m 0 (image (pieces_in t)) → Leaves (sized size) after
    leaves-image h g = rw c.accepted (rw (le-ltb (length m) (length (image (pieces_in t))) (omega arith)) (ap sized e, g))

-- what is refused has no length
pub refused-length : (image : List Piece → List ℕ) (r : Read) {n i : ℕ} → reader.outcome_of r ≡ reader.refuses n i → 0 ≡ written_length image r
refused-length image (refused x j) e = refl
refused-length image (pieces ps) e = let z : ◌≡◌ {A = ℕ} 0 1 = cc in absurd (omega arith)
