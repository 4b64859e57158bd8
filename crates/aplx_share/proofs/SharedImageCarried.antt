-- The image that keeps one copy of equal data carries its pieces (paper 01, "Plans", demand 3; paper 02, C-23).
use Rattle.std.specs.Prelude.{◌≡◌, refl, List, [], ◌∷◌, ◌++◌, ℕ, ◌+◌, ◌%◌, ◌≤◌, length, drop}
use Rattle.std.proofs.Common.{◌∙◌, arith}
use Rattle.words.specs.Choice.{All}
use Rattle.plan.specs.Plan.{Piece, put, fill, run}
use Rattle.plan.specs.Packable.{Packable}
use Rattle.aplx_image.specs.Carries.{Carries}
use Rattle.aplx_pack.proofs.ImageEntry.{DataAt, data-behind, entry-behind, entry-says, end-here}
use Rattle.aplx_pack.proofs.ImageCarried.{image-short}
use Rattle.aplx_share.specs.Contents.{contents, kept_contents, joined}
use Rattle.aplx_share.proofs.ContentsLaws.{among-different, all-different, Keeps, keeps-all}
use Rattle.aplx_share.proofs.ContentsPlaces.{Whole, place-whole, placed}
use Rattle.aplx_share.specs.SharedImage.{place_of, shared_entries, shared_image}
use Rattle.aplx_share.proofs.SharedImageLaws.{length-shared_entries, shared-shorter, entries-step}

whole-contents : (ps : List Piece) → All (Packable 32) ps → Whole (contents ps)
unfolding contents
whole-contents [] g = tt
whole-contents (put a d ∷ ps) g = (omega (arith, g.0.whole), whole-contents ps g.1)
whole-contents (fill a n w ∷ ps) g = whole-contents ps g.1
whole-contents (run a ∷ ps) g = whole-contents ps g.1

-- the data of a piece whose content is kept lies at its place, which is a multiple of 4
module _ (kept : List (List ℕ)) where
  place_of-data : (p : Piece) → Keeps kept p → DataAt (joined kept) (place_of kept p) p
  place_of-data (put a d) m = placed kept d m
  place_of-data (fill a n w) m = tt
  place_of-data (run a) m = tt

  place_of-whole : Whole kept → (p : Piece) → place_of kept p % 4 ≡ 0
  place_of-whole w (put a d) = place-whole kept d w
  place_of-whole w (fill a n v) = refl
  place_of-whole w (run a) = refl

-- the entries of these pieces, and the contents, stand from offset k on
carries-from : (image : List ℕ) (kept : List (List ℕ)) → Whole kept → length image ≤ 4294967280 → (k : ℕ) (ps : List Piece)
    → drop k image ≡ shared_entries kept ps ++ joined kept → k % 4 ≡ 0 → All (Packable 32) ps → All (Keeps kept) ps → Carries image k ps
unfolding shared_entries
carries-from image kept w most k [] e h g m = end-here image k _ e
carries-from image kept w most k (p ∷ ps) e h g m =
    let f = e ∙ entries-step kept p ps in
    let d = data-behind image k (shared_entries kept (p ∷ ps)) (joined kept) e _ (length-shared_entries kept (p ∷ ps)) (place_of kept p) p (place_of-data kept p m.0) in (
      entry-says image k p _ _ f (omega (arith, place_of-whole kept w p)) most d g.0,
      carries-from image kept w most (k + 16) ps (entry-behind image k p _ _ f) (omega arith) g.1 m.1,
    )

pub shared-carries : (ps : List Piece) → length (shared_image ps) ≤ 4294967280 → All (Packable 32) ps → Carries (shared_image ps) 0 ps
unfolding shared_image
shared-carries ps most g =
    let kept = kept_contents ps in
    carries-from (shared_image ps) kept (all-different _ (contents ps) (whole-contents ps g)) most 0 ps refl refl g
    (keeps-all kept ps (λ d m. among-different (contents ps) d ∙ m))

-- ---- the image of as many pieces as a load can read is that short
pub shared-short : (ps : List Piece) → length ps ≤ 255 → All (Packable 32) ps → length (shared_image ps) ≤ 4294967280
shared-short ps few g = omega (arith, shared-shorter ps, image-short ps few g)
