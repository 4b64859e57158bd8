-- The packed APLX image carries its pieces (paper 01, "Plans", demand 3).
use Rattle.std.specs.Prelude.{◌≡◌, refl, List, [], ◌∷◌, ◌++◌, ℕ, suc, ◌+◌, ◌*◌, ◌%◌, ◌≤◌, length, drop}
use Rattle.std.proofs.Common.{◌∙◌, append-nil, arith, length-append, take_at, drop_at}
use Rattle.words.specs.Choice.{All}
use Rattle.plan.specs.Plan.{Piece, put, fill, run, data_of, datas}
use Rattle.plan.specs.Packable.{Packable}
use Rattle.plan.proofs.PlanSums.{bytes_most}
use Rattle.aplx_image.specs.Carries.{Carries}
use Rattle.aplx_pack.specs.Image.{entries, aplx_image}
use Rattle.aplx_pack.proofs.ImageLaws.{length-entries, length-aplx_image, tail, tail_step, image-tail}
use Rattle.aplx_pack.proofs.ImageEntry.{DataAt, data-behind, entry-behind, entry-says, end-here}

-- in the data, that of a piece stands behind the data of the earlier ones
in-datas : (d : List ℕ) (p : Piece) (ps : List Piece) → DataAt (d ++ datas (p ∷ ps)) (length d) p
unfolding datas
in-datas d (put a b) ps = record {
  inside = omega (arith, length-append d (b ++ datas ps), length-append b (datas ps));
  bytes = rw (drop_at d (b ++ datas ps) (length d) refl) (take_at b (datas ps) (length b) refl);
}
in-datas d (fill a n w) ps = tt
in-datas d (run a) ps = tt

-- the entries of these pieces, and all the data, stand from offset k on
module _ (image : List ℕ) (k : ℕ) (d : List ℕ) (p : Piece) (ps : List Piece) (e : drop k image ≡ tail d (p ∷ ps)) where
  -- the data of a put lies as far behind its entry's start as the entry says
  pub put-data : DataAt image (k + (16 * suc (suc (length ps)) + length d)) p
  put-data = data-behind image k (entries (length d) (p ∷ ps)) (d ++ datas (p ∷ ps)) e _ (length-entries (length d) (p ∷ ps)) (length d) p (in-datas d p ps)

  -- behind the first entry
  pub piece-behind : drop (k + 16) image ≡ tail (d ++ data_of p) ps
  piece-behind = entry-behind image k p _ _ (e ∙ tail_step d p ps)

-- data of whole words stays so
data-whole : (d : List ℕ) (p : Piece) → length d % 4 ≡ 0 → Packable 32 p → length (d ++ data_of p) % 4 ≡ 0
data-whole d (put a b) h g = rw length-append (omega (arith, g.whole))
data-whole d (fill a n w) h g = rw append-nil h
data-whole d (run a) h g = rw append-nil h

carries-tail : (image : List ℕ) (k : ℕ) (d : List ℕ) (ps : List Piece) → drop k image ≡ tail d ps → k % 4 ≡ 0 → length d % 4 ≡ 0
    → length image ≤ 4294967280 → All (Packable 32) ps → Carries image k ps
unfolding entries
carries-tail image k d [] e h o most g = end-here image k _ e
carries-tail image k d (p ∷ ps) e h o most g = (
  entry-says image k p _ _ (e ∙ tail_step d p ps) (omega arith) most (put-data image k d p ps e) g.0,
  carries-tail image (k + 16) (d ++ data_of p) ps (piece-behind image k d p ps e) (omega arith) (data-whole d p o g.0) most g.1,
)

pub packed-carries : (ps : List Piece) → length (aplx_image ps) ≤ 4294967280 → All (Packable 32) ps → Carries (aplx_image ps) 0 ps
packed-carries ps most g = carries-tail (aplx_image ps) 0 [] ps (image-tail ps) (omega arith) (omega arith) most g

-- ---- the image of as many pieces as a load can read is that short
pub image-short : (ps : List Piece) → length ps ≤ 255 → All (Packable 32) ps → length (aplx_image ps) ≤ 4294967280
image-short ps few g = omega (arith, length-aplx_image ps, bytes_most 32 ps g)
