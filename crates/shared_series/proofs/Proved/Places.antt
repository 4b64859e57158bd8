-- Where the data of the puts lies in the image that keeps one copy of equal data: behind the end entry (paper 02, C-20).
use Rattle.std.specs.Prelude.{◌≡◌, refl, List, [], ◌∷◌, ◌++◌, ℕ, suc, ◌+◌, ◌*◌, ◌≤◌, ◌<◌, length, drop}
use Rattle.std.proofs.Common.{ap, sym, ◌∙◌, append_assoc, arith, length-append}
use Rattle.words.specs.Choice.{All}
use Rattle.words.specs.Bytes.{little_endian_at}
use Rattle.plan.specs.Plan.{Piece, put, fill, run}
use Rattle.plan.specs.Packable.{Packable}
use Rattle.aplx_image.specs.Carries.{source_of}
use Rattle.aplx_pack.proofs.ImageEntry.{entry-source}
use Rattle.aplx_check.specs.Written.{DataBehind, AllBehind}
use Rattle.aplx_share.specs.Contents.{kept_contents, joined, place}
use Rattle.aplx_share.proofs.ContentsPlaces.{place_inside}
use Rattle.aplx_share.specs.SharedImage.{shared_entries, shared_image}
use Rattle.aplx_share.proofs.SharedImageLaws.{length-shared_image, entries-step, at_piece}

-- the image of pieces
module _ (ps : List Piece) (most : length (shared_image ps) ≤ 4294967280) where
  -- a put copies from behind the end entry and the contents that lie before its own
  source-is : (earlier : List Piece) (a : ℕ) (d : List ℕ) (later : List Piece) → ps ≡ earlier ++ put a d ∷ later → Packable 32 (put a d)
      → source_of (16 * length earlier) (little_endian_at 4 (shared_image ps) (16 * length earlier + 8)) ≡ 16 * suc (length ps) + place (kept_contents ps) d
  source-is earlier a d later y g =
      let kept = kept_contents ps in
      let k = 16 * length earlier in
      let l : length ps ≡ length earlier + suc (length later) = ap length y ∙ length-append earlier (put a d ∷ later) in
      let e : drop k (shared_image ps) ≡ shared_entries kept (put a d ∷ later) ++ joined kept = rw y (at_piece earlier (put a d) later) in
      let h : k + (16 * suc (suc (length later)) + place kept d) < 4294967296 = omega (arith, length-shared_image ps, place_inside kept d) in
      entry-source (shared_image ps) k a d _ _ (e ∙ entries-step kept (put a d) later) h g ∙ omega arith

  first-behind : (earlier : List Piece) (p : Piece) (later : List Piece) → ps ≡ earlier ++ p ∷ later → Packable 32 p
      → DataBehind (shared_image ps) (16 * suc (length ps)) (16 * length earlier) p
  first-behind earlier (put a d) later y g = omega (arith, source-is earlier a d later y g)
  first-behind earlier (fill a n w) later y g = tt
  first-behind earlier (run a) later y g = tt

  all-behind : (earlier later : List Piece) → ps ≡ earlier ++ later → All (Packable 32) later
      → AllBehind (shared_image ps) (16 * suc (length ps)) (16 * length earlier) later
  all-behind earlier [] y g = tt
  all-behind earlier (p ∷ later) y g =
      let z : 16 * length (earlier ++ p ∷ []) ≡ 16 * length earlier + 16 = omega (arith, length-append earlier (p ∷ [])) in
      (first-behind earlier p later y g.0, rw z at (all-behind (earlier ++ p ∷ []) later (y ∙ sym (append_assoc earlier (p ∷ []) later)) g.1))

  pub shared-behind : All (Packable 32) ps → AllBehind (shared_image ps) (16 * suc (length ps)) 0 ps
  shared-behind g = all-behind [] ps refl g
