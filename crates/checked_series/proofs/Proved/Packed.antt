-- In the image that our packer gives, the data of the puts lies behind the end entry (paper 02, C-20).
use Rattle.std.specs.Prelude.{◌≡◌, List, [], ◌∷◌, ◌++◌, ℕ, suc, ◌+◌, ◌*◌, ◌≤◌, length, drop}
use Rattle.std.proofs.Common.{◌∙◌, arith}
use Rattle.words.specs.Choice.{All}
use Rattle.plan.specs.Plan.{Piece, put, fill, run, data_of}
use Rattle.plan.specs.Packable.{Packable}
use Rattle.aplx_pack.specs.Image.{aplx_image}
use Rattle.aplx_pack.proofs.ImageLaws.{tail, tail_step, image-tail}
use Rattle.aplx_pack.proofs.ImageEntry.{entry-source}
use Rattle.aplx_pack.proofs.ImageCarried.{put-data, piece-behind}
use Rattle.aplx_check.specs.Written.{DataBehind, AllBehind}

-- the entries of these pieces, and all the data, stand from offset k on
module _ (image : List ℕ) (most : length image ≤ 4294967280) (behind : ℕ) where
  first-behind : (k : ℕ) (d : List ℕ) (p : Piece) (ps : List Piece) → drop k image ≡ tail d (p ∷ ps) → behind ≡ k + 16 * suc (length (p ∷ ps)) → Packable 32 p
      → DataBehind image behind k p
  first-behind k d (put a b) ps e h g =
      let t = put-data image k d (put a b) ps e in
      omega (arith, entry-source image k a b _ _ (e ∙ tail_step d (put a b) ps) (omega (arith, t.inside)) g)
  first-behind k d (fill a n w) ps e h g = tt
  first-behind k d (run a) ps e h g = tt

  tail-behind : (k : ℕ) (d : List ℕ) (ps : List Piece) → drop k image ≡ tail d ps → behind ≡ k + 16 * suc (length ps) → All (Packable 32) ps
      → AllBehind image behind k ps
  tail-behind k d [] e h g = tt
  tail-behind k d (p ∷ ps) e h g =
      (first-behind k d p ps e h g.0, tail-behind (k + 16) (d ++ data_of p) ps (piece-behind image k d p ps e) (omega arith) g.1)

pub packed-behind : (ps : List Piece) → length (aplx_image ps) ≤ 4294967280 → All (Packable 32) ps → AllBehind (aplx_image ps) (16 * suc (length ps)) 0 ps
packed-behind ps most g = tail-behind (aplx_image ps) most (16 * suc (length ps)) 0 [] ps (image-tail ps) (omega arith) g
