-- Laws of packing, over the image: what an accepted plan says, and what is accepted.
use Rattle.std.specs.Prelude.{◌≡◌, refl, Bool, true, false, List, ℕ, ◌≤◌, ltb, length, if◌then◌else◌}
use Rattle.std.proofs.Common.{sym, arith, ltb-false, le-ltb}
use Rattle.plan.specs.Plan.{Piece, Read, refused, pieces}
use Rattle.plan.specs.Packed.{refuses, packs, packed_as}

-- an accepted plan was read, and its image fits
pub record Fitting (image : List Piece → List ℕ) (r : Read) (n : ℕ) (bytes : List ℕ) : Type 0 where
  pub read : List Piece
  pub are-read : r ≡ pieces read
  pub is-image : bytes ≡ image read
  pub fits : length bytes ≤ n

pub accepted-facts : (image : List Piece → List ℕ) (r : Read) (n : ℕ) {bytes : List ℕ} → packed_as image r n ≡ packs bytes → Fitting image r n bytes
accepted-facts image (refused x i) n e = let z : ◌≡◌ {A = ℕ} 0 1 = cc in absurd (omega arith)
accepted-facts image (pieces ps) n {bytes} e = go (ltb n (length (image ps))) refl e
  where
    go : (b : Bool) → ltb n (length (image ps)) ≡ b → (if b then refuses 10 (length ps) else packs (image ps)) ≡ packs bytes → Fitting image (pieces ps) n bytes
    go true t e = let z : ◌≡◌ {A = ℕ} 0 1 = cc in absurd (omega arith)
    go false t e =
        let z : image ps ≡ bytes = cc in
        record { read = ps; are-read = refl; is-image = sym z; fits = rw (sym z) (ltb-false _ _ t) }

-- and a plan that was read is packed where its image fits
pub fitting-packed : (image : List Piece → List ℕ) (r : Read) (n : ℕ) {ps : List Piece} → r ≡ pieces ps → length (image ps) ≤ n → packed_as image r n ≡ packs (image ps)
fitting-packed image r n {ps} e h = rw (e, le-ltb n (length (image ps)) h)
