-- The claims are false of these readers: an image that the packer wrote is not read back, or packing gives other bytes.
use Rattle.std.specs.Prelude.{◌≡◌, refl, List, [], ◌∷◌, ℕ, ◌+◌, length, get_or, replicate}
use Rattle.std.proofs.Common.{ap, sym, ◌∙◌, arith}
use Rattle.words.specs.Open as WordsGroup
use Rattle.plan.specs.Plan.{Piece, put}
use Rattle.plan.specs.Packed.{Packed, refuses, packs}
use Rattle.plan.proofs.PackedLaws.{fitting-packed}
use Rattle.series.specs.Software as software
use Rattle.words.proofs.BytesLaws.{all-bytes}
use Rattle.series.proofs.Refuted.Packers.{sorted, inserted}
use Rattle.aplx_pack.specs.Image.{aplx_image}
use Rattle.aplx_pack.specs.Open as PackGroup
use Rattle.aplx_read.specs.PlanBytes.{plan_bytes}
use Rattle.aplx_read.specs.ReadBack.{read_image}
use Rattle.aplx_read.specs.Open as ReadGroup
use Rattle.read_back_series.specs.Claims.{Claims}
use Rattle.read_back_series.proofs.Refuted.Readers.{sorted_bytes, sorts_data, never}

-- two puts, the second at the lower address
unfoldable two : List Piece
two = put 8224 (replicate 32 5) ∷ put 8192 (replicate 32 6) ∷ []

not-packed : {x i : ℕ} {s : List ℕ} → refuses x i ≡ packs s → ⊥
not-packed e = let z : ◌≡◌ {A = ℕ} 0 1 = cc in omega arith

-- the byte at a place of what was packed
abbrev byte_in : ℕ → Packed → ℕ
byte_in p (refuses x i) = 0
byte_in p (packs s) = get_or s p 0

pub never-refuted : Claims software.ours never → ⊥
unfolding two WordsGroup.tests PackGroup.image ReadGroup.reader
never-refuted d =
    let r = d.returns (plan_bytes two) 256 (aplx_image two) (all-bytes (plan_bytes two) refl) refl in
    not-packed (r.read_back (length r.plan) (omega arith))

-- the first put's data, at place 48 of the image, is now the second's
pub sorts-data-refuted : Claims software.ours sorts_data → ⊥
unfolding two sorted inserted sorted_bytes WordsGroup.tests PackGroup.image ReadGroup.reader
sorts-data-refuted d =
    let image = aplx_image two in
    let r = d.returns (plan_bytes two) 256 image (all-bytes (plan_bytes two) refl) refl in
    let n = length r.plan + 112 in
    let e : packs r.plan ≡ packs (sorted_bytes two) = sym (r.read_back n (omega arith)) ∙ fitting-packed sorted_bytes (read_image image) n refl (omega arith) in
    let q : r.plan ≡ sorted_bytes two = cc in
    let z : ◌≡◌ {A = ℕ} 6 5 = ap (byte_in 48) (rw q at (r.same_bytes 112 (omega arith))) in
    omega arith
