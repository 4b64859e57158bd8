-- Small plans, as bytes, and what the claims say of the length of a packed plan (paper 01, "Plans"; paper 02, C-23).
use Rattle.std.specs.Prelude.{◌≡◌, refl, List, [], ◌∷◌, ◌++◌, ℕ, ◌≤◌, length, replicate}
use Rattle.std.proofs.Common.{ap, ◌∙◌}
use Rattle.words.specs.Four.{four_bytes}
use Rattle.words.specs.Open as WordsGroup
use Rattle.plan.specs.Plan.{Piece, put, pieces, read_plan}
use Rattle.plan.specs.Packed.{Packed, refuses, packs}
use Rattle.plan.specs.Open as PlanGroup
use Rattle.series.proofs.Refuted.Example.{Reads, packing_aplx}
use Rattle.aplx_check.specs.Check.{Checked}
use Rattle.shared_series.specs.Claims.{shared_length, Claims}
use Rattle.shared_series.proofs.Refuted.Packers.{Packer}

-- ---- two puts of 32 bytes side by side, each with its own data
unfoldable pub two_puts : ℕ → ℕ → List ℕ
two_puts x y = four_bytes 2 16 48 64 ++ (four_bytes 1 8192 32 0 ++ (four_bytes 1 8224 32 32 ++ (replicate 32 x ++ replicate 32 y)))

abbrev pub two_pieces : ℕ → ℕ → List Piece
two_pieces x y = put 8192 (replicate 32 x) ∷ put 8224 (replicate 32 y) ∷ []

-- with equal bytes
pub reads-equal : Reads (two_puts 5 5) (two_pieces 5 5)
unfolding two_puts WordsGroup.tests PlanGroup.reader
reads-equal = record { bytes = refl; read = refl }

-- with other bytes
pub reads-unequal : Reads (two_puts 5 6) (two_pieces 5 6)
unfolding two_puts WordsGroup.tests PlanGroup.reader
reads-unequal = record { bytes = refl; read = refl }

-- ---- a put of 64 bytes, and one of its first 32
unfoldable pub whole_and_beginning : List ℕ
whole_and_beginning = four_bytes 2 16 48 64 ++ (four_bytes 1 8192 64 0 ++ (four_bytes 1 8256 32 0 ++ (replicate 32 5 ++ replicate 32 6)))

-- ---- three puts, of which the first and the last are equal
unfoldable pub three_puts : List ℕ
three_puts =
    four_bytes 3 16 64 64
    ++ (four_bytes 1 8192 32 0 ++ (four_bytes 1 8224 32 32 ++ (four_bytes 1 8256 32 0 ++ (replicate 32 5 ++ replicate 32 6))))

-- ---- a put of 20 bytes
unfoldable pub twenty_bytes : List ℕ
twenty_bytes = four_bytes 1 16 32 20 ++ (four_bytes 1 8192 20 0 ++ replicate 20 5)

-- ---- the claims are false of software with a packer, beside any check and any reader
abbrev pub Refuted : Packer → Type 0
Refuted pack = (check : List ℕ → List ℕ → Checked) (read : List ℕ → ℕ → Packed) → Claims (packing_aplx pack) check read → ⊥

-- what is packed; nothing if the plan is refused
abbrev pub image_in : Packed → List ℕ
image_in (refuses x i) = []
image_in (packs image) = image

-- the length of what is packed; 0 if the plan is refused
abbrev pub length_of : Packed → ℕ
length_of (refuses x i) = 0
length_of (packs image) = length image

pub length-is :
    (pack : Packer) {check : List ℕ → List ℕ → Checked} {read : List ℕ → ℕ → Packed} → Claims (packing_aplx pack) check read
    → (plan : List ℕ) {ps : List Piece} → read_plan 32 plan ≡ pieces ps → (room : ℕ) → shared_length ps ≤ room → length_of (pack plan room) ≡ shared_length ps
length-is pack claims plan {ps} e room h = let s = claims.sized plan ps e in ap length_of (s.packed room h) ∙ s.has-length
