-- A reader that rounds lengths up is not exact: it reads pieces that the image does not carry. No load shows it, as a load rounds lengths
-- up too.
use Rattle.std.specs.Prelude.{◌≡◌, refl, [], ◌∷◌, ℕ}
use Rattle.std.proofs.Common.{arith}
use Rattle.words.specs.Open as WordsGroup
use Rattle.plan.specs.Plan.{fill}
use Rattle.words.proofs.BytesLaws.{all-bytes}
use Rattle.aplx_read.specs.Open as ReadGroup
use Rattle.read_back_series.specs.Exact.{Exact}
use Rattle.read_back_series.proofs.Refuted.Readers.{entry_by, read_by, rounds_lengths}
use Rattle.read_back_series.proofs.Refuted.Example.{image}

-- the second entry is a fill of 48 bytes
pub rounds-lengths-refuted : Exact rounds_lengths → ⊥
unfolding image entry_by read_by WordsGroup.tests WordsGroup.stores ReadGroup.reader
rounds-lengths-refuted d =
    let r = (d (image 3 32) (all-bytes (image 3 32) refl) (fill 8192 32 1 ∷ fill 8224 64 32 ∷ [])).if-read refl in
    let z : ◌≡◌ {A = ℕ} 48 64 = r.carried.1.0.second in
    omega arith
