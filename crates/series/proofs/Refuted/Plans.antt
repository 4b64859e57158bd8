-- Small plans, as bytes, for the refutations of wrong software (paper 01, "Plans").
use Rattle.std.specs.Prelude.{refl, List, [], ◌∷◌, ◌++◌, ℕ, replicate}
use Rattle.words.specs.Four.{four_bytes}
use Rattle.words.specs.Open as WordsGroup
use Rattle.plan.specs.Plan.{Piece, put, fill, run}
use Rattle.aplx_pack.specs.Open as AplxPackGroup
use Rattle.series.proofs.Refuted.Example.{Reads}

-- ---- two fills of 32 bytes
-- header and pieces are four words each
unfoldable pub two_fills : ℕ → ℕ → List ℕ
two_fills a b = four_bytes 2 16 48 0 ++ (four_bytes 2 a 32 1 ++ four_bytes 2 b 32 2)

abbrev pub two_pieces : ℕ → ℕ → List Piece
two_pieces a b = fill a 32 1 ∷ fill b 32 2 ∷ []

-- side by side
pub reads-beside : Reads (two_fills 8192 8224) (two_pieces 8192 8224)
unfolding two_fills WordsGroup.tests AplxPackGroup.image
reads-beside = record { bytes = refl; read = refl }

-- the second lies in no region
pub reads-outside : Reads (two_fills 8192 12288) (two_pieces 8192 12288)
unfolding two_fills WordsGroup.tests AplxPackGroup.image
reads-outside = record { bytes = refl; read = refl }

-- the second begins before the first and goes over most of it
pub reads_over : Reads (two_fills 8196 8192) (two_pieces 8196 8192)
unfolding two_fills WordsGroup.tests AplxPackGroup.image
reads_over = record { bytes = refl; read = refl }

-- ---- a fill of 32 bytes, and a put of n bytes over its first ones
unfoldable pub fill_and_put : ℕ → List ℕ
fill_and_put n = four_bytes 2 16 48 n ++ (four_bytes 2 8192 32 0x01010101 ++ (four_bytes 1 8192 n 0 ++ replicate n 5))

abbrev pub fill_and_put_pieces : ℕ → List Piece
fill_and_put_pieces n = fill 8192 32 0x01010101 ∷ put 8192 (replicate n 5) ∷ []

pub reads-18 : Reads (fill_and_put 18) (fill_and_put_pieces 18)
unfolding fill_and_put WordsGroup.tests AplxPackGroup.image
reads-18 = record { bytes = refl; read = refl }

pub reads-20 : Reads (fill_and_put 20) (fill_and_put_pieces 20)
unfolding fill_and_put WordsGroup.tests AplxPackGroup.image
reads-20 = record { bytes = refl; read = refl }

-- ---- a fill of 32 bytes and a run, twice
unfoldable pub two_runs : List ℕ
two_runs = four_bytes 4 16 80 0 ++ (four_bytes 2 8192 32 1 ++ (four_bytes 3 8193 0 0 ++ (four_bytes 2 8224 32 2 ++ four_bytes 3 8197 0 0)))

abbrev pub four_pieces : List Piece
four_pieces = fill 8192 32 1 ∷ run 8193 ∷ fill 8224 32 2 ∷ run 8197 ∷ []

pub reads-runs : Reads two_runs four_pieces
unfolding two_runs WordsGroup.tests AplxPackGroup.image
reads-runs = record { bytes = refl; read = refl }
