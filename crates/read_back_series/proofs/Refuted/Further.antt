-- The claims are false of a reader that skips what follows the 64th piece: a load from the 65th entry stops at a run, and the plan that was
-- read ends there.
use Rattle.std.specs.Prelude.{◌≡◌, refl, true, false, List, [], ◌∷◌, ◌++◌, ℕ, zero, suc, length, replicate}
use Rattle.std.proofs.Common.{ap, arith}
use Rattle.words.specs.Choice.{All}
use Rattle.words.specs.Four.{four_bytes}
use Rattle.words.specs.Open as WordsGroup
use Rattle.memory_region.specs.declared.region.Region.{Region}
use Rattle.memory_region.specs.declared.region.Right.TheVariants.{Read}
use Rattle.memory_map.specs.declared.map.Map.{Map}
use Rattle.memory_map.specs.Map.{empty_map, add}
use Rattle.memory_map.specs.Lookup.{Lookup, lookup_in, lookup}
use Rattle.memory_map.proofs.LookupLaws.{lookup-is}
use Rattle.memory_map.specs.Open as MapGroup
use Rattle.aplx.specs.Open as AplxGroup
use Rattle.plan.specs.Plan.{Piece, run, refused}
use Rattle.plan.specs.Open as PlanGroup
use Rattle.series.specs.Medium.{Misses}
use Rattle.series.specs.Software as software
use Rattle.aplx_read.specs.ReadBack.{read_image}
use Rattle.aplx_read.specs.Open as ReadGroup
use Rattle.read_back_series.specs.Claims.{Claims}
use Rattle.read_back_series.proofs.Refuted.Readers.{entry_by, read_by, skips_further}
use Rattle.read_back_series.proofs.Refuted.Example.{Setting, Reads, load-means, at_end}

-- ---- the image
-- so many runs of 4097, and the end
unfoldable runs_and_end : ℕ → List ℕ
runs_and_end zero = four_bytes 0xffffffff 0 0 0
runs_and_end (suc k) = four_bytes 4 4097 0 0 ++ runs_and_end k

ours-refuses : read_image (runs_and_end 65) ≡ refused 21 64
unfolding runs_and_end ReadGroup.reader
ours-refuses = refl

-- ---- memory that is this image, at address 4096, to read and to run
abbrev region : Region
region = record { base = 4096; length = 1056; place = 0; rights = record { read = true; write = false; run = true } }

unfoldable only_region : Map
only_region = (add empty_map region).map

unfoldable find : Lookup
find = lookup_in (region ∷ [])

finds : lookup only_region ≡ find
unfolding find only_region MapGroup.maps
finds = lookup-is only_region

-- runs store nothing
runs-miss : (a n k : ℕ) → All (Misses a n) (replicate k (run 4097))
runs-miss a n zero = tt
runs-miss a n (suc k) = (tt, runs-miss a n k)

-- ---- the refutation
first-64 : List Piece
first-64 = replicate 64 (run 4097)

reads : Reads skips_further (runs_and_end 65) first-64
unfolding first-64 runs_and_end entry_by read_by WordsGroup.tests PlanGroup.reader ReadGroup.reader
reads = record { room = 1040; bytes = refl; is_read = refl; has-pieces = refl }

setting : Setting find 4096 first-64 (runs_and_end 65) (runs_and_end 65)
unfolding first-64 runs_and_end find only_region MapGroup.maps MapGroup.lookups WordsGroup.bytes
setting = record {
  map = only_region;
  finds = finds;
  safe = refl;
  intact = record { aligned = refl; place = 0; readable = ap (λ (l : Lookup). l Read 4096 1056) finds; intact = refl; clear = runs-miss 4096 1056 64 };
}

pub skips-further-refuted : Claims software.ours skips_further → ⊥
unfolding first-64 runs_and_end find PlanGroup.meanings AplxGroup.load
skips-further-refuted d =
    let z : ◌≡◌ {A = ℕ} 0 1 = ap at_end (load-means skips_further d (runs_and_end 65) first-64 reads setting 64 (omega arith)) in
    omega arith
