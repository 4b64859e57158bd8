-- A series of two loads in the small setting, with called code between them (paper 01, "Plans", demand 3). The plan is a fill and a run,
-- twice. The first load stops at the first run, the called code then writes a byte of the first fill, and the second load goes on.
use Rattle.std.specs.Prelude.{◌≡◌, refl, false, List, [], ◌∷◌, ℕ, length, if◌then◌else◌}
use Rattle.std.proofs.Common.{ap, arith}
use Rattle.words.specs.Choice.{All}
use Rattle.words.specs.Range.{meets}
use Rattle.words.specs.Open as WordsGroup
use Rattle.memory_region.specs.declared.region.Right.TheVariants.{Read}
use Rattle.outcome.specs.Outcome.{refuses, ending_of, Loaded}
use Rattle.memory_map.specs.Map.{sound}
use Rattle.memory_map.specs.Lookup.{Lookup, at, place_of}
use Rattle.memory_map.proofs.LookupLaws.{found-place}
use Rattle.srom.specs.Load as SromLoad
use Rattle.srom.specs.Load.{srom_look, srom_load}
use Rattle.aplx_look.specs.Look.{look, aplx_look}
use Rattle.aplx.specs.Load as AplxLoad
use Rattle.aplx.specs.Load.{aplx_load}
use Rattle.plan.specs.Packed.{packs}
use Rattle.plan.specs.Meaning.{meaning}
use Rattle.plan.specs.Open as PlanGroup
use Rattle.srom_pack.specs.Image.{srom_image, pack_srom}
use Rattle.srom_pack.specs.Open as SromPackGroup
use Rattle.aplx_pack.specs.Image.{aplx_image, pack_aplx}
use Rattle.aplx_pack.specs.Open as AplxPackGroup
use Rattle.series.specs.Series.{Change, changed, Step, Left, series}
use Rattle.series.specs.Medium.{Medium, srom, aplx, start_of, ending_in, Spares}
use Rattle.series.specs.Software.{Software, packed}
use Rattle.series.specs.Demand.{loads, means, Demand3}
use Rattle.series.proofs.Refuted.Example.{example, find, finds, memory_with, Lies, in-slice, in_memory, first_left, same-series}
use Rattle.series.proofs.Refuted.Plans.{two_runs, four_pieces, reads-runs}

-- ---- the series
-- the called code writes 99 to the first byte that the plan fills
abbrev code : List Change
code = record { place = 128; byte = 99 } ∷ []

abbrev twice : List Step
twice = record { index = 0; changes = code } ∷ record { index = 2; changes = [] } ∷ []

-- where the load from index i begins
abbrev pub starts_at : Medium → ℕ → ℕ
starts_at k i = start_of k four_pieces i

-- where two such series are the same, so are the second loads, on the memory that they find
second-same :
    (f g : ℕ → List ℕ → Left) (m : List ℕ) → series f twice m ≡ series g twice m
    → f 2 (changed code (g 0 m).memory) ≡ g 2 (changed code (g 0 m).memory)
unfolding series
second-same f g m e = let a : f 0 m ≡ g 0 m = ap first_left e in rw a at (ap second e)
  where
    second : List Left → Left
    second [] = first_left []
    second (l ∷ ls) = first_left ls

-- ---- the second load
-- the memory that it finds: what the first stretch means, as the called code changed it
unfoldable pub between : List ℕ → List ℕ
between image = changed code (meaning find four_pieces 0 (memory_with image)).memory

-- what its stretch means
abbrev pub second_meant : Medium → List ℕ → Left
second_meant k image =
    let w = meaning find four_pieces 2 (between image) in
    record { memory = w.memory; ending = ending_in k four_pieces 2 w.finish }

second-load :
    (s : Software) → Demand3 s → (k : Medium) {image : List ℕ} → Lies k four_pieces image → packed s k two_runs 256 ≡ packs image
    → All (Spares k example image) code → loads s k example four_pieces image 2 (between image) ≡ second_meant k image
unfolding between
second-load s demand k {image} lies e alone =
    rw finds at (second-same (loads s k example four_pieces image) (means k example four_pieces) (memory_with image)
    (same-series s demand k reads-runs lies e twice (omega arith, (omega arith, tt)) (alone, (tt, tt))))

-- ---- software with a loader that is made of ours
-- a load from a place on a memory
abbrev pub Load : Type 0
Load = ℕ → List ℕ → Loaded

-- `act` is given our load
abbrev pub using_srom : (Load → Load) → Software
using_srom act = record { pack_srom = pack_srom; pack_aplx = pack_aplx; load_srom = λ map s o m. act (srom_load map s) o m; load_aplx = aplx_load }

abbrev pub using_aplx : (Load → Load) → Software
using_aplx act = record { pack_srom = pack_srom; pack_aplx = pack_aplx; load_srom = srom_load; load_aplx = λ map m h. act (λ o n. aplx_load map n o) h m }

-- our loads with the example map, which compute
unfoldable pub srom_from : Load
srom_from o m =
    SromLoad.loaded (if sound example (length m) then SromLoad.look find (srom_image four_pieces) o else record { blocks = []; ending = refuses 1 0 }) m

unfoldable pub aplx_from : Load
aplx_from h m =
    AplxLoad.loaded find (if sound example (length m) then look find m h else record { commands = []; ending = refuses 1 0 }) m

srom-is : srom_load example (srom_image four_pieces) ≡ srom_from
srom-is = λ d o m. one o m d
  where
    one : (o : ℕ) (m : List ℕ) → srom_load example (srom_image four_pieces) o m ≡ srom_from o m
    one o m = unfold srom_load srom_look srom_from in (rw finds)

pub aplx-is : (λ (o : ℕ) (n : List ℕ). aplx_load example n o) ≡ aplx_from
aplx-is = λ d o m. one o m d
  where
    one : (o : ℕ) (m : List ℕ) → aplx_load example m o ≡ aplx_from o m
    one o m = unfold aplx_load aplx_look aplx_from in (rw finds)

-- the called code writes no byte of an image at the place of address 4096
spared : (image : List ℕ) → find Read 4096 (length image) ≡ at 0 → meets 128 1 0 (length image) ≡ false → All (Spares (aplx 4096) example image) code
spared image f h = (λ p e. rw (← found-place e, ap (λ (l : Lookup). place_of (l Read 4096 (length image))) finds, f) h, tt)

-- what a load leaves, as compared
abbrev pub left_by : Loaded → Left
left_by l = record { memory = l.memory; ending = ending_of l.outcome }

-- under demand 3, the second load leaves what its stretch means
pub srom-second :
    (act : Load → Load) → Demand3 (using_srom act)
    → left_by (act srom_from (starts_at srom 2) (between (srom_image four_pieces))) ≡ second_meant srom (srom_image four_pieces)
unfolding two_runs memory_with PlanGroup.meanings SromPackGroup.image AplxPackGroup.image
srom-second act demand = rw srom-is at (second-load (using_srom act) demand srom (in-slice refl) refl (tt, tt))

pub aplx-second :
    (act : Load → Load) → Demand3 (using_aplx act)
    → left_by (act aplx_from (starts_at (aplx 4096) 2) (between (aplx_image four_pieces))) ≡ second_meant (aplx 4096) (aplx_image four_pieces)
unfolding two_runs find memory_with WordsGroup.tests PlanGroup.meanings AplxPackGroup.image
aplx-second act demand =
    let lies : Lies (aplx 4096) four_pieces (aplx_image four_pieces) = in_memory refl refl refl (refl, (tt, (refl, (tt, tt)))) in
    rw aplx-is at (second-load (using_aplx act) demand (aplx 4096) lies refl (spared (aplx_image four_pieces) refl refl))
