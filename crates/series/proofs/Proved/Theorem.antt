-- Demand 3 for every image that carries the plan's pieces, and for what our packers give.
use Rattle.std.specs.Prelude.{◌≡◌, List, ℕ, ◌+◌, ◌*◌, ◌≤◌, ◌<◌, length, drop}
use Rattle.std.proofs.Common.{sym, subst, arith}
use Rattle.words.specs.Choice.{All}
use Rattle.words.proofs.ChoiceLaws.{all_both}
use Rattle.words.specs.Bytes.{Bytes}
use Rattle.memory_region.specs.declared.region.Right.TheVariants.{Read}
use Rattle.memory_map.specs.declared.map.Map.{Map}
use Rattle.memory_map.proofs.LookupLaws.{lawful}
use Rattle.plan.specs.Plan as format
use Rattle.plan.specs.Plan.{Piece, read_plan}
use Rattle.plan.specs.Packable.{Packable}
use Rattle.plan.proofs.PlanLaws.{read-header, read_count, packable}
use Rattle.plan.proofs.PlanUnit.{read_one}
use Rattle.plan.proofs.PackedLaws.{accepted-facts}
use Rattle.aplx_image.specs.Carries.{Carries}
use Rattle.aplx_image.proofs.CarriesLaws.{carries-whole, carries-drop}
use Rattle.srom_pack.specs.Image.{srom_image, pack_srom}
use Rattle.aplx_pack.specs.Image.{aplx_image, pack_aplx}
use Rattle.aplx_pack.proofs.ImageCarried.{packed-carries, image-short}
use Rattle.series.specs.Series.{Step, series}
use Rattle.series.proofs.SeriesLaws.{series-same}
use Rattle.series.specs.Medium.{Medium, srom, aplx, start_of, Spares}
use Rattle.series.specs.Software.{ours}
use Rattle.series.specs.Demand.{loads, means, Granted, Holds, Demand3}
use Rattle.series.proofs.Proved.Preserved.{Before, after-load, after-changes}
use Rattle.series.proofs.Proved.BlockLoad.{SromLoad}
use Rattle.series.proofs.Proved.EntryLoad.{AplxLoad}

-- the lengths that a medium can express are multiples of this
abbrev pub unit_of : Medium → ℕ
unit_of (aplx a) = 32
unit_of srom = 4

-- the image of these pieces, or, for APLX, any image that carries them
abbrev pub Carried : Medium → List ℕ → List Piece → Type 0
Carried (aplx a) image ps = Carries image 0 ps
Carried srom image ps = image ≡ srom_image ps

-- pieces whose lengths the medium can express, and an image that carries them. A plan has 64 at most; 255 and the end entry are the 256
-- entries that an APLX load reads, and 255 blocks stay under the limit of 13
module _ (k : Medium) (ps : List Piece) (image : List ℕ) (few : length ps ≤ 255) (good : All (Packable (unit_of k)) ps) (carried : Carried k image ps) (map : Map) where
  pub one-load : (i : ℕ) → i ≤ length ps → (m : List ℕ) → Before k map ps image m → loads ours k map ps image i m ≡ means k map ps i m
  one-load i h m b = go k good carried b
    where
      go : (k : Medium) → All (Packable (unit_of k)) ps → Carried k image ps → Before k map ps image m → loads ours k map ps image i m ≡ means k map ps i m
      go srom good carried b = rw carried (SromLoad map ps few good m b.safe i)
      go (aplx a) good carried b = AplxLoad a map ps image m i few good carried b.safe b.intact h

  pub carried-series : (memory : List ℕ) (steps : List Step) → Granted k map ps image memory steps
      → series (loads ours k map ps image) steps memory ≡ series (means k map ps) steps memory
  carried-series memory steps g =
      series-same (loads ours k map ps image) (means k map ps) (Before k map ps image) (λ s. (s.index ≤ length ps) × All (Spares k map image) s.changes)
      (λ s m f b. (
        one-load s.index f.0 m b,
        after-changes map ps image (means k map ps s.index m).memory k s.changes f.1 (after-load map ps image m k s.index b),
      ))
      steps memory (all_both _ _ steps g.indices g.alone) (record { safe = g.sound-map; intact = g.intact })

-- demand 3 for a plan that was read and any APLX image that carries its pieces
pub carried-holds : (a : ℕ) (plan : List ℕ) (ps : List Piece) (image : List ℕ) → read_plan 32 plan ≡ format.pieces ps → length ps ≤ 255 → All (Packable 32) ps
    → Carries image 0 ps → Holds ours (aplx a) plan image
carried-holds a plan ps image e few good c = record {
  pieces = ps;
  read = read_one 32 plan e;
  same = λ map memory steps g. carried-series (aplx a) ps image few good c map memory steps g;
}

-- where an index loads is a header address of 32 bits
pub start_fits : (a : ℕ) (ps : List Piece) (image m : List ℕ) → Carries image 0 ps → (map : Map) → Before (aplx a) map ps image m
    → (i : ℕ) → i ≤ length ps → start_of (aplx a) ps i < 4294967296
start_fits a ps image m c map b i h =
    let t = b.intact in
    omega (
      arith,
      carries-whole image (0 + 16 * i) (drop i ps) (carries-drop image i 0 ps h c),
      (lawful map (length m) b.safe).below Read a (length image) t.place t.readable,
    )

-- what the reader grants of a plan
record Plan (unit : ℕ) (plan : List ℕ) (ps : List Piece) : Type 0 where
  few : length ps ≤ 64
  good : All (Packable unit) ps
  alike : read_plan 1 plan ≡ format.pieces ps

plan-facts : (unit : ℕ) (plan : List ℕ) {ps : List Piece} → Bytes plan → read_plan unit plan ≡ format.pieces ps → Plan unit plan ps
plan-facts unit plan b e = record {
  few = omega (arith, read_count unit plan e, (read-header unit plan e).few);
  good = packable unit plan b e;
  alike = read_one unit plan e;
}

pub demand3 : Demand3 ours
unfolding pack_srom pack_aplx
demand3 srom plan room image b e =
    let f = accepted-facts srom_image (read_plan 4 plan) room e in
    let p = plan-facts 4 plan b f.are-read in
    record {
      pieces = f.read;
      read = p.alike;
      same = λ map memory steps g. carried-series srom f.read image (omega (arith, p.few)) p.good f.is-image map memory steps g;
    }
demand3 (aplx a) plan room image b e =
    let f = accepted-facts aplx_image (read_plan 32 plan) room e in
    let p = plan-facts 32 plan b f.are-read in
    let few : length f.read ≤ 255 = omega (arith, p.few) in
    let c = packed-carries f.read (image-short f.read few p.good) p.good in
    carried-holds a plan f.read image f.are-read few p.good (subst (λ (s : List ℕ). Carries s 0 f.read) (sym f.is-image) c)
