-- Demand 3 is false of loaders that are wrong in a later load only (paper 01, "Plans"). Each does what ours does in a load from the
-- image's start, so no first load shows that it is wrong: what refutes it is left by the second load, after the called code's change.
use Rattle.std.specs.Prelude.{◌≡◌, refl, List, ℕ, ◌-◌, eqb, get_or, if◌then◌else◌}
use Rattle.std.proofs.Common.{ap, arith}
use Rattle.outcome.specs.Outcome.{arm, thumb, Stop, end, unknown, run, Outcome, refused, accepted, Ending, stops, refuses}
use Rattle.memory_map.specs.Open as MapGroup
use Rattle.srom.specs.Open as SromGroup
use Rattle.aplx.specs.Open as AplxGroup
use Rattle.plan.specs.Open as PlanGroup
use Rattle.srom_pack.specs.Image.{srom_image}
use Rattle.srom_pack.specs.Open as SromPackGroup
use Rattle.aplx_pack.specs.Image.{aplx_image}
use Rattle.aplx_pack.specs.Open as AplxPackGroup
use Rattle.series.specs.Series.{changed, Left}
use Rattle.series.specs.Medium.{Medium, srom, aplx}
use Rattle.series.specs.Software.{Software}
use Rattle.series.specs.Demand.{Demand3}
use Rattle.series.proofs.Refuted.Example.{example, find, memory_with}
use Rattle.series.proofs.Refuted.Plans.{four_pieces}
use Rattle.series.proofs.Refuted.Twice.{starts_at, between, second_meant, Load, using_srom, using_aplx, srom_from, aplx_from, left_by, srom-second, aplx-second}

-- ---- the loaders
-- another stop in the place of an accepted load's
abbrev misnamed : (Stop → Stop) → Outcome → Outcome
misnamed f (refused n p) = refused n p
misnamed f (accepted s t b) = accepted (f s) t b

-- a loader that makes our load, from place o on memory m, and misnames its stop where o is not the image's start
abbrev pub misnaming : (Stop → Stop) → ℕ → Load → Load
misnaming f start load o m =
    record { outcome = if eqb o start then (load o m).outcome else misnamed f (load o m).outcome; memory = (load o m).memory }

-- the resume is the run's own place, whose block or entry has n bytes
abbrev pub run_itself : ℕ → Stop → Stop
run_itself n (end p) = end p
run_itself n (unknown c p) = unknown c p
run_itself n (run k a r) = run k a (r - n)

-- a Thumb entry's address without its bit 0, and not as written
abbrev pub bit_dropped : Stop → Stop
bit_dropped (end p) = end p
bit_dropped (unknown c p) = unknown c p
bit_dropped (run arm a r) = run arm a r
bit_dropped (run thumb a r) = run thumb (a - 1) r

-- a loader that first does the stretch from the image's start once more
abbrev pub repeating : ℕ → Load → Load
repeating start load o m = record { outcome = (load o m).outcome; memory = (load o (load start m).memory).memory }

-- ---- what is compared
abbrev pub resume_in : Ending → ℕ
resume_in (stops (run k a r)) = r
resume_in (stops (end p)) = 0
resume_in (stops (unknown c p)) = 0
resume_in (refuses n p) = 0

abbrev address_in : Ending → ℕ
address_in (stops (run k a r)) = a
address_in (stops (end p)) = 0
address_in (stops (unknown c p)) = 0
address_in (refuses n p) = 0

-- ---- the refutations
-- for a medium whose runs have n bytes: with software of which one loader is made of ours, the plan's image, and our load of it
pub record WrongLater (k : Medium) (n : ℕ) (software : (Load → Load) → Software) (image : List ℕ) (load : Load) : Type 0 where
  -- the first load stops at the first run, and its resume is where the second begins
  pub resumes : (load (starts_at k 0) (memory_with image)).outcome ≡ accepted (run thumb 8193 (starts_at k 2)) 1 32
  -- the second as the plan has it: the called code's byte stays, the second fill is stored, the second run is named
  pub code-kept : get_or (second_meant k image).memory 128 0 ≡ 99
  pub filled : get_or (second_meant k image).memory 160 0 ≡ 2
  pub run-named : (second_meant k image).ending ≡ stops (run thumb 8197 (starts_at k 4))
  -- and our load leaves just that
  pub ours-right : left_by (load (starts_at k 2) (between image)) ≡ second_meant k image
  -- the first load of each wrong loader is ours; so is the second of the one that repeats, where no byte was changed
  pub first-right : (f : Stop → Stop) (m : List ℕ) → misnaming f (starts_at k 0) load (starts_at k 0) m ≡ load (starts_at k 0) m
  pub repeat-right : repeating (starts_at k 0) load (starts_at k 0) (memory_with image) ≡ load (starts_at k 0) (memory_with image)
  pub unchanged-right :
      let m = (load (starts_at k 0) (memory_with image)).memory in
      repeating (starts_at k 0) load (starts_at k 2) m ≡ load (starts_at k 2) m
  -- refuted by the second load's resume, by its run address, and by the called code's byte
  pub resume-refuted : Demand3 (software (misnaming (run_itself n) (starts_at k 0))) → ⊥
  pub address-refuted : Demand3 (software (misnaming bit_dropped (starts_at k 0))) → ⊥
  pub repeat-refuted : Demand3 (software (repeating (starts_at k 0))) → ⊥

pub wrong-later-srom : WrongLater srom 7 using_srom (srom_image four_pieces) srom_from
unfolding find example between memory_with changed srom_from MapGroup.maps PlanGroup.meanings SromPackGroup.image SromGroup.load
wrong-later-srom = record {
  resumes = refl;
  code-kept = refl;
  filled = refl;
  run-named = refl;
  ours-right = refl;
  first-right = λ f m. refl;
  repeat-right = refl;
  unchanged-right = refl;
  resume-refuted = λ d.
      let z : ◌≡◌ {A = ℕ} 86 93 = ap (λ (l : Left). resume_in l.ending) (srom-second (misnaming (run_itself 7) 0) d) in
      omega arith;
  address-refuted = λ d.
      let z : ◌≡◌ {A = ℕ} 8196 8197 = ap (λ (l : Left). address_in l.ending) (srom-second (misnaming bit_dropped 0) d) in
      omega arith;
  repeat-refuted = λ d.
      let z : ◌≡◌ {A = ℕ} 1 99 = ap (λ (l : Left). get_or l.memory 128 0) (srom-second (repeating 0) d) in
      omega arith;
}

pub wrong-later-aplx : WrongLater (aplx 4096) 16 using_aplx (aplx_image four_pieces) aplx_from
unfolding find example between memory_with changed aplx_from MapGroup.maps PlanGroup.meanings AplxPackGroup.image AplxGroup.load
wrong-later-aplx = record {
  resumes = refl;
  code-kept = refl;
  filled = refl;
  run-named = refl;
  ours-right = refl;
  first-right = λ f m. refl;
  repeat-right = refl;
  unchanged-right = refl;
  resume-refuted = λ d.
      let z : ◌≡◌ {A = ℕ} 4144 4160 = ap (λ (l : Left). resume_in l.ending) (aplx-second (misnaming (run_itself 16) 4096) d) in
      omega arith;
  address-refuted = λ d.
      let z : ◌≡◌ {A = ℕ} 8196 8197 = ap (λ (l : Left). address_in l.ending) (aplx-second (misnaming bit_dropped 4096) d) in
      omega arith;
  repeat-refuted = λ d.
      let z : ◌≡◌ {A = ℕ} 1 99 = ap (λ (l : Left). get_or l.memory 128 0) (aplx-second (repeating 4096) d) in
      omega arith;
}
