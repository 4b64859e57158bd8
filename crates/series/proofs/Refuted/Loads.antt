-- Demand 3 is false of software with a wrong loader (paper 01, "Plans" and "Signing rule"). Each is refuted by one byte that one load
-- leaves; the outcome is ours, but for the loader that refuses everything.
use Rattle.std.specs.Prelude.{◌≡◌, refl, List, ℕ, take}
use Rattle.std.proofs.Common.{arith}
use Rattle.outcome.specs.Outcome.{end, refused, accepted, memory_at, Loaded}
use Rattle.memory_map.specs.Lookup.{Lookup}
use Rattle.srom.specs.Walk.{Walk}
use Rattle.srom.specs.Load as SromLoad
use Rattle.srom.specs.Load.{store_blocks, outcome_of_walk}
use Rattle.srom.specs.Open as SromGroup
use Rattle.aplx_look.specs.Look.{Look, look, outcome_of_look}
use Rattle.aplx.specs.Load.{perform_all}
use Rattle.aplx.specs.Open as AplxGroup
use Rattle.plan.specs.Open as PlanGroup
use Rattle.srom_pack.specs.Image.{srom_image}
use Rattle.srom_pack.specs.Open as SromPackGroup
use Rattle.aplx_pack.specs.Image.{aplx_image}
use Rattle.aplx_pack.specs.Open as AplxPackGroup
use Rattle.series.specs.Demand.{Demand3}
use Rattle.series.proofs.Refuted.Example.{find, memory_with, in-slice, in_memory, loading_srom, loading_aplx, srom-loaded, aplx-loaded}
use Rattle.series.proofs.Refuted.Plans.{two_fills, two_pieces, reads-beside, reads-outside}

-- ---- the loaders
-- "a loader that stores nothing and reports the end"
abbrev pub idle_srom : Walk → List ℕ → Loaded
idle_srom w m = record { outcome = outcome_of_walk w; memory = m }

abbrev pub idle_aplx : Lookup → Look → List ℕ → Loaded
idle_aplx find l m = record { outcome = outcome_of_look l; memory = m }

-- "one that does the first entry or block and skips the others"
abbrev pub first_srom : Walk → List ℕ → Loaded
first_srom w m = record { outcome = outcome_of_walk w; memory = memory_at w.ending m (store_blocks (take 1 w.blocks) m) }

abbrev pub first_aplx : Lookup → Look → List ℕ → Loaded
first_aplx find l m = record { outcome = outcome_of_look l; memory = memory_at l.ending m (perform_all find (take 1 l.commands) m) }

-- "a loader .. that refuses everything"
abbrev pub never_srom : Walk → List ℕ → Loaded
never_srom w m = record { outcome = refused 4 0; memory = m }

abbrev pub never_aplx : Lookup → Look → List ℕ → Loaded
never_aplx find l m = record { outcome = refused 4 0; memory = m }

-- version two: tests made between copies. "Checking an entry only when its turn comes": what stands before a refusal is stored
abbrev pub turn_srom : Walk → List ℕ → Loaded
turn_srom w m = record { outcome = outcome_of_walk w; memory = store_blocks w.blocks m }

abbrev pub turn_aplx : Lookup → Look → List ℕ → Loaded
turn_aplx find l m = record { outcome = outcome_of_look l; memory = perform_all find l.commands m }

-- ---- the refutations
-- Two fills side by side, whose first bytes are at places 128 and 160; for the last loader two of which the second is not permitted.
pub record WrongSromLoads : Type 0 where
  -- the idle loader does report the end here
  pub idle-ends : outcome_of_walk (SromLoad.look find (srom_image (two_pieces 8192 8224)) 0) ≡ accepted (end 79) 2 64
  pub idle-refuted : Demand3 (loading_srom idle_srom) → ⊥
  pub first-only-refuted : Demand3 (loading_srom first_srom) → ⊥
  pub never-refuted : Demand3 (loading_srom never_srom) → ⊥
  pub in-turn-refuted : Demand3 (loading_srom turn_srom) → ⊥

pub wrong-srom-loads : WrongSromLoads
unfolding two_fills find memory_with PlanGroup.meanings SromPackGroup.image SromGroup.load AplxPackGroup.image
wrong-srom-loads = record {
  idle-ends = refl;
  idle-refuted = λ d.
      let z : ◌≡◌ {A = ℕ} 7 1 = srom-loaded reads-beside idle_srom d (in-slice refl) refl 128 in
      omega arith;
  first-only-refuted = λ d.
      let z : ◌≡◌ {A = ℕ} 7 2 = srom-loaded reads-beside first_srom d (in-slice refl) refl 160 in
      omega arith;
  never-refuted = λ d.
      let z : ◌≡◌ {A = ℕ} 7 1 = srom-loaded reads-beside never_srom d (in-slice refl) refl 128 in
      omega arith;
  in-turn-refuted = λ d.
      let z : ◌≡◌ {A = ℕ} 1 7 = srom-loaded reads-outside turn_srom d (in-slice refl) refl 128 in
      omega arith;
}

pub record WrongAplxLoads : Type 0 where
  pub idle-ends :
      outcome_of_look (look find (memory_with (aplx_image (two_pieces 8192 8224))) 4096) ≡ accepted (end 2) 2 64
  pub idle-refuted : Demand3 (loading_aplx idle_aplx) → ⊥
  pub first-only-refuted : Demand3 (loading_aplx first_aplx) → ⊥
  pub never-refuted : Demand3 (loading_aplx never_aplx) → ⊥
  pub in-turn-refuted : Demand3 (loading_aplx turn_aplx) → ⊥

pub wrong-aplx-loads : WrongAplxLoads
unfolding two_fills find memory_with PlanGroup.meanings AplxPackGroup.image AplxGroup.load
wrong-aplx-loads = record {
  idle-ends = refl;
  idle-refuted = λ d.
      let z : ◌≡◌ {A = ℕ} 7 1 = aplx-loaded reads-beside idle_aplx d (in_memory refl refl refl (refl, (refl, tt))) refl 128 in
      omega arith;
  first-only-refuted = λ d.
      let z : ◌≡◌ {A = ℕ} 7 2 = aplx-loaded reads-beside first_aplx d (in_memory refl refl refl (refl, (refl, tt))) refl 160 in
      omega arith;
  never-refuted = λ d.
      let z : ◌≡◌ {A = ℕ} 7 1 = aplx-loaded reads-beside never_aplx d (in_memory refl refl refl (refl, (refl, tt))) refl 128 in
      omega arith;
  in-turn-refuted = λ d.
      let z : ◌≡◌ {A = ℕ} 1 7 = aplx-loaded reads-outside turn_aplx d (in_memory refl refl refl (refl, (refl, tt))) refl 128 in
      omega arith;
}
