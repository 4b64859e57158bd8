-- Laws of the load: what an accepted look says, and what a load with a sound map is.
use Rattle.std.specs.Prelude.{◌≡◌, refl, Bool, true, false, List, [], ℕ, ◌≤◌, ltb, length, if◌then◌else◌}
use Rattle.std.proofs.Common.{arith, ltb-false}
use Rattle.memory_map.specs.declared.map.Map.{Map}
use Rattle.outcome.specs.Outcome.{Stop, accepted, refuses}
use Rattle.memory_map.specs.Map.{sound}
use Rattle.memory_map.specs.Lookup.{lookup}
use Rattle.srom.specs.Walk.{walk}
use Rattle.srom.specs.Load.{look, srom_look, outcome_of_walk, load_with, srom_load}

-- ---- an accepted look passed the first tests
pub record Accepted (map : Map) (n : ℕ) (s : List ℕ) (o : ℕ) : Type 0 where
  pub sound-map : sound map n ≡ true
  pub short : length s ≤ 16777216
  pub walked : srom_look map n s o ≡ walk (lookup map) s o

pub accepted-look : (map : Map) (n : ℕ) (s : List ℕ) (o : ℕ) {t : Stop} {k b : ℕ}
    → outcome_of_walk (srom_look map n s o) ≡ accepted t k b → Accepted map n s o
unfolding srom_look look
accepted-look map n s o {t} {k} {b} e = go (sound map n) refl (ltb 16777216 (length s)) refl e
  where
    go : (x : Bool) → sound map n ≡ x → (y : Bool) → ltb 16777216 (length s) ≡ y
        → outcome_of_walk (if x then if y then record { blocks = []; ending = refuses 13 0 } else walk (lookup map) s o
        else record { blocks = []; ending = refuses 1 0 }) ≡ accepted t k b → Accepted map n s o
    go false p y q e = let z : ◌≡◌ {A = ℕ} 0 1 = cc in absurd (omega arith)
    go true p true q e = let z : ◌≡◌ {A = ℕ} 0 1 = cc in absurd (omega arith)
    go true p false q e = record { sound-map = p; short = ltb-false 16777216 (length s) q; walked = simp (p, q) }

-- ---- with a sound map
pub sound-load : (map : Map) (s : List ℕ) (o : ℕ) (m : List ℕ) → sound map (length m) ≡ true → srom_load map s o m ≡ load_with (lookup map) s o m
unfolding srom_load load_with srom_look
sound-load map s o m e = simp e
