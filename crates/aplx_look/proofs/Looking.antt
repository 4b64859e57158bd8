-- What the tests of an image answer, from how the walk over its entries ended.
use mathlib.Core.Path.{◌≡◌}
use mathlib.Core.List.{List}
use Prim.Native.Nat.{ℕ, suc, ◌*◌, ◌<◌}
use Rattle.outcome.specs.Outcome.{Stop, Ending, stops, outcome_at}
use Rattle.outcome.specs.Destinations.{stored_in}
use Rattle.memory_map.specs.Lookup.{Lookup}
use Rattle.aplx_look.specs.Walk.{Walk, walk, commands}
use Rattle.aplx_look.specs.Walk.Laws.{Passed}
use Rattle.aplx_look.proofs.WalkLaws.{walk-passed, stop-count, length-commands}
use Rattle.aplx_look.specs.Look.{destinations, header_test, look_of, outcome_of_look}

-- the header address is h
module _ (find : Lookup) (m : List ℕ) (h : ℕ) where
  -- k entries before a stop, where the test for 8 gives x
  pub outcome-tested :
      (k : ℕ) (s : Stop) {x : Ending} → header_test h (16 * suc k) (commands find m h k) 0 (stops s) ≡ x
      → outcome_of_look (look_of h (commands find m h k) (stops s)) ≡ outcome_at x k (stored_in (destinations (commands find m h k)))
  outcome-tested k s e = simp (length-commands find m h k, e)

  -- the walk is w
  module _ {w : Walk} (walked : w ≡ walk find m h) where
    pub passed-before : Passed find m h w.count
    passed-before = rw walked (walk-passed find m h)

    pub few-before : {s : Stop} → w.ending ≡ stops s → w.count < 256
    few-before e = rw walked (stop-count find m h (rw walked at e))
