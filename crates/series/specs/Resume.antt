-- A load, and again from where it says, until it no longer stops at a run (paper 01, "Plans").
use Rattle.std.specs.Prelude.{List, ℕ, zero, suc}
use Rattle.outcome.specs.Outcome.{end, unknown, run, Ending, stops, refuses}
use Rattle.series.specs.Series.{Left}

-- what is done after a load that left l: a run names where to go on
abbrev pub further : Ending → Left → (ℕ → List ℕ → Left) → Left
further (stops (run k a r)) l go = go r l.memory
further (stops (end p)) l go = l
further (stops (unknown c p)) l go = l
further (refuses n p) l go = l

-- what the last load leaves; `act` is told a place and a memory, and f resumes are made at most
unfoldable pub resumed : ℕ → (ℕ → List ℕ → Left) → ℕ → List ℕ → Left
resumed zero act o m = act o m
resumed (suc f) act o m = further (act o m).ending (act o m) (resumed f act)
