-- A series of loads, with what the called code writes between them (paper 01, "Plans", demand 3).
use Rattle.std.specs.Prelude.{List, [], ◌∷◌, ℕ, set}
use Rattle.outcome.specs.Outcome.{Ending}

-- a byte that the called code writes, at a place of the buffer
pub record Change : Type 0 where
  pub place : ℕ
  pub byte : ℕ

-- "the called code stands for all that writes memory between two loads"
unfoldable pub changed : List Change → List ℕ → List ℕ
changed [] m = m
changed (c ∷ cs) m = changed cs (set m c.place c.byte)

-- a load from a piece index, and what the called code changes after it
pub record Step : Type 0 where
  pub index : ℕ
  pub changes : List Change

-- "Compared after each load are every byte of the lent memory and the stop"; a refusal has a number and a place
pub record Left : Type 0 where
  pub memory : List ℕ
  pub ending : Ending

-- "The first load gets any memory, each later one what the last one left, as the called code then changed it": what each leaves.
-- `act` is told a piece index and a memory
unfoldable pub series : (ℕ → List ℕ → Left) → List Step → List ℕ → List Left
series act [] m = []
series act (s ∷ ss) m = act s.index m ∷ series act ss (changed s.changes (act s.index m).memory)
