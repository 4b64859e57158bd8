-- Two plans compared (paper 02, C-18).
use Rattle.std.specs.Prelude.{Bool, List, [], ◌∷◌, ◌++◌, ℕ, ◌*◌, ltb, length, if◌then◌else◌}
use Rattle.words.specs.Four.{four_bytes}
use Rattle.words.specs.Store.{store}
use Rattle.plan.specs.Plan.{Piece, Read, refused, pieces}
use Rattle.plan.specs.Meaning.{stretch}
use Rattle.stretches.specs.Stretches.{Stretch, below}
use Rattle.compare.specs.LastByte.{last_byte}
use Rattle.compare.specs.Reading.{addresses, read_compared, run_of, same_run}

-- "which plan" a refusal is about
pub data Which : Type 0 where
  neither : Which
  old_plan : Which
  new_plan : Which

pub data Compared : Type 0 where
  refuses : Which → ℕ → ℕ → Compared  -- number, place
  finds : List Stretch → Bool → Compared  -- the stretches, and whether the runs are the same

-- "Only the stretch from index 0 is compared": the addresses below a bound at which the last bytes differ
abbrev pub differences : ℕ → List Piece → List Piece → List Stretch
differences bound old new = below (last_byte (stretch old)) (last_byte (stretch new)) bound

abbrev pub most_stretches : ℕ
most_stretches = 512

-- "At most 512 stretches; more is refused with new number 18, place 512."
abbrev pub limited : List Stretch → Bool → Compared
limited l same = if ltb most_stretches (length l) then refuses neither 18 512 else finds l same

-- the addresses below a bound. "A refused plan gives 01's number and which plan, the old one first"
unfoldable pub compared_below : ℕ → Read → Read → Compared
compared_below bound (refused x i) new = refuses old_plan x i
compared_below bound (pieces old) (refused x i) = refuses new_plan x i
compared_below bound (pieces old) (pieces new) = limited (differences bound old new) (same_run (run_of old) (run_of new))

-- ---- the output
-- a stretch is four words: first and last address, old and new byte at the first
abbrev pub stretch_size : ℕ
stretch_size = 16

unfoldable pub stretch_bytes : List Stretch → List ℕ
stretch_bytes [] = []
stretch_bytes (s ∷ l) = four_bytes s.first s.last s.old s.new ++ stretch_bytes l

-- two plans, for an output of n bytes: "The lent output must hold 512 stretches, else 10 before all."
unfoldable pub compared : ℕ → List ℕ → List ℕ → Compared
compared n old new =
    if ltb n (stretch_size * most_stretches) then refuses neither 10 0
    else compared_below addresses (read_compared old) (read_compared new)

-- the stretches stand at its front; what is refused leaves all of it
abbrev pub output_after : Compared → List ℕ → List ℕ
output_after (refuses w x i) out = out
output_after (finds l same) out = store out 0 (stretch_bytes l)
