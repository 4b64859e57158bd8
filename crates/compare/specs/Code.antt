-- What the code's answers say, in the terms of the definitions, and what it asks of plans that it reads.
pub mod Segment
pub mod Block
pub mod Collected
pub mod Listed
pub mod Pairs
use Rattle.std.specs.Prelude.{◌≡◌, Bool, true, false, List, ℕ, ◌+◌, ◌*◌, ◌≤◌, ◌<◌, eqb, length, Option, None, Some, Result, Ok, Err}
use Rattle.plan.specs.Plan.{Read, refused, pieces}
use Rattle.plan.specs.Packed.{plan_pieces, Accepted}
use Rattle.plan.specs.Meaning.{stretch}
use Rattle.outcome.specs.declared.refusal.Refusal.{Refusal}
use Rattle.outcome.specs.Refusal.{number_of}
use Rattle.compare.specs.declared.compare.Side as CodeSide
use Rattle.compare.specs.declared.compare.Side.TheVariants as side
use Rattle.compare.specs.declared.compare.Found.{Found}
use Rattle.compare.specs.declared.compare.Refused.{Refused}
use Rattle.compare.specs.LastByte.{last_byte}
use Rattle.compare.specs.Reading.{read_compared, Run, none, at}
use Rattle.compare.specs.Compare.{Which, neither, old_plan, new_plan, Compared, refuses, finds, most_stretches}

-- ---- the comparison: a refusal, or the number of stretches and whether the runs are the same
pub data Outcome : Type 0 where
  refusal : Which → ℕ → ℕ → Outcome  -- number, place
  found : ℕ → Bool → Outcome

abbrev pub outcome_of : Compared → Outcome
outcome_of (refuses w x i) = refusal w x i
outcome_of (finds l same) = found (length l) same

-- the number of stretches in an answer; a refusal has none
abbrev pub stretch_count : Outcome → ℕ
stretch_count (refusal w x i) = 0
stretch_count (found n same) = n

abbrev pub which_is : Option CodeSide.Side → Which
which_is None = neither
which_is (Some side.Old) = old_plan
which_is (Some side.New) = new_plan

abbrev pub outcome_is : Result Found Refused → Outcome
outcome_is (Err r) = refusal (which_is r.which) (number_of r.refusal.cause) r.refusal.place
outcome_is (Ok f) = found f.count f.same_run

-- ---- a plan that is read: a refusal, or the number of pieces
pub data Reading : Type 0 where
  fails : ℕ → ℕ → Reading  -- number, place
  reads : ℕ → Reading

abbrev pub reading_of : Read → Reading
reading_of (refused x i) = fails x i
reading_of (pieces ps) = reads (length ps)

abbrev pub reading_is : Result ℕ Refusal → Reading
reading_is (Err r) = fails (number_of r.cause) r.place
reading_is (Ok k) = reads k

-- ---- runs
abbrev pub run_is : Option ℕ → Run
run_is None = none
run_is (Some a) = at a

-- ---- plans that are compared
-- a plan of n pieces that can be
pub record Comparable (s : List ℕ) (n : ℕ) : Type 0 where
  pub is_read : read_compared s ≡ pieces (plan_pieces 1 s)
  pub accepted : Accepted 1 s
  pub count : n ≡ length (plan_pieces 1 s)

-- reading gave pieces
abbrev pub was_read : Read → Bool
was_read (refused x i) = false
was_read (pieces ps) = true

-- what was read of an accepted plan
abbrev pub read_as : List ℕ → Read
read_as s = pieces (plan_pieces 1 s)

-- the last byte at each address after that stretch
abbrev pub image_of : List ℕ → ℕ → ℕ
image_of s = last_byte (stretch (plan_pieces 1 s))

-- the values of two images are equal, or are not, as asked, at all addresses from x on and below e
abbrev pub Alike : (ℕ → ℕ) → (ℕ → ℕ) → ℕ → ℕ → Bool → Type 0
Alike f g x e same = (y : ℕ) → x ≤ y → y < e → eqb (f y) (g y) ≡ same
