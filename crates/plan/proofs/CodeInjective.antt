-- A value of the code can be read back from what it says. So two that say the same are the same, and an equation of what an answer says
-- decides it.
use Rattle.std.specs.Prelude.{◌≡◌, refl, ℕ, eqb, if◌then◌else◌, Result, Ok, Err}
use Rattle.std.proofs.Common.{ap}
use Rattle.outcome.specs.declared.refusal.Cause.{Cause}
use Rattle.outcome.specs.declared.refusal.Refusal.{Refusal}
use Rattle.outcome.proofs.OutcomeInjective.{back-injective, cause_back, cause-back, refusal_back, refusal-back}
use Rattle.plan.specs.declared.piece.Target.{Target}
use Rattle.plan.specs.declared.piece.Target.TheVariants.{Aplx, Srom, Any}
use Rattle.plan.specs.declared.piece.Piece.{Piece}
use Rattle.plan.specs.declared.piece.Piece.TheVariants.{Put, Fill, Run}
use Rattle.plan.specs.declared.read.Pieces.{Pieces}
use Rattle.plan.specs.Plan.{Row, put_row, fill_row, run_row, Judged, good, bad, HeaderJudged, counts, fails}
use Rattle.plan.specs.Packed.{refusal, sized}
use Rattle.plan.specs.Packed as packing
use Rattle.plan.specs.Code.{unit_of, row_is, judged_is, header_is, Outcome, refuses, reads, outcome_is}
use Rattle.plan.specs.Code.Packer as packer

-- the medium
abbrev target_back : ℕ → Target
target_back n = if eqb n 32 then Aplx else if eqb n 4 then Srom else Any

target-back : (x : Target) → target_back (unit_of x) ≡ x
target-back Aplx = refl
target-back Srom = refl
target-back Any = refl

pub unit_of-injective : (x y : Target) → unit_of x ≡ unit_of y → x ≡ y
unit_of-injective = back-injective unit_of target_back target-back

-- a piece, and what the tests of one give
abbrev pub row_back : Row → Piece
row_back (put_row a o n) = Put a o n
row_back (fill_row a n w) = Fill a n w
row_back (run_row a) = Run a

pub row_back_lem : (x : Piece) → row_back (row_is x) ≡ x
row_back_lem (Put a o n) = refl
row_back_lem (Fill a n w) = refl
row_back_lem (Run a) = refl

pub row_is-injective : (x y : Piece) → row_is x ≡ row_is y → x ≡ y
row_is-injective = back-injective row_is row_back row_back_lem

abbrev judged_back : Judged → Result Piece Cause
judged_back (good row) = Ok (row_back row)
judged_back (bad n) = Err (cause_back n)

judged-back : (x : Result Piece Cause) → judged_back (judged_is x) ≡ x
judged-back (Ok p) = ap (λ (x : Piece). Ok x) (row_back_lem p)
judged-back (Err c) = ap (λ (x : Cause). Err x) (cause-back c)

pub judged_is-injective : (x y : Result Piece Cause) → judged_is x ≡ judged_is y → x ≡ y
judged_is-injective = back-injective judged_is judged_back judged-back

-- what the tests of the header give
abbrev header_back : HeaderJudged → Result ℕ Cause
header_back (counts k) = Ok k
header_back (fails n) = Err (cause_back n)

header-back : (x : Result ℕ Cause) → header_back (header_is x) ≡ x
header-back (Ok k) = refl
header-back (Err c) = ap (λ (x : Cause). Err x) (cause-back c)

pub header_is-injective : (x y : Result ℕ Cause) → header_is x ≡ header_is y → x ≡ y
header_is-injective = back-injective header_is header_back header-back

-- the reader's answer
abbrev read_back : Outcome → Result Pieces Refusal
read_back (refuses n i) = Err (refusal_back n i)
read_back (reads n p f) = Ok (record { count = n; puts = p; fills = f })

read_back_lem : (x : Result Pieces Refusal) → read_back (outcome_is x) ≡ x
read_back_lem (Err r) = ap (λ (x : Refusal). Err x) (refusal-back r)
read_back_lem (Ok p) = refl

pub outcome_is-injective : (x y : Result Pieces Refusal) → outcome_is x ≡ outcome_is y → x ≡ y
outcome_is-injective = back-injective outcome_is read_back read_back_lem

-- a packer's answer
abbrev packed_back : packing.Outcome → Result ℕ Refusal
packed_back (refusal n p) = Err (refusal_back n p)
packed_back (sized n) = Ok n

packed-back : (x : Result ℕ Refusal) → packed_back (packer.outcome_is x) ≡ x
packed-back (Err r) = ap (λ (x : Refusal). Err x) (refusal-back r)
packed-back (Ok n) = refl

pub packer-outcome_is-injective : (x y : Result ℕ Refusal) → packer.outcome_is x ≡ packer.outcome_is y → x ≡ y
packer-outcome_is-injective = back-injective packer.outcome_is packed_back packed-back
