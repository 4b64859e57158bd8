-- What the cases of the code's enums say, in the terms of the definitions.
pub mod Packer
use Rattle.std.specs.Prelude.{List, ℕ, ◌%◌, not, ltb, eqb, length, if◌then◌else◌, Result, Ok, Err}
use Rattle.outcome.specs.declared.refusal.Cause.{Cause}
use Rattle.outcome.specs.declared.refusal.Refusal.{Refusal}
use Rattle.outcome.specs.Refusal.{number_of}
use Rattle.plan.specs.declared.piece.Target.{Target}
use Rattle.plan.specs.declared.piece.Target.TheVariants.{Aplx, Srom, Any}
use Rattle.plan.specs.declared.piece.Piece as CodePiece
use Rattle.plan.specs.declared.piece.Piece.TheVariants.{Put, Fill, Run}
use Rattle.plan.specs.declared.read.Pieces.{Pieces}
use Rattle.plan.specs.Plan.{Piece, put_bytes, fill_bytes, Row, put_row, fill_row, run_row, piece_in, Judged, good, bad, Read, refused, pieces, HeaderJudged, counts, fails}

-- the unit that a medium's lengths are multiples of
abbrev pub unit_of : Target → ℕ
unit_of Aplx = 32
unit_of Srom = 4
unit_of Any = 1

-- the length of a put, and that of a fill
abbrev pub put_length : CodePiece.Piece → ℕ
put_length (Put a o n) = n
put_length (Fill a n w) = 0
put_length (Run a) = 0

abbrev pub fill_length : CodePiece.Piece → ℕ
fill_length (Put a o n) = 0
fill_length (Fill a n w) = n
fill_length (Run a) = 0

-- its row
abbrev pub row_is : CodePiece.Piece → Row
row_is (Put a o n) = put_row a o n
row_is (Fill a n w) = fill_row a n w
row_is (Run a) = run_row a

abbrev pub judged_is : Result CodePiece.Piece Cause → Judged
judged_is (Ok p) = good (row_is p)
judged_is (Err c) = bad (number_of c)

abbrev pub header_is : Result ℕ Cause → HeaderJudged
header_is (Ok k) = counts k
header_is (Err c) = fails (number_of c)

-- the tests that puts and fills have in common, before the rest
unfoldable pub judge_extent : ℕ → ℕ → Judged → Judged
judge_extent a n rest =
    if eqb n 0 then bad 5
    else if ltb 65536 n then bad 11
    else if not (eqb (a % 4) 0) then bad 3
    else rest

-- what the code answers to them, before the rest
abbrev pub extent_then : Result Unit Cause → Judged → Judged
extent_then (Ok w) rest = rest
extent_then (Err c) rest = bad (number_of c)

-- the row of a piece of a plan that was read; a run at 0 where the tests refuse it
abbrev pub row_of : Judged → Row
row_of (good row) = row
row_of (bad n) = run_row 0

-- the piece, with its data in s
abbrev pub piece_is : List ℕ → CodePiece.Piece → Piece
piece_is s p = piece_in s (row_is p)

-- what the reader answers: a refusal, or the number of pieces and the sums of their lengths
pub data Outcome : Type 0 where
  refuses : ℕ → ℕ → Outcome  -- number, piece index
  reads : ℕ → ℕ → ℕ → Outcome  -- piece count, put bytes, fill bytes

abbrev pub outcome_of : Read → Outcome
outcome_of (refused n i) = refuses n i
outcome_of (pieces ps) = reads (length ps) (put_bytes ps) (fill_bytes ps)

abbrev pub outcome_is : Result Pieces Refusal → Outcome
outcome_is (Err r) = refuses (number_of r.cause) r.place
outcome_is (Ok p) = reads p.count p.puts p.fills
