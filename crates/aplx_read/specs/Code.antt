-- What the code's answers for an entry say, and what the code writes, in the terms of the definitions.
use Rattle.std.specs.Prelude.{List, ℕ, ◌+◌, Result, Ok, Err, Option, Some, None}
use Rattle.outcome.specs.declared.refusal.Cause.{Cause}
use Rattle.outcome.specs.Refusal.{number_of}
use Rattle.plan.specs.declared.piece.Piece as CodePiece
use Rattle.words.specs.Store.{store}
use Rattle.plan.specs.Plan.{Piece, data_of, Row, run_row}
use Rattle.plan.specs.Packed.{pieces_in}
use Rattle.plan.specs.Code.{row_is}
use Rattle.aplx_read.specs.ReadBack.{Entry, piece, end, bad, read_image}
use Rattle.aplx_read.specs.PlanBytes.{row_bytes}

abbrev pub entry_is : Result (Option CodePiece.Piece) Cause → Entry
entry_is (Ok (Some p)) = piece (row_is p)
entry_is (Ok None) = end
entry_is (Err c) = bad (number_of c)

-- what the code answers to the tests of a length and a destination, before the rest
abbrev pub range_then : Result Unit Cause → Entry → Entry
range_then (Ok w) rest = rest
range_then (Err c) rest = bad (number_of c)

-- the row of an entry; a run at 0 where the entry is none
abbrev pub row_of : Entry → Row
row_of (piece row) = row
row_of end = run_row 0
row_of (bad n) = run_row 0

-- the pieces of an image that was read
abbrev pub image_pieces : List ℕ → List Piece
image_pieces image = pieces_in (read_image image)

-- m with the row of a piece at a place, and its data from an offset on behind the data's start
abbrev pub with_row : List ℕ → Piece → ℕ → ℕ → ℕ → List ℕ
with_row m p at start offset = store (store m at (row_bytes p offset)) (start + offset) (data_of p)
