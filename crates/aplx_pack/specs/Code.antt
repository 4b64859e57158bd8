-- What the packer's code writes, in the terms of the definitions.
use Rattle.std.specs.Prelude.{List, ℕ, ◌-◌}
use Rattle.words.specs.Four.{four_bytes}
use Rattle.words.specs.Store.{store}
use Rattle.plan.specs.Plan.{Piece, data_of, Row, put_row, fill_row, run_row}
use Rattle.aplx_pack.specs.Image.{entry_of}

-- the entry of a row
abbrev pub row_entry : Row → ℕ → List ℕ
row_entry (put_row a o n) off = four_bytes 2 a off n
row_entry (fill_row a n w) off = four_bytes 3 a n w
row_entry (run_row a) off = four_bytes 4 a 0 0

-- m with the entry of a piece at an offset, and its data at a place behind it
abbrev pub with_piece : List ℕ → Piece → ℕ → ℕ → List ℕ
with_piece m p at place = store (store m at (entry_of p (place - at))) place (data_of p)
