-- The bytes of a plan with these pieces (paper 02, C-11): "Table directly after the header, then the data of the puts in order." The format
-- is that of paper 01, "Plans".
use Rattle.std.specs.Prelude.{List, [], ◌∷◌, ◌++◌, ℕ, ◌+◌, ◌*◌, length}
use Rattle.words.specs.Four.{four_bytes}
use Rattle.plan.specs.Plan.{Piece, put, fill, run, data_of, put_bytes, datas}

-- "A piece: kind (1 put, 2 fill, 3 run), address, length in bytes, and data offset (put, counted from the data) or word (fill)"; the length
-- and the last word of a run are zero
unfoldable pub row_bytes : Piece → ℕ → List ℕ
row_bytes (put a d) offset = four_bytes 1 a (length d) offset
row_bytes (fill a n w) offset = four_bytes 2 a n w
row_bytes (run a) offset = four_bytes 3 a 0 0

-- the table; so many bytes of data belong to earlier pieces
unfoldable pub table : ℕ → List Piece → List ℕ
table earlier [] = []
table earlier (p ∷ ps) = row_bytes p earlier ++ table (earlier + length (data_of p)) ps

-- "Header: count, offset of the piece table, offset of the data, length of the data."
unfoldable pub plan_bytes : List Piece → List ℕ
plan_bytes ps = four_bytes (length ps) 16 (16 + 16 * length ps) (put_bytes ps) ++ (table 0 ps ++ datas ps)
