-- The format of a plan and its reader (paper 01, "Plans"). Offsets and sums are whole numbers.
use Rattle.std.specs.Prelude.{not, ◌&&◌, List, [], ◌∷◌, ◌++◌, ℕ, zero, suc, ◌+◌, ◌*◌, ◌%◌, ltb, eqb, length, take, drop, if◌then◌else◌}
use Rattle.words.specs.Bytes.{little_endian_at}

-- "A piece: kind (1 put, 2 fill, 3 run)"
pub data Piece : Type 0 where
  put : ℕ → List ℕ → Piece  -- address, bytes
  fill : ℕ → ℕ → ℕ → Piece  -- address, length, word
  run : ℕ → Piece  -- address

-- the bytes that a piece has in the plan
abbrev pub data_of : Piece → List ℕ
data_of (put a d) = d
data_of (fill a n w) = []
data_of (run a) = []

-- the address from which on a piece stores, or that it runs
abbrev pub address_of : Piece → ℕ
address_of (put a d) = a
address_of (fill a n w) = a
address_of (run a) = a

-- the length that a piece fills
abbrev pub filled_by : Piece → ℕ
filled_by (put a d) = 0
filled_by (fill a n w) = n
filled_by (run a) = 0

-- "the data of the puts in order"
unfoldable pub datas : List Piece → List ℕ
datas [] = []
datas (p ∷ ps) = data_of p ++ datas ps

-- "the put lengths"
unfoldable pub put_bytes : List Piece → ℕ
put_bytes [] = 0
put_bytes (p ∷ ps) = length (data_of p) + put_bytes ps

-- the "fill lengths"
unfoldable pub fill_bytes : List Piece → ℕ
fill_bytes [] = 0
fill_bytes (p ∷ ps) = filled_by p + fill_bytes ps

-- "Header: count, offset of the piece table, offset of the data, length of the data."
abbrev pub count_of : List ℕ → ℕ
count_of s = little_endian_at 4 s 0

abbrev pub table_of : List ℕ → ℕ
table_of s = little_endian_at 4 s 4

abbrev pub data_at : List ℕ → ℕ
data_at s = little_endian_at 4 s 8

abbrev pub data_length : List ℕ → ℕ
data_length s = little_endian_at 4 s 12

-- what a row of the piece table, or an entry of an image, gives once it passed the tests of one piece; the offset counts from the first
-- byte of the slice that it was read from
pub data Row : Type 0 where
  put_row : ℕ → ℕ → ℕ → Row  -- address, offset of the data, length
  fill_row : ℕ → ℕ → ℕ → Row  -- address, length, word
  run_row : ℕ → Row  -- address

-- the piece of a row, with its data in s
abbrev pub piece_in : List ℕ → Row → Piece
piece_in s (put_row a o n) = put a (take n (drop o s))
piece_in s (fill_row a n w) = fill a n w
piece_in s (run_row a) = run a

-- what the tests of one piece give
pub data Judged : Type 0 where
  good : Row → Judged
  bad : ℕ → Judged  -- number

-- "Run: length or last word not zero, 11; bits 1:0 = 2, 9."
unfoldable pub judge_run : ℕ → ℕ → ℕ → Judged
judge_run a n w =
    if not (eqb n 0 && eqb w 0) then bad 11
    else if eqb (a % 4) 2 then bad 9
    else good (run_row a)

-- "Put and fill: 5; length over 65,536, 11; address not a multiple of 4, 3" .. "length not a multiple of 32 (APLX) or 4 (SROM), 12";
-- a unit of 1 tests no length
unfoldable pub judge_fill : ℕ → ℕ → ℕ → ℕ → Judged
judge_fill unit a n w =
    if eqb n 0 then bad 5
    else if ltb 65536 n then bad 11
    else if not (eqb (a % 4) 0) then bad 3
    else if not (eqb (n % unit) 0) then bad 12
    else good (fill_row a n w)

-- the same, with "put data past the data length, 2"; the data offset o is "counted from the data"
unfoldable pub judge_data : ℕ → List ℕ → ℕ → ℕ → ℕ → Judged
judge_data unit s a n o =
    if ltb (data_length s) (o + n) then bad 2
    else if not (eqb (n % unit) 0) then bad 12
    else good (put_row a (data_at s + o) n)

unfoldable pub judge_put : ℕ → List ℕ → ℕ → ℕ → ℕ → Judged
judge_put unit s a n o =
    if eqb n 0 then bad 5
    else if ltb 65536 n then bad 11
    else if not (eqb (a % 4) 0) then bad 3
    else judge_data unit s a n o

-- "kind (1 put, 2 fill, 3 run), address, length in bytes, and data offset (put ..) or word (fill)"; "unknown kind, 11"
unfoldable pub judge_kind : ℕ → List ℕ → ℕ → ℕ → ℕ → ℕ → Judged
judge_kind unit s k a n w =
    if eqb k 1 then judge_put unit s a n w
    else if eqb k 2 then judge_fill unit a n w
    else if eqb k 3 then judge_run a n w
    else bad 11

-- the row whose four words stand at offset p
unfoldable pub judge_at : ℕ → List ℕ → ℕ → Judged
judge_at unit s p =
    judge_kind unit s (little_endian_at 4 s p) (little_endian_at 4 s (p + 4)) (little_endian_at 4 s (p + 8)) (little_endian_at 4 s (p + 12))

-- the row of the piece with index i
unfoldable pub piece_at : ℕ → List ℕ → ℕ → Judged
piece_at unit s i = judge_at unit s (table_of s + 16 * i)

-- the pieces of a plan, or of an image that is read back
pub data Read : Type 0 where
  refused : ℕ → ℕ → Read  -- number, index of the piece or of the entry
  pieces : List Piece → Read

abbrev pub before : Piece → Read → Read
before p (refused n i) = refused n i
before p (pieces ps) = pieces (p ∷ ps)

-- the row with index i, and what follows it in the plan s
abbrev pub next : List ℕ → Judged → ℕ → Read → Read
next s (good row) i r = before (piece_in s row) r
next s (bad n) i r = refused n i

-- k pieces, the first of which has index i
unfoldable pub read_pieces : ℕ → List ℕ → ℕ → ℕ → Read
read_pieces unit s zero i = pieces []
read_pieces unit s (suc k) i = next s (piece_at unit s i) i (read_pieces unit s k (suc i))

-- what the tests of the header give
pub data HeaderJudged : Type 0 where
  counts : ℕ → HeaderJudged  -- the number of pieces
  fails : ℕ → HeaderJudged  -- number

-- "Order: under 16 bytes, 2; count over 64, 11; table, then data, ending past the plan (offset + length, even if empty), 2."
unfoldable pub judge_header : List ℕ → HeaderJudged
judge_header s =
    if ltb (length s) 16 then fails 2
    else if ltb 64 (count_of s) then fails 11
    else if ltb (length s) (table_of s + 16 * count_of s) then fails 2
    else if ltb (length s) (data_at s + data_length s) then fails 2
    else counts (count_of s)

-- the header, and what follows it: by the number of pieces
abbrev pub headed : HeaderJudged → (ℕ → Read) → Read
headed (counts k) r = r k
headed (fails n) r = refused n 0

-- "Per piece"
unfoldable pub read_plan : ℕ → List ℕ → Read
read_plan unit s = headed (judge_header s) (λ k. read_pieces unit s k 0)
