-- Pieces split into parts (paper 02, C-20): "a put or fill may be split into consecutive parts".
use Rattle.std.specs.Prelude.{◌≡◌, ℕ, zero, suc, ◌+◌, ◌-◌, ◌%◌, ◌<◌, ◌≤◌, List, [], ◌∷◌, ◌++◌, length, take, drop}
use Rattle.plan.specs.Plan.{Piece, put, fill, run, address_of}

-- ---- a piece
-- the number of bytes that it stores
abbrev pub size_of : Piece → ℕ
size_of (put a d) = length d
size_of (fill a l w) = l
size_of (run a) = 0

-- its first n bytes
abbrev pub first_part : ℕ → Piece → Piece
first_part n (put a d) = put a (take n d)
first_part n (fill a l w) = fill a n w
first_part n (run a) = run a

-- what is left of it behind them
abbrev pub rest_of : ℕ → Piece → Piece
rest_of n (put a d) = put (a + n) (drop n d)
rest_of n (fill a l w) = fill (a + n) (l - n) w
rest_of n (run a) = run a

-- ---- its parts
-- "each a non-zero multiple of 32 bytes, none past the piece's end, none beginning past address 4,294,967,295": n bytes at address a, of a
-- piece that has l bytes from there on
pub record Part (a l n : ℕ) : Type 0 where
  pub some : 0 < n
  pub whole : n % 32 ≡ 0
  pub inside : n ≤ l
  pub low : a < 4294967296

-- the first n bytes of a put or fill are a part of it; a run is whole
abbrev pub FirstPart : ℕ → Piece → Type 0
FirstPart n (put a d) = Part a (length d) n
FirstPart n (fill a l w) = Part a l n
FirstPart n (run a) = n ≡ 0

-- all bytes of a piece, in "consecutive parts" of these lengths; a run has none
abbrev pub Split : Piece → List ℕ → Type 0
Split p [] = size_of p ≡ 0
Split p (n ∷ ns) = Part (address_of p) (size_of p) n × Split (rest_of n p) ns

-- the parts of a put or fill, as pieces
abbrev pub split_at : Piece → List ℕ → List Piece
split_at p [] = []
split_at p (n ∷ ns) = first_part n p ∷ split_at (rest_of n p) ns

-- the parts of any piece: a run stays whole
abbrev pub parts_of : Piece → List ℕ → List Piece
parts_of (put a d) ns = split_at (put a d) ns
parts_of (fill a l w) ns = split_at (fill a l w) ns
parts_of (run a) ns = run a ∷ []

-- ---- of all pieces, each with the lengths of its parts
abbrev pub SplitAll : List Piece → List (List ℕ) → Type 0
SplitAll [] [] = Unit {0}
SplitAll [] (ns ∷ cs) = ⊥
SplitAll (p ∷ ps) [] = ⊥
SplitAll (p ∷ ps) (ns ∷ cs) = Split p ns × SplitAll ps cs

-- their parts, in plan order
abbrev pub parts : List Piece → List (List ℕ) → List Piece
parts [] cs = []
parts (p ∷ ps) [] = []
parts (p ∷ ps) (ns ∷ cs) = parts_of p ns ++ parts ps cs

-- how many parts come before those of piece i; at the count of the pieces, how many there are
abbrev pub parts_before : List Piece → List (List ℕ) → ℕ → ℕ
parts_before ps cs zero = 0
parts_before [] cs (suc i) = 0
parts_before (p ∷ ps) [] (suc i) = 0
parts_before (p ∷ ps) (ns ∷ cs) (suc i) = length (parts_of p ns) + parts_before ps cs i
