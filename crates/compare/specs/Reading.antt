-- Which plans can be compared, and what of them is (paper 02, C-18).
pub mod Stretch
use Rattle.std.specs.Prelude.{Bool, true, false, List, [], ◌∷◌, ℕ, zero, suc, ◌+◌, ◌≤◌, ltb, eqb, length, if◌then◌else◌}
use Rattle.plan.specs.Plan.{Piece, put, fill, run, Row, put_row, fill_row, run_row, Judged, good, bad, piece_at, Read, pieces, next, judge_header, headed}

-- the number of addresses; the last one is 4,294,967,295
abbrev pub addresses : ℕ
addresses = 4294967296

-- ---- the tests
-- n bytes from address a on: the range "ends past address 4,294,967,295"
abbrev pub ends_past : ℕ → ℕ → Bool
ends_past a n = ltb addresses (a + n)

abbrev pub judge_end : ℕ → ℕ → Row → Judged
judge_end a n row = if ends_past a n then bad 19 else good row

-- "last per piece, a put or fill that ends past address 4,294,967,295 is new number 19"
abbrev pub judge_last : Judged → Judged
judge_last (good (put_row a o n)) = judge_end a n (put_row a o n)
judge_last (good (fill_row a n w)) = judge_end a n (fill_row a n w)
judge_last (good (run_row a)) = good (run_row a)
judge_last (bad x) = bad x

-- the piece with index i. "12 not tested": a unit of 1 tests no length
unfoldable pub compared_at : List ℕ → ℕ → Judged
compared_at s i = judge_last (piece_at 1 s i)

-- k pieces, the first of which has index i
unfoldable pub compared_pieces : List ℕ → ℕ → ℕ → Read
compared_pieces s zero i = pieces []
compared_pieces s (suc k) i = next s (compared_at s i) i (compared_pieces s k (suc i))

-- "A refused plan gives 01's number"
unfoldable pub read_compared : List ℕ → Read
read_compared s = headed (judge_header s) (λ k. compared_pieces s k 0)

-- of a piece: it ends at address b or before it; a run stores nothing
abbrev pub EndsBy : ℕ → Piece → Type 0
EndsBy b (put a d) = a + length d ≤ b
EndsBy b (fill a n w) = a + n ≤ b
EndsBy b (run a) = Unit {0}

-- ---- runs
pub data Run : Type 0 where
  none : Run
  at : ℕ → Run  -- address

-- the run that ends "the stretch from index 0"
unfoldable pub run_of : List Piece → Run
run_of [] = none
run_of (put a d ∷ ps) = run_of ps
run_of (fill a n w ∷ ps) = run_of ps
run_of (run a ∷ ps) = at a

-- "whether the runs are the same (one address, or neither has a run)"
abbrev pub same_run : Run → Run → Bool
same_run none none = true
same_run (at a) (at b) = eqb a b
same_run none (at b) = false
same_run (at a) none = false
