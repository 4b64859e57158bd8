-- Computed examples of compared plans; those of stretches are below a small bound.
use Rattle.std.specs.Prelude.{◌≡◌, refl, true, false, List, [], ◌∷◌, ◌++◌, ℕ, replicate}
use Rattle.words.specs.Bytes.{little_endian}
use Rattle.word_blocks.specs.Open.{rows}
use Rattle.plan.specs.Plan.{Piece, put, fill, run, refused, pieces}
use Rattle.plan.specs.Meaning.{stretch, stored_by}
use Rattle.plan.specs.Open.{reader}
use Rattle.stretches.specs.Stretches.{add, below}
use Rattle.stretches.specs.Stretches.Words.{words_of}
use Rattle.words.specs.Four.{four_bytes}
use Rattle.compare.specs.LastByte.{after, after_all, last_byte}
use Rattle.compare.specs.Reading.{compared_at, compared_pieces, read_compared, run_of}
use Rattle.compare.specs.Compare.{neither, old_plan, new_plan, Compared, refuses, finds, limited, compared_below, stretch_bytes, compared, output_after}

shown : Compared → List ℕ
shown (refuses w x i) = x ∷ i ∷ []
shown (finds l b) = words_of l

of : List Piece → List Piece → Compared
of old new = compared_below 64 (pieces old) (pieces new)

-- a fill, and a correction listed after it
corrected : List Piece
corrected = fill 4 8 0x01020304 ∷ put 6 (9 ∷ 9 ∷ []) ∷ []

words : List ℕ → List ℕ
words [] = []
words (w ∷ ws) = little_endian 4 w ++ words ws

-- a plan of these pieces, four words each, without data
plan : ℕ → List ℕ → List ℕ
plan count table = words (count ∷ 16 ∷ 16 ∷ 0 ∷ []) ++ words table

record Examples : Type 0 where
  pub itself : of corrected corrected ≡ finds [] true
  -- the last byte counts
  pub last_byte_lem : shown (of (fill 4 8 0x01020304 ∷ []) corrected) ≡ 6 ∷ 7 ∷ 2 ∷ 9 ∷ []
  pub equal-bytes : shown (of (fill 4 8 0x01020304 ∷ []) (put 4 (4 ∷ 3 ∷ 2 ∷ 1 ∷ 4 ∷ []) ∷ put 9 (3 ∷ 2 ∷ 1 ∷ []) ∷ [])) ≡ []
  -- one stretch over bytes that differ and bytes that only one stores
  pub joined : shown (of (fill 4 8 0 ∷ []) (fill 8 8 1 ∷ [])) ≡ 4 ∷ 8 ∷ 0 ∷ 256 ∷ 12 ∷ 15 ∷ 256 ∷ 1 ∷ []
  -- only up to the first run; the runs differ
  pub behind-run : of (run 4 ∷ fill 8 8 0 ∷ []) (run 8 ∷ []) ≡ finds [] false
  pub no-runs : of [] [] ≡ finds [] true
  pub one-run : of (run 4 ∷ []) [] ≡ finds [] false
  pub too_many : limited (replicate 513 (record { first = 0; last = 0; old = 0; new = 1 })) true ≡ refuses neither 18 512
  pub enough : limited (replicate 512 (record { first = 0; last = 0; old = 0; new = 1 })) true ≡ finds (replicate 512 (record { first = 0; last = 0; old = 0; new = 1 })) true
  -- 19 is last for a piece, and before the next piece
  pub past : read_compared (plan 1 (2 ∷ 0xfffffff0 ∷ 17 ∷ 0 ∷ [])) ≡ refused 19 0
  pub not-past : read_compared (plan 1 (2 ∷ 0xfffffff0 ∷ 16 ∷ 0 ∷ [])) ≡ pieces (fill 0xfffffff0 16 0 ∷ [])
  pub past-run : read_compared (plan 2 (3 ∷ 0xffffffff ∷ 0 ∷ 0 ∷ 2 ∷ 0xfffffff0 ∷ 17 ∷ 0 ∷ [])) ≡ refused 19 1
  pub past_first : read_compared (plan 2 (2 ∷ 0xfffffff0 ∷ 17 ∷ 0 ∷ 9 ∷ 0 ∷ 0 ∷ 0 ∷ [])) ≡ refused 19 0
  pub past-behind-run : read_compared (plan 3 (3 ∷ 0 ∷ 0 ∷ 0 ∷ 2 ∷ 0 ∷ 4 ∷ 0 ∷ 2 ∷ 0xfffffff0 ∷ 20 ∷ 0 ∷ [])) ≡ refused 19 2
  pub past-last : read_compared (plan 1 (2 ∷ 0xfffffff1 ∷ 17 ∷ 0 ∷ [])) ≡ refused 3 0
  -- 12 is not tested
  pub any-length : read_compared (plan 1 (2 ∷ 0 ∷ 5 ∷ 0 ∷ [])) ≡ pieces (fill 0 5 0 ∷ [])
  -- 10 before all, then the old plan, then the new
  pub small : compared 8191 [] [] ≡ refuses neither 10 0
  pub old-first : compared 8192 [] [] ≡ refuses old_plan 2 0
  pub old-both : compared 8192 (plan 1 (2 ∷ 0 ∷ 0 ∷ 0 ∷ [])) (plan 1 (9 ∷ 0 ∷ 0 ∷ 0 ∷ [])) ≡ refuses old_plan 5 0
  pub new-next : compared 8192 (plan 0 []) [] ≡ refuses new_plan 2 0
  -- the output: the stretches at its front; a refusal leaves it
  pub left : output_after (of [] (put 5 (7 ∷ []) ∷ [])) (replicate 18 9) ≡ four_bytes 5 5 256 7 ++ 9 ∷ 9 ∷ []
  pub left-refused : output_after (refuses neither 18 512) (9 ∷ 9 ∷ []) ≡ 9 ∷ 9 ∷ []

examples : Examples
unfolding shown of corrected words plan rows reader stretch add below words_of stored_by after after_all last_byte compared_at compared_pieces read_compared run_of compared_below stretch_bytes compared four_bytes
examples = record {
  itself = refl;
  last_byte_lem = refl;
  equal-bytes = refl;
  joined = refl;
  behind-run = refl;
  no-runs = refl;
  one-run = refl;
  too_many = refl;
  enough = refl;
  past = refl;
  not-past = refl;
  past-run = refl;
  past_first = refl;
  past-behind-run = refl;
  past-last = refl;
  any-length = refl;
  small = refl;
  old-first = refl;
  old-both = refl;
  new-next = refl;
  left = refl;
  left-refused = refl;
}
