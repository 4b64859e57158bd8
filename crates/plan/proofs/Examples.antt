-- Computed examples of plans: what is read, and what it means (paper 01, "Plans").
use Rattle.std.specs.Prelude.{◌≡◌, refl, true, List, [], ◌∷◌, ◌++◌, ℕ, ◌+◌, ◌*◌, length, take, replicate, Ok, Err}
use Rattle.words.specs.Bytes.{little_endian}
use Rattle.memory_map.specs.Lookup.{Lookup, lookup_in}
use Rattle.outcome.specs.declared.refusal.Cause.TheVariants.{OutputTooSmall}
use Rattle.plan.specs.Code as reader
use Rattle.plan.specs.Code.Packer.{outcome_is}
use Rattle.plan.specs.Plan.{Piece, put, fill, run, put_bytes, fill_bytes, put_row, good, piece_at, refused, pieces, read_plan}
use Rattle.plan.specs.Packed.{refuses, packs, packed_as, refusal, sized}
use Rattle.plan.specs.Meaning.{ends, runs, denies, meaning}
use Rattle.plan.specs.Open as group

words : List ℕ → List ℕ
words [] = []
words (w ∷ ws) = little_endian 4 w ++ words ws

-- a plan of these pieces, four words each, with the data behind the table
plan : ℕ → List ℕ → List ℕ → List ℕ
plan count table bytes = words (count ∷ 16 ∷ (16 + 16 * count) ∷ length bytes ∷ []) ++ (words table ++ bytes)

ones : List ℕ
ones = replicate 32 1

record Plans : Type 0 where
  pub empty : read_plan 32 (plan 0 [] []) ≡ pieces []
  pub three : read_plan 32 (plan 3 (1 ∷ 4096 ∷ 32 ∷ 0 ∷ 2 ∷ 4160 ∷ 64 ∷ 5 ∷ 3 ∷ 4097 ∷ 0 ∷ 0 ∷ []) ones) ≡ pieces (put 4096 ones ∷ fill 4160 64 5 ∷ run 4097 ∷ [])
  -- the data offset counts from the data
  pub offset : read_plan 4 (plan 1 (1 ∷ 4096 ∷ 4 ∷ 2 ∷ []) (9 ∷ 9 ∷ 1 ∷ 2 ∷ 3 ∷ 4 ∷ [])) ≡ pieces (put 4096 (1 ∷ 2 ∷ 3 ∷ 4 ∷ []) ∷ [])
  pub cut-header : read_plan 32 (take 15 (plan 0 [] [])) ≡ refused 2 0
  pub too_many : read_plan 32 (plan 65 [] []) ≡ refused 11 0
  pub cut-table : read_plan 32 (take 31 (plan 1 (3 ∷ 0 ∷ 0 ∷ 0 ∷ []) [])) ≡ refused 2 0
  pub cut-data : read_plan 32 (take 40 (plan 1 (3 ∷ 0 ∷ 0 ∷ 0 ∷ []) ones)) ≡ refused 2 0
  pub kind : read_plan 32 (plan 1 (4 ∷ 0 ∷ 0 ∷ 0 ∷ []) []) ≡ refused 11 0
  pub run_length : read_plan 32 (plan 1 (3 ∷ 2 ∷ 4 ∷ 0 ∷ []) []) ≡ refused 11 0
  pub run-word : read_plan 32 (plan 1 (3 ∷ 2 ∷ 0 ∷ 4 ∷ []) []) ≡ refused 11 0
  pub run-two : read_plan 32 (plan 1 (3 ∷ 2 ∷ 0 ∷ 0 ∷ []) []) ≡ refused 9 0
  -- 5 before 11 and 3, 11 before 3, 3 before 2, 2 before 12
  pub zero-first : read_plan 32 (plan 1 (2 ∷ 1 ∷ 0 ∷ 0 ∷ []) []) ≡ refused 5 0
  pub long-first : read_plan 32 (plan 1 (2 ∷ 1 ∷ 65537 ∷ 0 ∷ []) []) ≡ refused 11 0
  pub unaligned-first : read_plan 32 (plan 1 (1 ∷ 1 ∷ 20 ∷ 99 ∷ []) []) ≡ refused 3 0
  pub outside-first : read_plan 32 (plan 1 (1 ∷ 0 ∷ 20 ∷ 99 ∷ []) []) ≡ refused 2 0
  pub twenty-aplx : read_plan 32 (plan 1 (1 ∷ 0 ∷ 20 ∷ 0 ∷ []) ones) ≡ refused 12 0
  pub twenty-srom : read_plan 4 (plan 1 (1 ∷ 0 ∷ 20 ∷ 0 ∷ []) ones) ≡ pieces (put 0 (replicate 20 1) ∷ [])
  pub six-srom : read_plan 4 (plan 1 (2 ∷ 0 ∷ 6 ∷ 0 ∷ []) []) ≡ refused 12 0
  pub six-any : read_plan 1 (plan 1 (2 ∷ 0 ∷ 6 ∷ 0 ∷ []) []) ≡ pieces (fill 0 6 0 ∷ [])
  -- 12 at piece 0 before 11 at piece 1
  pub in_order : read_plan 32 (plan 2 (2 ∷ 0 ∷ 20 ∷ 0 ∷ 9 ∷ 0 ∷ 0 ∷ 0 ∷ []) []) ≡ refused 12 0
  pub second : read_plan 32 (plan 2 (2 ∷ 0 ∷ 32 ∷ 0 ∷ 9 ∷ 0 ∷ 0 ∷ 0 ∷ []) []) ≡ refused 11 1

plans : Plans
unfolding words plan ones group.reader
plans = record {
  empty = refl;
  three = refl;
  offset = refl;
  cut-header = refl;
  too_many = refl;
  cut-table = refl;
  cut-data = refl;
  kind = refl;
  run_length = refl;
  run-word = refl;
  run-two = refl;
  zero-first = refl;
  long-first = refl;
  unaligned-first = refl;
  outside-first = refl;
  twenty-aplx = refl;
  twenty-srom = refl;
  six-srom = refl;
  six-any = refl;
  in_order = refl;
  second = refl;
}

record Rows : Type 0 where
  pub located : piece_at 4 (plan 1 (1 ∷ 4096 ∷ 4 ∷ 2 ∷ []) (9 ∷ 9 ∷ 1 ∷ 2 ∷ 3 ∷ 4 ∷ [])) 0 ≡ good (put_row 4096 34 4)
  -- the same where the plan ends before the data, which the test of the header refuses
  pub past-the-plan : piece_at 4 (take 32 (plan 1 (1 ∷ 4096 ∷ 4 ∷ 2 ∷ []) (9 ∷ 9 ∷ 1 ∷ 2 ∷ 3 ∷ 4 ∷ []))) 0 ≡ good (put_row 4096 34 4)

rows : Rows
unfolding words plan group.reader
rows = record { located = refl; past-the-plan = refl }

-- two puts of 3 bytes in all, two fills of 12, and a run
sizes : List Piece
sizes = put 0 (7 ∷ 7 ∷ []) ∷ fill 8 4 9 ∷ run 5 ∷ fill 16 8 9 ∷ put 4 (7 ∷ []) ∷ []

record Sums : Type 0 where
  pub puts : put_bytes sizes ≡ 3
  pub fills : fill_bytes sizes ≡ 12
  pub whole : reader.outcome_of (pieces sizes) ≡ reader.reads 5 3 12

sums : Sums
unfolding sizes put_bytes fill_bytes
sums = record { puts = refl; fills = refl; whole = refl }

-- 64 bytes at 4096 with every right
find : Lookup
find =
    lookup_in
    (record { base = 4096; length = 64; place = 0; rights = record { read = true; write = true; run = true } } ∷ [])

-- a fill, a correction listed after it, a run, a fill behind it, and a piece that is not permitted
listed : List Piece
listed = fill 4096 8 0x01020304 ∷ put 4098 (9 ∷ 9 ∷ []) ∷ run 4097 ∷ fill 4104 4 1 ∷ fill 0 4 0 ∷ []

abbrev memory : List ℕ
memory = replicate 64 7

record Meanings : Type 0 where
  pub first-stretch : (meaning find listed 0 memory).finish ≡ runs 4097 2
  pub in-plan-order : take 10 (meaning find listed 0 memory).memory ≡ 4 ∷ 3 ∷ 9 ∷ 9 ∷ 4 ∷ 3 ∷ 2 ∷ 1 ∷ 7 ∷ 7 ∷ []
  pub from-the-put : take 5 (meaning find listed 1 memory).memory ≡ 7 ∷ 7 ∷ 9 ∷ 9 ∷ 7 ∷ []
  pub second-stretch : meaning find listed 3 memory ≡ record { finish = denies 4 4; memory = memory }
  pub at-the-end : meaning find listed 5 memory ≡ record { finish = ends 5; memory = memory }
  pub cut-fill : take 7 (meaning find (fill 4096 6 0x01020304 ∷ []) 0 memory).memory ≡ 4 ∷ 3 ∷ 2 ∷ 1 ∷ 4 ∷ 3 ∷ 7 ∷ []
  -- the first piece is permitted and the run is not: nothing is stored
  pub run-denied : meaning find (fill 4096 4 0 ∷ run 4098 ∷ []) 0 memory ≡ record { finish = denies 9 1; memory = memory }

meanings : Meanings
unfolding find listed group.meanings
meanings = record {
  first-stretch = refl;
  in-plan-order = refl;
  from-the-put = refl;
  second-stretch = refl;
  at-the-end = refl;
  cut-fill = refl;
  run-denied = refl;
}

-- an image of 100 bytes, whatever the pieces
hundred : List Piece → List ℕ
hundred ps = replicate 100 0

record Packings : Type 0 where
  pub fits : packed_as hundred (pieces (run 0 ∷ [])) 100 ≡ packs (replicate 100 0)
  pub too_small : packed_as hundred (pieces (run 0 ∷ [])) 99 ≡ refuses 10 1
  -- 10 comes last
  pub refused-first : packed_as hundred (refused 11 1) 0 ≡ refuses 11 1

packings : Packings
unfolding hundred
packings = record { fits = refl; too_small = refl; refused-first = refl }

-- what a packer's answers say
record Answers : Type 0 where
  pub packed : outcome_is (Ok 29) ≡ sized 29
  pub refused : outcome_is (Err (record { cause = OutputTooSmall; place = 3 })) ≡ refusal 10 3

answers : Answers
answers = record { packed = refl; refused = refl }
