-- Computed examples of the check (paper 02, C-20).
use Rattle.std.specs.Prelude.{◌≡◌, ℕ, List, [], ◌∷◌, ◌++◌, take, replicate, refl}
use Rattle.words.specs.Four.{four_bytes}
use Rattle.plan.specs.Plan.{Piece, put, fill, run}
use Rattle.aplx_check.specs.Check.{accepted, refuses, check_pieces, check}
use Rattle.aplx_check.specs.Open as group

-- ---- a plan and its images
-- 64 bytes, of two kinds
unfoldable bytes : List ℕ
bytes = replicate 32 7 ++ replicate 32 9

-- a put, a fill, a run, and the put's bytes again, at a lower address
unfoldable plan : List Piece
plan = put 8256 bytes ∷ fill 8320 64 5 ∷ run 8193 ∷ put 8192 bytes ∷ []

-- an end entry, with any unused words
unfoldable last : List ℕ
last = four_bytes 0xffffffff 1 2 3

-- an entry, and an end entry
unfoldable one : ℕ → ℕ → ℕ → ℕ → List ℕ
one c x y z = four_bytes c x y z ++ last

-- all in one part each; both puts have one copy of their data
unfoldable whole : List ℕ
whole = four_bytes 2 8256 80 64 ++ (four_bytes 3 8320 64 5 ++ (four_bytes 4 8193 0 0 ++ (four_bytes 2 8192 32 64 ++ (last ++ bytes))))

-- all in two parts; the data is shared, and stands in another order
unfoldable split : List ℕ
split =
    four_bytes 2 8256 160 32 ++ (four_bytes 2 8288 112 32 ++ (four_bytes 3 8320 32 5 ++ (four_bytes 3 8352 32 5 ++ (four_bytes 4 8193 6 7
    ++ (four_bytes 2 8192 80 32 ++ (four_bytes 2 8224 32 32 ++ (last ++ (replicate 32 9 ++ replicate 32 7))))))))

record Accepted : Type 0 where
  pub in-one-part : check_pieces whole plan ≡ accepted
  pub in_parts : check_pieces split plan ≡ accepted
  pub no_pieces : check_pieces last [] ≡ accepted
  -- bytes behind the data
  pub more_bytes : check_pieces (whole ++ last) plan ≡ accepted
  -- data 4 bytes behind the end entry
  pub later-data : check_pieces (one 2 8192 36 32 ++ replicate 36 7) (put 8192 (replicate 32 7) ∷ []) ≡ accepted
  -- a piece that only ends past the last address
  pub ends-past : check_pieces (one 3 4294967264 64 5) (fill 4294967264 64 5 ∷ []) ≡ accepted

accepted-images : Accepted
unfolding group.checker bytes plan last one whole split
accepted-images = record { in-one-part = refl; in_parts = refl; no_pieces = refl; more_bytes = refl; later-data = refl; ends-past = refl }

-- ---- the plan, and the end word
record Order : Type 0 where
  -- the plan's refusal comes first; a length of 20 is no fault of the plan, and no part of it can be written
  pub plan-cut : check [] [] ≡ refuses 2 0
  pub plan-zero : check (four_bytes 1 16 32 0 ++ four_bytes 2 8256 0 5) last ≡ refuses 5 0
  pub plan-twenty : check (four_bytes 1 16 32 0 ++ four_bytes 2 8256 20 5) (one 3 8256 20 5) ≡ refuses 30 0
  -- then the end word, before any entry is looked at
  pub empty-slice : check_pieces [] [] ≡ refuses 30 0
  pub no-end-word : check_pieces (take 112 split) plan ≡ refuses 30 7
  pub end-cut : check_pieces (take 127 split) plan ≡ refuses 30 7
  pub wrong-entry : check_pieces (take 16 (one 1 8256 0 32)) plan ≡ refuses 30 1

order : Order
unfolding group.checker bytes plan last one split
order = record {
  plan-cut = refl;
  plan-zero = refl;
  plan-twenty = refl;
  empty-slice = refl;
  no-end-word = refl;
  end-cut = refl;
  wrong-entry = refl;
}

-- ---- what another firm's packer may get wrong: each is refused at the entry in which it stands
-- two fills of 64 bytes, the second at a lower address
abbrev fills : List Piece
fills = fill 8256 64 5 ∷ fill 8192 64 6 ∷ []

-- a put of 32 sevens
abbrev sevens : List Piece
sevens = put 8192 (replicate 32 7) ∷ []

-- two entries, and an end entry
unfoldable two : List ℕ → List ℕ → List ℕ
two x y = x ++ (y ++ last)

record Faults : Type 0 where
  pub sorted-by-address : check_pieces (two (four_bytes 3 8192 64 6) (four_bytes 3 8256 64 5)) fills ≡ refuses 30 0
  pub in_order : check_pieces (two (four_bytes 3 8256 64 5) (four_bytes 3 8192 64 6)) fills ≡ accepted
  -- 40 bytes, padded to 64; in parts of 32 and 32
  pub padded-put : check_pieces (one 2 8192 32 64 ++ replicate 64 7) (put 8192 (replicate 40 7) ∷ []) ≡ refuses 30 0
  pub padded-part : check_pieces (two (four_bytes 2 8192 48 32) (four_bytes 2 8224 32 32) ++ replicate 64 7) (put 8192 (replicate 40 7) ∷ []) ≡ refuses 30 1
  -- a part that runs into the next piece, which begins where the first ends
  pub over-next : check_pieces (two (four_bytes 3 8192 128 5) (four_bytes 3 8256 64 5)) (fill 8192 64 5 ∷ fill 8256 64 5 ∷ []) ≡ refuses 30 0
  pub over-next-later : check_pieces (two (four_bytes 3 8192 32 5) (four_bytes 3 8224 64 5)) (fill 8192 64 5 ∷ []) ≡ refuses 30 1
  -- two pieces in one entry
  pub joined : check_pieces (one 3 8192 128 5) (fill 8192 64 5 ∷ fill 8256 64 5 ∷ []) ≡ refuses 30 0
  -- the same bytes are in the header; the data covers the end entry
  pub in-header : check_pieces (one 2 8192 0 32) (put 8192 (one 2 8192 0 32) ∷ []) ≡ refuses 30 0
  pub over-end : check_pieces (one 2 8192 16 32 ++ replicate 16 7) (put 8192 (last ++ replicate 16 7) ∷ []) ≡ refuses 30 0
  pub acopy : check_pieces (one 1 8192 32 32 ++ replicate 32 7) sevens ≡ refuses 30 0
  pub unknown-word : check_pieces (one 5 8192 32 32 ++ replicate 32 7) sevens ≡ refuses 30 0
  pub end-early : check_pieces (one 3 8256 64 5) fills ≡ refuses 30 1
  pub end-in-piece : check_pieces (one 3 8256 32 5) (fill 8256 64 5 ∷ []) ≡ refuses 30 1
  pub end-late : check_pieces (two (four_bytes 3 8256 64 5) (four_bytes 3 8256 64 5)) (fill 8256 64 5 ∷ []) ≡ refuses 30 1
  pub not-of-32 : check_pieces (two (four_bytes 3 8256 20 5) (four_bytes 3 8276 44 5)) (fill 8256 64 5 ∷ []) ≡ refuses 30 0
  pub no_bytes : check_pieces (two (four_bytes 3 8256 0 5) (four_bytes 3 8256 64 5)) (fill 8256 64 5 ∷ []) ≡ refuses 30 0
  -- a fill whose second part begins in mid-word
  pub mid-word : check_pieces (two (four_bytes 3 8256 34 0x04030201) (four_bytes 3 8290 30 0x02010403)) (fill 8256 64 0x04030201 ∷ []) ≡ refuses 30 0
  pub as-put : check_pieces (one 2 8256 32 32 ++ replicate 32 0) (fill 8256 32 0 ∷ []) ≡ refuses 30 0
  pub other_word : check_pieces (one 3 8256 64 6) (fill 8256 64 5 ∷ []) ≡ refuses 30 0
  pub other-address : check_pieces (one 3 8260 64 5) (fill 8256 64 5 ∷ []) ≡ refuses 30 0
  pub thumb-as-arm : check_pieces (one 4 8192 0 0) (run 8193 ∷ []) ≡ refuses 30 0
  -- the second part would begin at address 4,294,967,296
  pub begins-past : check_pieces (two (four_bytes 3 4294967264 32 5) (four_bytes 3 0 32 5)) (fill 4294967264 64 5 ∷ []) ≡ refuses 30 1
  pub unaligned-data : check_pieces (one 2 8192 34 32 ++ replicate 36 7) sevens ≡ refuses 30 0
  pub data-cut : check_pieces (one 2 8192 36 32 ++ replicate 32 7) sevens ≡ refuses 30 0
  pub other-bytes : check_pieces (one 2 8192 32 32 ++ (replicate 31 7 ++ replicate 1 8)) sevens ≡ refuses 30 0

faults : Faults
unfolding group.checker last one two
faults = record {
  sorted-by-address = refl;
  in_order = refl;
  padded-put = refl;
  padded-part = refl;
  over-next = refl;
  over-next-later = refl;
  joined = refl;
  in-header = refl;
  over-end = refl;
  acopy = refl;
  unknown-word = refl;
  end-early = refl;
  end-in-piece = refl;
  end-late = refl;
  not-of-32 = refl;
  no_bytes = refl;
  mid-word = refl;
  as-put = refl;
  other_word = refl;
  other-address = refl;
  thumb-as-arm = refl;
  begins-past = refl;
  unaligned-data = refl;
  data-cut = refl;
  other-bytes = refl;
}
