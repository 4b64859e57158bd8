-- Computed examples of images read back (paper 02, C-11).
use Rattle.std.specs.Prelude.{◌≡◌, refl, List, [], ◌∷◌, ◌++◌, ℕ, zero, suc, take, drop, replicate}
use Rattle.words.specs.Four.{four_bytes}
use Rattle.plan.specs.Plan.{Piece, put, fill, run, refused, pieces}
use Rattle.plan.specs.Packed.{packs, refuses}
use Rattle.aplx_read.specs.PlanBytes.{plan_bytes}
use Rattle.aplx_read.specs.ReadBack.{read_image, read_back}
use Rattle.aplx_read.specs.Open as group

-- an end entry; its arguments are ignored
unfoldable end : List ℕ
end = four_bytes 0xffffffff 1 2 3

-- an entry, and the end
unfoldable one : ℕ → ℕ → ℕ → ℕ → List ℕ
one c x y z = four_bytes c x y z ++ end

-- so many runs
unfoldable runs : ℕ → List ℕ
runs zero = []
runs (suc k) = four_bytes 4 8193 0 0 ++ runs k

-- ---- what is read
-- a put, a fill, a run and a second put at a lower address, whose data stands before that of the first
unfoldable four : List ℕ
four =
    four_bytes 2 8320 112 32 ++ (four_bytes 3 8256 64 5 ++ (four_bytes 4 8193 7 8 ++ (four_bytes 2 8192 32 32 ++ (end ++ (replicate 32 9 ++ replicate 32 7)))))

abbrev their_pieces : List Piece
their_pieces = put 8320 (replicate 32 7) ∷ fill 8256 64 5 ∷ run 8193 ∷ put 8192 (replicate 32 9) ∷ []

record Images : Type 0 where
  pub all_kinds : read_image four ≡ pieces their_pieces
  pub no_pieces : read_image end ≡ pieces []
  -- bytes behind the image
  pub more_bytes : read_image (end ++ four) ≡ pieces []
  -- two puts with one copy of their data, and with data that overlaps
  pub shared : read_image (four_bytes 2 0 48 32 ++ (four_bytes 2 64 32 32 ++ (end ++ replicate 32 7)))
      ≡ pieces (put 0 (replicate 32 7) ∷ put 64 (replicate 32 7) ∷ [])
  pub overlapping : read_image (four_bytes 2 0 48 32 ++ (four_bytes 2 64 36 32 ++ (end ++ (replicate 32 7 ++ replicate 4 8))))
      ≡ pieces (put 0 (replicate 32 7) ∷ put 64 (replicate 28 7 ++ replicate 4 8) ∷ [])
  -- data over the entries, and before its entry
  pub over-entries : read_image (one 2 8192 0 32) ≡ pieces (put 8192 (one 2 8192 0 32) ∷ [])
  pub backwards : read_image (four_bytes 4 8193 0 0 ++ one 2 8192 0xfffffff0 32)
      ≡ pieces (run 8193 ∷ put 8192 (four_bytes 4 8193 0 0 ++ four_bytes 2 8192 0xfffffff0 32) ∷ [])
  -- a Thumb entry, as written
  pub thumb : read_image (one 4 8195 0 0) ≡ pieces (run 8195 ∷ [])
  -- the longest length
  pub longest : read_image (one 3 8192 65536 5) ≡ pieces (fill 8192 65536 5 ∷ [])

images : Images
unfolding group.reader four end one
images = record {
  all_kinds = refl;
  no_pieces = refl;
  more_bytes = refl;
  shared = refl;
  overlapping = refl;
  over-entries = refl;
  backwards = refl;
  thumb = refl;
  longest = refl;
}

-- ---- what is refused
record Refusals : Type 0 where
  pub cut_short : read_image [] ≡ refused 2 0
  pub entry-cut-short : read_image (take 15 end) ≡ refused 2 0
  pub no_end : read_image (four_bytes 4 8193 0 0) ≡ refused 2 1
  pub acopy : read_image (one 1 8192 0 32) ≡ refused 20 0
  pub unknown-word : read_image (one 5 8192 0 32) ≡ refused 20 0
  pub zero_word : read_image (one 0 8192 0 32) ≡ refused 20 0
  pub run-two : read_image (one 4 8194 0 0) ≡ refused 9 0
  pub zero-length : read_image (one 3 8193 0 5) ≡ refused 5 0
  pub not-whole : read_image (one 3 8193 33 5) ≡ refused 22 0
  pub too_long : read_image (one 3 8193 65568 5) ≡ refused 22 0
  pub unaligned : read_image (one 3 8193 32 5) ≡ refused 3 0
  pub unaligned-offset : read_image (one 2 8192 2 64) ≡ refused 3 0
  pub outside : read_image (one 2 8192 4 32) ≡ refused 23 0
  -- the length before the destination, the destination before the data
  pub length-first : read_image (one 2 8193 4 33) ≡ refused 22 0
  pub destination-first : read_image (one 2 8193 4 32) ≡ refused 3 0
  -- only the start of the data wraps
  pub far-outside : read_image (one 2 8192 0xffffffe0 64) ≡ refused 23 0
  -- the second entry
  pub second : read_image (four_bytes 4 8193 0 0 ++ one 3 8192 0 5) ≡ refused 5 1

refusals : Refusals
unfolding group.reader end one
refusals = record {
  cut_short = refl;
  entry-cut-short = refl;
  no_end = refl;
  acopy = refl;
  unknown-word = refl;
  zero_word = refl;
  run-two = refl;
  zero-length = refl;
  not-whole = refl;
  too_long = refl;
  unaligned = refl;
  unaligned-offset = refl;
  outside = refl;
  length-first = refl;
  destination-first = refl;
  far-outside = refl;
  second = refl;
}

-- ---- 64 pieces, and an entry behind them
record Limits : Type 0 where
  pub sixty-four : read_image (runs 64 ++ end) ≡ pieces (replicate 64 (run 8193))
  pub no-sixty-fifth : read_image (runs 64) ≡ refused 2 64
  pub sixty-five : read_image (runs 65 ++ end) ≡ refused 21 64
  pub sixty-fifth-unknown : read_image (runs 64 ++ one 1 8192 0 32) ≡ refused 20 64
  pub sixty-fifth-empty : read_image (runs 64 ++ one 3 8192 0 0) ≡ refused 21 64

limits : Limits
unfolding group.reader end one runs
limits = record { sixty-four = refl; no-sixty-fifth = refl; sixty-five = refl; sixty-fifth-unknown = refl; sixty-fifth-empty = refl }

-- ---- the plan
record Plans : Type 0 where
  pub none : plan_bytes [] ≡ four_bytes 0 16 16 0
  pub header : take 16 (plan_bytes their_pieces) ≡ four_bytes 4 16 80 64
  pub table : take 64 (drop 16 (plan_bytes their_pieces)) ≡ four_bytes 1 8320 32 0 ++ (four_bytes 2 8256 64 5 ++ (four_bytes 3 8193 0 0 ++ four_bytes 1 8192 32 32))
  pub in_order : drop 80 (plan_bytes their_pieces) ≡ replicate 32 7 ++ replicate 32 9
  pub fits : read_back four 144 ≡ packs (plan_bytes their_pieces)
  pub too_small : read_back four 143 ≡ refuses 10 4
  -- 10 comes last
  pub refused-first : read_back (one 1 0 0 0) 0 ≡ refuses 20 0

plans : Plans
unfolding group.reader four end one
plans = record { none = refl; header = refl; table = refl; in_order = refl; fits = refl; too_small = refl; refused-first = refl }
