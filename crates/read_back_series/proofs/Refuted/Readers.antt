-- Wrong readers: each does what ours does, but for one thing.
use Rattle.std.specs.Prelude.{◌≡◌, refl, not, ◌&&◌, List, [], ◌++◌, ℕ, zero, suc, ◌+◌, ◌*◌, ◌%◌, ltb, leb, eqb, length, if◌then◌else◌}
use Rattle.std.proofs.Common.{ap}
use Rattle.words.specs.Bytes.{little_endian_at}
use Rattle.words.specs.Round.{round_up}
use Rattle.words.specs.Four.{four_bytes}
use Rattle.plan.specs.Plan.{Piece, put_bytes, datas, Read, refused, pieces}
use Rattle.plan.specs.Packed.{refuses, packed_as}
use Rattle.series.proofs.Refuted.Packers.{exchanged, sorted, padded}
use Rattle.aplx_read.specs.PlanBytes.{table, plan_bytes}
use Rattle.aplx_read.specs.ReadBack.{Entry, bad, judge_count, judge_range, judge_copy, judge_words, entry_at, next, read_entries, read_image, read_back}
use Rattle.read_back_series.specs.Claims.{Reader}

-- ---- ours, with another reading of an entry's words (`ours-by-words`: with our own it is ours)
-- the image, the entry's index, and its four words
abbrev Words : Type 0
Words = List ℕ → ℕ → ℕ → ℕ → ℕ → ℕ → Entry

unfoldable pub entry_by : Words → List ℕ → ℕ → Entry
entry_by words image e =
    if ltb (length image) (16 * e + 16) then bad 2
    else words image e (little_endian_at 4 image (16 * e)) (little_endian_at 4 image (16 * e + 4)) (little_endian_at 4 image (16 * e + 8))
    (little_endian_at 4 image (16 * e + 12))

-- k entries at most, from entry e on, and what is said of the entry behind them
unfoldable pub read_by : Words → (ℕ → Read) → List ℕ → ℕ → ℕ → Read
read_by words behind image zero e = behind e
read_by words behind image (suc k) e = next image (entry_by words image e) e (read_by words behind image k (suc e))

abbrev reading : Words → List ℕ → Read
reading words image = read_by words (refused 21) image 65 0

abbrev reading_by : Words → Reader
reading_by words image room = packed_as plan_bytes (reading words image) room

-- with our own reading of the words it is ours
pub ours-by-words : (image : List ℕ) (room : ℕ) → reading_by judge_words image room ≡ read_back image room
unfolding entry_by read_by entry_at read_entries read_image read_back
ours-by-words image room = ap (λ (r : Read). packed_as plan_bytes r room) (same 65 0)
  where
    same : (k e : ℕ) → read_by judge_words (refused 21) image k e ≡ read_entries image k e
    same zero e = refl
    same (suc k) e = ap (next image (entry_at image e) e) (same k (suc e))

-- ---- the readers
-- takes an RCOPY's offset from the header on, as if its entry were the first
abbrev pub from_header : Reader
from_header = reading_by (λ image e c x y z. if eqb c 2 then judge_count e (judge_range x z (judge_copy image 0 x y z)) else judge_words image e c x y z)

-- takes an unknown word as the end word
abbrev pub unknown_as_end : Reader
unknown_as_end = reading_by (λ image e c x y z. judge_words image e (if leb 1 c && leb c 4 then c else 0xffffffff) x y z)

-- takes an ACOPY as an RCOPY
abbrev pub acopy_as_put : Reader
acopy_as_put = reading_by (λ image e c x y z. judge_words image e (if eqb c 1 then 2 else c) x y z)

-- rounds lengths up to a multiple of 32, as a load does
abbrev pub rounds_lengths : List ℕ → Read
rounds_lengths = reading (λ image e c x y z. judge_words image e c x (if eqb c 3 then round_up y else y) (if eqb c 2 then round_up z else z))

-- takes an RCOPY of any length up to 65,536, and pads its data with zeros to a multiple of 32
unfoldable pub any_length : ℕ → ℕ → Entry → Entry
any_length a n x =
    if eqb n 0 then bad 5
    else if ltb 65536 n then bad 22
    else if not (eqb (a % 4) 0) then bad 3
    else x

abbrev takes_any_length : List ℕ → Read
takes_any_length = reading (λ image e c x y z. if eqb c 2 then judge_count e (any_length x z (judge_copy image e x y z)) else judge_words image e c x y z)

abbrev pub pads_data : Reader
pads_data image room = packed_as plan_bytes (exchanged (padded 32) (takes_any_length image)) room

-- takes the first 64 pieces, and skips any further one
abbrev pub skips_further : Reader
skips_further image room = packed_as plan_bytes (read_by judge_words (λ e. pieces []) image 64 0) room

-- writes the data of the puts by ascending address; the rows have the offsets of the plan's order
unfoldable pub sorted_bytes : List Piece → List ℕ
sorted_bytes ps = four_bytes (length ps) 16 (16 + 16 * length ps) (put_bytes ps) ++ (table 0 ps ++ datas (sorted ps))

abbrev pub sorts_data : Reader
sorts_data image room = packed_as sorted_bytes (read_image image) room

-- gives the empty plan for every image
abbrev pub constant : Reader
constant image room = packed_as plan_bytes (pieces []) room

-- refuses every image
abbrev pub never : Reader
never image room = refuses 20 0
