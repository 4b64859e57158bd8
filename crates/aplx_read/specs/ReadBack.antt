-- An APLX image read back as a plan (paper 02, C-11). The image is a slice with the header at offset 0; offsets are whole numbers.
use Rattle.std.specs.Prelude.{not, List, [], ℕ, zero, suc, ◌+◌, ◌*◌, ◌%◌, ltb, leb, eqb, length, if◌then◌else◌}
use Rattle.words.specs.Bytes.{little_endian_at}
use Rattle.plan.specs.Plan.{Row, put_row, fill_row, run_row, piece_in, Read, refused, pieces, before}
use Rattle.plan.specs.Packed.{Packed, packed_as}
use Rattle.aplx_image.specs.Carries.{source_of}
use Rattle.aplx_read.specs.PlanBytes.{plan_bytes}

-- what an entry is
pub data Entry : Type 0 where
  piece : Row → Entry  -- the data of a put stands in the image
  end : Entry  -- the end word
  bad : ℕ → Entry  -- number

-- "a 65th piece, 21": entry e, and what it is if it is not too far
abbrev pub judge_count : ℕ → Entry → Entry
judge_count e x = if leb 64 e then bad 21 else x

-- "run address with bits 1:0 = 2, 9"; "Unused EXEC words are ignored."
unfoldable pub judge_exec : ℕ → Entry
judge_exec a = if eqb (a % 4) 2 then bad 9 else piece (run_row a)

-- "zero length, 5; length not a multiple of 32 or over 65,536, 22; destination .. not a multiple of 4, 3", then the rest
unfoldable pub judge_range : ℕ → ℕ → Entry → Entry
judge_range a n x =
    if eqb n 0 then bad 5
    else if not (eqb (n % 32) 0) then bad 22
    else if ltb 65536 n then bad 22
    else if not (eqb (a % 4) 0) then bad 3
    else x

-- where the data of an RCOPY stands in the image: entry e, with this offset
abbrev pub source : ℕ → ℕ → ℕ
source e offset = source_of (16 * e) offset

-- "then RCOPY offset, not a multiple of 4, 3; RCOPY data outside the slice, 23"
unfoldable pub judge_copy : List ℕ → ℕ → ℕ → ℕ → ℕ → Entry
judge_copy image e a offset n =
    if not (eqb (offset % 4) 0) then bad 3
    else if ltb (length image) (source e offset + n) then bad 23
    else piece (put_row a (source e offset) n)

-- the four words of entry e: "RCOPY to put, FILL to fill, EXEC to run, up to the first end word"; "ACOPY or an unknown word, 20"
unfoldable pub judge_words : List ℕ → ℕ → ℕ → ℕ → ℕ → ℕ → Entry
judge_words image e c x y z =
    if eqb c 0xffffffff then end
    else if eqb c 2 then judge_count e (judge_range x z (judge_copy image e x y z))
    else if eqb c 3 then judge_count e (judge_range x y (piece (fill_row x y z)))
    else if eqb c 4 then judge_count e (judge_exec x)
    else bad 20

-- "Per entry, in this order: 16 bytes not in the slice, 2"
unfoldable pub entry_at : List ℕ → ℕ → Entry
entry_at image e =
    if ltb (length image) (16 * e + 16) then bad 2
    else judge_words image e (little_endian_at 4 image (16 * e)) (little_endian_at 4 image (16 * e + 4)) (little_endian_at 4 image (16 * e + 8))
    (little_endian_at 4 image (16 * e + 12))

-- entry e of the image, and what follows it: "A refused image names its entry."
abbrev pub next : List ℕ → Entry → ℕ → Read → Read
next image (piece row) e r = before (piece_in image row) r
next image end e r = pieces []
next image (bad n) e r = refused n e

-- so many entries at most, from entry e on
unfoldable pub read_entries : List ℕ → ℕ → ℕ → Read
read_entries image zero e = refused 21 e
read_entries image (suc k) e = next image (entry_at image e) e (read_entries image k (suc e))

-- the pieces of the image. The 65th entry is the end, or is refused (`sixty-fifth` in the laws): no further one is looked at
unfoldable pub read_image : List ℕ → Read
read_image image = read_entries image 65 0

-- the plan, for an output of n bytes: "Last, 10, place the piece count."
unfoldable pub read_back : List ℕ → ℕ → Packed
read_back image n = packed_as plan_bytes (read_image image) n
