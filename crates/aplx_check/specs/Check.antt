-- The check of an APLX image against a plan, entry by entry (paper 02, C-20). `Written.antt` has the rules by themselves.
use Rattle.std.specs.Prelude.{ℕ, zero, suc, ◌+◌, ◌*◌, ◌/◌, ◌%◌, min, Bool, ◌&&◌, List, [], ◌∷◌, length, take, drop, ◌==◌, nat_le, nat_lt, if◌then◌else◌}
use Rattle.words.specs.Bytes.{little_endian_at}
use Rattle.words.specs.Equal.{same}
use Rattle.plan.specs.Plan.{Piece, put, fill, run, Read, refused, pieces, read_plan}
use Rattle.aplx_image.specs.Carries.{source_of}
use Rattle.aplx_check.specs.Parts.{size_of, rest_of}

pub data Checked : Type 0 where
  accepted : Checked
  refuses : ℕ → ℕ → Checked  -- number, place

-- ---- one entry
-- "each a non-zero multiple of 32 bytes, none past the piece's end, none beginning past address 4,294,967,295": n bytes, where l bytes of a
-- piece are due at address a
unfoldable pub is_part : ℕ → ℕ → ℕ → Bool
is_part a l n = nat_lt 0 n && n % 32 == 0 && nat_le n l && nat_lt a 4294967296

-- "put data may lie at any multiple of 4 in the image slice after the end entry": these bytes stand at offset s
unfoldable pub has_data : List ℕ → ℕ → ℕ → List ℕ → Bool
has_data image behind s d = s % 4 == 0 && nat_le behind s && nat_le (s + length d) (length image) && same (take (length d) (drop s image)) d

-- the entry at offset k is the next part, or the run, of the piece: "a put as RCOPY, a fill as FILL, a run as EXEC". Data may lie from
-- offset `behind` on
unfoldable pub is_due : List ℕ → ℕ → ℕ → Piece → Bool
is_due image behind k (put a d) =
    let n = little_endian_at 4 image (k + 12) in
    (little_endian_at 4 image k == 2) && little_endian_at 4 image (k + 4) == a && is_part a (length d) n
    && has_data image behind (source_of k (little_endian_at 4 image (k + 8))) (take n d)
is_due image behind k (fill a l w) =
    (little_endian_at 4 image k == 3) && little_endian_at 4 image (k + 4) == a && is_part a l (little_endian_at 4 image (k + 8))
    && little_endian_at 4 image (k + 12) == w
is_due image behind k (run a) = little_endian_at 4 image k == 4 && little_endian_at 4 image (k + 4) == a

-- the length that such an entry gives to the part
abbrev pub part_length : List ℕ → ℕ → Piece → ℕ
part_length image k (put a d) = little_endian_at 4 image (k + 12)
part_length image k (fill a l w) = little_endian_at 4 image (k + 8)
part_length image k (run a) = 0

-- what is due behind the first n bytes of a piece, which others follow
abbrev pub due_after : ℕ → Piece → List Piece → List Piece
due_after n p ps = if n == size_of p then ps else rest_of n p ∷ ps

-- ---- the entries
-- from entry e on: so many come before the end entry, and these pieces are due. "30 with the first entry that, after those before it, is
-- not the next part, run or end due by these rules"
unfoldable pub check_entries : List ℕ → ℕ → ℕ → ℕ → List Piece → Checked
check_entries image behind zero e [] = accepted
check_entries image behind zero e (p ∷ ps) = refuses 30 e
check_entries image behind (suc l) e [] = refuses 30 e
check_entries image behind (suc l) e (p ∷ ps) =
    if is_due image behind (16 * e) p then check_entries image behind l (suc e) (due_after (part_length image (16 * e) p) p ps)
    else refuses 30 e

-- ---- the end entry
-- "the slice's first 256 whole entries"
abbrev pub whole_entries : List ℕ → ℕ
whole_entries image = min 256 (length image / 16)

pub data End : Type 0 where
  at : ℕ → End  -- the index of the end entry
  none : End

-- the first end word of so many entries, the first of which is entry e
unfoldable pub first_end : List ℕ → ℕ → ℕ → End
first_end image zero e = none
first_end image (suc l) e = if little_endian_at 4 image (16 * e) == 0xffffffff then at e else first_end image l (suc e)

-- ---- the whole image
-- "then no end word in the slice's first 256 whole entries is new number 30 with their number"
abbrev pub check_to : List ℕ → List Piece → End → Checked
check_to image ps (at e) = check_entries image (16 * suc e) e 0 ps
check_to image ps none = refuses 30 (whole_entries image)

unfoldable pub check_pieces : List ℕ → List Piece → Checked
check_pieces image ps = check_to image ps (first_end image (whole_entries image) 0)

-- "A refused plan gives 01's number, 12 not tested": a unit of 1 tests no length
abbrev pub check_read : List ℕ → Read → Checked
check_read image (refused x i) = refuses x i
check_read image (pieces ps) = check_pieces image ps

unfoldable pub check : List ℕ → List ℕ → Checked
check plan image = check_read image (read_plan 1 plan)
