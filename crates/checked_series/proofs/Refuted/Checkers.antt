-- Wrong checkers: each does what ours does, but for one thing.
use Rattle.std.specs.Prelude.{◌≡◌, refl, Bool, true, not, ◌&&◌, List, [], ◌∷◌, ℕ, zero, suc, ◌+◌, ◌*◌, ◌/◌, min, leb, eqb, length, if◌then◌else◌}
use Rattle.std.proofs.Common.{ap}
use Rattle.words.specs.Bytes.{little_endian_at}
use Rattle.words.specs.Equal.{same}
use Rattle.plan.specs.Plan.{Piece, put, fill, run, Read, refused, pieces, read_plan}
use Rattle.aplx_image.specs.Carries.{source_of}
use Rattle.aplx_pack.specs.Image.{aplx_image}
use Rattle.series.proofs.Refuted.Packers.{exchanged, as_they_come, sorted, padded}
use Rattle.aplx_check.specs.Parts.{size_of, rest_of}
use Rattle.aplx_check.specs.Check.{Checked, accepted, refuses, is_part, is_due, part_length, due_after, check_entries, whole_entries, End, at, none, first_end, check_to, check_pieces, check_read, check}
use Rattle.checked_series.specs.Claims.{Checker}

-- ---- ours, with another test of an entry, another rule for what is due behind it, and other pieces (`ours-by-tests`: with our own it is ours)
-- the image, the offset from which data may lie, the entry's offset, and the piece that is due
abbrev Test : Type 0
Test = List ℕ → ℕ → ℕ → Piece → Bool

-- the part's length, the piece, and those that follow it
abbrev After : Type 0
After = ℕ → Piece → List Piece → List Piece

unfoldable pub entries_by : Test → After → List ℕ → ℕ → ℕ → ℕ → List Piece → Checked
entries_by due after image behind zero e [] = accepted
entries_by due after image behind zero e (p ∷ ps) = refuses 30 e
entries_by due after image behind (suc l) e [] = refuses 30 e
entries_by due after image behind (suc l) e (p ∷ ps) =
    if due image behind (16 * e) p then entries_by due after image behind l (suc e) (after (part_length image (16 * e) p) p ps)
    else refuses 30 e

abbrev to_end : Test → After → List ℕ → List Piece → End → Checked
to_end due after image ps (at e) = entries_by due after image (16 * suc e) e 0 ps
to_end due after image ps none = refuses 30 (whole_entries image)

abbrev of_read : Test → After → List ℕ → Read → Checked
of_read due after image (refused x i) = refuses x i
of_read due after image (pieces ps) = to_end due after image ps (first_end image (whole_entries image) 0)

abbrev checking_by : Test → After → (List Piece → List Piece) → Checker
checking_by due after f plan image = of_read due after image (exchanged f (read_plan 1 plan))

pub ours-by-tests : (plan image : List ℕ) → checking_by is_due due_after as_they_come plan image ≡ check plan image
unfolding entries_by check_entries check_pieces check
ours-by-tests plan image = of-read (read_plan 1 plan)
  where
    entries : (behind l e : ℕ) (ps : List Piece) → entries_by is_due due_after image behind l e ps ≡ check_entries image behind l e ps
    entries behind zero e [] = refl
    entries behind zero e (p ∷ ps) = refl
    entries behind (suc l) e [] = refl
    entries behind (suc l) e (p ∷ ps) =
        ap (λ (c : Checked). if is_due image behind (16 * e) p then c else refuses 30 e) (entries behind l (suc e) (due_after (part_length image (16 * e) p) p ps))

    to_end_lem : (ps : List Piece) (x : End) → to_end is_due due_after image ps x ≡ check_to image ps x
    to_end_lem ps (at e) = entries (16 * suc e) e 0 ps
    to_end_lem ps none = refl

    of-read : (r : Read) → of_read is_due due_after image (exchanged as_they_come r) ≡ check_read image r
    of-read (refused x i) = refl
    of-read (pieces ps) = to_end_lem ps (first_end image (whole_entries image) 0)

-- ---- checkers that accept too much
abbrev pub accepts_all : Checker
accepts_all plan image = accepted

-- compares commands and lengths only, and takes any address, word and data
abbrev same_length : Test
same_length image behind k (put a d) = eqb (little_endian_at 4 image k) 2 && is_part a (length d) (little_endian_at 4 image (k + 12))
same_length image behind k (fill a l w) = eqb (little_endian_at 4 image k) 3 && is_part a l (little_endian_at 4 image (k + 8))
same_length image behind k (run a) = eqb (little_endian_at 4 image k) 4

abbrev pub lengths_only : Checker
lengths_only = checking_by same_length due_after as_they_come

-- lets the last part of a fill run past its end: the length that is due is the entry's
abbrev any_end : Test
any_end image behind k (put a d) = is_due image behind k (put a d)
any_end image behind k (fill a l w) = is_due image behind k (fill a (little_endian_at 4 image (k + 8)) w)
any_end image behind k (run a) = is_due image behind k (run a)

abbrev pub past_end : Checker
past_end = checking_by any_end (λ n p ps. if leb (size_of p) n then ps else rest_of n p ∷ ps) as_they_come

-- takes data at any offset, before the end entry too
abbrev pub data_anywhere : Checker
data_anywhere = checking_by (λ image behind k p. is_due image 0 k p) due_after as_they_come

-- takes the pieces by ascending address
abbrev pub sorts_pieces : Checker
sorts_pieces = checking_by is_due due_after sorted

-- takes a put that is padded with zeros to a multiple of 32
abbrev pub pads_puts : Checker
pads_puts = checking_by is_due due_after (padded 32)

-- ---- checkers that accept too little
abbrev pub refuses_all : Checker
refuses_all plan image = refuses 30 0

-- asks for one entry for each piece
abbrev pub never_split : Checker
never_split = checking_by (λ image behind k p. is_due image behind k p && eqb (part_length image k p) (size_of p)) due_after as_they_come

-- asks that no two RCOPYs have their data at one offset: source s is that of none of the first e entries
unfoldable pub is_new : List ℕ → ℕ → ℕ → Bool
is_new image s zero = true
is_new image s (suc e) = not (eqb (little_endian_at 4 image (16 * e)) 2 && eqb (source_of (16 * e) (little_endian_at 4 image (16 * e + 8))) s) && is_new image s e

abbrev own_data : Test
own_data image behind k (put a d) = is_due image behind k (put a d) && is_new image (source_of k (little_endian_at 4 image (k + 8))) (k / 16)
own_data image behind k (fill a l w) = is_due image behind k (fill a l w)
own_data image behind k (run a) = is_due image behind k (run a)

abbrev pub never_shared : Checker
never_shared = checking_by own_data due_after as_they_come

-- looks for the end entry in the first 65 entries only, as a plan has 64 pieces at most
abbrev in_few : List ℕ → List ℕ → End → Checked
in_few plan image (at e) = check plan image
in_few plan image none = refuses 30 65

abbrev pub few_entries : Checker
few_entries plan image = in_few plan image (first_end image (min 65 (whole_entries image)) 0)

-- asks for the bytes that our packer would write
abbrev as_packed : List ℕ → Read → Checked
as_packed image (refused x i) = refuses x i
as_packed image (pieces ps) = if same image (aplx_image ps) then accepted else refuses 30 0

abbrev pub packed_only : Checker
packed_only plan image = as_packed image (read_plan 32 plan)
