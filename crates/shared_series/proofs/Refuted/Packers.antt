-- Wrong packers: each does what ours does, but for one thing.
use Rattle.std.specs.Prelude.{◌≡◌, refl, Bool, List, [], ◌∷◌, ◌++◌, ℕ, suc, ◌+◌, ◌*◌, ltb, eqb, length, take, if◌then◌else◌}
use Rattle.words.specs.Equal.{same}
use Rattle.words.specs.Four.{four_bytes}
use Rattle.words.specs.Store.{store}
use Rattle.plan.specs.Plan.{Piece, put, fill, run, data_of, Read, refused, pieces, read_plan}
use Rattle.plan.specs.Packed.{Packed, refuses, packs, packed_as}
use Rattle.aplx_pack.specs.Image.{entry_of, aplx_image}
use Rattle.aplx_share.specs.Contents.{contents, is_among, without, different, kept_contents, joined, place}
use Rattle.words.proofs.EqualLaws.{same-swap}
use Rattle.aplx_share.specs.SharedImage.{shared_entries, shared_image, pack_shared}

abbrev pub Packer : Type 0
Packer = List ℕ → ℕ → Packed  -- plan, room

-- ---- ours, with another test of equal bytes, other contents that are kept, offsets from another entry, and another length for number 10
-- (`ours-by-rules`: with our own it is ours)
-- whether bytes that are kept are those of a put
abbrev Test : Type 0
Test = List ℕ → List ℕ → Bool

-- the contents that are kept
abbrev Keep : Type 0
Keep = List (List ℕ) → List (List ℕ)

-- the entry from which an offset is counted, by the number of those behind it: of all pieces, a put's bytes, and the pieces behind it
abbrev From : Type 0
From = List Piece → List ℕ → List Piece → ℕ

unfoldable pub without_by : Test → List ℕ → Keep
without_by equal d [] = []
without_by equal d (c ∷ cs) = if equal d c then without_by equal d cs else c ∷ without_by equal d cs

unfoldable pub different_by : Test → Keep
different_by equal [] = []
different_by equal (d ∷ ds) = d ∷ without_by equal d (different_by equal ds)

unfoldable pub place_by : Test → List (List ℕ) → List ℕ → ℕ
place_by equal [] d = 0
place_by equal (c ∷ cs) d = if equal c d then 0 else length c + place_by equal cs d

unfoldable pub entries_by : Test → From → List Piece → List (List ℕ) → List Piece → List ℕ
entries_by equal from all kept [] = four_bytes 0xffffffff 0 0 0
entries_by equal from all kept (p ∷ ps) =
    entry_of p (16 * suc (suc (from all (data_of p) ps)) + place_by equal kept (data_of p)) ++ entries_by equal from all kept ps

unfoldable pub image_by : Test → Keep → From → List Piece → List ℕ
image_by equal keep from ps = entries_by equal from ps (keep (contents ps)) ps ++ joined (keep (contents ps))

abbrev packed_by : (List Piece → List ℕ) → (List Piece → ℕ) → Read → ℕ → Packed
packed_by image needed (refused x i) room = refuses x i
packed_by image needed (pieces ps) room = if ltb room (needed ps) then refuses 10 (length ps) else packs (image ps)

abbrev packing_by : (List Piece → List ℕ) → (List Piece → ℕ) → Packer
packing_by image needed plan room = packed_by image needed (read_plan 32 plan) room

-- 10 by the length of what is packed
abbrev packing_of : (List Piece → List ℕ) → Packer
packing_of image = packing_by image (λ ps. length (image ps))

-- an offset is counted from the put's own entry
abbrev from_itself : From
from_itself all d ps = length ps

without-same : (d : List ℕ) (cs : List (List ℕ)) → without_by same d cs ≡ without d cs
unfolding without_by without
without-same d [] = refl
without-same d (c ∷ cs) = rw (same-swap d c, without-same d cs)

different-same : (ds : List (List ℕ)) → different_by same ds ≡ different ds
unfolding different_by different
different-same [] = refl
different-same (d ∷ ds) = rw (different-same ds, without-same d (different ds))

place_same : (cs : List (List ℕ)) (d : List ℕ) → place_by same cs d ≡ place cs d
unfolding place_by place
place_same [] d = refl
place_same (c ∷ cs) d = rw (place_same cs d)

entries-same : (all : List Piece) (kept : List (List ℕ)) (ps : List Piece) → entries_by same from_itself all kept ps ≡ shared_entries kept ps
unfolding entries_by shared_entries entry_of
entries-same all kept [] = refl
entries-same all kept (put a d ∷ ps) = rw (place_same kept d, entries-same all kept ps)
entries-same all kept (fill a n w ∷ ps) = rw (entries-same all kept ps)
entries-same all kept (run a ∷ ps) = rw (entries-same all kept ps)

image-same : (ps : List Piece) → image_by same (different_by same) from_itself ps ≡ shared_image ps
unfolding image_by shared_image
image-same ps = rw (different-same (contents ps), entries-same ps (kept_contents ps) ps)

pub ours-by-rules : (plan : List ℕ) (room : ℕ) → packing_of (image_by same (different_by same) from_itself) plan room ≡ pack_shared plan room
unfolding pack_shared
ours-by-rules plan room = go (read_plan 32 plan)
  where
    go : (r : Read) → packed_by (image_by same (different_by same) from_itself) (λ ps. length (image_by same (different_by same) from_itself ps)) r room ≡ packed_as shared_image r room
    go (refused x i) = refl
    go (pieces ps) = rw (image-same ps)

-- ---- the packers
-- takes puts of equal length for equal
abbrev same_length : Test
same_length c d = eqb (length c) (length d)

abbrev pub by_length : Packer
by_length = packing_of (image_by same_length (different_by same_length) from_itself)

-- takes the beginning of a longer put for that put
abbrev begins_with : Test
begins_with c d = same (take (length d) c) d

abbrev pub shares_beginnings : Packer
shares_beginnings = packing_of (image_by begins_with (different_by begins_with) from_itself)

-- points to the earliest copy, and writes the others all the same
abbrev pub keeps_all : Packer
keeps_all = packing_of (image_by same (λ cs. cs) from_itself)

-- compares a put with the one before it alone: the contents behind one with bytes d
unfoldable pub unlike_last : List ℕ → Keep
unlike_last d [] = []
unlike_last d (c ∷ cs) = if same c d then unlike_last c cs else c ∷ unlike_last c cs

abbrev pub compares_neighbours : Packer
compares_neighbours = packing_of (image_by same (unlike_last []) from_itself)

-- keeps the contents where each last appears
unfoldable pub last_appearances : Keep
last_appearances [] = []
last_appearances (d ∷ ds) = if is_among ds d then last_appearances ds else d ∷ last_appearances ds

abbrev pub keeps_last : Packer
keeps_last = packing_of (image_by same last_appearances from_itself)

-- gives the later entry the offset of the first put with its bytes, as if it were counted from there
unfoldable pub from_first : From
from_first [] d qs = length qs
from_first (p ∷ ps) d qs = if same (data_of p) d then length ps else from_first ps d qs

abbrev pub first_offset : Packer
first_offset = packing_of (image_by same (different_by same) from_first)

-- writes a one into the last word of the end entry where data is shared
abbrev marked : List Piece → List ℕ
marked ps = if ltb (length (shared_image ps)) (length (aplx_image ps)) then store (shared_image ps) (16 * length ps + 12) (1 ∷ []) else shared_image ps

abbrev pub marks_end : Packer
marks_end = packing_of marked

-- refuses 10 by the length of the plain image
abbrev pub plain_length : Packer
plain_length = packing_by shared_image (λ ps. length (aplx_image ps))

-- takes lengths as they come, for the loader to round
abbrev pub any_length : Packer
any_length plan room = packed_as shared_image (read_plan 1 plan) room

-- refuses every plan
abbrev pub never : Packer
never plan room = refuses 10 0
