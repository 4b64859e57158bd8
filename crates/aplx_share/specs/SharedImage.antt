-- The APLX image that keeps one copy of equal put data (paper 02, C-23), and what packing a plan so gives.
use Rattle.std.specs.Prelude.{List, [], ◌∷◌, ◌++◌, ℕ, suc, ◌+◌, ◌*◌, length}
use Rattle.words.specs.Four.{four_bytes}
use Rattle.plan.specs.Plan.{Piece, put, fill, run, read_plan}
use Rattle.plan.specs.Packed.{Packed, packed_as}
use Rattle.aplx_pack.specs.Image.{entry_of}
use Rattle.aplx_share.specs.Contents.{kept_contents, joined, place}

-- "the later entry points to the earliest such copy": where these contents are kept behind the end entry, how far behind it the data of a
-- piece lies; a fill and a run have none
abbrev pub place_of : List (List ℕ) → Piece → ℕ
place_of kept (put a d) = place kept d
place_of kept (fill a n w) = 0
place_of kept (run a) = 0

-- "All else is as before": one entry per piece in plan order, and the end entry. Behind the first entry come those of the other pieces, the
-- end entry, and the contents that are kept before its own
unfoldable pub shared_entries : List (List ℕ) → List Piece → List ℕ
shared_entries kept [] = four_bytes 0xffffffff 0 0 0
shared_entries kept (p ∷ ps) = entry_of p (16 * suc (suc (length ps)) + place_of kept p) ++ shared_entries kept ps

-- then the different contents
unfoldable pub shared_image : List Piece → List ℕ
shared_image ps = shared_entries (kept_contents ps) ps ++ joined (kept_contents ps)

-- what packing a plan gives, for an output of n bytes. "Number 10 goes by the new length."
unfoldable pub pack_shared : List ℕ → ℕ → Packed
pack_shared s n = packed_as shared_image (read_plan 32 s) n
