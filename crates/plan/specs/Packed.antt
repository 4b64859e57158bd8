-- What packing a plan gives (paper 01, "Plans"), and in the same terms what reading an image back gives (paper 02, C-11).
use Rattle.std.specs.Prelude.{◌≡◌, List, [], ℕ, ltb, length, if◌then◌else◌}
use Rattle.words.specs.Store.{store}
use Rattle.plan.specs.Plan.{Piece, Read, refused, pieces, read_plan}

pub data Packed : Type 0 where
  refuses : ℕ → ℕ → Packed  -- number, place
  packs : List ℕ → Packed  -- what is written

-- pieces that were read, written as these bytes, an image or a plan, into an output of n bytes: "Last, 10", with "the piece count" as its place
abbrev pub packed_as : (List Piece → List ℕ) → Read → ℕ → Packed
packed_as image (refused x i) n = refuses x i
packed_as image (pieces ps) n =
    if ltb n (length (image ps)) then refuses 10 (length ps)
    else packs (image ps)

-- "Output past the image is untouched."; what is refused leaves all of it
abbrev pub output_after : Packed → List ℕ → List ℕ
output_after (refuses x i) out = out
output_after (packs image) out = store out 0 image

-- what is answered: a refusal, or the length of what was written
pub data Outcome : Type 0 where
  refusal : ℕ → ℕ → Outcome  -- number, place
  sized : ℕ → Outcome

abbrev pub outcome_of : Packed → Outcome
outcome_of (refuses x i) = refusal x i
outcome_of (packs image) = sized (length image)

-- the length that is written for what was read; what is refused has none
abbrev pub written_length : (List Piece → List ℕ) → Read → ℕ
written_length bytes (refused x i) = 0
written_length bytes (pieces ps) = length (bytes ps)

-- the pieces of a plan that was read
abbrev pub pieces_in : Read → List Piece
pieces_in (refused x i) = []
pieces_in (pieces ps) = ps

abbrev pub plan_pieces : ℕ → List ℕ → List Piece
plan_pieces unit s = pieces_in (read_plan unit s)

-- the reader accepts the plan
abbrev pub Accepted : ℕ → List ℕ → Type 0
Accepted unit s = read_plan unit s ≡ pieces (plan_pieces unit s)
