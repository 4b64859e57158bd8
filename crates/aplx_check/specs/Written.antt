-- The rules by which another firm's packer may write the APLX image of a plan (paper 02, C-20). `Check.antt` is the check, entry by entry;
-- `proofs/CheckExact.antt` shows that it accepts the images that are written by these rules, and no others.
use Rattle.std.specs.Prelude.{◌≡◌, ℕ, suc, ◌+◌, ◌*◌, ◌≤◌, List, [], ◌∷◌, length}
use Rattle.words.specs.Bytes.{little_endian_at}
use Rattle.plan.specs.Plan as format
use Rattle.plan.specs.Plan.{Piece, put, fill, run, read_plan}
use Rattle.aplx_image.specs.Carries.{source_of, Carries}
use Rattle.aplx_check.specs.Parts.{SplitAll, parts}

-- "put data may lie .. after the end entry": the entry at offset k says this part; if that is a put, its data begins at offset `behind` or later
abbrev pub DataBehind : List ℕ → ℕ → ℕ → Piece → Type 0
DataBehind image behind k (put a d) = behind ≤ source_of k (little_endian_at 4 image (k + 8))
DataBehind image behind k (fill a l w) = Unit {0}
DataBehind image behind k (run a) = Unit {0}

-- of parts, whose entries stand from offset k on
abbrev pub AllBehind : List ℕ → ℕ → ℕ → List Piece → Type 0
AllBehind image behind k [] = Unit {0}
AllBehind image behind k (q ∷ qs) = DataBehind image behind k q × AllBehind image behind (k + 16) qs

-- an image of these pieces
pub record Written (ps : List Piece) (image : List ℕ) : Type 0 where
  -- "a put or fill may be split into consecutive parts": the lengths of each piece's parts
  pub lengths : List (List ℕ)
  pub split : SplitAll ps lengths
  -- "Entries must follow plan order, a put as RCOPY, a fill as FILL, a run as EXEC, then an end entry, both with any unused words"; "put
  -- data may lie at any multiple of 4 in the image slice .. and be shared"
  pub entries : Carries image 0 (parts ps lengths)
  -- "after the end entry"
  pub behind : AllBehind image (16 * suc (length (parts ps lengths))) 0 (parts ps lengths)
  -- "with at most 256 entries", the end entry among them
  pub few : length (parts ps lengths) ≤ 255

-- an image of a plan; "12 not tested": a unit of 1 tests no length
pub record WrittenFor (plan image : List ℕ) : Type 0 where
  pub pieces : List Piece
  pub read : read_plan 1 plan ≡ format.pieces pieces
  pub written : Written pieces image
