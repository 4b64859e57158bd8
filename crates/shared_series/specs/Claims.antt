-- What paper 02, C-23, claims of an APLX packing that keeps one copy of equal put data: a statement about any software, any check and any
-- reader. `Ours.antt` says that it holds of ours, `Determined.antt` that it leaves a packer no choice, and `Refuted` that it is false of
-- software with a wrong packer.
use Rattle.std.specs.Prelude.{◌≡◌, List, ℕ, ◌+◌, ◌*◌, ◌≤◌, ◌<◌, length}
use Rattle.words.specs.Bytes.{Bytes}
use Rattle.plan.specs.Plan.{Piece, pieces, read_plan}
use Rattle.plan.specs.Packed.{Packed, refuses, packs, plan_pieces}
use Rattle.aplx_pack.specs.Image.{pack_aplx}
use Rattle.series.specs.Software.{Software}
use Rattle.series.specs.Demand.{Demand3}
use Rattle.aplx_check.specs.Check.{Checked, accepted}
use Rattle.aplx_share.specs.Contents.{contents, kept_contents, Distinct, total_length}
use Rattle.shared_series.specs.Layout.{Layout}

-- "16 x (count + 1) + the lengths of the different put contents"
abbrev pub shared_length : List Piece → ℕ
shared_length ps = 16 * (length ps + 1) + total_length (kept_contents ps)

-- of a plan that is read as these pieces: "The image's length equals .."; "Number 10 goes by the new length."
pub record Sized (pack : List ℕ → ℕ → Packed) (plan : List ℕ) (ps : List Piece) : Type 0 where
  pub image : List ℕ
  pub has-length : length image ≡ shared_length ps
  pub packed : (room : ℕ) → shared_length ps ≤ room → pack plan room ≡ packs image
  pub too_small : (room : ℕ) → room < shared_length ps → pack plan room ≡ refuses 10 (length ps)

-- of a plan and an image that is read back, given room: as a plan with the same pieces
pub record SamePieces (pack read : List ℕ → ℕ → Packed) (plan image : List ℕ) : Type 0 where
  pub restored : List ℕ
  pub read_back : (room : ℕ) → length restored ≤ room → read image room ≡ packs restored
  pub same-pieces : read_plan 32 restored ≡ read_plan 32 plan
  -- "C-11's equal bytes stay with the plain packing": from it the plain packer gives what it gives for the first plan, the plain image,
  -- and this packer what it gives for the first plan, the image with shared data
  pub plain-again : (room : ℕ) → pack_aplx restored room ≡ pack_aplx plan room
  pub shared-again : (room : ℕ) → pack restored room ≡ pack plan room

pub record Claims (s : Software) (check : List ℕ → List ℕ → Checked) (read : List ℕ → ℕ → Packed) : Type 0 where
  -- "All else is as before": of a plan without equal puts, and so of one that is refused, which has no pieces
  pub without-equal : (plan : List ℕ) → Distinct (contents (plan_pieces 32 plan)) → (room : ℕ) → s.pack_aplx plan room ≡ pack_aplx plan room
  -- the length of the image of a plan that is read
  pub sized : (plan : List ℕ) (ps : List Piece) → read_plan 32 plan ≡ pieces ps → Sized s.pack_aplx plan ps
  -- "keeps one copy ..: the later entry points to the earliest such copy. All else is as before."
  pub laid_out :
      (plan : List ℕ) (ps : List Piece) → read_plan 32 plan ≡ pieces ps → (room : ℕ) (image : List ℕ) → s.pack_aplx plan room ≡ packs image
      → Layout ps image
  -- "Demand 3 holds for it as stated"
  pub demand : Demand3 s
  -- "and C-20's checker accepts it"
  pub checked : (plan : List ℕ) (room : ℕ) (image : List ℕ) → Bytes plan → s.pack_aplx plan room ≡ packs image → check plan image ≡ accepted
  -- C-11's reader reads it back
  pub restored : (plan : List ℕ) (room : ℕ) (image : List ℕ) → Bytes plan → s.pack_aplx plan room ≡ packs image → SamePieces s.pack_aplx read plan image
