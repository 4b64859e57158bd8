-- Which images are read back, and as which pieces: a statement about any reader of an image's pieces. `Ours.antt` says that it holds of ours.
use Rattle.std.specs.Prelude.{◌≡◌, List, ℕ, ◌≤◌, length}
use Rattle.words.specs.Choice.{All}
use Rattle.words.specs.Bytes.{Bytes}
use Rattle.plan.specs.Plan.{Piece, Read, pieces}
use Rattle.plan.specs.Packable.{Packable}
use Rattle.aplx_image.specs.Carries.{Carries}

-- the image carries the pieces, each is one that the APLX packer accepts, and they are 64 at most
pub record Readable (image : List ℕ) (ps : List Piece) : Type 0 where
  pub carried : Carries image 0 ps
  pub packable : All (Packable 32) ps
  pub few : length ps ≤ 64

-- it is read as pieces if this holds of them, and only then
pub record ReadsExactly (read : List ℕ → Read) (image : List ℕ) (ps : List Piece) : Type 0 where
  pub if-read : read image ≡ pieces ps → Readable image ps
  pub read-if : Readable image ps → read image ≡ pieces ps

abbrev pub Exact : (List ℕ → Read) → Type 0
Exact read = (image : List ℕ) → Bytes image → (ps : List Piece) → ReadsExactly read image ps
