-- What the packer's code keeps of a plan, in the terms of the definitions.
use Rattle.std.specs.Prelude.{◌≡◌, List, ℕ, ◌+◌, ◌*◌, ◌≤◌, ◌<◌, length, take, drop, get_or, map}
use Rattle.words.specs.Choice.{All}
use Rattle.plan.specs.Plan.{Piece, run}
use Rattle.aplx_share.specs.declared.contents.Content.{Content}
use Rattle.aplx_share.specs.declared.contents.Kept.{Kept}
use Rattle.aplx_share.specs.Contents.{kept_contents, total_length}
use Rattle.aplx_share.specs.SharedImage.{place_of}

-- the bytes of a content in the plan s
abbrev pub bytes_of : List ℕ → Content → List ℕ
bytes_of s c = take c.length (drop c.start s)

-- the contents that stand at these places of the plan s
abbrev pub contents_at : List ℕ → List Content → List (List ℕ)
contents_at s cs = map (bytes_of s) cs

-- the places of those that are kept, and these contents
abbrev pub used : Kept → List Content
used k = take k.count k.contents

abbrev pub kept_at : List ℕ → Kept → List (List ℕ)
kept_at s k = contents_at s (used k)

-- a content lies in the plan, and is no longer than a put can be
pub record Inside (s : List ℕ) (c : Content) : Type 0 where
  pub inside : c.start + c.length ≤ length s
  pub most : c.length ≤ 65536

-- so do these, and they are not too many
pub record Located (s : List ℕ) (cs : List Content) : Type 0 where
  pub all : All (Inside s) cs
  pub few : length cs ≤ 64

-- for each of these pieces, where its data lies behind the end entry
abbrev pub PlacesOf : List Piece → List ℕ → Type 0
PlacesOf ps places = (j : ℕ) → j < length ps → get_or places j 0 ≡ place_of (kept_contents ps) (get_or ps j (run 0))

-- what is kept of the first i pieces
pub record Collected (s : List ℕ) (ps : List Piece) (i : ℕ) (kept : Kept) : Type 0 where
  pub are-kept : kept_at s kept ≡ kept_contents (take i ps)
  pub size : kept.size ≡ total_length (kept_contents (take i ps))
  pub located : Located s (used kept)
  pub placed : PlacesOf (take i ps) kept.places
  pub few : kept.count ≤ i
  pub most : kept.size ≤ 65536 * i
  pub in-contents : length kept.contents ≡ 64
  pub in-places : length kept.places ≡ 64
