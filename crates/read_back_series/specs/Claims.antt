-- What paper 02, C-11, claims of the plan that is read back from an APLX image: a statement about any software and any reader. `Ours.antt`
-- says that it holds of ours, and `Refuted` that it is false of wrong readers.
use Rattle.std.specs.Prelude.{◌≡◌, List, ℕ, ◌≤◌, length}
use Rattle.words.specs.Bytes.{Bytes}
use Rattle.plan.specs.Packed.{Packed, packs}
use Rattle.series.specs.Medium.{aplx}
use Rattle.series.specs.Software.{Software}
use Rattle.series.specs.Demand.{Holds}

-- what reading an image back gives, for an output of so many bytes
abbrev pub Reader : Type 0
Reader = List ℕ → ℕ → Packed

-- of an image, and the plan that was read back from it
pub record Restores (s : Software) (image plan : List ℕ) : Type 0 where
  -- it is bytes, as demand 3 asks of a plan
  pub bytes : Bytes plan
  -- "The APLX packer, given room, accepts the plan that was read"
  pub packed : List ℕ
  pub accepted : (room : ℕ) → length packed ≤ room → s.pack_aplx plan room ≡ packs packed
  -- "and demand 3 holds for that plan with the old image in the packed one's place"
  pub demand : (address : ℕ) → Holds s (aplx address) plan image

-- of an image that the APLX packer wrote
pub record Returns (s : Software) (read : Reader) (image : List ℕ) : Type 0 where
  -- it is read back, given room
  pub plan : List ℕ
  pub read_back : (room : ℕ) → length plan ≤ room → read image room ≡ packs plan
  -- "for an image our packer wrote, packing gives the same bytes"
  pub same_bytes : (room : ℕ) → length image ≤ room → s.pack_aplx plan room ≡ packs image

pub record Claims (s : Software) (read : Reader) : Type 0 where
  pub restores : (image : List ℕ) (room : ℕ) (plan : List ℕ) → Bytes image → read image room ≡ packs plan → Restores s image plan
  pub returns : (plan : List ℕ) (room : ℕ) (image : List ℕ) → Bytes plan → s.pack_aplx plan room ≡ packs image → Returns s read image
