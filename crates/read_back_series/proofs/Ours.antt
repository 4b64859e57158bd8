-- What holds of ours: of the software of which demand 3 holds, and of the reader that the promise of `aplx_read` cites.
use Rattle.std.specs.Prelude.{◌≡◌, List, ℕ, ◌≤◌, length}
use Rattle.words.specs.Bytes.{Bytes}
use Rattle.plan.specs.Packed.{packs}
use Rattle.aplx_pack.specs.Image.{pack_aplx}
use Rattle.series.specs.Software as software
use Rattle.aplx_read.specs.ReadBack.{read_image, read_back}
use Rattle.read_back_series.specs.Claims.{Claims}
use Rattle.read_back_series.specs.Exact.{Exact}
use Rattle.read_back_series.proofs.Proved as proof

pub ours : Claims software.ours read_back
ours = record { restores = proof.restores; returns = proof.returns }

-- exactly the images that carry pieces which can be packed are read
pub read-exactly : Exact read_image
read-exactly = proof.read-exactly

-- the packed image of a plan that was read back is read back as the same plan
pub plan-again :
    (image : List ℕ) (room : ℕ) (plan : List ℕ) → Bytes image → read_back image room ≡ packs plan
    → (packed : List ℕ) (n : ℕ) → pack_aplx plan n ≡ packs packed → (m : ℕ) → length plan ≤ m → read_back packed m ≡ packs plan
plan-again = proof.read_again
