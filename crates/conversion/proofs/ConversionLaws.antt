-- Laws of what is written for a plan, the same for each packing: too long, or shown as it was packed.
use Rattle.std.specs.Prelude.{◌≡◌, List, ℕ, ◌≤◌, ◌<◌, length}
use Rattle.std.proofs.Common.{lt-ltb, le-ltb}
use Rattle.words.specs.Store.{store}
use Rattle.plan.specs.Plan.{read_plan}
use Rattle.plan.specs.Packed.{packs}
use Rattle.plan.proofs.PackedLaws.{accepted-facts}
use Rattle.aplx_pack.specs.Image.{aplx_image, pack_aplx}
use Rattle.aplx_share.specs.SharedImage.{shared_image, pack_shared}
use Rattle.srom_pack.specs.Image.{srom_image, pack_srom}
use Rattle.text.specs.Refusal.{refusal_line, fitting}
use Rattle.conversion.specs.declared.convert.Packing.{Packing}
use Rattle.conversion.specs.declared.convert.Packing.TheVariants.{Aplx, SharedAplx, Srom}
use Rattle.conversion.specs.Shown.{shown}
use Rattle.conversion.proofs.ShownLaws.{Done, done}
use Rattle.conversion.specs.Conversion.{pack_for, converted}

-- an image that was packed for n bytes has n at most
pub image-fits : (packing : Packing) (plan : List ℕ) (n : ℕ) (image : List ℕ) → pack_for packing plan n ≡ packs image → length image ≤ n
unfolding pack_for pack_aplx pack_shared pack_srom
image-fits Aplx plan n image e = (accepted-facts aplx_image (read_plan 32 plan) n e).fits
image-fits SharedAplx plan n image e = (accepted-facts shared_image (read_plan 32 plan) n e).fits
image-fits Srom plan n image e = (accepted-facts srom_image (read_plan 4 plan) n e).fits

module _ (packing : Packing) (plan m : List ℕ) {r : ℕ} {last : List ℕ} where
  pub too_long : 32768 < length plan → r ≡ length (fitting (refusal_line 11 0) (length m)) → last ≡ store m 0 (fitting (refusal_line 11 0) (length m))
      → Done (converted packing plan (length m)) m r last
  unfolding converted
  too_long h a b = rw (lt-ltb 32768 (length plan) h) (done (refusal_line 11 0) m r last a b)

  pub short : length plan ≤ 32768 → Done (shown (pack_for packing plan (length m))) m r last → Done (converted packing plan (length m)) m r last
  unfolding converted
  short h d = rw (le-ltb 32768 (length plan) h) d
