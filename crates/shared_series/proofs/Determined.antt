-- The claims leave a packer no choice: of every plan and room it gives what ours gives, to the last byte.
use Rattle.std.specs.Prelude.{◌≡◌, Bool, true, false, List, ℕ, ltb}
use Rattle.std.proofs.Math.Path.{refl}
use Rattle.std.proofs.Common.{ap, sym, ◌∙◌, arith, ltb-true, ltb-false}
use Rattle.plan.specs.Plan.{Piece, Read, refused, pieces, read_plan}
use Rattle.plan.specs.Packed.{Packed, refuses, packs}
use Rattle.aplx_pack.specs.Image.{pack_aplx}
use Rattle.series.specs.Software.{Software}
use Rattle.aplx_check.specs.Check.{Checked}
use Rattle.aplx_share.specs.Contents.{contents}
use Rattle.aplx_share.specs.SharedImage.{pack_shared}
use Rattle.aplx_share.proofs.SharedImageLaws.{length-shared_image, read-packed}
use Rattle.shared_series.specs.Claims.{shared_length, Claims}
use Rattle.shared_series.proofs.Proved.Layout.{as-laid}
use Rattle.shared_series.proofs.Proved.Theorem.{sized}

module _ (s : Software) (check : List ℕ → List ℕ → Checked) (read : List ℕ → ℕ → Packed) (claims : Claims s check read) (plan : List ℕ) (room : ℕ) where
  -- a plan that is refused is refused as before
  pub refused-plan : (n i : ℕ) → read_plan 32 plan ≡ refused n i → s.pack_aplx plan room ≡ refuses n i
  unfolding pack_aplx contents
  refused-plan n i e = claims.without-equal plan (rw e tt) room ∙ rw e

  read-plan : (ps : List Piece) → read_plan 32 plan ≡ pieces ps → s.pack_aplx plan room ≡ pack_shared plan room
  read-plan ps e = go (ltb room (shared_length ps)) refl
    where
      go : (t : Bool) → ltb room (shared_length ps) ≡ t → s.pack_aplx plan room ≡ pack_shared plan room
      go true h =
          let l = ltb-true room (shared_length ps) h in
          (claims.sized plan ps e).too_small room l ∙ sym ((sized plan ps e).too_small room l)
      go false h =
          let l = ltb-false room (shared_length ps) h in
          let c = claims.sized plan ps e in
          let p = c.packed room l in
          let image-is = as-laid ps c.image (claims.laid_out plan ps e room c.image p) in
          p ∙ ap packs image-is ∙ sym (read-packed plan room e (omega (arith, length-shared_image ps)))

  pub determined : s.pack_aplx plan room ≡ pack_shared plan room
  unfolding pack_shared
  determined = go (read_plan 32 plan) refl
    where
      go : (r : Read) → read_plan 32 plan ≡ r → s.pack_aplx plan room ≡ pack_shared plan room
      go (refused n i) e = refused-plan n i e ∙ rw e
      go (pieces ps) e = read-plan ps e
