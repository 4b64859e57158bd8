-- The first claim is false of a receiver that keeps data of any block, and of one that takes marks away.
use Rattle.std.specs.Prelude.{◌≡◌, refl, Bool, true, false, ◌||◌, [], ◌∷◌, ℕ, eqb, get_or, if◌then◌else◌}
use Rattle.std.proofs.Common.{ap, arith}
use Rattle.flood_fill.specs.declared.message.Message.TheVariants.{Start, BlockData}
use Rattle.flood_fill_series.specs.Claims.{OrderFree}
use Rattle.flood_fill_series.proofs.Refuted.Receivers.{keeps_any_block, unmarks_repeated}
use Rattle.flood_fill_series.proofs.Refuted.Example.{receiving, zeros, lent, ones}

pub keeps-any-block-refuted : OrderFree keeps_any_block → ⊥
unfolding receiving zeros lent ones
keeps-any-block-refuted p =
    let e = p ones (lent (Start 1 1 ∷ [])) zeros 0 1 (lent (BlockData 0 0 1 ∷ BlockData 1 0 2 ∷ [])) (lent (BlockData 1 0 2 ∷ BlockData 0 0 1 ∷ [])) refl
    (record { of_image = ((omega arith, refl), ((omega arith, refl), tt)); not-refused = (tt, (tt, tt)) })
    (record { of_image = ((omega arith, refl), ((omega arith, refl), tt)); not-refused = (tt, (tt, tt)) })
    (λ w _. refl)
    in
    let z : ◌≡◌ {A = ℕ} 1 2 = ap (λ r. get_or r.words 0 0) e in
    omega arith

or_self : (t : Bool) → (t || false) ≡ t || (t || false)
or_self true = refl
or_self false = refl

pub unmarks-repeated-refuted : OrderFree unmarks_repeated → ⊥
unfolding receiving zeros lent ones
unmarks-repeated-refuted p =
    let e = p ones (lent (Start 1 1 ∷ [])) zeros 0 1 (lent (BlockData 0 0 1 ∷ [])) (lent (BlockData 0 0 1 ∷ BlockData 0 0 1 ∷ [])) refl
    (record { of_image = ((omega arith, refl), tt); not-refused = (tt, tt) })
    (record { of_image = ((omega arith, refl), ((omega arith, refl), tt)); not-refused = (tt, (tt, tt)) })
    (λ w _. or_self (eqb w 0))
    in
    let z : ◌≡◌ {A = ℕ} 1 0 = ap (λ r. if get_or r.marks 0 true then 1 else 0) e in
    omega arith
