-- The second claim is false of receivers that await other words, or answer `done` and do not store what came.
use Rattle.std.specs.Prelude.{◌≡◌, refl, [], ◌∷◌, ℕ, get_or}
use Rattle.std.proofs.Common.{ap, arith}
use Rattle.flood_fill.specs.declared.message.Message.TheVariants.{Start}
use Rattle.flood_fill.specs.Answer.{missing, done}
use Rattle.flood_fill_series.specs.Claims.{Completes}
use Rattle.flood_fill_series.proofs.Refuted.Receivers.{keeps_in_order_only, awaits_full_size, stores_nothing}
use Rattle.flood_fill_series.proofs.Refuted.Example.{receiving, zeros, lent, twos, words₀, words₁, every-word₀, every-word₁}

not-missing : {n l : ℕ} → missing n l ≡ done → ⊥
not-missing e = let z : ◌≡◌ {A = ℕ} 0 1 = cc in omega arith

pub keeps-in-order-only-refuted : Completes keeps_in_order_only → ⊥
unfolding receiving zeros lent twos words₀
keeps-in-order-only-refuted p =
    let e = p twos (lent (Start 1 2 ∷ [])) zeros 0 2 (lent words₀) zeros refl tt
    (record { of_image = ((omega arith, refl), ((omega arith, refl), tt)); not-refused = (tt, (tt, tt)) })
    every-word₀ tt
    in
    not-missing e.answered

pub awaits-full-size-refuted : Completes awaits_full_size → ⊥
unfolding receiving zeros lent twos words₁
awaits-full-size-refuted p =
    let e = p twos (lent (Start 1 2 ∷ [])) zeros 1 1 (lent words₁) zeros refl tt (record { of_image = ((omega arith, refl), tt); not-refused = (tt, tt) })
    every-word₁ tt
    in
    not-missing e.answered

pub stores-nothing-refuted : Completes stores_nothing → ⊥
unfolding receiving zeros lent twos words₁
stores-nothing-refuted p =
    let e = p twos (lent (Start 1 2 ∷ [])) zeros 1 1 (lent words₁) zeros refl tt (record { of_image = ((omega arith, refl), tt); not-refused = (tt, tt) })
    every-word₁ tt
    in
    let z : ◌≡◌ {A = ℕ} 0 7 = ap (λ m. get_or m 8 0) e.stored in
    omega arith
