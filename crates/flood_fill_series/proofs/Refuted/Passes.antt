-- The third claim is false of receivers that keep what a Start or Block Start ends, complete a block too early, or store it elsewhere.
use Rattle.std.specs.Prelude.{◌≡◌, refl, false, List, [], ◌∷◌, ℕ, zero, suc, ◌≤◌, get_or}
use Rattle.std.proofs.Common.{ap, arith}
use Rattle.words.proofs.ChoiceLaws.{true-is-false}
use Rattle.flood_fill.specs.declared.message.Message.TheVariants.{Start, BlockStart, BlockData, BlockEnd}
use Rattle.flood_fill.specs.Receive.{empty, afresh, is_done}
use Rattle.flood_fill_series.specs.Claims.{Call, after, held_after, Visited, LeavesWhole}
use Rattle.flood_fill_series.proofs.Refuted.Receivers.{keeps_done_at_start, keeps_old_marks, completes_early, stores_at_own_size, stores_full_block}
use Rattle.flood_fill_series.proofs.Refuted.Example.{receiving, zeros, lent, twos, half, pass, half-of-image, pass-of-image, half-visits, pass-visits}

-- ---- one pass over both blocks
-- the second block has the first one's word
pub keeps-old-marks-refuted : LeavesWhole keeps_old_marks → ⊥
unfolding receiving zeros twos half pass
keeps-old-marks-refuted p =
    let e = p twos [] zeros 1 2 [] pass tt (refl, omega arith, omega arith) tt pass-of-image (λ b h _. pass-visits b h) in
    let z : ◌≡◌ {A = ℕ} 5 7 = ap (λ m. get_or m 8 0) e.stored in
    omega arith

-- the second block stands at word 1
pub stores-at-own-size-refuted : LeavesWhole stores_at_own_size → ⊥
unfolding receiving zeros twos half pass
stores-at-own-size-refuted p =
    let e = p twos [] zeros 1 2 [] pass tt (refl, omega arith, omega arith) tt pass-of-image (λ b h _. pass-visits b h) in
    let z : ◌≡◌ {A = ℕ} 0 7 = ap (λ m. get_or m 8 0) e.stored in
    omega arith

-- a word of the first block stands behind the image
pub stores-full-block-refuted : LeavesWhole stores_full_block → ⊥
unfolding receiving zeros twos half pass
stores-full-block-refuted p =
    let e = p twos [] zeros 1 2 [] pass tt (refl, omega arith, omega arith) tt pass-of-image (λ b h _. pass-visits b h) in
    let z : ◌≡◌ {A = ℕ} 6 0 = ap (λ m. get_or m 12 0) e.stored in
    omega arith

-- ---- blocks that are done before the pass, and are not in the image
-- block 0 lacks its words
pub completes-early-refuted : LeavesWhole completes_early → ⊥
unfolding receiving zeros twos half
completes-early-refuted p =
    let e = p twos [] zeros 1 2 (BlockStart 0 2 ∷ BlockEnd 0 ∷ []) half tt (refl, omega arith, omega arith) (refl, (tt, tt)) half-of-image only-second in
    let z : ◌≡◌ {A = ℕ} 0 5 = ap (λ m. get_or m 0 0) e.stored in
    omega arith
  where
    only-second : (b : ℕ) → b ≤ 1
        → is_done (held_after completes_early (record { receiver = afresh 2 2; image = zeros }) (BlockStart 0 2 ∷ BlockEnd 0 ∷ [])).receiver b ≡ false
        → Visited twos b half
    only-second zero h e = true-is-false e
    only-second (suc zero) h e = half-visits
    only-second (suc (suc b)) h e = absurd (omega arith)

-- block 0 was done in the image before
one-done : List Call
unfolding lent
one-done = lent (Start 1 2 ∷ BlockStart 0 2 ∷ BlockData 0 0 8 ∷ BlockData 0 1 9 ∷ BlockEnd 0 ∷ [])

pub keeps-done-at-start-refuted : LeavesWhole keeps_done_at_start → ⊥
unfolding receiving zeros lent twos half one-done
keeps-done-at-start-refuted p =
    let e = p twos one-done zeros 1 2 [] half tt (refl, omega arith, omega arith) tt half-of-image only-second in
    let z : ◌≡◌ {A = ℕ} 0 5 = ap (λ m. get_or m 0 0) e.stored in
    omega arith
  where
    only-second : (b : ℕ) → b ≤ 1
        → is_done (keeps_done_at_start (after keeps_done_at_start empty one-done) zeros (Start 1 2)).receiver b ≡ false
        → Visited twos b half
    only-second zero h e = true-is-false e
    only-second (suc zero) h e = half-visits
    only-second (suc (suc b)) h e = absurd (omega arith)
