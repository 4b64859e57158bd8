-- Laws of single flags in bytes: one of them, one that is cleared, and the flag of a byte that is 0 and of any other.
use Rattle.std.specs.Prelude.{◌≡◌, refl, Bool, true, false, not, List, [], ◌∷◌, ℕ, zero, suc, ◌+◌, ◌≤◌, ◌<◌, eqb, length, take, get_or, set, replicate}
use Rattle.std.proofs.Common.{ap, ◌∙◌, add-one, arith, take-suc-set, eq-eqb, ne_eqb}
use Rattle.std.proofs.lemmas.List.{replicate-append-replicate}
use Rattle.std.proofs.Math.ListN.{get_or-eq_default}
use Rattle.receiver_bytes.specs.Receiver.{flags_in}
use Rattle.receiver_bytes.proofs.ReceiverFlags.{length-flags}

-- ---- one flag
pub flag_at : (s : List ℕ) (i : ℕ) (d : Bool) → i < length s → get_or (flags_in s) i d ≡ not (eqb (get_or s i 0) 0)
unfolding flags_in
flag_at [] i d h = absurd (omega arith)
flag_at (b ∷ s) zero d h = refl
flag_at (b ∷ s) (suc i) d h = flag_at s i d (omega arith)

pub flag-past : (s : List ℕ) (i : ℕ) (d : Bool) → length s ≤ i → get_or (flags_in s) i d ≡ d
flag-past s i d h = get_or-eq_default (flags_in s) d (omega (arith, length-flags s))

-- one zero more at the front
pub one-more-zero : (s : List ℕ) (i : ℕ) → i < length s → take i s ≡ replicate i 0 → take (i + 1) (set s i 0) ≡ replicate (i + 1) 0
one-more-zero s i h e =
    rw (add-one i, take-suc-set s i 0 h, e, replicate-append-replicate {A = ℕ} i 1 0, add-one i)

-- ---- the flag of a byte that is 0, and of any other
pub zero_flag : (s : List ℕ) (i : ℕ) → i < length s → get_or s i 0 ≡ 0 → get_or (flags_in s) i false ≡ false
zero_flag s i h e = flag_at s i false h ∙ ap not (eq-eqb (get_or s i 0) 0 e)

pub other-flag : (s : List ℕ) (i : ℕ) → i < length s → (get_or s i 0 ≡ 0 → ⊥) → get_or (flags_in s) i false ≡ true
other-flag s i h e = flag_at s i false h ∙ ap not (ne_eqb (get_or s i 0) 0 e)
