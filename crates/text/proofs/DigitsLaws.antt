-- Laws of digits, over the base.
use Rattle.std.specs.Prelude.{◌≡◌, List, [], ◌∷◌, ◌++◌, length, set}
use Rattle.std.proofs.Math.Path.{refl}
use Rattle.std.proofs.Common.{sym, ◌∙◌, append_assoc, append-nil, add-zero, length-append, drop_of_length-le, drop-cons}
use Prim.Native.Nat.{ℕ, zero, suc, ◌-◌, ◌/◌, ◌%◌, ◌≤◌, ◌<◌}
use native.Mathlib.Omega.{arith}
use Rattle.std.proofs.Math.ListN.{drop}
use Rattle.std.proofs.lemmas.List.{drop-set-add}
use Rattle.text.specs.Digits.{digit, digits}

module _ (base : ℕ) where
  pub length_digits : (k n : ℕ) → length (digits base k n) ≡ k
  unfolding digits
  length_digits zero n = refl
  length_digits (suc k) n = rw (length-append, length_digits k (n / base)) (omega arith)

  -- writing them from the last on: i of them are left
  pub digits-start : (part : List ℕ) (n : ℕ) → digits base (length part) n ++ drop (length part) part ≡ digits base (length part) n
  digits-start part n = rw (drop_of_length-le part {i = length part} (omega arith)) (append-nil (digits base (length part) n))

  pub digits-next : (part : List ℕ) (i rest : ℕ) → 0 < i → i ≤ length part
      → digits base (i - 1) (rest / base) ++ drop (i - 1) (set part (i - 1) (digit (rest % base))) ≡ digits base i rest ++ drop i part
  unfolding digits
  digits-next part zero rest h g = absurd (omega arith)
  digits-next part (suc j) rest h g =
      let d = digit (rest % base) in
      let z : suc j - 1 ≡ j = omega arith in
      let e : drop j (set part j d) ≡ d ∷ drop (suc j) part =
      rw (add-zero j) at (drop-set-add j part 0 d) ∙ rw (drop-cons part j 0 (omega arith)) in
      rw (z, e) (sym (append_assoc (digits base j (rest / base)) (d ∷ []) (drop (suc j) part)))
