-- Laws of the line of a refusal: its length, and that its parts written one behind the other are the line.
use Rattle.std.specs.Prelude.{◌≡◌, length}
use Rattle.std.proofs.Math.Path.{refl, ap}
use Rattle.std.proofs.Common.{◌∙◌, arith, le-leb}
use mathlib.Core.List.{List, [], ◌∷◌, ◌++◌, append_assoc}
use Prim.Native.Nat.{ℕ, ◌+◌, ◌≤◌, ◌<◌}
use Rattle.std.proofs.Math.ListN.{length-append}
use Rattle.std.proofs.lemmas.Bool.{lt-leb}
use Rattle.words.specs.Store.{store, store_if_fits}
use Rattle.words.proofs.StoreLaws.{store-fits, store-behind}
use Rattle.text.specs.Decimal.{width, decimal}
use Rattle.text.proofs.DecimalLaws.{length-decimal}
use Rattle.text.specs.Refusal.{refusal_line, fitting}

module _ (n p : ℕ) where
  pub length-line : length (refusal_line n p) ≡ 13 + width n + width p
  unfolding refusal_line
  length-line = simp (length-append, length-decimal) (omega arith)

  pub line-fits : (k : ℕ) → 13 + width n + width p ≤ k → fitting (refusal_line n p) k ≡ refusal_line n p
  line-fits k h = rw (le-leb (length (refusal_line n p)) k (omega (arith, length-line)))

  pub line-unfit : (k : ℕ) → k < 13 + width n + width p → fitting (refusal_line n p) k ≡ []
  line-unfit k h = rw (lt-leb (length (refusal_line n p)) k (omega (arith, length-line)))

  -- memory m, and what is left after each of the five parts
  pub line-written :
      (m a b c d e : List ℕ) → 13 + width n + width p ≤ length m
      → a ≡ store_if_fits m 0 (114 ∷ 101 ∷ 102 ∷ 117 ∷ 115 ∷ 101 ∷ 100 ∷ 32 ∷ []) → b ≡ store_if_fits a 8 (decimal n)
      → c ≡ store_if_fits b (8 + width n) (32 ∷ 97 ∷ 116 ∷ 32 ∷ []) → d ≡ store_if_fits c (12 + width n) (decimal p)
      → e ≡ store_if_fits d (12 + width n + width p) (10 ∷ []) → e ≡ store m 0 (refusal_line n p)
  unfolding refusal_line
  line-written m a b c d e h u v w x y =
      let f : List ℕ = 114 ∷ 101 ∷ 102 ∷ 117 ∷ 115 ∷ 101 ∷ 100 ∷ 32 ∷ [] in
      let g : List ℕ = 32 ∷ 97 ∷ 116 ∷ 32 ∷ [] in
      let i = length-decimal n in
      let j = length-decimal p in
      let one = u ∙ store-fits m 0 f (omega arith) in
      let two = store-behind m 0 f (decimal n) 8 a b refl (omega arith) one v in
      let three = store-behind m 0 (f ++ decimal n) g (8 + width n) b c (omega (arith, length-append f (decimal n))) (omega arith) two w in
      let four = store-behind m 0 ((f ++ decimal n) ++ g) (decimal p) (12 + width n) c d
      (omega (arith, length-append (f ++ decimal n) g, length-append f (decimal n))) (omega arith) three x in
      let five = store-behind m 0 (((f ++ decimal n) ++ g) ++ decimal p) (10 ∷ []) (12 + width n + width p) d e
      (omega (arith, length-append ((f ++ decimal n) ++ g) (decimal p), length-append (f ++ decimal n) g, length-append f (decimal n))) (omega arith) four y in
      five ∙ ap (store m 0) (simp append_assoc)
