-- Laws of two parts of a list that are stored piece by piece, each behind what stands there.
use Rattle.std.specs.Prelude.{◌≡◌, List, ◌++◌, ℕ, ◌+◌, ◌≤◌, length}
use Rattle.std.proofs.Common.{ap, ◌∙◌, arith, length-append}
use Rattle.words.proofs.RangeLaws.{behind}
use Rattle.words.specs.Store.{store, store_if_fits}
use Rattle.words.proofs.StoreLaws.{length-store, store-fits, store-adjoining, store-commutes}

-- two stores that fit
pub both-fit : (m r s : List ℕ) (p : ℕ) (e : List ℕ) (q : ℕ) (d : List ℕ) → p + length e ≤ length m → q + length d ≤ length m
    → r ≡ store_if_fits m p e → s ≡ store_if_fits r q d → s ≡ store (store m p e) q d
both-fit m r s p e q d h k f g =
    let u = f ∙ store-fits m p e h in
    let l = ap length u ∙ length-store m p e h in
    g ∙ store-fits r q d (omega arith) ∙ ap (λ (x : List ℕ). store x q d) u

-- a at the front of m, and b from place q on, behind it; e comes behind a, and d behind b
module _ (m a b : List ℕ) (q : ℕ) (e : List ℕ) (h : length a + length e ≤ q) where
  pub front-grows : (n : ℕ) → n ≡ length a → q + length b ≤ length m → store (store (store m 0 a) q b) n e ≡ store (store m 0 (a ++ e)) q b
  front-grows n l f =
      let z : n ≡ 0 + length a = omega arith in
      let k = length-store m 0 a (omega arith) in
      store-commutes (store m 0 a) q b n e (omega arith) (omega arith) (behind (omega arith))
      ∙ rw z (ap (λ (x : List ℕ). store x q b) (store-adjoining m 0 a (omega arith) e))

  pub both-grow : (d : List ℕ) (n k : ℕ) → n ≡ length a → k ≡ q + length b → k + length d ≤ length m
      → store (store (store (store m 0 a) q b) n e) k d ≡ store (store m 0 (a ++ e)) q (b ++ d)
  both-grow d n k l p f =
      let i = length-store m 0 (a ++ e) (omega (arith, length-append a e)) in
      rw (front-grows n l (omega arith), p) (store-adjoining (store m 0 (a ++ e)) q b (omega arith) d)
