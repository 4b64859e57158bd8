-- Laws of the words in bytes.
use Rattle.std.specs.Prelude.{◌≡◌, List, drop, get_or}
use Rattle.std.proofs.Math.Path.{refl}
use Rattle.std.proofs.Common.{ap, ◌∙◌, add-zero, length-take-le}
use Prim.Native.Nat.{ℕ, zero, suc, ◌+◌, ◌*◌, ◌≤◌, ◌<◌}
use native.Mathlib.Omega.{arith}
use Rattle.std.proofs.Math.ListN.{length, take, length-drop}
use Rattle.std.proofs.Math.Seq.{drop-drop, take-add}
use Rattle.words.proofs.ChoiceLaws.{all_take, all_drop}
use Rattle.words.specs.Bytes.{little_endian, little_endian_at, Bytes}
use Rattle.words.proofs.BytesLaws.{first-take, little_endian-from}
use Rattle.flood_fill.specs.Receive.{word_bytes}
use Rattle.receiver_bytes.specs.Receiver.{words_in}

pub length-words : (k : ℕ) (s : List ℕ) (p : ℕ) → length (words_in k s p) ≡ k
unfolding words_in
length-words zero s p = refl
length-words (suc k) s p = ap suc (length-words k s (p + 4))

pub word_at : (k : ℕ) (s : List ℕ) (p i : ℕ) → i < k → get_or (words_in k s p) i 0 ≡ little_endian_at 4 s (p + 4 * i)
unfolding words_in
word_at zero s p i h = absurd (omega arith)
word_at (suc k) s p zero h = rw (add-zero p)
word_at (suc k) s p (suc i) h =
    let e : p + 4 + 4 * i ≡ p + 4 * suc i = omega arith in word_at k s (p + 4) i (omega arith) ∙ ap (little_endian_at 4 s) e

-- ---- words as bytes are the bytes that they were read from
module _ (s : List ℕ) (are : Bytes s) where
  bytes-at : (p : ℕ) → p + 4 ≤ length s → little_endian 4 (little_endian_at 4 s p) ≡ take 4 (drop p s)
  unfolding little_endian_at
  bytes-at p h =
      let e : 4 ≤ length (drop p s) = omega (arith, length-drop p s) in
      let t = take 4 (drop p s) in
      rw (first-take 4 (drop p s) e) (rw (length-take-le 4 (drop p s) e) at (little_endian-from t (all_take _ 4 (drop p s) (all_drop _ p s are))))

  pub bytes-of-words : (n k p : ℕ) → n ≤ k → p + 4 * k ≤ length s → word_bytes (take n (words_in k s p)) ≡ take (4 * n) (drop p s)
  unfolding words_in word_bytes
  bytes-of-words zero k p h g = refl
  bytes-of-words (suc n) zero p h g = absurd (omega arith)
  bytes-of-words (suc n) (suc k) p h g =
      let e : 4 * suc n ≡ 4 + 4 * n = omega arith in
      rw (e, take-add 4 (4 * n) (drop p s), drop-drop 4 p s, bytes-at p (omega arith), bytes-of-words n k (p + 4) (omega arith) (omega arith))
