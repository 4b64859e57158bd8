-- Laws of the parts of a receiver's bytes: what a store leaves of each, and how the parts make the receiver.
use Rattle.std.specs.Prelude.{◌≡◌, refl, Bool, true, false, List, [], ◌∷◌, ℕ, zero, suc, ◌+◌, ◌*◌, ◌^◌, ◌≤◌, ◌<◌, ltb, eqb, take, drop, get_or, set, Option}
use Rattle.std.proofs.Common.{ap, sym, ◌∙◌, append-nil, add-zero, arith, length-set, drop-drop, get_or-set_same, get_or-set_other, ext_get_or, ltb-true, ltb-false, eqb-true}
use Rattle.std.proofs.Math.ListN.{length}
use Rattle.std.proofs.lemmas.List.{drop-set-add}
use Rattle.std.proofs.Math.Seq.{take-set-lt}
use Rattle.std.proofs.lemmas.Bool.{eqb-false}
use Rattle.words.proofs.ChoiceLaws.{all_append, all_take, all_drop}
use Rattle.words.specs.Bytes.{little_endian, little_endian_at, Bytes}
use Rattle.words.proofs.BytesLaws.{length-little_endian, little-at-same, little-at-front}
use Rattle.words.specs.Store.{store}
use Rattle.words.proofs.StoreLaws.{length-store, part-inside, part-outside, drop-store, sets-store}
use Rattle.words.proofs.RangeLaws.{Apart, before, behind}
use Rattle.flood_fill.specs.declared.header.Block.{Block}
use Rattle.flood_fill.specs.declared.header.Header.{Header}
use Rattle.flood_fill.specs.Receive.{headed}
use Rattle.receiver_bytes.specs.Receiver.{opened_in, header_in, flags_in, words_in, receiver_in}
use Rattle.receiver_bytes.proofs.ReceiverFlags.{set-flag}
use Rattle.receiver_bytes.proofs.ReceiverWords.{length-words, word_at}

-- ---- the receiver by its parts
pub header_is : (s : List ℕ) {c n : ℕ} {o : Option Block} → little_endian_at 2 s 0 ≡ c → little_endian_at 2 s 2 ≡ n
    → opened_in (little_endian_at 2 s 4) (little_endian_at 2 s 6) ≡ o → header_in s ≡ headed c n o
unfolding header_in
header_is s a b c = rw (a, b, c)

pub receiver-is : (s : List ℕ) {h : Header} {d m : List Bool} {w : List ℕ} → header_in s ≡ h → flags_in (take 256 (drop 8 s)) ≡ d
    → flags_in (take 256 (drop 264 s)) ≡ m → words_in 256 s 520 ≡ w → receiver_in s ≡ record { header = h; done = d; marks = m; words = w }
unfolding receiver_in
receiver-is s a b c d = rw (a, b, c, d)

-- ---- words by what stands from their place on
pub same-words : (k : ℕ) (s t : List ℕ) (p : ℕ) → drop p s ≡ drop p t → words_in k s p ≡ words_in k t p
unfolding words_in little_endian_at
same-words zero s t p e = refl
same-words (suc k) s t p e =
    let f : drop (p + 4) s ≡ drop (p + 4) t = sym (drop-drop 4 p s) ∙ ap (drop 4) e ∙ drop-drop 4 p t in
    rw (e, same-words k s t (p + 4) f)

-- ---- parts that a store leaves
module _ (s : List ℕ) (p : ℕ) (d : List ℕ) (fits : p + length d ≤ length s) where
  pub number-left : (k q : ℕ) → q + k ≤ length s → Apart q k p (length d) → little_endian_at k (store s p d) q ≡ little_endian_at k s q
  number-left k q h a = little-at-same k q q (store s p d) s (omega (arith, length-store s p d fits)) h (part-outside s p d fits q k a)

  pub header-left : 8 ≤ p → header_in (store s p d) ≡ header_in s
  unfolding header_in
  header-left h =
      rw
      (number-left 2 0 (omega arith) (before (omega arith)), number-left 2 2 (omega arith) (before (omega arith)), number-left 2 4 (omega arith) (before (omega arith)), number-left 2 6 (omega arith) (before (omega arith)))

  pub flags-left : (q : ℕ) → Apart q 256 p (length d) → flags_in (take 256 (drop q (store s p d))) ≡ flags_in (take 256 (drop q s))
  flags-left q a = ap flags_in (part-outside s p d fits q 256 a)

  pub words_left : (q : ℕ) → p + length d ≤ q → words_in 256 (store s p d) q ≡ words_in 256 s q
  words_left q h = same-words 256 (store s p d) s q (drop-store s p d fits q h)

  -- a number that was stored, at place i of the store
  pub number-stored : (k i : ℕ) → i + k ≤ length d → little_endian_at k (store s p d) (p + i) ≡ little_endian_at k d i
  number-stored k i h = little-at-same k (p + i) i (store s p d) d (omega (arith, length-store s p d fits)) h (part-inside s p d fits i k h)

  pub store_bytes : Bytes s → Bytes d → Bytes (store s p d)
  unfolding store
  store_bytes h g = all_append _ (take p s) _ (all_take _ p s h) (all_append _ d _ g (all_drop _ (p + length d) s h))

-- ---- a flag that is set
module _ (s : List ℕ) (p : ℕ) (h : p < length s) where
  pub set-store : (a : ℕ) → set s p a ≡ store s p (a ∷ [])
  set-store a = sets-store s p (a ∷ []) (omega arith)

  -- parts that it leaves
  pub header-beside : 8 ≤ p → header_in (set s p 1) ≡ header_in s
  header-beside g = rw (set-store 1) (header-left s p (1 ∷ []) (omega arith) g)

  pub flags-beside : (q : ℕ) → Apart q 256 p 1 → flags_in (take 256 (drop q (set s p 1))) ≡ flags_in (take 256 (drop q s))
  flags-beside q a = rw (set-store 1) (flags-left s p (1 ∷ []) (omega arith) q a)

  pub words-beside : (q : ℕ) → p < q → words_in 256 (set s p 1) q ≡ words_in 256 s q
  words-beside q g = rw (set-store 1) (words_left s p (1 ∷ []) (omega arith) q (omega arith))

-- the flags that it is one of, the 256 from q on
pub flag-set : (s : List ℕ) (q i : ℕ) → i < 256 → flags_in (take 256 (drop q (set s (q + i) 1))) ≡ set (flags_in (take 256 (drop q s))) i true
flag-set s q i h = rw (drop-set-add q s i 1, take-set-lt 256 (drop q s) i 1 h) (set-flag (take 256 (drop q s)) i)

-- ---- a word that is stored, of the k from p on
pub number_of : (k n : ℕ) → n < 256 ^ k → little_endian_at k (little_endian k n) 0 ≡ n
number_of k n h = rw append-nil at (little-at-front k n [] h)

above : {w i : ℕ} → w ≤ i → (i ≡ w → ⊥) → w < i
above {w} {i} l n = go (ltb w i) refl
  where
    go : (t : Bool) → ltb w i ≡ t → w < i
    go true e = ltb-true w i e
    go false e = let m = ltb-false w i e in absurd (n (omega arith))

module _ (s : List ℕ) (k p w v : ℕ) (long : p + 4 * k ≤ length s) (h : w < k) (small : v < 256 ^ 4) where
  abbrev after : List ℕ
  after = store s (p + 4 * w) (little_endian 4 v)

  fits : p + 4 * w + length (little_endian 4 v) ≤ length s
  fits = omega (arith, length-little_endian 4 v)

  stored : little_endian_at 4 after (p + 4 * w) ≡ v
  stored =
      rw add-zero at (number-stored s (p + 4 * w) (little_endian 4 v) fits 4 0 (omega (arith, length-little_endian 4 v))) ∙ number_of 4 v small

  other : (i : ℕ) → i < k → (i ≡ w → ⊥) → little_endian_at 4 after (p + 4 * i) ≡ little_endian_at 4 s (p + 4 * i)
  other i g n = number-left s (p + 4 * w) (little_endian 4 v) fits 4 (p + 4 * i) (omega arith) (apart (ltb i w) refl)
    where
      apart : (t : Bool) → ltb i w ≡ t → Apart (p + 4 * i) 4 (p + 4 * w) (length (little_endian 4 v))
      apart true e = let l = ltb-true i w e in before (omega arith)
      apart false e =
          let l = ltb-false i w e in
          let m : w < i = above l n in
          behind (omega (arith, length-little_endian 4 v))

  pub word_set : words_in k after p ≡ set (words_in k s p) w v
  word_set = ext_get_or 0 (words_in k after p) (set (words_in k s p) w v) lengths (λ i g. go i (rw (length-words k after p) at g) (eqb i w) refl)
    where
      lengths : length (words_in k after p) ≡ length (set (words_in k s p) w v)
      lengths = rw (length-set (words_in k s p) w v, length-words k after p, length-words k s p)

      go : (i : ℕ) → i < k → (t : Bool) → eqb i w ≡ t → get_or (words_in k after p) i 0 ≡ get_or (set (words_in k s p) w v) i 0
      go i g true e =
          let f : i ≡ w = eqb-true i w e in
          rw f (word_at k after p w h ∙ stored ∙ sym (get_or-set_same (words_in k s p) w v 0 (omega (arith, length-words k s p))))
      go i g false e =
          let n = eqb-false i w e in
          word_at k after p i g ∙ other i g n ∙ sym (word_at k s p i g) ∙ sym (get_or-set_other (words_in k s p) w i v 0 n)
