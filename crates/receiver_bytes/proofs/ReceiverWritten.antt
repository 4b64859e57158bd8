-- What the bytes are after a message that was done: the receiver that it leaves, in 1,544 bytes again.
use Rattle.std.specs.Prelude.{◌≡◌, Bool, List, [], ◌∷◌, ◌++◌, ℕ, zero, suc, ◌+◌, ◌*◌, ◌^◌, ◌≤◌, ◌<◌, take, drop, if◌then◌else◌, None}
use Rattle.std.proofs.Math.Path.{refl, ap}
use Rattle.std.proofs.Common.{sym, ◌∙◌, arith, length-append, length-take}
use Rattle.std.proofs.Math.Bool.{true, false}
use Rattle.std.proofs.Math.Dec.{ltb}
use Rattle.std.proofs.Math.ListN.{length, set, replicate}
use Rattle.std.proofs.lemmas.List.{length-replicate}
use Rattle.std.proofs.Math.Seq.{set_out}
use borrow.Author.Tests.{ltb-true, ltb-false, ne_eqb}
use Rattle.words.proofs.ChoiceLaws.{all_append}
use Rattle.words.specs.Bytes.{little_endian, little_endian_at, from_little_endian, first_bytes, Bytes}
use Rattle.words.proofs.BytesLaws.{length-little_endian, bytes-of, little-at-front, little-at-behind}
use Rattle.words.specs.Store.{store}
use Rattle.words.proofs.StoreLaws.{length-store, part-inside}
use Rattle.words.proofs.RangeLaws.{before, behind}
use Rattle.flood_fill.specs.declared.message.Message.TheVariants.{BlockStart, BlockData, BlockEnd}
use Rattle.flood_fill.specs.Refusals.{opened_block}
use Rattle.flood_fill.specs.Receive.{afresh, opening, keeping, completing}
use Rattle.receiver_bytes.specs.Receiver.{opened_in, header_in, flags_in, words_in, receiver_in, written}
use Rattle.receiver_bytes.proofs.ReceiverFlags.{length-flags, no-flags}
use Rattle.receiver_bytes.proofs.ReceiverParts.{receiver-is, header_is, set-store, number-left, number-stored, number_of, header-left, header-beside, flags-left, flags-beside, flag-set, words_left, words-beside, word_set, store_bytes}

-- ---- 1,544 bytes
pub record ReceiverBytes (s : List ℕ) : Type 0 where
  pub long : length s ≡ 1544
  pub bytes : Bytes s

zeros : (n : ℕ) → Bytes (replicate n 0)
zeros zero = tt
zeros (suc n) = (omega arith, zeros n)

module _ (s : List ℕ) (p : ℕ) (d : List ℕ) (are : ReceiverBytes s) where
  stored : p + length d ≤ 1544 → Bytes d → ReceiverBytes (store s p d)
  stored h g =
      let f : p + length d ≤ length s = omega (arith, are.long) in
      record { long = length-store s p d f ∙ are.long; bytes = store_bytes s p d f are.bytes g }

flagged : (s : List ℕ) (p : ℕ) → ReceiverBytes s → p < 1544 → ReceiverBytes (set s p 1)
flagged s p are h =
    rw (set-store s p (omega (arith, are.long)) 1) (stored s p (1 ∷ []) are (omega arith) (omega arith, tt))

-- ---- a Start: two numbers before zeros
module _ (c n : ℕ) where
  abbrev pub begun : List ℕ
  begun = little_endian 2 c ++ (little_endian 2 n ++ replicate 1540 0)

  pub begun-bytes : ReceiverBytes begun
  begun-bytes =
      record {
        long = simp (length-append, length-little_endian, length-replicate);
        bytes = all_append _ (little_endian 2 c) _ (bytes-of 2 c) (all_append _ (little_endian 2 n) _ (bytes-of 2 n) (zeros 1540));
      }

  size-at : n < 65536 → little_endian_at 2 begun 2 ≡ n
  unfolding little_endian
  size-at h = little-at-behind 2 0 (little_endian 2 c) (little_endian 2 n ++ replicate 1540 0) ∙ little-at-front 2 n (replicate 1540 0) h

  none_open : opened_in (little_endian_at 2 begun 4) (little_endian_at 2 begun 6) ≡ None
  unfolding little_endian little_endian_at from_little_endian first_bytes
  none_open = refl

  none_done : flags_in (take 256 (drop 8 begun)) ≡ replicate 256 false
  unfolding little_endian flags_in
  none_done = refl

  none-marked : flags_in (take 256 (drop 264 begun)) ≡ replicate 256 false
  unfolding little_endian flags_in
  none-marked = refl

  words-zero : words_in 256 begun 520 ≡ replicate 256 0
  unfolding words_in little_endian little_endian_at from_little_endian first_bytes
  words-zero = refl

  pub begun-is : c < 65536 → n < 65536 → receiver_in begun ≡ afresh c n
  begun-is h g =
      receiver-is begun (header_is begun (little-at-front 2 c (little_endian 2 n ++ replicate 1540 0) h) (size-at g) none_open) none_done none-marked words-zero

-- ---- a Block Start
module _ (s : List ℕ) (are : ReceiverBytes s) (b n : ℕ) where
  numbers : List ℕ
  numbers = little_endian 2 b ++ little_endian 2 n

  four : length numbers ≡ 4
  unfolding numbers
  four = simp (length-append, length-little_endian)

  headed-bytes : ReceiverBytes (store s 4 numbers)
  unfolding numbers
  headed-bytes = stored s 4 numbers are (omega (arith, four)) (all_append _ (little_endian 2 b) _ (bytes-of 2 b) (bytes-of 2 n))

  pub opening-bytes : ReceiverBytes (written s (BlockStart b n))
  unfolding written numbers
  opening-bytes = stored (store s 4 numbers) 264 (replicate 256 0) headed-bytes (omega arith) (zeros 256)

  opened-is : 1 ≤ n → b < 65536 → n < 65536 → opened_in (little_endian_at 2 (store s 4 numbers) 4) (little_endian_at 2 (store s 4 numbers) 6) ≡ opened_block b n
  unfolding numbers little_endian
  opened-is l h g =
      let f : 4 + length numbers ≤ length s = omega (arith, are.long, four) in
      let x : little_endian_at 2 (store s 4 numbers) 4 ≡ b = number-stored s 4 numbers f 2 0 (omega arith) ∙ little-at-front 2 b (little_endian 2 n) h in
      let y : little_endian_at 2 (store s 4 numbers) 6 ≡ n = number-stored s 4 numbers f 2 2 (omega arith) ∙ little-at-behind 2 0 (little_endian 2 b) (little_endian 2 n) ∙ number_of 2 n g in
      rw (x, y, ne_eqb n 0 (λ e. omega arith))

  pub opening-is : 1 ≤ n → b < 65536 → n < 65536 → receiver_in (written s (BlockStart b n)) ≡ opening (receiver_in s) b n
  unfolding written numbers receiver_in header_in
  opening-is l h g =
      let t = store s 4 numbers in
      let f : 4 + length numbers ≤ length s = omega (arith, are.long, four) in
      let k : 264 + 256 ≤ length t = omega (arith, headed-bytes.long) in
      receiver-is (store t 264 (replicate 256 0))
      (header-left t 264 (replicate 256 0) k (omega arith)
      ∙ header_is t (number-left s 4 numbers f 2 0 (omega (arith, are.long)) (before (omega arith))) (number-left s 4 numbers f 2 2 (omega (arith, are.long)) (before (omega arith))) (opened-is l h g))
      (flags-left t 264 (replicate 256 0) k 8 (before (omega arith)) ∙ flags-left s 4 numbers f 8 (behind (omega (arith, four))))
      (ap flags_in (part-inside t 264 (replicate 256 0) k 0 256 (omega arith)) ∙ no-flags 256)
      (words_left t 264 (replicate 256 0) k 520 (omega arith) ∙ words_left s 4 numbers f 520 (omega (arith, four)))

-- ---- a word that is kept
module _ (s : List ℕ) (are : ReceiverBytes s) (b w v : ℕ) (h : w < 256) where
  marked-bytes : ReceiverBytes (set s (264 + w) 1)
  marked-bytes = flagged s (264 + w) are (omega arith)

  pub keeping-bytes : ReceiverBytes (written s (BlockData b w v))
  unfolding written
  keeping-bytes = stored (set s (264 + w) 1) (520 + 4 * w) (little_endian 4 v) marked-bytes (omega (arith, length-little_endian 4 v)) (bytes-of 4 v)

  pub keeping-is : v < 256 ^ 4 → receiver_in (written s (BlockData b w v)) ≡ keeping (receiver_in s) w v
  unfolding written receiver_in
  keeping-is g =
      let u = set s (264 + w) 1 in
      let d = little_endian 4 v in
      let i : 264 + w < length s = omega (arith, are.long) in
      let k : 520 + 4 * w + length d ≤ length u = omega (arith, marked-bytes.long, length-little_endian 4 v) in
      receiver-is (store u (520 + 4 * w) d)
      (header-left u (520 + 4 * w) d k (omega arith) ∙ header-beside s (264 + w) i (omega arith))
      (flags-left u (520 + 4 * w) d k 8 (before (omega arith)) ∙ flags-beside s (264 + w) i 8 (before (omega arith)))
      (flags-left u (520 + 4 * w) d k 264 (before (omega arith)) ∙ flag-set s 264 w h)
      (word_set u 256 520 w v (omega (arith, marked-bytes.long)) h g ∙ ap (λ l. set l w v) (words-beside s (264 + w) i 520 (omega arith)))

-- ---- a block that is completed
zero-size : little_endian_at 2 (replicate 4 0) 2 ≡ 0
unfolding little_endian_at from_little_endian first_bytes
zero-size = refl

module _ (s : List ℕ) (are : ReceiverBytes s) where
  abbrev closed : List ℕ
  closed = store s 4 (replicate 4 0)

  closed-bytes : ReceiverBytes closed
  closed-bytes = stored s 4 (replicate 4 0) are (omega arith) (zeros 4)

  fits : 4 + 4 ≤ length s
  fits = omega (arith, are.long)

  size-closed : little_endian_at 2 closed 6 ≡ 0
  size-closed = number-stored s 4 (replicate 4 0) fits 2 2 (omega arith) ∙ zero-size

  header-open-none : opened_in (little_endian_at 2 closed 4) (little_endian_at 2 closed 6) ≡ None
  header-open-none = rw size-closed

  header-closed : header_in closed ≡ record { count = (header_in s).count; size = (header_in s).size; opened = None }
  unfolding header_in
  header-closed =
      header_is closed (number-left s 4 (replicate 4 0) fits 2 0 (omega (arith, are.long)) (before (omega arith))) (number-left s 4 (replicate 4 0) fits 2 2 (omega (arith, are.long)) (before (omega arith))) header-open-none

  pub completing-bytes : (b : ℕ) → ReceiverBytes (written s (BlockEnd b))
  unfolding written
  completing-bytes b = go (ltb b 256) refl
    where
      go : (t : Bool) → ltb b 256 ≡ t → ReceiverBytes (if t then set closed (8 + b) 1 else closed)
      go true e = flagged closed (8 + b) closed-bytes (omega (arith, ltb-true b 256 e))
      go false e = closed-bytes

  pub completing-is : (b : ℕ) → receiver_in (written s (BlockEnd b)) ≡ completing (receiver_in s) b
  unfolding written receiver_in
  completing-is b = go (ltb b 256) refl
    where
      done-left : flags_in (take 256 (drop 8 closed)) ≡ flags_in (take 256 (drop 8 s))
      done-left = flags-left s 4 (replicate 4 0) fits 8 (behind (omega arith))

      marks-left : flags_in (take 256 (drop 264 closed)) ≡ flags_in (take 256 (drop 264 s))
      marks-left = flags-left s 4 (replicate 4 0) fits 264 (behind (omega arith))

      words-there : words_in 256 closed 520 ≡ words_in 256 s 520
      words-there = words_left s 4 (replicate 4 0) fits 520 (omega arith)

      go : (t : Bool) → ltb b 256 ≡ t → receiver_in (if t then set closed (8 + b) 1 else closed) ≡ completing (receiver_in s) b
      go true e =
          let h = ltb-true b 256 e in
          let i : 8 + b < length closed = omega (arith, closed-bytes.long) in
          receiver-is (set closed (8 + b) 1) (header-beside closed (8 + b) i (omega arith) ∙ header-closed)
          (flag-set closed 8 b h ∙ ap (λ l. set l b true) done-left)
          (flags-beside closed (8 + b) i 264 (behind (omega arith)) ∙ marks-left)
          (words-beside closed (8 + b) i 520 (omega arith) ∙ words-there)
      go false e =
          let h = ltb-false b 256 e in
          let l : length (flags_in (take 256 (drop 8 s))) ≤ b = omega (arith, length-flags (take 256 (drop 8 s)), length-take 256 (drop 8 s)) in
          receiver-is closed header-closed (done-left ∙ sym (set_out (flags_in (take 256 (drop 8 s))) b true l)) marks-left words-there
