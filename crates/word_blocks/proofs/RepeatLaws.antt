-- Laws of repeated words.
use Rattle.std.specs.Prelude.{◌≡◌, refl, List, [], ◌∷◌, ◌++◌, ℕ, zero, suc, ◌+◌, ◌-◌, ◌*◌, ◌/◌, ◌%◌, ◌≤◌, ◌<◌, length, take}
use Rattle.std.proofs.Common.{ap, ◌∙◌, append_assoc, append-nil, zero-add, arith, length-append, length-take-le}
use Rattle.std.proofs.lemmas.List.{take-append-le}
use Rattle.std.proofs.Math.Seq.{take-append-add}
use borrow.Rule.Slice.PartMut.{mid_of, put_mid, mid_len}
use Rattle.words.specs.Bytes.{little_endian, Bytes}
use Rattle.words.proofs.BytesLaws.{length-little_endian, take-little_endian, bytes-of}
use Rattle.words.proofs.ChoiceLaws.{all_append, all_take}
use Rattle.word_blocks.specs.Repeat.{repeated, filling}
use Rattle.words.specs.Store.{store}
use Rattle.words.proofs.StoreLaws.{store-part}

pub length-repeated : (k w : ℕ) → length (repeated k w) ≡ 4 * k
unfolding repeated
length-repeated zero w = refl
length-repeated (suc k) w = simp (length-append, length-little_endian, length-repeated k w) (omega arith)

pub repeated-add : (k j w : ℕ) → repeated (k + j) w ≡ repeated k w ++ repeated j w
unfolding repeated
repeated-add zero j w = simp zero-add
repeated-add (suc k) j w = let e : suc k + j ≡ suc (k + j) = omega arith in simp (e, repeated-add k j w, append_assoc)

-- one more word at the end
pub repeated-more : (k w : ℕ) → repeated (k + 1) w ≡ repeated k w ++ little_endian 4 w
unfolding repeated
repeated-more k w = rw (repeated-add k 1 w, append-nil (little_endian 4 w))

pub length-filling : (n w : ℕ) → length (filling n w) ≡ n
unfolding filling
length-filling n w = length-take-le n (repeated n w) (omega (arith, length-repeated n w))

-- fewer bytes than the first word has
take-first : (j k w : ℕ) → j ≤ k → j < 4 → take j (repeated k w) ≡ little_endian j w
unfolding repeated little_endian
take-first zero k w h g = refl
take-first (suc j) zero w h g = absurd (omega arith)
take-first (suc j) (suc k) w h g =
    take-append-le (suc j) (little_endian 4 w) (repeated k w) (omega (arith, length-little_endian 4 w))
    ∙ take-little_endian (suc j) 4 w (omega arith)

-- the whole words, then the bytes behind them
pub filling-split : (n w : ℕ) → filling n w ≡ repeated (n / 4) w ++ little_endian (n % 4) w
unfolding filling
filling-split n w =
    let d = repeated (n / 4) w in
    let more = n - n / 4 in
    let k : n ≡ n / 4 + more = omega arith in
    let l : n ≡ length d + n % 4 = omega (arith, length-repeated (n / 4) w) in
    ap (λ (j : ℕ). take n (repeated j w)) k
    ∙ rw (repeated-add (n / 4) more w) (ap (λ (j : ℕ). take j (d ++ repeated more w)) l)
    ∙ take-append-add d (repeated more w) (n % 4)
    ∙ rw (take-first (n % 4) more w (omega arith) (omega arith))

-- cut at a multiple of 4
pub filling-whole : (n w : ℕ) → n % 4 ≡ 0 → filling n w ≡ repeated (n / 4) w
unfolding little_endian
filling-whole n w h = rw (filling-split n w, h) (append-nil (repeated (n / 4) w))

-- a part of n bytes at p, lent and come back filled
pub fill-part : (m : List ℕ) (p n w : ℕ) (d : List ℕ) → p + n ≤ length m → d ≡ filling (length (mid_of p (p + n - p) m)) w
    → put_mid p (p + n - p) m d ≡ store m p (filling n w)
fill-part m p n w d h e =
    let l : length (mid_of p (p + n - p) m) ≡ n = mid_len p (p + n) m h ∙ omega arith in
    store-part m p (p + n) d (omega arith) h (ap length e ∙ length-filling _ w) ∙ ap (store m p) (rw l at e)

pub filling-bytes : (n w : ℕ) → Bytes (filling n w)
unfolding filling repeated
filling-bytes n w = all_take _ n (repeated n w) (go n)
  where
    go : (k : ℕ) → Bytes (repeated k w)
    go zero = tt
    go (suc k) = all_append _ (little_endian 4 w) (repeated k w) (bytes-of 4 w) (go k)

-- worked examples: a fill of one word, and one cut in its second word
pub record Examples : Type 0 where
  pub one : filling 4 0x01020304 ≡ 4 ∷ 3 ∷ 2 ∷ 1 ∷ []
  pub cut : filling 6 0x01020304 ≡ 4 ∷ 3 ∷ 2 ∷ 1 ∷ 4 ∷ 3 ∷ []

pub examples : Examples
unfolding filling repeated little_endian
examples = record { one = refl; cut = refl }
