-- Laws of a line: the lengths of its parts, and that they are written one behind the other.
use Rattle.std.specs.Prelude.{◌≡◌, refl, Bool, true, false, List, [], ◌∷◌, ◌++◌, ℕ, ◌+◌, ◌≤◌, ◌<◌, eqb, length, set, if◌then◌else◌}
use Rattle.std.proofs.Common.{ap, sym, ◌∙◌, append_assoc, arith, length-append, eq-eqb, ne_eqb}
use Rattle.words.specs.Store.{store, store_if_fits}
use Rattle.words.proofs.StoreLaws.{length-store, store-fits, store-adjoining, sets-store}
use Rattle.text.specs.Hex.{hex}
use Rattle.text.proofs.DigitsLaws.{length_digits}
use Rattle.stretches.specs.Stretches.{Stretch}
use Rattle.compare.specs.LastByte.{not_stored}
use Rattle.comparison.specs.Lines.{byte_text, line}

-- ---- a byte that is stored or not
pub text-none : (b : ℕ) → b ≡ not_stored → byte_text b ≡ 45 ∷ 45 ∷ []
unfolding byte_text
text-none b h = rw (eq-eqb b not_stored h)

pub text-stored : (b : ℕ) → (b ≡ not_stored → ⊥) → byte_text b ≡ hex 2 b
unfolding byte_text
text-stored b h = rw (ne_eqb b not_stored h)

pub length-byte : (b : ℕ) → length (byte_text b) ≡ 2
unfolding byte_text
length-byte b = go (eqb b not_stored)
  where
    go : (t : Bool) → length (if t then 45 ∷ 45 ∷ [] else hex 2 b) ≡ 2
    go true = refl
    go false = length_digits 16 2 b

-- ---- one part behind the other: d at place p of m, and e behind it at place n
module _ (m : List ℕ) (p : ℕ) (d : List ℕ) (n : ℕ) (at : p + length d ≡ n) (r : List ℕ) where
  pub adjoined : (e s : List ℕ) → n ≤ length m → r ≡ store m p d → s ≡ store r n e → s ≡ store m p (d ++ e)
  adjoined e s h f g = g ∙ rw (f, ← at) (store-adjoining m p d (omega arith) e)

  -- and one byte b
  pub byte-behind : (b : ℕ) → n < length m → r ≡ store_if_fits m p d → set r n b ≡ store m p (d ++ b ∷ [])
  byte-behind b h f =
      let e = f ∙ store-fits m p d (omega arith) in
      let l = ap length e ∙ length-store m p d (omega arith) in
      adjoined (b ∷ []) (set r n b) (omega arith) e (sets-store r n (b ∷ []) (omega arith))

-- ---- a line
abbrev address : ℕ → List ℕ
address a = hex 8 a ++ 32 ∷ []

abbrev byte : ℕ → ℕ → List ℕ
byte b separator = byte_text b ++ separator ∷ []

length-address : (a : ℕ) → length (address a) ≡ 9
length-address a = rw (length-append, length_digits 16 8 a)

length-separated : (b separator : ℕ) → length (byte b separator) ≡ 3
length-separated b separator = rw (length-append, length-byte b)

parts : (s : Stretch) → line s ≡ ((address s.first ++ address s.last) ++ byte s.old 32) ++ byte s.new 10
unfolding line
parts s = simp append_assoc

-- the text m, and what is left after each of the four parts
module _ (m : List ℕ) (at : ℕ) (s : Stretch) (h : at + 24 ≤ length m) where
  pub line-written : (a b c d : List ℕ) → a ≡ store m at (address s.first) → b ≡ store a (at + 9) (address s.last)
      → c ≡ store b (at + 18) (byte s.old 32) → d ≡ store c (at + 21) (byte s.new 10) → d ≡ store m at (line s)
  line-written a b c d u v w x =
      let p = address s.first in
      let q = address s.last in
      let r = byte s.old 32 in
      let i = length-address s.first in
      let j = length-address s.last in
      let k = length-separated s.old 32 in
      let n : length (p ++ q) ≡ 18 = length-append p q ∙ omega arith in
      let o : length ((p ++ q) ++ r) ≡ 21 = length-append (p ++ q) r ∙ omega arith in
      let two = adjoined m at p (at + 9) (omega arith) a q b (omega arith) u v in
      let three = adjoined m at (p ++ q) (at + 18) (omega arith) b r c (omega arith) two w in
      adjoined m at ((p ++ q) ++ r) (at + 21) (omega arith) c (byte s.new 10) d (omega arith) three x ∙ ap (store m at) (sym (parts s))

pub length-line : (s : Stretch) → length (line s) ≡ 24
length-line s =
    rw (parts s) (simp (length-append, length_digits 16 8 s.first, length_digits 16 8 s.last, length-byte s.old, length-byte s.new))
