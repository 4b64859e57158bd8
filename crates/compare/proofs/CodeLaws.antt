-- Laws of the bytes of the code's sources, and of two sources side by side.
use Rattle.std.specs.Prelude.{◌≡◌, refl, Bool, true, false, not, ◌&&◌, List, ◌++◌, ℕ, zero, suc, ◌+◌, ◌-◌, ◌*◌, ◌%◌, ◌≤◌, ◌<◌, ltb, eqb, length, take, drop, get_or}
use Rattle.std.proofs.Common.{ap, sym, ◌∙◌, arith, get_or-take, get_or-drop, get_or-append-add, ltb-true, ltb-false, eqb-true, eq-eqb, ne_eqb}
use Rattle.std.specs.Bool.{beq}
use Rattle.std.proofs.Math.ListN.{get_or-append}
use Rattle.std.proofs.lemmas.Bool.{eqb-false}
use Rattle.words.proofs.ChoiceLaws.{true-is-false}
use Rattle.words.specs.Bytes.{little_endian, Bytes}
use Rattle.words.proofs.BytesLaws.{length-little_endian, bytes-of}
use Rattle.word_blocks.specs.Repeat.{repeated, filling}
use Rattle.plan.specs.Plan.{put, fill}
use Rattle.plan.specs.Packed.{plan_pieces}
use Rattle.plan.specs.Meaning.{stretch, stored_by}
use Rattle.compare.specs.declared.segment.Source as CodeSource
use Rattle.compare.specs.declared.segment.Source.TheVariants.{Nothing, Put, Fill}
use Rattle.compare.specs.LastByte.{byte_at, not_stored}
use Rattle.compare.proofs.LastByteExact.{byte-at}
use Rattle.compare.specs.LastByte.Segment.{nothing, source_byte, covering, border, last-segment}
use Rattle.compare.specs.Code.{image_of}
use Rattle.compare.specs.Code.Segment.{source_is, given_by, stored, Reaches}

-- ---- bytes
pub put_byte : (s : List ℕ) (a o n x : ℕ) → a ≤ x → x < a + n → get_or s (o + (x - a)) 0 ≡ byte_at (put a (take n (drop o s))) x
unfolding stored_by
put_byte s a o n x h g = sym (get_or-take n (drop o s) (x - a) 0 (omega arith) ∙ get_or-drop o s (x - a) 0)

-- counted from an address c of the put
pub put-at : (s : List ℕ) (q : CodeSource.Source) (a o n c e x : ℕ) → q ≡ Put a o n → Reaches s q c e → c ≤ x → x < e
    → source_byte (source_is s q) x ≡ get_or s (o + (c - a) + (x - c)) 0
put-at s q a o n c e x f r k g =
    let i = rw f at r in
    let z : o + (x - a) ≡ o + (c - a) + (x - c) = omega (arith, i.1) in
    rw f (sym (put_byte s a o n x (omega (arith, i.1)) (omega (arith, i.2)))) ∙ ap (λ (j : ℕ). get_or s j 0) z

-- byte j of a repeated word
repeated-byte : (k w j : ℕ) → j < 4 * k → get_or (repeated k w) j 0 ≡ get_or (little_endian 4 w) (j % 4) 0
unfolding repeated
repeated-byte zero w j h = absurd (omega arith)
repeated-byte (suc k) w (suc (suc (suc (suc j)))) h =
    let l = length-little_endian 4 w in
    let z : suc (suc (suc (suc j))) ≡ length (little_endian 4 w) + j = omega arith in
    let y : suc (suc (suc (suc j))) % 4 ≡ j % 4 = omega arith in
    ap (λ (i : ℕ). get_or (little_endian 4 w ++ repeated k w) i 0) z
    ∙ get_or-append-add (little_endian 4 w) (repeated k w) j 0
    ∙ repeated-byte k w j (omega arith)
    ∙ ap (λ (i : ℕ). get_or (little_endian 4 w) i 0) (sym y)
repeated-byte (suc k) w zero h = get_or-append (little_endian 4 w) (repeated k w) 0 0 (omega (arith, length-little_endian 4 w))
repeated-byte (suc k) w (suc zero) h = get_or-append (little_endian 4 w) (repeated k w) 0 1 (omega (arith, length-little_endian 4 w))
repeated-byte (suc k) w (suc (suc zero)) h = get_or-append (little_endian 4 w) (repeated k w) 0 2 (omega (arith, length-little_endian 4 w))
repeated-byte (suc k) w (suc (suc (suc zero))) h = get_or-append (little_endian 4 w) (repeated k w) 0 3 (omega (arith, length-little_endian 4 w))

pub filling-byte : (n w j : ℕ) → j < n → get_or (filling n w) j 0 ≡ get_or (little_endian 4 w) (j % 4) 0
unfolding filling
filling-byte n w j h = get_or-take n (repeated n w) j 0 h ∙ repeated-byte n w j (omega arith)

pub fill-byte : (a n w x : ℕ) → a ≤ x → x < a + n → get_or (little_endian 4 w) ((x - a) % 4) 0 ≡ byte_at (fill a n w) x
unfolding stored_by
fill-byte a n w x h g = sym (filling-byte n w (x - a) (omega arith))

-- 68 bytes of a repeated word, of which 64 from byte p on are used again and again
pub row-byte : (w p k : ℕ) → p < 4 → get_or (filling 68 w) (p + k % 64) 0 ≡ get_or (little_endian 4 w) ((p + k) % 4) 0
row-byte w p k h =
    let z : (p + k % 64) % 4 ≡ (p + k) % 4 = omega arith in
    filling-byte 68 w (p + k % 64) (omega arith) ∙ ap (λ (j : ℕ). get_or (little_endian 4 w) j 0) z

-- counted from an address c of the fill, whose word's byte there is p
pub fill-at : (s : List ℕ) (q : CodeSource.Source) (a n w c e p x : ℕ) → q ≡ Fill a n w → p % 4 ≡ (c - a) % 4 → Reaches s q c e → c ≤ x → x < e
    → source_byte (source_is s q) x ≡ get_or (little_endian 4 w) ((p + (x - c)) % 4) 0
fill-at s q a n w c e p x f u r k g =
    let i = rw f at r in
    let z : (x - a) % 4 ≡ (p + (x - c)) % 4 = omega (arith, i.0) in
    rw f (sym (fill-byte a n w x (omega (arith, i.0)) (omega (arith, i.1)))) ∙ ap (λ (j : ℕ). get_or (little_endian 4 w) j 0) z

-- what is stored is a byte
stored-below : (s : List ℕ) (q : CodeSource.Source) (x : ℕ) → Bytes s → Reaches s q x (x + 1) → stored q ≡ true → source_byte (source_is s q) x < 256
stored-below s Nothing x b r e = true-is-false (sym e)
stored-below s (Put a o n) x b r e = rw (sym (put_byte s a o n x r.1 (omega (arith, r.2)))) (byte-at s (o + (x - a)) b)
stored-below s (Fill a n w) x b r e =
    rw (sym (fill-byte a n w x r.0 (omega (arith, r.1)))) (byte-at (little_endian 4 w) ((x - a) % 4) (bytes-of 4 w))

none-stored : (s : List ℕ) (q : CodeSource.Source) (x : ℕ) → stored q ≡ false → source_byte (source_is s q) x ≡ not_stored
none-stored s Nothing x e = refl
none-stored s (Put a o n) x e = true-is-false e
none-stored s (Fill a n w) x e = true-is-false e

-- ---- two sources side by side
pub beq_same : (a b : Bool) → not (beq a b) ≡ false → a ≡ b
beq_same true true e = refl
beq_same true false e = true-is-false e
beq_same false true e = true-is-false e
beq_same false false e = refl

pub equal-pairs : {a b c d : ℕ} → a ≡ c → b ≡ d → eqb a b ≡ eqb c d
equal-pairs {a} {b} {c} {d} e f = ap (λ (k : ℕ). eqb k b) e ∙ ap (eqb c) f

-- where not both store, whether the values are equal is the same at all addresses
pub one-stored :
    (old new : List ℕ) (old-source new-source : CodeSource.Source) (x : ℕ) → Bytes old → Bytes new → Reaches old old-source x (x + 1)
    → Reaches new new-source x (x + 1) → (stored old-source && stored new-source) ≡ false
    → eqb (given_by old old-source x) (given_by new new-source x) ≡ beq (stored old-source) (stored new-source)
one-stored old new old-source new-source x b d h g e = go (stored old-source) refl (stored new-source) refl e
  where
    go : (m : Bool) → stored old-source ≡ m → (n : Bool) → stored new-source ≡ n → (m && n) ≡ false
        → eqb (given_by old old-source x) (given_by new new-source x) ≡ beq m n
    go true k true l f = true-is-false f
    go true k false l f =
        let i = stored-below old old-source x b h k in
        let j = none-stored new new-source x l in
        ne_eqb (given_by old old-source x) (given_by new new-source x) (λ z. omega arith)
    go false k true l f =
        let i = stored-below new new-source x d g l in
        let j = none-stored old old-source x k in
        ne_eqb (given_by old old-source x) (given_by new new-source x) (λ z. omega arith)
    go false k false l f = eq-eqb _ _ (none-stored old old-source x k ∙ sym (none-stored new new-source x l))

-- what holds from a on and below x, and at x, holds below x + 1
pub more : (P : ℕ → Type 0) (a x : ℕ) → ((y : ℕ) → a ≤ y → y < x → P y) → P x → (y : ℕ) → a ≤ y → y < x + 1 → P y
more P a x f p y h g = go (eqb y x) refl
  where
    go : (b : Bool) → eqb y x ≡ b → P y
    go true e = rw (eqb-true y x e) p
    go false e = let z = eqb-false y x e in f y h (omega arith)

-- what holds below x, and of the n next, holds below x + n
pub more-at-once : (P : ℕ → Type 0) (x n : ℕ) → ((y : ℕ) → y < x → P y) → ((j : ℕ) → j < n → P (x + j)) → (y : ℕ) → y < x + n → P y
more-at-once P x n f g y h = go (ltb y x) refl
  where
    go : (b : Bool) → ltb y x ≡ b → P y
    go true e = f y (ltb-true y x e)
    go false e =
        let k = ltb-false y x e in
        let z : x + (y - x) ≡ y = omega arith in
        rw z at (g (y - x) (omega arith))

-- in a segment the last byte is that of its source
pub image-at : (s : List ℕ) (q : CodeSource.Source) (a e x : ℕ) → source_is s q ≡ covering (stretch (plan_pieces 1 s)) a nothing
    → a ≤ x → x < border (stretch (plan_pieces 1 s)) a e → image_of s x ≡ source_byte (source_is s q) x
image-at s q a e x f h g = rw f (last-segment (stretch (plan_pieces 1 s)) a e x h g)
