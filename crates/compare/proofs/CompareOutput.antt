-- Laws of the stretches in the output: they are put there one by one, from the list.
use Rattle.std.specs.Prelude.{◌≡◌, refl, List, [], ◌∷◌, ◌++◌, ℕ, ◌+◌, ◌*◌, ◌≤◌, ◌<◌, take}
use Rattle.std.proofs.Math.Path.{ap}
use Rattle.std.proofs.Common.{sym, ◌∙◌, append_assoc, append-nil, add-one, arith, length-append, length-take-le}
use Rattle.std.proofs.Math.ListN.{length, get_or}
use Rattle.std.proofs.Math.Seq.{take-suc, take-length}
use Rattle.words.specs.Four.{four_bytes}
use Rattle.words.proofs.FourLaws.{length-four_bytes}
use Rattle.words.specs.Store.{store, store_if_fits}
use Rattle.words.proofs.StoreLaws.{store-nil, store-behind}
use Rattle.stretches.specs.Stretches.{Stretch}
use Rattle.compare.specs.declared.listing.Stretch as CodeStretch
use Rattle.compare.specs.declared.listing.Listing.{Listing}
use Rattle.compare.specs.Code.Listed.{stretch_is, Listed}
use Rattle.compare.proofs.ListedLaws.{listed_at}
use Rattle.compare.specs.Compare.{stretch_size, stretch_bytes}

abbrev none : Stretch
none = record { first = 0; last = 0; old = 0; new = 0 }

pub length-stretch_bytes : (l : List Stretch) → length (stretch_bytes l) ≡ stretch_size * length l
unfolding stretch_bytes
length-stretch_bytes [] = refl
length-stretch_bytes (s ∷ l) = rw (length-append) (omega (arith, length-four_bytes s.first s.last s.old s.new, length-stretch_bytes l))

append-stretch_bytes : (l k : List Stretch) → stretch_bytes (l ++ k) ≡ stretch_bytes l ++ stretch_bytes k
unfolding stretch_bytes
append-stretch_bytes [] k = refl
append-stretch_bytes (s ∷ l) k = rw (append-stretch_bytes l k, append_assoc)

-- the bytes of stretch i, behind those of the stretches before it
pub put-stretch :
    (g : Listing) (l : List Stretch) → Listed g l → g.count ≤ length g.stretches → (i : ℕ) → i < g.count
    → (m r s : List ℕ) → stretch_size * g.count ≤ length m → r ≡ store m 0 (stretch_bytes (take i l))
    → (c : CodeStretch.Stretch) → c ≡ get_or g.stretches i (record { first = 0; last = 0; old = 0; new = 0 })
    → s ≡ store_if_fits r (stretch_size * i) (four_bytes c.first c.last c.old c.new)
    → s ≡ store m 0 (stretch_bytes (take (i + 1) l))
unfolding stretch_bytes
put-stretch g l h n i k m r s f e c o u =
    let t = get_or l i none in
    let w : t ≡ stretch_is c = listed_at g l h i k n ∙ ap stretch_is (sym o) in
    let d = four_bytes t.first t.last t.old t.new in
    let b : length (stretch_bytes (take i l)) ≡ stretch_size * i = length-stretch_bytes (take i l) ∙ ap (λ (x : ℕ). stretch_size * x) (length-take-le i l (omega (arith, h.0))) in
    let a : s ≡ store_if_fits r (stretch_size * i) d = u ∙ ap (λ (z : Stretch). store_if_fits r (stretch_size * i) (four_bytes z.first z.last z.old z.new)) (sym w) in
    let v : stretch_bytes (take (i + 1) l) ≡ stretch_bytes (take i l) ++ d =
    rw (add-one i, take-suc l i none (omega (arith, h.0)), append-stretch_bytes, append-nil) in
    rw v (store-behind m 0 (stretch_bytes (take i l)) d (stretch_size * i) r s (omega arith) (omega (arith, length-four_bytes t.first t.last t.old t.new)) e a)

-- none yet, and all
pub put-none : (m : List ℕ) (l : List Stretch) → m ≡ store m 0 (stretch_bytes (take 0 l))
unfolding stretch_bytes
put-none m l = sym (store-nil m 0)

pub put_all : (m r : List ℕ) (l : List Stretch) (i n : ℕ) → n ≤ i → i ≤ n → n ≡ length l → r ≡ store m 0 (stretch_bytes (take i l)) → r ≡ store m 0 (stretch_bytes l)
put_all m r l i n h g e f =
    let z : i ≡ length l = omega arith in
    f ∙ ap (λ (k : List Stretch). store m 0 (stretch_bytes k)) (ap (λ (j : ℕ). take j l) z ∙ take-length l)
