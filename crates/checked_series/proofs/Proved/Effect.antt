-- The parts of a permitted piece do together what the piece does (paper 02, C-20).
use Rattle.std.specs.Prelude.{◌≡◌, refl, ℕ, ◌+◌, ◌-◌, ◌/◌, ◌%◌, ◌≤◌}
use Rattle.std.proofs.Math.Path.{ap}
use Rattle.std.proofs.Common.{sym, ◌∙◌, add-zero, take-append-drop}
use mathlib.Core.List.{List, [], ◌∷◌, ◌++◌, append_assoc}
use native.Mathlib.Omega.{arith}
use Rattle.std.proofs.Math.ListN.{length}
use Rattle.words.specs.Choice.{All}
use Rattle.words.specs.Store.{store}
use Rattle.words.proofs.StoreLaws.{length-store, store-adjoining, store-nil}
use Rattle.word_blocks.proofs.RepeatLaws.{repeated-add, filling-split, filling-whole, length-filling}
use Rattle.memory_region.specs.declared.region.Right.TheVariants.{Write}
use Rattle.memory_map.specs.Lookup.{Lookup, at, place_of}
use Rattle.memory_map.proofs.LookupLaws.{Lawful}
use Rattle.plan.specs.Plan.{Piece, put, fill, run, address_of}
use Rattle.plan.specs.Meaning.{allowed, permit, effect, effects, stored_by, Permitted}
use Rattle.plan.proofs.MeaningLaws.{Stores, permitted-at}
use Rattle.aplx_check.specs.Parts.{size_of, first_part, rest_of, Split, split_at, parts_of}
use Rattle.aplx_check.proofs.PartsLaws.{rest-none, rest-rest, parts-stored}
use Rattle.checked_series.proofs.Proved.Parts.{part_at, PartAt, rest_part, is-part, all-parts}

-- ---- the bytes that a piece stores
length-bytes : (p : Piece) → length (stored_by p) ≡ size_of p
unfolding stored_by
length-bytes (put a d) = refl
length-bytes (fill a l w) = length-filling l w
length-bytes (run a) = refl

-- its first n bytes, then the others
bytes-split : (n : ℕ) (p : Piece) → n ≤ size_of p → n % 4 ≡ 0 → stored_by (first_part n p) ++ stored_by (rest_of n p) ≡ stored_by p
unfolding stored_by
bytes-split n (put a d) h o = take-append-drop n d
bytes-split n (fill a l w) h o =
    let u : l / 4 ≡ n / 4 + (l - n) / 4 = omega arith in
    let v : l % 4 ≡ (l - n) % 4 = omega arith in
    rw (filling-whole n w o, filling-split (l - n) w, filling-split l w, u, v, repeated-add, append_assoc)
bytes-split n (run a) h o = refl

no_bytes : (p : Piece) → size_of p ≡ 0 → stored_by p ≡ []
no_bytes p h = go (stored_by p) (length-bytes p ∙ h)
  where
    go : (d : List ℕ) → length d ≡ 0 → d ≡ []
    go [] e = refl
    go (x ∷ d) e = absurd (omega arith)

-- ---- a piece that is permitted
abbrev Found : Lookup → Piece → ℕ → Type 0
Found find p q = find Write (address_of p) (size_of p) ≡ at q

module _ (find : Lookup) where
  permit-found : (p : Piece) → Stores p → permit find p ≡ allowed → Found find p (place_of (find Write (address_of p) (size_of p)))
  unfolding permit
  permit-found (put a d) s v = permitted-at _ v
  permit-found (fill a l w) s v = permitted-at _ v
  permit-found (run a) s v = absurd s

  found-permit : (p : Piece) → Stores p → {q : ℕ} → Found find p q → permit find p ≡ allowed
  unfolding permit
  found-permit (put a d) s e = rw e
  found-permit (fill a l w) s e = rw e
  found-permit (run a) s e = absurd s

  -- it is one store of its bytes
  found-effect : (p : Piece) → Stores p → {q : ℕ} → Found find p q → (m : List ℕ) → effect find p m ≡ store m q (stored_by p)
  unfolding effect stored_by
  found-effect (put a d) s e m = rw e
  found-effect (fill a l w) s e m = rw e
  found-effect (run a) s e m = absurd s

-- ---- its parts
pub record Alike (find : Lookup) (p : Piece) (qs : List Piece) (m : List ℕ) : Type 0 where
  pub storing : All Stores qs
  pub permitted : Permitted find qs
  pub same : effects find qs m ≡ effect find p m

module _ {find : Lookup} {size : ℕ} (laws : Lawful find size) (p : Piece) (s : Stores p) (q : ℕ) (f : Found find p q) where
  part-found : (o n : ℕ) → PartAt o n p → Found find (part_at o n p) (q + o)
  part-found o n t =
      let i = is-part p s o n t in
      rw (i.address, i.size) (laws.part Write (address_of p) (size_of p) q o n f t.some t.inside)

  -- the parts behind the first o bytes store the others
  parts-store : (ns : List ℕ) (o : ℕ) (m : List ℕ) → length m ≡ size → o % 32 ≡ 0 → Split (rest_of o p) ns
      → effects find (split_at (rest_of o p) ns) m ≡ store m (q + o) (stored_by (rest_of o p))
  unfolding effects
  parts-store [] o m z h k = rw (no_bytes (rest_of o p) k) (sym (store-nil m (q + o)))
  parts-store (n ∷ ns) o m z h k =
      let d = stored_by (part_at o n p) in
      let rest = rest_of n (rest_of o p) in
      let t = rest_part p s o n h k.0 in
      let i = is-part p s o n t in
      let r = rest-rest n o p in
      let l : length d ≡ n = length-bytes (part_at o n p) ∙ i.size in
      let fits : q + o + length d ≤ length m = omega (arith, laws.inside Write (address_of p) (size_of p) q f, t.inside) in
      let one = found-effect find (part_at o n p) i.storing (part-found o n t) m in
      let others = parts-store ns (o + n) (store m (q + o) d) (length-store m (q + o) d fits ∙ z) (omega (arith, t.whole)) (rw r at k.1) in
      let e : q + (o + n) ≡ q + o + length d = omega arith in
      ap (effects find (split_at rest ns)) one ∙ (rw (← r, e) at others) ∙ store-adjoining m (q + o) d fits (stored_by rest)
      ∙ ap (store m (q + o)) (bytes-split n (rest_of o p) k.0.inside (omega (arith, t.whole)))

  split-alike : (ns : List ℕ) → Split p ns → (m : List ℕ) → length m ≡ size → Alike find p (split_at p ns) m
  split-alike ns k m z =
      let e = rest-none p in
      record {
        storing = all-parts Stores p s (λ o n t. (is-part p s o n t).storing) ns k;
        permitted = all-parts (λ x. permit find x ≡ allowed) p s
            (λ o n t. found-permit find (part_at o n p) (is-part p s o n t).storing (part-found o n t)) ns k;
        same = (rw (e, add-zero q) at (parts-store ns 0 m z refl (rw e k))) ∙ sym (found-effect find p s f m);
      }

-- a put or a fill that is permitted
pub piece-alike : {find : Lookup} {size : ℕ} → Lawful find size → (p : Piece) (ns : List ℕ) → Stores p → Split p ns → permit find p ≡ allowed
    → (m : List ℕ) → length m ≡ size → Alike find p (parts_of p ns) m
piece-alike {find} laws p ns s k v m z = rw (parts-stored p s ns) (split-alike laws p s _ (permit-found find p s v) ns k m z)
