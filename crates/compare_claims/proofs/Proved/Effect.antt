-- What is compared is what the plans mean: the byte at a writable address, the run, and the whole memory.
use Rattle.std.specs.Prelude.{◌≡◌, ◌⊎◌, ℕ, suc, ◌+◌, ◌-◌, ◌≤◌, length, get_or}
use Rattle.std.proofs.Math.Path.{refl}
use Rattle.std.proofs.Common.{ap, sym, ◌∙◌, arith, ext_get_or}
use Rattle.std.proofs.Math.Logic.{inl, inr}
use mathlib.Core.List.{List, [], ◌∷◌}
use Rattle.words.proofs.RangeLaws.{Zone, inside, outside, zone}
use Rattle.words.specs.Store.{store}
use Rattle.words.proofs.StoreLaws.{length-store, element-outside}
use Rattle.word_blocks.specs.Repeat.{filling}
use Rattle.word_blocks.proofs.RepeatLaws.{length-filling}
use Rattle.memory_region.specs.declared.region.Right.TheVariants.{Write}
use Rattle.memory_map.specs.Lookup.{Lookup, Found, at, refused, lookup}
use Rattle.memory_map.proofs.LookupLaws.{Lawful, lawful}
use Rattle.plan.specs.Plan.{Piece, put, fill, run}
use Rattle.plan.specs.Meaning.{allowed, ranged, permit, store_at, effect, effects, stretch, Finish, ends, runs, denies, Stopped, finish, meant, meaning, Permitted}
use Rattle.plan.proofs.MeaningLaws.{stopped-first, stopped-permitted}
use Rattle.compare.specs.LastByte.{last_byte}
use Rattle.compare.specs.LastByte.Laws.{not_covered}
use Rattle.compare.proofs.LastByteMeaning.{effects-byte}
use Rattle.compare.specs.Reading.{run_of}
use Rattle.compare_claims.specs.Claims.{named_by, AsMeant}
use Rattle.compare_claims.proofs.Proved.Leaves.{leaves_after, same_after}
use Rattle.compare.proofs.ReadingBytes.{AreBytes}

-- every piece of a stretch that stopped is permitted, and the memory is what they leave in order
finished : (f : Finish) (m new : List ℕ) → Stopped (meant f m new).finish → Stopped f × ((meant f m new).memory ≡ new)
finished (ends i) m new s = (tt, refl)
finished (runs a i) m new s = (tt, refl)
finished (denies x i) m new s = absurd s

stopped : (find : Lookup) (ps : List Piece) (m : List ℕ) → Stopped (meaning find ps 0 m).finish
    → Permitted find (stretch ps) × ((meaning find ps 0 m).memory ≡ effects find (stretch ps) m)
unfolding meaning
stopped find ps m s =
    let f = finished (finish find (stretch ps) 0) m (effects find (stretch ps) m) s in
    (stopped-permitted find ps 0 f.0, f.1)

pub as-meant : AsMeant
as-meant map m sounds ps s x q here =
    let find = lookup map in
    let laws = lawful map (length m) sounds in
    let t = stopped find ps m s in
    let e = ap (λ (k : List ℕ). get_or k q 0) t.1 ∙ effects-byte find (length m) laws x q here (stretch ps) m refl t.0 in
    record {
      stored = λ l. e ∙ leaves_after l (get_or m q 0);
      kept = λ n. e ∙ not_covered (stretch ps) x (get_or m q 0) n;
    }

-- ---- the run
finish-run : (find : Lookup) (ps : List Piece) (i : ℕ) → Stopped (finish find (stretch ps) i) → named_by (finish find (stretch ps) i) ≡ run_of ps
unfolding finish stretch run_of
finish-run find [] i s = refl
finish-run find (put a d ∷ ps) i s =
    let u = stopped-first (permit find (put a d)) i (finish find (stretch ps) (suc i)) s in
    ap named_by u.1 ∙ finish-run find ps (suc i) (rw u.1 at s)
finish-run find (fill a n w ∷ ps) i s =
    let u = stopped-first (permit find (fill a n w)) i (finish find (stretch ps) (suc i)) s in
    ap named_by u.1 ∙ finish-run find ps (suc i) (rw u.1 at s)
finish-run find (run a ∷ ps) i s = ap named_by (stopped-first (permit find (run a)) i (runs a i) s).1

pub run-meant : (find : Lookup) (ps : List Piece) (m : List ℕ) → Stopped (meaning find ps 0 m).finish → named_by (meaning find ps 0 m).finish ≡ run_of ps
unfolding meaning
run-meant find ps m s = go (finish find (stretch ps) 0) s (finish-run find ps 0)
  where
    go : (f : Finish) → Stopped (meant f m (effects find (stretch ps) m)).finish → (Stopped f → named_by f ≡ run_of ps)
        → named_by (meant f m (effects find (stretch ps) m)).finish ≡ run_of ps
    go (ends i) s h = h tt
    go (runs a i) s h = h tt
    go (denies x i) s h = absurd s

-- ---- the whole memory
module _ (find : Lookup) (n : ℕ) (laws : Lawful find n) where
  -- the length stays, and a byte at place q is that of a writable address, or stays
  record Reach (q : ℕ) : Type 0 where
    address : ℕ
    here : find Write address 1 ≡ at q

  abbrev Stays : ℕ → List ℕ → List ℕ → Type 0
  Stays q m k = Reach q ⊎ (get_or k q 0 ≡ get_or m q 0)

  stays-store : (a : ℕ) (d : List ℕ) (f : Found) → find Write a (length d) ≡ f → ranged f ≡ allowed → (m : List ℕ) → length m ≡ n
      → (length (store_at f d m) ≡ n) × ((q : ℕ) → Stays q m (store_at f d m))
  stays-store a d (refused x) e g m l = let z : ◌≡◌ {A = ℕ} 0 1 = cc in absurd (omega arith)
  stays-store a d (at p) e g m l = (length-store m p d fits ∙ l, λ q. near q (zone q p (length d)))
    where
      fits : p + length d ≤ length m
      fits = omega (arith, laws.inside Write a (length d) p e)

      near : (q : ℕ) → Zone q p (length d) → Stays q m (store m p d)
      near q (inside i) =
          let z : p + (q - p) ≡ q = omega arith in
          inl (record { address = a + (q - p); here = laws.part Write a (length d) p (q - p) 1 e (omega arith) (omega arith) ∙ ap at z })
      near q (outside o) = inr (element-outside m p d fits q o)

  stays-effect : (p : Piece) → permit find p ≡ allowed → (m : List ℕ) → length m ≡ n → (length (effect find p m) ≡ n) × ((q : ℕ) → Stays q m (effect find p m))
  unfolding permit effect
  stays-effect (put a d) g m l = stays-store a d (find Write a (length d)) refl g m l
  stays-effect (fill a k w) g m l = stays-store a (filling k w) (find Write a k) (ap (find Write a) (length-filling k w)) g m l
  stays-effect (run a) g m l = (l, λ q. inr refl)

  stays-effects : (ps : List Piece) → Permitted find ps → (m : List ℕ) → length m ≡ n
      → (length (effects find ps m) ≡ n) × ((q : ℕ) → Stays q m (effects find ps m))
  unfolding effects
  stays-effects [] h m l = (l, λ q. inr refl)
  stays-effects (p ∷ ps) h m l =
      let e = stays-effect p h.0 m l in
      let f = stays-effects ps h.1 (effect find p m) e.0 in
      (f.0, λ q. go q (e.1 q) (f.1 q))
    where
      go : (q : ℕ) → Stays q m (effect find p m) → Stays q (effect find p m) (effects find ps (effect find p m)) → Stays q m (effects find ps (effect find p m))
      go q (inl r) t = inl r
      go q (inr e) (inl r) = inl r
      go q (inr e) (inr f) = inr (f ∙ e)

  -- pieces with the same last bytes leave the same memory
  same-effects : (ps qs : List Piece) → AreBytes ps → AreBytes qs → ((x : ℕ) → last_byte ps x ≡ last_byte qs x) → Permitted find ps → Permitted find qs
      → (m : List ℕ) → length m ≡ n → effects find ps m ≡ effects find qs m
  same-effects ps qs b c e h g m l =
      let s = stays-effects ps h m l in
      let t = stays-effects qs g m l in
      ext_get_or 0 (effects find ps m) (effects find qs m) (s.0 ∙ sym t.0) (λ q i. go q (s.1 q) (t.1 q))
    where
      at_address : (q : ℕ) → Reach q → get_or (effects find ps m) q 0 ≡ get_or (effects find qs m) q 0
      at_address q r =
          effects-byte find n laws r.address q r.here ps m l h
          ∙ same_after ps qs r.address b c (e r.address) (get_or m q 0)
          ∙ sym (effects-byte find n laws r.address q r.here qs m l g)

      go : (q : ℕ) → Stays q m (effects find ps m) → Stays q m (effects find qs m) → get_or (effects find ps m) q 0 ≡ get_or (effects find qs m) q 0
      go q (inl r) u = at_address q r
      go q (inr x) (inl r) = at_address q r
      go q (inr x) (inr y) = x ∙ sym y

-- two stretches that are permitted
pub same_memory : (find : Lookup) (m : List ℕ) → Lawful find (length m) → (ps qs : List Piece) → AreBytes (stretch ps) → AreBytes (stretch qs)
    → ((x : ℕ) → last_byte (stretch ps) x ≡ last_byte (stretch qs) x)
    → Stopped (meaning find ps 0 m).finish → Stopped (meaning find qs 0 m).finish → (meaning find ps 0 m).memory ≡ (meaning find qs 0 m).memory
same_memory find m laws ps qs b c e s t =
    let f = stopped find ps m s in
    let g = stopped find qs m t in
    f.1 ∙ same-effects find (length m) laws (stretch ps) (stretch qs) b c e f.0 g.0 m refl ∙ sym g.1
