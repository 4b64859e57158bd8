-- The meaning of a stretch in the words of the demand: where it ends, where it runs, and what refuses it.
use Rattle.std.specs.Prelude.{◌≡◌, refl, Bool, true, false, ℕ, suc, ◌+◌, drop, if◌then◌else◌}
use Rattle.std.proofs.Common.{◌∙◌, suc-add, arith}
use mathlib.Core.List.{List, [], ◌∷◌, ◌++◌}
use Rattle.std.proofs.Math.Nat.{add-zero, add-suc}
use Rattle.std.proofs.Math.ListN.{length}
use Rattle.words.specs.Choice.{All}
use Rattle.memory_region.specs.declared.region.Right.TheVariants.{Write}
use Rattle.memory_map.specs.Lookup as map
use Rattle.memory_map.specs.Lookup.{Lookup, Found, place_of}
use Rattle.memory_map.proofs.LookupLaws.{Lawful}
use Rattle.memory_map.specs.Entry as entry
use Rattle.memory_map.specs.Entry.{legal, kind_at, run_entry}
use Rattle.plan.specs.Plan.{Piece, put, fill, run}
use Rattle.plan.specs.Meaning.{Permit, allowed, denied, ranged, entered, permit, effect, effects, stretch, Finish, ends, runs, denies, Stopped, or_deny, finish, meaning, Permitted}

-- a put or a fill
abbrev pub Stores : Piece → Type 0
Stores (put a d) = Unit {0}
Stores (fill a n w) = Unit {0}
Stores (run a) = ⊥

pub effects-append : (find : Lookup) (ps qs : List Piece) (m : List ℕ) → effects find (ps ++ qs) m ≡ effects find qs (effects find ps m)
unfolding effects
effects-append find [] qs m = refl
effects-append find (p ∷ ps) qs m = effects-append find ps qs (effect find p m)

-- pieces that store, before others
pub stretch-past : (qs rs : List Piece) → All Stores qs → stretch (qs ++ rs) ≡ qs ++ stretch rs
unfolding stretch
stretch-past [] rs s = refl
stretch-past (put a d ∷ qs) rs s = rw (stretch-past qs rs s.1)
stretch-past (fill a n w ∷ qs) rs s = rw (stretch-past qs rs s.1)
stretch-past (run a ∷ qs) rs s = absurd s.0

-- a range that is permitted was found
pub permitted-at : (f : Found) → ranged f ≡ allowed → f ≡ map.at (place_of f)
permitted-at (map.at q) e = refl
permitted-at (map.refused y) e = let z : ◌≡◌ {A = ℕ} 0 1 = cc in absurd (omega arith)

-- where no piece is denied, the first is permitted, and the stretch ends as the others do
pub stopped-first : (v : Permit) (i : ℕ) (x : Finish) → Stopped (or_deny v i x) → (v ≡ allowed) × (or_deny v i x ≡ x)
stopped-first allowed i x s = (refl, refl)
stopped-first (denied y) i x s = absurd s

module _ (find : Lookup) where
  -- all are
  pub stopped-permitted : (ps : List Piece) (i : ℕ) → Stopped (finish find (stretch ps) i) → Permitted find (stretch ps)
  unfolding finish stretch
  stopped-permitted [] i s = tt
  stopped-permitted (put a d ∷ ps) i s =
      let u = stopped-first (permit find (put a d)) i _ s in
      (u.0, stopped-permitted ps (suc i) (rw u.1 at s))
  stopped-permitted (fill a n w ∷ ps) i s =
      let u = stopped-first (permit find (fill a n w)) i _ s in
      (u.0, stopped-permitted ps (suc i) (rw u.1 at s))
  stopped-permitted (run a ∷ ps) i s = ((stopped-first (permit find (run a)) i (runs a i) s).0, tt)

  -- and where all are, none is denied
  pub permitted-stopped : (ps : List Piece) (i : ℕ) → Permitted find (stretch ps) → Stopped (finish find (stretch ps) i)
  unfolding finish stretch
  permitted-stopped [] i h = tt
  permitted-stopped (put a d ∷ ps) i h = rw h.0 (permitted-stopped ps (suc i) h.1)
  permitted-stopped (fill a n w ∷ ps) i h = rw h.0 (permitted-stopped ps (suc i) h.1)
  permitted-stopped (run a ∷ ps) i h = rw h.0 tt

  pub finish-past : (qs rs : List Piece) (i : ℕ) → All Stores qs → Permitted find qs → finish find (qs ++ rs) i ≡ finish find rs (i + length qs)
  unfolding finish
  finish-past [] rs i s h = rw add-zero
  finish-past (put a d ∷ qs) rs i s h = rw (h.0, finish-past qs rs (suc i) s.1 h.1, add-suc, suc-add)
  finish-past (fill a n w ∷ qs) rs i s h = rw (h.0, finish-past qs rs (suc i) s.1 h.1, add-suc, suc-add)
  finish-past (run a ∷ qs) rs i s h = absurd s.0

  finish-denied : (p : Piece) (rs : List Piece) (i : ℕ) {x : ℕ} → permit find p ≡ denied x → finish find (p ∷ rs) i ≡ denies x i
  unfolding finish
  finish-denied (put a d) rs i h = rw h
  finish-denied (fill a n w) rs i h = rw h
  finish-denied (run a) rs i h = rw h

  module _ (ps : List Piece) (i : ℕ) (m : List ℕ) (qs : List Piece) (s : All Stores qs) (h : Permitted find qs) where
    -- "Without a run it reports the end."
    pub means-end : drop i ps ≡ qs ++ [] → meaning find ps i m ≡ record { finish = ends (i + length qs); memory = effects find qs m }
    unfolding meaning finish stretch effects
    means-end e = rw (e, stretch-past qs [] s, finish-past qs [] i s h, effects-append find qs [] m)

    -- "If every piece of the stretch is permitted, the load leaves exactly the memory that the plan's own pieces in that stretch, taken
    -- in order, would leave, and names the same run address."
    pub means-run :
        (a : ℕ) (rs : List Piece) → drop i ps ≡ qs ++ run a ∷ rs → permit find (run a) ≡ allowed
        → meaning find ps i m ≡ record { finish = runs a (i + length qs); memory = effects find qs m }
    unfolding meaning finish stretch effects effect
    means-run a rs e g =
        rw (e, stretch-past qs (run a ∷ rs) s, finish-past qs (run a ∷ []) i s h, effects-append find qs (run a ∷ []) m, g)

    -- "If a piece of the stretch is not permitted, the load is refused for the first such piece, and no byte changes."
    pub means-denied :
        (p : Piece) (rs : List Piece) {x : ℕ} → stretch (drop i ps) ≡ qs ++ p ∷ rs → permit find p ≡ denied x
        → meaning find ps i m ≡ record { finish = denies x (i + length qs); memory = m }
    unfolding meaning
    means-denied p rs e g = rw (e, finish-past qs (p ∷ rs) i s h, finish-denied p rs (i + length qs) g)

-- "The refusal is 4 or 9": 4 for a put or fill, 9 for a run
abbrev pub number_of : Piece → ℕ
number_of (put a d) = 4
number_of (fill a n w) = 4
number_of (run a) = 9

pub denied-number : {find : Lookup} {size : ℕ} → Lawful find size → (p : Piece) {x : ℕ} → permit find p ≡ denied x → x ≡ number_of p
unfolding permit run_entry
denied-number {find} laws p e = go p e
  where
    range : (a n : ℕ) (f : Found) → find Write a n ≡ f → {x : ℕ} → ranged f ≡ denied x → x ≡ 4
    range a n (map.at q) g {x} e = let z : ◌≡◌ {A = ℕ} 0 1 = cc in absurd (omega arith)
    range a n (map.refused y) g {x} e = let z : x ≡ y = cc in z ∙ laws.number Write a n y g

    entry-number : (a : ℕ) (b : Bool) {x : ℕ} → entered (if b then entry.entry (kind_at a) a else entry.refused 9) ≡ denied x → x ≡ 9
    entry-number a true e = let z : ◌≡◌ {A = ℕ} 0 1 = cc in absurd (omega arith)
    entry-number a false e = cc

    go : (p : Piece) {x : ℕ} → permit find p ≡ denied x → x ≡ number_of p
    go (put a d) e = range a (length d) (find Write a (length d)) refl e
    go (fill a n w) e = range a n (find Write a n) refl e
    go (run a) e = entry-number a (legal find a) e
