-- The parts of a list of pieces: the parts of a permitted stretch do what its pieces do, and stop where they stop (paper 02, C-20).
use Rattle.std.specs.Prelude.{◌≡◌, refl, ℕ, zero, suc, ◌+◌, ◌≤◌, ◌<◌, drop}
use Rattle.std.proofs.Common.{◌∙◌, zero-add, add_assoc, add-one, arith, length-append}
use mathlib.Core.List.{List, [], ◌∷◌}
use Rattle.std.proofs.Math.Nat.{add-zero}
use Rattle.std.proofs.Math.ListN.{length}
use Rattle.std.proofs.Math.Seq.{drop-append-add}
use Rattle.words.specs.Choice.{All}
use Rattle.words.proofs.ChoiceLaws.{all_append}
use Rattle.memory_map.specs.Lookup.{Lookup}
use Rattle.memory_map.proofs.LookupLaws.{Lawful}
use Rattle.plan.specs.Plan.{Piece, put, fill, run}
use Rattle.plan.specs.Packable.{Packable}
use Rattle.plan.specs.Meaning.{allowed, permit, effect, effects, stretch, Finish, ends, runs, denies, finish, Permitted}
use Rattle.plan.proofs.MeaningLaws.{Stores, effects-append, stretch-past, finish-past}
use Rattle.series.specs.Medium.{Misses}
use Rattle.series.proofs.Proved.Kept.{effects-keep, beside_none}
use Rattle.aplx_check.specs.Parts.{Split, parts_of, SplitAll, parts, parts_before}
use Rattle.checked_series.proofs.Proved.Parts.{piece-packable, piece-misses}
use Rattle.checked_series.proofs.Proved.Effect.{piece-alike}

-- ---- each part
pub parts-packable : (ps : List Piece) (cs : List (List ℕ)) → All (Packable 1) ps → SplitAll ps cs → All (Packable 32) (parts ps cs)
parts-packable [] cs g k = tt
parts-packable (p ∷ ps) [] g k = absurd k
parts-packable (p ∷ ps) (ns ∷ cs) g k = all_append _ (parts_of p ns) (parts ps cs) (piece-packable p ns g.0 k.0) (parts-packable ps cs g.1 k.1)

-- n addresses from a on
pub parts-miss : (a n : ℕ) → 0 < n → (ps : List Piece) (cs : List (List ℕ)) → All (Misses a n) ps → SplitAll ps cs → All (Misses a n) (parts ps cs)
parts-miss a n h [] cs o k = tt
parts-miss a n h (p ∷ ps) [] o k = absurd k
parts-miss a n h (p ∷ ps) (ns ∷ cs) o k =
    all_append _ (parts_of p ns) (parts ps cs) (piece-misses a n h p ns o.0 k.0) (parts-miss a n h ps cs o.1 k.1)

-- ---- from piece i on
pub split-drop : (ps : List Piece) (cs : List (List ℕ)) (i : ℕ) → SplitAll ps cs → SplitAll (drop i ps) (drop i cs)
split-drop ps cs zero k = k
split-drop [] [] (suc i) k = tt
split-drop [] (ns ∷ cs) (suc i) k = absurd k
split-drop (p ∷ ps) [] (suc i) k = absurd k
split-drop (p ∷ ps) (ns ∷ cs) (suc i) k = split-drop ps cs i k.1

pub drop-parts : (ps : List Piece) (cs : List (List ℕ)) (i : ℕ) → SplitAll ps cs → i ≤ length ps
    → drop (parts_before ps cs i) (parts ps cs) ≡ parts (drop i ps) (drop i cs)
drop-parts ps cs zero k h = refl
drop-parts [] cs (suc i) k h = absurd (omega arith)
drop-parts (p ∷ ps) [] (suc i) k h = absurd k
drop-parts (p ∷ ps) (ns ∷ cs) (suc i) k h = drop-append-add (parts_of p ns) (parts ps cs) (parts_before ps cs i) ∙ drop-parts ps cs i k.1 (omega arith)

pub before-add : (ps : List Piece) (cs : List (List ℕ)) (i j : ℕ) → SplitAll ps cs → i ≤ length ps
    → parts_before ps cs (i + j) ≡ parts_before ps cs i + parts_before (drop i ps) (drop i cs) j
before-add ps cs zero j k h = rw (zero-add j, zero-add)
before-add [] cs (suc i) j k h = absurd (omega arith)
before-add (p ∷ ps) [] (suc i) j k h = absurd k
before-add (p ∷ ps) (ns ∷ cs) (suc i) j k h =
    let e : suc i + j ≡ suc (i + j) = omega arith in
    rw (e, before-add ps cs i j k.1 (omega arith), add_assoc)

pub before-most : (ps : List Piece) (cs : List (List ℕ)) (i : ℕ) → SplitAll ps cs → parts_before ps cs i ≤ length (parts ps cs)
before-most ps cs zero k = omega arith
before-most [] cs (suc i) k = omega arith
before-most (p ∷ ps) [] (suc i) k = absurd k
before-most (p ∷ ps) (ns ∷ cs) (suc i) k = omega (arith, before-most ps cs i k.1, length-append (parts_of p ns) (parts ps cs))

-- ---- a permitted stretch
-- how the parts end, where the pieces end so and `entry` is the first part of each piece
abbrev pub moved_by : (ℕ → ℕ) → Finish → Finish
moved_by entry (ends j) = ends (entry j)
moved_by entry (runs x j) = runs x (entry j)
moved_by entry (denies x j) = denies x j

-- the part behind a run is the first of the next piece
abbrev pub RunIsOne : (ℕ → ℕ) → Finish → Type 0
RunIsOne entry (ends j) = Unit {0}
RunIsOne entry (runs x j) = entry (suc j) ≡ suc (entry j)
RunIsOne entry (denies x j) = Unit {0}

-- the pieces ps, the first of which has index i, and their parts qs, the first of which is part t
pub record Same (find : Lookup) (entry : ℕ → ℕ) (ps qs : List Piece) (i t : ℕ) (m : List ℕ) : Type 0 where
  pub memory : effects find (stretch qs) m ≡ effects find (stretch ps) m
  pub stop : finish find (stretch qs) t ≡ moved_by entry (finish find (stretch ps) i)
  pub next : RunIsOne entry (finish find (stretch ps) i)

module _ {find : Lookup} {size : ℕ} (laws : Lawful find size) (entry : ℕ → ℕ) where
  -- part t is the first of these pieces, and `entry` gives the first of each
  abbrev Counts : List Piece → List (List ℕ) → ℕ → ℕ → Type 0
  Counts ps cs i t = (j : ℕ) → entry (i + j) ≡ t + parts_before ps cs j

  -- a put or a fill, then others
  module _ (p : Piece) (ns : List ℕ) (ps : List Piece) (cs : List (List ℕ)) (i t : ℕ) (m : List ℕ) where
    counts-next : Counts (p ∷ ps) (ns ∷ cs) i t → Counts ps cs (suc i) (t + length (parts_of p ns))
    counts-next c j = let e : i + suc j ≡ suc i + j = omega arith in (rw e at (c (suc j))) ∙ omega arith

    length-effect : length m ≡ size → length (effect find p m) ≡ size
    unfolding effects
    length-effect z = (effects-keep find 0 0 (p ∷ []) m (rw z laws) (beside_none find (p ∷ []))).length-is ∙ z

    same_more : Stores p → Split p ns → Counts (p ∷ ps) (ns ∷ cs) i t → length m ≡ size → permit find p ≡ allowed
        → ((t : ℕ) (m : List ℕ) → Counts ps cs (suc i) t → length m ≡ size → Same find entry ps (parts ps cs) (suc i) t m)
        → Same find entry (p ∷ ps) (parts (p ∷ ps) (ns ∷ cs)) i t m
    unfolding effects
    same_more s k c z v others =
        let a = piece-alike laws p ns s k v m z in
        let rest = others (t + length (parts_of p ns)) (effect find p m) (counts-next c) (length-effect z) in
        let u = stretch-past (p ∷ []) ps (s, tt) in
        let b = stretch-past (parts_of p ns) (parts ps cs) a.storing in
        let f = rw (add-one i) at (finish-past find (p ∷ []) (stretch ps) i (s, tt) (v, tt)) in
        record {
          memory = rw (b, u, effects-append find (parts_of p ns) (stretch (parts ps cs)) m, a.same) rest.memory;
          stop = rw (b, u, f) (finish-past find (parts_of p ns) (stretch (parts ps cs)) t a.storing a.permitted ∙ rest.stop);
          next = rw (u, f) rest.next;
        }

  pub same-stretch : (ps : List Piece) (cs : List (List ℕ)) (i t : ℕ) (m : List ℕ) → SplitAll ps cs → Counts ps cs i t → length m ≡ size
      → Permitted find (stretch ps) → Same find entry ps (parts ps cs) i t m
  unfolding finish stretch
  same-stretch [] cs i t m k c z v = record { memory = refl; stop = let e = rw (add-zero i, add-zero t) at (c 0) in rw e; next = tt }
  same-stretch (p ∷ ps) [] i t m k c z v = absurd k
  same-stretch (put a d ∷ ps) (ns ∷ cs) i t m k c z v =
      same_more (put a d) ns ps cs i t m tt k.0 c z v.0 (λ t m c z. same-stretch ps cs (suc i) t m k.1 c z v.1)
  same-stretch (fill a l w ∷ ps) (ns ∷ cs) i t m k c z v =
      same_more (fill a l w) ns ps cs i t m tt k.0 c z v.0 (λ t m c z. same-stretch ps cs (suc i) t m k.1 c z v.1)
  same-stretch (run x ∷ ps) (ns ∷ cs) i t m k c z v =
      let u = v.0 in
      let here = rw (add-zero i, add-zero t) at (c 0) in
      let next = rw (add-one i) at (c 1) in
      record { memory = refl; stop = rw (u, here); next = rw u (omega (arith, here, next)) }
