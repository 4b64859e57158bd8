-- Regions that ascend, and end inside a buffer, keep the rules. Not needed for belief: the test by which the code leaves out the comparison of each with each.
use Rattle.std.specs.Prelude.{◌≡◌, refl, Bool, true, ◌&&◌, List, [], ◌∷◌, ℕ, ◌+◌, ◌≤◌, leb}
use Rattle.std.proofs.Common.{arith, leb-true}
use Rattle.words.specs.Choice.{All, every}
use Rattle.words.proofs.ChoiceLaws.{both}
use Rattle.words.proofs.RangeLaws.{before}
use Rattle.memory_region.specs.declared.region.Region.{Region}
use Rattle.memory_region.specs.Region.{keeps_rules, clear, ends_inside}
use Rattle.memory_region.specs.Region.Follows.{follows}
use Rattle.memory_region.proofs.RegionLaws.{facts-clear}
use Rattle.memory_map.specs.Map.{all_keep_rules}

-- each region follows the end of the one before it, the first one address a and place p
unfoldable pub ascending : ℕ → ℕ → ℕ → List Region → Bool
ascending n a p [] = true
ascending n a p (g ∷ l) = follows n a p g && ascending n (g.base + g.length) (g.place + g.length) l

-- ---- laws
-- a region begins at or behind an address and a place
abbrev Above : ℕ → ℕ → Region → Type 0
Above a p h = (a ≤ h.base) × (p ≤ h.place)

all-lower : {a p b q : ℕ} (l : List Region) → b ≤ a → q ≤ p → All (Above a p) l → All (Above b q) l
all-lower [] x y h = tt
all-lower (g ∷ l) x y h = ((omega (arith, h.0.0), omega (arith, h.0.1)), all-lower l x y h.1)

-- a region that ends at or before what the others begin at is clear of them
all-clear : (g : Region) (l : List Region) → All (Above (g.base + g.length) (g.place + g.length)) l → every (clear g) l ≡ true
unfolding every
all-clear g [] h = refl
all-clear g (k ∷ l) h =
    simp (facts-clear {g = g} {h = k} (record { addresses = before h.0.0; bytes = before h.0.1 }), all-clear g l h.1)

-- what the test says of the first region and of those behind it
record Ascends (n a p : ℕ) (g : Region) (l : List Region) : Type 0 where
  behind : Above a p g
  inside : ends_inside n g ≡ true
  kept : keeps_rules g ≡ true
  rest : ascending n (g.base + g.length) (g.place + g.length) l ≡ true

ascends : (n a p : ℕ) (g : Region) (l : List Region) → ascending n a p (g ∷ l) ≡ true → Ascends n a p g l
unfolding ascending follows
ascends n a p g l e =
    let z = both (follows n a p g) (ascending n (g.base + g.length) (g.place + g.length) l) e in
    let y = both (leb a g.base && leb p g.place && ends_inside n g) (keeps_rules g) z.0 in
    let x = both (leb a g.base && leb p g.place) (ends_inside n g) y.0 in
    let w = both (leb a g.base) (leb p g.place) x.0 in
    record { behind = (leb-true a g.base w.0, leb-true p g.place w.1); inside = x.1; kept = y.1; rest = z.1 }

above : (n a p : ℕ) (l : List Region) → ascending n a p l ≡ true → All (Above a p) l
above n a p [] e = tt
above n a p (g ∷ l) e =
    let f = ascends n a p g l e in
    (f.behind, all-lower l (omega (arith, f.behind.0)) (omega (arith, f.behind.1)) (above n (g.base + g.length) (g.place + g.length) l f.rest))

pub ascending-keep : (n a p : ℕ) (l : List Region) → ascending n a p l ≡ true → all_keep_rules l ≡ true
unfolding all_keep_rules
ascending-keep n a p [] e = refl
ascending-keep n a p (g ∷ l) e =
    let f = ascends n a p g l e in
    simp (f.kept, all-clear g l (above n _ _ l f.rest), ascending-keep n (g.base + g.length) (g.place + g.length) l f.rest)

pub ascending-inside : (n a p : ℕ) (l : List Region) → ascending n a p l ≡ true → every (ends_inside n) l ≡ true
unfolding every
ascending-inside n a p [] e = refl
ascending-inside n a p (g ∷ l) e = let f = ascends n a p g l e in simp (f.inside, ascending-inside n (g.base + g.length) (g.place + g.length) l f.rest)
