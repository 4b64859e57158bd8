-- Stretches of addresses at which two images differ (paper 02, C-18). An image is a value for each address.
pub mod Words
pub mod Records
use Rattle.std.specs.Prelude.{Bool, true, false, not, ◌&&◌, List, [], ◌∷◌, ℕ, zero, suc, ◌+◌, ◌≤◌, leb, eqb, if◌then◌else◌}

-- "first and last address", with the "old and new first byte"
pub record Stretch : Type 0 where
  pub first : ℕ
  pub last : ℕ
  pub old : ℕ
  pub new : ℕ

-- s, up to address x
abbrev pub up_to : ℕ → Stretch → Stretch
up_to x s = record { first = s.first; last = x; old = s.old; new = s.new }

-- t begins just behind s
abbrev pub adjoins : Stretch → Stretch → Bool
adjoins s t = eqb (suc s.last) t.first

-- one more stretch t behind the others; "each as long as possible": where it adjoins the last, that one is lengthened
unfoldable pub add : Stretch → List Stretch → List Stretch
add t [] = t ∷ []
add t (s ∷ []) = if adjoins s t then up_to t.last s ∷ [] else s ∷ t ∷ []
add t (s ∷ r ∷ l) = s ∷ add t (r ∷ l)

abbrev pub add_if : Bool → Stretch → List Stretch → List Stretch
add_if true t l = add t l
add_if false t l = l

module _ (old new : ℕ → ℕ) where
  abbrev pub differs : ℕ → Bool
  differs x = not (eqb (old x) (new x))

  -- the stretch from address x to address y
  abbrev pub between : ℕ → ℕ → Stretch
  between x y = record { first = x; last = y; old = old x; new = new x }

  -- "exactly the byte addresses" below a bound that differ, "as stretches, ascending"
  unfoldable pub below : ℕ → List Stretch
  below zero = []
  below (suc x) = add_if (differs x) (between x x) (below x)

-- ---- what a list of stretches says
-- address x lies in one of them
pub data Listed (x : ℕ) : List Stretch → Type 0 where
  here : {s : Stretch} {l : List Stretch} → s.first ≤ x → x ≤ s.last → Listed x (s ∷ l)
  there : {s : Stretch} {l : List Stretch} → Listed x l → Listed x (s ∷ l)

-- in how many of them address x lies
unfoldable pub times : ℕ → List Stretch → ℕ
times x [] = 0
times x (s ∷ l) = if leb s.first x && leb x s.last then suc (times x l) else times x l

-- "ascending", "each as long as possible": not below a, none empty, and between two of them at least one address
abbrev pub Ordered : ℕ → List Stretch → Type 0
Ordered a [] = Unit {0}
Ordered a (s ∷ l) = (a ≤ s.first) × (s.first ≤ s.last) × Ordered (s.last + 2) l

-- old and new exchanged
abbrev pub exchange : Stretch → Stretch
exchange s = record { first = s.first; last = s.last; old = s.new; new = s.old }

unfoldable pub exchanged : List Stretch → List Stretch
exchanged [] = []
exchanged (s ∷ l) = exchange s ∷ exchanged l
