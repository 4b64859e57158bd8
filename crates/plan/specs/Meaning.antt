-- What a plan means, from its pieces, the map's lookup and memory alone (paper 01, "Plans").
use Rattle.std.specs.Prelude.{◌≡◌, List, [], ◌∷◌, ℕ, suc, length, drop}
use Rattle.word_blocks.specs.Repeat.{filling}
use Rattle.words.specs.Choice.{All}
use Rattle.words.specs.Store.{store}
use Rattle.memory_region.specs.declared.region.Right.TheVariants.{Write}
use Rattle.memory_map.specs.Lookup as map
use Rattle.memory_map.specs.Lookup.{Lookup, Found}
use Rattle.memory_map.specs.Entry as entry
use Rattle.memory_map.specs.Entry.{RunEntry, run_entry}
use Rattle.plan.specs.Plan.{Piece, put, fill, run}

-- "A piece is permitted if its destination is writable or its run address legal"
pub data Permit : Type 0 where
  allowed : Permit
  denied : ℕ → Permit  -- number

abbrev pub ranged : Found → Permit
ranged (map.at p) = allowed
ranged (map.refused x) = denied x

abbrev pub entered : RunEntry → Permit
entered (entry.entry k a) = allowed
entered (entry.refused x) = denied x

unfoldable pub permit : Lookup → Piece → Permit
permit find (put a d) = ranged (find Write a (length d))
permit find (fill a n w) = ranged (find Write a n)
permit find (run a) = entered (run_entry find a)

-- each of these pieces is
abbrev pub Permitted : Lookup → List Piece → Type 0
Permitted find = All (λ p. permit find p ≡ allowed)

-- "put stores its data bytes, and fill repeats its word, Little Endian, cut at the length": the bytes that a piece stores
unfoldable pub stored_by : Piece → List ℕ
stored_by (put a d) = d
stored_by (fill a n w) = filling n w
stored_by (run a) = []

-- "upwards from its address, put stores its data bytes, and fill repeats its word, Little Endian, cut at the length"
abbrev pub store_at : Found → List ℕ → List ℕ → List ℕ
store_at (map.at p) d m = store m p d
store_at (map.refused x) d m = m

unfoldable pub effect : Lookup → Piece → List ℕ → List ℕ
effect find (put a d) m = store_at (find Write a (length d)) d m
effect find (fill a n w) m = store_at (find Write a n) (filling n w) m
effect find (run a) m = m

-- "pieces in order, each on the memory the last one left"
unfoldable pub effects : Lookup → List Piece → List ℕ → List ℕ
effects find [] m = m
effects find (p ∷ ps) m = effects find ps (effect find p m)

-- "A stretch goes from any piece index, 0 to the count, through the next run or to the end."
unfoldable pub stretch : List Piece → List Piece
stretch [] = []
stretch (put a d ∷ ps) = put a d ∷ stretch ps
stretch (fill a n w ∷ ps) = fill a n w ∷ stretch ps
stretch (run a ∷ ps) = run a ∷ []

-- how a stretch ends
pub data Finish : Type 0 where
  ends : ℕ → Finish  -- without a run; the index after its last piece
  runs : ℕ → ℕ → Finish  -- "run stops and names its address"; the index of the run
  denies : ℕ → ℕ → Finish  -- a piece is not permitted: number, index of the first such piece

-- "every piece of the stretch is permitted": it ends at its run or without one (`stopped-permitted`, `permitted-stopped` in the laws)
abbrev pub Stopped : Finish → Type 0
Stopped (ends i) = Unit {0}
Stopped (runs a i) = Unit {0}
Stopped (denies x i) = ⊥

abbrev pub or_deny : Permit → ℕ → Finish → Finish
or_deny allowed i f = f
or_deny (denied x) i f = denies x i

-- of the pieces of a stretch, the first of which has index i
unfoldable pub finish : Lookup → List Piece → ℕ → Finish
finish find [] i = ends i
finish find (put a d ∷ ps) i = or_deny (permit find (put a d)) i (finish find ps (suc i))
finish find (fill a n w ∷ ps) i = or_deny (permit find (fill a n w)) i (finish find ps (suc i))
finish find (run a ∷ ps) i = or_deny (permit find (run a)) i (runs a i)

-- what a stretch leaves
pub record Meant : Type 0 where
  pub finish : Finish
  pub memory : List ℕ

-- "a stretch with one that is not stores nothing and names no run"
abbrev pub meant : Finish → List ℕ → List ℕ → Meant
meant (ends i) old new = record { finish = ends i; memory = new }
meant (runs a i) old new = record { finish = runs a i; memory = new }
meant (denies x i) old new = record { finish = denies x i; memory = old }

-- the stretch from index i of the pieces, on memory m
unfoldable pub meaning : Lookup → List Piece → ℕ → List ℕ → Meant
meaning find ps i m =
    meant (finish find (stretch (drop i ps)) i) m (effects find (stretch (drop i ps)) m)
