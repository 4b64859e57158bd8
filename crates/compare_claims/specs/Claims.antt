-- What paper 02, C-18, claims of two plans that are compared: a statement about any software that compares. `Ours.antt` says that it holds
-- of ours, and `Refuted` that it is false of wrong comparisons.
use Rattle.std.specs.Prelude.{◌≡◌, true, false, List, ◌∷◌, ◌++◌, ℕ, ◌*◌, ◌≤◌, length, get_or}
use Rattle.words.specs.Choice.{All}
use Rattle.words.specs.Bytes.{Bytes}
use Rattle.memory_region.specs.declared.region.Right.TheVariants.{Write}
use Rattle.memory_map.specs.declared.map.Map.{Map}
use Rattle.memory_map.specs.Map.{sound}
use Rattle.memory_map.specs.Lookup.{Lookup, at, lookup}
use Rattle.plan.specs.Plan.{Piece, pieces}
use Rattle.plan.specs.Meaning.{stretch, Finish, ends, runs, denies, Stopped, meaning}
use Rattle.stretches.specs.Stretches.{Stretch, Ordered, Listed}
use Rattle.compare.specs.LastByte.{covers, byte_at, not_stored}
use Rattle.compare.specs.Reading as reading
use Rattle.compare.specs.Reading.{read_compared, Run, none, run_of, same_run}
use Rattle.compare.specs.Compare.{Compared, limited, most_stretches, stretch_size}

-- what comparing an old and a new plan gives, for an output of so many bytes
abbrev pub Comparison : Type 0
Comparison = ℕ → List ℕ → List ℕ → Compared

-- ---- what pieces leave at an address
-- none of them stores it
abbrev pub NotStored : List Piece → ℕ → Type 0
NotStored ps x = All (λ p. covers p x ≡ false) ps

-- b is the last byte that is stored there: a piece stores it, and none behind that piece stores at x
pub record Leaves (ps : List Piece) (x b : ℕ) : Type 0 where
  pub before : List Piece
  pub piece : Piece
  pub behind : List Piece
  pub in_order : ps ≡ before ++ piece ∷ behind
  pub stores : covers piece x ≡ true
  pub byte : byte_at piece x ≡ b
  pub last : NotStored behind x

-- "the byte addresses which only one of them stores, or which both store and leave with different last bytes"
pub data Different (old new : List Piece) (x : ℕ) : Type 0 where
  only-old : {b : ℕ} → Leaves old x b → NotStored new x → Different old new x
  only-new : {b : ℕ} → NotStored old x → Leaves new x b → Different old new x
  both : {b c : ℕ} → Leaves old x b → Leaves new x c → (b ≡ c → ⊥) → Different old new x

-- the "first byte or "not stored""
pub data Shown (ps : List Piece) (x : ℕ) : ℕ → Type 0 where
  byte : {b : ℕ} → Leaves ps x b → Shown ps x b
  not-stored : NotStored ps x → Shown ps x not_stored

-- ---- the stretches
-- "write exactly the byte addresses ..: as stretches, ascending, each as long as possible, with old and new first byte or "not stored""
pub record Exactly (old new : List Piece) (l : List Stretch) : Type 0 where
  pub listed : (x : ℕ) → Listed x l → Different old new x
  pub complete : (x : ℕ) → Different old new x → Listed x l
  pub ordered : Ordered 0 l
  pub bytes : All (λ s. Shown old s.first s.old × Shown new s.first s.new) l

-- the answer c for two plans with these pieces: "Only the stretch from index 0 is compared"
pub record Compares (c : Compared) (old new : List Piece) : Type 0 where
  pub stretches : List Stretch
  pub exact : Exactly (stretch old) (stretch new) stretches
  pub answer : c ≡ limited stretches (same_run (run_of old) (run_of new))

-- of every two plans that are read, with an output that holds 512 stretches
abbrev pub Claims : Comparison → Type 0
Claims compare =
    (n : ℕ) (old new : List ℕ) → Bytes old → Bytes new → stretch_size * most_stretches ≤ n
    → (old_pieces new_pieces : List Piece) → read_compared old ≡ pieces old_pieces → read_compared new ≡ pieces new_pieces → Compares (compare n old new) old_pieces new_pieces

-- ---- what is compared is what the plan means
-- the run that the end of a stretch names
abbrev pub named_by : Finish → Run
named_by (ends i) = none
named_by (runs a i) = reading.at a
named_by (denies x i) = none

-- with a map that is sound for memory m: in the buffer byte q of a writable address x stands, after a stretch whose pieces are permitted,
-- the last byte that they store there, or what stood there before
pub record Meant (find : Lookup) (ps : List Piece) (m : List ℕ) (x q : ℕ) : Type 0 where
  pub stored : {b : ℕ} → Leaves (stretch ps) x b → get_or (meaning find ps 0 m).memory q 0 ≡ b
  pub kept : NotStored (stretch ps) x → get_or (meaning find ps 0 m).memory q 0 ≡ get_or m q 0

abbrev pub AsMeant : Type 0
AsMeant =
    (map : Map) (m : List ℕ) → sound map (length m) ≡ true → (ps : List Piece) → Stopped (meaning (lookup map) ps 0 m).finish
    → (x q : ℕ) → lookup map Write x 1 ≡ at q → Meant (lookup map) ps m x q
