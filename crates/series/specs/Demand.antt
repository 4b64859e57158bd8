-- Demand 3 (paper 01, "Plans"), as a statement about any software. `proofs/Proved/Theorem.antt` proves it of ours, and `Refuted` shows that it is
-- false of wrong ones.
use Rattle.std.specs.Prelude.{◌≡◌, true, List, ℕ, ◌≤◌, length}
use Rattle.words.specs.Choice.{All}
use Rattle.words.specs.Bytes.{Bytes}
use Rattle.memory_map.specs.declared.map.Map.{Map}
use Rattle.memory_map.specs.Map.{sound}
use Rattle.memory_map.specs.Lookup.{lookup}
use Rattle.plan.specs.Plan as format
use Rattle.plan.specs.Plan.{Piece, read_plan}
use Rattle.plan.specs.Packed.{packs}
use Rattle.plan.specs.Meaning.{meaning}
use Rattle.series.specs.Series.{Step, Left, series}
use Rattle.series.specs.Medium.{Medium, start_of, ending_in, Intact, Spares}
use Rattle.series.specs.Software.{Software, packed, leaves}

-- what a load of the stretch from index i leaves
abbrev pub loads : Software → Medium → Map → List Piece → List ℕ → ℕ → List ℕ → Left
loads s k map ps image i m = leaves s k map image (start_of k ps i) m

-- what the plan's own pieces in that stretch, taken in order, would leave: "from plan, map and memory alone"
abbrev pub means : Medium → Map → List Piece → ℕ → List ℕ → Left
means k map ps i m =
    let w = meaning (lookup map) ps i m in
    record { memory = w.memory; ending = ending_in k ps i w.finish }

-- what is granted, and no more
pub record Granted (k : Medium) (map : Map) (ps : List Piece) (image memory : List ℕ) (steps : List Step) : Type 0 where
  -- "the map is sound and stays the same"
  pub sound-map : sound map (length memory) ≡ true
  -- "the whole image is intact at the first load"
  pub intact : Intact k map ps image memory
  -- "A stretch goes from any piece index, 0 to the count"
  pub indices : All (λ s. s.index ≤ length ps) steps
  -- "and left alone by the called code"
  pub alone : All (λ s. All (Spares k map image) s.changes) steps

-- of a plan and its image
pub record Holds (s : Software) (k : Medium) (plan image : List ℕ) : Type 0 where
  -- the plan can be read; a unit of 1 tests no length for a medium
  pub pieces : List Piece
  pub read : read_plan 1 plan ≡ format.pieces pieces
  -- "every series of loads of its image, refused ones included, whatever the called code does to other memory between them": the loads
  -- leave, one after the other, what the meaning leaves, which "runs beside the loads on a copy of the first memory"
  pub same : (map : Map) (memory : List ℕ) (steps : List Step) → Granted k map pieces image memory steps
      → series (loads s k map pieces image) steps memory ≡ series (means k map pieces) steps memory

-- "every plan a packer accepts"
abbrev pub Demand3 : Software → Type 0
Demand3 s =
    (k : Medium) (plan : List ℕ) (room : ℕ) (image : List ℕ) → Bytes plan → packed s k plan room ≡ packs image → Holds s k plan image
