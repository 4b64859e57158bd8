-- Steps of the two loops over the blocks.
use mathlib.Core.Path.{◌≡◌}
use mathlib.Core.List.{List, ◌∷◌}
use Prim.Native.Nat.{ℕ, ◌+◌, ◌-◌, ◌≤◌}
use native.Mathlib.Nat.{add-zero}
use native.Mathlib.Omega.{arith}
use lib.ListN.{length}
use Rattle.words.specs.Store.{store}
use Rattle.outcome.specs.Outcome.{Outcome, Ending, outcome_at}
use Rattle.outcome.specs.Destinations.{stored_in}
use Rattle.memory_map.specs.Lookup.{Lookup}
use Rattle.srom.specs.Walk.{Block, block_in, block, halt, item_at, Walk, walk, pads_end}
use Rattle.srom.proofs.WalkLaws.{BlockFacts, block-facts, walk_block, walk-halt, walk-pads, pads-low}
use Rattle.srom.specs.Load.{destinations, store_blocks}

-- the outcome of a walk, after t blocks and n bytes before it
abbrev pub counted : ℕ → ℕ → Walk → Outcome
counted t n w = outcome_at w.ending (t + length w.blocks) (n + stored_in (destinations w.blocks))

counted-more : (t n : ℕ) (x : Block) (w : Walk) {k : ℕ} → length x.bytes ≡ k
    → counted t n (record { blocks = x ∷ w.blocks; ending = w.ending }) ≡ counted (t + 1) (n + k) w
unfolding destinations stored_in
counted-more t n x w {k} e =
    let p : t + length (x ∷ w.blocks) ≡ t + 1 + length w.blocks = omega arith in
    let q : n + (length x.bytes + stored_in (destinations w.blocks)) ≡ n + k + stored_in (destinations w.blocks) = omega arith in
    simp (p, q)

-- the facts of a block that stands where the pads from o on end
pub record Located (find : Lookup) (s : List ℕ) (o a p b e : ℕ) : Type 0 where
  pub facts : BlockFacts find s (pads_end s o) a p b e
  pub later : o + 7 ≤ b

module _ (find : Lookup) (s : List ℕ) (o : ℕ) where
  pub located : (a p b e : ℕ) → item_at find s (pads_end s o) ≡ block a p b e → Located find s o a p b e
  located a p b e h =
      let f = block-facts find s (pads_end s o) h in
      let g = pads-low s o in
      record { facts = f; later = omega arith }

  pub counts-on : (t n : ℕ) {a p b e : ℕ} → item_at find s (pads_end s o) ≡ block a p b e
      → counted t n (walk find s o) ≡ counted (t + 1) (n + (e - b)) (walk find s e)
  counts-on t n {a} {p} {b} {e} h =
      rw (← walk-pads find s o, walk_block find s (pads_end s o) h) (counted-more t n (block_in s a p b e) (walk find s e) (block-facts find s (pads_end s o) h).size)

  pub counts_end : (t n : ℕ) {x : Ending} → item_at find s (pads_end s o) ≡ halt x → counted t n (walk find s o) ≡ outcome_at x t n
  unfolding destinations stored_in
  counts_end t n h = rw (← walk-pads find s o, walk-halt find s (pads_end s o) h) (simp add-zero)

  pub stores-on : (m : List ℕ) {a p b e : ℕ} → item_at find s (pads_end s o) ≡ block a p b e
      → store_blocks (walk find s o).blocks m ≡ store_blocks (walk find s e).blocks (store m p (block_in s a p b e).bytes)
  unfolding store_blocks
  stores-on m h = rw (← walk-pads find s o, walk_block find s (pads_end s o) h)

  pub stores-end : (m : List ℕ) {x : Ending} → item_at find s (pads_end s o) ≡ halt x → store_blocks (walk find s o).blocks m ≡ m
  unfolding store_blocks
  stores-end m h = rw (← walk-pads find s o, walk-halt find s (pads_end s o) h)
