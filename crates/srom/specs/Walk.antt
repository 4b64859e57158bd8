-- The blocks of a serial ROM, tested one after the other up to the stop (paper 01, "Serial ROM"). Nothing is stored.
use Rattle.std.specs.Prelude.{not, List, [], ◌∷◌, ℕ, zero, suc, ◌+◌, ◌-◌, ◌*◌, ◌%◌, leb, ltb, eqb, length, take, drop, get_or, if◌then◌else◌}
use Rattle.words.specs.Bytes.{big_endian_at}
use Rattle.word_blocks.specs.Swap.{swap_words}
use Rattle.memory_region.specs.declared.region.Right.TheVariants.{Write}
use Rattle.outcome.specs.Outcome.{end, run, Ending, stops, refuses}
use Rattle.memory_map.specs.Lookup as map
use Rattle.memory_map.specs.Lookup.{Lookup, Found}
use Rattle.memory_map.specs.Entry as entry
use Rattle.memory_map.specs.Entry.{RunEntry, run_entry}

-- what stands at an offset
pub data Item : Type 0 where
  pad : Item
  block : ℕ → ℕ → ℕ → ℕ → Item  -- address, its place in the buffer, the offset of the data, the offset after it
  halt : Ending → Item

-- the block at offset o for address a, with the offset e after it, where its range was found; 4 where it was not
abbrev pub placed : Found → ℕ → ℕ → ℕ → Item
placed (map.at p) a o e = block a p (o + 7) e
placed (map.refused x) a o e = halt (refuses x o)

-- the block at offset o of n words for address a: 3, then 2 for its data, then 4
unfoldable pub data_block : Lookup → List ℕ → ℕ → ℕ → ℕ → Item
data_block find s o n a =
    if not (eqb (a % 4) 0) then halt (refuses 3 o)
    else if ltb (length s) (o + 7 + 4 * n) then halt (refuses 2 o)
    else placed (find Write a (4 * n)) a o (o + 7 + 4 * n)

-- "Length 0 is a run of the address, not an empty load; resume is the offset after the block." 9 where it is not legal
abbrev pub run_of : RunEntry → ℕ → Item
run_of (entry.entry k a) o = halt (stops (run k a (o + 7)))
run_of (entry.refused x) o = halt (refuses x o)

-- "After 0x3a: length in words, 2 bytes; address, 4 bytes; the data words, 4 bytes each; all Big Endian." 2 where the header is cut short
unfoldable pub block_at : Lookup → List ℕ → ℕ → Item
block_at find s o =
    if ltb (length s) (o + 7) then halt (refuses 2 o)
    else if eqb (big_endian_at 2 s (o + 1)) 0 then run_of (run_entry find (big_endian_at 4 s (o + 3))) o
    else data_block find s o (big_endian_at 2 s (o + 1)) (big_endian_at 4 s (o + 3))

-- "Pads are passed over until a byte that is not one (0x55). If that byte is not 0x3a, the load ends there." "A slice that runs
-- out before a terminator is refused 2, place the slice length; so is an offset at or past its end."
unfoldable pub item_at : Lookup → List ℕ → ℕ → Item
item_at find s o =
    if leb (length s) o then halt (refuses 2 (length s))
    else if eqb (get_or s o 0) 0x55 then pad
    else if eqb (get_or s o 0) 0x3a then block_at find s o
    else halt (stops (end o))

-- a block with data: its address, the place of that in the buffer, and the bytes that memory gets
pub record Block : Type 0 where
  pub address : ℕ
  pub place : ℕ
  pub bytes : List ℕ

-- "Each word is stored Little Endian.": the block for address a, at place p, whose data stands in s from offset b to e
abbrev pub block_in : List ℕ → ℕ → ℕ → ℕ → ℕ → Block
block_in s a p b e = record { address = a; place = p; bytes = swap_words (take (e - b) (drop b s)) }

-- the blocks before the end, and the end
pub record Walk : Type 0 where
  pub blocks : List Block
  pub ending : Ending

-- the walk of s from offset o on, by what stands there, and by the walk from a later offset on
abbrev pub after : List ℕ → Item → ℕ → (ℕ → Walk) → Walk
after s pad o go = go (o + 1)
after s (block a p b e) o go = record { blocks = block_in s a p b e ∷ (go e).blocks; ending = (go e).ending }
after s (halt x) o go = record { blocks = []; ending = x }

-- item by item, of which there are f at most
unfoldable pub walk_for : ℕ → Lookup → List ℕ → ℕ → Walk
walk_for zero find s o = record { blocks = []; ending = refuses 2 (length s) }
walk_for (suc f) find s o = after s (item_at find s o) o (walk_for f find s)

-- an item takes one byte at least, so these are enough (`walk-enough`, in the laws)
unfoldable pub walk : Lookup → List ℕ → ℕ → Walk
walk find s o = walk_for (suc (length s - o)) find s o

-- where the pads from an offset on end
unfoldable pub leading_pads : List ℕ → ℕ
leading_pads [] = 0
leading_pads (b ∷ s) = if eqb b 0x55 then suc (leading_pads s) else 0

unfoldable pub pads_end : List ℕ → ℕ → ℕ
pads_end s o = o + leading_pads (drop o s)
