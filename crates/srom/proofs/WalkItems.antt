-- What stands at an offset, by the bytes there.
use Rattle.std.specs.Prelude.{◌≡◌, ℕ, ◌+◌, ◌*◌, ◌%◌, ◌≤◌, ◌<◌, List, length, get_or}
use Rattle.std.proofs.Common.{arith}
use borrow.Author.Tests.{le-leb, lt-leb, le-ltb, eq-eqb, ne_eqb}
use Rattle.words.specs.Bytes.{big_endian_at}
use Rattle.memory_region.specs.declared.region.Right.TheVariants.{Write}
use Rattle.outcome.specs.Outcome.{end, stops, refuses}
use Rattle.memory_map.specs.Lookup.{Lookup}
use Rattle.memory_map.specs.Entry.{run_entry}
use Rattle.srom.specs.Walk.{pad, halt, placed, data_block, run_of, block_at, item_at}

module _ (find : Lookup) (s : List ℕ) (o : ℕ) where
  pub past_end : length s ≤ o → item_at find s o ≡ halt (refuses 2 (length s))
  unfolding item_at
  past_end h = rw (le-leb (length s) o h)

  pub at-pad : o < length s → get_or s o 0 ≡ 0x55 → item_at find s o ≡ pad
  unfolding item_at
  at-pad h e = rw (lt-leb (length s) o h, eq-eqb (get_or s o 0) 0x55 e)

  pub at_block : get_or s o 0 ≡ 0x3a → o < length s → item_at find s o ≡ block_at find s o
  unfolding item_at
  at_block e h = rw (lt-leb (length s) o h, e)

  pub at-end : {x : ℕ} → o < length s → get_or s o 0 ≡ x → (x ≡ 0x55 → ⊥) → (x ≡ 0x3a → ⊥) → item_at find s o ≡ halt (stops (end o))
  unfolding item_at
  at-end {x} h e n m = rw (lt-leb (length s) o h, e, ne_eqb x 0x55 n, ne_eqb x 0x3a m)

  pub run-block : {a : ℕ} → o + 7 ≤ length s → big_endian_at 2 s (o + 1) ≡ 0 → big_endian_at 4 s (o + 3) ≡ a → block_at find s o ≡ run_of (run_entry find a) o
  unfolding block_at
  run-block h z e = rw (le-ltb (length s) (o + 7) h, z, e)

  pub whole-block :
      {n a : ℕ} → o + 7 + 4 * n ≤ length s → big_endian_at 2 s (o + 1) ≡ n → 0 < n → big_endian_at 4 s (o + 3) ≡ a → a % 4 ≡ 0
      → block_at find s o ≡ placed (find Write a (4 * n)) a o (o + 7 + 4 * n)
  unfolding block_at data_block
  whole-block {n} {a} h k z e w =
      rw
      (le-ltb (length s) (o + 7) (omega arith), k, e, ne_eqb n 0 (λ x. omega arith), w, le-ltb (length s) (o + 7 + 4 * n) h)
