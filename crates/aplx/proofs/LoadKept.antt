-- What a command leaves as it was: the length of memory, and the entries that its destination does not meet.
use Rattle.std.specs.Prelude.{◌≡◌, true, false, List, ℕ, ◌+◌, ◌/◌, ◌%◌, ◌≤◌, length, take, drop}
use Rattle.std.proofs.Math.Path.{refl}
use Rattle.std.proofs.Common.{◌∙◌, arith}
use Rattle.words.specs.Range.{meets}
use Rattle.words.proofs.RangeLaws.{Apart, misses-apart, apart-misses, apart-swap, apart-part}
use Rattle.word_blocks.specs.Repeat.{repeated}
use Rattle.word_blocks.proofs.RepeatLaws.{length-repeated}
use Rattle.words.proofs.StoreLaws.{length-store, part-outside}
use Rattle.memory_region.specs.declared.region.Right.{Right}
use Rattle.memory_region.specs.declared.region.Right.TheVariants.{Read, Write}
use Rattle.memory_map.specs.Lookup.{Lookup, at, found, place_of}
use Rattle.memory_map.proofs.LookupLaws.{Lawful, apart, found_at, range_inside}
use Rattle.aplx_copy.proofs.CopyLaws.{length-copied, copied-outside}
use Rattle.aplx_command.specs.Command.{Command, copy, fill, exec, other, command_at}
use Rattle.aplx_command.proofs.CommandLaws.{same-entry}
use Rattle.aplx_look.specs.Look.{meets_header}
use Rattle.aplx.specs.Load.{perform}
use Rattle.aplx.specs.Load.Laws.{Performable}

module _ (find : Lookup) (m : List ℕ) (laws : Lawful find (length m)) where
  inside : (r : Right) (a n : ℕ) → found (find r a n) ≡ true → place_of (find r a n) + n ≤ length m
  inside r a n e = range_inside laws r a n refl e

  filled : (n w : ℕ) → n % 4 ≡ 0 → length (repeated (n / 4) w) ≡ n
  filled n w e = length-repeated (n / 4) w ∙ omega arith

  pub length-perform : (c : Command) → Performable find c → length (perform find c m) ≡ length m
  unfolding perform
  length-perform (copy d s n) g = length-copied n _ _ m (inside Write d n g.0.0) (inside Read s n g.0.1)
  length-perform (fill d n w) g = length-store m _ (repeated (n / 4) w) (rw (filled n w g.1) (inside Write d n g.0))
  length-perform (exec x) g = refl
  length-perform (other c) g = refl

  module _ (h l a p : ℕ) (x : h ≤ a) (y : a + 16 ≤ h + l) (f : find Read a 16 ≡ at p) where
    -- a destination that does not meet the header lies apart from an entry
    apart-entry : (d n : ℕ) → found (find Write d n) ≡ true → meets d n h l ≡ false → Apart p 16 (place_of (find Write d n)) n
    apart-entry d n g o =
        let q = found_at (find Write d n) g in
        let z = laws.filled Write d n _ q in
        let r : Apart a 16 d n =
        apart-swap (apart-part d n a 16 (misses-apart d n h l z (omega arith) o) (omega arith) (omega arith) x y) in
        misses-apart p 16 _ n (omega arith) z (apart laws Read Write a 16 p d n _ f q (apart-misses a 16 d n r))

    bytes-kept :
        (c : Command) → Performable find c → meets_header h l c ≡ false
        → (q : ℕ) → p ≤ q → q + 4 ≤ p + 16 → take 4 (drop q (perform find c m)) ≡ take 4 (drop q m)
    unfolding perform meets_header
    bytes-kept (copy d s n) g o q u v =
        copied-outside n _ _ m (inside Write d n g.0.0) (inside Read s n g.0.1) q 4
        (apart-part q 4 _ n (apart-entry d n g.0.0 o) u v (omega arith) (omega arith))
    bytes-kept (fill d n w) g o q u v =
        let e = filled n w g.1 in
        part-outside m _ (repeated (n / 4) w) (rw e (inside Write d n g.0)) q 4
        (rw e (apart-part q 4 _ n (apart-entry d n g.0 o) u v (omega arith) (omega arith)))
    bytes-kept (exec z) g o q u v = refl
    bytes-kept (other z) g o q u v = refl

  -- an entry that no destination meets says the same after a command
  pub entry_kept :
      (c : Command) → Performable find c → (h l a p : ℕ) → meets_header h l c ≡ false → h ≤ a → a + 16 ≤ h + l → find Read a 16 ≡ at p
      → command_at (perform find c m) p a ≡ command_at m p a
  entry_kept c g h l a p o x y f = same-entry (perform find c m) m p a (bytes-kept h l a p x y f c g o)
