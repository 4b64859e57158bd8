-- Computed examples of what APLX loads leave in memory (paper 01, "APLX" and "Bench pieces with known weight").
use Rattle.std.specs.Prelude.{◌≡◌, refl, List, [], ◌∷◌, ◌++◌, ℕ, take, drop}
use Rattle.word_blocks.specs.Repeat.{repeated}
use Rattle.outcome.specs.Outcome.{refused, accepted, end}
use Rattle.aplx_look.proofs.Examples.{find, entry, last, memory}
use Rattle.aplx.specs.Load.{load_with}
use Rattle.aplx.specs.Open as group

-- the bytes from address 4096 + k on that a load of these entries from 4096 on leaves
left : ℕ → ℕ → List ℕ → List ℕ
left k n l = take n (drop k (load_with find (memory l) 4096).memory)

ones : List ℕ
ones = 1 ∷ 2 ∷ 3 ∷ 4 ∷ 5 ∷ 6 ∷ 7 ∷ 8 ∷ 9 ∷ 10 ∷ 11 ∷ 12 ∷ 13 ∷ 14 ∷ 15 ∷ 16 ∷ 17 ∷ 18 ∷ 19 ∷ 20 ∷ 21 ∷ 22 ∷ 23 ∷ 24 ∷ 25 ∷ 26 ∷ 27 ∷ 28 ∷ 29 ∷ 30 ∷ 31 ∷ 32 ∷ []

-- copies: the entries, then 32 bytes of data at 4128, copied up by 4, down by 4, and by an offset to data before the header
up : List ℕ
up = entry 1 4132 4128 32 ++ (last ++ ones)

down : List ℕ
down = entry 1 4128 4132 28 ++ (last ++ (9 ∷ 9 ∷ 9 ∷ 9 ∷ ones))

behind : List ℕ
behind = ones ++ (entry 2 4224 0xffffffe0 32 ++ last)

record Copies : Type 0 where
  -- a copy onto itself further up repeats its beginning
  pub upward : left 32 36 up ≡ repeated 9 0x04030201
  pub downward : left 32 32 down ≡ ones
  pub before-header : take 32 (drop 128 (load_with find (memory behind) 4128).memory) ≡ ones
  pub before-header-outcome : (load_with find (memory behind) 4128).outcome ≡ accepted (end 1) 1 32

copies : Copies
unfolding up down behind ones left memory last find group.load
copies = record { upward = refl; downward = refl; before-header = refl; before-header-outcome = refl }

record Fills : Type 0 where
  pub filled : left 124 40 (entry 3 4224 1 0x01020304 ++ last) ≡ 7 ∷ 7 ∷ 7 ∷ 7 ∷ (repeated 8 0x01020304 ++ 7 ∷ 7 ∷ 7 ∷ 7 ∷ [])
  -- an entry that is not permitted behind one that is: nothing is stored
  pub second-refused : load_with find (memory (entry 3 4224 32 9 ++ (entry 3 8192 32 9 ++ last))) 4096
      ≡ record { outcome = refused 4 1; memory = memory (entry 3 4224 32 9 ++ (entry 3 8192 32 9 ++ last)) }

fills : Fills
unfolding left memory last find group.load
fills = record { filled = refl; second-refused = refl }
