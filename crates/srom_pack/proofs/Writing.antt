-- A block written part by part: its header, then its data.
use mathlib.Core.Path.{◌≡◌, ◌∙◌}
use mathlib.Core.List.{List, [], ◌∷◌, ◌++◌, append_assoc}
use Prim.Native.Nat.{ℕ, ◌+◌, ◌/◌, ◌≤◌}
use native.Mathlib.Omega.{arith}
use lib.ListN.{length, set, length-append}
use Rattle.words.specs.Bytes.{big_endian}
use Rattle.words.proofs.BytesLaws.{length-big_endian}
use Rattle.words.specs.Store.{store, store_if_fits}
use Rattle.words.proofs.StoreLaws.{store-behind, sets-store}
use Rattle.word_blocks.specs.Swap.{swap_words}
use Rattle.word_blocks.proofs.SwapLaws.{length-swap}
use Rattle.srom_pack.specs.Image.{block}

-- start byte, length in words, address
abbrev pub header : ℕ → ℕ → List ℕ
header n a = 0x3a ∷ (big_endian 2 n ++ big_endian 4 a)

length-header : (n a : ℕ) → length (header n a) ≡ 7
length-header n a = simp (length-append, length-big_endian)

module _ (m : List ℕ) (p a : ℕ) (r s : List ℕ) where
  -- the start byte, then the length, then the address
  pub header-put : (n : ℕ) → p + 7 ≤ length m → r ≡ store_if_fits (set m p 0x3a) (p + 1) (big_endian 2 n) → s ≡ store_if_fits r (p + 3) (big_endian 4 a)
      → s ≡ store m p (header n a)
  header-put n h f g =
      let x = length-big_endian 2 n in
      let y = length-big_endian 4 a in
      let start = sets-store m p (0x3a ∷ []) (omega arith) in
      let half = store-behind m p (0x3a ∷ []) (big_endian 2 n) (p + 1) (set m p 0x3a) r (omega arith) (omega arith) start f in
      store-behind m p (0x3a ∷ big_endian 2 n) (big_endian 4 a) (p + 3) r s (omega arith) (omega arith) half g

  -- the header, then the data
  pub block-put : (d : List ℕ) → p + (7 + length d) ≤ length m → r ≡ store m p (header (length d / 4) a) → s ≡ store_if_fits r (p + 7) (swap_words d)
      → s ≡ store m p (block a d)
  unfolding block
  block-put d h f g =
      let x = length-header (length d / 4) a in
      let y = length-swap d in
      store-behind m p (header (length d / 4) a) (swap_words d) (p + 7) r s (omega arith) (omega arith) f g ∙ simp append_assoc
