-- Laws of the serial ROM image: its length, and what stands at a piece's block.
use Rattle.std.specs.Prelude.{◌≡◌, refl, List, [], ◌∷◌, ◌++◌, ℕ, suc, ◌+◌, ◌*◌, length, take, drop}
use Rattle.std.proofs.Common.{ap, sym, ◌∙◌, append_assoc, add-one, arith, take-append-drop, drop_at, drop-drop}
use Rattle.std.proofs.Math.ListN.{length-append}
use Rattle.std.proofs.Math.Seq.{take-add, take-length}
use Rattle.words.proofs.BytesLaws.{length-big_endian}
use Rattle.word_blocks.specs.Repeat.{filling}
use Rattle.word_blocks.proofs.RepeatLaws.{length-filling}
use Rattle.word_blocks.proofs.SwapLaws.{length-swap}
use Rattle.plan.specs.Plan.{Piece, put, fill, run, data_of, filled_by, put_bytes, fill_bytes}
use Rattle.srom_pack.specs.Image.{block, block_of, blocks, srom_image, block_at}

-- ---- lengths
pub length-block : (a : ℕ) (d : List ℕ) → length (block a d) ≡ 7 + length d
unfolding block
length-block a d = simp (length-append, length-big_endian, length-swap) (omega arith)

-- the bytes that a piece stores
abbrev pub bytes_of : Piece → ℕ
bytes_of p = length (data_of p) + filled_by p

pub length-block_of : (p : Piece) → length (block_of p) ≡ 7 + bytes_of p
unfolding block_of
length-block_of (put a d) = rw length-block (omega arith)
length-block_of (fill a n w) = rw (length-block a (filling n w), length-filling n w) (omega arith)
length-block_of (run a) = length-block a []

pub length-blocks : (ps : List Piece) → length (blocks ps) ≡ 7 * length ps + put_bytes ps + fill_bytes ps
unfolding blocks put_bytes fill_bytes
length-blocks [] = refl
length-blocks (p ∷ ps) = rw (length-append, length-block_of p, length-blocks ps) (omega arith)

-- "Length: 2 + 7 per piece + the put and fill lengths."
pub length-srom_image : (ps : List Piece) → length (srom_image ps) ≡ 2 + 7 * length ps + put_bytes ps + fill_bytes ps
unfolding srom_image
length-srom_image ps = simp (length-append, length-blocks) (omega arith)

-- ---- places
pub blocks-append : (ps qs : List Piece) → blocks (ps ++ qs) ≡ blocks ps ++ blocks qs
unfolding blocks
blocks-append [] qs = refl
blocks-append (p ∷ ps) qs = rw (blocks-append ps qs, append_assoc)

-- from the block of piece i on: the blocks of the pieces from i on, and the end
pub at_block : (ps : List Piece) (i : ℕ) → drop (block_at ps i) (srom_image ps) ≡ blocks (drop i ps) ++ 0xff ∷ []
unfolding srom_image block_at
at_block ps i =
    let e : blocks ps ≡ blocks (take i ps) ++ blocks (drop i ps) = ap blocks (sym (take-append-drop i ps)) ∙ blocks-append (take i ps) (drop i ps) in
    rw (e, append_assoc) (drop_at (blocks (take i ps)) (blocks (drop i ps) ++ 0xff ∷ []) _ refl)

module _ (ps : List Piece) (i : ℕ) (p : Piece) (qs : List Piece) (e : drop i ps ≡ p ∷ qs) where
  pub drop-next : drop (suc i) ps ≡ qs
  drop-next = rw (← (add-one i), ← (drop-drop 1 i ps), e)

  -- the block of piece i, then the rest
  pub at_piece : drop (block_at ps i) (srom_image ps) ≡ block_of p ++ (blocks qs ++ 0xff ∷ [])
  unfolding blocks
  at_piece = rw (at_block, e, append_assoc)

  -- the next block begins where this one ends
  pub next-block : block_at ps (suc i) ≡ block_at ps i + (7 + bytes_of p)
  unfolding block_at blocks
  next-block = rw (← (add-one i), take-add, e, blocks-append, length-append, length-append, length-block_of p) (omega arith)

-- the first block is behind the pad, and the end byte behind the last block
pub first_block : (ps : List Piece) → block_at ps 0 ≡ 1
unfolding block_at blocks
first_block ps = refl

pub end-place : (ps : List Piece) → block_at ps (length ps) ≡ 1 + length (blocks ps)
unfolding block_at
end-place ps = rw (take-length ps) (omega arith)
