-- What the packer's loops rest on: the block of the piece that the code reads fits, and the blocks written one after the other are the image.
use mathlib.Core.Path.{◌≡◌, ap, sym, ◌∙◌}
use mathlib.Core.List.{List, [], ◌∷◌, ◌++◌, append-nil}
use Prim.Native.Nat.{ℕ, suc, ◌+◌, ◌≤◌, ◌<◌}
use native.Mathlib.Numerals.{add-one}
use native.Mathlib.Omega.{arith}
use lib.ListN.{length, take, drop, set, length-append, take-append-drop}
use lib.Seq.{take-length}
use Rattle.words.specs.Store.{store}
use Rattle.words.proofs.StoreLaws.{length-store, store-adjoining, sets-store, store-nil}
use Rattle.plan.specs.declared.piece.Piece as CodePiece
use Rattle.plan.specs.Plan.{Piece}
use Rattle.plan.specs.Packed.{plan_pieces}
use Rattle.plan.specs.Code.{put_length, fill_length, piece_is}
use Rattle.plan.proofs.CodeLaws.{Found}
use Rattle.srom_pack.specs.Image.{block_of, blocks, srom_image, block_at}
use Rattle.srom_pack.proofs.ImageLaws.{bytes_of, blocks-append, next-block, end-place}

-- ---- the next block
module _ {s : List ℕ} {i : ℕ} {p : CodePiece.Piece} (f : Found 4 s (plan_pieces 4 s) i p) where
  pub next_place : block_at (plan_pieces 4 s) (i + 1) ≡ block_at (plan_pieces 4 s) i + (7 + put_length p + fill_length p)
  next_place =
      let e : put_length p + fill_length p ≡ bytes_of (piece_is s p) = omega (arith, f.sizes.of-put, f.sizes.of-fill) in
      rw (add-one i) (next-block (plan_pieces 4 s) i (piece_is s p) (drop (suc i) (plan_pieces 4 s)) f.from ∙ omega arith)

  pub blocks-through : blocks (take (i + 1) (plan_pieces 4 s)) ≡ blocks (take i (plan_pieces 4 s)) ++ block_of (piece_is s p)
  unfolding blocks
  blocks-through = rw (f.through, blocks-append, append-nil)

-- ---- the image
module _ (ps : List Piece) where
  image-end : length (srom_image ps) ≡ 1 + block_at ps (length ps)
  unfolding srom_image block_at
  image-end = rw (take-length ps) (simp length-append (omega arith))

  pub block_inside : (i : ℕ) → block_at ps i < length (srom_image ps)
  unfolding block_at
  block_inside i =
      let e : blocks ps ≡ blocks (take i ps) ++ blocks (drop i ps) = ap blocks (sym (take-append-drop i ps)) ∙ blocks-append (take i ps) (drop i ps) in
      omega (arith, image-end, end-place ps, ap length e ∙ length-append (blocks (take i ps)) (blocks (drop i ps)))

  -- out has the blocks of the first i pieces behind place 0 of m
  abbrev pub Written : List ℕ → List ℕ → ℕ → Type 0
  Written m out i = out ≡ store m 1 (blocks (take i ps))

  module _ (m : List ℕ) where
    pub written_none : Written m m 0
    unfolding blocks
    written_none = sym (store-nil m 1)

    pub length-written : {out : List ℕ} (i : ℕ) → length (srom_image ps) ≤ length m → Written m out i → length out ≡ length m
    unfolding block_at
    length-written i h e = ap length e ∙ length-store m 1 (blocks (take i ps)) (omega (arith, block_inside i))

    pub written-more : {out : List ℕ} (i : ℕ) (d : List ℕ) {at : ℕ} → length (srom_image ps) ≤ length m → Written m out i → at ≡ block_at ps i
        → blocks (take (i + 1) ps) ≡ blocks (take i ps) ++ d → Written m (store out at d) (i + 1)
    unfolding block_at
    written-more i d h e a f = let z : block_at ps i ≡ 1 + length (blocks (take i ps)) = omega arith in
        rw (a, e, f, z) (store-adjoining m 1 (blocks (take i ps)) (omega (arith, block_inside i)) d)

  -- with the pad before the blocks and the end behind them, that is the image
  pub written_all : (m out : List ℕ) → length (srom_image ps) ≤ length m → Written (set m 0 0x55) out (length ps)
      → set out (block_at ps (length ps)) 0xff ≡ store m 0 (srom_image ps)
  unfolding srom_image
  written_all m out h e =
      let n = blocks ps in
      let l : 2 + length n ≤ length m = omega (arith, image-end, end-place ps) in
      let f : set m 0 0x55 ≡ store m 0 (0x55 ∷ []) = sets-store m 0 (0x55 ∷ []) (omega arith) in
      let g : out ≡ store m 0 (0x55 ∷ n) = rw (take-length ps, f) at e ∙ store-adjoining m 0 (0x55 ∷ []) (omega arith) n in
      let k : length out ≡ length m = ap length g ∙ length-store m 0 (0x55 ∷ n) (omega arith) in
      let z : 1 + length n ≡ 0 + length (0x55 ∷ n) = omega arith in
      let x : set out (1 + length n) 0xff ≡ store out (1 + length n) (0xff ∷ []) = sets-store out (1 + length n) (0xff ∷ []) (omega arith) in
      rw (end-place ps, x, g, z) (store-adjoining m 0 (0x55 ∷ n) (omega arith) (0xff ∷ []))
