-- Laws of what is written as a front part with a row or an entry of 16 bytes for each piece, and then the data of the puts in order: an
-- APLX image, and a plan. Both have their data behind 16 bytes for each piece and 16 more, and both are written piece by piece.
use Rattle.std.specs.Prelude.{◌≡◌, List, ◌++◌, ℕ, ◌+◌, ◌*◌, ◌≤◌, length, take, drop}
use Rattle.std.proofs.Common.{ap, ◌∙◌, append-nil, arith, length-append}
use Rattle.words.specs.Store.{store}
use Rattle.words.proofs.StoreLaws.{length-store}
use Rattle.words.proofs.StoreGrowing.{both-grow}
use Rattle.plan.specs.declared.piece.Piece as CodePiece
use Rattle.plan.specs.Plan.{Piece, data_of, put_bytes, datas}
use Rattle.plan.proofs.PlanDatas.{length-datas, datas-append, datas-split}
use Rattle.plan.specs.Code.{put_length, piece_is}
use Rattle.plan.proofs.CodeLaws.{Found}

-- where the data begins
abbrev pub data_start : List Piece → ℕ
data_start ps = 16 * (length ps + 1)

-- the bytes of data before that of piece i
abbrev pub earlier : List Piece → ℕ → ℕ
earlier ps i = length (datas (take i ps))

pub earlier-most : (ps : List Piece) (i : ℕ) → earlier ps i ≤ put_bytes ps
earlier-most ps i =
    omega (arith, length-datas ps, ap length (datas-split ps i) ∙ length-append (datas (take i ps)) (datas (drop i ps)))

-- ---- the next piece
module _ {unit : ℕ} {s : List ℕ} {ps : List Piece} {i : ℕ} {p : CodePiece.Piece} (f : Found unit s ps i p) where
  pub put-most : put_length p ≤ 65536
  put-most = omega (arith, f.sizes.most)

  pub datas-through : datas (take (i + 1) ps) ≡ datas (take i ps) ++ data_of (piece_is s p)
  unfolding datas
  datas-through = rw (f.through, datas-append, append-nil)

  pub earlier-next : earlier ps (i + 1) ≡ earlier ps i + put_length p
  earlier-next = omega (arith, f.sizes.of-put, ap length datas-through ∙ length-append (datas (take i ps)) (data_of (piece_is s p)))

-- ---- what is written
-- out has, over m, the front part and the data of the first i pieces
abbrev pub Written : List Piece → (ℕ → List ℕ) → List ℕ → List ℕ → ℕ → Type 0
Written ps front m out i = out ≡ store (store m 0 (front i)) (data_start ps) (datas (take i ps))

module _ (ps : List Piece) (front : ℕ → List ℕ) (m : List ℕ) (h : data_start ps + put_bytes ps ≤ length m) {out : List ℕ} (i : ℕ) (e : Written ps front m out i) where
  pub length-written : length (front i) ≤ data_start ps → length out ≡ length m
  length-written k =
      ap length e ∙ length-store (store m 0 (front i)) (data_start ps) (datas (take i ps)) (omega (arith, earlier-most ps i, length-store m 0 (front i) (omega arith)))
      ∙ length-store m 0 (front i) (omega arith)

  -- the row or the entry of piece i, and its data d
  pub written-more : (row d : List ℕ) {at place : ℕ} → at ≡ length (front i) → at + length row ≤ data_start ps → place ≡ data_start ps + earlier ps i
      → front (i + 1) ≡ front i ++ row → datas (take (i + 1) ps) ≡ datas (take i ps) ++ d → Written ps front m (store (store out at row) place d) (i + 1)
  written-more row d a k b f g =
      let n = ap length g ∙ length-append (datas (take i ps)) d in
      rw (e, f, g) (both-grow m (front i) (datas (take i ps)) (data_start ps) row (omega arith) d _ _ a b (omega (arith, earlier-most ps (i + 1))))
