-- What the packer's loops rest on: the entry of the piece that the code reads, and that all entries and the data are the image.
use mathlib.Core.Path.{◌≡◌, ap, sym, ◌∙◌}
use mathlib.Core.List.{List, ◌++◌}
use Prim.Native.Nat.{ℕ, suc, ◌+◌, ◌-◌, ◌*◌, ◌≤◌}
use native.Mathlib.Omega.{arith}
use lib.ListN.{length, take, drop, length-drop, take-append-drop, drop_of_length-le}
use lib.Seq.{length-take-le, take-length}
use Rattle.words.specs.Four.{four_bytes}
use Rattle.words.proofs.FourLaws.{length-four_bytes}
use Rattle.words.specs.Store.{store}
use Rattle.words.proofs.StoreLaws.{store-adjoining}
use Rattle.words.proofs.StoreGrowing.{front-grows}
use Rattle.plan.specs.declared.piece.Piece as CodePiece
use Rattle.plan.specs.Plan.{Piece, put_bytes, datas}
use Rattle.plan.proofs.PlanDatas.{length-datas}
use Rattle.plan.specs.Code.{piece_is}
use Rattle.plan.proofs.CodeLaws.{Found}
use Rattle.plan.proofs.CodeRows.{data_start, earlier, Written}
use Rattle.aplx_pack.specs.Image.{entry_of, entries, aplx_image}
use Rattle.aplx_pack.proofs.ImageLaws.{length-entries, length-aplx_image, drop-entries}
use Rattle.aplx_pack.proofs.ImageEntry.{entry-through}

-- the entries before piece i
abbrev pub front : List Piece → ℕ → List ℕ
front ps i = take (16 * i) (entries 0 ps)

pub length_front : (ps : List Piece) (i : ℕ) → i ≤ length ps → length (front ps i) ≡ 16 * i
length_front ps i h = length-take-le (16 * i) (entries 0 ps) (omega (arith, length-entries 0 ps))

-- the next piece, whose data comes to a place
pub front-through : {s : List ℕ} {ps : List Piece} {i : ℕ} {p : CodePiece.Piece} → Found 32 s ps i p → (place : ℕ) → place ≡ data_start ps + earlier ps i
    → front ps (i + 1) ≡ front ps i ++ entry_of (piece_is s p) (place - 16 * i)
unfolding entries
front-through {s} {ps} {i} {p} f place h =
    let k = earlier ps i in
    let qs = drop (suc i) ps in
    let off = 16 * suc (suc (length qs)) + (0 + k) in
    let l : length ps - i ≡ suc (length qs) = sym (length-drop i ps) ∙ ap length f.from in
    let o : off ≡ place - 16 * i = omega arith in
    let e = drop-entries ps i 0 (omega arith) ∙ ap (entries (0 + k)) f.from in
    rw (← o) (entry-through (entries 0 ps) i (piece_is s p) off _ e)

-- the place behind the data
pub image-end : (ps : List Piece) → length (aplx_image ps) ≡ data_start ps + put_bytes ps
image-end ps = omega (arith, length-aplx_image ps)

-- the end entry behind all others
front-all : (ps : List Piece) → front ps (length ps) ++ four_bytes 0xffffffff 0 0 0 ≡ entries 0 ps
unfolding entries
front-all ps =
    let e : drop (16 * length ps) (entries 0 ps) ≡ four_bytes 0xffffffff 0 0 0 =
    drop-entries ps (length ps) 0 (omega arith) ∙ rw (drop_of_length-le ps {i = length ps} (omega arith)) in
    rw (← e) (take-append-drop (16 * length ps) (entries 0 ps))

-- all entries and data, with the end entry, are the image
pub written_all : (ps : List Piece) (m : List ℕ) → length (aplx_image ps) ≤ length m → (out : List ℕ) → Written ps (front ps) m out (length ps)
    → store out (16 * length ps) (four_bytes 0xffffffff 0 0 0) ≡ store m 0 (aplx_image ps)
unfolding aplx_image
written_all ps m h out e =
    let q = data_start ps in
    let n = length-four_bytes 0xffffffff 0 0 0 in
    let d = length-datas ps in
    let l = length_front ps (length ps) (omega arith) in
    let k : q ≡ 0 + length (entries 0 ps) = omega (arith, length-entries 0 ps) in
    let t : datas (take (length ps) ps) ≡ datas ps = ap datas (take-length ps) in
    let g = front-grows m (front ps (length ps)) (datas ps) q (four_bytes 0xffffffff 0 0 0) (omega arith) (16 * length ps) (sym l) (omega (arith, image-end ps)) in
    rw (e, t, g, front-all ps, k) (store-adjoining m 0 (entries 0 ps) (omega (arith, image-end ps)) (datas ps))
