-- Laws of the APLX image: its length, what stands at a piece's entry, and which plans are packed.
use Rattle.std.specs.Prelude.{◌≡◌, refl, List, [], ◌∷◌, ◌++◌, ℕ, zero, suc, ◌+◌, ◌*◌, ◌≤◌, length, take, drop}
use Rattle.std.proofs.Common.{append_assoc, add-zero, add_assoc, arith, length-append}
use Rattle.std.proofs.lemmas.List.{drop-append-le}
use Rattle.std.proofs.Math.Seq.{drop-append-add}
use Rattle.words.proofs.FourLaws.{length-four_bytes}
use Rattle.plan.specs.Plan.{Piece, put, fill, run, data_of, put_bytes, datas, pieces, read_plan}
use Rattle.plan.proofs.PlanDatas.{length-datas, datas-split}
use Rattle.plan.specs.Packed.{packs}
use Rattle.plan.proofs.PackedLaws.{Fitting, accepted-facts, fitting-packed}
use Rattle.aplx_pack.specs.Image.{entry_of, entries, aplx_image, pack_aplx}

-- ---- lengths
pub length-entry_of : (p : Piece) (off : ℕ) → length (entry_of p off) ≡ 16
unfolding entry_of
length-entry_of (put a d) off = rw length-four_bytes
length-entry_of (fill a n w) off = rw length-four_bytes
length-entry_of (run a) off = rw length-four_bytes

-- behind an entry and i more
pub drop-entry : (p : Piece) (off i : ℕ) (rest : List ℕ) → drop (16 * suc i) (entry_of p off ++ rest) ≡ drop (16 * i) rest
drop-entry p off i rest =
    let z : 16 * suc i ≡ length (entry_of p off) + 16 * i = omega (arith, length-entry_of p off) in
    rw z (drop-append-add (entry_of p off) rest (16 * i))

pub length-entries : (k : ℕ) (ps : List Piece) → length (entries k ps) ≡ 16 * suc (length ps)
unfolding entries
length-entries k [] = length-four_bytes 0xffffffff 0 0 0
length-entries k (p ∷ ps) =
    let rest : (j : ℕ) → length (entries j ps) ≡ 16 * suc (length ps) = λ j. length-entries j ps in
    rw (length-append, length-entry_of, rest) (omega arith)

-- "Length: 16 x (count + 1) + the put lengths."
pub length-aplx_image : (ps : List Piece) → length (aplx_image ps) ≡ 16 * suc (length ps) + put_bytes ps
unfolding aplx_image
length-aplx_image ps = rw (length-append, length-entries, length-datas)

-- ---- places
-- from the entry of a piece on: the entries of the pieces ps from it on, the data d of the earlier puts, and theirs
abbrev pub tail : List ℕ → List Piece → List ℕ
tail d ps = entries (length d) ps ++ (d ++ datas ps)

pub tail_step : (d : List ℕ) (p : Piece) (ps : List Piece)
    → tail d (p ∷ ps) ≡ entry_of p (16 * suc (suc (length ps)) + length d) ++ tail (d ++ data_of p) ps
unfolding entries datas
tail_step d p ps = simp (append_assoc, length-append)

pub image-tail : (ps : List Piece) → aplx_image ps ≡ tail [] ps
unfolding aplx_image
image-tail ps = refl

-- from the entry of piece i on; at the count it is the end entry
pub drop-entries : (ps : List Piece) (i k : ℕ) → i ≤ length ps → drop (16 * i) (entries k ps) ≡ entries (k + length (datas (take i ps))) (drop i ps)
unfolding entries datas
drop-entries ps zero k h = rw (add-zero k)
drop-entries [] (suc i) k h = absurd (omega arith)
drop-entries (p ∷ ps) (suc i) k h =
    let j = k + length (data_of p) in
    rw (drop-entry p (16 * suc (suc (length ps)) + k) i (entries j ps), drop-entries ps i j (omega arith), length-append, add_assoc)

-- what stands at the entry of piece i: the entries of the pieces from i on, then all the data
pub at_entry : (ps : List Piece) (i : ℕ) (d : List ℕ) → i ≤ length ps → drop (16 * i) (tail d ps) ≡ tail (d ++ datas (take i ps)) (drop i ps)
at_entry ps i d h =
    let f : 16 * i ≤ length (entries (length d) ps) = omega (arith, length-entries (length d) ps) in
    rw (drop-append-le (16 * i) (entries (length d) ps) (d ++ datas ps) f, drop-entries ps i (length d) h, datas-split ps i, length-append, append_assoc)

-- ---- packing
module _ (plan : List ℕ) (room : ℕ) where
  pub packed-facts : {image : List ℕ} → pack_aplx plan room ≡ packs image → Fitting aplx_image (read_plan 32 plan) room image
  unfolding pack_aplx
  packed-facts e = accepted-facts aplx_image (read_plan 32 plan) room e

  pub read-packed : {ps : List Piece} → read_plan 32 plan ≡ pieces ps → length (aplx_image ps) ≤ room → pack_aplx plan room ≡ packs (aplx_image ps)
  unfolding pack_aplx
  read-packed e h = fitting-packed aplx_image (read_plan 32 plan) room e h
