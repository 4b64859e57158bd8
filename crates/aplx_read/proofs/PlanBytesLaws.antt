-- Laws of the bytes of a plan: lengths, the table from the row of a piece on, and that they are bytes.
use Rattle.std.specs.Prelude.{◌≡◌, refl, List, [], ◌∷◌, ℕ, zero, suc, ◌+◌, ◌*◌, ◌≤◌, length, take, drop}
use Rattle.std.proofs.Common.{add-zero, add_assoc, arith, length-append, drop_at, drop-drop}
use Rattle.words.specs.Choice.{All}
use Rattle.words.proofs.ChoiceLaws.{all_append}
use Rattle.words.specs.Bytes.{Bytes}
use Rattle.words.specs.Four.{four_bytes}
use Rattle.words.proofs.FourLaws.{length-four_bytes, bytes-of-four}
use Rattle.plan.specs.Plan.{Piece, put, fill, run, data_of, put_bytes, datas}
use Rattle.plan.proofs.PlanDatas.{length-datas, datas-bytes}
use Rattle.aplx_read.specs.PlanBytes.{row_bytes, table, plan_bytes}

pub length-row_bytes : (p : Piece) (offset : ℕ) → length (row_bytes p offset) ≡ 16
unfolding row_bytes
length-row_bytes (put a d) offset = length-four_bytes 1 a (length d) offset
length-row_bytes (fill a n w) offset = length-four_bytes 2 a n w
length-row_bytes (run a) offset = length-four_bytes 3 a 0 0

pub length-table : (k : ℕ) (ps : List Piece) → length (table k ps) ≡ 16 * length ps
unfolding table
length-table k [] = refl
length-table k (p ∷ ps) =
    rw (length-append, length-row_bytes, length-table (k + length (data_of p)) ps) (omega arith)

pub length-plan_bytes : (ps : List Piece) → length (plan_bytes ps) ≡ 16 * suc (length ps) + put_bytes ps
unfolding plan_bytes
length-plan_bytes ps =
    rw (length-append, length-append, length-four_bytes, length-table, length-datas) (omega arith)

-- from the row of piece i on
pub drop-table : (ps : List Piece) (i k : ℕ) → i ≤ length ps → drop (16 * i) (table k ps) ≡ table (k + length (datas (take i ps))) (drop i ps)
unfolding table datas
drop-table ps zero k h = rw (add-zero k)
drop-table [] (suc i) k h = absurd (omega arith)
drop-table (p ∷ ps) (suc i) k h =
    let z : 16 * suc i ≡ 16 + 16 * i = omega arith in
    let s : drop 16 (table k (p ∷ ps)) ≡ table (k + length (data_of p)) ps = drop_at (row_bytes p k) (table (k + length (data_of p)) ps) 16 (length-row_bytes p k) in
    rw (z, ← drop-drop (16 * i) 16 (table k (p ∷ ps)), s, drop-table ps i (k + length (data_of p)) (omega arith), length-append, add_assoc)

-- ---- bytes
row-bytes : (p : Piece) (offset : ℕ) → Bytes (row_bytes p offset)
unfolding row_bytes
row-bytes (put a d) offset = bytes-of-four 1 a (length d) offset
row-bytes (fill a n w) offset = bytes-of-four 2 a n w
row-bytes (run a) offset = bytes-of-four 3 a 0 0

table-bytes : (k : ℕ) (ps : List Piece) → Bytes (table k ps)
unfolding table
table-bytes k [] = tt
table-bytes k (p ∷ ps) = all_append _ (row_bytes p k) _ (row-bytes p k) (table-bytes (k + length (data_of p)) ps)

pub plan-bytes : (ps : List Piece) → All (λ p. Bytes (data_of p)) ps → Bytes (plan_bytes ps)
unfolding plan_bytes
plan-bytes ps b =
    all_append _ (four_bytes (length ps) 16 (16 + 16 * length ps) (put_bytes ps)) _ (bytes-of-four (length ps) 16 (16 + 16 * length ps) (put_bytes ps))
    (all_append _ (table 0 ps) _ (table-bytes 0 ps) (datas-bytes ps b))
