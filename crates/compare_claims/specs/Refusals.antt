-- What paper 02, C-18, says of refusals before any stretch is looked for. `Ours.antt` says that it holds of ours.
use Rattle.std.specs.Prelude.{◌≡◌, List, ℕ, ◌+◌, ◌*◌, ◌≤◌, ◌<◌}
use Rattle.words.specs.Choice.{All}
use Rattle.plan.specs.Plan.{Piece, Row, put_row, fill_row, good, piece_at, refused, pieces, read_plan}
use Rattle.compare.specs.Reading.{addresses, read_compared, EndsBy}
use Rattle.compare.specs.Compare.{most_stretches, stretch_size, neither, old_plan, new_plan, refuses}
use Rattle.compare_claims.specs.Claims.{Comparison}

-- ---- any software that compares
pub record Refusals (compare : Comparison) : Type 0 where
  -- "The lent output must hold 512 stretches, else 10 before all."
  pub no_room : (n : ℕ) (old new : List ℕ) → n < stretch_size * most_stretches → compare n old new ≡ refuses neither 10 0
  -- "A refused plan gives 01's number and which plan, the old one first"
  pub old-refused : (n : ℕ) (old new : List ℕ) → stretch_size * most_stretches ≤ n → {x i : ℕ} → read_compared old ≡ refused x i
      → compare n old new ≡ refuses old_plan x i
  pub new-refused : (n : ℕ) (old new : List ℕ) → stretch_size * most_stretches ≤ n → {old_pieces : List Piece} {x i : ℕ} → read_compared old ≡ pieces old_pieces
      → read_compared new ≡ refused x i → compare n old new ≡ refuses new_plan x i

-- ---- which plans are read, and for what others are refused
-- as the reader of plans reads it, "12 not tested" (a unit of 1), where no put or fill "ends past address 4,294,967,295"
pub record ReadExactly (s : List ℕ) (ps : List Piece) : Type 0 where
  pub if-read : read_compared s ≡ pieces ps → (read_plan 1 s ≡ pieces ps) × All (EndsBy addresses) ps
  pub read-if : read_plan 1 s ≡ pieces ps → All (EndsBy addresses) ps → read_compared s ≡ pieces ps

-- a row of a put or fill that ends past it
pub data Past : Row → Type 0 where
  put-past : {a o n : ℕ} → addresses < a + n → Past (put_row a o n)
  fill-past : {a n w : ℕ} → addresses < a + n → Past (fill_row a n w)

-- "01's number"; or "last per piece .. new number 19": at a piece that passed its other tests
pub data Refused (s : List ℕ) (x i : ℕ) : Type 0 where
  by-reader : read_plan 1 s ≡ refused x i → Refused s x i
  by_end : {row : Row} → x ≡ 19 → piece_at 1 s i ≡ good row → Past row → Refused s x i
