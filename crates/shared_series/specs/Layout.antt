-- How an image that keeps one copy of equal put data is laid out (paper 02, C-23): every byte of it. One of the claims.
use Rattle.std.specs.Prelude.{◌≡◌, List, ◌∷◌, ◌++◌, ℕ, ◌+◌, ◌-◌, ◌*◌, length, take, drop}
use Rattle.words.specs.Choice.{All}
use Rattle.words.specs.Four.{four_bytes}
use Rattle.plan.specs.Plan.{Piece, put, fill, run}
use Rattle.aplx_share.specs.Contents.{contents, kept_contents, joined, total_length}

-- the entry with index i
abbrev pub entry_at : List ℕ → ℕ → List ℕ
entry_at image i = take 16 (drop (16 * i) image)

-- an image of these pieces
pub record Layout (ps : List Piece) (image : List ℕ) : Type 0 where
  -- "the later entry points to the earliest such copy": the offset in the entry of every put with bytes d leads over the entries from it on,
  -- the end entry among them, and the different contents of the pieces before the first put with these bytes
  pub put-entry :
      (d : List ℕ)
      → (before : List Piece) (a : ℕ) (rest : List Piece) → ps ≡ before ++ put a d ∷ rest → All (λ (c : List ℕ). c ≡ d → ⊥) (contents before)
      → (earlier : List Piece) (b : ℕ) (later : List Piece) → ps ≡ earlier ++ put b d ∷ later
      → entry_at image (length earlier) ≡ four_bytes 2 b (16 * (length ps + 1 - length earlier) + total_length (kept_contents before)) (length d)
  -- "All else is as before": paper 01's "one entry per piece in plan order (RCOPY, FILL, EXEC; unused words zero)"
  pub fill-entry : (earlier : List Piece) (a n w : ℕ) (later : List Piece) → ps ≡ earlier ++ fill a n w ∷ later
      → entry_at image (length earlier) ≡ four_bytes 3 a n w
  pub run-entry : (earlier : List Piece) (a : ℕ) (later : List Piece) → ps ≡ earlier ++ run a ∷ later
      → entry_at image (length earlier) ≡ four_bytes 4 a 0 0
  -- "an end entry of 0xFFFFFFFF and three zeros"
  pub end-entry : entry_at image (length ps) ≡ four_bytes 0xffffffff 0 0 0
  -- "then the data of the puts in order", of which this packing "keeps one copy where a put's bytes equal an earlier put's"
  pub copies : drop (16 * (length ps + 1)) image ≡ joined (kept_contents ps)
