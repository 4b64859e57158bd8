-- Laws of the code's readings of an image that was read: the piece that the code reads at an index is the image's, and so are the sums that
-- the reader answers.
use Rattle.std.specs.Prelude.{◌≡◌, List, ℕ, ◌<◌, length, get_or, Result, Ok}
use Rattle.std.proofs.Common.{ap, sym, ◌∙◌, arith}
use Rattle.plan.specs.declared.piece.Piece as CodePiece
use Rattle.plan.specs.declared.read.Pieces.{Pieces}
use Rattle.outcome.specs.declared.refusal.Refusal.{Refusal}
use Rattle.plan.specs.Plan.{run, piece_in, pieces}
use Rattle.plan.specs.Code.{row_is, piece_is, outcome_of, outcome_is}
use Rattle.plan.specs.Code.Packer.{Writable}
use Rattle.plan.proofs.CodeLaws.{Known, known_bytes, can_write, Lengths, lengths, Found, found-piece, Counted, counted-pieces}
use Rattle.aplx_read.specs.ReadBack.{piece, entry_at, read_image}
use Rattle.aplx_read.proofs.ReadBackLaws.{image-row}
use Rattle.aplx_read.proofs.ReadBackCarried.{image-carries}
use Rattle.aplx_read.proofs.ReadBackTold.{entry-told}
use Rattle.aplx_read.specs.Code.{row_of, image_pieces}

module _ (image : List ℕ) (b : Known image) where
  -- the code's piece p, read at entry e
  module _ (e : ℕ) (p : CodePiece.Piece) (h : entry_at image e ≡ piece (row_is p)) where
    entry-writable : Writable 32 image p
    entry-writable = can_write 32 image p (omega arith) (entry-told image (known_bytes image b) e h).passed

    pub entry-lengths : Lengths image p
    entry-lengths = lengths 32 image p entry-writable

  -- the piece that is read at index i of an accepted image
  pub found : read_image image ≡ pieces (image_pieces image) → (i : ℕ) → i < length (image_pieces image) → (p : CodePiece.Piece) → row_is p ≡ row_of (entry_at image i)
      → Found 32 image (image_pieces image) i p
  found accepted i h p e =
      let at = image-row image accepted i h (run 0) in
      let row : row_is p ≡ at.row = e ∙ ap row_of at.is_row in
      let is-piece : entry_at image i ≡ piece (row_is p) = at.is_row ∙ ap piece (sym row) in
      let same : get_or (image_pieces image) i (run 0) ≡ piece_is image p = at.is-piece ∙ ap (piece_in image) (sym row) in
      found-piece 32 image (image_pieces image) i p h same (entry-writable i p is-piece)

  pub counted : {r : Result Pieces Refusal} → outcome_is r ≡ outcome_of (read_image image) → {v : Pieces} → r ≡ Ok v → Counted (read_image image) v.count v.puts v.fills
  counted =
      counted-pieces 32 (read_image image)
      (λ ps e. let r = image-carries image (known_bytes image b) e in (omega (arith, r.few), r.good))
