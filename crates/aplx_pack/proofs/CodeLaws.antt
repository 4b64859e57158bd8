-- Laws of the entry of a row: it has 16 bytes, and is that of the piece whose data the row locates.
use Rattle.std.specs.Prelude.{◌≡◌, refl, List, ℕ, length}
use Rattle.words.proofs.FourLaws.{length-four_bytes}
use Rattle.plan.specs.declared.piece.Piece.{Piece}
use Rattle.plan.specs.declared.piece.Piece.TheVariants.{Put, Fill, Run}
use Rattle.plan.proofs.PlanLaws.{data-length}
use Rattle.plan.specs.Code.{row_is, piece_is}
use Rattle.plan.specs.Code.Packer.{Writable}
use Rattle.aplx_pack.specs.Image.{entry_of}
use Rattle.aplx_pack.specs.Code.{row_entry}

pub length-row_entry : (p : Piece) (off : ℕ) → length (row_entry (row_is p) off) ≡ 16
length-row_entry (Put a o n) off = length-four_bytes 2 a off n
length-row_entry (Fill a n w) off = length-four_bytes 3 a n w
length-row_entry (Run a) off = length-four_bytes 4 a 0 0

pub row-entry : (unit : ℕ) (s : List ℕ) (p : Piece) (off : ℕ) → Writable unit s p → row_entry (row_is p) off ≡ entry_of (piece_is s p) off
unfolding entry_of
row-entry unit s (Put a o n) off w = rw (data-length s o n w.0)
row-entry unit s (Fill a n w) off h = refl
row-entry unit s (Run a) off h = refl
