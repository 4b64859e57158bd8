-- An entry of the code can be read back from what it says. So two that say the same are the same.
use Rattle.std.specs.Prelude.{◌≡◌, refl, Result, Ok, Err, Option, Some, None}
use Rattle.std.proofs.Common.{ap}
use Rattle.outcome.specs.declared.refusal.Cause.{Cause}
use Rattle.outcome.proofs.OutcomeInjective.{back-injective, cause_back, cause-back}
use Rattle.plan.specs.declared.piece.Piece as CodePiece
use Rattle.plan.proofs.CodeInjective.{row_back, row_back_lem}
use Rattle.aplx_read.specs.ReadBack.{Entry, piece, end, bad}
use Rattle.aplx_read.specs.Code.{entry_is}

abbrev entry_back : Entry → Result (Option CodePiece.Piece) Cause
entry_back (piece row) = Ok (Some (row_back row))
entry_back end = Ok None
entry_back (bad n) = Err (cause_back n)

entry-back : (x : Result (Option CodePiece.Piece) Cause) → entry_back (entry_is x) ≡ x
entry-back (Ok (Some p)) = ap (λ (p : CodePiece.Piece). Ok (Some p)) (row_back_lem p)
entry-back (Ok None) = refl
entry-back (Err c) = ap (λ (c : Cause). Err c) (cause-back c)

pub entry_is-injective : (x y : Result (Option CodePiece.Piece) Cause) → entry_is x ≡ entry_is y → x ≡ y
entry_is-injective = back-injective entry_is entry_back entry-back
