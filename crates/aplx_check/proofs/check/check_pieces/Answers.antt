-- `aplx_check::check::check_pieces` meets its contract: the end entry, and then the entries before it.
use Rattle.std.proofs.Common.{◌≡◌, sym, ap, ◌∙◌, arith}
use Rattle.aplx_check.specs.Check.{at, first_end, whole_entries, check_pieces}
use Rattle.aplx_check.proofs.CheckEndEntry.{end-found}
use Rattle.aplx_check.specs.Code.{end_is}
use Rattle.aplx_check.proofs.check.check_pieces.Goals as goal
use Rattle.aplx_check.proofs.check.check_pieces.Goals.{In-Some}

-- the end entry was found
end-here : (c : In-Some) → let image = c.args.image.now in
    first_end image (whole_entries image) 0 ≡ at c.in-Some.end
end-here c =
    rw c.whole_entries-whole.ensures at (sym c.first_end.ensures ∙ ap end_is c.in-Some.is)

pub check_entries-requires : goal.check_entries-requires
check_entries-requires c = let x = c in
    (x.requires, omega (arith, (end-found x.args.image.now (whole_entries x.args.image.now) 0 (end-here (goal.at.check_entries-requires c).In-Some)).high))

pub returns-in-Some : goal.returns-in-Some
unfolding check_pieces
returns-in-Some c = rw (end-here (goal.at.returns-in-Some c).In-Some) c.check_entries.ensures

pub returns-in-None : goal.returns-in-None
unfolding check_pieces
returns-in-None c = let w = c.whole_entries-whole.ensures in
    let e = rw w at (sym c.first_end.ensures ∙ ap end_is c.in-None.is) in
    rw (e, ← w) c.refused_at.ensures
