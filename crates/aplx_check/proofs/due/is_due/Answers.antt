-- `aplx_check::due::is_due` meets its contract: by the kind of the piece; of a put and a fill, what is left of it.
use Rattle.std.proofs.Common.{◌≡◌, ◌+◌, ◌-◌, ◌≤◌, arith}
use Rattle.plan.specs.declared.piece.Piece.TheVariants.{Put}
use Rattle.plan.specs.Code.Packer.{Writable}
use Rattle.aplx_check.proofs.CodeLaws.{bytes_left}
use Rattle.aplx_check.proofs.due.is_due.Goals as goal
use Rattle.aplx_check.proofs.due.is_due.Goals.{In-Put}

-- what is required of a put
put-fits : (c : In-Put) → let x = c.args in
    Writable 1 x.plan.now (Put c.in-Put.address c.in-Put.from c.in-Put.length) × (x.done ≤ c.in-Put.length)
put-fits c =
    let h = rw c.in-Put.is at c.requires in
    (h.0, omega (arith, h.1))

pub returns-in-Put : goal.returns-in-Put
returns-in-Put c = let d = c in
    let x = d.args in
    let h = put-fits (goal.at.returns-in-Put c).In-Put in
    let e : c.in-Put.from + c.in-Put.length - (c.in-Put.from + x.done) ≡ c.in-Put.length - x.done = omega arith in
    rw (d.in-Put.is, bytes_left x.plan.now c.in-Put.from c.in-Put.length x.done h.0.0 h.1) (rw e at c.is_put_due.ensures)
