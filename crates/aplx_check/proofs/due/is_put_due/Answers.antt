-- `aplx_check::due::is_put_due` meets its contract: a part is no longer than what is due.
use Rattle.std.proofs.Common.{length, sym, ◌∙◌, length-take-le}
use Rattle.aplx_check.proofs.CodeLaws.{part-inside}
use Rattle.aplx_check.proofs.due.is_put_due.Goals as goal
use Rattle.aplx_check.proofs.due.is_put_due.Goals.{then-w-address, else-w-address}

pub slice_bounds-has_data-end : goal.slice_bounds-has_data-end
slice_bounds-has_data-end c = let x = c.args in
    elim c.if-w-address.branch [
      | then-w-address w ↦ sym (length-take-le _ x.bytes.now (part-inside x.address (length x.bytes.now) _ (sym w.is_part.ensures ∙ sym w.value-is ∙ c.if-is_part.true)))
      | else-w-address w ↦ cc
    ]
