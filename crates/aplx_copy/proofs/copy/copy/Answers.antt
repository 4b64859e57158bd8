-- `aplx_copy::copy::copy` meets its contract: ranges that were found to fit are copied, and else nothing is.
use mathlib.Core.Path.{sym, ◌∙◌}
use borrow.Author.Tests.{leb-true}
use Rattle.aplx_copy.specs.Copy.{copied_if_fits}
use Rattle.aplx_copy.proofs.CopyLaws.{copied-fits}
use Rattle.aplx_copy.proofs.copy.copy.Goals as goal
use Rattle.aplx_copy.proofs.copy.copy.Goals.{else-fits-via-then-fits+else-fits-2, else-fits-via-else-fits}

pub returns-then-fits-2 : goal.returns-then-fits-2
returns-then-fits-2 c = let x = c.args in
    let to-fits = leb-true _ _ (sym c.fits.ensures ∙ c.if-fits.true) in
    let from-fits = leb-true _ _ (sym c.fits-then-fits.ensures ∙ c.if-fits-2.true) in
    c.copy_inside.ensures ∙ sym (copied-fits x.size x.to x.from x.memory.now to-fits from-fits)

pub returns-else-fits : goal.returns-else-fits
unfolding copied_if_fits
returns-else-fits c = elim c.else-fits.branch [
  | else-fits-via-then-fits+else-fits-2 w ↦ simp (sym c.fits.ensures ∙ w.if-fits.true, sym w.fits-then-fits.ensures ∙ w.if-fits-2.false)
  | else-fits-via-else-fits w ↦ simp (sym c.fits.ensures ∙ w.if-fits.false)
]
