-- `words::put::bytes` meets its contract: the part where they fit is written over.
use mathlib.Core.Path.{ap, sym, ◌∙◌}
use Prim.Native.Nat.{◌+◌}
use native.Mathlib.Omega.{arith}
use borrow.Author.Tests.{leb-true, leb-false}
use lib.ListN.{length}
use Rattle.words.proofs.StoreLaws.{store-part, store-fits, store-unfit}
use Rattle.words.specs.Store.{store}
use Rattle.words.proofs.put.bytes.Goals as goal

pub returns-then-fits : goal.returns-then-fits
returns-then-fits c = let x = c.args in
    let w = c.copy_all in
    let h = leb-true _ _ (sym c.fits.ensures ∙ c.if-fits.true) in
    store-part x.s.now x.at (x.at + length x.source.now) w.new.part (omega arith) h w.auto.part
    ∙ ap (store x.s.now x.at) w.ensures
    ∙ sym (store-fits x.s.now x.at x.source.now h)

pub returns-else-fits : goal.returns-else-fits
returns-else-fits c = let x = c.args in sym (store-unfit x.s.now x.at x.source.now (leb-false _ _ (sym c.fits.ensures ∙ c.if-fits.false)))
