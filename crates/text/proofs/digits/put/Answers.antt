-- `text::digits::put` meets its contract: the digits are written over the part where they fit.
use mathlib.Core.Path.{ap, sym, ◌∙◌}
use Prim.Native.Nat.{ℕ, ◌+◌, ◌≤◌}
use native.Mathlib.Omega.{arith}
use borrow.Author.Tests.{leb-true, leb-false}
use borrow.Rule.Slice.PartMut.{mid_len}
use lib.ListN.{length}
use Rattle.words.specs.Store.{store}
use Rattle.words.proofs.StoreLaws.{store-part, store-fits, store-unfit}
use Rattle.text.specs.Digits.{digits}
use Rattle.text.proofs.DigitsLaws.{length_digits}
use Rattle.text.proofs.digits.put.Goals as goal

pub returns-then-fits : goal.returns-then-fits
returns-then-fits c = let x = c.args in
    let inside = leb-true _ _ (sym c.fits.ensures ∙ c.if-fits.true) in
    let m = x.output.now in
    let w = c.put_all in
    let l = mid_len x.at (x.at + x.count) m inside in
    let f : x.at + length (digits x.base x.count x.n) ≤ length m = omega (arith, inside, length_digits x.base x.count x.n) in
    store-part m x.at (x.at + x.count) w.new.part (omega arith) inside w.auto.part
    ∙ ap (store m x.at) (w.ensures ∙ ap (λ (k : ℕ). digits x.base k x.n) (l ∙ omega arith))
    ∙ sym (store-fits m x.at (digits x.base x.count x.n) f)

pub returns-else-fits : goal.returns-else-fits
returns-else-fits c = let x = c.args in
    let h = leb-false (x.at + x.count) (length x.output.now) (sym c.fits.ensures ∙ c.if-fits.false) in
    sym (store-unfit x.output.now x.at (digits x.base x.count x.n) (omega (arith, h, length_digits x.base x.count x.n)))
