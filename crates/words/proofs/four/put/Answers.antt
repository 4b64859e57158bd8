-- `words::four::put` meets its contract: the four words adjoin.
use mathlib.Core.Path.{sym, ◌∙◌}
use Prim.Native.Nat.{◌+◌}
use native.Mathlib.Omega.{arith}
use borrow.Author.Tests.{leb-true, leb-false}
use lib.ListN.{length}
use Rattle.words.proofs.StoreLaws.{store-unfit}
use Rattle.words.specs.Four.{four_bytes}
use Rattle.words.proofs.FourLaws.{length-four_bytes, four-fits, four-put}
use Rattle.words.proofs.four.put.Goals as goal

pub returns-then-fits : goal.returns-then-fits
returns-then-fits c = let fourth = c in
    let third = fourth in
    let second = third in
    let first = second in
    let x = first.args in
    let inside = leb-true _ _ (sym first.fits.ensures ∙ first.if-fits.true) in
    four-put x.s.now x.at x.first x.second x.third x.fourth _ _ _ _ inside first.le_word.ensures
    second.le_word-then-fits.ensures third.le_word-then-fits-2.ensures fourth.le_word-then-fits-3.ensures
    ∙ sym (four-fits x.s.now x.at x.first x.second x.third x.fourth inside)

pub returns-else-fits : goal.returns-else-fits
returns-else-fits c = let x = c.args in
    sym (store-unfit x.s.now x.at (four_bytes x.first x.second x.third x.fourth)
    (omega (arith, leb-false (x.at + 16) (length x.s.now) (sym c.fits.ensures ∙ c.if-fits.false), length-four_bytes x.first x.second x.third x.fourth)))
