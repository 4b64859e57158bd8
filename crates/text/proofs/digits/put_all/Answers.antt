-- `text::digits::put_all` meets its contract: the digits are written one by one, the last first.
use mathlib.Core.Path.{◌≡◌, ◌∙◌}
use native.Mathlib.Omega.{arith}
use Rattle.text.specs.Digits.{digits}
use Rattle.text.proofs.DigitsLaws.{digits-next}
use Rattle.text.proofs.digits.put_all.Goals as goal

pub loop-i-preserved : goal.loop-i-preserved
loop-i-preserved c = let x = c.args in
    let l = c.loop-i in
    rw c.digit.ensures (digits-next x.base l.part l.i l.rest (omega arith) (omega arith) ∙ l.invariant)

pub returns : goal.returns
unfolding digits
returns c = let l = c.loop-i in
    let z : l.i ≡ 0 = omega arith in
    rw z at l.invariant
