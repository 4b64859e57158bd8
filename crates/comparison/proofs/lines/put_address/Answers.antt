-- `comparison::lines::put_address` meets its contract: a space behind the digits.
use native.Mathlib.Omega.{arith}
use Prim.Native.Nat.{◌+◌}
use Rattle.text.specs.Hex.{hex}
use Rattle.text.proofs.DigitsLaws.{length_digits}
use Rattle.comparison.specs.Lines.Laws.{byte-behind}
use Rattle.comparison.proofs.lines.put_address.Goals as goal

pub returns : goal.returns
returns c = let s = c in
    let x = s.args in
    let d = c.put in
    byte-behind x.text.now x.at (hex 8 x.address) (x.at + 8) (omega (arith, length_digits 16 8 x.address)) d.new.output 32
    (omega (arith, s.requires)) d.ensures
