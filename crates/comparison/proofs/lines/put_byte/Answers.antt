-- `comparison::lines::put_byte` meets its contract: a separator behind the digits.
use native.Mathlib.Omega.{arith}
use Prim.Native.Nat.{◌+◌}
use Rattle.comparison.specs.Lines.{byte_text}
use Rattle.comparison.specs.Lines.Laws.{length-byte, byte-behind}
use Rattle.comparison.proofs.lines.put_byte.Goals as goal

pub returns : goal.returns
returns c = let s = c in
    let x = s.args in
    let d = c.put_digits in
    byte-behind x.text.now x.at (byte_text x.byte) (x.at + 2) (omega (arith, length-byte x.byte)) d.new.text x.separator
    (omega (arith, s.requires)) d.ensures
