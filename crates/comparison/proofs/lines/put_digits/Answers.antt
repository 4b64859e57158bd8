-- `comparison::lines::put_digits` meets its contract: nothing is stored, or a byte is.
use native.Mathlib.Omega.{arith}
use Rattle.comparison.specs.Lines.Laws.{text-none, text-stored}
use Rattle.comparison.proofs.lines.put_digits.Goals as goal

pub returns-then-byte-eq-NOT_STORED : goal.returns-then-byte-eq-NOT_STORED
returns-then-byte-eq-NOT_STORED c = rw (text-none c.args.byte (omega arith)) c.bytes.ensures

pub returns-else-byte-eq-NOT_STORED : goal.returns-else-byte-eq-NOT_STORED
returns-else-byte-eq-NOT_STORED c = rw (text-stored c.args.byte (λ e. omega arith)) c.put.ensures
