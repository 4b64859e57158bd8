-- `text::refusal::put` meets its contract: where the line fits, its parts are written one behind the other.
use mathlib.Core.Path.{ap, sym, ◌∙◌}
use Prim.Native.Nat.{◌+◌, ◌≤◌}
use native.Mathlib.Omega.{arith}
use lib.ListN.{length}
use Rattle.words.specs.Store.{store}
use Rattle.words.proofs.StoreLaws.{store-nil}
use Rattle.text.specs.Decimal.{width}
use Rattle.text.proofs.DecimalLaws.{width-most}
use Rattle.text.proofs.RefusalLaws.{length-line, line-fits, line-unfit, line-written}
use Rattle.text.proofs.refusal.put.Goals as goal

pub overflow_add-size : goal.overflow_add-size
overflow_add-size c = omega (arith, c.width-first.ensures, width-most c.args.number)

pub overflow_add-size-2 : goal.overflow_add-size-2
overflow_add-size-2 c = let x = c.args in
    omega (arith, c.width-first.ensures, c.width-second.ensures, width-most x.number, width-most x.place)

pub returns-then-output-size : goal.returns-then-output-size
returns-then-output-size c = let x = c.args in
    let e = line-unfit x.number x.place (length x.output.now) (omega (arith, c.width-first.ensures, c.width-second.ensures)) in
    record { value = ap length (sym e); output_after = sym (ap (store x.output.now 0) e ∙ store-nil x.output.now 0) }

pub returns : goal.returns
returns c = let d = c in
    let x = d.args in
    let m = x.output.now in
    let first = d.width-first.ensures in
    let second = d.width-second.ensures in
    let h : 13 + width x.number + width x.place ≤ length m = omega (arith, first, second) in
    let e = line-fits x.number x.place (length m) h in
    let w = line-written x.number x.place m c.bytes.new.s c.put.new.output c.bytes-2.new.s c.put-2.new.output c.bytes-3.new.s h
    c.bytes.ensures c.put.ensures (rw first at c.bytes-2.ensures) (rw first at c.put-2.ensures) (rw (first, second) at c.bytes-3.ensures) in
    record { value = omega (arith, first, second, ap length e, length-line x.number x.place); output_after = w ∙ ap (store m 0) (sym e) }
