-- `comparison::lines::put_lines` meets its contract: the line of the runs stands behind the lines of the stretches.
use mathlib.Core.Path.{◌≡◌}
use mathlib.Core.Bool.{true, false}
use native.Mathlib.Omega.{arith}
use Rattle.comparison.specs.Lines.Stretches.{length-text, lines-written}
use Rattle.comparison.proofs.lines.put_lines.Goals as goal

pub returns-then-same : goal.returns-then-same
returns-then-same c = let s = c in
    let x = s.args in
    let w = c.put_stretches in
    let e : x.same ≡ true = c.if-same.true in
    let m = x.text.now in
    let d = x.stretches.now in
    let r = c.bytes in
    rw e (record {
      value = omega (arith, length-text x.count d true);
      text_after = lines-written m d x.count true w.new.text r.new.s (omega arith) w.ensures r.ensures;
      upper_bound = omega (arith, w.auto.text, r.auto.s);
    })

pub returns : goal.returns
returns c = let s = c in
    let x = s.args in
    let w = c.put_stretches in
    let e : x.same ≡ false = c.if-same.false in
    let m = x.text.now in
    let d = x.stretches.now in
    let r = c.bytes-2 in
    rw e (record {
      value = omega (arith, length-text x.count d false);
      text_after = lines-written m d x.count false w.new.text r.new.s (omega arith) w.ensures r.ensures;
      upper_bound = omega (arith, w.auto.text, r.auto.s);
    })
