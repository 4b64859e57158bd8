-- `comparison::comparison::refuse` meets its contract: the line fits.
use mathlib.Core.Path.{refl, ap, ◌∙◌}
use native.Mathlib.Omega.{arith}
use lib.ListN.{length}
use Rattle.words.specs.Store.{store}
use Rattle.text.proofs.DecimalLaws.{width-most}
use Rattle.text.proofs.RefusalLaws.{length-line}
use Rattle.comparison.proofs.CodeLaws.{line-fitting}
use Rattle.comparison.proofs.comparison.refuse.Goals as goal

pub returns : goal.returns
returns c = let x = c.args in
    let n = c.number-number.result in
    let p = c.put.ensures in
    let e = line-fitting n x.refusal.place (length x.text.now) (omega arith) in
    let l = length-line n x.refusal.place in
    rw (← c.number-number.ensures) (record {
      size_is = p.value ∙ ap length e;
      text-is = p.output_after ∙ ap (store x.text.now 0) e;
      refused-is = refl;
      inside = omega (arith, c.put.auto.output, p.value, ap length e, l, width-most n, width-most x.refusal.place);
    })
