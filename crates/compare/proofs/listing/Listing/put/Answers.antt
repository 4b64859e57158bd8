-- `compare::listing::Listing::put` meets its contract. The loop's invariant: the first `i` stretches stand in the output.
use Rattle.std.proofs.Common.{refl, ◌∙◌, arith, get_or-take}
use Rattle.compare.proofs.CompareOutput.{put-none, put-stretch}
use Rattle.compare.proofs.listing.Listing.put.Goals as goal

pub loop-i-init : goal.loop-i-init
loop-i-init c = let x = c.args in (λ l h. put-none x.output.now l, refl)

pub loop-i-preserved : goal.loop-i-preserved
loop-i-preserved c = let x = c.args in
    let l = c.loop-i in (
      λ t h. put-stretch x.self.now t h (omega arith) l.i (omega arith) x.output.now l.output c.put.new.s (omega arith) (l.invariant.0 t h) _ (get_or-take x.self.now.count x.self.now.stretches l.i _ (omega arith)) c.put.ensures,
      c.put.auto.s ∙ l.invariant.1,
    )
