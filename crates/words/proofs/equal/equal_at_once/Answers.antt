-- `words::equal::equal_at_once` meets its contract: `all` says whether the pairs before `k` are equal.
use mathlib.Core.Path.{◌≡◌, refl, sym, ◌∙◌}
use native.Mathlib.Omega.{arith}
use lib.ListN.{drop, length-drop}
use lib.Seq.{get_or-drop}
use Rattle.words.specs.Equal.{same}
use Rattle.words.proofs.EqualLaws.{same_more}
use Rattle.words.proofs.equal.equal_at_once.Goals as goal

pub loop-k-init : goal.loop-k-init
unfolding same
loop-k-init c = refl

pub loop-k-preserved : goal.loop-k-preserved
loop-k-preserved c = let l = c.loop-k in
    let x = c.args in
    let a = x.a.now in
    let b = x.b.now in
    let n = length-drop x.at a in
    let m = length-drop x.at b in
    let s = same_more l.k (drop x.at a) (drop x.at b) (omega arith) (omega arith) in
    c.is_equal-all.ensures ∙ rw (l.invariant, ← get_or-drop x.at a l.k 0, ← get_or-drop x.at b l.k 0) (sym s)

pub returns : goal.returns
returns c = let l = c.loop-k in
    let e : l.k ≡ 32 = omega arith in
    rw e at l.invariant
