-- `words::equal::equal` meets its contract: what is left from a place on decides.
use mathlib.Core.Path.{◌≡◌, refl, sym, ◌∙◌}
use Prim.Native.Nat.{◌+◌, ◌*◌, ◌/◌}
use native.Mathlib.Omega.{arith}
use lib.ListN.{length, get_or}
use borrow.Author.Tests.{eq-eqb, ne_eqb, not-true, not-false}
use Rattle.words.proofs.EqualLaws.{other_length, same_next, same_byte, same_end}
use Rattle.words.proofs.equal.equal.Invariants.{Left}
use Rattle.words.proofs.equal.equal.Goals as goal

pub returns-then-size-b : goal.returns-then-size-b
returns-then-size-b c = let x = c.args in sym (other_length x.a.now x.b.now c.if-size-b.true)

pub loop-i-init : goal.loop-i-init
loop-i-init c = refl

pub returns-then-not-equal_at_once : goal.returns-then-not-equal_at_once
returns-then-not-equal_at_once c = let x = c.args in
    let l = c.loop-i in
    let n = same_next (32 * l.i) 32 x.a.now x.b.now (omega arith) (omega arith) in
    sym (l.invariant ∙ n ∙ rw (sym c.equal_at_once.ensures ∙ not-true _ c.if-not-equal_at_once.true-raw))

pub loop-i-preserved : goal.loop-i-preserved
loop-i-preserved c = let x = c.args in
    let l = c.loop-i in
    let n = same_next (32 * l.i) 32 x.a.now x.b.now (omega arith) (omega arith) in
    let e : 32 * l.i + 32 ≡ 32 * (l.i + 1) = omega arith in
    let p : Left x.a.now x.b.now (32 * l.i + 32) = l.invariant ∙ n ∙ rw (sym c.equal_at_once.ensures ∙ not-false _ c.if-not-equal_at_once.false-raw) in
    rw e at p

pub loop-k-init : goal.loop-k-init
loop-k-init c = let e : c.loop-i.i ≡ length c.args.a.now / 32 = omega arith in rw e at c.loop-i.invariant

pub returns-then-a-k : goal.returns-then-a-k
returns-then-a-k c = let x = c.args in
    let l = c.loop-k in
    let n = same_byte l.k x.a.now x.b.now (omega arith) (omega arith) in
    sym (l.invariant ∙ n ∙ rw (ne_eqb (get_or x.a.now l.k 0) (get_or x.b.now l.k 0) c.if-a-k.true))

pub loop-k-preserved : goal.loop-k-preserved
loop-k-preserved c = let x = c.args in
    let l = c.loop-k in
    let n = same_byte l.k x.a.now x.b.now (omega arith) (omega arith) in
    l.invariant ∙ n ∙ rw (eq-eqb (get_or x.a.now l.k 0) (get_or x.b.now l.k 0) c.if-a-k.false)

pub returns : goal.returns
returns c = let x = c.args in
    let l = c.loop-k in
    sym (l.invariant ∙ same_end l.k x.a.now x.b.now (omega arith) (omega arith))
