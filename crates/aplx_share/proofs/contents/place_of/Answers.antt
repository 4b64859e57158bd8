-- `aplx_share::contents::place_of` meets its contract: the loop's invariant: the content is none of those before the index, and the place is behind these.
use Rattle.std.specs.Prelude.{refl, List, ℕ}
use Rattle.std.proofs.Common.{sym, ◌∙◌, ap, arith}
use Rattle.std.proofs.lemmas.List.{length-map}
use Rattle.words.specs.Equal.{same}
use Rattle.aplx_share.specs.Contents.{is_among, total_length}
use Rattle.aplx_share.proofs.ContentsSteps.{total_length-next}
use Rattle.aplx_share.proofs.ContentsPlaces.{look-found, look-next, look_none}
use Rattle.aplx_share.specs.Collected.{bytes_of, contents_at}
use Rattle.aplx_share.proofs.CollectedLaws.{in_kept, part-kept, is-inside, length-kept}
use Rattle.aplx_share.proofs.contents.place_of.Goals as goal

pub loop-kept-init : goal.loop-kept-init
unfolding total_length is_among
loop-kept-init c = (refl, (refl, omega arith))

pub returns-then-equal : goal.returns-then-equal
returns-then-equal c =
    let s = c.args.plan.now in
    let cs = c.args.contents.now in
    let k = c.loop-kept.kept-index in
    let z = ap (λ (l : List ℕ). same l c.args.content.now) (c.bytes.ensures ∙ part-kept s cs k c.loop-kept-test.true) in
    c.loop-kept.invariant.0 ∙ sym (look-found (contents_at s cs) c.args.content.now k c.loop-kept.invariant.1.0 (in_kept s cs k c.loop-kept-test.true) (sym z ∙ sym c.equal.ensures ∙ c.if-equal.true))

pub loop-kept-preserved : goal.loop-kept-preserved
loop-kept-preserved c =
    let s = c.args.plan.now in
    let cs = c.args.contents.now in
    let k = c.loop-kept.kept-index in
    let h = in_kept s cs k c.loop-kept-test.true in
    let i = is-inside s cs k c.loop-kept-test.true c.requires in
    let z = ap (λ (l : List ℕ). same l c.args.content.now) (c.bytes.ensures ∙ part-kept s cs k c.loop-kept-test.true) in (
      omega (arith, total_length-next (contents_at s cs) k h, length-kept s cs k c.loop-kept-test.true c.requires),
      (look-next (contents_at s cs) c.args.content.now k c.loop-kept.invariant.1.0 h (sym z ∙ sym c.equal.ensures ∙ c.if-equal.false), omega (arith, i.most)),
    )

pub returns : goal.returns
returns c =
    let s = c.args.plan.now in
    let cs = c.args.contents.now in
    c.loop-kept.invariant.0 ∙ sym (look_none (contents_at s cs) c.args.content.now c.loop-kept.kept-index c.loop-kept.invariant.1.0 (omega (arith, length-map cs (bytes_of s))))
