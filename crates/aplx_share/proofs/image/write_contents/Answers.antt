-- `aplx_share::image::write_contents` meets its contract: the loop's invariant: the contents before the index are written, and the place is behind them.
use Rattle.std.specs.Prelude.{◌≡◌, List, [], ℕ, ◌+◌, ◌<◌, ◌≤◌, length, take, get_or}
use Rattle.std.proofs.Common.{sym, ◌∙◌, ap, add-zero, arith, length-append}
use Rattle.words.specs.Store.{store_if_fits}
use Rattle.words.proofs.StoreLaws.{store-nil, store-behind}
use Rattle.aplx_share.specs.Contents.{joined}
use Rattle.aplx_share.proofs.ContentsSteps.{joined-next, joined-most}
use Rattle.aplx_share.specs.declared.contents.Content.{Content}
use Rattle.aplx_share.specs.Collected.{contents_at, Located}
use Rattle.aplx_share.proofs.CollectedLaws.{no_content, in_kept, part-kept, length-kept}
use Rattle.aplx_share.proofs.image.write_contents.Goals as goal

pub loop-content-init : goal.loop-content-init
unfolding joined
loop-content-init c = (sym (store-nil c.args.output.now c.args.at), sym (add-zero c.args.at))

-- the contents through one more
joined-size : (s : List ℕ) (cs : List Content) (k : ℕ) (h : k < length cs) → Located s cs
    → length (joined (take (k + 1) (contents_at s cs))) ≡ length (joined (take k (contents_at s cs))) + (get_or cs k no_content).length
joined-size s cs k h l =
    let all = contents_at s cs in
    ap length (joined-next all k (in_kept s cs k h)) ∙ length-append (joined (take k all)) (get_or all k [])
    ∙ ap (λ (n : ℕ). length (joined (take k all)) + n) (length-kept s cs k h l)

pub overflow_add-place : goal.overflow_add-place
overflow_add-place c =
    let s = c.args.plan.now in
    let cs = c.args.contents.now in
    let k = c.loop-content.content-index in
    omega (arith, joined-size s cs k c.loop-content-test.true c.requires.0, joined-most (contents_at s cs) (k + 1), c.requires.1, c.bytes-in-loop-content.auto)

pub loop-content-preserved : goal.loop-content-preserved
loop-content-preserved c =
    let s = c.args.plan.now in
    let cs = c.args.contents.now in
    let m = c.args.output.now in
    let k = c.loop-content.content-index in
    let h = c.loop-content-test.true in
    let all = contents_at s cs in
    let size = joined-size s cs k h c.requires.0 in
    let bytes = get_or all k [] in
    let e = c.bytes-in-loop-content.ensures ∙ ap (store_if_fits c.loop-content.output c.loop-content.place) (c.bytes.ensures ∙ part-kept s cs k h) in
    let fits : c.loop-content.place + length bytes ≤ length m = omega (arith, size, length-kept s cs k h c.requires.0, joined-most all (k + 1), c.requires.1) in (
      rw (joined-next all k (in_kept s cs k h))
          (store-behind m c.args.at (joined (take k all)) bytes c.loop-content.place c.loop-content.output _ (omega arith) fits c.loop-content.invariant.0 e),
      omega (arith, size),
    )
