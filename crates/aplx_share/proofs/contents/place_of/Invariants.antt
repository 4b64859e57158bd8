use Rattle.std.specs.Prelude.{◌≡◌, ◌*◌, ◌≤◌, take, false}
use Rattle.aplx_share.specs.Contents.{is_among, total_length}
use Rattle.aplx_share.specs.Collected.{contents_at}
use Rattle.aplx_share.proofs.contents.place_of.Given as goal

abbrev pub invariant-loop-kept : goal.invariant-loop-kept
invariant-loop-kept l = (l.place ≡ total_length (take l.kept-index (contents_at l.plan l.contents)))
    × ((is_among (take l.kept-index (contents_at l.plan l.contents)) l.content ≡ false) × (l.place ≤ 65536 * l.kept-index))
