use Rattle.std.specs.Prelude.{◌≡◌, ◌+◌, length, take}
use Rattle.words.specs.Store.{store}
use Rattle.aplx_share.specs.Contents.{joined}
use Rattle.aplx_share.specs.Collected.{contents_at}
use Rattle.aplx_share.proofs.image.write_contents.Given as goal

abbrev pub invariant-loop-content : goal.invariant-loop-content
invariant-loop-content l = (l.output ≡ store l.initial.output l.at (joined (take l.content-index (contents_at l.plan l.contents))))
    × (l.place ≡ l.at + length (joined (take l.content-index (contents_at l.plan l.contents))))
