-- `aplx_copy::copy::copy_far` meets its contract: the groups, then the words that are left.
use mathlib.Core.Path.{ap, sym, ◌∙◌}
use Prim.Native.Nat.{◌+◌, ◌-◌, ◌*◌, ◌/◌}
use Rattle.aplx_copy.specs.Copy.{copied}
use Rattle.aplx_copy.proofs.CopyLaws.{copied-groups}
use Rattle.aplx_copy.proofs.copy.copy_far.Goals as goal

pub returns : goal.returns
returns c = let x = c.args in
    let k = x.size / 32 * 32 in
    c.copy_words.ensures
    ∙ ap (copied (x.size - k) (x.to + k) (x.from + k)) c.copy_groups.ensures
    ∙ sym (copied-groups x.size x.to x.from x.memory.now)
