-- `aplx_look::look::look` meets its contract: the entries before a stop passed their tests, and are fewer than 256.
use Rattle.std.proofs.Common.{refl}
use Rattle.memory_map.specs.Lookup.{lookup}
use Rattle.aplx_look.proofs.Looking.{passed-before, few-before}
use Rattle.aplx_look.proofs.look.look.Goals as goal

pub check_header-requires : goal.check_header-requires
check_header-requires c = let x = c.args in
    let f = lookup x.map in
    let w = c.in_ok-count.ensures in
    (passed-before f x.memory.now x.header w, few-before f x.memory.now x.header w refl)
