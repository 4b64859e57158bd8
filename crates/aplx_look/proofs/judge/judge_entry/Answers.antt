-- `aplx_look::judge::judge_entry` meets its contract: the address of a found entry plus 16 does not wrap.
use Rattle.std.proofs.Common.{sym, ◌∙◌, ap, arith, length}
use Rattle.memory_map.specs.Lookup.{found_of}
use Rattle.memory_map.proofs.LookupLaws.{lawful}
use Rattle.memory_region.specs.declared.region.Right.TheVariants.{Read}
use Rattle.aplx_look.proofs.judge.judge_entry.Goals as goal

pub judge_command-requires : goal.judge_command-requires
judge_command-requires c = let x = c.args in
    let h = (lawful x.board.now.map (length x.board.now.memory.now) x.board.now.is_sound).below Read x.address 16 _ (sym c.lookup.ensures ∙ ap found_of c.in-Ok.is) in
    omega arith
