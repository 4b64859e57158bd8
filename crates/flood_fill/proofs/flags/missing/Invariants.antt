use Rattle.std.proofs.Common.{◌≡◌, not, take}
use Rattle.std.specs.List.{count_by}
use Rattle.flood_fill.proofs.flags.missing.Given as goal

abbrev pub invariant-loop-flag : goal.invariant-loop-flag
invariant-loop-flag g l = l.number ≡ count_by (λ x. not (g.F.Flag.reads x)) (take l.flag-index l.flags)
