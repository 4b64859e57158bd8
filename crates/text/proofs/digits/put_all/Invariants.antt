use mathlib.Core.Path.{◌≡◌}
use mathlib.Core.List.{◌++◌}
use lib.ListN.{length, drop}
use Rattle.text.specs.Digits.{digits}
use Rattle.text.proofs.digits.put_all.Given as goal

abbrev pub invariant-loop-i : goal.invariant-loop-i
invariant-loop-i l = digits l.base l.i l.rest ++ drop l.i l.part ≡ digits l.base (length l.initial.part) l.n
