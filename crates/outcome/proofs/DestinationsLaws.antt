-- Laws of the bytes stored.
use Rattle.std.specs.Prelude.{◌≡◌, List, [], ◌∷◌, ◌++◌, ◌+◌}
use Rattle.std.proofs.Common.{sym, zero-add, arith}
use Rattle.outcome.specs.Destinations.{Range, stored_in}

pub stored-append : (r s : List Range) → stored_in (r ++ s) ≡ stored_in r + stored_in s
unfolding stored_in
stored-append [] s = sym (zero-add (stored_in s))
stored-append (x ∷ r) s = omega (arith, stored-append r s)
