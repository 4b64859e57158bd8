-- What the values of the code's answers and structs say, in the terms of the definitions.
use Rattle.std.specs.Prelude.{ℕ, ◌+◌, ◌==◌, if◌then◌else◌, Result, Ok, Err, Option, Some, None}
use Rattle.outcome.specs.declared.refusal.Refusal.{Refusal}
use Rattle.outcome.specs.Refusal.{number_of}
use Rattle.aplx_check.specs.declared.due.Due.{Due}
use Rattle.aplx_check.specs.Check.{Checked, accepted, refuses, End, at, none}

abbrev pub checked_is : Result Unit Refusal → Checked
checked_is (Ok w) = accepted
checked_is (Err r) = refuses (number_of r.cause) r.place

abbrev pub end_is : Option ℕ → End
end_is (Some e) = at e
end_is None = none

-- what is due behind a part of so many bytes, of a piece of so many
abbrev pub after_part : Due → ℕ → ℕ → Due
after_part d n size = if d.done + n == size then record { index = d.index + 1; done = 0 } else record { index = d.index; done = d.done + n }
