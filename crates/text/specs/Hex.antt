-- A number in lower-case hex digits, as bytes of text.
use Rattle.std.specs.Prelude.{List, ℕ}
use Rattle.text.specs.Digits.{digits}

-- the last k of them
abbrev pub hex : ℕ → ℕ → List ℕ
hex k n = digits 16 k n
