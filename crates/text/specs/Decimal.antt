-- A number in decimal digits, as bytes of text.
use Rattle.std.specs.Prelude.{List, ℕ, zero, suc, ◌+◌, ◌/◌, eqb, if◌then◌else◌}
use Rattle.text.specs.Digits.{digits}

-- how many more digits stand before the last one: those of the quotient by 10, of which k are counted at most
unfoldable pub leading : ℕ → ℕ → ℕ
leading zero rest = 0
leading (suc k) rest = if eqb rest 0 then 0 else suc (leading k (rest / 10))

-- how many digits a number of 64 bits has: 20 at most
unfoldable pub width : ℕ → ℕ
width n = 1 + leading 19 (n / 10)

unfoldable pub decimal : ℕ → List ℕ
decimal n = digits 10 (width n) n
