-- What the program `compare_plans` writes for the files `old` and `new` (paper 02, C-18).
pub mod Laws
pub mod Stretches
use Rattle.std.specs.Prelude.{Bool, true, false, List, [], ◌∷◌, ◌++◌, ℕ, ltb, eqb, length, if◌then◌else◌}
use Rattle.text.specs.Hex.{hex}
use Rattle.text.specs.Refusal.{refusal_line}
use Rattle.plan.specs.Plan.{Read, refused}
use Rattle.stretches.specs.Stretches.{Stretch}
use Rattle.compare.specs.LastByte.{not_stored}
use Rattle.compare.specs.Reading.{addresses, read_compared}
use Rattle.compare.specs.Compare.{Which, neither, Compared, refuses, finds, compared_below}

-- "old and new byte in two, or `--`"
unfoldable pub byte_text : ℕ → List ℕ
byte_text b = if eqb b not_stored then 45 ∷ 45 ∷ [] else hex 2 b

-- "first and last address in eight lower-case hex digits, then old and new byte .., one space between"
unfoldable pub line : Stretch → List ℕ
line s = hex 8 s.first ++ 32 ∷ hex 8 s.last ++ 32 ∷ byte_text s.old ++ 32 ∷ byte_text s.new ++ 10 ∷ []

-- "last `same run` or `other run`"
abbrev pub run_line : Bool → List ℕ
run_line true = 115 ∷ 97 ∷ 109 ∷ 101 ∷ 32 ∷ 114 ∷ 117 ∷ 110 ∷ 10 ∷ []
run_line false = 111 ∷ 116 ∷ 104 ∷ 101 ∷ 114 ∷ 32 ∷ 114 ∷ 117 ∷ 110 ∷ 10 ∷ []

-- "one line a stretch"
unfoldable pub lines : List Stretch → Bool → List ℕ
lines [] same = run_line same
lines (s ∷ l) same = line s ++ lines l same

-- "01's .. refusal line"
abbrev pub printed : Compared → List ℕ
printed (refuses w x i) = refusal_line x i
printed (finds l same) = lines l same

-- "01's limits": plans "up to 32,768 bytes (a longer input is 11, place 0)"
unfoldable pub read_file : List ℕ → Read
read_file s = if ltb 32768 (length s) then refused 11 0 else read_compared s

unfoldable pub compared_files : List ℕ → List ℕ → Compared
compared_files old new = compared_below addresses (read_file old) (read_file new)

-- the text on standard output
unfoldable pub printed_for : List ℕ → List ℕ → List ℕ
printed_for old new = printed (compared_files old new)

-- the plan that standard error says is refused
abbrev pub refused_plan : Compared → Which
refused_plan (refuses w x i) = w
refused_plan (finds l same) = neither
