-- What a program shows of what was packed or read back: its bytes, or the line of a refusal.
use Rattle.std.specs.Prelude.{List, ℕ, length}
use Rattle.words.specs.Store.{store}
use Rattle.plan.specs.Packed.{Packed, refuses, packs, Outcome, refusal, sized}
use Rattle.text.specs.Refusal.{refusal_line, fitting}

-- the image or the plan, or "only the line `refused N at P` and a newline"
abbrev pub shown : Packed → List ℕ
shown (refuses x p) = refusal_line x p
shown (packs bytes) = bytes

-- the part of a program that writes the line: what was answered before, and an output as it was left then. How many bytes are shown
abbrev pub size_after : Outcome → List ℕ → ℕ
size_after (refusal x p) left = length (fitting (refusal_line x p) (length left))
size_after (sized size) left = size

-- and the output with the line
abbrev pub line_after : Outcome → List ℕ → List ℕ
line_after (refusal x p) left = store left 0 (fitting (refusal_line x p) (length left))
line_after (sized size) left = left
