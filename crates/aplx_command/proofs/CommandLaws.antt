-- Laws of entries: what stands at the same bytes says the same.
use Rattle.std.specs.Prelude.{◌≡◌, ℕ, ◌+◌, ◌≤◌, List, take, drop}
use Rattle.std.proofs.Common.{ap, sym, ◌∙◌, arith}
use Rattle.words.specs.Bytes.{little_endian_at}
use Rattle.words.proofs.BytesLaws.{little-at-part}
use Rattle.aplx_command.specs.Command.{command_at}

-- an entry whose words are the same says the same
pub same-entry :
    (s t : List ℕ) (p a : ℕ) → ((q : ℕ) → p ≤ q → q + 4 ≤ p + 16 → take 4 (drop q s) ≡ take 4 (drop q t)) → command_at s p a ≡ command_at t p a
unfolding command_at
same-entry s t p a e =
    rw
    (word p (omega arith) (omega arith), word (p + 4) (omega arith) (omega arith), word (p + 8) (omega arith) (omega arith), word (p + 12) (omega arith) (omega arith))
  where
    word : (q : ℕ) → p ≤ q → q + 4 ≤ p + 16 → little_endian_at 4 s q ≡ little_endian_at 4 t q
    word q x y =
        sym (little-at-part 4 q 4 s (omega arith)) ∙ ap (λ (l : List ℕ). little_endian_at 4 l 0) (e q x y) ∙ little-at-part 4 q 4 t (omega arith)
