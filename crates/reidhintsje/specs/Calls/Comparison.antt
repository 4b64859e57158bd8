-- Laws of the call that compares two plans: at most 512 stretches are found, and their bytes are 16 for each.
use Rattle.std.specs.Prelude.{◌≡◌, refl, List, ℕ, ◌*◌, ◌≤◌, length, Result}
use Rattle.std.proofs.Common.{ap, sym, ◌∙◌}
use Rattle.compare.specs.declared.compare.Found as CodeFound
use Rattle.compare.specs.declared.compare.Refused as CodeRefused
use Rattle.compare.specs.Code.{Outcome, outcome_of, stretch_count, outcome_is}
use Rattle.compare.proofs.CodeAnswers.{compared-most}
use Rattle.compare.specs.Compare.{Compared, refuses, finds, most_stretches, stretch_size, compared}
use Rattle.compare.proofs.CompareOutput.{length-stretch_bytes}
use Rattle.reidhintsje.specs.Calls.{found_bytes}

abbrev pub Few : Result CodeFound.Found CodeRefused.Refused → Type 0
Few r = stretch_count (outcome_is r) ≤ most_stretches

-- ---- the answer of a call
module _ (r : Result CodeFound.Found CodeRefused.Refused) (n : ℕ) (old new : List ℕ) (e : outcome_is r ≡ outcome_of (compared n old new)) where
  pub few : Few r
  few = rw e (compared-most n old new)

  pub bytes-found : stretch_size * stretch_count (outcome_is r) ≡ length (found_bytes (compared n old new))
  bytes-found = ap (λ (o : Outcome). stretch_size * stretch_count o) e ∙ go (compared n old new)
    where
      go : (c : Compared) → stretch_size * stretch_count (outcome_of c) ≡ length (found_bytes c)
      go (refuses w x i) = refl
      go (finds l same) = sym (length-stretch_bytes l)
