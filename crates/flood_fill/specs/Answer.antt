-- What a message is answered (paper 02, C-14), and what each case of the code's answer says in these terms.
use Rattle.std.specs.Prelude.{ℕ, Result, Ok, Err}
use Rattle.outcome.specs.declared.refusal.Refusal.{Refusal}
use Rattle.outcome.specs.Refusal.{number_of}
use Rattle.flood_fill.specs.declared.receiver.Progress.{Progress}
use Rattle.flood_fill.specs.declared.receiver.Progress.TheVariants.{Accepted, Ignored, Missing, Done}

pub data Answer : Type 0 where
  refused : ℕ → ℕ → Answer  -- number, place
  accepted : Answer  -- a Start began an image, a Block Start opened its block, a word was kept
  ignored : Answer
  missing : ℕ → ℕ → Answer  -- "the number missing and the lowest"
  done : Answer  -- the block is complete

abbrev pub progress_is : Progress → Answer
progress_is Accepted = accepted
progress_is Ignored = ignored
progress_is (Missing n l) = missing n l
progress_is Done = done

abbrev pub Answered : Type 0
Answered = Result Progress Refusal

abbrev pub answer_is : Answered → Answer
answer_is (Err r) = refused (number_of r.cause) r.place
answer_is (Ok p) = progress_is p
