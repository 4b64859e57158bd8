-- Computed examples of what the code's answers say (paper 01, "Memory map", last paragraph), and of the bytes that a load stores.
use Rattle.std.specs.Prelude.{◌≡◌, refl, [], ◌∷◌, Ok, Err}
use Rattle.outcome.specs.declared.answer.Entry.TheVariants.{Arm, Thumb}
use Rattle.outcome.specs.declared.answer.Stop.TheVariants as CodeStop
use Rattle.outcome.specs.declared.refusal.Cause.TheVariants.{NotPermitted}
use Rattle.outcome.specs.Outcome as outcome
use Rattle.outcome.specs.Outcome.{outcome_of}
use Rattle.outcome.specs.Destinations.{stored_in}

record Answers : Type 0 where
  pub refusal : outcome_of (Err (record { cause = NotPermitted; place = 7 })) ≡ outcome.refused 4 7
  pub end : outcome_of (Ok (record { stop = CodeStop.End 40; taken = 1; stored = 32 })) ≡ outcome.accepted (outcome.end 40) 1 32
  pub unknown : outcome_of (Ok (record { stop = CodeStop.Unknown 9 2; taken = 2; stored = 64 })) ≡ outcome.accepted (outcome.unknown 9 2) 2 64
  pub arm : outcome_of (Ok (record { stop = CodeStop.Run (Arm 4160) 23; taken = 0; stored = 0 })) ≡ outcome.accepted (outcome.run outcome.arm 4160 23) 0 0
  pub thumb : outcome_of (Ok (record { stop = CodeStop.Run (Thumb 4161) 23; taken = 0; stored = 0 })) ≡ outcome.accepted (outcome.run outcome.thumb 4161 23) 0 0

answers : Answers
answers = record { refusal = refl; end = refl; unknown = refl; arm = refl; thumb = refl }

-- bytes stored
record Counts : Type 0 where
  pub nothing : stored_in [] ≡ 0
  -- the same 32 bytes twice, then 4 others
  pub twice : stored_in (record { address = 4096; length = 32 } ∷ record { address = 4096; length = 32 } ∷ record { address = 8192; length = 4 } ∷ []) ≡ 68

counts : Counts
unfolding stored_in
counts = record { nothing = refl; twice = refl }
