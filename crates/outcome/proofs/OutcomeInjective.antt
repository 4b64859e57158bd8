-- An answer of the code can be read back from what it says. So two that say the same are the same, and an equation of what an answer says
-- decides it.
use Rattle.std.specs.Prelude.{◌≡◌, refl, ℕ, [], ◌∷◌, get_or, Result, Ok, Err}
use Rattle.std.proofs.Common.{sym, ◌∙◌, ap}
use Rattle.outcome.specs.declared.refusal.Cause.{Cause}
use Rattle.outcome.specs.declared.refusal.Cause.TheVariants.{MapNotSound, CutShort, NotAligned, NotPermitted, ZeroLength, EntryNotReadable, NoStop, MeetsHeader, RunNotLegal, OutputTooSmall, PlanMalformed, LengthNotExpressible, SromTooLong, TooManyStretches, PastLastAddress, NoPiece, TooManyPieces, LengthNotPackable, DataOutside, ImageTooShort, OutsideLimits, NoStart, NoSuchBlock, WrongSize, NotOpen, NotAsPlanned}
use Rattle.outcome.specs.declared.refusal.Refusal.{Refusal}
use Rattle.outcome.specs.declared.answer.Entry.{Entry}
use Rattle.outcome.specs.declared.answer.Entry.TheVariants.{Arm, Thumb}
use Rattle.outcome.specs.declared.answer.Stop as CodeStop
use Rattle.outcome.specs.declared.answer.Stop.TheVariants.{End, Unknown, Run}
use Rattle.outcome.specs.declared.answer.Load.{Load}
use Rattle.outcome.specs.Refusal.{number_of}
use Rattle.outcome.specs.Outcome.{Kind, arm, thumb, Stop, end, unknown, run, Outcome, refused, accepted, kind_of, address_of, stop_of, outcome_of}

pub back-injective : {A B : Type 0} (says : A → B) (back : B → A) → ((x : A) → back (says x) ≡ x) → (x y : A) → says x ≡ says y → x ≡ y
back-injective says back is x y e = sym (is x) ∙ ap back e ∙ is y

-- ---- causes, by their numbers
abbrev pub cause_back : ℕ → Cause
cause_back n = get_or (MapNotSound ∷ MapNotSound ∷ CutShort ∷ NotAligned ∷ NotPermitted ∷ ZeroLength ∷ EntryNotReadable ∷ NoStop ∷ MeetsHeader ∷ RunNotLegal ∷ OutputTooSmall ∷ PlanMalformed ∷ LengthNotExpressible ∷ SromTooLong ∷ MapNotSound ∷ MapNotSound ∷ MapNotSound ∷ MapNotSound ∷ TooManyStretches ∷ PastLastAddress ∷ NoPiece ∷ TooManyPieces ∷ LengthNotPackable ∷ DataOutside ∷ ImageTooShort ∷ OutsideLimits ∷ NoStart ∷ NoSuchBlock ∷ WrongSize ∷ NotOpen ∷ NotAsPlanned ∷ []) n MapNotSound

pub cause-back : (x : Cause) → cause_back (number_of x) ≡ x
cause-back MapNotSound = refl
cause-back CutShort = refl
cause-back NotAligned = refl
cause-back NotPermitted = refl
cause-back ZeroLength = refl
cause-back EntryNotReadable = refl
cause-back NoStop = refl
cause-back MeetsHeader = refl
cause-back RunNotLegal = refl
cause-back OutputTooSmall = refl
cause-back PlanMalformed = refl
cause-back LengthNotExpressible = refl
cause-back SromTooLong = refl
cause-back TooManyStretches = refl
cause-back PastLastAddress = refl
cause-back NoPiece = refl
cause-back TooManyPieces = refl
cause-back LengthNotPackable = refl
cause-back DataOutside = refl
cause-back ImageTooShort = refl
cause-back OutsideLimits = refl
cause-back NoStart = refl
cause-back NoSuchBlock = refl
cause-back WrongSize = refl
cause-back NotOpen = refl
cause-back NotAsPlanned = refl

pub cause-injective : (x y : Cause) → number_of x ≡ number_of y → x ≡ y
cause-injective = back-injective number_of cause_back cause-back

-- ---- refusals and entries, of two parts each
abbrev pub refusal_back : ℕ → ℕ → Refusal
refusal_back n p = record { cause = cause_back n; place = p }

pub refusal-back : (x : Refusal) → refusal_back (number_of x.cause) x.place ≡ x
refusal-back x = ap (λ (c : Cause). record { cause = c; place = x.place }) (cause-back x.cause)

abbrev pub entry_back : Kind → ℕ → Entry
entry_back arm a = Arm a
entry_back thumb a = Thumb a

pub entry-back : (x : Entry) → entry_back (kind_of x) (address_of x) ≡ x
entry-back (Arm a) = refl
entry-back (Thumb a) = refl

pub entry-injective : (x y : Entry) → kind_of x ≡ kind_of y → address_of x ≡ address_of y → x ≡ y
entry-injective x y e f = sym (entry-back x) ∙ (λ i. entry_back (e i) (f i)) ∙ entry-back y

-- ---- stops and answers
abbrev pub stop_back : Stop → CodeStop.Stop
stop_back (end p) = End p
stop_back (unknown c p) = Unknown c p
stop_back (run k a r) = Run (entry_back k a) r

pub stop-back : (x : CodeStop.Stop) → stop_back (stop_of x) ≡ x
stop-back (End p) = refl
stop-back (Unknown c p) = refl
stop-back (Run e r) = ap (λ (x : Entry). Run x r) (entry-back e)

pub stop-injective : (x y : CodeStop.Stop) → stop_of x ≡ stop_of y → x ≡ y
stop-injective = back-injective stop_of stop_back stop-back

abbrev outcome_back : Outcome → Result Load Refusal
outcome_back (refused n p) = Err (refusal_back n p)
outcome_back (accepted s t b) = Ok (record { stop = stop_back s; taken = t; stored = b })

outcome-back : (x : Result Load Refusal) → outcome_back (outcome_of x) ≡ x
outcome-back (Err r) = ap (λ (x : Refusal). Err x) (refusal-back r)
outcome-back (Ok l) = ap (λ (x : CodeStop.Stop). Ok (record { stop = x; taken = l.taken; stored = l.stored })) (stop-back l.stop)

pub outcome-injective : (x y : Result Load Refusal) → outcome_of x ≡ outcome_of y → x ≡ y
outcome-injective = back-injective outcome_of outcome_back outcome-back
