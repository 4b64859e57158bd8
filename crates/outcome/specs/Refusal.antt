-- The numbers of refusals (paper 01, "Refusal numbers", with those of the later requests).
use Rattle.std.specs.Prelude.{ℕ}
use Rattle.outcome.specs.declared.refusal.Cause.{Cause}
use Rattle.outcome.specs.declared.refusal.Cause.TheVariants.{MapNotSound, CutShort, NotAligned, NotPermitted, ZeroLength, EntryNotReadable, NoStop, MeetsHeader, RunNotLegal, OutputTooSmall, PlanMalformed, LengthNotExpressible, SromTooLong, TooManyStretches, PastLastAddress, NoPiece, TooManyPieces, LengthNotPackable, DataOutside, ImageTooShort, OutsideLimits, NoStart, NoSuchBlock, WrongSize, NotOpen, NotAsPlanned}

abbrev pub number_of : Cause → ℕ
number_of MapNotSound = 1
number_of CutShort = 2
number_of NotAligned = 3
number_of NotPermitted = 4
number_of ZeroLength = 5
number_of EntryNotReadable = 6
number_of NoStop = 7
number_of MeetsHeader = 8
number_of RunNotLegal = 9
number_of OutputTooSmall = 10
number_of PlanMalformed = 11
number_of LengthNotExpressible = 12
number_of SromTooLong = 13
number_of TooManyStretches = 18
number_of PastLastAddress = 19
number_of NoPiece = 20
number_of TooManyPieces = 21
number_of LengthNotPackable = 22
number_of DataOutside = 23
number_of ImageTooShort = 24
number_of OutsideLimits = 25
number_of NoStart = 26
number_of NoSuchBlock = 27
number_of WrongSize = 28
number_of NotOpen = 29
number_of NotAsPlanned = 30
