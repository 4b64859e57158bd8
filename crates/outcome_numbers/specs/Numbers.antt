-- Outcomes as eight numbers, for a caller that takes no enum: one layout for every call. What a case does not name is 0.
pub mod Laws
use Rattle.std.specs.Prelude.{Bool, true, false, List, [], ◌∷◌, ℕ, ◌*◌, eqb, get_or, if◌then◌else◌}
use Rattle.outcome.specs.Outcome as load
use Rattle.outcome.specs.Outcome.{Kind, arm, thumb, end, unknown, run}
use Rattle.plan.specs.Code as read
use Rattle.plan.specs.Packed as packed
use Rattle.scp.specs.Answer as scp
use Rattle.flood_fill.specs.Answer as flood
use Rattle.compare.specs.Code as compare
use Rattle.aplx_check.specs.Check as check
use Rattle.compare.specs.Compare.{Which, neither, old_plan, new_plan, most_stretches, stretch_size}
use Rattle.outcome_numbers.specs.declared.numbers.Event.{Event}
use Rattle.outcome_numbers.specs.declared.numbers.Event.TheVariants as happened
use Rattle.outcome_numbers.specs.declared.numbers.Parts.{Parts}

-- ---- the layout
-- the eight numbers, from their parts
abbrev pub numbers : Parts → List ℕ
numbers x = x.refusal ∷ x.place ∷ x.event ∷ x.kind ∷ x.address ∷ x.resume ∷ x.items ∷ x.bytes ∷ []

-- the first number, which is what the call returns: the number of the refusal, or 0
abbrev pub first : List ℕ → ℕ
first l = get_or l 0 0

-- what happened: nothing was changed
abbrev pub REFUSED : ℕ
REFUSED = 0

-- a load came to its end
abbrev pub END : ℕ
END = 1

-- a load stopped at an unknown command word
abbrev pub UNKNOWN : ℕ
UNKNOWN = 2

-- a load, also one that a packet asked for, stopped at a run, and has where the next load goes on
abbrev pub RUN : ℕ
RUN = 3

-- a packet asks for a run; there is no resume
abbrev pub START : ℕ
START = 4

-- a packet was answered
abbrev pub RESPONSE : ℕ
RESPONSE = 5

-- a packet gets no response, and nothing was done
abbrev pub SILENT : ℕ
SILENT = 6

-- a plan was read
abbrev pub READ : ℕ
READ = 7

-- a plan was packed
abbrev pub PACKED : ℕ
PACKED = 8

-- a flood-fill message was done
abbrev pub ACCEPTED : ℕ
ACCEPTED = 9

-- a flood-fill message changed nothing, and that is no error
abbrev pub IGNORED : ℕ
IGNORED = 10

-- a block lacks words
abbrev pub MISSING : ℕ
MISSING = 11

-- a block is complete
abbrev pub DONE : ℕ
DONE = 12

-- two plans were compared, and their runs are the same
abbrev pub SAME_RUN : ℕ
SAME_RUN = 13

-- two plans were compared, and their runs are not the same
abbrev pub OTHER_RUN : ℕ
OTHER_RUN = 14

-- an image was checked against a plan, and is accepted
abbrev pub CHECKED : ℕ
CHECKED = 15

abbrev pub event_number : Event → ℕ
event_number happened.Refused = REFUSED
event_number happened.End = END
event_number happened.Unknown = UNKNOWN
event_number happened.Run = RUN
event_number happened.Start = START
event_number happened.Response = RESPONSE
event_number happened.Silent = SILENT
event_number happened.Read = READ
event_number happened.Packed = PACKED
event_number happened.Accepted = ACCEPTED
event_number happened.Ignored = IGNORED
event_number happened.Missing = MISSING
event_number happened.Done = DONE
event_number happened.SameRun = SAME_RUN
event_number happened.OtherRun = OTHER_RUN
event_number happened.Checked = CHECKED

-- the kind of a run: 0 where there is none, 1 ARM, 2 Thumb
abbrev pub kind_number : Kind → ℕ
kind_number arm = 1
kind_number thumb = 2

-- ---- what calls share
-- a refusal: its number and its place; of an output that is too small also the bytes that were needed
abbrev pub refused_parts : ℕ → ℕ → ℕ → Parts
refused_parts n p b = record { refusal = n; place = p; event = REFUSED; kind = 0; address = 0; resume = 0; items = 0; bytes = b }

-- the bytes needed that a refusal tells: k for an output too small for k bytes, which is refusal 10
abbrev pub needed : ℕ → ℕ → ℕ
needed n k = if eqb n 10 then k else 0

-- a run, with the items taken and the bytes stored before it
abbrev pub run_parts : ℕ → Kind → ℕ → ℕ → ℕ → ℕ → Parts
run_parts e k a r t b =
    record { refusal = 0; place = 0; event = e; kind = kind_number k; address = a; resume = r; items = t; bytes = b }

-- an event with a count of items or of bytes, or with neither
abbrev pub count_parts : ℕ → ℕ → ℕ → Parts
count_parts e t b = record { refusal = 0; place = 0; event = e; kind = 0; address = 0; resume = 0; items = t; bytes = b }

-- ---- loads: where it stopped, the entries or blocks before the stop, and the bytes stored
abbrev pub load_parts : load.Outcome → Parts
load_parts (load.refused n p) = refused_parts n p 0
load_parts (load.accepted (end p) t b) =
    record { refusal = 0; place = p; event = END; kind = 0; address = 0; resume = 0; items = t; bytes = b }
load_parts (load.accepted (unknown c p) t b) =
    record { refusal = 0; place = p; event = UNKNOWN; kind = 0; address = c; resume = 0; items = t; bytes = b }
load_parts (load.accepted (run k a r) t b) = run_parts RUN k a r t b

abbrev pub load_numbers : load.Outcome → List ℕ
load_numbers x = numbers (load_parts x)

-- ---- packets: the response's length, or the run. The output has to hold 272 bytes
abbrev pub reply_parts : scp.Reply → Parts
reply_parts (scp.refused n p) = refused_parts n p (needed n 272)
reply_parts scp.silent = count_parts SILENT 0 0
reply_parts (scp.responds n) = count_parts RESPONSE 0 n
reply_parts (scp.runs k a) = run_parts START k a 0 0 0
reply_parts (scp.loads k a r) = run_parts RUN k a r 0 0

abbrev pub reply_numbers : scp.Reply → List ℕ
reply_numbers x = numbers (reply_parts x)

-- ---- plans: the count of pieces, or the length of the image. k is the length that the image of the plan has
abbrev pub read_parts : read.Outcome → Parts
read_parts (read.refuses n p) = refused_parts n p 0
read_parts (read.reads k p f) = count_parts READ k 0

abbrev pub read_numbers : read.Outcome → List ℕ
read_numbers x = numbers (read_parts x)

abbrev pub packed_parts : ℕ → packed.Outcome → Parts
packed_parts k (packed.refusal n p) = refused_parts n p (needed n k)
packed_parts k (packed.sized n) = count_parts PACKED 0 n

abbrev pub pack_numbers : ℕ → packed.Outcome → List ℕ
pack_numbers k x = numbers (packed_parts k x)

-- ---- flood-fill messages: of a block that lacks words how many, and the lowest
abbrev pub message_parts : flood.Answer → Parts
message_parts (flood.refused n p) = refused_parts n p 0
message_parts flood.accepted = count_parts ACCEPTED 0 0
message_parts flood.ignored = count_parts IGNORED 0 0
message_parts (flood.missing n l) =
    record { refusal = 0; place = l; event = MISSING; kind = 0; address = 0; resume = 0; items = n; bytes = 0 }
message_parts flood.done = count_parts DONE 0 0

abbrev pub message_numbers : flood.Answer → List ℕ
message_numbers x = numbers (message_parts x)

-- ---- plans compared: the number of stretches, whose bytes are b in all; of a refusal the plan that it is about: 0 neither, 1 the old one,
-- 2 the new one. The output has to hold 512 stretches
abbrev pub which_number : Which → ℕ
which_number neither = 0
which_number old_plan = 1
which_number new_plan = 2

abbrev pub run_event : Bool → ℕ
run_event true = SAME_RUN
run_event false = OTHER_RUN

abbrev pub compared_parts : ℕ → compare.Outcome → Parts
compared_parts b (compare.refusal w n p) =
    record {
      refusal = n;
      place = p;
      event = REFUSED;
      kind = which_number w;
      address = 0;
      resume = 0;
      items = 0;
      bytes = needed n (stretch_size * most_stretches);
    }
compared_parts b (compare.found k same) = count_parts (run_event same) k b

abbrev pub compared_numbers : ℕ → compare.Outcome → List ℕ
compared_numbers b x = numbers (compared_parts b x)

-- ---- an image checked against a plan
abbrev pub checked_parts : check.Checked → Parts
checked_parts (check.refuses n p) = refused_parts n p 0
checked_parts check.accepted = count_parts CHECKED 0 0

abbrev pub checked_numbers : check.Checked → List ℕ
checked_numbers x = numbers (checked_parts x)
