-- What each call of the library gives: the definitions of the loaders, the answerer, the readers, the packers and the flood-fill receiver,
-- with the map of a table and with numbers for what is no number.
pub mod Comparison
use Rattle.std.specs.Prelude.{Bool, true, false, List, [], ℕ, ◌%◌, eqb, length, get_or, if◌then◌else◌}
use Rattle.outcome.specs.Outcome.{Loaded}
use Rattle.memory_map.specs.Map.{Verdict, taken, refused, sound}
use Rattle.srom.specs.Load.{srom_load}
use Rattle.aplx.specs.Load.{aplx_load}
use Rattle.scp.specs.declared.answer.Identity.{Identity}
use Rattle.scp.specs.Answer.{Answered, scp_answer}
use Rattle.plan.specs.Plan.{Piece, Read, read_plan}
use Rattle.plan.specs.Code as read
use Rattle.plan.specs.Packed as packed
use Rattle.plan.specs.Packed.{Packed, output_after, written_length}
use Rattle.srom_pack.specs.Image.{srom_image, pack_srom}
use Rattle.aplx_pack.specs.Image.{aplx_image, pack_aplx}
use Rattle.aplx_share.specs.SharedImage.{shared_image, pack_shared}
use Rattle.aplx_read.specs.PlanBytes.{plan_bytes}
use Rattle.aplx_read.specs.ReadBack.{read_image, read_back}
use Rattle.aplx_check.specs.Check.{check}
use Rattle.compare.specs.Code as comparison
use Rattle.compare.specs.Compare as compare
use Rattle.compare.specs.Compare.{Compared, refuses, finds, stretch_bytes, compared}
use Rattle.map_table.specs.Table.{map_of}
use Rattle.flood_fill.specs.declared.message.Message.{Message}
use Rattle.receiver_bytes.specs.Receiver.{Left, receive_bytes}
use Rattle.outcome_numbers.specs.Numbers.{load_numbers, reply_numbers, read_numbers, pack_numbers, message_numbers, compared_numbers, checked_numbers}

-- ---- the map
-- an addition: 0 where it is taken, else the refusal's number
abbrev pub verdict_number : Verdict → ℕ
verdict_number taken = 0
verdict_number (refused n p) = n

-- 0 where it is sound for a memory of n bytes, else the refusal's number
abbrev pub sound_number : Bool → ℕ
sound_number true = 0
sound_number false = 1

abbrev pub sound_call : List ℕ → ℕ → ℕ
sound_call map n = sound_number (sound (map_of map) n)

-- ---- the loaders: the numbers of the outcome, and the memory afterwards
pub record Loading : Type 0 where
  pub numbers : List ℕ
  pub memory : List ℕ

abbrev pub loading : Loaded → Loading
loading l = record { numbers = load_numbers l.outcome; memory = l.memory }

abbrev pub srom_call : List ℕ → List ℕ → ℕ → List ℕ → Loading
srom_call map rom offset memory = loading (srom_load (map_of map) rom offset memory)

abbrev pub aplx_call : List ℕ → List ℕ → ℕ → Loading
aplx_call map memory header = loading (aplx_load (map_of map) memory header)

-- ---- the answerer
-- five numbers; of each as many bits count as its field has
abbrev pub identity_of : List ℕ → Identity
identity_of l =
    record {
      point_to_point = get_or l 0 0 % 65536;
      physical_cpu = get_or l 1 0 % 256;
      virtual_cpu = get_or l 2 0 % 256;
      version = get_or l 3 0 % 65536;
      date = get_or l 4 0;
    }

-- the numbers of the outcome, and the memory and the output afterwards
pub record Answering : Type 0 where
  pub numbers : List ℕ
  pub memory : List ℕ
  pub output : List ℕ

abbrev pub answering : Answered → Answering
answering a = record { numbers = reply_numbers a.reply; memory = a.memory; output = a.output }

abbrev pub scp_call : List ℕ → List ℕ → List ℕ → List ℕ → List ℕ → Answering
scp_call map identity packet memory output = answering (scp_answer (map_of map) (identity_of identity) packet memory output)

-- ---- plans
-- the unit of a target: 0 APLX, 1 SROM, any other number tests no length
unfoldable pub unit_at : ℕ → ℕ
unit_at t = if eqb t 0 then 32 else if eqb t 1 then 4 else 1

abbrev pub read_call : List ℕ → ℕ → List ℕ
read_call plan target = read_numbers (read.outcome_of (read_plan (unit_at target) plan))

-- the numbers of the outcome, and the output afterwards
pub record Packing : Type 0 where
  pub numbers : List ℕ
  pub output : List ℕ

-- the pieces as they were read, written as these bytes into this output
abbrev pub packing : (List Piece → List ℕ) → Read → Packed → List ℕ → Packing
packing bytes r p output = record { numbers = pack_numbers (written_length bytes r) (packed.outcome_of p); output = output_after p output }

abbrev pub srom_pack_call : List ℕ → List ℕ → Packing
srom_pack_call plan output = packing srom_image (read_plan 4 plan) (pack_srom plan (length output)) output

abbrev pub aplx_pack_call : List ℕ → List ℕ → Packing
aplx_pack_call plan output = packing aplx_image (read_plan 32 plan) (pack_aplx plan (length output)) output

-- with one copy of equal put data
abbrev pub aplx_shared_pack_call : List ℕ → List ℕ → Packing
aplx_shared_pack_call plan output = packing shared_image (read_plan 32 plan) (pack_shared plan (length output)) output

-- an image read back: the plan is what is written
abbrev pub aplx_read_call : List ℕ → List ℕ → Packing
aplx_read_call image output = packing plan_bytes (read_image image) (read_back image (length output)) output

-- ---- an image checked against a plan
abbrev pub aplx_check_call : List ℕ → List ℕ → List ℕ
aplx_check_call plan image = checked_numbers (check plan image)

-- ---- plans compared
-- the bytes of the stretches that were found
abbrev pub found_bytes : Compared → List ℕ
found_bytes (refuses w n p) = []
found_bytes (finds l same) = stretch_bytes l

abbrev pub comparing : Compared → List ℕ → Packing
comparing c output =
    record { numbers = compared_numbers (length (found_bytes c)) (comparison.outcome_of c); output = compare.output_after c output }

abbrev pub compare_call : List ℕ → List ℕ → List ℕ → Packing
compare_call old new output = comparing (compared (length output) old new) output

-- ---- flood fill: the numbers of the outcome, and the receiver and the image afterwards
pub record Receiving : Type 0 where
  pub numbers : List ℕ
  pub receiver : List ℕ
  pub image : List ℕ

abbrev pub receiving : Left → Receiving
receiving x = record { numbers = message_numbers x.answer; receiver = x.bytes; image = x.image }

abbrev pub message_call : List ℕ → List ℕ → Message → Receiving
message_call receiver image m = receiving (receive_bytes receiver image m)
