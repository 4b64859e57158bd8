-- The numbers decide the outcome: two outcomes of one call with the same eight numbers are the same. Each is given back by its numbers.
use Rattle.std.specs.Prelude.{◌≡◌, refl, true, false, List, ℕ, eqb, get_or, if◌then◌else◌}
use Rattle.std.proofs.Common.{sym, ap, ◌∙◌}
use Rattle.outcome.specs.Outcome as load
use Rattle.outcome.specs.Outcome.{Kind, arm, thumb, end, unknown, run}
use Rattle.plan.specs.Code as read
use Rattle.plan.specs.Packed as packed
use Rattle.scp.specs.Answer as scp
use Rattle.flood_fill.specs.Answer as flood
use Rattle.compare.specs.Code as compare
use Rattle.aplx_check.specs.Check as check
use Rattle.compare.specs.Compare.{Which, neither, old_plan, new_plan}
use Rattle.outcome_numbers.specs.Numbers.{END, UNKNOWN, RUN, START, RESPONSE, SILENT, READ, PACKED, ACCEPTED, IGNORED, MISSING, DONE, SAME_RUN, OTHER_RUN, CHECKED, load_numbers, reply_numbers, read_numbers, pack_numbers, message_numbers, compared_numbers, checked_numbers}

-- ---- the numbers by name
module _ (l : List ℕ) where
  abbrev refusal : ℕ
  refusal = get_or l 0 0

  abbrev place : ℕ
  place = get_or l 1 0

  abbrev event : ℕ
  event = get_or l 2 0

  abbrev kind : Kind
  kind = if eqb (get_or l 3 0) 1 then arm else thumb

  abbrev which : Which
  which = if eqb (get_or l 3 0) 1 then old_plan else if eqb (get_or l 3 0) 2 then new_plan else neither

  abbrev address : ℕ
  address = get_or l 4 0

  abbrev resume : ℕ
  resume = get_or l 5 0

  abbrev items : ℕ
  items = get_or l 6 0

  abbrev bytes : ℕ
  bytes = get_or l 7 0

-- ---- loads
abbrev load_of : List ℕ → load.Outcome
load_of l =
    if eqb (event l) END then load.accepted (end (place l)) (items l) (bytes l)
    else if eqb (event l) UNKNOWN then load.accepted (unknown (address l) (place l)) (items l) (bytes l)
    else if eqb (event l) RUN then load.accepted (run (kind l) (address l) (resume l)) (items l) (bytes l)
    else load.refused (refusal l) (place l)

load-back : (x : load.Outcome) → load_of (load_numbers x) ≡ x
load-back (load.refused n p) = refl
load-back (load.accepted (end p) t b) = refl
load-back (load.accepted (unknown c p) t b) = refl
load-back (load.accepted (run arm a r) t b) = refl
load-back (load.accepted (run thumb a r) t b) = refl

pub load-injective : (x y : load.Outcome) → load_numbers x ≡ load_numbers y → x ≡ y
load-injective x y e = sym (load-back x) ∙ ap load_of e ∙ load-back y

-- ---- packets
abbrev reply_of : List ℕ → scp.Reply
reply_of l =
    if eqb (event l) SILENT then scp.silent
    else if eqb (event l) RESPONSE then scp.responds (bytes l)
    else if eqb (event l) START then scp.runs (kind l) (address l)
    else if eqb (event l) RUN then scp.loads (kind l) (address l) (resume l)
    else scp.refused (refusal l) (place l)

reply-back : (x : scp.Reply) → reply_of (reply_numbers x) ≡ x
reply-back (scp.refused n p) = refl
reply-back scp.silent = refl
reply-back (scp.responds n) = refl
reply-back (scp.runs arm a) = refl
reply-back (scp.runs thumb a) = refl
reply-back (scp.loads arm a r) = refl
reply-back (scp.loads thumb a r) = refl

pub reply-injective : (x y : scp.Reply) → reply_numbers x ≡ reply_numbers y → x ≡ y
reply-injective x y e = sym (reply-back x) ∙ ap reply_of e ∙ reply-back y

-- ---- plans
-- what the caller of the reader is told: the sums of the lengths are for the packers
abbrev pub told_of : read.Outcome → read.Outcome
told_of (read.refuses n p) = read.refuses n p
told_of (read.reads k p f) = read.reads k 0 0

abbrev read_of : List ℕ → read.Outcome
read_of l =
    if eqb (event l) READ then read.reads (items l) 0 0
    else read.refuses (refusal l) (place l)

read_back : (x : read.Outcome) → read_of (read_numbers x) ≡ told_of x
read_back (read.refuses n p) = refl
read_back (read.reads k p f) = refl

pub read-injective : (x y : read.Outcome) → read_numbers x ≡ read_numbers y → told_of x ≡ told_of y
read-injective x y e = sym (read_back x) ∙ ap read_of e ∙ read_back y

abbrev packed_of : List ℕ → packed.Outcome
packed_of l =
    if eqb (event l) PACKED then packed.sized (bytes l)
    else packed.refusal (refusal l) (place l)

packed-back : (k : ℕ) (x : packed.Outcome) → packed_of (pack_numbers k x) ≡ x
packed-back k (packed.refusal n p) = refl
packed-back k (packed.sized n) = refl

-- whatever length the image of each plan has
pub packed-injective : (k m : ℕ) (x y : packed.Outcome) → pack_numbers k x ≡ pack_numbers m y → x ≡ y
packed-injective k m x y e = sym (packed-back k x) ∙ ap packed_of e ∙ packed-back m y

-- ---- flood-fill messages
abbrev message_of : List ℕ → flood.Answer
message_of l =
    if eqb (event l) ACCEPTED then flood.accepted
    else if eqb (event l) IGNORED then flood.ignored
    else if eqb (event l) MISSING then flood.missing (items l) (place l)
    else if eqb (event l) DONE then flood.done
    else flood.refused (refusal l) (place l)

message-back : (x : flood.Answer) → message_of (message_numbers x) ≡ x
message-back (flood.refused n p) = refl
message-back flood.accepted = refl
message-back flood.ignored = refl
message-back (flood.missing n l) = refl
message-back flood.done = refl

pub message-injective : (x y : flood.Answer) → message_numbers x ≡ message_numbers y → x ≡ y
message-injective x y e = sym (message-back x) ∙ ap message_of e ∙ message-back y

-- ---- plans compared
abbrev compared_of : List ℕ → compare.Outcome
compared_of l =
    if eqb (event l) SAME_RUN then compare.found (items l) true
    else if eqb (event l) OTHER_RUN then compare.found (items l) false
    else compare.refusal (which l) (refusal l) (place l)

compared-back : (b : ℕ) (x : compare.Outcome) → compared_of (compared_numbers b x) ≡ x
compared-back b (compare.refusal neither n p) = refl
compared-back b (compare.refusal old_plan n p) = refl
compared-back b (compare.refusal new_plan n p) = refl
compared-back b (compare.found k true) = refl
compared-back b (compare.found k false) = refl

-- whatever bytes the stretches of each have
pub compared-injective : (b c : ℕ) (x y : compare.Outcome) → compared_numbers b x ≡ compared_numbers c y → x ≡ y
compared-injective b c x y e = sym (compared-back b x) ∙ ap compared_of e ∙ compared-back c y

-- ---- an image checked against a plan
abbrev checked_of : List ℕ → check.Checked
checked_of l =
    if eqb (event l) CHECKED then check.accepted
    else check.refuses (refusal l) (place l)

checked-back : (x : check.Checked) → checked_of (checked_numbers x) ≡ x
checked-back (check.refuses n p) = refl
checked-back check.accepted = refl

pub checked-injective : (x y : check.Checked) → checked_numbers x ≡ checked_numbers y → x ≡ y
checked-injective x y e = sym (checked-back x) ∙ ap checked_of e ∙ checked-back y
