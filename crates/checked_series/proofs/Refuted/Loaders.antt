-- The claims are false of wrong loaders beside our check: what they leave of an image that is written by the rules is not the plan's effect.
use Rattle.std.specs.Prelude.{◌≡◌, refl, List, [], ◌∷◌, ◌++◌, ℕ, ◌+◌, ◌*◌, ◌≤◌, ◌<◌, get_or}
use Rattle.std.proofs.Common.{ap, arith}
use Rattle.words.specs.Four.{four_bytes}
use Rattle.words.proofs.BytesLaws.{all-bytes}
use Rattle.outcome.specs.Outcome as outcome
use Rattle.outcome.specs.Outcome.{thumb, stops}
use Rattle.memory_map.specs.Open as MapGroup
use Rattle.aplx.specs.Open as AplxGroup
use Rattle.plan.specs.Plan.{Piece, fill, run}
use Rattle.plan.specs.Meaning.{meaning}
use Rattle.plan.specs.Open as PlanGroup
use Rattle.aplx_image.specs.Carries.{Carries}
use Rattle.series.specs.Series.{Left, series}
use Rattle.series.specs.Medium.{aplx}
use Rattle.series.proofs.Refuted.Example.{example, find, finds, memory_with, Reads, Lies, in_memory, first_left}
use Rattle.series.proofs.Refuted.Twice.{Load, using_aplx, aplx_from, aplx-is, left_by}
use Rattle.series.proofs.Refuted.Later.{misnaming, run_itself, repeating, resume_in}
use Rattle.aplx_check.specs.Parts.{Part, SplitAll, parts}
use Rattle.aplx_check.specs.Written.{WrittenFor}
use Rattle.aplx_check.specs.Check.{accepted, check}
use Rattle.aplx_check.specs.Open as CheckGroup
use Rattle.checked_series.specs.Claims.{entry_of, effect_of, Claims}
use Rattle.checked_series.proofs.Refuted.Example.{once, granted}

-- ---- an image with a split fill
-- two fills, and a run behind each
unfoldable pub plan : List ℕ
plan = four_bytes 4 16 80 0 ++ (four_bytes 2 8192 64 1 ++ (four_bytes 3 8193 0 0 ++ (four_bytes 2 8256 32 2 ++ four_bytes 3 8197 0 0)))

abbrev pub ps : List Piece
ps = fill 8192 64 1 ∷ run 8193 ∷ fill 8256 32 2 ∷ run 8197 ∷ []

-- the first fill in two parts
unfoldable pub image : List ℕ
image =
    four_bytes 3 8192 32 1
    ++ (four_bytes 3 8224 32 1 ++ (four_bytes 4 8193 6 7 ++ (four_bytes 3 8256 32 2 ++ (four_bytes 4 8197 8 9 ++ four_bytes 0xffffffff 1 2 3))))

abbrev pub lengths : List (List ℕ)
lengths = (32 ∷ 32 ∷ []) ∷ [] ∷ (32 ∷ []) ∷ [] ∷ []

pub reads : Reads plan ps
unfolding plan CheckGroup.checker
reads = record { bytes = refl; read = refl }

is-accepted : check plan image ≡ accepted
unfolding plan image CheckGroup.checker
is-accepted = refl

part : (a l : ℕ) → a < 4294967296 → 32 ≤ l → Part a l 32
part a l low inside = record { some = omega arith; whole = refl; inside = inside; low = low }

pub is-split : SplitAll ps lengths
is-split =
    let first = part 8192 64 (omega arith) (omega arith) in
    let second = part 8224 32 (omega arith) (omega arith) in
    let third = part 8256 32 (omega arith) (omega arith) in
    ((first, (second, refl)), (refl, ((third, refl), (refl, tt))))

pub carries : Carries image 0 (parts ps lengths)
unfolding image CheckGroup.checker
carries = (
  record { whole = omega arith; command = refl; first = refl; second = refl; third = refl },
  (
    record { whole = omega arith; command = refl; first = refl; second = refl; third = refl },
    (
      record { second = 6; third = 7; entry = record { whole = omega arith; command = refl; first = refl; second = refl; third = refl } },
      (
        record { whole = omega arith; command = refl; first = refl; second = refl; third = refl },
        (
          record { second = 8; third = 9; entry = record { whole = omega arith; command = refl; first = refl; second = refl; third = refl } },
          record { first = 1; second = 2; third = 3; entry = record { whole = omega arith; command = refl; first = refl; second = refl; third = refl } },
        ),
      ),
    ),
  ),
)

abbrev pub written : WrittenFor plan image
written = record {
  pieces = ps;
  read = reads.read;
  written = record { lengths = lengths; split = is-split; entries = carries; behind = (tt, (tt, (tt, (tt, (tt, tt))))); few = omega arith };
}

-- ---- one load of it
-- from index i; index 2 loads from entry 3
abbrev pub load_left : (Load → Load) → ℕ → Left
load_left act i = left_by (act aplx_from (4096 + 16 * entry_of written i) (memory_with image))

lies : Lies (aplx 4096) ps image
unfolding find memory_with image CheckGroup.checker MapGroup.lookups
lies = in_memory refl refl refl (refl, (tt, (refl, (tt, tt))))

-- under the claims it leaves the plan's effect
one-load : (act : Load → Load) → Claims (using_aplx act) check → (i : ℕ) → i ≤ 4
    → let l = meaning find ps i (memory_with image) in
    load_left act i ≡ effect_of 4096 written i l.finish l.memory (load_left act i)
unfolding series
one-load act claims i most =
    let h = claims.sound plan image (all-bytes plan reads.bytes) is-accepted in
    rw (finds, aplx-is) at (ap first_left (h.same written 4096 example (memory_with image) (once i) (granted lies i most)))

-- ---- the loaders
-- it answers as ours, and stores nothing
abbrev pub idle : Load → Load
idle load o m = record { outcome = (load o m).outcome; memory = m }

pub record WrongLoaders : Type 0 where
  -- our own load from index 2: the second fill, and the second run, whose resume is the end entry
  pub ours-fills : get_or (load_left (λ load. load) 2).memory 192 0 ≡ 2
  pub ours-ends : (load_left (λ load. load) 2).ending ≡ stops (outcome.run thumb 8197 4176)
  -- refuted by the first byte
  pub idle-refuted : Claims (using_aplx idle) check → ⊥
  -- names the run itself as resume, in a load that does not start at the image's first entry
  pub resume-refuted : Claims (using_aplx (misnaming (run_itself 16) 4096)) check → ⊥
  -- does the first stretch once more before its own
  pub repeat-refuted : Claims (using_aplx (repeating 4096)) check → ⊥

pub wrong-loaders : WrongLoaders
unfolding image find example memory_with aplx_from CheckGroup.checker MapGroup.maps PlanGroup.meanings AplxGroup.load
wrong-loaders = record {
  ours-fills = refl;
  ours-ends = refl;
  idle-refuted = λ d.
      let z : ◌≡◌ {A = ℕ} 7 1 = ap (λ (l : Left). get_or l.memory 128 0) (one-load idle d 0 (omega arith)) in
      omega arith;
  resume-refuted = λ d.
      let z : ◌≡◌ {A = ℕ} 4160 4176 = ap (λ (l : Left). resume_in l.ending) (one-load (misnaming (run_itself 16) 4096) d 2 (omega arith)) in
      omega arith;
  repeat-refuted = λ d.
      let z : ◌≡◌ {A = ℕ} 1 7 = ap (λ (l : Left). get_or l.memory 128 0) (one-load (repeating 4096) d 2 (omega arith)) in
      omega arith;
}
