-- What the claims say of a checker, and of one load in the small setting in which demand 3 is put to the test.
use Rattle.std.specs.Prelude.{◌≡◌, refl, List, [], ◌∷◌, ℕ, ◌≤◌, length, get_or}
use Rattle.std.proofs.Common.{ap, sym, ◌∙◌, arith}
use Rattle.words.specs.Bytes.{Bytes}
use Rattle.words.proofs.BytesLaws.{all-bytes}
use Rattle.memory_map.specs.Lookup.{lookup}
use Rattle.plan.specs.Plan.{Piece}
use Rattle.plan.specs.Meaning.{Finish, ends, runs, denies, Stopped, meaning}
use Rattle.series.specs.Series.{Step, Left, series}
use Rattle.series.specs.Medium.{aplx}
use Rattle.series.specs.Software.{Software}
use Rattle.series.specs.Demand.{Granted}
use Rattle.series.proofs.Refuted.Example.{example, example-sound, find, finds, memory_with, Reads, Lies, first_left}
use Rattle.series.proofs.Refuted.Twice.{Load, using_aplx, aplx_from, aplx-is}
use Rattle.aplx_check.specs.Written.{WrittenFor}
use Rattle.aplx_check.specs.Check.{accepted, refuses, check}
use Rattle.aplx_check.proofs.CheckExact.{refused-no-accepted, accepted-written, written-accepted}
use Rattle.checked_series.specs.Claims.{Checker, effect_of, Claims}

-- ---- by the rules
module _ {s : Software} (c : Checker) (plan image : List ℕ) {n i : ℕ} (bytes : Bytes plan) where
  -- a checker that accepts what ours refuses
  pub accepts-refused : c plan image ≡ accepted → check plan image ≡ refuses n i → Claims s c → ⊥
  accepts-refused e f claims = refused-no-accepted (sym f ∙ written-accepted plan image bytes (claims.sound plan image bytes e).written)

  -- one that refuses what ours accepts
  pub refuses-accepted : c plan image ≡ refuses n i → check plan image ≡ accepted → Claims s c → ⊥
  refuses-accepted e f claims = refused-no-accepted (sym e ∙ claims.complete plan image bytes (accepted-written plan image f))

-- ---- by the first load of an image at address 4096
abbrev pub once : ℕ → List Step
once i = record { index = i; changes = [] } ∷ []

pub granted : {ps : List Piece} {image : List ℕ} → Lies (aplx 4096) ps image → (i : ℕ) → i ≤ length ps
    → Granted (aplx 4096) example ps image (memory_with image) (once i)
granted lies i h = record { sound-map = rw lies.sized example-sound; intact = lies.intact; indices = (h, tt); alone = (tt, tt) }

-- what a permitted stretch leaves is the plan's
effect-memory : (a : ℕ) {plan image : List ℕ} (w : WrittenFor plan image) (i : ℕ) (x : Finish) → Stopped x → (new : List ℕ) (left : Left)
    → (effect_of a w i x new left).memory ≡ new
effect-memory a w i (ends j) s new left = refl
effect-memory a w i (runs y j) s new left = refl
effect-memory a w i (denies y j) s new left = absurd s

-- with a loader that is made of ours: the byte that it leaves at place p
pub first_load :
    (act : Load → Load) (c : Checker) → Claims (using_aplx act) c → {plan image : List ℕ} {ps : List Piece} → Reads plan ps → c plan image ≡ accepted
    → Lies (aplx 4096) ps image → Stopped (meaning find ps 0 (memory_with image)).finish → (p : ℕ)
    → get_or (act aplx_from 4096 (memory_with image)).memory p 0 ≡ get_or (meaning find ps 0 (memory_with image)).memory p 0
unfolding series
first_load act c claims {plan} {image} {ps} reads e lies stop p =
    let h = claims.sound plan image (all-bytes plan reads.bytes) e in
    let w = h.written in
    let x = w.read in
    let y = reads.read in
    let q : ps ≡ w.pieces = cc in
    let g = rw q at (granted lies 0 (omega arith)) in
    let t = ap (λ (l : List Left). get_or (first_left l).memory p 0) (h.same w 4096 example (memory_with image) (once 0) g) in
    let z = meaning (lookup example) w.pieces 0 (memory_with image) in
    let u = ap (λ (m : List ℕ). get_or m p 0) (effect-memory 4096 w 0 z.finish (rw (← q, finds) stop) z.memory _) in
    rw (← q, finds, aplx-is) at (t ∙ u)
