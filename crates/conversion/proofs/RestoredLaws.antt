-- Laws of what is written for an image: too long, or shown as it was read back.
use Rattle.std.specs.Prelude.{◌≡◌, refl, List, ℕ, ◌≤◌, ◌<◌, length, Result, Ok, Err}
use Rattle.std.proofs.Common.{ap, lt-ltb, le-ltb}
use Rattle.plan.specs.Packed.{packs}
use Rattle.aplx_read.specs.ReadBack.{read_back}
use Rattle.aplx_read.proofs.ReadBackLaws.{plan-facts}
use Rattle.conversion.specs.declared.read_back.ImageTooLong.{ImageTooLong}
use Rattle.conversion.specs.Shown.{shown}
use Rattle.conversion.proofs.ShownLaws.{Done}
use Rattle.conversion.specs.Restored.{restored, answer_of, output_of}

-- a plan that was read for n bytes has n at most
pub plan-fits : (image : List ℕ) (n : ℕ) (plan : List ℕ) → read_back image n ≡ packs plan → length plan ≤ n
plan-fits image n plan e = (plan-facts image n e).fits

-- what the function answers and leaves of an output m
abbrev pub Answered : List ℕ → List ℕ → Result ℕ ImageTooLong → List ℕ → Type 0
Answered image m r last = (r ≡ answer_of (restored image (length m))) × (last ≡ output_of (restored image (length m)) m)

pub too_long : (image m : List ℕ) → 65536 < length image → Answered image m (Err (record {})) m
unfolding restored
too_long image m h = rw (lt-ltb 65536 (length image) h) (refl, refl)

pub short : (image m : List ℕ) {r : ℕ} {last : List ℕ} → length image ≤ 65536 → Done (shown (read_back image (length m))) m r last
    → Answered image m (Ok r) last
unfolding restored
short image m h d = rw (le-ltb 65536 (length image) h) (ap (λ (n : ℕ). Ok n) d.length-is, d.output-is)
