-- What paper 02, C-20, claims of a checker: it accepts an image only if it is written by the rules and has the plan's effect, and it accepts
-- every image that is written by them. A statement about any software and any checker; `Ours.antt` says that it holds of ours, and `Refuted`
-- that it is false of wrong ones.
use Rattle.std.specs.Prelude.{◌≡◌, List, ℕ, suc, ◌+◌, ◌-◌, ◌*◌}
use Rattle.words.specs.Bytes.{Bytes}
use Rattle.outcome.specs.Outcome as outcome
use Rattle.outcome.specs.Outcome.{end, stops}
use Rattle.memory_map.specs.declared.map.Map.{Map}
use Rattle.memory_map.specs.Lookup.{lookup}
use Rattle.memory_map.specs.Entry.{kind_at}
use Rattle.plan.specs.Meaning.{Finish, ends, runs, denies, meaning}
use Rattle.series.specs.Series.{Step, Left, series}
use Rattle.series.specs.Medium.{aplx}
use Rattle.series.specs.Software.{Software, leaves}
use Rattle.series.specs.Demand.{Granted}
use Rattle.aplx_check.specs.Parts.{parts_before}
use Rattle.aplx_check.specs.Written.{WrittenFor}
use Rattle.aplx_check.specs.Check.{Checked, accepted}

-- what the check of an image against a plan gives
abbrev pub Checker : Type 0
Checker = List ℕ → List ℕ → Checked  -- plan, image

-- ---- one load of an image that is written by the rules
-- the first entry of piece i; at the count of the pieces, the end entry
abbrev pub entry_of : {plan image : List ℕ} → WrittenFor plan image → ℕ → ℕ
entry_of w i = parts_before w.pieces w.written.lengths i

-- "loaded from its first piece's first entry (the end entry if empty)": what a load of the stretch from index i leaves, of the image at
-- address a
abbrev pub loads_from : Software → ℕ → Map → {plan image : List ℕ} → WrittenFor plan image → ℕ → List ℕ → Left
loads_from s a map {image = image} w i m = leaves s (aplx a) map image (a + 16 * entry_of w i) m

-- "the plan's effect", where the stretch from index i finishes so: the memory that its pieces leave; the run address as written and, as
-- resume, the first entry of the piece after the run; or the end, whose entry is counted from the load's first. Of a stretch with a piece
-- that is not permitted nothing is claimed: what its load leaves stands
abbrev pub effect_of : ℕ → {plan image : List ℕ} → WrittenFor plan image → ℕ → Finish → List ℕ → Left → Left
effect_of a w i (ends j) new left = record { memory = new; ending = stops (end (entry_of w j - entry_of w i)) }
effect_of a w i (runs x j) new left = record { memory = new; ending = stops (outcome.run (kind_at x) x (a + 16 * entry_of w (suc j))) }
effect_of a w i (denies x j) new left = left

abbrev pub means_from : Software → ℕ → Map → {plan image : List ℕ} → WrittenFor plan image → ℕ → List ℕ → Left
means_from s a map w i m =
    let l = meaning (lookup map) w.pieces i m in
    effect_of a w i l.finish l.memory (loads_from s a map w i m)

-- of a plan and an image in the packed one's place
pub record HasEffect (s : Software) (plan image : List ℕ) : Type 0 where
  -- it is written by the rules
  pub written : WrittenFor plan image
  -- "the image, under demand 3's premises, has the plan's effect for every stretch whose pieces are all permitted": at every address, for
  -- every series of loads, in whichever way it is written by the rules
  pub same : (w : WrittenFor plan image) (a : ℕ) (map : Map) (memory : List ℕ) (steps : List Step) → Granted (aplx a) map w.pieces image memory steps
      → series (loads_from s a map w) steps memory ≡ series (means_from s a map w) steps memory

pub record Claims (s : Software) (check : Checker) : Type 0 where
  -- "accept only if the image .. has the plan's effect"
  pub sound : (plan image : List ℕ) → Bytes plan → check plan image ≡ accepted → HasEffect s plan image
  -- "Every image written by those rules is accepted, with at most 256 entries."
  pub complete : (plan image : List ℕ) → Bytes plan → WrittenFor plan image → check plan image ≡ accepted
