-- What the claim says of software in the small setting in which demand 3 is put to the test: a map of two regions, 256 bytes of memory with the
-- APLX image at its beginning, and the same memory for the SROM series.
use Rattle.std.specs.Prelude.{◌≡◌, refl, false, ℕ, ◌+◌, ◌*◌, ◌≤◌, length, drop, get_or}
use Rattle.std.proofs.Common.{subst}
use mathlib.Core.List.{List, [], ◌∷◌}
use Rattle.words.specs.Choice.{All}
use Rattle.words.proofs.BytesLaws.{all-bytes}
use Rattle.words.specs.Range.{meets}
use Rattle.outcome.specs.Outcome.{ending_of, Loaded}
use Rattle.memory_map.specs.Lookup.{Lookup, lookup}
use Rattle.srom.specs.Walk.{Walk}
use Rattle.srom.specs.Load as SromLoad
use Rattle.srom.specs.Load.{srom_look, srom_load}
use Rattle.aplx_look.specs.Look.{Look, look, aplx_look}
use Rattle.aplx.specs.Load as AplxLoad
use Rattle.aplx.specs.Load.{aplx_load}
use Rattle.plan.specs.Plan.{Piece}
use Rattle.plan.specs.Packed.{Packed, packs}
use Rattle.plan.specs.Meaning.{stretch, finish}
use Rattle.srom_pack.specs.Image.{pack_srom}
use Rattle.aplx_pack.specs.Image.{pack_aplx}
use Rattle.series.specs.Series.{Step, Left, series}
use Rattle.series.specs.Medium.{srom, aplx, start_of, Spares}
use Rattle.series.specs.Software as software
use Rattle.series.specs.Software.{Software}
use Rattle.series.specs.Demand.{loads, Granted}
use Rattle.series.proofs.Refuted.Example.{example, example-sound, find, finds, memory_with, Reads, Lies}
use Rattle.series.proofs.Refuted.Twice.{left_by}
use Rattle.media_series.specs.Claims.{BothStep, aplx_steps, srom_steps, meant_result, result_of, result_at, Agree, AllAgree, EitherMedium}
use Rattle.media_series.proofs.ClaimsLaws.{equal-self}

-- our tests on a memory of 256 bytes, which compute
module _ (m : List ℕ) (sized : length m ≡ 256) where
  srom-look : (s : List ℕ) (o : ℕ) → srom_look example (length m) s o ≡ SromLoad.look find s o
  unfolding srom_look
  srom-look s o = rw (sized, example-sound, finds)

  aplx-look : (h : ℕ) → aplx_look example m h ≡ look find m h
  unfolding aplx_look
  aplx-look h = rw (sized, example-sound, finds)

-- ---- software made of two packers, and of what the two loaders do once our tests are made
pub record Parts : Type 0 where
  pub pack_aplx : List ℕ → ℕ → Packed
  pub pack_srom : List ℕ → ℕ → Packed
  pub act_aplx : Lookup → Look → List ℕ → Loaded
  pub act_srom : Walk → List ℕ → Loaded

abbrev pub made : Parts → Software
made u = record {
  pack_srom = u.pack_srom;
  pack_aplx = u.pack_aplx;
  load_srom = λ map s o m. u.act_srom (srom_look map (length m) s o) m;
  load_aplx = λ map m h. u.act_aplx (lookup map) (aplx_look map m h) m;
}

-- our parts
abbrev pub right : Parts
right = record { pack_aplx = pack_aplx; pack_srom = pack_srom; act_aplx = AplxLoad.loaded; act_srom = SromLoad.loaded }

pub ours-made : made right ≡ software.ours
unfolding srom_load aplx_load
ours-made = refl

-- ---- series
-- what the claim says of software and two images of these pieces
abbrev Agreeing : Software → List ℕ → List ℕ → List Piece → Type 0
Agreeing s image rom ps =
    let m = memory_with image in
    (steps : List BothStep) (granted : Granted (aplx 4096) example ps image m (aplx_steps steps))
    → AllAgree granted.intact.place (length image) (result_at example ps) steps
    (series (loads s (aplx 4096) example ps image) (aplx_steps steps) m) (series (loads s srom example ps rom) (srom_steps steps) m)

module _ (s : Software) (claim : EitherMedium s) {plan image rom : List ℕ} {ps : List Piece} (reads : Reads plan ps)
    (aplx-is : s.pack_aplx plan 256 ≡ packs image) (srom-is : s.pack_srom plan 256 ≡ packs rom) (lies : Lies (aplx 4096) ps image)
  where
    agreeing : Agreeing s image rom ps
    agreeing =
        let h = claim 4096 plan 256 image 256 rom (all-bytes plan reads.bytes) aplx-is srom-is in
        let r = h.read in
        let t = reads.read in
        let q : h.pieces ≡ ps = cc in
        subst (Agreeing s image rom) q (λ steps g. h.agree example (memory_with image) (memory_with image) steps g (equal-self _ _ (memory_with image)))

    pub all-agree :
        (steps : List BothStep) → All (λ t. t.index ≤ length ps) (aplx_steps steps)
        → All (λ t. All (Spares (aplx 4096) example image) t.changes) (aplx_steps steps)
        → AllAgree lies.intact.place (length image) (result_at example ps) steps
        (series (loads s (aplx 4096) example ps image) (aplx_steps steps) (memory_with image))
        (series (loads s srom example ps rom) (srom_steps steps) (memory_with image))
    all-agree steps indices alone =
        agreeing steps (record { sound-map = rw lies.sized example-sound; intact = lies.intact; indices = indices; alone = alone })

    -- the first load, from index i
    pub first-agrees : (i : ℕ) → i ≤ length ps
        → Agree lies.intact.place (length image) (result_at example ps i)
        (loads s (aplx 4096) example ps image i (memory_with image)) (loads s srom example ps rom i (memory_with image))
    unfolding series
    first-agrees i h = (all-agree (record { index = i; aplx-changes = []; srom-changes = [] } ∷ []) (h, tt) (tt, tt)).0

-- ---- the first load of software made of parts, which computes
module _ (u : Parts) (claim : EitherMedium (made u)) {plan image rom : List ℕ} {ps : List Piece} (reads : Reads plan ps)
    (aplx-is : u.pack_aplx plan 256 ≡ packs image) (srom-is : u.pack_srom plan 256 ≡ packs rom) (lies : Lies (aplx 4096) ps image) (i : ℕ) (h : i ≤ length ps)
  where
    abbrev aplx_left : Left
    aplx_left = left_by (u.act_aplx find (look find (memory_with image) (start_of (aplx 4096) ps i)) (memory_with image))

    abbrev srom_left : Left
    srom_left = left_by (u.act_srom (SromLoad.look find rom (start_of srom ps i)) (memory_with image))

    pub made-agrees : Agree lies.intact.place (length image) (meant_result (finish find (stretch (drop i ps)) i)) aplx_left srom_left
    made-agrees =
        rw (aplx-look (memory_with image) lies.sized (start_of (aplx 4096) ps i), srom-look (memory_with image) lies.sized rom (start_of srom ps i), finds)
        at (first-agrees (made u) claim reads aplx-is srom-is lies i h)
