-- What holds of ours: of the software of which demand 3 holds, and of the check that the promise of `aplx_check` cites.
use Rattle.std.specs.Prelude.{◌≡◌, refl, List, ℕ, ◌≤◌, length, drop}
use Rattle.std.proofs.Common.{◌∙◌, arith}
use Rattle.words.specs.Choice.{All}
use Rattle.words.specs.Bytes.{Bytes}
use Rattle.memory_map.specs.declared.map.Map.{Map}
use Rattle.memory_map.specs.Lookup.{lookup}
use Rattle.plan.specs.Plan.{Piece}
use Rattle.plan.proofs.PlanLaws.{packable, read-header, read_count}
use Rattle.plan.proofs.PlanUnit.{read_one}
use Rattle.plan.specs.Packed.{packs}
use Rattle.plan.specs.Meaning.{effects, stretch, Finish, ends, runs, denies, Stopped, finish, meant, meaning, Permitted}
use Rattle.plan.proofs.MeaningLaws.{permitted-stopped}
use Rattle.aplx_pack.specs.Image.{aplx_image, pack_aplx}
use Rattle.aplx_pack.proofs.ImageLaws.{packed-facts}
use Rattle.aplx_pack.proofs.ImageCarried.{packed-carries, image-short}
use Rattle.series.specs.Series.{Step, Left, series}
use Rattle.series.proofs.SeriesLaws.{series-same}
use Rattle.series.specs.Medium.{aplx}
use Rattle.series.specs.Software as software
use Rattle.series.specs.Software.{Software}
use Rattle.series.specs.Demand.{Granted}
use Rattle.aplx_check.specs.Written.{WrittenFor}
use Rattle.aplx_check.proofs.WrittenWhole.{carried-written}
use Rattle.aplx_check.specs.Check.{accepted, check}
use Rattle.aplx_check.proofs.CheckExact.{accepted-written, written-accepted}
use Rattle.checked_series.specs.Claims.{loads_from, effect_of, HasEffect, Claims}
use Rattle.checked_series.proofs.Proved.Theorem.{written-series}
use Rattle.checked_series.proofs.Proved.Packed.{packed-behind}

pub ours : Claims software.ours check
ours = record {
  sound = λ plan image b e. record {
    written = accepted-written plan image e;
    same = λ w a map memory steps g. written-series b w a map memory steps g;
  };
  complete = written-accepted;
}

-- the image that our packer gives for a plan is accepted
pub packed-accepted : (plan : List ℕ) (room : ℕ) (image : List ℕ) → Bytes plan → pack_aplx plan room ≡ packs image → check plan image ≡ accepted
packed-accepted plan room image b e =
    let f = packed-facts plan room e in
    let ps = f.read in
    let g = packable 32 plan b f.are-read in
    let few : length ps ≤ 255 = omega (arith, read_count 32 plan f.are-read, (read-header 32 plan f.are-read).few) in
    let short = image-short ps few g in
    let w = carried-written ps (aplx_image ps) g few (packed-carries ps short g) (packed-behind ps short g) in
    rw f.is-image (written-accepted plan (aplx_image ps) b (record { pieces = ps; read = read_one 32 plan f.are-read; written = w }))

-- every piece of the step's stretch is permitted
abbrev pub PermittedStep : Map → List Piece → Step → Type 0
PermittedStep map ps s = Permitted (lookup map) (stretch (drop s.index ps))

-- a series of permitted stretches: the right side is the plan's effect alone, whatever is put in the place of loads of which nothing is claimed
pub permitted-effect :
    (s : Software) {plan image : List ℕ} → HasEffect s plan image
    → (w : WrittenFor plan image) (a : ℕ) (map : Map) (memory : List ℕ) (steps : List Step)
    → Granted (aplx a) map w.pieces image memory steps → All (PermittedStep map w.pieces) steps → (unclaimed : ℕ → List ℕ → Left)
    → series (loads_from s a map w) steps memory
    ≡ series (λ i m. let l = meaning (lookup map) w.pieces i m in effect_of a w i l.finish l.memory (unclaimed i m)) steps memory
unfolding meaning
permitted-effect s h w a map memory steps g p unclaimed =
    h.same w a map memory steps g
    ∙ series-same _ _ (λ m. Unit {0}) (PermittedStep map w.pieces)
    (λ t m f k.
    let i = t.index in
    let rest = drop i w.pieces in
    (go i m (effects (lookup map) (stretch rest) m) _ _ (finish (lookup map) (stretch rest) i) (permitted-stopped (lookup map) rest i f), tt)
    )
    steps memory p tt
  where
    go : (i : ℕ) (m new : List ℕ) (l k : Left) (x : Finish) → Stopped x
        → effect_of a w i (meant x m new).finish (meant x m new).memory l ≡ effect_of a w i (meant x m new).finish (meant x m new).memory k
    go i m new l k (ends j) v = refl
    go i m new l k (runs y j) v = refl
    go i m new l k (denies y j) v = absurd v
