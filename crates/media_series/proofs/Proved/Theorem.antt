-- Both series of loads agree, for any software of which demand 3 holds.
use Rattle.std.specs.Prelude.{◌≡◌, ℕ, ◌≤◌, length}
use Rattle.std.proofs.Common.{sym, ◌∙◌}
use Rattle.std.proofs.Math.Path.{subst}
use mathlib.Core.List.{List, [], ◌∷◌}
use Rattle.words.specs.Choice.{All}
use Rattle.memory_map.specs.declared.map.Map.{Map}
use Rattle.memory_map.proofs.LookupLaws.{lawful}
use Rattle.plan.specs.Plan as format
use Rattle.plan.specs.Plan.{Piece}
use Rattle.series.specs.Series.{changed, Step, Left, series}
use Rattle.series.specs.Medium.{Medium, srom, aplx, Spares}
use Rattle.series.specs.Software.{Software}
use Rattle.series.specs.Demand.{loads, means, Granted, Demand3}
use Rattle.series.proofs.Proved.Preserved.{Before, after-load, after-changes}
use Rattle.series.proofs.Proved.Corollaries.{one-load}
use Rattle.media_series.specs.Claims.{EqualOutside, BothStep, aplx_steps, srom_steps, result_at, Agree, AllAgree, EitherMedium}
use Rattle.media_series.proofs.Proved.Stretch.{meanings-agree}

-- demand 3's premises for the SROM series follow from those for the APLX series
pub srom-granted :
    (a : ℕ) (map : Map) (ps : List Piece) (image rom x y : List ℕ) (p : ℕ) (steps : List BothStep) → Granted (aplx a) map ps image x (aplx_steps steps)
    → EqualOutside p (length image) x y → Granted srom map ps rom y (srom_steps steps)
srom-granted a map ps image rom x y p steps g e = record {
  sound-map = rw e.same_length at g.sound-map;
  intact = tt;
  indices = same-indices steps g.indices;
  alone = nothing steps;
}
  where
    same-indices : (ts : List BothStep) → All (λ (t : Step). t.index ≤ length ps) (aplx_steps ts) → All (λ (t : Step). t.index ≤ length ps) (srom_steps ts)
    same-indices [] h = tt
    same-indices (t ∷ ts) h = (h.0, same-indices ts h.1)

    -- nothing is asked of what is changed
    spared : (cs : List _) → All (Spares srom map rom) cs
    spared [] = tt
    spared (c ∷ cs) = (tt, spared cs)

    nothing : (ts : List BothStep) → All (λ (t : Step). All (Spares srom map rom) t.changes) (srom_steps ts)
    nothing [] = tt
    nothing (t ∷ ts) = (spared t.srom-changes, nothing ts)

-- what demand 3 says of software, a map, and an image of these pieces
abbrev Same : Software → Medium → Map → List Piece → List ℕ → Type 0
Same s k map ps image =
    (memory : List ℕ) (steps : List Step) → Granted k map ps image memory steps → series (loads s k map ps image) steps memory ≡ series (means k map ps) steps memory

module _ (s : Software) (a : ℕ) (map : Map) (ps : List Piece) (image rom : List ℕ) (same-aplx : Same s (aplx a) map ps image) (same-srom : Same s srom map ps rom) (p : ℕ) where
  -- from every two memories that are equal outside the image, the APLX image intact in the first
  both-agree :
      (steps : List BothStep) (x y : List ℕ) → All (λ (t : Step). t.index ≤ length ps) (aplx_steps steps)
      → All (λ (t : Step). All (Spares (aplx a) map image) t.changes) (aplx_steps steps) → Before (aplx a) map ps image x → EqualOutside p (length image) x y
      → AllAgree p (length image) (result_at map ps) steps
      (series (loads s (aplx a) map ps image) (aplx_steps steps) x) (series (loads s srom map ps rom) (srom_steps steps) y)
  unfolding series
  both-agree [] x y h o b e = tt
  both-agree (t ∷ ts) x y h o b e =
      let i = t.index in
      let also : Before srom map ps rom y = record { safe = rw e.same_length at b.safe; intact = tt } in
      let f = one-load s (aplx a) map ps image same-aplx i h.0 x b in
      let g = one-load s srom map ps rom same-srom i h.0 y also in
      let m = (means (aplx a) map ps i x).memory in
      let left = after-changes map ps image m (aplx a) t.aplx-changes o.0 (after-load map ps image x (aplx a) i b) in
      let next = subst (λ (l : Left). Before (aplx a) map ps image (changed t.aplx-changes l.memory)) (sym f) left in
      let agrees : Agree p (length image) (result_at map ps i) (loads s (aplx a) map ps image i x) (loads s srom map ps rom i y) =
      rw (f, g) (meanings-agree p (length image) a map ps i x y (lawful map (length x) b.safe) e) in
      (agrees, λ provided. both-agree ts _ _ h.1 o.1 next provided)

-- "both series of loads under demand 3's premises"
pub either-medium : (s : Software) → Demand3 s → EitherMedium s
either-medium s demand a plan room image space rom b e f =
    let h = demand (aplx a) plan room image b e in
    let k = demand srom plan space rom b f in
    record {
      pieces = h.pieces;
      read = h.read;
      agree = λ map x y steps g o.
          both-agree s a map h.pieces image rom (h.same map)
          (subst (λ (ps : List Piece). Same s srom map ps rom) (same-pieces (sym k.read ∙ h.read)) (k.same map))
          g.intact.place steps x y g.indices g.alone (record { safe = g.sound-map; intact = g.intact }) o;
    }
  where
    same-pieces : {ps qs : List Piece} → format.pieces ps ≡ format.pieces qs → ps ≡ qs
    same-pieces e = cc
