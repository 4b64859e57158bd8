-- Every series of loads of an image that is written by the rules has the plan's effect (paper 02, C-20).
use Rattle.std.specs.Prelude.{◌≡◌, List, ℕ, ◌≤◌, length, drop}
use Rattle.std.proofs.Math.Path.{refl}
use Rattle.std.proofs.Common.{sym, subst, ◌∙◌, arith}
use Rattle.words.specs.Choice.{All}
use Rattle.words.proofs.ChoiceLaws.{all_both}
use Rattle.words.specs.Bytes.{Bytes}
use Rattle.memory_map.specs.declared.map.Map.{Map}
use Rattle.memory_map.specs.Lookup.{lookup}
use Rattle.memory_map.proofs.LookupLaws.{lawful}
use Rattle.plan.specs.Plan.{Piece}
use Rattle.plan.proofs.PlanLaws.{packable}
use Rattle.plan.specs.Meaning.{effects, stretch, Finish, ends, runs, denies, Stopped, finish, meant, meaning}
use Rattle.plan.proofs.MeaningLaws.{stopped-permitted}
use Rattle.aplx_image.proofs.CarriesLaws.{carries-whole}
use Rattle.series.specs.Series.{Step, changed, Left, series}
use Rattle.series.proofs.SeriesLaws.{series-same}
use Rattle.series.specs.Medium.{aplx, ending_in, Spares}
use Rattle.series.specs.Software.{ours}
use Rattle.series.specs.Demand.{means, Granted}
use Rattle.series.proofs.Proved.Preserved.{Before, after-load, after-changes}
use Rattle.series.proofs.Proved.Theorem.{one-load}
use Rattle.aplx_check.specs.Parts.{parts}
use Rattle.aplx_check.specs.Written.{WrittenFor}
use Rattle.checked_series.specs.Claims.{entry_of, loads_from, effect_of, means_from}
use Rattle.checked_series.proofs.Proved.Stretch.{parts-packable, parts-miss, split-drop, drop-parts, before-add, before-most, moved_by, RunIsOne, same-stretch}

module _ {plan image : List ℕ} (bytes : Bytes plan) (w : WrittenFor plan image) (a : ℕ) (map : Map) where
  abbrev ps : List Piece
  ps = w.pieces

  abbrev cs : List (List ℕ)
  cs = w.written.lengths

  -- the parts, as a plan of their own that the image carries
  abbrev qs : List Piece
  qs = parts w.pieces w.written.lengths

  before-parts : (m : List ℕ) → Before (aplx a) map ps image m → Before (aplx a) map qs image m
  before-parts m b =
      let t = b.intact in
      let some = carries-whole image 0 qs w.written.entries in
      record {
        safe = b.safe;
        intact = record {
          aligned = t.aligned;
          place = t.place;
          readable = t.readable;
          intact = t.intact;
          clear = parts-miss a (length image) (omega arith) ps cs t.clear w.written.split;
        };
      }

  -- ---- one load
  module _ (i : ℕ) (h : i ≤ length ps) (m : List ℕ) (b : Before (aplx a) map qs image m) where
    -- it leaves what the parts mean
    parts-load : loads_from ours a map w i m ≡ means (aplx a) map qs (entry_of w i) m
    parts-load =
        let split = w.written.split in
        let good = parts-packable ps cs (packable 1 plan bytes w.read) split in
        one-load (aplx a) qs image w.written.few good w.written.entries map (entry_of w i) (before-most ps cs i split) m b

    -- and the parts of a permitted stretch mean what its pieces mean
    moved-ending : (x : Finish) → Stopped x → RunIsOne (entry_of w) x → (new : List ℕ) (left : Left)
        → let y = meant (moved_by (entry_of w) x) m new in
        ◌≡◌ {A = Left} (record { memory = y.memory; ending = ending_in (aplx a) qs (entry_of w i) y.finish }) (effect_of a w i x new left)
    moved-ending (ends j) s n new left = refl
    moved-ending (runs x j) s n new left = rw n
    moved-ending (denies x j) s n new left = absurd s

    one-stretch : loads_from ours a map w i m ≡ means_from ours a map w i m
    unfolding meaning
    one-stretch = go (finish (lookup map) (stretch (drop i ps)) i) refl
      where
        permitted : (x : Finish) → finish (lookup map) (stretch (drop i ps)) i ≡ x → Stopped x
            → loads_from ours a map w i m ≡ effect_of a w i x (effects (lookup map) (stretch (drop i ps)) m) (loads_from ours a map w i m)
        permitted x e v =
            let split = w.written.split in
            let s = same-stretch (lawful map (length m) b.safe) (entry_of w) (drop i ps) (drop i cs) i (entry_of w i) m (split-drop ps cs i split)
            (λ j. before-add ps cs i j split h) refl (stopped-permitted (lookup map) (drop i ps) i (rw e v)) in
            let new = effects (lookup map) (stretch (drop i ps)) m in
            parts-load ∙ rw (drop-parts ps cs i split h, s.memory, s.stop, e) (moved-ending x v (rw e at s.next) new (loads_from ours a map w i m))

        go : (x : Finish) → finish (lookup map) (stretch (drop i ps)) i ≡ x
            → let y = meant x m (effects (lookup map) (stretch (drop i ps)) m) in
            loads_from ours a map w i m ≡ effect_of a w i y.finish y.memory (loads_from ours a map w i m)
        go (ends j) e = permitted (ends j) e tt
        go (runs x j) e = permitted (runs x j) e tt
        go (denies x j) e = refl

  -- ---- every series
  pub written-series : (memory : List ℕ) (steps : List Step) → Granted (aplx a) map ps image memory steps
      → series (loads_from ours a map w) steps memory ≡ series (means_from ours a map w) steps memory
  written-series memory steps g =
      series-same (loads_from ours a map w) (means_from ours a map w) (Before (aplx a) map qs image)
      (λ s. (s.index ≤ length ps) × All (Spares (aplx a) map image) s.changes)
      (λ s m f b.
      let e = one-stretch s.index f.0 m b in
      let v : means (aplx a) map qs (entry_of w s.index) m ≡ means_from ours a map w s.index m = sym (parts-load s.index f.0 m b) ∙ e in
      let u = after-changes map qs image _ (aplx a) s.changes f.1 (after-load map qs image m (aplx a) (entry_of w s.index) b) in
      (e, subst (λ (l : Left). Before (aplx a) map qs image (changed s.changes l.memory)) v u)
      )
      steps memory (all_both _ _ steps g.indices g.alone) (before-parts memory (record { safe = g.sound-map; intact = g.intact }))
