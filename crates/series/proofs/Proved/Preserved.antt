-- The image stays intact: no piece of the plan and no change by the called code writes one of its bytes.
use Rattle.std.specs.Prelude.{◌≡◌, true, false, List, ℕ, length, drop}
use Rattle.std.proofs.Common.{◌∙◌, arith}
use Rattle.words.specs.Choice.{All}
use Rattle.words.proofs.ChoiceLaws.{all_map, all_drop}
use Rattle.words.specs.Range.{meets}
use Rattle.words.proofs.RangeLaws.{Apart, misses-apart, apart-swap}
use Rattle.memory_region.specs.declared.region.Right.TheVariants.{Read, Write}
use Rattle.memory_map.specs.declared.map.Map.{Map}
use Rattle.memory_map.specs.Map.{sound}
use Rattle.memory_map.specs.Lookup.{Lookup, at, lookup}
use Rattle.memory_map.proofs.LookupLaws.{Lawful, lawful, apart}
use Rattle.plan.specs.Plan.{Piece, put, fill, run}
use Rattle.plan.specs.Meaning.{stretch}
use Rattle.series.specs.Series.{Change, changed}
use Rattle.series.proofs.SeriesLaws.{length-changed, changed-outside}
use Rattle.series.specs.Medium.{Medium, srom, aplx, Misses, Intact, Spares}
use Rattle.series.specs.Demand.{means}
use Rattle.series.proofs.Proved.Kept.{Beside, Beyond, all-stretch, meaning-keeps, beside_none}

-- a destination that meets no address of a readable range has none of its buffer bytes
module _ {find : Lookup} {size : ℕ} (laws : Lawful find size) (a n p : ℕ) (readable : find Read a n ≡ at p) where
  beyond : (d k : ℕ) → meets d k a n ≡ false → Beyond find p n d k
  beyond d k o q e =
      apart-swap (misses-apart q k p n (laws.filled Write d k q e) (laws.filled Read a n p readable) (apart laws Write Read d k q a n p e readable o))

  pub misses-beside : (x : Piece) → Misses a n x → Beside find p n x
  misses-beside (put d b) o = beyond d (length b) o
  misses-beside (fill d k w) o = beyond d k o
  misses-beside (run x) o = tt

-- what holds of memory before every load
pub record Before (k : Medium) (map : Map) (ps : List Piece) (image m : List ℕ) : Type 0 where
  pub safe : sound map (length m) ≡ true
  pub intact : Intact k map ps image m

module _ (map : Map) (ps : List Piece) (image m : List ℕ) where
  -- after a load
  pub after-load : (k : Medium) (i : ℕ) → Before k map ps image m → Before k map ps image (means k map ps i m).memory
  after-load srom i b =
      let h = meaning-keeps (lookup map) 0 0 ps i m (lawful map (length m) b.safe) (beside_none (lookup map) (stretch (drop i ps))) in
      record { safe = rw h.length-is b.safe; intact = tt }
  after-load (aplx a) i b =
      let t = b.intact in
      let laws = lawful map (length m) b.safe in
      let z = all_map (Misses a (length image)) (Beside (lookup map) t.place (length image)) ps (misses-beside laws a (length image) t.place t.readable) t.clear in
      let h = meaning-keeps (lookup map) t.place (length image) ps i m laws (all-stretch _ (drop i ps) (all_drop _ i ps z)) in
      record {
        safe = rw h.length-is b.safe;
        intact = record { aligned = t.aligned; place = t.place; readable = t.readable; intact = h.bytes-are ∙ t.intact; clear = t.clear };
      }

  -- after the called code's changes
  pub after-changes : (k : Medium) (cs : List Change) → All (Spares k map image) cs → Before k map ps image m → Before k map ps image (changed cs m)
  after-changes srom cs o b = record { safe = rw (length-changed cs m) b.safe; intact = tt }
  after-changes (aplx a) cs o b =
      let t = b.intact in
      let n = (lawful map (length m) b.safe).filled Read a (length image) t.place t.readable in
      let z = all_map (Spares (aplx a) map image) (λ c. Apart c.place 1 t.place (length image)) cs
      (λ c f. misses-apart c.place 1 t.place (length image) (omega arith) n (f t.place t.readable)) o in
      record {
        safe = rw (length-changed cs m) b.safe;
        intact = record { aligned = t.aligned; place = t.place; readable = t.readable; intact = changed-outside t.place (length image) cs m z ∙ t.intact; clear = t.clear };
      }
