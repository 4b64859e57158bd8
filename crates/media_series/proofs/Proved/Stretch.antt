-- What a plan's pieces leave on two memories that are equal outside the image is equal there, and each medium's ending has the result that
-- the pieces ask for.
use Rattle.std.specs.Prelude.{◌≡◌, ℕ, ◌+◌, ◌≤◌, length, drop}
use Rattle.std.proofs.Math.Path.{refl}
use mathlib.Core.List.{List, [], ◌∷◌}
use Rattle.std.proofs.Common.{arith}
use Rattle.word_blocks.specs.Repeat.{filling}
use Rattle.word_blocks.proofs.RepeatLaws.{length-filling}
use Rattle.memory_region.specs.declared.region.Right.TheVariants.{Write}
use Rattle.memory_map.specs.declared.map.Map.{Map}
use Rattle.memory_map.specs.Lookup.{Lookup, Found, at, refused, lookup}
use Rattle.memory_map.proofs.LookupLaws.{Lawful}
use Rattle.plan.specs.Plan.{Piece, put, fill, run}
use Rattle.plan.specs.Meaning.{store_at, effect, effects, stretch, Finish, ends, runs, denies, finish, meant, meaning}
use Rattle.series.specs.Medium.{srom, aplx, ending_in}
use Rattle.series.specs.Demand.{means}
use Rattle.series.proofs.Proved.Kept.{effects-keep, beside_none}
use Rattle.media_series.specs.Claims.{EqualOutside, result_of, meant_result, result_at, Agree}
use Rattle.media_series.proofs.ClaimsLaws.{equal-store}

module _ (p n : ℕ) where
  module _ (find : Lookup) where
    -- ---- one piece
    module _ (x y : List ℕ) (laws : Lawful find (length x)) (e : EqualOutside p n x y) where
      equal-at : (a : ℕ) (d : List ℕ) (k : ℕ) → length d ≡ k → (f : Found) → find Write a k ≡ f → EqualOutside p n (store_at f d x) (store_at f d y)
      equal-at a d k l (at q) g = equal-store p n x y q d (omega (arith, laws.inside Write a k q g)) e
      equal-at a d k l (refused z) g = e

      equal-effect : (r : Piece) → EqualOutside p n (effect find r x) (effect find r y)
      unfolding effect
      equal-effect (put a d) = equal-at a d (length d) refl (find Write a (length d)) refl
      equal-effect (fill a k w) = equal-at a (filling k w) k (length-filling k w) (find Write a k) refl
      equal-effect (run a) = e

    -- ---- pieces in order
    equal-effects : (ps : List Piece) (x y : List ℕ) → Lawful find (length x) → EqualOutside p n x y → EqualOutside p n (effects find ps x) (effects find ps y)
    unfolding effects
    equal-effects [] x y laws e = e
    equal-effects (r ∷ ps) x y laws e =
        let l = (effects-keep find 0 0 (r ∷ []) x laws (beside_none find (r ∷ []))).length-is in
        equal-effects ps (effect find r x) (effect find r y) (rw l laws) (equal-effect x y laws e r)

  -- ---- a stretch, in the words of either medium
  pub meanings-agree : (a : ℕ) (map : Map) (ps : List Piece) (i : ℕ) (x y : List ℕ) → Lawful (lookup map) (length x) → EqualOutside p n x y
      → Agree p n (result_at map ps i) (means (aplx a) map ps i x) (means srom map ps i y)
  unfolding meaning
  meanings-agree a map ps i x y laws e =
      let qs = stretch (drop i ps) in
      go (finish (lookup map) qs i) (equal-effects (lookup map) qs x y laws e)
    where
      go : (f : Finish) {u v : List ℕ} → EqualOutside p n u v
          → let k = meant f x u in let l = meant f y v in
          Agree p n (meant_result f) (record { memory = k.memory; ending = ending_in (aplx a) ps i k.finish }) (record { memory = l.memory; ending = ending_in srom ps i l.finish })
      go (ends j) h = record { memory-equal = h; aplx-result = refl; srom-result = refl }
      go (runs z j) h = record { memory-equal = h; aplx-result = refl; srom-result = refl }
      go (denies z j) h = record { memory-equal = e; aplx-result = refl; srom-result = refl }
