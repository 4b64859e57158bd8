-- Laws of the claims: memories that are equal outside the image stay so, and the result of a stretch says whether its pieces are permitted.
use Rattle.std.specs.Prelude.{◌≡◌, refl, false, ℕ, zero, suc, ◌+◌, ◌≤◌, length, drop, get_or, set}
use Rattle.std.proofs.Common.{sym, ◌∙◌, arith, length-set}
use mathlib.Core.List.{List, [], ◌∷◌}
use Rattle.words.specs.Range.{meets}
use Rattle.words.proofs.RangeLaws.{Zone, inside, outside, zone}
use Rattle.words.specs.Store.{store}
use Rattle.words.proofs.StoreLaws.{length-store, element-inside, element-outside}
use Rattle.memory_map.specs.declared.map.Map.{Map}
use Rattle.memory_map.specs.Lookup.{lookup}
use Rattle.plan.specs.Plan.{Piece}
use Rattle.plan.specs.Meaning.{stretch, Finish, ends, runs, denies, Stopped, finish, Permitted}
use Rattle.plan.proofs.MeaningLaws.{stopped-permitted, permitted-stopped}
use Rattle.series.specs.Series.{Change, changed, Left}
use Rattle.media_series.specs.Claims.{EqualOutside, Result, end, unknown, run, refusal, result_of, meant_result, result_at, Agree}

-- ---- memories that are equal outside the image
module _ (p n : ℕ) where
  pub equal-self : (x : List ℕ) → EqualOutside p n x x
  equal-self x = record { same_length = refl; same_bytes = λ i o. refl }

  -- after the same bytes are stored at the same place
  pub equal-store : (x y : List ℕ) (q : ℕ) (d : List ℕ) → q + length d ≤ length x → EqualOutside p n x y → EqualOutside p n (store x q d) (store y q d)
  equal-store x y q d fits e =
      let l = e.same_length in
      let also : q + length d ≤ length y = omega arith in
      record {
        same_length = length-store x q d fits ∙ l ∙ sym (length-store y q d also);
        same_bytes = λ i o. go i o also (zone i q (length d));
      }
    where
      go : (i : ℕ) → meets i 1 p n ≡ false → q + length d ≤ length y → Zone i q (length d) → get_or (store x q d) i 0 ≡ get_or (store y q d) i 0
      go i o also (inside z) = element-inside x q d fits i z ∙ sym (element-inside y q d also i z)
      go i o also (outside z) = element-outside x q d fits i z ∙ e.same_bytes i o ∙ sym (element-outside y q d also i z)

  -- after one byte is set
  equal-set : (x y : List ℕ) (q b : ℕ) → EqualOutside p n x y → EqualOutside p n (set x q b) (set y q b)
  equal-set x y q b e = record {
    same_length = length-set x q b ∙ e.same_length ∙ sym (length-set y q b);
    same_bytes = λ i o. element x y e.same_length q i (e.same_bytes i o);
  }
    where
      element : (x y : List ℕ) → length x ≡ length y → (q i : ℕ) → get_or x i 0 ≡ get_or y i 0 → get_or (set x q b) i 0 ≡ get_or (set y q b) i 0
      element [] [] l q i e = refl
      element [] (c ∷ y) l q i e = absurd (omega (arith, l))
      element (a ∷ x) [] l q i e = absurd (omega (arith, l))
      element (a ∷ x) (c ∷ y) l zero zero e = refl
      element (a ∷ x) (c ∷ y) l zero (suc i) e = e
      element (a ∷ x) (c ∷ y) l (suc q) zero e = e
      element (a ∷ x) (c ∷ y) l (suc q) (suc i) e = element x y (omega (arith, l)) q i e

  -- after the same changes: called code that writes the same bytes in both series keeps the proviso
  pub equal-changed : (cs : List Change) (x y : List ℕ) → EqualOutside p n x y → EqualOutside p n (changed cs x) (changed cs y)
  unfolding changed
  equal-changed [] x y e = e
  equal-changed (c ∷ cs) x y e = equal-changed cs (set x c.place c.byte) (set y c.place c.byte) (equal-set x y c.place c.byte e)

-- ---- results
-- "the same run address": the results of both loads are one
pub same-result : {p n : ℕ} {meant : Result} {k l : Left} → Agree p n meant k l → result_of k.ending ≡ result_of l.ending
same-result g = g.aplx-result ∙ sym g.srom-result

-- a run or the end
abbrev pub Completed : Result → Type 0
Completed end = Unit {0}
Completed (run k a) = Unit {0}
Completed (unknown c) = ⊥
Completed (refusal n) = ⊥

abbrev pub Refused : Result → Type 0
Refused end = ⊥
Refused (run k a) = ⊥
Refused (unknown c) = ⊥
Refused (refusal n) = Unit {0}

module _ (map : Map) (ps : List Piece) (i : ℕ) where
  -- "every stretch whose pieces are permitted" ends at its run or its end
  pub permitted-completed : Permitted (lookup map) (stretch (drop i ps)) → Completed (result_at map ps i)
  permitted-completed h = go (finish (lookup map) (stretch (drop i ps)) i) (permitted-stopped (lookup map) (drop i ps) i h)
    where
      go : (f : Finish) → Stopped f → Completed (meant_result f)
      go (ends j) s = tt
      go (runs a j) s = tt
      go (denies x j) s = absurd s

  -- "any other stretch is refused"
  pub other-refused : (Permitted (lookup map) (stretch (drop i ps)) → ⊥) → Refused (result_at map ps i)
  other-refused n = go (finish (lookup map) (stretch (drop i ps)) i) (λ s. n (stopped-permitted (lookup map) (drop i ps) i s))
    where
      go : (f : Finish) → (Stopped f → ⊥) → Refused (meant_result f)
      go (ends j) n = absurd (n tt)
      go (runs a j) n = absurd (n tt)
      go (denies x j) n = tt
