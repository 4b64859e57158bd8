-- Laws of the walk over the entries.
use Rattle.std.proofs.Math.Path.{◌≡◌, refl}
use Rattle.std.proofs.Common.{ap, zero-add, add-one}
use Rattle.std.specs.Prelude.{List, [], ◌∷◌, length}
use Prim.Native.Nat.{ℕ, zero, suc, ◌+◌, ◌-◌, ◌*◌, ◌≤◌, ◌<◌}
use Rattle.std.proofs.Math.Nat.{add-zero}
use native.Mathlib.Omega.{arith}
use Rattle.memory_region.specs.declared.region.Right.TheVariants.{Read}
use Rattle.outcome.specs.Outcome.{Stop, Ending, stops, refuses}
use Rattle.memory_map.specs.Lookup.{Lookup, Found, at, refused, place_of}
use Rattle.aplx_command.specs.Command.{command_at}
use Rattle.aplx_look.specs.Walk.{Verdict, goes, halts, tests, judge_at, judge, after, walk_for, walk, commands}
use Rattle.aplx_look.specs.Walk.Laws.{Passed}

-- ---- one entry
-- an entry that passed its tests: where it stands
pub record Entry (find : Lookup) (m : List ℕ) (a i : ℕ) : Type 0 where
  pub place : ℕ
  pub found-there : find Read a 16 ≡ at place
  pub passes : tests find a i (command_at m place a) ≡ goes

pub goes-found : (find : Lookup) (m : List ℕ) (a i : ℕ) → judge find m a i ≡ goes → Entry find m a i
unfolding judge
goes-found find m a i e = go (find Read a 16) refl e
  where
    go : (f : Found) → find Read a 16 ≡ f → judge_at f find m a i ≡ goes → Entry find m a i
    go (at p) q e = record { place = p; found-there = q; passes = e }
    go (refused x) q e = let z : ◌≡◌ {A = ℕ} 0 1 = cc in absurd (omega arith)

-- ---- a step of the walk
module _ (find : Lookup) (m : List ℕ) (a i : ℕ) where
  pub walk-step-goes : (f : ℕ) → judge find m a i ≡ goes → walk_for (suc f) find m a i ≡ walk_for f find m (a + 16) (suc i)
  unfolding walk_for
  walk-step-goes f e = rw e

  pub walk-step-halts : (f : ℕ) {x : Ending} → judge find m a i ≡ halts x → walk_for (suc f) find m a i ≡ record { count = i; ending = x }
  unfolding walk_for
  walk-step-halts f e = rw e

  -- with i entries read of 256
  pub walk-goes : i < 256 → judge find m a i ≡ goes → walk_for (256 - i) find m a i ≡ walk_for (256 - (i + 1)) find m (a + 16) (i + 1)
  walk-goes h e =
      let z : 256 - i ≡ suc (256 - suc i) = omega arith in
      simp (z, add-one) (walk-step-goes (256 - suc i) e)

  pub walk-halts : {x : Ending} → i < 256 → judge find m a i ≡ halts x → walk_for (256 - i) find m a i ≡ record { count = i; ending = x }
  walk-halts h e =
      let z : 256 - i ≡ suc (256 - suc i) = omega arith in
      rw z (walk-step-halts (256 - suc i) e)

  pub walk-tired : 256 ≤ i → walk_for (256 - i) find m a i ≡ record { count = i; ending = refuses 7 i }
  unfolding walk_for
  walk-tired h = let z : 256 - i ≡ 0 = omega arith in rw z

-- ---- the whole walk
module _ (find : Lookup) (m : List ℕ) where
  passed-from : (f a i j : ℕ) → i + j < (walk_for f find m a i).count → judge find m (a + 16 * j) (i + j) ≡ goes
  unfolding walk_for
  passed-from zero a i j h = absurd (omega arith)
  passed-from (suc f) a i j h = go (judge find m a i) refl j h (passed-from f (a + 16) (suc i))
    where
      go :
          (v : Verdict) → judge find m a i ≡ v → (j : ℕ) → i + j < (after v i (walk_for f find m (a + 16) (suc i))).count
          → ((j : ℕ) → suc i + j < (walk_for f find m (a + 16) (suc i)).count → judge find m (a + 16 + 16 * j) (suc i + j) ≡ goes)
          → judge find m (a + 16 * j) (i + j) ≡ goes
      go (halts x) e j h rest = absurd (omega arith)
      go goes e zero h rest = simp add-zero e
      go goes e (suc j) h rest =
          let x : a + 16 * suc j ≡ a + 16 + 16 * j = omega arith in
          let y : i + suc j ≡ suc i + j = omega arith in
          rw (x, y) (rest j (omega arith))

  -- it passed only entries that passed their tests
  pub walk-passed : (h : ℕ) → Passed find m h (walk find m h).count
  unfolding walk
  walk-passed h j l = rw (zero-add j) at (passed-from 256 h 0 j (omega arith))

  stop-from : (f a i : ℕ) {s : Stop} → (walk_for f find m a i).ending ≡ stops s → (walk_for f find m a i).count < i + f
  unfolding walk_for
  stop-from zero a i e = let z : ◌≡◌ {A = ℕ} 0 1 = cc in absurd (omega arith)
  stop-from (suc f) a i {s} e = go (judge find m a i) e (stop-from f (a + 16) (suc i))
    where
      go :
          (v : Verdict) → (after v i (walk_for f find m (a + 16) (suc i))).ending ≡ stops s
          → ((walk_for f find m (a + 16) (suc i)).ending ≡ stops s → (walk_for f find m (a + 16) (suc i)).count < suc i + f)
          → (after v i (walk_for f find m (a + 16) (suc i))).count < i + suc f
      go goes e rest = let l = rest e in omega arith
      go (halts x) e rest = omega arith

  -- a stop stands among the 256
  pub stop-count : (h : ℕ) {s : Stop} → (walk find m h).ending ≡ stops s → (walk find m h).count < 256
  unfolding walk
  stop-count h e = stop-from 256 h 0 e

-- ---- the commands of k entries, with j of them done
module _ (find : Lookup) (m : List ℕ) (a k j : ℕ) where
  pub commands-next :
      j < k → commands find m a (k - j) ≡ command_at m (place_of (find Read a 16)) a ∷ commands find m (a + 16) (k - (j + 1))
  unfolding commands
  commands-next h = let z : k - j ≡ suc (k - (j + 1)) = omega arith in rw z

  pub commands-end : k ≤ j → commands find m a (k - j) ≡ []
  unfolding commands
  commands-end h = let z : k - j ≡ 0 = omega arith in rw z

pub length-commands : (find : Lookup) (m : List ℕ) (a n : ℕ) → length (commands find m a n) ≡ n
unfolding commands
length-commands find m a zero = refl
length-commands find m a (suc n) = ap suc (length-commands find m (a + 16) n)
