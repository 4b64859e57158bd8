-- Laws of the bytes that commands store, and of the test for 8.
use Rattle.std.specs.Prelude.{◌≡◌, refl, Bool, true, false, if◌then◌else◌}
use mathlib.Core.List.{List, [], ◌∷◌}
use Prim.Native.Nat.{ℕ, zero, suc, ◌+◌, ◌-◌, ◌*◌, ◌≤◌, ◌<◌}
use Rattle.std.proofs.Math.Nat.{add-zero}
use Rattle.std.proofs.Math.Numerals.{add-one}
use native.Mathlib.Omega.{arith}
use Rattle.memory_region.specs.declared.region.Right.TheVariants.{Read}
use Rattle.outcome.specs.Outcome.{Stop, Ending, stops, refuses}
use Rattle.outcome.specs.Destinations.{stored_in}
use Rattle.outcome.proofs.DestinationsLaws.{stored-append}
use Rattle.memory_map.specs.Lookup.{Lookup, place_of}
use Rattle.aplx_command.specs.Command.{Command, copy, fill, exec, other, command_at}
use Rattle.aplx_look.specs.Walk.{commands}
use Rattle.aplx_look.proofs.WalkLaws.{commands-next, commands-end}
use Rattle.aplx_look.specs.Look.{destinations_of, destinations, meets_header, header_test}
use Rattle.aplx_look.specs.Look.Header.{bytes_of}

-- ---- the bytes that a command stores
bytes-of : (c : Command) → stored_in (destinations_of c) ≡ bytes_of c
unfolding stored_in
bytes-of (copy d s n) = add-zero n
bytes-of (fill d n w) = add-zero n
bytes-of (exec x) = refl
bytes-of (other c) = refl

-- ---- the commands of k entries, with j of them done
module _ (find : Lookup) (m : List ℕ) (a k j : ℕ) where
  module _ (h l : ℕ) (x : Ending) where
    pub header-met :
        j < k → meets_header h l (command_at m (place_of (find Read a 16)) a) ≡ true → header_test h l (commands find m a (k - j)) j x ≡ refuses 8 j
    unfolding header_test
    header-met b e = rw (commands-next find m a k j b, e)

    pub header-on :
        j < k → meets_header h l (command_at m (place_of (find Read a 16)) a) ≡ false
        → header_test h l (commands find m a (k - j)) j x ≡ header_test h l (commands find m (a + 16) (k - (j + 1))) (j + 1) x
    unfolding header_test
    header-on b e = rw (commands-next find m a k j b, e, ← add-one j)

    pub header-end : k ≤ j → header_test h l (commands find m a (k - j)) j x ≡ x
    unfolding header_test
    header-end b = rw (commands-end find m a k j b)

  pub bytes_on :
      j < k
      → stored_in (destinations (commands find m a (k - j)))
      ≡ bytes_of (command_at m (place_of (find Read a 16)) a) + stored_in (destinations (commands find m (a + 16) (k - (j + 1))))
  unfolding destinations
  bytes_on b =
      let c = command_at m (place_of (find Read a 16)) a in
      let cs = commands find m (a + 16) (k - (j + 1)) in
      rw (commands-next find m a k j b, ← bytes-of c) (stored-append (destinations_of c) (destinations cs))

  pub bytes-end : k ≤ j → stored_in (destinations (commands find m a (k - j))) ≡ 0
  unfolding destinations stored_in
  bytes-end b = rw (commands-end find m a k j b)

-- ---- no destination meets the header
module _ (h l : ℕ) where
  not-met : (t : Bool) (i : ℕ) {x : Ending} {s : Stop} → (if t then refuses 8 i else x) ≡ stops s → (t ≡ false) × (x ≡ stops s)
  not-met true i e = let z : ◌≡◌ {A = ℕ} 0 1 = cc in absurd (omega arith)
  not-met false i e = (refl, e)

  -- the test changes no stop
  pub same_stop : (cs : List Command) (i : ℕ) {s t : Stop} → header_test h l cs i (stops s) ≡ stops t → s ≡ t
  unfolding header_test
  same_stop [] i e = cc
  same_stop (c ∷ cs) i e = same_stop cs (suc i) (not-met (meets_header h l c) i e).1

  -- entries that passed it
  pub clear-from :
      (find : Lookup) (m : List ℕ) (n a i : ℕ) {s : Stop} → header_test h l (commands find m a n) i (stops s) ≡ stops s
      → (j : ℕ) → j < n → meets_header h l (command_at m (place_of (find Read (a + 16 * j) 16)) (a + 16 * j)) ≡ false
  unfolding header_test commands
  clear-from find m zero a i e j b = absurd (omega arith)
  clear-from find m (suc n) a i e zero b =
      simp add-zero (not-met (meets_header h l (command_at m (place_of (find Read a 16)) a)) i e).0
  clear-from find m (suc n) a i e (suc j) b =
      let x : a + 16 * suc j ≡ a + 16 + 16 * j = omega arith in
      let r = (not-met (meets_header h l (command_at m (place_of (find Read a 16)) a)) i e).1 in
      rw x (clear-from find m n (a + 16) (suc i) r j (omega arith))
