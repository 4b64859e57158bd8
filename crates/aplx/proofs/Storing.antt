-- Steps of the commands carried out.
use mathlib.Core.Path.{◌≡◌, ap, ◌∙◌}
use mathlib.Core.Bool.{false}
use mathlib.Core.List.{List}
use Prim.Native.Nat.{ℕ, suc, ◌+◌, ◌-◌, ◌*◌, ◌≤◌, ◌<◌}
use native.Mathlib.Omega.{arith}
use lib.ListN.{length}
use Rattle.memory_region.specs.declared.region.Right.TheVariants.{Read}
use Rattle.memory_map.specs.Lookup.{Lookup, found, place_of}
use Rattle.memory_map.proofs.LookupLaws.{Lawful, found_at, found-place}
use Rattle.aplx_command.specs.Command.{Command, command_at}
use Rattle.aplx_look.specs.Walk.{commands}
use Rattle.aplx_look.proofs.WalkLaws.{Entry, goes-found, commands-next, commands-end}
use Rattle.aplx_look.specs.Look.{meets_header}
use Rattle.aplx_look.specs.Look.Laws.{Ready}
use Rattle.aplx.specs.Load.{perform, perform_all}
use Rattle.aplx.specs.Load.Laws.{Performable}
use Rattle.aplx.proofs.LoadLaws.{goes-performable}
use Rattle.aplx.proofs.LoadKept.{length-perform, entry_kept}

-- the command of the entry at address a
abbrev pub entry_at : Lookup → List ℕ → ℕ → Command
entry_at find m a = command_at m (place_of (find Read a 16)) a

-- of k entries from address h on, i are carried out: memory m₀ became m, and the next entry stands at address a
pub record Progress (find : Lookup) (m₀ : List ℕ) (h k : ℕ) (m : List ℕ) (a i : ℕ) : Type 0 where
  pub address : a ≡ h + 16 * i
  pub bound : i ≤ k
  pub size : length m ≡ length m₀
  -- the rest of the commands leave what all leave
  pub rest : perform_all find (commands find m₀ a (k - i)) m ≡ perform_all find (commands find m₀ h k) m₀
  -- the rest of the entries are as they were
  pub kept : (j : ℕ) → i ≤ j → j < k → entry_at find m (h + 16 * j) ≡ entry_at find m₀ (h + 16 * j)

-- what holds where the next entry is one of them
pub record Next (find : Lookup) (m₀ : List ℕ) (h k : ℕ) (m : List ℕ) (a i : ℕ) : Type 0 where
  pub below : a + 16 ≤ 4294967280
  pub performable : Performable find (entry_at find m a)
  pub progress : Progress find m₀ h k (perform find (entry_at find m a) m) (a + 16) (i + 1)

module _ {find : Lookup} {m₀ : List ℕ} {h k : ℕ} {m : List ℕ} {a i : ℕ} (g : Progress find m₀ h k m a i) where
  pub finished : k ≤ i → m ≡ perform_all find (commands find m₀ h k) m₀
  unfolding perform_all
  finished e = rw (commands-end find m₀ a k i e) at g.rest

  module _ (laws : Lawful find (length m₀)) (r : Ready find m₀ h k) (b : i < k) where
    entry : (j : ℕ) → j < k → Entry find m₀ (h + 16 * j) j
    entry j e = goes-found find m₀ (h + 16 * j) j (r.passed j e)

    here : Entry find m₀ a i
    here = rw g.address (entry i b)

    same : entry_at find m a ≡ entry_at find m₀ a
    same = rw g.address (g.kept i (omega arith) b)

    may : Performable find (entry_at find m a)
    may = rw (same, found-place here.found-there) (goes-performable find m₀ a i _ here.passes)

    clear : meets_header h (16 * suc k) (entry_at find m a) ≡ false
    clear = rw (same, g.address) (r.clear i b)

    now-lawful : Lawful find (length m)
    now-lawful = rw g.size laws

    further : Progress find m₀ h k (perform find (entry_at find m a) m) (a + 16) (i + 1)
    unfolding perform_all
    further =
        record {
          address = omega (arith, g.address);
          bound = omega arith;
          size = length-perform find m now-lawful _ may ∙ g.size;
          rest = rw same (rw (commands-next find m₀ a k i b) at g.rest);
          kept = λ j x y.
              entry_kept find m now-lawful _ may h (16 * suc k) (h + 16 * j) _ clear (omega arith) (omega arith) (found_at _ (ap found (entry j y).found-there))
              ∙ g.kept j (omega arith) y;
        }

    pub next : Next find m₀ h k m a i
    next =
        record {
          below = laws.below Read a 16 _ here.found-there;
          performable = may;
          progress = further;
        }
