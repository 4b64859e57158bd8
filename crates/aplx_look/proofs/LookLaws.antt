-- Laws of the look: what entries that passed their tests may do, and what an accepted load says.
use Rattle.std.specs.Prelude.{◌≡◌, refl, Bool, true, false, not, List, [], ℕ, suc, ◌*◌, ◌%◌, ◌≤◌, eqb, length, if◌then◌else◌}
use Rattle.std.proofs.Common.{◌∙◌, arith, eqb-true}
use Rattle.words.specs.Round.{round_up}
use Rattle.words.proofs.RoundLaws.{round-multiple}
use Rattle.words.specs.Bytes.{little_endian_at}
use Rattle.memory_region.specs.declared.region.Right.TheVariants.{Read, Write}
use Rattle.memory_map.specs.declared.map.Map.{Map}
use Rattle.outcome.specs.Outcome.{Stop, Ending, stops, refuses, accepted, outcome_at}
use Rattle.outcome.specs.Destinations.{stored_in}
use Rattle.memory_map.specs.Map.{sound}
use Rattle.memory_map.specs.Lookup.{Lookup, Found, at, refused, found, lookup}
use Rattle.memory_map.proofs.LookupLaws.{Lawful, found_at}
use Rattle.aplx_command.specs.Command.{Command, copy, fill, exec, other, command_of, command_at}
use Rattle.aplx_look.specs.Walk.{Verdict, goes, halts, permitted, tests, walk, commands}
use Rattle.aplx_look.specs.Walk.Laws.{Passed}
use Rattle.aplx_look.proofs.WalkLaws.{walk-passed, length-commands}
use Rattle.aplx_look.specs.Look.Header.{bytes_of}
use Rattle.aplx_look.proofs.LookHeader.{same_stop, clear-from}
use Rattle.aplx_look.specs.Look.Laws.{Ready, Permitted}
use Rattle.aplx_look.specs.Look.{destinations, header_test, tested, look_of, look, aplx_look, outcome_of_look}

-- ---- a command that passed its tests
not-halted : (t : Bool) (x : Ending) {v : Verdict} → (if t then halts x else v) ≡ goes → v ≡ goes
not-halted true x e = let z : ◌≡◌ {A = ℕ} 0 1 = cc in absurd (omega arith)
not-halted false x e = e

permitted-found : (f : Found) (i : ℕ) {v : Verdict} → permitted f i v ≡ goes → (found f ≡ true) × (v ≡ goes)
permitted-found (at p) i e = (refl, e)
permitted-found (refused x) i e = let z : ◌≡◌ {A = ℕ} 0 1 = cc in absurd (omega arith)

pub goes-permitted : (find : Lookup) (a i : ℕ) (c : Command) → tests find a i c ≡ goes → Permitted find c
unfolding tests
goes-permitted find a i (copy d s n) e =
    let x = not-halted (eqb n 0) (refuses 5 i) e in
    let y = not-halted (not (eqb (d % 4) 0)) (refuses 3 i) x in
    let z = not-halted (not (eqb (s % 4) 0)) (refuses 3 i) y in
    let p = permitted-found (find Write d n) i z in
    (p.0, (permitted-found (find Read s n) i p.1).0)
goes-permitted find a i (fill d n w) e =
    let x = not-halted (eqb n 0) (refuses 5 i) e in
    let y = not-halted (not (eqb (d % 4) 0)) (refuses 3 i) x in
    (permitted-found (find Write d n) i y).0
goes-permitted find a i (exec x) e = tt
goes-permitted find a i (other c) e = tt

-- lengths are multiples of 32
pub whole_words : (m : List ℕ) (p a : ℕ) → bytes_of (command_at m p a) % 4 ≡ 0
unfolding command_at command_of
whole_words m p a =
    let c = little_endian_at 4 m p in
    go (eqb c 1) (eqb c 2) (eqb c 3) (eqb c 4) _ _ _ _ _
  where
    rounded : (n : ℕ) → round_up n % 4 ≡ 0
    rounded n = omega (arith, round-multiple n)

    go :
        (q r s t : Bool) (c x y z o : ℕ)
        → bytes_of
        (if q then copy x y (round_up z) else if r then copy x o (round_up z) else if s then fill x (round_up y) z else if t then exec x else other c)
        % 4 ≡ 0
    go true r s t c x y z o = rounded z
    go false true s t c x y z o = rounded z
    go false false true t c x y z o = rounded y
    go false false false true c x y z o = refl
    go false false false false c x y z o = refl

pub goes-bytes : {find : Lookup} {n : ℕ} → Lawful find n → (a i : ℕ) (c : Command) → tests find a i c ≡ goes → bytes_of c ≤ 4294967280
goes-bytes {find} laws a i c e = go c (goes-permitted find a i c e)
  where
    below : (d k : ℕ) → found (find Write d k) ≡ true → k ≤ 4294967280
    below d k g = omega (arith, laws.below Write d k _ (found_at (find Write d k) g))

    go : (c : Command) → Permitted find c → bytes_of c ≤ 4294967280
    go (copy d s k) g = below d k g.0
    go (fill d k w) g = below d k g
    go (exec x) g = omega arith
    go (other c) g = omega arith

-- ---- the entries before a stop
pub ready :
    (find : Lookup) (m : List ℕ) (h k : ℕ) → Passed find m h k
    → {s : Stop} → header_test h (16 * suc k) (commands find m h k) 0 (stops s) ≡ stops s → Ready find m h k
ready find m h k p e = record { passed = p; clear = clear-from h (16 * suc k) find m k h 0 e }

-- ---- an accepted load
pub record Accepted (map : Map) (m : List ℕ) (h k : ℕ) : Type 0 where
  pub sound-map : sound map (length m) ≡ true
  pub aligned : h % 4 ≡ 0
  pub taken : k ≡ (walk (lookup map) m h).count
  pub commands-are : (aplx_look map m h).commands ≡ commands (lookup map) m h k
  pub is-ready : Ready (lookup map) m h k

accepted-tested :
    (h : ℕ) (cs : List Command) (x : Ending) (n b : ℕ) {s : Stop} {t u : ℕ} → outcome_at (tested h cs x) n b ≡ accepted s t u
    → (t ≡ n) × (header_test h (16 * suc (length cs)) cs 0 (stops s) ≡ stops s)
accepted-tested h cs (refuses r p) n b e = let z : ◌≡◌ {A = ℕ} 0 1 = cc in absurd (omega arith)
accepted-tested h cs (stops v) n b {s} {t} {u} e = go (header_test h (16 * suc (length cs)) cs 0 (stops v)) refl e
  where
    go :
        (y : Ending) → header_test h (16 * suc (length cs)) cs 0 (stops v) ≡ y → outcome_at y n b ≡ accepted s t u
        → (t ≡ n) × (header_test h (16 * suc (length cs)) cs 0 (stops s) ≡ stops s)
    go (refuses r p) q e = let z : ◌≡◌ {A = ℕ} 0 1 = cc in absurd (omega arith)
    go (stops w) q e =
        let x = same_stop h (16 * suc (length cs)) cs 0 q in
        (cc, cc)

pub accepted-look :
    (map : Map) (m : List ℕ) (h : ℕ) {t : Stop} {k b : ℕ} → outcome_of_look (aplx_look map m h) ≡ accepted t k b → Accepted map m h k
unfolding aplx_look look
accepted-look map m h {t} {k} {b} e = go (sound map (length m)) refl (eqb (h % 4) 0) refl e
  where
    go :
        (x : Bool) → sound map (length m) ≡ x → (y : Bool) → eqb (h % 4) 0 ≡ y
        → outcome_of_look
        (if x then if y then look_of h (commands (lookup map) m h (walk (lookup map) m h).count) (walk (lookup map) m h).ending
        else record { commands = []; ending = refuses 3 0 } else record { commands = []; ending = refuses 1 0 })
        ≡ accepted t k b → Accepted map m h k
    go false p y q e = let z : ◌≡◌ {A = ℕ} 0 1 = cc in absurd (omega arith)
    go true p false q e = let z : ◌≡◌ {A = ℕ} 0 1 = cc in absurd (omega arith)
    go true p true q e =
        let n = (walk (lookup map) m h).count in
        let cs = commands (lookup map) m h n in
        let l : length cs ≡ n = length-commands (lookup map) m h n in
        let r = accepted-tested h cs (walk (lookup map) m h).ending (length cs) (stored_in (destinations cs)) e in
        let c : k ≡ n = r.0 ∙ l in
        record {
          sound-map = p;
          aligned = eqb-true (h % 4) 0 q;
          taken = c;
          commands-are = rw c (simp (p, q));
          is-ready = rw c (ready (lookup map) m h n (walk-passed (lookup map) m h) (rw l at r.1));
        }
