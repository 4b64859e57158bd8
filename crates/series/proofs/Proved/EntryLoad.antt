-- One load of an image that carries pieces and lies in memory leaves what the pieces mean (paper 01, "Plans", demand 3).
use Rattle.std.specs.Prelude.{◌≡◌, true, List, ℕ, suc, ◌+◌, ◌-◌, ◌*◌, ◌%◌, ◌≤◌, length, drop}
use Rattle.std.proofs.Math.Path.{refl}
use Rattle.std.proofs.Common.{ap, ◌∙◌, zero-add, eq-eqb}
use native.Mathlib.Omega.{arith}
use Rattle.std.proofs.Math.ListN.{length-drop}
use Rattle.words.specs.Choice.{All}
use Rattle.words.proofs.ChoiceLaws.{all_drop}
use Rattle.memory_map.specs.declared.map.Map.{Map}
use Rattle.outcome.specs.Outcome.{Stop, Ending, stops, ending_of, memory_at}
use Rattle.outcome.proofs.OutcomeLaws.{ending_at}
use Rattle.memory_map.specs.Map.{sound}
use Rattle.memory_map.specs.Lookup.{Lookup, lookup}
use Rattle.memory_map.proofs.LookupLaws.{lawful}
use Rattle.plan.specs.Plan.{Piece}
use Rattle.plan.specs.Packable.{Packable}
use Rattle.plan.specs.Meaning.{effects, stretch, Finish, ends, runs, denies, Stopped, finish, meant, meaning}
use Rattle.aplx_image.specs.Carries.{Carries}
use Rattle.aplx_image.proofs.CarriesLaws.{carries-drop}
use Rattle.aplx_command.specs.Command.{Command}
use Rattle.aplx_look.specs.Walk.{Walk, walk, commands}
use Rattle.aplx_look.specs.Look.{tested, look}
use Rattle.aplx.specs.Load.{perform_all, load_with}
use Rattle.aplx.proofs.LoadLaws.{sound-load}
use Rattle.series.specs.Series.{Left}
use Rattle.series.specs.Medium.{aplx, ending_in, Misses, InMemory}
use Rattle.series.specs.Software.{ours}
use Rattle.series.specs.Demand.{loads, means}
use Rattle.series.proofs.Proved.Entries.{index_of, walked_to, walk-stretch}
use Rattle.series.proofs.Proved.Commands.{orders, orders-inside, orders-count, header-missed, commands-held, perform-stretch}

-- what a look at these commands with this end leaves, as compared
abbrev leaves : Lookup → ℕ → List Command → Ending → List ℕ → Left
leaves find h cs x m = record { memory = memory_at (tested h cs x) m (perform_all find cs m); ending = tested h cs x }

-- an aligned load, by its walk
load-leaves : (find : Lookup) (m : List ℕ) (h : ℕ) → h % 4 ≡ 0 → (w : Walk) → walk find m h ≡ w → let l = load_with find m h in
    ◌≡◌ {A = Left} (record { memory = l.memory; ending = ending_of l.outcome }) (leaves find h (commands find m h w.count) w.ending m)
unfolding load_with look
load-leaves find m h o w e = rw (eq-eqb _ _ o, e, ending_at)

module _ (a : ℕ) (map : Map) (ps : List Piece) (image m : List ℕ) (i : ℕ) (few : length ps ≤ 255) (packable : All (Packable 32) ps)
    (carried : Carries image 0 ps) (is-sound : sound map (length m) ≡ true) (there : InMemory a map ps image m) (index : i ≤ length ps)
  where
    -- the pieces from i on, and their entries
    abbrev rest : List Piece
    rest = drop i ps

    rest-carried : Carries image (16 * i) rest
    rest-carried = rw (zero-add (16 * i)) at (carries-drop image i 0 ps index carried)

    rest-packable : All (Packable 32) rest
    rest-packable = all_drop (Packable 32) i ps packable

    rest-misses : All (Misses a (length image)) rest
    rest-misses = all_drop (Misses a (length image)) i ps there.clear

    walk-rest : walk (lookup map) m (a + 16 * i) ≡ walked_to a ps i (finish (lookup map) (stretch rest) i)
    unfolding walk
    walk-rest =
        let z : i - i ≡ 0 = omega arith in
        rw z at (walk-stretch (lawful map (length m) is-sound) image a there.place there.readable m there.intact there.aligned
        ps i rest 256 i (omega arith) (omega (arith, length-drop i ps)) rest-packable rest-carried)

    -- a stretch that is permitted
    stopped-leaves : (x : Finish) → finish (lookup map) (stretch rest) i ≡ x → Stopped x → (s : Stop)
        → leaves (lookup map) (a + 16 * i) (commands (lookup map) m (a + 16 * i) (index_of x - i)) (stops s) m
        ≡ record { memory = effects (lookup map) (stretch rest) m; ending = stops s }
    stopped-leaves x e v s =
        let laws = lawful map (length m) is-sound in
        let cs = orders a image (16 * i) rest rest-carried in
        let w : Stopped (finish (lookup map) (stretch rest) i) = rw e v in
        let l : index_of x - i ≡ length cs = omega (arith, ap index_of e, orders-count a image (lookup map) rest (16 * i) i rest-carried w) in
        let t = header-missed a image (a + 16 * i) (16 * suc (length cs)) (omega arith) (omega (arith, orders-inside a image rest (16 * i) rest-carried))
        rest (16 * i) rest-carried rest-misses 0 (stops s) in
        let r = perform-stretch laws image a there.place there.readable rest (16 * i) i rest-packable rest-carried rest-misses
        m (refl, there.intact) w in
        rw
        (l, commands-held laws image a there.place there.readable m there.intact rest (16 * i) rest-packable rest-carried, t)
        (λ d. record { memory = r d; ending = stops s })

    pub AplxLoad : loads ours (aplx a) map ps image i m ≡ means (aplx a) map ps i m
    unfolding meaning
    AplxLoad =
        rw
        (sound-load map m (a + 16 * i) is-sound)
        (load-leaves (lookup map) m (a + 16 * i) (omega (arith, there.aligned)) _ walk-rest ∙ go (finish (lookup map) (stretch rest) i) refl)
      where
        go : (x : Finish) → finish (lookup map) (stretch rest) i ≡ x → let y = meant x m (effects (lookup map) (stretch rest) m) in
            leaves (lookup map) (a + 16 * i) (commands (lookup map) m (a + 16 * i) (index_of x - i)) (ending_in (aplx a) ps i x) m
            ≡ record { memory = y.memory; ending = ending_in (aplx a) ps i y.finish }
        go (ends j) e = stopped-leaves (ends j) e tt _
        go (runs x j) e = stopped-leaves (runs x j) e tt _
        go (denies x j) e = refl
