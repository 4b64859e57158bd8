-- What follows from demand 3, for any software of which it holds: memory outside the destinations is untouched, the image is intact after
-- every load, and resuming from index 0 on leaves what the whole plan would leave.
use Rattle.std.specs.Prelude.{◌≡◌, refl, take}
use Rattle.std.proofs.Math.Path.{ap, sym}
use Rattle.std.proofs.Common.{◌∙◌, drop_at, take_at}
use mathlib.Core.List.{List, [], ◌∷◌, ◌++◌}
use Prim.Native.Nat.{ℕ, zero, suc, ◌+◌, ◌≤◌}
use native.Mathlib.Omega.{arith}
use Rattle.std.proofs.Math.ListN.{length, drop, get_or, length-append, length-drop}
use Rattle.std.proofs.Math.Seq.{drop-drop, drop-append-add}
use Rattle.words.specs.Choice.{All}
use Rattle.words.proofs.ChoiceLaws.{all_drop, all_take}
use Rattle.memory_map.specs.declared.map.Map.{Map}
use Rattle.outcome.specs.Outcome as outcome
use Rattle.outcome.specs.Outcome.{Kind, end, stops}
use Rattle.memory_map.specs.Lookup.{lookup}
use Rattle.memory_map.proofs.LookupLaws.{lawful}
use Rattle.plan.specs.Plan.{Piece, put, fill, run}
use Rattle.plan.specs.Meaning.{allowed, permit, effect, effects, stretch, Meant, meaning}
use Rattle.plan.proofs.MeaningLaws.{Stores, effects-append, means-end, means-run}
use Rattle.series.specs.Series.{Step, changed, Left, series}
use Rattle.series.specs.Medium.{Medium, start_of, mark_of, ending_in, Intact, Spares}
use Rattle.series.specs.Software.{Software, leaves}
use Rattle.series.specs.Demand.{loads, means, Granted}
use Rattle.series.proofs.Proved.Kept.{Beside, meaning-keeps}
use Rattle.series.proofs.Proved.Preserved.{Before, after-load, after-changes}
use Rattle.series.specs.Resume.{further, resumed}

-- ---- the parts of a plan: pieces that store, then the end or a run
data Parts : List Piece → Type 0 where
  last : (qs : List Piece) → All Stores qs → Parts (qs ++ [])
  more : (qs : List Piece) (a : ℕ) (rs : List Piece) → All Stores qs → Parts (qs ++ run a ∷ rs)

parts : (ps : List Piece) → Parts ps
parts [] = last [] tt
parts (run a ∷ ps) = more [] a ps tt
parts (put a d ∷ ps) = add (parts ps)
  where
    add : {ps : List Piece} → Parts ps → Parts (put a d ∷ ps)
    add (last qs s) = last (put a d ∷ qs) (tt, s)
    add (more qs x rs s) = more (put a d ∷ qs) x rs (tt, s)
parts (fill a n w ∷ ps) = add (parts ps)
  where
    add : {ps : List Piece} → Parts ps → Parts (fill a n w ∷ ps)
    add (last qs s) = last (fill a n w ∷ qs) (tt, s)
    add (more qs x rs s) = more (fill a n w ∷ qs) x rs (tt, s)

-- software of which demand 3 holds, with this map and an image of these pieces
module _ (s : Software) (k : Medium) (map : Map) (ps : List Piece) (image : List ℕ)
    (same : (memory : List ℕ) (steps : List Step) → Granted k map ps image memory steps → series (loads s k map ps image) steps memory ≡ series (means k map ps) steps memory)
  where
    -- ---- one load
    module _ (i : ℕ) (h : i ≤ length ps) (m : List ℕ) (b : Before k map ps image m) where
      pub one-load : loads s k map ps image i m ≡ means k map ps i m
      unfolding series
      one-load =
          let step : Step = record { index = i; changes = [] } in
          let g : Granted k map ps image m (step ∷ []) = record { sound-map = b.safe; intact = b.intact; indices = (h, tt); alone = (tt, tt) } in
          ap (λ (l : List Left). get_or l 0 (loads s k map ps image i m)) (same m (step ∷ []) g)

      -- the n bytes from place q on, where the pieces of the stretch store none of them
      pub untouched : (q n : ℕ) → All (Beside (lookup map) q n) (stretch (drop i ps))
          → take n (drop q (loads s k map ps image i m).memory) ≡ take n (drop q m)
      untouched q n o =
          ap (λ (l : Left). take n (drop q l.memory)) one-load
          ∙ (meaning-keeps (lookup map) q n ps i m (lawful map (length m) b.safe) o).bytes-are

    -- ---- after every load
    means-intact : (steps : List Step) (m : List ℕ) → All (λ t. All (Spares k map image) t.changes) steps → Before k map ps image m
        → All (λ l. Intact k map ps image l.memory) (series (means k map ps) steps m)
    unfolding series
    means-intact [] m o b = tt
    means-intact (t ∷ ts) m o b =
        let a = after-load map ps image m k t.index b in
        let n = (means k map ps t.index m).memory in
        (a.intact, means-intact ts (changed t.changes n) o.1 (after-changes map ps image n k t.changes o.0 a))

    -- the image is intact
    pub still-intact : (memory : List ℕ) (steps : List Step) → Granted k map ps image memory steps
        → All (λ l. Intact k map ps image l.memory) (series (loads s k map ps image) steps memory)
    still-intact memory steps g =
        rw (same memory steps g) (means-intact steps memory g.alone (record { safe = g.sound-map; intact = g.intact }))

    -- ---- resuming
    -- what the last load leaves: this memory, and the end behind the last piece, as a load from some index names it
    pub record Ended (memory : List ℕ) (l : Left) : Type 0 where
      pub memory-is : l.memory ≡ memory
      pub from : ℕ
      pub ending-is : l.ending ≡ stops (end (mark_of k ps from (length ps)))

    module _ (permitted : All (λ p. permit (lookup map) p ≡ allowed) ps) where
      -- a load that reports the end is the last
      ended : (f o : ℕ) (m : List ℕ) {n : List ℕ} {p : ℕ} → leaves s k map image o m ≡ record { memory = n; ending = stops (end p) }
          → resumed f (leaves s k map image) o m ≡ record { memory = n; ending = stops (end p) }
      unfolding resumed
      ended zero o m e = e
      ended (suc f) o m e = ap (λ (l : Left). further l.ending l (resumed f (leaves s k map image))) e

      -- a load that stops at a run is followed by one from where it says
      followed : (f o : ℕ) (m : List ℕ) {n : List ℕ} {x : Kind} {a r : ℕ} → leaves s k map image o m ≡ record { memory = n; ending = stops (outcome.run x a r) }
          → resumed (suc f) (leaves s k map image) o m ≡ resumed f (leaves s k map image) r n
      unfolding resumed
      followed f o m e = ap (λ (l : Left). further l.ending l (resumed f (leaves s k map image))) e

      -- the load from index i, with f resumes left, whose stretch begins with the pieces qs that store
      module _ (f i : ℕ) (m : List ℕ) (h : i ≤ length ps) (b : Before k map ps image m) (qs : List Piece) (stores : All Stores qs) where
        leads : (rs : List Piece) → drop i ps ≡ qs ++ rs → All (λ p. permit (lookup map) p ≡ allowed) (qs ++ rs)
        leads rs e = rw e at (all_drop (λ p. permit (lookup map) p ≡ allowed) i ps permitted)

        front : (rs : List Piece) → drop i ps ≡ qs ++ rs → All (λ p. permit (lookup map) p ≡ allowed) qs
        front rs e = rw (take_at qs rs (length qs) refl) at (all_take (λ p. permit (lookup map) p ≡ allowed) (length qs) (qs ++ rs) (leads rs e))

        -- what it leaves is what its meaning is
        leaves-meant : {w : Meant} → meaning (lookup map) ps i m ≡ w
            → leaves s k map image (start_of k ps i) m ≡ record { memory = w.memory; ending = ending_in k ps i w.finish }
        leaves-meant e =
            one-load i h m b ∙ ap (λ (w : Meant). record { memory = w.memory; ending = ending_in k ps i w.finish }) e

        last-load : drop i ps ≡ qs ++ []
            → Ended (effects (lookup map) (drop i ps) m) (resumed f (leaves s k map image) (start_of k ps i) m)
        unfolding effects
        last-load e =
            let l = ended f (start_of k ps i) m (leaves-meant (means-end (lookup map) ps i m qs stores (front [] e) e)) in
            let n : i + length qs ≡ length ps = omega (arith, length-drop i ps, ap length e, length-append qs []) in
            record {
              memory-is = ap (λ (x : Left). x.memory) l ∙ sym (rw e (effects-append (lookup map) qs [] m));
              from = i;
              ending-is = ap (λ (x : Left). x.ending) l ∙ ap (λ (j : ℕ). stops (end (mark_of k ps i j))) n;
            }

        more-load : (a : ℕ) (rs : List Piece) → drop i ps ≡ qs ++ run a ∷ rs
            → ((j : ℕ) (n : List ℕ) → j ≤ length ps → drop j ps ≡ rs → Before k map ps image n
            → Ended (effects (lookup map) rs n) (resumed f (leaves s k map image) (start_of k ps j) n))
            → Ended (effects (lookup map) (drop i ps) m) (resumed (suc f) (leaves s k map image) (start_of k ps i) m)
        unfolding effects effect
        more-load a rs e next =
            let j = suc (i + length qs) in
            let n = effects (lookup map) qs m in
            let r : permit (lookup map) (run a) ≡ allowed = (rw (drop_at qs (run a ∷ rs) (length qs) refl) at (all_drop (λ p. permit (lookup map) p ≡ allowed) (length qs) (qs ++ run a ∷ rs) (leads (run a ∷ rs) e))).0 in
            let w = means-run (lookup map) ps i m qs stores (front (run a ∷ rs) e) a rs e r in
            let l = followed f (start_of k ps i) m (leaves-meant w) in
            let x : j ≤ length ps = omega (arith, length-drop i ps, ap length e, length-append qs (run a ∷ rs)) in
            let u : j ≡ i + (length qs + 1) = omega arith in
            let y : drop j ps ≡ rs = rw (u, ← drop-drop (length qs + 1) i ps, e) (drop-append-add qs (run a ∷ rs) 1) in
            let z : Before k map ps image n = rw (ap (λ (v : Meant). v.memory) w) at (after-load map ps image m k i b) in
            rw (l, e, effects-append (lookup map) qs (run a ∷ rs) m) (next j n x y z)

      resume-from : (f i : ℕ) (m : List ℕ) → i ≤ length ps → length (drop i ps) ≤ f → Before k map ps image m
          → Ended (effects (lookup map) (drop i ps) m) (resumed f (leaves s k map image) (start_of k ps i) m)
      resume-from zero i m h n b = go (drop i ps) refl (parts (drop i ps))
        where
          go : (rest : List Piece) → drop i ps ≡ rest → Parts rest
              → Ended (effects (lookup map) (drop i ps) m) (resumed zero (leaves s k map image) (start_of k ps i) m)
          go _ e (last qs stores) = last-load zero i m h b qs stores e
          go _ e (more qs a rs stores) = absurd (omega (arith, ap length e, length-append qs (run a ∷ rs)))
      resume-from (suc f) i m h n b = go (drop i ps) refl (parts (drop i ps)) (resume-from f)
        where
          go : (rest : List Piece) → drop i ps ≡ rest → Parts rest
              → ((j : ℕ) (m : List ℕ) → j ≤ length ps → length (drop j ps) ≤ f → Before k map ps image m
              → Ended (effects (lookup map) (drop j ps) m) (resumed f (leaves s k map image) (start_of k ps j) m))
              → Ended (effects (lookup map) (drop i ps) m) (resumed (suc f) (leaves s k map image) (start_of k ps i) m)
          go _ e (last qs stores) rest = last-load (suc f) i m h b qs stores e
          go _ e (more qs a rs stores) rest =
              more-load f i m h b qs stores a rs e (λ j new x y z. rw y at (rest j new x (omega (arith, ap length y, ap length e, length-append qs (run a ∷ rs))) z))

      -- resuming from index 0 until the end leaves what the whole plan would leave. No more resumes are needed than there are pieces
      pub resumed-whole : (m : List ℕ) → Before k map ps image m
          → Ended (effects (lookup map) ps m) (resumed (length ps) (leaves s k map image) (start_of k ps 0) m)
      resumed-whole m b = resume-from (length ps) 0 m (omega arith) (omega arith) b
