-- The entries of an image that carries pieces and lies in memory: what each says, and the walk over a stretch of them (paper 01, "Plans", demand 3).
use Rattle.std.specs.Prelude.{◌≡◌, Bool, length, take, drop, if◌then◌else◌}
use Rattle.std.proofs.Math.Path.{refl}
use Rattle.std.proofs.Common.{ap, sym, ◌∙◌, add_assoc, drop-drop}
use Rattle.std.proofs.Math.Bool.{true, false}
use mathlib.Core.List.{List, [], ◌∷◌}
use Prim.Native.Nat.{ℕ, zero, suc, ◌+◌, ◌-◌, ◌*◌, ◌%◌, ◌≤◌, ◌<◌}
use native.Mathlib.Omega.{arith}
use borrow.Author.Tests.{eq-eqb, ne_eqb}
use Rattle.words.specs.Choice.{All}
use Rattle.words.specs.Bytes.{little_endian_at}
use Rattle.words.proofs.BytesLaws.{little-at-part}
use Rattle.words.proofs.RoundLaws.{round_whole}
use Rattle.words.proofs.StoreLaws.{part-of-front}
use Rattle.memory_region.specs.declared.region.Right.TheVariants.{Read, Write}
use Rattle.outcome.specs.Outcome.{end, stops}
use Rattle.memory_map.specs.Lookup.{Lookup, Found, at, refused}
use Rattle.memory_map.proofs.LookupLaws.{Lawful}
use Rattle.memory_map.specs.Entry as entry
use Rattle.memory_map.specs.Entry.{legal, kind_at, run_entry}
use Rattle.plan.specs.Plan.{Piece, put, fill, run}
use Rattle.plan.specs.Packable.{Packable}
use Rattle.plan.specs.Meaning.{ranged, entered, permit, stretch, Finish, ends, runs, denies, or_deny, finish}
use Rattle.aplx_image.specs.Carries.{EntryAt, Says, EndAt, Carries}
use Rattle.aplx_command.specs.Command as command
use Rattle.aplx_command.specs.Command.{Command, copy, exec, command_of, command_at}
use Rattle.aplx_look.specs.Walk.{goes, halts, permitted, run_of, other_command, tests, judge, Walk, after, walk_for}
use Rattle.series.specs.Medium.{aplx, ending_in}

-- the command of a piece's entry, in an image at address a
abbrev pub ordered : ℕ → (image : List ℕ) (k : ℕ) (x : Piece) → Says image k x → Command
ordered a image k (put d b) s = copy d (a + s.source) (length b)
ordered a image k (fill d l w) s = command.fill d l w
ordered a image k (run x) s = exec x

-- the index that the end of a stretch names
abbrev pub index_of : Finish → ℕ
index_of (ends j) = j
index_of (runs x j) = j
index_of (denies x j) = j

-- the walk of a load from piece i that ends so
abbrev pub walked_to : ℕ → List Piece → ℕ → Finish → Walk
walked_to a ps i x = record { count = index_of x - i; ending = ending_in (aplx a) ps i x }

-- an image at address a, which is found at place p of memory m and stands there
module _ {find : Lookup} {n : ℕ} (laws : Lawful find n) (image : List ℕ) (a p : ℕ) (readable : find Read a (length image) ≡ at p) where
  -- ---- one entry
  pub part-found : (k j : ℕ) → 0 < j → k + j ≤ length image → find Read (a + k) j ≡ at (p + k)
  part-found k j s h = laws.part Read a (length image) p k j readable s h

  module _ (m : List ℕ) (held : take (length image) (drop p m) ≡ image) where
    pub part_held : (k j : ℕ) → k + j ≤ length image → take j (drop (p + k) m) ≡ take j (drop k image)
    part_held k j h =
        rw (← drop-drop k p m, ← part-of-front k j (length image) (drop p m) h, held)

    word_held : (k : ℕ) → k + 4 ≤ length image → little_endian_at 4 m (p + k) ≡ little_endian_at 4 image k
    word_held k h =
        sym (little-at-part 4 (p + k) 4 m (omega arith)) ∙ ap (λ (l : List ℕ). little_endian_at 4 l 0) (part_held k 4 h) ∙ little-at-part 4 k 4 image (omega arith)

    module _ (k : ℕ) where
      words-held : (c x y z : ℕ) → EntryAt image k c x y z → command_at m (p + k) (a + k) ≡ command_of (a + k) c x y z
      unfolding command_at
      words-held c x y z e =
          let w0 = word_held k (omega arith) ∙ e.command in
          let w1 = word_held (k + 4) (omega arith) ∙ e.first in
          let w2 = word_held (k + 8) (omega arith) ∙ e.second in
          let w3 = word_held (k + 12) (omega arith) ∙ e.third in
          simp (add_assoc, w0, w1, w2, w3)

      pub command-held : (x : Piece) → Packable 32 x → (s : Says image k x) → command_at m (p + k) (a + k) ≡ ordered a image k x s
      unfolding command_of
      command-held (put d b) g s =
          let top = laws.below Read a (length image) p readable in
          let o : (a + k + s.offset) % 4294967296 ≡ a + s.source = omega (arith, s.from-here, s.inside) in
          words-held _ _ _ _ s.entry ∙ simp (o, round_whole (length b) g.whole)
      command-held (fill d l w) g s = words-held _ _ _ _ s ∙ simp (round_whole l g.0.whole)
      command-held (run x) g s = words-held _ _ _ _ s.entry

      -- what its tests say, as entry j of the load
      module _ (j : ℕ) where
        judge-tests : (c : Command) → k + 16 ≤ length image → command_at m (p + k) (a + k) ≡ c → judge find m (a + k) j ≡ tests find (a + k) j c
        unfolding judge
        judge-tests c h e = simp (part-found k 16 (omega arith) h, e)

        judge-put : a % 4 ≡ 0 → (d : ℕ) (b : List ℕ) → Packable 32 (put d b) → Says image k (put d b)
            → judge find m (a + k) j ≡ permitted (find Write d (length b)) j goes
        unfolding tests
        judge-put aligned d b g s =
            let f = part-found s.source (length b) g.some s.inside in
            let o : (a + s.source) % 4 ≡ 0 = omega (arith, s.aligned) in
            judge-tests _ s.entry.whole (command-held (put d b) g s)
            ∙ simp (ne_eqb (length b) 0 (omega (arith, g.some)), eq-eqb _ _ g.aligned, eq-eqb _ _ o, f)

        judge-fill : (d l w : ℕ) → Packable 32 (fill d l w) → Says image k (fill d l w) → judge find m (a + k) j ≡ permitted (find Write d l) j goes
        unfolding tests
        judge-fill d l w g s =
            judge-tests _ s.whole (command-held (fill d l w) g s)
            ∙ simp (ne_eqb l 0 (omega (arith, g.0.some)), eq-eqb _ _ g.0.aligned)

        judge-run : (x : ℕ) → Packable 32 (run x) → Says image k (run x) → judge find m (a + k) j ≡ run_of (run_entry find x) (a + k) j
        unfolding tests
        judge-run x g s = judge-tests _ s.entry.whole (command-held (run x) g s)

        judge-end : EndAt image k → judge find m (a + k) j ≡ halts (stops (end j))
        unfolding command_of tests other_command
        judge-end s = judge-tests _ s.entry.whole (words-held _ _ _ _ s.entry)

    -- ---- the walk of a load from piece i, at piece t
    module _ (ps : List Piece) (i t : ℕ) (later : i ≤ t) where
      -- an entry that stores
      walk-store : (f d l : ℕ) (x : Finish) → judge find m (a + 16 * t) (t - i) ≡ permitted (find Write d l) (t - i) goes
          → walk_for f find m (a + 16 * suc t) (suc t - i) ≡ walked_to a ps i x
          → walk_for (suc f) find m (a + 16 * t) (t - i) ≡ walked_to a ps i (or_deny (ranged (find Write d l)) t x)
      unfolding walk_for
      walk-store f d l x e r =
          let u : a + 16 * t + 16 ≡ a + 16 * suc t = omega arith in
          let v : suc (t - i) ≡ suc t - i = omega arith in
          rw (e, u, v) (go (find Write d l))
        where
          go : (y : Found) → after (permitted y (t - i) goes) (t - i) (walk_for f find m (a + 16 * suc t) (suc t - i)) ≡ walked_to a ps i (or_deny (ranged y) t x)
          go (at q) = r
          go (refused y) = refl

      -- a run
      walk-run : (f x : ℕ) → judge find m (a + 16 * t) (t - i) ≡ run_of (run_entry find x) (a + 16 * t) (t - i)
          → walk_for (suc f) find m (a + 16 * t) (t - i) ≡ walked_to a ps i (or_deny (entered (run_entry find x)) t (runs x t))
      unfolding walk_for run_entry
      walk-run f x e = rw e (go (legal find x))
        where
          go : (b : Bool) → let y = if b then entry.entry (kind_at x) x else entry.refused 9 in
              after (run_of y (a + 16 * t) (t - i)) (t - i) (walk_for f find m (a + 16 * t + 16) (suc (t - i))) ≡ walked_to a ps i (or_deny (entered y) t (runs x t))
          go true = let u : a + 16 * suc t ≡ a + 16 * t + 16 = omega arith in rw u
          go false = refl

    pub walk-stretch : a % 4 ≡ 0 → (ps : List Piece) (i : ℕ) (qs : List Piece) (f t : ℕ) → i ≤ t → length qs < f → All (Packable 32) qs → Carries image (16 * t) qs
        → walk_for f find m (a + 16 * t) (t - i) ≡ walked_to a ps i (finish find (stretch qs) t)
    unfolding finish stretch permit
    walk-stretch aligned ps i qs zero t h l g c = absurd (omega arith)
    walk-stretch aligned ps i [] (suc f) t h l g c = unfold walk_for in (rw (judge-end (16 * t) (t - i) c))
    walk-stretch aligned ps i (put d b ∷ qs) (suc f) t h l g c =
        let u : 16 * t + 16 ≡ 16 * suc t = omega arith in
        walk-store ps i t h f d (length b) _ (judge-put (16 * t) (t - i) aligned d b g.0 c.0)
        (walk-stretch aligned ps i qs f (suc t) (omega arith) (omega arith) g.1 (rw u at c.1))
    walk-stretch aligned ps i (fill d n w ∷ qs) (suc f) t h l g c =
        let u : 16 * t + 16 ≡ 16 * suc t = omega arith in
        walk-store ps i t h f d n _ (judge-fill (16 * t) (t - i) d n w g.0 c.0)
        (walk-stretch aligned ps i qs f (suc t) (omega arith) (omega arith) g.1 (rw u at c.1))
    walk-stretch aligned ps i (run x ∷ qs) (suc f) t h l g c =
        walk-run ps i t h f x (judge-run (16 * t) (t - i) x g.0 c.0)
