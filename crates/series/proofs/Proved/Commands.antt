-- The commands of a stretch that is permitted: no destination meets an entry, and they store what the pieces store (paper 01, "Plans", demand 3).
use Rattle.std.specs.Prelude.{◌≡◌, ℕ, suc, ◌+◌, ◌*◌, ◌≤◌, length, take, drop}
use Rattle.std.proofs.Math.Path.{refl, ap, sym}
use Rattle.std.proofs.Common.{◌∙◌, add-zero, arith}
use mathlib.Core.List.{List, [], ◌∷◌}
use Rattle.std.proofs.Math.Nat.{add_assoc}
use Rattle.words.specs.Choice.{All}
use Rattle.words.proofs.RangeLaws.{apart-part, misses-part}
use Rattle.word_blocks.proofs.RepeatLaws.{filling-whole}
use Rattle.words.specs.Store.{store}
use Rattle.memory_region.specs.declared.region.Right.TheVariants.{Read, Write}
use Rattle.outcome.specs.Outcome.{Ending}
use Rattle.memory_map.specs.Lookup.{Lookup, at}
use Rattle.memory_map.proofs.LookupLaws.{Lawful}
use Rattle.plan.specs.Plan.{Piece, put, fill, run}
use Rattle.plan.specs.Packable.{Packable}
use Rattle.plan.specs.Meaning.{allowed, permit, effect, effects, stretch, runs, Stopped, or_deny, finish}
use Rattle.plan.proofs.MeaningLaws.{permitted-at, stopped-first}
use Rattle.aplx_image.specs.Carries.{Says, Carries}
use Rattle.aplx_image.proofs.CarriesLaws.{says-whole}
use Rattle.aplx_copy.proofs.CopyLaws.{copied-apart}
use Rattle.aplx_command.specs.Command.{Command}
use Rattle.aplx_look.specs.Walk.{commands}
use Rattle.aplx_look.specs.Look.{meets_header, header_test}
use Rattle.aplx.specs.Load.{perform, perform_all}
use Rattle.series.specs.Medium.{Misses}
use Rattle.series.proofs.Proved.Kept.{effects-keep}
use Rattle.series.proofs.Proved.Preserved.{misses-beside}
use Rattle.series.proofs.Proved.Entries.{ordered, index_of, part-found, part_held, command-held}

-- memory of n bytes that holds the image at place p
abbrev Held : List ℕ → ℕ → ℕ → List ℕ → Type 0
Held image p n m = (length m ≡ n) × (take (length image) (drop p m) ≡ image)

-- ---- a stretch that is permitted
-- the commands before the stop
abbrev pub orders : ℕ → (image : List ℕ) (k : ℕ) (qs : List Piece) → Carries image k qs → List Command
orders a image k [] c = []
orders a image k (put d b ∷ qs) c = ordered a image k (put d b) c.0 ∷ orders a image (k + 16) qs c.1
orders a image k (fill d l w ∷ qs) c = ordered a image k (fill d l w) c.0 ∷ orders a image (k + 16) qs c.1
orders a image k (run x ∷ qs) c = []

module _ (a : ℕ) (image : List ℕ) where
  -- they and the stop lie within the image
  pub orders-inside : (qs : List Piece) (k : ℕ) (c : Carries image k qs) → k + 16 * suc (length (orders a image k qs c)) ≤ length image
  orders-inside [] k c = omega (arith, c.entry.whole)
  orders-inside (put d b ∷ qs) k c = omega (arith, orders-inside qs (k + 16) c.1)
  orders-inside (fill d l w ∷ qs) k c = omega (arith, orders-inside qs (k + 16) c.1)
  orders-inside (run x ∷ qs) k c = omega (arith, c.0.entry.whole)

  -- the index of the stop
  pub orders-count : (find : Lookup) (qs : List Piece) (k t : ℕ) (c : Carries image k qs) → Stopped (finish find (stretch qs) t)
      → index_of (finish find (stretch qs) t) ≡ t + length (orders a image k qs c)
  unfolding finish stretch
  orders-count find [] k t c s = sym (add-zero t)
  orders-count find (put d b ∷ qs) k t c s =
      let u = (stopped-first (permit find (put d b)) t _ s).1 in
      rw u (orders-count find qs (k + 16) (suc t) c.1 (rw u at s) ∙ omega arith)
  orders-count find (fill d l w ∷ qs) k t c s =
      let u = (stopped-first (permit find (fill d l w)) t _ s).1 in
      rw u (orders-count find qs (k + 16) (suc t) c.1 (rw u at s) ∙ omega arith)
  orders-count find (run x ∷ qs) k t c s =
      let u = (stopped-first (permit find (run x)) t (runs x t) s).1 in
      rw u (sym (add-zero t))

  -- ---- no destination meets l addresses from h on, which lie within the image
  module _ (h l : ℕ) (x : a ≤ h) (y : h + l ≤ a + length image) where
    pub header-missed : (qs : List Piece) (k : ℕ) (c : Carries image k qs) → All (Misses a (length image)) qs
        → (j : ℕ) (e : Ending) → header_test h l (orders a image k qs c) j e ≡ e
    unfolding header_test meets_header
    header-missed [] k c o j e = refl
    header-missed (put d b ∷ qs) k c o j e = rw (misses-part d (length b) a (length image) h l x y o.0) (header-missed qs (k + 16) c.1 o.1 (suc j) e)
    header-missed (fill d n w ∷ qs) k c o j e = rw (misses-part d n a (length image) h l x y o.0) (header-missed qs (k + 16) c.1 o.1 (suc j) e)
    header-missed (run z ∷ qs) k c o j e = refl

-- an image at address a, which is found at place p of a buffer of n bytes
module _ {find : Lookup} {n : ℕ} (laws : Lawful find n) (image : List ℕ) (a p : ℕ) (readable : find Read a (length image) ≡ at p) where
  -- ---- the commands that the walk passed
  module _ (m : List ℕ) (held : take (length image) (drop p m) ≡ image) where
    commands-first : (x : Piece) (k j : ℕ) → Packable 32 x → (s : Says image k x) → {cs : List Command} → commands find m (a + (k + 16)) j ≡ cs
        → commands find m (a + k) (suc j) ≡ ordered a image k x s ∷ cs
    unfolding commands
    commands-first x k j g s {cs} e =
        rw
        (part-found laws image a p readable k 16 (omega arith) (says-whole image k x s), command-held laws image a p readable m held k x g s, add_assoc, e)

    pub commands-held : (qs : List Piece) (k : ℕ) → All (Packable 32) qs → (c : Carries image k qs)
        → commands find m (a + k) (length (orders a image k qs c)) ≡ orders a image k qs c
    commands-held [] k g c = unfold commands in refl
    commands-held (put d b ∷ qs) k g c = commands-first (put d b) k _ g.0 c.0 (commands-held qs (k + 16) g.1 c.1)
    commands-held (fill d l w ∷ qs) k g c = commands-first (fill d l w) k _ g.0 c.0 (commands-held qs (k + 16) g.1 c.1)
    commands-held (run x ∷ qs) k g c = unfold commands in refl

  -- ---- a command does what its piece does
  perform-put : (m : List ℕ) → Held image p n m → (k d : ℕ) (b : List ℕ) → Packable 32 (put d b) → (s : Says image k (put d b))
      → Misses a (length image) (put d b) → (q : ℕ) → find Write d (length b) ≡ at q
      → perform find (ordered a image k (put d b) s) m ≡ store m q b
  unfolding perform
  perform-put m held k d b g s o q f =
      let x = laws.inside Write d (length b) q f in
      let r = part-found laws image a p readable s.source (length b) g.some s.inside in
      let y = laws.inside Read (a + s.source) (length b) (p + s.source) r in
      let z = apart-part (p + s.source) (length b) q (length b) (misses-beside laws a (length image) p readable (put d b) o q f) (omega arith) (omega (arith, s.inside)) (omega arith) (omega arith) in
      let e = part_held laws image a p readable m held.1 s.source (length b) s.inside ∙ s.bytes in
      rw (f, r) (copied-apart (length b) q (p + s.source) m (omega (arith, held.0)) (omega (arith, held.0)) (omega (arith, g.whole)) z ∙ ap (store m q) e)

  perform-piece : (m : List ℕ) → Held image p n m → (k : ℕ) (x : Piece) → Packable 32 x → (s : Says image k x)
      → Misses a (length image) x → permit find x ≡ allowed → perform find (ordered a image k x s) m ≡ effect find x m
  unfolding permit effect
  perform-piece m held k (put d b) g s o v =
      let f = permitted-at (find Write d (length b)) v in
      rw f (perform-put m held k d b g s o _ f)
  perform-piece m held k (fill d l w) g s o v =
      let f = permitted-at (find Write d l) v in
      unfold perform in (rw (f, filling-whole l w (omega (arith, g.0.whole))))
  perform-piece m held k (run x) g s o v = unfold perform in refl

  -- one piece of a stretch, then the others
  perform-first : (m : List ℕ) → Held image p n m → (k t : ℕ) (x : Piece) → Packable 32 x → (s : Says image k x) → Misses a (length image) x
      → (cs : List Command) (qs : List Piece) → Stopped (or_deny (permit find x) t (finish find qs (suc t)))
      → ((m : List ℕ) → Held image p n m → Stopped (finish find qs (suc t)) → perform_all find cs m ≡ effects find qs m)
      → perform_all find (ordered a image k x s ∷ cs) m ≡ effects find (x ∷ qs) m
  unfolding perform_all effects
  perform-first m held k t x g s o cs qs v rest =
      let u = stopped-first (permit find x) t (finish find qs (suc t)) v in
      let e = effects-keep find p (length image) (x ∷ []) m (rw held.0 laws) (misses-beside laws a (length image) p readable x o, tt) in
      ap (perform_all find cs) (perform-piece m held k x g s o u.0)
      ∙ rest (effect find x m) (e.length-is ∙ held.0, e.bytes-are ∙ held.1) (rw u.1 at v)

  pub perform-stretch : (qs : List Piece) (k t : ℕ) → All (Packable 32) qs → (c : Carries image k qs) → All (Misses a (length image)) qs
      → (m : List ℕ) → Held image p n m → Stopped (finish find (stretch qs) t)
      → perform_all find (orders a image k qs c) m ≡ effects find (stretch qs) m
  unfolding finish stretch
  perform-stretch [] k t g c o m held v = unfold perform_all effects in refl
  perform-stretch (put d b ∷ qs) k t g c o m held v =
      perform-first m held k t (put d b) g.0 c.0 o.0 _ (stretch qs) v (perform-stretch qs (k + 16) (suc t) g.1 c.1 o.1)
  perform-stretch (fill d l w ∷ qs) k t g c o m held v =
      perform-first m held k t (fill d l w) g.0 c.0 o.0 _ (stretch qs) v (perform-stretch qs (k + 16) (suc t) g.1 c.1 o.1)
  perform-stretch (run x ∷ qs) k t g c o m held v = unfold perform_all effects effect in refl
