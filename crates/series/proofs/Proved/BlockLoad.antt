-- Demand 3 for one load of a serial ROM image: the walk from a piece's block on, and what it stores.
use Rattle.std.specs.Prelude.{◌≡◌, Bool, true, false, take, get_or, if◌then◌else◌}
use Rattle.std.proofs.Math.Path.{refl, ap}
use Rattle.std.proofs.Common.{sym, ◌∙◌, add-zero, arith, length-append, length-drop, get_or-drop}
use mathlib.Core.List.{List, [], ◌∷◌, ◌++◌, append_assoc}
use Prim.Native.Nat.{ℕ, zero, suc, ◌+◌, ◌-◌, ◌*◌, ◌/◌, ◌≤◌, ◌<◌}
use Rattle.std.proofs.Math.ListN.{length, drop}
use Rattle.std.proofs.Math.Seq.{take_at, drop_at, drop-drop}
use borrow.Author.Tests.{le-ltb}
use Rattle.words.specs.Choice.{All}
use Rattle.words.proofs.ChoiceLaws.{all_drop}
use Rattle.words.specs.Bytes.{big_endian, big_endian_at}
use Rattle.words.proofs.BytesLaws.{length-big_endian, big-at-drop, big-at-behind, big-at-front}
use Rattle.word_blocks.specs.Repeat.{filling}
use Rattle.word_blocks.proofs.RepeatLaws.{length-filling}
use Rattle.word_blocks.specs.Swap.{swap_words}
use Rattle.word_blocks.proofs.SwapLaws.{swap-swap, length-swap}
use Rattle.memory_region.specs.declared.region.Right.TheVariants.{Write}
use Rattle.memory_map.specs.declared.map.Map.{Map}
use Rattle.outcome.specs.Outcome.{end, stops, memory_at}
use Rattle.outcome.proofs.OutcomeLaws.{ending_at}
use Rattle.memory_map.specs.Map.{sound}
use Rattle.memory_map.specs.Lookup as map
use Rattle.memory_map.specs.Lookup.{Lookup, Found, lookup}
use Rattle.memory_map.specs.Entry as entry
use Rattle.memory_map.specs.Entry.{legal, kind_at, run_entry}
use Rattle.srom.specs.Walk.{halt, placed, run_of, item_at, Walk, walk}
use Rattle.srom.proofs.WalkItems.{at-pad, at_block, at-end, run-block, whole-block}
use Rattle.srom.proofs.WalkLaws.{walk-pad, walk_block, walk-halt}
use Rattle.srom.specs.Load.{store_blocks, look, load_with}
use Rattle.srom.proofs.LoadLaws.{sound-load}
use Rattle.plan.specs.Plan.{Piece, put, fill, run}
use Rattle.plan.specs.Packable.{Sized, Packable}
use Rattle.plan.proofs.PlanSums.{bytes_most}
use Rattle.plan.specs.Meaning.{ranged, entered, store_at, permit, effect, effects, stretch, Finish, runs, or_deny, finish, meant, meaning}
use Rattle.srom_pack.specs.Image.{block, block_of, blocks, srom_image, block_at}
use Rattle.srom_pack.proofs.ImageLaws as image
use Rattle.srom_pack.proofs.ImageLaws.{length-block, length-block_of, length-srom_image, drop-next, at_piece, next-block, first_block}
use Rattle.series.specs.Series.{Left}
use Rattle.series.specs.Medium.{srom, start_of, ending_in}
use Rattle.series.specs.Software.{ours}
use Rattle.series.specs.Demand.{loads, means}

-- ---- what stands at an offset where a block begins
-- the first byte of what begins at offset o
byte-at : (s : List ℕ) (o : ℕ) {x : ℕ} {t : List ℕ} → drop o s ≡ x ∷ t → (get_or s o 0 ≡ x) × (o < length s)
byte-at s o e = (rw (← add-zero o, ← get_or-drop o s 0 0, e), omega (arith, length-drop o s, ap length e))

module _ (s : List ℕ) (o a : ℕ) (d r : List ℕ) (e : drop o s ≡ block a d ++ r) where
  room : o + 7 + length d ≤ length s
  room =
      omega (arith, length-drop o s, ap length e, length-append (block a d) r, length-block a d)

  parts : drop o s ≡ 0x3a ∷ (big_endian 2 (length d / 4) ++ (big_endian 4 a ++ (swap_words d ++ r)))
  unfolding block
  parts = e ∙ simp append_assoc

  start : get_or s o 0 ≡ 0x3a
  start = (byte-at s o parts).0

  -- the number behind x
  number_at : (x y : List ℕ) (k p : ℕ) → drop o s ≡ x ++ y → length x ≡ p → big_endian_at k s (o + p) ≡ big_endian_at k y 0
  number_at x y k p q l =
      let z : length x + 0 ≡ p = omega arith in
      sym (big-at-drop k o p s) ∙ ap (λ (t : List ℕ). big_endian_at k t p) q ∙ rw z at (big-at-behind k 0 x y)

  length-is : length d / 4 < 65536 → big_endian_at 2 s (o + 1) ≡ length d / 4
  length-is h = number_at (0x3a ∷ []) _ 2 1 parts refl ∙ big-at-front 2 (length d / 4) _ h

  address_is : a < 4294967296 → big_endian_at 4 s (o + 3) ≡ a
  address_is h =
      number_at (0x3a ∷ big_endian 2 (length d / 4)) (big_endian 4 a ++ (swap_words d ++ r)) 4 3 parts (ap suc (length-big_endian 2 (length d / 4)))
      ∙ big-at-front 4 a _ h

  header : List ℕ
  header = 0x3a ∷ (big_endian 2 (length d / 4) ++ big_endian 4 a)

  length-header : length header ≡ 7
  unfolding header
  length-header = simp (length-append, length-big_endian)

  data_is : swap_words (take (length d) (drop (o + 7) s)) ≡ d
  unfolding header
  data_is =
      let f : drop o s ≡ header ++ (swap_words d ++ r) = parts ∙ simp append_assoc in
      rw (← drop-drop 7 o s, f, drop_at header (swap_words d ++ r) 7 length-header, take_at (swap_words d) r (length d) (length-swap d)) (swap-swap d)

  -- a block with data
  data-item : (find : Lookup) → Sized 4 a (length d) → item_at find s o ≡ placed (find Write a (length d)) a o (o + 7 + length d)
  data-item find h =
      let n : 4 * (length d / 4) ≡ length d = omega (arith, h.whole) in
      at_block find s o start (omega (arith, room))
      ∙ whole-block find s o {n = length d / 4} (rw n room) (length-is (omega (arith, h.most))) (omega (arith, h.some)) (address_is h.low) h.aligned
      ∙ rw n

-- a block without data
run-item : (find : Lookup) (s : List ℕ) (o a : ℕ) (r : List ℕ) → drop o s ≡ block a [] ++ r → a < 4294967296 → item_at find s o ≡ run_of (run_entry find a) o
run-item find s o a r e h =
    let l = room s o a [] r e in
    at_block find s o (start s o a [] r e) (omega arith)
    ∙ run-block find s o (omega arith) (length-is s o a [] r e (omega arith)) (address_is s o a [] r e h)

-- behind the last block
end-item : (find : Lookup) (ps : List Piece) (j : ℕ) → drop j ps ≡ [] → item_at find (srom_image ps) (block_at ps j) ≡ halt (stops (end (block_at ps j)))
unfolding blocks
end-item find ps j e =
    let b = byte-at (srom_image ps) (block_at ps j) (image.at_block ps j ∙ ap (λ (t : List Piece). blocks t ++ 0xff ∷ []) e) in
    at-end find (srom_image ps) (block_at ps j) {x = 0xff} b.1 b.0 (λ z. omega arith) (λ z. omega arith)

-- ---- the walk from a piece's block on
-- what a walk leaves of memory m; old is the memory before the load
abbrev done : Walk → List ℕ → List ℕ → Left
done w old m = record { memory = memory_at w.ending old (store_blocks w.blocks m); ending = w.ending }

-- what a stretch leaves
abbrev told : List Piece → ℕ → Finish → List ℕ → List ℕ → Left
told ps i f old new = record { memory = (meant f old new).memory; ending = ending_in srom ps i (meant f old new).finish }

module _ (find : Lookup) (ps : List Piece) (i : ℕ) (old : List ℕ) where
  -- the piece with index j stores d at a; f and g are the finish and the effect of the pieces behind it
  data-step : (j : ℕ) (p : Piece) (qs : List Piece) → drop j ps ≡ p ∷ qs → (a : ℕ) (d : List ℕ) → block_of p ≡ block a d → Sized 4 a (length d)
      → (f : Finish) (g : List ℕ → List ℕ) → ((m : List ℕ) → done (walk find (srom_image ps) (block_at ps (suc j))) old m ≡ told ps i f old (g m))
      → (m : List ℕ)
      → done (walk find (srom_image ps) (block_at ps j)) old m
      ≡ told ps i (or_deny (ranged (find Write a (length d))) j f) old (g (store_at (find Write a (length d)) d m))
  unfolding store_blocks
  data-step j p qs e a d is h f g rest m =
      go (find Write a (length d)) (data-item s o a d (blocks qs ++ 0xff ∷ []) there find h ∙ ap (placed (find Write a (length d)) a o) (sym next))
    where
      s : List ℕ
      s = srom_image ps

      o : ℕ
      o = block_at ps j

      there : drop o s ≡ block a d ++ (blocks qs ++ 0xff ∷ [])
      there = at_piece ps j p qs e ∙ ap (λ (t : List ℕ). t ++ (blocks qs ++ 0xff ∷ [])) is

      next : block_at ps (suc j) ≡ o + 7 + length d
      next =
          omega
          (arith, next-block ps j p qs e, length-block_of p, ap length is, length-block a d)

      go : (x : Found) → item_at find s o ≡ placed x a o (block_at ps (suc j))
          → done (walk find s o) old m ≡ told ps i (or_deny (ranged x) j f) old (g (store_at x d m))
      go (map.at q) v =
          let n : block_at ps (suc j) - (o + 7) ≡ length d = omega (arith, next) in
          rw (walk_block find s o v, n, data_is s o a d (blocks qs ++ 0xff ∷ []) there) (rest _)
      go (map.refused y) v = rw (walk-halt find s o v)

  -- the piece with index j is a run
  run_step : (j a : ℕ) (qs : List Piece) → drop j ps ≡ run a ∷ qs → a < 4294967296 → (m : List ℕ)
      → done (walk find (srom_image ps) (block_at ps j)) old m ≡ told ps i (or_deny (entered (run_entry find a)) j (runs a j)) old m
  unfolding store_blocks run_entry block_of
  run_step j a qs e h m = go (legal find a) (run-item find (srom_image ps) (block_at ps j) a _ (at_piece ps j (run a) qs e) h)
    where
      o : ℕ
      o = block_at ps j

      go : (b : Bool) → item_at find (srom_image ps) o ≡ run_of (if b then entry.entry (kind_at a) a else entry.refused 9) o
          → done (walk find (srom_image ps) o) old m ≡ told ps i (or_deny (entered (if b then entry.entry (kind_at a) a else entry.refused 9)) j (runs a j)) old m
      go true v = rw (walk-halt find (srom_image ps) o v, next-block ps j (run a) qs e)
      go false v = rw (walk-halt find (srom_image ps) o v)

  walks : (qs : List Piece) (j : ℕ) → drop j ps ≡ qs → All (Packable 4) qs → (m : List ℕ)
      → done (walk find (srom_image ps) (block_at ps j)) old m ≡ told ps i (finish find (stretch qs) j) old (effects find (stretch qs) m)
  unfolding finish stretch effects effect permit block_of blocks store_blocks
  walks [] j e c m = rw (walk-halt find (srom_image ps) (block_at ps j) (end-item find ps j e))
  walks (put a d ∷ qs) j e c m =
      data-step j (put a d) qs e a d refl c.0 _ _ (walks qs (suc j) (drop-next ps j (put a d) qs e) c.1) m
  walks (fill a n w ∷ qs) j e c m =
      let l = length-filling n w in
      rw l at (data-step j (fill a n w) qs e a (filling n w) refl (rw l c.0.0) (finish find (stretch qs) (suc j)) (effects find (stretch qs)) (walks qs (suc j) (drop-next ps j (fill a n w) qs e) c.1) m)
  walks (run a ∷ qs) j e c m = run_step j a qs e c.0.0 m

-- ---- one load
module _ (map : Map) (ps : List Piece) (few : length ps ≤ 255) (good : All (Packable 4) ps) (m : List ℕ) (safe : sound map (length m) ≡ true) where
  from_block : (i : ℕ) → done (walk (lookup map) (srom_image ps) (block_at ps i)) m m ≡ means srom map ps i m
  unfolding meaning
  from_block i = walks (lookup map) ps i m (drop i ps) i refl (all_drop (Packable 4) i ps good) m

  -- the pad before the first block
  from-pad : walk (lookup map) (srom_image ps) 0 ≡ walk (lookup map) (srom_image ps) (block_at ps 0)
  unfolding srom_image
  from-pad = rw (first_block ps) (walk-pad (lookup map) (srom_image ps) 0 (at-pad (lookup map) (srom_image ps) 0 (omega arith) refl))

  from_start : (i : ℕ) → done (walk (lookup map) (srom_image ps) (start_of srom ps i)) m m ≡ means srom map ps i m
  from_start zero = rw from-pad (from_block 0)
  from_start (suc i) = from_block (suc i)

  -- the image's length is under the limit of 13
  pub SromLoad : (i : ℕ) → loads ours srom map ps (srom_image ps) i m ≡ means srom map ps i m
  unfolding load_with look
  SromLoad i =
      let short : length (srom_image ps) ≤ 16777216 = omega (arith, length-srom_image ps, bytes_most 4 ps good) in
      rw (sound-load map (srom_image ps) (start_of srom ps i) m safe, le-ltb 16777216 (length (srom_image ps)) short, ending_at) (from_start i)
