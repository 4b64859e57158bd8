-- What pieces leave as it was: the length of memory, and every buffer byte that is none of their destinations'.
use Rattle.std.specs.Prelude.{◌≡◌, ℕ, ◌≤◌, ◌+◌, length, take, drop}
use Rattle.std.proofs.Math.Path.{refl}
use Rattle.std.proofs.Common.{◌∙◌, arith}
use mathlib.Core.List.{List, [], ◌∷◌}
use Rattle.words.specs.Choice.{All}
use Rattle.words.proofs.RangeLaws.{Apart, before}
use Rattle.word_blocks.specs.Repeat.{filling}
use Rattle.word_blocks.proofs.RepeatLaws.{length-filling}
use Rattle.words.proofs.StoreLaws.{length-store, part-outside}
use Rattle.memory_region.specs.declared.region.Right.TheVariants.{Write}
use Rattle.memory_map.specs.Lookup.{Lookup, Found, at, refused}
use Rattle.memory_map.proofs.LookupLaws.{Lawful}
use Rattle.plan.specs.Plan.{Piece, put, fill, run}
use Rattle.plan.specs.Meaning.{store_at, effect, effects, stretch, Finish, ends, runs, denies, finish, meant, meaning}

-- the n addresses from a on, where they are writable, have none of the k buffer bytes from q on
abbrev pub Beyond : Lookup → ℕ → ℕ → ℕ → ℕ → Type 0
Beyond find q k a n = (p : ℕ) → find Write a n ≡ at p → Apart q k p n

-- so the piece changes none of these
abbrev pub Beside : Lookup → ℕ → ℕ → Piece → Type 0
Beside find q k (put a d) = Beyond find q k a (length d)
Beside find q k (fill a n w) = Beyond find q k a n
Beside find q k (run a) = Unit {0}

pub all-stretch : (P : Piece → Type 0) (ps : List Piece) → All P ps → All P (stretch ps)
unfolding stretch
all-stretch P [] a = tt
all-stretch P (put d b ∷ ps) a = (a.0, all-stretch P ps a.1)
all-stretch P (fill d n w ∷ ps) a = (a.0, all-stretch P ps a.1)
all-stretch P (run x ∷ ps) a = (a.0, tt)

-- memory keeps its length and its k bytes from q on
pub record Kept (q k : ℕ) (old new : List ℕ) : Type 0 where
  pub length-is : length new ≡ length old
  pub bytes-are : take k (drop q new) ≡ take k (drop q old)

kept-none : (q k : ℕ) (m : List ℕ) → Kept q k m m
kept-none q k m = record { length-is = refl; bytes-are = refl }

module _ (find : Lookup) (q k : ℕ) where
  -- ---- one piece
  module _ (m : List ℕ) (laws : Lawful find (length m)) where
    stored : (a : ℕ) (d : List ℕ) (n : ℕ) → length d ≡ n → (f : Found) → find Write a n ≡ f → Beyond find q k a n → Kept q k m (store_at f d m)
    stored a d n l (at p) e b =
        let h : p + length d ≤ length m = omega (arith, laws.inside Write a n p e) in
        record { length-is = length-store m p d h; bytes-are = part-outside m p d h q k (rw l (b p e)) }
    stored a d n l (refused x) e b = kept-none q k m

    effect-keeps : (p : Piece) → Beside find q k p → Kept q k m (effect find p m)
    unfolding effect
    effect-keeps (put a d) b = stored a d (length d) refl (find Write a (length d)) refl b
    effect-keeps (fill a n w) b = stored a (filling n w) n (length-filling n w) (find Write a n) refl b
    effect-keeps (run a) b = kept-none q k m

  -- ---- pieces in order
  pub effects-keep : (ps : List Piece) (m : List ℕ) → Lawful find (length m) → All (Beside find q k) ps → Kept q k m (effects find ps m)
  unfolding effects
  effects-keep [] m laws b = kept-none q k m
  effects-keep (p ∷ ps) m laws b =
      let one = effect-keeps m laws p b.0 in
      let rest = effects-keep ps (effect find p m) (rw one.length-is laws) b.1 in
      record { length-is = rest.length-is ∙ one.length-is; bytes-are = rest.bytes-are ∙ one.bytes-are }

  -- ---- a stretch
  pub meaning-keeps : (ps : List Piece) (i : ℕ) (m : List ℕ) → Lawful find (length m) → All (Beside find q k) (stretch (drop i ps))
      → Kept q k m (meaning find ps i m).memory
  unfolding meaning
  meaning-keeps ps i m laws b = go (finish find (stretch (drop i ps)) i) (effects-keep (stretch (drop i ps)) m laws b)
    where
      go : (f : Finish) {new : List ℕ} → Kept q k m new → Kept q k m (meant f m new).memory
      go (ends j) h = h
      go (runs a j) h = h
      go (denies x j) h = kept-none q k m

-- no byte is beside every piece
pub beside_none : (find : Lookup) (ps : List Piece) → All (Beside find 0 0) ps
beside_none find [] = tt
beside_none find (put a d ∷ ps) = (λ p e. before (omega arith), beside_none find ps)
beside_none find (fill a n w ∷ ps) = (λ p e. before (omega arith), beside_none find ps)
beside_none find (run a ∷ ps) = (tt, beside_none find ps)
