-- Laws of the stretch from index 0, a piece at a time: where it goes on, and where its run ends it.
use Rattle.std.proofs.Math.Path.{◌≡◌}
use Rattle.std.specs.Prelude.{refl, length, drop}
use mathlib.Core.List.{List, [], ◌∷◌}
use Prim.Native.Nat.{ℕ, zero, suc, ◌+◌, ◌≤◌, ◌<◌}
use Rattle.std.proofs.Math.Numerals.{add-one}
use Rattle.std.proofs.Common.{arith, drop_of_length-le}
use Rattle.plan.specs.Plan.{Piece, put, fill, run}
use Rattle.plan.specs.Meaning.{stretch}
use Rattle.compare.specs.Reading.{Run, none, at, run_of}

-- the run that a piece is
abbrev pub run_at : Piece → Run
run_at (put a d) = none
run_at (fill a n w) = none
run_at (run a) = at a

pub stretch-shorter : (ps : List Piece) → length (stretch ps) ≤ length ps
unfolding stretch
stretch-shorter [] = omega arith
stretch-shorter (put a d ∷ ps) = omega (arith, stretch-shorter ps)
stretch-shorter (fill a n w ∷ ps) = omega (arith, stretch-shorter ps)
stretch-shorter (run a ∷ ps) = omega arith

-- piece i of the stretch is piece i of the plan
pub stretch-piece :
    (ps : List Piece) (i : ℕ) {p : Piece} {r : List Piece} → i < length (stretch ps) → drop i ps ≡ p ∷ r
    → drop i (stretch ps) ≡ p ∷ drop (suc i) (stretch ps)
unfolding stretch
stretch-piece [] i h e = absurd (omega arith)
stretch-piece (put a d ∷ ps) zero {p} h e = let z : put a d ≡ p = cc in rw z
stretch-piece (put a d ∷ ps) (suc i) h e = stretch-piece ps i (omega arith) e
stretch-piece (fill a n w ∷ ps) zero {p} h e = let z : fill a n w ≡ p = cc in rw z
stretch-piece (fill a n w ∷ ps) (suc i) h e = stretch-piece ps i (omega arith) e
stretch-piece (run a ∷ ps) zero {p} h e = let z : run a ≡ p = cc in rw z
stretch-piece (run a ∷ ps) (suc i) h e = absurd (omega arith)

-- ---- one step, at the piece p with index i
module _ (ps : List Piece) (i : ℕ) (p : Piece) (f : drop i ps ≡ p ∷ drop (suc i) ps) where
  pub stretch-run : {a : ℕ} → run_at p ≡ at a → (length (stretch (drop i ps)) ≡ 1) × (run_of (drop i ps) ≡ at a)
  unfolding stretch run_of
  stretch-run {a} e = rw f (go p (drop (suc i) ps) e)
    where
      go : (p : Piece) (l : List Piece) → run_at p ≡ at a → (length (stretch (p ∷ l)) ≡ 1) × (run_of (p ∷ l) ≡ at a)
      go (put b d) l f = let z : ◌≡◌ {A = ℕ} 0 1 = cc in absurd (omega arith)
      go (fill b n w) l f = let z : ◌≡◌ {A = ℕ} 0 1 = cc in absurd (omega arith)
      go (run b) l f = (refl, f)

  pub stretch-next : run_at p ≡ none → (length (stretch (drop i ps)) ≡ suc (length (stretch (drop (i + 1) ps)))) × (run_of (drop i ps) ≡ run_of (drop (i + 1) ps))
  unfolding stretch run_of
  stretch-next e = rw (f, add-one i) (go p (drop (suc i) ps) e)
    where
      go : (p : Piece) (l : List Piece) → run_at p ≡ none → (length (stretch (p ∷ l)) ≡ suc (length (stretch l))) × (run_of (p ∷ l) ≡ run_of l)
      go (put b d) l f = (refl, refl)
      go (fill b n w) l f = (refl, refl)
      go (run b) l f = let z : ◌≡◌ {A = ℕ} 0 1 = cc in absurd (omega arith)

pub stretch-end : (ps : List Piece) (i : ℕ) → length ps ≤ i → (length (stretch (drop i ps)) ≡ 0) × (run_of (drop i ps) ≡ none)
unfolding stretch run_of
stretch-end ps i h = rw (drop_of_length-le ps h) (refl, refl)
