-- Laws of what is read and answered, a step of the code at a time.
use Rattle.std.specs.Prelude.{◌≡◌, Bool, true, false, List, [], ◌∷◌, ℕ, ◌+◌, ◌*◌, ◌≤◌, ◌<◌, ltb, length, if◌then◌else◌, eqb, Option, None, Some}
use Rattle.std.specs.Option.{option_eq}
use Rattle.std.proofs.Math.Path.{refl}
use Rattle.std.proofs.Common.{ap, sym, zero-add, add-zero, arith, lt-ltb, le-ltb, ltb-false}
use Rattle.plan.specs.declared.piece.Piece as CodePiece
use Rattle.plan.specs.declared.piece.Piece.TheVariants as code
use Rattle.words.proofs.ChoiceLaws.{true-is-false}
use Rattle.plan.specs.Plan.{Piece, Read, refused, pieces, before, read_plan}
use Rattle.plan.specs.Packed.{pieces_in, Accepted}
use Rattle.plan.specs.Code.{piece_is}
use Rattle.stretches.specs.Stretches.{Stretch}
use Rattle.compare.specs.Reading.{addresses, read_compared, none, run_of, same_run}
use Rattle.compare.proofs.ReadingLaws.{readable}
use Rattle.compare.specs.Reading.Stretch.{run_at}
use Rattle.compare.specs.Compare.{neither, old_plan, new_plan, Compared, refuses, finds, most_stretches, stretch_size, differences, limited, compared_below, compared, output_after}
use Rattle.compare.specs.Code.{outcome_of, was_read, stretch_count, Reading, fails, reads, reading_of, run_is, Comparable}

-- ---- a loop that counts pieces while they are read
-- what is read, where r follows n pieces
abbrev pub reading_after : ℕ → Read → Reading
reading_after n (refused x i) = fails x i
reading_after n (pieces ps) = reads (n + length ps)

pub after_none : (r : Read) → reading_after 0 r ≡ reading_of r
after_none (refused x i) = refl
after_none (pieces ps) = simp zero-add

pub after-piece : (n : ℕ) (p : Piece) (r : Read) → reading_after n (before p r) ≡ reading_after (n + 1) r
after-piece n p (refused x i) = refl
after-piece n p (pieces ps) = let z : n + length (p ∷ ps) ≡ n + 1 + length ps = omega arith in rw z

pub after-all : (n : ℕ) → reading_after n (pieces []) ≡ reads n
after-all n = simp add-zero

-- ---- what was read
-- the run that a piece is, wherever its data stands
pub run-anywhere : (s t : List ℕ) (p : CodePiece.Piece) → run_at (piece_is s p) ≡ run_at (piece_is t p)
run-anywhere s t (code.Put a o n) = refl
run-anywhere s t (code.Fill a n w) = refl
run-anywhere s t (code.Run a) = refl

-- of a piece that is no run
pub run-none : (s : List ℕ) (p : CodePiece.Piece) → ((a : ℕ) → p ≡ code.Run a → ⊥) → run_at (piece_is s p) ≡ none
run-none s (code.Put a o n) h = refl
run-none s (code.Fill a n w) h = refl
run-none s (code.Run a) h = absurd (h a refl)

-- runs are compared as the code's addresses are
pub same-run : (a b : Option ℕ) → option_eq eqb a b ≡ same_run (run_is a) (run_is b)
same-run None None = refl
same-run None (Some b) = refl
same-run (Some a) None = refl
same-run (Some a) (Some b) = refl

pub accepted-from : (s : List ℕ) → was_read (read_plan 1 s) ≡ true → Accepted 1 s
accepted-from s e = go (read_plan 1 s) e
  where
    go : (r : Read) → was_read r ≡ true → r ≡ pieces (pieces_in r)
    go (refused x i) e = true-is-false (sym e)
    go (pieces ps) e = refl

pub comparable : (s : List ℕ) {n : ℕ} → reading_of (read_compared s) ≡ reads n → Comparable s n
comparable s {n} e = go (read_compared s) refl e
  where
    go : (r : Read) → read_compared s ≡ r → reading_of r ≡ reads n → Comparable s n
    go (refused x i) k g = let z : ◌≡◌ {A = ℕ} 0 1 = cc in absurd (omega arith)
    go (pieces ps) k g =
        let a = (readable s k).accepted in
        let c : n ≡ length ps = cc in
        record { is_read = rw a k; accepted = rw a; count = rw a c }

pub not-comparable : (s : List ℕ) {x i : ℕ} → reading_of (read_compared s) ≡ fails x i → read_compared s ≡ refused x i
not-comparable s {x} {i} e = go (read_compared s) e
  where
    go : (r : Read) → reading_of r ≡ fails x i → r ≡ refused x i
    go (refused y j) g = cc
    go (pieces ps) g = let z : ◌≡◌ {A = ℕ} 0 1 = cc in absurd (omega arith)

-- ---- what is compared
-- an equal comparison has an equal answer and leaves an equal output
pub answered : (c d : Compared) (out : List ℕ) → c ≡ d → (outcome_of c ≡ outcome_of d) × (output_after c out ≡ output_after d out)
answered c d out e = (ap outcome_of e, ap (λ (k : Compared). output_after k out) e)

pub limited-more : (l : List Stretch) (same : Bool) → most_stretches < length l → limited l same ≡ refuses neither 18 512
limited-more l same h = rw (lt-ltb most_stretches (length l) h)

pub limited-few : (l : List Stretch) (same : Bool) → length l ≤ most_stretches → limited l same ≡ finds l same
limited-few l same h = rw (le-ltb most_stretches (length l) h)

module _ (bound : ℕ) where
  pub old-refused : (x i : ℕ) (old new : Read) → old ≡ refused x i → compared_below bound old new ≡ refuses old_plan x i
  unfolding compared_below
  old-refused x i old new e = rw e

  pub new-refused : (old : List Piece) (x i : ℕ) (new : Read) → new ≡ refused x i → compared_below bound (pieces old) new ≡ refuses new_plan x i
  unfolding compared_below
  new-refused old x i new e = rw e

  pub both_read : (old new : List Piece) → compared_below bound (pieces old) (pieces new) ≡ limited (differences bound old new) (same_run (run_of old) (run_of new))
  unfolding compared_below
  both_read old new = refl

module _ (n : ℕ) (old new : List ℕ) where
  pub too_small : n < stretch_size * most_stretches → compared n old new ≡ refuses neither 10 0
  unfolding compared
  too_small h = rw (lt-ltb n (stretch_size * most_stretches) h)

  pub large-enough : stretch_size * most_stretches ≤ n → compared n old new ≡ compared_below addresses (read_compared old) (read_compared new)
  unfolding compared
  large-enough h = rw (le-ltb n (stretch_size * most_stretches) h)

-- ---- at most 512 stretches are found
limited-most : (l : List Stretch) (same : Bool) → stretch_count (outcome_of (limited l same)) ≤ most_stretches
limited-most l same = go (ltb most_stretches (length l)) refl
  where
    go : (t : Bool) → ltb most_stretches (length l) ≡ t → stretch_count (outcome_of (if t then refuses neither 18 512 else finds l same)) ≤ most_stretches
    go true e = omega arith
    go false e = ltb-false _ _ e

below-most : (bound : ℕ) (old new : Read) → stretch_count (outcome_of (compared_below bound old new)) ≤ most_stretches
unfolding compared_below
below-most bound (refused x i) new = omega arith
below-most bound (pieces old) (refused x i) = omega arith
below-most bound (pieces old) (pieces new) = limited-most (differences bound old new) (same_run (run_of old) (run_of new))

pub compared-most : (n : ℕ) (old new : List ℕ) → stretch_count (outcome_of (compared n old new)) ≤ most_stretches
unfolding compared
compared-most n old new = go (ltb n (stretch_size * most_stretches))
  where
    go : (t : Bool) → stretch_count (outcome_of (if t then refuses neither 10 0 else compared_below addresses (read_compared old) (read_compared new))) ≤ most_stretches
    go true = omega arith
    go false = below-most addresses (read_compared old) (read_compared new)
