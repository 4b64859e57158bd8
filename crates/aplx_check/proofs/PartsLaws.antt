-- Laws of what is left of a piece, and of the parts of a put or fill.
use Rattle.std.specs.Prelude.{◌≡◌, ℕ, ◌+◌, ◌-◌, List, refl}
use Rattle.std.proofs.Common.{sym, add-zero, add_assoc, arith, length-drop, drop-drop}
use Rattle.plan.specs.Plan.{Piece, put, fill, run}
use Rattle.plan.proofs.MeaningLaws.{Stores}
use Rattle.aplx_check.specs.Parts.{size_of, rest_of, split_at, parts_of}

-- ---- what is left
pub rest-none : (p : Piece) → rest_of 0 p ≡ p
rest-none (put a d) = rw (add-zero a)
rest-none (fill a l w) = let e : l - 0 ≡ l = omega arith in rw (add-zero a, e)
rest-none (run a) = refl

pub rest-size : (o : ℕ) (p : Piece) → size_of (rest_of o p) ≡ size_of p - o
rest-size o (put a d) = length-drop o d
rest-size o (fill a l w) = refl
rest-size o (run a) = let e : 0 - o ≡ 0 = omega arith in sym e

pub rest-rest : (n o : ℕ) (p : Piece) → rest_of n (rest_of o p) ≡ rest_of (o + n) p
rest-rest n o (put a d) = rw (drop-drop n o d, add_assoc)
rest-rest n o (fill a l w) = let e : l - o - n ≡ l - (o + n) = omega arith in rw (e, add_assoc)
rest-rest n o (run a) = refl

-- ---- a put or fill
pub rest-stored : (n : ℕ) (p : Piece) → Stores p → Stores (rest_of n p)
rest-stored n (put a d) h = tt
rest-stored n (fill a l w) h = tt
rest-stored n (run a) h = h

pub parts-stored : (p : Piece) → Stores p → (ns : List ℕ) → parts_of p ns ≡ split_at p ns
parts-stored (put a d) h ns = refl
parts-stored (fill a l w) h ns = refl
parts-stored (run a) h ns = absurd h
