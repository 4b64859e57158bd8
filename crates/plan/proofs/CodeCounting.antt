-- Laws of a loop that counts pieces and sums their lengths while they are read.
use Rattle.std.specs.Prelude.{◌≡◌, refl, [], ◌∷◌, ℕ, ◌+◌, length}
use Rattle.std.proofs.Common.{zero-add, add-zero, add_assoc, arith}
use Rattle.plan.specs.Plan.{Piece, data_of, filled_by, put_bytes, fill_bytes, Read, refused, pieces, before}
use Rattle.plan.specs.Code.{Outcome, refuses, reads, outcome_of}

-- the outcome, where r is read after n pieces of p put bytes and f fill bytes
abbrev pub outcome_after : ℕ → ℕ → ℕ → Read → Outcome
outcome_after n p f (refused m i) = refuses m i
outcome_after n p f (pieces ps) = reads (n + length ps) (p + put_bytes ps) (f + fill_bytes ps)

pub after_none : (r : Read) → outcome_after 0 0 0 r ≡ outcome_of r
after_none (refused m i) = refl
after_none (pieces ps) = simp zero-add

pub after-piece : (n p f : ℕ) (q : Piece) (r : Read) → outcome_after n p f (before q r) ≡ outcome_after (n + 1) (p + length (data_of q)) (f + filled_by q) r
unfolding put_bytes fill_bytes
after-piece n p f q (refused m i) = refl
after-piece n p f q (pieces ps) =
    let z : n + length (q ∷ ps) ≡ n + 1 + length ps = omega arith in
    simp (z, add_assoc)

pub after-all : (n p f : ℕ) → outcome_after n p f (pieces []) ≡ reads n p f
unfolding put_bytes fill_bytes
after-all n p f = simp add-zero
