-- Laws of the check for a loop that keeps an entry, the index of the piece that is due, and how many of its bytes are done.
use Rattle.std.specs.Prelude.{◌≡◌, ℕ, suc, ◌+◌, ◌-◌, ◌*◌, ◌<◌, ◌≤◌, true, false, List, [], ◌∷◌, ◌≢◌, refl}
use Rattle.std.proofs.Math.Numerals.{add-one}
use native.Mathlib.Omega.{arith}
use borrow.Author.Tests.{eq-eqb, ne_eqb}
use Rattle.words.specs.Bytes.{little_endian_at}
use Rattle.plan.specs.Plan.{Piece, put, fill, run}
use Rattle.aplx_check.specs.Parts.{size_of, rest_of}
use Rattle.aplx_check.proofs.PartsLaws.{rest-none, rest-size, rest-rest}
use Rattle.aplx_check.specs.Check.{accepted, refuses, is_due, part_length, check_entries, at, none, first_end}

pub rest-length : (image : List ℕ) (k o : ℕ) (p : Piece) → part_length image k (rest_of o p) ≡ part_length image k p
rest-length image k o (put a d) = refl
rest-length image k o (fill a l w) = refl
rest-length image k o (run a) = refl

-- ---- the entries
-- what is due of pieces, of the first of which o bytes are done
abbrev pub due_from : ℕ → List Piece → List Piece
due_from o [] = []
due_from o (p ∷ ps) = rest_of o p ∷ ps

pub due-none : (ps : List Piece) → due_from 0 ps ≡ ps
due-none [] = refl
due-none (p ∷ ps) = rw (rest-none p)

-- entry e, of those before entry n
module _ (image : List ℕ) (behind n e o : ℕ) (ps : List Piece) where
  module _ (h : e < n) (p : Piece) where
    left : n - e ≡ suc (n - (e + 1))
    left = omega arith

    -- it is the piece's last part, or its run
    pub entry-last : is_due image behind (16 * e) (rest_of o p) ≡ true → o ≤ size_of p → o + part_length image (16 * e) p ≡ size_of p
        → check_entries image behind (n - e) e (due_from o (p ∷ ps)) ≡ check_entries image behind (n - (e + 1)) (e + 1) (due_from 0 ps)
    unfolding check_entries
    entry-last d k z =
        let l = rest-length image (16 * e) o p in
        let s = eq-eqb (part_length image (16 * e) (rest_of o p)) (size_of (rest_of o p)) (omega (arith, z, l, rest-size o p)) in
        rw (left, d, s, due-none ps, add-one e)

    -- it is another part
    pub entry_more : is_due image behind (16 * e) (rest_of o p) ≡ true → o + part_length image (16 * e) p < size_of p
        → check_entries image behind (n - e) e (due_from o (p ∷ ps))
        ≡ check_entries image behind (n - (e + 1)) (e + 1) (due_from (o + part_length image (16 * e) p) (p ∷ ps))
    unfolding check_entries
    entry_more d z =
        let l = rest-length image (16 * e) o p in
        let s = ne_eqb (part_length image (16 * e) (rest_of o p)) (size_of (rest_of o p)) (λ x. omega (arith, x, z, l, rest-size o p)) in
        rw (left, d, s, l, rest-rest (part_length image (16 * e) p) o p, add-one e)

    pub entry-wrong : is_due image behind (16 * e) (rest_of o p) ≡ false → check_entries image behind (n - e) e (due_from o (p ∷ ps)) ≡ refuses 30 e
    unfolding check_entries
    entry-wrong d = rw (left, d)

  -- no piece is due
  pub entry-late : e < n → check_entries image behind (n - e) e [] ≡ refuses 30 e
  unfolding check_entries
  entry-late h = let z : n - e ≡ suc (n - (e + 1)) = omega arith in rw z

  -- at the end entry
  pub end-due : n ≤ e → check_entries image behind (n - e) e [] ≡ accepted
  unfolding check_entries
  end-due h = let z : n - e ≡ 0 = omega arith in rw z

  pub end-early : n ≤ e → (p : Piece) → check_entries image behind (n - e) e (due_from o (p ∷ ps)) ≡ refuses 30 e
  unfolding check_entries
  end-early h p = let z : n - e ≡ 0 = omega arith in rw z

-- ---- the search for the end entry, among the first n entries
module _ (image : List ℕ) (n e : ℕ) where
  pub end-here : e < n → little_endian_at 4 image (16 * e) ≡ 0xffffffff → first_end image (n - e) e ≡ at e
  unfolding first_end
  end-here h z = let u : n - e ≡ suc (n - (e + 1)) = omega arith in rw (u, z)

  pub end-next : e < n → (little_endian_at 4 image (16 * e) ≢ 0xffffffff) → first_end image (n - e) e ≡ first_end image (n - (e + 1)) (e + 1)
  unfolding first_end
  end-next h z = let u : n - e ≡ suc (n - (e + 1)) = omega arith in rw (u, ne_eqb (little_endian_at 4 image (16 * e)) 0xffffffff z, add-one e)

  pub end_none : n ≤ e → first_end image (n - e) e ≡ none
  unfolding first_end
  end_none h = let u : n - e ≡ 0 = omega arith in rw u
