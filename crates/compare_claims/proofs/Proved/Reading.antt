-- Which plans are read: those that 01's reader accepts and whose pieces end in the address space; and for what others are refused.
use Rattle.std.specs.Prelude.{◌≡◌, ◌⊎◌, Bool, true, false, List, ltb, length, if◌then◌else◌}
use Rattle.std.proofs.Math.Path.{refl, sym}
use Rattle.std.proofs.Common.{ap, ◌∙◌, inl, inr, arith, ltb-true, le-ltb}
use Prim.Native.Nat.{ℕ, zero, suc, ◌+◌, ◌≤◌, ◌<◌}
use Rattle.words.specs.Choice.{All}
use Rattle.words.specs.Bytes.{Bytes}
use Rattle.plan.specs.Plan.{Piece, data_at, data_length, Row, put_row, fill_row, run_row, piece_in, Judged, good, bad, piece_at, Read, refused, pieces, before, next, read_pieces, HeaderJudged, counts, fails, judge_header, headed, read_plan}
use Rattle.plan.proofs.PlanSteps.{refused-no-pieces, first_read}
use Rattle.plan.proofs.PlanLaws.{Passed, row-passed, data-length, read-header}
use Rattle.compare.specs.Reading.{addresses, judge_end, judge_last, compared_at, compared_pieces, read_compared, EndsBy}
use Rattle.compare.proofs.ReadingLaws.{readable}
use Rattle.compare_claims.specs.Refusals.{Past, put-past, fill-past, ReadExactly, Refused, by-reader, by_end}

-- ---- a plan that 01's reader accepts
module _ (s : List ℕ) (b : Bytes s) (inside : data_at s + data_length s ≤ length s) where
  -- the last test of a row whose piece ends in the address space
  last-passes : (row : Row) → Passed 1 (data_at s + data_length s) row → EndsBy addresses (piece_in s row) → judge_last (good row) ≡ good row
  last-passes (put_row a o n) p e = rw (le-ltb addresses (a + n) (omega (arith, e, data-length s o n (omega (arith, p.1)))))
  last-passes (fill_row a n w) p e = rw (le-ltb addresses (a + n) e)
  last-passes (run_row a) p e = refl

  all_pass : (k i : ℕ) {ps : List Piece} → read_pieces 1 s k i ≡ pieces ps → All (EndsBy addresses) ps → compared_pieces s k i ≡ pieces ps
  unfolding read_pieces compared_pieces compared_at
  all_pass zero i e h = e
  all_pass (suc k) i {ps} e h =
      let f = first_read 1 s k i e in
      let g = rw f.whole at h in
      let l = last-passes f.row (row-passed 1 s b i f.is-good) g.0 in
      let r = all_pass k (suc i) f.is_read g.1 in
      rw (f.is-good, l, r) (ap pieces (sym f.whole))

-- ---- one that is refused
module _ (s : List ℕ) where
  -- at piece m
  data Refusal (r : Read) (x m : ℕ) : Type 0 where
    the_same : r ≡ refused x m → Refusal r x m
    at-end : {row : Row} → x ≡ 19 → piece_at 1 s m ≡ good row → Past row → Refusal r x m

  -- the last test of a row passes, or it is past the end
  abbrev Tested : Judged → Row → Type 0
  Tested j row = (j ≡ good row) ⊎ ((j ≡ bad 19) × Past row)

  end_test : (a n : ℕ) (row : Row) → (addresses < a + n → Past row) → Tested (judge_end a n row) row
  end_test a n row past = go (ltb addresses (a + n)) refl
    where
      go : (t : Bool) → ltb addresses (a + n) ≡ t → Tested (if t then bad 19 else good row) row
      go true e = inr (refl, past (ltb-true addresses (a + n) e))
      go false e = inl refl

  last-test : (row : Row) → Tested (judge_last (good row)) row
  last-test (put_row a o n) = end_test a n (put_row a o n) put-past
  last-test (fill_row a n w) = end_test a n (fill_row a n w) fill-past
  last-test (run_row a) = inl refl

  -- a piece before the others
  refused-behind : (p : Piece) (r : Read) {x m : ℕ} → before p r ≡ refused x m → r ≡ refused x m
  refused-behind p (refused y j) e = e
  refused-behind p (pieces ps) e = absurd (refused-no-pieces (sym e))

  behind : (p : Piece) {r : Read} {x m : ℕ} → Refusal r x m → Refusal (before p r) x m
  behind p (the_same e) = the_same (ap (before p) e)
  behind p (at-end y g h) = at-end y g h

  first-refused : (i : ℕ) (r q : Read) {x m : ℕ} → ((y j : ℕ) → r ≡ refused y j → Refusal q y j) → next s (compared_at s i) i r ≡ refused x m
      → Refusal (next s (piece_at 1 s i) i q) x m
  unfolding compared_at
  first-refused i r q {x} {m} f e = go (piece_at 1 s i) refl e
    where
      tested : (row : Row) → piece_at 1 s i ≡ good row → Tested (judge_last (good row)) row
          → next s (judge_last (good row)) i r ≡ refused x m → Refusal (before (piece_in s row) q) x m
      tested row g (inl l) e = behind (piece_in s row) (f x m (refused-behind (piece_in s row) r (sym (ap (λ (j : Judged). next s j i r) l) ∙ e)))
      tested row g (inr l) e =
          let z = sym (ap (λ (j : Judged). next s j i r) l.0) ∙ e in
          let y : 19 ≡ x = cc (z) in
          let k : i ≡ m = cc (z) in
          at-end (sym y) (ap (piece_at 1 s) (sym k) ∙ g) l.1

      go : (j : Judged) → piece_at 1 s i ≡ j → next s (judge_last j) i r ≡ refused x m → Refusal (next s j i q) x m
      go (bad n) g e = the_same e
      go (good row) g e = tested row g (last-test row) e

  pieces-refused : (k i : ℕ) {x m : ℕ} → compared_pieces s k i ≡ refused x m → Refusal (read_pieces 1 s k i) x m
  unfolding compared_pieces read_pieces
  pieces-refused zero i e = absurd (refused-no-pieces (sym e))
  pieces-refused (suc k) i e = first-refused i (compared_pieces s k (suc i)) (read_pieces 1 s k (suc i)) (λ y j f. pieces-refused k (suc i) f) e

-- ---- the laws
pub read-exactly : (s : List ℕ) → Bytes s → (ps : List Piece) → ReadExactly s ps
unfolding read_plan read_compared
read-exactly s b ps = record {
  if-read = λ e. let r = readable s e in (r.accepted, r.ends);
  read-if = λ e h. go (read-header 1 s e).data-inside h (judge_header s) e;
}
  where
    go : data_at s + data_length s ≤ length s → All (EndsBy addresses) ps → (j : HeaderJudged) → headed j (λ k. read_pieces 1 s k 0) ≡ pieces ps
        → headed j (λ k. compared_pieces s k 0) ≡ pieces ps
    go i h (counts k) e = all_pass s b i k 0 e h
    go i h (fails n) e = e

pub refused-for : (s : List ℕ) (x i : ℕ) → read_compared s ≡ refused x i → Refused s x i
unfolding read_plan read_compared
refused-for s x i e = go (judge_header s) refl e
  where
    given : (r : Read) → read_plan 1 s ≡ r → Refusal s r x i → Refused s x i
    given r f (the_same g) = by-reader (f ∙ g)
    given r f (at-end y g h) = by_end y g h

    go : (j : HeaderJudged) → judge_header s ≡ j → headed j (λ k. compared_pieces s k 0) ≡ refused x i → Refused s x i
    go (counts k) f e = given (read_pieces 1 s k 0) (ap (λ (j : HeaderJudged). headed j (λ k. read_pieces 1 s k 0)) f) (pieces-refused s k 0 e)
    go (fails n) f e = by-reader (ap (λ (j : HeaderJudged). headed j (λ k. read_pieces 1 s k 0)) f ∙ e)
