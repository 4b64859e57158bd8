-- Laws of what is printed: a refusal's line fits; what was answered is what is shown; the limits in their order.
use Rattle.std.specs.Prelude.{◌≡◌, refl, Bool, List, ℕ, ◌≤◌, ◌<◌, length}
use Rattle.std.proofs.Common.{ap, ◌∙◌, arith, length-take-le}
use Rattle.std.proofs.Math.Path.{sym}
use borrow.Author.Tests.{lt-ltb, le-ltb}
use Rattle.file_bytes.specs.Counts.{IsPrefixLen}
use Rattle.words.specs.Choice.{All}
use Rattle.words.specs.Store.{store}
use Rattle.text.proofs.DecimalLaws.{width-most}
use Rattle.text.specs.Refusal.{refusal_line, fitting}
use Rattle.text.proofs.RefusalLaws.{line-fits}
use Rattle.plan.specs.Plan.{refused}
use Rattle.plan.specs.Packed.{plan_pieces}
use Rattle.plan.proofs.CodeLaws.{Known, known_bytes}
use Rattle.stretches.specs.Stretches.{Stretch}
use Rattle.compare.specs.Reading.{addresses, read_compared}
use Rattle.compare.specs.Compare.{old_plan, new_plan, Compared, refuses, finds, compared_below, compared, output_after}
use Rattle.compare.proofs.CompareSmall.{Small, found-small}
use Rattle.compare.specs.Code.{which_is, Outcome, outcome_of, fails, reads, reading_of}
use Rattle.compare.proofs.CodeAnswers.{comparable, not-comparable, old-refused, new-refused, large-enough, compared-most}
use Rattle.comparison.specs.declared.comparison.Printed.{Printed}
use Rattle.comparison.specs.Lines.{read_file, compared_files, printed_for, refused_plan}
use Rattle.comparison.specs.Lines.Stretches.{read_back}
use Rattle.comparison.specs.Code.{Prints, Bounded, shown_of}

-- two numbers of 20 digits at most
pub line-fitting : (x i n : ℕ) → 53 ≤ n → fitting (refusal_line x i) n ≡ refusal_line x i
line-fitting x i n h = line-fits x i n (omega (arith, width-most x, width-most i))

-- ---- the answer of a comparison
-- with what it leaves of an output m
answered : (q : Compared) (m : List ℕ) → ((l : List Stretch) (same : Bool) → q ≡ finds l same → All Small l)
    → shown_of (outcome_of q) (output_after q m) ≡ q
unfolding store
answered (refuses w x i) m h = refl
answered (finds l same) m h = ap (λ (k : List Stretch). finds k same) (read_back l _ (h l same refl))

-- of two plans, with an output that is large enough
module _ (old new : List ℕ) (o : Outcome) (e : o ≡ outcome_of (compared 8192 old new)) where
  large : compared 8192 old new ≡ compared_below addresses (read_compared old) (read_compared new)
  large = large-enough 8192 old new (omega arith)

  pub answer-bounded : Bounded o
  answer-bounded = rw e (compared-most 8192 old new)

  pub answer-shown : Known old → Known new → (m out : List ℕ) → out ≡ output_after (compared 8192 old new) m → shown_of o out ≡ compared 8192 old new
  answer-shown b c m out f =
      rw (e, f) (answered (compared 8192 old new) m (λ l same g. found-small old new (known_bytes old b) (known_bytes new c) (sym large ∙ g)))

-- ---- an old plan that was read, where the new one is refused
module _ (old : List ℕ) (x i : ℕ) where
  pub old-first : {y j : ℕ} → fails y j ≡ reading_of (read_compared old) → compared_below addresses (read_compared old) (refused x i) ≡ refuses old_plan y j
  old-first {y} {j} e = old-refused addresses y j (read_compared old) (refused x i) (not-comparable old (sym e))

  pub new-next : {n : ℕ} → reads n ≡ reading_of (read_compared old) → compared_below addresses (read_compared old) (refused x i) ≡ refuses new_plan x i
  new-next e = rw (comparable old (sym e)).is_read (new-refused addresses (plan_pieces 1 old) x i (refused x i) refl)

-- ---- the limits
module _ (old new : List ℕ) where
  pub old-too-long : 32768 < length old → compared_files old new ≡ refuses old_plan 11 0
  unfolding compared_files compared_below read_file
  old-too-long h = rw (lt-ltb 32768 (length old) h)

  pub new-too-long : length old ≤ 32768 → 32768 < length new → compared_files old new ≡ compared_below addresses (read_compared old) (refused 11 0)
  unfolding compared_files read_file
  new-too-long h g = rw (le-ltb 32768 (length old) h, lt-ltb 32768 (length new) g)

  pub both-short : length old ≤ 32768 → length new ≤ 32768 → compared_files old new ≡ compared 8192 old new
  unfolding compared_files read_file compared
  both-short h g = rw (le-ltb 32768 (length old) h, le-ltb 32768 (length new) g)

-- ---- what is printed for two plans
module _ (old new m : List ℕ) (q : Compared) (r : Printed) (last : List ℕ) where
  pub prints-for : compared_files old new ≡ q → Prints q m r last
      → (r.size ≡ length (printed_for old new)) × ((last ≡ store m 0 (printed_for old new))
      × ((which_is r.refused ≡ refused_plan (compared_files old new)) × IsPrefixLen r.size last))
  unfolding printed_for
  prints-for e p = rw e (p.size_is, (p.text-is, (p.refused-is, (p.inside, sym (length-take-le r.size last p.inside)))))
