-- What the code's answers say, in the terms of the definitions.
use Rattle.std.specs.Prelude.{◌≡◌, List, ℕ, ◌≤◌, length}
use Rattle.words.specs.Store.{store}
use Rattle.compare.specs.Compare.{Compared, refuses, finds, most_stretches}
use Rattle.compare.specs.Code.{Outcome, refusal, found, stretch_count, which_is}
use Rattle.comparison.specs.declared.comparison.Printed.{Printed}
use Rattle.comparison.specs.Lines.{printed, compared_files, printed_for, refused_plan}
use Rattle.comparison.specs.Lines.Stretches.{stretches_in}

-- a function answers r, and leaves last of a text m: what is printed for q stands at its front
pub record Prints (q : Compared) (m : List ℕ) (r : Printed) (last : List ℕ) : Type 0 where
  pub size_is : r.size ≡ length (printed q)
  pub text-is : last ≡ store m 0 (printed q)
  pub refused-is : which_is r.refused ≡ refused_plan q
  pub inside : r.size ≤ length last

-- no more stretches than an answer has
abbrev pub Bounded : Outcome → Type 0
Bounded o = stretch_count o ≤ most_stretches

-- what was answered, with the stretches at the front of s
abbrev pub shown_of : Outcome → List ℕ → Compared
shown_of (refusal w x i) s = refuses w x i
shown_of (found n same) s = finds (stretches_in n s) same

-- what is answered and left for the plans in two files: r, and last of a text m. The plans are what was read, and no contract can say which
-- bytes these are; of a longer file one byte past the limit is read at most
pub record FromFiles (m : List ℕ) (r : Printed) (last : List ℕ) : Type 0 where
  pub old : List ℕ
  pub new : List ℕ
  pub old-read : length old ≤ 32769
  pub new-read : length new ≤ 32769
  pub size_is : r.size ≡ length (printed_for old new)
  pub text-is : last ≡ store m 0 (printed_for old new)
  pub refused-is : which_is r.refused ≡ refused_plan (compared_files old new)
