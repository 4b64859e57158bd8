-- Computed examples of what is printed; those of stretches are below a small bound.
use Rattle.std.specs.Prelude.{◌≡◌, refl, true, false, [], ◌∷◌, ◌++◌, replicate}
use Rattle.word_blocks.specs.Open.{rows}
use Rattle.text.specs.Digits.{digits}
use Rattle.text.specs.Decimal.{leading, width, decimal}
use Rattle.text.specs.Refusal.{refusal_line}
use Rattle.plan.specs.Plan.{fill, run, refused, pieces}
use Rattle.plan.specs.Meaning.{stretch, stored_by}
use Rattle.plan.specs.Open.{reader}
use Rattle.stretches.specs.Stretches.{add, below}
use Rattle.compare.specs.LastByte.{after, after_all, last_byte}
use Rattle.compare.specs.Reading.{compared_at, compared_pieces, read_compared, run_of}
use Rattle.compare.specs.Compare.{neither, old_plan, new_plan, refuses, finds, compared_below}
use Rattle.comparison.specs.Lines.{byte_text, line, run_line, lines, printed, read_file, compared_files, printed_for, refused_plan}

record Examples : Type 0 where
  -- "0000001a ffffffff -- 0f"
  pub one_line : line (record { first = 26; last = 4294967295; old = 256; new = 15 })
      ≡ (48 ∷ 48 ∷ 48 ∷ 48 ∷ 48 ∷ 48 ∷ 49 ∷ 97 ∷ 32 ∷ [])
      ++ (102 ∷ 102 ∷ 102 ∷ 102 ∷ 102 ∷ 102 ∷ 102 ∷ 102 ∷ 32 ∷ 45 ∷ 45 ∷ 32 ∷ 48 ∷ 102 ∷ 10 ∷ [])
  -- a zero is stored: "00"
  pub zero-byte : byte_text 0 ≡ 48 ∷ 48 ∷ []
  -- a stretch that only the old plan stores, and another run
  pub whole : printed (compared_below 64 (pieces (fill 4 4 0 ∷ run 8 ∷ [])) (pieces []))
      ≡ line (record { first = 4; last = 7; old = 0; new = 256 }) ++ run_line false
  -- no difference: "same run"
  pub equal : printed (compared_below 64 (pieces []) (pieces [])) ≡ 115 ∷ 97 ∷ 109 ∷ 101 ∷ 32 ∷ 114 ∷ 117 ∷ 110 ∷ 10 ∷ []
  -- "other run"
  pub other : printed (finds [] false) ≡ 111 ∷ 116 ∷ 104 ∷ 101 ∷ 114 ∷ 32 ∷ 114 ∷ 117 ∷ 110 ∷ 10 ∷ []
  -- of neither plan
  pub more : printed (refuses neither 18 512) ≡ refusal_line 18 512
  pub of-neither : refused_plan (refuses neither 18 512) ≡ neither
  pub none-refused : refused_plan (finds [] true) ≡ neither
  -- files that can't be opened: "refused 2 at 0", of the old plan
  pub no-files : printed_for [] [] ≡ 114 ∷ 101 ∷ 102 ∷ 117 ∷ 115 ∷ 101 ∷ 100 ∷ 32 ∷ 50 ∷ 32 ∷ 97 ∷ 116 ∷ 32 ∷ 48 ∷ 10 ∷ []
  pub no-files-old : refused_plan (compared_files [] []) ≡ old_plan
  pub no-new : compared_files (replicate 16 0) [] ≡ refuses new_plan 2 0
  -- the longest file, and one that is longer
  pub longest : read_file (replicate 32768 0) ≡ pieces []
  pub longer : read_file (replicate 32769 0) ≡ refused 11 0
  -- old's length, old's plan, new's length, new's plan
  pub old-length : compared_files (replicate 32769 0) (replicate 32769 0) ≡ refuses old_plan 11 0
  pub old-plan : compared_files [] (replicate 32769 0) ≡ refuses old_plan 2 0
  pub new-length : compared_files (replicate 16 0) (replicate 32769 0) ≡ refuses new_plan 11 0

examples : Examples
unfolding rows digits leading width decimal refusal_line stretch reader add below stored_by after after_all last_byte compared_at compared_pieces
    read_compared run_of compared_below byte_text line lines read_file compared_files printed_for
examples = record {
  one_line = refl;
  zero-byte = refl;
  whole = refl;
  equal = refl;
  other = refl;
  more = refl;
  of-neither = refl;
  none-refused = refl;
  no-files = refl;
  no-files-old = refl;
  no-new = refl;
  longest = refl;
  longer = refl;
  old-length = refl;
  old-plan = refl;
  new-length = refl;
}
