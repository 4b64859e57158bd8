-- Laws of the words of a list of stretches: the four words of each.
use Rattle.std.specs.Prelude.{◌≡◌, refl, List, [], ◌∷◌, ℕ, zero, suc, ◌+◌, ◌*◌, ◌<◌, take}
use Rattle.std.proofs.Math.Path.{ap}
use Rattle.std.proofs.Common.{sym, ◌∙◌, add-zero, arith, get_or-take}
use Rattle.std.proofs.Math.ListN.{length, get_or}
use Rattle.stretches.specs.Stretches.{Stretch}
use Rattle.stretches.specs.Stretches.Words.{words_of}

abbrev none : Stretch
none = record { first = 0; last = 0; old = 0; new = 0 }

-- the four words of stretch i
pub record WordsAt (words : List ℕ) (p : ℕ) (s : Stretch) : Type 0 where
  pub first : get_or words p 0 ≡ s.first
  pub last : get_or words (p + 1) 0 ≡ s.last
  pub old : get_or words (p + 2) 0 ≡ s.old
  pub new : get_or words (p + 3) 0 ≡ s.new

pub words-behind : (s : Stretch) (l : List Stretch) (i j : ℕ) → get_or (words_of (s ∷ l)) (4 * suc i + j) 0 ≡ get_or (words_of l) (4 * i + j) 0
unfolding words_of
words-behind s l i j = let z : 4 * suc i + j ≡ suc (suc (suc (suc (4 * i + j)))) = omega arith in rw z

pub words-at : (l : List Stretch) (i : ℕ) → i < length l → WordsAt (words_of l) (4 * i) (get_or l i none)
unfolding words_of
words-at [] i h = absurd (omega arith)
words-at (s ∷ l) zero h = record { first = refl; last = refl; old = refl; new = refl }
words-at (s ∷ l) (suc i) h =
    let w = words-at l i (omega arith) in
    record {
      first = rw (add-zero (4 * suc i), add-zero (4 * i)) at (words-behind s l i 0) ∙ w.first;
      last = words-behind s l i 1 ∙ w.last;
      old = words-behind s l i 2 ∙ w.old;
      new = words-behind s l i 3 ∙ w.new;
    }

-- words whose first 4 n are those of n stretches
module _ (n : ℕ) (words : List ℕ) (l : List Stretch) (many : length l ≡ n) (are : take (4 * n) words ≡ words_of l) (i : ℕ) (g : i < n) where
  word_at : (j : ℕ) → j < 4 → get_or words (4 * i + j) 0 ≡ get_or (words_of l) (4 * i + j) 0
  word_at j k = sym (get_or-take (4 * n) words (4 * i + j) 0 (omega arith)) ∙ ap (λ (w : List ℕ). get_or w (4 * i + j) 0) are

  pub stretch-words : WordsAt words (4 * i) (get_or l i none)
  stretch-words =
      let w = words-at l i (omega arith) in
      record {
        first = (rw add-zero at (word_at 0 (omega arith))) ∙ w.first;
        last = word_at 1 (omega arith) ∙ w.last;
        old = word_at 2 (omega arith) ∙ w.old;
        new = word_at 3 (omega arith) ∙ w.new;
      }
