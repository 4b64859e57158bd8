-- The stretches in bytes, four Little Endian words each, and their lines one behind the other.
use Rattle.std.specs.Prelude.{◌≡◌, Bool}
use Rattle.std.proofs.Math.Path.{refl, ap, sym}
use Rattle.std.proofs.Common.{◌∙◌, arith, add-one, length-append}
use mathlib.Core.List.{List, [], ◌∷◌, ◌++◌, append_assoc, append-nil}
use Prim.Native.Nat.{ℕ, zero, suc, ◌+◌, ◌*◌, ◌≤◌}
use Rattle.std.proofs.Math.ListN.{length}
use Rattle.words.specs.Choice.{All}
use Rattle.words.specs.declared.four.Four.{Four}
use Rattle.words.specs.Four.{four_at, four_bytes}
use Rattle.words.proofs.FourLaws.{length-four_bytes, four-at-behind}
use Rattle.words.specs.Bytes.{little_endian_at}
use Rattle.words.proofs.BytesLaws.{little-at-behind}
use Rattle.words.specs.Store.{store, store_if_fits}
use Rattle.words.proofs.StoreLaws.{store-nil, store-behind}
use Rattle.stretches.specs.Stretches.{Stretch}
use Rattle.compare.specs.Compare.{stretch_bytes}
use Rattle.compare.proofs.CompareSmall.{Small}
use Rattle.comparison.specs.Lines.{run_line, line, lines}
use Rattle.comparison.specs.Lines.Laws.{adjoined, length-line}

-- the stretch that four words are
abbrev pub stretch_of : Four → Stretch
stretch_of w = record { first = w.first; last = w.second; old = w.third; new = w.fourth }

-- the first k stretches in s
unfoldable pub stretches_in : ℕ → List ℕ → List Stretch
stretches_in zero s = []
stretches_in (suc k) s = stretches_in k s ++ stretch_of (four_at s (k * 16)) ∷ []

-- their lines, without that of the runs
unfoldable pub stretch_lines : List Stretch → List ℕ
stretch_lines [] = []
stretch_lines (s ∷ l) = line s ++ stretch_lines l

-- ---- read back from their bytes
module _ (x s : List ℕ) (e : length x ≡ 16) where
  at-behind : (p q : ℕ) → q ≡ 16 + p → little_endian_at 4 (x ++ s) q ≡ little_endian_at 4 s p
  at-behind p q f = let z : q ≡ length x + p = omega arith in rw z (little-at-behind 4 p x s)

  four-behind : (k : ℕ) → four_at (x ++ s) (suc k * 16) ≡ four_at s (k * 16)
  four-behind k =
      let p = k * 16 in
      let q = suc k * 16 in
      rw (at-behind p q (omega arith), at-behind (p + 4) (q + 4) (omega arith), at-behind (p + 8) (q + 8) (omega arith), at-behind (p + 12) (q + 12) (omega arith))

  first_more : (k : ℕ) → stretches_in (suc k) (x ++ s) ≡ stretch_of (four_at (x ++ s) 0) ∷ stretches_in k s
  unfolding stretches_in
  first_more zero = refl
  first_more (suc k) =
      ap (λ (l : List Stretch). l ++ stretch_of (four_at (x ++ s) (suc k * 16)) ∷ []) (first_more k)
      ∙ ap (λ (w : Four). stretch_of (four_at (x ++ s) 0) ∷ (stretches_in k s ++ stretch_of w ∷ [])) (four-behind k)

pub read_back : (l : List Stretch) (rest : List ℕ) → All Small l → stretches_in (length l) (stretch_bytes l ++ rest) ≡ l
unfolding stretches_in stretch_bytes
read_back [] rest h = refl
read_back (s ∷ l) rest h =
    let x = four_bytes s.first s.last s.old s.new in
    let d = stretch_bytes l ++ rest in
    let g = h.0 in
    let w = four-at-behind [] s.first s.last s.old s.new d g.0 g.1 g.2 g.3 in
    rw (append_assoc x (stretch_bytes l) rest)
    (first_more x d (length-four_bytes s.first s.last s.old s.new) (length l)
    ∙ ap (λ (v : Four). stretch_of v ∷ stretches_in (length l) d) w
    ∙ ap (λ (k : List Stretch). s ∷ k) (read_back l rest h.1))

-- ---- their lines
append-lines : (l k : List Stretch) → stretch_lines (l ++ k) ≡ stretch_lines l ++ stretch_lines k
unfolding stretch_lines
append-lines [] k = refl
append-lines (s ∷ l) k = ap (λ (j : List ℕ). line s ++ j) (append-lines l k) ∙ sym (append_assoc (line s) (stretch_lines l) (stretch_lines k))

pub lines_are : (l : List Stretch) (same : Bool) → lines l same ≡ stretch_lines l ++ run_line same
unfolding lines stretch_lines
lines_are [] same = refl
lines_are (s ∷ l) same = ap (λ (k : List ℕ). line s ++ k) (lines_are l same) ∙ sym (append_assoc (line s) (stretch_lines l) (run_line same))

pub length-lines : (l : List Stretch) → length (stretch_lines l) ≡ length l * 24
unfolding stretch_lines
length-lines [] = refl
length-lines (s ∷ l) = rw (length-append, length-line s, length-lines l) (omega arith)

pub length-stretches : (k : ℕ) (s : List ℕ) → length (stretches_in k s) ≡ k
unfolding stretches_in
length-stretches zero s = refl
length-stretches (suc k) s = rw (length-append, length-stretches k s) (omega arith)

-- all of the text
pub length-text : (k : ℕ) (s : List ℕ) (same : Bool) → length (lines (stretches_in k s) same) ≡ k * 24 + length (run_line same)
length-text k s same = rw (lines_are (stretches_in k s) same, length-append, length-lines (stretches_in k s), length-stretches k s)

-- ---- writing them: those of the first i stretches in s stand at the front of the text m
abbrev pub Written : List ℕ → List ℕ → ℕ → List ℕ → Type 0
Written m s i text = text ≡ store m 0 (stretch_lines (stretches_in i s))

module _ (m s : List ℕ) where
  pub written_none : Written m s 0 m
  unfolding stretch_lines stretches_in
  written_none = sym (store-nil m 0)

  pub written_next : (i : ℕ) (text next : List ℕ) → i * 24 ≤ length m → Written m s i text
      → next ≡ store text (i * 24) (line (stretch_of (four_at s (i * 16)))) → Written m s (i + 1) next
  unfolding stretch_lines stretches_in
  written_next i text next h e g =
      let l = stretches_in i s in
      let t = stretch_of (four_at s (i * 16)) in
      let n : 0 + length (stretch_lines l) ≡ i * 24 = omega (arith, length-lines l, length-stretches i s) in
      let more : stretch_lines (stretches_in (i + 1) s) ≡ stretch_lines l ++ line t =
      ap (λ (j : ℕ). stretch_lines (stretches_in j s)) (add-one i) ∙ append-lines l (t ∷ [])
      ∙ ap (λ (d : List ℕ). stretch_lines l ++ d) (append-nil (line t)) in
      adjoined m 0 (stretch_lines l) (i * 24) n text (line t) next h e g ∙ ap (store m 0) (sym more)

  -- and the line of the runs behind them
  pub lines-written : (k : ℕ) (same : Bool) (text last : List ℕ) → k * 24 + length (run_line same) ≤ length m → Written m s k text
      → last ≡ store_if_fits text (k * 24) (run_line same) → last ≡ store m 0 (lines (stretches_in k s) same)
  lines-written k same text last h e g =
      let l = stretches_in k s in
      let n : 0 + length (stretch_lines l) ≡ k * 24 = omega (arith, length-lines l, length-stretches k s) in
      store-behind m 0 (stretch_lines l) (run_line same) (k * 24) text last n h e g ∙ ap (store m 0) (sym (lines_are l same))
