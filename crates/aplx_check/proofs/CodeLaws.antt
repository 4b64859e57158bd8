-- Laws for the code: plans that are refused, parts within their piece, and what is due, a step of the loop over the entries.
use Rattle.std.specs.Prelude.{◌≡◌, ℕ, suc, ◌+◌, ◌-◌, ◌*◌, ◌<◌, ◌≤◌, Bool, true, false, List, ◌∷◌, length, get_or, take, drop, ◌==◌, slice_index_or, slice_range, refl, if◌then◌else◌}
use Rattle.std.proofs.Common.{ap, sym, ◌∙◌, add-zero, zero-add, add-one, arith, length-drop, length-take-le, get_or-drop, drop-cons, drop-drop, drop_at, take-add, eqb-true}
use Rattle.std.proofs.lemmas.Bool.{eqb-false}
use Rattle.words.proofs.ChoiceLaws.{four-hold}
use Rattle.words.specs.Bytes.{little_endian_at}
use Rattle.plan.specs.Plan.{Piece, put, fill, run, data_of, filled_by, Read, refused, pieces}
use Rattle.plan.specs.Code as plan
use Rattle.plan.specs.Code.{outcome_of}
use Rattle.aplx_image.specs.Carries.{source_of}
use Rattle.aplx_check.specs.declared.due.Due.{Due}
use Rattle.aplx_check.specs.Parts.{size_of, rest_of}
use Rattle.aplx_check.proofs.PartsLaws.{rest-size}
use Rattle.aplx_check.specs.Check.{refuses, is_part, has_data, is_due, part_length, check_entries, check_read}
use Rattle.aplx_check.proofs.CheckEntry.{test-part}
use Rattle.aplx_check.proofs.CheckLaws.{rest-length, due_from, entry-last, entry_more}
use Rattle.aplx_check.specs.Code.{after_part}

-- ---- a plan that is refused
pub plan-refused : (image : List ℕ) (r : Read) {n i : ℕ} → outcome_of r ≡ plan.refuses n i → check_read image r ≡ refuses n i
plan-refused image (refused m j) {n} {i} e =
    let x : m ≡ n = cc in
    let y : j ≡ i = cc in
    rw (x, y)
plan-refused image (pieces ps) e = let z : ◌≡◌ {A = ℕ} 0 1 = cc in absurd (omega arith)

-- ---- a part ends within its piece
pub part-inside : (a l n : ℕ) → is_part a l n ≡ true → n ≤ l
part-inside a l n e = (test-part a l n e).inside

due-inside : (image : List ℕ) (behind k : ℕ) (p : Piece) → is_due image behind k p ≡ true → part_length image k p ≤ size_of p
unfolding is_due
due-inside image behind k (put a d) e =
    let n = little_endian_at 4 image (k + 12) in
    let x = four-hold (little_endian_at 4 image k == 2) (little_endian_at 4 image (k + 4) == a) (is_part a (length d) n)
    (has_data image behind (source_of k (little_endian_at 4 image (k + 8))) (take n d)) e in
    part-inside a (length d) n x.2
due-inside image behind k (fill a l w) e =
    let n = little_endian_at 4 image (k + 8) in
    let x = four-hold (little_endian_at 4 image k == 3) (little_endian_at 4 image (k + 4) == a) (is_part a l n) (little_endian_at 4 image (k + 12) == w) e in
    part-inside a l n x.2
due-inside image behind k (run a) e = omega arith

-- ---- the bytes of a piece
-- how many it stores
pub size-sum : (p : Piece) → size_of p ≡ length (data_of p) + filled_by p
size-sum (put a d) = sym (add-zero (length d))
size-sum (fill a l w) = sym (zero-add l)
size-sum (run a) = refl

-- those of the n bytes from o on that are left behind the first k
pub bytes_left : (s : List ℕ) (o n k : ℕ) → o + n ≤ length s → k ≤ n → drop k (take n (drop o s)) ≡ take (n - k) (drop (o + k) s)
bytes_left s o n k h g =
    let l = drop o s in
    let e : k + (n - k) ≡ n = omega arith in
    ap (λ (j : ℕ). drop k (take j l)) (sym e) ∙ rw (take-add k (n - k) l)
    (drop_at (take k l) (slice_range l k n) k (length-take-le k l (omega (arith, length-drop o s))) ∙ rw (drop-drop k o s))

-- ---- what is due of the pieces
abbrev pub due_in : List Piece → Due → List Piece
due_in ps d = due_from d.done (drop d.index ps)

-- the piece that is due; a run at 0 where none is
abbrev pub piece_due : List Piece → Due → Piece
piece_due ps d = slice_index_or ps d.index (run 0)

-- the bytes that are done are of that piece
abbrev pub Within : List Piece → Due → Type 0
Within ps d = (d.index ≤ length ps) × (d.done ≤ size_of (piece_due ps d))

pub piece-due : (ps : List Piece) (d : Due) {p : Piece} {rest : List Piece} → drop d.index ps ≡ p ∷ rest → piece_due ps d ≡ p
piece-due ps d e = rw (add-zero d.index) at (sym (get_or-drop d.index ps 0 (run 0)) ∙ ap (λ (l : List Piece). get_or l 0 (run 0)) e)

-- ---- the next entry, e of those before entry n, is what is due
module _ (image : List ℕ) (behind n e : ℕ) (h : e < n) (ps : List Piece) (d : Due) (k : d.index < length ps)
    (is-due : is_due image behind (16 * e) (rest_of d.done (piece_due ps d)) ≡ true)
  where
    abbrev length_here : ℕ
    length_here = part_length image (16 * e) (piece_due ps d)

    pub part-ends : d.done ≤ size_of (piece_due ps d) → d.done + length_here ≤ size_of (piece_due ps d)
    part-ends w =
        let p = piece_due ps d in
        let o = d.done in
        omega (arith, due-inside image behind (16 * e) (rest_of o p) is-due, rest-size o p, rest-length image (16 * e) o p)

    -- what is due behind it
    pub record After (next : Due) : Type 0 where
      pub within : Within ps next
      pub same : check_entries image behind (n - e) e (due_in ps d) ≡ check_entries image behind (n - (e + 1)) (e + 1) (due_in ps next)

    pub due-next : d.done ≤ size_of (piece_due ps d) → After (after_part d length_here (size_of (piece_due ps d)))
    due-next w = go (d.done + length_here == size_of (piece_due ps d)) refl
      where
        go : (t : Bool) → (d.done + length_here == size_of (piece_due ps d)) ≡ t
            → After (if t then record { index = d.index + 1; done = 0 } else record { index = d.index; done = d.done + length_here })
        go true t = record {
          within = (omega arith, omega arith);
          same = rw (drop-cons ps d.index (run 0) k, add-one d.index)
              (entry-last image behind n e d.done (drop (suc d.index) ps) h (piece_due ps d) is-due w (eqb-true _ _ t));
        }
        go false t = record {
          within = (omega arith, part-ends w);
          same = rw (drop-cons ps d.index (run 0) k)
              (entry_more image behind n e d.done (drop (suc d.index) ps) h (piece_due ps d) is-due
              (omega (arith, part-ends w, eqb-false (d.done + length_here) (size_of (piece_due ps d)) t)));
        }
