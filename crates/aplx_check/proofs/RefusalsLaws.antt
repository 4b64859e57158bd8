-- Every refusal of the check has one of the three causes, and each cause is refused.
use Rattle.std.specs.Prelude.{◌≡◌, ℕ, zero, suc, ◌+◌, ◌*◌, ◌≤◌, Bool, true, false, List, [], ◌∷◌, length, if◌then◌else◌}
use Rattle.std.proofs.Math.Path.{refl}
use Rattle.std.proofs.Common.{sym, ◌∙◌, zero-add}
use Rattle.std.proofs.Math.Nat.{add-zero}
use native.Mathlib.Omega.{arith}
use Rattle.words.proofs.ChoiceLaws.{true-is-false, fails}
use Rattle.plan.specs.Plan.{Piece, Read, refused, pieces, read_plan}
use Rattle.aplx_check.specs.Check.{refuses, is_due, part_length, due_after, check_entries, whole_entries, End, at, none, first_end, check_to, check_pieces, check_read, check}
use Rattle.aplx_check.proofs.CheckEntry.{test-due, due-test}
use Rattle.aplx_check.proofs.CheckEndEntry.{end-found, none_found, found_none, found-end}
use Rattle.aplx_check.specs.Refusals.{Reached, Wrong, other, late, early, FirstWrong, Cause, by-plan, by_end, by-entry}

-- ---- the entries, where the end entry is entry `end`
module _ (image : List ℕ) (behind end : ℕ) (whole : 16 * end ≤ length image) where
  -- from entry e on, where these pieces are due: entry p is refused
  record WrongFrom (e : ℕ) (ps : List Piece) (n p : ℕ) : Type 0 where
    number : n ≡ 30
    before : ℕ
    place : e + before ≡ p
    inside : p ≤ end
    due : List Piece
    reached : Reached image behind before e ps due
    wrong : Wrong image behind end p due

  wrong-here : (e : ℕ) (ps : List Piece) {n p : ℕ} → e ≤ end → Wrong image behind end e ps → refuses 30 e ≡ refuses n p → WrongFrom e ps n p
  wrong-here e ps {n} {p} i w h =
      let z : e ≡ p = cc h in
      let number : n ≡ 30 = cc h in
      record { number = number; before = 0; place = omega arith; inside = omega arith; due = ps; reached = refl; wrong = rw z at w }

  refused-wrong : (l e : ℕ) (ps : List Piece) {n p : ℕ} → e + l ≡ end → check_entries image behind l e ps ≡ refuses n p → WrongFrom e ps n p
  unfolding check_entries
  refused-wrong zero e [] z h = let z : ◌≡◌ {A = ℕ} 0 1 = cc in absurd (omega arith)
  refused-wrong zero e (q ∷ qs) z h = wrong-here e (q ∷ qs) (omega arith) (early (omega arith)) h
  refused-wrong (suc l) e [] z h = wrong-here e [] (omega arith) (late (omega arith)) h
  refused-wrong (suc l) e (q ∷ qs) {n} {p} z h =
      go (λ f. refused-wrong l (suc e) (due_after (part_length image (16 * e) q) q qs) (omega arith) f) (is_due image behind (16 * e) q) refl h
    where
      go : let due = due_after (part_length image (16 * e) q) q qs in
          (check_entries image behind l (suc e) due ≡ refuses n p → WrongFrom (suc e) due n p) → (t : Bool) → is_due image behind (16 * e) q ≡ t
          → (if t then check_entries image behind l (suc e) due else refuses 30 e) ≡ refuses n p → WrongFrom e (q ∷ qs) n p
      go rest true t h =
          let r = rest h in
          record {
            number = r.number;
            before = suc r.before;
            place = omega (arith, r.place);
            inside = r.inside;
            due = r.due;
            reached = (test-due image behind (16 * e) (omega arith) q t, r.reached);
            wrong = r.wrong;
          }
      go rest false t h = wrong-here e (q ∷ qs) (omega arith) (other (omega arith) (λ m d. true-is-false (sym (due-test image behind (16 * e) m q d).0 ∙ t))) h

  here-refused : (l e : ℕ) (due : List Piece) → e + l ≡ end → Wrong image behind end e due → check_entries image behind l e due ≡ refuses 30 e
  unfolding check_entries
  here-refused zero e (q ∷ qs) z (other h d) = absurd (omega arith)
  here-refused zero e [] z (late h) = absurd (omega arith)
  here-refused zero e (q ∷ qs) z (early h) = refl
  here-refused (suc l) e (q ∷ qs) z (other h d) = rw (fails (is_due image behind (16 * e) q) (λ t. d _ (test-due image behind (16 * e) (omega arith) q t)))
  here-refused (suc l) e [] z (late h) = refl
  here-refused (suc l) e (q ∷ qs) z (early h) = absurd (omega arith)

  wrong-refused : (b l e : ℕ) (ps due : List Piece) → e + l ≡ end → b ≤ l → Reached image behind b e ps due → Wrong image behind end (e + b) due
      → check_entries image behind l e ps ≡ refuses 30 (e + b)
  unfolding check_entries
  wrong-refused zero l e ps due z h r w = rw (r, add-zero e) (here-refused l e due z (rw add-zero at w))
  wrong-refused (suc b) zero e ps due z h r w = absurd (omega arith)
  wrong-refused (suc b) (suc l) e [] due z h r w = absurd r
  wrong-refused (suc b) (suc l) e (p ∷ ps) due z h r w =
      let u : e + suc b ≡ suc e + b = omega arith in
      let n = part_length image (16 * e) p in
      rw ((due-test image behind (16 * e) n p r.0).0, u) (wrong-refused b l (suc e) (due_after n p ps) due (omega arith) (omega arith) r.1 (rw u at w))

-- from the first entry on
pub entries-refused : (image : List ℕ) (behind end : ℕ) → 16 * end ≤ length image → (ps : List Piece) {n p : ℕ}
    → check_entries image behind end 0 ps ≡ refuses n p → (n ≡ 30) × FirstWrong image ps behind end p
entries-refused image behind end whole ps {n} {p} h =
    let w = refused-wrong image behind end whole end 0 ps (omega arith) h in
    let z : w.before ≡ p = omega (arith, w.place) in
    (w.number, record { inside = w.inside; due = w.due; reached = rw z at w.reached; wrong = w.wrong })

pub refused-entries : (image : List ℕ) (behind end : ℕ) → 16 * end ≤ length image → (ps : List Piece) {p : ℕ} → FirstWrong image ps behind end p
    → check_entries image behind end 0 ps ≡ refuses 30 p
refused-entries image behind end whole ps {p} f =
    rw zero-add at (wrong-refused image behind end whole p end 0 ps f.due (omega arith) f.inside f.reached (rw (zero-add p) f.wrong))

-- ---- every refusal
pub refused-cause : (plan image : List ℕ) {n i : ℕ} → check plan image ≡ refuses n i → Cause plan image n i
unfolding check check_pieces
refused-cause plan image {n} {i} h = go (read_plan 1 plan) refl h
  where
    to : (ps : List Piece) → read_plan 1 plan ≡ pieces ps → (x : End) → first_end image (whole_entries image) 0 ≡ x → check_to image ps x ≡ refuses n i
        → Cause plan image n i
    to ps e (at x) t h =
        let f = end-found image (whole_entries image) 0 t in
        let w = entries-refused image (16 * suc x) x (omega (arith, f.high)) ps h in
        by-entry e f w.0 w.1
    to ps e none t h = by_end e (rw zero-add at (none_found image (whole_entries image) 0 t)) (cc h) (cc h)

    go : (r : Read) → read_plan 1 plan ≡ r → check_read image r ≡ refuses n i → Cause plan image n i
    go (refused x j) e h = by-plan (e ∙ cc h)
    go (pieces ps) e h = to ps e (first_end image (whole_entries image) 0) refl h

pub cause-refused : (plan image : List ℕ) {n i : ℕ} → Cause plan image n i → check plan image ≡ refuses n i
unfolding check check_pieces
cause-refused plan image (by-plan e) = rw e
cause-refused plan image (by_end e h n i) = rw (e, found_none image (whole_entries image) 0 (rw (zero-add (whole_entries image)) h), n, i)
cause-refused plan image (by-entry {ps} {end} e f n w) =
    rw (e, found-end image (whole_entries image) 0 end f, n) (refused-entries image (16 * suc end) end (omega (arith, f.high)) ps w)
