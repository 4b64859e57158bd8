-- What the test of one entry says (paper 02, C-20): `is_due` holds exactly where the entry says the first bytes of the piece that is due,
-- by the rules of a part, or its run, and has its data behind the end entry.
use Rattle.std.specs.Prelude.{◌≡◌, ℕ, ◌+◌, ◌%◌, ◌≤◌, true, List, length, take, drop, ◌==◌, nat_le, nat_lt}
use Rattle.std.proofs.Math.Path.{refl, sym}
use Rattle.std.proofs.Common.{◌∙◌}
use Rattle.std.proofs.Math.Seq.{length-take-le}
use borrow.Author.Tests.{ltb-true, lt-ltb, leb-true, le-leb, eqb-true, eq-eqb}
use Rattle.words.proofs.ChoiceLaws.{both, four-hold}
use Rattle.words.specs.Bytes.{little_endian_at}
use Rattle.words.specs.Equal.{same}
use Rattle.words.proofs.EqualLaws.{same-equal, equal-same}
use Rattle.plan.specs.Plan.{Piece, put, fill, run}
use Rattle.aplx_image.specs.Carries.{EntryAt, source_of, PutAt, RunAt}
use Rattle.aplx_check.specs.Parts.{Part}
use Rattle.aplx_check.specs.Check.{is_part, has_data, is_due, part_length}
use Rattle.aplx_check.specs.Refusals.{DueAt}

-- ---- its tests
pub test-part : (a l n : ℕ) → is_part a l n ≡ true → Part a l n
unfolding is_part
test-part a l n e =
    let x = four-hold (nat_lt 0 n) (n % 32 == 0) (nat_le n l) (nat_lt a 4294967296) e in
    record { some = ltb-true _ _ x.0; whole = eqb-true _ _ x.1; inside = leb-true _ _ x.2; low = ltb-true _ _ x.3 }

part-test : (a l n : ℕ) → Part a l n → is_part a l n ≡ true
unfolding is_part
part-test a l n g = rw (lt-ltb 0 n g.some, eq-eqb _ _ g.whole, le-leb n l g.inside, lt-ltb a 4294967296 g.low)

-- these bytes stand at offset s
record DataAt (image : List ℕ) (behind s : ℕ) (d : List ℕ) : Type 0 where
  aligned : s % 4 ≡ 0
  low : behind ≤ s
  inside : s + length d ≤ length image
  bytes : take (length d) (drop s image) ≡ d

test-data : (image : List ℕ) (behind s : ℕ) (d : List ℕ) → has_data image behind s d ≡ true → DataAt image behind s d
unfolding has_data
test-data image behind s d e =
    let x = four-hold (s % 4 == 0) (nat_le behind s) (nat_le (s + length d) (length image)) (same (take (length d) (drop s image)) d) e in
    record { aligned = eqb-true _ _ x.0; low = leb-true _ _ x.1; inside = leb-true _ _ x.2; bytes = same-equal _ d x.3 }

data-test : (image : List ℕ) (behind s : ℕ) (d : List ℕ) → DataAt image behind s d → has_data image behind s d ≡ true
unfolding has_data
data-test image behind s d h = rw (eq-eqb _ _ h.aligned, le-leb _ _ h.low, le-leb _ _ h.inside, h.bytes, equal-same d)

-- ---- the entry
module _ (image : List ℕ) (behind k : ℕ) where
  pub test-due : k + 16 ≤ length image → (p : Piece) → is_due image behind k p ≡ true → DueAt image behind k (part_length image k p) p
  unfolding is_due
  test-due h (put a d) e =
      let n = little_endian_at 4 image (k + 12) in
      let offset = little_endian_at 4 image (k + 8) in
      let x = four-hold (little_endian_at 4 image k == 2) (little_endian_at 4 image (k + 4) == a) (is_part a (length d) n)
      (has_data image behind (source_of k offset) (take n d)) e in
      let g = test-part a (length d) n x.2 in
      let b = test-data image behind (source_of k offset) (take n d) x.3 in
      let z = length-take-le n d g.inside in
      let s : PutAt image k a (take n d) = record {
        offset = offset;
        entry = record { whole = h; command = eqb-true _ _ x.0; first = eqb-true _ _ x.1; second = refl; third = sym z };
        source = source_of k offset;
        from-here = refl;
        aligned = b.aligned;
        inside = b.inside;
        bytes = b.bytes;
      } in
      record { part = g; says = s; data-behind = b.low }
  test-due h (fill a l w) e =
      let n = little_endian_at 4 image (k + 8) in
      let x = four-hold (little_endian_at 4 image k == 3) (little_endian_at 4 image (k + 4) == a) (is_part a l n) (little_endian_at 4 image (k + 12) == w) e in
      let s : EntryAt image k 3 a n w = record {
        whole = h;
        command = eqb-true _ _ x.0;
        first = eqb-true _ _ x.1;
        second = refl;
        third = eqb-true _ _ x.3;
      } in
      record { part = test-part a l n x.2; says = s; data-behind = tt }
  test-due h (run a) e =
      let x = both (little_endian_at 4 image k == 4) (little_endian_at 4 image (k + 4) == a) e in
      let s : RunAt image k a = record {
        second = little_endian_at 4 image (k + 8);
        third = little_endian_at 4 image (k + 12);
        entry = record { whole = h; command = eqb-true _ _ x.0; first = eqb-true _ _ x.1; second = refl; third = refl };
      } in
      record { part = refl; says = s; data-behind = tt }

  pub due-test : (n : ℕ) (p : Piece) → DueAt image behind k n p → (is_due image behind k p ≡ true) × (part_length image k p ≡ n)
  unfolding is_due
  due-test n (put a d) u =
      let s : PutAt image k a (take n d) = u.says in
      let z : little_endian_at 4 image (k + 12) ≡ n = s.entry.third ∙ length-take-le n d u.part.inside in
      let b : has_data image behind (source_of k (little_endian_at 4 image (k + 8))) (take n d) ≡ true =
      data-test image behind (source_of k (little_endian_at 4 image (k + 8))) (take n d) (record {
        aligned = rw (s.entry.second, s.from-here) s.aligned;
        low = u.data-behind;
        inside = rw (s.entry.second, s.from-here) s.inside;
        bytes = rw (s.entry.second, s.from-here) s.bytes;
      }) in
      (rw (z, eq-eqb _ _ s.entry.command, eq-eqb _ _ s.entry.first, part-test a (length d) n u.part, b), z)
  due-test n (fill a l w) u =
      let s : EntryAt image k 3 a n w = u.says in
      (rw (s.second, eq-eqb _ _ s.command, eq-eqb _ _ s.first, part-test a l n u.part, eq-eqb _ _ s.third), s.second)
  due-test n (run a) u =
      let s : RunAt image k a = u.says in
      (rw (eq-eqb _ _ s.entry.command, eq-eqb _ _ s.entry.first), sym u.part)
