-- An image is read as pieces exactly if it carries them, each can be packed, and they are 64 at most.
use Rattle.std.specs.Prelude.{◌≡◌, Bool, not, List, [], ◌∷◌, ℕ, zero, suc, ◌+◌, ◌*◌, ◌%◌, ◌≤◌, ◌<◌, ltb, leb, eqb, if◌then◌else◌}
use Rattle.std.proofs.Math.Path.{refl, ap}
use Rattle.std.proofs.Common.{sym, ◌∙◌, arith}
use Rattle.std.proofs.Math.ListN.{length}
use borrow.Author.Tests.{ltb-false, le-ltb, lt-leb, eqb-true, eq-eqb, ne_eqb}
use Rattle.words.specs.Choice.{All}
use Rattle.words.proofs.ChoiceLaws.{from-else, from_then, from_either}
use Rattle.words.specs.Bytes.{little_endian_at, Bytes}
use Rattle.plan.specs.Plan.{Piece, put, fill, run, Row, put_row, fill_row, run_row, piece_in, Read, refused, pieces}
use Rattle.plan.specs.Packable.{Sized, Packable}
use Rattle.plan.proofs.PlanLaws.{row-packable}
use Rattle.plan.proofs.PlanSteps.{refused-no-pieces}
use Rattle.aplx_image.specs.Carries.{EntryAt, EndAt, Says, Carries}
use Rattle.aplx_read.specs.ReadBack.{Entry, piece, end, bad, judge_count, judge_exec, judge_range, source, judge_copy, judge_words, entry_at, next, read_entries, read_image}
use Rattle.aplx_read.proofs.ReadBackLaws.{end-no-piece, RowAt}
use Rattle.aplx_read.proofs.ReadBackTold.{entry-told}

-- ---- the end
bad-no-end : {n : ℕ} → bad n ≡ end → ⊥
bad-no-end e = let z : ◌≡◌ {A = ℕ} 0 1 = cc in omega arith

piece-no-end : {row : Row} → piece row ≡ end → ⊥
piece-no-end e = end-no-piece (sym e)

-- a test, before what is not the end
behind : (t : Bool) (n : ℕ) {x : Entry} → (x ≡ end → ⊥) → (if t then bad n else x) ≡ end → ⊥
behind t n f = from_either t bad-no-end f

range-no-end : (a n : ℕ) {x : Entry} → (x ≡ end → ⊥) → judge_range a n x ≡ end → ⊥
unfolding judge_range
range-no-end a n f = behind (eqb n 0) 5 (behind (not (eqb (n % 32) 0)) 22 (behind (ltb 65536 n) 22 (behind (not (eqb (a % 4) 0)) 3 f)))

module _ (image : List ℕ) (e : ℕ) where
  words-end : (c x y z : ℕ) → judge_words image e c x y z ≡ end → c ≡ 0xffffffff
  unfolding judge_words judge_copy judge_exec
  words-end c x y z h =
      eqb-true c 0xffffffff
      (from_then (eqb c 0xffffffff)
      (from_either (eqb c 2)
      (behind (leb 64 e) 21 (range-no-end x z (behind (not (eqb (y % 4) 0)) 3 (behind (ltb (length image) (source e y + z)) 23 piece-no-end))))
      (from_either (eqb c 3) (behind (leb 64 e) 21 (range-no-end x y piece-no-end))
      (from_either (eqb c 4) (behind (leb 64 e) 21 (behind (eqb (x % 4) 2) 9 piece-no-end)) bad-no-end))) h).0

  pub entry-end : entry_at image e ≡ end → EndAt image (16 * e)
  unfolding entry_at
  entry-end h =
      let t = from-else (ltb (length image) (16 * e + 16)) bad-no-end h in
      record {
        first = little_endian_at 4 image (16 * e + 4);
        second = little_endian_at 4 image (16 * e + 8);
        third = little_endian_at 4 image (16 * e + 12);
        entry = record { whole = ltb-false _ _ t.0; command = words-end _ _ _ _ t.1; first = refl; second = refl; third = refl };
      }

-- ---- an image that was read carries its pieces
-- from entry e on
pub record Carrying (image : List ℕ) (e : ℕ) (ps : List Piece) : Type 0 where
  pub carried : Carries image (16 * e) ps
  pub good : All (Packable 32) ps
  pub few : e + length ps ≤ 64

entries-carry : (image : List ℕ) → Bytes image → (k e : ℕ) {ps : List Piece} → e ≤ 64 → read_entries image k e ≡ pieces ps → Carrying image e ps
unfolding read_entries
entries-carry image b zero e l h = absurd (refused-no-pieces h)
entries-carry image b (suc k) e {ps} l h =
    go (entry_at image e) refl (read_entries image k (suc e)) (λ qs g r. entries-carry image b k (suc e) g r) h
  where
    go : (x : Entry) → entry_at image e ≡ x → (r : Read) → ((qs : List Piece) → suc e ≤ 64 → r ≡ pieces qs → Carrying image (suc e) qs)
        → next image x e r ≡ pieces ps → Carrying image e ps
    go (piece row) t (pieces qs) f h =
        let s = entry-told image b e t in
        let r = f qs s.few refl in
        let z : piece_in image row ∷ qs ≡ ps = cc in
        let u : 16 * e + 16 ≡ 16 * suc e = omega arith in
        rw (sym z) (record {
          carried = (s.says, rw u r.carried);
          good = (row-packable 32 image (omega arith) row s.passed, r.good);
          few = omega (arith, r.few);
        })
    go (piece row) t (refused n i) f h = absurd (refused-no-pieces h)
    go end t r f h = let z : [] ≡ ps = cc in rw (sym z) (record { carried = entry-end image e t; good = tt; few = omega arith })
    go (bad n) t r f h = absurd (refused-no-pieces h)

pub image-carries : (image : List ℕ) {ps : List Piece} → Bytes image → read_image image ≡ pieces ps → Carrying image 0 ps
unfolding read_image
image-carries image b h = entries-carry image b 65 0 (omega arith) h

-- ---- an image that carries pieces is read
entry-is : (image : List ℕ) (e c x y z : ℕ) → EntryAt image (16 * e) c x y z → entry_at image e ≡ judge_words image e c x y z
unfolding entry_at
entry-is image e c x y z s = rw (le-ltb (length image) (16 * e + 16) s.whole, s.command, s.first, s.second, s.third)

sized_range : (a n : ℕ) (x : Entry) → Sized 32 a n → judge_range a n x ≡ x
unfolding judge_range
sized_range a n x g =
    simp (ne_eqb n 0 (omega (arith, g.some)), eq-eqb (n % 32) 0 g.whole, le-ltb 65536 n g.most, eq-eqb (a % 4) 0 g.aligned)

-- one of the first 64 entries
module _ (image : List ℕ) (e : ℕ) (few : e < 64) where
  within : (x : Entry) → judge_count e x ≡ x
  within x = rw (lt-leb 64 e few)

  piece-read : (p : Piece) → Says image (16 * e) p → Packable 32 p → RowAt image e p
  unfolding judge_words judge_copy judge_exec
  piece-read (put a d) s g =
      let o : s.offset % 4 ≡ 0 = omega (arith, s.from-here, s.aligned) in
      record {
        row = put_row a s.source (length d);
        is_row =
            entry-is image e 2 a s.offset (length d) s.entry ∙ within _ ∙ sized_range a (length d) _ g
            ∙ simp (eq-eqb (s.offset % 4) 0 o, s.from-here, le-ltb (length image) (s.source + length d) s.inside);
        is-piece = ap (put a) (sym s.bytes);
      }
  piece-read (fill a n w) s g =
      record { row = fill_row a n w; is_row = entry-is image e 3 a n w s ∙ within _ ∙ sized_range a n _ g.0; is-piece = refl }
  piece-read (run a) s g = record {
    row = run_row a;
    is_row = entry-is image e 4 a s.second s.third s.entry ∙ within _ ∙ simp (ne_eqb (a % 4) 2 g.1);
    is-piece = refl;
  }

entries-read : (image : List ℕ) (ps : List Piece) (k e : ℕ) → Carries image (16 * e) ps → All (Packable 32) ps → e + length ps ≤ 64 → length ps < k
    → read_entries image k e ≡ pieces ps
unfolding read_entries
entries-read image ps zero e c g l h = absurd (omega arith)
entries-read image [] (suc k) e c g l h = unfold judge_words in (rw (entry-is image e _ _ _ _ c.entry))
entries-read image (p ∷ ps) (suc k) e c g l h =
    let u : 16 * e + 16 ≡ 16 * suc e = omega arith in
    let r = piece-read image e (omega arith) p c.0 g.0 in
    rw (r.is_row, entries-read image ps k (suc e) (rw u at c.1) g.1 (omega arith) (omega arith)) (ap (λ (q : Piece). pieces (q ∷ ps)) (sym r.is-piece))

pub carried-image-read : (image : List ℕ) (ps : List Piece) → Carries image 0 ps → All (Packable 32) ps → length ps ≤ 64 → read_image image ≡ pieces ps
unfolding read_image
carried-image-read image ps c g l = entries-read image ps 65 0 c g (omega arith) (omega arith)
