-- The check accepts every image that is written by the rules (paper 02, C-20: "Every image written by those rules is accepted, with at
-- most 256 entries"), and conversely an image that it accepts is written by them.
use Rattle.std.specs.Prelude.{◌≡◌, ℕ, zero, suc, ◌+◌, ◌*◌, ◌<◌, false, List, [], ◌∷◌, length, drop, ◌==◌, ◌≢◌}
use Rattle.std.proofs.Math.Path.{refl, ap}
use Rattle.std.proofs.Common.{add-zero, zero-add, eq-eqb}
use native.Mathlib.Omega.{arith}
use Rattle.words.specs.Choice.{All}
use Rattle.words.proofs.ChoiceLaws.{from_then, all_map}
use Rattle.words.specs.Bytes.{little_endian_at, Bytes}
use Rattle.plan.specs.Plan.{Piece, put, fill, run, Read, refused, pieces, read_plan}
use Rattle.plan.specs.Packable.{Packable}
use Rattle.plan.proofs.PlanLaws.{packable}
use Rattle.aplx_image.specs.Carries.{EndAt, Says, Carries}
use Rattle.aplx_image.proofs.CarriesLaws.{carries-whole, carries-drop}
use Rattle.aplx_check.specs.Parts.{first_part, parts}
use Rattle.aplx_check.specs.Written.{AllBehind, Written, WrittenFor}
use Rattle.aplx_check.specs.Check.{accepted, refuses, is_due, part_length, due_after, check_entries, whole_entries, End, at, none, first_end, check_to, check_pieces, check_read, check}
use Rattle.aplx_check.proofs.CheckEndEntry.{end-found}
use Rattle.aplx_check.proofs.CheckSplits.{Splits, Filled, join, begins}
use Rattle.aplx_check.proofs.CheckEntry.{test-due, due-test}

pub refused-no-accepted : {n i : ℕ} → refuses n i ≢ accepted
refused-no-accepted e = let z : ◌≡◌ {A = ℕ} 0 1 = cc in omega arith

-- ---- the entries before the end entry, from entry e on
module _ (image : List ℕ) (behind : ℕ) where
  -- these l entries say the parts of the pieces
  record AllSaid (l e : ℕ) (ps : List Piece) : Type 0 where
    said : List Piece
    split : Splits ps said
    count : length said ≡ l
    entries : Carries image (16 * e) said
    data-behind : AllBehind image behind (16 * e) said

  entries-say : (l e : ℕ) (ps : List Piece) → EndAt image (16 * (e + l)) → check_entries image behind l e ps ≡ accepted → AllSaid l e ps
  unfolding check_entries
  entries-say zero e [] t h = record {
    said = [];
    split = record { lengths = []; split = tt; are = refl };
    count = refl;
    entries = rw (add-zero e) at t;
    data-behind = tt;
  }
  entries-say zero e (p ∷ ps) t h = absurd (refused-no-accepted h)
  entries-say (suc l) e [] t h = absurd (refused-no-accepted h)
  entries-say (suc l) e (p ∷ ps) t h =
      let n = part_length image (16 * e) p in
      let x = from_then (is_due image behind (16 * e) p) refused-no-accepted h in
      let u : e + suc l ≡ suc e + l = omega arith in
      let v : 16 * e + 16 ≡ 16 * suc e = omega arith in
      let d = test-due image behind (16 * e) (omega (arith, t.entry.whole)) p x.0 in
      let r = entries-say l (suc e) (due_after n p ps) (rw u at t) x.1 in
      record {
        said = first_part n p ∷ r.said;
        split = join n p ps r.said d.part r.split;
        count = ap suc r.count;
        entries = (d.says, rw v r.entries);
        data-behind = (d.data-behind, rw v r.data-behind);
      }

  say-entries : (qs : List Piece) (e : ℕ) (ps : List Piece) → All Filled ps → Splits ps qs → Carries image (16 * e) qs → AllBehind image behind (16 * e) qs
      → check_entries image behind (length qs) e ps ≡ accepted
  unfolding check_entries
  say-entries [] e [] f s c o = refl
  say-entries (q ∷ qs) e [] f s c o = let z = ap length s.are in absurd (omega (arith, z))
  say-entries [] e (p ∷ ps) f s c o = let z = ap length (begins p ps [] f s).are in absurd (omega (arith, z))
  say-entries (q ∷ qs) e (p ∷ ps) f s c o =
      let b = begins p ps (q ∷ qs) f s in
      let first : q ≡ first_part b.count p = cc b.are in
      let rest : b.rest ≡ qs = cc b.are in
      let v : 16 * e + 16 ≡ 16 * suc e = omega arith in
      let d = due-test image behind (16 * e) b.count p (record { part = b.part; says = rw first at c.0; data-behind = rw first at o.0 }) in
      rw (d.0, d.1) (say-entries qs (suc e) (due_after b.count p ps) b.filled (rw rest at b.split) (rw v at c.1) (rw v at o.1))

-- ---- the end entry
module _ (image : List ℕ) where
  -- the first end word of entries that say pieces is behind them
  end-behind : (qs : List Piece) (l e : ℕ) → Carries image (16 * e) qs → length qs < l → first_end image l e ≡ at (e + length qs)
  unfolding first_end
  end-behind qs zero e c h = absurd (omega arith)
  end-behind [] (suc l) e c h = rw (eq-eqb _ _ c.entry.command, add-zero)
  end-behind (q ∷ qs) (suc l) e c h =
      let u : 16 * e + 16 ≡ 16 * suc e = omega arith in
      let v : e + suc (length qs) ≡ suc e + length qs = omega arith in
      rw (no_end q c.0, v) (end-behind qs l (suc e) (rw u at c.1) (omega arith))
    where
      no_end : (q : Piece) → Says image (16 * e) q → (little_endian_at 4 image (16 * e) == 0xffffffff) ≡ false
      no_end (put a d) s = rw s.entry.command
      no_end (fill a m w) s = rw s.command
      no_end (run a) s = rw s.entry.command

-- ---- the whole image
pub pieces-written : (image : List ℕ) (ps : List Piece) → check_pieces image ps ≡ accepted → Written ps image
unfolding check_pieces
pieces-written image ps h = go (first_end image (whole_entries image) 0) refl h
  where
    go : (x : End) → first_end image (whole_entries image) 0 ≡ x → check_to image ps x ≡ accepted → Written ps image
    go none e h = absurd (refused-no-accepted h)
    go (at x) e h =
        let w = end-found image (whole_entries image) 0 e in
        let t : EndAt image (16 * x) = record {
          first = little_endian_at 4 image (16 * x + 4);
          second = little_endian_at 4 image (16 * x + 8);
          third = little_endian_at 4 image (16 * x + 12);
          entry = record { whole = omega (arith, w.high); command = w.end-word; first = refl; second = refl; third = refl };
        } in
        let f = entries-say image (16 * suc x) x 0 ps (rw (zero-add x) t) h in
        let s = f.split in
        record {
          lengths = s.lengths;
          split = s.split;
          entries = rw s.are f.entries;
          behind = rw (s.are, f.count) f.data-behind;
          few = rw s.are (omega (arith, f.count, w.high));
        }

pub written-pieces : (image : List ℕ) (ps : List Piece) → All (Packable 1) ps → Written ps image → check_pieces image ps ≡ accepted
unfolding check_pieces
written-pieces image ps g w =
    let qs = parts ps w.lengths in
    let i = carries-whole image (16 * length qs) (drop (length qs) qs) (rw zero-add at (carries-drop image (length qs) 0 qs (omega arith) w.entries)) in
    let e = end-behind image qs (whole_entries image) 0 w.entries (omega (arith, i, w.few)) in
    let s : Splits ps qs = record { lengths = w.lengths; split = w.split; are = refl } in
    rw (e, zero-add (length qs)) (say-entries image (16 * suc (length qs)) qs 0 ps (all_map _ Filled ps filled g) s w.entries w.behind)
  where
    filled : (p : Piece) → Packable 1 p → Filled p
    filled (put a d) g = g.some
    filled (fill a l v) g = g.0.some
    filled (run a) g = tt

-- ---- of a plan
-- an image that is accepted is written by the rules
pub accepted-written : (plan image : List ℕ) → check plan image ≡ accepted → WrittenFor plan image
unfolding check
accepted-written plan image h = go (read_plan 1 plan) refl h
  where
    go : (r : Read) → read_plan 1 plan ≡ r → check_read image r ≡ accepted → WrittenFor plan image
    go (refused x i) e h = absurd (refused-no-accepted h)
    go (pieces ps) e h = record { pieces = ps; read = e; written = pieces-written image ps h }

-- "Every image written by those rules is accepted"
pub written-accepted : (plan image : List ℕ) → Bytes plan → WrittenFor plan image → check plan image ≡ accepted
unfolding check
written-accepted plan image b f = rw f.read (written-pieces image f.pieces (packable 1 plan b f.read) f.written)
