-- What an entry that is a piece shows: the image says the piece there, and the piece can be packed.
use Rattle.std.specs.Prelude.{◌≡◌, refl, Bool, true, false, not, List, ℕ, ◌+◌, ◌*◌, ◌%◌, ◌≤◌, ◌<◌, ltb, leb, eqb, take, drop, if◌then◌else◌}
use Rattle.std.proofs.Common.{sym, arith}
use Rattle.std.proofs.Math.ListN.{length}
use borrow.Author.Tests.{ltb-false, leb-false, eqb-true, eqb-false, not-false}
use Rattle.words.proofs.ChoiceLaws.{from-else}
use Rattle.words.specs.Bytes.{little_endian_at, Bytes}
use Rattle.words.proofs.BytesLaws.{little-at-below}
use Rattle.plan.specs.Plan.{Row, put_row, fill_row, run_row, piece_in}
use Rattle.plan.specs.Packable.{Sized}
use Rattle.plan.proofs.PlanLaws.{sized, Passed, data-length}
use Rattle.aplx_image.specs.Carries.{EntryAt, Says}
use Rattle.aplx_read.specs.ReadBack.{Entry, piece, bad, judge_count, judge_exec, judge_range, source, judge_copy, judge_words, entry_at}
use Rattle.aplx_read.proofs.ReadBackLaws.{bad-no-piece, end-no-piece}

pub record Told (image : List ℕ) (e : ℕ) (row : Row) : Type 0 where
  pub says : Says image (16 * e) (piece_in image row)
  pub passed : Passed 32 (length image) row
  pub few : e < 64

range-piece : (a n : ℕ) {x : Entry} {row : Row} → a < 4294967296 → judge_range a n x ≡ piece row → Sized 32 a n × (x ≡ piece row)
unfolding judge_range
range-piece a n low h =
    let t = from-else (eqb n 0) bad-no-piece h in
    let u = from-else (not (eqb (n % 32) 0)) bad-no-piece t.1 in
    let v = from-else (ltb 65536 n) bad-no-piece u.1 in
    let w = from-else (not (eqb (a % 4) 0)) bad-no-piece v.1 in
    (sized 32 a n low t.0 v.0 w.0 u.0, w.1)

-- the words of entry e, which has these
module _ (image : List ℕ) (e x y z : ℕ) (low : x < 4294967296) {row : Row} where
  count-piece : {a : Entry} → judge_count e a ≡ piece row → (e < 64) × (a ≡ piece row)
  count-piece h = let t = from-else (leb 64 e) bad-no-piece h in (leb-false 64 e t.0, t.1)

  exec-told : EntryAt image (16 * e) 4 x y z → judge_count e (judge_exec x) ≡ piece row → Told image e row
  unfolding judge_exec
  exec-told s h =
      let l = count-piece h in
      let t = from-else (eqb (x % 4) 2) bad-no-piece l.1 in
      let q : run_row x ≡ row = cc t.1 in
      rw (sym q) (record { says = record { second = y; third = z; entry = s }; passed = (low, eqb-false _ _ t.0); few = l.0 })

  fill-told : z < 4294967296 → EntryAt image (16 * e) 3 x y z → judge_count e (judge_range x y (piece (fill_row x y z))) ≡ piece row → Told image e row
  fill-told w s h =
      let l = count-piece h in
      let t = range-piece x y low l.1 in
      let q : fill_row x y z ≡ row = cc t.1 in
      rw (sym q) (record { says = s; passed = (t.0, w); few = l.0 })

  copy_told : EntryAt image (16 * e) 2 x y z → judge_count e (judge_range x z (judge_copy image e x y z)) ≡ piece row → Told image e row
  unfolding judge_copy
  copy_told s h =
      let o = source e y in
      let l = count-piece h in
      let t = range-piece x z low l.1 in
      let u = from-else (not (eqb (y % 4) 0)) bad-no-piece t.1 in
      let v = from-else (ltb (length image) (o + z)) bad-no-piece u.1 in
      let a : y % 4 ≡ 0 = eqb-true (y % 4) 0 (not-false _ u.0) in
      let i : o + z ≤ length image = ltb-false (length image) (o + z) v.0 in
      let d : length (take z (drop o image)) ≡ z = data-length image o z i in
      let q : put_row x o z ≡ row = cc v.1 in
      rw (sym q) (record {
        says = record { offset = y; source = o; entry = rw d s; from-here = refl; aligned = omega arith; inside = rw d i; bytes = rw d };
        passed = (t.0, i);
        few = l.0;
      })

pub entry-told : (image : List ℕ) → Bytes image → (e : ℕ) {row : Row} → entry_at image e ≡ piece row → Told image e row
unfolding entry_at judge_words
entry-told image b e {row} h =
    let c = little_endian_at 4 image (16 * e) in
    let x = little_endian_at 4 image (16 * e + 4) in
    let y = little_endian_at 4 image (16 * e + 8) in
    let z = little_endian_at 4 image (16 * e + 12) in
    let low = little-at-below 4 (16 * e + 4) image b in
    let t = from-else (ltb (length image) (16 * e + 16)) bad-no-piece h in
    let s : EntryAt image (16 * e) c x y z = record { whole = ltb-false _ _ t.0; command = refl; first = refl; second = refl; third = refl } in
    let u = from-else (eqb c 0xffffffff) end-no-piece t.1 in
    go c x y z low (little-at-below 4 (16 * e + 12) image b) s (eqb c 2) refl (eqb c 3) refl (eqb c 4) refl u.1
  where
    go : (c x y z : ℕ) → x < 4294967296 → z < 4294967296 → EntryAt image (16 * e) c x y z → (i : Bool) → eqb c 2 ≡ i → (j : Bool) → eqb c 3 ≡ j
        → (k : Bool) → eqb c 4 ≡ k
        → (if i then judge_count e (judge_range x z (judge_copy image e x y z)) else if j then judge_count e (judge_range x y (piece (fill_row x y z)))
        else if k then judge_count e (judge_exec x) else bad 20) ≡ piece row → Told image e row
    go c x y z low w s true i j p k q h = copy_told image e x y z low (rw (eqb-true c 2 i) at s) h
    go c x y z low w s false i true p k q h = fill-told image e x y z low w (rw (eqb-true c 3 p) at s) h
    go c x y z low w s false i false p true q h = exec-told image e x y z low (rw (eqb-true c 4 q) at s) h
    go c x y z low w s false i false p false q h = absurd (bad-no-piece h)
