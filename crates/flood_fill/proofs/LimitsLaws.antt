-- What the limits of a Start grant, and what a right size does.
use Rattle.std.specs.Prelude.{◌≡◌, Bool, true, false, ◌&&◌, ℕ, suc, ◌*◌, ◌≤◌, leb, eqb, if◌then◌else◌}
use Rattle.std.proofs.Common.{arith, leb-true, eqb-true}
use Rattle.words.proofs.ChoiceLaws.{both}
use Rattle.flood_fill.specs.Limits.{within_limits, right_size}

pub record Limits (count size : ℕ) : Type 0 where
  pub count_low : 1 ≤ count
  pub count-high : count ≤ 256
  pub size_low : 1 ≤ size
  pub size-high : size ≤ 256

pub limits : (c n : ℕ) → within_limits c n ≡ true → Limits c n
limits c n e =
    let a = both (leb 1 c && leb c 256 && leb 1 n && leb n 256) (leb (c * n) 8192) e in
    let d = both (leb 1 c && leb c 256 && leb 1 n) (leb n 256) a.0 in
    let f = both (leb 1 c && leb c 256) (leb 1 n) d.0 in
    let g = both (leb 1 c) (leb c 256) f.0 in
    record {
      count_low = leb-true 1 c g.0;
      count-high = leb-true c 256 g.1;
      size_low = leb-true 1 n f.1;
      size-high = leb-true n 256 d.1;
    }

-- a block that has a right size has a word, and no more than a full block
pub size-bounds : (count full b n : ℕ) → right_size count full b n ≡ true → (1 ≤ n) × (n ≤ full)
size-bounds count full b n e =
    let s = both (leb 1 n) (if eqb (suc b) count then leb n full else eqb n full) e in
    (leb-true 1 n s.0, most (eqb (suc b) count) s.1)
  where
    most : (last : Bool) → (if last then leb n full else eqb n full) ≡ true → n ≤ full
    most true g = leb-true n full g
    most false g = omega (arith, eqb-true n full g)
