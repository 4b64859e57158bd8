-- Laws of one entry that stands in an image, whatever stands behind it: where the next one stands, and that it says its piece if the data of
-- a put lies where the entry says.
use Rattle.std.specs.Prelude.{◌≡◌, List, ◌++◌, ℕ, suc, ◌+◌, ◌*◌, ◌%◌, ◌≤◌, ◌<◌, length, take, drop}
use Rattle.std.proofs.Common.{ap, ◌∙◌, arith, length-append, length-drop, take-add, take_at, drop_at, drop-drop}
use Rattle.std.proofs.Math.Nat.{mod-eq_of_lt}
use Rattle.std.proofs.Math.Seq.{drop-append-add}
use Rattle.words.specs.Bytes.{little_endian_at}
use Rattle.words.specs.Four.{four_bytes}
use Rattle.plan.specs.Plan.{Piece, put, fill, run}
use Rattle.plan.specs.Packable.{Packable}
use Rattle.aplx_image.specs.Carries.{EntryAt, EndAt, source_of, Says}
use Rattle.aplx_image.proofs.CarriesLaws.{entry_here}
use Rattle.aplx_pack.specs.Image.{entry_of}
use Rattle.aplx_pack.proofs.ImageLaws.{length-entry_of}

-- ---- where data lies
-- the bytes d stand at offset k
pub record BytesAt (image : List ℕ) (k : ℕ) (d : List ℕ) : Type 0 where
  pub inside : k + length d ≤ length image
  pub bytes : take (length d) (drop k image) ≡ d

-- the data of a piece does; a fill and a run have none
abbrev pub DataAt : List ℕ → ℕ → Piece → Type 0
DataAt image k (put a d) = BytesAt image k d
DataAt image k (fill a n w) = Unit {0}
DataAt image k (run a) = Unit {0}

-- from offset k on stand n entries and the end entry, and behind them data
module _ (image : List ℕ) (k : ℕ) (es data-bytes : List ℕ) (e : drop k image ≡ es ++ data-bytes) (n : ℕ) (l : length es ≡ 16 * suc n) where
  pub data-behind : (place : ℕ) (p : Piece) → DataAt data-bytes place p → DataAt image (k + (16 * suc n + place)) p
  data-behind place (put a d) t = record {
    inside = omega (arith, length-drop k image, ap length e ∙ length-append es data-bytes, t.inside);
    bytes = rw (← drop-drop (16 * suc n + place) k image, e, ← l, drop-append-add es data-bytes place) t.bytes;
  }
  data-behind place (fill a m w) t = tt
  data-behind place (run a) t = tt

-- ---- an entry that stands behind i others, all from the image's start on: the first entries with it
pub entry-through : (image : List ℕ) (i : ℕ) (p : Piece) (off : ℕ) (rest : List ℕ) → drop (16 * i) image ≡ entry_of p off ++ rest
    → take (16 * (i + 1)) image ≡ take (16 * i) image ++ entry_of p off
entry-through image i p off rest e =
    let z : 16 * (i + 1) ≡ 16 * i + 16 = omega arith in
    rw (z, take-add (16 * i) 16 image, e) (ap (λ (l : List ℕ). take (16 * i) image ++ l) (take_at (entry_of p off) rest 16 (length-entry_of p off)))

-- ---- an entry that stands at offset k
module _ (image : List ℕ) (k : ℕ) where
  -- behind it
  pub entry-behind : (p : Piece) (off : ℕ) (rest : List ℕ) → drop k image ≡ entry_of p off ++ rest → drop (k + 16) image ≡ rest
  entry-behind p off rest e = rw (← drop-drop 16 k image, e) (drop_at (entry_of p off) rest 16 (length-entry_of p off))

  put-entry : (a : ℕ) (d : List ℕ) (off : ℕ) (rest : List ℕ) → drop k image ≡ entry_of (put a d) off ++ rest → off < 4294967296 → Packable 32 (put a d)
      → EntryAt image k 2 a off (length d)
  unfolding entry_of
  put-entry a d off rest e h g = entry_here image k 2 a off (length d) rest e (omega arith) g.low h (omega (arith, g.most))

  -- where that of a put says that the data lies
  pub entry-source : (a : ℕ) (d : List ℕ) (off : ℕ) (rest : List ℕ) → drop k image ≡ entry_of (put a d) off ++ rest → k + off < 4294967296
      → Packable 32 (put a d) → source_of k (little_endian_at 4 image (k + 8)) ≡ k + off
  entry-source a d off rest e h g = ap (source_of k) (put-entry a d off rest e (omega arith) g).second ∙ mod-eq_of_lt h

  -- it says its piece
  pub entry-says : (p : Piece) (off : ℕ) (rest : List ℕ) → drop k image ≡ entry_of p off ++ rest → (k + off) % 4 ≡ 0 → length image ≤ 4294967280
      → DataAt image (k + off) p → Packable 32 p → Says image k p
  unfolding entry_of
  entry-says (put a d) off rest e h most t g = record {
    offset = off;
    source = k + off;
    entry = put-entry a d off rest e (omega (arith, t.inside)) g;
    from-here = mod-eq_of_lt (omega (arith, t.inside));
    aligned = h;
    inside = t.inside;
    bytes = t.bytes;
  }
  entry-says (fill a n w) off rest e h most t g = entry_here image k 3 a n w rest e (omega arith) g.0.low (omega (arith, g.0.most)) g.1
  entry-says (run a) off rest e h most t g =
      record { second = 0; third = 0; entry = entry_here image k 4 a 0 0 rest e (omega arith) g.0 (omega arith) (omega arith) }

  -- the end entry
  pub end-here : (rest : List ℕ) → drop k image ≡ four_bytes 0xffffffff 0 0 0 ++ rest → EndAt image k
  end-here rest e = record {
    first = 0;
    second = 0;
    third = 0;
    entry = entry_here image k 0xffffffff 0 0 0 rest e (omega arith) (omega arith) (omega arith) (omega arith);
  }
