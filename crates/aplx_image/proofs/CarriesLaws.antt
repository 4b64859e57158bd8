-- Laws of images that carry pieces: their entries lie within them, from each piece's entry on they carry the pieces from it on, and what
-- they carry of bytes is bytes.
use Rattle.std.specs.Prelude.{◌≡◌, List, [], ◌∷◌, ◌++◌, ℕ, zero, suc, ◌+◌, ◌*◌, ◌≤◌, ◌<◌, length, drop}
use Rattle.std.proofs.Common.{ap, subst, ◌∙◌, arith, length-append, length-drop}
use Rattle.words.specs.declared.four.Four.{Four}
use Rattle.words.specs.Choice.{All}
use Rattle.words.proofs.ChoiceLaws.{all_take, all_drop}
use Rattle.words.specs.Bytes.{Bytes}
use Rattle.words.specs.Four.{four_bytes}
use Rattle.words.proofs.FourLaws.{length-four_bytes, four-here}
use Rattle.plan.specs.Plan.{Piece, put, fill, run, data_of}
use Rattle.aplx_image.specs.Carries.{EntryAt, EndAt, Says, Carries}

-- four words that stand at offset k are the entry there
pub entry_here : (image : List ℕ) (k c x y z : ℕ) (rest : List ℕ) → drop k image ≡ four_bytes c x y z ++ rest
    → c < 4294967296 → x < 4294967296 → y < 4294967296 → z < 4294967296 → EntryAt image k c x y z
entry_here image k c x y z rest e hc hx hy hz =
    let w = four-here image k c x y z rest e hc hx hy hz in
    record {
      whole = omega (arith, length-drop k image, ap length e ∙ length-append (four_bytes c x y z) rest, length-four_bytes c x y z);
      command = ap (λ (f : Four). f.first) w;
      first = ap (λ (f : Four). f.second) w;
      second = ap (λ (f : Four). f.third) w;
      third = ap (λ (f : Four). f.fourth) w;
    }

-- an entry lies within the image
pub says-whole : (image : List ℕ) (k : ℕ) (p : Piece) → Says image k p → k + 16 ≤ length image
says-whole image k (put a d) s = s.entry.whole
says-whole image k (fill a n w) s = s.whole
says-whole image k (run a) s = s.entry.whole

-- the end too
pub carries-whole : (image : List ℕ) (k : ℕ) (ps : List Piece) → Carries image k ps → k + 16 ≤ length image
carries-whole image k [] c = let e : EndAt image k = c in e.entry.whole
carries-whole image k (p ∷ ps) c = says-whole image k p c.0

-- from the entry of piece i on it carries the pieces from i on
pub carries-drop : (image : List ℕ) (i k : ℕ) (ps : List Piece) → i ≤ length ps → Carries image k ps → Carries image (k + 16 * i) (drop i ps)
carries-drop image zero k ps h c = let e : k + 16 * 0 ≡ k = omega arith in rw e c
carries-drop image (suc i) k [] h c = absurd (omega arith)
carries-drop image (suc i) k (p ∷ ps) h c =
    let e : k + 16 * suc i ≡ k + 16 + 16 * i = omega arith in
    rw e (carries-drop image i (k + 16) ps (omega arith) c.1)

-- the data of puts is bytes of the image
module _ (image : List ℕ) (b : Bytes image) where
  says-bytes : (k : ℕ) (p : Piece) → Says image k p → Bytes (data_of p)
  says-bytes k (put a d) s = subst Bytes s.bytes (all_take _ (length d) (drop s.source image) (all_drop _ s.source image b))
  says-bytes k (fill a n w) s = tt
  says-bytes k (run a) s = tt

  pub carries-bytes : (k : ℕ) (ps : List Piece) → Carries image k ps → All (λ p. Bytes (data_of p)) ps
  carries-bytes k [] c = tt
  carries-bytes k (p ∷ ps) c = (says-bytes k p c.0, carries-bytes (k + 16) ps c.1)
