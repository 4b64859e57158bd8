-- Laws of two segments from one address on: up to the nearer end each plan's last bytes come from one source, and whether they differ is
-- found by comparing bytes only where both plans store.
use Rattle.std.specs.Prelude.{◌≡◌, refl, Bool, true, false, ◌&&◌, List, ℕ, ◌+◌, ◌≤◌, ◌<◌, eqb}
use Rattle.std.proofs.Common.{sym, ◌∙◌, arith, eqb-true}
use Rattle.std.specs.Bool.{beq}
use Rattle.std.proofs.lemmas.Bool.{eqb-false}
use Rattle.words.specs.Bytes.{Bytes}
use Rattle.plan.specs.Packed.{plan_pieces}
use Rattle.plan.specs.Meaning.{stretch}
use Rattle.compare.specs.declared.segment.Segment.{Segment}
use Rattle.compare.specs.declared.sides.Sources.{Sources}
use Rattle.compare.specs.LastByte.Segment.{source_byte, border-most, border-above}
use Rattle.compare.specs.Reading.{addresses}
use Rattle.compare.specs.Code.{image_of}
use Rattle.compare.specs.Code.Segment.{source_is, stored, Reaches, reaches-part}
use Rattle.compare.proofs.CodeLaws.{one-stored, equal-pairs, image-at}
use Rattle.compare.specs.Code.Block.{SegmentOf, Sides}

module _ (s : List ℕ) (x limit : ℕ) (g : Segment) (f : SegmentOf s x limit g) where
  pub segment-above : x < limit → x < g.end
  segment-above h = omega (arith, f.end_is, border-above (stretch (plan_pieces 1 s)) x limit h)

  pub segment-most : g.end ≤ limit
  segment-most = omega (arith, f.end_is, border-most (stretch (plan_pieces 1 s)) x limit)

  pub segment-reaches : (y e : ℕ) → x ≤ y → e ≤ g.end → Reaches s g.source y e
  segment-reaches y e h k = reaches-part s g.source x g.end y e h k f.reaches

  pub segment-byte : (y : ℕ) → x ≤ y → y < g.end → image_of s y ≡ source_byte (source_is s g.source) y
  segment-byte y h k = image-at s g.source x limit y f.source-is h (omega (arith, f.end_is))

-- those of the old plan's segment, and of the new plan's within it
pub sides :
    (old new : List ℕ) (x : ℕ) (old-segment new-segment : Segment) → x < addresses → SegmentOf old x addresses old-segment
    → SegmentOf new x old-segment.end new-segment
    → Sides old new x (record { old = old-segment.source; new = new-segment.source; end = new-segment.end })
sides old new x old-segment new-segment h f g =
    let i = segment-most new x old-segment.end new-segment g in
    let m = segment-most old x addresses old-segment f in
    record {
      above = segment-above new x old-segment.end new-segment g (segment-above old x addresses old-segment f h);
      most = omega arith;
      old-byte = λ y k l. segment-byte old x addresses old-segment f y k (omega arith);
      new-byte = λ y k l. segment-byte new x old-segment.end new-segment g y k l;
      old-reaches = segment-reaches old x addresses old-segment f x new-segment.end (omega arith) i;
      new-reaches = g.reaches;
    }

-- from a later address on
pub sides-from : (old new : List ℕ) (x y : ℕ) (g : Sources) → Sides old new x g → x ≤ y → y < g.end → Sides old new y g
sides-from old new x y g f h k =
    record {
      above = k;
      most = f.most;
      old-byte = λ z i j. f.old-byte z (omega arith) j;
      new-byte = λ z i j. f.new-byte z (omega arith) j;
      old-reaches = reaches-part old g.old x g.end y g.end h (omega arith) f.old-reaches;
      new-reaches = reaches-part new g.new x g.end y g.end h (omega arith) f.new-reaches;
    }

-- the bytes o and n at x
module _
    (old new : List ℕ) (x : ℕ) (g : Sources) (f : Sides old new x g) (o n : ℕ) (e : o ≡ source_byte (source_is old g.old) x)
    (k : n ≡ source_byte (source_is new g.new) x)
  where
    pub is-old : o ≡ image_of old x
    is-old = e ∙ sym (f.old-byte x (omega arith) f.above)

    pub is-new : n ≡ image_of new x
    is-new = k ∙ sym (f.new-byte x (omega arith) f.above)

    -- the last bytes at y are those of the two sources
    pair : (y : ℕ) → x ≤ y → y < g.end → eqb (image_of old y) (image_of new y) ≡ eqb (source_byte (source_is old g.old) y) (source_byte (source_is new g.new) y)
    pair y l m = equal-pairs (f.old-byte y l m) (f.new-byte y l m)

    -- both store: the bytes behind x were compared
    pub compared-alike : (stop : ℕ) → stop ≤ g.end
        → ((y : ℕ) → x + 1 ≤ y → y < stop → eqb (source_byte (source_is old g.old) y) (source_byte (source_is new g.new) y) ≡ eqb o n)
        → (y : ℕ) → x ≤ y → y < stop → eqb (image_of old y) (image_of new y) ≡ eqb o n
    compared-alike stop u v y l m = go (eqb y x) refl
      where
        go : (b : Bool) → eqb y x ≡ b → eqb (image_of old y) (image_of new y) ≡ eqb o n
        go true z = rw (eqb-true y x z) (equal-pairs (sym is-old) (sym is-new))
        go false z = let w = eqb-false y x z in pair y l (omega arith) ∙ v y (omega arith) m

    -- not both store: no byte need be compared
    module _ (b : Bytes old) (d : Bytes new) (a : (stored g.old && stored g.new) ≡ false) where
      same-everywhere : (y : ℕ) → x ≤ y → y < g.end
          → eqb (source_byte (source_is old g.old) y) (source_byte (source_is new g.new) y) ≡ beq (stored g.old) (stored g.new)
      same-everywhere y l m =
          one-stored old new g.old g.new y b d (reaches-part old g.old x g.end y (y + 1) l (omega arith) f.old-reaches)
          (reaches-part new g.new x g.end y (y + 1) l (omega arith) f.new-reaches) a

      pub alike-without : (y : ℕ) → x ≤ y → y < g.end → eqb (image_of old y) (image_of new y) ≡ eqb o n
      alike-without y l m =
          pair y l m ∙ same-everywhere y l m ∙ sym (same-everywhere x (omega arith) f.above) ∙ sym (equal-pairs e k)
