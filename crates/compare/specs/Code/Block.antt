-- The segment of a plan, and the sources of both plans, from one address on.
use Rattle.std.specs.Prelude.{◌≡◌, List, ℕ, ◌≤◌, ◌<◌}
use Rattle.plan.specs.Packed.{plan_pieces}
use Rattle.plan.specs.Meaning.{stretch}
use Rattle.compare.specs.declared.segment.Segment.{Segment}
use Rattle.compare.specs.declared.sides.Sources.{Sources}
use Rattle.compare.specs.LastByte.Segment.{nothing, source_byte, covering, border}
use Rattle.compare.specs.Reading.{addresses}
use Rattle.compare.specs.Code.{image_of}
use Rattle.compare.specs.Code.Segment.{source_is, Reaches}

-- g is the segment of plan s from address x on, which ends at a limit at most
pub record SegmentOf (s : List ℕ) (x limit : ℕ) (g : Segment) : Type 0 where
  pub source-is : source_is s g.source ≡ covering (stretch (plan_pieces 1 s)) x nothing
  pub end_is : g.end ≡ border (stretch (plan_pieces 1 s)) x limit
  pub reaches : Reaches s g.source x g.end

-- the sources g of both plans, for all addresses from x on and below their end
pub record Sides (old new : List ℕ) (x : ℕ) (g : Sources) : Type 0 where
  pub above : x < g.end
  pub most : g.end ≤ addresses
  pub old-byte : (y : ℕ) → x ≤ y → y < g.end → image_of old y ≡ source_byte (source_is old g.old) y
  pub new-byte : (y : ℕ) → x ≤ y → y < g.end → image_of new y ≡ source_byte (source_is new g.new) y
  pub old-reaches : Reaches old g.old x g.end
  pub new-reaches : Reaches new g.new x g.end
