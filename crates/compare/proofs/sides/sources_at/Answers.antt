-- `compare::sides::sources_at` meets its contract: a segment of each plan, the new one's within the old one's.
use Rattle.compare.specs.Reading.{addresses}
use Rattle.compare.specs.Code.Block.{SegmentOf}
use Rattle.compare.proofs.CodeBlockLaws.{sides}
use Rattle.compare.proofs.sides.sources_at.Goals as goal

pub returns : goal.returns
returns c = let start = c in
    let x = start.args in
    let e = c.segment_at-old_segment.ensures in
    let f = c.segment_at-new_segment.ensures in
    let p : SegmentOf x.old.plan.now x.at addresses c.segment_at-old_segment.result = record { source-is = e.source_value; end_is = e.end_value; reaches = e.reaches } in
    let q : SegmentOf x.new.plan.now x.at c.segment_at-old_segment.result.end c.segment_at-new_segment.result = record { source-is = f.source_value; end_is = f.end_value; reaches = f.reaches } in
    sides x.old.plan.now x.new.plan.now x.at c.segment_at-old_segment.result c.segment_at-new_segment.result start.requires p q
