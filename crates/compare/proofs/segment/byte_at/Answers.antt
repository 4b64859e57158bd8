-- `compare::segment::byte_at` meets its contract: by the form of the source.
use mathlib.Core.Path.{◌∙◌}
use native.Mathlib.Omega.{arith}
use Rattle.compare.proofs.CodeLaws as laws
use Rattle.compare.proofs.CodeLaws.{put_byte}
use Rattle.compare.proofs.segment.byte_at.Goals as goal

pub returns-in-Put : goal.returns-in-Put
returns-in-Put c = let h = rw c.in-Put.is at c.requires in
    let x = c.args in
    rw c.in-Put.is (put_byte x.plan.now c.in-Put.address c.in-Put.from c.in-Put.length x.at h.1 (omega (arith, h.2)))

pub returns-in-Fill : goal.returns-in-Fill
returns-in-Fill c = let h = rw c.in-Fill.is at c.requires in
    let x = c.args in
    rw c.in-Fill.is (c.fill_byte.ensures ∙ laws.fill-byte _ _ _ x.at h.0 (omega (arith, h.1)))
