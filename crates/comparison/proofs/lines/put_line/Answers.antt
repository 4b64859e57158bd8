-- `comparison::lines::put_line` meets its contract: four parts, one behind the other.
use Rattle.comparison.specs.Lines.Laws.{line-written}
use Rattle.comparison.specs.Lines.Stretches.{stretch_of}
use Rattle.comparison.proofs.lines.put_line.Goals as goal

pub returns : goal.returns
returns c = let s = c in
    let x = s.args in
    let first = c.put_address in
    let last = c.put_address-2 in
    let old = c.put_byte in
    let new = c.put_byte-2 in
    line-written x.text.now x.at (stretch_of x.stretch) s.requires first.new.text last.new.text old.new.text new.new.text
    first.ensures last.ensures old.ensures new.ensures
