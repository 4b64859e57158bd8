-- `compare::block::until` meets its contract: by the forms of both sources.
use Rattle.std.proofs.Common.{◌≡◌, List, ℕ, ap, sym, ◌∙◌, ◌-◌, ◌+◌, ◌%◌, arith, rules, get_or}
use Rattle.words.specs.Bytes.{little_endian}
use Rattle.compare.proofs.CodeLaws.{put-at, fill-at, row-byte, equal-pairs}
use Rattle.compare.proofs.block.until.Goals as goal

pub returns-in-Put-Put-clause-alike : goal.returns-in-Put-Put-clause-alike
returns-in-Put-Put-clause-alike c = let x = c.args in
    let v = c.in-Put-Put in
    let r = c.alike.ensures in λ y h g.
    let p = r.pairs (y - x.at) (omega arith) in
    let i = p.is-old in
    let j = p.is-new in
    let o : p.old-byte ≡ get_or x.old.now (v.from + (x.at - v.address) + (y - x.at)) 0 = search rules in
    let n : p.new-byte ≡ get_or x.new.now (v.new_from + (x.at - v.new_address) + (y - x.at)) 0 = search rules in
    equal-pairs
    (put-at x.old.now x.sources.old v.address v.from v.length-0 x.at x.sources.end y v.is-0 c.requires.0 h (omega (arith, r.upper_bound)) ∙ sym o)
    (put-at x.new.now x.sources.new v.new_address v.new_from v.length-1 x.at x.sources.end y v.is-1 c.requires.1 h (omega (arith, r.upper_bound)) ∙ sym n)
    ∙ p.alike

pub returns-in-Put-Fill-clause-alike : goal.returns-in-Put-Fill-clause-alike
returns-in-Put-Fill-clause-alike c = let x = c.args in
    let v = c.in-Put-Fill in
    let r = c.alike-in-Put-Fill.ensures in λ y h g.
    let p = r.pairs (y - x.at) (omega arith) in
    let i = p.is-old in
    let j = p.is-new in
    let o : p.old-byte ≡ get_or x.old.now (v.from + (x.at - v.address) + (y - x.at)) 0 = search rules in
    let l : p.new-byte ≡ get_or c.row_of-row.result ((x.at - v.new_address) % 4 + (y - x.at) % 64) 0 = search rules in
    let n = l ∙ ap (λ (s : List ℕ). get_or s ((x.at - v.new_address) % 4 + (y - x.at) % 64) 0) c.row_of-row.ensures ∙ row-byte v.word ((x.at - v.new_address) % 4) (y - x.at) (omega arith) in
    equal-pairs
    (put-at x.old.now x.sources.old v.address v.from v.length-0 x.at x.sources.end y v.is-0 c.requires.0 h (omega (arith, r.upper_bound)) ∙ sym o)
    (fill-at x.new.now x.sources.new v.new_address v.length-1 v.word x.at x.sources.end ((x.at - v.new_address) % 4) y v.is-1 (omega arith) c.requires.1 h (omega (arith, r.upper_bound)) ∙ sym n)
    ∙ p.alike

pub returns-in-Fill-Put-clause-alike : goal.returns-in-Fill-Put-clause-alike
returns-in-Fill-Put-clause-alike c = let x = c.args in
    let v = c.in-Fill-Put in
    let r = c.alike-in-Fill-Put.ensures in λ y h g.
    let p = r.pairs (y - x.at) (omega arith) in
    let i = p.is-old in
    let j = p.is-new in
    let l : p.old-byte ≡ get_or c.row_of-row-in-Fill-Put.result ((x.at - v.address) % 4 + (y - x.at) % 64) 0 = search rules in
    let o = l ∙ ap (λ (s : List ℕ). get_or s ((x.at - v.address) % 4 + (y - x.at) % 64) 0) c.row_of-row-in-Fill-Put.ensures ∙ row-byte v.word ((x.at - v.address) % 4) (y - x.at) (omega arith) in
    let n : p.new-byte ≡ get_or x.new.now (v.from + (x.at - v.new_address) + (y - x.at)) 0 = search rules in
    equal-pairs
    (fill-at x.old.now x.sources.old v.address v.length-0 v.word x.at x.sources.end ((x.at - v.address) % 4) y v.is-0 (omega arith) c.requires.0 h (omega (arith, r.upper_bound)) ∙ sym o)
    (put-at x.new.now x.sources.new v.new_address v.from v.length-1 x.at x.sources.end y v.is-1 c.requires.1 h (omega (arith, r.upper_bound)) ∙ sym n)
    ∙ p.alike

pub returns-then-count-lt4-clause-alike : goal.returns-then-count-lt4-clause-alike
returns-then-count-lt4-clause-alike c = let x = c.args in
    let v = c.in-Fill-Fill in
    let r = c.alike-count.ensures in λ y h g.
    let p = r.pairs (y - x.at) (omega arith) in
    let i = p.is-old in
    let j = p.is-new in
    let o : p.old-byte ≡ get_or (little_endian 4 v.word) ((x.at - v.address + (y - x.at)) % 4) 0 = search rules in
    let n : p.new-byte ≡ get_or (little_endian 4 v.new_word) ((x.at - v.new_address + (y - x.at)) % 4) 0 = search rules in
    equal-pairs
    (fill-at x.old.now x.sources.old v.address v.length-0 v.word x.at x.sources.end (x.at - v.address) y v.is-0 (omega arith) c.requires.0 h (omega (arith, r.upper_bound)) ∙ sym o)
    (fill-at x.new.now x.sources.new v.new_address v.length-1 v.new_word x.at x.sources.end (x.at - v.new_address) y v.is-1 (omega arith) c.requires.1 h (omega (arith, r.upper_bound)) ∙ sym n)
    ∙ p.alike

pub returns-else-count-lt4-clause-alike : goal.returns-else-count-lt4-clause-alike
returns-else-count-lt4-clause-alike c = let x = c.args in
    let v = c.in-Fill-Fill in
    let r = c.alike-count.ensures in λ y h g.
    let p = r.pairs ((y - x.at) % 4) (omega arith) in
    let i = p.is-old in
    let j = p.is-new in
    let o : p.old-byte ≡ get_or (little_endian 4 v.word) ((x.at - v.address + (y - x.at) % 4) % 4) 0 = search rules in
    let n : p.new-byte ≡ get_or (little_endian 4 v.new_word) ((x.at - v.new_address + (y - x.at) % 4) % 4) 0 = search rules in
    let s : (x.at - v.address + (y - x.at)) % 4 ≡ (x.at - v.address + (y - x.at) % 4) % 4 = omega arith in
    let t : (x.at - v.new_address + (y - x.at)) % 4 ≡ (x.at - v.new_address + (y - x.at) % 4) % 4 = omega arith in
    equal-pairs
    (fill-at x.old.now x.sources.old v.address v.length-0 v.word x.at x.sources.end (x.at - v.address) y v.is-0 (omega arith) c.requires.0 h g ∙ ap (λ (k : ℕ). get_or (little_endian 4 v.word) k 0) s ∙ sym o)
    (fill-at x.new.now x.sources.new v.new_address v.length-1 v.new_word x.at x.sources.end (x.at - v.new_address) y v.is-1 (omega arith) c.requires.1 h g ∙ ap (λ (k : ℕ). get_or (little_endian 4 v.new_word) k 0) t ∙ sym n)
    ∙ p.alike
