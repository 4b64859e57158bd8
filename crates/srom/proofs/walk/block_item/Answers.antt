-- `srom::walk::block_item` meets its contract: the numbers read from the parts of the slice are those at their offsets.
use mathlib.Core.Path.{◌≡◌, sym, ◌∙◌}
use native.Mathlib.Omega.{arith}
use borrow.Author.Tests.{eq-eqb, ne_eqb, le-ltb}
use Prim.Native.Nat.{◌+◌, ◌-◌}
use lib.ListN.{length}
use Rattle.words.proofs.BytesLaws.{big-at-part}
use Rattle.words.specs.Bytes.{big_endian_at}
use Rattle.srom.specs.Walk.{block_at}
use Rattle.srom.proofs.walk.block_item.Goals as goal
use Rattle.srom.proofs.walk.block_item.Goals.{After-be_word-a}

-- the number of words and the address, read from parts of the slice
half-read : (c : After-be_word-a) → let x = c.args in c.be_half-n.result ≡ big_endian_at 2 x.rom.now.bytes.now (x.at + 1)
half-read c =
    let x = c.args in
    c.be_half-n.ensures ∙ big-at-part 2 (x.at + 1) (length x.rom.now.bytes.now - (x.at + 1)) x.rom.now.bytes.now (omega arith)

word_read : (c : After-be_word-a) → let x = c.args in c.be_word-a.result ≡ big_endian_at 4 x.rom.now.bytes.now (x.at + 3)
word_read c =
    let x = c.args in
    c.be_word-a.ensures ∙ big-at-part 4 (x.at + 3) (length x.rom.now.bytes.now - (x.at + 3)) x.rom.now.bytes.now (omega arith)

pub returns-then-n-eq0 : goal.returns-then-n-eq0
unfolding block_at
returns-then-n-eq0 c = let x = c.args in let s = x.rom.now.bytes.now in simp (le-ltb (length s) (x.at + 7) (omega arith), eq-eqb (big_endian_at 2 s (x.at + 1)) 0 (sym (half-read (goal.at.returns-then-n-eq0 c).After-be_word-a) ∙ c.if-n-eq0.true), ← word_read (goal.at.returns-then-n-eq0 c).After-be_word-a) c.run_item.ensures

pub returns : goal.returns
unfolding block_at
returns c = let x = c.args in let s = x.rom.now.bytes.now in let h = half-read (goal.at.returns c).After-be_word-a in simp (le-ltb (length s) (x.at + 7) (omega arith), ne_eqb (big_endian_at 2 s (x.at + 1)) 0 (λ e. c.if-n-eq0.false (h ∙ e)), ← h, ← word_read (goal.at.returns c).After-be_word-a) c.data_item.ensures
