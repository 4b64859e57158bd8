-- `word_blocks::fill::low_bytes` meets its contract. The loop's invariant: the bytes stored, and behind them those of what is left of the word, are the word's.
use mathlib.Core.Path.{◌≡◌, sym, ◌∙◌}
use mathlib.Core.List.{List, ◌++◌, append_assoc, append-nil}
use Prim.Native.Nat.{ℕ, suc, ◌+◌, ◌-◌, ◌/◌, ◌%◌, ◌<◌}
use native.Mathlib.Numerals.{add-one}
use native.Mathlib.Omega.{arith}
use lib.ListN.{length, take, set}
use lib.Seq.{take-suc-set, take_all}
use Rattle.words.specs.Bytes.{little_endian}
use Rattle.word_blocks.proofs.fill.low_bytes.Goals as goal

-- one byte more
one_more : (m : List ℕ) (n i r : ℕ) → i < n → n ≡ length m
    → take (i + 1) (set m i (r % 256)) ++ little_endian (n - (i + 1)) (r / 256) ≡ take i m ++ little_endian (n - i) r
unfolding little_endian
one_more m n i r h e =
    let k : n - i ≡ suc (n - suc i) = omega arith in
    rw (add-one i, take-suc-set m i (r % 256) (omega arith), k) (append_assoc (take i m) _ _)

pub loop-byte-preserved : goal.loop-byte-preserved
loop-byte-preserved c = let l = c.loop-byte in
    let n = length c.args.part.now in
    one_more l.part n l.byte-index l.rest (omega arith) (omega arith) ∙ l.invariant

pub returns : goal.returns
unfolding little_endian
returns c = let l = c.loop-byte in
    let n = length c.args.part.now in
    let z : n - l.byte-index ≡ 0 = omega arith in
    sym (take_all l.byte-index l.part (omega arith)) ∙ sym (append-nil (take l.byte-index l.part)) ∙ rw z at l.invariant
