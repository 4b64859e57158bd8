-- `flood_fill::receiver::Receiver::block_end` meets its contract: 256 marks and words, cut at 256 or at the size, are the same; then no word is missing.
use mathlib.Core.Path.{◌≡◌, ap, sym, ◌∙◌}
use lib.ListN.{take}
use native.Mathlib.Omega.{arith}
use Rattle.std.proofs.lemmas.List.{map-id}
use Rattle.flood_fill.specs.Refusals.{open_size}
use Rattle.flood_fill.specs.Receive.{missing_in, completed}
use Rattle.flood_fill.proofs.Ends.{ended-whole}
use Rattle.flood_fill.proofs.ReceiveFlags.{take_min}
use Rattle.flood_fill.proofs.receiver.Receiver.block_end.Goals as goal

pub returns : goal.returns
unfolding completed
returns c = let r = c.args.self.now in
    let u = c.open_words-used in
    let n = open_size r.header.opened in
    let e : take u.result r.marks ≡ take n r.marks = rw u.ensures (take_min n r.marks (omega arith)) in
    let f : take u.result r.words ≡ take n r.words = rw u.ensures (take_min n r.words (omega arith)) in
    let z : c.missing-number.result ≡ 0 = omega arith in
    let w = sym (ap missing_in e) ∙ sym (simp map-id at c.missing-number.ensures.number) ∙ z in
    simp (ended-whole r c.args.image.now c.args.block n w, sym f) c.complete.ensures
