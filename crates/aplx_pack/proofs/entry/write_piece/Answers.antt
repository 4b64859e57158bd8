-- `aplx_pack::entry::write_piece` meets its contract: the entry, and then the data behind it.
use mathlib.Core.Path.{ap, ◌∙◌}
use mathlib.Core.List.{List}
use Prim.Native.Nat.{ℕ, ◌-◌}
use native.Mathlib.Omega.{arith}
use Rattle.words.specs.Store.{store}
use Rattle.words.proofs.StoreLaws.{store-fits}
use Rattle.plan.specs.Plan.{data_of}
use Rattle.plan.specs.Code.{row_is, piece_is}
use Rattle.aplx_pack.specs.Code.{row_entry}
use Rattle.aplx_pack.proofs.CodeLaws.{length-row_entry, row-entry}
use Rattle.aplx_pack.proofs.entry.write_piece.Goals as goal

pub returns : goal.returns
returns c = let x = c.args in
    let h = c.requires in
    let off = x.place - x.at in
    let entry = row_entry (row_is x.piece) off in
    let e = c.write_entry.ensures ∙ store-fits x.output.now x.at entry (omega (arith, length-row_entry x.piece off)) in
    rw (row-entry 32 x.plan.now x.piece off h.0) at
    (c.write_data.ensures ∙ ap (λ (m : List ℕ). store m x.place (data_of (piece_is x.plan.now x.piece))) e)
