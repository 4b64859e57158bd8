-- `aplx_pack::entry::write_data` meets its contract: a put has its part of the plan, and another piece no data.
use mathlib.Core.Path.{◌≡◌, refl, sym, ◌∙◌}
use Prim.Native.Nat.{ℕ, ◌+◌, ◌-◌, ◌≤◌}
use native.Mathlib.Omega.{arith}
use lib.ListN.{length, take, drop}
use Rattle.words.proofs.StoreLaws.{store-fits, store-nil}
use Rattle.plan.specs.declared.piece.Piece.TheVariants.{Put, Fill, Run}
use Rattle.plan.specs.declared.piece.Piece.{Piece}
use Rattle.words.specs.Store.{store}
use Rattle.plan.specs.Plan.{data_of}
use Rattle.plan.specs.Code.{piece_is}
use Rattle.plan.specs.Code.Packer.{Writable}
use Rattle.plan.proofs.PlanLaws.{data-length}
use Rattle.aplx_pack.proofs.entry.write_data.Goals as goal
use Rattle.aplx_pack.proofs.entry.write_data.Goals.{In-Put}

-- what is required of a put
put-fits : (c : In-Put) → let x = c.args in
    Writable 32 x.plan.now (Put c.in-Put.address c.in-Put.from c.in-Put.length) × (x.place + c.in-Put.length ≤ length x.output.now)
put-fits c = rw c.in-Put.is at c.requires

pub returns-in-Put : goal.returns-in-Put
returns-in-Put c = let d = c in
    let x = d.args in
    let h = put-fits (goal.at.returns-in-Put c).In-Put in
    let e : c.in-Put.from + c.in-Put.length - c.in-Put.from ≡ c.in-Put.length = omega arith in
    let bytes = take c.in-Put.length (drop c.in-Put.from x.plan.now) in
    let l : length bytes ≡ c.in-Put.length = data-length x.plan.now c.in-Put.from c.in-Put.length h.0.0 in
    rw d.in-Put.is (rw e at c.bytes.ensures ∙ store-fits x.output.now x.place bytes (omega arith))

pub returns-in_default : goal.returns-in_default
returns-in_default c = go c.args.piece c.in_default.not-Put
  where
    go : (p : Piece) → ((a o n : ℕ) → p ≡ Put a o n → ⊥) → c.args.output.now ≡ store c.args.output.now c.args.place (data_of (piece_is c.args.plan.now p))
    go (Put a o n) h = absurd (h a o n refl)
    go (Fill a n w) h = sym (store-nil c.args.output.now c.args.place)
    go (Run a) h = sym (store-nil c.args.output.now c.args.place)
