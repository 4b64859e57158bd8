-- How a message ends, by its tests.
use Rattle.std.specs.Prelude.{if◌then◌else◌}
use mathlib.Core.Path.{◌≡◌}
use mathlib.Core.Bool.{Bool, not, ◌&&◌}
use mathlib.Core.List.{List}
use Prim.Native.Nat.{ℕ}
use lib.ListN.{take}
use Rattle.flood_fill.specs.declared.receiver.Receiver.{Receiver}
use Rattle.flood_fill.specs.Refusals.{is_wanted}
use Rattle.flood_fill.specs.Answer.{accepted, ignored}
use Rattle.flood_fill.specs.Receive.{is_done, is_marked, missing_in, result, opening, keeping, block_started, data_came, completed, block_ended}

module _ (r : Receiver) (image : List ℕ) where
  pub block-started : (b n : ℕ) {d : Bool} → is_done r b ≡ d
      → block_started r image b n ≡ if d then result r image ignored else result (opening r b n) image accepted
  unfolding block_started
  block-started b n e = rw e

  pub data-came : (b w v : ℕ) {o m : Bool} → is_wanted r.header.opened b w ≡ o → is_marked r w ≡ m
      → data_came r image b w v ≡ if o && not m then result (keeping r w v) image accepted else result r image ignored
  unfolding data_came
  data-came b w v e f = rw (e, f)

  pub ended-whole : (b n : ℕ) → missing_in (take n r.marks) ≡ 0 → block_ended r image b n ≡ completed r image b n
  unfolding block_ended
  ended-whole b n e = rw e
