-- What the code's answers for an item say, in the terms of the walk.
use Rattle.std.specs.Prelude.{ℕ, Result, Ok, Err}
use Rattle.outcome.specs.declared.refusal.Cause.{Cause}
use Rattle.outcome.specs.declared.refusal.Refusal.{Refusal}
use Rattle.outcome.specs.Refusal.{number_of}
use Rattle.outcome.specs.Outcome.{stop_of, stops, refuses}
use Rattle.srom.specs.declared.walk.Item as code
use Rattle.srom.specs.declared.walk.Item.TheVariants.{Block, Halt}
use Rattle.srom.specs.Walk.{Item, block, halt}

abbrev pub item_of : Result code.Item Refusal → Item
item_of (Ok (Block a p b e)) = block a p b e
item_of (Ok (Halt t)) = halt (stops (stop_of t))
item_of (Err r) = halt (refuses (number_of r.cause) r.place)

-- the same of a block at an offset, which is the place of its refusals
abbrev pub block_of : ℕ → Result code.Item Cause → Item
block_of o (Ok x) = item_of (Ok x)
block_of o (Err c) = item_of (Err (record { cause = c; place = o }))
