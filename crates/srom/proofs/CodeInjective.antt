-- An item of the code can be read back from what it says. So two that say the same are the same, and an equation of what an item says
-- decides it.
use Rattle.std.specs.Prelude.{◌≡◌, refl, Result, Ok, Err}
use Rattle.std.proofs.Common.{ap}
use Rattle.outcome.specs.declared.answer.Stop as stop
use Rattle.outcome.specs.declared.refusal.Refusal.{Refusal}
use Rattle.outcome.specs.Outcome.{stops, refuses}
use Rattle.outcome.proofs.OutcomeInjective.{back-injective, refusal_back, refusal-back, stop_back, stop-back}
use Rattle.srom.specs.declared.walk.Item as code
use Rattle.srom.specs.declared.walk.Item.TheVariants.{Block, Halt}
use Rattle.srom.specs.Walk.{Item, pad, block, halt}
use Rattle.srom.specs.Code.{item_of}

-- no item of the code says that a pad stands there: any does for it
abbrev item_back : Item → Result code.Item Refusal
item_back pad = Ok (Block 0 0 0 0)
item_back (block a p b e) = Ok (Block a p b e)
item_back (halt (stops s)) = Ok (Halt (stop_back s))
item_back (halt (refuses n p)) = Err (refusal_back n p)

item_back_lem : (x : Result code.Item Refusal) → item_back (item_of x) ≡ x
item_back_lem (Ok (Block a p b e)) = refl
item_back_lem (Ok (Halt t)) = ap (λ (t : stop.Stop). Ok (Halt t)) (stop-back t)
item_back_lem (Err r) = ap (λ (r : Refusal). Err r) (refusal-back r)

pub item-injective : (x y : Result code.Item Refusal) → item_of x ≡ item_of y → x ≡ y
item-injective = back-injective item_of item_back item_back_lem
