-- A computed series: an image of two blocks of two words, of which the last has one only, comes with a word lost, and then again.
use Rattle.std.specs.Prelude.{◌≡◌, refl, List, [], ◌∷◌, ◌++◌}
use Rattle.flood_fill.specs.declared.message.Message.{Message}
use Rattle.flood_fill.specs.declared.message.Message.TheVariants.{Start, BlockStart, BlockData, BlockEnd}
use Rattle.flood_fill.specs.Answer.{refused, accepted, ignored, missing, done}
use Rattle.flood_fill.specs.Receive.{empty, receive}
use Rattle.flood_fill_series.specs.Claims.{after, answers, held_after}
use Rattle.flood_fill_series.proofs.Refuted.Example.{receiving, zeros, lent, half, pass}

-- word 0 of block 0 is lost
unfoldable pub first : List Message
first = Start 1 2 ∷ BlockStart 0 2 ∷ BlockData 0 1 6 ∷ BlockEnd 0 ∷ half

pub record Resent : Type 0 where
  pub first-answers : answers receive empty (lent first) ≡ accepted ∷ accepted ∷ accepted ∷ missing 1 0 ∷ accepted ∷ accepted ∷ done ∷ []
  -- block 1 is done by then, and so closed
  pub second-answers : answers receive (after receive empty (lent first)) (lent pass)
      ≡ accepted ∷ accepted ∷ accepted ∷ done ∷ ignored ∷ ignored ∷ refused 29 0 ∷ []
  pub left : (held_after receive (record { receiver = empty; image = zeros }) (first ++ pass)).image
      ≡ 5 ∷ 0 ∷ 0 ∷ 0 ∷ 6 ∷ 0 ∷ 0 ∷ 0 ∷ 7 ∷ 0 ∷ 0 ∷ 0 ∷ 0 ∷ 0 ∷ 0 ∷ 0 ∷ []

pub resent : Resent
unfolding receiving zeros lent half pass first
resent = record { first-answers = refl; second-answers = refl; left = refl }
