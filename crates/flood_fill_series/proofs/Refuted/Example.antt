-- Small images and their messages.
use Rattle.std.specs.Prelude.{refl, List, [], ◌∷◌, ℕ, zero, suc, ◌≤◌, replicate}
use Rattle.std.proofs.Common.{arith}
use Rattle.words.specs.Choice.{All}
use Rattle.words.specs.Store.{store_if_fits}
use Rattle.words.specs.Open as WordsGroup
use Rattle.flood_fill.specs.declared.message.Message.{Message}
use Rattle.flood_fill.specs.declared.message.Message.TheVariants.{BlockStart, BlockData, BlockEnd}
use Rattle.flood_fill.specs.Refusals.{test_start, test_block_start, test_block_end, tested}
use Rattle.flood_fill.specs.Receive.{missing_in, lowest_in, word_bytes, block_started, data_came, completed, block_ended, receive}
use Rattle.flood_fill_series.specs.Claims.{Call, after, answers, messages_of, held_after, Image, OfImage, came, EveryWord, Visited}

-- what computed examples open
unfoldable storing : Unit {0}
unfolding store_if_fits WordsGroup.stores
storing = tt

unfoldable series : Unit {0}
unfolding after answers messages_of held_after came
series = tt

unfoldable pub receiving : Unit {0}
unfolding receive tested test_start test_block_start test_block_end block_started data_came completed block_ended missing_in lowest_in word_bytes storing series
receiving = tt

-- ---- calls
unfoldable pub zeros : List ℕ
zeros = replicate 16 0

unfoldable pub lent : List Message → List Call
lent [] = []
lent (m ∷ ms) = record { message = m; image = zeros } ∷ lent ms

-- ---- images
-- two blocks of one word
unfoldable pub ones : Image
ones = record { words = 1 ∷ 2 ∷ []; size = 1 }

-- two blocks of two words, of which the last has one only
unfoldable pub twos : Image
twos = record { words = 5 ∷ 6 ∷ 7 ∷ []; size = 2 }

-- ---- the messages of `twos`
unfoldable pub words₀ : List Message
words₀ = BlockData 0 1 6 ∷ BlockData 0 0 5 ∷ []

unfoldable pub words₁ : List Message
words₁ = BlockData 1 0 7 ∷ []

pub every-word₀ : EveryWord 0 2 words₀
unfolding came words₀
every-word₀ zero h = refl
every-word₀ (suc zero) h = refl
every-word₀ (suc (suc w)) h = absurd (omega arith)

pub every-word₁ : EveryWord 1 1 words₁
unfolding came words₁
every-word₁ zero h = refl
every-word₁ (suc w) h = absurd (omega arith)

-- one pass over both blocks, and its second half
unfoldable pub half : List Message
unfolding words₁
half = BlockStart 1 1 ∷ BlockData 1 0 7 ∷ BlockEnd 1 ∷ []

unfoldable pub pass : List Message
unfolding half
pass = BlockStart 0 2 ∷ BlockData 0 1 6 ∷ BlockData 0 0 5 ∷ BlockEnd 0 ∷ half

pub half-of-image : All (OfImage twos) half
unfolding twos half
half-of-image = (refl, ((omega arith, refl), (tt, tt)))

pub pass-of-image : All (OfImage twos) pass
unfolding twos pass
pass-of-image = (refl, ((omega arith, refl), ((omega arith, refl), (tt, half-of-image))))

pub half-visits : Visited twos 1 half
unfolding twos half words₁
half-visits = record {
  front = [];
  middle = words₁;
  back = [];
  whole = refl;
  data-only = ((omega arith, refl), tt);
  every-word = every-word₁;
}

pub pass-visits : (b : ℕ) → b ≤ 1 → Visited twos b pass
unfolding twos pass half words₀ words₁
pass-visits zero h = record {
  front = [];
  middle = words₀;
  back = half;
  whole = refl;
  data-only = ((omega arith, refl), ((omega arith, refl), tt));
  every-word = every-word₀;
}
pass-visits (suc zero) h = record {
  front = BlockStart 0 2 ∷ BlockData 0 1 6 ∷ BlockData 0 0 5 ∷ BlockEnd 0 ∷ [];
  middle = words₁;
  back = [];
  whole = refl;
  data-only = ((omega arith, refl), tt);
  every-word = every-word₁;
}
pass-visits (suc (suc b)) h = absurd (omega arith)
