-- Computed examples: limits, each refusal and its place in the order, and series of messages for two blocks of two words, of which the
-- second has one only.
use Rattle.std.specs.Prelude.{◌≡◌, refl, true, false, List, [], ◌∷◌, ℕ, replicate, None, Err}
use Rattle.words.specs.Open as WordsGroup
use Rattle.words.specs.Store.{store_if_fits}
use Rattle.flood_fill.specs.declared.message.Message.{Message}
use Rattle.flood_fill.specs.declared.message.Message.TheVariants.{Start, BlockStart, BlockData, BlockEnd}
use Rattle.outcome.specs.declared.refusal.Cause.TheVariants.{ImageTooShort, OutsideLimits, NoStart, NoSuchBlock, WrongSize, NotOpen}
use Rattle.flood_fill.specs.declared.receiver.Receiver.{Receiver}
use Rattle.flood_fill.specs.Limits.{within_limits, right_size}
use Rattle.flood_fill.specs.Refusals.{opened_block, passed, test_start, test_block_start, test_block_end, tested}
use Rattle.flood_fill.specs.Answer.{Answer, refused, accepted, ignored, missing, done}
use Rattle.flood_fill.specs.Receive.{headed, afresh, missing_in, lowest_in, word_bytes, result, opening, completing, block_started, data_came, completed, block_ended, receive}

-- ---- limits
record Limits : Type 0 where
  pub most-words : within_limits 32 256 ≡ true
  pub words-over : within_limits 33 256 ≡ false
  -- 8,194 words, the least number over 8,192 that blocks can have
  pub two-over : within_limits 34 241 ≡ false
  pub most-blocks : within_limits 256 32 ≡ true
  pub blocks-over : within_limits 257 1 ≡ false
  pub size-over : within_limits 1 257 ≡ false
  pub no_size : within_limits 1 0 ≡ false
  -- of two blocks of two words the last may be shorter, and has at least one
  pub full : right_size 2 2 0 2 ≡ true
  pub shorter : right_size 2 2 0 1 ≡ false
  pub last-full : right_size 2 2 1 2 ≡ true
  pub last-shorter : right_size 2 2 1 1 ≡ true
  pub last_empty : right_size 2 2 1 0 ≡ false
  pub last-longer : right_size 2 2 1 3 ≡ false

limits : Limits
limits = record {
  most-words = refl;
  words-over = refl;
  two-over = refl;
  most-blocks = refl;
  blocks-over = refl;
  size-over = refl;
  no_size = refl;
  full = refl;
  shorter = refl;
  last-full = refl;
  last-shorter = refl;
  last_empty = refl;
  last-longer = refl;
}

-- ---- refusals: with no Start, and after one for two blocks of two words, of which block 1 is open; an image of 16 bytes holds them
record Refusals : Type 0 where
  pub short-start : tested (headed 0 0 None) (Start 1 2) 15 ≡ Err ImageTooShort
  pub long-enough : tested (headed 0 0 None) (Start 1 2) 16 ≡ passed
  -- by its own numbers, and not by those of the Start before; 24 comes before 25, also for numbers whose product no word holds
  pub own-numbers : tested (headed 2 2 None) (Start 0 1) 4 ≡ passed
  pub short-first : tested (headed 0 0 None) (Start 256 1) 1027 ≡ Err ImageTooShort
  pub outside : tested (headed 0 0 None) (Start 256 1) 1028 ≡ Err OutsideLimits
  pub largest : tested (headed 0 0 None) (Start 4294967295 4294967295) 18446744073709551615 ≡ Err ImageTooShort
  pub no_words : tested (headed 0 0 None) (Start 0 0) 0 ≡ Err OutsideLimits
  -- before any Start no image is too short
  pub no_start : tested (headed 0 0 None) (BlockStart 0 1) 0 ≡ Err NoStart
  pub data-first : tested (headed 0 0 None) (BlockData 0 0 1) 0 ≡ passed
  pub end-first : tested (headed 0 0 None) (BlockEnd 0) 0 ≡ Err NotOpen
  -- every message of a Start needs its image, and 24 comes before the others
  pub short-block-start : tested (headed 2 2 (opened_block 1 2)) (BlockStart 2 9) 15 ≡ Err ImageTooShort
  pub short-data : tested (headed 2 2 (opened_block 1 2)) (BlockData 0 0 1) 15 ≡ Err ImageTooShort
  pub short-end : tested (headed 2 2 (opened_block 1 2)) (BlockEnd 0) 15 ≡ Err ImageTooShort
  -- 27 comes before 28
  pub no_block : tested (headed 2 2 (opened_block 1 2)) (BlockStart 2 9) 16 ≡ Err NoSuchBlock
  pub wrong_size : tested (headed 2 2 (opened_block 1 2)) (BlockStart 0 1) 16 ≡ Err WrongSize
  pub not-open : tested (headed 2 2 (opened_block 1 2)) (BlockEnd 0) 16 ≡ Err NotOpen
  pub is_open : tested (headed 2 2 (opened_block 1 2)) (BlockEnd 1) 16 ≡ passed

refusals : Refusals
unfolding test_start test_block_start test_block_end tested
refusals = record {
  short-start = refl;
  long-enough = refl;
  own-numbers = refl;
  short-first = refl;
  outside = refl;
  largest = refl;
  no_words = refl;
  no_start = refl;
  data-first = refl;
  end-first = refl;
  short-block-start = refl;
  short-data = refl;
  short-end = refl;
  no_block = refl;
  wrong_size = refl;
  not-open = refl;
  is_open = refl;
}

-- ---- series
zeros : List ℕ
zeros = replicate 16 0

-- the answers to messages, each to the receiver that the last one left, and the image at the end
record Told : Type 0 where
  pub answers : List Answer
  pub image : List ℕ

tell : Receiver → List ℕ → List Message → Told
tell r image [] = record { answers = []; image = image }
tell r image (m ∷ ms) =
    let s = receive r image m in
    let t = tell s.receiver s.image ms in
    record { answers = s.answer ∷ t.answers; image = t.image }

record Series : Type 0 where
  -- a refused message changes nothing, and names no place
  pub unchanged : receive (afresh 2 2) zeros (BlockEnd 0) ≡ result (afresh 2 2) zeros (refused 29 0)
  -- a Start begins afresh, also with a block done and another open, and leaves the image
  pub begins : receive (opening (completing (afresh 2 2) 0) 1 1) (replicate 16 7) (Start 3 1) ≡ result (afresh 4 1) (replicate 16 7) accepted
  -- a word again, one past the size and one of another block are ignored; an incomplete end names what is missing and leaves the block open
  pub one_block :
      tell (afresh 2 2) zeros
      (BlockStart 0 2 ∷ BlockData 0 1 0x04030201 ∷ BlockData 0 1 9 ∷ BlockData 0 2 9 ∷ BlockData 1 0 9 ∷ BlockEnd 0 ∷ BlockData 0 0 5 ∷ BlockEnd 0
      ∷ BlockEnd 0 ∷ [])
      ≡ record {
        answers = accepted ∷ accepted ∷ ignored ∷ ignored ∷ ignored ∷ missing 1 0 ∷ accepted ∷ done ∷ refused 29 0 ∷ [];
        image = 5 ∷ 0 ∷ 0 ∷ 0 ∷ 1 ∷ 2 ∷ 3 ∷ 4 ∷ 0 ∷ 0 ∷ 0 ∷ 0 ∷ 0 ∷ 0 ∷ 0 ∷ 0 ∷ [];
      }
  -- block 1 stands at the full size; block 0 is done, and its Block Start leaves block 1 open; another Block Start begins block 1 again
  pub two_blocks :
      tell (afresh 2 2) zeros
      (BlockStart 0 2 ∷ BlockData 0 0 5 ∷ BlockData 0 1 6 ∷ BlockEnd 0 ∷ BlockStart 1 1 ∷ BlockData 1 0 8 ∷ BlockStart 0 2 ∷ BlockStart 1 1 ∷ BlockEnd 1
      ∷ BlockData 1 0 7 ∷ BlockEnd 1 ∷ [])
      ≡ record {
        answers = accepted ∷ accepted ∷ accepted ∷ done ∷ accepted ∷ accepted ∷ ignored ∷ accepted ∷ missing 1 0 ∷ accepted ∷ done ∷ [];
        image = 5 ∷ 0 ∷ 0 ∷ 0 ∷ 6 ∷ 0 ∷ 0 ∷ 0 ∷ 7 ∷ 0 ∷ 0 ∷ 0 ∷ 0 ∷ 0 ∷ 0 ∷ 0 ∷ [];
      }
  -- another block's Block Start drops the open one, and its words with it
  pub dropped :
      tell (afresh 2 2) zeros
      (BlockStart 0 2 ∷ BlockData 0 0 5 ∷ BlockEnd 0 ∷ BlockStart 1 1 ∷ BlockEnd 0 ∷ BlockData 1 0 7 ∷ BlockEnd 1 ∷ BlockStart 0 2 ∷ BlockEnd 0 ∷ [])
      ≡ record {
        answers = accepted ∷ accepted ∷ missing 1 1 ∷ accepted ∷ refused 29 0 ∷ accepted ∷ done ∷ accepted ∷ missing 2 0 ∷ [];
        image = 0 ∷ 0 ∷ 0 ∷ 0 ∷ 0 ∷ 0 ∷ 0 ∷ 0 ∷ 7 ∷ 0 ∷ 0 ∷ 0 ∷ 0 ∷ 0 ∷ 0 ∷ 0 ∷ [];
      }

series : Series
unfolding zeros tell test_start test_block_start test_block_end tested block_started data_came completed block_ended receive missing_in lowest_in word_bytes store_if_fits WordsGroup.stores
series = record { unchanged = refl; begins = refl; one_block = refl; two_blocks = refl; dropped = refl }
