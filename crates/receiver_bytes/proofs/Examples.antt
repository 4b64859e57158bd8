-- Computed examples: the layout of a receiver's bytes, and a block of two words that is received in them.
use Rattle.std.specs.Prelude.{◌≡◌, refl, true, false, List, [], ◌∷◌, ℕ, take, drop, replicate, None}
use Rattle.words.specs.Bytes.{little_endian, little_endian_at, from_little_endian, first_bytes}
use Rattle.words.specs.Store.{store, store_if_fits}
use Rattle.flood_fill.specs.declared.message.Message.{Message}
use Rattle.flood_fill.specs.declared.message.Message.TheVariants.{Start, BlockStart, BlockData, BlockEnd}
use Rattle.flood_fill.specs.Refusals.{opened_block, test_start, test_block_start, test_block_end, tested}
use Rattle.flood_fill.specs.Answer.{refused, accepted, missing, done}
use Rattle.flood_fill.specs.Receive.{headed, missing_in, lowest_in, word_bytes, block_started, data_came, completed, block_ended, receive}
use Rattle.receiver_bytes.specs.Receiver.{header_in, flags_in, words_in, receiver_in, written, Left, receive_bytes}

-- ---- the layout
pub record Layout : Type 0 where
  -- 3 blocks of 256 words, block 2 open with 7 words
  pub header : header_in (3 ∷ 0 ∷ 0 ∷ 1 ∷ 2 ∷ 0 ∷ 7 ∷ 0 ∷ []) ≡ headed 3 256 (opened_block 2 7)
  -- a size of 0: none is open
  pub none_open : header_in (3 ∷ 0 ∷ 0 ∷ 1 ∷ 2 ∷ 0 ∷ 0 ∷ 0 ∷ []) ≡ headed 3 256 None
  pub flags : flags_in (0 ∷ 1 ∷ 255 ∷ []) ≡ false ∷ true ∷ true ∷ []
  pub words : words_in 2 (9 ∷ 4 ∷ 3 ∷ 2 ∷ 1 ∷ 8 ∷ 7 ∷ 6 ∷ 5 ∷ []) 1 ≡ 0x01020304 ∷ 0x05060708 ∷ []
  -- a Start's two numbers: 256 blocks of 32 words
  pub start : take 5 (written [] (Start 255 32)) ≡ 0 ∷ 1 ∷ 32 ∷ 0 ∷ 0 ∷ []

pub layout : Layout
unfolding header_in flags_in words_in written little_endian little_endian_at from_little_endian first_bytes
layout = record { header = refl; none_open = refl; flags = refl; words = refl; start = refl }

-- ---- messages from an empty receiver on, with an image of 8 bytes
unfoldable pub left_by_all : List ℕ → List ℕ → List Message → Left
left_by_all s image [] = record { bytes = s; image = image; answer = accepted }
left_by_all s image (m ∷ []) = receive_bytes s image m
left_by_all s image (m ∷ n ∷ ms) = let x = receive_bytes s image m in left_by_all x.bytes x.image (n ∷ ms)

abbrev left : List Message → Left
left = left_by_all (replicate 1544 0) (replicate 8 9)

-- one block of two words, of which word 1 comes first
abbrev half : List Message
half = Start 0 2 ∷ BlockStart 0 2 ∷ BlockData 0 1 0x01020304 ∷ []

abbrev incomplete : List Message
incomplete = Start 0 2 ∷ BlockStart 0 2 ∷ BlockData 0 1 0x01020304 ∷ BlockEnd 0 ∷ []

abbrev complete : List Message
complete = Start 0 2 ∷ BlockStart 0 2 ∷ BlockData 0 1 0x01020304 ∷ BlockEnd 0 ∷ BlockData 0 0 0x05060708 ∷ BlockEnd 0 ∷ []

pub record Received : Type 0 where
  pub before-any : (left (BlockStart 0 2 ∷ [])).answer ≡ refused 26 0
  pub header : take 8 (left half).bytes ≡ 1 ∷ 0 ∷ 2 ∷ 0 ∷ 0 ∷ 0 ∷ 2 ∷ 0 ∷ []
  pub mark : take 3 (drop 264 (left half).bytes) ≡ 0 ∷ 1 ∷ 0 ∷ []
  pub word : take 8 (drop 520 (left half).bytes) ≡ 0 ∷ 0 ∷ 0 ∷ 0 ∷ 4 ∷ 3 ∷ 2 ∷ 1 ∷ []
  pub lacking : (left incomplete).answer ≡ missing 1 0
  pub done-answer : (left complete).answer ≡ done
  pub done-header : take 9 (left complete).bytes ≡ 1 ∷ 0 ∷ 2 ∷ 0 ∷ 0 ∷ 0 ∷ 0 ∷ 0 ∷ 1 ∷ []
  pub image : (left complete).image ≡ 8 ∷ 7 ∷ 6 ∷ 5 ∷ 4 ∷ 3 ∷ 2 ∷ 1 ∷ []

pub received : Received
unfolding left_by_all receive_bytes receive receiver_in header_in flags_in words_in written tested test_start test_block_start test_block_end block_started data_came completed block_ended missing_in lowest_in word_bytes little_endian little_endian_at from_little_endian first_bytes store store_if_fits
received =
    record {
      before-any = refl;
      header = refl;
      mark = refl;
      word = refl;
      lacking = refl;
      done-answer = refl;
      done-header = refl;
      image = refl;
    }
