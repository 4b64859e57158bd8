-- A flood-fill receiver as 1,544 bytes that the caller lends, and what a message leaves of them. Numbers are Little Endian. From offset 0 on:
-- the count of blocks, the full size of a block, the ID of the open block and its own size, 2 bytes each; from 8 on a byte for each of
-- 256 blocks, done unless 0; from 264 on a byte for each of 256 words of the open block, come unless 0; from 520 on these words.
use Rattle.std.specs.Prelude.{Bool, not, List, [], ◌∷◌, ◌++◌, ℕ, zero, suc, ◌+◌, ◌*◌, ltb, eqb, take, drop, set, replicate, if◌then◌else◌, Option, None}
use Rattle.words.specs.Bytes.{little_endian, little_endian_at}
use Rattle.words.specs.Store.{store}
use Rattle.flood_fill.specs.declared.message.Message.{Message}
use Rattle.flood_fill.specs.declared.message.Message.TheVariants.{Start, BlockStart, BlockData, BlockEnd}
use Rattle.flood_fill.specs.declared.header.Block.{Block}
use Rattle.flood_fill.specs.declared.header.Header.{Header}
use Rattle.flood_fill.specs.declared.receiver.Receiver.{Receiver}
use Rattle.flood_fill.specs.Refusals.{opened_block}
use Rattle.flood_fill.specs.Answer.{Answer, refused, accepted, ignored, missing, done}
use Rattle.flood_fill.specs.Receive.{Result, receive}

-- ---- the receiver that bytes are: any bytes are one
-- a size of 0 says that no block is open
abbrev pub opened_in : ℕ → ℕ → Option Block
opened_in b n = if eqb n 0 then None else opened_block b n

unfoldable pub header_in : List ℕ → Header
header_in s =
    record {
      count = little_endian_at 2 s 0;
      size = little_endian_at 2 s 2;
      opened = opened_in (little_endian_at 2 s 4) (little_endian_at 2 s 6);
    }

-- a flag is set unless its byte is 0
unfoldable pub flags_in : List ℕ → List Bool
flags_in [] = []
flags_in (b ∷ s) = not (eqb b 0) ∷ flags_in s

-- k words from offset p on
unfoldable pub words_in : ℕ → List ℕ → ℕ → List ℕ
words_in zero s p = []
words_in (suc k) s p = little_endian_at 4 s p ∷ words_in k s (p + 4)

unfoldable pub receiver_in : List ℕ → Receiver
receiver_in s =
    record {
      header = header_in s;
      done = flags_in (take 256 (drop 8 s));
      marks = flags_in (take 256 (drop 264 s));
      words = words_in 256 s 520;
    }

-- ---- what a message that is done leaves of the bytes
-- a word that is kept is written, and has come
abbrev pub with_word : List ℕ → ℕ → ℕ → List ℕ
with_word s w v = store (set s (264 + w) 1) (520 + 4 * w) (little_endian 4 v)

-- a Start writes all of them anew; a Block Start the open block, and no word has come; a completed block is done, and no block is open.
-- There is a byte for each of 256 blocks
unfoldable pub written : List ℕ → Message → List ℕ
written s (Start last n) = little_endian 2 (suc last) ++ (little_endian 2 n ++ replicate 1540 0)
written s (BlockStart b n) = store (store s 4 (little_endian 2 b ++ little_endian 2 n)) 264 (replicate 256 0)
written s (BlockData b w v) = with_word s w v
written s (BlockEnd b) = let t = store s 4 (replicate 4 0) in if ltb b 256 then set t (8 + b) 1 else t

-- any other message changes no byte
abbrev pub bytes_at : Answer → List ℕ → Message → List ℕ
bytes_at (refused n p) s m = s
bytes_at accepted s m = written s m
bytes_at ignored s m = s
bytes_at (missing n l) s m = s
bytes_at done s m = written s m

-- ---- what a message leaves: the bytes of the receiver, the image, and the answer
pub record Left : Type 0 where
  pub bytes : List ℕ
  pub image : List ℕ
  pub answer : Answer

abbrev pub left_by : Result → List ℕ → Message → Left
left_by x s m = record { bytes = bytes_at x.answer s m; image = x.image; answer = x.answer }

unfoldable pub receive_bytes : List ℕ → List ℕ → Message → Left
receive_bytes s image m = left_by (receive (receiver_in s) image m) s m
