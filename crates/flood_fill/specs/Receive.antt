-- What a message does to the receiver and to the lent image, and what it is answered (paper 02, C-14).
use Rattle.std.specs.Prelude.{◌≡◌, Bool, true, false, not, ◌&&◌, List, [], ◌∷◌, ◌++◌, ℕ, suc, ◌*◌, ltb, length, take, get_or, set, replicate, if◌then◌else◌, Option, None, Ok, Err}
use Rattle.outcome.specs.Refusal.{number_of}
use Rattle.words.specs.Bytes.{little_endian}
use Rattle.words.specs.Store.{store_if_fits}
use Rattle.flood_fill.specs.declared.message.Message.{Message}
use Rattle.flood_fill.specs.declared.message.Message.TheVariants.{Start, BlockStart, BlockData, BlockEnd}
use Rattle.flood_fill.specs.declared.header.Block.{Block}
use Rattle.flood_fill.specs.declared.header.Header.{Header}
use Rattle.flood_fill.specs.declared.receiver.Receiver.{Receiver}
use Rattle.flood_fill.specs.declared.receiver.Progress.{Progress}
use Rattle.flood_fill.specs.Refusals.{opened_block, open_size, is_wanted, Tested, tested}
use Rattle.flood_fill.specs.Answer.{Answer, refused, accepted, ignored, missing, done, Answered, progress_is, answer_is}

-- ---- the state
abbrev pub headed : ℕ → ℕ → Option Block → Header
headed count size opened = record { count = count; size = size; opened = opened }

-- "Start begins afresh": nothing is done, open or marked
abbrev pub afresh : ℕ → ℕ → Receiver
afresh count size =
    record {
      header = headed count size None;
      done = replicate 256 false;
      marks = replicate 256 false;
      words = replicate 256 0;
    }

-- "an empty receiver": no Start came
abbrev pub empty : Receiver
empty = afresh 0 0

-- whether a block is done, and whether a word is marked. There are 256 places for each, and no block or word past them is wanted
abbrev pub is_done : Receiver → ℕ → Bool
is_done r b = get_or r.done b true

abbrev pub is_marked : Receiver → ℕ → Bool
is_marked r w = get_or r.marks w true

-- ---- words
-- the number of empty marks, and the lowest of them
unfoldable pub missing_in : List Bool → ℕ
missing_in [] = 0
missing_in (true ∷ ms) = missing_in ms
missing_in (false ∷ ms) = suc (missing_in ms)

unfoldable pub lowest_in : List Bool → ℕ
lowest_in [] = 0
lowest_in (true ∷ ms) = suc (lowest_in ms)
lowest_in (false ∷ ms) = 0

-- words as bytes, "Little Endian"
unfoldable pub word_bytes : List ℕ → List ℕ
word_bytes [] = []
word_bytes (w ∷ ws) = little_endian 4 w ++ word_bytes ws

-- ---- what a message leaves
pub record Result : Type 0 where
  pub receiver : Receiver
  pub image : List ℕ
  pub answer : Answer

abbrev pub result : Receiver → List ℕ → Answer → Result
result r image a = record { receiver = r; image = image; answer = a }

-- "Start begins afresh and leaves the image bytes."
abbrev pub started : List ℕ → ℕ → ℕ → Result
started image last n = result (afresh (suc last) n) image accepted

-- "Block Start opens a block and begins with 256 empty word marks": the receiver with block b of n words open
abbrev pub opening : Receiver → ℕ → ℕ → Receiver
opening r b n =
    record {
      header = headed r.header.count r.header.size (opened_block b n);
      done = r.done;
      marks = replicate 256 false;
      words = r.words;
    }

-- "a completed block's is ignored; another block's drops the open one"
unfoldable pub block_started : Receiver → List ℕ → ℕ → ℕ → Result
block_started r image b n = if is_done r b then result r image ignored else result (opening r b n) image accepted

-- the receiver with word w kept and marked
abbrev pub keeping : Receiver → ℕ → ℕ → Receiver
keeping r w v =
    record {
      header = r.header;
      done = r.done;
      marks = set r.marks w true;
      words = set r.words w v;
    }

-- "Data is kept if the block is open, the word ID is below its size and the mark is empty; otherwise ignored."
unfoldable pub data_came : Receiver → List ℕ → ℕ → ℕ → ℕ → Result
data_came r image b w v =
    if is_wanted r.header.opened b w && not (is_marked r w) then result (keeping r w v) image accepted
    else result r image ignored

-- the receiver with block b done, and none open
abbrev pub completing : Receiver → ℕ → Receiver
completing r b =
    record {
      header = headed r.header.count r.header.size None;
      done = set r.done b true;
      marks = r.marks;
      words = r.words;
    }

-- "otherwise the words go, Little Endian, to the lent image at block ID times the full block size, in words, and the block is done": the
-- first n words that were kept. From an empty receiver they always fit (`always-fits` of the crate flood_fill_series)
unfoldable pub completed : Receiver → List ℕ → ℕ → ℕ → Result
completed r image b n =
    result (completing r b) (store_if_fits image (4 * (b * r.header.size)) (word_bytes (take n r.words))) done

-- "Block End with marks missing returns the number missing and the lowest, and stays open": of the first n marks
unfoldable pub block_ended : Receiver → List ℕ → ℕ → ℕ → Result
block_ended r image b n =
    let ms = take n r.marks in
    if ltb 0 (missing_in ms) then result r image (missing (missing_in ms) (lowest_in ms)) else completed r image b n

-- a message that passed the tests; the block of a Block End is then the open one
abbrev pub performed : Receiver → List ℕ → Message → Result
performed r image (Start last n) = started image last n
performed r image (BlockStart b n) = block_started r image b n
performed r image (BlockData b w v) = data_came r image b w v
performed r image (BlockEnd b) = block_ended r image b (open_size r.header.opened)

-- "refused with 24 to 29 and changing nothing"; a refusal names no place
abbrev pub result_at : Tested → Receiver → List ℕ → Message → Result
result_at (Err cause) r image m = result r image (refused (number_of cause) 0)
result_at (Ok _) r image m = performed r image m

unfoldable pub receive : Receiver → List ℕ → Message → Result
receive r image m = result_at (tested r.header m (length image)) r image m

-- ---- what the code answers, with the receiver and the image that it leaves
abbrev pub result_is : Receiver → Answered → List ℕ → Result
result_is r x image = result r image (answer_is x)

-- a message that was not refused
abbrev pub step_is : Receiver → Progress → List ℕ → Result
step_is r x image = result r image (progress_is x)

-- a message that writes no image: its result is the same with every image, which stays as it is
abbrev pub WithAnyImage : Receiver → Progress → (List ℕ → Result) → Type 0
WithAnyImage r x f = (image : List ℕ) → step_is r x image ≡ f image
