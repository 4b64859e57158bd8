-- What paper 02 (C-14) says of series of messages: three claims of any receiver, and all that they speak of. They hold of ours (`Ours`), and
-- each is false of wrong receivers (`Refuted`).
use Rattle.std.specs.Prelude.{◌≡◌, Bool, true, false, ◌&&◌, ◌||◌, List, [], ◌∷◌, ◌++◌, ℕ, suc, ◌+◌, ◌*◌, ◌≤◌, ◌<◌, eqb, length, take, drop, get_or}
use Rattle.words.specs.Choice.{All}
use Rattle.words.specs.Store.{store}
use Rattle.flood_fill.specs.declared.message.Message.{Message}
use Rattle.flood_fill.specs.declared.message.Message.TheVariants.{Start, BlockStart, BlockData, BlockEnd}
use Rattle.flood_fill.specs.declared.receiver.Receiver.{Receiver}
use Rattle.flood_fill.specs.Answer.{Answer, refused, accepted, ignored, missing, done}
use Rattle.flood_fill.specs.Receive.{Result, empty, is_done, word_bytes}

-- ======== series of calls
-- what a receiver does with a message and a lent image; ours is `receive`
abbrev pub Step : Type 0
Step = Receiver → List ℕ → Message → Result

-- a message, and the image lent with it: any bytes, at each call others
pub record Call : Type 0 where
  pub message : Message
  pub image : List ℕ

-- the receiver, "handed on as each call left it"
unfoldable pub after : Step → Receiver → List Call → Receiver
after f r [] = r
after f r (c ∷ cs) = after f (f r c.image c.message).receiver cs

-- what each call is answered
unfoldable pub answers : Step → Receiver → List Call → List Answer
answers f r [] = []
answers f r (c ∷ cs) = (f r c.image c.message).answer ∷ answers f (f r c.image c.message).receiver cs

unfoldable pub messages_of : List Call → List Message
messages_of [] = []
messages_of (c ∷ cs) = c.message ∷ messages_of cs

-- "accepted": whatever is not refused, as ignored data, a completed block's Block Start and an incomplete Block End
abbrev pub NotRefused : Answer → Type 0
NotRefused (refused number place) = ⊥
NotRefused accepted = Unit {0}
NotRefused ignored = Unit {0}
NotRefused (missing number lowest) = Unit {0}
NotRefused done = Unit {0}

-- "the lent image, the same each time, is written by nobody else": the image too is handed on as each call left it
pub record Held : Type 0 where
  pub receiver : Receiver
  pub image : List ℕ

abbrev pub leaves : Step → Held → Message → Held
leaves f h m = let s = f h.receiver h.image m in record { receiver = s.receiver; image = s.image }

unfoldable pub held_after : Step → Held → List Message → Held
held_after f h [] = h
held_after f h (m ∷ ms) = held_after f (leaves f h m) ms

-- ======== an image and its messages
-- an image that is passed along: its words, and the full size of a block
pub record Image : Type 0 where
  pub words : List ℕ
  pub size : ℕ

-- the words of block b: "Every block has that size, only the last may be shorter"
abbrev pub block_of : Image → ℕ → List ℕ
block_of i b = take i.size (drop (b * i.size) i.words)

-- a message that is "one image's": it has that image's words and its block sizes, the last block's too. The Start's block count is the
-- one by which the last block has a word and no word is left over
abbrev pub OfImage : Image → Message → Type 0
OfImage i (Start last n) = (n ≡ i.size) × (last * n < length i.words) × (length i.words ≤ suc last * n)
OfImage i (BlockStart b n) = n ≡ length (block_of i b)
OfImage i (BlockData b w v) = (w < length (block_of i b)) × (v ≡ get_or (block_of i b) w 0)
OfImage i (BlockEnd b) = Unit {0}

-- "data, of one image's words"
abbrev pub DataOf : Image → Message → Type 0
DataOf i (Start last n) = ⊥
DataOf i (BlockStart b n) = ⊥
DataOf i (BlockData b w v) = OfImage i (BlockData b w v)
DataOf i (BlockEnd b) = ⊥

-- whether word w of block b came, in whatever order or number
abbrev pub is_word : ℕ → ℕ → Message → Bool
is_word b w (Start last n) = false
is_word b w (BlockStart k n) = false
is_word b w (BlockData k j v) = eqb b k && eqb w j
is_word b w (BlockEnd k) = false

unfoldable pub came : ℕ → ℕ → List Message → Bool
came b w [] = false
came b w (m ∷ ms) = is_word b w m || came b w ms

-- "every word at least once", of block b with n words
abbrev pub EveryWord : ℕ → ℕ → List Message → Type 0
EveryWord b n ms = (w : ℕ) → w < n → came b w ms ≡ true

-- ======== the claims
-- "What follows is from an empty receiver, handed on as each call left it": in each claim `earlier` are the calls before, any at all

-- "only accepted data, of one image's words", came to the receiver r
pub record OnlyData (f : Step) (i : Image) (r : Receiver) (cs : List Call) : Type 0 where
  pub of_image : All (DataOf i) (messages_of cs)
  pub not-refused : All NotRefused (answers f r cs)

-- ---- 1
-- "If only accepted data, of one image's words, came since a Block Start that opened its block, the state depends only on the one that
-- Block Start left and on which word IDs of its block came, in whatever order or number": two lists of such data, xs and ys. The state is
-- the receiver; what stands in the image is said by the other two
abbrev pub OrderFree : Step → Type 0
OrderFree f =
    (i : Image) (earlier : List Call) (lent : List ℕ) (b n : ℕ) (xs ys : List Call)
    → let s = f (after f empty earlier) lent (BlockStart b n) in
    s.answer ≡ accepted → OnlyData f i s.receiver xs → OnlyData f i s.receiver ys
    → ((w : ℕ) → w < n → came b w (messages_of xs) ≡ came b w (messages_of ys))
    → after f s.receiver xs ≡ after f s.receiver ys

-- ---- 2
-- the Block End e completed block b: its n words, which are the image's (each came, so the image's block has as many), stand then in the
-- lent image "at block ID times the full block size, in words", and there is room for them
pub record BlockCompleted (i : Image) (b n full : ℕ) (lent : List ℕ) (e : Result) : Type 0 where
  pub answered : e.answer ≡ done
  pub is-done : is_done e.receiver b ≡ true
  pub room : 4 * (b * full) + 4 * n ≤ length lent
  pub stored : e.image ≡ store lent (4 * (b * full)) (word_bytes (take n (block_of i b)))

-- "For a block not yet done, an accepted Block Start, then only such data with every word at least once, then an accepted Block End
-- completes it."
abbrev pub Completes : Step → Type 0
Completes f =
    (i : Image) (earlier : List Call) (at_start : List ℕ) (b n : ℕ) (xs : List Call) (at_end : List ℕ)
    → let r = after f empty earlier in
    let s = f r at_start (BlockStart b n) in
    let e = f (after f s.receiver xs) at_end (BlockEnd b) in
    is_done r b ≡ false → NotRefused s.answer → OnlyData f i s.receiver xs → EveryWord b n (messages_of xs) → NotRefused e.answer
    → BlockCompleted i b n r.header.size at_end e

-- ---- 3
-- "one such pass" visits block b: somewhere in it stand a Block Start of the block, only data with its every word, and a Block End
pub record Visited (i : Image) (b : ℕ) (pass : List Message) : Type 0 where
  pub front : List Message
  pub middle : List Message
  pub back : List Message
  pub whole : pass ≡ front ++ (BlockStart b (length (block_of i b)) ∷ (middle ++ (BlockEnd b ∷ back)))
  pub data-only : All (DataOf i) middle
  pub every-word : EveryWord b (length (block_of i b)) middle

-- "leaves that image whole there": its bytes stand in front of the lent image, which is else as it was
pub record StandsWhole (i : Image) (lent left : List ℕ) : Type 0 where
  pub room : 4 * length i.words ≤ length lent
  pub stored : left ≡ store lent 0 (word_bytes i.words)

-- "If all messages from the last accepted Start on are one image's and the lent image, the same each time, is written by nobody else, one
-- such pass over all blocks not yet done leaves that image whole there." Before the pass came any of the image's messages, in any order and
-- number, with any lost. The pass takes the blocks in any order, and may have more of the image's messages in between. The image's own
-- Start may come again, before the pass and in it
abbrev pub LeavesWhole : Step → Type 0
LeavesWhole f =
    (i : Image) (earlier : List Call) (lent : List ℕ) (last n : ℕ) (before pass : List Message)
    → let s = f (after f empty earlier) lent (Start last n) in
    let h = held_after f (record { receiver = s.receiver; image = s.image }) before in
    NotRefused s.answer → OfImage i (Start last n) → All (OfImage i) before → All (OfImage i) pass
    → ((b : ℕ) → b ≤ last → is_done h.receiver b ≡ false → Visited i b pass)
    → StandsWhole i lent (held_after f h pass).image

-- ---- all three
pub record Claims (f : Step) : Type 0 where
  pub order-free : OrderFree f
  pub completes : Completes f
  pub leaves-whole : LeavesWhole f
