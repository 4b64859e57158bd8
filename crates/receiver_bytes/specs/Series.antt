-- Series of calls on the bytes of a receiver, and what paper 02 (C-14) says of them: the theorem about a whole image, of the bytes that a
-- caller keeps.
use Rattle.std.specs.Prelude.{◌≡◌, false, List, [], ◌∷◌, ℕ, ◌^◌, ◌≤◌, ◌<◌, replicate}
use Rattle.words.specs.Choice.{All}
use Rattle.flood_fill.specs.declared.message.Message.{Message}
use Rattle.flood_fill.specs.declared.message.Message.TheVariants.{Start, BlockStart, BlockData, BlockEnd}
use Rattle.flood_fill.specs.Receive.{is_done}
use Rattle.flood_fill_series.specs.Claims.{Call, messages_of, NotRefused, Image, OfImage, Visited, StandsWhole}
use Rattle.receiver_bytes.specs.Receiver.{receiver_in, receive_bytes}

-- the word of a Block Data is one of 32 bits
abbrev pub WordFits : Message → Type 0
WordFits (Start last n) = Unit {0}
WordFits (BlockStart b n) = Unit {0}
WordFits (BlockData b w v) = v < 2 ^ 32
WordFits (BlockEnd b) = Unit {0}

-- the bytes, handed on as each call left them
unfoldable pub bytes_after : List ℕ → List Call → List ℕ
bytes_after s [] = s
bytes_after s (c ∷ cs) = bytes_after (receive_bytes s c.image c.message).bytes cs

-- the image handed on too
pub record HeldBytes : Type 0 where
  pub bytes : List ℕ
  pub image : List ℕ

abbrev pub leaves_bytes : HeldBytes → Message → HeldBytes
leaves_bytes h m = let x = receive_bytes h.bytes h.image m in record { bytes = x.bytes; image = x.image }

unfoldable pub held_bytes_after : HeldBytes → List Message → HeldBytes
held_bytes_after h [] = h
held_bytes_after h (m ∷ ms) = held_bytes_after (leaves_bytes h m) ms

-- "one such pass over all blocks not yet done leaves that image whole there": from 1,544 zeros on, after any earlier calls
abbrev pub WholeInBytes : Type 0
WholeInBytes =
    (i : Image) (earlier : List Call) (lent : List ℕ) (last n : ℕ) (before pass : List Message)
    → let s = receive_bytes (bytes_after (replicate 1544 0) earlier) lent (Start last n) in
    let h = held_bytes_after (record { bytes = s.bytes; image = s.image }) before in
    All WordFits (messages_of earlier) → All WordFits before → All WordFits pass
    → NotRefused s.answer → OfImage i (Start last n) → All (OfImage i) before → All (OfImage i) pass
    → ((b : ℕ) → b ≤ last → is_done (receiver_in h.bytes) b ≡ false → Visited i b pass)
    → StandsWhole i lent (held_bytes_after h pass).image
