-- What holds of our receiver: the three claims; and `done` never means that nothing was stored.
use Rattle.std.specs.Prelude.{◌≡◌, List, ℕ, ◌+◌, ◌*◌, ◌≤◌, length, take}
use Rattle.words.specs.Store.{store}
use Rattle.flood_fill.specs.declared.message.Message.TheVariants.{BlockEnd}
use Rattle.flood_fill.specs.Refusals.{open_size}
use Rattle.flood_fill.specs.Answer.{done}
use Rattle.flood_fill.specs.Receive.{empty, word_bytes, receive}
use Rattle.flood_fill_series.specs.Claims.{Call, after, Claims}
use Rattle.flood_fill_series.proofs.Proved.Ends.{ends}
use Rattle.flood_fill_series.proofs.Proved.Sound.{always-sound, done-stores}
use Rattle.flood_fill_series.proofs.Proved.Blocks.{order-free, completes}
use Rattle.flood_fill_series.proofs.Proved.Whole.{leaves-whole}

pub ours : Claims receive
ours = record { order-free = order-free; completes = completes; leaves-whole = leaves-whole }

-- `receive` stores words only where they fit. From an empty receiver, after whatever calls, they do: a block is answered `done` only where
-- the lent image has room for its n words, the receiver has them, and they are stored
pub always-fits : (earlier : List Call) (lent : List ℕ) (b : ℕ)
    → let r = after receive empty earlier in
    let e = receive r lent (BlockEnd b) in
    let n = open_size r.header.opened in
    let place = 4 * (b * r.header.size) in
    e.answer ≡ done
    → (place + 4 * n ≤ length lent) × (n ≤ length r.words) × (e.image ≡ store lent place (word_bytes (take n r.words)))
always-fits earlier lent b a =
    let r = after receive empty earlier in
    let s = done-stores r lent b (always-sound earlier) (receive r lent (BlockEnd b)) (ends r lent (BlockEnd b)) a in
    (s.room, s.words, s.stored)
