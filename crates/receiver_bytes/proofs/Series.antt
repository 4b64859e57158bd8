-- Each series of calls on the bytes of a receiver is a series of messages to the receiver that they are. So what paper 02 (C-14) says of
-- series holds of the bytes that a caller keeps.
use Rattle.std.specs.Prelude.{◌≡◌, refl, List, [], ◌∷◌, ℕ, replicate}
use Rattle.std.proofs.Common.{ap, ◌∙◌}
use Rattle.words.specs.Choice.{All}
use Rattle.flood_fill.specs.declared.message.Message.{Message}
use Rattle.flood_fill.specs.declared.message.Message.TheVariants.{Start}
use Rattle.flood_fill.specs.declared.receiver.Receiver.{Receiver}
use Rattle.flood_fill.specs.Receive.{empty, is_done, receive}
use Rattle.flood_fill_series.specs.Claims.{Call, after, messages_of, Held, leaves, held_after}
use Rattle.flood_fill_series.proofs.Ours.{ours}
use Rattle.receiver_bytes.specs.Receiver.{receiver_in, receive_bytes}
use Rattle.receiver_bytes.specs.Series.{WordFits, bytes_after, HeldBytes, leaves_bytes, held_bytes_after, WholeInBytes}
use Rattle.receiver_bytes.proofs.ReceiverWritten.{ReceiverBytes}
use Rattle.receiver_bytes.proofs.ReceiverLaws.{receiver-left, bytes_left, image-left, answer-left, empty-bytes, empty-is}

abbrev pub held_in : HeldBytes → Held
held_in h = record { receiver = receiver_in h.bytes; image = h.image }

-- ---- they are series of messages to the receiver
pub after_is : (s : List ℕ) → ReceiverBytes s → (cs : List Call) → All WordFits (messages_of cs)
    → receiver_in (bytes_after s cs) ≡ after receive (receiver_in s) cs
unfolding bytes_after after messages_of
after_is s are [] w = refl
after_is s are (c ∷ cs) w =
    after_is (receive_bytes s c.image c.message).bytes (bytes_left s c.image are c.message w.0) cs w.1
    ∙ ap (λ (r : Receiver). after receive r cs) (receiver-left s c.image are c.message w.0)

pub after-bytes : (s : List ℕ) → ReceiverBytes s → (cs : List Call) → All WordFits (messages_of cs) → ReceiverBytes (bytes_after s cs)
unfolding bytes_after messages_of
after-bytes s are [] w = are
after-bytes s are (c ∷ cs) w =
    after-bytes (receive_bytes s c.image c.message).bytes (bytes_left s c.image are c.message w.0) cs w.1

left_is : (h : HeldBytes) → ReceiverBytes h.bytes → (m : Message) → WordFits m → held_in (leaves_bytes h m) ≡ leaves receive (held_in h) m
left_is h are m w = rw (receiver-left h.bytes h.image are m w, image-left h.bytes h.image m)

pub held-is : (h : HeldBytes) → ReceiverBytes h.bytes → (ms : List Message) → All WordFits ms → held_in (held_bytes_after h ms) ≡ held_after receive (held_in h) ms
unfolding held_bytes_after held_after
held-is h are [] w = refl
held-is h are (m ∷ ms) w =
    held-is (leaves_bytes h m) (bytes_left h.bytes h.image are m w.0) ms w.1
    ∙ ap (λ (x : Held). held_after receive x ms) (left_is h are m w.0)

pub held_bytes : (h : HeldBytes) → ReceiverBytes h.bytes → (ms : List Message) → All WordFits ms → ReceiverBytes (held_bytes_after h ms).bytes
unfolding held_bytes_after
held_bytes h are [] w = are
held_bytes h are (m ∷ ms) w = held_bytes (leaves_bytes h m) (bytes_left h.bytes h.image are m w.0) ms w.1

-- ---- "one such pass over all blocks not yet done leaves that image whole there"
pub whole-in-bytes : WholeInBytes
whole-in-bytes i earlier lent last n before pass we wb wp accepted start of-before of-pass visits =
    let a = bytes_after (replicate 1544 0) earlier in
    let are = after-bytes (replicate 1544 0) empty-bytes earlier we in
    let s = receive_bytes a lent (Start last n) in
    let k : HeldBytes = record { bytes = s.bytes; image = s.image } in
    let here = bytes_left a lent are (Start last n) tt in
    let h = held_bytes_after k before in
    let begun : receiver_in a ≡ after receive empty earlier =
    after_is (replicate 1544 0) empty-bytes earlier we ∙ ap (λ (r : Receiver). after receive r earlier) empty-is
    in
    let answered : s.answer ≡ (receive (after receive empty earlier) lent (Start last n)).answer =
    answer-left a lent (Start last n) ∙ ap (λ (r : Receiver). (receive r lent (Start last n)).answer) begun
    in
    let started : held_in k ≡ leaves receive (record { receiver = after receive empty earlier; image = lent }) (Start last n) =
    left_is (record { bytes = a; image = lent }) are (Start last n) tt
    ∙ ap (λ (r : Receiver). leaves receive (record { receiver = r; image = lent }) (Start last n)) begun
    in
    let ran = held-is k here before wb ∙ ap (λ (x : Held). held_after receive x before) started in
    let passed = held-is h (held_bytes k here before wb) pass wp ∙ ap (λ (x : Held). held_after receive x pass) ran in
    let whole = ours.leaves-whole i earlier lent last n before pass (rw answered at accepted) start of-before of-pass
    (λ b l e. visits b l (ap (λ (x : Held). is_done x.receiver b) ran ∙ e))
    in
    record { room = whole.room; stored = ap (λ (x : Held). x.image) passed ∙ whole.stored }
