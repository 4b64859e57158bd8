-- Messages to the bytes of a receiver are messages to the receiver that they are (`receive`): what a message leaves of the bytes is the
-- receiver that it leaves, in 1,544 bytes again. All zeros are the empty receiver.
use Rattle.std.specs.Prelude.{◌≡◌, true, false, ◌&&◌, List, ℕ, suc, ◌^◌, ◌<◌, ltb, length, take, replicate, if◌then◌else◌, Ok, Err}
use Rattle.std.proofs.Math.Path.{refl}
use Rattle.std.proofs.Math.Bool.{Bool, not}
use Rattle.std.proofs.Common.{arith}
use Rattle.std.proofs.lemmas.Bool.{not-true}
use Rattle.words.proofs.ChoiceLaws.{both}
use Rattle.words.specs.Bytes.{little_endian}
use Rattle.words.proofs.BytesLaws.{little-at-below}
use Rattle.flood_fill.specs.declared.message.Message.{Message}
use Rattle.flood_fill.specs.declared.message.Message.TheVariants.{Start, BlockStart, BlockData, BlockEnd}
use Rattle.flood_fill.specs.Refusals.{open_size, is_wanted, Tested, passed, tested}
use Rattle.flood_fill.proofs.RefusalsLaws.{passed-own, start-limits, block-fits}
use Rattle.flood_fill.specs.Answer.{accepted}
use Rattle.flood_fill.specs.Receive.{empty, is_done, is_marked, missing_in, Result, result, keeping, started, block_started, data_came, block_ended, completed, performed, result_at, receive}
use Rattle.receiver_bytes.specs.Receiver.{header_in, receiver_in, written, bytes_at, receive_bytes}
use Rattle.receiver_bytes.specs.Series.{WordFits}
use Rattle.receiver_bytes.proofs.ReceiverCases.{unmarked-below}
use Rattle.receiver_bytes.proofs.ReceiverWritten.{ReceiverBytes, begun-bytes, begun-is, opening-bytes, opening-is, keeping-bytes, keeping-is, completing-bytes, completing-is}

-- the bytes that a message leaves are the receiver that it leaves
pub record Agrees (s : List ℕ) (m : Message) (x : Result) : Type 0 where
  pub receiver : receiver_in (bytes_at x.answer s m) ≡ x.receiver
  pub after : ReceiverBytes (bytes_at x.answer s m)

by-test : {s : List ℕ} {m : Message} {x y : Result} (t : Bool) → (t ≡ true → Agrees s m x) → (t ≡ false → Agrees s m y)
    → Agrees s m (if t then x else y)
by-test true f g = f refl
by-test false f g = g refl

module _ (s image : List ℕ) (are : ReceiverBytes s) where
  -- a message that changes nothing
  same : {m : Message} {x : Result} → bytes_at x.answer s m ≡ s → x.receiver ≡ receiver_in s → Agrees s m x
  same e f = record { receiver = rw (e, f); after = rw e are }

  numbers-below : ((receiver_in s).header.count < 65536) × ((receiver_in s).header.size < 65536)
  unfolding receiver_in header_in
  numbers-below = (little-at-below 2 0 s are.bytes, little-at-below 2 2 s are.bytes)

  start-agrees : (last n : ℕ) → tested (receiver_in s).header (Start last n) (length image) ≡ passed → Agrees s (Start last n) (started image last n)
  unfolding written
  start-agrees last n e =
      let l = start-limits last n (passed-own (receiver_in s).header (Start last n) (length image) e) in
      record {
        receiver = begun-is (suc last) n (omega (arith, l.count-high)) (omega (arith, l.size-high));
        after = begun-bytes (suc last) n;
      }

  block-start-agrees : (b n : ℕ) → tested (receiver_in s).header (BlockStart b n) (length image) ≡ passed
      → Agrees s (BlockStart b n) (block_started (receiver_in s) image b n)
  unfolding block_started
  block-start-agrees b n e =
      let f = block-fits (receiver_in s).header b n (passed-own (receiver_in s).header (BlockStart b n) (length image) e) in
      let x : b < 65536 = omega (arith, f.below, numbers-below.0) in
      let y : n < 65536 = omega (arith, f.most, numbers-below.1) in
      by-test (is_done (receiver_in s) b) (λ _. same refl refl) (λ _. record { receiver = opening-is s are b n f.least x y; after = opening-bytes s are b n })

  data-agrees : (b w v : ℕ) → v < 2 ^ 32 → Agrees s (BlockData b w v) (data_came (receiver_in s) image b w v)
  unfolding data_came
  data-agrees b w v h = by-test (wanted && not (is_marked (receiver_in s) w)) kept (λ _. same refl refl)
    where
      wanted : Bool
      wanted = is_wanted (receiver_in s).header.opened b w

      kept : (wanted && not (is_marked (receiver_in s) w)) ≡ true → Agrees s (BlockData b w v) (result (keeping (receiver_in s) w v) image accepted)
      kept e =
          let g = unmarked-below s w (not-true _ (both wanted (not (is_marked (receiver_in s) w)) e).1) in
          record { receiver = keeping-is s are b w v g h; after = keeping-bytes s are b w v g }

  block-end-agrees : (b n : ℕ) → Agrees s (BlockEnd b) (block_ended (receiver_in s) image b n)
  unfolding block_ended completed
  block-end-agrees b n =
      by-test (ltb 0 (missing_in (take n (receiver_in s).marks))) (λ _. same refl refl) (λ _. record { receiver = completing-is s are b; after = completing-bytes s are b })

  performed-agrees : (m : Message) → WordFits m → tested (receiver_in s).header m (length image) ≡ passed → Agrees s m (performed (receiver_in s) image m)
  performed-agrees (Start last n) h e = start-agrees last n e
  performed-agrees (BlockStart b n) h e = block-start-agrees b n e
  performed-agrees (BlockData b w v) h e = data-agrees b w v h
  performed-agrees (BlockEnd b) h e = block-end-agrees b (open_size (receiver_in s).header.opened)

  agrees : (m : Message) → WordFits m → Agrees s m (receive (receiver_in s) image m)
  unfolding receive
  agrees m h = go (tested (receiver_in s).header m (length image)) refl
    where
      go : (t : Tested) → tested (receiver_in s).header m (length image) ≡ t → Agrees s m (result_at t (receiver_in s) image m)
      go (Err cause) e = same refl refl
      go (Ok _) e = performed-agrees m h e

-- ---- what a message leaves of 1,544 bytes
module _ (s image : List ℕ) (are : ReceiverBytes s) (m : Message) (h : WordFits m) where
  pub receiver-left : receiver_in (receive_bytes s image m).bytes ≡ (receive (receiver_in s) image m).receiver
  unfolding receive_bytes
  receiver-left = (agrees s image are m h).receiver

  pub bytes_left : ReceiverBytes (receive_bytes s image m).bytes
  unfolding receive_bytes
  bytes_left = (agrees s image are m h).after

-- the image and the answer are those of `receive`, for any bytes
module _ (s image : List ℕ) (m : Message) where
  pub image-left : (receive_bytes s image m).image ≡ (receive (receiver_in s) image m).image
  unfolding receive_bytes
  image-left = refl

  pub answer-left : (receive_bytes s image m).answer ≡ (receive (receiver_in s) image m).answer
  unfolding receive_bytes
  answer-left = refl

-- ---- all zeros: "an empty receiver"
pub empty-bytes : ReceiverBytes (replicate 1544 0)
unfolding little_endian
empty-bytes = begun-bytes 0 0

pub empty-is : receiver_in (replicate 1544 0) ≡ empty
unfolding little_endian
empty-is = begun-is 0 0 (omega arith) (omega arith)
