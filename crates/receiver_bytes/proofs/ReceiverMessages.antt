-- What a Start, a Block Start and a word leave of the bytes, by the tests that the code makes.
use Rattle.std.specs.Prelude.{◌≡◌, Bool, true, false, List, ℕ, length, Err}
use Rattle.std.proofs.Common.{sym, ◌∙◌}
use Rattle.outcome.specs.declared.refusal.Cause.{Cause}
use Rattle.outcome.specs.Refusal.{number_of}
use Rattle.flood_fill.specs.declared.message.Message.{Message}
use Rattle.flood_fill.specs.declared.message.Message.TheVariants.{Start, BlockStart, BlockData}
use Rattle.flood_fill.specs.declared.header.Header.{Header}
use Rattle.flood_fill.specs.Refusals.{is_wanted, Tested, passed, tested}
use Rattle.flood_fill.specs.Answer.{refused, accepted, ignored}
use Rattle.flood_fill.specs.Receive.{is_done, is_marked, block_started, data_came, receive}
use Rattle.receiver_bytes.specs.Receiver.{header_in, receiver_in, written, receive_bytes}
use Rattle.receiver_bytes.proofs.ReceiverCases.{left}

-- as the code makes them, on the header that it read
module _ (s image : List ℕ) (m : Message) {h : Header} {t : Tested} (is : h ≡ header_in s) (e : t ≡ tested h m (length image)) where
  pub when-refused : (c : Cause) → t ≡ Err c → receive_bytes s image m ≡ left s image (refused (number_of c) 0)
  unfolding receive_bytes receive receiver_in
  when-refused c f = let g : tested (header_in s) m (length image) ≡ Err c = rw is at (sym e ∙ f) in rw g

-- ---- a Start, and a Block Start
module _ (s image : List ℕ) (b n : ℕ) where
  pub start-accepted : tested (header_in s) (Start b n) (length image) ≡ passed
      → receive_bytes s image (Start b n) ≡ left (written s (Start b n)) image accepted
  unfolding receive_bytes receive receiver_in
  start-accepted e = rw e

  module _ (e : tested (header_in s) (BlockStart b n) (length image) ≡ passed) where
    pub block-ignored : is_done (receiver_in s) b ≡ true → receive_bytes s image (BlockStart b n) ≡ left s image ignored
    unfolding receive_bytes receive receiver_in block_started
    block-ignored d = rw (e, d)

    pub block-accepted : is_done (receiver_in s) b ≡ false
        → receive_bytes s image (BlockStart b n) ≡ left (written s (BlockStart b n)) image accepted
    unfolding receive_bytes receive receiver_in block_started
    block-accepted d = rw (e, d)

-- ---- a word
module _ (s image : List ℕ) (b w v : ℕ) (e : tested (header_in s) (BlockData b w v) (length image) ≡ passed) where
  abbrev wanted : Bool
  wanted = is_wanted (header_in s).opened b w

  pub data-unwanted : wanted ≡ false → receive_bytes s image (BlockData b w v) ≡ left s image ignored
  unfolding receive_bytes receive receiver_in data_came
  data-unwanted d = rw (e, d)

  pub data-marked : wanted ≡ true → is_marked (receiver_in s) w ≡ true → receive_bytes s image (BlockData b w v) ≡ left s image ignored
  unfolding receive_bytes receive receiver_in data_came
  data-marked d f = rw (e, d, f)

  pub data-accepted : wanted ≡ true → is_marked (receiver_in s) w ≡ false
      → receive_bytes s image (BlockData b w v) ≡ left (written s (BlockData b w v)) image accepted
  unfolding receive_bytes receive receiver_in data_came
  data-accepted d f = rw (e, d, f)
