-- What a message leaves of the bytes, by the tests that the code makes.
use Rattle.std.specs.Prelude.{◌≡◌, true, false, List, ℕ, ◌*◌, ◌<◌, min, ltb, length, take, drop}
use Rattle.std.proofs.Common.{sym, ◌∙◌, arith, length-take}
use Rattle.std.proofs.Math.ListN.{length-drop}
use Rattle.std.proofs.Math.Seq.{length-take-le}
use Rattle.words.specs.Store.{store_if_fits}
use Rattle.flood_fill.specs.declared.message.Message.{Message}
use Rattle.flood_fill.specs.declared.message.Message.TheVariants.{BlockEnd}
use Rattle.flood_fill.specs.declared.header.Header.{Header}
use Rattle.flood_fill.specs.Refusals.{open_size, Tested, passed, tested}
use Rattle.flood_fill.specs.Answer.{Answer, missing, done}
use Rattle.flood_fill.specs.Receive.{is_marked, missing_in, lowest_in, word_bytes, completed, block_ended, receive}
use Rattle.flood_fill.proofs.ReceiveFlags.{flag-there, take_min}
use Rattle.receiver_bytes.specs.Receiver.{header_in, flags_in, receiver_in, written, Left, receive_bytes}
use Rattle.receiver_bytes.proofs.ReceiverFlags.{length-flags}
use Rattle.receiver_bytes.proofs.ReceiverWords.{length-words}

abbrev pub left : List ℕ → List ℕ → Answer → Left
left s image a = record { bytes = s; image = image; answer = a }

-- ---- the tests of a message
-- as the code makes them, on the header that it read
module _ (s image : List ℕ) (m : Message) {h : Header} {t : Tested} (is : h ≡ header_in s) (e : t ≡ tested h m (length image)) where
  pub when-passed : t ≡ passed → tested (header_in s) m (length image) ≡ passed
  when-passed f = rw is at (sym e ∙ f)

-- an empty mark is one of 256
pub unmarked-below : (s : List ℕ) (w : ℕ) → is_marked (receiver_in s) w ≡ false → w < 256
unfolding receiver_in
unmarked-below s w e =
    let h = flag-there (flags_in (take 256 (drop 264 s))) w e in
    omega (arith, length-flags (take 256 (drop 264 s)), length-take 256 (drop 264 s))

-- ---- the end of a block, of which the first k words have a place
module _ (s image : List ℕ) (b : ℕ) (long : length s ≡ 1544) (e : tested (header_in s) (BlockEnd b) (length image) ≡ passed) where
  all-marks : length (receiver_in s).marks ≡ 256
  unfolding receiver_in
  all-marks = length-flags (take 256 (drop 264 s)) ∙ length-take-le 256 (drop 264 s) (omega (arith, length-drop 264 s))

  all_words : length (receiver_in s).words ≡ 256
  unfolding receiver_in
  all_words = length-words 256 s 520

  module _ (k : ℕ) (is : k ≡ min (open_size (header_in s).opened) 256) where
    first_marks : take k (receiver_in s).marks ≡ take (open_size (header_in s).opened) (receiver_in s).marks
    first_marks = rw is (take_min (open_size (header_in s).opened) (receiver_in s).marks all-marks)

    first-words : take k (receiver_in s).words ≡ take (open_size (header_in s).opened) (receiver_in s).words
    first-words = rw is (take_min (open_size (header_in s).opened) (receiver_in s).words all_words)

    pub end-missing : ltb 0 (missing_in (take k (receiver_in s).marks)) ≡ true
        → receive_bytes s image (BlockEnd b)
        ≡ left s image (missing (missing_in (take k (receiver_in s).marks)) (lowest_in (take k (receiver_in s).marks)))
    unfolding receive_bytes receive receiver_in block_ended
    end-missing d = rw first_marks (rw (e, rw first_marks at d))

    pub end-done : ltb 0 (missing_in (take k (receiver_in s).marks)) ≡ false
        → receive_bytes s image (BlockEnd b)
        ≡ left (written s (BlockEnd b)) (store_if_fits image (4 * (b * (header_in s).size)) (word_bytes (take k (receiver_in s).words))) done
    unfolding receive_bytes receive receiver_in block_ended completed
    end-done d = rw first-words (rw (e, rw first_marks at d))
