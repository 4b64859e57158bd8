-- What holds of every receiver that calls left from an empty one, and so of the words of a completed block.
use Rattle.std.specs.Prelude.{◌≡◌, true, List, [], ◌∷◌, ℕ, suc, ◌+◌, ◌*◌, ◌≤◌, ◌<◌, length, take}
use Rattle.std.proofs.Common.{ap, ◌∙◌, mul-le-mul_right, arith, length-take, length-set}
use Rattle.std.proofs.lemmas.List.{length-replicate}
use Rattle.words.specs.Store.{store}
use Rattle.words.proofs.StoreLaws.{store-fits}
use Rattle.flood_fill.specs.declared.message.Message.{Message}
use Rattle.flood_fill.specs.declared.message.Message.TheVariants.{BlockEnd}
use Rattle.flood_fill.specs.declared.receiver.Receiver.{Receiver}
use Rattle.flood_fill.specs.Refusals.{is_open, opened_block, open_size}
use Rattle.flood_fill.specs.Answer.{done}
use Rattle.flood_fill.specs.Receive.{Result, afresh, empty, word_bytes, receive}
use Rattle.flood_fill.proofs.ReceiveLaws.{length_word_bytes}
use Rattle.flood_fill_series.specs.Claims.{Call, after}
use Rattle.flood_fill_series.proofs.Proved.Ends.{open_id, the_open, size_now, stored_at, Ends, refuses, begins, skips, opens, keeps, drops, misses, finishes, ends}

pub record Sound (r : Receiver) : Type 0 where
  pub words-length : length r.words ≡ 256
  pub size-high : r.header.size ≤ 256
  -- the open block is one of the declared ones, and no longer than a full one
  pub block_inside : (b n : ℕ) → r.header.opened ≡ opened_block b n → b < r.header.count
  pub block_size : (b n : ℕ) → r.header.opened ≡ opened_block b n → n ≤ r.header.size

pub afresh-sound : (count n : ℕ) → n ≤ 256 → Sound (afresh count n)
afresh-sound count n h =
    record {
      words-length = length-replicate {A = ℕ} 256 0;
      size-high = h;
      block_inside = λ b k o. let z : ◌≡◌ {A = ℕ} 0 1 = cc in absurd (omega arith);
      block_size = λ b k o. let z : ◌≡◌ {A = ℕ} 0 1 = cc in absurd (omega arith);
    }

pub sound-ends : (r : Receiver) (image : List ℕ) (m : Message) (x : Result) → Ends r image m x → Sound r → Sound x.receiver
sound-ends r image m x (refuses _ k) s = s
sound-ends r image m x (begins last n h l) s = afresh-sound (suc last) n l.size-high
sound-ends r image m x (skips b n d) s = s
sound-ends r image m x (opens b n d l h) s =
    record {
      words-length = s.words-length;
      size-high = s.size-high;
      block_inside = λ c k o. let p : b ≡ c = ap open_id o in omega arith;
      block_size = λ c k o. let p : n ≡ k = ap open_size o in omega arith;
    }
sound-ends r image m x (keeps b w v e) s =
    record {
      words-length = length-set r.words w v ∙ s.words-length;
      size-high = s.size-high;
      block_inside = s.block_inside;
      block_size = s.block_size;
    }
sound-ends r image m x (drops b w v e) s = s
sound-ends r image m x (misses b l h) s = s
sound-ends r image m x (finishes b l o h) s =
    record {
      words-length = s.words-length;
      size-high = s.size-high;
      block_inside = λ c k o. let z : ◌≡◌ {A = ℕ} 0 1 = cc in absurd (omega arith);
      block_size = λ c k o. let z : ◌≡◌ {A = ℕ} 0 1 = cc in absurd (omega arith);
    }

-- ---- from an empty receiver
pub sound-after : (r : Receiver) (cs : List Call) → Sound r → Sound (after receive r cs)
unfolding after
sound-after r [] s = s
sound-after r (c ∷ cs) s =
    sound-after (receive r c.image c.message).receiver cs (sound-ends r c.image c.message _ (ends r c.image c.message) s)

pub always-sound : (earlier : List Call) → Sound (after receive empty earlier)
always-sound earlier = sound-after empty earlier (afresh-sound 0 0 (omega arith))

-- ---- the words of a completed block
-- block b's Block End leaves this image
pub record WordsStored (r : Receiver) (image : List ℕ) (b : ℕ) (left : List ℕ) : Type 0 where
  pub room : 4 * (b * r.header.size) + 4 * size_now r ≤ length image
  pub words : size_now r ≤ length r.words
  pub stored : left ≡ store image (4 * (b * r.header.size)) (word_bytes (take (size_now r) r.words))

module _ (r : Receiver) (image : List ℕ) (b : ℕ) (s : Sound r) where
  pub words-stored : 4 * (r.header.count * r.header.size) ≤ length image → is_open r.header.opened b ≡ true
      → WordsStored r image b (stored_at r image b)
  words-stored l o =
      let n = size_now r in
      let p = the_open r.header.opened b o in
      let h = s.block_inside b n p in
      let k = s.block_size b n p in
      let m = mul-le-mul_right {m = suc b} {n = r.header.count} r.header.size h in
      record {
        room = omega arith;
        words = omega (arith, s.words-length, s.size-high);
        stored =
            store-fits image (4 * (b * r.header.size)) (word_bytes (take n r.words))
            (omega (arith, length_word_bytes (take n r.words), length-take n r.words));
      }

  pub done-stores : (x : Result) → Ends r image (BlockEnd b) x → x.answer ≡ done → WordsStored r image b x.image
  done-stores x (refuses _ k) a = let z : ◌≡◌ {A = ℕ} 0 1 = cc in absurd (omega arith)
  done-stores x (misses _ k h) a = let z : ◌≡◌ {A = ℕ} 0 1 = cc in absurd (omega arith)
  done-stores x (finishes _ l o h) a = words-stored l o
