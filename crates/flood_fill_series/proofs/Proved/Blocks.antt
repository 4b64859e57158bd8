-- One block: the first two claims.
use Rattle.std.specs.Prelude.{◌≡◌, refl, Bool, true, false, ◌&&◌, ◌||◌, List, [], ◌∷◌, ℕ, zero, suc, ◌≤◌, ◌<◌, eqb, length, take, get_or}
use Rattle.std.proofs.Common.{ap, sym, ◌∙◌, arith, length-take-le, get_or-take, ext_get_or, lt-ltb, eqb-true}
use Rattle.std.proofs.lemmas.List.{get_or-replicate}
use Rattle.words.specs.Choice.{All}
use Rattle.words.proofs.ChoiceLaws.{true-is-false, both}
use Rattle.flood_fill.specs.declared.message.Message.{Message}
use Rattle.flood_fill.specs.declared.message.Message.TheVariants.{Start, BlockStart, BlockData, BlockEnd}
use Rattle.flood_fill.specs.declared.header.Header.{Header}
use Rattle.flood_fill.specs.declared.receiver.Receiver.{Receiver}
use Rattle.flood_fill.specs.Refusals.{open_size, opened_block}
use Rattle.flood_fill.specs.Answer.{done}
use Rattle.flood_fill.specs.Receive.{Result, empty, is_done, missing_in, opening, receive}
use Rattle.flood_fill_series.specs.Claims.{Call, after, messages_of, Image, block_of, DataOf, came, EveryWord, OnlyData, OrderFree, Completes}
use Rattle.flood_fill_series.proofs.Proved.Ends.{size_now, missing_now, Ends, refuses, misses, finishes, ends}
use Rattle.flood_fill_series.proofs.Proved.Accepted.{accepted-opens, undone-opens, whole-done}
use Rattle.flood_fill_series.proofs.Proved.Noted.{set-marked}
use Rattle.flood_fill_series.proofs.Proved.Filled.{calls-noted, Filled, noted-all, filled-same}
use Rattle.flood_fill_series.proofs.Proved.Sound.{Sound, sound-ends, sound-after, always-sound, done-stores}

-- ---- marks
-- none is missing where all are set, and all are set where none is missing
all-marked : (ms : List Bool) (n : ℕ) → ((j : ℕ) → j < n → get_or ms j true ≡ true) → missing_in (take n ms) ≡ 0
unfolding missing_in
all-marked ms zero h = refl
all-marked [] (suc n) h = refl
all-marked (m ∷ ms) (suc n) h = go m (h 0 (omega arith)) (all-marked ms n (λ j g. h (suc j) (omega arith)))
  where
    go : (m : Bool) → m ≡ true → missing_in (take n ms) ≡ 0 → missing_in (m ∷ take n ms) ≡ 0
    go true e z = z
    go false e z = true-is-false (sym e)

pub marked_all : (ms : List Bool) (n j : ℕ) → missing_in (take n ms) ≡ 0 → j < n → get_or ms j true ≡ true
unfolding missing_in
marked_all ms zero j e h = absurd (omega arith)
marked_all [] (suc n) j e h = refl
marked_all (true ∷ ms) (suc n) zero e h = refl
marked_all (true ∷ ms) (suc n) (suc j) e h = marked_all ms n j e (omega arith)
marked_all (false ∷ ms) (suc n) j e h = absurd (omega arith)

-- ---- words that came
-- they are the image's
came-inside : (i : Image) (b w : ℕ) (ms : List Message) → All (DataOf i) ms → came b w ms ≡ true → w < length (block_of i b)
unfolding came
came-inside i b w [] d e = true-is-false (sym e)
came-inside i b w (Start last n ∷ ms) d e = absurd d.0
came-inside i b w (BlockStart k n ∷ ms) d e = absurd d.0
came-inside i b w (BlockEnd k ∷ ms) d e = absurd d.0
came-inside i b w (BlockData k j v ∷ ms) d e = go (eqb b k && eqb w j) refl e (came-inside i b w ms d.1)
  where
    go : (t : Bool) → (eqb b k && eqb w j) ≡ t → (t || came b w ms) ≡ true → (came b w ms ≡ true → w < length (block_of i b))
        → w < length (block_of i b)
    go true p q later = let z = both (eqb b k) (eqb w j) p in rw (eqb-true b k z.0, eqb-true w j z.1) d.0.0
    go false p q later = later q

every-inside : (i : Image) (b n : ℕ) (ms : List Message) → All (DataOf i) ms → EveryWord b n ms → n ≤ length (block_of i b)
every-inside i b zero ms d h = omega arith
every-inside i b (suc n) ms d h = came-inside i b n ms d (h n (omega arith))

-- ---- the block that is open, with its data
module _ (i : Image) (b n : ℕ) (ms : List Message) (r x : Receiver) (f : Filled i b n ms (opening r b n) x) where
  pub filled-open : x.header.opened ≡ opened_block b n
  filled-open = ap (λ (h : Header). h.opened) f.header

  filled-size : size_now x ≡ n
  filled-size = ap open_size filled-open

  pub filled-whole : EveryWord b n ms → missing_now x ≡ 0
  filled-whole h =
      rw filled-size
      (all-marked x.marks n (λ j g. f.mark j ∙ rw (h j g, lt-ltb j n g) (or-true (get_or (opening r b n).marks j true))))
    where
      or-true : (t : Bool) → (t || true) ≡ true
      or-true true = refl
      or-true false = refl

  filled-words : EveryWord b n ms → All (DataOf i) ms → n ≤ 256 → length r.words ≡ 256 → take n x.words ≡ take n (block_of i b)
  filled-words h d small l =
      let p : length (take n x.words) ≡ n = length-take-le n x.words (omega (arith, f.words-length)) in
      let q : length (take n (block_of i b)) ≡ n = length-take-le n (block_of i b) (every-inside i b n ms d h) in
      ext_get_or 0 (take n x.words) (take n (block_of i b)) (p ∙ sym q)
      (λ j g.
      let k : j < n = omega arith in
      get_or-take n x.words j 0 k
      ∙ f.word j (omega arith)
      ∙ rw (get_or-replicate 256 j false true (omega arith), h j k, lt-ltb j n k) (sym (get_or-take n (block_of i b) j 0 k)))

-- the data since the Block Start
filled-since : (i : Image) (b n : ℕ) (r s : Receiver) (xs : List Call) → s ≡ opening r b n → OnlyData receive i s xs
    → Filled i b n (messages_of xs) (opening r b n) (after receive s xs)
filled-since i b n r s xs e d =
    rw (calls-noted i s xs d.of_image d.not-refused, e) (noted-all i b n (opening r b n) (messages_of xs) refl d.of_image)

-- ---- the claims
pub order-free : OrderFree receive
order-free i earlier image b n xs ys t p q same =
    let r = after receive empty earlier in
    let e = accepted-opens r image b n (receive r image (BlockStart b n)) (ends r image (BlockStart b n)) t in
    filled-same i b n (messages_of xs) (messages_of ys) (opening r b n) _ _ (filled-since i b n r _ xs e p) (filled-since i b n r _ ys e q) same

-- a block is done once it is answered so
pub done-done : (r : Receiver) (image : List ℕ) (b : ℕ) (x : Result) → Ends r image (BlockEnd b) x → x.answer ≡ done → is_done x.receiver b ≡ true
done-done r image b x (refuses _ k) a = let z : ◌≡◌ {A = ℕ} 0 1 = cc in absurd (omega arith)
done-done r image b x (misses _ k h) a = let z : ◌≡◌ {A = ℕ} 0 1 = cc in absurd (omega arith)
done-done r image b x (finishes _ l o h) a = set-marked r.done b

pub completes : Completes receive
completes i earlier image b n xs lent d a p whole z =
    let r = after receive empty earlier in
    let s = (receive r image (BlockStart b n)).receiver in
    let y = after receive s xs in
    let x = receive y lent (BlockEnd b) in
    let e = undone-opens r image b n (receive r image (BlockStart b n)) (ends r image (BlockStart b n)) d a in
    let f = filled-since i b n r s xs e p in
    let answer = whole-done y lent b x (ends y lent (BlockEnd b)) (filled-whole i b n (messages_of xs) r y f whole) z in
    let u : Sound y = sound-after s xs (sound-ends r image (BlockStart b n) _ (ends r image (BlockStart b n)) (always-sound earlier)) in
    let t = done-stores y lent b u x (ends y lent (BlockEnd b)) answer in
    let o = filled-open i b n (messages_of xs) r y f in
    let size : y.header.size ≡ r.header.size = ap (λ (h : Header). h.size) f.header in
    let small : n ≤ 256 = omega (arith, u.block_size b n o, u.size-high) in
    let words = filled-words i b n (messages_of xs) r y f whole p.of_image small (always-sound earlier).words-length in
    record {
      answered = answer;
      is-done = done-done y lent b x (ends y lent (BlockEnd b)) answer;
      room = rw (size, ap open_size o) at t.room;
      stored = t.stored ∙ rw (size, ap open_size o, words);
    }
