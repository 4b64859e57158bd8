-- What a list of data leaves that are not refused, word by word.
use Rattle.std.specs.Prelude.{◌≡◌, refl, Bool, true, false, not, ◌&&◌, ◌||◌, List, [], ◌∷◌, ℕ, ◌<◌, ltb, eqb, length, get_or, if◌then◌else◌}
use Rattle.std.proofs.Common.{ap, sym, ◌∙◌, arith, length-set, ext_get_or, eqb-true, ltb-true}
use Rattle.words.specs.Choice.{All}
use Rattle.flood_fill.specs.declared.message.Message.{Message}
use Rattle.flood_fill.specs.declared.message.Message.TheVariants.{Start, BlockStart, BlockData, BlockEnd}
use Rattle.flood_fill.specs.declared.header.Header.{Header}
use Rattle.flood_fill.specs.Refusals.{opened_block}
use Rattle.flood_fill.specs.declared.receiver.Receiver.{Receiver}
use Rattle.flood_fill.specs.Receive.{receive}
use Rattle.flood_fill_series.specs.Claims.{Call, after, answers, messages_of, NotRefused, Image, block_of, DataOf, is_word, came}
use Rattle.flood_fill_series.proofs.Proved.Noted.{noted, message-noted, either-noted, or-false, no-else, note-mark, note-word}

unfoldable pub noted_all : Receiver → List Message → Receiver
noted_all r [] = r
noted_all r (m ∷ ms) = noted_all (noted r m) ms

pub calls-noted : (i : Image) (r : Receiver) (cs : List Call) → All (DataOf i) (messages_of cs) → All NotRefused (answers receive r cs)
    → after receive r cs ≡ noted_all r (messages_of cs)
unfolding messages_of answers after noted_all
calls-noted i r [] d a = refl
calls-noted i r (c ∷ cs) d a =
    calls-noted i (receive r c.image c.message).receiver cs d.1 a.1
    ∙ ap (λ (x : Receiver). noted_all x (messages_of cs)) (message-noted i r c.image c.message d.0 a.0)

-- ---- the words of the open block
-- what data of one image leave, x, where block b of size n was open in r
pub record Filled (i : Image) (b n : ℕ) (ms : List Message) (r x : Receiver) : Type 0 where
  pub header : x.header ≡ r.header
  pub done : x.done ≡ r.done
  pub marks-length : length x.marks ≡ length r.marks
  pub words-length : length x.words ≡ length r.words
  -- a mark is set where it was, and where the word came
  pub mark : (j : ℕ) → get_or x.marks j true ≡ get_or r.marks j true || (came b j ms && ltb j n)
  -- the word is new only where it came to an empty mark
  pub word : (j : ℕ) → j < length r.words → get_or x.words j 0
      ≡ (if not (get_or r.marks j true) && (came b j ms && ltb j n) then get_or (block_of i b) j 0 else get_or r.words j 0)

-- the value is the image's
value_of : (i : Image) (b k j w v u : ℕ) (t l : Bool) → v ≡ get_or (block_of i k) w 0
    → (if t && ((eqb b k && eqb j w) && l) then v else u) ≡ (if t && ((eqb b k && eqb j w) && l) then get_or (block_of i b) j 0 else u)
value_of i b k j w v u t l e = go (eqb b k) refl (eqb j w) refl t l
  where
    go : (x : Bool) → eqb b k ≡ x → (y : Bool) → eqb j w ≡ y → (t l : Bool)
        → (if t && ((x && y) && l) then v else u) ≡ (if t && ((x && y) && l) then get_or (block_of i b) j 0 else u)
    go true p true q true true = e ∙ rw (eqb-true b k p, eqb-true j w q)
    go true p true q true false = refl
    go true p true q false l = refl
    go true p false q true l = refl
    go true p false q false l = refl
    go false p y q true l = refl
    go false p y q false l = refl

pub noted_one : (i : Image) (b n : ℕ) (r : Receiver) (m : Message) → r.header.opened ≡ opened_block b n → DataOf i m
    → Filled i b n (m ∷ []) r (noted r m)
unfolding came
noted_one i b n r (Start last k) o d = absurd d
noted_one i b n r (BlockStart k l) o d = absurd d
noted_one i b n r (BlockEnd k) o d = absurd d
noted_one i b n r (BlockData k w v) o d =
    record {
      header = either-noted (λ x. x.header ≡ r.header) r k w v refl refl;
      done = either-noted (λ x. x.done ≡ r.done) r k w v refl refl;
      marks-length = either-noted (λ x. length x.marks ≡ length r.marks) r k w v (length-set r.marks w true) refl;
      words-length = either-noted (λ x. length x.words ≡ length r.words) r k w v (length-set r.words w v) refl;
      mark = λ j. rw (or-false (eqb b k && eqb j w)) (note-mark r b n o k w v j);
      word = λ j h.
          rw (or-false (eqb b k && eqb j w))
          (note-word r b n o k w v j h ∙ value_of i b k j w v (get_or r.words j 0) (not (get_or r.marks j true)) (ltb j n) d.1);
    }

-- one word first, and then the others
twice : (m x c l : Bool) → (m || (x && l) || (c && l)) ≡ m || ((x || c) && l)
twice true x c l = refl
twice false true c true = refl
twice false true true false = refl
twice false true false false = refl
twice false false c l = refl

twice_word : (m x c l : Bool) (f u : ℕ)
    → (if not (m || (x && l)) && (c && l) then f else if not m && (x && l) then f else u) ≡ (if not m && ((x || c) && l) then f else u)
twice_word true x c l f u = refl
twice_word false true c true f u = refl
twice_word false true true false f u = refl
twice_word false true false false f u = refl
twice_word false false true true f u = refl
twice_word false false true false f u = refl
twice_word false false false l f u = refl

pub noted-all : (i : Image) (b n : ℕ) (r : Receiver) (ms : List Message) → r.header.opened ≡ opened_block b n → All (DataOf i) ms
    → Filled i b n ms r (noted_all r ms)
unfolding came noted_all
noted-all i b n r [] o d =
    record {
      header = refl;
      done = refl;
      marks-length = refl;
      words-length = refl;
      mark = λ j. sym (or-false (get_or r.marks j true));
      word = λ j h. sym (no-else (not (get_or r.marks j true)) (get_or (block_of i b) j 0) (get_or r.words j 0));
    }
noted-all i b n r (m ∷ ms) o d =
    let p = noted_one i b n r m o d.0 in
    let q = noted-all i b n (noted r m) ms (ap (λ (h : Header). h.opened) p.header ∙ o) d.1 in
    record {
      header = q.header ∙ p.header;
      done = q.done ∙ p.done;
      marks-length = q.marks-length ∙ p.marks-length;
      words-length = q.words-length ∙ p.words-length;
      mark = λ j.
          q.mark j ∙ rw (p.mark j, or-false (is_word b j m)) (twice (get_or r.marks j true) (is_word b j m) (came b j ms) (ltb j n));
      word = λ j h.
          let g : j < length (noted r m).words = omega (arith, p.words-length) in
          q.word j g
          ∙ rw (p.word j h, p.mark j, or-false (is_word b j m))
          (twice_word (get_or r.marks j true) (is_word b j m) (came b j ms) (ltb j n) (get_or (block_of i b) j 0) (get_or r.words j 0));
    }

-- two such states with the same words
pub filled-same : (i : Image) (b n : ℕ) (xs ys : List Message) (r x y : Receiver) → Filled i b n xs r x → Filled i b n ys r y
    → ((w : ℕ) → w < n → came b w xs ≡ came b w ys) → x ≡ y
filled-same i b n xs ys r x y p q same =
    let m : x.marks ≡ y.marks =
    ext_get_or true x.marks y.marks (p.marks-length ∙ sym q.marks-length)
    (λ j h. p.mark j ∙ rw (both j) (sym (q.mark j)))
    in
    let w : x.words ≡ y.words =
    ext_get_or 0 x.words y.words (p.words-length ∙ sym q.words-length)
    (λ j h. let g : j < length r.words = omega (arith, p.words-length) in p.word j g ∙ rw (both j) (sym (q.word j g)))
    in
    alike (p.header ∙ sym q.header) (p.done ∙ sym q.done) m w
  where
    below : (j : ℕ) (t : Bool) → ltb j n ≡ t → (came b j xs && t) ≡ (came b j ys && t)
    below j true e = rw (same j (ltb-true j n e))
    below j false e = none (came b j xs) ∙ sym (none (came b j ys))
      where
        none : (c : Bool) → (c && false) ≡ false
        none true = refl
        none false = refl

    both : (j : ℕ) → (came b j xs && ltb j n) ≡ (came b j ys && ltb j n)
    both j = below j (ltb j n) refl

    alike : x.header ≡ y.header → x.done ≡ y.done → x.marks ≡ y.marks → x.words ≡ y.words → x ≡ y
    alike h d m w =
        let made : Header → List Bool → List Bool → List ℕ → Receiver = λ h d m w. record { header = h; done = d; marks = m; words = w } in
        let z : made x.header x.done x.marks x.words ≡ made y.header y.done y.marks y.words = rw (h, d, m, w) in
        z
