-- What holds from a Start on, as long as all messages are one image's: the receiver and the lent image agree with it.
use Rattle.std.specs.Prelude.{◌≡◌, refl, Bool, true, false, not, ◌&&◌, List, ℕ, suc, ◌+◌, ◌*◌, ◌≤◌, ◌<◌, leb, ltb, eqb, length, take, drop, get_or, set}
use Rattle.std.proofs.Common.{sym, ◌∙◌, add-zero, mul-le-mul_right, arith, length-take-le, get_or-take, get_or-set_same, get_or-set_other, ext_get_or, leb-true, leb-false, eqb-true}
use Rattle.std.proofs.lemmas.List.{get_or-replicate}
use Rattle.std.proofs.Math.Seq.{take-length}
use Rattle.std.proofs.lemmas.Bool.{eqb-false}
use Rattle.words.proofs.ChoiceLaws.{true-is-false, both}
use Rattle.words.specs.Store.{store}
use Rattle.words.proofs.StoreLaws.{part-inside, part-outside}
use Rattle.flood_fill.specs.declared.receiver.Receiver.{Receiver}
use Rattle.flood_fill.specs.Refusals.{is_open, opened_block}
use Rattle.flood_fill.specs.Receive.{afresh, is_done, is_marked, word_bytes, keeping}
use Rattle.flood_fill.proofs.ReceiveLaws.{length_word_bytes}
use Rattle.flood_fill_series.specs.Claims.{Held, Image, block_of}
use Rattle.flood_fill_series.proofs.Proved.Ends.{the_open, size_now, missing_now, wanted, stored_at}
use Rattle.flood_fill_series.proofs.Proved.Sound.{Sound, afresh-sound, words-stored}
use Rattle.flood_fill_series.proofs.Proved.Blocks.{marked_all}
use Rattle.flood_fill_series.proofs.Proved.Places.{Blocks, bytes_of, place_of, Stands, block-length, blocks-apart}

-- the marked words of the open block are the image's
pub record OpenAgrees (i : Image) (r : Receiver) (b n : ℕ) : Type 0 where
  pub size : n ≡ length (block_of i b)
  pub words : (w : ℕ) → w < n → is_marked r w ≡ true → get_or r.words w 0 ≡ get_or (block_of i b) w 0

-- m₀ is what the lent image held at the Start
pub record Agrees (i : Image) (last : ℕ) (m₀ : List ℕ) (h : Held) : Type 0 where
  pub sound : Sound h.receiver
  pub count : h.receiver.header.count ≡ suc last
  pub size : h.receiver.header.size ≡ i.size
  pub open-agrees : (b n : ℕ) → h.receiver.header.opened ≡ opened_block b n → OpenAgrees i h.receiver b n
  -- done blocks stand in the lent image, which is as it was behind the last
  pub done-agrees : (b : ℕ) → b ≤ last → is_done h.receiver b ≡ true → Stands i b h.image
  pub image-length : length h.image ≡ length m₀
  pub rest : drop (length (word_bytes i.words)) h.image ≡ drop (length (word_bytes i.words)) m₀

-- a Start of the image declares the same blocks each time
pub same-last : (a b s l : ℕ) → a * s < l → l ≤ suc a * s → b * s < l → l ≤ suc b * s → a ≡ b
same-last a b s l p q u v = go (leb a b) refl (leb b a) refl
  where
    go : (x : Bool) → leb a b ≡ x → (y : Bool) → leb b a ≡ y → a ≡ b
    go true d true e = omega (arith, leb-true a b d, leb-true b a e)
    go false d y e = let m = mul-le-mul_right {m = suc b} {n = a} s (leb-false a b d) in absurd (omega arith)
    go true d false e = let m = mul-le-mul_right {m = suc a} {n = b} s (leb-false b a e) in absurd (omega arith)

module _ (i : Image) (last : ℕ) (f : Blocks i last) (m₀ : List ℕ) where
  -- ---- Start
  pub begun : (image : List ℕ) → length image ≡ length m₀ → drop (length (word_bytes i.words)) image ≡ drop (length (word_bytes i.words)) m₀
      → (n : ℕ) → n ≡ i.size → Agrees i last m₀ (record { receiver = afresh (suc last) n; image = image })
  begun image l q n e =
      record {
        sound = afresh-sound (suc last) n (omega (arith, f.size-high));
        count = refl;
        size = e;
        open-agrees = λ b n o. let z : ◌≡◌ {A = ℕ} 0 1 = cc in absurd (omega arith);
        done-agrees = λ b l t. true-is-false (sym t ∙ get_or-replicate 256 b false true (omega (arith, f.count-high)));
        image-length = l;
        rest = q;
      }

  -- ---- a word is kept
  pub keeps-word : (r : Receiver) (b w v c n : ℕ) → r.header.opened ≡ opened_block c n → wanted r b w ≡ true → v ≡ get_or (block_of i b) w 0
      → length r.words ≡ 256 → OpenAgrees i r c n → OpenAgrees i (keeping r w v) c n
  keeps-word r b w v c n o e value l a = record { size = a.size; words = λ j h t. go j h t (eqb j w) refl }
    where
      same : b ≡ c
      same =
          let p = (both (is_open r.header.opened b && ltb w (size_now r)) (not (is_marked r w)) e).0 in
          let q : is_open (opened_block c n) b ≡ true = rw o at (both (is_open r.header.opened b) (ltb w (size_now r)) p).0 in
          sym (eqb-true c b q)

      go : (j : ℕ) → j < n → is_marked (keeping r w v) j ≡ true → (t : Bool) → eqb j w ≡ t → get_or (set r.words w v) j 0 ≡ get_or (block_of i c) j 0
      go j h m true t =
          let z = eqb-true j w t in
          rw z (get_or-set_same r.words w v 0 (omega (arith, a.size, block-length i last f c, f.size-high)) ∙ value ∙ rw same)
      go j h m false t =
          let z = eqb-false j w t in
          get_or-set_other r.words w j v 0 z ∙ a.words j h (sym (get_or-set_other r.marks w j true true z) ∙ m)

  -- ---- a block is completed
  module _ (h : Held) (a : Agrees i last m₀ h) (b : ℕ) (room : 4 * (h.receiver.header.count * h.receiver.header.size) ≤ length h.image)
      (is_open_lem : is_open h.receiver.header.opened b ≡ true) (none : missing_now h.receiver ≡ 0) where
    pub inside : b ≤ last
    inside = omega (arith, a.count, a.sound.block_inside b (size_now h.receiver) (the_open h.receiver.header.opened b is_open_lem))

    its-size : size_now h.receiver ≡ length (block_of i b)
    its-size = (a.open-agrees b (size_now h.receiver) (the_open h.receiver.header.opened b is_open_lem)).size

    its-words : take (size_now h.receiver) h.receiver.words ≡ block_of i b
    its-words =
        let r = h.receiver in
        let n = size_now r in
        let o = a.open-agrees b n (the_open r.header.opened b is_open_lem) in
        let l : length (take n r.words) ≡ n =
        length-take-le n r.words (omega (arith, a.sound.words-length, its-size, block-length i last f b, f.size-high))
        in
        ext_get_or 0 (take n r.words) (block_of i b) (l ∙ its-size)
        (λ j g. let m : j < n = omega (arith, l) in get_or-take n r.words j 0 m ∙ o.words j m (marked_all r.marks n j none m))

    pub stored : stored_at h.receiver h.image b ≡ store h.image (place_of i b) (bytes_of i b)
    stored = (words-stored h.receiver h.image b a.sound room is_open_lem).stored ∙ rw (a.size, its-words)

    pub fits : place_of i b + length (bytes_of i b) ≤ length h.image
    fits =
        let e : place_of i b + 4 * size_now h.receiver ≤ length h.image =
        rw a.size at (words-stored h.receiver h.image b a.sound room is_open_lem).room
        in
        omega (arith, its-size, length_word_bytes (block_of i b))

    -- it stands then, and so does each block that stood
    stands_self : Stands i b (stored_at h.receiver h.image b)
    stands_self =
        rw stored
        (rw (add-zero (place_of i b)) at (part-inside h.image (place_of i b) (bytes_of i b) fits 0 (length (bytes_of i b)) (omega arith))
        ∙ take-length (bytes_of i b))

    pub stands-still : (c : ℕ) → Stands i c h.image → Stands i c (stored_at h.receiver h.image b)
    stands-still c s = go (eqb c b) refl
      where
        go : (t : Bool) → eqb c b ≡ t → Stands i c (stored_at h.receiver h.image b)
        go true e = rw (eqb-true c b e) stands_self
        go false e =
            rw stored
            (part-outside h.image (place_of i b) (bytes_of i b) fits (place_of i c) (length (bytes_of i c)) (blocks-apart i last f c b (eqb-false c b e))
            ∙ s)

    pub done-stands : (c : ℕ) → c ≤ last → get_or (set h.receiver.done b true) c true ≡ true → Stands i c (stored_at h.receiver h.image b)
    done-stands c l d = go (eqb c b) refl
      where
        go : (t : Bool) → eqb c b ≡ t → Stands i c (stored_at h.receiver h.image b)
        go true e = rw (eqb-true c b e) stands_self
        go false e = stands-still c (a.done-agrees c l (sym (get_or-set_other h.receiver.done b c true true (eqb-false c b e)) ∙ d))
