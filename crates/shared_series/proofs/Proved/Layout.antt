-- The image that keeps one copy of equal data is laid out as is claimed, and no other image of the same pieces is.
use Rattle.std.specs.Prelude.{◌≡◌, Bool, true, false, take, if◌then◌else◌}
use Rattle.std.proofs.Math.Path.{refl, ap, sym, subst}
use Rattle.std.proofs.Common.{◌∙◌, take-append-drop, drop-drop}
use mathlib.Core.List.{List, [], ◌∷◌, ◌++◌, append_assoc, append-nil}
use Prim.Native.Nat.{ℕ, suc, ◌+◌, ◌*◌, ◌≤◌}
use native.Mathlib.Omega.{arith}
use Rattle.std.proofs.Math.ListN.{length, drop, length-append}
use Rattle.std.proofs.Math.Seq.{take_at, drop_at, drop-length}
use Rattle.std.proofs.lemmas.List.{drop-append-le}
use Rattle.words.specs.Choice.{All}
use Rattle.words.proofs.ChoiceLaws.{true-is-false}
use Rattle.words.specs.Equal.{same}
use Rattle.words.proofs.EqualLaws.{same-equal, equal-same}
use Rattle.words.specs.Four.{four_bytes}
use Rattle.words.proofs.FourLaws.{length-four_bytes}
use Rattle.plan.specs.Plan.{Piece, put, fill, run}
use Rattle.aplx_pack.specs.Image.{entry_of}
use Rattle.aplx_pack.proofs.ImageLaws.{length-entry_of}
use Rattle.aplx_share.specs.Contents.{contents, is_among, kept_contents, joined, total_length, place}
use Rattle.aplx_share.proofs.ContentsLaws.{none-among}
use Rattle.aplx_share.proofs.ContentsSteps.{contents-append, among-append}
use Rattle.aplx_share.specs.SharedImage.{place_of, shared_entries, shared_image}
use Rattle.aplx_share.proofs.SharedImageLaws.{length-shared_entries, drop-shared_entries, at_piece, earliest-copy}
use Rattle.shared_series.specs.Layout.{entry_at, Layout}

-- ---- the image is laid out so
module _ (ps : List Piece) where
  entry-is : (earlier : List Piece) (p : Piece) (later : List Piece) → ps ≡ earlier ++ p ∷ later
      → entry_at (shared_image ps) (length earlier) ≡ entry_of p (16 * suc (suc (length later)) + place_of (kept_contents ps) p)
  unfolding shared_entries
  entry-is earlier p later y =
      let kept = kept_contents ps in
      let off = 16 * suc (suc (length later)) + place_of kept p in
      let e : drop (16 * length earlier) (shared_image ps) ≡ shared_entries kept (p ∷ later) ++ joined kept =
      subst (λ (qs : List Piece). drop (16 * length earlier) (shared_image qs) ≡ shared_entries (kept_contents qs) (p ∷ later) ++ joined (kept_contents qs))
      (sym y) (at_piece earlier p later)
      in
      ap (take 16) (e ∙ append_assoc (entry_of p off) (shared_entries kept later) (joined kept))
      ∙ take_at (entry_of p off) (shared_entries kept later ++ joined kept) 16 (length-entry_of p off)

  end_is : entry_at (shared_image ps) (length ps) ≡ four_bytes 0xffffffff 0 0 0
  unfolding shared_image shared_entries
  end_is =
      let kept = kept_contents ps in
      let f : 16 * length ps ≤ length (shared_entries kept ps) = omega (arith, length-shared_entries kept ps) in
      rw (drop-append-le (16 * length ps) (shared_entries kept ps) (joined kept) f, drop-shared_entries kept ps (length ps) (omega arith), drop-length ps)
      (take_at (four_bytes 0xffffffff 0 0 0) (joined kept) 16 (length-four_bytes 0xffffffff 0 0 0))

  copies-are : drop (16 * (length ps + 1)) (shared_image ps) ≡ joined (kept_contents ps)
  unfolding shared_image
  copies-are =
      let kept = kept_contents ps in
      drop_at (shared_entries kept ps) (joined kept) (16 * (length ps + 1)) (omega (arith, length-shared_entries kept ps))

  pub laid_out : Layout ps (shared_image ps)
  unfolding entry_of
  laid_out = record {
    put-entry = λ d before a rest x n earlier b later y.
        let c : place (kept_contents ps) d ≡ total_length (kept_contents before) = rw x (earliest-copy before a d rest (none-among (contents before) d n)) in
        let l : length ps ≡ length earlier + suc (length later) = ap length y ∙ length-append earlier (put b d ∷ later) in
        entry-is earlier (put b d) later y ∙ ap (λ (off : ℕ). four_bytes 2 b off (length d)) (omega (arith, c, l));
    fill-entry = λ earlier a n w later y. entry-is earlier (fill a n w) later y;
    run-entry = λ earlier a later y. entry-is earlier (run a) later y;
    end-entry = end_is;
    copies = copies-are;
  }

-- ---- no other image is
-- the first put with these bytes
record First (ps : List Piece) (d : List ℕ) : Type 0 where
  before : List Piece
  address : ℕ
  rest : List Piece
  is-put : ps ≡ before ++ put address d ∷ rest
  first : All (λ (c : List ℕ). c ≡ d → ⊥) (contents before)

-- it is the first behind a piece that is no such put
behind : (p : Piece) {ps : List Piece} {d : List ℕ} (f : First ps d) → All (λ (c : List ℕ). c ≡ d → ⊥) (contents (p ∷ f.before)) → First (p ∷ ps) d
behind p f n = record { before = p ∷ f.before; address = f.address; rest = f.rest; is-put = ap (λ (l : List Piece). p ∷ l) f.is-put; first = n }

first-put : (ps : List Piece) (d : List ℕ) → is_among (contents ps) d ≡ true → First ps d
unfolding contents is_among
first-put [] d m = true-is-false (sym m)
first-put (put a c ∷ ps) d m = go (same c d) refl m (first-put ps d)
  where
    go : (t : Bool) → same c d ≡ t → (if t then true else is_among (contents ps) d) ≡ true
        → (is_among (contents ps) d ≡ true → First ps d) → First (put a c ∷ ps) d
    go true e m r = record { before = []; address = a; rest = ps; is-put = rw (same-equal c d e); first = tt }
    go false e m r = behind (put a c) (r m) (λ q. true-is-false (sym (rw (← q) (equal-same c)) ∙ e), (r m).first)
first-put (fill a n w ∷ ps) d m = let f = first-put ps d m in behind (fill a n w) f f.first
first-put (run a ∷ ps) d m = let f = first-put ps d m in behind (run a) f f.first

put-among : (earlier : List Piece) (b : ℕ) (d : List ℕ) (later : List Piece) → is_among (contents (earlier ++ put b d ∷ later)) d ≡ true
unfolding contents is_among
put-among earlier b d later =
    rw (contents-append earlier (put b d ∷ later), among-append (contents earlier) (d ∷ contents later) d, equal-same d)
    (go (is_among (contents earlier) d))
  where
    go : (t : Bool) → (if t then true else true) ≡ true
    go true = refl
    go false = refl

module _ (ps : List Piece) (image : List ℕ) (l : Layout ps image) where
  entry-as-laid : (earlier : List Piece) (p : Piece) (later : List Piece) → ps ≡ earlier ++ p ∷ later
      → entry_at image (length earlier) ≡ entry_of p (16 * suc (suc (length later)) + place_of (kept_contents ps) p)
  unfolding entry_of
  entry-as-laid earlier (put b d) later y =
      let f = first-put ps d (rw y (put-among earlier b d later)) in
      let x = f.is-put in
      let n = f.first in
      l.put-entry d f.before f.address f.rest x n earlier b later y
      ∙ sym ((laid_out ps).put-entry d f.before f.address f.rest x n earlier b later y) ∙ entry-is ps earlier (put b d) later y
  entry-as-laid earlier (fill a n w) later y = l.fill-entry earlier a n w later y
  entry-as-laid earlier (run a) later y = l.run-entry earlier a later y

  -- an entry, and what stands behind it
  entry-and-rest : (k : ℕ) → drop k image ≡ take 16 (drop k image) ++ drop (k + 16) image
  entry-and-rest k = sym (take-append-drop 16 (drop k image)) ∙ ap (λ (r : List ℕ). take 16 (drop k image) ++ r) (drop-drop 16 k image)

  rest-as-laid : (earlier later : List Piece) → ps ≡ earlier ++ later
      → drop (16 * length earlier) image ≡ shared_entries (kept_contents ps) later ++ joined (kept_contents ps)
  unfolding shared_entries
  rest-as-laid earlier [] y =
      let e : earlier ≡ ps = sym (y ∙ append-nil earlier) in
      let z : 16 * (length ps + 1) ≡ 16 * length ps + 16 = omega arith in
      rw e (entry-and-rest (16 * length ps) ∙ rw (l.end-entry, ← z, l.copies))
  rest-as-laid earlier (p ∷ later) y =
      let kept = kept_contents ps in
      let off = 16 * suc (suc (length later)) + place_of kept p in
      let z : 16 * length (earlier ++ p ∷ []) ≡ 16 * length earlier + 16 = omega (arith, length-append earlier (p ∷ [])) in
      let r = rest-as-laid (earlier ++ p ∷ []) later (y ∙ sym (append_assoc earlier (p ∷ []) later)) in
      entry-and-rest (16 * length earlier) ∙ rw (entry-as-laid earlier p later y, ← z, r, append_assoc (entry_of p off) (shared_entries kept later) (joined kept))

  pub as-laid : image ≡ shared_image ps
  unfolding shared_image
  as-laid = rest-as-laid [] ps refl
