-- Segments of addresses in which no piece begins or ends: there one source gives every last byte. What the code looks for; not needed for
-- belief.
use Rattle.std.specs.Prelude.{◌≡◌, refl, Bool, true, false, List, [], ◌∷◌, ℕ, suc, ◌+◌, ◌≤◌, ◌<◌, min, ltb, length, drop, if◌then◌else◌}
use Rattle.std.proofs.Common.{ap, sym, ◌∙◌, arith, drop_of_length-le}
use Rattle.std.proofs.Math.Numerals.{add-one}
use borrow.Author.Tests.{ltb-true, ltb-false, lt-ltb, le-ltb}
use Rattle.plan.specs.Plan.{Piece, address_of}
use Rattle.compare.specs.LastByte.{end_of, covers, byte_at, not_stored, after, after_all, last_byte}
use Rattle.compare.specs.LastByte.Laws.{covers_at, covers_below, covers-past, after-covered, after-other}

-- where the last byte comes from
pub data Source : Type 0 where
  nothing : Source
  piece : Piece → Source

-- the byte at address x
abbrev pub source_byte : Source → ℕ → ℕ
source_byte nothing x = not_stored
source_byte (piece p) x = byte_at p x

-- the source at address a, with a piece more
abbrev pub newer : Piece → ℕ → Source → Source
newer p a q = if covers p a then piece p else q

-- the last of the pieces that covers address a, or else q
unfoldable pub covering : List Piece → ℕ → Source → Source
covering [] a q = q
covering (p ∷ ps) a q = covering ps a (newer p a q)

-- the first address above a at which the piece begins or ends, where it is below e; or e
unfoldable pub nearer : Piece → ℕ → ℕ → ℕ
nearer p a e = if ltb a (address_of p) then min e (address_of p) else if ltb a (end_of p) then min e (end_of p) else e

-- at which any piece does
unfoldable pub border : List Piece → ℕ → ℕ → ℕ
border [] a e = e
border (p ∷ ps) a e = border ps a (nearer p a e)

-- ---- one piece
module _ (p : Piece) (a e : ℕ) where
  pub nearer-below : a < address_of p → nearer p a e ≡ min e (address_of p)
  unfolding nearer
  nearer-below h = rw (lt-ltb _ _ h)

  pub nearer-at : address_of p ≤ a → a < end_of p → nearer p a e ≡ min e (end_of p)
  unfolding nearer
  nearer-at h g = rw (le-ltb _ _ h, lt-ltb _ _ g)

  pub nearer-past : address_of p ≤ a → end_of p ≤ a → nearer p a e ≡ e
  unfolding nearer
  nearer-past h g = rw (le-ltb _ _ h, le-ltb _ _ g)

  -- where a stands to the piece
  data Standing : Type 0 where
    before : a < address_of p → Standing
    on : address_of p ≤ a → a < end_of p → Standing
    past : address_of p ≤ a → end_of p ≤ a → Standing

  standing : Standing
  standing = go (ltb a (address_of p)) refl (ltb a (end_of p)) refl
    where
      go : (s : Bool) → ltb a (address_of p) ≡ s → (t : Bool) → ltb a (end_of p) ≡ t → Standing
      go true f t g = before (ltb-true _ _ f)
      go false f true g = on (ltb-false _ _ f) (ltb-true _ _ g)
      go false f false g = past (ltb-false _ _ f) (ltb-false _ _ g)

  nearer-most : nearer p a e ≤ e
  nearer-most = go standing
    where
      go : Standing → nearer p a e ≤ e
      go (before h) = rw (nearer-below h) (omega arith)
      go (on h g) = rw (nearer-at h g) (omega arith)
      go (past h g) = rw (nearer-past h g) (omega arith)

  nearer-above : a < e → a < nearer p a e
  nearer-above k = go standing
    where
      go : Standing → a < nearer p a e
      go (before h) = rw (nearer-below h) (omega arith)
      go (on h g) = rw (nearer-at h g) (omega arith)
      go (past h g) = rw (nearer-past h g) k

  -- up to there the piece covers all addresses, or none
  covers-same : (x : ℕ) → a ≤ x → x < nearer p a e → covers p x ≡ covers p a
  covers-same x k l = go standing
    where
      go : Standing → covers p x ≡ covers p a
      go (before h) = let m = rw (nearer-below h) at l in covers_below p x (omega arith) ∙ sym (covers_below p a h)
      go (on h g) = let m = rw (nearer-at h g) at l in covers_at p x (omega arith) (omega arith) ∙ sym (covers_at p a h g)
      go (past h g) = covers-past p x (omega arith) ∙ sym (covers-past p a g)

-- ---- all pieces
pub border-most : (ps : List Piece) (a e : ℕ) → border ps a e ≤ e
unfolding border
border-most [] a e = omega arith
border-most (p ∷ ps) a e = omega (arith, border-most ps a (nearer p a e), nearer-most p a e)

pub border-above : (ps : List Piece) (a e : ℕ) → a < e → a < border ps a e
unfolding border
border-above [] a e h = h
border-above (p ∷ ps) a e h = border-above ps a (nearer p a e) (nearer-above p a e h)

-- from a on and below the border the last byte is that of the source at a
segment : (ps : List Piece) (q : Source) (a e x : ℕ) → a ≤ x → x < border ps a e → after_all ps x (source_byte q x) ≡ source_byte (covering ps a q) x
unfolding after_all covering border
segment [] q a e x h g = refl
segment (p ∷ ps) q a e x h g = go (covers p a) refl (λ r. segment ps r a (nearer p a e) x h g)
  where
    same : covers p x ≡ covers p a
    same = covers-same p a e x h (omega (arith, g, border-most ps a (nearer p a e)))

    go : (t : Bool) → covers p a ≡ t → ((r : Source) → after_all ps x (source_byte r x) ≡ source_byte (covering ps a r) x)
        → after_all ps x (after p x (source_byte q x)) ≡ source_byte (covering ps a (if t then piece p else q)) x
    go true f i = ap (after_all ps x) (after-covered p x (source_byte q x) (same ∙ f)) ∙ i (piece p)
    go false f i = ap (after_all ps x) (after-other p x (source_byte q x) (same ∙ f)) ∙ i q

pub last-segment : (ps : List Piece) (a e x : ℕ) → a ≤ x → x < border ps a e → last_byte ps x ≡ source_byte (covering ps a nothing) x
unfolding last_byte
last-segment ps a e x h g = segment ps nothing a e x h g

-- ---- one step along the pieces, at the piece p with index i
module _ (ps : List Piece) (i a : ℕ) (p : Piece) (f : drop i ps ≡ p ∷ drop (suc i) ps) where
  pub covering-step : (q : Source) → covering (drop i ps) a q ≡ covering (drop (i + 1) ps) a (newer p a q)
  unfolding covering
  covering-step q = rw (f, add-one i)

  pub border-step : (e : ℕ) → border (drop i ps) a e ≡ border (drop (i + 1) ps) a (nearer p a e)
  unfolding border
  border-step e = rw (f, add-one i)

module _ (ps : List Piece) (i a : ℕ) (h : length ps ≤ i) where
  pub covering-end : (q : Source) → covering (drop i ps) a q ≡ q
  unfolding covering
  covering-end q = rw (drop_of_length-le ps h)

  pub border-end : (e : ℕ) → border (drop i ps) a e ≡ e
  unfolding border
  border-end e = rw (drop_of_length-le ps h)
