-- What pieces leave at an address is the last byte of the definition that is compared; so two lists of pieces are different where their
-- last bytes differ.
use Rattle.std.specs.Prelude.{◌≡◌, refl, ◌⊎◌, Bool, true, false, ◌||◌, List, [], ◌∷◌, ◌++◌, ℕ}
use Rattle.std.proofs.Math.Path.{ap, sym}
use Rattle.std.proofs.Common.{◌∙◌, inl, inr, arith, eq-eqb, ne_eqb}
use Rattle.std.proofs.Math.Bool.{not}
use Rattle.words.specs.Choice.{All}
use Rattle.words.proofs.ChoiceLaws.{true-is-false}
use Rattle.words.specs.Bytes.{Bytes}
use Rattle.plan.specs.Plan.{Piece, data_of}
use Rattle.stretches.specs.Stretches.{differs}
use Rattle.compare.specs.LastByte.{covers, not_stored, after, after_all, last_byte}
use Rattle.compare.specs.LastByte.Laws.{after-covered, after-append, not_covered}
use Rattle.compare.specs.LastByte.Exact.{stores_at}
use Rattle.compare.proofs.LastByteExact.{is_byte, stored-by-old, stored-by-new}
use Rattle.compare_claims.specs.Claims.{NotStored, Leaves, Different, only-old, only-new, both, Shown, byte, not-stored}

-- ---- the byte that is left is the last byte, whatever stood there before
pub leaves_after : {ps : List Piece} {x b : ℕ} → Leaves ps x b → (c : ℕ) → after_all ps x c ≡ b
unfolding after_all
leaves_after {ps} {x} {b} l c =
    let d = after_all l.before x c in
    ap (λ (qs : List Piece). after_all qs x c) l.in_order
    ∙ after-append l.before (l.piece ∷ l.behind) x c
    ∙ not_covered l.behind x (after l.piece x d) l.last
    ∙ after-covered l.piece x d l.stores
    ∙ l.byte

-- with a piece before the others
one_more : (p : Piece) {ps : List Piece} {x b : ℕ} → Leaves ps x b → Leaves (p ∷ ps) x b
one_more p l = record {
  before = p ∷ l.before;
  piece = l.piece;
  behind = l.behind;
  in_order = ap (λ (qs : List Piece). p ∷ qs) l.in_order;
  stores = l.stores;
  byte = l.byte;
  last = l.last;
}

-- pieces store nothing at an address, or leave a byte there
pub stored-or-not : (ps : List Piece) (x c : ℕ) → NotStored ps x ⊎ Leaves ps x (after_all ps x c)
unfolding after_all
stored-or-not [] x c = inl tt
stored-or-not (p ∷ ps) x c = go (stored-or-not ps x (after p x c)) (covers p x) refl
  where
    go : NotStored ps x ⊎ Leaves ps x (after_all ps x (after p x c)) → (t : Bool) → covers p x ≡ t
        → NotStored (p ∷ ps) x ⊎ Leaves (p ∷ ps) x (after_all ps x (after p x c))
    go (inr l) t e = inr (one_more p l)
    go (inl n) false e = inl (e, n)
    go (inl n) true e = inr (record {
      before = [];
      piece = p;
      behind = ps;
      in_order = refl;
      stores = e;
      byte = sym (not_covered ps x (after p x c) n ∙ after-covered p x c e);
      last = n;
    })

-- ---- the same as a test
pub none-stores : (ps : List Piece) (x : ℕ) → NotStored ps x → stores_at ps x ≡ false
unfolding stores_at
none-stores [] x n = refl
none-stores (p ∷ ps) x n = rw n.0 (none-stores ps x n.1)

one-stores : (ps : List Piece) (p : Piece) (qs : List Piece) (x : ℕ) → covers p x ≡ true → stores_at (ps ++ p ∷ qs) x ≡ true
unfolding stores_at
one-stores [] p qs x e = rw e
one-stores (q ∷ ps) p qs x e = go (covers q x) (one-stores ps p qs x e)
  where
    go : (t : Bool) → stores_at (ps ++ p ∷ qs) x ≡ true → (t || stores_at (ps ++ p ∷ qs) x) ≡ true
    go true f = refl
    go false f = f

leaves-stores : {ps : List Piece} {x b : ℕ} → Leaves ps x b → stores_at ps x ≡ true
leaves-stores {x} l = ap (λ (qs : List Piece). stores_at qs x) l.in_order ∙ one-stores l.before l.piece l.behind x l.stores

pub not-both : {ps : List Piece} {x b : ℕ} → NotStored ps x → Leaves ps x b → ⊥
not-both {ps} {x} n l = true-is-false (sym (leaves-stores l) ∙ none-stores ps x n)

-- ---- the last byte
pub leaves_last : {ps : List Piece} {x b : ℕ} → Leaves ps x b → last_byte ps x ≡ b
unfolding last_byte
leaves_last l = leaves_after l not_stored

pub none_last : (ps : List Piece) (x : ℕ) → NotStored ps x → last_byte ps x ≡ not_stored
unfolding last_byte
none_last ps x n = not_covered ps x not_stored n

pub shown : (ps : List Piece) (x : ℕ) → Shown ps x (last_byte ps x)
unfolding last_byte
shown ps x = go (stored-or-not ps x not_stored)
  where
    go : NotStored ps x ⊎ Leaves ps x (after_all ps x not_stored) → Shown ps x (after_all ps x not_stored)
    go (inl n) = rw (not_covered ps x not_stored n) (not-stored n)
    go (inr l) = byte l

pub shown-last : {ps : List Piece} {x b : ℕ} → Shown ps x b → b ≡ last_byte ps x
shown-last (byte l) = sym (leaves_last l)
shown-last {ps} {x} (not-stored n) = sym (none_last ps x n)

-- ---- different is where the last bytes differ
module _ (ps qs : List Piece) (x : ℕ) where
  pub differs-different : differs (last_byte ps) (last_byte qs) x ≡ true → Different ps qs x
  unfolding last_byte
  differs-different e = go (stored-or-not ps x not_stored) (stored-or-not qs x not_stored)
    where
      unequal : after_all ps x not_stored ≡ after_all qs x not_stored → ⊥
      unequal z = true-is-false (sym e ∙ ap not (eq-eqb _ _ z))

      go : NotStored ps x ⊎ Leaves ps x (after_all ps x not_stored) → NotStored qs x ⊎ Leaves qs x (after_all qs x not_stored) → Different ps qs x
      go (inl n) (inl m) = absurd (unequal (not_covered ps x not_stored n ∙ sym (not_covered qs x not_stored m)))
      go (inl n) (inr k) = only-new n k
      go (inr l) (inl m) = only-old l m
      go (inr l) (inr k) = both l k unequal

  -- of bytes
  pub different-differs : All (λ p. Bytes (data_of p)) ps → All (λ p. Bytes (data_of p)) qs → Different ps qs x → differs (last_byte ps) (last_byte qs) x ≡ true
  different-differs h g (only-old l m) = stored-by-old ps qs x h (leaves-stores l) (none-stores qs x m)
  different-differs h g (only-new n k) = stored-by-new ps qs x g (none-stores ps x n) (leaves-stores k)
  different-differs h g (both l k u) = ap not (ne_eqb (last_byte ps x) (last_byte qs x) (λ z. u (sym (leaves_last l) ∙ z ∙ leaves_last k)))

  -- where they are equal, both leave the same, whatever stood there before
  pub same_after : All (λ p. Bytes (data_of p)) ps → All (λ p. Bytes (data_of p)) qs → last_byte ps x ≡ last_byte qs x → (c : ℕ) → after_all ps x c ≡ after_all qs x c
  unfolding last_byte
  same_after h g e c = go (stored-or-not ps x c) (stored-or-not qs x c)
    where
      go : NotStored ps x ⊎ Leaves ps x (after_all ps x c) → NotStored qs x ⊎ Leaves qs x (after_all qs x c) → after_all ps x c ≡ after_all qs x c
      go (inl n) (inl m) = not_covered ps x c n ∙ sym (not_covered qs x c m)
      go (inl n) (inr k) = absurd (omega (arith, e, not_covered ps x not_stored n, is_byte qs x not_stored g (leaves-stores k)))
      go (inr l) (inl m) = absurd (omega (arith, e, not_covered qs x not_stored m, is_byte ps x not_stored h (leaves-stores l)))
      go (inr l) (inr k) = sym (leaves_after l not_stored) ∙ e ∙ leaves_after k not_stored
