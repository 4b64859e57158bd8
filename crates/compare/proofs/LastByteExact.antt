-- The last byte is a byte where a piece covers the address, and `not_stored` where none does; so two plans differ at an address
-- which only one of them stores, or which both store with different last bytes, and at no other.
use Rattle.std.specs.Prelude.{◌≡◌, refl, Bool, true, false, ◌||◌, List, [], ◌∷◌, ℕ, zero, suc, ◌<◌, ◌-◌, get_or}
use Rattle.std.proofs.Math.Path.{ap, sym}
use Rattle.std.proofs.Common.{◌∙◌, arith, eq-eqb, ne_eqb}
use Rattle.std.proofs.Math.Bool.{not}
use Rattle.words.specs.Choice.{All}
use Rattle.words.proofs.ChoiceLaws.{true-is-false}
use Rattle.words.specs.Bytes.{Bytes}
use Rattle.word_blocks.specs.Repeat.{filling}
use Rattle.word_blocks.proofs.RepeatLaws.{filling-bytes}
use Rattle.plan.specs.Plan.{Piece, put, fill, run, data_of, address_of}
use Rattle.stretches.specs.Stretches.{differs}
use Rattle.plan.specs.Meaning.{stored_by}
use Rattle.compare.specs.LastByte.{covers, not_stored, after, after_all, last_byte}
use Rattle.compare.specs.LastByte.Laws.{after-covered, after-other}
use Rattle.compare.specs.LastByte.Exact.{stores_at}

pub not-stored : (ps : List Piece) (x b : ℕ) → stores_at ps x ≡ false → after_all ps x b ≡ b
unfolding stores_at after_all
not-stored [] x b e = refl
not-stored (p ∷ ps) x b e = go (covers p x) refl e (not-stored ps x b)
  where
    go : (t : Bool) → covers p x ≡ t → (t || stores_at ps x) ≡ false → (stores_at ps x ≡ false → after_all ps x b ≡ b) → after_all ps x (after p x b) ≡ b
    go true f g k = true-is-false g
    go false f g k = ap (after_all ps x) (after-other p x b f) ∙ k g

-- of pieces whose data are bytes
pub byte-at : (l : List ℕ) (i : ℕ) → Bytes l → get_or l i 0 < 256
byte-at [] i h = omega arith
byte-at (b ∷ l) zero h = h.0
byte-at (b ∷ l) (suc i) h = byte-at l i h.1

byte_of : (p : Piece) (i : ℕ) → Bytes (data_of p) → get_or (stored_by p) i 0 < 256
unfolding stored_by
byte_of (put a d) i h = byte-at d i h
byte_of (fill a n w) i h = byte-at (filling n w) i (filling-bytes n w)
byte_of (run a) i h = omega arith

pub is_byte : (ps : List Piece) (x b : ℕ) → All (λ p. Bytes (data_of p)) ps → stores_at ps x ≡ true → after_all ps x b < 256
unfolding stores_at after_all
is_byte [] x b h e = true-is-false (sym e)
is_byte (p ∷ ps) x b h e = go (covers p x) refl (stores_at ps x) refl e (is_byte ps x (after p x b) h.1)
  where
    go : (t : Bool) → covers p x ≡ t → (s : Bool) → stores_at ps x ≡ s → (t || s) ≡ true → (stores_at ps x ≡ true → after_all ps x (after p x b) < 256) → after_all ps x (after p x b) < 256
    go t f true g k i = i g
    go true f false g k i = rw (not-stored ps x (after p x b) g, after-covered p x b f) (byte_of p (x - address_of p) h.0)
    go false f false g k i = true-is-false (sym k)

module _ (ps qs : List Piece) (x : ℕ) where
  pub stored-by-neither : stores_at ps x ≡ false → stores_at qs x ≡ false → differs (last_byte ps) (last_byte qs) x ≡ false
  unfolding last_byte
  stored-by-neither e f = ap not (eq-eqb _ _ (not-stored ps x not_stored e ∙ sym (not-stored qs x not_stored f)))

  pub stored-by-old : All (λ p. Bytes (data_of p)) ps → stores_at ps x ≡ true → stores_at qs x ≡ false → differs (last_byte ps) (last_byte qs) x ≡ true
  unfolding last_byte
  stored-by-old h e f = ap not (ne_eqb (after_all ps x not_stored) (after_all qs x not_stored) (λ z. omega (arith, is_byte ps x not_stored h e, not-stored qs x not_stored f)))

  pub stored-by-new : All (λ p. Bytes (data_of p)) qs → stores_at ps x ≡ false → stores_at qs x ≡ true → differs (last_byte ps) (last_byte qs) x ≡ true
  unfolding last_byte
  stored-by-new h e f = ap not (ne_eqb (after_all ps x not_stored) (after_all qs x not_stored) (λ z. omega (arith, is_byte qs x not_stored h f, not-stored ps x not_stored e)))
