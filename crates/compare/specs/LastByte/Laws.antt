-- Laws of the last byte at an address: one piece, pieces behind others, and pieces that store nothing there.
use Rattle.std.specs.Prelude.{◌≡◌, refl, Bool, true, false, ◌&&◌, List, [], ◌∷◌, ◌++◌, ℕ, ◌≤◌, ◌<◌, leb, ltb}
use Rattle.std.proofs.Common.{arith, leb-true, leb-false, le-leb, lt-ltb, le-ltb}
use Rattle.std.proofs.lemmas.Bool.{lt-leb}
use Rattle.words.specs.Choice.{All}
use Rattle.plan.specs.Plan.{Piece, run, address_of}
use Rattle.plan.specs.Meaning.{stored_by}
use Rattle.compare.specs.LastByte.{end_of, covers, byte_at, after, after_all}

-- ---- one piece
module _ (p : Piece) (x : ℕ) where
  pub covers_at : address_of p ≤ x → x < end_of p → covers p x ≡ true
  covers_at h g = rw (le-leb _ _ h, lt-ltb _ _ g)

  pub covers_below : x < address_of p → covers p x ≡ false
  covers_below h = rw (lt-leb _ _ h)

  pub covers-past : end_of p ≤ x → covers p x ≡ false
  covers-past h = go (leb (address_of p) x)
    where
      go : (b : Bool) → (b && ltb x (end_of p)) ≡ false
      go true = le-ltb _ _ h
      go false = refl

  pub after-covered : (b : ℕ) → covers p x ≡ true → after p x b ≡ byte_at p x
  unfolding after
  after-covered b e = rw e

  pub after-other : (b : ℕ) → covers p x ≡ false → after p x b ≡ b
  unfolding after
  after-other b e = rw e

-- a run stores nothing
pub covers-run : (a x : ℕ) → covers (run a) x ≡ false
unfolding stored_by
covers-run a x = go (leb a x) refl
  where
    go : (t : Bool) → leb a x ≡ t → covers (run a) x ≡ false
    go true e = covers-past (run a) x (omega (arith, leb-true a x e))
    go false e = covers_below (run a) x (leb-false a x e)

pub after_run : (a x b : ℕ) → after (run a) x b ≡ b
after_run a x b = after-other (run a) x b (covers-run a x)

-- ---- pieces, and others behind them
pub after-append : (ps qs : List Piece) (x b : ℕ) → after_all (ps ++ qs) x b ≡ after_all qs x (after_all ps x b)
unfolding after_all
after-append [] qs x b = refl
after-append (p ∷ ps) qs x b = after-append ps qs x (after p x b)

-- ---- an address that no piece covers
pub not_covered : (ps : List Piece) (x b : ℕ) → All (λ p. covers p x ≡ false) ps → after_all ps x b ≡ b
unfolding after_all
not_covered [] x b h = refl
not_covered (p ∷ ps) x b h = rw (after-other p x b h.0) (not_covered ps x b h.1)
