-- Laws of the tests: by the image, and what a message that passed them grants.
use Rattle.std.specs.Prelude.{◌≡◌, refl, Bool, true, false, ℕ, suc, ◌≤◌, ◌<◌, leb, eqb, if◌then◌else◌, Err}
use Rattle.std.proofs.Common.{leb-false}
use Rattle.flood_fill.specs.declared.message.Message.{Message}
use Rattle.flood_fill.specs.declared.header.Header.{Header}
use Rattle.outcome.specs.declared.refusal.Cause.{Cause}
use Rattle.outcome.specs.declared.refusal.Cause.TheVariants.{ImageTooShort, OutsideLimits, NoStart, NoSuchBlock, WrongSize}
use Rattle.flood_fill.specs.Limits.{within_limits, right_size}
use Rattle.flood_fill.proofs.LimitsLaws.{Limits, limits, size-bounds}
use Rattle.flood_fill.specs.Refusals.{is_short, test_start, test_block_start, passed, own_tests, tested}

-- ---- by the image
pub tested-short : (h : Header) (m : Message) (bytes : ℕ) → is_short h m bytes ≡ true → tested h m bytes ≡ Err ImageTooShort
unfolding tested
tested-short h m bytes e = rw e

pub tested-long : (h : Header) (m : Message) (bytes : ℕ) → is_short h m bytes ≡ false → tested h m bytes ≡ own_tests h m
unfolding tested
tested-long h m bytes e = rw e

-- ---- the tests of the message itself
never : {A : Type 0} {x : Cause} → Err x ≡ passed → A
never e = absurd (cc)

pub passed-own : (h : Header) (m : Message) (bytes : ℕ) → tested h m bytes ≡ passed → own_tests h m ≡ passed
unfolding tested
passed-own h m bytes e = go (is_short h m bytes) e
  where
    go : (s : Bool) → (if s then Err ImageTooShort else own_tests h m) ≡ passed → own_tests h m ≡ passed
    go true g = never g
    go false g = g

-- ---- a Start that passed
pub start-limits : (last n : ℕ) → test_start last n ≡ passed → Limits (suc last) n
unfolding test_start
start-limits last n e = limits (suc last) n (go (within_limits (suc last) n) e)
  where
    go : (w : Bool) → (if w then passed else Err OutsideLimits) ≡ passed → w ≡ true
    go true g = refl
    go false g = never g

-- ---- a Block Start that passed
pub record BlockFits (h : Header) (b n : ℕ) : Type 0 where
  pub below : b < h.count
  pub least : 1 ≤ n
  pub most : n ≤ h.size

pub block-fits : (h : Header) (b n : ℕ) → test_block_start h b n ≡ passed → BlockFits h b n
unfolding test_block_start
block-fits h b n e = go (eqb h.count 0) (leb h.count b) (right_size h.count h.size b n) refl refl e
  where
    go : (z l r : Bool) → leb h.count b ≡ l → right_size h.count h.size b n ≡ r
        → (if z then Err NoStart else if l then Err NoSuchBlock else if r then passed else Err WrongSize) ≡ passed → BlockFits h b n
    go true l r f g i = never i
    go false true r f g i = never i
    go false false false f g i = never i
    go false false true f g i =
        let s = size-bounds h.count h.size b n g in
        record { below = leb-false h.count b f; least = s.0; most = s.1 }
