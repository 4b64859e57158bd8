-- The rule of one copy (paper 01, "APLX").
use Rattle.std.specs.Prelude.{◌&&◌, List, ℕ, zero, suc, ◌+◌, ◌/◌, ◌≤◌, leb, length, take, drop, if◌then◌else◌}
use Rattle.words.specs.Store.{store}

-- k words, one after the other, from place s to place d
unfoldable pub copy_words : ℕ → ℕ → ℕ → List ℕ → List ℕ
copy_words zero d s m = m
copy_words (suc k) d s m = copy_words k (d + 4) (s + 4) (store m d (take 4 (drop s m)))

-- "Copies go word by word, lowest address first, so a copy onto itself further up repeats its beginning.": n bytes from place s to place d
unfoldable pub copied : ℕ → ℕ → ℕ → List ℕ → List ℕ
copied n d s m = copy_words (n / 4) d s m

-- the same where both ranges lie in memory; else memory as it is
unfoldable pub copied_if_fits : ℕ → ℕ → ℕ → List ℕ → List ℕ
copied_if_fits n d s m = if leb (d + n) (length m) && leb (s + n) (length m) then copied n d s m else m

-- no word is read after it was written over: the destination begins before the source, or behind its n bytes
pub data Ahead (s d n : ℕ) : Type 0 where
  down : d ≤ s → Ahead s d n
  clear : s + n ≤ d → Ahead s d n
