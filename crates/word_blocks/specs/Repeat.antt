-- A word repeated, and cut at a length in bytes.
use Rattle.std.specs.Prelude.{List, [], ◌++◌, ℕ, zero, suc, take}
use Rattle.words.specs.Bytes.{little_endian}

-- the word's four bytes, lowest first, k times over
unfoldable pub repeated : ℕ → ℕ → List ℕ
repeated zero w = []
repeated (suc k) w = little_endian 4 w ++ repeated k w

-- the word repeated, cut at n bytes
unfoldable pub filling : ℕ → ℕ → List ℕ
filling n w = take n (repeated n w)
