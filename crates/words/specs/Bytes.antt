-- Numbers as bytes, over the width in bytes: a halfword has 2, a word has 4. A byte is a number below 256.
use Rattle.std.specs.Prelude.{List, [], ◌∷◌, reverse, ℕ, zero, suc, ◌+◌, ◌*◌, ◌/◌, ◌%◌, ◌<◌, drop}
use Rattle.words.specs.Choice.{All}

-- the k bytes of a number, lowest first
unfoldable pub little_endian : ℕ → ℕ → List ℕ
little_endian zero n = []
little_endian (suc k) n = n % 256 ∷ little_endian k (n / 256)

-- highest first
unfoldable pub big_endian : ℕ → ℕ → List ℕ
big_endian k n = reverse (little_endian k n)

-- the number that these bytes are
unfoldable pub from_little_endian : List ℕ → ℕ
from_little_endian [] = 0
from_little_endian (b ∷ bs) = b + 256 * from_little_endian bs

unfoldable pub from_big_endian : List ℕ → ℕ
from_big_endian bs = from_little_endian (reverse bs)

-- the first k bytes; those past the end count as zero
unfoldable pub first_bytes : ℕ → List ℕ → List ℕ
first_bytes zero s = []
first_bytes (suc k) [] = 0 ∷ first_bytes k []
first_bytes (suc k) (b ∷ s) = b ∷ first_bytes k s

-- the number in the k bytes at place p
unfoldable pub little_endian_at : ℕ → List ℕ → ℕ → ℕ
little_endian_at k s p = from_little_endian (first_bytes k (drop p s))

unfoldable pub big_endian_at : ℕ → List ℕ → ℕ → ℕ
big_endian_at k s p = from_big_endian (first_bytes k (drop p s))

-- every element is a byte
abbrev pub Bytes : List ℕ → Type 0
Bytes = All (λ b. b < 256)
