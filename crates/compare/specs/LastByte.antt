-- The last byte that pieces store at an address (paper 01, "Plans"; paper 02, C-18).
pub mod Laws
pub mod Segment
pub mod Exact
use Rattle.std.specs.Prelude.{Bool, ◌&&◌, List, [], ◌∷◌, ℕ, ◌+◌, ◌-◌, leb, ltb, length, get_or, if◌then◌else◌}
use Rattle.plan.specs.Plan.{Piece, address_of}
use Rattle.plan.specs.Meaning.{stored_by}

-- the first address behind what a piece stores
abbrev pub end_of : Piece → ℕ
end_of p = address_of p + length (stored_by p)

-- the piece stores a byte at address x
abbrev pub covers : Piece → ℕ → Bool
covers p x = leb (address_of p) x && ltb x (end_of p)

-- the byte that it stores there: its bytes go "upwards from its address"
abbrev pub byte_at : Piece → ℕ → ℕ
byte_at p x = get_or (stored_by p) (x - address_of p) 0

-- what stands at address x after a piece, where b stood
unfoldable pub after : Piece → ℕ → ℕ → ℕ
after p x b = if covers p x then byte_at p x else b

-- "pieces in order, each on the memory the last one left"
unfoldable pub after_all : List Piece → ℕ → ℕ → ℕ
after_all [] x b = b
after_all (p ∷ ps) x b = after_all ps x (after p x b)

-- "not stored": no byte has this value
abbrev pub not_stored : ℕ
not_stored = 256

-- the last byte that is stored at x
unfoldable pub last_byte : List Piece → ℕ → ℕ
last_byte ps x = after_all ps x not_stored
