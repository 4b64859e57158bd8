-- What the pieces of a plan store are bytes, so that the last byte at an address is one, or `not_stored`.
use Rattle.std.specs.Prelude.{◌≡◌, refl, Bool, true, false, List, ℕ, ◌≤◌}
use Rattle.std.proofs.Common.{arith}
use Rattle.words.specs.Choice.{All}
use Rattle.words.specs.Bytes.{Bytes}
use Rattle.plan.specs.Plan.{Piece, data_of, pieces}
use Rattle.plan.proofs.PlanLaws.{read-bytes}
use Rattle.plan.specs.Meaning.{stretch}
use Rattle.compare.specs.LastByte.{not_stored, last_byte}
use Rattle.compare.specs.LastByte.Exact.{stores_at}
use Rattle.compare.proofs.LastByteExact.{not-stored, is_byte}
use Rattle.compare.specs.Reading.{read_compared}
use Rattle.compare.proofs.ReadingLaws.{readable, stretch-all}

abbrev pub AreBytes : List Piece → Type 0
AreBytes = All (λ p. Bytes (data_of p))

-- of the stretch that is compared
pub compared-bytes : (s : List ℕ) → Bytes s → {ps : List Piece} → read_compared s ≡ pieces ps → AreBytes (stretch ps)
compared-bytes s b {ps} e = stretch-all (λ p. Bytes (data_of p)) ps (read-bytes 1 s b (readable s e).accepted)

-- the last byte
pub last-most : (ps : List Piece) (x : ℕ) → AreBytes ps → last_byte ps x ≤ not_stored
unfolding last_byte
last-most ps x h = go (stores_at ps x) refl
  where
    go : (t : Bool) → stores_at ps x ≡ t → last_byte ps x ≤ not_stored
    go true e = omega (arith, is_byte ps x not_stored h e)
    go false e = omega (arith, not-stored ps x not_stored e)
