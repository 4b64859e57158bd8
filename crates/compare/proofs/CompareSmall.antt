-- Each stretch that is found fits into the four words that it has in the output.
use Rattle.std.specs.Prelude.{◌≡◌, Bool, List, [], ◌∷◌, ℕ, ◌+◌, ◌<◌}
use Rattle.std.proofs.Math.Path.{refl}
use Rattle.std.proofs.Common.{arith}
use Rattle.words.specs.Choice.{All}
use Rattle.words.specs.Bytes.{Bytes}
use Rattle.plan.specs.Plan.{Piece, Read, refused, pieces}
use Rattle.plan.specs.Meaning.{stretch}
use Rattle.stretches.specs.Stretches.{Stretch, Ordered}
use Rattle.stretches.proofs.StretchesExact.{Valued, Ends, ends, ordered, valued}
use Rattle.compare.specs.LastByte.{last_byte}
use Rattle.compare.specs.Reading.{addresses, read_compared}
use Rattle.compare.proofs.ReadingBytes.{AreBytes, compared-bytes, last-most}
use Rattle.compare.specs.Compare.{finds, differences, compared_below}
use Rattle.compare.proofs.CompareLaws.{refuses-no-finds, limited-finds}

abbrev pub Small : Stretch → Type 0
Small s = (s.first < addresses) × (s.last < addresses) × (s.old < addresses) × (s.new < addresses)

-- stretches that end below the last address, with values of last bytes
all_small : (old new : List Piece) (a : ℕ) (l : List Stretch) → AreBytes old → AreBytes new → Ordered a l → Ends addresses l
    → All (Valued (last_byte old) (last_byte new)) l → All Small l
all_small old new a [] b c o e v = tt
all_small old new a (s ∷ l) b c o e v =
    let f = last-most old s.first b in
    let g = last-most new s.first c in
    ((omega (arith, o.1, e.0), e.0, omega (arith, f, v.0.0), omega (arith, g, v.0.1)), all_small old new (s.last + 2) l b c o.2 e.1 v.1)

-- ---- what is found
module _ (bound : ℕ) (P : List Stretch → Type 0) where
  below-found : (old new : Read) {l : List Stretch} {same : Bool} → compared_below bound old new ≡ finds l same
      → ((old_pieces new_pieces : List Piece) → old ≡ pieces old_pieces → new ≡ pieces new_pieces → P (differences bound old_pieces new_pieces)) → P l
  unfolding compared_below
  below-found (refused x i) new e f = absurd (refuses-no-finds e)
  below-found (pieces old_pieces) (refused x i) e f = absurd (refuses-no-finds e)
  below-found (pieces old_pieces) (pieces new_pieces) e f = rw (limited-finds (differences bound old_pieces new_pieces) _ e).1 at (f old_pieces new_pieces refl refl)

pub found-small : (old new : List ℕ) → Bytes old → Bytes new → {l : List Stretch} {same : Bool}
    → compared_below addresses (read_compared old) (read_compared new) ≡ finds l same → All Small l
found-small old new b c e =
    below-found addresses (All Small) (read_compared old) (read_compared new) e
    (λ old_pieces new_pieces f g.
    let x = last_byte (stretch old_pieces) in
    let y = last_byte (stretch new_pieces) in
    all_small (stretch old_pieces) (stretch new_pieces) 0 (differences addresses old_pieces new_pieces) (compared-bytes old b f) (compared-bytes new c g) (ordered x y addresses) (ends x y addresses) (valued x y addresses))
