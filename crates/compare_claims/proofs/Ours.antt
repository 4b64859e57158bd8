-- What holds of ours: of the comparison that the promise of `compare` cites.
use Rattle.std.specs.Prelude.{◌≡◌, List, ℕ}
use Rattle.words.specs.Bytes.{Bytes}
use Rattle.plan.specs.Plan.{Piece, refused}
use Rattle.compare.specs.Reading.{read_compared}
use Rattle.compare.specs.Compare.{compared}
use Rattle.compare_claims.specs.Claims.{Claims, AsMeant}
use Rattle.compare_claims.specs.Refusals.{Refusals, ReadExactly, Refused}
use Rattle.compare_claims.proofs.Proved as proof
use Rattle.compare_claims.proofs.Proved.Effect as effect
use Rattle.compare_claims.proofs.Proved.Reading as reading

pub ours : Claims compared
ours = proof.claims

pub our-refusals : Refusals compared
our-refusals = proof.refusals

-- exactly the plans that the reader of plans accepts, and whose pieces end in the address space, are read
pub read-exactly : (s : List ℕ) → Bytes s → (ps : List Piece) → ReadExactly s ps
read-exactly = reading.read-exactly

-- any other is refused as that reader refuses it, or for a piece that ends past the address space
pub refused-for : (s : List ℕ) (x i : ℕ) → read_compared s ≡ refused x i → Refused s x i
refused-for = reading.refused-for

-- what is compared is what the plans mean
pub as-meant : AsMeant
as-meant = effect.as-meant
