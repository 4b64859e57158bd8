-- Demand 3 is false of software with a wrong packer (paper 01, "Plans", "Slips seen on this bench" and "Signing rule"). Each is refuted
-- by one byte that one load of its image leaves.
use Rattle.std.specs.Prelude.{◌≡◌, refl, List, [], ◌∷◌, ◌++◌, ℕ, ◌-◌, ◌%◌, leb, length, replicate, if◌then◌else◌}
use Rattle.std.proofs.Common.{arith}
use Rattle.srom.specs.Open as SromGroup
use Rattle.aplx.specs.Open as AplxGroup
use Rattle.plan.specs.Plan.{Piece, put, fill, run, Read, refused, pieces, read_plan}
use Rattle.plan.specs.Packed.{Packed, packed_as}
use Rattle.plan.specs.Open as PlanGroup
use Rattle.srom_pack.specs.Image.{srom_image}
use Rattle.srom_pack.specs.Open as SromPackGroup
use Rattle.aplx_pack.specs.Image.{aplx_image}
use Rattle.aplx_pack.specs.Open as AplxPackGroup
use Rattle.series.specs.Demand.{Demand3}
use Rattle.series.proofs.Refuted.Example.{find, memory_with, in-slice, in_memory, packing_srom, packing_aplx, srom-packed, aplx-packed}
use Rattle.series.proofs.Refuted.Plans.{two_fills, fill_and_put, reads-beside, reads_over, reads-18, reads-20}

-- ---- the packers
-- other pieces in the place of those that were read
abbrev pub exchanged : (List Piece → List Piece) → Read → Read
exchanged f (refused x i) = refused x i
exchanged f (pieces ps) = pieces (f ps)

-- a packer that reads with a length unit, and makes the usual image of other pieces
abbrev pub srom_of : ℕ → (List Piece → List Piece) → List ℕ → ℕ → Packed
srom_of unit f s n = packed_as srom_image (exchanged f (read_plan unit s)) n

abbrev pub aplx_of : ℕ → (List Piece → List Piece) → List ℕ → ℕ → Packed
aplx_of unit f s n = packed_as aplx_image (exchanged f (read_plan unit s)) n

-- version three: pieces sorted by address
abbrev address_of : Piece → ℕ
address_of (put a d) = a
address_of (fill a n w) = a
address_of (run a) = a

unfoldable pub inserted : Piece → List Piece → List Piece
inserted p [] = p ∷ []
inserted p (q ∷ qs) = if leb (address_of p) (address_of q) then p ∷ q ∷ qs else q ∷ inserted p qs

unfoldable pub sorted : List Piece → List Piece
sorted [] = []
sorted (p ∷ ps) = inserted p (sorted ps)

-- "Padding a 20-byte put to 32 for APLX": lengths rounded unseen, up to a multiple of the unit
unfoldable pub padded : ℕ → List Piece → List Piece
padded unit [] = []
padded unit (put a d ∷ ps) = put a (d ++ replicate ((unit - length d % unit) % unit) 0) ∷ padded unit ps
padded unit (fill a n w ∷ ps) = fill a n w ∷ padded unit ps
padded unit (run a ∷ ps) = run a ∷ padded unit ps

-- version one: lengths taken as they come, for the loader to round
abbrev pub as_they_come : List Piece → List Piece
as_they_come ps = ps

-- "one constant image": that of the empty plan
abbrev pub constant : List Piece → List Piece
constant ps = []

-- ---- the refutations
-- Address 8192 is at place 128. Sorted: a byte of both fills. Padded, or as they come: a byte that the put should not, or should, store.
pub record WrongSromPackers : Type 0 where
  pub sorted-refuted : Demand3 (packing_srom (srom_of 4 sorted)) → ⊥
  pub padded-refuted : Demand3 (packing_srom (srom_of 1 (padded 4))) → ⊥
  pub as-they-come-refuted : Demand3 (packing_srom (srom_of 1 as_they_come)) → ⊥
  pub constant-refuted : Demand3 (packing_srom (srom_of 4 constant)) → ⊥

pub wrong-srom-packers : WrongSromPackers
unfolding two_fills fill_and_put sorted inserted padded find memory_with PlanGroup.meanings SromPackGroup.image SromGroup.load AplxPackGroup.image
wrong-srom-packers = record {
  sorted-refuted = λ d.
      let z : ◌≡◌ {A = ℕ} 1 2 = srom-packed reads_over (srom_of 4 sorted) d (in-slice refl) refl 132 in
      omega arith;
  padded-refuted = λ d.
      let z : ◌≡◌ {A = ℕ} 0 1 = srom-packed reads-18 (srom_of 1 (padded 4)) d (in-slice refl) refl 146 in
      omega arith;
  as-they-come-refuted = λ d.
      let z : ◌≡◌ {A = ℕ} 1 5 = srom-packed reads-18 (srom_of 1 as_they_come) d (in-slice refl) refl 144 in
      omega arith;
  constant-refuted = λ d.
      let z : ◌≡◌ {A = ℕ} 7 1 = srom-packed reads-beside (srom_of 4 constant) d (in-slice refl) refl 128 in
      omega arith;
}

pub record WrongAplxPackers : Type 0 where
  pub sorted-refuted : Demand3 (packing_aplx (aplx_of 32 sorted)) → ⊥
  pub padded-refuted : Demand3 (packing_aplx (aplx_of 1 (padded 32))) → ⊥
  pub as-they-come-refuted : Demand3 (packing_aplx (aplx_of 1 as_they_come)) → ⊥
  pub constant-refuted : Demand3 (packing_aplx (aplx_of 32 constant)) → ⊥

pub wrong-aplx-packers : WrongAplxPackers
unfolding two_fills fill_and_put sorted inserted padded find memory_with PlanGroup.meanings AplxPackGroup.image AplxGroup.load
wrong-aplx-packers = record {
  sorted-refuted = λ d.
      let z : ◌≡◌ {A = ℕ} 1 2 = aplx-packed reads_over (aplx_of 32 sorted) d (in_memory refl refl refl (refl, (refl, tt))) refl 132 in
      omega arith;
  padded-refuted = λ d.
      let z : ◌≡◌ {A = ℕ} 0 1 = aplx-packed reads-20 (aplx_of 1 (padded 32)) d (in_memory refl refl refl (refl, (refl, tt))) refl 148 in
      omega arith;
  as-they-come-refuted = λ d.
      let z : ◌≡◌ {A = ℕ} 7 1 = aplx-packed reads-20 (aplx_of 1 as_they_come) d (in_memory refl refl refl (refl, (refl, tt))) refl 148 in
      omega arith;
  constant-refuted = λ d.
      let z : ◌≡◌ {A = ℕ} 7 1 = aplx-packed reads-beside (aplx_of 32 constant) d (in_memory refl refl refl (refl, (refl, tt))) refl 128 in
      omega arith;
}
