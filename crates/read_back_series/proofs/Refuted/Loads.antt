-- The claims are false of these readers: a load of the image leaves something else than the plan that was read means.
use Rattle.std.specs.Prelude.{◌≡◌, refl, true, List, [], ◌∷◌, ◌++◌, ℕ, ltb, length, take, replicate}
use Rattle.std.proofs.Common.{ap, arith}
use Rattle.words.specs.Choice.{All, every}
use Rattle.words.specs.Open as WordsGroup
use Rattle.memory_region.specs.declared.region.Right.TheVariants.{Read}
use Rattle.memory_map.specs.Map.{sound}
use Rattle.memory_map.specs.Lookup.{at}
use Rattle.memory_map.specs.Open as MapGroup
use Rattle.aplx.specs.Open as AplxGroup
use Rattle.plan.specs.Plan.{Piece, fill, pieces, read_plan}
use Rattle.plan.specs.Packed.{packs}
use Rattle.plan.specs.Open as PlanGroup
use Rattle.series.specs.Medium.{Misses}
use Rattle.series.specs.Software as software
use Rattle.series.proofs.Refuted.Packers.{padded}
use Rattle.series.proofs.Refuted.Example.{example, find, finds, memory_with, in_memory}
use Rattle.aplx_read.specs.PlanBytes.{plan_bytes}
use Rattle.aplx_read.specs.Open as ReadGroup
use Rattle.read_back_series.specs.Claims.{Reader, Claims}
use Rattle.read_back_series.proofs.Refuted.Readers.{entry_by, read_by, from_header, unknown_as_end, acopy_as_put, any_length, pads_data, constant}
use Rattle.read_back_series.proofs.Refuted.Example.{image, with_put, Setting, Reads, load-means, byte_at, at_end}

-- ---- the setting
example-sound : sound example 256 ≡ true
unfolding example MapGroup.maps
example-sound = refl

-- the map and the memory in which demand 3 is put to the test: address 8192 is at place 128
small :
    {ps : List Piece} {image : List ℕ}
    → length (memory_with image) ≡ 256 → find Read 4096 (length image) ≡ at 0 → take (length image) (memory_with image) ≡ image
    → All (Misses 4096 (length image)) ps → Setting find 4096 ps image (memory_with image)
small e f g h = record { map = example; finds = finds; safe = rw e example-sound; intact = (in_memory e f g h).intact }

-- the reader, given 256 bytes
reads : {read : Reader} {image : List ℕ} {ps : List Piece} → every (λ b. ltb b 256) image ≡ true → read image 256 ≡ packs (plan_bytes ps)
    → read_plan 1 (plan_bytes ps) ≡ pieces ps → Reads read image ps
reads b e f = record { room = 256; bytes = b; is_read = e; has-pieces = f }

-- ---- the refutations
pub record WrongReaders : Type 0 where
  -- the load stores a six at the put's first byte
  pub from-header-refuted : Claims software.ours from_header → ⊥
  -- it does not report the end
  pub unknown-as-end-refuted : Claims software.ours unknown_as_end → ⊥
  -- it stores nothing, as address 48 cannot be read
  pub acopy-as-put-refuted : Claims software.ours acopy_as_put → ⊥
  -- it stores sixes up to the 32nd byte
  pub pads-data-refuted : Claims software.ours pads_data → ⊥
  -- it stores the fill
  pub constant-refuted : Claims software.ours constant → ⊥

pub wrong-readers : WrongReaders
unfolding image find memory_with byte_at entry_by read_by any_length padded WordsGroup.tests PlanGroup.reader PlanGroup.meanings ReadGroup.reader AplxGroup.load
wrong-readers = record {
  from-header-refuted = λ d.
      let l = load-means from_header d (image 2 32) (with_put (replicate 16 5 ++ replicate 16 6)) (reads refl refl refl) (small refl refl refl (refl, (refl, tt))) 0 (omega arith) in
      let z : ◌≡◌ {A = ℕ} 6 5 = ap (byte_at 160) l in
      omega arith;
  unknown-as-end-refuted = λ d.
      let l = load-means unknown_as_end d (image 5 32) (fill 8192 32 1 ∷ []) (reads refl refl refl) (small refl refl refl (refl, tt)) 0 (omega arith) in
      let z : ◌≡◌ {A = ℕ} 0 1 = ap at_end l in
      omega arith;
  acopy-as-put-refuted = λ d.
      let l = load-means acopy_as_put d (image 1 32) (with_put (replicate 32 6)) (reads refl refl refl) (small refl refl refl (refl, (refl, tt))) 0 (omega arith) in
      let z : ◌≡◌ {A = ℕ} 7 6 = ap (byte_at 160) l in
      omega arith;
  pads-data-refuted = λ d.
      let l = load-means pads_data d (image 2 20) (with_put (replicate 20 6 ++ replicate 12 0)) (reads refl refl refl) (small refl refl refl (refl, (refl, tt))) 0 (omega arith) in
      let z : ◌≡◌ {A = ℕ} 6 0 = ap (byte_at 180) l in
      omega arith;
  constant-refuted = λ d.
      let l = load-means constant d (image 2 32) [] (reads refl refl refl) (small refl refl refl tt) 0 (omega arith) in
      let z : ◌≡◌ {A = ℕ} 1 7 = ap (byte_at 128) l in
      omega arith;
}
