-- The claims are false of these checkers: they accept an image whose load leaves another byte than the plan means. Address 8192 is at place 128.
use Rattle.std.specs.Prelude.{◌≡◌, refl, List, [], ◌∷◌, ◌++◌, ℕ, get_or, replicate}
use Rattle.std.proofs.Common.{ap, arith}
use Rattle.words.specs.Four.{four_bytes}
use Rattle.memory_map.specs.Lookup.{Lookup, lookup}
use Rattle.memory_map.specs.Open as MapGroup
use Rattle.aplx.specs.Open as AplxGroup
use Rattle.plan.specs.Plan.{Piece, put}
use Rattle.plan.specs.Meaning.{Stopped, meaning}
use Rattle.plan.specs.Open as PlanGroup
use Rattle.series.specs.Medium.{aplx}
use Rattle.series.specs.Software as software
use Rattle.series.specs.Software.{leaves}
use Rattle.series.proofs.Refuted.Packers.{sorted, inserted, padded}
use Rattle.series.proofs.Refuted.Plans.{two_fills, two_pieces, reads-beside, reads_over}
use Rattle.series.proofs.Refuted.Example.{example, find, finds, memory_with, Reads, Lies, in_memory}
use Rattle.series.proofs.Refuted.Twice.{Load, aplx_from, aplx-is}
use Rattle.aplx_check.specs.Check.{accepted, refuses, check}
use Rattle.aplx_check.specs.Open as CheckGroup
use Rattle.checked_series.specs.Claims.{Checker, Claims}
use Rattle.checked_series.proofs.Refuted.Checkers.{entries_by, accepts_all, lengths_only, past_end, sorts_pieces, pads_puts}
use Rattle.checked_series.proofs.Refuted.Example.{first_load}

-- ---- images
abbrev last : List ℕ
last = four_bytes 0xffffffff 0 0 0

-- two fills of 32 bytes and of n
unfoldable pub fills : ℕ → ℕ → ℕ → ℕ → ℕ → List ℕ
fills a w b n v = four_bytes 3 a 32 w ++ (four_bytes 3 b n v ++ last)

-- a put of 40 fives, and its image with 24 zeros behind them
unfoldable pub forty : List ℕ
forty = four_bytes 1 16 32 40 ++ (four_bytes 1 8192 40 0 ++ replicate 40 5)

abbrev forty_piece : List Piece
forty_piece = put 8192 (replicate 40 5) ∷ []

unfoldable pub sixty_four : List ℕ
sixty_four = four_bytes 2 8192 32 64 ++ (last ++ (replicate 40 5 ++ replicate 24 0))

reads-forty : Reads forty forty_piece
unfolding forty CheckGroup.checker
reads-forty = record { bytes = refl; read = refl }

-- side by side, the second at the lower address
reads-down : Reads (two_fills 8224 8192) (two_pieces 8224 8192)
unfolding two_fills CheckGroup.checker
reads-down = record { bytes = refl; read = refl }

-- ---- the refutations
-- what the claims say of our first load: the byte at place p
load-left :
    (c : Checker) → Claims software.ours c → {image plan : List ℕ} {ps : List Piece} → Reads plan ps → c plan image ≡ accepted
    → Lies (aplx 4096) ps image → Stopped (meaning find ps 0 (memory_with image)).finish → (p : ℕ)
    → get_or (aplx_from 4096 (memory_with image)).memory p 0 ≡ get_or (meaning find ps 0 (memory_with image)).memory p 0
load-left c claims = first_load (λ load. load) c claims

pub record TooMuch : Type 0 where
  -- an image with no entry but the end
  pub accepts-all-refuted : Claims software.ours accepts_all → ⊥
  -- the first fill at the second's address
  pub lengths-only-refuted : Claims software.ours lengths_only → ⊥
  -- 64 bytes in the place of the second fill's 32
  pub past-end-refuted : Claims software.ours past_end → ⊥
  pub sorts-pieces-refuted : Claims software.ours sorts_pieces → ⊥
  -- a put of 40 bytes as 64
  pub pads-puts-refuted : Claims software.ours pads_puts → ⊥

pub too_much : TooMuch
unfolding two_fills fills forty sixty_four find memory_with aplx_from example entries_by sorted inserted padded CheckGroup.checker MapGroup.maps PlanGroup.meanings AplxGroup.load
too_much = record {
  accepts-all-refuted = λ d.
      let z : ◌≡◌ {A = ℕ} 7 1 = load-left accepts_all d {image = last} reads-beside refl (in_memory refl refl refl (refl, (refl, tt))) tt 128 in
      omega arith;
  lengths-only-refuted = λ d.
      let z : ◌≡◌ {A = ℕ} 7 1 = load-left lengths_only d {image = fills 8224 1 8224 32 2} reads-beside refl (in_memory refl refl refl (refl, (refl, tt))) tt 128 in
      omega arith;
  past-end-refuted = λ d.
      let z : ◌≡◌ {A = ℕ} 2 1 = load-left past_end d {image = fills 8224 1 8192 64 2} reads-down refl (in_memory refl refl refl (refl, (refl, tt))) tt 160 in
      omega arith;
  sorts-pieces-refuted = λ d.
      let z : ◌≡◌ {A = ℕ} 1 2 = load-left sorts_pieces d {image = fills 8192 2 8196 32 1} reads_over refl (in_memory refl refl refl (refl, (refl, tt))) tt 132 in
      omega arith;
  pads-puts-refuted = λ d.
      let z : ◌≡◌ {A = ℕ} 0 7 = load-left pads_puts d {image = sixty_four} reads-forty refl (in_memory refl refl refl (refl, tt)) tt 168 in
      omega arith;
}

-- ---- why entries must follow plan order
-- Two fills that overlap, and the image of them by ascending address: the load and the plan leave different bytes at address 8196.
pub record SortedImage : Type 0 where
  pub sorted-accepted : sorts_pieces (two_fills 8196 8192) (fills 8192 2 8196 32 1) ≡ accepted
  pub ours-refuses : check (two_fills 8196 8192) (fills 8192 2 8196 32 1) ≡ refuses 30 0
  pub loaded : get_or (leaves software.ours (aplx 4096) example (fills 8192 2 8196 32 1) 4096 (memory_with (fills 8192 2 8196 32 1))).memory 132 0 ≡ 1
  pub meant : get_or (meaning (lookup example) (two_pieces 8196 8192) 0 (memory_with (fills 8192 2 8196 32 1))).memory 132 0 ≡ 2

pub sorted-image : SortedImage
unfolding two_fills fills find memory_with aplx_from example entries_by sorted inserted CheckGroup.checker MapGroup.maps PlanGroup.meanings AplxGroup.load
sorted-image = record {
  sorted-accepted = refl;
  ours-refuses = refl;
  loaded = ap (λ (load : Load). get_or (load 4096 (memory_with (fills 8192 2 8196 32 1))).memory 132 0) aplx-is;
  meant = ap (λ (find : Lookup). get_or (meaning find (two_pieces 8196 8192) 0 (memory_with (fills 8192 2 8196 32 1))).memory 132 0) finds;
}
