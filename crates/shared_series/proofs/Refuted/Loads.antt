-- The claims are false of software with these packers: a load of what they pack leaves another byte than the plan means, and the check
-- refuses what they pack. Address 8192 is at place 128.
use Rattle.std.specs.Prelude.{◌≡◌, refl, ℕ}
use Rattle.std.proofs.Common.{arith}
use Rattle.aplx.specs.Open as AplxGroup
use Rattle.plan.specs.Open as PlanGroup
use Rattle.series.proofs.Refuted.Example.{find, memory_with, in_memory, aplx-packed}
use Rattle.aplx_check.specs.Check.{refuses, check}
use Rattle.aplx_check.specs.Open as CheckGroup
use Rattle.aplx_share.specs.Open as ShareGroup
use Rattle.shared_series.proofs.Refuted.Packers.{without_by, different_by, place_by, entries_by, image_by, by_length, from_first, first_offset}
use Rattle.shared_series.proofs.Refuted.Example.{two_puts, reads-equal, reads-unequal, Refuted, image_in}

pub record WrongLoads : Type 0 where
  -- the second put stores the first's bytes
  pub by-length-refuted : Refuted by_length
  pub by-length-not-accepted : check (two_puts 5 6) (image_in (by_length (two_puts 5 6) 256)) ≡ refuses 30 1
  -- the second put stores the copy's last 16 bytes, and then what lies behind the image
  pub first-offset-refuted : Refuted first_offset
  pub first-offset-not-accepted : check (two_puts 5 5) (image_in (first_offset (two_puts 5 5) 256)) ≡ refuses 30 1

pub wrong-loads : WrongLoads
unfolding two_puts find memory_with without_by different_by place_by entries_by image_by from_first PlanGroup.meanings ShareGroup.image AplxGroup.load CheckGroup.checker
wrong-loads = record {
  by-length-refuted = λ check read d.
      let z : ◌≡◌ {A = ℕ} 5 6 = aplx-packed reads-unequal by_length d.demand (in_memory refl refl refl (refl, (refl, tt))) refl 160 in
      omega arith;
  by-length-not-accepted = refl;
  first-offset-refuted = λ check read d.
      let z : ◌≡◌ {A = ℕ} 7 5 = aplx-packed reads-equal first_offset d.demand (in_memory refl refl refl (refl, (refl, tt))) refl 176 in
      omega arith;
  first-offset-not-accepted = refl;
}
