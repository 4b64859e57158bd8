-- Computed examples of the rules of regions (paper 01, "Memory map" and "Bench pieces with known weight").
use Rattle.std.specs.Prelude.{◌≡◌, refl, true, false, ℕ}
use Rattle.words.specs.Open.{tests}
use Rattle.memory_region.specs.declared.region.Region.{Region}
use Rattle.memory_region.specs.declared.region.Right.TheVariants.{Read, Write}
use Rattle.memory_region.specs.Region.{keeps_rules, clear, ends_inside, permits, place_in}

-- to read only
abbrev region : ℕ → ℕ → ℕ → Region
region b l p = record { base = b; length = l; place = p; rights = record { read = true; write = false; run = false } }

-- 64 bytes at address 4096 and place 64
abbrev first : Region
first = region 4096 64 64

record Rules : Type 0 where
  pub highest-end : keeps_rules (region 4294967264 16 0) ≡ true
  pub past-highest-end : keeps_rules (region 4294967264 20 0) ≡ false
  pub odd_base : keeps_rules (region 2 16 0) ≡ false
  pub odd-length : keeps_rules (region 0 18 0) ≡ false
  pub no_length : keeps_rules (region 0 0 0) ≡ false
  pub shortest : keeps_rules (region 0 4 0) ≡ true
  pub longest : keeps_rules (region 0 16777216 0) ≡ true
  pub too_long : keeps_rules (region 0 16777220 0) ≡ false
  pub adjoining : clear first (region 4160 64 128) ≡ true
  pub shared-address : clear first (region 4156 64 128) ≡ false
  pub shared-byte : clear first (region 8192 64 127) ≡ false
  pub exact : ends_inside 128 first ≡ true
  pub short : ends_inside 127 first ≡ false

rules : Rules
unfolding tests keeps_rules clear ends_inside
rules = record {
  highest-end = refl;
  past-highest-end = refl;
  odd_base = refl;
  odd-length = refl;
  no_length = refl;
  shortest = refl;
  longest = refl;
  too_long = refl;
  adjoining = refl;
  shared-address = refl;
  shared-byte = refl;
  exact = refl;
  short = refl;
}

record Ranges : Type 0 where
  pub whole : permits first Read 4096 64 ≡ true
  pub last : permits first Read 4159 1 ≡ true
  pub past : permits first Read 4159 2 ≡ false
  pub before : permits first Read 4095 1 ≡ false
  pub no-right : permits first Write 4096 4 ≡ false
  pub nothing : permits first Read 4096 0 ≡ false
  pub everything : permits first Read 4096 4294967296 ≡ false
  pub place : place_in first 4100 ≡ 68

ranges : Ranges
unfolding permits
ranges = record {
  whole = refl;
  last = refl;
  past = refl;
  before = refl;
  no-right = refl;
  nothing = refl;
  everything = refl;
  place = refl;
}
