-- Computed examples of the calls.
use Rattle.std.specs.Prelude.{◌≡◌, refl, true, List, [], ◌∷◌, ◌++◌, ℕ, take, replicate}
use Rattle.words.specs.Four.{four_bytes}
use Rattle.words.specs.Store.{store}
use Rattle.srom_pack.specs.Open as SromGroup
use Rattle.aplx_share.specs.Open as AplxGroup
use Rattle.aplx_read.specs.Open as ReadGroup
use Rattle.aplx_check.specs.Open as CheckGroup
use Rattle.plan.specs.Open as PlanGroup
use Rattle.compare.specs.Reading.{compared_at, compared_pieces, read_compared}
use Rattle.compare.specs.Compare.{finds, stretch_bytes, compared_below, compared}
use Rattle.map_table.specs.Table.{addition, table_after}
use Rattle.map_table.specs.Open as TableGroup
use Rattle.reidhintsje.specs.Calls.{verdict_number, sound_call, identity_of, unit_at, srom_pack_call, aplx_pack_call, aplx_shared_pack_call, aplx_read_call, aplx_check_call, comparing, compare_call}

-- ---- maps: the empty one, and one region of 256 bytes
zeros : List ℕ
zeros = replicate 132 0

one : List ℕ
one = table_after zeros (addition zeros 4096 256 0 7)

record Maps : Type 0 where
  pub added : verdict_number (addition zeros 4096 256 0 7).verdict ≡ 0
  pub not-added : verdict_number (addition zeros 4096 256 0 8).verdict ≡ 1
  pub short : sound_call (replicate 131 0) 0 ≡ 1
  pub whole : sound_call zeros 0 ≡ 0
  pub held : sound_call one 256 ≡ 0
  pub not-held : sound_call one 255 ≡ 1

maps : Maps
unfolding TableGroup.tables zeros one
maps = record { added = refl; not-added = refl; short = refl; whole = refl; held = refl; not-held = refl }

-- ---- arguments: five numbers as an identity, and the units of the targets
record Arguments : Type 0 where
  pub identity : identity_of (0x10203 ∷ 0x104 ∷ 0x205 ∷ 0x30607 ∷ 0xf0000008 ∷ [])
      ≡ record { point_to_point = 0x203; physical_cpu = 4; virtual_cpu = 5; version = 0x607; date = 0xf0000008 }
  pub aplx : unit_at 0 ≡ 32
  pub srom : unit_at 1 ≡ 4
  pub any : unit_at 2 ≡ 1

arguments : Arguments
unfolding unit_at
arguments = record { identity = refl; aplx = refl; srom = refl; any = refl }

-- ---- plans
-- a plan of one fill of 32 bytes, packed into no room, into one byte too few, and into enough; and a plan that is refused
fill-plan : List ℕ
fill-plan = four_bytes 1 16 32 0 ++ four_bytes 2 256 32 7

record Packings : Type 0 where
  pub aplx-none : (aplx_pack_call fill-plan []).numbers ≡ 10 ∷ 1 ∷ 0 ∷ 0 ∷ 0 ∷ 0 ∷ 0 ∷ 32 ∷ []
  pub aplx-less : aplx_pack_call fill-plan (replicate 31 9) ≡ record { numbers = 10 ∷ 1 ∷ 0 ∷ 0 ∷ 0 ∷ 0 ∷ 0 ∷ 32 ∷ []; output = replicate 31 9 }
  pub aplx-whole : (aplx_pack_call fill-plan (replicate 32 9)).numbers ≡ 0 ∷ 0 ∷ 8 ∷ 0 ∷ 0 ∷ 0 ∷ 0 ∷ 32 ∷ []
  pub srom-none : (srom_pack_call fill-plan []).numbers ≡ 10 ∷ 1 ∷ 0 ∷ 0 ∷ 0 ∷ 0 ∷ 0 ∷ 41 ∷ []
  pub srom-whole : (srom_pack_call fill-plan (replicate 41 9)).numbers ≡ 0 ∷ 0 ∷ 8 ∷ 0 ∷ 0 ∷ 0 ∷ 0 ∷ 41 ∷ []
  pub cut_short : (srom_pack_call (take 31 fill-plan) []).numbers ≡ 2 ∷ 0 ∷ 0 ∷ 0 ∷ 0 ∷ 0 ∷ 0 ∷ 0 ∷ []

packings : Packings
unfolding fill-plan SromGroup.image AplxGroup.image
packings =
    record { aplx-none = refl; aplx-less = refl; aplx-whole = refl; srom-none = refl; srom-whole = refl; cut_short = refl }

-- two puts of the same 32 bytes, packed with one copy of them: into no room, into one byte too few, and into enough, which is too few without
-- sharing
twice-plan : List ℕ
twice-plan = four_bytes 2 16 48 32 ++ (four_bytes 1 256 32 0 ++ (four_bytes 1 512 32 0 ++ replicate 32 5))

record SharedPackings : Type 0 where
  pub none : (aplx_shared_pack_call twice-plan []).numbers ≡ 10 ∷ 2 ∷ 0 ∷ 0 ∷ 0 ∷ 0 ∷ 0 ∷ 80 ∷ []
  pub less : aplx_shared_pack_call twice-plan (replicate 79 9) ≡ record { numbers = 10 ∷ 2 ∷ 0 ∷ 0 ∷ 0 ∷ 0 ∷ 0 ∷ 80 ∷ []; output = replicate 79 9 }
  pub whole : (aplx_shared_pack_call twice-plan (replicate 80 9)).numbers ≡ 0 ∷ 0 ∷ 8 ∷ 0 ∷ 0 ∷ 0 ∷ 0 ∷ 80 ∷ []
  pub not-shared : (aplx_pack_call twice-plan (replicate 80 9)).numbers ≡ 10 ∷ 2 ∷ 0 ∷ 0 ∷ 0 ∷ 0 ∷ 0 ∷ 112 ∷ []
  pub cut_short : (aplx_shared_pack_call (take 79 twice-plan) []).numbers ≡ 2 ∷ 0 ∷ 0 ∷ 0 ∷ 0 ∷ 0 ∷ 0 ∷ 0 ∷ []

shared-packings : SharedPackings
unfolding twice-plan AplxGroup.image
shared-packings = record { none = refl; less = refl; whole = refl; not-shared = refl; cut_short = refl }

-- the image of the fill read back, into one byte too few and into enough; and an image without an end
fill-image : List ℕ
fill-image = four_bytes 3 256 32 7 ++ four_bytes 0xffffffff 0 0 0

record ReadBacks : Type 0 where
  pub less : aplx_read_call fill-image (replicate 31 9) ≡ record { numbers = 10 ∷ 1 ∷ 0 ∷ 0 ∷ 0 ∷ 0 ∷ 0 ∷ 32 ∷ []; output = replicate 31 9 }
  pub whole : aplx_read_call fill-image (replicate 33 9) ≡ record { numbers = 0 ∷ 0 ∷ 8 ∷ 0 ∷ 0 ∷ 0 ∷ 0 ∷ 32 ∷ []; output = fill-plan ++ 9 ∷ [] }
  pub no_end : aplx_read_call (take 31 fill-image) (replicate 33 9) ≡ record { numbers = 2 ∷ 1 ∷ 0 ∷ 0 ∷ 0 ∷ 0 ∷ 0 ∷ 0 ∷ []; output = replicate 33 9 }

read-backs : ReadBacks
unfolding fill-plan fill-image ReadGroup.reader store
read-backs = record { less = refl; whole = refl; no_end = refl }

-- its image checked against the plan; without its end; and against no plan
record Checks : Type 0 where
  pub follows : aplx_check_call fill-plan fill-image ≡ 0 ∷ 0 ∷ 15 ∷ 0 ∷ 0 ∷ 0 ∷ 0 ∷ 0 ∷ []
  pub endless : aplx_check_call fill-plan (take 31 fill-image) ≡ 30 ∷ 1 ∷ 0 ∷ 0 ∷ 0 ∷ 0 ∷ 0 ∷ 0 ∷ []
  pub no-plan : aplx_check_call [] fill-image ≡ 2 ∷ 0 ∷ 0 ∷ 0 ∷ 0 ∷ 0 ∷ 0 ∷ 0 ∷ []

checks : Checks
unfolding fill-plan fill-image CheckGroup.checker
checks = record { follows = refl; endless = refl; no-plan = refl }

-- two plans compared: an output a byte too small, no bytes as the old plan and as the new one, and one stretch that was found
record Comparisons : Type 0 where
  pub less : compare_call [] [] (replicate 8191 9) ≡ record { numbers = 10 ∷ 0 ∷ 0 ∷ 0 ∷ 0 ∷ 0 ∷ 0 ∷ 8192 ∷ []; output = replicate 8191 9 }
  pub no_old : compare_call [] [] (replicate 8192 9) ≡ record { numbers = 2 ∷ 0 ∷ 0 ∷ 1 ∷ 0 ∷ 0 ∷ 0 ∷ 0 ∷ []; output = replicate 8192 9 }
  pub no-new : (compare_call fill-plan [] (replicate 8192 9)).numbers ≡ 2 ∷ 0 ∷ 0 ∷ 2 ∷ 0 ∷ 0 ∷ 0 ∷ 0 ∷ []
  pub found : comparing (finds (record { first = 16; last = 19; old = 256; new = 7 } ∷ []) true) (replicate 17 9)
      ≡ record { numbers = 0 ∷ 0 ∷ 13 ∷ 0 ∷ 0 ∷ 0 ∷ 1 ∷ 16 ∷ []; output = four_bytes 16 19 256 7 ++ 9 ∷ [] }

comparisons : Comparisons
unfolding fill-plan PlanGroup.reader compared_at compared_pieces read_compared compared_below stretch_bytes compared store
comparisons = record { less = refl; no_old = refl; no-new = refl; found = refl }
