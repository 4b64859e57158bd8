-- The code's list of stretches.
use Rattle.std.specs.Prelude.{List, ◌-◌, map, get_or}
use Rattle.stretches.specs.Stretches.{Stretch}
use Rattle.stretches.specs.Stretches.Records.{Recorded}
use Rattle.compare.specs.declared.listing.Stretch as CodeStretch
use Rattle.compare.specs.declared.listing.Listing.{Listing}

abbrev pub stretch_is : CodeStretch.Stretch → Stretch
stretch_is s = record { first = s.first; last = s.last; old = s.old; new = s.new }

-- the last one that is listed, where there is one
abbrev pub last_listed : Listing → CodeStretch.Stretch
last_listed g = get_or g.stretches (g.count - 1) (record { first = 0; last = 0; old = 0; new = 0 })

-- the stretches that are listed are l
abbrev pub Listed : Listing → List Stretch → Type 0
Listed g l = Recorded g.count (map stretch_is g.stretches) l
