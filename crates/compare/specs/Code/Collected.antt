-- Laws of the list that is made address by address: the stretches below an address, or more than there may be.
use Rattle.std.specs.Prelude.{◌≡◌, List, map, ℕ, ◌+◌, ◌-◌, ◌≤◌, ◌<◌, eqb, length, if◌then◌else◌}
use Rattle.std.proofs.Common.{sym, arith}
use Rattle.stretches.specs.Stretches.{Stretch, add, below}
use Rattle.stretches.proofs.StretchesLaws.{longer, block}
use Rattle.stretches.proofs.StretchesRecordsLaws.{recorded_none, recorded-same}
use Rattle.compare.specs.declared.block.Block.{Block}
use Rattle.compare.specs.declared.listing.Listing.{Listing}
use Rattle.compare.specs.Compare.{most_stretches}
use Rattle.compare.specs.Code.{Alike}
use Rattle.compare.specs.Code.Listed.{stretch_is, Listed}

-- a list of stretches with the block of addresses that begins at x
abbrev pub with_block : ℕ → Block → List Stretch → List Stretch
with_block x b l = if eqb b.old b.new then l else add (record { first = x; last = b.end - 1; old = b.old; new = b.new }) l

-- the list has the stretches of two images below address x; or there are too many of them
pub record Collected (g : Listing) (old new : ℕ → ℕ) (x : ℕ) : Type 0 where
  pub most : g.count ≤ most_stretches + 1
  pub listing : g.count ≤ most_stretches → Listed g (below old new x)
  pub many : most_stretches < g.count → most_stretches < length (below old new x)

module _ (g : Listing) (old new : ℕ → ℕ) where
  pub collected-none : g.count ≡ 0 → Collected g old new 0
  collected-none h =
      record {
        most = omega arith;
        listing = λ i. rw h (recorded_none old new (map stretch_is g.stretches));
        many = λ i. absurd (omega arith);
      }

  -- too many below x are too many below a higher address
  pub collected-many : (x y : ℕ) → x ≤ y → most_stretches < g.count → Collected g old new x → Collected g old new y
  collected-many x y h k c =
      record {
        most = c.most;
        listing = λ i. absurd (omega arith);
        many = λ i. omega (arith, c.many i, longer old new x y h);
      }

  pub collected-end : (x y : ℕ) → x ≤ y → y ≤ x → Collected g old new x → Collected g old new y
  collected-end x y h k c = let z : x ≡ y = omega arith in rw z at c

  -- one block more
  pub collected-block :
      (x : ℕ) (b : Block) (longer-list : Listing) → g.count ≤ most_stretches → Collected g old new x
      → x < b.end → b.old ≡ old x → b.new ≡ new x → Alike old new x b.end (eqb b.old b.new)
      → longer-list.count ≤ g.count + 1
      → ((l : List Stretch) → Listed g l → Listed longer-list (with_block x b l)) → Collected longer-list old new b.end
  collected-block x b longer-list few c h e f a m l =
      let s = block old new x b.end b.old b.new h e f a in
      let i = recorded-same longer-list.count (map stretch_is longer-list.stretches) _ _ (sym s) (l (below old new x) (c.listing few)) in
      record { most = omega arith; listing = λ j. i; many = λ j. omega (arith, i.0) }
