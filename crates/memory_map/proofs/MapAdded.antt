-- Laws of an addition. None of them says where in the map the region goes.
use Rattle.std.proofs.Math.Path.{◌≡◌, refl}
use Rattle.std.specs.Prelude.{Bool, List, [], ◌∷◌, ℕ, zero, suc, ◌+◌, ◌≤◌, ◌<◌, leb, set}
use Rattle.std.proofs.Math.Bool.{true, false}
use Rattle.std.proofs.Common.{arith, length-set}
use Rattle.std.proofs.Math.ListN.{length}
use borrow.Author.Tests.{leb-true}
use Rattle.words.specs.Choice.{All}
use Rattle.words.proofs.ChoiceLaws.{both}
use Rattle.memory_region.specs.declared.region.Region.{Region}
use Rattle.memory_map.specs.declared.map.Map.{Map}
use Rattle.memory_map.specs.Map.{regions_of, all_keep_rules, well_formed, extended, Addition, taken, refused, add}

all_set : (P : Region → Type 0) (l : List Region) (i : ℕ) (g : Region) → All P l → P g → All P (set l i g)
all_set P [] i g h p = tt
all_set P (x ∷ l) zero g h p = (p, h.1)
all_set P (x ∷ l) (suc i) g h p = (h.0, all_set P l i g h.1 p)

module _ (m : Map) (g : Region) where
  -- both ways that an addition can go
  cases : (Q : Addition → Type 0) → (well_formed (extended m g) ≡ true → Q (record { map = extended m g; verdict = taken }))
      → Q (record { map = m; verdict = refused 1 0 }) → Q (add m g)
  unfolding add
  cases Q x y = go (well_formed (extended m g)) refl
    where
      go : (b : Bool) → well_formed (extended m g) ≡ b → Q (add m g)
      go true e = rw e (x e)
      go false e = rw e y

  -- the map of a taken addition keeps the rules and has at most eight regions, and there was room for the region
  pub taken-well-formed : (add m g).verdict ≡ taken → well_formed (add m g).map ≡ true
  taken-well-formed =
      cases (λ a. a.verdict ≡ taken → well_formed a.map ≡ true) (λ h e. h) (λ e. let z : ◌≡◌ {A = ℕ} 0 1 = cc in absurd (omega arith))

  pub taken-few : (add m g).verdict ≡ taken → (add m g).map.count ≤ 8
  unfolding well_formed
  taken-few e = leb-true _ _ (both _ _ (taken-well-formed e)).0

  pub taken-room : (add m g).verdict ≡ taken → m.count < 8
  unfolding well_formed extended
  taken-room =
      cases (λ a. a.verdict ≡ taken → m.count < 8)
      (λ h e. omega (arith, leb-true (m.count + 1) 8 (both (leb (m.count + 1) 8) (all_keep_rules (regions_of (extended m g))) h).0))
      (λ e. let z : ◌≡◌ {A = ℕ} 0 1 = cc in absurd (omega arith))

  -- "a refused addition hands the map back as it was"
  pub refused-same : (n p : ℕ) → (add m g).verdict ≡ refused n p → (add m g).map ≡ m
  refused-same n p =
      cases (λ a. a.verdict ≡ refused n p → a.map ≡ m) (λ h e. let z : ◌≡◌ {A = ℕ} 0 1 = cc in absurd (omega arith)) (λ e. refl)

  -- the map has as many places for regions, and what holds of its regions and of the new one holds of those afterwards
  pub added-length : length (add m g).map.regions ≡ length m.regions
  unfolding extended
  added-length = cases (λ a. length a.map.regions ≡ length m.regions) (λ h. simp length-set) refl

  pub added-all : (P : Region → Type 0) → All P m.regions → P g → All P (add m g).map.regions
  unfolding extended
  added-all P all new = cases (λ a. All P a.map.regions) (λ h. all_set P m.regions m.count g all new) all
