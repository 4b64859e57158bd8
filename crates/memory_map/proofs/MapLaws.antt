-- Laws of a map's regions: each keeps the rules, and two are one or share nothing.
use Rattle.std.specs.Prelude.{◌≡◌, Bool, true, List, ◌∷◌, ◌⊎◌, ℕ, ◌≤◌}
use Rattle.std.proofs.Common.{inl, inr, arith}
use borrow.Author.Tests.{leb-true, le-leb}
use Rattle.words.specs.Choice.{every}
use Rattle.words.proofs.ChoiceLaws.{both}
use Rattle.words.proofs.RangeLaws.{apart-swap}
use Rattle.memory_region.specs.declared.region.Region.{Region}
use Rattle.memory_map.specs.declared.map.Map.{Map}
use Rattle.memory_region.specs.Region.{clear, ends_inside}
use Rattle.memory_region.proofs.RegionLaws.{Kept, Clear, keeps-facts, clear-facts}
use Rattle.memory_map.specs.Map.{regions_of, all_keep_rules, well_formed, sound}

-- the region stands in the list
pub data In (g : Region) : List Region → Type 0 where
  first : {h : Region} {l : List Region} → g ≡ h → In g (h ∷ l)
  later : {h : Region} {l : List Region} → In g l → In g (h ∷ l)

pub every_in : {g : Region} {l : List Region} (t : Region → Bool) → every t l ≡ true → In g l → t g ≡ true
unfolding every
every_in t e (first {h} {l} q) = rw q (both (t h) (every t l) e).0
every_in t e (later {h} {l} i) = every_in t (both (t h) (every t l) e).1 i

-- what the rules say of the first region and of those behind it
pub record Rules (g : Region) (l : List Region) : Type 0 where
  pub kept : Kept g
  pub others : every (clear g) l ≡ true
  pub rest : all_keep_rules l ≡ true

pub rules : {g : Region} {l : List Region} → all_keep_rules (g ∷ l) ≡ true → Rules g l
unfolding all_keep_rules
rules {g} {l} e =
    let z = both _ _ e in
    let y = both _ _ z.0 in
    record { kept = keeps-facts y.0; others = y.1; rest = z.1 }

pub in_kept : {g : Region} {l : List Region} → all_keep_rules l ≡ true → In g l → Kept g
in_kept e (first q) = rw q (rules e).kept
in_kept e (later i) = in_kept (rules e).rest i

-- the first region is clear of those behind it
pub behind-clear : {g h : Region} {l : List Region} → all_keep_rules (g ∷ l) ≡ true → In h l → Clear g h
behind-clear {g} e i =
    let f = rules e in
    let k = in_kept f.rest i in
    clear-facts (omega arith) (omega arith) (every_in (clear g) f.others i)

clear-swap : {g h : Region} → Clear g h → Clear h g
clear-swap c = record { addresses = apart-swap c.addresses; bytes = apart-swap c.bytes }

pub same-or-clear : {g h : Region} {l : List Region} → all_keep_rules l ≡ true → In g l → In h l → (g ≡ h) ⊎ Clear g h
same-or-clear e (first q) (first s) = inl (cc)
same-or-clear e (first q) (later j) = inr (rw q (behind-clear e j))
same-or-clear e (later i) (first s) = inr (rw s (clear-swap (behind-clear e i)))
same-or-clear e (later i) (later j) = same-or-clear (rules e).rest i j

-- what soundness says
pub record Sound (m : Map) (n : ℕ) : Type 0 where
  pub few : m.count ≤ 8
  pub keep : all_keep_rules (regions_of m) ≡ true
  pub ends : every (ends_inside n) (regions_of m) ≡ true

module _ {m : Map} {n : ℕ} where
  pub sound-facts : sound m n ≡ true → Sound m n
  unfolding sound well_formed
  sound-facts e =
      let z = both _ _ e in
      let y = both _ _ z.0 in
      record { few = leb-true _ _ y.0; keep = y.1; ends = z.1 }

  pub facts-sound : Sound m n → sound m n ≡ true
  unfolding sound well_formed
  facts-sound s = simp (le-leb _ _ s.few, s.keep, s.ends)
