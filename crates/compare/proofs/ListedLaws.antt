-- Laws of the code's list of stretches: one more lengthens the last, or stands behind it.
use Rattle.std.specs.Prelude.{◌≡◌, List, ℕ, ◌+◌, ◌-◌, ◌≤◌, ◌<◌, map, length, get_or, set}
use Rattle.std.proofs.Common.{ap, sym, ◌∙◌, arith, get_or-take}
use Rattle.std.proofs.lemmas.List.{length-map, map-set, get_or-map}
use Rattle.stretches.specs.Stretches.{Stretch, add}
use Rattle.stretches.proofs.StretchesRecordsLaws.{recorded-lengthens, recorded-appends}
use Rattle.compare.specs.declared.listing.Stretch as CodeStretch
use Rattle.compare.specs.declared.listing.Listing.{Listing}
use Rattle.compare.specs.Code.Listed.{stretch_is, last_listed, Listed}

abbrev none : Stretch
none = record { first = 0; last = 0; old = 0; new = 0 }

module _ (g : Listing) (l : List Stretch) (h : Listed g l) where
  -- stretch i
  pub listed_at : (i : ℕ) → i < g.count → g.count ≤ length g.stretches → get_or l i none ≡ stretch_is (get_or g.stretches i (record { first = 0; last = 0; old = 0; new = 0 }))
  listed_at i k m =
      ap (λ (s : List Stretch). get_or s i none) (sym h.1)
      ∙ get_or-take g.count (map stretch_is g.stretches) i none k
      ∙ get_or-map stretch_is g.stretches i _ none (omega arith)

  module _ (t : CodeStretch.Stretch) (few : g.count < length g.stretches) where
    last-is : 0 < g.count → get_or (map stretch_is g.stretches) (g.count - 1) none ≡ stretch_is (last_listed g)
    last-is k = get_or-map stretch_is g.stretches (g.count - 1) _ none (omega arith)

    pub listed-lengthens : 0 < g.count → (last_listed g).last + 1 ≡ t.first
        → Listed (record { stretches = set g.stretches (g.count - 1) (record { first = (last_listed g).first; last = t.last; old = (last_listed g).old; new = (last_listed g).new }); count = g.count }) (add (stretch_is t) l)
    listed-lengthens k e =
        let i = recorded-lengthens (map stretch_is g.stretches) g.count l h (stretch_is t) none k (ap (λ (s : Stretch). s.last + 1) (last-is k) ∙ e) in
        rw (map-set stretch_is g.stretches (g.count - 1) (record { first = (last_listed g).first; last = t.last; old = (last_listed g).old; new = (last_listed g).new })) (rw (last-is k) at i)

    pub listed-appends : (0 < g.count → (last_listed g).last + 1 ≡ t.first → ⊥)
        → Listed (record { stretches = set g.stretches g.count t; count = g.count + 1 }) (add (stretch_is t) l)
    listed-appends apart =
        let i = recorded-appends (map stretch_is g.stretches) g.count l h (stretch_is t) none (rw length-map few) (λ k e. apart k (ap (λ (s : Stretch). s.last + 1) (sym (last-is k)) ∙ e)) in
        rw (map-set stretch_is g.stretches g.count t) i
