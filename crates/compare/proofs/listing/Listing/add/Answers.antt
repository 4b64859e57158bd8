-- `compare::listing::Listing::add` meets its contract: the last stretch is lengthened, or one is appended.
use Rattle.std.proofs.Common.{◌≡◌, ◌+◌, ◌<◌, sym, ◌∙◌, arith, ltb-true, lt-ltb, eqb-true, eq-eqb}
use Rattle.words.proofs.ChoiceLaws.{both, true-is-false}
use Rattle.compare.specs.Code.Listed.{last_listed}
use Rattle.compare.proofs.ListedLaws.{listed-lengthens, listed-appends}
use Rattle.compare.proofs.listing.Listing.add.Goals as goal
use Rattle.compare.proofs.listing.Listing.add.Goals.{Then-ends_before, Else-ends_before}

-- the last stretch adjoins the new one
near : (c : Then-ends_before) → let g = c.args.self.now in (0 < g.count) × ((last_listed g).last + 1 ≡ c.args.stretch.first)
near c =
    let b = both _ _ (sym c.ends_before.ensures ∙ c.if-ends_before.true) in
    (ltb-true _ _ b.0, eqb-true _ _ b.1)

-- or does not
apart : (c : Else-ends_before) → let g = c.args.self.now in 0 < g.count → (last_listed g).last + 1 ≡ c.args.stretch.first → ⊥
apart c p q = true-is-false (sym (rw (lt-ltb _ _ p, eq-eqb _ _ q)) ∙ sym c.ends_before.ensures ∙ c.if-ends_before.false)

pub returns-then-ends_before-clause-listing : goal.returns-then-ends_before-clause-listing
returns-then-ends_before-clause-listing c = let n = near (goal.at.returns-then-ends_before-clause-listing c).Then-ends_before in
    λ l h. listed-lengthens c.args.self.now l h c.args.stretch (omega arith) n.0 n.1

pub returns-else-ends_before-clause-listing : goal.returns-else-ends_before-clause-listing
returns-else-ends_before-clause-listing c = λ l h. listed-appends c.args.self.now l h c.args.stretch (omega arith) (λ p q. apart (goal.at.returns-else-ends_before-clause-listing c).Else-ends_before p q)
