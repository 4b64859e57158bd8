-- Laws of the comparison: past the address space nothing differs; what an answer with stretches says.
use Rattle.std.specs.Prelude.{◌≡◌, Bool, false, not, List, ℕ, ◌≤◌, ltb, length}
use Rattle.std.proofs.Common.{ap, sym, ◌∙◌, arith, ltb-false, eq-eqb}
use Rattle.words.specs.Choice.{All}
use Rattle.words.proofs.ChoiceLaws.{from-else, all_map}
use Rattle.plan.specs.Plan.{Piece}
use Rattle.plan.specs.Meaning.{stretch}
use Rattle.stretches.specs.Stretches.{Stretch, differs}
use Rattle.stretches.proofs.StretchesExact.{any-bound}
use Rattle.compare.specs.Reading.{EndsBy}
use Rattle.compare.specs.LastByte.{covers, not_stored, last_byte}
use Rattle.compare.specs.LastByte.Laws.{not_covered}
use Rattle.compare.proofs.ReadingLaws.{ends-past, stretch-all}
use Rattle.compare.specs.Compare.{Which, refuses, finds, differences, most_stretches, limited}

-- the pieces of a stretch that end at b or before it store nothing from b on
pub none-past : (b x : ℕ) (ps : List Piece) → b ≤ x → All (EndsBy b) ps → last_byte (stretch ps) x ≡ not_stored
unfolding last_byte
none-past b x ps h e =
    not_covered (stretch ps) x not_stored
    (all_map (EndsBy b) (λ p. covers p x ≡ false) (stretch ps) (λ p g. ends-past b x p h g) (stretch-all (EndsBy b) ps e))

pub same-past : (b x : ℕ) (old new : List Piece) → b ≤ x → All (EndsBy b) old → All (EndsBy b) new → differs (last_byte (stretch old)) (last_byte (stretch new)) x ≡ false
same-past b x old new h e f = ap not (eq-eqb _ _ (none-past b x old h e ∙ sym (none-past b x new h f)))

-- so any bound that is not below b gives the same
pub bound : (b c : ℕ) (old new : List Piece) → b ≤ c → All (EndsBy b) old → All (EndsBy b) new → differences c old new ≡ differences b old new
bound b c old new h e f = any-bound (last_byte (stretch old)) (last_byte (stretch new)) b c h (λ x g. same-past b x old new g e f)

-- ---- answers
pub refuses-no-finds : {w : Which} {x i : ℕ} {l : List Stretch} {same : Bool} → refuses w x i ≡ finds l same → ⊥
refuses-no-finds e = let z : ◌≡◌ {A = ℕ} 0 1 = cc in omega arith

-- the stretches of an answer that has some
pub limited-finds : (l : List Stretch) (s : Bool) {k : List Stretch} {t : Bool} → limited l s ≡ finds k t → (length l ≤ most_stretches) × (l ≡ k) × (s ≡ t)
limited-finds l s e =
    let f = from-else (ltb most_stretches (length l)) refuses-no-finds e in
    let g = f.1 in
    (ltb-false most_stretches (length l) f.0, cc, cc)
