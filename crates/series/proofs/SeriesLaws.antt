-- Laws of series: two series agree where each load agrees on the memory that it finds; what the called code's changes leave.
use Rattle.std.specs.Prelude.{◌≡◌, refl, List, [], ◌∷◌, ℕ, ◌+◌, ◌-◌, length, take, drop, set}
use Rattle.std.proofs.Common.{◌∙◌, arith, length-set, drop-set-lt}
use Rattle.std.proofs.lemmas.List.{drop-set-add, take-set-le}
use Rattle.words.specs.Choice.{All}
use Rattle.words.proofs.RangeLaws.{Apart, before, behind}
use Rattle.series.specs.Series.{Change, changed, Step, Left, series}

-- `Kept` is what holds of memory before every load, `Fit` what holds of a step
pub series-same :
    (f g : ℕ → List ℕ → Left) (Kept : List ℕ → Type 0) (Fit : Step → Type 0)
    → ((s : Step) (m : List ℕ) → Fit s → Kept m → (f s.index m ≡ g s.index m) × Kept (changed s.changes (g s.index m).memory))
    → (steps : List Step) (m : List ℕ) → All Fit steps → Kept m → series f steps m ≡ series g steps m
unfolding series
series-same f g Kept Fit h [] m a k = refl
series-same f g Kept Fit h (s ∷ ss) m a k =
    let one = h s m a.0 k in
    rw (one.0, series-same f g Kept Fit h ss (changed s.changes (g s.index m).memory) a.1 one.1)

pub length-changed : (cs : List Change) (m : List ℕ) → length (changed cs m) ≡ length m
unfolding changed
length-changed [] m = refl
length-changed (c ∷ cs) m = length-changed cs (set m c.place c.byte) ∙ length-set m c.place c.byte

-- k bytes from place q on, of which none is the one that is set
set-outside : (m : List ℕ) (i b q k : ℕ) → Apart i 1 q k → take k (drop q (set m i b)) ≡ take k (drop q m)
set-outside m i b q k (before h) = rw (drop-set-lt q m i b (omega arith))
set-outside m i b q k (behind h) =
    let e : i ≡ q + (i - q) = omega arith in
    rw (e, drop-set-add q m (i - q) b, take-set-le k (drop q m) (i - q) b (omega arith))

-- the same, where no change writes one
pub changed-outside : (q k : ℕ) (cs : List Change) (m : List ℕ) → All (λ c. Apart c.place 1 q k) cs → take k (drop q (changed cs m)) ≡ take k (drop q m)
unfolding changed
changed-outside q k [] m a = refl
changed-outside q k (c ∷ cs) m a = changed-outside q k cs (set m c.place c.byte) a.1 ∙ set-outside m c.place c.byte q k a.0
