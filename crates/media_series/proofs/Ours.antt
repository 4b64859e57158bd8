-- What holds of ours: with either APLX packing, by demand 3. And what is left of the proviso where the called code writes the same bytes in
-- both series: nothing.
use Rattle.std.specs.Prelude.{List, [], ◌∷◌, ℕ}
use Rattle.series.specs.Series.{Step, Left}
use Rattle.series.specs.Software as software
use Rattle.series.proofs.Proved.Theorem.{demand3}
use Rattle.shared_series.specs.Claims.{Claims}
use Rattle.shared_series.specs.Software as shared
use Rattle.shared_series.proofs.Ours as SharedSeries
use Rattle.media_series.specs.Claims.{BothStep, Result, Agree, AllAgree, EitherMedium}
use Rattle.media_series.proofs.ClaimsLaws.{equal-changed}
use Rattle.media_series.proofs.Proved.Theorem.{either-medium}

pub ours : EitherMedium software.ours
ours = either-medium software.ours demand3

-- with one copy of equal put data in the APLX image
pub sharing : EitherMedium shared.sharing
sharing = either-medium shared.sharing (SharedSeries.ours).demand

-- ---- called code that writes the same bytes in both series
abbrev pub in_both : List Step → List BothStep
in_both [] = []
in_both (t ∷ ts) = record { index = t.index; aplx-changes = t.changes; srom-changes = t.changes } ∷ in_both ts

-- each load agrees
abbrev pub EachAgrees : (p n : ℕ) → (ℕ → Result) → List Step → (from_aplx from_srom : List Left) → Type 0
EachAgrees p n meant [] ks ls = Unit {0}
EachAgrees p n meant (t ∷ ts) [] ls = ⊥
EachAgrees p n meant (t ∷ ts) (k ∷ ks) [] = ⊥
EachAgrees p n meant (t ∷ ts) (k ∷ ks) (l ∷ ls) = Agree p n (meant t.index) k l × EachAgrees p n meant ts ks ls

pub same_code : (p n : ℕ) (meant : ℕ → Result) (steps : List Step) (from_aplx from_srom : List Left) → AllAgree p n meant (in_both steps) from_aplx from_srom
    → EachAgrees p n meant steps from_aplx from_srom
same_code p n meant [] ks ls h = tt
same_code p n meant (t ∷ ts) [] ls h = absurd h
same_code p n meant (t ∷ ts) (k ∷ ks) [] h = absurd h
same_code p n meant (t ∷ ts) (k ∷ ks) (l ∷ ls) h =
    let e = equal-changed p n t.changes k.memory l.memory h.0.memory-equal in
    (h.0, same_code p n meant ts ks ls (h.1 e))
