-- Laws of the different contents: they are those of the puts, each once.
use Rattle.std.specs.Prelude.{◌≡◌, refl, Bool, true, false, List, [], ◌∷◌, ℕ, ◌+◌, ◌≤◌, length, if◌then◌else◌}
use Rattle.std.proofs.Common.{ap, sym, ◌∙◌, arith, length-append}
use Rattle.words.specs.Choice.{All}
use Rattle.words.proofs.ChoiceLaws.{true-is-false, fails}
use Rattle.words.specs.Equal.{same}
use Rattle.words.proofs.EqualLaws.{same-equal, equal-same}
use Rattle.plan.specs.Plan.{Piece, put, fill, run, put_bytes, datas}
use Rattle.plan.proofs.PlanDatas.{length-datas}
use Rattle.aplx_share.specs.Contents.{contents, is_among, without, different, Distinct, joined, total_length}

-- ---- lengths
pub length-joined : (cs : List (List ℕ)) → length (joined cs) ≡ total_length cs
unfolding joined total_length
length-joined [] = refl
length-joined (c ∷ cs) = rw (length-append, length-joined cs)

-- the contents are the data of the puts in order
pub joined-contents : (ps : List Piece) → joined (contents ps) ≡ datas ps
unfolding contents joined datas
joined-contents [] = refl
joined-contents (put a d ∷ ps) = rw (joined-contents ps)
joined-contents (fill a n w ∷ ps) = joined-contents ps
joined-contents (run a ∷ ps) = joined-contents ps

pub total_length-contents : (ps : List Piece) → total_length (contents ps) ≡ put_bytes ps
total_length-contents ps = sym (length-joined (contents ps)) ∙ ap length (joined-contents ps) ∙ length-datas ps

-- ---- which contents are kept
pub none-among : (cs : List (List ℕ)) (d : List ℕ) → All (λ (c : List ℕ). c ≡ d → ⊥) cs → is_among cs d ≡ false
unfolding is_among
none-among [] d h = refl
none-among (c ∷ cs) d h = rw (fails (same c d) (λ e. h.0 (same-equal c d e))) (none-among cs d h.1)

among-without : (d e : List ℕ) (cs : List (List ℕ)) → same d e ≡ false → is_among (without d cs) e ≡ is_among cs e
unfolding is_among without
among-without d e [] h = refl
among-without d e (c ∷ cs) h = go (same c d) refl (among-without d e cs h)
  where
    go : (t : Bool) → same c d ≡ t → is_among (without d cs) e ≡ is_among cs e
        → is_among (if t then without d cs else c ∷ without d cs) e ≡ (if same c e then true else is_among cs e)
    go true f r = rw (same-equal c d f, h) r
    go false f r = rw r

-- they are those of the puts
pub among-different : (ds : List (List ℕ)) (e : List ℕ) → is_among (different ds) e ≡ is_among ds e
unfolding is_among different
among-different [] e = refl
among-different (d ∷ ds) e = go (same d e) refl (among-different ds e)
  where
    go : (t : Bool) → same d e ≡ t → is_among (different ds) e ≡ is_among ds e
        → (if t then true else is_among (without d (different ds)) e) ≡ (if t then true else is_among ds e)
    go true h r = refl
    go false h r = among-without d e (different ds) h ∙ r

not-without : (d : List ℕ) (cs : List (List ℕ)) → is_among (without d cs) d ≡ false
unfolding is_among without
not-without d [] = refl
not-without d (c ∷ cs) = go (same c d) refl (not-without d cs)
  where
    go : (t : Bool) → same c d ≡ t → is_among (without d cs) d ≡ false → is_among (if t then without d cs else c ∷ without d cs) d ≡ false
    go true h r = r
    go false h r = rw (h, r)

fewer-without : (d e : List ℕ) (cs : List (List ℕ)) → is_among cs e ≡ false → is_among (without d cs) e ≡ false
unfolding is_among without
fewer-without d e [] h = refl
fewer-without d e (c ∷ cs) h = go (same c e) refl (same c d) h (fewer-without d e cs)
  where
    go : (s : Bool) → same c e ≡ s → (t : Bool) → (if s then true else is_among cs e) ≡ false → (is_among cs e ≡ false → is_among (without d cs) e ≡ false)
        → is_among (if t then without d cs else c ∷ without d cs) e ≡ false
    go true f t g r = true-is-false g
    go false f true g r = r g
    go false f false g r = rw (f, r g)

distinct_without : (d : List ℕ) (cs : List (List ℕ)) → Distinct cs → Distinct (without d cs)
unfolding without
distinct_without d [] h = tt
distinct_without d (c ∷ cs) h = go (same c d) (distinct_without d cs h.1)
  where
    go : (t : Bool) → Distinct (without d cs) → Distinct (if t then without d cs else c ∷ without d cs)
    go true r = r
    go false r = (fewer-without d c cs h.0, r)

-- each is kept once
pub different-distinct : (ds : List (List ℕ)) → Distinct (different ds)
unfolding different
different-distinct [] = tt
different-distinct (d ∷ ds) = (not-without d (different ds), distinct_without d (different ds) (different-distinct ds))

-- contents of which none equals another are all kept
without-none : (d : List ℕ) (cs : List (List ℕ)) → is_among cs d ≡ false → without d cs ≡ cs
unfolding is_among without
without-none d [] h = refl
without-none d (c ∷ cs) h = go (same c d) h (without-none d cs)
  where
    go : (t : Bool) → (if t then true else is_among cs d) ≡ false → (is_among cs d ≡ false → without d cs ≡ cs)
        → (if t then without d cs else c ∷ without d cs) ≡ c ∷ cs
    go true e r = true-is-false e
    go false e r = rw (r e)

pub distinct-different : (ds : List (List ℕ)) → Distinct ds → different ds ≡ ds
unfolding different
distinct-different [] h = refl
distinct-different (d ∷ ds) h = rw (distinct-different ds h.1) (ap (λ (l : List (List ℕ)). d ∷ l) (without-none d ds h.0))

-- ---- what holds of all contents holds of those that are kept, and these are no longer
all_without : (P : List ℕ → Type 0) (d : List ℕ) (cs : List (List ℕ)) → All P cs → All P (without d cs)
unfolding without
all_without P d [] a = tt
all_without P d (c ∷ cs) a = go (same c d) (all_without P d cs a.1)
  where
    go : (t : Bool) → All P (without d cs) → All P (if t then without d cs else c ∷ without d cs)
    go true r = r
    go false r = (a.0, r)

pub all-different : (P : List ℕ → Type 0) (ds : List (List ℕ)) → All P ds → All P (different ds)
unfolding different
all-different P [] a = tt
all-different P (d ∷ ds) a = (a.0, all_without P d (different ds) (all-different P ds a.1))

without-shorter : (d : List ℕ) (cs : List (List ℕ)) → total_length (without d cs) ≤ total_length cs
unfolding total_length without
without-shorter d [] = omega arith
without-shorter d (c ∷ cs) = go (same c d) (without-shorter d cs)
  where
    go : (t : Bool) → total_length (without d cs) ≤ total_length cs → total_length (if t then without d cs else c ∷ without d cs) ≤ length c + total_length cs
    go true r = omega arith
    go false r = omega arith

pub different-shorter : (ds : List (List ℕ)) → total_length (different ds) ≤ total_length ds
unfolding total_length different
different-shorter [] = omega arith
different-shorter (d ∷ ds) = omega (arith, without-shorter d (different ds), different-shorter ds)

-- ---- pieces whose contents are kept: of every put
abbrev pub Keeps : List (List ℕ) → Piece → Type 0
Keeps kept (put a d) = is_among kept d ≡ true
Keeps kept (fill a n w) = Unit {0}
Keeps kept (run a) = Unit {0}

pub keeps-all : (kept : List (List ℕ)) (ps : List Piece) → ((d : List ℕ) → is_among (contents ps) d ≡ true → is_among kept d ≡ true) → All (Keeps kept) ps
unfolding contents is_among
keeps-all kept [] h = tt
keeps-all kept (put a d ∷ ps) h = (h d (rw (equal-same d)), keeps-all kept ps (λ e m. h e (go (same d e) (is_among (contents ps) e) m)))
  where
    go : (s t : Bool) → t ≡ true → (if s then true else t) ≡ true
    go true t m = refl
    go false t m = m
keeps-all kept (fill a n w ∷ ps) h = (tt, keeps-all kept ps h)
keeps-all kept (run a ∷ ps) h = (tt, keeps-all kept ps h)
