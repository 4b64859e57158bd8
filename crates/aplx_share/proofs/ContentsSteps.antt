-- Laws of contents one more at a time: one that is among them changes nothing, and a new one comes behind all others.
use Rattle.std.specs.Prelude.{◌≡◌, refl, Bool, true, false, List, [], ◌∷◌, ◌++◌, ℕ, ◌+◌, ◌≤◌, ◌<◌, length, take, drop, get_or, if◌then◌else◌}
use Rattle.std.proofs.Common.{ap, sym, ◌∙◌, append_assoc, append-nil, add-one, arith, length-append, take-append-drop, take-suc}
use Rattle.words.specs.Equal.{same}
use Rattle.words.proofs.EqualLaws.{same-swap}
use Rattle.plan.specs.Plan.{Piece, put, fill, run}
use Rattle.aplx_share.specs.Contents.{contents, is_among, without, different, joined, total_length}

pub contents-append : (ps qs : List Piece) → contents (ps ++ qs) ≡ contents ps ++ contents qs
unfolding contents
contents-append [] qs = refl
contents-append (put a d ∷ ps) qs = rw (contents-append ps qs)
contents-append (fill a n w ∷ ps) qs = contents-append ps qs
contents-append (run a ∷ ps) qs = contents-append ps qs

pub total_length-append : (cs ds : List (List ℕ)) → total_length (cs ++ ds) ≡ total_length cs + total_length ds
unfolding total_length
total_length-append [] ds = omega arith
total_length-append (c ∷ cs) ds = omega (arith, total_length-append cs ds)

joined-append : (cs ds : List (List ℕ)) → joined (cs ++ ds) ≡ joined cs ++ joined ds
unfolding joined
joined-append [] ds = refl
joined-append (c ∷ cs) ds = rw (joined-append cs ds, append_assoc)

pub among-append : (cs ds : List (List ℕ)) (d : List ℕ) → is_among (cs ++ ds) d ≡ (if is_among cs d then true else is_among ds d)
unfolding is_among
among-append [] ds d = refl
among-append (c ∷ cs) ds d = go (same c d) (among-append cs ds d)
  where
    go : (t : Bool) → is_among (cs ++ ds) d ≡ (if is_among cs d then true else is_among ds d)
        → (if t then true else is_among (cs ++ ds) d) ≡ (if (if t then true else is_among cs d) then true else is_among ds d)
    go true e = refl
    go false e = e

-- ---- one content more
without-append : (d : List ℕ) (xs ys : List (List ℕ)) → without d (xs ++ ys) ≡ without d xs ++ without d ys
unfolding without
without-append d [] ys = refl
without-append d (x ∷ xs) ys = go (same x d) (without-append d xs ys)
  where
    go : (t : Bool) → without d (xs ++ ys) ≡ without d xs ++ without d ys
        → (if t then without d (xs ++ ys) else x ∷ without d (xs ++ ys)) ≡ (if t then without d xs else x ∷ without d xs) ++ without d ys
    go true e = e
    go false e = rw e

-- those that one content more adds
unfoldable pub new_ones : List (List ℕ) → List ℕ → List (List ℕ)
new_ones ds d = if is_among ds d then [] else d ∷ []

pub different-more : (ds : List (List ℕ)) (d : List ℕ) → different (ds ++ d ∷ []) ≡ different ds ++ new_ones ds d
unfolding different without is_among new_ones
different-more [] d = refl
different-more (x ∷ xs) d =
    rw (different-more xs d, without-append x (different xs) (new_ones xs d))
    (ap (λ (l : List (List ℕ)). x ∷ (without x (different xs) ++ l)) (go (is_among xs d) (same x d) refl))
  where
    go : (t s : Bool) → same x d ≡ s → without x (if t then [] else d ∷ []) ≡ (if (if s then true else t) then [] else d ∷ [])
    go true true e = refl
    go true false e = refl
    go false true e = rw (same-swap d x, e)
    go false false e = rw (same-swap d x, e)

pub total_length-next : (cs : List (List ℕ)) (k : ℕ) → k < length cs → total_length (take (k + 1) cs) ≡ total_length (take k cs) + length (get_or cs k [])
unfolding total_length
total_length-next cs k b = rw (add-one k, take-suc cs k [] b, total_length-append (take k cs) (get_or cs k [] ∷ [])) (omega arith)

pub joined-next : (cs : List (List ℕ)) (k : ℕ) → k < length cs → joined (take (k + 1) cs) ≡ joined (take k cs) ++ get_or cs k []
unfolding joined
joined-next cs k b = rw (add-one k, take-suc cs k [] b, joined-append (take k cs) (get_or cs k [] ∷ []), append-nil (get_or cs k []))

pub joined-most : (cs : List (List ℕ)) (k : ℕ) → length (joined (take k cs)) ≤ length (joined cs)
joined-most cs k =
    let e : joined cs ≡ joined (take k cs) ++ joined (drop k cs) = ap joined (sym (take-append-drop k cs)) ∙ joined-append (take k cs) (drop k cs) in
    omega (arith, ap length e, length-append (joined (take k cs)) (joined (drop k cs)))

-- what more contents add comes behind
pub different-prefix : (ds es : List (List ℕ)) → (more : List (List ℕ)) × (different (ds ++ es) ≡ different ds ++ more)
different-prefix ds [] = ([], ap different (append-nil ds) ∙ sym (append-nil (different ds)))
different-prefix ds (e ∷ es) =
    let r = different-prefix (ds ++ e ∷ []) es in (
      new_ones ds e ++ r.0,
      ap different (sym (append_assoc ds (e ∷ []) es)) ∙ r.1 ∙ ap (λ (l : List (List ℕ)). l ++ r.0) (different-more ds e)
          ∙ append_assoc (different ds) (new_ones ds e) r.0,
    )
