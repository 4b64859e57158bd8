-- Laws of the place of a content among contents that stand one behind the other.
use Rattle.std.specs.Prelude.{◌≡◌, refl, Bool, true, false, ℕ, suc, ◌+◌, ◌%◌, ◌≤◌, ◌<◌, length, take, get_or, if◌then◌else◌}
use Rattle.std.proofs.Math.Path.{ap}
use Rattle.std.proofs.Common.{sym, ◌∙◌, add-zero, add-one, arith, length-append, take_all, take_at}
use mathlib.Core.List.{List, [], ◌∷◌, ◌++◌, append_assoc, append-nil}
use Rattle.std.proofs.Math.ListN.{drop}
use Rattle.std.proofs.Math.Seq.{take-suc, split_at, drop-append-add}
use Rattle.words.specs.Choice.{All}
use Rattle.words.proofs.ChoiceLaws.{true-is-false, fails}
use Rattle.words.specs.Equal.{same}
use Rattle.words.proofs.EqualLaws.{same-equal, equal-same}
use Rattle.aplx_pack.proofs.ImageEntry.{BytesAt}
use Rattle.aplx_share.specs.Contents.{is_among, different, joined, total_length, place}
use Rattle.aplx_share.proofs.ContentsLaws.{length-joined, among-different}
use Rattle.aplx_share.proofs.ContentsSteps.{among-append, new_ones, different-more, different-prefix}

-- ---- every place
-- none is past the last content
pub place_inside : (cs : List (List ℕ)) (d : List ℕ) → place cs d ≤ total_length cs
unfolding place total_length
place_inside [] d = omega arith
place_inside (c ∷ cs) d = go (same c d) (place_inside cs d)
  where
    go : (t : Bool) → place cs d ≤ total_length cs → (if t then 0 else length c + place cs d) ≤ length c + total_length cs
    go true r = omega arith
    go false r = omega arith

-- where all contents have whole words, a place is a multiple of 4
abbrev pub Whole : List (List ℕ) → Type 0
Whole = All (λ (c : List ℕ). length c % 4 ≡ 0)

pub place-whole : (kept : List (List ℕ)) (d : List ℕ) → Whole kept → place kept d % 4 ≡ 0
unfolding place
place-whole [] d w = refl
place-whole (c ∷ cs) d w = go (same c d) (place-whole cs d w.1)
  where
    go : (t : Bool) → place cs d % 4 ≡ 0 → (if t then 0 else length c + place cs d) % 4 ≡ 0
    go true r = refl
    go false r = omega (arith, w.0)

-- ---- a content that is among the contents
-- it stands at its place
pub placed : (cs : List (List ℕ)) (d : List ℕ) → is_among cs d ≡ true → BytesAt (joined cs) (place cs d) d
unfolding place joined is_among
placed [] d m = true-is-false (sym m)
placed (c ∷ cs) d m = go (same c d) refl m (placed cs d)
  where
    go : (t : Bool) → same c d ≡ t → (if t then true else is_among cs d) ≡ true → (is_among cs d ≡ true → BytesAt (joined cs) (place cs d) d)
        → BytesAt (c ++ joined cs) (if t then 0 else length c + place cs d) d
    go true e m rest =
        let f = same-equal c d e in
        record { inside = omega (arith, ap length f, length-append c (joined cs)); bytes = rw f (take_at d (joined cs) (length d) refl) }
    go false e m rest =
        let r = rest m in
        record { inside = omega (arith, length-append c (joined cs), r.inside); bytes = rw (drop-append-add c (joined cs) (place cs d)) r.bytes }

-- a content keeps its place, whatever comes behind
pub place-known : (cs ds : List (List ℕ)) (d : List ℕ) → is_among cs d ≡ true → place (cs ++ ds) d ≡ place cs d
unfolding place is_among
place-known [] ds d h = true-is-false (sym h)
place-known (c ∷ cs) ds d h = go (same c d) h (place-known cs ds d)
  where
    go : (t : Bool) → (if t then true else is_among cs d) ≡ true → (is_among cs d ≡ true → place (cs ++ ds) d ≡ place cs d)
        → (if t then 0 else length c + place (cs ++ ds) d) ≡ (if t then 0 else length c + place cs d)
    go true e r = refl
    go false e r = rw (r e)

-- ---- a content that is not
-- one that is not among the first lies behind them
pub place-behind : (cs ds : List (List ℕ)) (d : List ℕ) → is_among cs d ≡ false → place (cs ++ ds) d ≡ total_length cs + place ds d
unfolding place is_among total_length
place-behind [] ds d h = omega arith
place-behind (c ∷ cs) ds d h = go (same c d) h (place-behind cs ds d)
  where
    go : (t : Bool) → (if t then true else is_among cs d) ≡ false → (is_among cs d ≡ false → place (cs ++ ds) d ≡ total_length cs + place ds d)
        → (if t then 0 else length c + place (cs ++ ds) d) ≡ length c + total_length cs + place ds d
    go true e r = true-is-false e
    go false e r = omega (arith, r e)

-- a content that is not kept counts as behind all others
place-new : (cs : List (List ℕ)) (d : List ℕ) → is_among cs d ≡ false → place cs d ≡ total_length cs
unfolding place
place-new cs d h = ap (λ (l : List (List ℕ)). place l d) (sym (append-nil cs)) ∙ place-behind cs [] d h ∙ add-zero (total_length cs)

-- ---- whether a content is new, by its place
module _ (kept : List (List ℕ)) (d : List ℕ) where
  pub new-content : 0 < length d → place kept d ≡ total_length kept → is_among kept d ≡ false
  new-content some e = fails (is_among kept d) (λ m. absurd (omega (arith, (placed kept d m).inside, length-joined kept)))

  pub known-content : (place kept d ≡ total_length kept → ⊥) → is_among kept d ≡ true
  known-content n = go (is_among kept d) refl
    where
      go : (t : Bool) → is_among kept d ≡ t → t ≡ true
      go true e = refl
      go false e = absurd (n (place-new kept d e))

-- ---- contents that are looked at one after the other: d is none of the first k
module _ (cs : List (List ℕ)) (d : List ℕ) (k : ℕ) (h : is_among (take k cs) d ≡ false) where
  pub look-found : k < length cs → same (get_or cs k []) d ≡ true → place cs d ≡ total_length (take k cs)
  unfolding place
  look-found b e =
      ap (λ (l : List (List ℕ)). place l d) (split_at cs k [] b) ∙ place-behind (take k cs) (get_or cs k [] ∷ drop (suc k) cs) d h
      ∙ rw e (add-zero (total_length (take k cs)))

  pub look-next : k < length cs → same (get_or cs k []) d ≡ false → is_among (take (k + 1) cs) d ≡ false
  unfolding is_among
  look-next b e = rw (add-one k, take-suc cs k [] b, among-append (take k cs) (get_or cs k [] ∷ []) d, h, e)

  pub look_none : length cs ≤ k → place cs d ≡ total_length (take k cs)
  look_none b = let t = take_all k cs b in place-new cs d (rw t at h) ∙ ap total_length (sym t)

-- ---- among the different contents
-- the content that a put is the first to have lies behind the different contents of the earlier puts, whatever the later ones have
pub place-earliest : (earlier later : List (List ℕ)) (d : List ℕ) → is_among earlier d ≡ false → place (different (earlier ++ d ∷ later)) d ≡ total_length (different earlier)
unfolding place new_ones
place-earliest earlier later d h =
    let kept = different earlier in
    let r = different-prefix (earlier ++ d ∷ []) later in
    let n : new_ones earlier d ≡ d ∷ [] = rw h in
    let e : different (earlier ++ d ∷ later) ≡ kept ++ (d ∷ [] ++ r.0) =
    ap different (sym (append_assoc earlier (d ∷ []) later)) ∙ r.1
    ∙ ap (λ (l : List (List ℕ)). l ++ r.0) (different-more earlier d ∙ ap (λ (l : List (List ℕ)). kept ++ l) n) ∙ append_assoc kept (d ∷ []) r.0 in
    rw (e, place-behind kept (d ∷ [] ++ r.0) d (among-different earlier d ∙ h), equal-same d) (add-zero (total_length kept))

-- one content more: it has the place at which it was looked for
pub place-more : (ds : List (List ℕ)) (d : List ℕ) → place (different (ds ++ d ∷ [])) d ≡ place (different ds) d
unfolding new_ones place
place-more ds d = ap (λ (l : List (List ℕ)). place l d) (different-more ds d) ∙ go (is_among ds d) refl
  where
    go : (t : Bool) → is_among ds d ≡ t → place (different ds ++ (if t then [] else d ∷ [])) d ≡ place (different ds) d
    go true e = ap (λ (l : List (List ℕ)). place l d) (append-nil (different ds))
    go false e =
        let n = among-different ds d ∙ e in
        place-behind (different ds) (d ∷ []) d n ∙ rw (equal-same d) (add-zero (total_length (different ds)) ∙ sym (place-new (different ds) d n))
