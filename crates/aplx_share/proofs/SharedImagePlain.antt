-- A plan without equal puts is packed as before: the image is the plain one.
use Rattle.std.specs.Prelude.{◌≡◌, refl, Bool, true, false, List, [], ◌∷◌, ◌++◌, ℕ, suc, ◌+◌, ◌*◌, length, if◌then◌else◌}
use Rattle.std.proofs.Common.{ap, sym, ◌∙◌, append_assoc, add-zero, arith}
use Rattle.words.proofs.ChoiceLaws.{true-is-false}
use Rattle.words.specs.Equal.{same}
use Rattle.words.proofs.EqualLaws.{equal-same, same-swap}
use Rattle.plan.specs.Plan.{Piece, put, fill, run, datas, Read, refused, pieces, read_plan}
use Rattle.plan.specs.Packed.{packed_as, pieces_in, plan_pieces}
use Rattle.aplx_pack.specs.Image.{entry_of, entries, aplx_image, pack_aplx}
use Rattle.aplx_share.specs.Contents.{contents, is_among, Distinct, total_length, place}
use Rattle.aplx_share.proofs.ContentsLaws.{distinct-different, joined-contents}
use Rattle.aplx_share.proofs.ContentsSteps.{total_length-append, among-append}
use Rattle.aplx_share.proofs.ContentsPlaces.{place-behind}
use Rattle.aplx_share.specs.SharedImage.{shared_entries, shared_image, pack_shared}

-- one of contents of which none equals another is not among those before it
not-before : (cs ds : List (List ℕ)) (d : List ℕ) → Distinct (cs ++ d ∷ ds) → is_among cs d ≡ false
unfolding is_among
not-before [] ds d h = refl
not-before (c ∷ cs) ds d h = rw (differs (is_among cs c) (same d c) refl (sym (among-append cs (d ∷ ds) c) ∙ h.0)) (not-before cs ds d h.1)
  where
    differs : (t s : Bool) → same d c ≡ s → (if t then true else if s then true else is_among ds c) ≡ false → same c d ≡ false
    differs true s f e = true-is-false e
    differs false true f e = true-is-false e
    differs false false f e = same-swap c d ∙ f

-- the entries of the pieces behind those whose contents are `before`
entries-plain : (before : List (List ℕ)) (ps : List Piece) → Distinct (before ++ contents ps) → shared_entries (before ++ contents ps) ps ≡ entries (total_length before) ps
unfolding shared_entries entries entry_of contents place total_length
entries-plain before [] h = refl
entries-plain before (put a d ∷ ps) h =
    let e : place (before ++ d ∷ contents ps) d ≡ total_length before =
    place-behind before (d ∷ contents ps) d (not-before before (contents ps) d h) ∙ rw (equal-same d) (add-zero (total_length before)) in
    let s : before ++ contents (put a d ∷ ps) ≡ (before ++ d ∷ []) ++ contents ps = sym (append_assoc before (d ∷ []) (contents ps)) in
    let n : total_length (before ++ d ∷ []) ≡ total_length before + length d = total_length-append before (d ∷ []) ∙ omega arith in
    let r = entries-plain (before ++ d ∷ []) ps (rw s at h) in
    let x : shared_entries (before ++ contents (put a d ∷ ps)) ps ≡ entries (total_length before + length d) ps =
    ap (λ (k : List (List ℕ)). shared_entries k ps) s ∙ r ∙ ap (λ (k : ℕ). entries k ps) n
    in
    rw e (ap (λ (l : List ℕ). entry_of (put a d) (16 * suc (suc (length ps)) + total_length before) ++ l) x)
entries-plain before (fill a n w ∷ ps) h = rw (entries-plain before ps h, add-zero)
entries-plain before (run a ∷ ps) h = rw (entries-plain before ps h, add-zero)

pub shared-plain : (ps : List Piece) → Distinct (contents ps) → shared_image ps ≡ aplx_image ps
unfolding shared_image aplx_image total_length
shared-plain ps h = rw (distinct-different (contents ps) h, joined-contents ps) (ap (λ (l : List ℕ). l ++ datas ps) (entries-plain [] ps h))

-- "All else is as before."
pub packed-plain : (plan : List ℕ) (room : ℕ) → Distinct (contents (plan_pieces 32 plan)) → pack_shared plan room ≡ pack_aplx plan room
unfolding pack_shared pack_aplx
packed-plain plan room h = go (read_plan 32 plan) h
  where
    go : (r : Read) → Distinct (contents (pieces_in r)) → packed_as shared_image r room ≡ packed_as aplx_image r room
    go (refused n i) h = refl
    go (pieces ps) h = rw (shared-plain ps h)
