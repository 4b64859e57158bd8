-- Laws of the contents that the code keeps as places of the plan and lengths.
use Rattle.std.specs.Prelude.{◌≡◌, refl, Bool, true, false, List, [], ◌∷◌, ◌++◌, ℕ, zero, suc, ◌+◌, ◌≤◌, ◌<◌, eqb, length, take, drop, get_or, set, if◌then◌else◌}
use Rattle.std.proofs.Common.{ap, sym, ◌∙◌, add-zero, add-one, arith, length-append, length-take-le, take-suc-set, get_or-drop, drop-cons, get_or-set_same, get_or-set_other, eqb-true}
use Rattle.std.proofs.lemmas.List.{length-map, get_or-map, map-append}
use Rattle.plan.specs.declared.piece.Piece as CodePiece
use Rattle.plan.specs.declared.piece.Piece.TheVariants.{Put}
use Rattle.plan.specs.Plan.{Piece, put, fill, run, read_plan}
use Rattle.plan.specs.Packable.{Packable}
use Rattle.plan.proofs.PlanLaws.{data-length, packable}
use Rattle.plan.proofs.PlanSums.{bytes_most}
use Rattle.plan.specs.Packed.{plan_pieces}
use Rattle.plan.specs.Code.{piece_is}
use Rattle.plan.specs.Code.Packer.{ReadAs}
use Rattle.plan.proofs.CodeLaws.{Known, known_bytes, Found}
use Rattle.std.proofs.lemmas.Bool.{eqb-false}
use Rattle.words.proofs.ChoiceLaws.{all-at, all_append}
use Rattle.aplx_share.specs.Contents.{contents, kept_contents, total_length}
use Rattle.aplx_share.proofs.ContentsLaws.{total_length-contents, different-shorter}
use Rattle.aplx_share.proofs.ContentsPlaces.{place_inside}
use Rattle.aplx_share.specs.SharedImage.{place_of}
use Rattle.aplx_share.specs.declared.contents.Content.{Content}
use Rattle.aplx_share.specs.declared.contents.Kept.{Kept}
use Rattle.aplx_share.specs.Collected.{bytes_of, contents_at, used, kept_at, Inside, Located}

-- an element, one of which was set
pub set_at : (l : List ℕ) (i v k : ℕ) (t : Bool) → i < length l → eqb k i ≡ t → get_or (set l i v) k 0 ≡ (if t then v else get_or l k 0)
set_at l i v k true h e = rw (eqb-true k i e) (get_or-set_same l i v 0 h)
set_at l i v k false h e = get_or-set_other l i k v 0 (eqb-false k i e)

-- ---- the content with an index
-- what is read where there is none
abbrev pub no_content : Content
no_content = record { start = 0; length = 0 }

module _ (s : List ℕ) (cs : List Content) (k : ℕ) (h : k < length cs) where
  abbrev d : Content
  d = no_content

  pub in_kept : k < length (contents_at s cs)
  in_kept = rw (length-map cs (bytes_of s)) h

  -- it is the part of the plan that the code takes
  pub part-kept : bytes_of s (get_or cs k d) ≡ get_or (contents_at s cs) k []
  part-kept = sym (get_or-map (bytes_of s) cs k d [] h)

  module _ (l : Located s cs) where
    pub is-inside : Inside s (get_or cs k d)
    is-inside = all-at (Inside s) k cs (drop-cons cs k d h) l.all

    pub length-kept : length (get_or (contents_at s cs) k []) ≡ (get_or cs k d).length
    length-kept = ap length (sym part-kept) ∙ data-length s (get_or cs k d).start (get_or cs k d).length is-inside.inside

-- the contents that stand at these places, each by itself
pub in-contents_at : (s : List ℕ) (cs : List Content) (k : ℕ) → k ≤ length cs → k ≤ length (contents_at s cs)
in-contents_at s cs k h = rw (length-map cs (bytes_of s)) h

pub content-at : (s : List ℕ) (cs : List Content) (k : ℕ) → k < length cs → get_or (contents_at s cs) k [] ≡ bytes_of s (get_or cs k no_content)
content-at s cs k h = get_or-map (bytes_of s) cs k no_content [] h

pub set-contents_at : (s : List ℕ) (cs : List Content) (k : ℕ) (c : Content) → contents_at s (set cs k c) ≡ set (contents_at s cs) k (bytes_of s c)
set-contents_at s [] k c = refl
set-contents_at s (x ∷ cs) zero c = refl
set-contents_at s (x ∷ cs) (suc k) c = rw (set-contents_at s cs k c)

pub length-kept_at : (s : List ℕ) (k : Kept) → k.count ≤ length k.contents → length (kept_at s k) ≡ k.count
length-kept_at s k h = length-map (used k) (bytes_of s) ∙ length-take-le k.count k.contents h

-- ---- one more
pub kept_more : (s : List ℕ) (cs : List Content) (c : Content) (count : ℕ) → count < length cs
    → contents_at s (take (count + 1) (set cs count c)) ≡ contents_at s (take count cs) ++ bytes_of s c ∷ []
kept_more s cs c count h = rw (add-one count, take-suc-set cs count c h, map-append (bytes_of s) (take count cs) (c ∷ []))

module _ (s : List ℕ) (cs : List Content) (c : Content) where
  pub located-more : length cs < 64 → Inside s c → Located s cs → Located s (cs ++ c ∷ [])
  located-more h i l = record {
    all = all_append (Inside s) cs (c ∷ []) l.all (i, tt);
    few = omega (arith, length-append cs (c ∷ []));
  }

-- ---- the pieces of a plan that was read
-- the piece that the code reads at an index
pub found_here : {unit : ℕ} {s : List ℕ} {ps : List Piece} {i : ℕ} {p : CodePiece.Piece} → Found unit s ps i p → get_or ps i (run 0) ≡ piece_is s p
found_here {ps = ps} {i = i} f = rw (add-zero i) at (sym (get_or-drop i ps 0 (run 0))) ∙ ap (λ (l : List Piece). get_or l 0 (run 0)) f.from

-- a put has data
pub put_some : (s : List ℕ) → Known s → {count : ℕ} → ReadAs (read_plan 32 s) count → {i a o n : ℕ} → Found 32 s (plan_pieces 32 s) i (Put a o n) → 0 < length (take n (drop o s))
put_some s b r {i} f =
    let g = all-at (Packable 32) i (plan_pieces 32 s) f.from (packable 32 s (known_bytes s b) r.accepted) in
    g.some

-- places are low
pub place-low : (s : List ℕ) → Known s → {count : ℕ} → ReadAs (read_plan 32 s) count → (p : Piece) → place_of (kept_contents (plan_pieces 32 s)) p ≤ 4194304
place-low s b r p = go p
  where
    most : total_length (kept_contents (plan_pieces 32 s)) ≤ 4194304
    most =
        let ps = plan_pieces 32 s in
        let g = packable 32 s (known_bytes s b) r.accepted in
        omega (arith, different-shorter (contents ps), total_length-contents ps, bytes_most 32 ps g, r.counts, r.few)

    go : (p : Piece) → place_of (kept_contents (plan_pieces 32 s)) p ≤ 4194304
    go (put a d) = omega (arith, place_inside (kept_contents (plan_pieces 32 s)) d, most)
    go (fill a n w) = omega arith
    go (run a) = omega arith
