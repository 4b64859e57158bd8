-- Laws of the contents that the code collects, piece by piece.
use Rattle.std.specs.Prelude.{◌≡◌, refl, Bool, ℕ, ◌+◌, ◌*◌, ◌<◌, eqb, length, get_or, set}
use Rattle.std.proofs.Math.Path.{ap, sym}
use Rattle.std.proofs.Common.{◌∙◌, arith, length-append, length-set, length-take-le, take_all, drop-cons, eqb-true}
use Rattle.std.proofs.lemmas.List.{map-append, take_more_set}
use Rattle.std.proofs.Math.Bool.{true, false}
use mathlib.Core.List.{List, [], ◌∷◌, ◌++◌, append-nil}
use Rattle.std.proofs.Math.ListN.{take, get_or-append}
use Rattle.std.proofs.Math.Seq.{get_or-append_seam}
use Rattle.std.proofs.lemmas.Bool.{eqb-false}
use Rattle.words.proofs.ChoiceLaws.{all-at}
use Rattle.plan.specs.Plan.{Piece, put, fill, run, read_plan}
use Rattle.plan.proofs.PlanLaws.{data-length}
use Rattle.plan.specs.Packed.{plan_pieces}
use Rattle.plan.specs.Code.Packer.{ReadAs}
use Rattle.aplx_share.specs.declared.contents.Kept.{Kept}
use Rattle.aplx_share.specs.Contents.{contents, is_among, different, kept_contents, total_length}
use Rattle.aplx_share.proofs.ContentsLaws.{among-different, Keeps, keeps-all}
use Rattle.aplx_share.proofs.ContentsSteps.{contents-append, total_length-append, new_ones, different-more}
use Rattle.aplx_share.proofs.ContentsPlaces.{place-known, place-more}
use Rattle.aplx_share.specs.SharedImage.{place_of, shared_image}
use Rattle.aplx_share.proofs.SharedImageLaws.{length-shared_image}
use Rattle.aplx_share.specs.declared.contents.Content.{Content}
use Rattle.aplx_share.specs.Collected.{bytes_of, used, kept_at, Inside, PlacesOf, Collected}
use Rattle.aplx_share.proofs.CollectedLaws.{set_at, located-more}

-- ---- places, one piece more
-- the data of a piece has the place at which it was looked for
place_of-more : (qs : List Piece) (p : Piece) → place_of (kept_contents (qs ++ p ∷ [])) p ≡ place_of (kept_contents qs) p
unfolding contents
place_of-more qs (put a d) = rw (contents-append qs (put a d ∷ [])) (place-more (contents qs) d)
place_of-more qs (fill a n w) = refl
place_of-more qs (run a) = refl

-- a content that is kept stays where it is
place_of-stays : (qs : List Piece) (p q : Piece) → Keeps (contents qs) q → place_of (kept_contents (qs ++ p ∷ [])) q ≡ place_of (kept_contents qs) q
unfolding contents
place_of-stays qs (put b e) (put a d) m =
    rw (contents-append qs (put b e ∷ []), different-more (contents qs) e)
    (place-known (kept_contents qs) (new_ones (contents qs) e) d (among-different (contents qs) d ∙ m))
place_of-stays qs (fill b n w) (put a d) m = rw (contents-append qs (fill b n w ∷ []), append-nil (contents qs))
place_of-stays qs (run b) (put a d) m = rw (contents-append qs (run b ∷ []), append-nil (contents qs))
place_of-stays qs p (fill a n w) m = refl
place_of-stays qs p (run a) m = refl

places-more : (qs : List Piece) (p : Piece) (places : List ℕ) {i v : ℕ} → PlacesOf qs places → i ≡ length qs → i < length places
    → v ≡ place_of (kept_contents qs) p → PlacesOf (qs ++ p ∷ []) (set places i v)
places-more qs p places {i} {v} h e l f j b = go (eqb j i) refl
  where
    kept : j < length qs → Keeps (contents qs) (get_or qs j (run 0))
    kept c = all-at (Keeps (contents qs)) j qs (drop-cons qs j (run 0) c) (keeps-all (contents qs) qs (λ x m. m))

    go : (t : Bool) → eqb j i ≡ t → get_or (set places i v) j 0 ≡ place_of (kept_contents (qs ++ p ∷ [])) (get_or (qs ++ p ∷ []) j (run 0))
    go true x =
        let z = eqb-true j i x ∙ e in
        let at : get_or (qs ++ p ∷ []) j (run 0) ≡ p = rw z (get_or-append_seam qs p [] (run 0)) in
        set_at places i v j true l x ∙ f ∙ rw at (sym (place_of-more qs p))
    go false x =
        let c : j < length qs = omega (arith, length-append qs (p ∷ []), eqb-false j i x) in
        let at : get_or (qs ++ p ∷ []) j (run 0) ≡ get_or qs j (run 0) = get_or-append qs (p ∷ []) (run 0) j c in
        set_at places i v j false l x ∙ h j c ∙ rw at (sym (place_of-stays qs p (get_or qs j (run 0)) (kept c)))

-- ---- what is collected, one piece more
-- of no pieces
pub collected-none : (s : List ℕ) (ps : List Piece) (cs : List Content) (places : List ℕ) → length cs ≡ 64 → length places ≡ 64
    → Collected s ps 0 (record { contents = cs; count = 0; size = 0; places = places })
unfolding contents different total_length
collected-none s ps cs places e f = record {
  are-kept = refl;
  size = refl;
  located = record { all = tt; few = omega arith };
  placed = λ j b. absurd (omega arith);
  few = omega arith;
  most = omega arith;
  in-contents = e;
  in-places = f;
}

-- the different contents of one piece more: of one that has no content, of a put whose content is kept already, and of one whose is new
pub same-other : (qs : List Piece) (p : Piece) → contents (p ∷ []) ≡ [] → kept_contents (qs ++ p ∷ []) ≡ kept_contents qs
same-other qs p e = ap different (contents-append qs (p ∷ []) ∙ ap (λ (l : List (List ℕ)). contents qs ++ l) e ∙ append-nil (contents qs))

module _ (qs : List Piece) (a : ℕ) (d : List ℕ) where
  put-more : kept_contents (qs ++ put a d ∷ []) ≡ kept_contents qs ++ new_ones (contents qs) d
  unfolding contents
  put-more = ap different (contents-append qs (put a d ∷ [])) ∙ different-more (contents qs) d

  pub same_known : is_among (kept_contents qs) d ≡ true → kept_contents (qs ++ put a d ∷ []) ≡ kept_contents qs
  unfolding new_ones
  same_known m =
      let h : is_among (contents qs) d ≡ true = sym (among-different (contents qs) d) ∙ m in
      put-more ∙ rw h (append-nil (kept_contents qs))

  pub more-new : is_among (kept_contents qs) d ≡ false → kept_contents (qs ++ put a d ∷ []) ≡ kept_contents qs ++ d ∷ []
  unfolding new_ones
  more-new m =
      let h : is_among (contents qs) d ≡ false = sym (among-different (contents qs) d) ∙ m in
      put-more ∙ rw h

module _ (s : List ℕ) (ps : List Piece) (i : ℕ) {kept : Kept} (c : Collected s ps i kept) (p : Piece)
    (through : take (i + 1) ps ≡ take i ps ++ p ∷ []) (at : i ≡ length (take i ps)) (l : i < 64) {v : ℕ}
    (f : v ≡ place_of (kept_contents (take i ps)) p) where
  abbrev qs : List Piece
  qs = take i ps

  -- the places, with that of the piece
  abbrev places : List ℕ
  places = set kept.places i v

  placed-more : PlacesOf (take (i + 1) ps) places
  placed-more = rw through (places-more qs p kept.places c.placed at (omega (arith, c.in-places)) f)

  pub collected-same : kept_contents (qs ++ p ∷ []) ≡ kept_contents qs
      → Collected s ps (i + 1) (record { contents = kept.contents; count = kept.count; size = kept.size; places = places })
  collected-same e = record {
    are-kept = rw (through, e) c.are-kept;
    size = rw (through, e) c.size;
    located = c.located;
    placed = placed-more;
    few = omega (arith, c.few);
    most = omega (arith, c.most);
    in-contents = c.in-contents;
    in-places = rw (length-set kept.places i v) c.in-places;
  }

  pub collected-more : (o : Content) → Inside s o → kept_contents (qs ++ p ∷ []) ≡ kept_contents qs ++ bytes_of s o ∷ []
      → Collected s ps (i + 1) (record { contents = set kept.contents kept.count o; count = kept.count + 1; size = kept.size + o.length; places = places })
  unfolding total_length
  collected-more o inside e =
      let k : take (kept.count + 1) (set kept.contents kept.count o) ≡ used kept ++ o ∷ [] = take_more_set kept.contents kept.count o (omega (arith, c.few, c.in-contents)) in
      let n : length (used kept) ≡ kept.count = length-take-le kept.count kept.contents (omega (arith, c.few, c.in-contents)) in
      record {
        are-kept = rw (through, e, k) (map-append (bytes_of s) (used kept) (o ∷ []) ∙ ap (λ (cs : List (List ℕ)). cs ++ bytes_of s o ∷ []) c.are-kept);
        size = rw (through, e, total_length-append (kept_contents qs) (bytes_of s o ∷ [])) (omega (arith, c.size, data-length s o.start o.length inside.inside));
        located = rw k (located-more s (used kept) o (omega (arith, c.few)) inside c.located);
        placed = placed-more;
        few = omega (arith, c.few);
        most = omega (arith, c.most, inside.most);
        in-contents = rw (length-set kept.contents kept.count o) c.in-contents;
        in-places = rw (length-set kept.places i v) c.in-places;
      }

-- ---- of all pieces of a plan that was read
module _ (s : List ℕ) {count : ℕ} (r : ReadAs (read_plan 32 s) count) {kept : Kept} (c : Collected s (plan_pieces 32 s) count kept) where
  abbrev ps : List Piece
  ps = plan_pieces 32 s

  whole : take count ps ≡ ps
  whole = take_all count ps (omega (arith, r.counts))

  pub all-kept : kept_at s kept ≡ kept_contents ps
  all-kept = rw whole at c.are-kept

  pub all_placed : PlacesOf ps kept.places
  all_placed = rw whole at c.placed

  pub image-size : 16 * (count + 1) + kept.size ≡ length (shared_image ps)
  image-size =
      let e : kept.size ≡ total_length (kept_contents ps) = rw whole at c.size in
      omega (arith, length-shared_image ps, r.counts)
