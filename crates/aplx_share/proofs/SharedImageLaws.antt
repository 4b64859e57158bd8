-- Laws of the image that keeps one copy of equal data: its length, what stands at a piece's entry, the earliest copy, and which plans are
-- packed.
use Rattle.std.specs.Prelude.{◌≡◌, refl, false, List, [], ◌∷◌, ◌++◌, ℕ, zero, suc, ◌+◌, ◌*◌, ◌≤◌, length, drop}
use Rattle.std.proofs.Common.{◌∙◌, append_assoc, arith, length-append, drop_at}
use Rattle.std.proofs.lemmas.List.{drop-append-le}
use Rattle.words.proofs.FourLaws.{length-four_bytes}
use Rattle.words.specs.Store.{store}
use Rattle.words.proofs.StoreLaws.{store-adjoining}
use Rattle.plan.specs.Plan.{Piece, put, pieces, read_plan}
use Rattle.plan.specs.Packed.{packs}
use Rattle.plan.proofs.PackedLaws.{Fitting, accepted-facts, fitting-packed}
use Rattle.aplx_pack.specs.Image.{entry_of, aplx_image}
use Rattle.aplx_pack.proofs.ImageLaws.{length-entry_of, drop-entry, length-aplx_image}
use Rattle.aplx_share.specs.Contents.{contents, is_among, kept_contents, joined, total_length, place}
use Rattle.aplx_share.proofs.ContentsLaws.{length-joined, total_length-contents, different-shorter}
use Rattle.aplx_share.proofs.ContentsSteps.{contents-append}
use Rattle.aplx_share.proofs.ContentsPlaces.{place-earliest}
use Rattle.aplx_share.specs.SharedImage.{place_of, shared_entries, shared_image, pack_shared}

-- ---- lengths
pub length-shared_entries : (kept : List (List ℕ)) (ps : List Piece) → length (shared_entries kept ps) ≡ 16 * suc (length ps)
unfolding shared_entries
length-shared_entries kept [] = length-four_bytes 0xffffffff 0 0 0
length-shared_entries kept (p ∷ ps) = rw (length-append, length-entry_of, length-shared_entries kept ps) (omega arith)

-- "The image's length equals 16 x (count + 1) + the lengths of the different put contents."
pub length-shared_image : (ps : List Piece) → length (shared_image ps) ≡ 16 * (length ps + 1) + total_length (kept_contents ps)
unfolding shared_image
length-shared_image ps = rw (length-append, length-shared_entries, length-joined) (omega arith)

-- it is never longer than the image that keeps each put's data
pub shared-shorter : (ps : List Piece) → length (shared_image ps) ≤ length (aplx_image ps)
shared-shorter ps = omega (arith, length-shared_image ps, length-aplx_image ps, different-shorter (contents ps), total_length-contents ps)

-- ---- entries
-- the first, and what stands behind it
pub entries-step : (kept : List (List ℕ)) (p : Piece) (ps : List Piece)
    → shared_entries kept (p ∷ ps) ++ joined kept ≡ entry_of p (16 * suc (suc (length ps)) + place_of kept p) ++ (shared_entries kept ps ++ joined kept)
unfolding shared_entries
entries-step kept p ps = append_assoc (entry_of p (16 * suc (suc (length ps)) + place_of kept p)) (shared_entries kept ps) (joined kept)

-- from the entry of piece i on; at the count it is the end entry
pub drop-shared_entries : (kept : List (List ℕ)) (ps : List Piece) (i : ℕ) → i ≤ length ps → drop (16 * i) (shared_entries kept ps) ≡ shared_entries kept (drop i ps)
unfolding shared_entries
drop-shared_entries kept ps zero h = refl
drop-shared_entries kept [] (suc i) h = absurd (omega arith)
drop-shared_entries kept (p ∷ ps) (suc i) h = drop-entry p _ i (shared_entries kept ps) ∙ drop-shared_entries kept ps i (omega arith)

-- what stands at the entry of a piece: the entries of the pieces from it on, then all the contents
pub at_piece : (earlier : List Piece) (p : Piece) (later : List Piece)
    → let kept = kept_contents (earlier ++ p ∷ later) in
    drop (16 * length earlier) (shared_image (earlier ++ p ∷ later)) ≡ shared_entries kept (p ∷ later) ++ joined kept
unfolding shared_image
at_piece earlier p later =
    let ps = earlier ++ p ∷ later in
    let kept = kept_contents ps in
    let l : length earlier ≤ length ps = omega (arith, length-append earlier (p ∷ later)) in
    let f : 16 * length earlier ≤ length (shared_entries kept ps) = omega (arith, length-shared_entries kept ps) in
    rw (drop-append-le (16 * length earlier) (shared_entries kept ps) (joined kept) f, drop-shared_entries kept ps (length earlier) l, drop_at earlier (p ∷ later) (length earlier) refl)

-- "the later entry points to the earliest such copy": the data of a put whose bytes no earlier put has, and so that of every later put with
-- the same bytes, lies behind the different contents of the earlier pieces
pub earliest-copy : (earlier : List Piece) (a : ℕ) (d : List ℕ) (later : List Piece) → is_among (contents earlier) d ≡ false
    → place (kept_contents (earlier ++ put a d ∷ later)) d ≡ total_length (kept_contents earlier)
unfolding contents
earliest-copy earlier a d later h = rw (contents-append earlier (put a d ∷ later)) (place-earliest (contents earlier) (contents later) d h)

-- the entries, and then the contents, are the image
pub written-image : (ps : List Piece) (m : List ℕ) (at : ℕ) → at ≡ 16 * (length ps + 1) → length (shared_image ps) ≤ length m
    → store (store m 0 (shared_entries (kept_contents ps) ps)) at (joined (kept_contents ps)) ≡ store m 0 (shared_image ps)
unfolding shared_image
written-image ps m at e h =
    let entries = shared_entries (kept_contents ps) ps in
    let z : at ≡ 0 + length entries = omega (arith, length-shared_entries (kept_contents ps) ps) in
    rw z (store-adjoining m 0 entries (omega (arith, length-append entries (joined (kept_contents ps)))) (joined (kept_contents ps)))

-- ---- packing
module _ (plan : List ℕ) (room : ℕ) where
  pub read-packed : {ps : List Piece} → read_plan 32 plan ≡ pieces ps → length (shared_image ps) ≤ room → pack_shared plan room ≡ packs (shared_image ps)
  unfolding pack_shared
  read-packed e h = fitting-packed shared_image (read_plan 32 plan) room e h

  pub packed-facts : {image : List ℕ} → pack_shared plan room ≡ packs image → Fitting shared_image (read_plan 32 plan) room image
  unfolding pack_shared
  packed-facts e = accepted-facts shared_image (read_plan 32 plan) room e
