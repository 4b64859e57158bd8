-- What the loop over the entries rests on: the entries before a piece, and with the next one.
use mathlib.Core.Path.{◌≡◌, ap, sym, ◌∙◌}
use mathlib.Core.List.{List, ◌∷◌, ◌++◌}
use Prim.Native.Nat.{ℕ, suc, ◌+◌, ◌-◌, ◌*◌, ◌≤◌, ◌<◌}
use native.Mathlib.Omega.{arith}
use lib.ListN.{length, take, drop, length-drop, take-append-drop, drop_of_length-le}
use lib.Seq.{length-take-le}
use Rattle.words.specs.Four.{four_bytes}
use Rattle.plan.specs.Plan.{Piece}
use Rattle.aplx_pack.specs.Image.{entry_of}
use Rattle.aplx_pack.proofs.ImageEntry.{entry-through}
use Rattle.aplx_share.specs.Contents.{kept_contents}
use Rattle.aplx_share.specs.SharedImage.{place_of, shared_entries}
use Rattle.aplx_share.proofs.SharedImageLaws.{length-shared_entries, drop-shared_entries}

-- all entries, and the end entry
abbrev all : List Piece → List ℕ
all ps = shared_entries (kept_contents ps) ps

-- those before piece i
abbrev pub front : List Piece → ℕ → List ℕ
front ps i = take (16 * i) (all ps)

pub length_front : (ps : List Piece) (i : ℕ) → i ≤ length ps → length (front ps i) ≡ 16 * i
length_front ps i h = length-take-le (16 * i) (all ps) (omega (arith, length-shared_entries (kept_contents ps) ps))

pub front-next : (ps : List Piece) (i : ℕ) (p : Piece) → drop i ps ≡ p ∷ drop (suc i) ps → i < length ps
    → front ps (i + 1) ≡ front ps i ++ entry_of p (16 * (length ps - i + 1) + place_of (kept_contents ps) p)
unfolding shared_entries
front-next ps i p e h =
    let kept = kept_contents ps in
    let qs = drop (suc i) ps in
    let l : length ps - i ≡ suc (length qs) = sym (length-drop i ps) ∙ ap length e in
    let o : 16 * (length ps - i + 1) ≡ 16 * suc (suc (length qs)) = omega arith in
    rw o (entry-through (all ps) i p _ _ (drop-shared_entries kept ps i (omega arith) ∙ ap (shared_entries kept) e))

-- the end entry behind all others
pub front-all : (ps : List Piece) → front ps (length ps) ++ four_bytes 0xffffffff 0 0 0 ≡ all ps
unfolding shared_entries
front-all ps =
    let e : drop (16 * length ps) (all ps) ≡ four_bytes 0xffffffff 0 0 0 =
    drop-shared_entries (kept_contents ps) ps (length ps) (omega arith) ∙ rw (drop_of_length-le ps {i = length ps} (omega arith)) in
    rw (← e) (take-append-drop (16 * length ps) (all ps))
