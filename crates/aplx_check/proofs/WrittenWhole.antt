-- An image that carries pieces in one entry each, as our packer writes it, is written by the rules (paper 02, C-20): each put and fill is
-- one part.
use Rattle.std.specs.Prelude.{◌≡◌, ℕ, suc, ◌*◌, ◌≤◌, List, [], ◌∷◌, length, refl}
use Rattle.std.proofs.Common.{arith, length-drop}
use Rattle.std.proofs.Math.Seq.{take-length}
use Rattle.words.specs.Choice.{All}
use Rattle.plan.specs.Plan.{Piece, put, fill, run}
use Rattle.plan.specs.Packable.{Sized, Packable}
use Rattle.aplx_image.specs.Carries.{Carries}
use Rattle.aplx_check.specs.Parts.{Part, Split, parts_of, SplitAll, parts}
use Rattle.aplx_check.specs.Written.{AllBehind, Written}

-- the lengths of the parts of a piece that is not split
abbrev whole : Piece → List ℕ
whole (put a d) = length d ∷ []
whole (fill a l w) = l ∷ []
whole (run a) = []

abbrev wholes : List Piece → List (List ℕ)
wholes [] = []
wholes (p ∷ ps) = whole p ∷ wholes ps

sized-part : (a l : ℕ) → Sized 32 a l → Part a l l
sized-part a l g = record { some = g.some; whole = g.whole; inside = omega arith; low = g.low }

whole_split : (p : Piece) → Packable 32 p → Split p (whole p)
whole_split (put a d) g = (sized-part a (length d) g, omega (arith, length-drop (length d) d))
whole_split (fill a l w) g = (sized-part a l g.0, omega arith)
whole_split (run a) g = refl

whole_parts : (p : Piece) → parts_of p (whole p) ≡ p ∷ []
whole_parts (put a d) = rw (take-length d)
whole_parts (fill a l w) = refl
whole_parts (run a) = refl

wholes-split : (ps : List Piece) → All (Packable 32) ps → SplitAll ps (wholes ps)
wholes-split [] g = tt
wholes-split (p ∷ ps) g = (whole_split p g.0, wholes-split ps g.1)

wholes-parts : (ps : List Piece) → parts ps (wholes ps) ≡ ps
wholes-parts [] = refl
wholes-parts (p ∷ ps) = rw (whole_parts p, wholes-parts ps)

-- the entries carry the pieces, and the data lies behind the end entry
pub carried-written : (ps : List Piece) (image : List ℕ) → All (Packable 32) ps → length ps ≤ 255 → Carries image 0 ps
    → AllBehind image (16 * suc (length ps)) 0 ps → Written ps image
carried-written ps image g few c o =
    let e = wholes-parts ps in
    record { lengths = wholes ps; split = wholes-split ps g; entries = rw e c; behind = rw e o; few = rw e few }
