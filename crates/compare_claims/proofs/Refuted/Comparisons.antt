-- Wrong comparisons: each does what ours does, but for one thing.
use Rattle.std.specs.Prelude.{◌≡◌, refl, Bool, true, ◌&&◌, List, [], ◌∷◌, ◌++◌, reverse, ℕ, zero, suc, ◌*◌, ◌-◌, ltb, eqb, if◌then◌else◌}
use Rattle.std.proofs.Common.{ap}
use Rattle.plan.specs.Plan.{Piece, Read, refused, pieces}
use Rattle.plan.specs.Meaning.{stretch}
use Rattle.stretches.specs.Stretches.{Stretch, between, below}
use Rattle.compare.specs.LastByte.{not_stored, last_byte}
use Rattle.compare.specs.LastByte.Exact.{stores_at}
use Rattle.compare.specs.Reading.{addresses, read_compared, Run, run_of, same_run}
use Rattle.compare.specs.Compare.{Compared, neither, old_plan, new_plan, refuses, finds, limited, most_stretches, stretch_size, compared_below, compared}
use Rattle.compare_claims.specs.Claims.{Comparison}

-- ---- ours, with another answer for two plans that are read
abbrev pub Answer : Type 0
Answer = List Piece → List Piece → Compared

unfoldable pub answered : Answer → Read → Read → Compared
answered answer (refused x i) new = refuses old_plan x i
answered answer (pieces old) (refused x i) = refuses new_plan x i
answered answer (pieces old) (pieces new) = answer old new

unfoldable pub comparing : Answer → Comparison
comparing answer n old new =
    if ltb n (stretch_size * most_stretches) then refuses neither 10 0
    else answered answer (read_compared old) (read_compared new)

-- ---- the answer, in parts
-- an image of a plan: a value for each address
abbrev Image : Type 0
Image = ℕ → ℕ

pub record Way : Type 0 where
  pub old-image : List Piece → List Piece → Image  -- of the old and the new plan's pieces
  pub new-image : List Piece → List Piece → Image
  pub writes : Image → Image → List Stretch → List Stretch  -- for the stretches of the two images
  pub same : Run → Run → Bool

-- the addresses below a bound
unfoldable pub answer_below : Way → ℕ → Answer
answer_below way bound old new =
    let f = way.old-image old new in
    let g = way.new-image old new in
    limited (way.writes f g (below f g bound)) (way.same (run_of old) (run_of new))

abbrev pub comparing_by : Way → Comparison
comparing_by way = comparing (answer_below way addresses)

abbrev of_images : (List Piece → List Piece → Image) → (List Piece → List Piece → Image) → Way
of_images f g = record { old-image = f; new-image = g; writes = λ f g l. l; same = same_run }

abbrev writing : (Image → Image → List Stretch → List Stretch) → Way
writing w = record { old-image = λ old new. last_byte (stretch old); new-image = λ old new. last_byte (stretch new); writes = w; same = same_run }

abbrev pub our_way : Way
our_way = writing (λ f g l. l)

-- in our way it is ours
same_answer : (bound : ℕ) (r q : Read) → answered (answer_below our_way bound) r q ≡ compared_below bound r q
unfolding answered answer_below compared_below
same_answer bound (refused x i) q = refl
same_answer bound (pieces ps) (refused x i) = refl
same_answer bound (pieces ps) (pieces qs) = refl

pub ours-by-way : (n : ℕ) (old new : List ℕ) → comparing_by our_way n old new ≡ compared n old new
unfolding comparing compared
ours-by-way n old new =
    ap (λ (c : Compared). if ltb n (stretch_size * most_stretches) then refuses neither 10 0 else c) (same_answer addresses (read_compared old) (read_compared new))

-- ---- the comparisons
-- refuses every two plans
abbrev pub refusing : Answer
refusing old new = refuses neither 18 512

-- finds no stretch in any
abbrev pub finding_nothing : Answer
finding_nothing old new = finds [] (same_run (run_of old) (run_of new))

-- compares all pieces, those behind the run too
abbrev pub all_pieces : Way
all_pieces = of_images (λ old new. last_byte old) (λ old new. last_byte new)

-- takes the byte of the first piece that stores
abbrev pub first_piece : Way
first_piece = of_images (λ old new. last_byte (reverse (stretch old))) (λ old new. last_byte (reverse (stretch new)))

-- compares only where both store
unfoldable pub where_both : List Piece → List Piece → List Piece → Image
where_both old new ps x = if stores_at old x && stores_at new x then last_byte ps x else not_stored

abbrev pub both_store : Way
both_store = of_images (λ old new. where_both (stretch old) (stretch new) (stretch old)) (λ old new. where_both (stretch old) (stretch new) (stretch new))

-- exchanges old and new
abbrev pub exchanging : Way
exchanging = of_images (λ old new. last_byte (stretch new)) (λ old new. last_byte (stretch old))

-- writes a stretch for each address: k of them, from address x on
unfoldable pub single : Image → Image → ℕ → ℕ → List Stretch
single f g zero x = []
single f g (suc k) x = between f g x x ∷ single f g k (suc x)

unfoldable pub singles : Image → Image → List Stretch → List Stretch
singles f g [] = []
singles f g (s ∷ l) = single f g (suc s.last - s.first) s.first ++ singles f g l

abbrev pub each_address : Way
each_address = writing singles

-- writes the bytes at the last address
unfoldable pub with_last : Image → Image → List Stretch → List Stretch
with_last f g [] = []
with_last f g (s ∷ l) = record { first = s.first; last = s.last; old = f s.last; new = g s.last } ∷ with_last f g l

abbrev pub last_bytes : Way
last_bytes = writing with_last

-- writes 0 for "not stored"
abbrev shown_zero : ℕ → ℕ
shown_zero b = if eqb b not_stored then 0 else b

unfoldable pub with_zero : Image → Image → List Stretch → List Stretch
with_zero f g [] = []
with_zero f g (s ∷ l) = record { first = s.first; last = s.last; old = shown_zero s.old; new = shown_zero s.new } ∷ with_zero f g l

abbrev pub zero_shown : Way
zero_shown = writing with_zero

-- calls every two runs the same
abbrev pub any_run : Way
any_run = record { old-image = our_way.old-image; new-image = our_way.new-image; writes = our_way.writes; same = λ r q. true }
