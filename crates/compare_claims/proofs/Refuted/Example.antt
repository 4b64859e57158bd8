-- Two plans on which comparisons are put to the test, and what the claims say of them.
use Rattle.std.specs.Prelude.{◌≡◌, refl, true, false, List, [], ◌∷◌, ◌++◌, ℕ, ◌≤◌, ltb}
use Rattle.std.proofs.Common.{ap, sym, ◌∙◌, arith}
use Rattle.words.specs.Choice.{All, every}
use Rattle.words.proofs.ChoiceLaws.{all_map}
use Rattle.words.proofs.BytesLaws.{all-bytes}
use Rattle.words.specs.Four.{four_bytes}
use Rattle.words.specs.Open as WordsGroup
use Rattle.plan.specs.Plan.{Piece, put, fill, run, pieces}
use Rattle.plan.specs.Open as PlanGroup
use Rattle.stretches.specs.Stretches.{Stretch, differs}
use Rattle.stretches.proofs.StretchesExact.{any-bound}
use Rattle.compare.specs.LastByte.{last_byte, covers, not_stored}
use Rattle.compare.specs.LastByte.Laws.{not_covered}
use Rattle.compare.specs.Reading.{addresses, compared_at, compared_pieces, read_compared, run_of, same_run, EndsBy}
use Rattle.compare.proofs.ReadingLaws.{ends-past}
use Rattle.compare.specs.Compare.{limited, compared}
use Rattle.compare.proofs.CompareLaws.{bound}
use Rattle.compare_claims.specs.Claims.{Claims}
use Rattle.compare_claims.proofs.Proved.{compared-pieces}
use Rattle.compare_claims.proofs.Signer.{determined}
use Rattle.compare_claims.proofs.Refuted.Comparisons.{Answer, answered, comparing, Way, our_way, answer_below, comparing_by}

-- ---- two plans
-- a fill, a put that changes its fifth byte, a run, and a fill behind it
abbrev pub old_pieces : List Piece
old_pieces = fill 4 8 0x01010101 ∷ put 8 (2 ∷ 1 ∷ []) ∷ run 4 ∷ fill 32 4 0 ∷ []

unfoldable pub old : List ℕ
old = four_bytes 4 16 80 2 ++ (four_bytes 2 4 8 0x01010101 ++ (four_bytes 1 8 2 0 ++ (four_bytes 3 4 0 0 ++ (four_bytes 2 32 4 0 ++ 2 ∷ 1 ∷ []))))

-- a fill four bytes higher, and another run
abbrev pub new_pieces : List Piece
new_pieces = fill 8 8 0x01010101 ∷ run 8 ∷ []

unfoldable pub new : List ℕ
new = four_bytes 2 16 16 0 ++ (four_bytes 2 8 8 0x01010101 ++ four_bytes 3 8 0 0)

record Plans : Type 0 where
  old-read : read_compared old ≡ pieces old_pieces
  new-read : read_compared new ≡ pieces new_pieces
  old-bytes : every (λ b. ltb b 256) old ≡ true
  new-bytes : every (λ b. ltb b 256) new ≡ true

plans : Plans
unfolding old new WordsGroup.tests PlanGroup.reader compared_at compared_pieces read_compared
plans = record { old-read = refl; new-read = refl; old-bytes = refl; new-bytes = refl }

-- no piece ends past address 64
pub old-ends : All (EndsBy 64) old_pieces
old-ends = (omega arith, (omega arith, (tt, (omega arith, tt))))

pub new-ends : All (EndsBy 64) new_pieces
new-ends = (omega arith, (tt, tt))

-- ---- what the claims say of them
our-answer : compared 8192 old new ≡ answer_below our_way 64 old_pieces new_pieces
unfolding answer_below
our-answer =
    compared-pieces 8192 old new (omega arith) plans.old-read plans.new-read
    ∙ ap (λ (l : List Stretch). limited l (same_run (run_of old_pieces) (run_of new_pieces))) (bound 64 addresses old_pieces new_pieces (omega arith) old-ends new-ends)

-- our answer below 64 is the only one
pub says : (answer : Answer) → Claims (comparing answer) → answer old_pieces new_pieces ≡ answer_below our_way 64 old_pieces new_pieces
unfolding comparing answered
says answer claims =
    let p = plans in
    let d =
    determined (comparing answer) claims 8192 old new (all-bytes old p.old-bytes) (all-bytes new p.new-bytes) (omega arith) old_pieces new_pieces p.old-read
    p.new-read in
    let a : answer old_pieces new_pieces ≡ comparing answer 8192 old new = rw (p.old-read, p.new-read) in
    a ∙ d ∙ our-answer

-- ---- ways whose images are equal from address 64 on
abbrev pub Quiet : Way → Type 0
Quiet way = (x : ℕ) → 64 ≤ x → differs (way.old-image old_pieces new_pieces) (way.new-image old_pieces new_pieces) x ≡ false

pub says-below : (way : Way) → Quiet way → Claims (comparing_by way) → answer_below way 64 old_pieces new_pieces ≡ answer_below our_way 64 old_pieces new_pieces
unfolding answer_below
says-below way quiet claims =
    let f = way.old-image old_pieces new_pieces in
    let g = way.new-image old_pieces new_pieces in
    ap (λ (l : List Stretch). limited (way.writes f g l) (way.same (run_of old_pieces) (run_of new_pieces))) (sym (any-bound f g 64 addresses (omega arith) quiet))
    ∙ says (answer_below way addresses) claims

-- pieces that end by 64 store nothing from there on
pub stores-none : (ps : List Piece) → All (EndsBy 64) ps → (x : ℕ) → 64 ≤ x → All (λ p. covers p x ≡ false) ps
stores-none ps e x h = all_map (EndsBy 64) (λ p. covers p x ≡ false) ps (λ p g. ends-past 64 x p h g) e

pub last_none : (ps : List Piece) → All (EndsBy 64) ps → (x : ℕ) → 64 ≤ x → last_byte ps x ≡ not_stored
unfolding last_byte
last_none ps e x h = not_covered ps x not_stored (stores-none ps e x h)
