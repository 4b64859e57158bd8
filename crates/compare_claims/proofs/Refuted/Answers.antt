-- What each wrong comparison gives for the two plans; so the claims are false of it.
use Rattle.std.specs.Prelude.{◌≡◌, refl, false, not, List, [], ◌∷◌, reverse, ℕ, ◌≤◌, eqb, get_or, if◌then◌else◌}
use Rattle.std.proofs.Common.{ap, sym, ◌∙◌, arith, eq-eqb}
use Rattle.words.specs.Choice.{All}
use Rattle.words.proofs.ChoiceLaws.{all-reverse}
use Rattle.word_blocks.specs.Open as RowsGroup
use Rattle.plan.specs.Plan.{Piece}
use Rattle.plan.specs.Meaning.{stretch, stored_by}
use Rattle.stretches.specs.Stretches.{add, below}
use Rattle.stretches.specs.Stretches.Words.{words_of}
use Rattle.compare.specs.LastByte.{not_stored, after, after_all, last_byte}
use Rattle.compare.specs.LastByte.Exact.{stores_at}
use Rattle.compare.specs.Reading.{run_of, EndsBy}
use Rattle.compare.proofs.ReadingLaws.{stretch-all}
use Rattle.compare.specs.Compare.{Compared, refuses, finds}
use Rattle.compare_claims.specs.Claims.{Claims}
use Rattle.compare_claims.proofs.Proved.Leaves.{none-stores}
use Rattle.compare_claims.proofs.Refuted.Comparisons.{comparing, Way, our_way, answer_below, comparing_by, refusing, finding_nothing, all_pieces, first_piece, where_both, both_store, exchanging, single, singles, each_address, with_last, last_bytes, with_zero, zero_shown, any_run}
use Rattle.compare_claims.proofs.Refuted.Example.{old_pieces, new_pieces, old-ends, new-ends, says, Quiet, says-below, stores-none, last_none}

-- ---- what they give
-- an answer as numbers: 1 for the same run and 0 for another, then four words a stretch; or 2, the refusal's number and place
unfoldable pub numbers : Compared → List ℕ
numbers (refuses w x i) = 2 ∷ x ∷ i ∷ []
numbers (finds l same) = (if same then 1 else 0) ∷ words_of l

abbrev given : Way → List ℕ
given way = numbers (answer_below way 64 old_pieces new_pieces)

abbrev by_ours : List ℕ
by_ours = 0 ∷ 4 ∷ 8 ∷ 1 ∷ 256 ∷ 12 ∷ 15 ∷ 256 ∷ 1 ∷ []

pub record Given : Type 0 where
  -- the old plan alone stores 4 to 7, at 8 they differ, and the new plan alone stores 12 to 15
  pub by-ours : given our_way ≡ by_ours
  pub by-all-pieces : given all_pieces ≡ 0 ∷ 4 ∷ 8 ∷ 1 ∷ 256 ∷ 12 ∷ 15 ∷ 256 ∷ 1 ∷ 32 ∷ 35 ∷ 0 ∷ 256 ∷ []
  pub by-first-piece : given first_piece ≡ 0 ∷ 4 ∷ 7 ∷ 1 ∷ 256 ∷ 12 ∷ 15 ∷ 256 ∷ 1 ∷ []
  pub by-both-store : given both_store ≡ 0 ∷ 8 ∷ 8 ∷ 2 ∷ 1 ∷ []
  pub by-exchanging : given exchanging ≡ 0 ∷ 4 ∷ 8 ∷ 256 ∷ 1 ∷ 12 ∷ 15 ∷ 1 ∷ 256 ∷ []
  pub by-last-bytes : given last_bytes ≡ 0 ∷ 4 ∷ 8 ∷ 2 ∷ 1 ∷ 12 ∷ 15 ∷ 256 ∷ 1 ∷ []
  pub by-zero-shown : given zero_shown ≡ 0 ∷ 4 ∷ 8 ∷ 1 ∷ 0 ∷ 12 ∷ 15 ∷ 0 ∷ 1 ∷ []
  pub by-any-run : given any_run ≡ 1 ∷ 4 ∷ 8 ∷ 1 ∷ 256 ∷ 12 ∷ 15 ∷ 256 ∷ 1 ∷ []
  -- nine stretches
  pub by-each-address :
      given each_address
      ≡ 0 ∷ 4 ∷ 4 ∷ 1 ∷ 256 ∷ 5 ∷ 5 ∷ 1 ∷ 256 ∷ 6 ∷ 6 ∷ 1 ∷ 256 ∷ 7 ∷ 7 ∷ 1 ∷ 256 ∷ 8 ∷ 8 ∷ 2 ∷ 1
      ∷ 12 ∷ 12 ∷ 256 ∷ 1 ∷ 13 ∷ 13 ∷ 256 ∷ 1 ∷ 14 ∷ 14 ∷ 256 ∷ 1 ∷ 15 ∷ 15 ∷ 256 ∷ 1 ∷ []
  pub by-refusing : numbers (refusing old_pieces new_pieces) ≡ 2 ∷ 18 ∷ 512 ∷ []
  pub by-finding-nothing : numbers (finding_nothing old_pieces new_pieces) ≡ 0 ∷ []

pub what-is-given : Given
unfolding numbers answer_below stretch add below words_of stored_by after after_all last_byte stores_at run_of where_both single singles with_last with_zero RowsGroup.rows
what-is-given = record {
  by-ours = refl;
  by-all-pieces = refl;
  by-first-piece = refl;
  by-both-store = refl;
  by-exchanging = refl;
  by-last-bytes = refl;
  by-zero-shown = refl;
  by-any-run = refl;
  by-each-address = refl;
  by-refusing = refl;
  by-finding-nothing = refl;
}

-- ---- their images are equal from address 64 on
old-none : (x : ℕ) → 64 ≤ x → last_byte (stretch old_pieces) x ≡ not_stored
old-none = last_none (stretch old_pieces) (stretch-all (EndsBy 64) old_pieces old-ends)

new_none : (x : ℕ) → 64 ≤ x → last_byte (stretch new_pieces) x ≡ not_stored
new_none = last_none (stretch new_pieces) (stretch-all (EndsBy 64) new_pieces new-ends)

equal : {f g : ℕ → ℕ} → ((x : ℕ) → 64 ≤ x → f x ≡ not_stored) → ((x : ℕ) → 64 ≤ x → g x ≡ not_stored) → (x : ℕ) → 64 ≤ x → not (eqb (f x) (g x)) ≡ false
equal {f} {g} h k x l = ap not (eq-eqb (f x) (g x) (h x l ∙ sym (k x l)))

our-images : Quiet our_way
our-images = equal old-none new_none

all-images : Quiet all_pieces
all-images = equal (last_none old_pieces old-ends) (last_none new_pieces new-ends)

reversed-none : (ps : List Piece) → All (EndsBy 64) ps → (x : ℕ) → 64 ≤ x → last_byte (reverse (stretch ps)) x ≡ not_stored
reversed-none ps e = last_none (reverse (stretch ps)) (all-reverse (EndsBy 64) (stretch ps) (stretch-all (EndsBy 64) ps e))

first-images : Quiet first_piece
first-images = equal (reversed-none old_pieces old-ends) (reversed-none new_pieces new-ends)

both-none : (ps : List Piece) (x : ℕ) → 64 ≤ x → where_both (stretch old_pieces) (stretch new_pieces) ps x ≡ not_stored
unfolding where_both
both-none ps x h = rw (none-stores (stretch old_pieces) x (stores-none (stretch old_pieces) (stretch-all (EndsBy 64) old_pieces old-ends) x h))

both-images : Quiet both_store
both-images = equal (both-none (stretch old_pieces)) (both-none (stretch new_pieces))

-- ---- the refutations
at-index : (k : ℕ) {l m : List ℕ} → l ≡ m → get_or l k 0 ≡ get_or m k 0
at-index k e = ap (λ (l : List ℕ). get_or l k 0) e

-- by the number with index k
refuted : (way : Way) → Quiet way → (k : ℕ) {l : List ℕ} → given way ≡ l → (get_or l k 0 ≡ get_or by_ours k 0 → ⊥) → Claims (comparing_by way) → ⊥
refuted way quiet k e n claims = n (at-index k (sym e ∙ ap numbers (says-below way quiet claims) ∙ what-is-given.by-ours))

pub record WrongComparisons : Type 0 where
  pub refusing-refuted : Claims (comparing refusing) → ⊥
  pub finding-nothing-refuted : Claims (comparing finding_nothing) → ⊥
  -- by the stretch behind the run
  pub all-pieces-refuted : Claims (comparing_by all_pieces) → ⊥
  -- by address 8, which the put changes
  pub first-piece-refuted : Claims (comparing_by first_piece) → ⊥
  -- by address 4, which the old plan alone stores
  pub both-store-refuted : Claims (comparing_by both_store) → ⊥
  pub exchanging-refuted : Claims (comparing_by exchanging) → ⊥
  -- by the first stretch, which goes on
  pub each-address-refuted : Claims (comparing_by each_address) → ⊥
  -- by the old byte at address 4
  pub last-bytes-refuted : Claims (comparing_by last_bytes) → ⊥
  -- by the new byte there
  pub zero-shown-refuted : Claims (comparing_by zero_shown) → ⊥
  -- by the runs 4 and 8
  pub any-run-refuted : Claims (comparing_by any_run) → ⊥

pub wrong-comparisons : WrongComparisons
wrong-comparisons =
    let g = what-is-given in
    record {
      refusing-refuted = λ d.
          let z : ◌≡◌ {A = ℕ} 2 0 = at-index 0 (sym g.by-refusing ∙ ap numbers (says refusing d) ∙ g.by-ours) in
          omega arith;
      finding-nothing-refuted = λ d.
          let z : ◌≡◌ {A = ℕ} 0 4 = at-index 1 (sym g.by-finding-nothing ∙ ap numbers (says finding_nothing d) ∙ g.by-ours) in
          omega arith;
      all-pieces-refuted = refuted all_pieces all-images 9 g.by-all-pieces (λ z. omega arith);
      first-piece-refuted = refuted first_piece first-images 2 g.by-first-piece (λ z. omega arith);
      both-store-refuted = refuted both_store both-images 1 g.by-both-store (λ z. omega arith);
      exchanging-refuted = refuted exchanging (equal new_none old-none) 3 g.by-exchanging (λ z. omega arith);
      each-address-refuted = refuted each_address our-images 2 g.by-each-address (λ z. omega arith);
      last-bytes-refuted = refuted last_bytes our-images 3 g.by-last-bytes (λ z. omega arith);
      zero-shown-refuted = refuted zero_shown our-images 4 g.by-zero-shown (λ z. omega arith);
      any-run-refuted = refuted any_run our-images 0 g.by-any-run (λ z. omega arith);
    }
