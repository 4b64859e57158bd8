-- What an answer says: the stretches of plans that were read, or that these are too many.
use Rattle.std.specs.Prelude.{◌≡◌, Bool, true, false, List, [], ℕ, ◌*◌, ◌≤◌, ltb, length}
use Rattle.std.proofs.Math.Path.{refl}
use Rattle.std.proofs.Common.{sym, ◌∙◌, arith, ltb-false, eqb-true}
use Rattle.std.proofs.lemmas.Bool.{not-false}
use Rattle.words.specs.Choice.{All}
use Rattle.words.proofs.ChoiceLaws.{from-else, all_map}
use Rattle.words.specs.Bytes.{Bytes}
use Rattle.plan.specs.Plan.{Piece, Read, refused, pieces}
use Rattle.plan.specs.Meaning.{stretch}
use Rattle.stretches.specs.Stretches.{Stretch, differs}
use Rattle.stretches.proofs.StretchesExact.{Valued}
use Rattle.stretches.proofs.StretchesUnique.{none-listed, unique}
use Rattle.compare.specs.LastByte.{last_byte}
use Rattle.compare.specs.Reading.{addresses, read_compared, run_of, same_run}
use Rattle.compare.proofs.ReadingLaws.{readable}
use Rattle.compare.specs.Compare.{differences, most_stretches, limited, stretch_size, neither, old_plan, new_plan, Compared, refuses, finds, compared_below, compared}
use Rattle.compare.proofs.CompareLaws.{refuses-no-finds, limited-finds}
use Rattle.compare_claims.specs.Claims.{Shown, Exactly}
use Rattle.compare_claims.proofs.Proved.Leaves.{shown-last, differs-different}
use Rattle.compare.proofs.ReadingBytes.{compared-bytes}
use Rattle.compare_claims.proofs.Proved.Exact.{exact}
use Rattle.compare_claims.proofs.Proved.{compared-pieces}

-- ---- two plans that were read, with room
pub record Reads (n : ℕ) (old new : List ℕ) : Type 0 where
  pub room : stretch_size * most_stretches ≤ n
  pub old_pieces : List Piece
  pub new_pieces : List Piece
  pub old-read : read_compared old ≡ pieces old_pieces
  pub new-read : read_compared new ≡ pieces new_pieces

-- an answer that no refusal of a plan, nor of the output, gives
module _ (n : ℕ) (old new : List ℕ) (c : Compared) (no_room : refuses neither 10 0 ≡ c → ⊥)
    (no_old : (x i : ℕ) → refuses old_plan x i ≡ c → ⊥) (no-new : (x i : ℕ) → refuses new_plan x i ≡ c → ⊥)
  where
    pub both_read : compared n old new ≡ c → Reads n old new
    unfolding compared compared_below
    both_read e =
        let f = from-else (ltb n (stretch_size * most_stretches)) no_room e in
        go (ltb-false n (stretch_size * most_stretches) f.0) (read_compared old) refl (read_compared new) refl f.1
      where
        go : stretch_size * most_stretches ≤ n → (r : Read) → read_compared old ≡ r → (q : Read) → read_compared new ≡ q
            → compared_below addresses r q ≡ c → Reads n old new
        go h (refused x i) f q g e = absurd (no_old x i e)
        go h (pieces ps) f (refused x i) g e = absurd (no-new x i e)
        go h (pieces ps) f (pieces qs) g e = record { room = h; old_pieces = ps; new_pieces = qs; old-read = f; new-read = g }

pub finds-reads : (n : ℕ) (old new : List ℕ) {l : List Stretch} {same : Bool} → compared n old new ≡ finds l same → Reads n old new
finds-reads n old new {l} {same} e = both_read n old new (finds l same) refuses-no-finds (λ x i. refuses-no-finds) (λ x i. refuses-no-finds) e

pub many-reads : (n : ℕ) (old new : List ℕ) → compared n old new ≡ refuses neither 18 512 → Reads n old new
many-reads n old new e =
    both_read n old new (refuses neither 18 512) (λ z. let y : ◌≡◌ {A = ℕ} 10 18 = cc in omega arith)
    (λ x i z. let y : ◌≡◌ {A = ℕ} 0 1 = cc in omega arith) (λ x i z. let y : ◌≡◌ {A = ℕ} 0 1 = cc in omega arith) e

-- ---- the answer is exact
module _ (n : ℕ) (old new : List ℕ) (r : Reads n old new) where
  pub answer : compared n old new ≡ limited (differences addresses r.old_pieces r.new_pieces) (same_run (run_of r.old_pieces) (run_of r.new_pieces))
  answer = compared-pieces n old new r.room r.old-read r.new-read

  pub answer-exact : Bytes old → Bytes new → Exactly (stretch r.old_pieces) (stretch r.new_pieces) (differences addresses r.old_pieces r.new_pieces)
  answer-exact b c =
      exact addresses r.old_pieces r.new_pieces (readable old r.old-read).ends (readable new r.new-read).ends
      (compared-bytes old b r.old-read) (compared-bytes new c r.new-read)

  -- of an answer with stretches: 512 at most, and they and the run are those of the two plans
  pub found-facts : {l : List Stretch} {same : Bool} → compared n old new ≡ finds l same
      → (length (differences addresses r.old_pieces r.new_pieces) ≤ most_stretches) × (differences addresses r.old_pieces r.new_pieces ≡ l)
      × (same_run (run_of r.old_pieces) (run_of r.new_pieces) ≡ same)
  found-facts e = limited-finds (differences addresses r.old_pieces r.new_pieces) (same_run (run_of r.old_pieces) (run_of r.new_pieces)) (sym answer ∙ e)

-- ---- exact stretches are the only ones
pub exactly-unique : (old new : List Piece) (l k : List Stretch) → Exactly old new l → Exactly old new k → l ≡ k
exactly-unique old new l k e f =
    unique (last_byte old) (last_byte new) 0 0 l k e.ordered f.ordered (first-values l e.bytes) (first-values k f.bytes)
    (λ x h. f.complete x (e.listed x h)) (λ x h. e.complete x (f.listed x h))
  where
    first-values : (l : List Stretch) → All (λ s. Shown old s.first s.old × Shown new s.first s.new) l
        → All (Valued (last_byte old) (last_byte new)) l
    first-values l h = all_map _ (Valued (last_byte old) (last_byte new)) l (λ s g. (shown-last g.0, shown-last g.1)) h

-- where there are none, all last bytes are equal
pub none-same : (old new : List Piece) → Exactly old new [] → (x : ℕ) → last_byte old x ≡ last_byte new x
none-same old new e x = go (differs (last_byte old) (last_byte new) x) refl
  where
    go : (t : Bool) → differs (last_byte old) (last_byte new) x ≡ t → last_byte old x ≡ last_byte new x
    go true f = absurd (none-listed (e.complete x (differs-different old new x f)))
    go false f = eqb-true _ _ (not-false _ f)
