-- What someone who signs a plan asks of the comparison. Each law says what it holds of; its proof needs no reading.
use Rattle.std.specs.Prelude.{◌≡◌, refl, Bool, true, false, not, List, [], ℕ, ◌*◌, ◌≤◌, ◌<◌, ltb, length, if◌then◌else◌}
use Rattle.std.proofs.Common.{ap, sym, ◌∙◌, arith, ltb-true, ltb-false, lt-ltb, le-ltb, eqb-true, eq-eqb}
use Rattle.words.proofs.ChoiceLaws.{true-is-false, from_then}
use Rattle.words.specs.Bytes.{Bytes}
use Rattle.memory_map.specs.declared.map.Map.{Map}
use Rattle.memory_map.specs.Map.{sound}
use Rattle.memory_map.specs.Lookup.{Lookup, lookup}
use Rattle.memory_map.proofs.LookupLaws.{lawful}
use Rattle.plan.specs.Plan.{Piece, Read, refused, pieces}
use Rattle.plan.specs.Meaning.{stretch, Stopped, meaning}
use Rattle.stretches.specs.Stretches.{Stretch, times, exchanged}
use Rattle.stretches.proofs.StretchesExact.{none_differ}
use Rattle.stretches.proofs.StretchesUnique.{listed-once, not_listed}
use Rattle.stretches.proofs.StretchesExchanged.{length_exchanged, below-exchanged, eqb-turned}
use Rattle.compare.specs.LastByte.{last_byte}
use Rattle.compare.specs.Reading.{addresses, read_compared, Run, none, at, run_of, same_run}
use Rattle.compare.specs.Compare.{differences, most_stretches, limited, stretch_size, neither, refuses, finds, compared}
use Rattle.compare_claims.specs.Claims.{Comparison, Different, Exactly, Claims, named_by}
use Rattle.compare_claims.specs.Refusals.{Refusals}
use Rattle.compare_claims.proofs.Ours.{our-refusals}
use Rattle.compare_claims.proofs.Proved.{compared-pieces}
use Rattle.compare.proofs.ReadingBytes.{compared-bytes}
use Rattle.compare_claims.proofs.Proved.Answers as answers
use Rattle.compare_claims.proofs.Proved.Answers.{Reads, finds-reads, many-reads, answer, answer-exact, found-facts, none-same}
use Rattle.compare_claims.proofs.Proved.Effect.{run-meant, same_memory}

-- ---- the claims leave no choice
-- two lists that are both exact are equal
pub exactly-unique : (old new : List Piece) (l k : List Stretch) → Exactly old new l → Exactly old new k → l ≡ k
exactly-unique = answers.exactly-unique

-- every comparison of which the claims hold gives our answer, for two plans that are read
pub determined :
    (compare : Comparison) → Claims compare → (n : ℕ) (old new : List ℕ) → Bytes old → Bytes new → stretch_size * most_stretches ≤ n
    → (old_pieces new_pieces : List Piece) → read_compared old ≡ pieces old_pieces → read_compared new ≡ pieces new_pieces → compare n old new ≡ compared n old new
determined compare claims n old new b c h old_pieces new_pieces e f =
    let d = claims n old new b c h old_pieces new_pieces e f in
    let r : Reads n old new = record { room = h; old_pieces = old_pieces; new_pieces = new_pieces; old-read = e; new-read = f } in
    let z = exactly-unique (stretch old_pieces) (stretch new_pieces) d.stretches (differences addresses old_pieces new_pieces) d.exact (answer-exact n old new r b c) in
    d.answer ∙ ap (λ (l : List Stretch). limited l (same_run (run_of old_pieces) (run_of new_pieces))) z ∙ sym (answer n old new r)

-- and every one that refuses as is said gives it for any two files
pub determined-all :
    (compare : Comparison) → Claims compare → Refusals compare → (n : ℕ) (old new : List ℕ) → Bytes old → Bytes new → compare n old new ≡ compared n old new
determined-all compare claims refusals n old new b c = go (ltb n (stretch_size * most_stretches)) refl (read_compared old) refl (read_compared new) refl
  where
    go : (t : Bool) → ltb n (stretch_size * most_stretches) ≡ t → (r : Read) → read_compared old ≡ r → (q : Read) → read_compared new ≡ q
        → compare n old new ≡ compared n old new
    go true h r e q f =
        let l = ltb-true n (stretch_size * most_stretches) h in
        refusals.no_room n old new l ∙ sym (our-refusals.no_room n old new l)
    go false h (refused x i) e q f =
        let l = ltb-false n (stretch_size * most_stretches) h in
        refusals.old-refused n old new l e ∙ sym (our-refusals.old-refused n old new l e)
    go false h (pieces old_pieces) e (refused x i) f =
        let l = ltb-false n (stretch_size * most_stretches) h in
        refusals.new-refused n old new l e f ∙ sym (our-refusals.new-refused n old new l e f)
    go false h (pieces old_pieces) e (pieces new_pieces) f = determined compare claims n old new b c (ltb-false n (stretch_size * most_stretches) h) old_pieces new_pieces e f

-- ---- a list that is found
module _ (n : ℕ) (old new : List ℕ) (old-bytes : Bytes old) (new-bytes : Bytes new) {l : List Stretch} {same : Bool} (found : compared n old new ≡ finds l same)
    (old_pieces new_pieces : List Piece) (old-read : read_compared old ≡ pieces old_pieces) (new-read : read_compared new ≡ pieces new_pieces)
  where
    abbrev reads : Reads n old new
    reads = record { room = (finds-reads n old new found).room; old_pieces = old_pieces; new_pieces = new_pieces; old-read = old-read; new-read = new-read }

    -- it is exact
    pub found-exact : Exactly (stretch old_pieces) (stretch new_pieces) l
    found-exact = rw (found-facts n old new reads found).1 at (answer-exact n old new reads old-bytes new-bytes)

    -- an address that is different is in one of its stretches, and in no other
    pub once : (x : ℕ) → Different (stretch old_pieces) (stretch new_pieces) x → times x l ≡ 1
    once x d = listed-once 0 x l found-exact.ordered (found-exact.complete x d)

    -- any other is in none
    pub never : (x : ℕ) → (Different (stretch old_pieces) (stretch new_pieces) x → ⊥) → times x l ≡ 0
    never x d = not_listed x l (λ h. d (found-exact.listed x h))

-- ---- a plan and itself
same-itself : (r : Run) → same_run r r ≡ true
same-itself none = refl
same-itself (at a) = eq-eqb a a refl

-- a plan that is read is not different from itself
pub with_itself : (n : ℕ) (s : List ℕ) → stretch_size * most_stretches ≤ n → (ps : List Piece) → read_compared s ≡ pieces ps → compared n s s ≡ finds [] true
with_itself n s h ps e =
    let f = last_byte (stretch ps) in
    compared-pieces n s s h e e
    ∙ ap (λ (l : List Stretch). limited l (same_run (run_of ps) (run_of ps))) (none_differ f f addresses (λ x. ap not (eq-eqb (f x) (f x) refl)))
    ∙ ap (finds []) (same-itself (run_of ps))

-- ---- old and new exchanged
same-exchanged : (r q : Run) → same_run q r ≡ same_run r q
same-exchanged none none = refl
same-exchanged none (at b) = refl
same-exchanged (at a) none = refl
same-exchanged (at a) (at b) = eqb-turned b a

-- the other way round: the same stretches, old and new byte exchanged
exchanged-answer : (n : ℕ) (old new : List ℕ) (r : Reads n old new)
    → compared n new old ≡ limited (exchanged (differences addresses r.old_pieces r.new_pieces)) (same_run (run_of r.old_pieces) (run_of r.new_pieces))
exchanged-answer n old new r =
    let f = last_byte (stretch r.old_pieces) in
    let g = last_byte (stretch r.new_pieces) in
    compared-pieces n new old r.room r.new-read r.old-read
    ∙ ap (λ (l : List Stretch). limited l (same_run (run_of r.new_pieces) (run_of r.old_pieces))) (below-exchanged f g addresses)
    ∙ ap (limited (exchanged (differences addresses r.old_pieces r.new_pieces))) (same-exchanged (run_of r.old_pieces) (run_of r.new_pieces))

pub exchanged-finds : (n : ℕ) (old new : List ℕ) {l : List Stretch} {same : Bool} → compared n old new ≡ finds l same
    → compared n new old ≡ finds (exchanged l) same
exchanged-finds n old new {l} {same} e =
    let r = finds-reads n old new e in
    let f = found-facts n old new r e in
    let g : length (exchanged l) ≤ most_stretches = omega (arith, length_exchanged l, f.0, ap length f.1) in
    exchanged-answer n old new r
    ∙ ap (λ (k : List Stretch). limited (exchanged k) (same_run (run_of r.old_pieces) (run_of r.new_pieces))) f.1
    ∙ ap (limited (exchanged l)) f.2
    ∙ ap (λ (b : Bool). if b then refuses neither 18 512 else finds (exchanged l) same) (le-ltb most_stretches (length (exchanged l)) g)

-- too many one way are too many the other
pub exchanged-refuses : (n : ℕ) (old new : List ℕ) → compared n old new ≡ refuses neither 18 512 → compared n new old ≡ refuses neither 18 512
exchanged-refuses n old new e =
    let r = many-reads n old new e in
    let d = differences addresses r.old_pieces r.new_pieces in
    let same = same_run (run_of r.old_pieces) (run_of r.new_pieces) in
    let f = from_then (ltb most_stretches (length d)) finds-no-refuses (sym (answer n old new r) ∙ e) in
    let g : most_stretches < length (exchanged d) = omega (arith, length_exchanged d, ltb-true most_stretches (length d) f.0) in
    exchanged-answer n old new r
    ∙ ap (λ (b : Bool). if b then refuses neither 18 512 else finds (exchanged d) same) (lt-ltb most_stretches (length (exchanged d)) g)
  where
    finds-no-refuses : {l : List Stretch} {b : Bool} → finds l b ≡ refuses neither 18 512 → ⊥
    finds-no-refuses z = let y : ◌≡◌ {A = ℕ} 0 1 = cc in omega arith

-- ---- equal effect
-- where no stretch is found, the two plans leave the same memory, with any map that is sound for it and permits both
pub equal-effect :
    (n : ℕ) (old new : List ℕ) → Bytes old → Bytes new → {same : Bool} → compared n old new ≡ finds [] same
    → (old_pieces new_pieces : List Piece) → read_compared old ≡ pieces old_pieces → read_compared new ≡ pieces new_pieces
    → (map : Map) (m : List ℕ) → sound map (length m) ≡ true → Stopped (meaning (lookup map) old_pieces 0 m).finish → Stopped (meaning (lookup map) new_pieces 0 m).finish
    → (meaning (lookup map) old_pieces 0 m).memory ≡ (meaning (lookup map) new_pieces 0 m).memory
equal-effect n old new b c e old_pieces new_pieces f g map m sounds s t =
    same_memory (lookup map) m (lawful map (length m) sounds) old_pieces new_pieces (compared-bytes old b f) (compared-bytes new c g)
    (none-same (stretch old_pieces) (stretch new_pieces) (found-exact n old new b c e old_pieces new_pieces f g)) s t

-- ---- the run
same-run-is : (r q : Run) → same_run r q ≡ true → r ≡ q
same-run-is none none e = refl
same-run-is (at a) (at b) e = ap at (eqb-true a b e)
same-run-is none (at b) e = true-is-false (sym e)
same-run-is (at a) none e = true-is-false (sym e)

-- of two stretches that are permitted, under whatever map and memory
module _ (n : ℕ) (old new : List ℕ) {l : List Stretch} {same : Bool} (found : compared n old new ≡ finds l same)
    (old_pieces new_pieces : List Piece) (old-read : read_compared old ≡ pieces old_pieces) (new-read : read_compared new ≡ pieces new_pieces)
    (find : Lookup) (m : List ℕ) (old-stops : Stopped (meaning find old_pieces 0 m).finish) (new-stops : Stopped (meaning find new_pieces 0 m).finish)
  where
    runs : same_run (run_of old_pieces) (run_of new_pieces) ≡ same
    runs =
        (found-facts n old new (record { room = (finds-reads n old new found).room; old_pieces = old_pieces; new_pieces = new_pieces; old-read = old-read; new-read = new-read }) found).2

    -- "the runs are the same": the same address, or neither has a run
    pub same-run : same ≡ true → named_by (meaning find old_pieces 0 m).finish ≡ named_by (meaning find new_pieces 0 m).finish
    same-run e =
        run-meant find old_pieces m old-stops ∙ same-run-is (run_of old_pieces) (run_of new_pieces) (runs ∙ e) ∙ sym (run-meant find new_pieces m new-stops)

    -- otherwise they differ
    pub other-run : same ≡ false → named_by (meaning find old_pieces 0 m).finish ≡ named_by (meaning find new_pieces 0 m).finish → ⊥
    other-run e z =
        let y = sym (run-meant find old_pieces m old-stops) ∙ z ∙ run-meant find new_pieces m new-stops in
        true-is-false (sym (same-itself (run_of old_pieces)) ∙ ap (same_run (run_of old_pieces)) y ∙ runs ∙ e)
