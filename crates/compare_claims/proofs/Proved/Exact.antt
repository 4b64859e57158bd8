-- The stretches that are found are exact, and the only ones that are.
use Rattle.std.specs.Prelude.{◌≡◌, refl, Bool, true, false, List, ℕ, ◌<◌, ltb}
use Rattle.std.proofs.Common.{sym, ◌∙◌, ltb-true, ltb-false}
use Rattle.words.specs.Choice.{All}
use Rattle.words.proofs.ChoiceLaws.{true-is-false, all_map}
use Rattle.plan.specs.Plan.{Piece}
use Rattle.plan.specs.Meaning.{stretch}
use Rattle.stretches.specs.Stretches.{Stretch, differs}
use Rattle.stretches.proofs.StretchesExact.{Valued, ordered, valued, listed-differs, differs-listed}
use Rattle.compare.specs.Reading.{EndsBy}
use Rattle.compare.specs.LastByte.{last_byte}
use Rattle.compare.proofs.ReadingBytes.{AreBytes}
use Rattle.compare.specs.Compare.{differences}
use Rattle.compare.proofs.CompareLaws.{same-past}
use Rattle.compare_claims.specs.Claims.{Shown, Exactly}
use Rattle.compare_claims.proofs.Proved.Leaves.{shown, differs-different, different-differs}

-- ---- the stretches below a bound, of pieces that end by it
module _ (bound : ℕ) (old new : List Piece) (ends-old : All (EndsBy bound) old) (ends-new : All (EndsBy bound) new)
    (old-bytes : AreBytes (stretch old)) (new-bytes : AreBytes (stretch new))
  where
    complete : (x : ℕ) → differs (last_byte (stretch old)) (last_byte (stretch new)) x ≡ true → (t : Bool) → ltb x bound ≡ t → x < bound
    complete x d true e = ltb-true x bound e
    complete x d false e = true-is-false (sym d ∙ same-past bound x old new (ltb-false x bound e) ends-old ends-new)

    first-bytes : (s : Stretch) → Valued (last_byte (stretch old)) (last_byte (stretch new)) s
        → Shown (stretch old) s.first s.old × Shown (stretch new) s.first s.new
    first-bytes s v = (rw v.0 (shown (stretch old) s.first), rw v.1 (shown (stretch new) s.first))

    pub exact : Exactly (stretch old) (stretch new) (differences bound old new)
    exact =
        let f = last_byte (stretch old) in
        let g = last_byte (stretch new) in
        record {
          listed = λ x l. differs-different (stretch old) (stretch new) x (listed-differs f g bound x l);
          complete = λ x d.
              let e = different-differs (stretch old) (stretch new) x old-bytes new-bytes d in
              differs-listed f g bound x (complete x e (ltb x bound) refl) e;
          ordered = ordered f g bound;
          bytes = all_map (Valued f g) _ (differences bound old new) first-bytes (valued f g bound);
        }
