-- Laws of what is shown, the same for every conversion: bytes that fit, or a line.
use Rattle.std.specs.Prelude.{◌≡◌, refl, Bool, true, false, List, [], ℕ, ◌≤◌, leb, length, if◌then◌else◌}
use Rattle.std.proofs.Common.{arith, le-leb, leb-true}
use Rattle.words.specs.Store.{store}
use Rattle.plan.specs.Packed.{Packed, refuses, packs, output_after, Outcome, outcome_of}
use Rattle.text.specs.Refusal.{refusal_line, fitting}
use Rattle.conversion.specs.Shown.{shown, size_after, line_after}

-- text for n bytes has n at most
fitting-length : (d : List ℕ) (n : ℕ) → length (fitting d n) ≤ n
fitting-length d n = go (leb (length d) n) refl
  where
    go : (b : Bool) → leb (length d) n ≡ b → length (if b then d else []) ≤ n
    go true e = leb-true _ _ e
    go false e = omega arith

-- what a function answers and leaves that writes d to an output m: r and last
pub record Done (d m : List ℕ) (r : ℕ) (last : List ℕ) : Type 0 where
  pub length-is : r ≡ length (fitting d (length m))
  pub output-is : last ≡ store m 0 (fitting d (length m))
  pub inside : r ≤ length m

pub done : (d m : List ℕ) (r : ℕ) (last : List ℕ) → r ≡ length (fitting d (length m)) → last ≡ store m 0 (fitting d (length m)) → Done d m r last
done d m r last a b = record { length-is = a; output-is = b; inside = omega (arith, a, fitting-length d (length m)) }

-- what was packed or read back for an output m fits into it
abbrev pub Fits : Packed → List ℕ → Type 0
Fits q m = (bytes : List ℕ) → q ≡ packs bytes → length bytes ≤ length m

-- it was answered, and left in m; then its line was written
pub shown-done : (q : Packed) (m left : List ℕ) → Fits q m → left ≡ output_after q m → (o : Outcome) → o ≡ outcome_of q
    → (r : ℕ) (last : List ℕ) → r ≡ size_after o left → last ≡ line_after o left → Done (shown q) m r last
shown-done (refuses x p) m left fits k o e r last a b = done (refusal_line x p) m r last (rw (e, k) at a) (rw (e, k) at b)
shown-done (packs bytes) m left fits k o e r last a b =
    let f = le-leb (length bytes) (length m) (fits bytes refl) in
    let z : r ≡ length bytes = rw e at a in
    let y : last ≡ store m 0 bytes = rw (e, k) at b in
    done bytes m r last (rw f z) (rw f y)
