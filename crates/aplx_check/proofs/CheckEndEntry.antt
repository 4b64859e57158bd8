-- What the search for the end entry finds (paper 02, C-20): the first end word, or none where no entry has it.
use Rattle.std.specs.Prelude.{◌≡◌, ℕ, zero, suc, ◌+◌, ◌*◌, ◌<◌, Bool, true, false, List, ◌==◌, ◌≢◌, nat_eq, if◌then◌else◌}
use Rattle.std.proofs.Math.Path.{refl}
use Rattle.std.proofs.Common.{sym}
use native.Mathlib.Omega.{arith}
use borrow.Author.Tests.{eqb-true, eqb-false, ne_eqb}
use Rattle.words.proofs.ChoiceLaws.{from-else}
use Rattle.words.specs.Bytes.{little_endian_at}
use Rattle.aplx_check.specs.Check.{at, none, first_end}
use Rattle.aplx_check.specs.Refusals.{EndWord, NoEnd, FirstEnd}

module _ (image : List ℕ) where
  none-behind : (e : ℕ) {x : ℕ} → (EndWord image e → ⊥) → NoEnd image (suc e) x → NoEnd image e x
  none-behind e n h y a b w = go (e == y) refl
    where
      go : (t : Bool) → (e == y) ≢ t
      go true t = n (rw (eqb-true e y t) w)
      go false t = h y (omega (arith, eqb-false e y t)) b w

  none-at : {x : ℕ} → none ≢ at x
  none-at e = let z : ◌≡◌ {A = ℕ} 0 1 = cc in omega arith

  pub end-found : (l e : ℕ) {x : ℕ} → first_end image l e ≡ at x → FirstEnd image l e x
  unfolding first_end
  end-found zero e h = absurd (none-at h)
  end-found (suc l) e {x} h = go (λ f. end-found l (suc e) f) (little_endian_at 4 image (16 * e) == 0xffffffff) refl h
    where
      go : (first_end image l (suc e) ≡ at x → FirstEnd image l (suc e) x) → (t : Bool) → (little_endian_at 4 image (16 * e) == 0xffffffff) ≡ t
          → (if t then at e else first_end image l (suc e)) ≡ at x → FirstEnd image (suc l) e x
      go rest true t h =
          let z : e ≡ x = cc in
          let w : EndWord image e = eqb-true (little_endian_at 4 image (16 * e)) 0xffffffff t in
          record { low = omega arith; high = omega arith; end-word = rw (sym z) w; first = λ y a b. absurd (omega arith) }
      go rest false t h =
          let r = rest h in
          record {
            low = omega (arith, r.low);
            high = omega (arith, r.high);
            end-word = r.end-word;
            first = none-behind e (eqb-false (little_endian_at 4 image (16 * e)) 0xffffffff t) r.first;
          }

  pub none_found : (l e : ℕ) → first_end image l e ≡ none → NoEnd image e (e + l)
  unfolding first_end
  none_found zero e h = λ y a b. absurd (omega arith)
  none_found (suc l) e h =
      let x = from-else (little_endian_at 4 image (16 * e) == 0xffffffff) (λ f. none-at (sym f)) h in
      let u : e + suc l ≡ suc e + l = omega arith in
      rw u (none-behind e (eqb-false (little_endian_at 4 image (16 * e)) 0xffffffff x.0) (none_found l (suc e) x.1))

  pub found_none : (l e : ℕ) → NoEnd image e (e + l) → first_end image l e ≡ none
  unfolding first_end
  found_none zero e h = refl
  found_none (suc l) e h =
      rw (ne_eqb (little_endian_at 4 image (16 * e)) 0xffffffff (h e (omega arith) (omega arith))) (found_none l (suc e) (λ y a b. h y (omega arith) (omega arith)))

  pub found-end : (l e x : ℕ) → FirstEnd image l e x → first_end image l e ≡ at x
  unfolding first_end
  found-end zero e x f = absurd (omega (arith, f.low, f.high))
  found-end (suc l) e x f = go (λ g. found-end l (suc e) x g) (e == x) refl
    where
      go : (FirstEnd image l (suc e) x → first_end image l (suc e) ≡ at x) → (t : Bool) → (e == x) ≡ t
          → (if nat_eq (little_endian_at 4 image (16 * e)) 0xffffffff then at e else first_end image l (suc e)) ≡ at x
      go rest true t = let z = eqb-true e x t in rw (z, f.end-word)
      go rest false t =
          let low : e < x = omega (arith, f.low, eqb-false e x t) in
          rw (ne_eqb (little_endian_at 4 image (16 * e)) 0xffffffff (f.first e (omega arith) low))
          (rest (record { low = low; high = omega (arith, f.high); end-word = f.end-word; first = λ y a b. f.first y (omega arith) b }))
