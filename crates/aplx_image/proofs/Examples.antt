-- Computed examples of images and the pieces that they carry.
use Rattle.std.specs.Prelude.{◌≡◌, refl, List, [], ◌∷◌, ◌++◌, ℕ, ◌+◌, ◌≤◌, length, take}
use Rattle.std.proofs.Common.{ap, arith}
use Rattle.words.specs.Four.{four_at, four_bytes}
use Rattle.words.specs.Open as WordsGroup
use Rattle.plan.specs.Plan.{Piece, put, fill, run}
use Rattle.aplx_image.specs.Carries.{EntryAt, Carries}

-- ---- "Plan of one fill, 32 bytes of 0 at 0x00400000, then run 0. Whole image, 48 bytes" (paper 01)
fill-and-run : List ℕ
fill-and-run =
    3 ∷ 0 ∷ 0 ∷ 0 ∷ 0 ∷ 0 ∷ 0x40 ∷ 0 ∷ 0x20 ∷ 0 ∷ 0 ∷ 0 ∷ 0 ∷ 0 ∷ 0 ∷ 0
    ∷ 4 ∷ 0 ∷ 0 ∷ 0 ∷ 0 ∷ 0 ∷ 0 ∷ 0 ∷ 0 ∷ 0 ∷ 0 ∷ 0 ∷ 0 ∷ 0 ∷ 0 ∷ 0
    ∷ 0xff ∷ 0xff ∷ 0xff ∷ 0xff ∷ 0 ∷ 0 ∷ 0 ∷ 0 ∷ 0 ∷ 0 ∷ 0 ∷ 0 ∷ 0 ∷ 0 ∷ 0 ∷ 0 ∷ []

abbrev their_pieces : List Piece
their_pieces = fill 0x00400000 32 0 ∷ run 0 ∷ []

-- ---- a run, a put whose data is the image's first 32 bytes, and the end. The data stands over both entries and begins 16 bytes before
-- the put's, so its offset is 2^32 - 16; the unused words are not zero
over-entries : List ℕ
over-entries = four_bytes 4 4097 7 8 ++ (four_bytes 2 8192 0xfffffff0 32 ++ four_bytes 0xffffffff 9 10 11)

-- ---- two puts with one copy of their data, behind the end entry
shared : List ℕ
shared = four_bytes 2 0 48 16 ++ (four_bytes 2 16 32 16 ++ (four_bytes 0xffffffff 0 0 0 ++ four_bytes 1 2 3 4))

record Images : Type 0 where
  pub of-the-paper : Carries fill-and-run 0 their_pieces
  pub over : Carries over-entries 0 (run 4097 ∷ put 8192 (take 32 over-entries) ∷ [])
  pub with-one-copy : Carries shared 0 (put 0 (four_bytes 1 2 3 4) ∷ put 16 (four_bytes 1 2 3 4) ∷ [])
  -- from the second entry on, the pieces behind the first
  pub from-the-run : Carries fill-and-run 16 (run 0 ∷ [])
  -- without its end entry it does not carry them
  pub cut : Carries (take 32 fill-and-run) 0 their_pieces → ⊥
  -- and the pieces that it carries are no others
  pub other_length : Carries fill-and-run 0 (fill 0x00400000 64 0 ∷ run 0 ∷ []) → ⊥

-- an entry, by its words
entry :
    {image : List ℕ} {k c x y z : ℕ}
    → k + 16 ≤ length image → four_at image k ≡ record { first = c; second = x; third = y; fourth = z } → EntryAt image k c x y z
entry h e =
    record { whole = h; command = ap (λ w. w.first) e; first = ap (λ w. w.second) e; second = ap (λ w. w.third) e; third = ap (λ w. w.fourth) e }

images : Images
unfolding fill-and-run over-entries shared WordsGroup.bytes
images = record {
  of-the-paper = (
    entry (omega arith) refl,
    (record { second = 0; third = 0; entry = entry (omega arith) refl }, record { first = 0; second = 0; third = 0; entry = entry (omega arith) refl }),
  );
  over = (
    record { second = 7; third = 8; entry = entry (omega arith) refl },
    (
      record { offset = 0xfffffff0; entry = entry (omega arith) refl; source = 0; from-here = refl; aligned = refl; inside = omega arith; bytes = refl },
      record { first = 9; second = 10; third = 11; entry = entry (omega arith) refl },
    ),
  );
  with-one-copy = (
    record { offset = 48; entry = entry (omega arith) refl; source = 48; from-here = refl; aligned = refl; inside = omega arith; bytes = refl },
    (
      record { offset = 32; entry = entry (omega arith) refl; source = 48; from-here = refl; aligned = refl; inside = omega arith; bytes = refl },
      record { first = 0; second = 0; third = 0; entry = entry (omega arith) refl },
    ),
  );
  from-the-run = (
    record { second = 0; third = 0; entry = entry (omega arith) refl },
    record { first = 0; second = 0; third = 0; entry = entry (omega arith) refl },
  );
  cut = λ c. omega (arith, c.1.1.entry.whole);
  other_length = λ c. let z : ◌≡◌ {A = ℕ} 32 64 = c.0.second in omega arith;
}
