-- For what the check refuses (paper 02, C-20): three causes. `proofs/RefusalsLaws.antt` proves that every refusal has one of them (`refused-cause`),
-- and that each is refused (`cause-refused`).
use Rattle.std.specs.Prelude.{◌≡◌, ℕ, zero, suc, ◌+◌, ◌*◌, ◌<◌, ◌≤◌, List, [], ◌∷◌}
use Rattle.words.specs.Bytes.{little_endian_at}
use Rattle.plan.specs.Plan.{Piece, refused, pieces, read_plan}
use Rattle.aplx_image.specs.Carries.{Says}
use Rattle.aplx_check.specs.Parts.{first_part, FirstPart}
use Rattle.aplx_check.specs.Written.{DataBehind}
use Rattle.aplx_check.specs.Check.{part_length, due_after, whole_entries}

-- ---- the end entry
-- entry e has the end word
abbrev pub EndWord : List ℕ → ℕ → Type 0
EndWord image e = little_endian_at 4 image (16 * e) ≡ 0xffffffff

-- no entry has it, from entry e on and before entry x
abbrev pub NoEnd : List ℕ → ℕ → ℕ → Type 0
NoEnd image e x = (y : ℕ) → e ≤ y → y < x → EndWord image y → ⊥

-- entry x is the first with it, of l entries from entry e on
pub record FirstEnd (image : List ℕ) (l e x : ℕ) : Type 0 where
  pub low : e ≤ x
  pub high : x < e + l
  pub end-word : EndWord image x
  pub first : NoEnd image e x

-- ---- the entries before it
-- the entry at offset k is the next part of the piece, its first n bytes, or its run, "by these rules"; data may lie from offset `behind` on
pub record DueAt (image : List ℕ) (behind k n : ℕ) (p : Piece) : Type 0 where
  pub part : FirstPart n p
  pub says : Says image k (first_part n p)
  pub data-behind : DataBehind image behind k (first_part n p)

-- "after those before it": so many entries, the first of which is entry e, are each the next part or run due. These pieces are due at
-- entry e, and those behind the entries
abbrev pub Reached : List ℕ → ℕ → ℕ → ℕ → List Piece → List Piece → Type 0
Reached image behind zero e ps rest = ps ≡ rest
Reached image behind (suc l) e [] rest = ⊥
Reached image behind (suc l) e (p ∷ ps) rest =
    let n = part_length image (16 * e) p in
    DueAt image behind (16 * e) n p × Reached image behind l (suc e) (due_after n p ps) rest

-- the entry "is not the next part, run or end due", where these pieces are due and the end entry is entry `end`
pub data Wrong (image : List ℕ) (behind end entry : ℕ) : List Piece → Type 0 where
  -- it is no part of the piece that is due, and not its run
  other : {p : Piece} {ps : List Piece} → entry < end → ((n : ℕ) → DueAt image behind (16 * entry) n p → ⊥) → Wrong image behind end entry (p ∷ ps)
  -- the end is due
  late : entry < end → Wrong image behind end entry []
  -- it is the end entry, and a piece is due
  early : {p : Piece} {ps : List Piece} → entry ≡ end → Wrong image behind end entry (p ∷ ps)

-- "the first entry that, after those before it, is not the next part, run or end due by these rules"
pub record FirstWrong (image : List ℕ) (ps : List Piece) (behind end entry : ℕ) : Type 0 where
  pub inside : entry ≤ end
  pub due : List Piece
  pub reached : Reached image behind entry 0 ps due
  pub wrong : Wrong image behind end entry due

-- ---- why the check refuses with number n and index i
pub data Cause (plan image : List ℕ) (n i : ℕ) : Type 0 where
  -- "A refused plan gives 01's number, 12 not tested"
  by-plan : read_plan 1 plan ≡ refused n i → Cause plan image n i
  -- "then no end word in the slice's first 256 whole entries is new number 30 with their number"
  by_end : {ps : List Piece} → read_plan 1 plan ≡ pieces ps → NoEnd image 0 (whole_entries image) → n ≡ 30 → i ≡ whole_entries image → Cause plan image n i
  -- "then 30 with the first entry that" is wrong; the end entry is the first that has the end word
  by-entry : {ps : List Piece} {end : ℕ} → read_plan 1 plan ≡ pieces ps → FirstEnd image (whole_entries image) 0 end → n ≡ 30
      → FirstWrong image ps (16 * suc end) end i → Cause plan image n i
