-- What paper 02, C-24, claims of one plan on either medium: a statement about any software. `Ours.antt` says that it holds of every software
-- of which demand 3 holds, and so of ours; `Refuted` says that it is false of wrong software.
use Rattle.std.specs.Prelude.{◌≡◌, false, List, [], ◌∷◌, ℕ, length, drop, get_or}
use Rattle.words.specs.Bytes.{Bytes}
use Rattle.words.specs.Range.{meets}
use Rattle.outcome.specs.Outcome as outcome
use Rattle.outcome.specs.Outcome.{Kind, Ending, stops, refuses}
use Rattle.memory_map.specs.declared.map.Map.{Map}
use Rattle.memory_map.specs.Lookup.{lookup}
use Rattle.memory_map.specs.Entry.{kind_at}
use Rattle.plan.specs.Plan as format
use Rattle.plan.specs.Plan.{Piece, read_plan}
use Rattle.plan.specs.Packed.{packs}
use Rattle.plan.specs.Meaning.{stretch, Finish, ends, runs, denies, finish}
use Rattle.series.specs.Series.{Change, changed, Step, Left, series}
use Rattle.series.specs.Medium.{srom, aplx}
use Rattle.series.specs.Software.{Software}
use Rattle.series.specs.Demand.{loads, Granted}

-- ---- memory
-- "equal .. memory outside the APLX image", whose n bytes stand in the buffer from place p on: one length, and every other byte is the same
pub record EqualOutside (p n : ℕ) (x y : List ℕ) : Type 0 where
  pub same_length : length x ≡ length y
  pub same_bytes : (i : ℕ) → meets i 1 p n ≡ false → get_or x i 0 ≡ get_or y i 0

-- ---- the two series
-- "of the same stretches in the same order": a load from one piece index on each medium, and what the called code then changes in each series
pub record BothStep : Type 0 where
  pub index : ℕ
  pub aplx-changes : List Change
  pub srom-changes : List Change

abbrev pub aplx_steps : List BothStep → List Step
aplx_steps [] = []
aplx_steps (t ∷ ts) = record { index = t.index; changes = t.aplx-changes } ∷ aplx_steps ts

abbrev pub srom_steps : List BothStep → List Step
srom_steps [] = []
srom_steps (t ∷ ts) = record { index = t.index; changes = t.srom-changes } ∷ srom_steps ts

-- ---- how a load ends
-- what both media can say of it: the places that an answer names, resumes too, are the medium's own
pub data Result : Type 0 where
  end : Result
  unknown : ℕ → Result  -- command word
  run : Kind → ℕ → Result  -- kind, address as written
  refusal : ℕ → Result  -- number

-- of a load
abbrev pub result_of : Ending → Result
result_of (stops (outcome.end p)) = end
result_of (stops (outcome.unknown c p)) = unknown c
result_of (stops (outcome.run k a r)) = run k a
result_of (refuses n p) = refusal n

-- what the plan's own pieces ask for: of a stretch whose pieces are permitted its run address, or the end; "any other stretch is refused"
abbrev pub meant_result : Finish → Result
meant_result (ends j) = end
meant_result (runs a j) = run (kind_at a) a
meant_result (denies x j) = refusal x

-- of the stretch from index i
abbrev pub result_at : Map → List Piece → ℕ → Result
result_at map ps i = meant_result (finish (lookup map) (stretch (drop i ps)) i)

-- ---- one stretch
-- what its load leaves from either medium; the image has n bytes from place p on, and the plan's pieces ask for a result
pub record Agree (p n : ℕ) (meant : Result) (from_aplx from_srom : Left) : Type 0 where
  -- "end every stretch .. with equal memory outside that image"
  pub memory-equal : EqualOutside p n from_aplx.memory from_srom.memory
  -- "and the same run address"; "any other stretch is refused by both"
  pub aplx-result : result_of from_aplx.ending ≡ meant
  pub srom-result : result_of from_srom.ending ≡ meant

-- ---- every stretch
-- load by load, "provided the called code leaves equal memory there each time": each load agrees if it did so after every load before it
abbrev pub AllAgree : (p n : ℕ) → (ℕ → Result) → List BothStep → (from_aplx from_srom : List Left) → Type 0
AllAgree p n meant [] [] [] = Unit {0}
AllAgree p n meant (t ∷ ts) (k ∷ ks) (l ∷ ls) =
    Agree p n (meant t.index) k l
    × (EqualOutside p n (changed t.aplx-changes k.memory) (changed t.srom-changes l.memory) → AllAgree p n meant ts ks ls)
AllAgree p n meant [] [] (l ∷ ls) = ⊥
AllAgree p n meant [] (k ∷ ks) ls = ⊥
AllAgree p n meant (t ∷ ts) [] ls = ⊥
AllAgree p n meant (t ∷ ts) (k ∷ ks) [] = ⊥

-- of a plan, its APLX image at address a, and its SROM image
pub record OneEffect (s : Software) (a : ℕ) (plan image rom : List ℕ) : Type 0 where
  pub pieces : List Piece
  pub read : read_plan 1 plan ≡ format.pieces pieces
  -- "one map, and equal starting memory outside the APLX image, both series of loads under demand 3's premises": x is the first memory of the
  -- APLX series, y that of the SROM series, of which nothing more is granted: the demand's premises for it follow (`srom-granted`)
  pub agree :
      (map : Map) (x y : List ℕ) (steps : List BothStep) (granted : Granted (aplx a) map pieces image x (aplx_steps steps))
      → EqualOutside granted.intact.place (length image) x y
      → AllAgree granted.intact.place (length image) (result_at map pieces) steps
      (series (loads s (aplx a) map pieces image) (aplx_steps steps) x) (series (loads s srom map pieces rom) (srom_steps steps) y)

-- "For every plan that both packers accept"
abbrev pub EitherMedium : Software → Type 0
EitherMedium s =
    (a : ℕ) (plan : List ℕ) (room : ℕ) (image : List ℕ) (space : ℕ) (rom : List ℕ) → Bytes plan → s.pack_aplx plan room ≡ packs image
    → s.pack_srom plan space ≡ packs rom → OneEffect s a plan image rom
