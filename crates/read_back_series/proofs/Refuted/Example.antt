-- An image on which readers are put to the test, and what the claims say of one load.
use Rattle.std.specs.Prelude.{◌≡◌, refl, true, List, [], ◌∷◌, ◌++◌, ℕ, ◌+◌, ◌*◌, ◌≤◌, ltb, length, get_or, replicate}
use Rattle.std.proofs.Common.{ap}
use Rattle.words.specs.Choice.{every}
use Rattle.words.specs.Four.{four_bytes}
use Rattle.memory_map.specs.declared.map.Map.{Map}
use Rattle.outcome.specs.Outcome.{end, unknown, run, Ending, stops, refuses}
use Rattle.memory_map.specs.Map.{sound}
use Rattle.memory_map.specs.Lookup.{Lookup, lookup}
use Rattle.aplx.specs.Load.{load_with}
use Rattle.aplx.proofs.LoadLaws.{sound-load}
use Rattle.plan.specs.Plan as format
use Rattle.plan.specs.Plan.{Piece, put, fill, read_plan}
use Rattle.plan.specs.Packed.{packs}
use Rattle.plan.specs.Meaning.{meaning}
use Rattle.series.specs.Series.{Step, Left, series}
use Rattle.series.specs.Medium.{aplx, ending_in, InMemory}
use Rattle.series.specs.Software as software
use Rattle.series.specs.Demand.{Granted}
use Rattle.series.proofs.Refuted.Example.{first_left}
use Rattle.words.proofs.BytesLaws.{all-bytes}
use Rattle.series.proofs.Refuted.Twice.{left_by}
use Rattle.aplx_read.specs.PlanBytes.{plan_bytes}
use Rattle.aplx_read.specs.ReadBack.{read_image}
use Rattle.aplx_read.specs.Open as ReadGroup
use Rattle.read_back_series.specs.Claims.{Reader, Claims}

-- ---- an image
-- a fill; an entry with this word, and this length if it is an RCOPY's, whose data are the sixes; the end; 16 fives and 32 sixes
unfoldable pub image : ℕ → ℕ → List ℕ
image c n = four_bytes 3 8192 32 1 ++ (four_bytes c 8224 48 n ++ (four_bytes 0xffffffff 0 0 0 ++ (replicate 16 5 ++ replicate 32 6)))

-- the fill, and a put of these bytes
abbrev pub with_put : List ℕ → List Piece
with_put d = fill 8192 32 1 ∷ put 8224 d ∷ []

-- what ours reads
record OurReading : Type 0 where
  copies : read_image (image 2 32) ≡ format.pieces (with_put (replicate 32 6))
  twenty : read_image (image 2 20) ≡ format.refused 22 1
  unknown-word : read_image (image 5 32) ≡ format.refused 20 1
  acopy : read_image (image 1 32) ≡ format.refused 20 1
  fill-of-48 : read_image (image 3 32) ≡ format.refused 22 1

our-reading : OurReading
unfolding image ReadGroup.reader
our-reading = record { copies = refl; twenty = refl; unknown-word = refl; acopy = refl; fill-of-48 = refl }

-- ---- one load
-- a map that is sound for the memory, its lookup, which computes, and an image at an address
pub record Setting (find : Lookup) (address : ℕ) (ps : List Piece) (image memory : List ℕ) : Type 0 where
  pub map : Map
  pub finds : lookup map ≡ find
  pub safe : sound map (length memory) ≡ true
  pub intact : InMemory address map ps image memory

-- what the load from entry i leaves, and what the stretch from index i means
abbrev pub load_left : Lookup → ℕ → ℕ → List ℕ → Left
load_left find address i m = left_by (load_with find m (address + 16 * i))

abbrev pub meant_left : Lookup → ℕ → List Piece → ℕ → List ℕ → Left
meant_left find address ps i m =
    let w = meaning find ps i m in
    record { memory = w.memory; ending = ending_in (aplx address) ps i w.finish }

-- an image of bytes that is read back as the plan of these pieces
pub record Reads (read : Reader) (image : List ℕ) (ps : List Piece) : Type 0 where
  pub room : ℕ
  pub bytes : every (λ b. ltb b 256) image ≡ true
  pub is_read : read image room ≡ packs (plan_bytes ps)
  pub has-pieces : read_plan 1 (plan_bytes ps) ≡ format.pieces ps

-- under the claims, the load leaves what the pieces mean
pub load-means :
    (read : Reader) → Claims software.ours read → (image : List ℕ) (ps : List Piece) → Reads read image ps
    → {find : Lookup} {address : ℕ} {memory : List ℕ} → Setting find address ps image memory
    → (i : ℕ) → i ≤ length ps → load_left find address i memory ≡ meant_left find address ps i memory
unfolding series
load-means read claims image ps r {find} {address} {memory} s i h =
    let d = (claims.restores image r.room (plan_bytes ps) (all-bytes image r.bytes) r.is_read).demand address in
    let x = d.read in
    let y = r.has-pieces in
    let q : ps ≡ d.pieces = cc in
    let steps : List Step = record { index = i; changes = [] } ∷ [] in
    let g : Granted (aplx address) s.map ps image memory steps = record { sound-map = s.safe; intact = s.intact; indices = (h, tt); alone = (tt, tt) } in
    let t = rw (← q) at (d.same s.map memory steps (rw q at g)) in
    rw (sound-load s.map memory (address + 16 * i) s.safe, s.finds) at (ap first_left t)

-- ---- what is compared
unfoldable pub byte_at : ℕ → Left → ℕ
byte_at p l = get_or l.memory p 0

-- 1 where the load stopped at the end
abbrev ends_at : Ending → ℕ
ends_at (stops (end p)) = 1
ends_at (stops (unknown c p)) = 0
ends_at (stops (run k a r)) = 0
ends_at (refuses n p) = 0

abbrev pub at_end : Left → ℕ
at_end l = ends_at l.ending
