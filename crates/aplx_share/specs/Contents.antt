-- The contents of a plan's puts, and which of them are kept where equal ones are kept once (paper 02, C-23).
use Rattle.std.specs.Prelude.{◌≡◌, Bool, true, false, List, [], ◌∷◌, ◌++◌, ℕ, ◌+◌, length, if◌then◌else◌}
use Rattle.words.specs.Equal.{same}
use Rattle.plan.specs.Plan.{Piece, put, fill, run}

-- the "put contents": the bytes of each put, in plan order
unfoldable pub contents : List Piece → List (List ℕ)
contents [] = []
contents (put a d ∷ ps) = d ∷ contents ps
contents (fill a n w ∷ ps) = contents ps
contents (run a ∷ ps) = contents ps

-- whether d is one of the contents
unfoldable pub is_among : List (List ℕ) → List ℕ → Bool
is_among [] d = false
is_among (c ∷ cs) d = if same c d then true else is_among cs d

-- the contents other than d
unfoldable pub without : List ℕ → List (List ℕ) → List (List ℕ)
without d [] = []
without d (c ∷ cs) = if same c d then without d cs else c ∷ without d cs

-- "keeps one copy where a put's bytes equal an earlier put's": the different contents, each where it first appears
unfoldable pub different : List (List ℕ) → List (List ℕ)
different [] = []
different (d ∷ ds) = d ∷ without d (different ds)

-- those of a plan's pieces
abbrev pub kept_contents : List Piece → List (List ℕ)
kept_contents ps = different (contents ps)

-- contents of which none equals another: no content is among those behind it
abbrev pub Distinct : List (List ℕ) → Type 0
Distinct [] = Unit {0}
Distinct (c ∷ cs) = (is_among cs c ≡ false) × Distinct cs

-- contents one behind the other
unfoldable pub joined : List (List ℕ) → List ℕ
joined [] = []
joined (c ∷ cs) = c ++ joined cs

-- "the lengths of the .. contents"
unfoldable pub total_length : List (List ℕ) → ℕ
total_length [] = 0
total_length (c ∷ cs) = length c + total_length cs

-- "the earliest such copy": how many bytes of the contents stand before the first that equals d
unfoldable pub place : List (List ℕ) → List ℕ → ℕ
place [] d = 0
place (c ∷ cs) d = if same c d then 0 else length c + place cs d
