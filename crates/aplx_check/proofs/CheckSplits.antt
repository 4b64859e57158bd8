-- Pieces in parts (paper 02, C-20), one part at a time as the check takes them: the parts of pieces are a first part of the first piece,
-- and the parts of what is due behind it.
use Rattle.std.specs.Prelude.{◌≡◌, ℕ, ◌<◌, Bool, true, false, List, [], ◌∷◌, ◌++◌, length, ◌==◌, refl, if◌then◌else◌}
use Rattle.std.proofs.Common.{ap, arith, eqb-true}
use Rattle.std.proofs.lemmas.Bool.{eqb-false}
use Rattle.words.specs.Choice.{All}
use Rattle.plan.specs.Plan.{Piece, put, fill, run, address_of}
use Rattle.plan.proofs.MeaningLaws.{Stores}
use Rattle.aplx_check.specs.Parts.{size_of, first_part, rest_of, Part, FirstPart, Split, parts_of, SplitAll, parts}
use Rattle.aplx_check.proofs.PartsLaws.{rest-size, rest-stored, parts-stored}
use Rattle.aplx_check.specs.Check.{due_after}

-- pieces, and parts into which they may be split
pub record Splits (ps qs : List Piece) : Type 0 where
  pub lengths : List (List ℕ)
  pub split : SplitAll ps lengths
  pub are : parts ps lengths ≡ qs

-- a put or fill has bytes
abbrev pub Filled : Piece → Type 0
Filled (put a d) = 0 < length d
Filled (fill a l w) = 0 < l
Filled (run a) = Unit {0}

-- the parts of a first piece and others: the first, and those behind it
pub record Begins (p : Piece) (ps qs : List Piece) : Type 0 where
  pub count : ℕ
  pub part : FirstPart count p
  pub rest : List Piece
  pub are : qs ≡ first_part count p ∷ rest
  pub split : Splits (due_after count p ps) rest
  pub filled : All Filled (due_after count p ps)

-- ---- a put or fill
filled-stored : (p : Piece) → 0 < size_of p → Filled p
filled-stored (put a d) h = h
filled-stored (fill a l w) h = h
filled-stored (run a) h = tt

module _ (p : Piece) (h : Stores p) (ps : List Piece) where
  -- its parts are the first, and those of what is left
  parts_more : (n : ℕ) (ns : List ℕ) → parts_of p (n ∷ ns) ≡ first_part n p ∷ parts_of (rest_of n p) ns
  parts_more n ns = rw (parts-stored p h, parts-stored (rest_of n p) (rest-stored n p h))

  join-stored : (n : ℕ) → Part (address_of p) (size_of p) n → (qs : List Piece) (t : Bool) → (n == size_of p) ≡ t
      → Splits (if t then ps else rest_of n p ∷ ps) qs → Splits (p ∷ ps) (first_part n p ∷ qs)
  join-stored n g qs true t s = record {
    lengths = (n ∷ []) ∷ s.lengths;
    split = ((g, omega (arith, eqb-true n (size_of p) t, rest-size n p)), s.split);
    are = rw (parts-stored p h, s.are);
  }
  join-stored n g qs false t s = go s.lengths s.split s.are
    where
      go : (cs : List (List ℕ)) → SplitAll (rest_of n p ∷ ps) cs → parts (rest_of n p ∷ ps) cs ≡ qs → Splits (p ∷ ps) (first_part n p ∷ qs)
      go [] c e = absurd c
      go (ns ∷ cs) c e = record { lengths = (n ∷ ns) ∷ cs; split = ((g, c.0), c.1); are = rw (parts_more n ns, e) }

  begins-stored : (n : ℕ) (ns : List ℕ) (cs : List (List ℕ)) → FirstPart n p → Split p (n ∷ ns) → SplitAll ps cs → All Filled ps → (t : Bool) → (n == size_of p) ≡ t
      → Begins p ps (parts (p ∷ ps) ((n ∷ ns) ∷ cs))
  begins-stored n [] cs g c k f true t = record {
    count = n;
    part = g;
    rest = parts ps cs;
    are = rw (parts-stored p h);
    split = rw t (record { lengths = cs; split = k; are = refl });
    filled = rw t f;
  }
  begins-stored n (m ∷ ns) cs g c k f true t =
      absurd (omega (arith, eqb-true n (size_of p) t, rest-size n p, c.1.0.some, c.1.0.inside))
  begins-stored n ns cs g c k f false t = record {
    count = n;
    part = g;
    rest = parts_of (rest_of n p) ns ++ parts ps cs;
    are = rw (parts_more n ns);
    split = rw t (record { lengths = ns ∷ cs; split = (c.1, k); are = refl });
    filled = rw t (filled-stored (rest_of n p) (omega (arith, eqb-false n (size_of p) t, rest-size n p, c.0.inside)), f);
  }

-- ---- any piece
-- a first part, and the parts of what is due behind it, are parts of all
pub join : (n : ℕ) (p : Piece) (ps qs : List Piece) → FirstPart n p → Splits (due_after n p ps) qs → Splits (p ∷ ps) (first_part n p ∷ qs)
join n (put a d) ps qs g s = join-stored (put a d) tt ps n g qs (n == length d) refl s
join n (fill a l w) ps qs g s = join-stored (fill a l w) tt ps n g qs (n == l) refl s
join n (run a) ps qs g s =
    let t : Splits ps qs = rw g at s in
    record { lengths = [] ∷ t.lengths; split = (refl, t.split); are = ap (λ r. run a ∷ r) t.are }

-- and parts of all begin with a first part
pub begins : (p : Piece) (ps qs : List Piece) → All Filled (p ∷ ps) → Splits (p ∷ ps) qs → Begins p ps qs
begins p ps qs f s = rw s.are at (go p s.lengths f s.split)
  where
    go : (p : Piece) (cs : List (List ℕ)) → All Filled (p ∷ ps) → SplitAll (p ∷ ps) cs → Begins p ps (parts (p ∷ ps) cs)
    go p [] f c = absurd c
    go (put a d) ([] ∷ cs) f c = absurd (omega (arith, f.0, c.0))
    go (put a d) ((n ∷ ns) ∷ cs) f c = begins-stored (put a d) tt ps n ns cs c.0.0 c.0 c.1 f.1 (n == length d) refl
    go (fill a l w) ([] ∷ cs) f c = absurd (omega (arith, f.0, c.0))
    go (fill a l w) ((n ∷ ns) ∷ cs) f c = begins-stored (fill a l w) tt ps n ns cs c.0.0 c.0 c.1 f.1 (n == l) refl
    go (run a) (ns ∷ cs) f c =
        record { count = 0; part = refl; rest = parts ps cs; are = refl; split = record { lengths = cs; split = c.1; are = refl }; filled = f.1 }
