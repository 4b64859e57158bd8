-- What the code's spans, sources and segments say, and their laws: a segment that is narrowed piece by piece is the definition's.
use Rattle.std.specs.Prelude.{◌≡◌, refl, Bool, true, false, List, ℕ, ◌+◌, ◌≤◌, ◌<◌, min, ltb, length, take, drop, if◌then◌else◌}
use Rattle.std.proofs.Common.{ap, sym, add-zero, arith, ltb-true, ltb-false}
use Rattle.word_blocks.proofs.RepeatLaws.{length-filling}
use Rattle.plan.specs.declared.piece.Piece as CodePiece
use Rattle.plan.specs.declared.piece.Piece.TheVariants as code
use Rattle.plan.specs.Plan.{put, fill, address_of}
use Rattle.plan.proofs.PlanLaws.{data-length}
use Rattle.plan.specs.Code.{piece_is}
use Rattle.plan.specs.Code.Packer.{Writable}
use Rattle.compare.specs.declared.segment.Span.{Span}
use Rattle.compare.specs.declared.segment.Source as CodeSource
use Rattle.compare.specs.declared.segment.Source.TheVariants.{Nothing, Put, Fill}
use Rattle.compare.specs.declared.segment.Segment.{Segment}
use Rattle.plan.specs.Meaning.{stored_by}
use Rattle.compare.specs.LastByte.{end_of}
use Rattle.compare.specs.LastByte.Laws.{covers_at, covers_below, covers-past}
use Rattle.compare.specs.LastByte.Segment.{Source, nothing, piece, source_byte, newer, nearer, nearer-below, nearer-at, nearer-past}

-- ---- what they say
-- the length that a plan may have
abbrev pub Short : CodePiece.Piece → Type 0
Short (code.Put a o n) = n ≤ 65536
Short (code.Fill a n w) = n ≤ 65536
Short (code.Run a) = Unit {0}

-- the first address of a piece, and the first behind it; a run has none
abbrev pub span_in : CodePiece.Piece → Span
span_in (code.Put a o n) = record { first = a; past = a + n }
span_in (code.Fill a n w) = record { first = a; past = a + n }
span_in (code.Run a) = record { first = a; past = a }

abbrev pub source_from : CodePiece.Piece → CodeSource.Source
source_from (code.Put a o n) = Put a o n
source_from (code.Fill a n w) = Fill a n w
source_from (code.Run a) = Nothing

-- a source, with its data in s
abbrev pub source_is : List ℕ → CodeSource.Source → Source
source_is s Nothing = nothing
source_is s (Put a o n) = piece (put a (take n (drop o s)))
source_is s (Fill a n w) = piece (fill a n w)

-- the last byte that it gives at each address
abbrev pub given_by : List ℕ → CodeSource.Source → ℕ → ℕ
given_by s q x = source_byte (source_is s q) x

abbrev pub stored : CodeSource.Source → Bool
stored Nothing = false
stored (Put a o n) = true
stored (Fill a n w) = true

-- it stores all addresses from x on and below e, and its data lies in s
abbrev pub Reaches : List ℕ → CodeSource.Source → ℕ → ℕ → Type 0
Reaches s Nothing x e = Unit {0}
Reaches s (Put a o n) x e = (o + n ≤ length s) × (a ≤ x) × (e ≤ a + n)
Reaches s (Fill a n w) x e = (a ≤ x) × (e ≤ a + n)

-- a segment from an address on, with one piece more
abbrev pub narrowed : CodePiece.Piece → ℕ → Segment → Segment
narrowed p at g =
    if ltb at (span_in p).first then record { source = g.source; end = min g.end (span_in p).first }
    else if ltb at (span_in p).past then record { source = source_from p; end = min g.end (span_in p).past }
    else g

-- ---- spans
pub writable-short : (s : List ℕ) (p : CodePiece.Piece) → Writable 1 s p → Short p
writable-short s (code.Put a o n) w = w.2
writable-short s (code.Fill a n w) h = h.1
writable-short s (code.Run a) w = tt

pub span-first : (s : List ℕ) (p : CodePiece.Piece) → (span_in p).first ≡ address_of (piece_is s p)
span-first s (code.Put a o n) = refl
span-first s (code.Fill a n w) = refl
span-first s (code.Run a) = refl

pub span-past : (s : List ℕ) (p : CodePiece.Piece) → Writable 1 s p → (span_in p).past ≡ end_of (piece_is s p)
unfolding stored_by
span-past s (code.Put a o n) w = ap (λ (k : ℕ). a + k) (sym (data-length s o n w.0))
span-past s (code.Fill a n w) h = ap (λ (k : ℕ). a + k) (sym (length-filling n w))
span-past s (code.Run a) w = sym (add-zero a)

pub reaches-part : (s : List ℕ) (q : CodeSource.Source) (x e y f : ℕ) → x ≤ y → f ≤ e → Reaches s q x e → Reaches s q y f
reaches-part s Nothing x e y f h g r = tt
reaches-part s (Put a o n) x e y f h g r = (r.0, omega (arith, r.1), omega (arith, r.2))
reaches-part s (Fill a n w) x e y f h g r = (omega (arith, r.0), omega (arith, r.1))

-- ---- one piece more
module _ (s : List ℕ) (p : CodePiece.Piece) (w : Writable 1 s p) (at : ℕ) where
  -- a piece that covers an address is a source that reaches from there to its end
  source-covers : (span_in p).first ≤ at → at < (span_in p).past → (source_is s (source_from p) ≡ piece (piece_is s p)) × Reaches s (source_from p) at (span_in p).past
  source-covers = go p w
    where
      go : (p : CodePiece.Piece) → Writable 1 s p → (span_in p).first ≤ at → at < (span_in p).past → (source_is s (source_from p) ≡ piece (piece_is s p)) × Reaches s (source_from p) at (span_in p).past
      go (code.Put a o n) w h g = (refl, (w.0, h, omega arith))
      go (code.Fill a n v) w h g = (refl, (h, omega arith))
      go (code.Run a) w h g = absurd (omega arith)

  -- the source and the end are the definition's, and the source still reaches to the end
  pub record Narrows (g r : Segment) : Type 0 where
    pub source-is : source_is s r.source ≡ newer (piece_is s p) at (source_is s g.source)
    pub end_is : r.end ≡ nearer (piece_is s p) at g.end
    pub reaches : Reaches s r.source at r.end

  pub narrows : (g : Segment) → Reaches s g.source at g.end → Narrows g (narrowed p at g)
  narrows g r = go (ltb at (span_in p).first) refl (ltb at (span_in p).past) refl
    where
      f : (span_in p).first ≡ address_of (piece_is s p)
      f = span-first s p

      e : (span_in p).past ≡ end_of (piece_is s p)
      e = span-past s p w

      go : (b : Bool) → ltb at (span_in p).first ≡ b → (c : Bool) → ltb at (span_in p).past ≡ c
          → Narrows g (if b then record { source = g.source; end = min g.end (span_in p).first } else if c then record { source = source_from p; end = min g.end (span_in p).past } else g)
      go true x c y =
          let h = ltb-true at (span_in p).first x in
          record {
            source-is = rw (covers_below (piece_is s p) at (omega (arith, f)));
            end_is = rw (nearer-below (piece_is s p) at g.end (omega (arith, f)), f);
            reaches = reaches-part s g.source at g.end at (min g.end (span_in p).first) (omega arith) (omega arith) r;
          }
      go false x true y =
          let h = ltb-false at (span_in p).first x in
          let k = ltb-true at (span_in p).past y in
          let c = source-covers h k in
          record {
            source-is = rw (covers_at (piece_is s p) at (omega (arith, f)) (omega (arith, e))) c.0;
            end_is = rw (nearer-at (piece_is s p) at g.end (omega (arith, f)) (omega (arith, e)), e);
            reaches = reaches-part s (source_from p) at (span_in p).past at (min g.end (span_in p).past) (omega arith) (omega arith) c.1;
          }
      go false x false y =
          let h = ltb-false at (span_in p).first x in
          let k = ltb-false at (span_in p).past y in
          record {
            source-is = rw (covers-past (piece_is s p) at (omega (arith, e)));
            end_is = rw (nearer-past (piece_is s p) at g.end (omega (arith, f)) (omega (arith, e)));
            reaches = r;
          }
