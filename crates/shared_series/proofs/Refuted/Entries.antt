-- The claims are false of software with these packers: an entry has another byte than is claimed.
use Rattle.std.specs.Prelude.{◌≡◌, refl, List, [], ◌∷◌, ℕ, get_or, replicate}
use Rattle.std.proofs.Common.{ap, arith}
use Rattle.words.specs.Store.{store}
use Rattle.plan.specs.Plan.{Piece, put}
use Rattle.aplx_check.specs.Check.{accepted, check}
use Rattle.aplx_check.specs.Open as CheckGroup
use Rattle.aplx_share.specs.Contents.{is_among}
use Rattle.aplx_share.specs.Open as ShareGroup
use Rattle.shared_series.proofs.Refuted.Packers.{place_by, entries_by, image_by, last_appearances, keeps_last, marks_end}
use Rattle.shared_series.proofs.Refuted.Example.{two_puts, three_puts, two_pieces, Refuted, image_in}

-- a byte of an entry
abbrev byte_of : ℕ → List ℕ → ℕ
byte_of i entry = get_or entry i 0

pub record WrongEntries : Type 0 where
  -- three puts, of which the first and the last are equal: their data lies behind the second's, 96 bytes behind the first entry, not 64
  pub keeps-last-refuted : Refuted keeps_last
  -- two equal puts: the end entry's last word is 1. The check allows any unused words
  pub marks-end-refuted : Refuted marks_end
  pub marks-end-accepted : check (two_puts 5 5) (image_in (marks_end (two_puts 5 5) 80)) ≡ accepted

pub wrong-entries : WrongEntries
unfolding two_puts three_puts place_by entries_by image_by last_appearances is_among store ShareGroup.image CheckGroup.checker
wrong-entries = record {
  keeps-last-refuted = λ check read d.
      let fives : List ℕ = replicate 32 5 in
      let rest : List Piece = put 8224 (replicate 32 6) ∷ put 8256 fives ∷ [] in
      let laid_out = d.laid_out three_puts (put 8192 fives ∷ rest) refl 128 _ refl in
      let z : ◌≡◌ {A = ℕ} 96 64 = ap (byte_of 8) (laid_out.put-entry fives [] 8192 rest refl tt [] 8192 rest refl) in
      omega arith;
  marks-end-refuted = λ check read d.
      let z : ◌≡◌ {A = ℕ} 1 0 = ap (byte_of 12) (d.laid_out (two_puts 5 5) (two_pieces 5 5) refl 80 _ refl).end-entry in
      omega arith;
  marks-end-accepted = refl;
}
