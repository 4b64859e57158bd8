-- The claims are false of software with these packers: what they pack is too long or too short, a plan that fits is refused, or one that is
-- to be refused is packed.
use Rattle.std.specs.Prelude.{◌≡◌, refl, ℕ}
use Rattle.std.proofs.Common.{ap, arith}
use Rattle.aplx_pack.specs.Image.{pack_aplx}
use Rattle.aplx_share.specs.Open as ShareGroup
use Rattle.shared_series.proofs.Refuted.Packers.{without_by, different_by, place_by, entries_by, image_by, shares_beginnings, keeps_all, unlike_last, compares_neighbours, plain_length, any_length, never}
use Rattle.shared_series.proofs.Refuted.Example.{two_puts, whole_and_beginning, three_puts, twenty_bytes, Refuted, length_of, length-is}

pub record WrongLengths : Type 0 where
  -- the plain packer: two equal puts in 112 bytes, not in 80
  pub plain-refuted : Refuted pack_aplx
  pub keeps-all-refuted : Refuted keeps_all
  -- three puts, of which the second is another, in 160 bytes, not in 128
  pub compares-neighbours-refuted : Refuted compares_neighbours
  -- 64 bytes and the first 32 of them in 112 bytes, not in 144
  pub shares-beginnings-refuted : Refuted shares_beginnings
  -- two equal puts are refused 80 bytes
  pub plain-length-refuted : Refuted plain_length
  pub never-refuted : Refuted never
  -- a put of 20 bytes is packed in 52
  pub any-length-refuted : Refuted any_length

pub wrong-lengths : WrongLengths
unfolding two_puts whole_and_beginning three_puts twenty_bytes without_by different_by place_by entries_by image_by unlike_last ShareGroup.image
wrong-lengths = record {
  plain-refuted = λ check read d.
      let z : ◌≡◌ {A = ℕ} 112 80 = length-is pack_aplx d (two_puts 5 5) refl 112 (omega arith) in
      omega arith;
  keeps-all-refuted = λ check read d.
      let z : ◌≡◌ {A = ℕ} 112 80 = length-is keeps_all d (two_puts 5 5) refl 112 (omega arith) in
      omega arith;
  compares-neighbours-refuted = λ check read d.
      let z : ◌≡◌ {A = ℕ} 160 128 = length-is compares_neighbours d three_puts refl 160 (omega arith) in
      omega arith;
  shares-beginnings-refuted = λ check read d.
      let z : ◌≡◌ {A = ℕ} 112 144 = length-is shares_beginnings d whole_and_beginning refl 144 (omega arith) in
      omega arith;
  plain-length-refuted = λ check read d.
      let z : ◌≡◌ {A = ℕ} 0 80 = length-is plain_length d (two_puts 5 5) refl 80 (omega arith) in
      omega arith;
  never-refuted = λ check read d.
      let z : ◌≡◌ {A = ℕ} 0 80 = length-is never d (two_puts 5 5) refl 80 (omega arith) in
      omega arith;
  any-length-refuted = λ check read d.
      let z : ◌≡◌ {A = ℕ} 52 0 = ap length_of (d.without-equal twenty_bytes tt 52) in
      omega arith;
}
