-- Computed examples of what is written for a plan, and for an image.
use Rattle.std.specs.Prelude.{◌≡◌, refl, List, [], ◌∷◌, ◌++◌, ℕ, replicate, Ok, Err}
use Rattle.words.specs.Four.{four_bytes}
use Rattle.words.specs.Store.{store}
use Rattle.plan.specs.Plan.{put}
use Rattle.aplx_share.specs.Open as aplx
use Rattle.aplx_share.specs.SharedImage.{shared_image}
use Rattle.srom_pack.specs.Image.{srom_image}
use Rattle.srom_pack.specs.Open as srom
use Rattle.aplx_read.specs.Open as ReadBack
use Rattle.text.specs.Digits.{digits}
use Rattle.text.specs.Decimal.{leading, width, decimal}
use Rattle.text.specs.Refusal.{refusal_line}
use Rattle.conversion.specs.declared.convert.Packing.TheVariants.{Aplx, SharedAplx, Srom}
use Rattle.conversion.specs.Conversion.{pack_for, converted, written}
use Rattle.conversion.specs.Restored.{bytes, nothing, restored, answer_of, output_of}

-- a plan of no pieces
abbrev none : List ℕ
none = replicate 16 0

-- a plan of one put of 20 bytes, whose data stands behind the table
abbrev twenty : List ℕ
twenty =
    1 ∷ 0 ∷ 0 ∷ 0 ∷ 16 ∷ 0 ∷ 0 ∷ 0 ∷ 32 ∷ 0 ∷ 0 ∷ 0 ∷ 20 ∷ 0 ∷ 0 ∷ 0 ∷ 1 ∷ 0 ∷ 0 ∷ 0 ∷ 0 ∷ 1 ∷ 0 ∷ 0 ∷ 20 ∷ 0 ∷ 0 ∷ 0 ∷ 0 ∷ 0 ∷ 0 ∷ 0
    ∷ replicate 20 7

-- a plan of two puts of the same 32 bytes
unfoldable twice : List ℕ
twice = four_bytes 2 16 48 32 ++ (four_bytes 1 256 32 0 ++ (four_bytes 1 512 32 0 ++ replicate 32 7))

record Conversions : Type 0 where
  pub empty-srom : converted Srom none 65536 ≡ 0x55 ∷ 0xff ∷ []
  pub empty-aplx : converted Aplx none 65536 ≡ 0xff ∷ 0xff ∷ 0xff ∷ 0xff ∷ replicate 12 0
  -- 20 bytes are five words for a serial ROM, and no length for APLX: "refused 12 at 0"
  pub twenty-srom : converted Srom twenty 65536 ≡ srom_image (put 256 (replicate 20 7) ∷ [])
  pub twenty-aplx : converted Aplx twenty 65536 ≡ 114 ∷ 101 ∷ 102 ∷ 117 ∷ 115 ∷ 101 ∷ 100 ∷ 32 ∷ 49 ∷ 50 ∷ 32 ∷ 97 ∷ 116 ∷ 32 ∷ 48 ∷ 10 ∷ []
  pub twenty-shared : converted SharedAplx twenty 65536 ≡ refusal_line 12 0
  -- two puts of the same 32 bytes: an image of 80 bytes, and without sharing one of 112
  pub shared : converted SharedAplx twice 80 ≡ shared_image (put 256 (replicate 32 7) ∷ put 512 (replicate 32 7) ∷ [])
  pub not-shared : converted Aplx twice 111 ≡ refusal_line 10 2
  -- no bytes at all: "refused 2 at 0"
  pub no-plan : converted Srom [] 65536 ≡ 114 ∷ 101 ∷ 102 ∷ 117 ∷ 115 ∷ 101 ∷ 100 ∷ 32 ∷ 50 ∷ 32 ∷ 97 ∷ 116 ∷ 32 ∷ 48 ∷ 10 ∷ []
  -- an image of 29 bytes
  pub too_large : converted Srom twenty 28 ≡ refusal_line 10 1
  -- an output that does not hold the line
  pub no_room : written Srom twenty 15 ≡ []
  -- the longest plan, and one that is longer
  pub longest : converted Srom (replicate 32768 0) 65536 ≡ 0x55 ∷ 0xff ∷ []
  pub longer : converted Srom (replicate 32769 0) 65536 ≡ refusal_line 11 0

conversions : Conversions
unfolding aplx.image srom.image refusal_line decimal width leading digits pack_for converted twice
conversions = record {
  empty-srom = refl;
  empty-aplx = refl;
  twenty-srom = refl;
  twenty-aplx = refl;
  twenty-shared = refl;
  shared = refl;
  not-shared = refl;
  no-plan = refl;
  too_large = refl;
  no_room = refl;
  longest = refl;
  longer = refl;
}

-- the end entry, and the image of one put of 32 bytes
abbrev end : List ℕ
end = four_bytes 0xffffffff 0 0 0

abbrev put_image : List ℕ
put_image = four_bytes 2 256 32 32 ++ (end ++ replicate 32 7)

-- the plan of it, of 64 bytes
abbrev put_plan : List ℕ
put_plan = four_bytes 1 16 32 32 ++ (four_bytes 1 256 32 0 ++ replicate 32 7)

record Restorations : Type 0 where
  pub no_pieces : restored end 32768 ≡ bytes (four_bytes 0 16 16 0)
  -- there and back
  pub one-put : restored put_image 32768 ≡ bytes put_plan
  pub packed-again : converted Aplx put_plan 65536 ≡ put_image
  -- no bytes at all: "refused 2 at 0"; ACOPY: "refused 20 at 0"
  pub no-image : restored [] 32768 ≡ bytes (114 ∷ 101 ∷ 102 ∷ 117 ∷ 115 ∷ 101 ∷ 100 ∷ 32 ∷ 50 ∷ 32 ∷ 97 ∷ 116 ∷ 32 ∷ 48 ∷ 10 ∷ [])
  pub acopy : restored (four_bytes 1 256 512 32 ++ end) 32768 ≡ bytes (refusal_line 20 0)
  -- the plan fits, and is a byte too long
  pub fits : restored put_image 64 ≡ bytes put_plan
  pub too_large : restored put_image 63 ≡ bytes (refusal_line 10 1)
  -- an output that does not hold the line
  pub no_room : restored [] 14 ≡ bytes []
  -- the longest image, and one that is longer: nothing is written
  pub longest : restored (end ++ replicate 65520 0) 32768 ≡ bytes (four_bytes 0 16 16 0)
  pub longer : restored (end ++ replicate 65521 0) 32768 ≡ nothing
  pub refused-longest : restored (replicate 65536 0) 32768 ≡ bytes (refusal_line 20 0)
  -- what is answered, and what is left of an output
  pub answered : answer_of (restored [] 32768) ≡ Ok 15
  pub answered-longer : answer_of (restored (replicate 65537 0) 32768) ≡ Err (record {})
  pub left : output_of (restored [] 17) (replicate 17 9) ≡ refusal_line 2 0 ++ 9 ∷ 9 ∷ []
  pub left-longer : output_of (restored (replicate 65537 0) 17) (replicate 17 9) ≡ replicate 17 9

restorations : Restorations
unfolding aplx.image ReadBack.reader refusal_line decimal width leading digits pack_for converted restored store
restorations = record {
  no_pieces = refl;
  one-put = refl;
  packed-again = refl;
  no-image = refl;
  acopy = refl;
  fits = refl;
  too_large = refl;
  no_room = refl;
  longest = refl;
  longer = refl;
  refused-longest = refl;
  answered = refl;
  answered-longer = refl;
  left = refl;
  left-longer = refl;
}
