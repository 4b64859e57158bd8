-- The proof of the claims: an image that is read carries its pieces, and the plan that is written for pieces is read as these.
use Rattle.std.specs.Prelude.{◌≡◌, List, ℕ, ◌≤◌, length}
use Rattle.std.proofs.Common.{ap, sym, subst, ◌∙◌, arith}
use Rattle.words.specs.Choice.{All}
use Rattle.words.specs.Bytes.{Bytes}
use Rattle.plan.specs.Plan.{Piece, read_plan, pieces}
use Rattle.plan.specs.Packable.{Packable}
use Rattle.plan.proofs.PlanLaws.{packable, read-header, read_count}
use Rattle.plan.specs.Packed.{packs}
use Rattle.aplx_image.specs.Carries.{Carries}
use Rattle.aplx_image.proofs.CarriesLaws.{carries-bytes}
use Rattle.aplx_pack.specs.Image.{aplx_image, pack_aplx}
use Rattle.aplx_pack.proofs.ImageLaws.{packed-facts, read-packed}
use Rattle.aplx_pack.proofs.ImageCarried.{packed-carries, image-short}
use Rattle.series.specs.Software as software
use Rattle.series.proofs.Proved.Theorem.{carried-holds}
use Rattle.aplx_read.specs.PlanBytes.{plan_bytes}
use Rattle.aplx_read.proofs.PlanBytesLaws.{plan-bytes}
use Rattle.aplx_read.proofs.PlanBytesRead.{plan-read}
use Rattle.aplx_read.specs.ReadBack.{read_image, read_back}
use Rattle.aplx_read.proofs.ReadBackLaws.{plan-facts, read-plan}
use Rattle.aplx_read.proofs.ReadBackCarried.{image-carries, carried-image-read}
use Rattle.read_back_series.specs.Claims.{Restores, Returns}
use Rattle.read_back_series.specs.Exact.{Exact}

-- the packed image of pieces is read as these
packed-read : (ps : List Piece) → All (Packable 32) ps → length ps ≤ 64 → read_image (aplx_image ps) ≡ pieces ps
packed-read ps g few = carried-image-read (aplx_image ps) ps (packed-carries ps (image-short ps (omega arith) g) g) g few

-- the pieces of a plan that was read back
record Pieces (image plan : List ℕ) : Type 0 where
  read : List Piece
  few : length read ≤ 64
  good : All (Packable 32) read
  carried : Carries image 0 read
  is-plan : plan ≡ plan_bytes read
  are-read : read_plan 32 plan ≡ pieces read

pieces_of : (image : List ℕ) (room : ℕ) (plan : List ℕ) → Bytes image → read_back image room ≡ packs plan → Pieces image plan
pieces_of image room plan b h =
    let f = plan-facts image room h in
    let r = image-carries image b f.are-read in
    let few : length f.read ≤ 64 = omega (arith, r.few) in
    record {
      read = f.read;
      few = few;
      good = r.good;
      carried = r.carried;
      is-plan = f.is-image;
      are-read = ap (read_plan 32) f.is-image ∙ plan-read 32 f.read r.good few;
    }

pub restores : (image : List ℕ) (room : ℕ) (plan : List ℕ) → Bytes image → read_back image room ≡ packs plan → Restores software.ours image plan
restores image room plan b h =
    let p = pieces_of image room plan b h in
    record {
      bytes = subst Bytes (sym p.is-plan) (plan-bytes p.read (carries-bytes image b 0 p.read p.carried));
      packed = aplx_image p.read;
      accepted = λ n l. read-packed plan n p.are-read l;
      demand = λ a. carried-holds a plan p.read image p.are-read (omega (arith, p.few)) p.good p.carried;
    }

pub returns : (plan : List ℕ) (room : ℕ) (image : List ℕ) → Bytes plan → pack_aplx plan room ≡ packs image → Returns software.ours read_back image
returns plan room image b h =
    let f = packed-facts plan room h in
    let ps = f.read in
    let g = packable 32 plan b f.are-read in
    let few : length ps ≤ 64 = omega (arith, read_count 32 plan f.are-read, (read-header 32 plan f.are-read).few) in
    subst (Returns software.ours read_back) (sym f.is-image) (record {
      plan = plan_bytes ps;
      read_back = λ n l. read-plan (aplx_image ps) n (packed-read ps g few) l;
      same_bytes = λ n l. read-packed (plan_bytes ps) n (plan-read 32 ps g few) l;
    })

-- ---- its packed image is read back as the same plan
pub read_again :
    (image : List ℕ) (room : ℕ) (plan : List ℕ) → Bytes image → read_back image room ≡ packs plan
    → (packed : List ℕ) (n : ℕ) → pack_aplx plan n ≡ packs packed → (m : ℕ) → length plan ≤ m → read_back packed m ≡ packs plan
read_again image room plan b h packed n e m l =
    let p = pieces_of image room plan b h in
    let f = packed-facts plan n e in
    let x = f.are-read in
    let y = p.are-read in
    let q : f.read ≡ p.read = cc in
    let z : packed ≡ aplx_image p.read = f.is-image ∙ ap aplx_image q in
    let fits : length (plan_bytes p.read) ≤ m = subst (λ (s : List ℕ). length s ≤ m) p.is-plan l in
    ap (λ (s : List ℕ). read_back s m) z ∙ read-plan (aplx_image p.read) m (packed-read p.read p.good p.few) fits ∙ ap packs (sym p.is-plan)

-- ---- which images are read
pub read-exactly : Exact read_image
read-exactly image b ps = record {
  if-read = λ h. let r = image-carries image b h in record { carried = r.carried; packable = r.good; few = omega (arith, r.few) };
  read-if = λ r. carried-image-read image ps r.carried r.packable r.few;
}
