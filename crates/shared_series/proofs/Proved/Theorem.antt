-- Each claim of our software with the packing that keeps one copy of equal put data.
use Rattle.std.specs.Prelude.{◌≡◌, List, ℕ, suc, ◌*◌, ◌≤◌, length}
use Rattle.std.proofs.Common.{ap, sym, subst, ◌∙◌, arith, lt-ltb}
use Rattle.words.specs.Choice.{All}
use Rattle.words.specs.Bytes.{Bytes}
use Rattle.plan.specs.Plan.{Piece, Read, pieces, read_plan}
use Rattle.plan.specs.Packable.{Packable}
use Rattle.plan.proofs.PlanLaws.{packable, read-header, read_count}
use Rattle.plan.proofs.PlanUnit.{read_one}
use Rattle.plan.specs.Packed.{packs, packed_as}
use Rattle.aplx_image.specs.Carries.{Carries}
use Rattle.series.specs.Medium.{srom, aplx}
use Rattle.series.specs.Demand.{Demand3}
use Rattle.series.proofs.Proved.Theorem.{carried-holds, demand3}
use Rattle.aplx_pack.specs.Image.{aplx_image, pack_aplx}
use Rattle.aplx_check.specs.Written.{AllBehind}
use Rattle.aplx_check.proofs.WrittenWhole.{carried-written}
use Rattle.aplx_check.specs.Check.{accepted, check}
use Rattle.aplx_check.proofs.CheckExact.{written-accepted}
use Rattle.aplx_read.specs.PlanBytes.{plan_bytes}
use Rattle.aplx_read.proofs.PlanBytesRead.{plan-read}
use Rattle.aplx_read.specs.ReadBack.{read_image, read_back}
use Rattle.aplx_read.proofs.ReadBackLaws.{read-plan}
use Rattle.aplx_read.proofs.ReadBackCarried.{carried-image-read}
use Rattle.aplx_share.specs.SharedImage.{shared_image, pack_shared}
use Rattle.aplx_share.proofs.SharedImageLaws.{length-shared_image, packed-facts, read-packed}
use Rattle.aplx_share.proofs.SharedImageCarried.{shared-carries, shared-short}
use Rattle.shared_series.specs.Claims.{shared_length, Sized, SamePieces}
use Rattle.shared_series.specs.Layout.{Layout}
use Rattle.shared_series.specs.Software.{sharing}
use Rattle.shared_series.proofs.Proved.Places.{shared-behind}
use Rattle.shared_series.proofs.Proved.Layout as layout

-- ---- of a plan that is read
pub sized : (plan : List ℕ) (ps : List Piece) → read_plan 32 plan ≡ pieces ps → Sized pack_shared plan ps
unfolding pack_shared
sized plan ps e =
    let l = length-shared_image ps in
    record {
      image = shared_image ps;
      has-length = l;
      packed = λ room h. read-packed plan room e (omega (arith, l));
      too_small = λ room h. rw (e, l, lt-ltb room (shared_length ps) h);
    }

-- ---- of a plan that is packed
record Facts (plan image : List ℕ) : Type 0 where
  read : List Piece
  are-read : read_plan 32 plan ≡ pieces read
  few : length read ≤ 64
  good : All (Packable 32) read
  carried : Carries image 0 read
  behind : AllBehind image (16 * suc (length read)) 0 read

facts : (plan : List ℕ) (room : ℕ) (image : List ℕ) → Bytes plan → pack_shared plan room ≡ packs image → Facts plan image
facts plan room image b e =
    let f = packed-facts plan room e in
    let ps = f.read in
    let r = f.are-read in
    let g = packable 32 plan b r in
    let few : length ps ≤ 64 = omega (arith, read_count 32 plan r, (read-header 32 plan r).few) in
    let short = shared-short ps (omega arith) g in
    subst (Facts plan) (sym f.is-image) (record {
      read = ps;
      are-read = r;
      few = few;
      good = g;
      carried = shared-carries ps short g;
      behind = shared-behind ps short g;
    })

pub demand : Demand3 sharing
demand srom plan room image b e =
    let h = demand3 srom plan room image b e in
    record { pieces = h.pieces; read = h.read; same = h.same }
demand (aplx a) plan room image b e =
    let f = facts plan room image b e in
    let h = carried-holds a plan f.read image f.are-read (omega (arith, f.few)) f.good f.carried in
    record { pieces = h.pieces; read = h.read; same = h.same }

pub checked : (plan : List ℕ) (room : ℕ) (image : List ℕ) → Bytes plan → pack_shared plan room ≡ packs image → check plan image ≡ accepted
checked plan room image b e =
    let f = facts plan room image b e in
    let ps = f.read in
    let w = carried-written ps image f.good (omega (arith, f.few)) f.carried f.behind in
    written-accepted plan image b (record { pieces = ps; read = read_one 32 plan f.are-read; written = w })

-- ---- of the plan that is read back
image-read : {plan image : List ℕ} (f : Facts plan image) → read_image image ≡ pieces f.read
image-read {image = image} f = carried-image-read image f.read f.carried f.good f.few

pub restored : (plan : List ℕ) (room : ℕ) (image : List ℕ) → Bytes plan → pack_shared plan room ≡ packs image → SamePieces pack_shared read_back plan image
unfolding pack_aplx pack_shared
restored plan room image b e =
    let f = facts plan room image b e in
    let same : read_plan 32 (plan_bytes f.read) ≡ read_plan 32 plan = plan-read 32 f.read f.good f.few ∙ sym f.are-read in
    record {
      restored = plan_bytes f.read;
      read_back = λ n l. read-plan image n (image-read f) l;
      same-pieces = same;
      plain-again = λ n. ap (λ (r : Read). packed_as aplx_image r n) same;
      shared-again = λ n. ap (λ (r : Read). packed_as shared_image r n) same;
    }

-- ---- every byte
pub laid_out :
    (plan : List ℕ) (ps : List Piece) → read_plan 32 plan ≡ pieces ps → (room : ℕ) (image : List ℕ) → pack_shared plan room ≡ packs image → Layout ps image
laid_out plan ps r room image e =
    let f = packed-facts plan room e in
    let s = f.are-read in
    let q : f.read ≡ ps = cc in
    rw (f.is-image, q) (layout.laid_out ps)
