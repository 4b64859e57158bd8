-- `aplx_share::contents::collect` meets its contract: the loop's invariant: the different contents of the first `i` pieces are kept.
use Rattle.std.specs.Prelude.{◌≡◌, refl, [], ◌∷◌, ◌+◌, ◌<◌, length, take, drop, set}
use Rattle.std.proofs.Common.{inl, inr, sym, subst, arith, length-take-le}
use Rattle.plan.specs.declared.piece.Piece as CodePiece
use Rattle.plan.specs.declared.piece.Piece.TheVariants.{Put, Fill, Run}
use Rattle.plan.specs.Plan.{put}
use Rattle.plan.specs.Packed.{plan_pieces}
use Rattle.plan.specs.Code.{piece_is}
use Rattle.plan.proofs.CodeLaws.{Found, found}
use Rattle.aplx_share.specs.Contents.{contents, kept_contents, place}
use Rattle.aplx_share.proofs.ContentsPlaces.{new-content, known-content}
use Rattle.aplx_share.specs.Collected.{Collected}
use Rattle.aplx_share.specs.SharedImage.{place_of}
use Rattle.aplx_share.proofs.CollectedLaws.{put_some}
use Rattle.aplx_share.proofs.CollectedSteps.{collected-none, same-other, same_known, more-new, collected-same, collected-more}
use Rattle.aplx_share.proofs.contents.collect.Goals as goal
use Rattle.aplx_share.proofs.contents.collect.Goals.{In-Put, in-Put+then-place-kept, in-Put+else-place-kept, in-Fill}

pub loop-i-init : goal.loop-i-init
loop-i-init c = collected-none c.args.plan.now (plan_pieces 32 c.args.plan.now) _ _ refl refl

-- a put of the plan
put_found : (c : In-Put) → Found 32 c.args.plan.now (plan_pieces 32 c.args.plan.now) c.loop-i.i (Put c.in-Put.address c.in-Put.from c.in-Put.length)
put_found c =
    subst (Found 32 c.args.plan.now (plan_pieces 32 c.args.plan.now) c.loop-i.i) c.in-Put.is
    (found 32 c.args.plan.now c.type_inv.plan c.requires.accepted c.loop-i.i (omega (arith, c.requires.counts)) _ c.accepted_at.ensures)

pub bytes-requires : goal.bytes-requires
bytes-requires c = let w = (put_found (goal.at.bytes-requires c).In-Put).writable in record { inside = w.0; most = w.2 }

pub overflow_add-kept-then-place-kept : goal.overflow_add-kept-then-place-kept
overflow_add-kept-then-place-kept c = omega (arith, c.requires.few, c.loop-i.invariant.most, (put_found (goal.at.overflow_add-kept-then-place-kept c).In-Put).writable.2)

pub loop-i-preserved : goal.loop-i-preserved
unfolding contents
loop-i-preserved c =
    let s = c.args.plan.now in
    let ps = plan_pieces 32 s in
    let i = c.loop-i.i in
    let k = c.loop-i.kept in
    let v = c.loop-i.invariant in
    let qs = take i ps in
    let f = found 32 s c.type_inv.plan c.requires.accepted i (omega (arith, c.requires.counts)) _ c.accepted_at.ensures in
    let at : i ≡ length qs = sym (length-take-le i ps (omega (arith, c.requires.counts))) in
    let few : i < 64 = omega (arith, c.requires.few) in
    elim c.match-accepted_at.branch [
      | in-Put+then-place-kept w ↦
          let n = w.in-Put.length in
          let g = subst (Found 32 s ps i) w.in-Put.is f in
          let content = take n (drop w.in-Put.from s) in
          let e : w.place_of-place.result ≡ place (kept_contents qs) content = rw (w.bytes.ensures, w.contents.ensures, v.are-kept) at w.place_of-place.ensures in
          let m = new-content (kept_contents qs) content (put_some s c.type_inv.plan c.requires g) (omega (arith, e, w.if-place-kept.true, v.size)) in
          rw w.kept-is (collected-more s ps i v (put w.in-Put.address content) g.through at few e (record { start = w.in-Put.from; length = n })
          (record { inside = g.writable.0; most = g.writable.2 }) (more-new qs w.in-Put.address content m))
      | in-Put+else-place-kept w ↦
          let g = subst (Found 32 s ps i) w.in-Put.is f in
          let content = take w.in-Put.length (drop w.in-Put.from s) in
          let e : w.place_of-place.result ≡ place (kept_contents qs) content = rw (w.bytes.ensures, w.contents.ensures, v.are-kept) at w.place_of-place.ensures in
          let m = known-content (kept_contents qs) content (λ z. absurd (omega (arith, e, z, w.if-place-kept.false, v.size))) in
          rw w.kept-is (collected-same s ps i v (put w.in-Put.address content) g.through at few e (same_known qs w.in-Put.address content m))
      | in-Fill w ↦
          let same : (q : CodePiece.Piece) → c.accepted_at.result ≡ q → contents (piece_is s q ∷ []) ≡ [] → 0 ≡ place_of (kept_contents qs) (piece_is s q)
          → Collected s ps (i + 1) (record { contents = k.contents; count = k.count; size = k.size; places = set k.places i 0 }) =
          λ q h none z. collected-same s ps i v (piece_is s q) (subst (Found 32 s ps i) h f).through at few z (same-other qs (piece_is s q) none) in
          rw w.kept-is (elim w.in-Fill.is [
            | inl h ↦ same (Fill h.0 h.1 h.2) h.3 refl refl
            | inr h ↦ same (Run h.0) h.1 refl refl
          ])
    ]
