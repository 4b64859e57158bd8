-- What one word leaves that is not refused.
use Rattle.std.specs.Prelude.{◌≡◌, Bool, ◌&&◌, ◌||◌, List, [], ◌∷◌, ℕ, zero, suc, ◌<◌, set, if◌then◌else◌, Option}
use Rattle.std.proofs.Math.Path.{refl, sym}
use Rattle.std.proofs.Common.{ap, ◌∙◌, get_or-set_same}
use Rattle.std.proofs.Math.Bool.{true, false, not}
use native.Mathlib.Omega.{arith}
use Rattle.std.proofs.Math.Dec.{ltb, eqb}
use Rattle.std.proofs.Math.ListN.{length, get_or}
use Rattle.std.proofs.Math.Seq.{get_or-set_other}
use borrow.Author.Tests.{eqb-true, eqb-false}
use Rattle.flood_fill.specs.declared.message.Message.{Message}
use Rattle.flood_fill.specs.declared.message.Message.TheVariants.{Start, BlockStart, BlockData, BlockEnd}
use Rattle.flood_fill.specs.declared.header.Block.{Block}
use Rattle.flood_fill.specs.declared.receiver.Receiver.{Receiver}
use Rattle.flood_fill.specs.Refusals.{is_wanted, opened_block}
use Rattle.flood_fill.specs.Receive.{keeping, receive}
use Rattle.flood_fill_series.specs.Claims.{NotRefused, Image, DataOf}
use Rattle.flood_fill_series.proofs.Proved.Ends.{wanted, ends}
use Rattle.flood_fill_series.proofs.Proved.Accepted.{data-leaves}

unfoldable pub noted : Receiver → Message → Receiver
noted r (Start last n) = r
noted r (BlockStart b n) = r
noted r (BlockData b w v) = if wanted r b w then keeping r w v else r
noted r (BlockEnd b) = r

pub message-noted : (i : Image) (r : Receiver) (image : List ℕ) (m : Message) → DataOf i m → NotRefused (receive r image m).answer
    → (receive r image m).receiver ≡ noted r m
unfolding noted
message-noted i r image (Start last n) d a = absurd d
message-noted i r image (BlockStart b n) d a = absurd d
message-noted i r image (BlockData b w v) d a = data-leaves r image b w v (receive r image (BlockData b w v)) (ends r image (BlockData b w v)) a
message-noted i r image (BlockEnd b) d a = absurd d

pub either-noted : (P : Receiver → Type 0) (r : Receiver) (k w v : ℕ) → P (keeping r w v) → P r → P (noted r (BlockData k w v))
unfolding noted
either-noted P r k w v a c = go (wanted r k w)
  where
    go : (t : Bool) → P (if t then keeping r w v else r)
    go true = a
    go false = c

-- ---- word by word
-- what is set is set, whatever stands past the end
pub set-marked : (l : List Bool) (i : ℕ) → get_or (set l i true) i true ≡ true
set-marked [] i = refl
set-marked (x ∷ l) zero = refl
set-marked (x ∷ l) (suc i) = set-marked l i

pub or-false : (t : Bool) → (t || false) ≡ t
or-false true = refl
or-false false = refl

pub no-else : (t : Bool) (x y : ℕ) → (if t && false then x else y) ≡ y
no-else true x y = refl
no-else false x y = refl

module _ (r : Receiver) (b n : ℕ) (open_block : r.header.opened ≡ opened_block b n) (k w v : ℕ) where
  wanted-open : wanted r k w ≡ (eqb b k && ltb w n && not (get_or r.marks w true))
  wanted-open = ap (λ (o : Option Block). is_wanted o k w && not (get_or r.marks w true)) open_block

  pub note-mark : (j : ℕ) → get_or (noted r (BlockData k w v)).marks j true ≡ get_or r.marks j true || ((eqb b k && eqb j w) && ltb j n)
  unfolding noted
  note-mark j = rw wanted-open (go (eqb b k) (eqb j w) refl (ltb w n) refl (get_or r.marks w true) refl)
    where
      go : (x y : Bool) → eqb j w ≡ y → (l : Bool) → ltb w n ≡ l → (m : Bool) → get_or r.marks w true ≡ m
          → get_or (if (x && l && not m) then keeping r w v else r).marks j true ≡ get_or r.marks j true || ((x && y) && ltb j n)
      go false y p l q m e = sym (or-false (get_or r.marks j true))
      go true false p false q m e = sym (or-false (get_or r.marks j true))
      go true true p false q m e = let z = eqb-true j w p in rw (z, q) (sym (or-false (get_or r.marks w true)))
      go true false p true q true e = sym (or-false (get_or r.marks j true))
      go true true p true q true e = let z = eqb-true j w p in rw (z, e)
      go true false p true q false e =
          get_or-set_other r.marks w j true true (eqb-false j w p) ∙ sym (or-false (get_or r.marks j true))
      go true true p true q false e = let z = eqb-true j w p in rw (z, e, q) (set-marked r.marks w)

  pub note-word : (j : ℕ) → j < length r.words → get_or (noted r (BlockData k w v)).words j 0
      ≡ (if not (get_or r.marks j true) && ((eqb b k && eqb j w) && ltb j n) then v else get_or r.words j 0)
  unfolding noted
  note-word j h = rw wanted-open (go (eqb b k) (eqb j w) refl (ltb w n) refl (get_or r.marks w true) refl)
    where
      go : (x y : Bool) → eqb j w ≡ y → (l : Bool) → ltb w n ≡ l → (m : Bool) → get_or r.marks w true ≡ m
          → get_or (if (x && l && not m) then keeping r w v else r).words j 0
          ≡ (if not (get_or r.marks j true) && ((x && y) && ltb j n) then v else get_or r.words j 0)
      go false y p l q m e = sym (no-else (not (get_or r.marks j true)) v (get_or r.words j 0))
      go true false p false q m e = sym (no-else (not (get_or r.marks j true)) v (get_or r.words j 0))
      go true true p false q m e =
          let z = eqb-true j w p in rw (z, q) (sym (no-else (not (get_or r.marks w true)) v (get_or r.words w 0)))
      go true false p true q true e = sym (no-else (not (get_or r.marks j true)) v (get_or r.words j 0))
      go true true p true q true e = let z = eqb-true j w p in rw (z, e)
      go true false p true q false e =
          get_or-set_other r.words w j v 0 (eqb-false j w p) ∙ sym (no-else (not (get_or r.marks j true)) v (get_or r.words j 0))
      go true true p true q false e =
          let z = eqb-true j w p in
          let g : w < length r.words = omega arith in
          rw (z, e, q) (get_or-set_same r.words w v 0 g)
