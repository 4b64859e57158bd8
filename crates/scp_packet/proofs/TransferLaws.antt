-- Laws of transfers: what a packet is whose range is transferred.
use Rattle.std.specs.Prelude.{◌≡◌, refl, Bool, true, false, not, ◌&&◌, ◌||◌, List, ℕ, ◌+◌, ◌≤◌, ltb, eqb, length}
use Rattle.std.proofs.Common.{sym, arith, ltb-false, eqb-true}
use Rattle.words.proofs.ChoiceLaws.{true-is-false, from-else}
use Rattle.scp_packet.specs.Packet.{arg2, arg3}
use Rattle.scp_packet.specs.Transfer.{too_large, other_length, codes, moves, transfer}

-- a packet whose range is transferred has its three arguments, asks for at most 256 bytes, and as a WRITE has that many
pub record Moved (write : Bool) (s : List ℕ) : Type 0 where
  pub long : 16 ≤ length s
  pub small : arg2 s ≤ 256
  pub whole : write ≡ true → length s ≡ 16 + arg2 s

no_code : {c : ℕ} → codes c ≡ moves → ⊥
no_code e = let z : ◌≡◌ {A = ℕ} 0 1 = cc in absurd (omega arith)

within : (s : List ℕ) → too_large s ≡ false → arg2 s ≤ 256
within s e = go (ltb 256 (arg2 s)) refl e
  where
    go : (b : Bool) → ltb 256 (arg2 s) ≡ b → (b || ltb 2 (arg3 s)) ≡ false → arg2 s ≤ 256
    go true t e = true-is-false e
    go false t e = ltb-false 256 (arg2 s) t

exact : (write : Bool) (s : List ℕ) → (write && other_length s) ≡ false → write ≡ true → length s ≡ 16 + arg2 s
exact true s e w = go (eqb (length s) (16 + arg2 s)) refl e
  where
    go : (b : Bool) → eqb (length s) (16 + arg2 s) ≡ b → not b ≡ false → length s ≡ 16 + arg2 s
    go true t e = eqb-true _ _ t
    go false t e = true-is-false e
exact false s e w = true-is-false (sym w)

pub moved : (write : Bool) (s : List ℕ) → transfer write s ≡ moves → Moved write s
unfolding transfer
moved write s e =
    let x = from-else (ltb (length s) 16) no_code e in
    let y = from-else (too_large s) no_code x.1 in
    let z = from-else (write && other_length s) no_code y.1 in
    record { long = ltb-false _ _ x.0; small = within s y.0; whole = exact write s z.0 }
