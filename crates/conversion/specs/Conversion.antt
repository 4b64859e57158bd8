-- What the programs `plan_to_aplx`, `plan_to_shared_aplx` and `plan_to_srom` write for the plan that they read.
use Rattle.std.specs.Prelude.{◌≡◌, List, ℕ, ◌≤◌, Option, ltb, length, if◌then◌else◌}
use Rattle.std.specs.Io.KnownBytes.{Consumes}
use Rattle.words.specs.Store.{store}
use Rattle.plan.specs.Packed.{Packed}
use Rattle.aplx_pack.specs.Image.{pack_aplx}
use Rattle.aplx_share.specs.SharedImage.{pack_shared}
use Rattle.srom_pack.specs.Image.{pack_srom}
use Rattle.text.specs.Refusal.{refusal_line, fitting}
use Rattle.conversion.specs.declared.convert.Packing.{Packing}
use Rattle.conversion.specs.declared.convert.Packing.TheVariants.{Aplx, SharedAplx, Srom}
use Rattle.conversion.specs.Shown.{shown}

-- what this packing of a plan gives, for an output of n bytes
unfoldable pub pack_for : Packing → List ℕ → ℕ → Packed
pack_for Aplx plan n = pack_aplx plan n
pack_for SharedAplx plan n = pack_shared plan n
pack_for Srom plan n = pack_srom plan n

-- "Plans up to 32,768 bytes (longer: 11, place 0)"; an image of more than n bytes is 10
unfoldable pub converted : Packing → List ℕ → ℕ → List ℕ
converted packing plan n = if ltb 32768 (length plan) then refusal_line 11 0 else shown (pack_for packing plan n)

-- the bytes of it that are written to an output of n bytes: all, or none where they do not fit
abbrev pub written : Packing → List ℕ → ℕ → List ℕ
written packing plan n = fitting (converted packing plan n) n

-- what is answered and left for the plan in a file: r bytes, and last of an output m of 65,536 bytes. The plan is what was read: the bytes
-- that a reader had before and no longer has after, where it says which these are, as a file or standard input does not. Of a longer input
-- one byte past the limit is read at most
pub record FromFile (before after : Option (List ℕ)) (packing : Packing) (m : List ℕ) (r : ℕ) (last : List ℕ) : Type 0 where
  pub plan : List ℕ
  pub taken : Consumes before after plan
  pub read : length plan ≤ 32769
  pub length-is : r ≡ length (written packing plan 65536)
  pub output-is : last ≡ store m 0 (written packing plan 65536)
