-- A value of the code can be read back from what it says. So two that say the same are the same.
use Rattle.std.specs.Prelude.{◌≡◌, refl, ℕ, ◌-◌, [], ◌∷◌, get_or, Result, Ok, Err}
use Rattle.std.proofs.Common.{ap}
use Rattle.outcome.proofs.OutcomeInjective.{back-injective}
use Rattle.scp_packet.specs.declared.packet.ReturnCode.{ReturnCode}
use Rattle.scp_packet.specs.declared.packet.ReturnCode.TheVariants.{Okay, BadLength, BadCommand, BadArgument}
use Rattle.scp_packet.specs.Transfer.{Transfer, codes, moves}
use Rattle.scp_packet.specs.Code.{code_of, transfer_is}

-- ---- return codes, by their numbers
abbrev code_back : ℕ → ReturnCode
code_back n = get_or (Okay ∷ BadLength ∷ Okay ∷ BadCommand ∷ BadArgument ∷ []) (n - 0x80) Okay

code-back : (x : ReturnCode) → code_back (code_of x) ≡ x
code-back Okay = refl
code-back BadLength = refl
code-back BadCommand = refl
code-back BadArgument = refl

pub code-injective : (x y : ReturnCode) → code_of x ≡ code_of y → x ≡ y
code-injective = back-injective code_of code_back code-back

-- ---- what the tests come to
abbrev transfer_back : Transfer → Result Unit ReturnCode
transfer_back (codes c) = Err (code_back c)
transfer_back moves = Ok tt

transfer-back : (x : Result Unit ReturnCode) → transfer_back (transfer_is x) ≡ x
transfer-back (Err c) = ap (λ (x : ReturnCode). Err x) (code-back c)
transfer-back (Ok w) = refl

pub transfer-injective : (x y : Result Unit ReturnCode) → transfer_is x ≡ transfer_is y → x ≡ y
transfer-injective = back-injective transfer_is transfer_back transfer-back
