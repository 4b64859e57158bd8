-- The tests of a message (paper 02, C-14): "Tested before all that, in this order, refused with 24 to 29 and changing nothing".
use Rattle.std.specs.Prelude.{Bool, false, ◌&&◌, ℕ, suc, ◌*◌, ltb, leb, eqb, if◌then◌else◌, ⊤, Option, None, Some, Result, Ok, Err}
use Rattle.outcome.specs.declared.refusal.Cause.{Cause}
use Rattle.outcome.specs.declared.refusal.Cause.TheVariants.{ImageTooShort, OutsideLimits, NoStart, NoSuchBlock, WrongSize, NotOpen}
use Rattle.flood_fill.specs.declared.message.Message.{Message}
use Rattle.flood_fill.specs.declared.message.Message.TheVariants.{Start, BlockStart, BlockData, BlockEnd}
use Rattle.flood_fill.specs.declared.header.Block.{Block}
use Rattle.flood_fill.specs.declared.header.Header.{Header}
use Rattle.flood_fill.specs.Limits.{within_limits, right_size}

-- ---- the open block
-- block b of n words
abbrev pub opened_block : ℕ → ℕ → Option Block
opened_block b n = Some (record { block = b; size = n })

-- whether it is block b
abbrev pub is_open : Option Block → ℕ → Bool
is_open None b = false
is_open (Some k) b = eqb k.block b

-- its own size
abbrev pub open_size : Option Block → ℕ
open_size None = 0
open_size (Some k) = k.size

-- "the block is open, the word ID is below its size"
abbrev pub is_wanted : Option Block → ℕ → ℕ → Bool
is_wanted o b w = is_open o b && ltb w (open_size o)

-- ---- how the tests end: at the cause of a refusal, or all are passed. The causes' numbers are those of `number_of`
abbrev pub Tested : Type 0
Tested = Result ⊤ Cause

abbrev pub passed : Tested
passed = Ok tt

-- ---- 24: "any message with an image shorter than four bytes per declared word (a Start by its own numbers; before any, none)"
-- the count of blocks is 0 before any Start
abbrev pub declared_words : Header → Message → ℕ
declared_words h (Start last n) = suc last * n
declared_words h (BlockStart b n) = h.count * h.size
declared_words h (BlockData b w v) = h.count * h.size
declared_words h (BlockEnd b) = h.count * h.size

-- an image of so many bytes
abbrev pub is_short : Header → Message → ℕ → Bool
is_short h m bytes = ltb bytes (4 * declared_words h m)

-- ---- 25: "a Start with numbers outside these limits"
unfoldable pub test_start : ℕ → ℕ → Tested
test_start last n = if within_limits (suc last) n then passed else Err OutsideLimits

-- ---- 26, 27, 28: "a Block Start before any Start; with an ID not below the count; with a wrong size"
unfoldable pub test_block_start : Header → ℕ → ℕ → Tested
test_block_start h b n =
    if eqb h.count 0 then Err NoStart
    else if leb h.count b then Err NoSuchBlock
    else if right_size h.count h.size b n then passed
    else Err WrongSize

-- ---- 29: "a Block End for a block that isn't open"
unfoldable pub test_block_end : Header → ℕ → Tested
test_block_end h b = if is_open h.opened b then passed else Err NotOpen

-- ---- all tests, in order
-- those of the message itself
abbrev pub own_tests : Header → Message → Tested
own_tests h (Start last n) = test_start last n
own_tests h (BlockStart b n) = test_block_start h b n
own_tests h (BlockData b w v) = passed
own_tests h (BlockEnd b) = test_block_end h b

unfoldable pub tested : Header → Message → ℕ → Tested
tested h m bytes = if is_short h m bytes then Err ImageTooShort else own_tests h m
