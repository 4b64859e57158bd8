-- Wrong receivers: each does what ours does, but for one thing.
use Rattle.std.specs.Prelude.{Bool, true, false, ◌&&◌, List, ℕ, ◌*◌, eqb, take, set, replicate, if◌then◌else◌, Option, Some, None}
use Rattle.words.specs.Store.{store_if_fits}
use Rattle.flood_fill.specs.declared.message.Message.TheVariants.{Start, BlockStart, BlockData, BlockEnd}
use Rattle.flood_fill.specs.declared.header.Block.{Block}
use Rattle.flood_fill.specs.declared.receiver.Receiver.{Receiver}
use Rattle.flood_fill.specs.Refusals.{is_open, open_size, opened_block}
use Rattle.flood_fill.specs.Answer.{Answer, refused, accepted, ignored, missing, done}
use Rattle.flood_fill.specs.Receive.{Result, headed, is_marked, lowest_in, word_bytes, result, receive}
use Rattle.flood_fill_series.specs.Claims.{Step}

-- ---- ours, but for one kind of message
abbrev except_start : (Receiver → List ℕ → ℕ → ℕ → Result) → Step
except_start f r image (Start last n) = f r image last n
except_start f r image (BlockStart b n) = receive r image (BlockStart b n)
except_start f r image (BlockData b w v) = receive r image (BlockData b w v)
except_start f r image (BlockEnd b) = receive r image (BlockEnd b)

abbrev except_block_start : (Receiver → List ℕ → ℕ → ℕ → Result) → Step
except_block_start f r image (Start last n) = receive r image (Start last n)
except_block_start f r image (BlockStart b n) = f r image b n
except_block_start f r image (BlockData b w v) = receive r image (BlockData b w v)
except_block_start f r image (BlockEnd b) = receive r image (BlockEnd b)

abbrev except_data : (Receiver → List ℕ → ℕ → ℕ → ℕ → Result) → Step
except_data f r image (Start last n) = receive r image (Start last n)
except_data f r image (BlockStart b n) = receive r image (BlockStart b n)
except_data f r image (BlockData b w v) = f r image b w v
except_data f r image (BlockEnd b) = receive r image (BlockEnd b)

abbrev except_block_end : (Receiver → List ℕ → ℕ → Result) → Step
except_block_end f r image (Start last n) = receive r image (Start last n)
except_block_end f r image (BlockStart b n) = receive r image (BlockStart b n)
except_block_end f r image (BlockData b w v) = receive r image (BlockData b w v)
except_block_end f r image (BlockEnd b) = f r image b

-- ---- ours, with another part of the state
abbrev with_done : Receiver → List Bool → Receiver
with_done r d = record { header = r.header; done = d; marks = r.marks; words = r.words }

abbrev with_marks : Receiver → List Bool → Receiver
with_marks r m = record { header = r.header; done = r.done; marks = m; words = r.words }

abbrev with_opened : Receiver → Option Block → Receiver
with_opened r o =
    record { header = headed r.header.count r.header.size o; done = r.done; marks = r.marks; words = r.words }

-- ---- Start
-- leaves the done blocks done
abbrev pub keeps_done_at_start : Step
keeps_done_at_start =
    except_start (λ r image last n. let s = receive r image (Start last n) in result (with_done s.receiver r.done) image s.answer)

-- ---- Block Start
-- leaves the marks of the block before
abbrev pub keeps_old_marks : Step
keeps_old_marks =
    except_block_start (λ r image b n. let s = receive r image (BlockStart b n) in result (with_marks s.receiver r.marks) image s.answer)

-- opens the last block with the full size, also where it is shorter
abbrev widened : ℕ → Option Block → Option Block
widened full None = None
widened full (Some k) = opened_block k.block full

abbrev pub awaits_full_size : Step
awaits_full_size =
    except_block_start
    (λ r image b n.
    let s = receive r image (BlockStart b n) in
    result (with_opened s.receiver (widened r.header.size s.receiver.header.opened)) image s.answer)

-- ---- Block Data
-- keeps data of any block as the open one's
abbrev open_or : ℕ → Option Block → ℕ
open_or b None = b
open_or b (Some k) = k.block

abbrev pub keeps_any_block : Step
keeps_any_block = except_data (λ r image b w v. receive r image (BlockData (open_or b r.header.opened) w v))

-- takes the mark away where a word comes again
abbrev pub unmarks_repeated : Step
unmarks_repeated =
    except_data
    (λ r image b w v.
    if is_open r.header.opened b && is_marked r w then result (with_marks r (set r.marks w false)) image ignored
    else receive r image (BlockData b w v))

-- keeps words in order only
abbrev pub keeps_in_order_only : Step
keeps_in_order_only =
    except_data (λ r image b w v. if eqb w (lowest_in r.marks) then receive r image (BlockData b w v) else result r image ignored)

-- ---- Block End
-- takes all words for marked, and so completes a block with words missing
abbrev pub completes_early : Step
completes_early =
    except_block_end
    (λ r image b.
    let s = receive (with_marks r (replicate 256 true)) image (BlockEnd b) in
    result (with_marks s.receiver r.marks) s.image s.answer)

-- leaves another image where it answers `done`
abbrev if_done : Answer → List ℕ → List ℕ → List ℕ
if_done done x y = x
if_done (refused n p) x y = y
if_done accepted x y = y
if_done ignored x y = y
if_done (missing n l) x y = y

abbrev storing : (Receiver → List ℕ → ℕ → List ℕ) → Step
storing f =
    except_block_end
    (λ r image b. let s = receive r image (BlockEnd b) in result s.receiver (if_done s.answer (f r image b) image) s.answer)

abbrev pub stores_nothing : Step
stores_nothing = storing (λ r image b. image)

-- at block ID times this block's own size
abbrev pub stores_at_own_size : Step
stores_at_own_size =
    storing
    (λ r image b.
    let n = open_size r.header.opened in
    store_if_fits image (4 * (b * n)) (word_bytes (take n r.words)))

-- a full block, also where the last one is shorter
abbrev pub stores_full_block : Step
stores_full_block = storing (λ r image b. let n = r.header.size in store_if_fits image (4 * (b * n)) (word_bytes (take n r.words)))
