-- What a packet is answered (paper 01, "SCP").
use Rattle.std.specs.Prelude.{true, false, not, List, [], ◌++◌, ℕ, ltb, eqb, length, take, drop, if◌then◌else◌}
use Rattle.words.specs.Store.{store}
use Rattle.memory_region.specs.declared.region.Right.TheVariants.{Read, Write}
use Rattle.memory_map.specs.declared.map.Map.{Map}
use Rattle.outcome.specs.Outcome as outcome
use Rattle.outcome.specs.Outcome.{Kind, Outcome, Loaded}
use Rattle.memory_map.specs.Map.{sound}
use Rattle.memory_map.specs.Lookup as map
use Rattle.memory_map.specs.Lookup.{Lookup, Found, lookup}
use Rattle.memory_map.specs.Entry as entry
use Rattle.memory_map.specs.Entry.{RunEntry, run_entry}
use Rattle.aplx.specs.Load.{load_with}
use Rattle.scp.specs.declared.answer.Identity.{Identity}
use Rattle.scp.specs.Reply.{header, version}
use Rattle.scp_packet.specs.Packet.{command_of, arg1, arg2, data_of, OK, LEN, CMD, ARG}
use Rattle.scp_packet.specs.Transfer.{Transfer, codes, moves, transfer}

-- the outcome of a packet
pub data Reply : Type 0 where
  refused : ℕ → ℕ → Reply  -- number, place
  silent : Reply  -- no response, and nothing done
  responds : ℕ → Reply  -- a response of so many bytes
  runs : Kind → ℕ → Reply  -- RUN: kind, address as written
  loads : Kind → ℕ → ℕ → Reply  -- APLX stopped at a run: kind, address as written, resume

-- what a packet does: the outcome, the memory after it, and the response at the output's front
pub record Reaction : Type 0 where
  pub reply : Reply
  pub memory : List ℕ
  pub response : List ℕ

-- a response with these bytes
abbrev pub respond : List ℕ → List ℕ → Reaction
respond r m = record { reply = responds (length r); memory = m; response = r }

-- "an error or a plain OK"
abbrev pub coded : ℕ → List ℕ → List ℕ → Reaction
coded code s m = respond (header code s) m

-- nothing at the output
abbrev pub without : Reply → List ℕ → Reaction
without r m = record { reply = r; memory = m; response = [] }

-- ---- RUN and APLX: "under 8 bytes, LEN"
-- "RUN with a legal address .. no response and name the run (RUN has no resume)." "RUN with another address is ARG"
abbrev pub run_reaction : RunEntry → List ℕ → List ℕ → Reaction
run_reaction (entry.entry k a) s m = without (runs k a) m
run_reaction (entry.refused x) s m = coded ARG s m

unfoldable pub run_packet : Lookup → List ℕ → List ℕ → Reaction
run_packet find s m =
    if ltb (length s) 8 then coded LEN s m
    else run_reaction (run_entry find (arg1 s)) s m

-- "APLX stopping at a run, give no response and name the run." "APLX with any other stop is a plain OK." "so is any refused APLX load"
abbrev pub load_reaction : Outcome → List ℕ → List ℕ → Reaction
load_reaction (outcome.accepted (outcome.run k a r) t b) s m = without (loads k a r) m
load_reaction (outcome.accepted (outcome.end p) t b) s m = coded OK s m
load_reaction (outcome.accepted (outcome.unknown c p) t b) s m = coded OK s m
load_reaction (outcome.refused n p) s m = coded ARG s m

abbrev pub loaded_reaction : Loaded → List ℕ → Reaction
loaded_reaction l s = load_reaction l.outcome s l.memory

unfoldable pub load_packet : Lookup → List ℕ → List ℕ → Reaction
load_packet find s m =
    if ltb (length s) 8 then coded LEN s m
    else loaded_reaction (load_with find m (arg1 s)) s

-- ---- READ and WRITE
-- "READ answers 4 + arg2 bytes, data at offset 4, in memory order for all types."; "non-empty range not permitted, ARG"
abbrev pub read_reaction : Found → List ℕ → List ℕ → Reaction
read_reaction (map.at p) s m = respond (header OK s ++ take (arg2 s) (drop p m)) m
read_reaction (map.refused x) s m = coded ARG s m

abbrev pub read_as : Transfer → Lookup → List ℕ → List ℕ → Reaction
read_as (codes c) find s m = coded c s m
read_as moves find s m = read_reaction (find Read (arg1 s) (arg2 s)) s m

unfoldable pub read_packet : Lookup → List ℕ → List ℕ → Reaction
read_packet find s m = read_as (transfer false s) find s m

abbrev pub write_reaction : Found → List ℕ → List ℕ → Reaction
write_reaction (map.at p) s m = coded OK s (store m p (data_of s))
write_reaction (map.refused x) s m = coded ARG s m

abbrev pub write_as : Transfer → Lookup → List ℕ → List ℕ → Reaction
write_as (codes c) find s m = coded c s m
write_as moves find s m = write_reaction (find Write (arg1 s) (arg2 s)) s m

unfoldable pub write_packet : Lookup → List ℕ → List ℕ → Reaction
write_packet find s m = write_as (transfer true s) find s m

-- ---- the packet
-- "VER 0 and RUN 1 stand in the note; READ 2, WRITE 3, APLX 4"; "unknown command, CMD"
unfoldable pub command : Lookup → Identity → List ℕ → List ℕ → Reaction
command find id s m =
    if eqb (command_of s) 0 then respond (version id s) m
    else if eqb (command_of s) 1 then run_packet find s m
    else if eqb (command_of s) 2 then read_packet find s m
    else if eqb (command_of s) 3 then write_packet find s m
    else if eqb (command_of s) 4 then load_packet find s m
    else coded CMD s m

-- "Order: under 4 bytes, no response and nothing done; over 272, LEN"
unfoldable pub packet : Lookup → Identity → List ℕ → List ℕ → Reaction
packet find id s m =
    if ltb (length s) 4 then without silent m
    else if ltb 272 (length s) then coded LEN s m
    else command find id s m

-- "The lent output must hold 272 bytes, else 10. After 10 or 1 there is no response and nothing is done."; n is the output's length
unfoldable pub reaction : Map → Identity → ℕ → List ℕ → List ℕ → Reaction
reaction map id n s m =
    if ltb n 272 then without (refused 10 0) m
    else if not (sound map (length m)) then without (refused 1 0) m
    else packet (lookup map) id s m

-- the reply, the memory, and the whole output: "Output past the response is untouched."
pub record Answered : Type 0 where
  pub reply : Reply
  pub memory : List ℕ
  pub output : List ℕ

abbrev pub answered : Reaction → List ℕ → Answered
answered r out = record { reply = r.reply; memory = r.memory; output = store out 0 r.response }

unfoldable pub scp_answer : Map → Identity → List ℕ → List ℕ → List ℕ → Answered
scp_answer map id s m out = answered (reaction map id (length out) s m) out
