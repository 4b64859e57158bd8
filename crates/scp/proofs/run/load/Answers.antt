-- `scp::run::load` meets its contract: the load's promise gives its outcome and memory.
use Rattle.std.proofs.Common.{◌≡◌, sym, List, ℕ, arith, length, le-ltb, inl, inr}
use Rattle.std.specs.Prelude.{◌⊎◌}
use Rattle.outcome.specs.Outcome.{accepted, stop_of}
use Rattle.outcome.specs.declared.answer.Stop.{Stop}
use Rattle.outcome.specs.declared.answer.Stop.TheVariants.{End, Unknown}
use Rattle.memory_map.specs.Lookup.{lookup}
use Rattle.aplx.proofs.LoadLaws.{sound-load}
use Rattle.words.proofs.StoreLaws.{store-nil}
use Rattle.scp_packet.specs.Packet.{arg1, OK}
use Rattle.scp.specs.Answer.{coded, load_reaction, load_packet}
use Rattle.scp.proofs.run.load.Goals as goal
use Rattle.scp.proofs.run.load.Goals.{In-Ok}

-- what the packet comes to where the load was accepted
told :
    (c : In-Ok) → let l = c.in-Ok.load in
    load_packet (lookup c.args.board.now.map) c.args.packet.now c.args.board.now.memory.now
    ≡ load_reaction (accepted (stop_of l.stop) l.taken l.stored) c.args.packet.now c.load.new.memory
unfolding load_packet
told c =
    let x = c.args in
    let l = rw c.le_word_at.ensures at c.in-Ok.ensures in
    simp (le-ltb (length x.packet.now) 8 (omega arith), sym (sound-load x.board.now.map x.board.now.memory.now (arg1 x.packet.now) x.board.now.is_sound), sym l)

-- a stop that is no run
plain :
    (x : Stop) (t b : ℕ) (s m : List ℕ) → ((p : ℕ) × (x ≡ End p)) ⊎ ((w : ℕ) × (p : ℕ) × (x ≡ Unknown w p))
    → load_reaction (accepted (stop_of x) t b) s m ≡ coded OK s m
plain x t b s m (inl e) = simp e.1
plain x t b s m (inr e) = simp e.2

pub returns-in_default-clause-outcome : goal.returns-in_default-clause-outcome
unfolding load_packet
returns-in_default-clause-outcome c = λ (o : List ℕ). let x = c.args in
    let l = rw c.le_word_at.ensures at c.in_default.ensures in
    simp (le-ltb (length x.packet.now) 8 (omega arith), sym (sound-load x.board.now.map x.board.now.memory.now (arg1 x.packet.now) x.board.now.is_sound), sym l)

pub returns-in-Run-clause-outcome : goal.returns-in-Run-clause-outcome
returns-in-Run-clause-outcome c = λ (o : List ℕ). simp (told (goal.at.returns-in-Run-clause-outcome c).In-Ok, c.in-Run.is, store-nil)

pub returns-in-End-clause-outcome : goal.returns-in-End-clause-outcome
returns-in-End-clause-outcome c = λ (o : List ℕ). let l = c.in-Ok.load in
    simp (told (goal.at.returns-in-End-clause-outcome c).In-Ok, plain l.stop l.taken l.stored c.args.packet.now c.load.new.memory c.in-End.is)
