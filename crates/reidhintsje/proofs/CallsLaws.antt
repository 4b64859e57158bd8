-- Laws of a call: what it returns and leaves, out of what the library below it answers and the parts that were written.
use Rattle.std.specs.Prelude.{◌≡◌, false, List, ℕ}
use Rattle.std.proofs.Common.{ap, sym, ◌∙◌}
use Rattle.outcome.specs.Outcome as load
use Rattle.outcome.specs.Outcome.{Loaded}
use Rattle.scp.specs.Answer.{Reply, Answered}
use Rattle.plan.specs.Packed.{Outcome}
use Rattle.outcome_numbers.specs.declared.numbers.Parts.{Parts}
use Rattle.flood_fill.specs.Answer.{Answer}
use Rattle.outcome_numbers.specs.Numbers.{numbers, first, load_parts, reply_parts, packed_parts, pack_numbers, message_parts, message_numbers}
use Rattle.outcome_numbers.specs.Numbers.Laws.{too_small, other-parts}
use Rattle.reidhintsje.specs.Calls.{loading, answering}

-- a call that returned n and left the numbers l, written from the parts x
module _ {n : ℕ} {l : List ℕ} {x : Parts} (f : (n ≡ x.refusal) × (l ≡ numbers x)) where
  pub put-call : {y : Parts} → x ≡ y → (n ≡ first l) × (l ≡ numbers y)
  put-call e = (f.0 ∙ sym (ap first f.1), f.1 ∙ ap numbers e)

  -- of a load
  pub load-call : {a : Loaded} {o : load.Outcome} {m : List ℕ} → record { outcome = o; memory = m } ≡ a → x ≡ load_parts o
      → (n ≡ first l) × ((l ≡ (loading a).numbers) × (m ≡ (loading a).memory))
  load-call e p =
      let g = put-call (p ∙ ap (λ (y : Loaded). load_parts y.outcome) e) in
      (g.0, (g.1, ap (λ (y : Loaded). y.memory) e))

  -- of a plan that was packed: the length of its image counts where the output was too small
  module _ {o p : Outcome} (i k : ℕ) (e : o ≡ p) (g : x ≡ packed_parts i o) where
    pub small-call : i ≡ k → (n ≡ first l) × (l ≡ pack_numbers k p)
    small-call z = put-call (rw (e, z) at g)

    pub other-call : too_small o ≡ false → (n ≡ first l) × (l ≡ pack_numbers k p)
    other-call t = put-call (g ∙ other-parts o i k t ∙ ap (packed_parts k) e)

  -- of a packet
  pub reply-call : {a : Answered} {o : Reply} {m out : List ℕ} → record { reply = o; memory = m; output = out } ≡ a → x ≡ reply_parts o
      → (n ≡ first l) × ((l ≡ (answering a).numbers) × ((m ≡ (answering a).memory) × (out ≡ (answering a).output)))
  reply-call e p =
      let g = put-call (p ∙ ap (λ (y : Answered). reply_parts y.reply) e) in
      (g.0, (g.1, (ap (λ (y : Answered). y.memory) e, ap (λ (y : Answered). y.output) e)))

  -- of a flood-fill message
  pub message-call : {a b : Answer} → x ≡ message_parts a → a ≡ b → (n ≡ first l) × (l ≡ message_numbers b)
  message-call p e = put-call (p ∙ ap message_parts e)
