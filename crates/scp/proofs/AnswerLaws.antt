-- Laws of answers: what a coded reply is, in the output too, and what no response leaves there.
use Rattle.std.specs.Prelude.{◌≡◌, List, [], ℕ, ◌≤◌, length}
use Rattle.words.specs.Store.{store}
use Rattle.words.proofs.StoreLaws.{store-nil}
use Rattle.scp.specs.Answer.{Reply, responds, coded, without, answered}
use Rattle.scp.specs.Reply.{header}
use Rattle.scp.proofs.ReplyLaws.{length-header}

-- a return code and the sequence number
pub coded_answer :
    (s m out : List ℕ) (code : ℕ) → 4 ≤ length s
    → answered (coded code s m) out ≡ record { reply = responds 4; memory = m; output = store out 0 (header code s) }
coded_answer s m out code h = simp (length-header s h code)

-- no response
pub no_response : (out : List ℕ) → store out 0 [] ≡ out
no_response out = store-nil out 0

pub without-answer : (s m out : List ℕ) (r : Reply) → answered (without r m) out ≡ record { reply = r; memory = m; output = out }
without-answer s m out r = simp (store-nil out 0)
