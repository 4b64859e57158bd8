-- What the code's answers say, in the terms of paper 01.
use Rattle.std.specs.Prelude.{List, ℕ, Result, Ok, Err}
use Rattle.outcome.specs.declared.refusal.Refusal.{Refusal}
use Rattle.outcome.specs.Refusal.{number_of}
use Rattle.outcome.specs.Outcome.{kind_of, address_of}
use Rattle.scp_packet.specs.declared.packet.ReturnCode.{ReturnCode}
use Rattle.scp_packet.specs.Code.{code_of}
use Rattle.scp.specs.declared.answer.Reply as code
use Rattle.scp.specs.declared.answer.Reply.TheVariants.{Silent, Response, Run, Load}
use Rattle.scp.specs.Answer.{Reply, refused, silent, responds, runs, loads, coded, Answered, answered}

abbrev pub reply_of : Result code.Reply Refusal → Reply
reply_of (Err r) = refused (number_of r.cause) r.place
reply_of (Ok Silent) = silent
reply_of (Ok (Response n)) = responds n
reply_of (Ok (Run e)) = runs (kind_of e) (address_of e)
reply_of (Ok (Load e r)) = loads (kind_of e) (address_of e) r

-- what a command's answer comes to over packet s, memory m and output o: a return code is still to be put at the output's front
abbrev pub answered_of : Result code.Reply ReturnCode → List ℕ → List ℕ → List ℕ → Answered
answered_of (Err c) s m o = answered (coded (code_of c) s m) o
answered_of (Ok x) s m o = record { reply = reply_of (Ok x); memory = m; output = o }
