-- What the returns of READ and WRITE have in common.
use Rattle.std.proofs.Common.{◌≡◌, List, ◌++◌, ℕ, ◌+◌, ◌-◌, ◌≤◌, arith, length, take, drop, length-append, length-drop}
use Rattle.std.proofs.Math.Seq.{length-take-le, take_all}
use Rattle.words.specs.Store.{store, store_if_fits}
use Rattle.words.proofs.StoreLaws.{length-store, store-fits, store-adjoining}
use Rattle.scp.specs.Answer.{responds, Reaction, Answered, respond, answered}
use Rattle.scp.specs.Reply.{header}
use Rattle.scp.proofs.ReplyLaws.{length-header}
use Rattle.scp_packet.specs.Packet.{data_of, OK}

-- the data of a packet of 16 + n bytes, put into memory at place p
pub data-stored : (s m : List ℕ) (p n : ℕ) → length s ≡ 16 + n → p + n ≤ length m → store_if_fits m p (take (length s - 16) (drop 16 s)) ≡ store m p (data_of s)
data-stored s m p n e i =
    let l = length-drop 16 s in
    rw (take_all (length s - 16) (drop 16 s) (omega arith)) (store-fits m p (drop 16 s) (omega arith))

-- a packet s over memory m, and the output before the response
module _ (s m out : List ℕ) (h : 4 ≤ length s) where
  -- n bytes of memory from place p on, put behind the header
  pub data-return :
      (p n : ℕ) {w : Reaction} {o : List ℕ}
      → p + n ≤ length m → 4 + n ≤ length out → w ≡ respond (header OK s ++ take n (drop p m)) m
      → o ≡ store_if_fits (store out 0 (header OK s)) 4 (take n (drop p m))
      → ◌≡◌ {A = Answered} (record { reply = responds (4 + n); memory = m; output = o }) (answered w out)
  data-return p n i k e f =
      let d = take n (drop p m) in
      let l : length d ≡ n = length-take-le n (drop p m) (omega (arith, length-drop p m)) in
      let t : length (header OK s) ≡ 4 = length-header s h OK in
      let a : 0 + length (header OK s) ≤ length out = omega arith in
      let b : store (store out 0 (header OK s)) 4 d ≡ store out 0 (header OK s ++ d) = rw t at (store-adjoining out 0 (header OK s) a d) in
      let g : 4 + length d ≤ length (store out 0 (header OK s)) = omega (arith, length-store out 0 (header OK s) a) in
      rw (e, f, store-fits (store out 0 (header OK s)) 4 d g, b, length-append, t, l)
