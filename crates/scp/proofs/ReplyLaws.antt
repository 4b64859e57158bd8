-- Laws of replies: how long they are.
use Rattle.std.specs.Prelude.{◌≡◌, List, ℕ, ◌≤◌, take, drop}
use Rattle.std.proofs.Common.{arith, length-append}
use Rattle.std.proofs.Math.ListN.{length, length-drop}
use Rattle.std.proofs.Math.Seq.{length-take-le}
use Rattle.words.proofs.BytesLaws.{length-little_endian}
use Rattle.scp.specs.declared.answer.Identity.{Identity}
use Rattle.scp.specs.Reply.{header, version}

module _ (s : List ℕ) (h : 4 ≤ length s) where
  pub length-header : (code : ℕ) → length (header code s) ≡ 4
  unfolding header
  length-header code =
      let e : length (take 2 (drop 2 s)) ≡ 2 = length-take-le 2 (drop 2 s) (omega (arith, length-drop 2 s)) in
      simp (length-append, length-little_endian, e)

  pub length-version : (id : Identity) → length (version id s) ≡ 31
  unfolding version
  length-version id = simp (length-append, length-little_endian, length-header)
