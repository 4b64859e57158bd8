-- Responses put part by part.
use mathlib.Core.Path.{◌≡◌}
use mathlib.Core.List.{List, ◌++◌}
use Prim.Native.Nat.{ℕ, ◌+◌, ◌≤◌}
use native.Mathlib.Omega.{arith}
use lib.ListN.{length, length-append}
use Rattle.words.specs.Store.{store, store_if_fits}
use Rattle.words.proofs.StoreLaws.{store-behind}

-- out with the n bytes d at its front is r
pub record Put (out d : List ℕ) (n : ℕ) (r : List ℕ) : Type 0 where
  pub stored : r ≡ store out 0 d
  pub size : length d ≡ n

-- k more bytes put behind them
pub put-behind : (out d e : List ℕ) (n k : ℕ) (r s : List ℕ) → length e ≡ k → n + k ≤ length out → Put out d n r
    → s ≡ store_if_fits r n e → Put out (d ++ e) (n + k) s
put-behind out d e n k r s l h p f =
    record {
      stored = store-behind out 0 d e n r s (omega arith) (omega arith) p.stored f;
      size = omega (arith, length-append d e);
    }
