-- The proof of the claims.
pub mod Leaves  -- what pieces leave at an address
pub mod Exact  -- the stretches
pub mod Effect  -- what the plans mean
pub mod Answers  -- what an answer says
pub mod Reading  -- which plans are read
use Rattle.std.specs.Prelude.{◌≡◌, List, ℕ, ◌*◌, ◌≤◌}
use Rattle.std.proofs.Common.{lt-ltb, le-ltb}
use Rattle.plan.specs.Plan.{Piece, pieces}
use Rattle.compare.specs.Reading.{addresses, read_compared, run_of, same_run}
use Rattle.compare.proofs.ReadingLaws.{readable}
use Rattle.compare.specs.Compare.{differences, most_stretches, limited, stretch_size, compared_below, compared}
use Rattle.compare_claims.specs.Claims.{Claims}
use Rattle.compare_claims.specs.Refusals.{Refusals}
use Rattle.compare.proofs.ReadingBytes.{compared-bytes}
use Rattle.compare_claims.proofs.Proved.Exact.{exact}

-- what is compared, of plans that are read, with room
pub compared-pieces : (n : ℕ) (old new : List ℕ) → stretch_size * most_stretches ≤ n → {old_pieces new_pieces : List Piece}
    → read_compared old ≡ pieces old_pieces → read_compared new ≡ pieces new_pieces
    → compared n old new ≡ limited (differences addresses old_pieces new_pieces) (same_run (run_of old_pieces) (run_of new_pieces))
unfolding compared compared_below
compared-pieces n old new h e f = rw (le-ltb n (stretch_size * most_stretches) h, e, f)

pub refusals : Refusals compared
unfolding compared compared_below
refusals = record {
  no_room = λ n old new h. rw (lt-ltb n (stretch_size * most_stretches) h);
  old-refused = λ n old new h e. rw (le-ltb n (stretch_size * most_stretches) h, e);
  new-refused = λ n old new h e f. rw (le-ltb n (stretch_size * most_stretches) h, e, f);
}

pub claims : Claims compared
claims n old new b c h old_pieces new_pieces e f = record {
  stretches = differences addresses old_pieces new_pieces;
  exact = exact addresses old_pieces new_pieces (readable old e).ends (readable new f).ends (compared-bytes old b e) (compared-bytes new c f);
  answer = compared-pieces n old new h e f;
}
