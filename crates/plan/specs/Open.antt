-- Groups of definitions that computed examples open together: `unfolding NAME` opens all in the line under NAME. Not needed for belief.
use Rattle.words.specs.Open.{bytes}
use Rattle.word_blocks.specs.Open.{rows}
use Rattle.memory_map.specs.Open.{lookups}
use Rattle.plan.specs.Plan.{judge_run, judge_fill, judge_data, judge_put, judge_kind, judge_at, piece_at, read_pieces, judge_header, read_plan}
use Rattle.plan.specs.Meaning.{permit, effect, effects, stretch, finish, meaning}

-- the reader of plans
unfoldable pub reader : Unit {0}
unfolding bytes read_plan judge_header read_pieces piece_at judge_at judge_kind judge_put judge_data judge_fill judge_run
reader = tt

-- what a plan means
unfoldable pub meanings : Unit {0}
unfolding rows lookups meaning finish stretch effects effect permit
meanings = tt
