-- Groups of definitions that computed examples open together: `unfolding NAME` opens all in the line under NAME. Not needed for belief.
use Rattle.words.specs.Open.{bytes}
use Rattle.plan.specs.Plan.{put_bytes, datas}
use Rattle.aplx_read.specs.PlanBytes.{row_bytes, table, plan_bytes}
use Rattle.aplx_read.specs.ReadBack.{judge_exec, judge_range, judge_copy, judge_words, entry_at, read_entries, read_image, read_back}

-- the pieces of an image, and the plan of pieces
unfoldable pub reader : Unit {0}
unfolding bytes put_bytes datas row_bytes table plan_bytes judge_exec judge_range judge_copy judge_words entry_at read_entries read_image read_back
reader = tt
