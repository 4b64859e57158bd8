-- Groups of definitions that computed examples open together: `unfolding NAME` opens all in the line under NAME. Not needed for belief.
use Rattle.words.specs.Open as WordsGroup
use Rattle.plan.specs.Open as PlanGroup
use Rattle.aplx_check.specs.Check.{is_part, has_data, is_due, check_entries, first_end, check_pieces, check}

-- the check of an image
unfoldable pub checker : Unit {0}
unfolding WordsGroup.bytes WordsGroup.tests PlanGroup.reader is_part has_data is_due check_entries first_end check_pieces check
checker = tt
