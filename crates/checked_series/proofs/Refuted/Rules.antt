-- The claims are false of these checkers, beside any software: they accept an image that is not written by the rules, or refuse one that is.
use Rattle.std.specs.Prelude.{refl, List, ◌++◌, ℕ, zero, suc, ◌+◌, replicate}
use Rattle.words.specs.Four.{four_bytes}
use Rattle.words.proofs.BytesLaws.{all-bytes}
use Rattle.aplx_pack.specs.Open as AplxPackGroup
use Rattle.series.specs.Software.{Software}
use Rattle.aplx_check.specs.Open as CheckGroup
use Rattle.checked_series.specs.Claims.{Claims}
use Rattle.checked_series.proofs.Refuted.Checkers.{entries_by, is_new, data_anywhere, refuses_all, never_split, never_shared, few_entries, packed_only}
use Rattle.checked_series.proofs.Refuted.Example.{accepts-refused, refuses-accepted}

-- an end entry, with unused words
abbrev last : List ℕ
last = four_bytes 0xffffffff 1 2 3

-- ---- plans and images
-- a put of 32 bytes, which are those of its own entry and the end entry
unfoldable pub of_header : List ℕ
of_header = four_bytes 2 8192 0 32 ++ last

unfoldable pub put_header : List ℕ
put_header = four_bytes 1 16 32 32 ++ (four_bytes 1 8192 32 0 ++ of_header)

-- a fill of 64 bytes, and its image in two parts and in one
unfoldable pub fill_plan : List ℕ
fill_plan = four_bytes 1 16 32 0 ++ four_bytes 2 8192 64 1

unfoldable pub in_two : List ℕ
in_two = four_bytes 3 8192 32 1 ++ (four_bytes 3 8224 32 1 ++ last)

unfoldable pub in_one : List ℕ
in_one = four_bytes 3 8192 64 1 ++ last

-- a fill of 2,080 bytes, and k parts of 32 bytes from address a on
unfoldable pub long_plan : List ℕ
long_plan = four_bytes 1 16 32 0 ++ four_bytes 2 8192 2080 1

unfoldable pub in_parts : ℕ → ℕ → List ℕ
in_parts zero a = last
in_parts (suc k) a = four_bytes 3 a 32 1 ++ in_parts k (a + 32)

-- two puts of the same bytes, with one copy of them
unfoldable pub two_puts : List ℕ
two_puts = four_bytes 2 16 48 32 ++ (four_bytes 1 8192 32 0 ++ (four_bytes 1 8224 32 0 ++ replicate 32 5))

unfoldable pub shared : List ℕ
shared = four_bytes 2 8192 48 32 ++ (four_bytes 2 8224 32 32 ++ (last ++ replicate 32 5))

-- ---- the refutations
pub record AgainstRules : Type 0 where
  pub data-anywhere-refuted : {s : Software} → Claims s data_anywhere → ⊥
  pub refuses-all-refuted : {s : Software} → Claims s refuses_all → ⊥
  pub never-split-refuted : {s : Software} → Claims s never_split → ⊥
  pub never-shared-refuted : {s : Software} → Claims s never_shared → ⊥
  -- by a fill in 65 parts
  pub few-entries-refuted : {s : Software} → Claims s few_entries → ⊥
  -- by the end entry's unused words
  pub packed-only-refuted : {s : Software} → Claims s packed_only → ⊥

pub against-rules : AgainstRules
unfolding of_header put_header fill_plan in_two in_one long_plan in_parts two_puts shared entries_by is_new CheckGroup.checker AplxPackGroup.image
against-rules = record {
  data-anywhere-refuted = accepts-refused data_anywhere put_header of_header (all-bytes put_header refl) refl refl;
  refuses-all-refuted = refuses-accepted refuses_all fill_plan in_one (all-bytes fill_plan refl) refl refl;
  never-split-refuted = refuses-accepted never_split fill_plan in_two (all-bytes fill_plan refl) refl refl;
  never-shared-refuted = refuses-accepted never_shared two_puts shared (all-bytes two_puts refl) refl refl;
  few-entries-refuted = refuses-accepted few_entries long_plan (in_parts 65 8192) (all-bytes long_plan refl) refl refl;
  packed-only-refuted = refuses-accepted packed_only fill_plan in_one (all-bytes fill_plan refl) refl refl;
}
