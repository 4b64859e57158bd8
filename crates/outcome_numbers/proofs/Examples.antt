-- Computed examples of outcomes as numbers: refusal, place, event, kind, address, resume, items, bytes.
use Rattle.std.specs.Prelude.{◌≡◌, refl, true, false, [], ◌∷◌}
use Rattle.outcome.specs.Outcome as load
use Rattle.outcome.specs.Outcome.{arm, thumb, end, unknown, run}
use Rattle.plan.specs.Code as read
use Rattle.plan.specs.Packed as packed
use Rattle.scp.specs.Answer as scp
use Rattle.flood_fill.specs.Answer as flood
use Rattle.compare.specs.Code as compare
use Rattle.compare.specs.Compare.{neither, old_plan, new_plan}
use Rattle.outcome_numbers.specs.Numbers.{load_numbers, read_numbers, pack_numbers, reply_numbers, message_numbers, compared_numbers}

record Loads : Type 0 where
  pub refusal : load_numbers (load.refused 4 7) ≡ 4 ∷ 7 ∷ 0 ∷ 0 ∷ 0 ∷ 0 ∷ 0 ∷ 0 ∷ []
  pub at-end : load_numbers (load.accepted (end 3) 2 64) ≡ 0 ∷ 3 ∷ 1 ∷ 0 ∷ 0 ∷ 0 ∷ 2 ∷ 64 ∷ []
  pub at-unknown : load_numbers (load.accepted (unknown 9 3) 2 64) ≡ 0 ∷ 3 ∷ 2 ∷ 0 ∷ 9 ∷ 0 ∷ 2 ∷ 64 ∷ []
  pub at-arm : load_numbers (load.accepted (run arm 4096 16) 2 64) ≡ 0 ∷ 0 ∷ 3 ∷ 1 ∷ 4096 ∷ 16 ∷ 2 ∷ 64 ∷ []
  pub at-thumb : load_numbers (load.accepted (run thumb 4097 16) 2 64) ≡ 0 ∷ 0 ∷ 3 ∷ 2 ∷ 4097 ∷ 16 ∷ 2 ∷ 64 ∷ []

loads : Loads
loads = record { refusal = refl; at-end = refl; at-unknown = refl; at-arm = refl; at-thumb = refl }

record Replies : Type 0 where
  pub no-map : reply_numbers (scp.refused 1 0) ≡ 1 ∷ 0 ∷ 0 ∷ 0 ∷ 0 ∷ 0 ∷ 0 ∷ 0 ∷ []
  pub no_room : reply_numbers (scp.refused 10 0) ≡ 10 ∷ 0 ∷ 0 ∷ 0 ∷ 0 ∷ 0 ∷ 0 ∷ 272 ∷ []
  pub none : reply_numbers scp.silent ≡ 0 ∷ 0 ∷ 6 ∷ 0 ∷ 0 ∷ 0 ∷ 0 ∷ 0 ∷ []
  pub response : reply_numbers (scp.responds 31) ≡ 0 ∷ 0 ∷ 5 ∷ 0 ∷ 0 ∷ 0 ∷ 0 ∷ 31 ∷ []
  pub run-arm : reply_numbers (scp.runs arm 4096) ≡ 0 ∷ 0 ∷ 4 ∷ 1 ∷ 4096 ∷ 0 ∷ 0 ∷ 0 ∷ []
  pub load-thumb : reply_numbers (scp.loads thumb 4097 16) ≡ 0 ∷ 0 ∷ 3 ∷ 2 ∷ 4097 ∷ 16 ∷ 0 ∷ 0 ∷ []

replies : Replies
replies = record { no-map = refl; no_room = refl; none = refl; response = refl; run-arm = refl; load-thumb = refl }

record Plans : Type 0 where
  pub not-read : read_numbers (read.refuses 11 2) ≡ 11 ∷ 2 ∷ 0 ∷ 0 ∷ 0 ∷ 0 ∷ 0 ∷ 0 ∷ []
  pub read_whole : read_numbers (read.reads 5 64 32) ≡ 0 ∷ 0 ∷ 7 ∷ 0 ∷ 0 ∷ 0 ∷ 5 ∷ 0 ∷ []
  pub not-packed : pack_numbers 0 (packed.refusal 11 2) ≡ 11 ∷ 2 ∷ 0 ∷ 0 ∷ 0 ∷ 0 ∷ 0 ∷ 0 ∷ []
  pub no_room : pack_numbers 80 (packed.refusal 10 2) ≡ 10 ∷ 2 ∷ 0 ∷ 0 ∷ 0 ∷ 0 ∷ 0 ∷ 80 ∷ []
  pub packed-whole : pack_numbers 48 (packed.sized 48) ≡ 0 ∷ 0 ∷ 8 ∷ 0 ∷ 0 ∷ 0 ∷ 0 ∷ 48 ∷ []

plans : Plans
plans = record { not-read = refl; read_whole = refl; not-packed = refl; no_room = refl; packed-whole = refl }

record Messages : Type 0 where
  pub too_short : message_numbers (flood.refused 24 0) ≡ 24 ∷ 0 ∷ 0 ∷ 0 ∷ 0 ∷ 0 ∷ 0 ∷ 0 ∷ []
  pub kept : message_numbers flood.accepted ≡ 0 ∷ 0 ∷ 9 ∷ 0 ∷ 0 ∷ 0 ∷ 0 ∷ 0 ∷ []
  pub not-kept : message_numbers flood.ignored ≡ 0 ∷ 0 ∷ 10 ∷ 0 ∷ 0 ∷ 0 ∷ 0 ∷ 0 ∷ []
  -- 5 words are missing, of which word 3 is the lowest
  pub lacks : message_numbers (flood.missing 5 3) ≡ 0 ∷ 3 ∷ 11 ∷ 0 ∷ 0 ∷ 0 ∷ 5 ∷ 0 ∷ []
  pub complete : message_numbers flood.done ≡ 0 ∷ 0 ∷ 12 ∷ 0 ∷ 0 ∷ 0 ∷ 0 ∷ 0 ∷ []

messages : Messages
messages = record { too_short = refl; kept = refl; not-kept = refl; lacks = refl; complete = refl }

record Comparisons : Type 0 where
  pub no_room : compared_numbers 0 (compare.refusal neither 10 0) ≡ 10 ∷ 0 ∷ 0 ∷ 0 ∷ 0 ∷ 0 ∷ 0 ∷ 8192 ∷ []
  pub too_many : compared_numbers 0 (compare.refusal neither 18 512) ≡ 18 ∷ 512 ∷ 0 ∷ 0 ∷ 0 ∷ 0 ∷ 0 ∷ 0 ∷ []
  pub old-refused : compared_numbers 0 (compare.refusal old_plan 19 3) ≡ 19 ∷ 3 ∷ 0 ∷ 1 ∷ 0 ∷ 0 ∷ 0 ∷ 0 ∷ []
  pub new-refused : compared_numbers 0 (compare.refusal new_plan 2 0) ≡ 2 ∷ 0 ∷ 0 ∷ 2 ∷ 0 ∷ 0 ∷ 0 ∷ 0 ∷ []
  pub same-run : compared_numbers 48 (compare.found 3 true) ≡ 0 ∷ 0 ∷ 13 ∷ 0 ∷ 0 ∷ 0 ∷ 3 ∷ 48 ∷ []
  pub other-run : compared_numbers 0 (compare.found 0 false) ≡ 0 ∷ 0 ∷ 14 ∷ 0 ∷ 0 ∷ 0 ∷ 0 ∷ 0 ∷ []

comparisons : Comparisons
comparisons = record { no_room = refl; too_many = refl; old-refused = refl; new-refused = refl; same-run = refl; other-run = refl }
