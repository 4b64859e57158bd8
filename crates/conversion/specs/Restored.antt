-- What the program `aplx_to_plan` writes for the image that it reads (paper 02, C-11). It takes images up to 65,536 bytes and writes plans up
-- to 32,768 bytes (a longer plan is refusal 10, place the piece count), so that what it writes can be packed and compared. A refused image
-- gives only the line `refused N at P` and a newline. An input longer than 65,536 bytes gets one line on standard error and nothing on
-- standard output, since no number of the table is its cause.
use Rattle.std.specs.Prelude.{◌≡◌, List, ℕ, ◌≤◌, Option, Result, Ok, Err, ltb, length, if◌then◌else◌}
use Rattle.std.specs.Io.KnownBytes.{Consumes}
use Rattle.file_bytes.specs.Counts.{IsPrefixLen}
use Rattle.words.specs.Store.{store}
use Rattle.aplx_read.specs.ReadBack.{read_back}
use Rattle.text.specs.Refusal.{fitting}
use Rattle.conversion.specs.declared.read_back.ImageTooLong.{ImageTooLong}
use Rattle.conversion.specs.Shown.{shown}

-- what is written to an output
pub data Restored : Type 0 where
  bytes : List ℕ → Restored  -- these, at its front
  nothing : Restored  -- the image is too long

-- for an image, to an output of n bytes: its plan or the line of its refusal, all or none of it where it does not fit
unfoldable pub restored : List ℕ → ℕ → Restored
restored image n = if ltb 65536 (length image) then nothing else bytes (fitting (shown (read_back image n)) n)

-- what is answered
abbrev pub answer_of : Restored → Result ℕ ImageTooLong
answer_of (bytes d) = Ok (length d)
answer_of nothing = Err (record {})

-- and what is left of an output m
abbrev pub output_of : Restored → List ℕ → List ℕ
output_of (bytes d) m = store m 0 d
output_of nothing m = m

-- the bytes that are answered lie in an output m
abbrev pub Inside : Result ℕ ImageTooLong → List ℕ → Type 0
Inside (Ok size) m = IsPrefixLen size m
Inside (Err e) m = Unit {0}

-- what is answered and left for the image in a file: r, and last of an output m of 32,768 bytes. The image is what was read: the bytes that
-- a reader had before and no longer has after, where it says which these are, as a file or standard input does not. Of a longer input one byte
-- past the limit is read at most
pub record FromImageFile (before after : Option (List ℕ)) (m : List ℕ) (r : Result ℕ ImageTooLong) (last : List ℕ) : Type 0 where
  pub image : List ℕ
  pub taken : Consumes before after image
  pub read : length image ≤ 65537
  pub answer-is : r ≡ answer_of (restored image 32768)
  pub output-is : last ≡ output_of (restored image 32768) m
