-- What a Start may declare, and the sizes of its blocks (paper 02, C-14).
use Rattle.std.specs.Prelude.{Bool, ◌&&◌, ℕ, suc, ◌*◌, leb, eqb, if◌then◌else◌}

-- "the block count less 1 (1 to 256 blocks) and the block size, 1 to 256 words, count times size at most 8,192"
abbrev pub within_limits : ℕ → ℕ → Bool
within_limits count size = leb 1 count && leb count 256 && leb 1 size && leb size 256 && leb (count * size) 8192

-- "Every block has that size, only the last may be shorter, at least 1": of `count` blocks whose full size is `full`, block b with n words
abbrev pub right_size : ℕ → ℕ → ℕ → ℕ → Bool
right_size count full b n = leb 1 n && (if eqb (suc b) count then leb n full else eqb n full)
