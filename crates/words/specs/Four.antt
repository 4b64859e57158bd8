-- Four Little Endian words, one after the other: an APLX entry, a piece of a plan, a region of a table.
use Rattle.std.specs.Prelude.{List, ◌++◌, ℕ, ◌+◌}
use Rattle.words.specs.declared.four.Four.{Four}
use Rattle.words.specs.Bytes.{little_endian, little_endian_at}

-- those at place p
abbrev pub four_at : List ℕ → ℕ → Four
four_at s p =
    record {
      first = little_endian_at 4 s p;
      second = little_endian_at 4 s (p + 4);
      third = little_endian_at 4 s (p + 8);
      fourth = little_endian_at 4 s (p + 12);
    }

-- their bytes
unfoldable pub four_bytes : ℕ → ℕ → ℕ → ℕ → List ℕ
four_bytes a b c d = little_endian 4 a ++ (little_endian 4 b ++ (little_endian 4 c ++ little_endian 4 d))
