-- Computed examples of what entries command (paper 01, "APLX" and "Bench pieces with known weight"): at address 4096, with these four words.
use Rattle.std.specs.Prelude.{◌≡◌, refl}
use Rattle.words.specs.Round.{round_up}
use Rattle.aplx_command.specs.Command.{copy, fill, exec, other, command_of}

record Commands : Type 0 where
  -- destination, source, length
  pub acopy : command_of 4096 1 8192 4128 32 ≡ copy 8192 4128 32
  -- the source is the entry's address and the offset; one before the entry is a large offset
  pub rcopy : command_of 4096 2 8192 64 32 ≡ copy 8192 4160 32
  pub rcopy-back : command_of 4096 2 8192 0xffffffe0 32 ≡ copy 8192 4064 32
  -- start, length, word
  pub filling : command_of 4096 3 8192 32 9 ≡ fill 8192 32 9
  -- lengths round up to a multiple of 32
  pub one : command_of 4096 3 8192 1 9 ≡ fill 8192 32 9
  pub over : command_of 4096 1 8192 4128 33 ≡ copy 8192 4128 64
  pub none : command_of 4096 3 8192 0 9 ≡ fill 8192 0 9
  pub longest : command_of 4096 3 8192 0xffffffff 9 ≡ fill 8192 4294967296 9
  pub run : command_of 4096 4 8193 7 7 ≡ exec 8193
  pub end : command_of 4096 0xffffffff 0 0 0 ≡ other 0xffffffff

commands : Commands
unfolding command_of round_up
commands = record {
  acopy = refl;
  rcopy = refl;
  rcopy-back = refl;
  filling = refl;
  one = refl;
  over = refl;
  none = refl;
  longest = refl;
  run = refl;
  end = refl;
}
