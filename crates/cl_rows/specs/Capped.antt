-- Numbers of integers as the code keeps them: beyond all limits, but for how far.
use Rattle.std.specs.Prelude.{ℕ, ◌^◌, min}

-- a number that is greater than every limit, and whose square fits 64 bits
abbrev pub most : ℕ
most = 2 ^ 31

abbrev pub capped : ℕ → ℕ
capped n = min most n
