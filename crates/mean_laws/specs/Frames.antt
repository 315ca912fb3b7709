-- Which frames there are.
use Rattle.std.specs.Prelude.{◌≡◌, ◌<◌, ◌^◌, true, length}
use Rattle.cl_mean.specs.Source.{Source}
use Rattle.cl_mean.specs.Journal.{Said, says_stop, message, Frame, typ_of, kinds_at}
use Rattle.cl_mean.specs.LocalRun.{is_content}

-- what is said by a row that is there, whose tag has 32 bits, with a number of each kind of its payload
abbrev pub IsSaid : Source → Said → Type 0
IsSaid source says_stop = Unit {0}
IsSaid source (message k reply content) =
    (k < length source.rows) × (typ_of k reply < 2 ^ 32)
    × (is_content (kinds_at source source.rows k reply) content ≡ true)

-- a frame of a source: its turn has 64 bits
abbrev pub IsFrameOf : Source → Frame → Type 0
IsFrameOf source f = (f.turn < 2 ^ 64) × IsSaid source f.said
