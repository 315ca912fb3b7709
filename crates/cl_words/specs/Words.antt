-- How the words of the command line are read.
use Rattle.std.specs.Prelude.{List, [], ◌∷◌, Option, Some, None, option_map, codes, bytes_eq, if◌then◌else◌}
use Rattle.cl_words.specs.Settings.{Word, is_argument, settings, others, value_of, are_sound}

-- a run that the words ask for: the path of its source, and of its journal if it is to be kept
pub record RunAsked : Type 0 where
  pub source : Word
  pub journal : Option Word

-- what words ask for: whether the source at a path is accepted, or a run
pub data Asked : Type 0 where
  Check : Word → Asked
  Run : RunAsked → Asked

-- the path of the source
abbrev pub path_of : Asked → Word
path_of (Check source) = source
path_of (Run run) = run.source

-- the path that stands alone in some words
abbrev pub only_path : List Word → Option Word
only_path (path ∷ []) = if is_argument path then Some path else None
only_path _ = None

-- behind `check` stands the path of the source alone
abbrev pub check_read : List Word → Option Asked
check_read words = option_map (λ source. Check source) (only_path words)

-- behind `run` stand its options, and behind them the path of the source alone
unfoldable pub run_read : List Word → Option Asked
run_read words =
    if are_sound (settings words) then
    option_map (λ source. Run (record { source = source; journal = value_of (codes "--journal") (settings words) })) (only_path (others words))
    else None

-- `check` and `run`, each with its words, have a reading, and no other words have one
abbrev pub asked : List Word → Option Asked
asked [] = None
asked (command ∷ rest) =
    if bytes_eq command (codes "check") then check_read rest
    else if bytes_eq command (codes "run") then run_read rest
    else None
