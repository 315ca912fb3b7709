use Rattle.std.proofs.Common.{◌≡◌, map, length, string_bytes}
use Rattle.cl_words.specs.Settings.{settings, value_of}
use Rattle.cl_words.proofs.settings.value_of.Given as goal

abbrev pub invariant-loop-first : goal.invariant-loop-first
invariant-loop-first l =
    value_of l.name (settings (map string_bytes l.words)) ≡ value_of l.name (settings (map string_bytes l.initial.words))

abbrev pub decreases-loop-first : goal.decreases-loop-first
decreases-loop-first l = length (map string_bytes l.words)
