use Rattle.std.proofs.Common.{◌≡◌, map, length, string_bytes}
use Rattle.cl_words.specs.Settings.{others}
use Rattle.cl_words.proofs.settings.others.Given as goal

abbrev pub invariant-loop-first : goal.invariant-loop-first
invariant-loop-first l = others (map string_bytes l.words) ≡ others (map string_bytes l.initial.words)

abbrev pub decreases-loop-first : goal.decreases-loop-first
decreases-loop-first l = length (map string_bytes l.words)
