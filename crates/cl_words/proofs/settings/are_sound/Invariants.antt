use Rattle.std.proofs.Common.{◌≡◌, map, length, string_bytes}
use Rattle.cl_words.specs.Settings.{settings, are_sound}
use Rattle.cl_words.proofs.settings.are_sound.Given as goal

abbrev pub invariant-loop-first : goal.invariant-loop-first
invariant-loop-first l =
    are_sound (settings (map string_bytes l.words)) ≡ are_sound (settings (map string_bytes l.initial.words))

abbrev pub decreases-loop-first : goal.decreases-loop-first
decreases-loop-first l = length (map string_bytes l.words)
