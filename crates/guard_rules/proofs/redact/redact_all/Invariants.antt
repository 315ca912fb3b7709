use Rattle.std.proofs.Common.{◌≡◌, ◌++◌, ◌&&◌, drop}
use Rattle.std.specs.List.{flat_map, list_all}
use Rattle.guard_rules.specs.Policy.{field_fits, is_path, patches_of, payload}
use Rattle.guard_rules.proofs.redact.redact_all.Given as goal

abbrev pub invariant-loop-field : goal.invariant-loop-field
invariant-loop-field l = record {
  kept : l.paths ≡ l.initial.paths;
  named : list_all (is_path (payload l.initial.paths l.sent.function l.sent.reply)) (drop l.field-index l.fields) ≡ list_all (is_path (payload l.initial.paths l.sent.function l.sent.reply)) l.fields;
  added : l.patches ++ flat_map (patches_of (payload l.initial.paths l.sent.function l.sent.reply)) (drop l.field-index l.fields) ≡ flat_map (patches_of (payload l.initial.paths l.sent.function l.sent.reply)) l.fields;
  within : (l.fits && list_all (field_fits (payload l.initial.paths l.sent.function l.sent.reply)) (drop l.field-index l.fields)) ≡ list_all (field_fits (payload l.initial.paths l.sent.function l.sent.reply)) l.fields;
}
