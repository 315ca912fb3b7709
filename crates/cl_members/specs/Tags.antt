-- How the table of structs keeps them.
use Rattle.std.specs.Prelude.{◌≡◌, List, map, reverse}
use Rattle.cl_tree.specs.Words.{Word}
use Rattle.cl_typing.specs.Scope.{Binding, binding, structure, Env}
use Rattle.cl_scope.specs.declared.latest.Latest.{Latest}
use Rattle.cl_members.specs.declared.tags.Tag.{Tag}
use Rattle.cl_scope.specs.Table.{place_in, place_at}

abbrev pub tag_binding : Tag → Binding
tag_binding t = binding t.name.now (structure t.fields)

-- the bindings of structs, of which the latest is the last
unfoldable pub tags_in : List Tag → Env
tags_in tags = map tag_binding (reverse tags)

abbrev pub IsTagged : List Tag → Latest → Type 0
IsTagged tags latest = (name : Word) → place_at latest name ≡ place_in (tags_in tags) name
