use Rattle.std.proofs.Common.{rules, append_assoc}
use Rattle.cl_plain.proofs.ItemParts.{function_spelling, struct_spelling}
use Rattle.cl_plain.proofs.items.write_item.Goals as goal

pub returns-in_ok-write_mark-in-Struct-2 : goal.returns-in_ok-write_mark-in-Struct-2
returns-in_ok-write_mark-in-Struct-2 c =
    let e = struct_spelling c.args.item.now c.in-Struct.name c.in-Struct.members c.in-Struct.line c.in-Struct.is in rw e (search (rules, append_assoc))

pub returns-in_ok-write_named-in-Function : goal.returns-in_ok-write_named-in-Function
returns-in_ok-write_named-in-Function c =
    let e = function_spelling c.args.item.now c.in-Function.is_static c.in-Function.returned c.in-Function.name c.in-Function.void_word c.in-Function.params c.in-Function.body c.in-Function.line c.in-Function.second c.in-Function.is in
    rw e (search (rules, append_assoc))
