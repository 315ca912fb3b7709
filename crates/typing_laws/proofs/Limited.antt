-- Programs of which the rule of sizes holds.
use Rattle.std.proofs.Common.{◌≡◌, ◌≤◌, List, [], length, arith, true, false}
use Rattle.cl_tree.specs.declared.tree.Declarator.{Declarator}
use Rattle.cl_tree.specs.declared.tree.Declaration.{Declaration}
use Rattle.cl_tree.specs.declared.tree.Stmt.{Stmt}
use Rattle.cl_tree.specs.declared.tree.Act.{out-Act}
use Rattle.cl_tree.specs.declared.tree.Act.TheOpen as act
use Rattle.cl_tree.specs.declared.tree.Item.{Item}
use Rattle.cl_tree.specs.declared.tree.Program.{Program}
use Rattle.cl_mean.specs.Source.{item_statics}
use Rattle.cl_typing.specs.Rules.{AllHold}
use Rattle.cl_typing.specs.Scope.{Env}
use Rattle.cl_typing.specs.Sizes.{Size, size_of, stmt_locals}
use Rattle.cl_typing.specs.Facts.{functions_of, objects_of}
use Rattle.cl_typing.specs.Typing.{rules}
use Rattle.typing_laws.specs.Standing.{OneOf, Spot, InBody}
use Rattle.typing_laws.specs.Sized.{HasSizes, BodyWithin, body_params, integers_from, structs_among, defs_among}
use Rattle.typing_laws.proofs.Counted.{object_small, in_body_counts, static_counted, local_sized, param_one, local_one, body_within}
use Rattle.typing_laws.proofs.Weights.{each_small, integers_small, objects_small, functions_small, structs_small, defs_small}

module _ (program : Program) (h : AllHold (rules program)) where
  module _ (i : Item) (sizes : List Size) (has : HasSizes program i sizes) where
    pub objects_each : (d : Declarator) → OneOf (item_statics i) d → size_of sizes d.ctype ≤ 65536
    objects_each d o = each_small program h.1.1.1.1.1.0 i sizes has d o

    pub static_locals : (names : Env) (s : Stmt) (spot : Spot) → InBody i names s spot → (d : Declaration) → out-Act s.node ≡ act.Declare d → d.is_static ≡ true → (name : Declarator) → OneOf d.names name → size_of sizes name.ctype ≤ 65536
    static_locals names s spot b d p q name o =
        object_small program h.1.1.1.1.1.0 i sizes has name.second (size_of sizes name.ctype)
        (in_body_counts sizes i names s spot b _ (static_counted sizes s d p q name o))

    pub bodies : BodyWithin sizes 8192 i
    bodies = body_within program h.1.1.1.1.1.0 i sizes has

    pub params : (d : Declarator) → OneOf (body_params i) d → size_of sizes d.ctype ≤ 8192
    params d o = param_one sizes i 8192 bodies d o

    pub locals : (names : Env) (s : Stmt) (spot : Spot) → InBody i names s spot → (d : Declaration) → out-Act s.node ≡ act.Declare d → d.is_static ≡ false → (name : Declarator) → OneOf d.names name → size_of sizes name.ctype ≤ 8192
    locals names s spot b d p q name o =
        let x : stmt_locals sizes s ≤ 8192 = local_one sizes i names s spot b 8192 bodies in
        let y : size_of sizes name.ctype ≤ stmt_locals sizes s = local_sized sizes s d p q name o in
        omega arith

  pub all_integers : integers_from [] program.items ≤ 1048576
  all_integers = integers_small program h.1.1.1.1.1.0

  pub all_objects : length (objects_of program) ≤ 4096
  all_objects = objects_small program h.1.1.1.1.1.0

  pub all_functions : length (functions_of program) ≤ 4096
  all_functions = functions_small program h.1.1.1.1.1.0

  pub all_structs : structs_among program.items ≤ 256
  all_structs = structs_small program h.1.1.1.1.1.0

  pub all_defs : defs_among program.items ≤ 1024
  all_defs = defs_small program h.1.1.1.1.1.0
