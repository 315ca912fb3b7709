-- What stands in a part stands in the whole.
use Rattle.std.proofs.Common.{refl}
use Rattle.cl_tree.specs.declared.tree.Expr.{Expr}
use Rattle.cl_tree.specs.declared.tree.Node.{out-Node}
use Rattle.cl_tree.specs.declared.tree.Stmt.{Stmt}
use Rattle.cl_tree.specs.declared.tree.Act.{out-Act}
use Rattle.cl_tree.specs.declared.tree.Item.{Item}
use Rattle.cl_tree.specs.declared.tree.Item.TheVariants as item
use Rattle.cl_tree.specs.declared.tree.Program.{Program}
use Rattle.cl_typing.specs.Scope.{Env}
use Rattle.typing_laws.specs.Standing.{Level, ItemStands, Spot, PartOf, StandsIn, itself, in_part, ChildOf, Inside, whole, in_child, Evaluates, BodyHas, InBody, ItemEvaluates, StmtStands, Stands}

further : (s : Stmt) (spot : Spot) (u : Stmt) (at : Spot) → StandsIn s spot u at → (t : Stmt) (there : Spot) → PartOf (out-Act s.node) spot t there → StandsIn t there u at
further s spot u at itself t there p = in_part t there p itself
further s spot u at (in_part part inner q i) t there p = in_part part inner q (further s spot part inner i t there p)

deeper : (x e : Expr) → Inside x e → (y : Expr) → ChildOf (out-Node x.node) y → Inside y e
deeper x e whole y c = in_child y c whole
deeper x e (in_child child d i) y c = in_child child d (deeper x child i y c)

pub outermost_stands : (program : Program) (i : Item) (level : Level) → ItemStands program i level → (s : Stmt) (spot : Spot) → BodyHas i level.names s spot → StmtStands program i level s spot
outermost_stands program i level h s spot b = record { stands = h; within = record { outermost = s; spot = spot; among = b; stands = itself } }

pub part_stands : (program : Program) (i : Item) (level : Level) (s : Stmt) (spot : Spot) → StmtStands program i level s spot → (t : Stmt) (there : Spot) → PartOf (out-Act s.node) spot t there → StmtStands program i level t there
part_stands program i level s spot h t there p =
    let w = h.within in
    record {
      stands = h.stands;
      within = record { outermost = w.outermost; spot = w.spot; among = w.among; stands = further s spot w.outermost w.spot w.stands t there p };
    }

pub item_evaluates : (program : Program) (i : Item) (level : Level) → ItemStands program i level → (x : Expr) (there : Env) → ItemEvaluates i level.names x there → Stands program level.tags there x
item_evaluates program i level h x there v =
    record { item = i; level = level; stands = h; tags_are = refl; root = x; evaluates = v; inside = whole }

of_body : (i : Item) (names : Env) (s : Stmt) (spot : Spot) → InBody i names s spot → (x : Expr) (there : Env) → Evaluates (out-Act s.node) spot x there → ItemEvaluates i names x there
of_body (item.Struct name members line) names s spot b x there v = (s, spot, b, v)
of_body (item.Variables d) names s spot b x there v = absurd b.among
of_body (item.Function is_static result name void_word params body line second) names s spot b x there v = (s, spot, b, v)
of_body (item.Cle p line) names s spot b x there v = (s, spot, b, v)

pub statement_evaluates : (program : Program) (i : Item) (level : Level) (s : Stmt) (spot : Spot) → StmtStands program i level s spot → (x : Expr) (there : Env) → Evaluates (out-Act s.node) spot x there → Stands program level.tags there x
statement_evaluates program i level s spot h x there v = item_evaluates program i level h.stands x there (of_body i level.names s spot h.within x there v)

pub operand_stands : (program : Program) (tags there : Env) (x : Expr) → Stands program tags there x → (y : Expr) → ChildOf (out-Node x.node) y → Stands program tags there y
operand_stands program tags there x h y c =
    record { item = h.item; level = h.level; stands = h.stands; tags_are = h.tags_are; root = h.root; evaluates = h.evaluates; inside = deeper x h.root h.inside y c }
