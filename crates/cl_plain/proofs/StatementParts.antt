-- A statement, one level at a time.
use Rattle.std.proofs.Common.{◌≡◌, ℕ, [], ◌∷◌, ◌++◌, ◌&&◌, not, Option, Some, None, Bool, true, false, refl, ap, sym, ◌∙◌}
use Rattle.std.proofs.lemmas.List.{append-nil}
use Rattle.cl_tree.specs.declared.tree.Expr.{Expr}
use Rattle.cl_tree.specs.declared.tree.Stmt.{Stmt, fold_out-Stmt}
use Rattle.cl_tree.specs.declared.tree.Act.{Act, Act-F, out-Act, map-Act, fold-Act, fold_out-Act}
use Rattle.cl_tree.specs.declared.tree.Act.TheVariants.{If, While, DoWhile, For, Return, Break, Continue, outs-If, outs-While, outs-DoWhile, outs-For, outs-Return, outs-Break, outs-Continue}
use Rattle.cl_tree.specs.declared.token.Mark.TheVariants as mark
use Rattle.cl_tree.specs.declared.grammar.Keyword.TheVariants as key
use Rattle.cl_tree.specs.Spelling.{Spelling, shape, put_key, key_on, put_mark}
use Rattle.cl_tree.specs.Statements.{StmtShape, act_step, stmt_shape}
use Rattle.cl_plain.specs.Parts.{first_part, test_part, next_part, else_part}

abbrev Waiting : Type 0
Waiting = ℕ → ℕ → StmtShape

abbrev parts : Act-F Act Stmt → Act-F Waiting StmtShape
parts = map-Act Act Stmt Waiting StmtShape (fold-Act Waiting StmtShape act_step (λ s. s.node s.line s.second)) stmt_shape

shape_is : (s : Stmt) → stmt_shape s ≡ act_step (parts (out-Act s.node)) s.line s.second
unfolding stmt_shape
shape_is s =
    fold_out-Stmt Waiting StmtShape act_step (λ s. s.node s.line s.second) s ∙ ap (λ (w : Waiting). w s.line s.second) (fold_out-Act Waiting StmtShape act_step (λ s. s.node s.line s.second) s.node)

is_at : (s : Stmt) (n : Act) (x : Act-F Act Stmt) → s.node ≡ n → out-Act n ≡ x → stmt_shape s ≡ act_step (parts x) s.line s.second
is_at s n x h o =
    shape_is s ∙ ap (λ (m : Act). act_step (parts (out-Act m)) s.line s.second) h ∙ ap (λ (y : Act-F Act Stmt). act_step (parts y) s.line s.second) o

at_node : (s : Stmt) (n : Act) (x : Act-F Act Stmt) → s.node ≡ n → out-Act n ≡ x → (stmt_shape s).spelling ≡ (act_step (parts x) s.line s.second).spelling
at_node s n x h o = ap (λ (y : StmtShape). y.spelling) (is_at s n x h o)

pub if_spelling : (s : Stmt) (c : Expr) (a : Stmt) (b : Option Stmt) → s.node ≡ If c a b
    → (stmt_shape s).spelling ≡ key_on (s.line ∷ s.second ∷ []) key.If (put_mark mark.OpenParen ((shape c).spelling ++ put_mark mark.CloseParen ((stmt_shape a).spelling ++ else_part b)))
unfolding else_part
if_spelling s c a None h =
    at_node s _ _ h (outs-If c a None) ∙ ap (λ (r : Spelling). key_on (s.line ∷ s.second ∷ []) key.If (put_mark mark.OpenParen ((shape c).spelling ++ put_mark mark.CloseParen r))) (sym (append-nil (stmt_shape a).spelling))
if_spelling s c a (Some b) h = at_node s _ _ h (outs-If c a (Some b))

pub while_spelling : (s : Stmt) (c : Expr) (a : Stmt) → s.node ≡ While c a
    → (stmt_shape s).spelling ≡ key_on (s.line ∷ s.second ∷ []) key.While (put_mark mark.OpenParen ((shape c).spelling ++ put_mark mark.CloseParen (stmt_shape a).spelling))
while_spelling s c a h = at_node s _ _ h (outs-While c a)

pub do_spelling : (s a : Stmt) (c : Expr) → s.node ≡ DoWhile a c
    → (stmt_shape s).spelling ≡ key_on (s.line ∷ s.second ∷ []) key.Do ((stmt_shape a).spelling ++ put_key key.While (put_mark mark.OpenParen ((shape c).spelling ++ put_mark mark.CloseParen (put_mark mark.Semicolon []))))
do_spelling s a c h = at_node s _ _ h (outs-DoWhile a c)

pub for_spelling : (s : Stmt) (first : Option Stmt) (test : Option Expr) (next : Option Stmt) (body : Stmt) → s.node ≡ For first test next body
    → (stmt_shape s).spelling ≡ key_on (s.line ∷ s.second ∷ []) key.For (put_mark mark.OpenParen (first_part first ++ (test_part test ++ put_mark mark.Semicolon (next_part next ++ put_mark mark.CloseParen (stmt_shape body).spelling))))
unfolding first_part test_part next_part
for_spelling s None test None body h = at_node s _ _ h (outs-For None test None body)
for_spelling s None test (Some b) body h = at_node s _ _ h (outs-For None test (Some b) body)
for_spelling s (Some a) test None body h = at_node s _ _ h (outs-For (Some a) test None body)
for_spelling s (Some a) test (Some b) body h = at_node s _ _ h (outs-For (Some a) test (Some b) body)

pub return_spelling : (s : Stmt) (e : Option Expr) → s.node ≡ Return e → (stmt_shape s).spelling ≡ key_on (s.line ∷ s.second ∷ []) key.Return (test_part e ++ put_mark mark.Semicolon [])
unfolding test_part
return_spelling s None h = at_node s _ _ h (outs-Return None)
return_spelling s (Some e) h = at_node s _ _ h (outs-Return (Some e))

pub break_spelling : (s : Stmt) → s.node ≡ Break → (stmt_shape s).spelling ≡ key_on (s.line ∷ s.second ∷ []) key.Break (put_mark mark.Semicolon [])
break_spelling s h = at_node s _ _ h outs-Break

pub continue_spelling : (s : Stmt) → s.node ≡ Continue → (stmt_shape s).spelling ≡ key_on (s.line ∷ s.second ∷ []) key.Continue (put_mark mark.Semicolon [])
continue_spelling s h = at_node s _ _ h outs-Continue

and_false : (b c d : Bool) → c ≡ true → (b && (not c && d)) ≡ false
and_false true true d h = refl
and_false false c d h = refl
and_false true false d h = absurd (cc)

pub if_dangling : (s : Stmt) (c : Expr) (a : Stmt) → s.node ≡ If c a None → (stmt_shape s).dangling ≡ true
if_dangling s c a h = ap (λ (y : StmtShape). y.dangling) (is_at s _ _ h (outs-If c a None))

-- what ends in an `if` without `else` stands before no `else`
pub else_proper : (s : Stmt) (c : Expr) (a b : Stmt) → s.node ≡ If c a (Some b) → (stmt_shape a).dangling ≡ true → (stmt_shape s).proper ≡ false
else_proper s c a b h k =
    ap (λ (y : StmtShape). y.proper) (is_at s _ _ h (outs-If c a (Some b))) ∙ and_false (shape c).proper (stmt_shape a).dangling _ k
