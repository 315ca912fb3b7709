-- Statements: what is read is spelled so, and what is spelled so is read.
use Rattle.std.proofs.Common.{◌≡◌, ℕ, zero, suc, ◌≤◌, List, [], ◌∷◌, ◌++◌, length, map, refl, subst, sym, ap, ◌∙◌, arith, Bool, true, false, not, ◌&&◌, cond, Option, Some, None, inl, inr, append_assoc}
use Rattle.std.proofs.lemmas.Bool.{le-leb}
use Rattle.std.specs.List.{flat_map}
use Rattle.std.specs.Option.{option_map}
use Rattle.std.proofs.lemmas.List.{append-nil}
use Rattle.cl_tree.specs.declared.kinds.BinOp.{BinOp}
use Rattle.cl_tree.specs.declared.token.Mark.{Mark}
use Rattle.cl_tree.specs.declared.token.Mark.TheVariants as mark
use Rattle.cl_tree.specs.declared.grammar.Keyword.{Keyword}
use Rattle.cl_tree.specs.declared.grammar.Keyword.TheVariants as key
use Rattle.cl_tree.specs.declared.grammar.Base.{Base}
use Rattle.cl_tree.specs.declared.grammar.Sign.{Sign}
use Rattle.cl_tree.specs.declared.grammar.Sign.TheVariants as sign
use Rattle.cl_tree.specs.declared.grammar.Terminal.{Terminal}
use Rattle.cl_tree.specs.declared.tree.Expr.{Expr}
use Rattle.cl_tree.specs.declared.tree.Node.{Node, Node-F, out-Node}
use Rattle.cl_tree.specs.declared.tree.Node.TheOpen as node
use Rattle.cl_tree.specs.declared.tree.Declarator.{Declarator}
use Rattle.cl_tree.specs.declared.tree.Declaration.{Declaration}
use Rattle.cl_tree.specs.declared.tree.Stmt.{Stmt, fold_out-Stmt}
use Rattle.cl_tree.specs.declared.tree.Act.{Act, Act-F, out-Act, roll-Act, roll-out-Act, map-Act, fold-Act, fold_out-Act}
use Rattle.cl_tree.specs.declared.tree.Act.TheOpen as act
use Rattle.cl_tree.specs.declared.tree.Act.TheVariants as made
use Rattle.cl_tree.specs.declared.tree.Act.TheVariants.{outs-Empty, outs-Block, outs-Set, outs-Bump, outs-Call, outs-If, outs-While, outs-DoWhile, outs-For, outs-Return, outs-Break, outs-Continue, outs-Declare, outs-Cle}
use Rattle.cl_tree.specs.Spelling.{Spelling, put_mark, put_key, mark_on, mark_at, key_on, first_on, Reads, node_step, shape}
use Rattle.cl_tree.specs.Statements.{Form, simple, declares, other, StmtShape, act_step, stmt_shape, assign_mark, assigns, bump_mark, is_call, before_semicolon, of_form, is_statement, is_simple, is_head, is_part, all_stmts, statements, head_first, head_test, head_next, is_first, is_test, is_next, declared, declaration, is_declaration}
use Rattle.cl_parse_expr.specs.declared.cursor.Fixed.{Fixed}
use Rattle.cl_parse_expr.specs.declared.cursor.Fixed.TheVariants as fixed
use Rattle.cl_parse_expr.specs.Cursor.{◌>>=◌, Terminals, after, found, fixed_sign, is_fixed, line_of}
use Rattle.cl_parse_expr.specs.Types.{base_at}
use Rattle.cl_parse_expr.specs.Reading.{Reader, opening, close}
use Rattle.cl_parse_expr.proofs.Shapes.{shape_is, shaped}
use Rattle.cl_parse_expr.proofs.Marks.{some_is, and_intro, reads_append, fixed_self, found_sound, bind_some, found_ok}
use Rattle.cl_parse_expr.proofs.First.{begun}
use Rattle.cl_parse_expr.proofs.Sound.{Sound}
use Rattle.cl_parse_stmt.specs.declared.simple.Tail.{Tail}
use Rattle.cl_parse_stmt.specs.declared.simple.Tail.TheVariants as tail
use Rattle.cl_parse_stmt.specs.declared.stmt.Head.{Head}
use Rattle.cl_parse_stmt.specs.declared.stmt.Head.TheVariants as head
use Rattle.cl_parse_stmt.specs.Declaring.{InitReader, open_brace, close_brace, semicolon, names_of, declared_as, declaration_from}
use Rattle.cl_parse_stmt.specs.Stating.{StmtReader, stmt, mark_tail, tail_of, tail_at, unary_node, is_unary, ended_by, from_place, bumped, simple_at, test_at, declare_at, declares_at, line_at, before, if_at, while_at, do_at, first_at, value_at, next_at, for_at, return_at, jump_at, sign_head, block_at, headed, stmt_of, listed_step, listed_of, stmt_at}
use Rattle.cl_parse_stmt.proofs.Declared.{InitSound, Named_all, names_sound, declared_plain, declared_static, static_key}

abbrev pub StmtShaper : Type 0
StmtShaper = ℕ → ℕ → StmtShape

abbrev pub stmt_shaped : Act-F Act Stmt → Act-F StmtShaper StmtShape
stmt_shaped = map-Act Act Stmt StmtShaper StmtShape (fold-Act StmtShaper StmtShape act_step (λ s. s.node s.line s.second)) stmt_shape

pub stmt_shape_is : (s : Stmt) → stmt_shape s ≡ act_step (stmt_shaped (out-Act s.node)) s.line s.second
unfolding stmt_shape
stmt_shape_is s = fold_out-Stmt StmtShaper StmtShape act_step (λ s. s.node s.line s.second) s ∙ ap (λ (f : StmtShaper). f s.line s.second) (fold_out-Act StmtShaper StmtShape act_step (λ s. s.node s.line s.second) s.node)

pub stmt_made : (l c : ℕ) (n : Act) (x : Act-F Act Stmt) → out-Act n ≡ x → stmt_shape (stmt l c n) ≡ act_step (stmt_shaped x) l c
stmt_made l c n x e = stmt_shape_is (stmt l c n) ∙ ap (λ (y : Act-F Act Stmt). act_step (stmt_shaped y) l c) e

pub stmt_open : (p : Stmt) (x : Act-F Act Stmt) → out-Act p.node ≡ x → stmt_shape p ≡ act_step (stmt_shaped x) p.line p.second
stmt_open p x e = stmt_shape_is p ∙ ap (λ (y : Act-F Act Stmt). act_step (stmt_shaped y) p.line p.second) e

pub stmt_is : (p : Stmt) (x : Act-F Act Stmt) (n : Act) → out-Act p.node ≡ x → roll-Act x ≡ n → stmt p.line p.second n ≡ p
stmt_is p x n e r = ap (λ (y : Act). stmt p.line p.second y) (sym r ∙ ap (λ (y : Act-F Act Stmt). roll-Act y) (sym e) ∙ roll-out-Act p.node)

-- ---- what is read is spelled so

abbrev pub else_key : Fixed
else_key = fixed.Key key.Else

abbrev pub NoElse : Terminals → Type 0
NoElse ts = after else_key ts ≡ None

-- a statement of any form
pub record Stated (p : Stmt) (ts rest : Terminals) : Type 0 where
  pub reads : Reads (stmt_shape p).spelling ts rest
  pub proper : (stmt_shape p).proper ≡ true
  pub closed : (stmt_shape p).dangling ≡ true → NoElse rest

-- a statement of the grammar
pub record Part (p : Stmt) (ts rest : Terminals) : Type 0 where
  pub stated : Stated p ts rest
  pub form : is_statement (stmt_shape p).form ≡ true

-- what stands before a `;`
pub record Lined (form : Form) (p : Stmt) (ts rest : Terminals) : Type 0 where
  pub bare : Spelling
  pub is : stmt_shape p ≡ before_semicolon form bare true
  pub reads : Reads bare ts rest

abbrev pub StmtSound : StmtReader → Type 0
StmtSound S = (ts : Terminals) (x : Stmt × Terminals) → S ts ≡ Some x → Part x.0 ts x.1

abbrev pub ListedSound : StmtReader → Type 0
ListedSound L = (ts : Terminals) (x : Stmt × Terminals) → L ts ≡ Some x → Stated x.0 ts x.1

never : (ts : Terminals) → false ≡ true → NoElse ts
never ts e = cc

part_made : (l c : ℕ) (n : Act) (x : Act-F Act Stmt) (ts rest : Terminals) → out-Act n ≡ x → Reads (act_step (stmt_shaped x) l c).spelling ts rest → (act_step (stmt_shaped x) l c).proper ≡ true → is_statement (act_step (stmt_shaped x) l c).form ≡ true → ((act_step (stmt_shaped x) l c).dangling ≡ true → NoElse rest) → Part (stmt l c n) ts rest
part_made l c n x ts rest o r p f q =
    let e = stmt_made l c n x o in
    record {
      stated = record {
        reads = subst (λ (y : StmtShape). Reads y.spelling ts rest) (sym e) r;
        proper = subst (λ (y : StmtShape). y.proper ≡ true) (sym e) p;
        closed = subst (λ (y : StmtShape). y.dangling ≡ true → NoElse rest) (sym e) q;
      };
      form = subst (λ (y : StmtShape). is_statement y.form ≡ true) (sym e) f;
    }

-- a guard that held
pub guarded : {A : Type 0} (b : Bool) (x : Option A) (y : A) → cond b x None ≡ Some y → (b ≡ true) × (x ≡ Some y)
guarded true x y e = (refl, e)
guarded false x y e = absurd cc

lined : (l c : ℕ) (n : Act) (x : Act-F Act Stmt) (form : Form) (bare : Spelling) (b : Bool) (ts rest : Terminals) → out-Act n ≡ x → act_step (stmt_shaped x) l c ≡ before_semicolon form bare b → b ≡ true → Reads bare ts rest → Lined form (stmt l c n) ts rest
lined l c n x form bare b ts rest o e t r = record { bare = bare; is = stmt_made l c n x o ∙ e ∙ ap (λ (y : Bool). before_semicolon form bare y) t; reads = r }

-- ---- simple statements

tail_op : Tail → Option BinOp
tail_op (tail.Assign op) = op
tail_op _ = None

tail_up : Tail → Bool
tail_up (tail.Bump up) = up
tail_up _ = false

abbrev IsAssign : Mark → Option BinOp → Type 0
IsAssign m op = (m ≡ assign_mark op) × (assigns op ≡ true)

assign_step : (m : Mark) (op : Option BinOp) → mark_tail m ≡ tail.Assign op → IsAssign m (tail_op (mark_tail m))
unfolding tail_op
assign_step mark.Assign op e = (refl, refl)
assign_step mark.PlusAssign op e = (refl, refl)
assign_step mark.MinusAssign op e = (refl, refl)
assign_step mark.StarAssign op e = (refl, refl)
assign_step mark.SlashAssign op e = (refl, refl)
assign_step mark.PercentAssign op e = (refl, refl)
assign_step mark.LeftAssign op e = (refl, refl)
assign_step mark.RightAssign op e = (refl, refl)
assign_step mark.AmpAssign op e = (refl, refl)
assign_step mark.BarAssign op e = (refl, refl)
assign_step mark.CaretAssign op e = (refl, refl)
assign_step _ op e = absurd cc

assign_is : (m : Mark) (op : Option BinOp) → mark_tail m ≡ tail.Assign op → IsAssign m op
unfolding tail_op
assign_is m op e = subst (λ (y : Tail). IsAssign m (tail_op y)) e (assign_step m op e)

bump_step : (m : Mark) (up : Bool) → mark_tail m ≡ tail.Bump up → m ≡ bump_mark (tail_up (mark_tail m))
unfolding tail_up
bump_step mark.PlusPlus up e = refl
bump_step mark.MinusMinus up e = refl
bump_step _ up e = absurd cc

bump_is : (m : Mark) (up : Bool) → mark_tail m ≡ tail.Bump up → m ≡ bump_mark up
unfolding tail_up
bump_is m up e = subst (λ (y : Tail). m ≡ bump_mark (tail_up y)) e (bump_step m up e)

abbrev SignAssign : Sign → Option BinOp → Type 0
SignAssign s op = (s ≡ sign.Mark (assign_mark op)) × (assigns op ≡ true)

sign_assign : (s : Sign) (op : Option BinOp) → tail_of s ≡ tail.Assign op → SignAssign s op
sign_assign (sign.Mark m) op e = let a = assign_is m op e in (ap (λ (y : Mark). sign.Mark y) a.0, a.1)
sign_assign _ op e = absurd cc

sign_bump : (s : Sign) (up : Bool) → tail_of s ≡ tail.Bump up → s ≡ sign.Mark (bump_mark up)
sign_bump (sign.Mark m) up e = ap (λ (y : Mark). sign.Mark y) (bump_is m up e)
sign_bump _ up e = absurd cc

-- a tail that was found
tail_assigned : (ts : Terminals) (op : Option BinOp) → (tail_at ts).0 ≡ tail.Assign op → (assigns op ≡ true) × ((ms : Spelling) (rest : Terminals) → Reads ms (tail_at ts).2 rest → Reads (mark_at (tail_at ts).1 (assign_mark op) ms) ts rest)
unfolding tail_at
tail_assigned [] op e = absurd cc
tail_assigned (t ∷ ts) op e = let a = sign_assign t.what op e in (a.1, λ ms rest r. (a.0, (refl, tt), r))

tail_bumped : (ts : Terminals) (up : Bool) → (tail_at ts).0 ≡ tail.Bump up → Reads (mark_at (tail_at ts).1 (bump_mark up) []) ts (tail_at ts).2
unfolding tail_at
tail_bumped [] up e = absurd cc
tail_bumped (t ∷ ts) up e = (sign_bump t.what up e, (refl, tt), refl)

-- an expression that binds as tightly as a cast, and is none, is unary
unary_step : (x : Node-F Node Expr) (l s : ℕ) → unary_node x ≡ true → 13 ≤ (node_step (shaped x) l s).level
unary_step (node.Number v k) l s e = omega arith
unary_step node.Real l s e = omega arith
unary_step (node.Letter b) l s e = omega arith
unary_step (node.Text b) l s e = omega arith
unary_step (node.Variable n) l s e = omega arith
unary_step (node.Unary op a) l s e = omega arith
unary_step (node.Binary op a b) l s e = absurd cc
unary_step (node.Choice c a b) l s e = absurd cc
unary_step (node.Cast t a) l s e = absurd cc
unary_step (node.Call n es) l s e = omega arith
unary_step (node.Index a b) l s e = omega arith
unary_step (node.Member a n) l s e = omega arith
unary_step (node.Arrow a n) l s e = omega arith
unary_step (node.Paren a) l s e = omega arith

unary_level : (e : Expr) → is_unary e ≡ true → 13 ≤ (shape e).level
unfolding is_unary
unary_level e h = rw (shape_is e) (unary_step (out-Node e.node) e.line e.second h)

tail_sound : (E : Reader) → Sound E → (start : Terminals) (a : Expr) (here : Terminals) → Reads (shape a).spelling start here → (shape a).proper ≡ true → (y : Tail) → (tail_at here).0 ≡ y → (x : Stmt × Terminals) → ended_by E a here y (tail_at here).1 (tail_at here).2 ≡ Some x → Lined simple x.0 start x.1
unfolding ended_by
tail_sound E sound start a here reads proper tail.Nothing q x e =
    let g = guarded (is_call a) (Some (stmt a.line a.line (made.Call a), here)) x e in
    let z = some_is (stmt a.line a.line (made.Call a), here) x g.1 in
    subst (λ (y : Stmt × Terminals). Lined simple y.0 start y.1) z
    (lined a.line a.line (made.Call a) (act.Call a) simple (first_on (a.line ∷ a.line ∷ []) (shape a).spelling) _ start here (outs-Call a) refl
    (and_intro _ _ g.0 proper) (begun (a.line ∷ a.line ∷ []) a start here (refl, (refl, tt)) reads))
tail_sound E sound start a here reads proper (tail.Assign op) q x e =
    let line = (tail_at here).1 in
    let next = (tail_at here).2 in
    let t = tail_assigned here op q in
    let g = guarded (is_unary a) (E 1 next >>= λ b. Some (stmt a.line line (made.Set op a b.0), b.1)) x e in
    let b = bind_some (E 1 next) (λ b. Some (stmt a.line line (made.Set op a b.0), b.1)) x g.1 in
    let w = sound 1 next b.0 (omega arith) (omega arith) b.1 in
    let z = some_is (stmt a.line line (made.Set op a b.0.0), b.0.1) x b.2 in
    subst (λ (y : Stmt × Terminals). Lined simple y.0 start y.1) z
    (lined a.line line (made.Set op a b.0.0) (act.Set op a b.0.0) simple (first_on (a.line ∷ []) (shape a).spelling ++ mark_at line (assign_mark op) (shape b.0.0).spelling) _ start b.0.1 (outs-Set op a b.0.0) refl
    (and_intro _ _ t.0 (and_intro _ _ (le-leb 13 _ (unary_level a g.0)) (and_intro _ _ proper w.left.proper)))
    (reads_append (first_on (a.line ∷ []) (shape a).spelling) _ start here b.0.1 (begun (a.line ∷ []) a start here (refl, tt) reads) (t.1 (shape b.0.0).spelling b.0.1 w.left.reads)))
tail_sound E sound start a here reads proper (tail.Bump up) q x e =
    let line = (tail_at here).1 in
    let next = (tail_at here).2 in
    let g = guarded (is_unary a) (Some (stmt a.line line (made.Bump up false a), next)) x e in
    let z = some_is (stmt a.line line (made.Bump up false a), next) x g.1 in
    subst (λ (y : Stmt × Terminals). Lined simple y.0 start y.1) z
    (lined a.line line (made.Bump up false a) (act.Bump up false a) simple (first_on (a.line ∷ []) (shape a).spelling ++ mark_at line (bump_mark up) []) _ start next (outs-Bump up false a) refl
    (and_intro _ _ (le-leb 13 _ (unary_level a g.0)) proper)
    (reads_append (first_on (a.line ∷ []) (shape a).spelling) _ start here next (begun (a.line ∷ []) a start here (refl, tt) reads) (tail_bumped here up q)))

bumped_sound : (E : Reader) → Sound E → (start : Terminals) (m : Mark) (up : Bool) → m ≡ bump_mark up → (o : ℕ × Terminals) → after (fixed.Mark m) start ≡ Some o → (x : Stmt × Terminals) → bumped E up o.0 o.1 ≡ Some x → Lined simple x.0 start x.1
unfolding bumped
bumped_sound E sound start m up same o f x e =
    let a = bind_some (E 12 o.1) (λ a. cond (is_unary a.0) (Some (stmt o.0 o.0 (made.Bump up true a.0), a.1)) None) x e in
    let w = sound 12 o.1 a.0 (omega arith) (omega arith) a.1 in
    let g = guarded (is_unary a.0.0) (Some (stmt o.0 o.0 (made.Bump up true a.0.0), a.0.1)) x a.2 in
    let z = some_is (stmt o.0 o.0 (made.Bump up true a.0.0), a.0.1) x g.1 in
    subst (λ (y : Stmt × Terminals). Lined simple y.0 start y.1) z
    (lined o.0 o.0 (made.Bump up true a.0.0) (act.Bump up true a.0.0) simple (mark_on (o.0 ∷ o.0 ∷ []) (bump_mark up) (shape a.0.0).spelling) _ start a.0.1 (outs-Bump up true a.0.0) refl
    (and_intro _ _ (le-leb 13 _ (unary_level a.0.0 g.0)) w.left.proper)
    (subst (λ (y : Mark). Reads (mark_on (o.0 ∷ o.0 ∷ []) y (shape a.0.0).spelling) start a.0.1) same
    (found_sound (fixed.Mark m) (o.0 ∷ o.0 ∷ []) (shape a.0.0).spelling start a.0.1 o f (refl, (refl, tt)) w.left.reads)))

abbrev pub LineSound : Form → StmtReader → Type 0
LineSound form S = (ts : Terminals) (x : Stmt × Terminals) → S ts ≡ Some x → Lined form x.0 ts x.1

pub simple_sound : (E : Reader) → Sound E → LineSound simple (simple_at E)
unfolding simple_at from_place
simple_sound E sound ts x e =
    elim (found_ok (after (fixed.Mark mark.PlusPlus) ts) (λ o. bumped E true o.0 o.1) _ (Some x) e) [
      | inr h ↦ bumped_sound E sound ts mark.PlusPlus true refl h.0 h.1 x h.2
      | inl f ↦ elim (found_ok (after (fixed.Mark mark.MinusMinus) ts) (λ o. bumped E false o.0 o.1) _ (Some x) f.1) [
        | inr h ↦ bumped_sound E sound ts mark.MinusMinus false refl h.0 h.1 x h.2
        | inl g ↦
            let a = bind_some (E 12 ts) (λ a. from_place E a) x g.1 in
            let w = sound 12 ts a.0 (omega arith) (omega arith) a.1 in
            tail_sound E sound ts a.0.0 a.0.1 w.left.reads w.left.proper (tail_at a.0.1).0 refl x a.2
      ]
    ]

-- ---- declarations

declared_line : (l : ℕ) (b : Bool) (ds : List Declarator) (start rest : Terminals) → Reads (declared (l ∷ l ∷ []) b ds) start rest → (is_declaration (declared_as b ds)) ≡ true → Lined declares (stmt l l (made.Declare (declared_as b ds))) start rest
unfolding declaration
declared_line l b ds start rest r p =
    lined l l (made.Declare (declared_as b ds)) (act.Declare (declared_as b ds)) declares (declared (l ∷ l ∷ []) b ds) _ start rest (outs-Declare (declared_as b ds)) refl p r

named_proper : (b : Bool) (I : InitReader) (b0 : Base) (f o : ℕ) (ds : List Declarator) (ts rest : Terminals) → Named_all true b0 f o ds ts rest → is_declaration (declared_as b ds) ≡ true
unfolding is_declaration
named_proper b I b0 f o ds ts rest w = w.proper

pub declare_sound : (I : InitReader) → InitSound I → LineSound declares (declare_at I)
unfolding declare_at declaration_from
declare_sound I sound ts x e =
    elim (found_ok (after static_key ts) (λ s. declaration_from I true s.0 s.1 >>= λ d. Some (stmt s.0 s.0 (made.Declare d.0), d.1)) (declaration_from I false (line_of ts) ts >>= λ d. Some (stmt (line_of ts) (line_of ts) (made.Declare d.0), d.1)) (Some x) e) [
      | inr h ↦
          let s = h.0 in
          let d = bind_some (declaration_from I true s.0 s.1) (λ d. Some (stmt s.0 s.0 (made.Declare d.0), d.1)) x h.2 in
          let b = bind_some (base_at s.1) (λ b. names_of true I b.0 b.1 s.0 b.2 >>= λ n. Some (declared_as true n.0, n.1)) d.0 d.1 in
          let n = bind_some (names_of true I b.0.0 b.0.1 s.0 b.0.2) (λ n. Some (declared_as true n.0, n.1)) d.0 b.2 in
          let w = names_sound true I sound b.0.0 b.0.1 s.0 b.0.2 n.0 n.1 in
          let q = some_is (declared_as true n.0.0, n.0.1) d.0 n.2 in
          let z = some_is (stmt s.0 s.0 (made.Declare d.0.0), d.0.1) x d.2 in
          subst (λ (y : Stmt × Terminals). Lined declares y.0 ts y.1) z
          (subst (λ (y : Declaration × Terminals). Lined declares (stmt s.0 s.0 (made.Declare y.0)) ts y.1) q
          (declared_line s.0 true n.0.0 ts n.0.1 (declared_static (s.0 ∷ s.0 ∷ []) ts s h.1 b.0 b.1 (refl, (refl, tt)) n.0 w) (named_proper true I b.0.0 b.0.1 s.0 n.0.0 b.0.2 n.0.1 w)))
      | inl h ↦
          let l = line_of ts in
          let d = bind_some (declaration_from I false l ts) (λ d. Some (stmt l l (made.Declare d.0), d.1)) x h.1 in
          let b = bind_some (base_at ts) (λ b. names_of true I b.0 b.1 l b.2 >>= λ n. Some (declared_as false n.0, n.1)) d.0 d.1 in
          let n = bind_some (names_of true I b.0.0 b.0.1 l b.0.2) (λ n. Some (declared_as false n.0, n.1)) d.0 b.2 in
          let w = names_sound true I sound b.0.0 b.0.1 l b.0.2 n.0 n.1 in
          let q = some_is (declared_as false n.0.0, n.0.1) d.0 n.2 in
          let z = some_is (stmt l l (made.Declare d.0.0), d.0.1) x d.2 in
          subst (λ (y : Stmt × Terminals). Lined declares y.0 ts y.1) z
          (subst (λ (y : Declaration × Terminals). Lined declares (stmt l l (made.Declare y.0)) ts y.1) q
          (declared_line l false n.0.0 ts n.0.1 (declared_plain (l ∷ l ∷ []) l ts b.0 b.1 refl (refl, (refl, tt)) n.0 w) (named_proper false I b.0.0 b.0.1 l n.0.0 b.0.2 n.0.1 w)))
    ]

-- a simple statement or a declaration, with its `;`
lined_stated : (form : Form) (p : Stmt) (ts mid : Terminals) (c : ℕ × Terminals) → Lined form p ts mid → after semicolon mid ≡ Some c → Stated p ts c.1
lined_stated form p ts mid c l f = record {
  reads = subst (λ (y : StmtShape). Reads y.spelling ts c.1) (sym l.is) (reads_append l.bare _ ts mid c.1 l.reads (found_sound semicolon [] [] mid c.1 c f tt refl));
  proper = ap (λ (y : StmtShape). y.proper) l.is;
  closed = subst (λ (y : StmtShape). y.dangling ≡ true → NoElse c.1) (sym l.is) (never c.1);
}

lined_form : (form : Form) (p : Stmt) (ts mid : Terminals) → Lined form p ts mid → (stmt_shape p).form ≡ form
lined_form form p ts mid l = ap (λ (y : StmtShape). y.form) l.is

-- ---- the parts of statements

test_sound : (E : Reader) → Sound E → (ts : Terminals) (x : Expr × Terminals) → test_at E ts ≡ Some x → ((shape x.0).proper ≡ true) × ((ms : Spelling) (rest : Terminals) → Reads ms x.1 rest → Reads (put_mark mark.OpenParen ((shape x.0).spelling ++ put_mark mark.CloseParen ms)) ts rest)
unfolding test_at
test_sound E sound ts x e =
    let o = bind_some (after opening ts) (λ o. E 1 o.1 >>= λ c. after close c.1 >>= λ d. Some (c.0, d.1)) x e in
    let c = bind_some (E 1 o.0.1) (λ c. after close c.1 >>= λ d. Some (c.0, d.1)) x o.2 in
    let d = bind_some (after close c.0.1) (λ d. Some (c.0.0, d.1)) x c.2 in
    let w = sound 1 o.0.1 c.0 (omega arith) (omega arith) c.1 in
    let z = some_is (c.0.0, d.0.1) x d.2 in
    subst (λ (y : Expr × Terminals). ((shape y.0).proper ≡ true) × ((ms : Spelling) (rest : Terminals) → Reads ms y.1 rest → Reads (put_mark mark.OpenParen ((shape y.0).spelling ++ put_mark mark.CloseParen ms)) ts rest)) z (
      w.left.proper,
      λ ms rest r. found_sound opening [] _ ts rest o.0 o.1 tt
          (reads_append (shape c.0.0).spelling _ o.0.1 c.0.1 rest w.left.reads (found_sound close [] ms c.0.1 rest d.0 d.1 tt r)),
    )

-- the first terminal is a key, and what it begins is read behind it
abbrev Key : Keyword → Terminals → ℕ × Terminals → Type 0
Key k start o = after (fixed.Key k) start ≡ Some o

not_open : (b : Bool) (ts : Terminals) (y : ℕ × Terminals) → (b ≡ true → NoElse ts) → after else_key ts ≡ Some y → not b ≡ true
not_open false ts y h e = refl
not_open true ts y h e = let n = h refl in absurd cc

if_sound : (E : Reader) → Sound E → (S : StmtReader) → StmtSound S → (start : Terminals) (o : ℕ × Terminals) → Key key.If start o → (x : Stmt × Terminals) → if_at S E o.0 o.1 ≡ Some x → Part x.0 start x.1
unfolding if_at
if_sound E sound S both start o begin x e =
    let l = o.0 in
    let c = bind_some (test_at E o.1) (λ c. S c.1 >>= λ s. found (after else_key s.1) (λ e. S e.1 >>= λ t. Some (stmt l l (made.If c.0 s.0 (Some t.0)), t.1)) (Some (stmt l l (made.If c.0 s.0 None), s.1))) x e in
    let d = test_sound E sound o.1 c.0 c.1 in
    let s = bind_some (S c.0.1) (λ s. found (after else_key s.1) (λ e. S e.1 >>= λ t. Some (stmt l l (made.If c.0.0 s.0 (Some t.0)), t.1)) (Some (stmt l l (made.If c.0.0 s.0 None), s.1))) x c.2 in
    let u = both c.0.1 s.0 s.1 in
    elim (found_ok (after else_key s.0.1) (λ e. S e.1 >>= λ t. Some (stmt l l (made.If c.0.0 s.0.0 (Some t.0)), t.1)) (Some (stmt l l (made.If c.0.0 s.0.0 None), s.0.1)) (Some x) s.2) [
      | inl h ↦
          let z = some_is (stmt l l (made.If c.0.0 s.0.0 None), s.0.1) x h.1 in
          subst (λ (y : Stmt × Terminals). Part y.0 start y.1) z
          (part_made l l (made.If c.0.0 s.0.0 None) (act.If c.0.0 s.0.0 None) start s.0.1 (outs-If c.0.0 s.0.0 None)
          (found_sound (fixed.Key key.If) (l ∷ l ∷ []) (put_mark mark.OpenParen ((shape c.0.0).spelling ++ put_mark mark.CloseParen (stmt_shape s.0.0).spelling)) start s.0.1 o begin (refl, (refl, tt)) (d.1 (stmt_shape s.0.0).spelling s.0.1 u.stated.reads))
          (and_intro _ _ d.0 (and_intro _ _ u.form u.stated.proper)) refl (λ _. h.0))
      | inr h ↦
          let t = bind_some (S h.0.1) (λ t. Some (stmt l l (made.If c.0.0 s.0.0 (Some t.0)), t.1)) x h.2 in
          let v = both h.0.1 t.0 t.1 in
          let z = some_is (stmt l l (made.If c.0.0 s.0.0 (Some t.0.0)), t.0.1) x t.2 in
          subst (λ (y : Stmt × Terminals). Part y.0 start y.1) z
          (part_made l l (made.If c.0.0 s.0.0 (Some t.0.0)) (act.If c.0.0 s.0.0 (Some t.0.0)) start t.0.1 (outs-If c.0.0 s.0.0 (Some t.0.0))
          (found_sound (fixed.Key key.If) (l ∷ l ∷ []) (put_mark mark.OpenParen ((shape c.0.0).spelling ++ put_mark mark.CloseParen ((stmt_shape s.0.0).spelling ++ put_key key.Else (stmt_shape t.0.0).spelling))) start t.0.1 o begin (refl, (refl, tt))
          (d.1 ((stmt_shape s.0.0).spelling ++ put_key key.Else (stmt_shape t.0.0).spelling) t.0.1
          (reads_append (stmt_shape s.0.0).spelling (put_key key.Else (stmt_shape t.0.0).spelling) c.0.1 s.0.1 t.0.1 u.stated.reads (found_sound else_key [] (stmt_shape t.0.0).spelling s.0.1 t.0.1 h.0 h.1 tt v.stated.reads))))
          (and_intro _ _ d.0 (and_intro _ _ (not_open _ s.0.1 h.0 u.stated.closed h.1) (and_intro _ _ (and_intro _ _ u.form u.stated.proper) (and_intro _ _ v.form v.stated.proper))))
          refl v.stated.closed)
    ]

while_sound : (E : Reader) → Sound E → (S : StmtReader) → StmtSound S → (start : Terminals) (o : ℕ × Terminals) → Key key.While start o → (x : Stmt × Terminals) → while_at S E o.0 o.1 ≡ Some x → Part x.0 start x.1
unfolding while_at
while_sound E sound S both start o begin x e =
    let l = o.0 in
    let c = bind_some (test_at E o.1) (λ c. S c.1 >>= λ s. Some (stmt l l (made.While c.0 s.0), s.1)) x e in
    let d = test_sound E sound o.1 c.0 c.1 in
    let s = bind_some (S c.0.1) (λ s. Some (stmt l l (made.While c.0.0 s.0), s.1)) x c.2 in
    let u = both c.0.1 s.0 s.1 in
    let z = some_is (stmt l l (made.While c.0.0 s.0.0), s.0.1) x s.2 in
    subst (λ (y : Stmt × Terminals). Part y.0 start y.1) z
    (part_made l l (made.While c.0.0 s.0.0) (act.While c.0.0 s.0.0) start s.0.1 (outs-While c.0.0 s.0.0)
    (found_sound (fixed.Key key.While) (l ∷ l ∷ []) (put_mark mark.OpenParen ((shape c.0.0).spelling ++ put_mark mark.CloseParen (stmt_shape s.0.0).spelling)) start s.0.1 o begin (refl, (refl, tt)) (d.1 (stmt_shape s.0.0).spelling s.0.1 u.stated.reads))
    (and_intro _ _ d.0 (and_intro _ _ u.form u.stated.proper)) refl u.stated.closed)

do_sound : (E : Reader) → Sound E → (S : StmtReader) → StmtSound S → (start : Terminals) (o : ℕ × Terminals) → Key key.Do start o → (x : Stmt × Terminals) → do_at S E o.0 o.1 ≡ Some x → Part x.0 start x.1
unfolding do_at
do_sound E sound S both start o begin x e =
    let l = o.0 in
    let s = bind_some (S o.1) (λ s. after (fixed.Key key.While) s.1 >>= λ w. test_at E w.1 >>= λ c. after semicolon c.1 >>= λ d. Some (stmt l l (made.DoWhile s.0 c.0), d.1)) x e in
    let w = bind_some (after (fixed.Key key.While) s.0.1) (λ w. test_at E w.1 >>= λ c. after semicolon c.1 >>= λ d. Some (stmt l l (made.DoWhile s.0.0 c.0), d.1)) x s.2 in
    let c = bind_some (test_at E w.0.1) (λ c. after semicolon c.1 >>= λ d. Some (stmt l l (made.DoWhile s.0.0 c.0), d.1)) x w.2 in
    let f = bind_some (after semicolon c.0.1) (λ d. Some (stmt l l (made.DoWhile s.0.0 c.0.0), d.1)) x c.2 in
    let u = both o.1 s.0 s.1 in
    let d = test_sound E sound w.0.1 c.0 c.1 in
    let z = some_is (stmt l l (made.DoWhile s.0.0 c.0.0), f.0.1) x f.2 in
    subst (λ (y : Stmt × Terminals). Part y.0 start y.1) z
    (part_made l l (made.DoWhile s.0.0 c.0.0) (act.DoWhile s.0.0 c.0.0) start f.0.1 (outs-DoWhile s.0.0 c.0.0)
    (found_sound (fixed.Key key.Do) (l ∷ l ∷ []) ((stmt_shape s.0.0).spelling ++ put_key key.While (put_mark mark.OpenParen ((shape c.0.0).spelling ++ put_mark mark.CloseParen (put_mark mark.Semicolon [])))) start f.0.1 o begin (refl, (refl, tt))
    (reads_append (stmt_shape s.0.0).spelling (put_key key.While (put_mark mark.OpenParen ((shape c.0.0).spelling ++ put_mark mark.CloseParen (put_mark mark.Semicolon [])))) o.1 s.0.1 f.0.1 u.stated.reads
    (found_sound (fixed.Key key.While) [] (put_mark mark.OpenParen ((shape c.0.0).spelling ++ put_mark mark.CloseParen (put_mark mark.Semicolon []))) s.0.1 f.0.1 w.0 w.1 tt (d.1 (put_mark mark.Semicolon []) f.0.1 (found_sound semicolon [] [] c.0.1 f.0.1 f.0 f.1 tt refl)))))
    (and_intro _ _ (and_intro _ _ u.form u.stated.proper) d.0) refl (never f.0.1))

first_sound : (E : Reader) → Sound E → (I : InitReader) → InitSound I → (ts : Terminals) (x : Option Stmt × Terminals) → first_at E I ts ≡ Some x → Reads (head_first (option_map stmt_shape x.0)) ts x.1 × (is_first (option_map stmt_shape x.0) ≡ true)
unfolding first_at line_at
first_sound E sound I inits ts x e =
    elim (found_ok (after semicolon ts) (λ o. Some (None, o.1)) (before (cond (declares_at ts) (declare_at I ts) (simple_at E ts)) semicolon >>= λ s. Some (Some s.0, s.1)) (Some x) e) [
      | inr h ↦
          let z = some_is (None, h.0.1) x h.2 in
          subst (λ (y : Option Stmt × Terminals). Reads (head_first (option_map stmt_shape y.0)) ts y.1 × (is_first (option_map stmt_shape y.0) ≡ true)) z
          (found_sound semicolon [] [] ts h.0.1 h.0 h.1 tt refl, refl)
      | inl h ↦ by_line (declares_at ts) h.1
    ]
  where
    spelled : (form : Form) → is_head form ≡ true → (p : Stmt) (mid : Terminals) (c : ℕ × Terminals) → Lined form p ts mid → after semicolon mid ≡ Some c → Reads (stmt_shape p).spelling ts c.1 × ((is_head (stmt_shape p).form && (stmt_shape p).proper) ≡ true)
    spelled form hd p mid c l f =
        let s = lined_stated form p ts mid c l f in
        (s.reads, and_intro _ _ (subst (λ (y : Form). is_head y ≡ true) (sym (lined_form form p ts mid l)) hd) s.proper)

    found_line : (form : Form) → is_head form ≡ true → (S : StmtReader) → LineSound form S → (before (S ts) semicolon >>= λ s. Some (Some s.0, s.1)) ≡ Some x → Reads (head_first (option_map stmt_shape x.0)) ts x.1 × (is_first (option_map stmt_shape x.0) ≡ true)
    found_line form hd S sounds q =
        let s = bind_some (before (S ts) semicolon) (λ s. Some (Some s.0, s.1)) x q in
        let p = bind_some (S ts) (λ s. after semicolon s.1 >>= λ c. Some (s.0, c.1)) s.0 s.1 in
        let c = bind_some (after semicolon p.0.1) (λ c. Some (p.0.0, c.1)) s.0 p.2 in
        let r = spelled form hd p.0.0 p.0.1 c.0 (sounds ts p.0 p.1) c.1 in
        let z = some_is (p.0.0, c.0.1) s.0 c.2 in
        let y = some_is (Some s.0.0, s.0.1) x s.2 in
        subst (λ (y : Option Stmt × Terminals). Reads (head_first (option_map stmt_shape y.0)) ts y.1 × (is_first (option_map stmt_shape y.0) ≡ true)) y
        (subst (λ (y : Stmt × Terminals). Reads (stmt_shape y.0).spelling ts y.1 × ((is_head (stmt_shape y.0).form && (stmt_shape y.0).proper) ≡ true)) z r)

    by_line : (b : Bool) → (before (cond b (declare_at I ts) (simple_at E ts)) semicolon >>= λ s. Some (Some s.0, s.1)) ≡ Some x → Reads (head_first (option_map stmt_shape x.0)) ts x.1 × (is_first (option_map stmt_shape x.0) ≡ true)
    by_line true q = found_line declares refl (declare_at I) (declare_sound I inits) q
    by_line false q = found_line simple refl (simple_at E) (simple_sound E sound) q

value_sound : (E : Reader) → Sound E → (ts : Terminals) (x : Option Expr × Terminals) → value_at E ts ≡ Some x → (is_test x.0 ≡ true) × ((ms : Spelling) (rest : Terminals) → Reads ms x.1 rest → Reads (head_test x.0 ++ put_mark mark.Semicolon ms) ts rest)
unfolding value_at
value_sound E sound ts x e =
    elim (found_ok (after semicolon ts) (λ o. Some (None, o.1)) (E 1 ts >>= λ e. after semicolon e.1 >>= λ c. Some (Some e.0, c.1)) (Some x) e) [
      | inr h ↦
          let z = some_is (None, h.0.1) x h.2 in
          subst (λ (y : Option Expr × Terminals). (is_test y.0 ≡ true) × ((ms : Spelling) (rest : Terminals) → Reads ms y.1 rest → Reads (head_test y.0 ++ put_mark mark.Semicolon ms) ts rest)) z
          (refl, λ ms rest r. found_sound semicolon [] ms ts rest h.0 h.1 tt r)
      | inl h ↦
          let v = bind_some (E 1 ts) (λ e. after semicolon e.1 >>= λ c. Some (Some e.0, c.1)) x h.1 in
          let c = bind_some (after semicolon v.0.1) (λ c. Some (Some v.0.0, c.1)) x v.2 in
          let w = sound 1 ts v.0 (omega arith) (omega arith) v.1 in
          let z = some_is (Some v.0.0, c.0.1) x c.2 in
          subst (λ (y : Option Expr × Terminals). (is_test y.0 ≡ true) × ((ms : Spelling) (rest : Terminals) → Reads ms y.1 rest → Reads (head_test y.0 ++ put_mark mark.Semicolon ms) ts rest)) z
          (w.left.proper, λ ms rest r. reads_append (shape v.0.0).spelling _ ts v.0.1 rest w.left.reads (found_sound semicolon [] ms v.0.1 rest c.0 c.1 tt r))
    ]

next_sound : (E : Reader) → Sound E → (ts : Terminals) (x : Option Stmt × Terminals) → next_at E ts ≡ Some x → (is_next (option_map stmt_shape x.0) ≡ true) × ((ms : Spelling) (rest : Terminals) → Reads ms x.1 rest → Reads (head_next (option_map stmt_shape x.0) ++ put_mark mark.CloseParen ms) ts rest)
unfolding next_at
next_sound E sound ts x e =
    elim (found_ok (after close ts) (λ o. Some (None, o.1)) (before (simple_at E ts) close >>= λ s. Some (Some s.0, s.1)) (Some x) e) [
      | inr h ↦
          let z = some_is (None, h.0.1) x h.2 in
          subst (λ (y : Option Stmt × Terminals). (is_next (option_map stmt_shape y.0) ≡ true) × ((ms : Spelling) (rest : Terminals) → Reads ms y.1 rest → Reads (head_next (option_map stmt_shape y.0) ++ put_mark mark.CloseParen ms) ts rest)) z
          (refl, λ ms rest r. found_sound close [] ms ts rest h.0 h.1 tt r)
      | inl h ↦
          let s = bind_some (before (simple_at E ts) close) (λ s. Some (Some s.0, s.1)) x h.1 in
          let p = bind_some (simple_at E ts) (λ s. after close s.1 >>= λ c. Some (s.0, c.1)) s.0 s.1 in
          let c = bind_some (after close p.0.1) (λ c. Some (p.0.0, c.1)) s.0 p.2 in
          let l = simple_sound E sound ts p.0 p.1 in
          let z = some_is (p.0.0, c.0.1) s.0 c.2 in
          let y = some_is (Some s.0.0, s.0.1) x s.2 in
          subst (λ (y : Option Stmt × Terminals). (is_next (option_map stmt_shape y.0) ≡ true) × ((ms : Spelling) (rest : Terminals) → Reads ms y.1 rest → Reads (head_next (option_map stmt_shape y.0) ++ put_mark mark.CloseParen ms) ts rest)) y
          (subst (λ (y : Stmt × Terminals). ((is_simple (stmt_shape y.0).form && (stmt_shape y.0).proper) ≡ true) × ((ms : Spelling) (rest : Terminals) → Reads ms y.1 rest → Reads ((stmt_shape y.0).bare ++ put_mark mark.CloseParen ms) ts rest)) z
          (subst (λ (y : StmtShape). ((is_simple y.form && y.proper) ≡ true) × ((ms : Spelling) (rest : Terminals) → Reads ms c.0.1 rest → Reads (y.bare ++ put_mark mark.CloseParen ms) ts rest)) (sym l.is)
          (refl, λ ms rest r. reads_append l.bare _ ts p.0.1 rest l.reads (found_sound close [] ms p.0.1 rest c.0 c.1 tt r))))
    ]

-- a `for`, of whose parts some may be left out
abbrev pub for_shape : Option Stmt → Option Expr → Option Stmt → Stmt → ℕ → ℕ → StmtShape
for_shape a b c s line second =
    of_form other (key_on (line ∷ second ∷ []) key.For (put_mark mark.OpenParen (head_first (option_map stmt_shape a) ++ (head_test b ++ put_mark mark.Semicolon (head_next (option_map stmt_shape c) ++ put_mark mark.CloseParen (stmt_shape s).spelling))))) (stmt_shape s).dangling
    (is_first (option_map stmt_shape a) && (is_test b && (is_next (option_map stmt_shape c) && is_part (stmt_shape s))))

pub for_is : (a : Option Stmt) (b : Option Expr) (c : Option Stmt) (s : Stmt) (line second : ℕ) → act_step (stmt_shaped (act.For a b c s)) line second ≡ for_shape a b c s line second
for_is None b None s line second = refl
for_is (Some a) b None s line second = refl
for_is None b (Some c) s line second = refl
for_is (Some a) b (Some c) s line second = refl

for_sound : (E : Reader) → Sound E → (I : InitReader) → InitSound I → (S : StmtReader) → StmtSound S → (start : Terminals) (o : ℕ × Terminals) → Key key.For start o → (x : Stmt × Terminals) → for_at S E I o.0 o.1 ≡ Some x → Part x.0 start x.1
unfolding for_at
for_sound E sound I inits S both start o begin x e =
    let l = o.0 in
    let g = bind_some (after opening o.1) (λ g. first_at E I g.1 >>= λ a. value_at E a.1 >>= λ b. next_at E b.1 >>= λ c. S c.1 >>= λ s. Some (stmt l l (made.For a.0 b.0 c.0 s.0), s.1)) x e in
    let a = bind_some (first_at E I g.0.1) (λ a. value_at E a.1 >>= λ b. next_at E b.1 >>= λ c. S c.1 >>= λ s. Some (stmt l l (made.For a.0 b.0 c.0 s.0), s.1)) x g.2 in
    let b = bind_some (value_at E a.0.1) (λ b. next_at E b.1 >>= λ c. S c.1 >>= λ s. Some (stmt l l (made.For a.0.0 b.0 c.0 s.0), s.1)) x a.2 in
    let c = bind_some (next_at E b.0.1) (λ c. S c.1 >>= λ s. Some (stmt l l (made.For a.0.0 b.0.0 c.0 s.0), s.1)) x b.2 in
    let s = bind_some (S c.0.1) (λ s. Some (stmt l l (made.For a.0.0 b.0.0 c.0.0 s.0), s.1)) x c.2 in
    let wa = first_sound E sound I inits g.0.1 a.0 a.1 in
    let wb = value_sound E sound a.0.1 b.0 b.1 in
    let wc = next_sound E sound b.0.1 c.0 c.1 in
    let u = both c.0.1 s.0 s.1 in
    let z = some_is (stmt l l (made.For a.0.0 b.0.0 c.0.0 s.0.0), s.0.1) x s.2 in
    let body : Spelling = (stmt_shape s.0.0).spelling in
    let third = wc.1 body s.0.1 u.stated.reads in
    let second = wb.1 (head_next (option_map stmt_shape c.0.0) ++ put_mark mark.CloseParen body) s.0.1 third in
    let q = for_is a.0.0 b.0.0 c.0.0 s.0.0 l l in
    let inner : Spelling = put_mark mark.OpenParen (head_first (option_map stmt_shape a.0.0) ++ (head_test b.0.0 ++ put_mark mark.Semicolon (head_next (option_map stmt_shape c.0.0) ++ put_mark mark.CloseParen body))) in
    let all_reads : Reads (key_on (l ∷ l ∷ []) key.For inner) start s.0.1 = found_sound (fixed.Key key.For) (l ∷ l ∷ []) inner start s.0.1 o begin (refl, (refl, tt))
    (found_sound opening [] (head_first (option_map stmt_shape a.0.0) ++ (head_test b.0.0 ++ put_mark mark.Semicolon (head_next (option_map stmt_shape c.0.0) ++ put_mark mark.CloseParen body))) o.1 s.0.1 g.0 g.1 tt
    (reads_append (head_first (option_map stmt_shape a.0.0)) (head_test b.0.0 ++ put_mark mark.Semicolon (head_next (option_map stmt_shape c.0.0) ++ put_mark mark.CloseParen body)) g.0.1 a.0.1 s.0.1 wa.0 second)) in
    let all_proper : (is_first (option_map stmt_shape a.0.0) && (is_test b.0.0 && (is_next (option_map stmt_shape c.0.0) && is_part (stmt_shape s.0.0)))) ≡ true = and_intro _ _ wa.1 (and_intro _ _ wb.0 (and_intro _ _ wc.0 (and_intro _ _ u.form u.stated.proper))) in
    subst (λ (y : Stmt × Terminals). Part y.0 start y.1) z
    (part_made l l (made.For a.0.0 b.0.0 c.0.0 s.0.0) (act.For a.0.0 b.0.0 c.0.0 s.0.0) start s.0.1 (outs-For a.0.0 b.0.0 c.0.0 s.0.0)
    (subst (λ (y : StmtShape). Reads y.spelling start s.0.1) (sym q) all_reads)
    (subst (λ (y : StmtShape). y.proper ≡ true) (sym q) all_proper)
    (subst (λ (y : StmtShape). is_statement y.form ≡ true) (sym q) refl)
    (subst (λ (y : StmtShape). y.dangling ≡ true → NoElse s.0.1) (sym q) u.stated.closed))

return_made : (r : Option Expr) (l : ℕ) (start rest : Terminals) → Reads (key_on (l ∷ l ∷ []) key.Return (head_test r ++ put_mark mark.Semicolon [])) start rest → is_test r ≡ true → Part (stmt l l (made.Return r)) start rest
return_made None l start rest reads p = part_made l l (made.Return None) (act.Return None) start rest (outs-Return None) reads refl refl (never rest)
return_made (Some r) l start rest reads p = part_made l l (made.Return (Some r)) (act.Return (Some r)) start rest (outs-Return (Some r)) reads p refl (never rest)

return_sound : (E : Reader) → Sound E → (start : Terminals) (o : ℕ × Terminals) → Key key.Return start o → (x : Stmt × Terminals) → return_at E o.0 o.1 ≡ Some x → Part x.0 start x.1
unfolding return_at
return_sound E sound start o begin x e =
    let l = o.0 in
    let v = bind_some (value_at E o.1) (λ v. Some (stmt l l (made.Return v.0), v.1)) x e in
    let w = value_sound E sound o.1 v.0 v.1 in
    let z = some_is (stmt l l (made.Return v.0.0), v.0.1) x v.2 in
    subst (λ (y : Stmt × Terminals). Part y.0 start y.1) z
    (return_made v.0.0 l start v.0.1 (found_sound (fixed.Key key.Return) (l ∷ l ∷ []) (head_test v.0.0 ++ put_mark mark.Semicolon []) start v.0.1 o begin (refl, (refl, tt)) (w.1 [] v.0.1 refl)) w.0)

jump_sound : (k : Keyword) (n : Act) (v : Act-F Act Stmt) → out-Act n ≡ v → ((l : ℕ) → act_step (stmt_shaped v) l l ≡ of_form other (key_on (l ∷ l ∷ []) k (put_mark mark.Semicolon [])) false true) → (start : Terminals) (o : ℕ × Terminals) → Key k start o → (x : Stmt × Terminals) → jump_at n o.0 o.1 ≡ Some x → Part x.0 start x.1
unfolding jump_at
jump_sound k n v out step start o begin x e =
    let l = o.0 in
    let c = bind_some (after semicolon o.1) (λ c. Some (stmt l l n, c.1)) x e in
    let z = some_is (stmt l l n, c.0.1) x c.2 in
    subst (λ (y : Stmt × Terminals). Part y.0 start y.1) z
    (part_made l l n v start c.0.1 out
    (subst (λ (y : StmtShape). Reads y.spelling start c.0.1) (sym (step l)) (found_sound (fixed.Key k) (l ∷ l ∷ []) (put_mark mark.Semicolon []) start c.0.1 o begin (refl, (refl, tt)) (found_sound semicolon [] [] o.1 c.0.1 c.0 c.1 tt refl)))
    (subst (λ (y : StmtShape). y.proper ≡ true) (sym (step l)) refl)
    (subst (λ (y : StmtShape). is_statement y.form ≡ true) (sym (step l)) refl)
    (subst (λ (y : StmtShape). y.dangling ≡ true → NoElse c.0.1) (sym (step l)) (never c.0.1)))

-- ---- blocks

-- the statements that were read
pub block_sound : (L : StmtReader) → ListedSound L → (m : ℕ) (done : List Stmt) (ts : Terminals) (x : List Stmt × Terminals) → block_at L m done ts ≡ Some x → (ss : List Stmt) × (x.0 ≡ done ++ ss) × Reads (statements (map stmt_shape ss)) ts x.1 × (all_stmts (map stmt_shape ss) ≡ true)
unfolding block_at
block_sound L both zero done ts x e = absurd cc
block_sound L both (suc m) done ts x e =
    elim (found_ok (after close_brace ts) (λ c. Some (done, c.1)) (L ts >>= λ r. block_at L m (done ++ r.0 ∷ []) r.1) (Some x) e) [
      | inl h ↦
          let b = bind_some (L ts) (λ r. block_at L m (done ++ r.0 ∷ []) r.1) x h.1 in
          let u = both ts b.0 b.1 in
          let r = block_sound L both m (done ++ b.0.0 ∷ []) b.0.1 x b.2 in (
            b.0.0 ∷ r.0,
            r.1 ∙ append_assoc done (b.0.0 ∷ []) r.0,
            subst (λ (ms : Spelling). Reads ms ts x.1) (sym (append_assoc (stmt_shape b.0.0).spelling (flat_map (λ s. s) (map (λ s. s.spelling) (map stmt_shape r.0))) (put_mark mark.CloseBrace []))) (reads_append (stmt_shape b.0.0).spelling _ ts b.0.1 x.1 u.reads r.2),
            and_intro _ _ u.proper r.3,
          )
      | inr h ↦
          let z = some_is (done, h.0.1) x h.2 in (
            [],
            sym (ap (λ (y : List Stmt × Terminals). y.0) z) ∙ sym (append-nil done),
            found_sound close_brace [] [] ts x.1 h.0 h.1 tt (ap (λ (y : List Stmt × Terminals). y.1) z),
            refl,
          )
    ]

whole_block : (L : StmtReader) → ListedSound L → (start : Terminals) (o : ℕ × Terminals) → after open_brace start ≡ Some o → (x : Stmt × Terminals) → (block_at L (suc (length o.1)) [] o.1 >>= λ b. Some (stmt o.0 o.0 (made.Block b.0), b.1)) ≡ Some x → Part x.0 start x.1
whole_block L both start o begin x e =
    let l = o.0 in
    let b = bind_some (block_at L (suc (length o.1)) [] o.1) (λ b. Some (stmt l l (made.Block b.0), b.1)) x e in
    let r = block_sound L both (suc (length o.1)) [] o.1 b.0 b.1 in
    let z = some_is (stmt l l (made.Block b.0.0), b.0.1) x b.2 in
    subst (λ (y : Stmt × Terminals). Part y.0 start y.1) z
    (subst (λ (y : List Stmt). Part (stmt l l (made.Block y)) start b.0.1) (sym r.1)
    (part_made l l (made.Block r.0) (act.Block r.0) start b.0.1 (outs-Block r.0) (found_sound open_brace (l ∷ l ∷ []) (statements (map stmt_shape r.0)) start b.0.1 o begin (refl, (refl, tt)) r.2) r.3 refl (never b.0.1)))

before_sound : (form : Form) (S : StmtReader) → LineSound form S → (ts : Terminals) (x : Stmt × Terminals) → before (S ts) semicolon ≡ Some x → Stated x.0 ts x.1 × ((stmt_shape x.0).form ≡ form)
before_sound form S sounds ts x e =
    let p = bind_some (S ts) (λ s. after semicolon s.1 >>= λ c. Some (s.0, c.1)) x e in
    let c = bind_some (after semicolon p.0.1) (λ c. Some (p.0.0, c.1)) x p.2 in
    let l = sounds ts p.0 p.1 in
    let z = some_is (p.0.0, c.0.1) x c.2 in
    subst (λ (y : Stmt × Terminals). Stated y.0 ts y.1 × ((stmt_shape y.0).form ≡ form)) z (lined_stated form p.0.0 ts p.0.1 c.0 l c.1, lined_form form p.0.0 ts p.0.1 l)

listed_by : (S : StmtReader) → StmtSound S → (I : InitReader) → InitSound I → (b : Bool) (ts : Terminals) (x : Stmt × Terminals) → cond b (before (declare_at I ts) semicolon) (S ts) ≡ Some x → Stated x.0 ts x.1
listed_by S both I inits true ts x e = (before_sound declares (declare_at I) (declare_sound I inits) ts x e).0
listed_by S both I inits false ts x e = (both ts x e).stated

listed_sound : (S : StmtReader) → StmtSound S → (I : InitReader) → InitSound I → (t : Terminal) (ts : Terminals) (s : Sign) → t.what ≡ s → (x : Stmt × Terminals) → listed_step S I t.line s (t ∷ ts) ts ≡ Some x → Stated x.0 (t ∷ ts) x.1
listed_sound S both I inits t ts (sign.Cle p) same x e =
    let l = t.line in
    let z = some_is (stmt l l (made.Cle p), ts) x e in
    let q = stmt_made l l (made.Cle p) (act.Cle p) (outs-Cle p) in
    subst (λ (y : Stmt × Terminals). Stated y.0 (t ∷ ts) y.1) z (record {
      reads = subst (λ (y : StmtShape). Reads y.spelling (t ∷ ts) ts) (sym q) (same, (refl, (refl, tt)), refl);
      proper = subst (λ (y : StmtShape). y.proper ≡ true) (sym q) refl;
      closed = subst (λ (y : StmtShape). y.dangling ≡ true → NoElse ts) (sym q) (never ts);
    })
listed_sound S both I inits t ts _ same x e = listed_by S both I inits (declares_at (t ∷ ts)) (t ∷ ts) x e

pub listed_of_sound : (S : StmtReader) → StmtSound S → (I : InitReader) → InitSound I → ListedSound (listed_of S I)
unfolding listed_of
listed_of_sound S both I inits [] x e = absurd cc
listed_of_sound S both I inits (t ∷ ts) x e = listed_sound S both I inits t ts t.what refl x e

-- ---- each head

-- the terminal of a head
abbrev head_fixed : Head → Fixed
head_fixed head.Empty = semicolon
head_fixed head.Block = open_brace
head_fixed head.If = fixed.Key key.If
head_fixed head.While = fixed.Key key.While
head_fixed head.Do = fixed.Key key.Do
head_fixed head.For = fixed.Key key.For
head_fixed head.Return = fixed.Key key.Return
head_fixed head.Break = fixed.Key key.Break
head_fixed head.Continue = fixed.Key key.Continue
head_fixed head.Simple = else_key

abbrev IsHead : Sign → Head → Type 0
IsHead s head.Simple = Unit {0}
IsHead s h = s ≡ fixed_sign (head_fixed h)

sign_is_head : (s : Sign) → IsHead s (sign_head s)
sign_is_head (sign.Mark mark.Semicolon) = refl
sign_is_head (sign.Mark mark.OpenBrace) = refl
sign_is_head (sign.Key key.If) = refl
sign_is_head (sign.Key key.While) = refl
sign_is_head (sign.Key key.Do) = refl
sign_is_head (sign.Key key.For) = refl
sign_is_head (sign.Key key.Return) = refl
sign_is_head (sign.Key key.Break) = refl
sign_is_head (sign.Key key.Continue) = refl
sign_is_head _ = tt

-- a fixed terminal at the front is found
front : (f : Fixed) (t : Terminal) (ts : Terminals) → t.what ≡ fixed_sign f → after f (t ∷ ts) ≡ Some (t.line, ts)
unfolding after
front f t ts e = let g : is_fixed f t.what ≡ true = rw e (fixed_self f) in rw g refl

headed_sound : (E : Reader) → Sound E → (I : InitReader) → InitSound I → (S : StmtReader) → StmtSound S → (t : Terminal) (ts : Terminals) (h : Head) → IsHead t.what h → (x : Stmt × Terminals) → headed S (listed_of S I) E I h t.line (t ∷ ts) ts ≡ Some x → Part x.0 (t ∷ ts) x.1
unfolding headed
headed_sound E sound I inits S both t ts head.Empty same x e =
    let l = t.line in
    let z = some_is (stmt l l made.Empty, ts) x e in
    subst (λ (y : Stmt × Terminals). Part y.0 (t ∷ ts) y.1) z (part_made l l made.Empty act.Empty (t ∷ ts) ts outs-Empty (same, (refl, (refl, tt)), refl) refl refl (never ts))
headed_sound E sound I inits S both t ts head.Block same x e = whole_block (listed_of S I) (listed_of_sound S both I inits) (t ∷ ts) (t.line, ts) (front open_brace t ts same) x e
headed_sound E sound I inits S both t ts head.If same x e = if_sound E sound S both (t ∷ ts) (t.line, ts) (front (fixed.Key key.If) t ts same) x e
headed_sound E sound I inits S both t ts head.While same x e = while_sound E sound S both (t ∷ ts) (t.line, ts) (front (fixed.Key key.While) t ts same) x e
headed_sound E sound I inits S both t ts head.Do same x e = do_sound E sound S both (t ∷ ts) (t.line, ts) (front (fixed.Key key.Do) t ts same) x e
headed_sound E sound I inits S both t ts head.For same x e = for_sound E sound I inits S both (t ∷ ts) (t.line, ts) (front (fixed.Key key.For) t ts same) x e
headed_sound E sound I inits S both t ts head.Return same x e = return_sound E sound (t ∷ ts) (t.line, ts) (front (fixed.Key key.Return) t ts same) x e
headed_sound E sound I inits S both t ts head.Break same x e = jump_sound key.Break made.Break act.Break outs-Break (λ l. refl) (t ∷ ts) (t.line, ts) (front (fixed.Key key.Break) t ts same) x e
headed_sound E sound I inits S both t ts head.Continue same x e = jump_sound key.Continue made.Continue act.Continue outs-Continue (λ l. refl) (t ∷ ts) (t.line, ts) (front (fixed.Key key.Continue) t ts same) x e
headed_sound E sound I inits S both t ts head.Simple same x e =
    let r = before_sound simple (simple_at E) (simple_sound E sound) (t ∷ ts) x e in
    record { stated = r.0; form = subst (λ (y : Form). is_statement y ≡ true) (sym r.1) refl }

-- What is read is spelled so.
pub stmt_sound : (E : Reader) → Sound E → (I : InitReader) → InitSound I → (n : ℕ) → StmtSound (stmt_at n E I)
unfolding stmt_at stmt_of
stmt_sound E sound I inits zero ts x e = absurd cc
stmt_sound E sound I inits (suc n) [] x e = absurd cc
stmt_sound E sound I inits (suc n) (t ∷ ts) x e = headed_sound E sound I inits (stmt_at n E I) (stmt_sound E sound I inits n) t ts (sign_head t.what) (sign_is_head t.what) x e
