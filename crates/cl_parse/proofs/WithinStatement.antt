-- Within the spelling of a declaration or a statement no terminal ends its item.
use Rattle.std.proofs.Common.{◌≡◌, ℕ, List, [], ◌∷◌, ◌++◌, map, refl, subst, sym, ap, ◌∙◌, Bool, true, false, ◌&&◌, Option, Some, None, append_assoc, option_map}
use Rattle.std.specs.List.{flat_map}
use Rattle.cl_tree.specs.declared.kinds.BinOp.{BinOp}
use Rattle.cl_tree.specs.declared.kinds.BinOp.TheVariants as binary
use Rattle.cl_tree.specs.declared.token.Mark.{Mark}
use Rattle.cl_tree.specs.declared.token.Mark.TheVariants as mark
use Rattle.cl_tree.specs.declared.grammar.Keyword.{Keyword}
use Rattle.cl_tree.specs.declared.grammar.Keyword.TheVariants as key
use Rattle.cl_tree.specs.declared.grammar.Base.{Base}
use Rattle.cl_tree.specs.declared.grammar.Sign.TheVariants as sign
use Rattle.cl_tree.specs.declared.tree.Expr.{Expr}
use Rattle.cl_tree.specs.declared.tree.Init.{Init, Init-F, out-Init, map-Init, fold_out-Init}
use Rattle.cl_tree.specs.declared.tree.Init.TheOpen as init
use Rattle.cl_tree.specs.declared.tree.Declarator.{Declarator}
use Rattle.cl_tree.specs.declared.tree.Declaration.{Declaration}
use Rattle.cl_tree.specs.declared.tree.Stmt.{Stmt}
use Rattle.cl_tree.specs.declared.tree.Act.{Act, Act-F, out-Act}
use Rattle.cl_tree.specs.declared.tree.Act.TheOpen as act
use Rattle.cl_tree.specs.Spelling.{is, Spelling, put_at, put_on, put_mark, held_by, star_lines, put_key, mark_on, mark_at, key_on, first_on, commas, is_empty, base_on, stars_on, dims_then, type_shape, shape}
use Rattle.cl_tree.specs.Statements.{InitShape, init_step, init_shape, initialiser, declarator, base_lines, first_lines, common_base, declared, declaration, StmtShape, act_step, stmt_shape, assign_mark, bump_mark, statements, head_first, head_test, head_next}
use Rattle.cl_tree.specs.Items.{Bracket, round, brace, body, brace_after, opens, closes, none, mark_effect, is_partner, is_body_bracket}
use Rattle.cl_parse_stmt.proofs.Declared.{init_is}
use Rattle.cl_parse_stmt.proofs.Stated.{stmt_shaped, stmt_shape_is, for_is, for_shape}
use Rattle.cl_parse.proofs.Induct.{Each, InitParts, init_induction, Maybe, StmtParts, stmt_induction}
use Rattle.cl_parse.proofs.Within.{Ends, step, plain_step, open_step, close_step, semicolon_step, Through, nothing_through, through_append, plain_through, first_through, in_brackets, base_goes, stars_goes, dims_goes, Throughs, commas_through, expr_through}

-- ---- initialisers

-- behind a terminal that is no `)`
abbrev pub Inner : Spelling → Type 0
Inner ms = (bs : List Bracket) (rest : Spelling) → ((c : Bool) → Ends bs c rest) → Ends bs false (ms ++ rest)

abbrev Inners : List Spelling → Type 0
Inners [] = Unit {0}
Inners (x ∷ xs) = Inner x × Inners xs

inner_append : (ms ns : Spelling) → Inner ms → ((bs : List Bracket) (a : Bool) (rest : Spelling) → ((c : Bool) → Ends bs c rest) → Ends bs a (ns ++ rest)) → Inner (ms ++ ns)
inner_append ms ns h g bs rest k = subst (λ (y : Spelling). Ends bs false y) (sym (append_assoc ms ns rest)) (h bs (ns ++ rest) (λ c. g bs c rest k))

others_inner : (xs : List Spelling) → Inners xs → Through (flat_map (put_mark mark.Comma) xs)
others_inner [] h = nothing_through
others_inner (x ∷ xs) h = λ bs a rest k. plain_step [] (sign.Mark mark.Comma) ((x ++ flat_map (put_mark mark.Comma) xs) ++ rest) bs a refl (inner_append x (flat_map (put_mark mark.Comma) xs) h.0 (others_inner xs h.1) bs rest k)

commas_inner : (xs : List Spelling) → Inners xs → Inner (commas xs)
commas_inner [] h = λ bs rest k. k false
commas_inner (x ∷ xs) h = inner_append x (flat_map (put_mark mark.Comma) xs) h.0 (others_inner xs h.1)

abbrev InitInner : Init → Type 0
InitInner i = Inner (init_shape i).spelling

all_inits_inner : (all : List Init) → Each InitInner all → Inners (map (λ s. s.spelling) (map init_shape all))
all_inits_inner [] h = tt
all_inits_inner (i ∷ more) h = (h.0, all_inits_inner more h.1)

init_inner_step : (x : Init-F Init) → InitParts InitInner x → Inner (init_step (map-Init Init InitShape init_shape x)).spelling
init_inner_step (init.One e) h = λ bs rest k. expr_through e bs false rest k
init_inner_step (init.Many parts) h = λ bs rest k.
    in_brackets [] mark.OpenBrace mark.CloseBrace brace brace (commas (map (λ s. s.spelling) (map init_shape parts))) [] rest bs false refl (λ c. refl) refl refl
    (λ after g. commas_inner (map (λ s. s.spelling) (map init_shape parts)) (all_inits_inner parts h) (brace ∷ bs) after g) (k false)

init_inner : (i : Init) → InitInner i
init_inner = init_induction InitInner (λ i h. subst (λ (y : InitShape). Inner y.spelling) (sym (init_is i)) (init_inner_step (out-Init i) h))

-- ---- declarations

initialiser_through : (i : Option Init) → Through (initialiser i)
initialiser_through None = nothing_through
initialiser_through (Some i) = λ bs a rest k. plain_step [] (sign.Mark mark.Assign) ((init_shape i).spelling ++ rest) bs a refl (init_inner i bs rest k)

pub declarator_through : (d : Declarator) → Through (declarator d)
unfolding declarator
declarator_through d bs a rest k =
    stars_goes (star_lines (held_by d.ctype) d.second) (type_shape d.ctype).stars (put_at d.line (sign.Name d.name) (dims_then (type_shape d.ctype).dims (initialiser d.init))) rest bs a
    (λ c. plain_step (d.line ∷ []) (sign.Name d.name) (dims_then (type_shape d.ctype).dims (initialiser d.init) ++ rest) bs c refl (dims_goes (type_shape d.ctype).dims (initialiser d.init) rest bs false (λ x. initialiser_through d.init bs x rest k)))

all_declarators : (ds : List Declarator) → Throughs (map declarator ds)
all_declarators [] = tt
all_declarators (d ∷ ds) = (declarator_through d, all_declarators ds)

pub names_through : (ds : List Declarator) → Through (commas (map declarator ds))
names_through ds = commas_through (map declarator ds) (all_declarators ds)

declared_through : (lines : List ℕ) (b : Bool) (ds : List Declarator) → Through (declared lines b ds)
declared_through lines true ds bs a rest k =
    plain_step (lines ++ first_lines ds) (sign.Key key.Static) (base_on (base_lines ds) (common_base ds) (commas (map declarator ds)) ++ rest) bs a refl
    (base_goes (base_lines ds) (common_base ds) (commas (map declarator ds)) rest bs false (λ c. names_through ds bs c rest k))
declared_through lines false ds bs a rest k = base_goes (lines ++ (first_lines ds ++ base_lines ds)) (common_base ds) (commas (map declarator ds)) rest bs a (λ c. names_through ds bs c rest k)

pub declaration_through : (lines : List ℕ) (d : Declaration) → Through (declaration lines d)
unfolding declaration
declaration_through lines d = declared_through lines d.is_static d.names

-- ---- statements

-- within at least one bracket
abbrev pub Held : Spelling → Type 0
Held ms = (b : Bracket) (bs : List Bracket) (a : Bool) (rest : Spelling) → ((c : Bool) → Ends (b ∷ bs) c rest) → Ends (b ∷ bs) a (ms ++ rest)

pub held_append : (ms ns : Spelling) → Held ms → Held ns → Held (ms ++ ns)
held_append ms ns h g b bs a rest k = subst (λ (y : Spelling). Ends (b ∷ bs) a y) (sym (append_assoc ms ns rest)) (h b bs a (ns ++ rest) (λ c. g b bs c rest k))

pub held_semicolon : (ms : Spelling) → Through ms → Held (ms ++ put_mark mark.Semicolon [])
held_semicolon ms h = held_append ms (put_mark mark.Semicolon []) (λ b bs a rest k. h (b ∷ bs) a rest k) (λ b bs a rest k. semicolon_step [] rest b bs a (k false))

-- a keyword, and what follows
keyed : (lines : List ℕ) (w : Keyword) (ms : Spelling) → Held ms → Held (key_on lines w ms)
keyed lines w ms h b bs a rest k = plain_step lines (sign.Key w) (ms ++ rest) (b ∷ bs) a refl (h b bs false rest k)

ended : (lines : List ℕ) → Held (mark_on lines mark.Semicolon [])
ended lines b bs a rest k = semicolon_step lines rest b bs a (k false)

-- a test in its parentheses
abbrev test_then : Expr → Spelling → Spelling
test_then e ms = put_mark mark.OpenParen ((shape e).spelling ++ put_mark mark.CloseParen ms)

tested : (e : Expr) (ms : Spelling) → Held ms → Held (put_mark mark.OpenParen ((shape e).spelling ++ put_mark mark.CloseParen ms))
tested e ms h b bs a rest k = in_brackets [] mark.OpenParen mark.CloseParen round round (shape e).spelling ms rest (b ∷ bs) a refl (λ c. refl) refl refl (λ after g. expr_through e (round ∷ b ∷ bs) false after g) (h b bs true rest k)

record Passes (s : Stmt) : Type 0 where
  whole : Held (stmt_shape s).spelling
  bare : Through (stmt_shape s).bare

abbrev pub Helds : List Spelling → Type 0
Helds [] = Unit {0}
Helds (x ∷ xs) = Held x × Helds xs

pub held_list : (xs : List Spelling) → Helds xs → Held (flat_map (λ s. s) xs)
held_list [] h = λ b bs a rest k. k a
held_list (x ∷ xs) h = held_append x (flat_map (λ s. s) xs) h.0 (held_list xs h.1)

parts_held : (ss : List Stmt) → Each Passes ss → Helds (map (λ s. s.spelling) (map stmt_shape ss))
parts_held [] h = tt
parts_held (s ∷ ss) h = (h.0.whole, parts_held ss h.1)

partner : (a : Bool) → is_partner (brace_after a) brace ≡ true
partner true = refl
partner false = refl

no_end : (a : Bool) (b : Bracket) (bs : List Bracket) → (is_body_bracket (brace_after a) && is_empty (b ∷ bs)) ≡ false
no_end true b bs = refl
no_end false b bs = refl

block_held : (lines : List ℕ) (ss : List Stmt) → Each Passes ss → Held (mark_on lines mark.OpenBrace (statements (map stmt_shape ss)))
block_held lines ss h b bs a rest k =
    in_brackets lines mark.OpenBrace mark.CloseBrace (brace_after a) brace (flat_map (λ s. s) (map (λ s. s.spelling) (map stmt_shape ss))) [] rest (b ∷ bs) a refl (λ c. refl) (partner a) (no_end a b bs)
    (λ after g. held_list (map (λ s. s.spelling) (map stmt_shape ss)) (parts_held ss h) (brace_after a) (b ∷ bs) false after g) (k false)

assign_plain : (op : Option BinOp) (a : Bool) → mark_effect a (assign_mark op) ≡ none
assign_plain None a = refl
assign_plain (Some binary.Or) a = refl
assign_plain (Some binary.And) a = refl
assign_plain (Some binary.BitOr) a = refl
assign_plain (Some binary.Xor) a = refl
assign_plain (Some binary.BitAnd) a = refl
assign_plain (Some binary.Equal) a = refl
assign_plain (Some binary.Unequal) a = refl
assign_plain (Some binary.Less) a = refl
assign_plain (Some binary.Greater) a = refl
assign_plain (Some binary.AtMost) a = refl
assign_plain (Some binary.AtLeast) a = refl
assign_plain (Some binary.Left) a = refl
assign_plain (Some binary.Right) a = refl
assign_plain (Some binary.Add) a = refl
assign_plain (Some binary.Sub) a = refl
assign_plain (Some binary.Mul) a = refl
assign_plain (Some binary.Div) a = refl
assign_plain (Some binary.Rem) a = refl

bump_plain : (up a : Bool) → mark_effect a (bump_mark up) ≡ none
bump_plain true a = refl
bump_plain false a = refl

-- what is known of one level
record Passing (s : StmtShape) : Type 0 where
  whole : Held s.spelling
  bare : Through s.bare

before_end : (s : StmtShape) → s.spelling ≡ s.bare ++ put_mark mark.Semicolon [] → Through s.bare → Passing s
before_end s e h = record { whole = subst Held (sym e) (held_semicolon s.bare h); bare = h }

first_held : (s : Option Stmt) → Maybe Passes s → Held (head_first (option_map stmt_shape s))
first_held None h = ended []
first_held (Some s) h = h.whole

test_through : (e : Option Expr) → Through (head_test e)
test_through None = nothing_through
test_through (Some e) = expr_through e

next_through : (s : Option Stmt) → Maybe Passes s → Through (head_next (option_map stmt_shape s))
next_through None h = nothing_through
next_through (Some s) h = h.bare

for_held : (a : Option Stmt) (t : Option Expr) (n : Option Stmt) (s : Stmt) (l c : ℕ) → Maybe Passes a → Maybe Passes n → Passes s → Held (for_shape a t n s l c).spelling
for_held a t n s l c ha hn hs =
    keyed (l ∷ c ∷ []) key.For (put_mark mark.OpenParen (head_first (option_map stmt_shape a) ++ (head_test t ++ put_mark mark.Semicolon (head_next (option_map stmt_shape n) ++ put_mark mark.CloseParen (stmt_shape s).spelling))))
    (λ b bs x rest k. open_step [] mark.OpenParen round ((head_first (option_map stmt_shape a) ++ (head_test t ++ put_mark mark.Semicolon (head_next (option_map stmt_shape n) ++ put_mark mark.CloseParen (stmt_shape s).spelling))) ++ rest) (b ∷ bs) x refl
    (reassoc (head_first (option_map stmt_shape a)) (head_test t ++ put_mark mark.Semicolon (head_next (option_map stmt_shape n) ++ put_mark mark.CloseParen (stmt_shape s).spelling)) rest (round ∷ b ∷ bs) false
    (first_held a ha round (b ∷ bs) false ((head_test t ++ put_mark mark.Semicolon (head_next (option_map stmt_shape n) ++ put_mark mark.CloseParen (stmt_shape s).spelling)) ++ rest)
    (λ y. reassoc (head_test t) (put_mark mark.Semicolon (head_next (option_map stmt_shape n) ++ put_mark mark.CloseParen (stmt_shape s).spelling)) rest (round ∷ b ∷ bs) y
    (test_through t (round ∷ b ∷ bs) y (put_mark mark.Semicolon (head_next (option_map stmt_shape n) ++ put_mark mark.CloseParen (stmt_shape s).spelling) ++ rest)
    (λ z. semicolon_step [] ((head_next (option_map stmt_shape n) ++ put_mark mark.CloseParen (stmt_shape s).spelling) ++ rest) round (b ∷ bs) z
    (reassoc (head_next (option_map stmt_shape n)) (put_mark mark.CloseParen (stmt_shape s).spelling) rest (round ∷ b ∷ bs) false
    (next_through n hn (round ∷ b ∷ bs) false (put_mark mark.CloseParen (stmt_shape s).spelling ++ rest)
    (λ w. close_step mark.CloseParen round round ((stmt_shape s).spelling ++ rest) (b ∷ bs) w refl refl refl (hs.whole b bs true rest k))))))))))
  where
    reassoc : (ms ns rest : Spelling) (bs : List Bracket) (a : Bool) → Ends bs a (ms ++ (ns ++ rest)) → Ends bs a ((ms ++ ns) ++ rest)
    reassoc ms ns rest bs a h = subst (λ (y : Spelling). Ends bs a y) (sym (append_assoc ms ns rest)) h

only_whole : (s : StmtShape) → s.bare ≡ [] → Held s.spelling → Passing s
only_whole s e h = record { whole = h; bare = subst Through (sym e) nothing_through }

stmt_step : (x : Act-F Act Stmt) (l c : ℕ) → StmtParts Passes x → Passing (act_step (stmt_shaped x) l c)
stmt_step act.Empty l c h = only_whole _ refl (ended (l ∷ c ∷ []))
stmt_step (act.Block ss) l c h = only_whole _ refl (block_held (l ∷ c ∷ []) ss h)
stmt_step (act.Set op a b) l c h =
    before_end _ refl (through_append (first_on (l ∷ []) (shape a).spelling) (mark_at c (assign_mark op) (shape b).spelling) (first_through (l ∷ []) (shape a).spelling (expr_through a)) (plain_through (c ∷ []) (sign.Mark (assign_mark op)) (shape b).spelling (assign_plain op) (expr_through b)))
stmt_step (act.Bump up true a) l c h = before_end _ refl (plain_through (l ∷ c ∷ []) (sign.Mark (bump_mark up)) (shape a).spelling (bump_plain up) (expr_through a))
stmt_step (act.Bump up false a) l c h =
    before_end _ refl (through_append (first_on (l ∷ []) (shape a).spelling) (mark_at c (bump_mark up) []) (first_through (l ∷ []) (shape a).spelling (expr_through a)) (plain_through (c ∷ []) (sign.Mark (bump_mark up)) [] (bump_plain up) nothing_through))
stmt_step (act.Call e) l c h = before_end _ refl (first_through (l ∷ c ∷ []) (shape e).spelling (expr_through e))
stmt_step (act.If t s None) l c h = only_whole _ refl (keyed (l ∷ c ∷ []) key.If (test_then t (stmt_shape s).spelling) (tested t (stmt_shape s).spelling h.0.whole))
stmt_step (act.If t s (Some u)) l c h =
    only_whole _ refl (keyed (l ∷ c ∷ []) key.If (test_then t ((stmt_shape s).spelling ++ put_key key.Else (stmt_shape u).spelling)) (tested t ((stmt_shape s).spelling ++ put_key key.Else (stmt_shape u).spelling) (held_append (stmt_shape s).spelling (put_key key.Else (stmt_shape u).spelling) h.0.whole (keyed [] key.Else (stmt_shape u).spelling h.1.whole))))
stmt_step (act.While t s) l c h = only_whole _ refl (keyed (l ∷ c ∷ []) key.While (test_then t (stmt_shape s).spelling) (tested t (stmt_shape s).spelling h.whole))
stmt_step (act.DoWhile s t) l c h =
    only_whole _ refl (keyed (l ∷ c ∷ []) key.Do ((stmt_shape s).spelling ++ put_key key.While (test_then t (put_mark mark.Semicolon []))) (held_append (stmt_shape s).spelling (put_key key.While (test_then t (put_mark mark.Semicolon []))) h.whole (keyed [] key.While (test_then t (put_mark mark.Semicolon [])) (tested t (put_mark mark.Semicolon []) (ended [])))))
stmt_step (act.For a t n s) l c h = subst Passing (sym (for_is a t n s l c)) (only_whole (for_shape a t n s l c) refl (for_held a t n s l c h.0 h.1 h.2))
stmt_step (act.Return None) l c h = only_whole _ refl (keyed (l ∷ c ∷ []) key.Return (put_mark mark.Semicolon []) (ended []))
stmt_step (act.Return (Some e)) l c h = only_whole _ refl (keyed (l ∷ c ∷ []) key.Return ((shape e).spelling ++ put_mark mark.Semicolon []) (held_semicolon (shape e).spelling (expr_through e)))
stmt_step act.Break l c h = only_whole _ refl (keyed (l ∷ c ∷ []) key.Break (put_mark mark.Semicolon []) (ended []))
stmt_step act.Continue l c h = only_whole _ refl (keyed (l ∷ c ∷ []) key.Continue (put_mark mark.Semicolon []) (ended []))
stmt_step (act.Declare d) l c h = before_end _ refl (declaration_through (l ∷ c ∷ []) d)
stmt_step (act.Cle p) l c h = only_whole _ refl (λ b bs a rest k. step (record { what = is (sign.Cle p); lines = l ∷ c ∷ [] }) rest (b ∷ bs) a refl (k false))

stmt_passes : (s : Stmt) → Passes s
stmt_passes = stmt_induction Passes (λ s h. by s (stmt_step (out-Act s.node) s.line s.second h))
  where
    by : (s : Stmt) → Passing (act_step (stmt_shaped (out-Act s.node)) s.line s.second) → Passes s
    by s p = let q : Passing (stmt_shape s) = subst Passing (sym (stmt_shape_is s)) p in record { whole = q.whole; bare = q.bare }

pub all_held : (ss : List Stmt) → Helds (map (λ s. s.spelling) (map stmt_shape ss))
all_held [] = tt
all_held (s ∷ ss) = ((let p = stmt_passes s in p.whole), all_held ss)
