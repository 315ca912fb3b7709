-- A program that is read is of its form, and one of a form is read.
use Rattle.std.proofs.Common.{◌≡◌, ℕ, List, [], ◌∷◌, refl, subst, sym, ap, ◌∙◌, Bool, true, not, ◌&&◌, Some, None, bytes_eq, codes}
use Rattle.std.specs.List.{list_all, list_any}
use Rattle.cl_tree.specs.declared.token.Pragma.TheVariants.{Def, Next}
use Rattle.cl_tree.specs.declared.tree.Stmt.{Stmt}
use Rattle.cl_tree.specs.declared.tree.Item.{Item}
use Rattle.cl_tree.specs.declared.tree.Item.TheVariants.{Cle}
use Rattle.cl_tree.specs.declared.tree.Program.{Program}
use Rattle.cl_tree.specs.Words.{Word}
use Rattle.cl_mean.specs.declared.checked.Checked.{Checked}
use Rattle.cl_read.specs.Source.{ReadsWithin}
use Rattle.cl_form.specs.declared.names.Alone.{Alone}
use Rattle.cl_form.specs.declared.names.Pair.{Pair}
use Rattle.cl_form.specs.declared.names.Found.{Found}
use Rattle.cl_form.specs.Form.{is_level, level_text, pair_text, def_line, head_lines, function_item, variable_item, is_main_statement, is_other_statement, ends_in_return, statement_calls, is_pair, alone_program, alone_checked, Bodies, pair_program, pair_checked, HasOneLevel, HasTwoLevels}
use Rattle.cl_form.specs.Reading.{◌>>=◌, where_true, is_headed, level_def, label_at, variable_of, function_of, function_name, is_main, is_other, alone_of, read_alone, names_of, is_def, is_next, is_bound, bound, functions_of, pair_of, read_pair}
use Rattle.cl_form.proofs.Steps.{and_intro, and_elim, some_of, some_is, bind_some, where_some, where_so}
use Rattle.cl_form.proofs.Parts.{same_is, headed_sound, headed_complete, level_def_sound, level_def_complete, is_def_true, is_def_self, is_next_true, is_next_self, variable_sound, variable_complete, function_sound, function_complete}

abbrev Header : Type 0
Header = Word × ℕ × List Stmt

-- ---- one level

record IsAlone (items : List Item) (a : Alone) : Type 0 where
  line : ℕ
  body : List Stmt
  items_are : items ≡ (alone_program a.label a.level line a.line body).items
  levelled : is_level a.level ≡ true
  statements : list_all (is_main_statement None) body ≡ true

main_item : (i : Item) (x : Header) (line : ℕ) → i ≡ function_item x.0 line x.1 x.2 → bytes_eq x.0 (codes "main") ≡ true → i ≡ function_item (codes "main") line x.1 x.2
main_item i x line e f = e ∙ ap (λ (n : Word). function_item n line x.1 x.2) (same_is x.0 (codes "main") f)

alone_sound : (items : List Item) (a : Alone) → alone_of items ≡ Some a → IsAlone items a
unfolding alone_of
alone_sound (l ∷ m ∷ []) a e =
    let x = bind_some (level_def 1 l) (λ x. function_of m >>= λ y. where_true (is_main None y.0 y.2) (record { label = x.0; level = x.1; line = y.1 })) a e in
    let y = bind_some (function_of m) (λ y. where_true (is_main None y.0 y.2) (record { label = x.0.0; level = x.0.1; line = y.1 })) a x.2 in
    let found : Alone = record { label = x.0.0; level = x.0.1; line = y.0.1 } in
    let w = where_some (is_main None y.0.0 y.0.2) found a y.2 in
    let q = and_elim (bytes_eq y.0.0 (codes "main")) (list_all (is_main_statement None) y.0.2) w.0 in
    let s = level_def_sound 1 l x.0 x.1 in
    let f = function_sound m y.0 y.1 in
    let both : l ∷ m ∷ [] ≡ (alone_program x.0.0 x.0.1 f.0 y.0.1 y.0.2).items =
    ap (λ (z : Item). z ∷ m ∷ []) s.0 ∙ ap (λ (z : Item). Cle (Def x.0.0 (level_text x.0.1)) 1 ∷ z ∷ []) (main_item m y.0 f.0 f.1 q.0) in
    let made : IsAlone (l ∷ m ∷ []) found = record { line = f.0; body = y.0.2; items_are = both; levelled = s.1; statements = q.1 } in
    subst (λ (z : Alone). IsAlone (l ∷ m ∷ []) z) w.1 made
alone_sound [] a e = absurd cc
alone_sound (l ∷ []) a e = absurd cc
alone_sound (l ∷ m ∷ k ∷ ks) a e = absurd cc

alone_complete : (label level : Word) (line second : ℕ) (body : List Stmt) → is_level level ≡ true → list_all (is_main_statement None) body ≡ true
    → alone_of (alone_program label level line second body).items ≡ Some (record { label = label; level = level; line = second })
unfolding alone_of
alone_complete label level line second body e f = rw (level_def_complete 1 label level e, function_complete (codes "main") line second body, f) refl

pub read_alone_sound : (source : List ℕ) (p : Program) (c : Checked) → ReadsWithin source p → read_alone source p ≡ Some c → HasOneLevel source c
unfolding read_alone
read_alone_sound source p c h e =
    let a = bind_some (alone_of p.items) (λ a. where_true (is_headed (def_line a.label (level_text a.level)) source) (alone_checked p a.level a.line)) c e in
    let w = where_some (is_headed (def_line a.0.label (level_text a.0.level)) source) (alone_checked p a.0.level a.0.line) c a.2 in
    let s = alone_sound p.items a.0 a.1 in
    let t = headed_sound (def_line a.0.label (level_text a.0.level)) source w.0 in
    let same : p ≡ alone_program a.0.label a.0.level s.line a.0.line s.body = ap (λ (all : List Item). record { items = all }) s.items_are in
    record {
      label = a.0.label;
      level = a.0.level;
      rest = t.0;
      line = s.line;
      second = a.0.line;
      body = s.body;
      source_is = t.1;
      levelled = s.levelled;
      plain = t.2;
      reads = subst (λ (q : Program). ReadsWithin source q) same h;
      statements = s.statements;
      checked_is = sym w.1 ∙ ap (λ (q : Program). alone_checked q a.0.level a.0.line) same;
    }

pub read_alone_complete : (source : List ℕ) (c : Checked) (h : HasOneLevel source c) → read_alone source (alone_program h.label h.level h.line h.second h.body) ≡ Some c
unfolding read_alone
read_alone_complete source c h =
    rw (alone_complete h.label h.level h.line h.second h.body h.levelled h.statements, headed_complete (def_line h.label (level_text h.level)) source h.rest h.source_is h.plain)
    (ap (λ (d : Checked). some_of d) (sym h.checked_is))

-- ---- two levels

abbrev pair_of_names : Word × Word → Word × Word → Word → Word → Word → Word → Pair
pair_of_names n v r l x g = record { near = n.1; far = v.1; near_label = n.0; variable_label = v.0; result_label = r; function_label = l; variable_name = x; function_name = g }

record IsNames (near variable result function a f : Item) (p : Pair) : Type 0 where
  near_is : near ≡ Cle (Def p.near_label (level_text p.near)) 1
  variable_is : variable ≡ Cle (Def p.variable_label (level_text p.far)) 2
  a_is : a ≡ variable_item p.variable_name
  f_is : function_name f ≡ Some p.function_name

names_sound : (near variable result function a f : Item) (p : Pair) → names_of near variable result function a f ≡ Some p → IsNames near variable result function a f p
unfolding names_of
names_sound near variable result function a f p e =
    let n = bind_some (level_def 1 near) (λ n. level_def 2 variable >>= λ v. label_at 3 result >>= λ r. label_at 4 function >>= λ l. variable_of a >>= λ x. function_name f >>= λ g. some_of (pair_of_names n v r l x g)) p e in
    let v = bind_some (level_def 2 variable) (λ v. label_at 3 result >>= λ r. label_at 4 function >>= λ l. variable_of a >>= λ x. function_name f >>= λ g. some_of (pair_of_names n.0 v r l x g)) p n.2 in
    let r = bind_some (label_at 3 result) (λ r. label_at 4 function >>= λ l. variable_of a >>= λ x. function_name f >>= λ g. some_of (pair_of_names n.0 v.0 r l x g)) p v.2 in
    let l = bind_some (label_at 4 function) (λ l. variable_of a >>= λ x. function_name f >>= λ g. some_of (pair_of_names n.0 v.0 r.0 l x g)) p r.2 in
    let x = bind_some (variable_of a) (λ x. function_name f >>= λ g. some_of (pair_of_names n.0 v.0 r.0 l.0 x g)) p l.2 in
    let g = bind_some (function_name f) (λ g. some_of (pair_of_names n.0 v.0 r.0 l.0 x.0 g)) p x.2 in
    let found : Pair = pair_of_names n.0 v.0 r.0 l.0 x.0 g.0 in
    let made : IsNames near variable result function a f found = record {
      near_is = (level_def_sound 1 near n.0 n.1).0;
      variable_is = (level_def_sound 2 variable v.0 v.1).0;
      a_is = variable_sound a x.0 x.1;
      f_is = g.1;
    } in
    subst (λ (q : Pair). IsNames near variable result function a f q) (some_is found p g.2) made

names_complete : (p : Pair) (result_text text : List ℕ) (line second : ℕ) (body : List Stmt) → is_level p.near ≡ true → is_level p.far ≡ true
    → names_of (Cle (Def p.near_label (level_text p.near)) 1) (Cle (Def p.variable_label (level_text p.far)) 2) (Cle (Def p.result_label result_text) 3) (Cle (Def p.function_label text) 4) (variable_item p.variable_name) (function_item p.function_name line second body) ≡ Some p
unfolding names_of
names_complete p result_text text line second body e f =
    rw (level_def_complete 1 p.near_label p.near e, level_def_complete 2 p.variable_label p.far f, variable_complete p.variable_name, function_complete p.function_name line second body) refl

record IsBound (p : Pair) (result function next_variable next_function : Item) : Type 0 where
  pair : is_pair p ≡ true
  result_is : result ≡ Cle (Def p.result_label (level_text p.near)) 3
  function_is : function ≡ Cle (Def p.function_label (pair_text p)) 4
  next_variable_is : next_variable ≡ Cle (Next p.variable_label) 5
  next_function_is : next_function ≡ Cle (Next p.function_label) 7

bound_sound : (p q : Pair) (result function next_variable next_function : Item) → bound p result function next_variable next_function ≡ Some q → (p ≡ q) × IsBound p result function next_variable next_function
unfolding bound is_bound
bound_sound p q result function next_variable next_function e =
    let a = is_def 3 p.result_label (level_text p.near) result in
    let b = is_def 4 p.function_label (pair_text p) function in
    let c = is_next 5 p.variable_label next_variable in
    let d = is_next 7 p.function_label next_function in
    let w = where_some (is_pair p && (a && (b && (c && d)))) p q e in
    let x = and_elim (is_pair p) (a && (b && (c && d))) w.0 in
    let y = and_elim a (b && (c && d)) x.1 in
    let z = and_elim b (c && d) y.1 in
    let u = and_elim c d z.1 in (
      w.1,
      record {
        pair = x.0;
        result_is = is_def_true 3 p.result_label (level_text p.near) result y.0;
        function_is = is_def_true 4 p.function_label (pair_text p) function z.0;
        next_variable_is = is_next_true 5 p.variable_label next_variable u.0;
        next_function_is = is_next_true 7 p.function_label next_function u.1;
      },
    )

bound_complete : (p : Pair) → is_pair p ≡ true
    → bound p (Cle (Def p.result_label (level_text p.near)) 3) (Cle (Def p.function_label (pair_text p)) 4) (Cle (Next p.variable_label) 5) (Cle (Next p.function_label) 7) ≡ Some p
unfolding bound is_bound
bound_complete p e =
    where_so _ p (and_intro _ _ e (and_intro _ _ (is_def_self 3 p.result_label (level_text p.near)) (and_intro _ _ (is_def_self 4 p.function_label (pair_text p)) (and_intro _ _ (is_next_self 5 p.variable_label) (is_next_self 7 p.function_label)))))

record AreFunctions (p : Pair) (f main : Item) (x : Found) : Type 0 where
  line : ℕ
  body : List Stmt
  main_line : ℕ
  main_body : List Stmt
  names_are : p ≡ x.names
  f_is : (name : Word) → function_name f ≡ Some name → f ≡ function_item name line x.line body
  main_is : main ≡ function_item (codes "main") main_line x.main_line main_body
  statements : list_all (is_other_statement p.variable_name) body ≡ true
  returns : ends_in_return body ≡ true
  main_statements : list_all (is_main_statement (Some p.function_name)) main_body ≡ true
  crosses_is : list_any statement_calls main_body ≡ x.crosses

abbrev found_of : Pair → Header → Header → Found
found_of p f m = record { names = p; line = f.1; main_line = m.1; crosses = list_any statement_calls m.2 }

named : (f : Item) (x : Header) (line : ℕ) → function_of f ≡ Some x → f ≡ function_item x.0 line x.1 x.2 → (name : Word) → function_name f ≡ Some name → f ≡ function_item name line x.1 x.2
named f x line e g name h =
    let y = bind_some (function_of f) (λ z. some_of z.0) name h in
    let same : x ≡ y.0 = some_is x y.0 (sym e ∙ y.1) in
    let n : x.0 ≡ name = ap (λ (z : Header). z.0) same ∙ some_is y.0.0 name y.2 in
    g ∙ ap (λ (z : Word). function_item z line x.1 x.2) n

functions_sound : (p : Pair) (f main : Item) (x : Found) → functions_of p f main ≡ Some x → AreFunctions p f main x
unfolding functions_of
functions_sound p f main x e =
    let a = bind_some (function_of f) (λ a. function_of main >>= λ m. where_true (is_other p.variable_name a.2 && is_main (Some p.function_name) m.0 m.2) (found_of p a m)) x e in
    let m = bind_some (function_of main) (λ m. where_true (is_other p.variable_name a.0.2 && is_main (Some p.function_name) m.0 m.2) (found_of p a.0 m)) x a.2 in
    let w = where_some (is_other p.variable_name a.0.2 && is_main (Some p.function_name) m.0.0 m.0.2) (found_of p a.0 m.0) x m.2 in
    let q = and_elim (is_other p.variable_name a.0.2) (is_main (Some p.function_name) m.0.0 m.0.2) w.0 in
    let o = and_elim (list_all (is_other_statement p.variable_name) a.0.2) (ends_in_return a.0.2) q.0 in
    let r = and_elim (bytes_eq m.0.0 (codes "main")) (list_all (is_main_statement (Some p.function_name)) m.0.2) q.1 in
    let s = function_sound f a.0 a.1 in
    let t = function_sound main m.0 m.1 in
    let made : AreFunctions p f main (found_of p a.0 m.0) = record {
      line = s.0;
      body = a.0.2;
      main_line = t.0;
      main_body = m.0.2;
      names_are = refl;
      f_is = named f a.0 s.0 a.1 s.1;
      main_is = main_item main m.0 t.0 t.1 r.0;
      statements = o.0;
      returns = o.1;
      main_statements = r.1;
      crosses_is = refl;
    } in
    subst (λ (z : Found). AreFunctions p f main z) w.1 made

functions_complete : (p : Pair) (b : Bodies) → list_all (is_other_statement p.variable_name) b.body ≡ true → ends_in_return b.body ≡ true → list_all (is_main_statement (Some p.function_name)) b.main_body ≡ true
    → functions_of p (function_item p.function_name b.line b.second b.body) (function_item (codes "main") b.main_line b.main_second b.main_body)
    ≡ Some (record { names = p; line = b.second; main_line = b.main_second; crosses = list_any statement_calls b.main_body })
unfolding functions_of
functions_complete p b e f g =
    rw (function_complete p.function_name b.line b.second b.body, function_complete (codes "main") b.main_line b.main_second b.main_body, e, f, g) refl

-- all but what the source says
record IsTwo (items : List Item) (x : Found) : Type 0 where
  bodies : Bodies
  items_are : items ≡ (pair_program x.names bodies).items
  pair : is_pair x.names ≡ true
  statements : list_all (is_other_statement x.names.variable_name) bodies.body ≡ true
  returns : ends_in_return bodies.body ≡ true
  main_statements : list_all (is_main_statement (Some x.names.function_name)) bodies.main_body ≡ true
  line_is : bodies.second ≡ x.line
  main_line_is : bodies.main_second ≡ x.main_line
  crosses_is : list_any statement_calls bodies.main_body ≡ x.crosses

nine : {a b c d e f g h i a' b' c' d' e' f' g' h' i' : Item} → a ≡ a' → b ≡ b' → c ≡ c' → d ≡ d' → e ≡ e' → f ≡ f' → g ≡ g' → h ≡ h' → i ≡ i'
    → a ∷ b ∷ c ∷ d ∷ e ∷ f ∷ g ∷ h ∷ i ∷ [] ≡ a' ∷ b' ∷ c' ∷ d' ∷ e' ∷ f' ∷ g' ∷ h' ∷ i' ∷ []
nine p1 p2 p3 p4 p5 p6 p7 p8 p9 = rw (p1, p2, p3, p4, p5, p6, p7, p8, p9) refl

two_made : (a b c d e f g h i : Item) (p : Pair) (x : Found) → IsNames a b c d f h p → IsBound p c d e g → AreFunctions p h i x → IsTwo (a ∷ b ∷ c ∷ d ∷ e ∷ f ∷ g ∷ h ∷ i ∷ []) x
two_made a b c d e f g h i p x n k o =
    let two : IsTwo (a ∷ b ∷ c ∷ d ∷ e ∷ f ∷ g ∷ h ∷ i ∷ []) (record { names = p; line = x.line; main_line = x.main_line; crosses = x.crosses }) = record {
      bodies = record { line = o.line; second = x.line; body = o.body; main_line = o.main_line; main_second = x.main_line; main_body = o.main_body };
      items_are = nine n.near_is n.variable_is k.result_is k.function_is k.next_variable_is n.a_is k.next_function_is (o.f_is p.function_name n.f_is) o.main_is;
      pair = k.pair;
      statements = o.statements;
      returns = o.returns;
      main_statements = o.main_statements;
      line_is = refl;
      main_line_is = refl;
      crosses_is = o.crosses_is;
    } in
    subst (λ (q : Pair). IsTwo (a ∷ b ∷ c ∷ d ∷ e ∷ f ∷ g ∷ h ∷ i ∷ []) (record { names = q; line = x.line; main_line = x.main_line; crosses = x.crosses })) o.names_are two

pair_sound : (items : List Item) (x : Found) → pair_of items ≡ Some x → IsTwo items x
unfolding pair_of
pair_sound (a ∷ b ∷ c ∷ d ∷ e ∷ f ∷ g ∷ h ∷ i ∷ []) x eq =
    let n = bind_some (names_of a b c d f h) (λ p. bound p c d e g >>= λ p. functions_of p h i) x eq in
    let k = bind_some (bound n.0 c d e g) (λ p. functions_of p h i) x n.2 in
    let s = bound_sound n.0 k.0 c d e g k.1 in
    let o = subst (λ (p : Pair). functions_of p h i ≡ Some x) (sym s.0) k.2 in
    two_made a b c d e f g h i n.0 x (names_sound a b c d f h n.0 n.1) s.1 (functions_sound n.0 h i x o)
pair_sound [] x eq = absurd cc
pair_sound (a ∷ []) x eq = absurd cc
pair_sound (a ∷ b ∷ []) x eq = absurd cc
pair_sound (a ∷ b ∷ c ∷ []) x eq = absurd cc
pair_sound (a ∷ b ∷ c ∷ d ∷ []) x eq = absurd cc
pair_sound (a ∷ b ∷ c ∷ d ∷ e ∷ []) x eq = absurd cc
pair_sound (a ∷ b ∷ c ∷ d ∷ e ∷ f ∷ []) x eq = absurd cc
pair_sound (a ∷ b ∷ c ∷ d ∷ e ∷ f ∷ g ∷ []) x eq = absurd cc
pair_sound (a ∷ b ∷ c ∷ d ∷ e ∷ f ∷ g ∷ h ∷ []) x eq = absurd cc
pair_sound (a ∷ b ∷ c ∷ d ∷ e ∷ f ∷ g ∷ h ∷ i ∷ j ∷ js) x eq = absurd cc

levels_hold : (p : Pair) → is_pair p ≡ true → (is_level p.near ≡ true) × (is_level p.far ≡ true)
unfolding is_pair
levels_hold p e =
    let a = (and_elim (is_level p.near && (is_level p.far && not (bytes_eq p.near p.far))) _ e).0 in
    let b = and_elim (is_level p.near) (is_level p.far && not (bytes_eq p.near p.far)) a in
    (b.0, (and_elim (is_level p.far) (not (bytes_eq p.near p.far)) b.1).0)

pub read_pair_sound : (source : List ℕ) (p : Program) (c : Checked) → ReadsWithin source p → read_pair source p ≡ Some c → HasTwoLevels source c
unfolding read_pair
read_pair_sound source p c h e =
    let a = bind_some (pair_of p.items) (λ x. where_true (is_headed (head_lines x.names) source) (pair_checked p x.names x.line x.main_line x.crosses)) c e in
    let x : Found = a.0 in
    let w = where_some (is_headed (head_lines x.names) source) (pair_checked p x.names x.line x.main_line x.crosses) c a.2 in
    let s = pair_sound p.items x a.1 in
    let t = headed_sound (head_lines x.names) source w.0 in
    let same : p ≡ pair_program x.names s.bodies = ap (λ (all : List Item). record { items = all }) s.items_are in
    record {
      names = x.names;
      bodies = s.bodies;
      rest = t.0;
      source_is = t.1;
      named = s.pair;
      plain = t.2;
      reads = subst (λ (q : Program). ReadsWithin source q) same h;
      statements = s.statements;
      returns = s.returns;
      main_statements = s.main_statements;
      checked_is = sym w.1 ∙ checked_same x.names p (pair_program x.names s.bodies) x.line s.bodies.second x.main_line s.bodies.main_second x.crosses (list_any statement_calls s.bodies.main_body) same (sym s.line_is) (sym s.main_line_is) (sym s.crosses_is);
    }
  where
    checked_same : (names : Pair) (p q : Program) (l k m n : ℕ) (a b : Bool) → p ≡ q → l ≡ k → m ≡ n → a ≡ b → pair_checked p names l m a ≡ pair_checked q names k n b
    checked_same names p q l k m n a b e f g h = rw (e, f, g, h) refl

pair_complete : (p : Pair) (b : Bodies) → is_pair p ≡ true → list_all (is_other_statement p.variable_name) b.body ≡ true → ends_in_return b.body ≡ true → list_all (is_main_statement (Some p.function_name)) b.main_body ≡ true
    → pair_of (pair_program p b).items ≡ Some (record { names = p; line = b.second; main_line = b.main_second; crosses = list_any statement_calls b.main_body })
unfolding pair_of
pair_complete p b e f g h =
    let l = levels_hold p e in
    rw (names_complete p (level_text p.near) (pair_text p) b.line b.second b.body l.0 l.1, bound_complete p e) (functions_complete p b f g h)

pub read_pair_complete : (source : List ℕ) (c : Checked) (h : HasTwoLevels source c) → read_pair source (pair_program h.names h.bodies) ≡ Some c
unfolding read_pair
read_pair_complete source c h =
    rw (pair_complete h.names h.bodies h.named h.statements h.returns h.main_statements, headed_complete (head_lines h.names) source h.rest h.source_is h.plain)
    (ap (λ (d : Checked). some_of d) (sym h.checked_is))
