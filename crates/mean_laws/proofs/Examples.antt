-- Expressions computed, from their trees. The folds compute by their equations, one node at a time.
use Rattle.std.proofs.Common.{◌≡◌, ℕ, pos, [], ◌∷◌, refl, ap, ◌∙◌}
use Rattle.cl_tree.specs.declared.tree.Expr.{Expr}
use Rattle.cl_tree.specs.declared.tree.Node.{Node, Node-F}
use Rattle.cl_tree.specs.declared.tree.Node.TheVariants as made
use Rattle.cl_tree.specs.declared.tree.Node.TheVariants.{outs-Number, outs-Binary}
use Rattle.cl_tree.specs.declared.tree.Node.TheOpen as node
use Rattle.cl_tree.specs.declared.kinds.IntKind.{IntKind}
use Rattle.cl_tree.specs.declared.kinds.IntKind.TheVariants.{I32, U32}
use Rattle.cl_tree.specs.declared.kinds.BinOp.{BinOp}
use Rattle.cl_tree.specs.declared.kinds.BinOp.TheVariants.{Add, Div}
use Rattle.cl_tree.specs.declared.kinds.TrapCause.TheVariants.{Overflow, Divide}
use Rattle.cl_tree.specs.Arithmetic.{apply, value, width, is_signed, least, beyond, fits, residue, settled, is_shift, rank, promoted, common, balanced, higher, truth, is_zero, quotient}
use Rattle.cl_mean.specs.Value.{bare, number}
use Rattle.cl_mean.specs.State.{State, silent}
use Rattle.cl_mean.specs.Source.{Source}
use Rattle.cl_mean.specs.Course.{comes, stops, traps}
use Rattle.cl_mean.specs.Evaluation.{Scope, Meaning, meaning_of, node_meaning, working_kind, right_kind, given_kind}
use Rattle.cl_mean.specs.Meaning.{no_calls, no_function}
use Rattle.mean_laws.proofs.Induction.{meant, meaning_is}
use Rattle.mean_laws.proofs.Expressions.{two_same}

abbrev blank : Source
blank = record { structs = []; functions = []; statics = []; globals = []; rows = [] }

abbrev scope : Scope
scope = record { source = blank; calls = no_calls; here = no_function }

abbrev start : State
start = silent ∷ []

abbrev at : Node → Expr
at n = record { line = 7; second = 7; node = n }

abbrev literal : IntKind → ℕ → Expr
literal kind n = at (made.Number n kind)

abbrev sum : BinOp → IntKind → ℕ → ℕ → Expr
sum op kind a b = at (made.Binary op (literal kind a) (literal kind b))

abbrev one_level : Node-F Node Expr → Meaning
one_level x = node_meaning scope [] (meant scope [] x) 7 7

abbrev literal_means : IntKind → ℕ → Meaning
literal_means kind n = node_meaning scope [] (node.Number n kind) 7 7

literal_is : (kind : IntKind) (n : ℕ) → meaning_of scope [] (literal kind n) ≡ literal_means kind n
literal_is kind n = meaning_is scope [] (literal kind n) ∙ ap one_level (outs-Number n kind)

sum_is : (op : BinOp) (kind : IntKind) (a b : ℕ) → meaning_of scope [] (sum op kind a b) ≡ node_meaning scope [] (node.Binary op (literal_means kind a) (literal_means kind b)) 7 7
sum_is op kind a b =
    meaning_is scope [] (sum op kind a b) ∙ ap one_level (outs-Binary op (literal kind a) (literal kind b))
    ∙ two_same (λ (m n : Meaning). node_meaning scope [] (node.Binary op m n) 7 7) _ _ _ _ (literal_is kind a) (literal_is kind b)

-- 1 + 2
adds : (meaning_of scope [] (sum Add I32 1 2)).value start ≡ comes (number (bare (pos 3))) start
unfolding apply value width is_signed least beyond fits residue settled is_shift rank promoted common balanced higher truth is_zero working_kind right_kind given_kind
adds = ap (λ (m : Meaning). m.value start) (sum_is Add I32 1 2) ∙ refl

-- 4294967295u + 1u
wraps : (meaning_of scope [] (sum Add U32 4294967295 1)).value start ≡ comes (number (bare (pos 0))) start
unfolding apply value width is_signed least beyond fits residue settled is_shift rank promoted common balanced higher truth is_zero working_kind right_kind given_kind
wraps = ap (λ (m : Meaning). m.value start) (sum_is Add U32 4294967295 1) ∙ refl

-- 2147483647 + 1
overflows : (meaning_of scope [] (sum Add I32 2147483647 1)).value start ≡ stops (traps 0 (record { cause = Overflow; line = 7 })) start
unfolding apply value width is_signed least beyond fits residue settled is_shift rank promoted common balanced higher truth is_zero working_kind right_kind given_kind
overflows = ap (λ (m : Meaning). m.value start) (sum_is Add I32 2147483647 1) ∙ refl

-- 1 / 0
divides : (meaning_of scope [] (sum Div I32 1 0)).value start ≡ stops (traps 0 (record { cause = Divide; line = 7 })) start
unfolding apply value width is_signed least beyond fits residue settled is_shift rank promoted common balanced higher truth is_zero working_kind right_kind given_kind quotient
divides = ap (λ (m : Meaning). m.value start) (sum_is Div I32 1 0) ∙ refl
