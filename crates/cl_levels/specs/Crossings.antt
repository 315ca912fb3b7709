-- Calls across levels and their rows: E26 to E30.
use Rattle.std.specs.Prelude.{◌≡◌, ◌⊎◌, ◌<◌, ℕ, suc, Bool, true, false, not, ◌==◌, ◌&&◌, ◌||◌, nat_le, List, [], ◌∷◌, ◌++◌, map, take, filter, Option, Some, None, is_some, slice_get, slice_index_or, Contains, if◌then◌else◌}
use Rattle.std.specs.List.{flat_map, list_any}
use Rattle.cl_base.specs.declared.limits.TheConstants.{PAYLOAD_BYTES}
use Rattle.cl_tree.specs.declared.tree.CType.{CType, CType-F, out-CType}
use Rattle.cl_tree.specs.declared.tree.CType.TheOpen as ctype
use Rattle.cl_tree.specs.declared.tree.Declarator.{Declarator}
use Rattle.cl_mean.specs.declared.checked.FnFact.{FnFact}
use Rattle.cl_mean.specs.declared.checked.GedlArg.{GedlArg}
use Rattle.cl_mean.specs.declared.checked.GedlRow.{GedlRow}
use Rattle.cl_mean.specs.declared.checked.GedlRows.{GedlRows}
use Rattle.cl_mean.specs.declared.checked.Levels.{Levels}
use Rattle.cl_mean.specs.declared.labels.Direction.{Direction}
use Rattle.cl_mean.specs.declared.labels.Direction.TheVariants.{Bidirectional}
use Rattle.cl_mean.specs.declared.labels.Entry.{Entry}
use Rattle.cl_mean.specs.declared.labels.LabelFact.{LabelFact}
use Rattle.cl_mean.specs.Judging.{entry_for}
use Rattle.cl_mean.specs.Shape.{structs_of, kinds_of, total_size}
use Rattle.cl_mean.specs.Source.{label_at, entries_of, no_item}
use Rattle.cl_typing.specs.Rules.{Lines, unless}
use Rattle.cl_labelling.specs.Fits.{Signature, defined_by, payload}
use Rattle.cl_reach.specs.Reach.{Reaches}
use Rattle.cl_levels.specs.Placed.{Places, PlacedRule, placed, listed}
use Rattle.cl_levels.specs.declared.uses.Variable.{Variable}
use Rattle.cl_levels.specs.declared.uses.Variable.TheVariants.{Static}
use Rattle.cl_levels.specs.declared.uses.Call.{Call}
use Rattle.cl_levels.specs.declared.uses.Use.{Use}
use Rattle.cl_levels.specs.declared.uses.Use.TheVariants.{Named, Called}
use Rattle.cl_levels.specs.Uses.{of_each}
use Rattle.cl_levels.specs.Levels.{Annotated, function, label_of, Names, Calls, no_fact, two_levels, foreign_names}

-- ---- calls

abbrev pub call_in : ℕ → Use → List Call
call_in f (Named k line) = []
call_in f (Called g roots line) = record { caller = f; callee = g; line = line } ∷ []

-- all calls of functions of the program by others, in the order of the source
unfoldable pub calls_of : Annotated → List Call
calls_of a = of_each call_in a.typed

-- a program with its levels
pub record Levelled : Type 0 where
  pub annotated : Annotated
  pub levels : Levels

abbrev pub level_of : Levelled → ℕ → ℕ
level_of l f = slice_index_or l.levels.of_functions f 0

-- Caller and callee have different levels.
abbrev pub is_crossing : Levelled → Call → Bool
is_crossing l c = not (level_of l c.caller == level_of l c.callee)

unfoldable pub crossings_of : Levelled → List Call
crossings_of l = filter (is_crossing l) (calls_of l.annotated)

-- ---- E26 and E27: the entry of the callee's label for the caller's level

abbrev pub label_fact : Levelled → ℕ → Option LabelFact
label_fact l f = label_at l.annotated.labels.labels (label_of l.annotated (function f))

abbrev pub call_entry : Levelled → Call → Option Entry
call_entry l c = entry_for (entries_of (label_fact l c.callee)) (level_of l c.caller)

unfoldable pub no_entry : Levelled → Lines
no_entry l = flat_map (λ c. unless (is_some (call_entry l c)) c.line) (crossings_of l)

abbrev pub goes_both_ways : Option Entry → Bool
goes_both_ways None = false
goes_both_ways (Some e) = by e.direction
  where
    by : Direction → Bool
    by Bidirectional = true
    by _ = false

unfoldable pub wrong_direction : Levelled → Lines
wrong_direction l = flat_map (λ c. unless (goes_both_ways (call_entry l c)) c.line) (crossings_of l)

-- ---- E28: levels call in a cycle

-- one of these calls leads from a level to another
abbrev pub Edge : Levelled → List Call → ℕ → ℕ → Type 0
Edge l cs from to = (c : Call) × (Contains cs c × ((level_of l c.caller ≡ from) × (level_of l c.callee ≡ to)))

abbrev pub HasCycle : Levelled → List Call → Type 0
HasCycle l cs = (from : ℕ) × ((to : ℕ) × (Edge l cs from to × Reaches (Edge l cs) (λ x. x ≡ to) from))

-- the crossing calls up to this one
abbrev pub cycle_of_levels : Levelled → Places
cycle_of_levels l position line =
    (c : Call) × ((slice_get (crossings_of l) position ≡ Some c) × ((c.line ≡ line) × HasCycle l (take (suc position) (crossings_of l))))

-- ---- E29: an array argument has an alias

-- how a function is declared where it is defined
abbrev pub signatures_at : Annotated → ℕ → List Signature
signatures_at a f = defined_by (slice_index_or a.typed.program.items (slice_index_or a.typed.functions f no_fact).item no_item)

abbrev pub params_of : List Signature → List Declarator
params_of [] = []
params_of (s ∷ ss) = s.params

abbrev pub is_array : CType-F CType → Bool
is_array (ctype.Array element size) = true
is_array _ = false

abbrev pub maybe_root : Option Variable → List Variable
maybe_root None = []
maybe_root (Some v) = v ∷ []

-- the variables at the roots of array arguments
unfoldable pub array_roots : List Declarator → List (Option Variable) → List Variable
array_roots (d ∷ ds) (r ∷ rs) = (if is_array (out-CType d.ctype) then maybe_root r else []) ++ array_roots ds rs
array_roots _ _ = []

-- what a call lends to its callee
pub record Loan : Type 0 where
  pub callee : ℕ
  pub lent : List Variable
  pub line : ℕ

abbrev pub loan_in : Annotated → ℕ → Use → List Loan
loan_in a f (Named k line) = []
loan_in a f (Called g roots line) = record { callee = g; lent = array_roots (params_of (signatures_at a g)) roots; line = line } ∷ []

-- the loans of all calls, in the order of the source
unfoldable pub loans_of : Annotated → List Loan
loans_of a = of_each (loan_in a) a.typed

-- two arguments have the same root
abbrev pub LentTwice : List Variable → Type 0
LentTwice vs = (i : ℕ) × ((j : ℕ) × ((v : Variable) × ((i < j) × ((slice_get vs i ≡ Some v) × (slice_get vs j ≡ Some v)))))

-- The callee, or a function that is reached from it by calls, names an object that is lent to it.
abbrev pub NamesLent : Annotated → Loan → Type 0
NamesLent a loan =
    (k : ℕ) × (Contains loan.lent (Static k) × ((h : ℕ) × (Reaches (Calls a) (λ g. g ≡ loan.callee) h × Names a h k)))

abbrev pub aliased : Annotated → Places
aliased a position line =
    (loan : Loan) × ((slice_get (loans_of a) position ≡ Some loan) × ((loan.line ≡ line) × (LentTwice loan.lent ⊎ NamesLent a loan)))

-- ---- rows

abbrev pub payload_bytes : Annotated → ℕ → Bool → ℕ
payload_bytes a f reply = by (signatures_at a f)
  where
    by : List Signature → ℕ
    by [] = 0
    by (s ∷ ss) = total_size (kinds_of (payload (structs_of a.typed.program.items) s reply))

-- E30: the functions that other levels call and that have a wide payload, by their names
abbrev pub is_wide : Annotated → ℕ → Bool
is_wide a f = not (nat_le (payload_bytes a f false) PAYLOAD_BYTES) || not (nat_le (payload_bytes a f true) PAYLOAD_BYTES)

unfoldable pub wide_from : Levelled → ℕ → List FnFact → Lines
wide_from l f [] = []
wide_from l f (fact ∷ facts) =
    unless (not (is_wide l.annotated f && list_any (λ c. c.callee == f) (crossings_of l))) fact.line ++ wide_from l (suc f) facts

unfoldable pub too_wide : Levelled → Lines
too_wide l = wide_from l 0 l.annotated.typed.functions

-- Rows are sorted by the numbers of the caller's level, the callee's level and the function.
abbrev pub Before : GedlRow → GedlRow → Type 0
Before r s =
    (r.from < s.from) ⊎ ((r.from ≡ s.from) × ((r.to < s.to) ⊎ ((r.to ≡ s.to) × (r.function < s.function))))

abbrev pub Sorted : List GedlRow → Type 0
Sorted rows = (i : ℕ) (r s : GedlRow) → slice_get rows i ≡ Some r → slice_get rows (suc i) ≡ Some s → Before r s

-- a row is that of a call
pub record IsRowOf (l : Levelled) (c : Call) (r : GedlRow) : Type 0 where
  pub from : r.from ≡ level_of l c.caller
  pub to : r.to ≡ level_of l c.callee
  pub function : r.function ≡ c.callee

abbrev pub args_of : List Declarator → List GedlArg
args_of ds = map (λ d. record { name = d.name; ctype = d.ctype }) ds

-- what a row says of its function and of the entry by which it is called
pub record IsRow (l : Levelled) (r : GedlRow) : Type 0 where
  pub call : (c : Call) × (Contains (crossings_of l) c × (IsRowOf l c r × ((e : Entry) × ((call_entry l c ≡ Some e) × ((r.operation ≡ e.operation) × (r.oneway ≡ e.oneway))))))
  pub signature : (s : Signature) × ((slice_get (signatures_at l.annotated r.function) 0 ≡ Some s) × ((r.name ≡ s.name) × ((r.args ≡ args_of s.params) × (r.result ≡ s.result))))
  pub label : (f : LabelFact) × ((label_fact l r.function ≡ Some f) × (r.label ≡ f.name))
  pub request : r.request ≡ payload_bytes l.annotated r.function false
  pub reply : r.reply ≡ payload_bytes l.annotated r.function true

-- the rows of a program's crossing calls
pub record AreRows (l : Levelled) (rows : GedlRows) : Type 0 where
  pub levels : rows.levels ≡ l.annotated.labels.levels
  pub main : rows.main ≡ l.levels.main
  pub sorted : Sorted rows.rows
  pub sound : (r : GedlRow) → Contains rows.rows r → IsRow l r
  pub complete : (c : Call) → Contains (crossings_of l) c → (r : GedlRow) × (Contains rows.rows r × IsRowOf l c r)

-- ---- the rules in their order

abbrev pub level_rules : Annotated → List PlacedRule
level_rules a = placed 24 (two_levels a) ∷ placed 25 (listed (foreign_names a)) ∷ []

abbrev pub crossing_rules : Levelled → List PlacedRule
crossing_rules l =
    placed 26 (listed (no_entry l)) ∷ placed 27 (listed (wrong_direction l)) ∷ placed 28 (cycle_of_levels l)
    ∷ placed 29 (aliased l.annotated) ∷ placed 30 (listed (too_wide l)) ∷ []
