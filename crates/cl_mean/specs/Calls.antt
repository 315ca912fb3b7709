-- What a call does.
use Rattle.std.specs.Prelude.{ℕ, zero, suc, true, false, ◌+◌, ◌==◌, List, [], ◌∷◌, ◌++◌, map, length, Option, Some, None, if◌then◌else◌}
use Rattle.cl_tree.specs.declared.kinds.TrapCause.TheVariants.{Return}
use Rattle.cl_mean.specs.declared.labels.Mention.{Mention}
use Rattle.cl_mean.specs.declared.labels.Taints.{Taints}
use Rattle.cl_mean.specs.declared.labels.Entry.{Entry}
use Rattle.cl_mean.specs.Judging.{entry_for}
use Rattle.cl_mean.specs.Value.{once, Labelled, carries_just, Value, no_value, leaves, each}
use Rattle.cl_mean.specs.Shape.{Shape, nothing, array, zero_of, value_from, count_of}
use Rattle.cl_mean.specs.State.{Place, count_step, begin_call, end_call, pay}
use Rattle.cl_mean.specs.Source.{Root, open_to_all, admits, Binding, Env, Parameter, Definition, Source, known_at, row_of, request_of, reply_of, payload_size}
use Rattle.cl_mean.specs.Course.{Ask, Reply, Computation, unbounded, meaningless, pure, halted, trapped, asking, within, fetched, stored, made, ◌>>=◌, ◌>>◌}
use Rattle.cl_mean.specs.Evaluation.{Argument, given, lent, Calls, read_at}
use Rattle.cl_mean.specs.Execution.{Ending, goes_on, breaks, continues, returns, doing_of, in_turn}

-- ---- a call within a level (C11 6.5.2.2)

-- integer and struct parameters are fresh objects; an array parameter is a name for the caller's object
abbrev pub parameter : Parameter → Place → List Mention → Binding
parameter p place labels = record { name = p.name; shape = p.shape; place = place; labels = labels; root = p.root }

-- the names that are known with the parameters; each has its argument
abbrev pub with_parameters : ℕ → List Parameter → List Argument → Env → Computation Env
with_parameters level [] [] env = pure env
with_parameters level [] (a ∷ args) env = halted meaningless
with_parameters level (p ∷ ps) [] env = halted meaningless
with_parameters level (p ∷ ps) (given v ∷ args) env = made level v >>= λ place. with_parameters level ps args (parameter p place [] ∷ env)
with_parameters level (p ∷ ps) (lent s ∷ args) env = with_parameters level ps args (parameter p s.place s.labels ∷ env)

-- a function with a result that reaches its end traps at its name
abbrev pub at_end : Definition → Shape → Computation Value
at_end d nothing = pure no_value
at_end d _ = trapped d.level Return d.line

abbrev pub result_of : Definition → Ending → Computation Value
result_of d (returns v) = pure v
result_of d (goes_on env) = at_end d d.result
result_of d breaks = halted meaningless
result_of d continues = halted meaningless

-- how the body of a function ends: depth is checked, the step is counted, the parameters are bound, and the statements run
abbrev pub body_run : Source → ℕ → Calls → Definition → List Argument → Computation Ending
body_run source n calls d args =
    within d.level d.line begin_call >>
    within d.level d.line count_step >>
    with_parameters d.level d.params args (known_at source d.level) >>= λ env.
    in_turn (map (doing_of (record { source = source; calls = calls; here = d }) n) d.body) 0 env

-- ---- labels behind a call

-- what lies at a place carries just these labels, and the object's own
abbrev pub coerced : Place → List Mention → Computation (Unit {0})
coerced place labels = fetched place >>= λ v. stored place (each (carries_just labels) v)

abbrev pub coerced_by : Place → Root → Computation (Unit {0})
coerced_by place (admits taints) = coerced place taints
coerced_by place _ = pure tt

-- array arguments carry just the taints of the parameter of an annotated function
abbrev pub arrays_coerced : List Parameter → List Argument → Computation (Unit {0})
arrays_coerced [] [] = pure tt
arrays_coerced [] (a ∷ args) = halted meaningless
arrays_coerced (p ∷ ps) [] = halted meaningless
arrays_coerced (p ∷ ps) (given v ∷ args) = arrays_coerced ps args
arrays_coerced (p ∷ ps) (lent s ∷ args) = coerced_by s.place p.root >> arrays_coerced ps args

abbrev pub result_labels : Option Taints → Value → Value
result_labels None v = v
result_labels (Some t) v = each (carries_just (once t.result)) v

-- an array argument whose root is a parameter of an annotated function carries just that parameter's taints
abbrev pub roots_coerced : List Argument → Computation (Unit {0})
roots_coerced [] = pure tt
roots_coerced (given v ∷ args) = roots_coerced args
roots_coerced (lent s ∷ args) = coerced_by s.place s.root >> roots_coerced args

-- The local call.
abbrev pub LocalCall : Type 0
LocalCall = Definition → List Argument → Computation Value

unfoldable pub local_call : Source → ℕ → Calls → LocalCall
local_call source n calls d args =
    body_run source n calls d args >>= λ ending.
    result_of d ending >>= λ v.
    within d.level 0 end_call >>
    arrays_coerced d.params args >>
    pure (result_labels d.taints v)

-- ---- a call between levels

-- what a call between levels does, given what the callee's local call does
abbrev pub Across : Type 0
Across = LocalCall → Calls

-- the integers of the arguments; those of arrays are read after all arguments were evaluated
abbrev pub request_values : List Argument → Computation (List Labelled)
request_values [] = pure []
request_values (given v ∷ args) = request_values args >>= λ xs. pure (leaves v ++ xs)
request_values (lent s ∷ args) = read_at s >>= λ v. request_values args >>= λ xs. pure (leaves v ++ xs)

-- arguments that hold these integers; arrays are fresh objects of the callee's level
abbrev pub fresh : ℕ → Shape → Value → Computation Argument
fresh level (array element size) v = made level v >>= λ place. pure (lent (record { place = place; labels = []; root = open_to_all }))
fresh level _ v = pure (given v)

abbrev pub all_fresh : ℕ → List Parameter → List Labelled → Computation (List Argument)
all_fresh level [] xs = pure []
all_fresh level (p ∷ ps) xs =
    fresh level p.shape (value_from p.shape xs).0 >>= λ a.
    all_fresh level ps (value_from p.shape xs).1 >>= λ args.
    pure (a ∷ args)

abbrev pub array_values : List Argument → Computation (List Labelled)
array_values [] = pure []
array_values (given v ∷ args) = array_values args
array_values (lent s ∷ args) = read_at s >>= λ v. array_values args >>= λ xs. pure (leaves v ++ xs)

-- the callee serves by its local call: on fresh objects, and reads its arrays behind it
abbrev pub served_with : LocalCall → Definition → List Labelled → Computation (List Labelled)
served_with call d xs =
    all_fresh d.level d.params xs >>= λ args.
    call d args >>= λ v.
    array_values args >>= λ ys.
    pure (leaves v ++ ys)

-- The callee serves a request of as many integers as its parameters have: the integers of its result and then of its
-- array parameters.
unfoldable pub served : LocalCall → Definition → List Labelled → Computation (List Labelled)
served call d xs = if length xs == count_of (request_of d) then served_with call d xs else halted meaningless

-- the caller's arrays take the integers of a reply
abbrev pub arrays_taken : List Parameter → List Argument → List Labelled → Computation (Unit {0})
arrays_taken [] [] xs = pure tt
arrays_taken [] (a ∷ args) xs = halted meaningless
arrays_taken (p ∷ ps) [] xs = halted meaningless
arrays_taken (p ∷ ps) (given v ∷ args) xs = arrays_taken ps args xs
arrays_taken (p ∷ ps) (lent s ∷ args) xs =
    stored s.place (value_from p.shape xs).0 >> arrays_taken ps args (value_from p.shape xs).1

-- the caller goes on with a reply, which has as many integers as the callee's result and arrays
unfoldable pub reply_taken : Definition → List Argument → List Labelled → Computation Value
reply_taken d args xs =
    if length xs == count_of (reply_of d)
    then (arrays_taken d.params args (value_from d.result xs).1 >> pure (value_from d.result xs).0)
    else halted meaningless

-- two headers of 25 bytes each, and two payloads
abbrev pub cost_of : Definition → ℕ
cost_of d = 50 + (payload_size d false + payload_size d true)

-- a level pays for a call that it makes, or traps where its budget is spent
abbrev pub paid : ℕ → ℕ → Definition → Computation (Unit {0})
paid level line d = within level line (pay (cost_of d))

-- a call between levels has a row
abbrev pub by_row : Option ℕ → (ℕ → Computation Value) → Computation Value
by_row None next = halted meaningless
by_row (Some row) next = next row

-- and the callee's label has an entry for the caller's level
abbrev pub by_entry : Option Entry → (Entry → Computation Value) → Computation Value
by_entry None next = halted meaningless
by_entry (Some entry) next = next entry

abbrev pub by_both : Source → ℕ → Definition → (ℕ → Entry → Computation Value) → Computation Value
by_both source level d next = by_row (row_of source level d) (λ row. by_entry (entry_for d.entries level) (next row))

-- a blocked call gives zero, and the caller's arrays stay
abbrev pub went_on : Definition → List Argument → Reply → Computation Value
went_on d args None = pure (zero_of d.result)
went_on d args (Some xs) = reply_taken d args xs

abbrev pub ask_of : ℕ → ℕ → Definition → Entry → List Labelled → Ask
ask_of from row d entry xs = record { from = from; row = row; callee = d; entry = entry; values = xs }

-- A far call: the caller pays, reads the integers of its request, asks, and goes on with the reply.
unfoldable pub far : Source → Across
far source call here line d args = by_both source here.level d (λ row entry.
    paid here.level line d >>
    request_values args >>= λ xs.
    asking (ask_of here.level row d entry xs) >>= went_on d args)

-- A plain call is C's own: the callee's local call with the caller's arrays lent; the caller pays all the same.
unfoldable pub unguarded : Source → Across
unguarded source call here line d args =
    by_both source here.level d (λ row entry. paid here.level line d >> call d args)

-- ---- calls of both kinds

abbrev pub by_level : LocalCall → Across → Calls
by_level call across here line d args =
    (if here.level == d.level then call d args else across call here line d args) >>= λ v.
    roots_coerced args >> pure v

-- What a call does, where calls nest at most so deep and a loop makes at most so many rounds.
unfoldable pub call_at : Source → Across → ℕ → Calls
call_at source across zero here line d args = halted unbounded
call_at source across (suc n) here line d args = by_level (local_call source n (call_at source across n)) across here line d args
