use Rattle.std.proofs.Common.{◌≡◌, ◌++◌, ◌+◌, rules, arith, sym, ap, ◌∙◌, [], List, take, drop, length, length-append, length-drop}
use Rattle.std.proofs.lemmas.List.{take-append-drop, drop_all, append-nil}
use Rattle.rpc_codec.specs.declared.leaves.Leaf.{Leaf}
use Rattle.rpc_codec.proofs.Structs.{times_none, block_added, block_is, block_within}
use Rattle.rpc_codec.proofs.leaves.repeat.Goals as goal

pub returns-then-start-end : goal.returns-then-start-end
returns-then-start-end c =
    let none : drop c.args.start c.args.out.now.items ≡ [] = drop_all c.args.start c.args.out.now.items (search rules) in
    let all : take c.args.start c.args.out.now.items ++ [] ≡ c.args.out.now.items = sym (ap (λ (xs : List Leaf). take c.args.start c.args.out.now.items ++ xs) none) ∙ take-append-drop c.args.start c.args.out.now.items in
    rw (times_none c.args.count (drop c.args.start c.args.out.now.items) none) (sym all)

pub loop-turn-init : goal.loop-turn-init
loop-turn-init c = sym (ap (λ (xs : List Leaf). take c.args.start c.args.out.now.items ++ xs) (append-nil _) ∙ take-append-drop c.args.start c.args.out.now.items)

pub loop-turn-preserved : goal.loop-turn-preserved
loop-turn-preserved c =
    let front : List Leaf = take c.args.start c.args.out.now.items in
    let block : List Leaf = drop c.args.start c.args.out.now.items in
    let first : length front ≡ c.args.start = search rules in
    let end : c.len-end.result ≡ length front + length block = omega (arith, length-drop c.args.start c.args.out.now.items, c.len-end.ensures) in
    c.in_ok-extend_from_within.ensures.items ∙ block_added _ front block _ c.loop-turn._turn c.loop-turn.invariant (block_is _ front block c.loop-turn._turn _ _ c.loop-turn.invariant (omega arith) (sym first) end)

pub extend_from_within-requires-clause-in_bounds : goal.extend_from_within-requires-clause-in_bounds
extend_from_within-requires-clause-in_bounds c =
    let front : List Leaf = take c.args.start c.args.out.now.items in
    let block : List Leaf = drop c.args.start c.args.out.now.items in
    let within = block_within c.loop-turn.out.items front block c.loop-turn._turn c.loop-turn.invariant (omega arith) in
    let all = ap length (take-append-drop c.args.start c.args.out.now.items) in
    omega (arith, length-append front block, c.len-end.ensures)

pub returns : goal.returns
returns c =
    let e : c.loop-turn._turn ≡ c.args.count = omega arith in
    rw (sym e) c.loop-turn.invariant
