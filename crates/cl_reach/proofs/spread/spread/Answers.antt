use Rattle.std.proofs.Common.{arith, ◌≡◌, ◌<◌, ℕ, List, [], length, subst, get_or}
use Rattle.std.proofs.lemmas.List.Elements.{All-contains}
use Rattle.cl_reach.specs.Spread.{PassesOn}
use Rattle.cl_reach.proofs.Settled.{Spreading, spread_none, spread_more, spread_all, first_node}
use Rattle.cl_reach.proofs.spread.spread.Goals as goal

pub loop-node-init : goal.loop-node-init
loop-node-init c = spread_none c.args.graph.now c.args.words.now c.in_ok-queue.queue c.in_ok-queue.ensures.waits c.in_ok-queue.ensures.nodes

pub word_at-word-requires : goal.word_at-word-requires
word_at-word-requires c = first_node c.args.graph.now c.args.words.now c.loop-node.words c.loop-node.queue c.take.new.self c.in-Some.node c.loop-node.invariant c.in-Some.ensures

pub targets-requires : goal.targets-requires
targets-requires c =
    let h : c.in-Some.node < length c.loop-node.words = first_node c.args.graph.now c.args.words.now c.loop-node.words c.loop-node.queue c.take.new.self c.in-Some.node c.loop-node.invariant c.in-Some.ensures in
    let e : length c.loop-node.words ≡ length c.args.words.now = c.loop-node.invariant.same_length in
    let d : length c.args.graph.now ≡ length c.args.words.now = c.requires.nodes in
    omega arith

pub loop-node-preserved : goal.loop-node-preserved
loop-node-preserved c = spread_more c.args.graph.now c.args.words.now c.loop-node.words c.pass_on.new.words c.take.new.self c.pass_on.new.queue c.in-Some.node (subst (λ (q : List ℕ). Spreading c.args.graph.now c.args.words.now c.loop-node.words q) c.in-Some.ensures c.loop-node.invariant) (subst (λ (ts : List ℕ). PassesOn ts (get_or c.loop-node.words c.in-Some.node 0) c.loop-node.words c.pass_on.new.words c.take.new.self c.pass_on.new.queue) c.targets.ensures (subst (λ (w : ℕ). PassesOn c.targets.result.now w c.loop-node.words c.pass_on.new.words c.take.new.self c.pass_on.new.queue) c.word_at-word.ensures c.in_ok-pass_on.ensures)) (λ y h. All-contains (λ t. t < length c.args.words.now) (get_or c.args.graph.now c.in-Some.node []) y (c.requires.targets c.in-Some.node) h)

pub returns-clause-complete : goal.returns-clause-complete
returns-clause-complete c k x h = spread_all c.args.graph.now c.args.words.now c.loop-node.words (subst (λ (q : List ℕ). Spreading c.args.graph.now c.args.words.now c.loop-node.words q) c.in_default.ensures c.loop-node.invariant) k x h
