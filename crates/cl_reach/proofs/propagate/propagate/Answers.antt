use Rattle.std.proofs.Common.{◌≡◌, ◌<◌, ◌/◌, ◌+◌, ℕ, length, get_or, map, subst, sym, []}
use Rattle.cl_reach.proofs.Batches.{rows_targets, all_sound, all_complete, words_of}
use Rattle.cl_reach.proofs.propagate.propagate.Goals as goal

pub batches_of-requires : goal.batches_of-requires
batches_of-requires c =
    let e : length c.in_ok-graph.graph ≡ c.args.nodes = c.in_ok-graph.ensures.length in
    record {
      seeds = λ k d h. subst (λ (n : ℕ). (get_or c.args.seeds.now k d).node < n) (sym e) (c.requires.seeds k d h);
      targets = λ x k d h. subst (λ (n : ℕ). get_or (get_or c.in_ok-graph.graph x []) k d < n) (sym e) (rows_targets c.args.edges.now c.args.nodes c.in_ok-graph.graph c.requires.targets c.in_ok-graph.ensures.edges x k d h);
    }

pub returns : goal.returns
returns c = record {
  sound = all_sound c.args.seeds.now c.args.edges.now c.in_ok-graph.graph (map words_of c.in_ok-batches.batches.items) (c.args.labels / 64 + 1) c.in_ok-graph.ensures.edges c.in_ok-batches.ensures;
  complete = all_complete c.args.seeds.now c.args.edges.now c.in_ok-graph.graph (map words_of c.in_ok-batches.batches.items) c.args.labels c.requires.labels c.in_ok-graph.ensures.edges c.in_ok-batches.ensures;
}
