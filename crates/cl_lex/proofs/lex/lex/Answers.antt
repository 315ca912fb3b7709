use Rattle.cl_tree.specs.Joins.{bytes_of, places_of}
use Rattle.cl_lex.proofs.Cuts.{all_found, all_fails}
use Rattle.cl_lex.proofs.Order.{found_order}
use Rattle.cl_lex.proofs.lex.lex.Goals as goal

pub returns-clause-all_found : goal.returns-clause-all_found
returns-clause-all_found c = all_found (λ v. v.items) c.lex_source.result (bytes_of c.args.bytes.now) (places_of c.args.bytes.now) c.lex_source.ensures.found c.lex_source.ensures.fails

pub returns-clause-all_fails : goal.returns-clause-all_fails
returns-clause-all_fails c = all_fails (λ v. v.items) c.lex_source.result (bytes_of c.args.bytes.now) (places_of c.args.bytes.now) c.lex_source.ensures.found c.lex_source.ensures.fails

pub returns-clause-in_order : goal.returns-clause-in_order
returns-clause-in_order c = found_order (λ v. v.items) c.lex_source.result c.args.bytes.now c.lex_source.ensures.found
