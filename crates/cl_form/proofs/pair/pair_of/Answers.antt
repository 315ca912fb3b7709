use Rattle.std.proofs.Common.{rules}
use Rattle.cl_form.proofs.Nine.{AreNine, pair_goes}
use Rattle.cl_form.proofs.pair.pair_of.Goals as goal

pub returns-in_err-names-2 : goal.returns-in_err-names-2
returns-in_err-names-2 c =
    let n : AreNine _ _ _ _ _ _ _ _ _ _ = record {
      at_least = c.in-len9.len_at_least;
      below = c.in-len9.len_below;
      first = c.near_line-item.is;
      second = c.variable_line-item.is;
      third = c.result_line-item.is;
      fourth = c.function_line-item.is;
      fifth = c.next_variable-item.is;
      sixth = c.variable-item.is;
      seventh = c.next_function-item.is;
      eighth = c.function-item.is;
      ninth = c.main-item.is;
    } in
    let g = pair_goes _ _ _ _ _ _ _ _ _ _ _ n c.in_ok-names.ensures in
    rw g (search rules)

pub returns : goal.returns
returns c =
    let n : AreNine _ _ _ _ _ _ _ _ _ _ = record {
      at_least = c.in-len9.len_at_least;
      below = c.in-len9.len_below;
      first = c.near_line-item.is;
      second = c.variable_line-item.is;
      third = c.result_line-item.is;
      fourth = c.function_line-item.is;
      fifth = c.next_variable-item.is;
      sixth = c.variable-item.is;
      seventh = c.next_function-item.is;
      eighth = c.function-item.is;
      ninth = c.main-item.is;
    } in
    let g = pair_goes _ _ _ _ _ _ _ _ _ _ _ n c.in_ok-names.ensures in
    rw g (search rules)
