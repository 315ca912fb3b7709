use Rattle.std.proofs.Common.{rules}
use Rattle.std.proofs.lemmas.Iterator.Search.{all_from_yields_List}
use Rattle.std.proofs.lemmas.Iterator.Splits.{YieldsList-from_slice_split}
use Rattle.cl_form.specs.Form.{is_plain_word}
use Rattle.cl_form.proofs.text.has_plain_words.Goals as goal

pub returns : goal.returns
returns c =
    all_from_yields_List is_plain_word _ _ c.all.result c.all.ensures.ran
    (YieldsList-from_slice_split _ _ c.args.text.now c.split.ensures.rest c.split.ensures.done c.split.ensures.closure (search rules))
    (search rules)
