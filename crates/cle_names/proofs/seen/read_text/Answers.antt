use Rattle.cle_names.proofs.Readings.{not_read, read_none, is_read, read_other, stops_json, stops_shape}
use Rattle.cle_names.proofs.seen.read_text.Goals as goal

pub returns-in-Err-NotJson-clause-json : goal.returns-in-Err-NotJson-clause-json
returns-in-Err-NotJson-clause-json c =
    not_read c.args.text.now
    (stops_json c.args.text.now c.in-Err-NotJson.field-0 c.in-Err-NotJson.field-0-is c.in-Err-NotJson.ensures.fails)

pub returns-in-Err-NotJson-clause-says : goal.returns-in-Err-NotJson-clause-says
returns-in-Err-NotJson-clause-says c =
    read_none c.args.text.now
    (stops_json c.args.text.now c.in-Err-NotJson.field-0 c.in-Err-NotJson.field-0-is c.in-Err-NotJson.ensures.fails)

pub returns-in-Err-Misshapen-clause-json : goal.returns-in-Err-Misshapen-clause-json
returns-in-Err-Misshapen-clause-json c =
    let f = stops_shape c.args.text.now c.in-Err-Misshapen.field-0 c.in-Err-Misshapen.field-0-is
    c.in-Err-Misshapen.ensures.fails in
    is_read c.args.text.now f.0 f.1

pub returns-in-Err-Misshapen-clause-says : goal.returns-in-Err-Misshapen-clause-says
returns-in-Err-Misshapen-clause-says c =
    let f = stops_shape c.args.text.now c.in-Err-Misshapen.field-0 c.in-Err-Misshapen.field-0-is
    c.in-Err-Misshapen.ensures.fails in
    read_other c.args.text.now f.0 f.1 f.2
