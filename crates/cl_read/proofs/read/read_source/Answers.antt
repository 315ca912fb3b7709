use Rattle.cl_tree.specs.Tokens.{AreTokens}
use Rattle.cl_read.specs.Stops.{of_lexer, of_reader}
use Rattle.cl_read.proofs.Stopped.{with_only, with_fails, with_rule, lexer_only, lexer_rule, reader_only, reader_fails, reader_rule, read_only, read_rule}
use Rattle.cl_read.proofs.read.read_source.Goals as goal

pub returns-in_err-tokens-clause-only : goal.returns-in_err-tokens-clause-only
returns-in_err-tokens-clause-only c = λ p h. with_only c.from_residual.result (of_lexer c.in_err-tokens.field-0.0) c.from_residual.ensures.1 p (lexer_only c.args.bytes.now c.in_err-tokens.field-0.0 c.in_err-tokens.ensures.all_found p h)

pub returns-in_err-tokens-clause-rule : goal.returns-in_err-tokens-clause-rule
returns-in_err-tokens-clause-rule c = λ rule line f. with_rule c.from_residual.result (of_lexer c.in_err-tokens.field-0.0) c.from_residual.ensures.1 rule line (lexer_rule c.args.bytes.now c.in_err-tokens.field-0.0 c.in_err-tokens.ensures.all_found c.in_err-tokens.ensures.all_fails rule line f)

pub returns-in_err-parse-clause-only : goal.returns-in_err-parse-clause-only
returns-in_err-parse-clause-only c =
    let cut : AreTokens c.args.bytes.now c.as_slice.result.now = rw c.as_slice.ensures.value c.in_ok-tokens.ensures.found in
    λ p h. with_only c.from_residual-in_err-parse.result (of_reader c.in_err-parse.field-0.0) c.from_residual-in_err-parse.ensures.1 p (reader_only c.args.bytes.now c.as_slice.result.now c.in_err-parse.field-0.0 cut c.in_err-parse.ensures.only p h)

pub returns-in_err-parse-clause-fails : goal.returns-in_err-parse-clause-fails
returns-in_err-parse-clause-fails c =
    let cut : AreTokens c.args.bytes.now c.as_slice.result.now = rw c.as_slice.ensures.value c.in_ok-tokens.ensures.found in
    with_fails c.from_residual-in_err-parse.result (of_reader c.in_err-parse.field-0.0) c.from_residual-in_err-parse.ensures.1 c.args.bytes.now (reader_fails c.args.bytes.now c.as_slice.result.now c.in_err-parse.field-0.0 cut c.in_err-parse.ensures.fails)

pub returns-in_err-parse-clause-rule : goal.returns-in_err-parse-clause-rule
returns-in_err-parse-clause-rule c =
    let cut : AreTokens c.args.bytes.now c.as_slice.result.now = rw c.as_slice.ensures.value c.in_ok-tokens.ensures.found in
    λ rule line f. with_rule c.from_residual-in_err-parse.result (of_reader c.in_err-parse.field-0.0) c.from_residual-in_err-parse.ensures.1 rule line (reader_rule c.args.bytes.now c.as_slice.result.now c.in_err-parse.field-0.0 cut c.in_err-parse.ensures.rule rule line f)

pub returns-clause-only : goal.returns-clause-only
returns-clause-only c =
    let cut : AreTokens c.args.bytes.now c.as_slice.result.now = rw c.as_slice.ensures.value c.in_ok-tokens.ensures.found in
    read_only c.args.bytes.now c.as_slice.result.now c.in_ok-parse.field-0 cut c.in_ok-parse.ensures.only

pub returns-clause-rule : goal.returns-clause-rule
returns-clause-rule c =
    let cut : AreTokens c.args.bytes.now c.as_slice.result.now = rw c.as_slice.ensures.value c.in_ok-tokens.ensures.found in
    read_rule c.args.bytes.now c.as_slice.result.now cut c.in_ok-parse.ensures.rule
