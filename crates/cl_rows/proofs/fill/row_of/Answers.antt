use Rattle.std.proofs.Common.{false, true, ap, refl}
use Rattle.cl_mean.specs.Shape.{structs_of}
use Rattle.cl_rows.proofs.Ready.{filled, small_in}
use Rattle.cl_rows.proofs.fill.row_of.Goals as goal

pub label_of-label-requires : goal.label_of-label-requires
label_of-label-requires c = c.requires.ready.label

pub entry_at-entry-requires : goal.entry_at-entry-requires
entry_at-entry-requires c = c.requires.ready.entry

pub defined_at-signature-requires : goal.defined_at-signature-requires
defined_at-signature-requires c = c.requires.ready.signature

pub request_of-request-requires-clause-small : goal.request_of-request-requires-clause-small
request_of-request-requires-clause-small c = small_in c.args.sources.now.typed.now c.args.f false _ (ap structs_of c.requires.items) c.requires.ready.request

pub reply_of-reply-requires-clause-small : goal.reply_of-reply-requires-clause-small
reply_of-reply-requires-clause-small c = small_in c.args.sources.now.typed.now c.args.f true _ (ap structs_of c.requires.items) c.requires.ready.reply

pub returns : goal.returns
returns c =
    filled c.args.sources.now.typed.now c.args.sources.now.labels.now c.args.from c.args.to c.args.f _ (ap structs_of c.requires.items) _ c.entry_at-entry.result.now _ c.label_of-label.result.now
    refl refl refl c.entry_at-entry.ensures refl refl c.defined_at-signature.ensures c.in_ok-copied.ensures.name c.in_ok-copied.ensures.args c.in_ok-copied.ensures.result
    c.label_of-label.ensures c.in_ok-copied.ensures.label c.request_of-request.ensures c.reply_of-reply.ensures
