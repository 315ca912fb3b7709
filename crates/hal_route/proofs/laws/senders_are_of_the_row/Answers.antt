use Rattle.hal_route.proofs.Takes.{request_sender, reply_sender}
use Rattle.hal_route.proofs.laws.senders_are_of_the_row.Goals as goal

pub returns-clause-request : goal.returns-clause-request
returns-clause-request c = request_sender c.one_header.ensures

pub returns-clause-reply : goal.returns-clause-reply
returns-clause-reply c = reply_sender c.one_header.ensures
