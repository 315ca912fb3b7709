use Rattle.hal_route.proofs.Ways.{answers-only, asks-only, reply-way, request-way, stop-way, stops-only}
use Rattle.hal_route.proofs.laws.ways_are_these.Goals as goal

pub returns-clause-request : goal.returns-clause-request
returns-clause-request c = request-way

pub returns-clause-reply : goal.returns-clause-reply
returns-clause-reply c = reply-way

pub returns-clause-stop : goal.returns-clause-stop
returns-clause-stop c = stop-way

pub returns-clause-request_only : goal.returns-clause-request_only
returns-clause-request_only c = asks-only

pub returns-clause-reply_only : goal.returns-clause-reply_only
returns-clause-reply_only c = answers-only

pub returns-clause-stop_only : goal.returns-clause-stop_only
returns-clause-stop_only c = stops-only
