use Rattle.hal_route.proofs.Takes.{only_main_stops}
use Rattle.hal_route.proofs.laws.only_main_stops.Goals as goal

pub returns : goal.returns
returns c = only_main_stops
