use Rattle.std.proofs.Common.{sym, ◌∙◌}
use Rattle.mqtt_broker_step.proofs.PlaceLists.{found_among, not_among}
use Rattle.mqtt_broker_step.proofs.places.is_in_order.Goals as goal

pub returns-then-last-place : goal.returns-then-last-place
returns-then-last-place c =
    sym (not_among c.args.place c.in-Some.last.now c.args.places.now c.requires (sym c.in-Some.ensures.value) c.if-last-place.true)

pub returns : goal.returns
returns c = c.is_ok.ensures.value ∙ found_among c.args.place c.args.places.now c.binary_search.result c.requires c.binary_search.ensures.position
