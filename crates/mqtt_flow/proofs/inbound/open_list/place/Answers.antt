use Rattle.mqtt_flow.proofs.inbound_lemmas.inbound.Places.{placed, found, missed}
use Rattle.mqtt_flow.proofs.inbound.open_list.place.Goals as goal

pub returns-clause-found : goal.returns-clause-found
returns-clause-found c =
    found c.args.id c.args.ids.now c.binary_search.result (placed c.args.id c.args.ids.now c.binary_search.result c.requires.ascending c.binary_search.ensures.position)

pub returns-clause-missing : goal.returns-clause-missing
returns-clause-missing c =
    missed c.args.id c.args.ids.now c.binary_search.result (placed c.args.id c.args.ids.now c.binary_search.result c.requires.ascending c.binary_search.ensures.position)
