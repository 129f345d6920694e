use Rattle.std.proofs.Common.{◌∙◌}
use Rattle.mqtt_store_rows.proofs.rows_lemmas.ReferredLemmas.{found_among}
use Rattle.mqtt_store_rows.proofs.rows.referred.is_among.Goals as goal

pub returns : goal.returns
returns c = c.is_ok.ensures.value ∙ found_among c.args.number c.args.numbers.now c.binary_search.result c.requires c.binary_search.ensures.position
