use Rattle.mqtt_base.proofs.Items.{items_read}
use Rattle.mqtt_packet.specs.declared.parts.fault.Fault.TheVariants.{Malformed}
use Rattle.mqtt_packet.specs.subscribe.Filters.{filter_at}
use Rattle.mqtt_packet.proofs.subscribe.filters.filters_read.Goals as goal

pub returns : goal.returns
returns c = items_read Malformed filter_at c.args.bytes.now c.in_ok-walk.ensures
