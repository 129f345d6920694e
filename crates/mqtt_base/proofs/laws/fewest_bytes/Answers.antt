use Rattle.mqtt_base.proofs.Shortest.{varint_fewest}
use Rattle.mqtt_base.proofs.laws.fewest_bytes.Goals as goal

pub returns : goal.returns
returns c = varint_fewest
