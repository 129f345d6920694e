-- How far an end has come with its line, in code and in the definitions (MQTT 5.0, 4.2).
use Rattle.mqtt_flow.specs.inbound.Line as hop
use Rattle.mqtt_world_ends.specs.declared.peers.line.Link.{Link}
use Rattle.mqtt_world_ends.specs.declared.peers.line.Link.TheVariants.{Away, Asked, Live}

abbrev pub link_of : Link → hop.Link
link_of Away = hop.away
link_of Asked = hop.asked
link_of Live = hop.live
