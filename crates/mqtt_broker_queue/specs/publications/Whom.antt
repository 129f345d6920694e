-- Who gets the copies of a publication, in order (MQTT 5.0, 3.3.4, 4.8).
use Rattle.std.specs.Prelude.{List, map}
use Rattle.mqtt_base.specs.declared.session.Cause.TheVariants.{Direct}
use Rattle.mqtt_broker_queue.specs.publications.Copies.{addressee}
use Rattle.mqtt_broker_queue.specs.declared.publications.copies.Addressee.{Addressee}
use Rattle.mqtt_broker_queue.specs.declared.publications.copies.Whom.{Whom}
use Rattle.mqtt_broker_queue.specs.declared.publications.copies.Whom.TheVariants.{Routed, Listed}

abbrev pub all_of : Whom → List Addressee
all_of (Routed routed) = map (addressee Direct) routed.direct
all_of (Listed all) = all.items
