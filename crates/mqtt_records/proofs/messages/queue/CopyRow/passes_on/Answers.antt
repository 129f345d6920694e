-- Both kinds of rows have properties such as publications pass on (MQTT 5.0, 3.3.2.3).
use Rattle.std.proofs.Common.{subst}
use Rattle.mqtt_records.specs.messages.PassedOn.{IsPassedOn}
use Rattle.mqtt_records.specs.messages.Queue.{CopyRow}
use Rattle.mqtt_records.proofs.messages_lemmas.InMemory.{rest_passes}
use Rattle.mqtt_records.proofs.messages.queue.CopyRow.passes_on.Goals as goal

pub returns-in-Slim : goal.returns-in-Slim
returns-in-Slim c =
    let row = c.self.inside in
    subst (λ (e : CopyRow). IsPassedOn e.copy.content.properties) c.self.view_is (rest_passes row.pairs row.payload row.expiry row.rest row.held c.in-Slim.is)
