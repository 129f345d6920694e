-- A row that hasn't its copy is slim (MQTT 5.0, 3.3).
use Rattle.std.proofs.Common.{◌≡◌, sym, ap, subst}
use Rattle.mqtt_records.specs.messages.Queue.{CopyRow}
use Rattle.mqtt_records.specs.messages.Slim.{slim}
use Rattle.mqtt_records.proofs.messages_lemmas.InMemory.{rest_alone}
use Rattle.mqtt_records.proofs.messages_lemmas.Slim.{row_with}
use Rattle.mqtt_records.proofs.messages.queue.CopyRow.whole.Goals as goal

pub returns-in-Slim-clause-slim : goal.returns-in-Slim-clause-slim
returns-in-Slim-clause-slim c none =
    let row = c.self.inside in
    let same = rest_alone row.size row.pairs row.payload row.expiry row.rest row.held c.in-Slim.is c.self.invariant in
    subst (λ (e : CopyRow). e ≡ slim e) c.self.view_is (ap (row_with row.place row.phase) (sym same))
