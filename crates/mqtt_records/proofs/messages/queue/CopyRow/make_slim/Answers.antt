-- What is left of a copy stands for the slim one (MQTT 5.0, 3.3).
use Rattle.std.proofs.Common.{ap, ◌∙◌}
use Rattle.mqtt_records.specs.messages.Slim.{slim}
use Rattle.mqtt_records.proofs.messages_lemmas.InMemory.{rest_is_slim, rest_remembers}
use Rattle.mqtt_records.proofs.messages_lemmas.Slim.{row_with}
use Rattle.mqtt_records.proofs.messages.queue.CopyRow.make_slim.Goals as goal

pub returns : goal.returns
returns c =
    let row = c.self.inside in
    ap (row_with row.place row.phase) (rest_is_slim row.size row.pairs row.payload row.expiry row.rest row.held c.self.invariant)
    ∙ ap slim c.self.view_is

pub invariant_of-self : goal.invariant_of-self
invariant_of-self c =
    let row = c.self.inside in
    rest_remembers row.size row.pairs row.payload row.expiry row.rest row.held c.self.invariant
