-- What is told of a copy fits the row at its place (MQTT 5.0, 3.3).
use Rattle.std.proofs.Common.{ℕ, ◌↔◌, IsTrue, IsSomeAnd, subst}
use Rattle.mqtt_records.specs.messages.Filling.{HasBytesOf}
use Rattle.mqtt_records.specs.lists.Order.{row_at}
use Rattle.mqtt_records.specs.state.Session.{copy_place}
use Rattle.mqtt_records.proofs.state.slim.SessionFillable.fill_in.Goals as goal

pub returns-clause-exact : goal.returns-clause-exact
returns-clause-exact c =
    subst (λ (place : ℕ). IsTrue c.fill.result ↔ IsSomeAnd (row_at copy_place place c.args.self.now.queue) (λ e. HasBytesOf e.copy c.args.content))
    c.place-place.ensures c.fill.ensures.exact
