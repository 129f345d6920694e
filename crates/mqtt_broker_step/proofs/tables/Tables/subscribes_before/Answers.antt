use Rattle.std.proofs.Common.{List, ap, sym, ◌∙◌}
use Rattle.mqtt_records.specs.declared.state.records.Records.{Records}
use Rattle.mqtt_broker_step.specs.declared.undo.Undo.{Undo}
use Rattle.mqtt_broker_step.specs.Undoing.{Changing, broker_of, subscribes_before}
use Rattle.mqtt_broker_step.proofs.NumbersBefore.{subscribes_taken_back}
use Rattle.mqtt_broker_step.proofs.tables.Tables.subscribes_before.Goals as goal

pub returns : goal.returns
returns c =
    c.subscribes_before.ensures
    ∙ (ap (λ (r : Records). subscribes_before c.deref.result.now r.subscribes) c.records.ensures
    ∙ (ap (λ (us : List Undo). subscribes_before us c.self.inside.records.subscribes) c.deref.ensures.value
    ∙ (sym (subscribes_taken_back c.self.inside.journal.items (broker_of c.self.inside.records c.self.inside.lines c.self.inside.tellings c.self.inside.given c.self.inside.moment))
    ∙ ap (λ (v : Changing). v.start.records.subscribes) c.self.view_is)))
