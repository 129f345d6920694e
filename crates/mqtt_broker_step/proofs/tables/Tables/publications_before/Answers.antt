use Rattle.std.proofs.Common.{List, ap, sym, ◌∙◌}
use Rattle.mqtt_records.specs.declared.state.records.Records.{Records}
use Rattle.mqtt_broker_step.specs.declared.undo.Undo.{Undo}
use Rattle.mqtt_broker_step.specs.Undoing.{Changing, broker_of, publications_before}
use Rattle.mqtt_broker_step.proofs.NumbersBefore.{publications_taken_back}
use Rattle.mqtt_broker_step.proofs.tables.Tables.publications_before.Goals as goal

pub returns : goal.returns
returns c =
    c.publications_before.ensures
    ∙ (ap (λ (r : Records). publications_before c.deref.result.now r.publications) c.records.ensures
    ∙ (ap (λ (us : List Undo). publications_before us c.self.inside.records.publications) c.deref.ensures.value
    ∙ (sym (publications_taken_back c.self.inside.journal.items (broker_of c.self.inside.records c.self.inside.lines c.self.inside.tellings c.self.inside.given c.self.inside.moment))
    ∙ ap (λ (v : Changing). v.start.records.publications) c.self.view_is)))
