-- What is told fits the row that is found, or none is found.
use Rattle.std.proofs.Common.{◌↔◌, IsTrue, false, ap, subst, ◌∙◌}
use Rattle.std.specs.Prelude.{Some}
use Rattle.mqtt_records.specs.declared.state.records.Records.{Records}
use Rattle.mqtt_records.specs.state.Slim.{TakesIn}
use Rattle.mqtt_keep.proofs.by_name_lemmas.FilledRows.{never, no_session, no_row, stands}
use Rattle.mqtt_keep.proofs.by_name.named.NamedRecords.takes_in.Goals as goal

pub returns-in_default : goal.returns-in_default
returns-in_default c =
    subst (λ (r : Records). IsTrue false ↔ TakesIn c.args.birth c.args.content.now r) c.self.view_is
    (never (no_session c.args.birth c.args.content.now c.self.inside.records c.in_default.ensures))

pub returns-in_default-get : goal.returns-in_default-get
returns-in_default-get c =
    subst (λ (r : Records). IsTrue false ↔ TakesIn c.args.birth c.args.content.now r) c.self.view_is
    (never (no_row c.args.birth c.args.content.now c.get-2.result.now c.self.inside.records (ap Some c.get-2.ensures ∙ c.in-Some.ensures) (rw c.place.ensures at c.in_default-get.ensures)))

pub returns : goal.returns
returns c =
    subst (λ (r : Records). IsTrue c.has_bytes.result ↔ TakesIn c.args.birth c.args.content.now r) c.self.view_is
    (stands c.args.birth c.args.content.now c.has_bytes.result c.get-2.result.now c.get-4.result.now c.self.inside.records
    (ap Some c.get-2.ensures ∙ c.in-Some.ensures) (rw c.place.ensures at (ap Some c.get-4.ensures ∙ c.in-Some-get.ensures)) c.has_bytes.ensures)
