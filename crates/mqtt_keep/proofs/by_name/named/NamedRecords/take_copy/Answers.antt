use Rattle.std.proofs.Common.{sym, refl, ap, ◌∙◌}
use Rattle.mqtt_records.specs.declared.state.records.Records.{Records}
use Rattle.mqtt_records.specs.state.Session.{without_copy}
use Rattle.mqtt_keep.specs.by_name.Digests.{digest_rows}
use Rattle.mqtt_keep.proofs.by_name_lemmas.Digested.{same_digest}
use Rattle.mqtt_keep.proofs.by_name.named.NamedRecords.take_copy.Goals as goal

pub invariant_of-self : goal.invariant_of-self
invariant_of-self c =
    c.self.invariant
    ∙ sym (ap (λ (r : Records). digest_rows r.sessions) c.take_copy.ensures.rest
    ∙ same_digest c.args.birth (without_copy c.args.place) c.self.inside.records.sessions (λ s. refl))
