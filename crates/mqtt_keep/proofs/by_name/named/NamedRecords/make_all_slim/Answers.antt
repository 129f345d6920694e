-- Copies that are made slim leave the digests.
use Rattle.std.proofs.Common.{sym, refl, ap, ◌∙◌}
use Rattle.mqtt_records.specs.declared.state.records.Records.{Records}
use Rattle.mqtt_records.specs.state.Session.{with_all_slim}
use Rattle.mqtt_keep.specs.by_name.Digests.{digest_rows}
use Rattle.mqtt_keep.proofs.by_name_lemmas.Digested.{same_digests}
use Rattle.mqtt_keep.proofs.by_name.named.NamedRecords.make_all_slim.Goals as goal

pub invariant_of-self : goal.invariant_of-self
invariant_of-self c =
    c.self.invariant
    ∙ sym (ap (λ (r : Records). digest_rows r.sessions) c.make_all_slim.ensures
    ∙ same_digests with_all_slim c.self.inside.records.sessions (λ s. refl))
