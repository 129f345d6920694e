-- A copy that is made slim leaves the digests.
use Rattle.std.proofs.Common.{sym, refl, ap, ◌∙◌}
use Rattle.mqtt_records.specs.declared.state.records.Records.{Records}
use Rattle.mqtt_records.specs.state.Session.{with_slim}
use Rattle.mqtt_keep.specs.by_name.Digests.{digest_rows}
use Rattle.mqtt_keep.proofs.by_name_lemmas.Digested.{same_digest}
use Rattle.mqtt_keep.proofs.by_name.named.NamedRecords.make_slim_at.Goals as goal

pub invariant_of-self : goal.invariant_of-self
invariant_of-self c =
    c.self.invariant
    ∙ sym (ap (λ (r : Records). digest_rows r.sessions) c.make_slim.ensures
    ∙ same_digest c.args.birth (with_slim c.args.place) c.self.inside.records.sessions (λ s. refl))
