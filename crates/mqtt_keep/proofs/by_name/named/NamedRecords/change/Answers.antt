use Rattle.std.proofs.Common.{sym, ap, ◌∙◌}
use Rattle.mqtt_records.specs.declared.state.records.Records.{Records}
use Rattle.mqtt_keep.specs.by_name.Digests.{digest_rows}
use Rattle.mqtt_keep.proofs.by_name_lemmas.OtherChanges.{other_digests}
use Rattle.mqtt_keep.proofs.by_name.named.NamedRecords.change.Goals as goal

pub invariant_of-self : goal.invariant_of-self
invariant_of-self c =
    c.self.invariant
    ∙ sym (ap (λ (r : Records). digest_rows r.sessions) c.change.ensures
    ∙ other_digests c.args.change c.self.inside.records c.in_default.not-PutSession c.in_default.not-SetSession c.in_default.not-RemoveSession)
