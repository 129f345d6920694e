use Rattle.std.proofs.Common.{List, sym, ap, ◌∙◌}
use Rattle.mqtt_records.specs.lists.Order.{remove_row}
use Rattle.mqtt_keep.specs.declared.by_name.digest.DigestRow.{DigestRow}
use Rattle.mqtt_keep.specs.by_name.Digests.{digest_rows, digest_birth}
use Rattle.mqtt_keep.proofs.by_name_lemmas.Digested.{remove_digest}
use Rattle.mqtt_keep.proofs.by_name.named.NamedRecords.take_session.Goals as goal

pub invariant_of-self : goal.invariant_of-self
invariant_of-self c =
    c.remove.ensures
    ∙ (ap (λ (rows : List DigestRow). remove_row digest_birth c.args.birth rows) c.self.invariant
    ∙ (remove_digest c.args.birth c.self.inside.records.sessions ∙ sym (ap digest_rows c.take.ensures.rest)))
