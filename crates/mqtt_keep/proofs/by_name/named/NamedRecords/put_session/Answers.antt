use Rattle.std.proofs.Common.{List, sym, ap, ◌∙◌}
use Rattle.mqtt_base.specs.declared.limits.TheConstants.{SESSION_LIMIT}
use Rattle.mqtt_records.specs.lists.Order.{put_row}
use Rattle.mqtt_keep.specs.declared.by_name.digest.DigestRow.{DigestRow}
use Rattle.mqtt_keep.specs.by_name.Digests.{digest_row, digest_rows, digest_birth}
use Rattle.mqtt_keep.proofs.by_name_lemmas.Digested.{put_digest}
use Rattle.mqtt_keep.proofs.by_name.named.NamedRecords.put_session.Goals as goal

pub invariant_of-self : goal.invariant_of-self
invariant_of-self c =
    c.put.ensures
    ∙ (ap (λ (row : DigestRow). put_row digest_birth SESSION_LIMIT row c.self.inside.digests) (c.digest_row.ensures ∙ ap digest_row c.get.ensures)
    ∙ (ap (λ (rows : List DigestRow). put_row digest_birth SESSION_LIMIT (digest_row c.args.session) rows) c.self.invariant
    ∙ (put_digest c.args.session c.self.inside.records.sessions ∙ sym (ap digest_rows c.put-2.ensures))))
