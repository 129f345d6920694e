use Rattle.std.proofs.Common.{ℕ, List, sym, ap, ◌∙◌}
use Rattle.mqtt_records.specs.lists.Order.{change_row}
use Rattle.mqtt_records.specs.declared.state.records.Records.{Records}
use Rattle.mqtt_keep.specs.declared.by_name.digest.DigestRow.{DigestRow}
use Rattle.mqtt_keep.specs.by_name.Digests.{digest_of, digest_rows, digest_birth, with_digest}
use Rattle.mqtt_keep.proofs.by_name_lemmas.Digested.{set_digest}
use Rattle.mqtt_keep.proofs.by_name.named.NamedRecords.set_columns.Goals as goal

pub invariant_of-self : goal.invariant_of-self
invariant_of-self c =
    let birth : ℕ = c.args.row.birth in
    c.edit.ensures
    ∙ (ap (λ (d : ℕ). change_row digest_birth birth (with_digest d) c.self.inside.digests) (c.digest_of.ensures ∙ ap digest_of c.as_str.ensures.value)
    ∙ (ap (λ (rows : List DigestRow). change_row digest_birth birth (with_digest (digest_of c.args.row.client)) rows) c.self.invariant
    ∙ (set_digest c.args.row c.self.inside.records.sessions ∙ sym (ap (λ (r : Records). digest_rows r.sessions) c.change.ensures))))
