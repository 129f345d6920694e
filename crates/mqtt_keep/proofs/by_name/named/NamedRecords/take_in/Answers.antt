-- A copy that is filled leaves the digests.
use Rattle.std.proofs.Common.{sym, refl, ap, subst, ◌∙◌}
use Rattle.mqtt_records.specs.declared.state.records.Records.{Records}
use Rattle.mqtt_records.specs.state.Session.{with_filled}
use Rattle.mqtt_records.specs.state.Slim.{TakesIn}
use Rattle.mqtt_keep.specs.by_name.Digests.{digest_rows}
use Rattle.mqtt_keep.proofs.by_name_lemmas.Digested.{same_digest}
use Rattle.mqtt_keep.proofs.by_name.named.NamedRecords.take_in.Goals as goal

pub invariant_of-self : goal.invariant_of-self
invariant_of-self c =
    let stands = subst (λ (r : Records). TakesIn c.args.birth c.args.content r) (sym c.self.view_is) c.requires in
    c.self.invariant
    ∙ sym (ap (λ (r : Records). digest_rows r.sessions) (c.fill-taken.ensures.ok (c.fill-taken.ensures.exact.1 stands))
    ∙ same_digest c.args.birth (with_filled c.args.content) c.self.inside.records.sessions (λ s. refl))
