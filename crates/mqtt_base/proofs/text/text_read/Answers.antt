use Rattle.std.proofs.Common.{subst, ap, ◌∙◌, arith}
use Rattle.mqtt_base.specs.Reading.{Reads, text_at}
use Rattle.mqtt_base.specs.Refusals.{TextRefused}
use Rattle.mqtt_base.proofs.Steps.{refuses}
use Rattle.mqtt_base.proofs.Fields.{text_was, spelled_again}
use Rattle.mqtt_base.proofs.FieldRefusals.{text_refusal, text_due}
use Rattle.mqtt_base.proofs.text.text_read.Goals as goal

pub returns-clause-found : goal.returns-clause-found
returns-clause-found c = text_was (λ t. t.now) c.args.bytes.now c.text_by_blob.result (λ i. omega (arith, c.type_inv.bytes i)) c.text_by_blob.ensures

pub returns-clause-only : goal.returns-clause-only
returns-clause-only c = λ t v rest is e. subst (λ r. Reads (λ t. t.now) c.text_by_blob.result c.args.bytes.now r) (ap text_at e ∙ spelled_again t v rest is) c.text_by_blob.ensures

pub returns-clause-refused : goal.returns-clause-refused
returns-clause-refused c = λ f. refuses (λ t. t.now) c.text_by_blob.result c.args.bytes.now (text_at c.args.bytes.now) (TextRefused f c.args.bytes.now) f c.text_by_blob.ensures (text_refusal f c.args.bytes.now) (text_due f c.args.bytes.now)
