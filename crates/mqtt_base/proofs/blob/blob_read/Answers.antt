use Rattle.std.proofs.Common.{subst, ap, ◌∙◌, arith}
use Rattle.mqtt_base.specs.Reading.{Reads, blob_at}
use Rattle.mqtt_base.specs.Refusals.{BinaryRefused}
use Rattle.mqtt_base.proofs.Steps.{refuses}
use Rattle.mqtt_base.proofs.Fields.{blob_was, binary_again}
use Rattle.mqtt_base.proofs.FieldRefusals.{blob_refused, blob_due}
use Rattle.mqtt_base.proofs.blob.blob_read.Goals as goal

pub returns-clause-found : goal.returns-clause-found
returns-clause-found c = blob_was (λ b. b.now) c.args.bytes.now c.blob_by_length.result (λ i. omega (arith, c.type_inv.bytes i)) c.blob_by_length.ensures

pub returns-clause-only : goal.returns-clause-only
returns-clause-only c = λ d v rest is e. subst (λ r. Reads (λ b. b.now) c.blob_by_length.result c.args.bytes.now r) (ap blob_at e ∙ binary_again d v rest is) c.blob_by_length.ensures

pub returns-clause-refused : goal.returns-clause-refused
returns-clause-refused c = λ f. refuses (λ b. b.now) c.blob_by_length.result c.args.bytes.now (blob_at c.args.bytes.now) (BinaryRefused f c.args.bytes.now) f c.blob_by_length.ensures (blob_refused f c.args.bytes.now) (blob_due f c.args.bytes.now)
