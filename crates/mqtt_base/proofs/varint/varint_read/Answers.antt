use Rattle.std.proofs.Common.{subst, ap, ◌∙◌, arith}
use Rattle.mqtt_base.specs.Reading.{Reads, varint_at}
use Rattle.mqtt_base.specs.Refusals.{VarIntRefused}
use Rattle.mqtt_base.proofs.Steps.{refuses}
use Rattle.mqtt_base.proofs.Varints.{varint_found, varint_again, varint_below, varint_few}
use Rattle.mqtt_base.proofs.VarintRefusals.{varint_refused, varint_due}
use Rattle.mqtt_base.proofs.varint.varint_read.Goals as goal

pub returns-clause-below : goal.returns-clause-below
returns-clause-below c = varint_below c.args.bytes.now c.varint_by_groups.result (λ i. omega (arith, c.type_inv.bytes i)) c.varint_by_groups.ensures

pub returns-clause-few : goal.returns-clause-few
returns-clause-few c = varint_few c.args.bytes.now c.varint_by_groups.result (λ i. omega (arith, c.type_inv.bytes i)) c.varint_by_groups.ensures

pub returns-clause-found : goal.returns-clause-found
returns-clause-found c = varint_found c.args.bytes.now c.varint_by_groups.result (λ i. omega (arith, c.type_inv.bytes i)) c.varint_by_groups.ensures

pub returns-clause-only : goal.returns-clause-only
returns-clause-only c = λ n v rest is e. subst (λ r. Reads (λ n. n) c.varint_by_groups.result c.args.bytes.now r) (ap varint_at e ∙ varint_again n v rest is) c.varint_by_groups.ensures

pub returns-clause-refused : goal.returns-clause-refused
returns-clause-refused c = λ f. refuses (λ n. n) c.varint_by_groups.result c.args.bytes.now (varint_at c.args.bytes.now) (VarIntRefused f c.args.bytes.now) f c.varint_by_groups.ensures (varint_refused f c.args.bytes.now) (varint_due f c.args.bytes.now)
