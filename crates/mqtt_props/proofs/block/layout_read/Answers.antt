-- Found, only and refused, from the function that the reader computes (MQTT 5.0, 2.2.2).
use Rattle.std.proofs.Common.{subst, arith}
use Rattle.mqtt_base.specs.Reading.{Reads}
use Rattle.mqtt_props.proofs.Judged.{layout_found, layout_only, layout_refused}
use Rattle.mqtt_props.proofs.block.layout_read.Goals as goal

pub returns-clause-found : goal.returns-clause-found
returns-clause-found c = layout_found c.args.place c.args.bytes.now c.block_read.result (λ i. omega (arith, c.type_inv.bytes i)) c.block_read.ensures

pub returns-clause-only : goal.returns-clause-only
returns-clause-only c = λ ps rest b. subst (λ r. Reads (λ ps. ps) c.block_read.result c.args.bytes.now r) (layout_only c.args.place ps rest c.args.bytes.now b) c.block_read.ensures

pub returns-clause-refused : goal.returns-clause-refused
returns-clause-refused c = layout_refused c.args.place c.args.bytes.now c.block_read.result c.block_read.ensures
