-- Found, only and refused, from the function that the reader computes (MQTT 5.0, 2.2.2).
use Rattle.std.proofs.Common.{subst, arith}
use Rattle.mqtt_base.specs.Reading.{Reads}
use Rattle.mqtt_props.proofs.Judged.{lawful_found, lawful_again, lawful_refused}
use Rattle.mqtt_props.proofs.block.look_at.Goals as goal

pub returns-clause-found : goal.returns-clause-found
returns-clause-found c = lawful_found c.args.place c.args.bytes.now c.lawful_read.result (λ i. omega (arith, c.type_inv.bytes i)) c.lawful_read.ensures

pub returns-clause-only : goal.returns-clause-only
returns-clause-only c = λ ps rest b l. subst (λ r. Reads (λ ps. ps) c.lawful_read.result c.args.bytes.now r) (lawful_again c.args.place ps rest c.args.bytes.now b l) c.lawful_read.ensures

pub returns-clause-refused : goal.returns-clause-refused
returns-clause-refused c = lawful_refused c.args.place c.args.bytes.now c.lawful_read.result (λ i. omega (arith, c.type_inv.bytes i)) c.lawful_read.ensures
