-- The length of the block by that of the pairs (MQTT 5.0, 2.2.2.1).
use Rattle.std.proofs.Common.{length, arith}
use Rattle.std.proofs.lemmas.List.{length-append}
use Rattle.mqtt_base.specs.Values.{varint}
use Rattle.mqtt_props.proofs.Blocks.{pairs_of, pairs_fit}
use Rattle.mqtt_props.proofs.list.PropsRef.block_len.Goals as goal

pub returns-clause-exact : goal.returns-clause-exact
returns-clause-exact c =
    rw (← pairs_of c.self.inside.pairs.now c.args.self.now c.self.invariant c.self.view_is)
    (omega (arith, c.varint_len.ensures.value, length-append (varint (length c.self.inside.pairs.now)) c.self.inside.pairs.now))

pub returns-clause-fits : goal.returns-clause-fits
returns-clause-fits c = pairs_fit c.self.inside.pairs.now c.args.self.now c.self.invariant c.self.view_is
