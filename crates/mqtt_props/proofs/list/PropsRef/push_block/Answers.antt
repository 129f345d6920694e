-- The pairs spell the list (MQTT 5.0, 2.2.2).
use Rattle.mqtt_props.proofs.Blocks.{pairs_of}
use Rattle.mqtt_props.proofs.list.PropsRef.push_block.Goals as goal

pub returns-clause-ok : goal.returns-clause-ok
returns-clause-ok c =
    rw (← pairs_of c.self.inside.pairs.now c.args.self.now c.self.invariant c.self.view_is) c.block_push.ensures.ok
