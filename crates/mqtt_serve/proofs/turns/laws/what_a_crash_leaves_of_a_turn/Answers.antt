use Rattle.mqtt_serve.proofs.turns_lemmas.Since.{all_stored, broken_held, crash_settled, crash_since, stored_said, stretches_since, together_held}
use Rattle.mqtt_serve.proofs.turns.laws.what_a_crash_leaves_of_a_turn.Goals as goal

pub returns-clause-crash : goal.returns-clause-crash
returns-clause-crash g c first last calls left all sound may = crash_since g.K.Keep g.met.K.Keep.leaves_held first last calls left all sound may

pub returns-clause-before : goal.returns-clause-before
returns-clause-before g c begin last read busy old new turns = together_held g.K.Keep begin read last busy old new turns

pub returns-clause-breaks : goal.returns-clause-breaks
returns-clause-breaks g c = broken_held g.K.Keep

pub returns-clause-behind : goal.returns-clause-behind
returns-clause-behind g c went old new stores = (
  all_stored g.K.Keep went old new stores,
  (λ left sound may. crash_settled g.K.Keep g.met.K.Keep.leaves_held new.engine left (all_stored g.K.Keep went old new stores) sound may),
  stored_said g.K.Keep went old new stores,
)

pub returns-clause-turns : goal.returns-clause-turns
returns-clause-turns g c begin turns told told_then old new all ran =
    stretches_since g.K.Keep begin ran.read ran.is_so.1.0 old new all ran.is_so.1.1
