use Rattle.sqlite.specs.Held.{state}
use Rattle.mqtt_store_database.proofs.committing_lemmas.Kept.{step_needs, step_keeps}
use Rattle.mqtt_store_database.proofs.committing_lemmas.Settled.{in_order}
use Rattle.mqtt_store_database.proofs.committing.laws.committed_step_keeps_rows.Goals as goal

pub returns : goal.returns
returns g c making conn changes db r settled k fits agrees says may =
    let s = state g.S.Store conn in
    let o = in_order making s settled in
    (step_keeps making changes s.now.trees r k o fits agrees says db (may settled (step_needs making changes s.now.trees r k o fits agrees says))).0
