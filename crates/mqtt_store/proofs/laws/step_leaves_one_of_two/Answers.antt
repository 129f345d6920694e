use Rattle.std.proofs.Common.{inl, inr}
use Rattle.sqlite.specs.Held.{state}
use Rattle.mqtt_store.proofs.Held.{leaves_held, step_leaves}
use Rattle.mqtt_store.proofs.laws.step_leaves_one_of_two.Goals as goal

pub returns : goal.returns
returns g c old new r after left it holds found =
    elim (step_leaves (state g.S.Store old) (state g.S.Store new) after left it found) [
      | inl first ↦ inl (leaves_held (state g.S.Store old) left r holds first)
      | inr made ↦ inr made
    ]
