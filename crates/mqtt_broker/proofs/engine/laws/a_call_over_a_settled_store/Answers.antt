use Rattle.std.proofs.Common.{inl, inr}
use Rattle.mqtt_broker.proofs.engine_lemmas.Pieced.{left_before}
use Rattle.mqtt_broker.proofs.engine.laws.a_call_over_a_settled_store.Goals as goal

pub returns-clause-called : goal.returns-clause-called
returns-clause-called g c = λ now call old new result left settled called sound may.
    elim ((called.truly sound).crash settled.runs left may) [
      | inl before ↦ inl (g.met.K.Keep.leaves_held old.keep left old.broker.records settled.settled settled.holds before)
      | inr by ↦ by
    ]

pub returns-clause-piece : goal.returns-clause-piece
returns-clause-piece g c = λ now line piece old new result left settled called sound may.
    elim ((called.truly sound).crash settled.runs left may) [
      | inl before ↦ left_before _ _ _ _ _ (g.met.K.Keep.leaves_held old.running.keep left old.running.broker.records settled.settled settled.holds before)
      | inr by ↦ by
    ]

pub returns-clause-opened : goal.returns-clause-opened
returns-clause-opened g c = λ limits now keep engine r left settled holds opened sound may.
    elim (opened.crash left may sound) [
      | inl before ↦ inl (g.met.K.Keep.leaves_held keep left r settled holds before)
      | inr by ↦ inr by
    ]
