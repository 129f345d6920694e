use Rattle.std.proofs.Common.{◌≡◌, Ok, true, false, IfOk, refl, sym, ap, subst, inl, inr, ◌∙◌}
use Rattle.std.proofs.lemmas.Bool.{cases_Bool}
use Rattle.mqtt_store_rows.specs.gathering.Queues.{Queues, Any, IsEnd, HasTakenQueues, HaveQueues, AreSlimOf}
use Rattle.mqtt_store_rows.proofs.gathering_lemmas.QueuesLemmas.{queues_at, slim_if, none_referred, none_have}
use Rattle.mqtt_store_rows.proofs.gathering.queues.GatheredQueues.finish.Goals as goal

pub returns-in-Ok-true-clause-ok : goal.returns-in-Ok-true-clause-ok
returns-in-Ok-true-clause-ok c rows =
    let here = c.self.inside in
    let e = c.read_rest.ensures in
    let read : c.read_rest.result ≡ Ok true = c.in-Ok-true.is ∙ ap Ok c.in-Ok-true.field-0-test in
    subst (λ (g : Queues). HasTakenQueues g rows → IfOk c.records_of.result (AreSlimOf g rows)) c.self.view_is
    (λ has. slim_if (queues_at here.reading here.retained here.is_corrupt) rows has c.read_rest.new.reading c.in-Ok-true.ensures.same here.retained refl (e.read read rows (has.read (e.sound read)))
    c.records_of.result c.records_of.ensures.ok c.records_of.ensures.referred)

pub returns-in-Ok-true-clause-err : goal.returns-in-Ok-true-clause-err
returns-in-Ok-true-clause-err c rows has e r have =
    let here = c.self.inside in
    let said = c.read_rest.ensures in
    let read : c.read_rest.result ≡ Ok true = c.in-Ok-true.is ∙ ap Ok c.in-Ok-true.field-0-test in
    let was : HasTakenQueues (queues_at here.reading here.retained here.is_corrupt) rows = subst (λ (g : Queues). HasTakenQueues g rows) (sym c.self.view_is) has in
    none_referred (queues_at here.reading here.retained here.is_corrupt) rows was c.read_rest.new.reading c.in-Ok-true.ensures.same here.retained refl (said.read read rows (was.read (said.sound read)))
    (c.records_of.ensures.err e) r (subst (λ (g : Queues). HaveQueues g rows r) (sym c.self.view_is) have)

pub returns-in-Ok-false-clause-err : goal.returns-in-Ok-false-clause-err
returns-in-Ok-false-clause-err c rows has e r have =
    let here = c.self.inside in
    let g = queues_at here.reading here.retained here.is_corrupt in
    let read : c.read_rest.result ≡ Ok false = c.in-Ok-false.is ∙ ap Ok c.in-Ok-false.field-0-test in
    let was : HasTakenQueues g rows = subst (λ (g : Queues). HasTakenQueues g rows) (sym c.self.view_is) has in
    let there : HaveQueues g rows r = subst (λ (g : Queues). HaveQueues g rows r) (sym c.self.view_is) have in
    elim (cases_Bool here.is_corrupt) [
      | inl corrupt ↦ none_have g rows here.retained refl Any tt (was.none corrupt) r there
      | inr sound ↦ none_have g rows here.retained refl IsEnd refl (c.read_rest.ensures.no read sound rows (was.read sound)) r there
    ]
