use Rattle.std.proofs.Common.{ap}
use Rattle.std.proofs.lemmas.Result.{IfErr-weaker, IfOk-weaker}
use Rattle.mqtt_keep.specs.keeping.InMemory.{InMemory}
use Rattle.mqtt_world_laws.proofs.headline_lemmas.Lives.{start_begins}
use Rattle.mqtt_rules.specs.step.Laws.{unasked}
use Rattle.mqtt_replay.proofs.over_world_lemmas.Texted.{any_fault, front_kept, written, written_front}
use Rattle.mqtt_replay.proofs.over_world.replaying.replay.Goals as goal

pub returns-clause-ok : goal.returns-clause-ok
returns-clause-ok g c =
    IfOk-weaker c.replay_over.result _ _
    (λ played shows. written _ (λ keep. tt) (unasked c.args.limits) c.requires.within _ (ap (λ (k : InMemory). k.records) c.in_ok-keep.ensures) _ _ _ played shows)
    c.replay_over.ensures.ok

pub returns-clause-err : goal.returns-clause-err
returns-clause-err g c =
    IfErr-weaker c.replay_over.result _ _
    (λ fault front n. written_front _ (λ keep. tt) (unasked c.args.limits) c.requires.within _ (ap (λ (k : InMemory). k.records) c.in_ok-keep.ensures) _ _ _ (front n))
    c.replay_over.ensures.err

pub returns-in_err-keep-clause-err : goal.returns-in_err-keep-clause-err
returns-in_err-keep-clause-err g c =
    any_fault c.from_residual.result _ (λ fault n. front_kept (unasked c.args.limits) _ _ c.requires.within)

pub returns-clause-untouched : goal.returns-clause-untouched
returns-clause-untouched g c = start_begins (unasked c.args.limits) c.requires.within

pub returns-in_err-keep-clause-untouched : goal.returns-in_err-keep-clause-untouched
returns-in_err-keep-clause-untouched g c = start_begins (unasked c.args.limits) c.requires.within
