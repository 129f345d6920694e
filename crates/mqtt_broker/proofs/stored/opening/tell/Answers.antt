use Rattle.std.proofs.Common.{ap, inl, inr}
use Rattle.std.specs.Prelude.{Err}
use Rattle.mqtt_broker.proofs.stored_lemmas.Over.{told_held, told_refused}
use Rattle.mqtt_broker.proofs.stored.opening.tell.Goals as goal

pub commit_kept-requires : goal.commit_kept-requires
commit_kept-requires g c = record { loaded = c.requires.opened.3.over.loaded }

pub returns-in-Ok-clause-told : goal.returns-in-Ok-clause-told
returns-in-Ok-clause-told g c = λ limits now whole o.
    told_held g.K.Keep limits now whole c.args.keep.now c.args.step.now o c.commit_kept.ensures.unspent c.commit_kept.new.keep c.commit_kept.new.step
    (λ r after holds can may. c.commit_kept.ensures.crash r after holds can may) c.commit_kept.ensures.sound c.in-Ok.ensures.stored c.in-Ok.ensures.done

pub returns-in-Err-clause-told : goal.returns-in-Err-clause-told
returns-in-Err-clause-told g c = λ limits now whole o.
    told_refused g.K.Keep limits now whole c.args.keep.now c.args.step.now o c.commit_kept.ensures.unspent c.commit_kept.new.keep c.commit_kept.new.step
    (λ r after holds can may. c.commit_kept.ensures.crash r after holds can may) c.commit_kept.ensures.sound c.in-Err.error
    (λ r holds can is. c.in-Err.ensures.memory r holds can (elim is [ inl e ↦ inl (ap Err e) | inr e ↦ inr (ap Err e) ]))
    (λ e. c.in-Err.ensures.refused.0 (ap Err e)) (λ e. c.in-Err.ensures.refused.1 (ap Err e))
    (λ is. c.in-Err.ensures.cause (elim is [ inl e ↦ inl (ap Err e) | inr e ↦ inr (ap Err e) ]))
