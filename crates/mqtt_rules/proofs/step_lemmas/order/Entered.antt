-- A copy enters a queue that has room: what its entering leaves.
use Rattle.std.proofs.Common.{◌≡◌, ◌<◌, ◌≤◌, Some, arith}
use Rattle.mqtt_records.specs.declared.messages.message.MessageCopy.{MessageCopy}
use Rattle.mqtt_records.specs.declared.state.session.Session.{Session}
use Rattle.mqtt_records.specs.state.Session.{birth_of}
use Rattle.mqtt_base.specs.declared.limits.TheConstants.{QUEUE_LIMIT}
use Rattle.mqtt_rules.specs.step.State.{Broker, Env, session_at}
use Rattle.mqtt_rules.specs.step.Deeds.{after_all}
use Rattle.mqtt_rules.specs.step.Outbound.{room, since, enter_deeds}
use Rattle.mqtt_rules.specs.step.Laws.{HasTables, IsOrdered, QueuesWithin, HasEntered}
use Rattle.mqtt_rules.proofs.step_lemmas.order.OrderedQueues.{stay_is}
use Rattle.mqtt_rules.proofs.step_lemmas.order.OrderedEnters.{all_found, enters}

-- a copy that enters a queue with room stands there, last, with those that did not make way
pub has_entered : (env : Env) (copy : MessageCopy) (s : Session) (b : Broker)
    → env.limits.queue ≤ QUEUE_LIMIT → IsOrdered b.records → QueuesWithin env.limits.queue b.records → session_at s.birth b.records ≡ Some s → 0 < room env s
    → HasEntered env s b.records (after_all (enter_deeds env copy s) b).records
has_entered env copy s b small ordered short found free =
    let same = stay_is env.limits.full (since env s) s.birth s.queue in
    let made = enters env.limits.queue env copy s b (omega arith) small (all_found birth_of HasTables s.birth b.records.sessions s ordered.each found) found (omega (arith, same, free)) (record { ordered = ordered; short = short }) in
    let e = made.0 in
    let stays = e.stays in
    let after = stay_is env.limits.full (since env e.mine) e.mine.birth e.mine.queue in
    record {
      session = e.mine;
      stands = e.found;
      within = e.within;
      room = omega (arith, same, after, stays);
      others = e.others;
    }
