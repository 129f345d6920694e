-- Each call and each opening: all that goes out in it was asked for.
use Rattle.std.proofs.Common.{ℕ, Option, Some, None, refl}
use Rattle.mqtt_records.specs.declared.state.records.Records.{Records}
use Rattle.mqtt_rules.specs.declared.step.Capacity.{Capacity}
use Rattle.mqtt_rules.specs.step.Fitting.{fitted, pump_turns, size_at}
use Rattle.mqtt_rules.specs.step.Laws.{IsOrdered}
use Rattle.mqtt_rules.specs.step.Outbound.{way_of}
use Rattle.mqtt_rules.specs.step.State.{Broker, Env, MemberChoice, told_on}
use Rattle.mqtt_rules.specs.step.Step.{Call, at_moment, env_of, unopened}
use Rattle.mqtt_rules.proofs.step_lemmas.fit.StandLaw.{rising}
use Rattle.mqtt_rules.proofs.step_lemmas.fit.TurnLists.{answers_rise, sized_pumps_rise}
use Rattle.mqtt_world_laws.specs.unasked.Unasked.{SendsNothingUnasked, call_step, moments_in, open_step}
use Rattle.mqtt_world_laws.proofs.unasked_lemmas.EachCall.{SaysSent, call_traced, opening_traced}
use Rattle.mqtt_world_laws.proofs.unasked_lemmas.Pumping.{answers_unsent, pumps_known, unsent_known}
use Rattle.mqtt_world_laws.proofs.unasked_lemmas.Subscribing.{subscribed}
use Rattle.mqtt_world_laws.proofs.unasked_lemmas.Traces.{Traced, published, silently, traced_append}
use Rattle.mqtt_world_laws.proofs.unasked_lemmas.Turning.{turned, turned_all}

-- what is traced is said of all deeds
tracing : (call : Option Call) (env : Env) → SaysSent call env (Traced call env)
tracing call env = record {
  silent = silently call env;
  next = traced_append call env;
  publishes = published call env;
  subscribes = λ line p t s b read on. subscribed call env line p read s.birth t s b refl on;
  answers = λ a t l s b h there on is e ms own. turned call env ms l.number s t b there on (answers_rise a t l s (rising s b h there) is e) (unsent_known s.queue t (answers_unsent a t l s is e));
  pumps = λ n l s b h is there on ms own.
      let size = size_at (fitted l b.now (told_on l.number b.tellings) s.queue) in
      turned_all call env ms l.number s (pump_turns l b s) b there on (sized_pumps_rise size (way_of l b.now) l.went s (rising s b h there)) (pumps_known size (way_of l b.now) l.went s (rising s b h there));
}

-- of a call
pub call_asked : (limits : Capacity) (choice : MemberChoice) (now : ℕ) (call : Call) (b : Broker) → IsOrdered b.records → SendsNothingUnasked (call_step limits choice now call b)
call_asked limits choice now call b order =
    call_traced (Some call) (env_of limits choice b) (Traced (Some call) (env_of limits choice b)) (tracing (Some call) (env_of limits choice b)) call refl (at_moment now b) order (moments_in (call_step limits choice now call b)) (λ x among. among)

-- of an opening
pub open_asked : (limits : Capacity) (choice : MemberChoice) (now : ℕ) (r : Records) → IsOrdered r → SendsNothingUnasked (open_step limits choice now r)
open_asked limits choice now r order =
    let b = unopened now r in
    opening_traced None (env_of limits choice b) (Traced None (env_of limits choice b)) (tracing None (env_of limits choice b)) b order (moments_in (open_step limits choice now r)) (λ x among. among)
