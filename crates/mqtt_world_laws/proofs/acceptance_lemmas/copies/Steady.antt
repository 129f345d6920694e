-- What holds of the broker after each step in which no number is spent; and the numbers of its lines never fall.
use Rattle.std.proofs.Common.{◌≡◌, ℕ, suc, ◌≤◌, Bool, true, false, cond, List, [], ◌∷◌, refl, sym, subst, arith}
use Rattle.mqtt_records.specs.declared.state.records.Records.{Records}
use Rattle.mqtt_rules.specs.declared.step.Capacity.{Capacity}
use Rattle.mqtt_rules.specs.step.State.{MemberChoice, Broker, Env}
use Rattle.mqtt_rules.specs.step.Deeds.{Deed, Link, given_after, after_all, rows_of_all}
use Rattle.mqtt_rules.specs.step.Laws.{AreWithin}
use Rattle.mqtt_rules.specs.step.Step.{Call, NewLine, can_link, at_moment, env_of, deeds, stepped, opened, is_step_spent, is_opening_spent, rows_written, is_spent}
use Rattle.mqtt_rules.proofs.step_lemmas.acts.Acts.{anyone, finds_anyone}
use Rattle.mqtt_rules.proofs.step_lemmas.acts.ByDeeds.{DeedLaw, leads_deeds}
use Rattle.mqtt_rules.proofs.step_lemmas.lines.LineSteps.{step_unique, opening_unique, blank_unique}
use Rattle.mqtt_rules.proofs.step_lemmas.fit.RowsFit.{step_coherent, step_last, opening_coherent, opened_last, nothing_coherent}
use Rattle.mqtt_rules.proofs.step_lemmas.numbers.NumberSteps.{step_timed, opening_timed}
use Rattle.mqtt_world_model.proofs.model_lemmas.others.Frame.{kept_given}
use Rattle.mqtt_world_model.specs.model.Hops.{IsInOrder}
use Rattle.mqtt_world_model.specs.model.Seats.{HasPlace, IsSound}
use Rattle.mqtt_world_model.specs.model.World.{start}
use Rattle.mqtt_world_laws.specs.acceptance.Fair.{IsSteady, MayOpen}

-- its sessions and lines are in order
pub order_of : (b : Broker) → IsSteady b → IsInOrder b
order_of b s = record { sessions = s.coherent.ordered.sessions.ascending; births = s.coherent.births; lines = s.lines }

-- and so is what a client with a place asks of it
pub sound_of : (limits : Capacity) (client : List ℕ) (b : Broker) → AreWithin limits → IsSteady b → HasPlace limits client b.records → IsSound limits client b
sound_of limits client b within s place = record { order = order_of b s; place = place; within = within.sessions }

-- a step that spends nothing leaves a broker steady
pub steady_step : (limits : Capacity) (choice : MemberChoice) (now : ℕ) (call : Call) (b : Broker)
    → AreWithin limits → IsSteady b → is_step_spent limits choice now call b ≡ false
    → IsSteady (stepped limits choice now call b)
steady_step limits choice now call b within s unspent = record {
  coherent = step_coherent limits choice now call b within s.coherent s.timed s.moment unspent;
  timed = (step_timed limits choice now call b s.timed).1;
  moment = step_last limits choice now call b s.moment;
  lines = step_unique limits choice now call b within s.coherent s.timed s.moment unspent s.lines;
}

-- so does an opening of what may be opened
pub steady_opened : (limits : Capacity) (choice : MemberChoice) (now : ℕ) (r : Records)
    → AreWithin limits → MayOpen limits choice now r → IsSteady (opened limits choice now r)
steady_opened limits choice now r within h = record {
  coherent = opening_coherent limits choice now r within h.coherent h.unspent;
  timed = (opening_timed limits choice now r h.coherent.counters.moment).1;
  moment = opened_last limits choice now r;
  lines = opening_unique limits choice now r;
}

-- and one of what a steady broker left
pub steady_again : (limits : Capacity) (choice : MemberChoice) (now : ℕ) (b : Broker)
    → AreWithin limits → IsSteady b → is_opening_spent limits choice now b.records ≡ false
    → IsSteady (opened limits choice now b.records)
steady_again limits choice now b within s unspent =
    steady_opened limits choice now b.records within (record { coherent = s.coherent; unspent = unspent })

-- the first broker is steady
pub steady_start : IsSteady start.broker
steady_start = record {
  coherent = nothing_coherent;
  timed = omega arith;
  moment = omega arith;
  lines = blank_unique;
}

-- a new line spends no number
pub linking_spends_none : (limits : Capacity) (choice : MemberChoice) (now : ℕ) (b : Broker)
    → is_step_spent limits choice now NewLine b ≡ false
linking_spends_none limits choice now b = by (can_link limits (at_moment now b))
  where
    by : (t : Bool) → is_spent (rows_written (cond t (Link (suc b.given) ∷ []) []) (at_moment now b)) ≡ false
    by true = refl
    by false = refl

-- ---- line numbers only grow

abbrev IsAbove : ℕ → Broker → Type 0
IsAbove g b = g ≤ b.given

abbrev Grows : Deed → Broker → Type 0
Grows d b = b.given ≤ given_after d b.given

still : (n : ℕ) → n ≤ n
still n = omega arith

growing : (g : ℕ) (env : Env) → DeedLaw env anyone (IsAbove g) Grows
growing g env = record {
  finds = finds_anyone (IsAbove g);
  client_stays = λ its d b h good q. tt;
  kept = λ d b h good. omega (arith, h, good);
  accept = λ origin m b h said. still b.given;
  keep = λ m b h said retain empty found. still b.given;
  forget = λ place b h. still b.given;
  enter = λ who copy b h made. still b.given;
  leave = λ who e ending b h. still b.given;
  refuse_will = λ who b h its. still b.given;
  open_id = λ s id m ds b h k its there new is. still _;
  alone = λ who part b h its is. still b.given;
  close = λ who b h its. still b.given;
  finish = λ who b h its. still b.given;
  resume = λ who expiry will b h its. still b.given;
  name = λ b h. still b.given;
  begin_given = λ c b h came taken its none room. still b.given;
  begin_assigned = λ c b h k came taken room. still b.given;
  count = λ b h. still b.given;
  subscribe = λ w s b h k its granted. still b.given;
  link = λ b h. omega arith;
  on_line = λ line part b h. still b.given;
  send = λ line packet b h. still b.given;
  gone = λ line b h. still b.given;
}

-- line numbers do not fall
pub given_grows : (limits : Capacity) (choice : MemberChoice) (now : ℕ) (call : Call) (b : Broker)
    → b.given ≤ (stepped limits choice now call b).given
given_grows limits choice now call b =
    let begin = at_moment now b in
    let env = env_of limits choice b in
    let ds = deeds limits choice now call b in
    let grown = (leads_deeds env (IsAbove b.given) Grows (growing b.given env) (λ who place phase c h. still c.given) call begin (still b.given)).1 in
    subst (λ (n : ℕ). b.given ≤ n) (sym (kept_given (rows_of_all ds begin.records) (after_all ds begin))) grown
