-- No deed of a call or of an opening sets the phase of a copy back to waiting (MQTT 5.0, 4.3, 4.4).
use Rattle.std.proofs.Common.{◌≡◌, ℕ, true, List, [], ◌∷◌, Option, Some, None}
use Rattle.std.specs.Prelude.{⊤}
use Rattle.std.specs.List.{AllByRecursion}
use Rattle.mqtt_base.specs.declared.session.Phase.TheVariants.{Waiting}
use Rattle.mqtt_flow.specs.declared.outbound.entry.Turn.{Turn}
use Rattle.mqtt_flow.specs.declared.outbound.entry.Turn.TheVariants as turns
use Rattle.mqtt_records.specs.messages.Queue.{CopyRow}
use Rattle.mqtt_records.specs.state.Session.{copy_place}
use Rattle.mqtt_records.specs.declared.state.session.Session.{Session}
use Rattle.mqtt_records.specs.lists.Order.{row_at}
use Rattle.mqtt_rules.specs.step.Deeds.{At, Deed, Mark, Part, Whose, after}
use Rattle.mqtt_rules.specs.step.Fitting.{pump_turns}
use Rattle.mqtt_rules.specs.step.Inbound.{pump_deeds}
use Rattle.mqtt_rules.specs.step.Outbound.{of_entry, turn_deeds}
use Rattle.mqtt_rules.specs.step.State.{Broker, Env, Line}
use Rattle.mqtt_rules.specs.step.Step.{Call, deeds_of, opening}
use Rattle.mqtt_rules.proofs.step_lemmas.acts.Acts.{Law, anyone, call_of_anyone, finds_anyone, is_alone, leads_call, leads_opening}
use Rattle.mqtt_rules.proofs.step_lemmas.acts.ByDeeds.{DeedLaw, TurnLaw, by_deeds, by_deeds_shuts}
use Rattle.mqtt_rules.proofs.step_lemmas.acts.Goods.{AreGood}
use Rattle.mqtt_rules.proofs.step_lemmas.numbers.Copies.{each_flat}

-- if it sets a phase, that isn't of a copy that waits
abbrev pub IsMarked : Deed → Type 0
IsMarked (At who (Mark place phase)) = phase ≡ Waiting → ⊥
IsMarked d = ⊤

abbrev pub AreMarked : List Deed → Type 0
AreMarked ds = AllByRecursion IsMarked ds

-- ---- turns of a queue

marked_entry : (o : Option CopyRow) (f : CopyRow → List Deed) → ((e : CopyRow) → AreMarked (f e)) → AreMarked (of_entry o f)
marked_entry None f h = tt
marked_entry (Some e) f h = h e

marked_turn : (now line : ℕ) (s : Session) (t : Turn) → AreMarked (turn_deeds now line s t)
marked_turn now line s (turns.Send place id) = marked_entry (row_at copy_place place s.queue) _ (λ e. ((λ is. absurd cc), (tt, (tt, tt))))
marked_turn now line s (turns.Resend place id) = marked_entry (row_at copy_place place s.queue) _ (λ e. (tt, (tt, tt)))
marked_turn now line s (turns.Release place id order) = ((λ is. absurd cc), (tt, tt))
marked_turn now line s (turns.Outgrow place id order) = ((λ is. absurd cc), (tt, tt))
marked_turn now line s (turns.Repeat id) = (tt, tt)
marked_turn now line s (turns.Unknown id) = (tt, tt)
marked_turn now line s (turns.Leave place ending) = marked_entry (row_at copy_place place s.queue) _ (λ e. (tt, tt))

marked_pump : (l : Line) (b : Broker) (s : Session) → AreMarked (pump_deeds l b s)
marked_pump l b s = each_flat IsMarked (turn_deeds b.now l.number s) (marked_turn b.now l.number s) (pump_turns l b s)

-- ---- all that a call or an opening does

abbrev Any : Broker → Type 0
Any b = ⊤

abbrev Good : Deed → Broker → Type 0
Good d b = IsMarked d

good_marked : (ds : List Deed) (b : Broker) → AreMarked ds → AreGood Good ds b
good_marked [] b h = tt
good_marked (d ∷ ds) b h = (h.0, good_marked ds (after d b) h.1)

marked_good : (ds : List Deed) (b : Broker) → AreGood Good ds b → AreMarked ds
marked_good [] b h = tt
marked_good (d ∷ ds) b h = (h.0, marked_good ds (after d b) h.1)

marked_alone : (who : Whose) (part : Part) → is_alone part ≡ true → IsMarked (At who part)
marked_alone who (Mark place phase) is = absurd cc
marked_alone who part is = tt

deed_law : (env : Env) → DeedLaw env anyone Any Good
deed_law env = record {
  finds = finds_anyone Any;
  client_stays = λ client d b k g its. tt;
  kept = λ d b k g. tt;
  accept = λ origin m b k said. tt;
  keep = λ m b k said is full found. tt;
  forget = λ place b k. tt;
  enter = λ who copy b k made. tt;
  leave = λ who e ending b k. tt;
  refuse_will = λ who b k its. tt;
  open_id = λ s id m ds b k h its there new is. tt;
  alone = λ who part b k its is. marked_alone who part is;
  close = λ who b k its. tt;
  finish = λ who b k its. tt;
  resume = λ who expiry will b k its. tt;
  name = λ b k. tt;
  begin_given = λ c b k came taken name is room. tt;
  begin_assigned = λ c b k h came taken room. tt;
  count = λ b k. tt;
  subscribe = λ w s b k h its granted. tt;
  link = λ b k. tt;
  on_line = λ line part b k. tt;
  send = λ line packet b k. tt;
  gone = λ line b k. tt;
}

turn_law : TurnLaw anyone Any Good
turn_law = record {
  pumps = λ l s b k its is there. (good_marked (pump_deeds l b s) b (marked_pump l b s), tt);
  turns = λ a t l s b k its own there is e. (good_marked (turn_deeds b.now l.number s t) b (marked_turn b.now l.number s t), tt);
}

law : (env : Env) → Law env anyone Any Good
law env = by_deeds env anyone Any Good (deed_law env) turn_law

-- whatever the call
pub call_marked : (env : Env) (call : Call) (b : Broker) → AreMarked (deeds_of env call b)
call_marked env call b = marked_good (deeds_of env call b) b (leads_call env anyone Any Good (law env) call b tt (call_of_anyone call b)).0

-- and as the broker is opened
pub opening_marked : (env : Env) (b : Broker) → AreMarked (opening env b)
opening_marked env b = marked_good (opening env b) b (leads_opening env anyone Any Good (law env) (by_deeds_shuts env anyone Any Good (deed_law env) (λ birth. tt)) (λ birth. tt) b tt).0
