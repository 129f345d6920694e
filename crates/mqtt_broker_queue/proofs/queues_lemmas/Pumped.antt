-- Turns that were looked up for a session are the ones that the rules have.
use Rattle.std.proofs.Common.{◌≡◌, ℕ, zero, suc, Bool, true, false, ◌&&◌, List, [], ◌∷◌, ◌++◌, map, refl, ap, sym, subst, ◌∙◌}
use Rattle.std.specs.Prelude.{Option, Some, flat_map}
use Rattle.mqtt_base.specs.declared.session.Ending.TheVariants.{Dropped, Expired}
use Rattle.mqtt_flow.specs.declared.outbound.entry.Entry.{Entry as FlowEntry}
use Rattle.mqtt_flow.specs.declared.outbound.entry.Turn.{Turn}
use Rattle.mqtt_flow.specs.declared.outbound.entry.Turn.TheVariants as turns
use Rattle.mqtt_flow.specs.declared.outbound.entry.Way.{Way}
use Rattle.mqtt_flow.specs.outbound.Outbound.{expired, expired_at, dropped, dropped_at, gives_way, is_waiting, is_late}
use Rattle.mqtt_records.specs.messages.Queue.{CopyRow}
use Rattle.mqtt_records.specs.declared.state.session.Session.{Session}
use Rattle.mqtt_rules.specs.step.Deeds.{always, with_session, with_line}
use Rattle.mqtt_rules.specs.step.Fitting.{pump_turns}
use Rattle.mqtt_rules.specs.step.Outbound.{turn_deeds, all_turn_deeds, leave_deeds}
use Rattle.mqtt_rules.specs.step.Inbound.{pump_deeds}
use Rattle.mqtt_rules.specs.step.State.{Line, Broker, session_at, line_at, queue_on}
use Rattle.mqtt_rules.specs.step.Step.{on_pump}
use Rattle.mqtt_rules.specs.step.Tick.{lapse_deeds}
use Rattle.mqtt_rules.proofs.step_lemmas.fit.Turns.{Rises}
use Rattle.mqtt_broker_queue.specs.queues.Turning.{takes_turns, pumps, lapses_of}

some_is : {X : Type 0} (x y : X) → Some x ≡ Some y → x ≡ y
some_is x y e = cc

-- ---- turns in the order of the queue

-- of the session that was found, turns that rise do
pub rise_there : (birth : ℕ) (x : Session) (ts : List Turn) (b : Broker) → session_at birth b.records ≡ Some x → Rises x.queue 0 ts
    → (y : Session) → session_at birth b.records ≡ Some y → Rises y.queue 0 ts
rise_there birth x ts b found rises = λ y there.
    subst (λ (z : Session). Rises z.queue 0 ts) (some_is x y (sym found ∙ there)) rises

repeats_rise : {X : Type 0} (q : List CopyRow) (ds : List X) (id : X → ℕ) → Rises q 0 (map (λ d. turns.Repeat (id d)) ds)
repeats_rise q [] id = tt
repeats_rise q (d ∷ ds) id = repeats_rise q ds id

-- ---- copies that leave send nothing

-- the turns of dropped copies are that they leave, and nothing else
pub dropped_leave : (moment line k since : ℕ) (s : Session) (es : List FlowEntry) → flat_map (turn_deeds moment line s) (dropped k since es) ≡ flat_map (leave_deeds s) (dropped k since es)
dropped_leave moment line k since s [] = refl
dropped_leave moment line zero since s (e ∷ es) = refl
dropped_leave moment line (suc k) since s (e ∷ es) = by (gives_way since e) (dropped_leave moment line k since s es) (dropped_leave moment line (suc k) since s es)
  where
    by : (t : Bool) → flat_map (turn_deeds moment line s) (dropped k since es) ≡ flat_map (leave_deeds s) (dropped k since es)
        → flat_map (turn_deeds moment line s) (dropped (suc k) since es) ≡ flat_map (leave_deeds s) (dropped (suc k) since es)
        → flat_map (turn_deeds moment line s) (dropped_at t e (dropped k since es) (dropped (suc k) since es))
        ≡ flat_map (leave_deeds s) (dropped_at t e (dropped k since es) (dropped (suc k) since es))
    by true fewer more = ap (λ ds. turn_deeds moment line s (turns.Leave e.place Dropped) ++ ds) fewer
    by false fewer more = more

expired_leave : (moment line : ℕ) (s : Session) (es : List FlowEntry) → flat_map (turn_deeds moment line s) (expired moment es) ≡ flat_map (leave_deeds s) (expired moment es)
expired_leave moment line s [] = refl
expired_leave moment line s (e ∷ es) = by (is_waiting e.phase && is_late moment e.copy) (expired_leave moment line s es)
  where
    by : (t : Bool) → flat_map (turn_deeds moment line s) (expired moment es) ≡ flat_map (leave_deeds s) (expired moment es)
        → flat_map (turn_deeds moment line s) (expired_at t e (expired moment es)) ≡ flat_map (leave_deeds s) (expired_at t e (expired moment es))
    by true rest = ap (λ ds. turn_deeds moment line s (turns.Leave e.place Expired) ++ ds) rest
    by false rest = rest

-- ---- the acts

three : {A B C R : Type 0} (mk : A → B → C → R) {a1 a2 : A} {b1 b2 : B} {c1 c2 : C} → a1 ≡ a2 → b1 ≡ b2 → c1 ≡ c2 → mk a1 b1 c1 ≡ mk a2 b2 c2
three mk p q r = cc

abbrev pub way_with : ℕ → ℕ → ℕ → Way
way_with window largest moment = record { window = window; largest = largest; now = moment }

-- a way of sending is told by window, largest packet and moment
pub same_way : {w1 w2 l1 l2 m1 m2 : ℕ} → w1 ≡ w2 → l1 ≡ l2 → m1 ≡ m2 → way_with w1 l1 m1 ≡ way_with w2 l2 m2
same_way p q r = three way_with p q r

-- the turns of a session that was found are its deeds as it was found
pub taken_of : (line birth : ℕ) (ts : List Turn) (x : Session) (b : Broker) → session_at birth b.records ≡ Some x → takes_turns line birth ts b ≡ all_turn_deeds b.now line x ts
taken_of line birth ts x b found = ap (λ (o : Option Session). with_session o (λ s. always (all_turn_deeds b.now line s ts)) b) found

-- turns that were found to be the pump of a session, as it stands on its line, are the rules' turn of sending
pub pumps_is : (line birth : ℕ) (ts : List Turn) (l : Line) (x : Session) (b : Broker) → line_at line b ≡ Some l → l.number ≡ line → l.session ≡ Some birth
    → session_at birth b.records ≡ Some x → ts ≡ pump_turns l b x → takes_turns line birth ts b ≡ pumps line b
pumps_is line birth ts l x b there number connected found is =
    ap (λ (o : Option Session). with_session o (λ s. always (all_turn_deeds b.now line s ts)) b) found
    ∙ (ap (λ n. all_turn_deeds b.now n x ts) (sym number)
    ∙ (ap (λ rs. all_turn_deeds b.now l.number x rs) is
    ∙ (sym (ap (λ (o : Option Session). with_session o (λ s. always (pump_deeds l b s)) b) found)
    ∙ (ap (λ (o : Option ℕ). on_pump l o b) (sym connected)
    ∙ ap (λ (o : Option Line). with_line o (λ k. on_pump k k.session) b) (sym there)))))

-- turns that were found to be those of a session's expired copies are the rules'
pub lapses_is : (line birth : ℕ) (ts : List Turn) (x : Session) (b : Broker) → session_at birth b.records ≡ Some x → ts ≡ expired b.now (queue_on [] x)
    → takes_turns line birth ts b ≡ lapses_of birth b
lapses_is line birth ts x b found is =
    ap (λ (o : Option Session). with_session o (λ s. always (all_turn_deeds b.now line s ts)) b) found
    ∙ (ap (λ rs. all_turn_deeds b.now line x rs) is
    ∙ (expired_leave b.now line x (queue_on [] x)
    ∙ ap (λ (o : Option Session). with_session o (λ s. always (lapse_deeds b.now s)) b) (sym found)))
