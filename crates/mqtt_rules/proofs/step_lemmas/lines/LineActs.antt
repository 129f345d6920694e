-- Acts that connect nobody, and those of them that close and end no session.
use Rattle.std.proofs.Common.{ℕ, Bool, true, false, List, [], ◌∷◌, filter, map, Option, Some, None}
use Rattle.std.specs.Prelude.{flat_map}
use Rattle.mqtt_base.specs.declared.session.Ending.TheVariants.{SessionEnded}
use Rattle.mqtt_packet.specs.declared.codec.packet.Packet.{Packet}
use Rattle.mqtt_topic.specs.names.Names.{is_empty}
use Rattle.mqtt_flow.specs.declared.outbound.entry.Turn.{Turn}
use Rattle.mqtt_flow.specs.declared.outbound.entry.Turn.TheVariants as turns
use Rattle.mqtt_flow.specs.outbound.Outbound.{way_made}
use Rattle.mqtt_records.specs.declared.messages.message.MessageCopy.{MessageCopy}
use Rattle.mqtt_records.specs.declared.messages.message.RetainedMessage.{RetainedMessage}
use Rattle.mqtt_records.specs.declared.messages.message.Will.{Will}
use Rattle.mqtt_records.specs.declared.state.session.Session.{Session}
use Rattle.mqtt_records.specs.lists.Order.{row_at}
use Rattle.mqtt_records.specs.state.Session.{copy_place}
use Rattle.mqtt_rules.specs.step.Fitting.{has_form}
use Rattle.mqtt_rules.specs.step.State.{Line, Broker, Env, session_at, line_of, queue_on}
use Rattle.mqtt_rules.specs.step.Packets.{publish_of}
use Rattle.mqtt_rules.specs.step.Deeds.{Whose, whose, Message, Origin, DropWill, Enter, Leave, Deed, Accept, Count, At, Finish, RefuseWill, after, after_all, Act, series, always, only_if, of_session, offer}
use Rattle.mqtt_rules.specs.step.Deeds as deeds
use Rattle.mqtt_rules.specs.step.Outbound.{leave_deeds, turn_deeds, since, queue_limits, enter_deeds}
use Rattle.mqtt_rules.specs.step.Routing.{CopyTo, is_queued, deliver_by, deliver, retained_of, forgets, retain_by, next_publication, publish, accepted_copies}
use Rattle.mqtt_rules.specs.step.Closing.{has_due_will, has_due_end, will_message, publish_or_refuse, will_deeds, publish_will, end_session, settle}
use Rattle.mqtt_rules.specs.step.Connect.{of_client, clear}
use Rattle.mqtt_rules.specs.step.Fitting.{pump_turns}
use Rattle.mqtt_rules.specs.step.Inbound.{pump_deeds}
use Rattle.mqtt_rules.specs.step.Subscribe as sub
use Rattle.mqtt_rules.specs.step.Tick.{lapses, lapse_deeds}
use Rattle.mqtt_rules.proofs.step_lemmas.acts.Offers.{of_offer, of_offer_if}
use Rattle.mqtt_rules.proofs.step_lemmas.acts.Goods.{AreGood, GoodAct, good_append, good_series, good_two, good_map, good_flat, good_acts, good_if, good_of_session, good_of_client, good_with_session, good_of_entry}
use Rattle.mqtt_rules.proofs.step_lemmas.acts.Acts.{brought_to}
use Rattle.mqtt_rules.proofs.step_lemmas.lines.LineRows.{IsStill, IsQuiet, still_quiet}

-- ---- queues

quiet_leave : (s : Session) (t : Turn) (b : Broker) → AreGood IsQuiet (leave_deeds s t) b
quiet_leave s (turns.Leave place ending) b = good_of_entry IsQuiet (row_at copy_place place s.queue) (λ e. At (whose s) (Leave e ending) ∷ []) b (λ e. (tt, tt))
quiet_leave s t b = tt

quiet_leaves : (s : Session) (ts : List Turn) (b : Broker) → AreGood IsQuiet (flat_map (leave_deeds s) ts) b
quiet_leaves s ts b = good_flat IsQuiet (leave_deeds s) (quiet_leave s) ts b

-- a turn connects nobody to a line, and takes nobody off one
pub quiet_turn : (now line : ℕ) (s : Session) (t : Turn) (b : Broker) → AreGood IsQuiet (turn_deeds now line s t) b
quiet_turn now line s (turns.Send place id) b = good_of_entry IsQuiet (row_at copy_place place s.queue) _ b (λ e. (tt, (tt, (tt, tt))))
quiet_turn now line s (turns.Resend place id) b = good_of_entry IsQuiet (row_at copy_place place s.queue) _ b (λ e. (tt, (tt, tt)))
quiet_turn now line s (turns.Release place id order) b = (tt, (tt, tt))
quiet_turn now line s (turns.Outgrow place id order) b = (tt, (tt, tt))
quiet_turn now line s (turns.Repeat id) b = (tt, tt)
quiet_turn now line s (turns.Unknown id) b = (tt, tt)
quiet_turn now line s (turns.Leave place ending) b = quiet_leave s (turns.Leave place ending) b

-- a pump connects nobody to a line, and takes nobody off one
pub quiet_pump : (l : Line) (s : Session) (b : Broker) → AreGood IsQuiet (pump_deeds l b s) b
quiet_pump l s b = good_flat IsQuiet (turn_deeds b.now l.number s) (quiet_turn b.now l.number s) (pump_turns l b s) b

-- nor do the deeds by which copies expire
pub quiet_lapses : (now : ℕ) (s : Session) (b : Broker) → AreGood IsQuiet (lapse_deeds now s) b
quiet_lapses now s b = quiet_leaves s (lapses now s) b

-- ---- publications

quiet_enter : (env : Env) (copy : MessageCopy) (s : Session) (b : Broker) → AreGood IsQuiet (enter_deeds env copy s) b
quiet_enter env copy s b =
    let ts = way_made (queue_limits env) (since env s) (queue_on [] s) in
    good_append IsQuiet (flat_map (leave_deeds s) ts) (At (whose s) (Enter copy) ∷ []) b (quiet_leaves s ts b) (tt, tt)

quiet_offer : (o : Option Line) (packet : Packet) (b : Broker) → AreGood IsQuiet (offer o packet) b
quiet_offer o packet b = of_offer (λ (ds : List Deed). AreGood IsQuiet ds b) o packet tt (λ l there. (tt, tt))

quiet_deliver_by : (t : Bool) (env : Env) (d : CopyTo) (b : Broker) → AreGood IsQuiet (deliver_by t env d b) b
quiet_deliver_by true env d b = good_with_session IsQuiet (session_at d.birth b.records) (λ s. always (enter_deeds env d.copy s)) b (λ s e. quiet_enter env d.copy s b)
quiet_deliver_by false env d b =
    of_offer_if (λ (ds : List Deed). AreGood IsQuiet ds b) (has_form d.copy b) (line_of d.birth b) (publish_of b.now false 0 d.copy) tt (λ l there. (tt, tt))

quiet_deliver : (env : Env) (d : CopyTo) → GoodAct IsQuiet (deliver env d)
quiet_deliver env d b = quiet_deliver_by (is_queued d) env d b

quiet_forgets : (o : Option RetainedMessage) (b : Broker) → AreGood IsQuiet (forgets o) b
quiet_forgets None b = tt
quiet_forgets (Some k) b = (tt, tt)

quiet_retain : (retain empty : Bool) (number : ℕ) (m : Message) → GoodAct IsQuiet (retain_by retain empty number m)
quiet_retain false empty number m b = tt
quiet_retain true true number m b = quiet_forgets (retained_of m.topic b.records) b
quiet_retain true false number m b = (tt, tt)

-- nor does a publication
pub quiet_publish : (env : Env) (origin : Origin) (m : Message) (ds : List CopyTo) (b : Broker) → AreGood IsQuiet (publish env origin m ds b) b
quiet_publish env origin m ds b =
    let number = next_publication b.records in
    good_series IsQuiet (always (Accept number origin m ∷ []) ∷ retain_by m.retain (is_empty m.payload) number m ∷ map (deliver env) ds)
    ((λ c. (tt, tt)), (quiet_retain m.retain (is_empty m.payload) number m, good_acts IsQuiet (deliver env) (quiet_deliver env) ds)) b

-- nor does the granting of a subscription
pub quiet_grants : (env : Env) (w : sub.Wish) (s : Session) (b : Broker) → AreGood IsQuiet (sub.granted_filter env (sub.next_number b.records) s w (brought_to w s b) b).deeds b
quiet_grants env w s b =
    let number = sub.next_number b.records in
    let queued = filter is_queued (brought_to w s b) in
    let first : List Deed = Count number ∷ At (whose s) (deeds.Subscribe (sub.subscription number s w)) ∷ [] in
    let c = after_all first b in
    good_append IsQuiet first (series (map (deliver env) queued) c) b (tt, (tt, tt)) (good_series IsQuiet (map (deliver env) queued) (good_acts IsQuiet (deliver env) (quiet_deliver env) queued) c)

-- ---- Wills, ends and settling

still_publish_or_refuse : (env : Env) (who : Whose) (m : Message) (o : Option (List CopyTo)) (b : Broker) → AreGood IsStill (publish_or_refuse env who m o b) b
still_publish_or_refuse env who m None b = (tt, tt)
still_publish_or_refuse env who m (Some ds) b = still_quiet (publish env deeds.FromWill m ds b) b (quiet_publish env deeds.FromWill m ds b)

still_will : (env : Env) (who : Whose) (will : Option Will) (b : Broker) → AreGood IsStill (will_deeds env who will b) b
still_will env who None b = tt
still_will env who (Some w) b =
    let m = will_message who.client w in
    good_two IsStill (publish_or_refuse env who m (accepted_copies env m b)) (always (At who DropWill ∷ [])) b
    (still_publish_or_refuse env who m (accepted_copies env m b) b) (tt, tt)

-- publishing a Will adds no line and connects nobody
pub still_publish_will : (env : Env) (s : Session) (b : Broker) → AreGood IsStill (publish_will env s b) b
still_publish_will env s b = still_will env (whose s) s.will b

-- ending a session adds no line and connects nobody
pub still_end : (s : Session) (b : Broker) → AreGood IsStill (end_session s) b
still_end s b =
    good_append IsStill (map (λ e. At (whose s) (Leave e SessionEnded)) s.queue) (Finish (whose s) ∷ []) b
    (good_map IsStill (λ e. At (whose s) (Leave e SessionEnded)) (λ e c. tt) s.queue b) (tt, tt)

-- what is due when a session's line is gone adds no line and connects nobody
pub still_settle : (env : Env) (birth : ℕ) (b : Broker) → AreGood IsStill (settle env birth b) b
still_settle env birth b =
    let first = of_session birth (λ s. only_if (has_due_will b.now s) (publish_will env s)) in
    let second = of_session birth (λ s. only_if (has_due_end b.now s) (always (end_session s))) in
    good_two IsStill first second b
    (good_of_session IsStill birth (λ s. only_if (has_due_will b.now s) (publish_will env s)) (λ s. good_if IsStill (has_due_will b.now s) (publish_will env s) (still_publish_will env s)) b)
    (good_of_session IsStill birth (λ s. only_if (has_due_end b.now s) (always (end_session s))) (λ s. good_if IsStill (has_due_end b.now s) (always (end_session s)) (still_end s)) (after_all (first b) b))

-- making way for a clean start adds no line and connects nobody
pub still_clear : (env : Env) (s : Session) (b : Broker) → AreGood IsStill (clear env s b) b
still_clear env s b =
    good_two IsStill (publish_will env s) (of_client s.client (λ t. always (end_session t))) b (still_publish_will env s b)
    (good_of_client IsStill s.client (λ t. always (end_session t)) (λ t. still_end t) (after_all (publish_will env s b) b))
