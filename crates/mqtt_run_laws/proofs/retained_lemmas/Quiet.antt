-- Lists of deeds that accept nothing, and leave the table of retained messages as it is.
use Rattle.mqtt_base.specs.Codes.{identifier_in_use}
use Rattle.mqtt_base.specs.declared.session.Ending.TheVariants.{SessionEnded}
use Rattle.mqtt_flow.specs.declared.inbound.inflow.ReleaseAnswer.TheVariants.{Known, Unknown}
use Rattle.mqtt_flow.specs.declared.inbound.inflow.ReleaseAnswer.{ReleaseAnswer}
use Rattle.mqtt_flow.specs.declared.outbound.entry.Turn.TheVariants as turns
use Rattle.mqtt_flow.specs.declared.outbound.entry.Turn.{Turn}
use Rattle.mqtt_flow.specs.outbound.Outbound.{way_made}
use Rattle.mqtt_packet.specs.declared.codec.packet.Packet.{Packet}
use Rattle.mqtt_packet.specs.declared.codec.publish.Delivery.TheVariants as delivery
use Rattle.mqtt_packet.specs.declared.codec.publish.Delivery.{Delivery}
use Rattle.mqtt_packet.specs.declared.connect.connect.Connect.{Connect as Greeting}
use Rattle.mqtt_packet.specs.declared.subscribe.subscribe.Subscribe.{Subscribe as Asking}
use Rattle.mqtt_packet.specs.declared.subscribe.unsubscribe.Unsubscribe.{Unsubscribe as GivingUp}
use Rattle.mqtt_packet.specs.subscribe.Subscriptions.{Subscription as Asked}
use Rattle.mqtt_props.specs.declared.table.PropName.TheVariants.{SubscriptionIdentifier}
use Rattle.mqtt_records.specs.declared.messages.message.MessageCopy.{MessageCopy}
use Rattle.mqtt_records.specs.declared.state.records.Records.{Records}
use Rattle.mqtt_records.specs.declared.state.session.Session.{Session}
use Rattle.mqtt_records.specs.lists.Order.{row_at}
use Rattle.mqtt_records.specs.messages.PassedOn.{number_at}
use Rattle.mqtt_records.specs.messages.Queue.{CopyRow}
use Rattle.mqtt_records.specs.state.Session.{copy_place}
use Rattle.mqtt_rules.proofs.step_lemmas.acts.Acts.{brought_to}
use Rattle.mqtt_rules.proofs.step_lemmas.acts.Offers.{of_offer, of_offer_if}
use Rattle.mqtt_rules.proofs.step_lemmas.numbers.Copies.{each_append, each_flat}
use Rattle.mqtt_rules.specs.step.Closing.{end_session}
use Rattle.mqtt_rules.specs.step.Connect.{begin_named, largest_of, refusal_size, refused}
use Rattle.mqtt_rules.specs.step.Deeds.{Accept, At, Count, Deed, Enter, Finish, Forget, Gone, Keep, Leave, Send, Subscribe, after_all, always, offer, series, whose, with_session}
use Rattle.mqtt_rules.specs.step.Fitting.{has_form, offer_copy}
use Rattle.mqtt_rules.specs.step.Inbound.{answer, new_expiry, opens, release_by, sets_alias}
use Rattle.mqtt_rules.specs.step.Outbound.{all_turn_deeds, enter_deeds, leave_deeds, of_entry, queue_limits, since, turn_deeds}
use Rattle.mqtt_rules.specs.step.Packets.{connack, publish_of, suback, unsuback}
use Rattle.mqtt_rules.specs.step.Routing.{CopyTo, deliver, deliver_by, is_queued}
use Rattle.mqtt_rules.specs.step.State.{Broker, Env, Line, line_at, line_of, queue_on, session_at}
use Rattle.mqtt_rules.specs.step.Subscribe as sub
use Rattle.mqtt_topic.specs.names.Filters.{is_filter}
use Rattle.std.proofs.Common.{[], Bool, List, None, Option, Some, cond, false, filter, map, true, ℕ, ◌++◌, ◌∷◌}
use Rattle.std.specs.List.{AllByRecursion}
use Rattle.std.specs.Prelude.{flat_map, nat_lt, ⊤}

-- such a deed
abbrev pub IsQuiet : Deed → Type 0
IsQuiet (Accept number origin m) = ⊥
IsQuiet (Keep kept) = ⊥
IsQuiet (Forget place) = ⊥
IsQuiet d = ⊤

-- and many
abbrev pub AreQuiet : List Deed → Type 0
AreQuiet ds = AllByRecursion IsQuiet ds

-- ---- choices, offers and copies

-- a choice between such deeds
pub quiet_cond : (t : Bool) (xs ys : List Deed) → AreQuiet xs → AreQuiet ys → AreQuiet (cond t xs ys)
quiet_cond true xs ys p q = p
quiet_cond false xs ys p q = q

quiet_entry : (o : Option CopyRow) (f : CopyRow → List Deed) → ((e : CopyRow) → AreQuiet (f e)) → AreQuiet (of_entry o f)
quiet_entry None f h = tt
quiet_entry (Some e) f h = h e

quiet_leave : (s : Session) (t : Turn) → AreQuiet (leave_deeds s t)
quiet_leave s (turns.Leave place ending) = quiet_entry (row_at copy_place place s.queue) (λ e. At (whose s) (Leave e ending) ∷ []) (λ e. (tt, tt))
quiet_leave s (turns.Send place id) = tt
quiet_leave s (turns.Resend place id) = tt
quiet_leave s (turns.Release place id order) = tt
quiet_leave s (turns.Outgrow place id order) = tt
quiet_leave s (turns.Repeat id) = tt
quiet_leave s (turns.Unknown id) = tt

-- copies that leave
pub quiet_leaves : (s : Session) (ts : List Turn) → AreQuiet (flat_map (leave_deeds s) ts)
quiet_leaves s ts = each_flat IsQuiet (leave_deeds s) (quiet_leave s) ts

-- an offer to a line
pub quiet_offer : (o : Option Line) (packet : Packet) → AreQuiet (offer o packet)
quiet_offer o packet = of_offer AreQuiet o packet tt (λ l there. (tt, tt))

-- and that of a copy
pub quiet_copy : (o : Option Line) (copy : MessageCopy) (b : Broker) → AreQuiet (offer_copy o copy b)
quiet_copy o copy b = of_offer_if AreQuiet (has_form copy b) o (publish_of b.now false 0 copy) tt (λ l there. (tt, tt))

quiet_enter : (env : Env) (copy : MessageCopy) (s : Session) → AreQuiet (enter_deeds env copy s)
quiet_enter env copy s =
    let ts = way_made (queue_limits env) (since env s) (queue_on [] s) in
    each_append IsQuiet (flat_map (leave_deeds s) ts) (At (whose s) (Enter copy) ∷ []) (quiet_leaves s ts) (tt, tt)

quiet_deliver : (t : Bool) (env : Env) (d : CopyTo) (b : Broker) → AreQuiet (deliver_by t env d b)
quiet_deliver true env d b = by (session_at d.birth b.records)
  where
    by : (o : Option Session) → AreQuiet (with_session o (λ s. always (enter_deeds env d.copy s)) b)
    by None = tt
    by (Some s) = quiet_enter env d.copy s
quiet_deliver false env d b = quiet_copy (line_of d.birth b) d.copy b

-- copies that are delivered
pub quiet_deliveries : (env : Env) (ds : List CopyTo) (b : Broker) → AreQuiet (series (map (deliver env) ds) b)
quiet_deliveries env [] b = tt
quiet_deliveries env (d ∷ ds) b =
    let first = deliver env d b in
    each_append IsQuiet first (series (map (deliver env) ds) (after_all first b)) (quiet_deliver (is_queued d) env d b)
    (quiet_deliveries env ds (after_all first b))

-- ---- answers, turns, ends and beginnings

-- no turn of sending changes what is retained
pub quiet_turn : (now line : ℕ) (s : Session) (t : Turn) → AreQuiet (turn_deeds now line s t)
quiet_turn now line s (turns.Send place id) = quiet_entry (row_at copy_place place s.queue) _ (λ e. (tt, (tt, (tt, tt))))
quiet_turn now line s (turns.Resend place id) = quiet_entry (row_at copy_place place s.queue) _ (λ e. (tt, (tt, tt)))
quiet_turn now line s (turns.Release place id order) = (tt, (tt, tt))
quiet_turn now line s (turns.Outgrow place id order) = (tt, (tt, tt))
quiet_turn now line s (turns.Repeat id) = (tt, tt)
quiet_turn now line s (turns.Unknown id) = (tt, tt)
quiet_turn now line s (turns.Leave place ending) = quiet_leave s (turns.Leave place ending)

-- nor do several
pub quiet_turns : (now line : ℕ) (s : Session) (ts : List Turn) → AreQuiet (all_turn_deeds now line s ts)
quiet_turns now line s ts = each_flat IsQuiet (turn_deeds now line s) (quiet_turn now line s) ts

quiet_ends : (s : Session) (es : List CopyRow) → AreQuiet (map (λ e. At (whose s) (Leave e SessionEnded)) es)
quiet_ends s [] = tt
quiet_ends s (e ∷ es) = (tt, quiet_ends s es)

-- nor the end of a session
pub quiet_end : (s : Session) → AreQuiet (end_session s)
quiet_end s = each_append IsQuiet (map (λ e. At (whose s) (Leave e SessionEnded)) s.queue) (Finish (whose s) ∷ []) (quiet_ends s s.queue) (tt, tt)

-- nor a CONNECT that is refused
pub quiet_refused : (l : Line) (c : Greeting) (code : ℕ) → AreQuiet (refused l c code)
quiet_refused l c code = each_append IsQuiet (cond (nat_lt (largest_of c) refusal_size) [] (Send l.number (connack false code []) ∷ [])) (Gone l.number ∷ [])
    (quiet_cond (nat_lt (largest_of c) refusal_size) [] (Send l.number (connack false code []) ∷ []) tt (tt, tt)) (tt, tt)

-- nor the beginning of a session
pub quiet_begin : (t : Bool) (l : Line) (c : Greeting) (r : Records) → AreQuiet (begin_named t l c r)
quiet_begin false l c r = (tt, (tt, (tt, tt)))
quiet_begin true l c r = (tt, (tt, (tt, (tt, tt))))

-- nor an answer to a PUBLISH
pub quiet_answer : (line : ℕ) (d : Delivery) (code : ℕ) → AreQuiet (answer line d code)
quiet_answer line delivery.AtMostOnce code = tt
quiet_answer line (delivery.AtLeastOnce dup id) code = (tt, tt)
quiet_answer line (delivery.ExactlyOnce dup id) code = (tt, tt)

-- nor an identifier that is opened
pub quiet_opens : (s : Session) (d : Delivery) → AreQuiet (opens s d)
quiet_opens s delivery.AtMostOnce = tt
quiet_opens s (delivery.AtLeastOnce dup id) = tt
quiet_opens s (delivery.ExactlyOnce dup id) = (tt, tt)

-- nor an alias that is set
pub quiet_alias : (t : Bool) (alias : Option ℕ) (line : ℕ) (topic : List ℕ) → AreQuiet (sets_alias t alias line topic)
quiet_alias true alias line topic = tt
quiet_alias false None line topic = tt
quiet_alias false (Some n) line topic = (tt, tt)

-- nor a PUBREL
pub quiet_release : (x : ReleaseAnswer) (l : Line) (s : Session) (id : ℕ) → AreQuiet (release_by x l s id)
quiet_release Known l s id = (tt, (tt, tt))
quiet_release Unknown l s id = (tt, tt)

-- nor a new Session Expiry Interval
pub quiet_expiry : (o : Option ℕ) (s : Session) → AreQuiet (new_expiry o s)
quiet_expiry None s = tt
quiet_expiry (Some n) s = (tt, tt)

-- nor an UNSUBSCRIBE
pub quiet_unsubscribe : (t : Bool) (line : ℕ) (s : Session) (p : GivingUp) (b : Broker) → AreQuiet (sub.unsubscribe_by t line s p b)
quiet_unsubscribe true line s p b = quiet_offer (line_at line b) (unsuback p.identifier (map (λ f. identifier_in_use) p.filters))
quiet_unsubscribe false line s p b =
    each_append IsQuiet (flat_map (sub.unsubscribes s) (filter (λ f. sub.has_filter f s) p.filters))
    (offer (line_at line b) (unsuback p.identifier (sub.drop_codes s [] p.filters)))
    (each_flat IsQuiet (sub.unsubscribes s) (λ f. (tt, tt)) (filter (λ f. sub.has_filter f s) p.filters))
    (quiet_offer (line_at line b) (unsuback p.identifier (sub.drop_codes s [] p.filters)))

-- ---- SUBSCRIBE

quiet_granted : (env : Env) (number : ℕ) (s : Session) (w : sub.Wish) (ds : List CopyTo) (b : Broker) → AreQuiet (sub.granted_filter env number s w ds b).deeds
quiet_granted env number s w ds b =
    let first : List Deed = Count number ∷ At (whose s) (Subscribe (sub.subscription number s w)) ∷ [] in
    (tt, (tt, quiet_deliveries env (filter is_queued ds) (after_all first b)))

quiet_filter : (valid room : Bool) (env : Env) (number : ℕ) (s : Session) (w : sub.Wish) (ds : List CopyTo) (b : Broker)
    → AreQuiet (sub.answer_by valid room env number s w ds b).deeds
quiet_filter false room env number s w ds b = tt
quiet_filter true false env number s w ds b = tt
quiet_filter true true env number s w ds b = quiet_granted env number s w ds b

quiet_told : (env : Env) (o : Option sub.Wish) (b : Broker) (x : Option Session) → AreQuiet (sub.filter_answer_of env o b x).deeds
quiet_told env o b None = tt
quiet_told env None b (Some s) = tt
quiet_told env (Some w) b (Some s) = quiet_filter (is_filter w.filter) _ env (sub.next_number b.records) s w (brought_to w s b) b

quiet_filters : (env : Env) (birth : ℕ) (identifier : Option ℕ) (xs : List Asked) (b : Broker) → AreQuiet (sub.filter_answers env birth identifier xs b).deeds
quiet_filters env birth identifier [] b = tt
quiet_filters env birth identifier (a ∷ rest) b =
    let g = sub.filter_answer_of env (sub.wish_of identifier a) b (session_at birth b.records) in
    each_append IsQuiet g.deeds (sub.filter_answers env birth identifier rest (after_all g.deeds b)).deeds
    (quiet_told env (sub.wish_of identifier a) b (session_at birth b.records)) (quiet_filters env birth identifier rest (after_all g.deeds b))

quiet_late : (line : ℕ) (ds : List CopyTo) (b : Broker) → AreQuiet (series (map (sub.late_send line) ds) b)
quiet_late line [] b = tt
quiet_late line (d ∷ ds) b =
    let first = sub.late_send line d b in
    each_append IsQuiet first (series (map (sub.late_send line) ds) (after_all first b)) (quiet_copy (line_at line b) d.copy b)
    (quiet_late line ds (after_all first b))

-- a SUBSCRIBE
pub quiet_subscribe : (t : Bool) (env : Env) (line : ℕ) (s : Session) (p : Asking) (b : Broker) → AreQuiet (sub.subscribe_by t env line s p b)
quiet_subscribe true env line s p b = quiet_offer (line_at line b) (suback p.identifier (map (λ a. identifier_in_use) p.subscriptions))
quiet_subscribe false env line s p b =
    let identifier = number_at SubscriptionIdentifier p.properties in
    let a = sub.filter_answers env s.birth identifier p.subscriptions b in
    let answer = offer (line_at line b) (suback p.identifier a.codes) in
    let told = a.deeds ++ answer in
    each_append IsQuiet told (series (map (sub.late_send line) a.late) (after_all told b))
    (each_append IsQuiet a.deeds answer (quiet_filters env s.birth identifier p.subscriptions b) (quiet_offer (line_at line b) (suback p.identifier a.codes)))
    (quiet_late line a.late (after_all told b))
