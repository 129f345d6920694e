-- No call but that for a new line links one, and neither does an opening.
use Rattle.std.proofs.Common.{ℕ, Bool, true, false, cond, not, List, [], ◌∷◌, ◌++◌, filter, map, Option, Some, None}
use Rattle.std.specs.Prelude.{⊤, Ok, Err, find, flat_map, nat_lt, option_map}
use Rattle.mqtt_props.specs.declared.table.PropName.TheVariants.{SessionExpiryInterval, SubscriptionIdentifier, TopicAlias}
use Rattle.mqtt_base.specs.declared.session.Ending.TheVariants.{SessionEnded}
use Rattle.mqtt_packet.specs.declared.connect.connect.Connect.{Connect as Greeting}
use Rattle.mqtt_packet.specs.declared.codec.packet.Packet.{Packet}
use Rattle.mqtt_packet.specs.declared.codec.packet.Packet.TheVariants as packets
use Rattle.mqtt_packet.specs.declared.codec.publish.Delivery.{Delivery}
use Rattle.mqtt_packet.specs.declared.codec.publish.Delivery.TheVariants as delivery
use Rattle.mqtt_packet.specs.declared.codec.publish.Publish.{Publish as Publication}
use Rattle.mqtt_packet.specs.subscribe.Subscriptions.{Subscription as Asked}
use Rattle.mqtt_packet.specs.declared.subscribe.subscribe.Subscribe.{Subscribe as Asking}
use Rattle.mqtt_packet.specs.declared.subscribe.unsubscribe.Unsubscribe.{Unsubscribe as GivingUp}
use Rattle.mqtt_flow.specs.declared.outbound.entry.Turn.{Turn}
use Rattle.mqtt_flow.specs.declared.outbound.entry.Turn.TheVariants as turns
use Rattle.mqtt_flow.specs.outbound.Outbound.{Answer, resumed_with, way_made}
use Rattle.mqtt_flow.specs.outbound.Outbound as rules
use Rattle.mqtt_flow.specs.declared.inbound.inflow.Published.{Published}
use Rattle.mqtt_flow.specs.declared.inbound.inflow.Published.TheVariants.{New, Again, Over}
use Rattle.mqtt_flow.specs.declared.inbound.inflow.ReleaseAnswer.{ReleaseAnswer}
use Rattle.mqtt_flow.specs.declared.inbound.inflow.ReleaseAnswer.TheVariants.{Known, Unknown}
use Rattle.mqtt_flow.specs.inbound.Identifiers.{is_among}
use Rattle.mqtt_flow.specs.inbound.Inbound.{answer_to_release}
use Rattle.mqtt_records.specs.declared.messages.message.MessageCopy.{MessageCopy}
use Rattle.mqtt_records.specs.declared.messages.message.RetainedMessage.{RetainedMessage}
use Rattle.mqtt_records.specs.declared.messages.message.Will.{Will}
use Rattle.mqtt_records.specs.declared.state.session.Session.{Session}
use Rattle.mqtt_records.specs.declared.state.records.Records.{Records}
use Rattle.mqtt_records.specs.state.Session.{copy_place}
use Rattle.mqtt_records.specs.lists.Order.{row_at}
use Rattle.mqtt_topic.specs.names.Names.{is_empty}
use Rattle.mqtt_records.specs.messages.PassedOn.{number_at}
use Rattle.mqtt_rules.specs.step.Packets.{publish_of, suback, unsuback, connack, disconnect}
use Rattle.mqtt_rules.specs.step.State.{Line, Broker, Env, session_at, session_named, line_at, line_of, queue_on}
use Rattle.mqtt_rules.specs.step.Deeds.{Whose, whose, Message, Origin, FromClient, FromWill, Resume, Close, DropWill, Enter, Leave, Hear, Deed, Accept, Begin, Name, Count, At, Finish, Forget, RefuseWill, Link, On, Send, Gone, Act, after_all, always, series, only_if, of_session, with_line, offer}
use Rattle.mqtt_rules.specs.step.Deeds as deeds
use Rattle.mqtt_rules.specs.step.Fitting.{has_form, offer_copy, pump_turns}
use Rattle.mqtt_rules.specs.step.Outbound.{leave_deeds, turn_deeds, all_turn_deeds, enter_deeds, queue_limits, since}
use Rattle.mqtt_rules.specs.step.Routing.{CopyTo, accepted_copies, is_queued, deliver_by, deliver, retained_of, forgets, retain_by, next_publication, publish, is_wanted}
use Rattle.mqtt_rules.specs.step.Closing.{has_due_will, has_due_end, will_message, publish_or_refuse, will_deeds, publish_will, end_session, settle, close_session, close_connected, close, drop_line}
use Rattle.mqtt_rules.specs.step.Connect.{largest_of, refusal, refusal_size, refused, of_client, take_over, clear, prepare, resume, begin_named, joins, connect_by}
use Rattle.mqtt_rules.specs.step.Inbound.{Meaning, Means, Wrong, meaning, sets_alias, standing, answer, opens, code_again, code_accepted, publish_new, publish_by, message_of, publish_meant, release_by, on_answer, new_expiry, is_late_expiry, leave_by}
use Rattle.mqtt_rules.specs.step.Subscribe as sub
use Rattle.mqtt_rules.specs.step.Tick.{is_silent, silence, lapses, has_lapsed, lapse_deeds, is_stale, first_due, due, on_tick}
use Rattle.mqtt_rules.specs.step.Step.{Call, NewLine, Input, BadInput, Lost, Pump, Tick, first_packet, next_packet, on_packet, on_fault, late_code, on_pump, deeds_of, connected_in, shuts, settles, shuts_all, settles_all, opening}
use Rattle.mqtt_rules.proofs.step_lemmas.acts.Offers.{of_offer_if}
use Rattle.mqtt_rules.proofs.step_lemmas.acts.Goods.{AreGood, GoodAct, good_append, good_series, good_map, good_flat, good_acts, good_cond, good_if, good_of_session, good_of_client, good_with_line, good_of_entry}

-- a deed links no line
abbrev pub IsUnlinked : Deed → Broker → Type 0
IsUnlinked (Link n) b = ⊥
IsUnlinked d b = ⊤

abbrev Has : List Deed → Broker → Type 0
Has = AreGood IsUnlinked

abbrev Does : Act → Type 0
Does = GoodAct IsUnlinked

-- ---- packets, and copies that leave and enter

un_offer : (o : Option Line) (packet : Packet) (b : Broker) → Has (offer o packet) b
un_offer None packet b = tt
un_offer (Some l) packet b = good_cond IsUnlinked _ (Send l.number packet ∷ []) [] b (tt, tt) tt

un_copy : (o : Option Line) (copy : MessageCopy) → Does (offer_copy o copy)
un_copy o copy b = of_offer_if (λ (ds : List Deed). Has ds b) (has_form copy b) o (publish_of b.now false 0 copy) tt (λ l there. (tt, tt))

un_leave : (s : Session) (t : Turn) (b : Broker) → Has (leave_deeds s t) b
un_leave s (turns.Leave place ending) b = good_of_entry IsUnlinked (row_at copy_place place s.queue) (λ e. At (whose s) (Leave e ending) ∷ []) b (λ e. (tt, tt))
un_leave s (turns.Send place id) b = tt
un_leave s (turns.Resend place id) b = tt
un_leave s (turns.Release place id order) b = tt
un_leave s (turns.Outgrow place id order) b = tt
un_leave s (turns.Repeat id) b = tt
un_leave s (turns.Unknown id) b = tt

un_leaves : (s : Session) (ts : List Turn) (b : Broker) → Has (flat_map (leave_deeds s) ts) b
un_leaves s ts b = good_flat IsUnlinked (leave_deeds s) (un_leave s) ts b

un_turn : (now line : ℕ) (s : Session) (t : Turn) (b : Broker) → Has (turn_deeds now line s t) b
un_turn now line s (turns.Send place id) b = good_of_entry IsUnlinked (row_at copy_place place s.queue) _ b (λ e. (tt, (tt, (tt, tt))))
un_turn now line s (turns.Resend place id) b = good_of_entry IsUnlinked (row_at copy_place place s.queue) _ b (λ e. (tt, (tt, tt)))
un_turn now line s (turns.Release place id order) b = (tt, (tt, tt))
un_turn now line s (turns.Outgrow place id order) b = (tt, (tt, tt))
un_turn now line s (turns.Repeat id) b = (tt, tt)
un_turn now line s (turns.Unknown id) b = (tt, tt)
un_turn now line s (turns.Leave place ending) b = un_leave s (turns.Leave place ending) b

un_turns : (now line : ℕ) (s : Session) (ts : List Turn) (b : Broker) → Has (all_turn_deeds now line s ts) b
un_turns now line s ts b = good_flat IsUnlinked (turn_deeds now line s) (un_turn now line s) ts b

un_enter : (env : Env) (copy : MessageCopy) (s : Session) (b : Broker) → Has (enter_deeds env copy s) b
un_enter env copy s b =
    let ts = way_made (queue_limits env) (since env s) (queue_on [] s) in
    good_append IsUnlinked (flat_map (leave_deeds s) ts) (At (whose s) (Enter copy) ∷ []) b (un_leaves s ts b) (tt, tt)

-- ---- publications

un_deliver : (env : Env) (t : Bool) (d : CopyTo) → Does (deliver_by t env d)
un_deliver env true d b = good_of_session IsUnlinked d.birth (λ s. always (enter_deeds env d.copy s)) (λ s c. un_enter env d.copy s c) b
un_deliver env false d b = un_copy (line_of d.birth b) d.copy b

un_deliveries : (env : Env) (ds : List CopyTo) → Does (series (map (deliver env) ds))
un_deliveries env ds = good_series IsUnlinked (map (deliver env) ds) (good_acts IsUnlinked (deliver env) (λ d. un_deliver env (is_queued d) d) ds)

un_forgets : (o : Option RetainedMessage) (b : Broker) → Has (forgets o) b
un_forgets None b = tt
un_forgets (Some k) b = (tt, tt)

un_retain : (retain empty : Bool) (number : ℕ) (m : Message) → Does (retain_by retain empty number m)
un_retain false empty number m b = tt
un_retain true true number m b = un_forgets (retained_of m.topic b.records) b
un_retain true false number m b = (tt, tt)

un_publish : (env : Env) (origin : Origin) (m : Message) (ds : List CopyTo) → Does (publish env origin m ds)
un_publish env origin m ds b =
    let number = next_publication b.records in
    good_series IsUnlinked (always (Accept number origin m ∷ []) ∷ retain_by m.retain (is_empty m.payload) number m ∷ map (deliver env) ds)
    ((λ c. (tt, tt)), (un_retain m.retain (is_empty m.payload) number m, good_acts IsUnlinked (deliver env) (λ d. un_deliver env (is_queued d) d) ds)) b

-- ---- Wills, ends, settling and closing

un_refuse : (env : Env) (who : Whose) (m : Message) (o : Option (List CopyTo)) → Does (publish_or_refuse env who m o)
un_refuse env who m None b = (tt, tt)
un_refuse env who m (Some ds) b = un_publish env FromWill m ds b

un_will : (env : Env) (who : Whose) (o : Option Will) → Does (will_deeds env who o)
un_will env who None b = tt
un_will env who (Some w) b =
    let m = will_message who.client w in
    good_series IsUnlinked (publish_or_refuse env who m (accepted_copies env m b) ∷ always (At who DropWill ∷ []) ∷ [])
    (un_refuse env who m (accepted_copies env m b), ((λ c. (tt, tt)), tt)) b

un_end : (s : Session) (b : Broker) → Has (end_session s) b
un_end s b =
    good_append IsUnlinked (map (λ e. At (whose s) (Leave e SessionEnded)) s.queue) (Finish (whose s) ∷ []) b
    (good_map IsUnlinked (λ e. At (whose s) (Leave e SessionEnded)) (λ e c. tt) s.queue b) (tt, tt)

un_settle : (env : Env) (birth : ℕ) → Does (settle env birth)
un_settle env birth b =
    good_series IsUnlinked (
    of_session birth (λ s. only_if (has_due_will b.now s) (publish_will env s))
    ∷ of_session birth (λ s. only_if (has_due_end b.now s) (always (end_session s)))
    ∷ []) (
      good_of_session IsUnlinked birth _ (λ s. good_if IsUnlinked (has_due_will b.now s) (publish_will env s) (un_will env (whose s) s.will)),
      (good_of_session IsUnlinked birth _ (λ s. good_if IsUnlinked (has_due_end b.now s) (always (end_session s)) (λ c. un_end s c)), tt),
    ) b

un_close_session : (env : Env) (keeps_will : Bool) (s : Session) → Does (close_session env keeps_will s)
un_close_session env keeps_will s b =
    good_series IsUnlinked (
    only_if (not keeps_will) (always (At (whose s) DropWill ∷ []))
    ∷ always (At (whose s) (Close b.now) ∷ [])
    ∷ settle env s.birth
    ∷ []) (
      good_if IsUnlinked (not keeps_will) (always (At (whose s) DropWill ∷ [])) (λ c. (tt, tt)),
      ((λ c. (tt, tt)), (un_settle env s.birth, tt)),
    ) b

un_close_connected : (env : Env) (keeps_will : Bool) (o : Option ℕ) → Does (close_connected env keeps_will o)
un_close_connected env keeps_will None b = tt
un_close_connected env keeps_will (Some birth) b = good_of_session IsUnlinked birth (close_session env keeps_will) (un_close_session env keeps_will) b

un_close : (env : Env) (keeps_will : Bool) (l : Line) → Does (close env keeps_will l)
un_close env keeps_will l b =
    good_series IsUnlinked (always (Gone l.number ∷ []) ∷ close_connected env keeps_will l.session ∷ [])
    ((λ c. (tt, tt)), (un_close_connected env keeps_will l.session, tt)) b

un_drop : (env : Env) (code : ℕ) (l : Line) → Does (drop_line env code l)
un_drop env code l b = good_series IsUnlinked (always (Send l.number (disconnect code) ∷ []) ∷ close env true l ∷ []) ((λ c. (tt, tt)), (un_close env true l, tt)) b

-- ---- CONNECT

un_take_over : (env : Env) (s : Session) → Does (take_over env s)
un_take_over env s b = good_with_line IsUnlinked (line_of s.birth b) (drop_line env 0x8e) b (λ l e. un_drop env 0x8e l b)

un_clear : (env : Env) (s : Session) → Does (clear env s)
un_clear env s b =
    good_series IsUnlinked (publish_will env s ∷ of_client s.client (λ t. always (end_session t)) ∷ [])
    (un_will env (whose s) s.will, (good_of_client IsUnlinked s.client (λ t. always (end_session t)) (λ t c. un_end t c), tt)) b

un_prepare : (env : Env) (c : Greeting) → Does (prepare env c)
un_prepare env c b =
    good_series IsUnlinked (
    of_client c.client_identifier (take_over env)
    ∷ of_client c.client_identifier (λ s. settle env s.birth)
    ∷ only_if c.clean_start (of_client c.client_identifier (clear env))
    ∷ []) (
      good_of_client IsUnlinked c.client_identifier (take_over env) (un_take_over env),
      (
        good_of_client IsUnlinked c.client_identifier (λ s. settle env s.birth) (λ s. un_settle env s.birth),
        (good_if IsUnlinked c.clean_start (of_client c.client_identifier (clear env)) (good_of_client IsUnlinked c.client_identifier (clear env) (un_clear env)), tt),
      ),
    ) b

un_refused : (l : Line) (c : Greeting) (code : ℕ) (b : Broker) → Has (refused l c code) b
un_refused l c code b =
    let told = Send l.number (connack false code []) ∷ [] in
    good_append IsUnlinked (cond (nat_lt (largest_of c) refusal_size) [] told) (Gone l.number ∷ []) b
    (good_cond IsUnlinked (nat_lt (largest_of c) refusal_size) [] told b tt (tt, tt)) (tt, tt)

un_resume : (l : Line) (c : Greeting) (now : ℕ) (s : Session) (b : Broker) → Has (resume l c now s) b
un_resume l c now s b = (tt, (tt, (tt, un_turns now l.number s (resumed_with (queue_on [] s)) _)))

un_begin : (t : Bool) (l : Line) (c : Greeting) (r : Records) (b : Broker) → Has (begin_named t l c r) b
un_begin false l c r b = (tt, (tt, (tt, tt)))
un_begin true l c r b = (tt, (tt, (tt, (tt, tt))))

un_joins : (env : Env) (l : Line) (c : Greeting) (now : ℕ) (ds : List Deed) (r : Records) (o : Option Session) (b : Broker) → Has ds b → Has (joins env l c now ds r o) b
un_joins env l c now ds r (Some s) b h = good_append IsUnlinked ds (resume l c now s) b h (un_resume l c now s (after_all ds b))
un_joins env l c now ds r None b h =
    good_cond IsUnlinked _ (ds ++ begin_named (is_empty c.client_identifier) l c r) (refused l c 0x97) b
    (good_append IsUnlinked ds (begin_named (is_empty c.client_identifier) l c r) b h (un_begin (is_empty c.client_identifier) l c r (after_all ds b)))
    (un_refused l c 0x97 b)

un_connect : (env : Env) (l : Line) (c : Greeting) (o : Option ℕ) → Does (connect_by o env l c)
un_connect env l c (Some code) b = un_refused l c code b
un_connect env l c None b =
    let ds = prepare env c b in
    let r = (after_all ds b).records in
    un_joins env l c b.now ds r (session_named c.client_identifier r) b (un_prepare env c b)

-- ---- PUBLISH, PUBREL, a receiver's answers, DISCONNECT

un_answer : (line : ℕ) (d : Delivery) (code : ℕ) (b : Broker) → Has (answer line d code) b
un_answer line delivery.AtMostOnce code b = tt
un_answer line (delivery.AtLeastOnce dup id) code b = (tt, tt)
un_answer line (delivery.ExactlyOnce dup id) code b = (tt, tt)

un_opens : (s : Session) (d : Delivery) (b : Broker) → Has (opens s d) b
un_opens s delivery.AtMostOnce b = tt
un_opens s (delivery.AtLeastOnce dup id) b = tt
un_opens s (delivery.ExactlyOnce dup id) b = (tt, tt)

un_new : (env : Env) (l : Line) (s : Session) (p : Publication) (m : Message) (o : Option (List CopyTo)) → Does (publish_new env l s p m o)
un_new env l s p m None b = un_answer l.number p.delivery 0x97 b
un_new env l s p m (Some ds) b =
    let code = code_accepted (is_wanted env m b.records) in
    good_series IsUnlinked (publish env FromClient m ds ∷ always (opens s p.delivery) ∷ always (answer l.number p.delivery code) ∷ [])
    (un_publish env FromClient m ds, ((λ c. un_opens s p.delivery c), ((λ c. un_answer l.number p.delivery code c), tt))) b

un_by : (env : Env) (l : Line) (s : Session) (p : Publication) (m : Message) (x : Published) → Does (publish_by x env l s p m)
un_by env l s p m Again b = un_answer l.number p.delivery (code_again p.delivery) b
un_by env l s p m Over b = un_drop env 0x93 l b
un_by env l s p m New b = un_new env l s p m (accepted_copies env m b) b

un_sets : (t : Bool) (alias : Option ℕ) (line : ℕ) (topic : List ℕ) (b : Broker) → Has (sets_alias t alias line topic) b
un_sets true alias line topic b = tt
un_sets false None line topic b = tt
un_sets false (Some n) line topic b = (tt, tt)

un_meant : (env : Env) (l : Line) (s : Session) (p : Publication) (x : Meaning) → Does (publish_meant x env l s p)
un_meant env l s p (Wrong code) b = un_drop env code l b
un_meant env l s p (Means topic) b =
    let ds = sets_alias (is_empty p.topic) (number_at TopicAlias p.properties) l.number topic in
    let m = message_of s.client topic p in
    good_series IsUnlinked (always ds ∷ publish_by (standing p.delivery s.inbound) env l s p m ∷ []) (
      (λ c. un_sets (is_empty p.topic) (number_at TopicAlias p.properties) l.number topic c),
      (un_by env l s p m (standing p.delivery s.inbound), tt),
    ) b

un_release : (l : Line) (s : Session) (id : ℕ) (x : ReleaseAnswer) (b : Broker) → Has (release_by x l s id) b
un_release l s id Known b = (tt, (tt, tt))
un_release l s id Unknown b = (tt, tt)

un_on_answer : (env : Env) (l : Line) (s : Session) (a : Answer) → Does (on_answer a env l s)
un_on_answer env l s (Ok None) b = tt
un_on_answer env l s (Ok (Some t)) b = un_turn b.now l.number s t b
un_on_answer env l s (Err fault) b = un_drop env 0x82 l b

un_expiry : (o : Option ℕ) (s : Session) (b : Broker) → Has (new_expiry o s) b
un_expiry None s b = tt
un_expiry (Some n) s b = (tt, tt)

un_leave_by : (env : Env) (l : Line) (s : Session) (code : ℕ) (expiry : Option ℕ) (t : Bool) → Does (leave_by t env l s code expiry)
un_leave_by env l s code expiry true b = un_drop env 0x82 l b
un_leave_by env l s code expiry false b =
    good_series IsUnlinked (always (new_expiry expiry s) ∷ close env _ l ∷ []) ((λ c. un_expiry expiry s c), (un_close env _ l, tt)) b

-- ---- SUBSCRIBE and UNSUBSCRIBE

un_granted : (env : Env) (number : ℕ) (s : Session) (w : sub.Wish) (ds : List CopyTo) (b : Broker) → Has (sub.granted_filter env number s w ds b).deeds b
un_granted env number s w ds b =
    let first : List Deed = Count number ∷ At (whose s) (deeds.Subscribe (sub.subscription number s w)) ∷ [] in
    good_series IsUnlinked (always first ∷ map (deliver env) (filter is_queued ds))
    ((λ c. (tt, (tt, tt))), good_acts IsUnlinked (deliver env) (λ d. un_deliver env (is_queued d) d) (filter is_queued ds)) b

un_filter_by : (env : Env) (x y : Bool) (number : ℕ) (s : Session) (w : sub.Wish) (ds : List CopyTo) (b : Broker) → Has (sub.answer_by x y env number s w ds b).deeds b
un_filter_by env false y number s w ds b = tt
un_filter_by env true false number s w ds b = tt
un_filter_by env true true number s w ds b = un_granted env number s w ds b

un_filter : (env : Env) (w : Option sub.Wish) (b : Broker) (o : Option Session) → Has (sub.filter_answer_of env w b o).deeds b
un_filter env w b None = tt
un_filter env None b (Some s) = tt
un_filter env (Some w) b (Some s) = un_filter_by env _ _ _ s w _ b

un_filters : (env : Env) (birth : ℕ) (identifier : Option ℕ) (asked : List Asked) (b : Broker) → Has (sub.filter_answers env birth identifier asked b).deeds b
un_filters env birth identifier [] b = tt
un_filters env birth identifier (a ∷ rest) b =
    let g = sub.filter_answer_of env (sub.wish_of identifier a) b (session_at birth b.records) in
    good_append IsUnlinked g.deeds (sub.filter_answers env birth identifier rest (after_all g.deeds b)).deeds b
    (un_filter env (sub.wish_of identifier a) b (session_at birth b.records))
    (un_filters env birth identifier rest (after_all g.deeds b))

un_subscribe : (env : Env) (line : ℕ) (s : Session) (p : Asking) (t : Bool) → Does (sub.subscribe_by t env line s p)
un_subscribe env line s p true b = un_offer (line_at line b) _ b
un_subscribe env line s p false b =
    let a = sub.filter_answers env s.birth (number_at SubscriptionIdentifier p.properties) p.subscriptions b in
    let told = offer (line_at line b) (suback p.identifier a.codes) in
    good_append IsUnlinked (a.deeds ++ told) (series (map (sub.late_send line) a.late) (after_all (a.deeds ++ told) b)) b
    (good_append IsUnlinked a.deeds told b (un_filters env s.birth (number_at SubscriptionIdentifier p.properties) p.subscriptions b) (un_offer (line_at line b) _ _))
    (good_series IsUnlinked (map (sub.late_send line) a.late) (good_acts IsUnlinked (sub.late_send line) (λ d c. un_copy (line_at line c) d.copy c) a.late) _)

un_unsubscribe : (line : ℕ) (s : Session) (p : GivingUp) (t : Bool) → Does (sub.unsubscribe_by t line s p)
un_unsubscribe line s p true b = un_offer (line_at line b) _ b
un_unsubscribe line s p false b =
    let first = flat_map (sub.unsubscribes s) (filter (λ f. sub.has_filter f s) p.filters) in
    good_append IsUnlinked first (offer (line_at line b) (unsuback p.identifier (sub.drop_codes s [] p.filters))) b
    (good_flat IsUnlinked (sub.unsubscribes s) (λ f c. (tt, tt)) (filter (λ f. sub.has_filter f s) p.filters) b) (un_offer (line_at line b) _ _)

-- ---- packets and faults

un_next : (env : Env) (l : Line) (packet : Packet) (s : Session) → Does (next_packet env l packet s)
un_next env l (packets.Publish p) s b = un_meant env l s p (meaning p l.aliases) b
un_next env l (packets.Puback a) s b = un_on_answer env l s (rules.puback a.identifier a.reason.0 (queue_on l.went s)) b
un_next env l (packets.Pubrec a) s b = un_on_answer env l s (rules.pubrec a.identifier a.reason.0 (queue_on l.went s)) b
un_next env l (packets.Pubrel a) s b = un_release l s a.identifier (answer_to_release a.identifier s.inbound) b
un_next env l (packets.Pubcomp a) s b = un_on_answer env l s (rules.pubcomp a.identifier (queue_on l.went s)) b
un_next env l (packets.Subscribe p) s b = un_subscribe env l.number s p (is_among p.identifier s.inbound) b
un_next env l (packets.Unsubscribe p) s b = un_unsubscribe l.number s p (is_among p.identifier s.inbound) b
un_next env l packets.Pingreq s b = (tt, tt)
un_next env l (packets.Disconnect n) s b =
    let expiry = number_at SessionExpiryInterval n.properties in
    un_leave_by env l s n.reason.0 expiry (is_late_expiry expiry s.expiry) b
un_next env l packet s b = un_drop env 0x82 l b

un_first : (env : Env) (l : Line) (packet : Packet) → Does (first_packet env l packet)
un_first env l (packets.Connect c) b = un_connect env l c (refusal c b.records) b
un_first env l packet b = un_close env true l b

un_packet : (env : Env) (l : Line) (packet : Packet) (o : Option ℕ) → Does (on_packet env l packet o)
un_packet env l packet None b = un_first env l packet b
un_packet env l packet (Some birth) b = good_of_session IsUnlinked birth (next_packet env l packet) (un_next env l packet) b

un_fault : (env : Env) (l : Line) (is_connect : Bool) (code : ℕ) (o : Option ℕ) → Does (on_fault env l is_connect code o)
un_fault env l true code None b =
    good_series IsUnlinked (always (Send l.number (connack false code []) ∷ []) ∷ close env true l ∷ []) ((λ c. (tt, tt)), (un_close env true l, tt)) b
un_fault env l false code None b = un_close env true l b
un_fault env l true code (Some birth) b = un_drop env (late_code code) l b
un_fault env l false code (Some birth) b = un_drop env (late_code code) l b

un_pump : (l : Line) (o : Option ℕ) → Does (on_pump l o)
un_pump l None b = tt
un_pump l (Some birth) b = good_of_session IsUnlinked birth _ (λ s c. un_turns b.now l.number s (pump_turns l b s) c) b

-- ---- a turn of the clock

abbrev DoesAny : Option Act → Type 0
DoesAny None = ⊤
DoesAny (Some act) = Does act

abbrev AllDo : List (Option Act) → Type 0
AllDo [] = ⊤
AllDo (o ∷ os) = DoesAny o × AllDo os

un_first_due : (os : List (Option Act)) → AllDo os → DoesAny (first_due os)
un_first_due [] q = tt
un_first_due (Some act ∷ os) q = q.0
un_first_due (None ∷ os) q = un_first_due os q.1

un_some : {X : Type 0} (f : X → Act) (o : Option X) → ((x : X) → Does (f x)) → DoesAny (option_map f o)
un_some f None h = tt
un_some f (Some x) h = h x

un_on_tick : (o : Option Act) → DoesAny o → Does (on_tick o)
un_on_tick None q b = tt
un_on_tick (Some act) q b = q b

un_silence : (env : Env) (o : Option ℕ) (l : Line) → Does (silence env o l)
un_silence env None l b = un_close env true l b
un_silence env (Some birth) l b = un_drop env 0x8d l b

un_due : (env : Env) (b : Broker) → DoesAny (due env b)
un_due env b = un_first_due (
    option_map (λ l. silence env l.session l) (find (λ l. is_silent b.now l.session l) b.lines)
    ∷ option_map (publish_will env) (find (has_due_will b.now) b.records.sessions)
    ∷ option_map (λ s. always (end_session s)) (find (has_due_end b.now) b.records.sessions)
    ∷ option_map (λ k. always (Forget k.place ∷ [])) (find (is_stale b.now) b.records.retained)
    ∷ option_map (λ s. always (lapse_deeds b.now s)) (find (has_lapsed b.now) b.records.sessions)
    ∷ []) (
      un_some (λ l. silence env l.session l) (find (λ l. is_silent b.now l.session l) b.lines) (λ l. un_silence env l.session l),
      (
        un_some (publish_will env) (find (has_due_will b.now) b.records.sessions) (λ s. un_will env (whose s) s.will),
        (
          un_some (λ s. always (end_session s)) (find (has_due_end b.now) b.records.sessions) (λ s c. un_end s c),
          (
            un_some (λ k. always (Forget k.place ∷ [])) (find (is_stale b.now) b.records.retained) (λ k c. (tt, tt)),
            (un_some (λ s. always (lapse_deeds b.now s)) (find (has_lapsed b.now) b.records.sessions) (λ s c. un_leaves s (lapses b.now s) c), tt),
          ),
        ),
      ),
    )

-- ---- calls, and opening

-- a call that isn't for a new line
abbrev pub IsOld : Call → Type 0
IsOld NewLine = ⊥
IsOld call = ⊤

-- each call but that for a new line has such deeds alone
pub un_call : (env : Env) (call : Call) (b : Broker) → IsOld call → AreGood IsUnlinked (deeds_of env call b) b
un_call env NewLine b old = absurd old
un_call env (Input n packet) b old =
    good_with_line IsUnlinked (line_at n b) (λ l. series (always (On n Hear ∷ []) ∷ on_packet env l packet l.session ∷ [])) b
    (λ l e. good_series IsUnlinked (always (On n Hear ∷ []) ∷ on_packet env l packet l.session ∷ []) ((λ c. (tt, tt)), (un_packet env l packet l.session, tt)) b)
un_call env (BadInput n is_connect code) b old =
    good_with_line IsUnlinked (line_at n b) (λ l. on_fault env l is_connect code l.session) b (λ l e. un_fault env l is_connect code l.session b)
un_call env (Lost n) b old = good_with_line IsUnlinked (line_at n b) (close env true) b (λ l e. un_close env true l b)
un_call env (Pump n) b old = good_with_line IsUnlinked (line_at n b) (λ l. on_pump l l.session) b (λ l e. un_pump l l.session b)
un_call env Tick b old = un_on_tick (due env b) (un_due env b) b

-- and so has an opening
pub un_opening : (env : Env) (b : Broker) → AreGood IsUnlinked (opening env b) b
un_opening env b =
    let ss = connected_in b.records in
    good_series IsUnlinked (shuts_all ss ∷ settles_all env ss ∷ []) (
      good_series IsUnlinked (map shuts ss) (good_acts IsUnlinked shuts (λ s c. (tt, tt)) ss),
      (good_series IsUnlinked (map (settles env) ss) (good_acts IsUnlinked (settles env) (λ s. un_settle env s.birth) ss), tt),
    ) b
