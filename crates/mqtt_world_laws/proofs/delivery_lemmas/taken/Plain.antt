-- Calls by which no copy ends as taken and no PUBLISH of QoS 1 or 2 goes out: all but a receiver's answers and a turn of sending; the
-- first end copies as taken, and the second send them (MQTT 5.0, 4.3, 4.4, 4.6).
use Rattle.std.proofs.Common.{◌≡◌, ℕ, zero, suc, Bool, true, false, cond, not, ◌&&◌, List, [], ◌∷◌, ◌++◌, filter, length, map, Option, Some, None, refl, inl, inr}
use Rattle.std.specs.Prelude.{⊤, Err, Ok, find, flat_map, nat_lt, option_map}
use Rattle.std.specs.List.{AllByRecursion}
use Rattle.std.proofs.lemmas.Bool.{cases_Bool}
use Rattle.mqtt_base.specs.Codes.{identifier_in_use, keep_alive_timeout, protocol_error, quota_exceeded, receive_maximum_exceeded, session_taken_over}
use Rattle.mqtt_base.specs.declared.session.Ending.{Ending}
use Rattle.mqtt_base.specs.declared.session.Ending.TheVariants.{SessionEnded, Taken}
use Rattle.mqtt_base.specs.declared.session.Phase.{Phase}
use Rattle.mqtt_base.specs.declared.session.Phase.TheVariants.{Oversize, Released, Sent, Waiting}
use Rattle.mqtt_base.specs.declared.session.Qos.{Qos}
use Rattle.mqtt_base.specs.declared.session.Qos.TheVariants as qos
use Rattle.mqtt_packet.specs.declared.codec.packet.Packet.{Packet}
use Rattle.mqtt_packet.specs.declared.codec.packet.Packet.TheVariants as packets
use Rattle.mqtt_packet.specs.declared.codec.publish.Delivery.{Delivery}
use Rattle.mqtt_packet.specs.declared.codec.publish.Delivery.TheVariants as delivery
use Rattle.mqtt_packet.specs.declared.codec.publish.Publish.{Publish as Publication}
use Rattle.mqtt_packet.specs.declared.connect.connect.Connect.{Connect as Greeting}
use Rattle.mqtt_flow.specs.outbound.Outbound.{Answer, Verdict, pass, end, outgrow, send, resend, dropped, due_from, expired, first_time, gives_way, in_room, is_large, is_late, is_refusal, is_waiting, once_more, pace, pump, pump_from, pump_step, resumed_with, step_by, step_on, then_on, too_large, verdict, verdict_by, way_made}
use Rattle.mqtt_flow.specs.outbound.Outbound as rules
use Rattle.mqtt_flow.specs.declared.outbound.entry.Entry.{Entry as FlowEntry}
use Rattle.mqtt_flow.specs.declared.outbound.entry.Turn.{Turn}
use Rattle.mqtt_flow.specs.declared.outbound.entry.Turn.TheVariants as turns
use Rattle.mqtt_flow.specs.declared.outbound.entry.Way.{Way}
use Rattle.mqtt_flow.specs.outbound.Pacing.{Pacing}
use Rattle.mqtt_flow.specs.inbound.Identifiers.{free_identifier, is_among}
use Rattle.mqtt_flow.specs.inbound.Inbound.{answer_to_release}
use Rattle.mqtt_flow.specs.declared.inbound.inflow.Published.{Published}
use Rattle.mqtt_flow.specs.declared.inbound.inflow.Published.TheVariants.{Again, New, Over}
use Rattle.mqtt_flow.specs.declared.inbound.inflow.ReleaseAnswer.{ReleaseAnswer}
use Rattle.mqtt_flow.specs.declared.inbound.inflow.ReleaseAnswer.TheVariants.{Known, Unknown}
use Rattle.mqtt_records.specs.messages.Queue.{CopyRow}
use Rattle.mqtt_records.specs.declared.messages.message.MessageCopy.{MessageCopy}
use Rattle.mqtt_records.specs.declared.messages.message.RetainedMessage.{RetainedMessage}
use Rattle.mqtt_records.specs.declared.messages.message.Will.{Will}
use Rattle.mqtt_props.specs.declared.table.PropName.TheVariants.{SubscriptionIdentifier, TopicAlias}
use Rattle.mqtt_records.specs.state.Session.{copy_place}
use Rattle.mqtt_records.specs.declared.state.records.Records.{Records}
use Rattle.mqtt_records.specs.declared.state.session.Session.{Session}
use Rattle.mqtt_records.specs.lists.Order.{row_at}
use Rattle.mqtt_packet.specs.subscribe.Subscriptions.{Subscription as Asked}
use Rattle.mqtt_packet.specs.declared.subscribe.subscribe.Subscribe.{Subscribe as Asking}
use Rattle.mqtt_packet.specs.declared.subscribe.unsubscribe.Unsubscribe.{Unsubscribe as GivingUp}
use Rattle.mqtt_topic.specs.names.Filters.{is_filter}
use Rattle.mqtt_topic.specs.names.Names.{is_empty}
use Rattle.mqtt_rules.specs.step.Closing.{close, close_connected, close_session, drop_line, end_session, has_due_end, has_due_will, publish_or_refuse, publish_will, settle, will_deeds, will_message}
use Rattle.mqtt_rules.specs.step.Connect.{begin_named, clear, connect_by, joins, largest_of, of_client, prepare, refusal, refusal_size, refused, resume, take_over}
use Rattle.mqtt_rules.specs.step.Deeds.{Whose, whose, Message, Origin, FromClient, FromWill, Close, Count, DropWill, Leave, Subscribe, Hear, Deed, Accept, At, Enter, Forget, Link, On, Send, Gone, Finish, Act, after, after_all, always, of_session, offer, only_if, series, with_line, with_session}
use Rattle.mqtt_rules.proofs.step_lemmas.acts.Offers.{of_offer_if}
use Rattle.mqtt_rules.specs.step.Fitting.{fitted, has_form, pump_turns, size_at, sized}
use Rattle.mqtt_rules.specs.step.Inbound.{Meaning, Means, Wrong, answer, code_accepted, code_again, leave_by, meaning, message_of, new_expiry, on_answer, opens, publish_by, publish_meant, publish_new, pump_deeds, release_by, sets_alias, standing}
use Rattle.mqtt_rules.specs.step.Outbound.{all_turn_deeds, enter_deeds, leave_deeds, of_entry, queue_limits, since, turn_deeds, way_of}
use Rattle.mqtt_rules.specs.step.Packets.{connack, disconnect, publish_of, suback, unsuback}
use Rattle.mqtt_records.specs.messages.PassedOn.{number_at}
use Rattle.mqtt_rules.specs.step.Routing.{CopyTo, accepted_copies, deliver, deliver_by, forgets, is_queued, is_queued_at, is_wanted, next_publication, publish, retain_by, retained_of}
use Rattle.mqtt_rules.specs.step.State.{Broker, Env, Line, MemberChoice, line_at, line_of, queue_on, session_at, session_named, told_on}
use Rattle.mqtt_rules.specs.step.Step.{Call, NewLine, Input, BadInput, Lost, Pump, Tick, at_moment, can_link, connected_in, deeds, deeds_of, env_of, first_packet, late_code, next_packet, on_fault, on_packet, on_pump, opening, settles, settles_all, shuts, shuts_all}
use Rattle.mqtt_rules.specs.step.Subscribe as sub
use Rattle.mqtt_rules.specs.step.Tick.{due, first_due, has_lapsed, is_silent, is_stale, lapse_deeds, lapses, on_tick, silence}
use Rattle.mqtt_rules.specs.declared.step.Capacity.{Capacity}
use Rattle.mqtt_rules.proofs.step_lemmas.numbers.Copies.{each_append, each_flat, each_more}

-- ---- of one deed

abbrev pub IsOtherEnd : Ending → Type 0
IsOtherEnd Taken = ⊥
IsOtherEnd ending = ⊤

abbrev pub IsUntold : Delivery → Type 0
IsUntold delivery.AtMostOnce = ⊤
IsUntold (delivery.AtLeastOnce dup id) = ⊥
IsUntold (delivery.ExactlyOnce dup id) = ⊥

-- no PUBLISH of QoS 1 or 2
abbrev pub IsNoCopy : Packet → Type 0
IsNoCopy (packets.Publish p) = IsUntold p.delivery
IsNoCopy packet = ⊤

-- it ends no copy as taken
abbrev pub IsUntaken : Deed → Type 0
IsUntaken (At who (Leave e ending)) = IsOtherEnd ending
IsUntaken d = ⊤

-- it sends no copy of QoS 1 or 2
abbrev pub IsSilent : Deed → Type 0
IsSilent (Send n packet) = IsNoCopy packet
IsSilent d = ⊤

-- neither
abbrev IsPlain : Deed → Type 0
IsPlain (At who (Leave e ending)) = IsOtherEnd ending
IsPlain (Send n packet) = IsNoCopy packet
IsPlain d = ⊤

untaken_plain : (d : Deed) → IsPlain d → IsUntaken d
untaken_plain (At who (Leave e ending)) h = h
untaken_plain d h = tt

silent_plain : (d : Deed) → IsPlain d → IsSilent d
silent_plain (Send n packet) h = h
silent_plain d h = tt

abbrev ArePlain : List Deed → Type 0
ArePlain ds = AllByRecursion IsPlain ds

-- ---- lists of deeds

plain_cond : (t : Bool) (xs ys : List Deed) → ArePlain xs → ArePlain ys → ArePlain (cond t xs ys)
plain_cond true xs ys p q = p
plain_cond false xs ys p q = q

plain_entry : (o : Option CopyRow) (f : CopyRow → List Deed) → ((e : CopyRow) → ArePlain (f e)) → ArePlain (of_entry o f)
plain_entry None f h = tt
plain_entry (Some e) f h = h e

-- a turn by which no copy ends as taken
abbrev EndsOtherwise : Turn → Type 0
EndsOtherwise (turns.Leave place ending) = IsOtherEnd ending
EndsOtherwise t = ⊤

plain_leave : (s : Session) (t : Turn) → EndsOtherwise t → ArePlain (leave_deeds s t)
plain_leave s (turns.Leave place ending) h = plain_entry (row_at copy_place place s.queue) (λ e. At (whose s) (Leave e ending) ∷ []) (λ e. (h, tt))
plain_leave s (turns.Send place id) h = tt
plain_leave s (turns.Resend place id) h = tt
plain_leave s (turns.Release place id order) h = tt
plain_leave s (turns.Outgrow place id order) h = tt
plain_leave s (turns.Repeat id) h = tt
plain_leave s (turns.Unknown id) h = tt

plain_leaves : (s : Session) (ts : List Turn) → AllByRecursion EndsOtherwise ts → ArePlain (flat_map (leave_deeds s) ts)
plain_leaves s [] h = tt
plain_leaves s (t ∷ ts) h = each_append IsPlain (leave_deeds s t) (flat_map (leave_deeds s) ts) (plain_leave s t h.0) (plain_leaves s ts h.1)

plain_offer : (o : Option Line) (packet : Packet) → IsNoCopy packet → ArePlain (offer o packet)
plain_offer None packet h = tt
plain_offer (Some l) packet h = plain_cond _ (Send l.number packet ∷ []) [] (h, tt) tt

-- copies make way, and expire, for other causes
way_ends : (k since : ℕ) (es : List FlowEntry) → AllByRecursion EndsOtherwise (dropped k since es)
way_ends zero since [] = tt
way_ends (suc k) since [] = tt
way_ends zero since (e ∷ es) = tt
way_ends (suc k) since (e ∷ es) = by (gives_way since e) (way_ends k since es) (way_ends (suc k) since es)
  where
    by : (t : Bool) → AllByRecursion EndsOtherwise (dropped k since es) → AllByRecursion EndsOtherwise (dropped (suc k) since es) → AllByRecursion EndsOtherwise (rules.dropped_at t e (dropped k since es) (dropped (suc k) since es))
    by true fewer as_many = (tt, fewer)
    by false fewer as_many = as_many

lapse_ends : (now : ℕ) (es : List FlowEntry) → AllByRecursion EndsOtherwise (expired now es)
lapse_ends now [] = tt
lapse_ends now (e ∷ es) = by (is_waiting e.phase && is_late now e.copy) (lapse_ends now es)
  where
    by : (t : Bool) → AllByRecursion EndsOtherwise (expired now es) → AllByRecursion EndsOtherwise (rules.expired_at t e (expired now es))
    by true rest = (tt, rest)
    by false rest = rest

plain_enter : (env : Env) (copy : MessageCopy) (s : Session) → ArePlain (enter_deeds env copy s)
plain_enter env copy s =
    let ts = way_made (queue_limits env) (since env s) (queue_on [] s) in
    each_append IsPlain (flat_map (leave_deeds s) ts) (At (whose s) (Enter copy) ∷ []) (plain_leaves s ts (way_ends _ (since env s) (queue_on [] s))) (tt, tt)

plain_ends : (s : Session) (es : List CopyRow) → ArePlain (map (λ e. At (whose s) (Leave e SessionEnded)) es)
plain_ends s [] = tt
plain_ends s (e ∷ es) = (tt, plain_ends s es)

plain_end : (s : Session) → ArePlain (end_session s)
plain_end s = each_append IsPlain (map (λ e. At (whose s) (Leave e SessionEnded)) s.queue) (Finish (whose s) ∷ []) (plain_ends s s.queue) (tt, tt)

plain_refused : (l : Line) (c : Greeting) (code : ℕ) → ArePlain (refused l c code)
plain_refused l c code = each_append IsPlain (cond (nat_lt (largest_of c) refusal_size) [] (Send l.number (connack false code []) ∷ [])) (Gone l.number ∷ [])
    (plain_cond (nat_lt (largest_of c) refusal_size) [] (Send l.number (connack false code []) ∷ []) tt (tt, tt)) (tt, tt)

plain_begin : (t : Bool) (l : Line) (c : Greeting) (r : Records) → ArePlain (begin_named t l c r)
plain_begin false l c r = (tt, (tt, (tt, tt)))
plain_begin true l c r = (tt, (tt, (tt, (tt, tt))))

plain_answer : (line : ℕ) (d : Delivery) (code : ℕ) → ArePlain (answer line d code)
plain_answer line delivery.AtMostOnce code = tt
plain_answer line (delivery.AtLeastOnce dup id) code = (tt, tt)
plain_answer line (delivery.ExactlyOnce dup id) code = (tt, tt)

plain_opens : (s : Session) (d : Delivery) → ArePlain (opens s d)
plain_opens s delivery.AtMostOnce = tt
plain_opens s (delivery.AtLeastOnce dup id) = tt
plain_opens s (delivery.ExactlyOnce dup id) = (tt, tt)

plain_alias : (t : Bool) (alias : Option ℕ) (line : ℕ) (topic : List ℕ) → ArePlain (sets_alias t alias line topic)
plain_alias true alias line topic = tt
plain_alias false None line topic = tt
plain_alias false (Some n) line topic = (tt, tt)

plain_release : (x : ReleaseAnswer) (l : Line) (s : Session) (id : ℕ) → ArePlain (release_by x l s id)
plain_release Known l s id = (tt, (tt, tt))
plain_release Unknown l s id = (tt, tt)

plain_expiry : (o : Option ℕ) (s : Session) → ArePlain (new_expiry o s)
plain_expiry None s = tt
plain_expiry (Some n) s = (tt, tt)

plain_unsubscribe : (t : Bool) (line : ℕ) (s : Session) (p : GivingUp) (b : Broker) → ArePlain (sub.unsubscribe_by t line s p b)
plain_unsubscribe true line s p b = plain_offer (line_at line b) (unsuback p.identifier (map (λ f. identifier_in_use) p.filters)) tt
plain_unsubscribe false line s p b =
    each_append IsPlain (flat_map (sub.unsubscribes s) (filter (λ f. sub.has_filter f s) p.filters)) (offer (line_at line b) (unsuback p.identifier (sub.drop_codes s [] p.filters)))
    (each_flat IsPlain (sub.unsubscribes s) (λ f. (tt, tt)) (filter (λ f. sub.has_filter f s) p.filters)) (plain_offer (line_at line b) (unsuback p.identifier (sub.drop_codes s [] p.filters)) tt)

plain_forgets : (o : Option RetainedMessage) → ArePlain (forgets o)
plain_forgets None = tt
plain_forgets (Some k) = (tt, tt)

plain_retain : (retain empty : Bool) (number : ℕ) (m : Message) (b : Broker) → ArePlain (retain_by retain empty number m b)
plain_retain false empty number m b = tt
plain_retain true true number m b = plain_forgets (retained_of m.topic b.records)
plain_retain true false number m b = (tt, tt)

-- PUBREL goes out once more
repeats : {X : Type 0} (now line : ℕ) (s : Session) (xs : List X) (id : X → ℕ) → ArePlain (all_turn_deeds now line s (map (λ x. turns.Repeat (id x)) xs))
repeats now line s [] id = tt
repeats now line s (x ∷ xs) id = (tt, repeats now line s xs id)

no_copy : (now : ℕ) (dup : Bool) (id : ℕ) (copy : MessageCopy) → is_queued_at copy.qos ≡ false → IsNoCopy (publish_of now dup id copy)
no_copy now dup id copy h = by copy.qos h
  where
    by : (q : Qos) → is_queued_at q ≡ false → IsNoCopy (publish_of now dup id (record copy { qos = q }))
    by qos.AtMostOnce h = tt
    by qos.AtLeastOnce h = absurd cc
    by qos.ExactlyOnce h = absurd cc

-- ---- acts

abbrev Plainly : Act → Type 0
Plainly act = (b : Broker) → ArePlain (act b)

plain_series : (fs : List Act) → AllByRecursion Plainly fs → Plainly (series fs)
plain_series [] h b = tt
plain_series (f ∷ fs) h b = each_append IsPlain (f b) (series fs (after_all (f b) b)) (h.0 b) (plain_series fs h.1 (after_all (f b) b))

plain_if : (t : Bool) (act : Act) → Plainly act → Plainly (only_if t act)
plain_if true act h b = h b
plain_if false act h b = tt

on_session : (o : Option Session) (f : Session → Act) → ((s : Session) → Plainly (f s)) → Plainly (with_session o f)
on_session None f h b = tt
on_session (Some s) f h b = h s b

on_birth : (birth : ℕ) (f : Session → Act) → ((s : Session) → Plainly (f s)) → Plainly (of_session birth f)
on_birth birth f h b = on_session (session_at birth b.records) f h b

on_client : (client : List ℕ) (f : Session → Act) → ((s : Session) → Plainly (f s)) → Plainly (of_client client f)
on_client client f h b = on_session (session_named client b.records) f h b

on_line : (o : Option Line) (f : Line → Act) → ((l : Line) → Plainly (f l)) → Plainly (with_line o f)
on_line None f h b = tt
on_line (Some l) f h b = h l b

-- ---- calls

-- no answer of a receiver
abbrev pub IsNoAnswer : Packet → Type 0
IsNoAnswer (packets.Puback a) = ⊥
IsNoAnswer (packets.Pubrec a) = ⊥
IsNoAnswer (packets.Pubcomp a) = ⊥
IsNoAnswer packet = ⊤

-- no turn of sending either
abbrev pub IsPlainCall : Call → Type 0
IsPlainCall (Input n packet) = IsNoAnswer packet
IsPlainCall (Pump n) = ⊥
IsPlainCall call = ⊤

-- a copy that doesn't enter a queue
abbrev IsLate : CopyTo → Type 0
IsLate d = is_queued d ≡ false

-- what is done for one filter, or for all, and what goes out behind the SUBACK
record IsPlainAnswer (ds : List Deed) (all : List CopyTo) : Type 0 where
  plain : ArePlain ds
  late : AllByRecursion IsLate all

abbrev PlainOption : Option Act → Type 0
PlainOption None = ⊤
PlainOption (Some act) = Plainly act

module _ (env : Env) where
  -- ---- publications

  delivering : (d : CopyTo) → Plainly (deliver env d)
  delivering d b = by (is_queued d) refl
    where
      by : (t : Bool) → is_queued d ≡ t → ArePlain (deliver_by t env d b)
      by true e = on_birth d.birth (λ s. always (enter_deeds env d.copy s)) (λ s a. plain_enter env d.copy s) b
      by false e = of_offer_if ArePlain (has_form d.copy b) (line_of d.birth b) (publish_of b.now false 0 d.copy) tt (λ l there. (no_copy b.now false 0 d.copy e, tt))

  all_delivering : (ds : List CopyTo) → AllByRecursion Plainly (map (deliver env) ds)
  all_delivering [] = tt
  all_delivering (d ∷ ds) = (delivering d, all_delivering ds)

  publishes : (origin : Origin) (m : Message) (ds : List CopyTo) → Plainly (publish env origin m ds)
  publishes origin m ds b =
      let number = next_publication b.records in
      plain_series (always (Accept number origin m ∷ []) ∷ retain_by m.retain (is_empty m.payload) number m ∷ map (deliver env) ds)
      ((λ a. (tt, tt)), ((λ a. plain_retain m.retain (is_empty m.payload) number m a), all_delivering ds)) b

  -- ---- Wills, ends, settling and closing

  will_or_refusal : (who : Whose) (m : Message) (o : Option (List CopyTo)) → Plainly (publish_or_refuse env who m o)
  will_or_refusal who m None b = (tt, tt)
  will_or_refusal who m (Some ds) b = publishes FromWill m ds b

  of_will : (who : Whose) (o : Option Will) → Plainly (will_deeds env who o)
  of_will who None b = tt
  of_will who (Some w) b =
      let m = will_message who.client w in
      plain_series (publish_or_refuse env who m (accepted_copies env m b) ∷ always (At who DropWill ∷ []) ∷ []) (will_or_refusal who m (accepted_copies env m b), ((λ a. (tt, tt)), tt)) b

  its_will : (s : Session) → Plainly (publish_will env s)
  its_will s b = of_will (whose s) s.will b

  settling : (birth : ℕ) → Plainly (settle env birth)
  settling birth b =
      plain_series (of_session birth (λ s. only_if (has_due_will b.now s) (publish_will env s)) ∷ of_session birth (λ s. only_if (has_due_end b.now s) (always (end_session s))) ∷ []) (
        on_birth birth (λ s. only_if (has_due_will b.now s) (publish_will env s)) (λ s. plain_if (has_due_will b.now s) (publish_will env s) (its_will s)),
        (on_birth birth (λ s. only_if (has_due_end b.now s) (always (end_session s))) (λ s. plain_if (has_due_end b.now s) (always (end_session s)) (λ a. plain_end s)), tt),
      ) b

  closing_a_session : (keeps_will : Bool) (s : Session) → Plainly (close_session env keeps_will s)
  closing_a_session keeps_will s b =
      plain_series (only_if (not keeps_will) (always (At (whose s) DropWill ∷ [])) ∷ always (At (whose s) (Close b.now) ∷ []) ∷ settle env s.birth ∷ [])
      (plain_if (not keeps_will) (always (At (whose s) DropWill ∷ [])) (λ a. (tt, tt)), ((λ a. (tt, tt)), (settling s.birth, tt))) b

  closing_connected : (keeps_will : Bool) (o : Option ℕ) → Plainly (close_connected env keeps_will o)
  closing_connected keeps_will None b = tt
  closing_connected keeps_will (Some birth) b = on_birth birth (close_session env keeps_will) (closing_a_session keeps_will) b

  closing : (keeps_will : Bool) (l : Line) → Plainly (close env keeps_will l)
  closing keeps_will l b = plain_series (always (Gone l.number ∷ []) ∷ close_connected env keeps_will l.session ∷ []) ((λ a. (tt, tt)), (closing_connected keeps_will l.session, tt)) b

  -- a line that is dropped ends no copy as taken, and sends none
  pub dropping : (code : ℕ) (l : Line) → Plainly (drop_line env code l)
  dropping code l b = plain_series (always (Send l.number (disconnect code) ∷ []) ∷ close env true l ∷ []) ((λ a. (tt, tt)), (closing true l, tt)) b

  -- ---- CONNECT

  taking_over : (s : Session) → Plainly (take_over env s)
  taking_over s b = on_line (line_of s.birth b) (drop_line env session_taken_over) (dropping session_taken_over) b

  clearing : (s : Session) → Plainly (clear env s)
  clearing s b = plain_series (publish_will env s ∷ of_client s.client (λ t. always (end_session t)) ∷ []) (its_will s, (on_client s.client (λ t. always (end_session t)) (λ t a. plain_end t), tt)) b

  preparing : (c : Greeting) → Plainly (prepare env c)
  preparing c b =
      plain_series (of_client c.client_identifier (take_over env) ∷ of_client c.client_identifier (λ s. settle env s.birth) ∷ only_if c.clean_start (of_client c.client_identifier (clear env)) ∷ []) (
        on_client c.client_identifier (take_over env) taking_over,
        (
          on_client c.client_identifier (λ s. settle env s.birth) (λ s. settling s.birth),
          (plain_if c.clean_start (of_client c.client_identifier (clear env)) (on_client c.client_identifier (clear env) clearing), tt),
        ),
      ) b

  resuming : (l : Line) (c : Greeting) (now : ℕ) (s : Session) → ArePlain (resume l c now s)
  resuming l c now s = (tt, (tt, (tt, repeats now l.number s (due_from [] (queue_on [] s)) (λ d. d.identifier))))

  joining : (l : Line) (c : Greeting) (now : ℕ) (ds : List Deed) (r : Records) (o : Option Session) → ArePlain ds → ArePlain (joins env l c now ds r o)
  joining l c now ds r (Some s) h = each_append IsPlain ds (resume l c now s) h (resuming l c now s)
  joining l c now ds r None h =
      plain_cond (nat_lt (length r.sessions) env.limits.sessions) (ds ++ begin_named (is_empty c.client_identifier) l c r) (refused l c quota_exceeded)
      (each_append IsPlain ds (begin_named (is_empty c.client_identifier) l c r) h (plain_begin (is_empty c.client_identifier) l c r)) (plain_refused l c quota_exceeded)

  connecting : (o : Option ℕ) (l : Line) (c : Greeting) → Plainly (connect_by o env l c)
  connecting (Some code) l c b = plain_refused l c code
  connecting None l c b =
      let ds = prepare env c b in
      joining l c b.now ds (after_all ds b).records (session_named c.client_identifier (after_all ds b).records) (preparing c b)

  -- ---- PUBLISH

  publishing_new : (l : Line) (s : Session) (p : Publication) (m : Message) (o : Option (List CopyTo)) → Plainly (publish_new env l s p m o)
  publishing_new l s p m None b = plain_answer l.number p.delivery quota_exceeded
  publishing_new l s p m (Some ds) b =
      let told = answer l.number p.delivery (code_accepted (is_wanted env m b.records)) in
      plain_series (publish env FromClient m ds ∷ always (opens s p.delivery) ∷ always told ∷ [])
      (publishes FromClient m ds, ((λ a. plain_opens s p.delivery), ((λ a. plain_answer l.number p.delivery (code_accepted (is_wanted env m b.records))), tt))) b

  publishing_by : (x : Published) (l : Line) (s : Session) (p : Publication) (m : Message) → Plainly (publish_by x env l s p m)
  publishing_by Again l s p m b = plain_answer l.number p.delivery (code_again p.delivery)
  publishing_by Over l s p m b = dropping receive_maximum_exceeded l b
  publishing_by New l s p m b = publishing_new l s p m (accepted_copies env m b) b

  publishing : (x : Meaning) (l : Line) (s : Session) (p : Publication) → Plainly (publish_meant x env l s p)
  publishing (Wrong code) l s p b = dropping code l b
  publishing (Means topic) l s p b =
      plain_series (always (sets_alias (is_empty p.topic) (number_at TopicAlias p.properties) l.number topic) ∷ publish_by (standing p.delivery s.inbound) env l s p (message_of s.client topic p) ∷ [])
      ((λ a. plain_alias (is_empty p.topic) (number_at TopicAlias p.properties) l.number topic), (publishing_by (standing p.delivery s.inbound) l s p (message_of s.client topic p), tt)) b

  leaving : (t : Bool) (l : Line) (s : Session) (code : ℕ) (o : Option ℕ) → Plainly (leave_by t env l s code o)
  leaving true l s code o b = dropping protocol_error l b
  leaving false l s code o b = plain_series (always (new_expiry o s) ∷ close env _ l ∷ []) ((λ a. plain_expiry o s), (closing _ l, tt)) b

  -- ---- SUBSCRIBE: what goes out behind the SUBACK is of QoS 0

  late_ones : (ds : List CopyTo) → AllByRecursion IsLate (filter (λ d. not (is_queued d)) ds)
  late_ones [] = tt
  late_ones (d ∷ ds) = elim (cases_Bool (is_queued d)) [
    | inl in_ ↦ rw in_ (late_ones ds)
    | inr out ↦ rw out (out, late_ones ds)
  ]

  granting : (number : ℕ) (s : Session) (w : sub.Wish) (ds : List CopyTo) (b : Broker) → ArePlain (sub.granted_filter env number s w ds b).deeds
  granting number s w ds b = plain_series (always (Count number ∷ At (whose s) (Subscribe (sub.subscription number s w)) ∷ []) ∷ map (deliver env) (filter is_queued ds)) ((λ a. (tt, (tt, tt))), all_delivering (filter is_queued ds)) b

  answered : (valid room : Bool) (number : ℕ) (s : Session) (w : sub.Wish) (ds : List CopyTo) (b : Broker) → let g = sub.answer_by valid room env number s w ds b in IsPlainAnswer g.deeds g.late
  answered false room number s w ds b = record { plain = tt; late = tt }
  answered true false number s w ds b = record { plain = tt; late = tt }
  answered true true number s w ds b = record { plain = granting number s w ds b; late = late_ones ds }

  filter_told : (w : Option sub.Wish) (b : Broker) (x : Option Session) → let g = sub.filter_answer_of env w b x in IsPlainAnswer g.deeds g.late
  filter_told w b None = record { plain = tt; late = tt }
  filter_told None b (Some s) = record { plain = tt; late = tt }
  filter_told (Some w) b (Some s) = answered (is_filter w.filter) _ (sub.next_number b.records) s w _ b

  filters_told : (birth : ℕ) (identifier : Option ℕ) (xs : List Asked) (b : Broker) → let g = sub.filter_answers env birth identifier xs b in IsPlainAnswer g.deeds g.late
  filters_told birth identifier [] b = record { plain = tt; late = tt }
  filters_told birth identifier (a ∷ rest) b =
      let g = sub.filter_answer_of env (sub.wish_of identifier a) b (session_at birth b.records) in
      let h = sub.filter_answers env birth identifier rest (after_all g.deeds b) in
      let first = filter_told (sub.wish_of identifier a) b (session_at birth b.records) in
      let others = filters_told birth identifier rest (after_all g.deeds b) in
      record { plain = each_append IsPlain g.deeds h.deeds first.plain others.plain; late = each_append IsLate g.late h.late first.late others.late }

  late_plain : (line : ℕ) (b : Broker) (ds : List CopyTo) → AllByRecursion IsLate ds → ArePlain (series (map (sub.late_send line) ds) b)
  late_plain line b [] h = tt
  late_plain line b (d ∷ ds) h =
      let first = sub.late_send line d b in
      let rest = after_all first b in
      each_append IsPlain first (series (map (sub.late_send line) ds) rest)
      (of_offer_if ArePlain (has_form d.copy b) (line_at line b) (publish_of b.now false 0 d.copy) tt (λ l there. (no_copy b.now false 0 d.copy h.0, tt))) (late_plain line rest ds h.1)

  subscribing : (t : Bool) (line : ℕ) (s : Session) (p : Asking) → Plainly (sub.subscribe_by t env line s p)
  subscribing true line s p b = plain_offer (line_at line b) (suback p.identifier (map (λ a. identifier_in_use) p.subscriptions)) tt
  subscribing false line s p b =
      let a = sub.filter_answers env s.birth (number_at SubscriptionIdentifier p.properties) p.subscriptions b in
      let all = filters_told s.birth (number_at SubscriptionIdentifier p.properties) p.subscriptions b in
      let told = offer (line_at line b) (suback p.identifier a.codes) in
      let c = after_all (a.deeds ++ told) b in
      each_append IsPlain (a.deeds ++ told) (series (map (sub.late_send line) a.late) c) (each_append IsPlain a.deeds told all.plain (plain_offer (line_at line b) (suback p.identifier a.codes) tt)) (late_plain line c a.late all.late)

  -- ---- tick

  mapped : {X : Type 0} (f : X → Act) (o : Option X) → ((x : X) → Plainly (f x)) → PlainOption (option_map f o)
  mapped f None h = tt
  mapped f (Some x) h = h x

  first_plain : (os : List (Option Act)) → AllByRecursion PlainOption os → PlainOption (first_due os)
  first_plain [] h = tt
  first_plain (Some act ∷ rest) h = h.0
  first_plain (None ∷ rest) h = first_plain rest h.1

  silent : (o : Option ℕ) (l : Line) → Plainly (silence env o l)
  silent None l b = closing true l b
  silent (Some birth) l b = dropping keep_alive_timeout l b

  due_plain : (b : Broker) → PlainOption (due env b)
  due_plain b =
      let lines = find (λ (l : Line). is_silent b.now l.session l) b.lines in
      let wills = find (has_due_will b.now) b.records.sessions in
      let ends = find (has_due_end b.now) b.records.sessions in
      let kept = find (is_stale b.now) b.records.retained in
      let waiting = find (has_lapsed b.now) b.records.sessions in
      let all : List (Option Act) = option_map (λ (l : Line). silence env l.session l) lines ∷ option_map (publish_will env) wills ∷ option_map (λ (s : Session). always (end_session s)) ends
      ∷ option_map (λ (k : RetainedMessage). always (Forget k.place ∷ [])) kept ∷ option_map (λ (s : Session). always (lapse_deeds b.now s)) waiting ∷ [] in
      let each : AllByRecursion PlainOption all = (
        mapped (λ (l : Line). silence env l.session l) lines (λ l. silent l.session l),
        (
          mapped (publish_will env) wills its_will,
          (
            mapped (λ (s : Session). always (end_session s)) ends (λ s a. plain_end s),
            (
              mapped (λ (k : RetainedMessage). always (Forget k.place ∷ [])) kept (λ k a. (tt, tt)),
              (mapped (λ (s : Session). always (lapse_deeds b.now s)) waiting (λ s a. plain_leaves s (lapses b.now s) (lapse_ends b.now (queue_on [] s))), tt),
            ),
          ),
        ),
      ) in
      first_plain all each

  ticking : (o : Option Act) → PlainOption o → Plainly (on_tick o)
  ticking None h b = tt
  ticking (Some act) h b = h b

  -- ---- calls

  first_read : (l : Line) (packet : Packet) → Plainly (first_packet env l packet)
  first_read l (packets.Connect c) b = connecting (refusal c b.records) l c b
  first_read l packet b = closing true l b

  next_read : (l : Line) (packet : Packet) (s : Session) → IsNoAnswer packet → Plainly (next_packet env l packet s)
  next_read l (packets.Puback a) s h b = absurd h
  next_read l (packets.Pubrec a) s h b = absurd h
  next_read l (packets.Pubcomp a) s h b = absurd h
  next_read l (packets.Publish p) s h b = publishing (meaning p l.aliases) l s p b
  next_read l (packets.Pubrel a) s h b = plain_release (answer_to_release a.identifier s.inbound) l s a.identifier
  next_read l (packets.Subscribe p) s h b = subscribing (is_among p.identifier s.inbound) l.number s p b
  next_read l (packets.Unsubscribe p) s h b = plain_unsubscribe (is_among p.identifier s.inbound) l.number s p b
  next_read l packets.Pingreq s h b = (tt, tt)
  next_read l (packets.Disconnect n) s h b = leaving _ l s n.reason.0 _ b
  next_read l packet s h b = dropping protocol_error l b

  reading : (l : Line) (packet : Packet) (o : Option ℕ) → IsNoAnswer packet → Plainly (on_packet env l packet o)
  reading l packet None h b = first_read l packet b
  reading l packet (Some birth) h b = on_birth birth (next_packet env l packet) (λ s. next_read l packet s h) b

  at_fault : (l : Line) (t : Bool) (code : ℕ) (o : Option ℕ) → Plainly (on_fault env l t code o)
  at_fault l true code None b = plain_series (always (Send l.number (connack false code []) ∷ []) ∷ close env true l ∷ []) ((λ a. (tt, tt)), (closing true l, tt)) b
  at_fault l false code None b = closing true l b
  at_fault l true code (Some birth) b = dropping (late_code code) l b
  at_fault l false code (Some birth) b = dropping (late_code code) l b

  plain_call : (call : Call) → IsPlainCall call → Plainly (deeds_of env call)
  plain_call NewLine h b = plain_cond (can_link env.limits b) (Link (suc b.given) ∷ []) [] (tt, tt) tt
  plain_call (Input n packet) h b =
      on_line (line_at n b) (λ l. series (always (On n Hear ∷ []) ∷ on_packet env l packet l.session ∷ []))
      (λ l. plain_series (always (On n Hear ∷ []) ∷ on_packet env l packet l.session ∷ []) ((λ a. (tt, tt)), (reading l packet l.session h, tt))) b
  plain_call (BadInput n is_connect code) h b = on_line (line_at n b) (λ l. on_fault env l is_connect code l.session) (λ l. at_fault l is_connect code l.session) b
  plain_call (Lost n) h b = on_line (line_at n b) (close env true) (closing true) b
  plain_call (Pump n) h b = absurd h
  plain_call Tick h b = ticking (due env b) (due_plain b) b

  each_shut : (ss : List Session) → AllByRecursion Plainly (map shuts ss)
  each_shut [] = tt
  each_shut (s ∷ ss) = ((λ b. (tt, tt)), each_shut ss)

  each_settled : (ss : List Session) → AllByRecursion Plainly (map (settles env) ss)
  each_settled [] = tt
  each_settled (s ∷ ss) = (settling s.birth, each_settled ss)

  plain_opening : Plainly (opening env)
  plain_opening b =
      let ss = connected_in b.records in
      plain_series (shuts_all ss ∷ settles_all env ss ∷ []) (plain_series (map shuts ss) (each_shut ss), (plain_series (map (settles env) ss) (each_settled ss), tt)) b

-- ---- a receiver's answers send no copy

abbrev IsQuietTurn : Turn → Type 0
IsQuietTurn (turns.Send place id) = ⊥
IsQuietTurn (turns.Resend place id) = ⊥
IsQuietTurn t = ⊤

abbrev IsQuiet : Answer → Type 0
IsQuiet (Ok None) = ⊤
IsQuiet (Ok (Some t)) = IsQuietTurn t
IsQuiet (Err fault) = ⊤

quiet_puback : (code : ℕ) (o : Option FlowEntry) → IsQuiet (rules.puback_at code o)
quiet_puback code None = tt
quiet_puback code (Some e) = by e.phase e.copy.qos
  where
    by : (p : Phase) (q : Qos) → IsQuiet (rules.puback_by p q code e.place)
    by Waiting q = tt
    by (Sent i) qos.AtMostOnce = tt
    by (Sent i) qos.AtLeastOnce = tt
    by (Sent i) qos.ExactlyOnce = tt
    by (Released i order) q = tt
    by (Oversize i order) q = tt

quiet_pubrec : (i code order : ℕ) (o : Option FlowEntry) → IsQuiet (rules.pubrec_at i code order o)
quiet_pubrec i code order None = tt
quiet_pubrec i code order (Some e) = by e.phase e.copy.qos
  where
    refuses : (t : Bool) (j : ℕ) → IsQuiet (rules.released_by t e.place j order)
    refuses true j = tt
    refuses false j = tt

    by : (p : Phase) (q : Qos) → IsQuiet (rules.pubrec_by p q code e.place order)
    by Waiting q = tt
    by (Sent j) qos.AtMostOnce = tt
    by (Sent j) qos.AtLeastOnce = tt
    by (Sent j) qos.ExactlyOnce = refuses (is_refusal code) j
    by (Released j x) q = tt
    by (Oversize j x) q = tt

quiet_pubcomp : (o : Option FlowEntry) → IsQuiet (rules.pubcomp_at o)
quiet_pubcomp None = tt
quiet_pubcomp (Some e) = by e.phase
  where
    by : (p : Phase) → IsQuiet (rules.pubcomp_by p e.place)
    by Waiting = tt
    by (Sent i) = tt
    by (Released i order) = tt
    by (Oversize i order) = tt

silent_turn : (now line : ℕ) (s : Session) (t : Turn) → IsQuietTurn t → AllByRecursion IsSilent (turn_deeds now line s t)
silent_turn now line s (turns.Send place id) h = absurd h
silent_turn now line s (turns.Resend place id) h = absurd h
silent_turn now line s (turns.Release place id order) h = (tt, (tt, tt))
silent_turn now line s (turns.Outgrow place id order) h = (tt, (tt, tt))
silent_turn now line s (turns.Repeat id) h = (tt, tt)
silent_turn now line s (turns.Unknown id) h = (tt, tt)
silent_turn now line s (turns.Leave place ending) h = by (row_at copy_place place s.queue)
  where
    by : (o : Option CopyRow) → AllByRecursion IsSilent (of_entry o (λ e. At (whose s) (Leave e ending) ∷ []))
    by None = tt
    by (Some e) = (tt, tt)

all_silent : (ds : List Deed) → ArePlain ds → AllByRecursion IsSilent ds
all_silent ds h = each_more IsPlain IsSilent silent_plain ds h

all_untaken : (ds : List Deed) → ArePlain ds → AllByRecursion IsUntaken ds
all_untaken ds h = each_more IsPlain IsUntaken untaken_plain ds h

silent_answer : (a : Answer) (env : Env) (l : Line) (s : Session) (b : Broker) → IsQuiet a → AllByRecursion IsSilent (on_answer a env l s b)
silent_answer (Ok None) env l s b h = tt
silent_answer (Ok (Some t)) env l s b h = silent_turn b.now l.number s t h
silent_answer (Err fault) env l s b h = all_silent (drop_line env protocol_error l b) (dropping env protocol_error l b)

silent_next : (env : Env) (l : Line) (packet : Packet) (s : Session) (b : Broker) → AllByRecursion IsSilent (next_packet env l packet s b)
silent_next env l (packets.Puback a) s b = silent_answer _ env l s b (quiet_puback a.reason.0 _)
silent_next env l (packets.Pubrec a) s b = silent_answer _ env l s b (quiet_pubrec a.identifier a.reason.0 _ _)
silent_next env l (packets.Pubcomp a) s b = silent_answer _ env l s b (quiet_pubcomp _)
silent_next env l packet s b = all_silent (next_packet env l packet s b) (next_read env l packet s tt b)

silent_packet : (env : Env) (l : Line) (packet : Packet) (o : Option ℕ) (b : Broker) → AllByRecursion IsSilent (on_packet env l packet o b)
silent_packet env l packet None b = all_silent (first_packet env l packet b) (first_read env l packet b)
silent_packet env l packet (Some birth) b = by (session_at birth b.records)
  where
    by : (o : Option Session) → AllByRecursion IsSilent (with_session o (next_packet env l packet) b)
    by None = tt
    by (Some s) = silent_next env l packet s b

silent_input : (env : Env) (n : ℕ) (packet : Packet) (b : Broker) → AllByRecursion IsSilent (deeds_of env (Input n packet) b)
silent_input env n packet b = by (line_at n b)
  where
    by : (o : Option Line) → AllByRecursion IsSilent (with_line o (λ l. series (always (On n Hear ∷ []) ∷ on_packet env l packet l.session ∷ [])) b)
    by None = tt
    by (Some l) = let c = after (On n Hear) b in (tt, each_append IsSilent (on_packet env l packet l.session c) [] (silent_packet env l packet l.session c) tt)

-- ---- a turn of sending ends no copy as taken

abbrev IsOtherVerdict : Verdict → Type 0
IsOtherVerdict (end ending) = IsOtherEnd ending
IsOtherVerdict v = ⊤

first_verdict : (late large : Bool) → IsOtherVerdict (first_time late large)
first_verdict true large = tt
first_verdict false true = tt
first_verdict false false = tt

later_verdict : (here large : Bool) (q : Qos) (i : ℕ) → IsOtherVerdict (once_more here large q i)
later_verdict true large q i = tt
later_verdict false true qos.AtMostOnce i = tt
later_verdict false true qos.AtLeastOnce i = tt
later_verdict false true qos.ExactlyOnce i = tt
later_verdict false false q i = tt

its_verdict : (way : Way) (e : FlowEntry) (phase : Phase) → IsOtherVerdict (verdict_by way e.copy e.here phase)
its_verdict way e Waiting = first_verdict (is_late way.now e.copy) (is_large way e.copy)
its_verdict way e (Sent i) = later_verdict e.here (is_large way e.copy) e.copy.qos i
its_verdict way e (Released i order) = tt
its_verdict way e (Oversize i order) = tt

pump_ends : (way : Way) (es : List FlowEntry) (p : Pacing) → AllByRecursion EndsOtherwise (pump_from way es p)
pump_ends way [] p = tt
pump_ends way (e ∷ es) p = by p.left (verdict way e) (its_verdict way e e.phase) (λ k. pump_ends way es k)
  where
    room : (k : ℕ) (t : Turn) → EndsOtherwise t → AllByRecursion EndsOtherwise (pump_from way es (rules.paced t e.phase p)) → AllByRecursion EndsOtherwise (then_on (in_room k t) e.phase p (pump_from way es))
    room zero t h rest = tt
    room (suc k) t h rest = (h, rest)

    on : (v : Verdict) → IsOtherVerdict v → ((k : Pacing) → AllByRecursion EndsOtherwise (pump_from way es k)) → AllByRecursion EndsOtherwise (then_on (step_on v e.place p) e.phase p (pump_from way es))
    on pass h rest = rest p
    on (end ending) h rest = (h, rest (rules.paced (turns.Leave e.place ending) e.phase p))
    on (outgrow i) h rest = (tt, rest (rules.paced (turns.Outgrow e.place i p.order) e.phase p))
    on send h rest = let t = turns.Send e.place (free_identifier p.used) in room p.room t tt (rest (rules.paced t e.phase p))
    on (resend i) h rest = let t = turns.Resend e.place i in room p.room t tt (rest (rules.paced t e.phase p))

    by : (left : ℕ) (v : Verdict) → IsOtherVerdict v → ((k : Pacing) → AllByRecursion EndsOtherwise (pump_from way es k)) → AllByRecursion EndsOtherwise (then_on (step_by left v e.place p) e.phase p (pump_from way es))
    by zero v h rest = tt
    by (suc k) v h rest = on v h rest

untaken_entry : (o : Option CopyRow) (f : CopyRow → List Deed) → ((e : CopyRow) → AllByRecursion IsUntaken (f e)) → AllByRecursion IsUntaken (of_entry o f)
untaken_entry None f h = tt
untaken_entry (Some e) f h = h e

untaken_turn : (now line : ℕ) (s : Session) (t : Turn) → EndsOtherwise t → AllByRecursion IsUntaken (turn_deeds now line s t)
untaken_turn now line s (turns.Send place id) h = untaken_entry (row_at copy_place place s.queue) _ (λ e. (tt, (tt, (tt, tt))))
untaken_turn now line s (turns.Resend place id) h = untaken_entry (row_at copy_place place s.queue) _ (λ e. (tt, (tt, tt)))
untaken_turn now line s (turns.Release place id order) h = (tt, (tt, tt))
untaken_turn now line s (turns.Outgrow place id order) h = (tt, (tt, tt))
untaken_turn now line s (turns.Repeat id) h = (tt, tt)
untaken_turn now line s (turns.Unknown id) h = (tt, tt)
untaken_turn now line s (turns.Leave place ending) h = untaken_entry (row_at copy_place place s.queue) _ (λ e. (h, tt))

untaken_turns : (now line : ℕ) (s : Session) (ts : List Turn) → AllByRecursion EndsOtherwise ts → AllByRecursion IsUntaken (all_turn_deeds now line s ts)
untaken_turns now line s [] h = tt
untaken_turns now line s (t ∷ ts) h = each_append IsUntaken (turn_deeds now line s t) (all_turn_deeds now line s ts) (untaken_turn now line s t h.0) (untaken_turns now line s ts h.1)

untaken_pump : (env : Env) (n : ℕ) (b : Broker) → AllByRecursion IsUntaken (deeds_of env (Pump n) b)
untaken_pump env n b = by (line_at n b)
  where
    sent : (l : Line) (s : Session) → AllByRecursion IsUntaken (pump_deeds l b s)
    sent l s =
        let rows = map (sized (size_at (fitted l b.now (told_on l.number b.tellings) s.queue)) l.went) s.queue in
        untaken_turns b.now l.number s (pump_turns l b s) (pump_ends (way_of l b.now) rows (pace (way_of l b.now) rows))

    to_session : (l : Line) (o : Option Session) → AllByRecursion IsUntaken (with_session o (λ s. always (pump_deeds l b s)) b)
    to_session l None = tt
    to_session l (Some s) = sent l s

    on_its : (l : Line) (o : Option ℕ) → AllByRecursion IsUntaken (on_pump l o b)
    on_its l None = tt
    on_its l (Some birth) = to_session l (session_at birth b.records)

    by : (o : Option Line) → AllByRecursion IsUntaken (with_line o (λ l. on_pump l l.session) b)
    by None = tt
    by (Some l) = on_its l l.session

-- ---- calls, and openings

-- no answer of a receiver is read
abbrev pub TakesNone : Call → Type 0
TakesNone (Input n packet) = IsNoAnswer packet
TakesNone call = ⊤

-- it is no turn of sending
abbrev pub SendsNone : Call → Type 0
SendsNone (Pump n) = ⊥
SendsNone call = ⊤

-- a call that takes no answer ends no copy as taken
pub untaken_of : (env : Env) (call : Call) (b : Broker) → TakesNone call → AllByRecursion IsUntaken (deeds_of env call b)
untaken_of env (Pump n) b h = untaken_pump env n b
untaken_of env (Input n packet) b h = all_untaken (deeds_of env (Input n packet) b) (plain_call env (Input n packet) h b)
untaken_of env call b h = all_untaken (deeds_of env call b) (plain_call env call tt b)

silent_of : (env : Env) (call : Call) (b : Broker) → SendsNone call → AllByRecursion IsSilent (deeds_of env call b)
silent_of env (Pump n) b h = absurd h
silent_of env (Input n packet) b h = silent_input env n packet b
silent_of env call b h = all_silent (deeds_of env call b) (plain_call env call tt b)

-- nor do its deeds
pub untaken_deeds : (limits : Capacity) (choice : MemberChoice) (now : ℕ) (call : Call) (b : Broker) → TakesNone call → AllByRecursion IsUntaken (deeds limits choice now call b)
untaken_deeds limits choice now call b h = untaken_of (env_of limits choice b) call (at_moment now b) h

-- a call that sends nothing is silent
pub silent_deeds : (limits : Capacity) (choice : MemberChoice) (now : ℕ) (call : Call) (b : Broker) → SendsNone call → AllByRecursion IsSilent (deeds limits choice now call b)
silent_deeds limits choice now call b h = silent_of (env_of limits choice b) call (at_moment now b) h

-- an opening sends no copy of QoS 1 or 2
pub silent_opening : (env : Env) (b : Broker) → AllByRecursion IsSilent (opening env b)
silent_opening env b = all_silent (opening env b) (plain_opening env b)

-- an opening ends no copy as taken
pub untaken_opening : (env : Env) (b : Broker) → AllByRecursion IsUntaken (opening env b)
untaken_opening env b = all_untaken (opening env b) (plain_opening env b)

-- a packet read of a line that no session is connected on
pub untaken_first : (env : Env) (l : Line) (packet : Packet) (b : Broker) → AllByRecursion IsUntaken (first_packet env l packet b)
untaken_first env l packet b = all_untaken (first_packet env l packet b) (first_read env l packet b)

-- an answer that breaks the protocol
pub untaken_drop : (env : Env) (code : ℕ) (l : Line) (b : Broker) → AllByRecursion IsUntaken (drop_line env code l b)
untaken_drop env code l b = all_untaken (drop_line env code l b) (dropping env code l b)
