-- Each act names the topic of what it sends, where all topics are named.
use Rattle.mqtt_base.specs.Codes.{bad_authentication_method, client_identifier_not_valid, identifier_in_use, keep_alive_timeout, packet_too_large, protocol_error, quota_exceeded, receive_maximum_exceeded, session_taken_over, topic_name_invalid}
use Rattle.mqtt_base.specs.declared.limits.TheConstants.{CLIENT_LIMIT, SUBSCRIPTION_LIMIT}
use Rattle.mqtt_base.specs.declared.session.Ending.TheVariants.{SessionEnded}
use Rattle.mqtt_base.specs.declared.session.SubscriptionOptions.{SubscriptionOptions}
use Rattle.mqtt_packet.specs.declared.codec.packet.Packet.TheVariants as packets
use Rattle.mqtt_packet.specs.declared.codec.packet.Packet.{Packet}
use Rattle.mqtt_packet.specs.declared.codec.publish.Delivery.TheVariants as delivery
use Rattle.mqtt_packet.specs.declared.codec.publish.Delivery.{Delivery}
use Rattle.mqtt_packet.specs.declared.connect.connect.Connect.{Connect as Greeting}
use Rattle.mqtt_packet.specs.declared.connect.connect.Will.{Will as WillAsked}
use Rattle.mqtt_packet.specs.subscribe.Options.{options_of}
use Rattle.mqtt_packet.specs.subscribe.Subscriptions.{Subscription as Asked}
use Rattle.mqtt_packet.specs.declared.subscribe.subscribe.Subscribe.{Subscribe as Asking}
use Rattle.mqtt_packet.specs.declared.subscribe.unsubscribe.Unsubscribe.{Unsubscribe as GivingUp}
use Rattle.mqtt_flow.specs.outbound.Outbound as rules
use Rattle.mqtt_flow.specs.outbound.Outbound.{Answer, resumed_with}
use Rattle.mqtt_flow.specs.inbound.Identifiers.{is_among}
use Rattle.mqtt_flow.specs.inbound.Inbound.{answer_to_release}
use Rattle.mqtt_flow.specs.declared.inbound.inflow.Published.TheVariants.{Again, New, Over}
use Rattle.mqtt_flow.specs.declared.inbound.inflow.Published.{Published}
use Rattle.mqtt_flow.specs.declared.inbound.inflow.ReleaseAnswer.TheVariants.{Known, Unknown}
use Rattle.mqtt_flow.specs.declared.inbound.inflow.ReleaseAnswer.{ReleaseAnswer}
use Rattle.mqtt_props.specs.Laws.{has}
use Rattle.mqtt_props.specs.declared.table.PropName.TheVariants.{AuthenticationMethod, SubscriptionIdentifier, TopicAlias}
use Rattle.mqtt_records.specs.state.Session.{birth_of}
use Rattle.mqtt_records.specs.declared.state.records.Records.{Records}
use Rattle.mqtt_records.specs.declared.state.session.Session.{Session}
use Rattle.mqtt_records.specs.messages.PassedOn.{number_at}
use Rattle.mqtt_records.specs.messages.Queue.{CopyRow}
use Rattle.mqtt_records.specs.declared.messages.message.RetainedMessage.{RetainedMessage}
use Rattle.mqtt_records.specs.declared.messages.message.Will.{Will}
use Rattle.mqtt_packet.specs.declared.codec.publish.Publish.{Publish as Publication}
use Rattle.mqtt_rules.proofs.step_lemmas.acts.Acts.{brought_to}
use Rattle.mqtt_rules.proofs.step_lemmas.acts.Leads.{found_among}
use Rattle.mqtt_rules.proofs.step_lemmas.fit.FitLaw.{all_among}
use Rattle.mqtt_rules.proofs.step_lemmas.flight.FlightRows.{all_at}
use Rattle.mqtt_rules.proofs.step_lemmas.numbers.Copies.{each_append, each_filter, each_flat}
use Rattle.mqtt_rules.specs.step.Closing.{close, close_connected, close_session, drop_line, end_session, has_due_end, has_due_will, publish_or_refuse, publish_will, settle, will_deeds, will_message}
use Rattle.mqtt_rules.specs.step.Connect.{Case, begin_named, case, clear, connect_by, first_case, has_bad_topic, is_unassigned, joins, largest_of, least_packet_size, of_client, prepare, refusal, refusal_size, refused, resume, take_over, will_kept, will_of}
use Rattle.mqtt_rules.specs.step.Deeds as deeds
use Rattle.mqtt_rules.specs.step.Deeds.{Act, At, Close, Count, Deed, DropWill, Finish, Forget, FromClient, FromWill, Gone, Hear, Leave, Link, Message, On, Send, Whose, after_all, always, of_session, offer, only_if, series, whose, with_line, with_session}
use Rattle.mqtt_rules.specs.step.Fitting.{pump_turns}
use Rattle.mqtt_rules.specs.step.Inbound.{Meaning, Means, Wrong, answer, code_accepted, code_again, leave_by, meaning, message_of, new_expiry, on_answer, opens, publish_by, publish_meant, publish_new, pump_deeds, release_by, sets_alias, standing}
use Rattle.mqtt_rules.specs.step.Outbound.{turn_deeds}
use Rattle.mqtt_rules.specs.step.Packets.{connack, disconnect, suback, unsuback}
use Rattle.mqtt_rules.specs.step.Routing.{CopyTo, accepted_copies, is_queued, is_wanted, publish}
use Rattle.mqtt_rules.specs.step.State.{Broker, Env, Line, line_at, line_of, queue_on, session_at, session_named}
use Rattle.mqtt_rules.specs.step.Step.{BadInput, Call, Input, Lost, NewLine, Pump, Tick, can_link, connected_in, deeds_of, first_packet, late_code, next_packet, on_fault, on_packet, on_pump, opening, settles, settles_all, shuts, shuts_all}
use Rattle.mqtt_rules.specs.step.Subscribe as sub
use Rattle.mqtt_rules.specs.step.Tick.{due, first_due, has_lapsed, is_silent, is_stale, lapse_deeds, lapses, on_tick, silence}
use Rattle.mqtt_rules.proofs.granting_lemmas.Blocks.{passed_unaliased}
use Rattle.mqtt_rules.proofs.granting_lemmas.Copies.{IsNamedMessage, IsNamedTo, accepted_named, brought_named, deliveries_name, late_names, leaves_name, offer_names, publish_names, turn_names, turns_name}
use Rattle.mqtt_rules.proofs.granting_lemmas.Deeds.{AllName, Names, Naming, kept_all, next}
use Rattle.mqtt_rules.proofs.granting_lemmas.Topics.{meant_name, topic_name}
use Rattle.mqtt_rules.specs.granting.Naming.{HasNamed, HasNames, IsNamedWill, NamesTopics}
use Rattle.mqtt_topic.specs.names.Filters.{begins_share, is_filter}
use Rattle.mqtt_topic.specs.names.Names.{IsTopicName, is_empty}
use Rattle.std.proofs.Common.{Bool, Err, List, None, Ok, Option, Some, [], bytes_eq, cond, false, filter, find, inl, inr, length, map, nat_eq, nat_le, nat_lt, not, option_map, refl, suc, true, ℕ, ◌&&◌, ◌++◌, ◌||◌, ◌∷◌, ◌≡◌}
use Rattle.std.proofs.lemmas.Bool.{cases_Bool}
use Rattle.std.specs.List.{AllByRecursion}
use Rattle.std.specs.Prelude.{flat_map, ⊤}

abbrev pub NamesAct : Act → Type 0
NamesAct act = (b : Broker) → Naming (act b) b

-- ---- acts one after the other, and those about a session or a line that stands

naming : (ds : List Deed) (b : Broker) → AllName ds → Naming ds b
naming ds b q h = q

acts : (fs : List Act) → AllByRecursion NamesAct fs → NamesAct (series fs)
acts [] q b = naming [] b tt
acts (f ∷ fs) q b = next (f b) (series fs (after_all (f b) b)) b (q.0 b) (acts fs q.1 (after_all (f b) b))

always_names : (ds : List Deed) → AllName ds → NamesAct (always ds)
always_names ds q b = naming ds b q

if_so : (t : Bool) (act : Act) → NamesAct act → NamesAct (only_if t act)
if_so true act q b = q b
if_so false act q b = naming [] b tt

on_session : (o : Option Session) (f : Session → Act) (b : Broker) → ((s : Session) → o ≡ Some s → Naming (f s b) b) → Naming (with_session o f b) b
on_session None f b q = naming [] b tt
on_session (Some s) f b q = q s refl

named_at : (birth : ℕ) (s : Session) (b : Broker) → NamesTopics b → session_at birth b.records ≡ Some s → HasNamed s
named_at birth s b h e = all_at birth_of HasNamed birth s b.records.sessions h.stored.sessions e

named_found : (test : Session → Bool) (s : Session) (b : Broker) → NamesTopics b → find test b.records.sessions ≡ Some s → HasNamed s
named_found test s b h e = all_among HasNamed s b.records.sessions h.stored.sessions (found_among test s b.records.sessions e)

on_birth : (birth : ℕ) (f : Session → Act) → ((s : Session) → HasNamed s → NamesAct (f s)) → NamesAct (of_session birth f)
on_birth birth f q b h = on_session (session_at birth b.records) f b (λ s e. q s (named_at birth s b h e) b) h

on_client : (client : List ℕ) (f : Session → Act) → ((s : Session) → HasNamed s → NamesAct (f s)) → NamesAct (of_client client f)
on_client client f q b h = on_session (session_named client b.records) f b (λ s e. q s (named_found (λ s. bytes_eq s.client client) s b h e) b) h

on_a_line : (o : Option Line) (f : Line → Act) → ((l : Line) → NamesAct (f l)) → NamesAct (with_line o f)
on_a_line None f q b = naming [] b tt
on_a_line (Some l) f q b = q l b

on_its_line : (n : ℕ) (f : Line → Act) (b : Broker) → ((l : Line) → HasNames l → Naming (f l b) b) → Naming (with_line (line_at n b) f b) b
on_its_line n f b q = by (line_at n b) (λ l e. e)
  where
    by : (o : Option Line) → ((l : Line) → o ≡ Some l → line_at n b ≡ Some l) → Naming (with_line o f b) b
    by None is = naming [] b tt
    by (Some l) is = λ h. q l (all_among HasNames l b.lines h.lines (found_among (λ (l : Line). nat_eq l.number n) l b.lines (is l refl))) h

names_cond : (t : Bool) (xs ys : List Deed) (b : Broker) → Naming xs b → Naming ys b → Naming (cond t xs ys) b
names_cond true xs ys b p q = p
names_cond false xs ys b p q = q

-- ---- deeds that send no PUBLISH

expiry_names : (o : Option ℕ) (s : Session) → AllName (new_expiry o s)
expiry_names None s = tt
expiry_names (Some n) s = (tt, tt)

alias_names : (t : Bool) (alias : Option ℕ) (line : ℕ) (topic : List ℕ) → IsTopicName topic → AllName (sets_alias t alias line topic)
alias_names true alias line topic q = tt
alias_names false None line topic q = tt
alias_names false (Some n) line topic q = (q, tt)

opens_names : (s : Session) (d : Delivery) → AllName (opens s d)
opens_names s delivery.AtMostOnce = tt
opens_names s (delivery.AtLeastOnce dup id) = tt
opens_names s (delivery.ExactlyOnce dup id) = (tt, tt)

end_names : (s : Session) → AllName (end_session s)
end_names s = each_append Names (map (λ e. At (whose s) (Leave e SessionEnded)) s.queue) (Finish (whose s) ∷ []) (leaves s.queue) (tt, tt)
  where
    leaves : (es : List CopyRow) → AllName (map (λ e. At (whose s) (Leave e SessionEnded)) es)
    leaves [] = tt
    leaves (e ∷ es) = (tt, leaves es)

answer_names : (line : ℕ) (d : Delivery) (code : ℕ) → AllName (answer line d code)
answer_names line delivery.AtMostOnce code = tt
answer_names line (delivery.AtLeastOnce dup id) code = (tt, tt)
answer_names line (delivery.ExactlyOnce dup id) code = (tt, tt)

release_names : (x : ReleaseAnswer) (l : Line) (s : Session) (id : ℕ) → AllName (release_by x l s id)
release_names Known l s id = (tt, (tt, tt))
release_names Unknown l s id = (tt, tt)

unsubscribes_name : (s : Session) (fs : List (List ℕ)) → AllName (flat_map (sub.unsubscribes s) fs)
unsubscribes_name s fs = each_flat Names (sub.unsubscribes s) (λ f. (tt, tt)) fs

unsubscribe_names : (t : Bool) (line : ℕ) (s : Session) (p : GivingUp) (b : Broker) → AllName (sub.unsubscribe_by t line s p b)
unsubscribe_names true line s p b = offer_names (line_at line b) (unsuback p.identifier (map (λ f. identifier_in_use) p.filters)) tt
unsubscribe_names false line s p b =
    let told = unsuback p.identifier (sub.drop_codes s [] p.filters) in
    let fs = filter (λ f. sub.has_filter f s) p.filters in
    each_append Names (flat_map (sub.unsubscribes s) fs) (offer (line_at line b) told) (unsubscribes_name s fs) (offer_names (line_at line b) told tt)

-- ---- CONNECT and CONNACK (3.1, 3.2)

refused_names : (l : Line) (c : Greeting) (code : ℕ) → AllName (refused l c code)
refused_names l c code = each_append Names (cond (nat_lt (largest_of c) refusal_size) [] (Send l.number (connack false code []) ∷ [])) (Gone l.number ∷ []) (by (nat_lt (largest_of c) refusal_size)) (tt, tt)
  where
    by : (t : Bool) → AllName (cond t [] (Send l.number (connack false code []) ∷ []))
    by true = tt
    by false = (tt, tt)

none_holds : (cs : List Case) → first_case cs ≡ None → AllByRecursion (λ (x : Case). x.holds ≡ false) cs
none_holds [] e = tt
none_holds (c ∷ cs) e = elim (cases_Bool c.holds) [
  | inl holds ↦ let first : Some c.code ≡ None = rw holds at e in absurd cc
  | inr not_so ↦ (not_so, none_holds cs (rw not_so at e))
]

asked_topic : (o : Option WillAsked) → has_bad_topic o ≡ false → IsNamedWill (option_map will_kept o)
asked_topic None good = tt
asked_topic (Some w) good = topic_name w.topic good

-- the Will of a CONNECT that isn't refused
will_named : (c : Greeting) (r : Records) → refusal c r ≡ None → IsNamedWill (will_of c)
will_named c r e =
    let all = none_holds (
    case (has AuthenticationMethod c.properties) bad_authentication_method
    ∷ case (nat_lt (largest_of c) least_packet_size) packet_too_large
    ∷ case (nat_lt CLIENT_LIMIT (length c.client_identifier)) client_identifier_not_valid
    ∷ case (is_unassigned c.client_identifier r) client_identifier_not_valid
    ∷ case (has_bad_topic c.will) topic_name_invalid
    ∷ []) e in
    asked_topic c.will all.1.1.1.1.0

resume_names : (l : Line) (c : Greeting) (now : ℕ) (s : Session) → IsNamedWill (will_of c) → HasNamed s → AllName (resume l c now s)
resume_names l c now s will h = (will, (tt, (tt, turns_name now l.number s (resumed_with (queue_on [] s)) h)))

begin_names : (t : Bool) (l : Line) (c : Greeting) (r : Records) → IsNamedWill (will_of c) → AllName (begin_named t l c r)
begin_names false l c r will = (will, (tt, (tt, tt)))
begin_names true l c r will = (tt, (will, (tt, (tt, tt))))

module _ (env : Env) where
  -- ---- Wills, ends, settling and closing

  will_or_refusal : (who : Whose) (m : Message) (o : Option (List CopyTo)) (b : Broker) → IsNamedMessage m → accepted_copies env m b ≡ o → AllName (publish_or_refuse env who m o b)
  will_or_refusal who m None b q e = (tt, tt)
  will_or_refusal who m (Some ds) b q e = publish_names env FromWill m ds b q (accepted_named env m ds b q e)

  of_will : (who : Whose) (o : Option Will) → IsNamedWill o → NamesAct (will_deeds env who o)
  of_will who None q b = naming [] b tt
  of_will who (Some w) q b =
      let m = will_message who.client w in
      let first = publish_or_refuse env who m (accepted_copies env m b) b in
      next first (series (always (At who DropWill ∷ []) ∷ []) (after_all first b)) b
      (naming first b (will_or_refusal who m (accepted_copies env m b) b (record { name = q; unaliased = passed_unaliased w.properties }) refl))
      (acts (always (At who DropWill ∷ []) ∷ []) (always_names (At who DropWill ∷ []) (tt, tt), tt) (after_all first b))

  its_will : (s : Session) → HasNamed s → NamesAct (publish_will env s)
  its_will s h b = of_will (whose s) s.will h.will b

  ending : (s : Session) → NamesAct (always (end_session s))
  ending s = always_names (end_session s) (end_names s)

  settling : (birth : ℕ) → NamesAct (settle env birth)
  settling birth b =
      acts (of_session birth (λ s. only_if (has_due_will b.now s) (publish_will env s)) ∷ of_session birth (λ s. only_if (has_due_end b.now s) (always (end_session s))) ∷ []) (
        on_birth birth (λ s. only_if (has_due_will b.now s) (publish_will env s)) (λ s h. if_so (has_due_will b.now s) (publish_will env s) (its_will s h)),
        (on_birth birth (λ s. only_if (has_due_end b.now s) (always (end_session s))) (λ s h. if_so (has_due_end b.now s) (always (end_session s)) (ending s)), tt),
      ) b

  closing_a_session : (keeps_will : Bool) (s : Session) → NamesAct (close_session env keeps_will s)
  closing_a_session keeps_will s b =
      acts (only_if (not keeps_will) (always (At (whose s) DropWill ∷ [])) ∷ always (At (whose s) (Close b.now) ∷ []) ∷ settle env s.birth ∷ []) (
        if_so (not keeps_will) (always (At (whose s) DropWill ∷ [])) (always_names (At (whose s) DropWill ∷ []) (tt, tt)),
        (always_names (At (whose s) (Close b.now) ∷ []) (tt, tt), (settling s.birth, tt)),
      ) b

  closing_connected : (keeps_will : Bool) (o : Option ℕ) → NamesAct (close_connected env keeps_will o)
  closing_connected keeps_will None b = naming [] b tt
  closing_connected keeps_will (Some birth) b = on_birth birth (close_session env keeps_will) (λ s h. closing_a_session keeps_will s) b

  closing : (keeps_will : Bool) (l : Line) → NamesAct (close env keeps_will l)
  closing keeps_will l b = acts (always (Gone l.number ∷ []) ∷ close_connected env keeps_will l.session ∷ []) (always_names (Gone l.number ∷ []) (tt, tt), (closing_connected keeps_will l.session, tt)) b

  dropping : (code : ℕ) (l : Line) → NamesAct (drop_line env code l)
  dropping code l b =
      acts (always (Send l.number (disconnect code) ∷ []) ∷ close env true l ∷ []) (always_names (Send l.number (disconnect code) ∷ []) (tt, tt), (closing true l, tt)) b

  -- ---- CONNECT

  taking_over : (s : Session) → NamesAct (take_over env s)
  taking_over s b = on_a_line (line_of s.birth b) (drop_line env session_taken_over) (dropping session_taken_over) b

  clearing : (s : Session) → HasNamed s → NamesAct (clear env s)
  clearing s h b = acts (publish_will env s ∷ of_client s.client (λ t. always (end_session t)) ∷ []) (its_will s h, (on_client s.client (λ t. always (end_session t)) (λ t its. ending t), tt)) b

  preparing : (c : Greeting) → NamesAct (prepare env c)
  preparing c b =
      acts (of_client c.client_identifier (take_over env) ∷ of_client c.client_identifier (λ s. settle env s.birth) ∷ only_if c.clean_start (of_client c.client_identifier (clear env)) ∷ []) (
        on_client c.client_identifier (take_over env) (λ s h. taking_over s),
        (
          on_client c.client_identifier (λ s. settle env s.birth) (λ s h. settling s.birth),
          (if_so c.clean_start (of_client c.client_identifier (clear env)) (on_client c.client_identifier (clear env) clearing), tt),
        ),
      ) b

  joining : (l : Line) (c : Greeting) (now : ℕ) (ds : List Deed) (o : Option Session) (b : Broker) → IsNamedWill (will_of c) → session_named c.client_identifier (after_all ds b).records ≡ o → Naming ds b
      → Naming (joins env l c now ds (after_all ds b).records o) b
  joining l c now ds (Some s) b will e q =
      next ds (resume l c now s) b q (λ h. resume_names l c now s will (named_found (λ x. bytes_eq x.client c.client_identifier) s (after_all ds b) h e))
  joining l c now ds None b will e q =
      let r = (after_all ds b).records in
      names_cond (nat_lt (length r.sessions) env.limits.sessions) (ds ++ begin_named (is_empty c.client_identifier) l c r) (refused l c quota_exceeded) b
      (next ds (begin_named (is_empty c.client_identifier) l c r) b q (naming (begin_named (is_empty c.client_identifier) l c r) (after_all ds b) (begin_names (is_empty c.client_identifier) l c r will)))
      (naming (refused l c quota_exceeded) b (refused_names l c quota_exceeded))

  connecting : (o : Option ℕ) (l : Line) (c : Greeting) (b : Broker) → refusal c b.records ≡ o → Naming (connect_by o env l c b) b
  connecting (Some code) l c b e = naming (refused l c code) b (refused_names l c code)
  connecting None l c b e =
      let ds = prepare env c b in
      joining l c b.now ds (session_named c.client_identifier (after_all ds b).records) b (will_named c b.records e) refl (preparing c b)

  -- ---- PUBLISH

  publishing_new : (l : Line) (s : Session) (p : Publication) (m : Message) (o : Option (List CopyTo)) (b : Broker) → IsNamedMessage m → accepted_copies env m b ≡ o → Naming (publish_new env l s p m o b) b
  publishing_new l s p m None b q e = naming (answer l.number p.delivery quota_exceeded) b (answer_names l.number p.delivery quota_exceeded)
  publishing_new l s p m (Some ds) b q e =
      let first = publish env FromClient m ds b in
      let told = answer l.number p.delivery (code_accepted (is_wanted env m b.records)) in
      next first (series (always (opens s p.delivery) ∷ always told ∷ []) (after_all first b)) b (naming first b (publish_names env FromClient m ds b q (accepted_named env m ds b q e)))
      (acts (always (opens s p.delivery) ∷ always told ∷ []) (
        always_names (opens s p.delivery) (opens_names s p.delivery),
        (always_names told (answer_names l.number p.delivery (code_accepted (is_wanted env m b.records))), tt),
      ) (after_all first b))

  publishing_by : (x : Published) (l : Line) (s : Session) (p : Publication) (m : Message) → IsNamedMessage m → NamesAct (publish_by x env l s p m)
  publishing_by Again l s p m q b = naming (answer l.number p.delivery (code_again p.delivery)) b (answer_names l.number p.delivery (code_again p.delivery))
  publishing_by Over l s p m q b = dropping receive_maximum_exceeded l b
  publishing_by New l s p m q b = publishing_new l s p m (accepted_copies env m b) b q refl

  publishing : (x : Meaning) (l : Line) (s : Session) (p : Publication) → meaning p l.aliases ≡ x → HasNames l → NamesAct (publish_meant x env l s p)
  publishing (Wrong code) l s p e names b = dropping code l b
  publishing (Means topic) l s p e names b =
      let sets = sets_alias (is_empty p.topic) (number_at TopicAlias p.properties) l.number topic in
      let m = message_of s.client topic p in
      let name = meant_name p l.aliases topic names e in
      acts (always sets ∷ publish_by (standing p.delivery s.inbound) env l s p m ∷ []) (
        always_names sets (alias_names (is_empty p.topic) (number_at TopicAlias p.properties) l.number topic name),
        (publishing_by (standing p.delivery s.inbound) l s p m (record { name = name; unaliased = passed_unaliased p.properties }), tt),
      ) b

  -- ---- a receiver's answers, and DISCONNECT

  answering : (a : Answer) (l : Line) (s : Session) → HasNamed s → NamesAct (on_answer a env l s)
  answering (Ok None) l s h b = naming [] b tt
  answering (Ok (Some t)) l s h b = naming (turn_deeds b.now l.number s t) b (turn_names b.now l.number s t h)
  answering (Err fault) l s h b = dropping protocol_error l b

  leaving : (t : Bool) (l : Line) (s : Session) (code : ℕ) (o : Option ℕ) → NamesAct (leave_by t env l s code o)
  leaving true l s code o b = dropping protocol_error l b
  leaving false l s code o b = acts (always (new_expiry o s) ∷ close env _ l ∷ []) (always_names (new_expiry o s) (expiry_names o s), (closing _ l, tt)) b

  -- ---- SUBSCRIBE

  abbrev AnswersNamed : sub.FilterAnswer → Type 0
  AnswersNamed g = AllName g.deeds × AllByRecursion IsNamedTo g.late

  answered : (valid fits : Bool) (s : Session) (w : sub.Wish) (b : Broker) → NamesTopics b → AnswersNamed (sub.answer_by valid fits env (sub.next_number b.records) s w (brought_to w s b) b)
  answered false fits s w b h = (tt, tt)
  answered true false s w b h = (tt, tt)
  answered true true s w b h =
      let number = sub.next_number b.records in
      let ds = brought_to w s b in
      let copies = brought_named (not (begins_share w.filter) && sub.wants_retained w.options.retain_handling (sub.has_filter w.filter s)) b.now number s w b.records.retained h.stored.retained in
      let first : List Deed = Count number ∷ At (whose s) (deeds.Subscribe (sub.subscription number s w)) ∷ [] in
      ((tt, (tt, deliveries_name env (filter is_queued ds) (after_all first b) (each_filter IsNamedTo is_queued ds copies))), each_filter IsNamedTo (λ d. not (is_queued d)) ds copies)

  filter_named : (identifier : Option ℕ) (text : List ℕ) (o : Option SubscriptionOptions) (b : Broker) (x : Option Session) → NamesTopics b → AnswersNamed (sub.filter_answer_of env (sub.wish_by text identifier o) b x)
  filter_named identifier text None b None h = (tt, tt)
  filter_named identifier text (Some options) b None h = (tt, tt)
  filter_named identifier text None b (Some s) h = (tt, tt)
  filter_named identifier text (Some options) b (Some s) h =
      let w : sub.Wish = record { filter = text; options = options; identifier = identifier } in
      answered (is_filter text) ((sub.has_filter text s || nat_lt (length s.subscriptions) SUBSCRIPTION_LIMIT) && nat_le (length (filter is_queued (brought_to w s b))) _) s w b h

  filters_named : (birth : ℕ) (identifier : Option ℕ) (xs : List Asked) (b : Broker) → NamesTopics b
      → AllName (sub.filter_answers env birth identifier xs b).deeds × AllByRecursion IsNamedTo (sub.filter_answers env birth identifier xs b).late
  filters_named birth identifier [] b h = (tt, tt)
  filters_named birth identifier (a ∷ rest) b h =
      let g = sub.filter_answer_of env (sub.wish_of identifier a) b (session_at birth b.records) in
      let c = after_all g.deeds b in
      let all = sub.filter_answers env birth identifier rest c in
      let one = filter_named identifier a.filter (options_of a.options) b (session_at birth b.records) h in
      let more = filters_named birth identifier rest c (kept_all g.deeds b h one.0) in
      (each_append Names g.deeds all.deeds one.0 more.0, each_append IsNamedTo g.late all.late one.1 more.1)

  all_late : (line : ℕ) (ds : List CopyTo) (b : Broker) → AllByRecursion IsNamedTo ds → AllName (series (map (sub.late_send line) ds) b)
  all_late line [] b h = tt
  all_late line (d ∷ ds) b h =
      let first = sub.late_send line d b in
      let c = after_all first b in
      each_append Names first (series (map (sub.late_send line) ds) c) (late_names (line_at line b) d b h.0) (all_late line ds c h.1)

  subscribing : (t : Bool) (line : ℕ) (s : Session) (p : Asking) (b : Broker) → Naming (sub.subscribe_by t env line s p b) b
  subscribing true line s p b h = offer_names (line_at line b) (suback p.identifier (map (λ a. identifier_in_use) p.subscriptions)) tt
  subscribing false line s p b h =
      let a = sub.filter_answers env s.birth (number_at SubscriptionIdentifier p.properties) p.subscriptions b in
      let told = offer (line_at line b) (suback p.identifier a.codes) in
      let c = after_all (a.deeds ++ told) b in
      let all = filters_named s.birth (number_at SubscriptionIdentifier p.properties) p.subscriptions b h in
      each_append Names (a.deeds ++ told) (series (map (sub.late_send line) a.late) c)
      (each_append Names a.deeds told all.0 (offer_names (line_at line b) (suback p.identifier a.codes) tt))
      (all_late line a.late c all.1)

  -- ---- tick

  abbrev NamesOption : Option Act → Type 0
  NamesOption None = ⊤
  NamesOption (Some act) = NamesAct act

  mapped : {X : Type 0} (f : X → Act) (o : Option X) → ((x : X) → o ≡ Some x → NamesAct (f x)) → NamesOption (option_map f o)
  mapped f None h = tt
  mapped f (Some x) h = h x refl

  first_named : (os : List (Option Act)) → AllByRecursion NamesOption os → NamesOption (first_due os)
  first_named [] h = tt
  first_named (Some act ∷ rest) h = h.0
  first_named (None ∷ rest) h = first_named rest h.1

  silent : (o : Option ℕ) (l : Line) → NamesAct (silence env o l)
  silent None l b = closing true l b
  silent (Some birth) l b = dropping keep_alive_timeout l b

  due_named : (b : Broker) → NamesTopics b → NamesOption (due env b)
  due_named b h =
      let lines = find (λ (l : Line). is_silent b.now l.session l) b.lines in
      let wills = find (has_due_will b.now) b.records.sessions in
      let ends = find (has_due_end b.now) b.records.sessions in
      let kept = find (is_stale b.now) b.records.retained in
      let waiting = find (has_lapsed b.now) b.records.sessions in
      let all : List (Option Act) = option_map (λ (l : Line). silence env l.session l) lines ∷ option_map (publish_will env) wills ∷ option_map (λ (s : Session). always (end_session s)) ends
      ∷ option_map (λ (k : RetainedMessage). always (Forget k.place ∷ [])) kept ∷ option_map (λ (s : Session). always (lapse_deeds b.now s)) waiting ∷ [] in
      let each : AllByRecursion NamesOption all = (
        mapped (λ (l : Line). silence env l.session l) lines (λ l e. silent l.session l),
        (
          mapped (publish_will env) wills (λ s e. its_will s (named_found (has_due_will b.now) s b h e)),
          (
            mapped (λ (s : Session). always (end_session s)) ends (λ s e. ending s),
            (
              mapped (λ (k : RetainedMessage). always (Forget k.place ∷ [])) kept (λ k e. always_names (Forget k.place ∷ []) (tt, tt)),
              (mapped (λ (s : Session). always (lapse_deeds b.now s)) waiting (λ s e. always_names (lapse_deeds b.now s) (leaves_name s (lapses b.now s))), tt),
            ),
          ),
        ),
      ) in
      first_named all each

  ticking : (o : Option Act) → NamesOption o → NamesAct (on_tick o)
  ticking None q b = naming [] b tt
  ticking (Some act) q b = q b

  -- ---- packets

  first_read : (l : Line) (packet : Packet) → NamesAct (first_packet env l packet)
  first_read l (packets.Connect c) b = connecting (refusal c b.records) l c b refl
  first_read l packet b = closing true l b

  next_read : (l : Line) (packet : Packet) (s : Session) → HasNames l → HasNamed s → NamesAct (next_packet env l packet s)
  next_read l (packets.Publish p) s names h b = publishing (meaning p l.aliases) l s p refl names b
  next_read l (packets.Puback a) s names h b = answering (rules.puback a.identifier a.reason.0 (queue_on l.went s)) l s h b
  next_read l (packets.Pubrec a) s names h b = answering (rules.pubrec a.identifier a.reason.0 (queue_on l.went s)) l s h b
  next_read l (packets.Pubrel a) s names h b = naming (release_by (answer_to_release a.identifier s.inbound) l s a.identifier) b (release_names (answer_to_release a.identifier s.inbound) l s a.identifier)
  next_read l (packets.Pubcomp a) s names h b = answering (rules.pubcomp a.identifier (queue_on l.went s)) l s h b
  next_read l (packets.Subscribe p) s names h b = subscribing (is_among p.identifier s.inbound) l.number s p b
  next_read l (packets.Unsubscribe p) s names h b = naming _ b (unsubscribe_names (is_among p.identifier s.inbound) l.number s p b)
  next_read l packets.Pingreq s names h b = naming (Send l.number packets.Pingresp ∷ []) b (tt, tt)
  next_read l (packets.Disconnect n) s names h b = leaving _ l s n.reason.0 _ b
  next_read l packet s names h b = dropping protocol_error l b

  reading : (l : Line) (packet : Packet) (o : Option ℕ) → HasNames l → NamesAct (on_packet env l packet o)
  reading l packet None names b = first_read l packet b
  reading l packet (Some birth) names b = on_birth birth (next_packet env l packet) (λ s h. next_read l packet s names h) b

  -- ---- calls

  at_fault : (l : Line) (t : Bool) (code : ℕ) (o : Option ℕ) → NamesAct (on_fault env l t code o)
  at_fault l true code None b =
      acts (always (Send l.number (connack false code []) ∷ []) ∷ close env true l ∷ []) (always_names (Send l.number (connack false code []) ∷ []) (tt, tt), (closing true l, tt)) b
  at_fault l false code None b = closing true l b
  at_fault l true code (Some birth) b = dropping (late_code code) l b
  at_fault l false code (Some birth) b = dropping (late_code code) l b

  pumping : (l : Line) (o : Option ℕ) → NamesAct (on_pump l o)
  pumping l None b = naming [] b tt
  pumping l (Some birth) b = on_birth birth (λ s. always (pump_deeds l b s)) (λ s h. always_names (pump_deeds l b s) (turns_name b.now l.number s (pump_turns l b s) h)) b

  -- a call names the topic of each PUBLISH that it sends
  pub call_names : (call : Call) → NamesAct (deeds_of env call)
  call_names NewLine b = names_cond (can_link env.limits b) (Link (suc b.given) ∷ []) [] b (naming (Link (suc b.given) ∷ []) b (tt, tt)) (naming [] b tt)
  call_names (Input n packet) b =
      on_its_line n (λ l. series (always (On n Hear ∷ []) ∷ on_packet env l packet l.session ∷ [])) b
      (λ l names. acts (always (On n Hear ∷ []) ∷ on_packet env l packet l.session ∷ []) (always_names (On n Hear ∷ []) (tt, tt), (reading l packet l.session names, tt)) b)
  call_names (BadInput n is_connect code) b = on_a_line (line_at n b) (λ l. on_fault env l is_connect code l.session) (λ l. at_fault l is_connect code l.session) b
  call_names (Lost n) b = on_a_line (line_at n b) (close env true) (closing true) b
  call_names (Pump n) b = on_a_line (line_at n b) (λ l. on_pump l l.session) (λ l. pumping l l.session) b
  call_names Tick b = λ h. ticking (due env b) (due_named b h) b h

  -- ---- openings

  shutting : (s : Session) → NamesAct (shuts s)
  shutting s b = naming (At (whose s) (Close b.now) ∷ []) b (tt, tt)

  each_act : {X : Type 0} (f : X → Act) → ((x : X) → NamesAct (f x)) → (xs : List X) → AllByRecursion NamesAct (map f xs)
  each_act f h [] = tt
  each_act f h (x ∷ xs) = (h x, each_act f h xs)

  -- so does an opening
  pub opening_names : NamesAct (opening env)
  opening_names b =
      let ss = connected_in b.records in
      acts (shuts_all ss ∷ settles_all env ss ∷ []) (acts (map shuts ss) (each_act shuts shutting ss), (acts (map (settles env) ss) (each_act (settles env) (λ s. settling s.birth) ss), tt)) b
