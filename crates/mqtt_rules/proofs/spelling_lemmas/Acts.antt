-- What each act sends has a spelling, on a state that is fine.
use Rattle.std.proofs.Common.{◌≡◌, ℕ, suc, ◌≤◌, ◌<◌, ◌^◌, Bool, true, false, cond, not, ◌&&◌, ◌||◌, List, [], ◌∷◌, ◌++◌, filter, length, map, Option, Some, None, Ok, Err, refl, sym, ap, subst, bytes_eq, nat_le, nat_lt, arith, inl, inr}
use Rattle.std.specs.Prelude.{⊤, ◌==◌, find, flat_map, option_map}
use Rattle.std.specs.List.{AllByRecursion, list_any}
use Rattle.std.proofs.lemmas.Bool.{cases_Bool, ltb-false, ltb-true}
use Rattle.std.proofs.lemmas.List.{length-append}
use Rattle.mqtt_base.specs.Codes.{success, bad_authentication_method, client_identifier_not_valid, identifier_in_use, identifier_not_found, keep_alive_timeout, no_matching_subscribers, packet_too_large, protocol_error, quota_exceeded, receive_maximum_exceeded, session_taken_over, topic_alias_invalid, topic_name_invalid}
use Rattle.mqtt_base.specs.Reasons.{is_code}
use Rattle.mqtt_base.specs.declared.kind.Kind.TheVariants as kinds
use Rattle.mqtt_base.specs.declared.limits.TheConstants.{CLIENT_LIMIT, LAST_NUMBER, SUBSCRIPTION_LIMIT}
use Rattle.mqtt_base.specs.declared.session.Ending.TheVariants.{SessionEnded}
use Rattle.mqtt_base.specs.declared.session.Qos.{Qos}
use Rattle.mqtt_base.specs.declared.session.Qos.TheVariants as qos
use Rattle.mqtt_base.specs.declared.session.SubscriptionOptions.{SubscriptionOptions}
use Rattle.mqtt_base.specs.Service.{qos_number}
use Rattle.mqtt_base.specs.Values.{blob, two_bytes, varint}
use Rattle.mqtt_packet.specs.parts.Faults.{answer_to}
use Rattle.mqtt_packet.specs.subscribe.Options.{options_of}
use Rattle.mqtt_packet.specs.codec.Publish.{FitsDelivery, lawful_identifier}
use Rattle.mqtt_packet.specs.codec.Suback.{are_codes}
use Rattle.mqtt_packet.specs.declared.codec.packet.Packet.{Packet}
use Rattle.mqtt_packet.specs.declared.codec.packet.Packet.TheVariants as packets
use Rattle.mqtt_packet.specs.declared.codec.publish.Delivery.{Delivery}
use Rattle.mqtt_packet.specs.declared.codec.publish.Delivery.TheVariants as delivery
use Rattle.mqtt_packet.specs.declared.codec.publish.Publish.{Publish as Publication}
use Rattle.mqtt_packet.specs.declared.connect.connect.Connect.{Connect as Greeting}
use Rattle.mqtt_packet.specs.parts.Blocks.{keeps_laws}
use Rattle.mqtt_packet.specs.declared.parts.fault.Fault.{Fault}
use Rattle.mqtt_packet.specs.declared.parts.fault.Fault.TheVariants as faults
use Rattle.mqtt_flow.specs.outbound.Outbound.{Answer, resumed_with}
use Rattle.mqtt_flow.specs.outbound.Outbound as rules
use Rattle.mqtt_flow.specs.inbound.Identifiers.{is_among}
use Rattle.mqtt_flow.specs.inbound.Inbound.{answer_to_release}
use Rattle.mqtt_flow.specs.declared.inbound.inflow.Published.{Published}
use Rattle.mqtt_flow.specs.declared.inbound.inflow.Published.TheVariants.{Again, New, Over}
use Rattle.mqtt_flow.specs.declared.inbound.inflow.ReleaseAnswer.{ReleaseAnswer}
use Rattle.mqtt_flow.specs.declared.inbound.inflow.ReleaseAnswer.TheVariants.{Known, Unknown}
use Rattle.mqtt_keep.specs.lawful.Lawful.{IsIdentifier}
use Rattle.mqtt_records.specs.messages.Queue.{CopyRow}
use Rattle.mqtt_records.specs.declared.messages.message.RetainedMessage.{RetainedMessage}
use Rattle.mqtt_records.specs.declared.messages.message.Will.{Will}
use Rattle.mqtt_props.specs.Laws.{has}
use Rattle.mqtt_props.specs.Properties.{block}
use Rattle.mqtt_props.specs.declared.place.Place.TheVariants as places
use Rattle.mqtt_props.specs.declared.table.PropName.TheVariants.{AuthenticationMethod, SubscriptionIdentifier, TopicAlias}
use Rattle.mqtt_records.specs.state.Session.{birth_of}
use Rattle.mqtt_records.specs.declared.state.records.Records.{Records}
use Rattle.mqtt_records.specs.declared.state.session.Session.{Session}
use Rattle.mqtt_packet.specs.subscribe.Subscribe.{subscribe_body}
use Rattle.mqtt_packet.specs.subscribe.Subscriptions.{Subscription as Asked, subscription}
use Rattle.mqtt_packet.specs.subscribe.Unsubscribe.{unsubscribe_body}
use Rattle.mqtt_packet.specs.declared.subscribe.subscribe.Subscribe.{Subscribe as Asking}
use Rattle.mqtt_packet.specs.declared.subscribe.unsubscribe.Unsubscribe.{Unsubscribe as GivingUp}
use Rattle.mqtt_topic.specs.names.Aliases.{AliasTable, topic_of}
use Rattle.mqtt_topic.specs.names.Filters.{begins_share, is_filter}
use Rattle.mqtt_topic.specs.names.Names.{is_empty, is_topic_name}
use Rattle.mqtt_rules.specs.step.Closing.{close, close_connected, close_session, drop_line, end_session, has_due_end, has_due_will, publish_or_refuse, publish_will, settle, will_deeds, will_message}
use Rattle.mqtt_rules.specs.step.Connect.{Case, begin_named, case, clear, connect_by, first_case, has_bad_topic, is_unassigned, joins, largest_of, least_packet_size, of_client, prepare, refusal, refusal_size, refused, resume, take_over}
use Rattle.mqtt_rules.specs.step.Contents.{HasContentsOf, HasTopics, IsTaken, IsWilledOf, TakesLawful, of_rows}
use Rattle.mqtt_rules.specs.step.Deeds.{Whose, whose, Message, Origin, FromClient, FromWill, Resume, Close, DropWill, SetExpiry, Release, Leave, Hear, Count, Name, Deed, At, Finish, Forget, RefuseWill, Link, On, Send, Gone, Act, after, after_all, always, of_session, offer, only_if, series, with_line, with_session}
use Rattle.mqtt_rules.specs.step.Deeds as deeds
use Rattle.mqtt_rules.specs.step.Fitting.{fitted, pump_turns, size_at}
use Rattle.mqtt_rules.specs.step.Inbound.{Meaning, Means, Wrong, answer, code_accepted, code_again, is_in_range, known, leave_by, meaning, message_of, named, named_by, new_expiry, on_answer, opens, publish_by, publish_meant, publish_new, pump_deeds, release_by, resolved, sets_alias, standing}
use Rattle.mqtt_rules.specs.step.Outbound.{turn_deeds, way_of}
use Rattle.mqtt_rules.specs.step.Packets.{connack, disconnect, suback, unsuback}
use Rattle.mqtt_records.specs.messages.PassedOn.{number_at}
use Rattle.mqtt_rules.specs.step.Routing.{CopyTo, accepted_copies, is_queued, is_wanted, publish}
use Rattle.mqtt_rules.specs.step.State.{Broker, Env, Line, line_at, line_of, queue_on, session_at, session_named, told_on}
use Rattle.mqtt_rules.specs.step.Laws.{HasTables, IsOrdered}
use Rattle.mqtt_rules.specs.step.Piece.{code_of}
use Rattle.mqtt_rules.specs.step.Step.{Call, NewLine, Input, BadInput, Lost, Pump, Tick, can_link, connected_in, deeds_of, first_packet, late_code, next_packet, on_fault, on_packet, on_pump, opening, settles, settles_all, shuts, shuts_all}
use Rattle.mqtt_rules.specs.step.Subscribe as sub
use Rattle.mqtt_rules.specs.step.Tick.{due, first_due, has_lapsed, is_silent, is_stale, lapse_deeds, lapses, on_tick, silence}
use Rattle.mqtt_rules.proofs.step_lemmas.acts.Acts.{brought_to}
use Rattle.mqtt_rules.proofs.step_lemmas.contents.ContentPackets.{asked_identifier, published, sent_content}
use Rattle.mqtt_rules.proofs.step_lemmas.numbers.Copies.{each_append, each_filter, each_flat}
use Rattle.mqtt_rules.proofs.step_lemmas.fit.FitLaw.{all_among}
use Rattle.mqtt_rules.proofs.step_lemmas.flight.FlightRows.{all_at}
use Rattle.mqtt_rules.proofs.step_lemmas.acts.Leads.{found_among}
use Rattle.mqtt_rules.proofs.step_lemmas.order.OrderedQueues.{length-mapped}
use Rattle.mqtt_rules.proofs.step_lemmas.contents.SpelledContents.{rows_are}
use Rattle.mqtt_topic.proofs.names_lemmas.MatchLemmas.{and_both, and_left, and_right}
use Rattle.mqtt_rules.specs.spelling.Sending.{HasSentPhases, IsPacketIdentifier, TellsFault}
use Rattle.mqtt_rules.proofs.spelling_lemmas.Copies.{IsCopiedTo, IsLate, IsMessage, accepted_copied, brought_copied, late_copies, said_deliveries, said_late, said_leaves, said_offer, said_publish}
use Rattle.mqtt_rules.proofs.spelling_lemmas.Fine.{AreSaid, IsFine, IsSaid, Says, Writes, fine_all, next, writes_split}
use Rattle.mqtt_rules.proofs.spelling_lemmas.Packets.{assigned_spelled, disconnect_spelled, granted_spelled, puback_spelled, pubcomp_spelled, pubrec_spelled, refusal_spelled, suback_spelled, unsuback_spelled}
use Rattle.mqtt_rules.proofs.spelling_lemmas.Turns.{IsAnswer, puback_turn, pubcomp_turn, pubrec_turn, pumped_turns, resumed_turns, said_turn, said_turns}

abbrev pub SaysAct : Act → Type 0
SaysAct act = (b : Broker) → Says (act b) b

-- ---- acts one after the other, and those about a session or a line that stands

saying : (ds : List Deed) (b : Broker) → AreSaid ds → Says ds b
saying ds b q h rows = q

acts : (fs : List Act) → AllByRecursion SaysAct fs → SaysAct (series fs)
acts [] q b = saying [] b tt
acts (f ∷ fs) q b = next (f b) (series fs (after_all (f b) b)) b (q.0 b) (acts fs q.1 (after_all (f b) b))

always_said : (ds : List Deed) → AreSaid ds → SaysAct (always ds)
always_said ds q b = saying ds b q

if_so : (t : Bool) (act : Act) → SaysAct act → SaysAct (only_if t act)
if_so true act q b = q b
if_so false act q b = saying [] b tt

on_session : (o : Option Session) (f : Session → Act) (b : Broker) → ((s : Session) → o ≡ Some s → Says (f s b) b) → Says (with_session o f b) b
on_session None f b q = saying [] b tt
on_session (Some s) f b q = q s refl

-- a session that stands has lawful contents, and its copies are marked with identifiers of two bytes
abbrev StandsWell : Session → Type 0
StandsWell s = HasContentsOf of_rows s × HasSentPhases s

well_at : (birth : ℕ) (s : Session) (r : Records) → IsFine r → session_at birth r ≡ Some s → StandsWell s
well_at birth s r h e = (all_at birth_of (HasContentsOf of_rows) birth s r.sessions h.contents.sessions e, all_at birth_of HasSentPhases birth s r.sessions h.phases e)

well_found : (test : Session → Bool) (s : Session) (r : Records) → IsFine r → find test r.sessions ≡ Some s → StandsWell s
well_found test s r h e =
    let among = found_among test s r.sessions e in
    (all_among (HasContentsOf of_rows) s r.sessions h.contents.sessions among, all_among HasSentPhases s r.sessions h.phases among)

on_birth : (birth : ℕ) (f : Session → Act) → ((s : Session) → StandsWell s → SaysAct (f s)) → SaysAct (of_session birth f)
on_birth birth f q b h rows = on_session (session_at birth b.records) f b (λ s e. q s (well_at birth s b.records h e) b) h rows

on_client : (client : List ℕ) (f : Session → Act) → ((s : Session) → StandsWell s → SaysAct (f s)) → SaysAct (of_client client f)
on_client client f q b h rows = on_session (session_named client b.records) f b (λ s e. q s (well_found (λ s. bytes_eq s.client client) s b.records h e) b) h rows

on_a_line : (o : Option Line) (f : Line → Act) → ((l : Line) → SaysAct (f l)) → SaysAct (with_line o f)
on_a_line None f q b = saying [] b tt
on_a_line (Some l) f q b = q l b

-- ---- deeds that send nothing

said_expiry : (o : Option ℕ) (s : Session) → AreSaid (new_expiry o s)
said_expiry None s = tt
said_expiry (Some n) s = (tt, tt)

said_alias : (t : Bool) (alias : Option ℕ) (line : ℕ) (topic : List ℕ) → AreSaid (sets_alias t alias line topic)
said_alias true alias line topic = tt
said_alias false None line topic = tt
said_alias false (Some n) line topic = (tt, tt)

said_opens : (s : Session) (d : Delivery) → AreSaid (opens s d)
said_opens s delivery.AtMostOnce = tt
said_opens s (delivery.AtLeastOnce dup id) = tt
said_opens s (delivery.ExactlyOnce dup id) = (tt, tt)

said_end : (s : Session) → AreSaid (end_session s)
said_end s = each_append IsSaid (map (λ e. At (whose s) (Leave e SessionEnded)) s.queue) (Finish (whose s) ∷ []) (leaves s.queue) (tt, tt)
  where
    leaves : (es : List CopyRow) → AreSaid (map (λ e. At (whose s) (Leave e SessionEnded)) es)
    leaves [] = tt
    leaves (e ∷ es) = (tt, leaves es)

-- ---- reason codes (2.4)

abbrev IsRefusal : ℕ → Type 0
IsRefusal code = is_code kinds.Connack code ≡ true

first_refusal : (cs : List Case) (code : ℕ) → AllByRecursion (λ (x : Case). IsRefusal x.code) cs → first_case cs ≡ Some code → IsRefusal code
first_refusal [] code h e = absurd cc
first_refusal (c ∷ cs) code h e = elim (cases_Bool c.holds) [
  | inl holds ↦ let first : Some c.code ≡ Some code = rw holds at e in let it : c.code ≡ code = cc in subst IsRefusal it h.0
  | inr not_so ↦ first_refusal cs code h.1 (rw not_so at e)
]

refusal_code : (c : Greeting) (r : Records) (code : ℕ) → refusal c r ≡ Some code → IsRefusal code
refusal_code c r code e =
    first_refusal (
    case (has AuthenticationMethod c.properties) bad_authentication_method
    ∷ case (nat_lt (largest_of c) least_packet_size) packet_too_large
    ∷ case (nat_lt CLIENT_LIMIT (length c.client_identifier)) client_identifier_not_valid
    ∷ case (is_unassigned c.client_identifier r) client_identifier_not_valid
    ∷ case (has_bad_topic c.will) topic_name_invalid
    ∷ []) code (refl, (refl, (refl, (refl, (refl, tt))))) e

-- a topic that is none
abbrev IsMeaning : Meaning → Type 0
IsMeaning (Means topic) = ⊤
IsMeaning (Wrong code) = is_code kinds.Disconnect code ≡ true

means_cond : (t : Bool) (x y : Meaning) → IsMeaning x → IsMeaning y → IsMeaning (cond t x y)
means_cond true x y p q = p
means_cond false x y p q = q

means_named : (topic : List ℕ) → IsMeaning (named topic)
means_named [] = refl
means_named (c ∷ cs) = means_cond (is_topic_name (c ∷ cs)) (Means (c ∷ cs)) (Wrong topic_name_invalid) tt refl

means_known : (o : Option (List ℕ)) → IsMeaning (known o)
means_known None = refl
means_known (Some topic) = tt

means_alias : (table : AliasTable) (topic : List ℕ) (alias : ℕ) → IsMeaning (named_by table topic alias)
means_alias table [] alias = means_known (topic_of alias table.topics)
means_alias table (c ∷ cs) alias = means_named (c ∷ cs)

means_resolved : (table : AliasTable) (topic : List ℕ) (o : Option ℕ) → IsMeaning (resolved table topic o)
means_resolved table topic None = means_named topic
means_resolved table topic (Some alias) = means_cond (is_in_range table.max alias) (named_by table topic alias) (Wrong topic_alias_invalid) (means_alias table topic alias) refl

means_well : (p : Publication) (table : AliasTable) → IsMeaning (meaning p table)
means_well p table = means_cond (has SubscriptionIdentifier p.properties) (Wrong protocol_error) (resolved table p.topic (number_at TopicAlias p.properties)) refl (means_resolved table p.topic (number_at TopicAlias p.properties))

-- ---- packets that answer (3.4 to 3.11)

abbrev IsDelivered : Delivery → Type 0
IsDelivered delivery.AtMostOnce = ⊤
IsDelivered (delivery.AtLeastOnce dup id) = IsPacketIdentifier id
IsDelivered (delivery.ExactlyOnce dup id) = IsPacketIdentifier id

in_two_bytes : (id : ℕ) → id < 2 ^ 16 → nat_lt 0 id ≡ true → IsPacketIdentifier id
in_two_bytes id fits some = record { some = ltb-true 0 id some; fits = fits }

delivered : (d : Delivery) → FitsDelivery d → lawful_identifier d ≡ true → IsDelivered d
delivered delivery.AtMostOnce fits some = tt
delivered (delivery.AtLeastOnce dup id) fits some = in_two_bytes id fits some
delivered (delivery.ExactlyOnce dup id) fits some = in_two_bytes id fits some

delivered_by : (p : Publication) → IsTaken (packets.Publish p) → IsDelivered p.delivery
delivered_by p taken = delivered p.delivery taken.spelled.0.0 (and_left (lawful_identifier p.delivery) _ (and_right _ (lawful_identifier p.delivery && _) taken.spelled.2))

said_answer : (line : ℕ) (d : Delivery) (code : ℕ) → IsDelivered d → is_code kinds.Puback code ≡ true → is_code kinds.Pubrec code ≡ true → AreSaid (answer line d code)
said_answer line delivery.AtMostOnce code q p r = tt
said_answer line (delivery.AtLeastOnce dup id) code q p r = (puback_spelled id code q p, tt)
said_answer line (delivery.ExactlyOnce dup id) code q p r = (pubrec_spelled id code q r, tt)

said_again : (line : ℕ) (d : Delivery) → IsDelivered d → AreSaid (answer line d (code_again d))
said_again line delivery.AtMostOnce q = tt
said_again line (delivery.AtLeastOnce dup id) q = (puback_spelled id identifier_in_use q refl, tt)
said_again line (delivery.ExactlyOnce dup id) q = (pubrec_spelled id success q refl, tt)

said_accepted : (line : ℕ) (d : Delivery) (wanted : Bool) → IsDelivered d → AreSaid (answer line d (code_accepted wanted))
said_accepted line d true q = said_answer line d success q refl refl
said_accepted line d false q = said_answer line d no_matching_subscribers q refl refl

said_release : (x : ReleaseAnswer) (l : Line) (s : Session) (id : ℕ) → IsPacketIdentifier id → AreSaid (release_by x l s id)
said_release Known l s id q = (tt, (pubcomp_spelled id success q refl, tt))
said_release Unknown l s id q = (pubcomp_spelled id identifier_not_found q refl, tt)

-- as many codes as filters, of which there is one, and no more than bytes in a packet
list_codes : {X : Type 0} (xs : List X) (codes : List ℕ) → length codes ≡ length xs → not (length xs == 0) ≡ true → not (length codes == 0) ≡ true
list_codes xs codes same some = subst (λ (n : ℕ). not (n == 0) ≡ true) (sym same) some

filters_few : (xs : List Asked) → length xs ≤ length (flat_map subscription xs)
filters_few [] = omega arith
filters_few (x ∷ xs) =
    let rest = filters_few xs in
    let whole = length-append (subscription x) (flat_map subscription xs) in
    let own = length-append (blob x.filter) (x.options ∷ []) in
    omega (arith, rest, whole, own)

texts_few : (xs : List (List ℕ)) → length xs ≤ length (flat_map blob xs)
texts_few [] = omega arith
texts_few (x ∷ xs) =
    let rest = texts_few xs in
    let whole = length-append (blob x) (flat_map blob xs) in
    let own = length-append (two_bytes (length x)) x in
    omega (arith, rest, whole, own)

-- a SUBSCRIBE that is taken: its identifier, and how many filters it has
asking_taken : (p : Asking) → IsTaken (packets.Subscribe p) → IsPacketIdentifier p.identifier × (not (length p.subscriptions == 0) ≡ true) × (length p.subscriptions < 2 ^ 27)
asking_taken p taken =
    let body = subscribe_body p in
    let filters = flat_map subscription p.subscriptions in
    let short = taken.short in
    let framing = length-append (varint (length body)) body in
    let first = length-append (two_bytes p.identifier) (block p.properties ++ filters) in
    let second = length-append (block p.properties) filters in
    let few = filters_few p.subscriptions in
    let lawful = and_right (keeps_laws places.Subscribe p.properties) _ taken.spelled.2 in
    let some = and_left (nat_lt 0 p.identifier) _ lawful in
    let more = and_left (not (length p.subscriptions == 0)) _ (and_right (nat_lt 0 p.identifier) _ lawful) in
    (in_two_bytes p.identifier taken.spelled.0.0 some, more, omega (arith, short, framing, first, second, few))

giving_up_taken : (p : GivingUp) → IsTaken (packets.Unsubscribe p) → IsPacketIdentifier p.identifier × (not (length p.filters == 0) ≡ true) × (length p.filters < 2 ^ 27)
giving_up_taken p taken =
    let body = unsubscribe_body p in
    let filters = flat_map blob p.filters in
    let short = taken.short in
    let framing = length-append (varint (length body)) body in
    let first = length-append (two_bytes p.identifier) (block p.properties ++ filters) in
    let second = length-append (block p.properties) filters in
    let few = texts_few p.filters in
    let lawful = and_right (keeps_laws places.Unsubscribe p.properties) _ taken.spelled.2 in
    let some = and_left (nat_lt 0 p.identifier) _ lawful in
    let more = and_right (nat_lt 0 p.identifier) _ lawful in
    (in_two_bytes p.identifier taken.spelled.0.0 some, more, omega (arith, short, framing, first, second, few))

ack_taken : (id : ℕ) (laws : Bool) → id < 2 ^ 16 → (laws && nat_lt 0 id) ≡ true → IsPacketIdentifier id
ack_taken id laws fits lawful = in_two_bytes id fits (and_right laws (nat_lt 0 id) lawful)

in_use_codes : {X : Type 0} (xs : List X) → (are_codes kinds.Suback (map (λ x. identifier_in_use) xs) ≡ true) × (are_codes kinds.Unsuback (map (λ x. identifier_in_use) xs) ≡ true)
in_use_codes [] = (refl, refl)
in_use_codes (x ∷ xs) = in_use_codes xs

drop_code_is : (valid there : Bool) → is_code kinds.Unsuback (sub.drop_code valid there) ≡ true
drop_code_is false there = refl
drop_code_is true false = refl
drop_code_is true true = refl

drop_codes_are : (s : Session) (seen fs : List (List ℕ)) → (are_codes kinds.Unsuback (sub.drop_codes s seen fs) ≡ true) × (length (sub.drop_codes s seen fs) ≡ length fs)
drop_codes_are s seen [] = (refl, refl)
drop_codes_are s seen (f ∷ fs) =
    let rest = drop_codes_are s (f ∷ seen) fs in (
      and_both (is_code kinds.Unsuback (sub.drop_code (is_filter f) (sub.has_filter f s && not (list_any (bytes_eq f) seen)))) (are_codes kinds.Unsuback (sub.drop_codes s (f ∷ seen) fs))
          (drop_code_is (is_filter f) (sub.has_filter f s && not (list_any (bytes_eq f) seen))) rest.0,
      ap suc rest.1,
    )

said_unsubscribe : (t : Bool) (line : ℕ) (s : Session) (p : GivingUp) (b : Broker) → IsTaken (packets.Unsubscribe p) → AreSaid (sub.unsubscribe_by t line s p b)
said_unsubscribe true line s p b taken =
    let its = giving_up_taken p taken in
    let codes = map (λ f. identifier_in_use) p.filters in
    let same = length-mapped (λ f. identifier_in_use) p.filters in
    let few = its.2 in
    said_offer (line_at line b) (unsuback p.identifier codes)
    (unsuback_spelled p.identifier codes its.0 (in_use_codes p.filters).1 (list_codes p.filters codes same its.1) (omega (arith, same, few)))
said_unsubscribe false line s p b taken =
    let its = giving_up_taken p taken in
    let codes = sub.drop_codes s [] p.filters in
    let are = drop_codes_are s [] p.filters in
    let same = are.1 in
    let few = its.2 in
    each_append IsSaid (flat_map (sub.unsubscribes s) (filter (λ f. sub.has_filter f s) p.filters)) (offer (line_at line b) (unsuback p.identifier codes))
    (each_flat IsSaid (sub.unsubscribes s) (λ f. (tt, tt)) (filter (λ f. sub.has_filter f s) p.filters))
    (said_offer (line_at line b) (unsuback p.identifier codes) (unsuback_spelled p.identifier codes its.0 are.0 (list_codes p.filters codes same its.1) (omega (arith, same, few))))

-- ---- CONNACK (3.2)

said_refused : (l : Line) (c : Greeting) (code : ℕ) → IsRefusal code → AreSaid (refused l c code)
said_refused l c code is = each_append IsSaid (cond (nat_lt (largest_of c) refusal_size) [] (Send l.number (connack false code []) ∷ [])) (Gone l.number ∷ []) (by (nat_lt (largest_of c) refusal_size)) (tt, tt)
  where
    by : (t : Bool) → AreSaid (cond t [] (Send l.number (connack false code []) ∷ []))
    by true = tt
    by false = (refusal_spelled code is, tt)

said_resume : (l : Line) (c : Greeting) (now : ℕ) (s : Session) → StandsWell s → AreSaid (resume l c now s)
said_resume l c now s well = (tt, (tt, (granted_spelled true, said_turns now l.number s (resumed_with (queue_on [] s)) well.0 (resumed_turns s well.1))))

begins : (t : Bool) (l : Line) (c : Greeting) (r : Records) (b : Broker) → Says (begin_named t l c r) b
begins false l c r b h rows = (tt, (tt, (granted_spelled false, tt)))
begins true l c r b h rows = (tt, (tt, (tt, (assigned_spelled (suc r.autos) (omega arith) (ltb-false LAST_NUMBER (suc r.autos) rows.0.1), tt))))

module _ (env : Env) where
  -- ---- Wills, ends, settling and closing

  will_or_refusal : (who : Whose) (m : Message) (o : Option (List CopyTo)) (b : Broker) → IsMessage m → accepted_copies env m b ≡ o → Says (publish_or_refuse env who m o b) b
  will_or_refusal who m None b q e h rows = (tt, tt)
  will_or_refusal who m (Some ds) b q e h rows = said_publish env FromWill m ds b (accepted_copied env m ds b h.contents q e)

  of_will : (who : Whose) (o : Option Will) → IsWilledOf of_rows o → SaysAct (will_deeds env who o)
  of_will who None q b = saying [] b tt
  of_will who (Some w) q b =
      let m = will_message who.client w in
      let first = publish_or_refuse env who m (accepted_copies env m b) b in
      next first (series (always (At who DropWill ∷ []) ∷ []) (after_all first b)) b
      (will_or_refusal who m (accepted_copies env m b) b (published of_rows places.Will w.topic w.properties w.payload q) refl)
      (acts (always (At who DropWill ∷ []) ∷ []) (always_said (At who DropWill ∷ []) (tt, tt), tt) (after_all first b))

  its_will : (s : Session) → StandsWell s → SaysAct (publish_will env s)
  its_will s well b = of_will (whose s) s.will well.0.will b

  ending : (s : Session) → SaysAct (always (end_session s))
  ending s = always_said (end_session s) (said_end s)

  settling : (birth : ℕ) → SaysAct (settle env birth)
  settling birth b =
      acts (of_session birth (λ s. only_if (has_due_will b.now s) (publish_will env s)) ∷ of_session birth (λ s. only_if (has_due_end b.now s) (always (end_session s))) ∷ []) (
        on_birth birth (λ s. only_if (has_due_will b.now s) (publish_will env s)) (λ s well. if_so (has_due_will b.now s) (publish_will env s) (its_will s well)),
        (on_birth birth (λ s. only_if (has_due_end b.now s) (always (end_session s))) (λ s well. if_so (has_due_end b.now s) (always (end_session s)) (ending s)), tt),
      ) b

  closing_a_session : (keeps_will : Bool) (s : Session) → SaysAct (close_session env keeps_will s)
  closing_a_session keeps_will s b =
      acts (only_if (not keeps_will) (always (At (whose s) DropWill ∷ [])) ∷ always (At (whose s) (Close b.now) ∷ []) ∷ settle env s.birth ∷ []) (
        if_so (not keeps_will) (always (At (whose s) DropWill ∷ [])) (always_said (At (whose s) DropWill ∷ []) (tt, tt)),
        (always_said (At (whose s) (Close b.now) ∷ []) (tt, tt), (settling s.birth, tt)),
      ) b

  closing_connected : (keeps_will : Bool) (o : Option ℕ) → SaysAct (close_connected env keeps_will o)
  closing_connected keeps_will None b = saying [] b tt
  closing_connected keeps_will (Some birth) b = on_birth birth (close_session env keeps_will) (λ s well. closing_a_session keeps_will s) b

  closing : (keeps_will : Bool) (l : Line) → SaysAct (close env keeps_will l)
  closing keeps_will l b = acts (always (Gone l.number ∷ []) ∷ close_connected env keeps_will l.session ∷ []) (always_said (Gone l.number ∷ []) (tt, tt), (closing_connected keeps_will l.session, tt)) b

  dropping : (code : ℕ) (l : Line) → is_code kinds.Disconnect code ≡ true → SaysAct (drop_line env code l)
  dropping code l is b =
      acts (always (Send l.number (disconnect code) ∷ []) ∷ close env true l ∷ []) (always_said (Send l.number (disconnect code) ∷ []) (disconnect_spelled code is, tt), (closing true l, tt)) b

  -- ---- CONNECT

  taking_over : (s : Session) → SaysAct (take_over env s)
  taking_over s b = on_a_line (line_of s.birth b) (drop_line env session_taken_over) (λ l. dropping session_taken_over l refl) b

  clearing : (s : Session) → StandsWell s → SaysAct (clear env s)
  clearing s well b = acts (publish_will env s ∷ of_client s.client (λ t. always (end_session t)) ∷ []) (its_will s well, (on_client s.client (λ t. always (end_session t)) (λ t its. ending t), tt)) b

  preparing : (c : Greeting) → SaysAct (prepare env c)
  preparing c b =
      acts (of_client c.client_identifier (take_over env) ∷ of_client c.client_identifier (λ s. settle env s.birth) ∷ only_if c.clean_start (of_client c.client_identifier (clear env)) ∷ []) (
        on_client c.client_identifier (take_over env) (λ s well. taking_over s),
        (
          on_client c.client_identifier (λ s. settle env s.birth) (λ s well. settling s.birth),
          (if_so c.clean_start (of_client c.client_identifier (clear env)) (on_client c.client_identifier (clear env) clearing), tt),
        ),
      ) b

  says_cond : (t : Bool) (xs ys : List Deed) (b : Broker) → Says xs b → Says ys b → Says (cond t xs ys) b
  says_cond true xs ys b p q = p
  says_cond false xs ys b p q = q

  joining : (l : Line) (c : Greeting) (now : ℕ) (ds : List Deed) (o : Option Session) (b : Broker) → session_named c.client_identifier (after_all ds b).records ≡ o → Says ds b → Says (joins env l c now ds (after_all ds b).records o) b
  joining l c now ds (Some s) b e q = next ds (resume l c now s) b q (λ h rows. said_resume l c now s (well_found (λ x. bytes_eq x.client c.client_identifier) s (after_all ds b).records h e))
  joining l c now ds None b e q =
      let r = (after_all ds b).records in
      says_cond (nat_lt (length r.sessions) env.limits.sessions) (ds ++ begin_named (is_empty c.client_identifier) l c r) (refused l c quota_exceeded) b
      (next ds (begin_named (is_empty c.client_identifier) l c r) b q (begins (is_empty c.client_identifier) l c r (after_all ds b)))
      (saying (refused l c quota_exceeded) b (said_refused l c quota_exceeded refl))

  connecting : (o : Option ℕ) (l : Line) (c : Greeting) (b : Broker) → refusal c b.records ≡ o → Says (connect_by o env l c b) b
  connecting (Some code) l c b e = saying (refused l c code) b (said_refused l c code (refusal_code c b.records code e))
  connecting None l c b e =
      let ds = prepare env c b in
      joining l c b.now ds (session_named c.client_identifier (after_all ds b).records) b refl (preparing c b)

  -- ---- PUBLISH

  publishing_new : (l : Line) (s : Session) (p : Publication) (m : Message) (o : Option (List CopyTo)) (b : Broker) → IsDelivered p.delivery → IsMessage m → accepted_copies env m b ≡ o → Says (publish_new env l s p m o b) b
  publishing_new l s p m None b d q e = saying (answer l.number p.delivery quota_exceeded) b (said_answer l.number p.delivery quota_exceeded d refl refl)
  publishing_new l s p m (Some ds) b d q e =
      let first = publish env FromClient m ds b in
      let wanted = is_wanted env m b.records in
      let told = answer l.number p.delivery (code_accepted wanted) in
      next first (series (always (opens s p.delivery) ∷ always told ∷ []) (after_all first b)) b (λ h rows. said_publish env FromClient m ds b (accepted_copied env m ds b h.contents q e))
      (acts (always (opens s p.delivery) ∷ always told ∷ []) (always_said (opens s p.delivery) (said_opens s p.delivery), (always_said told (said_accepted l.number p.delivery wanted d), tt)) (after_all first b))

  publishing_by : (x : Published) (l : Line) (s : Session) (p : Publication) (m : Message) → IsDelivered p.delivery → IsMessage m → SaysAct (publish_by x env l s p m)
  publishing_by Again l s p m d q b = saying (answer l.number p.delivery (code_again p.delivery)) b (said_again l.number p.delivery d)
  publishing_by Over l s p m d q b = dropping receive_maximum_exceeded l refl b
  publishing_by New l s p m d q b = publishing_new l s p m (accepted_copies env m b) b d q refl

  publishing : (x : Meaning) (l : Line) (s : Session) (p : Publication) → meaning p l.aliases ≡ x → IsTaken (packets.Publish p) → HasTopics l → SaysAct (publish_meant x env l s p)
  publishing (Wrong code) l s p e taken topics b = dropping code l (subst IsMeaning e (means_well p l.aliases)) b
  publishing (Means topic) l s p e taken topics b =
      let sets = sets_alias (is_empty p.topic) (number_at TopicAlias p.properties) l.number topic in
      let m = message_of s.client topic p in
      acts (always sets ∷ publish_by (standing p.delivery s.inbound) env l s p m ∷ []) (
        always_said sets (said_alias (is_empty p.topic) (number_at TopicAlias p.properties) l.number topic),
        (publishing_by (standing p.delivery s.inbound) l s p m (delivered_by p taken) (sent_content of_rows rows_are p l.aliases topic taken topics e), tt),
      ) b

  -- ---- a receiver's answers, and DISCONNECT

  answering : (a : Answer) (l : Line) (s : Session) → StandsWell s → IsAnswer a → SaysAct (on_answer a env l s)
  answering (Ok None) l s well q b = saying [] b tt
  answering (Ok (Some t)) l s well q b = saying (turn_deeds b.now l.number s t) b (said_turn b.now l.number s t well.0 q)
  answering (Err fault) l s well q b = dropping protocol_error l refl b

  leaving : (t : Bool) (l : Line) (s : Session) (code : ℕ) (o : Option ℕ) → SaysAct (leave_by t env l s code o)
  leaving true l s code o b = dropping protocol_error l refl b
  leaving false l s code o b = acts (always (new_expiry o s) ∷ close env _ l ∷ []) (always_said (new_expiry o s) (said_expiry o s), (closing _ l, tt)) b

  -- ---- SUBSCRIBE

  abbrev AnswersWell : sub.FilterAnswer → Type 0
  AnswersWell g = AreSaid g.deeds × AllByRecursion IsLate g.late × (is_code kinds.Suback g.code ≡ true)

  qos_code : (q : Qos) → is_code kinds.Suback (qos_number q) ≡ true
  qos_code qos.AtMostOnce = refl
  qos_code qos.AtLeastOnce = refl
  qos_code qos.ExactlyOnce = refl

  answered : (valid fits : Bool) (s : Session) (w : sub.Wish) (b : Broker) → IsIdentifier w.identifier → IsFine b.records → AnswersWell (sub.answer_by valid fits env (sub.next_number b.records) s w (brought_to w s b) b)
  answered false fits s w b q h = (tt, tt, refl)
  answered true false s w b q h = (tt, tt, refl)
  answered true true s w b q h =
      let number = sub.next_number b.records in
      let ds = brought_to w s b in
      let copies = brought_copied (not (begins_share w.filter) && sub.wants_retained w.options.retain_handling (sub.has_filter w.filter s)) b.now number s w b.records.retained q h.contents.retained in
      let first : List Deed = Count number ∷ At (whose s) (deeds.Subscribe (sub.subscription number s w)) ∷ [] in
      ((tt, (tt, said_deliveries env (filter is_queued ds) (after_all first b) (each_filter IsCopiedTo is_queued ds copies))), late_copies ds copies, qos_code w.options.qos)

  filter_told : (identifier : Option ℕ) (text : List ℕ) (o : Option SubscriptionOptions) (b : Broker) (x : Option Session) → IsIdentifier identifier → IsFine b.records → AnswersWell (sub.filter_answer_of env (sub.wish_by text identifier o) b x)
  filter_told identifier text None b None q h = (tt, tt, refl)
  filter_told identifier text (Some options) b None q h = (tt, tt, refl)
  filter_told identifier text None b (Some s) q h = (tt, tt, refl)
  filter_told identifier text (Some options) b (Some s) q h =
      let w : sub.Wish = record { filter = text; options = options; identifier = identifier } in
      answered (is_filter text) ((sub.has_filter text s || nat_lt (length s.subscriptions) SUBSCRIPTION_LIMIT) && nat_le (length (filter is_queued (brought_to w s b))) _) s w b q h

  abbrev AllAnswerWell : sub.FilterAnswers → ℕ → Type 0
  AllAnswerWell a n = AreSaid a.deeds × AllByRecursion IsLate a.late × (are_codes kinds.Suback a.codes ≡ true) × (length a.codes ≡ n)

  filters_told : (birth : ℕ) (identifier : Option ℕ) (xs : List Asked) (b : Broker) → IsIdentifier identifier → IsFine b.records → Writes (sub.filter_answers env birth identifier xs b).deeds b
      → AllAnswerWell (sub.filter_answers env birth identifier xs b) (length xs)
  filters_told birth identifier [] b q h rows = (tt, tt, refl, refl)
  filters_told birth identifier (a ∷ rest) b q h rows =
      let g = sub.filter_answer_of env (sub.wish_of identifier a) b (session_at birth b.records) in
      let c = after_all g.deeds b in
      let all = sub.filter_answers env birth identifier rest c in
      let parts = writes_split g.deeds all.deeds b rows in
      let one = filter_told identifier a.filter (options_of a.options) b (session_at birth b.records) q h in
      let more = filters_told birth identifier rest c q (fine_all g.deeds b h parts.0 one.0) parts.1 in
      (each_append IsSaid g.deeds all.deeds one.0 more.0, each_append IsLate g.late all.late one.1 more.1, and_both (is_code kinds.Suback g.code) (are_codes kinds.Suback all.codes) one.2 more.2, ap suc more.3)

  all_late : (line : ℕ) (ds : List CopyTo) (b : Broker) → AllByRecursion IsLate ds → AreSaid (series (map (sub.late_send line) ds) b)
  all_late line [] b h = tt
  all_late line (d ∷ ds) b h =
      let first = sub.late_send line d b in
      let c = after_all first b in
      each_append IsSaid first (series (map (sub.late_send line) ds) c) (said_late (line_at line b) d b h.0) (all_late line ds c h.1)

  subscribing : (t : Bool) (line : ℕ) (s : Session) (p : Asking) (b : Broker) → IsTaken (packets.Subscribe p) → Says (sub.subscribe_by t env line s p b) b
  subscribing true line s p b taken h rows =
      let its = asking_taken p taken in
      let codes = map (λ a. identifier_in_use) p.subscriptions in
      let same = length-mapped (λ a. identifier_in_use) p.subscriptions in
      let few = its.2 in
      said_offer (line_at line b) (suback p.identifier codes)
      (suback_spelled p.identifier codes its.0 (in_use_codes p.subscriptions).0 (list_codes p.subscriptions codes same its.1) (omega (arith, same, few)))
  subscribing false line s p b taken h rows =
      let a = sub.filter_answers env s.birth (number_at SubscriptionIdentifier p.properties) p.subscriptions b in
      let told = offer (line_at line b) (suback p.identifier a.codes) in
      let c = after_all (a.deeds ++ told) b in
      let late = series (map (sub.late_send line) a.late) c in
      let its = asking_taken p taken in
      let parts = writes_split (a.deeds ++ told) late b rows in
      let first = writes_split a.deeds told b parts.0 in
      let all = filters_told s.birth (number_at SubscriptionIdentifier p.properties) p.subscriptions b (asked_identifier p taken) h first.0 in
      let same = all.3 in
      let few = its.2 in
      each_append IsSaid (a.deeds ++ told) late
      (each_append IsSaid a.deeds told all.0
      (said_offer (line_at line b) (suback p.identifier a.codes) (suback_spelled p.identifier a.codes its.0 all.2 (list_codes p.subscriptions a.codes same its.1) (omega (arith, same, few)))))
      (all_late line a.late c all.1)

  -- ---- tick

  abbrev SaysOption : Option Act → Type 0
  SaysOption None = ⊤
  SaysOption (Some act) = SaysAct act

  mapped : {X : Type 0} (f : X → Act) (o : Option X) → ((x : X) → o ≡ Some x → SaysAct (f x)) → SaysOption (option_map f o)
  mapped f None h = tt
  mapped f (Some x) h = h x refl

  first_told : (os : List (Option Act)) → AllByRecursion SaysOption os → SaysOption (first_due os)
  first_told [] h = tt
  first_told (Some act ∷ rest) h = h.0
  first_told (None ∷ rest) h = first_told rest h.1

  silent : (o : Option ℕ) (l : Line) → SaysAct (silence env o l)
  silent None l b = closing true l b
  silent (Some birth) l b = dropping keep_alive_timeout l refl b

  due_told : (b : Broker) → IsFine b.records → SaysOption (due env b)
  due_told b fine =
      let lines = find (λ (l : Line). is_silent b.now l.session l) b.lines in
      let wills = find (has_due_will b.now) b.records.sessions in
      let ends = find (has_due_end b.now) b.records.sessions in
      let kept = find (is_stale b.now) b.records.retained in
      let waiting = find (has_lapsed b.now) b.records.sessions in
      let all : List (Option Act) = option_map (λ (l : Line). silence env l.session l) lines ∷ option_map (publish_will env) wills ∷ option_map (λ (s : Session). always (end_session s)) ends
      ∷ option_map (λ (k : RetainedMessage). always (Forget k.place ∷ [])) kept ∷ option_map (λ (s : Session). always (lapse_deeds b.now s)) waiting ∷ [] in
      let each : AllByRecursion SaysOption all = (
        mapped (λ (l : Line). silence env l.session l) lines (λ l e. silent l.session l),
        (
          mapped (publish_will env) wills (λ s e. its_will s (well_found (has_due_will b.now) s b.records fine e)),
          (
            mapped (λ (s : Session). always (end_session s)) ends (λ s e. ending s),
            (
              mapped (λ (k : RetainedMessage). always (Forget k.place ∷ [])) kept (λ k e. always_said (Forget k.place ∷ []) (tt, tt)),
              (mapped (λ (s : Session). always (lapse_deeds b.now s)) waiting (λ s e. always_said (lapse_deeds b.now s) (said_leaves s (lapses b.now s))), tt),
            ),
          ),
        ),
      ) in
      first_told all each

  ticking : (o : Option Act) → SaysOption o → SaysAct (on_tick o)
  ticking None q b = saying [] b tt
  ticking (Some act) q b = q b

  -- ---- packets

  first_read : (l : Line) (packet : Packet) → SaysAct (first_packet env l packet)
  first_read l (packets.Connect c) b = connecting (refusal c b.records) l c b refl
  first_read l packet b = closing true l b

  next_read : (l : Line) (packet : Packet) (s : Session) → IsTaken packet → HasTopics l → StandsWell s → SaysAct (next_packet env l packet s)
  next_read l (packets.Publish p) s taken topics well b = publishing (meaning p l.aliases) l s p refl taken topics b
  next_read l (packets.Puback a) s taken topics well b = answering (rules.puback a.identifier a.reason.0 (queue_on l.went s)) l s well (puback_turn a.identifier a.reason.0 (queue_on l.went s)) b
  next_read l (packets.Pubrec a) s taken topics well b =
      answering (rules.pubrec a.identifier a.reason.0 (queue_on l.went s)) l s well (pubrec_turn a.identifier a.reason.0 l.went s (ack_taken a.identifier _ taken.spelled.0.0 taken.spelled.2) well.1) b
  next_read l (packets.Pubrel a) s taken topics well b =
      saying (release_by (answer_to_release a.identifier s.inbound) l s a.identifier) b (said_release (answer_to_release a.identifier s.inbound) l s a.identifier (ack_taken a.identifier _ taken.spelled.0.0 taken.spelled.2))
  next_read l (packets.Pubcomp a) s taken topics well b = answering (rules.pubcomp a.identifier (queue_on l.went s)) l s well (pubcomp_turn a.identifier (queue_on l.went s)) b
  next_read l (packets.Subscribe p) s taken topics well b = subscribing (is_among p.identifier s.inbound) l.number s p b taken
  next_read l (packets.Unsubscribe p) s taken topics well b = saying _ b (said_unsubscribe (is_among p.identifier s.inbound) l.number s p b taken)
  next_read l packets.Pingreq s taken topics well b = saying (Send l.number packets.Pingresp ∷ []) b ((tt, omega arith, refl), tt)
  next_read l (packets.Disconnect n) s taken topics well b = leaving _ l s n.reason.0 _ b
  next_read l packet s taken topics well b = dropping protocol_error l refl b

  reading : (l : Line) (packet : Packet) (o : Option ℕ) → IsTaken packet → HasTopics l → SaysAct (on_packet env l packet o)
  reading l packet None taken topics b = first_read l packet b
  reading l packet (Some birth) taken topics b = on_birth birth (next_packet env l packet) (λ s well. next_read l packet s taken topics well) b

  -- ---- calls

  -- a code that tells of a fault may stand in CONNACK, and in DISCONNECT as it is told later
  fault_codes : (fault : Fault) → IsRefusal (code_of (answer_to fault)) × (is_code kinds.Disconnect (late_code (code_of (answer_to fault))) ≡ true)
  fault_codes faults.Malformed = (refl, refl)
  fault_codes faults.Protocol = (refl, refl)
  fault_codes faults.TooLarge = (refl, refl)
  fault_codes faults.Version = (refl, refl)
  fault_codes faults.Memory = (refl, refl)

  at_fault : (l : Line) (t : Bool) (code : ℕ) (o : Option ℕ) → IsRefusal code → is_code kinds.Disconnect (late_code code) ≡ true → SaysAct (on_fault env l t code o)
  at_fault l true code None is late b =
      acts (always (Send l.number (connack false code []) ∷ []) ∷ close env true l ∷ []) (always_said (Send l.number (connack false code []) ∷ []) (refusal_spelled code is, tt), (closing true l, tt)) b
  at_fault l false code None is late b = closing true l b
  at_fault l true code (Some birth) is late b = dropping (late_code code) l late b
  at_fault l false code (Some birth) is late b = dropping (late_code code) l late b

  pumping : (l : Line) (o : Option ℕ) (b : Broker) → IsOrdered b.records → Says (on_pump l o b) b
  pumping l None b ordered h rows = tt
  pumping l (Some birth) b ordered h rows =
      on_session (session_at birth b.records) (λ s. always (pump_deeds l b s)) b
      (λ s e. let well = well_at birth s b.records h e in
      let size = size_at (fitted l b.now (told_on l.number b.tellings) s.queue) in
      let few = (all_at birth_of HasTables birth s b.records.sessions ordered.each e).queue.within in
      saying (pump_deeds l b s) b (said_turns b.now l.number s (pump_turns l b s) well.0 (pumped_turns (way_of l b.now) size l.went s well.1 few))) h rows

  on_its_line : (o : Option Line) (f : Line → Act) (b : Broker) → ((l : Line) → o ≡ Some l → Says (f l b) b) → Says (with_line o f b) b
  on_its_line None f b q = saying [] b tt
  on_its_line (Some l) f b q = q l refl

  -- what a call with a lawful packet sends has a spelling
  pub call_said : (call : Call) (b : Broker) → TakesLawful call → TellsFault call → AllByRecursion HasTopics b.lines → IsOrdered b.records → Says (deeds_of env call b) b
  call_said NewLine b taken tells topics ordered = says_cond (can_link env.limits b) (Link (suc b.given) ∷ []) [] b (saying (Link (suc b.given) ∷ []) b (tt, tt)) (saying [] b tt)
  call_said (Input n packet) b taken tells topics ordered =
      on_its_line (line_at n b) (λ l. series (always (On n Hear ∷ []) ∷ on_packet env l packet l.session ∷ [])) b
      (λ l e. acts (always (On n Hear ∷ []) ∷ on_packet env l packet l.session ∷ []) (always_said (On n Hear ∷ []) (tt, tt), (reading l packet l.session taken (all_among HasTopics l b.lines topics (found_among _ l b.lines e)), tt)) b)
  call_said (BadInput n is_connect code) b taken tells topics ordered =
      let are = fault_codes tells.0 in
      on_a_line (line_at n b) (λ l. on_fault env l is_connect code l.session)
      (λ l. at_fault l is_connect code l.session (subst IsRefusal (sym tells.1) are.0) (subst (λ (x : ℕ). is_code kinds.Disconnect (late_code x) ≡ true) (sym tells.1) are.1)) b
  call_said (Lost n) b taken tells topics ordered = on_a_line (line_at n b) (close env true) (closing true) b
  call_said (Pump n) b taken tells topics ordered = on_its_line (line_at n b) (λ l. on_pump l l.session) b (λ l e. pumping l l.session b ordered)
  call_said Tick b taken tells topics ordered = λ h rows. ticking (due env b) (due_told b h) b h rows

  -- ---- openings

  shutting : (s : Session) → SaysAct (shuts s)
  shutting s b = saying (At (whose s) (Close b.now) ∷ []) b (tt, tt)

  each_act : {X : Type 0} (f : X → Act) → ((x : X) → SaysAct (f x)) → (xs : List X) → AllByRecursion SaysAct (map f xs)
  each_act f h [] = tt
  each_act f h (x ∷ xs) = (h x, each_act f h xs)

  -- what an opening sends has a spelling
  pub opening_said : SaysAct (opening env)
  opening_said b =
      let ss = connected_in b.records in
      acts (shuts_all ss ∷ settles_all env ss ∷ []) (acts (map shuts ss) (each_act shuts shutting ss), (acts (map (settles env) ss) (each_act (settles env) (λ s. settling s.birth) ss), tt)) b
