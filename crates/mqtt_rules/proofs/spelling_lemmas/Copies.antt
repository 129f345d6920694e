-- The copies of publications and of retained messages, and what goes out of them at once (MQTT 5.0, 3.3.1.3, 3.3.4).
use Rattle.std.proofs.Common.{◌≡◌, ℕ, ◌≤◌, Bool, true, false, cond, not, List, [], ◌∷◌, filter, length, map, Option, Some, None, refl, subst, arith, inl, inr}
use Rattle.std.specs.Prelude.{flat_map, option_map}
use Rattle.std.specs.List.{AllByRecursion}
use Rattle.std.proofs.lemmas.Bool.{cases_Bool}
use Rattle.mqtt_base.specs.declared.limits.TheConstants.{SUBSCRIPTION_LIMIT}
use Rattle.mqtt_base.specs.declared.session.Cause.{Cause}
use Rattle.mqtt_base.specs.declared.session.Cause.TheVariants.{Direct, Share}
use Rattle.mqtt_base.specs.declared.session.Qos.{Qos}
use Rattle.mqtt_base.specs.declared.session.Qos.TheVariants as qos
use Rattle.mqtt_packet.specs.codec.Packets.{HasSpelling}
use Rattle.mqtt_packet.specs.declared.codec.packet.Packet.{Packet}
use Rattle.mqtt_flow.specs.outbound.Outbound.{way_made}
use Rattle.mqtt_flow.specs.declared.outbound.entry.Turn.{Turn}
use Rattle.mqtt_flow.specs.declared.outbound.entry.Turn.TheVariants as turns
use Rattle.mqtt_keep.specs.lawful.Lawful.{IsIdentifier}
use Rattle.mqtt_records.specs.messages.Queue.{CopyRow}
use Rattle.mqtt_records.specs.declared.messages.message.MessageCopy.{MessageCopy}
use Rattle.mqtt_records.specs.declared.messages.message.RetainedMessage.{RetainedMessage}
use Rattle.mqtt_props.specs.declared.place.Place.TheVariants as places
use Rattle.mqtt_records.specs.state.Session.{copy_place}
use Rattle.mqtt_records.specs.declared.state.session.Session.{Session}
use Rattle.mqtt_records.specs.declared.state.subscription.Subscription.{Subscription}
use Rattle.mqtt_routes.specs.routing.Acceptance.{Served, Routed, copies_in}
use Rattle.mqtt_routes.specs.routing.Intended.{Copy}
use Rattle.mqtt_routes.specs.routing.Retained.{kept_for}
use Rattle.mqtt_routes.specs.routing.Subscriptions.{Subscriber}
use Rattle.mqtt_routes.specs.declared.routing.retained.Kept.{Kept}
use Rattle.mqtt_routes.specs.declared.routing.subscription.Subscription.{Subscription as RoutedSubscription}
use Rattle.mqtt_records.specs.lists.Order.{row_at}
use Rattle.mqtt_topic.specs.names.Names.{is_empty}
use Rattle.mqtt_rules.specs.step.Contents.{AreIdentifiersOf, HasContentsOf, HasLawfulContentsOf, IsAskedFor, IsContentOf, IsCopiedOf, IsPublishedOf, of_rows}
use Rattle.mqtt_rules.specs.step.Deeds.{whose, Message, Origin, Enter, Leave, Deed, Accept, At, Send, after, after_all, always, offer, series, with_session}
use Rattle.mqtt_rules.specs.step.Fitting.{has_form, offer_copy}
use Rattle.mqtt_rules.specs.step.Outbound.{enter_deeds, leave_deeds, of_entry, queue_limits, since}
use Rattle.mqtt_rules.specs.step.Packets.{publish_of}
use Rattle.mqtt_rules.specs.step.Routing.{CopyTo, accepted_copies, accepted_if, answers, copies_to, copy_to, deliver, deliver_by, finds_place, forgets, is_queued, is_queued_at, next_publication, publication_of, publish, retain_by, retained_of, routed_subscription, routing_of, served_copies_to, subscriber_of, subscribers}
use Rattle.mqtt_rules.specs.step.State.{Broker, Env, Line, line_of, queue_on, session_at}
use Rattle.mqtt_rules.specs.step.Subscribe as sub
use Rattle.mqtt_rules.proofs.step_lemmas.acts.Offers.{of_offer_if}
use Rattle.mqtt_rules.proofs.step_lemmas.contents.ContentCopies.{AreNumbered, IsIdentified, IsRoutedWell, routed_identified}
use Rattle.mqtt_rules.proofs.step_lemmas.numbers.Copies.{each_append, each_filter, each_flat, each_map, each_more}
use Rattle.mqtt_rules.proofs.step_lemmas.order.OrderedQueues.{length-mapped}
use Rattle.mqtt_rules.proofs.step_lemmas.contents.SpelledContents.{rows_are}
use Rattle.mqtt_rules.proofs.spelling_lemmas.Fine.{AreSaid, IsSaid}
use Rattle.mqtt_rules.proofs.spelling_lemmas.Packets.{IsIdentifierAt, publish_spelled}

-- ---- copies that are lawful

abbrev pub IsMessage : Message → Type 0
IsMessage m = IsContentOf of_rows places.Publish m.topic m.properties m.payload

abbrev pub IsCopiedTo : CopyTo → Type 0
IsCopiedTo d = IsCopiedOf of_rows d.copy

-- one that goes out at once
abbrev pub IsLate : CopyTo → Type 0
IsLate d = IsCopiedTo d × (is_queued d ≡ false)

abbrev IsIdentifiedCopy : Copy → Type 0
IsIdentifiedCopy = IsIdentified of_rows rows_are

abbrev IsNumbered : Subscriber → Type 0
IsNumbered = AreNumbered of_rows rows_are

abbrev IsRoutedCopy : Routed → Type 0
IsRoutedCopy = IsRoutedWell of_rows rows_are

copies_made : (number now : ℕ) (m : Message) (r : Routed) → IsMessage m → IsRoutedCopy r → AllByRecursion IsCopiedTo (copies_to number now m r)
copies_made number now m r q h =
    each_append IsCopiedTo (map (copy_to number now m Direct) r.direct) (flat_map (served_copies_to number now m) r.served)
    (all_to Direct r.direct h.direct) (all_served r.served h.served)
  where
    all_to : (cause : Cause) (cs : List Copy) → AllByRecursion IsIdentifiedCopy cs → AllByRecursion IsCopiedTo (map (copy_to number now m cause) cs)
    all_to cause [] h = tt
    all_to cause (c ∷ cs) h = (record { content = q; identifiers = h.0 }, all_to cause cs h.1)

    all_served : (ss : List Served) → AllByRecursion (λ s. AllByRecursion IsIdentifiedCopy (copies_in s.copy)) ss → AllByRecursion IsCopiedTo (flat_map (served_copies_to number now m) ss)
    all_served [] h = tt
    all_served (s ∷ ss) h =
        each_append IsCopiedTo (served_copies_to number now m s) (flat_map (served_copies_to number now m) ss) (all_to (Share s.group) (copies_in s.copy) h.0) (all_served ss h.1)

made_if : (t : Bool) (number now : ℕ) (m : Message) (o : Option Routed) (ds : List CopyTo) → IsMessage m → ((r : Routed) → o ≡ Some r → IsRoutedCopy r)
    → accepted_if t (option_map (copies_to number now m) o) ≡ Some ds → AllByRecursion IsCopiedTo ds
made_if false number now m o ds q h e = absurd cc
made_if true number now m None ds q h e = absurd cc
made_if true number now m (Some r) ds q h e =
    let same : copies_to number now m r ≡ ds = cc in
    subst (λ (xs : List CopyTo). AllByRecursion IsCopiedTo xs) same (copies_made number now m r q (h r refl))

subscriber_numbered : (s : Session) → HasContentsOf of_rows s → IsNumbered (subscriber_of s)
subscriber_numbered s h = (numbers s.subscriptions h.subscriptions, few s.subscriptions h.table.within)
  where
    numbers : (xs : List Subscription) → AllByRecursion IsAskedFor xs → AllByRecursion (λ (x : RoutedSubscription). IsIdentifier x.identifier) (map routed_subscription xs)
    numbers [] h = tt
    numbers (x ∷ xs) h = (h.0.identifier, numbers xs h.1)

    few : (xs : List Subscription) → length xs ≤ SUBSCRIPTION_LIMIT → length (map routed_subscription xs) ≤ SUBSCRIPTION_LIMIT
    few xs le = let same = length-mapped routed_subscription xs in omega (arith, same, le)

-- of an accepted publication
pub accepted_copied : (env : Env) (m : Message) (ds : List CopyTo) (b : Broker) → HasLawfulContentsOf of_rows b.records → IsMessage m → accepted_copies env m b ≡ Some ds → AllByRecursion IsCopiedTo ds
accepted_copied env m ds b h q e =
    let number = next_publication b.records in
    let numbered = each_map IsNumbered subscriber_of b.records.sessions (each_more (HasContentsOf of_rows) (λ s. IsNumbered (subscriber_of s)) subscriber_numbered b.records.sessions h.sessions) in
    made_if (finds_place env m b.records) number b.now m (routing_of env m b.records) ds q
    (λ r is. routed_identified of_rows rows_are (answers env b.records) (publication_of m) (env.choice number m.sender) (subscribers b.records) r numbered is) e

-- of the retained messages that a filter brings
abbrev Retains : RetainedMessage → Type 0
Retains k = IsPublishedOf of_rows k.content

wish_identified : (o : Option ℕ) → IsIdentifier o → AreIdentifiersOf of_rows (sub.identifiers_of o)
wish_identified None q = record { each = tt; few = omega arith }
wish_identified (Some n) q = record { each = (q, tt); few = omega arith }

-- what a subscription brings are copies of retained messages
pub brought_copied : (t : Bool) (now number : ℕ) (s : Session) (w : sub.Wish) (ks : List RetainedMessage) → IsIdentifier w.identifier → AllByRecursion Retains ks
    → AllByRecursion IsCopiedTo (sub.brought_if t now number s w ks)
brought_copied false now number s w ks q h = tt
brought_copied true now number s w ks q h =
    let tabled = each_map (λ (y : Kept RetainedMessage). Retains (sub.message_in y)) sub.kept_of ks h in
    let matched = each_filter (λ (y : Kept RetainedMessage). Retains (sub.message_in y)) _ (map sub.kept_of ks) tabled in
    let messages = each_map Retains sub.message_in (kept_for w.filter (map sub.kept_of ks)) matched in
    let all = filter (sub.is_brought now s w) (map sub.message_in (kept_for w.filter (map sub.kept_of ks))) in
    let fit = each_filter Retains (sub.is_brought now s w) (map sub.message_in (kept_for w.filter (map sub.kept_of ks))) messages in
    each_map IsCopiedTo (sub.retained_copy_to s.birth number w) all
    (each_more Retains (λ k. IsCopiedTo (sub.retained_copy_to s.birth number w k)) (λ k p. record { content = p; identifiers = wish_identified w.identifier q }) all fit)

-- those that go out behind the SUBACK are of QoS 0
pub late_copies : (ds : List CopyTo) → AllByRecursion IsCopiedTo ds → AllByRecursion IsLate (filter (λ d. not (is_queued d)) ds)
late_copies [] h = tt
late_copies (d ∷ ds) h = elim (cases_Bool (is_queued d)) [
  | inl queued ↦ rw queued (late_copies ds h.1)
  | inr late ↦ rw late ((h.0, late), late_copies ds h.1)
]

-- ---- deeds

at_once : (q : Qos) (id : ℕ) → is_queued_at q ≡ false → IsIdentifierAt q id
at_once qos.AtMostOnce id h = tt
at_once qos.AtLeastOnce id h = absurd cc
at_once qos.ExactlyOnce id h = absurd cc

-- an offer of a packet with a spelling says such packets
pub said_offer : (o : Option Line) (packet : Packet) → HasSpelling packet → AreSaid (offer o packet)
said_offer None packet q = tt
said_offer (Some l) packet q = by _
  where
    by : (t : Bool) → AreSaid (cond t (Send l.number packet ∷ []) [])
    by true = (q, tt)
    by false = tt

-- so does that of a copy behind the SUBACK
pub said_late : (o : Option Line) (d : CopyTo) (b : Broker) → IsLate d → AreSaid (offer_copy o d.copy b)
said_late o d b h =
    of_offer_if AreSaid (has_form d.copy b) o (publish_of b.now false 0 d.copy) tt (λ l there. (publish_spelled b.now false 0 d.copy h.0 (at_once d.copy.qos 0 h.1), tt))

said_entry : (o : Option CopyRow) (f : CopyRow → List Deed) → ((e : CopyRow) → AreSaid (f e)) → AreSaid (of_entry o f)
said_entry None f h = tt
said_entry (Some e) f h = h e

-- a copy's leaving says nothing
pub said_leave : (s : Session) (t : Turn) → AreSaid (leave_deeds s t)
said_leave s (turns.Leave place ending) = said_entry (row_at copy_place place s.queue) (λ e. At (whose s) (Leave e ending) ∷ []) (λ e. (tt, tt))
said_leave s (turns.Send place id) = tt
said_leave s (turns.Resend place id) = tt
said_leave s (turns.Release place id order) = tt
said_leave s (turns.Outgrow place id order) = tt
said_leave s (turns.Repeat id) = tt
said_leave s (turns.Unknown id) = tt

-- nor does that of many
pub said_leaves : (s : Session) (ts : List Turn) → AreSaid (flat_map (leave_deeds s) ts)
said_leaves s ts = each_flat IsSaid (leave_deeds s) (said_leave s) ts

said_enter : (env : Env) (copy : MessageCopy) (s : Session) → AreSaid (enter_deeds env copy s)
said_enter env copy s =
    let ts = way_made (queue_limits env) (since env s) (queue_on [] s) in
    each_append IsSaid (flat_map (leave_deeds s) ts) (At (whose s) (Enter copy) ∷ []) (said_leaves s ts) (tt, tt)

said_deliver : (t : Bool) (env : Env) (d : CopyTo) (b : Broker) → is_queued d ≡ t → IsCopiedTo d → AreSaid (deliver_by t env d b)
said_deliver true env d b is q = by (session_at d.birth b.records)
  where
    by : (o : Option Session) → AreSaid (with_session o (λ s. always (enter_deeds env d.copy s)) b)
    by None = tt
    by (Some s) = said_enter env d.copy s
said_deliver false env d b is q = said_late (line_of d.birth b) d b (q, is)

-- deliveries say packets with a spelling
pub said_deliveries : (env : Env) (ds : List CopyTo) (b : Broker) → AllByRecursion IsCopiedTo ds → AreSaid (series (map (deliver env) ds) b)
said_deliveries env [] b h = tt
said_deliveries env (d ∷ ds) b h =
    let first = deliver env d b in
    let c = after_all first b in
    each_append IsSaid first (series (map (deliver env) ds) c) (said_deliver (is_queued d) env d b refl h.0) (said_deliveries env ds c h.1)

said_forgets : (o : Option RetainedMessage) → AreSaid (forgets o)
said_forgets None = tt
said_forgets (Some k) = (tt, tt)

said_retain : (retain empty : Bool) (number : ℕ) (m : Message) (b : Broker) → AreSaid (retain_by retain empty number m b)
said_retain false empty number m b = tt
said_retain true true number m b = said_forgets (retained_of m.topic b.records)
said_retain true false number m b = (tt, tt)

-- so does a publication
pub said_publish : (env : Env) (origin : Origin) (m : Message) (ds : List CopyTo) (b : Broker) → AllByRecursion IsCopiedTo ds → AreSaid (publish env origin m ds b)
said_publish env origin m ds b h =
    let number = next_publication b.records in
    let c = after (Accept number origin m) b in
    let kept = retain_by m.retain (is_empty m.payload) number m c in
    let all = series (map (deliver env) ds) (after_all kept c) in
    (tt, each_append IsSaid kept all (said_retain m.retain (is_empty m.payload) number m c) (said_deliveries env ds (after_all kept c) h))
