-- Copies of publications and of retained messages name their topics, and so does what goes out of them.
use Rattle.mqtt_base.specs.declared.session.Cause.TheVariants.{Direct, Share}
use Rattle.mqtt_base.specs.declared.session.Cause.{Cause}
use Rattle.mqtt_base.specs.declared.session.Phase.TheVariants.{Sent}
use Rattle.mqtt_packet.specs.declared.codec.packet.Packet.{Packet}
use Rattle.mqtt_flow.specs.outbound.Outbound.{way_made}
use Rattle.mqtt_flow.specs.declared.outbound.entry.Turn.TheVariants as turns
use Rattle.mqtt_flow.specs.declared.outbound.entry.Turn.{Turn}
use Rattle.mqtt_records.specs.state.Session.{copy_place}
use Rattle.mqtt_records.specs.declared.state.session.Session.{Session}
use Rattle.mqtt_records.specs.messages.Queue.{CopyRow}
use Rattle.mqtt_records.specs.declared.messages.message.MessageCopy.{MessageCopy}
use Rattle.mqtt_records.specs.declared.messages.message.RetainedMessage.{RetainedMessage}
use Rattle.mqtt_records.specs.lists.Order.{row_at}
use Rattle.mqtt_routes.specs.routing.Acceptance.{Routed, Served, copies_in}
use Rattle.mqtt_routes.specs.routing.Intended.{Copy}
use Rattle.mqtt_routes.specs.routing.Retained.{kept_for}
use Rattle.mqtt_routes.specs.declared.routing.retained.Kept.{Kept}
use Rattle.mqtt_rules.proofs.step_lemmas.acts.Offers.{of_offer_if}
use Rattle.mqtt_rules.proofs.step_lemmas.flight.FlightRows.{all_at}
use Rattle.mqtt_rules.proofs.step_lemmas.numbers.Copies.{each_append, each_filter, each_flat, each_map}
use Rattle.mqtt_rules.specs.step.Deeds.{Accept, At, Deed, Enter, Leave, Mark, Message, On, Origin, Send, Went, after, after_all, always, offer, series, whose, with_session}
use Rattle.mqtt_rules.specs.step.Fitting.{has_form, offer_copy}
use Rattle.mqtt_rules.specs.step.Outbound.{all_turn_deeds, enter_deeds, leave_deeds, of_entry, queue_limits, since, turn_deeds}
use Rattle.mqtt_rules.specs.step.Packets.{properties_sent, publish_of, seconds_waited}
use Rattle.mqtt_rules.specs.step.Routing.{CopyTo, accepted_copies, accepted_if, copies_to, copy_to, deliver, deliver_by, finds_place, forgets, is_queued, next_publication, publish, retain_by, retained_of, routing_of, served_copies_to}
use Rattle.mqtt_rules.specs.step.State.{Broker, Env, Line, line_of, queue_on, session_at}
use Rattle.mqtt_rules.specs.step.Subscribe as sub
use Rattle.mqtt_rules.proofs.granting_lemmas.Blocks.{no_number, sent_unaliased, sent_users_last}
use Rattle.mqtt_rules.proofs.granting_lemmas.Deeds.{AllName, IsSaid, Names}
use Rattle.mqtt_rules.specs.granting.Naming.{HasNamed, IsNamed, NamesTopic}
use Rattle.mqtt_topic.specs.names.Names.{is_empty}
use Rattle.std.proofs.Common.{Bool, List, None, Option, Some, [], cond, false, filter, map, option_map, refl, subst, true, ℕ, ◌∷◌, ◌≡◌}
use Rattle.std.specs.List.{AllByRecursion}
use Rattle.std.specs.Prelude.{flat_map}

abbrev pub IsNamedMessage : Message → Type 0
IsNamedMessage m = NamesTopic m.topic m.properties

abbrev pub IsNamedTo : CopyTo → Type 0
IsNamedTo d = IsNamed d.copy.content

-- ---- copies

copies_named : (number now : ℕ) (m : Message) (r : Routed) → IsNamedMessage m → AllByRecursion IsNamedTo (copies_to number now m r)
copies_named number now m r q =
    each_append IsNamedTo (map (copy_to number now m Direct) r.direct) (flat_map (served_copies_to number now m) r.served) (all_to Direct r.direct) (all_served r.served)
  where
    all_to : (cause : Cause) (cs : List Copy) → AllByRecursion IsNamedTo (map (copy_to number now m cause) cs)
    all_to cause [] = tt
    all_to cause (c ∷ cs) = (record { name = q.name; unaliased = q.unaliased }, all_to cause cs)

    all_served : (ss : List Served) → AllByRecursion IsNamedTo (flat_map (served_copies_to number now m) ss)
    all_served [] = tt
    all_served (s ∷ ss) =
        each_append IsNamedTo (served_copies_to number now m s) (flat_map (served_copies_to number now m) ss) (all_to (Share s.group) (copies_in s.copy)) (all_served ss)

named_if : (t : Bool) (number now : ℕ) (m : Message) (o : Option Routed) (ds : List CopyTo) → IsNamedMessage m → accepted_if t (option_map (copies_to number now m) o) ≡ Some ds → AllByRecursion IsNamedTo ds
named_if false number now m o ds q e = absurd cc
named_if true number now m None ds q e = absurd cc
named_if true number now m (Some r) ds q e =
    let same : copies_to number now m r ≡ ds = cc in
    subst (λ (xs : List CopyTo). AllByRecursion IsNamedTo xs) same (copies_named number now m r q)

-- the copies of an accepted publication name its topic
pub accepted_named : (env : Env) (m : Message) (ds : List CopyTo) (b : Broker) → IsNamedMessage m → accepted_copies env m b ≡ Some ds → AllByRecursion IsNamedTo ds
accepted_named env m ds b q e = named_if (finds_place env m b.records) (next_publication b.records) b.now m (routing_of env m b.records) ds q e

abbrev Retains : RetainedMessage → Type 0
Retains k = IsNamed k.content

-- those of retained messages name theirs
pub brought_named : (t : Bool) (now number : ℕ) (s : Session) (w : sub.Wish) (ks : List RetainedMessage) → AllByRecursion Retains ks → AllByRecursion IsNamedTo (sub.brought_if t now number s w ks)
brought_named false now number s w ks h = tt
brought_named true now number s w ks h =
    let tabled = each_map (λ (y : Kept RetainedMessage). Retains (sub.message_in y)) sub.kept_of ks h in
    let matched = each_filter (λ (y : Kept RetainedMessage). Retains (sub.message_in y)) _ (map sub.kept_of ks) tabled in
    let messages = each_map Retains sub.message_in (kept_for w.filter (map sub.kept_of ks)) matched in
    let all = filter (sub.is_brought now s w) (map sub.message_in (kept_for w.filter (map sub.kept_of ks))) in
    let fit = each_filter Retains (sub.is_brought now s w) (map sub.message_in (kept_for w.filter (map sub.kept_of ks))) messages in
    each_map IsNamedTo (sub.retained_copy_to s.birth number w) all fit

-- ---- what goes out of a copy

-- a copy's PUBLISH has its topic and no alias, and its User Properties come last
pub publish_named : (now : ℕ) (dup : Bool) (id : ℕ) (copy : MessageCopy) → IsNamed copy.content → IsSaid (publish_of now dup id copy)
publish_named now dup id copy h = (
  (h.name, no_number (properties_sent now copy) (sent_unaliased (seconds_waited now copy.content) copy.identifiers copy.content.properties h.unaliased)),
  sent_users_last (seconds_waited now copy.content) copy.identifiers copy.content.properties,
)

-- ---- deeds

-- an offer of a packet that names its topic, if it is a PUBLISH
pub offer_names : (o : Option Line) (packet : Packet) → IsSaid packet → AllName (offer o packet)
offer_names None packet q = tt
offer_names (Some l) packet q = by _
  where
    by : (t : Bool) → AllName (cond t (Send l.number packet ∷ []) [])
    by true = (q, tt)
    by false = tt

-- so does that of a copy
pub late_names : (o : Option Line) (d : CopyTo) (b : Broker) → IsNamedTo d → AllName (offer_copy o d.copy b)
late_names o d b h = of_offer_if AllName (has_form d.copy b) o (publish_of b.now false 0 d.copy) tt (λ l there. (publish_named b.now false 0 d.copy h, tt))

entry_names : (o : Option CopyRow) (f : CopyRow → List Deed) → ((e : CopyRow) → AllName (f e)) → AllName (of_entry o f)
entry_names None f h = tt
entry_names (Some e) f h = h e

-- a copy's leaving sends nothing
pub leave_names : (s : Session) (t : Turn) → AllName (leave_deeds s t)
leave_names s (turns.Leave place ending) = entry_names (row_at copy_place place s.queue) (λ e. At (whose s) (Leave e ending) ∷ []) (λ e. (tt, tt))
leave_names s (turns.Send place id) = tt
leave_names s (turns.Resend place id) = tt
leave_names s (turns.Release place id order) = tt
leave_names s (turns.Outgrow place id order) = tt
leave_names s (turns.Repeat id) = tt
leave_names s (turns.Unknown id) = tt

-- nor does that of many
pub leaves_name : (s : Session) (ts : List Turn) → AllName (flat_map (leave_deeds s) ts)
leaves_name s ts = each_flat Names (leave_deeds s) (leave_names s) ts

enter_names : (env : Env) (copy : MessageCopy) (s : Session) → IsNamed copy.content → AllName (enter_deeds env copy s)
enter_names env copy s h =
    let ts = way_made (queue_limits env) (since env s) (queue_on [] s) in
    each_append Names (flat_map (leave_deeds s) ts) (At (whose s) (Enter copy) ∷ []) (leaves_name s ts) (h, tt)

deliver_names : (t : Bool) (env : Env) (d : CopyTo) (b : Broker) → IsNamedTo d → AllName (deliver_by t env d b)
deliver_names true env d b h = by (session_at d.birth b.records)
  where
    by : (o : Option Session) → AllName (with_session o (λ s. always (enter_deeds env d.copy s)) b)
    by None = tt
    by (Some s) = enter_names env d.copy s h
deliver_names false env d b h = late_names (line_of d.birth b) d b h

-- deliveries name the topics of their copies
pub deliveries_name : (env : Env) (ds : List CopyTo) (b : Broker) → AllByRecursion IsNamedTo ds → AllName (series (map (deliver env) ds) b)
deliveries_name env [] b h = tt
deliveries_name env (d ∷ ds) b h =
    let first = deliver env d b in
    let c = after_all first b in
    each_append Names first (series (map (deliver env) ds) c) (deliver_names (is_queued d) env d b h.0) (deliveries_name env ds c h.1)

forgets_name : (o : Option RetainedMessage) → AllName (forgets o)
forgets_name None = tt
forgets_name (Some k) = (tt, tt)

retain_names : (retain empty : Bool) (number : ℕ) (m : Message) (b : Broker) → IsNamedMessage m → AllName (retain_by retain empty number m b)
retain_names false empty number m b q = tt
retain_names true true number m b q = forgets_name (retained_of m.topic b.records)
retain_names true false number m b q = (record { name = q.name; unaliased = q.unaliased }, tt)

-- so does a publication
pub publish_names : (env : Env) (origin : Origin) (m : Message) (ds : List CopyTo) (b : Broker) → IsNamedMessage m → AllByRecursion IsNamedTo ds → AllName (publish env origin m ds b)
publish_names env origin m ds b q h =
    let number = next_publication b.records in
    let c = after (Accept number origin m) b in
    let kept = retain_by m.retain (is_empty m.payload) number m c in
    let all = series (map (deliver env) ds) (after_all kept c) in
    (tt, each_append Names kept all (retain_names m.retain (is_empty m.payload) number m c q) (deliveries_name env ds (after_all kept c) h))

-- ---- turns

turn_entry : (o : Option CopyRow) (f : CopyRow → List Deed) → ((e : CopyRow) → o ≡ Some e → AllName (f e)) → AllName (of_entry o f)
turn_entry None f h = tt
turn_entry (Some e) f h = h e refl

its_copy : (place : ℕ) (s : Session) (e : CopyRow) → HasNamed s → row_at copy_place place s.queue ≡ Some e → IsNamed e.copy.content
its_copy place s e h there = all_at copy_place (λ (x : CopyRow). IsNamed x.copy.content) place e s.queue h.queue there

-- a turn of a session whose copies name their topics
pub turn_names : (now line : ℕ) (s : Session) (t : Turn) → HasNamed s → AllName (turn_deeds now line s t)
turn_names now line s (turns.Send place id) h =
    turn_entry (row_at copy_place place s.queue) (λ e. At (whose s) (Mark place (Sent id)) ∷ On line (Went place) ∷ Send line (publish_of now false id e.copy) ∷ [])
    (λ e there. (tt, (tt, (publish_named now false id e.copy (its_copy place s e h there), tt))))
turn_names now line s (turns.Resend place id) h =
    turn_entry (row_at copy_place place s.queue) (λ e. On line (Went place) ∷ Send line (publish_of now true id e.copy) ∷ [])
    (λ e there. (tt, (publish_named now true id e.copy (its_copy place s e h there), tt)))
turn_names now line s (turns.Release place id order) h = (tt, (tt, tt))
turn_names now line s (turns.Outgrow place id order) h = (tt, (tt, tt))
turn_names now line s (turns.Repeat id) h = (tt, tt)
turn_names now line s (turns.Unknown id) h = (tt, tt)
turn_names now line s (turns.Leave place ending) h = leave_names s (turns.Leave place ending)

-- and many
pub turns_name : (now line : ℕ) (s : Session) (ts : List Turn) → HasNamed s → AllName (all_turn_deeds now line s ts)
turns_name now line s [] h = tt
turns_name now line s (t ∷ ts) h = each_append Names (turn_deeds now line s t) (all_turn_deeds now line s ts) (turn_names now line s t h) (turns_name now line s ts h)
