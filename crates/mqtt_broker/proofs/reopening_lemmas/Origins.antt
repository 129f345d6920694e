-- What is opened and subscribed comes from a packet: identifiers from 1, and filters that fit a text; and no session begins without a name (MQTT 5.0, 2.2.1, 3.1.3.1, 3.8.3).
use Rattle.std.proofs.Common.{◌≡◌, ℕ, ◌≤◌, Bool, true, false, ◌&&◌, List, [], ◌∷◌, ◌++◌, filter, map, Option, Some, None, refl, subst}
use Rattle.std.specs.Prelude.{⊤, flat_map}
use Rattle.std.specs.List.{AllByRecursion}
use Rattle.std.proofs.lemmas.Bool.{ltb-true}
use Rattle.mqtt_base.specs.Values.{FitsText}
use Rattle.mqtt_packet.specs.codec.Publish.{lawful_identifier}
use Rattle.mqtt_packet.specs.declared.codec.publish.Delivery.{Delivery}
use Rattle.mqtt_packet.specs.declared.codec.publish.Delivery.TheVariants as delivery
use Rattle.mqtt_packet.specs.declared.connect.connect.Connect.{Connect as Greeting}
use Rattle.mqtt_flow.specs.outbound.Outbound.{way_made}
use Rattle.mqtt_records.specs.declared.messages.message.MessageCopy.{MessageCopy}
use Rattle.mqtt_records.specs.declared.state.records.Records.{Records}
use Rattle.mqtt_records.specs.declared.state.session.Session.{Session}
use Rattle.mqtt_packet.specs.subscribe.Subscriptions.{Subscription as Asked, IsSubscription}
use Rattle.mqtt_topic.proofs.names_lemmas.MatchLemmas.{and_left, and_right}
use Rattle.mqtt_topic.specs.names.Filters.{is_filter}
use Rattle.mqtt_topic.specs.names.Names.{is_empty}
use Rattle.mqtt_rules.specs.step.Connect.{begin_named}
use Rattle.mqtt_rules.specs.step.Contents.{IsTaken, TakesLawful}
use Rattle.mqtt_rules.specs.step.Deeds.{whose, Message, Origin, Subscribe, Open, Enter, Deed, Accept, Begin, Count, At, after, after_all, always, series, with_session}
use Rattle.mqtt_rules.specs.step.Fitting.{has_form}
use Rattle.mqtt_rules.specs.step.Inbound.{opens}
use Rattle.mqtt_rules.specs.step.Outbound.{enter_deeds, leave_deeds, queue_limits, since}
use Rattle.mqtt_rules.specs.step.Packets.{publish_of}
use Rattle.mqtt_rules.specs.step.Routing.{CopyTo, deliver, deliver_by, forgets, is_queued, next_publication, publish, retain_by, retained_of}
use Rattle.mqtt_rules.specs.step.State.{Broker, Env, Line, line_of, queue_on, session_at}
use Rattle.mqtt_rules.specs.step.Step.{Call, deeds_of, opening}
use Rattle.mqtt_rules.specs.step.Subscribe as sub
use Rattle.mqtt_rules.proofs.step_lemmas.acts.Acts.{brought_to}
use Rattle.mqtt_rules.proofs.step_lemmas.acts.Offers.{of_offer_if}
use Rattle.mqtt_rules.proofs.step_lemmas.numbers.Copies.{each_append, each_more}
use Rattle.mqtt_rules.proofs.step_lemmas.acts.Goods.{AreGood}
use Rattle.mqtt_world_laws.proofs.acceptance_lemmas.copies.EachAct.{Came, Says, call_says, opening_says}
use Rattle.mqtt_world_laws.proofs.acceptance_lemmas.copies.Entering.{AreCalm, IsCalm, calm_forgets, calm_leaves}

-- what is opened, what is subscribed, and who begins
abbrev pub IsFrom : Deed → Type 0
IsFrom (Begin row will) = is_empty row.client ≡ false
IsFrom (At who (Open id)) = 1 ≤ id
IsFrom (At who (Subscribe x)) = (is_filter x.filter ≡ true) × FitsText x.filter
IsFrom d = ⊤

abbrev pub From : List Deed → Type 0
From ds = AllByRecursion IsFrom ds

-- deeds that bring lawful contents are good
pub from_good : (ds : List Deed) (b : Broker) → From ds → AreGood (λ d c. IsFrom d) ds b
from_good [] b h = tt
from_good (d ∷ ds) b h = (h.0, from_good ds _ h.1)

from_calm : (d : Deed) → IsCalm d → IsFrom d
from_calm (Begin row will) h = absurd h
from_calm (At who (Open id)) h = absurd h
from_calm (At who (Subscribe x)) h = absurd h
from_calm d h = tt

from_append : (xs ys : List Deed) → From xs → From ys → From (xs ++ ys)
from_append xs ys p q = each_append IsFrom xs ys p q

calm : (ds : List Deed) → AreCalm ds → From ds
calm ds h = each_more IsCalm IsFrom from_calm ds h

-- ---- publications

from_enter : (env : Env) (copy : MessageCopy) (s : Session) → From (enter_deeds env copy s)
from_enter env copy s =
    let ts = way_made (queue_limits env) (since env s) (queue_on [] s) in
    let leaves = flat_map (leave_deeds s) ts in
    from_append leaves (At (whose s) (Enter copy) ∷ []) (calm leaves (calm_leaves s ts)) (tt, tt)

from_deliver : (t : Bool) (env : Env) (d : CopyTo) (b : Broker) → From (deliver_by t env d b)
from_deliver true env d b = by (session_at d.birth b.records)
  where
    by : (o : Option Session) → From (with_session o (λ s. always (enter_deeds env d.copy s)) b)
    by None = tt
    by (Some s) = from_enter env d.copy s
from_deliver false env d b =
    of_offer_if (λ (ds : List Deed). From ds) (has_form d.copy b) (line_of d.birth b) (publish_of b.now false 0 d.copy) tt (λ l there. (tt, tt))

from_deliveries : (env : Env) (ds : List CopyTo) (b : Broker) → From (series (map (deliver env) ds) b)
from_deliveries env [] b = tt
from_deliveries env (d ∷ ds) b =
    let first = deliver env d b in
    let c = after_all first b in
    from_append first (series (map (deliver env) ds) c) (from_deliver (is_queued d) env d b) (from_deliveries env ds c)

from_retain : (retain empty : Bool) (number : ℕ) (m : Message) (b : Broker) → From (retain_by retain empty number m b)
from_retain false empty number m b = tt
from_retain true true number m b = let o = retained_of m.topic b.records in calm (forgets o) (calm_forgets o)
from_retain true false number m b = (tt, tt)

from_publish : (env : Env) (origin : Origin) (m : Message) (ds : List CopyTo) (b : Broker) → From (publish env origin m ds b)
from_publish env origin m ds b =
    let number = next_publication b.records in
    let c = after (Accept number origin m) b in
    let next = retain_by m.retain (is_empty m.payload) number m c in
    let all = series (map (deliver env) ds) (after_all next c) in
    (tt, from_append next all (from_retain m.retain (is_empty m.payload) number m c) (from_deliveries env ds (after_all next c)))

-- ---- a session that begins, an identifier that opens and a filter that is granted

from_begin : (t : Bool) (l : Line) (c : Greeting) (r : Records) → is_empty c.client_identifier ≡ t → From (begin_named t l c r)
from_begin false l c r is = (is, (tt, (tt, tt)))
from_begin true l c r is = (tt, (refl, (tt, (tt, tt))))

from_opens : (s : Session) (d : Delivery) → lawful_identifier d ≡ true → From (opens s d)
from_opens s delivery.AtMostOnce h = tt
from_opens s (delivery.AtLeastOnce dup id) h = tt
from_opens s (delivery.ExactlyOnce dup id) h = (ltb-true 0 id h, tt)

from_granted : (env : Env) (w : sub.Wish) (s : Session) (b : Broker) → FitsText w.filter → is_filter w.filter ≡ true → From (sub.granted_filter env (sub.next_number b.records) s w (brought_to w s b) b).deeds
from_granted env w s b fits valid =
    let number = sub.next_number b.records in
    let first : List Deed = Count number ∷ At (whose s) (Subscribe (sub.subscription number s w)) ∷ [] in
    let ds = filter is_queued (brought_to w s b) in
    (tt, ((valid, fits), from_deliveries env ds (after_all first b)))

-- ---- calls and openings

-- packets as they are taken in, whose filters fit a text
abbrev lawful : Came
lawful = record {
  packet = IsTaken;
  wished = FitsText;
  asks = λ p taken. each_more IsSubscription (λ (a : Asked). FitsText a.filter) (λ a h. h.0) p.subscriptions taken.spelled.0.2;
}

abbrev any_state : Broker → Type 0
any_state b = ⊤

abbrev Comes : List Deed → Broker → Type 0
Comes ds b = From ds

from_says : (env : Env) → Says env lawful any_state Comes
from_says env = record {
  stays = λ ds b h. tt;
  calm = λ ds b h. calm ds h;
  next = λ xs ys b p q. from_append xs ys p q;
  publish = λ origin m ds b h e. from_publish env origin m ds b;
  begins = λ l c r b. from_begin (is_empty c.client_identifier) l c r refl;
  opens = λ s p b taken. from_opens s p.delivery (and_left (lawful_identifier p.delivery) _ (and_right _ (lawful_identifier p.delivery && _) taken.spelled.2));
  grants = λ w s b fits valid e. from_granted env w s b fits valid;
}

-- those of a call are such
pub from_call : (env : Env) (call : Call) (b : Broker) → TakesLawful call → From (deeds_of env call b)
from_call env call b taken = call_says env lawful any_state Comes (from_says env) call (λ n packet is. subst TakesLawful is taken) b tt

-- so are those of an opening
pub from_opening : (env : Env) (b : Broker) → From (opening env b)
from_opening env b = opening_says env lawful any_state Comes (from_says env) b tt
