-- Where the number of a copy comes from: an accepted publication, or a retained message that stands.
use Rattle.std.proofs.Common.{◌≡◌, ℕ, ◌≤◌, ◌⊎◌, inl, inr, Bool, true, false, List, [], ◌∷◌, ◌++◌, filter, map, Option, Some, None, refl, sym, subst, arith}
use Rattle.std.specs.Prelude.{⊤, flat_map, option_map, not, ◌&&◌}
use Rattle.std.specs.List.{AllByRecursion}
use Rattle.std.proofs.lemmas.Bool.{cases_Bool}
use Rattle.mqtt_base.specs.declared.session.Cause.{Cause}
use Rattle.mqtt_base.specs.declared.session.Cause.TheVariants.{Direct, Share}
use Rattle.mqtt_packet.specs.declared.codec.packet.Packet.{Packet}
use Rattle.mqtt_topic.specs.names.Filters.{begins_share}
use Rattle.mqtt_flow.specs.declared.outbound.entry.Turn.{Turn}
use Rattle.mqtt_flow.specs.declared.outbound.entry.Turn.TheVariants as turns
use Rattle.mqtt_flow.specs.outbound.Outbound.{way_made}
use Rattle.mqtt_routes.specs.declared.routing.retained.Kept.{Kept}
use Rattle.mqtt_routes.specs.routing.Retained.{kept_for}
use Rattle.mqtt_routes.specs.routing.Intended.{Copy}
use Rattle.mqtt_routes.specs.routing.Acceptance.{Routed, copies_in}
use Rattle.mqtt_records.specs.declared.messages.message.MessageCopy.{MessageCopy}
use Rattle.mqtt_records.specs.declared.messages.message.RetainedMessage.{RetainedMessage}
use Rattle.mqtt_records.specs.declared.state.session.Session.{Session}
use Rattle.mqtt_records.specs.declared.state.records.Records.{Records}
use Rattle.mqtt_records.specs.lists.Order.{row_at}
use Rattle.mqtt_records.specs.state.Session.{copy_place}
use Rattle.mqtt_records.specs.state.Records.{changed_all, subscribe_in}
use Rattle.mqtt_rules.specs.step.Packets.{publish_of}
use Rattle.mqtt_rules.specs.step.State.{Line, Broker, Env, session_at, line_of, queue_on}
use Rattle.mqtt_rules.specs.step.Deeds.{Whose, whose, Message, Part, Resume, Open, Release, Enter, Leave, Deed, At, On, Send, part_rows, part_rows_of, after, after_all, always, offer}
use Rattle.mqtt_rules.specs.step.Outbound.{leave_deeds, since, queue_limits, enter_deeds}
use Rattle.mqtt_rules.specs.step.Routing.{CopyTo, copy_to, served_copies_to, copies_to, next_publication, routing_of, finds_place, accepted_if, accepted_copies, is_queued, deliver_by, deliver}
use Rattle.mqtt_rules.specs.step.Subscribe.{Wish, has_filter, wants_retained, kept_of, message_in, is_brought, retained_copy, retained_copy_to, brought_if, brought}
use Rattle.mqtt_rules.specs.step.Fitting.{has_form}
use Rattle.mqtt_rules.proofs.step_lemmas.acts.Offers.{of_offer, of_offer_if}
use Rattle.mqtt_rules.proofs.step_lemmas.acts.Goods.{AreGood, good_append, good_flat, good_of_entry, good_with_session}

-- ---- lists

module _ {X : Type 0} (P : X → Type 0) where
  -- what holds of all holds of some of them
  pub each_filter : (test : X → Bool) (xs : List X) → AllByRecursion P xs → AllByRecursion P (filter test xs)
  each_filter test [] h = tt
  each_filter test (x ∷ xs) h = elim (cases_Bool (test x)) [
    | inl stays ↦ rw stays (h.0, each_filter test xs h.1)
    | inr goes ↦ rw goes (each_filter test xs h.1)
  ]

  -- what holds of two lists holds of both together
  pub each_append : (xs ys : List X) → AllByRecursion P xs → AllByRecursion P ys → AllByRecursion P (xs ++ ys)
  each_append [] ys p q = q
  each_append (x ∷ xs) ys p q = (p.0, each_append xs ys p.1 q)

  -- what holds of everything holds of a list
  pub each_all : ((x : X) → P x) → (xs : List X) → AllByRecursion P xs
  each_all h [] = tt
  each_all h (x ∷ xs) = (h x, each_all h xs)

-- what holds of each item, and brings something else, brings it for each
pub each_more : {X : Type 0} (P Q : X → Type 0) → ((x : X) → P x → Q x) → (xs : List X) → AllByRecursion P xs → AllByRecursion Q xs
each_more P Q more [] h = tt
each_more P Q more (x ∷ xs) h = (more x h.0, each_more P Q more xs h.1)

-- what is made of items holds if it holds of each
pub each_map : {X Y : Type 0} (P : X → Type 0) (f : Y → X) (ys : List Y) → AllByRecursion (λ y. P (f y)) ys → AllByRecursion P (map f ys)
each_map P f [] h = tt
each_map P f (y ∷ ys) h = (h.0, each_map P f ys h.1)

-- lists that are made of items hold if each does
pub each_flat : {X Y : Type 0} (P : X → Type 0) (f : Y → List X) → ((y : Y) → AllByRecursion P (f y)) → (ys : List Y) → AllByRecursion P (flat_map f ys)
each_flat P f h [] = tt
each_flat P f h (y ∷ ys) = each_append P (f y) (flat_map f ys) (h y) (each_flat P f h ys)

-- ---- where a copy comes from

-- publications, grants and retained messages
pub record Kinds : Type 0 where
  pub publications : ℕ
  pub subscribes : ℕ
  pub retained : List RetainedMessage

abbrev pub kinds : Records → Kinds
kinds r = record { publications = r.publications; subscribes = r.subscribes; retained = r.retained }

-- a retained message has its number and its content
abbrev pub IsOf : MessageCopy → List RetainedMessage → Type 0
IsOf copy [] = ⊥
IsOf copy (k ∷ ks) = ((k.publication ≡ copy.id.publication) × (k.content ≡ copy.content)) ⊎ IsOf copy ks

-- a copy for a session: of an accepted publication, or of a retained message that stands
pub record IsMadeOf (birth : ℕ) (copy : MessageCopy) (k : Kinds) (now : ℕ) : Type 0 where
  pub its_birth : copy.id.birth ≡ birth
  pub cause : subscribe_in copy.id.cause ≤ k.subscribes
  pub source : ((copy.id.publication ≤ k.publications) × (copy.content.arrived ≤ now)) ⊎ IsOf copy k.retained

abbrev pub IsMade : ℕ → MessageCopy → Broker → Type 0
IsMade birth copy b = IsMadeOf birth copy (kinds b.records) b.now

abbrev pub AreMade : List CopyTo → Broker → Type 0
AreMade ds b = AllByRecursion (λ d. IsMade d.birth d.copy b) ds

-- of the publication with a number, at a moment
pub record IsNumbered (number now : ℕ) (d : CopyTo) : Type 0 where
  pub publication : d.copy.id.publication ≡ number
  pub arrived : d.copy.content.arrived ≡ now
  pub birth : d.copy.id.birth ≡ d.birth
  pub cause : subscribe_in d.copy.id.cause ≡ 0

abbrev pub AreNumbered : ℕ → ℕ → List CopyTo → Type 0
AreNumbered number now ds = AllByRecursion (IsNumbered number now) ds

-- of a publication
numbered_copies : (number now : ℕ) (m : Message) (cause : Cause) (cs : List Copy) → subscribe_in cause ≡ 0 → AreNumbered number now (map (copy_to number now m cause) cs)
numbered_copies number now m cause cs none =
    each_map (IsNumbered number now) (copy_to number now m cause) cs
    (each_all (λ c. IsNumbered number now (copy_to number now m cause c)) (λ c. record { publication = refl; arrived = refl; birth = refl; cause = none }) cs)

numbered_deliveries : (number now : ℕ) (m : Message) (r : Routed) → AreNumbered number now (copies_to number now m r)
numbered_deliveries number now m r =
    each_append (IsNumbered number now) (map (copy_to number now m Direct) r.direct) (flat_map (served_copies_to number now m) r.served)
    (numbered_copies number now m Direct r.direct refl)
    (each_flat (IsNumbered number now) (served_copies_to number now m) (λ s. numbered_copies number now m (Share s.group) (copies_in s.copy) refl) r.served)

numbered_if : (t : Bool) (number now : ℕ) (m : Message) (o : Option Routed) (ds : List CopyTo) → accepted_if t (option_map (copies_to number now m) o) ≡ Some ds → AreNumbered number now ds
numbered_if false number now m o ds e = absurd cc
numbered_if true number now m None ds e = absurd cc
numbered_if true number now m (Some r) ds e =
    let same : copies_to number now m r ≡ ds = cc in
    subst (λ (xs : List CopyTo). AreNumbered number now xs) same (numbered_deliveries number now m r)

-- the copies of an accepted publication have its number, the next one
pub routed_numbered : (env : Env) (m : Message) (b : Broker) (ds : List CopyTo) → accepted_copies env m b ≡ Some ds → AreNumbered (next_publication b.records) b.now ds
routed_numbered env m b ds e = numbered_if (finds_place env m b.records) (next_publication b.records) b.now m (routing_of env m b.records) ds e

-- copies with the last number given are of an accepted publication
pub made_numbered : (number : ℕ) (ds : List CopyTo) (b : Broker) → b.records.publications ≡ number → AreNumbered number b.now ds → AreMade ds b
made_numbered number ds b same h =
    each_more (IsNumbered number b.now) (λ d. IsMade d.birth d.copy b)
    (λ d e.
    let is = e.publication in
    let at = e.arrived in
    let none = e.cause in
    record { its_birth = e.birth; cause = omega (arith, none); source = inl (omega (arith, is, same), omega (arith, at)) }) ds h

-- of retained messages
brought_of : (birth number : ℕ) (w : Wish) (ks : List RetainedMessage) → AllByRecursion (λ k. IsOf (retained_copy birth number w k) ks) ks
brought_of birth number w [] = tt
brought_of birth number w (k ∷ ks) =
    (inl (refl, refl), each_more (λ x. IsOf (retained_copy birth number w x) ks) (λ x. IsOf (retained_copy birth number w x) (k ∷ ks)) (λ x h. inr h) ks (brought_of birth number w ks))

brought_by : (t : Bool) (number : ℕ) (s : Session) (w : Wish) (b : Broker) → number ≤ b.records.subscribes → AreMade (brought_if t b.now number s w b.records.retained) b
brought_by false number s w b le = tt
brought_by true number s w b le =
    let ks = b.records.retained in
    let mine : RetainedMessage → Type 0 = λ k. IsOf (retained_copy s.birth number w k) ks in
    let tabled = each_map (λ (y : Kept RetainedMessage). mine (message_in y)) kept_of ks (brought_of s.birth number w ks) in
    let matched = each_filter (λ (y : Kept RetainedMessage). mine (message_in y)) _ (map kept_of ks) tabled in
    let messages = each_map mine message_in (kept_for w.filter (map kept_of ks)) matched in
    let fit = each_filter mine (is_brought b.now s w) (map message_in (kept_for w.filter (map kept_of ks))) messages in
    each_map (λ d. IsMade d.birth d.copy b) (retained_copy_to s.birth number w) (filter (is_brought b.now s w) (map message_in (kept_for w.filter (map kept_of ks))))
    (each_more mine (λ k. IsMade s.birth (retained_copy s.birth number w k) b) (λ k h. record { its_birth = refl; cause = le; source = inr h })
    (filter (is_brought b.now s w) (map message_in (kept_for w.filter (map kept_of ks)))) fit)

-- retained copies that a subscription brings are of accepted publications
pub brought_made : (number : ℕ) (s : Session) (w : Wish) (b : Broker) → number ≤ b.records.subscribes → AreMade (brought b.now number s w b.records.retained) b
brought_made number s w b le = brought_by (not (begins_share w.filter) && wants_retained w.options.retain_handling (has_filter w.filter s)) number s w b le

-- ---- deeds that accept and retain nothing, and forget nothing

-- all parts but those that open or close an identifier
abbrev pub IsBesidePart : Part → Type 0
IsBesidePart (Open id) = ⊥
IsBesidePart (Release id) = ⊥
IsBesidePart part = ⊤

abbrev pub IsBeside : Deed → Broker → Type 0
IsBeside (At who part) b = IsBesidePart part
IsBeside (On line part) b = ⊤
IsBeside (Send line packet) b = ⊤
IsBeside d b = ⊥

kinds_part : (part : Part) (s : Session) (r : Records) → kinds (changed_all (part_rows part s) r) ≡ kinds r
kinds_part (Resume expiry None) s r = refl
kinds_part (Resume expiry (Some will)) s r = refl
kinds_part part s r = refl

kinds_part_of : (part : Part) (o : Option Session) (r : Records) → kinds (changed_all (part_rows_of part o) r) ≡ kinds r
kinds_part_of part None r = refl
kinds_part_of part (Some s) r = kinds_part part s r

-- whatever happens to a session
pub kinds_at : (who : Whose) (part : Part) (b : Broker) → kinds (after (At who part) b).records ≡ kinds b.records
kinds_at who part b = kinds_part_of part (session_at who.birth b.records) b.records

-- a deed beside acceptance keeps which publications were accepted
pub kinds_deed : (d : Deed) (b : Broker) → IsBeside d b → kinds (after d b).records ≡ kinds b.records
kinds_deed (At who part) b beside = kinds_part_of part (session_at who.birth b.records) b.records
kinds_deed (On line part) b beside = refl
kinds_deed (Send line packet) b beside = refl
kinds_deed d b beside = absurd beside

-- a copy of an accepted publication stays one behind such deeds
pub made_stays : (birth : ℕ) (copy : MessageCopy) (ds : List Deed) (b : Broker) → AreGood IsBeside ds b → IsMade birth copy b → IsMade birth copy (after_all ds b)
made_stays birth copy [] b beside made = made
made_stays birth copy (d ∷ ds) b beside made =
    made_stays birth copy ds (after d b) beside.1 (subst (λ (k : Kinds). IsMadeOf birth copy k b.now) (sym (kinds_deed d b beside.0)) made)

-- copies of accepted publications stay such behind such deeds
pub are_made_stay : (all : List CopyTo) (ds : List Deed) (b : Broker) → AreGood IsBeside ds b → AreMade all b → AreMade all (after_all ds b)
are_made_stay all ds b beside made =
    each_more (λ d. IsMade d.birth d.copy b) (λ d. IsMade d.birth d.copy (after_all ds b)) (λ d h. made_stays d.birth d.copy ds b beside h) all made

beside_leave : (s : Session) (t : Turn) (b : Broker) → AreGood IsBeside (leave_deeds s t) b
beside_leave s (turns.Leave place ending) b = good_of_entry IsBeside (row_at copy_place place s.queue) (λ e. At (whose s) (Leave e ending) ∷ []) b (λ e. (tt, tt))
beside_leave s t b = tt

-- copies that leave accept nothing
pub beside_leaves : (s : Session) (ts : List Turn) (b : Broker) → AreGood IsBeside (flat_map (leave_deeds s) ts) b
beside_leaves s ts b = good_flat IsBeside (leave_deeds s) (beside_leave s) ts b

beside_enter : (env : Env) (copy : MessageCopy) (s : Session) (b : Broker) → AreGood IsBeside (enter_deeds env copy s) b
beside_enter env copy s b =
    let ts = way_made (queue_limits env) (since env s) (queue_on [] s) in
    good_append IsBeside (flat_map (leave_deeds s) ts) (At (whose s) (Enter copy) ∷ []) b (beside_leaves s ts b) (tt, tt)

beside_offer : (o : Option Line) (packet : Packet) (b : Broker) → AreGood IsBeside (offer o packet) b
beside_offer o packet b = of_offer (λ (ds : List Deed). AreGood IsBeside ds b) o packet tt (λ l there. (tt, tt))

beside_deliver_by : (t : Bool) (env : Env) (d : CopyTo) (b : Broker) → AreGood IsBeside (deliver_by t env d b) b
beside_deliver_by true env d b =
    good_with_session IsBeside (session_at d.birth b.records) (λ s. always (enter_deeds env d.copy s)) b (λ s e. beside_enter env d.copy s b)
beside_deliver_by false env d b =
    of_offer_if (λ (ds : List Deed). AreGood IsBeside ds b) (has_form d.copy b) (line_of d.birth b) (publish_of b.now false 0 d.copy) tt (λ l there. (tt, tt))

-- a delivery accepts nothing
pub beside_deliver : (env : Env) (d : CopyTo) (b : Broker) → AreGood IsBeside (deliver env d b) b
beside_deliver env d b = beside_deliver_by (is_queued d) env d b
