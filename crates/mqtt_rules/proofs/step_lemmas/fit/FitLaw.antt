-- Each deed of a step brings what fits, on coherent records.
use Rattle.std.proofs.Common.{◌≡◌, ℕ, suc, ◌≤◌, ◌<◌, Bool, true, false, cond, not, ◌&&◌, ◌||◌, List, [], ◌∷◌, ◌++◌, length, filter, map, Option, Some, None, nat_eq, nat_lt, bytes_eq, refl, sym, ap, subst, ◌∙◌, arith, inl, inr}
use Rattle.std.specs.Prelude.{option_map, is_some, is_none, find, decimal}
use Rattle.std.specs.List.{AllByRecursion, starts_with, list_any}
use Rattle.std.proofs.lemmas.Bool.{cases_Bool, ltb-true, lt-ltb}
use Rattle.std.proofs.lemmas.Slice.Eq.{bytes_eq-Decides}
use Rattle.mqtt_base.specs.declared.limits.TheConstants.{LAST_NUMBER, CLIENT_LIMIT, OPEN_LIMIT, SUBSCRIPTION_LIMIT, SESSION_LIMIT, RETAINED_LIMIT}
use Rattle.mqtt_packet.specs.declared.connect.connect.Connect.{Connect as Greeting}
use Rattle.mqtt_topic.specs.names.Names.{is_empty}
use Rattle.mqtt_flow.specs.declared.inbound.inflow.Published.TheVariants.{New, Again, Over}
use Rattle.mqtt_flow.specs.inbound.Identifiers.{is_among}
use Rattle.mqtt_flow.specs.inbound.Inbound.{answer_to}
use Rattle.mqtt_records.specs.declared.messages.message.MessageCopy.{MessageCopy}
use Rattle.mqtt_records.specs.declared.messages.message.RetainedMessage.{RetainedMessage}
use Rattle.mqtt_records.specs.declared.messages.message.Will.{Will}
use Rattle.mqtt_records.specs.declared.state.session.Session.{Session}
use Rattle.mqtt_records.specs.declared.state.session.Columns.{Columns}
use Rattle.mqtt_records.specs.declared.state.change.Change.TheVariants.{SetSession}
use Rattle.mqtt_records.specs.declared.state.subscription.Subscription.{Subscription}
use Rattle.mqtt_records.specs.declared.state.records.Records.{Records}
use Rattle.mqtt_records.specs.lists.Order.{IsAbove, IsAscending, IsBelow, HasRoomFor, row_at, has_row}
use Rattle.mqtt_records.proofs.lists_lemmas.OrderLemmas.{apart, above_none}
use Rattle.mqtt_records.specs.state.Session.{birth_of, place_of, number_of, with_columns, with_will, with_subscription, without_filter, without_subscription, with_copy, with_phase, without_copy, auto}
use Rattle.mqtt_records.specs.state.Records.{kept_place, changed, changed_all, IsNumber, TakesSubscription}
use Rattle.mqtt_rules.specs.step.State.{Broker, Env, session_at, session_named}
use Rattle.mqtt_rules.specs.step.Deeds.{Whose, whose, Message, FromClient, Part, Resume, Close, SetExpiry, DropWill, Subscribe, Unsubscribe, Open, Release, Enter, Mark, Leave, Deed, Name, Count, At, will_row, new_entry, part_rows, part_rows_of, after, after_all, series}
use Rattle.mqtt_rules.specs.step.Deeds as deeds
use Rattle.mqtt_rules.specs.step.Routing.{CopyTo, is_topic, retained_of, finds_place, place_of_kept, kept_message, forgets, retain_by, deliver, publish, next_publication}
use Rattle.mqtt_props.specs.Laws.{has}
use Rattle.mqtt_props.specs.declared.table.PropName.TheVariants.{AuthenticationMethod}
use Rattle.mqtt_base.specs.Codes.{bad_authentication_method, packet_too_large, client_identifier_not_valid, topic_name_invalid}
use Rattle.mqtt_rules.specs.step.Connect.{refusal, largest_of, least_packet_size, has_bad_topic}
use Rattle.mqtt_rules.specs.step.Subscribe as sub
use Rattle.mqtt_rules.specs.step.Laws.{IsAmong, IsUnique, client_at, topic_at, IsAssignedUpTo, IsCoherentSession, IsCoherentMessage, AreWithin}
use Rattle.mqtt_rules.proofs.step_lemmas.acts.Goods.{AreGood, good_series, good_acts, after_append}
use Rattle.mqtt_rules.proofs.step_lemmas.acts.Leads.{found_among, found_passes}
use Rattle.mqtt_rules.proofs.step_lemmas.acts.Acts.{About, anyone, is_alone, IsGranted}
use Rattle.mqtt_rules.proofs.step_lemmas.acts.ByDeeds.{DeedLaw, MarkLaw}
use Rattle.mqtt_rules.proofs.step_lemmas.numbers.Copies.{IsOf, IsMade, IsBeside, beside_deliver}
use Rattle.mqtt_rules.proofs.step_lemmas.flight.FlightRows.{all_found, all_at}
use Rattle.mqtt_rules.proofs.step_lemmas.numbers.NumberBirths.{below_none, below_filter}
use Rattle.mqtt_rules.proofs.step_lemmas.numbers.Counters.{Counts, counts, counts_after, counts_deed}
use Rattle.mqtt_rules.proofs.step_lemmas.order.Ordered.{length-filter_le}
use Rattle.mqtt_rules.proofs.step_lemmas.order.OrderedRoom.{place_is_fit, found_place}
use Rattle.mqtt_rules.proofs.step_lemmas.acts.LookedUp.{field_at, field_kept}
use Rattle.mqtt_rules.proofs.step_lemmas.fit.Coherent.{IsFitMessage, IsFitCopy, IsFitPart, IsFit, Coheres, coheres_deed, assigned_more}
use Rattle.mqtt_rules.proofs.step_lemmas.acts.Names.{assigned_differ, assigned_starts}

-- ---- what is kept, and whom CONNECT names

abbrev pub Keeps : Broker → Type 0
Keeps b = Coheres b.records × (b.now ≤ LAST_NUMBER)

abbrev pub naming : About
naming = record anyone { client = λ client b. IsAssignedUpTo b.records.autos client }

-- ---- searches

-- what holds of each item holds of one that is among them
pub all_among : {X : Type 0} (P : X → Type 0) (x : X) (xs : List X) → AllByRecursion P xs → IsAmong x xs → P x
all_among P x [] h among = absurd among
all_among P x (y ∷ ys) h among = elim among [ inl it ↦ subst P it h.0 | inr more ↦ all_among P x ys h.1 more ]

none_passes : {X : Type 0} (test : X → Bool) (x : X) (xs : List X) → find test xs ≡ None → IsAmong x xs → test x ≡ false
none_passes test x [] e among = absurd among
none_passes test x (y ∷ ys) e among = elim (cases_Bool (test y)) [
  | inl here ↦ let no : Some y ≡ None = rw here at e in absurd cc
  | inr other ↦ elim among [ inl it ↦ ap test (sym it) ∙ other | inr more ↦ none_passes test x ys (rw other at e) more ]
]

-- a row found by its key is among the rows
pub row_is_among : {X : Type 0} (key : X → ℕ) (k : ℕ) (x : X) (xs : List X) → row_at key k xs ≡ Some x → IsAmong x xs
row_is_among key k x [] e = absurd cc
row_is_among key k x (y ∷ ys) e = elim (cases_Bool (nat_eq (key y) k)) [
  | inl here ↦ let first : Some y ≡ Some x = rw here at e in let it : y ≡ x = cc in inl it
  | inr other ↦ inr (row_is_among key k x ys (rw other at e))
]

-- what an option that was mapped holds
pub mapped_some : {X Y : Type 0} (f : X → Y) (o : Option X) (y : Y) → option_map f o ≡ Some y → (x : X) × (o ≡ Some x) × (f x ≡ y)
mapped_some f None y e = absurd cc
mapped_some f (Some x) y e = let it : f x ≡ y = cc in (x, refl, it)

-- texts that are equal are the same byte by byte
pub same_text : (a b : List ℕ) → a ≡ b → bytes_eq a b ≡ true
same_text a b is = (bytes_eq-Decides a b).1 is

-- ---- client identifiers

-- a session with this client identifier stands
client_found : (birth : ℕ) (client : List ℕ) (r : Records) → client_at birth r ≡ Some client → (s : Session) × IsAmong s r.sessions × (s.client ≡ client)
client_found birth client r e =
    let x = mapped_some (λ (s : Session). s.client) (session_at birth r) client e in
    (x.0, row_is_among birth_of birth x.0 r.sessions x.1, x.2)

-- a name by which no session is found is no session's name
pub name_is_new : (client : List ℕ) (r : Records) → session_named client r ≡ None → (birth : ℕ) → client_at birth r ≡ Some client → ⊥
name_is_new client r none birth there =
    let x = client_found birth client r there in
    let yes : bytes_eq x.0.client client ≡ true = same_text x.0.client client x.2 in
    let no : bytes_eq x.0.client client ≡ false = none_passes (λ (s : Session). bytes_eq s.client client) x.0 r.sessions none x.1 in
    let both : true ≡ false = sym yes ∙ no in
    absurd cc

-- one that the broker assigns next is that of no session
assigned_is_new : (r : Records) → AllByRecursion (IsCoherentSession r.autos r.subscribes) r.sessions → suc r.autos ≤ LAST_NUMBER → (birth : ℕ) → client_at birth r ≡ Some (auto ++ decimal (suc r.autos)) → ⊥
assigned_is_new r all le birth there =
    let client = auto ++ decimal (suc r.autos) in
    let x = client_found birth client r there in
    let its = (all_among (IsCoherentSession r.autos r.subscribes) x.0 r.sessions all x.1).0 in
    let given = its (ap (λ (text : List ℕ). starts_with nat_eq text auto) x.2 ∙ assigned_starts (suc r.autos)) in
    let up = given.1 in
    let same = assigned_differ (suc r.autos) given.0 (omega (arith, le)) (omega (arith, le, up)) (sym x.2 ∙ given.2) in
    absurd (omega (arith, same, up))

fourth_fails : (p q r t : Bool) (k l m n : ℕ) (rest : Option ℕ) → cond p (Some k) (cond q (Some l) (cond r (Some m) (cond t (Some n) rest))) ≡ None → t ≡ false
fourth_fails true q r t k l m n rest e = absurd cc
fourth_fails false true r t k l m n rest e = absurd cc
fourth_fails false false true t k l m n rest e = absurd cc
fourth_fails false false false true k l m n rest e = absurd cc
fourth_fails false false false false k l m n rest e = refl

-- one that CONNECT may name is assigned already, if it looks so
admitted_name : (c : Greeting) (b : Broker) → Keeps b → refusal c b.records ≡ None → IsAssignedUpTo b.records.autos c.client_identifier
admitted_name c b k e starts =
    let r = b.records in
    let fails = fourth_fails (has AuthenticationMethod c.properties) (nat_lt (largest_of c) least_packet_size) (nat_lt CLIENT_LIMIT (length c.client_identifier))
    (starts_with nat_eq c.client_identifier auto && is_none (session_named c.client_identifier r))
    bad_authentication_method packet_too_large client_identifier_not_valid client_identifier_not_valid (cond (has_bad_topic c.will) (Some topic_name_invalid) None) e
    in
    named (session_named c.client_identifier r) refl (ap (λ (t : Bool). t && is_none (session_named c.client_identifier r)) (sym starts) ∙ fails)
  where
    named : (o : Option Session) → session_named c.client_identifier b.records ≡ o → is_none (session_named c.client_identifier b.records) ≡ false
        → (n : ℕ) × (n ≤ b.records.autos) × (c.client_identifier ≡ auto ++ decimal n)
    named None is isnt = let yes : true ≡ false = ap is_none (sym is) ∙ isnt in absurd cc
    named (Some s) is isnt =
        let same : s.client ≡ c.client_identifier = (bytes_eq-Decides s.client c.client_identifier).0 (found_passes (λ (x : Session). bytes_eq x.client c.client_identifier) s b.records.sessions is) in
        let its = (all_among (IsCoherentSession b.records.autos b.records.subscribes) s b.records.sessions k.0.sessions (found_among _ s b.records.sessions is)).0 in
        let given = its (ap (λ (text : List ℕ). starts_with nat_eq text auto) same ∙ starts) in
        (given.0, given.1, sym same ∙ given.2)

-- a deed that fits lowers no counter of assigned names
pub autos_grow : (d : Deed) (b : Broker) → IsFit d b → b.records.autos ≤ (counts_after d (counts b.records)).autos
autos_grow (Name n) b fit = omega (arith, fit)
autos_grow (deeds.Accept number origin m) b fit = omega arith
autos_grow (deeds.Begin row will) b fit = omega arith
autos_grow (Count n) b fit = omega arith
autos_grow (At who part) b fit = omega arith
autos_grow (deeds.Finish who) b fit = omega arith
autos_grow (deeds.Keep kept) b fit = omega arith
autos_grow (deeds.Forget place) b fit = omega arith
autos_grow (deeds.RefuseWill who) b fit = omega arith
autos_grow (deeds.Link n) b fit = omega arith
autos_grow (deeds.On n part) b fit = omega arith
autos_grow (deeds.Send n packet) b fit = omega arith
autos_grow (deeds.Gone n) b fit = omega arith

name_stays : (client : List ℕ) (d : Deed) (b : Broker) → IsFit d b → IsAssignedUpTo b.records.autos client → IsAssignedUpTo (after d b).records.autos client
name_stays client d b fit its =
    subst (λ (c : Counts). IsAssignedUpTo c.autos client) (sym (counts_deed d b.records)) (assigned_more b.records.autos (counts_after d (counts b.records)).autos client (autos_grow d b fit) its)

-- ---- retained messages

room_more : (x : Bool) (n l m : ℕ) → l ≤ m → (x || nat_lt n l) ≡ true → (x || nat_lt n m) ≡ true
room_more true n l m le e = refl
room_more false n l m le e = let less = ltb-true n l e in lt-ltb n m (omega (arith, less, le))

-- the place of a topic is that of the message that has it
topic_place : (topic : List ℕ) (r : Records) (o : Option RetainedMessage) → retained_of topic r ≡ o → IsAscending kept_place r.retained → IsUnique (λ p. topic_at p r)
    → (p : ℕ) → topic_at p r ≡ Some topic → p ≡ place_of_kept o r.retained
topic_place topic r None is up unique p there =
    let x = mapped_some (λ (k : RetainedMessage). k.content.topic) (row_at kept_place p r.retained) topic there in
    let yes : is_topic topic x.0 ≡ true = same_text x.0.content.topic topic x.2 in
    let no = none_passes (is_topic topic) x.0 r.retained is (row_is_among kept_place p x.0 r.retained x.1) in
    let both : true ≡ false = sym yes ∙ no in
    absurd cc
topic_place topic r (Some k) is up unique p there =
    let among = found_among (is_topic topic) k r.retained is in
    let its : k.content.topic ≡ topic = (bytes_eq-Decides k.content.topic topic).0 (found_passes (is_topic topic) k r.retained is) in
    let here : row_at kept_place k.place r.retained ≡ Some k = all_among (λ (x : RetainedMessage). row_at kept_place x.place r.retained ≡ Some x) k r.retained (all_found kept_place r.retained up) among in
    unique p k.place topic there (ap (option_map (λ (x : RetainedMessage). x.content.topic)) here ∙ ap Some its)

fit_message : (env : Env) → AreWithin env.limits → (m : Message) (b : Broker) → Keeps b → m.retain ≡ true → is_empty m.payload ≡ false → finds_place env m b.records ≡ true
    → IsFitMessage (kept_message b.records.publications b.now m (place_of_kept (retained_of m.topic b.records) b.records.retained)) b.records
fit_message env within m b k is full found =
    let r = b.records in
    let o = retained_of m.topic r in
    let place = place_of_kept o r.retained in
    let fits = found_place m.retain (is_empty m.payload) (is_some o || nat_lt (length r.retained) env.limits.retained) is full found in
    record {
      publication = omega arith;
      arrived = k.1;
      room = room_more (has_row kept_place place r.retained) (length r.retained) env.limits.retained RETAINED_LIMIT within.retained (place_is_fit env m r.publications b.now r o refl fits);
      topic = topic_place m.topic r o refl k.0.ordered.retained.ascending k.0.topics;
    }

-- ---- copies

of_fits : (copy : MessageCopy) (n : ℕ) (ks : List RetainedMessage) → IsOf copy ks → AllByRecursion (IsCoherentMessage n) ks → (copy.id.publication ≤ n) × IsNumber copy.content.arrived
of_fits copy n [] of all = absurd of
of_fits copy n (k ∷ ks) of all = elim of [
  | inl it ↦
      let up = all.0.0 in
      let e = it.0 in
      (omega (arith, up, e), subst (λ (x : _). IsNumber x.arrived) it.1 all.0.1)
  | inr more ↦ of_fits copy n ks more all.1
]

fit_copy : (birth : ℕ) (copy : MessageCopy) (b : Broker) → Keeps b → IsMade birth copy b → IsFitCopy birth copy b.records
fit_copy birth copy b k made =
    let numbers : (copy.id.publication ≤ b.records.publications) × IsNumber copy.content.arrived = elim made.source [
      | inl it ↦ let at = it.1 in let now = k.1 in (it.0, omega (arith, at, now))
      | inr of ↦ of_fits copy b.records.publications b.records.retained of k.0.retained
    ] in
    record { its_birth = made.its_birth; publication = numbers.0; subscribe = made.cause; arrived = numbers.1 }

-- ---- open identifiers

abbrev open_of : Session → List ℕ
open_of s = s.inbound

open_will : (birth : ℕ) (will : Option Will) (k : ℕ) (r : Records) → field_at open_of k (changed_all (will_row birth will ∷ []) r) ≡ field_at open_of k r
open_will birth None k r = field_kept open_of birth k (with_will None) r (λ s. refl) (λ s. refl)
open_will birth (Some w) k r = field_kept open_of birth k (with_will (Some w)) r (λ s. refl) (λ s. refl)

open_part : (part : Part) (s : Session) (k : ℕ) (r : Records) → IsBeside (At (whose s) part) (record { records = r; lines = []; given = 0; now = 0; tellings = [] }) → field_at open_of k (changed_all (part_rows part s) r) ≡ field_at open_of k r
open_part (Resume expiry will) s k r beside =
    let row : Columns = record { birth = s.birth; client = s.client; expiry = expiry; closed = None } in
    open_will s.birth will k (changed (SetSession row) r) ∙ field_kept open_of s.birth k (with_columns row) r (λ t. refl) (λ t. refl)
open_part (Close moment) s k r beside = field_kept open_of s.birth k (with_columns (record { birth = s.birth; client = s.client; expiry = s.expiry; closed = Some moment })) r (λ t. refl) (λ t. refl)
open_part (SetExpiry expiry) s k r beside = field_kept open_of s.birth k (with_columns (record { birth = s.birth; client = s.client; expiry = expiry; closed = s.closed })) r (λ t. refl) (λ t. refl)
open_part DropWill s k r beside = field_kept open_of s.birth k (with_will None) r (λ t. refl) (λ t. refl)
open_part (Subscribe x) s k r beside = field_kept open_of s.birth k (with_subscription x) r (λ t. refl) (λ t. refl)
open_part (Unsubscribe text) s k r beside = field_kept open_of s.birth k (without_subscription text) r (λ t. refl) (λ t. refl)
open_part (Open id) s k r beside = absurd beside
open_part (Release id) s k r beside = absurd beside
open_part (Enter copy) s k r beside = field_kept open_of s.birth k (with_copy (new_entry copy s.queue)) r (λ t. refl) (λ t. refl)
open_part (Mark place phase) s k r beside = field_kept open_of s.birth k (with_phase place phase) r (λ t. refl) (λ t. refl)
open_part (Leave e ending) s k r beside = field_kept open_of s.birth k (without_copy e.place) r (λ t. refl) (λ t. refl)

open_deed : (d : Deed) (b : Broker) (k : ℕ) → IsBeside d b → field_at open_of k (after d b).records ≡ field_at open_of k b.records
open_deed (At who part) b k beside = by (session_at who.birth b.records)
  where
    by : (o : Option Session) → field_at open_of k (changed_all (part_rows_of part o) b.records) ≡ field_at open_of k b.records
    by None = refl
    by (Some s) = open_part part s k b.records beside
open_deed (deeds.On n part) b k beside = refl
open_deed (deeds.Send n packet) b k beside = refl
open_deed (deeds.Accept number origin m) b k beside = absurd beside
open_deed (deeds.Begin row will) b k beside = absurd beside
open_deed (Name n) b k beside = absurd beside
open_deed (Count n) b k beside = absurd beside
open_deed (deeds.Finish who) b k beside = absurd beside
open_deed (deeds.Keep kept) b k beside = absurd beside
open_deed (deeds.Forget place) b k beside = absurd beside
open_deed (deeds.RefuseWill who) b k beside = absurd beside
open_deed (deeds.Link n) b k beside = absurd beside
open_deed (deeds.Gone n) b k beside = absurd beside

open_deeds : (ds : List Deed) (b : Broker) (k : ℕ) → AreGood IsBeside ds b → field_at open_of k (after_all ds b).records ≡ field_at open_of k b.records
open_deeds [] b k beside = refl
open_deeds (d ∷ ds) b k beside = open_deeds ds (after d b) k beside.1 ∙ open_deed d b k beside.0

open_retained : (retain empty : Bool) (number : ℕ) (m : Message) (b : Broker) (k : ℕ) → field_at open_of k (after_all (retain_by retain empty number m b) b).records ≡ field_at open_of k b.records
open_retained false empty number m b k = refl
open_retained true true number m b k = forgotten (retained_of m.topic b.records)
  where
    forgotten : (o : Option RetainedMessage) → field_at open_of k (after_all (forgets o) b).records ≡ field_at open_of k b.records
    forgotten None = refl
    forgotten (Some x) = refl
open_retained true false number m b k = refl

-- a publication opens no identifier, and closes none
open_published : (env : Env) (m : Message) (ds : List CopyTo) (b : Broker) (k : ℕ) → field_at open_of k (after_all (publish env FromClient m ds b) b).records ≡ field_at open_of k b.records
open_published env m ds b k =
    let number = next_publication b.records in
    let c = after (deeds.Accept number FromClient m) b in
    let next = retain_by m.retain (is_empty m.payload) number m c in
    let d = after_all next c in
    let rest = series (map (deliver env) ds) d in
    ap (λ (x : Broker). field_at open_of k x.records) (after_append next rest c)
    ∙ open_deeds rest d k (good_series IsBeside (map (deliver env) ds) (good_acts IsBeside (deliver env) (beside_deliver env) ds) d)
    ∙ open_retained m.retain (is_empty m.payload) number m c k

new_has_room : (id : ℕ) (ids : List ℕ) → answer_to id ids ≡ New → HasRoomFor number_of OPEN_LIMIT id ids
new_has_room id ids new = elim (cases_Bool (is_among id ids)) [
  | inl taken ↦ let no : Again ≡ New = rw taken at new in absurd cc
  | inr free ↦ elim (cases_Bool (nat_lt (length ids) OPEN_LIMIT)) [
    | inl room ↦ or_is (has_row number_of id ids) (nat_lt (length ids) OPEN_LIMIT) room
    | inr full ↦ let no : Over ≡ New = rw (free, full) at new in absurd cc
  ]
]
  where
    or_is : (x y : Bool) → y ≡ true → (x || y) ≡ true
    or_is true y is = refl
    or_is false y is = is

fit_open : (env : Env) (s : Session) (id : ℕ) (m : Message) (ds : List CopyTo) (b : Broker) → session_at s.birth b.records ≡ Some s → answer_to id s.inbound ≡ New
    → IsFitPart s.birth (Open id) (after_all (publish env FromClient m ds b) b).records
fit_open env s id m ds b there new t here =
    let same : Some t.inbound ≡ Some s.inbound = ap (option_map open_of) (sym here) ∙ open_published env m ds b s.birth ∙ ap (option_map open_of) there in
    let is : s.inbound ≡ t.inbound = cc in
    subst (HasRoomFor number_of OPEN_LIMIT id) is (new_has_room id s.inbound new)

-- ---- subscriptions

-- a row that is dropped leaves its key free, and room
dropped_key : {X : Type 0} (key : X → ℕ) (keep : X → Bool) (y : X) (xs : List X) → IsAscending key xs → IsAmong y xs → keep y ≡ false → row_at key (key y) (filter keep xs) ≡ None
dropped_key key keep y [] up among isnt = absurd among
dropped_key key keep y (x ∷ xs) up among isnt = elim among [
  | inl it ↦
      let goes : keep x ≡ false = ap keep it ∙ isnt in
      rw goes (subst (λ (z : _). row_at key (key z) (filter keep xs) ≡ None) it (above_none key (key x) (filter keep xs) (above_filter key keep (key x) xs up.0)))
  | inr more ↦ elim (cases_Bool (keep x)) [
    | inl stays ↦
        let less = above_among key (key x) y xs up.0 more in
        rw (stays, apart (key x) (key y) (λ same. omega (arith, same, less))) (dropped_key key keep y xs up.1 more isnt)
    | inr goes ↦ rw goes (dropped_key key keep y xs up.1 more isnt)
  ]
]
  where
    above_filter : {X : Type 0} (key : X → ℕ) (keep : X → Bool) (n : ℕ) (xs : List X) → IsAbove key n xs → IsAbove key n (filter keep xs)
    above_filter key keep n [] up = tt
    above_filter key keep n (z ∷ zs) up = elim (cases_Bool (keep z)) [ inl stays ↦ rw stays (up.0, above_filter key keep n zs up.1) | inr goes ↦ rw goes (above_filter key keep n zs up.1) ]

    above_among : {X : Type 0} (key : X → ℕ) (n : ℕ) (y : X) (xs : List X) → IsAbove key n xs → IsAmong y xs → n < key y
    above_among key n y [] up among = absurd among
    above_among key n y (z ∷ zs) up among = elim among [ inl it ↦ subst (λ (w : _). n < key w) it up.0 | inr more ↦ above_among key n y zs up.1 more ]

dropped_length : {X : Type 0} (keep : X → Bool) (y : X) (xs : List X) → IsAmong y xs → keep y ≡ false → length (filter keep xs) < length xs
dropped_length keep y [] among isnt = absurd among
dropped_length keep y (x ∷ xs) among isnt = elim among [
  | inl it ↦
      let goes : keep x ≡ false = ap keep it ∙ isnt in
      let fewer = length-filter_le keep xs in
      rw goes (omega (arith, fewer))
  | inr more ↦
      let rest = dropped_length keep y xs more isnt in
      elim (cases_Bool (keep x)) [ inl stays ↦ rw stays (omega (arith, rest)) | inr goes ↦ rw goes (omega (arith, rest)) ]
]

below_of : (n : ℕ) (xs : List Subscription) → AllByRecursion (λ x. x.place ≤ n) xs → IsBelow place_of (suc n) xs
below_of n [] h = tt
below_of n (x ∷ xs) h = let le = h.0 in (omega (arith, le), below_of n xs h.1)

any_found : (test : Subscription → Bool) (xs : List Subscription) → find test xs ≡ None → list_any test xs ≡ false
any_found test [] e = refl
any_found test (x ∷ xs) e = elim (cases_Bool (test x)) [
  | inl here ↦ let no : Some x ≡ None = rw here at e in absurd cc
  | inr other ↦ rw other (any_found test xs (rw other at e))
]

fit_subscription : (number : ℕ) (s : Session) (w : sub.Wish) (o : Option Subscription)
    → find (sub.is_to w.filter) s.subscriptions ≡ o
    → IsAscending place_of s.subscriptions → length s.subscriptions ≤ SUBSCRIPTION_LIMIT → AllByRecursion (λ x. suc x.place ≤ number) s.subscriptions
    → (sub.has_filter w.filter s || nat_lt (length s.subscriptions) SUBSCRIPTION_LIMIT) ≡ true
    → (row_at place_of (sub.place_of number o) (without_filter w.filter s.subscriptions) ≡ None) × (length (without_filter w.filter s.subscriptions) < SUBSCRIPTION_LIMIT) × (sub.place_of number o ≤ number)
fit_subscription number s w None is up few low room =
    let others = λ (x : Subscription). not (bytes_eq x.filter w.filter) in
    let new : sub.has_filter w.filter s ≡ false = any_found (sub.is_to w.filter) s.subscriptions is in
    let free : nat_lt (length s.subscriptions) SUBSCRIPTION_LIMIT ≡ true = rw new at room in
    let less = ltb-true (length s.subscriptions) SUBSCRIPTION_LIMIT free in
    let fewer = length-filter_le others s.subscriptions in
    (below_none place_of number (filter others s.subscriptions) (below_filter place_of number others s.subscriptions (each_below s.subscriptions low)), omega (arith, less, fewer), omega arith)
  where
    each_below : (xs : List Subscription) → AllByRecursion (λ x. suc x.place ≤ number) xs → IsBelow place_of number xs
    each_below [] h = tt
    each_below (x ∷ xs) h = let le = h.0 in (omega (arith, le), each_below xs h.1)
fit_subscription number s w (Some y) is up few low room =
    let others = λ (x : Subscription). not (bytes_eq x.filter w.filter) in
    let among = found_among (sub.is_to w.filter) y s.subscriptions is in
    let its : others y ≡ false = ap not (found_passes (sub.is_to w.filter) y s.subscriptions is) in
    let fewer = dropped_length others y s.subscriptions among its in
    let le = all_among (λ (x : Subscription). suc x.place ≤ number) y s.subscriptions low among in
    (dropped_key place_of others y s.subscriptions up among its, omega (arith, few, fewer), omega (arith, le))

fit_subscribe : (env : Env) (w : sub.Wish) (s : Session) (b : Broker) → Keeps b → IsGranted env w s b
    → IsFitPart s.birth (Subscribe (sub.subscription (sub.next_number b.records) s w)) (after (Count (sub.next_number b.records)) b).records
fit_subscribe env w s b k granted t there =
    let r = b.records in
    let same : Some s ≡ Some t = sym granted.session ∙ there in
    let is : s ≡ t = cc in
    let tables = all_at birth_of _ s.birth s r.sessions k.0.ordered.each granted.session in
    let its = all_at birth_of (IsCoherentSession r.autos r.subscribes) s.birth s r.sessions k.0.sessions granted.session in
    let fits = fit_subscription (sub.next_number r) s w (find (sub.is_to w.filter) s.subscriptions) refl tables.subscriptions.ascending tables.subscriptions.within (lower s.subscriptions its.1) granted.fits in
    subst (λ (u : Session). TakesSubscription (sub.subscription (sub.next_number r) s w) (without_filter w.filter u.subscriptions) × (sub.place_among (sub.next_number r) w.filter s.subscriptions ≤ sub.next_number r)) is ((fits.0, fits.1), fits.2)
  where
    lower : (xs : List Subscription) → AllByRecursion (λ x. x.place ≤ b.records.subscribes) xs → AllByRecursion (λ x. suc x.place ≤ sub.next_number b.records) xs
    lower [] h = tt
    lower (x ∷ xs) h = let le = h.0 in (omega (arith, le), lower xs h.1)

-- ---- together

alone_fits : (who : Whose) (part : Part) (b : Broker) → is_alone part ≡ true → IsFit (At who part) b
alone_fits who (Resume expiry will) b is = absurd cc
alone_fits who (Close moment) b is = absurd cc
alone_fits who (Subscribe x) b is = absurd cc
alone_fits who (Open id) b is = absurd cc
alone_fits who (Enter copy) b is = absurd cc
alone_fits who (Mark place phase) b is = tt
alone_fits who (Leave e ending) b is = tt
alone_fits who (SetExpiry expiry) b is = tt
alone_fits who DropWill b is = tt
alone_fits who (Unsubscribe filter) b is = tt
alone_fits who (Release id) b is = tt

fewer_sessions : (env : Env) → AreWithin env.limits → (n : ℕ) → nat_lt n env.limits.sessions ≡ true → nat_lt n SESSION_LIMIT ≡ true
fewer_sessions env within n room = let less = ltb-true n env.limits.sessions room in let le = within.sessions in lt-ltb n SESSION_LIMIT (omega (arith, less, le))

-- every deed of every act fits what stands as it is done
pub fit_law : (env : Env) → AreWithin env.limits → DeedLaw env naming Keeps IsFit
fit_law env within = record {
  finds = record {
    its_number = λ l its. tt;
    its_session = λ l birth its e. tt;
    its_line = λ birth l b k its e. tt;
    named = λ client s b k its e. tt;
    admitted = λ c b k came e. admitted_name c b k e;
    sent = λ l s p topic b k its came e. tt;
    willed = λ s w b k among e. tt;
  };
  client_stays = λ client d b k fit its. name_stays client d b fit its;
  kept = λ d b k fit. (coheres_deed d b fit k.0, k.1);
  accept = λ origin m b k said. refl;
  keep = λ m b k said is full found. fit_message env within m b k is full found;
  forget = λ place b k. tt;
  enter = λ who copy b k made. fit_copy who.birth copy b k made;
  leave = λ who e ending b k. tt;
  refuse_will = λ who b k its. tt;
  open_id = λ s id m ds b k h its there new is. fit_open env s id m ds b there new;
  alone = λ who part b k its is. alone_fits who part b is;
  close = λ who b k its. k.1;
  finish = λ who b k its. tt;
  resume = λ who expiry will b k its. tt;
  name = λ b k. refl;
  begin_given = λ c b k came taken name is room. record {
    next = refl;
    room = fewer_sessions env within (length b.records.sessions) room;
    new = λ le birth there. name_is_new c.client_identifier b.records is birth there;
    name = name;
    connected = refl;
  };
  begin_assigned = λ c b k h came taken room. record {
    next = refl;
    room = fewer_sessions env within (length b.records.sessions) room;
    new = λ le birth there. assigned_is_new b.records k.0.sessions le birth there;
    name = λ starts. (suc b.records.autos, omega arith, refl);
    connected = refl;
  };
  count = λ b k. refl;
  subscribe = λ w s b k h its granted. fit_subscribe env w s b k granted;
  link = λ b k. tt;
  on_line = λ line part b k. tt;
  send = λ line packet b k. tt;
  gone = λ line b k. tt;
}

-- marking a copy, as turns do, fits
pub fit_mark : MarkLaw Keeps IsFit
fit_mark who place phase b k = tt
