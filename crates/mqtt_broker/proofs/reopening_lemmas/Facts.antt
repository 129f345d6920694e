-- What records that a broker has written have, part by part, and that such parts make them.
use Rattle.std.proofs.Common.{◌≡◌, ℕ, suc, ◌<◌, ◌≤◌, true, List, [], ◌∷◌, map, Option, Some, None, refl, sym, ap, subst, ◌∙◌, inl, inr, arith}
use Rattle.std.specs.Prelude.{◌≢◌, filter_map, option_map}
use Rattle.std.specs.List.{AllByRecursion}
use Rattle.mqtt_base.specs.Phases.{identifier_of, order_of}
use Rattle.mqtt_base.specs.Values.{FitsText}
use Rattle.mqtt_base.specs.declared.session.Cause.{Cause}
use Rattle.mqtt_base.specs.declared.session.Cause.TheVariants.{Direct, Share, Retained}
use Rattle.mqtt_base.specs.declared.session.Phase.{Phase}
use Rattle.mqtt_base.specs.declared.session.Phase.TheVariants.{Waiting, Sent, Released, Oversize}
use Rattle.mqtt_base.specs.declared.session.Qos.{Qos}
use Rattle.mqtt_base.specs.declared.session.Qos.TheVariants.{AtMostOnce, AtLeastOnce, ExactlyOnce}
use Rattle.mqtt_keep.specs.lawful.Lawful.{IsCause, IsLawful, IsLawfulCopy, IsLawfulQueue, IsLawfulRetained, IsLawfulSession, IsPhase, IsSubscription, AreSubscriptions, last_of}
use Rattle.mqtt_records.specs.messages.Queue.{CopyRow}
use Rattle.mqtt_records.specs.declared.messages.message.RetainedMessage.{RetainedMessage}
use Rattle.mqtt_records.specs.state.Contents.{SharesContents}
use Rattle.mqtt_records.specs.state.Records.{IsNumber, kept_place}
use Rattle.mqtt_records.specs.state.Session.{birth_of, copy_place}
use Rattle.mqtt_records.specs.declared.state.records.Records.{Records}
use Rattle.mqtt_records.specs.declared.state.session.Session.{Session}
use Rattle.mqtt_records.specs.declared.state.subscription.Subscription.{Subscription}
use Rattle.mqtt_records.specs.lists.Distinct.{AllDiffer}
use Rattle.mqtt_records.specs.lists.Order.{IsAscending, IsBelow, row_at}
use Rattle.mqtt_records.proofs.lists_lemmas.LookUps.{row_at-here}
use Rattle.mqtt_rules.specs.step.Contents.{HasContentsOf, HasLawfulContentsOf, IsAskedFor, IsCopiedOf, IsPublishedOf, of_packets}
use Rattle.mqtt_rules.specs.step.Flight.{HasDistinctIdentifiers, IsFlight, identifier_at, identifier_in}
use Rattle.mqtt_rules.specs.step.Laws.{HasTables, IsAmong, IsCoherent, IsUnique}
use Rattle.mqtt_rules.specs.step.Routing.{is_queued_at}
use Rattle.mqtt_rules.proofs.step_lemmas.numbers.Copies.{each_map, each_more}
use Rattle.mqtt_rules.proofs.step_lemmas.fit.FitLaw.{all_among}
use Rattle.mqtt_rules.proofs.step_lemmas.flight.FlightRows.{above_found, all_found, found_behind}
use Rattle.mqtt_rules.proofs.step_lemmas.fit.LawfulRecords.{lawful_coherent}
use Rattle.mqtt_rules.proofs.step_lemmas.contents.SpelledContents.{copy_message, retained_message, will_message}
use Rattle.mqtt_broker_step.specs.Subscribing.{HasEachFilterOnce, HaveFiltersOnce}
use Rattle.mqtt_broker_acts.proofs.calls_lemmas.Flights.{lawful_flight}
use Rattle.mqtt_broker.specs.reopening.Bounds.{HasBounds, HaveBounds, IsBoundCopy}
use Rattle.mqtt_broker.specs.reopening.Identities.{HasIdentities, HaveIdentities, IsGivenCause, IsGivenCopy}
use Rattle.mqtt_broker.specs.reopening.Names.{AreNamed}
use Rattle.mqtt_broker.specs.reopening.Phases.{HasItsPhase, HasPhases, HavePhases, IsPhaseOf}
use Rattle.mqtt_broker.specs.reopening.Places.{HasPlacesUpTo, HavePlacesApart}
use Rattle.mqtt_broker.specs.reopening.Texts.{HasFilter, HasTexts, HaveTexts, IsGroupOf}
use Rattle.mqtt_broker.specs.reopening.Times.{AreTimely, IsTimely, IsTimelyCopy, IsTimelyKept}
use Rattle.mqtt_broker.specs.reopening.Written.{IsWritten}
use Rattle.mqtt_broker.proofs.reopening_lemmas.Differ.{each_among}

-- what holds of records that a broker has written, part by part
pub record Facts (r : Records) : Type 0 where
  pub coherent : IsCoherent r
  pub timely : AreTimely r.moment r
  pub places : HavePlacesApart r
  pub phases : HavePhases r
  pub identities : HaveIdentities r
  pub bounds : HaveBounds r
  pub named : AreNamed r
  pub texts : HaveTexts r
  pub filters : HaveFiltersOnce r
  pub flight : HasDistinctIdentifiers r
  pub contents : HasLawfulContentsOf of_packets r
  pub shared : SharesContents r

-- ---- phases and causes

phase_of : (qos : Qos) (phase : Phase) → IsPhase qos phase → IsPhaseOf qos phase
phase_of AtMostOnce phase h = absurd h
phase_of AtLeastOnce Waiting h = tt
phase_of AtLeastOnce (Sent id) h = h
phase_of AtLeastOnce (Released id order) h = absurd h
phase_of AtLeastOnce (Oversize id order) h = absurd h
phase_of ExactlyOnce Waiting h = tt
phase_of ExactlyOnce (Sent id) h = h
phase_of ExactlyOnce (Released id order) h = (h.0, h.1.0)
phase_of ExactlyOnce (Oversize id order) h = (h.0, h.1.0)

queued_of : (qos : Qos) (phase : Phase) → IsPhase qos phase → is_queued_at qos ≡ true
queued_of AtMostOnce phase h = absurd h
queued_of AtLeastOnce phase h = refl
queued_of ExactlyOnce phase h = refl

order_within : (qos : Qos) (phase : Phase) → IsPhase qos phase → IsNumber (order_of phase)
order_within AtMostOnce phase h = absurd h
order_within AtLeastOnce Waiting h = omega arith
order_within AtLeastOnce (Sent id) h = omega arith
order_within AtLeastOnce (Released id order) h = absurd h
order_within AtLeastOnce (Oversize id order) h = absurd h
order_within ExactlyOnce Waiting h = omega arith
order_within ExactlyOnce (Sent id) h = omega arith
order_within ExactlyOnce (Released id order) h = h.1.1
order_within ExactlyOnce (Oversize id order) h = h.1.1

phase_whole : (qos : Qos) (phase : Phase) → is_queued_at qos ≡ true → IsPhaseOf qos phase → IsNumber (order_of phase) → IsPhase qos phase
phase_whole AtMostOnce phase q h le = absurd cc
phase_whole AtLeastOnce Waiting q h le = tt
phase_whole AtLeastOnce (Sent id) q h le = h
phase_whole AtLeastOnce (Released id order) q h le = absurd h
phase_whole AtLeastOnce (Oversize id order) q h le = absurd h
phase_whole ExactlyOnce Waiting q h le = tt
phase_whole ExactlyOnce (Sent id) q h le = h
phase_whole ExactlyOnce (Released id order) q h le = (h.0, (h.1, le))
phase_whole ExactlyOnce (Oversize id order) q h le = (h.0, (h.1, le))

cause_given : (m : ℕ) (c : Cause) → IsCause m c → IsGivenCause m c
cause_given m Direct h = tt
cause_given m (Share group) h = tt
cause_given m (Retained subscribe) h = h

cause_group : (m : ℕ) (c : Cause) → IsCause m c → IsGroupOf c
cause_group m Direct h = tt
cause_group m (Share group) h = h
cause_group m (Retained subscribe) h = tt

cause_whole : (m : ℕ) (c : Cause) → IsGivenCause m c → IsGroupOf c → IsCause m c
cause_whole m Direct h g = tt
cause_whole m (Share group) h g = g
cause_whole m (Retained subscribe) h g = h

-- ---- the parts of written records

module _ (r : Records) (w : IsWritten r) where
  abbrev Its : Session → Type 0
  Its = IsLawfulSession (last_of r)

  abbrev its : AllByRecursion Its r.sessions
  its = w.lawful.sessions.each

  timely_of : AreTimely r.moment r
  timely_of = record {
    sessions = each_more Its (IsTimely r.moment)
        (λ s h. record {
          birth = h.birth.0;
          closed = h.closed;
          subscriptions = each_more (IsSubscription r.subscribes) (λ x. 1 ≤ x.place) (λ x q. q.place.0) s.subscriptions h.subscriptions.each;
          queue = each_more (IsLawfulCopy (last_of r) s.birth) (IsTimelyCopy r.moment) (λ e q. record { place = q.due.place.0; arrived = q.due.arrived }) s.queue h.queue.each;
        }) r.sessions its;
    retained = each_more (IsLawfulRetained (last_of r)) (IsTimelyKept r.moment) (λ k q. record { place = q.place.0; arrived = q.arrived }) r.retained w.lawful.retained.each;
  }

  places_of : HavePlacesApart r
  places_of = record {
    ordered = (lawful_coherent r w.lawful).ordered;
    given = each_more Its (HasPlacesUpTo r.subscribes) (λ s h. each_more (IsSubscription r.subscribes) (λ x. x.place ≤ r.subscribes) (λ x q. q.place.1) s.subscriptions h.subscriptions.each) r.sessions its;
    differ = w.lawful.sessions.places;
  }

  phases_of : HavePhases r
  phases_of = each_more Its HasPhases
      (λ s h. record {
        each = each_more (IsLawfulCopy (last_of r) s.birth) HasItsPhase (λ e q. phase_of e.copy.qos e.phase q.phase) s.queue h.queue.each;
        orders = h.queue.orders;
      }) r.sessions its

  identities_of : HaveIdentities r
  identities_of = record {
    ordered = (lawful_coherent r w.lawful).ordered;
    sessions = each_more Its (HasIdentities r.publications r.subscribes)
        (λ s h. record {
          each = each_more (IsLawfulCopy (last_of r) s.birth) (λ e. IsGivenCopy r.publications r.subscribes e.copy)
              (λ e q. record { qos = queued_of e.copy.qos e.phase q.phase; publication = q.due.publication; cause = cause_given r.subscribes e.copy.id.cause q.cause }) s.queue h.queue.each;
          differ = h.queue.copies;
        }) r.sessions its;
    retained = each_more (IsLawfulRetained (last_of r)) (λ k. (1 ≤ k.publication) × (k.publication ≤ r.publications)) (λ k q. q.publication) r.retained w.lawful.retained.each;
    differ = w.publications;
  }

  bounds_of : HaveBounds r
  bounds_of = record {
    sessions = each_more Its HasBounds
        (λ s h. each_more (IsLawfulCopy (last_of r) s.birth) (IsBoundCopy s.birth)
        (λ e q. record { session = q.due.session; place = q.due.place.1; order = order_within e.copy.qos e.phase q.phase }) s.queue h.queue.each) r.sessions its;
    retained = each_more (IsLawfulRetained (last_of r)) (λ k. IsNumber k.place) (λ k q. q.place.1) r.retained w.lawful.retained.each;
  }

  named_of : AreNamed r
  named_of = record {
    assigned = each_more Its _ (λ s h. h.client.assigned) r.sessions its;
    short = λ le. each_more Its _ (λ s h. h.client.long.1) r.sessions its;
  }

  both : (s : Session) → Its s → AllByRecursion (λ x. FitsText x.filter) s.subscriptions → AllByRecursion HasFilter s.subscriptions
  both s h fits = each_among HasFilter s.subscriptions
      (λ x among. record {
        filter = (all_among (IsSubscription r.subscribes) x s.subscriptions h.subscriptions.each among).filter;
        fits = all_among (λ (y : Subscription). FitsText y.filter) x s.subscriptions fits among;
      })

  texts_of : HaveTexts r
  texts_of = each_among HasTexts r.sessions
      (λ s among.
      let h = all_among Its s r.sessions its among in
      record {
        named = h.client.long.0;
        inbound = h.inbound.each;
        subscriptions = both s h (all_among (λ (t : Session). AllByRecursion (λ x. FitsText x.filter) t.subscriptions) s r.sessions w.filters among);
        queue = each_more (IsLawfulCopy (last_of r) s.birth) (λ e. IsGroupOf e.copy.id.cause) (λ e q. cause_group r.subscribes e.copy.id.cause q.cause) s.queue h.queue.each;
      })

  -- records that a broker has written have all these parts
  pub facts_of : Facts r
  facts_of = record {
    coherent = lawful_coherent r w.lawful;
    timely = timely_of;
    places = places_of;
    phases = phases_of;
    identities = identities_of;
    bounds = bounds_of;
    named = named_of;
    texts = texts_of;
    filters = each_more Its HasEachFilterOnce (λ s h. record { differ = h.subscriptions.filters }) r.sessions its;
    flight = lawful_flight r w.lawful;
    contents = w.contents;
    shared = w.lawful.shared;
  }

-- ---- what is unique by what is found

unique_differ : {X N : Type 0} (key : X → ℕ) (name : X → N) (xs : List X) → IsAscending key xs → IsUnique (λ k. option_map name (row_at key k xs)) → AllDiffer (map name xs)
unique_differ key name [] up h = tt
unique_differ {X = X} {N = N} key name (x ∷ xs) up h = (
  each_map (λ n. name x ≢ n) name xs (each_among (λ y. name x ≢ name y) xs (λ y among e. clash y among e)),
  unique_differ key name xs up.1 (λ j k n one other. h j k n (further j n one) (further k n other)),
)
  where
    here : option_map name (row_at key (key x) (x ∷ xs)) ≡ Some (name x)
    here = ap (option_map name) (row_at-here key x xs)

    behind : (y : X) → IsAmong y xs → row_at key (key y) xs ≡ Some y
    behind y among = all_among (λ z. row_at key (key z) xs ≡ Some z) y xs (all_found key xs up.1) among

    clash : (y : X) → IsAmong y xs → name x ≡ name y → ⊥
    clash y among e =
        let found = behind y among in
        let same : key x ≡ key y = h (key x) (key y) (name x) here (ap (option_map name) (found_behind key (key y) y x xs up.0 found) ∙ ap Some (sym e)) in
        let less = above_found key (key x) (key y) y xs up.0 found in
        omega (arith, same, less)

    further : (k : ℕ) (n : N) → option_map name (row_at key k xs) ≡ Some n → option_map name (row_at key k (x ∷ xs)) ≡ Some n
    further k n e = by (row_at key k xs) refl e
      where
        by : (o : Option X) → row_at key k xs ≡ o → option_map name o ≡ Some n → option_map name (row_at key k (x ∷ xs)) ≡ Some n
        by None is e = absurd cc
        by (Some y) is e = ap (option_map name) (found_behind key k y x xs up.0 is) ∙ e

-- ---- packet identifiers

-- one that no place has
absent_identifier : (n : ℕ) (es : List CopyRow) → IsAscending copy_place es → ((place : ℕ) → identifier_at place es ≡ Some n → ⊥) → AllByRecursion (λ m. n ≢ m) (filter_map (λ (row : CopyRow). identifier_of row.phase) es)
absent_identifier n [] up none = tt
absent_identifier n (e ∷ es) up none = by (identifier_of e.phase) refl (absent_identifier n es up.1 (λ place is. none place (behind place is)))
  where
    behind : (place : ℕ) → identifier_at place es ≡ Some n → identifier_at place (e ∷ es) ≡ Some n
    behind place is = found (row_at copy_place place es) refl is
      where
        found : (o : Option CopyRow) → row_at copy_place place es ≡ o → identifier_in o ≡ Some n → identifier_at place (e ∷ es) ≡ Some n
        found None there is = absurd cc
        found (Some f) there is = ap identifier_in (found_behind copy_place place f e es up.0 there) ∙ is

    by : (o : Option ℕ) → identifier_of e.phase ≡ o → AllByRecursion (λ m. n ≢ m) (filter_map (λ (row : CopyRow). identifier_of row.phase) es) → AllByRecursion (λ m. n ≢ m) (filter_map (λ (row : CopyRow). identifier_of row.phase) (e ∷ es))
    by None is rest = rw is rest
    by (Some m) is rest = rw is ((λ same. none e.place (ap identifier_in (row_at-here copy_place e es) ∙ is ∙ ap Some (sym same))), rest)

flight_differ : (es : List CopyRow) → IsFlight es → AllDiffer (filter_map (λ (row : CopyRow). identifier_of row.phase) es)
flight_differ [] h = tt
flight_differ (e ∷ es) h = by (identifier_of e.phase) refl (flight_differ es (record { places = h.places.1; identifiers = λ j k id one other. h.identifiers j k id (behind j id one) (behind k id other) }))
  where
    behind : (place id : ℕ) → identifier_at place es ≡ Some id → identifier_at place (e ∷ es) ≡ Some id
    behind place id is = found (row_at copy_place place es) refl is
      where
        found : (o : Option CopyRow) → row_at copy_place place es ≡ o → identifier_in o ≡ Some id → identifier_at place (e ∷ es) ≡ Some id
        found None there is = absurd cc
        found (Some f) there is = ap identifier_in (found_behind copy_place place f e es h.places.0 there) ∙ is

    never : (id place : ℕ) → identifier_of e.phase ≡ Some id → identifier_at place es ≡ Some id → ⊥
    never id place its is = found (row_at copy_place place es) refl is
      where
        found : (o : Option CopyRow) → row_at copy_place place es ≡ o → identifier_in o ≡ Some id → ⊥
        found None there is = absurd cc
        found (Some f) there fits =
            let same : e.place ≡ place = h.identifiers e.place place id (ap identifier_in (row_at-here copy_place e es) ∙ its) (behind place id is) in
            let less = above_found copy_place e.place place f es h.places.0 there in
            omega (arith, same, less)

    by : (o : Option ℕ) → identifier_of e.phase ≡ o → AllDiffer (filter_map (λ (row : CopyRow). identifier_of row.phase) es) → AllDiffer (filter_map (λ (row : CopyRow). identifier_of row.phase) (e ∷ es))
    by None is rest = rw is rest
    by (Some id) is rest = rw is (absent_identifier id es h.places.1 (λ place there. never id place is there), rest)

-- ---- and what they make

copy_lawful : (r : Records) (birth : ℕ) (e : CopyRow) → IsTimelyCopy r.moment e → IsGivenCopy r.publications r.subscribes e.copy → IsBoundCopy birth e → HasItsPhase e → IsGroupOf e.copy.id.cause → IsCopiedOf of_packets e.copy
    → IsLawfulCopy (last_of r) birth e
copy_lawful r birth e timely given bound phase group content =
    let short = content.content.short in
    record {
      due = record { session = bound.session; place = (timely.place, bound.place); publication = given.publication; arrived = timely.arrived };
      phase = phase_whole e.copy.qos e.phase given.qos phase bound.order;
      cause = cause_whole r.subscribes e.copy.id.cause given.cause group;
      message = copy_message e.copy content;
      passed = record { spelled = content.content.fits; short = omega (arith, short); may = content.content.may; lawful = content.content.lawful };
    }

below_among : {X : Type 0} (key : X → ℕ) (n : ℕ) (x : X) (xs : List X) → IsBelow key n xs → IsAmong x xs → key x < n
below_among key n x [] h among = absurd among
below_among key n x (y ∷ ys) h among = elim among [ inl it ↦ subst (λ (z : _). key z < n) it h.0 | inr more ↦ below_among key n x ys h.1 more ]

module _ (r : Records) (f : Facts r) where
  module _ (s : Session) (among : IsAmong s r.sessions) where
    abbrev timely : IsTimely r.moment s
    timely = all_among (IsTimely r.moment) s r.sessions f.timely.sessions among

    abbrev tables : HasTables s
    tables = all_among HasTables s r.sessions f.coherent.ordered.each among

    abbrev given : HasIdentities r.publications r.subscribes s
    given = all_among (HasIdentities r.publications r.subscribes) s r.sessions f.identities.sessions among

    abbrev phases : HasPhases s
    phases = all_among HasPhases s r.sessions f.phases among

    abbrev texts : HasTexts s
    texts = all_among HasTexts s r.sessions f.texts among

    abbrev contents : HasContentsOf of_packets s
    contents = all_among (HasContentsOf of_packets) s r.sessions f.contents.sessions among

    abbrev places : HasPlacesUpTo r.subscribes s
    places = all_among (HasPlacesUpTo r.subscribes) s r.sessions f.places.given among

    queue_lawful : IsLawfulQueue (last_of r) s.birth s.queue
    queue_lawful = record {
      table = record { ascending = tables.queue.ascending; within = tables.queue.within };
      identifiers = flight_differ s.queue (all_among (λ (t : Session). IsFlight t.queue) s r.sessions f.flight among);
      orders = phases.orders;
      copies = given.differ;
      each = each_among (IsLawfulCopy (last_of r) s.birth) s.queue
          (λ e there. copy_lawful r s.birth e
          (all_among (IsTimelyCopy r.moment) e s.queue timely.queue there)
          (all_among (λ (x : CopyRow). IsGivenCopy r.publications r.subscribes x.copy) e s.queue given.each there)
          (all_among (IsBoundCopy s.birth) e s.queue (all_among HasBounds s r.sessions f.bounds.sessions among) there)
          (all_among HasItsPhase e s.queue phases.each there)
          (all_among (λ (x : CopyRow). IsGroupOf x.copy.id.cause) e s.queue texts.queue there)
          (all_among (λ (x : CopyRow). IsCopiedOf of_packets x.copy) e s.queue contents.queue there));
    }

    subscriptions_lawful : AreSubscriptions r.subscribes s.subscriptions
    subscriptions_lawful = record {
      table = record { ascending = tables.subscriptions.ascending; within = tables.subscriptions.within };
      each = each_among (IsSubscription r.subscribes) s.subscriptions
          (λ x there. record {
            place = (all_among (λ (y : Subscription). 1 ≤ y.place) x s.subscriptions timely.subscriptions there, all_among (λ (y : Subscription). y.place ≤ r.subscribes) x s.subscriptions places there);
            identifier = (all_among IsAskedFor x s.subscriptions contents.subscriptions there).identifier;
            filter = (all_among HasFilter x s.subscriptions texts.subscriptions there).filter;
          });
      filters = (all_among HasEachFilterOnce s r.sessions f.filters among).differ;
    }

    session_lawful : IsLawfulSession (last_of r) s
    session_lawful =
        let less = below_among birth_of (suc r.births) s r.sessions f.coherent.births among in
        record {
          birth = (timely.birth, omega (arith, less));
          closed = timely.closed;
          inbound = record { table = record { ascending = tables.inbound.ascending; within = tables.inbound.within }; each = texts.inbound };
          client = record {
            long = (texts.named, all_among _ s r.sessions (f.named.short f.coherent.counters.autos) among);
            assigned = all_among _ s r.sessions f.named.assigned among;
          };
          will = will_message s.will contents.will;
          subscriptions = subscriptions_lawful;
          queue = queue_lawful;
        }

  retained_lawful : (k : RetainedMessage) → IsAmong k r.retained → IsLawfulRetained (last_of r) k
  retained_lawful k among =
      let timely = all_among (IsTimelyKept r.moment) k r.retained f.timely.retained among in
      record {
        place = (timely.place, all_among (λ (x : RetainedMessage). IsNumber x.place) k r.retained f.bounds.retained among);
        publication = all_among (λ (x : RetainedMessage). (1 ≤ x.publication) × (x.publication ≤ r.publications)) k r.retained f.identities.retained among;
        arrived = timely.arrived;
        message = retained_message k.content (all_among (λ (x : RetainedMessage). IsPublishedOf of_packets x.content) k r.retained f.contents.retained among);
      }

  lawful : IsLawful r
  lawful = record {
    numbers = record {
      births = f.coherent.counters.births;
      publications = f.coherent.counters.publications;
      subscribes = f.coherent.counters.subscribes;
      autos = f.coherent.counters.autos;
      moment = f.coherent.counters.moment;
    };
    sessions = record {
      table = record { ascending = f.coherent.ordered.sessions.ascending; within = f.coherent.ordered.sessions.within };
      clients = unique_differ birth_of (λ s. s.client) r.sessions f.coherent.ordered.sessions.ascending f.coherent.clients;
      places = f.places.differ;
      each = each_among (IsLawfulSession (last_of r)) r.sessions session_lawful;
    };
    retained = record {
      table = record { ascending = f.coherent.ordered.retained.ascending; within = f.coherent.ordered.retained.within };
      topics = unique_differ kept_place (λ k. k.content.topic) r.retained f.coherent.ordered.retained.ascending f.coherent.topics;
      each = each_among (IsLawfulRetained (last_of r)) r.retained retained_lawful;
    };
    shared = f.shared;
  }

  -- records with all these parts are such as a broker has written
  pub written : IsWritten r
  written = record {
    lawful = lawful;
    contents = f.contents;
    filters = each_more HasTexts (λ s. AllByRecursion (λ x. FitsText x.filter) s.subscriptions) (λ s h. each_more HasFilter (λ x. FitsText x.filter) (λ x q. q.fits) s.subscriptions h.subscriptions) r.sessions f.texts;
    publications = f.identities.differ;
  }
