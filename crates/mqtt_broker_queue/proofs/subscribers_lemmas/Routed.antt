-- What a publication becomes by an index of the subscriptions.
use Rattle.std.proofs.Common.{◌≡◌, ℕ, Bool, true, false, List, [], ◌∷◌, ◌++◌, map, refl, ap, sym, subst, ◌∙◌}
use Rattle.std.specs.Prelude.{Option, Some, None, option_map, flat_map}
use Rattle.std.specs.List.{AllByRecursion}
use Rattle.std.proofs.lemmas.List.{map-append}
use Rattle.mqtt_base.specs.declared.session.Cause.{Cause}
use Rattle.mqtt_base.specs.declared.session.Cause.TheVariants.{Direct, Share}
use Rattle.mqtt_records.specs.declared.messages.message.MessageCopy.{MessageCopy}
use Rattle.mqtt_records.specs.messages.Queue.{IsSpelled}
use Rattle.mqtt_records.specs.state.Session.{birth_of}
use Rattle.mqtt_routes.specs.routing.Subscriptions.{Subscriber}
use Rattle.mqtt_base.specs.Service.{qos_number}
use Rattle.mqtt_routes.specs.routing.Intended.{Copy, published}
use Rattle.mqtt_routes.specs.routing.Acceptance as acceptance
use Rattle.mqtt_routes.specs.routing.Acceptance.{Routed, Served, copies_in, has_takers}
use Rattle.mqtt_routes.proofs.routing_lemmas.SomeLemmas.{alike}
use Rattle.mqtt_routes.proofs.routing_lemmas.TakerLemmas.{routed_wanted}
use Rattle.mqtt_records.specs.lists.Order.{IsAscending}
use Rattle.mqtt_rules.specs.step.State.{MemberChoice}
use Rattle.mqtt_rules.specs.step.Deeds.{Message}
use Rattle.mqtt_rules.specs.step.Routing.{CopyTo, accepted_copies, accepted_if, copies_to, copy_to, finds_place, next_publication, publication_of, routing_of, served_copies_to, subscribers}
use Rattle.mqtt_rules.proofs.step_lemmas.order.OrderedAccepted.{accepted_within}
use Rattle.mqtt_broker_step.specs.Stepping.{Stepping, env_in}
use Rattle.mqtt_broker_queue.specs.publications.Choosing.{IsAccepted, IsLawfulMessage, IsRefused, IsRouted}
use Rattle.mqtt_broker_queue.specs.declared.publications.router.Routing.{Routing}
use Rattle.mqtt_broker_queue.specs.declared.publications.router.Routing.TheVariants.{Refused, Accepted}
use Rattle.mqtt_broker_queue.specs.publications.Delivering.{addressed, addressed_all}
use Rattle.mqtt_broker_queue.specs.subscribers.Indexing.{IsFound, IsTakenAs, Serves, all_copied, answers_in, copied, served_copied}
use Rattle.mqtt_broker_queue.proofs.subscribers_lemmas.Spelled.{all_spelled}

-- ---- copies and the sessions in their names

addressed_some : (number moment : ℕ) (m : Message) (cause : Cause) (cs : List Copy) → addressed_all (map (copied number moment m cause) cs) ≡ map (copy_to number moment m cause) cs
addressed_some number moment m cause [] = refl
addressed_some number moment m cause (c ∷ cs) = ap (λ zs. copy_to number moment m cause c ∷ zs) (addressed_some number moment m cause cs)

addressed_served : (number moment : ℕ) (m : Message) (ss : List Served) → addressed_all (flat_map (served_copied number moment m) ss) ≡ flat_map (served_copies_to number moment m) ss
addressed_served number moment m [] = refl
addressed_served number moment m (s ∷ ss) =
    map-append addressed (served_copied number moment m s) (flat_map (served_copied number moment m) ss)
    ∙ (ap (λ (zs : List CopyTo). zs ++ addressed_all (flat_map (served_copied number moment m) ss)) (addressed_some number moment m (Share s.group) (copies_in s.copy))
    ∙ ap (λ (zs : List CopyTo). served_copies_to number moment m s ++ zs) (addressed_served number moment m ss))

addressed_copied : (number moment : ℕ) (m : Message) (r : Routed) → addressed_all (all_copied number moment m r) ≡ copies_to number moment m r
addressed_copied number moment m r =
    map-append addressed (map (copied number moment m Direct) r.direct) (flat_map (served_copied number moment m) r.served)
    ∙ (ap (λ (zs : List CopyTo). zs ++ addressed_all (flat_map (served_copied number moment m) r.served)) (addressed_some number moment m Direct r.direct)
    ∙ ap (λ (zs : List CopyTo). map (copy_to number moment m Direct) r.direct ++ zs) (addressed_served number moment m r.served))

-- ---- what the index answers is what the rules say

abbrev route_of : Message → Stepping → List Subscriber → List ℕ → Option Routed
route_of m s xs members = acceptance.routed (answers_in s) (publication_of m) members xs

routed_same : (m : Message) (s : Stepping) (table : List Subscriber) (members : List ℕ) (o : Option Routed) (choice : MemberChoice) → Serves table (subscribers s.broker.records)
    → route_of m s table members ≡ o → choice (next_publication s.broker.records) m.sender ≡ members → routing_of (env_in choice s) m s.broker.records ≡ o
routed_same m s table members o choice serves is chosen =
    ap (λ ms. route_of m s (subscribers s.broker.records) ms) chosen
    ∙ (sym (alike (answers_in s) (publication_of m) members table (subscribers s.broker.records) serves.same).same_routed ∙ is)

accepted_same : (m : Message) (s : Stepping) (place : Bool) (o : Option Routed) (choice : MemberChoice) → finds_place (env_in choice s) m s.broker.records ≡ place
    → routing_of (env_in choice s) m s.broker.records ≡ o
    → accepted_copies (env_in choice s) m s.broker ≡ accepted_if place (option_map (copies_to (next_publication s.broker.records) s.broker.now m) o)
accepted_same m s place o choice finds is =
    ap (λ t. accepted_if t (option_map (copies_to (next_publication s.broker.records) s.broker.now m) (routing_of (env_in choice s) m s.broker.records))) finds
    ∙ ap (λ x. accepted_if place (option_map (copies_to (next_publication s.broker.records) s.broker.now m) x)) is

-- no place for a message that is to be retained
pub refused_place : (m : Message) (s : Stepping) → ((choice : MemberChoice) → false ≡ finds_place (env_in choice s) m s.broker.records) → IsRefused m s
refused_place m s none = record {
  members = [];
  refused = λ choice chosen. accepted_same m s false (routing_of (env_in choice s) m s.broker.records) choice (sym (none choice)) refl;
}

-- no room in a queue
pub refused_room : (m : Message) (s : Stepping) (table : List Subscriber) → Serves table (subscribers s.broker.records)
    → ((choice : MemberChoice) → true ≡ finds_place (env_in choice s) m s.broker.records) → IsFound m s table None → IsRefused m s
refused_room m s table serves place found = record {
  members = found.0;
  refused = λ choice chosen. accepted_same m s true None choice (sym (place choice)) (routed_same m s table found.0 None choice serves found.1 chosen);
}

-- a message that the index routes is accepted by the rules, with just these copies
pub accepted_is : (m : Message) (s : Stepping) (table : List Subscriber) (r : Routed) (number moment : ℕ) (copies : List MessageCopy) (wanted : Bool) → Serves table (subscribers s.broker.records)
    → IsLawfulMessage m → IsAscending birth_of s.broker.records.sessions → ((choice : MemberChoice) → true ≡ finds_place (env_in choice s) m s.broker.records) → IsFound m s table (Some r)
    → number ≡ next_publication s.broker.records → moment ≡ s.broker.now → copies ≡ all_copied number moment m r → wanted ≡ has_takers r → IsAccepted m s copies wanted
accepted_is m s table r number moment copies wanted serves lawful up place found number_is moment_is copies_are wanted_is =
    let next = next_publication s.broker.records in
    let are : copies ≡ all_copied next s.broker.now m r =
    copies_are ∙ (ap (λ n. all_copied n moment m r) number_is ∙ ap (λ t. all_copied next t m r) moment_is) in
    let to : addressed_all copies ≡ copies_to next s.broker.now m r = ap addressed_all are ∙ addressed_copied next s.broker.now m r in
    let accepted : (choice : MemberChoice) → choice next m.sender ≡ found.0 → accepted_copies (env_in choice s) m s.broker ≡ Some (addressed_all copies) =
    λ choice chosen. accepted_same m s true (Some r) choice (sym (place choice)) (routed_same m s table found.0 (Some r) choice serves found.1 chosen)
    ∙ ap (λ (ds : List CopyTo). Some ds) (sym to) in
    record {
      members = found.0;
      accepted = accepted;
      is_wanted = λ choice.
          sym (alike (answers_in s) (publication_of m) found.0 table (subscribers s.broker.records) serves.same).same_wanted
          ∙ (routed_wanted (answers_in s) (publication_of m) found.0 table r found.1 ∙ sym wanted_is);
      spelled = subst (λ (xs : List MessageCopy). AllByRecursion IsSpelled xs) (sym are)
          (all_spelled next s.broker.now m lawful (answers_in s) (publication_of m) found.0 table r serves.lawful found.1);
      room = λ choice birth.
          accepted_within (env_in (λ n sender. found.0) s) m s.broker (addressed_all copies) birth (accepted (λ n sender. found.0) refl) up;
    }

four : {A B C D R : Type 0} (mk : A → B → C → D → R) {a1 a2 : A} {b1 b2 : B} {c1 c2 : C} {d1 d2 : D} → a1 ≡ a2 → b1 ≡ b2 → c1 ≡ c2 → d1 ≡ d2 → mk a1 b1 c1 d1 ≡ mk a2 b2 c2 d2
four mk p q r s = cc

-- by what the table was asked
pub asked_of : (s : Stepping) (m : Message) (table : List Subscriber) (sender topic : List ℕ) (qos : ℕ) (retain : Bool) (members : List ℕ) (o : Option Routed)
    → sender ≡ m.sender → topic ≡ m.topic → qos ≡ qos_number m.qos → retain ≡ m.retain
    → acceptance.routed (answers_in s) (published sender topic qos retain) members table ≡ o → IsFound m s table o
asked_of s m table sender topic qos retain members o a b c d is =
    (members, ap (λ p. acceptance.routed (answers_in s) p members table) (sym (four published a b c d)) ∙ is)

-- what is made of a routed message is what the rules route
pub taken_is : (routing : Routing) (m : Message) (s : Stepping) (table : List Subscriber) (r : Routed) → Serves table (subscribers s.broker.records) → IsLawfulMessage m
    → IsAscending birth_of s.broker.records.sessions → ((choice : MemberChoice) → true ≡ finds_place (env_in choice s) m s.broker.records) → IsFound m s table (Some r)
    → IsTakenAs m s r routing → IsRouted m s routing
taken_is Refused m s table r serves lawful up place found taken = absurd taken
taken_is (Accepted copies wanted) m s table r serves lawful up place found taken =
    accepted_is m s table r (next_publication s.broker.records) s.broker.now copies wanted serves lawful up place found refl refl taken.0 taken.1
