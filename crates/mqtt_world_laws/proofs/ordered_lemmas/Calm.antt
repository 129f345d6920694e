-- Once a publisher is connected no PUBLISH of its is under way on the line that it gave up last (MQTT 5.0, 3.1.4, 4.4).
use Rattle.std.proofs.Common.{◌≡◌, ℕ, ◌≤◌, Bool, false, List, [], ◌∷◌, Option, refl, sym, ap, subst, ◌∙◌, inl, inr}
use Rattle.std.specs.Prelude.{filter_map}
use Rattle.std.specs.List.{cons_option}
use Rattle.mqtt_flow.specs.inbound.Line.{Link, away, asked, live}
use Rattle.mqtt_flow.specs.inbound.Publisher.{CONNACK, CONNACK_REFUSED, CONNECT, Fate, FromPublisher, ToPublisher}
use Rattle.mqtt_flow.specs.inbound.InboundWorld.{World as Hop}
use Rattle.mqtt_flow.proofs.inbound_lemmas.inbound.Stages as stages
use Rattle.mqtt_flow.proofs.inbound_lemmas.inbound.Stages.{Calm, Good, is_answered, is_asking, is_away, is_live, is_shut, is_turned}
use Rattle.mqtt_flow.proofs.inbound_lemmas.inbound.Runs.{is_good}
use Rattle.mqtt_rules.specs.step.Laws.{IsAmong}
use Rattle.mqtt_rules.specs.step.State.{Broker}
use Rattle.mqtt_world_model.specs.model.Ends.{Publisher, Sent, plain, shake}
use Rattle.mqtt_world_model.specs.model.Seen.{heard_in, seen, shaken}
use Rattle.mqtt_world_laws.proofs.acceptance_lemmas.publishers.Around.{Placed}
use Rattle.mqtt_world_laws.proofs.ordered_lemmas.UnderWay.{has_publish, is_publish_of, neither}
use Rattle.mqtt_world_laws.proofs.ordered_lemmas.Sending.{IsCalm}

-- ---- in its hop

by_live : (link : Link) (clean linked stands : Bool) (up : List FromPublisher) (down : List ToPublisher) (old : List FromPublisher) (fates : List Fate) → Calm link clean linked stands up down old fates → link ≡ live → stages.IsLate old
by_live link clean linked stands up down old fates (is_away e l u d) is = let clash : away ≡ live = sym e ∙ is in absurd cc
by_live link clean linked stands up down old fates (is_asking e l u d) is = let clash : asked ≡ live = sym e ∙ is in absurd cc
by_live link clean linked stands up down old fates (is_shut e l u d) is = let clash : asked ≡ live = sym e ∙ is in absurd cc
by_live link clean linked stands up down old fates (is_turned code e l u d) is = let clash : asked ≡ live = sym e ∙ is in absurd cc
by_live link clean linked stands up down old fates (is_answered present rest e u d quiet late none there) is = late
by_live link clean linked stands up down old fates (is_live e none late there) is = late

-- it is connected
live_late : (h : Hop) → Good h → h.link ≡ live → stages.IsLate h.old
live_late h (inl norm) is = by_live h.link h.clean h.linked h.stands h.up h.down h.old h.fates norm.calm is
live_late h (inr fresh) is = fresh.late

by_connack : (link : Link) (clean linked stands : Bool) (up : List FromPublisher) (down : List ToPublisher) (old : List FromPublisher) (fates : List Fate) (present : Bool) (rest : List ToPublisher) → Calm link clean linked stands up down old fates
    → link ≡ asked → down ≡ CONNACK present ∷ rest → stages.IsLate old
by_connack link clean linked stands up down old fates present rest (is_away e l u d) is come = let clash : away ≡ asked = sym e ∙ is in absurd cc
by_connack link clean linked stands up down old fates present rest (is_asking e l u d) is come = let clash : [] ≡ CONNACK present ∷ rest = sym d ∙ come in absurd cc
by_connack link clean linked stands up down old fates present rest (is_shut e l u d) is come = let clash : [] ≡ CONNACK present ∷ rest = sym d ∙ come in absurd cc
by_connack link clean linked stands up down old fates present rest (is_turned code e l u d) is come = let clash : CONNACK_REFUSED code ∷ [] ≡ CONNACK present ∷ rest = sym d ∙ come in absurd cc
by_connack link clean linked stands up down old fates present rest (is_answered present_ rest_ e u d quiet late none there) is come = late
by_connack link clean linked stands up down old fates present rest (is_live e none late there) is come = late

-- CONNACK comes to it
connack_late : (h : Hop) (present : Bool) (rest : List ToPublisher) → Good h → h.link ≡ asked → h.down ≡ CONNACK present ∷ rest → stages.IsLate h.old
connack_late h present rest (inl norm) is come = by_connack h.link h.clean h.linked h.stands h.up h.down h.old h.fates present rest norm.calm is come
connack_late h present rest (inr fresh) is come = fresh.late

-- ---- of its packets

module _ (m : ℕ) where
  none_shaken : (xs : List Sent) → filter_map shaken xs ≡ [] → has_publish m xs ≡ false
  none_shaken [] e = refl
  none_shaken (shake packet ∷ xs) e = absurd cc
  none_shaken (plain content ∷ xs) e = none_shaken xs e

  connect_alone : (xs : List Sent) → filter_map shaken xs ≡ CONNECT false ∷ [] → has_publish m xs ≡ false
  connect_alone [] e = absurd cc
  connect_alone (shake packet ∷ xs) e =
      let is : packet ≡ CONNECT false = cc in
      let rest : filter_map shaken xs ≡ [] = cc in
      neither (is_publish_of m (shake packet)) (has_publish m xs) (ap (λ (q : FromPublisher). is_publish_of m (shake q)) is) (none_shaken xs rest)
  connect_alone (plain content ∷ xs) e = connect_alone xs e

  late_none : (xs : List Sent) → stages.IsLate (filter_map shaken xs) → has_publish m xs ≡ false
  late_none xs (inl none) = none_shaken xs none
  late_none xs (inr alone) = connect_alone xs alone

  -- so it is calm wherever a run has come to
  pub placed_calm : (his accepted : List ℕ) (p : Publisher) (b : Broker) → Placed his p b accepted → ((j : ℕ) → IsAmong j his → j ≤ b.given) → IsCalm m p b
  placed_calm his accepted p b placed known = record {
    late = λ is. late_none p.line.old (live_late h good is);
    greeted = λ d rest present down hears is.
        let come : filter_map heard_in (d ∷ rest) ≡ CONNACK present ∷ filter_map heard_in rest = ap (λ (o : Option ToPublisher). cons_option o (filter_map heard_in rest)) hears in
        late_none p.line.old (connack_late h present (filter_map heard_in rest) good is (ap (filter_map heard_in) down ∙ come));
    given = λ j is. known j (placed.number j is);
  }
    where
      h : Hop
      h = seen accepted p b

      good : Good h
      good = subst Good (sym placed.run.seen_is) (is_good placed.run.events)
