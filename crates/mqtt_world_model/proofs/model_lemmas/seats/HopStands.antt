-- A session of the hop that stands stands after every event.
use Rattle.std.proofs.Common.{◌≡◌, Bool, true, false, List, [], ◌∷◌, ◌++◌, map, refl, ◌∙◌, if◌then◌else◌}
use Rattle.mqtt_flow.specs.inbound.Line.{Link, away, asked, live, sent_on}
use Rattle.mqtt_flow.specs.inbound.Publisher.{Qos, FromPublisher, CONNECT, PUBLISH_1, PUBLISH_2, PUBREL, ToPublisher, CONNACK, CONNACK_REFUSED, PUBACK, PUBREC, PUBCOMP, DISCONNECT, resent_from, on_new_session, on_puback, on_pubrec, on_pubcomp, pubrel_for}
use Rattle.mqtt_flow.specs.inbound.InboundWorld.{World as Hop, Event as HopEvent, Choice, publish, to_broker, old_to_broker, to_end, give_up, break, connect, close, close_old, restart, send_one, send_all, send_unsent, on_connack, on_packet, publisher_reads, on_connect, taken_over, on_old_connect, broker_reads, broker_reads_old, on_give_up, on_join, step, run}

one_stands : (t : Bool) (v w : Hop) → v.stands ≡ w.stands → (if t then v else w).stands ≡ w.stands
one_stands true v w e = e
one_stands false v w e = refl

all_stand : (qs : List Qos) (w : Hop) → (send_all qs w).stands ≡ w.stands
all_stand [] w = refl
all_stand (q ∷ qs) w = all_stand qs (send_one q qs w) ∙ one_stands _ _ w refl

unsent_stands : (link : Link) (w : Hop) → (send_unsent link w).stands ≡ w.stands
unsent_stands away w = refl
unsent_stands asked w = refl
unsent_stands live w = all_stand w.unsent w

connack_stands : (link : Link) (present : Bool) (w : Hop) → (on_connack link present w).stands ≡ w.stands
connack_stands away present w = refl
connack_stands live present w = refl
connack_stands asked true w = unsent_stands live (record w { link = live; clean = false; up = sent_on w.linked w.up (resent_from 0 w.fates) })
connack_stands asked false w = unsent_stands live (record w { link = live; clean = false; fates = map on_new_session w.fates })

packet_stands : (packet : ToPublisher) (w : Hop) → (on_packet packet w).stands ≡ w.stands
packet_stands (CONNACK present) w = connack_stands w.link present w
packet_stands (CONNACK_REFUSED code) w = refl
packet_stands (PUBACK id code) w = unsent_stands w.link (record w { fates = map (on_puback id code) w.fates })
packet_stands (PUBREC id code) w = unsent_stands w.link (record w { fates = map (on_pubrec id code) w.fates; up = sent_on w.linked w.up (pubrel_for id code w.fates) })
packet_stands (PUBCOMP id code) w = unsent_stands w.link (record w { fates = map (on_pubcomp id) w.fates })
packet_stands (DISCONNECT code) w = refl

reads_stands : (ps : List ToPublisher) (w : Hop) → (publisher_reads ps w).stands ≡ w.stands
reads_stands [] w = refl
reads_stands (p ∷ ps) w = packet_stands p (record w { down = ps })

connect_stands : (s clean : Bool) (choice : Choice) (rest : List FromPublisher) (w : Hop) → s ≡ true → w.stands ≡ true → (on_connect s clean choice rest w).stands ≡ true
connect_stands false clean choice rest w is h = absurd cc
connect_stands true false choice rest w is h = h
connect_stands true true choice rest w is h = h

over_stands : (t : Bool) (w : Hop) → (taken_over t w).stands ≡ w.stands
over_stands true w = refl
over_stands false w = refl

old_connect_stands : (s clean : Bool) (choice : Choice) (rest : List FromPublisher) (w : Hop) → s ≡ true → w.stands ≡ true → (on_old_connect s clean choice rest w).stands ≡ true
old_connect_stands false clean choice rest w is h = absurd cc
old_connect_stands true false choice rest w is h = over_stands w.linked (record w { old = rest }) ∙ h
old_connect_stands true true choice rest w is h = over_stands w.linked (record w { old = rest; ids = [] }) ∙ h

broker_stands : (choice : Choice) (ps : List FromPublisher) (w : Hop) → w.stands ≡ true → (broker_reads choice ps w).stands ≡ true
broker_stands choice [] w h = h
broker_stands choice (CONNECT clean ∷ rest) w h = connect_stands w.stands clean choice rest w h h
broker_stands choice (PUBLISH_1 id n dup ∷ rest) w h = h
broker_stands choice (PUBLISH_2 id n dup ∷ rest) w h = h
broker_stands choice (PUBREL id ∷ rest) w h = h

old_stands : (choice : Choice) (ps : List FromPublisher) (w : Hop) → w.stands ≡ true → (broker_reads_old choice ps w).stands ≡ true
old_stands choice [] w h = h
old_stands choice (CONNECT clean ∷ rest) w h = old_connect_stands w.stands clean choice rest w h h
old_stands choice (PUBLISH_1 id n dup ∷ rest) w h = h
old_stands choice (PUBLISH_2 id n dup ∷ rest) w h = h
old_stands choice (PUBREL id ∷ rest) w h = h

gives_stands : (link : Link) (clean : Bool) (w : Hop) → (on_give_up link clean w).stands ≡ w.stands
gives_stands away clean w = refl
gives_stands asked true w = refl
gives_stands asked false w = refl
gives_stands live clean w = refl

joins_stands : (link : Link) (clean : Bool) (w : Hop) → (on_join link clean w).stands ≡ w.stands
joins_stands away clean w = refl
joins_stands asked clean w = refl
joins_stands live clean w = refl

-- a publisher that stands goes on standing
pub stands_stays : (e : HopEvent) (w : Hop) → w.stands ≡ true → (step w e).stands ≡ true
stands_stays (publish qos) w h = unsent_stands w.link (record w { unsent = w.unsent ++ qos ∷ [] }) ∙ h
stands_stays (to_broker choice) w h = broker_stands choice w.up w h
stands_stays (old_to_broker choice) w h = old_stands choice w.old w h
stands_stays to_end w h = reads_stands w.down w ∙ h
stands_stays give_up w h = gives_stands w.link w.clean w ∙ h
stands_stays break w h = h
stands_stays (connect clean) w h = joins_stands w.link clean w ∙ h
stands_stays (close code) w h = h
stands_stays close_old w h = h
stands_stays restart w h = h

-- so it does in every run
pub stands_run : (es : List HopEvent) (w : Hop) → w.stands ≡ true → (run es w).stands ≡ true
stands_run [] w h = h
stands_run (e ∷ es) w h = stands_run es (step w e) (stands_stays e w h)
