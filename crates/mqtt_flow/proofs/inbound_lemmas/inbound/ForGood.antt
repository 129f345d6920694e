-- A message whose handshake has ended stays as it is.
use Rattle.std.proofs.Common.{◌≡◌, ℕ, zero, suc, Bool, true, false, List, [], ◌∷◌, ◌++◌, length, map, if◌then◌else◌, nat_lt, refl, sym, ◌∙◌, subst, ap, Option, Some, None, option_map, slice_get}
use Rattle.std.proofs.lemmas.Option.{slice_get-map}
use Rattle.mqtt_base.specs.declared.limits.TheConstants.{OPEN_LIMIT}
use Rattle.mqtt_flow.specs.inbound.Line.{Link, away, asked, live, sent_on}
use Rattle.mqtt_flow.specs.inbound.Identifiers.{free_identifier}
use Rattle.mqtt_flow.specs.inbound.Publisher.{Qos, Fate, sent_1, ended_1, sent, released, ended, FromPublisher, CONNECT, PUBLISH_1, PUBLISH_2, PUBREL, ToPublisher, CONNACK, CONNACK_REFUSED, PUBACK, PUBREC, PUBCOMP, DISCONNECT, in_flight, first_fate, first_packet, resent_from, pubrel_for, on_new_session, on_puback, on_pubrec, on_pubcomp, IsEnded}
use Rattle.mqtt_flow.specs.inbound.InboundWorld.{World, Choice, takes, takes_unheard, refuses, Event, publish, to_broker, old_to_broker, to_end, give_up, break, connect, close, close_old, restart, send_one, send_all, send_unsent, on_connack, publisher_reads, on_connect, on_old_connect, taken_over, broker_reads, broker_reads_old, on_give_up, on_join, step, start, run, after, fate_of}

-- an ended one stays
record Stays (fates fates' : List Fate) : Type 0 where
  stays : (n : ℕ) → IsEnded (slice_get fates n) → slice_get fates' n ≡ slice_get fates n

stays_same : (fates : List Fate) → Stays fates fates
stays_same fates = record { stays = λ n h. refl }

stays_all : {a b c : List Fate} → Stays a b → Stays b c → Stays a c
stays_all g h = record { stays = λ n e. h.stays n (subst IsEnded (sym (g.stays n e)) e) ∙ g.stays n e }

stays_push : (fates : List Fate) (fate : Fate) → Stays fates (fates ++ fate ∷ [])
stays_push fates fate = record { stays = pushed fates fate }
  where
    pushed : (fates : List Fate) (fate : Fate) (n : ℕ) → IsEnded (slice_get fates n) → slice_get (fates ++ fate ∷ []) n ≡ slice_get fates n
    pushed [] fate n h = absurd h
    pushed (f ∷ fates) fate zero h = refl
    pushed (f ∷ fates) fate (suc n) h = pushed fates fate n h

-- what a packet does to a fate leaves an ended one
abbrev LeavesEnded : (Fate → Fate) → Type 0
LeavesEnded g = (fate : Fate) → IsEnded (Some fate) → g fate ≡ fate

stays_at : (g : Fate → Fate) (o : Option Fate) → LeavesEnded g → IsEnded o → option_map g o ≡ o
stays_at g None leaves h = absurd h
stays_at g (Some fate) leaves h = ap Some (leaves fate h)

stays_map : (g : Fate → Fate) (fates : List Fate) → LeavesEnded g → Stays fates (map g fates)
stays_map g fates leaves = record { stays = λ n h. rw slice_get-map (stays_at g (slice_get fates n) leaves h) }

puback_leaves : (id code : ℕ) → LeavesEnded (on_puback id code)
puback_leaves id code (sent_1 other) h = absurd h
puback_leaves id code (ended_1 by) h = refl
puback_leaves id code (sent other) h = absurd h
puback_leaves id code (released other) h = absurd h
puback_leaves id code (ended by) h = refl

pubrec_leaves : (id code : ℕ) → LeavesEnded (on_pubrec id code)
pubrec_leaves id code (sent_1 other) h = absurd h
pubrec_leaves id code (ended_1 by) h = refl
pubrec_leaves id code (sent other) h = absurd h
pubrec_leaves id code (released other) h = absurd h
pubrec_leaves id code (ended by) h = refl

pubcomp_leaves : (id : ℕ) → LeavesEnded (on_pubcomp id)
pubcomp_leaves id (sent_1 other) h = absurd h
pubcomp_leaves id (ended_1 by) h = refl
pubcomp_leaves id (sent other) h = absurd h
pubcomp_leaves id (released other) h = absurd h
pubcomp_leaves id (ended by) h = refl

session_leaves : LeavesEnded on_new_session
session_leaves (sent_1 other) h = absurd h
session_leaves (ended_1 by) h = refl
session_leaves (sent other) h = absurd h
session_leaves (released other) h = absurd h
session_leaves (ended by) h = refl

-- sending
send_if : (b : Bool) (qos : Qos) (rest : List Qos) (id : ℕ) (w : World) → Stays w.fates (if b then record w { fates = w.fates ++ first_fate qos id ∷ []; unsent = rest; up = sent_on w.linked w.up (first_packet qos id (length w.fates) ∷ []) } else w).fates
send_if true qos rest id w = stays_push w.fates (first_fate qos id)
send_if false qos rest id w = stays_same w.fates

all_sent : (unsent : List Qos) (w : World) → Stays w.fates (send_all unsent w).fates
all_sent [] w = stays_same w.fates
all_sent (qos ∷ rest) w = stays_all (send_if (nat_lt (length (in_flight w.fates)) OPEN_LIMIT) qos rest (free_identifier (in_flight w.fates)) w) (all_sent rest (send_one qos rest w))

unsent_sent : (link : Link) (w : World) → Stays w.fates (send_unsent link w).fates
unsent_sent away w = stays_same w.fates
unsent_sent asked w = stays_same w.fates
unsent_sent live w = all_sent w.unsent w

-- reading
connack_read : (link : Link) (present : Bool) (w : World) → Stays w.fates (on_connack link present w).fates
connack_read away present w = stays_same w.fates
connack_read asked true w = unsent_sent live (record w { link = live; clean = false; up = sent_on w.linked w.up (resent_from 0 w.fates) })
connack_read asked false w = stays_all (stays_map on_new_session w.fates session_leaves) (unsent_sent live (record w { link = live; clean = false; fates = map on_new_session w.fates }))
connack_read live present w = stays_same w.fates

end_read : (down : List ToPublisher) (w : World) → Stays w.fates (publisher_reads down w).fates
end_read [] w = stays_same w.fates
end_read (CONNACK present ∷ rest) w = connack_read w.link present (record w { down = rest })
end_read (CONNACK_REFUSED code ∷ rest) w = stays_same w.fates
end_read (PUBACK id code ∷ rest) w = stays_all (stays_map (on_puback id code) w.fates (puback_leaves id code)) (unsent_sent w.link (record w { down = rest; fates = map (on_puback id code) w.fates }))
end_read (PUBREC id code ∷ rest) w = stays_all (stays_map (on_pubrec id code) w.fates (pubrec_leaves id code)) (unsent_sent w.link (record w { down = rest; fates = map (on_pubrec id code) w.fates; up = sent_on w.linked w.up (pubrel_for id code w.fates) }))
end_read (PUBCOMP id code ∷ rest) w = stays_all (stays_map (on_pubcomp id) w.fates (pubcomp_leaves id)) (unsent_sent w.link (record w { down = rest; fates = map (on_pubcomp id) w.fates }))
end_read (DISCONNECT code ∷ rest) w = stays_same w.fates

connect_read : (stands clean : Bool) (choice : Choice) (rest : List FromPublisher) (w : World) → Stays w.fates (on_connect stands clean choice rest w).fates
connect_read true false choice rest w = stays_same w.fates
connect_read true true choice rest w = stays_same w.fates
connect_read false clean takes rest w = stays_same w.fates
connect_read false clean takes_unheard rest w = stays_same w.fates
connect_read false clean refuses rest w = stays_same w.fates

over_taken : (linked : Bool) (w : World) → Stays w.fates (taken_over linked w).fates
over_taken true w = stays_same w.fates
over_taken false w = stays_same w.fates

old_connect_read : (stands clean : Bool) (choice : Choice) (rest : List FromPublisher) (w : World) → Stays w.fates (on_old_connect stands clean choice rest w).fates
old_connect_read true false choice rest w = over_taken w.linked (record w { old = rest })
old_connect_read true true choice rest w = over_taken w.linked (record w { old = rest; ids = [] })
old_connect_read false clean takes rest w = stays_same w.fates
old_connect_read false clean takes_unheard rest w = stays_same w.fates
old_connect_read false clean refuses rest w = stays_same w.fates

broker_read : (choice : Choice) (up : List FromPublisher) (w : World) → Stays w.fates (broker_reads choice up w).fates
broker_read choice [] w = stays_same w.fates
broker_read choice (CONNECT clean ∷ rest) w = connect_read w.stands clean choice rest w
broker_read choice (PUBLISH_1 id n dup ∷ rest) w = stays_same w.fates
broker_read choice (PUBLISH_2 id n dup ∷ rest) w = stays_same w.fates
broker_read choice (PUBREL id ∷ rest) w = stays_same w.fates

old_read : (choice : Choice) (old : List FromPublisher) (w : World) → Stays w.fates (broker_reads_old choice old w).fates
old_read choice [] w = stays_same w.fates
old_read choice (CONNECT clean ∷ rest) w = old_connect_read w.stands clean choice rest w
old_read choice (PUBLISH_1 id n dup ∷ rest) w = stays_same w.fates
old_read choice (PUBLISH_2 id n dup ∷ rest) w = stays_same w.fates
old_read choice (PUBREL id ∷ rest) w = stays_same w.fates

given_up : (link : Link) (clean : Bool) (w : World) → Stays w.fates (on_give_up link clean w).fates
given_up away clean w = stays_same w.fates
given_up asked true w = stays_same w.fates
given_up asked false w = stays_same w.fates
given_up live clean w = stays_same w.fates

joined : (link : Link) (clean : Bool) (w : World) → Stays w.fates (on_join link clean w).fates
joined away clean w = stays_same w.fates
joined asked clean w = stays_same w.fates
joined live clean w = stays_same w.fates

stays_step : (w : World) (event : Event) → Stays w.fates (step w event).fates
stays_step w (publish qos) = unsent_sent w.link (record w { unsent = w.unsent ++ qos ∷ [] })
stays_step w (to_broker choice) = broker_read choice w.up w
stays_step w (old_to_broker choice) = old_read choice w.old w
stays_step w to_end = end_read w.down w
stays_step w give_up = given_up w.link w.clean w
stays_step w break = stays_same w.fates
stays_step w (connect clean) = joined w.link clean w
stays_step w (close code) = stays_same w.fates
stays_step w close_old = stays_same w.fates
stays_step w restart = stays_same w.fates

stays_run : (events : List Event) (w : World) → Stays w.fates (run events w).fates
stays_run [] w = stays_same w.fates
stays_run (event ∷ events) w = stays_all (stays_step w event) (stays_run events (step w event))

run-append : (earlier later : List Event) (w : World) → run (earlier ++ later) w ≡ run later (run earlier w)
run-append [] later w = refl
run-append (event ∷ earlier) later w = run-append earlier later (step w event)

-- what has ended stays as it ended, whatever comes later
pub for_good : (earlier later : List Event) (n : ℕ) → IsEnded (fate_of n (after earlier)) → fate_of n (after (earlier ++ later)) ≡ fate_of n (after earlier)
for_good earlier later n h = ap (fate_of n) (run-append earlier later start) ∙ (stays_run later (after earlier)).stays n h
