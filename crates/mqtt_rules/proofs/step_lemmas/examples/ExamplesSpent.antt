-- Spent numbers and last moments: no birth, number, place or order is above 2^62, and no moment counts above it (ours).
use Rattle.std.proofs.Common.{◌≡◌, ℕ, ◌+◌, ◌-◌, Bool, true, false, [], ◌∷◌, ◌++◌, map, Option, Some, None, refl}
use Rattle.std.specs.Prelude.{codes}
use Rattle.mqtt_base.specs.Values.{varint}
use Rattle.mqtt_base.specs.declared.limits.TheConstants.{LAST_NUMBER}
use Rattle.mqtt_base.specs.declared.session.Qos.TheVariants.{ExactlyOnce}
use Rattle.mqtt_base.specs.declared.session.Phase.TheVariants.{Waiting, Sent, Released}
use Rattle.mqtt_packet.specs.declared.connect.connect.Will.{Will}
use Rattle.mqtt_records.specs.declared.state.records.Records.{Records}
use Rattle.mqtt_records.specs.state.Records.{nothing}
use Rattle.mqtt_rules.specs.step.Packets.{pubrec}
use Rattle.mqtt_rules.specs.step.State.{Broker}
use Rattle.mqtt_rules.specs.step.Step.{NewLine, Input, is_step_spent, is_opening_spent, unopened, opened}
use Rattle.mqtt_rules.proofs.step_lemmas.examples.Play.{usual, blank, first, Event, at, runs, hello, hello_with, in_line, wants, topic, hi, sends, subscribed, entry, waiting, queued, keeps}

-- what is given is one above the greatest that stands
abbrev gives_too_much : Event → Broker → Bool
gives_too_much (at now call) b = is_step_spent usual first now call b

-- so many publications were accepted
abbrev counted : ℕ → Broker
counted publications = queued 1 [] publications (runs subscribed blank)

the_last_publication : gives_too_much (at 0 (Input 2 (sends 10))) (counted (LAST_NUMBER - 1)) ≡ false
unfolding varint
the_last_publication = refl

a_publication_above_the_last : gives_too_much (at 0 (Input 2 (sends 10))) (counted LAST_NUMBER) ≡ true
unfolding varint
a_publication_above_the_last = refl

-- also after a restart, and from a new client
a_restart_gives_no_more : gives_too_much (at 0 (Input 1 (sends 10)))
    (runs (in_line 1 (hello (codes "p2"))) (opened usual first 0 (counted LAST_NUMBER).records))
    ≡ true
unfolding varint
a_restart_gives_no_more = refl

a_refused_one_spends_nothing : gives_too_much (at 0 (Input 2 (sends 10))) (queued 1 (waiting 1000 1) LAST_NUMBER (runs subscribed blank)) ≡ false
unfolding varint
a_refused_one_spends_nothing = refl

-- a queue whose last entry has this place
abbrev placed : ℕ → Broker
placed place = queued 1 (entry place Waiting ∷ []) 1 (runs subscribed blank)

the_last_place : gives_too_much (at 0 (Input 2 (sends 10))) (placed (LAST_NUMBER - 1)) ≡ false
unfolding varint
the_last_place = refl

a_place_above_the_last : gives_too_much (at 0 (Input 2 (sends 10))) (placed LAST_NUMBER) ≡ true
unfolding varint
a_place_above_the_last = refl

-- a released copy with this order beside one that was sent
abbrev ordered : ℕ → Broker
ordered order = queued 1 (entry 1 (Released 1 order) ∷ entry 2 (Sent 2) ∷ []) 2 (runs subscribed blank)

the_last_order : gives_too_much (at 0 (Input 1 (pubrec 2 0))) (ordered (LAST_NUMBER - 1)) ≡ false
unfolding varint
the_last_order = refl

an_order_above_the_last : gives_too_much (at 0 (Input 1 (pubrec 2 0))) (ordered LAST_NUMBER) ≡ true
unfolding varint
an_order_above_the_last = refl

-- births, identifiers that are assigned, subscribes
abbrev counts : ℕ → ℕ → ℕ → Broker
counts births autos subscribes = let b = runs (subscribed ++ at 0 NewLine ∷ []) blank in
    record b { records = record b.records { births = births; autos = autos; subscribes = subscribes } }

the_last_of_each : gives_too_much (at 0 (Input 3 (hello []))) (counts (LAST_NUMBER - 1) (LAST_NUMBER - 1) 1) ≡ false
unfolding varint
the_last_of_each = refl

a_birth_above_the_last : gives_too_much (at 0 (Input 3 (hello (codes "p2")))) (counts LAST_NUMBER 0 1) ≡ true
unfolding varint
a_birth_above_the_last = refl

an_assigned_identifier_above_the_last : gives_too_much (at 0 (Input 3 (hello []))) (counts 2 LAST_NUMBER 1) ≡ true
unfolding varint
an_assigned_identifier_above_the_last = refl

the_last_subscribe : gives_too_much (at 0 (Input 1 (wants 2 topic ExactlyOnce))) (counts 2 0 (LAST_NUMBER - 1)) ≡ false
unfolding varint
the_last_subscribe = refl

a_subscribe_above_the_last : gives_too_much (at 0 (Input 1 (wants 2 topic ExactlyOnce))) (counts 2 0 LAST_NUMBER) ≡ true
unfolding varint
a_subscribe_above_the_last = refl

-- a retained message's place: a topic that stands keeps its own
abbrev kept_at : ℕ → Broker
kept_at place = let b = runs subscribed blank in record b {
  records = record b.records {
    retained = record {
      place = place;
      sender = codes "p1";
      publication = 1;
      qos = ExactlyOnce;
      content = record { topic = codes "x"; properties = []; payload = hi; arrived = 0 };
    } ∷ [];
  };
}

the_last_retained_place : gives_too_much (at 0 (Input 2 (keeps topic 10))) (kept_at (LAST_NUMBER - 1)) ≡ false
unfolding varint
the_last_retained_place = refl

a_retained_place_above_the_last : gives_too_much (at 0 (Input 2 (keeps topic 10))) (kept_at LAST_NUMBER) ≡ true
unfolding varint
a_retained_place_above_the_last = refl

a_topic_that_stands_takes_none : gives_too_much (at 0 (Input 2 (keeps (codes "x") 10))) (kept_at LAST_NUMBER) ≡ false
unfolding varint
a_topic_that_stands_takes_none = refl

-- ---- a moment is no number: a later one counts as the last

abbrev beyond : ℕ
beyond = LAST_NUMBER + 5

a_moment_is_not_spent : gives_too_much (at beyond (Input 2 (sends 10))) (runs subscribed blank) ≡ false
unfolding varint
a_moment_is_not_spent = refl

the_last_moment_is_stored : (runs (subscribed ++ at beyond (Input 2 (sends 10)) ∷ []) blank).records.moment ≡ LAST_NUMBER
unfolding varint
the_last_moment_is_stored = refl

-- a stored one too
abbrev long_ago : Records
long_ago = record nothing { moment = beyond }

a_stored_moment_is_capped : map (λ now. (unopened now long_ago).now) (0 ∷ LAST_NUMBER ∷ beyond ∷ []) ≡ LAST_NUMBER ∷ LAST_NUMBER ∷ LAST_NUMBER ∷ []
a_stored_moment_is_capped = refl

an_earlier_one_counts : map (λ now. (unopened now (record nothing { moment = 7 })).now) (0 ∷ 7 ∷ 8 ∷ beyond ∷ []) ≡ 7 ∷ 7 ∷ 8 ∷ LAST_NUMBER ∷ []
an_earlier_one_counts = refl

-- ---- an opening gives numbers to the Wills of what was connected

abbrev last_will : Option Will
last_will = Some (record { qos = ExactlyOnce; retain = false; properties = []; topic = topic; payload = hi })

-- with so many publications accepted, w1 is connected
abbrev found : Option Will → ℕ → Records
found will publications =
    let r = (runs (in_line 1 (hello_with (codes "w1") [] will)) blank).records in record r { publications = publications; moment = beyond }

the_last_number_for_a_will : is_opening_spent usual first 0 (found last_will (LAST_NUMBER - 1)) ≡ false
unfolding varint
the_last_number_for_a_will = refl

none_for_the_next : is_opening_spent usual first 0 (found last_will LAST_NUMBER) ≡ true
unfolding varint
none_for_the_next = refl

without_a_will_none_is_needed : is_opening_spent usual first 0 (found None LAST_NUMBER) ≡ false
unfolding varint
without_a_will_none_is_needed = refl
