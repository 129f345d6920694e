-- Worked states: a copy and a retained message that say the same, and what comes of a number that is given twice (MQTT 5.0, 3.3).
use Rattle.std.proofs.Common.{◌≡◌, ℕ, false, true, List, [], ◌∷◌, ◌++◌, refl, sym, ap, subst, ◌∙◌, inl, inr}
use Rattle.std.specs.Prelude.{bytes_eq, codes}
use Rattle.mqtt_base.specs.Values.{varint}
use Rattle.mqtt_base.specs.declared.session.Qos.TheVariants.{AtLeastOnce}
use Rattle.mqtt_packet.specs.declared.codec.publish.Delivery.TheVariants as delivery
use Rattle.mqtt_records.specs.declared.messages.message.RetainedMessage.{RetainedMessage}
use Rattle.mqtt_records.specs.declared.state.session.Session.{Session}
use Rattle.mqtt_records.specs.state.Members.{Has}
use Rattle.mqtt_records.specs.state.Contents.{StoredMessage, retained_message, IsMessageOf, SharesContents}
use Rattle.mqtt_rules.specs.step.State.{Broker, stored}
use Rattle.mqtt_rules.specs.step.Step.{Input}
use Rattle.mqtt_rules.proofs.step_lemmas.examples.Play.{at, step, runs, blank, hello, in_line, keeps, subscribed, topic, hi}
use Rattle.mqtt_rules.proofs.step_lemmas.examples.WorkedCopies.{publishes}

-- a publication with that number, without properties
abbrev says : ℕ → List ℕ → List ℕ → StoredMessage
says number name payload = record { publication = number; topic = name; properties = []; payload = payload }

-- r1 is there for a/b, and p1 publishes to it with RETAIN
abbrev retains : Broker
retains = runs (subscribed ++ at 0 (Input 2 (publishes (delivery.ExactlyOnce false 10) true [] hi)) ∷ []) blank

-- the copy in r1's queue says what was published
pub a_copy_says_it : IsMessageOf (stored retains) (says 1 topic hi)
unfolding varint
a_copy_says_it = inl (1, _, (_, inl refl, refl, inl refl), refl)

-- and the retained message says the same
pub the_retained_message_says_it : IsMessageOf (stored retains) (says 1 topic hi)
unfolding varint
the_retained_message_says_it = inr (_, inl refl, refl)

-- ---- why numbers are asked

-- p1's retained message of a topic, under number 1
abbrev kept : ℕ → List ℕ → RetainedMessage
kept place name = record {
  place = place;
  sender = codes "p1";
  publication = 1;
  qos = AtLeastOnce;
  content = record { topic = name; properties = []; payload = codes "!"; arrived = 0 };
}

-- p1 has retained a message under number 1, but the last number given is said to be 0
abbrev forgetful : Broker
forgetful =
    let b = runs (in_line 1 (hello (codes "p1")) ++ at 0 (Input 1 (keeps (codes "a") 10)) ∷ []) blank in
    record b { records = record b.records { publications = 0 } }

only : (m : StoredMessage) → IsMessageOf (stored forgetful) m → m ≡ says 1 (codes "a") (codes "!")
unfolding varint
only m (inl it) = elim it.2.1 [
  | inl p1 ↦ let none : Has [] it.1 = subst (λ (s : Session). Has s.queue it.1) p1 it.2.3 in absurd none
  | inr none ↦ absurd none
]
only m (inr it) = elim it.1 [ inl its ↦ it.2 ∙ ap retained_message its | inr none ↦ absurd none ]

-- contents are shared there
pub one_message_is_shared : SharesContents (stored forgetful)
one_message_is_shared m said n also same = only n also ∙ sym (only m said)

-- the next publication gets number 1 too, and contents are shared no more
pub a_number_given_twice_is_not_shared : SharesContents (stored (step (at 0 (Input 1 (keeps (codes "b") 11))) forgetful)) → ⊥
unfolding varint
a_number_given_twice_is_not_shared shared =
    let first : StoredMessage = says 1 (codes "a") (codes "!") in
    let second : StoredMessage = says 1 (codes "b") (codes "!") in
    let same : second ≡ first = shared first (inr (kept 1 (codes "a"), inl refl, refl)) second (inr (kept 2 (codes "b"), inr (inl refl), refl)) refl in
    let topics : false ≡ true = ap (λ (m : StoredMessage). bytes_eq m.topic (codes "a")) same in
    absurd cc
