-- A worked run: r1 has subscribed, p1 publishes a message of QoS 2 and completes its handshake, and r1 is sent it and takes it
-- (MQTT 5.0, 3.3.4, 4.3.3).
use Rattle.std.proofs.Common.{◌≡◌, ◌≤◌, true, List, [], ◌∷◌, ◌++◌, Option, Some, None, refl, arith, inl}
use Rattle.std.specs.Prelude.{is_some, option_map}
use Rattle.std.specs.Str.{is_utf8, chars}
use Rattle.std.proofs.Math.Utf8.{encode}
use Rattle.mqtt_base.specs.Values.{varint}
use Rattle.mqtt_flow.specs.inbound.Publisher.{completed, ended}
use Rattle.mqtt_rules.proofs.step_lemmas.examples.Play.{usual}
use Rattle.mqtt_rules.specs.declared.step.Capacity.{Capacity}
use Rattle.mqtt_rules.specs.step.Laws.{IsAmong}
use Rattle.mqtt_rules.specs.step.State.{session_at, session_named}
use Rattle.mqtt_world_model.specs.model.Ends.{Receiver}
use Rattle.mqtt_world_model.specs.model.Laws.{fate_of, handed_count}
use Rattle.mqtt_world_model.specs.model.Run.{Acceptance, Turn, acceptances_over, after, run}
use Rattle.mqtt_world_model.specs.model.World.{Event, World, ask, receiver_named, start, to_broker}
use Rattle.mqtt_world_model.proofs.model_lemmas.examples.Scripts.{exchange, first_copy, p1, published, r1, round, turn, turns}
use Rattle.mqtt_world_laws.specs.acceptance.Fair.{IsFair}
use Rattle.mqtt_world_laws.specs.drains.Emptied.{waiting_for}
use Rattle.mqtt_world_laws.proofs.headline_lemmas.Examples.{usual_within}
use Rattle.mqtt_world_laws.proofs.headline_lemmas.Lives.{start_begins}
use Rattle.mqtt_world_laws.specs.published.Published.{ArePassedOn, HadSubscribed}
use Rattle.mqtt_world_laws.proofs.published_lemmas.Received.{all_passed_on}

-- the PUBLISH is read and answered, and so is PUBREL; then r1 is sent the copy, and answers
abbrev since : List Event
since = exchange p1 ++ (exchange p1 ++ (round r1 ++ round r1))

abbrev whole : List Event
whole = published ++ since

-- the handshake is completed
pub it_is_completed : fate_of p1 0 (after usual (turns whole)) ≡ Some (ended completed)
unfolding varint is_utf8 chars encode
it_is_completed = refl

-- r1 was handed the copy, once
pub it_is_handed_over : option_map (λ (r : Receiver). handed_count first_copy r) (receiver_named r1 (after usual (turns whole))) ≡ Some 1
unfolding varint is_utf8 chars encode
it_is_handed_over = refl

-- in a fair run
pub it_is_fair : IsFair usual (turns whole) start
unfolding varint is_utf8 chars encode
it_is_fair = record { within = usual_within; unspent = refl; clean = refl }

-- so the law holds of it
pub it_is_passed_on : ArePassedOn usual (turns whole) start
it_is_passed_on = all_passed_on usual (turns whole) start (start_begins usual usual_within) it_is_fair

-- ---- what the law asks of r1 is so

abbrev before_it : Capacity → World
before_it limits = run limits (turns published) start

abbrev reading : Turn
reading = turn (ask (to_broker p1))

abbrev there : {X : Type 0} (o : Option X) → is_some o ≡ true → (x : X) × (o ≡ Some x)
there None is = absurd cc
there (Some x) is = (x, refl)

abbrev first_among : {X : Type 0} → List X → Option X
first_among [] = None
first_among (x ∷ xs) = Some x

among_first : {X : Type 0} (xs : List X) (x : X) → first_among xs ≡ Some x → IsAmong x xs
among_first [] x is = absurd cc
among_first (y ∷ ys) x is = let same : y ≡ x = cc in inl same

-- r1's session stands before the PUBLISH is read, and has a subscription to its topic of QoS 2 as it is accepted
pub it_had_subscribed : (a : Acceptance) × (IsAmong a (acceptances_over usual (reading ∷ []) (before_it usual)) × HadSubscribed r1 (before_it usual).broker a)
unfolding varint is_utf8 chars encode
it_had_subscribed =
    let x = there (first_among (acceptances_over usual (reading ∷ []) (before_it usual))) refl in
    let before = there (session_named r1 (before_it usual).broker.records) refl in
    let s = there (session_at 1 x.0.broker.records) refl in
    let sub = there (first_among s.0.subscriptions) refl in
    let some : 1 ≤ 2 = omega arith in
    let its = among_first (acceptances_over usual (reading ∷ []) (before_it usual)) x.0 x.1 in (
      x.0,
      (
        its,
        record {
          birth = 1;
          before = before.0;
          named = before.1;
          its_birth = refl;
          session = s.0;
          found = s.1;
          subscription = sub.0;
          subscribed = among_first s.0.subscriptions sub.0 sub.1;
          matches = refl;
          granted = some;
        },
      ),
    )

-- and at the end nothing waits for it, so that its copy has ended
pub nothing_waits : waiting_for r1 (after usual (turns whole)) ≡ 0
unfolding varint is_utf8 chars encode
nothing_waits = refl
