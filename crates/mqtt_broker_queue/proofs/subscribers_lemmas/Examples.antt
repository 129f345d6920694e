-- Worked: sessions begin and subscribe, one subscribes again and unsubscribes, and the other ends (MQTT 5.0, 3.8.4, 3.10.4, 3.1.2.11.2).
use Rattle.std.proofs.Common.{◌≡◌, ℕ, false, List, [], ◌∷◌, Option, Some, None, refl, arith}
use Rattle.std.specs.Prelude.{codes}
use Rattle.mqtt_base.specs.declared.session.Qos.TheVariants.{AtLeastOnce}
use Rattle.mqtt_base.specs.declared.session.RetainHandling.TheVariants.{SendAlways}
use Rattle.mqtt_records.specs.declared.state.change.Change.{Change}
use Rattle.mqtt_records.specs.declared.state.change.Change.TheVariants.{PutSession, PutSubscription, RemoveSubscription, RemoveSession}
use Rattle.mqtt_records.specs.declared.state.subscription.Subscription.{Subscription}
use Rattle.mqtt_records.specs.state.Records.{changed_all, nothing}
use Rattle.mqtt_routes.specs.routing.Subscriptions.{Subscriber, subscriber, with_some}
use Rattle.mqtt_rules.specs.step.Routing.{routed_subscription, subscribers}
use Rattle.mqtt_broker_queue.specs.subscribers.Following.{CanAllBeFollowed, followed_all}

abbrev begun : ℕ → List ℕ → Change
begun birth client = PutSession (record { birth = birth; client = client; expiry = 60; closed = None })

abbrev wished : List ℕ → ℕ → Option ℕ → Subscription
wished filter place identifier = record {
  filter = filter;
  place = place;
  options = record { qos = AtLeastOnce; no_local = false; retain_as_published = false; retain_handling = SendAlways };
  identifier = identifier;
}

abbrev rows : List Change
rows =
    begun 1 (codes "one")
    ∷ begun 2 (codes "two")
    ∷ PutSubscription 2 (wished (codes "a/#") 1 None)
    ∷ PutSubscription 2 (wished (codes "c") 2 None)
    ∷ PutSubscription 1 (wished (codes "a/+") 3 None)
    ∷ PutSubscription 2 (wished (codes "a/#") 1 (Some 7))
    ∷ PutSubscription 2 (wished (codes "b") 4 None)
    ∷ RemoveSubscription 2 (codes "c")
    ∷ []

-- the second's filter kept its place, and the last one came last
abbrev served : List Subscriber
served =
    subscriber 1 (routed_subscription (wished (codes "a/+") 3 None) ∷ [])
    ∷ subscriber 2 (routed_subscription (wished (codes "a/#") 1 (Some 7)) ∷ routed_subscription (wished (codes "b") 4 None) ∷ [])
    ∷ []

index_follows : followed_all rows [] ≡ served
index_follows = refl

records_have_the_same : subscribers (changed_all rows nothing) ≡ served
records_have_the_same = refl

all_can_be_followed : CanAllBeFollowed rows nothing
all_can_be_followed = (
  tt,
  (
    tt,
    (
      (record { place = refl; last = λ new. tt; room = omega arith }, record { filter = refl; identifier = tt }),
      (
        (record { place = refl; last = λ new. (omega arith, tt); room = omega arith }, record { filter = refl; identifier = tt }),
        (
          (record { place = refl; last = λ new. tt; room = omega arith }, record { filter = refl; identifier = tt }),
          (
            (record { place = refl; last = λ new. absurd cc; room = omega arith }, record { filter = refl; identifier = (omega arith, omega arith) }),
            ((record { place = refl; last = λ new. (omega arith, (omega arith, tt)); room = omega arith }, record { filter = refl; identifier = tt }), (tt, tt)),
          ),
        ),
      ),
    ),
  ),
)

-- the first session ends, and the second is alone there
only_the_second : followed_all (RemoveSession 1 ∷ []) served ≡ with_some (subscribers (changed_all (RemoveSession 1 ∷ []) (changed_all rows nothing)))
only_the_second = refl
