-- What becomes of a publisher's messages in a run of the world (MQTT 5.0, 4.3.2, 4.3.3).
use Rattle.std.specs.Prelude.{◌≡◌, ℕ, ◌≤◌, ◌<◌, List, Some, None, nat_eq, count_by, length}
use Rattle.std.specs.List.{AllByRecursion}
use Rattle.mqtt_flow.specs.inbound.Publisher.{IsExactlyOnce, completed, refused, ended, ended_1}
use Rattle.mqtt_rules.specs.declared.step.Capacity.{Capacity}
use Rattle.mqtt_world_model.specs.model.Ends.{Content, content_at}
use Rattle.mqtt_world_model.specs.model.World.{World, publisher_named}
use Rattle.mqtt_world_model.specs.model.Run.{Turn, run, accepted_over, From, from_over}
use Rattle.mqtt_world_model.specs.model.Laws.{Carries, contents_by, fate_of}

-- how many publications a run accepts from the message of this number of a publisher
abbrev pub times_accepted : List ℕ → ℕ → Capacity → List Turn → World → ℕ
times_accepted client n limits ts w = count_by (nat_eq n) (accepted_over client limits ts w)

-- A QoS 2 message of a publisher is accepted at most once, exactly once if its handshake is completed, and never if it
-- was refused or has not gone out; one of QoS 1 that was acknowledged at least once
pub record IsAcceptedOnce (client : List ℕ) (n : ℕ) (limits : Capacity) (ts : List Turn) (w : World) : Type 0 where
  pub once : IsExactlyOnce (fate_of client n (run limits ts w)) → times_accepted client n limits ts w ≤ 1
  pub complete : fate_of client n (run limits ts w) ≡ Some (ended completed)
      → times_accepted client n limits ts w ≡ 1
  pub refusal : fate_of client n (run limits ts w) ≡ Some (ended refused) → times_accepted client n limits ts w ≡ 0
  pub unsent : fate_of client n (run limits ts w) ≡ None → times_accepted client n limits ts w ≡ 0
  pub acknowledged : fate_of client n (run limits ts w) ≡ Some (ended_1 completed)
      → 1 ≤ times_accepted client n limits ts w

-- A publication that was accepted from a message that has gone out carries that message's topic, payload and RETAIN,
-- with the publisher's name (3.3)
pub record CarriesIn (client : List ℕ) (contents : List Content) (x : From) : Type 0 where
  pub less : x.message < length contents
  pub carries : Carries client (content_at x.message contents) x.publication

-- the contents of a publisher's messages that have gone out
abbrev pub carriers : List ℕ → World → List Content
carriers client w = contents_by (publisher_named client w)

abbrev pub HasCarried : List ℕ → Capacity → List Turn → World → Type 0
HasCarried client limits ts w =
    AllByRecursion (CarriesIn client (carriers client (run limits ts w))) (from_over client limits ts w)
