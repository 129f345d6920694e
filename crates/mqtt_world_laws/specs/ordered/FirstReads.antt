-- Order from a publisher to each receiver, at QoS 1: a message may be accepted again, and a copy read again, so it is said of when
-- each was accepted first and read first (MQTT 5.0, 4.3.2, 4.6).
use Rattle.std.specs.Prelude.{◌≡◌, ◌<◌, ◌≤◌, ℕ, Bool, true, false, not, List, [], ◌∷◌, filter, Option, Some, None}
use Rattle.mqtt_base.specs.declared.session.CopyId.{CopyId}
use Rattle.mqtt_rules.specs.declared.step.Capacity.{Capacity}
use Rattle.mqtt_world_model.specs.model.Ends.{Entry, Receiver}
use Rattle.mqtt_world_model.specs.model.Laws.{copies_in, is_copy, stand_among}
use Rattle.mqtt_world_model.specs.model.Run.{Turn, run}
use Rattle.mqtt_world_model.specs.model.World.{World, receiver_named}
use Rattle.mqtt_world_laws.specs.acceptance.Copies.{entered_from}
use Rattle.mqtt_world_laws.specs.acceptance.Once.{times_accepted}
use Rattle.mqtt_world_laws.specs.ordered.Ordered.{IsRising, StandsFirst, WasAccepted, WasTurnedAway, publications_in}

-- ---- what a receiver has read, each copy where it was read first

abbrev pub are_same : Option CopyId → Option CopyId → Bool
are_same None d = false
are_same (Some c) None = false
are_same (Some c) (Some d) = is_copy c d

-- without what was read again: behind an entry none of its copy is left
abbrev pub first_reads : List Entry → List Entry
first_reads [] = []
first_reads (e ∷ es) = e ∷ filter (λ (d : Entry). not (are_same d.copy e.copy)) (first_reads es)

-- the numbers of the publications that a receiver has read at QoS 1, in the order in which it read their copies first
abbrev pub publications_read : Receiver → List ℕ
publications_read r = publications_in (first_reads r.once)

-- ---- messages of one publisher

-- the message was accepted as the publication of this number, and not before
pub record WasFirstAccepted (client : List ℕ) (n number : ℕ) (limits : Capacity) (ts : List Turn) (w : World) : Type 0 where
  pub accepted : WasAccepted client n number limits ts w
  pub none : times_accepted client n limits accepted.earlier w ≡ 0

-- two messages of one publisher, of whatever QoS: the first was published earlier, was never turned away, and was first accepted as the
-- first publication; the second was accepted as the second publication, first or again
pub record WereAccepted (client : List ℕ) (m n first second : ℕ) (limits : Capacity) (ts : List Turn) (w : World) : Type 0 where
  pub earlier : m < n
  pub welcome : WasTurnedAway client m limits ts w → ⊥
  pub first_is : WasFirstAccepted client m first limits ts w
  pub second_is : WasAccepted client n second limits ts w

-- ---- the law

-- Each message that was accepted was first accepted as some publication. Of two messages of one publisher the one that was published
-- earlier was first accepted before. A receiver first reads publications of QoS 1 in the order in which they were accepted, and so, of
-- two messages of one publisher, the one that was published earlier first: none of its copies is first read behind one of the later
-- message. And each copy of QoS 1, also one that a SUBSCRIBE brought, is first read in the order in which the copies entered
pub record AreReadInOrder (limits : Capacity) (ts : List Turn) (w : World) : Type 0 where
  pub numbered : (client : List ℕ) (n : ℕ) → 1 ≤ times_accepted client n limits ts w
      → (number : ℕ) × WasFirstAccepted client n number limits ts w
  pub accepted : (client : List ℕ) (m n first second : ℕ) → WereAccepted client m n first second limits ts w → first < second
  pub read : (reader : List ℕ) (r : Receiver) → receiver_named reader (run limits ts w) ≡ Some r → IsRising (publications_read r)
  pub published : (client : List ℕ) (m n first second : ℕ) → WereAccepted client m n first second limits ts w
      → (reader : List ℕ) (r : Receiver) → receiver_named reader (run limits ts w) ≡ Some r
      → StandsFirst first second (first_reads r.once)
  pub as_entered : (reader : List ℕ) (r : Receiver) → receiver_named reader (run limits ts w) ≡ Some r
      → stand_among (copies_in (first_reads r.once)) (entered_from limits ts w) ≡ true
