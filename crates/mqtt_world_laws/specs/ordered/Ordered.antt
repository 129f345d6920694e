-- Order from a publisher to each receiver: publications are handed over in the order in which the broker accepted them, and messages of
-- one publisher in the order in which it published them (MQTT 5.0, 4.6).
use Rattle.std.specs.Prelude.{◌≡◌, ◌<◌, ◌≤◌, ℕ, ⊤, Bool, true, false, List, [], ◌∷◌, ◌++◌, filter, filter_map, map, Option, Some, None}
use Rattle.std.specs.List.{AllByRecursion}
use Rattle.mqtt_base.specs.declared.session.CopyId.{CopyId}
use Rattle.mqtt_flow.specs.inbound.Publisher.{IsExactlyOnce}
use Rattle.mqtt_rules.specs.declared.step.Capacity.{Capacity}
use Rattle.mqtt_rules.specs.step.Laws.{IsAmong}
use Rattle.mqtt_world_model.specs.model.Ends.{Entry, Receiver}
use Rattle.mqtt_world_model.specs.model.Laws.{copies_in, fate_of, is_own, is_routed}
use Rattle.mqtt_world_model.specs.model.Run.{Turn, client_number, deeds_at, message_read, run, setting}
use Rattle.mqtt_world_model.specs.model.World.{World, receiver_named}
use Rattle.mqtt_world_laws.specs.acceptance.Once.{times_accepted}

-- ---- publications, in the order in which they were accepted

-- the numbers of the publications that these entries are of, in their order; without those that a SUBSCRIBE brought later as retained
-- messages (3.8.4)
abbrev pub publications_in : List Entry → List ℕ
publications_in es = map (λ (c : CopyId). c.publication) (filter (λ (c : CopyId). is_routed c.cause) (copies_in es))

-- of what a receiver was handed, in the order of its ledger
abbrev pub publications_handed : Receiver → List ℕ
publications_handed r = publications_in r.ledger

-- no number is below one that stands before it
abbrev pub IsRising : List ℕ → Type 0
IsRising [] = ⊤
IsRising (n ∷ ns) = AllByRecursion (λ (k : ℕ). n ≤ k) ns × IsRising ns

-- ---- messages of one publisher, which are numbered as they go out

-- in this turn, with those before and behind it, the broker reads a PUBLISH of the message, and accepts it as the publication of
-- this number
pub record WasAccepted (client : List ℕ) (n number : ℕ) (limits : Capacity) (ts : List Turn) (w : World) : Type 0 where
  pub earlier : List Turn
  pub turn : Turn
  pub later : List Turn
  pub are : earlier ++ turn ∷ later ≡ ts
  pub read : message_read client turn.event (run limits earlier w) ≡ Some n
  pub number_is : IsAmong number (filter_map client_number (deeds_at (setting limits turn) turn.event (run limits earlier w)))

-- the broker reads a PUBLISH of the message, which it has not accepted before, and does not accept it: it refuses it (4.3.3)
pub record WasTurnedAway (client : List ℕ) (n : ℕ) (limits : Capacity) (ts : List Turn) (w : World) : Type 0 where
  pub earlier : List Turn
  pub turn : Turn
  pub later : List Turn
  pub are : earlier ++ turn ∷ later ≡ ts
  pub read : message_read client turn.event (run limits earlier w) ≡ Some n
  pub none : times_accepted client n limits (earlier ++ turn ∷ []) w ≡ 0

-- two messages of one publisher were accepted as the publications of these numbers; the first was published earlier, with QoS 2, and
-- was never turned away
pub record WerePublished (client : List ℕ) (m n first second : ℕ) (limits : Capacity) (ts : List Turn) (w : World) : Type 0 where
  pub earlier : m < n
  pub exactly_once : IsExactlyOnce (fate_of client m (run limits ts w))
  pub welcome : WasTurnedAway client m limits ts w → ⊥
  pub first_is : WasAccepted client m first limits ts w
  pub second_is : WasAccepted client n second limits ts w

-- ---- in a ledger

-- a copy of this publication, not one that a SUBSCRIBE brought
abbrev pub is_copy_of : ℕ → Option CopyId → Bool
is_copy_of number None = false
is_copy_of number (Some c) = is_own number c

abbrev pub IsNotOf : ℕ → Entry → Type 0
IsNotOf number e = is_copy_of number e.copy ≡ false

-- where copies of both publications stand, those of the first stand first: behind a copy of the second there is none of the first
abbrev pub StandsFirst : ℕ → ℕ → List Entry → Type 0
StandsFirst first second [] = ⊤
StandsFirst first second (e ∷ es) =
    (is_copy_of second e.copy ≡ true → AllByRecursion (IsNotOf first) es) × StandsFirst first second es

-- ---- the law

-- Each message that was accepted has its publication. Of two messages of one publisher the one that was published earlier was
-- accepted first. A receiver was handed publications in the order in which they were accepted, and so, of two messages of one
-- publisher, the one that was published earlier first
pub record AreInOrder (limits : Capacity) (ts : List Turn) (w : World) : Type 0 where
  pub numbered : (client : List ℕ) (n : ℕ) → 1 ≤ times_accepted client n limits ts w
      → (number : ℕ) × WasAccepted client n number limits ts w
  pub accepted : (client : List ℕ) (m n first second : ℕ) → WerePublished client m n first second limits ts w → first < second
  pub handed : (reader : List ℕ) (r : Receiver) → receiver_named reader (run limits ts w) ≡ Some r → IsRising (publications_handed r)
  pub published : (client : List ℕ) (m n first second : ℕ) → WerePublished client m n first second limits ts w
      → (reader : List ℕ) (r : Receiver) → receiver_named reader (run limits ts w) ≡ Some r → StandsFirst first second r.ledger
