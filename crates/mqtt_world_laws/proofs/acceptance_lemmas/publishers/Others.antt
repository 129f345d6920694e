-- What other ends ask of the broker, in the eyes of one publisher: no packet of theirs is a CONNECT of its client, and
-- none is on a line of its.
use Rattle.std.proofs.Common.{◌≡◌, ℕ, List, [], ◌∷◌, map, Option, Some, None, bytes_eq, refl, sym, subst, ◌∙◌, inl, inr}
use Rattle.std.specs.List.{AllByRecursion}
use Rattle.mqtt_packet.specs.declared.codec.packet.Packet.{Packet}
use Rattle.mqtt_flow.specs.inbound.Publisher.{CONNECT, PUBLISH_1, PUBLISH_2, PUBREL}
use Rattle.mqtt_flow.specs.outbound.Receiver.{connect, puback, pubrec, pubcomp}
use Rattle.mqtt_rules.specs.declared.step.Capacity.{Capacity}
use Rattle.mqtt_rules.specs.step.Step.{Call, Input, Lost}
use Rattle.mqtt_world_model.specs.model.Ends.{Content, Sent, shake, plain, Publisher, Receiver, Back, answers, asks_for, wire, wire_back}
use Rattle.mqtt_world_model.specs.model.World.{World, publisher_named, receiver_named, input_on, lost_on, View, view_by, view_of}
use Rattle.mqtt_world_model.specs.model.Hops.{IsOthers}
use Rattle.mqtt_world_model.proofs.model_lemmas.others.Lists.{all_find}
use Rattle.mqtt_world_laws.specs.acceptance.LineNumbers.{HasApart, IsApartFrom}
use Rattle.mqtt_world_laws.proofs.acceptance_lemmas.publishers.Ends.{named_publisher, named_receiver}
use Rattle.mqtt_world_laws.proofs.acceptance_lemmas.publishers.Around.{IsOutOf, IsFree, OtherPublisher, OtherReceiver, Around, IsOutside}

-- ---- their packets

-- none is a CONNECT of another client's name
wire_others : (c client : List ℕ) (contents : List Content) (x : Sent) → (client ≡ c → ⊥) → IsOthers c (wire client contents x)
wire_others c client contents (shake (CONNECT clean)) h = h
wire_others c client contents (shake (PUBLISH_1 id n dup)) h = tt
wire_others c client contents (shake (PUBLISH_2 id n dup)) h = tt
wire_others c client contents (shake (PUBREL id)) h = tt
wire_others c client contents (plain content) h = tt

back_others : (c client : List ℕ) (window aliases : ℕ) (x : Back) → (client ≡ c → ⊥) → IsOthers c (wire_back client window aliases x)
back_others c client window aliases (answers (connect clean)) h = h
back_others c client window aliases (answers (puback i code)) h = tt
back_others c client window aliases (answers (pubrec i code)) h = tt
back_others c client window aliases (answers (pubcomp i code)) h = tt
back_others c client window aliases (asks_for x) h = tt

all_wired : {U : Type 0} (c : List ℕ) (f : U → Packet) (xs : List U) → ((x : U) → IsOthers c (f x)) → AllByRecursion (IsOthers c) (map f xs)
all_wired c f [] h = tt
all_wired c f (x ∷ xs) h = (h x, all_wired c f xs h)

-- what another end has under way, on lines that are out of some numbers
pub record IsForeign (c : List ℕ) (Out : ℕ → Type 0) (given : ℕ) (v : View) : Type 0 where
  pub number : IsApartFrom Out given v.number
  pub up : AllByRecursion (IsOthers c) v.up
  pub old_number : IsApartFrom Out given v.old_number
  pub old : AllByRecursion (IsOthers c) v.old

-- an end of another name, whichever it is
pub foreign_of : (c d : List ℕ) (Out : ℕ → Type 0) (given : ℕ) (w : World) → (d ≡ c → ⊥)
    → ((p : Publisher) → publisher_named d w ≡ Some p → HasApart Out given p.line) → ((r : Receiver) → receiver_named d w ≡ Some r → HasApart Out given r.line)
    → IsForeign c Out given (view_of d w)
foreign_of c d Out given w differ ps rs = by (publisher_named d w) (receiver_named d w) refl refl
  where
    by : (x : Option Publisher) (y : Option Receiver) → publisher_named d w ≡ x → receiver_named d w ≡ y → IsForeign c Out given (view_by x y)
    by (Some p) y e f =
        let is = named_publisher d p w e in
        let other = λ (x : Sent). wire_others c p.client p.contents x (λ same. differ (sym is ∙ same)) in
        let apart = ps p e in
        record { number = apart.number; up = all_wired c (wire p.client p.contents) p.line.up other; old_number = apart.old_number; old = all_wired c (wire p.client p.contents) p.line.old other }
    by None (Some r) e f =
        let is = named_receiver d r w f in
        let other = λ (x : Back). back_others c r.client r.window r.aliases x (λ same. differ (sym is ∙ same)) in
        let apart = rs r f in
        record { number = apart.number; up = all_wired c (wire_back r.client r.window r.aliases) r.line.up other; old_number = apart.old_number; old = all_wired c (wire_back r.client r.window r.aliases) r.line.old other }
    by None None e f = record { number = λ n is. absurd cc; up = tt; old_number = λ n is. absurd cc; old = tt }

-- in the eyes of the publisher
pub foreign : (c d : List ℕ) (limits : Capacity) (his : List ℕ) (w : World) → Around c limits his w → (d ≡ c → ⊥) → IsForeign c (IsOutOf his) w.broker.given (view_of d w)
foreign c d limits his w a differ =
    foreign_of c d (IsOutOf his) w.broker.given w differ
    (λ p e. elim (all_find (OtherPublisher c his w.broker.given) (λ (z : Publisher). bytes_eq z.client d) p w.publishers a.publishers e).0 [
      | inl same ↦ absurd (differ (sym (named_publisher d p w e) ∙ same))
      | inr free ↦ free
    ])
    (λ r e. (all_find (OtherReceiver his w.broker.given) (λ (z : Receiver). bytes_eq z.client d) r w.receivers a.receivers e).0)

-- ---- so their calls are others'

-- the first packet of a line
pub line_outside : (c : List ℕ) (Out : ℕ → Type 0) (Outside : Call → Type 0) (given : ℕ) (x : Option ℕ) (packets : List Packet) (call : Call) → ((n : ℕ) (packet : Packet) → Out n → IsOthers c packet → Outside (Input n packet))
    → IsApartFrom Out given x → AllByRecursion (IsOthers c) packets → input_on x packets ≡ Some call → Outside call
line_outside c Out Outside given None packets call inputs free all e = absurd cc
line_outside c Out Outside given (Some n) [] call inputs free all e = absurd cc
line_outside c Out Outside given (Some n) (packet ∷ rest) call inputs free all e =
    let is : Input n packet ≡ call = cc in
    subst Outside is (inputs n packet (free n refl).0 all.0)

-- which is outside the publisher's lines
pub input_outside : (his c : List ℕ) (given : ℕ) (x : Option ℕ) (packets : List Packet) (call : Call) → IsFree his given x → AllByRecursion (IsOthers c) packets → input_on x packets ≡ Some call → IsOutside his c call
input_outside his c given x packets call free all e = line_outside c (IsOutOf his) (IsOutside his c) given x packets call (λ n packet out other. (out, other)) free all e

-- the loss of a line
pub loss_outside : (Out : ℕ → Type 0) (Outside : Call → Type 0) (given : ℕ) (x : Option ℕ) (call : Call) → ((n : ℕ) → Out n → Outside (Lost n)) → IsApartFrom Out given x → lost_on x ≡ Some call → Outside call
loss_outside Out Outside given None call losses free e = absurd cc
loss_outside Out Outside given (Some n) call losses free e = let is : Lost n ≡ call = cc in subst Outside is (losses n (free n refl).0)

-- which is outside his lines
pub lost_outside : (his c : List ℕ) (given : ℕ) (x : Option ℕ) (call : Call) → IsFree his given x → lost_on x ≡ Some call → IsOutside his c call
lost_outside his c given x call free e = loss_outside (IsOutOf his) (IsOutside his c) given x call (λ n out. out) free e
