-- What an end's doings leave of its line: its number, or it has none; and the line that it gave up.
use Rattle.std.proofs.Common.{◌≡◌, ℕ, Bool, true, false, cond, ◌⊎◌, if◌then◌else◌, List, [], ◌∷◌, ◌++◌, map, length, Option, Some, None, nat_lt, refl, sym, ◌∙◌, inl, inr}
use Rattle.mqtt_base.specs.declared.session.CopyId.{CopyId}
use Rattle.mqtt_base.specs.declared.session.Qos.{Qos as Quality}
use Rattle.mqtt_base.specs.declared.session.Qos.TheVariants.{AtMostOnce, AtLeastOnce, ExactlyOnce}
use Rattle.mqtt_base.specs.declared.limits.TheConstants.{OPEN_LIMIT}
use Rattle.mqtt_packet.specs.declared.codec.publish.Delivery.{Delivery}
use Rattle.mqtt_packet.specs.declared.codec.publish.Delivery.TheVariants as delivery
use Rattle.mqtt_packet.specs.declared.codec.publish.Publish.{Publish as Publication}
use Rattle.mqtt_packet.specs.declared.codec.packet.Packet.{Packet}
use Rattle.mqtt_packet.specs.declared.codec.packet.Packet.TheVariants as packets
use Rattle.mqtt_flow.specs.inbound.Line.{Link, away, asked, live}
use Rattle.mqtt_flow.specs.inbound.Publisher.{ToPublisher, CONNACK, CONNACK_REFUSED, PUBACK, PUBREC, PUBCOMP, DISCONNECT, in_flight, resent_from, on_new_session, on_puback, on_pubrec, on_pubcomp, pubrel_for}
use Rattle.mqtt_world_model.specs.model.Lines.{Down, Line, gives_up, left}
use Rattle.mqtt_world_model.specs.model.Ends.{Content, Draft, shake, Publisher, Receiver, goes, connected, goes_out, send_one, send_all, send_unsent, published, reads_connack, reads, reads_if, publisher_reads, reads_publish, receiver_connack, hears, receiver_reads}
use Rattle.mqtt_world_laws.specs.acceptance.LineNumbers.{HasApart}
use Rattle.mqtt_world_laws.proofs.acceptance_lemmas.publishers.Ends.{no_line_is}

-- a line's number stays, or it has none, and so does that of the line given up
pub record IsKept {U : Type 0} (x y : Line U) : Type 0 where
  pub number : (y.number ≡ x.number) ⊎ (y.number ≡ None)
  pub old_number : y.old_number ≡ x.old_number

-- a line that is kept stays apart from another end's
pub kept_apart : {U : Type 0} (Out : ℕ → Type 0) (given : ℕ) (x y : Line U) → IsKept x y → HasApart Out given x → HasApart Out given y
kept_apart Out given x y k h = record {
  number = λ n is. elim k.number [
    | inl same ↦ h.number n (sym same ∙ is)
    | inr none ↦ no_line_is Out given y.number none n is
  ];
  old_number = λ n is. h.old_number n (sym k.old_number ∙ is);
}

-- ---- a publisher's

-- a publisher keeps its name, and its lines as they may be kept
pub record Remains (p q : Publisher) : Type 0 where
  pub client : q.client ≡ p.client
  pub line : IsKept p.line q.line

same : (p : Publisher) → Remains p p
same p = record { client = refl; line = record { number = inl refl; old_number = refl } }

sends_out : (t : Bool) (k : Quality) (c : Content) (rest : List Draft) (p : Publisher) → (goes_out t k c rest p).client ≡ p.client
    × ((goes_out t k c rest p).line.number ≡ p.line.number) × ((goes_out t k c rest p).line.old_number ≡ p.line.old_number)
sends_out t AtMostOnce c rest p = (refl, refl, refl)
sends_out t AtLeastOnce c rest p = (refl, refl, refl)
sends_out t ExactlyOnce c rest p = (refl, refl, refl)

abbrev Sent_ : Publisher → Publisher → Type 0
Sent_ p q = (q.client ≡ p.client) × (q.line.number ≡ p.line.number) × (q.line.old_number ≡ p.line.old_number)

sends_if : (z : Bool) (p v : Publisher) → Sent_ p v → Sent_ p (if z then v else p)
sends_if true p v h = h
sends_if false p v h = (refl, refl, refl)

sends_all : (t : Bool) (ds : List Draft) (p : Publisher) → Sent_ p (send_all t ds p)
sends_all t [] p = (refl, refl, refl)
sends_all t (d ∷ rest) p =
    let one = sends_if (nat_lt (length (in_flight p.fates)) OPEN_LIMIT) p (goes_out t d.qos d.content rest p) (sends_out t d.qos d.content rest p) in
    let more = sends_all t rest (send_one t d rest p) in
    (more.0 ∙ one.0, more.1 ∙ one.1, more.2 ∙ one.2)

sends_unsent : (t : Bool) (link : Link) (p : Publisher) → Sent_ p (send_unsent t link p)
sends_unsent t away p = (refl, refl, refl)
sends_unsent t asked p = (refl, refl, refl)
sends_unsent t live p = sends_all t p.unsent p

-- a publication keeps the publisher's name and lines
pub published_remains : (t : Bool) (d : Draft) (p : Publisher) → Remains p (published t d p)
published_remains t d p =
    let s = sends_unsent t p.line.link (record p { unsent = p.unsent ++ d ∷ [] }) in
    record { client = s.0; line = record { number = inl s.1; old_number = s.2 } }

-- it reads a packet, then sends what waits
then_sends : (t : Bool) (link : Link) (p v : Publisher) → v.client ≡ p.client → v.line.number ≡ p.line.number → v.line.old_number ≡ p.line.old_number → Remains p (send_unsent t link v)
then_sends t link p v client number old =
    let s = sends_unsent t link v in
    record { client = s.0 ∙ client; line = record { number = inl (s.1 ∙ number); old_number = s.2 ∙ old } }

connack_remains : (t : Bool) (link : Link) (present : Bool) (p : Publisher) → Remains p (reads_connack t link present p)
connack_remains t away present p = same p
connack_remains t live present p = same p
connack_remains t asked true p = then_sends t live p (record p { line = goes t (map shake (resent_from 0 p.fates)) (connected p.line) }) refl refl refl
connack_remains t asked false p = then_sends t live p (record p { fates = map on_new_session p.fates; line = connected p.line }) refl refl refl

reads_remain : (t : Bool) (packet : ToPublisher) (p : Publisher) → Remains p (reads t packet p)
reads_remain t (CONNACK present) p = connack_remains t p.line.link present p
reads_remain t (CONNACK_REFUSED code) p = record { client = refl; line = record { number = inr refl; old_number = refl } }
reads_remain t (PUBACK id code) p = then_sends t p.line.link p (record p { fates = map (on_puback id code) p.fates }) refl refl refl
reads_remain t (PUBREC id code) p = then_sends t p.line.link p (record p { fates = map (on_pubrec id code) p.fates; line = goes t (map shake (pubrel_for id code p.fates)) p.line }) refl refl refl
reads_remain t (PUBCOMP id code) p = then_sends t p.line.link p (record p { fates = map (on_pubcomp id) p.fates }) refl refl refl
reads_remain t (DISCONNECT code) p = record { client = refl; line = record { number = inr refl; old_number = refl } }

if_remains : (t : Bool) (x : Option ToPublisher) (rest : List Down) (p : Publisher) → Remains p (reads_if t x (record p { line = record p.line { down = rest } }))
if_remains t None rest p = record { client = refl; line = record { number = inl refl; old_number = refl } }
if_remains t (Some packet) rest p =
    let r = reads_remain t packet (record p { line = record p.line { down = rest } }) in
    record { client = r.client; line = record { number = r.line.number; old_number = r.line.old_number } }

-- so does its reading
pub read_remains : (t : Bool) (ds : List Down) (p : Publisher) → Remains p (publisher_reads t ds p)
read_remains t [] p = same p
read_remains t (d ∷ rest) p = if_remains t _ rest p

-- ---- a receiver's

-- a receiver keeps its name, and its lines as they may be kept
pub record RemainsThere (r s : Receiver) : Type 0 where
  pub client : s.client ≡ r.client
  pub line : IsKept r.line s.line

same_there : (r s : Receiver) → s.client ≡ r.client → s.line.number ≡ r.line.number → s.line.old_number ≡ r.line.old_number → RemainsThere r s
same_there r s client number old = record { client = client; line = record { number = inl number; old_number = old } }

publish_there : (t : Bool) (copy : Option CopyId) (p : Publication) (d : Delivery) (r : Receiver) → RemainsThere r (reads_publish t copy p d r)
publish_there t copy p delivery.AtMostOnce r = same_there r _ refl refl refl
publish_there t copy p (delivery.AtLeastOnce dup i) r = same_there r _ refl refl refl
publish_there t copy p (delivery.ExactlyOnce dup i) r = same_there r _ refl refl refl

code_there : (t : Bool) (present : Bool) (r v w : Receiver) → RemainsThere r v → RemainsThere r w → RemainsThere r (cond t v w)
code_there true present r v w h g = h
code_there false present r v w h g = g

connack_there : (link : Link) (present : Bool) (code : ℕ) (r : Receiver) → RemainsThere r (receiver_connack link present code r)
connack_there away present code r = same_there r r refl refl refl
connack_there live present code r = same_there r r refl refl refl
connack_there asked present code r =
    code_there (nat_lt 0 code) present r _ _ (record { client = refl; line = record { number = inr refl; old_number = refl } }) (same_there r _ refl refl refl)

hears_there : (t : Bool) (copy : Option CopyId) (packet : Packet) (r : Receiver) → RemainsThere r (hears t copy packet r)
hears_there t copy (packets.Connack a) r = connack_there r.line.link a.session_present a.reason.0 r
hears_there t copy (packets.Publish p) r = publish_there t copy p p.delivery r
hears_there t copy (packets.Pubrel a) r = same_there r _ refl refl refl
hears_there t copy (packets.Suback a) r = same_there r _ refl refl refl
hears_there t copy (packets.Disconnect n) r = record { client = refl; line = record { number = inr refl; old_number = refl } }
hears_there t copy packet r = same_there r r refl refl refl

-- and a receiver's
pub read_there : (t : Bool) (ds : List Down) (r : Receiver) → RemainsThere r (receiver_reads t ds r)
read_there t [] r = same_there r r refl refl refl
read_there t (d ∷ rest) r =
    let v = record r { line = record r.line { down = rest } } in
    let h = hears_there t d.copy d.packet v in
    record { client = h.client; line = record { number = h.line.number; old_number = h.line.old_number } }

-- ---- a line is given up

-- a line that is given up stays apart
pub gives_apart : {U : Type 0} (Out : ℕ → Type 0) (given : ℕ) (link : Link) (l : Line U) → HasApart Out given l → HasApart Out given (gives_up link l)
gives_apart Out given away l h = h
gives_apart Out given asked l h = record { number = λ n is. absurd cc; old_number = h.number }
gives_apart Out given live l h = record { number = λ n is. absurd cc; old_number = h.number }

-- and one that is left
pub left_apart : {U : Type 0} (Out : ℕ → Type 0) (given : ℕ) (l : Line U) → HasApart Out given l → HasApart Out given (left l)
left_apart Out given l h = record { number = λ n is. absurd cc; old_number = h.old_number }
