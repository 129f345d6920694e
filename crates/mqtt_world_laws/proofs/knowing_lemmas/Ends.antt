-- What an end does leaves its line, its name and what it knows as they are, or it leaves its line, or gives it up.
use Rattle.std.proofs.Common.{◌≡◌, ℕ, Bool, true, false, cond, ◌⊎◌, List, [], ◌∷◌, ◌++◌, length, map, nat_lt, Option, Some, None, refl, sym, subst, ◌∙◌, inl, inr}
use Rattle.std.specs.Prelude.{if◌then◌else◌}
use Rattle.mqtt_base.specs.declared.limits.TheConstants.{OPEN_LIMIT}
use Rattle.mqtt_base.specs.declared.session.CopyId.{CopyId}
use Rattle.mqtt_base.specs.declared.session.Qos.{Qos as Quality}
use Rattle.mqtt_base.specs.declared.session.Qos.TheVariants.{AtMostOnce, AtLeastOnce, ExactlyOnce}
use Rattle.mqtt_packet.specs.declared.codec.publish.Delivery.{Delivery}
use Rattle.mqtt_packet.specs.declared.codec.publish.Delivery.TheVariants as delivery
use Rattle.mqtt_packet.specs.declared.codec.publish.Publish.{Publish as Publication}
use Rattle.mqtt_packet.specs.declared.codec.packet.Packet.{Packet}
use Rattle.mqtt_packet.specs.declared.codec.packet.Packet.TheVariants.{Connack, Publish, Pubrel, Suback, Disconnect}
use Rattle.mqtt_flow.specs.inbound.Line.{Link, away, asked, live}
use Rattle.mqtt_flow.specs.inbound.Publisher.{ToPublisher, CONNACK, CONNACK_REFUSED, PUBACK, PUBREC, PUBCOMP, DISCONNECT, in_flight, on_new_session, on_puback, on_pubcomp, on_pubrec, pubrel_for, resent_from}
use Rattle.mqtt_world_laws.specs.knowing.Knowing.{End, end_of, of_publisher, of_receiver}
use Rattle.mqtt_world_model.specs.model.Lines.{Down, Line, gives_up, left}
use Rattle.mqtt_world_model.specs.model.Ends.{Content, Draft, Publisher, Receiver, connected, goes, goes_out, greeted, heard, hears, publisher_reads, published, reads, reads_connack, reads_if, reads_publish, receiver_connack, receiver_reads, send_all, send_one, send_unsent, shake}

-- an end that has left its line, and one that has given it up
abbrev pub off : End → End
off e = record e { number = None }

abbrev pub given_off : End → End
given_off e = record e { number = None; old_number = e.number }

-- it is as it was, or has left its line, or given it up
abbrev pub Stays : End → End → Type 0
Stays old new = (new ≡ old) ⊎ ((new ≡ off old) ⊎ (new ≡ given_off old))

-- what holds of an end before, and if it leaves its line or gives it up, holds after
pub still : (P : End → Type 0) (old new : End) → Stays old new → P old → P (off old) → P (given_off old) → P new
still P old new (inl same) h left_h given_h = subst P (sym same) h
still P old new (inr (inl gone)) h left_h given_h = subst P (sym gone) left_h
still P old new (inr (inr gone)) h left_h given_h = subst P (sym gone) given_h

goes_out_stays : (up : Bool) (q : Quality) (c : Content) (rest : List Draft) (p : Publisher) → of_publisher (goes_out up q c rest p) ≡ of_publisher p
goes_out_stays up AtMostOnce c rest p = refl
goes_out_stays up AtLeastOnce c rest p = refl
goes_out_stays up ExactlyOnce c rest p = refl

send_one_stays : (up : Bool) (d : Draft) (rest : List Draft) (p : Publisher) → of_publisher (send_one up d rest p) ≡ of_publisher p
send_one_stays up d rest p = by (nat_lt (length (in_flight p.fates)) OPEN_LIMIT)
  where
    by : (t : Bool) → of_publisher (if t then goes_out up d.qos d.content rest p else p) ≡ of_publisher p
    by true = goes_out_stays up d.qos d.content rest p
    by false = refl

send_all_stays : (up : Bool) (ds : List Draft) (p : Publisher) → of_publisher (send_all up ds p) ≡ of_publisher p
send_all_stays up [] p = refl
send_all_stays up (d ∷ rest) p = send_all_stays up rest (send_one up d rest p) ∙ send_one_stays up d rest p

unsent_stays : (up : Bool) (link : Link) (p : Publisher) → of_publisher (send_unsent up link p) ≡ of_publisher p
unsent_stays up away p = refl
unsent_stays up asked p = refl
unsent_stays up live p = send_all_stays up p.unsent p

-- a message is published
pub published_stays : (up : Bool) (d : Draft) (p : Publisher) → of_publisher (published up d p) ≡ of_publisher p
published_stays up d p = unsent_stays up p.line.link (record p { unsent = p.unsent ++ d ∷ [] })

connack_stays : (up : Bool) (link : Link) (present : Bool) (p : Publisher) → of_publisher (reads_connack up link present p) ≡ of_publisher p
connack_stays up away present p = refl
connack_stays up asked true p = unsent_stays up live (record p { line = goes up (map shake (resent_from 0 p.fates)) (connected p.line) })
connack_stays up asked false p = unsent_stays up live (record p { fates = map on_new_session p.fates; line = connected p.line })
connack_stays up live present p = refl

reads_stays : (up : Bool) (x : ToPublisher) (p : Publisher) → Stays (of_publisher p) (of_publisher (reads up x p))
reads_stays up (CONNACK present) p = inl (connack_stays up p.line.link present p)
reads_stays up (CONNACK_REFUSED code) p = inr (inl refl)
reads_stays up (PUBACK id code) p = inl (unsent_stays up p.line.link (record p { fates = map (on_puback id code) p.fates }))
reads_stays up (PUBREC id code) p =
    inl (unsent_stays up p.line.link (record p { fates = map (on_pubrec id code) p.fates; line = goes up (map shake (pubrel_for id code p.fates)) p.line }))
reads_stays up (PUBCOMP id code) p = inl (unsent_stays up p.line.link (record p { fates = map (on_pubcomp id) p.fates }))
reads_stays up (DISCONNECT code) p = inr (inl refl)

reads_if_stays : (up : Bool) (o : Option ToPublisher) (p : Publisher) → Stays (of_publisher p) (of_publisher (reads_if up o p))
reads_if_stays up None p = inl refl
reads_if_stays up (Some x) p = reads_stays up x p

-- it reads a packet
pub publisher_stays : (up : Bool) (ds : List Down) (p : Publisher) → Stays (of_publisher p) (of_publisher (publisher_reads up ds p))
publisher_stays up [] p = inl refl
publisher_stays up (d ∷ rest) p = reads_if_stays up (heard d.packet) (record p { line = record p.line { down = rest } })

-- ---- a receiver

publish_stays : (up : Bool) (copy : Option CopyId) (p : Publication) (d : Delivery) (r : Receiver) → of_receiver (reads_publish up copy p d r) ≡ of_receiver r
publish_stays up copy p delivery.AtMostOnce r = refl
publish_stays up copy p (delivery.AtLeastOnce dup id) r = refl
publish_stays up copy p (delivery.ExactlyOnce dup id) r = refl

greeted_stays : (link : Link) (present : Bool) (code : ℕ) (r : Receiver) → Stays (of_receiver r) (of_receiver (receiver_connack link present code r))
greeted_stays away present code r = inl refl
greeted_stays live present code r = inl refl
greeted_stays asked present code r = by (nat_lt 0 code)
  where
    shut : Receiver
    shut = record r { line = left (record r.line { clean = false }) }

    open_ : Receiver
    open_ = record r { line = greeted r.line; asking = false; kept = if present then r.kept else [] }

    by : (t : Bool) → Stays (of_receiver r) (of_receiver (cond {A = Receiver} t shut open_))
    by true = inr (inl refl)
    by false = inl refl

hears_stays : (up : Bool) (copy : Option CopyId) (packet : Packet) (r : Receiver) → Stays (of_receiver r) (of_receiver (hears up copy packet r))
hears_stays up copy (Connack a) r = greeted_stays r.line.link a.session_present a.reason.0 r
hears_stays up copy (Publish p) r = inl (publish_stays up copy p p.delivery r)
hears_stays up copy (Pubrel a) r = inl refl
hears_stays up copy (Suback a) r = inl refl
hears_stays up copy (Disconnect n) r = inr (inl refl)
hears_stays up copy packet r = inl refl

-- it reads a packet
pub receiver_stays : (up : Bool) (ds : List Down) (r : Receiver) → Stays (of_receiver r) (of_receiver (receiver_reads up ds r))
receiver_stays up [] r = inl refl
receiver_stays up (d ∷ rest) r = hears_stays up d.copy d.packet (record r { line = record r.line { down = rest } })

-- ---- either

-- it gives up its line
pub given_up_stays : {U : Type 0} (client : List ℕ) (aliases : ℕ) (link : Link) (l : Line U) → Stays (end_of client aliases l) (end_of client aliases (gives_up link l))
given_up_stays client aliases away l = inl refl
given_up_stays client aliases asked l = inr (inr refl)
given_up_stays client aliases live l = inr (inr refl)
