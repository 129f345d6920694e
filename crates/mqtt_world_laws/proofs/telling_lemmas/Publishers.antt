-- What a publisher does leaves alone what is under way to it; and what it reads it hears as before.
use Rattle.std.proofs.Common.{◌≡◌, Bool, true, false, List, [], ◌∷◌, ◌++◌, length, map, nat_lt, Option, Some, None, refl, ap, subst, ◌∙◌}
use Rattle.std.specs.Prelude.{if◌then◌else◌}
use Rattle.mqtt_base.specs.declared.limits.TheConstants.{OPEN_LIMIT}
use Rattle.mqtt_base.specs.declared.session.Qos.{Qos as Quality}
use Rattle.mqtt_base.specs.declared.session.Qos.TheVariants.{AtMostOnce, AtLeastOnce, ExactlyOnce}
use Rattle.mqtt_flow.specs.inbound.Line.{Link, away, asked, live}
use Rattle.mqtt_flow.specs.inbound.Publisher.{ToPublisher, CONNACK, CONNACK_REFUSED, PUBACK, PUBREC, PUBCOMP, DISCONNECT}
use Rattle.mqtt_flow.specs.inbound.Publisher.{in_flight, resent_from, on_new_session, on_puback, on_pubrec, on_pubcomp, pubrel_for}
use Rattle.mqtt_rules.specs.step.State.{Broker}
use Rattle.mqtt_world_model.specs.model.Lines.{Down, stands}
use Rattle.mqtt_world_model.specs.model.Ends.{Content, Draft, shake, Publisher, connected, goes, goes_out, heard, publisher_reads, published, reads, reads_connack, reads_if, send_all, send_one, send_unsent}
use Rattle.mqtt_world_model.specs.model.Seen.{heard_in}
use Rattle.mqtt_world_laws.specs.telling.Likewise.{PublishersAlike}
use Rattle.mqtt_world_laws.proofs.telling_lemmas.Ends.{Alters, Carries, carried, kept_publisher, publisher_with}

-- ---- messages go out

goes_out_carries : (up : Bool) (q : Quality) (c : Content) (rest : List Draft) → Carries (goes_out up q c rest)
goes_out_carries up AtMostOnce c rest ms p = refl
goes_out_carries up AtLeastOnce c rest ms p = refl
goes_out_carries up ExactlyOnce c rest ms p = refl

send_one_carries : (up : Bool) (d : Draft) (rest : List Draft) → Carries (send_one up d rest)
send_one_carries up d rest ms p = by (nat_lt (length (in_flight p.fates)) OPEN_LIMIT)
  where
    by : (t : Bool) → (if t then goes_out up d.qos d.content rest (publisher_with ms p) else publisher_with ms p) ≡ publisher_with ms (if t then goes_out up d.qos d.content rest p else p)
    by true = goes_out_carries up d.qos d.content rest ms p
    by false = refl

send_all_carries : (up : Bool) (ds : List Draft) → Carries (send_all up ds)
send_all_carries up [] ms p = refl
send_all_carries up (d ∷ rest) ms p = ap (send_all up rest) (send_one_carries up d rest ms p) ∙ send_all_carries up rest ms (send_one up d rest p)

send_unsent_carries : (up : Bool) (link : Link) → Carries (send_unsent up link)
send_unsent_carries up away ms p = refl
send_unsent_carries up asked ms p = refl
send_unsent_carries up live ms p = send_all_carries up p.unsent ms p

-- a message is published
pub publishes : (b : Broker) (d : Draft) → Alters (λ p. published (stands p.line.number b) d p) (λ p. published (stands p.line.number b) d p)
publishes b d =
    carried (λ p. published (stands p.line.number b) d p)
    (λ ms p. send_unsent_carries (stands p.line.number b) p.line.link ms (record p { unsent = p.unsent ++ d ∷ [] }))

-- ---- it reads

connack_carries : (up : Bool) (link : Link) (present : Bool) → Carries (reads_connack up link present)
connack_carries up away present ms p = refl
connack_carries up asked true ms p = send_unsent_carries up live ms (record p { line = goes up (map shake (resent_from 0 p.fates)) (connected p.line) })
connack_carries up asked false ms p = send_unsent_carries up live ms (record p { fates = map on_new_session p.fates; line = connected p.line })
connack_carries up live present ms p = refl

module _ (up : Bool) (p : Publisher) (ms : List Down) (same : map heard_in p.line.down ≡ map heard_in ms) where
  abbrev Both : (Publisher → Publisher) → Type 0
  Both f = PublishersAlike (f p) (f (publisher_with ms p))

  over : (f : Publisher → Publisher) → Carries f → Both f
  over f c = (carried f c).each p ms same

  hears_both : (x : ToPublisher) → Both (reads up x)
  hears_both (CONNACK present) = over (reads_connack up p.line.link present) (connack_carries up p.line.link present)
  hears_both (CONNACK_REFUSED code) = record { same = refl; heard = refl }
  hears_both (PUBACK id code) =
      over (λ x. send_unsent up p.line.link (record x { fates = map (on_puback id code) x.fates }))
      (λ ns x. send_unsent_carries up p.line.link ns (record x { fates = map (on_puback id code) x.fates }))
  hears_both (PUBREC id code) =
      over (λ x. send_unsent up p.line.link (record x { fates = map (on_pubrec id code) x.fates; line = goes up (map shake (pubrel_for id code x.fates)) x.line }))
      (λ ns x. send_unsent_carries up p.line.link ns (record x { fates = map (on_pubrec id code) x.fates; line = goes up (map shake (pubrel_for id code x.fates)) x.line }))
  hears_both (PUBCOMP id code) =
      over (λ x. send_unsent up p.line.link (record x { fates = map (on_pubcomp id) x.fates }))
      (λ ns x. send_unsent_carries up p.line.link ns (record x { fates = map (on_pubcomp id) x.fates }))
  hears_both (DISCONNECT code) = record { same = refl; heard = refl }

  hears_some : (o : Option ToPublisher) → Both (reads_if up o)
  hears_some None = kept_publisher p ms same
  hears_some (Some x) = hears_both x

first_read : (up : Bool) (p : Publisher) (ds ms : List Down) → map heard_in ds ≡ map heard_in ms
    → PublishersAlike (publisher_reads up ds (publisher_with ds p)) (publisher_reads up ms (publisher_with ms p))
first_read up p [] [] e = kept_publisher (publisher_with [] p) [] refl
first_read up p [] (m ∷ ms) e = absurd cc
first_read up p (d ∷ ds) [] e = absurd cc
first_read up p (d ∷ ds) (m ∷ ms) e =
    let first : heard d.packet ≡ heard m.packet = cc in
    let rest : map heard_in ds ≡ map heard_in ms = cc in
    subst (λ (o : Option ToPublisher). PublishersAlike (reads_if up (heard d.packet) (publisher_with ds p)) (reads_if up o (publisher_with ms p))) first
    (hears_some up (publisher_with ds p) ms rest (heard d.packet))

-- the first packet under way to it
pub reads_first : (b : Broker) → Alters (λ p. publisher_reads (stands p.line.number b) p.line.down p) (λ p. publisher_reads (stands p.line.number b) p.line.down p)
reads_first b = record { each = λ p ms e. first_read (stands p.line.number b) p p.line.down ms e }
