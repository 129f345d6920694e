-- A receiver reads a packet: by what it knows it hears what was meant.
use Rattle.std.proofs.Common.{◌≡◌, ℕ, Bool, true, false, List, [], ◌∷◌, nat_lt, Option, Some, None, refl, sym, ap, subst, ◌∙◌}
use Rattle.std.specs.Prelude.{is_some}
use Rattle.mqtt_base.specs.declared.session.CopyId.{CopyId}
use Rattle.mqtt_packet.specs.declared.codec.packet.Packet.{Packet}
use Rattle.mqtt_packet.specs.declared.codec.packet.Packet.TheVariants as packets
use Rattle.mqtt_packet.specs.declared.codec.publish.Delivery.{Delivery}
use Rattle.mqtt_packet.specs.declared.codec.publish.Delivery.TheVariants as delivery
use Rattle.mqtt_packet.specs.declared.codec.publish.Publish.{Publish}
use Rattle.mqtt_flow.specs.inbound.Line.{Link, away, asked, live}
use Rattle.mqtt_topic.specs.names.Aliases.{AliasTable}
use Rattle.mqtt_topic.specs.declared.sending.form.Form.{Form}
use Rattle.mqtt_rules.specs.step.Forms.{in_form}
use Rattle.mqtt_rules.specs.step.Inbound.{Means as meant_to_be}
use Rattle.mqtt_rules.specs.step.State.{Telling}
use Rattle.mqtt_rules.proofs.step_lemmas.acts.Meanings.{resolved_means}
use Rattle.mqtt_rules.specs.telling.Meaning.{Means, after_reading, alias_on}
use Rattle.mqtt_world_model.specs.model.Lines.{Down}
use Rattle.mqtt_world_model.specs.model.Ends.{Receiver, hears, reads_publish, receiver_connack}
use Rattle.mqtt_world_model.specs.model.Ends as meant
use Rattle.mqtt_world_laws.specs.telling.Reading.{hears_if, known_after, receiver_reads, understood, with_topic_of}
use Rattle.mqtt_world_laws.specs.telling.AsSent.{Most}
use Rattle.mqtt_world_laws.specs.telling.Likewise.{AreUnderstood, DownMeans, KnowsOn, ReceiversAlike}
use Rattle.mqtt_world_laws.proofs.telling_lemmas.Downs.{DownsAlike, max_after}
use Rattle.mqtt_world_laws.proofs.telling_lemmas.Ends.{receiver_with, kept_receiver}

-- ---- what is heard

-- of a PUBLISH only its topic, its payload and its delivery are of use
same_publish : (stands : Bool) (copy : Option CopyId) (form : Form) (p : Publish) (d : Delivery) (r : Receiver)
    → reads_publish stands copy (record (in_form form p) { topic = p.topic }) d r ≡ reads_publish stands copy p d r
same_publish stands copy form p delivery.AtMostOnce r = refl
same_publish stands copy form p (delivery.AtLeastOnce dup id) r = refl
same_publish stands copy form p (delivery.ExactlyOnce dup id) r = refl

module _ (k : AliasTable) (p : Publish) where
  -- a PUBLISH that means another is understood
  resolves : (x : Packet) (h : Means k x (packets.Publish p)) → understood k x ≡ with_topic_of (in_form h.form p) (meant_to_be p.topic)
  resolves x h =
      let q = in_form h.form p in
      ap (understood k) h.is ∙ ap (with_topic_of q) (resolved_means k q.topic (alias_on q) p.topic h.topic)

-- what means a packet is heard as that one
pub heard_as : (stands : Bool) (copy : Option CopyId) (k : AliasTable) (x y : Packet) (r : Receiver) → Means k x y
    → hears_if stands copy (understood k x) r ≡ hears stands copy y r
heard_as stands copy k x (packets.Publish p) r h =
    ap (λ (o : Option Packet). hears_if stands copy o r) (resolves k p x h) ∙ same_publish stands copy h.form p p.delivery r
heard_as stands copy k x y r h = ap (λ (z : Packet). hears_if stands copy (understood k z) r) h

-- and means something
pub is_understood : (k : AliasTable) (x y : Packet) → Means k x y → is_some (understood k x) ≡ true
is_understood k x (packets.Publish p) h = ap is_some (resolves k p x h)
is_understood k x y h = ap (λ (z : Packet). is_some (understood k z)) h

-- so does each packet under way
pub are_understood : (k : AliasTable) (ds ms : List Down) → DownMeans k ds ms → AreUnderstood k ds
are_understood k [] ms h = tt
are_understood k (d ∷ ds) [] h = absurd h
are_understood k (d ∷ ds) (m ∷ ms) h = (is_understood k d.packet m.packet h.0, are_understood (after_reading k d.packet) ds ms h.2)

-- ---- what a receiver does with it

module _ (most : Most) (ts : List Telling) (k : AliasTable) where
  abbrev Alike : Receiver → Receiver → Type 0
  Alike r m = ReceiversAlike most ts r k m

  abbrev Downs : Receiver → List Down → Type 0
  Downs r ms = DownsAlike most ts r.line.number k r.line.down ms

  refuses : (t present : Bool) (r : Receiver) (code : ℕ) (ms : List Down) → nat_lt 0 code ≡ t → Downs r ms
      → Alike (receiver_connack asked present code r) (receiver_connack asked present code (receiver_with ms r))
  refuses true present r code ms is h = rw is (record { same = refl; means = tt; knows = tt })
  refuses false present r code ms is h = rw is (record { same = refl; means = h.means; knows = h.knows })

  connack_alike : (link : Link) (present : Bool) (code : ℕ) (r : Receiver) (ms : List Down) → Downs r ms
      → Alike (receiver_connack link present code r) (receiver_connack link present code (receiver_with ms r))
  connack_alike away present code r ms h = kept_receiver most ts r k ms h
  connack_alike asked present code r ms h = refuses (nat_lt 0 code) present r code ms refl h
  connack_alike live present code r ms h = kept_receiver most ts r k ms h

  publish_alike : (stands : Bool) (copy : Option CopyId) (p : Publish) (d : Delivery) (r : Receiver) (ms : List Down) → Downs r ms
      → Alike (reads_publish stands copy p d r) (reads_publish stands copy p d (receiver_with ms r))
  publish_alike stands copy p delivery.AtMostOnce r ms h = kept_receiver most ts r k ms h
  publish_alike stands copy p (delivery.AtLeastOnce dup id) r ms h = record { same = refl; means = h.means; knows = h.knows }
  publish_alike stands copy p (delivery.ExactlyOnce dup id) r ms h = record { same = refl; means = h.means; knows = h.knows }

  hears_alike : (stands : Bool) (copy : Option CopyId) (x : Packet) (r : Receiver) (ms : List Down) → Downs r ms
      → Alike (hears stands copy x r) (hears stands copy x (receiver_with ms r))
  hears_alike stands copy (packets.Connack a) r ms h = connack_alike r.line.link a.session_present a.reason.0 r ms h
  hears_alike stands copy (packets.Publish p) r ms h = publish_alike stands copy p p.delivery r ms h
  hears_alike stands copy (packets.Pubrel a) r ms h = record { same = refl; means = h.means; knows = h.knows }
  hears_alike stands copy (packets.Suback a) r ms h = record { same = refl; means = h.means; knows = h.knows }
  hears_alike stands copy (packets.Disconnect n) r ms h = record { same = refl; means = tt; knows = tt }
  hears_alike stands copy x r ms h = kept_receiver most ts r k ms h

read_first : (most : Most) (ts : List Telling) (k : AliasTable) (o : Option ℕ) (d : Down) (ds : List Down)
    → KnowsOn most ts o k (d ∷ ds) → KnowsOn most ts o (after_reading k d.packet) ds
read_first most ts k None d ds h = tt
read_first most ts k (Some n) d ds h = (max_after k d.packet ∙ h.0, h.1)

-- both read the first packet under way
pub reads_alike : (most : Most) (ts : List Telling) (k : AliasTable) (stands : Bool) (r : Receiver) (ds ms : List Down)
    → DownsAlike most ts r.line.number k ds ms
    → ReceiversAlike most ts (receiver_reads stands k ds (receiver_with ds r)) (known_after k ds) (meant.receiver_reads stands ms (receiver_with ms r))
reads_alike most ts k stands r [] [] h = kept_receiver most ts (receiver_with [] r) k [] h
reads_alike most ts k stands r [] (m ∷ ms) h = absurd h.means
reads_alike most ts k stands r (d ∷ ds) [] h = absurd h.means
reads_alike most ts k stands r (d ∷ ds) (m ∷ ms) h =
    let rest = receiver_with ds r in
    let after = after_reading k d.packet in
    let read : DownsAlike most ts r.line.number after ds ms = record { means = h.means.2; knows = read_first most ts k r.line.number d ds h.knows } in
    let first = heard_as stands d.copy k d.packet m.packet rest h.means.0 ∙ ap (λ (copy : Option CopyId). hears stands copy m.packet rest) h.means.1 in
    subst (λ (x : Receiver). ReceiversAlike most ts x after (hears stands m.copy m.packet (receiver_with ms r))) (sym first)
    (hears_alike most ts after stands m.copy m.packet rest ms read)
