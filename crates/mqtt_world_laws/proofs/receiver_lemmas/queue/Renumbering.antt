-- What a receiver sees is the same, however its copies are numbered: each tag names one that entered.
use Rattle.std.proofs.Common.{◌≡◌, ℕ, true, false, List, [], ◌∷◌, map, Option, Some, None, slice_get, refl, sym, ap, subst, ◌∙◌}
use Rattle.std.specs.Prelude.{filter_map}
use Rattle.std.specs.List.{AllByRecursion}
use Rattle.mqtt_base.specs.declared.session.CopyId.{CopyId}
use Rattle.mqtt_packet.specs.declared.codec.packet.Packet.{Packet}
use Rattle.mqtt_packet.specs.declared.codec.packet.Packet.TheVariants as packet
use Rattle.mqtt_packet.specs.declared.codec.publish.Delivery.{Delivery}
use Rattle.mqtt_packet.specs.declared.codec.publish.Delivery.TheVariants as delivery
use Rattle.mqtt_packet.specs.declared.codec.publish.Publish.{Publish as Publication}
use Rattle.mqtt_flow.specs.outbound.OutboundWorld.{Lot}
use Rattle.mqtt_flow.specs.outbound.Receiver.{publish}
use Rattle.mqtt_world_model.specs.model.Ends.{Entry, Receiver, body_of}
use Rattle.mqtt_world_model.specs.model.Lines.{Down}
use Rattle.mqtt_rules.specs.step.State.{Broker}
use Rattle.mqtt_world_laws.specs.receiver.Handing.{IsRun}
use Rattle.mqtt_world_laws.specs.receiver.Seen.{Numbering, handed_in, heard, heard_in, number_of, publish_heard, seen}
use Rattle.mqtt_world_laws.specs.receiver.Tags.{AreNumbered, IsTagged, IsTaggedBy, IsTaggedWith, Names, WasTagged, id_of}

module _ (number other : Numbering) (ids : List CopyId) (numbered : AreNumbered other ids) where
  same_number : (o : Option CopyId) → Names number ids o → number_of other o ≡ number_of number o
  same_number None h = absurd h
  same_number (Some c) h = numbered (number c) c h

  names_other : (o : Option CopyId) → Names number ids o → Names other ids o
  names_other None h = absurd h
  names_other (Some c) h = subst (λ (n : ℕ). slice_get ids n ≡ Some c) (sym (numbered (number c) c h)) h

  -- ---- what is under way to it

  publish_same : (o : Option CopyId) (p : Publication) (d : Delivery) → IsTaggedBy number ids o d → publish_heard other o p d ≡ publish_heard number o p d
  publish_same o p delivery.AtMostOnce h = refl
  publish_same o p (delivery.AtLeastOnce dup i) h = ap (λ (n : ℕ). Some (publish i n dup (body_of false p))) (same_number o h)
  publish_same o p (delivery.ExactlyOnce dup i) h = ap (λ (n : ℕ). Some (publish i n dup (body_of true p))) (same_number o h)

  heard_same : (o : Option CopyId) (x : Packet) → IsTaggedWith number ids o x → heard other o x ≡ heard number o x
  heard_same o (packet.Publish p) h = publish_same o p p.delivery h
  heard_same o (packet.Connack a) h = refl
  heard_same o (packet.Pubrel a) h = refl
  heard_same o (packet.Disconnect a) h = refl
  heard_same o x h = refl

  tagged_by : (o : Option CopyId) (d : Delivery) → IsTaggedBy number ids o d → IsTaggedBy other ids o d
  tagged_by o delivery.AtMostOnce h = tt
  tagged_by o (delivery.AtLeastOnce dup i) h = names_other o h
  tagged_by o (delivery.ExactlyOnce dup i) h = names_other o h

  tagged_with : (o : Option CopyId) (x : Packet) → IsTaggedWith number ids o x → IsTaggedWith other ids o x
  tagged_with o (packet.Publish p) h = tagged_by o p.delivery h
  tagged_with o x h = tt

  downs_same : (ds : List Down) → AllByRecursion (IsTagged number ids) ds → filter_map (heard_in other) ds ≡ filter_map (heard_in number) ds
  downs_same [] h = refl
  downs_same (d ∷ ds) h = rw (heard_same d.copy d.packet h.0, downs_same ds h.1) refl

  downs_tagged : (ds : List Down) → AllByRecursion (IsTagged number ids) ds → AllByRecursion (IsTagged other ids) ds
  downs_tagged [] h = tt
  downs_tagged (d ∷ ds) h = (tagged_with d.copy d.packet h.0, downs_tagged ds h.1)

  -- ---- what it has read

  read_same : (es : List Entry) → AllByRecursion (WasTagged number ids) es → map (handed_in other) es ≡ map (handed_in number) es
  read_same [] h = refl
  read_same (e ∷ es) h =
      let first = same_number e.copy h.0 in
      let rest = read_same es h.1 in
      λ i. record { copy = first i; body = e.body } ∷ rest i

  read_tagged : (es : List Entry) → AllByRecursion (WasTagged number ids) es → AllByRecursion (WasTagged other ids) es
  read_tagged [] h = tt
  read_tagged (e ∷ es) h = (names_other e.copy h.0, read_tagged es h.1)

-- a run may be numbered anew
pub renumbered : (number other : Numbering) (largest : ℕ) (copies : List Lot) (r : Receiver) (b : Broker) → AreNumbered other (map id_of copies) → IsRun number largest copies r b → IsRun other largest copies r b
renumbered number other largest copies r b numbered h =
    let ids = map id_of copies in
    let t = h.tagged in
    let downs = downs_same number other ids numbered r.line.down t.down in
    let ledger = read_same number other ids numbered r.ledger t.ledger in
    let once = read_same number other ids numbered r.once t.once in
    let same : seen other copies r b ≡ seen number copies r b = λ i. record (seen number copies r b) { down = downs i; ledger = ledger i; reads = once i } in
    record {
      events = h.events;
      seen_is = same ∙ h.seen_is;
      queue_is = h.queue_is;
      numbered = numbered;
      tagged = record {
        down = downs_tagged number other ids numbered r.line.down t.down;
        ledger = read_tagged number other ids numbered r.ledger t.ledger;
        once = read_tagged number other ids numbered r.once t.once;
      };
    }
