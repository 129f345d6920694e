-- A receiver's answers: a copy that leaves by one was taken or refused, or has outgrown its line.
use Rattle.std.proofs.Common.{◌≡◌, ℕ, Bool, true, false, List, Option, Some, None, refl, sym, ap, subst, ◌∙◌, inl, inr}
use Rattle.std.specs.Prelude.{⊤, Ok, Err}
use Rattle.std.proofs.lemmas.Bool.{eqb-true, leb-true, leb-false}
use Rattle.mqtt_base.specs.declared.session.Ending.{Ending}
use Rattle.mqtt_base.specs.declared.session.Ending.TheVariants as endings
use Rattle.mqtt_base.specs.declared.session.Phase.{Phase}
use Rattle.mqtt_base.specs.declared.session.Phase.TheVariants.{Waiting, Sent, Released, Oversize}
use Rattle.mqtt_base.specs.declared.session.Qos.{Qos}
use Rattle.mqtt_base.specs.declared.session.Qos.TheVariants.{AtMostOnce, AtLeastOnce, ExactlyOnce}
use Rattle.mqtt_packet.specs.declared.codec.ack.Ack.{Ack}
use Rattle.mqtt_packet.specs.declared.codec.packet.Packet.{Packet}
use Rattle.mqtt_packet.specs.declared.codec.packet.Packet.TheVariants as packets
use Rattle.mqtt_flow.specs.outbound.Outbound.{Answer, is_refusal, ending_by, acknowledged, puback_by, puback_at, released_by, received, pubrec_by, pubrec_at, pubcomp_by, pubcomp_at}
use Rattle.mqtt_flow.specs.outbound.Outbound as rules
use Rattle.mqtt_flow.specs.outbound.Queue.{holder, is_holder, next_order}
use Rattle.mqtt_flow.specs.declared.outbound.entry.Entry.{Entry as FlowEntry}
use Rattle.mqtt_flow.specs.declared.outbound.entry.Turn.{Turn}
use Rattle.mqtt_flow.specs.declared.outbound.entry.Turn.TheVariants as turns
use Rattle.mqtt_records.specs.messages.Queue.{CopyRow}
use Rattle.mqtt_records.specs.state.Session.{copy_place}
use Rattle.mqtt_records.specs.declared.state.session.Session.{Session}
use Rattle.mqtt_records.specs.lists.Order.{IsAscending}
use Rattle.mqtt_rules.specs.step.State.{Line, Broker, entry_on, queue_on}
use Rattle.mqtt_rules.specs.step.Step.{Input}
use Rattle.mqtt_rules.specs.step.Deeds.{Deed}
use Rattle.mqtt_rules.proofs.step_lemmas.acts.Leads.{found_passes}
use Rattle.mqtt_world_laws.specs.causes.Endings.{Asked}
use Rattle.mqtt_world_laws.specs.causes.Causes.{IsRead}
use Rattle.mqtt_world_laws.proofs.causes_lemmas.Queues.{Row, find_row, some_is}
use Rattle.mqtt_world_laws.proofs.causes_lemmas.Turning.{IsFine, HasReason, Comes, of_line, the_end}

module _ (m : Asked) (now : ℕ) (l : Line) (s : Session) where
  -- the line reads this packet
  abbrev pub Reads : Packet → Type 0
  Reads packet = Comes m (λ n. Input n packet) l s.birth

  is_read : (packet : Packet) (b : Broker) (behind : List Deed) (e : CopyRow) (ending : Ending) → Reads packet → IsRead (the_end m b behind s e ending) packet
  is_read packet b behind e ending reads = (l, of_line m (λ n. Input n packet) l s (the_end m b behind s e ending) refl refl reads)

  abbrev IsFineTurn : Option Turn → Type 0
  IsFineTurn None = ⊤
  IsFineTurn (Some t) = IsFine m now s t

  abbrev pub IsFineAnswer : Answer → Type 0
  IsFineAnswer (Ok t) = IsFineTurn t
  IsFineAnswer (Err fault) = ⊤

  -- the entry that has the identifier, with its row
  record Holds (id : ℕ) (x : FlowEntry) : Type 0 where
    row : Row l.went s.queue x
    holds : is_holder id x.phase ≡ true

  held : (id : ℕ) (x : FlowEntry) → IsAscending copy_place s.queue → holder id (queue_on l.went s) ≡ Some x → Holds id x
  held id x up is = record {
    row = find_row l.went (λ (y : FlowEntry). is_holder id y.phase) s.queue x up is;
    holds = found_passes (λ (y : FlowEntry). is_holder id y.phase) x (queue_on l.went s) is;
  }

  -- what is said of that row is said of the copy that leaves at its place
  by_row : (x : FlowEntry) (ending : Ending) → Row l.went s.queue x → ((e : CopyRow) → entry_on l.went e ≡ x → HasReason m now s e ending) → IsFine m now s (turns.Leave x.place ending)
  by_row x ending r why e there = why e (subst (λ (y : CopyRow). entry_on l.went y ≡ x) (some_is r.row e (sym r.there ∙ there)) r.its)

  -- the identifier of a phase
  sent_here : (id i : ℕ) (x : FlowEntry) (e : CopyRow) → entry_on l.went e ≡ x → x.phase ≡ Sent i → is_holder id x.phase ≡ true → e.phase ≡ Sent id
  sent_here id i x e its phase holds =
      let it : is_holder id (Sent i) ≡ true = subst (λ (p : Phase). is_holder id p ≡ true) phase holds in
      ap (λ (y : FlowEntry). y.phase) its ∙ phase ∙ ap Sent (eqb-true i id it)

  released_here : (id i order : ℕ) (x : FlowEntry) (e : CopyRow) → entry_on l.went e ≡ x → x.phase ≡ Released i order → is_holder id x.phase ≡ true → e.phase ≡ Released id order
  released_here id i order x e its phase holds =
      let it : is_holder id (Released i order) ≡ true = subst (λ (p : Phase). is_holder id p ≡ true) phase holds in
      ap (λ (y : FlowEntry). y.phase) its ∙ phase ∙ ap (λ n. Released n order) (eqb-true i id it)

  outgrown_here : (id i order : ℕ) (x : FlowEntry) (e : CopyRow) → entry_on l.went e ≡ x → x.phase ≡ Oversize i order → is_holder id x.phase ≡ true → e.phase ≡ Oversize id order
  outgrown_here id i order x e its phase holds =
      let it : is_holder id (Oversize i order) ≡ true = subst (λ (p : Phase). is_holder id p ≡ true) phase holds in
      ap (λ (y : FlowEntry). y.phase) its ∙ phase ∙ ap (λ n. Oversize n order) (eqb-true i id it)

  -- ---- PUBACK

  module _ (p : Ack) (reads : Reads (packets.Puback p)) where
    by_code : (t : Bool) (i : ℕ) (x : FlowEntry) → is_refusal p.reason.0 ≡ t → Holds p.identifier x → x.phase ≡ Sent i → x.copy.qos ≡ AtLeastOnce → IsFine m now s (turns.Leave x.place (ending_by t))
    by_code true i x code h phase qos = by_row x endings.Refused h.row (λ e its b behind t is. inl (record {
      packet = p;
      read = is_read (packets.Puback p) b behind e endings.Refused reads;
      code = leb-true 0x80 p.reason.0 code;
      sent = sent_here p.identifier i x e its phase h.holds;
      qos_is = ap (λ (y : FlowEntry). y.copy.qos) its ∙ qos;
    }))
    by_code false i x code h phase qos = by_row x endings.Taken h.row (λ e its b behind t is. inl (record {
      packet = p;
      read = is_read (packets.Puback p) b behind e endings.Taken reads;
      code = leb-false 0x80 p.reason.0 code;
      sent = sent_here p.identifier i x e its phase h.holds;
      qos = ap (λ (y : FlowEntry). y.copy.qos) its ∙ qos;
    }))

    acknowledged_fine : (qos : Qos) (i : ℕ) (x : FlowEntry) → Holds p.identifier x → x.phase ≡ Sent i → x.copy.qos ≡ qos → IsFineAnswer (acknowledged qos p.reason.0 x.place)
    acknowledged_fine AtMostOnce i x h phase qos = tt
    acknowledged_fine AtLeastOnce i x h phase qos = by_code (is_refusal p.reason.0) i x refl h phase qos
    acknowledged_fine ExactlyOnce i x h phase qos = tt

    puback_by_fine : (phase : Phase) (x : FlowEntry) → Holds p.identifier x → x.phase ≡ phase → IsFineAnswer (puback_by phase x.copy.qos p.reason.0 x.place)
    puback_by_fine Waiting x h is = tt
    puback_by_fine (Sent i) x h is = acknowledged_fine x.copy.qos i x h is refl
    puback_by_fine (Released i order) x h is = tt
    puback_by_fine (Oversize i order) x h is = tt

    puback_at_fine : (o : Option FlowEntry) → ((x : FlowEntry) → o ≡ Some x → Holds p.identifier x) → IsFineAnswer (puback_at p.reason.0 o)
    puback_at_fine None h = tt
    puback_at_fine (Some x) h = puback_by_fine x.phase x (h x refl) refl

    -- a copy that leaves by a PUBACK has its cause
    pub puback_fine : IsAscending copy_place s.queue → IsFineAnswer (rules.puback p.identifier p.reason.0 (queue_on l.went s))
    puback_fine up = puback_at_fine (holder p.identifier (queue_on l.went s)) (λ x is. held p.identifier x up is)

  -- ---- PUBREC

  module _ (p : Ack) (reads : Reads (packets.Pubrec p)) where
    received_by : (t : Bool) (i order : ℕ) (x : FlowEntry) → is_refusal p.reason.0 ≡ t → Holds p.identifier x → x.phase ≡ Sent i → x.copy.qos ≡ ExactlyOnce → IsFineAnswer (released_by t x.place i order)
    received_by true i order x code h phase qos = by_row x endings.Refused h.row (λ e its b behind t is. inr (record {
      packet = p;
      read = is_read (packets.Pubrec p) b behind e endings.Refused reads;
      code = leb-true 0x80 p.reason.0 code;
      sent = sent_here p.identifier i x e its phase h.holds;
      qos_is = ap (λ (y : FlowEntry). y.copy.qos) its ∙ qos;
    }))
    received_by false i order x code h phase qos = tt

    received_fine : (qos : Qos) (i order : ℕ) (x : FlowEntry) → Holds p.identifier x → x.phase ≡ Sent i → x.copy.qos ≡ qos → IsFineAnswer (received qos p.reason.0 x.place i order)
    received_fine AtMostOnce i order x h phase qos = tt
    received_fine AtLeastOnce i order x h phase qos = tt
    received_fine ExactlyOnce i order x h phase qos = received_by (is_refusal p.reason.0) i order x refl h phase qos

    pubrec_by_fine : (phase : Phase) (order : ℕ) (x : FlowEntry) → Holds p.identifier x → x.phase ≡ phase → IsFineAnswer (pubrec_by phase x.copy.qos p.reason.0 x.place order)
    pubrec_by_fine Waiting order x h is = tt
    pubrec_by_fine (Sent i) order x h is = received_fine x.copy.qos i order x h is refl
    pubrec_by_fine (Released i k) order x h is = tt
    pubrec_by_fine (Oversize i k) order x h is = tt

    pubrec_at_fine : (order : ℕ) (o : Option FlowEntry) → ((x : FlowEntry) → o ≡ Some x → Holds p.identifier x) → IsFineAnswer (pubrec_at p.identifier p.reason.0 order o)
    pubrec_at_fine order None h = tt
    pubrec_at_fine order (Some x) h = pubrec_by_fine x.phase order x (h x refl) refl

    -- a copy that leaves by a PUBREC has its cause
    pub pubrec_fine : IsAscending copy_place s.queue → IsFineAnswer (rules.pubrec p.identifier p.reason.0 (queue_on l.went s))
    pubrec_fine up = pubrec_at_fine (next_order (queue_on l.went s)) (holder p.identifier (queue_on l.went s)) (λ x is. held p.identifier x up is)

  -- ---- PUBCOMP

  module _ (p : Ack) (reads : Reads (packets.Pubcomp p)) where
    pubcomp_by_fine : (phase : Phase) (x : FlowEntry) → Holds p.identifier x → x.phase ≡ phase → IsFineAnswer (pubcomp_by phase x.place)
    pubcomp_by_fine Waiting x h is = tt
    pubcomp_by_fine (Sent i) x h is = tt
    pubcomp_by_fine (Released i order) x h is = by_row x endings.Taken h.row (λ e its b behind t now_is. inr (record {
      packet = p;
      order = order;
      read = is_read (packets.Pubcomp p) b behind e endings.Taken reads;
      released = released_here p.identifier i order x e its is h.holds;
    }))
    pubcomp_by_fine (Oversize i order) x h is = by_row x endings.TooLarge h.row (λ e its b behind t now_is. inr (record {
      packet = p;
      order = order;
      read = is_read (packets.Pubcomp p) b behind e endings.TooLarge reads;
      released = outgrown_here p.identifier i order x e its is h.holds;
    }))

    pubcomp_at_fine : (o : Option FlowEntry) → ((x : FlowEntry) → o ≡ Some x → Holds p.identifier x) → IsFineAnswer (pubcomp_at o)
    pubcomp_at_fine None h = tt
    pubcomp_at_fine (Some x) h = pubcomp_by_fine x.phase x (h x refl) refl

    -- a copy that leaves by a PUBCOMP has its cause
    pub pubcomp_fine : IsAscending copy_place s.queue → IsFineAnswer (rules.pubcomp p.identifier (queue_on l.went s))
    pubcomp_fine up = pubcomp_at_fine (holder p.identifier (queue_on l.went s)) (λ x is. held p.identifier x up is)
