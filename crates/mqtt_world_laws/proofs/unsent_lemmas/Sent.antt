-- What is under way to a receiver was sent: a PUBLISH of QoS 1 or 2 is of a copy that stands in its session's queue, and waits no
-- more (MQTT 5.0, 4.3, 4.4).
use Rattle.std.proofs.Common.{◌≡◌, ℕ, zero, suc, Bool, true, false, List, [], ◌∷◌, map, Option, Some, None, slice_get, refl, sym, ap, subst, ◌∙◌, inl, inr}
use Rattle.std.specs.Prelude.{⊤, filter_map, option_map}
use Rattle.std.specs.List.{AllByRecursion, cons_option}
use Rattle.std.proofs.lemmas.Option.{slice_get-map}
use Rattle.mqtt_base.specs.declared.session.CopyId.{CopyId}
use Rattle.mqtt_base.specs.declared.session.Phase.{Phase}
use Rattle.mqtt_base.specs.declared.session.Phase.TheVariants.{Waiting}
use Rattle.mqtt_packet.specs.declared.codec.packet.Packet.{Packet}
use Rattle.mqtt_packet.specs.declared.codec.packet.Packet.TheVariants.{Publish}
use Rattle.mqtt_packet.specs.declared.codec.publish.Delivery.{Delivery}
use Rattle.mqtt_packet.specs.declared.codec.publish.Delivery.TheVariants as delivery
use Rattle.mqtt_packet.specs.declared.codec.publish.Publish.{Publish as Publication}
use Rattle.mqtt_flow.specs.outbound.Outbound.{unsent}
use Rattle.mqtt_flow.specs.outbound.OutboundWorld.{Lot, TopicAndPayload, World as Hop, body, past, renewed, standing}
use Rattle.mqtt_flow.specs.outbound.Receiver.{Body, Output, publish}
use Rattle.mqtt_flow.specs.declared.outbound.entry.Entry.{Entry as FlowEntry}
use Rattle.mqtt_flow.proofs.outbound_lemmas.outbound.HopLaw.{good_run}
use Rattle.mqtt_flow.proofs.outbound_lemmas.outbound.Lives.{in_flight, sent, waiting}
use Rattle.mqtt_flow.proofs.outbound_lemmas.outbound.ReceiverReads.{publish_came, the_copy}
use Rattle.mqtt_flow.proofs.outbound_lemmas.outbound.SessionLives.{life, life_by, seen as lived}
use Rattle.mqtt_flow.proofs.outbound_lemmas.outbound.Stages.{At, Blank, Good, effective, is_asked, no_line, was_shut}
use Rattle.mqtt_flow.specs.inbound.Line.{Link}
use Rattle.mqtt_records.specs.messages.Queue.{CopyRow}
use Rattle.mqtt_records.specs.declared.state.session.Session.{Session}
use Rattle.mqtt_rules.specs.step.Laws.{IsAmong}
use Rattle.mqtt_rules.specs.step.State.{Broker, entry_on, session_named}
use Rattle.mqtt_world_model.specs.model.Ends.{Receiver, body_of}
use Rattle.mqtt_world_model.specs.model.Lines.{Down}
use Rattle.mqtt_world_laws.specs.receiver.Handing.{IsRun}
use Rattle.mqtt_world_laws.specs.receiver.Seen.{AreQueued, Numbering, StandOn, heard, heard_in, lot_on, publish_heard, seen, still_standing, went_in}
use Rattle.mqtt_world_laws.specs.receiver.Tags.{IsTagged, IsTaggedBy, IsTaggedWith, id_of}

-- ---- the packet that is read next

-- a PUBLISH of QoS 1 or 2 is of a copy
abbrev pub IsOfCopy : Delivery → Type 0
IsOfCopy delivery.AtMostOnce = ⊥
IsOfCopy (delivery.AtLeastOnce dup id) = ⊤
IsOfCopy (delivery.ExactlyOnce dup id) = ⊤

-- the first packet under way to the receiver is a PUBLISH of the copy, of QoS 1 or 2
pub record IsNext (x : CopyId) (r : Receiver) : Type 0 where
  pub down : Down
  pub rest : List Down
  pub publication : Publication
  pub front : r.line.down ≡ down ∷ rest
  pub packet : down.packet ≡ Publish publication
  pub of_copy : IsOfCopy publication.delivery
  pub its : down.copy ≡ Some x

-- ---- a copy that stands, and waits no more

-- a row of the queue is of this copy, and it doesn't wait
pub record SentRow (x : CopyId) (rows : List CopyRow) : Type 0 where
  pub row : CopyRow
  pub among : IsAmong row rows
  pub its : row.copy.id ≡ x
  pub sent : row.phase ≡ Waiting → ⊥

-- of this entry
record RowOf (e : FlowEntry) (rows : List CopyRow) : Type 0 where
  row : CopyRow
  among : IsAmong row rows
  its : row.copy.id ≡ e.copy.id
  phase : row.phase ≡ e.phase

row_of : (went : List ℕ) (rows : List CopyRow) (e : FlowEntry) (m : TopicAndPayload) → IsAmong (standing e m) (map (lot_on went) rows) → RowOf e rows
row_of went [] e m among = absurd among
row_of went (y ∷ ys) e m (inl it) =
    let is : entry_on went y ≡ e = cc in
    record { row = y; among = inl refl; its = ap (λ (z : FlowEntry). z.copy.id) is; phase = ap (λ (z : FlowEntry). z.phase) is }
row_of went (y ∷ ys) e m (inr more) = let x = row_of went ys e m more in record { row = x.row; among = inr x.among; its = x.its; phase = x.phase }

among_renewed : (e : FlowEntry) (m : TopicAndPayload) (lots : List Lot) → IsAmong (standing e m) lots → IsAmong (standing (unsent e) m) (map renewed lots)
among_renewed e m [] among = absurd among
among_renewed e m (l ∷ lots) (inl it) = inl (ap renewed it)
among_renewed e m (l ∷ lots) (inr more) = inr (among_renewed e m lots more)

among_standing : (e : FlowEntry) (m : TopicAndPayload) (lots : List Lot) (n : ℕ) → slice_get lots n ≡ Some (standing e m) → IsAmong (standing e m) (still_standing lots)
among_standing e m [] n at = absurd cc
among_standing e m (standing f k ∷ lots) zero at = let it : Some (standing f k) ≡ Some (standing e m) = at in let is : standing f k ≡ standing e m = cc in inl is
among_standing e m (standing f k ∷ lots) (suc n) at = inr (among_standing e m lots n at)
among_standing e m (past ending f k ∷ lots) zero at = let it : Some (past ending f k) ≡ Some (standing e m) = at in absurd cc
among_standing e m (past ending f k ∷ lots) (suc n) at = among_standing e m lots n at

-- ---- in the hop

blank_none : {l : Link} {b : Bool} {up : List _} (down : List Output) → Blank l b up down → down ≡ []
blank_none down (no_line h u d e) = d
blank_none down (is_asked h u d e) = d
blank_none down (was_shut h u d e) = d

-- a lot whose life is under way
record StandsSent (l : Lot) : Type 0 where
  entry : FlowEntry
  content : TopicAndPayload
  is : l ≡ standing entry content
  sent : entry.phase ≡ Waiting → ⊥

stands_sent : (i : ℕ) (here : Bool) (b : Body) (l : Lot) → life l ≡ in_flight i (sent here) b → StandsSent l
stands_sent i here b (past ending e m) h = absurd cc
stands_sent i here b (standing e m) h = record {
  entry = e;
  content = m;
  is = refl;
  sent = λ is. let clash : waiting (body e m) ≡ in_flight i (sent here) b = sym (ap (λ (p : Phase). life_by p e.here (body e m)) is) ∙ h in absurd cc;
}

module _ (number : Numbering) (largest : ℕ) (lots : List Lot) (r : Receiver) (b : Broker) (h : IsRun number largest lots r b) (x : CopyId) where
  good : Good (lived (seen number lots r b))
  good = subst (λ (v : Hop). Good (lived v)) (sym h.seen_is) (good_run largest h.events)

  abbrev ids : List CopyId
  ids = map id_of lots

  -- a PUBLISH under way in front is of a lot that stands, and was sent
  record Found (n : ℕ) : Type 0 where
    lot : Lot
    at : slice_get lots n ≡ Some lot
    standing_so : StandsSent lot

  found : (i n : ℕ) (dup : Bool) (c : Body) (rest : List Output) → (seen number lots r b).down ≡ publish i n dup c ∷ rest → Found n
  found i n dup c rest down = elim good [
    | inl inv ↦
        let w = lived (seen number lots r b) in
        let s = inv.each i in
        let at = subst (λ (ds : List Output). At i w.copies w.linked w.old w.up ds (effective w.link w.down w.kept) w.reads s.0) down s.1 in
        let came = publish_came s.0 at in
        let there : option_map life (slice_get lots n) ≡ Some (in_flight i (sent came.here) c) = sym (slice_get-map life lots n) ∙ the_copy i n (sent came.here) c w.copies came.holds in
        by came.here (slice_get lots n) refl there
    | inr f ↦ let none : publish i n dup c ∷ rest ≡ [] = sym down ∙ blank_none (lived (seen number lots r b)).down f.lines in absurd cc
  ]
    where
      by : (here : Bool) (o : Option Lot) → slice_get lots n ≡ o → option_map life o ≡ Some (in_flight i (sent here) c) → Found n
      by here None at is = absurd cc
      by here (Some l) at is = let it : life l ≡ in_flight i (sent here) c = cc in record { lot = l; at = at; standing_so = stands_sent i here c l it }

  -- so its row stands in the session's queue
  pub record StandsSentIn : Type 0 where
    pub session : Session
    pub named : session_named r.client b.records ≡ Some session
    pub row : SentRow x session.queue

  of_entry : (e : FlowEntry) (rows : List CopyRow) → e.copy.id ≡ x → (e.phase ≡ Waiting → ⊥) → RowOf e rows → SentRow x rows
  of_entry e rows its sent_so y = record { row = y.row; among = y.among; its = y.its ∙ its; sent = λ waits. sent_so (sym y.phase ∙ waits) }

  in_queue : (n : ℕ) → slice_get ids n ≡ Some x → Found n → StandsSentIn
  in_queue n tag f = by (session_named r.client b.records) refl h.queue_is
    where
      e : FlowEntry
      e = f.standing_so.entry

      m : TopicAndPayload
      m = f.standing_so.content

      stands_there : slice_get lots n ≡ Some (standing e m)
      stands_there = f.at ∙ ap Some f.standing_so.is

      among : IsAmong (standing e m) (still_standing lots)
      among = among_standing e m lots n stands_there

      its : e.copy.id ≡ x
      its = let both : Some e.copy.id ≡ Some x = sym (slice_get-map id_of lots n ∙ ap (option_map id_of) stands_there) ∙ tag in cc

      on : (queue : List CopyRow) (went : Option (List ℕ)) → StandOn lots queue went → SentRow x queue
      on queue None q = of_entry (unsent e) queue its f.standing_so.sent (row_of [] queue (unsent e) m (subst (IsAmong (standing (unsent e) m)) q (among_renewed e m (still_standing lots) among)))
      on queue (Some went) q = of_entry e queue its f.standing_so.sent (row_of went queue e m (subst (IsAmong (standing e m)) q among))

      by : (o : Option Session) → session_named r.client b.records ≡ o → AreQueued lots o b → StandsSentIn
      by None is q = absurd (subst (IsAmong (standing e m)) q among)
      by (Some s) is q = record { session = s; named = is; row = on s.queue (went_in s.birth b) q }

  -- ---- what is read next

  -- is a copy of its session's queue that was sent
  pub next_sent : IsNext x r → StandsSentIn
  next_sent next = by p.delivery refl next.of_copy
    where
      d : Down
      d = next.down

      p : Publication
      p = next.publication

      tail : List Output
      tail = filter_map (heard_in number) next.rest

      tagged : IsTaggedBy number ids (Some x) p.delivery
      tagged =
          let all : AllByRecursion (IsTagged number ids) (d ∷ next.rest) = subst (λ (ds : List Down). AllByRecursion (IsTagged number ids) ds) next.front h.tagged.down in
          let packet : IsTaggedWith number ids d.copy (Publish p) = subst (λ (y : Packet). IsTaggedWith number ids d.copy y) next.packet all.0 in
          subst (λ (o : Option CopyId). IsTaggedBy number ids o p.delivery) next.its packet

      heard_first : (seen number lots r b).down ≡ cons_option (publish_heard number (Some x) p p.delivery) tail
      heard_first =
          ap (filter_map (heard_in number)) next.front
          ∙ (ap (λ (y : Packet). cons_option (heard number d.copy y) tail) next.packet ∙ ap (λ (o : Option CopyId). cons_option (publish_heard number o p p.delivery) tail) next.its)

      by : (z : Delivery) → p.delivery ≡ z → IsOfCopy p.delivery → StandsSentIn
      by delivery.AtMostOnce is of = absurd (subst IsOfCopy is of)
      by (delivery.AtLeastOnce dup i) is of =
          in_queue (number x) (subst (IsTaggedBy number ids (Some x)) is tagged)
          (found i (number x) dup (body_of false p) tail (heard_first ∙ ap (λ (z : Delivery). cons_option (publish_heard number (Some x) p z) tail) is))
      by (delivery.ExactlyOnce dup i) is of =
          in_queue (number x) (subst (IsTaggedBy number ids (Some x)) is tagged)
          (found i (number x) dup (body_of true p) tail (heard_first ∙ ap (λ (z : Delivery). cons_option (publish_heard number (Some x) p z) tail) is))
