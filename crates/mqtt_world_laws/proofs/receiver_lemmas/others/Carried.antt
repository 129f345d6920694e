-- What a receiver sees is seen of sessions and lines: it stays as long as they do, whatever clients are told of topics.
use Rattle.std.proofs.Common.{◌≡◌, ℕ, List, Option, Some, None, bytes_eq, refl, sym, ap, subst, ◌∙◌}
use Rattle.std.specs.Prelude.{find, is_some}
use Rattle.mqtt_base.specs.declared.session.CopyId.{CopyId}
use Rattle.mqtt_packet.specs.declared.codec.packet.Packet.{Packet}
use Rattle.mqtt_flow.specs.outbound.OutboundWorld.{Lot}
use Rattle.mqtt_world_model.specs.model.Ends.{Receiver}
use Rattle.mqtt_world_model.specs.model.Seen.{is_linked}
use Rattle.mqtt_world_model.proofs.model_lemmas.others.Quiet.{session_on}
use Rattle.mqtt_records.specs.declared.state.session.Session.{Session}
use Rattle.mqtt_rules.specs.step.Deeds.{Send, after}
use Rattle.mqtt_rules.specs.step.State.{Line as BrokerLine, Broker, session_named}
use Rattle.mqtt_world_laws.specs.receiver.Handing.{IsRun}
use Rattle.mqtt_world_laws.specs.receiver.Seen.{AreQueued, Numbering, StandOn, seen}
use Rattle.mqtt_world_laws.specs.receiver.Served.{IsServed, RunsWithAll}
use Rattle.mqtt_world_laws.proofs.receiver_lemmas.own.Answering.{its_went}
use Rattle.mqtt_world_laws.proofs.receiver_lemmas.queue.Entering.{linked_same}

-- if lines are the same, so is which are linked
pub linked_on : (o : Option ℕ) (b c : Broker) → c.lines ≡ b.lines → is_linked o c ≡ is_linked o b
linked_on o b c lines = linked_same o b c (λ m. ap (session_on m) lines)

queued_on : (copies : List Lot) (o : Option Session) (b c : Broker) → c.lines ≡ b.lines → AreQueued copies o b → AreQueued copies o c
queued_on copies None b c lines h = h
queued_on copies (Some s) b c lines h = subst (λ (ls : List BrokerLine). StandOn copies s.queue (its_went s.birth ls)) (sym lines) h

-- what is seen is seen of the sessions and of the lines
pub carried_run : (number : Numbering) (largest : ℕ) (copies : List Lot) (r : Receiver) (b c : Broker) → c.records.sessions ≡ b.records.sessions → c.lines ≡ b.lines → IsRun number largest copies r b
    → IsRun number largest copies r c
carried_run number largest copies r b c sessions lines h =
    let named : session_named r.client c.records ≡ session_named r.client b.records = ap (λ (ss : List Session). find (λ (y : Session). bytes_eq y.client r.client) ss) sessions in
    let stands : is_some (session_named r.client c.records) ≡ is_some (session_named r.client b.records) = ap is_some named in
    let linked = linked_on r.line.number b c lines in
    let same : seen number copies r c ≡ seen number copies r b = λ i. record (seen number copies r b) { stands = stands i; linked = linked i } in
    record {
      events = h.events;
      seen_is = same ∙ h.seen_is;
      queue_is = subst (λ (o : Option Session). AreQueued copies o c) (sym named) (queued_on copies (session_named r.client b.records) b c lines h.queue_is);
      numbered = h.numbered;
      tagged = h.tagged;
    }

-- ---- a packet goes out, and may tell its topic

-- whoever is served is served still
pub told_served : (client : List ℕ) (birth : ℕ) (ns : List ℕ) (m : ℕ) (packet : Packet) (b : Broker) → IsServed client birth ns b → IsServed client birth ns (after (Send m packet) b)
told_served client birth ns m packet b v = record { sessions = v.sessions; lines = v.lines; births = v.births; given = v.given }

-- what is seen is a run of the hop still
pub told_runs : (number : Numbering) (largest : ℕ) (all : List CopyId) (birth : ℕ) (r : Receiver) (m : ℕ) (packet : Packet) (b : Broker) → RunsWithAll number largest all birth r b → RunsWithAll number largest all birth r (after (Send m packet) b)
told_runs number largest all birth r m packet b h = record {
  after = h.after;
  same = h.same;
  run_is = carried_run number largest h.after r b (after (Send m packet) b) refl refl h.run_is;
  session = h.session;
  birth_is = h.birth_is;
  receiving = record { session = h.receiving.session; client = h.receiving.client; only = h.receiving.only; known = h.receiving.known };
}
