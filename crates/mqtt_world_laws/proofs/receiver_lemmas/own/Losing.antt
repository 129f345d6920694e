-- A receiver's line is lost: it is that event of its hop.
use Rattle.std.proofs.Common.{◌≡◌, ℕ, Bool, List, [], ◌∷◌, ◌++◌, map, Option, Some, None, bytes_eq, refl, sym, ap, subst, ◌∙◌}
use Rattle.std.specs.Prelude.{filter_map, find, is_some}
use Rattle.mqtt_flow.specs.outbound.OutboundWorld.{Lot, World as Hop, break_line, renewed, start, step}
use Rattle.mqtt_world_model.specs.model.Ends.{Receiver}
use Rattle.mqtt_world_model.specs.model.Hops.{IsOnly}
use Rattle.mqtt_world_model.specs.model.Lines.{is_one_of, unless_closed}
use Rattle.mqtt_world_model.proofs.model_lemmas.seats.Breaks.{lost_is}
use Rattle.mqtt_world_model.proofs.model_lemmas.others.Names.{named_is, only_deeds}
use Rattle.mqtt_world_model.proofs.model_lemmas.seats.Seeing.{done_lines, done_sessions}
use Rattle.mqtt_records.specs.state.Session.{with_columns}
use Rattle.mqtt_records.specs.declared.state.session.Session.{Session}
use Rattle.mqtt_rules.specs.step.Deeds.{At, Close, Deed, Gone, after_all, closing, rows_of_all, whose}
use Rattle.mqtt_rules.specs.step.State.{Line as BrokerLine, Broker, MemberChoice, session_at, session_named}
use Rattle.mqtt_rules.specs.step.Step.{Lost, at_moment, deeds, stepped}
use Rattle.mqtt_rules.specs.declared.step.Capacity.{Capacity}
use Rattle.mqtt_world_laws.specs.receiver.Entering.{AreKnown, Receives}
use Rattle.mqtt_world_laws.specs.receiver.Handing.{IsListening, IsRun, receiver_lost}
use Rattle.mqtt_world_laws.specs.receiver.Seen.{AreQueued, Numbering, StandOn, answered, seen, went_in}
use Rattle.mqtt_world_laws.proofs.receiver_lemmas.connects.Refusals.{run_append}
use Rattle.mqtt_world_laws.proofs.receiver_lemmas.own.Answering.{closed_row, its_went, named_now, session_closed, standing_by, went_gone}
use Rattle.mqtt_world_laws.proofs.receiver_lemmas.queue.Known.{receives_after}
use Rattle.mqtt_world_laws.proofs.receiver_lemmas.queue.Turns.{renewed_lots}

-- the loss of its line goes on with the hop
pub losing_runs : (number : Numbering) (largest : ℕ) (copies : List Lot) (limits : Capacity) (choice : MemberChoice) (now : ℕ) (r : Receiver) (l : BrokerLine) (s : Session) (b : Broker)
    → IsRun number largest copies r b → IsListening r l s b
    → IsRun number largest copies (receiver_lost limits choice now l.number r b) (stepped limits choice now (Lost l.number) b)
losing_runs number largest copies limits choice now r l s b h x =
    let ds = deeds limits choice now (Lost l.number) b in
    let first = at_moment now b in
    let new = stepped limits choice now (Lost l.number) b in
    let rows = rows_of_all ds first.records in
    let out : List Deed = Gone l.number ∷ At (whose s) (Close first.now) ∷ [] in
    let is = lost_is limits choice now l s b x.line x.connected x.session x.no_will x.no_end in
    let after_s = with_columns (closed_row first.now s) s in
    let only = only_deeds r.client s.birth out first (tt, (tt, tt)) x.only in
    let sessions : new.records.sessions ≡ (after_all out first).records.sessions =
    done_sessions rows (after_all ds first) ∙ ap (λ (xs : List Deed). (after_all xs first).records.sessions) is in
    let lines : new.lines ≡ (after_all out first).lines = done_lines rows (after_all ds first) ∙ ap (λ (xs : List Deed). (after_all xs first).lines) is in
    let named : session_named r.client new.records ≡ Some after_s =
    ap (λ (ss : List Session). find (λ (y : Session). bytes_eq y.client r.client) ss) sessions
    ∙ named_is r.client s.birth (after_all out first).records after_s only (session_closed s first.now b.records x.session) x.client in
    let olds : filter_map answered (unless_closed (is_one_of r.line.old_number (filter_map closing ds)) r.line.old) ≡ filter_map answered r.line.old =
    ap (λ (xs : List Deed). filter_map answered (unless_closed (is_one_of r.line.old_number (filter_map closing xs)) r.line.old)) is
    ∙ ap (λ (z : Bool). filter_map answered (unless_closed z r.line.old)) x.apart in
    let stands : is_some (session_named r.client new.records) ≡ is_some (session_named r.client b.records) =
    ap is_some named ∙ sym (ap is_some (named_now r l s b x)) in
    let w = seen number copies r b in
    let same : seen number copies (receiver_lost limits choice now l.number r b) new ≡ step largest w break_line =
    λ i. record (step largest w break_line) { old = olds i; stands = stands i } in
    let went : went_in s.birth new ≡ None = ap (λ (ls : List BrokerLine). its_went s.birth ls) lines ∙ went_gone s.birth l.number b.lines x.alone in
    let queue : StandOn copies s.queue None = ap (map renewed) (standing_by copies r l s b h.queue_is x) ∙ renewed_lots l.went s.queue in
    record {
      events = h.events ++ break_line ∷ [];
      seen_is = same ∙ (ap (λ (v : Hop). step largest v break_line) h.seen_is ∙ sym (run_append largest h.events (break_line ∷ []) start));
      queue_is = subst (λ (o : Option Session). AreQueued copies o new) (sym named) (subst (λ (o : Option (List ℕ)). StandOn copies s.queue o) (sym went) queue);
      numbered = h.numbered;
      tagged = record { down = tt; ledger = h.tagged.ledger; once = h.tagged.once };
    }

-- without a line, its session may receive more
pub losing_receives : (limits : Capacity) (choice : MemberChoice) (now : ℕ) (r : Receiver) (l : BrokerLine) (s : Session) (b : Broker)
    → IsListening r l s b → Receives (receiver_lost limits choice now l.number r b) (stepped limits choice now (Lost l.number) b)
losing_receives limits choice now r l s b x =
    let ds = deeds limits choice now (Lost l.number) b in
    let first = at_moment now b in
    let out : List Deed = Gone l.number ∷ At (whose s) (Close first.now) ∷ [] in
    let is : ds ≡ out = lost_is limits choice now l s b x.line x.connected x.session x.no_will x.no_end in
    let after_s = with_columns (closed_row first.now s) s in
    let only = only_deeds r.client s.birth out first (tt, (tt, tt)) x.only in
    let went : its_went s.birth (after_all out first).lines ≡ None = went_gone s.birth l.number b.lines x.alone in
    receives_after (receiver_lost limits choice now l.number r b) s.birth limits choice now (Lost l.number) b after_s
    (ap (λ (xs : List Deed). session_at s.birth (after_all xs first).records) is ∙ session_closed s first.now b.records x.session) x.client refl
    (subst (λ (xs : List Deed). IsOnly r.client s.birth (after_all xs first).records) (sym is) only)
    (subst (λ (xs : List Deed). AreKnown s.queue (its_went s.birth (after_all xs first).lines)) (sym is) (subst (AreKnown s.queue) (sym went) tt))
