-- The broker reads a receiver's CONNECT on the line that it gave up: what the receiver sees of it, whatever it makes of a session
-- there. The receiver's own line is closed if it is one of those that the session was taken from (MQTT 5.0, 3.1.4, 4.4).
use Rattle.std.proofs.Common.{◌≡◌, ℕ, Bool, true, false, cond, List, [], ◌∷◌, ◌++◌, drop, map, Option, Some, None, bytes_eq, refl, sym, ap, subst, ◌∙◌, append-nil}
use Rattle.std.specs.Prelude.{filter_map, find, if◌then◌else◌, is_some}
use Rattle.std.specs.List.{AllByRecursion}
use Rattle.mqtt_base.specs.declared.session.CopyId.{CopyId}
use Rattle.mqtt_flow.specs.outbound.OutboundWorld.{Lot, World as Hop, old_to_broker, start, step}
use Rattle.mqtt_flow.specs.outbound.Receiver.{Answer, Output, connect, disconnect}
use Rattle.mqtt_flow.specs.inbound.Line.{sent_on}
use Rattle.mqtt_world_model.specs.model.Ends.{Back, Receiver, answers, wire_back}
use Rattle.mqtt_world_model.specs.model.Lines.{is_one_of, sent_to, unless_closed}
use Rattle.mqtt_world_model.specs.model.Seen.{is_linked}
use Rattle.mqtt_world_model.proofs.model_lemmas.others.Names.{named_is}
use Rattle.mqtt_world_model.proofs.model_lemmas.others.Quiet.{session_on}
use Rattle.mqtt_world_model.proofs.model_lemmas.own.OwnStep.{not_the_one}
use Rattle.mqtt_world_model.proofs.model_lemmas.seats.Seeing.{done_lines, done_sessions, linked_is, linked_of}
use Rattle.mqtt_records.specs.declared.state.session.Session.{Session}
use Rattle.mqtt_rules.proofs.step_lemmas.numbers.Copies.{each_append}
use Rattle.mqtt_rules.specs.step.Deeds.{Deed, after_all, closing, output, rows_of_all}
use Rattle.mqtt_rules.specs.step.State.{Broker, MemberChoice, session_named}
use Rattle.mqtt_rules.specs.step.Step.{Call, Input, at_moment, deeds, stepped}
use Rattle.mqtt_rules.specs.declared.step.Capacity.{Capacity}
use Rattle.mqtt_world_laws.specs.receiver.Calls.{reads_old_answer}
use Rattle.mqtt_world_laws.specs.receiver.Entering.{Receives}
use Rattle.mqtt_world_laws.specs.receiver.Handing.{IsRun, RunsOn, after_answer}
use Rattle.mqtt_world_laws.specs.receiver.Seen.{AreQueued, Numbering, StandOn, answered, heard_in, seen, went_in}
use Rattle.mqtt_world_laws.specs.receiver.Tags.{AreNumbered, AreTagged, IsTagged, id_of}
use Rattle.mqtt_world_laws.proofs.receiver_lemmas.own.Answering.{heard_append, its_went}
use Rattle.mqtt_world_laws.proofs.receiver_lemmas.queue.Known.{receives_after}
use Rattle.mqtt_world_laws.proofs.receiver_lemmas.connects.Refusals.{run_append}
use Rattle.mqtt_world_laws.proofs.receiver_lemmas.connects.Resuming.{Takes}

not_on : (t : Bool) (on : Option (Option ℕ)) → linked_of on ≡ t → linked_of (cond t None on) ≡ false
not_on true on h = refl
not_on false on h = h

-- its own line, if it has one, is closed if the session was connected on it
pub closes_own : (t : Bool) (w : Hop) (ups : List Back) (left : List Answer) (copies2 : List Lot) → w.linked ≡ t → w.up ≡ filter_map answered ups → w.stands ≡ true
    → record w { copies = copies2; stands = true; linked = false; up = filter_map answered (unless_closed t ups); down = w.down ++ cond t (disconnect ∷ []) []; old = left }
    ≡ record w { old = left; copies = copies2; down = sent_on w.linked w.down (disconnect ∷ []); up = if w.linked then [] else w.up; linked = false }
closes_own true w ups left copies2 h u st =
    λ i. record w { copies = copies2; stands = sym st i; linked = false; up = if sym h i then [] else w.up; down = sent_on (sym h i) w.down (disconnect ∷ []); old = left }
closes_own false w ups left copies2 h u st =
    (λ i. record w { copies = copies2; stands = sym st i; linked = false; up = sym u i; down = append-nil w.down i; old = left })
    ∙ (λ i. record w { copies = copies2; linked = false; up = if sym h i then [] else w.up; down = sent_on (sym h i) w.down (disconnect ∷ []); old = left })

-- with the copies, the birth of the session, and the lines that are closed
module _ (number : Numbering) (largest : ℕ) (copies copies2 : List Lot) (limits : Capacity) (choice : MemberChoice) (now : ℕ) (clean : Bool) (rest : List Back) (r : Receiver)
    (n birth : ℕ) (ns : List ℕ) (b : Broker) (old : r.line.old ≡ answers (connect clean) ∷ rest) (number_is : r.line.old_number ≡ Some n) (apart : is_one_of r.line.number (n ∷ []) ≡ false)
    (linked_is_one : is_linked r.line.number b ≡ is_one_of r.line.number ns) (open_still : is_one_of (Some n) ns ≡ false) (ids_are : map id_of copies2 ≡ map id_of copies)
    (takes : Takes number copies2 (map id_of copies) limits choice now (Input n (wire_back r.client r.window r.aliases (answers (connect clean)))) r.client n birth ns b) where
  abbrev call : Call
  call = Input n (wire_back r.client r.window r.aliases (answers (connect clean)))

  abbrev first : Broker
  first = at_moment now b

  abbrev ds : List Deed
  ds = deeds limits choice now call b

  abbrev new : Broker
  new = stepped limits choice now call b

  abbrev q : Receiver
  q = reads_old_answer limits choice now n (connect clean) r b

  abbrev w : Hop
  w = seen number copies r b

  abbrev ids : List CopyId
  ids = map id_of copies

  abbrev shut : Bool
  shut = is_one_of r.line.number ns

  -- ---- its own line

  record IsOwn (o : Option ℕ) : Type 0 where
    pub linked : is_linked o new ≡ false
    pub told : filter_map (heard_in number) (sent_to o new (filter_map output ds)) ≡ cond (is_one_of o ns) (disconnect ∷ []) []
    pub tagged : AllByRecursion (IsTagged number ids) (sent_to o new (filter_map output ds))

  own : (o : Option ℕ) → is_one_of o (n ∷ []) ≡ false → is_linked o b ≡ is_one_of o ns → IsOwn o
  own None other linked = record { linked = refl; told = refl; tagged = tt }
  own (Some m) other linked =
      let x = takes.beside m (not_the_one n m other) in
      let t = is_one_of (Some m) ns in
      record {
        linked = linked_is m new
            ∙ (ap (λ (ls : _). linked_of (session_on m ls)) (done_lines (rows_of_all ds first.records) (after_all ds first))
            ∙ (ap linked_of x.line_is ∙ not_on t (session_on m b.lines) (sym (linked_is m b) ∙ linked)));
        told = x.told;
        tagged = x.tagged;
      }

  -- ---- what is seen of it

  named : session_named r.client new.records ≡ Some takes.session
  named =
      ap (λ (ss : List Session). find (λ (y : Session). bytes_eq y.client r.client) ss) (done_sessions (rows_of_all ds first.records) (after_all ds first))
      ∙ named_is r.client birth (after_all ds first).records takes.session takes.only takes.found takes.client

  -- the hop after it
  abbrev pub hop_after : Hop
  hop_after = record (seen number copies r b) {
    copies = copies2;
    stands = true;
    linked = false;
    up = filter_map answered (unless_closed (is_one_of r.line.number ns) r.line.up);
    down = filter_map (heard_in number) r.line.down ++ cond (is_one_of r.line.number ns) (disconnect ∷ []) [];
    old = filter_map answered rest;
  }

  seen_after : seen number copies2 q new ≡ hop_after
  seen_after =
      let x = own r.line.number apart linked_is_one in
      let stands : is_some (session_named r.client new.records) ≡ true = ap is_some named in
      let linked = x.linked in
      let ups : filter_map answered (unless_closed (is_one_of r.line.number (filter_map closing ds)) r.line.up) ≡ filter_map answered (unless_closed shut r.line.up) =
      ap (λ (zs : List ℕ). filter_map answered (unless_closed (is_one_of r.line.number zs) r.line.up)) takes.closes in
      let downs : filter_map (heard_in number) (r.line.down ++ sent_to r.line.number new (filter_map output ds)) ≡ filter_map (heard_in number) r.line.down ++ cond shut (disconnect ∷ []) [] =
      heard_append number r.line.down (sent_to r.line.number new (filter_map output ds)) ∙ ap (λ (ps : List Output). filter_map (heard_in number) r.line.down ++ ps) x.told in
      let closed : is_one_of r.line.old_number (filter_map closing ds) ≡ false =
      ap (λ (o : Option ℕ). is_one_of o (filter_map closing ds)) number_is ∙ (ap (is_one_of (Some n)) takes.closes ∙ open_still) in
      let olds : filter_map answered (unless_closed (is_one_of r.line.old_number (filter_map closing ds)) (drop 1 r.line.old)) ≡ filter_map answered rest =
      ap (λ (t : Bool). filter_map answered (unless_closed t (drop 1 r.line.old))) closed ∙ ap (λ (xs : List Back). filter_map answered (drop 1 xs)) old in
      λ i. record w { copies = copies2; stands = stands i; linked = linked i; up = ups i; down = downs i; old = olds i }

  -- a CONNECT on the line that was given up is that event of the hop
  pub late_runs : IsRun number largest copies r b → step largest (seen number copies r b) (old_to_broker false) ≡ hop_after
      → RunsOn number largest copies (reads_old_answer limits choice now n (connect clean) r b) (after_answer limits choice now n (connect clean) r b)
  late_runs h hop_is =
      let x = own r.line.number apart linked_is_one in
      let e = old_to_broker false in
      let went : went_in takes.session.birth new ≡ its_went birth (after_all ds first).lines =
      ap (λ (k : ℕ). went_in k new) takes.birth_is ∙ ap (its_went birth) (done_lines (rows_of_all ds first.records) (after_all ds first)) in
      let tags : AreTagged number ids q = record { down = each_append (IsTagged number ids) r.line.down (sent_to r.line.number new (filter_map output ds)) h.tagged.down x.tagged; ledger = h.tagged.ledger; once = h.tagged.once } in
      record {
        after = copies2;
        same = ids_are;
        run_is = record {
          events = h.events ++ e ∷ [];
          seen_is = seen_after ∙ (sym hop_is ∙ (ap (λ (v : Hop). step largest v e) h.seen_is ∙ sym (run_append largest h.events (e ∷ []) start)));
          queue_is = subst (λ (o : Option Session). AreQueued copies2 o new) (sym named) (subst (λ (o : Option (List ℕ)). StandOn copies2 takes.session.queue o) (sym went) takes.queued);
          numbered = subst (AreNumbered number) (sym ids_are) h.numbered;
          tagged = subst (λ (cs : List CopyId). AreTagged number cs q) (sym ids_are) tags;
        };
      }

  -- after a CONNECT on the line that was given up the session may receive more
  pub late_receives : Receives (reads_old_answer limits choice now n (connect clean) r b) (after_answer limits choice now n (connect clean) r b)
  late_receives = receives_after q birth limits choice now call b takes.session takes.found takes.client takes.birth_is takes.only takes.known
