-- The broker reads an answer on the line that a receiver gave up: what the receiver sees of it is that event of its hop.
use Rattle.std.proofs.Common.{◌≡◌, ℕ, suc, Bool, true, false, cond, List, [], ◌∷◌, ◌++◌, drop, map, Option, Some, None, nat_eq, bytes_eq, refl, sym, ap, subst, ◌∙◌, append-nil, inl}
use Rattle.std.specs.Prelude.{Ok, Err, filter_map, find, is_some}
use Rattle.std.specs.List.{AllByRecursion}
use Rattle.std.proofs.lemmas.Cmp.{nat_eq_equiv}
use Rattle.mqtt_base.specs.declared.session.CopyId.{CopyId}
use Rattle.mqtt_packet.specs.declared.codec.packet.Packet.{Packet}
use Rattle.mqtt_flow.specs.outbound.Outbound as rules
use Rattle.mqtt_flow.specs.outbound.OutboundWorld.{Lot, World as Hop, old_comes, old_to_broker, replied_old, start, step}
use Rattle.mqtt_flow.specs.outbound.Receiver.{Answer, HasNoConnect}
use Rattle.mqtt_flow.specs.declared.outbound.entry.Entry.{Entry as FlowEntry}
use Rattle.mqtt_world_model.specs.model.Ends.{Back, Receiver, answers, wire_back}
use Rattle.mqtt_world_model.specs.model.Lines.{Down, is_one_of, sent_to, unless_closed}
use Rattle.mqtt_world_model.specs.model.Seen.{is_linked}
use Rattle.mqtt_world_model.proofs.model_lemmas.others.Names.{named_is, only_deeds}
use Rattle.mqtt_world_model.proofs.model_lemmas.own.OldLine.{further}
use Rattle.mqtt_world_model.proofs.model_lemmas.others.Quiet.{line_gone, line_on, quiet_line, session_on}
use Rattle.mqtt_world_model.proofs.model_lemmas.seats.Seeing.{done_lines, done_sessions, linked_is, linked_of}
use Rattle.mqtt_records.specs.declared.state.session.Session.{Session}
use Rattle.mqtt_rules.specs.step.Deeds.{Accept, At, Begin, Count, Deed, Finish, Forget, Gone, Keep, Link, Name, On, RefuseWill, Send, after, after_all, closing, lines_after, output, rows_of_all}
use Rattle.mqtt_rules.specs.step.Inbound.{on_answer}
use Rattle.mqtt_rules.specs.step.State.{Line as BrokerLine, Broker, MemberChoice, queue_on, session_named}
use Rattle.mqtt_rules.specs.step.Step.{Input, at_moment, deeds, env_of, next_packet, stepped}
use Rattle.mqtt_rules.specs.declared.step.Capacity.{Capacity}
use Rattle.mqtt_world_model.proofs.model_lemmas.own.OwnStep.{heard_of, not_the_one}
use Rattle.mqtt_world_laws.specs.receiver.Calls.{IsLingering, reads_old_answer, turned_back}
use Rattle.mqtt_world_laws.specs.receiver.Entering.{AreKnown, IsReceiving, Receives}
use Rattle.mqtt_world_laws.specs.receiver.Handing.{IsRun, RunsOn, after_answer}
use Rattle.mqtt_world_laws.specs.receiver.Seen.{AreQueued, Numbering, StandOn, answered, handed_in, heard_in, lot_on, seen, still_standing, went_in}
use Rattle.mqtt_world_laws.specs.receiver.Tags.{AreNumbered, AreTagged, IsTagged, id_of}
use Rattle.mqtt_world_laws.proofs.receiver_lemmas.own.Answering.{IsAsideOf, IsReply, answer_becomes, answer_receives, copies_by, ids_by, its_went, named_now, reply_to, is_reply, answered_by, hop_answers_old, shut_by, standing_by}
use Rattle.mqtt_world_laws.proofs.receiver_lemmas.connects.Refusals.{run_append}
use Rattle.mqtt_world_laws.proofs.receiver_lemmas.queue.Turns.{same_entries}

-- ---- another line

aside_line : (m now : ℕ) (d : Deed) (ls : List BrokerLine) → IsAsideOf m d → session_on m (lines_after now d ls) ≡ session_on m ls
aside_line m now (Accept number origin x) ls q = refl
aside_line m now (Begin row will) ls q = refl
aside_line m now (Name k) ls q = refl
aside_line m now (Count k) ls q = refl
aside_line m now (At who part) ls q = quiet_line (suc who.birth) m now (At who part) ls (inl (further who.birth))
aside_line m now (Finish who) ls q = refl
aside_line m now (Keep kept) ls q = refl
aside_line m now (Forget place) ls q = refl
aside_line m now (RefuseWill who) ls q = refl
aside_line m now (Link k) ls q = absurd q
aside_line m now (On k part) ls q = line_on now m k part ls (inl q)
aside_line m now (Send k packet) ls q = refl
aside_line m now (Gone k) ls q = line_gone m k ls q

-- deeds aside of a line keep who stands there
pub aside_lines : (m : ℕ) (ds : List Deed) (b : Broker) → AllByRecursion (IsAsideOf m) ds → session_on m (after_all ds b).lines ≡ session_on m b.lines
aside_lines m [] b q = refl
aside_lines m (d ∷ ds) b q = aside_lines m ds (after d b) q.1 ∙ aside_line m b.now d b.lines q.0

-- nothing goes out on it, and it stays open
pub record IsUntold (m : ℕ) (new : Broker) (ds : List Deed) : Type 0 where
  pub told : sent_to (Some m) new (filter_map output ds) ≡ []
  pub stays : is_one_of (Some m) (filter_map closing ds) ≡ false

-- and tell nothing there
pub untold : (m : ℕ) (new : Broker) (ds : List Deed) → AllByRecursion (IsAsideOf m) ds → IsUntold m new ds
untold m new [] q = record { told = refl; stays = refl }
untold m new (d ∷ ds) q = by d q.0 (untold m new ds q.1)
  where
    by : (x : Deed) → IsAsideOf m x → IsUntold m new ds → IsUntold m new (x ∷ ds)
    by (Send k packet) other rest = record { told = rw other rest.told; stays = rest.stays }
    by (Gone k) other rest = record { told = rest.told; stays = rw other rest.stays }
    by (Link k) other rest = absurd other
    by (On k part) other rest = record { told = rest.told; stays = rest.stays }
    by (At who part) other rest = record { told = rest.told; stays = rest.stays }
    by (Accept number origin x) other rest = record { told = rest.told; stays = rest.stays }
    by (Begin row will) other rest = record { told = rest.told; stays = rest.stays }
    by (Name k) other rest = record { told = rest.told; stays = rest.stays }
    by (Count k) other rest = record { told = rest.told; stays = rest.stays }
    by (Finish who) other rest = record { told = rest.told; stays = rest.stays }
    by (Keep kept) other rest = record { told = rest.told; stays = rest.stays }
    by (Forget place) other rest = record { told = rest.told; stays = rest.stays }
    by (RefuseWill who) other rest = record { told = rest.told; stays = rest.stays }

-- ---- the step

one_closed : (n : ℕ) (shut : Bool) → is_one_of (Some n) (cond shut (n ∷ []) []) ≡ shut
one_closed n true = rw (nat_eq_equiv.refl n) refl
one_closed n false = refl

module _ (number : Numbering) (largest : ℕ) (copies : List Lot) (limits : Capacity) (choice : MemberChoice) (now : ℕ) (a : Answer) (rest : List Back) (r : Receiver)
    (l : BrokerLine) (s : Session) (b : Broker) (h : IsRun number largest copies r b) (c : IsLingering r l s b) (old : r.line.old ≡ answers a ∷ rest) where
  abbrev n : ℕ
  n = l.number

  abbrev packet : Packet
  packet = wire_back r.client r.window r.aliases (answers a)

  abbrev done_deeds : List Deed
  done_deeds = deeds limits choice now (Input n packet) b

  abbrev at_first : Broker
  at_first = at_moment now b

  abbrev new : Broker
  new = stepped limits choice now (Input n packet) b

  abbrev w : Hop
  w = seen number copies r b

  still : still_standing copies ≡ map (lot_on l.went) s.queue
  still = standing_by copies (turned_back r) l s b h.queue_is c

  abbrev Result_of : Type 0
  Result_of = RunsOn number largest copies (reads_old_answer limits choice now n a r b) (after_answer limits choice now n a r b)

  -- its own line, if it has one, is another
  record IsApartFrom (o : Option ℕ) : Type 0 where
    pub linked : is_linked o new ≡ is_linked o b
    pub told : sent_to o new (filter_map output done_deeds) ≡ []
    pub stays : is_one_of o (filter_map closing done_deeds) ≡ false

  apart : (o : Option ℕ) → is_one_of o (n ∷ []) ≡ false → ((m : ℕ) → nat_eq n m ≡ false → AllByRecursion (IsAsideOf m) done_deeds) → IsApartFrom o
  apart None other aside = record { linked = refl; told = refl; stays = refl }
  apart (Some m) other aside =
      let q = aside m (not_the_one n m other) in
      let x = untold m new done_deeds q in
      let lines = done_lines (rows_of_all done_deeds at_first.records) (after_all done_deeds at_first) in
      record {
        linked = linked_is m new ∙ (ap (λ (ls : List BrokerLine). linked_of (session_on m ls)) lines ∙ (ap linked_of (aside_lines m done_deeds at_first q) ∙ sym (linked_is m b)));
        told = x.told;
        stays = x.stays;
      }

  replied_there : (x : rules.Answer) → record w { copies = copies_by x copies; old = filter_map answered (unless_closed (shut_by x) rest) } ≡ replied_old x (filter_map answered rest) w
  replied_there (Ok None) = refl
  replied_there (Ok (Some t)) = refl
  replied_there (Err fault) = refl

  answer_there : (x : rules.Answer) → IsReply x → next_packet (env_of limits choice b) l packet s (heard_of now n b) ≡ on_answer x (env_of limits choice b) l s (heard_of now n b)
      → step largest w (old_to_broker false) ≡ replied_old x (filter_map answered rest) w → Result_of
  answer_there x ok e hop =
      let y = answer_becomes number largest copies limits choice now a rest (turned_back r) l s b still c old x ok e in
      let copies2 = copies_by x copies in
      let shut = shut_by x in
      let rows = rows_of_all done_deeds at_first.records in
      let outputs = filter_map output done_deeds in
      let sessions : new.records.sessions ≡ (after_all done_deeds at_first).records.sessions = done_sessions rows (after_all done_deeds at_first) in
      let lines : new.lines ≡ (after_all done_deeds at_first).lines = done_lines rows (after_all done_deeds at_first) in
      let only = only_deeds r.client s.birth done_deeds at_first y.begins c.only in
      let named : session_named r.client new.records ≡ Some y.session =
      ap (λ (ss : List Session). find (λ (z : Session). bytes_eq z.client r.client) ss) sessions
      ∙ named_is r.client s.birth (after_all done_deeds at_first).records y.session only y.found y.client in
      let stands : is_some (session_named r.client new.records) ≡ is_some (session_named r.client b.records) = ap is_some named ∙ sym (ap is_some (named_now (turned_back r) l s b c)) in
      let own = apart r.line.number c.apart y.aside in
      let ups : filter_map answered (unless_closed (is_one_of r.line.number (filter_map closing done_deeds)) r.line.up) ≡ filter_map answered r.line.up =
      ap (λ (z : Bool). filter_map answered (unless_closed z r.line.up)) own.stays in
      let downs : filter_map (heard_in number) (r.line.down ++ sent_to r.line.number new outputs) ≡ filter_map (heard_in number) r.line.down =
      ap (λ (xs : List Down). filter_map (heard_in number) (r.line.down ++ xs)) own.told ∙ ap (filter_map (heard_in number)) (append-nil r.line.down) in
      let closed : is_one_of r.line.old_number (filter_map closing done_deeds) ≡ shut =
      ap (λ (o : Option ℕ). is_one_of o (filter_map closing done_deeds)) c.number ∙ (ap (is_one_of (Some n)) y.closing_is ∙ one_closed n shut) in
      let olds : filter_map answered (unless_closed (is_one_of r.line.old_number (filter_map closing done_deeds)) (drop 1 r.line.old)) ≡ filter_map answered (unless_closed shut rest) =
      ap (λ (z : Bool). filter_map answered (unless_closed z (drop 1 r.line.old))) closed ∙ ap (λ (xs : List Back). filter_map answered (unless_closed shut (drop 1 xs))) old in
      let linked = own.linked in
      let same : seen number copies2 (reads_old_answer limits choice now n a r b) new ≡ record w { copies = copies2; old = filter_map answered (unless_closed shut rest) } =
      λ i. record {
        copies = copies2;
        stands = stands i;
        linked = linked i;
        link = r.line.link;
        clean = r.line.clean;
        up = ups i;
        down = downs i;
        old = olds i;
        kept = r.kept;
        ledger = map (handed_in number) r.ledger;
        reads = map (handed_in number) r.once;
      } in
      let went : went_in y.session.birth new ≡ its_went s.birth (after_all done_deeds at_first).lines =
      ap (λ (k : ℕ). went_in k new) y.birth ∙ ap (its_went s.birth) lines in
      let ids = ids_by x copies in
      let downs_tagged : AllByRecursion (IsTagged number (map id_of copies)) (r.line.down ++ sent_to r.line.number new outputs) =
      subst (λ (xs : List Down). AllByRecursion (IsTagged number (map id_of copies)) (r.line.down ++ xs)) (sym own.told)
      (subst (AllByRecursion (IsTagged number (map id_of copies))) (sym (append-nil r.line.down)) h.tagged.down) in
      let tags : AreTagged number (map id_of copies) (reads_old_answer limits choice now n a r b) = record { down = downs_tagged; ledger = h.tagged.ledger; once = h.tagged.once } in
      record {
        after = copies2;
        same = ids;
        run_is = record {
          events = h.events ++ old_to_broker false ∷ [];
          seen_is = same ∙ (replied_there x ∙ (sym hop ∙ (ap (λ (v : Hop). step largest v (old_to_broker false)) h.seen_is ∙ sym (run_append largest h.events (old_to_broker false ∷ []) start))));
          queue_is = subst (λ (o : Option Session). AreQueued copies2 o new) (sym named) (subst (λ (o : Option (List ℕ)). StandOn copies2 y.session.queue o) (sym went) y.queued);
          numbered = subst (AreNumbered number) (sym ids) h.numbered;
          tagged = subst (λ (is : List CopyId). AreTagged number is (reads_old_answer limits choice now n a r b)) (sym ids) tags;
        };
      }

  -- after an answer on the line that was given up the session may receive more
  pub old_answer_receives : AreKnown s.queue (went_in s.birth b) → (x : rules.Answer) → IsReply x → next_packet (env_of limits choice b) l packet s (heard_of now n b) ≡ on_answer x (env_of limits choice b) l s (heard_of now n b)
      → Receives (reads_old_answer limits choice now n a r b) (after_answer limits choice now n a r b)
  old_answer_receives known x ok e =
      answer_receives number largest copies limits choice now a rest (turned_back r) l s b still c old (reads_old_answer limits choice now n a r b) refl known x ok e

-- ---- PUBACK, PUBREC and PUBCOMP

-- what the receiver and its session see is a run of their hop again
pub old_answers_run : (number : Numbering) (largest : ℕ) (copies : List Lot) (limits : Capacity) (choice : MemberChoice) (now : ℕ) (a : Answer) (rest : List Back) (r : Receiver) (l : BrokerLine) (s : Session) (b : Broker)
    → HasNoConnect (a ∷ []) → IsRun number largest copies r b → IsLingering r l s b → r.line.old ≡ answers a ∷ rest
    → RunsOn number largest copies (reads_old_answer limits choice now l.number a r b) (after_answer limits choice now l.number a r b)
old_answers_run number largest copies limits choice now a rest r l s b none h c old =
    let w = seen number copies r b in
    let q = queue_on l.went s in
    answer_there number largest copies limits choice now a rest r l s b h c old (reply_to a q) (is_reply a q) (answered_by a r.client r.window r.aliases (env_of limits choice b) l s (heard_of now l.number b) none)
    (ap (λ (xs : List Answer). old_comes false xs w) (ap (filter_map answered) old)
    ∙ (hop_answers_old a (filter_map answered rest) w none
    ∙ ap (λ (es : List FlowEntry). replied_old (reply_to a es) (filter_map answered rest) w) (same_entries copies l.went s.queue (standing_by copies (turned_back r) l s b h.queue_is c))))

-- and its session may receive more
pub old_answers_receive : (number : Numbering) (largest : ℕ) (copies : List Lot) (limits : Capacity) (choice : MemberChoice) (now : ℕ) (a : Answer) (rest : List Back) (r : Receiver) (l : BrokerLine) (s : Session) (b : Broker)
    → HasNoConnect (a ∷ []) → IsRun number largest copies r b → IsLingering r l s b → IsReceiving r s b → r.line.old ≡ answers a ∷ rest
    → Receives (reads_old_answer limits choice now l.number a r b) (after_answer limits choice now l.number a r b)
old_answers_receive number largest copies limits choice now a rest r l s b none h c x old =
    let q = queue_on l.went s in
    old_answer_receives number largest copies limits choice now a rest r l s b h c old x.known (reply_to a q) (is_reply a q)
    (answered_by a r.client r.window r.aliases (env_of limits choice b) l s (heard_of now l.number b) none)
