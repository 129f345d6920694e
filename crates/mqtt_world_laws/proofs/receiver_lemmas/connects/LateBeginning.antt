-- The broker reads a receiver's CONNECT on the line that it gave up, while no session of its name stands, or with Clean Start: a
-- session begins there, with which the two are in step; or there is no place for one, and the receiver awaits it as before.
use Rattle.std.proofs.Common.{◌≡◌, ℕ, suc, ◌≤◌, Bool, true, false, cond, List, [], ◌∷◌, ◌++◌, drop, length, map, Option, Some, None, nat_lt, refl, sym, ap, subst, ◌∙◌, append-nil}
use Rattle.std.specs.Prelude.{filter_map, is_some}
use Rattle.std.specs.List.{AllByRecursion}
use Rattle.std.proofs.lemmas.Cmp.{nat_eq_equiv}
use Rattle.mqtt_base.specs.declared.session.CopyId.{CopyId}
use Rattle.mqtt_flow.specs.outbound.OutboundWorld.{Lot, World as Hop, close_old, connects_old, cut, old_comes, old_to_broker, run, start, step}
use Rattle.mqtt_flow.specs.outbound.Receiver.{Answer, connect, disconnect}
use Rattle.mqtt_world_model.specs.model.Ends.{Back, Receiver, answers, wire_back}
use Rattle.mqtt_world_model.specs.model.Hops.{lines_left}
use Rattle.mqtt_world_model.specs.model.Lines.{Down, is_one_of, sent_to, unless_closed}
use Rattle.mqtt_world_model.specs.model.Seen.{is_linked}
use Rattle.mqtt_world_model.proofs.model_lemmas.connects.CleanConnects.{ended_by}
use Rattle.mqtt_world_model.proofs.model_lemmas.connects.Connects.{not_left}
use Rattle.mqtt_world_model.proofs.model_lemmas.seats.Joins.{none_closed}
use Rattle.mqtt_world_model.proofs.model_lemmas.others.Names.{named_is}
use Rattle.mqtt_world_model.proofs.model_lemmas.own.OwnStep.{heard_of, not_the_one}
use Rattle.mqtt_records.specs.declared.state.session.Session.{Session}
use Rattle.mqtt_rules.specs.step.Deeds.{Deed, after_all, closing, output}
use Rattle.mqtt_rules.specs.step.State.{Line as BrokerLine, Broker, MemberChoice, line_of, session_named}
use Rattle.mqtt_rules.specs.step.Step.{Input, at_moment, deeds}
use Rattle.mqtt_rules.specs.declared.step.Capacity.{Capacity}
use Rattle.mqtt_world_laws.specs.receiver.Calls.{IsBeginning, IsRenewing, reads_old_answer}
use Rattle.mqtt_world_laws.specs.receiver.Entering.{Receives}
use Rattle.mqtt_world_laws.specs.receiver.Handing.{IsRun, RunsOn, after_answer}
use Rattle.mqtt_world_laws.specs.receiver.Late.{left_alone}
use Rattle.mqtt_world_laws.specs.receiver.Own.{IsAwaiting, IsFreeLine, IsInStep}
use Rattle.mqtt_world_laws.specs.receiver.Seen.{AreQueued, Numbering, answered, heard_in, seen}
use Rattle.mqtt_world_laws.specs.receiver.Tags.{IsTagged, id_of}
use Rattle.mqtt_world_laws.proofs.receiver_lemmas.own.Answering.{IsAsideOf, all_join}
use Rattle.mqtt_world_laws.proofs.receiver_lemmas.others.AwaitingOthers.{free_unlinked}
use Rattle.mqtt_world_laws.proofs.receiver_lemmas.connects.Beginning.{Clears, begins_takes, cut_ids, first_beside, first_clears}
use Rattle.mqtt_world_laws.proofs.receiver_lemmas.connects.LateCalls.{closes_own, hop_after, late_receives, late_runs}
use Rattle.mqtt_world_laws.proofs.receiver_lemmas.own.OldAnswers.{untold}
use Rattle.mqtt_world_laws.proofs.receiver_lemmas.own.Own.{runs_first, runs_for}
use Rattle.mqtt_world_laws.proofs.receiver_lemmas.connects.OwnConnects.{clears_served, free_heard, renewal_served}
use Rattle.mqtt_world_laws.proofs.receiver_lemmas.connects.OwnRefusals.{deeds_are, free_gone, given_is, lines_are, named_none, refusing, unless_true}
use Rattle.mqtt_world_laws.proofs.receiver_lemmas.connects.Refusals.{run_append}
use Rattle.mqtt_world_laws.proofs.receiver_lemmas.connects.Renewing.{Renews, renewed_beside, renewed_clears}
use Rattle.mqtt_world_laws.proofs.receiver_lemmas.connects.Resuming.{Takes}

-- ---- no session of its name stands: one begins

-- its own line, on which nobody is connected, stays as it is
none_closes : (t : Bool) (w : Hop) (ups : List Back) (left : List Answer) (copies2 : List Lot) → t ≡ false → w.linked ≡ false → w.up ≡ filter_map answered ups
    → record w { old = left; stands = true; copies = copies2 }
    ≡ record w { copies = copies2; stands = true; linked = false; up = filter_map answered (unless_closed t ups); down = w.down ++ cond t (disconnect ∷ []) []; old = left }
none_closes false w ups left copies2 e h u = λ i. record w { copies = copies2; stands = true; linked = h i; up = u i; down = sym (append-nil w.down) i; old = left }
none_closes true w ups left copies2 e h u = absurd cc

module _ (number : Numbering) (largest : ℕ) (copies : List Lot) (limits : Capacity) (choice : MemberChoice) (now : ℕ) (clean : Bool) (rest : List Back) (r : Receiver)
    (l : BrokerLine) (b : Broker) (a : IsBeginning limits (left_alone r) l b) (apart : is_one_of r.line.number (l.number ∷ []) ≡ false) (off : is_linked r.line.number b ≡ false)
    (room : nat_lt (length b.records.sessions) limits.sessions ≡ true) (old : r.line.old ≡ answers (connect clean) ∷ rest) where
  clears : Clears limits choice now clean (left_alone r) l b [] []
  clears = first_clears limits choice now clean (left_alone r) l b a room

  takes : Takes number (map cut copies) (map id_of copies) limits choice now (Input l.number (wire_back r.client r.window r.aliases (answers (connect clean)))) r.client l.number (suc b.records.births) [] b
  takes =
      begins_takes number largest copies limits choice now clean rest (left_alone r) l b a.number [] [] clears
      (λ m other. first_beside number (map id_of copies) limits choice now clean (left_alone r) l b clears m other)

  linked_is_one : is_linked r.line.number b ≡ is_one_of r.line.number []
  linked_is_one = off ∙ sym (none_closed r.line.number)

  hop_is : step largest (seen number copies r b) (old_to_broker false)
      ≡ hop_after number largest copies (map cut copies) limits choice now clean rest r l.number (suc b.records.births) [] b old a.number apart linked_is_one refl (cut_ids copies) takes
  hop_is =
      let w = seen number copies r b in
      let stands : w.stands ≡ false = ap is_some a.none in
      ap (λ (xs : List Answer). old_comes false xs w) (ap (filter_map answered) old)
      ∙ (ap (λ (z : Bool). connects_old z clean false (filter_map answered rest) w) stands
      ∙ none_closes (is_one_of r.line.number []) w r.line.up (filter_map answered rest) (map cut copies) (none_closed r.line.number) off refl)

  begins_runs : IsRun number largest copies r b → RunsOn number largest copies (reads_old_answer limits choice now l.number (connect clean) r b) (after_answer limits choice now l.number (connect clean) r b)
  begins_runs h = late_runs number largest copies (map cut copies) limits choice now clean rest r l.number (suc b.records.births) [] b old a.number apart linked_is_one refl (cut_ids copies) takes h hop_is

  begins_receives : Receives (reads_old_answer limits choice now l.number (connect clean) r b) (after_answer limits choice now l.number (connect clean) r b)
  begins_receives = late_receives number largest copies (map cut copies) limits choice now clean rest r l.number (suc b.records.births) [] b old a.number apart linked_is_one refl (cut_ids copies) takes

-- a first CONNECT on the old line leaves the receiver in step
pub late_first_in_step : (largest : ℕ) (ids : List CopyId) (ns : List ℕ) (limits : Capacity) (choice : MemberChoice) (now : ℕ) (clean : Bool) (rest : List Back) (r : Receiver) (l : BrokerLine) (b : Broker)
    → IsAwaiting largest ids ns r b → IsBeginning limits (left_alone r) l b → is_one_of r.line.number (l.number ∷ []) ≡ false → nat_lt (length b.records.sessions) limits.sessions ≡ true
    → r.line.old ≡ answers (connect clean) ∷ rest
    → IsInStep largest ids (suc b.records.births) ns (reads_old_answer limits choice now l.number (connect clean) r b) (after_answer limits choice now l.number (connect clean) r b)
late_first_in_step largest ids ns limits choice now clean rest r l b k a apart room old =
    let first = at_moment now b in
    let off = free_unlinked ns r.line.number b k.lines.own k.free in
    let made = first_clears limits choice now clean (left_alone r) l b a room in
    let served = clears_served limits choice now clean (left_alone r) l b [] [] ns made (free_heard ns first.now l.number b.lines k.free) k.given (k.lines.old l.number a.number) in
    record {
      runs = runs_first largest ids (suc b.records.births) ns r (reads_old_answer limits choice now l.number (connect clean) r b) b (after_answer limits choice now l.number (connect clean) r b) k.runs served
          (λ number h. begins_runs number largest h.after limits choice now clean rest r l b a apart off room old h.run_is)
          (λ number h. begins_receives number largest h.after limits choice now clean rest r l b a apart off room old);
      served = served;
      lines = record { own = k.lines.own; old = k.lines.old };
    }

-- ---- it is renewed

module _ (number : Numbering) (largest : ℕ) (copies : List Lot) (limits : Capacity) (choice : MemberChoice) (now : ℕ) (rest : List Back) (r : Receiver)
    (l : BrokerLine) (s : Session) (b : Broker) (a : IsRenewing limits (left_alone r) l s b) (apart : is_one_of r.line.number (l.number ∷ []) ≡ false)
    (linked : is_linked r.line.number b ≡ is_one_of r.line.number (lines_left (line_of s.birth b))) (old : r.line.old ≡ answers (connect true) ∷ rest) where
  abbrev ns : List ℕ
  ns = lines_left (line_of s.birth b)

  renews : Renews limits choice now (left_alone r) l s b
  renews = renewed_clears limits choice now (left_alone r) l s b a

  abbrev front : List Deed
  front = ended_by renews.its s (heard_of now l.number b).now

  abbrev birth : ℕ
  birth = suc (after_all front (heard_of now l.number b)).records.births

  renews_takes : Takes number (map cut copies) (map id_of copies) limits choice now (Input l.number (wire_back r.client r.window r.aliases (answers (connect true)))) r.client l.number birth ns b
  renews_takes =
      begins_takes number largest copies limits choice now true rest (left_alone r) l b a.resuming.number front ns renews.clears
      (λ m other. renewed_beside number (map id_of copies) limits choice now (left_alone r) l s b renews m other)

  open_still : is_one_of (Some l.number) ns ≡ false
  open_still = not_left (line_of s.birth b) s.birth l.number a.resuming.taken

  hop_renews : step largest (seen number copies r b) (old_to_broker false)
      ≡ hop_after number largest copies (map cut copies) limits choice now true rest r l.number birth ns b old a.resuming.number apart linked open_still (cut_ids copies) renews_takes
  hop_renews =
      let w = seen number copies r b in
      let stands : w.stands ≡ true = ap is_some (named_is r.client s.birth b.records s a.resuming.kept.only a.resuming.kept.session a.resuming.kept.name) in
      ap (λ (xs : List Answer). old_comes false xs w) (ap (filter_map answered) old)
      ∙ (ap (λ (z : Bool). connects_old z true false (filter_map answered rest) w) stands
      ∙ sym (closes_own (is_one_of r.line.number ns) w r.line.up (filter_map answered rest) (map cut copies) linked refl stands))

  renews_runs : IsRun number largest copies r b → RunsOn number largest copies (reads_old_answer limits choice now l.number (connect true) r b) (after_answer limits choice now l.number (connect true) r b)
  renews_runs h = late_runs number largest copies (map cut copies) limits choice now true rest r l.number birth ns b old a.resuming.number apart linked open_still (cut_ids copies) renews_takes h hop_renews

  renews_receives : Receives (reads_old_answer limits choice now l.number (connect true) r b) (after_answer limits choice now l.number (connect true) r b)
  renews_receives = late_receives number largest copies (map cut copies) limits choice now true rest r l.number birth ns b old a.resuming.number apart linked open_still (cut_ids copies) renews_takes

-- so does one with Clean Start there
pub late_renewal_in_step : (largest : ℕ) (ids : List CopyId) (birth : ℕ) (ns : List ℕ) (limits : Capacity) (choice : MemberChoice) (now : ℕ) (rest : List Back) (r : Receiver) (l : BrokerLine) (s : Session) (b : Broker)
    → IsInStep largest ids birth ns r b → IsRenewing limits (left_alone r) l s b → is_one_of r.line.number (l.number ∷ []) ≡ false
    → is_linked r.line.number b ≡ is_one_of r.line.number (lines_left (line_of s.birth b)) → r.line.old ≡ answers (connect true) ∷ rest
    → IsInStep largest ids (suc b.records.births) ns (reads_old_answer limits choice now l.number (connect true) r b) (after_answer limits choice now l.number (connect true) r b)
late_renewal_in_step largest ids birth ns limits choice now rest r l s b k a apart linked old =
    let served = renewal_served birth ns limits choice now (left_alone r) l s b k.served (k.lines.old l.number a.resuming.number) a in
    record {
      runs = runs_for largest ids birth (suc b.records.births) ns r (reads_old_answer limits choice now l.number (connect true) r b) b (after_answer limits choice now l.number (connect true) r b) k.runs served
          (λ number h. renews_runs number largest h.after limits choice now rest r l s b a apart linked old h.run_is)
          (λ number h. renews_receives number largest h.after limits choice now rest r l s b a apart linked old);
      served = served;
      lines = record { own = k.lines.own; old = k.lines.old };
    }

-- ---- there is no place for one: that line closes

module _ (limits : Capacity) (choice : MemberChoice) (now : ℕ) (clean : Bool) (rest : List Back) (r : Receiver) (l : BrokerLine) (b : Broker) (a : IsBeginning limits (left_alone r) l b)
    (apart : is_one_of r.line.number (l.number ∷ []) ≡ false) (full : nat_lt (length b.records.sessions) limits.sessions ≡ false) (old : r.line.old ≡ answers (connect clean) ∷ rest) where
  abbrev n : ℕ
  n = l.number

  abbrev ds : List Deed
  ds = deeds limits choice now (Input n (wire_back r.client r.window r.aliases (answers (connect clean)))) b

  abbrev new : Broker
  new = after_answer limits choice now n (connect clean) r b

  refuses : ds ≡ refusing limits choice now clean rest (left_alone r) l b a refl full old
  refuses = deeds_are limits choice now clean rest (left_alone r) l b a refl full old

  unnamed : session_named r.client new.records ≡ None
  unnamed = named_none limits choice now clean rest (left_alone r) l b a refl full old

  -- its own line, if it has one
  record IsLeft (o : Option ℕ) : Type 0 where
    pub told : sent_to o new (filter_map output ds) ≡ []
    pub stays : is_one_of o (filter_map closing ds) ≡ false

  own : (o : Option ℕ) → is_one_of o (n ∷ []) ≡ false → IsLeft o
  own None other = record { told = refl; stays = refl }
  own (Some m) other =
      let apart_m = not_the_one n m other in
      let aside : AllByRecursion (IsAsideOf m) ds = subst (AllByRecursion (IsAsideOf m)) (sym refuses) (apart_m, (apart_m, (apart_m, tt))) in
      let x = untold m new ds aside in
      record { told = x.told; stays = x.stays }

  closes_here : is_one_of r.line.old_number (filter_map closing ds) ≡ true
  closes_here =
      ap (λ (o : Option ℕ). is_one_of o (filter_map closing ds)) a.number ∙ (ap (λ (xs : List Deed). is_one_of (Some n) (filter_map closing xs)) refuses ∙ one_here n)
    where
      one_here : (m : ℕ) → is_one_of (Some m) (m ∷ []) ≡ true
      one_here m = rw (nat_eq_equiv.refl m) refl

  late_refused : (number : Numbering) (largest : ℕ) (copies : List Lot) → is_linked r.line.number b ≡ is_linked r.line.number new → IsRun number largest copies r b
      → IsRun number largest copies (reads_old_answer limits choice now n (connect clean) r b) new
  late_refused number largest copies linked h =
      let w = seen number copies r b in
      let q = reads_old_answer limits choice now n (connect clean) r b in
      let x = own r.line.number apart in
      let es = old_to_broker true ∷ close_old ∷ [] in
      let stands : is_some (session_named r.client new.records) ≡ is_some (session_named r.client b.records) = ap is_some unnamed ∙ sym (ap is_some a.none) in
      let before : w.stands ≡ false = ap is_some a.none in
      let still = sym linked in
      let ups : filter_map answered (unless_closed (is_one_of r.line.number (filter_map closing ds)) r.line.up) ≡ filter_map answered r.line.up =
      ap (λ (t : Bool). filter_map answered (unless_closed t r.line.up)) x.stays in
      let downs : filter_map (heard_in number) (r.line.down ++ sent_to r.line.number new (filter_map output ds)) ≡ filter_map (heard_in number) r.line.down =
      ap (λ (xs : List Down). filter_map (heard_in number) (r.line.down ++ xs)) x.told ∙ ap (filter_map (heard_in number)) (append-nil r.line.down) in
      let olds : filter_map answered (unless_closed (is_one_of r.line.old_number (filter_map closing ds)) (drop 1 r.line.old)) ≡ [] =
      unless_true (is_one_of r.line.old_number (filter_map closing ds)) (drop 1 r.line.old) closes_here in
      let same : seen number copies q new ≡ record w { old = [] } = λ i. record w { stands = stands i; linked = still i; up = ups i; down = downs i; old = olds i } in
      let one : step largest w (old_to_broker true) ≡ record w { old = filter_map answered rest } =
      ap (λ (xs : List Answer). old_comes true xs w) (ap (filter_map answered) old) ∙ ap (λ (z : Bool). connects_old z clean true (filter_map answered rest) w) before in
      let hop : run largest es w ≡ record w { old = [] } = ap (λ (v : Hop). step largest v close_old) one in
      record {
        events = h.events ++ es;
        seen_is = same ∙ (sym hop ∙ (ap (run largest es) h.seen_is ∙ sym (run_append largest h.events es start)));
        queue_is = subst (λ (o : Option Session). AreQueued copies o new) (sym unnamed) (subst (λ (o : Option Session). AreQueued copies o b) a.none h.queue_is);
        numbered = h.numbered;
        tagged = record {
          down = all_join (IsTagged number (map id_of copies)) r.line.down (sent_to r.line.number new (filter_map output ds)) h.tagged.down
              (subst (AllByRecursion (IsTagged number (map id_of copies))) (sym x.told) tt);
          ledger = h.tagged.ledger;
          once = h.tagged.once;
        };
      }

-- one that is refused there leaves it waiting
pub late_refused_awaiting : (largest : ℕ) (ids : List CopyId) (ns : List ℕ) (limits : Capacity) (choice : MemberChoice) (now : ℕ) (clean : Bool) (rest : List Back) (r : Receiver) (l : BrokerLine) (b : Broker)
    → IsAwaiting largest ids ns r b → IsBeginning limits (left_alone r) l b → is_one_of r.line.number (l.number ∷ []) ≡ false → nat_lt (length b.records.sessions) limits.sessions ≡ false
    → r.line.old ≡ answers (connect clean) ∷ rest
    → IsAwaiting largest ids ns (reads_old_answer limits choice now l.number (connect clean) r b) (after_answer limits choice now l.number (connect clean) r b)
late_refused_awaiting largest ids ns limits choice now clean rest r l b k a apart full old =
    let last = after_answer limits choice now l.number (connect clean) r b in
    let free : AllByRecursion (IsFreeLine ns) last.lines =
    subst (AllByRecursion (IsFreeLine ns)) (sym (lines_are limits choice now clean rest (left_alone r) l b a refl full old))
    (free_gone ns l.number (heard_of now l.number b).lines (free_heard ns (at_moment now b).now l.number b.lines k.free)) in
    let linked : is_linked r.line.number b ≡ is_linked r.line.number last = free_unlinked ns r.line.number b k.lines.own k.free ∙ sym (free_unlinked ns r.line.number last k.lines.own free) in
    record {
      runs = λ number numbered.
          let h = k.runs number numbered in
          record { after = h.after; same = h.same; run_is = late_refused limits choice now clean rest r l b a apart full old number largest h.after linked h.run_is };
      free = free;
      given = subst (λ (g : ℕ). (n : ℕ) → is_one_of (Some n) ns ≡ true → n ≤ g) (sym (given_is limits choice now clean rest (left_alone r) l b a refl full old)) k.given;
      lines = record { own = k.lines.own; old = k.lines.old };
    }
