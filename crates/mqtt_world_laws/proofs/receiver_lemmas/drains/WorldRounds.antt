-- Rounds of a drain of the world are rounds of its receiver's hop, so that it ends as the hop's does.
use Rattle.std.proofs.Common.{◌≡◌, inl, inr, ⊎_elim, ℕ, zero, suc, ◌+◌, ◌*◌, ◌≤◌, max, Bool, true, false, cond, not, ◌||◌, List, [], ◌∷◌, ◌++◌, length, map, take, Option, Some, None, bytes_eq, refl, sym, ap, subst, ◌∙◌, append-nil, arith}
use Rattle.std.specs.Prelude.{find, filter_map, is_some, option_map, slice_get}
use Rattle.std.specs.List.{AllByRecursion}
use Rattle.std.proofs.lemmas.Bool.{cases_Bool}
use Rattle.mqtt_base.specs.declared.session.CopyId.{CopyId}
use Rattle.mqtt_flow.specs.outbound.Outbound as rules
use Rattle.mqtt_flow.specs.outbound.OutboundWorld.{Lot, World as Hop, queue_of, step}
use Rattle.mqtt_flow.specs.outbound.OutboundWorld as hop
use Rattle.mqtt_flow.specs.outbound.Receiver.{Answer}
use Rattle.mqtt_flow.proofs.inbound_lemmas.Identifiers.{test_cases}
use Rattle.mqtt_world_model.specs.model.Ends.{Back, Publisher, Receiver, Wish, answers, asks_for, publisher_reads, receiver_reads, wire_back}
use Rattle.mqtt_records.specs.declared.messages.message.RetainedMessage.{RetainedMessage}
use Rattle.mqtt_world_model.specs.model.Lines.{stands}
use Rattle.mqtt_world_model.specs.model.Run.{Turn, run, turned}
use Rattle.mqtt_world_model.specs.model.World.{Event, Setting, World, ask, call_of, calls, calls_if, end_reads, happens, is_bad, publisher_named, publisher_told, pump, receiver_named, receiver_told, taken_up, to_broker, to_end, with_line}
use Rattle.mqtt_records.specs.declared.state.session.Session.{Session}
use Rattle.mqtt_records.specs.lists.Distinct.{AllDiffer}
use Rattle.mqtt_rules.proofs.step_lemmas.numbers.Copies.{each_append}
use Rattle.mqtt_rules.proofs.step_lemmas.acts.Leads.{found_passes}
use Rattle.mqtt_rules.specs.step.State.{Broker, MemberChoice, capped, session_at, session_named}
use Rattle.mqtt_rules.specs.step.Step.{Call, Input, Outcome, Pump, stepped, told}
use Rattle.mqtt_rules.specs.declared.step.Capacity.{Capacity}
use Rattle.mqtt_world_laws.proofs.acceptance_lemmas.publishers.Ends.{find_publisher, find_receiver, named_receiver, only_receiver}
use Rattle.mqtt_world_laws.specs.receiver.Drains.{after_round, all_to_broker, all_to_end, copies_by, copies_left, downs_by, drain_turns, drained, enough_rounds, is_none_left, is_over, line_stands, round_turns, rounds_taken, times, turn_of, ups_by}
use Rattle.mqtt_world_laws.specs.receiver.Handing.{IsRun}
use Rattle.mqtt_world_laws.specs.receiver.Own.{IsBroughtCopy}
use Rattle.mqtt_world_laws.specs.receiver.Rounds as rounds
use Rattle.mqtt_world_laws.specs.receiver.Rounds.{EndsBy}
use Rattle.mqtt_world_laws.specs.receiver.Seen.{Numbering, answered, seen}
use Rattle.mqtt_world_laws.specs.receiver.Served.{IsTidy, RunsWithAll}
use Rattle.mqtt_world_laws.specs.receiver.Tags.{AreNumbered, id_of}
use Rattle.mqtt_world_laws.specs.receiver.WorldRounds.{AllBringNoLarger, AreTold, AsksOnce, BringsNoLarger, ComesTo, DrainsBehind, DrainsWith, EndsOrDrops, IsAnswer, IsOlder, MayAsk, IsDrained, MayDrain, moment_of, moments_of}
use Rattle.mqtt_world_laws.proofs.receiver_lemmas.own.Answering.{named_now, standing_by}
use Rattle.mqtt_world_laws.proofs.receiver_lemmas.drains.DrainCauses.{answers_pass, causes_of_run, drops_none, ended_rests, ends_by_more, passes_trans, passes_way, pump_passes}
use Rattle.mqtt_world_laws.proofs.receiver_lemmas.drains.DrainRuns.{run_append}
use Rattle.mqtt_world_laws.proofs.receiver_lemmas.drains.Further.{Reached, goes_on, no_more_rest, no_more_stand}
use Rattle.mqtt_world_laws.proofs.receiver_lemmas.queue.Numbers.{place_of, places_number}
use Rattle.mqtt_world_laws.proofs.receiver_lemmas.own.OwnDoings.{keeps_reading}
use Rattle.mqtt_world_laws.proofs.receiver_lemmas.drains.RoundFurther.{drain_empties, round_run, rounds_within, two_each}
use Rattle.mqtt_world_laws.proofs.receiver_lemmas.queue.Renumbering.{renumbered}
use Rattle.mqtt_world_laws.proofs.receiver_lemmas.connects.Stopping.{step_tidy}
use Rattle.mqtt_world_laws.proofs.receiver_lemmas.others.Walk.{numbered_front}
use Rattle.mqtt_world_laws.proofs.receiver_lemmas.own.Own.{some_is}
use Rattle.mqtt_world_laws.proofs.receiver_lemmas.drains.RoundPhases.{brokers_length, ends_copies, length_map, turns_length}
use Rattle.mqtt_world_laws.proofs.receiver_lemmas.queue.Turns.{same_entries}
use Rattle.mqtt_world_laws.proofs.receiver_lemmas.drains.WorldRoundLines.{HasSame, moment_again, step_now}
use Rattle.mqtt_world_laws.proofs.receiver_lemmas.drains.WorldRoundWishes.{wish_at}
use Rattle.mqtt_world_laws.proofs.receiver_lemmas.drains.WorldRoundReads.{Grows, all_read, reads_at}
use Rattle.mqtt_world_laws.proofs.receiver_lemmas.drains.WorldRoundSteps.{At, answer_at, hop_linked, listens_now, pump_at, pump_same, pump_up, reached}

-- ---- who is found by the name, if one is changed

-- if nobody is found nobody is changed
pub none_changed : {X : Type 0} (test : X → Bool) (f : X → X) (xs : List X) → find test xs ≡ None → find test (map (λ (x : X). cond (test x) (f x) x) xs) ≡ None
none_changed test f [] e = refl
none_changed test f (x ∷ xs) e = elim (cases_Bool (test x)) [
  | inl its ↦ let found : Some x ≡ None = rw its at e in absurd cc
  | inr other ↦ rw (other, other) (none_changed test f xs (rw other at e))
]

-- the receiver that is found is changed
pub receiver_changed : (client : List ℕ) (f : Receiver → Receiver) (r : Receiver) (rs : List Receiver) → ((q : Receiver) → (f q).client ≡ q.client) → find (λ (q : Receiver). bytes_eq q.client client) rs ≡ Some r
    → find (λ (q : Receiver). bytes_eq q.client client) (map (λ (q : Receiver). cond (bytes_eq q.client client) (f q) q) rs) ≡ Some (f r)
receiver_changed client f r rs same e =
    let g = λ (q : Receiver). cond (bytes_eq q.client client) (f q) q in
    let its : bytes_eq r.client client ≡ true = found_passes (λ (q : Receiver). bytes_eq q.client client) r rs e in
    find_receiver client g (λ q. only_receiver (bytes_eq q.client client) f q (same q)) rs
    ∙ (ap (option_map g) e ∙ ap (λ (z : Bool). Some (cond z (f r) r)) its)

-- a call tells all
module _ (client : List ℕ) (set : Setting) (call : Call) (w : World) where
  abbrev new : Broker
  new = stepped set.limits set.choice w.now call w.broker

  abbrev out : Outcome
  out = told set.limits set.choice w.now call w.broker

  -- after a call the receiver is the one that was told of it
  pub receiver_called_is : (r : Receiver) → receiver_named client w ≡ Some r → receiver_named client (calls set call w) ≡ Some (receiver_told new out r)
  receiver_called_is r e = find_receiver client (receiver_told new out) (λ q. refl) w.receivers ∙ ap (option_map (receiver_told new out)) e

  -- a call brings no publisher
  pub publisher_called_is : publisher_named client w ≡ None → publisher_named client (calls set call w) ≡ None
  publisher_called_is e = find_publisher client (publisher_told new out) (λ p. refl) w.publishers ∙ ap (option_map (publisher_told new out)) e

-- ---- what is about copies stays so with an answer more

answers_grow : Grows (AllByRecursion IsAnswer)
answers_grow = record { none = tt; more = λ up a all. each_append IsAnswer up (answers a ∷ []) all (tt, tt) }

-- ---- the receiver of the name, with the hop that is seen and what is under way from it

-- the receiver of this name is at this state of its hop, with this under way from it
pub record Here (number : Numbering) (largest window : ℕ) (ids : List CopyId) (birth : ℕ) (ns : List ℕ) (client : List ℕ) (ups : List Back) (h : Hop) (w : World) : Type 0 where
  pub receiver : Receiver
  pub named : receiver_named client w ≡ Some receiver
  pub alone : publisher_named client w ≡ None
  pub at : At number largest window ids birth ns h receiver w.broker
  pub up : receiver.line.up ≡ ups

-- ---- the events of a round

module _ (limits : Capacity) (choice : MemberChoice) (client : List ℕ) where
  abbrev set : Setting
  set = record { limits = limits; choice = choice }

  -- to ask for a turn of sending is the broker's call on the receiver's line
  pub pump_is : (w : World) (r : Receiver) (n : ℕ) → receiver_named client w ≡ Some r → publisher_named client w ≡ None → r.line.number ≡ Some n → turned limits (turn_of choice (ask (pump client))) w ≡ calls set (Pump n) w
  pump_is w r n named alone number = rw (named, alone, number) refl

  reading_is : (w : World) (r : Receiver) → receiver_named client w ≡ Some r → publisher_named client w ≡ None → turned limits (turn_of choice (to_end client)) w ≡ end_reads client w
  reading_is w r named alone = rw (named, alone) refl

  abbrev pub taken_off : World → World
  taken_off w = with_line client taken_up taken_up w

  -- to have the first packet of the receiver's line read is the broker's call on it
  pub back_is : (w : World) (r : Receiver) (n : ℕ) (u : Back) (rest : List Back) → receiver_named client w ≡ Some r → publisher_named client w ≡ None → r.line.number ≡ Some n → r.line.up ≡ u ∷ rest
      → turned limits (turn_of choice (ask (to_broker client))) w ≡ calls set (Input n (wire_back r.client r.window r.aliases u)) (taken_off w)
  back_is w r n u rest named alone number up = rw (named, alone, number, up) refl

  module _ (number : Numbering) (largest window : ℕ) (ids : List CopyId) (birth : ℕ) (ns : List ℕ) where
    abbrev Comes : Hop → World → Type 0
    Comes h w = ComesTo number largest window ids birth ns client h w

    abbrev Sees : List Back → Hop → World → Type 0
    Sees ups h w = Here number largest window ids birth ns client ups h w

    abbrev at_of : (h : Hop) (w : World) (x : Comes h w) → At number largest window ids birth ns h x.receiver w.broker
    at_of h w x = record { connected = x.may.connected; copies = x.copies; same = x.same; run_is = x.run_is; seen_is = x.seen_is }

    -- a turn of sending in the world is a pump of the hop
    pub pumps : (ups : List Back) (h : Hop) (w : World) → Sees ups h w → Sees ups (step largest h (hop.pump window (moment_of w))) (turned limits (turn_of choice (ask (pump client))) w)
    pumps ups h w x =
        let n = x.at.connected.line.number in
        let call = Pump n in
        let later = calls set call w in
        let y : Sees ups (step largest h (hop.pump window (moment_of w))) later = record {
          receiver = receiver_told later.broker (told limits choice w.now call w.broker) x.receiver;
          named = receiver_called_is client set call w x.receiver x.named;
          alone = publisher_called_is client set call w x.alone;
          at = pump_at number largest window ids birth ns limits choice w.now h x.receiver w.broker x.at;
          up = pump_up number largest window ids birth ns limits choice w.now x.receiver w.broker x.at.connected ∙ x.up;
        } in
        subst (Sees ups (step largest h (hop.pump window (moment_of w)))) (sym (pump_is w x.receiver n x.named x.alone x.at.connected.number)) y

    -- ---- the receiver reads

    -- so many times
    reads_are : (P : List Back → Type 0) (grows : Grows P) (k : ℕ) (w : World) (r : Receiver) → receiver_named client w ≡ Some r → publisher_named client w ≡ None
        → (receiver_named client (run limits (times k (turn_of choice (to_end client))) w) ≡ Some (all_read number largest window ids birth ns P grows r w.broker k r))
        × (publisher_named client (run limits (times k (turn_of choice (to_end client))) w) ≡ None)
        × ((run limits (times k (turn_of choice (to_end client))) w).broker ≡ w.broker)
    reads_are P grows k w r named alone = go k w r named alone refl
      where
        go : (j : ℕ) (v : World) (q : Receiver) → receiver_named client v ≡ Some q → publisher_named client v ≡ None → v.broker ≡ w.broker
            → (receiver_named client (run limits (times j (turn_of choice (to_end client))) v) ≡ Some (all_read number largest window ids birth ns P grows r w.broker j q))
            × (publisher_named client (run limits (times j (turn_of choice (to_end client))) v) ≡ None)
            × ((run limits (times j (turn_of choice (to_end client))) v).broker ≡ w.broker)
        go zero v q named alone same = (named, alone, same)
        go (suc j) v q named alone same =
            let f = λ (p : Publisher). publisher_reads (stands p.line.number v.broker) p.line.down p in
            let g = λ (s : Receiver). receiver_reads (stands s.line.number v.broker) s.line.down s in
            let later = end_reads client v in
            let found : receiver_named client later ≡ Some (g q) = receiver_changed client g q v.receivers (λ s. (keeps_reading (stands s.line.number v.broker) s.line.down s).client) named in
            let read : g q ≡ receiver_reads (stands q.line.number w.broker) q.line.down q = ap (λ (b : Broker). receiver_reads (stands q.line.number b) q.line.down q) same in
            let nobody : publisher_named client later ≡ None = none_changed (λ (p : Publisher). bytes_eq p.client client) f v.publishers alone in
            let rest = go j later (receiver_reads (stands q.line.number w.broker) q.line.down q) (found ∙ ap Some read) nobody same in
            subst (λ (u : World). (receiver_named client (run limits (times j (turn_of choice (to_end client))) u) ≡ Some (all_read number largest window ids birth ns P grows r w.broker (suc j) q))
            × (publisher_named client (run limits (times j (turn_of choice (to_end client))) u) ≡ None)
            × ((run limits (times j (turn_of choice (to_end client))) u).broker ≡ w.broker)) (sym (reading_is v q named alone)) rest

    -- with what is under way from it then
    pub record Answered (P : List Back → Type 0) (before : List Back) (h : Hop) (w : World) : Type 0 where
      pub ups : List Back
      pub sees : Sees ups h w
      pub answering : P before → P ups

    -- the receiver's reading in the world is that of the hop
    pub reads : (P : List Back → Type 0) (grows : Grows P) (ups : List Back) (h : Hop) (w : World) → Sees ups h w → Answered P ups (hop.run largest (rounds.all_to_end h) h) (run limits (all_to_end choice client w) w)
    reads P grows ups h w x =
        let r = x.receiver in
        let k = length r.line.down in
        let all = reads_are P grows k w r x.named x.alone in
        let later = run limits (times k (turn_of choice (to_end client))) w in
        let y = reads_at number largest window ids birth ns P grows h r w.broker x.at in
        let last = hop.run largest (rounds.all_to_end h) h in
        let q = all_read number largest window ids birth ns P grows r w.broker k r in
        let z : Answered P ups last later = record {
          ups = q.line.up;
          sees = record { receiver = q; named = all.0; alone = all.1; at = subst (At number largest window ids birth ns last q) (sym all.2) y.at; up = refl };
          answering = λ a. y.answering (subst P (sym x.up) a);
        } in
        subst (λ (o : Option Receiver). Answered P ups last (run limits (times (downs_by o) (turn_of choice (to_end client))) w)) (sym x.named) z

    -- ---- the broker reads

    -- an answer that the broker reads in the world is read in the hop
    pub answers_one : (a : Answer) (rest : List Back) (h : Hop) (w : World) → Sees (answers a ∷ rest) h w → Sees rest (step largest h (hop.to_broker false)) (turned limits (turn_of choice (ask (to_broker client))) w)
    answers_one a rest h w x =
        let r = x.receiver in
        let n = x.at.connected.line.number in
        let call = Input n (wire_back r.client r.window r.aliases (answers a)) in
        let before = taken_off w in
        let later = calls set call before in
        let y = answer_at number largest window ids birth ns limits choice w.now a rest h r w.broker x.at x.up in
        let q = record r { line = taken_up r.line } in
        let found : receiver_named client before ≡ Some q = receiver_changed client (λ (s : Receiver). record s { line = taken_up s.line }) r w.receivers (λ s. refl) x.named in
        let nobody : publisher_named client before ≡ None = none_changed (λ (p : Publisher). bytes_eq p.client client) (λ (p : Publisher). record p { line = taken_up p.line }) w.publishers x.alone in
        let z : Sees rest (step largest h (hop.to_broker false)) later = record {
          receiver = receiver_told later.broker (told limits choice w.now call w.broker) q;
          named = receiver_called_is client set call before q found;
          alone = publisher_called_is client set call before nobody;
          at = y.at;
          up = y.up;
        } in
        subst (Sees rest (step largest h (hop.to_broker false))) (sym (back_is w r n (answers a) rest x.named x.alone x.at.connected.number x.up)) z

    -- all answers that the broker reads in the world are read in the hop
    pub brokers_from : (ups : List Back) (h : Hop) (w : World) → Sees ups h w → AllByRecursion IsAnswer ups → Sees [] (hop.run largest (times (length ups) (hop.to_broker false)) h) (run limits (times (length ups) (turn_of choice (ask (to_broker client)))) w)
    brokers_from [] h w x a = x
    brokers_from (asks_for wish ∷ rest) h w x a = absurd a.0
    brokers_from (answers b ∷ rest) h w x a = brokers_from rest (step largest h (hop.to_broker false)) (turned limits (turn_of choice (ask (to_broker client))) w) (answers_one b rest h w x) a.1

    -- all that is under way is about copies
    as_many : (ups : List Back) → AllByRecursion IsAnswer ups → length (filter_map answered ups) ≡ length ups
    as_many [] a = refl
    as_many (answers x ∷ ups) a = ap suc (as_many ups a.1)
    as_many (asks_for x ∷ ups) a = absurd a.0

    brokers : (ups : List Back) (h : Hop) (w : World) → Sees ups h w → AllByRecursion IsAnswer ups → Sees [] (hop.run largest (rounds.all_to_broker h) h) (run limits (all_to_broker choice client w) w)
    brokers ups h w x a =
        let r = x.receiver in
        let many : length h.up ≡ length ups = sym (ap (λ (v : Hop). length v.up) x.at.seen_is) ∙ (ap (λ (us : List Back). length (filter_map answered us)) x.up ∙ as_many ups a) in
        let y = brokers_from ups h w x a in
        let last : ups_by (receiver_named client w) ≡ length ups = ap ups_by x.named ∙ ap length x.up in
        subst (λ (j : ℕ). Sees [] (hop.run largest (rounds.all_to_broker h) h) (run limits (times j (turn_of choice (ask (to_broker client)))) w)) (sym last)
        (subst (λ (j : ℕ). Sees [] (hop.run largest (times j (hop.to_broker false)) h) (run limits (times (length ups) (turn_of choice (ask (to_broker client)))) w)) (sym many) y)

    reads_broker : (ups : List Back) (h : Hop) (w : World) → Sees ups h w → (run limits (all_to_end choice client w) w).broker ≡ w.broker
    reads_broker ups h w x =
        subst (λ (o : Option Receiver). (run limits (times (downs_by o) (turn_of choice (to_end client))) w).broker ≡ w.broker) (sym x.named)
        (reads_are (AllByRecursion IsAnswer) answers_grow (length x.receiver.line.down) w x.receiver x.named x.alone).2

    -- nothing is under way from it
    pub sees_comes : (h : Hop) (w : World) → Sees [] h w → Comes h w
    sees_comes h w x = record {
      receiver = x.receiver;
      may = record { named = x.named; alone = x.alone; connected = x.at.connected; answering = subst (AllByRecursion IsAnswer) (sym x.up) tt };
      copies = x.at.copies;
      same = x.at.same;
      run_is = x.at.run_is;
      seen_is = x.at.seen_is;
    }

    -- ---- a round

    -- a round in the world is a round of the hop
    pub rounds_on : (h : Hop) (w : World) → Comes h w → Comes (rounds.after_round largest window (moment_of w) h) (after_round limits choice client w)
    rounds_on h w x =
        let sends = turn_of choice (ask (pump client)) ∷ [] in
        let sent = run limits sends w in
        let h1 = step largest h (hop.pump window (moment_of w)) in
        let ends = all_to_end choice client sent in
        let was = run limits ends sent in
        let h2 = hop.run largest (rounds.all_to_end h1) h1 in
        let ups = x.receiver.line.up in
        let x1 = pumps ups h w (record { receiver = x.receiver; named = x.may.named; alone = x.may.alone; at = at_of h w x; up = refl }) in
        let x2 = reads (AllByRecursion IsAnswer) answers_grow ups h1 sent x1 in
        let h3 = hop.run largest (rounds.all_to_broker h2) h2 in
        let x3 : Comes h3 (run limits (all_to_broker choice client was) was) = sees_comes h3 (run limits (all_to_broker choice client was) was) (brokers x2.ups h2 was x2.sees (x2.answering x.may.answering)) in
        let split : after_round limits choice client w ≡ run limits (all_to_broker choice client was) was = run_append limits ends (all_to_broker choice client was) sent in
        subst (λ (v : World). Comes (rounds.after_round largest window (moment_of w) h) v) (sym split)
        (subst (λ (g : Hop). Comes g (run limits (all_to_broker choice client was) was)) (sym (round_run largest window (moment_of w) h)) x3)

    -- ---- a drain

    -- the copies of the hop that stand are those of its session's queue
    lengths : {X Y : Type 0} (f : X → Y) (xs : List X) → length (map f xs) ≡ length xs
    lengths f [] = refl
    lengths f (x ∷ xs) = ap suc (lengths f xs)

    -- its session, with as many rows in its queue
    pub record Holds (h : Hop) (w : World) : Type 0 where
      pub session : Session
      pub found : session_at birth w.broker.records ≡ Some session
      pub left : copies_left client w ≡ length session.queue
      pub many : length session.queue ≡ length (queue_of h.copies)

    -- the receiver's session stands, with as many rows as copies stand in the hop
    pub holds : (ups : List Back) (h : Hop) (w : World) → Sees ups h w → Holds h w
    holds ups h w x =
        let r = x.receiver in
        let li = listens_now number largest window ids birth ns r w.broker x.at.connected in
        let s = li.session in
        let l = x.at.connected.line in
        let name : r.client ≡ client = named_receiver client r w x.named in
        let found : session_named client w.broker.records ≡ Some s = ap (λ (c : List ℕ). session_named c w.broker.records) (sym name) ∙ named_now r l s w.broker li.listening in
        record {
          session = s;
          found = ap (λ (k : ℕ). session_at k w.broker.records) (sym li.birth_is) ∙ li.listening.session;
          left = ap copies_by found;
          many = sym (ap (λ (v : Hop). length (queue_of v.copies)) (sym x.at.seen_is)
              ∙ (ap length (same_entries x.at.copies l.went s.queue (standing_by x.at.copies r l s w.broker x.at.run_is.queue_is li.listening)) ∙ lengths _ s.queue));
        }

    -- as many copies are left in the world as stand in the hop
    pub left_is : (h : Hop) (w : World) → Comes h w → copies_left client w ≡ length (queue_of h.copies)
    left_is h w x =
        let y = holds x.receiver.line.up h w (record { receiver = x.receiver; named = x.may.named; alone = x.may.alone; at = at_of h w x; up = refl }) in
        y.left ∙ y.many

    over_is : (h : Hop) (w : World) → Comes h w → is_over client w ≡ rounds.is_over h
    over_is h w x =
        let c = x.may.connected in
        let standing : line_stands (receiver_named client w) w ≡ true =
        ap (λ (o : Option Receiver). line_stands o w) x.may.named ∙ (ap (λ (o : Option ℕ). stands o w.broker) c.number ∙ ap is_some c.there) in
        let linked = hop_linked number largest window ids birth ns h x.receiver w.broker (at_of h w x) in
        (λ i. is_none_left (left_is h w x i) || not (standing i)) ∙ ap (λ (z : Bool). is_none_left (length (queue_of h.copies)) || not z) (sym linked)

    -- a drain of the world is a drain of the hop
    pub drains_on : (most : ℕ) (h : Hop) (w : World) → Comes h w → Comes (rounds.drained largest window (moments_of limits choice client most w) h) (drained limits choice client most w)
    drains_on zero h w x = x
    drains_on (suc more) h w x = ⊎_elim
        (λ (o : is_over client w ≡ true). let p = sym (over_is h w x) ∙ o in rw (o, p) x)
        (λ (o : is_over client w ≡ false).
        let p = sym (over_is h w x) ∙ o in
        let v = after_round limits choice client w in
        let g = rounds.after_round largest window (moment_of w) h in
        let y = drains_on more g v (rounds_on h w x) in
        rw (o, p) (subst (Comes (rounds.drained largest window (moments_of limits choice client more v) g)) (sym (run_append limits (round_turns limits choice client w) (drain_turns limits choice client more v) w)) y))
        (test_cases (is_over client w))

    -- a drain of the world takes as many rounds as that of the hop
    pub count_is : (most : ℕ) (h : Hop) (w : World) → Comes h w → rounds_taken limits choice client most w ≡ rounds.rounds_taken largest window (moments_of limits choice client most w) h
    count_is zero h w x = refl
    count_is (suc more) h w x = ⊎_elim
        (λ (o : is_over client w ≡ true). let p = sym (over_is h w x) ∙ o in rw (o, p) refl)
        (λ (o : is_over client w ≡ false).
        let p = sym (over_is h w x) ∙ o in
        rw (o, p) (ap suc (count_is more (rounds.after_round largest window (moment_of w) h) (after_round limits choice client w) (rounds_on h w x))))
        (test_cases (is_over client w))

    -- a drain of so many rounds has as many moments
    pub moments_length : (most : ℕ) (w : World) → length (moments_of limits choice client most w) ≡ most
    moments_length zero w = refl
    moments_length (suc more) w = ap suc (moments_length more (after_round limits choice client w))

-- ---- the moment stands

moment_if : (s : Setting) (o : Option Call) (w : World) → moment_of (calls_if s o w) ≡ moment_of w
moment_if s None w = refl
moment_if s (Some call) w =
    ap (λ (k : ℕ). max k (capped w.now)) (step_now s.limits s.choice w.now call w.broker) ∙ moment_again w.broker.now (capped w.now)

moment_unless : (bad : Bool) (w v : World) → moment_of v ≡ moment_of w → moment_of (cond bad w v) ≡ moment_of w
moment_unless true w v e = refl
moment_unless false w v e = e

module _ (limits : Capacity) (choice : MemberChoice) (client : List ℕ) where
  abbrev KeepsMoment : Event → Type 0
  KeepsMoment e = (w : World) → moment_of (turned limits (turn_of choice e) w) ≡ moment_of w

  pump_moment : KeepsMoment (ask (pump client))
  pump_moment w =
      let s : Setting = record { limits = limits; choice = choice } in
      moment_unless (is_bad (ask (pump client)) w) w (happens s (ask (pump client)) w) (moment_if s (call_of s (pump client) w) w)

  read_moment : KeepsMoment (to_end client)
  read_moment w = moment_unless (is_bad (to_end client) w) w (end_reads client w) refl

  back_moment : KeepsMoment (ask (to_broker client))
  back_moment w =
      let s : Setting = record { limits = limits; choice = choice } in
      moment_unless (is_bad (ask (to_broker client)) w) w (happens s (ask (to_broker client)) w) (moment_if s (call_of s (to_broker client) w) (with_line client taken_up taken_up w))

  times_moment : (e : Event) → KeepsMoment e → (k : ℕ) (w : World) → moment_of (run limits (times k (turn_of choice e)) w) ≡ moment_of w
  times_moment e keeps zero w = refl
  times_moment e keeps (suc k) w = times_moment e keeps k (turned limits (turn_of choice e) w) ∙ keeps w

  -- a round leaves the moment as it is
  pub round_moment : (w : World) → moment_of (after_round limits choice client w) ≡ moment_of w
  round_moment w =
      let sent = run limits (turn_of choice (ask (pump client)) ∷ []) w in
      let ends = all_to_end choice client sent in
      let was = run limits ends sent in
      ap moment_of (run_append limits ends (all_to_broker choice client was) sent)
      ∙ (times_moment (ask (to_broker client)) back_moment (ups_by (receiver_named client was)) was
      ∙ (times_moment (to_end client) read_moment (downs_by (receiver_named client sent)) sent ∙ pump_moment w))

  -- so all rounds are at the first one's
  one_moment : (most k : ℕ) (w : World) (f : ℕ → Bool) → rounds.Has f (take k (moments_of limits choice client most w)) → rounds.Has f (moment_of w ∷ [])
  one_moment zero zero w f h = absurd h
  one_moment zero (suc k) w f h = absurd h
  one_moment (suc more) zero w f h = absurd h
  one_moment (suc more) (suc k) w f (inl e) = inl e
  one_moment (suc more) (suc k) w f (inr h) =
      subst (λ (j : ℕ). rounds.Has f (j ∷ [])) (round_moment w) (one_moment more k (after_round limits choice client w) f h)

-- ---- no more copies stand after a pump and after answers

pump_fewer : (largest window now : ℕ) (h : Hop) → Reached largest h → length (queue_of (step largest h (hop.pump window now)).copies) ≤ length (queue_of h.copies)
pump_fewer largest window now h r =
    no_more_stand h.copies (step largest h (hop.pump window now)).copies
    (turns_length (rules.pump (record { window = window; largest = largest; now = now }) (queue_of h.copies)) h) (goes_on largest h r (hop.pump window now ∷ []))

answers_fewer : (largest k : ℕ) (h : Hop) → Reached largest h → length (queue_of (hop.run largest (times k (hop.to_broker false)) h).copies) ≤ length (queue_of h.copies)
answers_fewer largest k h r =
    no_more_stand h.copies (hop.run largest (times k (hop.to_broker false)) h).copies (brokers_length largest k h) (goes_on largest h r (times k (hop.to_broker false)))

-- ---- the first round, if a SUBSCRIBE is under way

-- tables are in order, and copies differ; so many filters were granted, and these messages are retained
record Orderly (limits : Capacity) (ids : List CopyId) (granted : ℕ) (kept : List RetainedMessage) (w : World) : Type 0 where
  pub tidy : IsTidy limits w.broker
  pub told : AreTold ids w.broker
  pub granted_is : w.broker.records.subscribes ≡ granted
  pub kept_is : w.broker.records.retained ≡ kept

orderly_on : (limits : Capacity) (ids : List CopyId) (granted : ℕ) (kept : List RetainedMessage) (w v : World) → IsTidy limits v.broker → HasSame w.broker v.broker → Orderly limits ids granted kept w → Orderly limits ids granted kept v
orderly_on limits ids granted kept w v tidy same o = record {
  tidy = tidy;
  told = record {
    differ = o.told.differ;
    older = subst (λ (j : ℕ). AllByRecursion (IsOlder j) ids) (sym same.subscribes) o.told.older;
    retained = subst (λ (ks : List RetainedMessage). AllDiffer (map (λ (k : RetainedMessage). k.publication) ks)) (sym same.retained) o.told.retained;
  };
  granted_is = same.subscribes ∙ o.granted_is;
  kept_is = same.retained ∙ o.kept_is;
}

-- at most one SUBSCRIBE, for which these retained messages bring nothing that is too large
abbrev Asks : ℕ → List RetainedMessage → List Back → Type 0
Asks largest kept up = AsksOnce up × AllByRecursion (AllBringNoLarger largest kept) up

once_more : (up : List Back) (a : Answer) → AsksOnce up → AsksOnce (up ++ answers a ∷ [])
once_more [] a h = tt
once_more (answers b ∷ up) a h = once_more up a h
once_more (asks_for w ∷ up) a h = each_append IsAnswer up (answers a ∷ []) h (tt, tt)

module _ (limits : Capacity) (choice : MemberChoice) (client : List ℕ) (number : Numbering) (largest window : ℕ) (ids : List CopyId) (birth : ℕ) (ns : List ℕ) (granted : ℕ) (kept : List RetainedMessage) where
  abbrev sends : Turn
  sends = turn_of choice (ask (pump client))

  abbrev reads_back : Turn
  reads_back = turn_of choice (ask (to_broker client))

  pump_orderly : (ups : List Back) (h : Hop) (w : World) → Here number largest window ids birth ns client ups h w → Orderly limits ids granted kept w → Orderly limits ids granted kept (turned limits sends w)
  pump_orderly ups h w x o =
      let n = x.at.connected.line.number in
      let later = calls (record { limits = limits; choice = choice }) (Pump n) w in
      subst (Orderly limits ids granted kept) (sym (pump_is limits choice client w x.receiver n x.named x.alone x.at.connected.number))
      (orderly_on limits ids granted kept w later (step_tidy limits choice w.now (Pump n) w.broker o.tidy) (pump_same number largest window ids birth ns limits choice w.now x.receiver w.broker x.at.connected) o)

  answer_orderly : (a : Answer) (rest : List Back) (h : Hop) (w : World) → Here number largest window ids birth ns client (answers a ∷ rest) h w → Orderly limits ids granted kept w → Orderly limits ids granted kept (turned limits reads_back w)
  answer_orderly a rest h w x o =
      let r = x.receiver in
      let n = x.at.connected.line.number in
      let call = Input n (wire_back r.client r.window r.aliases (answers a)) in
      let later = calls (record { limits = limits; choice = choice }) call (taken_off limits choice client w) in
      subst (Orderly limits ids granted kept) (sym (back_is limits choice client w r n (answers a) rest x.named x.alone x.at.connected.number x.up))
      (orderly_on limits ids granted kept w later (step_tidy limits choice w.now call w.broker o.tidy) (answer_at number largest window ids birth ns limits choice w.now a rest h r w.broker x.at x.up).same o)

  -- what has become of the copies that stood at the start
  module _ (moment : ℕ) (base : List Lot) where
    abbrev Passed : List Lot → Type 0
    Passed lots = (n : ℕ) → EndsOrDrops largest (moment ∷ []) (slice_get base n) (slice_get lots n)

    abbrev Behind : Hop → World → Type 0
    Behind h w = DrainsBehind largest window ids birth ns client (suc granted) (length (queue_of h.copies)) moment base w

    passed_on : (a b c : List Lot) → ((n : ℕ) → EndsOrDrops largest (moment ∷ []) (slice_get a n) (slice_get b n)) → b ≡ c → Passed a → Passed c
    passed_on a b c on same p n =
        subst (λ (ls : List Lot). EndsOrDrops largest (moment ∷ []) (slice_get base n) (slice_get ls n)) same (passes_trans largest (moment ∷ []) (slice_get base n) (slice_get a n) (slice_get b n) (p n) (on n))

    -- the SUBSCRIBE is read, and what is behind it
    wish_read : (u : Wish) (rest : List Back) (h : Hop) (w : World) → Here number largest window ids birth ns client (asks_for u ∷ rest) h w → Orderly limits ids granted kept w → AllByRecursion (BringsNoLarger largest u.identifier) kept → AllByRecursion IsAnswer rest → Passed h.copies
        → Behind h (run limits (times (length rest) reads_back) (turned limits reads_back w))
    wish_read u rest h w x o brings all p =
        let r = x.receiver in
        let n = x.at.connected.line.number in
        let call = Input n (wire_back r.client r.window r.aliases (asks_for u)) in
        let set : Setting = record { limits = limits; choice = choice } in
        let before = taken_off limits choice client w in
        let later = calls set call before in
        let y = wish_at number largest window ids birth ns limits choice w.now u rest r w.broker x.at.connected o.tidy o.told (subst (AllByRecursion (BringsNoLarger largest u.identifier)) (sym o.kept_is) brings) x.up in
        let q = record r { line = taken_up r.line } in
        let found : receiver_named client before ≡ Some q = receiver_changed client (λ (s : Receiver). record s { line = taken_up s.line }) r w.receivers (λ s. refl) x.named in
        let nobody : publisher_named client before ≡ None = none_changed (λ (p : Publisher). bytes_eq p.client client) (λ (p : Publisher). record p { line = taken_up p.line }) w.publishers x.alone in
        let ids2 = ids ++ y.more in
        let number2 = place_of ids2 in
        let numbered = places_number ids2 y.differ in
        let first = renumbered number number2 largest x.at.copies r w.broker (subst (AreNumbered number2) (sym x.at.same) (numbered_front number2 ids y.more numbered)) x.at.run_is in
        let k = y.lots number2 x.at.copies numbered first x.at.same in
        let last = receiver_told later.broker (told limits choice w.now call w.broker) q in
        let hop2 = seen number2 k.after last later.broker in
        let z : Here number2 largest window ids2 birth ns client rest hop2 later = record {
          receiver = last;
          named = receiver_called_is client set call before q found;
          alone = publisher_called_is client set call before nobody;
          at = record { connected = y.connected; copies = k.after; same = k.same; run_is = k.run_is; seen_is = refl };
          up = y.up;
        } in
        let end = hop.run largest (times (length rest) (hop.to_broker false)) hop2 in
        let there = run limits (times (length rest) reads_back) later in
        let c = sees_comes limits choice client number2 largest window ids2 birth ns end there (brokers_from limits choice client number2 largest window ids2 birth ns rest hop2 later z all) in
        let was = holds limits choice client number largest window ids birth ns (asks_for u ∷ rest) h w x in
        let now = holds limits choice client number2 largest window ids2 birth ns rest hop2 later z in
        let grown : length now.session.queue ≤ length was.session.queue + length y.more =
        y.longer (length was.session.queue) (λ s e. subst (λ (v : Session). length v.queue ≤ length was.session.queue) (some_is was.session s (sym was.found ∙ e)) (omega arith)) now.session now.found in
        let at = reached number2 largest window ids2 birth ns hop2 last later.broker z.at in
        let fewer = answers_fewer largest (length rest) hop2 at in
        let left = left_is limits choice client number2 largest window ids2 birth ns end there c in
        let few : copies_left client there ≤ length (queue_of h.copies) + length y.more =
        let a = was.many in let b = now.many in omega (arith, a, b, grown, fewer, left) in
        let start : Passed x.at.copies = subst Passed (sym (ap (λ (v : Hop). v.copies) x.at.seen_is)) p in
        let middle : Passed hop2.copies = passed_on x.at.copies k.after hop2.copies (λ j. passes_way largest (moment ∷ []) (slice_get x.at.copies j) (slice_get k.after j) (k.way j)) refl start in
        let behind : Passed c.copies =
        passed_on hop2.copies end.copies c.copies (λ j. answers_pass largest (moment ∷ []) (length rest) j hop2 at (hop_linked number2 largest window ids2 birth ns hop2 last later.broker z.at))
        (sym (ap (λ (v : Hop). v.copies) c.seen_is)) middle in
        subst (λ (v : World). Behind h (run limits (times (length rest) reads_back) v)) (sym (back_is limits choice client w r n (asks_for u) rest x.named x.alone x.at.connected.number x.up))
        (record {
          drains = record { more = y.more; new = subst (λ (j : ℕ). AllByRecursion (IsBroughtCopy birth (suc j)) y.more) o.granted_is y.new; differ = y.differ; receiver = c.receiver; may = c.may; few = few };
          numbering = number2;
          after = c.copies;
          same = c.same;
          run_is = c.run_is;
          ends = behind;
        })

    all_back : (ups : List Back) (h : Hop) (w : World) → Here number largest window ids birth ns client ups h w → Orderly limits ids granted kept w → Asks largest kept ups → Passed h.copies → Behind h (run limits (times (length ups) reads_back) w)
    all_back [] h w x o once p =
        let c = sees_comes limits choice client number largest window ids birth ns h w x in
        let none : ids ++ [] ≡ ids = append-nil ids in
        let left = left_is limits choice client number largest window ids birth ns h w c in
        let same : c.copies ≡ h.copies = ap (λ (v : Hop). v.copies) c.seen_is in
        record {
          drains = record {
            more = [];
            new = tt;
            differ = subst AllDiffer (sym none) o.told.differ;
            receiver = c.receiver;
            may = subst (λ (all : List CopyId). MayDrain largest window all birth ns client c.receiver w) (sym none) c.may;
            few = omega (arith, left);
          };
          numbering = number;
          after = c.copies;
          same = c.same ∙ sym none;
          run_is = c.run_is;
          ends = subst Passed (sym same) p;
        }
    all_back (asks_for u ∷ rest) h w x o once p = wish_read u rest h w x o once.1.0 once.0 p
    all_back (answers a ∷ rest) h w x o once p =
        let at = reached number largest window ids birth ns h x.receiver w.broker x.at in
        let later = step largest h (hop.to_broker false) in
        let on : Passed later.copies = passed_on h.copies later.copies later.copies (λ j. answers_pass largest (moment ∷ []) 1 j h at (hop_linked number largest window ids birth ns h x.receiver w.broker x.at)) refl p in
        let y = all_back rest later (turned limits reads_back w) (answers_one limits choice client number largest window ids birth ns a rest h w x) (answer_orderly a rest h w x o) (once.0, once.1.1) on in
        let fewer = answers_fewer largest 1 h at in
        let d = y.drains in
        let less = d.few in
        record {
          drains = record { more = d.more; new = d.new; differ = d.differ; receiver = d.receiver; may = d.may; few = omega (arith, fewer, less) };
          numbering = y.numbering;
          after = y.after;
          same = y.same;
          run_is = y.run_is;
          ends = y.ends;
        }

-- with the copies that it sees
pub first_round_of : (number : Numbering) (largest window : ℕ) (ids : List CopyId) (birth : ℕ) (ns : List ℕ) (limits : Capacity) (choice : MemberChoice) (client : List ℕ) (copies : List Lot) (r : Receiver) (w : World)
    → MayAsk limits largest window ids birth ns client r w → map id_of copies ≡ ids → IsRun number largest copies r w.broker
    → DrainsBehind largest window ids birth ns client (suc w.broker.records.subscribes) (copies_left client w) (moment_of w) copies (after_round limits choice client w)
first_round_of number largest window ids birth ns limits choice client copies r w may same run_is =
    let h = seen number copies r w.broker in
    let granted = w.broker.records.subscribes in
    let ups = r.line.up in
    let now = moment_of w in
    let sent = run limits (turn_of choice (ask (pump client)) ∷ []) w in
    let h1 = step largest h (hop.pump window now) in
    let ends = all_to_end choice client sent in
    let was = run limits ends sent in
    let h2 = hop.run largest (rounds.all_to_end h1) h1 in
    let x0 : Here number largest window ids birth ns client ups h w = record {
      receiver = r;
      named = may.named;
      alone = may.alone;
      at = record { connected = may.connected; copies = copies; same = same; run_is = run_is; seen_is = refl };
      up = refl;
    } in
    let kept = w.broker.records.retained in
    let o0 : Orderly limits ids granted kept w = record { tidy = may.tidy; told = may.told; granted_is = refl; kept_is = refl } in
    let x1 = pumps limits choice client number largest window ids birth ns ups h w x0 in
    let o1 = pump_orderly limits choice client number largest window ids birth ns granted kept ups h w x0 o0 in
    let x2 = reads limits choice client number largest window ids birth ns (Asks largest kept)
    (record { none = (tt, tt); more = λ up a q. (once_more up a q.0, each_append (AllBringNoLarger largest kept) up (answers a ∷ []) q.1 (tt, tt)) }) ups h1 sent x1 in
    let unread : was.broker ≡ sent.broker = reads_broker limits choice client number largest window ids birth ns ups h1 sent x1 in
    let o2 : Orderly limits ids granted kept was =
    orderly_on limits ids granted kept sent was (subst (IsTidy limits) (sym unread) o1.tidy) (record { retained = ap (λ (b : Broker). b.records.retained) unread; subscribes = ap (λ (b : Broker). b.records.subscribes) unread }) o1 in
    let first = reached number largest window ids birth ns h r w.broker x0.at in
    let read : h2.copies ≡ h1.copies = ends_copies largest (length h1.down) h1 in
    let passed : (n : ℕ) → EndsOrDrops largest (now ∷ []) (slice_get copies n) (slice_get h2.copies n) =
    λ n. subst (λ (ls : List Lot). EndsOrDrops largest (now ∷ []) (slice_get copies n) (slice_get ls n)) (sym read) (pump_passes largest window now n h first) in
    let y = all_back limits choice client number largest window ids birth ns granted kept now copies x2.ups h2 was x2.sees o2 (x2.answering (may.asking, may.brings)) passed in
    let last : ups_by (receiver_named client was) ≡ length x2.ups = ap ups_by x2.sees.named ∙ ap length x2.sees.up in
    let z : DrainsBehind largest window ids birth ns client (suc granted) (length (queue_of h2.copies)) now copies (run limits (all_to_broker choice client was) was) =
    subst (λ (j : ℕ). DrainsBehind largest window ids birth ns client (suc granted) (length (queue_of h2.copies)) now copies (run limits (times j (turn_of choice (ask (to_broker client)))) was)) (sym last) y in
    let split : after_round limits choice client w ≡ run limits (all_to_broker choice client was) was = run_append limits ends (all_to_broker choice client was) sent in
    let stood = holds limits choice client number largest window ids birth ns ups h w x0 in
    let read_many : length (queue_of h2.copies) ≡ length (queue_of h1.copies) = ap (λ (ls : List Lot). length (queue_of ls)) read in
    let fewer = pump_fewer largest window now h first in
    let d = z.drains in
    let less = d.few in
    let left = stood.left in
    let many = stood.many in
    let few : copies_left client (run limits (all_to_broker choice client was) was) ≤ copies_left client w + length d.more = omega (arith, read_many, fewer, less, left, many) in
    subst (DrainsBehind largest window ids birth ns client (suc granted) (copies_left client w) now copies) (sym split)
    (record {
      drains = record { more = d.more; new = d.new; differ = d.differ; receiver = d.receiver; may = d.may; few = few };
      numbering = z.numbering;
      after = z.after;
      same = z.same;
      run_is = z.run_is;
      ends = z.ends;
    })

-- a round in the world is one of the hop
pub first_round : (largest window : ℕ) (ids : List CopyId) (birth : ℕ) (ns : List ℕ) (limits : Capacity) (choice : MemberChoice) (client : List ℕ) (r : Receiver) (w : World) → MayAsk limits largest window ids birth ns client r w
    → DrainsWith largest window ids birth ns client (suc w.broker.records.subscribes) (copies_left client w) (after_round limits choice client w)
first_round largest window ids birth ns limits choice client r w may =
    let k = may.connected.in_step.runs (place_of ids) (places_number ids may.told.differ) in
    (first_round_of (place_of ids) largest window ids birth ns limits choice client k.after r w may k.same k.run_is).drains

-- ---- the laws

module _ (number : Numbering) (largest window : ℕ) (ids : List CopyId) (birth : ℕ) (ns : List ℕ) (limits : Capacity) (choice : MemberChoice) (client : List ℕ) (copies : List Lot) (r : Receiver) (w : World)
    (may : MayDrain largest window ids birth ns client r w) (same : map id_of copies ≡ ids) (k : IsRun number largest copies r w.broker) where
  -- a round of the drain in the world is a round of the hop
  pub round_is : ComesTo number largest window ids birth ns client (rounds.after_round largest window (moment_of w) (seen number copies r w.broker)) (after_round limits choice client w)
  round_is = rounds_on limits choice client number largest window ids birth ns (seen number copies r w.broker) w (record { receiver = r; may = may; copies = copies; same = same; run_is = k; seen_is = refl })

  abbrev from : Hop
  from = hop.run largest k.events hop.start

  begun : ComesTo number largest window ids birth ns client from w
  begun = record { receiver = r; may = may; copies = copies; same = same; run_is = k; seen_is = k.seen_is }

  -- a drain takes no more than two rounds for each copy that is left
  pub drain_within : (most : ℕ) → 1 ≤ window → rounds_taken limits choice client most w ≤ 2 * copies_left client w
  drain_within most room =
      let moments = moments_of limits choice client most w in
      let count = count_is limits choice client number largest window ids birth ns most from w begun in
      let few = rounds_within largest window moments from (k.events, refl) room in
      let two = two_each from.copies in
      let left = left_is limits choice client number largest window ids birth ns from w begun in
      omega (arith, count, few, two, left)

  -- after two rounds for each copy none is left
  pub drain_empty : (most : ℕ) → 1 ≤ window → 2 * copies_left client w ≤ most → copies_left client (drained limits choice client most w) ≡ 0
  drain_empty most room enough =
      let moments = moments_of limits choice client most w in
      let two = two_each from.copies in
      let left = left_is limits choice client number largest window ids birth ns from w begun in
      let many = moments_length limits choice client number largest window ids birth ns most w in
      let linked = hop_linked number largest window ids birth ns from r w.broker (record { connected = may.connected; copies = copies; same = same; run_is = k; seen_is = k.seen_is }) in
      let last = drain_empties largest window moments from (k.events, refl) room linked (omega (arith, two, left, many, enough)) in
      left_is limits choice client number largest window ids birth ns (rounds.drained largest window moments from) (drained limits choice client most w) (drains_on limits choice client number largest window ids birth ns most from w begun)
      ∙ ap length last.1

  -- after a drain it may be drained still, and each copy that ended in it was taken, had expired by then, or was too large
  pub drain_is : (most : ℕ) → 1 ≤ window → IsDrained number largest window ids birth ns client (moment_of w) copies (drained limits choice client most w)
  drain_is most room =
      let moments = moments_of limits choice client most w in
      let x = drains_on limits choice client number largest window ids birth ns most from w begun in
      let before : from.copies ≡ copies = sym (ap (λ (v : Hop). v.copies) k.seen_is) in
      let last = rounds.drained largest window moments from in
      let rounds_made = rounds.rounds_taken largest window moments from in
      let after : last.copies ≡ x.copies = sym (ap (λ (v : Hop). v.copies) x.seen_is) in
      record {
        receiver = x.receiver;
        may = x.may;
        after = x.copies;
        same = x.same;
        run_is = x.run_is;
        ends = λ n. subst (λ (ls : List Lot). EndsBy largest (moment_of w ∷ []) (slice_get copies n) (slice_get ls n)) after
            (subst (λ (ls : List Lot). EndsBy largest (moment_of w ∷ []) (slice_get ls n) (slice_get last.copies n)) before
            (ends_by_more largest (take rounds_made moments) (moment_of w ∷ []) (slice_get from.copies n) (slice_get last.copies n) (λ f h. one_moment limits choice client most rounds_made w f h) (causes_of_run largest window moments k.events n room)));
      }

-- however the copies are numbered
module _ (largest window : ℕ) (ids : List CopyId) (birth : ℕ) (ns : List ℕ) (limits : Capacity) (choice : MemberChoice) (client : List ℕ) (most : ℕ) (r : Receiver) (w : World) where
  -- a drain of a receiver that may be drained takes no more than two rounds for each copy
  pub drain_is_within : 1 ≤ window → AllDiffer ids → MayDrain largest window ids birth ns client r w → rounds_taken limits choice client most w ≤ 2 * copies_left client w
  drain_is_within room differ may =
      let x = may.connected.in_step.runs (place_of ids) (places_number ids differ) in
      drain_within (place_of ids) largest window ids birth ns limits choice client x.after r w may x.same x.run_is most room

  -- a drain of a receiver that may be drained leaves no copy after two rounds for each
  pub drain_is_empty : 1 ≤ window → AllDiffer ids → MayDrain largest window ids birth ns client r w → 2 * copies_left client w ≤ most → copies_left client (drained limits choice client most w) ≡ 0
  drain_is_empty room differ may enough =
      let x = may.connected.in_step.runs (place_of ids) (places_number ids differ) in
      drain_empty (place_of ids) largest window ids birth ns limits choice client x.after r w may x.same x.run_is most room enough

  -- if it may be drained only after a round
  pub drain_within_later : 1 ≤ window → AllDiffer ids → MayDrain largest window ids birth ns client r (after_round limits choice client w) → rounds_taken limits choice client most w ≤ enough_rounds (copies_left client (after_round limits choice client w))
  drain_within_later room differ may = by most
    where
      x : RunsWithAll (place_of ids) largest ids birth r (after_round limits choice client w).broker
      x = may.connected.in_step.runs (place_of ids) (places_number ids differ)

      by : (k : ℕ) → rounds_taken limits choice client k w ≤ enough_rounds (copies_left client (after_round limits choice client w))
      by zero = omega arith
      by (suc more) = ⊎_elim
          (λ (o : is_over client w ≡ true). rw o (omega arith))
          (λ (o : is_over client w ≡ false).
          let few = drain_within (place_of ids) largest window ids birth ns limits choice client x.after r (after_round limits choice client w) may x.same x.run_is more room in
          rw o (omega (arith, few)))
          (test_cases (is_over client w))

  -- a drain of a receiver that may be drained after a round is over after enough rounds
  pub drain_over_later : 1 ≤ window → AllDiffer ids → MayDrain largest window ids birth ns client r (after_round limits choice client w) → enough_rounds (copies_left client (after_round limits choice client w)) ≤ most
      → is_over client (drained limits choice client most w) ≡ true
  drain_over_later room differ may enough = by most enough
    where
      x : RunsWithAll (place_of ids) largest ids birth r (after_round limits choice client w).broker
      x = may.connected.in_step.runs (place_of ids) (places_number ids differ)

      by : (k : ℕ) → enough_rounds (copies_left client (after_round limits choice client w)) ≤ k → is_over client (drained limits choice client k w) ≡ true
      by zero few = absurd (omega (arith, few))
      by (suc more) few = ⊎_elim
          (λ (o : is_over client w ≡ true). rw o o)
          (λ (o : is_over client w ≡ false).
          let v = after_round limits choice client w in
          let none = drain_empty (place_of ids) largest window ids birth ns limits choice client x.after r v may x.same x.run_is more room (omega (arith, few)) in
          rw o (subst (λ (u : World). is_over client u ≡ true) (sym (run_append limits (round_turns limits choice client w) (drain_turns limits choice client more v) w))
          (ap (λ (j : ℕ). is_none_left j || not (line_stands (receiver_named client (drained limits choice client more v)) (drained limits choice client more v))) none)))
          (test_cases (is_over client w))

-- one round more, if it is not over
pub more_rounds : (limits : Capacity) (choice : MemberChoice) (client : List ℕ) (most : ℕ) (w : World) → is_over client w ≡ false → drained limits choice client (suc most) w ≡ drained limits choice client most (after_round limits choice client w)
more_rounds limits choice client most w o =
    let v = after_round limits choice client w in
    rw o (run_append limits (round_turns limits choice client w) (drain_turns limits choice client most v) w)

-- so many copies stand as of those that it sees
pub left_of : (number : Numbering) (largest window : ℕ) (ids : List CopyId) (birth : ℕ) (ns : List ℕ) (limits : Capacity) (choice : MemberChoice) (client : List ℕ) (copies : List Lot) (r : Receiver) (w : World)
    → MayDrain largest window ids birth ns client r w → map id_of copies ≡ ids → IsRun number largest copies r w.broker → copies_left client w ≡ length (queue_of copies)
left_of number largest window ids birth ns limits choice client copies r w may same run_is =
    left_is limits choice client number largest window ids birth ns (seen number copies r w.broker) w (record { receiver = r; may = may; copies = copies; same = same; run_is = run_is; seen_is = refl })

-- ---- the whole drain, if a SUBSCRIBE is under way

-- a subscription under way does not hinder a drain
pub subscribe_is_drained : (number : Numbering) (largest window : ℕ) (ids : List CopyId) (birth : ℕ) (ns : List ℕ) (limits : Capacity) (choice : MemberChoice) (client : List ℕ) (copies : List Lot) (most : ℕ) (r : Receiver) (w : World)
    → 1 ≤ window → MayAsk limits largest window ids birth ns client r w → map id_of copies ≡ ids → IsRun number largest copies r w.broker → is_over client w ≡ false
    → DrainsBehind largest window ids birth ns client (suc w.broker.records.subscribes) (copies_left client w) (moment_of w) copies (drained limits choice client (suc most) w)
subscribe_is_drained number largest window ids birth ns limits choice client copies most r w room may same run_is o =
    let granted = suc w.broker.records.subscribes in
    let v = after_round limits choice client w in
    let z = drained limits choice client most v in
    let first = first_round_of number largest window ids birth ns limits choice client copies r w may same run_is in
    let d = first.drains in
    let ids2 = ids ++ d.more in
    let y = drain_is first.numbering largest window ids2 birth ns limits choice client first.after d.receiver v d.may first.same first.run_is most room in
    let now : moment_of v ≡ moment_of w = round_moment limits choice client w in
    let left = left_of first.numbering largest window ids2 birth ns limits choice client first.after d.receiver v d.may first.same first.run_is in
    let left_last = left_of first.numbering largest window ids2 birth ns limits choice client y.after y.receiver z y.may y.same y.run_is in
    let long : length y.after ≡ length first.after = sym (length_map id_of y.after) ∙ (ap length (y.same ∙ sym first.same) ∙ length_map id_of first.after) in
    let fewer = no_more_rest first.after y.after long (λ n. ended_rests largest (moment_of v ∷ []) (slice_get first.after n) (slice_get y.after n) (y.ends n)) in
    let less = d.few in
    subst (DrainsBehind largest window ids birth ns client granted (copies_left client w) (moment_of w) copies) (sym (more_rounds limits choice client most w o)) (record {
      drains = record { more = d.more; new = d.new; differ = d.differ; receiver = y.receiver; may = y.may; few = omega (arith, left, left_last, fewer, less) };
      numbering = first.numbering;
      after = y.after;
      same = y.same;
      run_is = y.run_is;
      ends = λ n. passes_trans largest (moment_of w ∷ []) (slice_get copies n) (slice_get first.after n) (slice_get y.after n) (first.ends n)
          (subst (λ (k : ℕ). EndsOrDrops largest (k ∷ []) (slice_get first.after n) (slice_get y.after n)) now (drops_none largest (moment_of v ∷ []) (slice_get first.after n) (slice_get y.after n) (y.ends n)));
    })
