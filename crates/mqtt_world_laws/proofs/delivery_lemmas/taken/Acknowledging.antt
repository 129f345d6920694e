-- A receiver's answer ends a copy as taken only if the receiver has read it: of QoS 1 at least once, of QoS 2 once; by what its hop
-- makes of the answer (MQTT 5.0, 4.3.2, 4.3.3).
use Rattle.std.proofs.Common.{◌≡◌, ℕ, suc, ◌+◌, ◌≤◌, Bool, true, false, cond, List, [], ◌∷◌, ◌++◌, map, Option, Some, None, nat_eq, slice_get, refl, sym, ap, subst, ◌∙◌, append-nil, arith, inl, inr}
use Rattle.std.specs.Prelude.{⊤, Err, Ok, filter_map, option_map}
use Rattle.std.specs.List.{AllByRecursion, cons_option}
use Rattle.std.proofs.lemmas.Bool.{cases_Bool, eqb-true}
use Rattle.std.proofs.lemmas.Cmp.{nat_eq_equiv}
use Rattle.std.proofs.lemmas.Option.{slice_get-map}
use Rattle.mqtt_base.specs.Codes.{protocol_error}
use Rattle.mqtt_base.specs.declared.session.CopyId.{CopyId}
use Rattle.mqtt_base.specs.declared.session.Ending.{Ending}
use Rattle.mqtt_base.specs.declared.session.Ending.TheVariants.{Taken}
use Rattle.mqtt_base.specs.declared.session.Qos.{Qos}
use Rattle.mqtt_base.specs.declared.session.Qos.TheVariants.{AtLeastOnce, AtMostOnce, ExactlyOnce}
use Rattle.mqtt_flow.specs.outbound.Outbound as rules
use Rattle.mqtt_flow.specs.outbound.OutboundCourse.{TakenOnce, TakenRead}
use Rattle.mqtt_flow.specs.outbound.OutboundWorld.{Lot, TopicAndPayload, World as Hop, Event as HopEvent, ended_by, lot_after, lots_after, old_comes, old_to_broker, past, queue_of, replied, replied_old, run, standing, start, step, to_broker, up_comes}
use Rattle.mqtt_flow.specs.outbound.Receiver.{Answer, Handed, HasNoConnect, connect, handed, puback, pubcomp, pubrec}
use Rattle.mqtt_flow.specs.declared.outbound.entry.Entry.{Entry as FlowEntry}
use Rattle.mqtt_flow.specs.declared.outbound.entry.Turn.{Turn}
use Rattle.mqtt_flow.specs.declared.outbound.entry.Turn.TheVariants as turns
use Rattle.mqtt_flow.proofs.outbound_lemmas.outbound.HopLaw.{good_run, read_of, taken_of}
use Rattle.mqtt_records.specs.messages.Queue.{CopyRow}
use Rattle.mqtt_records.specs.state.Session.{copy_place}
use Rattle.mqtt_records.specs.declared.state.session.Session.{Session}
use Rattle.mqtt_records.specs.lists.Order.{row_at}
use Rattle.mqtt_world_model.specs.model.Ends.{Entry, Receiver, answers, wire_back}
use Rattle.mqtt_world_model.specs.model.Laws.{WasTaken, copies_in, count_of, handed_count}
use Rattle.mqtt_world_model.specs.model.Run.{End, ended_in}
use Rattle.mqtt_world_model.proofs.model_lemmas.own.OwnStep.{heard_of, input_is}
use Rattle.mqtt_world_model.proofs.model_lemmas.own.Publishes.{drop_is}
use Rattle.mqtt_rules.proofs.step_lemmas.flight.FlightRows.{all_at, all_more}
use Rattle.mqtt_rules.specs.step.Deeds.{At, Deed, Hear, Leave, On, whose}
use Rattle.mqtt_rules.specs.step.Inbound.{on_answer}
use Rattle.mqtt_rules.specs.step.Outbound.{of_entry, turn_deeds}
use Rattle.mqtt_rules.specs.step.State.{Line as BrokerLine, Broker, Env, MemberChoice, entry_on, queue_on, session_at}
use Rattle.mqtt_rules.specs.step.Step.{Input, deeds, env_of, next_packet}
use Rattle.mqtt_rules.specs.declared.step.Capacity.{Capacity}
use Rattle.mqtt_world_laws.proofs.acceptance_lemmas.copies.Counting.{count_append}
use Rattle.mqtt_world_laws.specs.receiver.Handing.{IsListening, IsRun}
use Rattle.mqtt_world_laws.specs.receiver.Seen.{Numbering, content_of, handed_in, lot_on, number_of, still_standing}
use Rattle.mqtt_world_laws.specs.receiver.Tags.{Names, WasTagged, id_of}
use Rattle.mqtt_world_laws.proofs.receiver_lemmas.queue.Handed.{at_most_once, copy_itself}
use Rattle.mqtt_world_laws.proofs.receiver_lemmas.connects.Refusals.{run_append}
use Rattle.mqtt_world_laws.proofs.receiver_lemmas.queue.Turns.{same_entries}

-- ---- in the hop

-- what the session has for an answer
abbrev pub reply_to : Answer → List FlowEntry → rules.Answer
reply_to (connect clean) es = Ok None
reply_to (puback i code) es = rules.puback i code es
reply_to (pubrec i code) es = rules.pubrec i code es
reply_to (pubcomp i code) es = rules.pubcomp i es

-- of the copy with this number, by its QoS and what was read: of QoS 1 at least once, of QoS 2 once
abbrev Got : Qos → ℕ → List Handed → List Handed → Type 0
Got AtMostOnce n reads ledger = ⊤
Got AtLeastOnce n reads ledger = 1 ≤ handed n reads
Got ExactlyOnce n reads ledger = handed n ledger ≡ 1

-- the lot at this number, once a turn ends it
ended_at : (place n : ℕ) (e : FlowEntry) (m : TopicAndPayload) (lots : List Lot) → slice_get lots n ≡ Some (standing e m) → e.place ≡ place
    → slice_get (lots_after (turns.Leave place Taken) lots) n ≡ Some (past Taken e m)
ended_at place n e m lots at is =
    let here : nat_eq e.place place ≡ true = ap (nat_eq e.place) (sym is) ∙ nat_eq_equiv.refl e.place in
    slice_get-map (lot_after (turns.Leave place Taken)) lots n ∙ (ap (option_map (lot_after (turns.Leave place Taken))) at ∙ ap (λ (t : Bool). Some (ended_by t Taken e m)) here)

-- what the broker makes of it, on the line and on the one that was given up
up_is : (a : Answer) (rest : List Answer) (place : ℕ) (v : Hop) → HasNoConnect (a ∷ []) → reply_to a (queue_of v.copies) ≡ Ok (Some (turns.Leave place Taken))
    → up_comes false (a ∷ rest) v ≡ record v { up = rest; copies = lots_after (turns.Leave place Taken) v.copies }
up_is (connect clean) rest place v none takes = absurd none
up_is (puback i code) rest place v none takes = ap (λ (z : rules.Answer). replied z rest v) takes
up_is (pubrec i code) rest place v none takes = ap (λ (z : rules.Answer). replied z rest v) takes
up_is (pubcomp i code) rest place v none takes = ap (λ (z : rules.Answer). replied z rest v) takes

old_is : (a : Answer) (rest : List Answer) (place : ℕ) (v : Hop) → HasNoConnect (a ∷ []) → reply_to a (queue_of v.copies) ≡ Ok (Some (turns.Leave place Taken))
    → old_comes false (a ∷ rest) v ≡ record v { old = rest; copies = lots_after (turns.Leave place Taken) v.copies }
old_is (connect clean) rest place v none takes = absurd none
old_is (puback i code) rest place v none takes = ap (λ (z : rules.Answer). replied_old z rest v) takes
old_is (pubrec i code) rest place v none takes = ap (λ (z : rules.Answer). replied_old z rest v) takes
old_is (pubcomp i code) rest place v none takes = ap (λ (z : rules.Answer). replied_old z rest v) takes

abbrev AreGot : Hop → Type 0
AreGot w = TakenRead w × TakenOnce w

got_by : (w : Hop) (n : ℕ) (e : FlowEntry) (m : TopicAndPayload) (q : Qos) → AreGot w → slice_get w.copies n ≡ Some (past Taken e m) → e.copy.qos ≡ q → Got q n w.reads w.ledger
got_by w n e m AtMostOnce h at is = tt
got_by w n e m AtLeastOnce h at is = h.0 n e m at is
got_by w n e m ExactlyOnce h at is = h.1 n e m at is

module _ (largest : ℕ) (events : List HopEvent) (v : Hop) (v_is : v ≡ run largest events start) where
  -- what holds after one event more
  next_got : (x : HopEvent) → AreGot (step largest v x)
  next_got x =
      let good = good_run largest (events ++ x ∷ []) in
      let w = run largest (events ++ x ∷ []) start in
      subst AreGot (run_append largest events (x ∷ []) start ∙ ap (λ (z : Hop). step largest z x) (sym v_is)) (read_of w good, taken_of w good)

  module _ (a : Answer) (place n : ℕ) (rest : List Answer) (e : FlowEntry) (m : TopicAndPayload) (none : HasNoConnect (a ∷ [])) (takes : reply_to a (queue_of v.copies) ≡ Ok (Some (turns.Leave place Taken)))
      (at : slice_get v.copies n ≡ Some (standing e m)) (is : e.place ≡ place) where
    -- a copy that an answer on the hop's line ends as taken had been read, of QoS 2 once
    pub got_up : v.up ≡ a ∷ rest → Got e.copy.qos n v.reads v.ledger
    got_up up =
        let next = record v { up = rest; copies = lots_after (turns.Leave place Taken) v.copies } in
        let after_is : step largest v (to_broker false) ≡ next = ap (λ (xs : List Answer). up_comes false xs v) up ∙ up_is a rest place v none takes in
        got_by next n e m e.copy.qos (subst AreGot after_is (next_got (to_broker false))) (ended_at place n e m v.copies at is) refl

    -- a copy that an answer on the line given up ends as taken had been read, of QoS 2 once
    pub got_old : v.old ≡ a ∷ rest → Got e.copy.qos n v.reads v.ledger
    got_old old =
        let next = record v { old = rest; copies = lots_after (turns.Leave place Taken) v.copies } in
        let after_is : step largest v (old_to_broker false) ≡ next = ap (λ (xs : List Answer). old_comes false xs v) old ∙ old_is a rest place v none takes in
        got_by next n e m e.copy.qos (subst AreGot after_is (next_got (old_to_broker false))) (ended_at place n e m v.copies at is) refl

-- ---- what was read of a number was read of its copy

one_read : (number : Numbering) (ids : List CopyId) (n : ℕ) (c : CopyId) (o : Option CopyId) (rest : List CopyId) (k : ℕ) → slice_get ids n ≡ Some c → Names number ids o → (1 ≤ k → 1 ≤ count_of c rest)
    → 1 ≤ cond (nat_eq n (number_of number o)) 1 0 + k → 1 ≤ count_of c (cons_option o rest)
one_read number ids n c None rest k at its more h = absurd its
one_read number ids n c (Some d) rest k at its more h =
    let all : count_of c (d ∷ rest) ≡ count_of c (d ∷ []) + count_of c rest = count_append c (d ∷ []) rest in
    elim (cases_Bool (nat_eq n (number d))) [
      | inl here ↦
          let both : Some c ≡ Some d = sym at ∙ (ap (slice_get ids) (eqb-true n (number d) here) ∙ its) in
          let same : c ≡ d = cc in
          let one : count_of c (d ∷ []) ≡ 1 = subst (λ (z : CopyId). count_of c (z ∷ []) ≡ 1) same (rw (copy_itself c) refl) in
          omega (arith, all, one)
      | inr other ↦ let less : 1 ≤ 0 + k = rw other at h in let rest_read = more (omega (arith, less)) in omega (arith, all, rest_read)
    ]

seen_read : (number : Numbering) (ids : List CopyId) (n : ℕ) (c : CopyId) (es : List Entry) → slice_get ids n ≡ Some c → AllByRecursion (WasTagged number ids) es → 1 ≤ handed n (map (handed_in number) es) → 1 ≤ count_of c (copies_in es)
seen_read number ids n c [] at tagged h = absurd (omega (arith, h))
seen_read number ids n c (e ∷ es) at tagged h = one_read number ids n c e.copy (copies_in es) (handed n (map (handed_in number) es)) at tagged.0 (λ more. seen_read number ids n c es at tagged.1 more) h

-- so with a count of each QoS
taken_seen : (number : Numbering) (ids : List CopyId) (n : ℕ) (c : CopyId) (r : Receiver) (q : Qos) → slice_get ids n ≡ Some c → AllByRecursion (WasTagged number ids) r.once → AllByRecursion (WasTagged number ids) r.ledger → handed_count c r ≤ 1
    → Got q n (map (handed_in number) r.once) (map (handed_in number) r.ledger) → WasTaken q c r
taken_seen number ids n c r AtMostOnce at once ledger most h = tt
taken_seen number ids n c r AtLeastOnce at once ledger most h = seen_read number ids n c r.once at once h
taken_seen number ids n c r ExactlyOnce at once ledger most h =
    let some : 1 ≤ handed n (map (handed_in number) r.ledger) = omega (arith, h) in
    let least = seen_read number ids n c r.ledger at ledger some in
    omega (arith, least, most)

-- ---- each row of the queue has its lot

record HasLot (lots : List Lot) (went : List ℕ) (row : CopyRow) : Type 0 where
  place : ℕ
  found : slice_get lots place ≡ Some (lot_on went row)

lots_placed : (lots : List Lot) → AllByRecursion (λ (l : Lot). (n : ℕ) × (slice_get lots n ≡ Some l)) (still_standing lots)
lots_placed [] = tt
lots_placed (standing e m ∷ lots) =
    ((0, refl), all_more (λ (l : Lot). (n : ℕ) × (slice_get lots n ≡ Some l)) (λ (l : Lot). (n : ℕ) × (slice_get (standing e m ∷ lots) n ≡ Some l)) (still_standing lots) (λ l h. (suc h.0, h.1)) (lots_placed lots))
lots_placed (past ending e m ∷ lots) =
    all_more (λ (l : Lot). (n : ℕ) × (slice_get lots n ≡ Some l)) (λ (l : Lot). (n : ℕ) × (slice_get (past ending e m ∷ lots) n ≡ Some l)) (still_standing lots) (λ l h. (suc h.0, h.1)) (lots_placed lots)

rows_placed : (lots : List Lot) (went : List ℕ) (queue : List CopyRow) → AllByRecursion (λ (l : Lot). (n : ℕ) × (slice_get lots n ≡ Some l)) (map (lot_on went) queue) → AllByRecursion (HasLot lots went) queue
rows_placed lots went [] h = tt
rows_placed lots went (row ∷ queue) h = (record { place = h.0.0; found = h.0.1 }, rows_placed lots went queue h.1)

at_its_place : (k : ℕ) (row : CopyRow) (queue : List CopyRow) → row_at copy_place k queue ≡ Some row → row.place ≡ k
at_its_place k row [] e = absurd cc
at_its_place k row (x ∷ queue) e = elim (cases_Bool (nat_eq x.place k)) [
  | inl here ↦ let it : Some x ≡ Some row = rw here at e in let is : x ≡ row = cc in ap (λ (z : CopyRow). z.place) (sym is) ∙ eqb-true x.place k here
  | inr further ↦ at_its_place k row queue (rw further at e)
]

-- ---- the deeds of the answer

-- a copy that ends as taken was handed over
abbrev pub WasGot : Receiver → End → Type 0
WasGot r x = x.by ≡ Taken → WasTaken x.qos x.copy r

answer_is : (a : Answer) (env : Env) (l : BrokerLine) (s : Session) (c : Broker) (client : List ℕ) (window aliases : ℕ) → HasNoConnect (a ∷ [])
    → next_packet env l (wire_back client window aliases (answers a)) s c ≡ on_answer (reply_to a (queue_on l.went s)) env l s c
answer_is (connect clean) env l s c client window aliases none = absurd none
answer_is (puback i code) env l s c client window aliases none = refl
answer_is (pubrec i code) env l s c client window aliases none = refl
answer_is (pubcomp i code) env l s c client window aliases none = refl

-- q has the line that it was read of as its own, or it is the receiver
module _ (number : Numbering) (largest : ℕ) (copies : List Lot) (limits : Capacity) (choice : MemberChoice) (now : ℕ) (a : Answer) (r q : Receiver) (l : BrokerLine) (s : Session) (b : Broker) (h : IsRun number largest copies r b)
    (on : IsListening q l s b) (stand : still_standing copies ≡ map (lot_on l.went) s.queue) (none : HasNoConnect (a ∷ []))
    (reads : (place n : ℕ) (e : FlowEntry) (m : TopicAndPayload) → reply_to a (queue_of copies) ≡ Ok (Some (turns.Leave place Taken)) → slice_get copies n ≡ Some (standing e m) → e.place ≡ place
    → Got e.copy.qos n (map (handed_in number) r.once) (map (handed_in number) r.ledger)) where
  abbrev x : rules.Answer
  x = reply_to a (queue_on l.went s)

  same_queue : queue_of copies ≡ queue_on l.went s
  same_queue = same_entries copies l.went s.queue stand

  row_got : (place : ℕ) (row : CopyRow) → x ≡ Ok (Some (turns.Leave place Taken)) → row_at copy_place place s.queue ≡ Some row → WasTaken row.copy.qos row.copy.id r
  row_got place row takes at =
      let lot : HasLot copies l.went row = all_at copy_place (HasLot copies l.went) place row s.queue (rows_placed copies l.went s.queue (subst (λ (ls : List Lot). AllByRecursion (λ (z : Lot). (n : ℕ) × (slice_get copies n ≡ Some z)) ls) stand (lots_placed copies))) at in
      let got = reads place lot.place (entry_on l.went row) (content_of row.copy) (ap (reply_to a) same_queue ∙ takes) lot.found (at_its_place place row s.queue at) in
      let there : slice_get (map id_of copies) lot.place ≡ Some row.copy.id = slice_get-map id_of copies lot.place ∙ ap (option_map id_of) lot.found in
      taken_seen number (map id_of copies) lot.place row.copy.id r row.copy.qos there h.tagged.once h.tagged.ledger (at_most_once number largest copies r b h row.copy.id) got

  abbrev pub ends_got : List Deed → Type 0
  ends_got ds = AllByRecursion (WasGot r) (filter_map ended_in ds)

  left_got : (place : ℕ) (ending : Ending) (o : Option CopyRow) → row_at copy_place place s.queue ≡ o → x ≡ Ok (Some (turns.Leave place ending)) → ends_got (of_entry o (λ (e : CopyRow). At (whose s) (Leave e ending) ∷ []))
  left_got place ending None at takes = tt
  left_got place ending (Some row) at takes =
      ((λ taken. row_got place row (takes ∙ ap (λ (z : Ending). Ok (Some (turns.Leave place z))) taken) at), tt)

  none_ends : (o : Option CopyRow) (f : CopyRow → List Deed) → ((e : CopyRow) → filter_map ended_in (f e) ≡ []) → filter_map ended_in (of_entry o f) ≡ []
  none_ends None f k = refl
  none_ends (Some e) f k = k e

  turn_got : (moment : ℕ) (t : Turn) → x ≡ Ok (Some t) → ends_got (turn_deeds moment l.number s t)
  turn_got moment (turns.Send place id) takes = subst (AllByRecursion (WasGot r)) (sym (none_ends (row_at copy_place place s.queue) _ (λ e. refl))) tt
  turn_got moment (turns.Resend place id) takes = subst (AllByRecursion (WasGot r)) (sym (none_ends (row_at copy_place place s.queue) _ (λ e. refl))) tt
  turn_got moment (turns.Release place id order) takes = tt
  turn_got moment (turns.Outgrow place id order) takes = tt
  turn_got moment (turns.Repeat id) takes = tt
  turn_got moment (turns.Unknown id) takes = tt
  turn_got moment (turns.Leave place ending) takes = left_got place ending (row_at copy_place place s.queue) refl takes

  answer_got : (env : Env) (c : Broker) (z : rules.Answer) → x ≡ z → session_at s.birth c.records ≡ Some s → ends_got (on_answer z env l s c)
  answer_got env c (Ok None) e at = tt
  answer_got env c (Ok (Some t)) e at = turn_got c.now t e
  answer_got env c (Err fault) e at = subst ends_got (sym (drop_is env protocol_error l s c at on.connected on.no_will on.no_end)) tt

  -- a copy that ends as taken by a receiver's answer had been read by the receiver
  pub answered_got : ends_got (deeds limits choice now (Input l.number (wire_back q.client q.window q.aliases (answers a))) b)
  answered_got =
      let env = env_of limits choice b in
      let c = heard_of now l.number b in
      let packet = wire_back q.client q.window q.aliases (answers a) in
      let next = on_answer x env l s c in
      let is : deeds limits choice now (Input l.number packet) b ≡ On l.number Hear ∷ next =
      input_is limits choice now packet l s b on.line on.connected on.session ∙ (ap (λ (ds : List Deed). On l.number Hear ∷ (ds ++ [])) (answer_is a env l s c q.client q.window q.aliases none) ∙ ap (λ (ds : List Deed). On l.number Hear ∷ ds) (append-nil next)) in
      subst ends_got (sym is) (answer_got env c x refl on.session)
