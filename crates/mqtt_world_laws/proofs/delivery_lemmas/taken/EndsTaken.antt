-- A copy of a receiver ends as taken by the receiver's own answer alone, and so only if it was handed over: in each event (MQTT 5.0,
-- 4.3.2, 4.3.3, 4.4).
use Rattle.std.proofs.Common.{◌≡◌, ◌⊎◌, ℕ, zero, suc, Bool, true, false, cond, List, [], ◌∷◌, ◌++◌, find, map, Option, Some, None, bytes_eq, nat_eq, refl, sym, ap, subst, ◌∙◌, inl, inr}
use Rattle.std.specs.Prelude.{⊤, Err, Ok, filter_map, is_some}
use Rattle.std.specs.List.{AllByRecursion}
use Rattle.std.proofs.lemmas.Bool.{cases_Bool, eqb-true}
use Rattle.std.proofs.lemmas.List.Elements.{filter_map-append}
use Rattle.std.proofs.lemmas.Slice.Eq.{bytes_eq-Decides}
use Rattle.mqtt_base.specs.Codes.{protocol_error}
use Rattle.mqtt_base.specs.declared.session.CopyId.{CopyId}
use Rattle.mqtt_base.specs.declared.session.Ending.{Ending}
use Rattle.mqtt_base.specs.declared.session.Ending.TheVariants.{Dropped, Expired, Refused, SessionEnded, Taken, TooLarge}
use Rattle.mqtt_packet.specs.declared.codec.packet.Packet.{Packet}
use Rattle.mqtt_packet.specs.declared.codec.packet.Packet.TheVariants as packets
use Rattle.mqtt_flow.specs.outbound.Outbound as rules
use Rattle.mqtt_flow.specs.outbound.Receiver.{connect, puback, pubcomp, pubrec}
use Rattle.mqtt_flow.specs.declared.outbound.entry.Turn.{Turn}
use Rattle.mqtt_flow.specs.declared.outbound.entry.Turn.TheVariants as turns
use Rattle.mqtt_records.specs.messages.Queue.{CopyRow}
use Rattle.mqtt_records.specs.state.Session.{birth_of, copy_place}
use Rattle.mqtt_records.specs.declared.state.session.Session.{Session}
use Rattle.mqtt_records.specs.lists.Order.{row_at}
use Rattle.mqtt_packet.specs.stream.Front.{first_of}
use Rattle.mqtt_world_model.specs.model.Ends.{Back, Publisher, Receiver, answers, asks_for, wire_back}
use Rattle.mqtt_world_laws.specs.receiver.Served.{IsOwnLine}
use Rattle.mqtt_world_model.specs.model.Hops.{IsOurs}
use Rattle.mqtt_world_model.specs.model.Lines.{is_one_of}
use Rattle.mqtt_world_model.specs.model.Run.{End, ended_in, read_asked, read_at, read_first, read_if, read_in, read_opening, read_rest, the_deeds}
use Rattle.mqtt_world_model.specs.model.Seats.{IsHis}
use Rattle.mqtt_world_model.specs.model.World.{Asking, Event, Setting, View, World, ask, before, break, bytes_held, bytes_name, call_of, call_of_stranger, calls_if, clock, comes, connect_end, first_step, front_names, give_up, held_after, held_count, input_on, is_bad, is_bad_asking, lost_on, next_held, old_to_broker, publish, publisher, pump, pump_on, receiver, receiver_named, restart, stop_after, stop_before, stranger, stranger_named, subscribe, tick, to_broker, to_end, view_by, view_of}
use Rattle.mqtt_world_model.proofs.model_lemmas.others.Lists.{all_find}
use Rattle.mqtt_rules.proofs.step_lemmas.numbers.Copies.{each_append, each_more}
use Rattle.mqtt_rules.proofs.step_lemmas.flight.FlightRows.{all_at, found_key}
use Rattle.mqtt_rules.proofs.step_lemmas.acts.Leads.{row_among}
use Rattle.mqtt_rules.specs.step.Deeds.{At, Deed, Hear, Leave, On, after, always, series, with_line, with_session}
use Rattle.mqtt_rules.specs.step.Inbound.{on_answer}
use Rattle.mqtt_rules.specs.step.Laws.{IsAmong}
use Rattle.mqtt_rules.specs.step.Outbound.{of_entry, turn_deeds}
use Rattle.mqtt_rules.specs.step.State.{Broker, Env, Line, MemberChoice, line_at, session_at, session_named}
use Rattle.mqtt_rules.specs.step.Step.{BadInput, Call, Input, Lost, NewLine, Pump, Tick, at_moment, deeds, deeds_of, env_of, first_packet, next_packet, on_packet, opening, unopened}
use Rattle.mqtt_rules.specs.declared.step.Capacity.{Capacity}
use Rattle.mqtt_world_laws.specs.acceptance.Spending.{spending}
use Rattle.mqtt_world_laws.proofs.acceptance_lemmas.publishers.Ends.{named_receiver, either}
use Rattle.mqtt_world_laws.specs.delivery.Standing.{GoesAlong, IsPlaced, IsSeen, Stands}
use Rattle.mqtt_world_laws.specs.receiver.Connecting.{any_size}
use Rattle.mqtt_world_laws.proofs.delivery_lemmas.taken.Acknowledged.{answer_taken, answer_taken_there}
use Rattle.mqtt_world_laws.proofs.delivery_lemmas.taken.Acknowledging.{WasGot}
use Rattle.mqtt_world_laws.proofs.delivery_lemmas.others.Around.{whose_name}
use Rattle.mqtt_world_laws.proofs.delivery_lemmas.others.Asking.{foreign, input_outside}
use Rattle.mqtt_world_laws.proofs.delivery_lemmas.others.Outside.{IsOutside, if_stands, if_there, unlisted}
use Rattle.mqtt_world_laws.proofs.delivery_lemmas.taken.Plain.{IsNoAnswer, IsOtherEnd, IsUntaken, untaken_deeds, untaken_drop, untaken_first, untaken_of, untaken_opening}
use Rattle.mqtt_world_laws.proofs.acceptance_lemmas.publishers.StrangerBytes.{good_then, held_next, same_cost}
use Rattle.mqtt_world_laws.proofs.delivery_lemmas.others.Strangers.{first_outside, comes_stands, comes_there, held_stands, next_outside}

-- ---- lists of ends

abbrev ends_in : List Deed → List End
ends_in ds = filter_map ended_in ds

module _ (P : End → Type 0) where
  -- what holds of the ends of deeds, and of others behind them, holds of all
  pub ends_append : (xs ys : List Deed) → AllByRecursion P (ends_in xs) → AllByRecursion P (ends_in ys) → AllByRecursion P (ends_in (xs ++ ys))
  ends_append xs ys p q = subst (AllByRecursion P) (sym (filter_map-append ended_in xs ys)) (each_append P (ends_in xs) (ends_in ys) p q)

  ends_entry : (o : Option CopyRow) (f : CopyRow → List Deed) → ((e : CopyRow) → AllByRecursion P (ends_in (f e))) → AllByRecursion P (ends_in (of_entry o f))
  ends_entry None f h = tt
  ends_entry (Some e) f h = h e

-- ---- of one client

module _ (c : List ℕ) where
  -- no copy of the client that ends as taken
  abbrev IsNone : End → Type 0
  IsNone x = x.client ≡ c → x.by ≡ Taken → ⊥

  abbrev AreNone : List Deed → Type 0
  AreNone ds = AllByRecursion IsNone (ends_in ds)

  -- or one that was handed over
  abbrev pub IsGot : Receiver → End → Type 0
  IsGot r x = x.client ≡ c → WasGot r x

  abbrev pub AreGot : Receiver → List Deed → Type 0
  AreGot r ds = AllByRecursion (IsGot r) (filter_map ended_in ds)

  none_got : (r : Receiver) (ds : List Deed) → AreNone ds → AreGot r ds
  none_got r ds h = each_more IsNone (IsGot r) (λ x none its taken. absurd (none its taken)) (ends_in ds) h

  not_taken : (ending : Ending) → IsOtherEnd ending → ending ≡ Taken → ⊥
  not_taken Taken h is = absurd h
  not_taken Refused h is = absurd cc
  not_taken Expired h is = absurd cc
  not_taken TooLarge h is = absurd cc
  not_taken SessionEnded h is = absurd cc
  not_taken Dropped h is = absurd cc

  none_untaken : (ds : List Deed) → AllByRecursion IsUntaken ds → AreNone ds
  none_untaken [] h = tt
  none_untaken (At who (Leave e ending) ∷ ds) h = ((λ its is. not_taken ending h.0 is), none_untaken ds h.1)
  none_untaken (d ∷ ds) h = none_untaken ds h.1

  -- ---- an answer of another session

  turn_others : (now line : ℕ) (s : Session) (t : Turn) → (s.client ≡ c → ⊥) → AreNone (turn_deeds now line s t)
  turn_others now line s (turns.Send place id) other = ends_entry IsNone (row_at copy_place place s.queue) _ (λ e. tt)
  turn_others now line s (turns.Resend place id) other = ends_entry IsNone (row_at copy_place place s.queue) _ (λ e. tt)
  turn_others now line s (turns.Release place id order) other = tt
  turn_others now line s (turns.Outgrow place id order) other = tt
  turn_others now line s (turns.Repeat id) other = tt
  turn_others now line s (turns.Unknown id) other = tt
  turn_others now line s (turns.Leave place ending) other = ends_entry IsNone (row_at copy_place place s.queue) _ (λ e. ((λ its is. other its), tt))

  answer_others : (a : rules.Answer) (env : Env) (l : Line) (s : Session) (b : Broker) → (s.client ≡ c → ⊥) → AreNone (on_answer a env l s b)
  answer_others (Ok None) env l s b other = tt
  answer_others (Ok (Some t)) env l s b other = turn_others b.now l.number s t other
  answer_others (Err fault) env l s b other = none_untaken (on_answer (Err fault) env l s b) (untaken_drop env protocol_error l b)

  -- no session of the client is connected on the line of this number
  abbrev IsOthersLine : ℕ → Broker → Type 0
  IsOthersLine n b = (l : Line) (birth : ℕ) (s : Session) → line_at n b ≡ Some l → l.session ≡ Some birth → session_at birth b.records ≡ Some s → s.client ≡ c → ⊥

  read_others : (env : Env) (n : ℕ) (packet : Packet) (b : Broker) → IsOthersLine n b → ((l : Line) (s : Session) (d : Broker) → (s.client ≡ c → ⊥) → AreNone (next_packet env l packet s d)) → AreNone (deeds_of env (Input n packet) b)
  read_others env n packet b apart next = by (line_at n b) refl
    where
      d : Broker
      d = after (On n Hear) b

      to_session : (l : Line) (birth : ℕ) (o : Option Session) → line_at n b ≡ Some l → l.session ≡ Some birth → session_at birth b.records ≡ o → AreNone (with_session o (next_packet env l packet) d)
      to_session l birth None at on there = tt
      to_session l birth (Some s) at on there = next l s d (apart l birth s at on there)

      on_its : (l : Line) (o : Option ℕ) → line_at n b ≡ Some l → l.session ≡ o → AreNone (on_packet env l packet o d)
      on_its l None at on = none_untaken (first_packet env l packet d) (untaken_first env l packet d)
      on_its l (Some birth) at on = to_session l birth (session_at birth b.records) at on refl

      by : (o : Option Line) → line_at n b ≡ o → AreNone (with_line o (λ l. series (always (On n Hear ∷ []) ∷ on_packet env l packet l.session ∷ [])) b)
      by None at = tt
      by (Some l) at = ends_append IsNone (on_packet env l packet l.session d) [] (on_its l l.session at refl) tt

  input_others : (env : Env) (n : ℕ) (packet : Packet) (b : Broker) → IsOthersLine n b → AreNone (deeds_of env (Input n packet) b)
  input_others env n (packets.Puback a) b apart = read_others env n (packets.Puback a) b apart (λ l s d other. answer_others _ env l s d other)
  input_others env n (packets.Pubrec a) b apart = read_others env n (packets.Pubrec a) b apart (λ l s d other. answer_others _ env l s d other)
  input_others env n (packets.Pubcomp a) b apart = read_others env n (packets.Pubcomp a) b apart (λ l s d other. answer_others _ env l s d other)
  input_others env n packet b apart = none_untaken (deeds_of env (Input n packet) b) (untaken_of env (Input n packet) b tt)

  -- ---- calls: no answer of the client's is read

  abbrev IsFree : Call → Broker → Type 0
  IsFree (Input n packet) b = IsOthersLine n b ⊎ IsNoAnswer packet
  IsFree call b = ⊤

  call_none : (limits : Capacity) (choice : MemberChoice) (now : ℕ) (call : Call) (b : Broker) → IsFree call b → AreNone (deeds limits choice now call b)
  call_none limits choice now (Input n packet) b h = elim h [
    | inl apart ↦ input_others (env_of limits choice b) n packet (at_moment now b) (λ l birth s at on there. apart l birth s at on there)
    | inr none ↦ none_untaken (deeds limits choice now (Input n packet) b) (untaken_deeds limits choice now (Input n packet) b none)
  ]
  call_none limits choice now NewLine b h = none_untaken (deeds limits choice now NewLine b) (untaken_deeds limits choice now NewLine b tt)
  call_none limits choice now (BadInput n is_connect code) b h = none_untaken (deeds limits choice now (BadInput n is_connect code) b) (untaken_deeds limits choice now (BadInput n is_connect code) b tt)
  call_none limits choice now (Lost n) b h = none_untaken (deeds limits choice now (Lost n) b) (untaken_deeds limits choice now (Lost n) b tt)
  call_none limits choice now (Pump n) b h = none_untaken (deeds limits choice now (Pump n) b) (untaken_deeds limits choice now (Pump n) b tt)
  call_none limits choice now Tick b h = none_untaken (deeds limits choice now Tick b) (untaken_deeds limits choice now Tick b tt)

  if_none : (set : Setting) (o : Option Call) (w : World) → ((x : Call) → o ≡ Some x → IsFree x w.broker) → AreNone (read_if the_deeds set o w)
  if_none set None w h = tt
  if_none set (Some call) w h = call_none set.limits set.choice w.now call w.broker (h call refl)

  opening_none : (set : Setting) (w : World) → AreNone (read_opening the_deeds set w)
  opening_none set w =
      let b = unopened w.now w.broker.records in
      none_untaken (opening (env_of set.limits set.choice b) b) (untaken_opening (env_of set.limits set.choice b) b)

  -- ---- lines that are not the receiver's

  nobody_named : (s : Session) (ss : List Session) → IsAmong s ss → s.client ≡ c → find (λ (x : Session). bytes_eq x.client c) ss ≡ None → ⊥
  nobody_named s [] among its none = among
  nobody_named s (x ∷ xs) among its none = elim (cases_Bool (bytes_eq x.client c)) [
    | inl here ↦ let clash : Some x ≡ None = rw here at none in absurd cc
    | inr other ↦ elim among [
      | inl is ↦
          let same : bytes_eq x.client c ≡ true = (bytes_eq-Decides x.client c).1 (ap (λ (z : Session). z.client) is ∙ its) in
          let clash : true ≡ false = sym same ∙ other in
          absurd cc
      | inr more ↦ nobody_named s xs more its (rw other at none)
    ]
  ]

  others_line : (largest : ℕ) (ids : List CopyId) (ns : List ℕ) (r : Receiver) (b : Broker) (n : ℕ) → IsPlaced largest ids ns r b → r.client ≡ c → is_one_of (Some n) ns ≡ false → IsOthersLine n b
  others_line largest ids ns r b n placed name out l birth s at on there its = by placed.birth placed.along placed.seat.his
    where
      by : (o : Option ℕ) → GoesAlong o largest ids ns r b → IsHis r.client o placed.line b → ⊥
      by None along his = nobody_named s b.records.sessions (row_among birth_of birth s b.records.sessions there) its (subst (λ (x : List ℕ). session_named x b.records ≡ None) name his)
      by (Some own) along his =
          let mine = all_at birth_of (IsOurs r.client own) birth s b.records.sessions along.served.sessions there in
          let same : s.birth ≡ own = mine.named (its ∙ sym name) in
          let line = all_find (IsOwnLine ns own) (λ (x : Line). nat_eq x.number n) l b.lines along.served.lines at in
          let inside = line.0.alone (on ∙ ap Some (sym (found_key birth_of birth s b.records.sessions there) ∙ same)) in
          let clash : true ≡ false = sym inside ∙ (ap (λ (k : ℕ). is_one_of (Some k) ns) (eqb-true l.number n line.1) ∙ out) in
          absurd cc

  -- ---- in the world, if the receiver has come

  module _ (set : Setting) (r : Receiver) where
    -- a call on none of its lines
    free_outside : (ids : List CopyId) (ns : List ℕ) (q : Receiver) (b : Broker) (call : Call) → IsPlaced any_size ids ns q b → q.client ≡ c → IsOutside c ns call → IsFree call b
    free_outside ids ns q b (Input n packet) placed name out = inl (others_line any_size ids ns q b n placed name (unlisted n ns out.0))
    free_outside ids ns q b NewLine placed name out = tt
    free_outside ids ns q b (BadInput n is_connect code) placed name out = tt
    free_outside ids ns q b (Lost n) placed name out = tt
    free_outside ids ns q b (Pump n) placed name out = tt
    free_outside ids ns q b Tick placed name out = tt

    -- whoever has come by then
    free_there : (first : List CopyId) (v : World) (s : Stands first c any_size set.limits v) (call : Call) → is_some (receiver_named c v) ≡ true → IsOutside c s.ns call → IsFree call v.broker
    free_there first v s call there out = by (receiver_named c v) refl
      where
        by : (o : Option Receiver) → receiver_named c v ≡ o → IsFree call v.broker
        by None e = let clash : false ≡ true = sym (ap is_some e) ∙ there in absurd cc
        by (Some q) e = free_outside s.ids s.ns q v.broker call (subst (IsSeen any_size s.ids s.ns v.broker) e s.standing.seen) (named_receiver c q v e) out

    -- ---- bytes of a stranger

    rest_none : (first : List CopyId) (more : ℕ) (name : List ℕ) (w v : World) → Stands first c any_size set.limits v → is_some (receiver_named c v) ≡ is_some (receiver_named c w) → is_some (receiver_named c w) ≡ true
        → bytes_name more (bytes_held (stranger_named name v)) w ≡ false → read_rest spending set more name v ≡ false → AreNone (read_rest the_deeds set more name v)
    rest_none first zero name w v h there found good unspent = tt
    rest_none first (suc more) name w v h there found good unspent =
        let call = call_of_stranger (stranger_named name v) in
        let u = next_held name v in
        let both = either (front_names (first_of (bytes_held (stranger_named name v))) w) (bytes_name more (held_after (bytes_held (stranger_named name v))) w) good in
        let costs = either (read_if spending set call v) (read_rest spending set more name (calls_if set call u)) unspent in
        let outside = next_outside first c any_size set.limits name w v h there both.0 in
        let next = if_stands first c any_size set call u (held_stands first c any_size set.limits name v h) (same_cost set name v call costs.0) outside in
        ends_append IsNone (read_if the_deeds set call v) (read_rest the_deeds set more name (calls_if set call u))
        (if_none set call v (λ x is. free_there first v h x (there ∙ found) (outside (there ∙ found) x is)))
        (rest_none first more name w (calls_if set call u) next (if_there c set call u ∙ there) found (ap (λ (bytes : List ℕ). bytes_name more bytes w) (held_next set name v call) ∙ both.1) costs.1)

    module _ (first : List CopyId) (w : World) (s : Stands first c any_size set.limits w) (e : receiver_named c w ≡ Some r) where
      its_view : view_of c w ≡ view_by None (Some r)
      its_view = ap (λ (o : Option Publisher). view_by o (receiver_named c w)) (s.standing.around.alone (ap is_some e)) ∙ ap (λ (o : Option Receiver). view_by None o) e

      -- ---- a packet of its own that is no answer

      abbrev BeginsCalm : List Packet → Type 0
      BeginsCalm [] = ⊤
      BeginsCalm (packet ∷ rest) = IsNoAnswer packet

      calm_input : (o : Option ℕ) (ps : List Packet) (x : Call) (b : Broker) → BeginsCalm ps → input_on o ps ≡ Some x → IsFree x b
      calm_input None ps x b calm is = absurd cc
      calm_input (Some n) [] x b calm is = absurd cc
      calm_input (Some n) (packet ∷ rest) x b calm is = let it : Input n packet ≡ x = cc in subst (λ (call : Call). IsFree call b) it (inr calm)

      calm_up : (xs : List Back) → r.line.up ≡ xs → BeginsCalm (map (wire_back r.client r.window r.aliases) xs) → AreNone (read_first the_deeds set (to_broker c) w)
      calm_up xs up calm =
          let all : BeginsCalm (view_of c w).up = subst (λ (v : View). BeginsCalm v.up) (sym its_view) (subst (λ (zs : List Back). BeginsCalm (map (wire_back r.client r.window r.aliases) zs)) (sym up) calm) in
          if_none set (call_of set (to_broker c) w) (before set (to_broker c) w) (λ x is. calm_input (view_of c w).number (view_of c w).up x w.broker all is)

      calm_old : (xs : List Back) → r.line.old ≡ xs → BeginsCalm (map (wire_back r.client r.window r.aliases) xs) → AreNone (read_first the_deeds set (old_to_broker c) w)
      calm_old xs old calm =
          let all : BeginsCalm (view_of c w).old = subst (λ (v : View). BeginsCalm v.old) (sym its_view) (subst (λ (zs : List Back). BeginsCalm (map (wire_back r.client r.window r.aliases) zs)) (sym old) calm) in
          if_none set (call_of set (old_to_broker c) w) (before set (old_to_broker c) w) (λ x is. calm_input (view_of c w).old_number (view_of c w).old x w.broker all is)

      -- ---- and any

      its_got : (ds : List Deed) → AllByRecursion (WasGot r) (ends_in ds) → AreGot r ds
      its_got ds h = each_more (WasGot r) (IsGot r) (λ x got its. got) (ends_in ds) h

      own_up : (xs : List Back) → r.line.up ≡ xs → AreGot r (read_first the_deeds set (to_broker c) w)
      own_up [] up = none_got r (read_first the_deeds set (to_broker c) w) (calm_up [] up tt)
      own_up (answers (connect clean) ∷ rest) up = none_got r (read_first the_deeds set (to_broker c) w) (calm_up (answers (connect clean) ∷ rest) up tt)
      own_up (answers (puback i code) ∷ rest) up = its_got (read_first the_deeds set (to_broker c) w) (answer_taken first c any_size (puback i code) tt rest set r w s e up)
      own_up (answers (pubrec i code) ∷ rest) up = its_got (read_first the_deeds set (to_broker c) w) (answer_taken first c any_size (pubrec i code) tt rest set r w s e up)
      own_up (answers (pubcomp i code) ∷ rest) up = its_got (read_first the_deeds set (to_broker c) w) (answer_taken first c any_size (pubcomp i code) tt rest set r w s e up)
      own_up (asks_for x ∷ rest) up = none_got r (read_first the_deeds set (to_broker c) w) (calm_up (asks_for x ∷ rest) up tt)

      own_old : (xs : List Back) → r.line.old ≡ xs → AreGot r (read_first the_deeds set (old_to_broker c) w)
      own_old [] old = none_got r (read_first the_deeds set (old_to_broker c) w) (calm_old [] old tt)
      own_old (answers (connect clean) ∷ rest) old = none_got r (read_first the_deeds set (old_to_broker c) w) (calm_old (answers (connect clean) ∷ rest) old tt)
      own_old (answers (puback i code) ∷ rest) old = its_got (read_first the_deeds set (old_to_broker c) w) (answer_taken_there first c any_size (puback i code) tt rest set r w s e old)
      own_old (answers (pubrec i code) ∷ rest) old = its_got (read_first the_deeds set (old_to_broker c) w) (answer_taken_there first c any_size (pubrec i code) tt rest set r w s e old)
      own_old (answers (pubcomp i code) ∷ rest) old = its_got (read_first the_deeds set (old_to_broker c) w) (answer_taken_there first c any_size (pubcomp i code) tt rest set r w s e old)
      own_old (asks_for x ∷ rest) old = none_got r (read_first the_deeds set (old_to_broker c) w) (calm_old (asks_for x ∷ rest) old tt)

      -- ---- what is asked for

      there : is_some (receiver_named c w) ≡ true
      there = ap is_some e

      lost_free : (o : Option ℕ) (x : Call) → lost_on o ≡ Some x → IsFree x w.broker
      lost_free None x is = absurd cc
      lost_free (Some n) x is = let it : Lost n ≡ x = cc in subst (λ (call : Call). IsFree call w.broker) it tt

      pump_free : (o : Option ℕ) (x : Call) → pump_on o ≡ Some x → IsFree x w.broker
      pump_free None x is = absurd cc
      pump_free (Some n) x is = let it : Pump n ≡ x = cc in subst (λ (call : Call). IsFree call w.broker) it tt

      first_got : (a : Asking) → is_bad_asking a w ≡ false → AreGot r (read_first the_deeds set a w)
      first_got (to_broker d) good = elim (whose_name c d w) [
        | inl own ↦ subst (λ (x : List ℕ). AreGot r (read_first the_deeds set (to_broker x) w)) (sym own.2) (own_up r.line.up refl)
        | inr not_its ↦
            let f = foreign c d set.limits s.ns w s.standing.around (not_its there) in
            none_got r (read_first the_deeds set (to_broker d) w) (if_none set (call_of set (to_broker d) w) (before set (to_broker d) w)
            (λ x is. free_there first w s x there (input_outside c s.ns w.broker.given (view_of d w).number (view_of d w).up x f.number f.up is)))
      ]
      first_got (old_to_broker d) good = elim (whose_name c d w) [
        | inl own ↦ subst (λ (x : List ℕ). AreGot r (read_first the_deeds set (old_to_broker x) w)) (sym own.2) (own_old r.line.old refl)
        | inr not_its ↦
            let f = foreign c d set.limits s.ns w s.standing.around (not_its there) in
            none_got r (read_first the_deeds set (old_to_broker d) w) (if_none set (call_of set (old_to_broker d) w) (before set (old_to_broker d) w)
            (λ x is. free_there first w s x there (input_outside c s.ns w.broker.given (view_of d w).old_number (view_of d w).old x f.old_number f.old is)))
      ]
      first_got (break d) good = none_got r (read_first the_deeds set (break d) w) (if_none set (lost_on (view_of d w).number) w (λ x is. lost_free (view_of d w).number x is))
      first_got (pump d) good = none_got r (read_first the_deeds set (pump d) w) (if_none set (pump_on (view_of d w).number) w (λ x is. pump_free (view_of d w).number x is))
      first_got tick good = none_got r (read_first the_deeds set tick w) (call_none set.limits set.choice w.now Tick w.broker tt)
      first_got (stranger name bytes) good =
          let v = comes set name bytes w in
          let h = comes_stands first c any_size set name bytes w s in
          let found = comes_there c set name bytes w in
          none_got r (read_first the_deeds set (stranger name bytes) w) (if_none set (call_of_stranger (stranger_named name v)) v
          (λ x is. free_there first v h x (found ∙ there) (first_outside first c any_size set name bytes w h good (found ∙ there) x is)))

      asked_got : (a : Asking) → is_bad_asking a w ≡ false → read_asked spending set a w ≡ false → AreGot r (read_asked the_deeds set a w)
      asked_got (to_broker d) good unspent = first_got (to_broker d) good
      asked_got (old_to_broker d) good unspent = first_got (old_to_broker d) good
      asked_got (break d) good unspent = first_got (break d) good
      asked_got (pump d) good unspent = first_got (pump d) good
      asked_got tick good unspent = first_got tick good
      asked_got (stranger name bytes) good unspent =
          let v = comes set name bytes w in
          let n = held_count (stranger_named name v) in
          none_got r (read_rest the_deeds set n name v) (rest_none first n name w v (comes_stands first c any_size set name bytes w s) (comes_there c set name bytes w) there (good_then set name bytes w good) unspent)

      -- ---- an event

      happening_got : (x : Event) → is_bad x w ≡ false → read_in spending set x w ≡ false → AreGot r (read_in the_deeds set x w)
      happening_got (publisher d) good unspent = tt
      happening_got (receiver d window aliases) good unspent = tt
      happening_got (connect_end d clean) good unspent = none_got r (deeds set.limits set.choice w.now NewLine w.broker) (call_none set.limits set.choice w.now NewLine w.broker tt)
      happening_got (give_up d) good unspent = tt
      happening_got (publish d x) good unspent = tt
      happening_got (subscribe d x) good unspent = tt
      happening_got (to_end d) good unspent = tt
      happening_got (clock wait) good unspent = tt
      happening_got (ask a) good unspent = asked_got a good unspent
      happening_got restart good unspent = none_got r (read_opening the_deeds set w) (opening_none set w)
      happening_got (stop_before a) good unspent = none_got r (read_opening the_deeds set (before set a w)) (opening_none set (before set a w))
      happening_got (stop_after a) good unspent =
          let v = first_step set a w in
          ends_append (IsGot r) (read_first the_deeds set a w) (read_opening the_deeds set v) (first_got a good) (none_got r (read_opening the_deeds set v) (opening_none set v))

      -- whatever event happens, a copy of the client that ends as taken in it had been read by the receiver
      pub event_got : (x : Event) → read_at spending set x w ≡ false → AreGot r (read_at the_deeds set x w)
      event_got x unspent = by (is_bad x w) refl unspent
        where
          by : (bad : Bool) → is_bad x w ≡ bad → cond bad false (read_in spending set x w) ≡ false → AreGot r (cond bad [] (read_in the_deeds set x w))
          by true is u = tt
          by false is u = happening_got x is u
