-- How a receiver's copies end in a drain, from wherever a run comes to: by what is under way from it (MQTT 5.0, 3.1.2.4, 4.3, 4.4).
use Rattle.std.proofs.Common.{◌≡◌, ℕ, suc, ◌≤◌, ◌⊎◌, Bool, true, false, cond, not, ◌||◌, List, [], ◌∷◌, ◌++◌, map, length, nat_lt, Option, Some, None, refl, sym, ap, subst, ◌∙◌, append-nil, arith, inl, inr}
use Rattle.std.specs.Prelude.{is_some}
use Rattle.std.specs.List.{AllByRecursion}
use Rattle.std.proofs.lemmas.Bool.{ltb-true}
use Rattle.std.proofs.lemmas.Option.{slice_get-map}
use Rattle.mqtt_base.specs.declared.session.Cause.{Cause}
use Rattle.mqtt_base.specs.declared.session.CopyId.{CopyId}
use Rattle.mqtt_flow.specs.outbound.OutboundWorld.{cut}
use Rattle.mqtt_flow.specs.outbound.Receiver.{connect, puback, pubcomp, pubrec}
use Rattle.mqtt_topic.specs.names.Aliases.{AliasTable}
use Rattle.mqtt_world_model.specs.model.Ends.{Back, Receiver, answers, asks_for, wire_back}
use Rattle.mqtt_world_model.specs.model.Hops.{IsNoConnect, Own}
use Rattle.mqtt_world_model.specs.model.Lines.{Down, sent_to, stands, unless_closed, known_by}
use Rattle.mqtt_world_model.specs.model.Run.{Turn, read_at, run, turned}
use Rattle.mqtt_world_model.specs.model.Seats.{Former, IsHis, Present, absent, closed, connected_at, joined, waiting}
use Rattle.mqtt_world_model.specs.model.World.{Setting, World, ask, calls, publisher_named, pump, receiver_named, receiver_told, to_broker, to_end}
use Rattle.mqtt_world_model.proofs.model_lemmas.seats.Joins.{none_closed}
use Rattle.mqtt_world_model.proofs.model_lemmas.seats.OwnSeats.{not_among}
use Rattle.mqtt_world_model.proofs.model_lemmas.seats.Seats.{kept_of}
use Rattle.mqtt_records.specs.state.Records.{subscribe_in}
use Rattle.mqtt_records.specs.declared.state.session.Session.{Session}
use Rattle.mqtt_records.specs.lists.Distinct.{AllDiffer}
use Rattle.mqtt_rules.proofs.step_lemmas.flight.FlightRows.{all_more}
use Rattle.mqtt_rules.specs.step.Deeds.{Deed, with_line}
use Rattle.mqtt_rules.specs.step.State.{Line as BrokerLine, Broker, MemberChoice, capped, session_named}
use Rattle.mqtt_rules.specs.step.Step.{Call, Input, Pump, at_moment, deeds, deeds_of, done, env_of, is_spent, is_step_spent, on_pump, outcome_of, rows_written}
use Rattle.mqtt_rules.specs.declared.step.Capacity.{Capacity}
use Rattle.mqtt_world_laws.proofs.acceptance_lemmas.publishers.Ends.{named_receiver}
use Rattle.mqtt_world_laws.proofs.acceptance_lemmas.publishers.Runs.{both_true, either}
use Rattle.mqtt_world_laws.specs.acceptance.Fair.{IsFair}
use Rattle.mqtt_world_laws.specs.acceptance.Spending.{run_spends, spending}
use Rattle.mqtt_world_laws.specs.receiver.Apart.{HasCome}
use Rattle.mqtt_world_laws.specs.receiver.Calls.{IsResuming}
use Rattle.mqtt_world_laws.specs.receiver.Connecting.{IsJoining, MayRenew, any_size}
use Rattle.mqtt_world_laws.specs.receiver.Drains.{after_round, all_to_broker, all_to_end, copies_by, copies_left, downs_by, drained, is_none_left, is_over, line_stands, round_turns, times, turn_of, ups_by}
use Rattle.mqtt_world_laws.specs.receiver.Own.{IsInStep, RunsAlone}
use Rattle.mqtt_world_laws.specs.receiver.Tags.{id_of}
use Rattle.mqtt_world_laws.specs.receiver.WorldRounds.{AsksOnce, DrainsBehind, IsAnswer, IsDrained, IsOlder, MayAsk, moment_of}
use Rattle.mqtt_world_laws.proofs.receiver_lemmas.connects.Beginning.{cut_ids}
use Rattle.mqtt_world_laws.proofs.receiver_lemmas.queue.Numbers.{place_of, places_number}
use Rattle.mqtt_world_laws.proofs.receiver_lemmas.drains.WorldRoundConnects.{connect_is_drained, renewal_is_over, renewed_round}
use Rattle.mqtt_world_laws.proofs.receiver_lemmas.drains.WorldRoundLines.{moment_again}
use Rattle.mqtt_world_laws.proofs.receiver_lemmas.drains.WorldRounds.{drain_is, publisher_called_is, pump_is, receiver_called_is, subscribe_is_drained}
use Rattle.mqtt_world_laws.specs.delivery.DrainCauses.{Course, EndSo, EndsAs, HasCopies, IsCalm, answering, asking, course_of, renewing}
use Rattle.mqtt_world_laws.specs.delivery.Standing.{BeginWith, GoesAlong, IsPlaced, IsSeen, Stands, line_like, packet_like}
use Rattle.mqtt_world_laws.specs.delivery.Taking.{EachTakes, ReceiverTakes}
use Rattle.mqtt_world_laws.specs.delivery.Untouched.{IsUntouched}
use Rattle.mqtt_world_laws.proofs.delivery_lemmas.drains.Drains.{MayBeDrained, connection_of, over_if}
use Rattle.mqtt_world_laws.proofs.delivery_lemmas.own.Sizes.{asked_small, named_fits}
use Rattle.mqtt_world_laws.proofs.delivery_lemmas.whole.EveryRun.{fair_run_kept, over_or_drained, takes_some}
use Rattle.mqtt_world_laws.proofs.delivery_lemmas.own.Fronts.{Awaits, calm_front, front}
use Rattle.mqtt_world_laws.proofs.delivery_lemmas.own.Greetings.{may_renew, may_resume, spared_left}
use Rattle.mqtt_world_laws.proofs.delivery_lemmas.order.Growing.{begin_same}
use Rattle.mqtt_world_laws.proofs.delivery_lemmas.others.Around.{its_place}
use Rattle.mqtt_world_laws.proofs.delivery_lemmas.others.Like.{calm_up, closed_stands, connect_like, connected_linked, none_stands}
use Rattle.mqtt_world_laws.proofs.delivery_lemmas.others.Runs.{IsKept}
use Rattle.mqtt_world_laws.proofs.delivery_lemmas.others.Standings.{runs_so}

-- ---- what is under way from a receiver whose session is connected

-- answers alone, or a SUBSCRIBE too
courses : (up : List Back) → AllByRecursion IsNoConnect (map packet_like up) → (AllByRecursion IsAnswer up × (course_of up ≡ answering)) ⊎ (course_of up ≡ asking)
courses [] calm = inl (tt, refl)
courses (asks_for w ∷ up) calm = inr refl
courses (answers (connect clean) ∷ up) calm = absurd calm.0
courses (answers (puback i code) ∷ up) calm = elim (courses up calm.1) [ inl x ↦ inl ((tt, x.0), x.1) | inr x ↦ inr x ]
courses (answers (pubrec i code) ∷ up) calm = elim (courses up calm.1) [ inl x ↦ inl ((tt, x.0), x.1) | inr x ↦ inr x ]
courses (answers (pubcomp i code) ∷ up) calm = elim (courses up calm.1) [ inl x ↦ inl ((tt, x.0), x.1) | inr x ↦ inr x ]

course_of_connect : (up : List Back) (clean : Bool) → up ≡ answers (connect clean) ∷ [] → course_of up ≡ cond clean renewing answering
course_of_connect up true e = ap course_of e
course_of_connect up false e = ap course_of e

older : (publications subscribes : ℕ) (id : CopyId) → HasCome publications subscribes id → IsOlder subscribes id
older publications subscribes id h = λ n is. subst (λ (k : Cause). subscribe_in k ≤ subscribes) is h.subscribe

-- ---- in the first round the broker reads the CONNECT, in a step that spends no number

untold : (call : Call) (b : Broker) (r : Receiver) → receiver_told b (outcome_of call [] b) r ≡ r
untold call b r =
    let closed = none_closed r.line.number in
    let old_closed = none_closed r.line.old_number in
    let downs : r.line.down ++ sent_to r.line.number b [] ≡ r.line.down = ap (λ (ds : List Down). r.line.down ++ ds) (none_sent r.line.number b) ∙ append-nil r.line.down in
    let knows = none_known r.line.number r.line.known in
    λ i. record r { line = record r.line { up = unless_closed (closed i) r.line.up; down = downs i; old = unless_closed (old_closed i) r.line.old; known = knows i } }
  where
    none_sent : (o : Option ℕ) (b : Broker) → sent_to o b [] ≡ []
    none_sent None b = refl
    none_sent (Some n) b = refl

    none_known : (o : Option ℕ) (table : AliasTable) → known_by o [] table ≡ table
    none_known None table = refl
    none_known (Some n) table = refl

module _ (c : List ℕ) (limits : Capacity) (choice : MemberChoice) (clean : Bool) (v : World) (r : Receiver) (l : BrokerLine) (e : receiver_named c v ≡ Some r) (alone : publisher_named c v ≡ None) (here : Awaits r.line.number l v.broker)
    (up : r.line.up ≡ answers (connect clean) ∷ []) (down : r.line.down ≡ []) where
  abbrev set : Setting
  set = record { limits = limits; choice = choice }

  abbrev call : Call
  call = Input l.number (wire_back r.client r.window r.aliases (answers (connect clean)))

  abbrev first : Broker
  first = at_moment v.now v.broker

  abbrev sent : World
  sent = calls set (Pump l.number) v

  abbrev reads_back : Turn
  reads_back = turn_of choice (ask (to_broker c))

  idle : deeds limits choice v.now (Pump l.number) v.broker ≡ []
  idle =
      ap (λ (o : Option BrokerLine). with_line o (λ (x : BrokerLine). on_pump x x.session) first) here.line
      ∙ ap (λ (o : Option ℕ). on_pump l o first) here.waits

  sent_broker : sent.broker ≡ first
  sent_broker = ap (λ (ds : List Deed). done ds first) idle

  sent_receiver : receiver_named c sent ≡ Some r
  sent_receiver =
      receiver_called_is c set (Pump l.number) v r e
      ∙ (ap (λ (ds : List Deed). Some (receiver_told sent.broker (outcome_of (Pump l.number) ds first) r)) idle ∙ ap Some (untold (Pump l.number) sent.broker r))

  sent_publisher : publisher_named c sent ≡ None
  sent_publisher = publisher_called_is c set (Pump l.number) v alone

  -- what the rest of the round spends, from a world
  abbrev spends_from : World → Bool
  spends_from x = run_spends limits (all_to_end choice c x ++ all_to_broker choice c (run limits (all_to_end choice c x) x)) x

  spends_is : spends_from sent ≡ run_spends limits (reads_back ∷ []) sent
  spends_is =
      let none : all_to_end choice c sent ≡ [] = ap (λ (o : Option Receiver). times (downs_by o) (turn_of choice (to_end c))) sent_receiver ∙ ap (λ (ds : List Down). times (length ds) (turn_of choice (to_end c))) down in
      let one : all_to_broker choice c sent ≡ reads_back ∷ [] = ap (λ (o : Option Receiver). times (ups_by o) reads_back) sent_receiver ∙ ap (λ (us : List Back). times (length us) reads_back) up in
      ap (λ (es : List Turn). run_spends limits (es ++ all_to_broker choice c (run limits es sent)) sent) none
      ∙ ap (λ (ts : List Turn). run_spends limits ts sent) one

  -- if a round spends no number, the CONNECT that is read in it doesn't
  pub connect_unspent : run_spends limits (round_turns limits choice c v) v ≡ false → is_step_spent limits choice v.now call v.broker ≡ false
  connect_unspent unspent =
      let sends = turn_of choice (ask (pump c)) in
      let after_sending = turned limits sends v in
      let rest = (either (read_at spending set (ask (pump c)) v) (spends_from after_sending) unspent).1 in
      let last = sym spends_is ∙ (sym (ap spends_from (pump_is limits choice c v r l.number e alone here.number)) ∙ rest) in
      let read_ = (either (read_at spending set (ask (to_broker c)) sent) false last).0 in
      let costs : read_at spending set (ask (to_broker c)) sent ≡ is_step_spent limits choice v.now call sent.broker = rw (sent_receiver, sent_publisher, here.number, up) refl in
      let env = env_of limits choice v.broker in
      let again : at_moment v.now first ≡ first = λ i. record v.broker { now = moment_again v.broker.now (capped v.now) i } in
      let same : is_step_spent limits choice v.now call first ≡ is_step_spent limits choice v.now call v.broker = ap (λ (m : Broker). is_spent (rows_written (deeds_of env call m) m)) again in
      sym same ∙ (sym (ap (is_step_spent limits choice v.now call) sent_broker) ∙ (sym costs ∙ read_))

-- ---- from where a run comes to

module _ (c : List ℕ) (limits : Capacity) (choice : MemberChoice) (v : World) (kept : IsKept [] c limits v) (r : Receiver) (e : receiver_named c v ≡ Some r) (most : ℕ) where
  abbrev s : Stands [] c any_size limits v
  s = kept.stands

  abbrev last : World
  last = drained limits choice c (suc most) v

  abbrev Ends : Course → World → Type 0
  Ends course later = EndSo c (EndsAs course (moment_of v)) v later

  placed : IsPlaced any_size s.ids s.ns r v.broker
  placed = subst (IsSeen any_size s.ids s.ns v.broker) e s.standing.seen

  run_now : RunsAlone (place_of s.ids) any_size s.ids r v.broker
  run_now = runs_so c any_size limits s.ids s.ns r v s.standing e

  abbrev at_start : HasCopies c v
  at_start = record { receiver = r; named = e; number = place_of s.ids; copies = run_now.after; differ = subst AllDiffer (sym run_now.same) placed.told.differ; run_is = run_now.run_is }

  alone : publisher_named c v ≡ None
  alone = s.standing.around.alone (ap is_some e)

  ends_taken : (window birth : ℕ) → IsDrained (place_of s.ids) any_size window s.ids birth s.ns c (moment_of v) run_now.after last → Ends answering last
  ends_taken window birth d =
      let x = run_now in
      record {
        before = at_start;
        after = record { receiver = d.receiver; named = d.may.named; number = place_of s.ids; copies = d.after; differ = subst AllDiffer (sym d.same) placed.told.differ; run_is = d.run_is };
        grown = subst (BeginWith (map id_of x.after)) (x.same ∙ sym d.same) (begin_same (map id_of x.after));
        each = d.ends;
      }

  ends_dropped : (window birth number stood : ℕ) → DrainsBehind any_size window s.ids birth s.ns c number stood (moment_of v) run_now.after last → Ends asking last
  ends_dropped window birth number stood d =
      let x = run_now in
      record {
        before = at_start;
        after = record { receiver = d.drains.receiver; named = d.drains.may.named; number = d.numbering; copies = d.after; differ = subst AllDiffer (sym d.same) d.drains.differ; run_is = d.run_is };
        grown = (d.drains.more, d.same ∙ ap (λ (ids : List CopyId). ids ++ d.drains.more) (sym x.same));
        each = d.ends;
      }

  -- its session is connected on its line
  ends_connected : (birth : ℕ) → placed.birth ≡ Some birth → r.line.number ≡ Some placed.line → connected_at placed.line v.broker.lines ≡ Some (Some birth) → is_over c v ≡ false → AsksOnce r.line.up → Ends (course_of r.line.up) last
  ends_connected birth own at there over once =
      let k = connection_of c any_size limits s.ids s.ns r v s.standing e kept.fit.distinct (takes_some c v kept.fit.takes kept.fit.well.sends) placed birth own at there in
      let x = run_now in
      let calm = calm_up (place_of s.ids) any_size x.after r v.broker x.run_is (connected_linked placed.line birth r.line.number v.broker at there) in
      elim (courses r.line.up calm) [
        | inl answers_ ↦ subst (λ (course : Course). Ends course last) (sym answers_.1)
            (ends_taken k.window birth (drain_is (place_of s.ids) any_size k.window s.ids birth s.ns limits choice c x.after r v (record { named = e; alone = alone; connected = k.connected; answering = answers_.0 }) x.same x.run_is (suc most) k.room))
        | inr asks ↦
            let may : MayAsk limits any_size k.window s.ids birth s.ns c r v = record {
              named = e;
              alone = alone;
              connected = k.connected;
              tidy = s.standing.around.tidy;
              told = record {
                differ = placed.told.differ;
                older = all_more (HasCome v.broker.records.publications v.broker.records.subscribes) (IsOlder v.broker.records.subscribes) s.ids (older v.broker.records.publications v.broker.records.subscribes) placed.told.come;
                retained = kept.fit.once;
              };
              asking = once;
              brings = asked_small c r v kept.fit.well e;
            } in
            subst (λ (course : Course). Ends course last) (sym asks) (ends_dropped k.window birth (suc v.broker.records.subscribes) (copies_left c v) (subscribe_is_drained (place_of s.ids) any_size k.window s.ids birth s.ns limits choice c x.after most r v k.room may x.same x.run_is over))
      ]

  room : 1 ≤ r.window
  room =
      let its : ReceiverTakes r v.broker = subst (λ (o : Option Receiver). EachTakes o v.broker) e kept.fit.takes in
      let above = ltb-true 0 r.window (both_true (nat_lt 0 r.window) _ its.window).0 in
      omega (arith, above)

  -- its CONNECT is under way
  module _ (clean : Bool) (l : BrokerLine) (up : r.line.up ≡ answers (connect clean) ∷ []) (down : r.line.down ≡ []) (here : Awaits r.line.number l v.broker) (over : is_over c v ≡ false)
      (unspent : run_spends limits (round_turns limits choice c v) v ≡ false) where
    joining : IsJoining limits choice clean c r l v
    joining = record {
      named = e;
      alone = alone;
      up = up;
      down = down;
      apart = not_among r.line.old_number l.number (λ f. placed.apart l.number here.number f);
      within = s.standing.around.within;
      steady = s.standing.around.steady;
      ordered = s.standing.around.steady.coherent.ordered;
      distinct = kept.fit.distinct;
      fits = named_fits c v.broker kept.fit.well.sends.contents;
      unspent = connect_unspent c limits choice clean v r l e alone here up down unspent;
    }

    ends_connecting : (old : Session) → IsInStep any_size s.ids old.birth s.ns r v.broker → IsResuming r l old v.broker → (t : Bool) → t ≡ clean → Ends (cond t renewing answering) last
    ends_connecting old k a false is =
        let x = run_now in
        let j = subst (λ (z : Bool). IsJoining limits choice z c r l v) (sym is) joining in
        ends_taken r.window old.birth (connect_is_drained (place_of s.ids) s.ids old.birth s.ns limits choice c x.after most r l old v room (record { joining = j; in_step = k; resuming = a }) x.same x.run_is over)
    ends_connecting old k a true is =
        let x = run_now in
        let j = subst (λ (z : Bool). IsJoining limits choice z c r l v) (sym is) joining in
        let around = s.standing.around in
        let m : MayRenew limits choice s.ids old.birth s.ns c r l old v = record {
          joining = j;
          in_step = k;
          renewing = may_renew limits r l old v.broker around.within around.steady (its_place c limits s.ns v r around e) placed.named a;
        } in
        let d = renewed_round (place_of s.ids) s.ids old.birth s.ns limits choice c x.after r l old v m x.run_is in
        let end = renewal_is_over s.ids old.birth s.ns limits choice c most r l old v placed.told.differ m over in
        let z : Ends renewing (after_round limits choice c v) = record {
          before = at_start;
          after = record { receiver = d.receiver; named = d.may.named; number = place_of s.ids; copies = map cut x.after; differ = subst AllDiffer (sym (cut_ids x.after ∙ x.same)) placed.told.differ; run_is = d.run_is };
          grown = subst (BeginWith (map id_of x.after)) (sym (cut_ids x.after)) (begin_same (map id_of x.after));
          each = λ n. slice_get-map cut x.after n;
        } in
        subst (Ends renewing) (sym end.1) z

    ends_joining : Ends (course_of r.line.up) last
    ends_joining = subst (λ (course : Course). Ends course last) (sym (course_of_connect r.line.up clean up)) (by placed.birth placed.along placed.seat.his placed.seat.former)
      where
        by : (o : Option ℕ) → GoesAlong o any_size s.ids s.ns r v.broker → IsHis r.client o placed.line v.broker → Former o placed.line (line_like r.line) v.broker → Ends (cond clean renewing answering) last
        by None along his former =
            let none : copies_left c v ≡ 0 = ap (λ (x : List ℕ). copies_by (session_named x v.broker.records)) (sym (named_receiver c r v e)) ∙ ap copies_by his in
            let done_ : is_over c v ≡ true = ap (λ (k : ℕ). is_none_left k || not (line_stands (receiver_named c v) v)) none in
            let clash : true ≡ false = sym done_ ∙ over in
            absurd cc
        by (Some birth) along his former =
            let x = kept_of r.client birth placed.line v.broker his.0 his.1 placed.named.short placed.named.plain in
            let old = x.0 in
            let own : Own r.client old.birth placed.line v.broker = subst (λ (z : ℕ). Own r.client z placed.line v.broker) (sym x.1) his.0 in
            let behind : Former (Some old.birth) placed.line (line_like r.line) v.broker = subst (λ (z : ℕ). Former (Some z) placed.line (line_like r.line) v.broker) (sym x.1) former in
            let k : IsInStep any_size s.ids old.birth s.ns r v.broker = subst (λ (z : ℕ). IsInStep any_size s.ids z s.ns r v.broker) (sym x.1) along in
            ends_connecting old k (may_resume placed.line r l old v.broker kept.fit.unused here x.2 own (spared_left r.client old.birth placed.line r v.broker own behind)) clean refl

  -- wherever its line is
  pub ends_as : IsCalm r → is_over c v ≡ false → run_spends limits (round_turns limits choice c v) v ≡ false → EndSo c (EndsAs (course_of r.line.up) (moment_of v)) v (drained limits choice c (suc most) v)
  ends_as calm over unspent = by placed.seat.present
    where
      gone : stands r.line.number v.broker ≡ false → ⊥
      gone h =
          let no_line : line_stands (receiver_named c v) v ≡ false = ap (λ (o : Option Receiver). line_stands o v) e ∙ h in
          let clash : true ≡ false = sym (over_if (is_none_left (copies_left c v)) (line_stands (receiver_named c v) v) no_line) ∙ over in
          absurd cc

      by : Present placed.birth placed.line (line_like r.line) v.broker → Ends (course_of r.line.up) last
      by (absent nothing none_up) = absurd (gone (none_stands r.line.number v.broker nothing))
      by (closed n at none_up nobody nothing) = absurd (gone (closed_stands r.line.number n v.broker at nothing))
      by (joined birth own at there) = ends_connected birth own at there over calm.once
      by (waiting n clean at link_is clean_is connects_ down nobody there) =
          let up = connect_like clean r.line.up connects_ in
          elim (front placed.birth placed.line (answers (connect clean)) [] r v.broker placed.seat.present up) [
            | inl j ↦
                let x = run_now in
                absurd (calm_front clean [] r.line.up up (calm_up (place_of s.ids) any_size x.after r v.broker x.run_is (connected_linked placed.line j.birth r.line.number v.broker j.at j.there)))
            | inr h ↦ ends_joining clean h.1.line up (calm.quiet clean up) h.1.awaits over unspent
          ]

-- ---- if answers alone may be under way from it

-- a copy of a drained session ends as the definition says
pub ends_later : (c : List ℕ) (limits : Capacity) (choice : MemberChoice) (most : ℕ) (u : World) → MayBeDrained c any_size u → EndSo c (EndsAs answering (moment_of u)) u (drained limits choice c most u)
ends_later c limits choice most u m =
    let x = m.may.connected.in_step.runs (place_of m.ids) (places_number m.ids m.differ) in
    let d = drain_is (place_of m.ids) any_size m.window m.ids m.birth m.ns limits choice c x.after m.receiver u m.may x.same x.run_is most m.room in
    record {
      before = record { receiver = m.receiver; named = m.may.named; number = place_of m.ids; copies = x.after; differ = subst AllDiffer (sym x.same) m.differ; run_is = x.run_is };
      after = record { receiver = d.receiver; named = d.may.named; number = place_of m.ids; copies = d.after; differ = subst AllDiffer (sym d.same) m.differ; run_is = d.run_is };
      grown = subst (BeginWith (map id_of x.after)) (x.same ∙ sym d.same) (begin_same (map id_of x.after));
      each = d.ends;
    }

-- ---- in a run

module _ (limits : Capacity) (ts : List Turn) (choice : MemberChoice) (c : List ℕ) (most : ℕ) (w : World) (u : IsUntouched limits w) (fair : IsFair limits ts w)
    (unspent : run_spends limits (round_turns limits choice c (run limits ts w)) (run limits ts w) ≡ false) where
  -- the copies that stand when a drain begins end in it by what is under way from the receiver
  pub run_ends : (r : Receiver) → receiver_named c (run limits ts w) ≡ Some r → IsCalm r → is_over c (run limits ts w) ≡ false
      → EndSo c (EndsAs (course_of r.line.up) (moment_of (run limits ts w))) (run limits ts w) (drained limits choice c (suc most) (run limits ts w))
  run_ends r e calm over = ends_as c limits choice (run limits ts w) (fair_run_kept limits ts w u fair c) r e most calm over unspent

  -- after its first round a drain is over, or the copies end in it as for a connected receiver
  pub run_ends_later : (is_over c (after_round limits choice c (run limits ts w)) ≡ true)
      ⊎ EndSo c (EndsAs answering (moment_of (after_round limits choice c (run limits ts w)))) (after_round limits choice c (run limits ts w)) (drained limits choice c most (after_round limits choice c (run limits ts w)))
  run_ends_later = elim (over_or_drained limits choice c (run limits ts w) (fair_run_kept limits ts w u fair c) unspent) [
    | inl over ↦ inl over
    | inr m ↦ inr (ends_later c limits choice most (after_round limits choice c (run limits ts w)) m)
  ]
