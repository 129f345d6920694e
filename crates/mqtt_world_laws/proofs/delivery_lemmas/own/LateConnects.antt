-- The broker reads a receiver's CONNECT on the line that it gave up: its session is resumed there, or begins there, or there is no
-- place for one and that line closes (MQTT 5.0, 3.1.2.4, 3.1.4, 3.2.2.2).
use Rattle.std.proofs.Common.{◌≡◌, ℕ, suc, Bool, true, false, cond, List, [], ◌∷◌, drop, length, map, Option, Some, None, nat_lt, refl, sym, ap, subst, ◌∙◌, arith, inl, inr}
use Rattle.std.proofs.lemmas.Bool.{cases_Bool}
use Rattle.mqtt_base.specs.declared.session.CopyId.{CopyId}
use Rattle.mqtt_flow.specs.outbound.OutboundWorld.{renewed}
use Rattle.mqtt_flow.specs.outbound.Receiver.{connect}
use Rattle.mqtt_world_model.specs.model.Ends.{Back, Receiver, Sent, answers, wire_back}
use Rattle.mqtt_world_model.specs.model.Hops.{IsInOrder, IsKept, Own, lines_left}
use Rattle.mqtt_world_model.specs.model.Lines.{Line, is_one_of, told_by, unless_closed}
use Rattle.mqtt_world_model.specs.model.Run.{read_first}
use Rattle.mqtt_world_model.specs.model.Seats.{Former, IsHis, Present, closed, over}
use Rattle.mqtt_world_model.specs.model.World.{Setting, World, asks, old_to_broker, receiver_named, taken_old}
use Rattle.mqtt_world_model.proofs.model_lemmas.own.OwnCalls.{differs, input_elsewhere, left_own}
use Rattle.mqtt_world_model.proofs.model_lemmas.seats.OwnSeats.{empty_stays, none_there, not_among, present_after}
use Rattle.mqtt_world_model.proofs.model_lemmas.others.Quiet.{session_on}
use Rattle.mqtt_world_model.proofs.model_lemmas.seats.Seats.{kept_of}
use Rattle.mqtt_world_model.proofs.model_lemmas.seats.Seeing.{done_lines}
use Rattle.mqtt_records.specs.declared.state.session.Session.{Session}
use Rattle.mqtt_rules.proofs.step_lemmas.numbers.NumberSteps.{step_fell}
use Rattle.mqtt_rules.specs.step.Deeds.{Deed, after_all, rows_of_all}
use Rattle.mqtt_rules.specs.step.Laws.{AreWithin}
use Rattle.mqtt_rules.specs.step.State.{Line as BrokerLine, Broker, MemberChoice, line_of, session_named}
use Rattle.mqtt_rules.specs.step.Step.{Call, Input, Outcome, at_moment, deeds, told}
use Rattle.mqtt_rules.specs.declared.step.Capacity.{Capacity}
use Rattle.mqtt_world_laws.specs.acceptance.Fair.{IsSteady}
use Rattle.mqtt_world_laws.specs.acceptance.Spending.{spending}
use Rattle.mqtt_world_laws.proofs.acceptance_lemmas.copies.Steady.{given_grows, order_of}
use Rattle.mqtt_world_laws.specs.receiver.Calls.{IsBeginning, IsLate, IsResuming, reads_old_answer}
use Rattle.mqtt_world_laws.specs.receiver.Handing.{after_answer}
use Rattle.mqtt_world_laws.specs.receiver.Late.{left_alone}
use Rattle.mqtt_world_laws.specs.receiver.Own.{IsAwaiting, IsInStep}
use Rattle.mqtt_world_laws.specs.receiver.Tags.{id_of}
use Rattle.mqtt_world_laws.proofs.receiver_lemmas.queue.Apart.{apart_still}
use Rattle.mqtt_world_laws.proofs.receiver_lemmas.connects.Greetings.{first_line, resumed_line}
use Rattle.mqtt_world_laws.proofs.receiver_lemmas.connects.LateBeginning.{late_first_in_step, late_refused_awaiting}
use Rattle.mqtt_world_laws.proofs.receiver_lemmas.connects.LateResuming.{late_resume_in_step}
use Rattle.mqtt_world_laws.proofs.receiver_lemmas.queue.Numbers.{place_of, places_number}
use Rattle.mqtt_world_laws.proofs.receiver_lemmas.connects.OwnRefusals.{named_none}
use Rattle.mqtt_world_laws.proofs.receiver_lemmas.connects.Resuming.{Takes, connect_makes}
use Rattle.mqtt_world_laws.specs.delivery.Alone.{HaveSentNothing}
use Rattle.mqtt_world_laws.specs.delivery.Standing.{GoesAlong, IsPlaced, IsSeen, Stands, line_like, packet_like}
use Rattle.mqtt_world_laws.proofs.delivery_lemmas.own.Fronts.{Awaits, calm_front, front_there}
use Rattle.mqtt_world_laws.proofs.delivery_lemmas.own.Greetings.{greeted_owns, linked_left, may_begin, may_resume}
use Rattle.mqtt_world_laws.proofs.delivery_lemmas.own.Heard.{named_there, placed_with, present_taken}
use Rattle.mqtt_world_laws.proofs.delivery_lemmas.others.Outside.{goes_as, lines_of, listed}
use Rattle.mqtt_world_laws.proofs.delivery_lemmas.own.Reading.{first_read_there}

-- ---- the receiver after it

module _ (largest : ℕ) (ids : List CopyId) (ns : List ℕ) (limits : Capacity) (choice : MemberChoice) (now : ℕ) (r : Receiver) (l : BrokerLine) (b : Broker) (placed : IsPlaced largest ids ns r b)
    (within : AreWithin limits) (steady : IsSteady b) (order : IsInOrder (after_answer limits choice now l.number (connect false) r b)) (unused : HaveSentNothing b)
    (here : Awaits r.line.old_number l b) (old : r.line.old ≡ answers (connect false) ∷ []) where
  abbrev call : Call
  call = Input l.number (wire_back r.client r.window r.aliases (answers (connect false)))

  abbrev ds : List Deed
  ds = deeds limits choice now call b

  abbrev first : Broker
  first = at_moment now b

  abbrev new : Broker
  new = after_answer limits choice now l.number (connect false) r b

  abbrev out : Outcome
  out = told limits choice now call b

  abbrev taken : Line Sent
  taken = line_like (taken_old r.line)

  abbrev q : Receiver
  q = reads_old_answer limits choice now l.number (connect false) r b

  aside : is_one_of r.line.number (l.number ∷ []) ≡ false
  aside = not_among r.line.number l.number (λ e. placed.apart l.number e here.number)

  its_line : is_one_of (Some l.number) (0 ∷ ns) ≡ true
  its_line = listed l.number ns ((lines_of placed.birth largest ids ns r b placed.along).old l.number here.number)

  -- where its own line is, by what becomes of it if its session is connected there
  own_line : (o p : Option ℕ) (k j : ℕ) → ((birth : ℕ) → o ≡ Some birth → r.line.number ≡ Some k → session_on k b.lines ≡ Some (Some birth) → Present p j (told_by new out taken) new) → Present o k (line_like r.line) b
      → Present p j (told_by new out taken) new
  own_line o p k j there present =
      present_after limits choice now call b o p k j taken (input_elsewhere limits choice now l.number (wire_back r.client r.window r.aliases (answers (connect false))) r.line.number b (λ m its same. placed.apart m its (here.number ∙ ap Some same)))
      there (present_taken o k r b present)

  put : (o : Option ℕ) (k : ℕ) → GoesAlong o largest ids ns q new → IsHis r.client o k new → Present o k (told_by new out taken) new → is_one_of (Some k) (0 ∷ ns) ≡ true → IsPlaced largest ids ns q new
  put o k along his present its =
      let former : Former o k (told_by new out taken) new = over (empty_stays (is_one_of r.line.old_number out.closed) (map packet_like (drop 1 r.line.old)) (ap (λ (xs : List Back). map packet_like (drop 1 xs)) old)) in
      placed_with largest ids ids ns limits choice now call o k r.line.up (drop 1 r.line.old) r b placed (apart_still ids b.records new.records placed.told (step_fell limits choice now call b)) his present former along its

  -- ---- no session of its name stands

  begins : (k : ℕ) → IsAwaiting largest ids ns r b → session_named r.client b.records ≡ None → Present None k (line_like r.line) b → is_one_of (Some k) (0 ∷ ns) ≡ true → IsPlaced largest ids ns q new
  begins k along none present its =
      let a : IsBeginning limits (left_alone r) l b = may_begin limits (left_alone r) l b within steady unused placed.named here none refl in
      elim (cases_Bool (nat_lt (length b.records.sessions) limits.sessions)) [
        | inl room ↦
            let birth = suc b.records.births in
            let step = late_first_in_step largest ids ns limits choice now false [] r l b along a aside room old in
            let own = greeted_owns largest ids birth ns l.number r.window q new step placed.told.differ order (first_line limits choice now false (left_alone r) l b a room) in
            put (Some birth) l.number step (own, named_there largest ids birth ns q new step placed.told.differ) (own_line None (Some birth) k l.number (λ it of at_ on. absurd cc) present) its_line
        | inr full ↦
            put None k (late_refused_awaiting largest ids ns limits choice now false [] r l b along a aside full old) (named_none limits choice now false [] (left_alone r) l b a refl full old)
            (own_line None None k k (λ it of at_ on. absurd cc) present) its
      ]

  -- ---- its session stands: it is resumed

  resumes : (s : Session) (k : ℕ) → IsKept r.client s b → IsInStep largest ids s.birth ns r b → Own r.client s.birth k b → Present (Some s.birth) k (line_like r.line) b → IsPlaced largest ids ns q new
  resumes s k kept along own present =
      let resuming : IsResuming (left_alone r) l s b = may_resume k (left_alone r) l s b unused here kept own refl in
      let a : IsLate r l s b = record {
        number = resuming.number;
        line = resuming.line;
        waits = resuming.waits;
        fresh = resuming.fresh;
        kept = kept;
        taken = resuming.taken;
        alone = resuming.alone;
        apart = aside;
        linked = linked_left r.client s.birth k r b own present;
      } in
      let x = along.runs (place_of ids) (places_number ids placed.told.differ) in
      let takes : Takes (place_of ids) (map renewed x.after) (map id_of x.after) limits choice now call r.client l.number s.birth (lines_left (line_of s.birth b)) b =
      connect_makes (place_of ids) largest x.after limits choice now [] (left_alone r) l s b x.run_is.queue_is resuming old in
      let step = late_resume_in_step largest ids s.birth ns limits choice now [] r l s b along a old in
      let owns = greeted_owns largest ids s.birth ns l.number r.window q new step placed.told.differ order (resumed_line limits choice now (left_alone r) l s b resuming) in
      let there : (it : ℕ) → Some s.birth ≡ Some it → r.line.number ≡ Some k → session_on k b.lines ≡ Some (Some it) → Present (Some s.birth) l.number (told_by new out taken) new =
      λ it of its on.
      let same : it ≡ s.birth = cc in
      let left = left_own r.client s.birth k b own (on ∙ ap (λ (n : ℕ). Some (Some n)) same) in
      let gone = (takes.beside k (differs l.number k (λ e. placed.apart k its (here.number ∙ ap Some e)))).line_is in
      let none : session_on k new.lines ≡ None =
      ap (session_on k) (done_lines (rows_of_all ds first.records) (after_all ds first)) ∙ (gone ∙ ap (λ (t : Bool). cond t None (session_on k b.lines)) left) in
      let nobody = none_there k new.lines none in
      let grows = given_grows limits choice now call b in
      let below = own.given in
      let among : is_one_of r.line.number out.closed ≡ true = ap (λ (z : Option ℕ). is_one_of z out.closed) its ∙ (ap (is_one_of (Some k)) takes.closes ∙ left) in
      closed k its (ap (λ (t : Bool). unless_closed t (map packet_like r.line.up)) among) (record { lines = nobody.0; given = omega (arith, below, grows) }) nobody.1
      in
      put (Some s.birth) l.number step (owns, named_there largest ids s.birth ns q new step placed.told.differ) (own_line (Some s.birth) (Some s.birth) k l.number there present) its_line

  -- a CONNECT that is read of the line that it gave up leaves the receiver placed
  pub late_placed : IsPlaced largest ids ns q new
  late_placed = by placed.birth placed.along placed.seat.his placed.seat.present
    where
      by : (o : Option ℕ) → GoesAlong o largest ids ns r b → IsHis r.client o placed.line b → Present o placed.line (line_like r.line) b → IsPlaced largest ids ns q new
      by None along his present = begins placed.line along his present placed.its_line
      by (Some birth) along his present =
          let s = kept_of r.client birth placed.line b his.0 his.1 placed.named.short placed.named.plain in
          resumes s.0 placed.line s.2 (subst (λ (z : ℕ). IsInStep largest ids z ns r b) (sym s.1) along) (subst (λ (z : ℕ). Own r.client z placed.line b) (sym s.1) his.0)
          (subst (λ (z : ℕ). Present (Some z) placed.line (line_like r.line) b) (sym s.1) present)

-- ---- as an event

-- a CONNECT on the old line leaves the receiver standing
pub old_connected_stands : (first : List CopyId) (c : List ℕ) (clean : Bool) (rest : List Back) (largest : ℕ) (set : Setting) (r : Receiver) (w : World) → Stands first c largest set.limits w → receiver_named c w ≡ Some r → HaveSentNothing w.broker
    → r.line.old ≡ answers (connect clean) ∷ rest → read_first spending set (old_to_broker c) w ≡ false → Stands first c largest set.limits (asks set (old_to_broker c) w)
old_connected_stands first c clean rest largest set r w s e unused old unspent = elim (front_there placed.birth placed.line (answers (connect clean)) rest r w.broker placed.seat.former old) [
  | inl j ↦ absurd (calm_front clean rest r.line.old old j.1)
  | inr h ↦
      let l = h.line in
      let a = s.standing.around in
      let alone_is : r.line.old ≡ answers (connect false) ∷ [] = old ∙ (ap (λ (x : Back). x ∷ rest) h.packet ∙ ap (λ (xs : List Back). answers (connect false) ∷ xs) h.alone) in
      first_read_there first c (answers (connect false)) [] largest set r w s e l.number h.awaits.number alone_is
      (λ after_. goes_as largest s.ids s.ns _ _ (late_placed largest s.ids s.ns set.limits set.choice w.now r l w.broker placed a.within a.steady
      (order_of (after_answer set.limits set.choice w.now l.number (connect false) r w.broker) after_) unused h.awaits alone_is)) unspent
]
  where
    placed : IsPlaced largest s.ids s.ns r w.broker
    placed = subst (IsSeen largest s.ids s.ns w.broker) e s.standing.seen
