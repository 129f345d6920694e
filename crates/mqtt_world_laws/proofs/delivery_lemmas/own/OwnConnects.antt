-- The broker reads a receiver's CONNECT on its line: its session is resumed there, or one begins, be it the first of its name or
-- instead of the one before; or there is no place for one, and the line closes (MQTT 5.0, 3.1.2.4, 3.1.4, 3.2.2.2).
use Rattle.std.proofs.Common.{◌≡◌, ℕ, suc, ◌≤◌, Bool, true, false, List, [], ◌∷◌, drop, length, map, Option, Some, None, nat_lt, refl, sym, ap, subst, ◌∙◌, inl, inr}
use Rattle.std.specs.Prelude.{filter_map}
use Rattle.std.proofs.lemmas.Bool.{cases_Bool}
use Rattle.std.proofs.lemmas.Cmp.{nat_eq_equiv}
use Rattle.mqtt_base.specs.declared.session.CopyId.{CopyId}
use Rattle.mqtt_packet.specs.declared.codec.packet.Packet.{Packet}
use Rattle.mqtt_flow.specs.outbound.Receiver.{connect}
use Rattle.mqtt_world_model.specs.model.Ends.{Back, Receiver, answers, wire_back}
use Rattle.mqtt_world_model.specs.model.Hops.{IsInOrder, Own, lines_left}
use Rattle.mqtt_world_model.specs.model.Lines.{is_one_of, told_by, unless_closed}
use Rattle.mqtt_world_model.specs.model.Run.{read_first}
use Rattle.mqtt_world_model.specs.model.Seats.{Former, HasPlace, IsHis, IsIdle, closed, joined, over}
use Rattle.mqtt_world_model.specs.model.World.{Setting, World, asks, receiver_named, taken_up, to_broker}
use Rattle.mqtt_world_model.proofs.model_lemmas.connects.CleanConnects.{ended_by}
use Rattle.mqtt_world_model.proofs.model_lemmas.own.OwnCalls.{input_elsewhere, left_own}
use Rattle.mqtt_world_model.proofs.model_lemmas.seats.OwnSeats.{former_after, none_there, not_among}
use Rattle.mqtt_world_model.proofs.model_lemmas.own.OwnStep.{heard_of}
use Rattle.mqtt_world_model.proofs.model_lemmas.own.Publishes.{line_none}
use Rattle.mqtt_world_model.proofs.model_lemmas.others.Quiet.{session_on}
use Rattle.mqtt_world_model.proofs.model_lemmas.seats.Seats.{kept_of}
use Rattle.mqtt_records.specs.declared.state.session.Session.{Session}
use Rattle.mqtt_rules.proofs.step_lemmas.numbers.NumberSteps.{step_fell}
use Rattle.mqtt_rules.specs.step.Connect.{begin}
use Rattle.mqtt_rules.specs.step.Deeds.{closing}
use Rattle.mqtt_rules.specs.step.Laws.{AreWithin}
use Rattle.mqtt_rules.specs.step.State.{Line as BrokerLine, Broker, MemberChoice, line_of}
use Rattle.mqtt_rules.specs.step.Step.{Call, Input, Outcome, deeds, stepped, told}
use Rattle.mqtt_rules.specs.declared.step.Capacity.{Capacity}
use Rattle.mqtt_world_laws.specs.acceptance.Fair.{IsSteady}
use Rattle.mqtt_world_laws.specs.acceptance.Spending.{spending}
use Rattle.mqtt_world_laws.proofs.acceptance_lemmas.copies.Steady.{order_of}
use Rattle.mqtt_world_laws.specs.receiver.Calls.{IsBeginning, IsRenewing, IsResuming}
use Rattle.mqtt_world_laws.specs.receiver.Handing.{after_answer, reads_answer}
use Rattle.mqtt_world_laws.specs.receiver.Own.{IsAwaiting, IsInStep}
use Rattle.mqtt_world_laws.proofs.receiver_lemmas.queue.Apart.{apart_still}
use Rattle.mqtt_world_laws.proofs.receiver_lemmas.connects.Greetings.{HasGreeted, first_line, greeted_on, renewed_line, resumed_line}
use Rattle.mqtt_world_laws.proofs.receiver_lemmas.queue.Numbers.{place_of}
use Rattle.mqtt_world_laws.proofs.receiver_lemmas.connects.OwnConnects.{first_in_step, renewal_in_step, resume_in_step}
use Rattle.mqtt_world_laws.proofs.receiver_lemmas.connects.OwnRefusals.{deeds_are, given_is, lines_are, named_none, refused_awaiting}
use Rattle.mqtt_world_laws.proofs.receiver_lemmas.connects.Renewing.{renewed_clears}
use Rattle.mqtt_world_laws.proofs.receiver_lemmas.connects.Resuming.{beginning, connect_makes}
use Rattle.mqtt_world_laws.specs.delivery.Alone.{HaveSentNothing}
use Rattle.mqtt_world_laws.specs.delivery.Standing.{GoesAlong, IsPlaced, IsSeen, Stands, line_like, packet_like}
use Rattle.mqtt_world_laws.proofs.delivery_lemmas.others.Around.{its_place}
use Rattle.mqtt_world_laws.proofs.delivery_lemmas.others.Comings.{run_of}
use Rattle.mqtt_world_laws.proofs.delivery_lemmas.own.Heard.{named_there, placed_with}
use Rattle.mqtt_world_laws.proofs.delivery_lemmas.own.Fronts.{Awaits, calm_front, front}
use Rattle.mqtt_world_laws.proofs.delivery_lemmas.own.Greetings.{greeted_owns, may_begin, may_renew, may_resume, spared_left, spared_none}
use Rattle.mqtt_world_laws.proofs.delivery_lemmas.others.Like.{calm_up, connected_linked, former_as}
use Rattle.mqtt_world_laws.proofs.delivery_lemmas.others.Outside.{goes_as, listed}
use Rattle.mqtt_world_laws.proofs.delivery_lemmas.own.Reading.{first_read}

module _ (largest : ℕ) (ids : List CopyId) (ns : List ℕ) (limits : Capacity) (choice : MemberChoice) (now : ℕ) (clean : Bool) (rest : List Back) (r : Receiver) (l : BrokerLine) (b : Broker) (placed : IsPlaced largest ids ns r b)
    (number_is : r.line.number ≡ Some l.number) (up : r.line.up ≡ answers (connect clean) ∷ rest) where
  abbrev packet : Packet
  packet = wire_back r.client r.window r.aliases (answers (connect clean))

  abbrev call : Call
  call = Input l.number packet

  abbrev new : Broker
  new = stepped limits choice now call b

  abbrev out : Outcome
  out = told limits choice now call b

  abbrev taken : Receiver
  taken = record r { line = taken_up r.line }

  abbrev q : Receiver
  q = reads_answer limits choice now l.number (connect clean) r b

  abbrev Goal : Type 0
  Goal = IsPlaced largest ids ns (reads_answer limits choice now l.number (connect clean) r b) (after_answer limits choice now l.number (connect clean) r b)

  -- what becomes of the line that it gave up, by what does if the session was connected there
  left_behind : (o p : Option ℕ) (j : ℕ) → Former o placed.line (line_like r.line) b
      → ((birth : ℕ) → o ≡ Some birth → r.line.old_number ≡ Some placed.line → session_on placed.line b.lines ≡ Some (Some birth) → is_one_of r.line.old_number (filter_map closing (deeds limits choice now call b)) ≡ true)
      → Former p j (told_by new out (line_like taken.line)) new
  left_behind o p j former shut =
      let far = input_elsewhere limits choice now l.number packet r.line.old_number b (λ m e same. placed.apart m (number_is ∙ ap Some same) e) in
      let before = former_as o placed.line (line_like r.line) (line_like taken.line) b refl refl former in
      former_after limits choice now call b o p placed.line j (line_like taken.line) far
      (λ birth of e calm on. over (ap (λ (t : Bool). unless_closed t (line_like taken.line).old) (shut birth of e on))) before

  -- its session is connected on its line
  connected : (birth : ℕ) → IsInOrder (after_answer limits choice now l.number (connect clean) r b)
      → IsInStep largest ids birth ns (reads_answer limits choice now l.number (connect clean) r b) (after_answer limits choice now l.number (connect clean) r b)
      → HasGreeted l.number birth r.window (after_answer limits choice now l.number (connect clean) r b)
      → Former (Some birth) l.number (told_by (after_answer limits choice now l.number (connect clean) r b) (told limits choice now (Input l.number (wire_back r.client r.window r.aliases (answers (connect clean)))) b) (line_like (taken_up r.line))) (after_answer limits choice now l.number (connect clean) r b)
      → Goal
  connected birth order k g former =
      placed_with largest ids ids ns limits choice now call (Some birth) l.number (drop 1 r.line.up) r.line.old r b placed (apart_still ids b.records new.records placed.told (step_fell limits choice now call b))
      (greeted_owns largest ids birth ns l.number r.window q new k placed.told.differ order g, named_there largest ids birth ns q new k placed.told.differ) (joined birth refl number_is (greeted_on l.number birth r.window new g)) former k
      (listed l.number ns (k.lines.own l.number number_is))

-- ---- its session stands: it is resumed, or another begins in its place

module _ (largest : ℕ) (ids : List CopyId) (ns : List ℕ) (limits : Capacity) (choice : MemberChoice) (now : ℕ) (rest : List Back) (r : Receiver) (l : BrokerLine) (s : Session) (b : Broker) (placed : IsPlaced largest ids ns r b)
    (a : IsResuming r l s b) (own : Own r.client s.birth placed.line b) (former : Former (Some s.birth) placed.line (line_like r.line) b) where
  -- what the session was taken from is closed
  shut : (cs : List ℕ) → cs ≡ lines_left (line_of s.birth b) → (birth : ℕ) → Some s.birth ≡ Some birth → r.line.old_number ≡ Some placed.line → session_on placed.line b.lines ≡ Some (Some birth) → is_one_of r.line.old_number cs ≡ true
  shut cs closes birth of its on =
      let same : birth ≡ s.birth = cc in
      ap (λ (x : Option ℕ). is_one_of x cs) its ∙ (ap (is_one_of (Some placed.line)) closes ∙ left_own r.client s.birth placed.line b own (on ∙ ap (λ (n : ℕ). Some (Some n)) same))

  resumed : IsInStep largest ids s.birth ns r b → r.line.up ≡ answers (connect false) ∷ rest → IsInOrder (after_answer limits choice now l.number (connect false) r b)
      → IsPlaced largest ids ns (reads_answer limits choice now l.number (connect false) r b) (after_answer limits choice now l.number (connect false) r b)
  resumed k up order =
      let run = run_of (Some s.birth) largest ids ns r b k placed.told.differ in
      let takes = connect_makes (place_of ids) largest run.0 limits choice now rest r l s b run.1.queue_is a up in
      connected largest ids ns limits choice now false rest r l b placed a.number up s.birth order (resume_in_step largest ids s.birth ns limits choice now rest r l s b k a up)
      (resumed_line limits choice now r l s b a)
      (left_behind largest ids ns limits choice now false rest r l b placed a.number up (Some s.birth) (Some s.birth) l.number former (shut _ takes.closes))

  renewed : IsRenewing limits r l s b → IsInStep largest ids s.birth ns r b → r.line.up ≡ answers (connect true) ∷ rest → IsInOrder (after_answer limits choice now l.number (connect true) r b)
      → IsPlaced largest ids ns (reads_answer limits choice now l.number (connect true) r b) (after_answer limits choice now l.number (connect true) r b)
  renewed m k up order =
      let x = renewed_clears limits choice now r l s b m in
      let front = ended_by x.its s (heard_of now l.number b).now in
      let begins = beginning l r.window r.aliases r.client _ in
      let closes = ap (filter_map closing) x.clears.deeds_are ∙ x.clears.closings begins refl in
      let g = renewed_line limits choice now r l s b m in
      connected largest ids ns limits choice now true rest r l b placed a.number up (suc b.records.births) order (renewal_in_step largest ids s.birth ns limits choice now rest r l s b k m up) g
      (left_behind largest ids ns limits choice now true rest r l b placed a.number up (Some s.birth) (Some (suc b.records.births)) l.number former (shut _ closes))

  stands_on : (clean : Bool) → AreWithin limits → IsSteady b → HasPlace limits r.client b.records → IsInStep largest ids s.birth ns r b → r.line.up ≡ answers (connect clean) ∷ rest → IsInOrder (after_answer limits choice now l.number (connect clean) r b)
      → IsPlaced largest ids ns (reads_answer limits choice now l.number (connect clean) r b) (after_answer limits choice now l.number (connect clean) r b)
  stands_on false within steady place k up order = resumed k up order
  stands_on true within steady place k up order = renewed (may_renew limits r l s b within steady place placed.named a) k up order

-- ---- no session of its name stands: one begins, or there is no place for one

module _ (largest : ℕ) (ids : List CopyId) (ns : List ℕ) (limits : Capacity) (choice : MemberChoice) (now : ℕ) (clean : Bool) (rest : List Back) (r : Receiver) (l : BrokerLine) (b : Broker) (placed : IsPlaced largest ids ns r b)
    (a : IsBeginning limits r l b) (up : r.line.up ≡ answers (connect clean) ∷ rest) (former : Former None placed.line (line_like r.line) b) (k : IsAwaiting largest ids ns r b) where
  begun : nat_lt (length b.records.sessions) limits.sessions ≡ true → IsInOrder (after_answer limits choice now l.number (connect clean) r b)
      → IsPlaced largest ids ns (reads_answer limits choice now l.number (connect clean) r b) (after_answer limits choice now l.number (connect clean) r b)
  begun room order =
      connected largest ids ns limits choice now clean rest r l b placed a.number up (suc b.records.births) order (first_in_step largest ids ns limits choice now clean rest r l b k a room up)
      (first_line limits choice now clean r l b a room)
      (left_behind largest ids ns limits choice now clean rest r l b placed a.number up None (Some (suc b.records.births)) l.number former (λ birth of its on. absurd cc))

  refused : nat_lt (length b.records.sessions) limits.sessions ≡ false → IsIdle l.number b
      → IsPlaced largest ids ns (reads_answer limits choice now l.number (connect clean) r b) (after_answer limits choice now l.number (connect clean) r b)
  refused full idle =
      let n = l.number in
      let call = Input n (wire_back r.client r.window r.aliases (answers (connect clean))) in
      let new = stepped limits choice now call b in
      let out = told limits choice now call b in
      let apart = not_among r.line.old_number n (λ e. placed.apart n a.number e) in
      let gone : session_on n new.lines ≡ None = ap (session_on n) (lines_are limits choice now clean rest r l b a apart full up) ∙ line_none n (heard_of now n b).lines in
      let nobody = none_there n new.lines gone in
      let still : IsIdle n new = record { lines = nobody.0; given = subst (λ (z : ℕ). n ≤ z) (sym (given_is limits choice now clean rest r l b a apart full up)) idle.given } in
      let shut : is_one_of r.line.number out.closed ≡ true =
      ap (λ (o : Option ℕ). is_one_of o out.closed) a.number ∙ (ap (λ (ds : List _). is_one_of (Some n) (filter_map closing ds)) (deeds_are limits choice now clean rest r l b a apart full up) ∙ one_here n) in
      let none : unless_closed (is_one_of r.line.number out.closed) (map packet_like (drop 1 r.line.up)) ≡ [] = ap (λ (t : Bool). unless_closed t (map packet_like (drop 1 r.line.up))) shut in
      placed_with largest ids ids ns limits choice now call None placed.line (drop 1 r.line.up) r.line.old r b placed (apart_still ids b.records new.records placed.told (step_fell limits choice now call b))
      (named_none limits choice now clean rest r l b a apart full up) (closed n a.number none still nobody.1)
      (left_behind largest ids ns limits choice now clean rest r l b placed a.number up None None placed.line former (λ birth of its on. absurd cc))
      (refused_awaiting largest ids ns limits choice now clean rest r l b k a apart full up) placed.its_line
    where
      one_here : (m : ℕ) → is_one_of (Some m) (m ∷ []) ≡ true
      one_here m = rw (nat_eq_equiv.refl m) refl

-- ---- whatever becomes of it

read_placed : (largest : ℕ) (ids : List CopyId) (ns : List ℕ) (limits : Capacity) (choice : MemberChoice) (now : ℕ) (clean : Bool) (rest : List Back) (r : Receiver) (l : BrokerLine) (b : Broker) → IsPlaced largest ids ns r b
    → AreWithin limits → IsSteady b → HasPlace limits r.client b.records → HaveSentNothing b → Awaits r.line.number l b → r.line.up ≡ answers (connect clean) ∷ rest → IsInOrder (after_answer limits choice now l.number (connect clean) r b)
    → IsPlaced largest ids ns (reads_answer limits choice now l.number (connect clean) r b) (after_answer limits choice now l.number (connect clean) r b)
read_placed largest ids ns limits choice now clean rest r l b placed within steady place unsent here up order = by placed.birth placed.along placed.seat.his placed.seat.former
  where
    by : (o : Option ℕ) → GoesAlong o largest ids ns r b → IsHis r.client o placed.line b → Former o placed.line (line_like r.line) b
        → IsPlaced largest ids ns (reads_answer limits choice now l.number (connect clean) r b) (after_answer limits choice now l.number (connect clean) r b)
    by None along his former =
        let a : IsBeginning limits r l b = may_begin limits r l b within steady unsent placed.named here his (spared_none placed.line r b former) in
        elim (cases_Bool (nat_lt (length b.records.sessions) limits.sessions)) [
          | inl room ↦ begun largest ids ns limits choice now clean rest r l b placed a up former along room order
          | inr full ↦ refused largest ids ns limits choice now clean rest r l b placed a up former along full here.idle
        ]
    by (Some birth) along his former =
        let x = kept_of r.client birth placed.line b his.0 his.1 placed.named.short placed.named.plain in
        let s = x.0 in
        let own : Own r.client s.birth placed.line b = subst (λ (z : ℕ). Own r.client z placed.line b) (sym x.1) his.0 in
        let behind : Former (Some s.birth) placed.line (line_like r.line) b = subst (λ (z : ℕ). Former (Some z) placed.line (line_like r.line) b) (sym x.1) former in
        let k : IsInStep largest ids s.birth ns r b = subst (λ (z : ℕ). IsInStep largest ids z ns r b) (sym x.1) along in
        let a : IsResuming r l s b = may_resume placed.line r l s b unsent here x.2 own (spared_left r.client s.birth placed.line r b own behind) in
        stands_on largest ids ns limits choice now rest r l s b placed a own behind clean within steady place k up order

-- ---- as an event

-- so does a CONNECT on its line
pub connected_stands : (first : List CopyId) (c : List ℕ) (clean : Bool) (rest : List Back) (largest : ℕ) (set : Setting) (r : Receiver) (w : World) → Stands first c largest set.limits w → receiver_named c w ≡ Some r → HaveSentNothing w.broker
    → r.line.up ≡ answers (connect clean) ∷ rest → read_first spending set (to_broker c) w ≡ false → Stands first c largest set.limits (asks set (to_broker c) w)
connected_stands first c clean rest largest set r w s e unsent up unspent = elim (front placed.birth placed.line (answers (connect clean)) rest r w.broker placed.seat.present up) [
  | inl j ↦
      let run = run_of placed.birth largest s.ids s.ns r w.broker placed.along placed.told.differ in
      absurd (calm_front clean rest r.line.up up (calm_up (place_of s.ids) largest run.0 r w.broker run.1 (connected_linked placed.line j.birth r.line.number w.broker j.at j.there)))
  | inr h ↦
      let l = h.1.line in
      let a = s.standing.around in
      first_read first c (answers (connect clean)) rest largest set r w s e l.number h.1.awaits.number up
      (λ after_. goes_as largest s.ids s.ns _ _ (read_placed largest s.ids s.ns set.limits set.choice w.now clean rest r l w.broker placed a.within a.steady (its_place c set.limits s.ns w r a e) unsent h.1.awaits up
      (order_of (after_answer set.limits set.choice w.now l.number (connect clean) r w.broker) after_))) unspent
]
  where
    placed : IsPlaced largest s.ids s.ns r w.broker
    placed = subst (IsSeen largest s.ids s.ns w.broker) e s.standing.seen
