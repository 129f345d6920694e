-- A copy enters the queue of a receiver's session, and the oldest that wait make way for it; copies that wait expire: each is
-- an event of its hop (MQTT 5.0, 3.3.2.3.3, 3.3.4, 4.6).
use Rattle.std.proofs.Common.{◌≡◌, ℕ, zero, suc, ◌+◌, ◌-◌, ◌<◌, Bool, true, false, ◌&&◌, cond, not, List, [], ◌∷◌, ◌++◌, length, map, Option, Some, None, nat_eq, nat_lt, refl, sym, ap, subst, ◌∙◌, arith, inl, inr}
use Rattle.std.specs.Prelude.{flat_map, is_some, option_map, slice_get, max}
use Rattle.std.specs.List.{AllByRecursion}
use Rattle.std.proofs.lemmas.Bool.{cases_Bool, eqb-true}
use Rattle.std.proofs.lemmas.Cmp.{nat_eq_equiv}
use Rattle.std.proofs.lemmas.List.Sums.{sum_by-cons}
use Rattle.std.proofs.lemmas.Option.{slice_get-map}
use Rattle.mqtt_base.specs.declared.limits.TheConstants.{QUEUE_LIMIT}
use Rattle.mqtt_base.specs.declared.session.CopyId.{CopyId}
use Rattle.mqtt_base.specs.declared.session.Ending.{Ending}
use Rattle.mqtt_base.specs.declared.session.Ending.TheVariants.{Dropped, Expired}
use Rattle.mqtt_base.specs.declared.session.Phase.TheVariants.{Waiting}
use Rattle.mqtt_flow.specs.outbound.Outbound.{dropped, dropped_at, expired, expired_at, gives_way, has_room, is_late, is_waiting, staying, unsent, way_made}
use Rattle.mqtt_flow.specs.outbound.OutboundWorld.{Lot, World as Hop, enter, enters, ended_by, expire, is_granted, lot_after, lots_after, past, pushes, queue_of, renewed, standing, start, step, take_turn, take_turns}
use Rattle.mqtt_flow.specs.outbound.Queue as flow
use Rattle.mqtt_flow.specs.outbound.Queue.{entering, greatest_place, next_place}
use Rattle.mqtt_flow.specs.declared.outbound.entry.Entry.{Entry as FlowEntry}
use Rattle.mqtt_flow.specs.declared.outbound.entry.Full.{Full}
use Rattle.mqtt_flow.specs.declared.outbound.entry.Full.TheVariants.{Refuse, Drop}
use Rattle.mqtt_flow.specs.declared.outbound.entry.Turn.{Turn}
use Rattle.mqtt_flow.specs.declared.outbound.entry.Turn.TheVariants as turns
use Rattle.mqtt_flow.proofs.outbound_lemmas.outbound.ReceiverReads.{begins}
use Rattle.mqtt_flow.proofs.outbound_lemmas.outbound.Room.{below_limit}
use Rattle.mqtt_flow.proofs.outbound_lemmas.outbound.SessionSteps.{run_leads, sound_start}
use Rattle.mqtt_flow.specs.inbound.Identifiers.{ids_without, is_among}
use Rattle.mqtt_packet.specs.declared.codec.packet.Packet.{Packet}
use Rattle.mqtt_packet.specs.declared.codec.packet.Packet.TheVariants as packet
use Rattle.mqtt_packet.specs.declared.codec.publish.Delivery.{Delivery}
use Rattle.mqtt_packet.specs.declared.codec.publish.Delivery.TheVariants as delivery
use Rattle.mqtt_world_model.specs.model.Ends.{Entry, Receiver}
use Rattle.mqtt_world_model.specs.model.Lines.{Down}
use Rattle.mqtt_world_model.specs.model.Hops.{IsOnly}
use Rattle.mqtt_world_model.specs.model.Seen.{is_linked}
use Rattle.mqtt_world_model.proofs.model_lemmas.others.Names.{named_is, only_deed}
use Rattle.mqtt_world_model.proofs.model_lemmas.others.Quiet.{quiet_line, session_on}
use Rattle.mqtt_world_model.proofs.model_lemmas.seats.Seeing.{linked_is, linked_of}
use Rattle.mqtt_records.specs.messages.Queue.{CopyRow}
use Rattle.mqtt_records.specs.declared.messages.message.MessageCopy.{MessageCopy}
use Rattle.mqtt_records.specs.state.Records.{changed_all}
use Rattle.mqtt_records.specs.state.Session.{birth_of, copy_place, with_copy, without_copy}
use Rattle.mqtt_records.specs.declared.state.session.Session.{Session}
use Rattle.mqtt_routes.specs.routing.Intended.{greatest}
use Rattle.mqtt_records.proofs.lists_lemmas.LookUps.{put_row-last}
use Rattle.mqtt_records.proofs.lists_lemmas.OrderLemmas.{apart}
use Rattle.mqtt_records.specs.lists.Order.{IsBelow, has_row, put_row, remove_row, row_at}
use Rattle.mqtt_rules.proofs.step_lemmas.flight.FlightRows.{change_row-here, found_key}
use Rattle.mqtt_rules.proofs.step_lemmas.acts.Goods.{after_append}
use Rattle.mqtt_rules.proofs.step_lemmas.order.OrderedQueues.{GivesWay, below_own, dropped_gives, length-mapped}
use Rattle.mqtt_rules.specs.step.Deeds.{At, Deed, Enter, Leave, after, after_all, new_entry, part_rows_of, whose}
use Rattle.mqtt_rules.specs.step.Outbound.{enter_deeds, leave_deeds, of_entry, queue_limits, since}
use Rattle.mqtt_rules.specs.step.Tick.{lapse_deeds}
use Rattle.mqtt_rules.specs.step.State.{Line as BrokerLine, Broker, Env, entry_on, next_of, queue_on, queued_copy, session_at, session_named}
use Rattle.mqtt_world_laws.specs.receiver.Entering.{AreKnown, IsReceiving, MakesWay, MayEnter, RunsStill, RunsWith}
use Rattle.mqtt_world_laws.specs.receiver.Handing.{IsRun}
use Rattle.mqtt_world_laws.specs.receiver.Seen.{AreQueued, Numbering, StandOn, content_of, lot_on, seen, still_standing, went_in}
use Rattle.mqtt_world_laws.specs.receiver.Tags.{AreNumbered, AreTagged, IsTagged, IsTaggedBy, IsTaggedWith, Names, WasTagged, id_of}
use Rattle.mqtt_world_laws.proofs.receiver_lemmas.own.Answering.{its_went, went_left}
use Rattle.mqtt_world_laws.proofs.receiver_lemmas.queue.Known.{known_left}
use Rattle.mqtt_world_laws.proofs.receiver_lemmas.queue.Marks.{lots_by}
use Rattle.mqtt_world_laws.proofs.receiver_lemmas.connects.Refusals.{run_append}
use Rattle.mqtt_world_laws.proofs.receiver_lemmas.connects.Resuming.{renewed_standing, still_renewed}
use Rattle.mqtt_world_laws.proofs.receiver_lemmas.queue.Turns.{ids_after, left_lots, same_entries}

-- ---- room, and who makes way: whether a PUBLISH went out on a line is not looked at

-- a new connection keeps the count of copies
pub long_renewed : (lots : List Lot) → length (queue_of (map renewed lots)) ≡ length (queue_of lots)
long_renewed [] = refl
long_renewed (standing e m ∷ ls) = ap suc (long_renewed ls)
long_renewed (past ending e m ∷ ls) = long_renewed ls

staying_renewed : (full : Full) (from : ℕ) (lots : List Lot) → staying full from (queue_of (map renewed lots)) ≡ staying full from (queue_of lots)
staying_renewed Refuse from lots = long_renewed lots
staying_renewed Drop from [] = refl
staying_renewed Drop from (past ending e m ∷ ls) = staying_renewed Drop from ls
staying_renewed Drop from (standing e m ∷ ls) =
    sum_by-cons (λ x. cond (not (gives_way from x)) 1 0) (unsent e) (queue_of (map renewed ls))
    ∙ (ap (λ (n : ℕ). cond (not (gives_way from e)) 1 0 + n) (staying_renewed Drop from ls)
    ∙ sym (sum_by-cons (λ x. cond (not (gives_way from x)) 1 0) e (queue_of ls)))

dropped_renewed : (k from : ℕ) (lots : List Lot) → dropped k from (queue_of (map renewed lots)) ≡ dropped k from (queue_of lots)
dropped_renewed k from [] = refl
dropped_renewed k from (past ending e m ∷ ls) = dropped_renewed k from ls
dropped_renewed zero from (standing e m ∷ ls) = refl
dropped_renewed (suc k) from (standing e m ∷ ls) = by (gives_way from e) (dropped_renewed k from ls) (dropped_renewed (suc k) from ls)
  where
    by : (t : Bool) → dropped k from (queue_of (map renewed ls)) ≡ dropped k from (queue_of ls) → dropped (suc k) from (queue_of (map renewed ls)) ≡ dropped (suc k) from (queue_of ls)
        → dropped_at t (unsent e) (dropped k from (queue_of (map renewed ls))) (dropped (suc k) from (queue_of (map renewed ls)))
        ≡ dropped_at t e (dropped k from (queue_of ls)) (dropped (suc k) from (queue_of ls))
    by true fewer more = ap (λ (ts : List Turn). turns.Leave e.place Dropped ∷ ts) fewer
    by false fewer more = more

-- ---- copies that leave, whether the session is connected or not

renewed_leave : (place : ℕ) (ending : Ending) (lots : List Lot) → still_standing (map renewed (lots_after (turns.Leave place ending) lots)) ≡ still_standing (lots_after (turns.Leave place ending) (map renewed lots))
renewed_leave place ending [] = refl
renewed_leave place ending (past by_it e m ∷ ls) = renewed_leave place ending ls
renewed_leave place ending (standing e m ∷ ls) = by (nat_eq e.place place) (renewed_leave place ending ls)
  where
    by : (t : Bool) → still_standing (map renewed (lots_after (turns.Leave place ending) ls)) ≡ still_standing (lots_after (turns.Leave place ending) (map renewed ls))
        → still_standing (renewed (ended_by t ending e m) ∷ map renewed (lots_after (turns.Leave place ending) ls))
        ≡ still_standing (ended_by t ending (unsent e) m ∷ lots_after (turns.Leave place ending) (map renewed ls))
    by true h = h
    by false h = ap (λ (xs : List Lot). standing (unsent e) m ∷ xs) h

left_stand : (place : ℕ) (ending : Ending) (lots : List Lot) (queue : List CopyRow) (o : Option (List ℕ)) → StandOn lots queue o
    → StandOn (lots_after (turns.Leave place ending) lots) (remove_row copy_place place queue) (option_map (ids_without place) o)
left_stand place ending lots queue None h =
    sym (still_renewed (lots_after (turns.Leave place ending) lots))
    ∙ (renewed_leave place ending lots ∙ left_lots (map renewed lots) [] place ending queue (still_renewed lots ∙ h))
left_stand place ending lots queue (Some went) h = left_lots lots went place ending queue h

below_has : (n p : ℕ) (queue : List CopyRow) → IsBelow copy_place n queue → has_row copy_place p queue ≡ true → p < n
below_has n p [] low there = absurd cc
below_has n p (e ∷ es) low there = elim (cases_Bool (nat_eq e.place p)) [
  | inl here ↦ let is = eqb-true e.place p here in let less = low.0 in omega (arith, is, less)
  | inr further ↦ below_has n p es low.1 (rw further at there)
]

-- so a new place is none of them
new_place : (n : ℕ) (went : List ℕ) (queue : List CopyRow) → IsBelow copy_place n queue → AreKnown queue (Some went) → is_among n went ≡ false
new_place n [] queue low h = refl
new_place n (p ∷ ps) queue low h =
    let less = below_has n p queue low h.0 in
    rw (apart p n (λ same. omega (arith, same, less))) (new_place n ps queue low h.1)

known_more : (queue : List CopyRow) (row : CopyRow) (o : Option (List ℕ)) → AreKnown queue o → AreKnown (queue ++ row ∷ []) o
known_more queue row None h = tt
known_more queue row (Some []) h = tt
known_more queue row (Some (p ∷ ps)) h = (has_still p queue h.0, known_more queue row (Some ps) h.1)
  where
    has_still : (k : ℕ) (q : List CopyRow) → has_row copy_place k q ≡ true → has_row copy_place k (q ++ row ∷ []) ≡ true
    has_still k [] there = absurd cc
    has_still k (e ∷ es) there = elim (cases_Bool (nat_eq e.place k)) [
      | inl here ↦ rw here refl
      | inr further ↦ rw further (has_still k es (rw further at there))
    ]

-- ---- places of the hop's queue

greatest_renewed : (lots : List Lot) → greatest_place (queue_of (map renewed lots)) ≡ greatest_place (queue_of lots)
greatest_renewed [] = refl
greatest_renewed (standing e m ∷ ls) = ap (max e.place) (greatest_renewed ls)
greatest_renewed (past ending e m ∷ ls) = greatest_renewed ls

greatest_rows : (queue : List CopyRow) → greatest_place (map (entry_on []) queue) ≡ greatest (map copy_place queue)
greatest_rows [] = refl
greatest_rows (e ∷ es) = ap (max e.place) (greatest_rows es)

next_is : (lots : List Lot) (queue : List CopyRow) (o : Option (List ℕ)) → StandOn lots queue o → next_place (queue_of lots) ≡ next_of copy_place queue
next_is lots queue o h =
    let rows : queue_of (map renewed lots) ≡ map (entry_on []) queue = same_entries (map renewed lots) [] queue (renewed_standing lots queue o h) in
    let same : greatest_place (queue_of lots) ≡ greatest (map copy_place queue) = sym (greatest_renewed lots) ∙ (ap greatest_place rows ∙ greatest_rows queue) in
    ap (λ (n : ℕ). n + 1) same ∙ omega arith

-- a queue has as many as stand
pub long_is : (lots : List Lot) (queue : List CopyRow) (o : Option (List ℕ)) → StandOn lots queue o → length queue ≡ length (queue_of lots)
long_is lots queue o h =
    let rows : queue_of (map renewed lots) ≡ map (entry_on []) queue = same_entries (map renewed lots) [] queue (renewed_standing lots queue o h) in
    sym (length-mapped (entry_on []) queue) ∙ (ap length (sym rows) ∙ long_renewed lots)

-- ---- the hop's turns

leave_queue : (place : ℕ) (ending : Ending) (lots : List Lot) → queue_of (lots_after (turns.Leave place ending) lots) ≡ flow.after (turns.Leave place ending) (queue_of lots)
leave_queue place ending [] = refl
leave_queue place ending (past by_it e m ∷ ls) = leave_queue place ending ls
leave_queue place ending (standing e m ∷ ls) = elim (cases_Bool (nat_eq e.place place)) [
  | inl goes ↦ rw goes (leave_queue place ending ls)
  | inr stays ↦ rw stays (ap (λ (es : List FlowEntry). e ∷ es) (leave_queue place ending ls))
]

leaves_queue : (first : ℕ) (q : List CopyRow) (ts : List Turn) (lots : List Lot) → AllByRecursion (GivesWay first q) ts → queue_of (lots_by ts lots) ≡ flow.after_all ts (queue_of lots)
leaves_queue first q [] lots h = refl
leaves_queue first q (turns.Leave place ending ∷ ts) lots h =
    leaves_queue first q ts (lots_after (turns.Leave place ending) lots) h.1 ∙ ap (flow.after_all ts) (leave_queue place ending lots)
leaves_queue first q (turns.Send place i ∷ ts) lots h = absurd h.0
leaves_queue first q (turns.Resend place i ∷ ts) lots h = absurd h.0
leaves_queue first q (turns.Release place i order ∷ ts) lots h = absurd h.0
leaves_queue first q (turns.Outgrow place i order ∷ ts) lots h = absurd h.0
leaves_queue first q (turns.Repeat i ∷ ts) lots h = absurd h.0
leaves_queue first q (turns.Unknown i ∷ ts) lots h = absurd h.0

leaves_made : (first : ℕ) (q : List CopyRow) (ts : List Turn) (w : Hop) → AllByRecursion (GivesWay first q) ts → take_turns ts w ≡ record w { copies = lots_by ts w.copies }
leaves_made first q [] w h = refl
leaves_made first q (turns.Leave place ending ∷ ts) w h = leaves_made first q ts (take_turn (turns.Leave place ending) w) h.1
leaves_made first q (turns.Send place i ∷ ts) w h = absurd h.0
leaves_made first q (turns.Resend place i ∷ ts) w h = absurd h.0
leaves_made first q (turns.Release place i order ∷ ts) w h = absurd h.0
leaves_made first q (turns.Outgrow place i order ∷ ts) w h = absurd h.0
leaves_made first q (turns.Repeat i ∷ ts) w h = absurd h.0
leaves_made first q (turns.Unknown i ∷ ts) w h = absurd h.0

-- ---- lists

still_push : (lots : List Lot) (e : FlowEntry) (m : _) → still_standing (lots ++ standing e m ∷ []) ≡ still_standing lots ++ standing e m ∷ []
still_push [] e m = refl
still_push (standing f k ∷ ls) e m = ap (λ (xs : List Lot). standing f k ∷ xs) (still_push ls e m)
still_push (past ending f k ∷ ls) e m = still_push ls e m

map_push : {X Y : Type 0} (f : X → Y) (xs : List X) (x : X) → map f (xs ++ x ∷ []) ≡ map f xs ++ f x ∷ []
map_push f [] x = refl
map_push f (y ∷ ys) x = ap (λ (zs : List _). f y ∷ zs) (map_push f ys x)

-- a copy keeps its place if more come behind
pub slice_more : (ids more : List CopyId) (n : ℕ) (c : CopyId) → slice_get ids n ≡ Some c → slice_get (ids ++ more) n ≡ Some c
slice_more [] more n c h = absurd cc
slice_more (x ∷ xs) more zero c h = h
slice_more (x ∷ xs) more (suc n) c h = slice_more xs more n c h

-- ---- tags stay, with more copies

module _ (number : Numbering) (ids more : List CopyId) where
  names_more : (o : Option CopyId) → Names number ids o → Names number (ids ++ more) o
  names_more None h = absurd h
  names_more (Some c) h = slice_more ids more (number c) c h

  tag_more : (o : Option CopyId) (d : Delivery) → IsTaggedBy number ids o d → IsTaggedBy number (ids ++ more) o d
  tag_more o delivery.AtMostOnce h = tt
  tag_more o (delivery.AtLeastOnce dup i) h = names_more o h
  tag_more o (delivery.ExactlyOnce dup i) h = names_more o h

  packet_more : (o : Option CopyId) (x : Packet) → IsTaggedWith number ids o x → IsTaggedWith number (ids ++ more) o x
  packet_more o (packet.Publish p) h = tag_more o p.delivery h
  packet_more o (packet.Connect a) h = tt
  packet_more o (packet.Connack a) h = tt
  packet_more o (packet.Puback a) h = tt
  packet_more o (packet.Pubrec a) h = tt
  packet_more o (packet.Pubrel a) h = tt
  packet_more o (packet.Pubcomp a) h = tt
  packet_more o (packet.Subscribe a) h = tt
  packet_more o (packet.Suback a) h = tt
  packet_more o (packet.Unsubscribe a) h = tt
  packet_more o (packet.Unsuback a) h = tt
  packet_more o packet.Pingreq h = tt
  packet_more o packet.Pingresp h = tt
  packet_more o (packet.Disconnect a) h = tt
  packet_more o (packet.Auth a) h = tt

  downs_more : (ds : List Down) → AllByRecursion (IsTagged number ids) ds → AllByRecursion (IsTagged number (ids ++ more)) ds
  downs_more [] h = tt
  downs_more (d ∷ ds) h = (packet_more d.copy d.packet h.0, downs_more ds h.1)

  entries_more : (es : List Entry) → AllByRecursion (WasTagged number ids) es → AllByRecursion (WasTagged number (ids ++ more)) es
  entries_more [] h = tt
  entries_more (e ∷ es) h = (names_more e.copy h.0, entries_more es h.1)

  -- what is under way is tagged still when more copies enter
  pub tags_more : (r : Receiver) → AreTagged number ids r → AreTagged number (ids ++ more) r
  tags_more r h = record { down = downs_more r.line.down h.down; ledger = entries_more r.ledger h.ledger; once = entries_more r.once h.once }

-- ---- the deeds

module _ (client : List ℕ) (s : Session) (ids : List CopyId) (lines_first : List BrokerLine) where
  abbrev with_queue : List CopyRow → Session
  with_queue queue = record s { queue = queue }

  record Stays (queue : List CopyRow) (lots : List Lot) (b : Broker) : Type 0 where
    pub session : session_at s.birth b.records ≡ Some (with_queue queue)
    pub queued : StandOn lots queue (its_went s.birth b.lines)
    pub known : AreKnown queue (its_went s.birth b.lines)
    pub lines : (m : ℕ) → session_on m b.lines ≡ session_on m lines_first
    pub only : IsOnly client s.birth b.records
    pub ids_are : map id_of lots ≡ ids

  left_stays : (e : CopyRow) (ending : Ending) (queue : List CopyRow) (lots : List Lot) (b : Broker) → Stays queue lots b
      → Stays (remove_row copy_place e.place queue) (lots_after (turns.Leave e.place ending) lots) (after (At (whose s) (Leave e ending)) b)
  left_stays e ending queue lots b h =
      let went = went_left s.birth e.place b.lines in
      record {
        session = ap (λ (o : Option Session). session_at s.birth (changed_all (part_rows_of (Leave e ending) o) b.records)) h.session
            ∙ change_row-here birth_of s.birth (without_copy e.place) (with_queue queue) b.records.sessions (λ y. refl) h.session;
        queued = subst (λ (o : Option (List ℕ)). StandOn (lots_after (turns.Leave e.place ending) lots) (remove_row copy_place e.place queue) o) (sym went) (left_stand e.place ending lots queue (its_went s.birth b.lines) h.queued);
        known = subst (λ (o : Option (List ℕ)). AreKnown (remove_row copy_place e.place queue) o) (sym went) (known_left e.place queue (its_went s.birth b.lines) h.known);
        lines = λ m. quiet_line s.birth m b.now (At (whose s) (Leave e ending)) b.lines (inr tt) ∙ h.lines m;
        only = only_deed client s.birth (At (whose s) (Leave e ending)) b.records tt h.only;
        ids_are = ids_after (turns.Leave e.place ending) lots ∙ h.ids_are;
      }

  abbrev StaysAfter : List Turn → List Lot → List Deed → Broker → Type 0
  StaysAfter ts lots ds b = (queue : List CopyRow) × Stays queue (lots_by ts lots) (after_all ds b)

  leaves_stay : (first : ℕ) (ts : List Turn) (queue : List CopyRow) (lots : List Lot) (b : Broker) → AllByRecursion (GivesWay first s.queue) ts → Stays queue lots b
      → StaysAfter ts lots (flat_map (leave_deeds s) ts) b
  leaves_stay first [] queue lots b h stays = (queue, stays)
  leaves_stay first (turns.Leave place ending ∷ ts) queue lots b h stays =
      by (λ e. leaves_stay first ts (remove_row copy_place e.place queue) (lots_after (turns.Leave e.place ending) lots) (after (At (whose s) (Leave e ending)) b) h.1 (left_stays e ending queue lots b stays))
      (row_at copy_place place s.queue) refl h.0.0
    where
      by : ((e : CopyRow) → StaysAfter ts (lots_after (turns.Leave e.place ending) lots) (flat_map (leave_deeds s) ts) (after (At (whose s) (Leave e ending)) b))
          → (o : Option CopyRow) → row_at copy_place place s.queue ≡ o → is_some o ≡ true
          → StaysAfter (turns.Leave place ending ∷ ts) lots (of_entry o (λ e. At (whose s) (Leave e ending) ∷ []) ++ flat_map (leave_deeds s) ts) b
      by more None at there = absurd cc
      by more (Some e) at there =
          let is : e.place ≡ place = found_key copy_place place e s.queue at in
          subst (λ (k : ℕ). StaysAfter (turns.Leave k ending ∷ ts) lots (At (whose s) (Leave e ending) ∷ flat_map (leave_deeds s) ts) b) is (more e)
  leaves_stay first (turns.Send place i ∷ ts) queue lots b h stays = absurd h.0
  leaves_stay first (turns.Resend place i ∷ ts) queue lots b h stays = absurd h.0
  leaves_stay first (turns.Release place i order ∷ ts) queue lots b h stays = absurd h.0
  leaves_stay first (turns.Outgrow place i order ∷ ts) queue lots b h stays = absurd h.0
  leaves_stay first (turns.Repeat i ∷ ts) queue lots b h stays = absurd h.0
  leaves_stay first (turns.Unknown i ∷ ts) queue lots b h stays = absurd h.0

  -- the copy enters behind those that are left
  abbrev pushed_lot : MessageCopy → List Lot → Lot
  pushed_lot copy lots = standing (entering (queued_copy copy) (queue_of lots)) (content_of copy)

  new_lot : (copy : MessageCopy) (lots : List Lot) (queue : List CopyRow) (went : List ℕ) → next_place (queue_of lots) ≡ next_of copy_place queue → is_among (next_of copy_place queue) went ≡ false
      → pushed_lot copy lots ≡ lot_on went (new_entry copy queue)
  new_lot copy lots queue went place new =
      let here = sym new in
      λ i. standing (record { place = place i; copy = queued_copy copy; phase = Waiting; here = here i }) (content_of copy)

  pushed_stand : (copy : MessageCopy) (lots : List Lot) (queue : List CopyRow) (o : Option (List ℕ)) → StandOn lots queue o → AreKnown queue o
      → StandOn (lots ++ pushed_lot copy lots ∷ []) (queue ++ new_entry copy queue ∷ []) o
  pushed_stand copy lots queue None h known =
      let lot = new_lot copy lots queue [] (next_is lots queue None h) refl in
      ap (map renewed) (still_push lots (entering (queued_copy copy) (queue_of lots)) (content_of copy))
      ∙ (map_push renewed (still_standing lots) (pushed_lot copy lots)
      ∙ (ap (λ (xs : List Lot). xs ++ pushed_lot copy lots ∷ []) h
      ∙ (ap (λ (x : Lot). map (lot_on []) queue ++ x ∷ []) lot ∙ sym (map_push (lot_on []) queue (new_entry copy queue)))))
  pushed_stand copy lots queue (Some went) h known =
      let lot = new_lot copy lots queue went (next_is lots queue (Some went) h) (new_place (next_of copy_place queue) went queue (below_own queue) known) in
      still_push lots (entering (queued_copy copy) (queue_of lots)) (content_of copy)
      ∙ (ap (λ (xs : List Lot). xs ++ pushed_lot copy lots ∷ []) h
      ∙ (ap (λ (x : Lot). map (lot_on went) queue ++ x ∷ []) lot ∙ sym (map_push (lot_on went) queue (new_entry copy queue))))

  enters_stay : (copy : MessageCopy) (queue : List CopyRow) (lots : List Lot) (b : Broker) → length queue < QUEUE_LIMIT → Stays queue lots b
      → (session_at s.birth (after (At (whose s) (Enter copy)) b).records ≡ Some (with_queue (queue ++ new_entry copy queue ∷ [])))
      × StandOn (lots ++ pushed_lot copy lots ∷ []) (queue ++ new_entry copy queue ∷ []) (its_went s.birth (after (At (whose s) (Enter copy)) b).lines)
  enters_stay copy queue lots b less h =
      let row = new_entry copy queue in
      let pushed : put_row copy_place QUEUE_LIMIT row queue ≡ queue ++ row ∷ [] = put_row-last copy_place QUEUE_LIMIT row queue (below_own queue) less in (
        ap (λ (o : Option Session). session_at s.birth (changed_all (part_rows_of (Enter copy) o) b.records)) h.session
            ∙ (change_row-here birth_of s.birth (with_copy row) (with_queue queue) b.records.sessions (λ y. refl) h.session ∙ ap (λ (q : List CopyRow). Some (with_queue q)) pushed),
        pushed_stand copy lots queue (its_went s.birth b.lines) h.queued h.known,
      )

-- ---- who makes way

abbrev IsDrop : Turn → Type 0
IsDrop (turns.Leave place ending) = ending ≡ Dropped
IsDrop t = ⊥

dropped_one : (t : Bool) (e : FlowEntry) (fewer as_many : List Turn) → AllByRecursion IsDrop fewer → AllByRecursion IsDrop as_many → AllByRecursion IsDrop (dropped_at t e fewer as_many)
dropped_one true e fewer as_many f h = (refl, f)
dropped_one false e fewer as_many f h = h

all_dropped : (k since : ℕ) (es : List FlowEntry) → AllByRecursion IsDrop (dropped k since es)
all_dropped k since [] = tt
all_dropped zero since (e ∷ es) = tt
all_dropped (suc k) since (e ∷ es) = dropped_one (gives_way since e) e (dropped k since es) (dropped (suc k) since es) (all_dropped k since es) (all_dropped (suc k) since es)

-- a copy may make way by staying
pub way_same : (o : Option Lot) → MakesWay o o
way_same None = tt
way_same (Some (standing e m)) = refl
way_same (Some (past x e m)) = refl

-- two makings of way are one
pub way_trans : (o p q : Option Lot) → MakesWay o p → MakesWay p q → MakesWay o q
way_trans None p q a b = tt
way_trans (Some (standing e m)) None q a b = absurd a
way_trans (Some (standing e m)) (Some (standing f k)) None a b = absurd b
way_trans (Some (standing e m)) (Some (standing f k)) (Some (standing z l)) a b = b ∙ a
way_trans (Some (standing e m)) (Some (standing f k)) (Some (past y z l)) a b = b
way_trans (Some (standing e m)) (Some (past x f k)) None a b = absurd b
way_trans (Some (standing e m)) (Some (past x f k)) (Some (standing z l)) a b = absurd b
way_trans (Some (standing e m)) (Some (past x f k)) (Some (past y z l)) a b = b ∙ a
way_trans (Some (past x e m)) None q a b = absurd a
way_trans (Some (past x e m)) (Some (standing f k)) q a b = absurd a
way_trans (Some (past x e m)) (Some (past y f k)) None a b = absurd b
way_trans (Some (past x e m)) (Some (past y f k)) (Some (standing z l)) a b = absurd b
way_trans (Some (past x e m)) (Some (past y f k)) (Some (past v z l)) a b = b ∙ a

way_turn : (t : Turn) (o : Option Lot) → IsDrop t → MakesWay o (option_map (lot_after t) o)
way_turn t None h = tt
way_turn t (Some (past x e m)) h = refl
way_turn (turns.Leave place ending) (Some (standing e m)) h = by (nat_eq e.place place)
  where
    by : (t : Bool) → MakesWay (Some (standing e m)) (Some (ended_by t ending e m))
    by true = h
    by false = refl
way_turn t (Some (standing e m)) h = absurd h

way_turns : (ts : List Turn) (lots : List Lot) (n : ℕ) → AllByRecursion IsDrop ts → MakesWay (slice_get lots n) (slice_get (lots_by ts lots) n)
way_turns [] lots n h = way_same (slice_get lots n)
way_turns (t ∷ ts) lots n h =
    way_trans (slice_get lots n) (slice_get (lots_after t lots) n) (slice_get (lots_by ts (lots_after t lots)) n)
    (subst (MakesWay (slice_get lots n)) (sym (slice_get-map (lot_after t) lots n)) (way_turn t (slice_get lots n) h.0)) (way_turns ts (lots_after t lots) n h.1)

way_behind : (o : Option Lot) (lots : List Lot) (x : Lot) (n : ℕ) → MakesWay o (slice_get lots n) → MakesWay o (slice_get (lots ++ x ∷ []) n)
way_behind None lots x n h = tt
way_behind (Some (standing e m)) [] x n h = absurd h
way_behind (Some (past y e m)) [] x n h = absurd h
way_behind (Some (standing e m)) (l ∷ ls) x zero h = h
way_behind (Some (past y e m)) (l ∷ ls) x zero h = h
way_behind (Some (standing e m)) (l ∷ ls) x (suc n) h = way_behind (Some (standing e m)) ls x n h
way_behind (Some (past y e m)) (l ∷ ls) x (suc n) h = way_behind (Some (past y e m)) ls x n h

-- ---- what the receiver sees of it

-- if the same stand on lines, the same are linked
pub linked_same : (o : Option ℕ) (b c : Broker) → ((m : ℕ) → session_on m c.lines ≡ session_on m b.lines) → is_linked o c ≡ is_linked o b
linked_same None b c h = refl
linked_same (Some m) b c h = linked_is m c ∙ (ap linked_of (h m) ∙ sym (linked_is m b))

-- a copy that enters goes on with the hop
pub entering_runs : (number : Numbering) (largest : ℕ) (copies : List Lot) (env : Env) (copy : MessageCopy) (r : Receiver) (s : Session) (b : Broker)
    → IsRun number largest copies r b → IsReceiving r s b → MayEnter env copy s → AreNumbered number (map id_of copies ++ copy.id ∷ [])
    → RunsWith number largest copies copy.id r (after_all (enter_deeds env copy s) b)
entering_runs number largest copies env copy r s b h x may numbered =
    let ids = map id_of copies in
    let w = seen number copies r b in
    let limits = queue_limits env in
    let first = since env s in
    let ts = way_made limits first (queue_on [] s) in
    let gives = dropped_gives (length (queue_on [] s) + 1 - env.limits.queue) first s.birth s.queue in
    let named : session_named r.client b.records ≡ Some s = named_is r.client s.birth b.records s x.only x.session x.client in
    let queued : StandOn copies s.queue (went_in s.birth b) = subst (λ (o : Option Session). AreQueued copies o b) named h.queue_is in
    let rows : queue_of (map renewed copies) ≡ queue_on [] s = same_entries (map renewed copies) [] s.queue (renewed_standing copies s.queue (went_in s.birth b) queued) in
    let turns_are : ts ≡ way_made limits first (queue_of copies) =
    ap (way_made limits first) (sym rows)
    ∙ (ap (λ (k : ℕ). dropped (k + 1 - limits.queue) first (queue_of (map renewed copies))) (long_renewed copies) ∙ dropped_renewed (length (queue_of copies) + 1 - limits.queue) first copies) in
    let room : has_room limits first (queue_of copies) ≡ true =
    ap (λ (k : ℕ). nat_lt k limits.queue) (sym (staying_renewed limits.full first copies) ∙ ap (staying limits.full first) rows) ∙ may.room in
    let ds = flat_map (leave_deeds s) ts in
    let c = after_all ds b in
    let at_start : Stays r.client s ids b.lines s.queue copies b = record { session = x.session; queued = queued; known = x.known; lines = λ m. refl; only = x.only; ids_are = refl } in
    let left = leaves_stay r.client s ids b.lines first ts s.queue copies b gives at_start in
    let queue = left.0 in
    let lots = lots_by ts copies in
    let placed = subst (λ (v : Hop). flow.Ascends (queue_of v.copies)) (sym h.seen_is) (run_leads largest h.events start (sound_start largest) begins).sound.placed in
    let below = below_limit limits first (queue_of copies) room placed in
    let as_hop : length (queue_of lots) ≡ length (flow.after_all (way_made limits first (queue_of copies)) (queue_of copies)) =
    ap length (leaves_queue first s.queue ts copies gives) ∙ ap (λ (us : List Turn). length (flow.after_all us (queue_of copies))) turns_are in
    let long = long_is lots queue (its_went s.birth c.lines) left.1.queued in
    let within = may.within in
    let entered = enters_stay r.client s ids b.lines copy queue lots c (omega (arith, below, as_hop, long, within)) left.1 in
    let d = after (At (whose s) (Enter copy)) c in
    let last : Session = record s { queue = queue ++ new_entry copy queue ∷ [] } in
    let lots2 = lots ++ standing (entering (queued_copy copy) (queue_of lots)) (content_of copy) ∷ [] in
    let only : IsOnly r.client s.birth d.records = only_deed r.client s.birth (At (whose s) (Enter copy)) c.records tt left.1.only in
    let named_last : session_named r.client d.records ≡ Some last = named_is r.client s.birth d.records last only entered.0 x.client in
    let end : after_all (enter_deeds env copy s) b ≡ d = after_append ds (At (whose s) (Enter copy) ∷ []) b in
    let same_ids : map id_of lots2 ≡ ids ++ copy.id ∷ [] =
    map_push id_of lots (standing (entering (queued_copy copy) (queue_of lots)) (content_of copy)) ∙ ap (λ (cs : List CopyId). cs ++ copy.id ∷ []) left.1.ids_are in
    let stands : is_some (session_named r.client d.records) ≡ is_some (session_named r.client b.records) = ap is_some named_last ∙ sym (ap is_some named) in
    let linked : is_linked r.line.number d ≡ is_linked r.line.number b = linked_same r.line.number b d left.1.lines in
    let same : seen number lots2 r d ≡ record w { copies = lots2 } = λ i. record w { copies = lots2; stands = stands i; linked = linked i } in
    let e = enter limits first (queued_copy copy) (content_of copy) in
    let hop : step largest w e ≡ record w { copies = lots2 } =
    ap (λ (t : Bool). enters t (is_granted copy.qos) (has_room limits first (queue_of copies)) limits first (queued_copy copy) (content_of copy) w) (ap is_some named)
    ∙ (ap (λ (t : Bool). enters true t (has_room limits first (queue_of copies)) limits first (queued_copy copy) (content_of copy) w) may.granted
    ∙ (ap (λ (t : Bool). enters true true t limits first (queued_copy copy) (content_of copy) w) room
    ∙ (ap (λ (us : List Turn). pushes (queued_copy copy) (content_of copy) (take_turns us w)) (sym turns_are)
    ∙ ap (pushes (queued_copy copy) (content_of copy)) (leaves_made first s.queue ts w gives)))) in
    subst (λ (y : Broker). RunsWith number largest copies copy.id r y) (sym end) (record {
      after = lots2;
      same = same_ids;
      way = λ n. way_behind (slice_get copies n) lots (standing (entering (queued_copy copy) (queue_of lots)) (content_of copy)) n
          (way_turns ts copies n (all_dropped (length (queue_on [] s) + 1 - env.limits.queue) first (queue_on [] s)));
      run_is = record {
        events = h.events ++ e ∷ [];
        seen_is = same ∙ (sym hop ∙ (ap (λ (v : Hop). step largest v e) h.seen_is ∙ sym (run_append largest h.events (e ∷ []) start)));
        queue_is = subst (λ (o : Option Session). AreQueued lots2 o d) (sym named_last) entered.1;
        numbered = subst (AreNumbered number) (sym same_ids) numbered;
        tagged = subst (λ (cs : List CopyId). AreTagged number cs r) (sym same_ids) (tags_more number ids (copy.id ∷ []) r h.tagged);
      };
      session = last;
      receiving = record { session = entered.0; client = x.client; only = only; known = known_more queue (new_entry copy queue) (its_went s.birth c.lines) left.1.known };
    })

-- ---- copies that wait and have expired

expired_renewed : (now : ℕ) (lots : List Lot) → expired now (queue_of (map renewed lots)) ≡ expired now (queue_of lots)
expired_renewed now [] = refl
expired_renewed now (past ending e m ∷ ls) = expired_renewed now ls
expired_renewed now (standing e m ∷ ls) = by (is_waiting e.phase && is_late now e.copy) (expired_renewed now ls)
  where
    by : (t : Bool) → expired now (queue_of (map renewed ls)) ≡ expired now (queue_of ls)
        → expired_at t (unsent e) (expired now (queue_of (map renewed ls))) ≡ expired_at t e (expired now (queue_of ls))
    by true h = ap (λ (ts : List Turn). turns.Leave e.place Expired ∷ ts) h
    by false h = h

-- each leaves a place of the queue
expired_gives : (now first : ℕ) (whole q : List CopyRow) → ((p : ℕ) → has_row copy_place p q ≡ true → (has_row copy_place p whole ≡ true) × (p < first))
    → AllByRecursion (GivesWay first whole) (expired now (map (entry_on []) q))
expired_gives now first whole [] h = tt
expired_gives now first whole (e ∷ es) h =
    by (is_waiting (entry_on [] e).phase && is_late now (entry_on [] e).copy) (expired_gives now first whole es (λ p there. h p (has_more p there)))
  where
    has_more : (p : ℕ) → has_row copy_place p es ≡ true → has_row copy_place p (e ∷ es) ≡ true
    has_more p there = elim (cases_Bool (nat_eq e.place p)) [
      | inl here ↦ rw here refl
      | inr further ↦ rw further there
    ]

    by : (t : Bool) → AllByRecursion (GivesWay first whole) (expired now (map (entry_on []) es))
        → AllByRecursion (GivesWay first whole) (expired_at t (entry_on [] e) (expired now (map (entry_on []) es)))
    by true rest = (h e.place (rw (nat_eq_equiv.refl e.place) refl), rest)
    by false rest = rest

-- so do copies that expire
pub lapsing_runs : (number : Numbering) (largest : ℕ) (copies : List Lot) (now : ℕ) (r : Receiver) (s : Session) (b : Broker)
    → IsRun number largest copies r b → IsReceiving r s b → RunsStill number largest copies r (after_all (lapse_deeds now s) b)
lapsing_runs number largest copies now r s b h x =
    let ids = map id_of copies in
    let w = seen number copies r b in
    let ts = expired now (queue_on [] s) in
    let first = next_of copy_place s.queue in
    let gives = expired_gives now first s.queue s.queue (λ p there. (there, below_has first p s.queue (below_own s.queue) there)) in
    let named : session_named r.client b.records ≡ Some s = named_is r.client s.birth b.records s x.only x.session x.client in
    let queued : StandOn copies s.queue (went_in s.birth b) = subst (λ (o : Option Session). AreQueued copies o b) named h.queue_is in
    let rows : queue_of (map renewed copies) ≡ queue_on [] s = same_entries (map renewed copies) [] s.queue (renewed_standing copies s.queue (went_in s.birth b) queued) in
    let turns_are : ts ≡ expired now (queue_of copies) = ap (expired now) (sym rows) ∙ expired_renewed now copies in
    let c = after_all (flat_map (leave_deeds s) ts) b in
    let at_start : Stays r.client s ids b.lines s.queue copies b = record { session = x.session; queued = queued; known = x.known; lines = λ m. refl; only = x.only; ids_are = refl } in
    let left = leaves_stay r.client s ids b.lines first ts s.queue copies b gives at_start in
    let lots = lots_by ts copies in
    let last : Session = record s { queue = left.0 } in
    let named_last : session_named r.client c.records ≡ Some last = named_is r.client s.birth c.records last left.1.only left.1.session x.client in
    let stands : is_some (session_named r.client c.records) ≡ is_some (session_named r.client b.records) = ap is_some named_last ∙ sym (ap is_some named) in
    let linked : is_linked r.line.number c ≡ is_linked r.line.number b = linked_same r.line.number b c left.1.lines in
    let same : seen number lots r c ≡ record w { copies = lots } = λ i. record w { copies = lots; stands = stands i; linked = linked i } in
    let e = expire now in
    let hop : step largest w e ≡ record w { copies = lots } = ap (λ (us : List Turn). take_turns us w) (sym turns_are) ∙ leaves_made first s.queue ts w gives in
    let same_ids : map id_of lots ≡ ids = left.1.ids_are in
    record {
      runs = record {
        after = lots;
        same = same_ids;
        run_is = record {
          events = h.events ++ e ∷ [];
          seen_is = same ∙ (sym hop ∙ (ap (λ (v : Hop). step largest v e) h.seen_is ∙ sym (run_append largest h.events (e ∷ []) start)));
          queue_is = subst (λ (o : Option Session). AreQueued lots o c) (sym named_last) left.1.queued;
          numbered = subst (AreNumbered number) (sym same_ids) h.numbered;
          tagged = subst (λ (cs : List CopyId). AreTagged number cs r) (sym same_ids) h.tagged;
        };
      };
      session = last;
      receiving = record { session = left.1.session; client = x.client; only = left.1.only; known = left.1.known };
    }
