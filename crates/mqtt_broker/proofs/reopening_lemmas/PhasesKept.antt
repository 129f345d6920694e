-- Phases of queued copies fit their QoS, and no two have the same order of release, deed by deed and over a step.
use Rattle.std.proofs.Common.{◌≡◌, ℕ, zero, suc, ◌<◌, ◌≤◌, Bool, true, false, not, List, [], ◌∷◌, length, map, nat_eq, refl, sym, ap, subst, ◌∙◌, inl, inr, arith}
use Rattle.std.specs.Prelude.{⊤, Option, Some, None, Ok, Err, find}
use Rattle.std.specs.List.{AllByRecursion}
use Rattle.std.proofs.lemmas.Bool.{cases_Bool}
use Rattle.mqtt_base.specs.Phases.{order_of}
use Rattle.mqtt_base.specs.declared.limits.TheConstants.{QUEUE_LIMIT}
use Rattle.mqtt_base.specs.declared.session.Phase.{Phase}
use Rattle.mqtt_base.specs.declared.session.Phase.TheVariants.{Waiting, Sent, Released, Oversize}
use Rattle.mqtt_base.specs.declared.session.Qos.{Qos}
use Rattle.mqtt_base.specs.declared.session.Qos.TheVariants.{AtMostOnce, AtLeastOnce, ExactlyOnce}
use Rattle.mqtt_flow.specs.outbound.Pacing.{Pacing}
use Rattle.mqtt_flow.specs.outbound.Queue.{greatest_order, holder, is_holder, next_order}
use Rattle.mqtt_flow.specs.outbound.Outbound.{Answer, Verdict, pass, end, outgrow, send, resend, acknowledged, first_time, in_room, is_large, is_late, is_refusal, once_more, pace, paced, puback_at, puback_by, pubcomp_at, pubcomp_by, pubrec_at, pubrec_by, pump, pump_from, received, released_by, step_by, step_on, then_on, too_large, verdict, verdict_by}
use Rattle.mqtt_flow.specs.declared.outbound.entry.Entry.{Entry as FlowEntry}
use Rattle.mqtt_flow.specs.declared.outbound.entry.QueuedCopy.{QueuedCopy}
use Rattle.mqtt_flow.specs.declared.outbound.entry.Turn.{Turn}
use Rattle.mqtt_flow.specs.declared.outbound.entry.Turn.TheVariants as turns
use Rattle.mqtt_flow.specs.declared.outbound.entry.Way.{Way}
use Rattle.mqtt_flow.specs.inbound.Identifiers.{free_identifier, is_among, lowest_from}
use Rattle.mqtt_keep.specs.lawful.Lawful.{order_in}
use Rattle.mqtt_records.specs.messages.Queue.{CopyRow}
use Rattle.mqtt_records.specs.declared.messages.message.MessageCopy.{MessageCopy}
use Rattle.mqtt_records.specs.declared.state.change.Change.{Change}
use Rattle.mqtt_records.specs.declared.state.records.Records.{Records}
use Rattle.mqtt_records.specs.declared.state.session.Session.{Session}
use Rattle.mqtt_records.specs.state.Records.{changed_all, in_session}
use Rattle.mqtt_records.specs.state.Session.{birth_of, copy_place, in_phase, with_phase, without_copy}
use Rattle.mqtt_records.specs.lists.Distinct.{AllDiffer}
use Rattle.mqtt_records.specs.lists.Order.{IsAscending, change_row, remove_row, row_at}
use Rattle.mqtt_records.proofs.lists_lemmas.LookUps.{row_at-here, row_at-remove_row}
use Rattle.mqtt_rules.specs.declared.step.Capacity.{Capacity}
use Rattle.mqtt_rules.specs.step.Deeds.{Whose, whose, FromClient, Part, Resume, Close, SetExpiry, DropWill, Subscribe, Unsubscribe, Open, Release, Enter, Mark, Leave, Went, Deed, Accept, Begin, Name, Count, At, Finish, Keep, Forget, RefuseWill, Link, On, Send, Gone, after, after_all, new_entry, part_rows, part_rows_of, rows_of, rows_of_all}
use Rattle.mqtt_rules.specs.step.Fitting.{fitted, size_at, sized}
use Rattle.mqtt_rules.specs.step.Inbound.{pump_deeds}
use Rattle.mqtt_rules.specs.step.Laws.{IsOrdered}
use Rattle.mqtt_rules.specs.step.Outbound.{all_turn_deeds, of_entry, turn_deeds, way_of}
use Rattle.mqtt_rules.specs.step.Packets.{publish_of}
use Rattle.mqtt_rules.specs.step.Routing.{publish}
use Rattle.mqtt_rules.specs.step.State.{Broker, Env, Line, MemberChoice, entry_on, queue_on, session_at, stored, told_on}
use Rattle.mqtt_rules.specs.step.Step.{Call, at_moment, deeds, env_of, opened, opening, stepped, unopened, with_moment}
use Rattle.mqtt_rules.specs.step.Subscribe.{next_number, subscription}
use Rattle.mqtt_rules.proofs.step_lemmas.acts.Acts.{IsAnswer, Law, anyone, call_of_anyone, finds_anyone, is_alone, leads_call, leads_opening}
use Rattle.mqtt_rules.proofs.step_lemmas.acts.ByDeeds.{DeedLaw, TurnLaw, by_ends}
use Rattle.mqtt_rules.proofs.step_lemmas.numbers.Copies.{each_filter, each_more}
use Rattle.mqtt_rules.proofs.step_lemmas.flight.FlightRows.{all_at, all_changed_at, all_found, change_row-here, change_row-other, found_behind, found_key, all_put}
use Rattle.mqtt_rules.proofs.step_lemmas.flight.SizedRows.{orders_sized}
use Rattle.mqtt_rules.proofs.step_lemmas.acts.Goods.{after_append}
use Rattle.mqtt_rules.proofs.step_lemmas.acts.Leads.{leads_end}
use Rattle.mqtt_rules.proofs.step_lemmas.order.Ordered.{changed_all-ordered}
use Rattle.mqtt_broker.specs.reopening.Phases.{HasItsPhase, HasPhases, HavePhases, IsPhaseOf}
use Rattle.mqtt_broker.proofs.reopening_lemmas.EachSession.{Makes, deed_each, part_made}
use Rattle.mqtt_broker.proofs.reopening_lemmas.Orders.{HasOrdersUpTo, left_differ, marked_differ, orders, orders_are, orders_known, phase_fresh, put_differ}

-- ---- a session, by the orders of its queue

orders_of : (s : Session) → HasPhases s → AllDiffer (orders s.queue)
orders_of s h = subst AllDiffer (orders_are s.queue) h.orders

has_phases : (s : Session) → AllByRecursion HasItsPhase s.queue → AllDiffer (orders s.queue) → HasPhases s
has_phases s each differ = record { each = each; orders = subst AllDiffer (sym (orders_are s.queue)) differ }

-- ---- deeds that are no turn of a queue

waiting_fits : (qos : Qos) → IsPhaseOf qos Waiting
waiting_fits AtMostOnce = tt
waiting_fits AtLeastOnce = tt
waiting_fits ExactlyOnce = tt

abbrev IsUnmarked : Part → Type 0
IsUnmarked (Mark place phase) = ⊥
IsUnmarked part = ⊤

made_phases : (part : Part) (s t : Session) → IsUnmarked part → HasPhases t → HasPhases (part_made part s t)
made_phases (Resume expiry will) s t u h = record { each = h.each; orders = h.orders }
made_phases (Close moment) s t u h = record { each = h.each; orders = h.orders }
made_phases (SetExpiry expiry) s t u h = record { each = h.each; orders = h.orders }
made_phases DropWill s t u h = record { each = h.each; orders = h.orders }
made_phases (Subscribe x) s t u h = record { each = h.each; orders = h.orders }
made_phases (Unsubscribe text) s t u h = record { each = h.each; orders = h.orders }
made_phases (Open id) s t u h = record { each = h.each; orders = h.orders }
made_phases (Release id) s t u h = record { each = h.each; orders = h.orders }
made_phases (Enter copy) s t u h =
    has_phases (part_made (Enter copy) s t) (all_put copy_place HasItsPhase QUEUE_LIMIT (new_entry copy s.queue) t.queue (waiting_fits copy.qos) h.each)
    (put_differ QUEUE_LIMIT (new_entry copy s.queue) t.queue refl (orders_of t h))
made_phases (Mark place phase) s t u h = absurd u
made_phases (Leave e ending) s t u h =
    let stays = λ (x : CopyRow). not (nat_eq (copy_place x) e.place) in
    has_phases (part_made (Leave e ending) s t) (each_filter HasItsPhase stays t.queue h.each) (left_differ stays t.queue (orders_of t h))

abbrev IsUnmarkedDeed : Deed → Type 0
IsUnmarkedDeed (At who part) = IsUnmarked part
IsUnmarkedDeed d = ⊤

makes : (d : Deed) (b : Broker) → IsUnmarkedDeed d → Makes HasPhases HasPhases (λ t h. h) d b
makes (At who part) b u = λ s t there same p. made_phases part s t u p
makes (Begin row will) b u = record { new = record { each = tt; orders = tt }; again = λ t same p. record { each = p.each; orders = p.orders }; will = λ w t p. record { each = p.each; orders = p.orders } }
makes (Accept number origin m) b u = tt
makes (Name n) b u = tt
makes (Count n) b u = tt
makes (Finish who) b u = tt
makes (Keep kept) b u = tt
makes (Forget place) b u = tt
makes (RefuseWill who) b u = tt
makes (Link n) b u = tt
makes (On n part) b u = tt
makes (Send n packet) b u = tt
makes (Gone n) b u = tt

abbrev Phased : Broker → Type 0
Phased b = HavePhases b.records

abbrev Kept : Broker → Type 0
Kept b = IsOrdered b.records × Phased b

abbrev Keeps : Deed → Broker → Type 0
Keeps d b = Kept b → Kept (after d b)

unmarked : (d : Deed) (b : Broker) → IsUnmarkedDeed d → Keeps d b
unmarked d b u h = (changed_all-ordered (rows_of d b.records) b.records h.0, deed_each HasPhases HasPhases (λ t p. p) d b (makes d b u) h.1)

ordered_all : (ds : List Deed) (b : Broker) → IsOrdered b.records → IsOrdered (after_all ds b).records
ordered_all [] b h = h
ordered_all (d ∷ ds) b h = ordered_all ds (after d b) (changed_all-ordered (rows_of d b.records) b.records h)

unmarked_alone : (part : Part) → is_alone part ≡ true → IsUnmarked part
unmarked_alone (Mark place phase) is = absurd cc
unmarked_alone (Resume expiry will) is = tt
unmarked_alone (Close moment) is = tt
unmarked_alone (SetExpiry expiry) is = tt
unmarked_alone DropWill is = tt
unmarked_alone (Subscribe x) is = tt
unmarked_alone (Unsubscribe text) is = tt
unmarked_alone (Open id) is = tt
unmarked_alone (Release id) is = tt
unmarked_alone (Enter copy) is = tt
unmarked_alone (Leave e ending) is = tt

phases_law : (env : Env) → DeedLaw env anyone Kept Keeps
phases_law env = record {
  finds = finds_anyone Kept;
  client_stays = λ client d b k g its. tt;
  kept = λ d b h g. g h;
  accept = λ origin m b k said. unmarked (Accept _ origin m) b tt;
  keep = λ m b k said is full found. unmarked (Keep _) b tt;
  forget = λ place b k. unmarked (Forget place) b tt;
  enter = λ who copy b k made. unmarked (At who (Enter copy)) b tt;
  leave = λ who e ending b k. unmarked (At who (Leave e ending)) b tt;
  refuse_will = λ who b k its. unmarked (RefuseWill who) b tt;
  open_id = λ s id m ds b k g its there new is. unmarked (At (whose s) (Open id)) (after_all (publish env FromClient m ds b) b) tt;
  alone = λ who part b k its is. unmarked (At who part) b (unmarked_alone part is);
  close = λ who b k its. unmarked (At who (Close b.now)) b tt;
  finish = λ who b k its. unmarked (Finish who) b tt;
  resume = λ who expiry will b k its. unmarked (At who (Resume expiry will)) b tt;
  name = λ b k. unmarked (Name _) b tt;
  begin_given = λ c b k came taken name is room. unmarked (Begin _ _) b tt;
  begin_assigned = λ c b k g came taken room. unmarked (Begin _ _) (after (Name (suc b.records.autos)) b) tt;
  count = λ b k. unmarked (Count _) b tt;
  subscribe = λ w s b k g its granted. unmarked (At (whose s) (Subscribe (subscription (next_number b.records) s w))) (after (Count (next_number b.records)) b) tt;
  link = λ b k. unmarked (Link (suc b.given)) b tt;
  on_line = λ line part b k. unmarked (On line part) b tt;
  send = λ line packet b k. unmarked (Send line packet) b tt;
  gone = λ line b k. unmarked (Gone line) b tt;
}

-- ---- turns: what each gives fits the copy at its place, and orders rise

abbrev FitsAt : List CopyRow → ℕ → ℕ → ℕ → Type 0
FitsAt queue place id order = (1 ≤ id) × (1 ≤ order) × ((e : CopyRow) → row_at copy_place place queue ≡ Some e → e.copy.qos ≡ ExactlyOnce)

abbrev TurnFits : List CopyRow → Turn → Type 0
TurnFits queue (turns.Send place id) = 1 ≤ id
TurnFits queue (turns.Resend place id) = ⊤
TurnFits queue (turns.Release place id order) = FitsAt queue place id order
TurnFits queue (turns.Outgrow place id order) = FitsAt queue place id order
TurnFits queue (turns.Repeat id) = ⊤
TurnFits queue (turns.Unknown id) = ⊤
TurnFits queue (turns.Leave place ending) = ⊤

abbrev IsAboveBy : ℕ → Turn → Type 0
IsAboveBy n (turns.Release place id order) = n < order
IsAboveBy n (turns.Outgrow place id order) = n < order
IsAboveBy n t = ⊤

abbrev greatest_by : ℕ → Turn → ℕ
greatest_by n (turns.Release place id order) = order
greatest_by n (turns.Outgrow place id order) = order
greatest_by n t = n

abbrev AreGoodTurns : List CopyRow → ℕ → List Turn → Type 0
AreGoodTurns queue n [] = ⊤
AreGoodTurns queue n (t ∷ ts) = TurnFits queue t × IsAboveBy n t × AreGoodTurns queue (greatest_by n t) ts

-- ---- a pump's

lowest_low : (more id : ℕ) (used : List ℕ) → id ≤ lowest_from more id used
lowest_low zero id used = omega arith
lowest_low (suc more) id used = elim (cases_Bool (is_among id used)) [
  | inl taken ↦ let rest = lowest_low more (suc id) used in rw taken (omega (arith, rest))
  | inr free ↦ rw free (omega arith)
]

module _ (size : CopyRow → ℕ) (way : Way) (went : List ℕ) (queue : List CopyRow) where
  abbrev Next : (Pacing → List Turn) → Type 0
  Next rest = (p : Pacing) (n : ℕ) → n < p.order → AreGoodTurns queue n (rest p)

  abbrev VerdictFits : ℕ → Verdict → Type 0
  VerdictFits place pass = ⊤
  VerdictFits place (end ending) = ⊤
  VerdictFits place (outgrow id) = (1 ≤ id) × ((e : CopyRow) → row_at copy_place place queue ≡ Some e → e.copy.qos ≡ ExactlyOnce)
  VerdictFits place send = ⊤
  VerdictFits place (resend id) = ⊤

  first_fits : (place : ℕ) (late large : Bool) → VerdictFits place (first_time late large)
  first_fits place true large = tt
  first_fits place false true = tt
  first_fits place false false = tt

  large_fits : (place id : ℕ) (qos : Qos) → IsPhaseOf qos (Sent id) → ((e : CopyRow) → row_at copy_place place queue ≡ Some e → e.copy.qos ≡ qos) → VerdictFits place (too_large qos id)
  large_fits place id AtMostOnce h its = tt
  large_fits place id AtLeastOnce h its = tt
  large_fits place id ExactlyOnce h its = (h, its)

  once_fits : (place id : ℕ) (here large : Bool) (qos : Qos) → IsPhaseOf qos (Sent id) → ((e : CopyRow) → row_at copy_place place queue ≡ Some e → e.copy.qos ≡ qos) → VerdictFits place (once_more here large qos id)
  once_fits place id true large qos h its = tt
  once_fits place id false true qos h its = large_fits place id qos h its
  once_fits place id false false qos h its = tt

  verdict_fits : (place : ℕ) (copy : QueuedCopy) (here : Bool) (phase : Phase) → IsPhaseOf copy.qos phase → ((e : CopyRow) → row_at copy_place place queue ≡ Some e → e.copy.qos ≡ copy.qos) → VerdictFits place (verdict_by way copy here phase)
  verdict_fits place copy here Waiting h its = first_fits place (is_late way.now copy) (is_large way copy)
  verdict_fits place copy here (Sent id) h its = once_fits place id here (is_large way copy) copy.qos h its
  verdict_fits place copy here (Released id order) h its = tt
  verdict_fits place copy here (Oversize id order) h its = tt

  by_room : (room : ℕ) (t : Turn) (phase : Phase) (p : Pacing) (n : ℕ) (rest : Pacing → List Turn) → AreGoodTurns queue n (t ∷ rest (paced t phase p)) → AreGoodTurns queue n (then_on (in_room room t) phase p rest)
  by_room zero t phase p n rest h = tt
  by_room (suc room) t phase p n rest h = h

  walk_on : (v : Verdict) (place : ℕ) (phase : Phase) (p : Pacing) (n : ℕ) (rest : Pacing → List Turn) → VerdictFits place v → n < p.order → Next rest → AreGoodTurns queue n (then_on (step_on v place p) phase p rest)
  walk_on pass place phase p n rest fits less next = next p n less
  walk_on (end ending) place phase p n rest fits less next = (tt, tt, next (paced (turns.Leave place ending) phase p) n less)
  walk_on (outgrow id) place phase p n rest fits less next =
      ((fits.0, omega (arith, less), fits.1), less, next (paced (turns.Outgrow place id p.order) phase p) p.order (omega arith))
  walk_on send place phase p n rest fits less next =
      let id = free_identifier p.used in
      by_room p.room (turns.Send place id) phase p n rest (lowest_low (length p.used) 1 p.used, tt, next (paced (turns.Send place id) phase p) n less)
  walk_on (resend id) place phase p n rest fits less next =
      by_room p.room (turns.Resend place id) phase p n rest (tt, tt, next (paced (turns.Resend place id) phase p) n less)

  walk_by : (left : ℕ) (v : Verdict) (place : ℕ) (phase : Phase) (p : Pacing) (n : ℕ) (rest : Pacing → List Turn) → VerdictFits place v → n < p.order → Next rest → AreGoodTurns queue n (then_on (step_by left v place p) phase p rest)
  walk_by zero v place phase p n rest fits less next = tt
  walk_by (suc left) v place phase p n rest fits less next = walk_on v place phase p n rest fits less next

  walk : (es : List CopyRow) → AllByRecursion (λ e. row_at copy_place e.place queue ≡ Some e) es → AllByRecursion HasItsPhase es → Next (pump_from way (map (sized size went) es))
  walk [] was h p n less = tt
  walk (e ∷ es) was h p n less =
      let x = sized size went e in
      walk_by p.left (verdict way x) e.place e.phase p n (pump_from way (map (sized size went) es))
      (verdict_fits e.place x.copy x.here e.phase h.0 (λ f there. let same : Some e ≡ Some f = sym was.0 ∙ there in let is : e ≡ f = cc in ap (λ (y : CopyRow). y.copy.qos) (sym is))) less
      (walk es was.1 h.1)

  pump_turns_good : IsAscending copy_place queue → AllByRecursion HasItsPhase queue → AreGoodTurns queue (greatest_order (map (sized size went) queue)) (pump way (map (sized size went) queue))
  pump_turns_good up h = walk queue (all_found copy_place queue up) h (pace way (map (sized size went) queue)) (greatest_order (map (sized size went) queue)) (omega arith)

-- ---- an answer's

-- the copy that an entry stands for
record Source (went : List ℕ) (queue : List CopyRow) (x : FlowEntry) : Type 0 where
  pub entry : CopyRow
  pub there : row_at copy_place x.place queue ≡ Some entry
  pub fits : HasItsPhase entry
  pub is : entry_on went entry ≡ x

find_by : (went : List ℕ) (test : FlowEntry → Bool) (queue : List CopyRow) (x : FlowEntry) → IsAscending copy_place queue → AllByRecursion HasItsPhase queue → find test (map (entry_on went) queue) ≡ Some x → Source went queue x
find_by went test [] x up h e = absurd cc
find_by went test (e ∷ es) x up h found = elim (cases_Bool (test (entry_on went e))) [
  | inl here ↦
      let it : Some (entry_on went e) ≡ Some x = rw here at found in
      let is : entry_on went e ≡ x = cc in
      subst (Source went (e ∷ es)) is (record { entry = e; there = row_at-here copy_place e es; fits = h.0; is = refl })
  | inr further ↦
      let source = find_by went test es x up.1 h.1 (rw further at found) in
      record { entry = source.entry; there = found_behind copy_place x.place source.entry e es up.0 source.there; fits = source.fits; is = source.is }
]

module _ (went : List ℕ) (queue : List CopyRow) where
  abbrev GoodTurn : Option Turn → Type 0
  GoodTurn None = ⊤
  GoodTurn (Some t) = AreGoodTurns queue (greatest_order (map (entry_on went) queue)) (t ∷ [])

  abbrev GoodAnswer : Answer → Type 0
  GoodAnswer (Ok t) = GoodTurn t
  GoodAnswer (Err fault) = ⊤

  acknowledged_good : (qos : Qos) (code place : ℕ) → GoodAnswer (acknowledged qos code place)
  acknowledged_good AtMostOnce code place = tt
  acknowledged_good AtLeastOnce code place = (tt, tt, tt)
  acknowledged_good ExactlyOnce code place = tt

  puback_by_good : (phase : Phase) (qos : Qos) (code place : ℕ) → GoodAnswer (puback_by phase qos code place)
  puback_by_good Waiting qos code place = tt
  puback_by_good (Sent id) qos code place = acknowledged_good qos code place
  puback_by_good (Released id order) qos code place = tt
  puback_by_good (Oversize id order) qos code place = tt

  puback_good : (code : ℕ) (o : Option FlowEntry) → GoodAnswer (puback_at code o)
  puback_good code None = tt
  puback_good code (Some x) = puback_by_good x.phase x.copy.qos code x.place

  pubcomp_by_good : (phase : Phase) (place : ℕ) → GoodAnswer (pubcomp_by phase place)
  pubcomp_by_good Waiting place = tt
  pubcomp_by_good (Sent id) place = tt
  pubcomp_by_good (Released id order) place = (tt, tt, tt)
  pubcomp_by_good (Oversize id order) place = (tt, tt, tt)

  pubcomp_good : (o : Option FlowEntry) → GoodAnswer (pubcomp_at o)
  pubcomp_good None = tt
  pubcomp_good (Some x) = pubcomp_by_good x.phase x.place

  abbrev order : ℕ
  order = next_order (map (entry_on went) queue)

  released_good : (refuses : Bool) (place id : ℕ) → 1 ≤ id → ((e : CopyRow) → row_at copy_place place queue ≡ Some e → e.copy.qos ≡ ExactlyOnce) → GoodAnswer (released_by refuses place id order)
  released_good true place id low its = (tt, tt, tt)
  released_good false place id low its = ((low, omega arith, its), omega arith, tt)

  received_good : (qos : Qos) (code place id : ℕ) → IsPhaseOf qos (Sent id) → ((e : CopyRow) → row_at copy_place place queue ≡ Some e → e.copy.qos ≡ qos) → GoodAnswer (received qos code place id order)
  received_good AtMostOnce code place id h its = tt
  received_good AtLeastOnce code place id h its = tt
  received_good ExactlyOnce code place id h its = released_good (is_refusal code) place id h its

  pubrec_by_good : (phase : Phase) (qos : Qos) (code place : ℕ) → IsPhaseOf qos phase → ((e : CopyRow) → row_at copy_place place queue ≡ Some e → e.copy.qos ≡ qos) → GoodAnswer (pubrec_by phase qos code place order)
  pubrec_by_good Waiting qos code place h its = tt
  pubrec_by_good (Sent id) qos code place h its = received_good qos code place id h its
  pubrec_by_good (Released id x) qos code place h its = (tt, tt, tt)
  pubrec_by_good (Oversize id x) qos code place h its = (tt, tt, tt)

  pubrec_good : (id code : ℕ) (o : Option FlowEntry) → ((x : FlowEntry) → o ≡ Some x → Source went queue x) → GoodAnswer (pubrec_at id code order o)
  pubrec_good id code None source = (tt, tt, tt)
  pubrec_good id code (Some x) source =
      let from = source x refl in
      pubrec_by_good x.phase x.copy.qos code x.place
      (subst (λ (y : FlowEntry). IsPhaseOf y.copy.qos y.phase) from.is from.fits)
      (λ e there. let same : Some from.entry ≡ Some e = sym from.there ∙ there in let is : from.entry ≡ e = cc in
      ap (λ (y : CopyRow). y.copy.qos) (sym is) ∙ ap (λ (y : FlowEntry). y.copy.qos) from.is)

answer_good : (a : Answer) (l : Line) (s : Session) → IsAscending copy_place s.queue → AllByRecursion HasItsPhase s.queue → IsAnswer a l s → GoodAnswer l.went s.queue a
answer_good a l s up h is = elim is [
  | inl it ↦ subst (GoodAnswer l.went s.queue) (sym it.2) (puback_good l.went s.queue it.1 (holder it.0 (queue_on l.went s)))
  | inr more ↦ elim more [
    | inl it ↦ subst (GoodAnswer l.went s.queue) (sym it.2) (pubrec_good l.went s.queue it.0 it.1 (holder it.0 (queue_on l.went s)) (λ x found. find_by l.went (λ e. is_holder it.0 e.phase) s.queue x up h found))
    | inr it ↦ subst (GoodAnswer l.went s.queue) (sym it.1) (pubcomp_good l.went s.queue (holder it.0 (queue_on l.went s)))
  ]
]

-- ---- a session's queue under its turns

-- each copy that stands has the place of the same copy at first
abbrev HasSameCopies : List CopyRow → List CopyRow → Type 0
HasSameCopies queue first = (place : ℕ) (e : CopyRow) → row_at copy_place place queue ≡ Some e → (f : CopyRow) × (row_at copy_place place first ≡ Some f) × (f.copy ≡ e.copy)

module _ {X : Type 0} (key : X → ℕ) (P : X → Type 0) where
  changed_found : (k : ℕ) (f : X → X) (xs : List X) → ((x : X) → row_at key k xs ≡ Some x → P (f x)) → AllByRecursion P xs → AllByRecursion P (change_row key k f xs)
  changed_found k f [] new h = tt
  changed_found k f (x ∷ xs) new h = elim (cases_Bool (nat_eq (key x) k)) [
    | inl here ↦ rw here (new x (rw here refl), h.1)
    | inr other ↦ rw other (h.0, changed_found k f xs (λ y there. new y (rw other there)) h.1)
  ]

same_copies_marked : (place : ℕ) (phase : Phase) (queue first : List CopyRow) → HasSameCopies queue first → HasSameCopies (change_row copy_place place (in_phase phase) queue) first
same_copies_marked place phase queue first same other e there = elim (cases_Bool (nat_eq place other)) [
  | inl here ↦ marked here (row_at copy_place place queue) refl
  | inr differ ↦ same other e (sym (change_row-other copy_place other place (in_phase phase) queue (λ x. refl) differ) ∙ there)
]
  where
    none_changed : (xs : List CopyRow) → row_at copy_place place xs ≡ None → change_row copy_place place (in_phase phase) xs ≡ xs
    none_changed [] none = refl
    none_changed (x ∷ xs) none = elim (cases_Bool (nat_eq x.place place)) [
      | inl here ↦ let no : Some x ≡ None = rw here at none in absurd cc
      | inr further ↦ rw further (ap (λ (ys : List CopyRow). x ∷ ys) (none_changed xs (rw further at none)))
    ]

    equal : nat_eq place other ≡ true → place ≡ other
    equal here = found_key copy_place other (record e { place = place }) (record e { place = place } ∷ []) (rw here refl)

    marked : nat_eq place other ≡ true → (o : Option CopyRow) → row_at copy_place place queue ≡ o → (f : CopyRow) × (row_at copy_place other first ≡ Some f) × (f.copy ≡ e.copy)
    marked here None was = same other e (sym (ap (row_at copy_place other) (none_changed queue was)) ∙ there)
    marked here (Some x) was =
        let at : row_at copy_place other (change_row copy_place other (in_phase phase) queue) ≡ Some (in_phase phase x) =
        change_row-here copy_place other (in_phase phase) x queue (λ y. refl) (subst (λ (n : ℕ). row_at copy_place n queue ≡ Some x) (equal here) was) in
        let at_e : row_at copy_place other (change_row copy_place other (in_phase phase) queue) ≡ Some e =
        subst (λ (n : ℕ). row_at copy_place other (change_row copy_place n (in_phase phase) queue) ≡ Some e) (equal here) there in
        let both : Some (in_phase phase x) ≡ Some e = sym at ∙ at_e in
        let is : in_phase phase x ≡ e = cc in
        let from = same other x (subst (λ (n : ℕ). row_at copy_place n queue ≡ Some x) (equal here) was) in
        (from.0, from.1, from.2 ∙ ap (λ (y : CopyRow). y.copy) is)

same_copies_left : (place : ℕ) (queue first : List CopyRow) → HasSameCopies queue first → HasSameCopies (remove_row copy_place place queue) first
same_copies_left place queue first same other e there = elim (cases_Bool (nat_eq place other)) [
  | inl here ↦
      let none : None ≡ Some e = sym (row_at-remove_row copy_place other place queue ∙ rw here refl) ∙ there in absurd cc
  | inr differ ↦ same other e (sym (row_at-remove_row copy_place other place queue ∙ rw differ refl) ∙ there)
]

-- where its turns have come to
record Walks (first : List CopyRow) (birth n : ℕ) (b : Broker) : Type 0 where
  pub session : Session
  pub there : session_at birth b.records ≡ Some session
  pub copies : HasSameCopies session.queue first
  pub orders : HasOrdersUpTo n session.queue
  pub phased : Phased b

walks_on : (first : List CopyRow) (birth m : ℕ) (f : Session → Session) (b : Broker) (s : Session) → session_at birth b.records ≡ Some s → ((t : Session) → birth_of (f t) ≡ birth_of t)
    → HasSameCopies (f s).queue first → HasOrdersUpTo m (f s).queue → HasPhases (f s) → Phased b → (c : Broker) → c.records ≡ in_session s.birth f b.records → Walks first birth m c
walks_on first birth m f b s there keeps copies orders phases h c is =
    let same : s.birth ≡ birth = found_key birth_of birth s b.records.sessions there in
    let at : session_at s.birth b.records ≡ Some s = subst (λ n. session_at n b.records ≡ Some s) (sym same) there in
    let new : session_at birth (in_session s.birth f b.records) ≡ Some (f s) = subst (λ n. session_at n (in_session s.birth f b.records) ≡ Some (f s)) same (change_row-here birth_of s.birth f s b.records.sessions keeps at) in
    record {
      session = f s;
      there = ap (session_at birth) is ∙ new;
      copies = copies;
      orders = orders;
      phased = subst HavePhases (sym is) (all_changed_at birth_of HasPhases s.birth f s b.records.sessions at phases h);
    }

stored_is : (who : Whose) (part : Part) (b : Broker) (s : Session) → session_at who.birth b.records ≡ Some s → (after (At who part) b).records ≡ changed_all (part_rows part s) b.records
stored_is who part b s there = ap (λ (o : Option Session). changed_all (part_rows_of part o) b.records) there

-- a copy's phase is set
sent_fits : (qos : Qos) (id : ℕ) → 1 ≤ id → IsPhaseOf qos (Sent id)
sent_fits AtMostOnce id low = tt
sent_fits AtLeastOnce id low = low
sent_fits ExactlyOnce id low = low

marked_walks : (first : List CopyRow) (who : Whose) (place : ℕ) (phase : Phase) (n m : ℕ) (b : Broker) → n ≤ m → order_of phase ≤ m → ((i : ℕ) → order_in phase ≡ Some i → n < i)
    → ((e : CopyRow) → row_at copy_place place first ≡ Some e → IsPhaseOf e.copy.qos phase) → Walks first who.birth n b → Walks first who.birth m (after (At who (Mark place phase)) b)
marked_walks first who place phase n m b le up above fits at =
    let s = at.session in
    let its = all_at birth_of HasPhases who.birth s b.records.sessions at.phased at.there in
    let queue = change_row copy_place place (in_phase phase) s.queue in
    walks_on first who.birth m (with_phase place phase) b s at.there (λ t. refl) (same_copies_marked place phase s.queue first at.copies)
    (changed_found copy_place (λ e. order_of e.phase ≤ m) place (in_phase phase) s.queue (λ e there. up) (each_more (λ e. order_of e.phase ≤ n) (λ e. order_of e.phase ≤ m) (λ e low. omega (arith, low, le)) s.queue at.orders))
    (has_phases (with_phase place phase s)
    (changed_found copy_place HasItsPhase place (in_phase phase) s.queue
    (λ e there. let from = at.copies place e there in subst (λ (c : MessageCopy). IsPhaseOf c.qos phase) from.2 (fits from.0 from.1)) its.each)
    (marked_differ place phase s.queue (phase_fresh n phase s.queue above at.orders) (orders_of s its)))
    at.phased (after (At who (Mark place phase)) b) (stored_is who (Mark place phase) b s at.there)

left_walks : (first : List CopyRow) (who : Whose) (e : CopyRow) (ending : _) (n : ℕ) (b : Broker) → Walks first who.birth n b → Walks first who.birth n (after (At who (Leave e ending)) b)
left_walks first who e ending n b at =
    let s = at.session in
    let its = all_at birth_of HasPhases who.birth s b.records.sessions at.phased at.there in
    walks_on first who.birth n (without_copy e.place) b s at.there (λ t. refl) (same_copies_left e.place s.queue first at.copies)
    (each_filter (λ x. order_of x.phase ≤ n) (λ x. not (nat_eq (copy_place x) e.place)) s.queue at.orders)
    (made_phases (Leave e ending) s s tt its) at.phased (after (At who (Leave e ending)) b) (stored_is who (Leave e ending) b s at.there)

elsewhere : (first : List CopyRow) (birth n : ℕ) (b c : Broker) → c.records ≡ b.records → Walks first birth n b → Walks first birth n c
elsewhere first birth n b c is at = record { session = at.session; there = ap (session_at birth) is ∙ at.there; copies = at.copies; orders = at.orders; phased = subst HavePhases (sym is) at.phased }

module _ (now line : ℕ) (s : Session) where
  abbrev At_ : ℕ → Broker → Type 0
  At_ n b = Walks s.queue s.birth n b

  order_fits : (place id rank : ℕ) (phase : Phase) → ((qos : Qos) → qos ≡ ExactlyOnce → IsPhaseOf qos phase) → FitsAt s.queue place id rank → (e : CopyRow) → row_at copy_place place s.queue ≡ Some e → IsPhaseOf e.copy.qos phase
  order_fits place id rank phase is fits e there = is e.copy.qos (fits.2 e there)

  some_order : (m i n : ℕ) → n < m → Some m ≡ Some i → n < i
  some_order m i n less e = let is : m ≡ i = cc in omega (arith, less, is)

  released_phase : (id order : ℕ) → 1 ≤ id → 1 ≤ order → (qos : Qos) → qos ≡ ExactlyOnce → IsPhaseOf qos (Released id order)
  released_phase id order a b qos is = subst (λ (q : Qos). IsPhaseOf q (Released id order)) (sym is) (a, b)

  oversize_phase : (id order : ℕ) → 1 ≤ id → 1 ≤ order → (qos : Qos) → qos ≡ ExactlyOnce → IsPhaseOf qos (Oversize id order)
  oversize_phase id order a b qos is = subst (λ (q : Qos). IsPhaseOf q (Oversize id order)) (sym is) (a, b)

  sent_walks : (place id n : ℕ) (o : Option CopyRow) (b : Broker) → 1 ≤ id → At_ n b
      → At_ n (after_all (of_entry o (λ e. At (whose s) (Mark place (Sent id)) ∷ On line (Went place) ∷ Send line (publish_of now false id e.copy) ∷ [])) b)
  sent_walks place id n None b low at = at
  sent_walks place id n (Some e) b low at =
      let c = after (At (whose s) (Mark place (Sent id))) b in
      elsewhere s.queue s.birth n c _ refl
      (marked_walks s.queue (whose s) place (Sent id) n n b (omega arith) (omega arith) (λ i none. absurd cc) (λ x there. sent_fits x.copy.qos id low) at)

  resent_walks : (place id n : ℕ) (o : Option CopyRow) (b : Broker) → At_ n b
      → At_ n (after_all (of_entry o (λ e. On line (Went place) ∷ Send line (publish_of now true id e.copy) ∷ [])) b)
  resent_walks place id n None b at = at
  resent_walks place id n (Some e) b at = elsewhere s.queue s.birth n b _ refl at

  leave_walks : (ending : _) (n : ℕ) (o : Option CopyRow) (b : Broker) → At_ n b → At_ n (after_all (of_entry o (λ e. At (whose s) (Leave e ending) ∷ [])) b)
  leave_walks ending n None b at = at
  leave_walks ending n (Some e) b at = left_walks s.queue (whose s) e ending n b at

  turn_walks : (t : Turn) (n : ℕ) (b : Broker) → TurnFits s.queue t → IsAboveBy n t → At_ n b → At_ (greatest_by n t) (after_all (turn_deeds now line s t) b)
  turn_walks (turns.Send place id) n b fits above at = sent_walks place id n (row_at copy_place place s.queue) b fits at
  turn_walks (turns.Resend place id) n b fits above at = resent_walks place id n (row_at copy_place place s.queue) b at
  turn_walks (turns.Release place id order) n b fits above at =
      elsewhere s.queue s.birth order (after (At (whose s) (Mark place (Released id order))) b) _ refl
      (marked_walks s.queue (whose s) place (Released id order) n order b (omega (arith, above)) (omega arith) (λ i is. some_order order i n above is)
      (order_fits place id order (Released id order) (released_phase id order fits.0 fits.1) fits) at)
  turn_walks (turns.Outgrow place id order) n b fits above at =
      elsewhere s.queue s.birth order (after (At (whose s) (Mark place (Oversize id order))) b) _ refl
      (marked_walks s.queue (whose s) place (Oversize id order) n order b (omega (arith, above)) (omega arith) (λ i is. some_order order i n above is)
      (order_fits place id order (Oversize id order) (oversize_phase id order fits.0 fits.1) fits) at)
  turn_walks (turns.Repeat id) n b fits above at = elsewhere s.queue s.birth n b _ refl at
  turn_walks (turns.Unknown id) n b fits above at = elsewhere s.queue s.birth n b _ refl at
  turn_walks (turns.Leave place ending) n b fits above at = leave_walks ending n (row_at copy_place place s.queue) b at

  turns_walk : (ts : List Turn) (n : ℕ) (b : Broker) → AreGoodTurns s.queue n ts → At_ n b → Phased (after_all (all_turn_deeds now line s ts) b)
  turns_walk [] n b good at = at.phased
  turns_walk (t ∷ ts) n b good at =
      subst Phased (sym (after_append (turn_deeds now line s t) (all_turn_deeds now line s ts) b))
      (turns_walk ts (greatest_by n t) (after_all (turn_deeds now line s t) b) good.2 (turn_walks t n b good.0 good.1 at))

  one_walks : (t : Turn) (n : ℕ) (b : Broker) → AreGoodTurns s.queue n (t ∷ []) → At_ n b → Phased (after_all (turn_deeds now line s t) b)
  one_walks t n b good at = (turn_walks t n b good.0 good.1 at).phased

-- ---- the law

up_at : (s : Session) (b : Broker) → session_at s.birth b.records ≡ Some s → Kept b → IsAscending copy_place s.queue
up_at s b there h = (all_at birth_of _ s.birth s b.records.sessions h.0.each there).queue.ascending

walks_first : (went : List ℕ) (s : Session) (b : Broker) → session_at s.birth b.records ≡ Some s → Kept b → Walks s.queue s.birth (greatest_order (map (entry_on went) s.queue)) b
walks_first went s b there h = record { session = s; there = there; copies = λ place e at. (e, at, refl); orders = orders_known went s.queue; phased = h.1 }

-- a pump keeps it, whatever the sizes
sized_pump_kept : (size : CopyRow → ℕ) (l : Line) (s : Session) (b : Broker) → session_at s.birth b.records ≡ Some s → Kept b
    → Kept (after_all (all_turn_deeds b.now l.number s (pump (way_of l b.now) (map (sized size l.went) s.queue))) b)
sized_pump_kept size l s b there h =
    let its = all_at birth_of HasPhases s.birth s b.records.sessions h.1 there in
    let rows = map (sized size l.went) s.queue in
    let ts = pump (way_of l b.now) rows in
    let first = subst (λ (n : ℕ). Walks s.queue s.birth n b) (sym (orders_sized size l.went s.queue)) (walks_first l.went s b there h) in (
      ordered_all (all_turn_deeds b.now l.number s ts) b h.0,
      turns_walk b.now l.number s ts (greatest_order rows) b (pump_turns_good size (way_of l b.now) l.went s.queue (up_at s b there h) its.each) first,
    )

-- by those of the forms in which they would go out
pump_kept : (l : Line) (s : Session) (b : Broker) → session_at s.birth b.records ≡ Some s → Kept b → Kept (after_all (pump_deeds l b s) b)
pump_kept l s b = sized_pump_kept (size_at (fitted l b.now (told_on l.number b.tellings) s.queue)) l s b

turn_kept : (a : Answer) (t : Turn) (l : Line) (s : Session) (b : Broker) → session_at s.birth b.records ≡ Some s → IsAnswer a l s → a ≡ Ok (Some t) → Kept b → Kept (after_all (turn_deeds b.now l.number s t) b)
turn_kept a t l s b there is e h =
    let its = all_at birth_of HasPhases s.birth s b.records.sessions h.1 there in (
      ordered_all (turn_deeds b.now l.number s t) b h.0,
      one_walks b.now l.number s t (greatest_order (queue_on l.went s)) b
          (subst (GoodAnswer l.went s.queue) e (answer_good a l s (up_at s b there h) its.each is)) (walks_first l.went s b there h),
    )

turns_kept : TurnLaw anyone Kept (λ d b. ⊤)
turns_kept = record {
  pumps = λ l s b h its is there. leads_end Kept (pump_deeds l b s) b (pump_kept l s b there h);
  turns = λ a t l s b h its own there is e. leads_end Kept (turn_deeds b.now l.number s t) b (turn_kept a t l s b there is e h);
}

the_law : (env : Env) → Law env anyone Kept (λ d b. ⊤)
the_law env = by_ends env anyone Kept Keeps (phases_law env) (λ client b c its. tt) turns_kept

-- ---- a step and an opening

moment_phased : (rows : List Change) (b : Broker) → HavePhases b.records → HavePhases (with_moment rows b).records
moment_phased [] b h = h
moment_phased (row ∷ rows) b h = h

-- behind a step phases fit their copies, and orders differ
pub step_phases : (limits : Capacity) (choice : MemberChoice) (now : ℕ) (call : Call) (b : Broker) → IsOrdered (stored b) → HavePhases (stored b) → HavePhases (stored (stepped limits choice now call b))
step_phases limits choice now call b ordered h =
    let c = at_moment now b in
    let env = env_of limits choice b in
    let ds = deeds limits choice now call b in
    moment_phased (rows_of_all ds c.records) (after_all ds c) (leads_call env anyone Kept (λ d x. ⊤) (the_law env) call c (ordered, h) (call_of_anyone call c)).1.1

-- so it is behind an opening
pub opening_phases : (limits : Capacity) (choice : MemberChoice) (now : ℕ) (r : Records) → IsOrdered r → HavePhases r → HavePhases (stored (opened limits choice now r))
opening_phases limits choice now r ordered h =
    let b = unopened now r in
    let env = env_of limits choice b in
    let ds = opening env b in
    moment_phased (rows_of_all ds b.records) (after_all ds b)
    (leads_opening env anyone Kept (λ d x. ⊤) (the_law env) (λ s x g is. leads_end Kept (At (whose s) (Close x.now) ∷ []) x (unmarked (At (whose s) (Close x.now)) x tt g)) (λ birth. tt) b (ordered, h)).1.1
