-- Over a run: what a receiver has read of the copies of a publication carries what that does, whatever becomes of the copies (MQTT 5.0,
-- 3.3.2, 3.3.3, 4.3).
use Rattle.std.proofs.Common.{◌≡◌, ◌⊎◌, ℕ, zero, suc, ◌<◌, Bool, true, false, cond, List, [], ◌∷◌, ◌++◌, Option, Some, None, refl, sym, ap, subst, ◌∙◌, append-nil, append_assoc, inl, inr}
use Rattle.std.specs.Prelude.{All, bytes_eq, filter_map, find, option_map}
use Rattle.std.specs.List.{AllByRecursion}
use Rattle.std.proofs.lemmas.List.Elements.{All-from_recursion, filter_map-append}
use Rattle.mqtt_base.specs.declared.session.CopyId.{CopyId}
use Rattle.mqtt_packet.specs.declared.codec.packet.Packet.{Packet}
use Rattle.mqtt_records.specs.messages.Queue.{CopyRow}
use Rattle.mqtt_records.specs.state.Session.{birth_of}
use Rattle.mqtt_records.specs.declared.state.session.Session.{Session}
use Rattle.mqtt_world_model.specs.model.Ends.{Entry, Receiver}
use Rattle.mqtt_world_model.specs.model.Laws.{CarriesOf, CarriesOn}
use Rattle.mqtt_world_model.specs.model.Lines.{sent_to}
use Rattle.mqtt_world_model.specs.model.Run.{Acceptance, Turn, acceptances_over, are_beginnings_clean, begins_clean, deeds_at, deeds_over, read_asked, read_at, read_first, read_if, read_in, read_opening, read_rest, run, setting, the_acceptances, the_deeds, turned}
use Rattle.mqtt_world_model.specs.model.World.{Asking, Event, Setting, World, ask, before, break, call_of, call_of_stranger, calls, calls_if, clock, comes, connect_end, first_step, give_up, happens, held_count, is_bad, next_held, old_to_broker, publish, publisher, pump, pump_on, receiver, receiver_named, receiver_told, restart, stop_after, stop_before, stranger, stranger_named, subscribe, tick, to_broker, to_end, view_of}
use Rattle.mqtt_rules.proofs.step_lemmas.numbers.Copies.{each_append, each_more}
use Rattle.mqtt_rules.proofs.step_lemmas.fit.FitLaw.{all_among}
use Rattle.mqtt_rules.proofs.step_lemmas.acts.Leads.{row_among}
use Rattle.mqtt_rules.specs.step.Deeds.{Deed}
use Rattle.mqtt_rules.specs.step.Laws.{IsAmong}
use Rattle.mqtt_rules.specs.step.Numbers.{CountsOn, HasAcceptedNumbers, publication_given}
use Rattle.mqtt_rules.specs.step.State.{Broker, session_named}
use Rattle.mqtt_rules.specs.step.Step.{Call, deeds, stepped, told}
use Rattle.mqtt_rules.specs.declared.step.Capacity.{Capacity}
use Rattle.mqtt_world_laws.specs.acceptance.Copies.{AreCountedOn}
use Rattle.mqtt_world_laws.specs.acceptance.Fair.{IsFair}
use Rattle.mqtt_world_laws.specs.acceptance.Spending.{run_spends, spending}
use Rattle.mqtt_world_laws.proofs.acceptance_lemmas.publishers.Runs.{both_true, either}
use Rattle.mqtt_world_laws.proofs.acceptance_lemmas.copies.Walks.{turn_goes}
use Rattle.mqtt_world_laws.proofs.receiver_lemmas.queue.Numbers.{place_of}
use Rattle.mqtt_world_laws.specs.delivery.HandedOnce.{CarriesEach}
use Rattle.mqtt_world_laws.specs.delivery.HandedOver.{CarriesCopy, CarryQueued}
use Rattle.mqtt_world_laws.specs.delivery.Standing.{IsPlaced, IsSeen, Stands}
use Rattle.mqtt_world_laws.specs.receiver.Connecting.{any_size}
use Rattle.mqtt_world_laws.specs.delivery.Untouched.{IsUntouched}
use Rattle.mqtt_world_laws.proofs.delivery_lemmas.contents.Contents.{AllSaid, Keeps, Numbered, QueueSaid, RowSaid, SaidAbove, accepted, accepted_in, keeping, said_more}
use Rattle.mqtt_world_laws.proofs.delivery_lemmas.contents.Saying.{AreBy, by_deeds, by_joined, first_said, numbered, said_carries}
use Rattle.mqtt_world_laws.proofs.delivery_lemmas.whole.EveryRun.{untouched_kept}
use Rattle.mqtt_world_laws.proofs.delivery_lemmas.contents.Holdings.{EachHolds, Holds, IsNoTurn, happens_hold}
use Rattle.mqtt_world_laws.proofs.delivery_lemmas.others.Outside.{named_called}
use Rattle.mqtt_world_laws.proofs.delivery_lemmas.others.Runs.{IsKept, turn_kept}
use Rattle.mqtt_world_laws.proofs.delivery_lemmas.others.Standings.{runs_so}
use Rattle.mqtt_world_laws.proofs.delivery_lemmas.contents.WayTags.{IsThere, TagStands, own_there, tags_stand, way_carries, way_entries, way_entry}

-- ---- lists

themselves : (es : List Entry) → AllByRecursion (λ (e : Entry). IsAmong e es) es
themselves [] = tt
themselves (e ∷ es) = (inl refl, each_more (λ (x : Entry). IsAmong x es) (λ (x : Entry). IsAmong x (e ∷ es)) (λ x h. inr h) es (themselves es))

behind : (e : Entry) (xs ys : List Entry) → IsAmong e ys → IsAmong e (xs ++ ys)
behind e [] ys h = h
behind e (x ∷ xs) ys h = inr (behind e xs ys h)

each_both : (P Q R : Entry → Type 0) → ((e : Entry) → P e → Q e → R e) → (es : List Entry) → AllByRecursion P es → AllByRecursion Q es → AllByRecursion R es
each_both P Q R f [] p q = tt
each_both P Q R f (e ∷ es) p q = (f e p.0 q.0, each_both P Q R f es p.1 q.1)

-- ---- what is said of what was read

module _ (base : ℕ) where
  -- it carries what one of these does that has its copy's number
  abbrev EntrySaid : List Numbered → Entry → Type 0
  EntrySaid xs e = (copy : CopyId) → e.copy ≡ Some copy → SaidAbove base xs copy.publication e.body.topic e.body.payload

  entries_more : (xs ys : List Numbered) (es : List Entry) → AllByRecursion (EntrySaid xs) es → AllByRecursion (EntrySaid (xs ++ ys)) es
  entries_more xs ys es h = each_more (EntrySaid xs) (EntrySaid (xs ++ ys)) (λ e q copy is. said_more base xs ys copy.publication e.body.topic e.body.payload (q copy is)) es h

  holds_more : (xs ys : List Numbered) (o : Option Receiver) → EachHolds (EntrySaid xs) o → EachHolds (EntrySaid (xs ++ ys)) o
  holds_more xs ys None h = tt
  holds_more xs ys (Some r) h = record {
    read = record { ledger = entries_more xs ys r.ledger h.read.ledger; once = entries_more xs ys r.once h.read.once };
    way = entries_more xs ys (way_entries r.line.down) h.way;
  }

module _ (c : List ℕ) (base : ℕ) where
  abbrev Said : List Numbered → Entry → Type 0
  Said xs e = EntrySaid base xs e

  -- ---- what a call puts out

  module _ (set : Setting) (call : Call) (w : World) (xs : List Numbered) (s : Stands [] c any_size set.limits (calls set call w)) (said : AllSaid base xs (calls set call w).broker.records) where
    abbrev b : Broker
    b = stepped set.limits set.choice w.now call w.broker

    abbrev outputs : List (ℕ × Packet)
    outputs = (told set.limits set.choice w.now call w.broker).outputs

    module _ (r : Receiver) (named : receiver_named c (calls set call w) ≡ Some (receiver_told b (told set.limits set.choice w.now call w.broker) r)) where
      abbrev q : Receiver
      q = receiver_told b (told set.limits set.choice w.now call w.broker) r

      placed : IsPlaced any_size s.ids s.ns q b
      placed = subst (IsSeen any_size s.ids s.ns b) named s.standing.seen

      carry : CarryQueued (session_named q.client b.records) (way_entries q.line.down)
      carry = let x = runs_so c any_size set.limits s.ids s.ns q (calls set call w) s.standing named in way_carries (place_of s.ids) any_size x.after q b x.run_is

      of_tag : (n : ℕ) (e : Entry) → r.line.number ≡ Some n → IsAmong e (way_entries q.line.down) → TagStands n b e → Said xs e
      of_tag n e is among tag copy its above =
          let t : IsThere n copy b = tag copy its in
          let all = way_entries q.line.down in
          let row = t.queued.row in
          let queue = subst (λ (o : Option Session). CarryQueued o all) (own_there any_size s.ids s.ns q b n copy placed is t) carry in
          let body = all_among (CarriesCopy row.copy) e all (all_among (λ (x : CopyRow). AllByRecursion (CarriesCopy x.copy) all) row t.session.queue queue t.queued.among) among (its ∙ ap Some (sym t.queued.id_is)) in
          let rows = all_among (QueueSaid base xs) t.session b.records.sessions said.queues (row_among birth_of t.birth t.session b.records.sessions t.there) in
          let y = all_among (RowSaid base xs) row t.session.queue rows t.queued.among (subst (λ (id : CopyId). base < id.publication) (sym t.queued.id_is) above) in
          record {
            said = y.said;
            among = y.among;
            number_is = y.number_is ∙ ap (λ (id : CopyId). id.publication) t.queued.id_is;
            topic_is = y.topic_is ∙ sym body.0;
            payload_is = y.payload_is ∙ sym body.1;
          }

      sent_said : (o : Option ℕ) → r.line.number ≡ o → AllByRecursion (λ (e : Entry). IsAmong e (way_entries q.line.down)) (way_entries (sent_to o b outputs)) → AllByRecursion (Said xs) (way_entries (sent_to o b outputs))
      sent_said None is among = tt
      sent_said (Some n) is among =
          each_both (λ (e : Entry). IsAmong e (way_entries q.line.down)) (TagStands n b) (Said xs) (λ e here tag. of_tag n e is here tag) (way_entries (sent_to (Some n) b outputs)) among (tags_stand n b outputs)

      told_holds : Holds (Said xs) r → Holds (Said xs) q
      told_holds h =
          let sent = way_entries (sent_to r.line.number b outputs) in
          let old = way_entries r.line.down in
          let all : way_entries q.line.down ≡ old ++ sent = filter_map-append way_entry r.line.down (sent_to r.line.number b outputs) in
          let among = each_more (λ (e : Entry). IsAmong e sent) (λ (e : Entry). IsAmong e (way_entries q.line.down)) (λ e here. subst (IsAmong e) (sym all) (behind e old sent here)) sent (themselves sent) in
          record {
            read = record { ledger = h.read.ledger; once = h.read.once };
            way = subst (AllByRecursion (Said xs)) (sym all) (each_append (Said xs) old sent h.way (sent_said r.line.number refl among));
          }

    called_holds : EachHolds (Said xs) (receiver_named c w) → EachHolds (Said xs) (receiver_named c (calls set call w))
    called_holds h = by (receiver_named c w) refl h
      where
        by : (o : Option Receiver) → receiver_named c w ≡ o → EachHolds (Said xs) o → EachHolds (Said xs) (receiver_named c (calls set call w))
        by None e k = subst (EachHolds (Said xs)) (sym (named_called c set call w ∙ ap (option_map _) e)) tt
        by (Some r) e k =
            let named = named_called c set call w ∙ ap (option_map (receiver_told b (told set.limits set.choice w.now call w.broker))) e in
            subst (EachHolds (Said xs)) (sym named) (told_holds r named k)

  -- ---- a turn, and a run

  sends_or_not : (x : Event) → IsNoTurn x ⊎ ((d : List ℕ) × (x ≡ ask (pump d)))
  sends_or_not (ask (pump d)) = inr (d, refl)
  sends_or_not (ask (to_broker d)) = inl tt
  sends_or_not (ask (old_to_broker d)) = inl tt
  sends_or_not (ask (break d)) = inl tt
  sends_or_not (ask tick) = inl tt
  sends_or_not (ask (stranger name bytes)) = inl tt
  sends_or_not (publisher d) = inl tt
  sends_or_not (receiver d window aliases) = inl tt
  sends_or_not (connect_end d clean) = inl tt
  sends_or_not (give_up d) = inl tt
  sends_or_not (publish d x) = inl tt
  sends_or_not (subscribe d x) = inl tt
  sends_or_not (to_end d) = inl tt
  sends_or_not (clock wait) = inl tt
  sends_or_not restart = inl tt
  sends_or_not (stop_before a) = inl tt
  sends_or_not (stop_after a) = inl tt

  pumped_holds : (set : Setting) (o : Option Call) (w : World) (xs : List Numbered) → Stands [] c any_size set.limits (calls_if set o w) → AllSaid base xs (calls_if set o w).broker.records → EachHolds (Said xs) (receiver_named c w)
      → EachHolds (Said xs) (receiver_named c (calls_if set o w))
  pumped_holds set None w xs s said h = h
  pumped_holds set (Some call) w xs s said h = called_holds set call w xs s said h

  turn_holds : (limits : Capacity) (t : Turn) (v : World) (xs : List Numbered) → Stands [] c any_size limits (turned limits t v) → AllSaid base xs (turned limits t v).broker.records → EachHolds (Said xs) (receiver_named c v)
      → EachHolds (Said xs) (receiver_named c (turned limits t v))
  turn_holds limits t v xs s said h = by (is_bad t.event v) s said
    where
      set : Setting
      set = setting limits t

      on : (x : Event) → Stands [] c any_size limits (happens set x v) → AllSaid base xs (happens set x v).broker.records → EachHolds (Said xs) (receiver_named c (happens set x v))
      on x s said = elim (sends_or_not x) [
        | inl none ↦ happens_hold (Said xs) c set x v none h
        | inr sends ↦
            let is = sends.1 in
            subst (λ (y : Event). EachHolds (Said xs) (receiver_named c (happens set y v))) (sym is)
            (pumped_holds set (pump_on (view_of sends.0 v).number) v xs (subst (λ (y : Event). Stands [] c any_size limits (happens set y v)) is s) (subst (λ (y : Event). AllSaid base xs (happens set y v).broker.records) is said) h)
      ]

      by : (bad : Bool) → Stands [] c any_size limits (cond bad v (happens set t.event v)) → AllSaid base xs (cond bad v (happens set t.event v)).broker.records → EachHolds (Said xs) (receiver_named c (cond bad v (happens set t.event v)))
      by true s said = h
      by false s said = on t.event s said

  run_holds : (limits : Capacity) (ts : List Turn) (v : World) (xs : List Numbered) → IsKept [] c limits v → run_spends limits ts v ≡ false → are_beginnings_clean limits ts v ≡ true → AllSaid base xs v.broker.records → EachHolds (Said xs) (receiver_named c v)
      → EachHolds (Said (xs ++ accepted (deeds_over limits ts v))) (receiver_named c (run limits ts v))
  run_holds limits [] v xs k unspent carried said h = subst (λ (all : List Numbered). EachHolds (Said all) (receiver_named c v)) (sym (append-nil xs)) h
  run_holds limits (t ∷ ts) v xs k unspent carried said h =
      let u = turned limits t v in
      let costs = either (read_at spending (setting limits t) t.event v) (run_spends limits ts u) unspent in
      let clean = both_true (begins_clean t.event v) (are_beginnings_clean limits ts u) carried in
      let a = k.stands.standing.around in
      let ds = deeds_at (setting limits t) t.event v in
      let es = deeds_over limits ts u in
      let all = xs ++ accepted ds in
      let next = turn_kept [] c limits t v k clean.0 costs.0 in
      let said_then = (turn_goes (Keeps base) limits (keeping base limits) t v a.within a.steady costs.0).said xs said in
      let first = turn_holds limits t v all next.stands said_then (holds_more base xs (accepted ds) (receiver_named c v) h) in
      let rest = run_holds limits ts u all next costs.1 clean.1 said_then first in
      subst (λ (zs : List Numbered). EachHolds (Said zs) (receiver_named c (run limits ts u)))
      (append_assoc xs (accepted ds) (accepted es) ∙ ap (λ (zs : List Numbered). xs ++ zs) (sym (filter_map-append accepted_in ds es))) rest

-- ---- each acceptance of a run is by one of its deeds

module _ (set : Setting) where
  by_call : (o : Option Call) (w : World) → AreBy (read_if the_acceptances set o w) (read_if the_deeds set o w)
  by_call None w = tt
  by_call (Some call) w = by_deeds _ (deeds set.limits set.choice w.now call w.broker) _

  by_opening : (w : World) → AreBy (read_opening the_acceptances set w) (read_opening the_deeds set w)
  by_opening w = by_deeds _ (read_opening the_deeds set w) _

  by_rest : (more : ℕ) (name : List ℕ) (v : World) → AreBy (read_rest the_acceptances set more name v) (read_rest the_deeds set more name v)
  by_rest zero name v = tt
  by_rest (suc more) name v =
      let call = call_of_stranger (stranger_named name v) in
      let u = calls_if set call (next_held name v) in
      by_joined (read_if the_acceptances set call v) (read_rest the_acceptances set more name u) (read_if the_deeds set call v) (read_rest the_deeds set more name u) (by_call call v) (by_rest more name u)

  by_first : (a : Asking) (w : World) → AreBy (read_first the_acceptances set a w) (read_first the_deeds set a w)
  by_first a w = by_call (call_of set a w) (before set a w)

  by_asked : (a : Asking) (w : World) → AreBy (read_asked the_acceptances set a w) (read_asked the_deeds set a w)
  by_asked (to_broker d) w = by_first (to_broker d) w
  by_asked (old_to_broker d) w = by_first (old_to_broker d) w
  by_asked (break d) w = by_first (break d) w
  by_asked (pump d) w = by_first (pump d) w
  by_asked tick w = by_first tick w
  by_asked (stranger name bytes) w = let v = comes set name bytes w in by_rest (held_count (stranger_named name v)) name v

  by_event : (x : Event) (w : World) → AreBy (read_in the_acceptances set x w) (read_in the_deeds set x w)
  by_event (connect_end d clean) w = tt
  by_event (ask a) w = by_asked a w
  by_event restart w = by_opening w
  by_event (stop_before a) w = by_opening (before set a w)
  by_event (stop_after a) w =
      let v = first_step set a w in
      by_joined (read_first the_acceptances set a w) (read_opening the_acceptances set v) (read_first the_deeds set a w) (read_opening the_deeds set v) (by_first a w) (by_opening v)
  by_event x w = tt

  by_turn : (x : Event) (w : World) → AreBy (read_at the_acceptances set x w) (read_at the_deeds set x w)
  by_turn x w = by (is_bad x w)
    where
      by : (bad : Bool) → AreBy (cond bad [] (read_in the_acceptances set x w)) (cond bad [] (read_in the_deeds set x w))
      by true = tt
      by false = by_event x w

by_run : (limits : Capacity) (ts : List Turn) (w : World) → AreBy (acceptances_over limits ts w) (deeds_over limits ts w)
by_run limits [] w = tt
by_run limits (t ∷ ts) w =
    let u = turned limits t w in
    let set = setting limits t in
    by_joined (read_at the_acceptances set t.event w) (acceptances_over limits ts u) (read_at the_deeds set t.event w) (deeds_over limits ts u) (by_turn set t.event w) (by_run limits ts u)

-- ---- so what was read carries what its publication does

module _ (base last : ℕ) (ds : List Deed) (counted : CountsOn base (filter_map publication_given ds) last) (a : Acceptance) (by_one : IsAmong (numbered a) (accepted ds)) where
  entry_carries : (e : Entry) → EntrySaid base (accepted ds) e → CarriesOn a e
  entry_carries e h = by e.copy refl
    where
      by : (o : Option CopyId) → e.copy ≡ o → CarriesOf a o e.body
      by None is = tt
      by (Some copy) is = λ its. said_carries base last ds counted a by_one copy.publication e.body.topic e.body.payload (h copy is) its

  all_carry : (es : List Entry) → AllByRecursion (EntrySaid base (accepted ds)) es → All (CarriesOn a) es
  all_carry es h = All-from_recursion (CarriesOn a) es (each_more (EntrySaid base (accepted ds)) (CarriesOn a) entry_carries es h)

-- in every fair run a receiver reads what was published
pub run_reads : (limits : Capacity) (ts : List Turn) (w : World) → IsUntouched limits w → HasAcceptedNumbers w.broker.records → AreCountedOn limits ts w → IsFair limits ts w → (c : List ℕ) (r : Receiver) → receiver_named c (run limits ts w) ≡ Some r
    → All (CarriesEach r) (acceptances_over limits ts w)
run_reads limits ts w u numbers counted fair c r e =
    let base = w.broker.records.publications in
    let ds = deeds_over limits ts w in
    let nobody : EachHolds (EntrySaid base []) (receiver_named c w) = subst (EachHolds (EntrySaid base [])) (sym (ap (find (λ (x : Receiver). bytes_eq x.client c)) u.new.receivers)) tt in
    let all = run_holds c base limits ts w [] (untouched_kept c limits w fair.within u) fair.unspent fair.clean (first_said w.broker.records numbers) nobody in
    let held : Holds (EntrySaid base (accepted ds)) r = subst (EachHolds (EntrySaid base (accepted ds))) e all in
    All-from_recursion (CarriesEach r) (acceptances_over limits ts w)
    (each_more (λ (a : Acceptance). IsAmong (numbered a) (accepted ds)) (CarriesEach r) (λ a by_one. (
      all_carry base (run limits ts w).broker.records.publications ds counted a by_one r.ledger held.read.ledger,
      all_carry base (run limits ts w).broker.records.publications ds counted a by_one r.once held.read.once,
    )) (acceptances_over limits ts w) (by_run limits ts w))
