-- Copies that are no larger than the client of a line takes: so are those of a queue after turns, after a copy more that is, and
-- after a CONNECT.
use Rattle.std.proofs.Common.{◌≡◌, ℕ, ◌≤◌, true, false, not, List, [], ◌∷◌, map, Option, Some, None, nat_eq, refl, sym, subst, ap, ◌∙◌, inl, inr}
use Rattle.std.specs.Prelude.{⊤}
use Rattle.std.specs.List.{AllByRecursion}
use Rattle.std.proofs.lemmas.Bool.{cases_Bool}
use Rattle.mqtt_base.specs.declared.limits.TheConstants.{QUEUE_LIMIT}
use Rattle.mqtt_base.specs.declared.session.Ending.{Ending}
use Rattle.mqtt_base.specs.declared.session.Phase.{Phase}
use Rattle.mqtt_flow.specs.outbound.OutboundWorld.{Lot, cut, past, renewed, standing}
use Rattle.mqtt_records.specs.messages.Queue.{CopyRow}
use Rattle.mqtt_records.specs.declared.messages.message.MessageCopy.{MessageCopy}
use Rattle.mqtt_records.specs.state.Records.{changed_all}
use Rattle.mqtt_records.specs.state.Session.{birth_of, copy_place, in_phase, with_copy, with_phase, with_subscription, without_copy}
use Rattle.mqtt_records.specs.declared.state.session.Session.{Session}
use Rattle.mqtt_records.specs.declared.state.subscription.Subscription.{Subscription}
use Rattle.mqtt_records.specs.lists.Order.{change_row, row_at}
use Rattle.mqtt_rules.proofs.step_lemmas.numbers.Copies.{each_filter, each_more}
use Rattle.mqtt_rules.proofs.step_lemmas.flight.FlightRows.{all_at, all_changed, all_more, all_put, found_key}
use Rattle.mqtt_rules.specs.step.Deeds.{At, Count, Deed, Enter, Leave, Mark, On, Send, Subscribe, after, after_all, new_entry, part_rows_of, rows_of_all}
use Rattle.mqtt_rules.specs.step.State.{Broker, MemberChoice, queued_copy, session_at, session_named}
use Rattle.mqtt_rules.specs.step.Step.{Call, at_moment, deeds, stepped}
use Rattle.mqtt_rules.specs.declared.step.Capacity.{Capacity}
use Rattle.mqtt_rules.specs.whole.Whole.{AreNoLarger}
use Rattle.mqtt_world_model.specs.model.Ends.{Receiver}
use Rattle.mqtt_world_model.specs.model.Hops.{IsIts, IsOnly, IsOurs}
use Rattle.mqtt_world_model.proofs.model_lemmas.others.Names.{named_is}
use Rattle.mqtt_world_model.proofs.model_lemmas.seats.Seeing.{done_sessions}
use Rattle.mqtt_world_laws.specs.receiver.Handing.{IsRun}
use Rattle.mqtt_world_laws.specs.receiver.Seen.{AreQueued, Numbering, StandOn, lot_on, still_standing, went_in}
use Rattle.mqtt_world_laws.specs.receiver.Served.{IsServed}
use Rattle.mqtt_world_laws.specs.receiver.WorldRounds.{QueueFits}
use Rattle.mqtt_world_laws.proofs.receiver_lemmas.own.Own.{some_is}
use Rattle.mqtt_world_laws.proofs.receiver_lemmas.drains.WorldRoundLines.{IsOfTurn}

-- ---- deeds

module _ (largest : ℕ) where
  abbrev IsNoLarger : CopyRow → Type 0
  IsNoLarger e = (queued_copy e.copy).size ≤ largest

  -- a deed of a turn, or of a SUBSCRIBE whose copies are no larger
  abbrev pub IsFitting : Deed → Type 0
  IsFitting (At who (Mark place phase)) = ⊤
  IsFitting (At who (Leave e ending)) = ⊤
  IsFitting (At who (Subscribe x)) = ⊤
  IsFitting (At who (Enter copy)) = (queued_copy copy).size ≤ largest
  IsFitting (Count n) = ⊤
  IsFitting (On n part) = ⊤
  IsFitting (Send n packet) = ⊤
  IsFitting d = ⊥

  turn_fits : (d : Deed) → IsOfTurn d → IsFitting d
  turn_fits (At who (Mark place phase)) q = tt
  turn_fits (At who (Leave e ending)) q = tt
  turn_fits (On n part) q = tt
  turn_fits (Send n packet) q = tt
  turn_fits d q = absurd q

module _ (largest birth : ℕ) where
  -- in the queue of the session of this birth, if it stands
  abbrev HasNoLarger : List Session → Type 0
  HasNoLarger ss = (x : Session) → row_at birth_of birth ss ≡ Some x → AreNoLarger largest x.queue

  changed_fit : (k : ℕ) (f : Session → Session) (ss : List Session) → ((y : Session) → birth_of (f y) ≡ birth_of y) → ((y : Session) → AreNoLarger largest y.queue → AreNoLarger largest (f y).queue)
      → HasNoLarger ss → HasNoLarger (change_row birth_of k f ss)
  changed_fit k f [] same keeps h x e = absurd cc
  changed_fit k f (y ∷ ys) same keeps h x e = elim (cases_Bool (nat_eq y.birth k)) [
    | inl changed ↦ elim (cases_Bool (nat_eq y.birth birth)) [
      | inl its ↦
          let kept : nat_eq (f y).birth birth ≡ true = ap (λ (j : ℕ). nat_eq j birth) (same y) ∙ its in
          let is : f y ≡ x = some_is (f y) x (rw (changed, kept) at e) in
          subst (λ (z : Session). AreNoLarger largest z.queue) is (keeps y (h y (rw its refl)))
      | inr other ↦
          let kept : nat_eq (f y).birth birth ≡ false = ap (λ (j : ℕ). nat_eq j birth) (same y) ∙ other in
          h x (rw other (rw (changed, kept) at e))
    ]
    | inr unchanged ↦ elim (cases_Bool (nat_eq y.birth birth)) [
      | inl its ↦
          let is : y ≡ x = some_is y x (rw (unchanged, its) at e) in
          subst (λ (z : Session). AreNoLarger largest z.queue) is (h y (rw its refl))
      | inr other ↦ changed_fit k f ys same keeps (λ z at. h z (rw other at)) x (rw (unchanged, other) at e)
    ]
  ]

  entered_fit : (o : Option Session) (b : Broker) (copy : MessageCopy) → (queued_copy copy).size ≤ largest → QueueFits largest birth b → HasNoLarger (changed_all (part_rows_of (Enter copy) o) b.records).sessions
  entered_fit None b copy le h = h
  entered_fit (Some s) b copy le h =
      changed_fit s.birth (with_copy (new_entry copy s.queue)) b.records.sessions (λ y. refl) (λ y q. all_put copy_place (IsNoLarger largest) QUEUE_LIMIT (new_entry copy s.queue) y.queue le q) h

  marked_fit : (o : Option Session) (b : Broker) (place : ℕ) (phase : Phase) → QueueFits largest birth b → HasNoLarger (changed_all (part_rows_of (Mark place phase) o) b.records).sessions
  marked_fit None b place phase h = h
  marked_fit (Some s) b place phase h =
      changed_fit s.birth (with_phase place phase) b.records.sessions (λ y. refl) (λ y q. all_changed copy_place (IsNoLarger largest) place (in_phase phase) y.queue (λ e u. u) q) h

  left_fit : (o : Option Session) (b : Broker) (e : CopyRow) (ending : Ending) → QueueFits largest birth b → HasNoLarger (changed_all (part_rows_of (Leave e ending) o) b.records).sessions
  left_fit None b e ending h = h
  left_fit (Some s) b e ending h =
      changed_fit s.birth (without_copy e.place) b.records.sessions (λ y. refl) (λ y q. each_filter (IsNoLarger largest) (λ (row : CopyRow). not (nat_eq (copy_place row) e.place)) y.queue q) h

  subscribed_fit : (o : Option Session) (b : Broker) (x : Subscription) → QueueFits largest birth b → HasNoLarger (changed_all (part_rows_of (Subscribe x) o) b.records).sessions
  subscribed_fit None b x h = h
  subscribed_fit (Some s) b x h = changed_fit s.birth (with_subscription x) b.records.sessions (λ y. refl) (λ y q. q) h

  deed_fits : (d : Deed) (b : Broker) → IsFitting largest d → QueueFits largest birth b → QueueFits largest birth (after d b)
  deed_fits (At who (Mark place phase)) b q h = marked_fit (session_at who.birth b.records) b place phase h
  deed_fits (At who (Leave e ending)) b q h = left_fit (session_at who.birth b.records) b e ending h
  deed_fits (At who (Subscribe x)) b q h = subscribed_fit (session_at who.birth b.records) b x h
  deed_fits (At who (Enter copy)) b q h = entered_fit (session_at who.birth b.records) b copy q h
  deed_fits (Count n) b q h = h
  deed_fits (On n part) b q h = h
  deed_fits (Send n packet) b q h = h
  deed_fits d b q h = absurd q

  deeds_fit : (ds : List Deed) (b : Broker) → AllByRecursion (IsFitting largest) ds → QueueFits largest birth b → QueueFits largest birth (after_all ds b)
  deeds_fit [] b q h = h
  deeds_fit (d ∷ ds) b q h = deeds_fit ds (after d b) q.1 (deed_fits d b q.0 h)

  -- after a call of such deeds the queue's copies are no larger still
  pub call_fits : (limits : Capacity) (choice : MemberChoice) (now : ℕ) (call : Call) (b : Broker) → AllByRecursion (IsFitting largest) (deeds limits choice now call b) → QueueFits largest birth b → QueueFits largest birth (stepped limits choice now call b)
  call_fits limits choice now call b q h x e =
      let first = at_moment now b in
      let ds = deeds limits choice now call b in
      let last = after_all ds first in
      deeds_fit ds first q h x (ap (row_at birth_of birth) (sym (done_sessions (rows_of_all ds first.records) last)) ∙ e)

  -- so it is with the deeds of turns
  pub turns_fit : (limits : Capacity) (choice : MemberChoice) (now : ℕ) (call : Call) (b : Broker) → AllByRecursion IsOfTurn (deeds limits choice now call b) → QueueFits largest birth b → QueueFits largest birth (stepped limits choice now call b)
  turns_fit limits choice now call b q h = call_fits limits choice now call b (each_more IsOfTurn (IsFitting largest) (turn_fits largest) (deeds limits choice now call b) q) h

-- ---- the copies that a hop sees

module _ (largest : ℕ) where
  abbrev IsLotNoLarger : Lot → Type 0
  IsLotNoLarger (standing e m) = e.copy.size ≤ largest
  IsLotNoLarger (past ending e m) = ⊤

  -- of those that stand
  abbrev pub LotsFit : List Lot → Type 0
  LotsFit lots = AllByRecursion IsLotNoLarger lots

  still_fit : (lots : List Lot) → LotsFit lots → LotsFit (still_standing lots)
  still_fit [] h = tt
  still_fit (standing e m ∷ lots) h = (h.0, still_fit lots h.1)
  still_fit (past ending e m ∷ lots) h = still_fit lots h.1

  fit_still : (lots : List Lot) → LotsFit (still_standing lots) → LotsFit lots
  fit_still [] h = tt
  fit_still (standing e m ∷ lots) h = (h.0, fit_still lots h.1)
  fit_still (past ending e m ∷ lots) h = (tt, fit_still lots h)

  -- on a new connection they are the same copies
  pub renewed_fit : (lots : List Lot) → LotsFit lots → LotsFit (map renewed lots)
  renewed_fit [] h = tt
  renewed_fit (standing e m ∷ lots) h = (h.0, renewed_fit lots h.1)
  renewed_fit (past ending e m ∷ lots) h = (tt, renewed_fit lots h.1)

  fit_renewed : (lots : List Lot) → LotsFit (map renewed lots) → LotsFit lots
  fit_renewed [] h = tt
  fit_renewed (standing e m ∷ lots) h = (h.0, fit_renewed lots h.1)
  fit_renewed (past ending e m ∷ lots) h = (tt, fit_renewed lots h.1)

  -- of a session that ended none stands
  pub cut_fit : (lots : List Lot) → LotsFit (map cut lots)
  cut_fit [] = tt
  cut_fit (standing e m ∷ lots) = (tt, cut_fit lots)
  cut_fit (past ending e m ∷ lots) = (tt, cut_fit lots)

  rows_fit : (went : List ℕ) (rows : List CopyRow) → LotsFit (map (lot_on went) rows) → AreNoLarger largest rows
  rows_fit went [] h = tt
  rows_fit went (row ∷ rows) h = (h.0, rows_fit went rows h.1)

  fit_rows : (went : List ℕ) (rows : List CopyRow) → AreNoLarger largest rows → LotsFit (map (lot_on went) rows)
  fit_rows went [] h = tt
  fit_rows went (row ∷ rows) h = (h.0, fit_rows went rows h.1)

  rows_of : (went : Option (List ℕ)) (lots : List Lot) (rows : List CopyRow) → StandOn lots rows went → LotsFit lots → AreNoLarger largest rows
  rows_of None lots rows same h = rows_fit [] rows (subst LotsFit same (renewed_fit (still_standing lots) (still_fit lots h)))
  rows_of (Some went) lots rows same h = rows_fit went rows (subst LotsFit same (still_fit lots h))

  -- those that stand for a queue are no larger if its copies are not
  pub lots_of : (went : Option (List ℕ)) (lots : List Lot) (rows : List CopyRow) → StandOn lots rows went → AreNoLarger largest rows → LotsFit lots
  lots_of None lots rows same h = fit_still lots (fit_renewed (still_standing lots) (subst LotsFit (sym same) (fit_rows [] rows h)))
  lots_of (Some went) lots rows same h = fit_still lots (subst LotsFit (sym same) (fit_rows went rows h))

  -- and its copies are no larger if they are not
  pub queue_fits : (birth : ℕ) (ns : List ℕ) (number : Numbering) (lots : List Lot) (q : Receiver) (d : Broker) → IsServed q.client birth ns d → IsRun number largest lots q d → LotsFit lots → QueueFits largest birth d
  queue_fits birth ns number lots q d v h fit s at =
      let is : s.birth ≡ birth = found_key birth_of birth s d.records.sessions at in
      let its : s.client ≡ q.client = (all_at birth_of (IsOurs q.client birth) birth s d.records.sessions v.sessions at).name is in
      let only : IsOnly q.client s.birth d.records = subst (λ (j : ℕ). IsOnly q.client j d.records) (sym is) (all_more (IsOurs q.client birth) (IsIts q.client birth) d.records.sessions (λ y p. p.named) v.sessions) in
      let named : session_named q.client d.records ≡ Some s = named_is q.client s.birth d.records s only (ap (λ (j : ℕ). session_at j d.records) is ∙ at) its in
      rows_of (went_in s.birth d) lots s.queue (subst (λ (o : Option Session). AreQueued lots o d) named h.queue_is) fit
