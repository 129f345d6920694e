-- No queue of a client grows by more than the copies that enter, over any events (MQTT 5.0, 4.6).
use Rattle.std.proofs.Common.{◌≡◌, ℕ, suc, ◌+◌, ◌≤◌, Bool, true, false, cond, not, List, [], ◌∷◌, ◌++◌, length, Option, Some, None, bytes_eq, nat_eq, nat_lt, refl, sym, ap, subst, ◌∙◌, arith, inl, inr}
use Rattle.std.specs.Prelude.{⊤, filter_map, is_some, option_map}
use Rattle.std.specs.List.{AllByRecursion}
use Rattle.std.proofs.lemmas.Bool.{cases_Bool}
use Rattle.std.proofs.lemmas.List.{length-append}
use Rattle.std.proofs.lemmas.Slice.Eq.{bytes_eq-Decides}
use Rattle.std.proofs.lemmas.List.Elements.{filter_map-append}
use Rattle.mqtt_base.specs.declared.limits.TheConstants.{QUEUE_LIMIT, SESSION_LIMIT}
use Rattle.mqtt_world_model.specs.model.Hops.{IsIts, IsOnly}
use Rattle.mqtt_world_model.specs.model.Run.{Turn, deeds_at, deeds_over, entered_in, run, setting, turned}
use Rattle.mqtt_world_model.specs.model.World.{World}
use Rattle.mqtt_world_model.proofs.model_lemmas.others.Lists.{all_find}
use Rattle.mqtt_world_model.proofs.model_lemmas.others.Names.{named_is}
use Rattle.mqtt_world_model.proofs.model_lemmas.seats.Seeing.{done_sessions}
use Rattle.mqtt_records.specs.messages.Queue.{CopyRow}
use Rattle.mqtt_records.specs.declared.messages.message.Will.{Will}
use Rattle.mqtt_records.specs.state.Records.{changed_all, put_session}
use Rattle.mqtt_records.specs.state.Session.{birth_of, columns_of, copy_place, fresh, in_phase, with_columns, with_copy, with_open, with_phase, with_subscription, with_will, without_copy, without_open, without_subscription}
use Rattle.mqtt_records.specs.declared.state.records.Records.{Records}
use Rattle.mqtt_records.specs.declared.state.session.Columns.{Columns}
use Rattle.mqtt_records.specs.declared.state.session.Session.{Session}
use Rattle.mqtt_records.specs.lists.Order.{change_row, has_row, insert_row, row_at}
use Rattle.mqtt_rules.proofs.step_lemmas.acts.ByDeeds.{leads_deeds, leads_opened}
use Rattle.mqtt_rules.proofs.step_lemmas.numbers.Copies.{each_filter}
use Rattle.mqtt_rules.proofs.step_lemmas.flight.FlightRows.{all_found, all_inserted, all_more, found_key}
use Rattle.mqtt_rules.proofs.step_lemmas.acts.Goods.{AreGood}
use Rattle.mqtt_rules.proofs.step_lemmas.numbers.NumberBirths.{below_none, given_deed}
use Rattle.mqtt_rules.proofs.step_lemmas.numbers.NumberFacts.{GivesNext, next_law, next_mark}
use Rattle.mqtt_rules.proofs.step_lemmas.order.Ordered.{length-change_row, length-filter_le}
use Rattle.mqtt_rules.proofs.step_lemmas.order.OrderedRoom.{length-put_row_suc}
use Rattle.mqtt_rules.specs.step.Deeds.{Accept, At, Begin, Close, Count, Deed, DropWill, Enter, Finish, Forget, Gone, Keep, Leave, Link, Mark, Name, On, Open, Part, RefuseWill, Release, Resume, Send, SetExpiry, Subscribe, Unsubscribe, after, after_all, new_entry, part_rows, part_rows_of, rows_of_all, stored_after}
use Rattle.mqtt_rules.specs.step.Laws.{AreWithin, IsCoherent}
use Rattle.mqtt_rules.specs.step.Numbers.{HasGivenBirths}
use Rattle.mqtt_rules.specs.step.State.{Broker, session_at, session_named}
use Rattle.mqtt_rules.specs.step.Step.{at_moment, deeds, env_of, opening, unopened}
use Rattle.mqtt_rules.specs.declared.step.Capacity.{Capacity}
use Rattle.mqtt_world_laws.specs.acceptance.Fair.{IsSteady}
use Rattle.mqtt_world_laws.specs.acceptance.Spending.{run_spends, spending}
use Rattle.mqtt_world_laws.proofs.acceptance_lemmas.publishers.Runs.{either}
use Rattle.mqtt_world_laws.proofs.acceptance_lemmas.copies.Walks.{Walk, turn_goes}
use Rattle.mqtt_world_model.specs.model.Run.{read_at}
use Rattle.mqtt_world_laws.specs.receiver.Drains.{copies_by, copies_left}

module _ (c : List ℕ) where
  abbrev IsShort : ℕ → Session → Type 0
  IsShort most x = x.client ≡ c → length x.queue ≤ most

  abbrev HasUpTo : ℕ → List Session → Type 0
  HasUpTo most ss = AllByRecursion (IsShort most) ss

  more_upto : (k m : ℕ) (ss : List Session) → k ≤ m → HasUpTo k ss → HasUpTo m ss
  more_upto k m [] le h = tt
  more_upto k m (x ∷ xs) le h = ((λ e. let less = h.0 e in omega (arith, le, less)), more_upto k m xs le h.1)

  changed_upto : (k most limit : ℕ) (f : Session → Session) (ss : List Session) → most ≤ limit → ((y : Session) → row_at birth_of k ss ≡ Some y → IsShort most y → IsShort limit (f y)) → HasUpTo most ss → HasUpTo limit (change_row birth_of k f ss)
  changed_upto k most limit f [] le grows h = tt
  changed_upto k most limit f (y ∷ ys) le grows h = elim (cases_Bool (nat_eq y.birth k)) [
    | inl here ↦ rw here (grows y (rw here refl) h.0, more_upto most limit ys le h.1)
    | inr further ↦ rw further ((λ e. let less = h.0 e in omega (arith, le, less)), changed_upto k most limit f ys le (λ z at. grows z (rw further at)) h.1)
  ]

  -- a change that keeps the name, and makes the queue no longer
  kept_upto : (k most : ℕ) (f : Session → Session) (ss : List Session) → ((y : Session) → (f y).client ≡ y.client) → ((y : Session) → length (f y).queue ≤ length y.queue) → HasUpTo most ss → HasUpTo most (change_row birth_of k f ss)
  kept_upto k most f ss same less h =
      changed_upto k most most f ss (omega arith) (λ y at short e. let a = less y in let b = short (sym (same y) ∙ e) in omega (arith, a, b)) h

  -- its columns, which have its name
  columns_upto : (most : ℕ) (row : Columns) (s : Session) (ss : List Session) → row_at birth_of row.birth ss ≡ Some s → row.client ≡ s.client → HasUpTo most ss → HasUpTo most (change_row birth_of row.birth (with_columns row) ss)
  columns_upto most row s ss there name h =
      changed_upto row.birth most most (with_columns row) ss (omega arith) (λ y at short e.
      let both : Some s ≡ Some y = sym there ∙ at in
      let same : s ≡ y = cc in
      short (sym (ap (λ (z : Session). z.client) same) ∙ (sym name ∙ e))) h

  will_upto : (most k : ℕ) (will : Option Will) (ss : List Session) → HasUpTo most ss → HasUpTo most (change_row birth_of k (with_will will) ss)
  will_upto most k will ss h = kept_upto k most (with_will will) ss (λ y. refl) (λ y. omega arith) h

  -- ---- a part of a session

  -- how many copies it brings
  abbrev brings : Part → ℕ
  brings (Enter copy) = 1
  brings part = 0

  none_more : (most : ℕ) (ss : List Session) → HasUpTo most ss → HasUpTo (most + 0) ss
  none_more most ss h = more_upto most (most + 0) ss (omega arith) h

  part_upto : (most k : ℕ) (part : Part) (s : Session) (r : Records) → session_at k r ≡ Some s → HasUpTo most r.sessions → HasUpTo (most + brings part) (changed_all (part_rows part s) r).sessions
  part_upto most k part s r at h = by part
    where
      own_at : row_at birth_of s.birth r.sessions ≡ Some s
      own_at = ap (λ (j : ℕ). row_at birth_of j r.sessions) (found_key birth_of k s r.sessions at) ∙ at

      set : (row : Columns) → row.birth ≡ s.birth → row.client ≡ s.client → HasUpTo most (change_row birth_of row.birth (with_columns row) r.sessions)
      set row is name = columns_upto most row s r.sessions (ap (λ (j : ℕ). row_at birth_of j r.sessions) is ∙ own_at) name h

      kept : (f : Session → Session) → ((y : Session) → (f y).client ≡ y.client) → ((y : Session) → length (f y).queue ≤ length y.queue) → HasUpTo (most + 0) (change_row birth_of s.birth f r.sessions)
      kept f same less = none_more most _ (kept_upto s.birth most f r.sessions same less h)

      by : (x : Part) → HasUpTo (most + brings x) (changed_all (part_rows x s) r).sessions
      by (Resume expiry None) = none_more most _ (will_upto most s.birth None _ (set (record (columns_of s) { expiry = expiry; closed = None }) refl refl))
      by (Resume expiry (Some w)) = none_more most _ (will_upto most s.birth (Some w) _ (set (record (columns_of s) { expiry = expiry; closed = None }) refl refl))
      by (Close moment) = none_more most _ (set (record (columns_of s) { closed = Some moment }) refl refl)
      by (SetExpiry expiry) = none_more most _ (set (record (columns_of s) { expiry = expiry }) refl refl)
      by DropWill = none_more most _ (will_upto most s.birth None r.sessions h)
      by (Subscribe sub) = kept (with_subscription sub) (λ y. refl) (λ y. omega arith)
      by (Unsubscribe filter) = kept (without_subscription filter) (λ y. refl) (λ y. omega arith)
      by (Open id) = kept (with_open id) (λ y. refl) (λ y. omega arith)
      by (Release id) = kept (without_open id) (λ y. refl) (λ y. omega arith)
      by (Enter copy) =
          let row = new_entry copy s.queue in
          changed_upto s.birth most (most + 1) (with_copy row) r.sessions (omega arith) (λ y there short e.
          let more = length-put_row_suc copy_place QUEUE_LIMIT row y.queue in let less = short e in omega (arith, more, less)) h
      by (Mark place phase) = kept (with_phase place phase) (λ y. refl) (λ y. let same = length-change_row copy_place place (in_phase phase) y.queue in omega (arith, same))
      by (Leave e ending) = kept (without_copy e.place) (λ y. refl) (λ y. length-filter_le (λ (row : CopyRow). not (nat_eq (copy_place row) e.place)) y.queue)

  -- ---- a deed

  abbrev adds : List Deed → ℕ
  adds ds = length (filter_map entered_in ds)

  one_adds : (who : _) (part : Part) → adds (At who part ∷ []) ≡ brings part
  one_adds who (Enter copy) = refl
  one_adds who (Resume expiry will) = refl
  one_adds who (Close moment) = refl
  one_adds who (SetExpiry expiry) = refl
  one_adds who DropWill = refl
  one_adds who (Subscribe sub) = refl
  one_adds who (Unsubscribe filter) = refl
  one_adds who (Open id) = refl
  one_adds who (Release id) = refl
  one_adds who (Mark place phase) = refl
  one_adds who (Leave e ending) = refl

  at_upto : (most k : ℕ) (part : Part) (o : Option Session) (r : Records) → session_at k r ≡ o → HasUpTo most r.sessions → HasUpTo (most + brings part) (changed_all (part_rows_of part o) r).sessions
  at_upto most k part None r at h = more_upto most (most + brings part) r.sessions (omega arith) h
  at_upto most k part (Some s) r at h = part_upto most k part s r at h

  fresh_upto : (most : ℕ) (row : Columns) (ss : List Session) → has_row birth_of row.birth ss ≡ false → HasUpTo most ss → HasUpTo most (put_session row ss)
  fresh_upto most row ss new h = rw new (put_new (nat_lt (length ss) SESSION_LIMIT))
    where
      put_new : (t : Bool) → HasUpTo most (cond t (insert_row birth_of (fresh row) ss) ss)
      put_new true = all_inserted birth_of (IsShort most) (fresh row) ss (λ e. omega arith) h
      put_new false = h

  begun_upto : (most : ℕ) (row : Columns) (will : Option Will) (r : Records) → has_row birth_of row.birth r.sessions ≡ false → HasUpTo most r.sessions → HasUpTo most (stored_after (Begin row will) r).sessions
  begun_upto most row None r new h = fresh_upto most row r.sessions new h
  begun_upto most row (Some w) r new h = will_upto most row.birth (Some w) _ (fresh_upto most row r.sessions new h)

  deed_upto : (most : ℕ) (d : Deed) (b : Broker) → GivesNext d b → HasGivenBirths b.records → HasUpTo most b.records.sessions → HasUpTo (most + adds (d ∷ [])) (after d b).records.sessions
  deed_upto most (At who part) b q births h =
      subst (λ (n : ℕ). HasUpTo (most + n) (after (At who part) b).records.sessions) (sym (one_adds who part)) (at_upto most who.birth part (session_at who.birth b.records) b.records refl h)
  deed_upto most (Begin row will) b q births h =
      let none : row_at birth_of row.birth b.records.sessions ≡ None = ap (λ (n : ℕ). row_at birth_of n b.records.sessions) q ∙ below_none birth_of (suc b.records.births) b.records.sessions births in
      none_more most _ (begun_upto most row will b.records (ap is_some none) h)
  deed_upto most (Finish who) b q births h = none_more most _ (each_filter (IsShort most) (λ (s : Session). not (nat_eq (birth_of s) who.birth)) b.records.sessions h)
  deed_upto most (Accept number origin m) b q births h = none_more most b.records.sessions h
  deed_upto most (Name n) b q births h = none_more most b.records.sessions h
  deed_upto most (Count n) b q births h = none_more most b.records.sessions h
  deed_upto most (Keep kept) b q births h = none_more most b.records.sessions h
  deed_upto most (Forget place) b q births h = none_more most b.records.sessions h
  deed_upto most (RefuseWill who) b q births h = none_more most b.records.sessions h
  deed_upto most (Link n) b q births h = none_more most b.records.sessions h
  deed_upto most (On n part) b q births h = none_more most b.records.sessions h
  deed_upto most (Send n packet) b q births h = none_more most b.records.sessions h
  deed_upto most (Gone n) b q births h = none_more most b.records.sessions h

  adds_more : (xs ys : List Deed) → adds (xs ++ ys) ≡ adds xs + adds ys
  adds_more xs ys = ap length (filter_map-append entered_in xs ys) ∙ length-append (filter_map entered_in xs) (filter_map entered_in ys)

  deeds_upto : (most : ℕ) (ds : List Deed) (b : Broker) → AreGood GivesNext ds b → HasGivenBirths b.records → HasUpTo most b.records.sessions → HasUpTo (most + adds ds) (after_all ds b).records.sessions
  deeds_upto most [] b q births h = none_more most b.records.sessions h
  deeds_upto most (d ∷ ds) b q births h =
      let first = deed_upto most d b q.0 births h in
      let rest = deeds_upto (most + adds (d ∷ [])) ds (after d b) q.1 (given_deed d b q.0 births) first in
      let both = adds_more (d ∷ []) ds in
      let same : most + adds (d ∷ []) + adds ds ≡ most + adds (d ∷ ds) = omega (arith, both) in
      subst (λ (n : ℕ). HasUpTo n (after_all (d ∷ ds) b).records.sessions) same rest

  -- ---- a run

  abbrev Grows : List Deed → Broker → Broker → Type 0
  Grows ds b d = (most : ℕ) → HasUpTo most b.records.sessions → HasUpTo (most + adds ds) d.records.sessions

  walk : (limits : Capacity) → Walk limits Grows
  walk limits = record {
    none = λ b most h. none_more most b.records.sessions h;
    next = λ xs ys a b d p q most h.
        let both = adds_more xs ys in
        let same : most + adds xs + adds ys ≡ most + adds (xs ++ ys) = omega (arith, both) in
        subst (λ (n : ℕ). HasUpTo n d.records.sessions) same (q (most + adds xs) (p most h));
    unlink = λ n b d h. h;
    link = λ n b d h. h;
    call = λ choice now call b s unspent most h.
        let first = at_moment now b in
        let ds = deeds limits choice now call b in
        let good = (leads_deeds (env_of limits choice b) (λ x. ⊤) GivesNext (next_law (env_of limits choice b)) next_mark call first tt).0 in
        subst (HasUpTo (most + adds ds)) (sym (done_sessions (rows_of_all ds first.records) (after_all ds first))) (deeds_upto most ds first good s.coherent.births h);
    open_again = λ choice now b s unspent most h.
        let first = unopened now b.records in
        let env = env_of limits choice first in
        let ds = opening env first in
        let good = (leads_opened env (λ x. ⊤) GivesNext (next_law env) next_mark first tt).0 in
        subst (HasUpTo (most + adds ds)) (sym (done_sessions (rows_of_all ds first.records) (after_all ds first))) (deeds_upto most ds first good s.coherent.births h);
  }

  run_grows : (limits : Capacity) (ts : List Turn) (w : World) → AreWithin limits → IsSteady w.broker → run_spends limits ts w ≡ false → Grows (deeds_over limits ts w) w.broker (run limits ts w).broker
  run_grows limits [] w within s unspent = λ most h. none_more most w.broker.records.sessions h
  run_grows limits (t ∷ ts) w within s unspent =
      let v = turned limits t w in
      let costs = either (read_at spending (setting limits t) t.event w) (run_spends limits ts v) unspent in
      let first = turn_goes Grows limits (walk limits) t w within s costs.0 in
      let rest = run_grows limits ts v within first.steady costs.1 in
      (walk limits).next (deeds_at (setting limits t) t.event w) (deeds_over limits ts v) w.broker v.broker (run limits ts v).broker first.said rest

  -- ---- in the queue of the client's session

  at_start : (r : Records) → IsCoherent r → HasUpTo (copies_by (session_named c r)) r.sessions
  at_start r coherent =
      let all = all_found birth_of r.sessions coherent.ordered.sessions.ascending in
      all_more (λ (x : Session). row_at birth_of (birth_of x) r.sessions ≡ Some x) (IsShort (copies_by (session_named c r))) r.sessions (λ x at e.
      let only : IsOnly c x.birth r = all_more (λ (y : Session). row_at birth_of (birth_of y) r.sessions ≡ Some y) (IsIts c x.birth) r.sessions
      (λ y there same. coherent.clients y.birth x.birth c (ap (option_map (λ (z : Session). z.client)) there ∙ ap Some same) (ap (option_map (λ (z : Session). z.client)) at ∙ ap Some e)) all in
      let named = named_is c x.birth r x only at e in
      let is = ap copies_by named in
      omega (arith, is)) all

  at_end : (most : ℕ) (r : Records) → HasUpTo most r.sessions → copies_by (session_named c r) ≤ most
  at_end most r h = by (session_named c r) refl
    where
      by : (o : Option Session) → session_named c r ≡ o → copies_by o ≤ most
      by None e = omega arith
      by (Some s) e =
          let both = all_find (IsShort most) (λ (y : Session). bytes_eq y.client c) s r.sessions h e in
          both.0 ((bytes_eq-Decides s.client c).0 both.1)

  -- over a run a queue grows by no more than the copies that enter
  pub queue_grows : (limits : Capacity) (ts : List Turn) (w : World) → AreWithin limits → IsSteady w.broker → run_spends limits ts w ≡ false
      → copies_left c (run limits ts w) ≤ copies_left c w + length (filter_map entered_in (deeds_over limits ts w))
  queue_grows limits ts w within s unspent =
      at_end (copies_left c w + adds (deeds_over limits ts w)) (run limits ts w).broker.records (run_grows limits ts w within s unspent (copies_left c w) (at_start w.broker.records s.coherent))
