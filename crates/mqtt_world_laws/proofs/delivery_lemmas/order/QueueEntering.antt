-- What stands in a client's queue after any events stood there before, or has entered behind, in that order (MQTT 5.0, 4.6).
use Rattle.std.proofs.Common.{◌≡◌, ℕ, suc, Bool, true, false, cond, not, List, [], ◌∷◌, ◌++◌, ◌||◌, filter, length, map, Option, Some, None, bytes_eq, nat_eq, nat_lt, refl, sym, ap, subst, ◌∙◌, append-nil, append_assoc, inl, inr}
use Rattle.std.specs.Prelude.{⊤, filter_map, is_some, option_map}
use Rattle.std.specs.List.{AllByRecursion}
use Rattle.std.proofs.lemmas.Bool.{cases_Bool}
use Rattle.std.proofs.lemmas.Slice.Eq.{bytes_eq-Decides}
use Rattle.std.proofs.lemmas.List.Elements.{filter_map-append}
use Rattle.mqtt_base.specs.declared.limits.TheConstants.{QUEUE_LIMIT, SESSION_LIMIT}
use Rattle.mqtt_base.specs.declared.session.CopyId.{CopyId}
use Rattle.mqtt_base.specs.declared.session.Phase.{Phase}
use Rattle.mqtt_world_model.specs.model.Hops.{IsIts, IsOnly}
use Rattle.mqtt_world_model.specs.model.Laws.{stand_among, standing_in}
use Rattle.mqtt_world_model.specs.model.Run.{entered_in}
use Rattle.mqtt_world_model.proofs.model_lemmas.others.Lists.{all_find}
use Rattle.mqtt_world_model.proofs.model_lemmas.others.Names.{named_is}
use Rattle.mqtt_world_model.proofs.model_lemmas.seats.Seeing.{done_sessions}
use Rattle.mqtt_records.specs.messages.Queue.{CopyRow}
use Rattle.mqtt_records.specs.declared.messages.message.MessageCopy.{MessageCopy}
use Rattle.mqtt_records.specs.declared.messages.message.Will.{Will}
use Rattle.mqtt_records.specs.state.Records.{changed_all, put_session}
use Rattle.mqtt_records.specs.state.Session.{birth_of, columns_of, copy_place, fresh, in_phase, with_columns, with_copy, with_open, with_phase, with_subscription, with_will, without_copy, without_open, without_subscription}
use Rattle.mqtt_records.specs.declared.state.records.Records.{Records}
use Rattle.mqtt_records.specs.declared.state.session.Columns.{Columns}
use Rattle.mqtt_records.specs.declared.state.session.Session.{Session}
use Rattle.mqtt_records.specs.lists.Order.{change_row, has_row, insert_row, put_row, row_at}
use Rattle.mqtt_records.proofs.lists_lemmas.LookUps.{insert_row-last}
use Rattle.mqtt_rules.proofs.step_lemmas.acts.ByDeeds.{leads_deeds, leads_opened}
use Rattle.mqtt_rules.proofs.step_lemmas.numbers.Copies.{each_filter}
use Rattle.mqtt_rules.proofs.step_lemmas.flight.FlightRows.{all_found, all_inserted, all_more, found_key}
use Rattle.mqtt_rules.proofs.step_lemmas.acts.Goods.{AreGood}
use Rattle.mqtt_rules.proofs.step_lemmas.numbers.NumberBirths.{below_none, given_deed}
use Rattle.mqtt_rules.proofs.step_lemmas.numbers.NumberFacts.{GivesNext, next_law, next_mark}
use Rattle.mqtt_rules.proofs.step_lemmas.order.OrderedQueues.{below_own}
use Rattle.mqtt_rules.specs.step.Deeds.{Accept, At, Begin, Close, Count, Deed, DropWill, Enter, Finish, Forget, Gone, Keep, Leave, Link, Mark, Name, On, Open, Part, RefuseWill, Release, Resume, Send, SetExpiry, Subscribe, Unsubscribe, after, after_all, new_entry, part_rows, part_rows_of, rows_of_all, stored_after}
use Rattle.mqtt_rules.specs.step.Laws.{IsCoherent}
use Rattle.mqtt_rules.specs.step.Numbers.{HasGivenBirths}
use Rattle.mqtt_rules.specs.step.State.{Broker, session_at, session_named}
use Rattle.mqtt_rules.specs.step.Step.{at_moment, deeds, env_of, opening, unopened}
use Rattle.mqtt_rules.specs.declared.step.Capacity.{Capacity}
use Rattle.mqtt_world_laws.proofs.acceptance_lemmas.copies.Walks.{Walk}
use Rattle.mqtt_world_laws.specs.delivery.HandedOver.{queued_by}
use Rattle.mqtt_world_laws.proofs.delivery_lemmas.order.Among.{stand_more, stand_both, stand_self, stand_trans}
use Rattle.mqtt_world_laws.proofs.delivery_lemmas.order.QueueOrder.{behind_one, none_first}

-- ---- in a queue

fewer_ids : (p : CopyRow → Bool) (rows : List CopyRow) → stand_among (map (λ (e : CopyRow). e.copy.id) (filter p rows)) (map (λ (e : CopyRow). e.copy.id) rows) ≡ true
fewer_ids p [] = refl
fewer_ids p (e ∷ rows) = elim (cases_Bool (p e)) [
  | inl in_ ↦ rw in_ (stand_both (e.copy.id ∷ []) (map (λ (x : CopyRow). x.copy.id) (filter p rows)) (e.copy.id ∷ []) (map (λ (x : CopyRow). x.copy.id) rows) (stand_self (e.copy.id ∷ [])) (fewer_ids p rows))
  | inr out ↦ rw out (behind_one (map (λ (x : CopyRow). x.copy.id) (filter p rows)) e.copy.id (map (λ (x : CopyRow). x.copy.id) rows) (fewer_ids p rows))
]

same_ids : (k : ℕ) (phase : Phase) (rows : List CopyRow) → map (λ (e : CopyRow). e.copy.id) (change_row copy_place k (in_phase phase) rows) ≡ map (λ (e : CopyRow). e.copy.id) rows
same_ids k phase [] = refl
same_ids k phase (e ∷ rows) = elim (cases_Bool (nat_eq e.place k)) [
  | inl here ↦ rw here refl
  | inr further ↦ rw further (ap (λ (ids : List CopyId). e.copy.id ∷ ids) (same_ids k phase rows))
]

map_last : (rows : List CopyRow) (e : CopyRow) → map (λ (x : CopyRow). x.copy.id) (rows ++ e ∷ []) ≡ map (λ (x : CopyRow). x.copy.id) rows ++ e.copy.id ∷ []
map_last [] e = refl
map_last (x ∷ rows) e = ap (λ (ids : List CopyId). x.copy.id ∷ ids) (map_last rows e)

-- a copy that enters stands at the end
entered_ids : (copy : MessageCopy) (rows : List CopyRow) (base : List CopyId) → stand_among (map (λ (x : CopyRow). x.copy.id) rows) base ≡ true
    → stand_among (map (λ (x : CopyRow). x.copy.id) (put_row copy_place QUEUE_LIMIT (new_entry copy rows) rows)) (base ++ copy.id ∷ []) ≡ true
entered_ids copy rows base h = by (has_row copy_place (copy_place row) rows) (nat_lt (length rows) QUEUE_LIMIT)
  where
    row : CopyRow
    row = new_entry copy rows

    there : stand_among (map (λ (x : CopyRow). x.copy.id) (insert_row copy_place row rows)) (base ++ copy.id ∷ []) ≡ true
    there = subst (λ (xs : List CopyRow). stand_among (map (λ (x : CopyRow). x.copy.id) xs) (base ++ copy.id ∷ []) ≡ true) (sym (insert_row-last copy_place row rows (below_own rows)))
        (subst (λ (ids : List CopyId). stand_among ids (base ++ copy.id ∷ []) ≡ true) (sym (map_last rows row))
        (stand_both (map (λ (x : CopyRow). x.copy.id) rows) (copy.id ∷ []) base (copy.id ∷ []) h (stand_self (copy.id ∷ []))))

    by : (a b : Bool) → stand_among (map (λ (x : CopyRow). x.copy.id) (cond (a || b) (insert_row copy_place row rows) rows)) (base ++ copy.id ∷ []) ≡ true
    by true b = there
    by false true = there
    by false false = stand_more (map (λ (x : CopyRow). x.copy.id) rows) base (copy.id ∷ []) h

module _ (c : List ℕ) where
  abbrev IsIn : List CopyId → Session → Type 0
  IsIn base x = x.client ≡ c → stand_among (standing_in x) base ≡ true

  abbrev AreIn : List CopyId → List Session → Type 0
  AreIn base ss = AllByRecursion (IsIn base) ss

  more_in : (base more : List CopyId) (ss : List Session) → AreIn base ss → AreIn (base ++ more) ss
  more_in base more [] h = tt
  more_in base more (x ∷ xs) h = ((λ e. stand_more (standing_in x) base more (h.0 e)), more_in base more xs h.1)

  changed_in : (k : ℕ) (base more : List CopyId) (f : Session → Session) (ss : List Session) → ((y : Session) → row_at birth_of k ss ≡ Some y → IsIn base y → IsIn (base ++ more) (f y)) → AreIn base ss → AreIn (base ++ more) (change_row birth_of k f ss)
  changed_in k base more f [] grows h = tt
  changed_in k base more f (y ∷ ys) grows h = elim (cases_Bool (nat_eq y.birth k)) [
    | inl here ↦ rw here (grows y (rw here refl) h.0, more_in base more ys h.1)
    | inr further ↦ rw further ((λ e. stand_more (standing_in y) base more (h.0 e)), changed_in k base more f ys (λ z at. grows z (rw further at)) h.1)
  ]

  none_more : (base : List CopyId) (ss : List Session) → AreIn base ss → AreIn (base ++ []) ss
  none_more base ss h = more_in base [] ss h

  -- a change that keeps the name, after which no other copy stands
  kept_in : (k : ℕ) (base : List CopyId) (f : Session → Session) (ss : List Session) → ((y : Session) → (f y).client ≡ y.client) → ((y : Session) → stand_among (standing_in (f y)) (standing_in y) ≡ true)
      → AreIn base ss → AreIn (base ++ []) (change_row birth_of k f ss)
  kept_in k base f ss same less h =
      changed_in k base [] f ss (λ y at in_ e. stand_more (standing_in (f y)) base [] (stand_trans (standing_in (f y)) (standing_in y) base (less y) (in_ (sym (same y) ∙ e)))) h

  -- its columns, which have its name
  columns_in : (base : List CopyId) (row : Columns) (s : Session) (ss : List Session) → row_at birth_of row.birth ss ≡ Some s → row.client ≡ s.client → AreIn base ss → AreIn (base ++ []) (change_row birth_of row.birth (with_columns row) ss)
  columns_in base row s ss there name h =
      changed_in row.birth base [] (with_columns row) ss (λ y at in_ e.
      let both : Some s ≡ Some y = sym there ∙ at in
      let same : s ≡ y = cc in
      stand_more (standing_in y) base [] (in_ (sym (ap (λ (z : Session). z.client) same) ∙ (sym name ∙ e)))) h

  -- nothing more, once more
  no_more : (base : List CopyId) (ss : List Session) → AreIn ((base ++ []) ++ []) ss → AreIn (base ++ []) ss
  no_more base ss h = subst (λ (ids : List CopyId). AreIn ids ss) (append-nil (base ++ [])) h

  will_in : (base : List CopyId) (k : ℕ) (will : Option Will) (ss : List Session) → AreIn base ss → AreIn (base ++ []) (change_row birth_of k (with_will will) ss)
  will_in base k will ss h = kept_in k base (with_will will) ss (λ y. refl) (λ y. stand_self (standing_in y)) h

  -- ---- a part of a session

  -- the copy that it brings
  abbrev brings : Part → List CopyId
  brings (Enter copy) = copy.id ∷ []
  brings part = []

  part_in : (base : List CopyId) (k : ℕ) (part : Part) (s : Session) (r : Records) → session_at k r ≡ Some s → AreIn base r.sessions → AreIn (base ++ brings part) (changed_all (part_rows part s) r).sessions
  part_in base k part s r at h = by part
    where
      own_at : row_at birth_of s.birth r.sessions ≡ Some s
      own_at = ap (λ (j : ℕ). row_at birth_of j r.sessions) (found_key birth_of k s r.sessions at) ∙ at

      set : (row : Columns) → row.birth ≡ s.birth → row.client ≡ s.client → AreIn (base ++ []) (change_row birth_of row.birth (with_columns row) r.sessions)
      set row is name = columns_in base row s r.sessions (ap (λ (j : ℕ). row_at birth_of j r.sessions) is ∙ own_at) name h

      kept : (f : Session → Session) → ((y : Session) → (f y).client ≡ y.client) → ((y : Session) → stand_among (standing_in (f y)) (standing_in y) ≡ true) → AreIn (base ++ []) (change_row birth_of s.birth f r.sessions)
      kept f same less = kept_in s.birth base f r.sessions same less h

      by : (x : Part) → AreIn (base ++ brings x) (changed_all (part_rows x s) r).sessions
      by (Resume expiry None) = no_more base _ (will_in (base ++ []) s.birth None _ (set (record (columns_of s) { expiry = expiry; closed = None }) refl refl))
      by (Resume expiry (Some w)) = no_more base _ (will_in (base ++ []) s.birth (Some w) _ (set (record (columns_of s) { expiry = expiry; closed = None }) refl refl))
      by (Close moment) = set (record (columns_of s) { closed = Some moment }) refl refl
      by (SetExpiry expiry) = set (record (columns_of s) { expiry = expiry }) refl refl
      by DropWill = will_in base s.birth None r.sessions h
      by (Subscribe sub) = kept (with_subscription sub) (λ y. refl) (λ y. stand_self (standing_in y))
      by (Unsubscribe filter) = kept (without_subscription filter) (λ y. refl) (λ y. stand_self (standing_in y))
      by (Open id) = kept (with_open id) (λ y. refl) (λ y. stand_self (standing_in y))
      by (Release id) = kept (without_open id) (λ y. refl) (λ y. stand_self (standing_in y))
      by (Enter copy) =
          changed_in s.birth base (copy.id ∷ []) (with_copy (new_entry copy s.queue)) r.sessions (λ y there in_ e.
          let both : Some s ≡ Some y = sym own_at ∙ there in
          let same : s ≡ y = cc in
          subst (λ (z : Session). stand_among (standing_in (with_copy (new_entry copy s.queue) z)) (base ++ copy.id ∷ []) ≡ true) same
          (entered_ids copy s.queue base (subst (λ (z : Session). stand_among (standing_in z) base ≡ true) (sym same) (in_ e)))) h
      by (Mark place phase) = kept (with_phase place phase) (λ y. refl) (λ y. subst (λ (ids : List CopyId). stand_among ids (standing_in y) ≡ true) (sym (same_ids place phase y.queue)) (stand_self (standing_in y)))
      by (Leave e ending) = kept (without_copy e.place) (λ y. refl) (λ y. fewer_ids (λ (row : CopyRow). not (nat_eq (copy_place row) e.place)) y.queue)

  -- ---- a deed

  abbrev adds : List Deed → List CopyId
  adds ds = filter_map entered_in ds

  one_adds : (who : _) (part : Part) → adds (At who part ∷ []) ≡ brings part
  one_adds who (Enter copy) = refl
  one_adds who (Resume expiry will) = refl
  one_adds who (Close moment) = refl
  one_adds who (SetExpiry expiry) = refl
  one_adds who DropWill = refl
  one_adds who (Subscribe sub) = refl
  one_adds who (Unsubscribe filter) = refl
  one_adds who (Open id) = refl
  one_adds who (Release id) = refl
  one_adds who (Mark place phase) = refl
  one_adds who (Leave e ending) = refl

  at_in : (base : List CopyId) (k : ℕ) (part : Part) (o : Option Session) (r : Records) → session_at k r ≡ o → AreIn base r.sessions → AreIn (base ++ brings part) (changed_all (part_rows_of part o) r).sessions
  at_in base k part None r at h = more_in base (brings part) r.sessions h
  at_in base k part (Some s) r at h = part_in base k part s r at h

  fresh_in : (base : List CopyId) (row : Columns) (ss : List Session) → has_row birth_of row.birth ss ≡ false → AreIn base ss → AreIn base (put_session row ss)
  fresh_in base row ss new h = rw new (put_new (nat_lt (length ss) SESSION_LIMIT))
    where
      put_new : (t : Bool) → AreIn base (cond t (insert_row birth_of (fresh row) ss) ss)
      put_new true = all_inserted birth_of (IsIn base) (fresh row) ss (λ e. none_first base) h
      put_new false = h

  begun_in : (base : List CopyId) (row : Columns) (will : Option Will) (r : Records) → has_row birth_of row.birth r.sessions ≡ false → AreIn base r.sessions → AreIn (base ++ []) (stored_after (Begin row will) r).sessions
  begun_in base row None r new h = none_more base _ (fresh_in base row r.sessions new h)
  begun_in base row (Some w) r new h = will_in base row.birth (Some w) _ (fresh_in base row r.sessions new h)

  deed_in : (base : List CopyId) (d : Deed) (b : Broker) → GivesNext d b → HasGivenBirths b.records → AreIn base b.records.sessions → AreIn (base ++ adds (d ∷ [])) (after d b).records.sessions
  deed_in base (At who part) b q births h =
      subst (λ (ids : List CopyId). AreIn (base ++ ids) (after (At who part) b).records.sessions) (sym (one_adds who part)) (at_in base who.birth part (session_at who.birth b.records) b.records refl h)
  deed_in base (Begin row will) b q births h =
      let none : row_at birth_of row.birth b.records.sessions ≡ None = ap (λ (n : ℕ). row_at birth_of n b.records.sessions) q ∙ below_none birth_of (suc b.records.births) b.records.sessions births in
      begun_in base row will b.records (ap is_some none) h
  deed_in base (Finish who) b q births h = none_more base _ (each_filter (IsIn base) (λ (s : Session). not (nat_eq (birth_of s) who.birth)) b.records.sessions h)
  deed_in base (Accept number origin m) b q births h = none_more base b.records.sessions h
  deed_in base (Name n) b q births h = none_more base b.records.sessions h
  deed_in base (Count n) b q births h = none_more base b.records.sessions h
  deed_in base (Keep kept) b q births h = none_more base b.records.sessions h
  deed_in base (Forget place) b q births h = none_more base b.records.sessions h
  deed_in base (RefuseWill who) b q births h = none_more base b.records.sessions h
  deed_in base (Link n) b q births h = none_more base b.records.sessions h
  deed_in base (On n part) b q births h = none_more base b.records.sessions h
  deed_in base (Send n packet) b q births h = none_more base b.records.sessions h
  deed_in base (Gone n) b q births h = none_more base b.records.sessions h

  joined_in : (base : List CopyId) (xs ys : List Deed) (ss : List Session) → AreIn ((base ++ adds xs) ++ adds ys) ss → AreIn (base ++ adds (xs ++ ys)) ss
  joined_in base xs ys ss h =
      subst (λ (ids : List CopyId). AreIn ids ss) (append_assoc base (adds xs) (adds ys) ∙ ap (λ (ids : List CopyId). base ++ ids) (sym (filter_map-append entered_in xs ys))) h

  deeds_in : (base : List CopyId) (ds : List Deed) (b : Broker) → AreGood GivesNext ds b → HasGivenBirths b.records → AreIn base b.records.sessions → AreIn (base ++ adds ds) (after_all ds b).records.sessions
  deeds_in base [] b q births h = none_more base b.records.sessions h
  deeds_in base (d ∷ ds) b q births h =
      joined_in base (d ∷ []) ds (after_all (d ∷ ds) b).records.sessions (deeds_in (base ++ adds (d ∷ [])) ds (after d b) q.1 (given_deed d b q.0 births) (deed_in base d b q.0 births h))

  -- ---- any step and opening

  abbrev pub Enters : List Deed → Broker → Broker → Type 0
  Enters ds b d = (base : List CopyId) → AreIn base b.records.sessions → AreIn (base ++ filter_map entered_in ds) d.records.sessions

  -- that a queue has what stood there, and behind it what entered, is a law of every run
  pub enters_walk : (limits : Capacity) → Walk limits Enters
  enters_walk limits = record {
    none = λ b base h. none_more base b.records.sessions h;
    next = λ xs ys a b d p q base h. joined_in base xs ys d.records.sessions (q (base ++ adds xs) (p base h));
    unlink = λ n b d h. h;
    link = λ n b d h. h;
    call = λ choice now call b s unspent base h.
        let first = at_moment now b in
        let ds = deeds limits choice now call b in
        let good = (leads_deeds (env_of limits choice b) (λ x. ⊤) GivesNext (next_law (env_of limits choice b)) next_mark call first tt).0 in
        subst (AreIn (base ++ adds ds)) (sym (done_sessions (rows_of_all ds first.records) (after_all ds first))) (deeds_in base ds first good s.coherent.births h);
    open_again = λ choice now b s unspent base h.
        let first = unopened now b.records in
        let env = env_of limits choice first in
        let ds = opening env first in
        let good = (leads_opened env (λ x. ⊤) GivesNext (next_law env) next_mark first tt).0 in
        subst (AreIn (base ++ adds ds)) (sym (done_sessions (rows_of_all ds first.records) (after_all ds first))) (deeds_in base ds first good s.coherent.births h);
  }

  -- ---- in the queue of the client's session

  at_start : (r : Records) → IsCoherent r → AreIn (queued_by (session_named c r)) r.sessions
  at_start r coherent =
      let all = all_found birth_of r.sessions coherent.ordered.sessions.ascending in
      all_more (λ (x : Session). row_at birth_of (birth_of x) r.sessions ≡ Some x) (IsIn (queued_by (session_named c r))) r.sessions (λ x at e.
      let only : IsOnly c x.birth r = all_more (λ (y : Session). row_at birth_of (birth_of y) r.sessions ≡ Some y) (IsIts c x.birth) r.sessions
      (λ y there same. coherent.clients y.birth x.birth c (ap (option_map (λ (z : Session). z.client)) there ∙ ap Some same) (ap (option_map (λ (z : Session). z.client)) at ∙ ap Some e)) all in
      subst (λ (ids : List CopyId). stand_among (standing_in x) ids ≡ true) (sym (ap queued_by (named_is c x.birth r x only at e))) (stand_self (standing_in x))) all

  at_end : (base : List CopyId) (r : Records) → AreIn base r.sessions → stand_among (queued_by (session_named c r)) base ≡ true
  at_end base r h = by (session_named c r) refl
    where
      by : (o : Option Session) → session_named c r ≡ o → stand_among (queued_by o) base ≡ true
      by None e = none_first base
      by (Some s) e =
          let both = all_find (IsIn base) (λ (y : Session). bytes_eq y.client c) s r.sessions h e in
          both.0 ((bytes_eq-Decides s.client c).0 both.1)

  -- what stands in a client's queue after deeds stood there, or entered behind, in that order
  pub queue_enters : (ds : List Deed) (b d : Broker) → IsCoherent b.records → Enters ds b d → stand_among (queued_by (session_named c d.records)) (queued_by (session_named c b.records) ++ filter_map entered_in ds) ≡ true
  queue_enters ds b d coherent h = at_end (queued_by (session_named c b.records) ++ filter_map entered_in ds) d.records (h (queued_by (session_named c b.records)) (at_start b.records coherent))
