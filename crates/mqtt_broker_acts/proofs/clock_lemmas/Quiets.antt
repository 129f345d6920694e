-- What is quiet stays so by changes that bring nothing, and of what is quiet nothing is due.
use Rattle.std.proofs.Common.{◌≡◌, ℕ, Bool, true, false, ◌&&◌, not, cond, List, [], ◌∷◌, length, map, nat_eq, refl, sym, subst, ap, ◌∙◌, ◌⊎◌, inl, inr}
use Rattle.std.specs.Prelude.{Option, Some, None, find, option_map}
use Rattle.std.specs.List.{AllByRecursion, list_any}
use Rattle.std.proofs.lemmas.Bool.{cases_Bool, eqb-true}
use Rattle.mqtt_base.specs.declared.limits.TheConstants.{QUEUE_LIMIT, RETAINED_LIMIT, SESSION_LIMIT}
use Rattle.mqtt_flow.specs.outbound.Outbound.{is_waiting}
use Rattle.mqtt_records.specs.messages.Queue.{CopyRow}
use Rattle.mqtt_records.specs.declared.messages.message.RetainedMessage.{RetainedMessage}
use Rattle.mqtt_records.specs.declared.state.change.Change.{Change}
use Rattle.mqtt_records.specs.declared.state.change.Change.TheVariants.{SetCounter, PutSession, SetSession, RemoveSession, PutWill, RemoveWill, PutSubscription, RemoveSubscription, PutInbound, RemoveInbound, PutCopy, SetCopy, RemoveCopy, PutRetained, RemoveRetained}
use Rattle.mqtt_records.specs.declared.state.change.Counter.{Counter}
use Rattle.mqtt_records.specs.declared.state.change.Counter.TheVariants.{Births, Publications, Subscribes, Autos, Moment}
use Rattle.mqtt_records.specs.declared.state.records.Records.{Records}
use Rattle.mqtt_records.specs.declared.state.session.Columns.{Columns}
use Rattle.mqtt_records.specs.declared.state.session.Session.{Session}
use Rattle.mqtt_records.specs.state.Records.{changed, changed_all, kept_place, put_session, with_counter}
use Rattle.mqtt_records.specs.state.Session.{birth_of, copy_place, fresh, in_phase, with_columns, with_will, with_subscription, without_subscription, with_open, without_open, with_copy, with_phase, without_copy}
use Rattle.mqtt_records.specs.lists.Order.{IsAscending, has_row, put_row, change_row}
use Rattle.mqtt_rules.specs.step.Closing.{has_due_end, has_due_will, is_due, will_due}
use Rattle.mqtt_rules.specs.step.Packets.{is_expired}
use Rattle.mqtt_rules.specs.step.State.{session_at}
use Rattle.mqtt_rules.specs.step.Tick.{has_lapsed, is_stale}
use Rattle.mqtt_broker_acts.specs.closing.Ticking.{will_due_in, end_due_in, stale_in, lapsed_in}
use Rattle.mqtt_rules.proofs.step_lemmas.numbers.Copies.{each_filter, each_more}
use Rattle.mqtt_rules.proofs.step_lemmas.flight.FlightRows.{all_found, all_put, all_changed}
use Rattle.mqtt_broker_looks.proofs.decided_lemmas.Looks.{lapsed_some}
use Rattle.mqtt_broker_acts.specs.clock.Ticking.{first_of, stored_in}
use Rattle.mqtt_broker_acts.specs.clock.Quiet.{AreQuiet, BringsNothing, IsFresh, IsQuiet, IsSettled, IsSettledIn}

-- ---- a change, if this is what is stored in the end

-- a session is settled, or is to be so as it stands in the end, and no copy that waits has expired
record IsCovered (now : ℕ) (last : Records) (s : Session) : Type 0 where
  settled : IsSettledIn now last s.birth ⊎ IsSettled now s
  copies : AllByRecursion (IsFresh now) s.queue

record AreCovered (now : ℕ) (last r : Records) : Type 0 where
  sessions : AllByRecursion (IsCovered now last) r.sessions
  retained : AllByRecursion (λ k. is_stale now k ≡ false) r.retained

never_due : (now : ℕ) (closed : Option ℕ) (expiry : ℕ) → is_due now (will_due closed expiry None) ≡ false
never_due now None expiry = refl
never_due now (Some closed) expiry = refl

-- a copy that was sent does not wait
in_phase_fresh : (now : ℕ) (e : CopyRow) (b : Bool) → b ≡ false → b ≡ true → is_expired now e.copy.content ≡ false
in_phase_fresh now e true sent waits = absurd cc
in_phase_fresh now e false sent waits = absurd cc

-- rows with a key changed, of which it is known that they have it
module _ {X : Type 0} (key : X → ℕ) (P : X → Type 0) where
  all_with_key : (k : ℕ) (f : X → X) (xs : List X) → ((x : X) → key x ≡ k → P x → P (f x)) → AllByRecursion P xs → AllByRecursion P (change_row key k f xs)
  all_with_key k f [] g h = tt
  all_with_key k f (y ∷ ys) g h = elim (cases_Bool (nat_eq (key y) k)) [
    | inl here ↦ rw here (g y (eqb-true (key y) k here) h.0, h.1)
    | inr further ↦ rw further (h.0, all_with_key k f ys g h.1)
  ]

module _ (now : ℕ) (last : Records) where
  -- whose columns or Will are set is looked at in the end
  set_covered : (birth : ℕ) (f : Session → Session) (ss : List Session) → ((s : Session) → ((f s).birth ≡ s.birth) × ((f s).queue ≡ s.queue)) → IsSettledIn now last birth
      → AllByRecursion (IsCovered now last) ss → AllByRecursion (IsCovered now last) (change_row birth_of birth f ss)
  set_covered birth f ss same brings h =
      all_with_key birth_of (IsCovered now last) birth f ss
      (λ s is q. record {
        settled = inl (subst (IsSettledIn now last) (sym ((same s).0 ∙ is)) brings);
        copies = subst (λ (es : List CopyRow). AllByRecursion (IsFresh now) es) (sym (same s).1) q.copies;
      }) h

  -- whose columns and Will stay is settled as before
  settled_as : (s t : Session) → t.birth ≡ s.birth → has_due_will now t ≡ has_due_will now s → has_due_end now t ≡ has_due_end now s → IsSettledIn now last s.birth ⊎ IsSettled now s
      → IsSettledIn now last t.birth ⊎ IsSettled now t
  settled_as s t same will stays it = elim it [
    | inl seen ↦ inl (subst (IsSettledIn now last) (sym same) seen)
    | inr is ↦ inr (record { will = will ∙ is.will; stays = stays ∙ is.stays })
  ]

  queue_covered : (s t : Session) → t.birth ≡ s.birth → has_due_will now t ≡ has_due_will now s → has_due_end now t ≡ has_due_end now s → IsCovered now last s → AllByRecursion (IsFresh now) t.queue
      → IsCovered now last t
  queue_covered s t same will stays q copies = record { settled = settled_as s t same will stays q.settled; copies = copies }

  unwilled : (s : Session) → IsCovered now last s → IsCovered now last (with_will None s)
  unwilled s q = record {
    settled = elim q.settled [
      | inl seen ↦ inl seen
      | inr is ↦ inr (record { will = never_due now s.closed s.expiry; stays = is.stays })
    ];
    copies = q.copies;
  }

  all_in : (birth : ℕ) (f : Session → Session) (ss : List Session) → ((s : Session) → IsCovered now last s → IsCovered now last (f s)) → AllByRecursion (IsCovered now last) ss
      → AllByRecursion (IsCovered now last) (change_row birth_of birth f ss)
  all_in birth f ss kept h = all_changed birth_of (IsCovered now last) birth f ss kept h

  each_cond : (b : Bool) (ss ts : List Session) → AllByRecursion (IsCovered now last) ss → AllByRecursion (IsCovered now last) ts → AllByRecursion (IsCovered now last) (cond b ss ts)
  each_cond true ss ts p q = p
  each_cond false ss ts p q = q

  put_covered : (row : Columns) (ss : List Session) → IsSettledIn now last row.birth → AllByRecursion (IsCovered now last) ss → AllByRecursion (IsCovered now last) (put_session row ss)
  put_covered row ss brings h =
      each_cond (has_row birth_of row.birth ss) (change_row birth_of row.birth (with_columns row) ss) (put_row birth_of SESSION_LIMIT (fresh row) ss)
      (set_covered row.birth (with_columns row) ss (λ s. (refl, refl)) brings h)
      (all_put birth_of (IsCovered now last) SESSION_LIMIT (fresh row) ss (record { settled = inl brings; copies = tt }) h)

  in_sessions : (r : Records) (ss : List Session) → AreCovered now last r → AllByRecursion (IsCovered now last) ss → AreCovered now last (record r { sessions = ss })
  in_sessions r ss h sessions = record { sessions = sessions; retained = h.retained }

  counter_covered : (counter : Counter) (value : ℕ) (r : Records) → AreCovered now last r → AreCovered now last (with_counter counter value r)
  counter_covered Births value r h = record { sessions = h.sessions; retained = h.retained }
  counter_covered Publications value r h = record { sessions = h.sessions; retained = h.retained }
  counter_covered Subscribes value r h = record { sessions = h.sessions; retained = h.retained }
  counter_covered Autos value r h = record { sessions = h.sessions; retained = h.retained }
  counter_covered Moment value r h = record { sessions = h.sessions; retained = h.retained }

  covered : (change : Change) (r : Records) → BringsNothing now last change → AreCovered now last r → AreCovered now last (changed change r)
  covered (SetCounter counter value) r brings h = counter_covered counter value r h
  covered (PutSession row) r brings h = in_sessions r _ h (put_covered row r.sessions brings h.sessions)
  covered (SetSession row) r brings h = in_sessions r _ h (set_covered row.birth (with_columns row) r.sessions (λ s. (refl, refl)) brings h.sessions)
  covered (RemoveSession birth) r brings h = in_sessions r _ h (each_filter (IsCovered now last) (λ s. not (nat_eq (birth_of s) birth)) r.sessions h.sessions)
  covered (PutWill birth will) r brings h = in_sessions r _ h (set_covered birth (with_will (Some will)) r.sessions (λ s. (refl, refl)) brings h.sessions)
  covered (RemoveWill birth) r brings h = in_sessions r _ h (all_in birth (with_will None) r.sessions unwilled h.sessions)
  covered (PutSubscription birth x) r brings h = in_sessions r _ h (all_in birth (with_subscription x) r.sessions (λ s q. queue_covered s (with_subscription x s) refl refl refl q q.copies) h.sessions)
  covered (RemoveSubscription birth text) r brings h = in_sessions r _ h (all_in birth (without_subscription text) r.sessions (λ s q. queue_covered s (without_subscription text s) refl refl refl q q.copies) h.sessions)
  covered (PutInbound birth id) r brings h = in_sessions r _ h (all_in birth (with_open id) r.sessions (λ s q. queue_covered s (with_open id s) refl refl refl q q.copies) h.sessions)
  covered (RemoveInbound birth id) r brings h = in_sessions r _ h (all_in birth (without_open id) r.sessions (λ s q. queue_covered s (without_open id s) refl refl refl q q.copies) h.sessions)
  covered (PutCopy birth row) r brings h =
      in_sessions r _ h
      (all_in birth (with_copy row) r.sessions (λ s q. queue_covered s (with_copy row s) refl refl refl q (all_put copy_place (IsFresh now) QUEUE_LIMIT row s.queue brings q.copies)) h.sessions)
  covered (SetCopy birth place phase) r brings h =
      in_sessions r _ h
      (all_in birth (with_phase place phase) r.sessions
      (λ s q.
      queue_covered s (with_phase place phase s) refl refl refl q
      (all_changed copy_place (IsFresh now) place (in_phase phase) s.queue (λ e old. in_phase_fresh now e (is_waiting phase) brings) q.copies)) h.sessions)
  covered (RemoveCopy birth place) r brings h =
      in_sessions r _ h
      (all_in birth (without_copy place) r.sessions
      (λ s q. queue_covered s (without_copy place s) refl refl refl q (each_filter (IsFresh now) (λ e. not (nat_eq (copy_place e) place)) s.queue q.copies)) h.sessions)
  covered (PutRetained kept) r brings h = record { sessions = h.sessions; retained = all_put kept_place (λ k. is_stale now k ≡ false) RETAINED_LIMIT kept r.retained brings h.retained }
  covered (RemoveRetained place) r brings h = record { sessions = h.sessions; retained = each_filter (λ k. is_stale now k ≡ false) (λ k. not (nat_eq (kept_place k) place)) r.retained h.retained }

  covered_all : (changes : List Change) (r : Records) → AllByRecursion (BringsNothing now last) changes → AreCovered now last r → AreCovered now last (changed_all changes r)
  covered_all [] r bring h = h
  covered_all (change ∷ changes) r bring h = covered_all changes (changed change r) bring.1 (covered change r bring.0 h)

  -- ---- from what was quiet to what is

  still_covered : (r : Records) → AreQuiet now r → AreCovered now last r
  still_covered r h = record {
    sessions = each_more (IsQuiet now) (IsCovered now last) (λ s q. record { settled = inr (record { will = q.will; stays = q.stays }); copies = q.copies }) r.sessions h.sessions;
    retained = h.retained;
  }

  seen_quiet : (s : Session) → session_at s.birth last ≡ Some s → IsCovered now last s → IsQuiet now s
  seen_quiet s stands q = elim q.settled [
    | inl seen ↦ let is = seen s stands in record { will = is.will; stays = is.stays; copies = q.copies }
    | inr is ↦ record { will = is.will; stays = is.stays; copies = q.copies }
  ]

  all_quiet : (ss : List Session) → AllByRecursion (λ s. session_at (birth_of s) last ≡ Some s) ss → AllByRecursion (IsCovered now last) ss → AllByRecursion (IsQuiet now) ss
  all_quiet [] stand h = tt
  all_quiet (s ∷ ss) stand h = (seen_quiet s stand.0 h.0, all_quiet ss stand.1 h.1)

  quiet_last : IsAscending birth_of last.sessions → AreCovered now last last → AreQuiet now last
  quiet_last up h = record { sessions = all_quiet last.sessions (all_found birth_of last.sessions up) h.sessions; retained = h.retained }

-- changes that bring nothing leave all quiet
pub quiet_all : (now : ℕ) (changes : List Change) (r last : Records) → changed_all changes r ≡ last → IsAscending birth_of last.sessions → AllByRecursion (BringsNothing now last) changes → AreQuiet now r
    → AreQuiet now last
quiet_all now changes r last made up bring h = quiet_last now last up (subst (AreCovered now last) made (covered_all now last changes r bring (still_covered now last r h)))

-- ---- nothing is due

none_found : {X : Type 0} (test : X → Bool) (xs : List X) → AllByRecursion (λ x. test x ≡ false) xs → find test xs ≡ None
none_found test [] h = refl
none_found test (x ∷ xs) h = rw h.0 (none_found test xs h.1)

none_late : (now : ℕ) (es : List CopyRow) → AllByRecursion (IsFresh now) es → list_any (λ (e : CopyRow). is_waiting e.phase && is_expired now e.copy.content) es ≡ false
none_late now [] h = refl
none_late now (e ∷ es) h = elim (cases_Bool (is_waiting e.phase)) [
  | inl waits ↦ rw waits (rw (h.0 waits) (none_late now es h.1))
  | inr sent ↦ rw sent (none_late now es h.1)
]

none_lapsed : (now : ℕ) (s : Session) → IsQuiet now s → has_lapsed now s ≡ false
none_lapsed now s q = sym (lapsed_some now s.queue) ∙ none_late now s.queue q.copies

no_will : (now : ℕ) (r : Records) → AreQuiet now r → will_due_in now r ≡ None
no_will now r h = ap (option_map birth_of) (none_found (has_due_will now) r.sessions (each_more (IsQuiet now) (λ s. has_due_will now s ≡ false) (λ s q. q.will) r.sessions h.sessions))

no_end : (now : ℕ) (r : Records) → AreQuiet now r → end_due_in now r ≡ None
no_end now r h = ap (option_map birth_of) (none_found (has_due_end now) r.sessions (each_more (IsQuiet now) (λ s. has_due_end now s ≡ false) (λ s q. q.stays) r.sessions h.sessions))

none_stale : (now : ℕ) (r : Records) → AreQuiet now r → stale_in now r ≡ None
none_stale now r h = ap (option_map kept_place) (none_found (is_stale now) r.retained h.retained)

no_lapse : (now : ℕ) (r : Records) → AreQuiet now r → lapsed_in now r ≡ None
no_lapse now r h = ap (option_map birth_of) (none_found (has_lapsed now) r.sessions (each_more (IsQuiet now) (λ s. has_lapsed now s ≡ false) (none_lapsed now) r.sessions h.sessions))

-- before the moment until which all is quiet nothing stored is due
pub none_stored : (now : ℕ) (r : Records) → AreQuiet now r → first_of (stored_in now r) ≡ None
none_stored now r h = rw (no_will now r h) (rw (no_end now r h) (rw (none_stale now r h) (rw (no_lapse now r h) refl)))

-- ---- walks from the front

-- a walk that looked at one looks at those behind it
pub each_behind : {X : Type 0} (P : X → Type 0) (x : X) (after rest all : List X) → rest ≡ x ∷ after → P x → (AllByRecursion P rest → AllByRecursion P all) → AllByRecursion P after → AllByRecursion P all
each_behind P x after rest all is p more behind = more (subst (λ (xs : List _). AllByRecursion P xs) (sym is) (p, behind))

-- behind the last it has looked at all
pub each_ends : {X : Type 0} (P : X → Type 0) (rest all : List X) → length rest ≡ 0 → (AllByRecursion P rest → AllByRecursion P all) → AllByRecursion P all
each_ends P [] all is more = more tt
each_ends P (x ∷ rest) all is more = absurd cc
