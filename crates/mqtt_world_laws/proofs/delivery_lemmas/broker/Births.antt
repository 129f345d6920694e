-- Each copy that enters a queue is of a session that stands, so that its birth was given by then (MQTT 5.0, 3.3.4, 4.1).
use Rattle.std.proofs.Common.{◌≡◌, ℕ, suc, ◌≤◌, Bool, true, false, cond, not, ◌&&◌, List, [], ◌∷◌, ◌++◌, filter, map, Option, Some, None, nat_eq, refl, sym, ap, subst, ◌∙◌, arith, inl, inr}
use Rattle.std.specs.Prelude.{⊤, filter_map, is_some}
use Rattle.std.specs.List.{AllByRecursion}
use Rattle.std.proofs.lemmas.Bool.{cases_Bool}
use Rattle.std.proofs.lemmas.List.Elements.{filter_map-append}
use Rattle.mqtt_base.specs.declared.limits.TheConstants.{SESSION_LIMIT}
use Rattle.mqtt_base.specs.declared.session.CopyId.{CopyId}
use Rattle.mqtt_records.specs.declared.messages.message.RetainedMessage.{RetainedMessage}
use Rattle.mqtt_records.specs.declared.messages.message.Will.{Will}
use Rattle.mqtt_records.specs.state.Records.{changed_all, put_session}
use Rattle.mqtt_records.specs.state.Session.{birth_of, columns_of, fresh, with_columns, with_copy, with_open, with_phase, with_subscription, with_will, without_copy, without_open, without_subscription}
use Rattle.mqtt_records.specs.declared.state.records.Records.{Records}
use Rattle.mqtt_records.specs.declared.state.session.Columns.{Columns}
use Rattle.mqtt_records.specs.declared.state.session.Session.{Session}
use Rattle.mqtt_routes.specs.routing.Retained.{kept_for}
use Rattle.mqtt_records.specs.lists.Order.{IsBelow, change_row, has_row, put_row}
use Rattle.mqtt_topic.specs.names.Filters.{begins_share}
use Rattle.mqtt_world_model.specs.model.Run.{entered_in}
use Rattle.mqtt_rules.proofs.step_lemmas.acts.Acts.{brought_to}
use Rattle.mqtt_rules.proofs.step_lemmas.numbers.Copies.{IsNumbered, each_all, each_append, each_filter, each_map, each_more, routed_numbered}
use Rattle.mqtt_rules.proofs.step_lemmas.flight.FlightRows.{all_at, all_changed, all_put, found_key}
use Rattle.mqtt_rules.proofs.step_lemmas.numbers.NumberSteps.{opening_counts, step_counts}
use Rattle.mqtt_rules.proofs.step_lemmas.fit.StandLaw.{Orders}
use Rattle.mqtt_rules.specs.step.Deeds.{Accept, At, Begin, Close, Count, Deed, DropWill, Enter, Finish, Forget, Gone, Keep, Leave, Link, Mark, Message, Name, On, Open, Origin, Part, RefuseWill, Release, Resume, Send, SetExpiry, Subscribe, Unsubscribe, after, after_all, new_entry, part_rows, part_rows_of, stored_after}
use Rattle.mqtt_rules.specs.step.Numbers.{CountsOn, birth_given}
use Rattle.mqtt_rules.specs.step.Routing.{CopyTo, accepted_copies, is_queued, next_publication, publish}
use Rattle.mqtt_rules.specs.step.State.{Broker, Env, session_at}
use Rattle.mqtt_rules.specs.step.Step.{at_moment, deeds, env_of, opening, unopened}
use Rattle.mqtt_rules.specs.step.Subscribe as sub
use Rattle.mqtt_rules.specs.declared.step.Capacity.{Capacity}
use Rattle.mqtt_world_laws.specs.acceptance.Entries.{queued_ids}
use Rattle.mqtt_world_laws.proofs.acceptance_lemmas.copies.EachAct.{Says, call_says, opening_says, says_still, whatever}
use Rattle.mqtt_world_laws.proofs.acceptance_lemmas.copies.Entering.{AllStand, AreStill, accepted_stand, entered_none, grant_enters, publish_enters}
use Rattle.mqtt_world_laws.proofs.acceptance_lemmas.copies.Here.{Has}
use Rattle.mqtt_world_laws.proofs.acceptance_lemmas.copies.Walks.{Walk}

-- ---- births up to some number

module _ (n : ℕ) where
  abbrev IsUpTo : Session → Type 0
  IsUpTo s = s.birth ≤ n

  abbrev AreUpTo : List Session → Type 0
  AreUpTo ss = AllByRecursion IsUpTo ss

  abbrev BeginsUpTo : Deed → Type 0
  BeginsUpTo (Begin row will) = row.birth ≤ n
  BeginsUpTo d = ⊤

  abbrev CopyUpTo : CopyId → Type 0
  CopyUpTo c = c.birth ≤ n

  part_upto : (part : Part) (s : Session) (r : Records) → AreUpTo r.sessions → AreUpTo (changed_all (part_rows part s) r).sessions
  part_upto (Resume expiry None) s r h = all_changed birth_of IsUpTo s.birth (with_will None) _ (λ y q. q) (all_changed birth_of IsUpTo s.birth (with_columns (record (columns_of s) { expiry = expiry; closed = None })) r.sessions (λ y q. q) h)
  part_upto (Resume expiry (Some w)) s r h = all_changed birth_of IsUpTo s.birth (with_will (Some w)) _ (λ y q. q) (all_changed birth_of IsUpTo s.birth (with_columns (record (columns_of s) { expiry = expiry; closed = None })) r.sessions (λ y q. q) h)
  part_upto (Close moment) s r h = all_changed birth_of IsUpTo s.birth (with_columns (record (columns_of s) { closed = Some moment })) r.sessions (λ y q. q) h
  part_upto (SetExpiry expiry) s r h = all_changed birth_of IsUpTo s.birth (with_columns (record (columns_of s) { expiry = expiry })) r.sessions (λ y q. q) h
  part_upto DropWill s r h = all_changed birth_of IsUpTo s.birth (with_will None) r.sessions (λ y q. q) h
  part_upto (Subscribe x) s r h = all_changed birth_of IsUpTo s.birth (with_subscription x) r.sessions (λ y q. q) h
  part_upto (Unsubscribe text) s r h = all_changed birth_of IsUpTo s.birth (without_subscription text) r.sessions (λ y q. q) h
  part_upto (Open id) s r h = all_changed birth_of IsUpTo s.birth (with_open id) r.sessions (λ y q. q) h
  part_upto (Release id) s r h = all_changed birth_of IsUpTo s.birth (without_open id) r.sessions (λ y q. q) h
  part_upto (Enter copy) s r h = all_changed birth_of IsUpTo s.birth (with_copy (new_entry copy s.queue)) r.sessions (λ y q. q) h
  part_upto (Mark place phase) s r h = all_changed birth_of IsUpTo s.birth (with_phase place phase) r.sessions (λ y q. q) h
  part_upto (Leave e ending) s r h = all_changed birth_of IsUpTo s.birth (without_copy e.place) r.sessions (λ y q. q) h

  at_upto : (part : Part) (o : Option Session) (r : Records) → AreUpTo r.sessions → AreUpTo (changed_all (part_rows_of part o) r).sessions
  at_upto part None r h = h
  at_upto part (Some s) r h = part_upto part s r h

  put_upto : (row : Columns) (ss : List Session) → row.birth ≤ n → AreUpTo ss → AreUpTo (put_session row ss)
  put_upto row ss le h = by (has_row birth_of row.birth ss)
    where
      by : (t : Bool) → AreUpTo (cond t (change_row birth_of row.birth (with_columns row) ss) (put_row birth_of SESSION_LIMIT (fresh row) ss))
      by true = all_changed birth_of IsUpTo row.birth (with_columns row) ss (λ y q. q) h
      by false = all_put birth_of IsUpTo SESSION_LIMIT (fresh row) ss le h

  begun_upto : (row : Columns) (will : Option Will) (r : Records) → row.birth ≤ n → AreUpTo r.sessions → AreUpTo (stored_after (Begin row will) r).sessions
  begun_upto row None r le h = put_upto row r.sessions le h
  begun_upto row (Some w) r le h = all_changed birth_of IsUpTo row.birth (with_will (Some w)) _ (λ y q. q) (put_upto row r.sessions le h)

  deed_upto : (d : Deed) (b : Broker) → BeginsUpTo d → AreUpTo b.records.sessions → AreUpTo (after d b).records.sessions
  deed_upto (At who part) b q h = at_upto part (session_at who.birth b.records) b.records h
  deed_upto (Begin row will) b q h = begun_upto row will b.records q h
  deed_upto (Finish who) b q h = each_filter IsUpTo (λ (s : Session). not (nat_eq (birth_of s) who.birth)) b.records.sessions h
  deed_upto (Accept number origin m) b q h = h
  deed_upto (Name k) b q h = h
  deed_upto (Count k) b q h = h
  deed_upto (Keep kept) b q h = h
  deed_upto (Forget place) b q h = h
  deed_upto (RefuseWill who) b q h = h
  deed_upto (Link k) b q h = h
  deed_upto (On k part) b q h = h
  deed_upto (Send k packet) b q h = h
  deed_upto (Gone k) b q h = h

  deeds_upto : (ds : List Deed) (b : Broker) → AllByRecursion BeginsUpTo ds → AreUpTo b.records.sessions → AreUpTo (after_all ds b).records.sessions
  deeds_upto [] b q h = h
  deeds_upto (d ∷ ds) b q h = deeds_upto ds (after d b) q.1 (deed_upto d b q.0 h)

  -- ---- copies for sessions that stand

  has_upto : (k : ℕ) (r : Records) → Has k r → AreUpTo r.sessions → k ≤ n
  has_upto k r has h = by (session_at k r) refl
    where
      by : (o : Option Session) → session_at k r ≡ o → k ≤ n
      by None e = let clash : false ≡ true = sym (ap is_some e) ∙ has in absurd cc
      by (Some s) e = let le = all_at birth_of IsUpTo k s r.sessions h e in let key = found_key birth_of k s r.sessions e in omega (arith, le, key)

  queued_upto : (number now : ℕ) (ds : List CopyTo) (r : Records) → AllByRecursion (IsNumbered number now) ds → AllStand ds r → AreUpTo r.sessions → AllByRecursion CopyUpTo (queued_ids ds)
  queued_upto number now [] r numbered stand h = tt
  queued_upto number now (d ∷ ds) r numbered stand h = elim (cases_Bool (is_queued d)) [
    | inl in_ ↦
        let le = has_upto d.birth r (stand.0 in_) h in
        let birth = numbered.0.birth in
        rw in_ (omega (arith, le, birth), queued_upto number now ds r numbered.1 stand.1 h)
    | inr out ↦ rw out (queued_upto number now ds r numbered.1 stand.1 h)
  ]

  of_birth : (birth : ℕ) (ds : List CopyTo) → birth ≤ n → AllByRecursion (λ (d : CopyTo). d.copy.id.birth ≡ birth) ds → AllByRecursion CopyUpTo (queued_ids ds)
  of_birth birth [] le h = tt
  of_birth birth (d ∷ ds) le h = elim (cases_Bool (is_queued d)) [
    | inl in_ ↦ let is = h.0 in rw in_ (omega (arith, le, is), of_birth birth ds le h.1)
    | inr out ↦ rw out (of_birth birth ds le h.1)
  ]

brought_for : (t : Bool) (now number : ℕ) (s : Session) (w : sub.Wish) (ks : List RetainedMessage) → AllByRecursion (λ (d : CopyTo). d.copy.id.birth ≡ s.birth) (sub.brought_if t now number s w ks)
brought_for false now number s w ks = tt
brought_for true now number s w ks =
    let found = filter (sub.is_brought now s w) (map sub.message_in (kept_for w.filter (map sub.kept_of ks))) in
    each_map (λ (d : CopyTo). d.copy.id.birth ≡ s.birth) (sub.retained_copy_to s.birth number w) found (each_all (λ (k : RetainedMessage). s.birth ≡ s.birth) (λ k. refl) found)

-- ---- each call, and each opening

-- with births up to some number before, and of the sessions that begin, what enters has such births
abbrev EntersUpTo : List Deed → Broker → Type 0
EntersUpTo ds b = (n : ℕ) → AllByRecursion (BeginsUpTo n) ds → AreUpTo n b.records.sessions → AllByRecursion (CopyUpTo n) (filter_map entered_in ds)

first_part : (P : Deed → Type 0) (xs ys : List Deed) → AllByRecursion P (xs ++ ys) → AllByRecursion P xs × AllByRecursion P ys
first_part P [] ys h = (tt, h)
first_part P (x ∷ xs) ys h = let rest = first_part P xs ys h.1 in ((h.0, rest.0), rest.1)

enters_next : (xs ys : List Deed) (b : Broker) → EntersUpTo xs b → EntersUpTo ys (after_all xs b) → EntersUpTo (xs ++ ys) b
enters_next xs ys b p q n begin h =
    let parts = first_part (BeginsUpTo n) xs ys begin in
    subst (AllByRecursion (CopyUpTo n)) (sym (filter_map-append entered_in xs ys))
    (each_append (CopyUpTo n) (filter_map entered_in xs) (filter_map entered_in ys) (p n parts.0 h) (q n parts.1 (deeds_upto n xs b parts.0 h)))

still_upto : (ds : List Deed) (b : Broker) → AreStill ds → EntersUpTo ds b
still_upto ds b still n begin h = subst (AllByRecursion (CopyUpTo n)) (sym (entered_none ds still)) tt

publish_upto : (env : Env) (origin : Origin) (m : Message) (ds : List CopyTo) (b : Broker) → Orders b → accepted_copies env m b ≡ Some ds → EntersUpTo (publish env origin m ds b) b
publish_upto env origin m ds b orders e n begin h =
    subst (AllByRecursion (CopyUpTo n)) (sym (publish_enters env origin m ds b orders e))
    (queued_upto n (next_publication b.records) b.now ds b.records (routed_numbered env m b ds e) (accepted_stand env m b ds orders e) h)

grants_upto : (env : Env) (w : sub.Wish) (s : Session) (b : Broker) → session_at s.birth b.records ≡ Some s → EntersUpTo (sub.granted_filter env (sub.next_number b.records) s w (brought_to w s b) b).deeds b
grants_upto env w s b there n begin h =
    subst (AllByRecursion (CopyUpTo n)) (sym (grant_enters env w s b there))
    (of_birth n s.birth (brought_to w s b) (all_at birth_of (IsUpTo n) s.birth s b.records.sessions h there)
    (brought_for (not (begins_share w.filter) && sub.wants_retained w.options.retain_handling (sub.has_filter w.filter s)) b.now (sub.next_number b.records) s w b.records.retained))

saying : (env : Env) → Says env whatever Orders EntersUpTo
saying env = says_still env EntersUpTo still_upto enters_next (publish_upto env) (grants_upto env)

-- ---- births count on

counted_upto : (n m : ℕ) (ns : List ℕ) → CountsOn n ns m → (n ≤ m) × AllByRecursion (λ (k : ℕ). k ≤ m) ns
counted_upto n m [] h = (omega (arith, h), tt)
counted_upto n m (k ∷ ns) h =
    let next = h.0 in
    let rest = counted_upto k m ns h.1 in
    let le = rest.0 in
    (omega (arith, next, le), (le, rest.1))

begin_upto : (n : ℕ) (ds : List Deed) → AllByRecursion (λ (k : ℕ). k ≤ n) (filter_map birth_given ds) → AllByRecursion (BeginsUpTo n) ds
begin_upto n [] h = tt
begin_upto n (Begin row will ∷ ds) h = (h.0, begin_upto n ds h.1)
begin_upto n (d ∷ ds) h = (tt, begin_upto n ds h)

below_upto : (n m : ℕ) (ss : List Session) → n ≤ m → IsBelow birth_of (suc n) ss → AreUpTo m ss
below_upto n m [] le h = tt
below_upto n m (s ∷ ss) le h = let less = h.0 in (omega (arith, le, less), below_upto n m ss le h.1)

-- what enters has births that were given by the end, and births don't fall
pub record Enters (ds : List Deed) (b d : Broker) : Type 0 where
  pub grow : b.records.births ≤ d.records.births
  pub each : AllByRecursion (CopyUpTo d.records.births) (filter_map entered_in ds)

up_more : (n m : ℕ) (cs : List CopyId) → n ≤ m → AllByRecursion (CopyUpTo n) cs → AllByRecursion (CopyUpTo m) cs
up_more n m cs le h = each_more (CopyUpTo n) (CopyUpTo m) (λ c q. omega (arith, le, q)) cs h

counted_enters : (ds : List Deed) (a b d : Broker) → AllByRecursion (λ (k : ℕ). k ≤ d.records.births) (filter_map birth_given ds) → b.records.births ≤ d.records.births → AreUpTo d.records.births a.records.sessions → EntersUpTo ds a → Enters ds b d
counted_enters ds a b d given grow first said = record { grow = grow; each = said d.records.births (begin_upto d.records.births ds given) first }

-- copies enter queues of sessions that were given
pub entering : (limits : Capacity) → Walk limits Enters
entering limits = record {
  none = λ b. record { grow = omega arith; each = tt };
  next = λ xs ys a b d p q.
      let first = p.grow in
      let more = q.grow in
      record {
        grow = omega (arith, first, more);
        each = subst (AllByRecursion (CopyUpTo d.records.births)) (sym (filter_map-append entered_in xs ys))
            (each_append (CopyUpTo d.records.births) (filter_map entered_in xs) (filter_map entered_in ys) (up_more b.records.births d.records.births (filter_map entered_in xs) more p.each) q.each);
      };
  unlink = λ n b d h. record { grow = h.grow; each = h.each };
  link = λ n b d h. record { grow = h.grow; each = h.each };
  call = λ choice now call b s unspent.
      let env = env_of limits choice b in
      let a = at_moment now b in
      let ds = deeds limits choice now call b in
      let counted = counted_upto b.records.births _ (filter_map birth_given ds) (step_counts limits choice now call b).0 in
      counted_enters ds a b _ counted.1 counted.0 (below_upto b.records.births _ b.records.sessions counted.0 s.coherent.births) (call_says env whatever Orders EntersUpTo (saying env) call (λ n packet e. tt) a s.coherent.ordered);
  open_again = λ choice now b s unspent.
      let a = unopened now b.records in
      let env = env_of limits choice a in
      let ds = opening env a in
      let counted = counted_upto b.records.births _ (filter_map birth_given ds) (opening_counts limits choice now b.records).0 in
      counted_enters ds a b _ counted.1 counted.0 (below_upto b.records.births _ b.records.sessions counted.0 s.coherent.births) (opening_says env whatever Orders EntersUpTo (saying env) a s.coherent.ordered);
}
