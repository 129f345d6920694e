-- How often a copy stands in the queues, enters and ends, over each deed: one that enters stands once more, one that ends
-- once less.
use Rattle.std.proofs.Common.{◌≡◌, ℕ, ◌+◌, ◌≤◌, ◌<◌, Bool, true, false, cond, not, ◌||◌, ◌⊎◌, List, [], ◌∷◌, ◌++◌, map, length, Option, Some, None, nat_eq, nat_lt, refl, sym, ap, subst, ◌∙◌, arith, inl, inr}
use Rattle.std.specs.Prelude.{is_some, flat_map, filter_map}
use Rattle.std.specs.List.{AllByRecursion, cons_option}
use Rattle.std.proofs.lemmas.Bool.{cases_Bool, eqb-true, ltb-true, lt-ltb}
use Rattle.std.proofs.lemmas.Cmp.{nat_eq_equiv}
use Rattle.std.proofs.lemmas.List.Sums.{sum_by-append, sum_by-cons}
use Rattle.std.proofs.lemmas.List.Elements.{filter_map-append}
use Rattle.mqtt_base.specs.declared.limits.TheConstants.{QUEUE_LIMIT, SESSION_LIMIT}
use Rattle.mqtt_base.specs.declared.session.CopyId.{CopyId}
use Rattle.mqtt_base.specs.declared.session.Ending.{Ending}
use Rattle.mqtt_base.specs.declared.session.Phase.{Phase}
use Rattle.mqtt_records.specs.declared.messages.message.MessageCopy.{MessageCopy}
use Rattle.mqtt_records.specs.messages.Queue.{CopyRow}
use Rattle.mqtt_records.specs.declared.messages.message.Will.{Will}
use Rattle.mqtt_records.specs.declared.state.session.Session.{Session}
use Rattle.mqtt_records.specs.declared.state.session.Columns.{Columns}
use Rattle.mqtt_records.specs.declared.state.records.Records.{Records}
use Rattle.mqtt_records.specs.lists.Order.{IsAbove, IsAscending, IsBelow, row_at, has_row, change_row, insert_row, put_row, remove_row}
use Rattle.mqtt_records.proofs.lists_lemmas.OrderLemmas.{apart}
use Rattle.mqtt_records.specs.state.Session.{birth_of, copy_place, columns_of, with_columns, with_will, with_subscription, without_subscription, with_open, without_open, with_copy, with_phase, in_phase, without_copy, fresh}
use Rattle.mqtt_records.specs.state.Records.{changed_all, put_session, in_session}
use Rattle.mqtt_rules.specs.step.State.{Broker, session_at}
use Rattle.mqtt_rules.specs.step.Deeds.{Whose, Part, Resume, Close, SetExpiry, DropWill, Unsubscribe, Open, Release, Enter, Mark, Leave, Deed, Accept, Begin, Name, Count, At, Finish, Keep, Forget, RefuseWill, Link, On, Send, Gone, will_row, new_entry, part_rows_of, after, after_all}
use Rattle.mqtt_rules.specs.step.Deeds as deeds
use Rattle.mqtt_rules.specs.step.Laws.{HasTables, IsOrdered}
use Rattle.mqtt_rules.proofs.step_lemmas.acts.Goods.{AreGood}
use Rattle.mqtt_rules.proofs.step_lemmas.flight.FlightRows.{found_key, all_at, all_found}
use Rattle.mqtt_rules.proofs.step_lemmas.order.OrderedEnters.{RoomToEnter}
use Rattle.mqtt_rules.proofs.step_lemmas.order.OrderedQueues.{below_own}
use Rattle.mqtt_rules.proofs.step_lemmas.fit.Turns.{Stands}
use Rattle.mqtt_rules.proofs.step_lemmas.fit.StandLaw.{ordered_all}
use Rattle.mqtt_world_model.specs.model.Run.{entered_in, End, ended_in}
use Rattle.mqtt_world_model.specs.model.Laws.{is_copy, count_of, standing_in}
use Rattle.mqtt_world_laws.proofs.acceptance_lemmas.copies.Here.{Has, Here, first_left}

-- ---- counts of lists

-- one more is counted if it is the copy
pub count_cons : (c x : CopyId) (xs : List CopyId) → count_of c (x ∷ xs) ≡ cond (is_copy c x) 1 0 + count_of c xs
count_cons c x xs = sum_by-cons (λ y. cond (is_copy c y) 1 0) x xs

-- two lists are counted together
pub count_append : (c : CopyId) (xs ys : List CopyId) → count_of c (xs ++ ys) ≡ count_of c xs + count_of c ys
count_append c xs ys = sum_by-append (λ y. cond (is_copy c y) 1 0) xs ys

module _ (c : CopyId) where
  abbrev Q : List CopyRow → ℕ
  Q es = count_of c (map (λ (e : CopyRow). e.copy.id) es)

  abbrev pub N : List Session → ℕ
  N ss = count_of c (flat_map standing_in ss)

  q_cons : (e : CopyRow) (es : List CopyRow) → Q (e ∷ es) ≡ cond (is_copy c e.copy.id) 1 0 + Q es
  q_cons e es = count_cons c e.copy.id (map (λ (x : CopyRow). x.copy.id) es)

  n_cons : (s : Session) (ss : List Session) → N (s ∷ ss) ≡ Q s.queue + N ss
  n_cons s ss = count_append c (standing_in s) (flat_map standing_in ss)

  -- ---- a queue

  -- a copy at a new place
  inserted : (row : CopyRow) (es : List CopyRow) → IsBelow copy_place row.place es → Q (insert_row copy_place row es) ≡ cond (is_copy c row.copy.id) 1 0 + Q es
  inserted row [] low = q_cons row []
  inserted row (e ∷ es) low =
      let less = low.0 in
      let behind : nat_lt row.place e.place ≡ false = not_less row.place e.place (omega (arith, less)) in
      let other : nat_eq row.place e.place ≡ false = apart row.place e.place (λ same. omega (arith, same, less)) in
      let rest = inserted row es low.1 in
      let first = q_cons e (insert_row copy_place row es) in
      let then_ = q_cons e es in
      rw (behind, other) (omega (arith, rest, first, then_))
    where
      not_less : (m n : ℕ) → n ≤ m → nat_lt m n ≡ false
      not_less m n le = elim (cases_Bool (nat_lt m n)) [
        | inl yes_ ↦ absurd (let lt = ltb-true m n yes_ in omega (arith, lt, le))
        | inr no_ ↦ no_
      ]

  entered : (row : CopyRow) (es : List CopyRow) → IsBelow copy_place row.place es → length es < QUEUE_LIMIT → Q (put_row copy_place QUEUE_LIMIT row es) ≡ cond (is_copy c row.copy.id) 1 0 + Q es
  entered row es low room = by (has_row copy_place row.place es || nat_lt (length es) QUEUE_LIMIT) (or_true (has_row copy_place row.place es) (nat_lt (length es) QUEUE_LIMIT) (lt-ltb (length es) QUEUE_LIMIT room))
    where
      or_true : (a b : Bool) → b ≡ true → (a || b) ≡ true
      or_true true b h = refl
      or_true false b h = h

      by : (t : Bool) → t ≡ true → Q (cond t (insert_row copy_place row es) es) ≡ cond (is_copy c row.copy.id) 1 0 + Q es
      by true h = inserted row es low
      by false h = absurd cc

  -- a copy leaves
  left : (e : CopyRow) (es : List CopyRow) → IsAscending copy_place es → row_at copy_place e.place es ≡ Some e → Q es ≡ cond (is_copy c e.copy.id) 1 0 + Q (remove_row copy_place e.place es)
  left e [] up at = absurd cc
  left e (x ∷ es) up at = elim (cases_Bool (nat_eq x.place e.place)) [
    | inl its ↦
        let it : Some x ≡ Some e = rw its at at in
        let is : x ≡ e = cc in
        subst (λ (y : CopyRow). Q (y ∷ es) ≡ cond (is_copy c e.copy.id) 1 0 + Q (remove_row copy_place e.place (y ∷ es))) (sym is)
        (q_cons e es ∙ ap (λ (xs : List CopyRow). cond (is_copy c e.copy.id) 1 0 + Q xs) (sym (first_left e es (subst (λ (y : CopyRow). IsAbove copy_place y.place es) is up.0))))
    | inr other ↦
        let rest = left e es up.1 (rw other at at) in
        let first = q_cons x es in
        let then_ = q_cons x (remove_row copy_place e.place es) in
        rw other (omega (arith, rest, first, then_))
  ]

  -- a phase is set
  marked : (place : ℕ) (phase : Phase) (es : List CopyRow) → Q (change_row copy_place place (in_phase phase) es) ≡ Q es
  marked place phase [] = refl
  marked place phase (e ∷ es) = by (nat_eq e.place place) (marked place phase es)
    where
      by : (t : Bool) → Q (change_row copy_place place (in_phase phase) es) ≡ Q es → Q (cond t (in_phase phase e ∷ es) (e ∷ change_row copy_place place (in_phase phase) es)) ≡ Q (e ∷ es)
      by true rest = refl
      by false rest = q_cons e (change_row copy_place place (in_phase phase) es) ∙ (ap (λ (n : ℕ). cond (is_copy c e.copy.id) 1 0 + n) rest ∙ sym (q_cons e es))

  -- ---- the sessions

  -- one session changed
  session_changed : (k : ℕ) (f : Session → Session) (s : Session) (ss : List Session) → row_at birth_of k ss ≡ Some s
      → N (change_row birth_of k f ss) + Q s.queue ≡ N ss + Q (f s).queue
  session_changed k f s [] at = absurd cc
  session_changed k f s (x ∷ ss) at = elim (cases_Bool (nat_eq (birth_of x) k)) [
    | inl its ↦
        let it : Some x ≡ Some s = rw its at at in
        let is : x ≡ s = cc in
        subst (λ (y : Session). N (change_row birth_of k f (y ∷ ss)) + Q s.queue ≡ N (y ∷ ss) + Q (f s).queue) (sym is)
        (let same : nat_eq (birth_of s) k ≡ true = ap (λ (y : Session). nat_eq (birth_of y) k) (sym is) ∙ its in
        let new = n_cons (f s) ss in
        let old = n_cons s ss in
        rw same (omega (arith, new, old)))
    | inr other ↦
        let rest = session_changed k f s ss (rw other at at) in
        let new = n_cons x (change_row birth_of k f ss) in
        let old = n_cons x ss in
        rw other (omega (arith, rest, new, old))
  ]

  -- if its queue stays
  queue_stays : (k : ℕ) (f : Session → Session) (ss : List Session) → ((s : Session) → Q (f s).queue ≡ Q s.queue) → N (change_row birth_of k f ss) ≡ N ss
  queue_stays k f [] same = refl
  queue_stays k f (x ∷ ss) same = by (nat_eq (birth_of x) k) (queue_stays k f ss same)
    where
      by : (t : Bool) → N (change_row birth_of k f ss) ≡ N ss → N (cond t (f x ∷ ss) (x ∷ change_row birth_of k f ss)) ≡ N (x ∷ ss)
      by true rest = let new = n_cons (f x) ss in let old = n_cons x ss in let it = same x in omega (arith, new, old, it)
      by false rest = let new = n_cons x (change_row birth_of k f ss) in let old = n_cons x ss in omega (arith, rest, new, old)

  -- a new session has no copies; and none takes its place
  fresh_inserted : (row : Columns) (ss : List Session) → has_row birth_of row.birth ss ≡ false → N (insert_row birth_of (fresh row) ss) ≡ N ss
  fresh_inserted row [] none = n_cons (fresh row) []
  fresh_inserted row (s ∷ ss) none = by (nat_lt row.birth (birth_of s)) (cases_Bool (nat_eq row.birth (birth_of s))) (λ h. fresh_inserted row ss h)
    where
      Goal : Bool → Bool → Type 0
      Goal t u = N (cond t (fresh row ∷ s ∷ ss) (cond u (fresh row ∷ ss) (s ∷ insert_row birth_of (fresh row) ss))) ≡ N (s ∷ ss)

      by : (t : Bool) → (nat_eq row.birth (birth_of s) ≡ true) ⊎ (nat_eq row.birth (birth_of s) ≡ false) → (has_row birth_of row.birth ss ≡ false → N (insert_row birth_of (fresh row) ss) ≡ N ss) → Goal t (nat_eq row.birth (birth_of s))
      by true u more = let new = n_cons (fresh row) (s ∷ ss) in omega (arith, new)
      by false (inl its) more =
          let back : nat_eq (birth_of s) row.birth ≡ true = nat_eq_equiv.symm (birth_of s) row.birth ∙ its in
          let clash : true ≡ false = rw back at none in
          absurd cc
      by false (inr other) more =
          let back : nat_eq (birth_of s) row.birth ≡ false = nat_eq_equiv.symm (birth_of s) row.birth ∙ other in
          let rest = more (rw back at none) in
          let new = n_cons s (insert_row birth_of (fresh row) ss) in
          let old = n_cons s ss in
          subst (Goal false) (sym other) (omega (arith, rest, new, old))

  put_counts : (row : Columns) (ss : List Session) → N (put_session row ss) ≡ N ss
  put_counts row ss = by (has_row birth_of row.birth ss) refl (nat_lt (length ss) SESSION_LIMIT)
    where
      by : (t : Bool) → has_row birth_of row.birth ss ≡ t → (u : Bool) → N (cond t (change_row birth_of row.birth (with_columns row) ss) (cond (t || u) (insert_row birth_of (fresh row) ss) ss)) ≡ N ss
      by true is u = queue_stays row.birth (with_columns row) ss (λ s. refl)
      by false is true = fresh_inserted row ss is
      by false is false = refl

  -- a session with an empty queue ends
  ended_counts : (k : ℕ) (ss : List Session) → AllByRecursion (λ (s : Session). s.birth ≡ k → s.queue ≡ []) ss → N (remove_row birth_of k ss) ≡ N ss
  ended_counts k [] a = refl
  ended_counts k (s ∷ ss) a = by (nat_eq (birth_of s) k) refl (ended_counts k ss a.1)
    where
      by : (t : Bool) → nat_eq (birth_of s) k ≡ t → N (remove_row birth_of k ss) ≡ N ss → N (cond (not t) (s ∷ remove_row birth_of k ss) (remove_row birth_of k ss)) ≡ N (s ∷ ss)
      by true its more =
          let none : Q s.queue ≡ 0 = ap Q (a.0 (eqb-true (birth_of s) k its)) in
          let old = n_cons s ss in
          omega (arith, none, old, more)
      by false other more = let new = n_cons s (remove_row birth_of k ss) in let old = n_cons s ss in omega (arith, new, old, more)

  -- ---- a part of a session's act

  abbrev pub E : List Deed → ℕ
  E ds = count_of c (filter_map entered_in ds)

  abbrev X : List Deed → ℕ
  X ds = count_of c (map (λ (e : End). e.copy) (filter_map ended_in ds))

  will_counts : (k : ℕ) (w : Option Will) (r : Records) → N (changed_all (will_row k w ∷ []) r).sessions ≡ N r.sessions
  will_counts k None r = queue_stays k (with_will None) r.sessions (λ s. refl)
  will_counts k (Some w) r = queue_stays k (with_will (Some w)) r.sessions (λ s. refl)

  -- a deed without entry and end
  abbrev Still : Deed → Broker → Type 0
  Still d b = N (after d b).records.sessions ≡ N b.records.sessions

  part_still : (o : Option Session) (part : Part) (r : Records) → ((copy : MessageCopy) → part ≡ Enter copy → ⊥) → ((e : CopyRow) (ending : Ending) → part ≡ Leave e ending → ⊥)
      → N (changed_all (part_rows_of part o) r).sessions ≡ N r.sessions
  part_still None part r x y = refl
  part_still (Some s) (Resume expiry will) r x y =
      will_counts s.birth will (in_session s.birth (with_columns (record (columns_of s) { expiry = expiry; closed = None })) r) ∙ queue_stays s.birth (with_columns (record (columns_of s) { expiry = expiry; closed = None })) r.sessions (λ t. refl)
  part_still (Some s) (Close moment) r x y = queue_stays s.birth (with_columns (record (columns_of s) { closed = Some moment })) r.sessions (λ t. refl)
  part_still (Some s) (SetExpiry expiry) r x y = queue_stays s.birth (with_columns (record (columns_of s) { expiry = expiry })) r.sessions (λ t. refl)
  part_still (Some s) DropWill r x y = queue_stays s.birth (with_will None) r.sessions (λ t. refl)
  part_still (Some s) (deeds.Subscribe w) r x y = queue_stays s.birth (with_subscription w) r.sessions (λ t. refl)
  part_still (Some s) (Unsubscribe text) r x y = queue_stays s.birth (without_subscription text) r.sessions (λ t. refl)
  part_still (Some s) (Open id) r x y = queue_stays s.birth (with_open id) r.sessions (λ t. refl)
  part_still (Some s) (Release id) r x y = queue_stays s.birth (without_open id) r.sessions (λ t. refl)
  part_still (Some s) (Enter copy) r x y = absurd (x copy refl)
  part_still (Some s) (Mark place phase) r x y = queue_stays s.birth (with_phase place phase) r.sessions (λ t. marked place phase t.queue)
  part_still (Some s) (Leave e ending) r x y = absurd (y e ending refl)

  -- ---- a deed

  some_found : (k : ℕ) (r : Records) → Has k r → (s : Session) × (session_at k r ≡ Some s)
  some_found k r h = by (session_at k r) refl h
    where
      by : (o : Option Session) → session_at k r ≡ o → is_some o ≡ true → (s : Session) × (session_at k r ≡ Some s)
      by None e f = absurd cc
      by (Some s) e f = (s, e)

  -- one session's rows, once it is found
  found_rows : (k : ℕ) (part : Part) (f : Session → Session) (s : Session) (r : Records) → session_at k r ≡ Some s
      → (changed_all (part_rows_of part (Some s)) r).sessions ≡ change_row birth_of s.birth f r.sessions
      → N (changed_all (part_rows_of part (session_at k r)) r).sessions + Q s.queue ≡ N r.sessions + Q (f s).queue
  found_rows k part f s r at rows =
      let key : s.birth ≡ k = found_key birth_of k s r.sessions at in
      let there : row_at birth_of s.birth r.sessions ≡ Some s = ap (λ (n : ℕ). session_at n r) key ∙ at in
      subst (λ (o : Option Session). N (changed_all (part_rows_of part o) r).sessions + Q s.queue ≡ N r.sessions + Q (f s).queue) (sym at)
      (subst (λ (ss : List Session). N ss + Q s.queue ≡ N r.sessions + Q (f s).queue) (sym rows) (session_changed s.birth f s r.sessions there))

  entry_counts : (who : Whose) (copy : MessageCopy) (b : Broker) → Has who.birth b.records → RoomToEnter (At who (Enter copy)) b
      → N (after (At who (Enter copy)) b).records.sessions ≡ N b.records.sessions + cond (is_copy c copy.id) 1 0
  entry_counts who copy b has room =
      let found = some_found who.birth b.records has in
      let s = found.0 in
      let row = new_entry copy s.queue in
      let eq = found_rows who.birth (Enter copy) (with_copy row) s b.records found.1 refl in
      let more = entered row s.queue (below_own s.queue) (room s found.1) in
      omega (arith, eq, more)

  leave_counts : (who : Whose) (e : CopyRow) (ending : Ending) (b : Broker) → IsOrdered b.records → Has who.birth b.records → Stands (At who (Leave e ending)) b
      → N (after (At who (Leave e ending)) b).records.sessions + cond (is_copy c e.copy.id) 1 0 ≡ N b.records.sessions
  leave_counts who e ending b h has stands =
      let found = some_found who.birth b.records has in
      let s = found.0 in
      let up = (all_at birth_of HasTables who.birth s b.records.sessions h.each found.1).queue.ascending in
      let eq = found_rows who.birth (Leave e ending) (without_copy e.place) s b.records found.1 refl in
      let less = left e s.queue up (stands s found.1) in
      omega (arith, eq, less)

  finish_counts : (who : Whose) (b : Broker) → IsOrdered b.records → Here (Finish who) b → N (after (Finish who) b).records.sessions ≡ N b.records.sessions
  finish_counts who b h here = ended_counts who.birth b.records.sessions (all_empty b.records.sessions (all_found birth_of b.records.sessions h.sessions.ascending))
    where
      all_empty : (ss : List Session) → AllByRecursion (λ x. row_at birth_of (birth_of x) b.records.sessions ≡ Some x) ss → AllByRecursion (λ (s : Session). s.birth ≡ who.birth → s.queue ≡ []) ss
      all_empty [] a = tt
      all_empty (s ∷ ss) a = ((λ is. here s (ap (λ (n : ℕ). session_at n b.records) (sym is) ∙ a.0)), all_empty ss a.1)

  begin_counts : (row : Columns) (will : Option Will) (b : Broker) → N (after (Begin row will) b).records.sessions ≡ N b.records.sessions
  begin_counts row None b = put_counts row b.records.sessions
  begin_counts row (Some w) b = queue_stays row.birth (with_will (Some w)) (put_session row b.records.sessions) (λ s. refl) ∙ put_counts row b.records.sessions

  -- what a deed makes of the counts
  abbrev pub Balances : List Deed → Broker → Broker → Type 0
  Balances ds b d = N d.records.sessions + X ds ≡ N b.records.sessions + E ds

  balance : (d : Deed) (b : Broker) → IsOrdered b.records → Here d b → Stands d b → RoomToEnter d b → Balances (d ∷ []) b (after d b)
  balance (Accept number origin m) b h here stands room = refl
  balance (Begin row will) b h here stands room = let e = begin_counts row will b in omega (arith, e)
  balance (Name n) b h here stands room = refl
  balance (Count n) b h here stands room = refl
  balance (Finish who) b h here stands room = let e = finish_counts who b h here in omega (arith, e)
  balance (Keep kept) b h here stands room = refl
  balance (Forget place) b h here stands room = refl
  balance (RefuseWill who) b h here stands room = refl
  balance (Link n) b h here stands room = refl
  balance (On line part) b h here stands room = refl
  balance (Send line packet) b h here stands room = refl
  balance (Gone line) b h here stands room = refl
  balance (At who (Enter copy)) b h here stands room =
      let e = entry_counts who copy b here room in
      let n = count_cons c copy.id [] in
      omega (arith, e, n)
  balance (At who (Leave row ending)) b h here stands room =
      let e = leave_counts who row ending b h here stands in
      let n = count_cons c row.copy.id [] in
      omega (arith, e, n)
  balance (At who (Resume expiry will)) b h here stands room = let e = part_still (session_at who.birth b.records) (Resume expiry will) b.records (λ x f. absurd cc) (λ x y f. absurd cc) in omega (arith, e)
  balance (At who (Close moment)) b h here stands room = let e = part_still (session_at who.birth b.records) (Close moment) b.records (λ x f. absurd cc) (λ x y f. absurd cc) in omega (arith, e)
  balance (At who (SetExpiry expiry)) b h here stands room = let e = part_still (session_at who.birth b.records) (SetExpiry expiry) b.records (λ x f. absurd cc) (λ x y f. absurd cc) in omega (arith, e)
  balance (At who DropWill) b h here stands room = let e = part_still (session_at who.birth b.records) DropWill b.records (λ x f. absurd cc) (λ x y f. absurd cc) in omega (arith, e)
  balance (At who (deeds.Subscribe w)) b h here stands room = let e = part_still (session_at who.birth b.records) (deeds.Subscribe w) b.records (λ x f. absurd cc) (λ x y f. absurd cc) in omega (arith, e)
  balance (At who (Unsubscribe text)) b h here stands room = let e = part_still (session_at who.birth b.records) (Unsubscribe text) b.records (λ x f. absurd cc) (λ x y f. absurd cc) in omega (arith, e)
  balance (At who (Open id)) b h here stands room = let e = part_still (session_at who.birth b.records) (Open id) b.records (λ x f. absurd cc) (λ x y f. absurd cc) in omega (arith, e)
  balance (At who (Release id)) b h here stands room = let e = part_still (session_at who.birth b.records) (Release id) b.records (λ x f. absurd cc) (λ x y f. absurd cc) in omega (arith, e)
  balance (At who (Mark place phase)) b h here stands room = let e = part_still (session_at who.birth b.records) (Mark place phase) b.records (λ x f. absurd cc) (λ x y f. absurd cc) in omega (arith, e)

  -- ---- deeds one after the other

  ends_append : (xs ys : List Deed) → map (λ (e : End). e.copy) (filter_map ended_in (xs ++ ys)) ≡ map (λ (e : End). e.copy) (filter_map ended_in xs) ++ map (λ (e : End). e.copy) (filter_map ended_in ys)
  ends_append [] ys = refl
  ends_append (x ∷ xs) ys = first (ended_in x) (ends_append xs ys)
    where
      first : (o : Option End) → map (λ (e : End). e.copy) (filter_map ended_in (xs ++ ys)) ≡ map (λ (e : End). e.copy) (filter_map ended_in xs) ++ map (λ (e : End). e.copy) (filter_map ended_in ys)
          → map (λ (e : End). e.copy) (cons_option o (filter_map ended_in (xs ++ ys))) ≡ map (λ (e : End). e.copy) (cons_option o (filter_map ended_in xs)) ++ map (λ (e : End). e.copy) (filter_map ended_in ys)
      first None rest = rest
      first (Some e) rest = ap (λ (ks : List CopyId). e.copy ∷ ks) rest

  -- what enters by deeds and by others behind them is counted together
  pub e_append : (xs ys : List Deed) → E (xs ++ ys) ≡ E xs + E ys
  e_append xs ys = ap (count_of c) (filter_map-append entered_in xs ys) ∙ count_append c (filter_map entered_in xs) (filter_map entered_in ys)

  -- what ends by deeds and by others behind them is counted together
  pub x_append : (xs ys : List Deed) → X (xs ++ ys) ≡ X xs + X ys
  x_append xs ys = ap (count_of c) (ends_append xs ys) ∙ count_append c (map (λ (e : End). e.copy) (filter_map ended_in xs)) (map (λ (e : End). e.copy) (filter_map ended_in ys))

  -- the counts of deeds, and of others behind them, balance together
  pub then_balances : (xs ys : List Deed) (a b d : Broker) → Balances xs a b → Balances ys b d → Balances (xs ++ ys) a d
  then_balances xs ys a b d p q = let e = e_append xs ys in let x = x_append xs ys in omega (arith, p, q, e, x)

  -- over deeds that find what they speak of, a copy's counts balance
  pub all_balance : (ds : List Deed) (b : Broker) → IsOrdered b.records → AreGood Here ds b → AreGood Stands ds b → AreGood RoomToEnter ds b → Balances ds b (after_all ds b)
  all_balance [] b h here stands room = refl
  all_balance (d ∷ ds) b h here stands room =
      then_balances (d ∷ []) ds b (after d b) (after_all ds (after d b)) (balance d b h here.0 stands.0 room.0)
      (all_balance ds (after d b) (ordered_all (d ∷ []) b h) here.1 stands.1 room.1)
