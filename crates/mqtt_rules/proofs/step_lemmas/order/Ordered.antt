-- Every change keeps the tables in order and within their limits.
use Rattle.std.proofs.Common.{◌≡◌, ℕ, suc, ◌<◌, ◌≤◌, Bool, true, false, cond, not, ◌||◌, List, [], ◌∷◌, length, filter, nat_eq, nat_lt, refl, ap, ◌∙◌, arith, inl, inr}
use Rattle.std.specs.Prelude.{Some, None, bytes_eq, slice_set}
use Rattle.std.specs.List.{AllByRecursion}
use Rattle.std.proofs.lemmas.Bool.{cases_Bool, ltb-true}
use Rattle.std.proofs.lemmas.List.{length-set}
use Rattle.mqtt_records.specs.declared.state.session.Session.{Session}
use Rattle.mqtt_records.specs.declared.state.session.Columns.{Columns}
use Rattle.mqtt_base.specs.declared.limits.TheConstants.{OPEN_LIMIT, QUEUE_LIMIT, SUBSCRIPTION_LIMIT, SESSION_LIMIT, RETAINED_LIMIT}
use Rattle.mqtt_records.specs.declared.state.records.Records.{Records}
use Rattle.mqtt_records.specs.declared.state.change.Counter.{Counter}
use Rattle.mqtt_records.specs.declared.state.change.Counter.TheVariants.{Births, Publications, Subscribes, Autos, Moment}
use Rattle.mqtt_records.specs.declared.state.change.Change.{Change}
use Rattle.mqtt_records.specs.declared.state.change.Change.TheVariants.{SetCounter, PutSession, SetSession, RemoveSession, PutWill, RemoveWill, PutSubscription, RemoveSubscription, PutInbound, RemoveInbound, PutCopy, SetCopy, RemoveCopy, PutRetained, RemoveRetained}
use Rattle.mqtt_records.specs.lists.Order.{IsAscending, has_row, insert_row, put_row, remove_row, change_row, front_len}
use Rattle.mqtt_records.specs.state.Session.{birth_of, place_of, number_of, copy_place, fresh, with_columns, with_will, without_filter, with_subscription, without_subscription, with_open, without_open, with_copy, in_phase, with_phase, without_copy}
use Rattle.mqtt_records.specs.state.Records.{kept_place, nothing, with_counter, put_session, in_session, changed, changed_all}
use Rattle.mqtt_records.proofs.lists_lemmas.OrderLemmas.{insert-found, put-ascending, filter-ascending, change-ascending}
use Rattle.mqtt_records.specs.lists.Order.{IsTable}
use Rattle.mqtt_rules.specs.step.Laws.{HasTables, IsOrdered}

-- ---- how many rows there are after an edit

-- a filter leaves no more items
pub length-filter_le : {X : Type 0} (keep : X → Bool) (xs : List X) → length (filter keep xs) ≤ length xs
length-filter_le keep [] = omega arith
length-filter_le keep (x ∷ xs) =
    let rest = length-filter_le keep xs in
    elim (cases_Bool (keep x)) [ inl stays ↦ rw stays (omega (arith, rest)) | inr goes ↦ rw goes (omega (arith, rest)) ]

-- putting an item in the place of another keeps the count
pub length-slice_set : {X : Type 0} (xs : List X) (i : ℕ) (x : X) → length (slice_set xs i x) ≡ length xs
length-slice_set xs i x = length-set xs i x

module _ {X : Type 0} (key : X → ℕ) where
  -- a changed row leaves as many as there were
  pub length-change_row : (k : ℕ) (f : X → X) (xs : List X) → length (change_row key k f xs) ≡ length xs
  length-change_row k f [] = refl
  length-change_row k f (x ∷ xs) = elim (cases_Bool (nat_eq (key x) k)) [
    | inl same ↦ rw same refl
    | inr other ↦ rw other (ap suc (length-change_row k f xs))
  ]

  -- a row that is put makes one more at most
  pub length-insert_row : (row : X) (xs : List X) → length (insert_row key row xs) ≤ suc (length xs)
  length-insert_row row [] = omega arith
  length-insert_row row (x ∷ xs) =
      let rest = length-insert_row row xs in
      elim (cases_Bool (nat_lt (key row) (key x))) [
        | inl before ↦ rw before (omega arith)
        | inr after ↦ elim (cases_Bool (nat_eq (key row) (key x))) [
          | inl same ↦ rw (after, same) (omega arith)
          | inr other ↦ rw (after, other) (omega (arith, rest))
        ]
      ]

  -- a row put in the place of another makes no more
  pub length-insert_found : (row : X) (xs : List X) → IsAscending key xs → has_row key (key row) xs ≡ true → length (insert_row key row xs) ≡ length xs
  length-insert_found row xs up found = ap length (insert-found key row xs up found) ∙ length-slice_set xs (front_len key (key row) xs) row

  -- a list within its limit is within it after a row is put
  pub length-put_row : (limit : ℕ) (row : X) (xs : List X) → IsAscending key xs → length xs ≤ limit → length (put_row key limit row xs) ≤ limit
  length-put_row limit row xs up le = elim (cases_Bool (has_row key (key row) xs)) [
    | inl there ↦ let same = length-insert_found row xs up there in rw there (omega (arith, same, le))
    | inr new ↦ elim (cases_Bool (nat_lt (length xs) limit)) [
      | inl room ↦
          let less : length xs < limit = ltb-true (length xs) limit room in
          let more = length-insert_row row xs in
          rw (new, room) (omega (arith, less, more))
      | inr full ↦ rw (new, full) le
    ]
  ]

  -- ---- a table stays one

  -- a table is one after a row is put
  pub put-table : (limit : ℕ) (row : X) (xs : List X) → IsTable key limit xs → IsTable key limit (put_row key limit row xs)
  put-table limit row xs t = record { ascending = put-ascending key limit row xs t.ascending; within = length-put_row limit row xs t.ascending t.within }

  -- a table is one without some of its rows
  pub filter-table : (limit : ℕ) (keep : X → Bool) (xs : List X) → IsTable key limit xs → IsTable key limit (filter keep xs)
  filter-table limit keep xs t =
      let fewer = length-filter_le keep xs in
      let le = t.within in
      record { ascending = filter-ascending key keep xs t.ascending; within = omega (arith, fewer, le) }

  -- a table is one after a row is removed
  pub remove-table : (limit k : ℕ) (xs : List X) → IsTable key limit xs → IsTable key limit (remove_row key k xs)
  remove-table limit k xs t = filter-table limit (λ x. not (nat_eq (key x) k)) xs t

  -- a table is one after a row changes and keeps its key
  pub change-table : (limit k : ℕ) (f : X → X) (xs : List X) → ((x : X) → key (f x) ≡ key x) → IsTable key limit xs → IsTable key limit (change_row key k f xs)
  change-table limit k f xs kept t =
      let same = length-change_row k f xs in
      let le = t.within in
      record { ascending = change-ascending key k f xs kept t.ascending; within = omega (arith, same, le) }

  -- ---- what holds of each row

  -- what holds of each row, and of one more, holds of each after that one is put
  pub all-insert_row : (P : X → Type 0) (row : X) (xs : List X) → P row → AllByRecursion P xs → AllByRecursion P (insert_row key row xs)
  all-insert_row P row [] p all = (p, tt)
  all-insert_row P row (x ∷ xs) p all = elim (cases_Bool (nat_lt (key row) (key x))) [
    | inl before ↦ rw before (p, all)
    | inr after ↦ elim (cases_Bool (nat_eq (key row) (key x))) [
      | inl same ↦ rw (after, same) (p, all.1)
      | inr other ↦ rw (after, other) (all.0, all-insert_row P row xs p all.1)
    ]
  ]

  -- the same in a list with a limit
  pub all-put_row : (P : X → Type 0) (limit : ℕ) (row : X) (xs : List X) → P row → AllByRecursion P xs → AllByRecursion P (put_row key limit row xs)
  all-put_row P limit row xs p all = elim (cases_Bool (has_row key (key row) xs || nat_lt (length xs) limit)) [
    | inl takes ↦ rw takes (all-insert_row P row xs p all)
    | inr full ↦ rw full all
  ]

  -- what holds of each row holds of each after one changes, if the change keeps it
  pub all-change_row : (P : X → Type 0) (k : ℕ) (f : X → X) (xs : List X) → ((x : X) → P x → P (f x)) → AllByRecursion P xs → AllByRecursion P (change_row key k f xs)
  all-change_row P k f [] keeps all = tt
  all-change_row P k f (x ∷ xs) keeps all = elim (cases_Bool (nat_eq (key x) k)) [
    | inl same ↦ rw same (keeps x all.0, all.1)
    | inr other ↦ rw other (all.0, all-change_row P k f xs keeps all.1)
  ]

-- what holds of each item holds of those that a filter leaves
pub all-filter : {X : Type 0} (P : X → Type 0) (keep : X → Bool) (xs : List X) → AllByRecursion P xs → AllByRecursion P (filter keep xs)
all-filter P keep [] all = tt
all-filter P keep (x ∷ xs) all = elim (cases_Bool (keep x)) [
  | inl stays ↦ rw stays (all.0, all-filter P keep xs all.1)
  | inr goes ↦ rw goes (all-filter P keep xs all.1)
]

-- ---- a session that changes

empty-table : {X : Type 0} (key : X → ℕ) (limit : ℕ) → IsTable key limit []
empty-table key limit = record { ascending = tt; within = omega arith }

fresh-tables : (row : Columns) → HasTables (fresh row)
fresh-tables row = record { inbound = empty-table number_of OPEN_LIMIT; subscriptions = empty-table place_of SUBSCRIPTION_LIMIT; queue = empty-table copy_place QUEUE_LIMIT }

-- a part that keeps births and tables
record IsKeeping (f : Session → Session) : Type 0 where
  birth : (s : Session) → birth_of (f s) ≡ birth_of s
  tables : (s : Session) → HasTables s → HasTables (f s)

keeps-columns : (row : Columns) → IsKeeping (with_columns row)
keeps-columns row = record { birth = λ s. refl; tables = λ s h. record { inbound = h.inbound; subscriptions = h.subscriptions; queue = h.queue } }

in_session-ordered : (birth : ℕ) (f : Session → Session) (r : Records) → IsKeeping f → IsOrdered r → IsOrdered (in_session birth f r)
in_session-ordered birth f r keeps h = record {
  sessions = change-table birth_of SESSION_LIMIT birth f r.sessions keeps.birth h.sessions;
  each = all-change_row birth_of HasTables birth f r.sessions keeps.tables h.each;
  retained = h.retained;
}

-- what holds of both choices holds of the one that is made
pub either : {X : Type 0} (P : X → Type 0) (test : Bool) (x y : X) → P x → P y → P (cond test x y)
either P true x y p q = p
either P false x y p q = q

put_session-table : (row : Columns) (ss : List Session) → IsTable birth_of SESSION_LIMIT ss → IsTable birth_of SESSION_LIMIT (put_session row ss)
put_session-table row ss t = either (IsTable birth_of SESSION_LIMIT) (has_row birth_of row.birth ss)
    (change_row birth_of row.birth (with_columns row) ss)
    (put_row birth_of SESSION_LIMIT (fresh row) ss)
    (change-table birth_of SESSION_LIMIT row.birth (with_columns row) ss (λ s. refl) t)
    (put-table birth_of SESSION_LIMIT (fresh row) ss t)

put_session-each : (row : Columns) (ss : List Session) → AllByRecursion HasTables ss → AllByRecursion HasTables (put_session row ss)
put_session-each row ss all = either (AllByRecursion HasTables) (has_row birth_of row.birth ss)
    (change_row birth_of row.birth (with_columns row) ss)
    (put_row birth_of SESSION_LIMIT (fresh row) ss)
    (all-change_row birth_of HasTables row.birth (with_columns row) ss (keeps-columns row).tables all)
    (all-put_row birth_of HasTables SESSION_LIMIT (fresh row) ss (fresh-tables row) all)

-- ---- every change

counter-ordered : (counter : Counter) (value : ℕ) (r : Records) → IsOrdered r → IsOrdered (with_counter counter value r)
counter-ordered Births value r h = record { sessions = h.sessions; each = h.each; retained = h.retained }
counter-ordered Publications value r h = record { sessions = h.sessions; each = h.each; retained = h.retained }
counter-ordered Subscribes value r h = record { sessions = h.sessions; each = h.each; retained = h.retained }
counter-ordered Autos value r h = record { sessions = h.sessions; each = h.each; retained = h.retained }
counter-ordered Moment value r h = record { sessions = h.sessions; each = h.each; retained = h.retained }

-- a change keeps all rows in order
pub changed-ordered : (change : Change) (r : Records) → IsOrdered r → IsOrdered (changed change r)
changed-ordered (SetCounter counter value) r h = counter-ordered counter value r h
changed-ordered (PutSession row) r h = record { sessions = put_session-table row r.sessions h.sessions; each = put_session-each row r.sessions h.each; retained = h.retained }
changed-ordered (SetSession row) r h = in_session-ordered row.birth (with_columns row) r (keeps-columns row) h
changed-ordered (RemoveSession birth) r h = record {
  sessions = remove-table birth_of SESSION_LIMIT birth r.sessions h.sessions;
  each = all-filter HasTables (λ s. not (nat_eq (birth_of s) birth)) r.sessions h.each;
  retained = h.retained;
}
changed-ordered (PutWill birth will) r h = in_session-ordered birth (with_will (Some will)) r
    (record { birth = λ s. refl; tables = λ s t. record { inbound = t.inbound; subscriptions = t.subscriptions; queue = t.queue } }) h
changed-ordered (RemoveWill birth) r h = in_session-ordered birth (with_will None) r
    (record { birth = λ s. refl; tables = λ s t. record { inbound = t.inbound; subscriptions = t.subscriptions; queue = t.queue } }) h
changed-ordered (PutSubscription birth sub) r h = in_session-ordered birth (with_subscription sub) r
    (record {
      birth = λ s. refl;
      tables = λ s t. record {
        inbound = t.inbound;
        subscriptions = put-table place_of SUBSCRIPTION_LIMIT sub (without_filter sub.filter s.subscriptions)
            (filter-table place_of SUBSCRIPTION_LIMIT (λ x. not (bytes_eq x.filter sub.filter)) s.subscriptions t.subscriptions);
        queue = t.queue;
      };
    }) h
changed-ordered (RemoveSubscription birth text) r h = in_session-ordered birth (without_subscription text) r
    (record {
      birth = λ s. refl;
      tables = λ s t. record {
        inbound = t.inbound;
        subscriptions = filter-table place_of SUBSCRIPTION_LIMIT (λ x. not (bytes_eq x.filter text)) s.subscriptions t.subscriptions;
        queue = t.queue;
      };
    }) h
changed-ordered (PutInbound birth id) r h = in_session-ordered birth (with_open id) r
    (record {
      birth = λ s. refl;
      tables = λ s t. record {
        inbound = put-table number_of OPEN_LIMIT id s.inbound t.inbound;
        subscriptions = t.subscriptions;
        queue = t.queue;
      };
    }) h
changed-ordered (RemoveInbound birth id) r h = in_session-ordered birth (without_open id) r
    (record {
      birth = λ s. refl;
      tables = λ s t. record {
        inbound = remove-table number_of OPEN_LIMIT id s.inbound t.inbound;
        subscriptions = t.subscriptions;
        queue = t.queue;
      };
    }) h
changed-ordered (PutCopy birth e) r h = in_session-ordered birth (with_copy e) r
    (record {
      birth = λ s. refl;
      tables = λ s t. record {
        inbound = t.inbound;
        subscriptions = t.subscriptions;
        queue = put-table copy_place QUEUE_LIMIT e s.queue t.queue;
      };
    }) h
changed-ordered (SetCopy birth place phase) r h = in_session-ordered birth (with_phase place phase) r
    (record {
      birth = λ s. refl;
      tables = λ s t. record {
        inbound = t.inbound;
        subscriptions = t.subscriptions;
        queue = change-table copy_place QUEUE_LIMIT place (in_phase phase) s.queue (λ e. refl) t.queue;
      };
    }) h
changed-ordered (RemoveCopy birth place) r h = in_session-ordered birth (without_copy place) r
    (record {
      birth = λ s. refl;
      tables = λ s t. record {
        inbound = t.inbound;
        subscriptions = t.subscriptions;
        queue = remove-table copy_place QUEUE_LIMIT place s.queue t.queue;
      };
    }) h
changed-ordered (PutRetained kept) r h = record { sessions = h.sessions; each = h.each; retained = put-table kept_place RETAINED_LIMIT kept r.retained h.retained }
changed-ordered (RemoveRetained place) r h = record { sessions = h.sessions; each = h.each; retained = remove-table kept_place RETAINED_LIMIT place r.retained h.retained }

-- changes keep all rows in order
pub changed_all-ordered : (changes : List Change) (r : Records) → IsOrdered r → IsOrdered (changed_all changes r)
changed_all-ordered [] r h = h
changed_all-ordered (change ∷ changes) r h = changed_all-ordered changes (changed change r) (changed-ordered change r h)

-- nothing stored is in order
pub nothing-ordered : IsOrdered nothing
nothing-ordered = record { sessions = empty-table birth_of SESSION_LIMIT; each = tt; retained = empty-table kept_place RETAINED_LIMIT }
