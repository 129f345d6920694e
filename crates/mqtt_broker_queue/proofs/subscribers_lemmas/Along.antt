-- An index that goes along with a row serves what the row leaves.
use Rattle.std.proofs.Common.{◌≡◌, ℕ, ◌≤◌, Bool, true, false, cond, not, List, [], ◌∷◌, length, Option, Some, None, nat_eq, bytes_eq, refl, ap, sym, subst, ◌∙◌, arith}
use Rattle.std.specs.Prelude.{is_some}
use Rattle.std.specs.List.{AllByRecursion}
use Rattle.std.proofs.lemmas.List.{length-map}
use Rattle.mqtt_base.specs.declared.limits.TheConstants.{SUBSCRIPTION_LIMIT, SESSION_LIMIT}
use Rattle.mqtt_keep.specs.lawful.Lawful.{IsIdentifier}
use Rattle.mqtt_records.specs.state.Records.{HasSome, changed, changed_all, in_session, put_session, with_counter}
use Rattle.mqtt_records.specs.state.Session.{birth_of, place_of, fresh, with_columns, with_will, without_filter, with_subscription, without_subscription, with_open, without_open, with_copy, with_phase, without_copy}
use Rattle.mqtt_records.specs.declared.state.change.Change.{Change}
use Rattle.mqtt_records.specs.declared.state.change.Change.TheVariants.{SetCounter, PutSession, SetSession, RemoveSession, PutWill, RemoveWill, PutSubscription, RemoveSubscription, PutInbound, RemoveInbound, PutCopy, SetCopy, RemoveCopy, PutRetained, RemoveRetained}
use Rattle.mqtt_records.specs.declared.state.change.Counter.{Counter}
use Rattle.mqtt_records.specs.declared.state.change.Counter.TheVariants.{Births, Publications, Subscribes, Autos, Moment}
use Rattle.mqtt_records.specs.declared.state.records.Records.{Records}
use Rattle.mqtt_records.specs.declared.state.session.Columns.{Columns}
use Rattle.mqtt_records.specs.declared.state.session.Session.{Session}
use Rattle.mqtt_records.specs.declared.state.subscription.Subscription.{Subscription}
use Rattle.mqtt_routes.specs.declared.routing.subscription.Subscription.{Subscription as RoutedSubscription}
use Rattle.mqtt_routes.specs.routing.Subscriptions.{Subscriber, AreInOrder, beside, put, subs_of, subscribed, with_some, with_subs, without_session}
use Rattle.mqtt_routes.proofs.routing_lemmas.SomeLemmas.{some_dropped}
use Rattle.mqtt_routes.proofs.routing_lemmas.SpotLemmas.{order-with_subs, order-unsubscribed, order-without_session}
use Rattle.mqtt_records.specs.lists.Order.{row_at, has_row, put_row, change_row}
use Rattle.mqtt_rules.specs.step.Contents.{IsAskedFor}
use Rattle.mqtt_rules.specs.step.Laws.{HasTables}
use Rattle.mqtt_rules.specs.step.Routing.{routed_subscription, subscribers}
use Rattle.mqtt_rules.proofs.step_lemmas.numbers.Copies.{each_filter}
use Rattle.mqtt_rules.proofs.step_lemmas.flight.FlightRows.{all_at, all_put, all_changed}
use Rattle.mqtt_rules.proofs.step_lemmas.order.Ordered.{changed-ordered}
use Rattle.mqtt_broker_step.specs.Subscribing.{HasEachFilterOnce}
use Rattle.mqtt_broker_step.proofs.FiltersKept.{once_all}
use Rattle.mqtt_broker_queue.specs.subscribers.Following.{HasAsked, CanBeIndexed, IsGranted, CanBeFollowed, CanAllBeFollowed, followed, followed_all}
use Rattle.mqtt_broker_queue.specs.subscribers.Indexing.{IsLawful, Serves}
use Rattle.mqtt_broker_queue.proofs.subscribers_lemmas.Granting.{routed_all, same_put}
use Rattle.mqtt_broker_queue.proofs.subscribers_lemmas.Standing.{same_subscribed, same_unsubscribed}
use Rattle.mqtt_broker_queue.proofs.subscribers_lemmas.Subscribers.{subscribers_of, births_in_order, same_in, same_begun, same_ended, found_subs, found_changed, same_lost}

-- ---- what can be indexed stays so

asked_in : (birth : ℕ) (f : Session → Session) (ss : List Session) → ((s : Session) → HasAsked s → HasAsked (f s)) → AllByRecursion HasAsked ss → AllByRecursion HasAsked (change_row birth_of birth f ss)
asked_in birth f ss kept h = all_changed birth_of HasAsked birth f ss kept h

asked_if : (b : Bool) (ss ts : List Session) → AllByRecursion HasAsked ss → AllByRecursion HasAsked ts → AllByRecursion HasAsked (cond b ss ts)
asked_if true ss ts p q = p
asked_if false ss ts p q = q

asked_counter : (counter : Counter) (value : ℕ) (r : Records) → AllByRecursion HasAsked r.sessions → AllByRecursion HasAsked (with_counter counter value r).sessions
asked_counter Births value r h = h
asked_counter Publications value r h = h
asked_counter Subscribes value r h = h
asked_counter Autos value r h = h
asked_counter Moment value r h = h

asked_session : (row : Columns) (ss : List Session) → AllByRecursion HasAsked ss → AllByRecursion HasAsked (put_session row ss)
asked_session row ss h =
    asked_if (has_row birth_of row.birth ss) (change_row birth_of row.birth (with_columns row) ss) (put_row birth_of SESSION_LIMIT (fresh row) ss)
    (asked_in row.birth (with_columns row) ss (λ s q. q) h)
    (all_put birth_of HasAsked SESSION_LIMIT (fresh row) ss tt h)

asked_put : (x : Subscription) (s : Session) → IsAskedFor x → HasAsked s → HasAsked (with_subscription x s)
asked_put x s its h =
    all_put place_of IsAskedFor SUBSCRIPTION_LIMIT x (without_filter x.filter s.subscriptions) its
    (each_filter IsAskedFor (λ (y : Subscription). not (bytes_eq y.filter x.filter)) s.subscriptions h)

asked_changed : (change : Change) (r : Records) → CanBeFollowed change r → AllByRecursion HasAsked r.sessions → AllByRecursion HasAsked (changed change r).sessions
asked_changed (SetCounter counter value) r may h = asked_counter counter value r h
asked_changed (PutSession row) r may h = asked_session row r.sessions h
asked_changed (SetSession row) r may h = asked_in row.birth (with_columns row) r.sessions (λ s q. q) h
asked_changed (RemoveSession birth) r may h = each_filter HasAsked (λ s. not (nat_eq (birth_of s) birth)) r.sessions h
asked_changed (PutWill birth will) r may h = asked_in birth (with_will (Some will)) r.sessions (λ s q. q) h
asked_changed (RemoveWill birth) r may h = asked_in birth (with_will None) r.sessions (λ s q. q) h
asked_changed (PutSubscription birth x) r may h = asked_in birth (with_subscription x) r.sessions (λ s q. asked_put x s may.1 q) h
asked_changed (RemoveSubscription birth text) r may h =
    asked_in birth (without_subscription text) r.sessions
    (λ s q. each_filter IsAskedFor (λ (y : Subscription). not (bytes_eq y.filter text)) s.subscriptions q) h
asked_changed (PutInbound birth id) r may h = asked_in birth (with_open id) r.sessions (λ s q. q) h
asked_changed (RemoveInbound birth id) r may h = asked_in birth (without_open id) r.sessions (λ s q. q) h
asked_changed (PutCopy birth row) r may h = asked_in birth (with_copy row) r.sessions (λ s q. q) h
asked_changed (SetCopy birth place phase) r may h = asked_in birth (with_phase place phase) r.sessions (λ s q. q) h
asked_changed (RemoveCopy birth place) r may h = asked_in birth (without_copy place) r.sessions (λ s q. q) h
asked_changed (PutRetained kept) r may h = h
asked_changed (RemoveRetained place) r may h = h

-- what can be indexed can be so after a row that can be followed
pub indexed_changed : (change : Change) (r : Records) → CanBeIndexed r → CanBeFollowed change r → CanBeIndexed (changed change r)
indexed_changed change r h may = record {
  ordered = changed-ordered change r h.ordered;
  filters = once_all (change ∷ []) r h.filters;
  asked = asked_changed change r may h.asked;
}

-- and after many
pub indexed_all : (changes : List Change) (r : Records) → CanBeIndexed r → CanAllBeFollowed changes r → CanBeIndexed (changed_all changes r)
indexed_all [] r h may = h
indexed_all (change ∷ changes) r h may = indexed_all changes (changed change r) (indexed_changed change r h may.0) may.1

-- ---- what a table has, if what it serves has it

identifiers_routed : (xs : List Subscription) → AllByRecursion IsAskedFor xs → AllByRecursion (λ (x : RoutedSubscription). IsIdentifier x.identifier) (routed_all xs)
identifiers_routed [] h = tt
identifiers_routed (x ∷ xs) h = (h.0.identifier, identifiers_routed xs h.1)

sessions_lawful : (ss : List Session) → AllByRecursion HasTables ss → AllByRecursion HasAsked ss → AllByRecursion IsLawful (subscribers_of ss)
sessions_lawful [] tables its = tt
sessions_lawful (s ∷ ss) tables its =
    let within = tables.0.subscriptions.within in
    let same : length (routed_all s.subscriptions) ≡ length s.subscriptions = length-map s.subscriptions routed_subscription in
    (record { identifiers = identifiers_routed s.subscriptions its.0; few = omega (arith, within, same) }, sessions_lawful ss tables.1 its.1)

some_lawful_by : (subs : List RoutedSubscription) (x : Subscriber) (xs : List Subscriber) → IsLawful x → AllByRecursion IsLawful xs → AllByRecursion IsLawful (beside subs x xs)
some_lawful_by [] x xs p h = h
some_lawful_by (s ∷ ss) x xs p h = (p, h)

-- what is lawful of all sessions is so of those with subscriptions
pub some_lawful : (xs : List Subscriber) → AllByRecursion IsLawful xs → AllByRecursion IsLawful (with_some xs)
some_lawful [] h = tt
some_lawful (x ∷ xs) h = some_lawful_by x.subs x (with_some xs) h.0 (some_lawful xs h.1)

none_lawful : (x : Subscriber) → x.subs ≡ [] → IsLawful x
none_lawful x is = record {
  identifiers = subst (λ (subs : List RoutedSubscription). AllByRecursion (λ (s : RoutedSubscription). IsIdentifier s.identifier) subs) (sym is) tt;
  few = subst (λ (subs : List RoutedSubscription). length subs ≤ SUBSCRIPTION_LIMIT) (sym is) (omega arith);
}

all_lawful_by : (subs : List RoutedSubscription) (x : Subscriber) (xs : List Subscriber) → x.subs ≡ subs → (AllByRecursion IsLawful (with_some xs) → AllByRecursion IsLawful xs)
    → AllByRecursion IsLawful (beside subs x (with_some xs)) → AllByRecursion IsLawful (x ∷ xs)
all_lawful_by [] x xs is more h = (none_lawful x is, more h)
all_lawful_by (s ∷ ss) x xs is more h = (h.0, more h.1)

all_lawful : (xs : List Subscriber) → AllByRecursion IsLawful (with_some xs) → AllByRecursion IsLawful xs
all_lawful [] h = tt
all_lawful (x ∷ xs) h = all_lawful_by x.subs x xs refl (all_lawful xs) h

-- a table in order serves the sessions whose subscriptions it has
pub serves_of : (table : List Subscriber) (r : Records) → CanBeIndexed r → AreInOrder table → with_some table ≡ with_some (subscribers r) → Serves table (subscribers r)
serves_of table r h order same = record {
  same = same;
  order = order;
  lawful = all_lawful table
      (subst (λ (xs : List Subscriber). AllByRecursion IsLawful xs) (sym same) (some_lawful (subscribers r) (sessions_lawful r.sessions h.ordered.each h.asked)));
}

-- ---- a row

-- the sessions that have subscriptions after a row, by those before it
abbrev IsFollowed : Change → Records → List Subscriber → Type 0
IsFollowed change r table = with_some (followed change table) ≡ with_some (subscribers (changed change r))

-- sessions that can be indexed stand in the order of their births
pub in_order : (r : Records) → CanBeIndexed r → AreInOrder (subscribers r)
in_order r h = births_in_order r.sessions h.ordered.sessions.ascending

same_counter : (counter : Counter) (value : ℕ) (r : Records) → subscribers (with_counter counter value r) ≡ subscribers r
same_counter Births value r = refl
same_counter Publications value r = refl
same_counter Subscribes value r = refl
same_counter Autos value r = refl
same_counter Moment value r = refl

same_session_by : (o : Option Session) (row : Columns) (ss : List Session) → row_at birth_of row.birth ss ≡ o
    → with_some (subscribers_of (cond (is_some o) (change_row birth_of row.birth (with_columns row) ss) (put_row birth_of SESSION_LIMIT (fresh row) ss))) ≡ with_some (subscribers_of ss)
same_session_by None row ss is = same_begun row ss is
same_session_by (Some s) row ss is = ap with_some (same_in row.birth (with_columns row) ss (λ t. refl))

same_granted : (birth : ℕ) (x : Subscription) (s : Session) (r : Records) → CanBeIndexed r → row_at birth_of birth r.sessions ≡ Some s → IsGranted x s
    → subscribers (in_session birth (with_subscription x) r) ≡ subscribed birth (routed_subscription x) (subscribers r)
same_granted birth x s r h there granted =
    let up = h.ordered.sessions.ascending in
    let tables = all_at birth_of HasTables birth s r.sessions h.ordered.each there in
    let once = all_at birth_of HasEachFilterOnce birth s r.sessions h.filters there in
    found_changed birth (with_subscription x) s r.sessions (λ t. refl) up there
    ∙ (ap (λ subs. with_subs birth subs (subscribers r)) (same_put x s tables.subscriptions.ascending once.differ granted)
    ∙ ap (λ subs. with_subs birth (put (routed_subscription x) subs) (subscribers r)) (sym (found_subs birth s r.sessions up there)))

granted_by : (o : Option Session) (birth : ℕ) (x : Subscription) (r : Records) → CanBeIndexed r → row_at birth_of birth r.sessions ≡ o → HasSome o (IsGranted x)
    → subscribers (in_session birth (with_subscription x) r) ≡ subscribed birth (routed_subscription x) (subscribers r)
granted_by None birth x r h there granted = absurd granted
granted_by (Some s) birth x r h there granted = same_granted birth x s r h there granted

same_changed : (birth : ℕ) (f : Session → Session) (r : Records) (table : List Subscriber) → ((s : Session) → subscribers_of (f s ∷ []) ≡ subscribers_of (s ∷ []))
    → with_some table ≡ with_some (subscribers r) → with_some table ≡ with_some (subscribers (in_session birth f r))
same_changed birth f r table kept same = same ∙ sym (ap with_some (same_in birth f r.sessions (λ s. first (kept s))))
  where
    first : {a b : Subscriber} → (a ∷ []) ≡ (b ∷ []) → a ≡ b
    first e = cc

is_followed : (change : Change) (r : Records) (table : List Subscriber) → CanBeIndexed r → CanBeFollowed change r → AreInOrder table → with_some table ≡ with_some (subscribers r) → IsFollowed change r table
is_followed (SetCounter counter value) r table h may order same = same ∙ ap with_some (sym (same_counter counter value r))
is_followed (PutSession row) r table h may order same = same ∙ sym (same_session_by (row_at birth_of row.birth r.sessions) row r.sessions refl)
is_followed (SetSession row) r table h may order same = same_changed row.birth (with_columns row) r table (λ s. refl) same
is_followed (RemoveSession birth) r table h may order same =
    some_dropped birth table order
    ∙ (ap (without_session birth) same
    ∙ (sym (some_dropped birth (subscribers r) (in_order r h))
    ∙ ap with_some (sym (same_ended birth r.sessions h.ordered.sessions.ascending))))
is_followed (PutWill birth will) r table h may order same = same_changed birth (with_will (Some will)) r table (λ s. refl) same
is_followed (RemoveWill birth) r table h may order same = same_changed birth (with_will None) r table (λ s. refl) same
is_followed (PutSubscription birth x) r table h may order same =
    same_subscribed birth (routed_subscription x) table (subscribers r) order (in_order r h) same
    ∙ ap with_some (sym (granted_by (row_at birth_of birth r.sessions) birth x r h refl may.0))
is_followed (RemoveSubscription birth text) r table h may order same =
    same_unsubscribed birth text table (subscribers r) order (in_order r h) same
    ∙ ap with_some (sym (same_lost birth text r.sessions h.ordered.sessions.ascending h.filters))
is_followed (PutInbound birth id) r table h may order same = same_changed birth (with_open id) r table (λ s. refl) same
is_followed (RemoveInbound birth id) r table h may order same = same_changed birth (without_open id) r table (λ s. refl) same
is_followed (PutCopy birth row) r table h may order same = same_changed birth (with_copy row) r table (λ s. refl) same
is_followed (SetCopy birth place phase) r table h may order same = same_changed birth (with_phase place phase) r table (λ s. refl) same
is_followed (RemoveCopy birth place) r table h may order same = same_changed birth (without_copy place) r table (λ s. refl) same
is_followed (PutRetained kept) r table h may order same = same
is_followed (RemoveRetained place) r table h may order same = same

followed_order : (change : Change) (table : List Subscriber) → AreInOrder table → AreInOrder (followed change table)
followed_order (PutSubscription birth x) table order = order-with_subs birth (put (routed_subscription x) (subs_of birth table)) table order
followed_order (RemoveSubscription birth text) table order = order-unsubscribed birth text table order
followed_order (RemoveSession birth) table order = order-without_session birth table order
followed_order (SetCounter counter value) table order = order
followed_order (PutSession row) table order = order
followed_order (SetSession row) table order = order
followed_order (PutWill birth will) table order = order
followed_order (RemoveWill birth) table order = order
followed_order (PutInbound birth id) table order = order
followed_order (RemoveInbound birth id) table order = order
followed_order (PutCopy birth row) table order = order
followed_order (SetCopy birth place phase) table order = order
followed_order (RemoveCopy birth place) table order = order
followed_order (PutRetained kept) table order = order
followed_order (RemoveRetained place) table order = order

-- a table that serves what stands, and follows a row, serves what the row leaves
pub serves_followed : (change : Change) (r : Records) (table : List Subscriber) → CanBeIndexed r → CanBeFollowed change r → Serves table (subscribers r) → Serves (followed change table) (subscribers (changed change r))
serves_followed change r table h may serves =
    serves_of (followed change table) (changed change r) (indexed_changed change r h may) (followed_order change table serves.order)
    (is_followed change r table h may serves.order serves.same)

-- ---- all rows

-- and so with many rows, one after the other
pub serves_followed_all : (changes : List Change) (r : Records) (table : List Subscriber) → CanBeIndexed r → CanAllBeFollowed changes r → Serves table (subscribers r)
    → Serves (followed_all changes table) (subscribers (changed_all changes r))
serves_followed_all [] r table h may serves = serves
serves_followed_all (change ∷ changes) r table h may serves =
    serves_followed_all changes (changed change r) (followed change table) (indexed_changed change r h may.0) may.1 (serves_followed change r table h may.0 serves)
