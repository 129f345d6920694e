-- No two subscriptions of any sessions have the same place, deed by deed and over a step.
use Rattle.std.proofs.Common.{◌≡◌, ℕ, suc, ◌≤◌, Bool, true, false, cond, not, List, [], ◌∷◌, Option, Some, None, nat_eq, bytes_eq, refl, sym, ap, subst, ◌∙◌, inl, inr, arith}
use Rattle.std.specs.Prelude.{⊤, ◌≢◌, filter, find, flat_map, map}
use Rattle.std.specs.List.{AllByRecursion}
use Rattle.mqtt_base.specs.declared.limits.TheConstants.{SESSION_LIMIT, SUBSCRIPTION_LIMIT}
use Rattle.mqtt_records.specs.declared.messages.message.Will.{Will}
use Rattle.mqtt_records.specs.declared.state.change.Change.{Change}
use Rattle.mqtt_records.specs.declared.state.change.Change.TheVariants.{SetSession}
use Rattle.mqtt_records.specs.declared.state.records.Records.{Records}
use Rattle.mqtt_records.specs.declared.state.session.Columns.{Columns}
use Rattle.mqtt_records.specs.declared.state.session.Session.{Session}
use Rattle.mqtt_records.specs.declared.state.subscription.Subscription.{Subscription}
use Rattle.mqtt_records.specs.state.Records.{changed, changed_all, in_session, nothing, put_session}
use Rattle.mqtt_records.specs.state.Session.{birth_of, columns_of, place_of, fresh, without_filter, with_columns, with_copy, with_open, with_phase, with_subscription, with_will, without_copy, without_open, without_subscription}
use Rattle.mqtt_records.specs.lists.Distinct.{AllDiffer}
use Rattle.mqtt_records.specs.lists.Order.{IsAscending, change_row, has_row, put_row}
use Rattle.mqtt_records.proofs.lists_lemmas.OrderLemmas.{put-ascending, filter-ascending}
use Rattle.mqtt_rules.specs.declared.step.Capacity.{Capacity}
use Rattle.mqtt_rules.specs.step.Deeds.{Whose, Part, Resume, Close, SetExpiry, DropWill, Subscribe, Unsubscribe, Open, Release, Enter, Mark, Leave, Deed, Accept, Begin, Name, Count, At, Finish, Keep, Forget, RefuseWill, Link, On, Send, Gone, after, after_all, new_entry, part_rows, part_rows_of, rows_of, rows_of_all, will_row}
use Rattle.mqtt_rules.specs.step.Laws.{IsAmong}
use Rattle.mqtt_rules.specs.step.State.{Broker, Env, MemberChoice, session_at, stored}
use Rattle.mqtt_rules.specs.step.Step.{Call, at_moment, deeds, done, env_of, opened, opening, stepped, unopened, with_moment}
use Rattle.mqtt_rules.specs.step.Subscribe as sub
use Rattle.mqtt_rules.proofs.step_lemmas.acts.Acts.{anyone, finds_anyone, is_alone, IsGranted}
use Rattle.mqtt_rules.proofs.step_lemmas.acts.ByDeeds.{DeedLaw, MarkLaw, leads_deeds, leads_opened}
use Rattle.mqtt_rules.proofs.step_lemmas.numbers.Copies.{each_filter, each_map, each_more}
use Rattle.mqtt_rules.proofs.step_lemmas.flight.FlightRows.{all_at, found_key, all_put}
use Rattle.mqtt_rules.proofs.step_lemmas.acts.Leads.{found_among}
use Rattle.mqtt_rules.proofs.step_lemmas.numbers.Counters.{Counts, counts, counts_after, counts_deed}
use Rattle.mqtt_rules.proofs.step_lemmas.order.Ordered.{changed_all-ordered}
use Rattle.mqtt_broker.specs.reopening.Places.{HasPlacesUpTo, HavePlacesApart, places_in}
use Rattle.mqtt_broker.proofs.reopening_lemmas.Differ.{IsOwn, ascending_differ, change_differs, each_given, filter_differs, given_same, put_differs}
use Rattle.mqtt_broker.proofs.reopening_lemmas.EachSession.{Makes, deed_each, part_made}

abbrev Apart : List Session → Type 0
Apart ss = AllDiffer (flat_map places_in ss)

-- a session's subscription gets a place that one of them has, or that none of any session has
abbrev IsOwnPlace : ℕ → Session → Records → Type 0
IsOwnPlace n s r = IsOwn birth_of places_in s r.sessions n

-- ---- what a deed brings

abbrev Brings : Deed → Broker → Type 0
Brings (At who (Subscribe x)) b = ((s : Session) → session_at who.birth b.records ≡ Some s → IsOwnPlace x.place s b.records) × (x.place ≤ b.records.subscribes)
Brings (Count n) b = b.records.subscribes ≤ n
Brings d b = ⊤

abbrev Keeps : Broker → Type 0
Keeps b = HavePlacesApart b.records

-- ---- sessions

same_places : (birth : ℕ) (f : Session → Session) (r : Records) → ((s : Session) → places_in (f s) ≡ places_in s) → Apart r.sessions → Apart (in_session birth f r).sessions
same_places birth f r same h = subst AllDiffer (sym (given_same birth_of places_in birth f r.sessions same)) h

will_apart : (birth : ℕ) (will : Option Will) (r : Records) → Apart r.sessions → Apart (changed_all (will_row birth will ∷ []) r).sessions
will_apart birth None r h = same_places birth (with_will None) r (λ s. refl) h
will_apart birth (Some w) r h = same_places birth (with_will (Some w)) r (λ s. refl) h

put_apart : (row : Columns) (r : Records) → Apart r.sessions → Apart (put_session row r.sessions)
put_apart row r h = by (has_row birth_of row.birth r.sessions)
  where
    by : (b : Bool) → Apart (cond b (change_row birth_of row.birth (with_columns row) r.sessions) (put_row birth_of SESSION_LIMIT (fresh row) r.sessions))
    by true = same_places row.birth (with_columns row) r (λ s. refl) h
    by false = put_differs birth_of places_in SESSION_LIMIT (fresh row) r.sessions refl h

own_among : (s : Session) (r : Records) (xs : List Subscription) → ((x : Subscription) → IsAmong x xs → IsAmong x.place (places_in s)) → AllByRecursion (λ x. IsOwnPlace x.place s r) xs
own_among s r [] h = tt
own_among s r (x ∷ xs) h = (inl (h x (inl refl)), own_among s r xs (λ y among. h y (inr among)))

place_among : (x : Subscription) (xs : List Subscription) → IsAmong x xs → IsAmong x.place (map place_of xs)
place_among x [] among = absurd among
place_among x (y ∷ ys) among = elim among [ inl it ↦ inl (ap place_of it) | inr more ↦ inr (place_among x ys more) ]

-- a subscription is put, or one leaves
changed_apart : (f : Session → Session) (s : Session) (r : Records) → session_at s.birth r ≡ Some s → IsAscending place_of (f s).subscriptions → AllByRecursion (λ x. IsOwnPlace x.place s r) (f s).subscriptions → Apart r.sessions → Apart (in_session s.birth f r).sessions
changed_apart f s r there up own h =
    change_differs birth_of places_in s.birth f s r.sessions there (ascending_differ place_of (f s).subscriptions up)
    (each_map (λ n. IsOwnPlace n s r) place_of (f s).subscriptions own) h

subscribed_apart : (x : Subscription) (s : Session) (r : Records) → session_at s.birth r ≡ Some s → HavePlacesApart r → IsOwnPlace x.place s r → Apart (in_session s.birth (with_subscription x) r).sessions
subscribed_apart x s r there h own =
    let others = λ (y : Subscription). not (bytes_eq y.filter x.filter) in
    let up = (all_at birth_of _ s.birth s r.sessions h.ordered.each there).subscriptions.ascending in
    changed_apart (with_subscription x) s r there
    (put-ascending place_of SUBSCRIPTION_LIMIT x (without_filter x.filter s.subscriptions) (filter-ascending place_of others s.subscriptions up))
    (all_put place_of (λ y. IsOwnPlace y.place s r) SUBSCRIPTION_LIMIT x (without_filter x.filter s.subscriptions) own
    (each_filter (λ y. IsOwnPlace y.place s r) others s.subscriptions (own_among s r s.subscriptions (λ y among. place_among y s.subscriptions among)))) h.differ

unsubscribed_apart : (text : List ℕ) (s : Session) (r : Records) → session_at s.birth r ≡ Some s → HavePlacesApart r → Apart (in_session s.birth (without_subscription text) r).sessions
unsubscribed_apart text s r there h =
    let others = λ (y : Subscription). not (bytes_eq y.filter text) in
    let up = (all_at birth_of _ s.birth s r.sessions h.ordered.each there).subscriptions.ascending in
    changed_apart (without_subscription text) s r there (filter-ascending place_of others s.subscriptions up)
    (each_filter (λ y. IsOwnPlace y.place s r) others s.subscriptions (own_among s r s.subscriptions (λ y among. place_among y s.subscriptions among))) h.differ

part_apart : (part : Part) (s : Session) (b : Broker) → session_at s.birth b.records ≡ Some s → HavePlacesApart b.records → Brings (At (record { birth = s.birth; client = s.client }) part) b → Apart (changed_all (part_rows part s) b.records).sessions
part_apart (Resume expiry will) s b there h g =
    let row : Columns = record (columns_of s) { expiry = expiry; closed = None } in
    will_apart s.birth will (changed (SetSession row) b.records) (same_places s.birth (with_columns row) b.records (λ t. refl) h.differ)
part_apart (Close moment) s b there h g = same_places s.birth (part_made (Close moment) s) b.records (λ t. refl) h.differ
part_apart (SetExpiry expiry) s b there h g = same_places s.birth (part_made (SetExpiry expiry) s) b.records (λ t. refl) h.differ
part_apart DropWill s b there h g = same_places s.birth (with_will None) b.records (λ t. refl) h.differ
part_apart (Subscribe x) s b there h g = subscribed_apart x s b.records there h (g.0 s there)
part_apart (Unsubscribe text) s b there h g = unsubscribed_apart text s b.records there h
part_apart (Open id) s b there h g = same_places s.birth (with_open id) b.records (λ t. refl) h.differ
part_apart (Release id) s b there h g = same_places s.birth (without_open id) b.records (λ t. refl) h.differ
part_apart (Enter copy) s b there h g = same_places s.birth (with_copy (new_entry copy s.queue)) b.records (λ t. refl) h.differ
part_apart (Mark place phase) s b there h g = same_places s.birth (with_phase place phase) b.records (λ t. refl) h.differ
part_apart (Leave e ending) s b there h g = same_places s.birth (without_copy e.place) b.records (λ t. refl) h.differ

parts_apart : (who : Whose) (part : Part) (o : Option Session) (b : Broker) → session_at who.birth b.records ≡ o → HavePlacesApart b.records → Brings (At who part) b → Apart (changed_all (part_rows_of part o) b.records).sessions
parts_apart who part None b there h g = h.differ
parts_apart who part (Some s) b there h g =
    let same : s.birth ≡ who.birth = found_key birth_of who.birth s b.records.sessions there in
    part_apart part s b (ap (λ (n : ℕ). session_at n b.records) same ∙ there) h (mine part g same)
  where
    mine : (part : Part) → Brings (At who part) b → s.birth ≡ who.birth → Brings (At (record { birth = s.birth; client = s.client }) part) b
    mine (Subscribe x) g same = ((λ t at. g.0 t (ap (λ (n : ℕ). session_at n b.records) (sym same) ∙ at)), g.1)
    mine (Resume expiry will) g same = tt
    mine (Close moment) g same = tt
    mine (SetExpiry expiry) g same = tt
    mine DropWill g same = tt
    mine (Unsubscribe text) g same = tt
    mine (Open id) g same = tt
    mine (Release id) g same = tt
    mine (Enter copy) g same = tt
    mine (Mark place phase) g same = tt
    mine (Leave e ending) g same = tt

apart_deed : (d : Deed) (b : Broker) → HavePlacesApart b.records → Brings d b → Apart (after d b).records.sessions
apart_deed (At who part) b h g = parts_apart who part (session_at who.birth b.records) b refl h g
apart_deed (Begin row None) b h g = put_apart row b.records h.differ
apart_deed (Begin row (Some w)) b h g = same_places row.birth (with_will (Some w)) (record b.records { sessions = put_session row b.records.sessions; births = row.birth }) (λ s. refl) (put_apart row b.records h.differ)
apart_deed (Finish who) b h g = filter_differs birth_of places_in (λ s. not (nat_eq (birth_of s) who.birth)) b.records.sessions h.differ
apart_deed (Accept number origin m) b h g = h.differ
apart_deed (Name n) b h g = h.differ
apart_deed (Count n) b h g = h.differ
apart_deed (Keep kept) b h g = h.differ
apart_deed (Forget place) b h g = h.differ
apart_deed (RefuseWill who) b h g = h.differ
apart_deed (Link n) b h g = h.differ
apart_deed (On n part) b h g = h.differ
apart_deed (Send n packet) b h g = h.differ
apart_deed (Gone n) b h g = h.differ

-- ---- places up to the last grant

module _ (n : ℕ) where
  abbrev Given : Session → Type 0
  Given = HasPlacesUpTo n

  made_given : (who : Whose) (part : Part) (s t : Session) (b : Broker) → b.records.subscribes ≡ n → Brings (At who part) b → Given t → Given (part_made part s t)
  made_given who (Subscribe x) s t b is g h =
      let up = g.1 in
      all_put place_of (λ y. y.place ≤ n) SUBSCRIPTION_LIMIT x (without_filter x.filter t.subscriptions) (omega (arith, is, up)) (each_filter (λ y. y.place ≤ n) (λ y. not (bytes_eq y.filter x.filter)) t.subscriptions h)
  made_given who (Unsubscribe text) s t b is g h = each_filter (λ y. y.place ≤ n) (λ y. not (bytes_eq y.filter text)) t.subscriptions h
  made_given who (Resume expiry will) s t b is g h = h
  made_given who (Close moment) s t b is g h = h
  made_given who (SetExpiry expiry) s t b is g h = h
  made_given who DropWill s t b is g h = h
  made_given who (Open id) s t b is g h = h
  made_given who (Release id) s t b is g h = h
  made_given who (Enter copy) s t b is g h = h
  made_given who (Mark place phase) s t b is g h = h
  made_given who (Leave e ending) s t b is g h = h

given_more : (m n : ℕ) (s : Session) → m ≤ n → HasPlacesUpTo m s → HasPlacesUpTo n s
given_more m n s le h = each_more (λ x. x.place ≤ m) (λ x. x.place ≤ n) (λ x up. omega (arith, up, le)) s.subscriptions h

makes : (d : Deed) (b : Broker) → Brings d b → Makes (HasPlacesUpTo b.records.subscribes) (HasPlacesUpTo b.records.subscribes) (λ t h. h) d b
makes (At who part) b g = λ s t there same p. made_given b.records.subscribes who part s t b refl g p
makes (Begin row will) b g = record { new = tt; again = λ t same p. p; will = λ w t p. p }
makes (Accept number origin m) b g = tt
makes (Name n) b g = tt
makes (Count n) b g = tt
makes (Finish who) b g = tt
makes (Keep kept) b g = tt
makes (Forget place) b g = tt
makes (RefuseWill who) b g = tt
makes (Link n) b g = tt
makes (On n part) b g = tt
makes (Send n packet) b g = tt
makes (Gone n) b g = tt

grants_grow : (d : Deed) (b : Broker) → Brings d b → b.records.subscribes ≤ (counts_after d (counts b.records)).subscribes
grants_grow (Count n) b g = g
grants_grow (Accept number origin m) b g = omega arith
grants_grow (Begin row will) b g = omega arith
grants_grow (Name n) b g = omega arith
grants_grow (At who part) b g = omega arith
grants_grow (Finish who) b g = omega arith
grants_grow (Keep kept) b g = omega arith
grants_grow (Forget place) b g = omega arith
grants_grow (RefuseWill who) b g = omega arith
grants_grow (Link n) b g = omega arith
grants_grow (On n part) b g = omega arith
grants_grow (Send n packet) b g = omega arith
grants_grow (Gone n) b g = omega arith

given_deed : (d : Deed) (b : Broker) → HavePlacesApart b.records → Brings d b → AllByRecursion (HasPlacesUpTo (after d b).records.subscribes) (after d b).records.sessions
given_deed d b h g =
    let m = b.records.subscribes in
    let rest = deed_each (HasPlacesUpTo m) (HasPlacesUpTo m) (λ t p. p) d b (makes d b g) h.given in
    let le = grants_grow d b g in
    let same : (after d b).records.subscribes ≡ (counts_after d (counts b.records)).subscribes = ap (λ (c : Counts). c.subscribes) (counts_deed d b.records) in
    each_more (HasPlacesUpTo m) (HasPlacesUpTo (after d b).records.subscribes) (λ s p. given_more m (after d b).records.subscribes s (omega (arith, le, same)) p) (after d b).records.sessions rest

kept : (d : Deed) (b : Broker) → Keeps b → Brings d b → Keeps (after d b)
kept d b h g = record { ordered = changed_all-ordered (rows_of d b.records) b.records h.ordered; given = given_deed d b h g; differ = apart_deed d b h g }

-- ---- each deed of a step brings such

brings_alone : (who : Whose) (part : Part) (b : Broker) → is_alone part ≡ true → Brings (At who part) b
brings_alone who (Subscribe x) b is = absurd cc
brings_alone who (Resume expiry will) b is = tt
brings_alone who (Close moment) b is = tt
brings_alone who (SetExpiry expiry) b is = tt
brings_alone who DropWill b is = tt
brings_alone who (Unsubscribe filter) b is = tt
brings_alone who (Open id) b is = tt
brings_alone who (Release id) b is = tt
brings_alone who (Enter copy) b is = tt
brings_alone who (Mark place phase) b is = tt
brings_alone who (Leave e ending) b is = tt

-- a number above all places is no place
new_place : (n : ℕ) (ss : List Session) → AllByRecursion (HasPlacesUpTo n) ss → AllByRecursion (λ m. suc n ≢ m) (flat_map places_in ss)
new_place n ss h = each_given birth_of places_in (λ m. suc n ≢ m) ss
    (each_more (HasPlacesUpTo n) (λ s. AllByRecursion (λ m. suc n ≢ m) (places_in s))
    (λ s p. each_map (λ m. suc n ≢ m) place_of s.subscriptions (each_more (λ x. x.place ≤ n) (λ x. suc n ≢ place_of x) (λ x up e. omega (arith, up, e)) s.subscriptions p)) ss h)

granted_own : (r : Records) (text : List ℕ) (s : Session) (o : Option Subscription) → HavePlacesApart r → session_at s.birth r ≡ Some s → find (sub.is_to text) s.subscriptions ≡ o
    → IsOwnPlace (sub.place_of (sub.next_number r) o) s r × (sub.place_of (sub.next_number r) o ≤ sub.next_number r)
granted_own r text s None h there is = (inr (new_place r.subscribes r.sessions h.given), omega arith)
granted_own r text s (Some x) h there is =
    let among = found_among (sub.is_to text) x s.subscriptions is in
    let its = all_at birth_of (HasPlacesUpTo r.subscribes) s.birth s r.sessions h.given there in
    let up = all_up x s.subscriptions its among in
    (inl (place_among x s.subscriptions among), omega (arith, up))
  where
    all_up : (x : Subscription) (xs : List Subscription) → AllByRecursion (λ y. y.place ≤ r.subscribes) xs → IsAmong x xs → x.place ≤ r.subscribes
    all_up x [] h among = absurd among
    all_up x (y ∷ ys) h among = elim among [ inl it ↦ subst (λ (z : Subscription). z.place ≤ r.subscribes) it h.0 | inr more ↦ all_up x ys h.1 more ]

granted_brings : (env : Env) (w : sub.Wish) (s : Session) (b : Broker) → Keeps b → IsGranted env w s b
    → Brings (At (record { birth = s.birth; client = s.client }) (Subscribe (sub.subscription (sub.next_number b.records) s w))) (after (Count (sub.next_number b.records)) b)
granted_brings env w s b h granted =
    let own = granted_own b.records w.filter s (find (sub.is_to w.filter) s.subscriptions) h granted.session refl in (
      (λ t there.
          let same : Some s ≡ Some t = sym granted.session ∙ there in
          let is : s ≡ t = cc in
          subst (λ (u : Session). IsOwnPlace (sub.subscription (sub.next_number b.records) s w).place u b.records) is own.0),
      own.1,
    )

places_law : (env : Env) → DeedLaw env anyone Keeps Brings
places_law env = record {
  finds = finds_anyone Keeps;
  client_stays = λ client d b k g its. tt;
  kept = kept;
  accept = λ origin m b k said. tt;
  keep = λ m b k said is full found. tt;
  forget = λ place b k. tt;
  enter = λ who copy b k made. tt;
  leave = λ who e ending b k. tt;
  refuse_will = λ who b k its. tt;
  open_id = λ s id m ds b k h its there new is. tt;
  alone = λ who part b k its is. brings_alone who part b is;
  close = λ who b k its. tt;
  finish = λ who b k its. tt;
  resume = λ who expiry will b k its. tt;
  name = λ b k. tt;
  begin_given = λ c b k came taken name is room. tt;
  begin_assigned = λ c b k h came taken room. tt;
  count = λ b k. omega arith;
  subscribe = λ w s b k h its granted. granted_brings env w s b k granted;
  link = λ b k. tt;
  on_line = λ line part b k. tt;
  send = λ line packet b k. tt;
  gone = λ line b k. tt;
}

places_mark : MarkLaw Keeps Brings
places_mark who place phase b k = tt

-- ---- a step and an opening

moment_apart : (rows : List Change) (b : Broker) → HavePlacesApart b.records → HavePlacesApart (with_moment rows b).records
moment_apart [] b h = h
moment_apart (row ∷ rows) b h = record { ordered = record { sessions = h.ordered.sessions; each = h.ordered.each; retained = h.ordered.retained }; given = h.given; differ = h.differ }

places_done : (ds : List Deed) (b : Broker) → Keeps (after_all ds b) → HavePlacesApart (done ds b).records
places_done ds b h = moment_apart (rows_of_all ds b.records) (after_all ds b) h

-- behind a step no two retained messages have one place
pub step_places : (limits : Capacity) (choice : MemberChoice) (now : ℕ) (call : Call) (b : Broker) → HavePlacesApart (stored b) → HavePlacesApart (stored (stepped limits choice now call b))
step_places limits choice now call b h =
    let c = at_moment now b in
    let env = env_of limits choice b in
    places_done (deeds limits choice now call b) c ((leads_deeds env Keeps Brings (places_law env) places_mark call c h).1)

-- so it is behind an opening
pub opening_places : (limits : Capacity) (choice : MemberChoice) (now : ℕ) (r : Records) → HavePlacesApart r → HavePlacesApart (stored (opened limits choice now r))
opening_places limits choice now r h =
    let b = unopened now r in
    let env = env_of limits choice b in
    places_done (opening env b) b ((leads_opened env Keeps Brings (places_law env) places_mark b h).1)

-- and of nothing
pub nothing_places : HavePlacesApart nothing
nothing_places = record { ordered = record { sessions = record { ascending = tt; within = omega arith }; each = tt; retained = record { ascending = tt; within = omega arith } }; given = tt; differ = tt }
