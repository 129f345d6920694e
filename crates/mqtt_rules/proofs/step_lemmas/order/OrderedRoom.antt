-- Sessions begin, and messages are retained, only if there is room.
use Rattle.std.proofs.Common.{◌≡◌, ℕ, suc, ◌<◌, ◌≤◌, Bool, true, false, not, ◌&&◌, ◌||◌, List, [], ◌∷◌, ◌++◌, length, filter, map, Option, Some, None, nat_eq, nat_lt, refl, ap, sym, subst, ◌∙◌, arith, inl, inr}
use Rattle.std.specs.Prelude.{⊤, flat_map, find, is_some}
use Rattle.std.proofs.lemmas.Bool.{cases_Bool, ltb-true}
use Rattle.std.proofs.lemmas.Cmp.{nat_eq_equiv}
use Rattle.mqtt_topic.specs.names.Names.{is_empty}
use Rattle.mqtt_flow.specs.outbound.Outbound.{way_made}
use Rattle.mqtt_records.specs.declared.messages.message.MessageCopy.{MessageCopy}
use Rattle.mqtt_records.specs.declared.messages.message.RetainedMessage.{RetainedMessage}
use Rattle.mqtt_records.specs.declared.messages.message.Will.{Will}
use Rattle.mqtt_records.specs.declared.state.session.Session.{Session}
use Rattle.mqtt_records.specs.declared.state.session.Columns.{Columns}
use Rattle.mqtt_records.specs.declared.state.records.Records.{Records}
use Rattle.mqtt_base.specs.declared.limits.TheConstants.{SESSION_LIMIT, RETAINED_LIMIT}
use Rattle.mqtt_records.specs.declared.state.change.Counter.{Counter}
use Rattle.mqtt_records.specs.declared.state.change.Counter.TheVariants.{Births, Publications, Subscribes, Autos, Moment}
use Rattle.mqtt_records.specs.declared.state.change.Change.{Change}
use Rattle.mqtt_records.specs.declared.state.change.Change.TheVariants.{SetCounter, PutSession, SetSession, RemoveSession, PutWill, RemoveWill, PutSubscription, RemoveSubscription, PutInbound, RemoveInbound, PutCopy, SetCopy, RemoveCopy, PutRetained, RemoveRetained}
use Rattle.mqtt_records.specs.lists.Order.{row_at, has_row, insert_row, put_row, change_row}
use Rattle.mqtt_records.specs.state.Session.{birth_of, fresh, with_columns, with_will, with_subscription, without_subscription, with_open, without_open, with_copy, with_phase, without_copy}
use Rattle.mqtt_records.specs.state.Records.{kept_place, with_counter, put_session, changed, changed_all}
use Rattle.mqtt_records.proofs.lists_lemmas.OrderLemmas.{put-ascending}
use Rattle.mqtt_rules.proofs.step_lemmas.acts.Offers.{of_offer_if}
use Rattle.mqtt_rules.specs.step.Fitting.{has_form, offer_copy}
use Rattle.mqtt_rules.specs.step.State.{Broker, Env, stored, session_at, line_of}
use Rattle.mqtt_rules.specs.step.Deeds.{Whose, whose, Message, Origin, Part, Resume, Close, SetExpiry, DropWill, Open, Release, Enter, Mark, Leave, Deed, Accept, Begin, Name, Count, At, Finish, Keep, Forget, RefuseWill, Link, On, Send, Gone, Act, after, after_all, part_rows, part_rows_of, will_row, new_entry, stored_after, then, always, series, of_session, offer}
use Rattle.mqtt_rules.specs.step.Deeds as deed
use Rattle.mqtt_rules.specs.step.Packets.{publish_of}
use Rattle.mqtt_rules.specs.step.Outbound.{leave_deeds, queue_limits, since, enter_deeds, room}
use Rattle.mqtt_rules.specs.step.Routing.{CopyTo, is_topic, retained_of, finds_place, accepted_if, next_publication, accepted_copies, is_queued, deliver_by, deliver, place_of_kept, kept_message, forgets, retain_by, publish}
use Rattle.mqtt_rules.specs.step.Subscribe as sub
use Rattle.mqtt_rules.specs.step.State.{queue_on}
use Rattle.mqtt_records.specs.lists.Order.{IsTable}
use Rattle.mqtt_rules.proofs.step_lemmas.order.Ordered.{length-filter_le, length-change_row, length-insert_row, length-insert_found, filter-table, either}
use Rattle.mqtt_rules.proofs.step_lemmas.order.OrderedActs.{IsPlain, ArePlain, plain_leave, plain_flat, Keeps, both, follows, keeps_series, keeps_map, keeps_of, Keeping, birth_found}
use Rattle.mqtt_rules.proofs.step_lemmas.acts.Leads.{leads_end}
use Rattle.mqtt_rules.proofs.step_lemmas.acts.Acts.{brought_to}

-- ---- all deeds but those that a session begins with, or a retained message is kept with

abbrev pub IsSteady : Deed → Type 0
IsSteady (Begin row will) = ⊥
IsSteady (Keep kept) = ⊥
IsSteady deed = Unit {0}

abbrev pub AreSteady : List Deed → Type 0
AreSteady [] = Unit {0}
AreSteady (d ∷ ds) = IsSteady d × AreSteady ds

steady_append : (xs ys : List Deed) → AreSteady xs → AreSteady ys → AreSteady (xs ++ ys)
steady_append [] ys p q = q
steady_append (x ∷ xs) ys p q = (p.0, steady_append xs ys p.1 q)

steady_one : (d : Deed) → IsPlain d → IsSteady d
steady_one (Begin row will) p = p
steady_one (Keep kept) p = p
steady_one (Accept number origin m) p = tt
steady_one (Name n) p = tt
steady_one (Count n) p = tt
steady_one (At who part) p = tt
steady_one (Finish who) p = tt
steady_one (Forget place) p = tt
steady_one (RefuseWill who) p = tt
steady_one (Link n) p = tt
steady_one (On line part) p = tt
steady_one (Send line packet) p = tt
steady_one (Gone line) p = tt

steady_plain : (ds : List Deed) → ArePlain ds → AreSteady ds
steady_plain [] p = tt
steady_plain (d ∷ ds) p = (steady_one d p.0, steady_plain ds p.1)

-- what a law of the records says of steady deeds, of sessions that begin with room, and of messages that find a place
pub record Roomy (env : Env) (P : Records → Type 0) : Type 0 where
  pub steady : (d : Deed) (r : Records) → IsSteady d → P r → P (stored_after d r)
  pub begin : (row : Columns) (will : Option Will) (r : Records) → length r.sessions < env.limits.sessions → P r → P (stored_after (Begin row will) r)
  pub keep : (number now : ℕ) (m : Message) (r : Records) → m.retain ≡ true → is_empty m.payload ≡ false → finds_place env m r ≡ true → P r
      → P (stored_after (Keep (kept_message number now m (place_of_kept (retained_of m.topic r) r.retained))) r)
  pub moment : (now : ℕ) (r : Records) → P r → P (record r { moment = now })

-- a publication that is accepted found its test met
pub accepted : (t : Bool) (o : Option (List CopyTo)) (ds : List CopyTo) → accepted_if t o ≡ Some ds → t ≡ true
accepted true o ds is = refl
accepted false o ds is = absurd cc

module _ (env : Env) (P : Records → Type 0) (k : Roomy env P) where
  steadies : (ds : List Deed) (b : Broker) → AreSteady ds → P b.records → P (stored (after_all ds b))
  steadies [] b q p = p
  steadies (d ∷ ds) b q p = steadies ds (after d b) q.1 (k.steady d b.records q.0 p)

  steady_always : (ds : List Deed) → AreSteady ds → Keeps P (always ds)
  steady_always ds q b p = steadies ds b q p

  enters : (copy : MessageCopy) (s : Session) → AreSteady (enter_deeds env copy s)
  enters copy s =
      let ts = way_made (queue_limits env) (since env s) (queue_on [] s) in
      steady_append (flat_map (leave_deeds s) ts) (At (whose s) (Enter copy) ∷ []) (steady_plain (flat_map (leave_deeds s) ts) (plain_flat (leave_deeds s) (plain_leave s) ts)) (tt, tt)

  delivers_by : (t : Bool) (d : CopyTo) → Keeps P (deliver_by t env d)
  delivers_by true d b p = keeps_of P d.birth (λ s. always (enter_deeds env d.copy s)) (λ s. steady_always (enter_deeds env d.copy s) (enters d.copy s)) b p
  delivers_by false d b p =
      let packet = publish_of b.now false 0 d.copy in
      let ds = offer_copy (line_of d.birth b) d.copy b in
      steadies ds b (steady_plain ds (of_offer_if (λ (ds : List Deed). ArePlain ds) (has_form d.copy b) (line_of d.birth b) packet tt (λ l there. (tt, tt)))) p

  delivers : (d : CopyTo) → Keeps P (deliver env d)
  delivers d b p = delivers_by (is_queued d) d b p

  forgets_steady : (o : Option RetainedMessage) → AreSteady (forgets o)
  forgets_steady None = tt
  forgets_steady (Some x) = (tt, tt)

  retains : (t e : Bool) (number : ℕ) (m : Message) (b : Broker) → m.retain ≡ t → is_empty m.payload ≡ e → finds_place env m b.records ≡ true → P b.records → P (stored (after_all (retain_by t e number m b) b))
  retains false e number m b is empty found p = p
  retains true true number m b is empty found p = steadies (forgets (retained_of m.topic b.records)) b (forgets_steady (retained_of m.topic b.records)) p
  retains true false number m b is empty found p = k.keep number b.now m b.records is empty found p

  publishes : (origin : Origin) (m : Message) (ds : List CopyTo) (b : Broker) → accepted_copies env m b ≡ Some ds → P b.records → P (stored (after_all (publish env origin m ds b) b))
  publishes origin m ds b is p =
      let number = next_publication b.records in
      let first : List Deed = Accept number origin m ∷ [] in
      let c = after_all first b in
      let found : finds_place env m b.records ≡ true = accepted (finds_place env m b.records) _ ds is in
      both P first (series (retain_by m.retain (is_empty m.payload) number m ∷ map (deliver env) ds) c) b
      (follows P (retain_by m.retain (is_empty m.payload) number m c) (series (map (deliver env) ds)) c
      (retains m.retain (is_empty m.payload) number m c refl refl found (k.steady (Accept number origin m) b.records tt p))
      (keeps_series P (map (deliver env) ds) (keeps_map P (deliver env) delivers ds)))

  -- a law that says so much is one of all deeds
  pub roomy_keeps : Keeping env P (λ d b. ⊤)
  roomy_keeps = record {
    plain = λ d r q p. k.steady d r (steady_one d q) p;
    good = λ d b q p. tt;
    born = λ row will b p. tt;
    begin = k.begin;
    publish = λ origin m ds b is p. leads_end (λ c. P c.records) (publish env origin m ds b) b (publishes origin m ds b is p);
    grants = λ w s b at fits p.
        let number = sub.next_number b.records in
        let ds = filter is_queued (brought_to w s b) in
        let first : List Deed = Count number ∷ At (whose s) (deed.Subscribe (sub.subscription number s w)) ∷ [] in
        leads_end (λ c. P c.records) (sub.granted_filter env number s w (brought_to w s b) b).deeds b (keeps_series P (always first ∷ map (deliver env) ds) (steady_always first (tt, (tt, tt)), keeps_map P (deliver env) delivers ds) b p);
    moment = k.moment;
  }

-- ---- how many sessions there are

-- no session is new
abbrev IsOldSession : Change → Records → Type 0
IsOldSession (PutSession row) r = has_row birth_of row.birth r.sessions ≡ true
IsOldSession change r = Unit {0}

counter_sessions : (counter : Counter) (value : ℕ) (r : Records) → (with_counter counter value r).sessions ≡ r.sessions
counter_sessions Births value r = refl
counter_sessions Publications value r = refl
counter_sessions Subscribes value r = refl
counter_sessions Autos value r = refl
counter_sessions Moment value r = refl

session_stays : (change : Change) (r : Records) → IsOldSession change r → length (changed change r).sessions ≤ length r.sessions
session_stays (SetCounter counter value) r old = let same = ap length (counter_sessions counter value r) in omega (arith, same)
session_stays (PutSession row) r old = let same = length-change_row birth_of row.birth (with_columns row) r.sessions in rw old (omega (arith, same))
session_stays (SetSession row) r old = let same = length-change_row birth_of row.birth (with_columns row) r.sessions in omega (arith, same)
session_stays (RemoveSession birth) r old = length-filter_le (λ s. not (nat_eq (birth_of s) birth)) r.sessions
session_stays (PutWill birth will) r old = let same = length-change_row birth_of birth (with_will (Some will)) r.sessions in omega (arith, same)
session_stays (RemoveWill birth) r old = let same = length-change_row birth_of birth (with_will None) r.sessions in omega (arith, same)
session_stays (PutSubscription birth s) r old = let same = length-change_row birth_of birth (with_subscription s) r.sessions in omega (arith, same)
session_stays (RemoveSubscription birth text) r old = let same = length-change_row birth_of birth (without_subscription text) r.sessions in omega (arith, same)
session_stays (PutInbound birth id) r old = let same = length-change_row birth_of birth (with_open id) r.sessions in omega (arith, same)
session_stays (RemoveInbound birth id) r old = let same = length-change_row birth_of birth (without_open id) r.sessions in omega (arith, same)
session_stays (PutCopy birth e) r old = let same = length-change_row birth_of birth (with_copy e) r.sessions in omega (arith, same)
session_stays (SetCopy birth place phase) r old = let same = length-change_row birth_of birth (with_phase place phase) r.sessions in omega (arith, same)
session_stays (RemoveCopy birth place) r old = let same = length-change_row birth_of birth (without_copy place) r.sessions in omega (arith, same)
session_stays (PutRetained kept) r old = omega arith
session_stays (RemoveRetained place) r old = omega arith

will_stays : (birth : ℕ) (will : Option Will) (r : Records) → length (changed (will_row birth will) r).sessions ≤ length r.sessions
will_stays birth None r = session_stays (RemoveWill birth) r tt
will_stays birth (Some will) r = session_stays (PutWill birth will) r tt

part_stays : (part : Part) (s : Session) (r : Records) → has_row birth_of s.birth r.sessions ≡ true → length (changed_all (part_rows part s) r).sessions ≤ length r.sessions
part_stays (Resume expiry will) s r old =
    let row : Columns = record { birth = s.birth; client = s.client; expiry = expiry; closed = None } in
    let first = session_stays (SetSession row) r tt in
    let then_will = will_stays s.birth will (changed (SetSession row) r) in
    omega (arith, first, then_will)
part_stays (Close moment) s r old = session_stays (SetSession (record { birth = s.birth; client = s.client; expiry = s.expiry; closed = Some moment })) r tt
part_stays (SetExpiry expiry) s r old = session_stays (SetSession (record { birth = s.birth; client = s.client; expiry = expiry; closed = s.closed })) r tt
part_stays DropWill s r old = session_stays (RemoveWill s.birth) r tt
part_stays (deed.Subscribe x) s r old = session_stays (PutSubscription s.birth x) r tt
part_stays (deed.Unsubscribe text) s r old = session_stays (RemoveSubscription s.birth text) r tt
part_stays (Open id) s r old = session_stays (PutInbound s.birth id) r tt
part_stays (Release id) s r old = session_stays (RemoveInbound s.birth id) r tt
part_stays (Enter copy) s r old = session_stays (PutCopy s.birth (new_entry copy s.queue)) r tt
part_stays (Mark place phase) s r old = session_stays (SetCopy s.birth place phase) r tt
part_stays (Leave e ending) s r old = session_stays (RemoveCopy s.birth e.place) r tt

-- a session found by its birth is among those that stand
pub found_there : (birth : ℕ) (ss : List Session) (s : Session) → row_at birth_of birth ss ≡ Some s → has_row birth_of s.birth ss ≡ true
found_there birth ss s found = ap is_some (ap (λ n. row_at birth_of n ss) (birth_found birth ss s found) ∙ found)

at_stays : (birth : ℕ) (part : Part) (r : Records) (o : Option Session) → session_at birth r ≡ o → length (changed_all (part_rows_of part o) r).sessions ≤ length r.sessions
at_stays birth part r None is = omega arith
at_stays birth part r (Some s) is = part_stays part s r (found_there birth r.sessions s is)

deed_stays : (d : Deed) (r : Records) → IsSteady d → length (stored_after d r).sessions ≤ length r.sessions
deed_stays (Accept number origin m) r q = omega arith
deed_stays (Name n) r q = omega arith
deed_stays (Count n) r q = omega arith
deed_stays (At who part) r q = at_stays who.birth part r (session_at who.birth r) refl
deed_stays (Finish who) r q = session_stays (RemoveSession who.birth) r tt
deed_stays (Forget place) r q = omega arith
deed_stays (RefuseWill who) r q = omega arith
deed_stays (Link n) r q = omega arith
deed_stays (On line part) r q = omega arith
deed_stays (Send line packet) r q = omega arith
deed_stays (Gone line) r q = omega arith
deed_stays (Begin row will) r q = absurd q
deed_stays (Keep kept) r q = absurd q

module _ {X : Type 0} (key : X → ℕ) where
  -- a row that is put makes one more at most
  pub length-put_row_suc : (limit : ℕ) (row : X) (xs : List X) → length (put_row key limit row xs) ≤ suc (length xs)
  length-put_row_suc limit row xs =
      either (λ (ys : List X). length ys ≤ suc (length xs)) (has_row key (key row) xs || nat_lt (length xs) limit) (insert_row key row xs) xs
      (length-insert_row key row xs) (omega arith)

one_more : (row : Columns) (ss : List Session) → length (put_session row ss) ≤ suc (length ss)
one_more row ss =
    let same = length-change_row birth_of row.birth (with_columns row) ss in
    either (λ (ts : List Session). length ts ≤ suc (length ss)) (has_row birth_of row.birth ss)
    (change_row birth_of row.birth (with_columns row) ss)
    (put_row birth_of SESSION_LIMIT (fresh row) ss)
    (omega (arith, same)) (length-put_row_suc birth_of SESSION_LIMIT (fresh row) ss)

begin_more : (row : Columns) (will : Option Will) (r : Records) → length (stored_after (Begin row will) r).sessions ≤ suc (length r.sessions)
begin_more row None r = one_more row r.sessions
begin_more row (Some will) r =
    let first = one_more row r.sessions in
    let same = length-change_row birth_of row.birth (with_will (Some will)) (put_session row r.sessions) in
    omega (arith, first, same)

abbrev pub FewSessions : Env → Records → Type 0
FewSessions env r = length r.sessions ≤ env.limits.sessions

sessions_roomy : (env : Env) → Roomy env (FewSessions env)
sessions_roomy env = record {
  steady = λ d r q p. let stays = deed_stays d r q in omega (arith, stays, p);
  begin = λ row will r room p. let more = begin_more row will r in omega (arith, more, room);
  keep = λ number now m r is full found p. p;
  moment = λ now r p. p;
}

-- every deed keeps the sessions within the broker's limit
pub sessions_keeping : (env : Env) → Keeping env (FewSessions env) (λ d b. ⊤)
sessions_keeping env = roomy_keeps env (FewSessions env) (sessions_roomy env)

-- ---- how many retained messages there are

counter_retained : (counter : Counter) (value : ℕ) (r : Records) → (with_counter counter value r).retained ≡ r.retained
counter_retained Births value r = refl
counter_retained Publications value r = refl
counter_retained Subscribes value r = refl
counter_retained Autos value r = refl
counter_retained Moment value r = refl

will_retained : (birth : ℕ) (will : Option Will) (r : Records) → (changed (will_row birth will) r).retained ≡ r.retained
will_retained birth None r = refl
will_retained birth (Some will) r = refl

part_retained : (part : Part) (s : Session) (r : Records) → (changed_all (part_rows part s) r).retained ≡ r.retained
part_retained (Resume expiry will) s r = will_retained s.birth will _
part_retained (Close moment) s r = refl
part_retained (SetExpiry expiry) s r = refl
part_retained DropWill s r = refl
part_retained (deed.Subscribe x) s r = refl
part_retained (deed.Unsubscribe text) s r = refl
part_retained (Open id) s r = refl
part_retained (Release id) s r = refl
part_retained (Enter copy) s r = refl
part_retained (Mark place phase) s r = refl
part_retained (Leave e ending) s r = refl

-- a part of a session has nothing to do with retained messages
pub at_retained : (part : Part) (r : Records) (o : Option Session) → (changed_all (part_rows_of part o) r).retained ≡ r.retained
at_retained part r None = refl
at_retained part r (Some s) = part_retained part s r

-- nor has the beginning of a session
pub begin_retained : (row : Columns) (will : Option Will) (r : Records) → (stored_after (Begin row will) r).retained ≡ r.retained
begin_retained row None r = refl
begin_retained row (Some will) r = refl

abbrev pub FewKept : Env → List RetainedMessage → Type 0
FewKept env kept = IsTable kept_place env.limits.retained kept

abbrev pub FewRetained : Env → Records → Type 0
FewRetained env r = FewKept env r.retained

deed_retains : (env : Env) (d : Deed) (r : Records) → IsSteady d → FewKept env r.retained → FewKept env (stored_after d r).retained
deed_retains env (Accept number origin m) r q h = h
deed_retains env (Name n) r q h = h
deed_retains env (Count n) r q h = h
deed_retains env (At who part) r q h = subst (FewKept env) (sym (at_retained part r (session_at who.birth r))) h
deed_retains env (Finish who) r q h = h
deed_retains env (Forget place) r q h = filter-table kept_place env.limits.retained (λ x. not (nat_eq (kept_place x) place)) r.retained h
deed_retains env (RefuseWill who) r q h = h
deed_retains env (Link n) r q h = h
deed_retains env (On line part) r q h = h
deed_retains env (Send line packet) r q h = h
deed_retains env (Gone line) r q h = h
deed_retains env (Begin row will) r q h = absurd q
deed_retains env (Keep kept) r q h = absurd q

-- what a search finds stands under its key
kept_there : (test : RetainedMessage → Bool) (xs : List RetainedMessage) (x : RetainedMessage) → find test xs ≡ Some x → has_row kept_place x.place xs ≡ true
kept_there test [] x found = absurd cc
kept_there test (y ∷ ys) x found = elim (cases_Bool (test y)) [
  | inl here ↦
      let first : Some y ≡ Some x = rw here at found in
      let it : y ≡ x = cc in
      let same : nat_eq (kept_place y) x.place ≡ true = ap (λ z. nat_eq (kept_place y) (kept_place z)) (sym it) ∙ nat_eq_equiv.refl (kept_place y) in
      rw same refl
  | inr other ↦
      let rest = kept_there test ys x (rw other at found) in
      either (λ (o : Option RetainedMessage). is_some o ≡ true) (nat_eq (kept_place y) x.place) (Some y) (row_at kept_place x.place ys) refl rest
]

-- in the place of the one before it, or where there is room
put_within : (env : Env) (kept : RetainedMessage) (xs : List RetainedMessage) → FewKept env xs → (has_row kept_place kept.place xs || nat_lt (length xs) env.limits.retained) ≡ true
    → FewKept env (put_row kept_place RETAINED_LIMIT kept xs)
put_within env kept xs h room = record {
  ascending = put-ascending kept_place RETAINED_LIMIT kept xs h.ascending;
  within = elim (cases_Bool (has_row kept_place kept.place xs)) [
    | inl there ↦
        let same = length-insert_found kept_place kept xs h.ascending there in
        let le = h.within in
        rw there (omega (arith, same, le))
    | inr new ↦
        let free : nat_lt (length xs) env.limits.retained ≡ true = rw new at room in
        let less : length xs < env.limits.retained = ltb-true (length xs) env.limits.retained free in
        let more = length-put_row_suc kept_place RETAINED_LIMIT kept xs in
        omega (arith, less, more)
  ];
}

either_is : (x y : Bool) → y ≡ true → (x || y) ≡ true
either_is true y h = refl
either_is false y h = h

-- a retained message takes the place of its topic's, or there is room for one more
pub place_is_fit : (env : Env) (m : Message) (number now : ℕ) (r : Records) (o : Option RetainedMessage) → retained_of m.topic r ≡ o
    → (is_some o || nat_lt (length r.retained) env.limits.retained) ≡ true
    → (has_row kept_place (kept_message number now m (place_of_kept o r.retained)).place r.retained || nat_lt (length r.retained) env.limits.retained) ≡ true
place_is_fit env m number now r None is fits = either_is (has_row kept_place (place_of_kept None r.retained) r.retained) (nat_lt (length r.retained) env.limits.retained) fits
place_is_fit env m number now r (Some x) is fits =
    let there : has_row kept_place x.place r.retained ≡ true = kept_there (is_topic m.topic) r.retained x is in
    rw there refl

-- one of two ways is left if the first is not open
pub found_place : (t e : Bool) (rest : Bool) → t ≡ true → e ≡ false → (not (t && not e) || rest) ≡ true → rest ≡ true
found_place true false rest is empty h = h
found_place true true rest is empty h = absurd cc
found_place false e rest is empty h = absurd cc

retained_roomy : (env : Env) → Roomy env (FewRetained env)
retained_roomy env = record {
  steady = λ d r q p. deed_retains env d r q p;
  begin = λ row will r room p. subst (FewKept env) (sym (begin_retained row will r)) p;
  keep = λ number now m r is full found p.
      let fits = found_place m.retain (is_empty m.payload) (is_some (retained_of m.topic r) || nat_lt (length r.retained) env.limits.retained) is full found in
      put_within env (kept_message number now m (place_of_kept (retained_of m.topic r) r.retained)) r.retained p
      (place_is_fit env m number now r (retained_of m.topic r) refl fits);
  moment = λ now r p. p;
}

-- every deed keeps the retained messages within the broker's limit
pub retained_keeping : (env : Env) → Keeping env (FewRetained env) (λ d b. ⊤)
retained_keeping env = roomy_keeps env (FewRetained env) (retained_roomy env)
