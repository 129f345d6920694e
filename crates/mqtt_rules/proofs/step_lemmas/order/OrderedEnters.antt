-- No queue outgrows its limit: every deed but an entering keeps that, and a copy enters if there is room.
use Rattle.std.proofs.Common.{◌≡◌, ℕ, suc, ◌+◌, ◌-◌, ◌<◌, ◌≤◌, Bool, true, false, cond, not, List, [], ◌∷◌, ◌++◌, length, map, Option, Some, None, nat_eq, refl, ap, sym, subst, ◌∙◌, arith, inl, inr}
use Rattle.std.specs.Prelude.{⊤, flat_map, is_some}
use Rattle.std.specs.List.{AllByRecursion}
use Rattle.std.proofs.lemmas.Bool.{cases_Bool, eqb-true, lt-ltb}
use Rattle.mqtt_flow.specs.declared.outbound.entry.Turn.{Turn}
use Rattle.mqtt_flow.specs.declared.outbound.entry.Turn.TheVariants as turns
use Rattle.mqtt_flow.specs.outbound.Outbound.{staying, way_made, has_room}
use Rattle.mqtt_flow.specs.outbound.Queue as flow
use Rattle.mqtt_flow.proofs.outbound_lemmas.outbound.Room.{below_limit}
use Rattle.mqtt_base.specs.declared.session.Ending.{Ending}
use Rattle.mqtt_records.specs.declared.messages.message.MessageCopy.{MessageCopy}
use Rattle.mqtt_records.specs.declared.messages.message.Will.{Will}
use Rattle.mqtt_records.specs.messages.Queue.{CopyRow}
use Rattle.mqtt_base.specs.declared.limits.TheConstants.{QUEUE_LIMIT, SESSION_LIMIT}
use Rattle.mqtt_records.specs.declared.state.session.Session.{Session}
use Rattle.mqtt_records.specs.declared.state.session.Columns.{Columns}
use Rattle.mqtt_records.specs.declared.state.records.Records.{Records}
use Rattle.mqtt_records.specs.declared.state.change.Counter.{Counter}
use Rattle.mqtt_records.specs.declared.state.change.Counter.TheVariants.{Births, Publications, Subscribes, Autos, Moment}
use Rattle.mqtt_records.specs.declared.state.change.Change.{Change}
use Rattle.mqtt_records.specs.declared.state.change.Change.TheVariants.{SetCounter, PutSession, SetSession, RemoveSession, PutWill, RemoveWill, PutSubscription, RemoveSubscription, PutInbound, RemoveInbound, PutCopy, SetCopy, RemoveCopy, PutRetained, RemoveRetained}
use Rattle.mqtt_records.specs.lists.Order.{IsAbove, IsAscending, row_at, has_row, put_row, remove_row, change_row}
use Rattle.mqtt_records.specs.state.Session.{birth_of, copy_place, fresh, with_columns, with_will, with_subscription, without_subscription, with_open, without_open, with_copy, in_phase, with_phase, without_copy}
use Rattle.mqtt_records.specs.state.Records.{with_counter, changed, changed_all}
use Rattle.mqtt_records.proofs.lists_lemmas.LookUps.{put_row-last}
use Rattle.mqtt_rules.specs.step.State.{Broker, Env, stored, session_at, entry_on, queue_on, next_of}
use Rattle.mqtt_rules.specs.step.Deeds.{Whose, whose, Message, Origin, Part, Resume, Close, SetExpiry, DropWill, Open, Release, Enter, Mark, Leave, Deed, Accept, Begin, Name, Count, At, Finish, Keep, Forget, RefuseWill, Link, On, Send, Gone, Act, after, after_all, rows_of, part_rows, part_rows_of, will_row, begin_rows, new_entry, stored_after, then, always, series, of_session, offer}
use Rattle.mqtt_rules.specs.step.Deeds as deed
use Rattle.mqtt_rules.specs.step.Outbound.{of_entry, leave_deeds, is_new, since, queue_limits, enter_deeds}
use Rattle.mqtt_rules.specs.step.Laws.{HasTables, IsOrdered}
use Rattle.mqtt_rules.proofs.step_lemmas.order.Ordered.{length-filter_le, length-change_row, all-filter, all-change_row, all-put_row, either, changed_all-ordered}
use Rattle.mqtt_rules.proofs.step_lemmas.acts.Goods.{after_append, AreGood, good_append, good_flat, good_of_entry}
use Rattle.mqtt_rules.proofs.step_lemmas.order.OrderedActs.{IsPlainPart, IsPlain, ArePlain, plain_leave, plain_flat, birth_found}
use Rattle.mqtt_rules.proofs.step_lemmas.order.OrderedQueues.{length-mapped, stay, stay_is, leaving, GivesWay, dropped_gives, leaving_flow, first_place, stay_more, below_own, length-append_one}

-- ---- a row found and changed

module _ {X : Type 0} (key : X → ℕ) where
  -- a changed row is found changed by its key
  pub change_here : (k : ℕ) (f : X → X) (xs : List X) (x : X) → ((y : X) → key (f y) ≡ key y) → row_at key k xs ≡ Some x → row_at key k (change_row key k f xs) ≡ Some (f x)
  change_here k f [] x kept found = absurd cc
  change_here k f (y ∷ ys) x kept found = elim (cases_Bool (nat_eq (key y) k)) [
    | inl same ↦
        let first : Some y ≡ Some x = rw same at found in
        let it : y ≡ x = cc in
        let again : nat_eq (key (f y)) k ≡ true = ap (λ n. nat_eq n k) (kept y) ∙ same in
        rw (same, again) (ap (λ z. Some (f z)) it)
    | inr other ↦ rw (other, other) (change_here k f ys x kept (rw other at found))
  ]

  -- a changed row leaves what other keys find
  pub change_other : (j k : ℕ) (f : X → X) (xs : List X) → ((y : X) → key (f y) ≡ key y) → nat_eq j k ≡ false → row_at key k (change_row key j f xs) ≡ row_at key k xs
  change_other j k f [] kept differ = refl
  change_other j k f (y ∷ ys) kept differ = elim (cases_Bool (nat_eq (key y) j)) [
    | inl same ↦
        let is : key y ≡ j = eqb-true (key y) j same in
        let not_k : nat_eq (key y) k ≡ false = ap (λ n. nat_eq n k) is ∙ differ in
        let not_after : nat_eq (key (f y)) k ≡ false = ap (λ n. nat_eq n k) (kept y) ∙ not_k in
        rw (same, not_k, not_after) refl
    | inr other ↦ rw other (ap (λ (o : Option X). cond (nat_eq (key y) k) (Some y) o) (change_other j k f ys kept differ))
  ]

  -- what holds of each row holds of the one that is found
  pub all_found : (P : X → Type 0) (k : ℕ) (xs : List X) (x : X) → AllByRecursion P xs → row_at key k xs ≡ Some x → P x
  all_found P k [] x all found = absurd cc
  all_found P k (y ∷ ys) x all found = elim (cases_Bool (nat_eq (key y) k)) [
    | inl same ↦
        let first : Some y ≡ Some x = rw same at found in
        let it : y ≡ x = cc in
        subst P it all.0
    | inr other ↦ all_found P k ys x all.1 (rw other at found)
  ]

  all_changed : (P : X → Type 0) (k : ℕ) (f : X → X) (xs : List X) → ((x : X) → row_at key k xs ≡ Some x → P (f x)) → AllByRecursion P xs → AllByRecursion P (change_row key k f xs)
  all_changed P k f [] h all = tt
  all_changed P k f (y ∷ ys) h all = elim (cases_Bool (nat_eq (key y) k)) [
    | inl same ↦ rw same (h y (rw same refl), all.1)
    | inr other ↦ rw other (all.0, all_changed P k f ys (λ x found. h x (rw other found)) all.1)
  ]

-- ---- rows that let no queue grow

abbrev pub IsShort : ℕ → Session → Type 0
IsShort limit s = length s.queue ≤ limit

abbrev pub AreShort : ℕ → List Session → Type 0
AreShort limit ss = AllByRecursion (IsShort limit) ss

abbrev IsOther : Change → Type 0
IsOther (PutCopy birth e) = ⊥
IsOther change = Unit {0}

abbrev AreOther : List Change → Type 0
AreOther [] = Unit {0}
AreOther (change ∷ changes) = IsOther change × AreOther changes

counter_short : (limit : ℕ) (counter : Counter) (value : ℕ) (r : Records) → AreShort limit r.sessions → AreShort limit (with_counter counter value r).sessions
counter_short limit Births value r h = h
counter_short limit Publications value r h = h
counter_short limit Subscribes value r h = h
counter_short limit Autos value r h = h
counter_short limit Moment value r h = h

change_short : (limit : ℕ) (change : Change) (r : Records) → IsOther change → AreShort limit r.sessions → AreShort limit (changed change r).sessions
change_short limit (SetCounter counter value) r q h = counter_short limit counter value r h
change_short limit (PutSession row) r q h = either (AreShort limit) (has_row birth_of row.birth r.sessions)
    (change_row birth_of row.birth (with_columns row) r.sessions)
    (put_row birth_of SESSION_LIMIT (fresh row) r.sessions)
    (all-change_row birth_of (IsShort limit) row.birth (with_columns row) r.sessions (λ s p. p) h)
    (all-put_row birth_of (IsShort limit) SESSION_LIMIT (fresh row) r.sessions (omega arith) h)
change_short limit (SetSession row) r q h = all-change_row birth_of (IsShort limit) row.birth (with_columns row) r.sessions (λ s p. p) h
change_short limit (RemoveSession birth) r q h = all-filter (IsShort limit) (λ s. not (nat_eq (birth_of s) birth)) r.sessions h
change_short limit (PutWill birth will) r q h = all-change_row birth_of (IsShort limit) birth (with_will (Some will)) r.sessions (λ s p. p) h
change_short limit (RemoveWill birth) r q h = all-change_row birth_of (IsShort limit) birth (with_will None) r.sessions (λ s p. p) h
change_short limit (PutSubscription birth x) r q h = all-change_row birth_of (IsShort limit) birth (with_subscription x) r.sessions (λ s p. p) h
change_short limit (RemoveSubscription birth text) r q h = all-change_row birth_of (IsShort limit) birth (without_subscription text) r.sessions (λ s p. p) h
change_short limit (PutInbound birth id) r q h = all-change_row birth_of (IsShort limit) birth (with_open id) r.sessions (λ s p. p) h
change_short limit (RemoveInbound birth id) r q h = all-change_row birth_of (IsShort limit) birth (without_open id) r.sessions (λ s p. p) h
change_short limit (PutCopy birth e) r q h = absurd q
change_short limit (SetCopy birth place phase) r q h = all-change_row birth_of (IsShort limit) birth (with_phase place phase) r.sessions
    (λ s p. let same = length-change_row copy_place place (in_phase phase) s.queue in omega (arith, same, p)) h
change_short limit (RemoveCopy birth place) r q h = all-change_row birth_of (IsShort limit) birth (without_copy place) r.sessions
    (λ s p. let less = length-filter_le (λ e. not (nat_eq (copy_place e) place)) s.queue in omega (arith, less, p)) h
change_short limit (PutRetained kept) r q h = h
change_short limit (RemoveRetained place) r q h = h

changes_short : (limit : ℕ) (changes : List Change) (r : Records) → AreOther changes → AreShort limit r.sessions → AreShort limit (changed_all changes r).sessions
changes_short limit [] r q h = h
changes_short limit (change ∷ changes) r q h = changes_short limit changes (changed change r) q.1 (change_short limit change r q.0 h)

will_other : (birth : ℕ) (will : Option Will) → IsOther (will_row birth will)
will_other birth None = tt
will_other birth (Some will) = tt

part_other : (part : Part) (s : Session) → IsPlainPart part → AreOther (part_rows part s)
part_other (Resume expiry will) s q = (tt, (will_other s.birth will, tt))
part_other (Close moment) s q = (tt, tt)
part_other (SetExpiry expiry) s q = (tt, tt)
part_other DropWill s q = (tt, tt)
part_other (deed.Subscribe x) s q = (tt, tt)
part_other (deed.Unsubscribe text) s q = (tt, tt)
part_other (Open id) s q = (tt, tt)
part_other (Release id) s q = (tt, tt)
part_other (Enter copy) s q = absurd q
part_other (Mark place phase) s q = (tt, tt)
part_other (Leave e ending) s q = (tt, tt)

at_other : (part : Part) (o : Option Session) → IsPlainPart part → AreOther (part_rows_of part o)
at_other part None q = tt
at_other part (Some s) q = part_other part s q

-- all deeds but an entering
abbrev pub IsStill : Deed → Type 0
IsStill (At who part) = IsPlainPart part
IsStill deed = Unit {0}

begin_other : (row : Columns) (will : Option Will) → AreOther (begin_rows row will)
begin_other row None = (tt, (tt, tt))
begin_other row (Some will) = (tt, (tt, (tt, tt)))

deed_other : (d : Deed) (r : Records) → IsStill d → AreOther (rows_of d r)
deed_other (Accept number origin m) r q = (tt, tt)
deed_other (Begin row will) r q = begin_other row will
deed_other (Name n) r q = (tt, tt)
deed_other (Count n) r q = (tt, tt)
deed_other (At who part) r q = at_other part (session_at who.birth r) q
deed_other (Finish who) r q = (tt, tt)
deed_other (Keep kept) r q = (tt, tt)
deed_other (Forget place) r q = (tt, tt)
deed_other (RefuseWill who) r q = tt
deed_other (Link n) r q = tt
deed_other (On line part) r q = tt
deed_other (Send line packet) r q = tt
deed_other (Gone line) r q = tt

-- a plain deed makes no queue longer
pub still_one : (d : Deed) → IsPlain d → IsStill d
still_one (At who part) p = p
still_one (Begin row will) p = tt
still_one (Keep kept) p = tt
still_one (Accept number origin m) p = tt
still_one (Name n) p = tt
still_one (Count n) p = tt
still_one (Finish who) p = tt
still_one (Forget place) p = tt
still_one (RefuseWill who) p = tt
still_one (Link n) p = tt
still_one (On line part) p = tt
still_one (Send line packet) p = tt
still_one (Gone line) p = tt

-- ---- tables in order, and no queue above its limit

-- the tables are in order, and no queue is longer than the limit
pub record ShortQueues (limit : ℕ) (r : Records) : Type 0 where
  pub ordered : IsOrdered r
  pub short : AreShort limit r.sessions

-- a deed that makes no queue longer keeps all within a limit
pub still_short : (limit : ℕ) (d : Deed) (r : Records) → IsStill d → ShortQueues limit r → ShortQueues limit (stored_after d r)
still_short limit d r q h = record {
  ordered = changed_all-ordered (rows_of d r) r h.ordered;
  short = changes_short limit (rows_of d r) r (deed_other d r q) h.short;
}

-- plain deeds keep all queues within a limit
pub plain_short : (limit : ℕ) (ds : List Deed) (b : Broker) → ArePlain ds → ShortQueues limit b.records → ShortQueues limit (stored (after_all ds b))
plain_short limit [] b q h = h
plain_short limit (d ∷ ds) b q h = plain_short limit ds (after d b) q.1 (still_short limit d b.records (still_one d q.0) h)

-- ---- the copies that give way leave

record Left (birth : ℕ) (q : List CopyRow) (ss new : List Session) : Type 0 where
  mine : Session
  found : row_at birth_of birth new ≡ Some mine
  queue : mine.queue ≡ q
  others : (other : ℕ) → nat_eq birth other ≡ false → row_at birth_of other new ≡ row_at birth_of other ss

-- one leaves
pub leave_found : (s now : Session) (place : ℕ) (ending : Ending) (b : Broker) (o : Option CopyRow) → row_at copy_place place s.queue ≡ o → is_some o ≡ true → session_at s.birth b.records ≡ Some now
    → (stored (after_all (of_entry o (λ e. At (whose s) (Leave e ending) ∷ [])) b)).sessions ≡ change_row birth_of s.birth (without_copy place) b.records.sessions
leave_found s now place ending b None is there found = absurd cc
leave_found s now place ending b (Some e) is there found =
    let here : e.place ≡ place = place_found place s.queue e is in
    let mine : now.birth ≡ s.birth = birth_found s.birth b.records.sessions now found in
    ap (λ (o : Option Session). (changed_all (part_rows_of (Leave e ending) o) b.records).sessions) found
    ∙ ap (λ (n : ℕ). change_row birth_of n (without_copy e.place) b.records.sessions) mine
    ∙ ap (λ (n : ℕ). change_row birth_of s.birth (without_copy n) b.records.sessions) here
  where
    place_found : (place : ℕ) (q : List CopyRow) (e : CopyRow) → row_at copy_place place q ≡ Some e → e.place ≡ place
    place_found place [] e found = absurd cc
    place_found place (x ∷ xs) e found = elim (cases_Bool (nat_eq (copy_place x) place)) [
      | inl same ↦
          let first : Some x ≡ Some e = rw same at found in
          let it : x ≡ e = cc in
          ap copy_place (sym it) ∙ eqb-true (copy_place x) place same
      | inr other ↦ place_found place xs e (rw other at found)
    ]

leaves : (first : ℕ) (s : Session) (ts : List Turn) (now : Session) (b : Broker) → AllByRecursion (GivesWay first s.queue) ts → session_at s.birth b.records ≡ Some now
    → Left s.birth (leaving ts now.queue) b.records.sessions (stored (after_all (flat_map (leave_deeds s) ts) b)).sessions
leaves first s [] now b all found = record { mine = now; found = found; queue = refl; others = λ other differ. refl }
leaves first s (turns.Leave place ending ∷ ts) now b all found =
    let ds = leave_deeds s (turns.Leave place ending) in
    let c = after_all ds b in
    let is : c.records.sessions ≡ change_row birth_of s.birth (without_copy place) b.records.sessions
    = leave_found s now place ending b (row_at copy_place place s.queue) refl all.0.0 found
    in
    let next : session_at s.birth c.records ≡ Some (without_copy place now)
    = ap (row_at birth_of s.birth) is ∙ change_here birth_of s.birth (without_copy place) b.records.sessions now (λ x. refl) found
    in
    let rest = leaves first s ts (without_copy place now) c all.1 next in
    let joined : Left s.birth (leaving ts (remove_row copy_place place now.queue)) b.records.sessions (stored (after_all (flat_map (leave_deeds s) ts) c)).sessions = record {
      mine = rest.mine;
      found = rest.found;
      queue = rest.queue;
      others = λ other differ. rest.others other differ ∙ ap (row_at birth_of other) is ∙ change_other birth_of s.birth other (without_copy place) b.records.sessions (λ x. refl) differ;
    } in
    subst (λ (d : Broker). Left s.birth (leaving ts (remove_row copy_place place now.queue)) b.records.sessions d.records.sessions) (sym (after_append ds (flat_map (leave_deeds s) ts) b)) joined
leaves first s (turns.Send place id ∷ ts) now b all found = absurd all.0
leaves first s (turns.Resend place id ∷ ts) now b all found = absurd all.0
leaves first s (turns.Release place id order ∷ ts) now b all found = absurd all.0
leaves first s (turns.Outgrow place id order ∷ ts) now b all found = absurd all.0
leaves first s (turns.Repeat id ∷ ts) now b all found = absurd all.0
leaves first s (turns.Unknown id ∷ ts) now b all found = absurd all.0

-- ---- a copy enters

-- what is found twice in one look is the same
pub some_same : (x y : Session) → Some x ≡ Some y → x ≡ y
some_same x y is = cc

abbrev pub new_of : Env → CopyRow → Bool
new_of env e = is_new env.start e.copy

abbrev pub own_stay : Env → Session → ℕ
own_stay env s = stay env.limits.full (since env s) s.queue

flow_ascends : (birth : ℕ) (q : List CopyRow) → IsAscending copy_place q → flow.Ascends (map (entry_on []) q)
flow_ascends birth [] up = tt
flow_ascends birth (e ∷ es) up = (flow_above birth e.place es up.0, flow_ascends birth es up.1)
  where
    flow_above : (birth n : ℕ) (q : List CopyRow) → IsAbove copy_place n q → flow.Above n (map (entry_on []) q)
    flow_above birth n [] up = tt
    flow_above birth n (e ∷ es) up = (up.0, flow_above birth n es up.1)

-- what an entering makes: its session's queue is within the limit, and at most one more stays
pub record Entered (env : Env) (s : Session) (ss new : List Session) : Type 0 where
  pub mine : Session
  pub found : row_at birth_of s.birth new ≡ Some mine
  pub within : length mine.queue ≤ env.limits.queue
  pub stays : own_stay env mine ≤ suc (own_stay env s)
  pub others : (other : ℕ) → nat_eq s.birth other ≡ false → row_at birth_of other new ≡ row_at birth_of other ss

-- a session's queue has room for one more, and so it is where a copy enters
abbrev pub HasQueueRoom : ℕ → Records → Type 0
HasQueueRoom birth r = (t : Session) → session_at birth r ≡ Some t → length t.queue < QUEUE_LIMIT

abbrev pub RoomToEnter : Deed → Broker → Type 0
RoomToEnter (At who (Enter copy)) b = HasQueueRoom who.birth b.records
RoomToEnter d b = ⊤

room_to_leave : (s : Session) (t : Turn) (b : Broker) → AreGood RoomToEnter (leave_deeds s t) b
room_to_leave s (turns.Leave place ending) b = good_of_entry RoomToEnter (row_at copy_place place s.queue) (λ e. At (whose s) (Leave e ending) ∷ []) b (λ e. (tt, tt))
room_to_leave s (turns.Send place id) b = tt
room_to_leave s (turns.Resend place id) b = tt
room_to_leave s (turns.Release place id order) b = tt
room_to_leave s (turns.Outgrow place id order) b = tt
room_to_leave s (turns.Repeat id) b = tt
room_to_leave s (turns.Unknown id) b = tt

-- a copy that has room enters, those that make way leave, and every queue stays within its limit
pub enters : (limit : ℕ) (env : Env) (copy : MessageCopy) (s : Session) (b : Broker) → env.limits.queue ≤ limit → env.limits.queue ≤ QUEUE_LIMIT → HasTables s → session_at s.birth b.records ≡ Some s → own_stay env s < env.limits.queue → ShortQueues limit b.records
    → Entered env s b.records.sessions (stored (after_all (enter_deeds env copy s) b)).sessions × ShortQueues limit (stored (after_all (enter_deeds env copy s) b)) × AreGood RoomToEnter (enter_deeds env copy s) b
enters limit env copy s b le small tables found free short =
    let first = since env s in
    let ts = way_made (queue_limits env) first (queue_on [] s) in
    let gives = dropped_gives (length (queue_on [] s) + 1 - env.limits.queue) first s.birth s.queue in
    let ds = flat_map (leave_deeds s) ts in
    let c = after_all ds b in
    let left = leaves first s ts s b gives found in
    let same = stay_is env.limits.full first s.birth s.queue in
    let has : has_room (queue_limits env) first (queue_on [] s) ≡ true = lt-ltb (staying env.limits.full first (queue_on [] s)) env.limits.queue (omega (arith, same, free)) in
    let below = below_limit (queue_limits env) first (queue_on [] s) has (flow_ascends s.birth s.queue tables.queue.ascending) in
    let as_flow = ap length (leaving_flow first s.birth s.queue ts s.queue gives) in
    let as_long = length-mapped (entry_on []) (leaving ts s.queue) in
    let as_left = ap length left.queue in
    let less : length left.mine.queue < env.limits.queue = omega (arith, below, as_flow, as_long, as_left) in
    let mine_birth : left.mine.birth ≡ s.birth = birth_found s.birth c.records.sessions left.mine left.found in
    let n = new_entry copy left.mine.queue in
    let pushed : put_row copy_place QUEUE_LIMIT n left.mine.queue ≡ left.mine.queue ++ n ∷ []
    = put_row-last copy_place QUEUE_LIMIT n left.mine.queue (below_own left.mine.queue) (omega (arith, less, small))
    in
    let d = after (At (whose s) (Enter copy)) c in
    let is : d.records.sessions ≡ change_row birth_of s.birth (with_copy n) c.records.sessions
    = ap (λ (o : Option Session). (changed_all (part_rows_of (Enter copy) o) c.records).sessions) left.found
    ∙ ap (λ (k : ℕ). change_row birth_of k (with_copy n) c.records.sessions) mine_birth
    in
    let mine = with_copy n left.mine in
    let new_found : row_at birth_of s.birth d.records.sessions ≡ Some mine
    = ap (row_at birth_of s.birth) is ∙ change_here birth_of s.birth (with_copy n) c.records.sessions left.mine (λ x. refl) left.found
    in
    let long : length mine.queue ≤ env.limits.queue = (let e = ap length pushed in let one = length-append_one left.mine.queue n in omega (arith, e, one, less)) in
    let queue_is : mine.queue ≡ leaving ts s.queue ++ n ∷ [] = pushed ∙ ap (λ (q : List CopyRow). q ++ n ∷ []) left.queue in
    let next : n.place ≡ next_of copy_place (leaving ts s.queue) = ap (next_of copy_place) left.queue in
    let more = stay_more env.limits.full (new_of env) ts s.queue n next gives in
    let stays : own_stay env mine ≤ suc (own_stay env s)
    = subst (λ (q : List CopyRow). stay env.limits.full (first_place (new_of env) q) q ≤ suc (own_stay env s)) (sym queue_is) more
    in
    let entered : Entered env s b.records.sessions d.records.sessions = record {
      mine = mine;
      found = new_found;
      within = long;
      stays = stays;
      others = λ other differ. ap (row_at birth_of other) is ∙ change_other birth_of s.birth other (with_copy n) c.records.sessions (λ x. refl) differ ∙ left.others other differ;
    } in
    let before = plain_short limit ds b (plain_flat (leave_deeds s) (plain_leave s) ts) short in
    let after_it : ShortQueues limit d.records = record {
      ordered = changed_all-ordered (rows_of (At (whose s) (Enter copy)) c.records) c.records before.ordered;
      short = subst (AreShort limit) (sym is) (all_changed birth_of (IsShort limit) s.birth (with_copy n) c.records.sessions
          (λ x there. let it : left.mine ≡ x = some_same left.mine x (sym left.found ∙ there) in subst (λ (y : Session). length (with_copy n y).queue ≤ limit) it (omega (arith, long, le)))
          before.short);
    } in
    let room : AreGood RoomToEnter (enter_deeds env copy s) b
    = good_append RoomToEnter ds (At (whose s) (Enter copy) ∷ []) b (good_flat RoomToEnter (leave_deeds s) (room_to_leave s) ts b)
    ((λ t there. let it : left.mine ≡ t = some_same left.mine t (sym left.found ∙ there) in subst (λ (y : Session). length y.queue < QUEUE_LIMIT) it (omega (arith, less, small))), tt)
    in
    let end = subst (λ (x : Broker). Entered env s b.records.sessions x.records.sessions × ShortQueues limit x.records) (sym (after_append ds (At (whose s) (Enter copy) ∷ []) b)) (entered, after_it) in
    (end.0, end.1, room)
