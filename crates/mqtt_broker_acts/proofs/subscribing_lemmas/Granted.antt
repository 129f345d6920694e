-- A filter that is granted: its subscription, and the copies that it brings.
use Rattle.std.proofs.Common.{◌≡◌, ℕ, suc, ◌≤◌, Bool, true, false, cond, not, ◌&&◌, List, [], ◌∷◌, ◌++◌, length, nat_eq, nat_le, refl, ap, sym, subst, ◌∙◌, arith, inl, inr}
use Rattle.std.specs.Prelude.{Option, Some, None, filter, map}
use Rattle.std.specs.List.{AllByRecursion}
use Rattle.std.proofs.lemmas.Bool.{cases_Bool, eqb-true, leb-true}
use Rattle.mqtt_keep.specs.lawful.Lawful.{IsIdentifier}
use Rattle.mqtt_records.specs.messages.Queue.{IsSpelled}
use Rattle.mqtt_records.specs.declared.messages.message.MessageCopy.{MessageCopy}
use Rattle.mqtt_records.specs.declared.messages.message.RetainedMessage.{RetainedMessage}
use Rattle.mqtt_records.specs.declared.state.session.Session.{Session}
use Rattle.mqtt_records.specs.declared.state.subscription.Subscription.{Subscription}
use Rattle.mqtt_records.specs.state.Session.{birth_of, with_subscription}
use Rattle.mqtt_routes.specs.routing.Retained.{kept_for}
use Rattle.mqtt_topic.specs.names.Filters.{is_filter, begins_share}
use Rattle.mqtt_rules.specs.step.Contents.{IsPublished, AreIdentifiers, of_rows}
use Rattle.mqtt_rules.specs.step.State.{Broker, Env, MemberChoice, session_at}
use Rattle.mqtt_rules.specs.step.Deeds.{Act, whose, At, Count, Subscribe, series, after_all}
use Rattle.mqtt_rules.specs.step.Laws.{is_entering}
use Rattle.mqtt_rules.specs.step.Outbound.{room, room_at}
use Rattle.mqtt_rules.specs.step.Routing.{CopyTo, is_queued, deliver}
use Rattle.mqtt_rules.specs.step.Subscribe.{Wish, subscription, retained_copy, retained_copy_to, identifiers_of, next_number, answer_by, filter_answer_of, brought, has_filter, wants_retained, is_brought, kept_of, message_in}
use Rattle.mqtt_rules.proofs.step_lemmas.flight.FlightRows.{change_row-here}
use Rattle.mqtt_rules.proofs.step_lemmas.order.Ordered.{length-filter_le}
use Rattle.mqtt_rules.proofs.step_lemmas.contents.SpelledContents.{copy_spelled, rows_are}
use Rattle.mqtt_broker_step.specs.declared.fault.StepFault.{StepFault}
use Rattle.mqtt_broker_step.specs.declared.fault.StepFault.TheVariants.{Memory, Spent}
use Rattle.mqtt_broker_step.specs.Stepping.{Stepping, did, Did, Does, IsLeft, Leaves, env_in}
use Rattle.mqtt_broker_step.proofs.Doing.{found_birth, stands}
use Rattle.mqtt_broker_queue.specs.publications.Delivering.{addressed_all, delivers_all, HasRoomIn}
use Rattle.mqtt_broker_step.proofs.Then.{same_act, same_left, did_then, left_first, left_then}
use Rattle.mqtt_broker_queue.proofs.publications_lemmas.Leading.{same_env}
use Rattle.mqtt_broker_acts.specs.subscribing.Enrolling.{enrolls}
use Rattle.mqtt_broker_acts.specs.subscribing.Granting.{asks_retained, messages, is_chosen, chosen, has_place, has_room, grants, answer_at}

-- ---- the copies

-- as they are addressed
pub queued_are : (birth number : ℕ) (w : Wish) (ks : List RetainedMessage) → addressed_all (chosen true birth number w ks) ≡ filter is_queued (map (retained_copy_to birth number w) ks)
queued_are birth number w [] = refl
queued_are birth number w (k ∷ ks) = elim (cases_Bool (is_chosen true (retained_copy birth number w k))) [
  | inl so ↦ rw so (ap (λ (ds : List CopyTo). retained_copy_to birth number w k ∷ ds) (queued_are birth number w ks))
  | inr other ↦ rw other (queued_are birth number w ks)
]

-- copies of QoS 0 are those that go out behind the SUBACK
pub late_are : (birth number : ℕ) (w : Wish) (ks : List RetainedMessage) → addressed_all (chosen false birth number w ks) ≡ filter (λ d. not (is_queued d)) (map (retained_copy_to birth number w) ks)
late_are birth number w [] = refl
late_are birth number w (k ∷ ks) = elim (cases_Bool (is_chosen true (retained_copy birth number w k))) [
  | inl so ↦ rw so (late_are birth number w ks)
  | inr other ↦ rw other (ap (λ (ds : List CopyTo). retained_copy_to birth number w k ∷ ds) (late_are birth number w ks))
]

one_identifier : (o : Option ℕ) → IsIdentifier o → AreIdentifiers (identifiers_of o)
one_identifier None h = record { each = tt; few = omega arith }
one_identifier (Some n) h = record { each = (h, tt); few = omega arith }

-- their PUBLISH have spellings
pub chosen_spelled : (queued : Bool) (birth number : ℕ) (w : Wish) (ks : List RetainedMessage) → AllByRecursion (λ (k : RetainedMessage). IsPublished k.content) ks → IsIdentifier w.identifier
    → AllByRecursion IsSpelled (chosen queued birth number w ks)
chosen_spelled queued birth number w [] lawful h = tt
chosen_spelled queued birth number w (k ∷ ks) lawful h =
    let more = chosen_spelled queued birth number w ks lawful.1 h in
    let one : IsSpelled (retained_copy birth number w k) = copy_spelled of_rows rows_are (retained_copy birth number w k) (record { content = lawful.0; identifiers = one_identifier w.identifier h }) in
    elim (cases_Bool (is_chosen queued (retained_copy birth number w k))) [
      | inl so ↦ rw so (one, more)
      | inr other ↦ rw other more
    ]

-- two lists of copies with a spelling have one together
pub all_spelled : (xs ys : List MessageCopy) → AllByRecursion IsSpelled xs → AllByRecursion IsSpelled ys → AllByRecursion IsSpelled (xs ++ ys)
all_spelled [] ys before more = more
all_spelled (x ∷ xs) ys before more = (before.0, all_spelled xs ys before.1 more)

-- ---- the room after the subscription is put

-- the session's queue stays
pub enrolled_session : (x : Session) (w : Wish) (s s1 : Stepping) (birth : ℕ) → session_at birth s.broker.records ≡ Some x → Did (enrolls x w) s s1
    → session_at birth s1.broker.records ≡ Some (with_subscription (subscription (next_number s.broker.records) x w) x)
enrolled_session x w s s1 birth found is =
    let own : x.birth ≡ birth = found_birth birth s.broker.records.sessions x found in
    let here : session_at x.birth s.broker.records ≡ Some x = stands birth s.broker.records x found in
    let sub : Subscription = subscription (next_number s.broker.records) x w in
    subst (λ (t : Stepping). session_at birth t.broker.records ≡ Some (with_subscription sub x)) (sym is.is)
    (subst (λ (n : ℕ). session_at n (did (enrolls x w s.broker) s).broker.records ≡ Some (with_subscription sub x)) own (put sub here))
  where
    put : (sub : Subscription) → session_at x.birth s.broker.records ≡ Some x
        → session_at x.birth (after_all (Count (next_number s.broker.records) ∷ At (whose x) (Subscribe sub) ∷ []) s.broker).records ≡ Some (with_subscription sub x)
    put sub here = rw here (change_row-here birth_of x.birth (with_subscription sub) x s.broker.records.sessions (λ y. refl) here)

no_others : (birth other : ℕ) (cs : List MessageCopy) → nat_eq birth other ≡ false → AllByRecursion (λ (c : MessageCopy). c.id.birth ≡ birth) cs
    → length (filter (is_entering other) (addressed_all cs)) ≡ 0
no_others birth other [] differ own = refl
no_others birth other (c ∷ cs) differ own =
    let isnt : nat_eq c.id.birth other ≡ false = ap (λ n. nat_eq n other) own.0 ∙ differ in
    elim (cases_Bool (is_chosen true c)) [
      | inl so ↦ rw (so, isnt) (no_others birth other cs differ own.1)
      | inr isnt_so ↦ rw isnt_so (no_others birth other cs differ own.1)
    ]

chosen_own : (queued : Bool) (birth number : ℕ) (w : Wish) (ks : List RetainedMessage) → AllByRecursion (λ (c : MessageCopy). c.id.birth ≡ birth) (chosen queued birth number w ks)
chosen_own queued birth number w [] = tt
chosen_own queued birth number w (k ∷ ks) = elim (cases_Bool (is_chosen queued (retained_copy birth number w k))) [
  | inl so ↦ rw so (refl, chosen_own queued birth number w ks)
  | inr other ↦ rw other (chosen_own queued birth number w ks)
]

length_addressed : (cs : List MessageCopy) → length (addressed_all cs) ≡ length cs
length_addressed [] = refl
length_addressed (c ∷ cs) = ap suc (length_addressed cs)

env_stays : (x : Session) (w : Wish) (s s1 : Stepping) (choice : MemberChoice) → Did (enrolls x w) s s1 → env_in choice s1 ≡ env_in choice s
env_stays x w s s1 choice is = same_env choice s s1 (ap (λ (t : Stepping). t.start) is.is) (ap (λ (t : Stepping). t.limits) is.is)

-- what was there before is there still
pub room_stays : (birth number : ℕ) (x : Session) (w : Wish) (ks : List RetainedMessage) (copies : List MessageCopy) (s s1 : Stepping) → session_at birth s.broker.records ≡ Some x
    → Did (enrolls x w) s s1 → copies ≡ chosen true birth number w ks
    → ((choice : MemberChoice) → length (chosen true birth number w ks) ≤ room (env_in choice s) x) → HasRoomIn s1 (addressed_all copies)
room_stays birth number x w ks copies s s1 found is made few = λ choice other.
    subst (λ (cs : List MessageCopy). length (filter (is_entering other) (addressed_all cs)) ≤ room_at (env_in choice s1) (session_at other s1.broker.records)) (sym made)
    (elim (cases_Bool (nat_eq birth other)) [
      | inl same ↦
          let at : birth ≡ other = eqb-true birth other same in
          let y : Session = with_subscription (subscription (next_number s.broker.records) x w) x in
          let stays : session_at other s1.broker.records ≡ Some y =
          subst (λ (n : ℕ). session_at n s1.broker.records ≡ Some y) at (enrolled_session x w s s1 birth found is) in
          let here : room_at (env_in choice s1) (session_at other s1.broker.records) ≡ room (env_in choice s1) y = ap (room_at (env_in choice s1)) stays in
          let left : room (env_in choice s1) y ≡ room (env_in choice s) x = ap (λ (e : Env). room e x) (env_stays x w s s1 choice is) in
          let fits : length (chosen true birth number w ks) ≤ room (env_in choice s) x = few choice in
          let less = length-filter_le (is_entering other) (addressed_all (chosen true birth number w ks)) in
          let many = length_addressed (chosen true birth number w ks) in
          omega (arith, here, left, less, many, fits)
      | inr differ ↦
          let none = no_others birth other (chosen true birth number w ks) differ (chosen_own true birth number w ks) in
          omega (arith, none)
    ])

-- ---- the deeds

granted_is : (birth : ℕ) (x : Session) (w : Wish) (ks : List RetainedMessage) (copies : List MessageCopy) (env : Env) (b : Broker) → session_at birth b.records ≡ Some x
    → copies ≡ chosen true birth (next_number b.records) w ks
    → enrolls x w b ++ delivers_all (addressed_all copies) env (after_all (enrolls x w b) b) ≡ grants x w ks env b
granted_is birth x w ks copies env b found made =
    let own : x.birth ≡ birth = found_birth birth b.records.sessions x found in
    let number : ℕ = next_number b.records in
    ap (λ (ds : List CopyTo). enrolls x w b ++ series (map (deliver env) ds) (after_all (enrolls x w b) b))
    (ap addressed_all made ∙ (queued_are birth number w ks ∙ ap (λ (n : ℕ). filter is_queued (map (retained_copy_to n number w) ks)) (sym own)))

-- granted, and its copies in the queue
pub granted_ok : (birth : ℕ) (x : Session) (w : Wish) (ks : List RetainedMessage) (copies : List MessageCopy) (s s1 s2 : Stepping) → session_at birth s.broker.records ≡ Some x
    → copies ≡ chosen true birth (next_number s.broker.records) w ks → Did (enrolls x w) s s1 → Does (delivers_all (addressed_all copies)) s1 s2 → Does (grants x w ks) s s2
granted_ok birth x w ks copies s s1 s2 found made first second = λ choice.
    let env : Env = env_in choice s in
    let then_s : Did (delivers_all (addressed_all copies) env) s1 s2 =
    subst (λ (e : Env). Did (delivers_all (addressed_all copies) e) s1 s2) (env_stays x w s s1 choice first) (second choice) in
    same_act (λ b. enrolls x w b ++ delivers_all (addressed_all copies) env (after_all (enrolls x w b) b)) (grants x w ks env) s s2
    (granted_is birth x w ks copies env s.broker found made)
    (did_then (enrolls x w) (delivers_all (addressed_all copies) env) s s1 s2 first then_s)

-- a grant may be refused at the subscription
pub enroll_left : (birth : ℕ) (x : Session) (w : Wish) (ks : List RetainedMessage) (fault : StepFault) (s new : Stepping) → session_at birth s.broker.records ≡ Some x
    → IsLeft (enrolls x w) fault s new → Leaves (grants x w ks) fault s new
enroll_left birth x w ks fault s new found left = λ choice.
    let env : Env = env_in choice s in
    let copies : List MessageCopy = chosen true birth (next_number s.broker.records) w ks in
    same_left (λ b. enrolls x w b ++ delivers_all (addressed_all copies) env (after_all (enrolls x w b) b)) (grants x w ks env) fault s new
    (granted_is birth x w ks copies env s.broker found refl)
    (left_first (enrolls x w) (delivers_all (addressed_all copies) env) fault s new left)

-- or at the copies
pub deliver_left : (birth : ℕ) (x : Session) (w : Wish) (ks : List RetainedMessage) (copies : List MessageCopy) (fault : StepFault) (s s1 new : Stepping) → session_at birth s.broker.records ≡ Some x
    → copies ≡ chosen true birth (next_number s.broker.records) w ks → Did (enrolls x w) s s1 → Leaves (delivers_all (addressed_all copies)) fault s1 new → Leaves (grants x w ks) fault s new
deliver_left birth x w ks copies fault s s1 new found made first second = λ choice.
    let env : Env = env_in choice s in
    let then_s : IsLeft (delivers_all (addressed_all copies) env) fault s1 new =
    subst (λ (e : Env). IsLeft (delivers_all (addressed_all copies) e) fault s1 new) (env_stays x w s s1 choice first) (second choice) in
    same_left (λ b. enrolls x w b ++ delivers_all (addressed_all copies) env (after_all (enrolls x w b) b)) (grants x w ks env) fault s new
    (granted_is birth x w ks copies env s.broker found made)
    (left_then (enrolls x w) (delivers_all (addressed_all copies) env) fault s s1 new first then_s)

-- want of memory, whatever was done
pub memory_after : (f : Act) (act : Env → Act) (fault : StepFault) (s new : Stepping) → Did f s new → fault ≡ Memory → Leaves act fault s new
memory_after f act fault s new is memory = λ choice. record {
  start = ap (λ (t : Stepping). t.start) is.is;
  limits = ap (λ (t : Stepping). t.limits) is.is;
  spent = λ e. absurd (never (sym memory ∙ e));
}
  where
    never : Memory ≡ Spent → ⊥
    never e = absurd cc

-- ---- what becomes of the filter

-- what a subscription brings is what the definition has
pub messages_are : (now : ℕ) (x : Session) (w : Wish) (ks found : List RetainedMessage) → begins_share w.filter ≡ false → wants_retained w.options.retain_handling (has_filter w.filter x) ≡ true
    → found ≡ filter (is_brought now x w) (map message_in (kept_for w.filter (map kept_of ks))) → found ≡ messages now x w ks
messages_are now x w ks found plain wants is =
    let asks : asks_retained x w ≡ true = rw (plain, wants) refl in
    is ∙ ap (λ (b : Bool). cond b (filter (is_brought now x w) (map message_in (kept_for w.filter (map kept_of ks)))) []) (sym asks)

brought_is : (now number : ℕ) (x : Session) (w : Wish) (ks : List RetainedMessage) → map (retained_copy_to x.birth number w) (messages now x w ks) ≡ brought now number x w ks
brought_is now number x w ks = elim (cases_Bool (asks_retained x w)) [
  | inl so ↦ rw so refl
  | inr isnt ↦ rw isnt refl
]

-- by what was found of it
pub answer_is : (birth : ℕ) (x : Session) (w : Wish) (kept : List RetainedMessage) (t : Bool) (env : Env) (b : Broker) → session_at birth b.records ≡ Some x → is_filter w.filter ≡ true
    → kept ≡ messages b.now x w b.records.retained → t ≡ has_room (room env x) x w (chosen true birth (next_number b.records) w kept)
    → answer_by true t env (next_number b.records) x w (map (retained_copy_to x.birth (next_number b.records) w) kept) b ≡ answer_at birth w env b
answer_is birth x w kept t env b found valid held may =
    let number : ℕ = next_number b.records in
    let own : x.birth ≡ birth = found_birth birth b.records.sessions x found in
    let ds : List CopyTo = brought b.now number x w b.records.retained in
    let are : map (retained_copy_to x.birth number w) kept ≡ ds = ap (λ (ks : List RetainedMessage). map (retained_copy_to x.birth number w) ks) held ∙ brought_is b.now number x w b.records.retained in
    let many : length (chosen true birth number w kept) ≡ length (filter is_queued ds) =
    sym (length_addressed (chosen true birth number w kept))
    ∙ (ap (λ (cs : List CopyTo). length cs) (queued_are birth number w kept)
    ∙ (ap (λ (n : ℕ). length (filter is_queued (map (retained_copy_to n number w) kept))) (sym own)
    ∙ ap (λ (cs : List CopyTo). length (filter is_queued cs)) are)) in
    let same : t ≡ (has_place x w && nat_le (length (filter is_queued ds)) (room env x)) =
    may ∙ ap (λ (n : ℕ). has_place x w && nat_le n (room env x)) many in
    ap (λ (cs : List CopyTo). answer_by true t env number x w cs b) are
    ∙ (ap (λ (v : Bool). answer_by true v env number x w ds b) same
    ∙ (ap (λ (v : Bool). answer_by v (has_place x w && nat_le (length (filter is_queued ds)) (room env x)) env number x w ds b) (sym valid)
    ∙ ap (λ (o : Option Session). filter_answer_of env (Some w) b o) (sym found)))

and_second : (a b : Bool) → true ≡ (a && b) → b ≡ true
and_second true b e = sym e
and_second false b e = absurd cc

-- the queue takes those that enter it
pub room_found : (left : ℕ) (x : Session) (w : Wish) (copies : List MessageCopy) → true ≡ has_room left x w copies → length copies ≤ left
room_found left x w copies may = leb-true (length copies) left (and_second (has_place x w) (nat_le (length copies) left) may)
