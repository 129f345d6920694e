-- What becomes of a valid filter, by what was found of it.
use Rattle.std.proofs.Common.{◌≡◌, ℕ, Bool, true, false, List, [], ◌∷◌, ◌++◌, Some, refl, ap, sym, subst, ◌∙◌, append-nil, inl, inr}
use Rattle.std.specs.Prelude.{filter, map, not}
use Rattle.std.specs.List.{AllByRecursion}
use Rattle.std.proofs.lemmas.Bool.{cases_Bool}
use Rattle.mqtt_records.specs.declared.messages.message.MessageCopy.{MessageCopy}
use Rattle.mqtt_records.specs.declared.messages.message.RetainedMessage.{RetainedMessage}
use Rattle.mqtt_records.specs.declared.state.session.Session.{Session}
use Rattle.mqtt_topic.specs.names.Filters.{is_filter}
use Rattle.mqtt_rules.specs.step.Contents.{IsPublished}
use Rattle.mqtt_rules.specs.step.State.{MemberChoice, session_at}
use Rattle.mqtt_rules.specs.step.Outbound.{room}
use Rattle.mqtt_rules.specs.step.Routing.{CopyTo, is_queued}
use Rattle.mqtt_rules.specs.step.Subscribe.{Wish, FilterAnswer, retained_copy_to, next_number, answer_by}
use Rattle.mqtt_broker_step.specs.declared.fault.StepFault.{StepFault}
use Rattle.mqtt_broker_step.specs.Stepping.{Stepping, did, Does, Leaves, env_in}
use Rattle.mqtt_broker_step.specs.Undoing.{moment_of}
use Rattle.mqtt_broker_step.proofs.Doing.{did_none, found_birth}
use Rattle.mqtt_broker_queue.specs.publications.Delivering.{addressed, addressed_all}
use Rattle.mqtt_broker_step.proofs.Then.{same_act, same_left}
use Rattle.mqtt_broker_acts.specs.subscribing.Bringing.{brings}
use Rattle.mqtt_broker_acts.specs.subscribing.Granting.{FindsRoom, asks_retained, messages, chosen, has_room, grants, answer_at, answers}
use Rattle.mqtt_broker_acts.proofs.subscribing_lemmas.BroughtMessages.{brings_is}
use Rattle.mqtt_broker_acts.proofs.subscribing_lemmas.Granted.{late_are, answer_is, room_found}

-- ---- what its copies are made of

all_filter : (p : RetainedMessage → Bool) (ks : List RetainedMessage) → AllByRecursion (λ (k : RetainedMessage). IsPublished k.content) ks
    → AllByRecursion (λ (k : RetainedMessage). IsPublished k.content) (filter p ks)
all_filter p [] all = tt
all_filter p (k ∷ ks) all = elim (cases_Bool (p k)) [
  | inl so ↦ rw so (all.0, all_filter p ks all.1)
  | inr isnt ↦ rw isnt (all_filter p ks all.1)
]

-- retained messages that are brought are lawful if all are
pub messages_lawful : (now : ℕ) (x : Session) (w : Wish) (ks kept : List RetainedMessage) → kept ≡ messages now x w ks → AllByRecursion (λ (k : RetainedMessage). IsPublished k.content) ks
    → AllByRecursion (λ (k : RetainedMessage). IsPublished k.content) kept
messages_lawful now x w ks kept is all =
    subst (λ (ys : List RetainedMessage). AllByRecursion (λ (k : RetainedMessage). IsPublished k.content) ys) (sym is)
    (elim (cases_Bool (asks_retained x w)) [
      | inl so ↦ rw so (subst (λ (ys : List RetainedMessage). AllByRecursion (λ (k : RetainedMessage). IsPublished k.content) ys) (brings_is now x w ks) (all_filter (brings now x w) ks all))
      | inr isnt ↦ rw isnt tt
    ])

-- ---- what was found

-- the session was found, the filter is valid, and what it brings and the room for it are known
pub record Looked (birth : ℕ) (x : Session) (w : Wish) (kept : List RetainedMessage) (t : Bool) (s : Stepping) : Type 0 where
  pub found : session_at birth s.broker.records ≡ Some x
  pub valid : is_filter w.filter ≡ true
  pub held : kept ≡ messages (moment_of s.broker) x w s.broker.records.retained
  pub may : (choice : MemberChoice) → t ≡ has_room (room (env_in choice s) x) x w (chosen true birth (next_number s.broker.records) w kept)

-- a look at a filter finds what it brings, and whether there is room for it
pub looked : (birth left : ℕ) (x : Session) (w : Wish) (kept kept2 : List RetainedMessage) (t t2 : Bool) (s : Stepping) → session_at birth s.broker.records ≡ Some x → is_filter w.filter ≡ true
    → ((choice : MemberChoice) → left ≡ room (env_in choice s) x) → kept ≡ messages (moment_of s.broker) x w s.broker.records.retained
    → t ≡ has_room left x w (chosen true birth (next_number s.broker.records) w kept) → kept2 ≡ kept → t2 ≡ t → Looked birth x w kept2 t2 s
looked birth left x w kept kept2 t t2 s found valid is held may same test = record {
  found = found;
  valid = valid;
  held = same ∙ held;
  may = λ choice. test
      ∙ (may
      ∙ (ap (λ (n : ℕ). has_room n x w (chosen true birth (next_number s.broker.records) w kept)) (is choice)
      ∙ ap (λ (ks : List RetainedMessage). has_room (room (env_in choice s) x) x w (chosen true birth (next_number s.broker.records) w ks)) (sym same)));
}

abbrev by_look : ℕ → Session → Wish → List RetainedMessage → Bool → Stepping → MemberChoice → FilterAnswer
by_look birth x w kept t s choice =
    answer_by true t (env_in choice s) (next_number s.broker.records) x w (map (retained_copy_to x.birth (next_number s.broker.records) w) kept) s.broker

look_is : (birth : ℕ) (x : Session) (w : Wish) (kept : List RetainedMessage) (t : Bool) (s : Stepping) (choice : MemberChoice) → Looked birth x w kept t s
    → by_look birth x w kept t s choice ≡ answer_at birth w (env_in choice s) s.broker
look_is birth x w kept t s choice l = answer_is birth x w kept t (env_in choice s) s.broker l.found l.valid l.held (l.may choice)

-- if there is, the copies find room
pub look_room : (birth : ℕ) (x : Session) (w : Wish) (kept : List RetainedMessage) (s : Stepping) → Looked birth x w kept true s → FindsRoom birth w kept s
look_room birth x w kept s l = record {
  session = x;
  found = l.found;
  fits = λ choice. room_found (room (env_in choice s) x) x w (chosen true birth (next_number s.broker.records) w kept) (l.may choice);
}

-- ---- granted

-- then the subscription is granted, and that is the answer
pub look_ok : (birth : ℕ) (x : Session) (w : Wish) (kept : List RetainedMessage) (s new : Stepping) → Looked birth x w kept true s → Does (grants x w kept) s new → Does (answers birth w) s new
look_ok birth x w kept s new l done = λ choice.
    same_act (grants x w kept (env_in choice s)) (answers birth w (env_in choice s)) s new (ap (λ (a : FilterAnswer). a.deeds) (look_is birth x w kept true s choice l)) (done choice)

-- or that is refused
pub look_left : (birth : ℕ) (x : Session) (w : Wish) (kept : List RetainedMessage) (fault : StepFault) (s new : Stepping) → Looked birth x w kept true s → Leaves (grants x w kept) fault s new → Leaves (answers birth w) fault s new
look_left birth x w kept fault s new l left = λ choice.
    same_left (grants x w kept (env_in choice s)) (answers birth w (env_in choice s)) fault s new (ap (λ (a : FilterAnswer). a.deeds) (look_is birth x w kept true s choice l)) (left choice)

addressed_more : (xs ys : List MessageCopy) → addressed_all (xs ++ ys) ≡ addressed_all xs ++ addressed_all ys
addressed_more [] ys = refl
addressed_more (x ∷ xs) ys = ap (λ (ds : List CopyTo). addressed x ∷ ds) (addressed_more xs ys)

-- its copies of QoS 0 are those that the answer has
pub look_late : (birth : ℕ) (x : Session) (w : Wish) (kept : List RetainedMessage) (late late2 : List MessageCopy) (s : Stepping) (choice : MemberChoice) → Looked birth x w kept true s
    → late2 ≡ late ++ chosen false birth (next_number s.broker.records) w kept
    → addressed_all late2 ≡ addressed_all late ++ (answer_at birth w (env_in choice s) s.broker).late
look_late birth x w kept late late2 s choice l more =
    let number : ℕ = next_number s.broker.records in
    let own : x.birth ≡ birth = found_birth birth s.broker.records.sessions x l.found in
    ap addressed_all more
    ∙ (addressed_more late (chosen false birth number w kept)
    ∙ (ap (λ (ds : List CopyTo). addressed_all late ++ ds)
    (late_are birth number w kept ∙ ap (λ (n : ℕ). filter (λ d. not (is_queued d)) (map (retained_copy_to n number w) kept)) (sym own))
    ∙ ap (λ (a : FilterAnswer). addressed_all late ++ a.late) (look_is birth x w kept true s choice l)))

-- ---- its code

-- and so is its code
pub look_code : (birth : ℕ) (x : Session) (w : Wish) (kept : List RetainedMessage) (t : Bool) (codes codes2 : List ℕ) (code : ℕ) (s : Stepping) (choice : MemberChoice) → Looked birth x w kept t s
    → codes2 ≡ codes ++ code ∷ [] → code ≡ (by_look birth x w kept t s choice).code
    → codes2 ≡ codes ++ (answer_at birth w (env_in choice s) s.broker).code ∷ []
look_code birth x w kept t codes codes2 code s choice l pushed is =
    pushed ∙ ap (λ (n : ℕ). codes ++ n ∷ []) (is ∙ ap (λ (a : FilterAnswer). a.code) (look_is birth x w kept t s choice l))

-- ---- refused

-- a filter that is refused is answered by doing nothing
pub refused_does : (birth : ℕ) (x : Session) (w : Wish) (kept : List RetainedMessage) (s : Stepping) → Looked birth x w kept false s → Does (answers birth w) s s
refused_does birth x w kept s l = λ choice. record {
  is = sym (did_none s) ∙ ap (λ (a : FilterAnswer). did a.deeds s) (look_is birth x w kept false s choice l);
}

-- and brings no copy
pub refused_late : (birth : ℕ) (x : Session) (w : Wish) (kept : List RetainedMessage) (late : List MessageCopy) (s : Stepping) (choice : MemberChoice) → Looked birth x w kept false s
    → addressed_all late ≡ addressed_all late ++ (answer_at birth w (env_in choice s) s.broker).late
refused_late birth x w kept late s choice l =
    sym (append-nil (addressed_all late)) ∙ ap (λ (a : FilterAnswer). addressed_all late ++ a.late) (look_is birth x w kept false s choice l)
