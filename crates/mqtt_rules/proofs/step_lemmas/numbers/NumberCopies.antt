-- Copies in queues and retained messages have numbers of accepted publications, deed by deed and over a step.
use Rattle.std.proofs.Common.{◌≡◌, refl, ℕ, ◌≤◌, Bool, true, false, cond, not, List, [], ◌∷◌, Option, Some, None, nat_eq, sym, subst, arith, inl, inr}
use Rattle.std.specs.Prelude.{⊤}
use Rattle.std.specs.List.{AllByRecursion}
use Rattle.mqtt_records.specs.declared.messages.message.MessageCopy.{MessageCopy}
use Rattle.mqtt_records.specs.declared.messages.message.RetainedMessage.{RetainedMessage}
use Rattle.mqtt_records.specs.messages.Queue.{CopyRow}
use Rattle.mqtt_base.specs.declared.limits.TheConstants.{QUEUE_LIMIT, SESSION_LIMIT, RETAINED_LIMIT}
use Rattle.mqtt_records.specs.declared.state.session.Columns.{Columns}
use Rattle.mqtt_records.specs.declared.state.session.Session.{Session}
use Rattle.mqtt_records.specs.declared.state.records.Records.{Records}
use Rattle.mqtt_records.specs.declared.state.change.Counter.{Counter}
use Rattle.mqtt_records.specs.declared.state.change.Counter.TheVariants.{Births, Publications, Subscribes, Autos, Moment}
use Rattle.mqtt_records.specs.declared.state.change.Change.{Change}
use Rattle.mqtt_records.specs.declared.state.change.Change.TheVariants.{SetCounter, PutSession, SetSession, RemoveSession, PutWill, RemoveWill, PutSubscription, RemoveSubscription, PutInbound, RemoveInbound, PutCopy, SetCopy, RemoveCopy, PutRetained, RemoveRetained}
use Rattle.mqtt_records.specs.lists.Order.{has_row, put_row, change_row}
use Rattle.mqtt_records.specs.state.Session.{birth_of, copy_place, fresh, with_columns, with_will, with_subscription, without_subscription, with_open, without_open, with_copy, with_phase, without_copy, in_phase}
use Rattle.mqtt_records.specs.state.Records.{changed, changed_all, put_session, with_counter, kept_place}
use Rattle.mqtt_rules.specs.declared.step.Capacity.{Capacity}
use Rattle.mqtt_rules.specs.step.State.{Broker, Env, session_at, MemberChoice}
use Rattle.mqtt_rules.specs.step.Deeds.{Whose, Part, Resume, Enter, Deed, Accept, Begin, At, Finish, Keep, Forget, part_rows, part_rows_of, rows_of_all, after, after_all}
use Rattle.mqtt_rules.specs.step.Step.{Call, deeds, at_moment, env_of, with_moment, done, stepped, opening, unopened, opened}
use Rattle.mqtt_rules.specs.step.Numbers.{HasCopiesUpTo, HasAcceptedNumbers}
use Rattle.mqtt_rules.proofs.step_lemmas.numbers.Copies.{IsOf, IsMade, Kinds, kinds_at, each_filter, each_more}
use Rattle.mqtt_rules.proofs.step_lemmas.flight.FlightRows.{all_changed, all_put}
use Rattle.mqtt_rules.proofs.step_lemmas.acts.Goods.{AreGood}
use Rattle.mqtt_rules.proofs.step_lemmas.acts.Acts.{is_alone, anyone, finds_anyone}
use Rattle.mqtt_rules.proofs.step_lemmas.acts.ByDeeds.{DeedLaw, MarkLaw, leads_deeds, leads_opened}

-- ---- what holds of each row, edit by edit

module _ {X : Type 0} (key : X → ℕ) (P : X → Type 0) where
  -- what holds of both choices holds of the one that is made
  pub each_cond : (t : Bool) (xs ys : List X) → AllByRecursion P xs → AllByRecursion P ys → AllByRecursion P (cond t xs ys)
  each_cond true xs ys p q = p
  each_cond false xs ys p q = q

-- ---- queues

abbrev UpTo : ℕ → CopyRow → Type 0
UpTo n e = e.copy.id.publication ≤ n

abbrev QueuesUpTo : ℕ → List Session → Type 0
QueuesUpTo n ss = AllByRecursion (HasCopiesUpTo n) ss

abbrev RowUpTo : ℕ → Change → Type 0
RowUpTo n (PutCopy birth e) = e.copy.id.publication ≤ n
RowUpTo n change = ⊤

abbrev RowsUpTo : ℕ → List Change → Type 0
RowsUpTo n [] = ⊤
RowsUpTo n (change ∷ changes) = RowUpTo n change × RowsUpTo n changes

queues_more : (n m : ℕ) (ss : List Session) → n ≤ m → QueuesUpTo n ss → QueuesUpTo m ss
queues_more n m ss le h =
    each_more (HasCopiesUpTo n) (HasCopiesUpTo m) (λ s q. each_more (UpTo n) (UpTo m) (λ e u. omega (arith, u, le)) s.queue q) ss h

queues_put_session : (n : ℕ) (row : Columns) (ss : List Session) → QueuesUpTo n ss → QueuesUpTo n (put_session row ss)
queues_put_session n row ss h =
    each_cond birth_of (HasCopiesUpTo n) (has_row birth_of row.birth ss) (change_row birth_of row.birth (with_columns row) ss) (put_row birth_of SESSION_LIMIT (fresh row) ss)
    (all_changed birth_of (HasCopiesUpTo n) row.birth (with_columns row) ss (λ s q. q) h)
    (all_put birth_of (HasCopiesUpTo n) SESSION_LIMIT (fresh row) ss tt h)

queues_counter : (counter : Counter) (value n : ℕ) (r : Records) → QueuesUpTo n r.sessions → QueuesUpTo n (with_counter counter value r).sessions
queues_counter Births value n r h = h
queues_counter Publications value n r h = h
queues_counter Subscribes value n r h = h
queues_counter Autos value n r h = h
queues_counter Moment value n r h = h

-- a part of a session changed
queues_in : (n birth : ℕ) (f : Session → Session) (ss : List Session) → ((s : Session) → HasCopiesUpTo n s → HasCopiesUpTo n (f s)) → QueuesUpTo n ss → QueuesUpTo n (change_row birth_of birth f ss)
queues_in n birth f ss kept h = all_changed birth_of (HasCopiesUpTo n) birth f ss kept h

queues_changed : (n : ℕ) (change : Change) (r : Records) → RowUpTo n change → QueuesUpTo n r.sessions → QueuesUpTo n (changed change r).sessions
queues_changed n (SetCounter counter value) r fit h = queues_counter counter value n r h
queues_changed n (PutSession row) r fit h = queues_put_session n row r.sessions h
queues_changed n (SetSession row) r fit h = queues_in n row.birth (with_columns row) r.sessions (λ s q. q) h
queues_changed n (RemoveSession birth) r fit h = each_filter (HasCopiesUpTo n) (λ s. not (nat_eq (birth_of s) birth)) r.sessions h
queues_changed n (PutWill birth will) r fit h = queues_in n birth (with_will (Some will)) r.sessions (λ s q. q) h
queues_changed n (RemoveWill birth) r fit h = queues_in n birth (with_will None) r.sessions (λ s q. q) h
queues_changed n (PutSubscription birth sub) r fit h = queues_in n birth (with_subscription sub) r.sessions (λ s q. q) h
queues_changed n (RemoveSubscription birth text) r fit h = queues_in n birth (without_subscription text) r.sessions (λ s q. q) h
queues_changed n (PutInbound birth id) r fit h = queues_in n birth (with_open id) r.sessions (λ s q. q) h
queues_changed n (RemoveInbound birth id) r fit h = queues_in n birth (without_open id) r.sessions (λ s q. q) h
queues_changed n (PutCopy birth e) r fit h = queues_in n birth (with_copy e) r.sessions (λ s q. all_put copy_place (UpTo n) QUEUE_LIMIT e s.queue fit q) h
queues_changed n (SetCopy birth place phase) r fit h =
    queues_in n birth (with_phase place phase) r.sessions (λ s q. all_changed copy_place (UpTo n) place (in_phase phase) s.queue (λ e u. u) q) h
queues_changed n (RemoveCopy birth place) r fit h =
    queues_in n birth (without_copy place) r.sessions (λ s q. each_filter (UpTo n) (λ e. not (nat_eq (copy_place e) place)) s.queue q) h
queues_changed n (PutRetained kept) r fit h = h
queues_changed n (RemoveRetained place) r fit h = h

queues_all : (n : ℕ) (changes : List Change) (r : Records) → RowsUpTo n changes → QueuesUpTo n r.sessions → QueuesUpTo n (changed_all changes r).sessions
queues_all n [] r fit h = h
queues_all n (change ∷ changes) r fit h = queues_all n changes (changed change r) fit.1 (queues_changed n change r fit.0 h)

-- ---- deeds

-- a copy that enters, and a message that is retained, have numbers that were given
abbrev pub OfAccepted : Deed → Broker → Type 0
OfAccepted (Accept number origin m) b = b.records.publications ≤ number
OfAccepted (At who (Enter copy)) b = IsMade who.birth copy b
OfAccepted (Keep kept) b = kept.publication ≡ b.records.publications
OfAccepted d b = ⊤

accepted_alone : (who : Whose) (part : Part) (b : Broker) → is_alone part ≡ true → OfAccepted (At who part) b
accepted_alone who (Enter copy) b q = absurd cc
accepted_alone who part b q = tt

accepted_law : (env : Env) → DeedLaw env anyone (λ b. ⊤) OfAccepted
accepted_law env = record {
  finds = finds_anyone (λ b. ⊤);
  client_stays = λ client d b k g its. tt;
  kept = λ d b k g. tt;
  accept = λ origin m b k said. omega arith;
  keep = λ m b k said is full found. refl;
  forget = λ place b k. tt;
  enter = λ who copy b k made. made;
  leave = λ who e ending b k. tt;
  refuse_will = λ who b k its. tt;
  open_id = λ s id m ds b k h its there new is. tt;
  alone = λ who part b k its is. accepted_alone who part b is;
  close = λ who b k its. tt;
  finish = λ who b k its. tt;
  resume = λ who expiry will b k its. tt;
  name = λ b k. tt;
  begin_given = λ c b k came taken name is room. tt;
  begin_assigned = λ c b k h came taken room. tt;
  count = λ b k. tt;
  subscribe = λ w s b k h its granted. tt;
  link = λ b k. tt;
  on_line = λ line part b k. tt;
  send = λ line packet b k. tt;
  gone = λ line b k. tt;
}

accepted_mark : MarkLaw (λ b. ⊤) OfAccepted
accepted_mark who place phase b k = tt

-- a copy that was made has a number up to the last
number_within : (copy : MessageCopy) (m : ℕ) (ks : List RetainedMessage) → IsOf copy ks → AllByRecursion (λ k. k.publication ≤ m) ks → copy.id.publication ≤ m
number_within copy m [] h all = absurd h
number_within copy m (k ∷ ks) h all = elim h [
  | inl it ↦ let first = all.0 in let e = it.0 in omega (arith, e, first)
  | inr more ↦ number_within copy m ks more all.1
]

made_within : (birth : ℕ) (copy : MessageCopy) (b : Broker) → IsMade birth copy b → HasAcceptedNumbers b.records → copy.id.publication ≤ b.records.publications
made_within birth copy b made h = elim made.source [
  | inl le ↦ le.0
  | inr of ↦ number_within copy b.records.publications b.records.retained of h.1
]

part_up_to : (who : Whose) (part : Part) (s : Session) (b : Broker) → OfAccepted (At who part) b → HasAcceptedNumbers b.records → RowsUpTo b.records.publications (part_rows part s)
part_up_to who (Resume expiry None) s b q h = (tt, (tt, tt))
part_up_to who (Resume expiry (Some will)) s b q h = (tt, (tt, tt))
part_up_to who (Enter copy) s b q h = (made_within who.birth copy b q h, tt)
part_up_to who part s b q h = (tt, tt)

part_up_to_of : (who : Whose) (part : Part) (o : Option Session) (b : Broker) → OfAccepted (At who part) b → HasAcceptedNumbers b.records → RowsUpTo b.records.publications (part_rows_of part o)
part_up_to_of who part None b q h = tt
part_up_to_of who part (Some s) b q h = part_up_to who part s b q h

accepted_part : (who : Whose) (part : Part) (b : Broker) → OfAccepted (At who part) b → HasAcceptedNumbers b.records → HasAcceptedNumbers (after (At who part) b).records
accepted_part who part b q h =
    let d = At who part in
    let n = b.records.publications in
    let rows = part_rows_of part (session_at who.birth b.records) in
    let queues : QueuesUpTo n (after d b).records.sessions = queues_all n rows b.records (part_up_to_of who part (session_at who.birth b.records) b q h) h.0 in
    subst (λ (k : Kinds). QueuesUpTo k.publications (after d b).records.sessions × AllByRecursion (λ x. x.publication ≤ k.publications) k.retained)
    (sym (kinds_at who part b)) (queues, h.1)

accepted_deed : (d : Deed) (b : Broker) → OfAccepted d b → HasAcceptedNumbers b.records → HasAcceptedNumbers (after d b).records
accepted_deed (Accept number origin m) b q h =
    let n = b.records.publications in
    (queues_more n number b.records.sessions q h.0, each_more (λ k. k.publication ≤ n) (λ k. k.publication ≤ number) (λ k u. omega (arith, u, q)) b.records.retained h.1)
accepted_deed (Begin row None) b q h = (queues_put_session b.records.publications row b.records.sessions h.0, h.1)
accepted_deed (Begin row (Some will)) b q h =
    (queues_in b.records.publications row.birth (with_will (Some will)) (put_session row b.records.sessions) (λ s c. c) (queues_put_session b.records.publications row b.records.sessions h.0), h.1)
accepted_deed (At who part) b q h = accepted_part who part b q h
accepted_deed (Finish who) b q h = (each_filter (HasCopiesUpTo b.records.publications) (λ s. not (nat_eq (birth_of s) who.birth)) b.records.sessions h.0, h.1)
accepted_deed (Keep kept) b q h =
    (h.0, all_put kept_place (λ k. k.publication ≤ b.records.publications) RETAINED_LIMIT kept b.records.retained (omega (arith, q)) h.1)
accepted_deed (Forget place) b q h = (h.0, each_filter (λ k. k.publication ≤ b.records.publications) (λ k. not (nat_eq (kept_place k) place)) b.records.retained h.1)
accepted_deed d b q h = h

accepted_all : (ds : List Deed) (b : Broker) → AreGood OfAccepted ds b → HasAcceptedNumbers b.records → HasAcceptedNumbers (after_all ds b).records
accepted_all [] b q h = h
accepted_all (d ∷ ds) b q h = accepted_all ds (after d b) q.1 (accepted_deed d b q.0 h)

-- ---- steps

moment_accepted : (rows : List Change) (b : Broker) → HasAcceptedNumbers b.records → HasAcceptedNumbers (with_moment rows b).records
moment_accepted [] b h = h
moment_accepted (row ∷ rows) b h = h

accepted_done : (ds : List Deed) (b : Broker) → AreGood OfAccepted ds b → HasAcceptedNumbers b.records → HasAcceptedNumbers (done ds b).records
accepted_done ds b q h = moment_accepted (rows_of_all ds b.records) (after_all ds b) (accepted_all ds b q h)

-- behind a step each copy is of an accepted publication
pub step_accepted : (limits : Capacity) (choice : MemberChoice) (now : ℕ) (call : Call) (b : Broker) → HasAcceptedNumbers b.records → HasAcceptedNumbers (stepped limits choice now call b).records
step_accepted limits choice now call b h =
    accepted_done (deeds limits choice now call b) (at_moment now b) ((leads_deeds (env_of limits choice b) (λ c. ⊤) OfAccepted (accepted_law (env_of limits choice b)) accepted_mark call (at_moment now b) tt).0) h

-- behind an opening each copy is of an accepted publication
pub opening_accepted : (limits : Capacity) (choice : MemberChoice) (now : ℕ) (r : Records) → HasAcceptedNumbers r → HasAcceptedNumbers (opened limits choice now r).records
opening_accepted limits choice now r h =
    let b = unopened now r in
    accepted_done (opening (env_of limits choice b) b) b ((leads_opened (env_of limits choice b) (λ c. ⊤) OfAccepted (accepted_law (env_of limits choice b)) accepted_mark b tt).0) h
