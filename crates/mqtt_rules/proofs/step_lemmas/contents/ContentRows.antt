-- Lawful contents stay lawful by each row and each deed that brings lawful ones.
use Rattle.std.proofs.Common.{ℕ, Bool, true, false, cond, not, List, [], ◌∷◌, ◌++◌, Option, Some, None, nat_eq, arith, inl, inr}
use Rattle.std.specs.Prelude.{⊤, bytes_eq}
use Rattle.std.specs.List.{AllByRecursion}
use Rattle.std.proofs.lemmas.Bool.{cases_Bool}
use Rattle.mqtt_base.specs.declared.limits.TheConstants.{SUBSCRIPTION_LIMIT, QUEUE_LIMIT, SESSION_LIMIT, RETAINED_LIMIT}
use Rattle.mqtt_topic.specs.names.Aliases.{AliasTable, with_topic, after_resolve}
use Rattle.mqtt_records.specs.declared.messages.message.RetainedMessage.{RetainedMessage}
use Rattle.mqtt_records.specs.messages.Queue.{CopyRow}
use Rattle.mqtt_records.specs.declared.state.session.Columns.{Columns}
use Rattle.mqtt_records.specs.declared.state.session.Session.{Session}
use Rattle.mqtt_records.specs.declared.state.records.Records.{Records}
use Rattle.mqtt_records.specs.declared.state.change.Counter.{Counter}
use Rattle.mqtt_records.specs.declared.state.change.Counter.TheVariants.{Births, Publications, Subscribes, Autos, Moment}
use Rattle.mqtt_records.specs.declared.state.change.Change.{Change}
use Rattle.mqtt_records.specs.declared.state.change.Change.TheVariants.{SetCounter, PutSession, SetSession, RemoveSession, PutWill, RemoveWill, PutSubscription, RemoveSubscription, PutInbound, RemoveInbound, PutCopy, SetCopy, RemoveCopy, PutRetained, RemoveRetained}
use Rattle.mqtt_records.specs.lists.Order.{has_row, put_row, change_row}
use Rattle.mqtt_records.specs.state.Session.{birth_of, place_of, without_filter, copy_place, fresh, with_columns, with_will, with_subscription, without_subscription, with_open, without_open, with_copy, with_phase, without_copy, in_phase}
use Rattle.mqtt_records.specs.state.Records.{in_session, changed, changed_all, put_session, with_counter, kept_place}
use Rattle.mqtt_rules.specs.step.State.{Line, Broker, session_at, is_of}
use Rattle.mqtt_rules.specs.step.Deeds.{Whose, Part, Resume, Subscribe, Enter, Leave, LinePart, Hear, Greet, SetAlias, Went, Deed, Accept, Begin, Name, Count, At, Finish, Keep, Forget, Link, On, Gone, part_rows_of, rows_of, rows_of_all, stored_after, line_after, on_line, fresh_line, without_place, lines_at, lines_after, after}
use Rattle.mqtt_records.specs.declared.messages.message.Content.{Content}
use Rattle.mqtt_records.specs.declared.messages.message.Will.{Will}
use Rattle.mqtt_records.specs.declared.messages.message.MessageCopy.{MessageCopy}
use Rattle.mqtt_rules.specs.step.Contents.{IsTopic, IsAskedFor, HasTopics, IsPublishedOf, IsWilledOf, IsCopiedOf, HasContentsOf, HasLawfulContentsOf, AreContentsOf, Sizes}
use Rattle.mqtt_rules.specs.step.Step.{stamp_of, stamped}
use Rattle.mqtt_rules.proofs.step_lemmas.acts.Goods.{AreGood}
use Rattle.mqtt_rules.proofs.step_lemmas.numbers.Copies.{each_append, each_filter, each_more, each_map}
use Rattle.mqtt_records.specs.declared.state.subscription.Subscription.{Subscription}
use Rattle.mqtt_rules.proofs.step_lemmas.order.Ordered.{put-table, filter-table}
use Rattle.mqtt_rules.proofs.step_lemmas.flight.FlightRows.{all_put, all_changed}
use Rattle.mqtt_rules.proofs.step_lemmas.numbers.NumberCopies.{each_cond}

module _ (sizes : Sizes) where
  abbrev IsPublished : Content → Type 0
  IsPublished = IsPublishedOf sizes

  abbrev IsWilled : Option Will → Type 0
  IsWilled = IsWilledOf sizes

  abbrev IsCopied : MessageCopy → Type 0
  IsCopied = IsCopiedOf sizes

  abbrev HasContents : Session → Type 0
  HasContents = HasContentsOf sizes

  abbrev HasLawfulContents : Records → Type 0
  HasLawfulContents = HasLawfulContentsOf sizes

  abbrev AreContentsLawful : Broker → Type 0
  AreContentsLawful = AreContentsOf sizes

  -- ---- rows

  abbrev pub RowBrings : Change → Type 0
  RowBrings (PutWill birth will) = IsWilled (Some will)
  RowBrings (PutCopy birth e) = IsCopied e.copy
  RowBrings (PutSubscription birth sub) = IsAskedFor sub
  RowBrings (PutRetained kept) = IsPublished kept.content
  RowBrings change = ⊤

  abbrev pub RowsBring : List Change → Type 0
  RowsBring [] = ⊤
  RowsBring (change ∷ changes) = RowBrings change × RowsBring changes

  abbrev Copied : CopyRow → Type 0
  Copied e = IsCopied e.copy

  abbrev Retains : RetainedMessage → Type 0
  Retains k = IsPublished k.content

  -- a part of a session changed
  changed_in : (birth : ℕ) (f : Session → Session) (r : Records) → ((s : Session) → HasContents s → HasContents (f s)) → HasLawfulContents r → HasLawfulContents (in_session birth f r)
  changed_in birth f r kept h = record { sessions = all_changed birth_of HasContents birth f r.sessions kept h.sessions; retained = h.retained }

  session_put : (row : Columns) (ss : List Session) → AllByRecursion HasContents ss → AllByRecursion HasContents (put_session row ss)
  session_put row ss h =
      each_cond birth_of HasContents (has_row birth_of row.birth ss) (change_row birth_of row.birth (with_columns row) ss) (put_row birth_of SESSION_LIMIT (fresh row) ss)
      (all_changed birth_of HasContents row.birth (with_columns row) ss (λ s q. record { will = q.will; subscriptions = q.subscriptions; table = q.table; queue = q.queue }) h)
      (all_put birth_of HasContents SESSION_LIMIT (fresh row) ss (record { will = tt; subscriptions = tt; table = record { ascending = tt; within = omega arith }; queue = tt }) h)

  subscribed : (sub : Subscription) (s : Session) → IsAskedFor sub → HasContents s → HasContents (with_subscription sub s)
  subscribed sub s q c =
      let others = without_filter sub.filter s.subscriptions in
      record {
        will = c.will;
        subscriptions = all_put place_of IsAskedFor SUBSCRIPTION_LIMIT sub others q (each_filter IsAskedFor (λ x. not (bytes_eq x.filter sub.filter)) s.subscriptions c.subscriptions);
        table = put-table place_of SUBSCRIPTION_LIMIT sub others (filter-table place_of SUBSCRIPTION_LIMIT (λ x. not (bytes_eq x.filter sub.filter)) s.subscriptions c.table);
        queue = c.queue;
      }

  unsubscribed : (text : List ℕ) (s : Session) → HasContents s → HasContents (without_subscription text s)
  unsubscribed text s c =
      record {
        will = c.will;
        subscriptions = each_filter IsAskedFor (λ x. not (bytes_eq x.filter text)) s.subscriptions c.subscriptions;
        table = filter-table place_of SUBSCRIPTION_LIMIT (λ x. not (bytes_eq x.filter text)) s.subscriptions c.table;
        queue = c.queue;
      }

  counted : (counter : Counter) (value : ℕ) (r : Records) → HasLawfulContents r → HasLawfulContents (with_counter counter value r)
  counted Births value r h = record { sessions = h.sessions; retained = h.retained }
  counted Publications value r h = record { sessions = h.sessions; retained = h.retained }
  counted Subscribes value r h = record { sessions = h.sessions; retained = h.retained }
  counted Autos value r h = record { sessions = h.sessions; retained = h.retained }
  counted Moment value r h = record { sessions = h.sessions; retained = h.retained }

  contents_changed : (change : Change) (r : Records) → RowBrings change → HasLawfulContents r → HasLawfulContents (changed change r)
  contents_changed (SetCounter counter value) r q h = counted counter value r h
  contents_changed (PutSession row) r q h = record { sessions = session_put row r.sessions h.sessions; retained = h.retained }
  contents_changed (SetSession row) r q h = changed_in row.birth (with_columns row) r (λ s c. record { will = c.will; subscriptions = c.subscriptions; table = c.table; queue = c.queue }) h
  contents_changed (RemoveSession birth) r q h =
      record { sessions = each_filter HasContents (λ s. not (nat_eq (birth_of s) birth)) r.sessions h.sessions; retained = h.retained }
  contents_changed (PutWill birth will) r q h = changed_in birth (with_will (Some will)) r (λ s c. record { will = q; subscriptions = c.subscriptions; table = c.table; queue = c.queue }) h
  contents_changed (RemoveWill birth) r q h = changed_in birth (with_will None) r (λ s c. record { will = tt; subscriptions = c.subscriptions; table = c.table; queue = c.queue }) h
  contents_changed (PutSubscription birth sub) r q h = changed_in birth (with_subscription sub) r (λ s c. subscribed sub s q c) h
  contents_changed (RemoveSubscription birth text) r q h = changed_in birth (without_subscription text) r (λ s c. unsubscribed text s c) h
  contents_changed (PutInbound birth id) r q h = changed_in birth (with_open id) r (λ s c. record { will = c.will; subscriptions = c.subscriptions; table = c.table; queue = c.queue }) h
  contents_changed (RemoveInbound birth id) r q h = changed_in birth (without_open id) r (λ s c. record { will = c.will; subscriptions = c.subscriptions; table = c.table; queue = c.queue }) h
  contents_changed (PutCopy birth e) r q h =
      changed_in birth (with_copy e) r (λ s c. record { will = c.will; subscriptions = c.subscriptions; table = c.table; queue = all_put copy_place Copied QUEUE_LIMIT e s.queue q c.queue }) h
  contents_changed (SetCopy birth place phase) r q h =
      changed_in birth (with_phase place phase) r (λ s c. record { will = c.will; subscriptions = c.subscriptions; table = c.table; queue = all_changed copy_place Copied place (in_phase phase) s.queue (λ e u. u) c.queue }) h
  contents_changed (RemoveCopy birth place) r q h =
      changed_in birth (without_copy place) r (λ s c. record { will = c.will; subscriptions = c.subscriptions; table = c.table; queue = each_filter Copied (λ e. not (nat_eq (copy_place e) place)) s.queue c.queue }) h
  contents_changed (PutRetained kept) r q h = record { sessions = h.sessions; retained = all_put kept_place Retains RETAINED_LIMIT kept r.retained q h.retained }
  contents_changed (RemoveRetained place) r q h =
      record { sessions = h.sessions; retained = each_filter Retains (λ k. not (nat_eq (kept_place k) place)) r.retained h.retained }

  contents_all : (changes : List Change) (r : Records) → RowsBring changes → HasLawfulContents r → HasLawfulContents (changed_all changes r)
  contents_all [] r q h = h
  contents_all (change ∷ changes) r q h = contents_all changes (changed change r) q.1 (contents_changed change r q.0 h)

  -- ---- deeds

  abbrev pub Brings : Deed → Broker → Type 0
  Brings (Begin row will) b = IsWilled will
  Brings (At who (Resume expiry will)) b = IsWilled will
  Brings (At who (Enter copy)) b = IsCopied copy
  Brings (At who (Subscribe sub)) b = IsAskedFor sub
  Brings (Keep kept) b = IsPublished kept.content
  Brings (On line (SetAlias alias topic)) b = IsTopic topic
  Brings d b = ⊤

  part_brings : (who : Whose) (part : Part) (o : Option Session) (b : Broker) → Brings (At who part) b → RowsBring (part_rows_of part o)
  part_brings who part None b q = tt
  part_brings who (Resume expiry None) (Some s) b q = (tt, (tt, tt))
  part_brings who (Resume expiry (Some will)) (Some s) b q = (tt, (q, tt))
  part_brings who (Enter copy) (Some s) b q = (q, tt)
  part_brings who (Subscribe sub) (Some s) b q = (q, tt)
  part_brings who part (Some s) b q = (tt, tt)

  rows_bring : (d : Deed) (b : Broker) → Brings d b → RowsBring (rows_of d b.records)
  rows_bring (Accept number origin m) b q = (tt, tt)
  rows_bring (Begin row None) b q = (tt, (tt, tt))
  rows_bring (Begin row (Some will)) b q = (tt, (tt, (q, tt)))
  rows_bring (Name n) b q = (tt, tt)
  rows_bring (Count n) b q = (tt, tt)
  rows_bring (At who part) b q = part_brings who part (session_at who.birth b.records) b q
  rows_bring (Finish who) b q = (tt, tt)
  rows_bring (Keep kept) b q = (q, tt)
  rows_bring (Forget place) b q = (tt, tt)
  rows_bring d b q = tt

  both_bring : (xs ys : List Change) → RowsBring xs → RowsBring ys → RowsBring (xs ++ ys)
  both_bring [] ys p q = q
  both_bring (x ∷ xs) ys p q = (p.0, both_bring xs ys p.1 q)

  -- deeds that bring lawful contents write rows that do, and so does the moment with them
  pub written_bring : (ds : List Deed) (b : Broker) → AreGood Brings ds b → RowsBring (rows_of_all ds b.records)
  written_bring [] b q = tt
  written_bring (d ∷ ds) b q = both_bring (rows_of d b.records) (rows_of_all ds (stored_after d b.records)) (rows_bring d b q.0) (written_bring ds (after d b) q.1)

  stamp_brings : (now was : ℕ) → RowsBring (stamp_of now was)
  stamp_brings now was = elim (cases_Bool (nat_eq now was)) [
    | inl same ↦ rw same tt
    | inr other ↦ rw other (tt, tt)
  ]

  -- rows that bring lawful contents do with the moment behind them too
  pub stamped_bring : (now was : ℕ) (rows : List Change) → RowsBring rows → RowsBring (stamped now was rows)
  stamped_bring now was [] q = tt
  stamped_bring now was (x ∷ rows) q = both_bring (x ∷ rows) (stamp_of now was) q (stamp_brings now was)

  -- ---- lines

  topics_with : (alias : ℕ) (topic : List ℕ) (ts : List (ℕ × List ℕ)) → IsTopic topic → AllByRecursion (λ e. IsTopic e.1) ts → AllByRecursion (λ e. IsTopic e.1) (with_topic alias topic ts)
  topics_with alias topic [] q h = (q, tt)
  topics_with alias topic (e ∷ es) q h = elim (cases_Bool (nat_eq alias e.0)) [
    | inl same ↦ rw same (q, h.1)
    | inr other ↦ rw other (h.0, topics_with alias topic es q h.1)
  ]

  topics_resolved : (table : AliasTable) (topic : List ℕ) (alias : ℕ) → IsTopic topic → AllByRecursion (λ e. IsTopic e.1) table.topics
      → AllByRecursion (λ e. IsTopic e.1) (after_resolve table topic (Some alias)).topics
  topics_resolved table [] alias q h = h
  topics_resolved table (c ∷ cs) alias q h = topics_with alias (c ∷ cs) table.topics q h

  topics_part : (now n : ℕ) (part : LinePart) (l : Line) (b : Broker) → Brings (On n part) b → HasTopics l → HasTopics (line_after now part l)
  topics_part now n Hear l b q h = h
  topics_part now n (Greet birth keep_alive window largest most) l b q h = h
  topics_part now n (SetAlias alias topic) l b q h = topics_resolved l.aliases topic alias q h
  topics_part now n (Went place) l b q h = h

  topics_on : (now n : ℕ) (part : LinePart) (ls : List Line) (b : Broker) → Brings (On n part) b → AllByRecursion HasTopics ls → AllByRecursion HasTopics (on_line now n part ls)
  topics_on now n part [] b q h = tt
  topics_on now n part (l ∷ ls) b q h = elim (cases_Bool (nat_eq l.number n)) [
    | inl here ↦ rw here (topics_part now n part l b q h.0, h.1)
    | inr other ↦ rw other (h.0, topics_on now n part ls b q h.1)
  ]

  topics_without : (t : Bool) (went : List ℕ) (l : Line) → HasTopics l → HasTopics (cond t (record l { went = went }) l)
  topics_without true went l h = h
  topics_without false went l h = h

  topics_at : (birth : ℕ) (part : Part) (ls : List Line) → AllByRecursion HasTopics ls → AllByRecursion HasTopics (lines_at birth part ls)
  topics_at birth (Leave e ending) ls h =
      each_map HasTopics (without_place birth e.place) ls
      (each_more HasTopics (λ l. HasTopics (without_place birth e.place l)) (λ l q. topics_without (is_of l.session birth) _ l q) ls h)
  topics_at birth part ls h = h

  topics_after : (d : Deed) (ls : List Line) (b : Broker) → Brings d b → AllByRecursion HasTopics ls → AllByRecursion HasTopics (lines_after b.now d ls)
  topics_after (Link n) ls b q h = each_append HasTopics ls (fresh_line n b.now ∷ []) h (tt, tt)
  topics_after (On n part) ls b q h = topics_on b.now n part ls b q h
  topics_after (Gone n) ls b q h = each_filter HasTopics (λ l. not (nat_eq l.number n)) ls h
  topics_after (At who part) ls b q h = topics_at who.birth part ls h
  topics_after d ls b q h = h

  -- a deed that brings lawful contents keeps them
  pub brought_kept : (d : Deed) (b : Broker) → AreContentsLawful b → Brings d b → AreContentsLawful (after d b)
  brought_kept d b h q = record {
    stored = contents_all (rows_of d b.records) b.records (rows_bring d b q) h.stored;
    lines = topics_after d b.lines b q h.lines;
  }
