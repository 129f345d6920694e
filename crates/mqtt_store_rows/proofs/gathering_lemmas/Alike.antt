-- Messages that are alike but for payloads give the same records, but for payloads of waiting copies (3.3.3, 4.1).
use Rattle.std.proofs.Common.{◌≡◌, ◌≤◌, ◌<◌, ℕ, suc, List, [], ◌∷◌, ◌++◌, Option, length, map, nat_eq, refl, sym, ap, ap₂, subst, ◌∙◌, inl, inr}
use Rattle.std.specs.Prelude.{Some, None, flat_map, IsTrue}
use Rattle.std.specs.List.{AllByRecursion}
use Rattle.std.proofs.lemmas.Bool.{cases_Bool}
use Rattle.std.proofs.lemmas.List.{length-map}
use Rattle.std.proofs.lemmas.Simd.{map-map}
use Rattle.sqlite_value.specs.Order.{Row}
use Rattle.mqtt_base.specs.declared.limits.TheConstants.{QUEUE_LIMIT, SESSION_LIMIT}
use Rattle.mqtt_records.specs.lists.Order.{IsAbove, IsAscending, IsTable, row_at}
use Rattle.mqtt_records.proofs.lists_lemmas.OrderLemmas.{map-ascending}
use Rattle.mqtt_records.specs.declared.messages.message.RetainedMessage.{RetainedMessage}
use Rattle.mqtt_records.specs.messages.PassedOn.{IsPassedOn}
use Rattle.mqtt_records.specs.messages.Queue.{CopyRow}
use Rattle.mqtt_records.specs.declared.state.records.Records.{Records}
use Rattle.mqtt_records.specs.declared.state.session.Session.{Session}
use Rattle.mqtt_records.specs.state.Contents.{StoredMessage, copy_message, retained_message, IsMessageOf, SharesContents}
use Rattle.mqtt_records.specs.state.Members.{Has}
use Rattle.mqtt_records.specs.state.PassedOn.{StoresPassedOn}
use Rattle.mqtt_records.specs.state.Session.{birth_of, copy_place}
use Rattle.mqtt_records.specs.state.Slim.{all_slim}
use Rattle.mqtt_keep.specs.lawful.Lawful.{IsLawful}
use Rattle.mqtt_keep.specs.payloads.Payloads.{AreAsLong, IsAsLong, Payloads, records_with, row_with, session_with}
use Rattle.mqtt_keep.proofs.payloads_lemmas.Others.{slim_same, lawful_same}
use Rattle.mqtt_store_rows.specs.values.Lists.{AreRows}
use Rattle.mqtt_store_rows.specs.values.Gives.{AreSessions, AreWithin, IsWithin}
use Rattle.mqtt_store_rows.proofs.values_lemmas.OneLemmas.{same_rows}
use Rattle.mqtt_store_rows.specs.declared.rows.message.TheConstants.{MESSAGE_LIMIT}
use Rattle.mqtt_store_rows.specs.rows.Rows.{SaysMessage, SaysOwn}
use Rattle.mqtt_store_rows.specs.rows.Joins.{publication_of, Stands, SaysCopy, SaysRetained}
use Rattle.mqtt_store_rows.specs.rows.Gives.{Rows, parts_of, without_queue, copy_number, queue_numbers, kept_number, numbers_in, is_among, IsReferred, AreQueues, GivesBy, Gives}
use Rattle.mqtt_store_rows.specs.rows.Ones.{same_stored, one_message}
use Rattle.mqtt_store_rows.specs.gathering.Thin.{IsAlike, AreAlike, IsCovered, AreCovered}
use Rattle.mqtt_store_rows.specs.gathering.Slim.{IsSlimOf}

-- ---- lists

module _ {X : Type 0} (P : X → Type 0) where
  -- what holds of each holds of one that is there
  of_each : (xs : List X) (x : X) → AllByRecursion P xs → Has xs x → P x
  of_each [] x all has = absurd has
  of_each (y ∷ ys) x all has = elim has [ inl is ↦ subst P (sym is) all.0 | inr more ↦ of_each ys x all.1 more ]

  -- and of one that is found by its key
  of_found : (key : X → ℕ) (n : ℕ) (xs : List X) (x : X) → AllByRecursion P xs → row_at key n xs ≡ Some x → P x
  of_found key n [] x all is = absurd cc
  of_found key n (y ∷ ys) x all is = elim (cases_Bool (nat_eq (key y) n)) [
    | inl here ↦
        let it : y ≡ x = cc (rw here at is) in
        subst P it all.0
    | inr other ↦ of_found key n ys x all.1 (rw other at is)
  ]

  -- if it follows from what a row says, it holds of all that rows say
  of_rows : (Says : X → Row → Type 0) → ((x : X) (row : Row) → Says x row → P x) → (rows : List Row) (xs : List X) → AreRows Says rows xs → AllByRecursion P xs
  of_rows Says each [] [] are = tt
  of_rows Says each (row ∷ rows) (x ∷ xs) are = (each x row are.0, of_rows Says each rows xs are.1)
  of_rows Says each rows xs are = absurd are

-- ---- messages that are alike

module _ (whole : List ℕ) where
  one_back : (m n : StoredMessage) → IsAlike whole m n → IsAlike whole n m
  one_back m n alike =
      let same = λ (among : IsTrue (is_among n.publication whole)). sym (alike.same (subst (λ (k : ℕ). IsTrue (is_among k whole)) (sym alike.publication) among)) in
      record { publication = sym alike.publication; topic = sym alike.topic; properties = sym alike.properties; long = sym alike.long; same = same }

  -- messages that are alike are so the other way round
  pub alike_back : (a b : List StoredMessage) → AreAlike whole a b → AreAlike whole b a
  alike_back [] [] alike = tt
  alike_back (m ∷ ms) (n ∷ ns) alike = (one_back m n alike.0, alike_back ms ns alike.1)
  alike_back a b alike = absurd alike

  above_alike : (k : ℕ) (a b : List StoredMessage) → AreAlike whole a b → IsAbove publication_of k a → IsAbove publication_of k b
  above_alike k [] [] alike up = tt
  above_alike k (m ∷ ms) (n ∷ ns) alike up = (subst (λ (l : ℕ). k < l) alike.0.publication up.0, above_alike k ms ns alike.1 up.1)
  above_alike k a b alike up = absurd alike

  ascending_alike : (a b : List StoredMessage) → AreAlike whole a b → IsAscending publication_of a → IsAscending publication_of b
  ascending_alike [] [] alike up = tt
  ascending_alike (m ∷ ms) (n ∷ ns) alike up =
      (subst (λ (l : ℕ). IsAbove publication_of l ns) alike.0.publication (above_alike m.publication ms ns alike.1 up.0), ascending_alike ms ns alike.1 up.1)
  ascending_alike a b alike up = absurd alike

  many_alike : (a b : List StoredMessage) → AreAlike whole a b → length a ≡ length b
  many_alike [] [] alike = refl
  many_alike (m ∷ ms) (n ∷ ns) alike = ap (λ (k : ℕ). suc k) (many_alike ms ns alike.1)
  many_alike a b alike = absurd alike

  -- if messages are in order and within a limit, so are those that are alike
  pub table_alike : (a b : List StoredMessage) → AreAlike whole a b → (limit : ℕ) → IsTable publication_of limit a → IsTable publication_of limit b
  table_alike a b alike limit table =
      record { ascending = ascending_alike a b alike table.ascending; within = subst (λ (n : ℕ). n ≤ limit) (many_alike a b alike) table.within }

  -- a message that stands under a number, and the one that is alike
  record Found (m : StoredMessage) (n : ℕ) (messages : List StoredMessage) : Type 0 where
    one : StoredMessage
    found : row_at publication_of n messages ≡ Some one
    alike : IsAlike whole m one

  found_alike : (a b : List StoredMessage) → AreAlike whole a b → (n : ℕ) (m : StoredMessage) → row_at publication_of n a ≡ Some m → Found m n b
  found_alike [] b alike n m is = absurd cc
  found_alike (x ∷ xs) [] alike n m is = absurd alike
  found_alike (x ∷ xs) (y ∷ ys) alike n m is = elim (cases_Bool (nat_eq x.publication n)) [
    | inl here ↦
        let it : x ≡ m = cc (rw here at is) in
        record { one = y; found = rw (← alike.0.publication, here) refl; alike = subst (λ (z : StoredMessage). IsAlike whole z y) it alike.0 }
    | inr other ↦
        let more = found_alike xs ys alike.1 n m (rw other at is) in
        record { one = more.one; found = rw (← alike.0.publication, other) more.found; alike = more.alike }
  ]

-- the payload of what is found
abbrev payload_of : Option StoredMessage → List ℕ
payload_of None = []
payload_of (Some m) = m.payload

-- the payload of the message to which a copy refers, and none if there is no such message
abbrev pub payload_in : List StoredMessage → Payloads
payload_in messages e = payload_of (row_at publication_of e.copy.id.publication messages)

-- ---- records with other payloads

module _ {X : Type 0} (f : X → X) where
  table_same : (key : X → ℕ) (limit : ℕ) → ((x : X) → key (f x) ≡ key x) → (xs : List X) → IsTable key limit xs → IsTable key limit (map f xs)
  table_same key limit same xs table = record { ascending = map-ascending key f xs same table.ascending; within = rw length-map table.within }

  flat_map_same : {Y : Type 0} (g : X → List Y) → ((x : X) → g (f x) ≡ g x) → (xs : List X) → flat_map g (map f xs) ≡ flat_map g xs
  flat_map_same g same [] = refl
  flat_map_same g same (x ∷ xs) = ap₂ (λ ys zs. ys ++ zs) (same x) (flat_map_same g same xs)

module _ (payloads : Payloads) where
  queue_within : (s : Session) → IsWithin s → IsWithin (session_with payloads s)
  queue_within s within =
      let queue = table_same (row_with payloads) copy_place QUEUE_LIMIT (λ e. refl) s.queue within.queue in
      record { subscriptions = within.subscriptions; inbound = within.inbound; queue = queue }

  queues_within : (ss : List Session) → AllByRecursion IsWithin ss → AllByRecursion IsWithin (map (session_with payloads) ss)
  queues_within [] within = tt
  queues_within (s ∷ ss) within = (queue_within s within.0, queues_within ss within.1)

  -- lists stay in order and within their limits with other payloads
  pub within_alike : (r : Records) → AreWithin r → AreWithin (records_with payloads r)
  within_alike r within =
      let sessions = table_same (session_with payloads) birth_of SESSION_LIMIT (λ s. refl) r.sessions within.sessions in
      record { sessions = sessions; each = queues_within r.sessions within.each; retained = within.retained }

  numbers_same : (r : Records) → numbers_in (records_with payloads r) ≡ numbers_in r
  numbers_same r =
      let queued = flat_map_same (session_with payloads) queue_numbers (λ s. map-map copy_number (row_with payloads) s.queue) r.sessions in
      ap (λ (ns : List ℕ). ns ++ map kept_number r.retained) queued

  bare_same : (ss : List Session) → map without_queue (map (session_with payloads) ss) ≡ map without_queue ss
  bare_same = map-map without_queue (session_with payloads)

module _ (whole : List ℕ) where
  among_alike : (numbers others : List ℕ) → numbers ≡ others → (a b : List StoredMessage) → AreAlike whole a b
      → AllByRecursion (λ m. IsTrue (is_among m.publication numbers)) a → AllByRecursion (λ m. IsTrue (is_among m.publication others)) b
  among_alike numbers others same [] [] alike all = tt
  among_alike numbers others same (m ∷ ms) (n ∷ ns) alike all =
      let here = subst (λ (k : ℕ). IsTrue (is_among k numbers)) alike.0.publication all.0 in
      (subst (λ (l : List ℕ). IsTrue (is_among n.publication l)) same here, among_alike numbers others same ms ns alike.1 all.1)
  among_alike numbers others same a b alike all = absurd alike

  -- records refer to the messages that are alike, whatever their payloads
  pub referred_alike : (a b : List StoredMessage) → AreAlike whole a b → (payloads : Payloads) (r : Records)
      → AllByRecursion (IsReferred r) a → AllByRecursion (IsReferred (records_with payloads r)) b
  referred_alike a b alike payloads r all = among_alike (numbers_in r) (numbers_in (records_with payloads r)) (sym (numbers_same payloads r)) a b alike all

-- what all copies in queues are that rows say
module _ (messages : List StoredMessage) (P : CopyRow → Type 0) (each : (x : CopyRow) (row : Row) → SaysCopy messages x row → P x) where
  of_queues : (rows : List Row) (ss : List Session) → AreQueues messages rows ss → AllByRecursion (λ (s : Session). AllByRecursion P s.queue) ss
  of_queues rows [] are = tt
  of_queues rows (s ∷ ss) are = (of_rows P (SaysCopy messages) each are.1.front s.queue are.1.are, of_queues are.0 ss are.2)

-- rows say the same with messages that are alike
module _ (whole : List ℕ) (a b : List StoredMessage) (alike : AreAlike whole a b) where
  -- a copy's payload is as long as that of its message
  long_copy : (x : CopyRow) → Stands a (copy_message x) → IsAsLong (payload_in b) x
  long_copy x stands =
      let f = found_alike whole a b alike x.copy.id.publication (copy_message x) stands in
      ap (λ (m : Option StoredMessage). length (payload_of m)) f.found ∙ sym f.alike.long

  -- the message that is alike stands there, with its own payload
  stands_with : (m : StoredMessage) (payload : List ℕ) (f : Found whole m m.publication b) → f.one.payload ≡ payload → Stands b (record m { payload = payload })
  stands_with m payload f same =
      let first = f.alike in
      let one = same_stored _ _ _ _ _ _ _ _ (sym first.publication) (sym first.topic) (sym first.properties) same in
      f.found ∙ ap (λ (m : StoredMessage). Some m) one

  copy_alike : (x : CopyRow) (row : Row) → SaysCopy a x row → SaysCopy b (row_with (payload_in b) x) row
  copy_alike x row says =
      let f = found_alike whole a b alike x.copy.id.publication (copy_message x) says.message in
      let queued = says.own in
      let was = queued.own in
      let own : SaysOwn (row_with (payload_in b) x).copy row =
      record { id = was.id; qos = was.qos; qos_range = was.qos_range; retain = was.retain; identifiers = was.identifiers; arrived = was.arrived; arrived_range = was.arrived_range } in
      record {
        own = record { place = queued.place; place_range = queued.place_range; phase = queued.phase; own = own };
        message = stands_with (copy_message x) (payload_in b x) f (sym (ap payload_of f.found));
        spelled = record { properties = says.spelled.properties; short = rw (long_copy x says.message) says.spelled.short };
      }

  copies_alike : (rows : List Row) (xs : List CopyRow) → AreRows (SaysCopy a) rows xs → AreRows (SaysCopy b) rows (map (row_with (payload_in b)) xs)
  copies_alike [] [] are = tt
  copies_alike (row ∷ rows) (x ∷ xs) are = (copy_alike x row are.0, copies_alike rows xs are.1)
  copies_alike rows xs are = absurd are

  queues_alike : (rows : List Row) (ss : List Session) → AreQueues a rows ss → AreQueues b rows (map (session_with (payload_in b)) ss)
  queues_alike rows [] are = are
  queues_alike rows (s ∷ ss) are =
      let takes = are.1 in
      (are.0, record { front = takes.front; parts = takes.parts; mine = takes.mine; are = copies_alike takes.front s.queue takes.are }, queues_alike are.0 ss are.2)

  kept_alike : (kept : RetainedMessage) (row : Row) → IsCovered whole row → SaysRetained a kept row → SaysRetained b kept row
  kept_alike kept row covered says =
      let f = found_alike whole a b alike kept.publication (retained_message kept) says.message in
      let same = f.alike.same (covered kept.publication says.own.publication says.own.publication_range) in
      record { own = says.own; message = stands_with (retained_message kept) kept.content.payload f (sym same) }

  all_kept_alike : (rows : List Row) (all : List RetainedMessage) → AreCovered whole rows → AreRows (SaysRetained a) rows all → AreRows (SaysRetained b) rows all
  all_kept_alike [] [] covered are = tt
  all_kept_alike (row ∷ rows) (x ∷ xs) covered are = (kept_alike x row covered.0 are.0, all_kept_alike rows xs covered.1 are.1)
  all_kept_alike rows xs covered are = absurd are

  -- with messages that are alike, rows give the same records with their payloads
  pub given_alike : (rows : Rows) → AreCovered whole rows.kept → (r : Records) → GivesBy a rows r → GivesBy b rows (records_with (payload_in b) r)
  given_alike rows covered r gives =
      let others = subst (AreSessions rows.sessions (parts_of rows)) (sym (bare_same (payload_in b) r.sessions)) gives.sessions.others in
      let queues = queues_alike rows.queued r.sessions gives.sessions.queues in
      record { numbers = gives.numbers; sessions = record { others = others; queues = queues }; retained = all_kept_alike rows.kept r.retained covered gives.retained }

  -- payloads of messages that are alike are as long as those of the records that rows give
  pub long_alike : (rows : Rows) (r : Records) → GivesBy a rows r → AreAsLong (payload_in b) r
  long_alike rows r gives =
      of_queues a (IsAsLong (payload_in b)) (λ x row says. long_copy x says.message) rows.queued r.sessions gives.sessions.queues

-- ---- what is so of records that rows give

module _ (messages : List StoredMessage) where
  all_stand : (rows : Rows) (r : Records) → GivesBy messages rows r → (m : StoredMessage) → IsMessageOf r m → Stands messages m
  all_stand rows r gives m (inl it) =
      let stand = of_queues messages (λ x. Stands messages (copy_message x)) (λ x row says. says.message) rows.queued r.sessions gives.sessions.queues in
      let queue = of_each (λ (s : Session). AllByRecursion (λ (x : CopyRow). Stands messages (copy_message x)) s.queue) r.sessions it.2.0 stand it.2.1 in
      subst (Stands messages) (sym it.3) (of_each (λ (x : CopyRow). Stands messages (copy_message x)) it.2.0.queue it.1 queue it.2.3)
  all_stand rows r gives m (inr it) =
      let stand = of_rows (λ (x : RetainedMessage). Stands messages (retained_message x)) (SaysRetained messages) (λ x row says. says.message) rows.kept r.retained gives.retained in
      subst (Stands messages) (sym it.2) (of_each (λ (x : RetainedMessage). Stands messages (retained_message x)) r.retained it.0 stand it.1)

  -- in records that rows give, all copies and retained messages of one number say the same
  pub given_shares : (rows : Rows) (r : Records) → GivesBy messages rows r → SharesContents r
  given_shares rows r gives m one n other same =
      let first : row_at publication_of m.publication messages ≡ Some m = all_stand rows r gives m one in
      let second : row_at publication_of n.publication messages ≡ Some n = all_stand rows r gives n other in
      let both : Some n ≡ Some m = sym second ∙ (ap (λ (l : ℕ). row_at publication_of l messages) same ∙ first) in
      cc

  -- what such records store has properties as publications pass them on, if rows say the messages
  pub given_passes : (said : List Row) → AreRows SaysMessage said messages → (rows : Rows) (r : Records) → GivesBy messages rows r → StoresPassedOn r
  given_passes said are rows r gives =
      let IsPassed = λ (m : StoredMessage). IsPassedOn m.properties in
      let all = of_rows IsPassed SaysMessage (λ m row says. says.properties.goes_on) said messages are in
      let one = λ (m : StoredMessage) (stands : Stands messages m). of_found IsPassed publication_of m.publication messages m all stands in
      record {
        sessions = of_queues messages (λ e. IsPassedOn e.copy.content.properties) (λ x row says. one (copy_message x) says.message) rows.queued r.sessions gives.sessions.queues;
        retained = of_rows (λ (k : RetainedMessage). IsPassedOn k.content.properties) (SaysRetained messages) (λ x row says. one (retained_message x) says.message) rows.kept r.retained gives.retained;
      }

-- ---- what a load with thin messages tells

module _ (whole : List ℕ) (full thin : List StoredMessage) (alike : AreAlike whole full thin) (rows : Rows) (covered : AreCovered whole rows.kept)
    (said : AreRows SaysMessage rows.messages full) (table : IsTable publication_of MESSAGE_LIMIT full) where
  -- lawful records that rows give with thin messages are, slim, those that they give
  pub slim_of_thin : (q : Records) → GivesBy thin rows q → AllByRecursion (IsReferred q) thin → IsLawful q → (s : Records) → s ≡ all_slim q → IsSlimOf (Gives rows) s
  slim_of_thin q gives referred lawful s is =
      let back = alike_back whole full thin alike in
      let payloads = payload_in full in
      let long = long_alike whole thin full back rows q gives in
      let by = given_alike whole thin full back rows covered q gives in
      record {
        whole = records_with payloads q;
        slim_is = is ∙ sym (slim_same payloads q long);
        has = record { messages = full; said = said; order = table; by = by; referred = referred_alike whole thin full back payloads q referred };
        lawful = lawful_same payloads q long lawful (given_shares full rows (records_with payloads q) by);
        passed = given_passes full rows.messages said rows (records_with payloads q) by;
      }

  -- if they give no lawful records with thin messages, they give none
  pub none_of_thin : ((q : Records) → GivesBy thin rows q → AllByRecursion (IsReferred q) thin → IsLawful q → ⊥) → (r : Records) → Gives rows r → IsLawful r → ⊥
  none_of_thin none r gives lawful =
      let same : gives.messages ≡ full = same_rows SaysMessage one_message rows.messages gives.messages full gives.said said in
      let by : GivesBy full rows r = subst (λ (l : List StoredMessage). GivesBy l rows r) same gives.by in
      let referred : AllByRecursion (IsReferred r) full = subst (AllByRecursion (IsReferred r)) same gives.referred in
      let payloads = payload_in thin in
      let thinly = given_alike whole full thin alike rows covered r by in
      none (records_with payloads r) thinly (referred_alike whole full thin alike payloads r referred)
      (lawful_same payloads r (long_alike whole full thin alike rows r by) lawful (given_shares thin rows (records_with payloads r) thinly))
