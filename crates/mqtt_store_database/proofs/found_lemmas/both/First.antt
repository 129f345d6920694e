-- The tables with which each schema begins: what their rows show, and which records they are written from.
use Rattle.std.proofs.Common.{◌≡◌, ℕ, pos, Bool, true, bytes_eq, List, [], ◌∷◌, filter, refl, sym, ap, subst, ◌∙◌, arith, inl, inr, true≢false}
use Rattle.std.specs.Prelude.{Some, None, codes}
use Rattle.std.proofs.lemmas.Bool.{cases_Bool}
use Rattle.sqlite_value.specs.declared.value.Value.TheVariants.{Text, Int, Blob}
use Rattle.sqlite_value.specs.Order.{Row, column}
use Rattle.sqlite_trees.specs.Tree.{Trees, rowid}
use Rattle.sqlite_schema.specs.Rules.{Obeys}
use Rattle.sqlite_rules.specs.Edit.{id_in}
use Rattle.sqlite_rules.specs.Lists.{Has}
use Rattle.mqtt_records.specs.declared.messages.message.RetainedMessage.{RetainedMessage}
use Rattle.mqtt_records.specs.declared.messages.message.Will.{Will as WillMessage}
use Rattle.mqtt_records.specs.messages.Queue.{CopyRow}
use Rattle.mqtt_records.specs.declared.state.records.Records.{Records}
use Rattle.mqtt_records.specs.declared.state.session.Columns.{Columns}
use Rattle.mqtt_records.specs.declared.state.session.Session.{Session as SessionItem}
use Rattle.mqtt_records.specs.declared.state.subscription.Subscription.{Subscription as SubscriptionItem}
use Rattle.mqtt_records.specs.state.Session.{columns_of}
use Rattle.mqtt_records.specs.state.Members.{Has as HasItem, InPart, InQueue}
use Rattle.mqtt_store_rows.specs.values.Values.{or_zero, IsIdentifier}
use Rattle.mqtt_store_rows.specs.values.Rows.{SaysNumbers, SaysSession, SaysWill, SaysSubscription, SaysOpen}
use Rattle.mqtt_store_rows.specs.values.Lists.{AreRows}
use Rattle.mqtt_store_rows.specs.values.Gives.{counters_of}
use Rattle.mqtt_store_tables.specs.forms.Tables.{meta, will, sub, inbound}
use Rattle.mqtt_store_tables.specs.declared.forms.schema.StoreTable.TheVariants.{Meta, Session, Will, Subscription, Inbound}
use Rattle.mqtt_store_tables.specs.statements.Layout.{Layout, schema_of}
use Rattle.mqtt_store_tables.specs.statements.Content.{IsShapedAt}
use Rattle.mqtt_store_tables.proofs.statements_lemmas.sets.SetNumber.{own_text, one_name}
use Rattle.mqtt_store_database.specs.asking.Listing.{shown, tree_of, IsListing}
use Rattle.mqtt_store_database.specs.item_laws.Members.{HasColumns, AllOrdered, SameRows, will_of, subscriptions_of, inbound_of}
use Rattle.mqtt_store_database.specs.item_laws.Items.{IsNumberRow, IsSessionRow, IsWillRow, IsSubscriptionRow, IsOpenRow}
use Rattle.mqtt_store_database.specs.item_laws.Written.{AreWritten, AreSayable, IsSayableWill, IsSayableSubscription, IsWillOf, IsSubscriptionOf, IsOpenOf}
use Rattle.mqtt_store_database.proofs.item_laws_lemmas.records.Determined.{determined}
use Rattle.mqtt_store_database.proofs.found_lemmas.both.Exact.{by_columns, typed_row, as_long, key_null, something, int_there, blob_there, int_of, numbered_is, keyed_is}
use Rattle.mqtt_store_database.proofs.found_lemmas.both.Traverse.{IsSaid, Shares, SaysNamed, SaysItself, SaysOf, numbers_at, rows_each, rows_only, numbers_each, numbers_only, shares_each, shares_only}
use Rattle.mqtt_store_database.proofs.found_lemmas.both.Lines.{AreLined, number_line, session_line, will_line, subscription_line, open_line, number_shown, session_shown, will_shown, subscription_shown, open_shown, number_said, session_said, will_said, subscription_said, open_said}
use Rattle.mqtt_store_database.proofs.found_lemmas.both.Same.{session_same, will_same, subscription_same, open_same, number_same}
use Rattle.mqtt_store_database.proofs.found_lemmas.both.Table.{rewritten, same_item, lined}

-- the tables have the rows of these records, in a store of that schema
pub record HasFirstRows (schema : ℕ) (db : Trees) (r : Records) : Type 0 where
  pub meta : AreWritten IsNumberRow (HasItem (numbers_at schema r)) (db 0)
  pub sessions : AreWritten IsSessionRow (HasColumns r) (db 2)
  pub wills : AreWritten IsWillRow (IsWillOf r) (db 4)
  pub subscriptions : AreWritten IsSubscriptionRow (IsSubscriptionOf r) (db 5)
  pub inbound : AreWritten IsOpenRow (IsOpenOf r) (db 7)

-- what their rows show is written from these records
pub record HasFirstLines (schema : ℕ) (db : Trees) (r : Records) : Type 0 where
  pub meta : AreLined Meta number_line (HasItem (numbers_at schema r)) db
  pub sessions : AreLined Session session_line (HasColumns r) db
  pub wills : AreLined Will will_line (IsWillOf r) db
  pub subscriptions : AreLined Subscription subscription_line (IsSubscriptionOf r) db
  pub inbound : AreLined Inbound open_line (IsOpenOf r) db

-- rows that are written from records show the lines of their items
pub first_shown : (schema : ℕ) (db : Trees) (r : Records) → HasFirstRows schema db r → HasFirstLines schema db r
first_shown schema db r h = record {
  meta = rewritten _ _ _ _ (λ x row there. number_shown x row) h.meta;
  sessions = rewritten _ _ _ _ (λ x row there. session_shown x row) h.sessions;
  wills = rewritten _ _ _ _ (λ x row there. will_shown x row) h.wills;
  subscriptions = rewritten _ _ _ _ (λ x row there. subscription_shown x row) h.subscriptions;
  inbound = rewritten _ _ _ _ (λ x row there. open_shown x row) h.inbound;
}

-- ---- rows that show lines, in tables that obey their schema, are written from the items

module _ (l : Layout) (db : Trees) (obeys : Obeys (schema_of l) db) (of_meta : IsShapedAt db 0) (of_sub : IsShapedAt db 5) (of_inbound : IsShapedAt db 7) where
  number_written : (x : List ℕ × ℕ) (row : Row) → Has (db 0) row → shown Meta row ≡ number_line x → IsNumberRow x row
  number_written x row h is =
      let last : column row 2 ≡ Int (pos x.1) = ap (λ (l : Row). column l 1) is in
      let long = as_long None meta.columns row (typed_row (schema_of l) db meta row obeys (inl refl) h) (something _ _ last (int_there x.1)) in
      (id_in (rowid row), numbered_is row (shown Meta row) (number_line x) (by_columns 3 row long) is (int_of db 0 row of_meta h))

  session_written : (c : Columns) (row : Row) → Has (db 2) row → shown Session row ≡ session_line c → IsSessionRow c row
  session_written c row h is = record {
    birth = ap (λ (l : Row). column l 0) is;
    client = ap (λ (l : Row). column l 1) is;
    expiry = ap (λ (l : Row). column l 2) is;
    closed = ap (λ (l : Row). column l 3) is;
  }

  will_written : (x : ℕ × WillMessage) (row : Row) → Has (db 4) row → shown Will row ≡ will_line x → IsWillRow x row
  will_written x row h is =
      let typed = typed_row (schema_of l) db will row obeys (inr (inr (inl refl))) h in
      let last : column row 7 ≡ Blob x.1.payload = ap (λ (l : Row). column l 6) is in
      let long = as_long (Some 0) will.columns row typed (something _ _ last (blob_there x.1.payload)) in
      keyed_is row (shown Will row) (will_line x) (by_columns 8 row long) (key_null will.columns row typed) is

  subscription_written : (x : ℕ × SubscriptionItem) (row : Row) → Has (db 5) row → shown Subscription row ≡ subscription_line x → IsSubscriptionRow x row
  subscription_written x row h is =
      let last : column row 8 ≡ Int (pos (or_zero x.1.identifier)) = ap (λ (l : Row). column l 7) is in
      let long = as_long None sub.columns row (typed_row (schema_of l) db sub row obeys (inr (inr (inr (inl refl)))) h) (something _ _ last (int_there (or_zero x.1.identifier))) in
      (id_in (rowid row), numbered_is row (shown Subscription row) (subscription_line x) (by_columns 9 row long) is (int_of db 5 row of_sub h))

  open_written : (x : ℕ × ℕ) (row : Row) → Has (db 7) row → shown Inbound row ≡ open_line x → IsOpenRow x row
  open_written x row h is =
      let last : column row 2 ≡ Int (pos x.1) = ap (λ (l : Row). column l 1) is in
      let long = as_long None inbound.columns row (typed_row (schema_of l) db inbound row obeys (inr (inr (inr (inr (inl refl))))) h) (something _ _ last (int_there x.1)) in
      (id_in (rowid row), numbered_is row (shown Inbound row) (open_line x) (by_columns 3 row long) is (int_of db 7 row of_inbound h))

  -- rows that show the lines of items, in tables that obey their schema, are those that are written from them
  pub first_written : (schema : ℕ) (r : Records) → HasFirstLines schema db r → HasFirstRows schema db r
  first_written schema r h = record {
    meta = rewritten _ IsNumberRow _ _ number_written h.meta;
    sessions = rewritten _ IsSessionRow _ _ session_written h.sessions;
    wills = rewritten _ IsWillRow _ _ will_written h.wills;
    subscriptions = rewritten _ IsSubscriptionRow _ _ subscription_written h.subscriptions;
    inbound = rewritten _ IsOpenRow _ _ open_written h.inbound;
  }

  -- no two numbers have one name
  pub names_single : (schema : ℕ) (r : Records) → HasFirstLines schema db r → (a b : Row) → Has (db 0) a → Has (db 0) b → column a 1 ≡ column b 1 → a ≡ b
  names_single schema r h a b ha hb same =
      let it = h.meta.only b hb in
      let name : column b 1 ≡ Text it.0.0 = ap (λ (l : Row). column l 0) it.2 in
      one_name l db it.0.0 a b obeys of_meta ha hb (rw (same ∙ name) (own_text it.0.0)) (rw name (own_text it.0.0))

-- ---- rows that are listed

-- the rows of these tables: meta by name, session and will by birth, sub by birth and place, inbound by birth and identifier
pub record FirstRows : Type 0 where
  pub meta : List Row
  pub sessions : List Row
  pub wills : List Row
  pub subscriptions : List Row
  pub inbound : List Row

-- a load reads these rows of the tables
pub record AreFirstListed (db : Trees) (rows : FirstRows) : Type 0 where
  pub meta : IsListing Meta db rows.meta
  pub sessions : IsListing Session db rows.sessions
  pub wills : IsListing Will db rows.wills
  pub subscriptions : IsListing Subscription db rows.subscriptions
  pub inbound : IsListing Inbound db rows.inbound

-- they say the numbers and sessions of these records, with what sessions have beside their queues
pub record AreFirstSaid (schema : ℕ) (rows : FirstRows) (q : Records) : Type 0 where
  pub numbers : SaysNumbers schema (counters_of q) rows.meta
  pub sessions : AreRows SaysItself rows.sessions q.sessions
  pub wills : Shares SaysWill will_of rows.wills q.sessions
  pub subscriptions : Shares SaysSubscription subscriptions_of rows.subscriptions q.sessions
  pub inbound : Shares SaysOpen inbound_of rows.inbound q.sessions

module _ (schema : ℕ) (rows : FirstRows) (q : Records) (said : AreFirstSaid schema rows q) where
  own_said : (c : Columns) → HasColumns q c → IsSaid SaysSession rows.sessions c
  own_said c it =
      let row = rows_each SaysItself rows.sessions q.sessions said.sessions it.0 it.1 in
      (row.0, row.1, subst (λ (d : Columns). SaysSession d row.0) it.2 row.2)

  own_says : (row : Row) → Has rows.sessions row → (c : Columns) × HasColumns q c × SaysSession c row
  own_says row there =
      let it = rows_only SaysItself rows.sessions q.sessions said.sessions row there in
      (columns_of it.0, (it.0, it.1, refl), it.2)

  -- rows that are listed and say what records have show their lines
  pub first_found : (db : Trees) → AreFirstListed db rows → HasFirstLines schema db q
  first_found db listed = record {
    meta = lined (shown Meta) number_line SaysNamed (HasItem (numbers_at schema q)) number_said (db (tree_of Meta)) rows.meta listed.meta.each
        (numbers_each schema q rows.meta said.numbers) (numbers_only schema q rows.meta said.numbers);
    sessions = lined (shown Session) session_line SaysSession (HasColumns q) session_said (db (tree_of Session)) rows.sessions listed.sessions.each own_said own_says;
    wills = lined (shown Will) will_line (SaysOf SaysWill) (IsWillOf q) will_said (db (tree_of Will)) rows.wills listed.wills.each
        (shares_each SaysWill will_of rows.wills q.sessions said.wills) (shares_only SaysWill will_of rows.wills q.sessions said.wills);
    subscriptions = lined (shown Subscription) subscription_line (SaysOf SaysSubscription) (IsSubscriptionOf q) subscription_said (db (tree_of Subscription)) rows.subscriptions listed.subscriptions.each
        (shares_each SaysSubscription subscriptions_of rows.subscriptions q.sessions said.subscriptions) (shares_only SaysSubscription subscriptions_of rows.subscriptions q.sessions said.subscriptions);
    inbound = lined (shown Inbound) open_line (SaysOf SaysOpen) (IsOpenOf q) open_said (db (tree_of Inbound)) rows.inbound listed.inbound.each
        (shares_each SaysOpen inbound_of rows.inbound q.sessions said.inbound) (shares_only SaysOpen inbound_of rows.inbound q.sessions said.inbound);
  }

  -- a Will that is found can be said
  pub wills_sayable : (b : ℕ) (x : WillMessage) → InPart will_of q.sessions b x → IsSayableWill x
  wills_sayable b x it = (shares_each SaysWill will_of rows.wills q.sessions said.wills (b, x) it).2.1.properties.is.fits

  no_zero : (s : SubscriptionItem) → IsIdentifier s.identifier → s.identifier ≡ Some 0 → ⊥
  no_zero s range zero = let low : IsIdentifier (Some 0) = subst IsIdentifier zero range in let none = low.0 in omega (arith, none)

  -- a subscription that is found can be said
  pub subscriptions_sayable : (b : ℕ) (x : SubscriptionItem) → InPart subscriptions_of q.sessions b x → IsSayableSubscription x
  subscriptions_sayable b x it = no_zero x (shares_each SaysSubscription subscriptions_of rows.subscriptions q.sessions said.subscriptions (b, x) it).2.1.identifier_range

-- ---- records with the same lines

kept_in : {X : Type 0} (p : X → Bool) (xs : List X) (x : X) → HasItem xs x → p x ≡ true → HasItem (filter p xs) x
kept_in p [] x h passes = absurd h
kept_in p (y ∷ ys) x h passes = elim (cases_Bool (p y)) [
  | inl stays ↦ let there : HasItem (y ∷ filter p ys) x = elim h [ inl here ↦ inl here | inr later ↦ inr (kept_in p ys x later passes) ] in rw stays there
  | inr goes ↦ rw goes (elim h [ inl here ↦ absurd (true≢false (sym passes ∙ (ap p here ∙ goes))) | inr later ↦ kept_in p ys x later passes ])
]

-- the number of that name
abbrev named : List ℕ → List ℕ × ℕ → Bool
named name x = bytes_eq x.0 name

the_one : (name : List ℕ) (m n : ℕ) → HasItem {X = List ℕ × ℕ} ((name, n) ∷ []) (name, m) → m ≡ n
the_one name m n (inl e) = ap (λ (x : List ℕ × ℕ). x.1) e
the_one name m n (inr none) = absurd none

abbrev records : ℕ → ℕ → ℕ → ℕ → ℕ → List SessionItem → List RetainedMessage → Records
records births publications subscribes autos moment sessions retained =
    record { births = births; publications = publications; subscribes = subscribes; autos = autos; moment = moment; sessions = sessions; retained = retained }

same_records : (a b c d e f g h i j : ℕ) (k l : List SessionItem) (m n : List RetainedMessage) → a ≡ b → c ≡ d → e ≡ f → g ≡ h → i ≡ j → k ≡ l → m ≡ n → records a c e g i k m ≡ records b d f h j l n
same_records a b c d e f g h i j k l m n p q r s t u v = rw (p, q, r, s, t, u, v) refl

-- tables that show the lines of records are of one schema
pub one_schema : (schema other : ℕ) (db : Trees) (q r : Records) → HasFirstLines schema db q → HasFirstLines other db r → schema ≡ other
one_schema schema other db q r h k =
    let to = same_item (shown Meta) number_line (HasItem (numbers_at schema q)) (HasItem (numbers_at other r)) (db 0) h.meta k.meta (λ x y a b e. number_same x y e) in
    let there = to (codes "schema", schema) (inr (inr (inr (inr (inr (inl refl)))))) in
    the_one (codes "schema") _ _ (kept_in (named (codes "schema")) (numbers_at other r) _ there refl)

module _ (schema : ℕ) (db : Trees) (q r : Records) (h : HasFirstLines schema db q) (k : HasFirstLines schema db r) (fits : AreSayable q) (suits : AreSayable r) where
  numbers_to : (x : List ℕ × ℕ) → HasItem (numbers_at schema q) x → HasItem (numbers_at schema r) x
  numbers_to = same_item (shown Meta) number_line (HasItem (numbers_at schema q)) (HasItem (numbers_at schema r)) (db 0) h.meta k.meta (λ x y a b e. number_same x y e)

  columns_to : (c : Columns) → HasColumns q c → HasColumns r c
  columns_to = same_item (shown Session) session_line (HasColumns q) (HasColumns r) (db 2) h.sessions k.sessions (λ x y a b e. session_same x y e)

  wills_to : (x : ℕ × WillMessage) → IsWillOf q x → IsWillOf r x
  wills_to = same_item (shown Will) will_line (IsWillOf q) (IsWillOf r) (db 4) h.wills k.wills (λ x y a b e. will_same x y (fits.wills x.0 x.1 a) (suits.wills y.0 y.1 b) e)

  subscriptions_to : (x : ℕ × SubscriptionItem) → IsSubscriptionOf q x → IsSubscriptionOf r x
  subscriptions_to = same_item (shown Subscription) subscription_line (IsSubscriptionOf q) (IsSubscriptionOf r) (db 5) h.subscriptions k.subscriptions
      (λ x y a b e. subscription_same x y (fits.subscriptions x.0 x.1 a) (suits.subscriptions y.0 y.1 b) e)

  inbound_to : (x : ℕ × ℕ) → IsOpenOf q x → IsOpenOf r x
  inbound_to = same_item (shown Inbound) open_line (IsOpenOf q) (IsOpenOf r) (db 7) h.inbound k.inbound (λ x y a b e. open_same x y e)

-- both have the copy in that session's queue, or neither
abbrev pub SameQueues : Records → Records → Type 0
SameQueues q r = (b : ℕ) (x : CopyRow) → (InQueue q b x → InQueue r b x) × (InQueue r b x → InQueue q b x)

module _ (schema : ℕ) (db : Trees) (q r : Records) (h : HasFirstLines schema db q) (k : HasFirstLines schema db r) (fits : AreSayable q) (suits : AreSayable r) where
  same_rows : SameQueues q r → SameRows q r
  same_rows queues = record {
    columns = λ c. (columns_to schema db q r h k fits suits c, columns_to schema db r q k h suits fits c);
    wills = λ b x. (wills_to schema db q r h k fits suits (b, x), wills_to schema db r q k h suits fits (b, x));
    subscriptions = λ b x. (subscriptions_to schema db q r h k fits suits (b, x), subscriptions_to schema db r q k h suits fits (b, x));
    inbound = λ b x. (inbound_to schema db q r h k fits suits (b, x), inbound_to schema db r q k h suits fits (b, x));
    queues = queues;
  }

  to : (x : List ℕ × ℕ) → HasItem (numbers_at schema q) x → HasItem (numbers_at schema r) x
  to = numbers_to schema db q r h k fits suits

  births : q.births ≡ r.births
  births = the_one (codes "births") _ _ (kept_in (named (codes "births")) (numbers_at schema r) _ (to (codes "births", q.births) (inl refl)) refl)

  publications : q.publications ≡ r.publications
  publications = the_one (codes "publications") _ _ (kept_in (named (codes "publications")) (numbers_at schema r) _ (to (codes "publications", q.publications) (inr (inl refl))) refl)

  subscribes : q.subscribes ≡ r.subscribes
  subscribes = the_one (codes "subscribes") _ _ (kept_in (named (codes "subscribes")) (numbers_at schema r) _ (to (codes "subscribes", q.subscribes) (inr (inr (inl refl)))) refl)

  autos : q.autos ≡ r.autos
  autos = the_one (codes "autos") _ _ (kept_in (named (codes "autos")) (numbers_at schema r) _ (to (codes "autos", q.autos) (inr (inr (inr (inl refl))))) refl)

  moment : q.moment ≡ r.moment
  moment = the_one (codes "moment") _ _ (kept_in (named (codes "moment")) (numbers_at schema r) _ (to (codes "moment", q.moment) (inr (inr (inr (inr (inl refl)))))) refl)

  -- records that these tables show are the same, if their lists are in order, and queues and retained messages are the same
  pub first_alike : AllOrdered q → AllOrdered r → SameQueues q r → q.retained ≡ r.retained → q ≡ r
  first_alike up rise queues retained =
      same_records q.births r.births q.publications r.publications q.subscribes r.subscribes q.autos r.autos q.moment r.moment q.sessions r.sessions q.retained r.retained
      births publications subscribes autos moment (determined q r up rise (same_rows queues)) retained
