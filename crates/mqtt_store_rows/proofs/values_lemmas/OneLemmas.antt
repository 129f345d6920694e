-- Rows give one thing.
use Rattle.std.proofs.Common.{◌≡◌, ℕ, List, [], ◌∷◌, refl, ap, subst, ◌∙◌}
use Rattle.std.specs.Prelude.{Option, Some, None}
use Rattle.sqlite_value.specs.Order.{Row}
use Rattle.mqtt_records.specs.declared.messages.message.Will.{Will}
use Rattle.mqtt_records.specs.declared.messages.message.RetainedMessage.{RetainedMessage}
use Rattle.mqtt_records.specs.messages.Queue.{CopyRow}
use Rattle.mqtt_records.specs.declared.state.records.Records.{Records}
use Rattle.mqtt_records.specs.declared.state.session.Columns.{Columns}
use Rattle.mqtt_records.specs.declared.state.session.Session.{Session}
use Rattle.mqtt_records.specs.declared.state.subscription.Subscription.{Subscription}
use Rattle.mqtt_records.specs.state.Session.{birth_of, columns_of}
use Rattle.mqtt_records.specs.lists.Order.{IsAscending}
use Rattle.mqtt_store_rows.specs.declared.values.meta.Counters.{Counters}
use Rattle.mqtt_store_rows.specs.values.Rows.{SaysWill, SaysSubscription, SaysOpen, SaysCopy}
use Rattle.mqtt_store_rows.specs.values.Ones.{one_columns, one_will, one_subscription, one_open, one_copy}
use Rattle.mqtt_store_rows.specs.values.Lists.{AreRows, BeginsOther, Takes}
use Rattle.mqtt_store_rows.specs.values.Gives.{Parts, list_of, TakesParts, AreSessions}
use Rattle.mqtt_store_rows.specs.values.Ends.{EndsParts}
use Rattle.mqtt_store_rows.proofs.values_lemmas.PartLemmas.{same_parts, same_rest, ends_before}

-- ---- lists

module _ {X : Type 0} (Says : X → Row → Type 0) (one : (x y : X) (row : Row) → Says x row → Says y row → x ≡ y) where
  -- if a row says one item at most, rows say one list of items at most
  pub same_rows : (rows : List Row) (xs ys : List X) → AreRows Says rows xs → AreRows Says rows ys → xs ≡ ys
  same_rows [] [] [] h k = refl
  same_rows [] [] (y ∷ ys) h k = absurd k
  same_rows [] (x ∷ xs) ys h k = absurd h
  same_rows (row ∷ rows) [] ys h k = absurd h
  same_rows (row ∷ rows) (x ∷ xs) [] h k = absurd k
  same_rows (row ∷ rows) (x ∷ xs) (y ∷ ys) h k =
      ap (λ (z : X). z ∷ xs) (one x y row h.0 k.0) ∙ ap (λ (zs : List X). y ∷ zs) (same_rows rows xs ys h.1 k.1)

  -- the rows at the front say the part of one session
  pub same_part : (b c : ℕ) (p q : List X) (rows rest more : List Row) → b ≡ c → Takes Says b p rows rest → BeginsOther b rest → Takes Says c q rows more → BeginsOther c more → p ≡ q
  same_part b c p q rows rest more same x ends y stops =
      let front : x.front ≡ y.front = (same_parts Says b c p q rows rest more same x ends y stops).0 in
      same_rows y.front p q (subst (λ (l : List Row). AreRows Says l p) front x.are) y.are

will_in : (a b : Option Will) → list_of a ≡ list_of b → a ≡ b
will_in None None h = refl
will_in None (Some w) h = absurd cc
will_in (Some v) None h = absurd cc
will_in (Some v) (Some w) h = let same : v ≡ w = cc in ap Some same

-- ---- sessions

abbrev session_of : Columns → Option Will → List Subscription → List ℕ → List CopyRow → Session
session_of columns will subscriptions inbound queue = record {
  birth = columns.birth;
  client = columns.client;
  expiry = columns.expiry;
  closed = columns.closed;
  will = will;
  subscriptions = subscriptions;
  inbound = inbound;
  queue = queue;
}

same_session : (a b : Columns) (c d : Option Will) (e f : List Subscription) (g h : List ℕ) (i j : List CopyRow) → a ≡ b → c ≡ d → e ≡ f → g ≡ h → i ≡ j → session_of a c e g i ≡ session_of b d f h j
same_session a b c d e f g h i j p q r s t =
    ap (λ (x : Columns). session_of x c e g i) p
    ∙ (ap (λ (x : Option Will). session_of b x e g i) q
    ∙ (ap (λ (x : List Subscription). session_of b d x g i) r
    ∙ (ap (λ (x : List ℕ). session_of b d f x i) s ∙ ap (λ (x : List CopyRow). session_of b d f h x) t)))

one_session : (s t : Session) (parts rest more : Parts) → columns_of s ≡ columns_of t → TakesParts s parts rest → EndsParts s.birth rest → TakesParts t parts more → EndsParts t.birth more → s ≡ t
one_session s t parts rest more columns x ends y stops =
    let birth : s.birth ≡ t.birth = ap (λ (c : Columns). c.birth) columns in
    same_session (columns_of s) (columns_of t) s.will t.will s.subscriptions t.subscriptions s.inbound t.inbound s.queue t.queue columns
    (will_in s.will t.will (same_part SaysWill one_will s.birth t.birth (list_of s.will) (list_of t.will) parts.wills rest.wills more.wills birth x.will ends.will y.will stops.will))
    (same_part SaysSubscription one_subscription s.birth t.birth s.subscriptions t.subscriptions parts.subscriptions rest.subscriptions more.subscriptions birth x.subscriptions ends.subscription y.subscriptions stops.subscription)
    (same_part SaysOpen one_open s.birth t.birth s.inbound t.inbound parts.inbound rest.inbound more.inbound birth x.inbound ends.identifier y.inbound stops.identifier)
    (same_part SaysCopy one_copy s.birth t.birth s.queue t.queue parts.copies rest.copies more.copies birth x.queue ends.copy y.queue stops.copy)

-- rows say one list of sessions
pub one_sessions : (rows : List Row) (parts : Parts) (ss ts : List Session) → AreSessions rows parts ss → AreSessions rows parts ts → IsAscending birth_of ss → IsAscending birth_of ts → ss ≡ ts
one_sessions [] parts [] [] h k up rise = refl
one_sessions [] parts [] (t ∷ ts) h k up rise = absurd k
one_sessions [] parts (s ∷ ss) ts h k up rise = absurd h
one_sessions (row ∷ rows) parts [] ts h k up rise = absurd h
one_sessions (row ∷ rows) parts (s ∷ ss) [] h k up rise = absurd k
one_sessions (row ∷ rows) parts (s ∷ ss) (t ∷ ts) h k up rise =
    let rest = h.1.0 in
    let more = k.1.0 in
    let ends : EndsParts s.birth rest = ends_before s.birth rows rest ss h.1.2 up.0 in
    let stops : EndsParts t.birth more = ends_before t.birth rows more ts k.1.2 rise.0 in
    let columns : columns_of s ≡ columns_of t = one_columns (columns_of s) (columns_of t) row h.0 k.0 in
    let birth : s.birth ≡ t.birth = ap (λ (c : Columns). c.birth) columns in
    let first : s ≡ t = one_session s t parts rest more columns h.1.1 ends k.1.1 stops in
    let behind : rest ≡ more = same_rest s t parts rest more birth h.1.1 ends k.1.1 stops in
    let others : ss ≡ ts = one_sessions rows more ss ts (subst (λ (p : Parts). AreSessions rows p ss) behind h.1.2) k.1.2 up.1 rise.1 in
    ap (λ (x : Session). x ∷ ss) first ∙ ap (λ (xs : List Session). t ∷ xs) others

-- ---- records

-- the records of these numbers, sessions and retained messages
abbrev pub records_of : Counters → List Session → List RetainedMessage → Records
records_of numbers sessions retained = record {
  births = numbers.births;
  publications = numbers.publications;
  subscribes = numbers.subscribes;
  autos = numbers.autos;
  moment = numbers.moment;
  sessions = sessions;
  retained = retained;
}

-- equal parts make equal records
pub same_records : (a b : Counters) (c d : List Session) (e f : List RetainedMessage) → a ≡ b → c ≡ d → e ≡ f → records_of a c e ≡ records_of b d f
same_records a b c d e f p q r =
    ap (λ (x : Counters). records_of x c e) p ∙ (ap (λ (x : List Session). records_of b x e) q ∙ ap (λ (x : List RetainedMessage). records_of b d x) r)
