-- Rows that a step enters, or a pump filled, are made slim after it.
use Rattle.std.proofs.Common.{◌≡◌, ℕ, arith, Bool, true, false, cond, not, ◌||◌, ◌&&◌, List, [], ◌∷◌, ◌++◌, map, length, Some, None, nat_eq, nat_lt, refl, sym, ap, ap₂, subst, ◌∙◌, inl, inr, append_assoc, append-nil}
use Rattle.std.specs.List.{AllByRecursion}
use Rattle.std.proofs.lemmas.Bool.{cases_Bool, eqb-true}
use Rattle.std.proofs.lemmas.Cmp.{nat_eq_equiv}
use Rattle.mqtt_base.specs.declared.limits.TheConstants.{SESSION_LIMIT, QUEUE_LIMIT}
use Rattle.mqtt_base.specs.declared.session.Phase.{Phase}
use Rattle.mqtt_flow.specs.inbound.Identifiers.{is_among}
use Rattle.mqtt_records.specs.messages.Content.{CopyContent}
use Rattle.mqtt_records.specs.messages.Filling.{filled_with}
use Rattle.mqtt_records.specs.messages.Queue.{CopyRow}
use Rattle.mqtt_records.specs.messages.Slim.{slim}
use Rattle.mqtt_records.proofs.messages_lemmas.Slim.{row_once}
use Rattle.mqtt_records.specs.lists.Order.{IsAbove, IsAscending, has_row, insert_row, put_row, remove_row, change_row}
use Rattle.mqtt_records.proofs.lists_lemmas.OrderLemmas.{apart, change-ascending}
use Rattle.mqtt_records.specs.declared.state.change.Change.{Change}
use Rattle.mqtt_records.specs.declared.state.change.Change.TheVariants as change
use Rattle.mqtt_records.specs.declared.state.change.Counter.TheVariants.{Births, Publications, Subscribes, Autos, Moment}
use Rattle.mqtt_records.specs.declared.state.records.Records.{Records}
use Rattle.mqtt_records.specs.declared.state.session.Columns.{Columns}
use Rattle.mqtt_records.specs.declared.state.session.Session.{Session}
use Rattle.mqtt_records.specs.state.Records.{changed, changed_all, put_session}
use Rattle.mqtt_records.specs.state.Session.{birth_of, copy_place, fresh, in_phase, with_columns, with_will, with_subscription, without_subscription, with_open, without_open, with_copy, with_phase, with_slim, with_all_slim, with_filled, without_copy}
use Rattle.mqtt_records.specs.state.Slim.{slim_at, all_slim, whole_at}
use Rattle.mqtt_keep.specs.by_name.Slimming.{slim_places, slim_put, slim_entered, whole_places}
use Rattle.mqtt_rules.specs.step.Laws.{HasTables, IsOrdered}
use Rattle.mqtt_rules.specs.step.State.{Broker}
use Rattle.mqtt_rules.specs.alike.Alike.{with_queue, with_sessions, with_records}
use Rattle.mqtt_rules.specs.alike.Slim.{slim_broker}
use Rattle.mqtt_rules.specs.filling.Entered.{IsSlimBut, AreSlimBut, places_of}

-- ---- lists of rows

module _ {X : Type 0} (key : X → ℕ) (P : X → Type 0) where
  -- what holds of each row holds of each that is left
  all_removed : (n : ℕ) (xs : List X) → AllByRecursion P xs → AllByRecursion P (remove_row key n xs)
  all_removed n [] h = tt
  all_removed n (x ∷ xs) h = by (not (nat_eq (key x) n)) (all_removed n xs h.1)
    where
      by : (t : Bool) → AllByRecursion P (remove_row key n xs) → AllByRecursion P (cond t (x ∷ remove_row key n xs) (remove_row key n xs))
      by true k = (h.0, k)
      by false k = k

  -- and of each with one more of which it holds
  all_inserted : (row : X) (xs : List X) → P row → AllByRecursion P xs → AllByRecursion P (insert_row key row xs)
  all_inserted row [] p h = (p, tt)
  all_inserted row (x ∷ xs) p h = by (nat_lt (key row) (key x)) (nat_eq (key row) (key x)) (all_inserted row xs p h.1)
    where
      by : (t u : Bool) → AllByRecursion P (insert_row key row xs) → AllByRecursion P (cond t (row ∷ x ∷ xs) (cond u (row ∷ xs) (x ∷ insert_row key row xs)))
      by true u k = (p, h)
      by false true k = (p, h.1)
      by false false k = (h.0, k)

  all_put : (limit : ℕ) (row : X) (xs : List X) → P row → AllByRecursion P xs → AllByRecursion P (put_row key limit row xs)
  all_put limit row xs p h = by (has_row key (key row) xs || nat_lt (length xs) limit)
    where
      by : (t : Bool) → AllByRecursion P (cond t (insert_row key row xs) xs)
      by true = all_inserted row xs p h
      by false = h

  -- and of each when the one of a key changes so that it holds
  all_changed : (n : ℕ) (f : X → X) → ((x : X) → key x ≡ n → P x → P (f x)) → (xs : List X) → AllByRecursion P xs → AllByRecursion P (change_row key n f xs)
  all_changed n f k [] h = tt
  all_changed n f k (x ∷ xs) h = by (nat_eq (key x) n) refl (all_changed n f k xs h.1)
    where
      by : (t : Bool) → nat_eq (key x) n ≡ t → AllByRecursion P (change_row key n f xs) → AllByRecursion P (cond t (f x ∷ xs) (x ∷ change_row key n f xs))
      by true is rest = (k x (eqb-true (key x) n is) h.0, h.1)
      by false is rest = (h.0, rest)

all_map : {X : Type 0} (P Q : X → Type 0) → ((x : X) → P x → Q x) → (xs : List X) → AllByRecursion P xs → AllByRecursion Q xs
all_map P Q k [] h = tt
all_map P Q k (x ∷ xs) h = (k x h.0, all_map P Q k xs h.1)

-- ---- keys of rows: the birth of the session, and the place

and_not : (t u : Bool) → u ≡ false → t && u ≡ false
and_not true u e = e
and_not false u e = refl

not_first : (t u : Bool) → t || u ≡ false → t ≡ false
not_first true u e = absurd cc
not_first false u e = refl

not_second : (t u : Bool) → t || u ≡ false → u ≡ false
not_second true u e = absurd cc
not_second false u e = e

neither : (t u : Bool) → t ≡ false → u ≡ false → t || u ≡ false
neither t u e k = ap (λ (x : Bool). x || u) e ∙ k

-- the row has one of these keys
abbrev has_key : ℕ → ℕ → List (ℕ × ℕ) → Bool
has_key birth place [] = false
has_key birth place (k ∷ ks) = (nat_eq birth k.0 && nat_eq place k.1) || has_key birth place ks

has_append : (birth place : ℕ) (ks ls : List (ℕ × ℕ)) → has_key birth place (ks ++ ls) ≡ has_key birth place ks || has_key birth place ls
has_append birth place [] ls = refl
has_append birth place (k ∷ ks) ls = by (nat_eq birth k.0 && nat_eq place k.1) (has_append birth place ks ls)
  where
    by : (t : Bool) → has_key birth place (ks ++ ls) ≡ has_key birth place ks || has_key birth place ls → t || has_key birth place (ks ++ ls) ≡ (t || has_key birth place ks) || has_key birth place ls
    by true e = refl
    by false e = e

-- the key itself is the last of these
has_last : (birth place : ℕ) (ks : List (ℕ × ℕ)) → has_key birth place (ks ++ (birth, place) ∷ []) ≡ true
has_last birth place [] = both (nat_eq birth birth) (nat_eq place place) (nat_eq_equiv.refl birth) (nat_eq_equiv.refl place)
  where
    both : (t u : Bool) → t ≡ true → u ≡ true → (t && u) || false ≡ true
    both true true e k = refl
    both true false e k = absurd cc
    both false u e k = absurd cc
has_last birth place (k ∷ ks) = by (nat_eq birth k.0 && nat_eq place k.1) (has_last birth place ks)
  where
    by : (t : Bool) → has_key birth place (ks ++ (birth, place) ∷ []) ≡ true → t || has_key birth place (ks ++ (birth, place) ∷ []) ≡ true
    by true e = refl
    by false e = e

-- ---- rows that are slim, unless they have one of these keys

abbrev IsSlimOr : List (ℕ × ℕ) → ℕ → CopyRow → Type 0
IsSlimOr ks birth e = has_key birth e.place ks ≡ false → slim e ≡ e

abbrev IsQueueSlimOr : List (ℕ × ℕ) → ℕ → List CopyRow → Type 0
IsQueueSlimOr ks birth q = AllByRecursion (IsSlimOr ks birth) q

abbrev IsSessionSlimOr : List (ℕ × ℕ) → Session → Type 0
IsSessionSlimOr ks s = IsQueueSlimOr ks s.birth s.queue

abbrev AreSlimOr : List (ℕ × ℕ) → List Session → Type 0
AreSlimOr ks ss = AllByRecursion (IsSessionSlimOr ks) ss

-- more keys leave it so
module _ (ks ls : List (ℕ × ℕ)) (more : (birth place : ℕ) → has_key birth place ls ≡ false → has_key birth place ks ≡ false) where
  queue_more : (birth : ℕ) (q : List CopyRow) → IsQueueSlimOr ks birth q → IsQueueSlimOr ls birth q
  queue_more birth q h = all_map (IsSlimOr ks birth) (IsSlimOr ls birth) (λ e k n. k (more birth e.place n)) q h

  all_more : (ss : List Session) → AreSlimOr ks ss → AreSlimOr ls ss
  all_more ss h = all_map (IsSessionSlimOr ks) (IsSessionSlimOr ls) (λ s k. queue_more s.birth s.queue k) ss h

-- the keys in front, and those behind
front_keys : (ks ls : List (ℕ × ℕ)) (birth place : ℕ) → has_key birth place (ks ++ ls) ≡ false → has_key birth place ks ≡ false
front_keys ks ls birth place n = not_first (has_key birth place ks) (has_key birth place ls) (sym (has_append birth place ks ls) ∙ n)

swapped_keys : (ks ls : List (ℕ × ℕ)) (birth place : ℕ) → has_key birth place (ls ++ ks) ≡ false → has_key birth place (ks ++ ls) ≡ false
swapped_keys ks ls birth place n =
    let none = sym (has_append birth place ls ks) ∙ n in
    has_append birth place ks ls
    ∙ neither (has_key birth place ks) (has_key birth place ls) (not_second (has_key birth place ls) (has_key birth place ks) none) (not_first (has_key birth place ls) (has_key birth place ks) none)

-- ---- what a change makes of them

-- the key of the row that a change puts
abbrev key_put : Change → List (ℕ × ℕ)
key_put (change.SetCounter counter value) = []
key_put (change.PutSession row) = []
key_put (change.SetSession row) = []
key_put (change.RemoveSession birth) = []
key_put (change.PutWill birth will) = []
key_put (change.RemoveWill birth) = []
key_put (change.PutSubscription birth sub) = []
key_put (change.RemoveSubscription birth text) = []
key_put (change.PutInbound birth id) = []
key_put (change.RemoveInbound birth id) = []
key_put (change.PutCopy birth row) = (birth, row.place) ∷ []
key_put (change.SetCopy birth place phase) = []
key_put (change.RemoveCopy birth place) = []
key_put (change.PutRetained kept) = []
key_put (change.RemoveRetained place) = []

abbrev keys_put : List Change → List (ℕ × ℕ)
keys_put [] = []
keys_put (c ∷ cs) = key_put c ++ keys_put cs

module _ (ks : List (ℕ × ℕ)) where
  -- a change of a session that leaves its birth and its queue
  in_other : (birth : ℕ) (f : Session → Session) → ((s : Session) → IsSessionSlimOr ks s → IsSessionSlimOr ks (f s)) → (ss : List Session) → AreSlimOr ks ss → AreSlimOr ks (change_row birth_of birth f ss)
  in_other birth f k ss h = all_changed birth_of (IsSessionSlimOr ks) birth f (λ s is. k s) ss h

  put_kept : (row : Columns) (ss : List Session) → AreSlimOr ks ss → AreSlimOr ks (put_session row ss)
  put_kept row ss h = by (has_row birth_of row.birth ss)
    where
      by : (t : Bool) → AreSlimOr ks (cond t (change_row birth_of row.birth (with_columns row) ss) (put_row birth_of SESSION_LIMIT (fresh row) ss))
      by true = in_other row.birth (with_columns row) (λ s k. k) ss h
      by false = all_put birth_of (IsSessionSlimOr ks) SESSION_LIMIT (fresh row) ss tt h

  -- no key more
  same : (ss : List Session) → AreSlimOr ks ss → AreSlimOr (ks ++ []) ss
  same ss h = subst (λ (ls : List (ℕ × ℕ)). AreSlimOr ls ss) (sym (append-nil ks)) h

  -- a row that is marked is as slim as before
  marked_kept : (birth place : ℕ) (phase : Phase) (s : Session) → IsSessionSlimOr ks s → IsSessionSlimOr ks (with_phase place phase s)
  marked_kept birth place phase s h = all_changed copy_place (IsSlimOr ks s.birth) place (in_phase phase) (λ e is k n. ap (in_phase phase) (k n)) s.queue h

  -- the row that is put has the last key
  copy_put : (birth : ℕ) (row : CopyRow) (s : Session) → birth_of s ≡ birth → IsSessionSlimOr (ks ++ (birth, row.place) ∷ []) s → IsSessionSlimOr (ks ++ (birth, row.place) ∷ []) (with_copy row s)
  copy_put birth row s is h = all_put copy_place (IsSlimOr (ks ++ (birth, row.place) ∷ []) s.birth) QUEUE_LIMIT row s.queue its h
    where
      its : IsSlimOr (ks ++ (birth, row.place) ∷ []) s.birth row
      its n =
          let yes : has_key s.birth row.place (ks ++ (birth, row.place) ∷ []) ≡ true = ap (λ (b : ℕ). has_key b row.place (ks ++ (birth, row.place) ∷ [])) is ∙ has_last birth row.place ks in
          let no : true ≡ false = sym yes ∙ n in
          absurd cc

  change_kept : (c : Change) (r : Records) → AreSlimOr ks r.sessions → AreSlimOr (ks ++ key_put c) (changed c r).sessions
  change_kept (change.SetCounter Births n) r h = same r.sessions h
  change_kept (change.SetCounter Publications n) r h = same r.sessions h
  change_kept (change.SetCounter Subscribes n) r h = same r.sessions h
  change_kept (change.SetCounter Autos n) r h = same r.sessions h
  change_kept (change.SetCounter Moment n) r h = same r.sessions h
  change_kept (change.PutSession row) r h = same (put_session row r.sessions) (put_kept row r.sessions h)
  change_kept (change.SetSession row) r h = same (change_row birth_of row.birth (with_columns row) r.sessions) (in_other row.birth (with_columns row) (λ s k. k) r.sessions h)
  change_kept (change.RemoveSession birth) r h = same (remove_row birth_of birth r.sessions) (all_removed birth_of (IsSessionSlimOr ks) birth r.sessions h)
  change_kept (change.PutWill birth will) r h = same (change_row birth_of birth (with_will (Some will)) r.sessions) (in_other birth (with_will (Some will)) (λ s k. k) r.sessions h)
  change_kept (change.RemoveWill birth) r h = same (change_row birth_of birth (with_will None) r.sessions) (in_other birth (with_will None) (λ s k. k) r.sessions h)
  change_kept (change.PutSubscription birth sub) r h = same (change_row birth_of birth (with_subscription sub) r.sessions) (in_other birth (with_subscription sub) (λ s k. k) r.sessions h)
  change_kept (change.RemoveSubscription birth text) r h = same (change_row birth_of birth (without_subscription text) r.sessions) (in_other birth (without_subscription text) (λ s k. k) r.sessions h)
  change_kept (change.PutInbound birth id) r h = same (change_row birth_of birth (with_open id) r.sessions) (in_other birth (with_open id) (λ s k. k) r.sessions h)
  change_kept (change.RemoveInbound birth id) r h = same (change_row birth_of birth (without_open id) r.sessions) (in_other birth (without_open id) (λ s k. k) r.sessions h)
  change_kept (change.PutCopy birth row) r h =
      all_changed birth_of (IsSessionSlimOr (ks ++ (birth, row.place) ∷ [])) birth (with_copy row) (copy_put birth row) r.sessions
      (all_more ks (ks ++ (birth, row.place) ∷ []) (front_keys ks ((birth, row.place) ∷ [])) r.sessions h)
  change_kept (change.SetCopy birth place phase) r h = same (change_row birth_of birth (with_phase place phase) r.sessions) (in_other birth (with_phase place phase) (marked_kept birth place phase) r.sessions h)
  change_kept (change.RemoveCopy birth place) r h =
      same (change_row birth_of birth (without_copy place) r.sessions)
      (in_other birth (without_copy place) (λ s k. all_removed copy_place (IsSlimOr ks s.birth) place s.queue k) r.sessions h)
  change_kept (change.PutRetained kept) r h = same r.sessions h
  change_kept (change.RemoveRetained place) r h = same r.sessions h

changes_kept : (ks : List (ℕ × ℕ)) (cs : List Change) (r : Records) → AreSlimOr ks r.sessions → AreSlimOr (ks ++ keys_put cs) (changed_all cs r).sessions
changes_kept ks [] r h = subst (λ (ls : List (ℕ × ℕ)). AreSlimOr ls r.sessions) (sym (append-nil ks)) h
changes_kept ks (c ∷ cs) r h =
    subst (λ (ls : List (ℕ × ℕ)). AreSlimOr ls (changed_all cs (changed c r)).sessions) (append_assoc ks (key_put c) (keys_put cs))
    (changes_kept (ks ++ key_put c) cs (changed c r) (change_kept ks c r h))

-- ---- rows with these keys are made slim

abbrev slim_keys : List (ℕ × ℕ) → Records → Records
slim_keys [] r = r
slim_keys (k ∷ ks) r = slim_keys ks (slim_at k.0 k.1 r)

slim_keys-append : (ks ls : List (ℕ × ℕ)) (r : Records) → slim_keys (ks ++ ls) r ≡ slim_keys ls (slim_keys ks r)
slim_keys-append [] ls r = refl
slim_keys-append (k ∷ ks) ls r = slim_keys-append ks ls (slim_at k.0 k.1 r)

-- the keys of places of a session
abbrev keys_at : ℕ → List ℕ → List (ℕ × ℕ)
keys_at birth [] = []
keys_at birth (place ∷ places) = (birth, place) ∷ keys_at birth places

places_are : (birth : ℕ) (places : List ℕ) (r : Records) → slim_places birth places r ≡ slim_keys (keys_at birth places) r
places_are birth [] r = refl
places_are birth (place ∷ places) r = places_are birth places (slim_at birth place r)

put_is : (c : Change) (r : Records) → slim_put c r ≡ slim_keys (key_put c) r
put_is (change.SetCounter counter value) r = refl
put_is (change.PutSession row) r = refl
put_is (change.SetSession row) r = refl
put_is (change.RemoveSession birth) r = refl
put_is (change.PutWill birth will) r = refl
put_is (change.RemoveWill birth) r = refl
put_is (change.PutSubscription birth sub) r = refl
put_is (change.RemoveSubscription birth text) r = refl
put_is (change.PutInbound birth id) r = refl
put_is (change.RemoveInbound birth id) r = refl
put_is (change.PutCopy birth row) r = refl
put_is (change.SetCopy birth place phase) r = refl
put_is (change.RemoveCopy birth place) r = refl
put_is (change.PutRetained kept) r = refl
put_is (change.RemoveRetained place) r = refl

entered_are : (cs : List Change) (r : Records) → slim_entered cs r ≡ slim_keys (keys_put cs) r
entered_are [] r = refl
entered_are (c ∷ cs) r =
    ap (slim_entered cs) (put_is c r) ∙ (entered_are cs (slim_keys (key_put c) r) ∙ sym (slim_keys-append (key_put c) (keys_put cs) r))

-- each table is in order by its keys
record IsKeyed (ss : List Session) : Type 0 where
  sessions : IsAscending birth_of ss
  queues : AllByRecursion (λ (s : Session). IsAscending copy_place s.queue) ss

keyed : (r : Records) → IsOrdered r → IsKeyed r.sessions
keyed r h = record { sessions = h.sessions.ascending; queues = all_map HasTables (λ (s : Session). IsAscending copy_place s.queue) (λ s k. k.queue.ascending) r.sessions h.each }

module _ (birth place : ℕ) (ks : List (ℕ × ℕ)) where
  abbrev these : List (ℕ × ℕ)
  these = (birth, place) ∷ ks

  -- it has another key than the first
  narrow : (b : ℕ) (e : CopyRow) → nat_eq b birth && nat_eq e.place place ≡ false → IsSlimOr these b e → IsSlimOr ks b e
  narrow b e other h n = h (neither (nat_eq b birth && nat_eq e.place place) (has_key b e.place ks) other n)

  other_place : (b : ℕ) (e : CopyRow) → nat_eq e.place place ≡ false → IsSlimOr these b e → IsSlimOr ks b e
  other_place b e other h = narrow b e (and_not (nat_eq b birth) (nat_eq e.place place) other) h

  other_birth : (b : ℕ) → nat_eq b birth ≡ false → (q : List CopyRow) → IsQueueSlimOr these b q → IsQueueSlimOr ks b q
  other_birth b other q h =
      all_map (IsSlimOr these b) (IsSlimOr ks b) (λ e k. narrow b e (ap (λ (t : Bool). t && nat_eq e.place place) other) k) q h

  behind : (b n : ℕ) (q : List CopyRow) → n ≡ place → IsAbove copy_place n q → IsQueueSlimOr these b q → IsQueueSlimOr ks b q
  behind b n [] is up h = tt
  behind b n (e ∷ es) is up h =
      let less = up.0 in
      (other_place b e (apart e.place place (λ same. omega (arith, same, is, less))) h.0, behind b n es is up.1 h.1)

  -- a queue whose row at that place is slim
  queue_slim : (b : ℕ) (q : List CopyRow) → IsAscending copy_place q → IsQueueSlimOr these b q → IsQueueSlimOr ks b (change_row copy_place place slim q)
  queue_slim b [] up h = tt
  queue_slim b (e ∷ es) up h = by (nat_eq e.place place) refl (queue_slim b es up.1 h.1)
    where
      by : (t : Bool) → nat_eq e.place place ≡ t → IsQueueSlimOr ks b (change_row copy_place place slim es) → IsQueueSlimOr ks b (cond t (slim e ∷ es) (e ∷ change_row copy_place place slim es))
      by true is rest = (λ n. row_once e, behind b e.place es (eqb-true e.place place is) up.0 h.1)
      by false is rest = (other_place b e is h.0, rest)

  sessions_behind : (n : ℕ) (ss : List Session) → n ≡ birth → IsAbove birth_of n ss → AreSlimOr these ss → AreSlimOr ks ss
  sessions_behind n [] is up h = tt
  sessions_behind n (s ∷ ss) is up h =
      let less = up.0 in
      (other_birth s.birth (apart s.birth birth (λ same. omega (arith, same, is, less))) s.queue h.0, sessions_behind n ss is up.1 h.1)

  -- the sessions, when the row with the first key is slim
  sessions_slim : (ss : List Session) → IsAscending birth_of ss → AllByRecursion (λ (s : Session). IsAscending copy_place s.queue) ss → AreSlimOr these ss → AreSlimOr ks (change_row birth_of birth (with_slim place) ss)
  sessions_slim [] up qs h = tt
  sessions_slim (s ∷ ss) up qs h = by (nat_eq s.birth birth) refl (sessions_slim ss up.1 qs.1 h.1)
    where
      by : (t : Bool) → nat_eq s.birth birth ≡ t → AreSlimOr ks (change_row birth_of birth (with_slim place) ss) → AreSlimOr ks (cond t (with_slim place s ∷ ss) (s ∷ change_row birth_of birth (with_slim place) ss))
      by true is rest = (queue_slim s.birth s.queue qs.0 h.0, sessions_behind s.birth ss (eqb-true s.birth birth is) up.0 h.1)
      by false is rest = (other_birth s.birth is s.queue h.0, rest)

  -- which stay in order
  keyed_slim : (ss : List Session) → IsKeyed ss → IsKeyed (change_row birth_of birth (with_slim place) ss)
  keyed_slim ss h = record {
    sessions = change-ascending birth_of birth (with_slim place) ss (λ s. refl) h.sessions;
    queues = all_changed birth_of (λ (s : Session). IsAscending copy_place s.queue) birth (with_slim place)
        (λ s is k. change-ascending copy_place place slim s.queue (λ e. refl) k) ss h.queues;
  }

-- ---- made slim, all of them are the same

queue_same : (place : ℕ) (q : List CopyRow) → map slim (change_row copy_place place slim q) ≡ map slim q
queue_same place [] = refl
queue_same place (e ∷ es) = by (nat_eq e.place place) (queue_same place es)
  where
    by : (t : Bool) → map slim (change_row copy_place place slim es) ≡ map slim es → map slim (cond t (slim e ∷ es) (e ∷ change_row copy_place place slim es)) ≡ slim e ∷ map slim es
    by true rest = ap (λ (x : CopyRow). x ∷ map slim es) (row_once e)
    by false rest = ap (λ (xs : List CopyRow). slim e ∷ xs) rest

sessions_same : (birth place : ℕ) (ss : List Session) → map with_all_slim (change_row birth_of birth (with_slim place) ss) ≡ map with_all_slim ss
sessions_same birth place [] = refl
sessions_same birth place (s ∷ ss) = by (nat_eq s.birth birth) (sessions_same birth place ss)
  where
    by : (t : Bool) → map with_all_slim (change_row birth_of birth (with_slim place) ss) ≡ map with_all_slim ss
        → map with_all_slim (cond t (with_slim place s ∷ ss) (s ∷ change_row birth_of birth (with_slim place) ss)) ≡ with_all_slim s ∷ map with_all_slim ss
    by true rest = ap (λ (q : List CopyRow). with_queue q s ∷ map with_all_slim ss) (queue_same place s.queue)
    by false rest = ap (λ (xs : List Session). with_all_slim s ∷ xs) rest

records_same : (birth place : ℕ) (r : Records) → all_slim (slim_at birth place r) ≡ all_slim r
records_same birth place r = ap (λ (ss : List Session). with_sessions ss r) (sessions_same birth place r.sessions)

-- rows that are slim without a key are what they are made slim
queue_is : (birth : ℕ) (q : List CopyRow) → IsQueueSlimOr [] birth q → map slim q ≡ q
queue_is birth [] h = refl
queue_is birth (e ∷ es) h = ap₂ (λ (x : CopyRow) (xs : List CopyRow). x ∷ xs) (h.0 refl) (queue_is birth es h.1)

sessions_are : (ss : List Session) → AreSlimOr [] ss → map with_all_slim ss ≡ ss
sessions_are [] h = refl
sessions_are (s ∷ ss) h = ap₂ (λ (x : Session) (xs : List Session). x ∷ xs) (ap (λ (q : List CopyRow). with_queue q s) (queue_is s.birth s.queue h.0)) (sessions_are ss h.1)

-- when those with the keys are made slim, all are
keys_slim : (ks : List (ℕ × ℕ)) (r : Records) → IsKeyed r.sessions → AreSlimOr ks r.sessions → slim_keys ks r ≡ all_slim r
keys_slim [] r up h = ap (λ (ss : List Session). with_sessions ss r) (sym (sessions_are r.sessions h))
keys_slim (k ∷ ks) r up h =
    keys_slim ks (slim_at k.0 k.1 r) (keyed_slim k.0 k.1 ks r.sessions up) (sessions_slim k.0 k.1 ks r.sessions up.sessions up.queues h)
    ∙ records_same k.0 k.1 r

-- ---- all but those at some places of a session

same_test : (m n : ℕ) → nat_eq m n ≡ nat_eq n m
same_test m n = elim (cases_Bool (nat_eq m n)) [
  | inl is ↦ is ∙ sym (ap (nat_eq n) (eqb-true m n is) ∙ nat_eq_equiv.refl n)
  | inr other ↦ other ∙ sym (apart n m (λ e. let both : nat_eq m n ≡ true = ap (nat_eq m) e ∙ nat_eq_equiv.refl m in let no : true ≡ false = sym both ∙ other in absurd cc))
]

keys_among : (b birth place : ℕ) (places : List ℕ) → has_key b place (keys_at birth places) ≡ nat_eq b birth && is_among place places
keys_among b birth place [] = by (nat_eq b birth)
  where
    by : (t : Bool) → false ≡ t && false
    by true = refl
    by false = refl
keys_among b birth place (n ∷ ns) =
    ap₂ (λ (u v : Bool). (nat_eq b birth && u) || v) (same_test place n) (keys_among b birth place ns) ∙ by (nat_eq b birth) (nat_eq n place) (is_among place ns)
  where
    by : (t u v : Bool) → (t && u) || (t && v) ≡ t && (u || v)
    by true u v = refl
    by false u v = refl

slim_but : (birth : ℕ) (places : List ℕ) (r : Records) → AreSlimBut birth places r → AreSlimOr (keys_at birth places) r.sessions
slim_but birth places r h =
    all_map (λ (s : Session). AllByRecursion (IsSlimBut birth places s) s.queue) (IsSessionSlimOr (keys_at birth places))
    (λ s k. all_map (IsSlimBut birth places s) (IsSlimOr (keys_at birth places) s.birth) (λ e i n. i (sym (keys_among s.birth birth e.place places) ∙ n)) s.queue k) r.sessions h

but_slim : (birth : ℕ) (places : List ℕ) (r : Records) → AreSlimOr (keys_at birth places) r.sessions → AreSlimBut birth places r
but_slim birth places r h =
    all_map (IsSessionSlimOr (keys_at birth places)) (λ (s : Session). AllByRecursion (IsSlimBut birth places s) s.queue)
    (λ s k. all_map (IsSlimOr (keys_at birth places) s.birth) (IsSlimBut birth places s) (λ e i n. i (keys_among s.birth birth e.place places ∙ n)) s.queue k) r.sessions h

module _ (cs : List Change) (birth : ℕ) (places : List ℕ) (r : Records) (h : AreSlimBut birth places r) (up : IsOrdered (changed_all cs r)) where
  -- the rows of these places, and then those that changes put
  pub entered_last : slim_entered cs (slim_places birth places (changed_all cs r)) ≡ all_slim (changed_all cs r)
  entered_last =
      let r' = changed_all cs r in
      let ks = keys_at birth places in
      ap (slim_entered cs) (places_are birth places r')
      ∙ (entered_are cs (slim_keys ks r')
      ∙ (sym (slim_keys-append ks (keys_put cs) r')
      ∙ keys_slim (ks ++ keys_put cs) r' (keyed r' up) (changes_kept ks cs r (slim_but birth places r h))))

  -- or those that changes put first
  pub entered_first : slim_places birth places (slim_entered cs (changed_all cs r)) ≡ all_slim (changed_all cs r)
  entered_first =
      let r' = changed_all cs r in
      let ks = keys_at birth places in
      ap (slim_places birth places) (entered_are cs r')
      ∙ (places_are birth places (slim_keys (keys_put cs) r')
      ∙ (sym (slim_keys-append (keys_put cs) ks r')
      ∙ keys_slim (keys_put cs ++ ks) r' (keyed r' up)
      (all_more (ks ++ keys_put cs) (keys_put cs ++ ks) (swapped_keys ks (keys_put cs)) r'.sessions (changes_kept ks cs r (slim_but birth places r h)))))

-- ---- records of slim rows

-- a queue of slim rows
is_first : {X : Type 0} (x y : X) (xs ys : List X) → x ∷ xs ≡ y ∷ ys → x ≡ y
is_first x y xs ys e = cc

is_rest : {X : Type 0} (x y : X) (xs ys : List X) → x ∷ xs ≡ y ∷ ys → xs ≡ ys
is_rest x y xs ys e = cc

queue_stays : (ks : List (ℕ × ℕ)) (birth : ℕ) (q : List CopyRow) → map slim q ≡ q → IsQueueSlimOr ks birth q
queue_stays ks birth [] h = tt
queue_stays ks birth (e ∷ es) h = (λ n. is_first (slim e) e (map slim es) es h, queue_stays ks birth es (is_rest (slim e) e (map slim es) es h))

sessions_stay : (ks : List (ℕ × ℕ)) (ss : List Session) → map with_all_slim ss ≡ ss → AreSlimOr ks ss
sessions_stay ks [] h = tt
sessions_stay ks (s ∷ ss) h = (
  queue_stays ks s.birth s.queue (ap (λ (x : Session). x.queue) (is_first (with_all_slim s) s (map with_all_slim ss) ss h)),
  sessions_stay ks ss (is_rest (with_all_slim s) s (map with_all_slim ss) ss h),
)

-- the broker of slim rows has these records
pub slim_broker-records : (b : Broker) → slim_broker b ≡ with_records (all_slim b.records) b
slim_broker-records b = refl

-- all rows are slim: so are all but those at any places
pub slim_any : (birth : ℕ) (places : List ℕ) (r : Records) → all_slim r ≡ r → AreSlimBut birth places r
slim_any birth places r h = but_slim birth places r (sessions_stay (keys_at birth places) r.sessions (ap (λ (x : Records). x.sessions) h))

-- of slim rows those that changes put are made slim
pub entered_alone : (cs : List Change) (r : Records) → all_slim r ≡ r → IsOrdered (changed_all cs r) → slim_entered cs (changed_all cs r) ≡ all_slim (changed_all cs r)
entered_alone cs r h up = entered_last cs 0 [] r (slim_any 0 [] r h) up

-- ---- rows that are filled

module _ (ks : List (ℕ × ℕ)) (birth : ℕ) (said : CopyContent) where
  abbrev more : List (ℕ × ℕ)
  more = ks ++ (birth, said.place) ∷ []

  filled_key : (s : Session) → birth_of s ≡ birth → (e : CopyRow) → copy_place e ≡ said.place → IsSlimOr more s.birth (filled_with said e)
  filled_key s is e at n =
      let yes : has_key s.birth e.place more ≡ true = ap₂ (λ (b p : ℕ). has_key b p more) is at ∙ has_last birth said.place ks in
      let no : true ≡ false = sym yes ∙ n in
      absurd cc

  filled_kept : (r : Records) → AreSlimOr ks r.sessions → AreSlimOr more (whole_at birth said r).sessions
  filled_kept r h =
      all_changed birth_of (IsSessionSlimOr more) birth (with_filled said)
      (λ s is k. all_changed copy_place (IsSlimOr more s.birth) said.place (filled_with said) (λ e at i. filled_key s is e at) s.queue k) r.sessions
      (all_more ks more (front_keys ks ((birth, said.place) ∷ [])) r.sessions h)

all_filled : (ks : List (ℕ × ℕ)) (birth : ℕ) (contents : List CopyContent) (r : Records) → AreSlimOr ks r.sessions
    → AreSlimOr (ks ++ keys_at birth (places_of contents)) (whole_places birth contents r).sessions
all_filled ks birth [] r h = subst (λ (ls : List (ℕ × ℕ)). AreSlimOr ls r.sessions) (sym (append-nil ks)) h
all_filled ks birth (said ∷ contents) r h =
    subst (λ (ls : List (ℕ × ℕ)). AreSlimOr ls (whole_places birth contents (whole_at birth said r)).sessions)
    (append_assoc ks ((birth, said.place) ∷ []) (keys_at birth (places_of contents)))
    (all_filled (ks ++ (birth, said.place) ∷ []) birth contents (whole_at birth said r) (filled_kept ks birth said r h))

-- of slim rows all but those are slim that are filled
pub filled_but : (birth : ℕ) (contents : List CopyContent) (r : Records) → all_slim r ≡ r → AreSlimBut birth (places_of contents) (whole_places birth contents r)
filled_but birth contents r h =
    but_slim birth (places_of contents) (whole_places birth contents r)
    (all_filled [] birth contents r (sessions_stay [] r.sessions (ap (λ (x : Records). x.sessions) h)))
