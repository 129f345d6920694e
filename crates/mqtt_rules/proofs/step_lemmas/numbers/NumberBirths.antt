-- Keys below a number, edit by edit; and births that were given, deed by deed.
use Rattle.std.proofs.Common.{◌≡◌, ℕ, ◌<◌, ◌≤◌, Bool, true, false, cond, not, ◌||◌, List, [], ◌∷◌, length, filter, map, Option, Some, None, nat_eq, nat_lt, refl, sym, ap, subst, arith, inl, inr}
use Rattle.std.specs.Prelude.{⊤, suc}
use Rattle.std.proofs.lemmas.Bool.{cases_Bool}
use Rattle.std.proofs.Math.Nat.{le-max_left, le-max_right}
use Rattle.mqtt_records.specs.declared.messages.message.Will.{Will}
use Rattle.mqtt_records.specs.declared.state.session.Columns.{Columns}
use Rattle.mqtt_records.specs.declared.state.session.Session.{Session}
use Rattle.mqtt_base.specs.declared.limits.TheConstants.{SESSION_LIMIT}
use Rattle.mqtt_records.specs.declared.state.records.Records.{Records}
use Rattle.mqtt_records.specs.declared.state.change.Counter.{Counter}
use Rattle.mqtt_records.specs.declared.state.change.Counter.TheVariants.{Births, Publications, Subscribes, Autos, Moment}
use Rattle.mqtt_records.specs.declared.state.change.Change.{Change}
use Rattle.mqtt_records.specs.declared.state.change.Change.TheVariants.{SetCounter, PutSession, SetSession, RemoveSession, PutWill, RemoveWill, PutSubscription, RemoveSubscription, PutInbound, RemoveInbound, PutCopy, SetCopy, RemoveCopy, PutRetained, RemoveRetained}
use Rattle.mqtt_records.specs.lists.Order.{IsBelow, row_at, has_row, insert_row, put_row, change_row}
use Rattle.mqtt_records.specs.state.Session.{birth_of, fresh, with_columns, with_will, with_subscription, without_subscription, with_open, without_open, with_copy, with_phase, without_copy}
use Rattle.mqtt_records.specs.state.Records.{changed, changed_all, put_session, with_counter}
use Rattle.mqtt_records.proofs.lists_lemmas.OrderLemmas.{apart}
use Rattle.mqtt_routes.specs.routing.Intended.{greatest}
use Rattle.mqtt_rules.specs.step.State.{Broker, session_at, next_of}
use Rattle.mqtt_rules.specs.step.Deeds.{Part, Resume, Deed, Accept, Begin, Name, Count, At, Finish, Keep, Forget, part_rows, part_rows_of, rows_of, stored_after, after, after_all}
use Rattle.mqtt_rules.specs.step.Numbers.{HasGivenBirths}
use Rattle.mqtt_rules.proofs.step_lemmas.acts.Goods.{AreGood}
use Rattle.mqtt_rules.proofs.step_lemmas.numbers.Counters.{Counts, counts_deed}
use Rattle.mqtt_rules.proofs.step_lemmas.numbers.NumberFacts.{GivesNext}

module _ {X : Type 0} (key : X → ℕ) where
  -- what is below a number is below a greater one
  pub below_more : (n m : ℕ) (xs : List X) → n ≤ m → IsBelow key n xs → IsBelow key m xs
  below_more n m [] le low = tt
  below_more n m (x ∷ xs) le low = let less = low.0 in (omega (arith, less, le), below_more n m xs le low.1)

  -- rows are below a number with one more that is
  pub below_insert : (n : ℕ) (row : X) (xs : List X) → key row < n → IsBelow key n xs → IsBelow key n (insert_row key row xs)
  below_insert n row [] less low = (less, tt)
  below_insert n row (x ∷ xs) less low = elim (cases_Bool (nat_lt (key row) (key x))) [
    | inl before ↦ rw before (less, low)
    | inr after ↦ elim (cases_Bool (nat_eq (key row) (key x))) [
      | inl same ↦ rw (after, same) (less, low.1)
      | inr other ↦ rw (after, other) (low.0, below_insert n row xs less low.1)
    ]
  ]

  -- a choice between rows below a number is below it
  pub below_cond : (n : ℕ) (t : Bool) (xs ys : List X) → IsBelow key n xs → IsBelow key n ys → IsBelow key n (cond t xs ys)
  below_cond n true xs ys p q = p
  below_cond n false xs ys p q = q

  -- the same in a list with a limit
  pub below_put : (n limit : ℕ) (row : X) (xs : List X) → key row < n → IsBelow key n xs → IsBelow key n (put_row key limit row xs)
  below_put n limit row xs less low =
      below_cond n (has_row key (key row) xs || nat_lt (length xs) limit) (insert_row key row xs) xs (below_insert n row xs less low) low

  -- some of the rows are below a number if all are
  pub below_filter : (n : ℕ) (test : X → Bool) (xs : List X) → IsBelow key n xs → IsBelow key n (filter test xs)
  below_filter n test [] low = tt
  below_filter n test (x ∷ xs) low = elim (cases_Bool (test x)) [
    | inl stays ↦ rw stays (low.0, below_filter n test xs low.1)
    | inr goes ↦ rw goes (below_filter n test xs low.1)
  ]

  -- rows are below a number after one changes and keeps its key
  pub below_change : (n k : ℕ) (f : X → X) (xs : List X) → ((x : X) → key (f x) ≡ key x) → IsBelow key n xs → IsBelow key n (change_row key k f xs)
  below_change n k f [] kept low = tt
  below_change n k f (x ∷ xs) kept low = elim (cases_Bool (nat_eq (key x) k)) [
    | inl same ↦ let e = kept x in let less = low.0 in rw same (omega (arith, e, less), low.1)
    | inr other ↦ rw other (low.0, below_change n k f xs kept low.1)
  ]

  -- what is found is below, and nothing is found at the bound
  pub below_found : (n k : ℕ) (x : X) (xs : List X) → row_at key k xs ≡ Some x → IsBelow key n xs → key x < n
  below_found n k x [] e low = absurd cc
  below_found n k x (y ∷ ys) e low = elim (cases_Bool (nat_eq (key y) k)) [
    | inl same ↦ let there : Some y ≡ Some x = rw same at e in let it : y ≡ x = cc in subst (λ (z : X). key z < n) it low.0
    | inr other ↦ let there : row_at key k ys ≡ Some x = rw other at e in below_found n k x ys there low.1
  ]

  -- no row below a number is found by it
  pub below_none : (n : ℕ) (xs : List X) → IsBelow key n xs → row_at key n xs ≡ None
  below_none n [] low = refl
  below_none n (x ∷ xs) low =
      let less = low.0 in
      rw (apart (key x) n (λ e. omega (arith, e, less))) (below_none n xs low.1)

  -- the next number is above all
  pub below_next : (xs : List X) → IsBelow key (next_of key xs) xs
  below_next [] = tt
  below_next (x ∷ xs) =
      let first = le-max_left (key x) (greatest (map key xs)) in
      let rest = le-max_right (key x) (greatest (map key xs)) in
      (omega (arith, first), below_more (next_of key xs) (next_of key (x ∷ xs)) xs (omega (arith, rest)) (below_next xs))

-- ---- rows that put no session at a birth from n on

abbrev RowBelow : ℕ → Change → Type 0
RowBelow n (PutSession row) = row.birth < n
RowBelow n change = ⊤

abbrev RowsBelow : ℕ → List Change → Type 0
RowsBelow n [] = ⊤
RowsBelow n (change ∷ changes) = RowBelow n change × RowsBelow n changes

below_put_session : (n : ℕ) (row : Columns) (sessions : List Session) → row.birth < n → IsBelow birth_of n sessions → IsBelow birth_of n (put_session row sessions)
below_put_session n row sessions less low =
    below_cond birth_of n (has_row birth_of row.birth sessions) (change_row birth_of row.birth (with_columns row) sessions) (put_row birth_of SESSION_LIMIT (fresh row) sessions)
    (below_change birth_of n row.birth (with_columns row) sessions (λ s. refl) low)
    (below_put birth_of n SESSION_LIMIT (fresh row) sessions less low)

counters_only : (counter : Counter) (value n : ℕ) (r : Records) → IsBelow birth_of n r.sessions → IsBelow birth_of n (with_counter counter value r).sessions
counters_only Births value n r low = low
counters_only Publications value n r low = low
counters_only Subscribes value n r low = low
counters_only Autos value n r low = low
counters_only Moment value n r low = low

below_changed : (n : ℕ) (change : Change) (r : Records) → RowBelow n change → IsBelow birth_of n r.sessions → IsBelow birth_of n (changed change r).sessions
below_changed n (SetCounter counter value) r less low = counters_only counter value n r low
below_changed n (PutSession row) r less low = below_put_session n row r.sessions less low
below_changed n (SetSession row) r less low = below_change birth_of n row.birth (with_columns row) r.sessions (λ s. refl) low
below_changed n (RemoveSession birth) r less low = below_filter birth_of n (λ s. not (nat_eq (birth_of s) birth)) r.sessions low
below_changed n (PutWill birth will) r less low = below_change birth_of n birth (with_will (Some will)) r.sessions (λ s. refl) low
below_changed n (RemoveWill birth) r less low = below_change birth_of n birth (with_will None) r.sessions (λ s. refl) low
below_changed n (PutSubscription birth sub) r less low = below_change birth_of n birth (with_subscription sub) r.sessions (λ s. refl) low
below_changed n (RemoveSubscription birth text) r less low = below_change birth_of n birth (without_subscription text) r.sessions (λ s. refl) low
below_changed n (PutInbound birth id) r less low = below_change birth_of n birth (with_open id) r.sessions (λ s. refl) low
below_changed n (RemoveInbound birth id) r less low = below_change birth_of n birth (without_open id) r.sessions (λ s. refl) low
below_changed n (PutCopy birth e) r less low = below_change birth_of n birth (with_copy e) r.sessions (λ s. refl) low
below_changed n (SetCopy birth place phase) r less low = below_change birth_of n birth (with_phase place phase) r.sessions (λ s. refl) low
below_changed n (RemoveCopy birth place) r less low = below_change birth_of n birth (without_copy place) r.sessions (λ s. refl) low
below_changed n (PutRetained kept) r less low = low
below_changed n (RemoveRetained place) r less low = low

below_changed_all : (n : ℕ) (changes : List Change) (r : Records) → RowsBelow n changes → IsBelow birth_of n r.sessions → IsBelow birth_of n (changed_all changes r).sessions
below_changed_all n [] r less low = low
below_changed_all n (change ∷ changes) r less low = below_changed_all n changes (changed change r) less.1 (below_changed n change r less.0 low)

-- ---- deed by deed

rows_part : (n : ℕ) (part : Part) (s : Session) → s.birth < n → RowsBelow n (part_rows part s)
rows_part n (Resume expiry None) s less = (tt, (tt, tt))
rows_part n (Resume expiry (Some will)) s less = (tt, (tt, tt))
rows_part n part s less = (tt, tt)

rows_part_of : (n birth : ℕ) (part : Part) (o : Option Session) (r : Records) → session_at birth r ≡ o → IsBelow birth_of n r.sessions → RowsBelow n (part_rows_of part o)
rows_part_of n birth part None r e low = tt
rows_part_of n birth part (Some s) r e low = rows_part n part s (below_found birth_of n birth s r.sessions e low)

abbrev BirthBelow : ℕ → Deed → Type 0
BirthBelow n (Begin row will) = row.birth < n
BirthBelow n d = ⊤

rows_deed : (n : ℕ) (d : Deed) (r : Records) → BirthBelow n d → IsBelow birth_of n r.sessions → RowsBelow n (rows_of d r)
rows_deed n (Begin row None) r less low = (less, (tt, tt))
rows_deed n (Begin row (Some will)) r less low = (less, (tt, (tt, tt)))
rows_deed n (At who part) r less low = rows_part_of n who.birth part (session_at who.birth r) r refl low
rows_deed n (Accept number origin m) r less low = (tt, tt)
rows_deed n (Name k) r less low = (tt, tt)
rows_deed n (Count k) r less low = (tt, tt)
rows_deed n (Finish who) r less low = (tt, tt)
rows_deed n (Keep kept) r less low = (tt, tt)
rows_deed n (Forget place) r less low = (tt, tt)
rows_deed n d r less low = tt

below_deed : (n : ℕ) (d : Deed) (r : Records) → BirthBelow n d → IsBelow birth_of n r.sessions → IsBelow birth_of n (stored_after d r).sessions
below_deed n d r less low = below_changed_all n (rows_of d r) r (rows_deed n d r less low) low

-- a session that begins with the next birth has one that was given
pub given_begin : (row : Columns) (will : Option Will) (b : Broker) → row.birth ≡ suc b.records.births → HasGivenBirths b.records → HasGivenBirths (after (Begin row will) b).records
given_begin row will b e low =
    let more = below_more birth_of (suc b.records.births) (suc row.birth) b.records.sessions (omega (arith, e)) low in
    let new = below_deed (suc row.birth) (Begin row will) b.records (omega arith) more in
    let same : row.birth ≡ (after (Begin row will) b).records.births = sym (ap (λ (c : Counts). c.births) (counts_deed (Begin row will) b.records)) in
    subst (λ (i : ℕ). IsBelow birth_of (suc i) (after (Begin row will) b).records.sessions) same new

-- another deed gives no birth
given_other : (d : Deed) (b : Broker) → BirthBelow (suc b.records.births) d → b.records.births ≡ (after d b).records.births → HasGivenBirths b.records → HasGivenBirths (after d b).records
given_other d b less same low =
    subst (λ (i : ℕ). IsBelow birth_of (suc i) (after d b).records.sessions) same (below_deed (suc b.records.births) d b.records less low)

-- a deed that gives the next number keeps all births given
pub given_deed : (d : Deed) (b : Broker) → GivesNext d b → HasGivenBirths b.records → HasGivenBirths (after d b).records
given_deed (Begin row will) b e low = given_begin row will b e low
given_deed d b e low = given_other d b tt (sym (ap (λ (c : Counts). c.births) (counts_deed d b.records))) low

-- deeds that give the next numbers keep all births given
pub given_all : (ds : List Deed) (b : Broker) → AreGood GivesNext ds b → HasGivenBirths b.records → HasGivenBirths (after_all ds b).records
given_all [] b q low = low
given_all (d ∷ ds) b q low = given_all ds (after d b) q.1 (given_deed d b q.0 low)
