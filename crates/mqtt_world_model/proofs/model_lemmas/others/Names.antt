-- No other session has this client identifier: what is found by the name is the session with that birth.
use Rattle.std.proofs.Common.{◌≡◌, ℕ, Bool, true, false, cond, List, [], ◌∷◌, length, Option, Some, None, nat_eq, nat_lt, bytes_eq, refl, sym, ap, ◌∙◌, inl, inr}
use Rattle.std.specs.Prelude.{⊤, find, filter_map}
use Rattle.std.specs.List.{AllByRecursion, cons_option}
use Rattle.std.proofs.lemmas.Bool.{eqb-true, cases_Bool}
use Rattle.std.proofs.lemmas.Cmp.{nat_eq_equiv}
use Rattle.std.proofs.lemmas.Slice.Eq.{bytes_eq-Decides}
use Rattle.mqtt_records.specs.declared.messages.message.Will.{Will}
use Rattle.mqtt_records.specs.declared.state.session.Columns.{Columns}
use Rattle.mqtt_records.specs.declared.state.session.Session.{Session}
use Rattle.mqtt_base.specs.declared.limits.TheConstants.{SESSION_LIMIT}
use Rattle.mqtt_records.specs.declared.state.records.Records.{Records}
use Rattle.mqtt_records.specs.declared.state.change.Counter.TheVariants.{Births, Publications, Subscribes, Autos, Moment}
use Rattle.mqtt_records.specs.declared.state.change.Change.{Change}
use Rattle.mqtt_records.specs.declared.state.change.Change.TheVariants.{SetCounter, PutSession, SetSession, RemoveSession, PutWill, RemoveWill, PutSubscription, RemoveSubscription, PutInbound, RemoveInbound, PutCopy, SetCopy, RemoveCopy, PutRetained, RemoveRetained}
use Rattle.mqtt_records.specs.lists.Order.{row_at, has_row, insert_row, change_row}
use Rattle.mqtt_records.specs.state.Session.{birth_of, fresh, with_columns}
use Rattle.mqtt_records.specs.state.Records.{put_session, changed, changed_all}
use Rattle.mqtt_rules.specs.step.State.{Broker, session_at, session_named}
use Rattle.mqtt_rules.specs.step.Deeds.{Part, Resume, Close, SetExpiry, DropWill, Subscribe, Unsubscribe, Open, Release, Enter, Mark, Leave, Deed, Accept, Begin, Name, Count, At, Finish, Keep, Forget, RefuseWill, Link, On, Send, Gone, will_row, part_rows, part_rows_of, begin_rows, rows_of, stored_after, after, after_all}
use Rattle.mqtt_rules.specs.step.Numbers.{birth_given}
use Rattle.mqtt_world_model.specs.model.Hops.{IsIts, IsOnly}
use Rattle.mqtt_rules.proofs.step_lemmas.flight.FlightRows.{all_at, all_changed, all_removed, all_inserted}

-- ---- what is found by the name

named_from : (client : List ℕ) (birth : ℕ) (ss : List Session) (s : Session) → AllByRecursion (IsIts client birth) ss
    → row_at birth_of birth ss ≡ Some s → s.client ≡ client → find (λ (x : Session). bytes_eq x.client client) ss ≡ Some s
named_from client birth [] s h at is = absurd cc
named_from client birth (x ∷ xs) s h at is = elim (cases_Bool (bytes_eq x.client client)) [
  | inl its ↦
      let here : x.birth ≡ birth = h.0 ((bytes_eq-Decides x.client client).0 its) in
      let test : nat_eq x.birth birth ≡ true = ap (λ (k : ℕ). nat_eq k birth) here ∙ nat_eq_equiv.refl birth in
      let found : Some x ≡ Some s = rw test at at in
      rw its found
  | inr other ↦ elim (cases_Bool (nat_eq x.birth birth)) [
    | inl here ↦
        let found : Some x ≡ Some s = rw here at at in
        let it : x ≡ s = cc in
        let same : bytes_eq x.client client ≡ true = (bytes_eq-Decides x.client client).1 (ap (λ (y : Session). y.client) it ∙ is) in
        let no : true ≡ false = sym same ∙ other in
        absurd cc
    | inr further ↦
        let rest : row_at birth_of birth xs ≡ Some s = rw further at at in
        rw other (named_from client birth xs s h.1 rest is)
  ]
]

-- the session of a birth that has the name is the one that the name finds
pub named_is : (client : List ℕ) (birth : ℕ) (r : Records) (s : Session) → IsOnly client birth r → session_at birth r ≡ Some s → s.client ≡ client → session_named client r ≡ Some s
named_is client birth r s h at is = named_from client birth r.sessions s h at is

-- ---- rows that bring no other session of this name

abbrev pub BringsNone : List ℕ → ℕ → Change → Type 0
BringsNone client birth (PutSession row) = row.client ≡ client → row.birth ≡ birth
BringsNone client birth (SetSession row) = row.client ≡ client → row.birth ≡ birth
BringsNone client birth c = ⊤

abbrev pub BringNone : List ℕ → ℕ → List Change → Type 0
BringNone client birth [] = ⊤
BringNone client birth (c ∷ cs) = BringsNone client birth c × BringNone client birth cs

changed_columns : (client : List ℕ) (birth : ℕ) (row : Columns) (ss : List Session) → (row.client ≡ client → row.birth ≡ birth)
    → AllByRecursion (IsIts client birth) ss → AllByRecursion (IsIts client birth) (change_row birth_of row.birth (with_columns row) ss)
changed_columns client birth row [] q h = tt
changed_columns client birth row (x ∷ xs) q h = elim (cases_Bool (nat_eq x.birth row.birth)) [
  | inl here ↦ rw here ((λ is. eqb-true x.birth row.birth here ∙ q is), h.1)
  | inr further ↦ rw further (h.0, changed_columns client birth row xs q h.1)
]

only_put : (client : List ℕ) (birth : ℕ) (row : Columns) (ss : List Session) → (row.client ≡ client → row.birth ≡ birth)
    → AllByRecursion (IsIts client birth) ss → AllByRecursion (IsIts client birth) (put_session row ss)
only_put client birth row ss q h = elim (cases_Bool (has_row birth_of row.birth ss)) [
  | inl there ↦ rw there (changed_columns client birth row ss q h)
  | inr new ↦ rw new (put_new (nat_lt (length ss) SESSION_LIMIT))
]
  where
    put_new : (t : Bool) → AllByRecursion (IsIts client birth) (cond t (insert_row birth_of (fresh row) ss) ss)
    put_new true = all_inserted birth_of (IsIts client birth) (fresh row) ss q h
    put_new false = h

only_change : (client : List ℕ) (birth : ℕ) (c : Change) (r : Records) → BringsNone client birth c → IsOnly client birth r → IsOnly client birth (changed c r)
only_change client birth (SetCounter Births value) r q h = h
only_change client birth (SetCounter Publications value) r q h = h
only_change client birth (SetCounter Subscribes value) r q h = h
only_change client birth (SetCounter Autos value) r q h = h
only_change client birth (SetCounter Moment value) r q h = h
only_change client birth (PutSession row) r q h = only_put client birth row r.sessions q h
only_change client birth (SetSession row) r q h = changed_columns client birth row r.sessions q h
only_change client birth (RemoveSession k) r q h = all_removed birth_of (IsIts client birth) k r.sessions h
only_change client birth (PutWill k will) r q h = all_changed birth_of (IsIts client birth) k _ r.sessions (λ x p. p) h
only_change client birth (RemoveWill k) r q h = all_changed birth_of (IsIts client birth) k _ r.sessions (λ x p. p) h
only_change client birth (PutSubscription k sub) r q h = all_changed birth_of (IsIts client birth) k _ r.sessions (λ x p. p) h
only_change client birth (RemoveSubscription k text) r q h = all_changed birth_of (IsIts client birth) k _ r.sessions (λ x p. p) h
only_change client birth (PutInbound k id) r q h = all_changed birth_of (IsIts client birth) k _ r.sessions (λ x p. p) h
only_change client birth (RemoveInbound k id) r q h = all_changed birth_of (IsIts client birth) k _ r.sessions (λ x p. p) h
only_change client birth (PutCopy k e) r q h = all_changed birth_of (IsIts client birth) k _ r.sessions (λ x p. p) h
only_change client birth (SetCopy k place phase) r q h = all_changed birth_of (IsIts client birth) k _ r.sessions (λ x p. p) h
only_change client birth (RemoveCopy k place) r q h = all_changed birth_of (IsIts client birth) k _ r.sessions (λ x p. p) h
only_change client birth (PutRetained kept) r q h = h
only_change client birth (RemoveRetained place) r q h = h

only_changes : (client : List ℕ) (birth : ℕ) (cs : List Change) (r : Records) → BringNone client birth cs → IsOnly client birth r → IsOnly client birth (changed_all cs r)
only_changes client birth [] r q h = h
only_changes client birth (c ∷ cs) r q h = only_changes client birth cs (changed c r) q.1 (only_change client birth c r q.0 h)

-- ---- deeds that begin no other session of this name

abbrev pub BeginsNone : List ℕ → ℕ → Deed → Type 0
BeginsNone client birth (Begin row will) = row.client ≡ client → row.birth ≡ birth
BeginsNone client birth d = ⊤

abbrev pub BeginNone : List ℕ → ℕ → List Deed → Type 0
BeginNone client birth [] = ⊤
BeginNone client birth (d ∷ ds) = BeginsNone client birth d × BeginNone client birth ds

will_none : (client : List ℕ) (birth k : ℕ) (will : Option Will) → BringsNone client birth (will_row k will)
will_none client birth k None = tt
will_none client birth k (Some will) = tt

part_none : (client : List ℕ) (birth : ℕ) (part : Part) (s : Session) → IsIts client birth s → BringNone client birth (part_rows part s)
part_none client birth (Resume expiry will) s q = (q, (will_none client birth s.birth will, tt))
part_none client birth (Close moment) s q = (q, tt)
part_none client birth (SetExpiry expiry) s q = (q, tt)
part_none client birth DropWill s q = (tt, tt)
part_none client birth (Subscribe sub) s q = (tt, tt)
part_none client birth (Unsubscribe text) s q = (tt, tt)
part_none client birth (Open id) s q = (tt, tt)
part_none client birth (Release id) s q = (tt, tt)
part_none client birth (Enter copy) s q = (tt, tt)
part_none client birth (Mark place phase) s q = (tt, tt)
part_none client birth (Leave e ending) s q = (tt, tt)

at_none : (client : List ℕ) (birth k : ℕ) (part : Part) (ss : List Session) (o : Option Session) → row_at birth_of k ss ≡ o → AllByRecursion (IsIts client birth) ss → BringNone client birth (part_rows_of part o)
at_none client birth k part ss None e h = tt
at_none client birth k part ss (Some s) e h = part_none client birth part s (all_at birth_of (IsIts client birth) k s ss h e)

begin_none : (client : List ℕ) (birth : ℕ) (row : Columns) (will : Option Will) → (row.client ≡ client → row.birth ≡ birth) → BringNone client birth (begin_rows row will)
begin_none client birth row None q = (q, (tt, tt))
begin_none client birth row (Some will) q = (q, (tt, (tt, tt)))

rows_none : (client : List ℕ) (birth : ℕ) (d : Deed) (r : Records) → BeginsNone client birth d → IsOnly client birth r → BringNone client birth (rows_of d r)
rows_none client birth (Accept number origin m) r q h = (tt, tt)
rows_none client birth (Begin row will) r q h = begin_none client birth row will q
rows_none client birth (Name k) r q h = (tt, tt)
rows_none client birth (Count k) r q h = (tt, tt)
rows_none client birth (At who part) r q h = at_none client birth who.birth part r.sessions (session_at who.birth r) refl h
rows_none client birth (Finish who) r q h = (tt, tt)
rows_none client birth (Keep kept) r q h = (tt, tt)
rows_none client birth (Forget place) r q h = (tt, tt)
rows_none client birth (RefuseWill who) r q h = tt
rows_none client birth (Link m) r q h = tt
rows_none client birth (On m part) r q h = tt
rows_none client birth (Send m packet) r q h = tt
rows_none client birth (Gone m) r q h = tt

-- a deed that begins none of the name leaves it with one session
pub only_deed : (client : List ℕ) (birth : ℕ) (d : Deed) (r : Records) → BeginsNone client birth d → IsOnly client birth r → IsOnly client birth (stored_after d r)
only_deed client birth d r q h = only_changes client birth (rows_of d r) r (rows_none client birth d r q h) h

-- so do many
pub only_deeds : (client : List ℕ) (birth : ℕ) (ds : List Deed) (b : Broker) → BeginNone client birth ds → IsOnly client birth b.records → IsOnly client birth (after_all ds b).records
only_deeds client birth [] b q h = h
only_deeds client birth (d ∷ ds) b q h = only_deeds client birth ds (after d b) q.1 (only_deed client birth d b.records q.0 h)

-- deeds that begin no session at all
begin_first : (client : List ℕ) (birth : ℕ) (d : Deed) (ks : List ℕ) → cons_option (birth_given d) ks ≡ [] → BeginsNone client birth d × (ks ≡ [])
begin_first client birth (Begin row will) ks h = absurd cc
begin_first client birth (Accept number origin m) ks h = (tt, h)
begin_first client birth (Name k) ks h = (tt, h)
begin_first client birth (Count k) ks h = (tt, h)
begin_first client birth (At who part) ks h = (tt, h)
begin_first client birth (Finish who) ks h = (tt, h)
begin_first client birth (Keep kept) ks h = (tt, h)
begin_first client birth (Forget place) ks h = (tt, h)
begin_first client birth (RefuseWill who) ks h = (tt, h)
begin_first client birth (Link m) ks h = (tt, h)
begin_first client birth (On m part) ks h = (tt, h)
begin_first client birth (Send m packet) ks h = (tt, h)
begin_first client birth (Gone m) ks h = (tt, h)

-- deeds that give no birth begin none
pub none_begun : (client : List ℕ) (birth : ℕ) (ds : List Deed) → filter_map birth_given ds ≡ [] → BeginNone client birth ds
none_begun client birth [] h = tt
none_begun client birth (d ∷ ds) h =
    let first = begin_first client birth d (filter_map birth_given ds) h in
    (first.0, none_begun client birth ds first.1)
