-- The Will that stands in a session after a deed, and the client of the session.
use Rattle.std.proofs.Common.{◌≡◌, ℕ, ◌*◌, min, Bool, true, false, cond, List, [], ◌∷◌, Option, Some, None, nat_eq, nat_le, refl, sym, ap, ◌∙◌, inl, inr, arith}
use Rattle.std.specs.Prelude.{⊤, is_some, option_map}
use Rattle.std.specs.List.{AllByRecursion}
use Rattle.std.proofs.lemmas.Bool.{cases_Bool, eqb-true, leb-true, le-leb}
use Rattle.std.proofs.lemmas.Cmp.{nat_eq_equiv}
use Rattle.std.proofs.Math.Nat.{min-le_right}
use Rattle.mqtt_base.specs.declared.limits.TheConstants.{SESSION_LIMIT}
use Rattle.mqtt_records.specs.declared.messages.message.Will.{Will}
use Rattle.mqtt_records.specs.declared.state.change.Change.TheVariants.{PutSession, SetSession}
use Rattle.mqtt_records.specs.declared.state.records.Records.{Records}
use Rattle.mqtt_records.specs.declared.state.session.Columns.{Columns}
use Rattle.mqtt_records.specs.declared.state.session.Session.{Session}
use Rattle.mqtt_records.specs.lists.Order.{HasRoomFor, has_row, put_row, change_row}
use Rattle.mqtt_records.proofs.lists_lemmas.LookUps.{row_at-put_row, row_at-remove_row}
use Rattle.mqtt_records.specs.state.Records.{changed, changed_all, in_session, put_session}
use Rattle.mqtt_records.specs.state.Session.{birth_of, fresh, with_columns, with_copy, with_open, with_phase, with_subscription, with_will, without_copy, without_open, without_subscription}
use Rattle.mqtt_rules.specs.step.Closing.{earlier, end_after, end_due, has_due_end, has_due_will, is_due, publish_or_refuse, publish_will, will_deeds, will_due, will_message}
use Rattle.mqtt_rules.specs.step.Deeds.{Part, Resume, Close, SetExpiry, DropWill, Subscribe, Unsubscribe, Open, Release, Enter, Mark, Leave, Message, At, Begin, Deed, Finish, FromWill, Whose, after, after_all, new_entry, part_rows, part_rows_of, stored_after, whose, will_row}
use Rattle.mqtt_rules.specs.step.Laws.{client_at}
use Rattle.mqtt_rules.specs.step.Routing.{CopyTo, accepted_copies}
use Rattle.mqtt_rules.specs.step.State.{Broker, Env, later, session_at}
use Rattle.mqtt_rules.proofs.step_lemmas.acts.Goods.{after_append}
use Rattle.mqtt_rules.proofs.step_lemmas.acts.LookedUp.{client_at_part, row_at-change_row}
use Rattle.mqtt_rules.proofs.step_lemmas.flight.FlightRows.{change_row-here, found_key}
use Rattle.mqtt_rules.proofs.step_lemmas.numbers.Copies.{each_append, each_more}
use Rattle.mqtt_run_laws.specs.wills.Fates.{will_held, held_if}
use Rattle.mqtt_run_laws.proofs.wills_lemmas.Quiet.{AreQuiet, IsQuiet, published_rest, quiet_rest}

-- ---- a session that changes

-- keeps its Will
will_kept : (birth k : ℕ) (f : Session → Session) (r : Records) → ((s : Session) → birth_of (f s) ≡ birth_of s) → ((s : Session) → (f s).will ≡ s.will) → will_held k (in_session birth f r) ≡ will_held k r
will_kept birth k f r births same = ap held_if (row_at-change_row birth_of k birth f r.sessions births) ∙ by (nat_eq birth k) (session_at k r)
  where
    by : (t : Bool) (o : Option Session) → held_if (cond t (option_map f o) o) ≡ held_if o
    by true None = refl
    by true (Some s) = same s
    by false o = refl

-- or has another, or none
will_set : (birth k : ℕ) (will : Option Will) (s : Session) (r : Records) → session_at birth r ≡ Some s → will_held k (in_session birth (with_will will) r) ≡ cond (nat_eq birth k) will (will_held k r)
will_set birth k will s r there = ap held_if (row_at-change_row birth_of k birth (with_will will) r.sessions (λ t. refl)) ∙ elim (cases_Bool (nat_eq birth k)) [
  | inl here ↦
      let is : session_at k r ≡ Some s = ap (λ (n : ℕ). session_at n r) (sym (eqb-true birth k here)) ∙ there in
      rw (here, is) refl
  | inr other ↦ rw other refl
]

will_unset : (birth k : ℕ) (r : Records) → will_held k (in_session birth (with_will None) r) ≡ cond (nat_eq birth k) None (will_held k r)
will_unset birth k r = ap held_if (row_at-change_row birth_of k birth (with_will None) r.sessions (λ t. refl)) ∙ by (nat_eq birth k) (session_at k r)
  where
    by : (t : Bool) (o : Option Session) → held_if (cond t (option_map (with_will None) o) o) ≡ cond t None (held_if o)
    by true None = refl
    by true (Some s) = refl
    by false o = refl

-- ---- what a deed does to a session's Will

-- a part that neither resumes the session nor takes its Will away
abbrev IsQuietPart : Part → Type 0
IsQuietPart (Resume expiry will) = ⊥
IsQuietPart DropWill = ⊥
IsQuietPart part = ⊤

quiet_part : (part : Part) (s : Session) (k : ℕ) (r : Records) → IsQuietPart part → will_held k (changed_all (part_rows part s) r) ≡ will_held k r
quiet_part (Resume expiry will) s k r h = absurd h
quiet_part DropWill s k r h = absurd h
quiet_part (Close moment) s k r h = will_kept s.birth k (with_columns (record { birth = s.birth; client = s.client; expiry = s.expiry; closed = Some moment })) r (λ t. refl) (λ t. refl)
quiet_part (SetExpiry expiry) s k r h = will_kept s.birth k (with_columns (record { birth = s.birth; client = s.client; expiry = expiry; closed = s.closed })) r (λ t. refl) (λ t. refl)
quiet_part (Subscribe x) s k r h = will_kept s.birth k (with_subscription x) r (λ t. refl) (λ t. refl)
quiet_part (Unsubscribe text) s k r h = will_kept s.birth k (without_subscription text) r (λ t. refl) (λ t. refl)
quiet_part (Open id) s k r h = will_kept s.birth k (with_open id) r (λ t. refl) (λ t. refl)
quiet_part (Release id) s k r h = will_kept s.birth k (without_open id) r (λ t. refl) (λ t. refl)
quiet_part (Enter copy) s k r h = will_kept s.birth k (with_copy (new_entry copy s.queue)) r (λ t. refl) (λ t. refl)
quiet_part (Mark place phase) s k r h = will_kept s.birth k (with_phase place phase) r (λ t. refl) (λ t. refl)
quiet_part (Leave e ending) s k r h = will_kept s.birth k (without_copy e.place) r (λ t. refl) (λ t. refl)

quiet_part_of : (part : Part) (o : Option Session) (k : ℕ) (r : Records) → IsQuietPart part → will_held k (changed_all (part_rows_of part o) r) ≡ will_held k r
quiet_part_of part None k r h = refl
quiet_part_of part (Some s) k r h = quiet_part part s k r h

its_part : (who : Whose) (part : Part) → IsQuiet (At who part) → IsQuietPart part
its_part who (Resume expiry will) h = h
its_part who DropWill h = h
its_part who part h = tt

quiet_one : (d : Deed) (k : ℕ) (b : Broker) → IsQuiet d → will_held k (after d b).records ≡ will_held k b.records
quiet_one (Begin row will) k b h = absurd h
quiet_one (Finish who) k b h = absurd h
quiet_one (At who part) k b h = quiet_part_of part (session_at who.birth b.records) k b.records (its_part who part h)
quiet_one d k b h = refl

-- deeds that leave Wills alone do so
pub quiet_wills : (ds : List Deed) (k : ℕ) (b : Broker) → AreQuiet ds → will_held k (after_all ds b).records ≡ will_held k b.records
quiet_wills [] k b h = refl
quiet_wills (d ∷ ds) k b h = quiet_wills ds k (after d b) h.1 ∙ quiet_one d k b h.0

-- a Will is taken away
pub dropped : (who : Whose) (k : ℕ) (b : Broker) → will_held k (after (At who DropWill) b).records ≡ cond (nat_eq who.birth k) None (will_held k b.records)
dropped who k b = by (session_at who.birth b.records) refl
  where
    by : (o : Option Session) → session_at who.birth b.records ≡ o → will_held k (changed_all (part_rows_of DropWill o) b.records) ≡ cond (nat_eq who.birth k) None (will_held k b.records)
    by None is = elim (cases_Bool (nat_eq who.birth k)) [
      | inl here ↦
          let none : session_at k b.records ≡ None = ap (λ (n : ℕ). session_at n b.records) (sym (eqb-true who.birth k here)) ∙ is in
          rw here (ap held_if none)
      | inr other ↦ rw other refl
    ]
    by (Some s) is =
        will_unset s.birth k b.records ∙ ap (λ (n : ℕ). cond (nat_eq n k) None (will_held k b.records)) (found_key birth_of who.birth s b.records.sessions is)

-- a session is resumed
pub resumed : (s : Session) (expiry : ℕ) (will : Option Will) (k : ℕ) (b : Broker) → session_at s.birth b.records ≡ Some s
    → will_held k (after (At (whose s) (Resume expiry will)) b).records ≡ cond (nat_eq s.birth k) will (will_held k b.records)
resumed s expiry will k b there =
    ap (λ (o : Option Session). will_held k (changed_all (part_rows_of (Resume expiry will) o) b.records)) there
    ∙ by will
  where
    row : Columns
    row = record { birth = s.birth; client = s.client; expiry = expiry; closed = None }

    connected : Records
    connected = changed (SetSession row) b.records

    stands : session_at s.birth connected ≡ Some (with_columns row s)
    stands = change_row-here birth_of s.birth (with_columns row) s b.records.sessions (λ t. refl) there

    before : will_held k connected ≡ will_held k b.records
    before = will_kept s.birth k (with_columns row) b.records (λ t. refl) (λ t. refl)

    by : (w : Option Will) → will_held k (changed_all (will_row s.birth w ∷ []) connected) ≡ cond (nat_eq s.birth k) w (will_held k b.records)
    by None = will_unset s.birth k connected ∙ ap (cond (nat_eq s.birth k) None) before
    by (Some w) = will_set s.birth k (Some w) (with_columns row s) connected stands ∙ ap (cond (nat_eq s.birth k) (Some w)) before

-- a session ends
pub finished : (who : Whose) (k : ℕ) (b : Broker) → will_held k (after (Finish who) b).records ≡ cond (nat_eq who.birth k) None (will_held k b.records)
finished who k b = ap held_if (row_at-remove_row birth_of k who.birth b.records.sessions) ∙ by (nat_eq who.birth k)
  where
    by : (t : Bool) → held_if (cond t None (session_at k b.records)) ≡ cond t None (will_held k b.records)
    by true = refl
    by false = refl

-- a session begins, for which there is room
will_put : (row : Columns) (k : ℕ) (r : Records) → session_at row.birth r ≡ None → HasRoomFor birth_of SESSION_LIMIT row.birth r.sessions
    → session_at k (changed (PutSession row) r) ≡ cond (nat_eq row.birth k) (Some (fresh row)) (session_at k r)
will_put row k r new room =
    let not_there : has_row birth_of row.birth r.sessions ≡ false = ap is_some new in
    let is : put_session row r.sessions ≡ put_row birth_of SESSION_LIMIT (fresh row) r.sessions
    = ap (λ (t : Bool). cond t (change_row birth_of row.birth (with_columns row) r.sessions) (put_row birth_of SESSION_LIMIT (fresh row) r.sessions)) not_there
    in
    ap (λ (ss : List Session). session_at k (record r { sessions = ss })) is ∙ row_at-put_row birth_of SESSION_LIMIT k (fresh row) r.sessions room

-- with a Will or none
pub begun : (row : Columns) (will : Option Will) (k : ℕ) (b : Broker) → session_at row.birth b.records ≡ None → HasRoomFor birth_of SESSION_LIMIT row.birth b.records.sessions
    → will_held k (after (Begin row will) b).records ≡ cond (nat_eq row.birth k) will (will_held k b.records)
begun row will k b new room = by will
  where
    put : Records
    put = changed (PutSession row) b.records

    its : session_at k put ≡ cond (nat_eq row.birth k) (Some (fresh row)) (session_at k b.records)
    its = will_put row k b.records new room

    here : session_at row.birth put ≡ Some (fresh row)
    here = will_put row row.birth b.records new room ∙ ap (λ (t : Bool). cond t (Some (fresh row)) (session_at row.birth b.records)) (nat_eq_equiv.refl row.birth)

    without : (t : Bool) → held_if (cond t (Some (fresh row)) (session_at k b.records)) ≡ cond t None (will_held k b.records)
    without true = refl
    without false = refl

    twice : (w : Option Will) (t : Bool) → cond t w (cond t None (will_held k b.records)) ≡ cond t w (will_held k b.records)
    twice w true = refl
    twice w false = refl

    by : (w : Option Will) → will_held k (stored_after (Begin row w) b.records) ≡ cond (nat_eq row.birth k) w (will_held k b.records)
    by None = ap held_if its ∙ without (nat_eq row.birth k)
    by (Some w) =
        will_set row.birth k (Some w) (fresh row) put here
        ∙ ap (cond (nat_eq row.birth k) (Some w)) (ap held_if its ∙ without (nat_eq row.birth k))
        ∙ twice (Some w) (nat_eq row.birth k)

-- ---- a Will that is published or refused is taken away

-- whatever is done for it
pub will_gone : (env : Env) (s : Session) (b : Broker) → session_at s.birth b.records ≡ Some s → will_held s.birth (after_all (publish_will env s b) b).records ≡ None
will_gone env s b there = by s.will refl
  where
    by : (o : Option Will) → s.will ≡ o → will_held s.birth (after_all (will_deeds env (whose s) o b) b).records ≡ None
    by None none = ap held_if there ∙ none
    by (Some w) some =
        let m = will_message s.client w in
        let first = publish_or_refuse env (whose s) m (accepted_copies env m b) b in
        let c = after_all first b in
        ap (λ (d : Broker). will_held s.birth d.records) (after_append first (At (whose s) DropWill ∷ []) b)
        ∙ dropped (whose s) s.birth c
        ∙ ap (λ (t : Bool). cond t None (will_held s.birth c.records)) (nat_eq_equiv.refl s.birth)

-- a Will is due when its session's end is, or earlier (3.1.3.2.2)
pub no_will_at_end : (now : ℕ) (s : Session) → has_due_will now s ≡ false → has_due_end now s ≡ true → s.will ≡ None
no_will_at_end now s = by s.closed s.expiry s.will
  where
    ends : (a : ℕ) (o : Option ℕ) → nat_le (earlier a o) now ≡ false → is_due now o ≡ true → ⊥
    ends a None p q = absurd cc
    ends a (Some e) p q =
        let up = leb-true e now q in
        let low = min-le_right a e in
        let yes : nat_le (min a e) now ≡ true = le-leb (min a e) now (omega (arith, up, low)) in
        let no : true ≡ false = sym yes ∙ p in
        absurd cc

    by : (closed : Option ℕ) (expiry : ℕ) (will : Option Will) → is_due now (will_due closed expiry will) ≡ false → is_due now (end_due closed expiry) ≡ true → will ≡ None
    by None expiry will p q = absurd cc
    by (Some closed) expiry None p q = refl
    by (Some closed) expiry (Some w) p q = absurd (ends (later closed (1000 * w.delay)) (end_after closed expiry) p q)

-- ---- clients

-- a deed with which no session begins or ends
abbrev IsBeside : Deed → Type 0
IsBeside (Begin row will) = ⊥
IsBeside (Finish who) = ⊥
IsBeside d = ⊤

client_stays : (d : Deed) (k : ℕ) (b : Broker) → IsBeside d → client_at k (after d b).records ≡ client_at k b.records
client_stays (Begin row will) k b h = absurd h
client_stays (Finish who) k b h = absurd h
client_stays (At who part) k b h = client_at_part who part k b.records
client_stays d k b h = refl

-- with such deeds each session keeps its client
pub clients_stay : (ds : List Deed) (k : ℕ) (b : Broker) → AllByRecursion IsBeside ds → client_at k (after_all ds b).records ≡ client_at k b.records
clients_stay [] k b h = refl
clients_stay (d ∷ ds) k b h = clients_stay ds k (after d b) h.1 ∙ client_stays d k b h.0

quiet_beside : (d : Deed) → IsQuiet d → IsBeside d
quiet_beside (Begin row will) h = absurd h
quiet_beside (Finish who) h = absurd h
quiet_beside d h = tt

-- a Will that is published or refused, and taken away
pub will_beside : (env : Env) (s : Session) (b : Broker) → AllByRecursion IsBeside (publish_will env s b)
will_beside env s b = by s.will
  where
    first : (m : Message) (o : Option (List CopyTo)) → AllByRecursion IsBeside (publish_or_refuse env (whose s) m o b)
    first m None = (tt, tt)
    first m (Some ds) = (tt, each_more IsQuiet IsBeside quiet_beside (published_rest env FromWill m ds b) (quiet_rest env FromWill m ds b))

    by : (o : Option Will) → AllByRecursion IsBeside (will_deeds env (whose s) o b)
    by None = tt
    by (Some w) =
        let m = will_message s.client w in
        let o = accepted_copies env m b in
        each_append IsBeside (publish_or_refuse env (whose s) m o b) (At (whose s) DropWill ∷ []) (first m o) (tt, tt)
