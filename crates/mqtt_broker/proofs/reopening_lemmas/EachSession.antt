-- What holds of each session after a deed, by what it makes of each.
use Rattle.std.proofs.Common.{◌≡◌, ℕ, Bool, true, false, cond, not, List, [], ◌∷◌, Option, Some, None, nat_eq, refl, sym, ap, subst, ◌∙◌, inl, inr}
use Rattle.std.specs.Prelude.{⊤}
use Rattle.std.specs.List.{AllByRecursion}
use Rattle.std.proofs.lemmas.Bool.{cases_Bool, eqb-true}
use Rattle.mqtt_base.specs.declared.limits.TheConstants.{SESSION_LIMIT, RETAINED_LIMIT}
use Rattle.mqtt_records.specs.declared.messages.message.RetainedMessage.{RetainedMessage}
use Rattle.mqtt_records.specs.declared.messages.message.Will.{Will}
use Rattle.mqtt_records.specs.declared.state.records.Records.{Records}
use Rattle.mqtt_records.specs.declared.state.session.Columns.{Columns}
use Rattle.mqtt_records.specs.declared.state.session.Session.{Session}
use Rattle.mqtt_records.specs.state.Records.{changed_all, kept_place, put_session}
use Rattle.mqtt_records.specs.state.Session.{birth_of, columns_of, fresh, with_columns, with_will, with_subscription, without_subscription, with_open, without_open, with_copy, with_phase, without_copy}
use Rattle.mqtt_records.specs.lists.Order.{has_row, put_row, change_row}
use Rattle.mqtt_rules.specs.step.State.{Broker, session_at}
use Rattle.mqtt_rules.specs.step.Deeds.{Part, Resume, Close, SetExpiry, DropWill, Subscribe, Unsubscribe, Open, Release, Enter, Mark, Leave, Deed, Accept, Begin, Name, Count, At, Finish, Keep, Forget, RefuseWill, Link, On, Send, Gone, new_entry, part_rows, part_rows_of, after}
use Rattle.mqtt_rules.proofs.step_lemmas.numbers.Copies.{each_filter, each_more}
use Rattle.mqtt_rules.proofs.step_lemmas.flight.FlightRows.{all_put, all_changed}
use Rattle.mqtt_rules.proofs.step_lemmas.order.OrderedRoom.{at_retained, begin_retained}

-- what a part makes of a session; s is the one that was found
abbrev pub part_made : Part → Session → Session → Session
part_made (Resume expiry will) s t = with_will will (with_columns (record (columns_of s) { expiry = expiry; closed = None }) t)
part_made (Close moment) s t = with_columns (record (columns_of s) { closed = Some moment }) t
part_made (SetExpiry expiry) s t = with_columns (record (columns_of s) { expiry = expiry }) t
part_made DropWill s t = with_will None t
part_made (Subscribe x) s t = with_subscription x t
part_made (Unsubscribe filter) s t = without_subscription filter t
part_made (Open id) s t = with_open id t
part_made (Release id) s t = without_open id t
part_made (Enter copy) s t = with_copy (new_entry copy s.queue) t
part_made (Mark place phase) s t = with_phase place phase t
part_made (Leave e ending) s t = without_copy e.place t

-- P holds of each before, and Q is to hold of each after
module _ (P Q : Session → Type 0) (more : (t : Session) → P t → Q t) where
  -- what holds of each session holds after one is changed, if it does of that one
  pub change_each : (k : ℕ) (f : Session → Session) (ss : List Session) → ((t : Session) → birth_of t ≡ k → P t → Q (f t)) → AllByRecursion P ss → AllByRecursion Q (change_row birth_of k f ss)
  change_each k f [] g h = tt
  change_each k f (t ∷ ts) g h = elim (cases_Bool (nat_eq (birth_of t) k)) [
    | inl same ↦ rw same (g t (eqb-true (birth_of t) k same) h.0, each_more P Q more ts h.1)
    | inr other ↦ rw other (more t h.0, change_each k f ts g h.1)
  ]

  change_twice : (k : ℕ) (e f : Session → Session) (ss : List Session) → ((t : Session) → birth_of (e t) ≡ birth_of t) → ((t : Session) → birth_of t ≡ k → P t → Q (f (e t))) → AllByRecursion P ss
      → AllByRecursion Q (change_row birth_of k f (change_row birth_of k e ss))
  change_twice k e f [] keeps g h = tt
  change_twice k e f (t ∷ ts) keeps g h = elim (cases_Bool (nat_eq (birth_of t) k)) [
    | inl same ↦
        let again : nat_eq (birth_of (e t)) k ≡ true = ap (λ n. nat_eq n k) (keeps t) ∙ same in
        rw (same, again) (g t (eqb-true (birth_of t) k same) h.0, each_more P Q more ts h.1)
    | inr other ↦ rw (other, other) (more t h.0, change_twice k e f ts keeps g h.1)
  ]

  -- what holds of each session holds after a part of one, if it does of that one
  pub part_each : (part : Part) (s : Session) (r : Records) → ((t : Session) → birth_of t ≡ s.birth → P t → Q (part_made part s t)) → AllByRecursion P r.sessions → AllByRecursion Q (changed_all (part_rows part s) r).sessions
  part_each (Resume expiry None) s r g h =
      change_twice s.birth (with_columns (record (columns_of s) { expiry = expiry; closed = None })) (with_will None) r.sessions (λ t. refl) g h
  part_each (Resume expiry (Some w)) s r g h =
      change_twice s.birth (with_columns (record (columns_of s) { expiry = expiry; closed = None })) (with_will (Some w)) r.sessions (λ t. refl) g h
  part_each (Close moment) s r g h = change_each s.birth (part_made (Close moment) s) r.sessions g h
  part_each (SetExpiry expiry) s r g h = change_each s.birth (part_made (SetExpiry expiry) s) r.sessions g h
  part_each DropWill s r g h = change_each s.birth (part_made DropWill s) r.sessions g h
  part_each (Subscribe x) s r g h = change_each s.birth (part_made (Subscribe x) s) r.sessions g h
  part_each (Unsubscribe filter) s r g h = change_each s.birth (part_made (Unsubscribe filter) s) r.sessions g h
  part_each (Open id) s r g h = change_each s.birth (part_made (Open id) s) r.sessions g h
  part_each (Release id) s r g h = change_each s.birth (part_made (Release id) s) r.sessions g h
  part_each (Enter copy) s r g h = change_each s.birth (part_made (Enter copy) s) r.sessions g h
  part_each (Mark place phase) s r g h = change_each s.birth (part_made (Mark place phase) s) r.sessions g h
  part_each (Leave e ending) s r g h = change_each s.birth (part_made (Leave e ending) s) r.sessions g h

  -- what a new session is, what its row makes of one with its birth, and a Will of either
  pub record Begins (row : Columns) : Type 0 where
    pub new : Q (fresh row)
    pub again : (t : Session) → birth_of t ≡ row.birth → P t → Q (with_columns row t)
    pub will : (w : Will) (t : Session) → Q t → Q (with_will (Some w) t)

  abbrev pub Makes : Deed → Broker → Type 0
  Makes (Begin row will) b = Begins row
  Makes (At who part) b = (s t : Session) → session_at who.birth b.records ≡ Some s → birth_of t ≡ s.birth → P t → Q (part_made part s t)
  Makes d b = ⊤

  parts_each : (part : Part) (o : Option Session) (r : Records) → ((s t : Session) → o ≡ Some s → birth_of t ≡ s.birth → P t → Q (part_made part s t)) → AllByRecursion P r.sessions → AllByRecursion Q (changed_all (part_rows_of part o) r).sessions
  parts_each part None r g h = each_more P Q more r.sessions h
  parts_each part (Some s) r g h = part_each part s r (λ t. g s t refl) h

  put_each : (row : Columns) (ss : List Session) → Begins row → AllByRecursion P ss → AllByRecursion Q (put_session row ss)
  put_each row ss g h = by (has_row birth_of row.birth ss)
    where
      by : (b : Bool) → AllByRecursion Q (cond b (change_row birth_of row.birth (with_columns row) ss) (put_row birth_of SESSION_LIMIT (fresh row) ss))
      by true = change_each row.birth (with_columns row) ss g.again h
      by false = all_put birth_of Q SESSION_LIMIT (fresh row) ss g.new (each_more P Q more ss h)

  -- what holds of each session holds after a deed, if it does of those that the deed makes
  pub deed_each : (d : Deed) (b : Broker) → Makes d b → AllByRecursion P b.records.sessions → AllByRecursion Q (after d b).records.sessions
  deed_each (Begin row None) b g h = put_each row b.records.sessions g h
  deed_each (Begin row (Some w)) b g h =
      all_changed birth_of Q row.birth (with_will (Some w)) (put_session row b.records.sessions) (λ t q. g.will w t q) (put_each row b.records.sessions g h)
  deed_each (At who part) b g h = parts_each part (session_at who.birth b.records) b.records g h
  deed_each (Finish who) b g h = each_filter Q (λ s. not (nat_eq (birth_of s) who.birth)) b.records.sessions (each_more P Q more b.records.sessions h)
  deed_each (Accept number origin m) b g h = each_more P Q more b.records.sessions h
  deed_each (Name n) b g h = each_more P Q more b.records.sessions h
  deed_each (Count n) b g h = each_more P Q more b.records.sessions h
  deed_each (Keep kept) b g h = each_more P Q more b.records.sessions h
  deed_each (Forget place) b g h = each_more P Q more b.records.sessions h
  deed_each (RefuseWill who) b g h = each_more P Q more b.records.sessions h
  deed_each (Link n) b g h = each_more P Q more b.records.sessions h
  deed_each (On n part) b g h = each_more P Q more b.records.sessions h
  deed_each (Send n packet) b g h = each_more P Q more b.records.sessions h
  deed_each (Gone n) b g h = each_more P Q more b.records.sessions h

-- what holds of each retained message
module _ (P : RetainedMessage → Type 0) where
  abbrev pub Keeps : Deed → Type 0
  Keeps (Keep kept) = P kept
  Keeps d = ⊤

  -- what holds of each retained message holds after a deed, if it does of the one that is kept
  pub deed_kept : (d : Deed) (b : Broker) → Keeps d → AllByRecursion P b.records.retained → AllByRecursion P (after d b).records.retained
  deed_kept (Begin row will) b g h = subst (AllByRecursion P) (sym (begin_retained row will b.records)) h
  deed_kept (At who part) b g h = subst (AllByRecursion P) (sym (at_retained part b.records (session_at who.birth b.records))) h
  deed_kept (Keep kept) b g h = all_put kept_place P RETAINED_LIMIT kept b.records.retained g h
  deed_kept (Forget place) b g h = each_filter P (λ k. not (nat_eq (kept_place k) place)) b.records.retained h
  deed_kept (Accept number origin m) b g h = h
  deed_kept (Name n) b g h = h
  deed_kept (Count n) b g h = h
  deed_kept (Finish who) b g h = h
  deed_kept (RefuseWill who) b g h = h
  deed_kept (Link n) b g h = h
  deed_kept (On n part) b g h = h
  deed_kept (Send n packet) b g h = h
  deed_kept (Gone n) b g h = h
