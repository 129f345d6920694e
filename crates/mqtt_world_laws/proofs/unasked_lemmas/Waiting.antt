-- What stands in queues: whatever holds of the copies that enter, and of those that stood before, holds of those that stand.
use Rattle.std.proofs.Common.{◌≡◌, ℕ, Bool, true, false, cond, List, Option, Some, None, refl, sym, ap, subst, ◌∙◌}
use Rattle.std.specs.Prelude.{⊤}
use Rattle.std.specs.List.{AllByRecursion}
use Rattle.mqtt_base.specs.declared.limits.TheConstants.{QUEUE_LIMIT, SESSION_LIMIT}
use Rattle.mqtt_records.specs.declared.messages.message.MessageCopy.{MessageCopy}
use Rattle.mqtt_records.specs.declared.messages.message.Will.{Will}
use Rattle.mqtt_records.specs.declared.state.records.Records.{Records}
use Rattle.mqtt_records.specs.declared.state.session.Columns.{Columns}
use Rattle.mqtt_records.specs.declared.state.session.Session.{Session}
use Rattle.mqtt_records.specs.lists.Order.{change_row, has_row, put_row, row_at}
use Rattle.mqtt_records.specs.messages.Queue.{CopyRow}
use Rattle.mqtt_records.specs.state.Records.{changed_all, put_session}
use Rattle.mqtt_records.specs.state.Session.{birth_of, columns_of, copy_place, fresh, in_phase, with_columns, with_copy, with_open, with_phase, with_subscription, with_will, without_copy, without_open, without_subscription}
use Rattle.mqtt_rules.specs.step.Deeds.{Accept, At, Begin, Close, Count, Deed, DropWill, Enter, Finish, Forget, Gone, Keep, Leave, Link, Mark, Name, On, Open, Part, RefuseWill, Release, Resume, Send, SetExpiry, Subscribe, Unsubscribe, Whose, new_entry, part_rows_of, stored_after}
use Rattle.mqtt_rules.specs.step.State.{session_at}
use Rattle.mqtt_rules.proofs.step_lemmas.numbers.Copies.{each_more}
use Rattle.mqtt_rules.proofs.step_lemmas.flight.FlightRows.{all_changed, all_changed_at, all_put, all_removed, all_at, found_key}

module _ (P : ℕ → MessageCopy → Type 0) where
  -- what holds of each copy in a session's queue
  abbrev pub HoldsIn : Session → Type 0
  HoldsIn s = AllByRecursion (λ (e : CopyRow). P s.birth e.copy) s.queue

  -- and in all queues
  abbrev pub HoldsOf : List Session → Type 0
  HoldsOf ss = AllByRecursion HoldsIn ss

  changed_one : (k : ℕ) (f : Session → Session) (ss : List Session) → ((s : Session) → HoldsIn s → HoldsIn (f s)) → HoldsOf ss → HoldsOf (change_row birth_of k f ss)
  changed_one k f ss keeps h = all_changed birth_of HoldsIn k f ss keeps h

  -- a copy that enters is one of which it holds
  abbrev pub EntersWell : Deed → Type 0
  EntersWell (At who (Enter copy)) = P who.birth copy
  EntersWell d = ⊤

  of_will : (birth : ℕ) (will : Option Will) (ss : List Session) → HoldsOf ss → HoldsOf (change_row birth_of birth (with_will will) ss)
  of_will birth will ss h = changed_one birth (with_will will) ss (λ s q. q) h

  of_part : (part : Part) (s : Session) (r : Records) → (row_at birth_of s.birth r.sessions ≡ Some s) → EntersWell (At (record { birth = s.birth; client = s.client }) part) → HoldsOf r.sessions → HoldsOf (changed_all (part_rows_of part (Some s)) r).sessions
  of_part (Resume expiry None) s r there enters h =
      of_will s.birth None (change_row birth_of s.birth (with_columns (record (columns_of s) { expiry = expiry; closed = None })) r.sessions)
      (changed_one s.birth (with_columns (record (columns_of s) { expiry = expiry; closed = None })) r.sessions (λ x q. q) h)
  of_part (Resume expiry (Some will)) s r there enters h =
      of_will s.birth (Some will) (change_row birth_of s.birth (with_columns (record (columns_of s) { expiry = expiry; closed = None })) r.sessions)
      (changed_one s.birth (with_columns (record (columns_of s) { expiry = expiry; closed = None })) r.sessions (λ x q. q) h)
  of_part (Close moment) s r there enters h = changed_one s.birth (with_columns (record (columns_of s) { closed = Some moment })) r.sessions (λ x q. q) h
  of_part (SetExpiry expiry) s r there enters h = changed_one s.birth (with_columns (record (columns_of s) { expiry = expiry })) r.sessions (λ x q. q) h
  of_part DropWill s r there enters h = of_will s.birth None r.sessions h
  of_part (Subscribe x) s r there enters h = changed_one s.birth (with_subscription x) r.sessions (λ y q. q) h
  of_part (Unsubscribe filter) s r there enters h = changed_one s.birth (without_subscription filter) r.sessions (λ y q. q) h
  of_part (Open id) s r there enters h = changed_one s.birth (with_open id) r.sessions (λ y q. q) h
  of_part (Release id) s r there enters h = changed_one s.birth (without_open id) r.sessions (λ y q. q) h
  of_part (Enter copy) s r there enters h =
      let row = new_entry copy s.queue in
      all_changed_at birth_of HoldsIn s.birth (with_copy row) s r.sessions there
      (all_put copy_place (λ (e : CopyRow). P s.birth e.copy) QUEUE_LIMIT row s.queue enters (all_at birth_of HoldsIn s.birth s r.sessions h there)) h
  of_part (Mark place phase) s r there enters h = changed_one s.birth (with_phase place phase) r.sessions (λ y q. all_changed copy_place (λ (e : CopyRow). P y.birth e.copy) place (in_phase phase) y.queue (λ e p. p) q) h
  of_part (Leave e ending) s r there enters h = changed_one s.birth (without_copy e.place) r.sessions (λ y q. all_removed copy_place (λ (x : CopyRow). P y.birth x.copy) e.place y.queue q) h

  enters_at : (who : Whose) (part : Part) (s : Session) → s.birth ≡ who.birth → EntersWell (At who part) → EntersWell (At (record { birth = s.birth; client = s.client }) part)
  enters_at who (Enter copy) s same h = subst (λ (n : ℕ). P n copy) (sym same) h
  enters_at who part s same h = tt

  of_parts : (who : Whose) (part : Part) (r : Records) (o : Option Session) → session_at who.birth r ≡ o → EntersWell (At who part) → HoldsOf r.sessions → HoldsOf (changed_all (part_rows_of part o) r).sessions
  of_parts who part r None there enters h = h
  of_parts who part r (Some s) there enters h =
      let same = found_key birth_of who.birth s r.sessions there in
      of_part part s r (ap (λ (n : ℕ). session_at n r) same ∙ there) (enters_at who part s same enters) h

  of_row : (row : Columns) (ss : List Session) → HoldsOf ss → HoldsOf (put_session row ss)
  of_row row ss h = by (has_row birth_of row.birth ss)
    where
      by : (t : Bool) → HoldsOf (cond t (change_row birth_of row.birth (with_columns row) ss) (put_row birth_of SESSION_LIMIT (fresh row) ss))
      by true = changed_one row.birth (with_columns row) ss (λ s q. q) h
      by false = all_put birth_of HoldsIn SESSION_LIMIT (fresh row) ss tt h

  -- it holds after a deed
  pub after_deed : (d : Deed) (r : Records) → EntersWell d → HoldsOf r.sessions → HoldsOf (stored_after d r).sessions
  after_deed (Accept number origin m) r enters h = h
  after_deed (Begin row None) r enters h = of_row row r.sessions h
  after_deed (Begin row (Some will)) r enters h = of_will row.birth (Some will) (put_session row r.sessions) (of_row row r.sessions h)
  after_deed (Name n) r enters h = h
  after_deed (Count n) r enters h = h
  after_deed (At who part) r enters h = of_parts who part r (session_at who.birth r) refl enters h
  after_deed (Finish who) r enters h = all_removed birth_of HoldsIn who.birth r.sessions h
  after_deed (Keep kept) r enters h = h
  after_deed (Forget place) r enters h = h
  after_deed (RefuseWill who) r enters h = h
  after_deed (Link n) r enters h = h
  after_deed (On line part) r enters h = h
  after_deed (Send line packet) r enters h = h
  after_deed (Gone line) r enters h = h

-- what follows of each copy holds of all queues
pub holds_more : (P Q : ℕ → MessageCopy → Type 0) → ((birth : ℕ) (copy : MessageCopy) → P birth copy → Q birth copy) → (ss : List Session) → HoldsOf P ss → HoldsOf Q ss
holds_more P Q more ss h = each_more (HoldsIn P) (HoldsIn Q) (λ s q. each_more (λ (e : CopyRow). P s.birth e.copy) (λ (e : CopyRow). Q s.birth e.copy) (λ e p. more s.birth e.copy p) s.queue q) ss h
