-- What closing or settling a session leaves of another: whose it is, and its Will.
use Rattle.std.proofs.Common.{◌≡◌, ℕ, false, cond, Bool, List, [], ◌∷◌, Option, Some, None, nat_eq, refl, ap, ◌∙◌, inl, inr}
use Rattle.std.specs.Prelude.{◌⊎◌, option_map}
use Rattle.mqtt_records.specs.declared.state.session.Session.{Session}
use Rattle.mqtt_records.specs.declared.state.session.Columns.{Columns}
use Rattle.mqtt_records.specs.declared.state.records.Records.{Records}
use Rattle.mqtt_records.specs.state.Session.{birth_of, columns_of, with_columns, with_copy, with_will, without_copy}
use Rattle.mqtt_records.specs.state.Records.{changed_all, in_session}
use Rattle.mqtt_records.proofs.lists_lemmas.LookUps.{row_at-remove_row}
use Rattle.mqtt_rules.specs.step.Deeds.{Whose, Part, Close, DropWill, Enter, Leave, Deed, Accept, Begin, Name, Count, At, Finish, Keep, Forget, RefuseWill, Link, On, Send, Gone, after, after_all, new_entry, part_rows, part_rows_of, stored_after}
use Rattle.mqtt_rules.specs.step.State.{Broker, session_at}
use Rattle.mqtt_rules.proofs.step_lemmas.flight.FlightRows.{found_key}
use Rattle.mqtt_rules.proofs.step_lemmas.acts.Goods.{AreGood}
use Rattle.mqtt_rules.proofs.step_lemmas.acts.LookedUp.{field_kept, row_at-change_row}
use Rattle.mqtt_broker.specs.stored.Sessions.{face, face_at}
use Rattle.mqtt_broker.proofs.stored_lemmas.Own.{IsClosing, IsOwn, IsQueued}

-- another session changes
other_kept : (birth z : ℕ) (f : Session → Session) (r : Records) → ((s : Session) → birth_of (f s) ≡ birth_of s) → nat_eq birth z ≡ false → face_at z (in_session birth f r) ≡ face_at z r
other_kept birth z f r births other =
    ap (option_map face) (row_at-change_row birth_of z birth f r.sessions births ∙ ap (λ (t : Bool). cond t (option_map f (session_at z r)) (session_at z r)) other)

queued_kept : (z : ℕ) (part : Part) (s : Session) (r : Records) → IsQueued part → face_at z (changed_all (part_rows part s) r) ≡ face_at z r
queued_kept z (Enter copy) s r h = field_kept face s.birth z (with_copy (new_entry copy s.queue)) r (λ t. refl) (λ t. refl)
queued_kept z (Leave e ending) s r h = field_kept face s.birth z (without_copy e.place) r (λ t. refl) (λ t. refl)
queued_kept z part s r h = elim h [ ]

closing_kept : (z : ℕ) (part : Part) (s : Session) (r : Records) → nat_eq s.birth z ≡ false → IsClosing part → face_at z (changed_all (part_rows part s) r) ≡ face_at z r
closing_kept z (Close moment) s r other h =
    let row : Columns = record (columns_of s) { closed = Some moment } in
    other_kept s.birth z (with_columns row) r (λ t. refl) other
closing_kept z DropWill s r other h = other_kept s.birth z (with_will None) r (λ t. refl) other
closing_kept z part s r other h = elim h [ ]

module _ (k z : ℕ) (other : nat_eq k z ≡ false) where
  part_kept : (who : Whose) (part : Part) (s : Session) (r : Records) → s.birth ≡ who.birth → IsQueued part ⊎ ((who.birth ≡ k) × IsClosing part) → face_at z (changed_all (part_rows part s) r) ≡ face_at z r
  part_kept who part s r its (inl queued) = queued_kept z part s r queued
  part_kept who part s r its (inr own) = closing_kept z part s r (ap (λ n. nat_eq n z) (its ∙ own.0) ∙ other) own.1

  part_kept_of : (who : Whose) (part : Part) (o : Option Session) (r : Records) → session_at who.birth r ≡ o → IsQueued part ⊎ ((who.birth ≡ k) × IsClosing part) → face_at z (changed_all (part_rows_of part o) r) ≡ face_at z r
  part_kept_of who part None r found h = refl
  part_kept_of who part (Some s) r found h = part_kept who part s r (found_key birth_of who.birth s r.sessions found) h

  finish_kept : (birth : ℕ) (r : Records) → birth ≡ k → face_at z (stored_after (Finish (record { birth = birth; client = [] })) r) ≡ face_at z r
  finish_kept birth r its =
      ap (option_map face) (row_at-remove_row birth_of z birth r.sessions ∙ ap (λ (t : Bool). cond t None (session_at z r)) (ap (λ n. nat_eq n z) its ∙ other))

  deed_kept : (d : Deed) (b : Broker) → IsOwn k d b → face_at z (after d b).records ≡ face_at z b.records
  deed_kept (Accept number origin m) b h = refl
  deed_kept (Begin row will) b h = elim h [ ]
  deed_kept (Name n) b h = elim h [ ]
  deed_kept (Count n) b h = elim h [ ]
  deed_kept (At who part) b h = part_kept_of who part (session_at who.birth b.records) b.records refl h
  deed_kept (Finish who) b h = finish_kept who.birth b.records h
  deed_kept (Keep kept) b h = refl
  deed_kept (Forget place) b h = refl
  deed_kept (RefuseWill who) b h = refl
  deed_kept (Link n) b h = elim h [ ]
  deed_kept (On n part) b h = elim h [ ]
  deed_kept (Send n packet) b h = refl
  deed_kept (Gone n) b h = elim h [ ]

  -- the deeds of closing or settling one session leave whose another is, and its Will
  pub deeds_kept : (ds : List Deed) (b : Broker) → AreGood (IsOwn k) ds b → face_at z (after_all ds b).records ≡ face_at z b.records
  deeds_kept [] b h = refl
  deeds_kept (d ∷ ds) b h = deeds_kept ds (after d b) h.1 ∙ deed_kept d b h.0
