-- What closing a session leaves as it was: whose each one is, and its Will. And the closings of an opening, before its settlings.
use Rattle.std.proofs.Common.{◌≡◌, ℕ, ◌++◌, Option, Some, None, nat_eq, refl, sym, ap, ◌∙◌, inl, inr}
use Rattle.std.specs.Prelude.{option_map}
use Rattle.std.proofs.lemmas.Bool.{cases_Bool, eqb-true}
use Rattle.mqtt_records.specs.declared.state.records.Records.{Records}
use Rattle.mqtt_records.specs.declared.state.session.Columns.{Columns}
use Rattle.mqtt_records.specs.declared.state.session.Session.{Session}
use Rattle.mqtt_records.specs.state.Records.{changed_all}
use Rattle.mqtt_records.specs.state.Session.{birth_of, columns_of, with_columns}
use Rattle.mqtt_rules.specs.step.Deeds.{Close, after_all, part_rows, part_rows_of, then}
use Rattle.mqtt_rules.specs.step.State.{Broker, Env, session_at}
use Rattle.mqtt_rules.specs.step.Step.{connected_in, opening, settles_all, shuts, shuts_all}
use Rattle.mqtt_rules.proofs.step_lemmas.acts.LookedUp.{row_at-change_row}
use Rattle.mqtt_rules.proofs.step_lemmas.flight.FlightRows.{found_key}
use Rattle.mqtt_broker_queue.proofs.publications_lemmas.Some.{alone}
use Rattle.mqtt_broker.specs.stored.Sessions.{face, face_at}

module _ (z moment : ℕ) where
  face_of_closed : (s : Session) (r : Records) → session_at s.birth r ≡ Some s → face_at z (changed_all (part_rows (Close moment) s) r) ≡ face_at z r
  face_of_closed s r there =
      let row : Columns = record (columns_of s) { closed = Some moment } in
      ap (option_map face) (row_at-change_row birth_of z s.birth (with_columns row) r.sessions (λ t. refl)) ∙ elim (cases_Bool (nat_eq s.birth z)) [
        | inl its ↦
            let is : s.birth ≡ z = eqb-true s.birth z its in
            let found : session_at z r ≡ Some s = ap (λ (n : ℕ). session_at n r) (sym is) ∙ there in
            rw its (ap (λ (o : Option Session). option_map face (option_map (with_columns row) o)) found ∙ sym (ap (option_map face) found))
        | inr other ↦ rw other refl
      ]

  face_closed : (k : ℕ) (o : Option Session) (r : Records) → session_at k r ≡ o → face_at z (changed_all (part_rows_of (Close moment) o) r) ≡ face_at z r
  face_closed k None r found = refl
  face_closed k (Some s) r found =
      face_of_closed s r (ap (λ (n : ℕ). session_at n r) (found_key birth_of k s r.sessions found) ∙ found)

-- closing a session leaves whose each one is, and its Will
pub shut_face : (x : Session) (z : ℕ) (b : Broker) → face_at z (after_all (shuts x b) b).records ≡ face_at z b.records
shut_face x z b = face_closed z b.now x.birth (session_at x.birth b.records) b.records refl

-- the closings of an opening, and then its settlings, are the opening
pub as_opening : (env : Env) (b : Broker) → then (shuts_all (connected_in b.records) b) (settles_all env (connected_in b.records)) b ≡ opening env b
as_opening env b =
    let ss = connected_in b.records in
    ap (λ ds. shuts_all ss b ++ ds) (alone (settles_all env ss) (after_all (shuts_all ss b) b))
