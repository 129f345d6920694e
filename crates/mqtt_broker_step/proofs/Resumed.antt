-- What a session that is resumed makes of a step: two rows.
use Rattle.std.proofs.Common.{◌≡◌, ℕ, [], ◌∷◌, ◌++◌, refl, ap, sym, ◌∙◌, append-nil, append_assoc}
use Rattle.std.specs.Prelude.{Option, Some, None}
use Rattle.mqtt_records.specs.declared.messages.message.Will.{Will}
use Rattle.mqtt_records.specs.declared.state.session.Session.{Session}
use Rattle.mqtt_records.specs.declared.state.change.Change.{Change}
use Rattle.mqtt_records.specs.declared.state.change.Change.TheVariants.{SetSession}
use Rattle.mqtt_records.specs.state.Records.{changed_all}
use Rattle.mqtt_records.specs.state.Session.{columns_of}
use Rattle.mqtt_rules.specs.step.State.{session_at}
use Rattle.mqtt_rules.specs.step.Deeds.{Act, At, Resume, whose, will_row, part_rows_of, with_session, always, rows_of_all}
use Rattle.mqtt_broker_step.specs.declared.fault.StepFault.{StepFault}
use Rattle.mqtt_broker_step.specs.declared.fault.StepFault.TheVariants.{Memory, Spent}
use Rattle.mqtt_broker_step.specs.Undoing.{with_records}
use Rattle.mqtt_broker_step.specs.Stepping.{Stepping, did, Did, IsLeft, IsKept, IsLeftRow, IsRefusedRow, to_session, written}
use Rattle.mqtt_broker_step.proofs.Doing.{same_parts, stands, found_birth, left_of_row}

-- the row of a Will gives no number
pub will_kept : (birth : ℕ) (will : Option Will) (fault : StepFault) (old new : Stepping) → IsRefusedRow (will_row birth will) fault → new ≡ old → IsKept fault old new
will_kept birth will fault old new is same = record { start = ap (λ (s : Stepping). s.start) same; limits = ap (λ (s : Stepping). s.limits) same; memory = by will fault is }
  where
    by : (w : Option Will) (f : StepFault) → IsRefusedRow (will_row birth w) f → f ≡ Memory
    by w Memory e = refl
    by None Spent e = absurd cc
    by (Some w) Spent e = absurd cc

-- its own row
abbrev pub resumed_row : ℕ → Session → Change
resumed_row expiry x = SetSession (record (columns_of x) { expiry = expiry; closed = None })

did_resume : (x : Session) (expiry : ℕ) (will : Option Will) (s : Stepping) → session_at x.birth s.broker.records ≡ Some x
    → written (will_row x.birth will) (written (resumed_row expiry x) s) ≡ did (At (whose x) (Resume expiry will) ∷ []) s
did_resume x expiry will s found = same_parts s
    (ap (λ (o : Option Session). with_records (changed_all (part_rows_of (Resume expiry will) o) s.broker.records) s.broker) (sym found))
    (append_assoc s.rows (resumed_row expiry x ∷ []) (will_row x.birth will ∷ [])
    ∙ ap (λ (o : Option Session). s.rows ++ (part_rows_of (Resume expiry will) o ++ [])) (sym found))
    (sym (append-nil s.outputs)) (sym (append-nil s.closed)) (sym (append-nil s.reports))

resume_act : (birth expiry : ℕ) (will : Option Will) (x : Session) (s : Stepping) → session_at birth s.broker.records ≡ Some x
    → to_session birth (Resume expiry will) s.broker ≡ At (whose x) (Resume expiry will) ∷ []
resume_act birth expiry will x s found = ap (λ (o : Option Session). with_session o (λ y. always (At (whose y) (Resume expiry will) ∷ [])) s.broker) found

-- a session is resumed once its own row and that of its Will are written
pub resume_ok : (birth expiry : ℕ) (will : Option Will) (x : Session) (s d new : Stepping) → session_at birth s.broker.records ≡ Some x
    → d ≡ written (resumed_row expiry x) s → new ≡ written (will_row birth will) d → Did (to_session birth (Resume expiry will)) s new
resume_ok birth expiry will x s d new found row is = record {
  is = is ∙ (ap (written (will_row birth will)) row
      ∙ (ap (λ n. written (will_row n will) (written (resumed_row expiry x) s)) (sym (found_birth birth s.broker.records.sessions x found))
      ∙ (did_resume x expiry will s (stands birth s.broker.records x found)
      ∙ ap (λ ds. did ds s) (sym (resume_act birth expiry will x s found)))));
}

resume_rows : (birth expiry : ℕ) (will : Option Will) (x : Session) (s : Stepping) → session_at birth s.broker.records ≡ Some x
    → rows_of_all (to_session birth (Resume expiry will) s.broker) s.broker.records ≡ resumed_row expiry x ∷ (will_row x.birth will ∷ [])
resume_rows birth expiry will x s found =
    ap (λ ds. rows_of_all ds s.broker.records) (resume_act birth expiry will x s found)
    ∙ ap (λ (o : Option Session). part_rows_of (Resume expiry will) o ++ []) (stands birth s.broker.records x found)

-- a session's resumption is refused if its own row is
pub resume_left : (birth expiry : ℕ) (will : Option Will) (x : Session) (fault : StepFault) (s new : Stepping) → session_at birth s.broker.records ≡ Some x
    → IsLeftRow (resumed_row expiry x) fault s new → IsLeft (to_session birth (Resume expiry will)) fault s new
resume_left birth expiry will x fault s new found is =
    left_of_row (to_session birth (Resume expiry will)) (resumed_row expiry x) (will_row x.birth will ∷ []) fault s new (resume_rows birth expiry will x s found) is

-- want of memory after deeds that can be taken back
pub kept_later : (act : Act) (fault : StepFault) (s d new : Stepping) → d.start ≡ s.start → d.limits ≡ s.limits → IsKept fault d new → IsLeft act fault s new
kept_later act fault s d new start limits is = record {
  start = is.start ∙ start;
  limits = is.limits ∙ limits;
  spent = λ e. absurd (never (sym is.memory ∙ e));
}
  where
    never : Memory ≡ Spent → ⊥
    never e = absurd cc
