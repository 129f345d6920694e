-- A row of a new session, and what takes it back.
use Rattle.std.proofs.Common.{◌≡◌, ℕ, Bool, cond, List, [], ◌∷◌, refl, ap, ◌∙◌, arith}
use Rattle.std.specs.Prelude.{None, is_some}
use Rattle.mqtt_base.specs.declared.limits.TheConstants.{SESSION_LIMIT}
use Rattle.mqtt_records.specs.lists.Order.{IsAscending, IsBelow, row_at, put_row, change_row, remove_row}
use Rattle.mqtt_records.proofs.lists_lemmas.OrderLemmas.{apart}
use Rattle.mqtt_records.specs.declared.state.session.Session.{Session}
use Rattle.mqtt_records.specs.declared.state.session.Columns.{Columns}
use Rattle.mqtt_records.specs.declared.state.records.Records.{Records}
use Rattle.mqtt_records.specs.declared.state.change.Change.TheVariants.{PutSession, RemoveSession}
use Rattle.mqtt_records.specs.state.Records.{changed}
use Rattle.mqtt_records.specs.state.Session.{birth_of, fresh, with_columns}
use Rattle.mqtt_rules.specs.step.State.{session_at}
use Rattle.mqtt_broker_step.proofs.Inverse.{put_back}

-- if each birth is below a number no session is found by it
pub none_below : (n : ℕ) (ss : List Session) → IsBelow birth_of n ss → row_at birth_of n ss ≡ None
none_below n [] below = refl
none_below n (x ∷ xs) below =
    let less = below.0 in
    rw (apart x.birth n (λ e. omega (arith, e, less))) (none_below n xs below.1)

-- a row that is new is put, and removed
pub begun_back : (row : Columns) (r : Records) → IsAscending birth_of r.sessions → session_at row.birth r ≡ None
    → changed (RemoveSession row.birth) (changed (PutSession row) r) ≡ r
begun_back row r up none =
    ap (λ (b : Bool). let x : Records = record r {
      sessions = remove_row birth_of row.birth (cond b (change_row birth_of row.birth (with_columns row) r.sessions) (put_row birth_of SESSION_LIMIT (fresh row) r.sessions));
    } in x) (ap is_some none)
    ∙ ap (λ (ss : List Session). let x : Records = record r { sessions = ss } in x) (put_back birth_of SESSION_LIMIT (fresh row) r.sessions up none)
