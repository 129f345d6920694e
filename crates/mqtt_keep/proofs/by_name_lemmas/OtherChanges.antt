-- Changes that put, set and remove no session's own row leave the digests.
use Rattle.std.proofs.Common.{◌≡◌, ℕ, refl}
use Rattle.mqtt_records.specs.declared.state.records.Records.{Records}
use Rattle.mqtt_records.specs.declared.state.session.Columns.{Columns}
use Rattle.mqtt_records.specs.declared.state.session.SessionRow.{SessionRow}
use Rattle.mqtt_records.specs.declared.state.change.Change.{Change}
use Rattle.mqtt_records.specs.declared.state.change.Change.TheVariants.{SetCounter, PutSession, SetSession, RemoveSession, PutWill, RemoveWill, PutSubscription, RemoveSubscription, PutInbound, RemoveInbound, PutCopy, SetCopy, RemoveCopy, PutRetained, RemoveRetained}
use Rattle.mqtt_records.specs.declared.state.change.Counter.TheVariants.{Births, Publications, Subscribes, Autos, Moment}
use Rattle.mqtt_records.specs.state.Session.{with_will, with_subscription, without_subscription, with_open, without_open, with_copy, with_phase, without_copy}
use Rattle.mqtt_records.specs.state.Records.{changed}
use Rattle.std.specs.Prelude.{Some, None}
use Rattle.mqtt_keep.specs.by_name.Digests.{digest_rows}
use Rattle.mqtt_keep.proofs.by_name_lemmas.Digested.{same_digest}

-- a change of no session's row leaves the digests
pub other_digests : (change : Change) (r : Records) → ((row : SessionRow) → change ≡ PutSession row → ⊥) → ((row : Columns) → change ≡ SetSession row → ⊥) → ((birth : ℕ) → change ≡ RemoveSession birth → ⊥)
    → digest_rows (changed change r).sessions ≡ digest_rows r.sessions
other_digests (SetCounter Births value) r put set gone = refl
other_digests (SetCounter Publications value) r put set gone = refl
other_digests (SetCounter Subscribes value) r put set gone = refl
other_digests (SetCounter Autos value) r put set gone = refl
other_digests (SetCounter Moment value) r put set gone = refl
other_digests (PutSession row) r put set gone = absurd (put row refl)
other_digests (SetSession row) r put set gone = absurd (set row refl)
other_digests (RemoveSession birth) r put set gone = absurd (gone birth refl)
other_digests (PutWill birth will) r put set gone = same_digest birth (with_will (Some will)) r.sessions (λ s. refl)
other_digests (RemoveWill birth) r put set gone = same_digest birth (with_will None) r.sessions (λ s. refl)
other_digests (PutSubscription birth subscription) r put set gone = same_digest birth (with_subscription subscription) r.sessions (λ s. refl)
other_digests (RemoveSubscription birth text) r put set gone = same_digest birth (without_subscription text) r.sessions (λ s. refl)
other_digests (PutInbound birth identifier) r put set gone = same_digest birth (with_open identifier) r.sessions (λ s. refl)
other_digests (RemoveInbound birth identifier) r put set gone = same_digest birth (without_open identifier) r.sessions (λ s. refl)
other_digests (PutCopy birth row) r put set gone = same_digest birth (with_copy row) r.sessions (λ s. refl)
other_digests (SetCopy birth place phase) r put set gone = same_digest birth (with_phase place phase) r.sessions (λ s. refl)
other_digests (RemoveCopy birth place) r put set gone = same_digest birth (without_copy place) r.sessions (λ s. refl)
other_digests (PutRetained kept) r put set gone = refl
other_digests (RemoveRetained place) r put set gone = refl
