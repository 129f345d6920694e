-- What a store has, a crash leaves: a lemma for the promise of any store of records.
use Rattle.std.proofs.Common.{◌≡◌, inl, inr}
use Rattle.sqlite.specs.State.{State}
use Rattle.mqtt_records.specs.declared.state.records.Records.{Records}
use Rattle.mqtt_store_database.proofs.loading_lemmas.One.{has_kept}
use Rattle.mqtt_store.specs.Holding.{Holds, Leaves}

pub leaves_held : (s : State) (left r : Records) → Holds s r → Leaves s left → left ≡ r
leaves_held s left r holds found =
    let has = holds found.clean in
    elim found.may [
      | inl crash ↦ has.left crash.0 left crash.1 crash.2
      | inr shown ↦ has_kept s.now left r shown.1 (has.keeps shown.0)
    ]
