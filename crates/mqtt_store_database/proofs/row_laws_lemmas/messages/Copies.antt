-- What is said before and after a change of copies.
use Rattle.std.proofs.Common.{◌≡◌, ◌⊎◌, ℕ, ap, ◌∙◌, refl, inl, inr}
use Rattle.mqtt_base.specs.declared.session.Phase.{Phase}
use Rattle.mqtt_records.specs.messages.Queue.{CopyRow}
use Rattle.mqtt_records.specs.declared.state.records.Records.{Records}
use Rattle.mqtt_records.specs.declared.state.change.Change.TheVariants.{PutCopy, SetCopy, RemoveCopy, RemoveSession}
use Rattle.mqtt_records.specs.state.Records.{changed, Fits}
use Rattle.mqtt_records.specs.state.Session.{in_phase}
use Rattle.mqtt_records.specs.state.Members.{InQueue}
use Rattle.mqtt_records.specs.state.Contents.{StoredMessage, copy_message, IsMessageOf}
use Rattle.mqtt_store_database.specs.item_laws.Members.{IsKept}
use Rattle.mqtt_store_database.proofs.item_laws_lemmas.records.Queues.{put_new, put_old, removed_copy_new, removed_copy_old, set_new, set_old, ended_new, ended_old}
use Rattle.mqtt_store_database.proofs.row_laws_lemmas.messages.Shared.{same_or_other, at_or_other}

-- the number of a copy at that place of that queue is among those that are told
abbrev pub AreTold : Records → ℕ → ℕ → (ℕ → Type 0) → Type 0
AreTold r birth place Told = (x : CopyRow) → InQueue r birth x → x.place ≡ place → Told x.copy.id.publication

module _ (r : Records) (kept : IsKept r) (birth : ℕ) where
  module _ (entry : CopyRow) (fits : Fits (PutCopy birth entry) r) where
    -- after a copy is put, what is said was said before, or is its own
    pub put_said : (m : StoredMessage) → IsMessageOf (changed (PutCopy birth entry) r) m → IsMessageOf r m ⊎ (m ≡ copy_message entry)
    put_said m (inl it) = elim (put_new r kept birth entry fits it.0 it.1 it.2) [
      | inl new ↦ inr (it.3 ∙ ap copy_message new.1)
      | inr old ↦ inl (inl (it.0, it.1, old.0, it.3))
    ]
    put_said m (inr it) = inl (inr it)

    -- what a copy that is put says is said
    pub put_says : IsMessageOf (changed (PutCopy birth entry) r) (copy_message entry)
    put_says = inl (birth, entry, put_old r kept birth entry fits birth entry (inl (refl, refl)), refl)

    -- what was said is said after a copy is put, or its number is told
    pub put_lost : (Told : ℕ → Type 0) → AreTold r birth entry.place Told → (m : StoredMessage) → IsMessageOf r m → IsMessageOf (changed (PutCopy birth entry) r) m ⊎ Told m.publication
    put_lost Told told m (inl it) = elim (at_or_other it.0 birth it.1.place entry.place) [
      | inl at ↦ inr (rw (it.3) (told it.1 (rw (← at.0) it.2) at.1))
      | inr other ↦ inl (inl (it.0, it.1, put_old r kept birth entry fits it.0 it.1 (inr (it.2, other)), it.3))
    ]
    put_lost Told told m (inr it) = inl (inr it)

  module _ (place : ℕ) where
    -- after a copy is removed, what is said was said before
    pub removed_said : (m : StoredMessage) → IsMessageOf (changed (RemoveCopy birth place) r) m → IsMessageOf r m
    removed_said m (inl it) = inl (it.0, it.1, (removed_copy_new r kept birth place it.0 it.1 it.2).0, it.3)
    removed_said m (inr it) = inr it

    -- what was said is said after a copy is removed, or its number is told
    pub removed_lost : (Told : ℕ → Type 0) → AreTold r birth place Told → (m : StoredMessage) → IsMessageOf r m → IsMessageOf (changed (RemoveCopy birth place) r) m ⊎ Told m.publication
    removed_lost Told told m (inl it) = elim (at_or_other it.0 birth it.1.place place) [
      | inl at ↦ inr (rw (it.3) (told it.1 (rw (← at.0) it.2) at.1))
      | inr other ↦ inl (inl (it.0, it.1, removed_copy_old r kept birth place it.0 it.1 (it.2, other), it.3))
    ]
    removed_lost Told told m (inr it) = inl (inr it)

    module _ (phase : Phase) where
      -- after a copy's phase is set, what is said was said before
      pub set_said : (m : StoredMessage) → IsMessageOf (changed (SetCopy birth place phase) r) m → IsMessageOf r m
      set_said m (inl it) = elim (set_new r kept birth place phase it.0 it.1 it.2) [
        | inl set ↦ inl (it.0, set.0, set.3, it.3 ∙ ap copy_message set.4)
        | inr old ↦ inl (it.0, it.1, old.0, it.3)
      ]
      set_said m (inr it) = inr it

      -- what was said is said after a copy's phase is set
      pub set_says : (m : StoredMessage) → IsMessageOf r m → IsMessageOf (changed (SetCopy birth place phase) r) m
      set_says m (inl it) = elim (at_or_other it.0 birth it.1.place place) [
        | inl at ↦ inl (it.0, in_phase phase it.1, set_old r kept birth place phase it.0 (in_phase phase it.1) (inl (it.1, at.0, at.1, it.2, refl)), it.3)
        | inr other ↦ inl (it.0, it.1, set_old r kept birth place phase it.0 it.1 (inr (it.2, other)), it.3)
      ]
      set_says m (inr it) = inr it

module _ (r : Records) (birth : ℕ) where
  -- after a session is removed, what is said was said before
  pub ended_said : (m : StoredMessage) → IsMessageOf (changed (RemoveSession birth) r) m → IsMessageOf r m
  ended_said m (inl it) = inl (it.0, it.1, (ended_new birth r it.0 it.1 it.2).0, it.3)
  ended_said m (inr it) = inr it

  -- what was said is said after a session is removed, or its number is told
  pub ended_lost : (Told : ℕ → Type 0) → ((x : CopyRow) → InQueue r birth x → Told x.copy.id.publication) → (m : StoredMessage) → IsMessageOf r m → IsMessageOf (changed (RemoveSession birth) r) m ⊎ Told m.publication
  ended_lost Told told m (inl it) = elim (same_or_other it.0 birth) [
    | inl at ↦ inr (rw (it.3) (told it.1 (rw (← at) it.2)))
    | inr other ↦ inl (inl (it.0, it.1, ended_old birth r it.0 it.1 (it.2, other), it.3))
  ]
  ended_lost Told told m (inr it) = inl (inr it)
