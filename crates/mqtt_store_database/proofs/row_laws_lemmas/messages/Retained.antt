-- What is said before and after a change of retained messages.
use Rattle.std.proofs.Common.{◌≡◌, ◌⊎◌, ℕ, ap, ◌∙◌, refl, inl, inr}
use Rattle.mqtt_records.specs.declared.messages.message.RetainedMessage.{RetainedMessage}
use Rattle.mqtt_records.specs.declared.state.records.Records.{Records}
use Rattle.mqtt_records.specs.declared.state.change.Change.TheVariants.{PutRetained, RemoveRetained}
use Rattle.mqtt_records.specs.state.Records.{changed, Fits, kept_place}
use Rattle.mqtt_records.specs.lists.Order.{IsAscending}
use Rattle.mqtt_records.specs.state.Members.{Has}
use Rattle.mqtt_records.specs.state.Contents.{StoredMessage, retained_message, IsMessageOf}
use Rattle.mqtt_store_database.proofs.item_laws_lemmas.records.Owns.{retained_new, retained_old, retained_out_new, retained_out_old}
use Rattle.mqtt_store_database.proofs.row_laws_lemmas.messages.Shared.{same_or_other}

-- the number of the retained message at that place is among those that are told
abbrev pub IsTold : Records → ℕ → (ℕ → Type 0) → Type 0
IsTold r place Told = (x : RetainedMessage) → Has r.retained x → x.place ≡ place → Told x.publication

module _ (r : Records) where
  module _ (kept : RetainedMessage) (fits : Fits (PutRetained kept) r) (up : IsAscending kept_place r.retained) where
    -- after a message is retained, what is said was said before, or is its own
    pub put_said : (m : StoredMessage) → IsMessageOf (changed (PutRetained kept) r) m → IsMessageOf r m ⊎ (m ≡ retained_message kept)
    put_said m (inl it) = inl (inl it)
    put_said m (inr it) = elim (retained_new kept r fits.0 up it.0 it.1) [
      | inl new ↦ inr (it.2 ∙ ap retained_message new)
      | inr old ↦ inl (inr (it.0, old.0, it.2))
    ]

    -- what a message that is retained says is said
    pub put_says : IsMessageOf (changed (PutRetained kept) r) (retained_message kept)
    put_says = inr (kept, retained_old kept r fits.0 up kept (inl refl), refl)

    -- what was said is said after a message is retained, or its number is told
    pub put_lost : (Told : ℕ → Type 0) → IsTold r kept.place Told → (m : StoredMessage) → IsMessageOf r m → IsMessageOf (changed (PutRetained kept) r) m ⊎ Told m.publication
    put_lost Told told m (inl it) = inl (inl it)
    put_lost Told told m (inr it) = elim (same_or_other it.0.place kept.place) [
      | inl at ↦ inr (rw (it.2) (told it.0 it.1 at))
      | inr other ↦ inl (inr (it.0, retained_old kept r fits.0 up it.0 (inr (it.1, other)), it.2))
    ]

  module _ (place : ℕ) where
    -- after a retained message is removed, what is said was said before
    pub removed_said : (m : StoredMessage) → IsMessageOf (changed (RemoveRetained place) r) m → IsMessageOf r m
    removed_said m (inl it) = inl it
    removed_said m (inr it) = inr (it.0, (retained_out_new place r it.0 it.1).0, it.2)

    -- what was said is said after a retained message is removed, or its number is told
    pub removed_lost : (Told : ℕ → Type 0) → IsTold r place Told → (m : StoredMessage) → IsMessageOf r m → IsMessageOf (changed (RemoveRetained place) r) m ⊎ Told m.publication
    removed_lost Told told m (inl it) = inl (inl it)
    removed_lost Told told m (inr it) = elim (same_or_other it.0.place place) [
      | inl at ↦ inr (rw (it.2) (told it.0 it.1 at))
      | inr other ↦ inl (inr (it.0, retained_out_old place r it.0 (it.1, other), it.2))
    ]
