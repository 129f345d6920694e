-- The queues of sessions after a change of a copy.
use Rattle.std.proofs.Common.{◌≡◌, ◌≢◌, ◌⊎◌, ℕ, List, [], ◌∷◌, ap, arith, refl, sym, subst, ◌∙◌, inl, inr}
use Rattle.mqtt_base.specs.declared.session.Phase.{Phase}
use Rattle.mqtt_base.specs.declared.limits.TheConstants.{QUEUE_LIMIT}
use Rattle.mqtt_records.specs.declared.state.session.Session.{Session}
use Rattle.mqtt_records.specs.messages.Queue.{CopyRow}
use Rattle.mqtt_records.specs.declared.state.records.Records.{Records}
use Rattle.mqtt_records.specs.declared.state.change.Change.TheVariants.{PutCopy, SetCopy, RemoveCopy, RemoveSession}
use Rattle.mqtt_records.specs.lists.Order.{IsAscending, HasRoomFor}
use Rattle.mqtt_records.specs.state.Session.{birth_of, copy_place, in_phase, with_copy, with_phase, without_copy}
use Rattle.mqtt_records.specs.state.Records.{changed, Fits}
use Rattle.mqtt_records.specs.state.Members.{Has, queue_of, InQueue}
use Rattle.mqtt_store_database.specs.item_laws.Members.{IsOther, IsKept}
use Rattle.mqtt_store_database.proofs.item_laws_lemmas.records.Members.{has_all, has_above, changed_new, changed_old, inserted_new, inserted_old, removed_new, removed_old, found_has, edited_new, edited_old}

-- of two sessions in order, those with one birth are one
pub one_session : (sessions : List Session) (s t : Session) → IsAscending birth_of sessions → Has sessions s → Has sessions t → s.birth ≡ t.birth → s ≡ t
one_session [] s t up h k same = absurd h
one_session (y ∷ ys) s t up (inl a) (inl b) same = a ∙ sym b
one_session (y ∷ ys) s t up (inl a) (inr k) same = let more = has_above birth_of (birth_of y) ys t up.0 k in let is : s.birth ≡ y.birth = ap birth_of a in absurd (omega (arith, more, is, same))
one_session (y ∷ ys) s t up (inr h) (inl b) same = let more = has_above birth_of (birth_of y) ys s up.0 h in let is : t.birth ≡ y.birth = ap birth_of b in absurd (omega (arith, more, is, same))
one_session (y ∷ ys) s t up (inr h) (inr k) same = one_session ys s t up.1 h k same

module _ (r : Records) (kept : IsKept r) where
  queue_up : (s : Session) → Has r.sessions s → IsAscending copy_place s.queue
  queue_up s h = has_all (λ (s : Session). IsAscending copy_place s.queue) r.sessions s kept.queues h

  module _ (birth : ℕ) (entry : CopyRow) (fits : Fits (PutCopy birth entry) r) where
    abbrev HasRoom : Session → Type 0
    HasRoom session = HasRoomFor copy_place QUEUE_LIMIT entry.place session.queue

    home : (s : Session) × Has r.sessions s × (s.birth ≡ birth) × HasRoom s
    home = found_has birth_of birth r.sessions HasRoom fits.0

    room : (s : Session) → Has r.sessions s → s.birth ≡ birth → HasRoom s
    room s h same = subst HasRoom (one_session r.sessions home.0 s kept.sessions home.1 h (home.2 ∙ sym same)) home.3

    abbrev New : CopyRow → Type 0
    New x = x ≡ entry

    abbrev Old : CopyRow → Type 0
    Old x = x.place ≢ entry.place

    -- after a copy is put, one that is queued is that, or another that was queued before
    pub put_new : (b : ℕ) (x : CopyRow) → InQueue (changed (PutCopy birth entry) r) b x → ((b ≡ birth) × (x ≡ entry)) ⊎ (InQueue r b x × IsOther b x birth entry.place)
    put_new = edited_new queue_of birth (with_copy entry) r.sessions kept.sessions (λ s. refl) New Old
        (λ s x h same there. inserted_new copy_place entry s.queue x (queue_up s h) (rw (room s h same) at there))

    -- after a copy is put, that one is queued and the others are
    pub put_old : (b : ℕ) (x : CopyRow) → ((b ≡ birth) × (x ≡ entry)) ⊎ (InQueue r b x × IsOther b x birth entry.place) → InQueue (changed (PutCopy birth entry) r) b x
    put_old = edited_old queue_of birth (with_copy entry) r.sessions kept.sessions (λ s. refl) New Old
        (λ s x h same it. rw (room s h same) (inserted_old copy_place entry s.queue x it))
        (λ x new. (home.0, home.1, home.2))

  module _ (birth place : ℕ) where
    abbrev Stays : CopyRow → Type 0
    Stays x = x.place ≢ place

    -- after a copy is removed, one that is queued was before and is another
    pub removed_copy_new : (b : ℕ) (x : CopyRow) → InQueue (changed (RemoveCopy birth place) r) b x → InQueue r b x × IsOther b x birth place
    removed_copy_new b x it = elim (edited_new queue_of birth (without_copy place) r.sessions kept.sessions (λ s. refl) (λ _. ⊥) Stays
        (λ s x h same there. inr (removed_new copy_place place s.queue x there)) b x it) [
          | inl none ↦ absurd none.1
          | inr old ↦ old
        ]

    -- after a copy is removed, the others are still queued
    pub removed_copy_old : (b : ℕ) (x : CopyRow) → InQueue r b x × IsOther b x birth place → InQueue (changed (RemoveCopy birth place) r) b x
    removed_copy_old b x it = edited_old queue_of birth (without_copy place) r.sessions kept.sessions (λ s. refl) (λ _. ⊥) Stays
        (λ s x h same it. elim it [ inl none ↦ absurd none | inr old ↦ removed_old copy_place place s.queue x old.0 old.1 ])
        (λ x none. absurd none) b x (inr it)

    module _ (phase : Phase) where
      abbrev Set : CopyRow → Type 0
      Set x = (y : CopyRow) × (y.place ≡ place) × InQueue r birth y × (x ≡ in_phase phase y)

      -- after a copy's phase is set, one that is queued is that copy in this phase, or another that was queued before
      pub set_new : (b : ℕ) (x : CopyRow) → InQueue (changed (SetCopy birth place phase) r) b x
          → ((y : CopyRow) × (b ≡ birth) × (y.place ≡ place) × InQueue r b y × (x ≡ in_phase phase y)) ⊎ (InQueue r b x × IsOther b x birth place)
      set_new b x it = elim (edited_new queue_of birth (with_phase place phase) r.sessions kept.sessions (λ s. refl) Set Stays
          (λ s x h same there. elim (changed_new copy_place place (in_phase phase) s.queue x (queue_up s h) there) [
            | inl set ↦ inl (set.0, set.2, (s, h, same, set.1), set.3)
            | inr stays ↦ inr stays
          ]) b x it) [
            | inl new ↦ let set = new.1 in inl (set.0, new.0, set.1, subst (λ (n : ℕ). InQueue r n set.0) (sym new.0) set.2, set.3)
            | inr old ↦ inr old
          ]

      -- after a copy's phase is set, that copy is queued in it and the others are as before
      pub set_old : (b : ℕ) (x : CopyRow)
          → ((y : CopyRow) × (b ≡ birth) × (y.place ≡ place) × InQueue r b y × (x ≡ in_phase phase y)) ⊎ (InQueue r b x × IsOther b x birth place)
          → InQueue (changed (SetCopy birth place phase) r) b x
      set_old b x it = edited_old queue_of birth (with_phase place phase) r.sessions kept.sessions (λ s. refl) Set Stays
          (λ s x h same it. changed_old copy_place place (in_phase phase) s.queue x (queue_up s h) (elim it [
            | inl set ↦
                let home = set.2 in
                let is : home.0 ≡ s = one_session r.sessions home.0 s kept.sessions home.1 h (home.2 ∙ sym same) in
                inl (set.0, subst (λ (t : Session). Has t.queue set.0) is home.3, set.1, set.3)
            | inr stays ↦ inr stays
          ]))
          (λ x set. (set.2.0, set.2.1, set.2.2)) b x
          (elim it [
            | inl new ↦ inl (new.1, (new.0, new.2, subst (λ (n : ℕ). InQueue r n new.0) new.1 new.3, new.4))
            | inr old ↦ inr old
          ])

-- after a session is removed, a queued copy is in another session's queue
pub ended_new : (birth : ℕ) (r : Records) (b : ℕ) (x : CopyRow) → InQueue (changed (RemoveSession birth) r) b x → InQueue r b x × (b ≡ birth → ⊥)
ended_new birth r b x it = let there = removed_new birth_of birth r.sessions it.0 it.1 in ((it.0, there.0, it.2, it.3), λ e. there.1 (it.2 ∙ e))

-- after a session is removed, the copies in other queues are there
pub ended_old : (birth : ℕ) (r : Records) (b : ℕ) (x : CopyRow) → InQueue r b x × (b ≡ birth → ⊥) → InQueue (changed (RemoveSession birth) r) b x
ended_old birth r b x it = let home = it.0 in (home.0, removed_old birth_of birth r.sessions home.0 home.1 (λ e. it.1 (sym home.2 ∙ e)), home.2, home.3)
