-- The packet identifiers of a queue after a change of it.
use Rattle.std.proofs.Common.{◌≡◌, ℕ, Bool, true, false, cond, ◌||◌, List, length, nat_eq, nat_lt, refl, sym, ap, subst, ◌∙◌, ◌⊎◌, inl, inr}
use Rattle.std.specs.Prelude.{Option, Some, None}
use Rattle.std.proofs.lemmas.Bool.{eqb-true, cases_Bool}
use Rattle.mqtt_base.specs.Phases.{identifier_of}
use Rattle.mqtt_base.specs.declared.session.Phase.{Phase}
use Rattle.mqtt_base.specs.declared.session.Phase.TheVariants.{Sent}
use Rattle.mqtt_records.specs.messages.Queue.{CopyRow}
use Rattle.mqtt_records.specs.lists.Order.{IsAscending, row_at, has_row, put_row, insert_row, remove_row, change_row}
use Rattle.mqtt_records.specs.state.Session.{copy_place, in_phase}
use Rattle.mqtt_records.proofs.lists_lemmas.OrderLemmas.{insert-ascending, remove-ascending, change-ascending}
use Rattle.mqtt_records.proofs.lists_lemmas.LookUps.{row_at-insert_row, row_at-remove_row}
use Rattle.mqtt_rules.specs.step.Flight.{identifier_in, identifier_at, IsFlight}
use Rattle.mqtt_rules.proofs.step_lemmas.flight.FlightRows.{change_row-other, change_row-here}

-- a queue with no identifier at a new place
fewer : (queue rest : List CopyRow) → IsAscending copy_place rest → ((place id : ℕ) → identifier_at place rest ≡ Some id → identifier_at place queue ≡ Some id) → IsFlight queue → IsFlight rest
fewer queue rest up less is = record {
  places = up;
  identifiers = λ place other id h k. is.identifiers place other id (less place id h) (less other id k);
}

-- a copy that has none enters
without_identifier : (e : CopyRow) (id : ℕ) (b : Bool) (o : Option CopyRow) → identifier_of e.phase ≡ None → identifier_in (cond b (Some e) o) ≡ Some id → identifier_in o ≡ Some id
without_identifier e id true o none h = let no : None ≡ Some id = sym none ∙ h in absurd cc
without_identifier e id false o none h = h

flight-inserted : (e : CopyRow) (queue : List CopyRow) → identifier_of e.phase ≡ None → IsFlight queue → IsFlight (insert_row copy_place e queue)
flight-inserted e queue none is =
    fewer queue (insert_row copy_place e queue) (insert-ascending copy_place e queue is.places)
    (λ place id h. without_identifier e id (nat_eq e.place place) (row_at copy_place place queue) none (ap identifier_in (sym (row_at-insert_row copy_place place e queue)) ∙ h)) is

-- a copy without an identifier may enter a queue
pub flight-put : (limit : ℕ) (e : CopyRow) (queue : List CopyRow) → identifier_of e.phase ≡ None → IsFlight queue → IsFlight (put_row copy_place limit e queue)
flight-put limit e queue none is = elim (cases_Bool (has_row copy_place e.place queue || nat_lt (length queue) limit)) [
  | inl room ↦ rw room (flight-inserted e queue none is)
  | inr full ↦ rw full is
]

-- a copy leaves
pub gone : (id : ℕ) (b : Bool) (o : Option CopyRow) → identifier_in (cond b None o) ≡ Some id → (b ≡ false) × (identifier_in o ≡ Some id)
gone id true o h = absurd cc
gone id false o h = (refl, h)

-- an identifier behind a removal was there before, at another place
pub identifier-removed : (place gone_from id : ℕ) (queue : List CopyRow) → identifier_at place (remove_row copy_place gone_from queue) ≡ Some id → (nat_eq gone_from place ≡ false) × (identifier_at place queue ≡ Some id)
identifier-removed place gone_from id queue h =
    gone id (nat_eq gone_from place) (row_at copy_place place queue) (ap identifier_in (sym (row_at-remove_row copy_place place gone_from queue)) ∙ h)

-- a copy may leave a queue
pub flight-removed : (place : ℕ) (queue : List CopyRow) → IsFlight queue → IsFlight (remove_row copy_place place queue)
flight-removed place queue is =
    fewer queue (remove_row copy_place place queue) (remove-ascending copy_place place queue is.places)
    (λ other id h. (identifier-removed other place id queue h).1) is

-- a copy's phase changes
pub place-kept : (phase : Phase) (e : CopyRow) → copy_place (in_phase phase e) ≡ copy_place e
place-kept phase e = refl

-- an identifier behind a mark is the marked copy's new one, or another's that stayed
pub identifier-marked : (place other id : ℕ) (phase : Phase) (e : CopyRow) (queue : List CopyRow) → row_at copy_place place queue ≡ Some e → identifier_at other (change_row copy_place place (in_phase phase) queue) ≡ Some id → ((place ≡ other) × (identifier_of phase ≡ Some id)) ⊎ ((nat_eq place other ≡ false) × (identifier_at other queue ≡ Some id))
identifier-marked place other id phase e queue there h = elim (cases_Bool (nat_eq place other)) [
  | inl same ↦
      let is : place ≡ other = eqb-true place other same in
      let here : identifier_at place (change_row copy_place place (in_phase phase) queue) ≡ Some id = subst (λ n. identifier_at n (change_row copy_place place (in_phase phase) queue) ≡ Some id) (sym is) h in
      inl (is, ap identifier_in (sym (change_row-here copy_place place (in_phase phase) e queue (place-kept phase) there)) ∙ here)
  | inr differ ↦
      inr (differ, ap identifier_in (sym (change_row-other copy_place other place (in_phase phase) queue (place-kept phase) differ)) ∙ h)
]

marked-ascending : (place : ℕ) (phase : Phase) (queue : List CopyRow) → IsFlight queue → IsAscending copy_place (change_row copy_place place (in_phase phase) queue)
marked-ascending place phase queue is = change-ascending copy_place place (in_phase phase) queue (place-kept phase) is.places

-- and keeps its identifier
pub flight-kept : (place : ℕ) (phase : Phase) (e : CopyRow) (queue : List CopyRow) → row_at copy_place place queue ≡ Some e → identifier_of phase ≡ identifier_of e.phase → IsFlight queue → IsFlight (change_row copy_place place (in_phase phase) queue)
flight-kept place phase e queue there same is =
    fewer queue (change_row copy_place place (in_phase phase) queue) (marked-ascending place phase queue is)
    (λ other id h. elim (identifier-marked place other id phase e queue there h) [
      | inl it ↦ subst (λ n. identifier_at n queue ≡ Some id) it.0 (ap identifier_in there ∙ sym same ∙ it.1)
      | inr it ↦ it.1
    ]) is

-- or gets one that is free
pub flight-sent : (place id : ℕ) (e : CopyRow) (queue : List CopyRow) → row_at copy_place place queue ≡ Some e → ((other : ℕ) → identifier_at other queue ≡ Some id → ⊥) → IsFlight queue → IsFlight (change_row copy_place place (in_phase (Sent id)) queue)
flight-sent place id e queue there free is = record {
  places = marked-ascending place (Sent id) queue is;
  identifiers = λ m n i h k. elim (identifier-marked place m i (Sent id) e queue there h) [
    | inl it ↦ elim (identifier-marked place n i (Sent id) e queue there k) [
      | inl that ↦ sym it.0 ∙ that.0
      | inr that ↦ let new : Some id ≡ Some i = it.1 in let same : i ≡ id = cc in absurd (free n (that.1 ∙ ap Some same))
    ]
    | inr it ↦ elim (identifier-marked place n i (Sent id) e queue there k) [
      | inl that ↦ let new : Some id ≡ Some i = that.1 in let same : i ≡ id = cc in absurd (free m (it.1 ∙ ap Some same))
      | inr that ↦ is.identifiers m n i it.1 that.1
    ]
  ];
}
