-- Copies of which no two are one are numbered by their places.
use Rattle.std.proofs.Common.{◌≡◌, ℕ, zero, suc, true, cond, List, [], ◌∷◌, Some, refl, sym, ap, subst, ◌∙◌, inl, inr}
use Rattle.std.specs.Prelude.{◌≢◌, slice_get}
use Rattle.std.specs.List.{AllByRecursion}
use Rattle.std.proofs.lemmas.Bool.{cases_Bool}
use Rattle.mqtt_base.specs.declared.session.CopyId.{CopyId}
use Rattle.mqtt_world_model.specs.model.Laws.{is_copy}
use Rattle.mqtt_records.specs.lists.Distinct.{AllDiffer}
use Rattle.mqtt_world_laws.specs.receiver.Seen.{Numbering}
use Rattle.mqtt_world_laws.specs.receiver.Tags.{AreNumbered}
use Rattle.mqtt_world_laws.proofs.receiver_lemmas.queue.Handed.{copy_is, copy_itself}

abbrev pub place_of : List CopyId → Numbering
place_of [] c = 0
place_of (x ∷ xs) c = cond (is_copy x c) 0 (suc (place_of xs c))

at_place : (P : CopyId → Type 0) (xs : List CopyId) (n : ℕ) (c : CopyId) → AllByRecursion P xs → slice_get xs n ≡ Some c → P c
at_place P [] n c h e = absurd cc
at_place P (x ∷ xs) zero c h e = let is : x ≡ c = cc in subst P is h.0
at_place P (x ∷ xs) (suc n) c h e = at_place P xs n c h.1 e

-- copies that differ are numbered by their places
pub places_number : (ids : List CopyId) → AllDiffer ids → AreNumbered (place_of ids) ids
places_number [] h n c e = absurd cc
places_number (x ∷ xs) h zero c e =
    let is : x ≡ c = cc in
    let same : is_copy x c ≡ true = ap (is_copy x) (sym is) ∙ copy_itself x in
    rw same refl
places_number (x ∷ xs) h (suc n) c e = elim (cases_Bool (is_copy x c)) [
  | inl same ↦ absurd (at_place (λ (y : CopyId). x ≢ y) xs n c h.0 e (copy_is x c same))
  | inr other ↦ rw other (ap suc (places_number xs h.1 n c e))
]
