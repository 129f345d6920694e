-- One row more for the store.
use Rattle.std.proofs.Common.{◌≡◌, false, ◌||◌, List, [], ◌∷◌, ◌++◌, nat_lt, refl, ap, sym, subst, ◌∙◌, inl, inr}
use Rattle.std.specs.Prelude.{Result, Ok, Err, OnOk, OnErr}
use Rattle.std.proofs.lemmas.Bool.{cases_Bool}
use Rattle.mqtt_base.specs.declared.limits.TheConstants.{LAST_NUMBER}
use Rattle.mqtt_records.specs.declared.state.change.Change.{Change}
use Rattle.mqtt_records.specs.state.Records.{changed}
use Rattle.mqtt_rules.specs.step.Step.{is_spent, number_given}
use Rattle.mqtt_rules.proofs.step_lemmas.fit.StoredLaw.{changed_all_append}
use Rattle.mqtt_broker_step.specs.Undoing.{Changing, become, with_change}
use Rattle.mqtt_broker_step.specs.Stepping.{IsStep}

-- rows and further rows give a spent number exactly if the ones or the others do
pub spent_append : (xs ys : List Change) → is_spent (xs ++ ys) ≡ (is_spent xs || is_spent ys)
spent_append [] ys = refl
spent_append (x ∷ xs) ys = elim (cases_Bool (nat_lt LAST_NUMBER (number_given x))) [
  | inl above ↦ rw above refl
  | inr within ↦ rw within (spent_append xs ys)
]

-- what a step owes is kept by a change whose row is written with it, if it gives no spent number
pub row_more : (t t2 : Changing) (rows rows2 : List Change) (c : Change) → IsStep t.start t.broker rows
    → rows2 ≡ rows ++ c ∷ [] → t2 ≡ become (with_change c t.broker) t → nat_lt LAST_NUMBER (number_given c) ≡ false → IsStep t2.start t2.broker rows2
row_more t t2 rows rows2 c is rows_is made within =
    let one : is_spent (c ∷ []) ≡ false = rw within refl in
    let all : IsStep t.start (with_change c t.broker) (rows ++ c ∷ []) = record {
      made = changed_all_append rows (c ∷ []) t.start.records ∙ ap (changed c) is.made;
      unspent = spent_append rows (c ∷ []) ∙ (ap (λ b. b || is_spent (c ∷ [])) is.unspent ∙ one);
    } in
    subst (λ (x : Changing). IsStep x.start x.broker rows2) (sym made) (subst (λ xs. IsStep t.start (with_change c t.broker) xs) (sym rows_is) all)

-- the row is there if its change was made; else all is as it was
pub row_if_made : {A E : Type 0} (r : Result A E) (t t2 : Changing) (rows before rows2 : List Change) (c noted : Change) → IsStep t.start t.broker rows
    → before ≡ rows → noted ≡ c → OnOk r (t2 ≡ become (with_change c t.broker) t) → OnOk r (rows2 ≡ before ++ noted ∷ []) → OnErr r (t2 ≡ t) → OnErr r (rows2 ≡ before)
    → nat_lt LAST_NUMBER (number_given c) ≡ false → IsStep t2.start t2.broker rows2
row_if_made (Ok a) t t2 rows before rows2 c noted is kept copy made more same rest within =
    row_more t t2 rows rows2 c is (more ∙ (ap (λ xs. xs ++ noted ∷ []) kept ∙ ap (λ x. rows ++ x ∷ []) copy)) made within
row_if_made (Err e) t t2 rows before rows2 c noted is kept copy made more same rest within =
    subst (λ (x : Changing). IsStep x.start x.broker rows2) (sym same) (subst (λ xs. IsStep t.start t.broker xs) (sym (rest ∙ kept)) is)
