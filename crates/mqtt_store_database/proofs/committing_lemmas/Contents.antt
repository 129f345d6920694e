-- Changes without the copies that go with their session say what is said under their numbers, if all do.
use Rattle.std.proofs.Common.{◌≡◌, ℕ, true, false, List, [], ◌∷◌, nat_eq, sym, ap, subst, ◌∙◌, inl, inr}
use Rattle.std.proofs.lemmas.Bool.{cases_Bool, eqb-true}
use Rattle.mqtt_records.specs.declared.state.change.Change.{Change}
use Rattle.mqtt_records.specs.declared.state.change.Change.TheVariants.{RemoveSession, RemoveCopy}
use Rattle.mqtt_records.specs.declared.state.records.Records.{Records}
use Rattle.mqtt_records.specs.state.Records.{changed}
use Rattle.mqtt_records.specs.state.Contents.{FitContents}
use Rattle.mqtt_store_database.specs.written.Shortened.{ends_session, goes_anyway, shortened}
use Rattle.mqtt_store_database.proofs.written_lemmas.Shortened.{records_same, both_true, written_head}

-- a copy that is removed before its session says nothing, nor do copies of it that are removed between
module _ (birth place : ℕ) where
  rest_agrees : (changes : List Change) (r : Records) → ends_session birth changes ≡ true → FitContents (shortened changes) (changed (RemoveCopy birth place) r) → FitContents (shortened changes) r
  rest_agrees [] r ends agrees = absurd cc
  rest_agrees (RemoveSession b ∷ changes) r ends agrees =
      let is : b ≡ birth = eqb-true b birth ends in
      (tt, subst (FitContents (shortened changes)) (subst (λ (n : ℕ). changed (RemoveSession n) (changed (RemoveCopy birth place) r) ≡ changed (RemoveSession n) r) (sym is) (records_same birth place r)) agrees.1)
  rest_agrees (RemoveCopy b p ∷ changes) r ends agrees =
      let both = both_true (nat_eq b birth) (ends_session birth changes) ends in
      let is : b ≡ birth = eqb-true b birth both.0 in
      let goes : ends_session b changes ≡ true = ap (λ (n : ℕ). ends_session n changes) is ∙ both.1 in
      let head = written_head true (RemoveCopy b p) changes goes in
      subst (λ (cs : List Change). FitContents cs r) (sym head) (rest_agrees changes r both.1 (subst (λ (cs : List Change). FitContents cs (changed (RemoveCopy birth place) r)) head agrees))
  rest_agrees (_ ∷ changes) r ends agrees = absurd cc

gone_agrees : (change : Change) (changes : List Change) (r : Records) → goes_anyway change changes ≡ true → FitContents (shortened changes) (changed change r) → FitContents (shortened changes) r
gone_agrees (RemoveCopy birth place) changes r goes agrees = rest_agrees birth place changes r goes agrees
gone_agrees _ changes r goes agrees = absurd cc

-- what the changes that are written put says what is said under its number, if what all put does
pub shortened_agree : (changes : List Change) (r : Records) → FitContents changes r → FitContents (shortened changes) r
shortened_agree [] r agrees = tt
shortened_agree (change ∷ changes) r agrees = elim (cases_Bool (goes_anyway change changes)) [
  | inl goes ↦ subst (λ (cs : List Change). FitContents cs r) (sym (written_head true change changes goes)) (gone_agrees change changes r goes (shortened_agree changes (changed change r) agrees.1))
  | inr stays ↦ subst (λ (cs : List Change). FitContents cs r) (sym (written_head false change changes stays)) (agrees.0, shortened_agree changes (changed change r) agrees.1)
]
