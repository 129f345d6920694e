-- Changes without the copies that go with their session make the same of records, and fit as they did (4.1).
use Rattle.std.proofs.Common.{◌≡◌, ℕ, Bool, true, false, ◌&&◌, cond, List, [], ◌∷◌, nat_eq, refl, sym, ap, subst, ◌∙◌, inl, inr}
use Rattle.std.proofs.lemmas.Bool.{cases_Bool, eqb-true}
use Rattle.mqtt_records.specs.declared.state.change.Change.{Change}
use Rattle.mqtt_records.specs.declared.state.change.Change.TheVariants.{RemoveSession, RemoveCopy}
use Rattle.mqtt_records.specs.declared.state.records.Records.{Records}
use Rattle.mqtt_records.specs.declared.state.session.Session.{Session}
use Rattle.mqtt_records.specs.state.Records.{changed, changed_all, FitAll}
use Rattle.mqtt_records.specs.state.Session.{birth_of, without_copy}
use Rattle.mqtt_records.specs.lists.Order.{change_row, remove_row}
use Rattle.mqtt_store_database.specs.item_laws.Written.{AllSayable}
use Rattle.mqtt_store_database.specs.written.Shortened.{ends_session, goes_anyway, shortened}

-- ---- a copy that is removed before its session is

module _ {X : Type 0} (key : X → ℕ) where
  -- a row that is changed and then removed
  remove_changed : (k : ℕ) (f : X → X) (xs : List X) → ((y : X) → key (f y) ≡ key y) → remove_row key k (change_row key k f xs) ≡ remove_row key k xs
  remove_changed k f [] keeps = refl
  remove_changed k f (y ∷ ys) keeps = elim (cases_Bool (nat_eq (key y) k)) [
    | inl here ↦ let still : nat_eq (key (f y)) k ≡ true = ap (λ n. nat_eq n k) (keeps y) ∙ here in rw (here, still) refl
    | inr later ↦ rw (later, later) (ap (λ (zs : List X). y ∷ zs) (remove_changed k f ys keeps))
  ]

sessions_same : (birth place : ℕ) (ss : List Session) → remove_row birth_of birth (change_row birth_of birth (without_copy place) ss) ≡ remove_row birth_of birth ss
sessions_same birth place ss = remove_changed birth_of birth (without_copy place) ss (λ s. refl)

-- the records after both are those after the end of the session alone
pub records_same : (birth place : ℕ) (r : Records) → changed (RemoveSession birth) (changed (RemoveCopy birth place) r) ≡ changed (RemoveSession birth) r
records_same birth place r = ap (λ (ss : List Session). record r { sessions = ss }) (sessions_same birth place r.sessions)

-- what holds of two answers holds of each
pub both_true : (a b : Bool) → a && b ≡ true → (a ≡ true) × (b ≡ true)
both_true true b e = (refl, e)
both_true false b e = absurd cc

-- ---- and so with copies of it removed between

-- what is written of changes, if it is known whether the first goes anyway
pub written_head : (b : Bool) (change : Change) (changes : List Change) → goes_anyway change changes ≡ b → shortened (change ∷ changes) ≡ cond b (shortened changes) (change ∷ shortened changes)
written_head b change changes e = ap (λ (x : Bool). cond x (shortened changes) (change ∷ shortened changes)) e

module _ (birth place : ℕ) where
  rest_same : (changes : List Change) (r : Records) → ends_session birth changes ≡ true → changed_all (shortened changes) (changed (RemoveCopy birth place) r) ≡ changed_all (shortened changes) r
  rest_same [] r ends = absurd cc
  rest_same (RemoveSession b ∷ changes) r ends =
      let is : b ≡ birth = eqb-true b birth ends in
      ap (changed_all (shortened changes)) (subst (λ (n : ℕ). changed (RemoveSession n) (changed (RemoveCopy birth place) r) ≡ changed (RemoveSession n) r) (sym is) (records_same birth place r))
  rest_same (RemoveCopy b p ∷ changes) r ends =
      let both = both_true (nat_eq b birth) (ends_session birth changes) ends in
      let is : b ≡ birth = eqb-true b birth both.0 in
      let goes : ends_session b changes ≡ true = ap (λ (n : ℕ). ends_session n changes) is ∙ both.1 in
      subst (λ (cs : List Change). changed_all cs (changed (RemoveCopy birth place) r) ≡ changed_all cs r) (sym (written_head true (RemoveCopy b p) changes goes)) (rest_same changes r both.1)
  rest_same (_ ∷ changes) r ends = absurd cc

  rest_fits : (changes : List Change) (r : Records) → ends_session birth changes ≡ true → FitAll (shortened changes) (changed (RemoveCopy birth place) r) → FitAll (shortened changes) r
  rest_fits [] r ends fit = absurd cc
  rest_fits (RemoveSession b ∷ changes) r ends fit =
      let is : b ≡ birth = eqb-true b birth ends in
      (tt, subst (FitAll (shortened changes)) (subst (λ (n : ℕ). changed (RemoveSession n) (changed (RemoveCopy birth place) r) ≡ changed (RemoveSession n) r) (sym is) (records_same birth place r)) fit.1)
  rest_fits (RemoveCopy b p ∷ changes) r ends fit =
      let both = both_true (nat_eq b birth) (ends_session birth changes) ends in
      let is : b ≡ birth = eqb-true b birth both.0 in
      let goes : ends_session b changes ≡ true = ap (λ (n : ℕ). ends_session n changes) is ∙ both.1 in
      let head = written_head true (RemoveCopy b p) changes goes in
      subst (λ (cs : List Change). FitAll cs r) (sym head) (rest_fits changes r both.1 (subst (λ (cs : List Change). FitAll cs (changed (RemoveCopy birth place) r)) head fit))
  rest_fits (_ ∷ changes) r ends fit = absurd cc

-- ---- the changes that are written

-- a change that goes without removes a copy
gone_same : (change : Change) (changes : List Change) (r : Records) → goes_anyway change changes ≡ true → changed_all (shortened changes) (changed change r) ≡ changed_all (shortened changes) r
gone_same (RemoveCopy birth place) changes r goes = rest_same birth place changes r goes
gone_same _ changes r goes = absurd cc

gone_fits : (change : Change) (changes : List Change) (r : Records) → goes_anyway change changes ≡ true → FitAll (shortened changes) (changed change r) → FitAll (shortened changes) r
gone_fits (RemoveCopy birth place) changes r goes fit = rest_fits birth place changes r goes fit
gone_fits _ changes r goes fit = absurd cc

-- they make the same of records
pub shortened_same : (changes : List Change) (r : Records) → changed_all (shortened changes) r ≡ changed_all changes r
shortened_same [] r = refl
shortened_same (change ∷ changes) r = elim (cases_Bool (goes_anyway change changes)) [
  | inl goes ↦
      subst (λ (cs : List Change). changed_all cs r ≡ changed_all changes (changed change r)) (sym (written_head true change changes goes))
      (sym (gone_same change changes r goes) ∙ shortened_same changes (changed change r))
  | inr stays ↦
      subst (λ (cs : List Change). changed_all cs r ≡ changed_all changes (changed change r)) (sym (written_head false change changes stays)) (shortened_same changes (changed change r))
]

-- and fit if all do
pub shortened_fit : (changes : List Change) (r : Records) → FitAll changes r → FitAll (shortened changes) r
shortened_fit [] r fit = tt
shortened_fit (change ∷ changes) r fit = elim (cases_Bool (goes_anyway change changes)) [
  | inl goes ↦ subst (λ (cs : List Change). FitAll cs r) (sym (written_head true change changes goes)) (gone_fits change changes r goes (shortened_fit changes (changed change r) fit.1))
  | inr stays ↦ subst (λ (cs : List Change). FitAll cs r) (sym (written_head false change changes stays)) (fit.0, shortened_fit changes (changed change r) fit.1)
]

-- if rows can say all changes, they can say those that are written
pub shortened_sayable : (changes : List Change) → AllSayable changes → AllSayable (shortened changes)
shortened_sayable [] say = tt
shortened_sayable (change ∷ changes) say = elim (cases_Bool (goes_anyway change changes)) [
  | inl goes ↦ subst AllSayable (sym (written_head true change changes goes)) (shortened_sayable changes say.1)
  | inr stays ↦ subst AllSayable (sym (written_head false change changes stays)) (say.0, shortened_sayable changes say.1)
]
