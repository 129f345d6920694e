-- Each eligible member of a group is chosen by some number, and a choice for one group leaves those of the others free.
use Rattle.std.proofs.Common.{◌≡◌, ℕ, suc, Bool, true, List, [], ◌∷◌, ◌++◌, length, filter, Option, Some, None, ap, ◌∙◌, inl, inr}
use Rattle.std.specs.Prelude.{slice_index_or}
use Rattle.std.specs.Option.{option_and_then}
use Rattle.std.proofs.lemmas.Bool.{cases_Bool}
use Rattle.mqtt_routes.specs.routing.Intended.{Publication, Answers, Copy, Member, in_group}
use Rattle.mqtt_routes.specs.routing.Acceptance.{Served, is_eligible, chosen, outcome, eligible_of, serve_one, serve}
use Rattle.mqtt_rules.specs.step.Laws.{IsAmong, served_by}

among_filter : {X : Type 0} (test : X → Bool) (x : X) (xs : List X) → IsAmong x xs → test x ≡ true → IsAmong x (filter test xs)
among_filter test x [] h t = absurd h
among_filter test x (y ∷ ys) h t = elim h [
  | inl it ↦
      let here : test y ≡ true = ap test it ∙ t in
      rw here (inl it)
  | inr more ↦ elim (cases_Bool (test y)) [
    | inl here ↦ rw here (inr (among_filter test x ys more t))
    | inr not_here ↦ rw not_here (among_filter test x ys more t)
  ]
]

place_among : {X : Type 0} (x : X) (xs : List X) → IsAmong x xs → (n : ℕ) × ((d : X) → slice_index_or xs n d ≡ x)
place_among x [] h = absurd h
place_among x (y ∷ ys) h = elim h [
  | inl it ↦ (0, λ d. it)
  | inr more ↦ let rest = place_among x ys more in (suc rest.0, λ d. rest.1 d)
]

chosen_among : (m : Member) (es : List Member) → IsAmong m es → (n : ℕ) × (chosen n es ≡ Some m)
chosen_among m [] h = absurd h
chosen_among m (e ∷ es) h = let place = place_among m (e ∷ es) h in (place.0, ap Some (place.1 e))

-- a group with an eligible member is served by one
pub member_reached : (at : Answers) (p : Publication) (all : List Member) (direct : List Copy) (before : List Served) (text : List ℕ) (m : Member)
    → IsAmong m (in_group text all) → is_eligible at p direct before m ≡ true
    → (n : ℕ) × (serve_one at p direct before n text all ≡ Some (served_by p text m))
member_reached at p all direct before text m among fits =
    let picked = chosen_among m (eligible_of at p direct before text all) (among_filter (is_eligible at p direct before) m (in_group text all) among fits) in
    (picked.0, ap (outcome p text (in_group text all)) picked.1)

module _ (at : Answers) (p : Publication) (all : List Member) (direct : List Copy) (later : List ℕ) (n : ℕ) (rest : List (List ℕ)) (text : List ℕ) where
  abbrev Apart : List ℕ → List (List ℕ) → List Served → List Served → Type 0
  Apart first groups none before =
      serve at p all direct (first ++ n ∷ later) (groups ++ text ∷ rest) none
      ≡ option_and_then (λ (s : Served). serve at p all direct later rest (before ++ s ∷ [])) (serve_one at p direct before n text all)

  apart_by : (first : List ℕ) (groups : List (List ℕ)) (none before : List Served) → length first ≡ length groups → serve at p all direct first groups none ≡ Some before → Apart first groups none before
  apart_by [] [] none before same is =
      let it : none ≡ before = cc in
      ap (λ (x : List Served). option_and_then (λ (s : Served). serve at p all direct later rest (x ++ s ∷ [])) (serve_one at p direct x n text all)) it
  apart_by [] (f ∷ fs) none before same is = absurd cc
  apart_by (c ∷ cs) [] none before same is = absurd cc
  apart_by (c ∷ cs) (f ∷ fs) none before same is =
      let less : length cs ≡ length fs = cc in
      one (serve_one at p direct none c f all) (λ s e. apart_by cs fs (none ++ s ∷ []) before less e) is
    where
      one : (o : Option Served)
          → ((s : Served) → serve at p all direct cs fs (none ++ s ∷ []) ≡ Some before → Apart cs fs (none ++ s ∷ []) before)
          → option_and_then (λ (s : Served). serve at p all direct cs fs (none ++ s ∷ [])) o ≡ Some before
          → option_and_then (λ (s : Served). serve at p all direct (cs ++ n ∷ later) (fs ++ text ∷ rest) (none ++ s ∷ [])) o
          ≡ option_and_then (λ (s : Served). serve at p all direct later rest (before ++ s ∷ [])) (serve_one at p direct before n text all)
      one None h e = absurd cc
      one (Some s) h e = h s e

-- groups are served one after the other, each on what those before it left
pub serve_apart : (at : Answers) (p : Publication) (all : List Member) (direct : List Copy) (first later : List ℕ) (n : ℕ) (groups rest : List (List ℕ)) (text : List ℕ) (none before : List Served)
    → length first ≡ length groups
    → serve at p all direct first groups none ≡ Some before
    → serve at p all direct (first ++ n ∷ later) (groups ++ text ∷ rest) none
    ≡ option_and_then (λ (s : Served). serve at p all direct later rest (before ++ s ∷ [])) (serve_one at p direct before n text all)
serve_apart at p all direct first later n groups rest text none before same is = apart_by at p all direct later n rest text first groups none before same is
