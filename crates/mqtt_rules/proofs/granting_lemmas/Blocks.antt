-- What a publication passes on has no Topic Alias, nor has what is sent of it; and its User Properties come last.
use Rattle.mqtt_props.specs.Edits.{only, without}
use Rattle.mqtt_props.specs.Laws.{is_named}
use Rattle.mqtt_props.specs.Properties.{Prop, U32}
use Rattle.mqtt_props.specs.Table.{property_row}
use Rattle.mqtt_props.specs.declared.table.PropName.TheVariants.{ContentType, CorrelationData, MessageExpiryInterval, PayloadFormatIndicator, ResponseTopic, TopicAlias, UserProperty}
use Rattle.mqtt_props.specs.declared.table.PropName.{PropName}
use Rattle.mqtt_records.specs.messages.PassedOn.{IsPassedOn, aged, goes_on, id_of, identified, number_at, number_in, passed_on, property, rises_from, sent_after}
use Rattle.mqtt_rules.proofs.step_lemmas.numbers.Copies.{each_append, each_filter, each_map, each_more}
use Rattle.mqtt_rules.specs.granting.Naming.{HasNoAlias, HasUsersLast}
use Rattle.mqtt_topic.proofs.names_lemmas.MatchLemmas.{and_left, and_right}
use Rattle.std.proofs.Common.{Bool, List, None, [], ap, ap₂, cond, false, find, inl, inr, map, nat_le, not, option_map, refl, sym, true, ℕ, ◌&&◌, ◌++◌, ◌-◌, ◌∙◌, ◌∷◌, ◌≡◌}
use Rattle.std.proofs.lemmas.Bool.{cases_Bool, eqb-true}
use Rattle.std.proofs.lemmas.List.{append-nil}
use Rattle.std.specs.List.{AllByRecursion}
use Rattle.std.specs.Prelude.{◌==◌}

abbrev IsNoAlias : Prop → Type 0
IsNoAlias p = is_named TopicAlias p ≡ false

-- the identifier of a name in the table of properties
abbrev id_of_name : PropName → ℕ
id_of_name name = (property_row name).id

-- ---- a block without an alias has none to be found

none_found : {X : Type 0} (test : X → Bool) (xs : List X) → AllByRecursion (λ x. test x ≡ false) xs → find test xs ≡ None
none_found test [] h = refl
none_found test (x ∷ xs) h = let other = h.0 in rw other (none_found test xs h.1)

-- a block without a Topic Alias has no number of one
pub no_number : (ps : List Prop) → HasNoAlias ps → number_at TopicAlias ps ≡ None
no_number ps h = ap (option_map (λ (p : Prop). number_in p.value)) (none_found (is_named TopicAlias) ps h)

-- ---- what is passed on

-- a property that has the identifier of another name has not this one's
other_named : (id : ℕ) (p : Prop) → (id_of p == id) ≡ true → (id == id_of_name TopicAlias) ≡ false → is_named TopicAlias p ≡ false
other_named id p is other =
    let same : id_of p ≡ id = eqb-true (id_of p) id is in
    ap (λ (n : ℕ). n == id_of_name TopicAlias) same ∙ other

only_other : (name : PropName) (ps : List Prop) → (id_of_name name == id_of_name TopicAlias) ≡ false → HasNoAlias (only name ps)
only_other name [] other = tt
only_other name (p ∷ ps) other = elim (cases_Bool (is_named name p)) [
  | inl here ↦ rw here (other_named (id_of_name name) p here other, only_other name ps other)
  | inr not_so ↦ rw not_so (only_other name ps other)
]

-- a publication passes no Topic Alias on
pub passed_unaliased : (ps : List Prop) → HasNoAlias (passed_on ps)
passed_unaliased ps =
    join _ (only UserProperty ps)
    (join _ (only CorrelationData ps)
    (join _ (only ResponseTopic ps)
    (join _ (only ContentType ps)
    (join (only PayloadFormatIndicator ps) (only MessageExpiryInterval ps) (only_other PayloadFormatIndicator ps refl) (only_other MessageExpiryInterval ps refl))
    (only_other ContentType ps refl)) (only_other ResponseTopic ps refl)) (only_other CorrelationData ps refl)) (only_other UserProperty ps refl)
  where
    join : (xs ys : List Prop) → HasNoAlias xs → HasNoAlias ys → HasNoAlias (xs ++ ys)
    join = each_append IsNoAlias

-- ---- properties whose identifiers rise as they are passed on

goes_not : (p : Prop) → goes_on (id_of p) ≡ true → is_named TopicAlias p ≡ false
goes_not p goes = elim (cases_Bool (is_named TopicAlias p)) [
  | inl is ↦
      let same : id_of p ≡ id_of_name TopicAlias = eqb-true (id_of p) (id_of_name TopicAlias) is in
      let goes_on_alias : goes_on (id_of_name TopicAlias) ≡ true = ap goes_on (sym same) ∙ goes in
      absurd cc
  | inr not_so ↦ not_so
]

rises_unaliased : (id : ℕ) (ps : List Prop) → rises_from id ps ≡ true → HasNoAlias ps
rises_unaliased id [] h = tt
rises_unaliased id (p ∷ ps) h =
    let front = and_left (nat_le id (id_of p) && goes_on (id_of p)) (rises_from (id_of p) ps) h in
    let goes = and_right (nat_le id (id_of p)) (goes_on (id_of p)) front in
    (goes_not p goes, rises_unaliased (id_of p) ps (and_right (nat_le id (id_of p) && goes_on (id_of p)) (rises_from (id_of p) ps) h))

-- properties as a publication passes them on have no Topic Alias
pub passed_is_unaliased : (ps : List Prop) → IsPassedOn ps → HasNoAlias ps
passed_is_unaliased ps h = rises_unaliased 0 ps h

-- ---- what is sent

aged_unaliased : (waited : ℕ) (p : Prop) → IsNoAlias p → IsNoAlias (aged waited p)
aged_unaliased waited p h = by (is_named MessageExpiryInterval p)
  where
    by : (t : Bool) → IsNoAlias (cond t (property MessageExpiryInterval (U32 (number_in p.value - waited))) p)
    by true = refl
    by false = h

identified_unaliased : (ids : List ℕ) → HasNoAlias (map identified ids)
identified_unaliased [] = tt
identified_unaliased (n ∷ ids) = (refl, identified_unaliased ids)

-- what is sent of such properties has none either
pub sent_unaliased : (waited : ℕ) (ids : List ℕ) (ps : List Prop) → HasNoAlias ps → HasNoAlias (sent_after waited ids ps)
sent_unaliased waited ids ps h =
    let kept = each_filter IsNoAlias (λ p. not (is_named UserProperty p)) ps h in
    let older = each_map IsNoAlias (aged waited) (without UserProperty ps) (each_more IsNoAlias (λ p. IsNoAlias (aged waited p)) (aged_unaliased waited) (without UserProperty ps) kept) in
    let others = each_append IsNoAlias (map (aged waited) (without UserProperty ps)) (map identified ids) older (identified_unaliased ids) in
    each_append IsNoAlias (map (aged waited) (without UserProperty ps) ++ map identified ids) (only UserProperty ps) others (each_filter IsNoAlias (is_named UserProperty) ps h)

-- ---- User Properties come last

abbrev IsNoUser : Prop → Type 0
IsNoUser p = is_named UserProperty p ≡ false

abbrev HasNoUser : List Prop → Type 0
HasNoUser ps = AllByRecursion IsNoUser ps

others_stay : (xs ys : List Prop) → HasNoUser xs → without UserProperty (xs ++ ys) ≡ xs ++ without UserProperty ys
others_stay [] ys h = refl
others_stay (x ∷ xs) ys h = let other = h.0 in rw other (ap (λ (ps : List Prop). x ∷ ps) (others_stay xs ys h.1))

none_among : (xs ys : List Prop) → HasNoUser xs → only UserProperty (xs ++ ys) ≡ only UserProperty ys
none_among [] ys h = refl
none_among (x ∷ xs) ys h = let other = h.0 in rw other (none_among xs ys h.1)

only_these : (ps : List Prop) → only UserProperty (only UserProperty ps) ≡ only UserProperty ps
only_these [] = refl
only_these (p ∷ ps) = elim (cases_Bool (is_named UserProperty p)) [
  | inl is ↦ rw (is, is) (ap (λ (xs : List Prop). p ∷ xs) (only_these ps))
  | inr other ↦ rw other (only_these ps)
]

no_others : (ps : List Prop) → without UserProperty (only UserProperty ps) ≡ []
no_others [] = refl
no_others (p ∷ ps) = elim (cases_Bool (is_named UserProperty p)) [
  | inl is ↦ rw (is, is) (no_others ps)
  | inr other ↦ rw other (no_others ps)
]

rest_has_none : (ps : List Prop) → HasNoUser (without UserProperty ps)
rest_has_none [] = tt
rest_has_none (p ∷ ps) = elim (cases_Bool (is_named UserProperty p)) [
  | inl is ↦ rw is (rest_has_none ps)
  | inr other ↦ rw other (other, rest_has_none ps)
]

-- properties without one, and behind them those of others
last_behind : (xs ps : List Prop) → HasNoUser xs → HasUsersLast (xs ++ only UserProperty ps)
last_behind xs ps h =
    let users = only UserProperty ps in
    let front : without UserProperty (xs ++ users) ≡ xs = others_stay xs users h ∙ (ap (λ (ys : List Prop). xs ++ ys) (no_others ps) ∙ append-nil xs) in
    let back : only UserProperty (xs ++ users) ≡ users = none_among xs users h ∙ only_these ps in
    ap₂ (λ (a b : List Prop). a ++ b) front back

aged_no_user : (waited : ℕ) (p : Prop) → IsNoUser p → IsNoUser (aged waited p)
aged_no_user waited p h = by (is_named MessageExpiryInterval p)
  where
    by : (t : Bool) → IsNoUser (cond t (property MessageExpiryInterval (U32 (number_in p.value - waited))) p)
    by true = refl
    by false = h

identified_no_user : (ids : List ℕ) → HasNoUser (map identified ids)
identified_no_user [] = tt
identified_no_user (n ∷ ids) = (refl, identified_no_user ids)

-- so they are in the block that is sent
pub sent_users_last : (waited : ℕ) (ids : List ℕ) (ps : List Prop) → HasUsersLast (sent_after waited ids ps)
sent_users_last waited ids ps =
    let rest = rest_has_none ps in
    let older = each_map IsNoUser (aged waited) (without UserProperty ps) (each_more IsNoUser (λ p. IsNoUser (aged waited p)) (aged_no_user waited) (without UserProperty ps) rest) in
    last_behind (map (aged waited) (without UserProperty ps) ++ map identified ids) ps
    (each_append IsNoUser (map (aged waited) (without UserProperty ps)) (map identified ids) older (identified_no_user ids))
