-- What a reader knows of aliases is what was told (MQTT 5.0, 3.3.2.3.4).
use Rattle.std.proofs.Common.{◌≡◌, ℕ, suc, ◌+◌, ◌≤◌, ◌<◌, Bool, true, false, cond, List, [], ◌∷◌, ◌++◌, length, refl, sym, ap, subst, ◌∙◌, arith, nat_eq, nat_lt, Option, Some, None, inl, inr}
use Rattle.std.specs.Prelude.{bytes_eq}
use Rattle.std.proofs.lemmas.Bool.{cases_Bool, eqb-true, ltb-true}
use Rattle.std.proofs.lemmas.List.{length_push}
use Rattle.std.proofs.lemmas.Cmp.{nat_eq_equiv}
use Rattle.std.proofs.lemmas.Slice.Eq.{bytes_eq-Decides}
use Rattle.mqtt_topic.specs.names.Names.{IsTopicName}
use Rattle.mqtt_topic.specs.names.Aliases.{AliasTable, no_aliases, topic_of, with_topic, Resolves, after_resolve}
use Rattle.mqtt_topic.specs.declared.sending.form.Form.{Form}
use Rattle.mqtt_topic.specs.declared.sending.form.Form.TheVariants.{Plain, Named, Short}
use Rattle.mqtt_topic.specs.sending.Told.{ToldTopics, none_told, place_from, alias_of, next_alias, forms, forms_by, topic_in, alias_in, told_in}
use Rattle.mqtt_topic.specs.sending.Sizes.{IsAmong}
use Rattle.mqtt_topic.specs.sending.Said.{Said, AreNames, AreAllowed, MeanTheirTopics}

-- the reader's entries, from an alias on
abbrev pub entries : ℕ → List (List ℕ) → List (ℕ × List ℕ)
entries n [] = []
entries n (t ∷ ts) = (n, t) ∷ entries (suc n) ts

-- what a reader with so many aliases knows
abbrev pub known : ℕ → ToldTopics → AliasTable
known most told = record { max = most; topics = entries 1 told.topics }

-- a smaller number differs
pub differ : (a n : ℕ) → n < a → nat_eq a n ≡ false
differ a n less = by (nat_eq a n) refl
  where
    by : (t : Bool) → nat_eq a n ≡ t → t ≡ false
    by true same = let is = eqb-true a n same in absurd (⊥_of is)
      where
        ⊥_of : a ≡ n → ⊥
        ⊥_of is = omega (arith, is, less)
    by false other = refl

-- a topic that has an alias is what the alias stands for
record Found (n a : ℕ) (topic : List ℕ) (ts : List (List ℕ)) : Type 0 where
  pub stands : topic_of a (entries n ts) ≡ Some topic
  pub above : n ≤ a
  pub below : a < n + length ts

found : (n a : ℕ) (topic : List ℕ) (ts : List (List ℕ)) → place_from n topic ts ≡ Some a → Found n a topic ts
found n a topic [] is = absurd cc
found n a topic (t ∷ ts) is = elim (cases_Bool (bytes_eq t topic)) [
  | inl same ↦
      let here : Some n ≡ Some a = rw same at is in
      let at : n ≡ a = cc in
      let own : nat_eq a n ≡ true = ap (λ (k : ℕ). nat_eq k n) (sym at) ∙ nat_eq_equiv.refl n in
      record { stands = rw own (ap Some ((bytes_eq-Decides t topic).0 same)); above = omega (arith, at); below = omega (arith, at) }
  | inr other ↦
      let rest : place_from (suc n) topic ts ≡ Some a = rw other at is in
      let f = found (suc n) a topic ts rest in
      let over = f.above in
      let under = f.below in
      let apart : nat_eq a n ≡ false = differ a n (omega (arith, over)) in
      record { stands = rw apart f.stands; above = omega (arith, over); below = omega (arith, under) }
]

-- a further topic stands behind the others
added : (n k : ℕ) (topic : List ℕ) (ts : List (List ℕ)) → k ≡ n + length ts → with_topic k topic (entries n ts) ≡ entries n (ts ++ topic ∷ [])
added n k topic [] is = let same : k ≡ n = omega (arith, is) in ap (λ (i : ℕ). (i, topic) ∷ []) same
added n k topic (t ∷ ts) is =
    let apart : nat_eq k n ≡ false = differ k n (omega (arith, is)) in
    rw apart (ap (λ (es : List (ℕ × List ℕ)). (n, t) ∷ es) (added (suc n) k topic ts (omega (arith, is))))

-- ---- one topic in one form

record Agrees (most : ℕ) (told : ToldTopics) (topic : List ℕ) (form : Form) : Type 0 where
  pub means : Resolves (known most told) (topic_in form topic) (alias_in form) topic
  pub after : after_resolve (known most told) (topic_in form topic) (alias_in form) ≡ known most (told_in form topic told)
  pub few : length (told_in form topic told).topics ≤ told.max
  pub same : (told_in form topic told).max ≡ told.max

plainly : (most : ℕ) (told : ToldTopics) (topic : List ℕ) → length told.topics ≤ told.max → IsTopicName topic → Agrees most told topic Plain
plainly most told topic few name = record { means = (refl, name); after = refl; few = few; same = refl }

shortly : (most alias : ℕ) (told : ToldTopics) (topic : List ℕ) → told.max ≤ most → length told.topics ≤ told.max → alias_of topic told ≡ Some alias → Agrees most told topic (Short alias)
shortly most alias told topic le few is =
    let f = found 1 alias topic told.topics is in
    let over = f.above in
    let under = f.below in
    record { means = (record { above = omega (arith, over); within = omega (arith, under, few, le) }, f.stands); after = refl; few = few; same = refl }

anew : (most : ℕ) (told : ToldTopics) (topic : List ℕ) → told.max ≤ most → length told.topics < told.max → IsTopicName topic → Agrees most told topic (Named (suc (length told.topics)))
anew most told [] le less name = absurd (name.some refl)
anew most told (c ∷ cs) le less name =
    let longer = length_push told.topics (c ∷ cs) in
    record {
      means = (record { above = omega arith; within = omega (arith, less, le) }, refl, name);
      after = ap (λ (es : List (ℕ × List ℕ)). record { max = most; topics = es }) (added 1 (suc (length told.topics)) (c ∷ cs) told.topics (omega arith));
      few = omega (arith, longer, less);
      same = refl;
    }

one : (most : ℕ) (told : ToldTopics) (topic : List ℕ) (form : Form) → told.max ≤ most → length told.topics ≤ told.max → IsTopicName topic → IsAmong form (forms told topic) → Agrees most told topic form
one most told topic form le few name among = by (alias_of topic told) refl among
  where
    in_form : (g : Form) → form ≡ g → Agrees most told topic g → Agrees most told topic form
    in_form g is a = subst (Agrees most told topic) (sym is) a

    next : (t : Bool) → nat_lt (length told.topics) told.max ≡ t → IsAmong form (forms_by None (cond t (Some (suc (length told.topics))) None)) → Agrees most told topic form
    next true room (inl is) = in_form (Named (suc (length told.topics))) is (anew most told topic le (ltb-true (length told.topics) told.max room) name)
    next true room (inr (inl is)) = in_form Plain is (plainly most told topic few name)
    next true room (inr (inr none)) = absurd none
    next false room (inl is) = in_form Plain is (plainly most told topic few name)
    next false room (inr none) = absurd none

    by : (o : Option ℕ) → alias_of topic told ≡ o → IsAmong form (forms_by o (next_alias told)) → Agrees most told topic form
    by (Some alias) has (inl is) = in_form (Short alias) is (shortly most alias told topic le few has)
    by (Some alias) has (inr (inl is)) = in_form Plain is (plainly most told topic few name)
    by (Some alias) has (inr (inr none)) = absurd none
    by None has x = next (nat_lt (length told.topics) told.max) refl x

-- ---- one after the other

-- what is allowed by what was told means its topics
pub agree_on : (most : ℕ) (told : ToldTopics) (said : List Said) → told.max ≤ most → length told.topics ≤ told.max → AreNames said → AreAllowed told said → MeanTheirTopics (known most told) said
agree_on most told [] le few names allowed = tt
agree_on most told (x ∷ xs) le few names allowed =
    let a = one most told x.topic x.form le few names.0 allowed.0 in
    let max_is = a.same in
    let short_is = a.few in
    let rest = agree_on most (told_in x.form x.topic told) xs (omega (arith, max_is, le)) (omega (arith, max_is, short_is)) names.1 allowed.1 in
    (a.means, subst (λ (t : AliasTable). MeanTheirTopics t xs) (sym a.after) rest)

-- also from the first PUBLISH on
pub agree : (max most : ℕ) (said : List Said) → max ≤ most → AreNames said → AreAllowed (none_told max) said → MeanTheirTopics (no_aliases most) said
agree max most said le names allowed = agree_on most (none_told max) said le (omega arith) names allowed
