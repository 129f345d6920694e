-- The retained messages that a filter brings, one after the other.
use Rattle.std.proofs.Common.{◌≡◌, ℕ, List, [], ◌∷◌, ◌++◌, length, refl, ap, sym, subst, ◌∙◌, append_assoc, append-nil, inl, inr}
use Rattle.std.specs.Prelude.{filter, map}
use Rattle.std.specs.List.{AllByRecursion}
use Rattle.std.proofs.lemmas.Bool.{cases_Bool}
use Rattle.mqtt_base.specs.declared.session.SubscriptionOptions.{SubscriptionOptions}
use Rattle.mqtt_topic.specs.names.Matching.{is_match}
use Rattle.mqtt_records.specs.declared.messages.message.RetainedMessage.{RetainedMessage}
use Rattle.mqtt_routes.specs.routing.Retained.{kept_for}
use Rattle.mqtt_records.specs.declared.state.session.Session.{Session}
use Rattle.mqtt_rules.specs.step.Contents.{IsPublished}
use Rattle.mqtt_rules.specs.step.Subscribe.{Wish, is_brought, kept_of, message_in}
use Rattle.mqtt_broker_acts.specs.subscribing.Bringing.{brings}

-- what the walk brings is what the definition brings
pub brings_is : (now : ℕ) (s : Session) (w : Wish) (ks : List RetainedMessage)
    → filter (brings now s w) ks ≡ filter (is_brought now s w) (map message_in (kept_for w.filter (map kept_of ks)))
brings_is now s w [] = refl
brings_is now s w (k ∷ ks) = elim (cases_Bool (is_match w.filter k.content.topic)) [
  | inl matches ↦ elim (cases_Bool (is_brought now s w k)) [
    | inl sent ↦ rw (matches, sent) (ap (λ (xs : List RetainedMessage). k ∷ xs) (brings_is now s w ks))
    | inr barred ↦ rw (matches, barred) (brings_is now s w ks)
  ]
  | inr other ↦ rw other (brings_is now s w ks)
]

-- those so far, and those of the rest, are all
pub record Bringing (now : ℕ) (s : Session) (text : List ℕ) (options : SubscriptionOptions) (rest all done : List RetainedMessage) : Type 0 where
  pub same : (w : Wish) → w.filter ≡ text → w.options ≡ options → done ++ filter (brings now s w) rest ≡ filter (brings now s w) all
  pub lawful : AllByRecursion (λ (k : RetainedMessage). IsPublished k.content) rest

one_more : (now : ℕ) (s : Session) (w : Wish) (k : RetainedMessage) (rest : List RetainedMessage) → filter (brings now s w) (k ∷ []) ++ filter (brings now s w) rest ≡ filter (brings now s w) (k ∷ rest)
one_more now s w k rest = elim (cases_Bool (brings now s w k)) [
  | inl so ↦ rw so refl
  | inr other ↦ rw other refl
]

-- a message that is looked at is brought if the definition brings it
pub brings_next : (now : ℕ) (s : Session) (text : List ℕ) (options : SubscriptionOptions) (k : RetainedMessage) (rest xs all done done2 : List RetainedMessage) → xs ≡ k ∷ rest → Bringing now s text options xs all done
    → ((w : Wish) → w.filter ≡ text → w.options ≡ options → done2 ≡ done ++ filter (brings now s w) (k ∷ [])) → Bringing now s text options rest all done2
brings_next now s text options k rest xs all done done2 is b more = record {
  same = λ w f o.
      ap (λ ys. ys ++ filter (brings now s w) rest) (more w f o)
      ∙ (append_assoc done (filter (brings now s w) (k ∷ [])) (filter (brings now s w) rest)
      ∙ (ap (λ ys. done ++ ys) (one_more now s w k rest)
      ∙ (ap (λ ys. done ++ filter (brings now s w) ys) (sym is) ∙ b.same w f o)));
  lawful = (subst (λ (ys : List RetainedMessage). AllByRecursion (λ (k : RetainedMessage). IsPublished k.content) ys) is b.lawful).1;
}

-- it is lawful
pub brings_lawful : (now : ℕ) (s : Session) (text : List ℕ) (options : SubscriptionOptions) (k : RetainedMessage) (rest xs all done : List RetainedMessage) → xs ≡ k ∷ rest → Bringing now s text options xs all done → IsPublished k.content
brings_lawful now s text options k rest xs all done is b =
    (subst (λ (ys : List RetainedMessage). AllByRecursion (λ (k : RetainedMessage). IsPublished k.content) ys) is b.lawful).0

-- behind the last all are brought that the definition brings
pub brings_last : (now : ℕ) (s : Session) (text : List ℕ) (options : SubscriptionOptions) (rest all done : List RetainedMessage) (w : Wish) → length rest ≡ 0 → Bringing now s text options rest all done → w.filter ≡ text → w.options ≡ options
    → done ≡ filter (is_brought now s w) (map message_in (kept_for w.filter (map kept_of all)))
brings_last now s text options [] all done w none b f o = sym (append-nil done) ∙ (b.same w f o ∙ brings_is now s w all)
brings_last now s text options (k ∷ rest) all done w none b f o = absurd cc
