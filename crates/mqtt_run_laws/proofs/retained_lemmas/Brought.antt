-- What a subscription brings of one topic, by what is left to be retained for it.
use Rattle.std.proofs.Common.{◌≡◌, ℕ, Bool, true, false, cond, not, ◌&&◌, List, [], ◌∷◌, map, filter, Option, Some, None, refl, sym, ap, subst, ◌∙◌, inl, inr}
use Rattle.std.specs.Prelude.{bytes_eq}
use Rattle.std.proofs.lemmas.Bool.{cases_Bool}
use Rattle.mqtt_topic.specs.names.Filters.{begins_share}
use Rattle.mqtt_topic.specs.names.Matching.{is_match}
use Rattle.mqtt_records.specs.declared.messages.message.RetainedMessage.{RetainedMessage}
use Rattle.mqtt_records.specs.declared.state.session.Session.{Session}
use Rattle.mqtt_records.specs.declared.state.subscription.Subscription.{Subscription}
use Rattle.mqtt_routes.specs.routing.Retained.{kept_for}
use Rattle.mqtt_rules.specs.step.Deeds.{At, Deed, Subscribe}
use Rattle.mqtt_rules.specs.step.Packets.{is_expired}
use Rattle.mqtt_rules.specs.step.Routing.{CopyTo, is_topic}
use Rattle.mqtt_rules.specs.step.State.{Broker}
use Rattle.mqtt_rules.specs.step.Subscribe.{brought, brought_if, has_filter, is_brought, kept_of, message_in, retained_copy_to, wants_retained}
use Rattle.mqtt_world_laws.specs.acceptance.Entries.{wish_in}
use Rattle.mqtt_run_laws.specs.retained.Retained.{BringsIts, IsWhatIsLeft, copies_of, due, retained_for}
use Rattle.mqtt_run_laws.proofs.retained_lemmas.Tables.{swap}

-- those that a filter matches
matched : (text : List ℕ) (ks : List RetainedMessage) → map message_in (kept_for text (map kept_of ks)) ≡ filter (λ k. is_match text k.content.topic) ks
matched text [] = refl
matched text (k ∷ ks) =
    let more = matched text ks in
    elim (cases_Bool (is_match text k.content.topic)) [
      | inl is ↦ rw is (ap (λ (ys : List RetainedMessage). k ∷ ys) more)
      | inr other ↦ rw other more
    ]

-- copies have the topics of their messages
copied : (topic : List ℕ) (c : RetainedMessage → CopyTo) → ((k : RetainedMessage) → bytes_eq (c k).copy.content.topic topic ≡ is_topic topic k)
    → (ks : List RetainedMessage) → copies_of topic (map c ks) ≡ map c (filter (is_topic topic) ks)
copied topic c same [] = refl
copied topic c same (k ∷ ks) =
    let more = copied topic c same ks in
    let its = same k in
    elim (cases_Bool (is_topic topic k)) [
      | inl is ↦ let here = its ∙ is in rw (here, is) (ap (λ (ys : List CopyTo). c k ∷ ys) more)
      | inr other ↦ let here = its ∙ other in rw (here, other) more
    ]

-- one message, or none
one_copy : (c : RetainedMessage → CopyTo) (m b : RetainedMessage → Bool) (k : RetainedMessage)
    → map c (filter b (filter m (k ∷ []))) ≡ cond (m k && b k) (c k ∷ []) []
one_copy c m b k = elim (cases_Bool (m k)) [
  | inl matches ↦ elim (cases_Bool (b k)) [
    | inl is ↦ rw matches (rw is refl)
    | inr not_so ↦ rw matches (rw not_so refl)
  ]
  | inr other ↦ rw other refl
]

none_due : (m b : Bool) (ds : List CopyTo) → [] ≡ cond (m && (b && false)) ds []
none_due false b ds = refl
none_due true false ds = refl
none_due true true ds = refl

module _ (now number : ℕ) (s : Session) (x : Subscription) where
  abbrev may : Bool
  may = not (begins_share x.filter) && wants_retained x.options.retain_handling (has_filter x.filter s)

  abbrev fits : RetainedMessage → Bool
  fits k = is_match x.filter k.content.topic

  abbrev its : RetainedMessage → Bool
  its k = is_brought now s (wish_in x) k

  abbrev make : RetainedMessage → CopyTo
  make k = retained_copy_to s.birth number (wish_in x) k

  abbrev due_if : Bool → Option RetainedMessage → List CopyTo
  due_if t None = []
  due_if t (Some last) = cond (t && (fits last && its last)) (make last ∷ []) []

  -- of what stands for the topic
  of_these : (o : Option RetainedMessage) (ks : List RetainedMessage) → IsWhatIsLeft o now ks → map make (filter its (filter fits ks)) ≡ due_if true o
  of_these None ks h = ap (λ (xs : List RetainedMessage). map make (filter its (filter fits xs))) h
  of_these (Some last) [] h =
      let past : is_expired now last.content ≡ true = h in
      rw past (none_due (fits last) (not (x.options.no_local && bytes_eq s.client last.sender)) (make last ∷ []))
  of_these (Some last) (k ∷ []) h =
      subst (λ (y : RetainedMessage). map make (filter its (filter fits (y ∷ []))) ≡ due_if true (Some last)) (sym h)
      (one_copy make fits its (record last { place = k.place }))
  of_these (Some last) (k ∷ j ∷ ks) h = absurd h

  never : (o : Option RetainedMessage) → [] ≡ due_if false o
  never None = refl
  never (Some last) = refl

  -- a filter that is asked for brings what is left for the topic, and any other nothing
  pub brings : (topic : List ℕ) (o : Option RetainedMessage) (ks : List RetainedMessage) → IsWhatIsLeft o now (filter (is_topic topic) ks) → (t : Bool)
      → copies_of topic (brought_if t now number s (wish_in x) ks) ≡ due_if t o
  brings topic o ks h false = never o
  brings topic o ks h true =
      let all = filter its (filter fits ks) in
      ap (λ (ys : List RetainedMessage). copies_of topic (map make (filter its ys))) (matched x.filter ks)
      ∙ copied topic make (λ k. refl) all
      ∙ ap (map make) (swap (is_topic topic) its (filter fits ks) ∙ ap (filter its) (swap (is_topic topic) fits ks))
      ∙ of_these o (filter (is_topic topic) ks) h

  due_is : (o : Option RetainedMessage) → due_if may o ≡ due now number s x o
  due_is None = refl
  due_is (Some last) = refl

  -- a granted subscription brings what is due for the topic
  pub brings_due : (topic : List ℕ) (o : Option RetainedMessage) (ks : List RetainedMessage) → IsWhatIsLeft o now (filter (is_topic topic) ks)
      → copies_of topic (brought now number s (wish_in x) ks) ≡ due now number s x o
  brings_due topic o ks h = brings topic o ks h may ∙ due_is o

-- whatever is done, a subscription that is granted brings what is due
pub brings_its : (topic : List ℕ) (o : Option RetainedMessage) (d : Deed) (b : Broker) → IsWhatIsLeft o b.now (retained_for topic b.records)
    → BringsIts topic o d b
brings_its topic o (At who (Subscribe x)) b h = λ s there. brings_due b.now b.records.subscribes s x topic o b.records.retained h
brings_its topic o d b h = tt
