-- Which form a PUBLISH gets, and that what goes out is allowed (MQTT 5.0, 3.1.2.11.4, 3.3.2.3.4).
use Rattle.std.proofs.Common.{◌≡◌, ℕ, ◌≤◌, Bool, true, false, cond, List, [], ◌∷◌, ◌++◌, length, take, refl, ap, ◌∙◌, Option, Some, None, inl, inr}
use Rattle.mqtt_topic.specs.names.Aliases.{no_aliases}
use Rattle.mqtt_topic.specs.declared.sending.form.Form.{Form}
use Rattle.mqtt_topic.specs.declared.sending.sizes.OtherBytes.{OtherBytes}
use Rattle.mqtt_topic.specs.sending.Told.{ToldTopics, forms, none_told, shortened, with_told, after_send}
use Rattle.mqtt_topic.specs.sending.Sizes.{IsAmong, IsFirstWithin, is_within, first_within, form_for}
use Rattle.mqtt_topic.specs.sending.Said.{AreAllowed, AreMeantNames, AreNames, MeanTheirTopics, Meant, said, said_first}
use Rattle.mqtt_topic.proofs.sending_lemmas.AgreeLemmas.{agree}

-- the first that is within is one of the forms, and within
pub is_first : (largest : ℕ) (topic : List ℕ) (other : OtherBytes) (fs : List Form) → IsFirstWithin largest topic other fs (first_within largest topic other fs)
is_first largest topic other [] = λ f among. absurd among
is_first largest topic other (f ∷ fs) = by (is_within largest topic other f) refl (is_first largest topic other fs)
  where
    later : (o : Option Form) → is_within largest topic other f ≡ false → IsFirstWithin largest topic other fs o → IsFirstWithin largest topic other (f ∷ fs) o
    later (Some g) at h = (inr h.0, h.1)
    later None at h = λ g among. one g among
      where
        one : (g : Form) → IsAmong g (f ∷ fs) → is_within largest topic other g ≡ false
        one g (inl is) = ap (is_within largest topic other) is ∙ at
        one g (inr among) = h g among

    by : (t : Bool) → is_within largest topic other f ≡ t → IsFirstWithin largest topic other fs (first_within largest topic other fs)
        → IsFirstWithin largest topic other (f ∷ fs) (cond t (Some f) (first_within largest topic other fs))
    by true at rest = (inl refl, at)
    by false at rest = later (first_within largest topic other fs) at rest

-- what goes out is in forms that are allowed, and its topics are names
pub said_is_allowed : (largest : ℕ) (told : ToldTopics) (ms : List Meant) → AreMeantNames ms → AreNames (said largest told ms) × AreAllowed told (said largest told ms)
said_is_allowed largest told [] names = (tt, tt)
said_is_allowed largest told (m ∷ ms) names =
    by (form_for largest told m.topic m.other) (is_first largest m.topic m.other (forms told m.topic)) (λ t. said_is_allowed largest t ms names.1)
  where
    by : (o : Option Form) → IsFirstWithin largest m.topic m.other (forms told m.topic) o
        → ((t : ToldTopics) → AreNames (said largest t ms) × AreAllowed t (said largest t ms))
        → AreNames (said_first o m.topic (said largest (after_send o m.topic told) ms)) × AreAllowed told (said_first o m.topic (said largest (after_send o m.topic told) ms))
    by None h rest = rest told
    by (Some f) h others =
        let rest = others (after_send (Some f) m.topic told) in
        ((names.0, rest.0), (h.0, rest.1))

-- what goes out means what was meant
pub what_goes_out : (max most largest : ℕ) (ms : List Meant) → max ≤ most → AreMeantNames ms → MeanTheirTopics (no_aliases most) (said largest (none_told max) ms)
what_goes_out max most largest ms le names =
    let s = said_is_allowed largest (none_told max) ms names in
    agree max most (said largest (none_told max) ms) le s.0 s.1

taken : (topics : List (List ℕ)) (topic : List ℕ) → take (length topics) (topics ++ topic ∷ []) ≡ topics
taken [] topic = refl
taken (t ∷ ts) topic = ap (λ (rest : List (List ℕ)). t ∷ rest) (taken ts topic)

-- what was told last is taken back
pub taken_back : (topic : List ℕ) (told : ToldTopics) → shortened (length told.topics) (with_told topic told) ≡ told
taken_back topic told = ap (λ (ts : List (List ℕ)). let t : ToldTopics = record { max = told.max; topics = ts } in t) (taken told.topics topic)
