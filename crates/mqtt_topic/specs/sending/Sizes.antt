-- The size of a PUBLISH in each of its forms (MQTT 5.0, 2.1.4, 3.1.2.11.4, 3.3).
use Rattle.std.specs.Prelude.{◌≡◌, ℕ, ◌+◌, ◌^◌, Bool, true, false, cond, ◌⊎◌, List, [], ◌∷◌, length, nat_lt, nat_le, Option, Some, None}
use Rattle.mqtt_base.specs.Values.{varint}
use Rattle.mqtt_topic.specs.declared.sending.form.Form.{Form}
use Rattle.mqtt_topic.specs.declared.sending.form.Form.TheVariants.{Plain, Named, Short}
use Rattle.mqtt_topic.specs.declared.sending.sizes.OtherBytes.{OtherBytes}
use Rattle.mqtt_topic.specs.sending.Told.{ToldTopics, forms, topic_in}

-- the bytes of the Topic Alias: 23, and two of the alias (3.3.2.3.4)
abbrev pub alias_size : Form → ℕ
alias_size Plain = 0
alias_size (Named alias) = 3
alias_size (Short alias) = 3

-- the bytes of all properties
abbrev pub properties_in : Form → OtherBytes → ℕ
properties_in form other = other.properties + alias_size form

-- the Remaining Length: topic and properties, each with its length, and what stands beside them (3.3.2, 3.3.3)
abbrev pub remaining_in : Form → List ℕ → OtherBytes → ℕ
remaining_in form topic other =
    2 + length (topic_in form topic) + (length (varint (properties_in form other)) + properties_in form other) + other.rest

-- a PUBLISH of such a Remaining Length has a spelling (2.1.4)
abbrev pub is_spelled : ℕ → Bool
is_spelled remaining = nat_lt remaining (2 ^ 28)

-- the bytes of a packet of such a Remaining Length, fixed header included
abbrev pub whole_size : ℕ → ℕ
whole_size remaining = 1 + length (varint remaining) + remaining

-- the size of a PUBLISH in a form; none if it has no spelling
abbrev pub size_in : Form → List ℕ → OtherBytes → Option ℕ
size_in form topic other =
    cond (is_spelled (remaining_in form topic other)) (Some (whole_size (remaining_in form topic other))) None

abbrev pub is_at_most : ℕ → Option ℕ → Bool
is_at_most largest None = false
is_at_most largest (Some size) = nat_le size largest

-- a PUBLISH in this form is no larger than the client takes (3.1.2.11.4)
abbrev pub is_within : ℕ → List ℕ → OtherBytes → Form → Bool
is_within largest topic other form = is_at_most largest (size_in form topic other)

-- the first of these forms that is within
abbrev pub first_within : ℕ → List ℕ → OtherBytes → List Form → Option Form
first_within largest topic other [] = None
first_within largest topic other (f ∷ fs) = cond (is_within largest topic other f) (Some f) (first_within largest topic other fs)

-- the form in which a PUBLISH goes out, to a client that takes so many bytes and was told this; none if it is too large
abbrev pub form_for : ℕ → ToldTopics → List ℕ → OtherBytes → Option Form
form_for largest told topic other = first_within largest topic other (forms told topic)

-- ---- the same in other words

abbrev pub IsAmong : Form → List Form → Type 0
IsAmong x [] = ⊥
IsAmong x (y ∷ ys) = (x ≡ y) ⊎ IsAmong x ys

-- none of these forms is within
abbrev pub NoneIsWithin : ℕ → List ℕ → OtherBytes → List Form → Type 0
NoneIsWithin largest topic other fs = (f : Form) → IsAmong f fs → is_within largest topic other f ≡ false

-- a form that is taken is one of these, and within; if none is taken none is within
abbrev pub IsFirstWithin : ℕ → List ℕ → OtherBytes → List Form → Option Form → Type 0
IsFirstWithin largest topic other fs None = NoneIsWithin largest topic other fs
IsFirstWithin largest topic other fs (Some f) = IsAmong f fs × (is_within largest topic other f ≡ true)
