-- The words of a line, and what each stands for (ours).
use Rattle.std.specs.Prelude.{◌≡◌, ℕ, ◌<◌, ◌^◌, ◌==◌, ◌⊎◌, Bool, true, false, List, [], ◌∷◌, length}
use Rattle.std.specs.Prelude.{codes, Option, Some, None, Ok, decimal}
use Rattle.std.specs.List.{slice_split}
use Rattle.hex.specs.Hex.{decode_of}
use Rattle.mqtt_base.specs.Values.{FitsText}
use Rattle.mqtt_base.specs.declared.limits.TheConstants.{VARINT_LIMIT}
use Rattle.mqtt_base.specs.declared.session.Qos.{Qos}
use Rattle.mqtt_base.specs.declared.session.Qos.TheVariants.{AtMostOnce, AtLeastOnce, ExactlyOnce}
use Rattle.mqtt_base.specs.declared.session.RetainHandling.{RetainHandling}
use Rattle.mqtt_base.specs.declared.session.RetainHandling.TheVariants.{SendAlways, SendIfNew, DoNotSend}

abbrev pub space : ℕ
space = 0x20

-- the words of a line: what stands between its spaces
abbrev pub words_of : List ℕ → List (List ℕ)
words_of line = slice_split (λ b. b == space) line

-- ---- what a word is the text of

-- a name, a topic or a filter: a text of one byte or more (1.5.4)
abbrev pub IsName : List ℕ → Type 0
IsName word = (0 < length word) × FitsText word

-- a number of 64 bits, in decimal without sign or leading zeros
abbrev pub IsNumber : ℕ → List ℕ → Type 0
IsNumber n word = (n < 2 ^ 64) × (word ≡ decimal n)

abbrev pub flag_word : Bool → List ℕ
flag_word false = codes "0"
flag_word true = codes "1"

abbrev pub qos_word : Qos → List ℕ
qos_word AtMostOnce = codes "0"
qos_word AtLeastOnce = codes "1"
qos_word ExactlyOnce = codes "2"

abbrev pub handling_word : RetainHandling → List ℕ
handling_word SendAlways = codes "0"
handling_word SendIfNew = codes "1"
handling_word DoNotSend = codes "2"

-- bytes, in two hexadecimal digits of either case each
abbrev pub IsHex : List ℕ → List ℕ → Type 0
IsHex bytes word = (0 < length word) × (decode_of word ≡ Ok bytes)

-- a payload: its bytes, or - if it has none
abbrev pub IsPayload : List ℕ → List ℕ → Type 0
IsPayload payload word = ((word ≡ codes "-") × (payload ≡ [])) ⊎ IsHex payload word

-- a Receive Maximum (3.1.2.11.3)
abbrev pub IsWindow : ℕ → List ℕ → Type 0
IsWindow n word = (0 < n) × (n < 2 ^ 16) × (word ≡ decimal n)

-- a Topic Alias Maximum (3.1.2.11.5)
abbrev pub IsAliasMaximum : ℕ → List ℕ → Type 0
IsAliasMaximum n word = (n < 2 ^ 16) × (word ≡ decimal n)

-- a Topic Alias Maximum, which is 0 if no word says it
abbrev pub AreAliases : ℕ → List (List ℕ) → Type 0
AreAliases n words = ((words ≡ []) × (n ≡ 0)) ⊎ ((word : List ℕ) × (words ≡ word ∷ []) × IsAliasMaximum n word)

-- a Subscription Identifier (3.8.2.1.2), or 0 for none
abbrev pub IsIdentifier : Option ℕ → List ℕ → Type 0
IsIdentifier None word = word ≡ codes "0"
IsIdentifier (Some n) word = (0 < n) × (n < VARINT_LIMIT) × (word ≡ decimal n)
