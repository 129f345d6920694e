-- How the words of a line are read as an event, as functions (ours). Above them stands what is the line of an event.
use Rattle.std.specs.Prelude.{◌≡◌, ◌≢◌, ◌==◌, ℕ, ◌^◌, ◌&&◌, ◌||◌, nat_lt, Bool, true, false, if◌then◌else◌, List, [], ◌∷◌, length, map}
use Rattle.std.specs.Prelude.{codes, Option, Some, None, Result, IfOk, IfErr, decimal, option_and_then}
use Rattle.std.specs.Borrow.{Bor}
use Rattle.std.specs.Result.{result_ok}
use Rattle.std.specs.Str.{bytes_eq}
use Rattle.std.specs.Str.Parse.{digits_value}
use Rattle.hex.specs.Hex.{decode_of}
use Rattle.mqtt_base.specs.Values.{is_text}
use Rattle.mqtt_base.specs.declared.limits.TheConstants.{VARINT_LIMIT}
use Rattle.mqtt_base.specs.declared.session.Qos.{Qos}
use Rattle.mqtt_base.specs.declared.session.Qos.TheVariants.{AtMostOnce, AtLeastOnce, ExactlyOnce}
use Rattle.mqtt_base.specs.declared.session.SubscriptionOptions.{SubscriptionOptions}
use Rattle.mqtt_base.specs.declared.session.RetainHandling.{RetainHandling}
use Rattle.mqtt_base.specs.declared.session.RetainHandling.TheVariants.{SendAlways, SendIfNew, DoNotSend}
use Rattle.mqtt_script.specs.declared.event.Asking.{Asking}
use Rattle.mqtt_script.specs.declared.event.Asking.TheVariants as asking
use Rattle.mqtt_script.specs.declared.event.Draft.{Draft}
use Rattle.mqtt_script.specs.declared.event.Event.{Event}
use Rattle.mqtt_script.specs.declared.event.Event.TheVariants.{Publisher, Receiver, Connect, GiveUp, Publish, Subscribe, ToBroker, ToEnd, Break, Pump, Clock, Tick, Restart, StopBefore, StopAfter, Stranger, Drain}
use Rattle.mqtt_script.specs.declared.event.Wish.{Wish}
use Rattle.mqtt_script.specs.declared.fault.ScriptFault.{ScriptFault}
use Rattle.mqtt_script.specs.declared.fault.ScriptFault.TheVariants.{Memory}

-- what was read is this value, and it was refused if there is none; want of memory says nothing of it
abbrev pub IsReadAs : {X : Type 0} → Option X → Result X ScriptFault → Type 0
IsReadAs value result = IfOk result (λ x. value ≡ Some x) × IfErr result (λ fault. fault ≢ Memory → value ≡ None)

infixl 10 ◌>>=◌
abbrev pub ◌>>=◌ : {A B : Type 0} → Option A → (A → Option B) → Option B
value >>= f = option_and_then f value

-- the words as they are lent
abbrev pub texts : List (Bor (List ℕ)) → List (List ℕ)
texts words = map (λ word. word.now) words

-- ---- a word

unfoldable pub name_at : List ℕ → Option (List ℕ)
name_at word = if nat_lt 0 (length word) && (nat_lt (length word) (2 ^ 16) && is_text word) then Some word else None

unfoldable pub flag_at : List ℕ → Option Bool
flag_at word =
    if bytes_eq word (codes "0") then Some false else if bytes_eq word (codes "1") then Some true else None

unfoldable pub qos_at : List ℕ → Option Qos
qos_at word =
    if bytes_eq word (codes "0") then Some AtMostOnce
    else if bytes_eq word (codes "1") then Some AtLeastOnce
    else if bytes_eq word (codes "2") then Some ExactlyOnce
    else None

unfoldable pub handling_at : List ℕ → Option RetainHandling
handling_at word =
    if bytes_eq word (codes "0") then Some SendAlways
    else if bytes_eq word (codes "1") then Some SendIfNew
    else if bytes_eq word (codes "2") then Some DoNotSend
    else None

-- a sign or a zero stands before more bytes
abbrev pub is_led : List ℕ → Bool
is_led [] = false
is_led (first ∷ []) = false
is_led (first ∷ next ∷ more) = (first == 0x2b) || (first == 0x30)

-- the number whose decimal form the word is
abbrev pub number_by : List ℕ → ℕ → Option ℕ
number_by word n = if nat_lt n (2 ^ 64) && bytes_eq word (decimal n) then Some n else None

unfoldable pub number_at : List ℕ → Option ℕ
number_at word = number_by word (digits_value 10 word)

abbrev pub window_by : ℕ → Option ℕ
window_by n = if nat_lt 0 n && nat_lt n (2 ^ 16) then Some n else None

unfoldable pub window_at : List ℕ → Option ℕ
window_at word = number_at word >>= window_by

abbrev pub alias_maximum_by : ℕ → Option ℕ
alias_maximum_by n = if nat_lt n (2 ^ 16) then Some n else None

unfoldable pub alias_maximum_at : List ℕ → Option ℕ
alias_maximum_at word = number_at word >>= alias_maximum_by

abbrev pub identifier_by : ℕ → Option (Option ℕ)
identifier_by n =
    if nat_lt n VARINT_LIMIT then (if nat_lt 0 n then Some (Some n) else Some None) else None

unfoldable pub identifier_at : List ℕ → Option (Option ℕ)
identifier_at word = number_at word >>= identifier_by

unfoldable pub bytes_at : List ℕ → Option (List ℕ)
bytes_at word = if nat_lt 0 (length word) then result_ok (decode_of word) else None

unfoldable pub payload_at : List ℕ → Option (List ℕ)
payload_at word = if bytes_eq word (codes "-") then Some [] else bytes_at word

-- ---- the words behind the first

-- a single name
unfoldable pub one_name_in : List (List ℕ) → Option (List ℕ)
one_name_in (client ∷ []) = name_at client
one_name_in words = None

-- nothing
unfoldable pub alone : Event → List (List ℕ) → Option Event
alone e [] = Some e
alone e words = None

-- 0 if there is none
unfoldable pub aliases_in : List (List ℕ) → Option ℕ
aliases_in [] = Some 0
aliases_in (word ∷ []) = alias_maximum_at word
aliases_in words = None

unfoldable pub receiver_in : List (List ℕ) → Option Event
receiver_in (client ∷ max ∷ more) = do
  window ← window_at max
  aliases ← aliases_in more
  name ← name_at client
  Some (Receiver name window aliases)
receiver_in words = None

unfoldable pub connect_in : List (List ℕ) → Option Event
connect_in (client ∷ clean ∷ []) = do
  clean_start ← flag_at clean
  name ← name_at client
  Some (Connect name clean_start)
connect_in words = None

unfoldable pub draft_in : List ℕ → List ℕ → List ℕ → List ℕ → Option Draft
draft_in qos retain topic payload = do
  q ← qos_at qos
  r ← flag_at retain
  t ← name_at topic
  p ← payload_at payload
  Some (record { qos = q; content = record { retain = r; topic = t; payload = p } })

unfoldable pub publish_in : List (List ℕ) → Option Event
publish_in (client ∷ qos ∷ retain ∷ topic ∷ payload ∷ []) = do
  d ← draft_in qos retain topic payload
  c ← name_at client
  Some (Publish c d)
publish_in words = None

unfoldable pub options_in : List ℕ → List ℕ → List ℕ → List ℕ → Option SubscriptionOptions
options_in qos local published handling = do
  q ← qos_at qos
  l ← flag_at local
  r ← flag_at published
  h ← handling_at handling
  Some (record { qos = q; no_local = l; retain_as_published = r; retain_handling = h })

unfoldable pub wish_in : List ℕ → List ℕ → List ℕ → List (List ℕ) → Option Wish
wish_in qos local published (handling ∷ identifier ∷ filter ∷ []) = do
  o ← options_in qos local published handling
  i ← identifier_at identifier
  f ← name_at filter
  Some (record { filter = f; options = o; identifier = i })
wish_in qos local published words = None

unfoldable pub subscribe_in : List (List ℕ) → Option Event
subscribe_in (client ∷ qos ∷ local ∷ published ∷ more) = do
  w ← wish_in qos local published more
  c ← name_at client
  Some (Subscribe c w)
subscribe_in words = None

unfoldable pub clock_in : List (List ℕ) → Option Event
clock_in (number ∷ []) = number_at number >>= λ wait. Some (Clock wait)
clock_in words = None

-- ---- what is asked for

unfoldable pub late_in : List ℕ → List ℕ → Option Asking
late_in client line =
    if bytes_eq line (codes "old") then name_at client >>= (λ name. Some (asking.ToBroker name true)) else None

unfoldable pub to_broker_in : List (List ℕ) → Option Asking
to_broker_in (client ∷ []) = name_at client >>= λ name. Some (asking.ToBroker name false)
to_broker_in (client ∷ line ∷ []) = late_in client line
to_broker_in words = None

unfoldable pub stranger_in : List (List ℕ) → Option Asking
stranger_in (name ∷ hex ∷ []) = do
  n ← name_at name
  b ← bytes_at hex
  Some (asking.Stranger n b)
stranger_in words = None

unfoldable pub tick_in : List (List ℕ) → Option Asking
tick_in [] = Some asking.Tick
tick_in words = None

unfoldable pub asking_named : List ℕ → List (List ℕ) → Option Asking
asking_named first more =
    if bytes_eq first (codes "tobroker") then to_broker_in more
    else if bytes_eq first (codes "break") then one_name_in more >>= (λ name. Some (asking.Break name))
    else if bytes_eq first (codes "pump") then one_name_in more >>= (λ name. Some (asking.Pump name))
    else if bytes_eq first (codes "tick") then tick_in more
    else if bytes_eq first (codes "stranger") then stranger_in more
    else None

unfoldable pub asking_in : List (List ℕ) → Option Asking
asking_in [] = None
asking_in (first ∷ more) = asking_named first more

-- the event that is no stop
abbrev pub asked : Asking → Event
asked (asking.ToBroker client old) = ToBroker client old
asked (asking.Break client) = Break client
asked (asking.Pump client) = Pump client
asked asking.Tick = Tick
asked (asking.Stranger name bytes) = Stranger name bytes

-- ---- the event

-- of an end, and nothing of the broker
unfoldable pub end_named : List ℕ → List (List ℕ) → Option Event
end_named first more =
    if bytes_eq first (codes "publisher") then one_name_in more >>= (λ name. Some (Publisher name))
    else if bytes_eq first (codes "receiver") then receiver_in more
    else if bytes_eq first (codes "connect") then connect_in more
    else if bytes_eq first (codes "giveup") then one_name_in more >>= (λ name. Some (GiveUp name))
    else if bytes_eq first (codes "publish") then publish_in more
    else if bytes_eq first (codes "subscribe") then subscribe_in more
    else if bytes_eq first (codes "toend") then one_name_in more >>= (λ name. Some (ToEnd name))
    else if bytes_eq first (codes "drain") then one_name_in more >>= (λ name. Some (Drain name))
    else None

-- the words that ask something of the broker
abbrev pub is_asking_word : List ℕ → Bool
is_asking_word first =
    bytes_eq first (codes "tobroker") || (bytes_eq first (codes "break") || (bytes_eq first (codes "pump")
    || (bytes_eq first (codes "tick") || bytes_eq first (codes "stranger"))))

unfoldable pub event_named : List ℕ → List (List ℕ) → Option Event
event_named first more =
    if bytes_eq first (codes "clock") then clock_in more
    else if bytes_eq first (codes "restart") then alone Restart more
    else if bytes_eq first (codes "stopbefore") then asking_in more >>= (λ a. Some (StopBefore a))
    else if bytes_eq first (codes "stopafter") then asking_in more >>= (λ a. Some (StopAfter a))
    else if is_asking_word first then asking_named first more >>= (λ a. Some (asked a))
    else end_named first more

unfoldable pub event_in : List (List ℕ) → Option Event
event_in [] = None
event_in (first ∷ more) = event_named first more
