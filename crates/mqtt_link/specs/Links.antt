-- What calls on a link and its connections give, and what waits to go out (MQTT 5.0, 4.2).
use Rattle.std.specs.Prelude.{◌≡◌, ℕ, ◌≤◌, ◌<◌, ◌+◌, ◌%◌, ◌^◌, ◌++◌, Bool, true, false, cond, List, [], ◌∷◌, length, take, Option, Some, None, option_map, ⊤}
use Rattle.mqtt_link.specs.declared.link.Got.{Got}
use Rattle.mqtt_link.specs.declared.link.Got.TheVariants.{Given, Nothing, End, Failure}
use Rattle.mqtt_link.specs.declared.waiting.TheConstants.{WAITING_LIMIT}
use Rattle.mqtt_link.specs.declared.waiting.WaitingFault.{WaitingFault}
use Rattle.mqtt_link.specs.declared.waiting.WaitingFault.TheVariants.{Full, Memory}

-- no more than so many bytes were moved
abbrev pub GivesAtMost : Got ℕ → ℕ → Type 0
GivesAtMost (Given count) most = count ≤ most
GivesAtMost Nothing most = ⊤
GivesAtMost End most = ⊤
GivesAtMost Failure most = ⊤

-- the bytes that were moved: the first of those at hand, or none
abbrev pub handed : Got ℕ → List ℕ → List ℕ
handed (Given count) bytes = take count bytes
handed Nothing bytes = []
handed End bytes = []
handed Failure bytes = []

-- the bytes of a connection, if they are told, and more behind them
abbrev pub and_then : Option (List ℕ) → List ℕ → Option (List ℕ)
and_then told more = option_map (λ bytes. bytes ++ more) told

-- a count of calls, if it is told, and one call more, modulo 2^64
abbrev pub one_more : Option ℕ → Option ℕ
one_more told = option_map (λ count. (count + 1) % 2 ^ 64) told

-- a count of writes: one more if bytes wait
abbrev pub one_more_if_any : List ℕ → Option ℕ → Option ℕ
one_more_if_any [] told = told
one_more_if_any (b ∷ bytes) told = one_more told

-- another value in place of the one that is told, if one is told
abbrev pub now_told : {A : Type 0} → A → Option A → Option A
now_told x told = option_map (λ _. x) told

-- ---- whether a connection has ended

-- a call that gave the end or a failure ends the connection
abbrev pub ended_by : {A : Type 0} → Got A → Option Bool → Option Bool
ended_by (Given x) told = told
ended_by Nothing told = told
ended_by End told = now_told true told
ended_by Failure told = now_told true told

-- a write that answers false ended it
abbrev pub ended_unless : Bool → Option Bool → Option Bool
ended_unless true told = told
ended_unless false told = now_told true told

-- ---- what a link was asked, modulo 2^64 each

-- how often for a connection, how many connections it gave, and how often to wait
pub record Calls : Type 0 where
  pub accepts : ℕ
  pub came : ℕ
  pub waits : ℕ

abbrev pub is_given : {A : Type 0} → Got A → Bool
is_given (Given x) = true
is_given Nothing = false
is_given End = false
is_given Failure = false

-- it was asked for a connection, and one came or none
abbrev pub asked_once : Bool → Calls → Calls
asked_once came c = record c { accepts = (c.accepts + 1) % 2 ^ 64; came = (c.came + cond came 1 0) % 2 ^ 64 }

-- it was asked to wait
abbrev pub waited_once : Calls → Calls
waited_once c = record c { waits = (c.waits + 1) % 2 ^ 64 }

abbrev pub asked : Bool → Option Calls → Option Calls
asked came told = option_map (asked_once came) told

abbrev pub waited : Option Calls → Option Calls
waited told = option_map waited_once told

-- ---- a connection that was just opened

-- it is so of the connection that was given, if one was
abbrev pub IfGiven : {A : Type 0} → Got A → (A → Type 0) → Type 0
IfGiven (Given x) P = P x
IfGiven Nothing P = ⊤
IfGiven End P = ⊤
IfGiven Failure P = ⊤

-- this is told, if anything is
abbrev pub AtFirst : {A : Type 0} → A → Option A → Type 0
AtFirst x None = ⊤
AtFirst x (Some y) = y ≡ x

-- it was never read or written to, and has not ended
pub record IsNew (reads writes : Option ℕ) (heard written : Option (List ℕ)) (ended : Option Bool) : Type 0 where
  pub unread : AtFirst 0 reads
  pub silent : AtFirst [] heard
  pub untold : AtFirst 0 writes
  pub unwritten : AtFirst [] written
  pub stands : AtFirst false ended

-- ---- what waits

-- why bytes do not wait behind others; want of memory says nothing of them
abbrev pub Refuses : List ℕ → List ℕ → WaitingFault → Type 0
Refuses waiting bytes Full = WAITING_LIMIT < length waiting + length bytes
Refuses waiting bytes Memory = ⊤
