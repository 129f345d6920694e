-- Gathered changes that fewer changes stand for (MQTT 5.0, 4.1, 4.3).
use Rattle.std.specs.Prelude.{◌≡◌, ℕ, Bool, true, false, not, ◌&&◌, List, [], ◌∷◌, ◌++◌, length, nat_eq}
use Rattle.mqtt_base.specs.declared.session.Phase.{Phase}
use Rattle.mqtt_records.specs.declared.state.records.Records.{Records}
use Rattle.mqtt_records.specs.declared.state.change.Change.{Change}
use Rattle.mqtt_records.specs.declared.state.change.Change.TheVariants.{PutSession, RemoveSession, PutCopy, SetCopy, RemoveCopy}
use Rattle.mqtt_records.specs.messages.Queue.{CopyRow}
use Rattle.mqtt_records.specs.state.Contents.{FitContents}
use Rattle.mqtt_records.specs.state.Records.{FitAll, changed_all}
use Rattle.mqtt_records.specs.state.Saying.{AllSayable}
use Rattle.mqtt_records.specs.state.Session.{in_phase}

-- wherever the old changes can be made the new ones can, and they make the same
pub record StandFor (old new : List Change) : Type 0 where
  pub fit : (r : Records) → FitAll old r → FitAll new r
  pub sayable : AllSayable old → AllSayable new
  pub contents : (r : Records) → FitAll old r → FitContents old r → FitContents new r
  pub made : (r : Records) → FitAll old r → changed_all new r ≡ changed_all old r

-- it doesn't put, set or remove the copy at a place of a session's queue, nor put or remove a session
abbrev pub is_apart : ℕ → ℕ → Change → Bool
is_apart birth place (PutSession row) = false
is_apart birth place (RemoveSession owner) = false
is_apart birth place (PutCopy owner row) = not (nat_eq owner birth && nat_eq row.place place)
is_apart birth place (SetCopy owner at phase) = not (nat_eq owner birth && nat_eq at place)
is_apart birth place (RemoveCopy owner gone) = not (nat_eq owner birth && nat_eq gone place)
is_apart birth place change = true

-- none of them does
abbrev pub AllApart : ℕ → ℕ → List Change → Type 0
AllApart birth place [] = Unit {0}
AllApart birth place (change ∷ changes) = (is_apart birth place change ≡ true) × AllApart birth place changes

-- a copy that is put is put in the phase; no other change is another one
abbrev pub put_in : Phase → Change → Change
put_in phase (PutCopy birth row) = PutCopy birth (in_phase phase row)
put_in phase change = change

-- it puts the copy at a place of a session's queue
pub record Puts (birth place : ℕ) (change : Change) : Type 0 where
  pub row : CopyRow
  pub is : change ≡ PutCopy birth row
  pub placed : row.place ≡ place

-- the copy at a place of a session's queue is put there, and no change behind has a part in it
pub record IsPutAt (birth place : ℕ) (changes : List Change) (at : ℕ) : Type 0 where
  pub before : List Change
  pub row : CopyRow
  pub behind : List Change
  pub made : changes ≡ before ++ PutCopy birth row ∷ behind
  pub there : at ≡ length before
  pub placed : row.place ≡ place
  pub apart : AllApart birth place behind

-- the last change sets the phase of the copy that is put there
pub record IsSentAt (changes : List Change) (at : ℕ) (phase : Phase) : Type 0 where
  pub birth : ℕ
  pub place : ℕ
  pub earlier : List Change
  pub made : changes ≡ earlier ++ SetCopy birth place phase ∷ []
  pub put : IsPutAt birth place earlier at
