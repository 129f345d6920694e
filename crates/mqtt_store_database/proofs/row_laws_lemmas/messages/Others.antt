-- A change that leaves queues and retained messages alone leaves what is said.
use Rattle.std.proofs.Common.{◌≡◌, ℕ, List, refl, sym, subst, inl, inr}
use Rattle.mqtt_records.specs.declared.messages.message.RetainedMessage.{RetainedMessage}
use Rattle.mqtt_records.specs.messages.Queue.{CopyRow}
use Rattle.mqtt_records.specs.declared.state.session.Session.{Session}
use Rattle.mqtt_records.specs.declared.state.session.Columns.{Columns}
use Rattle.mqtt_records.specs.declared.state.change.Counter.{Counter}
use Rattle.mqtt_records.specs.declared.state.change.Counter.TheVariants.{Births, Publications, Subscribes, Autos, Moment}
use Rattle.mqtt_records.specs.declared.state.change.Change.TheVariants.{PutSession}
use Rattle.mqtt_records.specs.declared.state.records.Records.{Records}
use Rattle.mqtt_records.specs.state.Records.{changed, Fits, in_session, with_counter}
use Rattle.mqtt_records.specs.state.Session.{birth_of}
use Rattle.mqtt_records.specs.lists.Order.{IsAscending}
use Rattle.mqtt_records.specs.state.Members.{Has, InQueue, queue_of}
use Rattle.mqtt_records.specs.state.Contents.{StoredMessage, IsMessageOf, SharesContents}
use Rattle.mqtt_keep.proofs.contents_lemmas.Shared.{shared_less}
use Rattle.mqtt_store_database.proofs.item_laws_lemmas.records.Parts.{part_new, part_old, put_part_new, put_part_old}

-- the same copies are queued, and the same messages retained
pub record SameItems (q r : Records) : Type 0 where
  pub new : (b : ℕ) (x : CopyRow) → InQueue r b x → InQueue q b x
  pub old : (b : ℕ) (x : CopyRow) → InQueue q b x → InQueue r b x
  pub retained : r.retained ≡ q.retained

module _ (q r : Records) (same : SameItems q r) where
  -- what is said after such a change was said before
  pub same_said : (m : StoredMessage) → IsMessageOf r m → IsMessageOf q m
  same_said m (inl it) = inl (it.0, it.1, same.new it.0 it.1 it.2, it.3)
  same_said m (inr it) = inr (it.0, subst (λ (l : List RetainedMessage). Has l it.0) same.retained it.1, it.2)

  -- and what was said is said
  pub same_says : (m : StoredMessage) → IsMessageOf q m → IsMessageOf r m
  same_says m (inl it) = inl (it.0, it.1, same.old it.0 it.1 it.2, it.3)
  same_says m (inr it) = inr (it.0, subst (λ (l : List RetainedMessage). Has l it.0) (sym same.retained) it.1, it.2)

-- a change that leaves queues and retained messages alone leaves contents shared
pub same_shared : (r after : Records) → SameItems r after → SharesContents r → SharesContents after
same_shared r after same shared = shared_less r after shared (same_said r after same)

-- a change of a session leaves them alone if it leaves its queue alone
pub edited_items : (birth : ℕ) (f : Session → Session) (r : Records) → IsAscending birth_of r.sessions → ((s : Session) → (f s).birth ≡ s.birth) → ((s : Session) → queue_of (f s) ≡ queue_of s) → SameItems r (in_session birth f r)
edited_items birth f r up births same = record {
  new = λ b x. part_new birth f r.sessions up births queue_of same b x;
  old = λ b x. part_old birth f r.sessions up births queue_of same b x;
  retained = refl;
}

-- so does a session's own row that is put
pub session_items : (row : Columns) (r : Records) → IsAscending birth_of r.sessions → Fits (PutSession row) r → SameItems r (changed (PutSession row) r)
session_items row r up fits = record {
  new = λ b x. put_part_new row r.sessions up fits.0 queue_of (λ s. refl) refl b x;
  old = λ b x. put_part_old row r.sessions up fits.0 queue_of (λ s. refl) refl b x;
  retained = refl;
}

-- so does a number that is set
pub counter_items : (counter : Counter) (value : ℕ) (r : Records) → SameItems r (with_counter counter value r)
counter_items Births value r = record { new = λ b x h. h; old = λ b x h. h; retained = refl }
counter_items Publications value r = record { new = λ b x h. h; old = λ b x h. h; retained = refl }
counter_items Subscribes value r = record { new = λ b x h. h; old = λ b x h. h; retained = refl }
counter_items Autos value r = record { new = λ b x h. h; old = λ b x h. h; retained = refl }
counter_items Moment value r = record { new = λ b x h. h; old = λ b x h. h; retained = refl }
