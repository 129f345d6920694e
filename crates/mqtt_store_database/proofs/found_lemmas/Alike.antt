-- Records whose items have the same lines in the tables of schema 2 are the same.
use Rattle.std.proofs.Common.{◌≡◌, ℕ, refl, subst, sym, inl, inr, arith}
use Rattle.sqlite_trees.specs.Tree.{Trees}
use Rattle.mqtt_props.specs.Properties.{FitsBlock}
use Rattle.mqtt_records.specs.declared.messages.message.RetainedMessage.{RetainedMessage}
use Rattle.mqtt_records.specs.messages.Queue.{CopyRow}
use Rattle.mqtt_records.specs.declared.state.records.Records.{Records}
use Rattle.mqtt_records.specs.state.Records.{kept_place}
use Rattle.mqtt_records.specs.lists.Order.{IsAscending}
use Rattle.mqtt_records.specs.state.Members.{Has}
use Rattle.mqtt_records.specs.state.Contents.{StoredMessage, copy_message, retained_message, IsMessageOf, SharesContents}
use Rattle.mqtt_store_tables.specs.declared.schema.tables.Making.{Making}
use Rattle.mqtt_store_database.specs.item_laws.Members.{AllOrdered}
use Rattle.mqtt_store_database.specs.item_laws.Written.{AreSayable, IsCopyOf}
use Rattle.mqtt_store_database.proofs.item_laws_lemmas.records.Determined.{same_members}
use Rattle.mqtt_store_database.proofs.found_lemmas.both.Same.{at, same_number}
use Rattle.mqtt_store_database.proofs.found_lemmas.both.Table.{rewritten, same_item}
use Rattle.mqtt_store_database.proofs.found_lemmas.both.First.{HasFirstRows, HasFirstLines, first_shown, one_schema, first_alike}
use Rattle.mqtt_store_database.proofs.taking_over_lemmas.found.Alike.{AreDistinct as AreDistinctFirst}
use Rattle.mqtt_store_database.specs.row_laws.Written.{HasRowsTwo}
use Rattle.mqtt_store_database.specs.declared.reading.reading.AddedTable.TheVariants.{Message, Queued, Kept}
use Rattle.mqtt_store_database.specs.reading.Listing.{added_tree}
use Rattle.mqtt_store_database.proofs.found_lemmas.Lines.{shown, AreLined, message_line, queued_line, kept_line, message_shown, queued_shown, kept_shown}
use Rattle.mqtt_store_database.proofs.found_lemmas.Same.{message_same, queued_same, kept_same}

-- what the rows of the tables show is written from these records
pub record HasLines (making : Making) (db : Trees) (r : Records) : Type 0 where
  pub first : HasFirstLines 2 db r
  pub messages : AreLined making Message message_line (IsMessageOf r) db
  pub queued : AreLined making Queued queued_line (IsCopyOf r) db
  pub kept : AreLined making Kept kept_line (Has r.retained) db

-- they can say their items, and what is of one number says the same
pub record AreDistinct (making : Making) (db : Trees) (r : Records) : Type 0 where
  pub lines : HasLines making db r
  pub ordered : AllOrdered r
  pub by_place : IsAscending kept_place r.retained
  pub sayable : AreSayable r
  pub shared : SharesContents r

first_rows : (making : Making) (db : Trees) (r : Records) → HasRowsTwo making db r → HasFirstRows 2 db r
first_rows making db r h = record { meta = h.meta; sessions = h.sessions; wills = h.wills; subscriptions = h.subscriptions; inbound = h.inbound }

-- rows that are written from records show the lines of their items
pub rows_lined : (making : Making) (db : Trees) (r : Records) → HasRowsTwo making db r → HasLines making db r
rows_lined making db r h = record {
  first = first_shown 2 db r (first_rows making db r h);
  messages = rewritten _ _ _ _ (λ m row there. message_shown m row) h.messages;
  queued = rewritten _ _ _ _ (λ x row there. queued_shown x row) h.queued;
  kept = rewritten _ _ _ _ (λ m row there. kept_shown m row) h.kept;
}

-- ---- what one has, the other has

-- what is said has a spelling, if rows can say its items
said_fits : (r : Records) → AreSayable r → (m : StoredMessage) → IsMessageOf r m → FitsBlock m.properties
said_fits r sayable m (inl it) = subst (λ (l : StoredMessage). FitsBlock l.properties) (sym it.3) (sayable.copies it.0 it.1 it.2).spelled
said_fits r sayable m (inr it) = subst (λ (l : StoredMessage). FitsBlock l.properties) (sym it.2) (sayable.retained it.0 it.1)

module _ (making : Making) (db : Trees) (q r : Records) (h : AreDistinct making db q) (k : AreDistinct making db r) where
  message_to : (m : StoredMessage) → IsMessageOf q m → IsMessageOf r m
  message_to = same_item (shown Message) message_line (IsMessageOf q) (IsMessageOf r) (db (added_tree making Message)) h.lines.messages k.lines.messages
      (λ m n a b e. message_same m n (said_fits q h.sayable m a) (said_fits r k.sayable n b) e)

  -- what both say of one number is the same
  agree : (m n : StoredMessage) → IsMessageOf q m → IsMessageOf r n → m.publication ≡ n.publication → m ≡ n
  agree m n a b same = k.shared n b m (message_to m a) same

  copies_to : (x : ℕ × CopyRow) → IsCopyOf q x → IsCopyOf r x
  copies_to = same_item (shown Queued) queued_line (IsCopyOf q) (IsCopyOf r) (db (added_tree making Queued)) h.lines.queued k.lines.queued
      (λ x y a b e. queued_same x y (h.sayable.own x.0 x.1 a, h.sayable.copies x.0 x.1 a) (k.sayable.own y.0 y.1 b, k.sayable.copies y.0 y.1 b)
      (agree (copy_message x.1) (copy_message y.1) (inl (x.0, x.1, a, refl)) (inl (y.0, y.1, b, refl)) (same_number x.1.copy.id.publication y.1.copy.id.publication (at 2 _ _ e))) e)

  retained_to : (m : RetainedMessage) → Has q.retained m → Has r.retained m
  retained_to = same_item (shown Kept) kept_line (Has q.retained) (Has r.retained) (db (added_tree making Kept)) h.lines.kept k.lines.kept
      (λ m n a b e. kept_same m n (agree (retained_message m) (retained_message n) (inr (m, a, refl)) (inr (n, b, refl)) (same_number m.publication n.publication (at 3 _ _ e))) e)

-- records that the same tables show are the same
pub alike : (making : Making) (db : Trees) (q r : Records) → AreDistinct making db q → AreDistinct making db r → q ≡ r
alike making db q r h k =
    first_alike 2 db q r h.lines.first k.lines.first h.sayable k.sayable h.ordered k.ordered
    (λ b x. (copies_to making db q r h k (b, x), copies_to making db r q k h (b, x)))
    (same_members kept_place q.retained r.retained h.by_place k.by_place (retained_to making db q r h k) (retained_to making db r q k h))

-- tables aren't shown by records of both schemas
pub told_apart : (making : Making) (db : Trees) (q r : Records) → AreDistinctFirst db q → AreDistinct making db r → ⊥
told_apart making db q r h k = let same = one_schema 1 2 db q r h.lines.first k.lines.first in absurd (omega (arith, same))
