-- Records whose items have the same lines in the tables are the same.
use Rattle.std.proofs.Common.{◌≡◌, ℕ}
use Rattle.sqlite_trees.specs.Tree.{Trees}
use Rattle.mqtt_records.specs.declared.state.records.Records.{Records}
use Rattle.mqtt_records.specs.state.Records.{kept_place}
use Rattle.mqtt_records.specs.lists.Order.{IsAscending}
use Rattle.mqtt_records.specs.state.Members.{Has as HasItem}
use Rattle.mqtt_records.specs.declared.messages.message.RetainedMessage.{RetainedMessage}
use Rattle.mqtt_records.specs.messages.Queue.{CopyRow}
use Rattle.mqtt_store_tables.specs.declared.forms.schema.StoreTable.TheVariants.{Copy, Retained}
use Rattle.mqtt_store_database.specs.asking.Listing.{shown}
use Rattle.mqtt_store_database.specs.item_laws.Members.{AllOrdered}
use Rattle.mqtt_store_database.proofs.item_laws_lemmas.records.Determined.{same_members}
use Rattle.mqtt_store_database.specs.item_laws.Written.{AreSayable, IsCopyOf}
use Rattle.mqtt_store_database.specs.taking_over.Written.{HasRows}
use Rattle.mqtt_store_database.proofs.found_lemmas.both.Lines.{AreLined, copy_line, retained_line, copy_shown, retained_shown}
use Rattle.mqtt_store_database.proofs.found_lemmas.both.Same.{copy_same, retained_same}
use Rattle.mqtt_store_database.proofs.found_lemmas.both.Table.{rewritten, same_item}
use Rattle.mqtt_store_database.proofs.found_lemmas.both.First.{HasFirstRows, HasFirstLines, first_shown, first_alike}

-- what the rows of the tables show is written from these records
pub record HasLines (db : Trees) (r : Records) : Type 0 where
  pub first : HasFirstLines 1 db r
  pub copies : AreLined Copy copy_line (IsCopyOf r) db
  pub retained : AreLined Retained retained_line (HasItem r.retained) db

-- and they can say their items
pub record AreDistinct (db : Trees) (r : Records) : Type 0 where
  pub lines : HasLines db r
  pub ordered : AllOrdered r
  pub by_place : IsAscending kept_place r.retained
  pub sayable : AreSayable r

first_rows : (db : Trees) (r : Records) → HasRows db r → HasFirstRows 1 db r
first_rows db r h = record { meta = h.meta; sessions = h.sessions; wills = h.wills; subscriptions = h.subscriptions; inbound = h.inbound }

-- rows that are written from records show the lines of their items
pub rows_lined : (db : Trees) (r : Records) → HasRows db r → HasLines db r
rows_lined db r h = record {
  first = first_shown 1 db r (first_rows db r h);
  copies = rewritten _ _ _ _ (λ x row there. copy_shown x row) h.copies;
  retained = rewritten _ _ _ _ (λ x row there. retained_shown x row) h.retained;
}

module _ (db : Trees) (q r : Records) (h : AreDistinct db q) (k : AreDistinct db r) where
  copies_to : (x : ℕ × CopyRow) → IsCopyOf q x → IsCopyOf r x
  copies_to = same_item (shown Copy) copy_line (IsCopyOf q) (IsCopyOf r) (db 9) h.lines.copies k.lines.copies
      (λ x y a b e. copy_same x y (h.sayable.own x.0 x.1 a, h.sayable.copies x.0 x.1 a) (k.sayable.own y.0 y.1 b, k.sayable.copies y.0 y.1 b) e)

  retained_to : (x : RetainedMessage) → HasItem q.retained x → HasItem r.retained x
  retained_to = same_item (shown Retained) retained_line (HasItem q.retained) (HasItem r.retained) (db 11) h.lines.retained k.lines.retained
      (λ x y a b e. retained_same x y (h.sayable.retained x a) (k.sayable.retained y b) e)

-- records that the same tables show are the same
pub alike : (db : Trees) (q r : Records) → AreDistinct db q → AreDistinct db r → q ≡ r
alike db q r h k =
    first_alike 1 db q r h.lines.first k.lines.first h.sayable k.sayable h.ordered k.ordered
    (λ b x. (copies_to db q r h k (b, x), copies_to db r q k h (b, x)))
    (same_members kept_place q.retained r.retained h.by_place k.by_place (retained_to db q r h k) (retained_to db r q k h))
