-- A database of schema 2 has the records that its rows give, and no other.
use Rattle.std.proofs.Common.{◌≡◌, List, refl, subst}
use Rattle.sqlite_value.specs.Order.{Row}
use Rattle.sqlite_trees.specs.Tree.{Trees}
use Rattle.mqtt_records.specs.declared.state.records.Records.{Records}
use Rattle.mqtt_store_rows.specs.values.Gives.{AreWithin}
use Rattle.mqtt_store_rows.proofs.values_lemmas.LawfulLemmas.{lawful_within}
use Rattle.mqtt_store_tables.specs.declared.schema.tables.Making.{Making}
use Rattle.mqtt_store_database.proofs.asking_lemmas.Unique.{one_listing}
use Rattle.mqtt_store_rows.specs.rows.Gives.{Rows, Gives}
use Rattle.mqtt_store_rows.proofs.rows_lemmas.OneLemmas.{one_records}
use Rattle.mqtt_store_database.specs.reading.Kept.{AreListedTwo, HasRecordsTwo}
use Rattle.mqtt_store_database.proofs.reading_lemmas.Rising.{all_rise}

abbrev rows_with : List Row → List Row → List Row → List Row → List Row → List Row → List Row → List Row → Rows
rows_with meta sessions wills subscriptions inbound messages queued kept =
    record { meta = meta; sessions = sessions; wills = wills; subscriptions = subscriptions; inbound = inbound; messages = messages; queued = queued; kept = kept }

same_rows : (a b c d e f g h i j k l m n o p : List Row) → a ≡ b → c ≡ d → e ≡ f → g ≡ h → i ≡ j → k ≡ l → m ≡ n → o ≡ p → rows_with a c e g i k m o ≡ rows_with b d f h j l n p
same_rows a b c d e f g h i j k l m n o p q r s t u v w x = rw (q, r, s, t, u, v, w, x) refl

-- what gives records is the only listing
pub listed_one : (making : Making) (db : Trees) (rows others : Rows) (r : Records) → AreListedTwo making db rows → AreListedTwo making db others → Gives others r → AreWithin r → rows ≡ others
listed_one making db rows others r h k gives within =
    let up = all_rise others r gives within in
    same_rows _ _ _ _ _ _ _ _ _ _ _ _ _ _ _ _
    (one_listing _ _ _ _ _ h.shared.meta k.shared.meta up.meta)
    (one_listing _ _ _ _ _ h.shared.sessions k.shared.sessions up.sessions)
    (one_listing _ _ _ _ _ h.shared.wills k.shared.wills up.parts.wills.1)
    (one_listing _ _ _ _ _ h.shared.subscriptions k.shared.subscriptions up.parts.subscriptions.1)
    (one_listing _ _ _ _ _ h.shared.inbound k.shared.inbound up.parts.inbound.1)
    (one_listing _ _ _ _ _ h.added.messages k.added.messages up.messages)
    (one_listing _ _ _ _ _ h.added.queued k.added.queued up.queued)
    (one_listing _ _ _ _ _ h.added.kept k.added.kept up.kept)

-- a database has one records alone
pub records_one : (making : Making) (db : Trees) (q r : Records) → HasRecordsTwo making db q → HasRecordsTwo making db r → q ≡ r
records_one making db q r h k =
    let same = listed_one making db h.rows k.rows r h.listed k.listed k.gives (lawful_within r k.lawful) in
    one_records k.rows q r (subst (λ rows. Gives rows q) same h.gives) (lawful_within q h.lawful) k.gives (lawful_within r k.lawful)
