-- Which records a database of schema 2 has.
use Rattle.sqlite_trees.specs.Tree.{Trees}
use Rattle.mqtt_keep.specs.lawful.Lawful.{IsLawful}
use Rattle.mqtt_records.specs.declared.state.records.Records.{Records}
use Rattle.mqtt_store_tables.specs.declared.forms.schema.StoreTable.TheVariants.{Meta, Session, Will, Subscription, Inbound}
use Rattle.mqtt_store_tables.specs.declared.schema.tables.Making.{Making}
use Rattle.mqtt_store_database.specs.asking.Listing.{IsListing}
use Rattle.mqtt_store_rows.specs.rows.Gives.{Rows, Gives}
use Rattle.mqtt_store_database.specs.row_laws.Written.{HasNoOldRows}
use Rattle.mqtt_store_database.specs.declared.reading.reading.AddedTable.TheVariants.{Message, Queued, Kept}
use Rattle.mqtt_store_database.specs.reading.Listing.{IsAddedListing}

-- the rows of the tables that both schemas have
pub record AreSharedListed (db : Trees) (rows : Rows) : Type 0 where
  pub meta : IsListing Meta db rows.meta
  pub sessions : IsListing Session db rows.sessions
  pub wills : IsListing Will db rows.wills
  pub subscriptions : IsListing Subscription db rows.subscriptions
  pub inbound : IsListing Inbound db rows.inbound

-- the rows of the tables that schema 2 adds
pub record AreAddedListed (making : Making) (db : Trees) (rows : Rows) : Type 0 where
  pub messages : IsAddedListing making Message db rows.messages
  pub queued : IsAddedListing making Queued db rows.queued
  pub kept : IsAddedListing making Kept db rows.kept

-- the rows of all tables
pub record AreListedTwo (making : Making) (db : Trees) (rows : Rows) : Type 0 where
  pub shared : AreSharedListed db rows
  pub added : AreAddedListed making db rows
  pub old : HasNoOldRows making db

-- the rows of the tables give these records, and they are lawful
pub record HasRecordsTwo (making : Making) (db : Trees) (r : Records) : Type 0 where
  pub rows : Rows
  pub listed : AreListedTwo making db rows
  pub gives : Gives rows r
  pub lawful : IsLawful r
