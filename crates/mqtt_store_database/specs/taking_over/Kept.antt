-- Which records a database of schema 1 has.
use Rattle.sqlite_trees.specs.Tree.{Trees}
use Rattle.mqtt_keep.specs.lawful.Lawful.{IsLawful}
use Rattle.mqtt_records.specs.declared.state.records.Records.{Records}
use Rattle.mqtt_store_rows.specs.values.Gives.{Parts}
use Rattle.mqtt_store_rows.specs.taking_over.Gives.{Rows, Gives}
use Rattle.mqtt_store_tables.specs.declared.forms.schema.StoreTable.TheVariants.{Meta, Session, Will, Subscription, Inbound, Copy, Retained}
use Rattle.mqtt_store_database.specs.asking.Listing.{IsListing}

-- the rows of the tables of what sessions have
pub record ArePartsListed (db : Trees) (parts : Parts) : Type 0 where
  pub wills : IsListing Will db parts.wills
  pub subscriptions : IsListing Subscription db parts.subscriptions
  pub inbound : IsListing Inbound db parts.inbound
  pub copies : IsListing Copy db parts.copies

-- the rows of all tables
pub record AreListed (db : Trees) (rows : Rows) : Type 0 where
  pub meta : IsListing Meta db rows.meta
  pub sessions : IsListing Session db rows.sessions
  pub parts : ArePartsListed db rows.parts
  pub retained : IsListing Retained db rows.retained

-- the rows of the tables give these records, and they are lawful
pub record HasRecords (db : Trees) (r : Records) : Type 0 where
  pub rows : Rows
  pub listed : AreListed db rows
  pub gives : Gives rows r
  pub lawful : IsLawful r
