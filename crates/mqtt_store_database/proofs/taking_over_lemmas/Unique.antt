-- A database of schema 1 has the records that its rows give, and no other.
use Rattle.std.proofs.Common.{List, [], ◌∷◌, ◌≡◌, refl, subst}
use Rattle.sqlite_value.specs.Order.{Row}
use Rattle.mqtt_records.specs.declared.messages.message.RetainedMessage.{RetainedMessage}
use Rattle.mqtt_records.specs.state.Records.{kept_place}
use Rattle.mqtt_records.specs.lists.Order.{IsAscending}
use Rattle.mqtt_store_rows.specs.taking_over.Rows.{SaysRetained}
use Rattle.mqtt_store_rows.specs.values.Lists.{AreRows}
use Rattle.mqtt_store_database.proofs.asking_lemmas.Rising.{Rise, rows_rise, all_counted, parts_rise, columns_rise}
use Rattle.sqlite_trees.specs.Tree.{Trees}
use Rattle.mqtt_records.specs.declared.state.records.Records.{Records}
use Rattle.mqtt_store_rows.specs.values.Gives.{Parts, AreWithin, counters_of}
use Rattle.mqtt_store_rows.specs.taking_over.Gives.{Rows, Gives}
use Rattle.mqtt_store_rows.proofs.values_lemmas.LawfulLemmas.{lawful_within}
use Rattle.mqtt_store_database.specs.taking_over.Kept.{AreListed, HasRecords}
use Rattle.mqtt_store_rows.proofs.taking_over_lemmas.OneLemmas as load
use Rattle.mqtt_store_database.proofs.asking_lemmas.Unique.{numbers_rise, one_listing}

-- rows of retained messages rise by place
pub retained_rise : (rows : List Row) (all : List RetainedMessage) → AreRows SaysRetained rows all → IsAscending kept_place all → Rise (0 ∷ []) rows
retained_rise = rows_rise SaysRetained kept_place (λ x r h. h.place)

same_parts : (a b c d e f g h : List Row) → a ≡ b → c ≡ d → e ≡ f → g ≡ h
    → ◌≡◌ {A = Parts} (record { wills = a; subscriptions = c; inbound = e; copies = g }) (record { wills = b; subscriptions = d; inbound = f; copies = h })
same_parts a b c d e f g h p q r s = rw (p, q, r, s) refl

same_rows : (a b c d : List Row) (p q : Parts) (e f : List Row) → a ≡ b → c ≡ d → p ≡ q → e ≡ f
    → ◌≡◌ {A = Rows} (record { meta = a; sessions = c; parts = p; retained = e }) (record { meta = b; sessions = d; parts = q; retained = f })
same_rows a b c d p q e f h i j k = rw (h, i, j, k) refl

-- what gives records is the only listing
pub listed_one : (db : Trees) (rows others : Rows) (r : Records) → AreListed db rows → AreListed db others → Gives others r → AreWithin r → rows ≡ others
listed_one db rows others r h k gives within =
    let parts = parts_rise 0 others.sessions others.parts r.sessions gives.sessions (all_counted others.sessions others.parts r.sessions gives.sessions) within.sessions.ascending within.each in
    same_rows _ _ _ _ _ _ _ _
    (one_listing _ _ _ _ _ h.meta k.meta (numbers_rise 1 (counters_of r) others.meta gives.numbers))
    (one_listing _ _ _ _ _ h.sessions k.sessions (columns_rise others.sessions others.parts r.sessions gives.sessions within.sessions.ascending))
    (same_parts _ _ _ _ _ _ _ _
    (one_listing _ _ _ _ _ h.parts.wills k.parts.wills parts.wills.1)
    (one_listing _ _ _ _ _ h.parts.subscriptions k.parts.subscriptions parts.subscriptions.1)
    (one_listing _ _ _ _ _ h.parts.inbound k.parts.inbound parts.inbound.1)
    (one_listing _ _ _ _ _ h.parts.copies k.parts.copies parts.copies.1))
    (one_listing _ _ _ _ _ h.retained k.retained (retained_rise others.retained r.retained gives.retained within.retained.ascending))

-- a database has one records alone
pub records_one : (db : Trees) (q r : Records) → HasRecords db q → HasRecords db r → q ≡ r
records_one db q r h k =
    let same = listed_one db h.rows k.rows r h.listed k.listed k.gives (lawful_within r k.lawful) in
    load.one_records k.rows q r (subst (λ rows. Gives rows q) same h.gives) (lawful_within q h.lawful) k.gives (lawful_within r k.lawful)
