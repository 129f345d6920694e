-- The tables with all copies and retained messages put into them.
use Rattle.std.proofs.Common.{ℕ, List, [], ◌∷◌, ◌++◌, map, Ok, Err, Result, OnOk, refl, subst, inl, inr}
use Rattle.std.specs.Prelude.{flat_map}
use Rattle.sqlite_trees.specs.Tree.{Trees}
use Rattle.sqlite.specs.State.{State}
use Rattle.sqlite.specs.declared.error.Error.{Error}
use Rattle.mqtt_records.specs.declared.messages.message.RetainedMessage.{RetainedMessage}
use Rattle.mqtt_records.specs.messages.Queue.{CopyRow}
use Rattle.mqtt_records.specs.declared.state.change.Change.{Change}
use Rattle.mqtt_records.specs.declared.state.change.Change.TheVariants.{PutCopy, PutRetained}
use Rattle.mqtt_records.specs.declared.state.records.Records.{Records}
use Rattle.mqtt_records.specs.declared.state.session.Session.{Session}
use Rattle.mqtt_records.specs.state.Members.{Has}
use Rattle.mqtt_keep.specs.lawful.Lawful.{IsLawful}
use Rattle.mqtt_store_tables.specs.declared.schema.tables.Making.TheVariants.{TakenOver}
use Rattle.mqtt_store_tables.specs.statements.Content.{IsWhole}
use Rattle.mqtt_store_database.specs.item_laws.Written.{AllSayable, AreSayable, IsSayableCopy, IsSayableRetained}
use Rattle.mqtt_store_database.specs.row_laws.Written.{KeepsRowsTwo, AreInOrderTwo}
use Rattle.mqtt_store_database.specs.committing.Making.{MakeAll}
use Rattle.mqtt_store_database.proofs.committing_lemmas.Kept.{makes_keep}
use Rattle.mqtt_store_database.specs.taking_over.Puts.{emptied, queue_puts, puts_of}
use Rattle.mqtt_store_database.proofs.taking_over_lemmas.puts.Lawful.{lawful_rows}
use Rattle.mqtt_store_database.proofs.taking_over_lemmas.puts.Refilled.{refilled}
use Rattle.mqtt_store_database.proofs.taking_over_lemmas.tables.Bare.{order_of_whole}
use Rattle.mqtt_store_database.proofs.taking_over_lemmas.tables.Emptied.{second}

both_sayable : (changes more : List Change) → AllSayable changes → AllSayable more → AllSayable (changes ++ more)
both_sayable [] more one two = two
both_sayable (c ∷ changes) more one two = (one.0, both_sayable changes more one.1 two)

queue_sayable : (birth : ℕ) (queue : List CopyRow) → ((x : CopyRow) → Has queue x → IsSayableCopy x.copy) → AllSayable (map (PutCopy birth) queue)
queue_sayable birth [] says = tt
queue_sayable birth (x ∷ queue) says = (says x (inl refl), queue_sayable birth queue (λ y later. says y (inr later)))

sessions_sayable : (sessions : List Session) → ((s : Session) (x : CopyRow) → Has sessions s → Has s.queue x → IsSayableCopy x.copy) → AllSayable (flat_map queue_puts sessions)
sessions_sayable [] says = tt
sessions_sayable (s ∷ sessions) says =
    both_sayable (queue_puts s) (flat_map queue_puts sessions) (queue_sayable s.birth s.queue (λ x there. says s x (inl refl) there)) (sessions_sayable sessions (λ t x later there. says t x (inr later) there))

retained_sayable : (retained : List RetainedMessage) → ((x : RetainedMessage) → Has retained x → IsSayableRetained x) → AllSayable (map PutRetained retained)
retained_sayable [] says = tt
retained_sayable (m ∷ retained) says = (says m (inl refl), retained_sayable retained (λ x later. says x (inr later)))

-- rows can say what is put
puts_sayable : (r : Records) → AreSayable r → AllSayable (puts_of r)
puts_sayable r says = both_sayable (flat_map queue_puts r.sessions) (map PutRetained r.retained) (sessions_sayable r.sessions (λ s x has there. says.copies s.birth x (s, has, refl, there)))
    (retained_sayable r.retained says.retained)

-- with all copies and retained messages put, what the tables keep is the records
pub filled_keeps : (db next : Trees) (r : Records) → IsLawful r → AreSayable r → KeepsRowsTwo TakenOver db (emptied r) → AreInOrderTwo TakenOver db → MakeAll TakenOver (puts_of r) db next → KeepsRowsTwo TakenOver next r
filled_keeps db next r lawful says keeps order makes =
    let made = refilled r (lawful_rows r lawful) in
    subst (KeepsRowsTwo TakenOver next) made.ends (makes_keep TakenOver (puts_of r) db next (emptied r) keeps order made.fits made.agrees (puts_sayable r says) makes).0

-- if that is done, they keep the records
pub filled : (mid new : State) (r : Records) (result : Result (Unit {0}) Error) → IsLawful r → AreSayable r → KeepsRowsTwo TakenOver mid.now.trees (emptied r) → IsWhole second mid
    → OnOk result (MakeAll TakenOver (puts_of r) mid.now.trees new.now.trees) → OnOk result (KeepsRowsTwo TakenOver new.now.trees r)
filled mid new r (Err e) lawful says keeps whole makes = tt
filled mid new r (Ok done) lawful says keeps whole makes = filled_keeps mid.now.trees new.now.trees r lawful says keeps (order_of_whole mid whole) makes
