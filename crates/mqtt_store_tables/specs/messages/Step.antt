-- What changes of the tables of schema 2 make of them.
use Rattle.std.specs.Prelude.{◌≡◌, ℕ, ℤ, pos, ◌<◌, ◌^◌, List, [], ◌∷◌, IfSome}
use Rattle.sqlite_value.specs.declared.value.Value.TheVariants.{Int}
use Rattle.sqlite_trees.specs.Tree.{Trees}
use Rattle.sqlite_rules.specs.Lists.{Has}
use Rattle.mqtt_store_tables.specs.declared.schema.tables.Making.{Making}
use Rattle.mqtt_store_tables.specs.statements.Layout.{second_layout}
use Rattle.mqtt_store_tables.specs.statements.Content.{is_of}
use Rattle.mqtt_store_tables.specs.statements.Removal.{is_keyed, is_subscription, RemovesFrom}
use Rattle.mqtt_store_tables.specs.statements.Columns.{session_row, will_row, subscription_row}
use Rattle.mqtt_store_tables.specs.statements.Numbers.{number_row, SetsNumber}
use Rattle.mqtt_store_tables.specs.statements.Put.{PutsInto, PutsNumbered, open_row}
use Rattle.mqtt_store_tables.specs.messages.Places.{queued_tree}
use Rattle.mqtt_store_tables.specs.messages.Rows.{QueuedColumns, queued_row, IsSized as IsSizedCopy}
use Rattle.mqtt_store_tables.specs.messages.Copies.{SetsQueued}
use Rattle.mqtt_store_tables.specs.messages.Endings.{EndsSession}
use Rattle.mqtt_store_tables.specs.messages.Comings.{PutsQueued, RemovesQueued, PutsKept, RemovesKept}
use Rattle.mqtt_store_tables.specs.messages.Letting.{LetsGo, PutsFirst}
use Rattle.mqtt_store_tables.specs.declared.messages.change.TableChange.{TableChange}
use Rattle.mqtt_store_tables.specs.declared.messages.change.TableChange.TheVariants.{SetNumber, PutSession, RemoveSession, PutWill, RemoveWill, PutSubscription, RemoveSubscription, PutOpen, RemoveOpen, PutCopy, SetCopy, RemoveCopy, PutRetained, RemoveRetained}

-- its numbers are such as SQL has
abbrev pub IsSized : TableChange → Type 0
IsSized (SetNumber name value) = value < 2 ^ 63
IsSized (PutSession birth session) = (birth < 2 ^ 63) × IfSome session.closed (λ n. n < 2 ^ 63)
IsSized (RemoveSession birth) = birth < 2 ^ 63
IsSized (PutWill birth will) = birth < 2 ^ 63
IsSized (RemoveWill birth) = birth < 2 ^ 63
IsSized (PutSubscription birth filter subscription) = (birth < 2 ^ 63) × subscription.place < 2 ^ 63
IsSized (RemoveSubscription birth filter) = birth < 2 ^ 63
IsSized (PutOpen birth identifier) = (birth < 2 ^ 63) × identifier < 2 ^ 63
IsSized (RemoveOpen birth identifier) = (birth < 2 ^ 63) × identifier < 2 ^ 63
IsSized (PutCopy birth place message copy) = (birth < 2 ^ 63) × (place < 2 ^ 63) × IsSizedCopy copy
IsSized (SetCopy birth place identifier phase order) =
    (birth < 2 ^ 63) × (place < 2 ^ 63) × IfSome identifier (λ n. n < 2 ^ 63) × IfSome order (λ n. n < 2 ^ 63)
IsSized (RemoveCopy birth place) = (birth < 2 ^ 63) × place < 2 ^ 63
IsSized (PutRetained place message kept) = (place < 2 ^ 63) × (kept.publication < 2 ^ 63) × kept.arrived < 2 ^ 63
IsSized (RemoveRetained place) = place < 2 ^ 63

-- what is set stands
abbrev pub Asks : Making → TableChange → Trees → Type 0
Asks making (SetNumber name value) db = (id : ℤ) × (n : ℕ) × Has (db 0) (Int id ∷ number_row name.now n)
Asks making (SetCopy birth place identifier phase order) db = (id : ℤ) × (c : QueuedColumns) × Has (db (queued_tree making)) (Int id ∷ queued_row birth place c)
Asks making (PutSession birth session) db = Unit {0}
Asks making (RemoveSession birth) db = Unit {0}
Asks making (PutWill birth will) db = Unit {0}
Asks making (RemoveWill birth) db = Unit {0}
Asks making (PutSubscription birth filter subscription) db = Unit {0}
Asks making (RemoveSubscription birth filter) db = Unit {0}
Asks making (PutOpen birth identifier) db = Unit {0}
Asks making (RemoveOpen birth identifier) db = Unit {0}
Asks making (PutCopy birth place message copy) db = Unit {0}
Asks making (RemoveCopy birth place) db = Unit {0}
Asks making (PutRetained place message kept) db = Unit {0}
Asks making (RemoveRetained place) db = Unit {0}

-- what it makes of the tables
abbrev pub Does : Making → TableChange → Trees → Trees → Type 0
Does making (SetNumber name value) old new =
    (id : ℤ) × (n : ℕ) × Has (old 0) (Int id ∷ number_row name.now n) × SetsNumber (second_layout making) name.now value id old new
Does making (PutSession birth session) old new = PutsInto (second_layout making) 2 (session_row birth session) (is_of 0 (pos birth)) old new
Does making (RemoveSession birth) old new = LetsGo making (EndsSession making (pos birth)) old new
Does making (PutWill birth will) old new = PutsInto (second_layout making) 4 (will_row birth will) (is_of 0 (pos birth)) old new
Does making (RemoveWill birth) old new = RemovesFrom (second_layout making) 4 (is_of 0 (pos birth)) old new
Does making (PutSubscription birth filter subscription) old new =
    PutsNumbered (second_layout making) 5 (subscription_row birth filter.now subscription) (is_subscription (pos birth) filter.now) old new
Does making (RemoveSubscription birth filter) old new = RemovesFrom (second_layout making) 5 (is_subscription (pos birth) filter.now) old new
Does making (PutOpen birth identifier) old new =
    PutsNumbered (second_layout making) 7 (open_row birth identifier) (is_keyed (pos birth) (pos identifier)) old new
Does making (RemoveOpen birth identifier) old new = RemovesFrom (second_layout making) 7 (is_keyed (pos birth) (pos identifier)) old new
Does making (PutCopy birth place message copy) old new =
    LetsGo making (PutsFirst making copy.publication message (PutsQueued making birth place copy)) old new
Does making (SetCopy birth place identifier phase order) old new =
    (id : ℤ) × (c : QueuedColumns) × Has (old (queued_tree making)) (Int id ∷ queued_row birth place c) × SetsQueued making birth place phase identifier order id c old new
Does making (RemoveCopy birth place) old new = LetsGo making (RemovesQueued making birth place) old new
Does making (PutRetained place message kept) old new =
    LetsGo making (PutsFirst making kept.publication message (PutsKept making place kept)) old new
Does making (RemoveRetained place) old new = LetsGo making (RemovesKept making place) old new

-- one after the other
abbrev pub DoAll : Making → List TableChange → Trees → Trees → Type 0
DoAll making [] old new = new ≡ old
DoAll making (first ∷ more) old new = (mid : Trees) × Does making first old mid × DoAll making more mid new

-- what each sets stands in what those before it leave
abbrev pub AskAll : Making → List TableChange → Trees → Type 0
AskAll making [] db = Unit {0}
AskAll making (first ∷ more) db = Asks making first db × ((mid : Trees) → Does making first db mid → AskAll making more mid)
