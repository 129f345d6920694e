-- What changes make of the tables that are written one after the other, if none asks for anything.
use Rattle.std.proofs.Common.{◌≡◌, ℕ, List, [], ◌∷◌, ◌++◌, length, refl, sym, subst}
use Rattle.sqlite_trees.specs.Tree.{Trees}
use Rattle.mqtt_records.specs.declared.messages.message.RetainedMessage.{RetainedMessage}
use Rattle.mqtt_records.specs.messages.Queue.{CopyRow}
use Rattle.mqtt_records.specs.declared.state.change.Change.{Change}
use Rattle.mqtt_records.specs.declared.state.change.Change.TheVariants.{PutCopy, PutRetained}
use Rattle.mqtt_store_tables.specs.declared.schema.tables.Making.{Making}
use Rattle.mqtt_store_tables.specs.messages.Step.{Asks}
use Rattle.mqtt_store_tables.specs.declared.messages.change.TableChange.{TableChange}
use Rattle.mqtt_store_database.specs.committing.Making.{Makes, MakeAll, Needs}

module _ (making : Making) where
  -- a copy that is put asks for nothing
  pub copy_needs : (birth : ℕ) (row : CopyRow) (db : Trees) → Needs making (PutCopy birth row) db
  copy_needs birth row db it is = subst (λ (t : TableChange). Asks making t db) (sym is) tt

  -- nor does a retained message
  pub retained_needs : (kept : RetainedMessage) (db : Trees) → Needs making (PutRetained kept) db
  retained_needs kept db it is = subst (λ (t : TableChange). Asks making t db) (sym is) tt

  -- some are made, and then others
  pub make_then : (some more : List Change) (old mid new : Trees) → MakeAll making some old mid → MakeAll making more mid new → MakeAll making (some ++ more) old new
  make_then [] more old mid new same rest = subst (λ (db : Trees). MakeAll making more db new) same rest
  make_then (change ∷ some) more old mid new one rest = (one.0, one.1, make_then some more one.0 mid new one.2 rest)

  -- with the rest made behind what was made, all are made
  abbrev pub Leads : List Change → List Change → Trees → Trees → Type 0
  Leads all rest old now = (end : Trees) → MakeAll making rest now end → MakeAll making all old end

  -- once the next are made, the others are left
  pub leads_on : (all rest some more : List Change) (old mid new : Trees) → rest ≡ some ++ more → Leads all rest old mid → MakeAll making some mid new → Leads all more old new
  leads_on all rest some more old mid new splits leads made end then = leads end (subst (λ (l : List Change). MakeAll making l mid end) (sym splits) (make_then some more mid new end made then))

  -- once the next one is made
  pub leads_one : (all rest : List Change) (change : Change) (more : List Change) (old mid new : Trees) → rest ≡ change ∷ more → Leads all rest old mid → Makes making change mid new → Leads all more old new
  leads_one all rest change more old mid new splits leads made = leads_on all rest (change ∷ []) more old mid new splits leads (new, made, refl)

  -- once none is left, all are made
  pub leads_end : {X : Type 0} (changes_of : List X → List Change) (all : List Change) (rest : List X) (old now : Trees) → changes_of [] ≡ [] → length rest ≡ 0 → Leads all (changes_of rest) old now → MakeAll making all old now
  leads_end changes_of all [] old now none ends leads = leads now (subst (λ (l : List Change). MakeAll making l now now) (sym none) refl)
  leads_end changes_of all (x ∷ rest) old now none ends leads = absurd cc
