-- The table of copies after one is put, set or removed, and after its session is removed.
use Rattle.std.proofs.Common.{◌≡◌, ◌≢◌, ℕ, ℤ, pos, Bool, true, false, List, ◌∷◌, refl, sym, ap, subst, ◌∙◌, true≢false}
use Rattle.std.specs.Prelude.{Option}
use Rattle.std.specs.Ordering.{is_eq}
use Rattle.std.proofs.lemmas.Bool.{false_from_ne_true}
use Rattle.std.proofs.lemmas.Cmp.{tied_itself}
use Rattle.sqlite_value.specs.declared.value.Value.TheVariants.{Int}
use Rattle.sqlite_value.specs.Order.{Row, column, value_cmp}
use Rattle.sqlite_value.proofs.OrderLemmas.{value_cmp_total}
use Rattle.sqlite_trees.specs.Tree.{Trees, rowid, has_rowid}
use Rattle.sqlite_rules.specs.Lists.{Has}
use Rattle.sqlite_rules.specs.Edit.{next_rowid}
use Rattle.sqlite_rules.proofs.PlaceLemmas.{tied_same}
use Rattle.mqtt_base.specs.declared.session.Phase.{Phase}
use Rattle.mqtt_records.specs.messages.Queue.{CopyRow}
use Rattle.mqtt_records.specs.declared.state.records.Records.{Records}
use Rattle.mqtt_records.specs.declared.state.change.Change.TheVariants.{PutCopy, SetCopy, RemoveCopy, RemoveSession}
use Rattle.mqtt_records.specs.state.Records.{changed, Fits}
use Rattle.mqtt_records.specs.state.Session.{in_phase}
use Rattle.mqtt_records.specs.state.Members.{InQueue, queue_of}
use Rattle.mqtt_store_tables.specs.declared.schema.tables.Making.{Making}
use Rattle.mqtt_store_tables.specs.statements.Layout.{second_layout}
use Rattle.mqtt_store_tables.specs.statements.Content.{is_of, without, IsShapedAt}
use Rattle.mqtt_store_tables.specs.statements.Copy.{number_or_null}
use Rattle.mqtt_store_tables.specs.statements.Put.{PutsInto, PutsNumbered, numbered}
use Rattle.mqtt_store_tables.specs.statements.Removal.{RemovesFrom, is_keyed}
use Rattle.mqtt_store_tables.proofs.statements_lemmas.steps.Stands.{given_free}
use Rattle.mqtt_store_tables.proofs.statements_lemmas.tables.Rows.{equal_is}
use Rattle.mqtt_store_tables.specs.messages.Places.{queued_tree}
use Rattle.mqtt_store_tables.specs.messages.Rows.{QueuedColumns, queued_row}
use Rattle.mqtt_store_tables.specs.messages.Copies.{set_queued, SetsQueued}
use Rattle.mqtt_store_database.specs.item_laws.Members.{IsKept, IsOther}
use Rattle.mqtt_store_database.specs.item_laws.Items.{packet_identifier, phase_number, release_order}
use Rattle.mqtt_store_database.specs.item_laws.Written.{AreWritten, IsCopyOf}
use Rattle.mqtt_store_database.proofs.item_laws_lemmas.records.Parts.{left_new, left_old}
use Rattle.mqtt_store_database.proofs.item_laws_lemmas.records.Queues.{put_new, put_old, set_new, set_old, removed_copy_new, removed_copy_old}
use Rattle.mqtt_store_database.proofs.item_laws_lemmas.tables.Keys.{missed_key, other_key, missed_number, other_number, number_found, same_number}
use Rattle.mqtt_store_database.proofs.item_laws_lemmas.tables.Kept.{Placed}
use Rattle.mqtt_store_database.proofs.item_laws_lemmas.tables.Single.{placed_put, placed_left}
use Rattle.mqtt_store_database.proofs.item_laws_lemmas.tables.Tables.{without_rows, with_row}
use Rattle.mqtt_store_database.specs.row_laws.Items.{IsQueuedRow, queued_columns}

-- a copy's row has the birth of its session
pub queued_birth : (x : ℕ × CopyRow) (row : Row) → IsQueuedRow x row → column row 1 ≡ Int (pos x.0)
queued_birth x row is = ap (λ (r : Row). column r 1) is.1

-- and its place
pub queued_place : (x : ℕ × CopyRow) (row : Row) → IsQueuedRow x row → column row 2 ≡ Int (pos x.1.place)
queued_place x row is = ap (λ (r : Row). column r 2) is.1

-- the row of the copy at a place is found by its key
pub queued_keyed : (x : ℕ × CopyRow) (row : Row) (birth place : ℕ) → IsQueuedRow x row → x.0 ≡ birth → x.1.place ≡ place → is_keyed (pos birth) (pos place) row ≡ true
queued_keyed x row birth place is b p = rw (number_found 1 x.0 birth row (queued_birth x row is) b, number_found 2 x.1.place place row (queued_place x row is) p) refl

-- a row with the columns of another handshake
abbrev set_row : Option ℕ → ℕ → Option ℕ → Row → Row
set_row pid phase rel (id ∷ birth ∷ place ∷ publication ∷ cause ∷ text ∷ n ∷ old_pid ∷ old_phase ∷ old_rel ∷ rest) =
    id ∷ birth ∷ place ∷ publication ∷ cause ∷ text ∷ n ∷ number_or_null pid ∷ Int (pos phase) ∷ number_or_null rel ∷ rest
set_row pid phase rel row = row

module _ (making : Making) (r : Records) (kept : IsKept r) (old new : Trees) (shaped : IsShapedAt old (queued_tree making)) (written : AreWritten IsQueuedRow (IsCopyOf r) (old (queued_tree making))) (birth place : ℕ) where
  abbrev tree : ℕ
  tree = queued_tree making

  abbrev Other : ℕ × CopyRow → Type 0
  Other x = IsOther x.0 x.1 birth place

  -- ---- put and removed

  abbrev key : Row → Bool
  key = is_keyed (pos birth) (pos place)

  out : (x : ℕ × CopyRow) (row : Row) → IsQueuedRow x row → key row ≡ false → Other x
  out x row is missed = missed_key x.0 x.1.place birth place row (queued_birth x row is) (queued_place x row is) missed

  stay : (x : ℕ × CopyRow) (row : Row) → IsQueuedRow x row → Other x → key row ≡ false
  stay x row is other = other_key x.0 x.1.place birth place row (queued_birth x row is) (queued_place x row is) other

  module _ (removes : RemovesFrom (second_layout making) tree key old new) where
    -- after a copy is removed, the table has the rows of the others
    pub removed_queued : AreWritten IsQueuedRow (IsCopyOf (changed (RemoveCopy birth place) r)) (new tree)
    removed_queued = without_rows IsQueuedRow (IsCopyOf r) (IsCopyOf (changed (RemoveCopy birth place) r)) Other key (old tree)
        (λ x row item there is missed. out x row is missed)
        (λ x row item there is other. stay x row is other)
        written (new tree) removes.rows
        (λ x n. removed_copy_new r kept birth place x.0 x.1 n)
        (λ x it. removed_copy_old r kept birth place x.0 x.1 it)

    -- and no two have one session and place
    pub removed_placed : Placed (old tree) → Placed (new tree)
    removed_placed was = placed_left key (old tree) (new tree) removes.rows was

  -- ---- set

  module _ (placed : Placed (old tree)) (phase : Phase) (id : ℤ) (c : QueuedColumns) (stood : Has (old tree) (Int id ∷ queued_row birth place c))
      (sets : SetsQueued making birth place (phase_number phase) (packet_identifier phase) (release_order phase) id c old new) where
    abbrev was : Row
    was = Int id ∷ queued_row birth place c

    abbrev pub now : Row
    now = Int id ∷ queued_row birth place (set_queued (packet_identifier phase) (phase_number phase) (release_order phase) c)

    abbrev gone : Row → Bool
    gone = has_rowid id

    -- what sets a copy puts its row in place of the one that stood
    pub puts : PutsInto (second_layout making) tree now (has_rowid id) old new
    puts = record { rows = sets.rows; others = sets.others }

    abbrev Set : ℕ × CopyRow → Type 0
    Set x = (y : CopyRow) × (x.0 ≡ birth) × (y.place ≡ place) × InQueue r x.0 y × (x.1 ≡ in_phase phase y)

    number_gone : (row : Row) → row ≡ was → gone row ≡ true
    number_gone row same = ap gone same ∙ ap is_eq (tied_itself value_cmp_total (Int id))

    -- the row with that key is the one that stood
    is_was : (row : Row) → Has (old tree) row → column row 1 ≡ Int (pos birth) → column row 2 ≡ Int (pos place) → row ≡ was
    is_was row there one two = placed row was there stood one two

    set_out : (x : ℕ × CopyRow) (row : Row) → Has (old tree) row → IsQueuedRow x row → gone row ≡ false → Other x
    set_out x row there is missed b p =
        let same = is_was row there (queued_birth x row is ∙ ap (λ (n : ℕ). Int (pos n)) b) (queued_place x row is ∙ ap (λ (n : ℕ). Int (pos n)) p) in
        true≢false (sym (number_gone row same) ∙ missed)

    set_stay : (x : ℕ × CopyRow) (row : Row) → Has (old tree) row → IsQueuedRow x row → Other x → gone row ≡ false
    set_stay x row there is other = false_from_ne_true (gone row) (λ found.
        let tied = equal_is (value_cmp (rowid row) (Int id)) found in
        let same : row ≡ was = tied_same (old tree) row was shaped.up there stood tied in
        other (same_number (sym (queued_birth x row is) ∙ ap (λ (a : Row). column a 1) same)) (same_number (sym (queued_place x row is) ∙ ap (λ (a : Row). column a 2) same)))

    -- the row that is put is the copy's in its new phase
    set_says : (x : ℕ × CopyRow) → Set x → IsQueuedRow x now
    set_says x set =
        let y = set.0 in
        let it = written.each (x.0, y) set.3 in
        let same = is_was it.0 it.1 (queued_birth (x.0, y) it.0 it.2 ∙ ap (λ (n : ℕ). Int (pos n)) set.1) (queued_place (x.0, y) it.0 it.2 ∙ ap (λ (n : ℕ). Int (pos n)) set.2) in
        let changed_row = ap (set_row (packet_identifier phase) (phase_number phase) (release_order phase)) (sym same ∙ it.2.1) in
        subst (λ (z : CopyRow). IsQueuedRow (x.0, z) now) (sym set.4) (it.2.0, changed_row)

    some_set : (x : ℕ × CopyRow) × Set x
    some_set =
        let it = written.only was stood in
        let b : it.0.0 ≡ birth = same_number (sym (queued_birth it.0 was it.2)) in
        let p : it.0.1.place ≡ place = same_number (sym (queued_place it.0 was it.2)) in
        ((it.0.0, in_phase phase it.0.1), (it.0.1, b, p, it.1, refl))

    -- after a copy's phase is set, the table has its row in this phase and the rows of the others
    pub set_queued_table : AreWritten IsQueuedRow (IsCopyOf (changed (SetCopy birth place phase) r)) (new tree)
    set_queued_table = with_row IsQueuedRow (IsCopyOf r) (IsCopyOf (changed (SetCopy birth place phase) r)) Other gone (old tree)
        (λ x row item there is missed. set_out x row there is missed)
        (λ x row item there is other. set_stay x row there is other)
        written Set tree now old new refl puts
        (λ row there missed. missed)
        some_set set_says
        (λ x n. set_new r kept birth place phase x.0 x.1 n)
        (λ x it. set_old r kept birth place phase x.0 x.1 it)

    -- and no two have one session and place
    pub set_placed : Placed (new tree)
    set_placed = placed_put tree now gone old new puts (λ b there missed one two. true≢false (sym (number_gone b (is_was b there one two)) ∙ missed)) placed

module _ (making : Making) (r : Records) (kept : IsKept r) (old new : Trees) (shaped : IsShapedAt old (queued_tree making)) (written : AreWritten IsQueuedRow (IsCopyOf r) (old (queued_tree making)))
    (birth : ℕ) (entry : CopyRow) (fits : Fits (PutCopy birth entry) r)
    (puts : PutsNumbered (second_layout making) (queued_tree making) (queued_row birth entry.place (queued_columns entry)) (is_keyed (pos birth) (pos entry.place)) old new) where
  abbrev put : Row
  put = numbered (queued_tree making) (queued_row birth entry.place (queued_columns entry)) old

  -- after a copy is put, the table has its row and the rows of the others
  pub put_queued_table : AreWritten IsQueuedRow (IsCopyOf (changed (PutCopy birth entry) r)) (new (queued_tree making))
  put_queued_table = with_row IsQueuedRow (IsCopyOf r) (IsCopyOf (changed (PutCopy birth entry) r)) (Other making r kept old new shaped written birth entry.place) (is_keyed (pos birth) (pos entry.place)) (old (queued_tree making))
      (λ x row item there is missed. out making r kept old new shaped written birth entry.place x row is missed)
      (λ x row item there is other. stay making r kept old new shaped written birth entry.place x row is other)
      written
      (λ x. (x.0 ≡ birth) × (x.1 ≡ entry)) (queued_tree making) put old new refl puts
      (given_free (queued_tree making) (queued_row birth entry.place (queued_columns entry)) (is_keyed (pos birth) (pos entry.place)) old shaped)
      ((birth, entry), (refl, refl))
      (λ x new. (next_rowid (old (queued_tree making)), rw (new.0, new.1) refl))
      (λ x n. put_new r kept birth entry fits x.0 x.1 n)
      (λ x it. put_old r kept birth entry fits x.0 x.1 it)

  -- and no two have one session and place
  pub put_placed : Placed (old (queued_tree making)) → Placed (new (queued_tree making))
  put_placed was = placed_put (queued_tree making) put (is_keyed (pos birth) (pos entry.place)) old new puts
      (λ b there missed one two. missed_key birth entry.place birth entry.place b one two missed refl refl) was

module _ (r : Records) (birth : ℕ) (old new : List Row) (left : new ≡ without 1 (pos birth) old) where
  -- after a session is removed, the table has the rows of the other sessions' copies
  pub ended_queued : AreWritten IsQueuedRow (IsCopyOf r) old → AreWritten IsQueuedRow (IsCopyOf (changed (RemoveSession birth) r)) new
  ended_queued written = without_rows IsQueuedRow (IsCopyOf r) (IsCopyOf (changed (RemoveSession birth) r)) (λ x. x.0 ≢ birth) (is_of 1 (pos birth)) old
      (λ x row item there is missed. missed_number 1 x.0 birth row (queued_birth x row is) missed)
      (λ x row item there is other. other_number 1 x.0 birth row (queued_birth x row is) other)
      written new left (λ x. left_new queue_of birth r.sessions x.0 x.1) (λ x. left_old queue_of birth r.sessions x.0 x.1)

  -- and no two have one session and place
  pub ended_placed : Placed old → Placed new
  ended_placed was = placed_left (is_of 1 (pos birth)) old new left was
