-- Copies that are put together are put one by one.
use Rattle.std.proofs.Common.{◌≡◌, ◌++◌, ℕ, Bool, true, false, List, [], ◌∷◌, Option, Some, None, Result, Ok, Err, IfOk, IsTrue, refl, sym, ap, ◌∙◌, subst, append_assoc}
use Rattle.std.proofs.lemmas.Result.{IfOk-weaker}
use Rattle.sqlite_value.specs.Order.{Row}
use Rattle.sqlite_trees.specs.Tree.{Trees}
use Rattle.sqlite_trees.specs.declared.store.Store.{Ghosts}
use Rattle.sqlite.specs.Held.{Held, state}
use Rattle.sqlite.specs.declared.error.Error.{Error}
use Rattle.mqtt_records.specs.messages.Queue.{CopyRow}
use Rattle.mqtt_records.specs.declared.state.change.Change.{Change}
use Rattle.mqtt_records.specs.declared.state.change.Change.TheVariants.{PutCopy}
use Rattle.mqtt_records.specs.state.Contents.{copy_message}
use Rattle.mqtt_store_tables.specs.declared.schema.tables.Making.{Making}
use Rattle.mqtt_store_tables.specs.statements.Content.{IsShapedAt}
use Rattle.mqtt_store_database.specs.written.Shortened.{goes_anyway, KnowsEnd}
use Rattle.mqtt_store_database.specs.declared.written.ending.Known.{Known}
use Rattle.mqtt_store_database.proofs.written_lemmas.Leads.{Leads, leads_on}
use Rattle.mqtt_store_tables.specs.messages.Places.{message_tree, queued_tree}
use Rattle.mqtt_store_tables.specs.messages.Rows.{QueuedColumns, queued_row}
use Rattle.mqtt_store_tables.specs.messages.Messages.{StandsIf}
use Rattle.mqtt_store_tables.specs.messages.Changing.{ChangesAs}
use Rattle.mqtt_store_tables.proofs.messages_lemmas.Behind.{message_shaped, queued_shaped}
use Rattle.mqtt_store_tables.specs.declared.messages.change.TableChange.TheVariants as table
use Rattle.mqtt_store_tables.specs.together.Together.{Coming, coming_row, coming_rows, ComeEach, InsertsEach}
use Rattle.mqtt_store_tables.proofs.together_lemmas.Further.{comes_further}
use Rattle.mqtt_store_database.specs.row_laws.Items.{message_columns, queued_columns}
use Rattle.mqtt_store_database.specs.committing.Making.{Makes, Needs, MakeAll}
use Rattle.mqtt_store_database.specs.committing.Together.{PutsFurther, PutFurther, PutsTogether, PutsFront, known_unless}

-- what was known of the changes to come is known of those that are left
pub knows_on : (known : Option Known) (put : Option ℕ) (next : Option Known) (after left : List Change) → next ≡ known_unless known put → KnowsEnd known after → (put ≡ None → left ≡ after) → KnowsEnd next left
knows_on known None next after left is knows none = rw (is, none refl) knows
knows_on known (Some n) next after left is knows none = rw is tt

module _ (making : Making) (known : Option ℕ) where
  -- copies that come one by one are what the changes make
  pub come_makes : (changes : List Change) (cs : List Coming) (old new : Trees) → PutFurther known changes cs → IsShapedAt old (message_tree making) → IsShapedAt old (queued_tree making) → StandsIf making known old
      → ComeEach making cs old new → MakeAll making changes old new × StandsIf making known new
  come_makes [] [] old new are messages copies stands same = (same, subst (StandsIf making known) (sym same) stands)
  come_makes [] (c ∷ cs) old new are messages copies stands h = absurd are
  come_makes (change ∷ changes) [] old new are messages copies stands h = absurd are
  come_makes (change ∷ changes) (c ∷ cs) old new are messages copies stands h =
      let row = are.0.0 in
      let named : known ≡ Some c.copy.publication = are.0.4 ∙ ap (λ (q : QueuedColumns). Some q.publication) (sym are.0.3) in
      let message = message_columns (copy_message row) in
      let it = comes_further making c.birth c.place message c.copy old h.0 messages copies (subst (λ (k : Option ℕ). StandsIf making k old) named stands) h.1 in
      let rest = come_makes changes cs h.0 new are.1 it.messages it.copies (subst (λ (k : Option ℕ). StandsIf making k h.0) (sym named) it.stands) h.2 in
      let put = table.PutCopy c.birth c.place message c.copy in
      let is : put ≡ table.PutCopy c.birth row.place message (queued_columns row) =
      ap (λ (place : ℕ). table.PutCopy c.birth place message c.copy) are.0.2 ∙ ap (λ (copy : QueuedColumns). table.PutCopy c.birth row.place message copy) are.0.3 in
      ((h.0, subst (λ (x : Change). Makes making x old h.0) (sym are.0.1) (put, is, it.does), rest.0), rest.1)

  -- changes that put further copies are all written: what is left behind them leads on
  pub leads_behind : (front left : List Change) (cs : List Coming) (whole : List Change) (old mid new : Trees) → PutFurther known front cs → MakeAll making front mid new → Leads (Needs making) (Makes making) whole (front ++ left) old mid
      → Leads (Needs making) (Makes making) whole left old new
  leads_behind [] left [] whole old mid new are same it = subst (Leads (Needs making) (Makes making) whole left old) (sym same) it
  leads_behind [] left (c ∷ cs) whole old mid new are made it = absurd are
  leads_behind (change ∷ front) left [] whole old mid new are made it = absurd are
  leads_behind (change ∷ front) left (c ∷ cs) whole old mid new are made it =
      let after = front ++ left in
      let written : false ≡ goes_anyway change after = subst (λ (x : Change). false ≡ goes_anyway x after) (sym are.0.1) refl in
      leads_behind front left cs whole old made.0 new are.1 made.2 (leads_on (Needs making) (Makes making) false whole change after (change ∷ after) old mid made.0 refl written it (λ needs. made.1))

  -- more changes behind some that put further copies
  pub further_then : (front more : List Change) (cs ds : List Coming) → PutFurther known front cs → PutFurther known more ds → PutFurther known (front ++ more) (cs ++ ds)
  further_then [] more [] ds are then = then
  further_then [] more (c ∷ cs) ds are then = absurd are
  further_then (change ∷ front) more [] ds are then = absurd are
  further_then (change ∷ front) more (c ∷ cs) ds are then = (are.0, further_then front more cs ds are.1 then)

  make_then : (front more : List Change) (old mid new : Trees) → MakeAll making front old mid → MakeAll making more mid new → MakeAll making (front ++ more) old new
  make_then [] more old mid new same made = subst (λ (db : Trees). MakeAll making more db new) same made
  make_then (change ∷ front) more old mid new made then = (made.0, made.1, make_then front more made.0 mid new made.2 then)

  -- nothing is put yet
  pub front_none : (changes : List Change) (db : Trees) → PutsFront making known changes changes db db
  front_none changes db = ([], refl, (([], tt), λ stands. (refl, stands)))

  -- four more behind those that were put
  pub front_then : (changes more left rest : List Change) (old mid new : Trees) → rest ≡ more ++ left → PutsFront making known changes rest old mid → PutsTogether making known more true mid new → PutsFront making known changes left old new
  front_then changes more left rest old mid new splits h then = (
    h.0 ++ more,
    h.1 ∙ (ap (λ (l : List Change). h.0 ++ l) splits ∙ sym (append_assoc h.0 more left)),
    (
      (h.2.0.0 ++ then.0.0, further_then h.0 more h.2.0.0 then.0.0 h.2.0.1 then.0.1),
      λ stands. let a = h.2.1 stands in let b = then.1 a.1 in (make_then h.0 more old mid new a.0 b.0, b.1),
    ),
  )

  -- a statement on copies does what its changes ask, or nothing
  pub inserts_make : (changes : List Change) (cs : List Coming) (done : Bool) (old new : Trees) → PutFurther known changes cs → IsShapedAt old (message_tree making) → IsShapedAt old (queued_tree making) → InsertsEach making cs done old new
      → PutsTogether making known changes done old new
  inserts_make changes cs true old new are messages copies come = ((cs, are), λ stands. come_makes changes cs old new are messages copies stands come)
  inserts_make changes cs false old new are messages copies same = same

  -- four changes put four copies
  pub four_are : (w x y z : Change) (cs : List Coming) → PutFurther known (w ∷ x ∷ y ∷ z ∷ []) cs → (a : Coming) × (b : Coming) × (c : Coming) × (d : Coming) × (cs ≡ a ∷ b ∷ c ∷ d ∷ [])
  four_are w x y z [] h = absurd h
  four_are w x y z (a ∷ []) h = absurd h.1
  four_are w x y z (a ∷ b ∷ []) h = absurd h.1.1
  four_are w x y z (a ∷ b ∷ c ∷ []) h = absurd h.1.1.1
  four_are w x y z (a ∷ b ∷ c ∷ d ∷ []) h = (a, b, c, d, refl)
  four_are w x y z (a ∷ b ∷ c ∷ d ∷ e ∷ more) h = absurd h.1.1.1.1

-- a copy whose columns were added is a further one
pub further_added : {E : Type 0} (known : Option ℕ) (change : Change) (birth : ℕ) (row : CopyRow) (r : Result Bool E) (old new : Row) → change ≡ PutCopy birth row → known ≡ Some row.copy.id.publication
    → IfOk r (λ done. IsTrue done → new ≡ old ++ queued_row birth row.place (queued_columns row)) → IfOk r (λ done. IsTrue done → (c : Coming) × PutsFurther known change c × (new ≡ old ++ coming_row c))
further_added known change birth row (Ok done) old new is named h = λ it.
    let c : Coming = record { birth = birth; place = row.place; copy = queued_columns row } in
    (c, (row, is, refl, refl, named), h it)
further_added known change birth row (Err e) old new is named h = tt

-- four that were added one after the other
pub four_added : (known : Option ℕ) (w x y z : Change) (old p q r new : Row) → ((c : Coming) × PutsFurther known w c × (p ≡ old ++ coming_row c)) → ((c : Coming) × PutsFurther known x c × (q ≡ p ++ coming_row c))
    → ((c : Coming) × PutsFurther known y c × (r ≡ q ++ coming_row c)) → ((c : Coming) × PutsFurther known z c × (new ≡ r ++ coming_row c)) → (cs : List Coming) × PutFurther known (w ∷ x ∷ y ∷ z ∷ []) cs × (new ≡ old ++ coming_rows cs)
four_added known w x y z old p q r new a b c d =
    let two : q ≡ old ++ (coming_row a.0 ++ coming_row b.0) = b.2 ∙ (ap (λ (l : Row). l ++ coming_row b.0) a.2 ∙ append_assoc old (coming_row a.0) (coming_row b.0)) in
    let three : r ≡ old ++ ((coming_row a.0 ++ coming_row b.0) ++ coming_row c.0) = c.2 ∙ (ap (λ (l : Row). l ++ coming_row c.0) two ∙ append_assoc old (coming_row a.0 ++ coming_row b.0) (coming_row c.0)) in
    (a.0 ∷ b.0 ∷ c.0 ∷ d.0 ∷ [], (a.1, (b.1, (c.1, (d.1, tt)))), d.2 ∙ (ap (λ (l : Row). l ++ coming_row d.0) three ∙ append_assoc old ((coming_row a.0 ++ coming_row b.0) ++ coming_row c.0) (coming_row d.0)))

-- a statement on four copies does what four changes ask, or nothing
pub four_written : {S : Type 0} (g : Ghosts S) (old new : Held S) (r : Result Bool Error) (known : Option ℕ) (w x y z : Change) (rows : Row) → (cs : List Coming) × PutFurther known (w ∷ x ∷ y ∷ z ∷ []) cs × (rows ≡ coming_rows cs)
    → ((a b c d : Coming) → rows ≡ coming_rows (a ∷ b ∷ c ∷ d ∷ []) → ChangesAs g old new r (λ making. InsertsEach making (a ∷ b ∷ c ∷ d ∷ [])))
    → ChangesAs g old new r (λ making. PutsTogether making known (w ∷ x ∷ y ∷ z ∷ []))
four_written g old new r known w x y z rows it h = λ making clean whole.
    let before = (state g old).now.trees in
    let after = (state g new).now.trees in
    let changes = w ∷ x ∷ y ∷ z ∷ [] in
    let four = four_are making known w x y z it.0 it.1 in
    let cs = four.0 ∷ four.1 ∷ four.2 ∷ four.3 ∷ [] in
    let put = h four.0 four.1 four.2 four.3 (it.2 ∙ ap coming_rows four.4) making clean whole in
    let are : PutFurther known changes cs = subst (λ (l : List Coming). PutFurther known changes l) four.4 it.1 in (
      IfOk-weaker r (λ (done : Bool). InsertsEach making cs done before after) (λ (done : Bool). PutsTogether making known changes done before after)
          (λ done made. inserts_make making known changes cs done before after are (message_shaped making (state g old) whole) (queued_shaped making (state g old) whole) made) put.0,
      put.1,
    )
