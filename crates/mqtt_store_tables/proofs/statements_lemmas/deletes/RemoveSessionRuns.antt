-- The DELETE of a session finds its row, and takes it out.
use Rattle.std.proofs.Common.{◌≡◌, ℤ, List, [], ◌∷◌, filter, map, sym, ap, ◌∙◌, subst, inl, inr}
use Rattle.std.specs.List.Sorted.{IsPermutation}
use Rattle.sqlite_value.specs.declared.value.Value.TheVariants.{Int}
use Rattle.sqlite_value.specs.Order.{Row}
use Rattle.sqlite_trees.specs.Tree.{Trees, rowid}
use Rattle.sqlite_rules.specs.Lists.{Has}
use Rattle.sqlite_rules.specs.Edit.{without_all}
use Rattle.sqlite_rules.proofs.ListLemmas.{all_has}
use Rattle.sqlite.specs.Term.{col}
use Rattle.sqlite.specs.Query.{IsAnswer}
use Rattle.sqlite_sql.specs.Program.{overlay}
use Rattle.sqlite.proofs.Callers.{one_permutation}
use Rattle.mqtt_store_tables.specs.statements.Content.{is_of, without, IsShapedAt}
use Rattle.mqtt_store_tables.proofs.statements_lemmas.tables.Rows.{without_those}
use Rattle.mqtt_store_tables.proofs.statements_lemmas.tables.Commands.{over, equals}
use Rattle.mqtt_store_tables.proofs.statements_lemmas.tables.Parts.{passes, shows, answers_over}
use Rattle.mqtt_store_tables.proofs.statements_lemmas.deletes.RemoveSession.{only_row}
use Rattle.mqtt_store_tables.proofs.statements_lemmas.deletes.RemovesSession.{and_true, tied_ids, is_own}

module _ (birth : ℤ) (db after : Trees) (one : Row) (shaped : IsShapedAt db 2) (has : Has (db 2) one) (is : rowid one ≡ Int birth) where
  alone : filter (passes (Int birth ∷ []) (equals 0 0 ∷ [])) (db 2) ≡ one ∷ []
  alone = only_row (db 2) (passes (Int birth ∷ []) (equals 0 0 ∷ [])) one shaped.up has (and_true (is_of 0 birth one) ∙ is_own one birth is)
      (λ r h p. tied_ids (rowid r) (rowid one) birth (all_has _ (db 2) r shaped.ints h) (all_has _ (db 2) one shaped.ints has) (sym (and_true (is_of 0 birth r)) ∙ p) (is_own one birth is))

  -- the DELETE of a session finds its row alone
  pub found : (rows : List Row) → IsAnswer (over 2 (equals 0 0 ∷ []) (col 1 0 ∷ [])) (overlay db []) (Int birth ∷ []) rows → rows ≡ (Int birth ∷ []) ∷ []
  found rows a =
      let p : IsPermutation ((rowid one ∷ []) ∷ []) rows = subst (λ l. IsPermutation (map (shows (Int birth ∷ []) (col 1 0 ∷ [])) l) rows) alone (answers_over 2 (equals 0 0 ∷ []) (col 1 0 ∷ []) db (Int birth ∷ []) rows a) in
      one_permutation (rowid one ∷ []) rows p ∙ ap (λ v. (v ∷ []) ∷ []) is

  -- to take out the row with that rowid is to take out the session's row
  pub went_out : without_all (db 2) (birth ∷ []) ≡ without 0 birth (db 2)
  went_out = without_those (is_of 0 birth) (db 2) (birth ∷ []) shaped.up shaped.ints
      (λ id h. elim h [ inl same ↦ (one, has, is_own one birth is, is ∙ ap Int (sym same)) | inr none ↦ absurd none ])
      (λ r id h p there.
      let tie = tied_ids (rowid r) (rowid one) birth (all_has _ (db 2) r shaped.ints h) (all_has _ (db 2) one shaped.ints has) p (is_own one birth is) in
      let same : r ≡ one = Rattle.sqlite_rules.proofs.PlaceLemmas.tied_same (db 2) r one shaped.up h has tie in
      let numbers : Int id ≡ Int birth = sym there ∙ (ap rowid same ∙ is) in
      inl (cc))
