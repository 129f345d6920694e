-- Numbers as the tables keep, compare and bind them.
use Rattle.std.proofs.Common.{◌≡◌, ℕ, ℤ, pos, Bool, true, false, ◌&&◌, cond, List, [], ◌∷◌, option_map, Option, Some, None, Result, refl, sym, ap, ◌∙◌, subst, inl, inr, true≢false, Equal}
use Rattle.std.specs.Ordering.{is_eq}
use Rattle.std.proofs.lemmas.Cmp.{tied_itself}
use Rattle.std.proofs.lemmas.Bool.{false_from_ne_true, and_parts, and_from}
use Rattle.sqlite_value.specs.declared.value.Value.{Value}
use Rattle.sqlite_value.specs.declared.value.Value.TheVariants.{Null, Int}
use Rattle.sqlite_value.specs.declared.keys.Collation.TheVariants.{Binary}
use Rattle.sqlite_value.specs.Order.{Row, value_cmp}
use Rattle.sqlite_value.proofs.OrderLemmas.{value_cmp_total}
use Rattle.sqlite_trees.specs.Tree.{Trees, rowid}
use Rattle.sqlite_schema.specs.Rules.{equal, Obeys}
use Rattle.sqlite_rules.specs.Lists.{Has}
use Rattle.sqlite_rules.proofs.ListLemmas.{all_has}
use Rattle.sqlite_rules.proofs.TableLemmas.{int_is}
use Rattle.sqlite_rules.proofs.PlaceLemmas.{tied_same}
use Rattle.sqlite.specs.State.{State}
use Rattle.sqlite_value.specs.Keys.{plain, first_key}
use Rattle.sqlite_sql.specs.Ops.{unary, binary}
use Rattle.sqlite_schema.specs.Rules.{differ, agree}
use Rattle.sqlite_schema.specs.declared.schema.Constraint.TheVariants.{Unique}
use Rattle.sqlite_schema.specs.declared.schema.Kind.TheVariants.{Integer}
use Rattle.sqlite_rules.specs.Cast.{cast}
use Rattle.sqlite_rules.proofs.ListLemmas.{some_from}
use Rattle.sqlite_rules.proofs.RuleLemmas.{keeps_at}
use Rattle.sqlite_rules.proofs.KeyLemmas.{agree_back, agree_chain}
use Rattle.std.proofs.Common.{Less, Greater, Ordering}
use Rattle.sqlite.specs.declared.error.Error.{Error}
use Rattle.sqlite.specs.State.{ExecutesInside}
use Rattle.sqlite.specs.Values.{bound_value, or_null}
use Rattle.mqtt_store_tables.specs.forms.Tables.{keep_schema, copy}
use Rattle.mqtt_store_tables.specs.statements.Content.{IsShapedAt}
use Rattle.mqtt_store_tables.specs.statements.Copy.{number_or_null, is_copy}
use Rattle.mqtt_store_tables.proofs.statements_lemmas.deletes.RemoveSession.{equal_ids}

cast_either : (b : Bool) (x : Value) → cond b x x ≡ x
cast_either true x = refl
cast_either false x = refl

-- a whole number is kept as it is
pub cast_int : (n : ℤ) → cast Integer (Int n) ≡ Int n
unfolding unary
cast_int n = cast_either _ (Int n)

-- no number is kept as it is
pub cast_null : cast Integer Null ≡ Null
unfolding unary
cast_null = cast_either _ Null

-- a number that may be none is kept as it is
pub cast_number : (o : Option ℕ) → cast Integer (number_or_null o) ≡ number_or_null o
cast_number None = cast_null
cast_number (Some n) = cast_int (pos n)

-- rowids that don't differ are equal
pub same_rowid : (m n : ℤ) → differ (Int m) (Int n) ≡ false → value_cmp (Int m) (Int n) ≡ Equal
unfolding binary
same_rowid m n h = go (value_cmp (Int m) (Int n)) refl (h)
  where
    go : (o : Ordering) → value_cmp (Int m) (Int n) ≡ o → Rattle.sqlite_sql.specs.Ops.is_true (Rattle.sqlite_sql.specs.Ops.from_truth (Some (Rattle.std.specs.Ordering.is_ne o))) ≡ false → o ≡ Equal
    go Less is h = absurd (true≢false h)
    go Equal is h = refl
    go Greater is h = absurd (true≢false h)

-- no two rows of copy have one key
pub one_copy : (db : Trees) (b p : ℕ) (x one : Row) → Obeys keep_schema db → IsShapedAt db 9 → Has (db 9) x → Has (db 9) one → is_copy b p x ≡ true → is_copy b p one ≡ true → x ≡ one
unfolding first_key
one_copy db b p x one obeys shaped hx ho px po =
    let passes = keeps_at Unique keep_schema db copy one (obeys.rules Unique) (inr (inr (inr (inr (inr (inl refl)))))) ho in
    let params = Int (pos b) ∷ Int (pos p) ∷ [] in
    let ax : agree plain (1 ∷ 2 ∷ []) x (0 ∷ 1 ∷ []) params ≡ true = and_from _ _ (and_parts _ _ px).0 (and_from _ _ (and_parts _ _ px).1 refl) in
    let ao : agree plain (1 ∷ 2 ∷ []) one (0 ∷ 1 ∷ []) params ≡ true = and_from _ _ (and_parts _ _ po).0 (and_from _ _ (and_parts _ _ po).1 refl) in
    let both : agree plain (1 ∷ 2 ∷ []) x (1 ∷ 2 ∷ []) one ≡ true = agree_chain plain (1 ∷ 2 ∷ []) (0 ∷ 1 ∷ []) (1 ∷ 2 ∷ []) x params one ax (agree_back plain (1 ∷ 2 ∷ []) (0 ∷ 1 ∷ []) one params ao) in
    let clash = λ (d : differ (rowid x) (rowid one) ≡ true). some_from (λ other. agree plain (1 ∷ 2 ∷ []) other (1 ∷ 2 ∷ []) one && differ (rowid other) (rowid one)) (db 9) x hx (and_from _ _ both d) in
    let near : differ (rowid x) (rowid one) ≡ false = false_from_ne_true _ (λ d. let bad = rw (clash d) at passes in true≢false (sym bad)) in
    let ix = int_is (rowid x) (all_has _ (db 9) x shaped.ints hx) in
    let io = int_is (rowid one) (all_has _ (db 9) one shaped.ints ho) in
    tied_same (db 9) x one shaped.up hx ho (rw (ix, io) (same_rowid _ _ (rw (ix, io) at near)))

-- SQL finds a number equal to itself
pub own_number : (n : ℕ) → equal Binary (Int (pos n)) (Int (pos n)) ≡ true
own_number n = equal_ids (Int (pos n)) (pos n) refl ∙ ap is_eq (tied_itself value_cmp_total (Int (pos n)))

-- what is bound if there may be no number
pub bound_is : (n : Option ℕ) → bound_value (or_null Int (option_map pos n)) ≡ number_or_null n
bound_is None = refl
bound_is (Some n) = refl

-- an identifier or an order that may be none is bound as its column has it
pub args_are : (text : List ℕ) (old new : State) (res : Result ℕ Error) (a b d : Value) (pid rel : Option ℕ)
    → ExecutesInside 0 text (a ∷ b ∷ bound_value (or_null Int (option_map pos pid)) ∷ d ∷ bound_value (or_null Int (option_map pos rel)) ∷ []) old new res
    → ExecutesInside 0 text (a ∷ b ∷ number_or_null pid ∷ d ∷ number_or_null rel ∷ []) old new res
args_are text old new res a b d pid rel h = subst (λ (p : Row). ExecutesInside 0 text p old new res) (ap (λ v. a ∷ b ∷ v ∷ d ∷ bound_value (or_null Int (option_map pos rel)) ∷ []) (bound_is pid) ∙ ap (λ v. a ∷ b ∷ number_or_null pid ∷ d ∷ v ∷ []) (bound_is rel)) h
