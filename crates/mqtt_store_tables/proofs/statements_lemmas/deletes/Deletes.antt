-- The DELETEs of a Will, a subscription and an open identifier.
use Rattle.std.proofs.Common.{◌≡◌, ℕ, ℤ, Bool, true, false, ◌&&◌, List, [], ◌∷◌, codes, Result, OnOk, refl, filter}
use Rattle.sqlite_value.specs.declared.value.Value.TheVariants.{Int, Text}
use Rattle.sqlite_value.specs.Keys.{joined}
use Rattle.sqlite_value.specs.Order.{Row}
use Rattle.sqlite_schema.specs.Names.{same_name}
use Rattle.sqlite_schema.specs.declared.schema.Keys.TheVariants.{Enforced}
use Rattle.sqlite_rules.specs.Action.{works}
use Rattle.sqlite.specs.Command.TheVariants.{Delete}
use Rattle.sqlite.specs.Term.{Term}
use Rattle.sqlite.specs.declared.error.Error.{Error}
use Rattle.sqlite.specs.Listing.{understood}
use Rattle.sqlite.specs.State.{State, ExecutesInside}
use Rattle.sqlite_tied.specs.Compute.{everything}
use Rattle.sqlite.proofs.Callers.{IsPlain, command_of}
use Rattle.mqtt_store_tables.specs.forms.Tables.{will, sub, inbound}
use Rattle.mqtt_store_tables.specs.statements.Layout.{Layout, IsLayout, schema_of}
use Rattle.mqtt_store_tables.specs.statements.Content.{is_of, is_text, IsWhole}
use Rattle.mqtt_store_tables.specs.statements.Removal.{is_keyed, is_subscription, RemovesFrom}
use Rattle.mqtt_store_tables.proofs.statements_lemmas.tables.Fresh.{and_true as alone}
use Rattle.mqtt_store_tables.proofs.statements_lemmas.tables.Commands.{over, program, equals}
use Rattle.mqtt_store_tables.proofs.statements_lemmas.deletes.Removal.{numbers, deletes}

abbrev by_number : List Term
by_number = equals 0 0 ∷ []

-- in the tables whose key is the session and something else
abbrev by_both : List Term
by_both = equals 1 0 ∷ equals 2 1 ∷ []

abbrev pub remove_will_text : List ℕ
remove_will_text = codes "DELETE FROM will WHERE birth = ?1"

abbrev pub remove_subscription_text : List ℕ
remove_subscription_text = codes "DELETE FROM sub WHERE birth = ?1 AND filter = ?2"

abbrev pub remove_open_text : List ℕ
remove_open_text = codes "DELETE FROM inbound WHERE birth = ?1 AND ident = ?2"

will_is : (l : Layout) → command_of (understood (schema_of l) remove_will_text) ≡ Delete 2 (program (over 4 by_number numbers))
unfolding understood everything
will_is l = refl

will_plain : (l : Layout) → IsPlain (understood (schema_of l) remove_will_text)
unfolding understood everything
will_plain l = (refl, refl)

subscription_is : (l : Layout) → command_of (understood (schema_of l) remove_subscription_text) ≡ Delete 3 (program (over 5 by_both numbers))
unfolding understood everything
subscription_is l = refl

subscription_plain : (l : Layout) → IsPlain (understood (schema_of l) remove_subscription_text)
unfolding understood everything
subscription_plain l = (refl, refl)

open_is : (l : Layout) → command_of (understood (schema_of l) remove_open_text) ≡ Delete 4 (program (over 7 by_both numbers))
unfolding understood everything
open_is l = refl

open_plain : (l : Layout) → IsPlain (understood (schema_of l) remove_open_text)
unfolding understood everything
open_plain l = (refl, refl)

-- no table refers to Wills, so one that is deleted sets nothing off
pub will_childless : (l : Layout) → IsLayout l → (olds : List Row) → works (schema_of l) Enforced 0 4 olds [] ≡ []
unfolding same_name joined
will_childless l asked olds = asked.childless.1.0.out 0 olds

-- no table refers to subscriptions, so one that is deleted sets nothing off
pub sub_childless : (l : Layout) → IsLayout l → (olds : List Row) → works (schema_of l) Enforced 0 5 olds [] ≡ []
unfolding same_name joined
sub_childless l asked olds = asked.childless.1.1.0.out 0 olds

open_childless : (l : Layout) → IsLayout l → (olds : List Row) → works (schema_of l) Enforced 0 7 olds [] ≡ []
unfolding same_name joined
open_childless l asked olds = asked.childless.1.1.1.0.out 0 olds

and_true : (b c : Bool) → (b && (c && true)) ≡ (b && c)
and_true true true = refl
and_true true false = refl
and_true false c = refl

-- the DELETE of a Will takes out the row of that session, and leaves the transaction whole
pub removes_will : (l : Layout) → IsLayout l → (birth : ℤ) (old new : State) (r : Result ℕ Error) → IsWhole l old → ExecutesInside 0 remove_will_text (Int birth ∷ []) old new r
    → OnOk r (RemovesFrom l 4 (is_of 0 birth) old.now.trees new.now.trees) × OnOk r (IsWhole l new)
removes_will l asked birth old new r whole h =
    deletes l asked remove_will_text 2 will by_number (Int birth ∷ []) (will_is l) (will_plain l) refl (will_childless l asked) (is_of 0 birth) (λ r. alone (is_of 0 birth r)) old new r whole whole.will h

-- the DELETE of a subscription takes out the rows of that session and filter, and leaves the transaction whole
pub removes_subscription : (l : Layout) → IsLayout l → (birth : ℤ) (filter : List ℕ) (old new : State) (r : Result ℕ Error) → IsWhole l old → ExecutesInside 0 remove_subscription_text (Int birth ∷ Text filter ∷ []) old new r
    → OnOk r (RemovesFrom l 5 (is_subscription birth filter) old.now.trees new.now.trees) × OnOk r (IsWhole l new)
removes_subscription l asked birth filter old new r whole h =
    deletes l asked remove_subscription_text 3 sub by_both (Int birth ∷ Text filter ∷ []) (subscription_is l) (subscription_plain l) refl (sub_childless l asked) (is_subscription birth filter)
    (λ r. and_true (is_of 1 birth r) (is_text 2 filter r)) old new r whole whole.sub h

-- the DELETE of an open identifier takes out the rows of that session and identifier, and leaves the transaction ready
pub removes_open : (l : Layout) → IsLayout l → (birth n : ℤ) (old new : State) (r : Result ℕ Error) → IsWhole l old → ExecutesInside 0 remove_open_text (Int birth ∷ Int n ∷ []) old new r
    → OnOk r (RemovesFrom l 7 (is_keyed birth n) old.now.trees new.now.trees) × OnOk r (IsWhole l new)
removes_open l asked birth n old new r ready h =
    deletes l asked remove_open_text 4 inbound by_both (Int birth ∷ Int n ∷ []) (open_is l) (open_plain l) refl (open_childless l asked) (is_keyed birth n) (λ r. and_true (is_of 1 birth r) (is_of 2 n r)) old new r ready ready.inbound h
