-- The rows of one table and its items, whichever table it is.
use Rattle.std.proofs.Common.{◌≡◌, List, [], ◌∷◌, map, refl, sym, ap, subst, ◌∙◌, inl, inr}
use Rattle.std.specs.List.Sorted.{IsPermutation}
use Rattle.std.proofs.lemmas.List.Sorted.{IsPermutation-sym}
use Rattle.sqlite_value.specs.Order.{Row}
use Rattle.sqlite_rules.specs.Lists.{Has}
use Rattle.mqtt_store_tables.proofs.statements_lemmas.tables.Rows.{has_permuted}
use Rattle.mqtt_store_database.specs.item_laws.Written.{AreWritten}
use Rattle.mqtt_store_database.proofs.found_lemmas.both.Traverse.{IsSaid}
use Rattle.mqtt_store_database.proofs.found_lemmas.both.Lines.{AreLines}

-- what is so of each row of an item may be said in another way
pub rewritten : {X : Type 0} (P Q : X → Row → Type 0) (Item : X → Type 0) (rows : List Row) → ((x : X) (row : Row) → Has rows row → P x row → Q x row) → AreWritten P Item rows → AreWritten Q Item rows
rewritten P Q Item rows to h = record {
  each = λ x item. let it = h.each x item in (it.0, it.1, to x it.0 it.1 it.2);
  only = λ row there. let it = h.only row there in (it.0, it.1, to it.0 row there it.2);
}

-- an item of one is an item of the other, if the same rows show the lines of both
pub same_item : {X : Type 0} (shows : Row → Row) (line : X → Row) (P Q : X → Type 0) (rows : List Row) → AreLines shows line P rows → AreLines shows line Q rows → ((x y : X) → P x → Q y → line x ≡ line y → x ≡ y) → (x : X) → P x → Q x
same_item shows line P Q rows h k one x item =
    let mine = h.each x item in
    let other = k.only mine.0 mine.1 in
    subst Q (sym (one x other.0 item other.1 (sym mine.2 ∙ other.2))) other.1

has_map : {X Y : Type 0} (f : X → Y) (xs : List X) (x : X) → Has xs x → Has (map f xs) (f x)
has_map f [] x h = absurd h
has_map f (y ∷ ys) x (inl same) = inl (ap f same)
has_map f (y ∷ ys) x (inr h) = inr (has_map f ys x h)

map_has : {X Y : Type 0} (f : X → Y) (xs : List X) (y : Y) → Has (map f xs) y → (x : X) × Has xs x × (y ≡ f x)
map_has f [] y h = absurd h
map_has f (x ∷ xs) y (inl same) = (x, inl refl, same)
map_has f (x ∷ xs) y (inr h) = let it = map_has f xs y h in (it.0, inr it.1, it.2)

module _ {X : Type 0} (shows : Row → Row) (line : X → Row) (Says : X → Row → Type 0) (Item : X → Type 0) (tells : (x : X) (row : Row) → Says x (shows row) → shows row ≡ line x) (stored rows : List Row) (listed : IsPermutation (map shows stored) rows) where
  -- rows that are listed say the items, so the rows of the tree show their lines
  pub lined : ((x : X) → Item x → IsSaid Says rows x) → ((row : Row) → Has rows row → (x : X) × Item x × Says x row) → AreLines shows line Item stored
  lined each only = record {
    each = λ x item.
        let said = each x item in
        let there = map_has shows stored said.0 (has_permuted _ _ said.0 (IsPermutation-sym _ _ listed) said.1) in
        (there.0, there.1, tells x there.0 (subst (Says x) there.2 said.2));
    only = λ row h.
        let it = only (shows row) (has_permuted _ _ (shows row) listed (has_map shows stored row h)) in
        (it.0, it.1, tells it.0 row it.2);
  }
