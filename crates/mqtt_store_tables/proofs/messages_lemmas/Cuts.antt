-- What the cascade of a session leaves, in any schema.
use Rattle.std.proofs.Common.{◌≡◌, ◌≢◌, ℕ, zero, suc, ℤ, not, List, [], ◌∷◌, ◌++◌, length, Ok, sym, ap, ◌∙◌, inl, inr, refl, append-nil, length-append, arith}
use Rattle.std.specs.List.{AllByRecursion, list_any}
use Rattle.sqlite_value.specs.declared.value.Value.TheVariants.{Int}
use Rattle.sqlite_value.specs.Order.{Row}
use Rattle.sqlite_trees.specs.Tree.{Trees, rowid}
use Rattle.sqlite_schema.specs.declared.schema.Schema.{Schema}
use Rattle.sqlite_schema.specs.declared.schema.Table.{Table}
use Rattle.sqlite_schema.specs.declared.schema.Keys.TheVariants.{Enforced}
use Rattle.sqlite_rules.specs.Edit.{IsNoIndex, taken_by, without_all}
use Rattle.sqlite_rules.specs.Action.{Work, works, is_child_of, action_edit, AreChildren, ActsOn, Leads}
use Rattle.mqtt_store_tables.specs.statements.Content.{is_of, without, IsShapedAt}
use Rattle.mqtt_store_tables.proofs.statements_lemmas.tables.Rows.{without_those, filter_alike}
use Rattle.mqtt_store_tables.proofs.statements_lemmas.tables.Whole.{at_tree}
use Rattle.mqtt_store_tables.proofs.statements_lemmas.deletes.Cascade.{last_same, work}
use Rattle.mqtt_store_tables.proofs.statements_lemmas.deletes.RemoveSession.{children_are}
use Rattle.mqtt_store_tables.proofs.statements_lemmas.deletes.RemovesSession.{lost}

-- a table that refers to sessions, and the column in which it does
abbrev pub Child : Type 0
Child = Table × ℕ

-- other rows than those of a table are as they were
abbrev pub Spares : Schema → ℕ → Trees → Trees → Type 0
Spares schema tree old new = (t : ℕ) → t ≢ tree → IsNoIndex schema t → new t ≡ old t

-- the actions of a session that goes, the first table's last
abbrev pub stack : Row → List Child → List Work
stack one [] = []
stack one (c ∷ cs) = stack one cs ++ work c.0 c.1 one ∷ []

-- no table refers to these, and none of them is an index
abbrev pub AreFit : Schema → List Child → Type 0
AreFit schema cs = AllByRecursion (λ c. ((olds : List Row) → works schema Enforced 1 c.0.tree olds [] ≡ []) × IsNoIndex schema c.0.tree) cs

-- they lie at different trees
abbrev pub AreApart : List Child → Type 0
AreApart [] = Unit {0}
AreApart (c ∷ cs) = AllByRecursion (λ d. (d.0.tree ≢ c.0.tree) × (c.0.tree ≢ d.0.tree)) cs × AreApart cs

-- each rises by its numbers
abbrev pub RiseAt : Trees → List Child → Type 0
RiseAt db cs = AllByRecursion (λ c. IsShapedAt db c.0.tree) cs

-- each is as it was
abbrev pub AreSame : Trees → Trees → List Child → Type 0
AreSame old new cs = AllByRecursion (λ c. new c.0.tree ≡ old c.0.tree) cs

-- the rows that name the session are out of each
abbrev pub AreCut : ℤ → Trees → Trees → List Child → Type 0
AreCut birth old new cs = AllByRecursion (λ c. new c.0.tree ≡ without c.1 birth (old c.0.tree)) cs

-- tables that are spared are as they were
pub same_on : (schema : Schema) (tree : ℕ) (old new : Trees) (cs : List Child) → Spares schema tree old new → AllByRecursion (λ c. c.0.tree ≢ tree) cs → AreFit schema cs → AreSame old new cs
same_on schema tree old new [] others away fit = tt
same_on schema tree old new (c ∷ cs) others away fit = (others c.0.tree away.0 fit.0.1, same_on schema tree old new cs others away.1 fit.1)

-- and rise still
pub rise_on : (old new : Trees) (cs : List Child) → AreSame old new cs → RiseAt old cs → RiseAt new cs
rise_on old new [] same rise = tt
rise_on old new (c ∷ cs) same rise = (at_tree old new c.0.tree same.0 rise.0, rise_on old new cs same.1 rise.1)

-- what is cut from tables that are as they were is cut from those
pub cut_on : (birth : ℤ) (old mid new : Trees) (cs : List Child) → AreSame old mid cs → AreCut birth mid new cs → AreCut birth old new cs
cut_on birth old mid new [] same cut = tt
cut_on birth old mid new (c ∷ cs) same cut = (cut.0 ∙ ap (without c.1 birth) same.0, cut_on birth old mid new cs same.1 cut.1)

before : (c : Child) (cs : List Child) → AllByRecursion (λ d. (d.0.tree ≢ c.0.tree) × (c.0.tree ≢ d.0.tree)) cs → AllByRecursion (λ d. d.0.tree ≢ c.0.tree) cs × AllByRecursion (λ d. c.0.tree ≢ d.0.tree) cs
before c [] apart = (tt, tt)
before c (d ∷ cs) apart = let later = before c cs apart.1 in ((apart.0.0, later.0), (apart.0.1, later.1))

module _ (schema : Schema) (birth : ℤ) (one : Row) (is : rowid one ≡ Int birth) (end : Trees) where
  -- one action is carried out: the rows that name the session are out of its table, and the other actions are left
  record Cut (c : Child) (db : Trees) (below : List Work) : Type 0 where
    mid : Trees
    rows : mid c.0.tree ≡ without c.1 birth (db c.0.tree)
    others : Spares schema c.0.tree db mid
    left : ℕ
    leads : Leads schema Enforced left mid below (Ok end)

  module _ (c : Child) (childless : (olds : List Row) → works schema Enforced 1 c.0.tree olds [] ≡ []) (db : Trees) (shaped : IsShapedAt db c.0.tree) (below : List Work) where
    abbrev act : Work
    act = work c.0 c.1 one

    gone : (ids : List ℤ) → AreChildren db act ids → without_all (db c.0.tree) ids ≡ without c.1 birth (db c.0.tree)
    gone ids are =
        let names = λ (r : Row). list_any (is_child_of act r) act.moves in
        without_those names (db c.0.tree) ids shaped.up shaped.ints are.sound are.complete
        ∙ filter_alike (λ r. not (names r)) (λ r. not (is_of c.1 birth r)) (db c.0.tree) (λ r has. ap not (children_are c.0 c.1 one birth r is (lost one birth is)))

    cut_by : (n : ℕ) (ids : List ℤ) → AreChildren db act ids → ActsOn schema Enforced (Leads schema Enforced n) db act below (Ok end) ids → Cut c db below
    cut_by n [] are h = record { mid = db; rows = gone [] are; others = λ t _ _. refl; left = n; leads = h }
    cut_by n (id ∷ ids) are (inl refused) = absurd (let e = refused.2 in cc)
    cut_by n (id ∷ ids) are (inr (inl big)) = absurd (let e = big.3 in cc)
    cut_by n (id ∷ ids) are (inr (inr went)) =
        record {
          mid = went.0;
          rows = went.1.rows ∙ gone (id ∷ ids) are;
          others = went.1.others;
          left = n;
          leads = rw (childless (taken_by db (action_edit db act (id ∷ ids))), append-nil below) at went.2;
        }

    cut : (n : ℕ) → Leads schema Enforced n db (below ++ act ∷ []) (Ok end) → Cut c db below
    cut zero h = absurd (omega (arith, ap length h.0, length-append below (act ∷ [])))
    cut (suc n) h =
        let same = last_same below h.0 act h.1 h.2 in
        let acts = rw (sym same.0, sym same.1) at h.3 in
        cut_by n acts.0 acts.1 acts.2

  -- all actions are carried out: the rows that name the session are out of each table, and other tables stay
  pub record Cuts (cs : List Child) (db : Trees) : Type 0 where
    pub rows : AreCut birth db end cs
    pub others : (t : ℕ) → AllByRecursion (λ c. t ≢ c.0.tree) cs → IsNoIndex schema t → end t ≡ db t

  -- the cascade goes through all of its actions
  pub cuts : (cs : List Child) (n : ℕ) (db : Trees) → AreFit schema cs → AreApart cs → RiseAt db cs → Leads schema Enforced n db (stack one cs) (Ok end) → Cuts cs db
  cuts [] zero db fit apart rise h = let same : end ≡ db = (let e = h.1 in cc) in record { rows = tt; others = λ t _ _. ap (λ (x : Trees). x t) same }
  cuts [] (suc n) db fit apart rise h = absurd (omega (arith, ap length h.2, length-append h.0 (h.1 ∷ [])))
  cuts (c ∷ cs) n db fit apart rise h =
      let s = cut c fit.0.0 db rise.0 (stack one cs) n h in
      let away = before c cs apart.0 in
      let same = same_on schema c.0.tree db s.mid cs s.others away.0 fit.1 in
      let rest = cuts cs s.left s.mid fit.1 apart.1 (rise_on db s.mid cs same rise.1) s.leads in
      record {
        rows = (rest.others c.0.tree away.1 fit.0.1 ∙ s.rows, cut_on birth db s.mid end cs same rest.rows);
        others = λ t apart spared. rest.others t apart.1 spared ∙ s.others t apart.0 spared;
      }
