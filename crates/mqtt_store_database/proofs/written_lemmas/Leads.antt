-- Changes that are written one after the other, but for those that go without.
use Rattle.std.proofs.Common.{◌≡◌, Bool, true, false, cond, List, [], ◌∷◌, length, refl, sym, ap, subst}
use Rattle.sqlite_trees.specs.Tree.{Trees}
use Rattle.mqtt_records.specs.declared.state.change.Change.{Change}
use Rattle.mqtt_store_database.specs.written.Making.{MakeEach, NeedEach, MakesUnless, NeedsUnless}
use Rattle.mqtt_store_database.specs.written.Shortened.{goes_anyway, shortened}

module _ (Needs : Change → Trees → Type 0) (Makes : Change → Trees → Trees → Type 0) where
  -- what is left to write of the changes, and that all are made if the rest is
  abbrev pub Leads : List Change → List Change → Trees → Trees → Type 0
  Leads whole rest old now =
      NeedEach Needs Makes (shortened rest) now × ((after : Trees) → MakeEach Makes (shortened rest) now after → MakeEach Makes (shortened whole) old after)

  leads_by : (goes : Bool) (whole : List Change) (change : Change) (after : List Change) (old mid new : Trees) → goes ≡ goes_anyway change after → Leads whole (change ∷ after) old mid
      → (NeedsUnless goes (Needs change) mid → MakesUnless goes (Makes change) mid new) → Leads whole after old new
  leads_by true whole change after old mid new is left made =
      let same : new ≡ mid = made tt in
      let e : shortened (change ∷ after) ≡ shortened after = ap (λ (b : Bool). cond b (shortened after) (change ∷ shortened after)) (sym is) in
      subst (λ (db : Trees). Leads whole after old db) (sym same) (subst (λ (l : List Change). NeedEach Needs Makes l mid) e left.0, λ last rest. left.1 last (subst (λ (l : List Change). MakeEach Makes l mid last) (sym e) rest))
  leads_by false whole change after old mid new is left made =
      let e : shortened (change ∷ after) ≡ change ∷ shortened after = ap (λ (b : Bool). cond b (shortened after) (change ∷ shortened after)) (sym is) in
      let need : NeedEach Needs Makes (change ∷ shortened after) mid = subst (λ (l : List Change). NeedEach Needs Makes l mid) e left.0 in
      let it : Makes change mid new = made need.0 in
      (need.1 new it, λ last rest. left.1 last (subst (λ (l : List Change). MakeEach Makes l mid last) (sym e) (new, it, rest)))

  -- once the next change is made, or goes without, what is left leads to the same tables
  pub leads_on : (goes : Bool) (whole : List Change) (change : Change) (after rest : List Change) (old mid new : Trees) → rest ≡ change ∷ after → goes ≡ goes_anyway change after → Leads whole rest old mid
      → (NeedsUnless goes (Needs change) mid → MakesUnless goes (Makes change) mid new) → Leads whole after old new
  leads_on goes whole change after rest old mid new splits is left made = leads_by goes whole change after old mid new is (subst (λ (l : List Change). Leads whole l old mid) splits left) made

  -- once no change is left all are made
  pub leads_end : (whole rest : List Change) (old now : Trees) → length rest ≡ 0 → Leads whole rest old now → MakeEach Makes (shortened whole) old now
  leads_end whole [] old now ends left = left.1 now refl
  leads_end whole (x ∷ xs) old now ends left = absurd cc
