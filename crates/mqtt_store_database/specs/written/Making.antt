-- What changes make of the tables, one after the other, if it is known of each: the same words in both schemas.
use Rattle.std.specs.Prelude.{◌≡◌, Bool, true, false, List, [], ◌∷◌}
use Rattle.sqlite_trees.specs.Tree.{Trees}
use Rattle.mqtt_records.specs.declared.state.change.Change.{Change}

-- one after the other
abbrev pub MakeEach : (Change → Trees → Trees → Type 0) → List Change → Trees → Trees → Type 0
MakeEach Makes [] old new = new ≡ old
MakeEach Makes (change ∷ changes) old new = (mid : Trees) × Makes change old mid × MakeEach Makes changes mid new

-- what each sets stands in what those before it leave
abbrev pub NeedEach : (Change → Trees → Type 0) → (Change → Trees → Trees → Type 0) → List Change → Trees → Type 0
NeedEach Needs Makes [] db = Unit {0}
NeedEach Needs Makes (change ∷ changes) db = Needs change db × ((mid : Trees) → Makes change db mid → NeedEach Needs Makes changes mid)

-- ---- a change that is written, or goes without

abbrev pub NeedsUnless : Bool → (Trees → Type 0) → Trees → Type 0
NeedsUnless true Needs db = Unit {0}
NeedsUnless false Needs db = Needs db

abbrev pub MakesUnless : Bool → (Trees → Trees → Type 0) → Trees → Trees → Type 0
MakesUnless true Makes old new = new ≡ old
MakesUnless false Makes old new = Makes old new
