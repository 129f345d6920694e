-- Changes that fit and say what is said make one records of others.
use Rattle.std.proofs.Common.{◌≡◌, List, [], ◌∷◌, ◌++◌, refl, sym, subst}
use Rattle.mqtt_records.specs.declared.state.change.Change.{Change}
use Rattle.mqtt_records.specs.declared.state.records.Records.{Records}
use Rattle.mqtt_records.specs.state.Records.{changed, changed_all, Fits, FitAll}
use Rattle.mqtt_records.specs.state.Contents.{FitsContents, FitContents}

-- the changes fit and say what is said, one after the other, and make the one records the others
pub record AreMade (changes : List Change) (from to : Records) : Type 0 where
  pub fits : FitAll changes from
  pub agrees : FitContents changes from
  pub ends : changed_all changes from ≡ to

-- none make of records what they are
pub none_made : (from to : Records) → from ≡ to → AreMade [] from to
none_made from to same = record { fits = tt; agrees = tt; ends = same }

-- one, and then the others
pub one_made : (change : Change) (changes : List Change) (from mid to : Records) → Fits change from → FitsContents change from → changed change from ≡ mid → AreMade changes mid to → AreMade (change ∷ changes) from to
one_made change changes from mid to fits agrees is made =
    let then = subst (λ (r : Records). AreMade changes r to) (sym is) made in
    record { fits = (fits, then.fits); agrees = (agrees, then.agrees); ends = then.ends }

-- some, and then others
pub then_made : (changes more : List Change) (from mid to : Records) → AreMade changes from mid → AreMade more mid to → AreMade (changes ++ more) from to
then_made [] more from mid to one two = subst (λ (r : Records). AreMade more r to) (sym one.ends) two
then_made (change ∷ changes) more from mid to one two =
    let rest : AreMade changes (changed change from) mid = record { fits = one.fits.1; agrees = one.agrees.1; ends = one.ends } in
    one_made change (changes ++ more) from (changed change from) to one.fits.0 one.agrees.0 refl (then_made changes more (changed change from) mid to rest two)
