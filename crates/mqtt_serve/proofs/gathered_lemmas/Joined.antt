-- Changes of two lists, one after the other.
use Rattle.std.proofs.Common.{◌≡◌, refl, List, [], ◌∷◌, ◌++◌}
use Rattle.mqtt_records.specs.declared.state.records.Records.{Records}
use Rattle.mqtt_records.specs.declared.state.change.Change.{Change}
use Rattle.mqtt_records.specs.state.Contents.{FitContents}
use Rattle.mqtt_records.specs.state.Records.{FitAll, changed, changed_all}
use Rattle.mqtt_records.specs.state.Saying.{AllSayable}

-- they make what both make
pub all_joined : (xs ys : List Change) (r : Records) → changed_all (xs ++ ys) r ≡ changed_all ys (changed_all xs r)
all_joined [] ys r = refl
all_joined (x ∷ xs) ys r = all_joined xs ys (changed x r)

-- and fit
pub fit_joined : (xs ys : List Change) (r : Records) → FitAll xs r → FitAll ys (changed_all xs r) → FitAll (xs ++ ys) r
fit_joined [] ys r f g = g
fit_joined (x ∷ xs) ys r f g = (f.0, fit_joined xs ys (changed x r) f.1 g)

-- and can be said
pub sayable_joined : (xs ys : List Change) → AllSayable xs → AllSayable ys → AllSayable (xs ++ ys)
sayable_joined [] ys f g = g
sayable_joined (x ∷ xs) ys f g = (f.0, sayable_joined xs ys f.1 g)

-- and say what is said under their numbers
pub contents_joined : (xs ys : List Change) (r : Records) → FitContents xs r → FitContents ys (changed_all xs r) → FitContents (xs ++ ys) r
contents_joined [] ys r f g = g
contents_joined (x ∷ xs) ys r f g = (f.0, contents_joined xs ys (changed x r) f.1 g)

-- ---- what both do each does

-- if both fit, each fits, the second what the first leaves
pub fit_parted : (xs ys : List Change) (r : Records) → FitAll (xs ++ ys) r → FitAll xs r × FitAll ys (changed_all xs r)
fit_parted [] ys r f = (tt, f)
fit_parted (x ∷ xs) ys r f = let rest = fit_parted xs ys (changed x r) f.1 in ((f.0, rest.0), rest.1)

-- if both can be said, the first can
pub sayable_first : (xs ys : List Change) → AllSayable (xs ++ ys) → AllSayable xs
sayable_first [] ys f = tt
sayable_first (x ∷ xs) ys f = (f.0, sayable_first xs ys f.1)

-- if both say what is said under their numbers, the first does
pub contents_first : (xs ys : List Change) (r : Records) → FitContents (xs ++ ys) r → FitContents xs r
contents_first [] ys r f = tt
contents_first (x ∷ xs) ys r f = (f.0, contents_first xs ys (changed x r) f.1)
