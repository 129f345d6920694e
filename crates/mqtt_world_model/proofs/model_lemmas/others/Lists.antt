-- What holds of each row holds of the first one that passes a test.
use Rattle.std.proofs.Common.{◌≡◌, Bool, true, List, Some}
use Rattle.std.specs.Prelude.{find}
use Rattle.std.specs.List.{AllByRecursion}
use Rattle.mqtt_rules.proofs.step_lemmas.fit.FitLaw.{all_among}
use Rattle.mqtt_rules.proofs.step_lemmas.acts.Leads.{found_among, found_passes}

-- what holds of each holds of the one that is found, and it passes the test
pub all_find : {X : Type 0} (P : X → Type 0) (test : X → Bool) (x : X) (xs : List X) → AllByRecursion P xs → find test xs ≡ Some x → P x × (test x ≡ true)
all_find P test x xs h e = (all_among P x xs h (found_among test x xs e), found_passes test x xs e)
