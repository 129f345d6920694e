use Rattle.std.proofs.Common.{◌≡◌, List, ◌∷◌, sym, ap, subst, ◌∙◌}
use Rattle.std.specs.Prelude.{Some, None, slice_get}
use Rattle.mqtt_records.specs.declared.state.session.Session.{Session}
use Rattle.mqtt_records.specs.state.Session.{birth_of}
use Rattle.mqtt_records.specs.lists.Order.{remove_row}
use Rattle.mqtt_store_rows.proofs.rows_lemmas.StandsLemmas.{first_taken, first_stands}
use Rattle.mqtt_store_rows.proofs.gathering.reading.take_first.Goals as goal

pub returns-in-Some : goal.returns-in-Some
returns-in-Some c =
    let xs = c.args.sessions.now in
    let one = c.get.result.now in
    let there : slice_get xs 0 ≡ Some c.in_ok-first.field-0.now = subst (λ (l : List Session). slice_get l 0 ≡ Some c.in_ok-first.field-0.now) c.as_slice.ensures.rows (sym c.in_ok-first.ensures.value) in
    let first : slice_get xs 0 ≡ Some one = there ∙ ap Some (sym c.get.ensures) in
    let cut : xs ≡ c.in-Some.session ∷ remove_row birth_of one.birth xs = first_taken birth_of xs one c.in-Some.session c.as_slice.ensures.order first c.in-Some.ensures.row in
    cut ∙ (ap (λ (x : Session). x ∷ remove_row birth_of one.birth xs) (sym c.into_row.ensures) ∙ ap (λ (l : List Session). c.into_row.result ∷ l) (sym c.in-Some.ensures.rest))

pub returns-in-None : goal.returns-in-None
returns-in-None c =
    let xs = c.args.sessions.now in
    let there : slice_get xs 0 ≡ Some c.in_ok-first.field-0.now = subst (λ (l : List Session). slice_get l 0 ≡ Some c.in_ok-first.field-0.now) c.as_slice.ensures.rows (sym c.in_ok-first.ensures.value) in
    let first : slice_get xs 0 ≡ Some c.get.result.now = there ∙ ap Some (sym c.get.ensures) in
    let no : None ≡ Some c.get.result.now = c.in-None.ensures.row ∙ first_stands birth_of xs c.get.result.now first in
    absurd cc
