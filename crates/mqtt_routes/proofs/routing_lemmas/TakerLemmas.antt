-- Lemmas on who is there for a publication: each group that matches is served (MQTT 5.0, 4.8.2).
use Rattle.std.proofs.Common.{◌≡◌, ℕ, Bool, true, false, not, ◌||◌, List, [], ◌∷◌, ◌++◌, refl, ap, sym, ◌∙◌, Option, Some, None}
use Rattle.std.specs.Prelude.{option_map}
use Rattle.std.specs.List.{list_all}
use Rattle.std.specs.Option.{option_and_then}
use Rattle.mqtt_routes.specs.routing.Subscriptions.{Subscriber}
use Rattle.mqtt_routes.specs.routing.Intended.{Publication, Answers, Copy, Member, directs, members, groups, groups_after, is_none}
use Rattle.mqtt_routes.specs.routing.Acceptance.{Served, Routed, has_room, first_choice, later_choices, serve_one, serve, with_direct, routed_beside, TellsTakers}

one_more : (served : List Served) (s : Served) → is_none (served ++ s ∷ []) ≡ false
one_more [] s = refl
one_more (x ∷ xs) s = refl

module _ (at : Answers) (p : Publication) (all : List Member) (direct : List Copy) where
  first_served : (choices : List ℕ) (fs : List (List ℕ)) (served out : List Served) (o : Option Served)
      → ((s : Served) → serve at p all direct choices fs (served ++ s ∷ []) ≡ Some out → is_none out ≡ false)
      → option_and_then (λ (s : Served). serve at p all direct choices fs (served ++ s ∷ [])) o ≡ Some out → is_none out ≡ false
  first_served choices fs served out None later e = absurd cc
  first_served choices fs served out (Some s) later e = later s e

  serve_some : (choices : List ℕ) (fs : List (List ℕ)) (served out : List Served) → is_none served ≡ false → serve at p all direct choices fs served ≡ Some out → is_none out ≡ false
  serve_some choices [] served out some e = let same : served ≡ out = cc in ap (λ (ss : List Served). is_none ss) (sym same) ∙ some
  serve_some choices (f ∷ fs) served out some e =
      first_served (later_choices choices) fs served out (serve_one at p direct served (first_choice choices) f all)
      (λ s h. serve_some (later_choices choices) fs (served ++ s ∷ []) out (one_more served s) h) e

  serve_first : (choices : List ℕ) (f : List ℕ) (fs : List (List ℕ)) (out : List Served) → serve at p all direct choices (f ∷ fs) [] ≡ Some out → is_none out ≡ false
  serve_first choices f fs out e =
      first_served (later_choices choices) fs [] out (serve_one at p direct [] (first_choice choices) f all)
      (λ s h. serve_some (later_choices choices) fs (s ∷ []) out refl h) e

served_all : (at : Answers) (p : Publication) (all : List Member) (direct : List Copy) (choices : List ℕ) (out : List Served)
    → serve at p all direct choices (groups all) [] ≡ Some out → is_none all ≡ is_none out
served_all at p [] direct choices out e = let same : [] ≡ out = cc in ap (λ (ss : List Served). is_none ss) same
served_all at p (m ∷ ms) direct choices out e = sym (serve_first at p (m ∷ ms) direct choices m.sub.filter (groups_after (m ∷ []) ms) out e)

wanted_of : (all : List Member) (direct : List Copy) (r : Routed) (o : Option (List Served)) → ((out : List Served) → o ≡ Some out → is_none all ≡ is_none out)
    → option_map (with_direct direct) o ≡ Some r → (not (is_none direct) || not (is_none all)) ≡ (not (is_none r.direct) || not (is_none r.served))
wanted_of all direct r None served e = absurd cc
wanted_of all direct r (Some out) served e =
    let same : with_direct direct out ≡ r = cc in
    ap (λ (none : Bool). not (is_none direct) || not none) (served out refl)
    ∙ ap (λ (x : Routed). not (is_none x.direct) || not (is_none x.served)) same

wanted_beside : (test : Bool) (at : Answers) (p : Publication) (all : List Member) (direct : List Copy) (choices : List ℕ) (r : Routed)
    → routed_beside test at p all direct choices ≡ Some r → (not (is_none direct) || not (is_none all)) ≡ (not (is_none r.direct) || not (is_none r.served))
wanted_beside false at p all direct choices r e = absurd cc
wanted_beside true at p all direct choices r e =
    wanted_of all direct r (serve at p all direct choices (groups all) []) (λ out h. served_all at p all direct choices out h) e

-- somebody is there exactly if a routing has a direct copy or a group
pub routed_wanted : (at : Answers) (p : Publication) (choices : List ℕ) (xs : List Subscriber) (r : Routed) → TellsTakers at p choices xs r
routed_wanted at p choices xs r e =
    wanted_beside (list_all (has_room at) (directs at p xs)) at p (members p xs) (directs at p xs) choices r e
