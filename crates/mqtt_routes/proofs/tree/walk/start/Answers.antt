use Rattle.std.proofs.Common.{◌≡◌, ◌∷◌, ◌&&◌, ℕ, true, cond, [], Some, None, get_or, nat_eq, nat_le, nat_lt, subst, sym, ap, ◌∙◌, arith}
use Rattle.std.proofs.lemmas.Bool.Decides.{nat_tests}
use Rattle.mqtt_topic.specs.names.Levels.{levels}
use Rattle.mqtt_topic.specs.names.Matching.{dollar, is_first, is_match}
use Rattle.mqtt_routes.specs.declared.tree.run.Run.{Run}
use Rattle.mqtt_routes.specs.tree.Tree.{ArePlain, is_within, levels_behind, once}
use Rattle.mqtt_routes.proofs.tree_lemmas.RunLemmas.{within_parts}
use Rattle.mqtt_routes.proofs.tree_lemmas.TextLemmas.{next_begins, next_behind}
use Rattle.mqtt_routes.proofs.tree_lemmas.FoundLemmas.{narrowed_found}
use Rattle.mqtt_routes.proofs.tree_lemmas.NameLemmas.{plain_levels, by_own, found_by}
use Rattle.mqtt_routes.proofs.tree.walk.start.Goals as goal

pub returns-then-not-begins_dollar-clause-plain : goal.returns-then-not-begins_dollar-clause-plain
returns-then-not-begins_dollar-clause-plain g c = subst ArePlain (sym c.requires.levels) (plain_levels c.args.name.now c.requires.plain)

pub returns-in-Some-clause-plain : goal.returns-in-Some-clause-plain
returns-in-Some-clause-plain g c =
    let is : levels c.args.name.now ≡ c.in-Some.level.now ∷ c.next.new.self = sym c.requires.levels ∙ c.in-Some.ensures.some in
    (subst ArePlain is (plain_levels c.args.name.now c.requires.plain)).1

at_start : (i : ℕ) → nat_le 0 i ≡ true
at_start i = grind (arith, nat_tests)

pub returns-in-Some-clause-found : goal.returns-in-Some-clause-found
returns-in-Some-clause-found g c = λ i.
    let texts = g.F.Filters.texts c.args.filters.now in
    let name = c.args.name.now in
    let l = c.in-Some.level.now in
    let others = c.next.new.self in
    let all : Run = record { from = 0; to = c.count.result; end = None } in
    let is : levels name ≡ l ∷ others = sym c.requires.levels ∙ c.in-Some.ensures.some in
    let plain = (subst ArePlain is (plain_levels name c.requires.plain)).0 in
    let begins : is_first (nat_eq dollar) name ≡ true = sym c.begins_dollar.ensures ∙ c.if-not-begins_dollar.false in
    let new = c.narrowed.result in
    narrowed_found texts all i new l others (c.narrowed.ensures.which i) (λ w. let parts = within_parts new.from new.to i w in c.narrowed.ensures.rest i parts.0 parts.1)
    ∙ ap (λ (n : ℕ). cond (is_within i all) n 0) (by_own (get_or texts i []) name l others begins is plain)
    ∙ found_by (is_within i all) (is_match (get_or texts i []) name)
    ∙ ap (λ b. once ((b && nat_lt i c.count.result) && is_match (get_or texts i []) name)) (at_start i)
    ∙ ap (λ n. once (nat_lt i n && is_match (get_or texts i []) name)) c.count.ensures

pub end_of-at-requires : goal.end_of-at-requires
end_of-at-requires g c = next_begins None c.in-Some.level.now c.args.name.now c.args.rest.now c.next.new.self c.requires.levels c.in-Some.ensures.some

pub returns-in-Some-clause-behind : goal.returns-in-Some-clause-behind
returns-in-Some-clause-behind g c =
    next_behind None c.in-Some.level.now c.args.name.now c.args.rest.now c.next.new.self c.requires.levels c.in-Some.ensures.some
    ∙ ap (λ (n : ℕ). levels_behind (Some n) c.args.name.now) (sym c.end_of-at.ensures)
