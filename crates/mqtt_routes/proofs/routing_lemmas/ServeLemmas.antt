-- Lemmas on serving groups (MQTT 5.0, 4.8.2).
use Rattle.std.proofs.Common.{◌≡◌, ℕ, zero, suc, ◌+◌, ◌<◌, ◌≤◌, Bool, true, false, cond, ◌&&◌, List, [], ◌∷◌, ◌++◌, length, take, drop, get_or, filter, refl, sym, ap, subst, ◌∙◌, arith, bytes_eq, append_assoc, add-one, drop-cons, Some, None, Result, Ok, Err, IfOk}
use Rattle.std.specs.List.{list_any}
use Rattle.std.specs.Option.{option_and_then}
use Rattle.std.proofs.lemmas.List.{get_or_default, take_more}
use Rattle.mqtt_topic.specs.names.Filters.{group_of}
use Rattle.mqtt_routes.specs.declared.routing.fault.RoutesFault.{RoutesFault}
use Rattle.mqtt_routes.specs.declared.routing.fault.RoutesFault.TheVariants.{Full, Memory}
use Rattle.mqtt_routes.specs.routing.Intended.{Publication, Answers, Copy, Member, in_group, has_filter_among, groups, groups_after}
use Rattle.mqtt_routes.specs.routing.Acceptance.{Served, needs_room, is_eligible, eligible_of, is_candidate, IsCandidateAt, chosen, shared_copy, outcome, serve_one, serve, IsServing, IsUnserved, RefusesOne, RefusesServing}

-- one member more
eligible_by : (same lacks : Bool) (at : Answers) (p : Publication) (direct : List Copy) (served : List Served) (m : Member) (group : List Member) → is_eligible at p direct served m ≡ lacks
    → filter (is_eligible at p direct served) (cond same (m ∷ group) group) ≡ cond (same && lacks) (m ∷ filter (is_eligible at p direct served) group) (filter (is_eligible at p direct served) group)
eligible_by true lacks at p direct served m group e = ap (λ b. cond b (m ∷ filter (is_eligible at p direct served) group) (filter (is_eligible at p direct served) group)) e
eligible_by false lacks at p direct served m group e = refl

-- one member more is eligible exactly if it is a candidate
pub eligible_of-cons : (at : Answers) (p : Publication) (direct : List Copy) (served : List Served) (text : List ℕ) (m : Member) (ms : List Member) → eligible_of at p direct served text (m ∷ ms)
    ≡ cond (is_candidate at p direct served text m) (m ∷ eligible_of at p direct served text ms) (eligible_of at p direct served text ms)
eligible_of-cons at p direct served text m ms = eligible_by (bytes_eq m.sub.filter text) (is_eligible at p direct served m) at p direct served m (in_group text ms) refl

-- a candidate is an eligible member: it has a number among them
number_by : (b : Bool) (x : Member) (es : List Member) (m d : Member) → ((n : ℕ) × (n < length es) × (get_or es n d ≡ m)) → (n : ℕ) × (n < length (cond b (x ∷ es) es)) × (get_or (cond b (x ∷ es) es) n d ≡ m)
number_by true x es m d h = (suc h.0, omega (arith, h.1), h.2)
number_by false x es m d h = h

-- a candidate has a number among the eligible members of its group
pub number_of : (at : Answers) (p : Publication) (direct : List Copy) (served : List Served) (text : List ℕ) (ms : List Member) (i : ℕ) (d : Member) → i < length ms → is_candidate at p direct served text (get_or ms i d) ≡ true
    → (n : ℕ) × (n < length (eligible_of at p direct served text ms)) × (get_or (eligible_of at p direct served text ms) n d ≡ get_or ms i d)
number_of at p direct served text [] i d l e = absurd (omega arith)
number_of at p direct served text (m ∷ ms) zero d l e =
    let is : eligible_of at p direct served text (m ∷ ms) ≡ m ∷ eligible_of at p direct served text ms
    = eligible_of-cons at p direct served text m ms ∙ ap (λ b. cond b (m ∷ eligible_of at p direct served text ms) (eligible_of at p direct served text ms)) e
    in
    (0, omega (arith, ap length is), ap (λ es. get_or es 0 d) is)
number_of at p direct served text (m ∷ ms) (suc i) d l e =
    let more = number_by (is_candidate at p direct served text m) m (eligible_of at p direct served text ms) (get_or ms i d) d (number_of at p direct served text ms i d (omega arith) e) in
    let is = eligible_of-cons at p direct served text m ms in
    (more.0, subst (λ es. more.0 < length es) (sym is) more.1, ap (λ es. get_or es more.0 d) is ∙ more.2)

chosen_at : (es : List Member) (n : ℕ) (d m : Member) → n < length es → get_or es n d ≡ m → chosen n es ≡ Some m
chosen_at [] n d m l e = absurd (omega arith)
chosen_at (x ∷ xs) n d m l e = ap Some (get_or_default (x ∷ xs) n x d l ∙ e)

-- the group of a chosen candidate
pub serve_one-candidate : (at : Answers) (p : Publication) (direct : List Copy) (served : List Served) (text : List ℕ) (all : List Member) (i : ℕ) (d : Member) → IsCandidateAt at p direct served text all i
    → (n : ℕ) × (serve_one at p direct served n text all ≡ Some (record { group = group_of text; copy = Some (shared_copy p (get_or all i d)) }))
serve_one-candidate at p direct served text all i d h =
    let found = number_of at p direct served text all i d h.0 (h.1 d) in
    (found.0, ap (outcome p text (in_group text all)) (chosen_at (eligible_of at p direct served text all) found.0 d (get_or all i d) found.1 found.2))

-- a group without one
pub serve_one-none : (at : Answers) (p : Publication) (direct : List Copy) (served : List Served) (text : List ℕ) (all : List Member) (b : Bool) → eligible_of at p direct served text all ≡ [] → list_any (needs_room p) (in_group text all) ≡ b
    → serve_one at p direct served 0 text all ≡ cond b None (Some (record { group = group_of text; copy = None }))
serve_one-none at p direct served text all b e h =
    ap (λ es. outcome p text (in_group text all) (chosen 0 es)) e ∙ ap (λ x. cond x None (Some (let s : Served = record { group = group_of text; copy = None } in s))) h

-- ---- one group after another

-- a group that was served by this number stands behind those before, and the others come next
pub serve-next : (at : Answers) (p : Publication) (all : List Member) (direct : List Copy) (n : ℕ) (rest : List ℕ) (f : List ℕ) (fs : List (List ℕ)) (served : List Served) (s : Served) → serve_one at p direct served n f all ≡ Some s
    → serve at p all direct (n ∷ rest) (f ∷ fs) served ≡ serve at p all direct rest fs (served ++ s ∷ [])
serve-next at p all direct n rest f fs served s e = ap (option_and_then (λ (x : Served). serve at p all direct rest fs (served ++ x ∷ []))) e

-- if a group can't be served, none of the groups are
pub serve-stop : (at : Answers) (p : Publication) (all : List Member) (direct : List Copy) (n : ℕ) (rest : List ℕ) (f : List ℕ) (fs : List (List ℕ)) (served : List Served) → serve_one at p direct served n f all ≡ None
    → serve at p all direct (n ∷ rest) (f ∷ fs) served ≡ None
serve-stop at p all direct n rest f fs served e = ap (option_and_then (λ (x : Served). serve at p all direct rest fs (served ++ x ∷ []))) e

-- what follows of each value follows if there is one
pub if_ok_more : {X E : Type 0} (P Q : X → Type 0) (r : Result X E) → ((x : X) → P x → Q x) → IfOk r P → IfOk r Q
if_ok_more P Q (Ok x) more h = more x h
if_ok_more P Q (Err e) more h = tt

-- ---- a loop over the members

drop_past : (ms : List Member) (i : ℕ) → length ms ≤ i → drop i ms ≡ []
drop_past [] zero l = refl
drop_past [] (suc i) l = refl
drop_past (m ∷ ms) zero l = absurd (omega arith)
drop_past (m ∷ ms) (suc i) l = drop_past ms i (omega arith)

cut_at : (ms : List Member) (i : ℕ) (m : Member) → i < length ms → m ≡ get_or ms i m → drop i ms ≡ m ∷ drop (i + 1) ms
cut_at ms i m l e = let cut : drop i ms ≡ get_or ms i m ∷ drop (i + 1) ms = rw (add-one, drop-cons ms i m) in cut ∙ ap (λ x. x ∷ drop (i + 1) ms) (sym e)

-- a member that is no candidate leaves the eligible ones among the rest as they are
pub eligible_of-drop : (at : Answers) (p : Publication) (direct : List Copy) (served : List Served) (text : List ℕ) (ms : List Member) (i : ℕ) (m : Member) → i < length ms → m ≡ get_or ms i m → is_candidate at p direct served text m ≡ false
    → eligible_of at p direct served text (drop (i + 1) ms) ≡ eligible_of at p direct served text (drop i ms)
eligible_of-drop at p direct served text ms i m l e not_it =
    let rest = drop (i + 1) ms in
    sym (ap (eligible_of at p direct served text) (cut_at ms i m l e) ∙ eligible_of-cons at p direct served text m rest ∙ ap (λ b. cond b (m ∷ eligible_of at p direct served text rest) (eligible_of at p direct served text rest)) not_it)

-- the groups of the first i members were served by these choices
abbrev pub SoFar : Answers → Publication → List Member → List Copy → ℕ → List Served → Type 0
SoFar at p ms direct i served =
    (ns : List ℕ) × ((rest : List ℕ) → serve at p ms direct (ns ++ rest) (groups ms) [] ≡ serve at p ms direct rest (groups_after (take i ms) (drop i ms)) served)

-- before the first member no group is served
pub so_far_start : (at : Answers) (p : Publication) (ms : List Member) (direct : List Copy) → SoFar at p ms direct 0 []
so_far_start at p ms direct = ([], λ rest. refl)

-- the groups that are left before the member m
left_at : (ms : List Member) (i : ℕ) (m : Member) → i < length ms → m ≡ get_or ms i m
    → groups_after (take i ms) (drop i ms) ≡ cond (has_filter_among m.sub.filter (take i ms)) (groups_after (take (i + 1) ms) (drop (i + 1) ms)) (m.sub.filter ∷ groups_after (take (i + 1) ms) (drop (i + 1) ms))
left_at ms i m l e =
    let more : take (i + 1) ms ≡ take i ms ++ m ∷ [] = take_more ms i m l ∙ ap (λ x. take i ms ++ x ∷ []) (sym e) in
    let rest = drop (i + 1) ms in
    ap (groups_after (take i ms)) (cut_at ms i m l e) ∙ ap (λ front. cond (has_filter_among m.sub.filter (take i ms)) (groups_after front rest) (m.sub.filter ∷ groups_after front rest)) (sym more)

-- a member of a group that was served already changes nothing
pub so_far_known : (at : Answers) (p : Publication) (ms : List Member) (direct : List Copy) (i : ℕ) (served : List Served) (m : Member) → i < length ms → m ≡ get_or ms i m → has_filter_among m.sub.filter (take i ms) ≡ true
    → SoFar at p ms direct i served → SoFar at p ms direct (i + 1) served
so_far_known at p ms direct i served m l e known h =
    let rest = groups_after (take (i + 1) ms) (drop (i + 1) ms) in
    let left = left_at ms i m l e ∙ ap (λ b. cond b rest (m.sub.filter ∷ rest)) known in
    (h.0, λ choices. h.1 choices ∙ ap (λ gs. serve at p ms direct choices gs served) left)

-- the first member of a new group adds what that group was served
pub so_far_new : (at : Answers) (p : Publication) (ms : List Member) (direct : List Copy) (i : ℕ) (served : List Served) (m : Member) (s : Served) → i < length ms → m ≡ get_or ms i m → has_filter_among m.sub.filter (take i ms) ≡ false
    → SoFar at p ms direct i served → ((n : ℕ) × (serve_one at p direct served n m.sub.filter ms ≡ Some s)) → SoFar at p ms direct (i + 1) (served ++ s ∷ [])
so_far_new at p ms direct i served m s l e new h one =
    let rest = groups_after (take (i + 1) ms) (drop (i + 1) ms) in
    let left = left_at ms i m l e ∙ ap (λ b. cond b rest (m.sub.filter ∷ rest)) new in (
      h.0 ++ one.0 ∷ [],
      λ choices. ap (λ ns. serve at p ms direct ns (groups ms) []) (append_assoc h.0 (one.0 ∷ []) choices) ∙ h.1 (one.0 ∷ choices) ∙ ap (λ gs. serve at p ms direct (one.0 ∷ choices) gs served) left
          ∙ serve-next at p ms direct one.0 choices m.sub.filter rest served s one.1,
    )

-- if a new group can't be served, by some choice the publication isn't
pub so_far_full : (at : Answers) (p : Publication) (ms : List Member) (direct : List Copy) (i : ℕ) (served : List Served) (m : Member) → i < length ms → m ≡ get_or ms i m → has_filter_among m.sub.filter (take i ms) ≡ false
    → SoFar at p ms direct i served → ((n : ℕ) × (serve_one at p direct served n m.sub.filter ms ≡ None)) → IsUnserved at p ms direct
so_far_full at p ms direct i served m l e new h one =
    let rest = groups_after (take (i + 1) ms) (drop (i + 1) ms) in
    let left = left_at ms i m l e ∙ ap (λ b. cond b rest (m.sub.filter ∷ rest)) new in
    (h.0 ++ one.0 ∷ [], h.1 (one.0 ∷ []) ∙ ap (λ gs. serve at p ms direct (one.0 ∷ []) gs served) left ∙ serve-stop at p ms direct one.0 [] m.sub.filter rest served one.1)

-- behind the last member all groups are served, by some choice
pub so_far_end : (at : Answers) (p : Publication) (ms : List Member) (direct : List Copy) (i : ℕ) (served : List Served) → length ms ≤ i → SoFar at p ms direct i served → IsServing at p ms direct served
so_far_end at p ms direct i served l h = (h.0 ++ [], h.1 [] ∙ ap (λ rest. serve at p ms direct [] (groups_after (take i ms) rest) served) (drop_past ms i l))

-- what a refused group answers for all
pub refused_one : (at : Answers) (p : Publication) (ms : List Member) (direct : List Copy) (i : ℕ) (served : List Served) (m : Member) (fault : RoutesFault) → i < length ms → m ≡ get_or ms i m → has_filter_among m.sub.filter (take i ms) ≡ false
    → SoFar at p ms direct i served → RefusesOne at p direct served m.sub.filter ms fault → RefusesServing at p ms direct fault
refused_one at p ms direct i served m Full l e new h one = so_far_full at p ms direct i served m l e new h one
refused_one at p ms direct i served m Memory l e new h one = tt
