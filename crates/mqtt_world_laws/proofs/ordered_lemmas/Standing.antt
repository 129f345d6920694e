-- A line that was given before a call and stands behind it stood before it, and the call did not close it (MQTT 5.0, 4.2, 4.13).
use Rattle.std.proofs.Common.{◌≡◌, ℕ, suc, ◌≤◌, Bool, true, false, not, List, [], ◌∷◌, ◌++◌, filter, map, Option, Some, None, nat_eq, refl, sym, ap, subst, ◌∙◌, arith, inl, inr}
use Rattle.std.specs.Prelude.{⊤, find, filter_map, is_some}
use Rattle.std.specs.List.{list_any}
use Rattle.std.proofs.lemmas.Bool.{cases_Bool, eqb-true}
use Rattle.mqtt_records.proofs.lists_lemmas.OrderLemmas.{apart}
use Rattle.mqtt_rules.specs.declared.step.Capacity.{Capacity}
use Rattle.mqtt_rules.specs.step.Deeds.{At, Deed, Gone, Greet, Hear, Leave, LinePart, Link, On, Part, SetAlias, Went, after, after_all, closing, fresh_line, given_after, line_after, lines_at, on_line, rows_of_all, without_place}
use Rattle.mqtt_rules.specs.step.State.{Broker, Env, Line, MemberChoice, is_of}
use Rattle.mqtt_rules.specs.step.Step.{Call, at_moment, deeds, env_of, stepped, told}
use Rattle.mqtt_rules.proofs.step_lemmas.acts.Acts.{anyone, finds_anyone}
use Rattle.mqtt_rules.proofs.step_lemmas.acts.ByDeeds.{DeedLaw, leads_deeds}
use Rattle.mqtt_rules.proofs.step_lemmas.acts.Goods.{AreGood}
use Rattle.mqtt_world_model.specs.model.Lines.{is_one_of, stands}
use Rattle.mqtt_world_model.proofs.model_lemmas.seats.Seeing.{done_lines}
use Rattle.mqtt_world_laws.proofs.acceptance_lemmas.publishers.Ends.{find_no_more}

-- ---- a new line has the next number

abbrev LinksNext : Deed → Broker → Type 0
LinksNext (Link n) b = n ≡ suc b.given
LinksNext d b = ⊤

links_next : (env : Env) → DeedLaw env anyone (λ b. ⊤) LinksNext
links_next env = record {
  finds = finds_anyone (λ b. ⊤);
  client_stays = λ client d b k g its. tt;
  kept = λ d b k g. tt;
  accept = λ origin m b k said. tt;
  keep = λ m b k said is full found. tt;
  forget = λ place b k. tt;
  enter = λ who copy b k made. tt;
  leave = λ who e ending b k. tt;
  refuse_will = λ who b k its. tt;
  open_id = λ s id m ds b k h its there new is. tt;
  alone = λ who part b k its is. tt;
  close = λ who b k its. tt;
  finish = λ who b k its. tt;
  resume = λ who expiry will b k its. tt;
  name = λ b k. tt;
  begin_given = λ c b k came taken name is room. tt;
  begin_assigned = λ c b k h came taken room. tt;
  count = λ b k. tt;
  subscribe = λ w s b k h its granted. tt;
  link = λ b k. refl;
  on_line = λ line part b k. tt;
  send = λ line packet b k. tt;
  gone = λ line b k. tt;
}

-- ---- a line of this number

module _ (n : ℕ) where
  abbrev has_number : Line → Bool
  has_number l = nat_eq l.number n

  abbrev Has : List Line → Type 0
  Has ls = is_some (find has_number ls) ≡ true

  abbrev is_closed : List ℕ → Bool
  is_closed ms = list_any (λ (m : ℕ). nat_eq m n) ms

  past_it : (now : ℕ) (part : LinePart) (l : Line) (ls : List Line) → has_number l ≡ false → Has (line_after now part l ∷ ls) → Has ls
  past_it now Hear l ls no_ h = rw no_ at h
  past_it now (Greet birth keep_alive window largest most) l ls no_ h = rw no_ at h
  past_it now (SetAlias alias topic) l ls no_ h = rw no_ at h
  past_it now (Went place) l ls no_ h = rw no_ at h

  has_on : (now m : ℕ) (part : LinePart) (ls : List Line) → Has (on_line now m part ls) → Has ls
  has_on now m part [] h = h
  has_on now m part (l ∷ ls) h = elim (cases_Bool (has_number l)) [
    | inl its ↦ rw its refl
    | inr no_ ↦ elim (cases_Bool (nat_eq l.number m)) [
      | inl this ↦ rw no_ (past_it now part l ls no_ (rw this at h))
      | inr other ↦ rw no_ (has_on now m part ls (rw (other, no_) at h))
    ]
  ]

  has_gone : (m : ℕ) (ls : List Line) → Has (filter (λ (l : Line). not (nat_eq l.number m)) ls) → Has ls
  has_gone m [] h = h
  has_gone m (l ∷ ls) h = elim (cases_Bool (has_number l)) [
    | inl its ↦ rw its refl
    | inr no_ ↦ elim (cases_Bool (nat_eq l.number m)) [
      | inl goes ↦ rw no_ (has_gone m ls (rw goes at h))
      | inr stays ↦ rw no_ (has_gone m ls (rw (stays, no_) at h))
    ]
  ]

  none_of_its : (ls : List Line) → Has (filter (λ (l : Line). not (nat_eq l.number n)) ls) → ⊥
  none_of_its [] h = absurd cc
  none_of_its (l ∷ ls) h = elim (cases_Bool (has_number l)) [
    | inl goes ↦ none_of_its ls (rw goes at h)
    | inr stays ↦ none_of_its ls (rw (stays, stays) at h)
  ]

  has_left : (birth place : ℕ) (ls : List Line) → Has (map (without_place birth place) ls) → Has ls
  has_left birth place [] h = h
  has_left birth place (l ∷ ls) h = elim (cases_Bool (has_number l)) [
    | inl its ↦ rw its refl
    | inr no_ ↦ elim (cases_Bool (is_of l.session birth)) [
      | inl is ↦ rw no_ (has_left birth place ls (rw (is, no_) at h))
      | inr other ↦ rw no_ (has_left birth place ls (rw (other, no_) at h))
    ]
  ]

  has_part : (birth : ℕ) (part : Part) (ls : List Line) → Has (lines_at birth part ls) → Has ls
  has_part birth (Leave e ending) ls h = has_left birth e.place ls h
  has_part birth part ls h = h

  has_linked : (m now : ℕ) (ls : List Line) → nat_eq m n ≡ false → Has (ls ++ fresh_line m now ∷ []) → Has ls
  has_linked m now ls other h = sym (ap is_some (find_no_more has_number (fresh_line m now) ls other)) ∙ h

  -- ---- by deeds

  -- it stood before them, and they do not close it
  record Stood (ds : List Deed) (b : Broker) : Type 0 where
    before : Has b.lines
    closes : is_closed (filter_map closing ds) ≡ false

  stood_before : (d : Deed) (b : Broker) → n ≤ b.given → LinksNext d b → Has (after d b).lines → Has b.lines
  stood_before (Link m) b le next h = has_linked m b.now b.lines (apart m n (λ same. omega (arith, le, next, same))) h
  stood_before (On m part) b le next h = has_on b.now m part b.lines h
  stood_before (Gone m) b le next h = has_gone m b.lines h
  stood_before (At who part) b le next h = has_part who.birth part b.lines h
  stood_before d b le next h = h

  given_on : (d : Deed) (b : Broker) → n ≤ b.given → LinksNext d b → n ≤ given_after d b.given
  given_on (Link m) b le next = omega (arith, le, next)
  given_on d b le next = le

  stood : (ds : List Deed) (b : Broker) → n ≤ b.given → AreGood LinksNext ds b → Has (after_all ds b).lines → Stood ds b
  stood [] b le good h = record { before = h; closes = refl }
  stood (d ∷ ds) b le good h =
      let rest = stood ds (after d b) (given_on d b le good.0) good.1 h in
      record { before = stood_before d b le good.0 rest.before; closes = by d rest }
    where
      by : (d : Deed) → Stood ds (after d b) → is_closed (filter_map closing (d ∷ ds)) ≡ false
      by (Gone m) rest = elim (cases_Bool (nat_eq m n)) [
        | inl its ↦ absurd (none_of_its b.lines (subst (λ (k : ℕ). Has (filter (λ (l : Line). not (nat_eq l.number k)) b.lines)) (eqb-true m n its) rest.before))
        | inr other ↦ rw other rest.closes
      ]
      by d rest = rest.closes

-- ---- over a call

-- a line of a number that was given, which stands behind a call
pub stood_call : (limits : Capacity) (choice : MemberChoice) (now : ℕ) (call : Call) (b : Broker) (x : Option ℕ) → ((n : ℕ) → x ≡ Some n → n ≤ b.given) → stands x (stepped limits choice now call b) ≡ true
    → (stands x b ≡ true) × (is_one_of x (told limits choice now call b).closed ≡ false)
stood_call limits choice now call b None given h = absurd cc
stood_call limits choice now call b (Some n) given h =
    let a = at_moment now b in
    let env = env_of limits choice b in
    let ds = deeds limits choice now call b in
    let good = (leads_deeds env (λ c. ⊤) LinksNext (links_next env) (λ who place phase c k. tt) call a tt).0 in
    let has : Has n (after_all ds a).lines = subst (Has n) (done_lines (rows_of_all ds a.records) (after_all ds a)) h in
    let s = stood n ds a (given n refl) good has in
    (s.before, s.closes)
