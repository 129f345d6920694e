-- What the walk over the deeds of a step needs: each deed fits what stands, and clients differ.
use Rattle.std.proofs.Common.{◌≡◌, ℕ, ◌≤◌, List, [], ◌∷◌, ◌++◌, refl, ap, subst, arith}
use Rattle.mqtt_base.specs.declared.limits.TheConstants.{LAST_NUMBER}
use Rattle.mqtt_records.specs.declared.state.change.Change.{Change}
use Rattle.mqtt_rules.specs.step.Deeds.{Deed, after, after_all}
use Rattle.mqtt_rules.specs.step.Laws.{AreWithin, IsCoherent, IsUnique, client_at}
use Rattle.mqtt_rules.specs.step.State.{Broker, Env}
use Rattle.mqtt_rules.specs.step.Step.{Call, deeds_of, opening, with_moment}
use Rattle.mqtt_rules.proofs.step_lemmas.acts.Acts.{Law, leads_call, leads_opening}
use Rattle.mqtt_rules.proofs.step_lemmas.acts.ByDeeds.{by_deeds, by_deeds_shuts, turn_law}
use Rattle.mqtt_rules.proofs.step_lemmas.acts.Goods.{AreGood, after_append}
use Rattle.mqtt_rules.proofs.step_lemmas.fit.Coherent.{Coheres, IsFit, coheres_deed}
use Rattle.mqtt_rules.proofs.step_lemmas.fit.FitLaw.{Keeps, autos_grow, fit_law, fit_mark, naming}
use Rattle.mqtt_rules.proofs.step_lemmas.fit.RowsFit.{made_of, naming_call}
use Rattle.mqtt_rules.proofs.step_lemmas.numbers.Counters.{Counts, counts_deed}
use Rattle.mqtt_records.specs.state.Records.{IsNumber}
use Rattle.mqtt_run_laws.specs.wills.Fates.{will_held}

-- each deed fits, what is stored coheres, and no name is assigned above the last number
pub record Fine (ds : List Deed) (b : Broker) : Type 0 where
  pub fit : AreGood IsFit ds b
  pub coherent : Coheres b.records
  pub named : (after_all ds b).records.autos ≤ LAST_NUMBER

-- assigned names are counted up
autos_all : (ds : List Deed) (b : Broker) → AreGood IsFit ds b → b.records.autos ≤ (after_all ds b).records.autos
autos_all [] b fit = omega arith
autos_all (d ∷ ds) b fit =
    let one = autos_grow d b fit.0 in
    let same = ap (λ (c : Counts). c.autos) (counts_deed d b.records) in
    let rest = autos_all ds (after d b) fit.1 in
    omega (arith, one, same, rest)

coheres_all : (ds : List Deed) (b : Broker) → AreGood IsFit ds b → Coheres b.records → Coheres (after_all ds b).records
coheres_all [] b fit h = h
coheres_all (d ∷ ds) b fit h = coheres_all ds (after d b) fit.1 (coheres_deed d b fit.0 h)

good_first : (xs ys : List Deed) (b : Broker) → AreGood IsFit (xs ++ ys) b → AreGood IsFit xs b
good_first [] ys b h = tt
good_first (d ∷ xs) ys b h = (h.0, good_first xs ys (after d b) h.1)

good_rest : (xs ys : List Deed) (b : Broker) → AreGood IsFit (xs ++ ys) b → AreGood IsFit ys (after_all xs b)
good_rest [] ys b h = h
good_rest (d ∷ xs) ys b h = good_rest xs ys (after d b) h.1

-- so it is of the first part of a list
pub fine_first : (xs ys : List Deed) (b : Broker) → Fine (xs ++ ys) b → Fine xs b
fine_first xs ys b h =
    let more = autos_all ys (after_all xs b) (good_rest xs ys b h.fit) in
    let all = subst (λ (c : Broker). c.records.autos ≤ LAST_NUMBER) (after_append xs ys b) h.named in
    record { fit = good_first xs ys b h.fit; coherent = h.coherent; named = omega (arith, more, all) }

-- and of the rest
pub fine_rest : (xs ys : List Deed) (b : Broker) → Fine (xs ++ ys) b → Fine ys (after_all xs b)
fine_rest xs ys b h = record {
  fit = good_rest xs ys b h.fit;
  coherent = coheres_all xs b (good_first xs ys b h.fit) h.coherent;
  named = subst (λ (c : Broker). c.records.autos ≤ LAST_NUMBER) (after_append xs ys b) h.named;
}

-- no two sessions have one client
pub clients_differ : (ds : List Deed) (b : Broker) → Fine ds b → IsUnique (λ birth. client_at birth b.records)
clients_differ ds b h =
    let more = autos_all ds b h.fit in
    let named = h.named in
    h.coherent.clients (omega (arith, more, named))

-- ---- a whole step

module _ (env : Env) (within : AreWithin env.limits) (b : Broker) (h : IsCoherent b.records) (last : IsNumber b.now) where
  keeps : Keeps b
  keeps = (made_of b.records h, last)

  law : Law env naming Keeps IsFit
  law = by_deeds env naming Keeps IsFit (fit_law env within) (turn_law env naming Keeps IsFit (fit_law env within) fit_mark)

  -- each deed of a call fits
  pub call_fits : (call : Call) → AreGood IsFit (deeds_of env call b) b
  call_fits call = (leads_call env naming Keeps IsFit law call b keeps (naming_call call b)).0

  -- and of an opening
  pub opening_fits : AreGood IsFit (opening env b) b
  opening_fits = (leads_opening env naming Keeps IsFit law (by_deeds_shuts env naming Keeps IsFit (fit_law env within) (λ birth. tt)) (λ birth. tt) b keeps).0

-- the moment's row changes no Will
pub moment_wills : (rows : List Change) (k : ℕ) (b : Broker) → will_held k (with_moment rows b).records ≡ will_held k b.records
moment_wills [] k b = refl
moment_wills (row ∷ rows) k b = refl

-- nor the number of names
pub moment_autos : (rows : List Change) (b : Broker) → (with_moment rows b).records.autos ≡ b.records.autos
moment_autos [] b = refl
moment_autos (row ∷ rows) b = refl
