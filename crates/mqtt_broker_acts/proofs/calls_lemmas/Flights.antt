-- In lawful records packet identifiers in flight differ.
use Rattle.std.proofs.Common.{◌≡◌, ◌≢◌, ℕ, Bool, cond, List, [], ◌∷◌, nat_eq, refl, sym, ap, ◌∙◌, inl, inr}
use Rattle.std.specs.Prelude.{Option, Some, None, filter_map}
use Rattle.std.specs.List.{AllByRecursion}
use Rattle.std.proofs.lemmas.Bool.{cases_Bool, eqb-true}
use Rattle.mqtt_base.specs.Phases.{identifier_of}
use Rattle.mqtt_base.specs.declared.session.Phase.{Phase}
use Rattle.mqtt_base.specs.declared.session.Phase.TheVariants.{Waiting, Sent, Released, Oversize}
use Rattle.mqtt_keep.specs.lawful.Lawful.{IsLawful, IsLawfulSession, last_of}
use Rattle.mqtt_records.specs.messages.Queue.{CopyRow}
use Rattle.mqtt_records.specs.declared.state.records.Records.{Records}
use Rattle.mqtt_records.specs.declared.state.session.Session.{Session}
use Rattle.mqtt_records.specs.state.Session.{copy_place}
use Rattle.mqtt_records.specs.lists.Distinct.{AllDiffer}
use Rattle.mqtt_records.specs.lists.Order.{row_at}
use Rattle.mqtt_rules.specs.step.Flight.{HasDistinctIdentifiers, IsFlight, identifier_at, identifier_in}
use Rattle.mqtt_rules.proofs.step_lemmas.numbers.Copies.{each_more}

abbrev id_of : CopyRow → Option ℕ
id_of row = identifier_of row.phase

-- an identifier that differs from all of these is found at no place
other_first : (o : Option ℕ) (n : ℕ) (f : CopyRow → Option ℕ) (x : CopyRow) (xs : List CopyRow) → f x ≡ o → AllByRecursion (λ y. n ≢ y) (filter_map f (x ∷ xs)) → o ≢ Some n
other_first None n f x xs is h = λ e. absurd cc
other_first (Some m) n f x xs is h = λ e. (rw is at h).0 cc

others_too : (o : Option ℕ) (n : ℕ) (f : CopyRow → Option ℕ) (x : CopyRow) (xs : List CopyRow) → f x ≡ o → AllByRecursion (λ y. n ≢ y) (filter_map f (x ∷ xs)) → AllByRecursion (λ y. n ≢ y) (filter_map f xs)
others_too None n f x xs is h = rw is at h
others_too (Some m) n f x xs is h = (rw is at h).1

not_found : (n place : ℕ) (xs : List CopyRow) → AllByRecursion (λ y. n ≢ y) (filter_map id_of xs) → identifier_at place xs ≢ Some n
not_found n place [] h = λ e. absurd cc
not_found n place (x ∷ xs) h = elim (cases_Bool (nat_eq x.place place)) [
  | inl same ↦ λ e. other_first (id_of x) n id_of x xs refl h ((sym (ap (λ (b : Bool). identifier_in (cond b (Some x) (row_at copy_place place xs))) same) ∙ e))
  | inr other ↦ λ e. not_found n place xs (others_too (id_of x) n id_of x xs refl h) (sym (ap (λ (b : Bool). identifier_in (cond b (Some x) (row_at copy_place place xs))) other) ∙ e)
]

differ_rest : (o : Option ℕ) (f : CopyRow → Option ℕ) (x : CopyRow) (xs : List CopyRow) → f x ≡ o → AllDiffer (filter_map f (x ∷ xs)) → AllDiffer (filter_map f xs)
differ_rest None f x xs is h = rw is at h
differ_rest (Some m) f x xs is h = (rw is at h).1

differ_first : (n : ℕ) (f : CopyRow → Option ℕ) (x : CopyRow) (xs : List CopyRow) → f x ≡ Some n → AllDiffer (filter_map f (x ∷ xs)) → AllByRecursion (λ y. n ≢ y) (filter_map f xs)
differ_first n f x xs is h = (rw is at h).0

found_once : (place other n : ℕ) (xs : List CopyRow) → AllDiffer (filter_map id_of xs) → identifier_at place xs ≡ Some n → identifier_at other xs ≡ Some n → place ≡ other
found_once place other n [] h one two = absurd cc
found_once place other n (x ∷ xs) h one two = elim (cases_Bool (nat_eq x.place place)) [
  | inl here ↦
      let first : identifier_of x.phase ≡ Some n = (sym (ap (λ (b : Bool). identifier_in (cond b (Some x) (row_at copy_place place xs))) here) ∙ one) in
      elim (cases_Bool (nat_eq x.place other)) [
        | inl too ↦ sym (eqb-true x.place place here) ∙ eqb-true x.place other too
        | inr later ↦ absurd (not_found n other xs (differ_first n id_of x xs first h) (sym (ap (λ (b : Bool). identifier_in (cond b (Some x) (row_at copy_place other xs))) later) ∙ two))
      ]
  | inr behind ↦
      let rest : identifier_at place xs ≡ Some n = sym (ap (λ (b : Bool). identifier_in (cond b (Some x) (row_at copy_place place xs))) behind) ∙ one in
      elim (cases_Bool (nat_eq x.place other)) [
        | inl too ↦
            let first : identifier_of x.phase ≡ Some n = (sym (ap (λ (b : Bool). identifier_in (cond b (Some x) (row_at copy_place other xs))) too) ∙ two) in
            absurd (not_found n place xs (differ_first n id_of x xs first h) rest)
        | inr later ↦ found_once place other n xs (differ_rest (id_of x) id_of x xs refl h) rest (sym (ap (λ (b : Bool). identifier_in (cond b (Some x) (row_at copy_place other xs))) later) ∙ two)
      ]
]

-- what a store may hold has its identifiers in flight apart
pub lawful_flight : (r : Records) → IsLawful r → HasDistinctIdentifiers r
lawful_flight r h =
    each_more (IsLawfulSession (last_of r)) (λ (s : Session). IsFlight s.queue)
    (λ s g. record { places = g.queue.table.ascending; identifiers = λ place other id one two. found_once place other id s.queue g.queue.identifiers one two })
    r.sessions h.sessions.each
