-- What is read off an event at the broker doesn't depend on what is under way to ends.
use Rattle.std.proofs.Common.{◌≡◌, ℕ, zero, suc, Bool, true, false, cond, List, Option, Some, None, refl, sym, ap, ap₂, subst, ◌∙◌}
use Rattle.std.specs.Prelude.{bytes_eq, is_some}
use Rattle.mqtt_topic.specs.names.Aliases.{AliasTable}
use Rattle.mqtt_rules.specs.step.State.{Telling}
use Rattle.mqtt_rules.specs.step.Step.{Call}
use Rattle.mqtt_world_model.specs.model.Ends.{Publisher, Receiver}
use Rattle.mqtt_world_model.specs.model.World.{World, Setting, Asking, to_broker, old_to_broker, break, pump, tick, stranger}
use Rattle.mqtt_world_model.specs.model.World.{Event, connect_end, ask, restart, stop_before, stop_after}
use Rattle.mqtt_world_model.specs.model.World.{before, call_of, call_of_stranger, calls, calls_if, comes, first_step, held_count, is_bad, linked_at, next_held, stranger_named}
use Rattle.mqtt_world_model.specs.model.Run.{Reading, read_asked, read_at, read_first, read_if, read_in, read_rest, the_acceptances, the_deeds}
use Rattle.mqtt_world_model.specs.model.Run.{asked_from, message_read}
use Rattle.mqtt_world_laws.specs.acceptance.Steps.{the_steps}
use Rattle.mqtt_world_laws.specs.causes.Endings.{the_asked}
use Rattle.mqtt_world_laws.specs.telling.AsSent.{Most}
use Rattle.mqtt_world_laws.specs.telling.Likewise.{AllPublishersAlike, AllReceiversAlike}
use Rattle.mqtt_world_laws.proofs.telling_lemmas.Bad.{bad_same, call_same}
use Rattle.mqtt_world_laws.proofs.headline_in_forms_lemmas.Found.{same_front, same_old_front}

-- the same world with other ends
abbrev pub with_ends : List Publisher → List Receiver → World → World
with_ends ms vs w = record w { publishers = ms; receivers = vs }

-- a world that differs in its ends alone
abbrev Same : World → World → Type 0
Same x y = y ≡ with_ends y.publishers y.receivers x

by_same : (P : World → Type 0) (x y : World) → Same x y → ((ms : List Publisher) (vs : List Receiver) → P (with_ends ms vs x)) → P y
by_same P x y same each = subst P (sym same) (each y.publishers y.receivers)

-- what is read looks at no end
pub record LooksAtNone {X : Type 0} (r : Reading X) : Type 0 where
  pub linked : (set : Setting) (w : World) (ms : List Publisher) (vs : List Receiver) → r.linked set (with_ends ms vs w) ≡ r.linked set w
  pub called : (set : Setting) (call : Call) (w : World) (ms : List Publisher) (vs : List Receiver) → r.called set call (with_ends ms vs w) ≡ r.called set call w
  pub opened : (set : Setting) (w : World) (ms : List Publisher) (vs : List Receiver) → r.opened set (with_ends ms vs w) ≡ r.opened set w

-- so it is of deeds
pub deeds_none : LooksAtNone the_deeds
deeds_none = record { linked = λ set w ms vs. refl; called = λ set call w ms vs. refl; opened = λ set w ms vs. refl }

-- of what is accepted
pub acceptances_none : LooksAtNone the_acceptances
acceptances_none = record { linked = λ set w ms vs. refl; called = λ set call w ms vs. refl; opened = λ set w ms vs. refl }

-- of steps
pub steps_none : LooksAtNone the_steps
steps_none = record { linked = λ set w ms vs. refl; called = λ set call w ms vs. refl; opened = λ set w ms vs. refl }

-- and of what is asked
pub asked_none : LooksAtNone the_asked
asked_none = record { linked = λ set w ms vs. refl; called = λ set call w ms vs. refl; opened = λ set w ms vs. refl }

-- ---- worlds that differ in their ends alone go on so

if_same : (set : Setting) (o : Option Call) (x y : World) → Same x y → Same (calls_if set o x) (calls_if set o y)
if_same set None x y same = same
if_same set (Some call) x y same = by_same (λ (z : World). Same (calls set call x) (calls set call z)) x y same (λ ms vs. refl)

held_same : (name : List ℕ) (x y : World) → Same x y → Same (next_held name x) (next_held name y)
held_same name x y same = by_same (λ (z : World). Same (next_held name x) (next_held name z)) x y same (λ ms vs. refl)

linked_same : (set : Setting) (t : Bool) (name bytes : List ℕ) (x y : World) → Same x y → Same (linked_at set t name bytes x) (linked_at set t name bytes y)
linked_same set true name bytes x y same = by_same (λ (z : World). Same (linked_at set true name bytes x) (linked_at set true name bytes z)) x y same (λ ms vs. refl)
linked_same set false name bytes x y same = by_same (λ (z : World). Same (linked_at set false name bytes x) (linked_at set false name bytes z)) x y same (λ ms vs. refl)

come_same : (set : Setting) (name bytes : List ℕ) (x y : World) → Same x y → Same (comes set name bytes x) (comes set name bytes y)
come_same set name bytes x y same =
    by_same (λ (z : World). Same (comes set name bytes x) (comes set name bytes z)) x y same
    (λ ms vs. linked_same set (is_some (stranger_named name x)) name bytes x (with_ends ms vs x) refl)

before_same : (set : Setting) (a : Asking) (x y : World) → Same x y → Same (before set a x) (before set a y)
before_same set (to_broker client) x y same = by_same (λ (z : World). Same (before set (to_broker client) x) (before set (to_broker client) z)) x y same (λ ms vs. refl)
before_same set (old_to_broker client) x y same = by_same (λ (z : World). Same (before set (old_to_broker client) x) (before set (old_to_broker client) z)) x y same (λ ms vs. refl)
before_same set (break client) x y same = same
before_same set (pump client) x y same = same
before_same set tick x y same = same
before_same set (stranger name bytes) x y same = come_same set name bytes x y same

-- ---- what is read is the same

module _ {X : Type 0} (r : Reading X) (none : LooksAtNone r) (set : Setting) where
  opened_same : (x y : World) → Same x y → r.opened set y ≡ r.opened set x
  opened_same x y same = by_same (λ (z : World). r.opened set z ≡ r.opened set x) x y same (λ ms vs. none.opened set x ms vs)

  read_if_same : (o : Option Call) (x y : World) → Same x y → read_if r set o y ≡ read_if r set o x
  read_if_same None x y same = refl
  read_if_same (Some call) x y same = by_same (λ (z : World). r.called set call z ≡ r.called set call x) x y same (λ ms vs. none.called set call x ms vs)

  read_rest_same : (more : ℕ) (name : List ℕ) (x y : World) → Same x y → read_rest r set more name y ≡ read_rest r set more name x
  read_rest_same zero name x y same = refl
  read_rest_same (suc more) name x y same =
      by_same (λ (z : World). read_rest r set (suc more) name z ≡ read_rest r set (suc more) name x) x y same
      (λ ms vs.
      let z = with_ends ms vs x in
      let call = call_of_stranger (stranger_named name x) in
      ap₂ r.join (read_if_same call x z refl)
      (read_rest_same more name (calls_if set call (next_held name x)) (calls_if set call (next_held name z)) (if_same set call (next_held name x) (next_held name z) (held_same name x z refl))))

  -- bytes of a stranger come, on a line that it has or on a new one
  stranger_same : (t : Bool) (name bytes : List ℕ) (x y : World) → Same x y
      → read_rest r set (held_count (stranger_named name (linked_at set t name bytes y))) name (linked_at set t name bytes y)
      ≡ read_rest r set (held_count (stranger_named name (linked_at set t name bytes x))) name (linked_at set t name bytes x)
  stranger_same t name bytes x y same =
      let u = linked_at set t name bytes x in
      by_same (λ (z : World). read_rest r set (held_count (stranger_named name z)) name z ≡ read_rest r set (held_count (stranger_named name u)) name u) u (linked_at set t name bytes y)
      (linked_same set t name bytes x y same)
      (λ ms vs. read_rest_same (held_count (stranger_named name u)) name u (with_ends ms vs u) refl)

  module _ (most : Most) (ts : List Telling) (ks : List AliasTable) (x : World) (ms : List Publisher) (vs : List Receiver)
      (hp : AllPublishersAlike x.publishers ms) (hr : AllReceiversAlike most ts x.receivers ks vs) where
    abbrev Other : World
    Other = with_ends ms vs x

    same_call : (a : Asking) → call_of set a Other ≡ call_of set a x
    same_call a = call_same most ts ks x ms vs hp hr set a

    first_same : (a : Asking) → read_first r set a Other ≡ read_first r set a x
    first_same a =
        ap (λ (o : Option Call). read_if r set o (before set a Other)) (same_call a)
        ∙ read_if_same (call_of set a x) (before set a x) (before set a Other) (before_same set a x Other refl)

    step_same : (a : Asking) → Same (first_step set a x) (first_step set a Other)
    step_same a =
        subst (λ (o : Option Call). Same (first_step set a x) (calls_if set o (before set a Other))) (sym (same_call a))
        (if_same set (call_of set a x) (before set a x) (before set a Other) (before_same set a x Other refl))

    asked_same : (a : Asking) → read_asked r set a Other ≡ read_asked r set a x
    asked_same (to_broker client) = first_same (to_broker client)
    asked_same (old_to_broker client) = first_same (old_to_broker client)
    asked_same (break client) = first_same (break client)
    asked_same (pump client) = first_same (pump client)
    asked_same tick = first_same tick
    asked_same (stranger name bytes) = stranger_same (is_some (stranger_named name x)) name bytes x Other refl

    in_same : (e : Event) → read_in r set e Other ≡ read_in r set e x
    in_same (connect_end client clean) = none.linked set x ms vs
    in_same (ask a) = asked_same a
    in_same restart = none.opened set x ms vs
    in_same (stop_before a) = opened_same (before set a x) (before set a Other) (before_same set a x Other refl)
    in_same (stop_after a) = ap₂ r.join (first_same a) (opened_same (first_step set a x) (first_step set a Other) (step_same a))
    in_same e = refl

    -- off an event
    pub read_same : (e : Event) → read_at r set e Other ≡ read_at r set e x
    read_same e =
        ap (λ (bad : Bool). cond bad r.nothing (read_in r set e Other)) (bad_same most ts ks x ms vs hp hr e)
        ∙ ap (λ (y : X). cond (is_bad e x) r.nothing y) (in_same e)

-- ---- the message that is read

module _ (x : World) (ms : List Publisher) (vs : List Receiver) (hp : AllPublishersAlike x.publishers ms) where
  from_same : (client : List ℕ) (a : Asking) → asked_from client a x ≡ asked_from client a (with_ends ms vs x)
  from_same client (to_broker other) = ap (λ (o : Option ℕ). cond (bytes_eq other client) o None) (same_front x (with_ends ms vs x) hp client)
  from_same client (old_to_broker other) = ap (λ (o : Option ℕ). cond (bytes_eq other client) o None) (same_old_front x (with_ends ms vs x) hp client)
  from_same client a = refl

  -- in an event
  pub message_same : (client : List ℕ) (e : Event) → message_read client e x ≡ message_read client e (with_ends ms vs x)
  message_same client (ask a) = from_same client a
  message_same client (stop_after a) = from_same client a
  message_same client e = refl
