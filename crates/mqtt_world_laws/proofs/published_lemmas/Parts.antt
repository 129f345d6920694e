-- What a run is made of: one run and then another, its acceptances and ends (MQTT 5.0, 4.3).
use Rattle.std.proofs.Common.{◌≡◌, ℕ, ◌+◌, ◌≤◌, Bool, true, false, List, [], ◌∷◌, ◌++◌, map, refl, sym, ap, subst, ◌∙◌, append_assoc, arith, inl, inr}
use Rattle.std.specs.Prelude.{filter_map}
use Rattle.std.proofs.lemmas.List.{map-append}
use Rattle.std.proofs.lemmas.List.Elements.{filter_map-append}
use Rattle.mqtt_base.specs.declared.session.CopyId.{CopyId}
use Rattle.mqtt_rules.specs.declared.step.Capacity.{Capacity}
use Rattle.mqtt_rules.specs.step.Deeds.{Deed}
use Rattle.mqtt_rules.specs.step.Laws.{IsAmong}
use Rattle.mqtt_rules.specs.step.Numbers.{CountsOn}
use Rattle.mqtt_world_model.specs.model.Laws.{count_of, is_copy}
use Rattle.mqtt_world_model.specs.model.Run.{Acceptance, End, Turn, acceptances_over, deeds_at, deeds_over, ended_in, read_at, run, setting, the_acceptances, turned}
use Rattle.mqtt_world_model.specs.model.World.{World}
use Rattle.mqtt_world_laws.specs.acceptance.Copies.{ended_from}
use Rattle.mqtt_world_laws.proofs.acceptance_lemmas.copies.Counting.{count_append, count_cons}
use Rattle.mqtt_world_laws.proofs.acceptance_lemmas.copies.Told.{copy_is}
use Rattle.mqtt_world_laws.specs.causes.Endings.{EndAt, end_of}
use Rattle.mqtt_world_laws.proofs.published_lemmas.Direct.{among_right}

-- ---- one run and then another

-- its deeds are those of both
pub deeds_parts : (limits : Capacity) (xs ys : List Turn) (w : World) → deeds_over limits (xs ++ ys) w ≡ deeds_over limits xs w ++ deeds_over limits ys (run limits xs w)
deeds_parts limits [] ys w = refl
deeds_parts limits (t ∷ xs) ys w =
    let u = turned limits t w in
    let ds = deeds_at (setting limits t) t.event w in
    ap (λ (es : List Deed). ds ++ es) (deeds_parts limits xs ys u) ∙ sym (append_assoc ds (deeds_over limits xs u) (deeds_over limits ys (run limits xs u)))

-- the ends of deeds
abbrev pub ends_in : List Deed → List End
ends_in ds = filter_map ended_in ds

-- and their copies
abbrev pub copies_of : List End → List CopyId
copies_of es = map (λ (e : End). e.copy) es

-- a copy has ended in both as often as in each
pub ended_parts : (c : CopyId) (limits : Capacity) (xs ys : List Turn) (w : World) → count_of c (ended_from limits (xs ++ ys) w) ≡ count_of c (ended_from limits xs w) + count_of c (ended_from limits ys (run limits xs w))
ended_parts c limits xs ys w =
    let ds = deeds_over limits xs w in
    let es = deeds_over limits ys (run limits xs w) in
    ap (λ (zs : List Deed). count_of c (copies_of (ends_in zs))) (deeds_parts limits xs ys w)
    ∙ (ap (λ (zs : List End). count_of c (copies_of zs)) (filter_map-append ended_in ds es)
    ∙ (ap (count_of c) (map-append (λ (e : End). e.copy) (ends_in ds) (ends_in es)) ∙ count_append c (copies_of (ends_in ds)) (copies_of (ends_in es))))

-- an acceptance of one turn is one of the run
pub acceptance_later : (a : Acceptance) (limits : Capacity) (xs : List Turn) (t : Turn) (ys : List Turn) (w : World) → IsAmong a (acceptances_over limits (t ∷ []) (run limits xs w)) → IsAmong a (acceptances_over limits (xs ++ t ∷ ys) w)
acceptance_later a limits [] t ys w h = among_front (read_at the_acceptances (setting limits t) t.event w) h
  where
    among_front : (zs : List Acceptance) → IsAmong a (zs ++ []) → IsAmong a (zs ++ acceptances_over limits ys (turned limits t w))
    among_front [] h = absurd h
    among_front (x ∷ zs) (inl is) = inl is
    among_front (x ∷ zs) (inr more) = inr (among_front zs more)
acceptance_later a limits (x ∷ xs) t ys w h =
    let u = turned limits x w in
    among_right a (read_at the_acceptances (setting limits x) x.event w) (acceptances_over limits (xs ++ t ∷ ys) u) (acceptance_later a limits xs t ys u h)

-- numbers that count on, behind some of them
pub counts_behind : (n k m : ℕ) (xs ys : List ℕ) → CountsOn n xs k → CountsOn n (xs ++ ys) m → CountsOn k ys m
counts_behind n k m [] ys p q = subst (λ (j : ℕ). CountsOn j ys m) (sym p) q
counts_behind n k m (x ∷ xs) ys p q = counts_behind x k m xs ys p.1 q.1

-- an end of the copy is among these
pub record IsEndOf (c : CopyId) (xs : List EndAt) : Type 0 where
  pub end : EndAt
  pub among : IsAmong end xs
  pub its : end.row.copy.id ≡ c

-- one that is counted among ends is of one of them
pub some_end : (c : CopyId) (xs : List EndAt) → 1 ≤ count_of c (copies_of (map end_of xs)) → IsEndOf c xs
some_end c [] h = let none : 1 ≤ 0 = h in absurd (omega (arith, none))
some_end c (x ∷ xs) h = by (is_copy c x.row.copy.id) refl (λ more. let rest = some_end c xs more in record { end = rest.end; among = inr rest.among; its = rest.its })
  where
    by : (t : Bool) → is_copy c x.row.copy.id ≡ t → (1 ≤ count_of c (copies_of (map end_of xs)) → IsEndOf c (x ∷ xs)) → IsEndOf c (x ∷ xs)
    by true is rest = record { end = x; among = inl refl; its = sym (copy_is c x.row.copy.id is) }
    by false other rest =
        let first = count_cons c x.row.copy.id (copies_of (map end_of xs)) in
        let none : count_of c (x.row.copy.id ∷ []) ≡ 0 = rw other refl in
        let one = count_cons c x.row.copy.id [] in
        rest (omega (arith, first, none, one, h))
