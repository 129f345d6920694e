-- Lemmas on the order of levels.
use Rattle.std.proofs.Common.{◌≡◌, ℕ, Bool, true, false, List, [], ◌∷◌, refl, sym, ap, ◌∙◌}
use Rattle.std.specs.declared.cmp.Ordering.{Ordering}
use Rattle.std.specs.declared.cmp.Ordering.TheVariants.{Less, Equal, Greater}
use Rattle.std.specs.Ordering.{nat_cmp, is_eq, ordering_reverse}
use Rattle.std.specs.Cmp.{alike_right, tied_itself}
use Rattle.std.specs.Cmp.Lexicographic.{slice_cmp, nat_list_cmp_total, texts_ties}
use Rattle.mqtt_topic.specs.names.Levels.{is_none_left}
use Rattle.mqtt_routes.specs.tree.Tree.{by_first, in_order, is_before, begins_with}

-- how two levels compare
abbrev pub levels_cmp : List ℕ → List ℕ → Ordering
levels_cmp f g = slice_cmp nat_cmp f g

first_by : (o p : Ordering) (also rest : Bool) (f g l : List ℕ) → levels_cmp f g ≡ o → levels_cmp g l ≡ p → by_first o rest ≡ true → by_first p also ≡ true → by_first (levels_cmp f l) also ≡ true
first_by Less Less also rest f g l e h a b = ap (λ (x : Ordering). by_first x also) (nat_list_cmp_total.trans f g l e h)
first_by Less Equal also rest f g l e h a b = ap (λ (x : Ordering). by_first x also) (sym (alike_right nat_list_cmp_total g l f h) ∙ e)
first_by Less Greater also rest f g l e h a b = cc
first_by Equal p also rest f g l e h a b = ap (λ (x : Ordering). by_first x also) (nat_list_cmp_total.congr f g l e ∙ h) ∙ b
first_by Greater p also rest f g l e h a b = cc

-- what comes before what comes before a level comes before it
pub before_earlier : (also : Bool) (l : List ℕ) (fs gs : List (List ℕ)) → in_order fs gs ≡ true → is_before also l gs ≡ true → is_before also l fs ≡ true
before_earlier also l [] gs o h = refl
before_earlier also l (f ∷ fs) [] o h = cc
before_earlier also l (f ∷ fs) (g ∷ gs) o h = first_by (levels_cmp f g) (levels_cmp g l) also (in_order fs gs) f g l refl refl o h

-- and what comes after what doesn't doesn't
pub behind_later : (also : Bool) (l : List ℕ) (fs gs : List (List ℕ)) → in_order fs gs ≡ true → is_before also l fs ≡ false → is_before also l gs ≡ false
behind_later also l fs gs o h = by (is_before also l gs) refl
  where
    by : (b : Bool) → is_before also l gs ≡ b → is_before also l gs ≡ false
    by true e = let yes = before_earlier also l fs gs o e in cc
    by false e = e

same_by : (o : Ordering) → by_first o false ≡ false → by_first o true ≡ true → is_eq o ≡ true
same_by Less h k = cc
same_by Equal h k = refl
same_by Greater h k = cc

-- what comes neither before a level nor behind it begins with it
pub begins_between : (l : List ℕ) (fs : List (List ℕ)) → is_before false l fs ≡ false → is_before true l fs ≡ true → begins_with l fs ≡ true
begins_between l [] h k = cc
begins_between l (f ∷ fs) h k = texts_ties f l ∙ same_by (levels_cmp f l) h k

not_before_by : (o : Ordering) → is_eq o ≡ true → by_first o false ≡ false
not_before_by Less h = cc
not_before_by Equal h = refl
not_before_by Greater h = refl

not_behind_by : (o : Ordering) → is_eq o ≡ true → by_first o true ≡ true
not_behind_by Less h = refl
not_behind_by Equal h = refl
not_behind_by Greater h = cc

-- filters that begin with a level are not before it
pub begins_not_before : (l : List ℕ) (fs : List (List ℕ)) → begins_with l fs ≡ true → is_before false l fs ≡ false
begins_not_before l [] h = cc
begins_not_before l (f ∷ fs) h = not_before_by (levels_cmp f l) (sym (texts_ties f l) ∙ h)

-- nor behind it
pub begins_not_behind : (l : List ℕ) (fs : List (List ℕ)) → begins_with l fs ≡ true → is_before true l fs ≡ true
begins_not_behind l [] h = refl
begins_not_behind l (f ∷ fs) h = not_behind_by (levels_cmp f l) (sym (texts_ties f l) ∙ h)

-- what comes before all levels is none
none_by : (f : List ℕ) (fs : List (List ℕ)) → by_first (levels_cmp f []) false ≡ false
none_by [] fs = refl
none_by (c ∷ cs) fs = refl

-- before all there is only the end
pub none_before : (fs : List (List ℕ)) → is_before false [] fs ≡ is_none_left fs
none_before [] = refl
none_before (f ∷ fs) = none_by f fs

-- ---- levels behind the same one

-- behind a common level the rest decides the order
pub order_tails : (l : List ℕ) (fs gs : List (List ℕ)) → in_order (l ∷ fs) (l ∷ gs) ≡ in_order fs gs
order_tails l fs gs = ap (λ (o : Ordering). by_first o (in_order fs gs)) (tied_itself nat_list_cmp_total l)

-- what comes before a level comes before what begins with it
before_by : (o : Ordering) (rest : Bool) → by_first o false ≡ true → by_first o rest ≡ true
before_by Less rest h = refl
before_by Equal rest h = cc
before_by Greater rest h = cc

-- what is before a level is before all that begins with it
pub order_before : (l : List ℕ) (fs gs : List (List ℕ)) → is_before false l fs ≡ true → in_order fs (l ∷ gs) ≡ true
order_before l [] gs h = refl
order_before l (f ∷ fs) gs h = before_by (levels_cmp f l) (in_order fs gs) h

behind_by : (o : Ordering) (rest : Bool) → by_first o true ≡ false → by_first (ordering_reverse o) rest ≡ true
behind_by Less rest h = cc
behind_by Equal rest h = cc
behind_by Greater rest h = refl

-- what is behind it is behind all of them
pub order_behind : (l : List ℕ) (fs gs : List (List ℕ)) → is_before true l fs ≡ false → in_order (l ∷ gs) fs ≡ true
order_behind l [] gs h = cc
order_behind l (f ∷ fs) gs h = ap (λ (o : Ordering). by_first o (in_order gs fs)) (nat_list_cmp_total.antisymm l f) ∙ behind_by (levels_cmp f l) (in_order gs fs) h
