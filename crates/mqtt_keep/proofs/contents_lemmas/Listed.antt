-- The list of all that is said has what records say, and nothing else.
use Rattle.std.proofs.Common.{◌≡◌, ◌⊎◌, ◌↔◌, List, [], ◌∷◌, ◌++◌, map, flat_map, refl, sym, ap, subst, inl, inr}
use Rattle.mqtt_records.specs.declared.state.session.Session.{Session}
use Rattle.mqtt_records.specs.declared.state.records.Records.{Records}
use Rattle.mqtt_records.specs.state.Members.{Has}
use Rattle.mqtt_records.specs.state.Contents.{StoredMessage, copy_message, retained_message, IsMessageOf, SharesContents}
use Rattle.mqtt_keep.specs.contents.Listed.{messages_of, AllAgree}

module _ {X : Type 0} where
  front_has : (xs ys : List X) (x : X) → Has xs x → Has (xs ++ ys) x
  front_has [] ys x h = absurd h
  front_has (y ∷ xs) ys x (inl here) = inl here
  front_has (y ∷ xs) ys x (inr later) = inr (front_has xs ys x later)

  back_has : (xs ys : List X) (x : X) → Has ys x → Has (xs ++ ys) x
  back_has [] ys x h = h
  back_has (y ∷ xs) ys x h = inr (back_has xs ys x h)

  either_has : (xs ys : List X) (x : X) → Has (xs ++ ys) x → Has xs x ⊎ Has ys x
  either_has [] ys x h = inr h
  either_has (y ∷ xs) ys x (inl here) = inl (inl here)
  either_has (y ∷ xs) ys x (inr later) = elim (either_has xs ys x later) [ inl it ↦ inl (inr it) | inr it ↦ inr it ]

module _ {X Y : Type 0} where
  mapped_has : (f : X → Y) (xs : List X) (x : X) → Has xs x → Has (map f xs) (f x)
  mapped_has f [] x h = absurd h
  mapped_has f (y ∷ xs) x (inl here) = inl (ap f here)
  mapped_has f (y ∷ xs) x (inr later) = inr (mapped_has f xs x later)

  of_mapped : (f : X → Y) (xs : List X) (y : Y) → Has (map f xs) y → (x : X) × Has xs x × (y ≡ f x)
  of_mapped f [] y h = absurd h
  of_mapped f (x ∷ xs) y (inl here) = (x, inl refl, here)
  of_mapped f (x ∷ xs) y (inr later) = let it = of_mapped f xs y later in (it.0, inr it.1, it.2)

  part_has : (g : X → List Y) (xs : List X) (x : X) (y : Y) → Has xs x → Has (g x) y → Has (flat_map g xs) y
  part_has g [] x y h k = absurd h
  part_has g (z ∷ xs) x y (inl here) k = front_has (g z) (flat_map g xs) y (subst (λ w. Has (g w) y) here k)
  part_has g (z ∷ xs) x y (inr later) k = back_has (g z) (flat_map g xs) y (part_has g xs x y later k)

  of_part : (g : X → List Y) (xs : List X) (y : Y) → Has (flat_map g xs) y → (x : X) × Has xs x × Has (g x) y
  of_part g [] y h = absurd h
  of_part g (x ∷ xs) y h = elim (either_has (g x) (flat_map g xs) y h) [
    | inl it ↦ (x, inl refl, it)
    | inr it ↦ let more = of_part g xs y it in (more.0, inr more.1, more.2)
  ]

abbrev queue_says : Session → List StoredMessage
queue_says s = map copy_message s.queue

-- what records say is in the list
is_listed : (r : Records) (m : StoredMessage) → IsMessageOf r m → Has (messages_of r) m
is_listed r m (inl it) =
    let there : Has (queue_says it.2.0) (copy_message it.1) = mapped_has copy_message it.2.0.queue it.1 it.2.3 in
    front_has _ (map retained_message r.retained) m (subst (Has _) (sym it.3) (part_has queue_says r.sessions it.2.0 (copy_message it.1) it.2.1 there))
is_listed r m (inr it) = back_has (flat_map queue_says r.sessions) _ m (subst (Has _) (sym it.2) (mapped_has retained_message r.retained it.0 it.1))

-- what is in the list is said
is_said : (r : Records) (m : StoredMessage) → Has (messages_of r) m → IsMessageOf r m
is_said r m h = elim (either_has (flat_map queue_says r.sessions) (map retained_message r.retained) m h) [
  | inl it ↦
      let of = of_part queue_says r.sessions m it in
      let copy = of_mapped copy_message of.0.queue m of.2 in
      inl (of.0.birth, copy.0, (of.0, of.1, refl, copy.1), copy.2)
  | inr it ↦ inr (of_mapped retained_message r.retained m it)
]

-- contents are shared exactly if all in the list agree
pub listed_says : (r : Records) (ms : List StoredMessage) → ms ≡ messages_of r → AllAgree ms ↔ SharesContents r
listed_says r ms is = (
  λ all m h n k same. all m n (subst (λ (l : List StoredMessage). Has l m) (sym is) (is_listed r m h)) (subst (λ (l : List StoredMessage). Has l n) (sym is) (is_listed r n k)) same,
  λ shared m n h k same. shared m (is_said r m (subst (λ (l : List StoredMessage). Has l m) is h)) n (is_said r n (subst (λ (l : List StoredMessage). Has l n) is k)) same,
)
