-- One packet: in the form in which it goes out it means what was meant, and the client knows what it tells.
use Rattle.std.proofs.Common.{◌≡◌, ℕ, suc, ◌+◌, ◌≤◌, ◌<◌, Bool, true, false, cond, List, [], ◌∷◌, ◌++◌, length, refl, sym, ap, subst, ◌∙◌, arith, nat_eq, nat_lt, Option, Some, None, inl, inr}
use Rattle.std.specs.Prelude.{◌⊎◌, bytes_eq, unwrap_or}
use Rattle.std.proofs.lemmas.Bool.{cases_Bool, eqb-true, ltb-true}
use Rattle.std.proofs.lemmas.List.{length_push}
use Rattle.std.proofs.lemmas.Cmp.{nat_eq_equiv}
use Rattle.std.proofs.lemmas.Slice.Eq.{bytes_eq-Decides}
use Rattle.mqtt_packet.specs.declared.codec.packet.Packet.{Packet}
use Rattle.mqtt_packet.specs.declared.codec.packet.Packet.TheVariants as packets
use Rattle.mqtt_packet.specs.declared.codec.publish.Publish.{Publish}
use Rattle.mqtt_topic.specs.names.Aliases.{AliasTable, Resolves, after_resolve, topic_of, with_topic}
use Rattle.mqtt_topic.specs.names.Names.{IsTopicName}
use Rattle.mqtt_topic.specs.declared.sending.form.Form.{Form}
use Rattle.mqtt_topic.specs.declared.sending.form.Form.TheVariants.{Plain, Named, Short}
use Rattle.mqtt_topic.specs.sending.Told.{ToldTopics, place_from, alias_of, next_alias, forms_by, topic_in, alias_in, told_in, after_send}
use Rattle.mqtt_rules.specs.step.Forms.{first_within, in_form, is_within}
use Rattle.mqtt_rules.specs.step.State.{Line}
use Rattle.mqtt_rules.specs.step.Deeds.{spoken, tells}
use Rattle.mqtt_rules.specs.telling.Meaning.{HasItsTopic, Knows, Means, after_reading, alias_on}
use Rattle.mqtt_rules.proofs.telling_lemmas.Blocks.{alias_is}

-- ---- places

in_range : (n a : ℕ) (topic : List ℕ) (ts : List (List ℕ)) → place_from n topic ts ≡ Some a → (n ≤ a) × (a < n + length ts)
in_range n a topic [] is = absurd cc
in_range n a topic (t ∷ ts) is = elim (cases_Bool (bytes_eq t topic)) [
  | inl same ↦ let here : Some n ≡ Some a = rw same at is in let at : n ≡ a = cc in (omega (arith, at), omega (arith, at))
  | inr other ↦
      let rest : place_from (suc n) topic ts ≡ Some a = rw other at is in
      let r = in_range (suc n) a topic ts rest in
      let over = r.0 in
      let under = r.1 in
      (omega (arith, over), omega (arith, under))
]

-- a topic that has an alias once another was told had it before, or is the other
told_last : (n a : ℕ) (topic x : List ℕ) (ts : List (List ℕ)) → place_from n topic (ts ++ x ∷ []) ≡ Some a → (place_from n topic ts ≡ Some a) ⊎ ((a ≡ n + length ts) × (x ≡ topic))
told_last n a topic x [] is = elim (cases_Bool (bytes_eq x topic)) [
  | inl same ↦ let here : Some n ≡ Some a = rw same at is in let at : n ≡ a = cc in inr (omega (arith, at), (bytes_eq-Decides x topic).0 same)
  | inr other ↦ let none : None ≡ Some a = rw other at is in absurd cc
]
told_last n a topic x (t ∷ ts) is = elim (cases_Bool (bytes_eq t topic)) [
  | inl same ↦ inl (rw same (rw same at is))
  | inr other ↦
      let rest : place_from (suc n) topic (ts ++ x ∷ []) ≡ Some a = rw other at is in
      by other (told_last (suc n) a topic x ts rest)
]
  where
    by : bytes_eq t topic ≡ false → (place_from (suc n) topic ts ≡ Some a) ⊎ ((a ≡ suc n + length ts) × (x ≡ topic)) → (place_from n topic (t ∷ ts) ≡ Some a) ⊎ ((a ≡ n + length (t ∷ ts)) × (x ≡ topic))
    by other (inl before) = inl (rw other before)
    by other (inr last) = let at = last.0 in inr (omega (arith, at), last.1)

-- ---- a client's table

own : (k : ℕ) (x : List ℕ) (es : List (ℕ × List ℕ)) → topic_of k (with_topic k x es) ≡ Some x
own k x [] = let same = nat_eq_equiv.refl k in rw same refl
own k x (e ∷ es) = by (nat_eq k e.0) refl (own k x es)
  where
    by : (t : Bool) → nat_eq k e.0 ≡ t → topic_of k (with_topic k x es) ≡ Some x → topic_of k (cond t ((e.0, x) ∷ es) (e ∷ with_topic k x es)) ≡ Some x
    by true at rest = rw at refl
    by false at rest = rw at rest

others : (a k : ℕ) (x : List ℕ) (es : List (ℕ × List ℕ)) → nat_eq a k ≡ false → topic_of a (with_topic k x es) ≡ topic_of a es
others a k x [] apart = rw apart refl
others a k x (e ∷ es) apart = by (nat_eq k e.0) refl (others a k x es apart)
  where
    by : (t : Bool) → nat_eq k e.0 ≡ t → topic_of a (with_topic k x es) ≡ topic_of a es → topic_of a (cond t ((e.0, x) ∷ es) (e ∷ with_topic k x es)) ≡ topic_of a (e ∷ es)
    by true at rest =
        let same = eqb-true k e.0 at in
        let not_it : nat_eq a e.0 ≡ false = ap (λ (j : ℕ). nat_eq a j) (sym same) ∙ apart in
        rw not_it refl
    by false at rest = ap (cond (nat_eq a e.0) (Some e.1)) rest

below : (i j : ℕ) → i < j → nat_eq i j ≡ false
below i j less = test (nat_eq i j) refl
  where
    clash : i ≡ j → ⊥
    clash is = omega (arith, is, less)

    test : (t : Bool) → nat_eq i j ≡ t → t ≡ false
    test true same = absurd (clash (eqb-true i j same))
    test false other = refl

-- ---- a topic in a form

-- it means itself, and the client knows what it tells
record Agrees (table : AliasTable) (told : ToldTopics) (topic : List ℕ) (form : Form) : Type 0 where
  pub means : Resolves table (topic_in form topic) (alias_in form) topic
  pub knows : Knows (after_resolve table (topic_in form topic) (alias_in form)) (told_in form topic told)
  pub max : (after_resolve table (topic_in form topic) (alias_in form)).max ≡ table.max

plainly : (table : AliasTable) (told : ToldTopics) (topic : List ℕ) → Knows table told → IsTopicName topic → Agrees table told topic Plain
plainly table told topic k name = record { means = (refl, name); knows = k; max = refl }

shortly : (table : AliasTable) (told : ToldTopics) (topic : List ℕ) (alias : ℕ) → Knows table told → alias_of topic told ≡ Some alias → Agrees table told topic (Short alias)
shortly table told topic alias k has =
    let r = in_range 1 alias topic told.topics has in
    let over = r.0 in
    let under = r.1 in
    let few = k.few in
    let max = k.max in
    record { means = (record { above = omega (arith, over); within = omega (arith, under, few, max) }, k.known topic alias has); knows = k; max = refl }

anew : (table : AliasTable) (told : ToldTopics) (topic : List ℕ) → Knows table told → IsTopicName topic → length told.topics < told.max → Agrees table told topic (Named (suc (length told.topics)))
anew table told [] k name less = absurd (name.some refl)
anew table told (c ∷ cs) k name less =
    let max = k.max in
    let longer = length_push told.topics (c ∷ cs) in
    record {
      means = (record { above = omega arith; within = omega (arith, less, max) }, refl, name);
      knows = record {
        max = max;
        few = omega (arith, longer, less);
        known = λ topic a has. by topic a (told_last 1 a topic (c ∷ cs) told.topics has);
      };
      max = refl;
    }
  where
    by : (topic : List ℕ) (a : ℕ) → (alias_of topic told ≡ Some a) ⊎ ((a ≡ 1 + length told.topics) × (c ∷ cs ≡ topic))
        → topic_of a (with_topic (suc (length told.topics)) (c ∷ cs) table.topics) ≡ Some topic
    by topic a (inl before) =
        let r = in_range 1 a topic told.topics before in
        let under = r.1 in
        let apart : nat_eq a (suc (length told.topics)) ≡ false = below a (suc (length told.topics)) (omega (arith, under)) in
        others a (suc (length told.topics)) (c ∷ cs) table.topics apart ∙ k.known topic a before
    by topic a (inr last) =
        let is = last.0 in
        let at : a ≡ suc (length told.topics) = omega (arith, is) in
        ap (λ (j : ℕ). topic_of j (with_topic (suc (length told.topics)) (c ∷ cs) table.topics)) at
        ∙ (own (suc (length told.topics)) (c ∷ cs) table.topics ∙ ap Some last.1)

-- ---- a packet

-- what goes out of it means it, and the client knows what that tells; it takes as many aliases as before
pub record GoesOut (table : AliasTable) (told after : ToldTopics) (out meant : Packet) : Type 0 where
  pub means : Means table out meant
  pub knows : Knows (after_reading table out) after
  pub max : (after_reading table out).max ≡ table.max

module _ (table : AliasTable) (told : ToldTopics) (p : Publish) (k : Knows table told) (has : HasItsTopic (packets.Publish p)) where
  abbrev Good : Option Form → Type 0
  Good o = GoesOut table told (after_send o p.topic told) (packets.Publish (in_form (unwrap_or o Plain) p)) (packets.Publish p)

  in_some : (form : Form) → Agrees table told p.topic form → Good (Some form)
  in_some form a =
      let alias : alias_in form ≡ alias_on (in_form form p) = sym (alias_is form p has.1) in
      record {
        means = record { form = form; is = refl; topic = subst (λ (o : Option ℕ). Resolves table (topic_in form p.topic) o p.topic) alias a.means };
        knows = subst (λ (o : Option ℕ). Knows (after_resolve table (topic_in form p.topic) o) (told_in form p.topic told)) alias a.knows;
        max = subst (λ (o : Option ℕ). (after_resolve table (topic_in form p.topic) o).max ≡ table.max) alias a.max;
      }

  plain : Good (Some Plain)
  plain = in_some Plain (plainly table told p.topic k has.0)

  none : Good None
  none = record { means = plain.means; knows = plain.knows; max = plain.max }

  pick : (t : Bool) (f : Form) (o : Option Form) → Good (Some f) → Good o → Good (cond t (Some f) o)
  pick true f o x y = x
  pick false f o x y = y

  last : (largest : ℕ) → Good (first_within largest p (Plain ∷ []))
  last largest = pick (is_within largest p Plain) Plain None plain none

  next : (largest : ℕ) (t : Bool) → nat_lt (length told.topics) told.max ≡ t → Good (first_within largest p (forms_by None (cond t (Some (suc (length told.topics))) None)))
  next largest true room =
      let f = Named (suc (length told.topics)) in
      pick (is_within largest p f) f (first_within largest p (Plain ∷ [])) (in_some f (anew table told p.topic k has.0 (ltb-true (length told.topics) told.max room))) (last largest)
  next largest false room = last largest

  by : (largest : ℕ) (o : Option ℕ) → alias_of p.topic told ≡ o → Good (first_within largest p (forms_by o (next_alias told)))
  by largest (Some alias) is =
      pick (is_within largest p (Short alias)) (Short alias) (first_within largest p (Plain ∷ [])) (in_some (Short alias) (shortly table told p.topic alias k is)) (last largest)
  by largest None is = next largest (nat_lt (length told.topics) told.max) refl

  publish_goes : (l : Line) → GoesOut table told (tells (Some l) (packets.Publish p) told) (spoken (Some l) told (packets.Publish p)) (packets.Publish p)
  publish_goes l = by l.largest (alias_of p.topic told) refl

-- to whatever client that knows what it was told
pub goes_out : (table : AliasTable) (told : ToldTopics) (o : Option Line) (packet : Packet) → Knows table told → HasItsTopic packet
    → GoesOut table told (tells o packet told) (spoken o told packet) packet
goes_out table told (Some l) (packets.Publish p) k has = publish_goes table told p k has l
goes_out table told None (packets.Publish p) k has = none table told p k has
goes_out table told (Some l) packet k has = record { means = refl; knows = k; max = refl }
goes_out table told None packet k has = record { means = refl; knows = k; max = refl }
