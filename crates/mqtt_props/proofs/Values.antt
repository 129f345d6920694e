-- A property that is read is the property that was written, and what was written is read again (MQTT 5.0, 2.2.2).
use Rattle.std.proofs.Common.{◌≡◌, ℕ, ◌^◌, List, [], ◌∷◌, ◌++◌, Option, Some, None, Result, Ok, Err, refl, sym, ap, subst, ◌∙◌, append_assoc, arith}
use Rattle.std.specs.Int.{w16, w32}
use Rattle.mqtt_base.specs.declared.fault.ReadFault.{ReadFault}
use Rattle.mqtt_base.specs.Values.{blob}
use Rattle.mqtt_base.specs.Reading.{◌>>=◌, u8_at, number_at, varint_at, blob_at, text_at}
use Rattle.mqtt_base.proofs.Steps.{IsBytes, IsBytes-rest, bind_ok, ok_is, Takes, Takes-then}
use Rattle.mqtt_base.proofs.Fields.{wide16, wide32, byte_takes, number_takes, number_again, blob_takes, blob_again, text_takes, text_again}
use Rattle.mqtt_base.proofs.Items.{Reads}
use Rattle.mqtt_base.proofs.Varints.{varint_reads, varint_rereads}
use Rattle.mqtt_props.specs.declared.table.PropName.{PropName}
use Rattle.mqtt_props.specs.declared.value.ValueKind.{ValueKind}
use Rattle.mqtt_props.specs.declared.value.ValueKind.TheVariants as kinds
use Rattle.mqtt_props.specs.Table.{property_row, property_names, name_of}
use Rattle.mqtt_props.proofs.TableLemmas.{name_again, named_is}
use Rattle.mqtt_props.specs.Properties.{Value, Byte, U16, U32, VarInt, Text, Binary, Pair, Prop, kind_of, FitsValue, IsProp, value, prop}
use Rattle.mqtt_props.specs.Reading.{malformed, value_at, known, prop_at}

-- ---- values

-- the value is of this kind, and was taken from the front
record TakesValue (kind : ValueKind) (bytes : List ℕ) (v : Value) (rest : List ℕ) : Type 0 where
  taken : Takes bytes (value v) rest
  kind_is : kind_of v ≡ kind
  fits : FitsValue v

one_takes : {A : Type 0} (k : ValueKind) (make : A → Value) (r : Result (A × List ℕ) ReadFault) (bytes : List ℕ) (x : Value × List ℕ)
    → ((y : A × List ℕ) → r ≡ Ok y → Takes bytes (value (make y.0)) y.1 × FitsValue (make y.0)) → ((y : A) → kind_of (make y) ≡ k) → (r >>= λ n. Ok (make n.0, n.1)) ≡ Ok x → TakesValue k bytes x.0 x.1
one_takes k make r bytes x h kind e =
    let b = bind_ok r (λ n. Ok (make n.0, n.1)) x e in
    let t = h b.0 b.1 in
    subst (λ (y : Value × List ℕ). TakesValue k bytes y.0 y.1) (ok_is (make b.0.0, b.0.1) x b.2) (record { taken = t.0; kind_is = kind b.0.0; fits = t.1 })

value_takes : (k : ValueKind) (bytes : List ℕ) (x : Value × List ℕ) → IsBytes bytes → value_at k bytes ≡ Ok x → TakesValue k bytes x.0 x.1
unfolding value_at
value_takes kinds.Byte bytes x fits e = one_takes kinds.Byte (λ n. Byte n) (u8_at bytes) bytes x (λ y. byte_takes bytes y fits) (λ n. refl) e
value_takes kinds.U16 bytes x fits e = one_takes kinds.U16 (λ n. U16 n) (number_at w16 bytes) bytes x (λ y. number_takes w16 (2 ^ 16) wide16 bytes y fits) (λ n. refl) e
value_takes kinds.U32 bytes x fits e = one_takes kinds.U32 (λ n. U32 n) (number_at w32 bytes) bytes x (λ y. number_takes w32 (2 ^ 32) wide32 bytes y fits) (λ n. refl) e
value_takes kinds.VarInt bytes x fits e = one_takes kinds.VarInt (λ n. VarInt n) (varint_at bytes) bytes x (λ y. varint_reads bytes y fits) (λ n. refl) e
value_takes kinds.Text bytes x fits e = one_takes kinds.Text (λ t. Text t) (text_at bytes) bytes x (λ y h. let t = text_takes bytes y fits h in (t.0, (t.1, t.2))) (λ t. refl) e
value_takes kinds.Binary bytes x fits e = one_takes kinds.Binary (λ b. Binary b) (blob_at bytes) bytes x (λ y. blob_takes bytes y fits) (λ b. refl) e
value_takes kinds.Pair bytes x fits e =
    let a = bind_ok (text_at bytes) (λ k. text_at k.1 >>= λ t. Ok (Pair k.0 t.0, t.1)) x e in
    let b = bind_ok (text_at a.0.1) (λ t. Ok (Pair a.0.0 t.0, t.1)) x a.2 in
    let t = text_takes bytes a.0 fits a.1 in
    let u = text_takes a.0.1 b.0 t.0.rest_fits b.1 in
    subst (λ (y : Value × List ℕ). TakesValue kinds.Pair bytes y.0 y.1) (ok_is (Pair a.0.0 b.0.0, b.0.1) x b.2)
    (record { taken = Takes-then bytes (blob a.0.0) a.0.1 (blob b.0.0) b.0.1 t.0 u.0; kind_is = refl; fits = ((t.1, t.2), (u.1, u.2)) })

value_again : (v : Value) (rest : List ℕ) → FitsValue v → value_at (kind_of v) (value v ++ rest) ≡ Ok (v, rest)
unfolding value_at
value_again (Byte n) rest h = refl
value_again (U16 n) rest h = rw (number_again w16 (2 ^ 16) wide16 n rest h) refl
value_again (U32 n) rest h = rw (number_again w32 (2 ^ 32) wide32 n rest h) refl
value_again (VarInt n) rest h = rw (varint_rereads n rest h) refl
value_again (Text t) rest h = rw (text_again t rest h.0 h.1) refl
value_again (Binary b) rest h = rw (blob_again b rest h) refl
value_again (Pair k t) rest h =
    ap (value_at kinds.Pair) (append_assoc (blob k) (blob t) rest) ∙ rw (text_again k (blob t ++ rest) h.0.0 h.0.1, text_again t rest h.1.0 h.1.1) refl

-- ---- properties

known_ok : (o : Option PropName) (n : PropName) → known o ≡ Ok n → o ≡ Some n
known_ok None n e = absurd cc
known_ok (Some m) n e = ap (λ (k : PropName). Some k) (ok_is m n e)

-- what went well went well before its fault was named
pub malformed_ok : {A E : Type 0} (r : Result A E) (x : A) → malformed r ≡ Ok x → r ≡ Ok x
malformed_ok {A} {E} (Ok y) x e = ap (λ (z : A). Ok z) (ok_is y x e)
malformed_ok {A} {E} (Err d) x e = absurd cc

-- a property that was read is the bytes that were taken
pub prop_takes : (bytes : List ℕ) (x : Prop × List ℕ) → IsBytes bytes → prop_at bytes ≡ Ok x → Takes bytes (prop x.0) x.1 × IsProp x.0
unfolding prop_at
prop_takes [] x fits e = absurd cc
prop_takes (id ∷ bytes) x fits e =
    let a = bind_ok (known (name_of id)) (λ name. malformed (value_at (property_row name).kind bytes) >>= λ v. Ok (record { name = name; value = v.0 }, v.1)) x e in
    let b = bind_ok (malformed (value_at (property_row a.0).kind bytes)) (λ v. Ok (record { name = a.0; value = v.0 }, v.1)) x a.2 in
    let is : (property_row a.0).id ≡ id = named_is id property_names a.0 (known_ok (name_of id) a.0 a.1) in
    let v = value_takes (property_row a.0).kind bytes b.0 (IsBytes-rest id bytes fits) (malformed_ok (value_at (property_row a.0).kind bytes) b.0 b.1) in
    let made : Prop × List ℕ = (record { name = a.0; value = b.0.0 }, b.0.1) in
    let parts : (id ∷ bytes) ≡ ((property_row a.0).id ∷ value b.0.0) ++ b.0.1 = ap (λ (w : List ℕ). id ∷ w) v.taken.parts ∙ ap (λ (i : ℕ). i ∷ (value b.0.0 ++ b.0.1)) (sym is) in
    subst (λ (y : Prop × List ℕ). Takes (id ∷ bytes) (prop y.0) y.1 × IsProp y.0) (ok_is made x b.2)
    (record { parts = parts; rest_fits = v.taken.rest_fits }, record { kind = v.kind_is; fits = v.fits })

-- a property that was written is read back
pub prop_again : (p : Prop) (rest : List ℕ) → IsProp p → prop_at (prop p ++ rest) ≡ Ok (p, rest)
unfolding prop_at
prop_again p rest h =
    let read : value_at (property_row p.name).kind (value p.value ++ rest) ≡ Ok (p.value, rest) = rw (← h.kind) (value_again p.value rest h.fits) in
    rw (name_again p.name, read) refl

-- the reader of properties, for the theory of items
pub prop_reads : Reads prop_at prop IsProp
prop_reads = record { takes = prop_takes; again = prop_again; some = λ p. omega arith }
