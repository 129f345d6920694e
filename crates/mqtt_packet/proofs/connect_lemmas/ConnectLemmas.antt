-- A body of CONNECT that is read was spelled so, and what is spelled is read.
use Rattle.std.proofs.Common.{◌≡◌, ℕ, ◌<◌, ◌^◌, Bool, true, false, eqb, List, [], ◌∷◌, ◌++◌, length, Option, Some, None, is_some, Ok, refl, sym, ap, subst, ◌∙◌, arith, append_assoc}
use Rattle.std.specs.Int.{w16}
use Rattle.std.specs.Option.{option_map}
use Rattle.std.specs.Str.{is_utf8, chars, bytes_eq}
use Rattle.std.proofs.Math.Utf8.{encode}
use Rattle.std.proofs.lemmas.Slice.Eq.{bytes_eq-Decides}
use Rattle.std.proofs.lemmas.Bool.{eqb-true}
use Rattle.std.proofs.lemmas.List.{append-nil, nil_from_length}
use Rattle.mqtt_base.specs.Values.{two_bytes, blob, is_text, FitsText}
use Rattle.mqtt_base.specs.Reading.{number_at, u8_at, text_at, blob_at}
use Rattle.mqtt_base.proofs.Steps.{IsBytes, bind_ok, when_ok, ok_is, Takes, Takes-then}
use Rattle.mqtt_base.proofs.Fields.{wide16, number_takes, number_again, text_takes, text_again, blob_takes, blob_again, byte_takes}
use Rattle.mqtt_props.specs.declared.place.Place.TheVariants as places
use Rattle.mqtt_props.specs.Properties.{block}
use Rattle.mqtt_props.specs.Laws.{layout_at}
use Rattle.mqtt_props.proofs.Blocks.{layout_takes, layout_again}
use Rattle.mqtt_packet.specs.declared.connect.connect.Connect.{Connect}
use Rattle.mqtt_packet.specs.declared.connect.connect.Will.{Will}
use Rattle.mqtt_packet.specs.declared.connect.connect_flags.Flags.{Flags}
use Rattle.mqtt_packet.specs.declared.connect.connect_flags.WillFlags.{WillFlags}
use Rattle.mqtt_packet.specs.declared.parts.fault.Fault.TheVariants.{Malformed}
use Rattle.mqtt_packet.specs.parts.Reading.{malformed, known}
use Rattle.mqtt_packet.specs.parts.Fields.{optional, FitsOptional}
use Rattle.mqtt_packet.specs.connect.ConnectFlags.{flags_of, flags_byte}
use Rattle.mqtt_packet.specs.connect.Connect.{FitsWill, will_field, will_flags_of, flags_of_connect, FitsConnect, connect_payload, connect_fields, connect_body, mqtt, is_version_5, will_at, user_name_at, password_at, login_at, payload_at, fields_at, flagged_at, connect_at}
use Rattle.mqtt_packet.proofs.parts_lemmas.Parts.{malformed_ok, known_ok, both_true}
use Rattle.mqtt_packet.proofs.parts_lemmas.Readers.{IsReader}
use Rattle.mqtt_packet.proofs.connect_lemmas.FlagLemmas.{flags_is, flags_again}

-- ---- optional fields

record IsWill (flags : Option WillFlags) (bytes : List ℕ) (w : Option Will) (rest : List ℕ) : Type 0 where
  takes : Takes bytes (optional will_field w) rest
  fits : FitsOptional FitsWill w
  said : option_map will_flags_of w ≡ flags

will_takes : (flags : Option WillFlags) (bytes : List ℕ) (x : Option Will × List ℕ) → IsBytes bytes → will_at flags bytes ≡ Ok x → IsWill flags bytes x.0 x.1
unfolding will_at
will_takes None bytes x fits e =
    subst (λ (y : Option Will × List ℕ). IsWill None bytes y.0 y.1) (ok_is (None, bytes) x e) (record { takes = record { parts = refl; rest_fits = fits }; fits = tt; said = refl })
will_takes (Some f) bytes x fits e =
    let a = bind_ok (malformed (layout_at places.Will bytes)) _ x e in
    let b = bind_ok (malformed (text_at a.0.1)) _ x a.2 in
    let c = bind_ok (malformed (blob_at b.0.1)) _ x b.2 in
    let t0 = layout_takes places.Will bytes a.0 fits (malformed_ok (layout_at places.Will bytes) a.0 a.1) in
    let t1 = text_takes a.0.1 b.0 t0.0.rest_fits (malformed_ok (text_at a.0.1) b.0 b.1) in
    let t2 = blob_takes b.0.1 c.0 t1.0.rest_fits (malformed_ok (blob_at b.0.1) c.0 c.1) in
    let w : Will = record { qos = f.qos; retain = f.retain; properties = a.0.0; topic = b.0.0; payload = c.0.0 } in
    subst (λ (y : Option Will × List ℕ). IsWill (Some f) bytes y.0 y.1) (ok_is (Some w, c.0.1) x c.2)
    (record {
      takes = Takes-then bytes (block a.0.0) a.0.1 (blob b.0.0 ++ blob c.0.0) c.0.1 t0.0 (Takes-then a.0.1 (blob b.0.0) b.0.1 (blob c.0.0) c.0.1 t1.0 t2.0);
      fits = ((t0.1, t0.2), (t1.1, t1.2), t2.1);
      said = refl;
    })

will_again : (w : Option Will) (rest : List ℕ) → FitsOptional FitsWill w → will_at (option_map will_flags_of w) (optional will_field w ++ rest) ≡ Ok (w, rest)
unfolding will_at
will_again None rest fits = refl
will_again (Some w) rest fits =
    rw (
      append_assoc (block w.properties) (blob w.topic ++ blob w.payload) rest,
      append_assoc (blob w.topic) (blob w.payload) rest,
      layout_again places.Will w.properties (blob w.topic ++ (blob w.payload ++ rest)) fits.0.0 fits.0.1,
      text_again w.topic (blob w.payload ++ rest) fits.1.0 fits.1.1,
      blob_again w.payload rest fits.2,
    ) refl

record IsOptional (Good : List ℕ → Type 0) (flag : Bool) (bytes : List ℕ) (o : Option (List ℕ)) (rest : List ℕ) : Type 0 where
  takes : Takes bytes (optional blob o) rest
  fits : FitsOptional Good o
  said : is_some o ≡ flag

user_name_takes : (flag : Bool) (bytes : List ℕ) (x : Option (List ℕ) × List ℕ) → IsBytes bytes → user_name_at flag bytes ≡ Ok x → IsOptional FitsText flag bytes x.0 x.1
unfolding user_name_at
user_name_takes false bytes x fits e =
    subst (λ (y : Option (List ℕ) × List ℕ). IsOptional FitsText false bytes y.0 y.1) (ok_is (None, bytes) x e) (record { takes = record { parts = refl; rest_fits = fits }; fits = tt; said = refl })
user_name_takes true bytes x fits e =
    let a = bind_ok (malformed (text_at bytes)) _ x e in
    let t = text_takes bytes a.0 fits (malformed_ok (text_at bytes) a.0 a.1) in
    subst (λ (y : Option (List ℕ) × List ℕ). IsOptional FitsText true bytes y.0 y.1) (ok_is (Some a.0.0, a.0.1) x a.2) (record { takes = t.0; fits = (t.1, t.2); said = refl })

user_name_again : (o : Option (List ℕ)) (rest : List ℕ) → FitsOptional FitsText o → user_name_at (is_some o) (optional blob o ++ rest) ≡ Ok (o, rest)
unfolding user_name_at
user_name_again None rest fits = refl
user_name_again (Some t) rest fits = rw (text_again t rest fits.0 fits.1) refl

abbrev IsShort : List ℕ → Type 0
IsShort b = length b < 2 ^ 16

password_takes : (flag : Bool) (bytes : List ℕ) (x : Option (List ℕ) × List ℕ) → IsBytes bytes → password_at flag bytes ≡ Ok x → IsOptional IsShort flag bytes x.0 x.1
unfolding password_at
password_takes false bytes x fits e =
    subst (λ (y : Option (List ℕ) × List ℕ). IsOptional IsShort false bytes y.0 y.1) (ok_is (None, bytes) x e) (record { takes = record { parts = refl; rest_fits = fits }; fits = tt; said = refl })
password_takes true bytes x fits e =
    let a = bind_ok (malformed (blob_at bytes)) _ x e in
    let t = blob_takes bytes a.0 fits (malformed_ok (blob_at bytes) a.0 a.1) in
    subst (λ (y : Option (List ℕ) × List ℕ). IsOptional IsShort true bytes y.0 y.1) (ok_is (Some a.0.0, a.0.1) x a.2) (record { takes = t.0; fits = t.1; said = refl })

password_again : (o : Option (List ℕ)) (rest : List ℕ) → FitsOptional IsShort o → password_at (is_some o) (optional blob o ++ rest) ≡ Ok (o, rest)
unfolding password_at
password_again None rest fits = refl
password_again (Some b) rest fits = rw (blob_again b rest fits) refl

-- ---- the payload

record IsLogin (f : Flags) (bytes : List ℕ) (l : Option (List ℕ) × Option (List ℕ)) : Type 0 where
  is : bytes ≡ optional blob l.0 ++ optional blob l.1
  user_fits : FitsOptional FitsText l.0
  user_said : is_some l.0 ≡ f.user_name
  password_fits : FitsOptional IsShort l.1
  password_said : is_some l.1 ≡ f.password

login_takes : (f : Flags) (bytes : List ℕ) (l : Option (List ℕ) × Option (List ℕ)) → IsBytes bytes → login_at f bytes ≡ Ok l → IsLogin f bytes l
login_takes f bytes l fits e =
    let u = bind_ok (user_name_at f.user_name bytes) _ l e in
    let s = bind_ok (password_at f.password u.0.1) _ l u.2 in
    let made : Option (List ℕ) × Option (List ℕ) = (u.0.0, s.0.0) in
    let g = when_ok (eqb (length s.0.1) 0) Malformed (Ok made) l s.2 in
    let t0 = user_name_takes f.user_name bytes u.0 fits u.1 in
    let t1 = password_takes f.password u.0.1 s.0 t0.takes.rest_fits s.1 in
    let nothing : s.0.1 ≡ [] = nil_from_length s.0.1 (eqb-true _ _ g.0) in
    let e1 : u.0.1 ≡ optional blob s.0.0 = t1.takes.parts ∙ ap (λ (r : List ℕ). optional blob s.0.0 ++ r) nothing ∙ append-nil (optional blob s.0.0) in
    let e0 : bytes ≡ optional blob u.0.0 ++ optional blob s.0.0 = t0.takes.parts ∙ ap (λ (r : List ℕ). optional blob u.0.0 ++ r) e1 in
    subst (λ (y : Option (List ℕ) × Option (List ℕ)). IsLogin f bytes y) (ok_is made l g.1)
    (record { is = e0; user_fits = t0.fits; user_said = t0.said; password_fits = t1.fits; password_said = t1.said })

login_again : (c : Connect) → FitsConnect c → login_at (flags_of_connect c) (optional blob c.user_name ++ optional blob c.password) ≡ Ok (c.user_name, c.password)
login_again c fits =
    let rest = optional blob c.password in
    let last : password_at (is_some c.password) rest ≡ Ok (c.password, []) = ap (password_at (is_some c.password)) (sym (append-nil rest)) ∙ password_again c.password [] fits.5 in
    rw (user_name_again c.user_name rest fits.4, last) refl

record IsPayload (f : Flags) (bytes : List ℕ) (p : List ℕ × Option Will × Option (List ℕ) × Option (List ℕ)) : Type 0 where
  is : bytes ≡ blob p.0 ++ (optional will_field p.1 ++ (optional blob p.2 ++ optional blob p.3))
  client_fits : FitsText p.0
  will_fits : FitsOptional FitsWill p.1
  will_said : option_map will_flags_of p.1 ≡ f.will
  login : IsLogin f (optional blob p.2 ++ optional blob p.3) (p.2, p.3)

payload_takes : (f : Flags) (bytes : List ℕ) (p : List ℕ × Option Will × Option (List ℕ) × Option (List ℕ)) → IsBytes bytes → payload_at f bytes ≡ Ok p → IsPayload f bytes p
payload_takes f bytes p fits e =
    let i = bind_ok (malformed (text_at bytes)) _ p e in
    let w = bind_ok (will_at f.will i.0.1) _ p i.2 in
    let l = bind_ok (login_at f w.0.1) _ p w.2 in
    let t0 = text_takes bytes i.0 fits (malformed_ok (text_at bytes) i.0 i.1) in
    let t1 = will_takes f.will i.0.1 w.0 t0.0.rest_fits w.1 in
    let t2 = login_takes f w.0.1 l.0 t1.takes.rest_fits l.1 in
    let made : List ℕ × Option Will × Option (List ℕ) × Option (List ℕ) = (i.0.0, w.0.0, l.0.0, l.0.1) in
    let e1 : i.0.1 ≡ optional will_field w.0.0 ++ (optional blob l.0.0 ++ optional blob l.0.1) = t1.takes.parts ∙ ap (λ (r : List ℕ). optional will_field w.0.0 ++ r) t2.is in
    let e0 : bytes ≡ blob i.0.0 ++ (optional will_field w.0.0 ++ (optional blob l.0.0 ++ optional blob l.0.1)) = t0.0.parts ∙ ap (λ (r : List ℕ). blob i.0.0 ++ r) e1 in
    subst (λ (y : List ℕ × Option Will × Option (List ℕ) × Option (List ℕ)). IsPayload f bytes y) (ok_is made p l.2)
    (record {
      is = e0;
      client_fits = (t0.1, t0.2);
      will_fits = t1.fits;
      will_said = t1.said;
      login = record { is = refl; user_fits = t2.user_fits; user_said = t2.user_said; password_fits = t2.password_fits; password_said = t2.password_said };
    })

payload_again : (c : Connect) → FitsConnect c → payload_at (flags_of_connect c) (connect_payload c) ≡ Ok (c.client_identifier, c.will, c.user_name, c.password)
payload_again c fits =
    let r1 = optional blob c.user_name ++ optional blob c.password in
    let r0 = optional will_field c.will ++ r1 in
    rw (text_again c.client_identifier r0 fits.2.0 fits.2.1, will_again c.will r1 fits.3, login_again c fits) refl

-- ---- the fields

record AreFields (f : Flags) (bytes : List ℕ) (c : Connect) : Type 0 where
  fits : FitsConnect c
  is : bytes ≡ connect_fields c
  said : flags_of_connect c ≡ f

abbrev flags_made : Bool → Option WillFlags → Bool → Bool → Flags
flags_made clean will user password = record { clean_start = clean; will = will; user_name = user; password = password }

fields_takes : (f : Flags) (bytes : List ℕ) (c : Connect) → IsBytes bytes → fields_at f bytes ≡ Ok c → AreFields f bytes c
unfolding fields_at
fields_takes f bytes c fits e =
    let k = bind_ok (malformed (number_at w16 bytes)) _ c e in
    let b = bind_ok (malformed (layout_at places.Connect k.0.1)) _ c k.2 in
    let p = bind_ok (payload_at f b.0.1) _ c b.2 in
    let made : Connect = record { clean_start = f.clean_start; keep_alive = k.0.0; properties = b.0.0; client_identifier = p.0.0; will = p.0.1; user_name = p.0.2; password = p.0.3 } in
    let t0 = number_takes w16 (2 ^ 16) wide16 bytes k.0 fits (malformed_ok (number_at w16 bytes) k.0 k.1) in
    let t1 = layout_takes places.Connect k.0.1 b.0 t0.0.rest_fits (malformed_ok (layout_at places.Connect k.0.1) b.0 b.1) in
    let t2 = payload_takes f b.0.1 p.0 t1.0.rest_fits p.1 in
    let e1 : k.0.1 ≡ block b.0.0 ++ connect_payload made = t1.0.parts ∙ ap (λ (r : List ℕ). block b.0.0 ++ r) t2.is in
    let e0 : bytes ≡ connect_fields made = t0.0.parts ∙ ap (λ (r : List ℕ). two_bytes k.0.0 ++ r) e1 in
    let said : flags_of_connect made ≡ f =
    ap (λ (o : Option WillFlags). flags_made f.clean_start o (is_some p.0.2) (is_some p.0.3)) t2.will_said
    ∙ ap (λ (u : Bool). flags_made f.clean_start f.will u (is_some p.0.3)) t2.login.user_said
    ∙ ap (λ (u : Bool). flags_made f.clean_start f.will f.user_name u) t2.login.password_said
    in
    subst (λ (y : Connect). AreFields f bytes y) (ok_is made c p.2)
    (record { fits = (t0.1, (t1.1, t1.2), t2.client_fits, t2.will_fits, t2.login.user_fits, t2.login.password_fits); is = e0; said = said })

fields_again : (c : Connect) → FitsConnect c → fields_at (flags_of_connect c) (connect_fields c) ≡ Ok c
unfolding fields_at
fields_again c fits =
    let r0 = connect_payload c in
    rw (number_again w16 (2 ^ 16) wide16 c.keep_alive (block c.properties ++ r0) fits.0, layout_again places.Connect c.properties r0 fits.1.0 fits.1.1, payload_again c fits) refl

-- ---- the packet

version_is : (protocol : List ℕ) (version : ℕ) → is_version_5 protocol version ≡ true → (protocol ≡ mqtt) × (version ≡ 5)
version_is protocol version e =
    let both = both_true (bytes_eq protocol mqtt) (eqb version 5) e in
    let decided = bytes_eq-Decides protocol mqtt in
    (decided.0 both.0, eqb-true version 5 both.1)

flagged_takes : (bytes : List ℕ) (c : Connect) → IsBytes bytes → flagged_at bytes ≡ Ok c → FitsConnect c × (bytes ≡ flags_byte (flags_of_connect c) ∷ connect_fields c)
flagged_takes bytes c fits e =
    let b = bind_ok (malformed (u8_at bytes)) _ c e in
    let f = bind_ok (known (flags_of b.0.0)) _ c b.2 in
    let t0 = byte_takes bytes b.0 fits (malformed_ok (u8_at bytes) b.0 b.1) in
    let t1 = fields_takes f.0 b.0.1 c t0.0.rest_fits f.2 in
    let byte : b.0.0 ≡ flags_byte (flags_of_connect c) = flags_is b.0.0 f.0 t0.1 (known_ok (flags_of b.0.0) f.0 f.1) ∙ ap (λ (g : Flags). flags_byte g) (sym t1.said) in
    (t1.fits, t0.0.parts ∙ ap (λ (r : List ℕ). b.0.0 ∷ r) t1.is ∙ ap (λ (n : ℕ). n ∷ connect_fields c) byte)

connect_takes : (body : List ℕ) (c : Connect) → IsBytes body → connect_at body ≡ Ok c → FitsConnect c × (body ≡ connect_body c)
unfolding connect_at
connect_takes body c fits e =
    let p = bind_ok (malformed (text_at body)) _ c e in
    let v = bind_ok (malformed (u8_at p.0.1)) _ c p.2 in
    let g = when_ok (is_version_5 p.0.0 v.0.0) Malformed (flagged_at v.0.1) c v.2 in
    let is = version_is p.0.0 v.0.0 g.0 in
    let t0 = text_takes body p.0 fits (malformed_ok (text_at body) p.0 p.1) in
    let t1 = byte_takes p.0.1 v.0 t0.0.rest_fits (malformed_ok (u8_at p.0.1) v.0 v.1) in
    let t2 = flagged_takes v.0.1 c t1.0.rest_fits g.1 in
    let rest = flags_byte (flags_of_connect c) ∷ connect_fields c in
    let after : p.0.1 ≡ 5 ∷ rest = t1.0.parts ∙ ap (λ (r : List ℕ). v.0.0 ∷ r) t2.1 ∙ ap (λ (n : ℕ). n ∷ rest) is.1 in
    (t2.0, t0.0.parts ∙ ap (λ (r : List ℕ). blob p.0.0 ++ r) after ∙ ap (λ (t : List ℕ). blob t ++ (5 ∷ rest)) is.0)

-- the protocol's name is a text
pub mqtt_is_text : is_text mqtt ≡ true
unfolding is_utf8 chars encode
mqtt_is_text = refl

connect_again : (c : Connect) (body : List ℕ) → FitsConnect c → body ≡ connect_body c → connect_at body ≡ Ok c
unfolding connect_at
connect_again c body fits is =
    let rest = flags_byte (flags_of_connect c) ∷ connect_fields c in
    rw (is, text_again mqtt (5 ∷ rest) (omega arith) mqtt_is_text, flags_again (flags_of_connect c), fields_again c fits) refl

-- a CONNECT is read as it is written
pub connect_reads : IsReader connect_at FitsConnect (λ c body. body ≡ connect_body c)
connect_reads = record { takes = connect_takes; again = connect_again }
