-- The bodies of messages: what is read is spelled so, and what is spelled so is read.
use Rattle.std.proofs.Common.{◌≡◌, ℕ, ℤ, ◌^◌, ◌<◌, ◌≤◌, ◌⊎◌, arith, ltb, cond, inl, inr, List, [], ◌∷◌, ◌++◌, length, Option, Some, None, refl, ap, subst, ◌∙◌, append_assoc}
use Rattle.std.proofs.lemmas.Bool.{ltb-false, le-ltb, lt-ltb}
use Rattle.std.proofs.lemmas.Option.{same_Some, none-some}
use Rattle.std.specs.Prelude.{FitsSigned}
use Rattle.std.specs.List.{flat_map, AllByRecursion}
use Rattle.std.specs.Int.{w16, w32}
use Rattle.pg_messages.specs.declared.startup.CancelRequest.{CancelRequest}
use Rattle.pg_messages.specs.declared.simplequery.Query.{Query}
use Rattle.pg_messages.specs.declared.extendedquery.Parse.{Parse}
use Rattle.pg_messages.specs.declared.extendedquery.Bind.{Bind}
use Rattle.pg_messages.specs.declared.extendedquery.Describe.{Describe}
use Rattle.pg_messages.specs.declared.extendedquery.Execute.{Execute}
use Rattle.pg_messages.specs.declared.extendedquery.Close.{Close}
use Rattle.pg_messages.specs.declared.copy.CopyFail.{CopyFail}
use Rattle.pg_messages.specs.Fields.{int16, int32, count16, count32, string, IsText}
use Rattle.pg_messages.specs.Frames.{cancel_body, IsCancel, query_body, IsQuery, parse_body, IsParse, parameter_value, IsParameterValue, bind_body, IsBind, describe_body, IsDescribe, execute_body, IsExecute, close_body, IsClose, copy_fail_body, IsCopyFail}
use Rattle.pg_messages.specs.Reading.{both_at, number_at, signed_at, ◌>>=◌, byte_at, key_of, list_at, string_at, value_at, cancel_of, query_at, parse_at, bind_at, describe_at, execute_at, close_at, copy_fail_at}
use Rattle.pg_messages.proofs.Laws.{IsBytes, Reads, Reads-both, Reads-as, bind_some}
use Rattle.pg_messages.proofs.FieldLaws.{wide16, wide32, Reads-number, Reads-signed, Reads-list, Reads-string, Reads-value, Reads-byte, chosen}

Reads-oid : Reads (λ (n : ℕ). n < 2 ^ 32) (λ (n : ℕ). count32 n) (number_at w32)
Reads-oid = Reads-number w32 (2 ^ 32) wide32

Reads-format : Reads (λ (z : ℤ). FitsSigned w16 z) (λ (z : ℤ). int16 z) (signed_at w16)
Reads-format = Reads-signed w16 wide16

Reads-limit : Reads (λ (z : ℤ). FitsSigned w32 z) (λ (z : ℤ). int32 z) (signed_at w32)
Reads-limit = Reads-signed w32 wide32

abbrev AreTexts : List ℕ × List ℕ → Type 0
AreTexts p = IsText p.0 × IsText p.1

abbrev texts : List ℕ × List ℕ → List ℕ
texts p = string p.0 ++ string p.1

Reads-texts : Reads AreTexts texts (both_at string_at string_at)
Reads-texts = Reads-both IsText IsText string string string_at string_at Reads-string Reads-string

abbrev AreListed : {X : Type 0} → (X → Type 0) → List X → Type 0
AreListed G xs = (length xs < 2 ^ 15) × AllByRecursion G xs

abbrev listed : {X : Type 0} → (X → List ℕ) → List X → List ℕ
listed s xs = count16 (length xs) ++ flat_map s xs

Reads-oids : Reads (AreListed (λ (n : ℕ). n < 2 ^ 32)) (listed (λ (n : ℕ). count32 n)) (list_at (number_at w32))
Reads-oids = Reads-list (λ (n : ℕ). n < 2 ^ 32) (λ (n : ℕ). count32 n) (number_at w32) Reads-oid

Reads-formats : Reads (AreListed (λ (z : ℤ). FitsSigned w16 z)) (listed (λ (z : ℤ). int16 z)) (list_at (signed_at w16))
Reads-formats = Reads-list (λ (z : ℤ). FitsSigned w16 z) (λ (z : ℤ). int16 z) (signed_at w16) Reads-format

Reads-values : Reads (AreListed IsParameterValue) (listed parameter_value) (list_at value_at)
Reads-values = Reads-list IsParameterValue parameter_value value_at Reads-value

-- ---- the messages

key_takes : (bytes key : List ℕ) → key_of bytes ≡ Some key → (bytes ≡ key) × ((4 ≤ length key) × (length key ≤ 256))
key_takes bytes key e =
    elim (chosen (ltb (length bytes) 4) None (cond (ltb 256 (length bytes)) None (Some bytes)) (Some key) e) [
      | inl h ↦ absurd (none-some key h.1)
      | inr h ↦
          elim (chosen (ltb 256 (length bytes)) None (Some bytes) (Some key) h.1) [
            | inl g ↦ absurd (none-some key g.1)
            | inr g ↦
                let same : bytes ≡ key = same_Some bytes key g.1 in
                (same, subst (λ (k : List ℕ). (4 ≤ length k) × (length k ≤ 256)) same (ltb-false _ _ h.0, ltb-false _ _ g.0))
          ]
    ]

-- bytes of another length are no key
pub no_key : (n : ℕ) (bytes : List ℕ) → (n ≡ length bytes) × ((n < 4) ⊎ (256 < n)) → key_of bytes ≡ None
no_key n bytes (same, inl short) = rw (lt-ltb (length bytes) 4 (omega (arith, same, short))) refl
no_key n bytes (same, inr long) =
    rw (le-ltb (length bytes) 4 (omega (arith, same, long)), lt-ltb 256 (length bytes) (omega (arith, same, long))) refl

pub cancel_takes : (body : List ℕ) (m : CancelRequest) → IsBytes body → cancel_of body ≡ Some m → (body ≡ cancel_body m) × IsCancel m
unfolding cancel_of
cancel_takes body m fits e =
    let a = bind_some (signed_at w32 body) (λ pid. key_of pid.1 >>= λ key. Some (record { pid = pid.0; secret_key = key })) m e in
    let b = bind_some (key_of a.0.1) (λ key. let made : CancelRequest = record { pid = a.0.0; secret_key = key } in Some made) m a.2 in
    let pid = Reads-limit.takes body a.0.0 a.0.1 fits a.1 in
    let key = key_takes a.0.1 b.0 b.1 in
    let made : CancelRequest = record { pid = a.0.0; secret_key = b.0 } in
    subst (λ (n : CancelRequest). (body ≡ cancel_body n) × IsCancel n) (same_Some made m b.2) (
      pid.0 ∙ ap (λ (k : List ℕ). int32 a.0.0 ++ k) key.0,
      record { pid = pid.1; secret_key = key.1 },
    )

pub cancel_again : (m : CancelRequest) → IsCancel m → cancel_of (cancel_body m) ≡ Some m
unfolding cancel_of
cancel_again m good =
    rw (
      Reads-limit.again m.pid m.secret_key good.pid,
      le-ltb _ _ good.secret_key.0,
      le-ltb _ _ good.secret_key.1,
    ) refl

pub Reads-query : Reads IsQuery query_body query_at
unfolding query_at
Reads-query =
    Reads-as IsText IsQuery string query_body string_at (λ x. record { query = x }) (λ (m : Query). m.query)
    (λ x good. (refl, record { query = good })) (λ m good. (refl, refl, good.query)) Reads-string

pub Reads-copy_fail : Reads IsCopyFail copy_fail_body copy_fail_at
unfolding copy_fail_at
Reads-copy_fail =
    Reads-as IsText IsCopyFail string copy_fail_body string_at (λ x. record { message = x }) (λ (m : CopyFail). m.message)
    (λ x good. (refl, record { message = good })) (λ m good. (refl, refl, good.message)) Reads-string

-- a target byte and a name
abbrev IsTarget : ℕ × List ℕ → Type 0
IsTarget x = Unit {0} × IsText x.1

abbrev target : ℕ × List ℕ → List ℕ
target x = (x.0 ∷ []) ++ string x.1

Reads-target : Reads IsTarget target (both_at byte_at string_at)
Reads-target = Reads-both (λ (b : ℕ). Unit {0}) IsText (λ (b : ℕ). b ∷ []) string byte_at string_at Reads-byte Reads-string

pub Reads-describe : Reads IsDescribe describe_body describe_at
unfolding describe_at
Reads-describe =
    Reads-as IsTarget IsDescribe target describe_body (both_at byte_at string_at)
    (λ x. record { target_type = x.0; name = x.1 }) (λ (m : Describe). (m.target_type, m.name))
    (λ x good. (refl, record { name = good.1 })) (λ m good. (refl, refl, (tt, good.name))) Reads-target

pub Reads-close : Reads IsClose close_body close_at
unfolding close_at
Reads-close =
    Reads-as IsTarget IsClose target close_body (both_at byte_at string_at)
    (λ x. record { target_type = x.0; name = x.1 }) (λ (m : Close). (m.target_type, m.name))
    (λ x good. (refl, record { name = good.1 })) (λ m good. (refl, refl, (tt, good.name))) Reads-target

pub Reads-parse : Reads IsParse parse_body parse_at
unfolding parse_at
Reads-parse =
    Reads-as (λ (x : (List ℕ × List ℕ) × List ℕ). AreTexts x.0 × AreListed (λ (n : ℕ). n < 2 ^ 32) x.1) IsParse
    (λ (x : (List ℕ × List ℕ) × List ℕ). texts x.0 ++ listed (λ (n : ℕ). count32 n) x.1) parse_body
    (both_at (both_at string_at string_at) (list_at (number_at w32)))
    (λ x. record { name = x.0.0; query = x.0.1; type_oids = x.1 }) (λ (m : Parse). ((m.name, m.query), m.type_oids))
    (λ x good. (
      append_assoc (texts x.0) (count16 (length x.1)) (flat_map count32 x.1),
      record { name = good.0.0; query = good.0.1; count = good.1.0; type_oids = good.1.1 },
    ))
    (λ m good. (
      append_assoc (string m.name ++ string m.query) (count16 (length m.type_oids)) (flat_map count32 m.type_oids),
      refl,
      ((good.name, good.query), (good.count, good.type_oids)),
    ))
    (Reads-both AreTexts (AreListed (λ (n : ℕ). n < 2 ^ 32)) texts (listed (λ (n : ℕ). count32 n)) (both_at string_at string_at)
    (list_at (number_at w32)) Reads-texts Reads-oids)

pub Reads-execute : Reads IsExecute execute_body execute_at
unfolding execute_at
Reads-execute =
    Reads-as (λ (x : List ℕ × ℤ). IsText x.0 × FitsSigned w32 x.1) IsExecute
    (λ (x : List ℕ × ℤ). string x.0 ++ int32 x.1) execute_body (both_at string_at (signed_at w32))
    (λ x. record { name = x.0; max_rows = x.1 }) (λ (m : Execute). (m.name, m.max_rows))
    (λ x good. (refl, record { name = good.0; max_rows = good.1 }))
    (λ m good. (refl, refl, (good.name, good.max_rows)))
    (Reads-both IsText (λ (z : ℤ). FitsSigned w32 z) string (λ (z : ℤ). int32 z) string_at (signed_at w32) Reads-string Reads-limit)

abbrev Formats : List ℤ → Type 0
Formats = AreListed (λ (z : ℤ). FitsSigned w16 z)

abbrev formats : List ℤ → List ℕ
formats = listed (λ (z : ℤ). int16 z)

abbrev Front : (List ℕ × List ℕ) × List ℤ → Type 0
Front x = AreTexts x.0 × Formats x.1

abbrev front : (List ℕ × List ℕ) × List ℤ → List ℕ
front x = texts x.0 ++ formats x.1

abbrev Most : ((List ℕ × List ℕ) × List ℤ) × List (Option (List ℕ)) → Type 0
Most x = Front x.0 × AreListed IsParameterValue x.1

abbrev most : ((List ℕ × List ℕ) × List ℤ) × List (Option (List ℕ)) → List ℕ
most x = front x.0 ++ listed parameter_value x.1

pub Reads-bind : Reads IsBind bind_body bind_at
unfolding bind_at
Reads-bind =
    Reads-as (λ (x : (((List ℕ × List ℕ) × List ℤ) × List (Option (List ℕ))) × List ℤ). Most x.0 × Formats x.1) IsBind
    (λ (x : (((List ℕ × List ℕ) × List ℤ) × List (Option (List ℕ))) × List ℤ). most x.0 ++ formats x.1) bind_body
    (both_at (both_at (both_at (both_at string_at string_at) (list_at (signed_at w16))) (list_at value_at)) (list_at (signed_at w16)))
    (λ x. record {
      portal_name = x.0.0.0.0;
      statement_name = x.0.0.0.1;
      parameter_format_codes = x.0.0.1;
      parameters = x.0.1;
      result_column_format_codes = x.1;
    })
    (λ (m : Bind). ((((m.portal_name, m.statement_name), m.parameter_format_codes), m.parameters), m.result_column_format_codes))
    (λ x good. (
      ap (λ (w : List ℕ). w ++ formats x.1) (append_assoc (front x.0.0) (count16 (length x.0.1)) (flat_map parameter_value x.0.1)),
      record {
        portal_name = good.0.0.0.0;
        statement_name = good.0.0.0.1;
        parameter_format_codes = record { count = good.0.0.1.0; each = good.0.0.1.1 };
        count = good.0.1.0;
        parameters = good.0.1.1;
        result_column_format_codes = record { count = good.1.0; each = good.1.1 };
      },
    ))
    (λ m good. (
      ap (λ (w : List ℕ). w ++ formats m.result_column_format_codes) (append_assoc (front (
        (m.portal_name, m.statement_name),
        m.parameter_format_codes,
      )) (count16 (length m.parameters)) (flat_map parameter_value m.parameters)),
      refl,
      (
        (
          ((good.portal_name, good.statement_name), (good.parameter_format_codes.count, good.parameter_format_codes.each)),
          (good.count, good.parameters),
        ),
        (good.result_column_format_codes.count, good.result_column_format_codes.each),
      ),
    ))
    (Reads-both Most Formats most formats (both_at (both_at (both_at string_at string_at) (list_at (signed_at w16))) (list_at value_at))
    (list_at (signed_at w16))
    (Reads-both Front (AreListed IsParameterValue) front (listed parameter_value)
    (both_at (both_at string_at string_at) (list_at (signed_at w16))) (list_at value_at)
    (Reads-both AreTexts Formats texts formats (both_at string_at string_at) (list_at (signed_at w16)) Reads-texts Reads-formats)
    Reads-values) Reads-formats)
