-- A RowDescription, and a CommandComplete, that are appended piece by piece.
use Rattle.std.proofs.Common.{◌≡◌, ℕ, ℤ, pos, ◌+◌, ◌^◌, ◌<◌, ◌≤◌, List, [], ◌∷◌, ◌++◌, length, get_or, Result, Ok, Err, OnOk, OnErr, IsErr, FitsSigned, w16, w32, to_z, of_z, map, take, drop, sym, ap, ◌∙◌, append_assoc, arith}
use Rattle.std.specs.Prelude.{unwrap_or}
use Rattle.std.specs.Fmt.{decimal}
use Rattle.std.specs.List.{flat_map}
use Rattle.std.proofs.lemmas.Fmt.{decimal_digit}
use Rattle.std.proofs.lemmas.Int.{ints, to_z-of_z}
use Rattle.std.proofs.lemmas.List.{append-nil, length-append, length-map, map-append, take-append-drop, take_all, take_more}
use Rattle.std.proofs.lemmas.Grind.{flat_map-append}
use Rattle.pg_messages.specs.Fields.{count16, count32, int16, int32}
use Rattle.pg_messages.specs.Replies.{IsEncodable, reply_body, replies_bytes, field_description}
use Rattle.pg_types.specs.Types.{oid_of}
use Rattle.pg_types.specs.Formats.{format_code}
use Rattle.pg_results.specs.Fields.{Field, description_of}
use Rattle.pg_results.specs.Tags.{spaced}
use Rattle.pg_replies.specs.Replies.{IsTag, done_with, row_description}
use Rattle.pg_replies.proofs.Sent.{kept_behind, one_reply}

-- a piece behind what was appended
pub behind : (out mid new a b : List ℕ) → mid ≡ out ++ a → new ≡ mid ++ b → new ≡ out ++ (a ++ b)
behind out mid new a b e f = f ∙ ap (λ l. l ++ b) e ∙ append_assoc out a b

-- the bytes that tell of columns
abbrev pub told : List Field → List ℕ
told fields = flat_map field_description (map description_of fields)

pub told-append : (a b : List Field) → told (a ++ b) ≡ told a ++ told b
told-append a b =
    ap (flat_map field_description) (map-append description_of a b)
    ∙ flat_map-append field_description (map description_of a) (map description_of b)

told_more : (fields : List Field) (i : ℕ) (f : Field) → i < length fields → f ≡ get_or fields i f
    → told (take (i + 1) fields) ≡ told (take i fields) ++ field_description (description_of f)
told_more fields i f lt is =
    ap told (take_more fields i f lt) ∙ told-append (take i fields) (get_or fields i f ∷ [])
    ∙ ap (λ (l : List ℕ). told (take i fields) ++ l) (
    append-nil (field_description (description_of (get_or fields i f)))
    ∙ ap (λ (g : Field). field_description (description_of g)) (sym is)
    )

-- one column more is appended
pub column_behind : (fields : List Field) (i : ℕ) (f : Field) (out mid new : List ℕ) → i < length fields → f ≡ get_or fields i f
    → mid ≡ out ++ told (take i fields) → new ≡ mid ++ field_description (description_of f) → new ≡ out ++ told (take (i + 1) fields)
column_behind fields i f out mid new lt is p e =
    behind out mid new (told (take i fields)) (field_description (description_of f)) p e
    ∙ ap (λ (l : List ℕ). out ++ l) (sym (told_more fields i f lt is))

-- one column more is counted
pub column_counted : (fields : List Field) (i : ℕ) (f : Field) (len : ℕ) → i < length fields → f ≡ get_or fields i f
    → len ≡ 2 + length (told (take i fields)) → len + (length f.name + 19) ≡ 2 + length (told (take (i + 1) fields))
column_counted fields i f len lt is e =
    let column : length (field_description (description_of f)) ≡ length f.name + 19 = simp length-append (omega arith) in
    let more = ap length (told_more fields i f lt is) ∙ length-append (told (take i fields)) (field_description (description_of f)) in
    omega (arith, column, more, e)

-- so many columns are no longer than all
pub columns_fit : (fields : List Field) (n : ℕ) → IsEncodable (row_description fields) → 2 + length (told (take n fields)) ≤ 1073741823
columns_fit fields n good =
    let whole : told fields ≡ told (take n fields) ++ told (drop n fields) =
    ap told (sym (take-append-drop n fields)) ∙ told-append (take n fields) (drop n fields) in
    let body = good.body in
    omega (arith, body, ap length whole ∙ length-append (told (take n fields)) (told (drop n fields)))

-- no more columns than an Int16 can count
pub few_columns : (fields : List Field) → IsEncodable (row_description fields) → length fields ≤ 32767
few_columns fields good = omega (arith, ints, good.counts.0, length-map fields description_of)

-- the head and all the columns
pub columns_appended : (fields : List Field) (n : ℕ) (out head mid new : List ℕ) (body count : ℕ)
    → length fields ≤ n → body ≡ length (reply_body (row_description fields)) → count ≡ length fields
    → head ≡ 84 ∷ count32 (4 + body) ++ count16 count → mid ≡ out ++ head → new ≡ mid ++ told (take n fields)
    → new ≡ out ++ replies_bytes (row_description fields ∷ [])
columns_appended fields n out head mid new body count all b k h p e =
    behind out mid new head (told fields) p (e ∙ ap (λ (l : List Field). mid ++ told l) (take_all n fields all))
    ∙ ap (λ (l : List ℕ). out ++ l) (
    ap (λ (l : List ℕ). l ++ told fields) h
    ∙ ap (λ (m : ℕ). (84 ∷ count32 (4 + m) ++ count16 count) ++ told fields) b
    ∙ ap (λ (m : ℕ). (84 ∷ count32 (4 + length (reply_body (row_description fields))) ++ count16 m) ++ told fields)
    (k ∙ sym (length-map fields description_of))
    ∙ one_reply (row_description fields)
    )

-- what waited in front stays there where a column is appended in part
pub kept_before_column : (out head mid before new more : List ℕ) → mid ≡ out ++ head → before ≡ mid ++ more
    → take (length before) new ≡ before → take (length out) new ≡ out
kept_before_column out head mid before new more p q kept =
    kept_behind out before new (head ++ more) (behind out mid before head more p q) kept

-- the nineteen bytes behind a column's name
pub column_told : (table column size modifier format : ℤ) (id : ℕ) (t c o s m q : List ℕ) → t ≡ int32 table → c ≡ int16 column
    → o ≡ count32 id → s ≡ int16 size → m ≡ int32 modifier → q ≡ int16 format
    → 0 ∷ get_or t 0 0 ∷ get_or t 1 0 ∷ get_or t 2 0 ∷ get_or t 3 0 ∷ get_or c 0 0
    ∷ get_or c 1 0 ∷ get_or o 0 0 ∷ get_or o 1 0 ∷ get_or o 2 0 ∷ get_or o 3 0 ∷ get_or s 0 0 ∷ get_or s 1 0 ∷ get_or m 0 0
    ∷ get_or m 1 0 ∷ get_or m 2 0 ∷ get_or m 3 0 ∷ get_or q 0 0 ∷ get_or q 1 0 ∷ []
    ≡ 0 ∷ int32 table ++ int16 column ++ count32 id ++ int16 size ++ int32 modifier ++ int16 format
column_told table column size modifier format id t c o s m q et ec eo es em eq =
    λ i. 0 ∷ get_or (et i) 0 0 ∷ get_or (et i) 1 0 ∷ get_or (et i) 2 0 ∷ get_or (et i) 3 0
    ∷ get_or (ec i) 0 0 ∷ get_or (ec i) 1 0 ∷ get_or (eo i) 0 0 ∷ get_or (eo i) 1 0 ∷ get_or (eo i) 2 0
    ∷ get_or (eo i) 3 0 ∷ get_or (es i) 0 0 ∷ get_or (es i) 1 0 ∷ get_or (em i) 0 0 ∷ get_or (em i) 1 0
    ∷ get_or (em i) 2 0 ∷ get_or (em i) 3 0 ∷ get_or (eq i) 0 0 ∷ get_or (eq i) 1 0 ∷ []

regroup : (n a b c d e f : List ℕ) → n ++ 0 ∷ [] ++ a ++ b ++ c ++ d ++ e ++ f ≡ n ++ (0 ∷ a ++ b ++ c ++ d ++ e ++ f)
regroup n a b c d e f = simp append_assoc

-- a column's name and those bytes
pub column_whole : (field : Field) (table column size modifier format : ℤ) (id : ℕ) (bytes : List ℕ)
    → FitsSigned w32 table → FitsSigned w16 column → FitsSigned w16 size → FitsSigned w32 modifier → FitsSigned w16 format
    → table ≡ unwrap_or field.table_id (pos 0) → column ≡ unwrap_or field.column_id (pos 0) → id ≡ oid_of field.datatype
    → size ≡ field.type_size → modifier ≡ field.type_modifier → format ≡ format_code field.format
    → bytes ≡ 0 ∷ int32 (to_z w32 (of_z w32 table)) ++ int16 (to_z w16 (of_z w16 column)) ++ count32 id
    ++ int16 (to_z w16 (of_z w16 size)) ++ int32 (to_z w32 (of_z w32 modifier)) ++ int16 (to_z w16 (of_z w16 format))
    → field_description (description_of field) ≡ field.name ++ bytes
column_whole field table column size modifier format id bytes ft fc fs fm ff et ec ei es em ef e =
    let t = to_z-of_z w32 table ft ∙ et in
    let c = to_z-of_z w16 column fc ∙ ec in
    let s = to_z-of_z w16 size fs ∙ es in
    let m = to_z-of_z w32 modifier fm ∙ em in
    let f = to_z-of_z w16 format ff ∙ ef in
    regroup field.name (int32 (unwrap_or field.table_id (pos 0))) (int16 (unwrap_or field.column_id (pos 0)))
    (count32 (oid_of field.datatype)) (int16 field.type_size) (int32 field.type_modifier) (int16 (format_code field.format))
    ∙ sym (λ i. field.name ++ (0 ∷ int32 (t i) ++ int16 (c i) ++ count32 (ei i) ++ int16 (s i) ++ int32 (m i) ++ int16 (f i)))
    ∙ ap (λ (l : List ℕ). field.name ++ l) (sym e)

pub on_err : {A E P : Type 0} (r : Result A E) → P → OnErr r P
on_err (Ok a) p = tt
on_err (Err e) p = p

pub no_ok : {A E : Type 0} (r : Result A E) (P : Type 0) → IsErr r → OnOk r P
no_ok (Ok a) P h = cc
no_ok (Err e) P h = tt

-- a number of one digit behind its space
spaced_digit : (n : ℕ) → n < 10 → spaced n ≡ 32 ∷ (48 + n) ∷ []
spaced_digit n lt = ap (λ (l : List ℕ). 32 ∷ l) (decimal_digit n lt)

-- the body of a CommandComplete of few rows: the command, a space, a digit and a zero byte
few_body : (command : List ℕ) (n : ℕ) → n < 10 → reply_body (done_with command n) ≡ command ++ (32 ∷ (48 + n) ∷ 0 ∷ [])
few_body command n lt =
    append_assoc command (spaced n) (0 ∷ []) ∙ ap (λ (l : List ℕ). command ++ (l ++ 0 ∷ [])) (spaced_digit n lt)

few_length : (command : List ℕ) (n : ℕ) → n < 10 → length (reply_body (done_with command n)) ≡ length command + 3
few_length command n lt = ap length (few_body command n lt) ∙ length-append command (32 ∷ (48 + n) ∷ 0 ∷ [])

pub few_fit : (command : List ℕ) (n : ℕ) → n < 10 → IsTag command → length command + 3 ≤ 1073741823
few_fit command n lt tag =
    let good = tag n (omega (arith, lt)) in
    let body = good.body in
    omega (arith, body, few_length command n lt)

-- the head, the command and what stands behind it
pub few_appended : (command : List ℕ) (n : ℕ) (out head begun named new : List ℕ) → n < 10
    → head ≡ 67 ∷ count32 (4 + (length command + 3)) → begun ≡ out ++ head → named ≡ begun ++ command
    → new ≡ named ++ (32 ∷ (48 + n) ∷ 0 ∷ []) → new ≡ out ++ replies_bytes (done_with command n ∷ [])
few_appended command n out head begun named new lt h p q e =
    behind out begun new head (command ++ (32 ∷ (48 + n) ∷ 0 ∷ [])) p (behind begun named new command (32 ∷ (48 + n) ∷ 0 ∷ []) q e)
    ∙ ap (λ (l : List ℕ). out ++ l) (
    ap (λ (l : List ℕ). l ++ (command ++ (32 ∷ (48 + n) ∷ 0 ∷ []))) h
    ∙ ap (λ (m : ℕ). (67 ∷ count32 (4 + m)) ++ (command ++ (32 ∷ (48 + n) ∷ 0 ∷ []))) (sym (few_length command n lt))
    ∙ ap (λ (l : List ℕ). (67 ∷ count32 (4 + length (reply_body (done_with command n)))) ++ l) (sym (few_body command n lt))
    ∙ one_reply (done_with command n)
    )

-- the body of a CommandComplete of so many rows: the command, a space, the digits and a zero byte
many_body : (command digits : List ℕ) (n : ℕ) → digits ≡ decimal n
    → reply_body (done_with command n) ≡ command ++ (32 ∷ (digits ++ 0 ∷ []))
many_body command digits n is =
    append_assoc command (spaced n) (0 ∷ []) ∙ ap (λ (l : List ℕ). command ++ (32 ∷ (l ++ 0 ∷ []))) (sym is)

many_length : (command digits : List ℕ) (n : ℕ) → digits ≡ decimal n
    → length (reply_body (done_with command n)) ≡ length command + length digits + 2
many_length command digits n is =
    let whole = ap length (many_body command digits n is) ∙ length-append command (32 ∷ (digits ++ 0 ∷ [])) in
    omega (arith, whole, length-append digits (0 ∷ []))

pub many_fit : (command digits : List ℕ) (n : ℕ) → n < 2 ^ 64 → digits ≡ decimal n → IsTag command
    → length command + length digits + 2 ≤ 1073741823
many_fit command digits n lt is tag =
    let good = tag n lt in
    let body = good.body in
    omega (arith, body, many_length command digits n is)

-- the head, the command, a space, the digits and a zero byte
pub many_appended : (command digits : List ℕ) (n : ℕ) (out head begun named apart counted new : List ℕ) → digits ≡ decimal n
    → head ≡ 67 ∷ count32 (4 + (length command + length digits + 2)) → begun ≡ out ++ head → named ≡ begun ++ command
    → apart ≡ named ++ (32 ∷ []) → counted ≡ apart ++ digits → new ≡ counted ++ (0 ∷ [])
    → new ≡ out ++ replies_bytes (done_with command n ∷ [])
many_appended command digits n out head begun named apart counted new is h p q r s e =
    let rest = command ++ (32 ∷ (digits ++ 0 ∷ [])) in
    let late = behind named apart new (32 ∷ []) (digits ++ 0 ∷ []) r (behind apart counted new digits (0 ∷ []) s e) in
    behind out begun new head rest p (behind begun named new command (32 ∷ (digits ++ 0 ∷ [])) q late)
    ∙ ap (λ (l : List ℕ). out ++ l) (
    ap (λ (l : List ℕ). l ++ rest) h
    ∙ ap (λ (m : ℕ). (67 ∷ count32 (4 + m)) ++ rest) (sym (many_length command digits n is))
    ∙ ap (λ (l : List ℕ). (67 ∷ count32 (4 + length (reply_body (done_with command n)))) ++ l) (sym (many_body command digits n is))
    ∙ one_reply (done_with command n)
    )
