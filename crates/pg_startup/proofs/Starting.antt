-- The startup packet: the error of a version that isn't spoken, the replies, the parameters, which are short, and the rows.
use Rattle.std.specs.Prelude.{Result, Ok, Err, OnErr}
use Rattle.std.proofs.Common.{◌≡◌, ◌≢◌, ℕ, ℤ, ◌+◌, ◌<◌, ◌≤◌, ◌^◌, ◌/◌, ◌%◌, List, [], ◌∷◌, ◌++◌, length, codes, cond, ◌==◌, Bool, Option, Some, None, nat_lt, true, false, refl, sym, ap, subst, arith, inl, inr, length-append, ◌∙◌}
use Rattle.std.proofs.lemmas.Fmt.{length-decimal-le}
use Rattle.std.proofs.lemmas.List.{append-nil, length-map, nil_from_length}
use Rattle.std.specs.Char.{to_ascii_lowercase}
use Rattle.std.specs.Cmp.Lexicographic.{slice_cmp, nat_list_cmp_total}
use Rattle.std.specs.Fmt.{decimal}
use Rattle.std.specs.FinMap as fin
use Rattle.std.specs.FinMap.Entries.{by_order}
use Rattle.std.specs.List.{AllByRecursion, flat_map}
use Rattle.std.specs.Ordering.{nat_cmp}
use Rattle.std.specs.Str.{str_to_ascii_lowercase}
use Rattle.std.specs.declared.cmp.Ordering.TheVariants.{Less, Equal, Greater}
use Rattle.pg_messages.specs.Fields.{count32, string}
use Rattle.pg_messages.specs.Frames.{IsFrame, IsParameter, protocol_3_0, protocol_3_2}
use Rattle.pg_messages.specs.declared.codec.ProtocolVersion.{ProtocolVersion}
use Rattle.pg_messages.specs.declared.codec.ProtocolVersion.TheVariants.{PROTOCOL3_0, PROTOCOL3_2}
use Rattle.pg_messages.specs.Replies.{HasNoZero, reply_bytes, replies_bytes}
use Rattle.pg_messages.specs.declared.backend.PgWireBackendMessage.TheVariants as server
use Rattle.pg_messages.specs.declared.frontend.PgWireFrontendMessage.{PgWireFrontendMessage}
use Rattle.pg_messages.specs.declared.frontend.PgWireFrontendMessage.TheVariants as client
use Rattle.pg_messages.specs.declared.response.ErrorInfo.{ErrorInfo}
use Rattle.pg_messages.specs.declared.response.TransactionStatus.TheVariants as status
use Rattle.pg_messages.specs.declared.startup.Startup.{Startup}
use Rattle.named_entries.specs.Names.{NameMap}
use Rattle.pg_results.specs.declared.client.PgWireConnectionState.TheVariants as phase
use Rattle.pg_results.specs.Rows.{IsTellable}
use Rattle.pg_results.specs.Texts.{IsShortText}
use Rattle.pg_results.specs.declared.error.PgWireError.{PgWireError}
use Rattle.pg_results.specs.declared.error.PgWireError.TheVariants as wire
use Rattle.pg_client.specs.declared.desk.DeskCall.{DeskCall}
use Rattle.pg_client.specs.declared.ends.SessionError.{SessionError}
use Rattle.pg_client.specs.declared.ends.SessionError.TheVariants as session
use Rattle.pg_client.specs.Effect.{Row, Called, Done, Failed, silent, refuses, IsEffect, IsRow, IsCutRow, IsRefusedRow}
use Rattle.pg_client.specs.Errors.{fatal, unsupported_text, unsupported_version}
use Rattle.pg_replies.specs.Replies.{parameter, ready, startup_replies}
use Rattle.pg_client.specs.StartupRows.{startup_row, on_startup, accepts, told_key, narrowing, with_parameters}
use Rattle.pg_client.specs.State.{State}
use Rattle.pg_replies.proofs.Encodable.{HasNoZero-append, HasNoZero-decimal, by_test}
use Rattle.pg_replies.proofs.Sent.{sent_behind, one_behind}
use Rattle.pg_startup.specs.Startup.{spoken_version}

pub on_err_always : {T E P : Type 0} (r : Result T E) → P → OnErr r P
on_err_always (Ok x) p = tt
on_err_always (Err e) p = p

-- ---- the error of a version that isn't spoken

unsupported_no_zero : (code : ℕ) → HasNoZero (unsupported_text code)
unsupported_no_zero code =
    let x = codes "unsupported frontend protocol " in let y = codes "." in let z = codes ": server supports 3.0 and 3.2" in
    let major = decimal (code / 65536) in let minor = decimal (code % 65536) in
    HasNoZero-append (((x ++ major) ++ y) ++ minor) z
    (HasNoZero-append ((x ++ major) ++ y) minor
    (HasNoZero-append (x ++ major) y (HasNoZero-append x major (by_test x refl) (HasNoZero-decimal (code / 65536))) (by_test y refl))
    (HasNoZero-decimal (code % 65536))) (by_test z refl)

unsupported_len : (code : ℕ) → code < 2 ^ 32 → length (unsupported_text code) ≤ 200
unsupported_len code small =
    let x = codes "unsupported frontend protocol " in let y = codes "." in let z = codes ": server supports 3.0 and 3.2" in
    let major = decimal (code / 65536) in let minor = decimal (code % 65536) in
    let a = length-decimal-le 20 (code / 65536) (omega arith) (omega arith) (omega (arith, small)) in
    let b = length-decimal-le 20 (code % 65536) (omega arith) (omega arith) (omega (arith, small)) in
    let c = length-append (((x ++ major) ++ y) ++ minor) z in
    let d = length-append ((x ++ major) ++ y) minor in
    let e = length-append (x ++ major) y in
    let f = length-append x major in omega arith

tellable_fatal : (code message : List ℕ) → length code ≤ 5 → HasNoZero code → length message ≤ 200 → HasNoZero message
    → IsTellable (wire.UserError (fatal code message))
tellable_fatal code message few plain short clean = record {
  is_told = λ e. cc;
  encodable = record {
    body = simp length-append (omega arith);
    counts = tt;
    texts = (by_test (codes "FATAL") refl, (plain, (clean, tt)));
  };
}

pub tellable_unsupported : (code : ℕ) → code < 2 ^ 32 → IsTellable (wire.UserError (unsupported_version code))
tellable_unsupported code small = tellable_fatal (codes "0A000") (unsupported_text code) (omega arith) (by_test (codes "0A000") refl)
    (unsupported_len code small) (unsupported_no_zero code)

pub is_unsupported : (info : ErrorInfo) (code : ℕ) → info.severity ≡ codes "FATAL" → info.code ≡ codes "0A000"
    → info.message ≡ unsupported_text code → info ≡ unsupported_version code
is_unsupported info code a b c = λ i. record { severity = a i; code = b i; message = c i }

-- ---- the replies to a startup packet, one after another

pub started : (pid : ℤ) (key a b c d e f g h : List ℕ) → b ≡ a ++ reply_bytes (server.AuthenticationOk (record {}))
    → c ≡ b ++ replies_bytes (parameter (codes "server_version") (codes "16.0") ∷ [])
    → d ≡ c ++ replies_bytes (parameter (codes "server_encoding") (codes "UTF8") ∷ [])
    → e ≡ d ++ replies_bytes (parameter (codes "client_encoding") (codes "UTF8") ∷ [])
    → f ≡ e ++ replies_bytes (parameter (codes "integer_datetimes") (codes "on") ∷ [])
    → g ≡ f ++ replies_bytes (server.BackendKeyData (record { pid = pid; secret_key = key }) ∷ [])
    → h ≡ g ++ replies_bytes (ready status.Idle ∷ [])
    → h ≡ a ++ replies_bytes (startup_replies pid key)
started pid key a b c d e f g h p q r s t u v =
    let last = ready status.Idle ∷ [] in
    let keys = server.BackendKeyData (record { pid = pid; secret_key = key }) in
    let dates = parameter (codes "integer_datetimes") (codes "on") in
    let theirs = parameter (codes "client_encoding") (codes "UTF8") in
    let ours = parameter (codes "server_encoding") (codes "UTF8") in
    let version = parameter (codes "server_version") (codes "16.0") in
    one_behind a b h (server.AuthenticationOk (record {})) (version ∷ ours ∷ theirs ∷ dates ∷ keys ∷ last) p
    (sent_behind b c h (version ∷ []) (ours ∷ theirs ∷ dates ∷ keys ∷ last) q
    (sent_behind c d h (ours ∷ []) (theirs ∷ dates ∷ keys ∷ last) r
    (sent_behind d e h (theirs ∷ []) (dates ∷ keys ∷ last) s
    (sent_behind e f h (dates ∷ []) (keys ∷ last) t
    (sent_behind f g h (keys ∷ []) last u v)))))

-- ---- the parameters

abbrev pub IsShortPair : List ℕ × List ℕ → Type 0
IsShortPair pair = IsShortText pair.0 × IsShortText pair.1

lower_nonzero : (b : ℕ) → b ≢ 0 → to_ascii_lowercase b ≢ 0
lower_nonzero b h = elim (nat_lt b 65) as (λ t. cond t b (cond (nat_lt b 91) (b + 32) b) ≢ 0) [
  | true ↦ h
  | false ↦ elim (nat_lt b 91) as (λ t. cond t (b + 32) b ≢ 0) [ true ↦ λ e. omega arith | false ↦ h ]
]

lower_no_zero : (t : List ℕ) → HasNoZero t → HasNoZero (str_to_ascii_lowercase t)
lower_no_zero [] h = tt
lower_no_zero (b ∷ t) h = (lower_nonzero b h.0, lower_no_zero t h.1)

lower_short : (t : List ℕ) → IsShortText t → IsShortText (str_to_ascii_lowercase t)
lower_short t h = record { len = let short = h.len in omega (arith, length-map t to_ascii_lowercase); no_zero = lower_no_zero t h.no_zero }

put_short : (k v : List ℕ) (es : List (List ℕ × List ℕ)) → IsShortText k → IsShortText v → AllByRecursion IsShortPair es
    → AllByRecursion IsShortPair (fin.put (slice_cmp nat_cmp) k v es)
put_short k v [] p q h = ((p, q), tt)
put_short k v (e ∷ es) p q h =
    elim (slice_cmp nat_cmp k e.0) as (λ o. AllByRecursion IsShortPair
    (by_order o ((k, v) ∷ e ∷ es) ((e.0, v) ∷ es) (e ∷ fin.put (slice_cmp nat_cmp) k v es))) [
      | Less ↦ ((p, q), h)
      | Equal ↦ ((h.0.0, q), h.1)
      | Greater ↦ (h.0, put_short k v es p q h.1)
    ]

with_short : (ps : List (List ℕ × List ℕ)) (m : NameMap (List ℕ)) → AllByRecursion IsShortPair (fin.entries m)
    → AllByRecursion IsShortPair ps → AllByRecursion IsShortPair (fin.entries (with_parameters m ps))
with_short [] m h hs = h
with_short (p ∷ ps) m h hs = with_short ps (fin.insert m (str_to_ascii_lowercase p.0) p.1)
    (subst (AllByRecursion IsShortPair) (sym (fin.entries-insert nat_list_cmp_total m (str_to_ascii_lowercase p.0) p.1))
    (put_short (str_to_ascii_lowercase p.0) p.1 (fin.entries m) (lower_short p.0 hs.0.0) hs.0.1 h)) hs.1

none_short : (es : List (List ℕ × List ℕ)) → es ≡ [] → AllByRecursion IsShortPair es
none_short es e = subst (AllByRecursion IsShortPair) (sym e) tt

no_entry : fin.entries {X = List ℕ} {R = slice_cmp nat_cmp} fin.empty ≡ []
no_entry = nil_from_length _ (sym (fin.len-entries fin.empty) ∙ fin.len-empty (slice_cmp nat_cmp) (List ℕ))

abbrev pairs_bytes : List (List ℕ × List ℕ) → List ℕ
pairs_bytes ps = flat_map (λ pair. string pair.0 ++ string pair.1) ps

spoken_short : (ps : List (List ℕ × List ℕ)) → AllByRecursion IsParameter ps → length (pairs_bytes ps) ≤ 10000
    → AllByRecursion IsShortPair ps
spoken_short [] h few = tt
spoken_short (p ∷ ps) h few =
    let a = length-append (string p.0 ++ string p.1) (pairs_bytes ps) in
    let b = length-append (string p.0) (string p.1) in
    let c = length-append p.0 (0 ∷ []) in let d = length-append p.1 (0 ∷ []) in (
      (record { len = omega arith; no_zero = h.0.name.no_zero }, record { len = omega arith; no_zero = h.0.value.no_zero }),
      spoken_short ps h.1 (omega arith),
    )

-- A good frame's parameters are short, since the frame is.
parameters_short : (frame : List ℕ) (m : Startup) → IsFrame true frame (client.Startup m) → AllByRecursion IsShortPair m.parameters
parameters_short frame m h = elim h.carries.1 [
  | inl spoken ↦ spoken_short m.parameters spoken.parameters
      (let limit = h.limit in
      let a = ap length h.bytes in
      let b = length-append (count32 (8 + length h.body) ++ count32 h.kind) h.body in
      let c = ap length spoken.layout in
      let d = length-append (pairs_bytes m.parameters) (0 ∷ []) in omega arith)
  | inr unspoken ↦ none_short m.parameters unspoken.parameters
]

pub metadata_short : (frame : List ℕ) (m : Startup) → IsFrame true frame (client.Startup m)
    → AllByRecursion IsShortPair (fin.entries (with_parameters fin.empty m.parameters))
metadata_short frame m h = with_short m.parameters fin.empty (none_short _ no_entry) (parameters_short frame m h)

-- ---- rows without memory

cut_row : {S : Type 0} (row : Row S) (calls new_calls : List DeskCall) → new_calls ≡ calls → IsCutRow row calls new_calls
cut_row row calls new_calls same = record { made = []; front = ((row []).calls, refl); grown = same ∙ sym (append-nil calls) }

-- Memory is wanting before anything is called.
pub row_without_memory : {S : Type 0} (row : Row S) (out new_out : List ℕ) (calls new_calls : List DeskCall) (s : State S)
    (e : SessionError) → new_calls ≡ calls → e ≡ session.Wire wire.NoMemory → IsRefusedRow row out new_out calls new_calls s e
row_without_memory row out new_out calls new_calls s e same none =
    subst (IsRefusedRow row out new_out calls new_calls s) (sym none) (inl (refl, cut_row row calls new_calls same))

-- ---- the row of a startup packet

-- what a startup packet of a version is answered, where it is spoken
abbrev by_version : {S : Type 0} → State S → Startup → Option ProtocolVersion → Called S
by_version s m None = silent (refuses s (wire.UserError (unsupported_version m.code)))
by_version s m (Some version) = accepts s version m

by_code : {S : Type 0} (s : State S) (m : Startup) (first second : Bool)
    → cond first (accepts s PROTOCOL3_0 m) (cond second (accepts s PROTOCOL3_2 m) (by_version s m None))
    ≡ by_version s m (cond first (Some PROTOCOL3_0) (cond second (Some PROTOCOL3_2) None))
by_code s m true second = refl
by_code s m false true = refl
by_code s m false false = refl

startup_by_version : {S : Type 0} (s : State S) (m : Startup) (version : Option ProtocolVersion) → version ≡ spoken_version m.code
    → on_startup s m ≡ by_version s m version
startup_by_version s m version e =
    by_code s m (m.code == protocol_3_0) (m.code == protocol_3_2) ∙ ap (by_version s m) (sym e)

module _ {S : Type 0} (s t : State S) (m : Startup) (out new_out : List ℕ) (calls new_calls : List DeskCall) where
  abbrev pub the_row : Row S
  the_row answers = on_startup s m

  module _ (version : ProtocolVersion) (spoken : Some version ≡ spoken_version m.code) where
    pub spoken_answered : IsRow (λ answers. accepts s version m) out new_out calls new_calls (Done t)
        → IsRow the_row out new_out calls new_calls (Done t)
    spoken_answered row = subst (λ (c : Called S). IsRow (λ answers. c) out new_out calls new_calls (Done t))
        (sym (startup_by_version s m (Some version) spoken)) row

    pub spoken_refused : (e : PgWireError) → e ≡ wire.NoMemory → IsCutRow (λ answers. accepts s version m) calls new_calls
        → IsRefusedRow the_row out new_out calls new_calls t (session.Wire e)
    spoken_refused e memory row = inl (
      memory,
      subst (λ (c : Called S). IsCutRow (λ answers. c) calls new_calls) (sym (startup_by_version s m (Some version) spoken)) row,
    )

  pub unspoken_refused : None ≡ spoken_version m.code → (e : PgWireError) → e ≡ wire.UserError (unsupported_version m.code)
      → new_out ≡ out → new_calls ≡ calls → t ≡ s
      → IsRefusedRow the_row out new_out calls new_calls t (session.Wire e)
  unspoken_refused none e is same_out same_calls same =
      let refused : Called S = silent (refuses s (wire.UserError (unsupported_version m.code))) in
      let effect : IsEffect refused.effect out new_out (Failed t e) = record {
        replied = same_out ∙ sym (append-nil out);
        came = λ i. Failed (sym same i) (sym is i);
      } in
      let row : IsRow (λ answers. refused) out new_out calls new_calls (Failed t e) = record {
        made = [];
        own = refl;
        called = same_calls ∙ sym (append-nil calls);
        effect = effect;
      } in
      inr (subst (λ (c : Called S). IsRow (λ answers. c) out new_out calls new_calls (Failed t e))
      (sym (startup_by_version s m None none)) row)

-- ---- a version that is spoken

module _ {S : Type 0} (s : State S) (version : ProtocolVersion) (m : Startup) (calls new_calls : List DeskCall) where
  -- memory is wanting before the registration is narrowed
  pub accept_cut_first : new_calls ≡ calls → IsCutRow (λ answers. accepts s version m) calls new_calls
  accept_cut_first same = cut_row (λ answers. accepts s version m) calls new_calls same

  -- and behind that
  pub accept_cut : new_calls ≡ calls ++ narrowing version s.info.secret_key → IsCutRow (λ answers. accepts s version m) calls new_calls
  accept_cut grown = record {
    made = narrowing version s.info.secret_key;
    front = ([], sym (append-nil (narrowing version s.info.secret_key)));
    grown = grown;
  }

  pub accepted : (out new_out key : List ℕ) (names : NameMap (List ℕ)) → new_calls ≡ calls ++ narrowing version s.info.secret_key
      → key ≡ told_key version s.info.secret_key → names ≡ with_parameters fin.empty m.parameters
      → new_out ≡ out ++ replies_bytes (startup_replies s.info.pid key)
      → IsRow (λ answers. accepts s version m) out new_out calls new_calls (Done (record s {
        info = record s.info {
          secret_key = key;
          protocol = version;
          metadata = names;
          status = status.Idle;
          state = phase.ReadyForQuery;
        };
      }))
  accepted out new_out key names grown told kept replied = record {
    made = narrowing version s.info.secret_key;
    own = refl;
    called = grown;
    effect = record {
      replied = replied ∙ ap (λ (k : List ℕ). out ++ replies_bytes (startup_replies s.info.pid k)) told;
      came = λ i. Done (record s {
        info = record s.info {
          secret_key = sym told i;
          protocol = version;
          metadata = sym kept i;
          status = status.Idle;
          state = phase.ReadyForQuery;
        };
      });
    };
  }

-- ---- the same, as the row of a message

module _ {S : Type 0} (s t : State S) (m : PgWireFrontendMessage) (packet : Startup) (is : m ≡ client.Startup packet)
    (out new_out : List ℕ) (calls new_calls : List DeskCall) where
  pub packet_answered : IsRow (λ answers. on_startup s packet) out new_out calls new_calls (Done t)
      → IsRow (λ answers. startup_row answers s m) out new_out calls new_calls (Done t)
  packet_answered row = subst (λ m. IsRow (λ answers. startup_row answers s m) out new_out calls new_calls (Done t)) (sym is) row

  pub packet_refused : (wire : PgWireError) (e : SessionError) → e ≡ session.Wire wire
      → IsRefusedRow (λ answers. on_startup s packet) out new_out calls new_calls t (session.Wire wire)
      → IsRefusedRow (λ answers. startup_row answers s m) out new_out calls new_calls t e
  packet_refused wire e gives row =
      subst (λ m. IsRefusedRow (λ answers. startup_row answers s m) out new_out calls new_calls t e) (sym is)
      (subst (IsRefusedRow (λ answers. on_startup s packet) out new_out calls new_calls t) (sym gives) row)
