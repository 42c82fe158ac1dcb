-- What is put is the body of the reply, and the room that it needs is there.
use Rattle.std.proofs.Common.{◌≡◌, ℕ, ℤ, pos, ◌+◌, ◌<◌, ◌≤◌, List, [], ◌∷◌, ◌++◌, length, FitsSigned, to_z, of_z, refl, sym, subst, ap, ◌∙◌, append_assoc, length-append, arith, rules}
use Rattle.std.specs.Int.{w8, w16}
use Rattle.std.specs.List.{AllByRecursion, flat_map}
use Rattle.std.proofs.lemmas.Int.{ints, to_z-of_z}
use Rattle.std.proofs.lemmas.List.{append-nil}
use Rattle.pg_messages.specs.Fields.{count16, count32, int16, int32, string}
use Rattle.pg_messages.specs.Replies.{reply_body, reply_counts, copy_columns, error_fields, field_description}
use Rattle.pg_messages.specs.declared.backend.PgWireBackendMessage.{PgWireBackendMessage}
use Rattle.pg_messages.specs.declared.backend.PgWireBackendMessage.TheVariants as server
use Rattle.pg_messages.specs.declared.copy.CopyBothResponse.{CopyBothResponse}
use Rattle.pg_messages.specs.declared.copy.CopyData.{CopyData}
use Rattle.pg_messages.specs.declared.copy.CopyInResponse.{CopyInResponse}
use Rattle.pg_messages.specs.declared.copy.CopyOutResponse.{CopyOutResponse}
use Rattle.pg_messages.specs.declared.data.DataRow.{DataRow}
use Rattle.pg_messages.specs.declared.data.FieldDescription.{FieldDescription}
use Rattle.pg_messages.specs.declared.data.ParameterDescription.{ParameterDescription}
use Rattle.pg_messages.specs.declared.data.RowDescription.{RowDescription}
use Rattle.pg_messages.specs.declared.response.CommandComplete.{CommandComplete}
use Rattle.pg_messages.specs.declared.response.ErrorResponse.{ErrorResponse}
use Rattle.pg_messages.specs.declared.response.ReadyForQuery.{ReadyForQuery}
use Rattle.pg_messages.specs.declared.startup.AuthenticationOk.{AuthenticationOk}
use Rattle.pg_messages.specs.declared.startup.BackendKeyData.{BackendKeyData}
use Rattle.pg_messages.specs.declared.startup.ParameterStatus.{ParameterStatus}
use Rattle.pg_messages.proofs.backend.put_body.Goals as goal

written : (m : PgWireBackendMessage) (b old new : List ℕ) → reply_body m ≡ b → new ≡ old ++ b → new ≡ old ++ reply_body m
written m b old new is put = put ∙ ap (λ t. old ++ t) (sym is)

left_over : (m : PgWireBackendMessage) (b : List ℕ) (left room : ℕ) → reply_body m ≡ b → left + length b ≡ room
    → left + length (reply_body m) ≡ room
left_over m b left room is put = ap (λ t. left + length t) is ∙ put

fits : (m : PgWireBackendMessage) (b : List ℕ) (room : ℕ) → reply_body m ≡ b → length (reply_body m) ≤ room → length b ≤ room
fits m b room is h = subst (λ t. length t ≤ room) is h

-- a body in two pieces
first_fits : (a b : List ℕ) (room : ℕ) → length (a ++ b) ≤ room → length a ≤ room
first_fits a b room h = omega (arith, length-append a b)

rest_fits : (a b : List ℕ) (left room : ℕ) → length (a ++ b) ≤ room → left + length a ≡ room → length b ≤ left
rest_fits a b left room h put = omega (arith, length-append a b)

both : (a b old mid new : List ℕ) → mid ≡ old ++ a → new ≡ mid ++ b → new ≡ old ++ (a ++ b)
both a b old mid new e f = f ∙ ap (λ t. t ++ b) e ∙ append_assoc old a b

both_left : (a b : List ℕ) (room mid left : ℕ) → mid + length a ≡ room → left + length b ≡ mid → left + length (a ++ b) ≡ room
both_left a b room mid left e f = omega (arith, length-append a b)

few : (n : ℕ) → FitsSigned w16 (pos n) → n < 32768
few n h = omega (arith, ints)

columns_fit : (m : PgWireBackendMessage) (columns : ℤ) → reply_counts m ≡ columns ∷ []
    → AllByRecursion (FitsSigned w16) (reply_counts m) → FitsSigned w16 columns
columns_fit m columns is h = (subst (λ l. AllByRecursion (FitsSigned w16) l) is h).0

-- what begins a COPY, as it was passed
passed : (format columns : ℤ) (l : List ℤ) → FitsSigned w8 format → FitsSigned w16 columns
    → copy_columns format columns l ≡ copy_columns (to_z w8 (of_z w8 format)) (to_z w16 (of_z w16 columns)) l
passed format columns l f g = rw (to_z-of_z w8 format f, to_z-of_z w16 columns g) refl

-- the other replies have no body
no_body : (m : PgWireBackendMessage)
    → ((x : AuthenticationOk) → m ≡ server.AuthenticationOk x → ⊥)
    → ((x : ParameterStatus) → m ≡ server.ParameterStatus x → ⊥)
    → ((x : BackendKeyData) → m ≡ server.BackendKeyData x → ⊥)
    → ((x : ReadyForQuery) → m ≡ server.ReadyForQuery x → ⊥)
    → ((x : ParameterDescription) → m ≡ server.ParameterDescription x → ⊥)
    → ((x : RowDescription) → m ≡ server.RowDescription x → ⊥)
    → ((x : DataRow) → m ≡ server.DataRow x → ⊥)
    → ((x : CommandComplete) → m ≡ server.CommandComplete x → ⊥)
    → ((x : ErrorResponse) → m ≡ server.ErrorResponse x → ⊥)
    → ((x : CopyInResponse) → m ≡ server.CopyInResponse x → ⊥)
    → ((x : CopyOutResponse) → m ≡ server.CopyOutResponse x → ⊥)
    → ((x : CopyBothResponse) → m ≡ server.CopyBothResponse x → ⊥)
    → ((x : CopyData) → m ≡ server.CopyData x → ⊥)
    → reply_body m ≡ []
no_body (server.SslResponse x) n0 n1 n2 n3 n4 n5 n6 n7 n8 n9 n10 n11 n12 = refl
no_body (server.GssEncResponse x) n0 n1 n2 n3 n4 n5 n6 n7 n8 n9 n10 n11 n12 = refl
no_body (server.AuthenticationOk x) n0 n1 n2 n3 n4 n5 n6 n7 n8 n9 n10 n11 n12 = absurd (n0 x refl)
no_body (server.ParameterStatus x) n0 n1 n2 n3 n4 n5 n6 n7 n8 n9 n10 n11 n12 = absurd (n1 x refl)
no_body (server.BackendKeyData x) n0 n1 n2 n3 n4 n5 n6 n7 n8 n9 n10 n11 n12 = absurd (n2 x refl)
no_body (server.ReadyForQuery x) n0 n1 n2 n3 n4 n5 n6 n7 n8 n9 n10 n11 n12 = absurd (n3 x refl)
no_body (server.ParseComplete x) n0 n1 n2 n3 n4 n5 n6 n7 n8 n9 n10 n11 n12 = refl
no_body (server.BindComplete x) n0 n1 n2 n3 n4 n5 n6 n7 n8 n9 n10 n11 n12 = refl
no_body (server.CloseComplete x) n0 n1 n2 n3 n4 n5 n6 n7 n8 n9 n10 n11 n12 = refl
no_body (server.PortalSuspended x) n0 n1 n2 n3 n4 n5 n6 n7 n8 n9 n10 n11 n12 = refl
no_body (server.ParameterDescription x) n0 n1 n2 n3 n4 n5 n6 n7 n8 n9 n10 n11 n12 = absurd (n4 x refl)
no_body (server.RowDescription x) n0 n1 n2 n3 n4 n5 n6 n7 n8 n9 n10 n11 n12 = absurd (n5 x refl)
no_body (server.NoData x) n0 n1 n2 n3 n4 n5 n6 n7 n8 n9 n10 n11 n12 = refl
no_body (server.DataRow x) n0 n1 n2 n3 n4 n5 n6 n7 n8 n9 n10 n11 n12 = absurd (n6 x refl)
no_body (server.CommandComplete x) n0 n1 n2 n3 n4 n5 n6 n7 n8 n9 n10 n11 n12 = absurd (n7 x refl)
no_body (server.EmptyQueryResponse x) n0 n1 n2 n3 n4 n5 n6 n7 n8 n9 n10 n11 n12 = refl
no_body (server.ErrorResponse x) n0 n1 n2 n3 n4 n5 n6 n7 n8 n9 n10 n11 n12 = absurd (n8 x refl)
no_body (server.CopyInResponse x) n0 n1 n2 n3 n4 n5 n6 n7 n8 n9 n10 n11 n12 = absurd (n9 x refl)
no_body (server.CopyOutResponse x) n0 n1 n2 n3 n4 n5 n6 n7 n8 n9 n10 n11 n12 = absurd (n10 x refl)
no_body (server.CopyBothResponse x) n0 n1 n2 n3 n4 n5 n6 n7 n8 n9 n10 n11 n12 = absurd (n11 x refl)
no_body (server.CopyData x) n0 n1 n2 n3 n4 n5 n6 n7 n8 n9 n10 n11 n12 = absurd (n12 x refl)
no_body (server.CopyDone x) n0 n1 n2 n3 n4 n5 n6 n7 n8 n9 n10 n11 n12 = refl

pub extend_reserved-requires : goal.extend_reserved-requires
extend_reserved-requires c =
    fits c.args.item.now (count32 0) c.args.dst.now.spare (ap reply_body c.in-AuthenticationOk.is) c.requires.room

pub put-requires : goal.put-requires
put-requires c =
    first_fits (string c.in-ParameterStatus.m.name) (string c.in-ParameterStatus.m.value) _
    (fits c.args.item.now _ _ (ap reply_body c.in-ParameterStatus.is) c.requires.room)

pub put-requires-in-ParameterStatus : goal.put-requires-in-ParameterStatus
put-requires-in-ParameterStatus c =
    rest_fits (string c.in-ParameterStatus.m.name) (string c.in-ParameterStatus.m.value) _ _
    (fits c.args.item.now _ _ (ap reply_body c.in-ParameterStatus.is) c.requires.room)
    c.put.ensures.spare

pub put-requires-in-BackendKeyData : goal.put-requires-in-BackendKeyData
put-requires-in-BackendKeyData c =
    first_fits (int32 c.in-BackendKeyData.m.pid) c.in-BackendKeyData.m.secret_key _
    (fits c.args.item.now _ _ (ap reply_body c.in-BackendKeyData.is) c.requires.room)

pub extend_reserved-requires-in-BackendKeyData : goal.extend_reserved-requires-in-BackendKeyData
extend_reserved-requires-in-BackendKeyData c =
    let is : reply_body c.args.item.now ≡ int32 c.in-BackendKeyData.m.pid ++ c.as_slice.result.now =
    ap reply_body c.in-BackendKeyData.is ∙ ap (λ l. int32 c.in-BackendKeyData.m.pid ++ l) (sym c.as_slice.ensures.bytes) in
    rest_fits (int32 c.in-BackendKeyData.m.pid) c.as_slice.result.now _ _
    (fits c.args.item.now _ _ is c.requires.room) c.put-in-BackendKeyData.ensures.spare

pub extend_reserved-requires-in-ReadyForQuery : goal.extend_reserved-requires-in-ReadyForQuery
extend_reserved-requires-in-ReadyForQuery c =
    let is : reply_body c.args.item.now ≡ c.status_byte.result ∷ [] =
    ap reply_body c.in-ReadyForQuery.is ∙ ap (λ b. b ∷ []) (sym c.status_byte.ensures) in
    fits c.args.item.now _ _ is c.requires.room

pub put_list-requires-clause-count : goal.put_list-requires-clause-count
put_list-requires-clause-count c =
    few _ (columns_fit c.args.item.now (pos (length c.as_slice-in-ParameterDescription.result.now))
    (ap reply_counts c.in-ParameterDescription.is
    ∙ ap (λ (l : List ℕ). pos (length l) ∷ []) (sym c.as_slice-in-ParameterDescription.ensures)) c.requires.fits.counts)

pub put_list-requires-clause-room : goal.put_list-requires-clause-room
put_list-requires-clause-room c =
    let is : reply_body c.args.item.now ≡ count16 (length c.as_slice-in-ParameterDescription.result.now) ++ flat_map count32
    c.as_slice-in-ParameterDescription.result.now =
    ap reply_body c.in-ParameterDescription.is
    ∙ ap (λ l. count16 (length l) ++ flat_map count32 l) (sym c.as_slice-in-ParameterDescription.ensures) in
    fits c.args.item.now _ _ is c.requires.room

pub put_list-requires-in-RowDescription-clause-count : goal.put_list-requires-in-RowDescription-clause-count
put_list-requires-in-RowDescription-clause-count c =
    few _ (columns_fit c.args.item.now (pos (length c.as_slice-in-RowDescription.result.now))
    (ap reply_counts c.in-RowDescription.is
    ∙ ap (λ (l : List FieldDescription). pos (length l) ∷ []) (sym c.as_slice-in-RowDescription.ensures)) c.requires.fits.counts)

pub put_list-requires-in-RowDescription-clause-room : goal.put_list-requires-in-RowDescription-clause-room
put_list-requires-in-RowDescription-clause-room c =
    let is : reply_body c.args.item.now ≡ count16 (length
    c.as_slice-in-RowDescription.result.now) ++ flat_map field_description c.as_slice-in-RowDescription.result.now =
    ap reply_body c.in-RowDescription.is
    ∙ ap (λ l. count16 (length l) ++ flat_map field_description l) (sym c.as_slice-in-RowDescription.ensures) in
    fits c.args.item.now _ _ is c.requires.room

pub put-requires-in-DataRow : goal.put-requires-in-DataRow
put-requires-in-DataRow c =
    first_fits (int16 c.in-DataRow.m.field_count) c.in-DataRow.m.payload _
    (fits c.args.item.now _ _ (ap reply_body c.in-DataRow.is) c.requires.room)

pub extend_reserved-requires-in-DataRow : goal.extend_reserved-requires-in-DataRow
extend_reserved-requires-in-DataRow c =
    let is : reply_body c.args.item.now ≡ int16 c.in-DataRow.m.field_count ++ c.as_slice-in-DataRow.result.now =
    ap reply_body c.in-DataRow.is ∙ ap (λ l. int16 c.in-DataRow.m.field_count ++ l) (sym c.as_slice-in-DataRow.ensures) in
    rest_fits (int16 c.in-DataRow.m.field_count) c.as_slice-in-DataRow.result.now _ _
    (fits c.args.item.now _ _ is c.requires.room) c.put-in-DataRow.ensures.spare

pub put-requires-in-CommandComplete : goal.put-requires-in-CommandComplete
put-requires-in-CommandComplete c =
    let is : reply_body c.args.item.now ≡ string c.in-CommandComplete.m.tag = ap reply_body c.in-CommandComplete.is in
    fits c.args.item.now _ _ is c.requires.room

pub put-requires-in-ErrorResponse : goal.put-requires-in-ErrorResponse
put-requires-in-ErrorResponse c =
    let is : reply_body c.args.item.now ≡ error_fields c.in-ErrorResponse.m.info = ap reply_body c.in-ErrorResponse.is in
    fits c.args.item.now _ _ is c.requires.room

pub put_columns-requires : goal.put_columns-requires
put_columns-requires c =
    let is : reply_body c.args.item.now ≡ copy_columns c.in-CopyInResponse.m.format c.in-CopyInResponse.m.columns
    c.as_slice-in-CopyInResponse.result.now =
    ap reply_body c.in-CopyInResponse.is
    ∙ ap (λ l. copy_columns c.in-CopyInResponse.m.format c.in-CopyInResponse.m.columns l) (sym
    c.as_slice-in-CopyInResponse.ensures) in
    fits c.args.item.now _ _ is c.requires.room

pub put_columns-requires-in-CopyOutResponse : goal.put_columns-requires-in-CopyOutResponse
put_columns-requires-in-CopyOutResponse c =
    let is : reply_body c.args.item.now ≡ copy_columns c.in-CopyOutResponse.m.format c.in-CopyOutResponse.m.columns
    c.as_slice-in-CopyOutResponse.result.now =
    ap reply_body c.in-CopyOutResponse.is
    ∙ ap (λ l. copy_columns c.in-CopyOutResponse.m.format c.in-CopyOutResponse.m.columns l) (sym
    c.as_slice-in-CopyOutResponse.ensures) in
    fits c.args.item.now _ _ is c.requires.room

pub put_columns-requires-in-CopyBothResponse : goal.put_columns-requires-in-CopyBothResponse
put_columns-requires-in-CopyBothResponse c =
    let is : reply_body c.args.item.now ≡ copy_columns c.in-CopyBothResponse.m.format c.in-CopyBothResponse.m.columns
    c.as_slice-in-CopyBothResponse.result.now =
    ap reply_body c.in-CopyBothResponse.is
    ∙ ap (λ l. copy_columns c.in-CopyBothResponse.m.format c.in-CopyBothResponse.m.columns l) (sym
    c.as_slice-in-CopyBothResponse.ensures) in
    fits c.args.item.now _ _ is c.requires.room

pub extend_reserved-requires-in-CopyData : goal.extend_reserved-requires-in-CopyData
extend_reserved-requires-in-CopyData c =
    let is : reply_body c.args.item.now ≡ c.as_slice-in-CopyData.result.now =
    ap reply_body c.in-CopyData.is ∙ sym c.as_slice-in-CopyData.ensures in
    fits c.args.item.now _ _ is c.requires.room

pub returns-in-AuthenticationOk : goal.returns-in-AuthenticationOk
returns-in-AuthenticationOk c =
    let is : reply_body c.args.item.now ≡ count32 0 = ap reply_body c.in-AuthenticationOk.is in
    record {
      items = written c.args.item.now _ _ _ is c.extend_reserved.ensures.items;
      spare = left_over c.args.item.now _ _ _ is c.extend_reserved.ensures.spare;
    }

pub returns-in-ParameterStatus : goal.returns-in-ParameterStatus
returns-in-ParameterStatus c =
    let is : reply_body c.args.item.now ≡ string c.in-ParameterStatus.m.name ++ string c.in-ParameterStatus.m.value =
    ap reply_body c.in-ParameterStatus.is in
    record {
      items = written c.args.item.now _ _ _ is
          (both (string c.in-ParameterStatus.m.name) (string c.in-ParameterStatus.m.value) _ _ _ c.put.ensures.items
          c.put-in-ParameterStatus.ensures.items);
      spare = left_over c.args.item.now _ _ _ is
          (both_left (string c.in-ParameterStatus.m.name) (string c.in-ParameterStatus.m.value) _ _ _ c.put.ensures.spare
          c.put-in-ParameterStatus.ensures.spare);
    }

pub returns-in-BackendKeyData : goal.returns-in-BackendKeyData
returns-in-BackendKeyData c =
    let is : reply_body c.args.item.now ≡ int32 c.in-BackendKeyData.m.pid ++ c.as_slice.result.now =
    ap reply_body c.in-BackendKeyData.is ∙ ap (λ l. int32 c.in-BackendKeyData.m.pid ++ l) (sym c.as_slice.ensures.bytes) in
    record {
      items = written c.args.item.now _ _ _ is
          (both (int32 c.in-BackendKeyData.m.pid) (c.as_slice.result.now) _ _ _ c.put-in-BackendKeyData.ensures.items
          c.extend_reserved-in-BackendKeyData.ensures.items);
      spare = left_over c.args.item.now _ _ _ is
          (both_left (int32 c.in-BackendKeyData.m.pid) (c.as_slice.result.now) _ _ _ c.put-in-BackendKeyData.ensures.spare
          c.extend_reserved-in-BackendKeyData.ensures.spare);
    }

pub returns-in-ReadyForQuery : goal.returns-in-ReadyForQuery
returns-in-ReadyForQuery c =
    let is : reply_body c.args.item.now ≡ c.status_byte.result ∷ [] =
    ap reply_body c.in-ReadyForQuery.is ∙ ap (λ b. b ∷ []) (sym c.status_byte.ensures) in
    record {
      items = written c.args.item.now _ _ _ is c.extend_reserved-in-ReadyForQuery.ensures.items;
      spare = left_over c.args.item.now _ _ _ is c.extend_reserved-in-ReadyForQuery.ensures.spare;
    }

pub returns-in-ParameterDescription : goal.returns-in-ParameterDescription
returns-in-ParameterDescription c =
    let is : reply_body c.args.item.now ≡ count16 (length c.as_slice-in-ParameterDescription.result.now) ++ flat_map count32
    c.as_slice-in-ParameterDescription.result.now =
    ap reply_body c.in-ParameterDescription.is
    ∙ ap (λ l. count16 (length l) ++ flat_map count32 l) (sym c.as_slice-in-ParameterDescription.ensures) in
    record {
      items = written c.args.item.now _ _ _ is c.put_list.ensures.items;
      spare = left_over c.args.item.now _ _ _ is c.put_list.ensures.spare;
    }

pub returns-in-RowDescription : goal.returns-in-RowDescription
returns-in-RowDescription c =
    let is : reply_body c.args.item.now ≡ count16 (length
    c.as_slice-in-RowDescription.result.now) ++ flat_map field_description c.as_slice-in-RowDescription.result.now =
    ap reply_body c.in-RowDescription.is
    ∙ ap (λ l. count16 (length l) ++ flat_map field_description l) (sym c.as_slice-in-RowDescription.ensures) in
    record {
      items = written c.args.item.now _ _ _ is c.put_list-in-RowDescription.ensures.items;
      spare = left_over c.args.item.now _ _ _ is c.put_list-in-RowDescription.ensures.spare;
    }

pub returns-in-DataRow : goal.returns-in-DataRow
returns-in-DataRow c =
    let is : reply_body c.args.item.now ≡ int16 c.in-DataRow.m.field_count ++ c.as_slice-in-DataRow.result.now =
    ap reply_body c.in-DataRow.is ∙ ap (λ l. int16 c.in-DataRow.m.field_count ++ l) (sym c.as_slice-in-DataRow.ensures) in
    record {
      items = written c.args.item.now _ _ _ is
          (both (int16 c.in-DataRow.m.field_count) (c.as_slice-in-DataRow.result.now) _ _ _ c.put-in-DataRow.ensures.items
          c.extend_reserved-in-DataRow.ensures.items);
      spare = left_over c.args.item.now _ _ _ is
          (both_left (int16 c.in-DataRow.m.field_count) (c.as_slice-in-DataRow.result.now) _ _ _ c.put-in-DataRow.ensures.spare
          c.extend_reserved-in-DataRow.ensures.spare);
    }

pub returns-in-CommandComplete : goal.returns-in-CommandComplete
returns-in-CommandComplete c =
    let is : reply_body c.args.item.now ≡ string c.in-CommandComplete.m.tag = ap reply_body c.in-CommandComplete.is in
    record {
      items = written c.args.item.now _ _ _ is c.put-in-CommandComplete.ensures.items;
      spare = left_over c.args.item.now _ _ _ is c.put-in-CommandComplete.ensures.spare;
    }

pub returns-in-ErrorResponse : goal.returns-in-ErrorResponse
returns-in-ErrorResponse c =
    let is : reply_body c.args.item.now ≡ error_fields c.in-ErrorResponse.m.info = ap reply_body c.in-ErrorResponse.is in
    record {
      items = written c.args.item.now _ _ _ is c.put-in-ErrorResponse.ensures.items;
      spare = left_over c.args.item.now _ _ _ is c.put-in-ErrorResponse.ensures.spare;
    }

pub returns-in-CopyInResponse : goal.returns-in-CopyInResponse
returns-in-CopyInResponse c =
    let m = c.in-CopyInResponse.m in
    let is : reply_body c.args.item.now ≡ copy_columns m.format m.columns c.as_slice-in-CopyInResponse.result.now =
    ap reply_body c.in-CopyInResponse.is
    ∙ ap (λ l. copy_columns m.format m.columns l) (sym c.as_slice-in-CopyInResponse.ensures) in
    let small : FitsSigned w8 m.format = search rules in
    let short = columns_fit c.args.item.now m.columns (ap reply_counts c.in-CopyInResponse.is) c.requires.fits.counts in
    record {
      items = written c.args.item.now _ _ _ (is ∙ passed m.format m.columns _ small short)
          c.put_columns.ensures.items;
      spare = left_over c.args.item.now _ _ _ is c.put_columns.ensures.spare;
    }

pub returns-in-CopyOutResponse : goal.returns-in-CopyOutResponse
returns-in-CopyOutResponse c =
    let m = c.in-CopyOutResponse.m in
    let is : reply_body c.args.item.now ≡ copy_columns m.format m.columns c.as_slice-in-CopyOutResponse.result.now =
    ap reply_body c.in-CopyOutResponse.is
    ∙ ap (λ l. copy_columns m.format m.columns l) (sym c.as_slice-in-CopyOutResponse.ensures) in
    let small : FitsSigned w8 m.format = search rules in
    let short = columns_fit c.args.item.now m.columns (ap reply_counts c.in-CopyOutResponse.is) c.requires.fits.counts in
    record {
      items = written c.args.item.now _ _ _ (is ∙ passed m.format m.columns _ small short)
          c.put_columns-in-CopyOutResponse.ensures.items;
      spare = left_over c.args.item.now _ _ _ is c.put_columns-in-CopyOutResponse.ensures.spare;
    }

pub returns-in-CopyBothResponse : goal.returns-in-CopyBothResponse
returns-in-CopyBothResponse c =
    let m = c.in-CopyBothResponse.m in
    let is : reply_body c.args.item.now ≡ copy_columns m.format m.columns c.as_slice-in-CopyBothResponse.result.now =
    ap reply_body c.in-CopyBothResponse.is
    ∙ ap (λ l. copy_columns m.format m.columns l) (sym c.as_slice-in-CopyBothResponse.ensures) in
    let small : FitsSigned w8 m.format = search rules in
    let short = columns_fit c.args.item.now m.columns (ap reply_counts c.in-CopyBothResponse.is) c.requires.fits.counts in
    record {
      items = written c.args.item.now _ _ _ (is ∙ passed m.format m.columns _ small short)
          c.put_columns-in-CopyBothResponse.ensures.items;
      spare = left_over c.args.item.now _ _ _ is c.put_columns-in-CopyBothResponse.ensures.spare;
    }

pub returns-in-CopyData : goal.returns-in-CopyData
returns-in-CopyData c =
    let is : reply_body c.args.item.now ≡ c.as_slice-in-CopyData.result.now =
    ap reply_body c.in-CopyData.is ∙ sym c.as_slice-in-CopyData.ensures in
    record {
      items = written c.args.item.now _ _ _ is c.extend_reserved-in-CopyData.ensures.items;
      spare = left_over c.args.item.now _ _ _ is c.extend_reserved-in-CopyData.ensures.spare;
    }

pub returns-in_default : goal.returns-in_default
returns-in_default c =
    let is : reply_body c.args.item.now ≡ [] =
    no_body c.args.item.now c.in_default.not-AuthenticationOk c.in_default.not-ParameterStatus
    c.in_default.not-BackendKeyData c.in_default.not-ReadyForQuery c.in_default.not-ParameterDescription
    c.in_default.not-RowDescription c.in_default.not-DataRow c.in_default.not-CommandComplete c.in_default.not-ErrorResponse
    c.in_default.not-CopyInResponse c.in_default.not-CopyOutResponse c.in_default.not-CopyBothResponse
    c.in_default.not-CopyData in
    record {
      items = written c.args.item.now [] c.args.dst.now.items c.args.dst.now.items is (sym (append-nil c.args.dst.now.items));
      spare = left_over c.args.item.now [] c.args.dst.now.spare c.args.dst.now.spare is (omega arith);
    }
