-- The header of a frame of which there are some bytes, and which commands may begin so.
use Rattle.std.proofs.Common.{◌≡◌, ◌≢◌, ℕ, ◌+◌, ◌-◌, ◌≤◌, Bool, true, false, List, [], ◌∷◌, ◌++◌, ◌⊎◌, inl, inr, Option, Some, None, Result, Ok, Err, IfOk, IfSome, IfNone, length, take, drop, slice_index, Contains, refl, sym, ap, subst, ◌∙◌, append-nil, append_assoc, length-append, arith}
use Rattle.std.specs.Int.{w32, from_be_bytes}
use Rattle.std.specs.List.{AllByRecursion}
use Rattle.std.proofs.lemmas.Bool.{cases_lt}
use Rattle.std.proofs.lemmas.List.{take-append-le, take-append-drop, length-take, length-drop, nil_from_length}
use Rattle.pg_messages.specs.declared.frontend.PgWireFrontendMessage.{PgWireFrontendMessage}
use Rattle.pg_messages.specs.declared.frontend.PgWireFrontendMessage.TheVariants as client
use Rattle.pg_messages.specs.declared.simplequery.Query.{Query}
use Rattle.pg_messages.specs.Frames.{IsFrame, IsGoodHeader, header_len, told_len, type_bytes}
use Rattle.pg_messages.proofs.OneReading.{front, one_frame}
use Rattle.pg_results.specs.declared.client.PgWireConnectionState.{PgWireConnectionState}
use Rattle.pg_results.specs.declared.client.PgWireConnectionState.TheVariants as phase
use Rattle.conversation_table.specs.Table.{is_startup_phase}
use Rattle.cursor_commands.specs.declared.command.CursorCommand.{CursorCommand}
use Rattle.cursor_commands.specs.Asking.{CanBeSent}
use Rattle.cursor_commands.specs.Commands.{command_of}
use Rattle.cursor_commands.specs.Cursors.{messages_of}
use Rattle.cursor_commands.proofs.SendLemmas.{can_be_sent}
use Rattle.cursor_table.specs.CursorTable.{asked_command, is_ready_phase}
use Rattle.cursor_session.specs.Fronts.{BeginsNoCommand, FitsFrame, IsBegun}

drop_one : (r more : List ℕ) → 1 ≤ length r → drop 1 (r ++ more) ≡ drop 1 r ++ more
drop_one [] more h = absurd (omega arith)
drop_one (x ∷ r) more h = refl

-- the header tells the same, whatever follows
pub told_more : (b : Bool) (r more : List ℕ) → header_len b ≤ length r → told_len b (r ++ more) ≡ told_len b r
told_more true r more h = ap (from_be_bytes w32) (take-append-le 4 r more h)
told_more false r more h =
    ap (λ (l : List ℕ). 1 + from_be_bytes w32 (take 4 l)) (drop_one r more (omega arith))
    ∙ ap (λ (l : List ℕ). 1 + from_be_bytes w32 l) (take-append-le 4 (drop 1 r) more (omega (arith, length-drop 1 r)))

first_more : (r more : List ℕ) → 1 ≤ length r → slice_index (r ++ more) 0 ≡ slice_index r 0
first_more [] more h = absurd (omega arith)
first_more (x ∷ r) more h = refl

pub good_more : (b : Bool) (r more : List ℕ) → header_len b ≤ length r → IsGoodHeader b (r ++ more) → IsGoodHeader b r
good_more true r more h good =
    let told = told_more true r more h in (subst (λ n. 8 ≤ n) told good.0, subst (λ n. n ≤ 10000) told good.1)
good_more false r more h good =
    let told = told_more false r more h in (
      subst (λ n. Contains type_bytes n) (first_more r more (omega arith)) good.0,
      subst (λ n. 5 ≤ n) told good.1,
      subst (λ n. n ≤ 1048577) told good.2,
    )

-- what the header of a whole frame tells
pub whole_told : (b : Bool) (frame : List ℕ) (m : PgWireFrontendMessage) → IsFrame b frame m
    → (told_len b frame ≡ length frame) × IsGoodHeader b frame
whole_told b frame m f =
    let x = front b frame [] m f in
    (sym (ap (told_len b) (append-nil frame)) ∙ x.told, subst (IsGoodHeader b) (append-nil frame) x.good)

-- ---- parts of a frame

pub front_fits : (b : Bool) (bytes : List ℕ) (n : ℕ) → n ≤ length bytes → (n ≤ header_len b) ⊎ (n ≤ told_len b bytes)
    → FitsFrame b (take n bytes)
front_fits b bytes n within fits =
    let size = length-take n bytes in
    elim (cases_lt n (header_len b)) [
      | inl small ↦ inl (omega (arith, small, size))
      | inr header ↦
          let told : told_len b bytes ≡ told_len b (take n bytes) =
          ap (told_len b) (sym (take-append-drop n bytes))
          ∙ told_more b (take n bytes) (drop n bytes) (omega (arith, header, size, within)) in
          elim fits [
            | inl le ↦ inl (omega (arith, le, size))
            | inr le ↦ inr (omega (arith, le, size, told))
          ]
    ]

pub behind_fits : (b : Bool) (held bytes : List ℕ)
    → (length held + length bytes ≤ header_len b)
    ⊎ ((header_len b ≤ length held) × (length held + length bytes ≤ told_len b held)) → FitsFrame b (held ++ bytes)
behind_fits b held bytes fits =
    let both = length-append held bytes in
    elim fits [
      | inl le ↦ inl (omega (arith, le, both))
      | inr w ↦ inr (let told = told_more b held bytes w.0 in let le = w.1 in omega (arith, le, both, told))
    ]

-- ---- commands

pub ready_is_typed : (state : PgWireConnectionState) → is_ready_phase state ≡ true → is_startup_phase state ≡ false
ready_is_typed phase.AwaitingStartup r = absurd (let e = r in cc)
ready_is_typed phase.ReadyForQuery r = refl
ready_is_typed phase.AwaitingSync r = refl
ready_is_typed (phase.CopyInProgress extended) r = refl

-- only a frame whose type byte is `Q` is a command
asked_first : (frame : List ℕ) (m : PgWireFrontendMessage) → IsFrame false frame m → slice_index frame 0 ≢ 81 → asked_command m ≡ None
asked_first frame (client.Query q) f ne = absurd (ne (ap (λ l. slice_index l 0) f.bytes ∙ f.carries.0))
asked_first frame _ f ne = refl

pub no_query : (state : PgWireConnectionState) (bytes : List ℕ) → 1 ≤ length bytes
    → (is_ready_phase state ≡ true → slice_index bytes 0 ≢ 81) → BeginsNoCommand state bytes
no_query state bytes some other more m f ready =
    asked_first (bytes ++ more) m (subst (λ b. IsFrame b (bytes ++ more) m) (ready_is_typed state ready) f)
    (λ e. other ready (sym (first_more bytes more some) ∙ e))

pub no_command : (state : PgWireConnectionState) (bytes : List ℕ) → header_len (is_startup_phase state) ≤ length bytes
    → (is_ready_phase state ≡ true → IsGoodHeader false bytes → told_len false bytes ≤ length bytes)
    → ((m : PgWireFrontendMessage) → IsFrame false bytes m → asked_command m ≡ None) → BeginsNoCommand state bytes
no_command state bytes header whole none more m f ready =
    let typed = ready_is_typed state ready in
    let long : 5 ≤ length bytes = subst (λ b. header_len b ≤ length bytes) typed header in
    let g : IsFrame false (bytes ++ more) m = subst (λ b. IsFrame b (bytes ++ more) m) typed f in
    let x = whole_told false (bytes ++ more) m g in
    let told = told_more false bytes more long in
    let within = whole ready (good_more false bytes more long x.1) in
    let end : more ≡ [] = nil_from_length more (omega (arith, x.0, told, within, length-append bytes more)) in
    none m (subst (λ l. IsFrame false l m) (ap (λ l. bytes ++ l) end ∙ append-nil bytes) g)

-- the messages of a command that came in a good frame can be sent
pub asked_can_be_sent : (frame : List ℕ) (m : PgWireFrontendMessage) (command : CursorCommand) → IsFrame false frame m
    → asked_command m ≡ Some command → AllByRecursion CanBeSent (messages_of command)
asked_can_be_sent frame (client.Query q) command f e = can_be_sent frame q command f e
asked_can_be_sent frame _ command f e = absurd (let none = e in cc)

-- ---- the bytes of a frame that is no command

-- those of a frame that begins: what its header tells more is to come
pub begins_so : (state : PgWireConnectionState) (bytes : List ℕ) (owed : ℕ) → header_len (is_startup_phase state) ≤ length bytes
    → FitsFrame (is_startup_phase state) bytes → (told_len (is_startup_phase state) bytes ≡ length bytes + owed)
    ⊎ ((told_len (is_startup_phase state) bytes ≤ length bytes) × (owed ≡ 0))
    → BeginsNoCommand state bytes → IsBegun state bytes owed
begins_so state bytes owed header fits sizes plain =
    record { header = header; told = λ good. told (is_startup_phase state) good header fits sizes; plain = plain }
  where
    told : (b : Bool) → IsGoodHeader b bytes → header_len b ≤ length bytes → FitsFrame b bytes
        → (told_len b bytes ≡ length bytes + owed) ⊎ ((told_len b bytes ≤ length bytes) × (owed ≡ 0))
        → told_len b bytes ≡ length bytes + owed
    told b good header fits (inl same) = same
    told true good header (inl small) (inr w) =
        let low = good.0 in let none = w.1 in let le = w.0 in omega (arith, low, none, le, small, header)
    told false good header (inl small) (inr w) =
        let low = good.1 in let none = w.1 in let le = w.0 in omega (arith, low, none, le, small, header)
    told b good header (inr within) (inr w) = let none = w.1 in let le = w.0 in omega (arith, none, le, within)

-- those of a frame that the session has begun, with more of them
pub begun_more : (state : PgWireConnectionState) (rest bytes : List ℕ) (owed : ℕ) (left : ℕ) → IsBegun state rest owed
    → owed ≡ length bytes + left → IsBegun state (rest ++ bytes) left
begun_more state rest bytes owed left x e =
    let both = length-append rest bytes in
    record {
      header = omega (arith, x.header, both);
      told = λ good.
          let same = told_more (is_startup_phase state) rest bytes x.header in
          let old = x.told (good_more (is_startup_phase state) rest bytes x.header good) in
          omega (arith, same, old, both, e);
      plain = λ more m f ready. x.plain (bytes ++ more) m
          (subst (λ l. IsFrame (is_startup_phase state) l m) (append_assoc rest bytes more) f) ready;
    }

-- ---- what is to come of a frame by its header

pub owed_so : (told size owed : ℕ) → owed ≡ told - size → (told ≡ size + owed) ⊎ ((told ≤ size) × (owed ≡ 0))
owed_so told size owed e =
    elim (cases_lt told size) [
      | inl less ↦ inr (omega (arith, less), omega (arith, less, e))
      | inr enough ↦ inl (omega (arith, enough, e))
    ]

-- ---- the message of a frame

-- a frame that is no Query is no command
pub no_query_no_command : (frame : List ℕ) → ((q : Query) → IsFrame false frame (client.Query q) → ⊥) → (m : PgWireFrontendMessage)
    → IsFrame false frame m → asked_command m ≡ None
no_query_no_command frame none (client.Query q) f = absurd (none q f)
no_query_no_command frame none _ f = refl

-- the command of a Query frame, and that it is none
pub text_asked : (frame text : List ℕ) (command : Option CursorCommand) → IsFrame false frame (client.Query (record { query = text }))
    → command ≡ command_of text
    → IfSome command (λ k. (m : PgWireFrontendMessage) × IsFrame false frame m × (asked_command m ≡ Some k))
text_asked frame text None f e = tt
text_asked frame text (Some k) f e = (client.Query (record { query = text }), f, sym e)

pub text_no_command : (frame text : List ℕ) (command : Option CursorCommand) → IsFrame false frame (client.Query (record { query = text }))
    → command ≡ command_of text → IfNone command ((m : PgWireFrontendMessage) → IsFrame false frame m → asked_command m ≡ None)
text_no_command frame text None f e =
    λ m g. let one = one_frame false frame frame [] [] (client.Query (record { query = text })) m f g refl in
    sym (ap asked_command one.2) ∙ sym e
text_no_command frame text (Some k) f e = tt

-- what follows from there being none
pub none_to : {A E P Q : Type 0} (r : Result (Option A) E) → (P → Q) → IfOk r (λ o. IfNone o P) → IfOk r (λ o. IfNone o Q)
none_to (Ok None) f x = f x
none_to (Ok (Some a)) f x = tt
none_to (Err e) f x = tt

-- the command that was asked, and that none was
pub asked_some : (state : PgWireConnectionState) (bytes : List ℕ) (o : Option CursorCommand) (command : CursorCommand) → o ≡ Some command
    → IfSome o (λ c. (is_ready_phase state ≡ true)
    × ((m : PgWireFrontendMessage) × IsFrame false bytes m × (asked_command m ≡ Some c)))
    → (is_ready_phase state ≡ true) × ((m : PgWireFrontendMessage) × IsFrame false bytes m × (asked_command m ≡ Some command))
asked_some state bytes o command e x =
    subst (λ o. IfSome o (λ c. (is_ready_phase state ≡ true)
    × ((m : PgWireFrontendMessage) × IsFrame false bytes m × (asked_command m ≡ Some c)))) e x

pub if_none : {A P : Type 0} (o : Option A) → o ≡ None → IfNone o P → P
if_none {P = P} o e x = subst (λ o. IfNone o P) e x
