-- A command's messages can be sent, where a good frame carries the query that is the command.
use Rattle.std.proofs.Common.{◌≡◌, ◌≢◌, ℕ, ℤ, pos, ◌+◌, ◌<◌, ◌≤◌, ◌^◌, Bool, true, false, ◌&&◌, nat_lt, if◌then◌else◌, List, [], ◌∷◌, ◌++◌, length, get_or, codes, FitsSigned, Option, Some, None, option_map, refl, ap, subst, arith, length-append}
use Rattle.std.specs.Int.{w32, to_be_bytes, cast_unsigned}
use Rattle.std.specs.List.{AllByRecursion}
use Rattle.std.specs.Option.{option_or}
use Rattle.std.specs.Str.{IsUtf8, IsCharBoundary}
use Rattle.std.specs.Str.Parse.{digits_value}
use Rattle.std.proofs.lemmas.Bool.{ltb-true}
use Rattle.std.proofs.lemmas.Str.{IsUtf8-nil, IsUtf8-take, IsUtf8-drop, IsCharBoundary-after_ascii}
use Rattle.std.proofs.Math.Seq.{take-append_seam, drop-append-add}
use Rattle.pg_messages.specs.declared.frontend.PgWireFrontendMessage.{PgWireFrontendMessage}
use Rattle.pg_messages.specs.declared.frontend.PgWireFrontendMessage.TheVariants as client
use Rattle.pg_messages.specs.declared.extendedquery.Bind.{Bind}
use Rattle.pg_messages.specs.declared.extendedquery.Parse.{Parse}
use Rattle.pg_messages.specs.declared.simplequery.Query.{Query}
use Rattle.pg_messages.specs.Fields.{IsText, string, count32, int32}
use Rattle.pg_messages.specs.Frames.{IsFrame, Carries, frame_bytes, statement_target, portal_target, parse_body, bind_body}
use Rattle.query_texts.specs.QueryTexts.{trimmed, words, is_word}
use Rattle.cursor_commands.specs.declared.command.CursorCommand.{CursorCommand}
use Rattle.cursor_commands.specs.declared.command.CursorCommand.TheVariants.{Declare, Fetch, Close}
use Rattle.cursor_commands.specs.Asking.{CanBeSent, parsing, binding, closing, describing, executing, sync}
use Rattle.cursor_commands.specs.Commands.{command_of, command_in}
use Rattle.cursor_commands.specs.Cursors.{messages_of}
use Rattle.cursor_commands.specs.Limits.{is_count, count_of, limit_of}
use Rattle.cursor_commands.proofs.CountLemmas.{and_left, and_right}
use Rattle.cursor_commands.proofs.WordLemmas.{words_keep, words_total, word_len, total}

sync_frame : IsFrame false (83 ∷ 0 ∷ 0 ∷ 0 ∷ 4 ∷ []) sync
sync_frame = record {
  kind = 83;
  body = [];
  bytes = refl;
  each = (omega arith, (omega arith, (omega arith, (omega arith, (omega arith, tt)))));
  limit = omega arith;
  carries = (refl, refl);
}

-- ---- texts that frames carry

abbrev AreBytes : List ℕ → Type 0
AreBytes text = AllByRecursion (λ byte. byte < 2 ^ 8) text

-- a text that a frame can carry
abbrev IsSent : List ℕ → Type 0
IsSent text = IsText text × AreBytes text

all_append : (P : ℕ → Type 0) (a b : List ℕ) → AllByRecursion P a → AllByRecursion P b → AllByRecursion P (a ++ b)
all_append P [] b p q = q
all_append P (x ∷ a) b p q = (p.0, all_append P a b p.1 q)

all_front : (P : ℕ → Type 0) (a b : List ℕ) → AllByRecursion P (a ++ b) → AllByRecursion P a
all_front P [] b h = tt
all_front P (x ∷ a) b h = (h.0, all_front P a b h.1)

all_behind : (P : ℕ → Type 0) (a b : List ℕ) → AllByRecursion P (a ++ b) → AllByRecursion P b
all_behind P [] b h = h
all_behind P (x ∷ a) b h = all_behind P a b h.1

at_seam : (a c : List ℕ) (b : ℕ) → get_or (a ++ b ∷ c) (length a) 0 ≡ b
at_seam [] c b = refl
at_seam (x ∷ a) c b = at_seam a c b

utf8_cut : (a c : List ℕ) (b : ℕ) → b < 128 → IsUtf8 (a ++ b ∷ c) → IsUtf8 a × IsUtf8 c
utf8_cut a c b small good =
    let whole = a ++ b ∷ c in
    let inside : length a < length whole = omega (arith, length-append a (b ∷ c)) in
    let low : get_or whole (length a) 0 < 128 = omega (arith, small, at_seam a c b) in
    let at : IsCharBoundary whole (length a) = (omega (arith, inside), λ i high. absurd (omega (arith, low, high))) in
    let behind : IsCharBoundary whole (length a + 1) = IsCharBoundary-after_ascii whole (length a) good inside low in (
      subst IsUtf8 (take-append_seam a (b ∷ c)) (IsUtf8-take whole (length a) good at),
      subst IsUtf8 (drop-append-add a (b ∷ c) 1) (IsUtf8-drop whole (length a + 1) good behind),
    )

sent_cut : (a c : List ℕ) (b : ℕ) → b < 128 → IsSent (a ++ b ∷ c) → IsSent a × IsSent c
sent_cut a c b small good =
    let texts = utf8_cut a c b small good.0.utf8 in (
      (
        record { utf8 = texts.0; no_zero = all_front (λ byte. byte ≢ 0) a (b ∷ c) good.0.no_zero },
        all_front (λ byte. byte < 2 ^ 8) a (b ∷ c) good.1,
      ),
      (
        record { utf8 = texts.1; no_zero = (all_behind (λ byte. byte ≢ 0) a (b ∷ c) good.0.no_zero).1 },
        (all_behind (λ byte. byte < 2 ^ 8) a (b ∷ c) good.1).1,
      ),
    )

-- the query of a good frame, and how long it is
query_sent : (frame : List ℕ) (query : Query) → IsFrame false frame (client.Query query)
    → IsSent query.query × (length query.query ≤ 1048571)
query_sent frame query is =
    let layout : is.body ≡ string query.query = is.carries.1 in
    let bytes = subst AreBytes layout (all_behind (λ byte. byte < 2 ^ 8) (is.kind ∷ count32 (4 + length is.body)) is.body
    (subst AreBytes is.bytes is.each)) in (
      (is.carries.2.query, all_front (λ byte. byte < 2 ^ 8) query.query (0 ∷ []) bytes),
      omega (
        arith,
        is.limit,
        ap length is.bytes,
        ap length layout,
        length-append (count32 (4 + length is.body)) is.body,
        length-append query.query (0 ∷ []),
      ),
    )

-- ---- frames of the messages

four_bytes : (n : ℕ) → AreBytes (to_be_bytes w32 n)
four_bytes n = (omega arith, (omega arith, (omega arith, (omega arith, tt))))

zero_byte : AreBytes (0 ∷ [])
zero_byte = (omega arith, tt)

two_zeros : AreBytes (0 ∷ 0 ∷ [])
two_zeros = (omega arith, (omega arith, tt))

join : (a b : List ℕ) → AreBytes a → AreBytes b → AreBytes (a ++ b)
join a b p q = all_append (λ byte. byte < 2 ^ 8) a b p q

string_bytes : (text : List ℕ) → IsSent text → AreBytes (string text)
string_bytes text good = join text (0 ∷ []) good.1 zero_byte

empty_sent : IsSent []
empty_sent = (record { utf8 = IsUtf8-nil; no_zero = tt }, tt)

framed : (kind : ℕ) (body : List ℕ) (m : PgWireFrontendMessage) → kind < 2 ^ 8 → AreBytes body → length body ≤ 1048572
    → Carries false kind body m
    → CanBeSent m
framed kind body m small bytes few carries = (
  frame_bytes false kind body,
  record {
    kind = kind;
    body = body;
    bytes = refl;
    each = (small, join (count32 (4 + length body)) body (four_bytes (4 + length body)) bytes);
    limit = omega (arith, few, length-append (count32 (4 + length body)) body);
    carries = carries;
  },
)

parsing_sent : (query : List ℕ) → IsSent query → length query ≤ 1048564 → CanBeSent (parsing query)
parsing_sent query good few =
    let m : Parse = record { name = []; query = query; type_oids = [] } in
    framed 80 (parse_body m) (parsing query) (omega arith)
    (join (((0 ∷ []) ++ string query) ++ 0 ∷ 0 ∷ []) [] (join ((0 ∷ []) ++ string query) (0 ∷ 0 ∷ [])
    (join (0 ∷ []) (string query) zero_byte (string_bytes query good)) two_zeros) tt)
    (omega (
      arith,
      few,
      length-append ((query ++ 0 ∷ []) ++ 0 ∷ 0 ∷ []) [],
      length-append (query ++ 0 ∷ []) (0 ∷ 0 ∷ []),
      length-append query (0 ∷ []),
    )) (
      refl,
      refl,
      record { name = empty_sent.0; query = good.0; count = omega arith; type_oids = tt },
    )

binding_sent : (portal : List ℕ) → IsSent portal → length portal ≤ 1048564 → CanBeSent (binding portal)
binding_sent portal good few =
    let m : Bind = record {
      portal_name = portal;
      statement_name = [];
      parameter_format_codes = [];
      parameters = [];
      result_column_format_codes = [];
    } in
    framed 66 (bind_body m) (binding portal) (omega arith)
    (join ((((string portal ++ 0 ∷ []) ++ 0 ∷ 0 ∷ []) ++ 0 ∷ 0 ∷ []) ++ []) (0 ∷ 0 ∷ [])
    (join (((string portal ++ 0 ∷ []) ++ 0 ∷ 0 ∷ []) ++ 0 ∷ 0 ∷ []) []
    (join ((string portal ++ 0 ∷ []) ++ 0 ∷ 0 ∷ []) (0 ∷ 0 ∷ []) (join (string portal ++ 0 ∷ []) (0 ∷ 0 ∷ [])
    (join (string portal) (0 ∷ []) (string_bytes portal good) zero_byte) two_zeros) two_zeros) tt) two_zeros)
    (omega (arith, few, length-append {A = ℕ})) (
      refl,
      refl,
      record {
        portal_name = good.0;
        statement_name = empty_sent.0;
        parameter_format_codes = record { count = omega arith; each = tt };
        count = omega arith;
        parameters = tt;
        result_column_format_codes = record { count = omega arith; each = tt };
      },
    )

closing_sent : (target : ℕ) (name : List ℕ) → target < 2 ^ 8 → IsSent name → length name ≤ 1048568 → CanBeSent (closing target name)
closing_sent target name small good few =
    framed 67 (target ∷ string name) (closing target name) (omega arith) (small, string_bytes name good)
    (omega (arith, few, length-append {A = ℕ})) (refl, refl, record { name = good.0 })

describing_sent : (target : ℕ) (name : List ℕ) → target < 2 ^ 8 → IsSent name → length name ≤ 1048564 → CanBeSent (describing target name)
describing_sent target name small good few =
    framed 68 (target ∷ string name) (describing target name) (omega arith) (small, string_bytes name good)
    (omega (arith, few, length-append {A = ℕ})) (refl, refl, record { name = good.0 })

executing_sent : (name : List ℕ) (limit : ℤ) → IsSent name → FitsSigned w32 limit → length name ≤ 1048564 → CanBeSent (executing name limit)
executing_sent name limit good fits few =
    framed 69 (string name ++ int32 limit) (executing name limit) (omega arith)
    (join (string name) (int32 limit) (string_bytes name good) (four_bytes (cast_unsigned w32 limit)))
    (omega (arith, few, length-append {A = ℕ})) (refl, refl, record { name = good.0; max_rows = fits })

sync_sent : CanBeSent sync
sync_sent = (83 ∷ 0 ∷ 0 ∷ 0 ∷ 4 ∷ [], sync_frame)

-- ---- limits

count_fits : (value : ℕ) (b : Bool) (limit : ℤ) → (b ≡ true → value < 2 ^ 31)
    → ◌≡◌ {A = Option ℤ} (if b then Some (pos value) else None) (Some limit)
    → FitsSigned w32 limit
count_fits value true limit small e =
    let is : pos value ≡ limit = cc in
    subst (FitsSigned w32) is (record { sfits = small refl })
count_fits value false limit small e = cc

limit_fits : (word : List ℕ) (limit : ℤ) → limit_of word ≡ Some limit → FitsSigned w32 limit
limit_fits word limit e = by_all (is_word word (codes "ALL")) e where
  by_all : (b : Bool) → ◌≡◌ {A = Option ℤ} (if b then Some (pos 0) else count_of word) (Some limit) → FitsSigned w32 limit
  by_all true e = count_fits 0 true limit (λ t. omega arith) e
  by_all false e =
      count_fits (digits_value 10 word) (is_count word && nat_lt (digits_value 10 word) (2 ^ 31)) limit
      (λ t. ltb-true (digits_value 10 word) (2 ^ 31) (and_right (is_count word) (nat_lt (digits_value 10 word) (2 ^ 31)) t)) e

-- ---- commands

abbrev AreSent : CursorCommand → Type 0
AreSent command = AllByRecursion CanBeSent (messages_of command)

declare_sent : (name relation : List ℕ) → IsSent name → IsSent relation → length name ≤ 1048564 → length relation ≤ 1048564
    → AreSent (Declare name relation)
declare_sent name relation n r few less = (
  parsing_sent relation r less,
  (binding_sent name n few, (closing_sent statement_target [] (omega arith) empty_sent (omega arith), (sync_sent, tt))),
)

fetch_sent : (limit : ℤ) (name : List ℕ) → FitsSigned w32 limit → IsSent name → length name ≤ 1048564 → AreSent (Fetch limit name)
fetch_sent limit name fits n few = (
  describing_sent portal_target name (omega arith) n few,
  (executing_sent name limit n fits few, (sync_sent, tt)),
)

close_sent : (name : List ℕ) → IsSent name → length name ≤ 1048568 → AreSent (Close name)
close_sent name n few = (closing_sent portal_target name (omega arith) n few, (sync_sent, tt))

-- the words of a command are sent, and so long together
record AreWords (spelled : List (List ℕ)) : Type 0 where
  pub each : AllByRecursion IsSent spelled
  pub together : total spelled ≤ 1048571

five : (declare name cursor over relation : List ℕ) (command : CursorCommand)
    → AreWords (declare ∷ name ∷ cursor ∷ over ∷ relation ∷ []) → (b : Bool)
    → (is_word declare (codes "DECLARE") && is_word cursor (codes "CURSOR") && is_word over (codes "FOR")) ≡ b
    → ◌≡◌ {A = Option CursorCommand}
    (option_or (option_map (λ (names : List ℕ × List ℕ). Declare names.0 names.1) (if b then Some (name, relation) else None)) None)
    (Some command)
    → AreSent command
five declare name cursor over relation command are true spelled e =
    let first = is_word declare (codes "DECLARE") in
    let second = is_word cursor (codes "CURSOR") in
    let is : Declare name relation ≡ command = cc in
    let both = and_left (first && second) (is_word over (codes "FOR")) spelled in
    let declare_len = word_len declare (codes "DECLARE") (and_left first second both) in
    let cursor_len = word_len cursor (codes "CURSOR") (and_right first second both) in
    subst AreSent is (declare_sent name relation are.each.1.0 are.each.1.1.1.1.0 (omega (arith, are.together, declare_len, cursor_len))
    (omega (arith, are.together, declare_len, cursor_len)))
five declare name cursor over relation command are false spelled e = cc

four : (fetch limit from name : List ℕ) (command : CursorCommand) → AreWords (fetch ∷ limit ∷ from ∷ name ∷ []) → (b : Bool)
    → (is_word fetch (codes "FETCH") && is_word from (codes "FROM")) ≡ b → (n : Option ℤ) → limit_of limit ≡ n
    → ◌≡◌ {A = Option CursorCommand}
    (option_or (option_map (λ (fetch : ℤ × List ℕ). Fetch fetch.0 fetch.1)
    (if b then option_map (λ (n : ℤ). (n, name)) n else None)) None)
    (Some command)
    → AreSent command
four fetch limit from name command are true spelled (Some n) told e =
    let is : Fetch n name ≡ command = cc in
    let fetch_len = word_len fetch (codes "FETCH") (and_left (is_word fetch (codes "FETCH")) (is_word from (codes "FROM")) spelled) in
    let from_len = word_len from (codes "FROM") (and_right (is_word fetch (codes "FETCH")) (is_word from (codes "FROM")) spelled) in
    subst AreSent is (fetch_sent n name (limit_fits limit n told) are.each.1.1.1.0 (omega (arith, are.together, fetch_len, from_len)))
four fetch limit from name command are true spelled None told e = cc
four fetch limit from name command are false spelled n told e = cc

two : (close name : List ℕ) (command : CursorCommand) → AreWords (close ∷ name ∷ []) → (b : Bool) → is_word close (codes "CLOSE") ≡ b
    → ◌≡◌ {A = Option CursorCommand} (option_map (λ (name : List ℕ). Close name) (if b then Some name else None)) (Some command)
    → AreSent command
two close name command are true spelled e =
    let is : Close name ≡ command = cc in
    subst AreSent is (close_sent name are.each.1.0 (omega (arith, are.together, word_len close (codes "CLOSE") spelled)))
two close name command are false spelled e = cc

by_words : (spelled : List (List ℕ)) (command : CursorCommand) → AreWords spelled → command_in spelled ≡ Some command → AreSent command
by_words [] command are e = cc
by_words (a ∷ []) command are e = cc
by_words (a ∷ b ∷ []) command are e = two a b command are (is_word a (codes "CLOSE")) refl e
by_words (a ∷ b ∷ c ∷ []) command are e = cc
by_words (a ∷ b ∷ c ∷ d ∷ []) command are e =
    four a b c d command are (is_word a (codes "FETCH") && is_word c (codes "FROM")) refl (limit_of b) refl e
by_words (a ∷ b ∷ c ∷ d ∷ f ∷ []) command are e =
    five a b c d f command are (is_word a (codes "DECLARE") && is_word c (codes "CURSOR") && is_word d (codes "FOR")) refl e
by_words (a ∷ b ∷ c ∷ d ∷ f ∷ g ∷ more) command are e = cc

pub can_be_sent : (frame : List ℕ) (query : Query) (command : CursorCommand) → IsFrame false frame (client.Query query)
    → command_of query.query ≡ Some command
    → AllByRecursion CanBeSent (messages_of command)
can_be_sent frame query command is asked =
    let sent = query_sent frame query is in
    by_words (words (trimmed query.query)) command (record {
      each = words_keep IsSent sent_cut query.query sent.0;
      together = omega (arith, sent.1, words_total query.query);
    }) asked
