-- Where a query is short, the error of its text can stand in the place of a row.
use Rattle.std.proofs.Common.{◌≡◌, ℕ, ◌≤◌, Bool, true, false, if◌then◌else◌, IsTrue, List, [], ◌∷◌, ◌++◌, Result, Ok, Err, IfErr, length, codes, refl, arith, inl, inr, subst, length-append, bytes_eq, nat_eq, ◌==◌}
use Rattle.std.specs.List.{list_any, starts_with}
use Rattle.pg_results.specs.Errors.{error}
use Rattle.pg_results.specs.Rows.{IsAnswerableItem, IsItemError}
use Rattle.pg_results.specs.Texts.{IsShortText}
use Rattle.pg_results.specs.Told.{IsOutcome}
use Rattle.pg_results.specs.declared.error.PgWireError.{PgWireError}
use Rattle.pg_results.specs.declared.error.PgWireError.TheVariants as wire
use Rattle.pg_replies.proofs.Encodable.{HasNoZero-append, by_test, has_no_zero}
use Rattle.conversation_table.proofs.ErrorTexts.{tellable_error}
use Rattle.query_texts.specs.QueryTexts.{trimmed}
use Rattle.shift_orders.specs.Orders.{and_then}
use Rattle.shift_orders.specs.Statements.{alone, argument_of, arguments, booking, canceling, in_order, is_key, listing, listing_of, meaning_of, no_statement, not_ended, not_in_order, ordered, several, statement_of, text_of, unknown_parameter}
use Rattle.shift_orders.specs.Tokens.{is_ended, tokens}
use Rattle.shift_orders.specs.declared.statement.ShiftStatement.{ShiftStatement}
use Rattle.shift_orders.specs.declared.statement.ShiftStatement.TheVariants.{Book, Cancel, ShiftsOf, Begin, Commit, Rollback}
use Rattle.shift_orders.specs.declared.tokens.Token.{Token}
use Rattle.shift_orders.specs.declared.tokens.Token.TheVariants.{Word, Quoted}
use Rattle.shift_orders.proofs.ShortWords.{Fits, WordFits, WordsFit, words_short}

-- ---- the errors

-- an error whose code and message are written out
written : (code message : List ℕ) → length code ≤ 5 → IsTrue (has_no_zero code) → length message ≤ 200 → IsTrue (has_no_zero message)
    → IsItemError (wire.UserError (error code message))
written code message few plain short clean = record {
  tellable = tellable_error code message few (by_test code plain) (omega arith) (by_test message clean);
  is_own = refl;
}

no_statement_item : IsItemError no_statement
no_statement_item = written _ _ (omega arith) refl (omega arith) refl

not_ended_item : IsItemError not_ended
not_ended_item = written _ _ (omega arith) refl (omega arith) refl

not_in_order_item : IsItemError not_in_order
not_in_order_item = written _ _ (omega arith) refl (omega arith) refl

several_item : IsItemError several
several_item = written _ _ (omega arith) refl (omega arith) refl

unknown_item : (word : List ℕ) → Fits 1048576 word → IsItemError (unknown_parameter word)
unknown_item word h =
    let front = codes "there is no parameter " in let whole = length-append front word in let few = h.few in
    record {
      tellable = tellable_error (codes "42P02") (front ++ word) (omega arith) (by_test (codes "42P02") refl) (omega arith)
          (HasNoZero-append front word (by_test front refl) h.clean);
      is_own = refl;
    }

-- ---- what a text means

-- the error, if it is one, can stand in the place of a row
abbrev pub ErrsAsItem : {A : Type 0} → Result A PgWireError → Type 0
ErrsAsItem (Ok x) = Unit {0}
ErrsAsItem (Err e) = IsItemError e

if_errs : {A : Type 0} (b : Bool) (r s : Result A PgWireError) → ErrsAsItem r → ErrsAsItem s → ErrsAsItem (if b then r else s)
if_errs true r s p q = p
if_errs false r s p q = q

then_errs : {A B : Type 0} (r : Result A PgWireError) (next : A → Result B PgWireError) → ErrsAsItem r
    → ((x : A) → ErrsAsItem (next x)) → ErrsAsItem (and_then r next)
then_errs (Ok x) next p q = q x
then_errs (Err e) next p q = p

text_errs : (word : List ℕ) → Fits 1048576 word → ErrsAsItem (text_of word)
text_errs word h =
    if_errs (starts_with nat_eq word (codes "$")) _ _ (unknown_item word h)
    (if_errs (list_any (λ byte. byte == 59) word) _ _ several_item tt)

argument_errs : (t : Token) → WordFits 1048576 t → ErrsAsItem (argument_of t)
argument_errs (Word word) h =
    if_errs (bytes_eq word (codes "$1")) _ _ tt
    (if_errs (bytes_eq word (codes "$2")) _ _ tt (if_errs (bytes_eq word (codes "$3")) _ _ tt (text_errs word h)))
argument_errs (Quoted text) h = tt

ordered_errs : (s : ShiftStatement) → ErrsAsItem (ordered s)
ordered_errs s = if_errs (in_order 0 (arguments s)) _ _ tt not_in_order_item

booking_errs : (ts : List Token) → WordsFit 1048576 ts → ErrsAsItem (booking ts)
booking_errs [] h = no_statement_item
booking_errs (name ∷ []) h = no_statement_item
booking_errs (name ∷ start ∷ []) h = no_statement_item
booking_errs (name ∷ start ∷ length ∷ []) h =
    then_errs (argument_of name) _ (argument_errs name h.0) (λ whose.
    then_errs (argument_of start) _ (argument_errs start h.1.0) (λ from.
    then_errs (argument_of length) _ (argument_errs length h.1.1.0) (λ long. ordered_errs (Book whose from long))))
booking_errs (name ∷ start ∷ length ∷ more ∷ ts) h = no_statement_item

canceling_errs : (ts : List Token) → WordsFit 1048576 ts → ErrsAsItem (canceling ts)
canceling_errs [] h = no_statement_item
canceling_errs (name ∷ []) h = no_statement_item
canceling_errs (name ∷ start ∷ []) h =
    then_errs (argument_of name) _ (argument_errs name h.0) (λ whose.
    then_errs (argument_of start) _ (argument_errs start h.1.0) (λ from. ordered_errs (Cancel whose from)))
canceling_errs (name ∷ start ∷ more ∷ ts) h = no_statement_item

listing_of_errs : (ts : List Token) → WordsFit 1048576 ts → ErrsAsItem (listing_of ts)
listing_of_errs [] h = no_statement_item
listing_of_errs (name ∷ []) h = then_errs (argument_of name) _ (argument_errs name h.0) (λ whose. ordered_errs (ShiftsOf whose))
listing_of_errs (name ∷ more ∷ ts) h = no_statement_item

listing_errs : (ts : List Token) → WordsFit 1048576 ts → ErrsAsItem (listing ts)
listing_errs [] h = tt
listing_errs (of ∷ behind) h = if_errs (is_key of (codes "OF")) _ _ (listing_of_errs behind h.1) no_statement_item

alone_errs : (s : ShiftStatement) (ts : List Token) → ErrsAsItem (alone s ts)
alone_errs s [] = tt
alone_errs s (t ∷ ts) = no_statement_item

statement_errs : (ts : List Token) → WordsFit 1048576 ts → ErrsAsItem (statement_of ts)
statement_errs [] h = no_statement_item
statement_errs (key ∷ behind) h =
    if_errs (is_key key (codes "BOOK")) _ _ (booking_errs behind h.1)
    (if_errs (is_key key (codes "CANCEL")) _ _ (canceling_errs behind h.1)
    (if_errs (is_key key (codes "SHIFTS")) _ _ (listing_errs behind h.1)
    (if_errs (is_key key (codes "BEGIN")) _ _ (alone_errs Begin behind)
    (if_errs (is_key key (codes "COMMIT")) _ _ (alone_errs Commit behind)
    (if_errs (is_key key (codes "ROLLBACK")) _ _ (alone_errs Rollback behind) no_statement_item)))))

meaning_errs : (query : List ℕ) → IsShortText query → ErrsAsItem (meaning_of query)
meaning_errs query h =
    if_errs (is_ended (trimmed query)) _ _ (statement_errs (tokens (trimmed query)) (words_short query h)) not_ended_item

-- ---- the error of a call that gave it

errs_answerable : (told : Result ShiftStatement PgWireError) (e : PgWireError) → ErrsAsItem told → Err e ≡ told → IsAnswerableItem e
errs_answerable (Ok s) e h same = cc
errs_answerable (Err d) e h same =
    let given : d ≡ e = cc in
    subst IsAnswerableItem given (inr h)

by_outcome : (told r : Result ShiftStatement PgWireError) → ErrsAsItem told → IsOutcome told r → IfErr r IsAnswerableItem
by_outcome told (Ok s) h given = tt
by_outcome told (Err e) h (inl same) = errs_answerable told e h same
by_outcome told (Err e) h (inr none) = inl (cc)

pub meaning_answerable : (query : List ℕ) (r : Result ShiftStatement PgWireError) → IsOutcome (meaning_of query) r → IsShortText query
    → IfErr r IsAnswerableItem
meaning_answerable query r given short = by_outcome (meaning_of query) r (meaning_errs query short) given
