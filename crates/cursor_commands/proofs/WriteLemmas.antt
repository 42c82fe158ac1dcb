-- What becomes of replies, one after another.
use Rattle.std.proofs.Common.{◌≡◌, ◌≢◌, ℕ, ℤ, ◌+◌, ◌<◌, ◌==◌, Bool, true, false, ◌||◌, if◌then◌else◌, List, [], ◌∷◌, ◌++◌, length, take, drop, slice_index, nat_eq, eq-eqb, Result, Ok, Err, OnOk, sym, ap, ◌∙◌, refl, arith, filter, count_by, codes, append_assoc, append-nil, length-append}
use Rattle.std.specs.List.{AllByRecursion, list_any, flat_map, starts_with}
use Rattle.std.proofs.lemmas.Grind.{flat_map-append}
use Rattle.pg_messages.specs.declared.backend.PgWireBackendMessage.{PgWireBackendMessage}
use Rattle.pg_messages.specs.declared.backend.PgWireBackendMessage.TheVariants as server
use Rattle.pg_messages.specs.Replies.{reply_type, reply_bytes, replies_bytes}
use Rattle.pg_messages.proofs.FieldLaws.{eqb-apart}
use Rattle.pg_results.specs.declared.tag.Tag.{Tag}
use Rattle.pg_results.specs.Tags.{spaced, tag_of, tag_with_rows, tag_text}
use Rattle.cursor_commands.specs.declared.command.CursorCommand.{CursorCommand}
use Rattle.cursor_commands.specs.declared.command.CursorCommand.TheVariants.{Declare, Fetch, Close}
use Rattle.cursor_commands.specs.declared.rewrite.Change.TheVariants.{Ready, Failed, Fetched}
use Rattle.cursor_commands.specs.Cursors.{Replies, done, fetched, is_error, is_ready, is_row, is_left_by_error, fetch_reply, success_replies, replies_of}
use Rattle.cursor_commands.specs.Rewriting.{FitsLen, TellsLen, IsSurvey, AppendsReply, AppendsReplies, Becomes, HasPage, counted_replies, kept, changed, ends_rows}
use Rattle.cursor_commands.proofs.ReplyLemmas.{front}

abbrev pub Change' : Type 0
Change' = PgWireBackendMessage → Replies

-- So far the bytes have grown by what becomes of the replies whose bytes aren't left.
pub record IsWritten (change : Change') (replies : Replies) (rest old out : List ℕ) : Type 0 where
  pub left : Replies
  pub fits : AllByRecursion FitsLen left
  pub bytes : rest ≡ replies_bytes left
  pub written : old ++ replies_bytes (flat_map change replies) ≡ out ++ replies_bytes (flat_map change left)

abbrev pub AreWritten : Change' → List ℕ → List ℕ → List ℕ → List ℕ → Type 0
AreWritten change bytes rest old out = (replies : Replies) → AllByRecursion FitsLen replies → bytes ≡ replies_bytes replies
    → IsWritten change replies rest old out

pub none_written : (change : Change') (bytes old : List ℕ) → AreWritten change bytes bytes old old
none_written change bytes old replies can e = record { left = replies; fits = can; bytes = e; written = refl }

pub one_written : (change : Change') (bytes rest reply behind : List ℕ) (n : ℕ) (old out new : List ℕ)
    → AreWritten change bytes rest old out
    → 0 < length rest → TellsLen rest n → reply ≡ take n rest → behind ≡ drop n rest → AppendsReply change reply out new
    → AreWritten change bytes behind old new
one_written change bytes rest reply behind n old out new written some tells is_front is_behind appends replies can e =
    let was = written replies can e in
    let at = front rest n was.left some tells was.fits was.bytes in
    let grown = appends at.first at.fits (is_front ∙ at.reply) in
    record {
      left = at.others;
      fits = at.others_fit;
      bytes = is_behind ∙ at.behind;
      written =
          was.written ∙ (ap (λ l. out ++ replies_bytes (flat_map change l)) at.split
          ∙ (ap (λ b. out ++ b) (flat_map-append reply_bytes (change at.first) (flat_map change at.others))
          ∙ (sym (append_assoc out (replies_bytes (change at.first)) (replies_bytes (flat_map change at.others)))
          ∙ ap (λ b. b ++ replies_bytes (flat_map change at.others)) (sym grown))));
    }

written_out : (change : Change') (replies : Replies) (rest old out : List ℕ) → length rest ≡ 0 → (left : Replies)
    → rest ≡ replies_bytes left
    → old ++ replies_bytes (flat_map change replies) ≡ out ++ replies_bytes (flat_map change left)
    → out ≡ old ++ replies_bytes (flat_map change replies)
written_out change replies rest old out none [] e written = sym (written ∙ append-nil out)
written_out change replies rest old out none (m ∷ left) e written = absurd (omega (
  arith,
  none,
  ap length e,
  length-append
      (reply_bytes m) (replies_bytes left),
))

pub all_written : (change : Change') (bytes rest old out : List ℕ) → AreWritten change bytes rest old out → length rest ≡ 0
    → AppendsReplies (λ replies. flat_map change replies) bytes old out
all_written change bytes rest old out written none replies can e =
    let was = written replies can e in
    written_out change replies rest old out none was.left was.bytes was.written

-- ---- the replies of a command

kept_onto : (b : Bool) (m : PgWireBackendMessage) (replies : Replies) → (if b then m ∷ replies else replies) ≡ kept b m ++ replies
kept_onto true m replies = refl
kept_onto false m replies = refl

pub filter_kept : (p : PgWireBackendMessage → Bool) (replies : Replies) → filter p replies ≡ flat_map (λ m. kept (p m) m) replies
filter_kept p [] = refl
filter_kept p (m ∷ replies) = kept_onto (p m) m (filter p replies) ∙ ap (λ l. kept (p m) m ++ l) (filter_kept p replies)

counted_is : (command : CursorCommand) (replies : Replies)
    → success_replies command replies ≡ counted_replies command (count_by is_row replies) replies
counted_is (Declare name relation) replies = refl
counted_is (Fetch limit name) replies = refl
counted_is (Close name) replies = refl

abbrev by_error : CursorCommand → Replies → Bool → Replies
by_error command replies failed = if failed then filter is_left_by_error replies else success_replies command replies

-- the replies of a command that failed: the columns, and what becomes of what stands behind the page
pub becomes_failed : (command : CursorCommand) (bytes told old behind : List ℕ) (columns len rows : ℕ) (failed : Bool) (n : ℕ)
    → HasPage (counted_replies command) bytes columns len rows → told ≡ drop len bytes → IsSurvey told failed n → failed ≡ true → old ≡ []
    → AppendsReplies (λ replies. flat_map (changed Failed) replies) told old behind
    → Becomes (replies_of command) bytes (take columns bytes ++ behind)
becomes_failed command bytes told old behind columns len rows failed n page same survey is none appends replies can e =
    let p = page replies can e in
    let mine : told ≡ replies_bytes p.left = same ∙ p.bytes in
    let any : list_any is_error replies ≡ true = p.errors ∙ (sym (survey p.left p.fits mine).0 ∙ is) in
    let grown : behind ≡ replies_bytes (flat_map (changed Failed) p.left) =
    appends p.left p.fits mine ∙ ap (λ l. l ++ replies_bytes (flat_map (changed Failed) p.left)) none in
    ap (λ b. take columns bytes ++ b) grown ∙ (sym p.failed ∙ ap (λ l. replies_bytes l)
    (sym (filter_kept is_left_by_error replies) ∙ sym (ap (λ b. by_error command replies b) any)))

-- the replies of a command that succeeded: its page, and what becomes of what stands behind it
pub becomes_good : (command : CursorCommand) (bytes told old behind : List ℕ) (columns len rows : ℕ) (failed : Bool) (n all : ℕ)
    → HasPage (counted_replies command) bytes columns len rows → told ≡ drop len bytes → IsSurvey told failed n → failed ≡ false → old ≡ []
    → all ≡ rows + n → AppendsReplies (counted_replies command all) told old behind
    → Becomes (replies_of command) bytes (take len bytes ++ behind)
becomes_good command bytes told old behind columns len rows failed n all page same survey is none count appends replies can e =
    let p = page replies can e in
    let mine : told ≡ replies_bytes p.left = same ∙ p.bytes in
    let s = survey p.left p.fits mine in
    let any : list_any is_error replies ≡ false = p.errors ∙ (sym s.0 ∙ is) in
    let every : all ≡ count_by is_row replies = let a = s.1 in let b = p.counted in omega (arith, count, a, b) in
    let grown : behind ≡ replies_bytes (counted_replies command all p.left) =
    appends p.left p.fits mine ∙ ap (λ l. l ++ replies_bytes (counted_replies command all p.left)) none in
    ap (λ b. take len bytes ++ b) grown ∙ (sym (p.same all) ∙ ap (λ l. replies_bytes l)
    (ap (λ k. counted_replies command k replies) every ∙ (sym (counted_is command replies)
    ∙ sym (ap (λ b. by_error command replies b) any))))

pub done_on_ok : {E : Type 0} (command : CursorCommand) (tag bytes old new : List ℕ) (rows : ℕ) (r : Result (Unit {0}) E)
    → ((replies : Replies) → counted_replies command rows replies ≡ done tag ∷ filter is_ready replies)
    → OnOk r (AppendsReplies (λ replies. done tag ∷ flat_map (changed Ready) replies) bytes old new)
    → OnOk r (AppendsReplies (counted_replies command rows) bytes old new)
done_on_ok command tag bytes old new rows (Ok u) told appends = λ replies can e. appends replies can e
    ∙ ap (λ l. old ++ replies_bytes l) (ap (λ l. done tag ∷ l) (sym (filter_kept is_ready replies)) ∙ sym (told replies))
done_on_ok command tag bytes old new rows (Err x) told appends = appends

pub declare_told : (command : CursorCommand) (name relation : List ℕ) (rows : ℕ) (replies : Replies) → command ≡ Declare name relation
    → counted_replies command rows replies ≡ done (codes "DECLARE CURSOR") ∷ filter is_ready replies
declare_told command name relation rows replies is = ap (λ k. counted_replies k rows replies) is

pub close_told : (command : CursorCommand) (name : List ℕ) (rows : ℕ) (replies : Replies) → command ≡ Close name
    → counted_replies command rows replies ≡ done (codes "CLOSE CURSOR") ∷ filter is_ready replies
close_told command name rows replies is = ap (λ k. counted_replies k rows replies) is

pub rows_told : (command : CursorCommand) (limit : ℤ) (name : List ℕ) (rows : ℕ) (replies : Replies) → command ≡ Fetch limit name
    → counted_replies command rows replies ≡ flat_map (fetch_reply rows) replies
rows_told command limit name rows replies is = ap (λ k. counted_replies k rows replies) is

pub fetch_on_ok : {E : Type 0} (command : CursorCommand) (bytes old new : List ℕ) (rows : ℕ) (r : Result (Unit {0}) E)
    → ((replies : Replies) → counted_replies command rows replies ≡ flat_map (fetch_reply rows) replies)
    → OnOk r (AppendsReplies (λ replies. flat_map (changed (Fetched rows)) replies) bytes old new)
    → OnOk r (AppendsReplies (counted_replies command rows) bytes old new)
fetch_on_ok command bytes old new rows (Ok u) told appends = λ replies can e. appends replies can e
    ∙ ap (λ l. old ++ replies_bytes l) (sym (told replies))
fetch_on_ok command bytes old new rows (Err x) told appends = appends

-- ---- one reply

ready_by_type : (m : PgWireBackendMessage) → is_ready m ≡ (reply_type m == 90)
ready_by_type (server.ReadyForQuery m) = refl
ready_by_type _ = refl

left_by_type : (m : PgWireBackendMessage) → is_left_by_error m ≡ (reply_type m == 84 || reply_type m == 69 || reply_type m == 90)
left_by_type (server.RowDescription m) = refl
left_by_type (server.ErrorResponse m) = refl
left_by_type (server.ReadyForQuery m) = refl
left_by_type _ = refl

kept_bytes : (b : Bool) (m : PgWireBackendMessage) (old reply : List ℕ) → reply ≡ reply_bytes m
    → old ++ (if b then reply else []) ≡ old ++ replies_bytes (kept b m)
kept_bytes true m old reply e = ap (λ l. old ++ l) (e ∙ sym (append-nil (reply_bytes m)))
kept_bytes false m old reply e = refl

by_kept : {E : Type 0} (p : PgWireBackendMessage → Bool) (test : ℕ → Bool) (stays : Bool) (reply old new : List ℕ) (r : Result (Unit {0}) E)
    → ((m : PgWireBackendMessage) → p m ≡ test (reply_type m)) → stays ≡ test (slice_index reply 0)
    → OnOk r (new ≡ old ++ (if stays then reply else [])) → OnOk r (AppendsReply (λ m. kept (p m) m) reply old new)
by_kept p test stays reply old new (Ok u) by_type is grown = λ m can e.
    let same : stays ≡ p m = is ∙ (ap (λ b. test (slice_index b 0)) e ∙ sym (by_type m)) in
    grown ∙ (ap (λ b. old ++ (if b then reply else [])) same ∙ kept_bytes (p m) m old reply e)
by_kept p test stays reply old new (Err x) by_type is grown = grown

pub put_ready : {E : Type 0} (stays : Bool) (reply old new : List ℕ) (r : Result (Unit {0}) E) → stays ≡ (slice_index reply 0 == 90)
    → OnOk r (new ≡ old ++ (if stays then reply else [])) → OnOk r (AppendsReply (changed Ready) reply old new)
put_ready stays reply old new r is grown = by_kept is_ready (λ k. k == 90) stays reply old new r ready_by_type is grown

pub put_left : {E : Type 0} (stays : Bool) (reply old new : List ℕ) (r : Result (Unit {0}) E)
    → stays ≡ (slice_index reply 0 == 84 || slice_index reply 0 == 69 || slice_index reply 0 == 90)
    → OnOk r (new ≡ old ++ (if stays then reply else [])) → OnOk r (AppendsReply (changed Failed) reply old new)
put_left stays reply old new r is grown =
    by_kept is_left_by_error (λ k. k == 84 || k == 69 || k == 90) stays reply old new r left_by_type is grown

-- ---- a reply of a FETCH

-- the zero byte behind a tag is none of these letters
select_before_zero : (tag : List ℕ) → starts_with nat_eq (tag ++ 0 ∷ []) (codes "SELECT ") ≡ starts_with nat_eq tag (codes "SELECT ")
select_before_zero [] = refl
select_before_zero (a ∷ []) = refl
select_before_zero (a ∷ b ∷ []) = refl
select_before_zero (a ∷ b ∷ c ∷ []) = refl
select_before_zero (a ∷ b ∷ c ∷ d ∷ []) = refl
select_before_zero (a ∷ b ∷ c ∷ d ∷ e ∷ []) = refl
select_before_zero (a ∷ b ∷ c ∷ d ∷ e ∷ f ∷ []) = refl
select_before_zero (a ∷ b ∷ c ∷ d ∷ e ∷ f ∷ g ∷ rest) = refl

choose_tag : (b c : Bool) (m n : PgWireBackendMessage) → c ≡ b
    → ◌≡◌ {A = Replies} ((if b then m else n) ∷ []) (if c then m ∷ [] else n ∷ [])
choose_tag true c m n e = rw e refl
choose_tag false c m n e = rw e refl

fetch_by_type : (rows : ℕ) (m : PgWireBackendMessage)
    → fetch_reply rows m ≡ (if reply_type m == 110 then [] else (if ends_rows (reply_bytes m) then fetched rows ∷ [] else m ∷ []))
fetch_by_type rows (server.NoData m) = refl
fetch_by_type rows (server.PortalSuspended m) = refl
fetch_by_type rows (server.CommandComplete m) =
    choose_tag (starts_with nat_eq m.tag (codes "SELECT ")) (starts_with nat_eq (m.tag ++ 0 ∷ []) (codes "SELECT ")) (fetched rows)
    (server.CommandComplete m) (select_before_zero m.tag)
fetch_by_type rows _ = refl

-- a reply of a FETCH becomes this
by_type_of : (rows : ℕ) (reply : List ℕ) (m : PgWireBackendMessage) → reply ≡ reply_bytes m
    → fetch_reply rows m ≡ (if slice_index reply 0 == 110 then [] else (if ends_rows reply then fetched rows ∷ [] else m ∷ []))
by_type_of rows reply m e =
    fetch_by_type rows m ∙ ap (λ b. if slice_index b 0 == 110 then [] else (if ends_rows b then fetched rows ∷ [] else m ∷ [])) (sym e)

pub fetch_nothing : (rows : ℕ) (reply old new : List ℕ) → slice_index reply 0 ≡ 110 → new ≡ old
    → AppendsReply (fetch_reply rows) reply old new
fetch_nothing rows reply old new is same m can e =
    let none : fetch_reply rows m ≡ [] =
    by_type_of rows reply m e ∙ ap (λ b. if b then [] else (if ends_rows reply then fetched rows ∷ [] else m ∷ [])) (eq-eqb
    (slice_index reply 0) 110 is) in
    same ∙ (sym (append-nil old) ∙ ap (λ l. old ++ replies_bytes l) (sym none))

pub fetch_tag : (rows : ℕ) (reply old new tag : List ℕ) → slice_index reply 0 == 110 ≡ false → ends_rows reply ≡ true
    → tag ≡ codes "FETCH" ++ spaced rows
    → new ≡ old ++ reply_bytes (done tag) → AppendsReply (fetch_reply rows) reply old new
fetch_tag rows reply old new tag other is told grown m can e =
    let one : fetch_reply rows m ≡ fetched rows ∷ [] =
    by_type_of rows reply m e ∙ (ap (λ b. if b then [] else (if ends_rows reply then fetched rows ∷ [] else m ∷ [])) other
    ∙ ap (λ b. if b then fetched rows ∷ [] else m ∷ []) is) in
    grown ∙ (ap (λ t. old ++ reply_bytes (done t)) told ∙ (ap (λ l. old ++ l) (sym (append-nil (reply_bytes (fetched rows))))
    ∙ ap (λ l. old ++ replies_bytes l) (sym one)))

pub fetch_same : (rows : ℕ) (reply old new : List ℕ) → slice_index reply 0 == 110 ≡ false → ends_rows reply ≡ false → new ≡ old ++ reply
    → AppendsReply (fetch_reply rows) reply old new
fetch_same rows reply old new other is grown m can e =
    let one : fetch_reply rows m ≡ m ∷ [] =
    by_type_of rows reply m e ∙ (ap (λ b. if b then [] else (if ends_rows reply then fetched rows ∷ [] else m ∷ [])) other
    ∙ ap (λ b. if b then fetched rows ∷ [] else m ∷ []) is) in
    grown ∙ (ap (λ l. old ++ l) (e ∙ sym (append-nil (reply_bytes m))) ∙ ap (λ l. old ++ replies_bytes l) (sym one))

pub tag_on_ok : {E : Type 0} (rows : ℕ) (reply old new tag : List ℕ) (r : Result (Unit {0}) E) → slice_index reply 0 ≢ 110
    → ends_rows reply ≡ true
    → tag ≡ codes "FETCH" ++ spaced rows → OnOk r (new ≡ old ++ reply_bytes (done tag))
    → OnOk r (AppendsReply (fetch_reply rows) reply old new)
tag_on_ok rows reply old new tag (Ok u) other is told grown = fetch_tag rows reply old new tag (eqb-apart
    (slice_index reply 0) 110 other) is told grown
tag_on_ok rows reply old new tag (Err x) other is told grown = grown

pub same_on_ok : {E : Type 0} (rows : ℕ) (reply old new : List ℕ) (r : Result (Unit {0}) E) → slice_index reply 0 ≢ 110
    → ends_rows reply ≡ false
    → OnOk r (new ≡ old ++ reply) → OnOk r (AppendsReply (fetch_reply rows) reply old new)
same_on_ok rows reply old new (Ok u) other is grown = fetch_same rows reply old new (eqb-apart (slice_index reply 0) 110 other) is grown
same_on_ok rows reply old new (Err x) other is grown = grown

-- ---- tags

pub fetch_told : (rows : ℕ) (tag : List ℕ) (first with_rows : Tag) → first ≡ tag_of (codes "FETCH") → with_rows ≡ tag_with_rows rows first
    → tag ≡ tag_text with_rows → tag ≡ codes "FETCH" ++ spaced rows
fetch_told rows tag first with_rows a b c = c ∙ ap tag_text (b ∙ ap (tag_with_rows rows) a)
