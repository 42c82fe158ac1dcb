-- What is answered in two pieces is answered in one, by any lawful table.
use Rattle.std.proofs.Common.{◌≡◌, ℕ, zero, suc, ◌+◌, Bool, List, [], ◌∷◌, ◌++◌, refl, ap, sym, subst, ◌∙◌, length, drop, append_assoc, append-nil, length-append, arith}
use Rattle.std.proofs.Math.Seq.{drop-append_seam, drop-length}
use Rattle.pg_messages.specs.declared.frontend.PgWireFrontendMessage.{PgWireFrontendMessage}
use Rattle.pg_messages.specs.Frames.{DividesInto, IsFrame, awaits_startup_after, awaits_startup_after_all}
use Rattle.pg_messages.specs.Replies.{replies_bytes}
use Rattle.pg_client.specs.declared.desk.DeskCall.{DeskCall}
use Rattle.pg_client.specs.declared.desk.DeskCall.TheVariants as desk
use Rattle.pg_client.specs.Answer.{Answer, Table, Next, Goes, Ends, Stops, answers_of, left_by, conversation, continued, joined}
use Rattle.conversation_table.specs.Lawful.{IsMade, IsLawful}
use Rattle.conversation_runs.specs.Run.{Rules, IsFed}
use Rattle.conversation_runs.proofs.ReplyBytes.{replies_bytes-append}

drop-further : {A : Type 0} (n k : ℕ) (xs : List A) → drop (n + k) xs ≡ drop k (drop n xs)
drop-further zero k xs = ap (λ n. drop n xs) (let e : 0 + k ≡ k = omega arith in e)
drop-further (suc n) zero [] = ap (λ m. drop m []) (let e : suc n + 0 ≡ suc n = omega arith in e)
drop-further (suc n) (suc k) [] = ap (λ m. drop m []) (let e : suc n + suc k ≡ suc (n + suc k) = omega arith in e)
drop-further (suc n) k (x ∷ xs) = ap (λ m. drop m (x ∷ xs)) (let e : suc n + k ≡ suc (n + k) = omega arith in e) ∙ drop-further n k xs

pub answers_of-append : (a b : List DeskCall) → answers_of (a ++ b) ≡ answers_of a ++ answers_of b
answers_of-append [] b = refl
answers_of-append (desk.Start ∷ a) b = answers_of-append a b
answers_of-append (desk.Ask told ∷ a) b = ap (λ x. told ∷ x) (answers_of-append a b)
answers_of-append (desk.Cancel pid key told ∷ a) b = ap (λ x. told ∷ x) (answers_of-append a b)
answers_of-append (desk.Narrow ∷ a) b = answers_of-append a b

-- where the conversation goes on, or a given place
abbrev state_of : {T : Type 0} → T → Next T → T
state_of other (Goes s) = s
state_of other (Ends kind) = other
state_of other Stops = other

abbrev goes : {T : Type 0} → Next T → Type 0
goes (Goes s) = Unit {0}
goes (Ends kind) = ⊥
goes Stops = ⊥

left_of_both : (a b : List DeskCall) (answers : List Bool) → left_by (a ++ b) answers ≡ left_by b (left_by a answers)
left_of_both a b answers =
    ap (λ xs. drop (length xs) answers) (answers_of-append a b) ∙ ap (λ n. drop n answers) (length-append (answers_of a) (answers_of b))
    ∙ drop-further (length (answers_of a)) (length (answers_of b)) answers

left_with_more : (calls : List DeskCall) (answers more : List Bool) → answers ≡ answers_of calls ++ left_by calls answers
    → left_by calls (answers ++ more) ≡ left_by calls answers ++ more
left_with_more calls answers more e =
    ap (λ xs. left_by calls (xs ++ more)) e ∙ ap (λ xs. left_by calls xs) (append_assoc (answers_of calls) (left_by calls answers) more)
    ∙ drop-append_seam (answers_of calls) (left_by calls answers ++ more)

joined_thrice : {T : Type 0} (a b c : Answer T) → joined a (joined b c) ≡ joined (joined a b) c
joined_thrice a b c =
    let replies = sym (append_assoc a.replies b.replies c.replies) in
    let calls = sym (append_assoc a.calls b.calls c.calls) in
    λ i. record { replies = replies i; calls = calls i; next = c.next }

one_of : {T : Type 0} (given : Answer T) (n : Next T) → given.next ≡ n
    → continued given n (λ t. record { replies = []; calls = []; next = Goes t }) ≡ given
one_of given (Goes t) e = λ i. record { replies = append-nil given.replies i; calls = append-nil given.calls i; next = sym e i }
one_of given (Ends kind) e = refl
one_of given Stops e = refl

pub conversation-one : {T : Type 0} (table : Table T) (answers : List Bool) (s : T) (m : PgWireFrontendMessage)
    → conversation table answers s (m ∷ []) ≡ table answers s m
conversation-one table answers s m = one_of (table answers s m) _ refl

after_append : (ms ns : List PgWireFrontendMessage) (b : Bool)
    → awaits_startup_after_all (ms ++ ns) b ≡ awaits_startup_after_all ns (awaits_startup_after_all ms b)
after_append [] ns b = refl
after_append (m ∷ ms) ns b = after_append ms ns (awaits_startup_after m b)

pub divides-append : (b : Bool) (text mid rest : List ℕ) (ms ns : List PgWireFrontendMessage) → DividesInto b text ms mid
    → DividesInto (awaits_startup_after_all ms b) mid ns rest → DividesInto b text (ms ++ ns) rest
divides-append b text mid rest [] ns d e = subst (λ t. DividesInto b t ns rest) (sym d) e
divides-append b text mid rest (m ∷ ms) ns d e = (d.0, d.1, d.2, d.3, divides-append (awaits_startup_after m b) d.1 mid rest ms ns d.4 e)

module _ {T : Type 0} (rules : Rules T) (lawful : IsLawful rules.table rules.awaits) where
  table : Table T
  table = rules.table

  pub two_pieces : (messages others : List PgWireFrontendMessage) (answers more : List Bool) (s t : T)
      → (conversation rules.table answers s messages).next ≡ Goes t
      → conversation rules.table (answers ++ more) s (messages ++ others)
      ≡ joined (conversation rules.table answers s messages) (conversation rules.table (left_by
      (conversation rules.table answers s messages).calls answers ++ more) t others)
  two_pieces [] others answers more s t e = ap (λ u. conversation rules.table (answers ++ more) u others) (ap (state_of s) e)
  two_pieces (m ∷ messages) others answers more s t e =
      by_next (rules.table answers s m).next refl (λ u f. two_pieces messages others (left_by
      (rules.table answers s m).calls answers) more u t f) e
    where
      by_next : (n : Next T) → (rules.table answers s m).next ≡ n
          → ((u : T) → (conversation rules.table (left_by (rules.table answers s m).calls answers) u messages).next ≡ Goes t
          → conversation rules.table (left_by (rules.table answers s m).calls answers ++ more) u (messages ++ others)
          ≡ joined (conversation rules.table (left_by (rules.table answers s m).calls answers) u messages)
          (conversation rules.table (left_by (conversation rules.table (left_by (rules.table answers s m).calls answers) u messages).calls
          (left_by (rules.table answers s m).calls answers) ++ more) t others))
          → (continued (rules.table answers s m) n (λ u. conversation rules.table (left_by
          (rules.table answers s m).calls answers) u messages)).next ≡ Goes t
          → continued (rules.table (answers ++ more) s m) (rules.table (answers ++ more) s m).next (λ u. conversation rules.table (left_by
          (rules.table (answers ++ more) s m).calls (answers ++ more)) u (messages ++ others))
          ≡ joined (continued (rules.table answers s m) n (λ u. conversation rules.table (left_by
          (rules.table answers s m).calls answers) u messages))
          (conversation rules.table (left_by (continued (rules.table answers s m) n (λ u. conversation rules.table (left_by
          (rules.table answers s m).calls answers) u messages)).calls answers ++ more) t others)
      by_next (Goes u) n ih f =
          let g = rules.table answers s m in
          let left = left_by g.calls answers in
          let a = conversation rules.table left u messages in
          let same : rules.table (answers ++ more) s m ≡ g = lawful.same answers more s m (subst IsMade (sym n) tt) in
          ap (λ x. continued x x.next (λ v. conversation rules.table (left_by x.calls (answers ++ more)) v (messages ++ others))) same
          ∙ ap (λ y. continued g y (λ v. conversation rules.table (left_by g.calls (answers ++ more)) v (messages ++ others))) n
          ∙ ap (λ xs. joined g (conversation rules.table xs u (messages ++ others))) (left_with_more g.calls answers more
          (lawful.taken answers s m))
          ∙ ap (λ x. joined g x) (ih u f)
          ∙ joined_thrice g a (conversation rules.table (left_by a.calls left ++ more) t others)
          ∙ ap (λ xs. joined (joined g a) (conversation rules.table (xs ++ more) t others)) (sym (left_of_both g.calls a.calls answers))
      by_next (Ends kind) n ih f = absurd (subst goes (sym (sym n ∙ f)) tt)
      by_next Stops n ih f = absurd (subst goes (sym (sym n ∙ f)) tt)

  -- The answer to two pieces, under the answers of the calls of the first and more, is the one after the other.
  pub one_piece_under : (ms ns : List PgWireFrontendMessage) (s t : T) (a : Answer T) (more : List Bool)
      → conversation rules.table (answers_of a.calls) s ms ≡ a → a.next ≡ Goes t
      → conversation rules.table (answers_of a.calls ++ more) s (ms ++ ns) ≡ joined a (conversation rules.table more t ns)
  one_piece_under ms ns s t a more first goes_on =
      let mine = answers_of a.calls in
      let none_left : left_by a.calls mine ≡ [] = drop-length mine in
      two_pieces ms ns mine more s t (ap (λ x. x.next) first ∙ goes_on)
      ∙ ap (λ x. joined x (conversation rules.table (left_by x.calls mine ++ more) t ns)) first
      ∙ ap (λ xs. joined a (conversation rules.table (xs ++ more) t ns)) none_left

  pub one_piece : (ms ns : List PgWireFrontendMessage) (s t : T) (a : Answer T) (l : List DeskCall)
      → conversation rules.table (answers_of a.calls) s ms ≡ a → a.next ≡ Goes t
      → conversation rules.table (answers_of (a.calls ++ l)) s (ms ++ ns) ≡ joined a (conversation rules.table (answers_of l) t ns)
  one_piece ms ns s t a l first goes_on =
      ap (λ xs. conversation rules.table xs s (ms ++ ns)) (answers_of-append a.calls l)
      ∙ one_piece_under ms ns s t a (answers_of l) first goes_on

  conversation_awaits_by : (given : Answer T) (n : Next T) → given.next ≡ n → (t : T) (b : Bool) (others : T → Answer T)
      → ((u : T) → given.next ≡ Goes u → (others u).next ≡ Goes t → rules.awaits t ≡ b) → (continued given n others).next ≡ Goes t
      → rules.awaits t ≡ b
  conversation_awaits_by given (Goes u) q t b others step h = step u q h
  conversation_awaits_by given (Ends kind) q t b others step h = absurd (subst goes (sym (sym q ∙ h)) tt)
  conversation_awaits_by given Stops q t b others step h = absurd (subst goes (sym (sym q ∙ h)) tt)

  -- whether the startup packet is awaited after messages
  pub conversation_awaits : (answers : List Bool) (s t : T) (ms : List PgWireFrontendMessage)
      → (conversation rules.table answers s ms).next ≡ Goes t → rules.awaits t ≡ awaits_startup_after_all ms (rules.awaits s)
  conversation_awaits answers s t [] e = ap (λ n. rules.awaits (state_of s n)) (sym e)
  conversation_awaits answers s t (m ∷ ms) e =
      conversation_awaits_by (rules.table answers s m) (rules.table answers s m).next refl t (awaits_startup_after_all ms
      (awaits_startup_after m (rules.awaits s)))
      (λ u. conversation rules.table (left_by (rules.table answers s m).calls answers) u ms)
      (λ u p h. conversation_awaits (left_by (rules.table answers s m).calls answers) u t ms h
      ∙ ap (awaits_startup_after_all ms) (lawful.follows answers s u m p)) e

  -- the division of a piece behind another
  pub divides-then : {s t : T} {text mid : List ℕ} (rest : List ℕ) {b : List ℕ} {k : List DeskCall} (p : IsFed rules s text mid b k
      (Goes t)) (ns : List PgWireFrontendMessage)
      → DividesInto (rules.awaits t) mid ns rest → DividesInto (rules.awaits s) text (p.messages ++ ns) rest
  divides-then {s} {t} {text} {mid} rest {b} {k} p ns d = divides-append (rules.awaits s) text mid rest p.messages ns p.division
      (subst (λ w. DividesInto w mid ns rest) (conversation_awaits (answers_of k) s t p.messages (ap (λ a. a.next) p.answered)) d)

  -- frames that were answered, and then more
  pub IsFed-then : {s t : T} {text mid rest b c : List ℕ} {k l : List DeskCall} {next : Next T}
      → IsFed rules s text mid b k (Goes t) → IsFed rules t mid rest c l next → IsFed rules s text rest (b ++ c) (k ++ l) next
  IsFed-then {s} {t} {text} {mid} {rest} {b} {c} {k} {l} {next} p q = record {
    messages = p.messages ++ q.messages;
    replies = p.replies ++ q.replies;
    division = divides-then rest p q.messages q.division;
    answered = one_piece p.messages q.messages s t (record { replies = p.replies; calls = k; next = Goes t }) l p.answered refl
        ∙ ap (λ x. joined (record { replies = p.replies; calls = k; next = Goes t }) x) q.answered;
    replied = ap (λ x. x ++ c) p.replied ∙ ap (λ x. replies_bytes p.replies ++ x) q.replied
        ∙ sym (replies_bytes-append p.replies q.replies);
  }

-- no frame
pub IsFed-none : {T : Type 0} (rules : Rules T) (s : T) (text : List ℕ) → IsFed rules s text text [] [] (Goes s)
IsFed-none rules s text = record { messages = []; replies = []; division = refl; answered = refl; replied = refl }

-- one frame
pub IsFed-one : {T : Type 0} (rules : Rules T) (s : T) (text frame rest : List ℕ) (m : PgWireFrontendMessage) (made : List DeskCall)
    → text ≡ frame ++ rest → IsFrame (rules.awaits s) frame m
    → (rules.table (answers_of made) s m).calls ≡ made
    → IsFed rules s text rest (replies_bytes (rules.table (answers_of made) s m).replies) made (rules.table (answers_of made) s m).next
IsFed-one rules s text frame rest m made e f own = let given = rules.table (answers_of made) s m in record {
  messages = m ∷ [];
  replies = given.replies;
  division = (frame, rest, e, f, refl);
  answered = conversation-one rules.table (answers_of made) s m
      ∙ (λ i. record { replies = given.replies; calls = own i; next = given.next });
  replied = refl;
}
