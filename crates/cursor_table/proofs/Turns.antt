-- What a lawful table keeps to of one message, it keeps to of messages in turn.
use Rattle.std.proofs.Common.{◌≡◌, ℕ, zero, suc, ◌+◌, Bool, List, [], ◌∷◌, ◌++◌, refl, ap, sym, subst, ◌∙◌, length, drop, append_assoc, length-append, arith}
use Rattle.std.proofs.Math.Seq.{drop-append_seam}
use Rattle.pg_messages.specs.declared.frontend.PgWireFrontendMessage.{PgWireFrontendMessage}
use Rattle.pg_client.specs.declared.desk.DeskCall.{DeskCall}
use Rattle.pg_client.specs.Answer.{Table, Next, Goes, Ends, Stops, answers_of, left_by, conversation, continued, joined}
use Rattle.conversation_table.specs.Lawful.{IsMade, IsLawful}
use Rattle.conversation_runs.proofs.Pieces.{answers_of-append}

drop-further : {A : Type 0} (n k : ℕ) (xs : List A) → drop (n + k) xs ≡ drop k (drop n xs)
drop-further zero k xs = ap (λ n. drop n xs) (let e : 0 + k ≡ k = omega arith in e)
drop-further (suc n) zero [] = ap (λ m. drop m []) (let e : suc n + 0 ≡ suc n = omega arith in e)
drop-further (suc n) (suc k) [] = ap (λ m. drop m []) (let e : suc n + suc k ≡ suc (n + suc k) = omega arith in e)
drop-further (suc n) k (x ∷ xs) = ap (λ m. drop m (x ∷ xs)) (let e : suc n + k ≡ suc (n + k) = omega arith in e) ∙ drop-further n k xs

left_of_both : (a b : List DeskCall) (answers : List Bool) → left_by (a ++ b) answers ≡ left_by b (left_by a answers)
left_of_both a b answers =
    ap (λ xs. drop (length xs) answers) (answers_of-append a b) ∙ ap (λ n. drop n answers) (length-append (answers_of a) (answers_of b))
    ∙ drop-further (length (answers_of a)) (length (answers_of b)) answers

left_with_more : (calls : List DeskCall) (answers more : List Bool) → answers ≡ answers_of calls ++ left_by calls answers
    → left_by calls (answers ++ more) ≡ left_by calls answers ++ more
left_with_more calls answers more e =
    ap (λ xs. left_by calls (xs ++ more)) e ∙ ap (λ xs. left_by calls xs) (append_assoc (answers_of calls) (left_by calls answers) more)
    ∙ drop-append_seam (answers_of calls) (left_by calls answers ++ more)

module _ {T : Type 0} (table : Table T) (awaits : T → Bool) (lawful : IsLawful table awaits) where
  same_by : (messages : List PgWireFrontendMessage) (answers more : List Bool) (s : T) (m : PgWireFrontendMessage) (n : Next T)
      → (table answers s m).next ≡ n
      → ((u : T) → IsMade (conversation table (left_by (table answers s m).calls answers) u messages).next
      → conversation table (left_by (table answers s m).calls answers ++ more) u messages
      ≡ conversation table (left_by (table answers s m).calls answers) u messages)
      → IsMade (continued (table answers s m) n (λ t. conversation table (left_by (table answers s m).calls answers) t messages)).next
      → continued (table (answers ++ more) s m) (table (answers ++ more) s m).next (λ t. conversation table (left_by (table
      (answers ++ more) s m).calls (answers ++ more)) t messages)
      ≡ continued (table answers s m) n (λ t. conversation table (left_by (table answers s m).calls answers) t messages)
  same_by messages answers more s m (Goes u) e ih made =
      let g = table answers s m in
      let same : table (answers ++ more) s m ≡ g = lawful.same answers more s m (subst IsMade (sym e) tt) in
      ap (λ x. continued x x.next (λ t. conversation table (left_by x.calls (answers ++ more)) t messages)) same
      ∙ ap (λ n. continued g n (λ t. conversation table (left_by g.calls (answers ++ more)) t messages)) e
      ∙ ap (λ l. joined g (conversation table l u messages)) (left_with_more g.calls answers more (lawful.taken answers s m))
      ∙ ap (λ x. joined g x) (ih u made)
  same_by messages answers more s m (Ends kind) e ih made =
      let g = table answers s m in
      let same : table (answers ++ more) s m ≡ g = lawful.same answers more s m (subst IsMade (sym e) tt) in
      ap (λ x. continued x x.next (λ t. conversation table (left_by x.calls (answers ++ more)) t messages)) same
      ∙ ap (λ n. continued g n (λ t. conversation table (left_by g.calls (answers ++ more)) t messages)) e
  same_by messages answers more s m Stops e ih made = absurd (subst IsMade e made)

  -- more answers change nothing where none was wanting
  pub turns_same : (messages : List PgWireFrontendMessage) (answers more : List Bool) (s : T)
      → IsMade (conversation table answers s messages).next
      → conversation table (answers ++ more) s messages ≡ conversation table answers s messages
  turns_same [] answers more s made = refl
  turns_same (m ∷ messages) answers more s made =
      same_by messages answers more s m (table answers s m).next refl
      (λ u. turns_same messages (left_by (table answers s m).calls answers) more u) made

  taken_by : (messages : List PgWireFrontendMessage) (answers : List Bool) (s : T) (m : PgWireFrontendMessage) (n : Next T)
      → ((u : T) → left_by (table answers s m).calls answers
      ≡ answers_of (conversation table (left_by (table answers s m).calls answers) u messages).calls
      ++ left_by (conversation table (left_by (table answers s m).calls answers) u messages).calls (left_by
      (table answers s m).calls answers))
      → answers ≡ answers_of (continued (table answers s m) n (λ t. conversation table (left_by
      (table answers s m).calls answers) t messages)).calls
      ++ left_by (continued (table answers s m) n (λ t. conversation table (left_by
      (table answers s m).calls answers) t messages)).calls answers
  taken_by messages answers s m (Goes u) ih =
      let g = table answers s m in
      let left = left_by g.calls answers in
      let a = conversation table left u messages in
      lawful.taken answers s m ∙ (ap (λ l. answers_of g.calls ++ l) (ih u)
      ∙ (sym (append_assoc (answers_of g.calls) (answers_of a.calls) (left_by a.calls left))
      ∙ (ap (λ l. l ++ left_by a.calls left) (sym (answers_of-append g.calls a.calls))
      ∙ ap (λ l. answers_of (g.calls ++ a.calls) ++ l) (sym (left_of_both g.calls a.calls answers)))))
  taken_by messages answers s m (Ends kind) ih = lawful.taken answers s m
  taken_by messages answers s m Stops ih = lawful.taken answers s m

  -- the calls tell the answers that were taken
  pub turns_taken : (messages : List PgWireFrontendMessage) (answers : List Bool) (s : T)
      → answers ≡ answers_of (conversation table answers s messages).calls ++ left_by (conversation table answers s messages).calls answers
  turns_taken [] answers s = refl
  turns_taken (m ∷ messages) answers s =
      taken_by messages answers s m (table answers s m).next (λ u. turns_taken messages (left_by (table answers s m).calls answers) u)
