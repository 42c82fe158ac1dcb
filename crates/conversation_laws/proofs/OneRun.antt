-- Over the same bytes there is one run, under answers that are alike as far as both go.
use Rattle.std.proofs.Common.{◌≡◌, ℕ, Bool, List, [], ◌∷◌, ◌++◌, refl, ap, sym, subst, ◌∙◌, append_assoc, arith, inl, inr, ◌⊎◌}
use Rattle.std.proofs.Math.Seq.{drop-append_seam}
use Rattle.pg_messages.specs.declared.frontend.PgWireFrontendMessage.{PgWireFrontendMessage}
use Rattle.pg_messages.specs.Frames.{DividesInto, IsFrame, IsBad, IsUnfinished, awaits_startup_after}
use Rattle.pg_messages.specs.Replies.{replies_bytes}
use Rattle.pg_messages.proofs.OneReading.{one_frame, frame_finished, frame_not_bad}
use Rattle.pg_client.specs.declared.desk.DeskCall.{DeskCall}
use Rattle.pg_client.specs.declared.ends.EndKind.{EndKind}
use Rattle.pg_client.specs.declared.ends.EndKind.TheVariants.{Terminate, InputEnd, BadFrame, Fatal, CancelServed}
use Rattle.pg_client.specs.Answer.{Answer, Next, Goes, Ends, Stops, answers_of, left_by, conversation, continued, joined}
use Rattle.conversation_table.specs.Lawful.{IsMade, IsLawful}
use Rattle.conversation_runs.specs.Run.{Rules, IsRun, EndsWith}

pub left_with_more : (calls : List DeskCall) (answers more : List Bool) → answers ≡ answers_of calls ++ left_by calls answers
    → left_by calls (answers ++ more) ≡ left_by calls answers ++ more
left_with_more calls answers more e =
    ap (λ xs. left_by calls (xs ++ more)) e ∙ ap (λ xs. left_by calls xs) (append_assoc (answers_of calls) (left_by calls answers) more)
    ∙ drop-append_seam (answers_of calls) (left_by calls answers ++ more)

-- a rest that is unfinished isn't bad
not_both : (awaiting : Bool) (rest : List ℕ) → IsUnfinished awaiting rest → IsBad awaiting rest → ⊥
not_both awaiting rest (inl short) bad = let whole = bad.0 in omega (arith, short, whole)
not_both awaiting rest (inr w) bad = elim bad.1 [ inl n ↦ n w.1 | inr x ↦ let few = w.2 in let all = x.1 in omega (arith, few, all) ]

pub is_made : {T : Type 0} (awaits : T → Bool) (n : Next T) (rest : List ℕ) (k : EndKind) → EndsWith awaits n rest k → IsMade n
is_made awaits (Goes s) rest k h = tt
is_made awaits (Ends kind) rest k h = tt
is_made awaits Stops rest k h = h

-- what is left of the bytes of a run is unfinished or bad
pub rest_of : {T : Type 0} (awaits : T → Bool) (s : T) (rest : List ℕ) (k : EndKind) → EndsWith awaits (Goes s) rest k
    → IsUnfinished (awaits s) rest ⊎ IsBad (awaits s) rest
rest_of awaits s rest BadFrame h = inr h
rest_of awaits s rest InputEnd h = inl h
rest_of awaits s rest Terminate h = absurd h
rest_of awaits s rest Fatal h = absurd h
rest_of awaits s rest CancelServed h = absurd h

pub no_frame : (awaiting : Bool) (text frame others : List ℕ) (m : PgWireFrontendMessage) → IsUnfinished awaiting text ⊎ IsBad awaiting text
    → text ≡ frame ++ others → IsFrame awaiting frame m → ⊥
no_frame awaiting text frame others m (inl u) e h = frame_finished awaiting frame others m h (subst (IsUnfinished awaiting) e u)
no_frame awaiting text frame others m (inr b) e h = frame_not_bad awaiting frame others m h (subst (IsBad awaiting) e b)

one_end : {T : Type 0} (awaits : T → Bool) (s : T) (rest : List ℕ) (k l : EndKind) → EndsWith awaits (Goes s) rest k
    → EndsWith awaits (Goes s) rest l → k ≡ l
one_end awaits s rest BadFrame BadFrame p q = refl
one_end awaits s rest InputEnd InputEnd p q = refl
one_end awaits s rest BadFrame InputEnd p q = absurd (not_both (awaits s) rest q p)
one_end awaits s rest InputEnd BadFrame p q = absurd (not_both (awaits s) rest p q)
one_end awaits s rest Terminate l p q = absurd p
one_end awaits s rest Fatal l p q = absurd p
one_end awaits s rest CancelServed l p q = absurd p
one_end awaits s rest k Terminate p q = absurd q
one_end awaits s rest k Fatal p q = absurd q
one_end awaits s rest k CancelServed p q = absurd q

-- the same replies, calls and end
abbrev pub IsSame : {T : Type 0} → Answer T → Answer T → EndKind → EndKind → Type 0
IsSame a b k l = (a.replies ≡ b.replies) × (a.calls ≡ b.calls) × (k ≡ l)

module _ {T : Type 0} (rules : Rules T) (lawful : IsLawful rules.table rules.awaits) where
  -- More answers change nothing where none was wanting.
  pub unchanged : (answers more : List Bool) (s : T) (ms : List PgWireFrontendMessage)
      → IsMade (conversation rules.table answers s ms).next
      → conversation rules.table (answers ++ more) s ms ≡ conversation rules.table answers s ms
  unchanged answers more s [] h = refl
  unchanged answers more s (m ∷ ms) h =
      by_next (rules.table answers s m).next refl (λ u f. unchanged (left_by (rules.table answers s m).calls answers) more u ms f) h
    where
      by_next : (n : Next T) → (rules.table answers s m).next ≡ n
          → ((u : T) → IsMade (conversation rules.table (left_by (rules.table answers s m).calls answers) u ms).next
          → conversation rules.table (left_by (rules.table answers s m).calls answers ++ more) u ms
          ≡ conversation rules.table (left_by (rules.table answers s m).calls answers) u ms)
          → IsMade (continued (rules.table answers s m) n (λ u. conversation rules.table (left_by
          (rules.table answers s m).calls answers) u ms)).next
          → continued (rules.table (answers ++ more) s m) (rules.table (answers ++ more) s m).next (λ u. conversation rules.table (left_by
          (rules.table (answers ++ more) s m).calls (answers ++ more)) u ms)
          ≡ continued (rules.table answers s m) n (λ u. conversation rules.table (left_by
          (rules.table answers s m).calls answers) u ms)
      by_next (Goes u) n ih f =
          let g = rules.table answers s m in
          let same : rules.table (answers ++ more) s m ≡ g = lawful.same answers more s m (subst IsMade (sym n) tt) in
          ap (λ x. continued x x.next (λ v. conversation rules.table (left_by x.calls (answers ++ more)) v ms)) same
          ∙ ap (λ y. continued g y (λ v. conversation rules.table (left_by g.calls (answers ++ more)) v ms)) n
          ∙ ap (λ xs. joined g (conversation rules.table xs u ms)) (left_with_more g.calls answers more (lawful.taken answers s m))
          ∙ ap (λ x. joined g x) (ih u f)
      by_next (Ends kind) n ih f =
          let g = rules.table answers s m in
          let same : rules.table (answers ++ more) s m ≡ g = lawful.same answers more s m (subst IsMade (sym n) tt) in
          ap (λ x. continued x x.next (λ v. conversation rules.table (left_by x.calls (answers ++ more)) v ms)) same
          ∙ ap (λ y. continued g y (λ v. conversation rules.table (left_by g.calls (answers ++ more)) v ms)) n
      by_next Stops n ih f = absurd (subst IsMade n f)

  -- Under the same answers there is one conversation over the same bytes.
  unique : (ms ns : List PgWireFrontendMessage) (answers : List Bool) (s : T) (text x y : List ℕ) (k l : EndKind)
      → DividesInto (rules.awaits s) text ms x → DividesInto (rules.awaits s) text ns y
      → EndsWith rules.awaits (conversation rules.table answers s ms).next x k
      → EndsWith rules.awaits (conversation rules.table answers s ns).next y l
      → IsSame (conversation rules.table answers s ms) (conversation rules.table answers s ns) k l
  unique [] [] answers s text x y k l d e p q = (
    refl,
    refl,
    one_end rules.awaits s text k l (subst (λ r. EndsWith rules.awaits (Goes s) r k) (sym d) p)
        (subst (λ r. EndsWith rules.awaits (Goes s) r l) (sym e) q),
  )
  unique [] (n ∷ ns) answers s text x y k l d e p q =
      absurd (no_frame (rules.awaits s) text e.0 e.1 n
      (rest_of rules.awaits s text k (subst (λ r. EndsWith rules.awaits (Goes s) r k) (sym d) p)) e.2 e.3)
  unique (m ∷ ms) [] answers s text x y k l d e p q =
      absurd (no_frame (rules.awaits s) text d.0 d.1 m
      (rest_of rules.awaits s text l (subst (λ r. EndsWith rules.awaits (Goes s) r l) (sym e) q)) d.2 d.3)
  unique (m ∷ ms) (n ∷ ns) answers s text x y k l d e p q =
      let one = one_frame (rules.awaits s) d.0 e.0 d.1 e.1 m n d.3 e.3 (sym d.2 ∙ e.2) in
      let divides : DividesInto (awaits_startup_after m (rules.awaits s)) d.1 ns y =
      subst (λ t. DividesInto (awaits_startup_after m (rules.awaits s)) t ns y) (sym one.1)
      (subst (λ o. DividesInto (awaits_startup_after o (rules.awaits s)) e.1 ns y) (sym one.2) e.4) in
      subst (λ o. EndsWith rules.awaits (conversation rules.table answers s (o ∷ ns)).next y l
      → IsSame (conversation rules.table answers s (m ∷ ms)) (conversation rules.table answers s (o ∷ ns)) k l) one.2
      (λ h. by_next d.1 d.4 divides (rules.table answers s m).next refl (λ u f g v w. unique ms ns (left_by
      (rules.table answers s m).calls answers) u d.1 x y k l f g v w) p h) q
    where
      by_next : (others : List ℕ) → DividesInto (awaits_startup_after m (rules.awaits s)) others ms x
          → DividesInto (awaits_startup_after m (rules.awaits s)) others ns y
          → (z : Next T) → (rules.table answers s m).next ≡ z
          → ((u : T) → DividesInto (rules.awaits u) others ms x → DividesInto (rules.awaits u) others ns y
          → EndsWith rules.awaits (conversation rules.table (left_by (rules.table answers s m).calls answers) u ms).next x k
          → EndsWith rules.awaits (conversation rules.table (left_by (rules.table answers s m).calls answers) u ns).next y l
          → IsSame (conversation rules.table (left_by (rules.table answers s m).calls answers) u ms)
          (conversation rules.table (left_by (rules.table answers s m).calls answers) u ns) k l)
          → EndsWith rules.awaits (continued (rules.table answers s m) z (λ u. conversation rules.table (left_by
          (rules.table answers s m).calls answers) u ms)).next x k
          → EndsWith rules.awaits (continued (rules.table answers s m) z (λ u. conversation rules.table (left_by
          (rules.table answers s m).calls answers) u ns)).next y l
          → IsSame (continued (rules.table answers s m) z (λ u. conversation rules.table (left_by
          (rules.table answers s m).calls answers) u ms))
          (continued (rules.table answers s m) z (λ u. conversation rules.table (left_by (rules.table answers s m).calls answers) u ns)) k l
      by_next others f g (Goes u) z ih v w =
          let a = rules.table answers s m in
          let awaited : rules.awaits u ≡ awaits_startup_after m (rules.awaits s) = lawful.follows answers s u m z in
          let r = ih u (subst (λ b. DividesInto b others ms x) (sym awaited) f) (subst (λ b. DividesInto b others ns y) (sym awaited) g) v w in
          (ap (λ t. a.replies ++ t) r.0, ap (λ t. a.calls ++ t) r.1, r.2)
      by_next others f g (Ends kind) z ih v w =
          let one : kind ≡ k = subst (λ n. EndsWith rules.awaits n x k) z v in
          let two : kind ≡ l = subst (λ n. EndsWith rules.awaits n y l) z w in (refl, refl, sym one ∙ two)
      by_next others f g Stops z ih v w = absurd (subst (λ n. EndsWith rules.awaits n x k) z v)

  pub one_run : (s : T) (text b c : List ℕ) (calls made : List DeskCall) (k l : EndKind) (more : List Bool)
      → IsRun rules s text b calls k → IsRun rules s text c made l → answers_of made ≡ answers_of calls ++ more
      → (b ≡ c) × (calls ≡ made) × (k ≡ l)
  one_run s text b c calls made k l more p q e =
      let told = p.fed.answered in
      let next : (conversation rules.table (answers_of calls) s p.fed.messages).next ≡ p.next = ap (λ a. a.next) told in
      let made_one : IsMade (conversation rules.table (answers_of calls) s p.fed.messages).next =
      subst IsMade (sym next) (is_made rules.awaits p.next p.rest k p.ended) in
      let first = ap (λ xs. conversation rules.table xs s p.fed.messages) e
      ∙ unchanged (answers_of calls) more s p.fed.messages made_one ∙ told in
      let other = q.fed.answered in
      let r = unique p.fed.messages q.fed.messages (answers_of made) s text p.rest q.rest k l p.fed.division q.fed.division
      (subst (λ n. EndsWith rules.awaits n p.rest k) (sym (ap (λ a. a.next) first)) p.ended)
      (subst (λ n. EndsWith rules.awaits n q.rest l) (sym (ap (λ a. a.next) other)) q.ended) in (
        p.fed.replied ∙ ap replies_bytes (sym (ap (λ a. a.replies) first) ∙ r.0 ∙ ap (λ a. a.replies) other) ∙ sym q.fed.replied,
        sym (ap (λ a. a.calls) first) ∙ r.1 ∙ ap (λ a. a.calls) other,
        r.2,
      )
