-- The calls of a run begin with those of the frames in front of its bytes.
use Rattle.std.proofs.Common.{◌≡◌, ℕ, Bool, List, [], ◌∷◌, ◌++◌, refl, ap, sym, subst, ◌∙◌, append_assoc, append-nil, inl, inr}
use Rattle.pg_messages.specs.declared.frontend.PgWireFrontendMessage.{PgWireFrontendMessage}
use Rattle.pg_messages.specs.Frames.{DividesInto, awaits_startup_after}
use Rattle.pg_messages.proofs.OneReading.{one_frame, division_kept}
use Rattle.pg_client.specs.declared.desk.DeskCall.{DeskCall}
use Rattle.pg_client.specs.declared.ends.EndKind.{EndKind}
use Rattle.pg_client.specs.Answer.{Answer, Next, Goes, Ends, Stops, BeginsWith, answers_of, left_by, conversation, continued, joined}
use Rattle.conversation_table.specs.Lawful.{IsMade, IsLawful}
use Rattle.conversation_runs.specs.Run.{Rules, IsRun, EndsWith}
use Rattle.conversation_laws.specs.Steady.{IsSteady, IsCalledSoFar, AgreeAsFar}
use Rattle.conversation_laws.proofs.OneRun.{left_with_more, is_made, rest_of, no_frame, unchanged}

-- a front of a front
begins_through : {A : Type 0} (whole middle front : List A) → BeginsWith whole middle → BeginsWith middle front → BeginsWith whole front
begins_through whole middle front p q = (q.0 ++ p.0, p.1 ∙ ap (λ l. l ++ p.0) q.1 ∙ append_assoc front q.0 p.0)

-- the same calls in front of both
begins_behind : {A : Type 0} (calls whole front : List A) → BeginsWith whole front → BeginsWith (calls ++ whole) (calls ++ front)
begins_behind calls whole front p = (p.0, ap (λ l. calls ++ l) p.1 ∙ sym (append_assoc calls front p.0))

-- what follows an answer calls behind it
continued_begins : {T : Type 0} (a : Answer T) (n : Next T) (f : T → Answer T) → BeginsWith (continued a n f).calls a.calls
continued_begins a (Goes s) f = ((f s).calls, refl)
continued_begins a (Ends kind) f = ([], sym (append-nil a.calls))
continued_begins a Stops f = ([], sym (append-nil a.calls))

module _ {T : Type 0} (rules : Rules T) (lawful : IsLawful rules.table rules.awaits) (steady : IsSteady rules.table) where
  -- Frames in front of a text call a front of what a run over it calls, also where their answers give out before.
  front_calls : (ms ns : List PgWireFrontendMessage) (answers more : List Bool) (s : T) (text x y : List ℕ) (k : EndKind)
      → DividesInto (rules.awaits s) text ms x → DividesInto (rules.awaits s) text ns y
      → EndsWith rules.awaits (conversation rules.table (answers ++ more) s ns).next y k
      → BeginsWith (conversation rules.table (answers ++ more) s ns).calls (conversation rules.table answers s ms).calls
  front_calls [] ns answers more s text x y k d e p = ((conversation rules.table (answers ++ more) s ns).calls, refl)
  front_calls (m ∷ ms) [] answers more s text x y k d e p =
      absurd (no_frame (rules.awaits s) text d.0 d.1 m
      (rest_of rules.awaits s text k (subst (λ r. EndsWith rules.awaits (Goes s) r k) (sym e) p)) d.2 d.3)
  front_calls (m ∷ ms) (n ∷ ns) answers more s text x y k d e p =
      let one = one_frame (rules.awaits s) d.0 e.0 d.1 e.1 m n d.3 e.3 (sym d.2 ∙ e.2) in
      let divides : DividesInto (awaits_startup_after m (rules.awaits s)) d.1 ns y =
      subst (λ t. DividesInto (awaits_startup_after m (rules.awaits s)) t ns y) (sym one.1)
      (subst (λ o. DividesInto (awaits_startup_after o (rules.awaits s)) e.1 ns y) (sym one.2) e.4) in
      subst (λ o. EndsWith rules.awaits (conversation rules.table (answers ++ more) s (o ∷ ns)).next y k
      → BeginsWith (conversation rules.table (answers ++ more) s (o ∷ ns)).calls (conversation rules.table answers s (m ∷ ms)).calls) one.2
      (λ h. by_next d.1 d.4 divides (rules.table answers s m).next refl (λ u f g v. front_calls ms ns (left_by
      (rules.table answers s m).calls answers) more u d.1 x y k f g v) h) p
    where
      at_end : BeginsWith (conversation rules.table (answers ++ more) s (m ∷ ns)).calls (rules.table answers s m).calls
      at_end =
          let a = rules.table (answers ++ more) s m in
          begins_through (conversation rules.table (answers ++ more) s (m ∷ ns)).calls a.calls (rules.table answers s m).calls
          (continued_begins a a.next (λ u. conversation rules.table (left_by a.calls (answers ++ more)) u ns)) (steady.grows answers more s m)

      by_next : (others : List ℕ) → DividesInto (awaits_startup_after m (rules.awaits s)) others ms x
          → DividesInto (awaits_startup_after m (rules.awaits s)) others ns y
          → (z : Next T) → (rules.table answers s m).next ≡ z
          → ((u : T) → DividesInto (rules.awaits u) others ms x → DividesInto (rules.awaits u) others ns y
          → EndsWith rules.awaits (conversation rules.table (left_by (rules.table answers s m).calls answers ++ more) u ns).next y k
          → BeginsWith (conversation rules.table (left_by (rules.table answers s m).calls answers ++ more) u ns).calls
          (conversation rules.table (left_by (rules.table answers s m).calls answers) u ms).calls)
          → EndsWith rules.awaits (conversation rules.table (answers ++ more) s (m ∷ ns)).next y k
          → BeginsWith (conversation rules.table (answers ++ more) s (m ∷ ns)).calls
          (continued (rules.table answers s m) z (λ u. conversation rules.table (left_by (rules.table answers s m).calls answers) u ms)).calls
      by_next others f g (Goes u) z ih v =
          let a = rules.table answers s m in
          let awaited : rules.awaits u ≡ awaits_startup_after m (rules.awaits s) = lawful.follows answers s u m z in
          let same : rules.table (answers ++ more) s m ≡ a = lawful.same answers more s m (subst IsMade (sym z) tt) in
          let left : List Bool = left_by a.calls answers in
          let whole : conversation rules.table (answers ++ more) s (m ∷ ns) ≡ joined a (conversation rules.table (left ++ more) u ns) =
          ap (λ x. continued x x.next (λ v. conversation rules.table (left_by x.calls (answers ++ more)) v ns)) same
          ∙ ap (λ y. continued a y (λ v. conversation rules.table (left_by a.calls (answers ++ more)) v ns)) z
          ∙ ap (λ xs. joined a (conversation rules.table xs u ns)) (left_with_more a.calls answers more (lawful.taken answers s m)) in
          let r = ih u (subst (λ b. DividesInto b others ms x) (sym awaited) f) (subst (λ b. DividesInto b others ns y) (sym awaited) g)
          (subst (λ w. EndsWith rules.awaits w.next y k) whole v) in
          let behind = begins_behind a.calls (conversation rules.table (left ++ more) u ns).calls (conversation rules.table left u ms).calls r in
          (behind.0, ap (λ w. w.calls) whole ∙ behind.1)
      by_next others f g (Ends kind) z ih v = at_end
      by_next others f g Stops z ih v = at_end

  module _ (s : T) (front behind replies : List ℕ) (made calls : List DeskCall) (kind : EndKind) (p : IsCalledSoFar rules s front made)
      (q : IsRun rules s (front ++ behind) replies calls kind) where
    -- the run's own answer, as it is given
    abbrev given : Answer T
    given = record { replies = q.fed.replies; calls = calls; next = q.next }

    under : (more : List Bool) → conversation rules.table (answers_of made ++ more) s q.fed.messages ≡ given → BeginsWith calls made
    under more whole =
        let r = front_calls p.messages q.fed.messages (answers_of made) more s (front ++ behind) (p.rest ++ behind) q.rest kind
        (division_kept p.messages (rules.awaits s) front p.rest behind p.division) q.fed.division
        (subst (λ w. EndsWith rules.awaits w.next q.rest kind) (sym whole) q.ended) in
        (r.0, sym (ap (λ a. a.calls) whole) ∙ r.1 ∙ ap (λ l. l ++ r.0) p.called)

    pub calls_go_on : AgreeAsFar (answers_of calls) (answers_of made) → BeginsWith calls made
    calls_go_on (inl e) = under e.0 (ap (λ xs. conversation rules.table xs s q.fed.messages) (sym e.1) ∙ q.fed.answered)
    calls_go_on (inr e) =
        let next : (conversation rules.table (answers_of calls) s q.fed.messages).next ≡ q.next = ap (λ a. a.next) q.fed.answered in
        let made_one : IsMade (conversation rules.table (answers_of calls) s q.fed.messages).next =
        subst IsMade (sym next) (is_made rules.awaits q.next q.rest kind q.ended) in
        under [] (ap (λ xs. conversation rules.table xs s q.fed.messages) (append-nil (answers_of made) ∙ e.1)
        ∙ unchanged rules lawful (answers_of calls) e.0 s q.fed.messages made_one ∙ q.fed.answered)
