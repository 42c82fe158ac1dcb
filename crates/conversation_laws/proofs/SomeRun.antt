-- Under any script there is a run over any bytes.
use Rattle.std.proofs.Common.{◌≡◌, ℕ, Bool, List, [], ◌∷◌, ◌++◌, refl, ap, sym, subst, ◌∙◌, length, drop, arith, inl, inr, ◌⊎◌}
use Rattle.std.proofs.Math.Seq.{drop-append_seam}
use Rattle.std.proofs.lemmas.List.{length-append}
use Rattle.pg_messages.specs.declared.frontend.PgWireFrontendMessage.{PgWireFrontendMessage}
use Rattle.pg_messages.specs.Frames.{IsBad, IsUnfinished, awaits_startup_after, awaits_startup_after_all}
use Rattle.pg_messages.specs.Replies.{replies_bytes}
use Rattle.pg_messages.proofs.OneReading.{has_division}
use Rattle.pg_client.specs.declared.ends.EndKind.{EndKind}
use Rattle.pg_client.specs.declared.ends.EndKind.TheVariants.{InputEnd, BadFrame}
use Rattle.pg_client.specs.Answer.{Answer, Next, Goes, Ends, Stops, answers_of, left_by, conversation, continued, joined}
use Rattle.conversation_table.specs.Lawful.{IsMade, IsLawful}
use Rattle.pg_client.specs.Script.{scripted}
use Rattle.pg_client.proofs.Scripts.{answers_of-append}
use Rattle.conversation_runs.specs.Run.{Rules, EndsWith}
use Rattle.conversation_laws.specs.Steady.{IsSteady, HasScriptedRun}
use Rattle.conversation_laws.proofs.Scripted.{scripted_more, scripted_front, length_scripted}

-- where the conversation goes on, it awaits the startup packet as told
abbrev AwaitsNow : {T : Type 0} → (T → Bool) → Bool → Next T → Type 0
AwaitsNow awaits awaiting (Goes t) = awaits t ≡ awaiting
AwaitsNow awaits awaiting _ = Unit {0}

-- a conversation that came to its end goes on to that of its bytes
ended : {T : Type 0} (awaits : T → Bool) (awaiting : Bool) (n : Next T) (rest : List ℕ) → IsMade n → AwaitsNow awaits awaiting n
    → IsUnfinished awaiting rest ⊎ IsBad awaiting rest → (kind : EndKind) × EndsWith awaits n rest kind
ended awaits awaiting (Goes t) rest made e (inl unfinished) = (InputEnd, subst (λ b. IsUnfinished b rest) (sym e) unfinished)
ended awaits awaiting (Goes t) rest made e (inr bad) = (BadFrame, subst (λ b. IsBad b rest) (sym e) bad)
ended awaits awaiting (Ends kind) rest made e r = (kind, refl)
ended awaits awaiting Stops rest made e r = absurd made

module _ {T : Type 0} (rules : Rules T) (lawful : IsLawful rules.table rules.awaits) (steady : IsSteady rules.table) where
  -- What messages are answered under a script: under the very answers that the calls tell, which are the script's first.
  record IsScriptedAnswer (script : List Bool) (s : T) (ms : List PgWireFrontendMessage) (a : Answer T) : Type 0 where
    own : conversation rules.table (answers_of a.calls) s ms ≡ a
    taken : answers_of a.calls ≡ scripted script (length (answers_of a.calls))
    made : IsMade a.next
    awaited : AwaitsNow rules.awaits (awaits_startup_after_all ms (rules.awaits s)) a.next

  abbrev HasScriptedAnswer : List Bool → T → List PgWireFrontendMessage → Type 0
  HasScriptedAnswer script s ms = (a : Answer T) × IsScriptedAnswer script s ms a

  -- one message under a script
  module _ (script : List Bool) (s : T) (m : PgWireFrontendMessage) where
    abbrev most : ℕ
    most = (steady.enough s m).0

    abbrev first : Answer T
    first = rules.table (scripted script most) s m

    first_made : IsMade first.next
    first_made = (steady.enough s m).1 (scripted script most) (let e = length_scripted most script in omega (arith, e))

    first_own : rules.table (answers_of first.calls) s m ≡ first
    first_own = steady.own (scripted script most) s m

    first_taken : answers_of first.calls ≡ scripted script (length (answers_of first.calls))
    first_taken = scripted_front most script (answers_of first.calls) (left_by first.calls (scripted script most))
        (lawful.taken (scripted script most) s m)

    -- nothing follows
    last_answer : (ms : List PgWireFrontendMessage) (kind : EndKind) → first.next ≡ Ends kind → HasScriptedAnswer script s (m ∷ ms)
    last_answer ms kind z = (
      first,
      record {
        own = ap (λ x. continued x x.next (λ v. conversation rules.table (left_by x.calls (answers_of first.calls)) v ms)) first_own
            ∙ ap (λ n. continued first n (λ v. conversation rules.table (left_by first.calls (answers_of first.calls)) v ms)) z;
        taken = first_taken;
        made = first_made;
        awaited = subst (AwaitsNow rules.awaits (awaits_startup_after_all ms (awaits_startup_after m (rules.awaits s)))) (sym z) tt;
      },
    )

    -- the next message's answer stands behind
    then_answer : (ms : List PgWireFrontendMessage) (u : T) → first.next ≡ Goes u
        → HasScriptedAnswer (drop (length (answers_of first.calls)) script) u ms → HasScriptedAnswer script s (m ∷ ms)
    then_answer ms u z r =
        let b : Answer T = r.0 in
        let mine : List Bool = answers_of first.calls in
        let its : List Bool = answers_of b.calls in
        let both : answers_of (first.calls ++ b.calls) ≡ mine ++ its = answers_of-append first.calls b.calls in
        let same : rules.table (mine ++ its) s m ≡ first =
        lawful.same mine its s m (subst (λ a. IsMade a.next) (sym first_own) first_made) ∙ first_own in
        let awaited : rules.awaits u ≡ awaits_startup_after m (rules.awaits s) = lawful.follows (scripted script most) s u m z in (
          joined first b,
          record {
            own = ap (λ xs. conversation rules.table xs s (m ∷ ms)) both
                ∙ ap (λ x. continued x x.next (λ v. conversation rules.table (left_by x.calls (mine ++ its)) v ms)) same
                ∙ ap (λ n. continued first n (λ v. conversation rules.table (left_by first.calls (mine ++ its)) v ms)) z
                ∙ ap (λ xs. joined first (conversation rules.table xs u ms)) (drop-append_seam mine its) ∙ ap (λ x. joined first x) r.1.own;
            taken = both ∙ ap (λ xs. xs ++ its) first_taken ∙ ap (λ xs. scripted script (length mine) ++ xs) r.1.taken
                ∙ sym (scripted_more script (length mine) (length its))
                ∙ ap (scripted script) (sym (length-append mine its) ∙ ap length (sym both));
            made = r.1.made;
            awaited = subst (λ w. AwaitsNow rules.awaits (awaits_startup_after_all ms w) b.next) awaited r.1.awaited;
          },
        )

  scripted_answer : (ms : List PgWireFrontendMessage) (script : List Bool) (s : T) → HasScriptedAnswer script s ms
  scripted_answer [] script s =
      (record { replies = []; calls = []; next = Goes s }, record { own = refl; taken = refl; made = tt; awaited = refl })
  scripted_answer (m ∷ ms) script s =
      by_next (first script s m).next refl (λ u. scripted_answer ms (drop (length (answers_of (first script s m).calls)) script) u)
    where
      by_next : (n : Next T) → (first script s m).next ≡ n
          → ((u : T) → HasScriptedAnswer (drop (length (answers_of (first script s m).calls)) script) u ms)
          → HasScriptedAnswer script s (m ∷ ms)
      by_next (Goes u) z ih = then_answer script s m ms u z (ih u)
      by_next (Ends kind) z ih = last_answer script s m ms kind z
      by_next Stops z ih = absurd (subst IsMade z (first_made script s m))

  pub scripted_run : (s : T) (text : List ℕ) (script : List Bool) → HasScriptedRun rules s text script
  scripted_run s text script =
      let d = has_division (rules.awaits s) text in
      let r = scripted_answer d.0 script s in
      let e = ended rules.awaits (awaits_startup_after_all d.0 (rules.awaits s)) r.0.next d.1 r.1.made r.1.awaited d.3 in (
        replies_bytes r.0.replies,
        r.0.calls,
        e.0,
        record {
          rest = d.1;
          next = r.0.next;
          fed = record { messages = d.0; replies = r.0.replies; division = d.2; answered = r.1.own; replied = refl };
          ended = e.1;
        },
        r.1.taken,
      )
