-- One step of a session, and what is served step by step.
use Rattle.std.proofs.Common.{◌≡◌, ◌≢◌, ℕ, Bool, List, [], ◌∷◌, ◌++◌, Option, Some, None, Result, Ok, Err, OnErr, refl, sym, ap, subst, ◌∙◌, append-nil, append_assoc}
use Rattle.pg_messages.specs.declared.frontend.PgWireFrontendMessage.{PgWireFrontendMessage}
use Rattle.pg_messages.specs.Frames.{IsFrame, DividesInto}
use Rattle.pg_messages.specs.Replies.{replies_bytes}
use Rattle.pg_client.specs.declared.desk.DeskCall.{DeskCall}
use Rattle.pg_client.specs.declared.ends.EndKind.{EndKind}
use Rattle.pg_client.specs.declared.ends.EndKind.TheVariants as end
use Rattle.conversation_runs.specs.declared.ends.Progress.{Progress}
use Rattle.conversation_runs.specs.declared.ends.Progress.TheVariants as progress
use Rattle.pg_client.specs.Answer.{Answer, Next, Goes, Ends, Stops, answers_of, conversation, joined}
use Rattle.pg_client.specs.declared.desk.DeskCall.TheVariants as desk
use Rattle.pg_client.proofs.Scripts.{answers_of-append}
use Rattle.std.specs.Option.{option_map}
use Rattle.std.specs.Result.{IsErrAnd}
use Rattle.conversation_table.specs.Lawful.{IsLawful}
use Rattle.conversation_runs.specs.Run.{Rules, IsFed}
use Rattle.conversation_runs.specs.Messages.{next_of}
use Rattle.conversation_runs.specs.Streams.{GrowsByFront}
use Rattle.conversation_runs.specs.Steps.{Flows, IsAnswered, IsCutAnswer, IsStoppedAnswer, IsServed, IsCutOff, IsStopped, StandsAfterStep}
use Rattle.conversation_runs.proofs.Pieces.{IsFed-none, IsFed-one, IsFed-then, divides-then, one_piece, one_piece_under, conversation-one}
use Rattle.conversation_runs.proofs.ReplyBytes.{replies_bytes-append}
use Rattle.conversation_runs.proofs.Flowing.{Flows-none, Flows-wait, Flows-then, cut_at_once, cut_after, GrowsByFront-then}

pub on_err_always : {T E P : Type 0} (r : Result T E) → P → OnErr r P
on_err_always (Ok x) p = tt
on_err_always (Err e) p = p

-- the error that a caller tells is that of the call
pub err_told : {T E : Type 0} (r : Result T E) (e k : E) → IsErrAnd r (λ x. x ≡ e) → r ≡ Err k → e ≡ k
err_told r e k is told = sym (subst (λ q. IsErrAnd q (λ x. x ≡ e)) told is)

-- where the conversation stands by the end that a message told
pub stands_by : {T : Type 0} (awaits : T → Bool) (e : Option EndKind) (s : T) (rest : List ℕ) (step : Option Progress)
    → step ≡ option_map (λ kind. progress.Ended kind) e → e ≢ Some end.InputEnd
    → StandsAfterStep awaits (next_of e s) s rest step
stands_by awaits None s rest step h told = subst (λ p. StandsAfterStep awaits (Goes s) s rest p) (sym h) refl
stands_by awaits (Some kind) s rest step h told = subst (λ p. StandsAfterStep awaits (Ends kind) s rest p) (sym h) (
  λ e. told
      (ap Some e),
  λ more. refl,
)

pub bad_is_no_end_of_input : end.BadFrame ≢ end.InputEnd
bad_is_no_end_of_input e = cc

module _ {T : Type 0} (rules : Rules T) where
  pub serves_none : (s : T) (text rest : List ℕ) (w : Option (List ℕ)) (o : List ℕ) (calls : List DeskCall) → rest ≡ text
      → IsServed rules s text rest (Goes s) w w o o calls calls
  serves_none s text rest w o calls e = record {
    bytes = [];
    called = [];
    fed = λ more. subst (λ r. IsFed rules s (text ++ more) (r ++ more) [] [] (Goes s)) (sym e) (IsFed-none rules s (text ++ more));
    flows = Flows-none w o;
    grown = sym (append-nil calls);
  }

  pub serves_one : (s : T) (text frame rest : List ℕ) (m : PgWireFrontendMessage) → text ≡ frame ++ rest → IsFrame (rules.awaits s) frame m
      → {out new_out : List ℕ} {calls new_calls : List DeskCall} {next : Next T} (w : Option (List ℕ))
      → IsAnswered rules.table s m out new_out calls new_calls next
      → IsServed rules s text rest next w w out new_out calls new_calls
  serves_one s text frame rest m e f {out} {new_out} {calls} {new_calls} {next} w x =
      let given = rules.table (answers_of x.made) s m in
      record {
        bytes = replies_bytes given.replies;
        called = x.made;
        fed = λ more. subst (λ n. IsFed rules s (text ++ more) (rest ++ more) (replies_bytes given.replies) x.made n) x.carried.goes_on
            (IsFed-one rules s (text ++ more) frame (rest ++ more) m x.made (ap (λ l. l ++ more) e ∙ append_assoc frame rest more) f x.own);
        flows = Flows-wait w out new_out (replies_bytes given.replies) x.carried.replied.bytes;
        grown = x.carried.called ∙ ap (λ l. calls ++ l) x.own;
      }

  -- and then more flows
  pub serves_flow : {s : T} {text rest : List ℕ} {next : Next T} {w v : Option (List ℕ)} {o p : List ℕ} {calls new_calls : List DeskCall}
      (u : Option (List ℕ)) (q : List ℕ)
      → IsServed rules s text rest next w v o p calls new_calls → Flows v u p q [] → IsServed rules s text rest next w u o q calls new_calls
  serves_flow {w = w} {o = o} u q x y = record {
    bytes = x.bytes;
    called = x.called;
    fed = x.fed;
    flows = subst (λ b. Flows w u o q b) (append-nil x.bytes) (Flows-then x.flows y);
    grown = x.grown;
  }

  pub cut_none : (s : T) (text : List ℕ) (w : Option (List ℕ)) (o : List ℕ) (calls : List DeskCall)
      → IsCutOff rules s text w w o calls calls
  cut_none s text w o calls = record {
    messages = [];
    rest = text;
    made = [];
    given = record { replies = []; calls = []; next = Goes s };
    division = refl;
    answered = refl;
    cut = cut_at_once w (o ++ []);
    front = ([], refl);
    grown = sym (append-nil calls);
  }

  -- a message whose answer was cut off
  pub cut_one : (s : T) (text frame rest : List ℕ) (m : PgWireFrontendMessage) → text ≡ frame ++ rest → IsFrame (rules.awaits s) frame m
      → (w : Option (List ℕ)) (o : List ℕ) (calls new_calls : List DeskCall) → IsCutAnswer rules.table s m calls new_calls
      → IsCutOff rules s text w w o calls new_calls
  cut_one s text frame rest m e f w o calls new_calls x =
      let given = rules.table (answers_of x.made) s m in
      record {
        messages = m ∷ [];
        rest = rest;
        made = x.made;
        given = given;
        division = (frame, rest, e, f, refl);
        answered = conversation-one rules.table (answers_of x.made) s m;
        cut = cut_at_once w (o ++ replies_bytes given.replies);
        front = x.front;
        grown = x.grown;
      }

  -- a message whose answer stops at a question for which no turn is left
  pub stop_one : (s : T) (text frame rest : List ℕ) (m : PgWireFrontendMessage) → text ≡ frame ++ rest → IsFrame (rules.awaits s) frame m
      → (w : Option (List ℕ)) (o : List ℕ) (calls new_calls : List DeskCall) → IsStoppedAnswer rules.table s m calls new_calls
      → IsStopped rules s text w w o calls new_calls
  stop_one s text frame rest m e f w o calls new_calls x =
      let given = rules.table (answers_of x.made) s m in
      record {
        messages = m ∷ [];
        rest = rest;
        made = x.made;
        replies = given.replies;
        division = (frame, rest, e, f, refl);
        answered = conversation-one rules.table (answers_of x.made) s m
            ∙ (λ i. record { replies = given.replies; calls = x.own i; next = x.stops i });
        asks = λ yes. (
          (x.asks yes).0,
          ap (λ a. a.calls) (conversation-one rules.table (answers_of x.made ++ yes ∷ []) s m) ∙ (x.asks yes).1,
        );
        cut = cut_at_once w (o ++ replies_bytes given.replies);
        grown = x.grown;
      }

  -- what stops is cut off
  pub cut_stopped : {s : T} {text : List ℕ} {w v : Option (List ℕ)} {o : List ℕ} {k l : List DeskCall} → IsStopped rules s text w v o k l
      → IsCutOff rules s text w v o k l
  cut_stopped x = record {
    messages = x.messages;
    rest = x.rest;
    made = x.made;
    given = record { replies = x.replies; calls = x.made; next = Stops };
    division = x.division;
    answered = x.answered;
    cut = x.cut;
    front = ([], sym (append-nil x.made));
    grown = x.grown;
  }

  -- what was served and waits is sent, and the sending is cut off
  pub cut_served : {s : T} {text rest : List ℕ} {next : Next T} {w v : Option (List ℕ)} {o p : List ℕ} {calls new_calls : List DeskCall}
      (u : Option (List ℕ))
      → IsServed rules s text rest next w v o p calls new_calls → GrowsByFront v u p → IsCutOff rules s text w u o calls new_calls
  cut_served {s = s} {text = text} {rest = rest} {next = next} {w = w} {o = o} u x g =
      let fed = x.fed [] in
      record {
        messages = fed.messages;
        rest = rest ++ [];
        made = x.called;
        given = record { replies = fed.replies; calls = x.called; next = next };
        division = subst (λ t. DividesInto (rules.awaits s) t fed.messages (rest ++ [])) (append-nil text) fed.division;
        answered = fed.answered;
        cut = subst (λ b. GrowsByFront w u (o ++ b)) fed.replied (cut_after u x.flows g);
        front = ([], sym (append-nil x.called));
        grown = x.grown;
      }

  pub serves_to : {s t : T} {text rest : List ℕ} {next : Next T} {w v : Option (List ℕ)} {o p : List ℕ} {k l : List DeskCall}
      → next ≡ Goes t → IsServed rules s text rest next w v o p k l → IsServed rules s text rest (Goes t) w v o p k l
  serves_to {s} {t} {text} {rest} {next} {w} {v} {o} {p} {k} {l} e x = subst (λ n. IsServed rules s text rest n w v o p k l) e x

  -- the same where other bytes waited before
  pub serves_from : {s : T} {text rest : List ℕ} {next : Next T} {w v : Option (List ℕ)} {o p q : List ℕ} {k l : List DeskCall}
      → o ≡ p → IsServed rules s text rest next w v o q k l → IsServed rules s text rest next w v p q k l
  serves_from {s} {text} {rest} {next} {w} {v} {o} {p} {q} {k} {l} e x = subst (λ n. IsServed rules s text rest next w v n q k l) e x

  pub cut_from : {s : T} {text : List ℕ} {w v : Option (List ℕ)} {o p : List ℕ} {k l : List DeskCall} → o ≡ p
      → IsCutOff rules s text w v o k l → IsCutOff rules s text w v p k l
  cut_from {s} {text} {w} {v} {o} {p} {k} {l} e x = subst (λ n. IsCutOff rules s text w v n k l) e x

  pub stop_from : {s : T} {text : List ℕ} {w v : Option (List ℕ)} {o p : List ℕ} {k l : List DeskCall} → o ≡ p
      → IsStopped rules s text w v o k l → IsStopped rules s text w v p k l
  stop_from {s} {text} {w} {v} {o} {p} {k} {l} e x = subst (λ n. IsStopped rules s text w v n k l) e x

module _ {T : Type 0} (rules : Rules T) (lawful : IsLawful rules.table rules.awaits) where
  -- what was served, and then more
  pub serves_then : {s t : T} {text mid rest : List ℕ} {next : Next T} {w v u : Option (List ℕ)} {o p q : List ℕ} {k l m : List DeskCall}
      → IsServed rules s text mid (Goes t) w v o p k l → IsServed rules t mid rest next v u p q l m
      → IsServed rules s text rest next w u o q k m
  serves_then {k = k} x y = record {
    bytes = x.bytes ++ y.bytes;
    called = x.called ++ y.called;
    fed = λ more. IsFed-then rules lawful (x.fed more) (y.fed more);
    flows = Flows-then x.flows y.flows;
    grown = y.grown ∙ ap (λ c. c ++ y.called) x.grown ∙ append_assoc k x.called y.called;
  }

  -- what was served, and then a text whose serving was cut off
  pub cut_then : {s t : T} {text mid : List ℕ} {w v u : Option (List ℕ)} {o p : List ℕ} {k l m : List DeskCall}
      → IsServed rules s text mid (Goes t) w v o p k l → IsCutOff rules t mid v u p l m → IsCutOff rules s text w u o k m
  cut_then {s = s} {t = t} {text = text} {mid = mid} {w = w} {v = v} {u = u} {o = o} {p = p} {k = k} x y =
      let fed = x.fed [] in
      let first : Answer T = record { replies = fed.replies; calls = x.called; next = Goes t } in
      let behind = replies_bytes y.given.replies in
      let followed = subst (λ l. DividesInto (rules.awaits t) l y.messages y.rest) (sym (append-nil mid)) y.division in
      record {
        messages = fed.messages ++ y.messages;
        rest = y.rest;
        made = x.called ++ y.made;
        given = joined first y.given;
        division = subst (λ l. DividesInto (rules.awaits s) l (fed.messages ++ y.messages) y.rest) (append-nil text)
            (divides-then rules lawful y.rest fed y.messages followed);
        answered = one_piece rules lawful fed.messages y.messages s t first y.made fed.answered refl ∙ ap (λ a. joined first a) y.answered;
        cut = subst (λ b. GrowsByFront w u b)
            (sym (append_assoc x.flows.sent p behind) ∙ ap (λ b. b ++ behind) x.flows.same ∙ append_assoc o x.bytes behind
            ∙ ap (λ b. o ++ (b ++ behind)) fed.replied ∙ ap (λ b. o ++ b) (sym (replies_bytes-append fed.replies y.given.replies)))
            (GrowsByFront-then w v u x.flows.sent (p ++ behind) x.flows.grown y.cut);
        front = (y.front.0, ap (λ l. x.called ++ l) y.front.1 ∙ sym (append_assoc x.called y.made y.front.0));
        grown = y.grown ∙ ap (λ c. c ++ y.made) x.grown ∙ append_assoc k x.called y.made;
      }

  -- what was served, and then a text whose serving stops
  pub stop_then : {s t : T} {text mid : List ℕ} {w v u : Option (List ℕ)} {o p : List ℕ} {k l m : List DeskCall}
      → IsServed rules s text mid (Goes t) w v o p k l → IsStopped rules t mid v u p l m → IsStopped rules s text w u o k m
  stop_then {s = s} {t = t} {text = text} {mid = mid} {w = w} {v = v} {u = u} {o = o} {p = p} {k = k} x y =
      let fed = x.fed [] in
      let first : Answer T = record { replies = fed.replies; calls = x.called; next = Goes t } in
      let behind = replies_bytes y.replies in
      let followed = subst (λ l. DividesInto (rules.awaits t) l y.messages y.rest) (sym (append-nil mid)) y.division in
      record {
        messages = fed.messages ++ y.messages;
        rest = y.rest;
        made = x.called ++ y.made;
        replies = fed.replies ++ y.replies;
        division = subst (λ l. DividesInto (rules.awaits s) l (fed.messages ++ y.messages) y.rest) (append-nil text)
            (divides-then rules lawful y.rest fed y.messages followed);
        answered = one_piece rules lawful fed.messages y.messages s t first y.made fed.answered refl ∙ ap (λ a. joined first a) y.answered;
        asks = λ yes. (
          (y.asks yes).0,
          ap (λ answers. (conversation rules.table (answers ++ yes ∷ []) s (fed.messages ++ y.messages)).calls)
              (answers_of-append x.called y.made)
              ∙ ap (λ answers. (conversation rules.table answers s (fed.messages ++ y.messages)).calls)
              (append_assoc (answers_of x.called) (answers_of y.made) (yes ∷ []))
              ∙ ap (λ a. a.calls) (one_piece_under rules lawful fed.messages y.messages s t first (answers_of y.made ++ yes ∷ [])
              fed.answered refl)
              ∙ ap (λ calls. x.called ++ calls) (y.asks yes).1
              ∙ sym (append_assoc x.called (y.made ++ desk.Ask yes ∷ []) (y.asks yes).0)
              ∙ ap (λ calls. calls ++ (y.asks yes).0) (sym (append_assoc x.called y.made (desk.Ask yes ∷ []))),
        );
        cut = subst (λ b. GrowsByFront w u b)
            (sym (append_assoc x.flows.sent p behind) ∙ ap (λ b. b ++ behind) x.flows.same ∙ append_assoc o x.bytes behind
            ∙ ap (λ b. o ++ (b ++ behind)) fed.replied ∙ ap (λ b. o ++ b) (sym (replies_bytes-append fed.replies y.replies)))
            (GrowsByFront-then w v u x.flows.sent (p ++ behind) x.flows.grown y.cut);
        grown = y.grown ∙ ap (λ c. c ++ y.made) x.grown ∙ append_assoc k x.called y.made;
      }

  -- More bytes keep the frames that are there.
  pub serves_more : {s : T} {text rest : List ℕ} {next : Next T} {w v : Option (List ℕ)} {o q : List ℕ} {k l : List DeskCall} (p : List ℕ)
      → IsServed rules s text rest next w v o q k l → IsServed rules s (text ++ p) (rest ++ p) next w v o q k l
  serves_more {s} {text} {rest} {next} p x = record {
    bytes = x.bytes;
    called = x.called;
    fed = λ more. subst (λ l. IsFed rules s l ((rest ++ p) ++ more) x.bytes x.called next) (sym (append_assoc text p more))
        (subst (λ l. IsFed rules s (text ++ (p ++ more)) l x.bytes x.called next) (sym (append_assoc rest p more)) (x.fed (p ++ more)));
    flows = x.flows;
    grown = x.grown;
  }
