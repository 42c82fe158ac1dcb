-- A conversation that was served piece by piece is a run over the bytes that were taken.
use Rattle.std.proofs.Common.{◌≡◌, ◌≢◌, ℕ, ⊎_elim, cond, ◌+◌, ◌≤◌, ◌<◌, ◌^◌, min, arith, Bool, List, [], ◌∷◌, ◌++◌, Option, Some, None, Result, Err, IfSome, take, drop, refl, sym, ap, subst, ◌∙◌, append-nil, append_assoc}
use Rattle.std.specs.Prelude.{◌==◌, if◌then◌else◌}
use Rattle.std.proofs.lemmas.List.{take-append-drop, length-take}
use Rattle.std.proofs.lemmas.Bool.Decides.{eqb_tells}
use Rattle.pg_messages.specs.Frames.{IsUnfinished}
use Rattle.pg_messages.specs.Replies.{replies_bytes}
use Rattle.pg_client.specs.declared.desk.DeskCall.{DeskCall}
use Rattle.pg_client.specs.declared.ends.EndKind.{EndKind}
use Rattle.pg_client.specs.declared.ends.EndKind.TheVariants as end
use Rattle.conversation_runs.specs.declared.ends.ServeError.{ServeError}
use Rattle.conversation_runs.specs.declared.ends.ServeError.TheVariants as fault
use Rattle.pg_client.specs.Answer.{BeginsWith, Next, Goes}
use Rattle.pg_client.specs.declared.desk.DeskCall.TheVariants as desk
use Rattle.pg_client.specs.declared.ends.Turns.{Turns}
use Rattle.conversation_table.specs.Questions.{questions, questions_since}
use Rattle.std.proofs.Math.Seq.{drop-append_seam}
use Rattle.conversation_runs.proofs.Pieces.{IsFed-none}
use Rattle.std.proofs.Common.{true, inl, inr, IsTrue, false, length, length-drop, ◌⊎◌}
use Rattle.conversation_runs.specs.Session.{HasFed}
use Rattle.conversation_runs.specs.declared.ends.Progress.{Progress}
use Rattle.conversation_runs.specs.Streams.{HasRisen}
use Rattle.conversation_table.specs.Lawful.{IsLawful}
use Rattle.conversation_runs.proofs.Feeding.{fed_then}
use Rattle.pg_client.proofs.Desks.{goes_on_none}
use Rattle.pg_engine.specs.Around.{Around, Serves}
use Rattle.pg_engine.specs.Conversing.{Talk, TakesPiece}
use Rattle.pg_engine.specs.Serving.{Counts, HasCause, end_turn}
use Rattle.conversation_runs.specs.Run.{Rules, IsRun, IsCutRun, IsFed, EndsWith}
use Rattle.conversation_runs.specs.Streams.{GrowsBy, GrowsByFront, GivesFront}
use Rattle.conversation_runs.specs.Steps as steps
use Rattle.pg_engine.specs.Serving.{TakesFrom, ReadsGaveBytes, IsServedRun, IsRunOfTaken, IsRunOverTaken, IsCutRunOfTaken, IsStoppedRun, IsStoppedRunOfTaken, GoesOnOver, EndsAtLast, WentSo}

-- what was served is a run over a text that begins with it
is_run : {T : Type 0} (rules : Rules T) (first : T) {taken rest : List ℕ} {next : Next T} {w v : Option (List ℕ)} {k l : List DeskCall}
    (x : steps.IsServed rules first taken rest next w v [] [] k l)
    (text more : List ℕ) (kind : EndKind) → text ≡ taken ++ more → EndsWith rules.awaits next (rest ++ more) kind
    → IsRun rules first text x.bytes x.called kind
is_run rules first {taken} {rest} {next} x text more kind e h = record {
  rest = rest ++ more;
  next = next;
  fed = subst (λ t. IsFed rules first t (rest ++ more) x.bytes x.called next) (sym e) (x.fed more);
  ended = h;
}

grows_to : (w v : Option (List ℕ)) (sent bytes : List ℕ) (P : List ℕ → Type 0) → GrowsBy w v sent → sent ≡ bytes → P bytes
    → (replies : List ℕ) × GrowsBy w v replies × P replies
grows_to w v sent bytes P g e p = (bytes, subst (λ b. GrowsBy w v b) e g, p)

all_sent : (sent bytes : List ℕ) → sent ++ [] ≡ [] ++ bytes → sent ≡ bytes
all_sent sent bytes e = sym (append-nil sent) ∙ e

-- the run over the taken bytes, where one more read is needed
pub run_of_taken : {T : Type 0} (rules : Rules T) (first : T) {s : T} {taken rest : List ℕ} {w v : Option (List ℕ)} {k l : List DeskCall}
    (left new_left : Option (List ℕ))
    → TakesFrom left new_left taken → (x : steps.IsServed rules first taken rest (Goes s) w v [] [] k l)
    → IsUnfinished (rules.awaits s) rest → IsRunOfTaken rules first left new_left w v x.called
run_of_taken rules first {s} {taken} {rest} {w} {v} left new_left t x short = (
  taken,
  t,
  grows_to w v x.flows.sent x.bytes (λ replies. IsRun rules first taken replies x.called end.InputEnd) x.flows.grown
      (all_sent x.flows.sent x.bytes x.flows.same)
      (is_run rules first x taken [] end.InputEnd (sym (append-nil taken))
      (subst (λ r. IsUnfinished (rules.awaits s) r) (sym (append-nil rest)) short)),
)

-- the run over all bytes, where the conversation has ended whatever follows
pub served_run : {T : Type 0} (rules : Rules T) (first : T) {taken rest : List ℕ} {next : Next T} {w v : Option (List ℕ)}
    {k l : List DeskCall} (left new_left : Option (List ℕ)) (kind : EndKind)
    → TakesFrom left new_left taken → (x : steps.IsServed rules first taken rest next w v [] [] k l)
    → ((more : List ℕ) → EndsWith rules.awaits next (rest ++ more) kind) → IsServedRun rules first left w v x.called kind
served_run rules first {taken} {w = w} {v = v} None new_left kind t x h = (
  taken,
  tt,
  grows_to w v x.flows.sent x.bytes (λ replies. IsRun rules first taken replies x.called kind) x.flows.grown
      (all_sent x.flows.sent x.bytes x.flows.same)
      (is_run rules first x taken [] kind (sym (append-nil taken)) (h [])),
)
served_run rules first {w = w} {v = v} (Some text) new_left kind t x h = (
  text,
  refl,
  grows_to w v x.flows.sent x.bytes (λ replies. IsRun rules first text replies x.called kind) x.flows.grown
      (all_sent x.flows.sent x.bytes x.flows.same)
      (is_run rules first x text t.0 kind t.1 (h t.0)),
)

-- the same where the end of the input was read
pub ended_run : {T : Type 0} (rules : Rules T) (first : T) {s : T} {taken rest : List ℕ} {w v : Option (List ℕ)} {k l : List DeskCall}
    (left mid new_left : Option (List ℕ)) (n : ℕ) (into : List ℕ)
    → TakesFrom left mid taken → IfSome mid (λ bytes. GivesFront n into bytes new_left) → n ≡ 0
    → (x : steps.IsServed rules first taken rest (Goes s) w v [] [] k l) → IsUnfinished (rules.awaits s) rest
    → IsServedRun rules first left w v x.called end.InputEnd
ended_run rules first {s} {taken} {rest} {w} {v} None mid new_left n into t g z x short = (
  taken,
  tt,
  grows_to w v x.flows.sent x.bytes (λ replies. IsRun rules first taken replies x.called end.InputEnd) x.flows.grown
      (all_sent x.flows.sent x.bytes x.flows.same)
      (is_run rules first x taken [] end.InputEnd (sym (append-nil taken))
      (subst (λ r. IsUnfinished (rules.awaits s) r) (sym (append-nil rest)) short)),
)
ended_run rules first {s} {taken} {rest} {w} {v} (Some text) mid new_left n into t g z x short =
    let given : GivesFront n into t.0 new_left = subst (λ o. IfSome o (λ bytes. GivesFront n into bytes new_left)) t.2 g in
    let all : text ≡ taken ++ [] = t.1 ∙ ap (λ l. taken ++ l) (given.at_end z) in (
      text,
      refl,
      grows_to w v x.flows.sent x.bytes (λ replies. IsRun rules first text replies x.called end.InputEnd) x.flows.grown
          (all_sent x.flows.sent x.bytes x.flows.same)
          (is_run rules first x text [] end.InputEnd all (subst (λ r. IsUnfinished (rules.awaits s) r) (sym (append-nil rest)) short)),
    )

-- the run over the taken bytes by themselves, where the conversation has ended whatever follows
pub run_over_taken : {T : Type 0} (rules : Rules T) (first : T) {taken rest : List ℕ} {next : Next T} {w v : Option (List ℕ)}
    {k l : List DeskCall} (left new_left : Option (List ℕ)) (kind : EndKind)
    → TakesFrom left new_left taken → steps.IsServed rules first taken rest next w v [] [] k l
    → EndsWith rules.awaits next (rest ++ []) kind → IsRunOverTaken rules first left new_left w v k l kind
run_over_taken rules first {taken} {w = w} {v = v} left new_left kind t x h = (
  taken,
  t,
  (
    x.called,
    x.grown,
    grows_to w v x.flows.sent x.bytes (λ replies. IsRun rules first taken replies x.called kind) x.flows.grown
        (all_sent x.flows.sent x.bytes x.flows.same)
        (is_run rules first x taken [] kind (sym (append-nil taken)) h),
  ),
)

-- no byte was given
takes_as_before : (left mid new_left : Option (List ℕ)) (taken : List ℕ) (n : ℕ) (into : List ℕ) → TakesFrom left mid taken
    → IfSome mid (λ bytes. GivesFront n into bytes new_left) → n ≡ 0 → TakesFrom left new_left taken
takes_as_before None mid new_left taken n into t g z = tt
takes_as_before (Some text) mid new_left taken n into t g z =
    let given : GivesFront n into t.0 new_left = subst (λ o. IfSome o (λ bytes. GivesFront n into bytes new_left)) t.2 g in
    (t.0, t.1, given.rest ∙ ap (λ m. Some (drop m t.0)) z)

-- the same where the end of the input was read
pub run_over_input : {T : Type 0} (rules : Rules T) (first : T) {s : T} {taken rest : List ℕ} {w v : Option (List ℕ)} {k l : List DeskCall}
    (left mid new_left : Option (List ℕ)) (n : ℕ) (into : List ℕ)
    → TakesFrom left mid taken → IfSome mid (λ bytes. GivesFront n into bytes new_left) → n ≡ 0
    → steps.IsServed rules first taken rest (Goes s) w v [] [] k l → IsUnfinished (rules.awaits s) rest
    → IsRunOverTaken rules first left new_left w v k l end.InputEnd
run_over_input rules first {s} {taken} {rest} left mid new_left n into t g z x short =
    run_over_taken rules first left new_left end.InputEnd (takes_as_before left mid new_left taken n into t g z) x
    (subst (λ r. IsUnfinished (rules.awaits s) r) (sym (append-nil rest)) short)

-- one more piece was taken
pub takes_more : (left mid new_left : Option (List ℕ)) (taken : List ℕ) (n : ℕ) (into : List ℕ) → TakesFrom left mid taken
    → IfSome mid (λ bytes. GivesFront n into bytes new_left)
    → TakesFrom left new_left (taken ++ take n into)
takes_more None mid new_left taken n into t g = tt
takes_more (Some text) mid new_left taken n into t g =
    let given : GivesFront n into t.0 new_left = subst (λ o. IfSome o (λ bytes. GivesFront n into bytes new_left)) t.2 g in (
      drop n t.0,
      t.1 ∙ ap (λ l. taken ++ l) (sym (take-append-drop n t.0)) ∙ sym (append_assoc taken (take n t.0) (drop n t.0))
          ∙ ap (λ l. (taken ++ l) ++ drop n t.0) (sym given.given),
      given.rest,
    )

-- the run over what was taken goes on
goes_on_over : {T : Type 0} (rules : Rules T) (first : T) {s : T} {taken rest : List ℕ} {w v : Option (List ℕ)} {k l : List DeskCall}
    → steps.IsServed rules first taken rest (Goes s) w v [] [] k l → IsUnfinished (rules.awaits s) rest → GoesOnOver rules first taken
goes_on_over rules first {s} {taken} {rest} x short = (
  x.bytes,
  x.called,
  is_run rules first x taken [] end.InputEnd (sym (append-nil taken))
      (subst (λ r. IsUnfinished (rules.awaits s) r) (sym (append-nil rest)) short),
)

-- the input ended behind what was taken
pub ends_with_input : {T : Type 0} (rules : Rules T) (first : T) {s : T} {taken rest : List ℕ} {w v : Option (List ℕ)} {k l : List DeskCall}
    (left mid new_left : Option (List ℕ)) (n : ℕ) (into : List ℕ)
    → TakesFrom left mid taken → IfSome mid (λ bytes. GivesFront n into bytes new_left) → n ≡ 0
    → steps.IsServed rules first taken rest (Goes s) w v [] [] k l → IsUnfinished (rules.awaits s) rest
    → EndsAtLast rules first left new_left end.InputEnd
ends_with_input rules first {taken = taken} left mid new_left n into t g z x short =
    (taken, take n into, takes_more left mid new_left taken n into t g, goes_on_over rules first x short, λ other. absurd (other refl))

piece_is_some : (n : ℕ) (into bytes : List ℕ) (new_left : Option (List ℕ)) → GivesFront n into bytes new_left → n ≢ 0 → take n into ≢ []
piece_is_some n into bytes new_left given ne none =
    let few = length-take n bytes in let within = given.within in
    let empty : length (take n bytes) ≡ 0 = ap length (sym given.given ∙ none) in
    ne (omega (arith, few, within, empty))

last_is_some : (left mid new_left : Option (List ℕ)) (taken : List ℕ) (n : ℕ) (into : List ℕ) → TakesFrom left mid taken
    → IfSome mid (λ bytes. GivesFront n into bytes new_left) → n ≢ 0 → IfSome left (λ text. take n into ≢ [])
last_is_some None mid new_left taken n into t g ne = tt
last_is_some (Some text) mid new_left taken n into t g ne =
    piece_is_some n into t.0 new_left (subst (λ o. IfSome o (λ bytes. GivesFront n into bytes new_left)) t.2 g) ne

-- the conversation ended with the piece that was taken last
pub ends_at_last : {T : Type 0} (rules : Rules T) (first : T) {s : T} {taken rest : List ℕ} {w v : Option (List ℕ)} {k l : List DeskCall}
    (left mid new_left : Option (List ℕ)) (n : ℕ) (into : List ℕ)
    → TakesFrom left mid taken → IfSome mid (λ bytes. GivesFront n into bytes new_left) → n ≢ 0
    → steps.IsServed rules first taken rest (Goes s) w v [] [] k l → IsUnfinished (rules.awaits s) rest → (kind : EndKind)
    → EndsAtLast rules first left new_left kind
ends_at_last rules first {taken = taken} left mid new_left n into t g ne x short kind = (
  taken,
  take n into,
  takes_more left mid new_left taken n into t g,
  goes_on_over rules first x short,
  λ other. last_is_some left mid new_left taken n into t g ne,
)

cut_grows : (w v : Option (List ℕ)) (bytes : List ℕ) (P : List ℕ → Type 0) → GrowsByFront w v bytes
    → ((front : List ℕ) → BeginsWith bytes front → P front) → (front : List ℕ) × GrowsBy w v front × P front
cut_grows None v bytes P g p = ([], tt, p [] (bytes, refl))
cut_grows (Some x) v bytes P g p = (g.0, g.2, p g.0 g.1)

-- a front of the run over the taken bytes
pub cut_run_of_taken : {T : Type 0} (rules : Rules T) (first : T) {taken : List ℕ} {w v : Option (List ℕ)} {k l : List DeskCall}
    (left new_left : Option (List ℕ)) → TakesFrom left new_left taken
    → (x : steps.IsCutOff rules first taken w v [] k l) → IsCutRunOfTaken rules first left new_left w v x.made
cut_run_of_taken rules first {taken} {w} {v} left new_left t x = (
  taken,
  t,
  cut_grows w v (replies_bytes x.given.replies) (λ front. IsCutRun rules first taken front x.made) x.cut (λ front begins. record {
    messages = x.messages;
    rest = x.rest;
    given = x.given;
    division = x.division;
    answered = sym x.answered;
    replied = begins;
    called = x.front;
  }),
)

-- a run over the taken bytes that stops at a question
pub stopped_run_of_taken : {T : Type 0} (rules : Rules T) (first : T) {taken : List ℕ} {w v : Option (List ℕ)} {k l : List DeskCall}
    (left new_left : Option (List ℕ)) → TakesFrom left new_left taken
    → (x : steps.IsStopped rules first taken w v [] k l) → IsStoppedRunOfTaken rules first left new_left w v x.made
stopped_run_of_taken rules first {taken} {w} {v} left new_left t x = (
  taken,
  t,
  cut_grows w v (replies_bytes x.replies) (λ front. IsStoppedRun rules first taken front x.made) x.cut (λ front begins. record {
    messages = x.messages;
    rest = x.rest;
    replies = x.replies;
    division = x.division;
    answered = x.answered;
    asks = x.asks;
    replied = begins;
  }),
)

-- nothing was taken yet
pub takes_none : (left : Option (List ℕ)) → TakesFrom left left []
takes_none None = tt
takes_none (Some text) = (text, refl, refl)

grows_none : (w : Option (List ℕ)) → GrowsBy w w []
grows_none None = tt
grows_none (Some x) = ap Some (sym (append-nil x))

-- nothing was served yet
pub served_none : {T : Type 0} (rules : Rules T) (s : T) (rest : List ℕ) (w : Option (List ℕ)) (k : List DeskCall) → rest ≡ []
    → steps.IsServed rules s [] rest (Goes s) w w [] [] k k
served_none rules s rest w k e = subst (λ r. steps.IsServed rules s [] r (Goes s) w w [] [] k k) (sym e) (record {
  bytes = [];
  called = [];
  fed = λ more. IsFed-none rules s more;
  flows = record { sent = []; grown = grows_none w; same = refl };
  grown = sym (append-nil k);
})

short_of_none : (awaiting : Bool) → IsUnfinished awaiting []
short_of_none true = inl (omega arith)
short_of_none false = inl (omega arith)

pub short_none : (awaiting : Bool) (rest : List ℕ) → rest ≡ [] → IsUnfinished awaiting rest
short_none awaiting rest e = subst (λ r. IsUnfinished awaiting r) (sym e) (short_of_none awaiting)

-- memory ran out before anything was taken
pub cut_at_start : {T : Type 0} (rules : Rules T) (first : T) (left w : Option (List ℕ)) → IsCutRunOfTaken rules first left left w w []
cut_at_start rules first left w = ([], takes_none left, at w)
  where
    empty : IsCutRun rules first [] [] []
    empty = record {
      messages = [];
      rest = [];
      given = record { replies = []; calls = []; next = Goes first };
      division = refl;
      answered = refl;
      replied = ([], refl);
      called = ([], refl);
    }

    at : (o : Option (List ℕ)) → (front : List ℕ) × GrowsBy o o front × IsCutRun rules first [] front []
    at None = ([], tt, empty)
    at (Some x) = (
      [],
      ap Some (sym (append-nil x)),
      empty,
    )

pub none_went : {T : Type 0} (rules : Rules T) (first : T) (left w : Option (List ℕ)) (error : ServeError) → error ≡ fault.NoMemory
    → WentSo rules first (Err error) left left w w []
none_went rules first left w error e = subst (λ x. WentSo rules first (Err x) left left w w []) (sym e) (cut_at_start rules first left w)

-- What was served of the bytes taken, and then took a piece, took the bytes and the piece as one.
pub conversed : {T : Type 0} (first now new : Talk T) → IsLawful first.rules.table first.rules.awaits → now.rules ≡ first.rules
    → now.unsent ≡ []
    → (taken piece : List ℕ) (v : Option (List ℕ)) (l : List DeskCall) (result : Result Progress ServeError)
    → {a w : Option (List ℕ)} {j k : List DeskCall}
    → steps.IsServed first.rules first.state taken now.rest (Goes now.state) a w [] [] j k → (t : TakesPiece now new piece w v k l result)
    → steps.WasFed first.rules first.state (taken ++ piece) new.state t.0 a v [] j l result
conversed first now new lawful same sent taken piece v l result {a} {w} {j} {k} x t =
    fed_then first.rules lawful first.state now.state new.state taken now.rest piece t.0 a w v [] [] j k l result x
    (subst (λ o. steps.WasFed first.rules now.state (now.rest ++ piece) new.state t.0 w v o k l result) sent
    (subst (λ r. steps.WasFed r now.state (now.rest ++ piece) new.state t.0 w v now.unsent k l result) same t.1))

pub goes_to : {T : Type 0} (rules : Rules T) (first : T) {s t : T} {text rest : List ℕ} {next : Next T} {w v : Option (List ℕ)}
    {o q : List ℕ} {k l : List DeskCall} → next ≡ Goes t
    → steps.IsServed rules s text rest next w v o q k l → steps.IsServed rules s text rest (Goes t) w v o q k l
goes_to rules first {s} {t} {text} {rest} {next} {w} {v} {o} {q} {k} {l} e x =
    subst (λ n. steps.IsServed rules s text rest n w v o q k l) e x

-- a read that gave a byte counts
pub counted_more : (n r new_r first asked spent limit : ℕ) → new_r ≡ (if n == 0 then r else min (r + 1) 18446744073709551615) → n ≢ 0
    → r + asked ≡ first + spent → spent < limit → first + limit < 2 ^ 64
    → new_r + asked ≡ first + (spent + 1)
counted_more n r new_r first asked spent limit e p q h f =
    ⊎_elim (λ t. absurd (p t.1)) (λ t. let m : new_r ≡ min (r + 1) 18446744073709551615 = e
    ∙ ap (λ b. cond b r (min (r + 1) 18446744073709551615)) t.0 in omega arith) (eqb_tells n 0)

-- no read was counted yet
pub gave_none : (left : Option (List ℕ)) (reads : ℕ) → ReadsGaveBytes left left reads reads
gave_none None reads = tt
gave_none (Some text) reads = (text, refl, omega arith)

-- a read that gives bytes counts once, and one that gives none doesn't
counted_within : (n r new_r : ℕ) → new_r ≡ (if n == 0 then r else min (r + 1) 18446744073709551615) → new_r ≤ r + n
counted_within n r new_r e =
    ⊎_elim (λ t. let m : new_r ≡ r = e ∙ ap (λ b. cond b r (min (r + 1) 18446744073709551615)) t.0 in omega arith)
    (λ t. let m : new_r ≡ min (r + 1) 18446744073709551615 = e
    ∙ ap (λ b. cond b r (min (r + 1) 18446744073709551615)) t.0 in let p = t.1 in omega arith) (eqb_tells n 0)

-- one more read gave bytes, or the end
pub gave_more : (left mid new_left : Option (List ℕ)) (first r new_r n : ℕ) (into : List ℕ) → ReadsGaveBytes left mid first r
    → IfSome mid (λ bytes. GivesFront n into bytes new_left)
    → new_r ≡ (if n == 0 then r else min (r + 1) 18446744073709551615) → ReadsGaveBytes left new_left first new_r
gave_more None mid new_left first r new_r n into t g e = tt
gave_more (Some text) mid new_left first r new_r n into t g e =
    let given : GivesFront n into t.0 new_left = subst (λ o. IfSome o (λ bytes. GivesFront n into bytes new_left)) t.1 g in
    let counted = counted_within n r new_r e in
    let within = given.within in
    let before = t.2 in
    let shorter = length-drop n t.0 in (drop n t.0, given.rest, omega (arith, counted, within, before, shorter))

-- one more read failed
pub gave_unread : (left mid new_left : Option (List ℕ)) (first r new_r : ℕ) → ReadsGaveBytes left mid first r → new_left ≡ mid → new_r ≡ r
    → ReadsGaveBytes left new_left first new_r
gave_unread left mid new_left first r new_r t p q = rw (p, q) t

-- questions of an append
questions_append : (a b : List DeskCall) → questions (a ++ b) ≡ questions a + questions b
questions_append [] b = omega arith
questions_append (desk.Start ∷ a) b = questions_append a b
questions_append (desk.Ask told ∷ a) b = let p = questions_append a b in omega (arith, p)
questions_append (desk.Cancel pid key told ∷ a) b = questions_append a b
questions_append (desk.Narrow ∷ a) b = questions_append a b

since : (a b x : List DeskCall) → b ≡ a ++ x → questions_since a b ≡ questions x
since a b x e = ap (λ l. questions (drop (length a) l)) e ∙ ap questions (drop-append_seam a x)

-- the questions of two pieces
pub questions_over : (a b c x y : List DeskCall) → b ≡ a ++ x → c ≡ b ++ y → questions_since a c ≡ questions_since a b + questions_since b c
questions_over a b c x y e f =
    let whole : questions_since a c ≡ questions (x ++ y) = since a c (x ++ y) (f ∙ ap (λ l. l ++ y) e ∙ append_assoc a x y) in
    let one = since a b x e in
    let two = since b c y f in
    let both = questions_append x y in omega (arith, whole, one, two, both)

-- no question was asked yet
pub none_asked : (a : List DeskCall) → questions_since a a ≡ 0
none_asked a = since a a [] (sym (append-nil a))

-- ---- what an error tells

pub went_by_error : {T : Type 0} (rules : Rules T) (first : T) (error : ServeError) (left new_left w v : Option (List ℕ))
    (calls : List DeskCall) → (error ≢ fault.ReadFault)
    → IsCutRunOfTaken rules first left new_left w v calls
    → (error ≡ fault.TurnLimit → IsStoppedRunOfTaken rules first left new_left w v calls)
    → WentSo rules first (Err error) left new_left w v calls
went_by_error rules first fault.ReadFault left new_left w v calls p x stopped = absurd (p refl)
went_by_error rules first fault.WriteFault left new_left w v calls p x stopped = x
went_by_error rules first fault.TurnLimit left new_left w v calls p x stopped = inr (stopped refl)
went_by_error rules first fault.NoMemory left new_left w v calls p x stopped = x

pub caused_by : (error : ServeError) (limit asked : ℕ) (old new : Counts) → (error ≢ fault.ReadFault)
    → (error ≡ fault.WriteFault → HasRisen old.write_faults new.write_faults)
    → (error ≡ fault.TurnLimit → old.reads + limit < 2 ^ 64 → new.reads + asked ≡ old.reads + limit)
    → HasCause (Err error) limit asked old new
caused_by fault.ReadFault limit asked old new p w t = absurd (p refl)
caused_by fault.WriteFault limit asked old new p w t = w refl
caused_by fault.TurnLimit limit asked old new p w t = t refl
caused_by fault.NoMemory limit asked old new p w t = tt

-- a count that rose after it didn't fall has risen
pub risen_since : (old mid new : ℕ) → old ≤ mid → mid ≤ new → HasRisen mid new → HasRisen old new
risen_since old mid new p q (inl r) = inl (let below : old < new = omega arith in below)
risen_since old mid new p q (inr r) = by_case (eqb_tells old mid)
  where
    by_case : (IsTrue (old == mid) × (old ≡ mid)) ⊎ (((old == mid) ≡ false) × (old ≢ mid)) → HasRisen old new
    by_case (inl same) = inr (same.1 ∙ r)
    by_case (inr differs) = inl (let d = differs.1 in let below : old < new = omega arith in below)

-- spent turns after a piece that ran out of them
pub all_spent : (before after : Turns) (asked : ℕ) → HasFed {A = Progress} before after asked (Err fault.TurnLimit)
    → (before.spent ≤ before.limit → after.spent ≤ after.limit) → before.spent ≤ before.limit
    → before.spent + asked ≡ before.limit
all_spent before after asked fed bounded within =
    let spent : after.spent ≡ before.spent + asked = ap (λ t. t.spent) fed.0 in
    let limit : after.limit ≡ before.limit = ap (λ t. t.limit) fed.0 in
    let low = fed.1 in let high = bounded within in omega (arith, spent, limit, low, high)

-- an end that a session tells takes no turn of its own
pub no_end_turn : (kind : EndKind) → kind ≢ end.InputEnd → end_turn kind ≡ 0
no_end_turn end.InputEnd p = absurd (p refl)
no_end_turn _ p = refl

-- ---- nothing was served

-- memory ran out before anything was taken, and everything stands as it stood
pub none_served : {T : Type 0} (rules : Rules T) (first : T) (turns : ℕ) (round : Around)
    → Serves rules first turns (Err fault.NoMemory) round round
none_served rules first turns round = record {
  went = ([], sym (append-nil round.desk.calls), none_went rules first round.left round.written fault.NoMemory refl);
  cause = tt;
  last = tt;
  taken = tt;
  calm = tt;
  never_falls = record { read_faults = stays round.counts.read_faults; write_faults = stays round.counts.write_faults };
  reads = gave_none round.left round.counts.reads;
  registration = goes_on_none round.desk;
  source = refl;
  sink = refl;
}
  where
    stays : (n : ℕ) → n ≤ n
    stays n = omega arith
