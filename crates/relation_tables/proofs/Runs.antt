-- Two tables that agree on each message agree on a conversation.
use Rattle.std.proofs.Common.{Bool, List, [], ◌∷◌, ◌++◌, ◌≡◌, refl}
use Rattle.std.proofs.Math.Path.{ap₂}
use Rattle.std.specs.List.{AllByRecursion}
use Rattle.pg_messages.specs.declared.frontend.PgWireFrontendMessage.{PgWireFrontendMessage}
use Rattle.pg_client.specs.Answer.{Answer, Table, Next, Goes, Ends, Stops, conversation, continued, left_by}

-- both go on in states that agree, or end alike, or both stop
abbrev pub AgreeNext : {T U : Type 0} → (T → U → Type 0) → Next T → Next U → Type 0
AgreeNext R (Goes s) (Goes c) = R s c
AgreeNext R (Ends kind) (Ends other) = kind ≡ other
AgreeNext R Stops Stops = Unit {0}
AgreeNext R _ _ = ⊥

pub record Agree {T U : Type 0} (R : T → U → Type 0) (a : Answer T) (b : Answer U) : Type 0 where
  pub replies : a.replies ≡ b.replies
  pub calls : a.calls ≡ b.calls
  pub next : AgreeNext R a.next b.next

-- Messages of some kind are answered alike in states that agree.
abbrev pub TablesAgree : {T U : Type 0} → (PgWireFrontendMessage → Type 0) → (T → U → Type 0) → Table T → Table U → Type 0
TablesAgree {T} {U} P R table other =
    (answers : List Bool) (s : T) (c : U) (m : PgWireFrontendMessage) → P m → R s c → Agree R (table answers s m) (other answers c m)

pub continued_agree : {T U : Type 0} (R : T → U → Type 0) (a : Answer T) (b : Answer U) (x : Next T) (y : Next U) (f : T → Answer T)
    → (g : U → Answer U) → a.replies ≡ b.replies → a.calls ≡ b.calls → AgreeNext R a.next b.next → AgreeNext R x y
    → ((s : T) (c : U) → R s c → Agree R (f s) (g c)) → Agree R (continued a x f) (continued b y g)
continued_agree R a b (Goes s) (Goes c) f g r k n h others =
    let o = others s c h in
    record { replies = ap₂ (λ x y. x ++ y) r o.replies; calls = ap₂ (λ x y. x ++ y) k o.calls; next = o.next }
continued_agree R a b (Ends kind) (Ends other) f g r k n h others = record { replies = r; calls = k; next = n }
continued_agree R a b Stops Stops f g r k n h others = record { replies = r; calls = k; next = n }
continued_agree R a b (Goes s) (Ends other) f g r k n h others = absurd h
continued_agree R a b (Goes s) Stops f g r k n h others = absurd h
continued_agree R a b (Ends kind) (Goes c) f g r k n h others = absurd h
continued_agree R a b (Ends kind) Stops f g r k n h others = absurd h
continued_agree R a b Stops (Goes c) f g r k n h others = absurd h
continued_agree R a b Stops (Ends other) f g r k n h others = absurd h

pub runs_agree : {T U : Type 0} (P : PgWireFrontendMessage → Type 0) (R : T → U → Type 0) (table : Table T) (other : Table U)
    → TablesAgree P R table other → (answers : List Bool) (s : T) (c : U) (messages : List PgWireFrontendMessage)
    → AllByRecursion P messages → R s c
    → Agree R (conversation table answers s messages) (conversation other answers c messages)
runs_agree P R table other same answers s c [] each h = record { replies = refl; calls = refl; next = h }
runs_agree P R table other same answers s c (m ∷ messages) each h =
    let a = table answers s m in
    let b = other answers c m in
    let first = same answers s c m each.0 h in
    continued_agree R a b a.next b.next (λ t. conversation table (left_by a.calls answers) t messages)
    (λ t. conversation other (left_by b.calls answers) t messages) first.replies first.calls first.next first.next
    (λ t u r. rw first.calls (runs_agree P R table other same (left_by b.calls answers) t u messages each.1 r))
