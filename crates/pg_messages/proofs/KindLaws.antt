-- A body carries a message where reading by the kind gives it.
use Rattle.std.proofs.Common.{◌≡◌, ◌≢◌, ℕ, ◌^◌, ◌<◌, Bool, true, false, eqb, List, [], ◌∷◌, length, Option, Some, None, refl, sym, ap, subst, ◌∙◌, arith, inl, inr, ◌⊎◌, Contains}
use Rattle.std.specs.List.{AllByRecursion}
use Rattle.std.proofs.lemmas.Bool.{eqb-true, eqb-false}
use Rattle.std.proofs.lemmas.List.{nil_from_length}
use Rattle.std.proofs.lemmas.Option.{same_Some, none-some}
use Rattle.pg_messages.specs.declared.startup.SslNegotiationKind.TheVariants.{PostgresSsl, PostgresGss}
use Rattle.pg_messages.specs.declared.frontend.PgWireFrontendMessage.{PgWireFrontendMessage}
use Rattle.pg_messages.specs.declared.frontend.PgWireFrontendMessage.TheVariants as client
use Rattle.pg_messages.specs.Frames.{Carries, type_bytes, IsParameter, query_body, IsQuery, parse_body, IsParse, bind_body, IsBind, describe_body, IsDescribe, execute_body, IsExecute, close_body, IsClose, copy_fail_body, IsCopyFail, protocol_3_0, protocol_3_2}
use Rattle.pg_messages.specs.Reading.{whole, told_as, bare, beside, startup_packet, startup_readings, typed_readings, message_at, all_parameters_at, cancel_of, query_at, parse_at, bind_at, describe_at, execute_at, close_at, copy_fail_at}
use Rattle.pg_messages.proofs.Laws.{IsBytes, Reads, bind_some, whole_takes, whole_again}
use Rattle.pg_messages.proofs.FieldLaws.{chosen, eqb-apart, parameters_bytes, Reads-parameters}
use Rattle.pg_messages.proofs.MessageLaws.{cancel_takes, cancel_again, Reads-query, Reads-parse, Reads-bind, Reads-describe, Reads-execute, Reads-close, Reads-copy_fail}

-- ---- what is carried is read

told_again : {X : Type 0} (G : X → Type 0) (s : X → List ℕ) (r : List ℕ → Option (X × List ℕ)) → Reads G s r
    → (message : X → PgWireFrontendMessage) (body : List ℕ) (x : X)
    → body ≡ s x → G x → told_as message (whole (r body)) ≡ Some (message x)
told_again G s r base message body x e good = ap (λ (b : List ℕ). told_as message (whole (r b))) e
    ∙ ap (told_as message) (whole_again G s r base x good)

startup_read : (code : ℕ) (body : List ℕ) (m : PgWireFrontendMessage) → Carries true code body m → message_at true code body ≡ Some m
unfolding message_at
startup_read code body (client.Startup m) h =
    elim h.1 [
      | inl s ↦
          let read : (k : ℕ) → told_as (startup_packet k) (whole (all_parameters_at body)) ≡ Some (startup_packet k m.parameters) =
          λ k. told_again (λ ps. AllByRecursion IsParameter ps) parameters_bytes all_parameters_at Reads-parameters (startup_packet k) body
          m.parameters s.layout s.parameters in
          let at : (k : ℕ) → k ≡ m.code → message_at true k body ≡ Some (startup_packet k m.parameters)
          → message_at true code body ≡ Some (client.Startup m) =
          λ k e p. ap (λ (n : ℕ). message_at true n body) (h.0 ∙ sym e) ∙ p ∙ ap (λ (n : ℕ). Some (startup_packet n m.parameters)) e in
          elim s.code [ inl e ↦ at protocol_3_0 (sym e) (read protocol_3_0) | inr e ↦ at protocol_3_2 (sym e) (read protocol_3_2) ]
      | inr u ↦
          let other : (k : ℕ) → m.code ≢ k → eqb code k ≡ false = λ k apart. eqb-apart code k (λ e. apart (sym h.0 ∙ e)) in
          rw (
            other protocol_3_0 u.unknown.0,
            other protocol_3_2 u.unknown.1.0,
            other 80877102 u.unknown.1.1.0,
            other 80877103 u.unknown.1.1.1.0,
            other 80877104 u.unknown.1.1.1.1.0,
          )
          (λ i. Some (client.Startup (record { code = h.0 i; parameters = sym u.parameters i })))
    ]
startup_read code body (client.SslNegotiation PostgresSsl) h = rw (h.0, h.1) refl
startup_read code body (client.SslNegotiation PostgresGss) h = rw (h.0, h.1) refl
startup_read code body (client.CancelRequest m) h =
    rw h.0 (ap (λ (b : List ℕ). told_as client.CancelRequest (cancel_of b)) h.1 ∙ ap (told_as client.CancelRequest) (cancel_again m h.2))
startup_read code body _ h = absurd h

typed_read : (kind : ℕ) (body : List ℕ) (m : PgWireFrontendMessage) → Carries false kind body m → message_at false kind body ≡ Some m
unfolding message_at
typed_read kind body (client.Startup m) h = absurd h
typed_read kind body (client.SslNegotiation m) h = absurd h
typed_read kind body (client.CancelRequest m) h = absurd h
typed_read kind body (client.Query m) h = rw h.0 (told_again IsQuery query_body query_at Reads-query client.Query body m h.1 h.2)
typed_read kind body (client.Parse m) h = rw h.0 (told_again IsParse parse_body parse_at Reads-parse client.Parse body m h.1 h.2)
typed_read kind body (client.Bind m) h = rw h.0 (told_again IsBind bind_body bind_at Reads-bind client.Bind body m h.1 h.2)
typed_read kind body (client.Describe m) h = rw h.0
    (told_again IsDescribe describe_body describe_at Reads-describe client.Describe body m h.1 h.2)
typed_read kind body (client.Execute m) h = rw h.0
    (told_again IsExecute execute_body execute_at Reads-execute client.Execute body m h.1 h.2)
typed_read kind body (client.Close m) h = rw h.0 (told_again IsClose close_body close_at Reads-close client.Close body m h.1 h.2)
typed_read kind body (client.CopyFail m) h = rw h.0
    (told_again IsCopyFail copy_fail_body copy_fail_at Reads-copy_fail client.CopyFail body m h.1 h.2)
typed_read kind body (client.CopyData m) h = rw (h.0, h.1) refl
typed_read kind body (client.Flush m) h = rw (h.0, h.1) refl
typed_read kind body (client.PgSync m) h = rw (h.0, h.1) refl
typed_read kind body (client.Terminate m) h = rw (h.0, h.1) refl
typed_read kind body (client.CopyDone m) h = rw (h.0, h.1) refl

pub carried_is_read : (awaiting : Bool) (kind : ℕ) (body : List ℕ) (m : PgWireFrontendMessage) → Carries awaiting kind body m
    → message_at awaiting kind body ≡ Some m
carried_is_read true = startup_read
carried_is_read false = typed_read

pub one_message : (awaiting : Bool) (kind : ℕ) (body : List ℕ) (m n : PgWireFrontendMessage) → Carries awaiting kind body m
    → Carries awaiting kind body n → m ≡ n
one_message awaiting kind body m n h j = same_Some m n (sym (carried_is_read awaiting kind body m h)
    ∙ carried_is_read awaiting kind body n j)

pub nothing_carried : (awaiting : Bool) (kind : ℕ) (body : List ℕ) → message_at awaiting kind body ≡ None → (m : PgWireFrontendMessage)
    → Carries awaiting kind body m → ⊥
nothing_carried awaiting kind body none m h = none-some m (sym none ∙ carried_is_read awaiting kind body m h)

-- ---- what is read is carried

-- an entry that is found by its key, or none of the keys
found_beside : {X : Type 0} (P : ℕ → X → Type 0) (key : ℕ) (otherwise : Option X) (entries : List (ℕ × Option X)) (x : X)
    → beside key otherwise entries ≡ Some x
    → AllByRecursion (λ (entry : ℕ × Option X). (y : X) → entry.1 ≡ Some y → P entry.0 y) entries
    → P key x ⊎ ((otherwise ≡ Some x) × AllByRecursion (λ (entry : ℕ × Option X). key ≢ entry.0) entries)
found_beside P key otherwise [] x e good = inr (e, tt)
found_beside {X} P key otherwise (entry ∷ entries) x e good =
    elim (chosen (eqb key entry.0) entry.1 (beside key otherwise entries) (Some x) e) [
      | inl h ↦ inl (subst (λ (k : ℕ). P k x) (sym (eqb-true _ _ h.0)) (good.0 x h.1))
      | inr h ↦
          elim (found_beside P key otherwise entries x h.1 good.1) [
            | inl p ↦ inl p
            | inr q ↦ inr (q.0, (λ same. absurd (eqb-false _ _ h.0 same), q.1))
          ]
    ]

told_takes : {X : Type 0} (G : X → Type 0) (s : X → List ℕ) (r : List ℕ → Option (X × List ℕ)) → Reads G s r
    → (message : X → PgWireFrontendMessage) (P : PgWireFrontendMessage → Type 0) (body : List ℕ) → IsBytes body
    → ((x : X) → body ≡ s x → G x → P (message x)) → (m : PgWireFrontendMessage) → told_as message (whole (r body)) ≡ Some m → P m
told_takes G s r base message P body fits to m e =
    let a = bind_some (whole (r body)) (λ x. Some (message x)) m e in
    let w = whole_takes G s r base body a.0 fits a.1 in
    subst P (same_Some (message a.0) m a.2) (to a.0 w.0 w.1)

bare_takes : (body : List ℕ) (message : PgWireFrontendMessage) (P : PgWireFrontendMessage → Type 0) → (body ≡ [] → P message)
    → (m : PgWireFrontendMessage) → bare body message ≡ Some m → P m
bare_takes body message P to m e =
    elim (chosen (eqb (length body) 0) (Some message) None (Some m) e) [
      | inl h ↦ subst P (same_Some message m h.1) (to (nil_from_length body (eqb-true _ _ h.0)))
      | inr h ↦ absurd (none-some m h.1)
    ]

startup_carried : (code : ℕ) (body : List ℕ) (m : PgWireFrontendMessage) → code < 2 ^ 32 → IsBytes body → message_at true code body ≡ Some m
    → Carries true code body m
unfolding message_at
startup_carried code body m small fits e =
    let C : ℕ → PgWireFrontendMessage → Type 0 = λ k n. Carries true k body n in
    let packet : (k : ℕ) → (k ≡ protocol_3_0) ⊎ (k ≡ protocol_3_2) → (n : PgWireFrontendMessage)
    → told_as (startup_packet k) (whole (all_parameters_at body)) ≡ Some n → C k n =
    λ k spoken. told_takes (λ ps. AllByRecursion IsParameter ps) parameters_bytes all_parameters_at Reads-parameters (startup_packet k)
    (C k) body fits
    (λ ps layout good. (refl, inl (record { code = spoken; layout = layout; parameters = good }))) in
    elim (found_beside C code (Some (startup_packet code [])) (startup_readings body) m e (
      packet protocol_3_0 (inl refl),
      (
        packet protocol_3_2 (inr refl),
        (
          λ n e.
              let a = bind_some (cancel_of body) (λ request. Some (client.CancelRequest request)) n e in
              let told = cancel_takes body a.0 fits a.1 in
              subst (C 80877102) (same_Some (client.CancelRequest a.0) n a.2) (refl, told.0, told.1),
          (
            bare_takes body (client.SslNegotiation PostgresSsl) (C 80877103) (λ empty. (refl, empty)),
            (
              bare_takes body (client.SslNegotiation PostgresGss) (C 80877104) (λ empty. (refl, empty)),
              tt,
            ),
          ),
        ),
      ),
    )) [
      | inl h ↦ h
      | inr h ↦ subst (C code) (same_Some (startup_packet code []) m h.0) (
        refl,
        inr (record { code = small; unknown = h.1; parameters = refl }),
      )
    ]

typed_carried : (kind : ℕ) (body : List ℕ) (m : PgWireFrontendMessage) → IsBytes body → message_at false kind body ≡ Some m
    → Carries false kind body m
unfolding message_at
typed_carried kind body m fits e =
    let C : ℕ → PgWireFrontendMessage → Type 0 = λ k n. Carries false k body n in
    elim (found_beside C kind None (typed_readings body) m e (
      told_takes IsQuery query_body query_at Reads-query client.Query (C 81) body fits (λ x layout good. (refl, layout, good)),
      (
        told_takes IsParse parse_body parse_at Reads-parse client.Parse (C 80) body fits (λ x layout good. (refl, layout, good)),
        (
          told_takes IsBind bind_body bind_at Reads-bind client.Bind (C 66) body fits (λ x layout good. (refl, layout, good)),
          (
            told_takes IsDescribe describe_body describe_at Reads-describe client.Describe (C 68) body fits (λ x layout good. (
              refl,
              layout,
              good,
            )),
            (
              told_takes IsExecute execute_body execute_at Reads-execute client.Execute (C 69) body fits (λ x layout good. (
                refl,
                layout,
                good,
              )),
              (
                told_takes IsClose close_body close_at Reads-close client.Close (C 67) body fits (λ x layout good. (refl, layout, good)),
                (
                  (λ n told. subst (C 100) (same_Some (client.CopyData (record { payload = body })) n told) (refl, refl)),
                  (
                    told_takes IsCopyFail copy_fail_body copy_fail_at Reads-copy_fail client.CopyFail (C 102) body fits
                        (λ x layout good. (refl, layout, good)),
                    (
                      bare_takes body (client.Flush (record {})) (C 72) (λ empty. (refl, empty)),
                      (
                        bare_takes body (client.PgSync (record {})) (C 83) (λ empty. (refl, empty)),
                        (
                          bare_takes body (client.Terminate (record {})) (C 88) (λ empty. (refl, empty)),
                          (
                            bare_takes body (client.CopyDone (record {})) (C 99) (λ empty. (refl, empty)),
                            tt,
                          ),
                        ),
                      ),
                    ),
                  ),
                ),
              ),
            ),
          ),
        ),
      ),
    )) [
      | inl h ↦ h
      | inr h ↦ absurd (none-some m h.0)
    ]

pub read_is_carried : (awaiting : Bool) (kind : ℕ) (body : List ℕ) (m : PgWireFrontendMessage) → kind < 2 ^ 32 → IsBytes body
    → message_at awaiting kind body ≡ Some m → Carries awaiting kind body m
read_is_carried true kind body m small fits e = startup_carried kind body m small fits e
read_is_carried false kind body m small fits e = typed_carried kind body m fits e

-- ---- the kinds that carry something

pub code_fits : (code : ℕ) (body : List ℕ) (m : PgWireFrontendMessage) → Carries true code body m → code < 2 ^ 32
code_fits code body (client.Startup m) h =
    elim h.1 [
      | inl s ↦ elim s.code [ inl e ↦ omega (arith, h.0, e) | inr e ↦ omega (arith, h.0, e) ]
      | inr u ↦ omega (arith, h.0, u.code)
    ]
code_fits code body (client.SslNegotiation PostgresSsl) h = omega (arith, h.0)
code_fits code body (client.SslNegotiation PostgresGss) h = omega (arith, h.0)
code_fits code body (client.CancelRequest m) h = omega (arith, h.0)
code_fits code body _ h = absurd h

known : (kind byte : ℕ) → Contains type_bytes byte → kind ≡ byte → Contains type_bytes kind
known kind byte there e = subst (Contains type_bytes) (sym e) there

pub type_is_known : (kind : ℕ) (body : List ℕ) (m : PgWireFrontendMessage) → Carries false kind body m → Contains type_bytes kind
type_is_known kind body (client.Startup m) h = absurd h
type_is_known kind body (client.SslNegotiation m) h = absurd h
type_is_known kind body (client.CancelRequest m) h = absurd h
type_is_known kind body (client.Query m) h = known kind _ (0, omega arith, refl) h.0
type_is_known kind body (client.Parse m) h = known kind _ (1, omega arith, refl) h.0
type_is_known kind body (client.Bind m) h = known kind _ (2, omega arith, refl) h.0
type_is_known kind body (client.Describe m) h = known kind _ (3, omega arith, refl) h.0
type_is_known kind body (client.Execute m) h = known kind _ (4, omega arith, refl) h.0
type_is_known kind body (client.Close m) h = known kind _ (5, omega arith, refl) h.0
type_is_known kind body (client.Flush m) h = known kind _ (6, omega arith, refl) h.0
type_is_known kind body (client.PgSync m) h = known kind _ (7, omega arith, refl) h.0
type_is_known kind body (client.Terminate m) h = known kind _ (8, omega arith, refl) h.0
type_is_known kind body (client.CopyData m) h = known kind _ (9, omega arith, refl) h.0
type_is_known kind body (client.CopyDone m) h = known kind _ (10, omega arith, refl) h.0
type_is_known kind body (client.CopyFail m) h = known kind _ (11, omega arith, refl) h.0
