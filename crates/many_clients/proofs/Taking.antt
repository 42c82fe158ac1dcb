-- What a door gains while connections are taken in.
use Rattle.std.proofs.Common.{◌≡◌, ℕ, ℤ, suc, pos, Bool, true, List, [], ◌∷◌, ◌++◌, ◌+◌, ◌↔◌, map, filter, Option, Some, Result, Ok, Err, sym, refl, ap, subst, ◌∙◌, arith, add-one, ◌<◌, OnOk, IfErr}
use Rattle.std.proofs.lemmas.List.{append-nil, append_assoc, append_cancel_left, map-append}
use Rattle.std.proofs.lemmas.List.Elements.{filter-append}
use Rattle.pg_cancel.specs.declared.entries.Entry.{Entry}
use Rattle.pg_cancel.specs.declared.entries.RegistryCall.{RegistryCall}
use Rattle.pg_cancel.specs.declared.entries.RegistryCall.TheVariants.{Register, Start, Ask, Cancel, Narrow, Unregister}
use Rattle.pg_cancel.specs.declared.entries.RegistryAnswer.TheVariants.{Registered, Taken}
use Rattle.pg_cancel.specs.Connections.{is_register, registers_of, entry, Registers}
use Rattle.many_clients.specs.declared.accept_loop.ListenError.{ListenError}
use Rattle.many_clients.specs.declared.accept_loop.ListenError.TheVariants.{AcceptFault, SpawnFault, PidTaken, NoMemory}
use Rattle.many_clients.specs.Listening.{pids, pid_of_call, HasRegistered, IsRefusedAt, HasAdmitted, HasRefused, IsTurnedAway, Taking, HasEndedSo, HasTakenIn, NeverFalls, HasTaken, connections_of}
use Rattle.conversation_runs.specs.Streams.{HasRisen}
use Rattle.pg_engine.proofs.Serving.{risen_since}

-- the last elements of two equal lists are equal
last_same : {A : Type 0} (xs ys : List A) (x y : A) → xs ++ x ∷ [] ≡ ys ++ y ∷ [] → x ≡ y
last_same [] [] x y is = cc (is)
last_same [] (b ∷ []) x y is = absurd (cc (is))
last_same [] (b ∷ c ∷ ys) x y is = absurd (cc (is))
last_same (a ∷ []) [] x y is = absurd (cc (is))
last_same (a ∷ b ∷ xs) [] x y is = absurd (cc (is))
last_same (a ∷ xs) (b ∷ ys) x y is = last_same xs ys x y (cc (is))

kept : (p : Entry → Bool) (e : Entry) → p e ≡ true → filter p (e ∷ []) ≡ e ∷ []
kept p e is = rw is refl

told_register : (call : RegistryCall) (pid : ℤ) → pid_of_call call ≡ Some pid → is_register call ≡ true
told_register (Register p key) pid is = refl
told_register Start pid is = absurd (cc (is))
told_register Ask pid is = absurd (cc (is))
told_register (Cancel p key) pid is = absurd (cc (is))
told_register Narrow pid is = absurd (cc (is))
told_register Unregister pid is = absurd (cc (is))

-- ---- one Register

no_registers : (seen between : List Entry) → registers_of between ≡ [] → registers_of (seen ++ between) ≡ registers_of seen
no_registers seen between quiet =
    filter-append (λ (e : Entry). is_register e.call) seen between ∙ ap (λ m. registers_of seen ++ m) quiet ∙ append-nil (registers_of seen)

pub admits : (n pid : ℕ) (key : List ℕ) (seen seen' : List Entry) → Registers n (Register (pos pid) key) seen seen' Registered
    → HasAdmitted seen seen' pid
admits n pid key seen seen' r =
    let last = entry n (Register (pos pid) key) Registered in
    record {
      last = last;
      registers = ap registers_of r.ends ∙ filter-append (λ (e : Entry). is_register e.call) (seen ++ r.between) (last ∷ [])
          ∙ ap (λ m. m ++ last ∷ []) (no_registers seen r.between r.quiet);
      pid_is = refl;
      registered = refl;
    }

pub refuses : (m n pid : ℕ) (key : List ℕ) (seen seen' : List Entry) → Registers n (Register (pos pid) key) seen seen' (Taken m)
    → HasRefused m seen seen' pid
refuses m n pid key seen seen' r =
    record {
      before = seen ++ r.between;
      last = entry n (Register (pos pid) key) (Taken m);
      ends = r.ends;
      registers = no_registers seen r.between r.quiet;
      pid_is = refl;
      taken = refl;
    }

-- what came of starting the job of a connection that was admitted
pub took_in : (result : Result (Unit {0}) ListenError) (pid : ℕ) (old new : Taking) (seen seen' : List Entry)
    → new.accepted ≡ old.accepted + 1
    → HasAdmitted seen seen' pid → OnOk result (new.started ≡ old.started + 1)
    → IfErr result (λ e. (e ≡ SpawnFault) × HasRisen old.start_faults new.start_faults × (new.started ≡ old.started))
    → HasTakenIn result pid old new seen seen'
took_in (Ok done) pid old new seen seen' accepted a started failed = ((accepted, started), a)
took_in (Err e) pid old new seen seen' accepted a started failed =
    subst (λ e. HasTakenIn (Err e) pid old new seen seen') (sym failed.0) (failed.1, (accepted, omega (arith, failed.2)), a)

-- a connection that was accepted and then not registered
pub turned_away : (e : ListenError) (pid : ℕ) (old new : Taking) (seen seen' : List Entry) → new.accepted ≡ old.accepted + 1
    → new.started ≡ old.started → IsTurnedAway e pid seen seen' → HasTakenIn (Err e) pid old new seen seen'
turned_away AcceptFault pid old new seen seen' accepted started h = absurd h
turned_away SpawnFault pid old new seen seen' accepted started h = absurd h
turned_away (PidTaken m) pid old new seen seen' accepted started h = ((accepted, omega (arith, started)), h)
turned_away NoMemory pid old new seen seen' accepted started h = ((accepted, omega (arith, started)), h)

-- no job was started where a connection wasn't taken in
pub none_started : (e : ListenError) (pid : ℕ) (old new : Taking) (seen seen' : List Entry) → HasTakenIn (Err e) pid old new seen seen'
    → new.started ≡ old.started
none_started AcceptFault pid old new seen seen' h = omega (arith, h.1.1)
none_started SpawnFault pid old new seen seen' h = omega (arith, h.1.1)
none_started (PidTaken m) pid old new seen seen' h = omega (arith, h.0.1)
none_started NoMemory pid old new seen seen' h = omega (arith, h.0.1)

-- ---- all of them

pub none_registered : (seen : List Entry) → HasRegistered seen seen 0
none_registered seen = record { gained = []; registers = sym (append-nil (registers_of seen)); pids_are = refl; registered = refl }

pub one_more : (seen s s' : List Entry) (n pid : ℕ) → pid ≡ suc n → HasRegistered seen s n → HasAdmitted s s' pid
    → HasRegistered seen s' pid
one_more seen s s' n pid next r a =
    subst (HasRegistered seen s') (sym next)
    (record {
      gained = r.gained ++ a.last ∷ [];
      registers = a.registers ∙ ap (λ m. m ++ a.last ∷ []) r.registers ∙ append_assoc (registers_of seen) r.gained (a.last ∷ []);
      pids_are = map-append (λ (e : Entry). pid_of_call e.call) r.gained (a.last ∷ [])
          ∙ ap (λ m. m ++ pid_of_call a.last.call ∷ []) r.pids_are
          ∙ ap (λ p. map Some (pids n) ++ p ∷ []) (a.pid_is ∙ ap (λ k. Some (pos k)) next)
          ∙ sym (map-append Some (pids n) (pos (suc n) ∷ []));
      registered = map-append (λ (e : Entry). e.answer) r.gained (a.last ∷ [])
          ∙ ap (λ m. m ++ a.last.answer ∷ []) r.registered
          ∙ ap (λ p. map (λ e. Registered) r.gained ++ p ∷ []) a.registered
          ∙ sym (map-append (λ (e : Entry). Registered) r.gained (a.last ∷ []));
    })

pub next_refused : (m : ℕ) (seen s s' : List Entry) (n pid : ℕ) → pid ≡ suc n → HasRegistered seen s n → HasRefused m s s' pid
    → IsRefusedAt m seen s'
next_refused m seen s s' n pid next r f =
    record {
      n = n;
      before = f.before;
      last = f.last;
      ends = f.ends;
      registered = record { gained = r.gained; registers = f.registers ∙ r.registers; pids_are = r.pids_are; registered = r.registered };
      refused = (f.pid_is ∙ ap (λ k. Some (pos k)) next, f.taken);
    }

-- ---- who was refused, and nobody else

pub refused_once : (m k : ℕ) (seen seen' : List Entry) → IsRefusedAt m seen seen' → IsRefusedAt k seen seen' → m ≡ k
refused_once m k seen seen' r f =
    let same = last_same r.before f.before r.last f.last (sym r.ends ∙ f.ends) in
    cc (sym r.refused.1 ∙ ap (λ e. e.answer) same ∙ f.refused.1)

pub refused_never : (m n : ℕ) (seen seen' : List Entry) → HasRegistered seen seen' n → IsRefusedAt m seen seen' → ⊥
refused_never m n seen seen' r f =
    let gained : r.gained ≡ f.registered.gained ++ f.last ∷ [] =
    append_cancel_left (registers_of seen) r.gained (f.registered.gained ++ f.last ∷ [])
    (sym r.registers ∙ ap registers_of f.ends ∙ filter-append (λ (e : Entry). is_register e.call) f.before (f.last ∷ [])
    ∙ ap (λ x. registers_of f.before ++ x) (kept (λ (e : Entry). is_register e.call) f.last
    (told_register f.last.call (pos (suc f.n)) f.refused.0))
    ∙ ap (λ x. x ++ f.last ∷ []) f.registered.registers ∙ append_assoc (registers_of seen) f.registered.gained (f.last ∷ [])) in
    let answers = sym (map-append (λ (e : Entry). e.answer) f.registered.gained (f.last ∷ []))
    ∙ ap (map (λ (e : Entry). e.answer)) (sym gained)
    ∙ r.registered ∙ ap (map (λ (e : Entry). Registered)) gained
    ∙ map-append (λ (e : Entry). Registered) f.registered.gained (f.last ∷ []) in
    let last : f.last.answer ≡ Registered =
    last_same (map (λ (e : Entry). e.answer) f.registered.gained) (map (λ (e : Entry). Registered) f.registered.gained) f.last.answer
    Registered answers in
    cc (sym last ∙ f.refused.1)

pub exactly_refused : (m : ℕ) (result : Result ℕ ListenError) (count : Option ℕ) (old new : Taking) (seen seen' : List Entry)
    → HasEndedSo result count old new seen seen' → (result ≡ Err (PidTaken m)) ↔ IsRefusedAt m seen seen'
exactly_refused m (Ok n) count old new seen seen' h = (λ is. absurd (cc (is)), λ f. absurd (refused_never m n seen seen' h.2 f))
exactly_refused m (Err AcceptFault) count old new seen seen' h =
    (λ is. absurd (cc (is)), λ f. absurd (refused_never m h.1.0 seen seen' h.1.3 f))
exactly_refused m (Err SpawnFault) count old new seen seen' h =
    (λ is. absurd (cc (is)), λ f. absurd (refused_never m (h.1.0 + 1) seen seen' h.1.3 f))
exactly_refused m (Err (PidTaken k)) count old new seen seen' h =
    (λ is. subst (λ k. IsRefusedAt k seen seen') (cc (is)) h.0, λ f. ap (λ k. Err (PidTaken k)) (refused_once k m seen seen' h.0 f))
exactly_refused m (Err NoMemory) count old new seen seen' h = (λ is. absurd (cc (is)), λ f. absurd (refused_never m h.0 seen seen' h.3 f))

-- ---- the end

-- no connection was taken in, behind n that were
pub gives_up : (e : ListenError) (count : Option ℕ) (first old new : Taking) (seen s s' : List Entry) (n pid : ℕ) → pid ≡ n + 1
    → n < connections_of count → HasTaken first old n n → HasRegistered seen s n → NeverFalls first old → NeverFalls old new
    → HasTakenIn (Err e) pid old new s s' → HasEndedSo (Err e) count first new seen s'
unfolding next_refused
gives_up AcceptFault count first old new seen s s' n pid next fewer t r low high h = (
  risen_since first.accept_faults old.accept_faults new.accept_faults low.0 high.0 h.0,
  (n, fewer, (omega (arith, t.0, h.1.0), omega (arith, t.1, h.1.1)), subst (λ x. HasRegistered seen x n) (sym h.2) r),
)
gives_up SpawnFault count first old new seen s s' n pid next fewer t r low high h = (
  risen_since first.start_faults old.start_faults new.start_faults low.1 high.1 h.0,
  (
    n,
    fewer,
    (omega (arith, t.0, h.1.0), omega (arith, t.1, h.1.1)),
    subst (HasRegistered seen s') next (one_more seen s s' n pid (next ∙ add-one n) r h.2),
  ),
)
gives_up (PidTaken m) count first old new seen s s' n pid next fewer t r low high h =
    (next_refused m seen s s' n pid (next ∙ add-one n) r h.1, fewer, (omega (arith, t.0, h.0.0), omega (arith, t.1, h.0.1)))
gives_up NoMemory count first old new seen s s' n pid next fewer t r low high h =
    (n, fewer, (omega (arith, t.0, h.0.0), omega (arith, t.1, h.0.1)), subst (λ x. HasRegistered seen x n) (sym h.1) r)
