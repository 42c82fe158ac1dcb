-- What comes of a registration, and of what is served under it.
use Rattle.std.proofs.Common.{◌≡◌, ◌⊎◌, ℕ, ℤ, List, [], ◌++◌, Option, Some, None, Result, Ok, Err, inl, inr, length, sym, ap, subst, ◌∙◌, refl}
use Rattle.std.specs.Prelude.{IsOk, IsErr}
use Rattle.pg_cancel.specs.declared.entries.Entry.{Entry}
use Rattle.pg_cancel.specs.declared.entries.RegistryCall.TheVariants.{Register}
use Rattle.pg_cancel.specs.declared.entries.RegistryAnswer.TheVariants.{Taken}
use Rattle.pg_cancel.specs.Connections.{Connection, Issuer, Registers, Witness, before_last}
use Rattle.pg_cancel.specs.LegalHistory.{HasPid}
use Rattle.pg_client.specs.declared.ends.EndKind.{EndKind}
use Rattle.pg_messages.specs.declared.backend.PgWireBackendMessage.{PgWireBackendMessage}
use Rattle.pg_messages.specs.Replies.{replies_bytes}
use Rattle.conversation_runs.specs.declared.ends.ServeError.{ServeError}
use Rattle.conversation_runs.specs.declared.ends.ServeError.TheVariants as fault
use Rattle.pg_engine.specs.Serving.{Counts}
use Rattle.relation_demo.specs.Client.{demo_client}
use Rattle.relation_demo.specs.Counting.{row_count}
use Rattle.relation_demo.specs.Load.{demo_relations}
use Rattle.relation_files.specs.Files.{IsToldBy}
use Rattle.relation_tables.specs.declared.Relation.{Relation}
use Rattle.relation_words.specs.declared.commands.Load.{Load}
use Rattle.relation_words.specs.declared.commands.Service.{Service}
use Rattle.relation_server.specs.declared.outcome.Outcome.{Outcome}
use Rattle.relation_server.specs.declared.outcome.Outcome.TheVariants as out
use Rattle.relation_server.specs.Demo.{HasTold, IsNotRegistered, WasCounted, HasCounted}
use Rattle.relation_server.specs.Jobs.{HasConversed}
use Rattle.relation_server.specs.Program.{ListenSurroundings, Surroundings, IsClientUntouched, HasListened, HasNoRelations, WasTaken, WasRegistered, WasConnected, HasServed, HasServedFile, HasShown, demo_lines, demo_registration, newcomer}

-- ---- a pid that is taken

pub was_taken : (registration : ℤ × List ℕ) (pid : ℤ) (old new : Surroundings) (m : ℕ) → pid ≡ registration.0
    → ((n : ℕ) × Registers n (Register pid registration.1) old.seen new.seen (Taken m)) → HasPid (before_last new.seen) m pid
    → WasTaken registration old new
was_taken registration pid old new m is r has = record {
  number = r.0;
  holder = m;
  taken = subst (λ p. Registers r.0 (Register p registration.1) old.seen new.seen (Taken m)) is r.1;
  has_pid = subst (λ p. HasPid (before_last new.seen) m p) is has;
}

-- ---- the relations of a file

pub file_served : (issuer : Issuer) (s : Service) (relations : List Relation) (outcome : Outcome) (w : Option Witness)
    (old new : Surroundings)
    → IsToldBy old.file new.file relations → HasServed issuer s relations outcome w old new → HasServedFile issuer s outcome w old new
file_served issuer s relations out.PidTaken w old new told h = (relations, told, h)
file_served issuer s relations (out.Conversation answer) w old new told h = (relations, told, h)
file_served issuer s relations (out.File e) w old new told h = absurd h
file_served issuer s relations out.Done w old new told h = absurd h
file_served issuer s relations out.Usage w old new told h = absurd h
file_served issuer s relations out.AcceptFault w old new told h = absurd h
file_served issuer s relations out.SpawnFault w old new told h = absurd h

-- no connection was taken in
pub nothing_shared : (count : Option ℕ) (outcome : Outcome) (old new : ListenSurroundings)
    → HasNoRelations outcome old.file new.file old.file_faults new.file_faults → new.taking ≡ old.taking → new.seen ≡ old.seen
    → HasListened count outcome old new
nothing_shared count (out.File e) old new h taking seen = (h, taking, seen)
nothing_shared count (out.Conversation (Err fault.NoMemory)) old new h taking seen = (h, inr (refl, taking, seen))
nothing_shared count (out.Conversation (Err fault.ReadFault)) old new h taking seen = absurd h
nothing_shared count (out.Conversation (Err fault.WriteFault)) old new h taking seen = absurd h
nothing_shared count (out.Conversation (Err fault.TurnLimit)) old new h taking seen = absurd h
nothing_shared count (out.Conversation (Ok kind)) old new h taking seen = absurd h
nothing_shared count out.Done old new h taking seen = absurd h
nothing_shared count out.Usage old new h taking seen = absurd h
nothing_shared count out.PidTaken old new h taking seen = absurd h
nothing_shared count out.AcceptFault old new h taking seen = absurd h
nothing_shared count out.SpawnFault old new h taking seen = absurd h

-- ---- the demo

-- pid 1 was not registered
pub not_registered : (issuer : Issuer) (l : Load) (outcome : Outcome) (old new : Surroundings) → IsNotRegistered outcome old.seen new.seen
    → IsClientUntouched old new → HasShown issuer l outcome None old new
not_registered issuer l out.PidTaken old new h untouched =
    (record { number = h.0; holder = h.1; taken = h.2; has_pid = h.3 }, untouched, refl)
not_registered issuer l (out.Conversation (Err fault.NoMemory)) old new h untouched =
    (inl (h, untouched.1, refl), ap (λ (c : Counts). c.write_faults) untouched.2)
not_registered issuer l (out.Conversation (Err fault.ReadFault)) old new h untouched = absurd h
not_registered issuer l (out.Conversation (Err fault.WriteFault)) old new h untouched = absurd h
not_registered issuer l (out.Conversation (Err fault.TurnLimit)) old new h untouched = absurd h
not_registered issuer l (out.Conversation (Ok kind)) old new h untouched = absurd h
not_registered issuer l (out.File e) old new h untouched = absurd h
not_registered issuer l out.Done old new h untouched = absurd h
not_registered issuer l out.Usage old new h untouched = absurd h
not_registered issuer l out.AcceptFault old new h untouched = absurd h
not_registered issuer l out.SpawnFault old new h untouched = absurd h

-- a conversation that came to its end is counted
pub counted : (h : Connection) (relations : List Relation) (turns count size : ℕ) (answer : Result EndKind ServeError)
    (client left begun bytes told_bytes : List ℕ)
    (new_left : Option (List ℕ)) (before after : Counts) (witness : Witness) (outcome : Outcome) (old new : Option (List ℕ))
    (faults new_faults : ℕ) → left ≡ client → begun ≡ [] → told_bytes ≡ bytes → size ≡ length client
    → HasConversed h relations turns answer (Some left) new_left (Some begun) (Some bytes) before after witness
    → (IsOk answer → (messages : List PgWireBackendMessage) → told_bytes ≡ replies_bytes messages
    → HasTold outcome (demo_lines count (row_count messages) size (length told_bytes)) old new faults new_faults)
    → (IsErr answer → (outcome ≡ out.Conversation (Err fault.NoMemory)) × (new ≡ old) × (new_faults ≡ faults))
    → HasCounted h relations count client outcome (Some witness) old new faults new_faults
counted h relations turns count size (Ok kind) client left begun bytes told_bytes new_left before after witness outcome old new faults
    new_faults
    whole empty told sized x ended given_up =
    let run = x.went.whole in
    let text : run.0 ≡ client = run.1 ∙ whole in
    let grown : bytes ≡ begun ++ run.2.0 = cc (run.2.1) in
    let same : told_bytes ≡ run.2.0 = told ∙ grown ∙ ap (λ b. b ++ run.2.0) empty in
    record {
      made = x.made;
      witness = witness;
      is_noted = refl;
      behind = x.behind;
      told = inl (subst (λ t. WasCounted h relations count t x.made outcome old new faults new_faults) text (record {
        kind = kind;
        replies = run.2.0;
        run = run.2.2;
        told = subst (λ n. HasTold outcome (demo_lines count (row_count run.2.2.fed.replies) n (length run.2.0)) old new faults new_faults)
            (sized ∙ ap length (sym text))
            (subst (λ b. HasTold outcome (demo_lines count (row_count run.2.2.fed.replies) size (length b)) old new faults new_faults)
            same (ended refl run.2.2.fed.replies (same ∙ run.2.2.fed.replied)));
      }));
    }
counted h relations turns count size (Err e) client left begun bytes told_bytes new_left before after witness outcome old new faults
    new_faults
    whole empty told sized x ended given_up =
    record { made = x.made; witness = witness; is_noted = refl; behind = x.behind; told = inr (given_up refl) }

abbrev DemoCounted : Issuer → ℕ → Load → List Entry → List Entry → Outcome → Option (List ℕ) → Option (List ℕ) → ℕ → ℕ → Type 0
DemoCounted issuer number l seen made outcome old new faults new_faults =
    WasCounted (newcomer issuer number demo_registration seen) (demo_relations l.seed l.count) l.count (demo_client l.count) made outcome
    old new
    faults new_faults

told_so : (issuer : Issuer) (number : ℕ) (l : Load) (made : List Entry) (outcome : Outcome) (w : Option Witness) (old new : Surroundings)
    → WasConnected issuer demo_registration made w old new
    → DemoCounted issuer number l new.seen made outcome old.out new.out old.counts.write_faults new.counts.write_faults
    → HasShown issuer l outcome w old new
told_so issuer number l made out.Done w old new connected c = record {
  made = made;
  connected = connected;
  lines = demo_lines l.count (row_count c.run.fed.replies) (length (demo_client l.count)) (length c.replies);
  counted = record { kind = c.kind; replies = c.replies; run = c.run; lines_are = refl };
  told = c.told;
}
told_so issuer number l made (out.Conversation (Err fault.WriteFault)) w old new connected c = (
  c.told.0,
  record {
    made = made;
    connected = connected;
    lines = demo_lines l.count (row_count c.run.fed.replies) (length (demo_client l.count)) (length c.replies);
    counted = record { kind = c.kind; replies = c.replies; run = c.run; lines_are = refl };
    told = c.told.1;
  },
)
told_so issuer number l made (out.Conversation (Err fault.NoMemory)) w old new connected c = (
  inr (inr (record {
    made = made;
    connected = connected;
    lines = demo_lines l.count (row_count c.run.fed.replies) (length (demo_client l.count)) (length c.replies);
    counted = record { kind = c.kind; replies = c.replies; run = c.run; lines_are = refl };
    told = c.told.0;
  })),
  c.told.1,
)
told_so issuer number l made (out.Conversation (Err fault.ReadFault)) w old new connected c = absurd c.told
told_so issuer number l made (out.Conversation (Err fault.TurnLimit)) w old new connected c = absurd c.told
told_so issuer number l made (out.Conversation (Ok kind)) w old new connected c = absurd c.told
told_so issuer number l made out.PidTaken w old new connected c = absurd c.told
told_so issuer number l made out.Usage w old new connected c = absurd c.told
told_so issuer number l made (out.File e) w old new connected c = absurd c.told
told_so issuer number l made out.AcceptFault w old new connected c = absurd c.told
told_so issuer number l made out.SpawnFault w old new connected c = absurd c.told

-- memory ran out before anything was told
untold : (issuer : Issuer) (l : Load) (made : List Entry) (outcome : Outcome) (w : Option Witness) (old new : Surroundings)
    → WasConnected issuer demo_registration made w old new → outcome ≡ out.Conversation (Err fault.NoMemory) → new.out ≡ old.out
    → new.counts.write_faults ≡ old.counts.write_faults → HasShown issuer l outcome w old new
untold issuer l made outcome w old new connected is same sound =
    subst (λ o. HasShown issuer l o w old new) (sym is) (inr (inl (made, connected, same)), sound)

shown_told : (issuer : Issuer) (number : ℕ) (l : Load) (made : List Entry) (outcome : Outcome) (w : Option Witness) (old new : Surroundings)
    → WasConnected issuer demo_registration made w old new
    → (DemoCounted issuer number l new.seen made outcome old.out new.out old.counts.write_faults new.counts.write_faults
    ⊎ ((outcome ≡ out.Conversation (Err fault.NoMemory)) × (new.out ≡ old.out) × (new.counts.write_faults ≡ old.counts.write_faults)))
    → HasShown issuer l outcome w old new
shown_told issuer number l made outcome w old new connected (inl c) = told_so issuer number l made outcome w old new connected c
shown_told issuer number l made outcome w old new connected (inr c) = untold issuer l made outcome w old new connected c.0 c.1 c.2

pub shown : (issuer : Issuer) (l : Load) (h : Connection) (number : ℕ) (relations : List Relation) (client : List ℕ) (outcome : Outcome)
    (w : Option Witness) (old new : Surroundings) → relations ≡ demo_relations l.seed l.count → client ≡ demo_client l.count
    → h ≡ newcomer issuer number demo_registration new.seen → WasRegistered number demo_registration old new
    → HasCounted h relations l.count client outcome w old.out new.out old.counts.write_faults new.counts.write_faults
    → HasShown issuer l outcome w old new
shown issuer l h number relations client outcome w old new tables bytes is registered x =
    let told = subst (λ h. HasCounted h (demo_relations l.seed l.count) l.count (demo_client l.count) outcome w old.out new.out
    old.counts.write_faults new.counts.write_faults) is
    (subst (λ r. HasCounted h r l.count (demo_client l.count) outcome w old.out new.out old.counts.write_faults new.counts.write_faults)
    tables
    (subst (λ b. HasCounted h relations l.count b outcome w old.out new.out old.counts.write_faults new.counts.write_faults) bytes x)) in
    shown_told issuer number l told.made outcome w old new
    (record { number = number; witness = told.witness; registered = registered; is_noted = told.is_noted; behind = told.behind }) told.told
