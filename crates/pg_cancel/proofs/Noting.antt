-- Each call's answer is right, and the index follows the history.
use Rattle.std.proofs.Common.{◌≡◌, ℕ, ◌<◌, ◌≤◌, ◌^◌, ℤ, List, [], ◌∷◌, ◌++◌, length, take, get_or, slice_get, IsTrue, nat_eq, ◌↔◌, cond, Option, Some, None, IsSome, IsSomeAnd, FitsSigned, Result, Ok, Err, IfOk, ◌∙◌, refl, ap, sym, subst, arith}
use Rattle.std.specs.Ordering.{int_cmp}
use Rattle.std.specs.BTreeMap.{BTreeMap, get, is_at, IsUnchanged, WritesThrough}
use Rattle.std.specs.Map.{lookup}
use Rattle.std.proofs.lemmas.Int.{to_z-of_z}
use Rattle.std.proofs.Common.{to_z, of_z, w32}
use mathlib.Core.Logic.{⊎_elim}
use Rattle.pg_cancel.specs.declared.entries.Entry.{Entry}
use Rattle.pg_cancel.specs.declared.entries.RegistryCall.{RegistryCall}
use Rattle.pg_cancel.specs.declared.entries.RegistryCall.TheVariants.{Register, Start, Ask, Cancel, Narrow, Unregister}
use Rattle.pg_cancel.specs.declared.entries.RegistryAnswer.{RegistryAnswer}
use Rattle.pg_cancel.specs.declared.entries.RegistryAnswer.TheVariants.{Registered, Taken, Done, Yes, No}
use Rattle.std.specs.declared.alloc.AllocError.{AllocError}
use Rattle.pg_cancel.specs.declared.holders.Holder.{Holder}
use Rattle.pg_cancel.specs.declared.holders.Holders.{Holders}
use Rattle.pg_cancel.specs.declared.holders.Query.{Query}
use Rattle.pg_cancel.specs.declared.holders.Query.TheVariants.{Unstarted, Running, Canceled}
use Rattle.pg_cancel.specs.declared.roster.Roster.{Roster}
use Rattle.pg_cancel.specs.LegalHistory.{key_after, IsRegisteredAt, IsLiveAs, IsLive, HasPid, IsTaken, IsConnected, IsLegal, IsAnswer}
use Rattle.pg_cancel.specs.Index.{IsQuery, IsHeldBy, answer_of, canceled, Holds, IsEntryAt, Notes, MayAsk, IsCaller, NotesAny, IsRosterOf, IsSameRoster}
use Rattle.pg_cancel.proofs.Histories.{Registers, Calls, Cancels, registered_once, one_holder, live_within, start_within, live_keeps, live_was, live_new, live_ended}
use Rattle.std.proofs.lemmas.Option.{get_or_from_slice_get}
use Rattle.std.proofs.lemmas.Bool.Decides.{Decides-eqb}
use Rattle.pg_cancel.proofs.Places.{at_either, the_value}
use Rattle.pg_cancel.proofs.Keys.{key_stays, key_narrowed, key_new}
use Rattle.pg_cancel.proofs.Indexing.{IsCanceled-from_query, not_canceled_unstarted, not_canceled_running, query_starts, query_keeps, query_canceled, Quiet, quiet_at, updated}

-- the map is an index of the history
abbrev pub Indexes : List Entry → BTreeMap ℤ Holder → Type 0
Indexes h m = (q : ℤ) → IsEntryAt h q (get int_cmp m q)

-- n is m with the holder at the pid
abbrev pub Changes : BTreeMap ℤ Holder → BTreeMap ℤ Holder → ℤ → Option Holder → Type 0
Changes m n pid w = (q : ℤ) → get int_cmp n q ≡ cond (is_at (int_cmp pid) q) w (get int_cmp m q)

-- what the index has at a pid
pub found : (h : List Entry) (m : BTreeMap ℤ Holder) (pid : ℤ) (holder : Holder) → Indexes h m → get int_cmp m pid ≡ Some holder
    → Holds h pid holder
found h m pid holder index at = subst (λ o. IsEntryAt h pid o) at (index pid)

pub missing : (h : List Entry) (m : BTreeMap ℤ Holder) (pid : ℤ) → Indexes h m → get int_cmp m pid ≡ None → IsTaken h pid → ⊥
missing h m pid index at = subst (λ o. IsEntryAt h pid o) at (index pid)

-- a number has one pid
one_pid : (h : List Entry) (m n : ℕ) (p q : ℤ) (j k : List ℕ) → IsLiveAs h m p j → IsLiveAs h n q k → m ≡ n → q ≡ p
one_pid h m n p q j k first second same =
    (registered_once h n q p k j second.registered (subst (λ i. IsRegisteredAt h i p j) same first.registered)).0

-- a holder's number is that of the live registration
one_number : (h : List Entry) (number : ℕ) (pid : ℤ) (holder : Holder) → IsLegal h → HasPid h number pid → Holds h pid holder
    → holder.number ≡ number
one_number h number pid holder legal live holds =
    one_holder h holder.number number pid holds.registered live.0 legal holds.live live.1

-- an entry that is quiet at each pid leaves the index
keeps_index : (h : List Entry) (e : Entry) (m : BTreeMap ℤ Holder) → ((q : ℤ) → Quiet h e q) → Indexes h m → Indexes (h ++ e ∷ []) m
keeps_index h e m quiet index q = quiet_at h e q (get int_cmp m q) (quiet q) (index q)

-- ---- Register

pub notes_taken : (h : List Entry) (m : BTreeMap ℤ Holder) (pid : ℤ) (holder : Holder) → Indexes h m → get int_cmp m pid ≡ Some holder
    → (number : ℕ) (key : List ℕ) → Notes h number (Register pid key) (record { by_pid = m }) (Taken holder.number)
notes_taken h m pid holder index at number key =
    let holds = found h m pid holder index at in
    let e : Entry = record { number = length h; call = Register pid key; answer = Taken holder.number } in
    record {
      told = (holds.registered, holds.live);
      noted = keeps_index h e m
          (λ q. record {
            registers = λ k r. let no : ◌≡◌ {A = RegistryAnswer} (Taken holder.number) Registered = r.1 in cc (no);
            starts = λ n k l r. let no : ◌≡◌ {A = RegistryCall} (Register pid key) Start = r.1 in cc (no);
            ends = λ n k l r. let no : ◌≡◌ {A = RegistryCall} (Register pid key) Unregister = r.1 in cc (no);
            cancels = λ n k l r. let no : ◌≡◌ {A = RegistryCall} (Register pid key) (Cancel q (key_after h n k)) = r in cc (no);
            narrows = λ n k l r. let no : ◌≡◌ {A = RegistryCall} (Register pid key) Narrow = r.1 in cc (no);
          })
          index;
    }

pub notes_registered : (h : List Entry) (m n : BTreeMap ℤ Holder) (pid : ℤ) (key : List ℕ) → IsLegal h → Indexes h m
    → get int_cmp m pid ≡ None → Changes m n pid (Some (record { number = length h; key = key; query = Unstarted })) → (number : ℕ)
    → Notes h number (Register pid key) (record { by_pid = n }) Registered
notes_registered h m n pid key legal index at changes number =
    let e : Entry = record { number = length h; call = Register pid key; answer = Registered } in
    let holder : Holder = record { number = length h; key = key; query = Unstarted } in
    let other : Calls (length h) Narrow e → ⊥ = λ r. let no : ◌≡◌ {A = RegistryCall} (Register pid key) Narrow = r.1 in cc (no) in
    let here : Holds (h ++ e ∷ []) pid holder = record {
      registered = key;
      live = live_new h e pid key (refl, refl);
      named = sym (key_stays h e (length h) key other ∙ key_new h key legal);
      query = λ k called.
          ⊎_elim
          (λ old. let within : length h < length h = start_within h k (length h) legal old in absurd (omega arith))
          (λ new. let no : ◌≡◌ {A = RegistryCall} (Register pid key) Start = new.1.1 in cc (no))
          (at_either (Calls (length h) Start) h e k called);
    } in
    record {
      told = missing h m pid index at;
      noted = updated (IsEntryAt (h ++ e ∷ [])) m n pid (Some holder) changes here
          (λ q apart. quiet_at h e q (get int_cmp m q) (record {
            registers = λ k r. let same : ◌≡◌ {A = RegistryCall} (Register pid key) (Register q k) = r.0 in let pids : q ≡ pid =
                cc (same) in apart pids;
            starts = λ i k l r. let no : ◌≡◌ {A = RegistryCall} (Register pid key) Start = r.1 in cc (no);
            ends = λ i k l r. let no : ◌≡◌ {A = RegistryCall} (Register pid key) Unregister = r.1 in cc (no);
            cancels = λ i k l r. let no : ◌≡◌ {A = RegistryCall} (Register pid key) (Cancel q (key_after h i k)) = r in cc (no);
            narrows = λ i k l r. let no : ◌≡◌ {A = RegistryCall} (Register pid key) Narrow = r.1 in cc (no);
          })
          (index q));
    }

-- ---- Start

pub notes_start : (h : List Entry) (m n : BTreeMap ℤ Holder) (number : ℕ) (pid : ℤ) (holder : Holder) → IsLegal h → Indexes h m
    → HasPid h number pid → get int_cmp m pid ≡ Some holder
    → Changes m n pid (Some (record { number = holder.number; key = holder.key; query = Running }))
    → Notes h number Start (record { by_pid = n }) Done
notes_start h m n number pid holder legal index live at changes =
    let e : Entry = record { number = number; call = Start; answer = Done } in
    let holds = found h m pid holder index at in
    let same = one_number h number pid holder legal live holds in
    let here : Holds (h ++ e ∷ []) pid (record { number = holder.number; key = holder.key; query = Running }) = record {
      registered = holds.registered;
      live = live_keeps h e holder.number pid holds.registered (λ r. let no : ◌≡◌ {A = RegistryCall} Start Unregister = r.1 in cc (no))
          holds.live;
      named = holds.named
          ∙ sym (key_stays h e holder.number holds.registered (λ r. let no : ◌≡◌ {A = RegistryCall} Start Narrow = r.1 in cc (no)));
      query = query_starts h e holder.number pid holds.registered (sym same, refl);
    } in
    record {
      told = tt;
      noted = updated (IsEntryAt (h ++ e ∷ [])) m n pid (Some (record {
        number = holder.number;
        key = holder.key;
        query = Running;
      })) changes here
          (λ q apart. quiet_at h e q (get int_cmp m q) (record {
            registers = λ k r. let no : ◌≡◌ {A = RegistryCall} Start (Register q k) = r.0 in cc (no);
            starts = λ i k l r. apart (one_pid h number i pid q live.0 k live.1 l r.0);
            ends = λ i k l r. let no : ◌≡◌ {A = RegistryCall} Start Unregister = r.1 in cc (no);
            cancels = λ i k l r. let no : ◌≡◌ {A = RegistryCall} Start (Cancel q (key_after h i k)) = r in cc (no);
            narrows = λ i k l r. let no : ◌≡◌ {A = RegistryCall} Start Narrow = r.1 in cc (no);
          })
          (index q));
    }

-- ---- Ask

-- whether a query was canceled
pub answer_is : (h : List Entry) (number : ℕ) (pid : ℤ) (key : List ℕ) (query : Query) → IsRegisteredAt h number pid key
    → IsQuery h number pid key query → IsAnswer h number Ask (answer_of query)
answer_is h number pid key Unstarted registered q = not_canceled_unstarted h number pid key q
answer_is h number pid key Running registered q = not_canceled_running h number pid key registered q
answer_is h number pid key Canceled registered q = IsCanceled-from_query h number pid key registered q

pub notes_asked : (h : List Entry) (m : BTreeMap ℤ Holder) (number : ℕ) (pid : ℤ) (holder : Holder) → IsLegal h → Indexes h m
    → HasPid h number pid → get int_cmp m pid ≡ Some holder → Notes h number Ask (record { by_pid = m }) (answer_of holder.query)
notes_asked h m number pid holder legal index live at =
    let e : Entry = record { number = number; call = Ask; answer = answer_of holder.query } in
    let holds = found h m pid holder index at in
    let same = one_number h number pid holder legal live holds in
    let key = holds.registered in
    let registered = subst (λ i. IsRegisteredAt h i pid key) same holds.live.registered in
    let query = subst (λ i. IsQuery h i pid key holder.query) same holds.query in
    record {
      told = answer_is h number pid key holder.query registered query;
      noted = keeps_index h e m
          (λ q. record {
            registers = λ k r. let no : ◌≡◌ {A = RegistryCall} Ask (Register q k) = r.0 in cc (no);
            starts = λ n k l r. let no : ◌≡◌ {A = RegistryCall} Ask Start = r.1 in cc (no);
            ends = λ n k l r. let no : ◌≡◌ {A = RegistryCall} Ask Unregister = r.1 in cc (no);
            cancels = λ n k l r. let no : ◌≡◌ {A = RegistryCall} Ask (Cancel q (key_after h n k)) = r in cc (no);
            narrows = λ n k l r. let no : ◌≡◌ {A = RegistryCall} Ask Narrow = r.1 in cc (no);
          })
          index;
    }

-- ---- Cancel

pub notes_canceled : (h : List Entry) (m n : BTreeMap ℤ Holder) (pid : ℤ) (key : List ℕ) (holder : Holder) → Indexes h m
    → get int_cmp m pid ≡ Some holder → holder.key ≡ key
    → Changes m n pid (Some (record { number = holder.number; key = holder.key; query = canceled holder.query })) → (number : ℕ)
    → Notes h number (Cancel pid key) (record { by_pid = n }) Yes
notes_canceled h m n pid key holder index at same changes number =
    let e : Entry = record { number = number; call = Cancel pid key; answer = Yes } in
    let holds = found h m pid holder index at in
    let registered = holds.registered in
    let now : key_after h holder.number registered ≡ key = sym holds.named ∙ same in
    let by_key : Cancels pid (key_after h holder.number registered) e = ap (λ k. Cancel pid k) (sym now) in
    let here : Holds (h ++ e ∷ []) pid (record { number = holder.number; key = holder.key; query = canceled holder.query }) = record {
      registered = registered;
      live = live_keeps h e holder.number pid registered (λ r. let no : ◌≡◌ {A = RegistryCall} (Cancel pid key) Unregister = r.1 in cc (no))
          holds.live;
      named = holds.named
          ∙ sym (key_stays h e holder.number registered (λ r. let no : ◌≡◌ {A = RegistryCall} (Cancel pid key) Narrow = r.1 in cc (no)));
      query = query_canceled h e holder.number pid registered holder.query by_key holds.query;
    } in
    record {
      told = (holder.number, registered, holds.live, now);
      noted = updated (IsEntryAt (h ++ e ∷ [])) m n pid (Some (record {
        number = holder.number;
        key = holder.key;
        query = canceled holder.query;
      })) changes here
          (λ q apart. quiet_at h e q (get int_cmp m q) (record {
            registers = λ k r. let no : ◌≡◌ {A = RegistryCall} (Cancel pid key) (Register q k) = r.0 in cc (no);
            starts = λ i k l r. let no : ◌≡◌ {A = RegistryCall} (Cancel pid key) Start = r.1 in cc (no);
            ends = λ i k l r. let no : ◌≡◌ {A = RegistryCall} (Cancel pid key) Unregister = r.1 in cc (no);
            cancels = λ i k l r. let calls : ◌≡◌ {A = RegistryCall} (Cancel pid key) (Cancel q (key_after h i k)) = r in
                let pids : q ≡ pid = cc (calls) in apart pids;
            narrows = λ i k l r. let no : ◌≡◌ {A = RegistryCall} (Cancel pid key) Narrow = r.1 in cc (no);
          })
          (index q));
    }

pub notes_unmet : (h : List Entry) (m : BTreeMap ℤ Holder) (pid : ℤ) (key : List ℕ) → Indexes h m → (IsConnected h pid key → ⊥)
    → (number : ℕ) → Notes h number (Cancel pid key) (record { by_pid = m }) No
notes_unmet h m pid key index none number =
    let e : Entry = record { number = number; call = Cancel pid key; answer = No } in
    record {
      told = none;
      noted = keeps_index h e m
          (λ q. record {
            registers = λ k r. let no : ◌≡◌ {A = RegistryCall} (Cancel pid key) (Register q k) = r.0 in cc (no);
            starts = λ i k l r. let no : ◌≡◌ {A = RegistryCall} (Cancel pid key) Start = r.1 in cc (no);
            ends = λ i k l r. let no : ◌≡◌ {A = RegistryCall} (Cancel pid key) Unregister = r.1 in cc (no);
            cancels = λ i k l r.
                let calls : ◌≡◌ {A = RegistryCall} (Cancel pid key) (Cancel q (key_after h i k)) = r in
                let pids : q ≡ pid = cc (calls) in
                let keys : key_after h i k ≡ key = cc (calls) in
                none (i, k, subst (λ p. IsLiveAs h i p k) pids l, keys);
            narrows = λ i k l r. let no : ◌≡◌ {A = RegistryCall} (Cancel pid key) Narrow = r.1 in cc (no);
          })
          index;
    }

not_connected_free : (h : List Entry) (pid : ℤ) (key : List ℕ) → (IsTaken h pid → ⊥) → IsConnected h pid key → ⊥
not_connected_free h pid key free connected = free (connected.0, (connected.1, connected.2))

not_connected_key : (h : List Entry) (m : BTreeMap ℤ Holder) (pid : ℤ) (key : List ℕ) (holder : Holder) → IsLegal h → Indexes h m
    → get int_cmp m pid ≡ Some holder → (holder.key ≡ key → ⊥) → IsConnected h pid key → ⊥
not_connected_key h m pid key holder legal index at other connected =
    let holds = found h m pid holder index at in
    let same = one_number h connected.0 pid holder legal (connected.1, connected.2) holds in
    let here = subst (λ i. IsRegisteredAt h i pid connected.1) (sym same) connected.2.registered in
    let keys = (registered_once h holder.number pid pid holds.registered connected.1 holds.live.registered here).1 in
    other (holds.named ∙ (ap (λ k. key_after h holder.number k) keys ∙ (ap (λ i. key_after h i connected.1) same ∙ connected.3)))

not_connected_by : (h : List Entry) (m : BTreeMap ℤ Holder) (pid : ℤ) (key : List ℕ) (o : Option Holder) → IsLegal h → Indexes h m
    → get int_cmp m pid ≡ o → (IsSomeAnd o (λ holder. holder.key ≡ key) → ⊥) → IsConnected h pid key → ⊥
not_connected_by h m pid key None legal index at not = not_connected_free h pid key (missing h m pid index at)
not_connected_by h m pid key (Some holder) legal index at not = not_connected_key h m pid key holder legal index at not

-- nobody has both where the index has no such key at the pid
pub not_connected : (h : List Entry) (holders : Holders) (pid : ℤ) (key : List ℕ) → IsLegal h → Indexes h holders.by_pid
    → (IsHeldBy holders pid key → ⊥) → IsConnected h pid key → ⊥
not_connected h holders pid key legal index not =
    not_connected_by h holders.by_pid pid key (get int_cmp holders.by_pid pid) legal index refl not

-- ---- Narrow

pub notes_narrowed : (h : List Entry) (m n : BTreeMap ℤ Holder) (number : ℕ) (pid : ℤ) (holder : Holder) → IsLegal h → Indexes h m
    → HasPid h number pid → get int_cmp m pid ≡ Some holder
    → Changes m n pid (Some (record { number = holder.number; key = take 4 holder.key; query = holder.query }))
    → Notes h number Narrow (record { by_pid = n }) Done
notes_narrowed h m n number pid holder legal index live at changes =
    let e : Entry = record { number = number; call = Narrow; answer = Done } in
    let holds = found h m pid holder index at in
    let key = holds.registered in
    let same = one_number h number pid holder legal live holds in
    let w : Holder = record { number = holder.number; key = take 4 holder.key; query = holder.query } in
    let here : Holds (h ++ e ∷ []) pid w = record {
      registered = key;
      live = live_keeps h e holder.number pid key (λ r. let no : ◌≡◌ {A = RegistryCall} Narrow Unregister = r.1 in cc (no)) holds.live;
      named = ap (λ k. take 4 k) holds.named ∙ sym (key_narrowed h e holder.number key (sym same, refl));
      query = query_keeps h e holder.number pid key holder.query (λ r. let no : ◌≡◌ {A = RegistryCall} Narrow Start = r.1 in cc (no))
          (λ r. let no : ◌≡◌ {A = RegistryCall} Narrow (Cancel pid (key_after h holder.number key)) = r in cc (no)) holds.query;
    } in
    record {
      told = tt;
      noted = updated (IsEntryAt (h ++ e ∷ [])) m n pid (Some w) changes here
          (λ q apart. quiet_at h e q (get int_cmp m q) (record {
            registers = λ k r. let no : ◌≡◌ {A = RegistryCall} Narrow (Register q k) = r.0 in cc (no);
            starts = λ i k l r. let no : ◌≡◌ {A = RegistryCall} Narrow Start = r.1 in cc (no);
            ends = λ i k l r. let no : ◌≡◌ {A = RegistryCall} Narrow Unregister = r.1 in cc (no);
            cancels = λ i k l r. let no : ◌≡◌ {A = RegistryCall} Narrow (Cancel q (key_after h i k)) = r in cc (no);
            narrows = λ i k l r. apart (one_pid h number i pid q live.0 k live.1 l r.0);
          })
          (index q));
    }

-- ---- Unregister

pub notes_unregistered : (h : List Entry) (m n : BTreeMap ℤ Holder) (number : ℕ) (pid : ℤ) → IsLegal h → Indexes h m → HasPid h number pid
    → Changes m n pid None → Notes h number Unregister (record { by_pid = n }) Done
notes_unregistered h m n number pid legal index live changes =
    let e : Entry = record { number = number; call = Unregister; answer = Done } in
    let free : IsTaken (h ++ e ∷ []) pid → ⊥ = λ taken.
    ⊎_elim
    (λ was.
    let same : number ≡ taken.0 = one_holder h number taken.0 pid live.0 taken.1.0 legal live.1 was in
    live_ended h e taken.0 pid taken.1.0 (live_within h taken.0 pid taken.1.0 was) (same, refl) taken.1.1)
    (λ new. let no : ◌≡◌ {A = RegistryCall} Unregister (Register pid taken.1.0) = new.1.0 in cc (no))
    (live_was h e taken.0 pid taken.1.0 taken.1.1) in
    record {
      told = tt;
      noted = updated (IsEntryAt (h ++ e ∷ [])) m n pid None changes free
          (λ q apart. quiet_at h e q (get int_cmp m q) (record {
            registers = λ k r. let no : ◌≡◌ {A = RegistryCall} Unregister (Register q k) = r.0 in cc (no);
            starts = λ i k l r. let no : ◌≡◌ {A = RegistryCall} Unregister Start = r.1 in cc (no);
            ends = λ i k l r. apart (one_pid h number i pid q live.0 k live.1 l r.0);
            cancels = λ i k l r. let no : ◌≡◌ {A = RegistryCall} Unregister (Cancel q (key_after h i k)) = r in cc (no);
            narrows = λ i k l r. let no : ◌≡◌ {A = RegistryCall} Unregister Narrow = r.1 in cc (no);
          })
          (index q));
    }

-- ---- what a map's calls at a signed key say

-- a look-up at a signed key, whose clause names the key by its bits
pub read_at : (m : BTreeMap ℤ Holder) (pid : ℤ) (o : Option Holder) → FitsSigned w32 pid → o ≡ get int_cmp m (to_z w32 (of_z w32 pid))
    → get int_cmp m pid ≡ o
read_at m pid o fits value =
    sym (subst (λ p. o ≡ get int_cmp m p) (to_z-of_z w32 pid fits) value)

pub written_at : (m n : BTreeMap ℤ Holder) (pid : ℤ) (w holder : Holder) → FitsSigned w32 pid → get int_cmp m pid ≡ Some holder
    → WritesThrough int_cmp (int_cmp (to_z w32 (of_z w32 pid))) m w n → Changes m n pid (Some w)
written_at m n pid w holder fits at writes =
    let here : WritesThrough int_cmp (int_cmp pid) m w n =
    subst (λ p. WritesThrough int_cmp (int_cmp p) m w n) (to_z-of_z w32 pid fits) writes in
    let some : IsSome (get int_cmp m pid) = subst (λ o. IsSome o) (sym at) refl in
    (here.3 some).0

-- what a holder's value, written back as it was, leaves
pub index_same : (h : List Entry) (m n : BTreeMap ℤ Holder) (pid : ℤ) (holder : Holder) → Indexes h m → get int_cmp m pid ≡ Some holder
    → Changes m n pid (Some holder) → Indexes h n
index_same h m n pid holder index at changes =
    updated (IsEntryAt h) m n pid (Some holder) changes (found h m pid holder index at) (λ q apart. index q)

-- after `insert` and `remove`, whose clauses name the key by its bits
pub changed_at : (m n : BTreeMap ℤ Holder) (pid : ℤ) (w : Option Holder) → FitsSigned w32 pid → Changes m n (to_z w32 (of_z w32 pid)) w
    → Changes m n pid w
changed_at m n pid w fits changes =
    subst (λ p. Changes m n p w) (to_z-of_z w32 pid fits) changes

-- ---- whether a registration is live

-- the pid of a live registration, by the call that stands at its place
same_pid : (h : List Entry) (n : ℕ) (d : Entry) (pid p : ℤ) (key k : List ℕ) → (get_or h n d).call ≡ Register pid key → IsLiveAs h n p k
    → p ≡ pid
same_pid h n d pid p key k is live =
    let t = the_value (Registers p k) (slice_get h n) live.registered in
    let read : get_or h n d ≡ t.0 = get_or_from_slice_get h n t.0 d t.1 in
    let call : (get_or h n d).call ≡ Register p k = ap (λ (e : Entry). e.call) read ∙ t.2.0 in
    let same : ◌≡◌ {A = RegistryCall} (Register p k) (Register pid key) = sym call ∙ is in
    cc (same)

pub live_by_holder : (h : List Entry) (m : BTreeMap ℤ Holder) (n : ℕ) (d : Entry) (pid : ℤ) (key : List ℕ) (holder : Holder) → IsLegal h
    → Indexes h m → (get_or h n d).call ≡ Register pid key → get int_cmp m pid ≡ Some holder → IsTrue (nat_eq holder.number n) ↔ IsLive h n
live_by_holder h m n d pid key holder legal index is at =
    let holds = found h m pid holder index at in
    let yes : IsTrue (nat_eq holder.number n) → IsLive h n =
    λ true_is. subst (λ i. IsLive h i) ((Decides-eqb holder.number n).0 true_is) (pid, holds.registered, holds.live) in
    let back : IsLive h n → IsTrue (nat_eq holder.number n) = λ live.
    let here : IsLiveAs h n pid live.1 = subst (λ p. IsLiveAs h n p live.1) (same_pid h n d pid live.0 key live.1 is live.2) live.2 in
    (Decides-eqb holder.number n).1 (one_holder h holder.number n pid holds.registered live.1 legal holds.live here) in
    (yes, back)

pub live_by_none : (h : List Entry) (m : BTreeMap ℤ Holder) (n : ℕ) (d : Entry) (pid : ℤ) (key : List ℕ) → Indexes h m
    → (get_or h n d).call ≡ Register pid key → get int_cmp m pid ≡ None → IsLive h n → ⊥
live_by_none h m n d pid key index is at live =
    let here : IsLiveAs h n pid live.1 = subst (λ p. IsLiveAs h n p live.1) (same_pid h n d pid live.0 key live.1 is live.2) live.2 in
    missing h m pid index at (n, (live.1, here))

-- ---- the notes after any history

-- the notes of a call, under the name that it was made by
pub notes_as : (old new : Holders) (place : ℕ) (p q : ℤ) (c d : RegistryCall) (a : RegistryAnswer) → p ≡ q → c ≡ d
    → NotesAny old place p c new a → NotesAny old place q d new a
notes_as old new place p q c d a pid call notes =
    subst (λ x. NotesAny old place q x new a) call (subst (λ x. NotesAny old place x c new a) pid notes)

-- those of a Register and of a Cancel, which are anybody's
pub register_as : (old new : Holders) (place : ℕ) (p q caller : ℤ) (key : List ℕ) (c : RegistryCall) (r : Result RegistryAnswer AllocError)
    → p ≡ q → c ≡ Register q key → IfOk r (NotesAny old place p (Register p key) new) → IfOk r (NotesAny old place caller c new)
register_as old new place p q caller key c (Ok a) pid call notes =
    let here : NotesAny old place caller (Register p key) new a = notes in
    subst (λ x. NotesAny old place caller x new a) (ap (λ x. Register x key) pid ∙ sym call) here
register_as old new place p q caller key c (Err e) pid call notes = tt

pub cancel_as : (old new : Holders) (place : ℕ) (p q caller : ℤ) (key : List ℕ) (c : RegistryCall) (a : RegistryAnswer) → p ≡ q
    → c ≡ Cancel q key → NotesAny old place caller (Cancel p key) new a → NotesAny old place caller c new a
cancel_as old new place p q caller key c a pid call notes =
    subst (λ x. NotesAny old place caller x new a) (ap (λ x. Cancel x key) pid ∙ sym call) notes

-- the pid of a call's registration is held
pub held_of : (holders : Holders) (pid : ℤ) (c d : RegistryCall) → c ≡ d → MayAsk holders pid c → MayAsk holders pid d
held_of holders pid c d same may = subst (λ x. MayAsk holders pid x) same may

is_held : (h : List Entry) (n : ℕ) (pid : ℤ) (o : Option Holder) → IsEntryAt h pid o → HasPid h n pid → IsSome o
is_held h n pid None none has = absurd (none (n, has))
is_held h n pid (Some holder) holds has = refl

-- a live registration is in the index
pub may_ask : (h : List Entry) (n : ℕ) (pid : ℤ) (c : RegistryCall) (holders : Holders) → Indexes h holders.by_pid → IsCaller h n pid c
    → MayAsk holders pid c
may_ask h n pid (Register p key) holders index is = tt
may_ask h n pid Start holders index is = is_held h n pid (get int_cmp holders.by_pid pid) (index pid) is
may_ask h n pid Ask holders index is = is_held h n pid (get int_cmp holders.by_pid pid) (index pid) is
may_ask h n pid (Cancel p key) holders index is = is_held h n pid (get int_cmp holders.by_pid pid) (index pid) is
may_ask h n pid Narrow holders index is = is_held h n pid (get int_cmp holders.by_pid pid) (index pid) is
may_ask h n pid Unregister holders index is = is_held h n pid (get int_cmp holders.by_pid pid) (index pid) is

-- a pid that is held has a holder
pub none_held : {X : Type 0} (o : Option Holder) → o ≡ None → IsSome o → X
none_held None same held = absurd (cc (held))
none_held (Some holder) same held = absurd (cc (same))

-- a map with the same entries is an index of the same histories
pub same_index : (h : List Entry) (m n : BTreeMap ℤ Holder) → IsUnchanged m n → Indexes h m → Indexes h n
same_index h m n same index q = subst (λ o. IsEntryAt h q o) (λ i. lookup (is_at (int_cmp q)) (sym same i)) (index q)

-- what was not noted leaves the roster
pub same_roster : (h : List Entry) (before roster : Roster) → IsSameRoster before roster → IsRosterOf h before → IsRosterOf h roster
same_roster h before roster same right =
    let counted = right.count in
    let few = right.few in
    let kept = same.1 in
    record {
      index = same_index h before.holders.by_pid roster.holders.by_pid same.0 right.index;
      count = kept ∙ counted;
      few = subst (λ n. n ≤ 2 ^ 58) (sym kept) few;
      last = same.2 ∙ right.last;
    }

-- what stands at a pid that is held with a key
pub held_by : (o : Option Holder) (holder : Holder) (key : List ℕ) → o ≡ Some holder → IsSomeAnd o (λ x. x.key ≡ key) → holder.key ≡ key
held_by None holder key at held = absurd held
held_by (Some x) holder key at held = let same : x ≡ holder = cc (at) in ap (λ (y : Holder). y.key) (sym same) ∙ held

pub held_none : {X : Type 0} (o : Option Holder) (key : List ℕ) → o ≡ None → IsSomeAnd o (λ x. x.key ≡ key) → X
held_none None key at held = absurd held
held_none (Some x) key at held = absurd (cc (at))
