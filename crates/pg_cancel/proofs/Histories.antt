-- Laws of legal histories: what one more entry changes, and that the answer to a call is determined.
use Rattle.std.proofs.Common.{◌≡◌, ◌↔◌, ◌⊎◌, ℕ, ◌+◌, ◌<◌, ◌≤◌, ℤ, List, [], ◌∷◌, ◌++◌, length, Option, Some, take, slice_get, inl, inr, refl, ap, sym, subst, arith, length-append}
use Rattle.std.proofs.Math.Seq.{take-append_seam}
use Rattle.std.proofs.lemmas.List.{take-append-le}
use Rattle.std.specs.List.{last_or}
use mathlib.Core.Logic.{⊎_elim}
use Rattle.pg_cancel.specs.declared.entries.Entry.{Entry}
use Rattle.pg_cancel.specs.declared.entries.RegistryCall.{RegistryCall}
use Rattle.pg_cancel.specs.declared.entries.RegistryCall.TheVariants.{Register, Start, Ask, Cancel, Narrow, Unregister}
use Rattle.pg_cancel.specs.declared.entries.RegistryAnswer.{RegistryAnswer}
use Rattle.pg_cancel.specs.declared.entries.RegistryAnswer.TheVariants.{Registered, Taken, Done, Yes, No}
use Rattle.pg_cancel.specs.LegalHistory.{IsCallAt, IsRegisteredAt, IsLiveAs, IsLive, IsLastStart, IsNumber, IsAnswer, MayFollow, IsLegal, MayCall, entry_of}
use Rattle.pg_cancel.proofs.Places.{at_within, at_old, at_new, at_either, at_taken, at_from_taken, some_and, some_from, the_value, both}

-- the facts that a registered place, a call at a place and a cancel at a place are about
abbrev pub Registers : ℤ → List ℕ → Entry → Type 0
Registers pid key entry = (entry.call ≡ Register pid key) × (entry.answer ≡ Registered)

abbrev pub Calls : ℕ → RegistryCall → Entry → Type 0
Calls number call entry = (entry.number ≡ number) × (entry.call ≡ call)

abbrev pub Cancels : ℤ → List ℕ → Entry → Type 0
Cancels pid key entry = entry.call ≡ Cancel pid key

-- ---- determined

-- a place was registered with one pid and key
pub registered_once : (h : List Entry) (n : ℕ) (p q : ℤ) (j k : List ℕ) → IsRegisteredAt h n p j → IsRegisteredAt h n q k
    → (p ≡ q) × (j ≡ k)
registered_once h n p q j k a b =
    let t = the_value (λ e. Registers p j e × Registers q k e) (slice_get h n) (both (Registers p j) (Registers q k) (slice_get h n) a b) in
    let same : ◌≡◌ {A = RegistryCall} (Register p j) (Register q k) = cc (t.2.0.0, t.2.1.0) in
    (cc (same), cc (same))

pub live_taken : (h : List Entry) (m n : ℕ) (pid : ℤ) (key : List ℕ) → IsLiveAs h m pid key → m < n → IsLiveAs (take n h) m pid key
live_taken h m n pid key live l = record {
  registered = at_taken (Registers pid key) h n m l live.registered;
  not_ended = λ k less at. live.not_ended k less (at_from_taken (Calls m Unregister) h n k at);
}

pub answer_as : (h : List Entry) (n : ℕ) (c d : RegistryCall) (a b : RegistryAnswer) → c ≡ d → a ≡ b → IsAnswer h n c a → IsAnswer h n d b
answer_as h n c d a b same_call same_answer x =
    subst (λ y. IsAnswer h n d y) same_answer (subst (λ y. IsAnswer h n y a) same_call x)

not_before : (h : List Entry) (m n : ℕ) (pid : ℤ) (j k : List ℕ) → IsLegal h → IsLiveAs h m pid j → IsLiveAs h n pid k → m < n → ⊥
not_before h m n pid j k legal first second l =
    let t = the_value (Registers pid k) (slice_get h n) second.registered in
    let free = answer_as (take n h) t.0.number t.0.call (Register pid k) t.0.answer Registered t.2.0 t.2.1 (legal n t.0 t.1).answer in
    free (m, (j, live_taken h m n pid j first l))

-- at most one registration of a pid is live
pub one_holder : (h : List Entry) (m n : ℕ) (pid : ℤ) (j k : List ℕ) → IsLegal h → IsLiveAs h m pid j → IsLiveAs h n pid k → m ≡ n
one_holder h m n pid j k legal first second =
    let no : m < n → ⊥ = not_before h m n pid j k legal first second in
    let on : n < m → ⊥ = not_before h n m pid k j legal second first in
    omega (arith, no, on)

-- the answer to a call is determined
pub determined : (h : List Entry) (n : ℕ) (c : RegistryCall) (a b : RegistryAnswer) → IsLegal h → IsAnswer h n c a → IsAnswer h n c b
    → a ≡ b
determined h n (Register pid key) Registered Registered legal x y = refl
determined h n (Register pid key) Registered (Taken m) legal x y = absurd (x (m, y))
determined h n (Register pid key) Registered _ legal x y = absurd y
determined h n (Register pid key) (Taken m) Registered legal x y = absurd (y (m, x))
determined h n (Register pid key) (Taken m) (Taken k) legal x y =
    ap Taken (one_holder h m k pid x.0 y.0 legal x.1 y.1)
determined h n (Register pid key) (Taken m) _ legal x y = absurd y
determined h n (Register pid key) _ b legal x y = absurd x
determined h n Start Done Done legal x y = refl
determined h n Start Done _ legal x y = absurd y
determined h n Start _ b legal x y = absurd x
determined h n Ask Yes Yes legal x y = refl
determined h n Ask Yes No legal x y = absurd (y x)
determined h n Ask Yes _ legal x y = absurd y
determined h n Ask No Yes legal x y = absurd (x y)
determined h n Ask No No legal x y = refl
determined h n Ask No _ legal x y = absurd y
determined h n Ask _ b legal x y = absurd x
determined h n (Cancel pid key) Yes Yes legal x y = refl
determined h n (Cancel pid key) Yes No legal x y = absurd (y x)
determined h n (Cancel pid key) Yes _ legal x y = absurd y
determined h n (Cancel pid key) No Yes legal x y = absurd (x y)
determined h n (Cancel pid key) No No legal x y = refl
determined h n (Cancel pid key) No _ legal x y = absurd y
determined h n (Cancel pid key) _ b legal x y = absurd x
determined h n Narrow Done Done legal x y = refl
determined h n Narrow Done _ legal x y = absurd y
determined h n Narrow _ b legal x y = absurd x
determined h n Unregister Done Done legal x y = refl
determined h n Unregister Done _ legal x y = absurd y
determined h n Unregister _ b legal x y = absurd x

-- ---- one more entry

-- a legal history with an entry that may follow is legal
pub IsLegal-push : (h : List Entry) (e : Entry) → IsLegal h → MayFollow h e → IsLegal (h ++ e ∷ [])
IsLegal-push h e legal follows = λ k entry at.
    ⊎_elim
    (λ old.
    let l : k < length h = at_within (λ x. x ≡ entry) h k old in
    let le : k ≤ length h = omega arith in
    let before : take k (h ++ e ∷ []) ≡ take k h = take-append-le k h (e ∷ []) le in
    subst (λ xs. MayFollow xs entry) (sym before) (legal k entry (some_from (slice_get h k) entry old)))
    (λ new.
    let before : take (length h) (h ++ e ∷ []) ≡ h = take-append_seam h (e ∷ []) in
    let before_k : take k (h ++ e ∷ []) ≡ h = subst (λ j. take j (h ++ e ∷ []) ≡ h) (sym new.0) before in
    subst (λ xs. MayFollow xs entry) (sym before_k) (subst (λ x. MayFollow h x) new.1 follows))
    (at_either (λ x. x ≡ entry) h e k (some_and (slice_get (h ++ e ∷ []) k) entry at))

-- the entry of a call with the answer that the call has may follow
pub entry_follows : (h : List Entry) (n : ℕ) (c : RegistryCall) (a : RegistryAnswer) → MayCall h n c → IsAnswer h n c a
    → MayFollow h (entry_of h n c a)
entry_follows h n (Register pid key) Registered may x = record { number = refl; answer = x }
entry_follows h n (Register pid key) (Taken m) may x = record { number = refl; answer = x }
entry_follows h n (Register pid key) _ may x = absurd x
entry_follows h n Start a may x = record { number = may; answer = x }
entry_follows h n Ask a may x = record { number = may; answer = x }
entry_follows h n (Cancel pid key) a may x = record { number = may; answer = x }
entry_follows h n Narrow a may x = record { number = may; answer = x }
entry_follows h n Unregister a may x = record { number = may; answer = x }

-- a live registration has a place in the history
pub live_within : (h : List Entry) (n : ℕ) (pid : ℤ) (key : List ℕ) → IsLiveAs h n pid key → n < length h
live_within h n pid key live = at_within (Registers pid key) h n live.registered

-- in a legal history only numbers of places start a query
pub start_within : (h : List Entry) (k n : ℕ) → IsLegal h → IsCallAt h k n Start → n < length h
start_within h k n legal at =
    let t = the_value (Calls n Start) (slice_get h k) at in
    let live : IsLive (take k h) t.0.number = subst (λ c. IsNumber (take k h) c t.0.number) t.2.1 (legal k t.0 t.1).number in
    let registered = at_from_taken (Registers live.0 live.1) h k t.0.number live.2.registered in
    let within = at_within (Registers live.0 live.1) h t.0.number registered in
    omega (arith, t.2.0)

-- a registration stays live but for its Unregister
pub live_keeps : (h : List Entry) (e : Entry) (n : ℕ) (pid : ℤ) (key : List ℕ) → (Calls n Unregister e → ⊥) → IsLiveAs h n pid key
    → IsLiveAs (h ++ e ∷ []) n pid key
live_keeps h e n pid key stays live = record {
  registered = at_old (Registers pid key) h e n live.registered;
  not_ended = λ k less at. ⊎_elim (λ old. live.not_ended k less old) (λ new. stays new.1) (at_either (Calls n Unregister) h e k at);
}

-- a registration that is live was live, or is the new entry
pub live_was : (h : List Entry) (e : Entry) (n : ℕ) (pid : ℤ) (key : List ℕ) → IsLiveAs (h ++ e ∷ []) n pid key
    → IsLiveAs h n pid key ⊎ ((n ≡ length h) × Registers pid key e)
live_was h e n pid key live =
    ⊎_elim
    (λ old. inl record {
      registered = old;
      not_ended = λ k less at. live.not_ended k less (at_old (Calls n Unregister) h e k at);
    })
    (λ new. inr new)
    (at_either (Registers pid key) h e n live.registered)

pub live_new : (h : List Entry) (e : Entry) (pid : ℤ) (key : List ℕ) → Registers pid key e → IsLiveAs (h ++ e ∷ []) (length h) pid key
live_new h e pid key registers = record {
  registered = at_new (Registers pid key) h e registers;
  not_ended = λ k less at.
      let within : k < length (h ++ e ∷ []) = at_within (Calls (length h) Unregister) (h ++ e ∷ []) k at in
      let len : length (h ++ e ∷ []) ≡ length h + 1 = length-append h (e ∷ []) in
      absurd (omega arith);
}

pub live_ended : (h : List Entry) (e : Entry) (n : ℕ) (pid : ℤ) (key : List ℕ) → n < length h → Calls n Unregister e
    → IsLiveAs (h ++ e ∷ []) n pid key → ⊥
live_ended h e n pid key less ends live =
    live.not_ended (length h) less (at_new (Calls n Unregister) h e ends)

-- ---- starts and cancels

pub last_once : (h : List Entry) (n s t : ℕ) → IsLastStart h n s → IsLastStart h n t → s ≡ t
last_once h n s t first second =
    let no : s < t → ⊥ = λ less. first.last t less second.started in
    let on : t < s → ⊥ = λ less. second.last s less first.started in
    omega (arith, no, on)

pub last_keeps : (h : List Entry) (e : Entry) (n s : ℕ) → (Calls n Start e → ⊥) → IsLastStart h n s → IsLastStart (h ++ e ∷ []) n s
last_keeps h e n s stays start = record {
  started = at_old (Calls n Start) h e s start.started;
  last = λ k less at. ⊎_elim (λ old. start.last k less old) (λ new. stays new.1) (at_either (Calls n Start) h e k at);
}

pub last_new : (h : List Entry) (e : Entry) (n : ℕ) → Calls n Start e → IsLastStart (h ++ e ∷ []) n (length h)
last_new h e n starts = record {
  started = at_new (Calls n Start) h e starts;
  last = λ k less at.
      let within : k < length (h ++ e ∷ []) = at_within (Calls n Start) (h ++ e ∷ []) k at in
      let len : length (h ++ e ∷ []) ≡ length h + 1 = length-append h (e ∷ []) in
      absurd (omega arith);
}

-- ---- who is live after one more entry

-- an answer is the right one exactly where it was given
pub answered_when : (h : List Entry) (n : ℕ) (c d : RegistryCall) (a b : RegistryAnswer) → IsLegal h → IsAnswer h n c a → c ≡ d
    → (a ≡ b) ↔ IsAnswer h n d b
answered_when h n c d a b legal told same =
    let x : IsAnswer h n d a = subst (λ y. IsAnswer h n y a) same told in
    (λ is. subst (λ y. IsAnswer h n d y) is x, λ right. determined h n d a b legal x right)

pub registered_lives : (h : List Entry) (n : ℕ) (c : RegistryCall) → IsAnswer h n c Registered
    → IsLive (h ++ entry_of h n c Registered ∷ []) (length h)
registered_lives h n (Register pid key) x =
    (pid, key, live_new h (record { number = length h; call = Register pid key; answer = Registered }) pid key (refl, refl))
registered_lives h n Start x = absurd x
registered_lives h n Ask x = absurd x
registered_lives h n (Cancel pid key) x = absurd x
registered_lives h n Narrow x = absurd x
registered_lives h n Unregister x = absurd x

-- what is no Unregister of k leaves k live
no_end : (h : List Entry) (n k : ℕ) (c : RegistryCall) (a : RegistryAnswer) → ((c ≡ Unregister) × (n ≡ k) → ⊥)
    → Calls k Unregister (entry_of h n c a) → ⊥
no_end h n k (Register pid key) a other ends = let same : ◌≡◌ {A = RegistryCall} (Register pid key) Unregister = ends.1 in cc (same)
no_end h n k Start a other ends = let same : ◌≡◌ {A = RegistryCall} Start Unregister = ends.1 in cc (same)
no_end h n k Ask a other ends = let same : ◌≡◌ {A = RegistryCall} Ask Unregister = ends.1 in cc (same)
no_end h n k (Cancel pid key) a other ends = let same : ◌≡◌ {A = RegistryCall} (Cancel pid key) Unregister = ends.1 in cc (same)
no_end h n k Narrow a other ends = let same : ◌≡◌ {A = RegistryCall} Narrow Unregister = ends.1 in cc (same)
no_end h n k Unregister a other ends = other (refl, ends.0)

pub stays_live : (h : List Entry) (n k : ℕ) (c : RegistryCall) (a : RegistryAnswer) → ((c ≡ Unregister) × (n ≡ k) → ⊥) → IsLive h k
    → IsLive (h ++ entry_of h n c a ∷ []) k
stays_live h n k c a other live =
    (live.0, live.1, live_keeps h (entry_of h n c a) k live.0 live.1 (no_end h n k c a other) live.2)

-- ---- the last entry

pub last_pushed : (o : Option Entry) (h : List Entry) (e : Entry) → last_or o (h ++ e ∷ []) ≡ Some e
last_pushed o [] e = refl
last_pushed o (x ∷ xs) e = last_pushed (Some x) xs e
