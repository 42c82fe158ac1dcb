-- What one more entry changes in the index.
use Rattle.std.proofs.Common.{◌≡◌, ◌≢◌, ℕ, ◌+◌, ◌<◌, ℤ, List, [], ◌∷◌, ◌++◌, length, Bool, true, false, cond, Option, Some, None, ◌⊎◌, inl, inr, refl, ap, sym, subst, ◌∙◌, arith, length-append}
use Rattle.std.specs.Ordering.{int_cmp}
use Rattle.std.specs.BTreeMap.{BTreeMap, get, is_at}
use Rattle.std.proofs.lemmas.Bool.{false≢true}
use Rattle.std.proofs.lemmas.Bool.Decides.{Decides-int_eq}
use mathlib.Core.Logic.{⊎_elim}
use Rattle.pg_cancel.specs.declared.entries.Entry.{Entry}
use Rattle.pg_cancel.specs.declared.entries.RegistryCall.{RegistryCall}
use Rattle.pg_cancel.specs.declared.entries.RegistryCall.TheVariants.{Start, Cancel, Narrow, Unregister}
use Rattle.pg_cancel.specs.declared.holders.Holder.{Holder}
use Rattle.pg_cancel.specs.declared.holders.Query.{Query}
use Rattle.pg_cancel.specs.declared.holders.Query.TheVariants.{Unstarted, Running, Canceled}
use Rattle.pg_cancel.specs.LegalHistory.{IsRegisteredAt, IsCancelAt, IsLiveAs, IsCanceled, key_after, key_at}
use Rattle.pg_cancel.specs.Index.{IsQuery, canceled, IsEntryAt}
use Rattle.pg_cancel.proofs.Places.{at_within, at_old, at_new, at_either}
use Rattle.pg_cancel.proofs.Keys.{key_stays, key_old, key_seam}
use Rattle.pg_cancel.proofs.Histories.{Registers, Calls, Cancels, registered_once, live_keeps, live_was, last_once, last_keeps, last_new}

-- ---- a query, and what an Ask is told

pub IsCanceled-from_query : (h : List Entry) (n : ℕ) (pid : ℤ) (key : List ℕ) → IsRegisteredAt h n pid key → IsQuery h n pid key Canceled
    → IsCanceled h n
IsCanceled-from_query h n pid key registered q = record {
  start = q.0;
  cancel = q.2;
  last_start = q.1;
  cancel_of_n = (pid, key, registered, q.4);
  after = q.3;
}

pub not_canceled_unstarted : (h : List Entry) (n : ℕ) (pid : ℤ) (key : List ℕ) → IsQuery h n pid key Unstarted → IsCanceled h n → ⊥
not_canceled_unstarted h n pid key q c = q c.start c.last_start.started

pub not_canceled_running : (h : List Entry) (n : ℕ) (pid : ℤ) (key : List ℕ) → IsRegisteredAt h n pid key → IsQuery h n pid key Running
    → IsCanceled h n → ⊥
not_canceled_running h n pid key registered q c =
    let same = registered_once h n c.cancel_of_n.0 pid c.cancel_of_n.1 key c.cancel_of_n.2 registered in
    let start : c.start ≡ q.0 = last_once h n c.start q.0 c.last_start q.1 in
    let at : IsCancelAt h c.cancel pid (key_at h c.cancel n key) =
    subst (λ p. IsCancelAt h c.cancel p (key_at h c.cancel n key)) same.0
    (subst (λ k. IsCancelAt h c.cancel c.cancel_of_n.0 (key_at h c.cancel n k)) same.1 c.cancel_of_n.3) in
    let after : c.start < c.cancel = c.after in
    q.2 c.cancel (omega arith) at

-- ---- one more entry at a query

-- a Cancel that stood at a place stands there, by the key that the registration had there
cancel_old : (h : List Entry) (e : Entry) (k n : ℕ) (pid : ℤ) (key : List ℕ) → IsCancelAt h k pid (key_at h k n key)
    → IsCancelAt (h ++ e ∷ []) k pid (key_at (h ++ e ∷ []) k n key)
cancel_old h e k n pid key at =
    let x = key_at h k n key in
    let within : k < length h = at_within (Cancels pid x) h k at in
    subst (λ y. IsCancelAt (h ++ e ∷ []) k pid y) (sym (key_old h e k n key (omega arith))) (at_old (Cancels pid x) h e k at)

-- one that stands there stood there, or is the new entry
cancel_either : (h : List Entry) (e : Entry) (k n : ℕ) (pid : ℤ) (key : List ℕ) → IsCancelAt (h ++ e ∷ []) k pid (key_at (h ++ e ∷ []) k n key)
    → IsCancelAt h k pid (key_at h k n key) ⊎ Cancels pid (key_after h n key) e
cancel_either h e k n pid key at =
    let x = key_at (h ++ e ∷ []) k n key in
    let within : k < length (h ++ e ∷ []) = at_within (Cancels pid x) (h ++ e ∷ []) k at in
    let len : length (h ++ e ∷ []) ≡ length h + 1 = length-append h (e ∷ []) in
    let stays : x ≡ key_at h k n key = key_old h e k n key (omega arith) in
    ⊎_elim
    (λ old. inl (subst (λ y. IsCancelAt h k pid y) stays old))
    (λ new. inr (subst (λ y. Cancels pid y e) (ap (λ j. key_at (h ++ e ∷ []) j n key) new.0 ∙ key_seam h e n key) new.1))
    (at_either (Cancels pid x) h e k at)

pub query_keeps : (h : List Entry) (e : Entry) (n : ℕ) (pid : ℤ) (key : List ℕ) (q : Query) → (Calls n Start e → ⊥)
    → (Cancels pid (key_after h n key) e → ⊥) → IsQuery h n pid key q → IsQuery (h ++ e ∷ []) n pid key q
query_keeps h e n pid key Unstarted starts cancels x = λ k at.
    ⊎_elim (λ old. x k old) (λ new. starts new.1) (at_either (Calls n Start) h e k at)
query_keeps h e n pid key Running starts cancels x = (
  x.0,
  last_keeps h e n x.0 starts x.1,
  λ k less at. ⊎_elim (λ old. x.2 k less old) (λ new. cancels new) (cancel_either h e k n pid key at),
)
query_keeps h e n pid key Canceled starts cancels x =
    (x.0, last_keeps h e n x.0 starts x.1, x.2, x.3, cancel_old h e x.2 n pid key x.4)

pub query_starts : (h : List Entry) (e : Entry) (n : ℕ) (pid : ℤ) (key : List ℕ) → Calls n Start e → IsQuery (h ++ e ∷ []) n pid key Running
query_starts h e n pid key starts =
    let none : (k : ℕ) → length h < k → IsCancelAt (h ++ e ∷ []) k pid (key_at (h ++ e ∷ []) k n key) → ⊥ = λ k less at.
    let within : k < length (h ++ e ∷ []) = at_within (Cancels pid (key_at (h ++ e ∷ []) k n key)) (h ++ e ∷ []) k at in
    let len : length (h ++ e ∷ []) ≡ length h + 1 = length-append h (e ∷ []) in
    omega arith in
    (length h, last_new h e n starts, none)

-- a Cancel is no Start
cancel_starts_none : (e : Entry) (n : ℕ) (pid : ℤ) (key : List ℕ) → Cancels pid key e → Calls n Start e → ⊥
cancel_starts_none e n pid key cancels starts =
    let same : ◌≡◌ {A = RegistryCall} (Cancel pid key) Start = cc (cancels, starts.1) in cc (same)

pub query_canceled : (h : List Entry) (e : Entry) (n : ℕ) (pid : ℤ) (key : List ℕ) (q : Query) → Cancels pid (key_after h n key) e
    → IsQuery h n pid key q → IsQuery (h ++ e ∷ []) n pid key (canceled q)
query_canceled h e n pid key Unstarted cancels x = λ k at.
    ⊎_elim (λ old. x k old) (λ new. cancel_starts_none e n pid (key_after h n key) cancels new.1) (at_either (Calls n Start) h e k at)
query_canceled h e n pid key Running cancels x =
    let now = key_after h n key in
    let less = at_within (Calls n Start) h x.0 x.1.started in
    let here : IsCancelAt (h ++ e ∷ []) (length h) pid (key_at (h ++ e ∷ []) (length h) n key) =
    subst (λ y. IsCancelAt (h ++ e ∷ []) (length h) pid y) (sym (key_seam h e n key)) (at_new (Cancels pid now) h e cancels) in
    (x.0, last_keeps h e n x.0 (cancel_starts_none e n pid now cancels) x.1, length h, less, here)
query_canceled h e n pid key Canceled cancels x = (
  x.0,
  last_keeps h e n x.0 (cancel_starts_none e n pid (key_after h n key) cancels) x.1,
  x.2,
  x.3,
  cancel_old h e x.2 n pid key x.4,
)

-- ---- one more entry at a pid

-- the entry changes nothing for the live registration of a pid
pub record Quiet (h : List Entry) (e : Entry) (pid : ℤ) : Type 0 where
  pub registers : (key : List ℕ) → Registers pid key e → ⊥
  pub starts : (n : ℕ) (key : List ℕ) → IsLiveAs h n pid key → Calls n Start e → ⊥
  pub ends : (n : ℕ) (key : List ℕ) → IsLiveAs h n pid key → Calls n Unregister e → ⊥
  pub cancels : (n : ℕ) (key : List ℕ) → IsLiveAs h n pid key → Cancels pid (key_after h n key) e → ⊥
  pub narrows : (n : ℕ) (key : List ℕ) → IsLiveAs h n pid key → Calls n Narrow e → ⊥

pub quiet_at : (h : List Entry) (e : Entry) (pid : ℤ) (o : Option Holder) → Quiet h e pid → IsEntryAt h pid o
    → IsEntryAt (h ++ e ∷ []) pid o
quiet_at h e pid None quiet x = λ taken.
    ⊎_elim
    (λ was. x (taken.0, (taken.1.0, was)))
    (λ new. quiet.registers taken.1.0 new.1)
    (live_was h e taken.0 pid taken.1.0 taken.1.1)
quiet_at h e pid (Some holder) quiet x =
    let key = x.registered in record {
      registered = key;
      live = live_keeps h e holder.number pid key (quiet.ends holder.number key x.live) x.live;
      named = x.named ∙ sym (key_stays h e holder.number key (quiet.narrows holder.number key x.live));
      query = query_keeps h e holder.number pid key holder.query (quiet.starts holder.number key x.live)
          (quiet.cancels holder.number key x.live) x.query;
    }

updated_by : (P : ℤ → Option Holder → Type 0) (m n : BTreeMap ℤ Holder) (pid : ℤ) (w : Option Holder) (q : ℤ) (b : Bool)
    → is_at (int_cmp pid) q ≡ b → get int_cmp n q ≡ cond b w (get int_cmp m q) → P pid w → ((q : ℤ) → q ≢ pid → P q (get int_cmp m q))
    → P q (get int_cmp n q)
updated_by P m n pid w q true is changes here others =
    let same : pid ≡ q = (Decides-int_eq pid q).0 is in
    subst (λ o. P q o) (sym changes) (subst (λ p. P p w) same here)
updated_by P m n pid w q false is changes here others =
    let apart : q ≢ pid = λ e. false≢true (sym is ∙ (Decides-int_eq pid q).1 (sym e)) in
    subst (λ o. P q o) (sym changes) (others q apart)

-- a map with one pid changed has what it should at each pid
pub updated : (P : ℤ → Option Holder → Type 0) (m n : BTreeMap ℤ Holder) (pid : ℤ) (w : Option Holder)
    → ((q : ℤ) → get int_cmp n q ≡ cond (is_at (int_cmp pid) q) w (get int_cmp m q)) → P pid w → ((q : ℤ) → q ≢ pid → P q (get int_cmp m q))
    → (q : ℤ) → P q (get int_cmp n q)
updated P m n pid w changes here others q = updated_by P m n pid w q (is_at (int_cmp pid) q) refl (changes q) here others
